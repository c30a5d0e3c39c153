-- The statuses of the programs, and the lines that stand in place of what is due.
use Rattle.std.specs.Prelude.{ℕ, List, Bool, true, false, codes}
use Rattle.top_calls.specs.declared.finish.Finish.{Finish}
use Rattle.top_calls.specs.declared.finish.Finish.TheVariants.{Whole, Raised, Unfinished}
use Rattle.top_calls.specs.declared.stop.Stop.{Stop}
use Rattle.top_calls.specs.declared.stop.Stop.TheVariants.{Usage, ReadFault, TooLong, Memory}

-- of what is due
abbrev pub status_of : Finish → ℕ
status_of Whole = 0
status_of Raised = 6
status_of Unfinished = 7

-- of a refusal: of a text, or of other bytes
abbrev pub refusal_status : (text : Bool) → ℕ
refusal_status true = 1
refusal_status false = 9

-- where there is no answer
abbrev pub stop_status : Stop → ℕ
stop_status Usage = 2
stop_status ReadFault = 3
stop_status TooLong = 8
stop_status Memory = 5

-- the line for want of memory
abbrev pub memory_line : List ℕ
memory_line = codes "memory\n"

-- the line where there is no answer; each program has its own for words that it doesn't accept
abbrev pub stop_line : (usage : List ℕ) → Stop → List ℕ
stop_line usage Usage = usage
stop_line usage ReadFault = codes "read fault\n"
stop_line usage TooLong = codes "too long\n"
stop_line usage Memory = memory_line
