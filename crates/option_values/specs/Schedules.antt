-- Schedules in words.
use Rattle.std.specs.Bool.{then_some}
use Rattle.std.specs.Prelude.{ℕ, List, map, Option, Some, None, option_map, bytes_eq, codes, if◌then◌else◌}
use Rattle.run_schedule.specs.Schedules.{ScheduleState, Lockstep, Letters, Mix, is_word, letter_step}
use Rattle.limits.specs.Limits.{most_number}
use Rattle.option_values.specs.Parts.{at_colon}
use Rattle.option_values.specs.Numbers.{number_in}

-- `letters:` and a word, or `mix:` and a number
abbrev pub schedule_by : List ℕ → List ℕ → Option ScheduleState
schedule_by kind text =
    if bytes_eq kind (codes "letters") then then_some (is_word text) (Letters (map letter_step text))
    else if bytes_eq kind (codes "mix") then option_map (λ x. Mix x 0) (number_in 0 most_number text)
    else None

-- `lockstep`, or one of the two
abbrev pub schedule_of : List ℕ → Option ScheduleState
schedule_of text = if bytes_eq text (codes "lockstep") then Some Lockstep else at_colon schedule_by text
