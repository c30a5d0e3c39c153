-- What a top call promises: a whole program as a function of its words, its source and its sinks.
use Rattle.std.specs.Prelude.{◌≡◌, ℕ, ◌<◌, ◌⊎◌, List, length, Option, Some, Result}
use Rattle.top_calls.specs.declared.answer.Answer.{Answer}
use Rattle.top_calls.specs.declared.stop.Stop.{Stop}
use Rattle.top_calls.specs.Commands.{Command, Duty, IsGiven, Program, Reads, TakesTooMany}
use Rattle.top_calls.specs.Sayings.{IsSaid}
use Rattle.top_calls.specs.Statuses.{refusal_status}
use Rattle.top_calls.specs.Streams.{HasFailed, HasGot, Stream}
use Rattle.top_calls.specs.Tellings.{IsTold}

-- no fault came of the source nor of the sinks
pub record NoFaultCame {S K E : Type 0} (source : Stream S) (out : Stream K) (err : Stream E) : Type 0 where
  pub source_well : HasFailed source → ⊥
  pub out_well : HasFailed out → ⊥
  pub err_well : HasFailed err → ⊥

-- out has got what is due to the bytes
pub record GivesDue {K : Type 0} (duty : Duty) (text : List ℕ) (out : Stream K) (status : ℕ) : Type 0 where
  pub written : List ℕ
  pub due : duty.IsDue text written status
  pub got : HasGot out written

-- nothing but want of memory keeps bytes from what a command owes them
pub record IsComplete {S K E : Type 0} (command : Command) (source : Stream S) (out : Stream K) (err : Stream E)
    (status : ℕ) : Type 0 where
  -- where too many were taken of a source that tells its bytes, no other status comes
  pub too_long_only : (left : List ℕ) → source.told source.before ≡ Some left → TakesTooMany command.origin source
      → (status ≡ 8) ⊎ (status ≡ 4)
  -- more than the command takes are answered so where no fault comes
  pub too_long_complete : (most : ℕ) (left : List ℕ) → command.origin ≡ Reads most
      → source.told source.before ≡ Some left → most < length left
      → NoFaultCame source out err → (status ≡ 8) ⊎ (status ≡ 5)
  -- those that it takes get what is due to them
  pub complete : (text : List ℕ) → IsGiven command.origin source text → command.duty.IsTaken text
      → NoFaultCame source out err → GivesDue command.duty text out status ⊎ (status ≡ 5)
  -- those that it refuses are refused
  pub refused_only : (text told : List ℕ) → IsGiven command.origin source text → command.duty.IsRefused text told
      → NoFaultCame source out err → (status ≡ refusal_status command.duty.takes_text) ⊎ (status ≡ 5)

-- A program answers its words: it says what is right by what they ask and by the bytes of its source, and that is told.
-- Under a command it leaves no bytes without what it owes them
pub record AnswersWords {Ask S K E : Type 0} (program : Program Ask) (asked : Option Ask) (source : Stream S)
    (out : Stream K) (err : Stream E) (status : ℕ) : Type 0 where
  pub said : Result Answer Stop
  pub is_said : IsSaid program asked source said
  pub is_told : IsTold program.usage said out err status
  pub is_complete : (ask : Ask) → asked ≡ Some ask → IsComplete (program.command_of ask) source out err status
