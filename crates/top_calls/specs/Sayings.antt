-- What a program says of its words and of the bytes of its source.
use Rattle.std.specs.Prelude.{◌≡◌, ℕ, ◌⊎◌, IsFalse, IsTrue, List, Option, Some, None, Vec, Result, Err, MatchResult}
use Rattle.std.specs.declared.alloc.Global.{Global}
use Rattle.top_calls.specs.declared.answer.Answer.{Answer}
use Rattle.top_calls.specs.declared.answer.Answer.TheVariants.{Due, Refused, Bad}
use Rattle.top_calls.specs.declared.stop.Stop.{Stop}
use Rattle.top_calls.specs.declared.stop.Stop.TheVariants.{Usage, ReadFault, TooLong, Memory}
use Rattle.top_calls.specs.Commands.{Command, Duty, Gets, Origin, Program, TakesFew, TakesTooMany}
use Rattle.top_calls.specs.Statuses.{status_of}
use Rattle.top_calls.specs.Streams.{HasFailed, IsKept, IsSteady, Stream}

-- an answer is what is due to bytes that aren't refused, or the line that refuses bytes that aren't taken
abbrev pub IsAnswerTo : Duty → (text : List ℕ) → Answer → Type 0
IsAnswerTo duty text (Due bytes finish) =
    duty.IsDue text bytes.items (status_of finish) × ((told : List ℕ) → ¬ duty.IsRefused text told)
IsAnswerTo duty text (Refused line) = IsTrue duty.takes_text × duty.IsRefused text line.items × ¬ duty.IsTaken text
IsAnswerTo duty text (Bad line) = IsFalse duty.takes_text × duty.IsRefused text line.items × ¬ duty.IsTaken text

-- why the bytes of a command weren't got or not answered, and what was taken of its source till then
abbrev pub IsStop : {S : Type 0} → Origin → Stream S → Stop → Type 0
IsStop origin source Usage = ⊥
IsStop origin source ReadFault = TakesFew origin source × HasFailed source
IsStop origin source TooLong = TakesTooMany origin source × IsSteady source
IsStop origin source Memory = TakesFew origin source × IsSteady source

-- a command got its bytes, or why it didn't
abbrev pub IsGot : {S : Type 0} → Origin → Stream S → Result (Vec ℕ Global) Stop → Type 0
IsGot origin source result =
    MatchResult result (λ bytes. Gets origin source bytes.items × IsSteady source) (λ stop. IsStop origin source stop)

-- a command got its bytes, and this answers them
pub record IsAnswered {S : Type 0} (command : Command) (source : Stream S) (answer : Answer) : Type 0 where
  pub text : List ℕ
  pub gets : Gets command.origin source text
  pub steady : IsSteady source
  pub right : IsAnswerTo command.duty text answer

-- what is said under a command
abbrev pub IsSaidUnder : {S : Type 0} → Command → Stream S → Result Answer Stop → Type 0
IsSaidUnder command source said =
    MatchResult said (λ answer. IsAnswered command source answer) (λ stop. IsStop command.origin source stop)

-- what is said of words by what they ask: where they ask nothing, nothing is read
pub data IsSaid {Ask S : Type 0} (program : Program Ask) (asked : Option Ask) (source : Stream S)
    (said : Result Answer Stop) : Type 0 where
  of_none : asked ≡ None → (said ≡ Err Usage) ⊎ ((said ≡ Err Memory) × IsTrue program.takes_memory) → IsKept source
      → IsSaid program asked source said
  of_one : (ask : Ask) → asked ≡ Some ask → IsSaidUnder (program.command_of ask) source said
      → IsSaid program asked source said
