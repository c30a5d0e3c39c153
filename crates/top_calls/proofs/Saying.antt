-- What is said of the bytes that a command got.
use Rattle.std.proofs.Common.{◌≡◌, ℕ, [], inr, refl, ap, subst, sym, arith}
use Rattle.std.specs.Prelude.{Err, IsErrAnd, None, Ok, Option, Result, Some, Vec, true}
use Rattle.std.specs.declared.alloc.Global.{Global}
use Rattle.std.specs.Io.KnownBytes.{Consumes}
use Rattle.std.proofs.KnownBytes.{Consumes-nil}
use Rattle.top_calls.specs.declared.answer.Answer.{Answer}
use Rattle.top_calls.specs.declared.stop.Stop.{Stop}
use Rattle.top_calls.specs.declared.stop.Stop.TheVariants.{Memory}
use Rattle.top_calls.specs.Commands.{Command, Has, Origin, Program, Reads, TakesFew}
use Rattle.top_calls.specs.Sayings.{IsAnswerTo, IsGot, IsSaid, IsSaidUnder, IsStop, of_none, of_one}
use Rattle.top_calls.specs.Streams.{IsKept, Stream}
use Rattle.top_calls.proofs.Sources.{got-few}

-- the bytes that were got are answered
pub answered : {S : Type 0} (command : Command) (source : Stream S) (bytes : Vec ℕ Global) (answer : Answer) → IsGot command.origin source (Ok bytes) → IsAnswerTo command.duty bytes.items answer
    → IsSaidUnder command source (Ok answer)
answered command source bytes answer got right = record { text = bytes.items; gets = got.0; steady = got.1; right = right }

-- they weren't got, and why is passed on
pub passed-on : {S : Type 0} (command : Command) (source : Stream S) (said : Result Answer Stop) (stop : Stop) → IsErrAnd said (λ x. x ≡ stop) → IsStop command.origin source stop
    → IsSaidUnder command source said
passed-on command source (Ok answer) stop is why = absurd is
passed-on command source (Err x) stop is why = subst (λ (y : Stop). IsStop command.origin source y) (sym is) why

-- there is no memory for an answer
pub unanswered : {S : Type 0} (command : Command) (source : Stream S) (bytes : Vec ℕ Global) (said : Result Answer Stop) → IsErrAnd said (λ x. x ≡ Memory) → IsGot command.origin source (Ok bytes)
    → IsSaidUnder command source said
unanswered command source bytes said is got = passed-on command source said Memory is (got-few command.origin source bytes.items got.0, got.1)

-- a source that isn't read gives nothing
none-taken : {S : Type 0} (origin : Origin) (source : Stream S) → IsKept source → TakesFew origin source
none-taken (Reads most) source kept =
    ([], subst (λ x. Consumes (source.told source.before) (source.told x) []) (sym kept) (Consumes-nil (source.told source.before)), omega arith)
none-taken (Has own) source kept = kept

-- there is no memory for the words
pub words-unread : {Ask S : Type 0} (program : Program Ask) (asked : Option Ask) (source : Stream S) → program.takes_memory ≡ true → IsKept source → IsSaid program asked source (Err Memory)
words-unread program None source takes kept = of_none refl (inr (refl, takes)) kept
words-unread program (Some ask) source takes kept =
    of_one ask refl (none-taken (program.command_of ask).origin source kept, ap source.faults kept)
