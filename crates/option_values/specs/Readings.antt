-- How what is read answers to what a text says.
use Rattle.std.specs.Prelude.{◌≡◌, Option, Some, None, Result, MatchResult}
use Rattle.option_values.specs.declared.end.ValueEnd.{ValueEnd}
use Rattle.option_values.specs.declared.end.ValueEnd.TheVariants.{Refused}

-- what was read is what is said, and only where nothing is said it is refused; for want of memory any text may fail
abbrev pub Reads : {X : Type 0} → Option X → Result X ValueEnd → Type 0
Reads said result = MatchResult result (λ x. said ≡ Some x) (λ end. end ≡ Refused → said ≡ None)
