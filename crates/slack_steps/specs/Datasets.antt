-- Whether a dataset is given numbers alone.
use Rattle.std.specs.Prelude.{Bool}
use Rattle.kern_syntax.specs.Tree.{Arguments}
use Rattle.kern_calls.specs.Types.{Scope}
use Rattle.slack_meaning.specs.declared.span.Span.{Span}
use Rattle.slack_meaning.specs.Actions.{Action, give, ◌>>=◌}
use Rattle.slack_meaning.specs.Expressions.{are_numbers, dataset_value}

-- no span is among what a dataset is given: an array, or else one value
abbrev pub gives_numbers : Scope → Arguments → Span → Action Bool
gives_numbers scope args span = do
  new ← dataset_value scope args span
  give (are_numbers new)
