-- What a dataset is given, and the length of an array.
use Rattle.std.proofs.Common.{◌≡◌, Bool, List, Some, None, length, refl, sym, ap, ◌∙◌}
use Rattle.std.specs.Prelude.{pos}
use Rattle.kern_syntax.specs.Tree.{Bytes, Arguments, no_more, value_then, text_then}
use Rattle.kern_calls.specs.declared.calls.Builtin.TheVariants as B
use Rattle.kern_calls.specs.Types.{Scope}
use Rattle.meaning_steps.specs.Runnable.{array_argument}
use Rattle.slack_meaning.specs.declared.span.Span.{Span}
use Rattle.slack_meaning.specs.Spans.{exactly, is_number}
use Rattle.slack_meaning.specs.Actions.{Held, number, State, Completion, normal, early, give, go_on}
use Rattle.slack_meaning.specs.Expressions.{are_numbers, array_length, array_or_value, dataset_value, held_by, perform_builtin, set_if, spans_in}
use Rattle.slack_meaning.specs.Timeline.{first_of_list, no_value}
use Rattle.slack_steps.specs.Datasets.{gives_numbers}

-- it is that of the first value among the arguments
dataset_is : (scope : Scope) (args : Arguments) (span : Span) (s : State) → dataset_value scope args span s ≡ array_or_value (array_argument scope args) span s
dataset_is scope no_more span s = refl
dataset_is scope (text_then text rest) span s = dataset_is scope rest span s
dataset_is scope (value_then e rest) span s = refl

-- the array of a name
array_given : (scope : Scope) (args : Arguments) (span : Span) (s : State) (x : Bytes) → Some x ≡ array_argument scope args → dataset_value scope args span s ≡ normal (held_by s.values x) s
array_given scope args span s x is = dataset_is scope args span s ∙ ap (λ array. array_or_value array span s) (sym is)

-- no array
value_given : (scope : Scope) (args : Arguments) (span : Span) (s : State) → None ≡ array_argument scope args → dataset_value scope args span s ≡ normal (number span) s
value_given scope args span s is = dataset_is scope args span s ∙ ap (λ array. array_or_value array span s) (sym is)

-- whether numbers alone are given
pub array_gives_numbers : (scope : Scope) (args : Arguments) (span : Span) (s : State) (x : Bytes) → Some x ≡ array_argument scope args → gives_numbers scope args span s ≡ normal (are_numbers (held_by s.values x)) s
array_gives_numbers scope args span s x is = ap (λ m. go_on m (λ held. give (are_numbers held))) (array_given scope args span s x is)

pub value_gives_numbers : (scope : Scope) (args : Arguments) (span : Span) (s : State) → None ≡ array_argument scope args → gives_numbers scope args span s ≡ normal (is_number span) s
value_gives_numbers scope args span s is = ap (λ m. go_on m (λ held. give (are_numbers held))) (value_given scope args span s is)

-- a dataset is set where numbers alone are given
pub set_if_given : (scope : Scope) (args : Arguments) (spans : List Span) (b : Bool) (s : State) → gives_numbers scope args (first_of_list spans) s ≡ normal b s → perform_builtin scope B.SetDataset args spans s ≡ no_value (set_if b) s
set_if_given scope args spans b s is = by (dataset_value scope args (first_of_list spans) s) is
  where
    by : (m : Completion Held) → go_on m (λ held. give (are_numbers held)) ≡ normal b s → go_on m (λ held. no_value (set_if (are_numbers held))) ≡ no_value (set_if b) s
    by (normal held left) is =
        let same : are_numbers held ≡ b = cc in
        let there : left ≡ s = cc in
        λ i. no_value (set_if (same i)) (there i)
    by (early reason left) is = absurd (cc)

-- the length of the array of a name
pub length_given : (scope : Scope) (args : Arguments) (s : State) (x : Bytes) → Some x ≡ array_argument scope args → array_length scope args s ≡ normal (exactly (pos (length (spans_in (held_by s.values x))))) s
length_given scope args s x is = ap (λ m. go_on m (λ held. give (exactly (pos (length (spans_in held)))))) (array_given scope args (exactly (pos 0)) s x is)

-- of no array
pub no_length : (scope : Scope) (args : Arguments) (s : State) → None ≡ array_argument scope args → array_length scope args s ≡ normal (exactly (pos 0)) s
no_length scope args s is = ap (λ m. go_on m (λ held. give (exactly (pos (length (spans_in held)))))) (value_given scope args (exactly (pos 0)) s is)
