-- The value that a dataset is given, and the length of an array.
use Rattle.std.proofs.Common.{◌≡◌, Some, None, Result, Ok, Err, IfOk, length, refl, sym, ap, ◌∙◌}
use Rattle.std.specs.Prelude.{ℤ, pos}
use Rattle.rtio_types.specs.declared.request.Value.{Value}
use Rattle.rtio_types.specs.declared.request.Value.TheVariants as W
use Rattle.kern_syntax.specs.Tree.{Bytes, Arguments, no_more, value_then, text_then}
use Rattle.kern_calls.specs.Types.{Scope}
use Rattle.timeline_sem.specs.Actions.{State, normal, give, go_on}
use Rattle.timeline_sem.specs.Expressions.{array_or_number, array_length, dataset_value, list_in_value, value_of}
use Rattle.meaning_steps.specs.Runnable.{array_argument}

-- it is that of the first value among the arguments
dataset_is : (scope : Scope) (args : Arguments) (n : ℤ) (s : State) → dataset_value scope args n s ≡ array_or_number (array_argument scope args) n s
dataset_is scope no_more n s = refl
dataset_is scope (text_then text rest) n s = dataset_is scope rest n s
dataset_is scope (value_then e rest) n s = refl

-- the array of a name
pub array_given : (scope : Scope) (args : Arguments) (n : ℤ) (s : State) (x : Bytes) → Some x ≡ array_argument scope args → dataset_value scope args n s ≡ normal (value_of s.values x) s
array_given scope args n s x is = dataset_is scope args n s ∙ ap (λ array. array_or_number array n s) (sym is)

pub array_given_if : {E : Type 0} (r : Result Value E) (scope : Scope) (args : Arguments) (n : ℤ) (s : State) (x : Bytes) → Some x ≡ array_argument scope args → IfOk r (λ value. value ≡ value_of s.values x) → IfOk r (λ value. dataset_value scope args n s ≡ normal value s)
array_given_if (Ok value) scope args n s x is held = array_given scope args n s x is ∙ ap (λ v. normal v s) (sym held)
array_given_if (Err end) scope args n s x is held = tt

-- no array
pub number_given : (scope : Scope) (args : Arguments) (n : ℤ) (s : State) → None ≡ array_argument scope args → dataset_value scope args n s ≡ normal (W.Int n) s
number_given scope args n s is = dataset_is scope args n s ∙ ap (λ array. array_or_number array n s) (sym is)

-- the length of the array of a name
pub length_given : (scope : Scope) (args : Arguments) (s : State) (x : Bytes) → Some x ≡ array_argument scope args → array_length scope args s ≡ normal (pos (length (list_in_value (value_of s.values x)))) s
length_given scope args s x is = ap (λ m. go_on m (λ held. give (pos (length (list_in_value held))))) (array_given scope args (pos 0) s x is)

-- of no array
pub no_length : (scope : Scope) (args : Arguments) (s : State) → None ≡ array_argument scope args → array_length scope args s ≡ normal (pos 0) s
no_length scope args s is = ap (λ m. go_on m (λ held. give (pos (length (list_in_value held))))) (number_given scope args (pos 0) s is)
