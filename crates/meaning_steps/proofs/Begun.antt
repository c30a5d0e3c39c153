-- The values of names when a function begins, name by name.
use Rattle.std.proofs.Common.{◌≡◌, ℕ, suc, ◌+◌, ◌<◌, List, [], ◌∷◌, ◌++◌, Some, drop, length, refl, sym, ap, ◌∙◌, add-one, drop-cons, append_assoc}
use Rattle.std.specs.Prelude.{ℤ, slice_get}
use Rattle.std.proofs.lemmas.Option.{get_or_from_slice_get, slice_get_within}
use Rattle.rtio_types.specs.declared.request.Value.{Value}
use Rattle.kern_syntax.specs.Tree.{Bytes}
use Rattle.kern_calls.specs.declared.types.ValueType.{ValueType}
use Rattle.kern_calls.specs.Types.{Names}
use Rattle.timeline_sem.specs.Programs.{initial_values}
use Rattle.meaning_steps.specs.Entering.{first_value, later_args}

-- the name at a place comes before the others from there on
pub name_first : (names : Names) (place : ℕ) (known : Bytes × ValueType) → slice_get names place ≡ Some known → drop place names ≡ known ∷ drop (place + 1) names
name_first names place known at =
    let within : place < length names = slice_get_within names place known at in
    rw (add-one place, drop-cons names place known within) (ap (λ y. y ∷ drop (suc place) names) (get_or_from_slice_get names place known known at))

-- the next name takes the next argument, if there is one
next_value : (x : Bytes) (t : ValueType) (rest : Names) (args : List ℤ) → initial_values ((x, t) ∷ rest) args ≡ (x, first_value t args) ∷ initial_values rest (later_args args)
next_value x t rest [] = refl
next_value x t rest (arg ∷ args) = refl

-- one name more has its value
pub value_more : (names : Names) (args left : List ℤ) (place : ℕ) (values after : List (Bytes × Value)) (x : Bytes) (t : ValueType)
    → slice_get names place ≡ Some (x, t)
    → initial_values names args ≡ values ++ initial_values (drop place names) left
    → after ≡ values ++ (x, first_value t left) ∷ []
    → initial_values names args ≡ after ++ initial_values (drop (place + 1) names) (later_args left)
value_more names args left place values after x t at before put =
    let rest = initial_values (drop (place + 1) names) (later_args left) in
    before
    ∙ ap (λ l. values ++ initial_values l left) (name_first names place (x, t) at)
    ∙ ap (λ l. values ++ l) (next_value x t (drop (place + 1) names) left)
    ∙ sym (append_assoc values ((x, first_value t left) ∷ []) rest)
    ∙ ap (λ l. l ++ rest) (sym put)
