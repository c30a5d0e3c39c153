-- The values of names when a function begins, name by name.
use Rattle.std.proofs.Common.{◌≡◌, ℕ, zero, suc, ◌+◌, List, [], ◌∷◌, ◌++◌, Option, Some, drop, refl, sym, ap, ◌∙◌, add-one, append_assoc, if◌then◌else◌}
use Rattle.std.specs.Prelude.{slice_get, bytes_eq}
use Rattle.kern_syntax.specs.Tree.{Bytes}
use Rattle.kern_calls.specs.Calls.{look_up}
use Rattle.kern_calls.specs.declared.types.ValueType.{ValueType}
use Rattle.kern_calls.specs.Types.{Names}
use Rattle.meaning_steps.proofs.Begun.{name_first}
use Rattle.slack_meaning.specs.declared.span.Span.{Span}
use Rattle.slack_meaning.specs.Actions.{Held}
use Rattle.slack_meaning.specs.Programs.{initial_values}
use Rattle.slack_steps.specs.Entering.{first_value}

-- the name at a place takes the argument at that place, if there is one
value_at : (x : Bytes) (t : ValueType) (rest : Names) (args : List Span) (place : ℕ) → initial_values ((x, t) ∷ rest) (drop place args) ≡ (x, first_value t (slice_get args place)) ∷ initial_values rest (drop (suc place) args)
value_at x t rest [] zero = refl
value_at x t rest [] (suc place) = refl
value_at x t rest (arg ∷ args) zero = refl
value_at x t rest (arg ∷ args) (suc place) = value_at x t rest args place

-- one name more has its value
pub value_more : (names : Names) (args : List Span) (place : ℕ) (values after : List (Bytes × Held)) (x : Bytes) (t : ValueType) (arg : Option Span)
    → slice_get names place ≡ Some (x, t)
    → initial_values names args ≡ values ++ initial_values (drop place names) (drop place args)
    → arg ≡ slice_get args place
    → after ≡ values ++ (x, first_value t arg) ∷ []
    → initial_values names args ≡ after ++ initial_values (drop (place + 1) names) (drop (place + 1) args)
value_more names args place values after x t arg at before is put =
    let rest = initial_values (drop (place + 1) names) (drop (place + 1) args) in
    before
    ∙ ap (λ l. values ++ initial_values l (drop place args)) (name_first names place (x, t) at)
    ∙ ap (λ l. values ++ l) (value_at x t (drop (place + 1) names) args place)
    ∙ ap (λ n. values ++ (x, first_value t (slice_get args place)) ∷ initial_values (drop (place + 1) names) (drop n args)) (sym (add-one place))
    ∙ sym (append_assoc values ((x, first_value t (slice_get args place)) ∷ []) rest)
    ∙ ap (λ a. (values ++ (x, first_value t a) ∷ []) ++ rest) (sym is)
    ∙ ap (λ l. l ++ rest) (sym put)

-- what a name stands for among the names from a place on
pub looked_up : (names : Names) (place : ℕ) (x : Bytes) (t : ValueType) (name : Bytes) (whole : Option ValueType) → slice_get names place ≡ Some (x, t) → whole ≡ look_up (drop place names) name → whole ≡ (if bytes_eq name x then Some t else look_up (drop (place + 1) names) name)
looked_up names place x t name whole at so = so ∙ ap (λ l. look_up l name) (name_first names place (x, t) at)
