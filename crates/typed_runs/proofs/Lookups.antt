-- The value of a name has the name's type, and a new value of that type may take its place.
use Rattle.std.proofs.Common.{◌≡◌, List, [], ◌∷◌, Some, sym, ◌∙◌, ap, subst, arith}
use Rattle.std.specs.Prelude.{Bool, true, false, bytes_eq, unwrap_or, if◌then◌else◌}
use Rattle.std.proofs.lemmas.Bool.Decides.{same_from_decides}
use Rattle.std.proofs.lemmas.Slice.Eq.{bytes_eq-Decides}
use Rattle.rtio_types.specs.declared.request.Value.{Value}
use Rattle.kern_syntax.specs.Tree.{Bytes}
use Rattle.kern_calls.specs.declared.types.ValueType.{ValueType}
use Rattle.kern_calls.specs.Calls.{look_up}
use Rattle.kern_calls.specs.Types.{Names}
use Rattle.timeline_sem.specs.Expressions.{value_of, with_value}
use Rattle.typed_runs.specs.Values.{IsValueOf, HaveValues}

-- whether two names are equal, from either side
pub equal_turned : (a b : Bytes) → bytes_eq a b ≡ bytes_eq b a
equal_turned a b =
    let there = bytes_eq-Decides b a in
    same_from_decides (bytes_eq a b) (bytes_eq b a) (bytes_eq-Decides a b) (λ t. sym (there.0 t), λ e. there.1 (sym e))

-- what holds of the values for a name of a type: its value has this type, and a new one of the type may take its place
pub record Holds (names : Names) (values : List (Bytes × Value)) (x : Bytes) (t : ValueType) : Type 0 where
  pub typed : IsValueOf t (value_of values x)
  pub kept : (v : Value) → IsValueOf t v → HaveValues names (with_value values x v)

holds_by : (name : Bytes × ValueType) (names : Names) (entry : Bytes × Value) (entries : List (Bytes × Value))
    (x : Bytes) (t : ValueType) (b : Bool) → bytes_eq entry.0 x ≡ b → entry.0 ≡ name.0 → IsValueOf name.1 entry.1 → HaveValues names entries
    → (if b then Some name.1 else look_up names x) ≡ Some t → (look_up names x ≡ Some t → Holds names entries x t)
    → Holds (name ∷ names) (entry ∷ entries) x t
holds_by name names entry entries x t true e same own rest found k =
    let here : name.1 ≡ t = ap (λ o. unwrap_or o t) found in
    record {
      typed = rw e (subst (λ u. IsValueOf u entry.1) here own);
      kept = λ v h. rw e (same, subst (λ u. IsValueOf u v) (sym here) h, rest);
    }
holds_by name names entry entries x t false e same own rest found k =
    let r = k found in
    record {
      typed = rw e r.typed;
      kept = λ v h. rw e (same, own, r.kept v h);
    }

-- of values of the names' types that holds, for each name
pub holds : (names : Names) (values : List (Bytes × Value)) (x : Bytes) (t : ValueType) → HaveValues names values
    → look_up names x ≡ Some t → Holds names values x t
holds (name ∷ names) (entry ∷ entries) x t h found =
    let test : bytes_eq entry.0 x ≡ bytes_eq x name.0 = equal_turned entry.0 x ∙ ap (λ y. bytes_eq x y) h.0 in
    holds_by name names entry entries x t (bytes_eq x name.0) test h.0 h.1 h.2 found (holds names entries x t h.2)
holds [] [] x t h found = absurd (grind (arith, found))
holds [] (entry ∷ entries) x t h found = absurd h
holds (name ∷ names) [] x t h found = absurd h
