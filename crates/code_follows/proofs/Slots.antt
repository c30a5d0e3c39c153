-- Where the values of names and the temporary slots lie among the slots.
use Rattle.std.proofs.Common.{◌≡◌, List, [], ◌∷◌, ◌++◌, length, Some, refl, sym, ◌∙◌, ap, subst, arith, append_assoc, length-append}
use Rattle.std.specs.Prelude.{Bool, true, false, ℤ, bytes_eq, unwrap_or, if◌then◌else◌}
use Rattle.std.proofs.lemmas.Bool.Decides.{same_from_decides}
use Rattle.std.proofs.lemmas.Slice.Eq.{bytes_eq-Decides}
use Rattle.rtio_types.specs.declared.request.Value.{Value}
use Rattle.rtio_types.specs.declared.request.Value.TheVariants as W
use Rattle.kern_syntax.specs.Tree.{Bytes}
use Rattle.kern_calls.specs.declared.types.ValueType.{ValueType}
use Rattle.kern_calls.specs.declared.types.ValueType.TheVariants as V
use Rattle.kern_calls.specs.Calls.{look_up}
use Rattle.kern_calls.specs.Types.{Names}
use Rattle.timeline_sem.specs.Expressions.{value_of, with_value}
use Rattle.code_forms.specs.Setting.{size_of, slot_in, slots_of_names}
use Rattle.code_follows.specs.Stands.{HasShape, HasNames, slots_of_value, slots_of}

value_length : (t : ValueType) (v : Value) → HasShape t v → length (slots_of_value v) ≡ size_of t
value_length (V.Array n) (W.List items) h = h.0
value_length (V.Array n) (W.Int v) h = absurd h
value_length V.Int32 (W.Int v) h = refl
value_length V.Int64 (W.Int v) h = refl
value_length V.Bool (W.Int v) h = refl
value_length V.Int32 (W.List items) h = absurd h
value_length V.Int64 (W.List items) h = absurd h
value_length V.Bool (W.List items) h = absurd h

pub slots_length : (names : Names) (values : List (Bytes × Value)) → HasNames names values → length (slots_of values) ≡ slots_of_names names
slots_length [] [] h = refl
slots_length (name ∷ names) (entry ∷ entries) h =
    let a = length-append (slots_of_value entry.1) (slots_of entries) in
    let b = value_length name.1 entry.1 h.1 in
    let c = slots_length names entries h.2 in
    omega (arith, a, b, c)
slots_length [] (entry ∷ entries) h = absurd h
slots_length (name ∷ names) [] h = absurd h

equal_turned : (a b : Bytes) → bytes_eq a b ≡ bytes_eq b a
equal_turned a b =
    let there = bytes_eq-Decides b a in
    same_from_decides (bytes_eq a b) (bytes_eq b a) (bytes_eq-Decides a b) (λ t. sym (there.0 t), λ e. there.1 (sym e))

-- the slots before and behind those of a name
pub record Splits (names : Names) (values : List (Bytes × Value)) (x : Bytes) (t : ValueType) : Type 0 where
  pub before : List ℤ
  pub behind : List ℤ
  pub long : length before ≡ slot_in names x
  pub has : slots_of values ≡ before ++ (slots_of_value (value_of values x) ++ behind)
  pub new : (v : Value) → slots_of (with_value values x v) ≡ before ++ (slots_of_value v ++ behind)
  pub shape : HasShape t (value_of values x)
  pub kept : (v : Value) → HasShape t v → HasNames names (with_value values x v)

splits_by : (name : Bytes × ValueType) (names : Names) (entry : Bytes × Value) (entries : List (Bytes × Value)) (x : Bytes) (t : ValueType) (b : Bool) → bytes_eq x name.0 ≡ b → bytes_eq entry.0 x ≡ b → entry.0 ≡ name.0 → HasShape name.1 entry.1 → HasNames names entries → (if b then Some name.1 else look_up names x) ≡ Some t → (look_up names x ≡ Some t → Splits names entries x t) → Splits (name ∷ names) (entry ∷ entries) x t
splits_by name names entry entries x t true e f same shape rest found k =
    let here : name.1 ≡ t = ap (λ o. unwrap_or o t) found in
    record {
      before = [];
      behind = slots_of entries;
      long = rw e refl;
      has = rw f refl;
      new = λ v. rw f refl;
      shape = rw f (subst (λ u. HasShape u entry.1) here shape);
      kept = λ v h. rw f (same, subst (λ u. HasShape u v) (sym here) h, rest);
    }
splits_by name names entry entries x t false e f same shape rest found k =
    let r = k found in
    let own = slots_of_value entry.1 in
    record {
      before = own ++ r.before;
      behind = r.behind;
      long = rw e (length-append own r.before ∙ omega (arith, value_length name.1 entry.1 shape, r.long));
      has = rw f (ap (λ l. own ++ l) r.has ∙ sym (append_assoc own r.before _));
      new = λ v. rw f (ap (λ l. own ++ l) (r.new v) ∙ sym (append_assoc own r.before _));
      shape = rw f r.shape;
      kept = λ v h. rw f (same, shape, r.kept v h);
    }

pub splits : (names : Names) (values : List (Bytes × Value)) (x : Bytes) (t : ValueType) → HasNames names values → look_up names x ≡ Some t → Splits names values x t
splits (name ∷ names) (entry ∷ entries) x t h found =
    splits_by name names entry entries x t (bytes_eq x name.0) refl (equal_turned entry.0 x ∙ ap (λ y. bytes_eq x y) h.0) h.0 h.1 h.2 found (splits names entries x t h.2)
splits [] [] x t h found = absurd (grind (arith, found))
splits [] (entry ∷ entries) x t h found = absurd h
splits (name ∷ names) [] x t h found = absurd h
