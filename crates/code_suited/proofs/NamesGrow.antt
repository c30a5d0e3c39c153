-- The names that the verdict finds after a statement are those that the definitions give, and only grow.
use Rattle.std.proofs.Common.{◌≡◌, ℕ, ◌<◌, ◌≤◌, ◌^◌, [], ◌∷◌, ◌++◌, length, Option, Some, None, refl, sym, ◌∙◌, ap, subst, arith, length-append}
use Rattle.std.specs.Prelude.{Bool, true, false, not, ◌&&◌, ◌==◌, nat_le, bytes_eq, is_some, unwrap_or, if◌then◌else◌}
use Rattle.std.proofs.lemmas.Bool.{false≢true}
use Rattle.kern_syntax.specs.Tree.{Bytes}
use Rattle.kern_calls.specs.declared.types.ValueType.{ValueType}
use Rattle.kern_calls.specs.declared.types.ValueType.TheVariants as V
use Rattle.kern_calls.specs.Calls.{look_up}
use Rattle.kern_calls.specs.Types.{Names, with_name}
use Rattle.kern_expression_types.specs.declared.place.Place.{Place}
use Rattle.kern_expression_types.specs.declared.fault.TypeKind.TheVariants as K
use Rattle.kern_expression_types.specs.Before.{Functions, is_taken}
use Rattle.kern_expression_types.specs.Verdicts.{Verdict, well, fault, ◌>>=◌, refuse_if, found_or}
use Rattle.kern_expression_types.specs.Fits.{kept_misfit}
use Rattle.kern_types.specs.Statements.{most_names, kept_verdict, assigned_verdict, array_verdict}
use Rattle.code_forms.specs.Suited.{is_scalar, IsSized, AreSized}
use Rattle.code_suited.proofs.Inverted.{same_found, inverted, not_refused, none_refused, was_there, some_kind}

-- what is known of names stays known
pub record Kept (ns after : Names) : Type 0 where
  pub known : (x : Bytes) (t : ValueType) → look_up ns x ≡ Some t → look_up after x ≡ Some t

pub kept_same : (ns : Names) → Kept ns ns
kept_same ns = record { known = λ x t e. e }

pub kept_then : {a b c : Names} → Kept a b → Kept b c → Kept a c
kept_then f g = record { known = λ x t e. g.known x t (f.known x t e) }

-- there are at most 64 names, and every array among them has from 1 to 512 numbers
abbrev pub AllSmall : Names → Type 0
AllSmall ns = AreSized ns × (length ns ≤ 64)

pub not_too_long : (t : ValueType) (n : ℕ) → IsSized t → t ≡ V.Array n → n < 2 ^ 63
not_too_long t n s e = let sizes : IsSized (V.Array n) = subst IsSized e s in omega (arith, sizes.1)

small_by : (ns : Names) → AreSized ns → (x : Bytes) (n : ℕ) → look_up ns x ≡ Some (V.Array n) → n < 2 ^ 63
small_by [] s x n e = absurd (false≢true (ap is_some e))
small_by (m ∷ ns) s x n e = by_test (bytes_eq x m.0) e (small_by ns s.1 x n)
  where
    by_test : (b : Bool) → (if b then Some m.1 else look_up ns x) ≡ Some (V.Array n) → (look_up ns x ≡ Some (V.Array n) → n < 2 ^ 63) → n < 2 ^ 63
    by_test true e' k = not_too_long m.1 n s.0 (ap (λ o. unwrap_or o m.1) e')
    by_test false e' k = k e'

pub small_found : (ns : Names) → AllSmall ns → (x : Bytes) (n : ℕ) → look_up ns x ≡ Some (V.Array n) → n < 2 ^ 63
small_found ns s x n e = small_by ns s.0 x n e

sized_behind : (ns : Names) (x : Bytes) (t : ValueType) → AreSized ns → IsSized t → AreSized (ns ++ (x, t) ∷ [])
sized_behind [] x t s own = (own, tt)
sized_behind (m ∷ ns) x t s own = (s.0, sized_behind ns x t s.1 own)

small_behind : (ns : Names) (x : Bytes) (t : ValueType) → AllSmall ns → length ns < 64 → IsSized t → AllSmall (ns ++ (x, t) ∷ [])
small_behind ns x t s less own = (sized_behind ns x t s.0 own, omega (arith, less, length-append ns ((x, t) ∷ [])))

pub scalar_small : (t : ValueType) → is_scalar t ≡ true → IsSized t
scalar_small V.Int32 s = tt
scalar_small V.Int64 s = tt
scalar_small V.Bool s = tt
scalar_small (V.Array n) s = absurd (false≢true s)

known_behind : (ns : Names) (x : Bytes) (t : ValueType) (y : Bytes) (u : ValueType) → look_up ns y ≡ Some u → look_up (ns ++ (x, t) ∷ []) y ≡ Some u
known_behind [] x t y u e = absurd (false≢true (ap is_some e))
known_behind (n ∷ ns) x t y u e = by_test (bytes_eq y n.0) e (known_behind ns x t y u)
  where
    by_test : (b : Bool) → (if b then Some n.1 else look_up ns y) ≡ Some u → (look_up ns y ≡ Some u → look_up (ns ++ (x, t) ∷ []) y ≡ Some u) → (if b then Some n.1 else look_up (ns ++ (x, t) ∷ []) y) ≡ Some u
    by_test true e' k = e'
    by_test false e' k = k e'

kept_behind : (ns : Names) (x : Bytes) (t : ValueType) → Kept ns (ns ++ (x, t) ∷ [])
kept_behind ns x t = record { known = known_behind ns x t }

-- a name behind others that lack it is found
found_behind : (ns : Names) (x : Bytes) (t : ValueType) → look_up ns x ≡ None → look_up (ns ++ (x, t) ∷ []) x ≡ Some t
found_behind [] x t e = ap (λ b. if b then Some t else None) ((Rattle.std.proofs.lemmas.Slice.Eq.bytes_eq-Decides x x).1 refl)
found_behind (n ∷ ns) x t e = by_test (bytes_eq x n.0) e (found_behind ns x t)
  where
    by_test : (b : Bool) → (if b then Some n.1 else look_up ns x) ≡ None → (look_up ns x ≡ None → look_up (ns ++ (x, t) ∷ []) x ≡ Some t) → (if b then Some n.1 else look_up (ns ++ (x, t) ∷ []) x) ≡ Some t
    by_test true e' k = absurd (false≢true (sym (ap is_some e')))
    by_test false e' k = k e'

-- what a kept name's type is
pub kept_scalar : (held t : ValueType) → kept_misfit held t ≡ None → is_scalar t ≡ true → is_scalar held ≡ true
kept_scalar V.Int32 t e s = refl
kept_scalar V.Int64 t e s = refl
kept_scalar V.Bool t e s = refl
kept_scalar (V.Array n) V.Int32 e s = absurd (some_kind _ e)
kept_scalar (V.Array n) V.Int64 e s = absurd (some_kind _ e)
kept_scalar (V.Array n) V.Bool e s = absurd (some_kind _ e)
kept_scalar (V.Array n) (V.Array m) e s = absurd (false≢true s)

pub kept_array : (held : ValueType) (m : ℕ) → kept_misfit held (V.Array m) ≡ None → held ≡ V.Array m
kept_array V.Int32 m e = absurd (some_kind _ e)
kept_array V.Int64 m e = absurd (some_kind _ e)
kept_array V.Bool m e = absurd (some_kind _ e)
kept_array (V.Array n) m e = by_test (m == n) refl e
  where
    by_test : (b : Bool) → (m == n) ≡ b → (if b then None else Some K.Mismatch) ≡ None → V.Array n ≡ V.Array m
    by_test true q e' = let same : n ≡ m = grind (arith, q) in ap V.Array same
    by_test false q e' = absurd (some_kind _ e')

pub kept_own : (t : ValueType) → kept_misfit t t ≡ None
kept_own V.Int32 = refl
kept_own V.Int64 = refl
kept_own V.Bool = refl
kept_own (V.Array n) = let e : (n == n) ≡ true = grind arith in ap (λ b. if b then None else Some K.Mismatch) e

-- a name after it is assigned
pub record Assigned (ns : Names) (x : Bytes) (value : Option ValueType) (after : Names) : Type 0 where
  pub type : ValueType
  pub value_is : value ≡ Some type
  pub after_is : after ≡ with_name ns x type
  pub held : ValueType
  pub there : look_up after x ≡ Some held
  pub fits : kept_misfit held type ≡ None
  pub grown : Kept ns after
  pub small : AllSmall ns → IsSized type → AllSmall after

room : (n : ℕ) → nat_le most_names n ≡ false → n < 64
room n e = grind (arith, e)

module _ (functions : Functions) (place : Place) (ns : Names) where
  kept_by : (x : Bytes) (value : Option ValueType) (after : Names) (o : Option ValueType) → look_up ns x ≡ o → kept_verdict place ns x value o ≡ well after → Assigned ns x value after
  kept_by x value after None q e =
      let a = inverted (refuse_if (nat_le most_names (length ns)) place.line K.Size) (λ z. found_or value place.line K.Mismatch >>= (λ t. well (ns ++ (x, t) ∷ []))) after e in
      let b = inverted (found_or value place.line K.Mismatch) (λ t. well (ns ++ (x, t) ∷ [])) after a.2 in
      let t = b.0 in
      let is : ns ++ (x, t) ∷ [] ≡ after = same_found b.2 in
      record {
        type = t;
        value_is = was_there value place.line K.Mismatch t b.1;
        after_is = sym is ∙ sym (ap (λ o. if is_some o then ns else ns ++ (x, t) ∷ []) q);
        held = t;
        there = subst (λ l. look_up l x ≡ Some t) is (found_behind ns x t q);
        fits = kept_own t;
        grown = subst (Kept ns) is (kept_behind ns x t);
        small = λ s own. subst AllSmall is (small_behind ns x t s (room (length ns) (not_refused _ _ _ a.0 a.1)) own);
      }
  kept_by x value after (Some held) q e =
      let a = inverted (found_or value place.line K.Mismatch) (λ t. Rattle.kern_expression_types.specs.Verdicts.refuse_some (kept_misfit held t) place.line >>= (λ z. well ns)) after e in
      let t = a.0 in
      let b = inverted (Rattle.kern_expression_types.specs.Verdicts.refuse_some (kept_misfit held t) place.line) (λ z. well ns) after a.2 in
      let is : ns ≡ after = same_found b.2 in
      record {
        type = t;
        value_is = was_there value place.line K.Mismatch t a.1;
        after_is = sym is ∙ sym (ap (λ o. if is_some o then ns else ns ++ (x, t) ∷ []) q);
        held = held;
        there = subst (λ l. look_up l x ≡ Some held) is q;
        fits = none_refused (kept_misfit held t) place.line b.0 b.1;
        grown = subst (Kept ns) is (kept_same ns);
        small = λ s own. subst AllSmall is s;
      }

  pub assigned : (x : Bytes) (value : Option ValueType) (after : Names) → assigned_verdict functions place ns x value ≡ well after → Assigned ns x value after
  assigned x value after e =
      let a = inverted (refuse_if (is_taken functions x) place.line K.Name) (λ z. kept_verdict place ns x value (look_up ns x)) after e in
      kept_by x value after (look_up ns x) refl a.2

  -- an array has from 1 to 512 numbers
  pub array_assigned : (x : Bytes) (count : ℕ) (after : Names) → array_verdict functions place ns x count ≡ well after → Assigned ns x (Some (V.Array count)) after × IsSized (V.Array count)
  array_assigned x count after e =
      let a = inverted (refuse_if (not (nat_le 1 count && nat_le count 512)) place.line K.Size) (λ z. assigned_verdict functions place ns x (Some (V.Array count))) after e in
      (assigned x (Some (V.Array count)) after a.2, sizes count (not_refused _ _ _ a.0 a.1))
    where
      sizes : (n : ℕ) → not (nat_le 1 n && nat_le n 512) ≡ false → (1 ≤ n) × (n ≤ 512)
      sizes n q = by_test (nat_le 1 n) (nat_le n 512) refl refl q
        where
          by_test : (b c : Bool) → nat_le 1 n ≡ b → nat_le n 512 ≡ c → not (b && c) ≡ false → (1 ≤ n) × (n ≤ 512)
          by_test true true l r q' = let some : 1 ≤ n = grind (arith, l) in let less : n ≤ 512 = grind (arith, r) in (some, less)
          by_test true false l r q' = absurd (false≢true (sym q'))
          by_test false c l r q' = absurd (false≢true (sym q'))
