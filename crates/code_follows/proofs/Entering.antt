-- The slots with which a function begins are those of its names' first values.
use Rattle.std.proofs.Common.{◌≡◌, ℕ, zero, suc, ◌+◌, ◌-◌, ◌≤◌, List, [], ◌∷◌, ◌++◌, length, refl, sym, ◌∙◌, ap, arith, append_assoc}
use Rattle.std.specs.Prelude.{ℤ, pos, replicate}
use Rattle.kern_calls.specs.declared.types.ValueType.{ValueType}
use Rattle.kern_calls.specs.declared.types.ValueType.TheVariants as V
use Rattle.kern_calls.specs.Types.{Names}
use Rattle.timeline_sem.specs.Programs.{initial_value, initial_values}
use Rattle.core_isa.specs.declared.code.CodeFunction.{CodeFunction}
use Rattle.code_forms.specs.Setting.{size_of, slots_of_names}
use Rattle.code_follows.specs.Stands.{HasShape, HasNames, AllFit64, Fits64, slots_of_value, slots_of}
use Rattle.code_follows.proofs.Variables.{IsScalar, scalar_shape}
use Rattle.code_follows.specs.Functions.{Enters}

-- the first names are of numbers, as many as there are arguments, and these fit
abbrev pub TakesFirst : Names → List ℤ → Type 0
TakesFirst names [] = Unit {0}
TakesFirst (name ∷ names) (a ∷ args) = IsScalar name.1 × Fits64 a × TakesFirst names args
TakesFirst [] (a ∷ args) = ⊥

zeros : (n m : ℕ) → replicate n (pos 0) ++ replicate m (pos 0) ≡ replicate (n + m) (pos 0)
zeros zero m =
    let e : m ≡ 0 + m = omega arith in
    ap (λ k. replicate k (pos 0)) e
zeros (suc n) m =
    let e : suc (n + m) ≡ suc n + m = omega arith in
    ap (λ l. pos 0 ∷ l) (zeros n m) ∙ ap (λ k. replicate k (pos 0)) e

zero_value : (t : ValueType) → slots_of_value (initial_value t) ≡ replicate (size_of t) (pos 0)
zero_value (V.Array n) = refl
zero_value V.Int32 = refl
zero_value V.Int64 = refl
zero_value V.Bool = refl

all_zero : (names : Names) → slots_of (initial_values names []) ≡ replicate (slots_of_names names) (pos 0)
all_zero [] = refl
all_zero (name ∷ names) =
    ap (λ l. l ++ slots_of (initial_values names [])) (zero_value name.1)
    ∙ ap (λ l. replicate (size_of name.1) (pos 0) ++ l) (all_zero names)
    ∙ zeros (size_of name.1) (slots_of_names names)

one_slot : (t : ValueType) → IsScalar t → size_of t ≡ 1
one_slot (V.Array n) i = absurd i
one_slot V.Int32 i = refl
one_slot V.Int64 i = refl
one_slot V.Bool i = refl

-- there is a slot for each argument
pub room_for : (names : Names) (args : List ℤ) → TakesFirst names args → length args ≤ slots_of_names names
room_for names [] t = omega arith
room_for (name ∷ names) (a ∷ args) t = omega (arith, one_slot name.1 t.0, room_for names args t.2)
room_for [] (a ∷ args) t = absurd t

first_slots : (names : Names) (args : List ℤ) → TakesFirst names args → slots_of (initial_values names args) ≡ args ++ replicate (slots_of_names names - length args) (pos 0)
first_slots names [] t =
    let e : slots_of_names names ≡ slots_of_names names - 0 = omega arith in
    by_names names t ∙ ap (λ k. replicate k (pos 0)) e
  where
    by_names : (names : Names) → TakesFirst names [] → slots_of (initial_values names []) ≡ replicate (slots_of_names names) (pos 0)
    by_names names t = all_zero names
first_slots (name ∷ names) (a ∷ args) t =
    let e : slots_of_names names - length args ≡ size_of name.1 + slots_of_names names - suc (length args) = omega (arith, one_slot name.1 t.0) in
    ap (λ l. a ∷ l) (first_slots names args t.2) ∙ ap (λ k. a ∷ (args ++ replicate k (pos 0))) e
first_slots [] (a ∷ args) t = absurd t

zeros_fit : (n : ℕ) → AllFit64 (replicate n (pos 0))
zeros_fit zero = tt
zeros_fit (suc n) = let f : Fits64 (pos 0) = grind arith in (f, zeros_fit n)

zeros_long : (n : ℕ) → length (replicate n (pos 0)) ≡ n
zeros_long zero = refl
zeros_long (suc n) = ap suc (zeros_long n)

zero_shape : (t : ValueType) → HasShape t (initial_value t)
zero_shape (V.Array n) = (zeros_long n, zeros_fit n)
zero_shape V.Int32 = let f : Fits64 (pos 0) = grind arith in f
zero_shape V.Int64 = let f : Fits64 (pos 0) = grind arith in f
zero_shape V.Bool = let f : Fits64 (pos 0) = grind arith in f

first_shapes : (names : Names) (args : List ℤ) → TakesFirst names args → HasNames names (initial_values names args)
first_shapes [] [] t = tt
first_shapes (name ∷ names) [] t = (refl, zero_shape name.1, first_shapes names [] tt)
first_shapes (name ∷ names) (a ∷ args) t = (refl, scalar_shape name.1 a t.0 t.1, first_shapes names args t.2)
first_shapes [] (a ∷ args) t = absurd t

-- a function's frame begins as its names do
pub enters : (names : Names) (g : CodeFunction) (limit : ℕ) (args : List ℤ) → g.params ≡ length args → g.slots ≡ slots_of_names names + limit → TakesFirst names args → Enters names g limit args
enters names g limit args params limited t =
    let rest = slots_of_names names - length args in
    let room = room_for names args t in
    let e : g.slots - length args ≡ rest + limit = omega (arith, limited, room) in
    record {
      params = params;
      limited = limited;
      free = replicate limit (pos 0);
      slots = ap (λ k. args ++ replicate k (pos 0)) e ∙ ap (λ l. args ++ l) (sym (zeros rest limit)) ∙ sym (append_assoc args (replicate rest (pos 0)) (replicate limit (pos 0))) ∙ ap (λ l. l ++ replicate limit (pos 0)) (sym (first_slots names args t));
      add = omega (arith, limited, zeros_long limit);
      shapes = first_shapes names args t;
    }
