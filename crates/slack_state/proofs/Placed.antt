-- A name's place: what is read and written there is what the name holds.
use Rattle.std.proofs.Common.{◌≡◌, ℕ, suc, ◌+◌, ◌<◌, ◌≤◌, Bool, true, false, List, [], ◌∷◌, length, get_or, set, drop, refl, sym, ap, ◌∙◌, arith, add-one, drop-cons, bytes_eq, if◌then◌else◌}
use Rattle.std.specs.Prelude.{Option, Some, None, slice_get}
use Rattle.std.proofs.Math.ListN.{drop_of_length-le}
use Rattle.std.proofs.lemmas.Option.{slice_get_read, slice_get_past}
use Rattle.kern_syntax.specs.Tree.{Bytes}
use Rattle.slack_meaning.specs.Actions.{Held}
use Rattle.slack_meaning.specs.Expressions.{held_by, with_held}
use Rattle.slack_state.specs.Entries.{held_at, held_in, place_of, with_entry, with_held_at}

-- what a name holds is what its place holds
pub held_there : (xs : List (Bytes × Held)) (x : Bytes) → held_at xs (place_of xs x) ≡ held_by xs x
held_there [] x = refl
held_there (e ∷ xs) x = by (bytes_eq e.0 x) (held_there xs x)
  where
    by : (b : Bool) → held_at xs (place_of xs x) ≡ held_by xs x → held_at (e ∷ xs) (if b then 0 else suc (place_of xs x)) ≡ (if b then e.1 else held_by xs x)
    by true later = refl
    by false later = later

-- behind another entry the same is written
behind : (e : Bytes × Held) (xs : List (Bytes × Held)) (place : ℕ) (entry : Option (Bytes × Held)) (new : Held) → with_entry (e ∷ xs) (suc place) entry new ≡ e ∷ with_entry xs place entry new
behind e xs place None new = refl
behind e xs place (Some entry) new = refl

-- a name is given something new where its place is
pub with_there : (xs : List (Bytes × Held)) (x : Bytes) (new : Held) → with_held_at xs (place_of xs x) new ≡ with_held xs x new
with_there [] x new = refl
with_there (e ∷ xs) x new = by (bytes_eq e.0 x) (with_there xs x new)
  where
    by : (b : Bool) → with_held_at xs (place_of xs x) new ≡ with_held xs x new → with_held_at (e ∷ xs) (if b then 0 else suc (place_of xs x)) new ≡ (if b then (e.0, new) ∷ xs else e ∷ with_held xs x new)
    by true later = refl
    by false later = behind e xs (place_of xs x) (slice_get xs (place_of xs x)) new ∙ ap (λ rest. e ∷ rest) later

-- the item at a place decides whether the place is the name's
first_of : (xs : List (Bytes × Held)) (i : ℕ) (e : Bytes × Held) (x : Bytes) (b : Bool) → i < length xs → e ≡ get_or xs i e → bytes_eq e.0 x ≡ b → place_of (drop i xs) x ≡ (if b then 0 else suc (place_of (drop (suc i) xs) x))
first_of xs i e x b within is named =
    ap (λ rest. place_of rest x) (drop-cons xs i e within)
    ∙ ap (λ y. if bytes_eq y.0 x then 0 else suc (place_of (drop (suc i) xs) x)) (sym is)
    ∙ ap (λ c. if c then 0 else suc (place_of (drop (suc i) xs) x)) named

pub place_here : (xs : List (Bytes × Held)) (i : ℕ) (e : Bytes × Held) (x : Bytes) → i < length xs → e ≡ get_or xs i e → bytes_eq e.0 x ≡ true → i + place_of (drop i xs) x ≡ i
place_here xs i e x within is named =
    let none = first_of xs i e x true within is named in
    omega (arith, none)

pub place_later : (xs : List (Bytes × Held)) (i : ℕ) (e : Bytes × Held) (x : Bytes) → i < length xs → e ≡ get_or xs i e → bytes_eq e.0 x ≡ false → i + place_of (drop i xs) x ≡ (i + 1) + place_of (drop (i + 1) xs) x
place_later xs i e x within is other =
    let next = first_of xs i e x false within is other ∙ ap (λ n. suc (place_of (drop n xs) x)) (sym (add-one i)) in
    omega (arith, next)

-- no entry has the name
pub place_nowhere : (xs : List (Bytes × Held)) (i : ℕ) (x : Bytes) → i ≡ length xs → i + place_of (drop i xs) x ≡ length xs
place_nowhere xs i x past =
    let none : place_of (drop i xs) x ≡ 0 = ap (λ rest. place_of rest x) (drop_of_length-le xs (omega (arith, past))) in
    omega (arith, none, past)

-- what is read at a place
pub held_read : (xs : List (Bytes × Held)) (i : ℕ) (e : Bytes × Held) → i < length xs → e ≡ get_or xs i e → held_at xs i ≡ e.1
held_read xs i e within is = ap held_in (slice_get_read xs (length xs) i e refl within is)

-- nothing is behind the last place
pub held_past : (xs : List (Bytes × Held)) (i : ℕ) → length xs ≤ i → held_at xs i ≡ held_in None
held_past xs i past = ap held_in (slice_get_past xs i past)

-- what is written at a place
pub written : (xs : List (Bytes × Held)) (i : ℕ) (e : Bytes × Held) (new : Held) → i < length xs → e ≡ get_or xs i e → set xs i (e.0, new) ≡ with_held_at xs i new
written xs i e new within is = sym (ap (λ entry. with_entry xs i entry new) (slice_get_read xs (length xs) i e refl within is))

pub written_past : (xs : List (Bytes × Held)) (i : ℕ) (new : Held) → length xs ≤ i → xs ≡ with_held_at xs i new
written_past xs i new past = sym (ap (λ entry. with_entry xs i entry new) (slice_get_past xs i past))
