-- What a search of a list finds, and where.
use Rattle.std.proofs.Common.{◌≡◌, ℕ, zero, suc, ◌<◌, List, [], ◌∷◌, length, slice_get, Some, None, refl, sym, ◌∙◌, ap, subst, arith}
use Rattle.std.specs.Prelude.{Bool, true, false, nat_lt, bytes_eq, is_some, unwrap_or, if◌then◌else◌}
use Rattle.std.specs.List.{find, position, position_or_len}
use Rattle.std.proofs.lemmas.Bool.{false≢true}
use Rattle.std.proofs.lemmas.List.Folds.{find_at}
use Rattle.std.proofs.lemmas.Slice.Eq.{bytes_eq-Decides}
use Rattle.kern_syntax.specs.Tree.{Bytes, FunctionTree, ProgramTree}
use Rattle.kern_calls.specs.Types.{function_named}
use Rattle.kern_types.specs.Programs.{place_of_function}

pub get_below : {A : Type 0} (xs : List A) (k : ℕ) (x : A) → slice_get xs k ≡ Some x → k < length xs
get_below [] k x e = absurd (false≢true (ap is_some e))
get_below (y ∷ xs) zero x e = omega arith
get_below (y ∷ xs) (suc k) x e = omega (arith, get_below xs k x e)

-- what is found passes, and stands at the first place that does
pub found_passes : {A : Type 0} (p : A → Bool) (xs : List A) (x : A) → find p xs ≡ Some x → p x ≡ true
found_passes p [] x e = absurd (false≢true (ap is_some e))
found_passes p (y ∷ xs) x e = by_test (p y) refl e (found_passes p xs x)
  where
    by_test : (b : Bool) → p y ≡ b → (if b then Some y else find p xs) ≡ Some x → (find p xs ≡ Some x → p x ≡ true) → p x ≡ true
    by_test true is e' k = subst (λ z. p z ≡ true) (ap (λ o. unwrap_or o y) e') is
    by_test false is e' k = k e'

pub first_found : {A : Type 0} (p : A → Bool) (xs : List A) (x : A) → find p xs ≡ Some x → (k : ℕ) × (position p xs ≡ Some k) × (slice_get xs k ≡ Some x)
first_found p xs x e =
    let k = position_or_len p xs in
    let there : slice_get xs k ≡ Some x = sym (find_at p xs) ∙ e in
    let less = get_below xs k x there in
    let below : nat_lt k (length xs) ≡ true = grind (arith, less) in
    (k, ap (λ b. if b then Some k else None) below, there)

-- a function of the program stands where it is looked for, under its own name
pub function_place : (program : ProgramTree) (name : Bytes) (f : FunctionTree) → function_named program name ≡ Some f → (k : ℕ) × (place_of_function program name ≡ Some k) × (slice_get program k ≡ Some f)
function_place program name f e = first_found (λ g. bytes_eq name g.name) program f e

pub same_name : (program : ProgramTree) (name : Bytes) (f : FunctionTree) → function_named program name ≡ Some f → name ≡ f.name
same_name program name f e = (bytes_eq-Decides name f.name).0 (found_passes (λ g. bytes_eq name g.name) program f e)
