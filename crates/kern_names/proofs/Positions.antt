-- The first items that pass a test, and where they stand.
use Rattle.std.proofs.Common.{◌≡◌, ℕ, suc, ◌+◌, Bool, true, false, List, [], ◌∷◌, length, map, Option, None, Some, option_map, refl, sym, ap, ◌∙◌, bytes_eq, arith}
use Rattle.std.specs.Prelude.{if◌then◌else◌, nat_lt, is_some, unwrap_or, slice_index_or}
use Rattle.std.proofs.lemmas.Bool.{false≢true}
use Rattle.std.specs.List.{position, position_or_len}
use Rattle.kern_syntax.specs.declared.program.Function.{Function}
use Rattle.kern_syntax.specs.Tree.{Bytes, FunctionTree}
use Rattle.kern_syntax.specs.TreeOf.{function_of, tree_of}
use Rattle.kern_calls.specs.Types.{function_named}
use Rattle.kern_types.specs.Programs.{place_of_function}

-- the first item that passes stands one place further behind one that doesn't
pub position_behind : {A : Type 0} (p : A → Bool) (x : A) (xs : List A) → p x ≡ false → position p (x ∷ xs) ≡ option_map suc (position p xs)
position_behind p x xs is = by_less (nat_lt n (length xs)) refl
  where
    n : ℕ
    n = position_or_len p xs

    by_less : (c : Bool) → nat_lt n (length xs) ≡ c → position p (x ∷ xs) ≡ option_map suc (position p xs)
    by_less true e = let more : nat_lt (1 + n) (suc (length xs)) ≡ true = grind (arith, e) in let same : 1 + n ≡ suc n = omega arith in rw (is, more, e) (ap Some same)
    by_less false e = let more : nat_lt (1 + n) (suc (length xs)) ≡ false = grind (arith, e) in rw (is, more, e) refl

pub position_first : {A : Type 0} (p : A → Bool) (x : A) (xs : List A) → p x ≡ true → position p (x ∷ xs) ≡ Some 0
position_first p x xs is = let more : nat_lt 0 (suc (length xs)) ≡ true = grind arith in rw (is, more) refl

-- the first image that passes stands where the first such item does
pub position_map : {A B : Type 0} (test : B → Bool) (f : A → B) (xs : List A) → position (λ x. test (f x)) xs ≡ position test (map f xs)
position_map test f [] = refl
position_map test f (x ∷ xs) = by (test (f x)) refl (position_map test f xs)
  where
    by : (b : Bool) → test (f x) ≡ b → position (λ y. test (f y)) xs ≡ position test (map f xs) → position (λ y. test (f y)) (x ∷ xs) ≡ position test (map f (x ∷ xs))
    by true is rest = position_first (λ y. test (f y)) x xs is ∙ sym (position_first test (f x) (map f xs) is)
    by false is rest = position_behind (λ y. test (f y)) x xs is ∙ ap (option_map suc) rest ∙ sym (position_behind test (f x) (map f xs) is)

named_first : (f : Function) (fs : List Function) (x : Bytes) → bytes_eq x f.name ≡ true → function_named (tree_of (f ∷ fs)) x ≡ Some (function_of f)
named_first f fs x is = ap (λ b. if b then Some (function_of f) else function_named (tree_of fs) x) is

named_behind : (f : Function) (fs : List Function) (x : Bytes) → bytes_eq x f.name ≡ false → function_named (tree_of (f ∷ fs)) x ≡ function_named (tree_of fs) x
named_behind f fs x is = ap (λ b. if b then Some (function_of f) else function_named (tree_of fs) x) is

abbrev named_as : Bytes → FunctionTree → Bool
named_as x g = bytes_eq x g.name

-- the function at the place of a name has that name
pub function_found : (fs : List Function) (x : Bytes) (k : ℕ) (d : Function) → Some k ≡ place_of_function (tree_of fs) x → Some (function_of (slice_index_or fs k d)) ≡ function_named (tree_of fs) x
function_found [] x k d e = absurd (false≢true (sym (ap is_some e)))
function_found (f ∷ fs) x k d e = by (bytes_eq x f.name) refl (λ j. function_found fs x j d)
  where
    by_place : (o : Option ℕ) → place_of_function (tree_of fs) x ≡ o → Some k ≡ option_map suc o → ((j : ℕ) → Some j ≡ place_of_function (tree_of fs) x → Some (function_of (slice_index_or fs j d)) ≡ function_named (tree_of fs) x) → Some (function_of (slice_index_or (f ∷ fs) k d)) ≡ function_named (tree_of fs) x
    by_place None at q rest = absurd (false≢true (sym (ap is_some q)))
    by_place (Some j) at q rest =
        let same : k ≡ suc j = ap (λ o. unwrap_or o k) q in
        ap (λ n. Some (function_of (slice_index_or (f ∷ fs) n d))) same ∙ rest j (sym at)

    by : (b : Bool) → bytes_eq x f.name ≡ b → ((j : ℕ) → Some j ≡ place_of_function (tree_of fs) x → Some (function_of (slice_index_or fs j d)) ≡ function_named (tree_of fs) x) → Some (function_of (slice_index_or (f ∷ fs) k d)) ≡ function_named (tree_of (f ∷ fs)) x
    by true is rest =
        let at = e ∙ position_first (named_as x) (function_of f) (tree_of fs) is in
        let same : k ≡ 0 = ap (λ o. unwrap_or o k) at in
        ap (λ n. Some (function_of (slice_index_or (f ∷ fs) n d))) same ∙ sym (named_first f fs x is)
    by false is rest =
        by_place (place_of_function (tree_of fs) x) refl (e ∙ position_behind (named_as x) (function_of f) (tree_of fs) is) rest ∙ sym (named_behind f fs x is)

-- and there is none where none has a place
pub function_missing : (fs : List Function) (x : Bytes) → None ≡ place_of_function (tree_of fs) x → None ≡ function_named (tree_of fs) x
function_missing [] x e = refl
function_missing (f ∷ fs) x e = by (bytes_eq x f.name) refl (function_missing fs x)
  where
    by_place : (o : Option ℕ) → None ≡ option_map suc o → None ≡ o
    by_place None q = refl
    by_place (Some j) q = absurd (false≢true (ap is_some q))

    by : (b : Bool) → bytes_eq x f.name ≡ b → (None ≡ place_of_function (tree_of fs) x → None ≡ function_named (tree_of fs) x) → None ≡ function_named (tree_of (f ∷ fs)) x
    by true is rest = absurd (false≢true (ap is_some (e ∙ position_first (named_as x) (function_of f) (tree_of fs) is)))
    by false is rest =
        rest (by_place (place_of_function (tree_of fs) x) (e ∙ position_behind (named_as x) (function_of f) (tree_of fs) is)) ∙ sym (named_behind f fs x is)
