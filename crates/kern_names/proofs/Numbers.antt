-- The places of functions, found by their names.
use Rattle.std.proofs.Common.{◌≡◌, ℕ, suc, ◌+◌, Bool, true, false, List, [], ◌∷◌, ◌++◌, length, Option, None, Some, is_some, option_map, refl, sym, ap, subst, ◌∙◌, bytes_eq, drop, get_or, ◌<◌, arith}
use Rattle.std.specs.Prelude.{if◌then◌else◌}
use Rattle.std.proofs.lemmas.Slice.Eq.{bytes_eq-Decides}
use Rattle.std.specs.List.{position}
use Rattle.kern_syntax.specs.declared.program.Function.{Function}
use Rattle.kern_syntax.specs.Tree.{Bytes, FunctionTree}
use Rattle.kern_syntax.specs.TreeOf.{function_of, tree_of}
use Rattle.kern_calls.specs.Calls.{look_up}
use Rattle.kern_types.specs.Programs.{place_of_function}
use Rattle.kern_expression_types.proofs.Lists.{drop-item}
use Rattle.kern_names.specs.Numbers.{numbered, with_number}
use Rattle.kern_names.proofs.Positions.{position_first, position_behind}

-- the first of two answers that there is
abbrev pub first_of : {A : Type 0} → Option A → Option A → Option A
first_of None b = b
first_of (Some a) b = Some a

-- what a name stands for among entries behind others
pub look_up_behind : {A : Type 0} (entries others : List (Bytes × A)) (x : Bytes) → look_up (entries ++ others) x ≡ first_of (look_up entries x) (look_up others x)
look_up_behind [] others x = refl
look_up_behind (entry ∷ entries) others x = by (bytes_eq x entry.0) refl (look_up_behind entries others x)
  where
    by : (b : Bool) → bytes_eq x entry.0 ≡ b → look_up (entries ++ others) x ≡ first_of (look_up entries x) (look_up others x) → look_up ((entry ∷ entries) ++ others) x ≡ first_of (look_up (entry ∷ entries) x) (look_up others x)
    by true is rest = rw is refl
    by false is rest = rw is rest

-- the functions that are left have the names that aren't numbered yet
abbrev pub AreNumbered : (functions left : List Function) (numbers : List (Bytes × ℕ)) (next : ℕ) → Type 0
AreNumbered functions left numbers next =
    (x : Bytes) → look_up (numbered 0 functions) x ≡ first_of (look_up numbers x) (look_up (numbered next left) x)

-- one function more is numbered
pub number_more : (functions left : List Function) (f : Function) (numbers : List (Bytes × ℕ)) (next : ℕ) → AreNumbered functions (f ∷ left) numbers next → AreNumbered functions left (with_number numbers f.name next) (suc next)
number_more functions left f numbers next before x = by_known (look_up numbers f.name) refl
  where
    rest : Option ℕ
    rest = look_up (numbered (suc next) left) x

    by_known : (o : Option ℕ) → look_up numbers f.name ≡ o → look_up (numbered 0 functions) x ≡ first_of (look_up (with_number numbers f.name next) x) rest
    by_known (Some k) is = by_name (bytes_eq x f.name) refl
      where
        same : with_number numbers f.name next ≡ numbers
        same = ap (λ o. if is_some o then numbers else numbers ++ (f.name, next) ∷ []) is

        by_name : (b : Bool) → bytes_eq x f.name ≡ b → look_up (numbered 0 functions) x ≡ first_of (look_up (with_number numbers f.name next) x) rest
        by_name true e =
            let found : look_up numbers x ≡ Some k = ap (look_up numbers) ((bytes_eq-Decides x f.name).0 e) ∙ is in
            before x ∙ ap (λ o. first_of o (look_up (numbered next (f ∷ left)) x)) found ∙ sym (ap (λ o. first_of o rest) (ap (λ l. look_up l x) same ∙ found))
        by_name false e =
            let later : look_up (numbered next (f ∷ left)) x ≡ rest = ap (λ b. if b then Some next else rest) e in
            before x ∙ ap (first_of (look_up numbers x)) later ∙ sym (ap (λ l. first_of (look_up l x) rest) same)
    by_known None is =
        let same : with_number numbers f.name next ≡ numbers ++ (f.name, next) ∷ [] = ap (λ o. if is_some o then numbers else numbers ++ (f.name, next) ∷ []) is in
        before x ∙ by_first (look_up numbers x) ∙ sym (ap (λ l. first_of (look_up l x) rest) same ∙ ap (λ o. first_of o rest) (look_up_behind numbers ((f.name, next) ∷ []) x))
      where
        by_name : (b : Bool) → (if b then Some next else rest) ≡ first_of (if b then Some next else None) rest
        by_name true = refl
        by_name false = refl

        by_first : (o : Option ℕ) → first_of o (look_up (numbered next (f ∷ left)) x) ≡ first_of (first_of o (look_up ((f.name, next) ∷ []) x)) rest
        by_first (Some k) = refl
        by_first None = by_name (bytes_eq x f.name)

first_or_none : {A : Type 0} (o : Option A) → first_of o None ≡ o
first_or_none None = refl
first_or_none (Some a) = refl

-- none is left
pub number_all : (functions : List Function) (numbers : List (Bytes × ℕ)) (next : ℕ) → AreNumbered functions [] numbers next → (x : Bytes) → look_up numbers x ≡ look_up (numbered 0 functions) x
number_all functions numbers next before x = sym (before x ∙ first_or_none (look_up numbers x))

-- a place from another one on
abbrev from : ℕ → Option ℕ → Option ℕ
from first o = option_map (λ k. first + k) o

from_next : (first : ℕ) (o : Option ℕ) → from (suc first) o ≡ from first (option_map suc o)
from_next first None = refl
from_next first (Some k) = let same : suc first + k ≡ first + suc k = omega arith in ap Some same

from_zero : (o : Option ℕ) → from 0 o ≡ o
from_zero None = refl
from_zero (Some k) = let same : 0 + k ≡ k = omega arith in ap Some same

numbered_place : (first : ℕ) (fs : List Function) (x : Bytes) → look_up (numbered first fs) x ≡ from first (place_of_function (tree_of fs) x)
numbered_place first [] x = refl
numbered_place first (f ∷ fs) x = by (bytes_eq x f.name) refl (numbered_place (suc first) fs x)
  where
    p : FunctionTree → Bool
    p g = bytes_eq x g.name

    by : (b : Bool) → bytes_eq x f.name ≡ b → look_up (numbered (suc first) fs) x ≡ from (suc first) (place_of_function (tree_of fs) x) → look_up (numbered first (f ∷ fs)) x ≡ from first (place_of_function (tree_of (f ∷ fs)) x)
    by true is rest =
        let same : first ≡ first + 0 = omega arith in
        ap (λ b. if b then Some first else look_up (numbered (suc first) fs) x) is ∙ ap Some same ∙ sym (ap (from first) (position_first p (function_of f) (tree_of fs) is))
    by false is rest =
        ap (λ b. if b then Some first else look_up (numbered (suc first) fs) x) is ∙ rest ∙ from_next first (position p (tree_of fs)) ∙ sym (ap (from first) (position_behind p (function_of f) (tree_of fs) is))

-- the numbers of functions are their places in the text
pub numbered_from_zero : (fs : List Function) (x : Bytes) → look_up (numbered 0 fs) x ≡ place_of_function (tree_of fs) x
numbered_from_zero fs x = numbered_place 0 fs x ∙ from_zero (place_of_function (tree_of fs) x)

-- all functions are numbered
pub all_numbered : (functions : List Function) (numbers : List (Bytes × ℕ)) (next : ℕ) → AreNumbered functions [] numbers next → (x : Bytes) → look_up numbers x ≡ place_of_function (tree_of functions) x
all_numbered functions numbers next before x = number_all functions numbers next before x ∙ numbered_from_zero functions x

-- the function at a place is numbered
pub number_step : (functions : List Function) (numbers after : List (Bytes × ℕ)) (i : ℕ) (f : Function) → i < length functions → f ≡ get_or functions i f → AreNumbered functions (drop i functions) numbers i → after ≡ with_number numbers f.name i → AreNumbered functions (drop (i + 1) functions) after (i + 1)
number_step functions numbers after i f within is before put =
    let left : AreNumbered functions (f ∷ drop (i + 1) functions) numbers i = subst (λ l. AreNumbered functions l numbers i) (drop-item functions i f within is) before in
    let next : suc i ≡ i + 1 = omega arith in
    subst (λ n. AreNumbered functions (drop (i + 1) functions) after n) next (subst (λ l. AreNumbered functions (drop (i + 1) functions) l (suc i)) (sym put) (number_more functions (drop (i + 1) functions) f numbers i left))
