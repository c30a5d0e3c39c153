-- Functions that are among those of a program.
use Rattle.std.proofs.Common.{◌≡◌, ℕ, suc, ◌<◌, List, [], ◌∷◌, length, get_or, slice_get, Contains, find, Option, Some, None, Bor, option_map, sym, ap, subst, ◌∙◌, arith}
use Rattle.std.specs.Prelude.{Bool, true, false, cond, IfSome}
use Rattle.std.proofs.lemmas.List.{get_or-map, length-map}
use Rattle.std.proofs.lemmas.List.Elements.{Contains-get_or}
use Rattle.std.proofs.lemmas.Option.{none-some, same_Some, slice_get_within, get_or_from_slice_get}
use Rattle.kern_syntax.specs.declared.program.Function.{Function}
use Rattle.kern_syntax.specs.Tree.{FunctionTree, ProgramTree}
use Rattle.kern_syntax.specs.TreeOf.{function_of, tree_of}

-- the one at an index of the text
pub item_is_among : (functions : List Function) (i : ℕ) (f : Function) → i < length functions → f ≡ get_or functions i f → Contains (tree_of functions) (function_of f)
item_is_among functions i f within is =
    let inside : i < length (tree_of functions) = subst (λ n. i < n) (sym (length-map functions function_of)) within in
    let same : get_or (tree_of functions) i (function_of f) ≡ function_of f = get_or-map function_of functions i f (function_of f) within ∙ ap function_of (sym is) in
    subst (Contains (tree_of functions)) same (Contains-get_or (tree_of functions) i (function_of f) inside)

-- the one at a place, if there is one
pub first_is_among : (program : ProgramTree) (k : ℕ) (first : Option (Bor Function)) → option_map (λ f. function_of f.now) first ≡ slice_get program k → IfSome first (λ f. Contains program (function_of f.now))
first_is_among program k None is = tt
first_is_among program k (Some f) is =
    let at : slice_get program k ≡ Some (function_of f.now) = sym is in
    subst (Contains program) (get_or_from_slice_get program k (function_of f.now) (function_of f.now) at) (Contains-get_or program k (function_of f.now) (slice_get_within program k (function_of f.now) at))

-- and one that is found
pub found_is_among : (program : ProgramTree) (test : FunctionTree → Bool) (f : FunctionTree) → find test program ≡ Some f → Contains program f
found_is_among [] test f is = absurd (none-some f is)
found_is_among (g ∷ rest) test f is = by_test (test g) is (λ is. found_is_among rest test f is)
  where
    by_test : (b : Bool) → cond b (Some g) (find test rest) ≡ Some f → (find test rest ≡ Some f → Contains rest f) → Contains (g ∷ rest) f
    by_test true is later = subst (Contains (g ∷ rest)) (same_Some g f is) (Contains-get_or (g ∷ rest) 0 f (omega arith))
    by_test false is later = let place = later is in (suc place.0, omega (arith, place.1), place.2)
