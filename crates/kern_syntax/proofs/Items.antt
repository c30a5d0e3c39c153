-- The items of a list as a loop prints them: all from an index on.
use Rattle.std.proofs.Common.{ℕ, zero, suc, ◌+◌, ◌≡◌, List, [], ◌∷◌, ◌++◌, ◌==◌, if◌then◌else◌, codes, refl, rules, add-one, arith, false}
use Rattle.std.proofs.lemmas.Bool.Decides.{nat_tests}
use Rattle.std.specs.List.{flat_map}
use Rattle.kern_syntax.specs.declared.expression.Argument.{Argument}
use Rattle.kern_syntax.specs.declared.expression.Argument.TheFolds.{the_lemmas}
use Rattle.kern_syntax.specs.Tree.{Bytes, Arguments, no_more}
use Rattle.kern_syntax.specs.TreeOf.{argument_of}
use Rattle.kern_syntax.specs.Print.{joined, argument_texts}

-- the items from an index on, with what stands before each
abbrev pub items_from : ℕ → List Bytes → Bytes
items_from zero items = joined items
items_from (suc i) items = flat_map (λ item. codes ", " ++ item) items

-- no items are no text
pub items_from-nil : (i : ℕ) → items_from i [] ≡ []
items_from-nil zero = refl
items_from-nil (suc i) = refl

-- the item at an index comes behind its separator and before the others
pub items_from-cons : (i : ℕ) (item : Bytes) (rest : List Bytes) → items_from i (item ∷ rest) ≡ (if i == 0 then [] else codes ", ") ++ item ++ items_from (i + 1) rest
items_from-cons zero item rest = refl
items_from-cons (suc i) item rest =
    let later : (suc i == 0) ≡ false = grind (arith, nat_tests) in
    rw (add-one (suc i), later) refl

-- an argument before others is their first item
pub argument_texts-cons : (argument : Argument) (rest : Arguments) → argument_texts (argument_of argument rest) ≡ joined (argument_texts (argument_of argument no_more)) ∷ argument_texts rest
argument_texts-cons argument rest = search (rules, the_lemmas)
