use Rattle.std.proofs.Common.{◌≡◌, ◌++◌, [], ◌∷◌, drop, map}
use Rattle.std.specs.List.{list_all}
use Rattle.kern_syntax.specs.TreeOf.{expression_of}
use Rattle.kern_plain.specs.Plain.{is_plain_expression}
use Rattle.kern_plain.proofs.plain.are_plain_elements.Given as goal

abbrev pub invariant-loop-element : goal.invariant-loop-element
invariant-loop-element l =
    list_all (is_plain_expression (map (λ n. n.now) l.fn.plain ++ l.fn.own ∷ [])) (map expression_of l.fn.elements) ≡ list_all (is_plain_expression (map (λ n. n.now) l.fn.plain ++ l.fn.own ∷ [])) (map expression_of (drop l.element-index l.fn.elements))
