use Rattle.std.proofs.Common.{◌≡◌, ◌-◌, ◌+◌, ◌*◌, suc, length, List, map}
use Rattle.std.specs.Prelude.{Ok}
use Rattle.kern_syntax.specs.Tree.{Expression}
use Rattle.kern_expressions.specs.Given.{symbols_left}
use Rattle.kern_expressions.specs.Kept.{KeptAs, ReadAs, item_of}
use Rattle.kern_grammar.specs.Reading.{Item, items, level_reader, row_behind, inside_of}
use Rattle.kern_expressions.proofs.ArgumentLists.{ArgumentsSoFar}
use Rattle.kern_expressions.proofs.Passing.{Reaches}
use Rattle.kern_expressions.proofs.+levels.Given as goal

abbrev pub decreases-atom::value_at : goal.decreases-atom::value_at
decreases-atom::value_at l = 64 * l.room

abbrev pub decreases-atom::argument_at : goal.decreases-atom::argument_at
decreases-atom::argument_at l = 64 * l.room + 1

abbrev pub decreases-atom::items_at : goal.decreases-atom::items_at
decreases-atom::items_at l = 64 * l.room + 2

abbrev pub decreases-atom::arguments_at : goal.decreases-atom::arguments_at
decreases-atom::arguments_at l = 64 * l.room + 3

abbrev pub decreases-atom::element_at : goal.decreases-atom::element_at
decreases-atom::element_at l = 64 * l.room

abbrev pub decreases-atom::group_at : goal.decreases-atom::group_at
decreases-atom::group_at l = 64 * l.room

abbrev pub decreases-atom::called_method_at : goal.decreases-atom::called_method_at
decreases-atom::called_method_at l = 64 * l.room + 4

abbrev pub decreases-atom::method_at : goal.decreases-atom::method_at
decreases-atom::method_at l = 64 * l.room + 5

abbrev pub decreases-atom::named_at : goal.decreases-atom::named_at
decreases-atom::named_at l = 64 * l.room + 6

abbrev pub decreases-atom::bare_atom_at : goal.decreases-atom::bare_atom_at
decreases-atom::bare_atom_at l = 64 * l.room + 7

abbrev pub decreases-atom::atom_at : goal.decreases-atom::atom_at
decreases-atom::atom_at l = 64 * l.room + 8

abbrev pub decreases-expression::level_at : goal.decreases-expression::level_at
decreases-expression::level_at l = 64 * l.room + 4 * l.level + 13

abbrev pub decreases-expression::level_here_at : goal.decreases-expression::level_here_at
decreases-expression::level_here_at l = 64 * l.room + 4 * l.level + 12

abbrev pub decreases-expression::front_at : goal.decreases-expression::front_at
decreases-expression::front_at l = 64 * l.room + 4 * l.level + 11

abbrev pub decreases-expression::operators_at : goal.decreases-expression::operators_at
decreases-expression::operators_at l = 64 * l.room + 4 * l.level + 11

abbrev pub decreases-expression::row_at : goal.decreases-expression::row_at
decreases-expression::row_at l = 64 * l.room + 4 * l.level + 10

abbrev pub decreases-expression::prefixed_at : goal.decreases-expression::prefixed_at
decreases-expression::prefixed_at l = 64 * l.room + 10

abbrev pub decreases-expression::compared_at : goal.decreases-expression::compared_at
decreases-expression::compared_at l = 64 * l.room + 42

abbrev pub decreases-expression::negation_at : goal.decreases-expression::negation_at
decreases-expression::negation_at l = 64 * l.room + 46

abbrev pub invariant-atom::items_at-items : goal.invariant-atom::items_at-items
invariant-atom::items_at-items l =
    (done : List Item) × KeptAs (λ v. map item_of v.items) l.arguments done
    × ArgumentsSoFar (inside_of l.room) done (symbols_left l.rest) (items (inside_of l.room) (suc (length (symbols_left l.tokens))) (symbols_left l.tokens))

abbrev pub decreases-atom::items_at-items : goal.decreases-atom::items_at-items
decreases-atom::items_at-items l = length (symbols_left l.rest)

abbrev pub invariant-expression::level_here_at-levels : goal.invariant-expression::level_here_at-levels
invariant-expression::level_here_at-levels l =
    (tree : Expression) × ReadAs l.e tree × Reaches l.level l.reached (symbols_left l.tokens)
    × (level_reader (inside_of l.room) l.reached (symbols_left l.tokens) ≡ Ok (tree, symbols_left l.rest))

abbrev pub decreases-expression::level_here_at-levels : goal.decreases-expression::level_here_at-levels
decreases-expression::level_here_at-levels l = l.level - l.reached

abbrev pub invariant-expression::row_at-turns : goal.invariant-expression::row_at-turns
invariant-expression::row_at-turns l =
    (left : Expression) → ReadAs l.fn.left left → (tree : Expression) × ReadAs l.e tree
    × (row_behind l.more l.level (level_reader (inside_of l.room) (l.level - 1)) tree (symbols_left l.rest)
    ≡ row_behind 16 l.level (level_reader (inside_of l.room) (l.level - 1)) left (symbols_left l.tokens))

abbrev pub decreases-expression::row_at-turns : goal.decreases-expression::row_at-turns
decreases-expression::row_at-turns l = l.more
