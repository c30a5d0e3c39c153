-- A block has a second statement where it has more than one.
use Rattle.std.proofs.Common.{rules, ◌≡◌, List, [], ◌∷◌, length, nat_lt}
use Rattle.kern_syntax.specs.declared.statement.Stmt.{Stmt}
use Rattle.kern_syntax.specs.declared.statement.StmtKind.TheFolds.{the_lemmas}
use Rattle.kern_syntax.specs.TreeOf.{lines_of}
use Rattle.code_forms.specs.Sizes.{has_second}

pub second_line : (items : List Stmt) → nat_lt 1 (length items) ≡ has_second (lines_of items)
second_line [] = search (rules, the_lemmas)
second_line (a ∷ []) = search (rules, the_lemmas)
second_line (a ∷ b ∷ rest) = search (rules, the_lemmas)
