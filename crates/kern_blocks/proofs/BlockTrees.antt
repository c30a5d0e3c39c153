-- The trees of the code's blocks and branches, as the plans give them.
use Rattle.std.proofs.Common.{◌≡◌, List, [], ◌∷◌, refl, ◌∙◌, ap, map, rules}
use Rattle.std.specs.Prelude.{Option, Some, None, option_map}
use Rattle.kern_syntax.specs.declared.statement.Block.{Block}
use Rattle.kern_syntax.specs.declared.statement.Elif.{Elif}
use Rattle.kern_syntax.specs.declared.statement.Handler.{Handler}
use Rattle.kern_syntax.specs.declared.statement.Stmt.{Stmt}
use Rattle.kern_syntax.specs.declared.statement.StmtKind.TheFolds.{the_lemmas}
use Rattle.kern_syntax.specs.Tree.{line_then, elif_then, except_then}
use Rattle.kern_syntax.specs.Tree as Tree
use Rattle.kern_syntax.specs.TreeOf.{block_of, line_of, lines_of, elif_of, branches_of, handler_of, handlers_of}
use Rattle.kern_grammar.specs.BlockPlans.{block_of_lines, otherwise_of, handlers_of_lines}
use Rattle.kern_blocks.specs.BlockSteps.{elif_line, except_line}
use Rattle.kern_statements.specs.LineSteps.{line_of_statement}

line-tree : (s : Stmt) (rest : Tree.Block) → line_of s rest ≡ line_then (line_of_statement s).0 (line_of_statement s).1 rest
line-tree s rest = search (rules, the_lemmas)

pub lines-tree : (statements : List Stmt) → lines_of statements ≡ block_of_lines (map line_of_statement statements)
lines-tree [] = refl
lines-tree (s ∷ rest) = line-tree s (lines_of rest) ∙ ap (λ y. line_then (line_of_statement s).0 (line_of_statement s).1 y) (lines-tree rest)

elif-tree : (b : Elif) (rest : Tree.Otherwise) → elif_of b rest ≡ elif_then (elif_line b).0 (elif_line b).1 (elif_line b).2 rest
elif-tree b rest = search (rules, the_lemmas)

pub branches-tree : (branches : List Elif) (last : Option Block) → branches_of branches last ≡ otherwise_of (map elif_line branches) (option_map block_of last)
branches-tree [] None = refl
branches-tree [] (Some b) = refl
branches-tree (b ∷ rest) last = elif-tree b (branches_of rest last) ∙ ap (λ y. elif_then (elif_line b).0 (elif_line b).1 (elif_line b).2 y) (branches-tree rest last)

except-tree : (b : Handler) (rest : Tree.Handlers) → handler_of b rest ≡ except_then (except_line b).0 (except_line b).1 (except_line b).2 rest
except-tree b rest = search (rules, the_lemmas)

pub handlers-tree : (handlers : List Handler) → handlers_of handlers ≡ handlers_of_lines (map except_line handlers)
handlers-tree [] = refl
handlers-tree (b ∷ rest) = except-tree b (handlers_of rest) ∙ ap (λ y. except_then (except_line b).0 (except_line b).1 (except_line b).2 y) (handlers-tree rest)
