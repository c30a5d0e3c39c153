-- The statements of a block, one after another.
use Rattle.std.proofs.Common.{rules, ◌≡◌, Bool, true, false, ◌&&◌, List, sym, ap, ◌∙◌}
use Rattle.kern_syntax.specs.declared.statement.Stmt.{Stmt}
use Rattle.kern_syntax.specs.declared.statement.StmtKind.TheFolds.{the_lemmas}
use Rattle.kern_syntax.specs.Tree.{Bytes, Block, line_then}
use Rattle.kern_syntax.specs.TreeOf.{line_of, statement_of}
use Rattle.kern_plain.specs.Plain.{is_plain_block, is_plain_statement}

-- the tree of a statement before others
pub line-is : (s : Stmt) (rest : Block) → line_of s rest ≡ line_then s.line (statement_of s.kind) rest
line-is s rest = search (rules, the_lemmas)

-- a statement that is plain is behind
pub line-plain : (plain : List Bytes) (s : Stmt) (rest : Block) (whole : Bool) → whole ≡ is_plain_block plain (line_of s rest) → is_plain_statement plain (statement_of s.kind) ≡ true → whole ≡ is_plain_block plain rest
line-plain plain s rest whole is first =
    is ∙ ap (is_plain_block plain) (line-is s rest) ∙ ap (λ b. b && is_plain_block plain rest) first

-- a statement that isn't plain
pub line-live : (plain : List Bytes) (s : Stmt) (rest : Block) (whole : Bool) → whole ≡ is_plain_block plain (line_of s rest) → is_plain_statement plain (statement_of s.kind) ≡ false → false ≡ whole
line-live plain s rest whole is first =
    sym (is ∙ ap (is_plain_block plain) (line-is s rest) ∙ ap (λ b. b && is_plain_block plain rest) first)
