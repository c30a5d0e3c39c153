-- The sizes of what follows a branch.
use Rattle.std.proofs.Common.{rules, ℕ, ◌≡◌, ◌+◌, List, [], ◌∷◌, Option, None, option_map, arith}
use Rattle.kern_syntax.specs.declared.statement.Elif.{Elif}
use Rattle.kern_syntax.specs.declared.statement.Block.{Block}
use Rattle.kern_syntax.specs.declared.statement.StmtKind.TheFolds.{the_lemmas}
use Rattle.kern_syntax.specs.Tree as T
use Rattle.kern_syntax.specs.Tree.{Expression, Otherwise, no_else, if_then}
use Rattle.kern_syntax.specs.TreeOf.{block_of, elif_of, branches_of, else_of}
use Rattle.code_forms.specs.Setting.{Setting}
use Rattle.code_forms.specs.Sizes.{statement_size}
use Rattle.core_code_sizes.specs.Parts.{branch_size, followed_size}

-- a branch before others adds its own
followed_size_elif : (setting : Setting) (tries kept : ℕ) (branch : Elif) (rest : Otherwise) → followed_size setting tries kept (elif_of branch rest) ≡ followed_size setting tries kept (elif_of branch no_else) + followed_size setting tries kept rest
followed_size_elif setting tries kept branch rest = search (rules, the_lemmas)

-- an `else` comes last
pub followed_size_else : (setting : Setting) (tries kept : ℕ) (branches : List Elif) (last : Option Block) → followed_size setting tries kept (branches_of branches last) ≡ followed_size setting tries kept (branches_of branches None) + followed_size setting tries kept (else_of (option_map block_of last))
followed_size_else setting tries kept [] last = omega arith
followed_size_else setting tries kept (branch ∷ rest) last =
    omega (arith, followed_size_elif setting tries kept branch (branches_of rest last), followed_size_elif setting tries kept branch (branches_of rest None), followed_size_else setting tries kept rest last)

-- an `if` is its first branch and what follows it
pub if_size : (setting : Setting) (tries kept : ℕ) (c : Expression) (b : T.Block) (branches : List Elif) (last : Option Block) → statement_size setting tries kept (if_then c b (branches_of branches last)) ≡ branch_size setting tries kept c b + (followed_size setting tries kept (branches_of branches None) + followed_size setting tries kept (else_of (option_map block_of last)))
if_size setting tries kept c b branches last = omega (arith, followed_size_else setting tries kept branches last)
