-- The further branches of an `if`: their nodes and their lines.
use Rattle.std.proofs.Common.{rules, ℕ, ◌≡◌, ◌+◌, List, [], ◌∷◌, ◌++◌, Option, Some, None, option_map, arith, refl, append_assoc}
use Rattle.kern_syntax.specs.declared.statement.Elif.{Elif}
use Rattle.kern_syntax.specs.declared.statement.Block.{Block}
use Rattle.kern_syntax.specs.declared.statement.StmtKind.TheFolds.{the_lemmas}
use Rattle.kern_syntax.specs.Tree.{Otherwise, no_else}
use Rattle.kern_syntax.specs.Nodes.{block_nodes, otherwise_nodes}
use Rattle.kern_syntax.specs.Print.{otherwise_text}
use Rattle.kern_syntax.specs.TreeOf.{block_of, elif_of, branches_of, else_of}

-- a branch before others adds its own nodes
otherwise_nodes_elif : (branch : Elif) (rest : Otherwise) → otherwise_nodes (elif_of branch rest) ≡ otherwise_nodes (elif_of branch no_else) + otherwise_nodes rest
otherwise_nodes_elif branch rest = search (rules, the_lemmas)

-- an `else` counts one, and its block
pub otherwise_nodes_else : (branches : List Elif) (last : Block) → otherwise_nodes (branches_of branches (Some last)) ≡ otherwise_nodes (branches_of branches None) + (1 + block_nodes (block_of last))
otherwise_nodes_else [] last = omega arith
otherwise_nodes_else (branch ∷ rest) last =
    omega (arith, otherwise_nodes_elif branch (branches_of rest (Some last)), otherwise_nodes_elif branch (branches_of rest None), otherwise_nodes_else rest last)

-- a branch's lines come before the others
otherwise_text-elif : (branch : Elif) (rest : Otherwise) (level : ℕ) → otherwise_text (elif_of branch rest) level ≡ otherwise_text (elif_of branch no_else) level ++ otherwise_text rest level
otherwise_text-elif branch rest level = search (rules, the_lemmas)

-- the lines of an `else` come last
pub otherwise_text-else : (branches : List Elif) (last : Option Block) (level : ℕ) → otherwise_text (branches_of branches last) level ≡ otherwise_text (branches_of branches None) level ++ otherwise_text (else_of (option_map block_of last)) level
otherwise_text-else [] last level = refl
otherwise_text-else (branch ∷ rest) last level =
    rw (otherwise_text-elif branch (branches_of rest last) level, otherwise_text-elif branch (branches_of rest None) level, otherwise_text-else rest last level) (simp append_assoc)
