-- The further branches of an `if`, and its `else`.
use Rattle.std.proofs.Common.{rules, ◌≡◌, List, [], ◌∷◌, Option, None, option_map, refl, ap, ◌∙◌}
use Rattle.kern_syntax.specs.declared.statement.Elif.{Elif}
use Rattle.kern_syntax.specs.declared.statement.Block.{Block}
use Rattle.kern_syntax.specs.declared.statement.StmtKind.TheFolds.{the_lemmas}
use Rattle.kern_syntax.specs.Tree.{Otherwise, no_else, else_do, elif_then}
use Rattle.kern_syntax.specs.TreeOf.{block_of, elif_of, branches_of, else_of}

-- branches with something at their end
abbrev pub with_end : Otherwise → Otherwise → Otherwise
with_end no_else end = end
with_end (else_do body) end = else_do body
with_end (elif_then line condition body rest) end = elif_then line condition body (with_end rest end)

-- branches without an `else`
abbrev pub IsOpen : Otherwise → Type 0
IsOpen no_else = Unit {0}
IsOpen (else_do body) = ⊥
IsOpen (elif_then line condition body rest) = IsOpen rest

-- a branch before others keeps their end
pub elif-end : (branch : Elif) (rest end : Otherwise) → elif_of branch (with_end rest end) ≡ with_end (elif_of branch rest) end
elif-end branch rest end = search (rules, the_lemmas)

pub elif-open : (branch : Elif) (rest : Otherwise) → IsOpen rest → IsOpen (elif_of branch rest)
elif-open branch rest is = search (rules, the_lemmas)

pub branches_of-end : (branches : List Elif) (last : Option Block) → branches_of branches last ≡ with_end (branches_of branches None) (else_of (option_map block_of last))
branches_of-end [] last = refl
branches_of-end (branch ∷ rest) last = ap (elif_of branch) (branches_of-end rest last) ∙ elif-end branch (branches_of rest None) (else_of (option_map block_of last))

pub open-branches : (branches : List Elif) → IsOpen (branches_of branches None)
open-branches [] = tt
open-branches (branch ∷ rest) = elif-open branch (branches_of rest None) (open-branches rest)
