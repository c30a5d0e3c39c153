-- Which statements have no block.
use Rattle.kern_syntax.specs.Tree.{Statement, if_then, while_do, for_range, parallel, sequential, record_as, try_do}

-- a statement without a block
abbrev pub IsSimple : Statement → Type 0
IsSimple (if_then c b rest) = ⊥
IsSimple (while_do c b) = ⊥
IsSimple (for_range x from to b) = ⊥
IsSimple (parallel b) = ⊥
IsSimple (sequential b) = ⊥
IsSimple (record_as name b) = ⊥
IsSimple (try_do b handlers) = ⊥
IsSimple s = Unit {0}
