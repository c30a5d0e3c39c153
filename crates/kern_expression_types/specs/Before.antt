-- What the text has before a statement, and the names that no variable may have.
use Rattle.std.specs.Prelude.{List, [], ◌∷◌, ◌++◌, Bool, ◌||◌, if◌then◌else◌, is_some, bytes_eq, codes}
use Rattle.std.specs.List.{list_any}
use Rattle.rtio_types.specs.Board.{channel_of_name}
use Rattle.kern_syntax.specs.Tree.{Bytes, ProgramTree}
use Rattle.kern_calls.specs.Calls.{builtin_named}
use Rattle.kern_calls.specs.Types.{function_named}

-- the functions that a statement may speak of: all of the program, whose names no variable has; those that may be
-- called, which are the earlier ones and the statement's own; and the names of those earlier ones that are plain
pub record Functions : Type 0 where
  pub program : ProgramTree
  pub callable : ProgramTree
  pub plain : List Bytes

-- the name is one of these
abbrev pub is_in : List Bytes → Bytes → Bool
is_in names name = list_any (bytes_eq name) names

-- the names after one more, which goes last where it is new
abbrev pub with_member : List Bytes → Bytes → List Bytes
with_member names name = if is_in names name then names else names ++ name ∷ []

-- the names of the exceptions
abbrev pub exceptions : List Bytes
exceptions =
    codes "RTIOUnderflow"
    ∷ codes "RTIOOverflow"
    ∷ codes "DMAError"
    ∷ codes "ZeroDivisionError"
    ∷ codes "IndexError"
    ∷ codes "StackOverflow"
    ∷ []

-- words that stand for themselves, beside the language's own functions, the exceptions and the channels
abbrev pub words : List Bytes
words =
    codes "core"
    ∷ codes "core_dma"
    ∷ codes "parallel"
    ∷ codes "sequential"
    ∷ codes "kernel"
    ∷ codes "range"
    ∷ codes "bool"
    ∷ []

-- the name stands for itself: no function, parameter or variable has it
abbrev pub is_reserved : Bytes → Bool
is_reserved name =
    is_in words name
    || (is_some (builtin_named name)
    || (is_in exceptions name || is_some (channel_of_name name)))

-- no variable may have the name: it is reserved, or a function of the program has it
abbrev pub is_taken : Functions → Bytes → Bool
is_taken functions name = is_reserved name || is_some (function_named functions.program name)
