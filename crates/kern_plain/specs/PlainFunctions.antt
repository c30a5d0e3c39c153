-- The plain functions of a program.
use Rattle.std.specs.Prelude.{List, [], ◌∷◌}
use Rattle.kern_syntax.specs.Tree.{Bytes, FunctionTree}
use Rattle.kern_plain.specs.Plain.{with_plain}

-- the names of the plain functions of a program, after those of earlier ones
abbrev pub plain_names : (plain : List Bytes) → List FunctionTree → List Bytes
plain_names plain [] = plain
plain_names plain (f ∷ rest) = plain_names (with_plain plain f) rest
