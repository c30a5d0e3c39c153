-- The form of the texts of a program.
use Rattle.std.specs.Prelude.{List, All, IsTrue}
use Rattle.kern_syntax.specs.Tree.{Bytes}
use Rattle.rtio_types.specs.Names.{is_name}

-- each text has the form of a name
abbrev pub AreNames : List Bytes → Type 0
AreNames texts = All (λ text. IsTrue (is_name text)) texts
