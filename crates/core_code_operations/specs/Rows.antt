-- Arrays as rows of slots.
use Rattle.kern_syntax.specs.Tree.{Bytes}
use Rattle.code_forms.specs.Setting.{Setting, slot_of, length_of}
use Rattle.core_code_operations.specs.declared.arguments.Row.{Row}

-- the slots of an array of the function
abbrev pub row_of : Setting → Bytes → Row
row_of setting x = record { first = slot_of setting x; length = length_of setting x }
