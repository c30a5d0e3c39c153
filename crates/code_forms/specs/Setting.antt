-- What the code of a function rests on: its names with their slots, the texts of the program and its functions.
use Rattle.std.specs.Prelude.{ℕ, ◌+◌, List, [], ◌∷◌, Bool, if◌then◌else◌, position}
use Rattle.std.specs.Prelude.{bytes_eq, Option, Some, option_and_then, unwrap_or, is_some}
use Rattle.kern_syntax.specs.Tree.{Bytes}
use Rattle.kern_calls.specs.declared.types.ValueType.{ValueType}
use Rattle.kern_calls.specs.declared.types.ValueType.TheVariants as V
use Rattle.kern_calls.specs.Calls.{look_up}
use Rattle.kern_types.specs.Programs.{place_of_function}
use Rattle.kern_calls.specs.Types.{Names, Scope, function_named}

-- the program and the names of a function with their types, the names of recordings and datasets in the code, and
-- whether the function has a value
pub record Setting : Type 0 where
  pub scope : Scope
  pub texts : List Bytes
  pub value : Bool

-- how many slots a value of a type takes
abbrev pub size_of : ValueType → ℕ
size_of (V.Array n) = n
size_of t = 1

-- how many slots names take
abbrev pub slots_of_names : Names → ℕ
slots_of_names [] = 0
slots_of_names (name ∷ rest) = size_of name.1 + slots_of_names rest

-- the first slot of a name; they follow one another in the order of the names
abbrev pub slot_in : Names → Bytes → ℕ
slot_in [] x = 0
slot_in (name ∷ rest) x = if bytes_eq x name.0 then 0 else size_of name.1 + slot_in rest x

-- the first slot of a name of the function
abbrev pub slot_of : Setting → Bytes → ℕ
slot_of setting x = slot_in setting.scope.names x

-- the length of an array's type
abbrev pub length_in : Option ValueType → ℕ
length_in (Some (V.Array n)) = n
length_in t = 0

-- the length of an array of the function
abbrev pub length_of : Setting → Bytes → ℕ
length_of setting x = length_in (look_up setting.scope.names x)

-- the index of a text among the names of the code
abbrev pub index_of_text : Setting → Bytes → ℕ
index_of_text setting text = unwrap_or (position (bytes_eq text) setting.texts) 0

-- the place of a function among those of the code, which stand in the order of the text
abbrev pub index_of_function : Setting → Bytes → ℕ
index_of_function setting name = unwrap_or (place_of_function setting.scope.program name) 0

-- a function of the program has a value
abbrev pub has_value : Setting → Bytes → Bool
has_value setting name = is_some (option_and_then (λ f. f.result) (function_named setting.scope.program name))
