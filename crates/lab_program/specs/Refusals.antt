-- Which bytes are refused, and the lines that say so.
use Rattle.std.specs.Prelude.{◌≡◌, ◌⊎◌, List, ℕ, ◌++◌, codes}
use Rattle.serde_json.specs.Data.{Data}
use Rattle.json_fields.specs.declared.fault.FieldKind.{FieldKind}
use Rattle.json_fields.specs.declared.fault.FieldKind.TheVariants as kind
use Rattle.exp_json.specs.Texts.{HasFault, IsValueOf}

-- the name of a kind of fault
abbrev pub kind_text : FieldKind → List ℕ
kind_text kind.Missing = codes "Missing"
kind_text kind.Unknown = codes "Unknown"
kind_text kind.Shape = codes "Type"
kind_text kind.Range = codes "Range"
kind_text kind.Index = codes "Index"
kind_text kind.Order = codes "Order"

-- the line of bytes that are no JSON value
abbrev pub json_line : List ℕ
json_line = codes "session json\n"

-- the line of a value's first fault, by its path and kind
abbrev pub field_line : List ℕ → FieldKind → List ℕ
field_line path kind = codes "session " ++ path ++ codes " " ++ kind_text kind ++ codes "\n"

-- the bytes are no JSON value
abbrev pub IsNoValue : List ℕ → Type 0
IsNoValue text = (d : Data) → ¬ IsValueOf text d

-- the bytes are a JSON value with a first fault, and the line says which
abbrev pub IsFaultTold : (text told : List ℕ) → Type 0
IsFaultTold text told = (path : List ℕ) × (kind : FieldKind) × HasFault text path kind × (told ≡ field_line path kind)

-- the bytes are no session, and this line says why
abbrev pub IsRefusedText : (text told : List ℕ) → Type 0
IsRefusedText text told = (IsNoValue text × (told ≡ json_line)) ⊎ IsFaultTold text told
