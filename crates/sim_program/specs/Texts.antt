-- The err lines of texts that are no accepted kernel's.
use Rattle.std.specs.Prelude.{◌≡◌, ℕ, ◌++◌, codes, decimal}
use Rattle.kern_lexer.specs.declared.fault.LexKind.{LexKind}
use Rattle.kern_lexer.specs.declared.fault.LexKind.TheVariants as K
use Rattle.kern_syntax.specs.Tree.{Bytes}
use Rattle.kern_expression_types.specs.declared.fault.TypeKind.{TypeKind}
use Rattle.kern_expression_types.specs.declared.fault.TypeKind.TheVariants as T
use Rattle.kern_accepted.specs.Refusals.{IsRefusedFor}
use Rattle.kern_accepted.specs.declared.end.KernelEnd.{KernelEnd}
use Rattle.kern_accepted.specs.declared.end.KernelEnd.TheVariants as E
use Rattle.kern_accepted.specs.declared.end.Refusal.{Refusal}
use Rattle.kern_accepted.specs.declared.end.Refusal.TheVariants as R

-- the name of a kind of fault
abbrev pub kind_text : LexKind → Bytes
kind_text K.Byte = codes "Byte"
kind_text K.Tab = codes "Tab"
kind_text K.Indent = codes "Indent"
kind_text K.Number = codes "Number"
kind_text K.Text = codes "Text"
kind_text K.Name = codes "Name"

-- the line of a text without tokens: the place of its first fault, in bytes, and its kind
abbrev pub lex_line : ℕ → LexKind → Bytes
lex_line at kind = codes "lex " ++ decimal at ++ codes " " ++ kind_text kind ++ codes "\n"

-- the line of tokens without a tree: the number of the first wrong token, and its place in bytes
abbrev pub syntax_line : ℕ → ℕ → Bytes
syntax_line token at = codes "syntax " ++ decimal token ++ codes " " ++ decimal at ++ codes "\n"

-- the name of a kind of fault of types
abbrev pub type_kind_text : TypeKind → Bytes
type_kind_text T.Name = codes "Name"
type_kind_text T.Size = codes "Size"
type_kind_text T.Unknown = codes "Unknown"
type_kind_text T.Method = codes "Method"
type_kind_text T.Arity = codes "Arity"
type_kind_text T.Width = codes "Width"
type_kind_text T.NotBool = codes "NotBool"
type_kind_text T.Mismatch = codes "Type"
type_kind_text T.BlockExit = codes "BlockExit"
type_kind_text T.NestedRecord = codes "NestedRecord"
type_kind_text T.LiveInRecord = codes "LiveInRecord"
type_kind_text T.NoMain = codes "NoMain"

-- the line of a program that isn't typed: the line of its first fault, and the fault's kind
abbrev pub type_line : ℕ → TypeKind → Bytes
type_line line kind = codes "type " ++ decimal line ++ codes " " ++ type_kind_text kind ++ codes "\n"

-- the line of a program with too many nodes
abbrev pub code_line : ℕ → Bytes
code_line count = codes "code " ++ decimal count ++ codes "\n"

-- the line of a text that is refused
abbrev pub text_line : Refusal → Bytes
text_line (R.Tokens at kind) = lex_line at kind
text_line (R.Tree token at) = syntax_line token at
text_line (R.Types line kind) = type_line line kind
text_line (R.Nodes count) = code_line count

-- a line says why there is no kernel; want of memory has none
abbrev pub IsLineOfEnd : KernelEnd → (told : Bytes) → Type 0
IsLineOfEnd (E.Refused refusal) told = told ≡ text_line refusal
IsLineOfEnd E.Memory told = ⊥

-- why a text is no accepted kernel's, and the line that says so
pub record IsTextRefused (text : Bytes) (told : Bytes) : Type 0 where
  pub refusal : Refusal
  pub why : IsRefusedFor text refusal
  pub line : told ≡ text_line refusal
