-- Why a text is refused.
use Rattle.std.specs.Prelude.{◌≡◌, ℕ, ◌<◌, List, slice_get, Some}
use Rattle.limits.specs.Limits.{most_nodes}
use Rattle.kern_lexer.specs.Answers.{HasFault, HasTokens}
use Rattle.kern_lexer.specs.Symbols.{lexemes_of}
use Rattle.kern_lexer.specs.declared.token.Token.{Token}
use Rattle.kern_syntax.specs.Nodes.{program_nodes, shown}
use Rattle.kern_syntax.specs.Tree.{Bytes, ProgramTree}
use Rattle.kern_grammar.specs.Accepted.{IsFirstFault}
use Rattle.kern_expression_types.specs.Verdicts.{fault}
use Rattle.kern_expression_types.specs.declared.fault.TypeKind.{TypeKind}
use Rattle.kern_types.specs.Programs.{IsTyped, program_verdict}
use Rattle.kern_accepted.specs.declared.end.KernelEnd.{KernelEnd}
use Rattle.kern_accepted.specs.declared.end.KernelEnd.TheVariants as E
use Rattle.kern_accepted.specs.declared.end.Refusal.{Refusal}
use Rattle.kern_accepted.specs.declared.end.Refusal.TheVariants as R
use Rattle.kern_accepted.specs.Texts.{IsTextOf}

-- the text has tokens without a tree: the first wrong one has this number, and begins at this byte
pub record HasNoTree (text : Bytes) (place at : ℕ) : Type 0 where
  pub tokens : List Token
  pub lexed : HasTokens text tokens
  pub first : IsFirstFault (lexemes_of text tokens) place
  pub token : Token
  pub found : slice_get tokens place ≡ Some token
  pub begins : at ≡ token.at

-- the text has a program that isn't typed, with this first fault
pub record IsIll (text : Bytes) (line : ℕ) (kind : TypeKind) : Type 0 where
  pub program : ProgramTree
  pub is_text : IsTextOf text program
  pub verdict : program_verdict program ≡ fault line kind

-- the text has a typed program of more nodes than it may have, and so many are shown
pub record IsTooLarge (text : Bytes) (count : ℕ) : Type 0 where
  pub program : ProgramTree
  pub is_text : IsTextOf text program
  pub typed : IsTyped program
  pub large : most_nodes < program_nodes program
  pub counted : count ≡ shown (program_nodes program)

-- a text is refused for its tokens, its tree, its types or its number of nodes
abbrev pub IsRefusedFor : Bytes → Refusal → Type 0
IsRefusedFor text (R.Tokens at kind) = HasFault text (record { at = at; kind = kind })
IsRefusedFor text (R.Tree token at) = HasNoTree text token at
IsRefusedFor text (R.Types line kind) = IsIll text line kind
IsRefusedFor text (R.Nodes count) = IsTooLarge text count

-- an end is why the text is refused; want of memory says nothing of it
abbrev pub IsEndOf : Bytes → KernelEnd → Type 0
IsEndOf text (E.Refused refusal) = IsRefusedFor text refusal
IsEndOf text E.Memory = Unit {0}
