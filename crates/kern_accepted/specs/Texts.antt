-- The texts of kernels, and their programs.
use Rattle.std.specs.Prelude.{◌≤◌, List}
use Rattle.limits.specs.Limits.{most_nodes}
use Rattle.kern_lexer.specs.Answers.{HasTokens}
use Rattle.kern_lexer.specs.Symbols.{lexemes_of}
use Rattle.kern_lexer.specs.declared.token.Token.{Token}
use Rattle.kern_syntax.specs.Nodes.{program_nodes}
use Rattle.kern_syntax.specs.Tree.{Bytes, ProgramTree}
use Rattle.kern_grammar.specs.Accepted.{HasTree}
use Rattle.kern_types.specs.Programs.{IsTyped}

-- the bytes have tokens, and these have the program as their tree
pub record IsTextOf (text : Bytes) (program : ProgramTree) : Type 0 where
  pub tokens : List Token
  pub lexed : HasTokens text tokens
  pub parsed : HasTree (lexemes_of text tokens) program

-- a program is typed and has no more nodes than it may
pub record IsKernel (program : ProgramTree) : Type 0 where
  pub typed : IsTyped program
  pub small : program_nodes program ≤ most_nodes

-- the bytes are the text of an accepted kernel, with this program
pub record IsKernelText (text : Bytes) (program : ProgramTree) : Type 0 where
  pub is_text : IsTextOf text program
  pub kernel : IsKernel program

-- they are the text of no accepted kernel
abbrev pub IsNoKernelText : Bytes → Type 0
IsNoKernelText text = (program : ProgramTree) → ¬ IsKernelText text program
