-- What it means that a tree can be printed and read again.
use Rattle.std.specs.Prelude.{List}
use Rattle.kern_lexer.specs.Answers.{HasTokens}
use Rattle.kern_lexer.specs.Symbols.{lexemes_of}
use Rattle.kern_lexer.specs.declared.token.Token.{Token}
use Rattle.kern_grammar.specs.Accepted.{HasTree}
use Rattle.kern_syntax.specs.Lines.{SameButLines}
use Rattle.kern_syntax.specs.Print.{program_text}
use Rattle.kern_syntax.specs.Tree.{ProgramTree}

-- the canonical text of a tree has tokens, and these have the tree again, lines aside
pub record PrintsBack (tree : ProgramTree) : Type 0 where
  pub tokens : List Token
  pub again : ProgramTree
  pub lexed : HasTokens (program_text tree) tokens
  pub parsed : HasTree (lexemes_of (program_text tree) tokens) again
  pub same : SameButLines again tree
