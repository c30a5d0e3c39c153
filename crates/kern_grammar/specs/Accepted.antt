-- Which token lists are accepted, with which trees.
use Rattle.std.specs.Prelude.{ℕ, suc, List, ◌++◌, take}
use Rattle.kern_lexer.specs.Symbols.{Lexeme}
use Rattle.kern_syntax.specs.Grammatical.{IsGrammatical}
use Rattle.kern_syntax.specs.Tree.{ProgramTree}
use Rattle.kern_grammar.specs.Blocks.{program}

-- a token list has a tree
pub record HasTree (tokens : List Lexeme) (tree : ProgramTree) : Type 0 where
  pub spelled : program tree tokens
  pub grammatical : IsGrammatical tree

-- a token list begins an accepted one
pub record Begins (tokens : List Lexeme) : Type 0 where
  pub more : List Lexeme
  pub tree : ProgramTree
  pub accepted : HasTree (tokens ++ more) tree

-- the tokens before a place begin an accepted list, and those through it don't
pub record IsFirstFault (tokens : List Lexeme) (place : ℕ) : Type 0 where
  pub before : Begins (take place tokens)
  pub through : ¬ Begins (take (suc place) tokens)
