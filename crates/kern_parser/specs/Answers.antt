-- What the parser's answers say.
use Rattle.std.specs.Prelude.{List}
use Rattle.kern_lexer.specs.Symbols.{Lexeme}
use Rattle.kern_grammar.specs.Accepted.{HasTree, IsFirstFault}
use Rattle.kern_syntax.specs.Tree.{ProgramTree}
use Rattle.kern_parser.specs.declared.parsing.SyntaxEnd.{SyntaxEnd}
use Rattle.kern_parser.specs.declared.parsing.SyntaxEnd.TheVariants as E

-- an end is the first fault, or want of memory where there is a tree
abbrev pub EndsRightly : List Lexeme → SyntaxEnd → Type 0
EndsRightly tokens (E.Fault place) = IsFirstFault tokens place
EndsRightly tokens E.Memory = (tree : ProgramTree) × HasTree tokens tree

-- an end is want of memory
abbrev pub IsMemory : SyntaxEnd → Type 0
IsMemory (E.Fault place) = ⊥
IsMemory E.Memory = Unit {0}
