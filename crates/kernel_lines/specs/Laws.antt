-- There are as many lines as instructions, and which instructions have one.
use Rattle.std.specs.Prelude.{◌≡◌, ℕ, ◌≤◌, List, length, slice_get, Some}
use Rattle.kern_lexer.specs.Answers.{HasTokens}
use Rattle.kern_lexer.specs.Symbols.{lexemes_of}
use Rattle.kern_lexer.specs.declared.token.Token.{Token}
use Rattle.kern_syntax.specs.Tree.{Bytes, Statement, Block, Otherwise, Handlers, ProgramTree}
use Rattle.kern_grammar.specs.Accepted.{HasTree}
use Rattle.core_isa.specs.declared.code.CodeFunction.{CodeFunction}
use Rattle.core_isa.specs.Machine.{Machine, ends, unanswered}
use Rattle.core_isa.specs.Runs.{step}
use Rattle.code_forms.specs.Programs.{code_of_program}
use Rattle.code_forms.specs.Setting.{Setting}
use Rattle.code_forms.specs.Sizes.{statement_size, block_size, parallel_size, others_size, otherwise_size, handlers_size}
use Rattle.kernel_lines.specs.HaveLines.{ProgramHasLines}
use Rattle.kernel_lines.specs.KernelLines.{statement_lines, block_lines, parallel_lines, others_lines}
use Rattle.kernel_lines.specs.KernelLines.{otherwise_lines, handlers_lines, program_lines}

-- each part has as many lines as its code has instructions
pub record HaveTheirSize (setting : Setting) : Type 0 where
  pub statements : (tries kept line : ℕ) (s : Statement)
      → length (statement_lines setting tries kept line s) ≡ statement_size setting tries kept s
  pub blocks : (tries kept : ℕ) (b : Block) → length (block_lines setting tries kept b) ≡ block_size setting tries kept b
  pub parallel_blocks : (tries kept header : ℕ) (b : Block)
      → length (parallel_lines setting tries kept header b) ≡ parallel_size setting tries kept b
  pub others : (tries kept header : ℕ) (b : Block)
      → length (others_lines setting tries kept header b) ≡ others_size setting tries kept b
  pub branches : (tries kept : ℕ) (rest : Otherwise)
      → length (otherwise_lines setting tries kept rest) ≡ otherwise_size setting tries kept rest
  pub handlers : (tries kept : ℕ) (handlers : Handlers)
      → length (handlers_lines setting tries kept handlers) ≡ handlers_size setting tries kept handlers

-- a program has as many lines as its code has instructions
abbrev pub InstructionsHaveLines : ProgramTree → Type 0
InstructionsHaveLines program = length (program_lines program) ≡ length (code_of_program program).lines

-- the tree of a text's tokens stands on lines
abbrev pub TextsHaveLines : Type 0
TextsHaveLines =
    (text : Bytes) (tokens : List Token) (program : ProgramTree)
    → HasTokens text tokens
    → HasTree (lexemes_of text tokens) program
    → ProgramHasLines program

-- the instruction at a place has a line of the text
abbrev pub HasLine : List ℕ → (place : ℕ) → Type 0
HasLine lines place = (line : ℕ) × (slice_get lines place ≡ Some line) × (1 ≤ line)

-- each instruction that asks for what it gets no reply to has one
abbrev pub AskersHaveLines : ProgramTree → Type 0
AskersHaveLines program =
    (m last : Machine)
    → step (code_of_program program) m ≡ ends unanswered last
    → HasLine (program_lines program) m.top.place

-- and so has the first one of each function
abbrev pub FirstsHaveLines : ProgramTree → Type 0
FirstsHaveLines program =
    (index : ℕ) (f : CodeFunction)
    → slice_get (code_of_program program).functions index ≡ Some f
    → HasLine (program_lines program) f.first
