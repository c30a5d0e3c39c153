-- Laws of the code.
use Rattle.std.specs.Prelude.{◌≡◌, ℕ, List, length}
use Rattle.kern_syntax.specs.Tree.{Bytes, Expression, Statement, Block, Otherwise, Handlers, FunctionTree, ProgramTree}
use Rattle.core_isa.specs.declared.code.Mark.{Mark}
use Rattle.code_forms.specs.ExpressionCode.{expression_code, effect_code}
use Rattle.code_forms.specs.Programs.{function_code, function_size}
use Rattle.code_forms.specs.Setting.{Setting}
use Rattle.code_forms.specs.Sizes.{expression_size, effect_size, statement_size, block_size}
use Rattle.code_forms.specs.Sizes.{parallel_size, others_size, otherwise_size, handlers_size}
use Rattle.code_forms.specs.StatementCode.{Inside, statement_code, block_code, parallel_code}
use Rattle.code_forms.specs.StatementCode.{others_code, otherwise_code, handlers_code}

-- the code of each part has as many lines as its size says, at any place, under any mark and whatever slots are free
pub record HasItsSize (setting : Setting) : Type 0 where
  pub expressions : (free : ℕ) (mark : Mark) (place : ℕ) (e : Expression)
      → length (expression_code setting free mark place e) ≡ expression_size setting e
  pub effects : (free : ℕ) (mark : Mark) (place : ℕ) (e : Expression)
      → length (effect_code setting free mark place e) ≡ effect_size setting e
  pub statements : (inside : Inside) (place : ℕ) (s : Statement)
      → length (statement_code setting inside place s) ≡ statement_size setting inside.mark.tries inside.loop.tries s
  pub blocks : (inside : Inside) (place : ℕ) (b : Block)
      → length (block_code setting inside place b) ≡ block_size setting inside.mark.tries inside.loop.tries b
  pub parallel_blocks : (inside : Inside) (place : ℕ) (b : Block)
      → length (parallel_code setting inside place b) ≡ parallel_size setting inside.mark.tries inside.loop.tries b
  pub others : (inside : Inside) (place : ℕ) (b : Block)
      → length (others_code setting inside place b) ≡ others_size setting inside.mark.tries inside.loop.tries b
  pub branches : (inside : Inside) (place : ℕ) (rest : Otherwise)
      → length (otherwise_code setting inside place rest) ≡ otherwise_size setting inside.mark.tries inside.loop.tries rest
  pub handlers : (inside : Inside) (place end : ℕ) (handlers : Handlers)
      → length (handlers_code setting inside place end handlers)
      ≡ handlers_size setting inside.mark.tries inside.loop.tries handlers

-- so has the code of a function of a program
abbrev pub FunctionsHaveTheirSize : ProgramTree → (texts : List Bytes) → Type 0
FunctionsHaveTheirSize program texts =
    (place : ℕ) (f : FunctionTree) → length (function_code program texts place f) ≡ function_size program texts f
