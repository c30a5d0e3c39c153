-- Parts of the code of statements, as they are put.
use Rattle.std.specs.Prelude.{ℕ, zero, suc, ◌+◌, List, [], ◌∷◌, ◌++◌, Bool, true, false}
use Rattle.kern_syntax.specs.Tree.{Bytes, Expression, Block, Otherwise, no_else, Handlers, no_handler, except_then}
use Rattle.core_isa.specs.declared.code.CodeLine.{CodeLine}
use Rattle.core_isa.specs.declared.instr.Instr.TheVariants as I
use Rattle.code_forms.specs.declared.test_kind.TestKind.TheVariants.{Branch}
use Rattle.code_forms.specs.Conditions.{is_turned, asked, test_instrs}
use Rattle.code_forms.specs.Lines.{line, raised, straight, with_handler}
use Rattle.code_forms.specs.Setting.{Setting}
use Rattle.code_forms.specs.Sizes.{block_size, exit_size, expression_size, when}
use Rattle.code_forms.specs.StatementCode.{Inside, keeping, in_loop, under, code_of_name, exit, test_place}
use Rattle.code_forms.specs.StatementCode.{then_place, for_begins, for_goes_on, value_code, second_code}
use Rattle.code_forms.specs.StatementCode.{block_code, parallel_code, others_code, otherwise_code}

-- further branches follow, or an `else`
abbrev pub is_followed : Otherwise → Bool
is_followed no_else = false
is_followed rest = true

module _ (setting : Setting) (inside : Inside) where
  -- a branch, without the jump past what follows: what is asked for its condition, the test and its body
  abbrev pub branch_code : (place : ℕ) → Expression → Block → (followed : Bool) → List CodeLine
  branch_code place c b followed =
      value_code setting inside place (asked Branch c)
      ++ straight
      (raised 1 inside.mark)
      (test_instrs
      (is_turned Branch c)
      (test_place setting place c)
      (then_place setting place c + block_size setting inside.mark.tries inside.loop.tries b + when followed))
      ++ block_code setting inside (then_place setting place c) b

  -- what follows a branch, with the jump past it before it
  abbrev pub followed_code : (place end : ℕ) → Otherwise → List CodeLine
  followed_code place end rest =
      exit inside.mark rest end ++ otherwise_code setting inside (place + exit_size setting rest) rest

  -- a `for`, once its first bound is on the operands
  abbrev pub turns_code : (place : ℕ) → (name : Bytes) → (to : Expression) → Block → List CodeLine
  turns_code place x to b =
      second_code setting inside place to
      ++ straight
      (raised 2 inside.mark)
      (for_begins setting inside x (place + expression_size setting to + 10 + block_size setting inside.mark.tries inside.mark.tries b))
      ++ block_code
      setting
      (in_loop
      (place + expression_size setting to + 10 + block_size setting inside.mark.tries inside.mark.tries b)
      (place + expression_size setting to + 10 + block_size setting inside.mark.tries inside.mark.tries b + 4)
      (keeping 2 inside))
      (place + expression_size setting to + 10)
      b
      ++ straight inside.mark (for_goes_on inside (place + expression_size setting to + 3))

  -- how many instructions those are
  abbrev pub turns_size : (to : Expression) → Block → ℕ
  turns_size to b =
      expression_size setting to + (10 + (block_size setting inside.mark.tries inside.mark.tries b + 4))

  -- the body of a `try`, up to its handlers
  abbrev pub tried_code : (place end : ℕ) → Block → List CodeLine
  tried_code place end b =
      line
      inside.mark
      (I.Try (place + 1 + block_size setting (inside.mark.tries + 1) inside.loop.tries b + 2))
      ∷ block_code setting (under (with_handler inside.mark) inside) (place + 1) b
      ++ straight (with_handler inside.mark) (I.EndTry ∷ I.Jump end ∷ [])

  -- how many instructions those are
  abbrev pub tried_size : Block → ℕ
  tried_size b = 1 + (block_size setting (inside.mark.tries + 1) inside.loop.tries b + 2)

  -- the first one of some handlers
  abbrev pub handler_code : (place end : ℕ) → Handlers → List CodeLine
  handler_code place end no_handler = []
  handler_code place end (except_then _ name b rest) =
      straight
      (raised 1 inside.mark)
      (I.Dup
      ∷ I.Const (code_of_name name)
      ∷ I.Eq
      ∷ I.JumpZero (place + 5 + block_size setting inside.mark.tries inside.loop.tries b + 1)
      ∷ I.Pop
      ∷ [])
      ++ block_code setting inside (place + 5) b
      ++ line inside.mark (I.Jump end)
      ∷ []

  -- how many instructions that one is
  abbrev pub handler_size : Handlers → ℕ
  handler_size no_handler = 0
  handler_size (except_then _ name b rest) = 5 + (block_size setting inside.mark.tries inside.loop.tries b + 1)

-- the statements of a parallel block that are left behind so many
abbrev pub left_code : Setting → Inside → (done place : ℕ) → Block → List CodeLine
left_code setting inside zero place b = parallel_code setting inside place b
left_code setting inside (suc done) place b = others_code setting inside place b
