-- The code of statements.
use Rattle.std.specs.Prelude.{ℕ, zero, suc, ◌+◌, ◌-◌, List, [], ◌∷◌, ◌++◌, pos, ℤ, Bool, true}
use Rattle.std.specs.Prelude.{false, if◌then◌else◌, length, Option, Some, None, bytes_eq, codes}
use Rattle.kern_syntax.specs.Tree.{Bytes, Expression, variable, Statement, pass, break, continue, return, evaluate}
use Rattle.kern_syntax.specs.Tree.{assign, assign_element, augment, augment_element, assign_repeated, assign_list}
use Rattle.kern_syntax.specs.Tree.{if_then, while_do, for_range, parallel, sequential, record_as, try_do, Block, done}
use Rattle.kern_syntax.specs.Tree.{line_then, Otherwise, no_else, else_do, elif_then, Handlers, no_handler, except_then}
use Rattle.kern_calls.specs.declared.types.ValueType.TheVariants.{Int64}
use Rattle.kern_calls.specs.Types.{type_of}
use Rattle.timeline_sem.specs.Statements.{operator_of}
use Rattle.core_isa.specs.declared.code.CodeLine.{CodeLine}
use Rattle.core_isa.specs.declared.code.Mark.{Mark}
use Rattle.core_isa.specs.declared.instr.Instr.{Instr}
use Rattle.core_isa.specs.declared.instr.Instr.TheVariants as I
use Rattle.code_forms.specs.declared.test_kind.TestKind.TheVariants.{Branch, LoopEnd}
use Rattle.code_forms.specs.Conditions.{is_turned, asked, test_instrs, test_size, loop_instrs, loop_size}
use Rattle.code_forms.specs.ExpressionCode.{expression_code, effect_code}
use Rattle.code_forms.specs.Lines.{line, raised, with_handler, with_recording, straight, end_tries}
use Rattle.code_forms.specs.Operations.{operator_instrs}
use Rattle.code_forms.specs.Setting.{Setting, slot_of, length_of, index_of_text}
use Rattle.code_forms.specs.Sizes.{has_second, parallel_begin_size, expression_size, from_size}
use Rattle.code_forms.specs.Sizes.{exit_size, statement_size, block_size, otherwise_size, handlers_size}

-- the enclosing loop: where it goes on, where it ends, and how many handlers there were before it
pub record LoopPlaces : Type 0 where
  pub again : ℕ
  pub past : ℕ
  pub tries : ℕ

-- what stands round a statement: its mark, the first slot that is free, and the enclosing loop
pub record Inside : Type 0 where
  pub mark : Mark
  pub free : ℕ
  pub loop : LoopPlaces

-- so many slots more are in use
abbrev pub keeping : ℕ → Inside → Inside
keeping n inside = record inside { free = inside.free + n }

-- in the body of a loop
abbrev pub in_loop : (again past : ℕ) → Inside → Inside
in_loop again past inside =
    record inside { loop = record { again = again; past = past; tries = inside.mark.tries } }

-- under another mark
abbrev pub under : Mark → Inside → Inside
under mark inside = record inside { mark = mark }

-- the code of an exception's name; none has code 0
abbrev pub code_of_name : Bytes → ℤ
code_of_name name =
    if bytes_eq name (codes "RTIOUnderflow")
    then pos 1
    else (if bytes_eq name (codes "RTIOOverflow")
    then pos 2
    else (if bytes_eq name (codes "DMAError")
    then pos 3
    else (if bytes_eq name (codes "ZeroDivisionError")
    then pos 4
    else (if bytes_eq name (codes "IndexError")
    then pos 5
    else (if bytes_eq name (codes "StackOverflow") then pos 6 else pos 0)))))

-- the loop is left or goes on at a place, without the handlers added inside it
abbrev pub leaving : Inside → (place : ℕ) → List CodeLine
leaving inside to = straight inside.mark (end_tries (inside.mark.tries - inside.loop.tries) ++ I.Jump to ∷ [])

-- the instruction that ends a function, under a mark, without handlers
abbrev pub returning : Mark → List CodeLine
returning mark = straight mark (end_tries mark.tries ++ I.Return ∷ [])

-- what a `return` without value leaves
abbrev pub no_result : Bool → List Instr
no_result true = I.Const (pos 0) ∷ []
no_result false = []

-- a value that a function doesn't have is dropped
abbrev pub no_value : Bool → List Instr
no_value true = []
no_value false = I.Pop ∷ []

-- the mark at a Return
abbrev pub result_mark : Bool → Mark → Mark
result_mark true mark = raised 1 mark
result_mark false mark = mark

-- numbers go from some slots to others, one by one
abbrev pub moved : (count from to : ℕ) → List Instr
moved zero from to = []
moved (suc n) from to = I.Load from ∷ I.Store to ∷ moved n (from + 1) (to + 1)

-- the slot where an element of a list is stored, with so many behind
-- it: a free one, but the last goes to its place in the array
abbrev pub element_slot : (left free last : ℕ) → ℕ
element_slot zero free last = last
element_slot (suc n) free last = free

-- the end of a branch, which goes past the branches that follow
abbrev pub exit : Mark → Otherwise → (end : ℕ) → List CodeLine
exit mark no_else end = []
exit mark rest end = line mark (I.Jump end) ∷ []

-- a branch: the code of its condition and the test, of its
-- body, of the end of the body, and of the branches that follow
abbrev pub branch_lines : Mark → (test : List Instr) → (condition body leave rest : List CodeLine) → List CodeLine
branch_lines mark test condition body leave rest =
    condition ++ straight (raised 1 mark) test ++ body ++ leave ++ rest

-- where a branch tests its condition, where its body begins, where the branches that follow begin, and where they end
abbrev pub test_place : Setting → (place : ℕ) → Expression → ℕ
test_place setting place c = place + expression_size setting (asked Branch c)

abbrev pub then_place : Setting → (place : ℕ) → Expression → ℕ
then_place setting place c = test_place setting place c + test_size (is_turned Branch c)

abbrev pub else_place : Setting → Inside → (place : ℕ) → Expression → Block → Otherwise → ℕ
else_place setting inside place c b rest =
    then_place setting place c + block_size setting inside.mark.tries inside.loop.tries b + exit_size setting rest

abbrev pub end_place : Setting → Inside → (place : ℕ) → Expression → Block → Otherwise → ℕ
end_place setting inside place c b rest =
    else_place setting inside place c b rest + otherwise_size setting inside.mark.tries inside.loop.tries rest

-- where the turns of a `for` begin, after the code of its bounds
abbrev pub turns_place : Setting → (place : ℕ) → Option Expression → Expression → ℕ
turns_place setting place from to = place + from_size setting from + expression_size setting to

-- the bounds of a `for` are kept, and a turn begins: the number of the next turn and the end are in free slots
abbrev pub for_begins : Setting → Inside → (name : Bytes) → (again : ℕ) → List Instr
for_begins setting inside x again =
    I.Store (inside.free + 1)
    ∷ I.Store inside.free
    ∷ I.Jump again
    ∷ I.Turn
    ∷ I.Load inside.free
    ∷ I.Dup
    ∷ I.Store (slot_of setting x)
    ∷ I.Const (pos 1)
    ∷ I.Add
    ∷ I.Store inside.free
    ∷ []

-- a turn ends: the next one begins where there is one
abbrev pub for_goes_on : Inside → (turn : ℕ) → List Instr
for_goes_on inside turn = I.Load (inside.free + 1) ∷ I.Load inside.free ∷ I.Le ∷ I.JumpZero turn ∷ []

-- a parallel block begins: the cursor is kept as the greatest end
-- so far and, if there is a second statement, as its start too
abbrev pub parallel_begins : Inside → (second : Bool) → List Instr
parallel_begins inside true = I.Now ∷ I.Dup ∷ I.Store inside.free ∷ I.Store (inside.free + 1) ∷ []
parallel_begins inside false = I.Now ∷ I.Store (inside.free + 1) ∷ []

-- a statement of a parallel block has ended, whose end counts where it is the
-- greatest: the next one begins at the start, or the block ends at the greatest end
abbrev pub next_begins : Inside → List Instr
next_begins inside =
    I.Load (inside.free - 1)
    ∷ I.Now
    ∷ I.Max
    ∷ I.Store (inside.free - 1)
    ∷ I.Load (inside.free - 2)
    ∷ I.At
    ∷ []

abbrev pub parallel_ends : Inside → List Instr
parallel_ends inside = I.Load (inside.free - 1) ∷ I.Now ∷ I.Max ∷ I.At ∷ []

module _ (setting : Setting) where
  -- an expression in a statement
  abbrev pub value_code : Inside → (place : ℕ) → Expression → List CodeLine
  value_code inside place e = expression_code setting inside.free inside.mark place e

  -- an expression with one operand more below it
  abbrev pub second_code : Inside → (place : ℕ) → Expression → List CodeLine
  second_code inside place e = expression_code setting inside.free (raised 1 inside.mark) place e

  -- the value of a `return`
  abbrev pub return_code : Inside → (place : ℕ) → Option Expression → List CodeLine
  return_code inside place None = straight inside.mark (no_result setting.value)
  return_code inside place (Some e) =
      value_code inside place e ++ straight (raised 1 inside.mark) (no_value setting.value)

  -- where a `for` begins
  abbrev pub from_code : Inside → (place : ℕ) → Option Expression → List CodeLine
  from_code inside place None = line inside.mark (I.Const (pos 0)) ∷ []
  from_code inside place (Some e) = value_code inside place e

  -- some expressions, each of which is stored in a free slot, but the last one in its place in the array
  abbrev pub stored_code : Inside → (last place : ℕ) → List Expression → List CodeLine
  stored_code inside last place [] = []
  stored_code inside last place (e ∷ rest) =
      value_code inside place e
      ++ line (raised 1 inside.mark) (I.Store (element_slot (length rest) inside.free last))
      ∷ stored_code (keeping 1 inside) last (place + expression_size setting e + 1) rest

  abbrev mutual
    -- a statement at a place: it leaves nothing on the operands
    pub statement_code : Inside → (place : ℕ) → Statement → List CodeLine
    statement_code inside place pass = []
    statement_code inside place break = leaving inside inside.loop.past
    statement_code inside place continue = leaving inside inside.loop.again
    statement_code inside place (return e) =
        return_code inside place e ++ returning (result_mark setting.value inside.mark)
    statement_code inside place (evaluate e) = effect_code setting inside.free inside.mark place e
    statement_code inside place (assign x e) =
        value_code inside place e ++ straight (raised 1 inside.mark) (I.Store (slot_of setting x) ∷ [])
    statement_code inside place (assign_element x i e) =
        value_code inside place e
        ++ second_code inside (place + expression_size setting e) i
        ++ straight (raised 2 inside.mark) (I.StoreAt (slot_of setting x) (length_of setting x) ∷ [])
    statement_code inside place (augment x op e) =
        line inside.mark (I.Load (slot_of setting x))
        ∷ second_code inside (place + 1) e
        ++ straight
        (raised 2 inside.mark)
        (operator_instrs (operator_of op) (type_of setting.scope (variable x)) ++ I.Store (slot_of setting x) ∷ [])
    statement_code inside place (augment_element x i op e) =
        value_code inside place i
        ++ straight
        (raised 1 inside.mark)
        (I.Dup ∷ I.Store inside.free ∷ I.LoadAt (slot_of setting x) (length_of setting x) ∷ [])
        ++ second_code (keeping 1 inside) (place + expression_size setting i + 3) e
        ++ straight
        (raised 2 inside.mark)
        (operator_instrs (operator_of op) Int64
        ++ I.Load inside.free
        ∷ I.StoreAt (slot_of setting x) (length_of setting x)
        ∷ [])
    statement_code inside place (assign_repeated x e n) =
        value_code inside place e
        ++ straight (raised 1 inside.mark) (I.Fill (slot_of setting x) (length_of setting x) ∷ [])
    statement_code inside place (assign_list x es) =
        stored_code inside (slot_of setting x + (length es - 1)) place es
        ++ straight inside.mark (moved (length es - 1) inside.free (slot_of setting x))
    statement_code inside place (if_then c b rest) =
        branch_lines
        inside.mark
        (test_instrs (is_turned Branch c) (test_place setting place c) (else_place setting inside place c b rest))
        (value_code inside place (asked Branch c))
        (block_code inside (then_place setting place c) b)
        (exit inside.mark rest (end_place setting inside place c b rest))
        (otherwise_code inside (else_place setting inside place c b rest) rest)
    statement_code inside place (while_do c b) =
        line inside.mark (I.Jump (place + 2 + block_size setting inside.mark.tries inside.mark.tries b))
        ∷ line inside.mark I.Turn
        ∷ block_code
        (in_loop
        (place + 2 + block_size setting inside.mark.tries inside.mark.tries b)
        (place
        + 2
        + block_size setting inside.mark.tries inside.mark.tries b
        + expression_size setting (asked LoopEnd c)
        + loop_size (is_turned LoopEnd c))
        inside)
        (place + 2)
        b
        ++ value_code inside (place + 2 + block_size setting inside.mark.tries inside.mark.tries b) (asked LoopEnd c)
        ++ straight
        (raised 1 inside.mark)
        (loop_instrs
        (is_turned LoopEnd c)
        (place + 1)
        (place
        + 2
        + block_size setting inside.mark.tries inside.mark.tries b
        + expression_size setting (asked LoopEnd c)
        + loop_size (is_turned LoopEnd c)))
    statement_code inside place (for_range x from to b) =
        from_code inside place from
        ++ second_code inside (place + from_size setting from) to
        ++ straight
        (raised 2 inside.mark)
        (for_begins setting inside x (turns_place setting place from to + 10 + block_size setting inside.mark.tries inside.mark.tries b))
        ++ block_code
        (in_loop
        (turns_place setting place from to + 10 + block_size setting inside.mark.tries inside.mark.tries b)
        (turns_place setting place from to + 10 + block_size setting inside.mark.tries inside.mark.tries b + 4)
        (keeping 2 inside))
        (turns_place setting place from to + 10)
        b
        ++ straight inside.mark (for_goes_on inside (turns_place setting place from to + 3))
    statement_code inside place (parallel b) =
        straight inside.mark (parallel_begins inside (has_second b))
        ++ parallel_code (keeping 2 inside) (place + parallel_begin_size (has_second b)) b
    statement_code inside place (sequential b) = block_code inside place b
    statement_code inside place (record_as name b) =
        line inside.mark (I.Record (index_of_text setting name))
        ∷ block_code (under (with_recording inside.mark) inside) (place + 1) b
        ++ line (with_recording inside.mark) I.Save
        ∷ []
    statement_code inside place (try_do b handlers) =
        line
        inside.mark
        (I.Try (place + 1 + block_size setting (inside.mark.tries + 1) inside.loop.tries b + 2))
        ∷ block_code (under (with_handler inside.mark) inside) (place + 1) b
        ++ straight
        (with_handler inside.mark)
        (I.EndTry
        ∷ I.Jump
        (place
        + 1
        + block_size setting (inside.mark.tries + 1) inside.loop.tries b
        + 2
        + handlers_size setting inside.mark.tries inside.loop.tries handlers)
        ∷ [])
        ++ handlers_code
        inside
        (place + 1 + block_size setting (inside.mark.tries + 1) inside.loop.tries b + 2)
        (place
        + 1
        + block_size setting (inside.mark.tries + 1) inside.loop.tries b
        + 2
        + handlers_size setting inside.mark.tries inside.loop.tries handlers)
        handlers

    -- the statements of a block, one after another
    pub block_code : Inside → (place : ℕ) → Block → List CodeLine
    block_code inside place done = []
    block_code inside place (line_then line s rest) =
        statement_code inside place s
        ++ block_code inside (place + statement_size setting inside.mark.tries inside.loop.tries s) rest

    -- the statements of a parallel block: its greatest end is kept in the last
    -- slot in use and, if there is a second one, its start in the slot before that
    pub parallel_code : Inside → (place : ℕ) → Block → List CodeLine
    parallel_code inside place done = []
    parallel_code inside place (line_then line s rest) =
        statement_code inside place s
        ++ others_code inside (place + statement_size setting inside.mark.tries inside.loop.tries s) rest

    -- those behind one of them: its end counts where it is the greatest, and the next one begins at the start
    pub others_code : Inside → (place : ℕ) → Block → List CodeLine
    others_code inside place done = straight inside.mark (parallel_ends inside)
    others_code inside place (line_then line s rest) =
        straight inside.mark (next_begins inside)
        ++ statement_code inside (place + 6) s
        ++ others_code inside (place + 6 + statement_size setting inside.mark.tries inside.loop.tries s) rest

    -- the further branches of an `if`
    pub otherwise_code : Inside → (place : ℕ) → Otherwise → List CodeLine
    otherwise_code inside place no_else = []
    otherwise_code inside place (else_do b) = block_code inside place b
    otherwise_code inside place (elif_then _ c b rest) =
        branch_lines
        inside.mark
        (test_instrs (is_turned Branch c) (test_place setting place c) (else_place setting inside place c b rest))
        (value_code inside place (asked Branch c))
        (block_code inside (then_place setting place c) b)
        (exit inside.mark rest (end_place setting inside place c b rest))
        (otherwise_code inside (else_place setting inside place c b rest) rest)

    -- the handlers of a `try`, with the exception's code on the operands; each goes on at the end
    pub handlers_code : Inside → (place end : ℕ) → Handlers → List CodeLine
    handlers_code inside place end no_handler = line (raised 1 inside.mark) I.Raise ∷ []
    handlers_code inside place end (except_then _ name b rest) =
        straight
        (raised 1 inside.mark)
        (I.Dup
        ∷ I.Const (code_of_name name)
        ∷ I.Eq
        ∷ I.JumpZero (place + 5 + block_size setting inside.mark.tries inside.loop.tries b + 1)
        ∷ I.Pop
        ∷ [])
        ++ block_code inside (place + 5) b
        ++ line inside.mark (I.Jump end)
        ∷ handlers_code inside (place + 5 + block_size setting inside.mark.tries inside.loop.tries b + 1) end rest
