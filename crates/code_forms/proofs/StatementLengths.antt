-- The code of statements, blocks and functions has as many instructions as its size says.
use Rattle.std.proofs.Common.{◌≡◌, ℕ, zero, suc, ◌+◌, ◌-◌, ◌*◌, List, [], ◌∷◌, ◌++◌, length, Option, Some, None, refl, ◌∙◌, ap, arith, length-append}
use Rattle.std.specs.Prelude.{Bool, true, false}
use Rattle.std.proofs.lemmas.List.{length-replicate}
use Rattle.kern_syntax.specs.Tree.{Bytes, Expression, integer, true_literal, false_literal, variable, element, group, unary, binary, compare, negation, conjunction, disjunction, call, method, Arguments, Statement, pass, break, continue, return, evaluate, assign, assign_element, augment, augment_element, assign_repeated, assign_list, if_then, while_do, for_range, parallel, sequential, record_as, try_do, Block, done, line_then, Otherwise, no_else, else_do, elif_then, Handlers, no_handler, except_then, ProgramTree}
use Rattle.kern_calls.specs.declared.types.ValueType.TheVariants.{Int64}
use Rattle.kern_calls.specs.Calls.{builtin_named, method_named}
use Rattle.kern_calls.specs.Types.{type_of}
use Rattle.timeline_sem.specs.Expressions.{text_in}
use Rattle.timeline_sem.specs.Statements.{operator_of}
use Rattle.core_isa.specs.declared.code.CodeLine.{CodeLine}
use Rattle.core_isa.specs.declared.code.Mark.{Mark}
use Rattle.core_isa.specs.declared.instr.Instr.{Instr}
use Rattle.core_isa.specs.declared.instr.Instr.TheVariants as I
use Rattle.core_isa.specs.Marks.{first_mark}
use Rattle.code_forms.specs.declared.test_kind.TestKind.TheVariants.{Branch, LoopEnd}
use Rattle.code_forms.specs.Conditions.{is_turned, asked, test_instrs, test_size, loop_instrs, loop_size}
use Rattle.code_forms.specs.ExpressionCode.{expression_code, arguments_code, call_code, method_code, effect_code, dropped, numbers_in}
use Rattle.code_forms.specs.Laws.{HasItsSize, FunctionsHaveTheirSize}
use Rattle.code_forms.specs.Lines.{line, raised, with_handler, with_recording, straight, end_tries}
use Rattle.code_forms.specs.Operations.{operator_instrs, call_instrs, call_has_value, takes_numbers, array_argument, method_instrs, method_has_value}
use Rattle.code_forms.specs.Programs.{body_inside, setting_of}
use Rattle.code_forms.specs.Setting.{Setting, slot_of, length_of, index_of_text}
use Rattle.code_forms.specs.Sizes.{when, unless, expression_size, arguments_size, call_size, method_size, effect_size, stored_size, return_size, from_size, exit_size, has_second, parallel_begin_size, statement_size, block_size, parallel_size, others_size, otherwise_size, handlers_size}
use Rattle.code_forms.specs.StatementCode.{Inside, keeping, in_loop, under, code_of_name, leaving, returning, no_result, no_value, result_mark, moved, element_slot, exit, branch_lines, then_place, else_place, end_place, turns_place, for_begins, for_goes_on, parallel_begins, next_begins, value_code, second_code, return_code, from_code, stored_code, statement_code, block_code, parallel_code, others_code, otherwise_code, handlers_code}
use Rattle.code_forms.proofs.Lengths.{length-straight, length-method, length-expression, length-arguments, call_length}

-- parts one after another
two : (a b : List CodeLine) {n m : ℕ} → length a ≡ n → length b ≡ m → length (a ++ b) ≡ n + m
two a b ea eb = omega (arith, length-append a b, ea, eb)

three : (a b c : List CodeLine) {n m k : ℕ} → length a ≡ n → length b ≡ m → length c ≡ k → length (a ++ b ++ c) ≡ n + (m + k)
three a b c ea eb ec = omega (arith, length-append (a ++ b) c, two a b ea eb, ec)

four : (a b c d : List CodeLine) {n m k l : ℕ} → length a ≡ n → length b ≡ m → length c ≡ k → length d ≡ l → length (a ++ b ++ c ++ d) ≡ n + (m + (k + l))
four a b c d ea eb ec ed = omega (arith, length-append (a ++ b ++ c) d, three a b c ea eb ec, ed)

five : (a b c d e : List CodeLine) {n m k l j : ℕ} → length a ≡ n → length b ≡ m → length c ≡ k → length d ≡ l → length e ≡ j → length (a ++ b ++ c ++ d ++ e) ≡ n + (m + (k + (l + j)))
five a b c d e ea eb ec ed ee = omega (arith, length-append (a ++ b ++ c ++ d) e, four a b c d ea eb ec ed, ee)

length-dropped : (mark : Mark) (b : Bool) → length (dropped mark b) ≡ when b
length-dropped mark true = refl
length-dropped mark false = refl

length-leaving : (inside : Inside) (to : ℕ) → length (leaving inside to) ≡ inside.mark.tries - inside.loop.tries + 1
length-leaving inside to =
    let n = inside.mark.tries - inside.loop.tries in
    length-straight inside.mark (end_tries n ++ I.Jump to ∷ [])
    ∙ (length-append (end_tries n) (I.Jump to ∷ []) ∙ ap (λ k. k + 1) (length-replicate n I.EndTry))

length-returning : (mark : Mark) → length (returning mark) ≡ mark.tries + 1
length-returning mark =
    length-straight mark (end_tries mark.tries ++ I.Return ∷ [])
    ∙ (length-append (end_tries mark.tries) (I.Return ∷ []) ∙ ap (λ k. k + 1) (length-replicate mark.tries I.EndTry))

pub tries-result : (value : Bool) (mark : Mark) → (result_mark value mark).tries ≡ mark.tries
tries-result true mark = refl
tries-result false mark = refl

pub length-no_result : (value : Bool) → length (no_result value) ≡ when value
length-no_result true = refl
length-no_result false = refl

pub length-no_value : (value : Bool) → length (no_value value) ≡ unless value
length-no_value true = refl
length-no_value false = refl

pub length-moved : (n from to : ℕ) → length (moved n from to) ≡ 2 * n
length-moved zero from to = refl
length-moved (suc n) from to = omega (arith, length-moved n (from + 1) (to + 1))

-- the test of a branch, and of a loop
pub length-test : (mark : Mark) (turned : Bool) (place elsewhere : ℕ) → length (straight mark (test_instrs turned place elsewhere)) ≡ test_size turned
length-test mark false place elsewhere = refl
length-test mark true place elsewhere = refl

pub length-loop : (mark : Mark) (turned : Bool) (turn past : ℕ) → length (straight mark (loop_instrs turned turn past)) ≡ loop_size turned
length-loop mark false turn past = refl
length-loop mark true turn past = refl

length-branch : (mark : Mark) (test : List Instr) (c b l r : List CodeLine) {nc nt nb nl nr : ℕ} → length c ≡ nc → length (straight (raised 1 mark) test) ≡ nt → length b ≡ nb → length l ≡ nl → length r ≡ nr → length (branch_lines mark test c b l r) ≡ nc + (nt + (nb + (nl + nr)))
length-branch mark test c b l r ec et eb el er =
    five c (straight (raised 1 mark) test) b l r ec et eb el er

-- the beginning of a parallel block
pub length-begin : (mark : Mark) (inside : Inside) (second : Bool) → length (straight mark (parallel_begins inside second)) ≡ parallel_begin_size second
length-begin mark inside true = refl
length-begin mark inside false = refl

module _ (setting : Setting) where
  pub length-exit : (mark : Mark) (rest : Otherwise) (end : ℕ) → length (exit mark rest end) ≡ exit_size setting rest
  length-exit mark no_else end = refl
  length-exit mark (else_do b) end = refl
  length-exit mark (elif_then line c b rest) end = refl

  -- an expression whose value is dropped
  popped : (free : ℕ) (mark : Mark) (place : ℕ) (e : Expression) → length (expression_code setting free mark place e ++ line (raised 1 mark) I.Pop ∷ []) ≡ expression_size setting e + 1
  popped free mark place e = two _ _ (length-expression setting free mark place e) refl

  -- a call by name, and one of a method
  pub length-call : (free : ℕ) (mark : Mark) (place : ℕ) (f : Bytes) (args : Arguments) → length (call_code setting free mark place f args) ≡ call_size setting f args
  length-call free mark place f args =
      let numbers = arguments_code setting free mark place args in
      let is = call_instrs setting f (text_in args) (array_argument setting args) (builtin_named f) in
      call_length mark (raised (numbers_in args) mark) numbers is (arguments_size setting args) (takes_numbers (array_argument setting args) (builtin_named f)) (length-arguments setting free mark place args)

  pub length-method_code : (free : ℕ) (mark : Mark) (place : ℕ) (o m : Bytes) (args : Arguments) → length (method_code setting free mark place o m args) ≡ method_size setting o m args
  length-method_code free mark place o m args =
      let at = place + arguments_size setting args in
      let own = method_instrs setting free at (text_in args) (method_named o m) in
      two _ _ (length-arguments setting free mark place args) (length-straight (raised (numbers_in args) mark) own ∙ length-method setting free at (text_in args) (method_named o m))

  pub length-effect : (free : ℕ) (mark : Mark) (place : ℕ) (e : Expression) → length (effect_code setting free mark place e) ≡ effect_size setting e
  length-effect free mark place (integer n) = popped free mark place (integer n)
  length-effect free mark place true_literal = popped free mark place true_literal
  length-effect free mark place false_literal = popped free mark place false_literal
  length-effect free mark place (variable x) = popped free mark place (variable x)
  length-effect free mark place (element x i) = popped free mark place (element x i)
  length-effect free mark place (group e) = length-effect free mark place e
  length-effect free mark place (unary op e) = popped free mark place (unary op e)
  length-effect free mark place (binary op a b) = popped free mark place (binary op a b)
  length-effect free mark place (compare op a b) = popped free mark place (compare op a b)
  length-effect free mark place (negation e) = popped free mark place (negation e)
  length-effect free mark place (conjunction a b) = popped free mark place (conjunction a b)
  length-effect free mark place (disjunction a b) = popped free mark place (disjunction a b)
  length-effect free mark place (call f args) =
      two _ _ (length-call free mark place f args) (length-dropped mark (call_has_value setting f (builtin_named f)))
  length-effect free mark place (method o m args) =
      two _ _ (length-method_code free mark place o m args) (length-dropped mark (method_has_value (method_named o m)))

  length-value : (inside : Inside) (place : ℕ) (e : Expression) → length (value_code setting inside place e) ≡ expression_size setting e
  length-value inside place e = length-expression setting inside.free inside.mark place e

  length-second : (inside : Inside) (place : ℕ) (e : Expression) → length (second_code setting inside place e) ≡ expression_size setting e
  length-second inside place e = length-expression setting inside.free (raised 1 inside.mark) place e

  pub length-return : (inside : Inside) (place : ℕ) (e : Option Expression) → length (return_code setting inside place e) ≡ return_size setting e
  length-return inside place None = length-straight inside.mark (no_result setting.value) ∙ length-no_result setting.value
  length-return inside place (Some e) =
      two _ _ (length-value inside place e) (length-straight (raised 1 inside.mark) (no_value setting.value) ∙ length-no_value setting.value)

  pub length-from : (inside : Inside) (place : ℕ) (from : Option Expression) → length (from_code setting inside place from) ≡ from_size setting from
  length-from inside place None = refl
  length-from inside place (Some e) = length-value inside place e

  pub length-stored : (inside : Inside) (own place : ℕ) (es : List Expression) → length (stored_code setting inside own place es) ≡ stored_size setting es
  length-stored inside own place [] = refl
  length-stored inside own place (e ∷ rest) =
      two (value_code setting inside place e) (line (raised 1 inside.mark) (I.Store (element_slot (length rest) inside.free own)) ∷ stored_code setting (keeping 1 inside) own (place + expression_size setting e + 1) rest) (length-value inside place e) (ap suc (length-stored (keeping 1 inside) own (place + expression_size setting e + 1) rest)) ∙ omega arith

  mutual
    pub length-statement : (inside : Inside) (place : ℕ) (s : Statement) → length (statement_code setting inside place s) ≡ statement_size setting inside.mark.tries inside.loop.tries s
    length-statement inside place pass = refl
    length-statement inside place break = length-leaving inside inside.loop.past
    length-statement inside place continue = length-leaving inside inside.loop.again
    length-statement inside place (return e) =
        two _ _ (length-return inside place e) (length-returning (result_mark setting.value inside.mark) ∙ ap (λ k. k + 1) (tries-result setting.value inside.mark))
    length-statement inside place (evaluate e) = length-effect inside.free inside.mark place e
    length-statement inside place (assign x e) = two _ _ (length-value inside place e) (length-straight (raised 1 inside.mark) (I.Store (slot_of setting x) ∷ []))
    length-statement inside place (assign_element x i e) =
        three _ _ _ (length-value inside place e) (length-second inside (place + expression_size setting e) i) (length-straight (raised 2 inside.mark) (I.StoreAt (slot_of setting x) (length_of setting x) ∷ []))
    length-statement inside place (augment x op e) =
        let is = operator_instrs (operator_of op) (type_of setting.scope (variable x)) in
        let last = length-straight (raised 2 inside.mark) (is ++ I.Store (slot_of setting x) ∷ []) ∙ length-append is (I.Store (slot_of setting x) ∷ []) in
        two (line inside.mark (I.Load (slot_of setting x)) ∷ second_code setting inside (place + 1) e) _ (ap suc (length-second inside (place + 1) e)) last ∙ omega arith
    length-statement inside place (augment_element x i op e) =
        let begins = I.Dup ∷ I.Store inside.free ∷ I.LoadAt (slot_of setting x) (length_of setting x) ∷ [] in
        let is = operator_instrs (operator_of op) Int64 in
        let ends = I.Load inside.free ∷ I.StoreAt (slot_of setting x) (length_of setting x) ∷ [] in
        let last = length-straight (raised 2 inside.mark) (is ++ ends) ∙ length-append is ends in
        four _ _ _ _ (length-value inside place i) (length-straight (raised 1 inside.mark) begins) (length-second (keeping 1 inside) (place + expression_size setting i + 3) e) last
    length-statement inside place (assign_repeated x e n) =
        two _ _ (length-value inside place e) (length-straight (raised 1 inside.mark) (I.Fill (slot_of setting x) (length_of setting x) ∷ []))
    length-statement inside place (assign_list x es) =
        let first = slot_of setting x in
        two _ _ (length-stored inside (first + (length es - 1)) place es) (length-straight inside.mark (moved (length es - 1) inside.free first) ∙ length-moved (length es - 1) inside.free first)
    length-statement inside place (if_then c b rest) =
        length-branch inside.mark _ _ _ _ _ (length-value inside place (asked Branch c)) (length-test (raised 1 inside.mark) (is_turned Branch c) _ _) (length-block inside (then_place setting place c) b) (length-exit inside.mark rest (end_place setting inside place c b rest)) (length-otherwise inside (else_place setting inside place c b rest) rest)
    length-statement inside place (while_do c b) =
        let again = place + 2 + block_size setting inside.mark.tries inside.mark.tries b in
        let past = again + expression_size setting (asked LoopEnd c) + loop_size (is_turned LoopEnd c) in
        let body = block_code setting (in_loop again past inside) (place + 2) b in
        let condition = value_code setting inside again (asked LoopEnd c) in
        let ends = straight (raised 1 inside.mark) (loop_instrs (is_turned LoopEnd c) (place + 1) past) in
        three (line inside.mark (I.Jump again) ∷ line inside.mark I.Turn ∷ body) condition ends (ap (λ k. suc (suc k)) (length-block (in_loop again past inside) (place + 2) b)) (length-value inside again (asked LoopEnd c)) (length-loop (raised 1 inside.mark) (is_turned LoopEnd c) (place + 1) past) ∙ omega arith
    length-statement inside place (for_range x from to b) =
        let first = turns_place setting place from to in
        let again = first + 10 + block_size setting inside.mark.tries inside.mark.tries b in
        five _ _ _ _ _ (length-from inside place from) (length-second inside (place + from_size setting from) to) (length-straight (raised 2 inside.mark) (for_begins setting inside x again)) (length-block (in_loop again (again + 4) (keeping 2 inside)) (first + 10) b) (length-straight inside.mark (for_goes_on inside (first + 3)))
    length-statement inside place (parallel b) =
        two _ _ (length-begin inside.mark inside (has_second b)) (length-parallel (keeping 2 inside) (place + parallel_begin_size (has_second b)) b)
    length-statement inside place (sequential b) = length-block inside place b
    length-statement inside place (record_as name b) =
        let within = under (with_recording inside.mark) inside in
        two (line inside.mark (I.Record (index_of_text setting name)) ∷ block_code setting within (place + 1) b) (line (with_recording inside.mark) I.Save ∷ []) (ap suc (length-block within (place + 1) b)) refl ∙ omega arith
    length-statement inside place (try_do b handlers) =
        let within = under (with_handler inside.mark) inside in
        let at = place + 1 + block_size setting (inside.mark.tries + 1) inside.loop.tries b + 2 in
        let end = at + handlers_size setting inside.mark.tries inside.loop.tries handlers in
        three (line inside.mark (I.Try at) ∷ block_code setting within (place + 1) b) (straight (with_handler inside.mark) (I.EndTry ∷ I.Jump end ∷ [])) (handlers_code setting inside at end handlers) (ap suc (length-block within (place + 1) b)) refl (length-handlers inside at end handlers) ∙ omega arith

    pub length-block : (inside : Inside) (place : ℕ) (b : Block) → length (block_code setting inside place b) ≡ block_size setting inside.mark.tries inside.loop.tries b
    length-block inside place done = refl
    length-block inside place (line_then l s rest) =
        two _ _ (length-statement inside place s) (length-block inside (place + statement_size setting inside.mark.tries inside.loop.tries s) rest)

    pub length-parallel : (inside : Inside) (place : ℕ) (b : Block) → length (parallel_code setting inside place b) ≡ parallel_size setting inside.mark.tries inside.loop.tries b
    length-parallel inside place done = refl
    length-parallel inside place (line_then l s rest) =
        two _ _ (length-statement inside place s) (length-others inside (place + statement_size setting inside.mark.tries inside.loop.tries s) rest)

    pub length-others : (inside : Inside) (place : ℕ) (b : Block) → length (others_code setting inside place b) ≡ others_size setting inside.mark.tries inside.loop.tries b
    length-others inside place done = refl
    length-others inside place (line_then l s rest) =
        let next = place + 6 + statement_size setting inside.mark.tries inside.loop.tries s in
        three (straight inside.mark (next_begins inside)) (statement_code setting inside (place + 6) s) (others_code setting inside next rest) refl (length-statement inside (place + 6) s) (length-others inside next rest)

    pub length-otherwise : (inside : Inside) (place : ℕ) (rest : Otherwise) → length (otherwise_code setting inside place rest) ≡ otherwise_size setting inside.mark.tries inside.loop.tries rest
    length-otherwise inside place no_else = refl
    length-otherwise inside place (else_do b) = length-block inside place b
    length-otherwise inside place (elif_then l c b rest) =
        length-branch inside.mark _ _ _ _ _ (length-value inside place (asked Branch c)) (length-test (raised 1 inside.mark) (is_turned Branch c) _ _) (length-block inside (then_place setting place c) b) (length-exit inside.mark rest (end_place setting inside place c b rest)) (length-otherwise inside (else_place setting inside place c b rest) rest)

    pub length-handlers : (inside : Inside) (place end : ℕ) (handlers : Handlers) → length (handlers_code setting inside place end handlers) ≡ handlers_size setting inside.mark.tries inside.loop.tries handlers
    length-handlers inside place end no_handler = refl
    length-handlers inside place end (except_then l name b rest) =
        let next = place + 5 + block_size setting inside.mark.tries inside.loop.tries b + 1 in
        let head = I.Dup ∷ I.Const (code_of_name name) ∷ I.Eq ∷ I.JumpZero next ∷ I.Pop ∷ [] in
        three (straight (raised 1 inside.mark) head) (block_code setting inside (place + 5) b) (line inside.mark (I.Jump end) ∷ handlers_code setting inside next end rest) (length-straight (raised 1 inside.mark) head) (length-block inside (place + 5) b) (ap suc (length-handlers inside next end rest)) ∙ omega arith

  -- each part of a function has its size
  pub has_its_size : HasItsSize setting
  has_its_size =
      record {
        expressions = length-expression setting;
        effects = length-effect;
        statements = length-statement;
        blocks = length-block;
        parallel_blocks = length-parallel;
        others = length-others;
        branches = length-otherwise;
        handlers = length-handlers;
      }

pub functions_have_their_size : (program : ProgramTree) (texts : List Bytes) → FunctionsHaveTheirSize program texts
functions_have_their_size program texts place f =
    let setting = setting_of program texts f in
    let ends = no_result setting.value ++ I.Return ∷ [] in
    two _ _ (length-block setting (body_inside setting) place f.body) (length-straight first_mark ends ∙ (length-append (no_result setting.value) (I.Return ∷ []) ∙ ap (λ k. k + 1) (length-no_result setting.value)))
