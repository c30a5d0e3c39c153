-- An instruction without a line only hands an exception on, and so asks nothing.
use Rattle.std.proofs.Common.{◌≡◌, ℕ, suc, zero, ◌+◌, ◌≤◌, List, [], ◌∷◌, ◌++◌, length, Bool, true, false, Option, Some, None, IsTrue, refl, sym, ap, ◌∙◌, subst, arith, length-append, append_assoc}
use Rattle.std.specs.Prelude.{ℤ, slice_get, if◌then◌else◌}
use Rattle.rtio_types.specs.declared.outcome.Exc.{Exc}
use Rattle.rtio_types.specs.Integers.{is_true}
use Rattle.kern_syntax.specs.Tree.{Bytes, Expression, Statement, if_then, while_do, for_range, parallel, sequential, record_as, try_do, Block, done, line_then, Otherwise, no_else, else_do, elif_then, Handlers, no_handler, except_then, FunctionTree, ProgramTree}
use Rattle.core_isa.specs.declared.code.Code.{Code}
use Rattle.core_isa.specs.declared.code.CodeLine.{CodeLine}
use Rattle.core_isa.specs.declared.instr.Instr.{Instr}
use Rattle.core_isa.specs.declared.instr.Instr.TheVariants as I
use Rattle.core_isa.specs.Machine.{HandlerPoint, Frame, Machine, Next, goes, ends, stuck, returned, raised, budget, unanswered, with_operands, next, at_place, opened_by, drop_if, at_frame, raise_at, raise_in, raise, exception_of}
use Rattle.core_isa.specs.Marks.{first_mark}
use Rattle.core_isa.specs.Runs.{counted, step_by}
use Rattle.core_isa.specs.Steps.{jump_if_zero, act}
use Rattle.core_isa.proofs.Lighter.{first_any, two_any}
use Rattle.code_forms.specs.declared.test_kind.TestKind.TheVariants.{Branch, LoopEnd}
use Rattle.code_forms.specs.Conditions.{is_turned, asked, test_instrs, test_size, loop_instrs, loop_size}
use Rattle.code_forms.specs.Lines.{line, raised as higher, with_handler, with_recording, straight}
use Rattle.code_forms.specs.Programs.{body_inside, code_of_program, function_code, function_size, functions_code, setting_of}
use Rattle.code_forms.specs.Setting.{Setting, index_of_text}
use Rattle.code_forms.specs.Sizes.{when, has_second, parallel_begin_size, expression_size, from_size, exit_size, statement_size, block_size, handlers_size}
use Rattle.code_forms.specs.StatementCode.{Inside, keeping, in_loop, under, code_of_name, no_result, exit, then_place, test_place, else_place, end_place, turns_place, for_begins, for_goes_on, parallel_begins, parallel_ends, next_begins, value_code, second_code, from_code, statement_code, block_code, parallel_code, others_code, otherwise_code, handlers_code}
use Rattle.code_forms.specs.Texts.{texts_of}
use Rattle.code_forms.proofs.Lengths.{length-expression, length-straight}
use Rattle.code_forms.proofs.StatementLengths.{length-begin, length-exit, length-from, length-loop, length-no_result, length-statement, length-test}
use Rattle.kernel_lines.specs.HaveLines.{StatementHasLines, BlockHasLines, OtherwiseHasLines, HandlersHaveLines, ProgramHasLines}
use Rattle.kernel_lines.specs.KernelLines.{of_line, statement_lines, block_lines, parallel_lines, others_lines, otherwise_lines, handlers_lines, function_lines, functions_lines, program_lines}
use Rattle.kernel_lines.specs.Laws.{AskersHaveLines, HasLine}

-- ---- what hands an exception on asks nothing

-- it compares the exception with a handler's name, or raises it again
abbrev hands_on : Instr → Bool
hands_on I.Dup = true
hands_on (I.Const v) = true
hands_on I.Eq = true
hands_on (I.JumpZero p) = true
hands_on I.Raise = true
hands_on i = false

-- no reply is lacking
abbrev IsAnswered : Next → Type 0
IsAnswered (goes m) = Unit {0}
IsAnswered (ends returned m) = Unit {0}
IsAnswered (ends (raised x) m) = Unit {0}
IsAnswered (ends budget m) = Unit {0}
IsAnswered (ends unanswered m) = ⊥
IsAnswered stuck = Unit {0}

handler_taken : (x : Exc) (handlers : List HandlerPoint) (m : Machine) (otherwise : Next) → IsAnswered otherwise → IsAnswered (raise_at x handlers m otherwise)
handler_taken x [] m otherwise other = other
handler_taken x (handler ∷ rest) m otherwise other = tt

raised_in : (x : Exc) (callers : List Frame) (frame : Frame) (m : Machine) → IsAnswered (raise_in x frame callers m)
raised_in x [] frame m =
    handler_taken x frame.handlers (at_frame frame [] m) (ends (raised x) (drop_if (opened_by 0 m.recording) (at_frame frame [] m))) tt
raised_in x (caller ∷ callers) frame m =
    handler_taken x frame.handlers (at_frame frame (caller ∷ callers) m) (raise_in x caller callers (drop_if (opened_by (length (caller ∷ callers)) m.recording) m))
    (raised_in x callers caller (drop_if (opened_by (length (caller ∷ callers)) m.recording) m))

jumps : (p : ℕ) (c : ℤ) (m : Machine) → IsAnswered (jump_if_zero p c m)
jumps p c m = by_test (is_true c)
  where
    by_test : (b : Bool) → IsAnswered (if b then next m else goes (at_place m p))
    by_test true = tt
    by_test false = tt

hands_on_answered : (code : Code) (i : Instr) (m : Machine) → IsTrue (hands_on i) → IsAnswered (act code i m)
hands_on_answered code I.Dup m is = first_any IsAnswered m.top.operands _ m tt (λ a rest. tt)
hands_on_answered code (I.Const v) m is = tt
hands_on_answered code I.Eq m is = two_any IsAnswered _ m tt (λ a b rest. tt)
hands_on_answered code (I.JumpZero p) m is = first_any IsAnswered m.top.operands (jump_if_zero p) m tt (λ c rest. jumps p c (with_operands m rest))
hands_on_answered code I.Raise m is =
    first_any IsAnswered m.top.operands (λ c. raise (exception_of c)) m tt (λ c rest. raised_in (exception_of c) m.callers (with_operands m rest).top (with_operands m rest))
hands_on_answered code i m is = absurd (let no : false ≡ true = is in cc)

-- ---- lines beside instructions

-- each line stands beside its instruction, which hands an exception on where it is 0
abbrev Fit : List ℕ → List CodeLine → Type 0
Fit [] [] = Unit {0}
Fit (n ∷ lines) (l ∷ code) = (n ≡ 0 → IsTrue (hands_on l.instr)) × Fit lines code
Fit lines code = ⊥

join : (a b : List ℕ) (c d : List CodeLine) → Fit a c → Fit b d → Fit (a ++ b) (c ++ d)
join [] b [] d first second = second
join [] b (l ∷ c) d first second = absurd first
join (n ∷ a) b [] d first second = absurd first
join (n ∷ a) b (l ∷ c) d first second = (first.0, join a b c d first.1 second)

join_three : (a b c : List ℕ) (x y z : List CodeLine) → Fit a x → Fit b y → Fit c z → Fit (a ++ b ++ c) (x ++ y ++ z)
join_three a b c x y z first second third = join (a ++ b) c (x ++ y) z (join a b x y first second) third

join_four : (a b c d : List ℕ) (x y z w : List CodeLine) → Fit a x → Fit b y → Fit c z → Fit d w → Fit (a ++ b ++ c ++ d) (x ++ y ++ z ++ w)
join_four a b c d x y z w first second third fourth = join (a ++ b ++ c) d (x ++ y ++ z) w (join_three a b c x y z first second third) fourth

-- instructions of one line
all : (line n : ℕ) (code : List CodeLine) → 1 ≤ line → length code ≡ n → Fit (of_line line n) code
all line zero [] own long = tt
all line zero (l ∷ code) own long = absurd (omega (arith, long))
all line (suc n) [] own long = absurd (omega (arith, long))
all line (suc n) (l ∷ code) own long = ((λ none. absurd (omega (arith, own, none))), all line n code own (omega (arith, long)))

one : (line : ℕ) → 1 ≤ line → (i : Instr) → line ≡ 0 → IsTrue (hands_on i)
one line own i none = absurd (omega (arith, own, none))

module _ (setting : Setting) where
  -- a condition and its test
  tested : (line : ℕ) (condition test : List CodeLine) (n m : ℕ) → 1 ≤ line → length condition ≡ n → length test ≡ m → Fit (of_line line (n + m)) (condition ++ test)
  tested line condition test n m own long short =
      all line (n + m) (condition ++ test) own (omega (arith, length-append condition test, long, short))

  -- a branch, with those that follow
  fit_branch : (inside : Inside) (place l : ℕ) (c : Expression) (b : Block) (rest : Otherwise) → 1 ≤ l
      → Fit (block_lines setting inside.mark.tries inside.loop.tries b) (block_code setting inside (then_place setting place c) b)
      → Fit (otherwise_lines setting inside.mark.tries inside.loop.tries rest) (otherwise_code setting inside (else_place setting inside place c b rest) rest)
      → Fit (otherwise_lines setting inside.mark.tries inside.loop.tries (elif_then l c b rest)) (otherwise_code setting inside place (elif_then l c b rest))
  fit_branch inside place l c b rest own inner others =
      let condition = value_code setting inside place (asked Branch c) in
      let test = straight (higher 1 inside.mark) (test_instrs (is_turned Branch c) (test_place setting place c) (else_place setting inside place c b rest)) in
      let body = block_code setting inside (then_place setting place c) b in
      let leaves = exit inside.mark rest (end_place setting inside place c b rest) in
      let behind = otherwise_code setting inside (else_place setting inside place c b rest) rest in
      let n = expression_size setting (asked Branch c) in
      let m = test_size (is_turned Branch c) in
      let x = exit_size setting rest in
      join_four (of_line l (n + m)) (block_lines setting inside.mark.tries inside.loop.tries b) (of_line l x) (otherwise_lines setting inside.mark.tries inside.loop.tries rest)
      (condition ++ test) body leaves behind
      (tested l condition test n m own (length-expression setting inside.free inside.mark place (asked Branch c)) (length-test (higher 1 inside.mark) (is_turned Branch c) (test_place setting place c) (else_place setting inside place c b rest)))
      inner
      (all l x leaves own (length-exit setting inside.mark rest (end_place setting inside place c b rest)))
      others

  mutual
    fit_statement : (inside : Inside) (place l : ℕ) (s : Statement) → 1 ≤ l → StatementHasLines s
        → Fit (statement_lines setting inside.mark.tries inside.loop.tries l s) (statement_code setting inside place s)
    fit_statement inside place l (if_then c b rest) own have =
        fit_branch inside place l c b rest own (fit_block inside (then_place setting place c) b have.0) (fit_otherwise inside (else_place setting inside place c b rest) rest have.1)
    fit_statement inside place l (while_do c b) own have =
        let again = place + 2 + block_size setting inside.mark.tries inside.mark.tries b in
        let past = again + expression_size setting (asked LoopEnd c) + loop_size (is_turned LoopEnd c) in
        let condition = value_code setting inside again (asked LoopEnd c) in
        let test = straight (higher 1 inside.mark) (loop_instrs (is_turned LoopEnd c) (place + 1) past) in
        let n = expression_size setting (asked LoopEnd c) in
        let m = loop_size (is_turned LoopEnd c) in
        let inner = block_lines setting inside.mark.tries inside.mark.tries b in
        let body = block_code setting (in_loop again past inside) (place + 2) b in
        let head : List CodeLine = line inside.mark (I.Jump again) ∷ line inside.mark I.Turn ∷ [] in
        subst (Fit (of_line l 2 ++ inner ++ of_line l (n + m))) (sym (append_assoc (head ++ body) condition test))
        (join_three (of_line l 2) inner (of_line l (n + m)) head body (condition ++ test) (all l 2 head own refl)
        (fit_block (in_loop again past inside) (place + 2) b have)
        (tested l condition test n m own (length-expression setting inside.free inside.mark again (asked LoopEnd c)) (length-loop (higher 1 inside.mark) (is_turned LoopEnd c) (place + 1) past)))
    fit_statement inside place l (for_range x from to b) own have =
        let first = turns_place setting place from to in
        let again = first + 10 + block_size setting inside.mark.tries inside.mark.tries b in
        let within = in_loop again (again + 4) (keeping 2 inside) in
        let begins = straight (higher 2 inside.mark) (for_begins setting inside x again) in
        let f = from_size setting from in
        let e = expression_size setting to in
        let low = from_code setting inside place from in
        let high = second_code setting inside (place + f) to in
        let long_low : length low ≡ f = length-from setting inside place from in
        let long_high : length high ≡ e = length-expression setting inside.free (higher 1 inside.mark) (place + f) to in
        let long_begins : length begins ≡ 10 = length-straight (higher 2 inside.mark) (for_begins setting inside x again) in
        let head : length (low ++ high ++ begins) ≡ f + e + 10 =
        omega (arith, length-append (low ++ high) begins, length-append low high, long_low, long_high, long_begins)
        in
        let turn = block_code setting within (first + 10) b in
        let goes_on = straight inside.mark (for_goes_on inside (first + 3)) in
        join_three (of_line l (f + e + 10)) (block_lines setting inside.mark.tries inside.mark.tries b) (of_line l 4) (low ++ high ++ begins) turn goes_on
        (all l (f + e + 10) (low ++ high ++ begins) own head)
        (fit_block within (first + 10) b have)
        (all l 4 goes_on own (length-straight inside.mark (for_goes_on inside (first + 3))))
    fit_statement inside place l (parallel b) own have =
        let n = parallel_begin_size (has_second b) in
        join (of_line l n) (parallel_lines setting inside.mark.tries inside.loop.tries l b) (straight inside.mark (parallel_begins inside (has_second b))) (parallel_code setting (keeping 2 inside) (place + n) b)
        (all l n (straight inside.mark (parallel_begins inside (has_second b))) own (length-begin inside.mark inside (has_second b)))
        (fit_parallel (keeping 2 inside) (place + n) l b own have)
    fit_statement inside place l (sequential b) own have = fit_block inside place b have
    fit_statement inside place l (record_as name b) own have =
        let within = under (with_recording inside.mark) inside in
        let body = block_code setting within (place + 1) b in
        let opens : List CodeLine = line inside.mark (I.Record (index_of_text setting name)) ∷ [] in
        let save : List CodeLine = line (with_recording inside.mark) I.Save ∷ [] in
        join_three (of_line l 1) (block_lines setting inside.mark.tries inside.loop.tries b) (of_line l 1) opens body save
        (all l 1 opens own refl)
        (fit_block within (place + 1) b have)
        (all l 1 save own refl)
    fit_statement inside place l (try_do b handlers) own have =
        let within = under (with_handler inside.mark) inside in
        let at = place + 1 + block_size setting (inside.mark.tries + 1) inside.loop.tries b + 2 in
        let end = at + handlers_size setting inside.mark.tries inside.loop.tries handlers in
        let body = block_code setting within (place + 1) b in
        let leaves = straight (with_handler inside.mark) (I.EndTry ∷ I.Jump end ∷ []) in
        let caught = handlers_code setting inside at end handlers in
        let begins : List CodeLine = line inside.mark (I.Try at) ∷ [] in
        join_four (of_line l 1) (block_lines setting (inside.mark.tries + 1) inside.loop.tries b) (of_line l 2) (handlers_lines setting inside.mark.tries inside.loop.tries handlers)
        begins body leaves caught
        (all l 1 begins own refl)
        (fit_block within (place + 1) b have.0)
        (all l 2 leaves own refl)
        (fit_handlers inside at end handlers have.1)
    fit_statement inside place l s own have =
        all l (statement_size setting inside.mark.tries inside.loop.tries s) (statement_code setting inside place s) own (length-statement setting inside place s)

    fit_block : (inside : Inside) (place : ℕ) (b : Block) → BlockHasLines b
        → Fit (block_lines setting inside.mark.tries inside.loop.tries b) (block_code setting inside place b)
    fit_block inside place done have = tt
    fit_block inside place (line_then l s rest) have =
        let behind = place + statement_size setting inside.mark.tries inside.loop.tries s in
        join (statement_lines setting inside.mark.tries inside.loop.tries l s) (block_lines setting inside.mark.tries inside.loop.tries rest) (statement_code setting inside place s) (block_code setting inside behind rest)
        (fit_statement inside place l s have.0 have.1)
        (fit_block inside behind rest have.2)

    fit_parallel : (inside : Inside) (place header : ℕ) (b : Block) → 1 ≤ header → BlockHasLines b
        → Fit (parallel_lines setting inside.mark.tries inside.loop.tries header b) (parallel_code setting inside place b)
    fit_parallel inside place header done own have = tt
    fit_parallel inside place header (line_then l s rest) own have =
        let behind = place + statement_size setting inside.mark.tries inside.loop.tries s in
        join (statement_lines setting inside.mark.tries inside.loop.tries l s) (others_lines setting inside.mark.tries inside.loop.tries header rest) (statement_code setting inside place s) (others_code setting inside behind rest)
        (fit_statement inside place l s have.0 have.1)
        (fit_others inside behind header rest own have.2)

    fit_others : (inside : Inside) (place header : ℕ) (b : Block) → 1 ≤ header → BlockHasLines b
        → Fit (others_lines setting inside.mark.tries inside.loop.tries header b) (others_code setting inside place b)
    fit_others inside place header done own have =
        all header 4 (straight inside.mark (parallel_ends inside)) own (length-straight inside.mark (parallel_ends inside))
    fit_others inside place header (line_then l s rest) own have =
        let behind = place + 6 + statement_size setting inside.mark.tries inside.loop.tries s in
        let parts = straight inside.mark (next_begins inside) in
        join_three (of_line header 6) (statement_lines setting inside.mark.tries inside.loop.tries l s) (others_lines setting inside.mark.tries inside.loop.tries header rest)
        parts (statement_code setting inside (place + 6) s) (others_code setting inside behind rest)
        (all header 6 parts own (length-straight inside.mark (next_begins inside)))
        (fit_statement inside (place + 6) l s have.0 have.1)
        (fit_others inside behind header rest own have.2)

    fit_otherwise : (inside : Inside) (place : ℕ) (rest : Otherwise) → OtherwiseHasLines rest
        → Fit (otherwise_lines setting inside.mark.tries inside.loop.tries rest) (otherwise_code setting inside place rest)
    fit_otherwise inside place no_else have = tt
    fit_otherwise inside place (else_do b) have = fit_block inside place b have
    fit_otherwise inside place (elif_then l c b rest) have =
        fit_branch inside place l c b rest have.0 (fit_block inside (then_place setting place c) b have.1) (fit_otherwise inside (else_place setting inside place c b rest) rest have.2)

    fit_handlers : (inside : Inside) (place end : ℕ) (handlers : Handlers) → HandlersHaveLines handlers
        → Fit (handlers_lines setting inside.mark.tries inside.loop.tries handlers) (handlers_code setting inside place end handlers)
    fit_handlers inside place end no_handler have = ((λ none. refl), tt)
    fit_handlers inside place end (except_then l name b rest) have =
        let behind = place + 5 + block_size setting inside.mark.tries inside.loop.tries b + 1 in
        let compared = of_line 0 4 ++ of_line l 1 in
        let inner = block_lines setting inside.mark.tries inside.loop.tries b in
        let others = handlers_lines setting inside.mark.tries inside.loop.tries rest in
        let head = straight (higher 1 inside.mark) (I.Dup ∷ I.Const (code_of_name name) ∷ I.Eq ∷ I.JumpZero behind ∷ I.Pop ∷ []) in
        let body = block_code setting inside (place + 5) b in
        let leaves : List CodeLine = line inside.mark (I.Jump end) ∷ [] in
        let caught = handlers_code setting inside behind end rest in
        subst (λ (lines : List ℕ). Fit lines (head ++ body ++ (leaves ++ caught))) (sym (append_assoc (compared ++ inner) (of_line l 1) others))
        (join_three compared inner (of_line l 1 ++ others) head body (leaves ++ caught)
        ((λ none. refl), ((λ none. refl), ((λ none. refl), ((λ none. refl), (one l have.0 I.Pop, tt)))))
        (fit_block inside (place + 5) b have.1)
        (join (of_line l 1) others leaves caught (all l 1 leaves have.0 refl) (fit_handlers inside behind end rest have.2)))

-- ---- programs

fit_function : (program : ProgramTree) (texts : List Bytes) (place : ℕ) (f : FunctionTree) → 1 ≤ f.line → BlockHasLines f.body
    → Fit (function_lines program texts f) (function_code program texts place f)
fit_function program texts place f own have =
    let setting = setting_of program texts f in
    let ending = no_result setting.value ++ I.Return ∷ [] in
    let long : length (straight first_mark ending) ≡ when setting.value + 1 =
    omega (arith, length-straight first_mark ending, length-append (no_result setting.value) (I.Return ∷ []), length-no_result setting.value)
    in
    join (block_lines setting 0 0 f.body) (of_line f.line (when setting.value + 1)) (block_code setting (body_inside setting) place f.body) (straight first_mark ending)
    (fit_block setting (body_inside setting) place f.body have)
    (all f.line (when setting.value + 1) (straight first_mark ending) own long)

fit_functions : (program : ProgramTree) (texts : List Bytes) (place : ℕ) (functions : List FunctionTree) → ProgramHasLines functions
    → Fit (functions_lines program texts functions) (functions_code program texts place functions)
fit_functions program texts place [] have = tt
fit_functions program texts place (f ∷ rest) have =
    let behind = place + function_size program texts f in
    join (function_lines program texts f) (functions_lines program texts rest) (function_code program texts place f) (functions_code program texts behind rest)
    (fit_function program texts place f have.0 have.1)
    (fit_functions program texts behind rest have.2)

-- the line beside an instruction
beside : (lines : List ℕ) (code : List CodeLine) → Fit lines code → (k : ℕ) (l : CodeLine) → slice_get code k ≡ Some l
    → (n : ℕ) × (slice_get lines k ≡ Some n) × (n ≡ 0 → IsTrue (hands_on l.instr))
beside [] [] fit k l found = absurd (let no : None ≡ Some l = found in cc)
beside [] (x ∷ code) fit k l found = absurd fit
beside (n ∷ lines) [] fit k l found = absurd fit
beside (n ∷ lines) (x ∷ code) fit zero l found =
    let same : x ≡ l = (let both : Some x ≡ Some l = found in cc) in
    (n, refl, (λ none. subst (λ (y : CodeLine). IsTrue (hands_on y.instr)) same (fit.0 none)))
beside (n ∷ lines) (x ∷ code) fit (suc k) l found = beside lines code fit.1 k l found

pub askers_have_lines : (program : ProgramTree) → ProgramHasLines program → AskersHaveLines program
askers_have_lines program have m last asks = by_line (slice_get code.lines m.top.place) refl
  where
    code : Code
    code = code_of_program program

    fit : Fit (program_lines program) code.lines
    fit = fit_functions program (texts_of program) 0 program have

    by_number : (l : CodeLine) → step_by code (Some l) m ≡ ends unanswered last
        → (n : ℕ) → slice_get (program_lines program) m.top.place ≡ Some n → (n ≡ 0 → IsTrue (hands_on l.instr))
        → HasLine (program_lines program) m.top.place
    by_number l is zero found silent = absurd (subst IsAnswered is (hands_on_answered code l.instr (counted m) (silent refl)))
    by_number l is (suc n) found silent = (suc n, found, omega arith)

    by_line : (o : Option CodeLine) → slice_get code.lines m.top.place ≡ o → HasLine (program_lines program) m.top.place
    by_line None none = absurd (let no : stuck ≡ ends unanswered last = ap (λ (o : Option CodeLine). step_by code o m) (sym none) ∙ asks in cc)
    by_line (Some l) found =
        let there = beside (program_lines program) code.lines fit m.top.place l found in
        by_number l (ap (λ (o : Option CodeLine). step_by code o m) (sym found) ∙ asks) there.0 there.1 there.2
