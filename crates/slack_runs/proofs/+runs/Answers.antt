use Rattle.std.proofs.Common.{rules, ◌≡◌, ◌≤◌, ◌<◌, ◌*◌, Some, ◌+◌, ◌++◌, drop, ap, subst, subst₂, sym, ◌∙◌, FitsSigned, to_z, of_z, ◌-◌, suc, true, false, Ok, arith}
use Rattle.std.specs.Prelude.{Bool, bytes_eq, option_to_list, pos, ◌+ℤ◌, ◌<ℤ◌}
use Rattle.std.specs.Int.{w64, int_gap}
use Rattle.std.proofs.lemmas.Grind.{common_steps}
use Rattle.std.proofs.lemmas.Int.{to_z-of_z}
use Rattle.std.proofs.lemmas.Result.{err_from_is_err_and}
use Rattle.kern_syntax.specs.declared.expression.Argument.TheFolds.{the_lemmas}
use Rattle.kern_syntax.specs.declared.statement.StmtKind.TheFolds as Statements
use Rattle.kern_syntax.specs.Tree.{FunctionTree, Statement, augment_element, binary, for_range, if_then, no_more}
use Rattle.kern_syntax.specs.TreeOf.{expression_of, arguments_of, argument_of, augment_of, block_of, branches_of, function_of, handlers_of, lines_of, statement_of}
use Rattle.kern_calls.specs.Types.{function_named, names_of, type_of}
use Rattle.kern_names.specs.ScopeOf.{program_of}
use Rattle.kern_names.proofs.Members.{found_is_among}
use Rattle.rtio_types.specs.Integers.{is_true}
use Rattle.meaning_steps.specs.Handling.{handler_of}
use Rattle.meaning_steps.specs.Runnable.{AreRunnable}
use Rattle.meaning_steps.specs.RunnableStatements.{IsRunnableBlock}
use Rattle.meaning_frames.specs.Frames.{scope_in}
use Rattle.meaning_frames.proofs.Arguments.{runnable_rest, smaller_rest}
use Rattle.meaning_frames.proofs.Sizes.{arguments_size, block_size, handlers_size, program_size}
use Rattle.meaning_frames.proofs.Found.{found_runs, found_smaller}
use Rattle.meaning_frames.proofs.Handled.{handled_runs, handled_smaller}
use Rattle.meaning_frames.proofs.Items.{drop_item}
use Rattle.meaning_frames.proofs.Turning.{next_fits}
use Rattle.slack_meaning.specs.Spans.{exactly}
use Rattle.slack_meaning.specs.Actions.{normal, early, give, as_number, ◌>>=◌}
use Rattle.slack_meaning.specs.Expressions.{arguments, expression}
use Rattle.slack_meaning.specs.Statements.{block, either, for_turns, otherwise, statement, turn, while_loop, while_turns}
use Rattle.slack_meaning.specs.Programs.{function_body, function_call, initial_values, optional_body}
use Rattle.slack_state.specs.Does.{Does, EndsAs}
use Rattle.slack_state.specs.Ends.{reason_of}
use Rattle.slack_steps.specs.Known.{HasRun}
use Rattle.slack_steps.specs.Turns.{GoesOn, set_then}
use Rattle.slack_runs.specs.Frames.{calls_in}
use Rattle.slack_runs.specs.Values.{first_argument}
use Rattle.slack_runs.proofs.Arguments.{argument_read, argument_ended}
use Rattle.slack_runs.proofs.Entered.{body_falls, call_entered, left_function, room_left}
use Rattle.slack_runs.proofs.Fronts.{left_runs, left_smaller}
use Rattle.slack_runs.proofs.Handled.{handled, unhandled}
use Rattle.slack_steps.proofs.Taken.{if_known}
use Rattle.slack_runs.proofs.Operated.{binary_then, sum_then}
use Rattle.slack_runs.proofs.Turning.{for_here, while_here, while_over, while_stopped}
use Rattle.slack_runs.proofs.+runs.Goals as goal

-- left to the prover these would be sought by `search` first, for minutes and in vain
pub blocks::run_lines-run_statement-requires : goal.blocks::run_lines-run_statement-requires
blocks::run_lines-run_statement-requires t c = grind (Statements.the_lemmas, arith, common_steps)

pub blocks::run_lines-returns : goal.blocks::run_lines-returns
blocks::run_lines-returns t c = grind (Statements.the_lemmas, arith, common_steps)

pub blocks::run_block-run_front-ran-requires : goal.blocks::run_block-run_front-ran-requires
blocks::run_block-run_front-ran-requires t c = subst IsRunnableBlock (sym c.lines-statements.ensures) c.requires

pub blocks::run_block-behind-requires : goal.blocks::run_block-behind-requires
blocks::run_block-behind-requires t c = c.run_front-ran.ensures.within

pub blocks::run_block-run_lines-requires : goal.blocks::run_block-run_lines-requires
blocks::run_block-run_lines-requires t c =
    let lines = c.lines-statements.result.now in
    let ran = c.run_front-ran.result in
    let left = c.behind.result.now in
    let room = c.args.frame.now.room * program_size (program_of c.args.frame.now.scope.functions) in
    let small : block_size (lines_of left) ≤ block_size (block_of c.args.body.now) = subst₂ (λ l b. block_size (lines_of l) ≤ block_size b) (sym c.behind.ensures) c.lines-statements.ensures (left_smaller lines ran) in
    let falls : room + block_size (lines_of left) < room + (block_size (block_of c.args.body.now) + 1) = omega (arith, small) in
    (subst (λ t. room + block_size (lines_of left) < t) c.decreases falls, subst (λ l. IsRunnableBlock (lines_of l)) (sym c.behind.ensures) (left_runs lines ran (subst IsRunnableBlock (sym c.lines-statements.ensures) c.requires)))

pub blocks::run_block-returns : goal.blocks::run_block-returns
blocks::run_block-returns t c =
    let scope = scope_in c.args.frame.now in
    let callee = calls_in c.args.frame.now in
    let s = c.args.state.now in
    let after = c.run_front-ran.new.state in
    let whole : block scope callee (block_of c.args.body.now) s ≡ block scope callee (lines_of c.behind.result.now) after =
    ap (λ b. block scope callee b s) (sym c.lines-statements.ensures)
    ∙ c.run_front-ran.ensures.ran callee
    ∙ ap (λ l. block scope callee (lines_of l) after) (sym c.behind.ensures) in
    subst (Does c.run_lines.result c.run_lines.new.state) (sym whole) c.run_lines.ensures

pub blocks::run_statement-returns-then-run_known : goal.blocks::run_statement-returns-then-run_known
blocks::run_statement-returns-then-run_known t c =
    let callee = calls_in c.args.frame.now in
    let does = statement (scope_in c.args.frame.now) callee (statement_of c.args.form.now) in
    subst (λ b. HasRun b c.args.state.now c.run_known.new.state does) c.if-run_known.true (c.run_known.ensures callee)

pub blocks::run_statement-returns : goal.blocks::run_statement-returns
blocks::run_statement-returns t c =
    let callee = calls_in c.args.frame.now in
    let does = statement (scope_in c.args.frame.now) callee (statement_of c.args.form.now) in
    let same : c.run_known.new.state ≡ c.args.state.now = subst (λ b. HasRun b c.args.state.now c.run_known.new.state does) c.if-run_known.false (c.run_known.ensures callee) in
    subst (λ s. Does c.run_parts.result c.run_parts.new.state (does s)) same c.run_parts.ensures

pub blocks::run_parts-returns-in-ForFromTo : goal.blocks::run_parts-returns-in-ForFromTo
blocks::run_parts-returns-in-ForFromTo t c =
    let from = expression_of c.in-ForFromTo.from in
    let to = expression_of c.in-ForFromTo.to in
    let body = block_of c.in-ForFromTo.body in
    let does : Statement → Type 0 = λ s. Does c.run_for_from_to.result c.run_for_from_to.new.state (statement (scope_in c.args.frame.now) (calls_in c.args.frame.now) s c.args.state.now) in
    let tree : statement_of c.args.form.now ≡ for_range c.in-ForFromTo.x (Some from) to body = search (rules, Statements.the_lemmas) in
    let called : does (for_range c.bytes-in-ForFromTo.result.now (Some from) to body) = c.run_for_from_to.ensures in
    subst does (ap (λ x. for_range x (Some from) to body) c.bytes-in-ForFromTo.ensures ∙ sym tree) called

pub branches::run_if-returns-in-Some : goal.branches::run_if-returns-in-Some
branches::run_if-returns-in-Some t c =
    let scope = scope_in c.args.frame.now in
    let callee = calls_in c.args.frame.now in
    let s = c.args.state.now in
    let number = c.in-Some.number in
    let condition = expression_of c.args.condition.now in
    let body = block_of c.args.body.now in
    let rest = branches_of c.args.branches.now c.args.last.now in
    let fits : FitsSigned w64 number = search rules in
    let is : is_true number ≡ c.is_true.result = sym (c.is_true.ensures ∙ ap is_true (to_z-of_z w64 number fits)) in
    let whole : statement scope callee (if_then condition body rest) s ≡ either c.is_true.result (block scope callee body) (otherwise scope callee rest) s =
    if_known scope callee condition body rest s number c.in-Some.ensures ∙ ap (λ b. either b (block scope callee body) (otherwise scope callee rest) s) is in
    subst (Does c.run_either.result c.run_either.new.state) (sym whole) c.run_either.ensures

pub expressions::evaluate_all-evaluate_argument-requires : goal.expressions::evaluate_all-evaluate_argument-requires
expressions::evaluate_all-evaluate_argument-requires t c = grind (the_lemmas, arith, common_steps)

pub simple::evaluate_each-evaluate-requires : goal.simple::evaluate_each-evaluate-requires
simple::evaluate_each-evaluate-requires t c = grind (Statements.the_lemmas, arith, common_steps)

pub simple::evaluate_each-returns : goal.simple::evaluate_each-returns
simple::evaluate_each-returns t c = grind (Statements.the_lemmas, arith, common_steps)

pub timed::run_parallel-run_statement-requires : goal.timed::run_parallel-run_statement-requires
timed::run_parallel-run_statement-requires t c = grind (Statements.the_lemmas, arith, common_steps)

pub timed::run_parallel-returns : goal.timed::run_parallel-returns
timed::run_parallel-returns t c = grind (Statements.the_lemmas, arith, common_steps)

pub expressions::evaluate_all-returns-in_err-span : goal.expressions::evaluate_all-returns-in_err-span
expressions::evaluate_all-returns-in_err-span t c =
    let scope = scope_in c.args.frame.now in
    let callee = calls_in c.args.frame.now in
    let i = c.loop-argument.argument-index in
    let item = c.argument-item.result in
    let s = c.loop-argument.state in
    let before = c.loop-argument.spans.items in
    let rest = arguments_of (drop (i + 1) c.args.given.now) in
    let next : arguments_of (drop i c.args.given.now) ≡ argument_of item rest = ap arguments_of (drop_item c.args.given.now i item c.loop-argument-test.true c.argument-item.is) in
    let so = c.loop-argument.invariant.left ∙ ap (λ given. (arguments scope callee given >>= (λ others. give (before ++ others))) s) next in
    let whole = argument_ended scope callee item rest s c.evaluate_argument.new.state c.in_err-span.field-0.0 _ before so c.in_err-span.ensures in
    let p = err_from_is_err_and c.from_residual.result c.from_residual.ensures.1 in
    rw (p.1, p.2) whole

pub expressions::evaluate_all-loop-argument-preserved : goal.expressions::evaluate_all-loop-argument-preserved
expressions::evaluate_all-loop-argument-preserved t c =
    let scope = scope_in c.args.frame.now in
    let callee = calls_in c.args.frame.now in
    let i = c.loop-argument.argument-index in
    let item = c.argument-item.result in
    let s = c.loop-argument.state in
    let before = c.loop-argument.spans.items in
    let a = c.in_ok-span.span in
    let rest = arguments_of (drop (i + 1) c.args.given.now) in
    let next : arguments_of (drop i c.args.given.now) ≡ argument_of item rest = ap arguments_of (drop_item c.args.given.now i item c.loop-argument-test.true c.argument-item.is) in
    let so = c.loop-argument.invariant.left ∙ ap (λ given. (arguments scope callee given >>= (λ others. give (before ++ others))) s) next in
    let found : first_argument scope callee (argument_of item no_more) s ≡ normal a c.evaluate_argument.new.state = c.in_ok-span.ensures in
    let pushed : c.keep.new.spans.items ≡ before ++ option_to_list a = c.in_ok-keep.ensures in
    record {
      left = argument_read scope callee item rest s c.evaluate_argument.new.state _ before c.keep.new.spans.items a so found pushed;
      runnable = runnable_rest item rest (subst AreRunnable next c.loop-argument.invariant.runnable);
      small = smaller_rest item rest (subst (λ given. arguments_size given ≤ arguments_size (arguments_of c.args.given.now)) next c.loop-argument.invariant.small);
    }

pub expressions::evaluate-returns-in-Some : goal.expressions::evaluate-returns-in-Some
expressions::evaluate-returns-in-Some t c =
    let number = c.in-Some.number in
    let fits : FitsSigned w64 number = search rules in
    c.in-Some.ensures (calls_in c.args.frame.now)
    ∙ ap (λ span. normal span c.args.state.now) (sym (c.exactly.ensures ∙ ap exactly (to_z-of_z w64 number fits)))

pub expressions::evaluate_parts-returns-in_ok-operate-in-Binary : goal.expressions::evaluate_parts-returns-in_ok-operate-in-Binary
expressions::evaluate_parts-returns-in_ok-operate-in-Binary t c =
    let arm = c.in-Binary in
    let scope = scope_in c.args.frame.now in
    let callee = calls_in c.args.frame.now in
    let s = c.args.state.now in
    let middle = c.evaluate_parts-in-Binary.new.state in
    let last = c.evaluate_parts-in-Binary-2.new.state in
    let a = c.in_ok-a-in-Binary.a in
    let b = c.in_ok-b-in-Binary.b in
    let left = expression_of arm.left.value in
    let right = expression_of arm.right.value in
    let tree : expression_of c.args.e.now ≡ binary arm.operator left right = search (rules, the_lemmas) in
    let first : expression scope callee left s ≡ normal a middle = ap (λ e. expression scope callee (expression_of e) s) (sym c.deref-in-Binary.ensures) ∙ c.in_ok-a-in-Binary.ensures in
    let second : expression scope callee right middle ≡ normal b last = ap (λ e. expression scope callee (expression_of e) middle) (sym c.deref-in-Binary-2.ensures) ∙ c.in_ok-b-in-Binary.ensures in
    let typed = c.type_of-in-Binary.ensures ∙ ap (type_of scope) tree in
    binary_then scope callee arm.operator left right (expression_of c.args.e.now) s middle last _ a b (normal c.in_ok-operate-in-Binary.field-0 last) tree typed first second c.in_ok-operate-in-Binary.ensures

pub expressions::evaluate_parts-returns-in_err-operate-in-Binary : goal.expressions::evaluate_parts-returns-in_err-operate-in-Binary
expressions::evaluate_parts-returns-in_err-operate-in-Binary t c =
    let arm = c.in-Binary in
    let scope = scope_in c.args.frame.now in
    let callee = calls_in c.args.frame.now in
    let s = c.args.state.now in
    let middle = c.evaluate_parts-in-Binary.new.state in
    let last = c.evaluate_parts-in-Binary-2.new.state in
    let a = c.in_ok-a-in-Binary.a in
    let b = c.in_ok-b-in-Binary.b in
    let reason = c.in_err-operate-in-Binary.field-0.0 in
    let left = expression_of arm.left.value in
    let right = expression_of arm.right.value in
    let tree : expression_of c.args.e.now ≡ binary arm.operator left right = search (rules, the_lemmas) in
    let first : expression scope callee left s ≡ normal a middle = ap (λ e. expression scope callee (expression_of e) s) (sym c.deref-in-Binary.ensures) ∙ c.in_ok-a-in-Binary.ensures in
    let second : expression scope callee right middle ≡ normal b last = ap (λ e. expression scope callee (expression_of e) middle) (sym c.deref-in-Binary-2.ensures) ∙ c.in_ok-b-in-Binary.ensures in
    let typed = c.type_of-in-Binary.ensures ∙ ap (type_of scope) tree in
    let whole = binary_then scope callee arm.operator left right (expression_of c.args.e.now) s middle last _ a b (early (reason_of reason) last) tree typed first second c.in_err-operate-in-Binary.ensures in
    let p = err_from_is_err_and c.from_residual-in_err-operate-in-Binary.result c.from_residual-in_err-operate-in-Binary.ensures.1 in
    rw (p.1, p.2) whole

pub simple::augment_element-returns : goal.simple::augment_element-returns
simple::augment_element-returns t c =
    sum_then (scope_in c.args.frame.now) (calls_in c.args.frame.now) c.args.x.now (expression_of c.args.index.now) c.args.operator (expression_of c.args.e.now) c.args.state.now c.evaluate.new.state c.evaluate-2.new.state c.set_sum.new.state c.in_ok-place.place c.in_ok-held.held c.in_ok-added.added c.set_sum.result c.in_ok-place.ensures c.in_ok-held.ensures c.in_ok-added.ensures c.set_sum.ensures

pub loops::run_while-loop-holds-preserved : goal.loops::run_while-loop-holds-preserved
loops::run_while-loop-holds-preserved t c =
    let scope = scope_in c.args.frame.now in
    let callee = calls_in c.args.frame.now in
    let condition = expression scope callee (expression_of c.args.condition.now) in
    let body = block scope callee (block_of c.args.body.now) in
    let s = c.loop-holds.state in
    let one = c.evaluate.new.state in
    let left = c.run_turn.new.state in
    let holds = c.in_ok-holds.holds in
    let n = c.in_ok-number.field-0 in
    let less = c.loop-holds.left - 1 in
    let again = while_turns less condition body in
    let fits : FitsSigned w64 n = search rules in
    let more : c.loop-holds.left ≡ suc less = omega (arith, c.if-left-eq0.false) in
    let found : condition s ≡ normal holds one = c.in_ok-holds.ensures in
    let counted : as_number holds one ≡ normal n one = c.in_ok-number.ensures in
    let truth : c.is_true.result ≡ true = search rules in
    let is : is_true n ≡ true = ap is_true (sym (to_z-of_z w64 n fits)) ∙ sym c.is_true.ensures ∙ truth in
    let goes : c.in_ok-run_turn.field-0 ≡ true = search rules in
    let on : turn body again one ≡ again left = subst (λ b. GoesOn (Ok b) left (turn body again one) again) goes (c.in_ok-run_turn.ensures again) in
    while_here condition body s one holds n _ less found counted is (c.loop-holds.invariant ∙ ap (λ k. while_turns k condition body s) more) ∙ on

pub loops::run_turns-returns-in_err-run_for_turn : goal.loops::run_turns-returns-in_err-run_for_turn
loops::run_turns-returns-in_err-run_for_turn t c =
    let scope = scope_in c.args.frame.now in
    let callee = calls_in c.args.frame.now in
    let body = block scope callee (block_of c.args.body.now) in
    let x = c.args.x.now in
    let from = c.args.from in
    let to = c.args.to in
    let at = to_z w64 c.loop-at.at-bits in
    let s0 = c.args.state.now in
    let s = c.loop-at.state in
    let left = c.run_for_turn.new.state in
    let again = for_turns (int_gap (at +ℤ pos 1) to) x (at +ℤ pos 1) body in
    let whole = for_turns (int_gap from to) x from body s0 in
    let from_is : from ≡ to_z w64 (of_z w64 from) = sym (to_z-of_z w64 from c.ranges.from) in
    let to_is : to ≡ to_z w64 (of_z w64 to) = sym (to_z-of_z w64 to c.ranges.to) in
    let begun : whole ≡ for_turns (int_gap at to) x at body s = (λ i. for_turns (int_gap (from_is i) (to_is i)) x (from_is i) body s0) ∙ c.loop-at.invariant ∙ ap (λ e. for_turns (int_gap at e) x at body s) (sym to_is) in
    let fits : FitsSigned w64 at = search rules in
    let below : at <ℤ to = search rules in
    let here : whole ≡ turn (set_then x at body) again s = for_here x at to body s whole below begun in
    let end = c.in_err-run_for_turn.field-0.0 in
    let ended : EndsAs end left (turn (set_then x at body) again s) = c.in_err-run_for_turn.ensures again in
    let all : EndsAs end left whole = subst (EndsAs end left) (sym here) ended in
    let p = err_from_is_err_and c.from_residual.result c.from_residual.ensures.1 in
    rw (p.1, p.2) all

pub loops::run_turns-returns-then-not-branch : goal.loops::run_turns-returns-then-not-branch
loops::run_turns-returns-then-not-branch t c =
    let scope = scope_in c.args.frame.now in
    let callee = calls_in c.args.frame.now in
    let body = block scope callee (block_of c.args.body.now) in
    let x = c.args.x.now in
    let from = c.args.from in
    let to = c.args.to in
    let at = to_z w64 c.loop-at.at-bits in
    let s0 = c.args.state.now in
    let s = c.loop-at.state in
    let left = c.run_for_turn.new.state in
    let again = for_turns (int_gap (at +ℤ pos 1) to) x (at +ℤ pos 1) body in
    let whole = for_turns (int_gap from to) x from body s0 in
    let from_is : from ≡ to_z w64 (of_z w64 from) = sym (to_z-of_z w64 from c.ranges.from) in
    let to_is : to ≡ to_z w64 (of_z w64 to) = sym (to_z-of_z w64 to c.ranges.to) in
    let begun : whole ≡ for_turns (int_gap at to) x at body s = (λ i. for_turns (int_gap (from_is i) (to_is i)) x (from_is i) body s0) ∙ c.loop-at.invariant ∙ ap (λ e. for_turns (int_gap at e) x at body s) (sym to_is) in
    let fits : FitsSigned w64 at = search rules in
    let below : at <ℤ to = search rules in
    let here : whole ≡ turn (set_then x at body) again s = for_here x at to body s whole below begun in
    let over : c.in_ok-run_for_turn.field-0 ≡ false = search rules in
    let done = subst (λ b. GoesOn (Ok b) left (turn (set_then x at body) again s) again) over (c.in_ok-run_for_turn.ensures again) in
    here ∙ done

pub loops::run_turns-loop-at-preserved : goal.loops::run_turns-loop-at-preserved
loops::run_turns-loop-at-preserved t c =
    let scope = scope_in c.args.frame.now in
    let callee = calls_in c.args.frame.now in
    let body = block scope callee (block_of c.args.body.now) in
    let x = c.args.x.now in
    let from = c.args.from in
    let to = c.args.to in
    let at = to_z w64 c.loop-at.at-bits in
    let s0 = c.args.state.now in
    let s = c.loop-at.state in
    let left = c.run_for_turn.new.state in
    let again = for_turns (int_gap (at +ℤ pos 1) to) x (at +ℤ pos 1) body in
    let whole = for_turns (int_gap from to) x from body s0 in
    let from_is : from ≡ to_z w64 (of_z w64 from) = sym (to_z-of_z w64 from c.ranges.from) in
    let to_is : to ≡ to_z w64 (of_z w64 to) = sym (to_z-of_z w64 to c.ranges.to) in
    let begun : whole ≡ for_turns (int_gap at to) x at body s = (λ i. for_turns (int_gap (from_is i) (to_is i)) x (from_is i) body s0) ∙ c.loop-at.invariant ∙ ap (λ e. for_turns (int_gap at e) x at body s) (sym to_is) in
    let fits : FitsSigned w64 at = search rules in
    let below : at <ℤ to = search rules in
    let here : whole ≡ turn (set_then x at body) again s = for_here x at to body s whole below begun in
    let goes : c.in_ok-run_for_turn.field-0 ≡ true = search rules in
    let on = subst (λ b. GoesOn (Ok b) left (turn (set_then x at body) again s) again) goes (c.in_ok-run_for_turn.ensures again) in
    let more : FitsSigned w64 (at +ℤ pos 1) = next_fits at to below fits c.ranges.to in
    let next_is : to_z w64 (of_z w64 (at +ℤ pos 1)) ≡ at +ℤ pos 1 = to_z-of_z w64 (at +ℤ pos 1) more in
    let all : whole ≡ again left = here ∙ on in
    (λ i. for_turns (int_gap (sym from_is i) (sym to_is i)) x (sym from_is i) body s0)
    ∙ all
    ∙ (λ i. for_turns (int_gap (sym next_is i) (to_is i)) x (sym next_is i) body left)

pub functions::run_function-returns : goal.functions::run_function-returns
functions::run_function-returns t c =
    let program = program_of c.args.functions.now in
    let s = c.args.state.now in
    let inside = c.exchange-before.new.self in
    let names = c.in_ok-names.names in
    let known : names ≡ names_of program (function_of c.args.function.now) = c.in_ok-names.ensures.names in
    let entered : inside ≡ record s { values = initial_values names c.args.spans.now } = c.exchange-before.ensures.exchanged ∙ ap (λ values. record s { values = values }) c.in_ok-values.ensures in
    let back : c.exchange.new.self ≡ record c.run_block-ran.new.state { values = s.values } = c.exchange.ensures.exchanged ∙ ap (λ values. record c.run_block-ran.new.state { values = values }) c.exchange-before.ensures.before in
    left_function program (function_call program c.args.room) (function_of c.args.function.now) c.args.spans.now s inside c.run_block-ran.new.state c.exchange.new.self names c.run_block-ran.result c.finished.result known entered c.run_block-ran.ensures back c.finished.ensures.gives

pub functions::run_named-run_function-requires : goal.functions::run_named-run_function-requires
functions::run_named-run_function-requires t c =
    let program = program_of c.args.frame.now.scope.functions in
    let f = function_of c.in-Some.function.now in
    let left = c.in_ok-room.room in
    let found : function_named program c.args.name.now ≡ Some f = sym c.in-Some.ensures in
    let test : FunctionTree → Bool = λ f. bytes_eq c.args.name.now f.name in
    let small = found_smaller program test f found in
    let less = room_left c.args.frame.now.room left c.args.state.now c.enter_call.new.state c.in_ok-room.ensures in
    let falls = body_falls c.args.frame.now.room left (program_size program) (block_size f.body) less small in
    (subst (λ t. left * program_size program + (block_size f.body + 2) < t) c.decreases falls, (c.args.frame.now.runnable, (found_runs program test f found c.args.frame.now.runnable, found_is_among program test f found)))

pub functions::run_named-returns-in-Some : goal.functions::run_named-returns-in-Some
functions::run_named-returns-in-Some t c =
    let program = program_of c.args.frame.now.scope.functions in
    let name = c.args.name.now in
    let args = c.args.spans.now in
    let s = c.args.state.now in
    let after = c.enter_call.new.state in
    let room = c.args.frame.now.room in
    let left = c.in_ok-room.room in
    let f = function_of c.in-Some.function.now in
    let found : function_named program name ≡ Some f = sym c.in-Some.ensures in
    let whole : function_call program room name args s ≡ function_body program (function_call program left) f args after = call_entered program name args s after room left c.in_ok-room.ensures ∙ ap (λ f. optional_body program (function_call program left) f args after) found in
    subst (Does c.run_function.result c.run_function.new.state) (sym whole) c.run_function.ensures

pub timed::handle-run_block-requires : goal.timed::handle-run_block-requires
timed::handle-run_block-requires t c =
    let handlers = handlers_of c.args.handlers.now in
    let body = block_of c.in-Some.body.now in
    let found : handler_of handlers c.args.exception ≡ Some body = sym c.in-Some.ensures in
    let small = handled_smaller handlers c.args.exception body found in
    let room = c.args.frame.now.room * program_size (program_of c.args.frame.now.scope.functions) in
    let falls : room + (block_size body + 1) < room + (handlers_size handlers + 1) = omega (arith, small) in
    (subst (λ t. room + (block_size body + 1) < t) c.decreases falls, handled_runs handlers c.args.exception body found c.requires)

pub timed::handle-returns-in-Some : goal.timed::handle-returns-in-Some
timed::handle-returns-in-Some t c =
    let scope = scope_in c.args.frame.now in
    let callee = calls_in c.args.frame.now in
    let found = sym c.in-Some.ensures in
    subst (Does c.run_block.result c.run_block.new.state) (sym (handled scope callee c.args.exception c.args.state.now (handlers_of c.args.handlers.now) (block_of c.in-Some.body.now) found)) c.run_block.ensures

pub timed::handle-returns-in-None : goal.timed::handle-returns-in-None
timed::handle-returns-in-None t c = unhandled (scope_in c.args.frame.now) (calls_in c.args.frame.now) c.args.exception c.args.state.now (handlers_of c.args.handlers.now) (sym c.in-None.ensures)

pub loops::run_while-returns-in_err-run_turn : goal.loops::run_while-returns-in_err-run_turn
loops::run_while-returns-in_err-run_turn t c =
    let scope = scope_in c.args.frame.now in
    let callee = calls_in c.args.frame.now in
    let condition = expression scope callee (expression_of c.args.condition.now) in
    let body = block scope callee (block_of c.args.body.now) in
    let s = c.loop-holds.state in
    let one = c.evaluate.new.state in
    let left = c.run_turn.new.state in
    let holds = c.in_ok-holds.holds in
    let n = c.in_ok-number.field-0 in
    let less = c.loop-holds.left - 1 in
    let again = while_turns less condition body in
    let whole = while_loop condition body c.args.state.now in
    let fits : FitsSigned w64 n = search rules in
    let more : c.loop-holds.left ≡ suc less = omega (arith, c.if-left-eq0.false) in
    let found : condition s ≡ normal holds one = c.in_ok-holds.ensures in
    let counted : as_number holds one ≡ normal n one = c.in_ok-number.ensures in
    let truth : c.is_true.result ≡ true = search rules in
    let is : is_true n ≡ true = ap is_true (sym (to_z-of_z w64 n fits)) ∙ sym c.is_true.ensures ∙ truth in
    let here : whole ≡ turn body again one = while_here condition body s one holds n whole less found counted is (c.loop-holds.invariant ∙ ap (λ k. while_turns k condition body s) more) in
    let end = c.in_err-run_turn.field-0.0 in
    let ended : EndsAs end left (turn body again one) = c.in_err-run_turn.ensures again in
    let all : EndsAs end left whole = subst (EndsAs end left) (sym here) ended in
    let p = err_from_is_err_and c.from_residual-in_err-run_turn.result c.from_residual-in_err-run_turn.ensures.1 in
    rw (p.1, p.2) all

pub loops::run_while-returns-then-not-branch : goal.loops::run_while-returns-then-not-branch
loops::run_while-returns-then-not-branch t c =
    let scope = scope_in c.args.frame.now in
    let callee = calls_in c.args.frame.now in
    let condition = expression scope callee (expression_of c.args.condition.now) in
    let body = block scope callee (block_of c.args.body.now) in
    let s = c.loop-holds.state in
    let one = c.evaluate.new.state in
    let left = c.run_turn.new.state in
    let holds = c.in_ok-holds.holds in
    let n = c.in_ok-number.field-0 in
    let less = c.loop-holds.left - 1 in
    let again = while_turns less condition body in
    let whole = while_loop condition body c.args.state.now in
    let fits : FitsSigned w64 n = search rules in
    let more : c.loop-holds.left ≡ suc less = omega (arith, c.if-left-eq0.false) in
    let found : condition s ≡ normal holds one = c.in_ok-holds.ensures in
    let counted : as_number holds one ≡ normal n one = c.in_ok-number.ensures in
    let truth : c.is_true.result ≡ true = search rules in
    let is : is_true n ≡ true = ap is_true (sym (to_z-of_z w64 n fits)) ∙ sym c.is_true.ensures ∙ truth in
    let here : whole ≡ turn body again one = while_here condition body s one holds n whole less found counted is (c.loop-holds.invariant ∙ ap (λ k. while_turns k condition body s) more) in
    let over : c.in_ok-run_turn.field-0 ≡ false = search rules in
    let done = subst (λ b. GoesOn (Ok b) left (turn body again one) again) over (c.in_ok-run_turn.ensures again) in
    here ∙ done

pub loops::run_while-returns-in_err-number : goal.loops::run_while-returns-in_err-number
loops::run_while-returns-in_err-number t c =
    let scope = scope_in c.args.frame.now in
    let callee = calls_in c.args.frame.now in
    let condition = expression scope callee (expression_of c.args.condition.now) in
    let body = block scope callee (block_of c.args.body.now) in
    let s = c.loop-holds.state in
    let one = c.evaluate.new.state in
    let holds = c.in_ok-holds.holds in
    let reason = c.in_err-number.field-0.0 in
    let whole = while_loop condition body c.args.state.now in
    let found : condition s ≡ normal holds one = c.in_ok-holds.ensures in
    let stopped : as_number holds one ≡ early (reason_of reason) one = c.in_err-number.ensures in
    let all : whole ≡ early (reason_of reason) one = while_stopped condition body s one holds whole (reason_of reason) c.loop-holds.left found stopped c.loop-holds.invariant in
    let p = err_from_is_err_and c.from_residual-in_err-number.result c.from_residual-in_err-number.ensures.1 in
    rw (p.1, p.2) all

pub loops::run_while-returns-then-not-is_true : goal.loops::run_while-returns-then-not-is_true
loops::run_while-returns-then-not-is_true t c =
    let scope = scope_in c.args.frame.now in
    let callee = calls_in c.args.frame.now in
    let condition = expression scope callee (expression_of c.args.condition.now) in
    let body = block scope callee (block_of c.args.body.now) in
    let s = c.loop-holds.state in
    let one = c.evaluate.new.state in
    let holds = c.in_ok-holds.holds in
    let n = c.in_ok-number.field-0 in
    let fits : FitsSigned w64 n = search rules in
    let found : condition s ≡ normal holds one = c.in_ok-holds.ensures in
    let counted : as_number holds one ≡ normal n one = c.in_ok-number.ensures in
    let truth : c.is_true.result ≡ false = search rules in
    let isnt : is_true n ≡ false = ap is_true (sym (to_z-of_z w64 n fits)) ∙ sym c.is_true.ensures ∙ truth in
    while_over condition body s one holds (while_loop condition body c.args.state.now) n c.loop-holds.left found counted isnt c.loop-holds.invariant

pub simple::augment-returns-in-Element : goal.simple::augment-returns-in-Element
simple::augment-returns-in-Element t c =
    let index = expression_of c.in-Element.index in
    let e = expression_of c.args.e.now in
    let does : Statement → Type 0 = λ s. Does c.augment_element.result c.augment_element.new.state (statement (scope_in c.args.frame.now) (calls_in c.args.frame.now) s c.args.state.now) in
    let tree : augment_of c.args.target.now c.args.operator e ≡ augment_element c.in-Element.x index c.args.operator e = ap (λ target. augment_of target c.args.operator e) c.in-Element.is in
    let called : does (augment_element c.bytes-in-Element.result.now index c.args.operator e) = c.augment_element.ensures in
    subst does (ap (λ x. augment_element x index c.args.operator e) c.bytes-in-Element.ensures ∙ sym tree) called
