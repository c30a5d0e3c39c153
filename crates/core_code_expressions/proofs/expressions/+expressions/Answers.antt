use Rattle.std.proofs.Common.{rules, ◌≡◌, ◌+◌, ◌++◌, [], drop, length, ap, sym, subst, ◌∙◌, arith}
use Rattle.std.proofs.lemmas.List.{drop_all}
use Rattle.kern_syntax.specs.declared.expression.Argument.TheFolds.{the_lemmas}
use Rattle.kern_syntax.specs.Tree.{binary, call, compare, conjunction, disjunction, method, no_more}
use Rattle.kern_syntax.specs.TreeOf.{expression_of, argument_of, arguments_of}
use Rattle.kern_calls.specs.Calls.{builtin_named, method_named}
use Rattle.kern_calls.specs.Types.{type_of}
use Rattle.kern_expression_types.proofs.Lists.{drop-item}
use Rattle.timeline_sem.specs.Expressions.{text_in}
use Rattle.code_forms.specs.ExpressionCode.{expression_code, filled}
use Rattle.code_forms.specs.Operations.{array_argument, call_has_value, call_instrs, method_has_value, takes_numbers, wrapped_type, literal}
use Rattle.code_forms.specs.Sizes.{expression_size}
use Rattle.code_ranges.specs.Ready.{AreReady, IsReady}
use Rattle.core_code_names.specs.SettingOf.{setting_of}
use Rattle.core_code_expressions.specs.ReadyCalls.{IsReadyCall, IsReadyMethod}
use Rattle.core_code_expressions.proofs.Arguments.{ArePutSoFar, all-put, argument-put, argument-ready}
use Rattle.core_code_expressions.proofs.Falls.{method_falls}
use Rattle.core_code_expressions.proofs.Put.{and_put, behind, binary_put, call_alone_put, call_longer, call_taken, compare_put, longer, method_longer, method_put, one_more, or_put, same_type, then_put, three_more}
use Rattle.core_code_expressions.proofs.Ready.{and_end_places, and_second, and_size, and_test_places, binary_second, call_arguments, call_ready, call_room, compare_second, height_above, method_arguments, method_places, method_ready, method_room, or_second, or_size, or_test_places, room_above, room_here}
use Rattle.core_code_expressions.proofs.expressions.+expressions.Goals as goal

pub put_expression-put_expression-requires-in-Binary-2 : goal.put_expression-put_expression-requires-in-Binary-2
put_expression-put_expression-requires-in-Binary-2 t c =
    let tree : expression_of c.args.e.now ≡ binary c.in-Binary.operator (expression_of c.deref-in-Binary.result.now) (expression_of c.deref-in-Binary-2.result.now) = search (rules, the_lemmas) in
    let ready : IsReady (setting_of c.args.setting.now) c.raised-in-Binary.result (length c.put_expression-in-Binary.new.lines.items) (expression_of c.deref-in-Binary-2.result.now) = binary_second (setting_of c.args.setting.now) c.args.mark (length c.args.lines.now.items) c.in-Binary.operator (expression_of c.deref-in-Binary.result.now) (expression_of c.deref-in-Binary-2.result.now) _ _ (subst (IsReady (setting_of c.args.setting.now) c.args.mark (length c.args.lines.now.items)) tree c.requires) c.raised-in-Binary.ensures c.in_ok-first-in-Binary.ensures.longer in
    (search (rules, the_lemmas), ready)

pub put_expression-put_operator-requires : goal.put_expression-put_operator-requires
put_expression-put_operator-requires t c =
    room_above c.args.mark c.raised-in-Binary-2.result (expression_of c.args.e.now) 2 2 c.requires.fits c.raised-in-Binary-2.ensures (omega arith)

pub put_expression-returns-in_ok-put_operator-in-Binary-clause-code : goal.put_expression-returns-in_ok-put_operator-in-Binary-clause-code
put_expression-returns-in_ok-put_operator-in-Binary-clause-code t c =
    let tree : expression_of c.args.e.now ≡ binary c.in-Binary.operator (expression_of c.deref-in-Binary.result.now) (expression_of c.deref-in-Binary-2.result.now) = search (rules, the_lemmas) in
    let typed : c.binary_type-kind.result ≡ type_of (setting_of c.args.setting.now).scope (binary c.in-Binary.operator (expression_of c.deref-in-Binary.result.now) (expression_of c.deref-in-Binary-2.result.now)) = same_type c.in-Binary.operator _ _ _ _ c.in_ok-first-in-Binary.ensures.kind c.in_ok-second-in-Binary.ensures.kind c.binary_type-kind.ensures in
    let left : expression_of c.deref-in-Binary-3.result.now ≡ expression_of c.deref-in-Binary.result.now = search (rules, the_lemmas) in
    let right : expression_of c.deref-in-Binary-4.result.now ≡ expression_of c.deref-in-Binary-2.result.now = search (rules, the_lemmas) in
    let wrapped : c.wrapped_type-wrapped.result ≡ wrapped_type c.in-Binary.operator (literal (expression_of c.deref-in-Binary.result.now)) (literal (expression_of c.deref-in-Binary-2.result.now)) (type_of (setting_of c.args.setting.now).scope (binary c.in-Binary.operator (expression_of c.deref-in-Binary.result.now) (expression_of c.deref-in-Binary-2.result.now))) =
    c.wrapped_type-wrapped.ensures
    ∙ ap (λ e. wrapped_type c.in-Binary.operator (literal e) (literal (expression_of c.deref-in-Binary-4.result.now)) c.binary_type-kind.result) left
    ∙ ap (λ e. wrapped_type c.in-Binary.operator (literal (expression_of c.deref-in-Binary.result.now)) (literal e) c.binary_type-kind.result) right
    ∙ ap (wrapped_type c.in-Binary.operator (literal (expression_of c.deref-in-Binary.result.now)) (literal (expression_of c.deref-in-Binary-2.result.now))) typed in
    let put = binary_put (setting_of c.args.setting.now) c.args.free c.args.mark c.args.lines.now.items _ _ _ c.in-Binary.operator (expression_of c.deref-in-Binary.result.now) (expression_of c.deref-in-Binary-2.result.now) _ _ _ c.in_ok-first-in-Binary.ensures.code c.in_ok-first-in-Binary.ensures.longer c.raised-in-Binary.ensures c.in_ok-second-in-Binary.ensures.code c.raised-in-Binary-2.ensures wrapped c.in_ok-put_operator-in-Binary.ensures in
    put ∙ ap (λ e. c.args.lines.now.items ++ expression_code (setting_of c.args.setting.now) c.args.free c.args.mark (length c.args.lines.now.items) e) (sym tree)

pub put_expression-returns-in_ok-put_operator-in-Binary-clause-longer : goal.put_expression-returns-in_ok-put_operator-in-Binary-clause-longer
put_expression-returns-in_ok-put_operator-in-Binary-clause-longer t c =
    longer (setting_of c.args.setting.now) c.args.free c.args.mark (length c.args.lines.now.items) (expression_of c.args.e.now) c.args.lines.now.items _ (put_expression-returns-in_ok-put_operator-in-Binary-clause-code t c)

pub put_expression-put_expression-requires-in-Compare-2 : goal.put_expression-put_expression-requires-in-Compare-2
put_expression-put_expression-requires-in-Compare-2 t c =
    let tree : expression_of c.args.e.now ≡ compare c.in-Compare.comparison (expression_of c.deref-in-Compare.result.now) (expression_of c.deref-in-Compare-2.result.now) = search (rules, the_lemmas) in
    let ready : IsReady (setting_of c.args.setting.now) c.raised-in-Compare.result (length c.put_expression-in-Compare.new.lines.items) (expression_of c.deref-in-Compare-2.result.now) = compare_second (setting_of c.args.setting.now) c.args.mark (length c.args.lines.now.items) c.in-Compare.comparison (expression_of c.deref-in-Compare.result.now) (expression_of c.deref-in-Compare-2.result.now) _ _ (subst (IsReady (setting_of c.args.setting.now) c.args.mark (length c.args.lines.now.items)) tree c.requires) c.raised-in-Compare.ensures c.in_ok-put_expression-in-Compare.ensures.longer in
    (search (rules, the_lemmas), ready)

pub put_expression-put_comparison-requires : goal.put_expression-put_comparison-requires
put_expression-put_comparison-requires t c =
    room_above c.args.mark c.raised-in-Compare-2.result (expression_of c.args.e.now) 2 3 c.requires.fits c.raised-in-Compare-2.ensures (omega arith)

pub put_expression-returns-in_ok-put_comparison-in-Compare-clause-code : goal.put_expression-returns-in_ok-put_comparison-in-Compare-clause-code
put_expression-returns-in_ok-put_comparison-in-Compare-clause-code t c =
    let tree : expression_of c.args.e.now ≡ compare c.in-Compare.comparison (expression_of c.deref-in-Compare.result.now) (expression_of c.deref-in-Compare-2.result.now) = search (rules, the_lemmas) in
    let put = compare_put (setting_of c.args.setting.now) c.args.free c.args.mark c.args.lines.now.items _ _ _ c.in-Compare.comparison (expression_of c.deref-in-Compare.result.now) (expression_of c.deref-in-Compare-2.result.now) _ _ c.in_ok-put_expression-in-Compare.ensures.code c.in_ok-put_expression-in-Compare.ensures.longer c.raised-in-Compare.ensures c.in_ok-put_expression-in-Compare-2.ensures.code c.raised-in-Compare-2.ensures c.in_ok-put_comparison-in-Compare.ensures in
    put ∙ ap (λ e. c.args.lines.now.items ++ expression_code (setting_of c.args.setting.now) c.args.free c.args.mark (length c.args.lines.now.items) e) (sym tree)

pub put_expression-returns-in_ok-put_comparison-in-Compare-clause-longer : goal.put_expression-returns-in_ok-put_comparison-in-Compare-clause-longer
put_expression-returns-in_ok-put_comparison-in-Compare-clause-longer t c =
    longer (setting_of c.args.setting.now) c.args.free c.args.mark (length c.args.lines.now.items) (expression_of c.args.e.now) c.args.lines.now.items _ (put_expression-returns-in_ok-put_comparison-in-Compare-clause-code t c)

pub put_expression-expression_size-requires : goal.put_expression-expression_size-requires
put_expression-expression_size-requires t c =
    let tree : expression_of c.args.e.now ≡ conjunction (expression_of c.deref-in-And.result.now) (expression_of c.deref-in-And-2.result.now) = search (rules, the_lemmas) in
    and_size (setting_of c.args.setting.now) c.args.mark (length c.args.lines.now.items) (expression_of c.deref-in-And.result.now) (expression_of c.deref-in-And-2.result.now) (subst (IsReady (setting_of c.args.setting.now) c.args.mark (length c.args.lines.now.items)) tree c.requires)

pub put_expression-put_and_test-requires-clause-height : goal.put_expression-put_and_test-requires-clause-height
put_expression-put_and_test-requires-clause-height t c =
    height_above c.args.mark (expression_of c.args.e.now) 1 c.requires.fits (omega arith)

pub put_expression-put_and_test-requires-clause-places : goal.put_expression-put_and_test-requires-clause-places
put_expression-put_and_test-requires-clause-places t c =
    let tree : expression_of c.args.e.now ≡ conjunction (expression_of c.deref-in-And.result.now) (expression_of c.deref-in-And-2.result.now) = search (rules, the_lemmas) in
    and_test_places (setting_of c.args.setting.now) c.args.mark (length c.args.lines.now.items) (expression_of c.deref-in-And.result.now) (expression_of c.deref-in-And-2.result.now) _ _ (subst (IsReady (setting_of c.args.setting.now) c.args.mark (length c.args.lines.now.items)) tree c.requires) c.in_ok-put_expression-in-And.ensures.longer c.expression_size.ensures.size

pub put_expression-put_expression-requires-in-And-2 : goal.put_expression-put_expression-requires-in-And-2
put_expression-put_expression-requires-in-And-2 t c =
    let tree : expression_of c.args.e.now ≡ conjunction (expression_of c.deref-in-And.result.now) (expression_of c.deref-in-And-3.result.now) = search (rules, the_lemmas) in
    let at : length c.put_and_test.new.lines.items ≡ length c.args.lines.now.items + expression_size (setting_of c.args.setting.now) (expression_of c.deref-in-And.result.now) + 1 = one_more c.put_expression-in-And.new.lines.items c.put_and_test.new.lines.items _ _ c.in_ok-put_expression-in-And.ensures.longer c.in_ok-put_and_test-in-And.ensures in
    let ready : IsReady (setting_of c.args.setting.now) c.args.mark (length c.put_and_test.new.lines.items) (expression_of c.deref-in-And-3.result.now) = and_second (setting_of c.args.setting.now) c.args.mark (length c.args.lines.now.items) (expression_of c.deref-in-And.result.now) (expression_of c.deref-in-And-3.result.now) _ (subst (IsReady (setting_of c.args.setting.now) c.args.mark (length c.args.lines.now.items)) tree c.requires) at in
    (grind (arith, the_lemmas), ready)

pub put_expression-put_and_end-requires-clause-places : goal.put_expression-put_and_end-requires-clause-places
put_expression-put_and_end-requires-clause-places t c =
    let tree : expression_of c.args.e.now ≡ conjunction (expression_of c.deref-in-And.result.now) (expression_of c.deref-in-And-3.result.now) = search (rules, the_lemmas) in
    let at : length c.put_and_test.new.lines.items ≡ length c.args.lines.now.items + expression_size (setting_of c.args.setting.now) (expression_of c.deref-in-And.result.now) + 1 = one_more c.put_expression-in-And.new.lines.items c.put_and_test.new.lines.items _ _ c.in_ok-put_expression-in-And.ensures.longer c.in_ok-put_and_test-in-And.ensures in
    and_end_places (setting_of c.args.setting.now) c.args.mark (length c.args.lines.now.items) (expression_of c.deref-in-And.result.now) (expression_of c.deref-in-And-3.result.now) _ (subst (IsReady (setting_of c.args.setting.now) c.args.mark (length c.args.lines.now.items)) tree c.requires) (behind _ _ _ _ at c.in_ok-put_expression-in-And-2.ensures.longer)

pub put_expression-returns-in_ok-put_and_end-in-And-clause-code : goal.put_expression-returns-in_ok-put_and_end-in-And-clause-code
put_expression-returns-in_ok-put_and_end-in-And-clause-code t c =
    let tree : expression_of c.args.e.now ≡ conjunction (expression_of c.deref-in-And.result.now) (expression_of c.deref-in-And-3.result.now) = search (rules, the_lemmas) in
    let same : expression_of c.deref-in-And-2.result.now ≡ expression_of c.deref-in-And-3.result.now = search rules in
    let size : c.expression_size.result.size ≡ expression_size (setting_of c.args.setting.now) (expression_of c.deref-in-And-3.result.now) = c.expression_size.ensures.size ∙ ap (expression_size (setting_of c.args.setting.now)) same in
    let put = and_put (setting_of c.args.setting.now) c.args.free c.args.mark c.args.lines.now.items _ _ _ (expression_of c.deref-in-And.result.now) (expression_of c.deref-in-And-3.result.now) _ _ c.in_ok-put_expression-in-And.ensures.code c.in_ok-put_expression-in-And.ensures.longer size c.in_ok-put_and_test-in-And.ensures c.in_ok-put_expression-in-And-2.ensures.code c.in_ok-put_expression-in-And-2.ensures.longer c.in_ok-put_and_end-in-And.ensures in
    put ∙ ap (λ e. c.args.lines.now.items ++ expression_code (setting_of c.args.setting.now) c.args.free c.args.mark (length c.args.lines.now.items) e) (sym tree)

pub put_expression-returns-in_ok-put_and_end-in-And-clause-longer : goal.put_expression-returns-in_ok-put_and_end-in-And-clause-longer
put_expression-returns-in_ok-put_and_end-in-And-clause-longer t c =
    longer (setting_of c.args.setting.now) c.args.free c.args.mark (length c.args.lines.now.items) (expression_of c.args.e.now) c.args.lines.now.items _ (put_expression-returns-in_ok-put_and_end-in-And-clause-code t c)

pub put_expression-expression_size-requires-in-Or : goal.put_expression-expression_size-requires-in-Or
put_expression-expression_size-requires-in-Or t c =
    let tree : expression_of c.args.e.now ≡ disjunction (expression_of c.deref-in-Or.result.now) (expression_of c.deref-in-Or-2.result.now) = search (rules, the_lemmas) in
    or_size (setting_of c.args.setting.now) c.args.mark (length c.args.lines.now.items) (expression_of c.deref-in-Or.result.now) (expression_of c.deref-in-Or-2.result.now) (subst (IsReady (setting_of c.args.setting.now) c.args.mark (length c.args.lines.now.items)) tree c.requires)

pub put_expression-put_or_test-requires-clause-height : goal.put_expression-put_or_test-requires-clause-height
put_expression-put_or_test-requires-clause-height t c =
    height_above c.args.mark (expression_of c.args.e.now) 1 c.requires.fits (omega arith)

pub put_expression-put_or_test-requires-clause-places : goal.put_expression-put_or_test-requires-clause-places
put_expression-put_or_test-requires-clause-places t c =
    let tree : expression_of c.args.e.now ≡ disjunction (expression_of c.deref-in-Or.result.now) (expression_of c.deref-in-Or-2.result.now) = search (rules, the_lemmas) in
    or_test_places (setting_of c.args.setting.now) c.args.mark (length c.args.lines.now.items) (expression_of c.deref-in-Or.result.now) (expression_of c.deref-in-Or-2.result.now) _ _ (subst (IsReady (setting_of c.args.setting.now) c.args.mark (length c.args.lines.now.items)) tree c.requires) c.in_ok-put_expression-in-Or.ensures.longer c.expression_size-in-Or.ensures.size

pub put_expression-put_expression-requires-in-Or-2 : goal.put_expression-put_expression-requires-in-Or-2
put_expression-put_expression-requires-in-Or-2 t c =
    let tree : expression_of c.args.e.now ≡ disjunction (expression_of c.deref-in-Or.result.now) (expression_of c.deref-in-Or-3.result.now) = search (rules, the_lemmas) in
    let at : length c.put_or_test.new.lines.items ≡ length c.args.lines.now.items + expression_size (setting_of c.args.setting.now) (expression_of c.deref-in-Or.result.now) + 3 = three_more c.put_expression-in-Or.new.lines.items c.put_or_test.new.lines.items _ _ _ _ c.in_ok-put_expression-in-Or.ensures.longer c.in_ok-put_or_test-in-Or.ensures in
    let ready : IsReady (setting_of c.args.setting.now) c.args.mark (length c.put_or_test.new.lines.items) (expression_of c.deref-in-Or-3.result.now) = or_second (setting_of c.args.setting.now) c.args.mark (length c.args.lines.now.items) (expression_of c.deref-in-Or.result.now) (expression_of c.deref-in-Or-3.result.now) _ (subst (IsReady (setting_of c.args.setting.now) c.args.mark (length c.args.lines.now.items)) tree c.requires) at in
    (search (rules, the_lemmas), ready)

pub put_expression-returns-in_ok-put_expression-in-Or-2-clause-code : goal.put_expression-returns-in_ok-put_expression-in-Or-2-clause-code
put_expression-returns-in_ok-put_expression-in-Or-2-clause-code t c =
    let tree : expression_of c.args.e.now ≡ disjunction (expression_of c.deref-in-Or.result.now) (expression_of c.deref-in-Or-3.result.now) = search (rules, the_lemmas) in
    let same : expression_of c.deref-in-Or-2.result.now ≡ expression_of c.deref-in-Or-3.result.now = search rules in
    let size : c.expression_size-in-Or.result.size ≡ expression_size (setting_of c.args.setting.now) (expression_of c.deref-in-Or-3.result.now) = c.expression_size-in-Or.ensures.size ∙ ap (expression_size (setting_of c.args.setting.now)) same in
    let put = or_put (setting_of c.args.setting.now) c.args.free c.args.mark c.args.lines.now.items _ _ _ (expression_of c.deref-in-Or.result.now) (expression_of c.deref-in-Or-3.result.now) _ c.in_ok-put_expression-in-Or.ensures.code c.in_ok-put_expression-in-Or.ensures.longer size c.in_ok-put_or_test-in-Or.ensures c.in_ok-put_expression-in-Or-2.ensures.code in
    put ∙ ap (λ e. c.args.lines.now.items ++ expression_code (setting_of c.args.setting.now) c.args.free c.args.mark (length c.args.lines.now.items) e) (sym tree)

pub put_expression-returns-in_ok-put_expression-in-Or-2-clause-longer : goal.put_expression-returns-in_ok-put_expression-in-Or-2-clause-longer
put_expression-returns-in_ok-put_expression-in-Or-2-clause-longer t c =
    longer (setting_of c.args.setting.now) c.args.free c.args.mark (length c.args.lines.now.items) (expression_of c.args.e.now) c.args.lines.now.items _ (put_expression-returns-in_ok-put_expression-in-Or-2-clause-code t c)

pub put_expression-put_call-requires : goal.put_expression-put_call-requires
put_expression-put_call-requires t c =
    let tree : expression_of c.args.e.now ≡ call c.in-Call.name (arguments_of c.in-Call.arguments.items) = search (rules, the_lemmas) in
    let same : call c.in-Call.name (arguments_of c.in-Call.arguments.items) ≡ call c.in-Call.name (arguments_of c.deref-in-Call.result.now) = ap (λ items. call c.in-Call.name (arguments_of items)) (sym c.deref-in-Call.ensures.value) in
    let ready : IsReadyCall (setting_of c.args.setting.now) c.args.mark (length c.args.lines.now.items) c.in-Call.name (arguments_of c.deref-in-Call.result.now) = call_ready (setting_of c.args.setting.now) c.args.mark (length c.args.lines.now.items) _ _ (subst (IsReady (setting_of c.args.setting.now) c.args.mark (length c.args.lines.now.items)) (tree ∙ same) c.requires) in
    (search (rules, the_lemmas), ready)

pub put_expression-returns-in_ok-put_filler-in-Call-clause-code : goal.put_expression-returns-in_ok-put_filler-in-Call-clause-code
put_expression-returns-in_ok-put_filler-in-Call-clause-code t c =
    let tree : expression_of c.args.e.now ≡ call c.in-Call.name (arguments_of c.in-Call.arguments.items) = search (rules, the_lemmas) in
    let same : call c.in-Call.name (arguments_of c.in-Call.arguments.items) ≡ call c.in-Call.name (arguments_of c.deref-in-Call.result.now) = ap (λ items. call c.in-Call.name (arguments_of items)) (sym c.deref-in-Call.ensures.value) in
    let filler : filled c.args.mark c.in_ok-callee-in-Call.callee.has_value ≡ filled c.args.mark (call_has_value (setting_of c.args.setting.now) c.in-Call.name (builtin_named c.in-Call.name)) = ap (filled c.args.mark) c.in_ok-callee-in-Call.ensures.has_value in
    let put = then_put c.args.lines.now.items _ _ _ _ c.in_ok-callee-in-Call.ensures.code (c.in_ok-put_filler-in-Call.ensures ∙ ap (λ l. c.put_call.new.lines.items ++ l) filler) in
    put ∙ ap (λ e. c.args.lines.now.items ++ expression_code (setting_of c.args.setting.now) c.args.free c.args.mark (length c.args.lines.now.items) e) (sym (tree ∙ same))

pub put_expression-returns-in_ok-put_filler-in-Call-clause-longer : goal.put_expression-returns-in_ok-put_filler-in-Call-clause-longer
put_expression-returns-in_ok-put_filler-in-Call-clause-longer t c =
    longer (setting_of c.args.setting.now) c.args.free c.args.mark (length c.args.lines.now.items) (expression_of c.args.e.now) c.args.lines.now.items _ (put_expression-returns-in_ok-put_filler-in-Call-clause-code t c)

pub put_expression-put_method-requires : goal.put_expression-put_method-requires
put_expression-put_method-requires t c =
    let tree : expression_of c.args.e.now ≡ method c.in-Method.object c.in-Method.name (arguments_of c.in-Method.arguments.items) = search (rules, the_lemmas) in
    let same : method c.in-Method.object c.in-Method.name (arguments_of c.in-Method.arguments.items) ≡ method c.in-Method.object c.in-Method.name (arguments_of c.deref-in-Method.result.now) = ap (λ items. method c.in-Method.object c.in-Method.name (arguments_of items)) (sym c.deref-in-Method.ensures.value) in
    let ready : IsReadyMethod (setting_of c.args.setting.now) c.args.mark (length c.args.lines.now.items) c.in-Method.object c.in-Method.name (arguments_of c.deref-in-Method.result.now) = method_ready (setting_of c.args.setting.now) c.args.mark (length c.args.lines.now.items) _ _ _ (subst (IsReady (setting_of c.args.setting.now) c.args.mark (length c.args.lines.now.items)) (tree ∙ same) c.requires) in
    (omega (arith, method_falls c.args.e.now c.in-Method.object c.in-Method.name c.in-Method.arguments c.deref-in-Method.result.now c.in-Method.is c.deref-in-Method.ensures.value), ready)

pub put_expression-returns-in_ok-put_filler-in-Method-clause-code : goal.put_expression-returns-in_ok-put_filler-in-Method-clause-code
put_expression-returns-in_ok-put_filler-in-Method-clause-code t c =
    let tree : expression_of c.args.e.now ≡ method c.in-Method.object c.in-Method.name (arguments_of c.in-Method.arguments.items) = search (rules, the_lemmas) in
    let same : method c.in-Method.object c.in-Method.name (arguments_of c.in-Method.arguments.items) ≡ method c.in-Method.object c.in-Method.name (arguments_of c.deref-in-Method.result.now) = ap (λ items. method c.in-Method.object c.in-Method.name (arguments_of items)) (sym c.deref-in-Method.ensures.value) in
    let filler : filled c.args.mark c.method_has_value.result ≡ filled c.args.mark (method_has_value (method_named c.in-Method.object c.in-Method.name)) = ap (filled c.args.mark) (c.method_has_value.ensures ∙ ap method_has_value c.in_ok-method-in-Method.ensures.method) in
    let put = then_put c.args.lines.now.items _ _ _ _ c.in_ok-method-in-Method.ensures.code (c.in_ok-put_filler-in-Method.ensures ∙ ap (λ l. c.put_method.new.lines.items ++ l) filler) in
    put ∙ ap (λ e. c.args.lines.now.items ++ expression_code (setting_of c.args.setting.now) c.args.free c.args.mark (length c.args.lines.now.items) e) (sym (tree ∙ same))

pub put_expression-returns-in_ok-put_filler-in-Method-clause-longer : goal.put_expression-returns-in_ok-put_filler-in-Method-clause-longer
put_expression-returns-in_ok-put_filler-in-Method-clause-longer t c =
    longer (setting_of c.args.setting.now) c.args.free c.args.mark (length c.args.lines.now.items) (expression_of c.args.e.now) c.args.lines.now.items _ (put_expression-returns-in_ok-put_filler-in-Method-clause-code t c)

pub put_call-put_arguments-requires : goal.put_call-put_arguments-requires
put_call-put_arguments-requires t c =
    let ready : AreReady (setting_of c.args.setting.now) c.args.mark (length c.args.lines.now.items) (arguments_of c.args.arguments.now) = call_arguments (setting_of c.args.setting.now) c.args.mark (length c.args.lines.now.items) c.args.name.now (arguments_of c.args.arguments.now) c.requires (ap (λ f. takes_numbers (array_argument (setting_of c.args.setting.now) (arguments_of c.args.arguments.now)) (builtin_named f)) (sym c.bytes.ensures) ∙ sym c.callee_of-callee.ensures.takes_numbers ∙ c.if-callee.true) in
    (search rules, ready)

pub put_call-put-requires : goal.put_call-put-requires
put_call-put-requires t c =
    call_room (setting_of c.args.setting.now) c.args.mark (length c.args.lines.now.items) c.args.name.now (arguments_of c.args.arguments.now) _ c.requires c.in_ok-above.ensures.above

pub put_call-put-requires-2 : goal.put_call-put-requires-2
put_call-put-requires-2 t c =
    room_here c.args.mark (call c.args.name.now (arguments_of c.args.arguments.now)) 1 c.requires.fits (omega arith)

pub put_call-returns-then-callee-clause-code : goal.put_call-returns-then-callee-clause-code
put_call-returns-then-callee-clause-code t c =
    call_taken (setting_of c.args.setting.now) c.args.free c.args.mark c.args.lines.now.items _ _ c.args.name.now (arguments_of c.args.arguments.now) _ _ c.in_ok-above.ensures.code c.in_ok-above.ensures.above (c.callee_of-callee.ensures.instr ∙ ap (λ f. call_instrs (setting_of c.args.setting.now) f (text_in (arguments_of c.args.arguments.now)) (array_argument (setting_of c.args.setting.now) (arguments_of c.args.arguments.now)) (builtin_named f)) c.bytes.ensures) (ap (λ f. takes_numbers (array_argument (setting_of c.args.setting.now) (arguments_of c.args.arguments.now)) (builtin_named f)) (sym c.bytes.ensures) ∙ sym c.callee_of-callee.ensures.takes_numbers ∙ c.if-callee.true) c.in_ok-put.ensures

pub put_call-returns-then-callee-clause-longer : goal.put_call-returns-then-callee-clause-longer
put_call-returns-then-callee-clause-longer t c =
    call_longer (setting_of c.args.setting.now) c.args.free c.args.mark (length c.args.lines.now.items) c.args.name.now (arguments_of c.args.arguments.now) c.args.lines.now.items _ (put_call-returns-then-callee-clause-code t c)

pub put_call-returns-clause-code : goal.put_call-returns-clause-code
put_call-returns-clause-code t c =
    call_alone_put (setting_of c.args.setting.now) c.args.free c.args.mark c.args.lines.now.items _ c.args.name.now (arguments_of c.args.arguments.now) _ (c.callee_of-callee.ensures.instr ∙ ap (λ f. call_instrs (setting_of c.args.setting.now) f (text_in (arguments_of c.args.arguments.now)) (array_argument (setting_of c.args.setting.now) (arguments_of c.args.arguments.now)) (builtin_named f)) c.bytes.ensures) (ap (λ f. takes_numbers (array_argument (setting_of c.args.setting.now) (arguments_of c.args.arguments.now)) (builtin_named f)) (sym c.bytes.ensures) ∙ sym c.callee_of-callee.ensures.takes_numbers ∙ c.if-callee.false) c.in_ok-put-2.ensures

pub put_call-returns-clause-longer : goal.put_call-returns-clause-longer
put_call-returns-clause-longer t c =
    call_longer (setting_of c.args.setting.now) c.args.free c.args.mark (length c.args.lines.now.items) c.args.name.now (arguments_of c.args.arguments.now) c.args.lines.now.items _ (put_call-returns-clause-code t c)

pub put_method-put_arguments-requires : goal.put_method-put_arguments-requires
put_method-put_arguments-requires t c =
    let ready : AreReady (setting_of c.args.setting.now) c.args.mark (length c.args.lines.now.items) (arguments_of c.args.arguments.now) = method_arguments (setting_of c.args.setting.now) c.args.mark (length c.args.lines.now.items) c.args.object.now c.args.name.now (arguments_of c.args.arguments.now) c.requires in
    (search rules, ready)

pub put_method-put_method_instrs-requires-clause-room : goal.put_method-put_method_instrs-requires-clause-room
put_method-put_method_instrs-requires-clause-room t c =
    method_room (setting_of c.args.setting.now) c.args.mark (length c.args.lines.now.items) c.args.object.now c.args.name.now (arguments_of c.args.arguments.now) _ c.requires c.in_ok-above.ensures.above

pub put_method-put_method_instrs-requires-clause-places : goal.put_method-put_method_instrs-requires-clause-places
put_method-put_method_instrs-requires-clause-places t c =
    method_places (setting_of c.args.setting.now) c.args.mark (length c.args.lines.now.items) c.args.object.now c.args.name.now _ (arguments_of c.args.arguments.now) _ _ c.requires c.in_ok-above.ensures.longer c.text_in.ensures (c.method_named-method.ensures ∙ ap (λ o. method_named o c.bytes-2.result.now) c.bytes.ensures ∙ ap (method_named c.args.object.now) c.bytes-2.ensures)

pub put_method-returns-clause-code : goal.put_method-returns-clause-code
put_method-returns-clause-code t c =
    method_put (setting_of c.args.setting.now) c.args.free c.args.mark c.args.lines.now.items _ _ c.args.object.now c.args.name.now _ (arguments_of c.args.arguments.now) _ _ c.in_ok-above.ensures.code c.in_ok-above.ensures.longer c.in_ok-above.ensures.above c.text_in.ensures (c.method_named-method.ensures ∙ ap (λ o. method_named o c.bytes-2.result.now) c.bytes.ensures ∙ ap (method_named c.args.object.now) c.bytes-2.ensures) c.in_ok-put_method_instrs.ensures

pub put_method-returns-clause-longer : goal.put_method-returns-clause-longer
put_method-returns-clause-longer t c =
    method_longer (setting_of c.args.setting.now) c.args.free c.args.mark (length c.args.lines.now.items) c.args.object.now c.args.name.now (arguments_of c.args.arguments.now) c.args.lines.now.items _ (put_method-returns-clause-code t c)

pub put_arguments-put_argument-requires : goal.put_arguments-put_argument-requires
put_arguments-put_argument-requires t c =
    let next : arguments_of (drop c.loop-argument.argument-index c.args.arguments.now) ≡ argument_of c.argument-item.result (arguments_of (drop (c.loop-argument.argument-index + 1) c.args.arguments.now)) = ap arguments_of (drop-item c.args.arguments.now c.loop-argument.argument-index c.argument-item.result c.loop-argument-test.true c.argument-item.is) in
    let ready : AreReady (setting_of c.args.setting.now) c.loop-argument.above (length c.loop-argument.lines.items) (argument_of c.argument-item.result no_more) = argument-ready (setting_of c.args.setting.now) _ _ c.argument-item.result _ (subst (AreReady (setting_of c.args.setting.now) c.loop-argument.above (length c.loop-argument.lines.items)) next c.loop-argument.invariant.ready) in
    (search (rules, the_lemmas), ready)

pub put_arguments-loop-argument-preserved : goal.put_arguments-loop-argument-preserved
put_arguments-loop-argument-preserved t c =
    let next : arguments_of (drop c.loop-argument.argument-index c.args.arguments.now) ≡ argument_of c.argument-item.result (arguments_of (drop (c.loop-argument.argument-index + 1) c.args.arguments.now)) = ap arguments_of (drop-item c.args.arguments.now c.loop-argument.argument-index c.argument-item.result c.loop-argument-test.true c.argument-item.is) in
    argument-put (setting_of c.args.setting.now) c.args.free c.args.mark _ _ c.args.lines.now.items _ _ (arguments_of c.args.arguments.now) (arguments_of (drop (c.loop-argument.argument-index + 1) c.args.arguments.now)) c.argument-item.result (subst (ArePutSoFar (setting_of c.args.setting.now) c.args.free c.args.mark c.loop-argument.above c.args.lines.now.items c.loop-argument.lines.items (arguments_of c.args.arguments.now)) next c.loop-argument.invariant) c.in_ok-above.ensures.code c.in_ok-above.ensures.longer c.in_ok-above.ensures.above

pub put_arguments-returns-clause-code : goal.put_arguments-returns-clause-code
put_arguments-returns-clause-code t c =
    let none : drop c.loop-argument.argument-index c.args.arguments.now ≡ [] = drop_all c.loop-argument.argument-index c.args.arguments.now c.loop-argument-test.false in
    all-put (setting_of c.args.setting.now) c.args.free c.args.mark c.loop-argument.above c.args.lines.now.items c.loop-argument.lines.items (arguments_of c.args.arguments.now) (subst (λ rest. ArePutSoFar (setting_of c.args.setting.now) c.args.free c.args.mark c.loop-argument.above c.args.lines.now.items c.loop-argument.lines.items (arguments_of c.args.arguments.now) (arguments_of rest)) none c.loop-argument.invariant)
