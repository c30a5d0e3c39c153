use Rattle.std.proofs.Common.{rules, ◌≡◌, ◌++◌, true, false, length, ap, sym, ◌∙◌}
use Rattle.kern_syntax.specs.declared.expression.Argument.TheFolds.{the_lemmas}
use Rattle.kern_syntax.specs.Tree.{call, method}
use Rattle.kern_syntax.specs.TreeOf.{expression_of, arguments_of}
use Rattle.kern_calls.specs.Calls.{method_named}
use Rattle.code_forms.specs.ExpressionCode.{dropped, effect_code}
use Rattle.code_forms.specs.Operations.{method_has_value}
use Rattle.core_code_names.specs.SettingOf.{setting_of}
use Rattle.core_code_expressions.proofs.Falls.{other_call}
use Rattle.core_code_expressions.proofs.Put.{call_dropped, effect_longer, is_call, method_dropped, on_ok, value_dropped}
use Rattle.core_code_expressions.proofs.effects.+put_effect.Goals as goal

pub returns-in_ok-callee-in-Call-clause-longer : goal.returns-in_ok-callee-in-Call-clause-longer
returns-in_ok-callee-in-Call-clause-longer t c =
    let tree : expression_of c.args.e.now ≡ call c.in-Call.name (arguments_of c.in-Call.arguments.items) = search (rules, the_lemmas) in
    let same : call c.in-Call.name (arguments_of c.in-Call.arguments.items) ≡ call c.in-Call.name (arguments_of c.deref-in-Call.result.now) = ap (λ items. call c.in-Call.name (arguments_of items)) (sym c.deref-in-Call.ensures.value) in
    let code = λ (put : c.put_dropped.new.lines.items ≡ c.put_call.new.lines.items ++ dropped c.args.mark c.in_ok-callee-in-Call.callee.has_value). call_dropped (setting_of c.args.setting.now) c.args.free c.args.mark c.args.lines.now.items c.put_call.new.lines.items c.put_dropped.new.lines.items c.in-Call.name (arguments_of c.deref-in-Call.result.now) _ c.in_ok-callee-in-Call.ensures.code c.in_ok-callee-in-Call.ensures.has_value put ∙ ap (λ e. c.args.lines.now.items ++ effect_code (setting_of c.args.setting.now) c.args.free c.args.mark (length c.args.lines.now.items) e) (sym (tree ∙ same)) in
    on_ok c.put_dropped.result (λ put. effect_longer (setting_of c.args.setting.now) c.args.free c.args.mark (length c.args.lines.now.items) (expression_of c.args.e.now) c.args.lines.now.items _ (code put)) c.put_dropped.ensures

pub returns-in_ok-method-in-Method-clause-code : goal.returns-in_ok-method-in-Method-clause-code
returns-in_ok-method-in-Method-clause-code t c =
    let tree : expression_of c.args.e.now ≡ method c.in-Method.object c.in-Method.name (arguments_of c.in-Method.arguments.items) = search (rules, the_lemmas) in
    let same : method c.in-Method.object c.in-Method.name (arguments_of c.in-Method.arguments.items) ≡ method c.in-Method.object c.in-Method.name (arguments_of c.deref-in-Method.result.now) = ap (λ items. method c.in-Method.object c.in-Method.name (arguments_of items)) (sym c.deref-in-Method.ensures.value) in
    let has : c.method_has_value.result ≡ method_has_value (method_named c.in-Method.object c.in-Method.name) = c.method_has_value.ensures ∙ ap method_has_value c.in_ok-method-in-Method.ensures.method in
    let code = λ (put : c.put_dropped-in-Method.new.lines.items ≡ c.put_method.new.lines.items ++ dropped c.args.mark c.method_has_value.result). method_dropped (setting_of c.args.setting.now) c.args.free c.args.mark c.args.lines.now.items c.put_method.new.lines.items c.put_dropped-in-Method.new.lines.items c.in-Method.object c.in-Method.name (arguments_of c.deref-in-Method.result.now) _ c.in_ok-method-in-Method.ensures.code has put ∙ ap (λ e. c.args.lines.now.items ++ effect_code (setting_of c.args.setting.now) c.args.free c.args.mark (length c.args.lines.now.items) e) (sym (tree ∙ same)) in
    on_ok c.put_dropped-in-Method.result code c.put_dropped-in-Method.ensures

pub returns-in_ok-method-in-Method-clause-longer : goal.returns-in_ok-method-in-Method-clause-longer
returns-in_ok-method-in-Method-clause-longer t c =
    let tree : expression_of c.args.e.now ≡ method c.in-Method.object c.in-Method.name (arguments_of c.in-Method.arguments.items) = search (rules, the_lemmas) in
    let same : method c.in-Method.object c.in-Method.name (arguments_of c.in-Method.arguments.items) ≡ method c.in-Method.object c.in-Method.name (arguments_of c.deref-in-Method.result.now) = ap (λ items. method c.in-Method.object c.in-Method.name (arguments_of items)) (sym c.deref-in-Method.ensures.value) in
    let has : c.method_has_value.result ≡ method_has_value (method_named c.in-Method.object c.in-Method.name) = c.method_has_value.ensures ∙ ap method_has_value c.in_ok-method-in-Method.ensures.method in
    let code = λ (put : c.put_dropped-in-Method.new.lines.items ≡ c.put_method.new.lines.items ++ dropped c.args.mark c.method_has_value.result). method_dropped (setting_of c.args.setting.now) c.args.free c.args.mark c.args.lines.now.items c.put_method.new.lines.items c.put_dropped-in-Method.new.lines.items c.in-Method.object c.in-Method.name (arguments_of c.deref-in-Method.result.now) _ c.in_ok-method-in-Method.ensures.code has put ∙ ap (λ e. c.args.lines.now.items ++ effect_code (setting_of c.args.setting.now) c.args.free c.args.mark (length c.args.lines.now.items) e) (sym (tree ∙ same)) in
    on_ok c.put_dropped-in-Method.result (λ put. effect_longer (setting_of c.args.setting.now) c.args.free c.args.mark (length c.args.lines.now.items) (expression_of c.args.e.now) c.args.lines.now.items _ (code put)) c.put_dropped-in-Method.ensures

pub returns-in_ok-put_expression-in_default : goal.returns-in_ok-put_expression-in_default
returns-in_ok-put_expression-in_default t c =
    let other : is_call (expression_of c.args.e.now) ≡ false = other_call c.args.e.now c.in_default.not-Group c.in_default.not-Call c.in_default.not-Method in
    let code = λ (put : c.put_dropped-in_default.new.lines.items ≡ c.put_expression.new.lines.items ++ dropped c.args.mark true). value_dropped (setting_of c.args.setting.now) c.args.free c.args.mark c.args.lines.now.items c.put_expression.new.lines.items c.put_dropped-in_default.new.lines.items (expression_of c.args.e.now) other c.in_ok-put_expression-in_default.ensures.code put in
    record { code = on_ok c.put_dropped-in_default.result code c.put_dropped-in_default.ensures; longer = on_ok c.put_dropped-in_default.result (λ put. effect_longer (setting_of c.args.setting.now) c.args.free c.args.mark (length c.args.lines.now.items) (expression_of c.args.e.now) c.args.lines.now.items _ (code put)) c.put_dropped-in_default.ensures }
