use Rattle.std.proofs.Common.{◌≡◌, ◌++◌, ap, ◌∙◌}
use Rattle.std.proofs.lemmas.Result.{on_ok_weaker}
use Rattle.kern_syntax.specs.TreeOf.{function_of}
use Rattle.kern_names.specs.ScopeOf.{program_of}
use Rattle.code_forms.specs.Programs as P
use Rattle.core_code_names.specs.SettingOf.{setting_of}
use Rattle.kernel_lines.specs.KernelLines.{body_lines, function_lines}
use Rattle.kernel_lines.proofs.Ready.{same_setting}
use Rattle.kernel_lines.proofs.program.put_function.Goals as goal

pub returns : goal.returns
returns c =
    let program = program_of c.args.program.now in
    let texts = c.args.texts.now in
    let f = function_of c.args.function.now in
    let l0 = c.args.lines.now.items in
    let l1 = c.put_body.new.lines.items in
    let setting = setting_of c.new-setting.result in
    let same : setting ≡ P.setting_of program texts f = same_setting program texts f c.in_ok-names.names c.is_some-value.result setting c.new-setting.ensures (c.in_ok-names.ensures ∙ c.in_ok-names_of.ensures.names) c.is_some-value.ensures in
    let put : l1 ≡ l0 ++ body_lines setting f.line f.body → l1 ≡ l0 ++ function_lines program texts f = λ e. e ∙ ap (λ s. l0 ++ body_lines s f.line f.body) same in
    on_ok_weaker c.put_body.result put c.put_body.ensures
