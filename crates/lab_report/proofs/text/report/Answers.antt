use Rattle.std.proofs.Common.{ap, string_bytes, ◌∙◌}
use Rattle.std.specs.Prelude.{flat_map}
use Rattle.std.proofs.lemmas.Result.{IfOk-weaker}
use Rattle.lab_report.proofs.text.report.Goals as goal

pub returns : goal.returns
returns g c =
    IfOk-weaker c.report_of_lines.result _ _ (λ text written. written c.args.cores.now (ap (flat_map string_bytes) c.deref.ensures.value ∙ c.in_ok-lines.ensures))
    c.report_of_lines.ensures
