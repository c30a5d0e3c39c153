use Rattle.std.proofs.Common.{List, ℕ, ap, string_bytes, subst, sym, ◌≡◌, ◌∙◌}
use Rattle.std.specs.Prelude.{None, IfSome, option_map}
use Rattle.std.proofs.lemmas.Result.{IfOk-weaker}
use Rattle.rtio_core.specs.Core.{CoreState, IsCore}
use Rattle.core_session.specs.Timed.{drained}
use Rattle.lab_report.specs.Report.{core_text}
use Rattle.lab_program.proofs.Told.{some-lines}
use Rattle.lab_program.proofs.draining.lines_of.Goals as goal

pub returns : goal.returns
returns c =
    let is = c.drain.ensures.value in
    let L : CoreState → Type 0 = λ core. IsCore core in
    let W : CoreState → Type 0 = λ core. core.waiting ≡ None in
    record {
      lawful = subst L is c.drain.ensures.lawful;
      idle = subst W is c.drain.ensures.idle;
      lines_are = subst (λ r. IfSome (option_map string_bytes r) (λ text. text ≡ core_text c.args.pipeline (drained c.args.core))) (sym c.ok.ensures.value)
          (some-lines string_bytes (core_text c.args.pipeline (drained c.args.core)) c.core_lines.result
          (IfOk-weaker c.core_lines.result _ _ (λ text told. told ∙ ap (core_text c.args.pipeline) is) c.core_lines.ensures));
    }
