use Rattle.std.proofs.Common.{List, ℕ, ap, flat_map, string_bytes, sym, ◌∙◌}
use Rattle.std.proofs.lemmas.List.Folds.{flat_map-map}
use Rattle.std.proofs.lemmas.Result.{IfOk-weaker}
use Rattle.lab_program.proofs.laboratory.run_laboratory.Goals as goal

pub returns : goal.returns
returns g c =
    let told = c.in_ok-sched-2.ensures in
    IfOk-weaker c.report_of_lines.result _ _
    (λ text written. record {
      sched = c.in_ok-sched-2.sched;
      cores = told.cores;
      is_run = told.is_run;
      report = written told.cores
          (ap (flat_map string_bytes) c.deref.ensures.value ∙ sym (flat_map-map (λ (line : List ℕ). line) string_bytes c.in_ok-sched-2.lines.items) ∙ told.lines_are);
    })
    c.report_of_lines.ensures
