use Rattle.std.proofs.Common.{ℕ, ◌++◌, ap, ◌∙◌, length, string_bytes}
use Rattle.std.specs.Prelude.{codes}
use Rattle.rtio_core.specs.Reply.{outputs_at}
use Rattle.rtio_core.specs.Told.{log_at}
use Rattle.sim_report.specs.Lines.{count_line}
use Rattle.sim_report.specs.Report.{closing_text, log_counts}
use Rattle.sim_report.proofs.Joined.{three}
use Rattle.sim_report.proofs.texts.summary.Goals as goal

pub returns : goal.returns
returns c =
    ap (λ v. v.items) c.into_bytes.ensures.value
    ∙ three
    (string_bytes c.in_ok-text.text) (string_bytes c.write_count.new.text) (string_bytes c.write_log_counts.new.text) (string_bytes c.write_closing.new.text)
    (count_line (codes "outs") (length (outputs_at c.args.core.now.config c.args.core.now.history c.args.core.now.counter)))
    (log_counts (log_at c.args.core.now.config c.args.core.now.history c.args.core.now.counter))
    (closing_text c.args.core.now c.args.budget c.args.length c.args.steps)
    c.in_ok-text.ensures.bytes
    (c.in_ok-write_count.ensures ∙ ap (λ (n : ℕ). string_bytes c.in_ok-text.text ++ count_line (codes "outs") n) (ap length c.trace.ensures))
    (c.in_ok-write_log_counts.ensures (log_at c.args.core.now.config c.args.core.now.history c.args.core.now.counter) c.log.ensures.kinds)
    c.in_ok-write_closing.ensures
