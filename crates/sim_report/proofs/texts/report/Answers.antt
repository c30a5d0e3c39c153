use Rattle.std.proofs.Common.{List, ◌++◌, ap, ◌∙◌, string_bytes}
use Rattle.std.specs.Prelude.{codes, flat_map}
use Rattle.rtio_types.specs.declared.event.Event.{Event}
use Rattle.rtio_core.specs.declared.data.Entry.{Entry}
use Rattle.rtio_core.specs.Reply.{outputs_at}
use Rattle.rtio_core.specs.Told.{log_at}
use Rattle.sim_report.specs.Datasets.{datasets_of}
use Rattle.sim_report.specs.Lines.{data_line, event_line}
use Rattle.sim_report.specs.Pending.{pending_events}
use Rattle.sim_report.specs.Report.{closing_text, log_text}
use Rattle.sim_report.proofs.Joined.{five}
use Rattle.sim_report.proofs.texts.report.Goals as goal

pub returns : goal.returns
returns c =
    ap (λ v. v.items) c.into_bytes.ensures.value
    ∙ five
    (string_bytes c.in_ok-text.text) (string_bytes c.write_events.new.text) (string_bytes c.write_events-2.new.text) (string_bytes c.write_log.new.text) (string_bytes c.write_datasets.new.text) (string_bytes c.write_closing.new.text)
    (flat_map (event_line (codes "out")) (outputs_at c.args.core.now.config c.args.core.now.history c.args.core.now.counter))
    (flat_map (event_line (codes "pend")) (pending_events c.args.core.now))
    (log_text (log_at c.args.core.now.config c.args.core.now.history c.args.core.now.counter))
    (flat_map data_line (datasets_of c.args.core.now.history))
    (closing_text c.args.core.now c.args.budget c.args.length c.args.steps)
    c.in_ok-text.ensures.bytes
    (c.in_ok-write_events.ensures ∙ ap (λ (es : List Event). string_bytes c.in_ok-text.text ++ flat_map (event_line (codes "out")) es) c.trace-2.ensures)
    (c.in_ok-write_events-2.ensures ∙ ap (λ (es : List Event). string_bytes c.write_events.new.text ++ flat_map (event_line (codes "pend")) es) (c.deref.ensures.value ∙ c.in_ok-pending.ensures))
    (c.in_ok-write_log.ensures (log_at c.args.core.now.config c.args.core.now.history c.args.core.now.counter) c.log-2.ensures.kinds)
    (c.in_ok-write_datasets.ensures ∙ ap (λ (h : List Entry). string_bytes c.write_log.new.text ++ flat_map data_line (datasets_of h)) c.history.ensures.value)
    c.in_ok-write_closing.ensures
