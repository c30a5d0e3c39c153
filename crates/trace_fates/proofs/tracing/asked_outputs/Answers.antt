use Rattle.std.proofs.Common.{sym, ◌∙◌, append-nil}
use Rattle.std.specs.Prelude.{Some, None}
use Rattle.trace_fates.proofs.Asking.{asked_more}
use Rattle.trace_fates.proofs.tracing.asked_outputs.Goals as goal
use Rattle.trace_fates.proofs.tracing.asked_outputs.Goals.{in-Some+in_ok-push, in_default}

pub loop-entry-preserved : goal.loop-entry-preserved
loop-entry-preserved c = elim c.match-asked_in.branch [
  | in-Some+in_ok-push w ↦ rw w.outputs-is
      (w.in_ok-push.ensures.items
      ∙ asked_more c.args.counter c.len.result c.args.history.now c.loop-entry.entry-index c.entry-item.result c.loop-entry.outputs.items (Some w.in-Some.output) c.loop-entry-test.true c.entry-item.is (c.len.ensures ∙ c.loop-entry.outputs.ok.0) c.loop-entry.invariant w.in-Some.ensures)
  | in_default w ↦ rw w.outputs-is
      (sym (append-nil c.loop-entry.outputs.items)
      ∙ asked_more c.args.counter c.len.result c.args.history.now c.loop-entry.entry-index c.entry-item.result c.loop-entry.outputs.items None c.loop-entry-test.true c.entry-item.is (c.len.ensures ∙ c.loop-entry.outputs.ok.0) c.loop-entry.invariant w.in_default.ensures)
]
