use Rattle.std.proofs.Common.{sym, ◌∙◌}
use Rattle.rtio_core.specs.Told.{log_at}
use Rattle.trace_fates.proofs.Joined.{asked_numbered, passes_written}
use Rattle.trace_fates.proofs.tracing.traced_outputs.Goals as goal

pub name_lost-requires : goal.name_lost-requires
name_lost-requires c = asked_numbered c.counter.result c.history.result.now c.deref_mut.result.now (c.deref_mut.ensures.value ∙ c.in_ok-outputs.ensures)

pub returns : goal.returns
returns c =
    let core = c.args.core.now in
    passes_written core c.counter.result c.in_ok-outputs.outputs.len c.history.result.now c.in_ok-outputs.outputs.items c.deref_mut.result.now c.name_lost.new.outputs c.deref_mut-2.result.now c.tell_overridden.new.outputs _ _
    c.history.ensures.core.lawful c.counter.ensures c.history.ensures.value c.in_ok-outputs.ensures (sym c.in_ok-outputs.outputs.ok.0)
    c.deref_mut.ensures.value
    (c.name_lost.ensures (log_at core.config core.history core.counter) c.log.ensures.kinds)
    c.deref_mut-2.ensures.value c.in_ok-tell_overridden.ensures
