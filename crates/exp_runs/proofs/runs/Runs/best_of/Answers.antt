use Rattle.std.proofs.Common.{◌≡◌, ◌<◌, ◌≤◌, ◌∙◌, List, length, ap, sym, subst, arith, true, false}
use Rattle.std.specs.Prelude.{nat_lt, slice_index_or}
use Rattle.exp_runs.specs.declared.queue.Queue.{Queue}
use Rattle.exp_runs.specs.Keys.{best}
use Rattle.exp_runs.specs.Queues.{wants}
use Rattle.exp_runs.specs.Table.{RunTable}
use Rattle.exp_runs.proofs.Kept.{queue-read}
use Rattle.exp_runs.proofs.Placed.{none-best}
use Rattle.exp_runs.proofs.runs.Runs.best_of.Goals as goal

pub best_in-requires : goal.best_in-requires
best_in-requires c =
    let queues = c.self.inside.queues.items in
    let queue = c.in-Some.queue.now in
    let there : true ≡ nat_lt c.args.pipeline (length c.deref.result.now) = c.in-Some.ensures.lookup.0 in
    let same : length c.deref.result.now ≡ length queues = ap length c.deref.ensures.value in
    let within : c.args.pipeline < length queues = grind arith in
    let P : List Queue → Type 0 = λ queues. queue ≡ slice_index_or queues c.args.pipeline queue in
    let read : queue ≡ slice_index_or queues c.args.pipeline queue = subst P c.deref.ensures.value c.in-Some.ensures.lookup.1 in
    rw c.deref-in-Some.ensures.value (queue-read c.self.inside.runs.items queues c.args.pipeline queue c.self.invariant.queues within read)

pub returns-in-None : goal.returns-in-None
returns-in-None c =
    let none : false ≡ nat_lt c.args.pipeline (length c.deref.result.now) = c.in-None.ensures.lookup.0 in
    let same : length c.deref.result.now ≡ length c.self.inside.queues.items = ap length c.deref.ensures.value in
    let count : length c.self.inside.queues.items ≡ c.self.inside.pipelines = c.self.invariant.count in
    let beyond : c.self.inside.pipelines ≤ c.args.pipeline = grind arith in
    sym (none-best c.self.inside.pipelines c.args.pipeline c.args.wanted c.self.inside.runs.items c.self.invariant.placed beyond)
    ∙ ap (best (wants c.args.pipeline c.args.wanted)) (ap (λ (t : RunTable). t.runs) c.self.view_is)
