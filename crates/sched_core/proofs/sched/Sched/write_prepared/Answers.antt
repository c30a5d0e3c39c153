use Rattle.std.proofs.Common.{◌≡◌, ◌≤◌, ◌∷◌, ◌++◌, List, [], length, ap, arith, refl, sym, ◌∙◌, subst}
use Rattle.std.specs.Prelude.{Option, Some}
use Rattle.exp_runs.specs.Keys.{run_of}
use Rattle.sched_state.specs.declared.entry.JobName.TheVariants as name
use Rattle.sched_state.specs.declared.entry.SchedAct.TheVariants as act
use Rattle.sched_state.specs.declared.entry.SchedEntry.{SchedEntry}
use Rattle.sched_state.specs.Lawful.{IsFlying, state_after}
use Rattle.sched_core.specs.Calls.{entry_of}
use Rattle.sched_core.specs.Scheds.{SchedValue, sched_state}
use Rattle.sched_state.specs.Boards.{state_of}
use Rattle.sched_state.specs.Reports.{prepared}
use Rattle.sched_state.proofs.Numbers.{numbered-after}
use Rattle.sched_laws.proofs.Roomy.{roomy-after}
use Rattle.sched_laws.proofs.Stays.{Stays, stays-here, stays-stable}
use Rattle.sched_laws.proofs.Taking.{found-within}
use Rattle.sched_laws.proofs.Through.{by-act}
use Rattle.sched_laws.proofs.Waiting.{prepared-waits}
use Rattle.sched_core.specs.Inside.{AreKits}
use Rattle.sched_core.specs.Scheds.{IsKitFor}
use Rattle.sched_core.proofs.Kits.{kits-got}
use Rattle.sched_core.proofs.Reported.{prepared-may, report-keeps}
use Rattle.sched_core.proofs.sched.Sched.write_prepared.Goals as goal

pub put_in-requires : goal.put_in-requires
put_in-requires g c =
    let a = c.self.inside in
    let run = c.args.run in
    let R : SchedValue → Type 0 = λ v. run_of (sched_state v).runs run.rid ≡ Some run in
    let here = subst R (sym c.self.view_is) c.requires.run in
    let state = state_after a.session a.entries.items in
    let few = roomy-after a.session a.entries.items c.self.invariant.session in
    let below = found-within state.runs run.rid run (numbered-after a.session a.entries.items) here in
    omega (arith, few, below, c.self.invariant.kits.count)

pub invariant_of-self-2 : goal.invariant_of-self-2
invariant_of-self-2 g c =
    let a = c.self.inside in
    let run = c.args.run in
    let R : SchedValue → Type 0 = λ v. run_of (sched_state v).runs run.rid ≡ Some run in
    let here = subst R (sym c.self.view_is) c.requires.run in
    let state = state_after a.session a.entries.items in
    let few = roomy-after a.session a.entries.items c.self.invariant.session in
    let below = found-within state.runs run.rid run (numbered-after a.session a.entries.items) here in
    let source = g.P.Payload.source_of in
    let stands = g.P.Payload.stands_for in
    let calls = g.P.Payload.has_call in
    let done = c.in-Ok.done in
    let F : SchedValue → Type 0 = λ v. IsFlying (sched_state v) c.args.who (name.Prepare run.rid) in
    let flying = subst F (sym c.self.view_is) c.requires.flying in
    let D : SchedValue → Type 0 = λ v. state_of v.session.arrivals done.datasets done.board ≡ prepared v.session run.rid (sched_state v) in
    let T : SchedValue → Type 0 = λ v. done.board.taken ≤ length v.session.arrivals in
    let N : SchedValue → Type 0 = λ v. done.board.runs.pipelines ≡ length v.session.pipelines in
    let X : SchedValue → Type 0 = λ v. IsKitFor source stands calls v.session run c.args.kit in
    let fits = subst X (sym c.self.view_is) c.requires.kit in
    let stay = by-act (Stays state.runs) (stays-stable state.runs) a.session c.args.who (act.Prepared run.rid) state (stays-here state.runs (numbered-after a.session a.entries.items)) in
    let K : List (Option g.row.P.Denot) → Type 0 = λ ks. AreKits source stands calls a.session (prepared a.session run.rid state) ks in
    report-keeps source stands calls a done.board done.datasets c.push_reserved.new.self c.put_in.new.kits c.args.who (act.Prepared run.rid) c.self.invariant flying (prepared-may run.rid) refl
    (subst T (sym c.self.view_is) c.in-Ok.ensures.taken)
    (subst N (sym c.self.view_is) c.in-Ok.ensures.pipelines)
    (subst D (sym c.self.view_is) c.in-Ok.ensures.state)
    (subst K (sym c.put_in.ensures) (kits-got source stands calls a.session state (prepared a.session run.rid state) a.kits.items run.rid c.args.kit run stay.1 (prepared-waits a.session run.rid run state here) c.self.invariant.kits (omega (arith, few, below)) here fits))
    (c.push_reserved.ensures.items ∙ ap (λ (xs : List SchedEntry). xs ++ entry_of c.args.who (act.Prepared run.rid) ∷ []) c.in-Ok-reserve.ensures.items)
    (omega (arith, c.push_reserved.ensures.len, c.push_reserved.ensures.capacity, c.in-Ok-reserve.ensures.ok, c.in-Ok-reserve.ensures.len))
