use Rattle.std.proofs.Common.{◌≡◌, ◌∷◌, ◌++◌, ℕ, List, [], ap, arith, drop, refl, sym, ◌∙◌, subst}
use Rattle.std.specs.Prelude.{Some}
use Rattle.exp_runs.specs.Keys.{run_of}
use Rattle.sched_state.specs.declared.entry.JobName.TheVariants as name
use Rattle.sched_state.specs.declared.entry.SchedAct.TheVariants as act
use Rattle.sched_state.specs.declared.entry.SchedEntry.{SchedEntry}
use Rattle.sched_state.specs.State.{SchedState}
use Rattle.sched_state.specs.Reports.{refused}
use Rattle.sched_state.specs.Lawful.{IsFlying, state_after}
use Rattle.sched_state.specs.Boards.{state_with}
use Rattle.sched_core.specs.Calls.{entry_of}
use Rattle.sched_core.specs.Scheds.{SchedValue, sched_state}
use Rattle.sched_state.proofs.Numbers.{numbered-after}
use Rattle.sched_laws.proofs.Stays.{Stays, stays-here, stays-stable}
use Rattle.sched_laws.proofs.Through.{by-act}
use Rattle.sched_core.proofs.Kits.{kits-kept}
use Rattle.sched_core.proofs.Taken.{entries-kept}
use Rattle.sched_core.proofs.Reported.{refused-fewer, refused-may, report-keeps}
use Rattle.sched_core.proofs.sched.Sched.write_refused.Goals as goal

pub refuse-requires : goal.refuse-requires
refuse-requires g c =
    let a = c.self.inside in
    let run = c.args.run in
    let R : SchedValue → Type 0 = λ v. run_of (sched_state v).runs run.rid ≡ Some run in
    let here = subst R (sym c.self.view_is) c.requires.run in
    let old = ap (λ (s : SchedState). run_of s.runs run.rid) c.self.invariant.state ∙ here in
    ap (λ (s : SchedState). run_of s.runs run.rid) (c.in_ok-board.ensures.state [] []) ∙ old

pub invariant_of-self-in_err-refuse : goal.invariant_of-self-in_err-refuse
invariant_of-self-in_err-refuse g c =
    entries-kept g.P.Payload.source_of g.P.Payload.stands_for g.P.Payload.has_call c.self.inside c.reserve.new.self c.self.invariant c.in_ok-reserve.ensures.items
    (λ e. let was = c.self.invariant.room e in omega (arith, was, c.reserve.ensures.len, c.reserve.ensures.capacity))

pub invariant_of-self-2 : goal.invariant_of-self-2
invariant_of-self-2 g c =
    let a = c.self.inside in
    let run = c.args.run in
    let R : SchedValue → Type 0 = λ v. run_of (sched_state v).runs run.rid ≡ Some run in
    let here = subst R (sym c.self.view_is) c.requires.run in
    let F : SchedValue → Type 0 = λ v. IsFlying (sched_state v) c.args.who (name.Prepare run.rid) in
    let flying = subst F (sym c.self.view_is) c.requires.flying in
    let state = state_after a.session a.entries.items in
    let left = drop a.board.taken a.session.arrivals in
    let board = c.refuse.new.self in
    let begun : state_with left a.datasets c.in_ok-board.board ≡ state = c.in_ok-board.ensures.state left a.datasets ∙ c.self.invariant.state in
    let stay = by-act (Stays state.runs) (stays-stable state.runs) a.session c.args.who (act.SourceRefused run.rid) state (stays-here state.runs (numbered-after a.session a.entries.items)) in
    report-keeps g.P.Payload.source_of g.P.Payload.stands_for g.P.Payload.has_call a board a.datasets c.push_reserved.new.self a.kits c.args.who (act.SourceRefused run.rid) c.self.invariant flying (refused-may run.rid) refl
    (omega (arith, c.in_ok-refuse.ensures.taken, c.in_ok-board.ensures.taken, c.self.invariant.taken))
    (c.in_ok-refuse.ensures.pipelines ∙ c.in_ok-board.ensures.pipelines ∙ c.self.invariant.pipelines)
    (ap (λ (t : ℕ). state_with (drop t a.session.arrivals) a.datasets board) (c.in_ok-refuse.ensures.taken ∙ c.in_ok-board.ensures.taken) ∙ c.in_ok-refuse.ensures.state left a.datasets
    ∙ ap (refused run.rid) begun)
    (kits-kept g.P.Payload.source_of g.P.Payload.stands_for g.P.Payload.has_call a.session state (refused run.rid state) a.kits.items stay.1 (refused-fewer run.rid state) c.self.invariant.kits)
    (c.push_reserved.ensures.items ∙ ap (λ (xs : List SchedEntry). xs ++ entry_of c.args.who (act.SourceRefused run.rid) ∷ []) c.in_ok-reserve.ensures.items)
    (omega (arith, c.push_reserved.ensures.len, c.push_reserved.ensures.capacity, c.in_ok-reserve.ensures.ok, c.in_ok-reserve.ensures.len))
