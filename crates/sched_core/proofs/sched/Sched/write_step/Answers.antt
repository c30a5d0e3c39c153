use Rattle.std.proofs.Common.{◌≡◌, ◌+◌, ◌≤◌, ◌∷◌, ◌++◌, List, [], length, ap, arith, refl, sym, ◌∙◌, subst}
use Rattle.std.specs.Prelude.{Option, Some}
use Rattle.exp_runs.specs.declared.run.Run.{Run}
use Rattle.exp_runs.specs.Keys.{run_of}
use Rattle.sched_state.specs.declared.entry.JobName.TheVariants as name
use Rattle.sched_state.specs.declared.entry.SchedAct.{SchedAct}
use Rattle.sched_state.specs.declared.entry.SchedAct.TheVariants as act
use Rattle.sched_state.specs.declared.entry.SchedEntry.{SchedEntry}
use Rattle.sched_state.specs.State.{SchedState, passes}
use Rattle.sched_state.specs.Boards.{state_of}
use Rattle.sched_state.specs.Lawful.{IsFlying, state_after}
use Rattle.sched_state.specs.Reports.{step_effect}
use Rattle.sched_state.proofs.Numbers.{numbered-after}
use Rattle.sched_laws.proofs.Clocks.{stepped-clock}
use Rattle.sched_laws.proofs.Histories.{sound-after}
use Rattle.sched_laws.proofs.Roomy.{roomy-after}
use Rattle.sched_laws.proofs.Stays.{Stays, stays-here, stays-stable}
use Rattle.sched_laws.proofs.Taking.{found-within}
use Rattle.sched_laws.proofs.Through.{by-act}
use Rattle.sched_laws.proofs.Waiting.{stepped-waits}
use Rattle.sched_core.specs.Calls.{RanFits, entry_of, is_through, stepped}
use Rattle.sched_core.specs.Inside.{AreKits}
use Rattle.sched_core.specs.Scheds.{IsKitFor, SchedValue, sched_state}
use Rattle.sched_core.proofs.Reported.{report-keeps}
use Rattle.sched_core.proofs.Steps.{kits-back, step-entry, step-may-come, stepped-may}
use Rattle.sched_core.proofs.sched.Sched.write_step.Goals as goal

pub give_back-requires : goal.give_back-requires
give_back-requires g c =
    let a = c.self.inside in
    let run = c.args.run in
    let R : SchedValue → Type 0 = λ v. run_of (sched_state v).runs run.rid ≡ Some run in
    let here = subst R (sym c.self.view_is) c.requires.run in
    let state = state_after a.session a.entries.items in
    let few = roomy-after a.session a.entries.items c.self.invariant.session in
    let below = found-within state.runs run.rid run (numbered-after a.session a.entries.items) here in
    omega (arith, few, below, c.self.invariant.kits.count)

pub invariant_of-self-2 : goal.invariant_of-self-2
invariant_of-self-2 g c =
    let a = c.self.inside in
    let run = c.args.run in
    let place = c.args.pos in
    let ran = c.args.ran in
    let who = c.args.who in
    let R : SchedValue → Type 0 = λ v. run_of (sched_state v).runs run.rid ≡ Some run in
    let here = subst R (sym c.self.view_is) c.requires.run in
    let state = state_after a.session a.entries.items in
    let few = roomy-after a.session a.entries.items c.self.invariant.session in
    let numbered = numbered-after a.session a.entries.items in
    let below = found-within state.runs run.rid run numbered here in
    let source = g.P.Payload.source_of in
    let stands = g.P.Payload.stands_for in
    let calls = g.P.Payload.has_call in
    let done = c.in-Ok.done in
    let F : SchedValue → Type 0 = λ v. IsFlying (sched_state v) who (name.Step run.rid place) in
    let flying = subst F (sym c.self.view_is) c.requires.flying in
    let D : SchedValue → Type 0 = λ v. state_of v.session.arrivals done.datasets done.board ≡ (step_effect v.session run.rid place ran (sched_state v)).state in
    let led = subst D (sym c.self.view_is) c.in-Ok.ensures.state in
    let W : SchedValue → Type 0 = λ v. done.word ≡ (step_effect v.session run.rid place ran (sched_state v)).word in
    let said = subst W (sym c.self.view_is) c.in-Ok.ensures.word in
    let T : SchedValue → Type 0 = λ v. done.board.taken ≤ length v.session.arrivals in
    let N : SchedValue → Type 0 = λ v. done.board.runs.pipelines ≡ length v.session.pipelines in
    let X : SchedValue → Type 0 = λ v. IsKitFor source stands calls v.session run c.args.kit in
    let fits = subst X (sym c.self.view_is) c.requires.kit in
    let Y : SchedValue → Type 0 = λ v. RanFits v run.rid place ran in
    let result = subst Y (sym c.self.view_is) c.requires.ran in
    let risen : done.board.clock ≡ state.clock + 1 = ap (λ (s : SchedState). s.clock) led ∙ stepped-clock a.session run.rid place ran state in
    let sound = sound-after a.session a.entries.items c.self.invariant.session c.self.invariant.lawful in
    let what : SchedAct = act.Stepped run.rid place run.pipeline done.board.clock ran done.word in
    let may = step-may-come a.session state who run.rid place done.board.clock run ran done.word c.self.invariant.session sound flying here result risen said in
    let stay = by-act (Stays state.runs) (stays-stable state.runs) a.session who what state (stays-here state.runs numbered) in
    let next : SchedState = (step_effect a.session run.rid place ran state).state in
    let ends : passes (λ (r : Run). is_through r.status) next.runs run.rid ≡ c.is_through-through.result = ap (λ (s : SchedState). passes (λ (r : Run). is_through r.status) s.runs run.rid) (sym led) ∙ sym c.is_through-through.ensures in
    let K : List (Option g.row.P.Denot) → Type 0 = λ ks. AreKits source stands calls a.session next ks in
    report-keeps source stands calls a done.board done.datasets c.push_reserved.new.self c.give_back.new.kits who what c.self.invariant may (stepped-may run.rid place run.pipeline done.board.clock ran done.word) refl
    (subst T (sym c.self.view_is) c.in-Ok.ensures.taken)
    (subst N (sym c.self.view_is) c.in-Ok.ensures.pipelines)
    led
    (subst K (sym c.give_back.ensures) (kits-back source stands calls a.session state next a.kits.items run.rid c.args.kit run c.is_through-through.result stay.1 (stepped-waits a.session run.rid place ran state) ends c.self.invariant.kits (omega (arith, few, below)) here fits))
    (c.push_reserved.ensures.items ∙ ap (λ (xs : List SchedEntry). xs ++ entry_of who what ∷ []) c.in-Ok-reserve.ensures.items)
    (omega (arith, c.push_reserved.ensures.len, c.push_reserved.ensures.capacity, c.in-Ok-reserve.ensures.ok, c.in-Ok-reserve.ensures.len))

pub returns-clause-ok : goal.returns-clause-ok
returns-clause-ok g c =
    let a = c.self.inside in
    let run = c.args.run in
    let place = c.args.pos in
    let ran = c.args.ran in
    let who = c.args.who in
    let R : SchedValue → Type 0 = λ v. run_of (sched_state v).runs run.rid ≡ Some run in
    let here = subst R (sym c.self.view_is) c.requires.run in
    let state = state_after a.session a.entries.items in
    let done = c.in-Ok.done in
    let D : SchedValue → Type 0 = λ v. state_of v.session.arrivals done.datasets done.board ≡ (step_effect v.session run.rid place ran (sched_state v)).state in
    let led = subst D (sym c.self.view_is) c.in-Ok.ensures.state in
    let W : SchedValue → Type 0 = λ v. done.word ≡ (step_effect v.session run.rid place ran (sched_state v)).word in
    let said = subst W (sym c.self.view_is) c.in-Ok.ensures.word in
    let risen : done.board.clock ≡ state.clock + 1 = ap (λ (s : SchedState). s.clock) led ∙ stepped-clock a.session run.rid place ran state in
    let what : SchedAct = act.Stepped run.rid place run.pipeline done.board.clock ran done.word in
    let written : c.push_reserved.new.self.items ≡ a.entries.items ++ entry_of who what ∷ [] =
    c.push_reserved.ensures.items ∙ ap (λ (xs : List SchedEntry). xs ++ entry_of who what ∷ []) c.in-Ok-reserve.ensures.items in
    let same = step-entry a.session state run.rid place done.board.clock run ran done.word here risen said in
    let V : SchedValue → Type 0 = λ v. record { session = a.session; history = c.push_reserved.new.self.items } ≡ stepped who run.rid place ran v in
    subst V c.self.view_is
    (ap (λ (h : List SchedEntry). record { session = a.session; history = h }) (written ∙ ap (λ (w : SchedAct). a.entries.items ++ entry_of who w ∷ []) same))
