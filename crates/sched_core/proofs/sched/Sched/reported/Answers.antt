use Rattle.std.proofs.Common.{◌≡◌, true, List, ap, sym, ◌∙◌, subst}
use Rattle.std.specs.List.{list_any}
use Rattle.sched_state.specs.declared.entry.Flight.{Flight}
use Rattle.sched_state.specs.State.{SchedState}
use Rattle.sched_state.specs.Lawful.{state_after}
use Rattle.sched_core.specs.Calls.{HasJob, same_job}
use Rattle.sched_core.specs.Scheds.{SchedValue, sched_state}
use Rattle.sched_core.proofs.Reported.{flying-there}
use Rattle.sched_core.proofs.sched.Sched.reported.Goals as goal

pub returns-then-is_flying-clause-flying : goal.returns-then-is_flying-clause-flying
returns-then-is_flying-clause-flying g c =
    let a = c.self.inside in
    let F : List Flight → Type 0 = λ fs. list_any (λ (f : Flight). same_job c.args.job f.job) fs ≡ true in
    let found = flying-there c.args.job a.board.flying.items (subst F c.deref.ensures.value (sym c.is_flying.ensures ∙ c.if-is_flying.true)) in
    let same : (state_after a.session a.entries.items).flying ≡ a.board.flying.items = sym (ap (λ (s : SchedState). s.flying) c.self.invariant.state) in
    let V : SchedValue → Type 0 = λ v. HasJob (sched_state v) c.args.job in
    subst V c.self.view_is (found.0, (found.1, found.2, same ∙ found.3))
