use Rattle.std.proofs.Common.{◌≡◌, ℕ, ap, sym, ◌∙◌, subst}
use Rattle.std.specs.Prelude.{Some, OnOk}
use Rattle.std.proofs.lemmas.Result.{IfErr-weaker, on_ok_weaker}
use Rattle.exp_runs.specs.Keys.{run_of}
use Rattle.sched_state.specs.declared.entry.JobName.TheVariants as name
use Rattle.sched_state.specs.Lawful.{IsFlying, state_after}
use Rattle.sched_laws.specs.Sound.{IsRunOf}
use Rattle.sched_laws.proofs.Histories.{sound-after}
use Rattle.sched_laws.proofs.Lookups.{found-has, found-number}
use Rattle.sched_core.specs.declared.answer.Refused.{Refused}
use Rattle.sched_core.specs.declared.answer.Why.{Why}
use Rattle.sched_core.specs.declared.answer.Why.TheVariants as why
use Rattle.sched_core.specs.Calls.{IsWhy, RanFits, stepped}
use Rattle.sched_core.specs.Scheds.{SchedValue, sched_state, source_of_run}
use Rattle.sched_core.proofs.sched.Sched.step_done.Goals as goal

-- what is known of the run whose step is reported
pub write_step-requires-clause-run : goal.write_step-requires-clause-run
write_step-requires-clause-run g c =
    let state = sched_state c.args.self.now in
    let run = c.in-Ok.run' in
    let found = c.in-Ok.ensures.run in
    let R : ℕ → Type 0 = λ x. run_of state.runs x ≡ Some run in
    subst R (sym (found-number state.runs c.args.rid run found)) found

pub write_step-requires-clause-flying : goal.write_step-requires-clause-flying
write_step-requires-clause-flying g c =
    let state = sched_state c.args.self.now in
    let run = c.in-Ok.run' in
    let has = c.in-Ok.ensures.flying in
    let F : ℕ → Type 0 = λ x. IsFlying state x (name.Step c.args.rid c.args.pos) in
    let G : ℕ → Type 0 = λ x. IsFlying state c.args.who (name.Step x c.args.pos) in
    subst G (sym (found-number state.runs c.args.rid run c.in-Ok.ensures.run)) (subst F (c.requires.took has.0 has.1) has.1)

pub write_step-requires-clause-kit : goal.write_step-requires-clause-kit
write_step-requires-clause-kit g c =
    let run = c.in-Ok.run' in
    let R : SchedValue → Type 0 = λ v. run_of (sched_state v).runs c.args.rid ≡ Some run in
    let here = subst R (sym c.self.view_is) c.in-Ok.ensures.run in
    let a = c.self.inside in
    let sound = sound-after a.session a.entries.items c.self.invariant.session c.self.invariant.lawful in
    let fit : IsRunOf a.session run = found-has (IsRunOf a.session) (state_after a.session a.entries.items).runs c.args.rid run sound.fit here in
    let told = c.source_of-source.ensures fit.experiment in
    let same : source_of_run a.session run ≡ Some (g.P.Payload.source_of c.args.kit) = told ∙ ap Some (sym c.if-source.false ∙ c.source.ensures) in
    let S : SchedValue → Type 0 = λ v. source_of_run v.session run ≡ Some (g.P.Payload.source_of c.args.kit) in
    c.requires.kit run c.in-Ok.ensures.run (subst S c.self.view_is same)

pub write_step-requires-clause-ran : goal.write_step-requires-clause-ran
write_step-requires-clause-ran g c =
    let state = sched_state c.args.self.now in
    let R : ℕ → Type 0 = λ x. RanFits c.args.self.now x c.args.pos c.args.ran in
    subst R (sym (found-number state.runs c.args.rid c.in-Ok.run' c.in-Ok.ensures.run)) c.requires.ran

pub returns-then-source-clause-why : goal.returns-then-source-clause-why
returns-then-source-clause-why g c =
    let run = c.in-Ok.run' in
    let R : SchedValue → Type 0 = λ v. run_of (sched_state v).runs c.args.rid ≡ Some run in
    let here = subst R (sym c.self.view_is) c.in-Ok.ensures.run in
    let a = c.self.inside in
    let sound = sound-after a.session a.entries.items c.self.invariant.session c.self.invariant.lawful in
    let fit : IsRunOf a.session run = found-has (IsRunOf a.session) (state_after a.session a.entries.items).runs c.args.rid run sound.fit here in
    let S : SchedValue → Type 0 = λ v. source_of_run v.session run ≡ Some c.source_of-source.result in
    let W : Why → Type 0 = λ w. IsWhy c.args.self.now.session (sched_state c.args.self.now) (name.Step c.args.rid c.args.pos) (Some (g.P.Payload.source_of c.args.kit)) w in
    let foreign : W (why.Foreign c.source_of-source.result) = (c.in-Ok.ensures.flying, run, c.in-Ok.ensures.run, subst S c.self.view_is (c.source_of-source.ensures fit.experiment), λ e. c.if-source.true (c.source.ensures ∙ sym e)) in
    let is : c.handed_back-then-source.result.why ≡ why.Foreign c.source_of-source.result = ap (λ (r : Refused g.row.P.Denot). r.why) c.handed_back-then-source.ensures in
    subst W (sym is) foreign

pub returns-clause-own : goal.returns-clause-own
returns-clause-own g c =
    let run = c.in-Ok.run' in
    let R : SchedValue → Type 0 = λ v. run_of (sched_state v).runs c.args.rid ≡ Some run in
    let here = subst R (sym c.self.view_is) c.in-Ok.ensures.run in
    let a = c.self.inside in
    let sound = sound-after a.session a.entries.items c.self.invariant.session c.self.invariant.lawful in
    let fit : IsRunOf a.session run = found-has (IsRunOf a.session) (state_after a.session a.entries.items).runs c.args.rid run sound.fit here in
    let told = c.source_of-source.ensures fit.experiment in
    let same : source_of_run a.session run ≡ Some (g.P.Payload.source_of c.args.kit) = told ∙ ap Some (sym c.if-source.false ∙ c.source.ensures) in
    let S : SchedValue → Type 0 = λ v. source_of_run v.session run ≡ Some (g.P.Payload.source_of c.args.kit) in
    on_ok_weaker c.write_step.result (λ done. (run, c.in-Ok.ensures.run, subst S c.self.view_is same)) c.write_step.ensures.ok

pub returns-clause-ok : goal.returns-clause-ok
returns-clause-ok g c =
    let state = sched_state c.args.self.now in
    let G : ℕ → Type 0 = λ x. OnOk c.write_step.result (c.write_step.new.self ≡ stepped c.args.who x c.args.pos c.args.ran c.args.self.now) in
    subst G (found-number state.runs c.args.rid c.in-Ok.run' c.in-Ok.ensures.run) c.write_step.ensures.ok

pub returns-clause-why : goal.returns-clause-why
returns-clause-why g c =
    let run = c.in-Ok.run' in
    let R : SchedValue → Type 0 = λ v. run_of (sched_state v).runs c.args.rid ≡ Some run in
    let here = subst R (sym c.self.view_is) c.in-Ok.ensures.run in
    let a = c.self.inside in
    let sound = sound-after a.session a.entries.items c.self.invariant.session c.self.invariant.lawful in
    let fit : IsRunOf a.session run = found-has (IsRunOf a.session) (state_after a.session a.entries.items).runs c.args.rid run sound.fit here in
    let told = c.source_of-source.ensures fit.experiment in
    let same : source_of_run a.session run ≡ Some (g.P.Payload.source_of c.args.kit) = told ∙ ap Some (sym c.if-source.false ∙ c.source.ensures) in
    let S : SchedValue → Type 0 = λ v. source_of_run v.session run ≡ Some (g.P.Payload.source_of c.args.kit) in
    let W : Why → Type 0 = λ w. IsWhy c.args.self.now.session (sched_state c.args.self.now) (name.Step c.args.rid c.args.pos) (Some (g.P.Payload.source_of c.args.kit)) w in
    let memory : W why.Memory = (c.in-Ok.ensures.flying, (run, c.in-Ok.ensures.run, subst S c.self.view_is same)) in
    IfErr-weaker c.write_step.result _ _ (λ r is. subst W (sym (ap (λ (x : Refused g.row.P.Denot). x.why) is)) memory) c.write_step.ensures.back
