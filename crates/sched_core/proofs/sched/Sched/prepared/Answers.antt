use Rattle.std.proofs.Common.{◌≡◌, ℕ, ap, sym, ◌∙◌, subst}
use Rattle.std.specs.Prelude.{Some}
use Rattle.exp_runs.specs.Keys.{run_of}
use Rattle.sched_state.specs.declared.entry.JobName.TheVariants as name
use Rattle.sched_state.specs.declared.entry.SchedAct.TheVariants as act
use Rattle.sched_state.specs.Lawful.{IsFlying, state_after}
use Rattle.sched_core.specs.declared.answer.Refused.{Refused}
use Rattle.sched_core.specs.declared.answer.Why.{Why}
use Rattle.sched_core.specs.declared.answer.Why.TheVariants as why
use Rattle.sched_core.specs.Calls.{IsWhy, with_entry}
use Rattle.sched_core.specs.Scheds.{SchedValue, sched_state}
use Rattle.sched_laws.proofs.Lookups.{found-has, found-number}
use Rattle.sched_laws.specs.Sound.{IsRunOf}
use Rattle.sched_laws.proofs.Histories.{sound-after}
use Rattle.sched_core.specs.Scheds.{source_of_run}
use Rattle.sched_core.proofs.sched.Sched.prepared.Goals as goal

-- what is known of the run that is reported
pub write_prepared-requires-clause-run : goal.write_prepared-requires-clause-run
write_prepared-requires-clause-run g c =
    let state = sched_state c.args.self.now in
    let run = c.in-Ok.run' in
    let found = c.in-Ok.ensures.run in
    let R : ℕ → Type 0 = λ x. run_of state.runs x ≡ Some run in
    subst R (sym (found-number state.runs c.args.rid run found)) found

pub write_prepared-requires-clause-flying : goal.write_prepared-requires-clause-flying
write_prepared-requires-clause-flying g c =
    let state = sched_state c.args.self.now in
    let run = c.in-Ok.run' in
    let has = c.in-Ok.ensures.flying in
    let F : ℕ → Type 0 = λ x. IsFlying state x (name.Prepare c.args.rid) in
    let G : ℕ → Type 0 = λ x. IsFlying state c.args.who (name.Prepare x) in
    subst G (sym (found-number state.runs c.args.rid run c.in-Ok.ensures.run)) (subst F (c.requires.took has.0 has.1) has.1)

pub write_prepared-requires-clause-kit : goal.write_prepared-requires-clause-kit
write_prepared-requires-clause-kit g c =
    let run = c.in-Ok.run' in
    let R : SchedValue → Type 0 = λ v. run_of (sched_state v).runs c.args.rid ≡ Some run in
    let here = subst R (sym c.self.view_is) c.in-Ok.ensures.run in
    let a = c.self.inside in
    let sound = sound-after a.session a.entries.items c.self.invariant.session c.self.invariant.lawful in
    let fit : IsRunOf a.session run = found-has (IsRunOf a.session) (state_after a.session a.entries.items).runs c.args.rid run sound.fit here in
    let told = c.source_of-source.ensures fit.experiment in
    let same : source_of_run a.session run ≡ Some (g.P.Payload.source_of c.args.kit) = told ∙ ap Some (sym c.if-source.false ∙ c.source.ensures) in
    let S : SchedValue → Type 0 = λ v. source_of_run v.session run ≡ Some (g.P.Payload.source_of c.args.kit) in
    c.requires.kit run c.in-Ok.ensures.run (subst S c.self.view_is same)

pub returns-in-Ok-write_prepared-clause-own : goal.returns-in-Ok-write_prepared-clause-own
returns-in-Ok-write_prepared-clause-own g c =
    let run = c.in-Ok.run' in
    let R : SchedValue → Type 0 = λ v. run_of (sched_state v).runs c.args.rid ≡ Some run in
    let here = subst R (sym c.self.view_is) c.in-Ok.ensures.run in
    let a = c.self.inside in
    let sound = sound-after a.session a.entries.items c.self.invariant.session c.self.invariant.lawful in
    let fit : IsRunOf a.session run = found-has (IsRunOf a.session) (state_after a.session a.entries.items).runs c.args.rid run sound.fit here in
    let told = c.source_of-source.ensures fit.experiment in
    let same : source_of_run a.session run ≡ Some (g.P.Payload.source_of c.args.kit) = told ∙ ap Some (sym c.if-source.false ∙ c.source.ensures) in
    let S : SchedValue → Type 0 = λ v. source_of_run v.session run ≡ Some (g.P.Payload.source_of c.args.kit) in
    (run, c.in-Ok.ensures.run, subst S c.self.view_is same)

pub returns-in-Ok-write_prepared-clause-ok : goal.returns-in-Ok-write_prepared-clause-ok
returns-in-Ok-write_prepared-clause-ok g c =
    let state = sched_state c.args.self.now in
    c.in-Ok-write_prepared.ensures.ok ∙ ap (λ (x : ℕ). with_entry c.args.who (act.Prepared x) c.args.self.now) (found-number state.runs c.args.rid c.in-Ok.run' c.in-Ok.ensures.run)

pub returns-then-source-clause-why : goal.returns-then-source-clause-why
returns-then-source-clause-why g c =
    let run = c.in-Ok.run' in
    let R : SchedValue → Type 0 = λ v. run_of (sched_state v).runs c.args.rid ≡ Some run in
    let here = subst R (sym c.self.view_is) c.in-Ok.ensures.run in
    let a = c.self.inside in
    let sound = sound-after a.session a.entries.items c.self.invariant.session c.self.invariant.lawful in
    let fit : IsRunOf a.session run = found-has (IsRunOf a.session) (state_after a.session a.entries.items).runs c.args.rid run sound.fit here in
    let S : SchedValue → Type 0 = λ v. source_of_run v.session run ≡ Some c.source_of-source.result in
    let W : Why → Type 0 = λ w. IsWhy c.args.self.now.session (sched_state c.args.self.now) (name.Prepare c.args.rid) (Some (g.P.Payload.source_of c.args.kit)) w in
    let foreign : W (why.Foreign c.source_of-source.result) = (c.in-Ok.ensures.flying, run, c.in-Ok.ensures.run, subst S c.self.view_is (c.source_of-source.ensures fit.experiment), λ e. c.if-source.true (c.source.ensures ∙ sym e)) in
    let is : c.refused-then-source.result.why ≡ why.Foreign c.source_of-source.result = ap (λ (r : Refused g.row.P.Denot). r.why) c.refused-then-source.ensures in
    subst W (sym is) foreign

pub returns-in-Err-write_prepared-clause-why : goal.returns-in-Err-write_prepared-clause-why
returns-in-Err-write_prepared-clause-why g c =
    let run = c.in-Ok.run' in
    let R : SchedValue → Type 0 = λ v. run_of (sched_state v).runs c.args.rid ≡ Some run in
    let here = subst R (sym c.self.view_is) c.in-Ok.ensures.run in
    let a = c.self.inside in
    let sound = sound-after a.session a.entries.items c.self.invariant.session c.self.invariant.lawful in
    let fit : IsRunOf a.session run = found-has (IsRunOf a.session) (state_after a.session a.entries.items).runs c.args.rid run sound.fit here in
    let told = c.source_of-source.ensures fit.experiment in
    let same : source_of_run a.session run ≡ Some (g.P.Payload.source_of c.args.kit) = told ∙ ap Some (sym c.if-source.false ∙ c.source.ensures) in
    let S : SchedValue → Type 0 = λ v. source_of_run v.session run ≡ Some (g.P.Payload.source_of c.args.kit) in
    let W : Why → Type 0 = λ w. IsWhy c.args.self.now.session (sched_state c.args.self.now) (name.Prepare c.args.rid) (Some (g.P.Payload.source_of c.args.kit)) w in
    let memory : W why.Memory = (c.in-Ok.ensures.flying, (run, c.in-Ok.ensures.run, subst S c.self.view_is same)) in
    let is : c.refused-in-Err-write_prepared.result.why ≡ why.Memory = ap (λ (r : Refused g.row.P.Denot). r.why) c.refused-in-Err-write_prepared.ensures in
    subst W (sym is) memory
