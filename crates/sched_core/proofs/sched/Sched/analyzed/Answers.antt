use Rattle.std.proofs.Common.{◌≡◌, ℕ, ap, sym, ◌∙◌, subst}
use Rattle.std.specs.Prelude.{Some}
use Rattle.exp_runs.specs.Keys.{run_of}
use Rattle.sched_state.specs.declared.entry.JobName.TheVariants as name
use Rattle.sched_state.specs.declared.entry.SchedAct.TheVariants as act
use Rattle.sched_state.specs.Lawful.{IsFlying}
use Rattle.sched_core.specs.Calls.{with_entry}
use Rattle.sched_core.specs.Scheds.{sched_state}
use Rattle.sched_laws.proofs.Lookups.{found-number}
use Rattle.sched_core.proofs.sched.Sched.analyzed.Goals as goal

pub write_analyzed-requires-clause-run : goal.write_analyzed-requires-clause-run
write_analyzed-requires-clause-run g c =
    let state = sched_state c.args.self.now in
    let run = c.in-Ok.run' in
    let found = c.in-Ok.ensures.run in
    let R : ℕ → Type 0 = λ x. run_of state.runs x ≡ Some run in
    subst R (sym (found-number state.runs c.args.rid run found)) found

pub write_analyzed-requires-clause-flying : goal.write_analyzed-requires-clause-flying
write_analyzed-requires-clause-flying g c =
    let state = sched_state c.args.self.now in
    let run = c.in-Ok.run' in
    let has = c.in-Ok.ensures.flying in
    let F : ℕ → Type 0 = λ x. IsFlying state x (name.Analyze c.args.rid) in
    let G : ℕ → Type 0 = λ x. IsFlying state c.args.who (name.Analyze x) in
    subst G (sym (found-number state.runs c.args.rid run c.in-Ok.ensures.run)) (subst F (c.requires has.0 has.1) has.1)

pub returns-in-Ok-write_analyzed-clause-ok : goal.returns-in-Ok-write_analyzed-clause-ok
returns-in-Ok-write_analyzed-clause-ok g c =
    let state = sched_state c.args.self.now in
    c.in-Ok-write_analyzed.ensures.ok ∙ ap (λ (x : ℕ). with_entry c.args.who (act.Analyzed x) c.args.self.now) (found-number state.runs c.args.rid c.in-Ok.run' c.in-Ok.ensures.run)
