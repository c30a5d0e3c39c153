use Rattle.std.proofs.Common.{◌≡◌, refl, ap, ◌∙◌, sym, subst, rules}
use Rattle.std.proofs.lemmas.Int.{to_z-of_z}
use Rattle.rtio_types.specs.declared.request.Request.TheVariants as Q
use Rattle.core_isa.specs.Machine.{next, unit_then, request_then}
use Rattle.core_isa.specs.Runs.{counted}
use Rattle.core_isa.specs.Steps.{event_at, submit_or_collect, output}
use Rattle.core_cpu.specs.Courses.{TurnsTo}
use Rattle.core_cpu.specs.Moments.{with_history}
use Rattle.core_cpu.proofs.Turning.{changed_then, nothing_there}
use mir.Syntax.{w64}
use mir.Val.{of_z, to_z}
use Rattle.core_cpu.proofs.step.outputs.put_out.Goals as goal

pub returns-then-not-is_recording-clause-goes : goal.returns-then-not-is_recording-clause-goes
returns-then-not-is_recording-clause-goes c =
    changed_then
    (λ m. output c.args.channel c.args.address c.args.word (counted m))
    (request_then (Q.Out (event_at c.args.state.now.machine.cursor c.args.channel c.args.address c.args.word)) (λ reply. next))
    c.args.state.now
    c.count.new.self
    (record c.args.state.now { machine = counted c.args.state.now.machine })
    c.asks.new.state
    c.asks.result
    c.count.ensures
    (λ more before.
    ap
    (λ r. unit_then (submit_or_collect r (event_at c.args.state.now.machine.cursor c.args.channel c.args.address c.args.word)) (counted (with_history c.args.state.now.machine more before)))
    (nothing_there c.args.state.now.machine.recording (sym c.is_recording.ensures ∙ c.if-not-is_recording.true)))
    refl
    refl
    (subst
    (λ event. TurnsTo (request_then (Q.Out event) (λ reply. next)) c.count.new.self c.asks.result c.asks.new.state)
    (let stamp : to_z w64 (of_z w64 c.cursor.result) ≡ c.cursor.result = search (rules, to_z-of_z) in
    let word : to_z w64 (of_z w64 c.args.word) ≡ c.args.word = search (rules, to_z-of_z) in
    cc)
    c.asks.ensures)
