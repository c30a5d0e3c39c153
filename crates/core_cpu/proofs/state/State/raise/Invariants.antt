use Rattle.std.proofs.Common.{◌≡◌, length, List, None}
use Rattle.rtio_types.specs.declared.request.Reply.{Reply}
use Rattle.rtio_types.specs.declared.request.Request.{Request}
use Rattle.core_isa.specs.Machine.{raise}
use Rattle.core_cpu.specs.Moments.{with_history}
use Rattle.core_cpu.proofs.state.State.raise.Given as goal

abbrev pub invariant-loop-self : goal.invariant-loop-self
invariant-loop-self l = record {
  raises : (more : List Reply) (before : List Request)
      → raise l.exception (with_history l.initial.self.machine more before) ≡ raise l.exception (with_history l.self.machine more before);
  width : l.self.width ≡ l.initial.self.width;
  steps : l.self.machine.steps ≡ l.initial.self.machine.steps;
  units : l.self.machine.units ≡ l.initial.self.machine.units;
  closed : l.initial.self.machine.recording ≡ None → l.self.machine.recording ≡ None;
  cursor : l.initial.self.machine.recording ≡ None → l.self.machine.cursor ≡ l.initial.self.machine.cursor;
}

abbrev pub decreases-loop-self : goal.decreases-loop-self
decreases-loop-self l = length l.self.machine.callers
