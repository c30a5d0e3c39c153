use Rattle.std.proofs.Common.{◌≡◌, ◌∷◌, [], ap, sym, ◌∙◌, arith}
use Rattle.std.proofs.lemmas.List.{nil_from_length}
use Rattle.core_isa.specs.Machine.{Machine, at_frame, drop_if, raise}
use Rattle.core_cpu.specs.Layout.{Held}
use Rattle.core_cpu.specs.Moments.{with_history}
use Rattle.core_cpu.proofs.Raising.{callers_stay, closed_stays, cursor_stays, raised_left, steps_stay, units_stay}
use Rattle.core_cpu.proofs.state.State.raise.Goals as goal

pub loop-self-preserved : goal.loop-self-preserved
loop-self-preserved c =
    let m : Machine = c.loop-self.self.machine in
    let now : Held = c.leave.new.self in
    let here = c.opened_here-here.result in
    let inv = c.loop-self.invariant in
    let dropped : c.drop_if.new.self ≡ record { machine = drop_if here m; width = c.loop-self.self.width } = c.drop_if.ensures in
    let left : now ≡ record { machine = at_frame now.machine.top now.machine.callers (drop_if here m); width = c.loop-self.self.width } =
    c.leave.ensures.left c.if-not-leave.false
    ∙ ap (λ (d : Held). record { machine = at_frame now.machine.top now.machine.callers d.machine; width = d.width }) dropped
    in
    let caller : m.callers ≡ now.machine.top ∷ now.machine.callers =
    sym (callers_stay here m) ∙ ap (λ (d : Held). d.machine.callers) (sym dropped) ∙ c.leave.ensures.caller c.if-not-leave.false
    in
    let bare : m.top.handlers ≡ [] = nil_from_length m.top.handlers (omega arith) in
    record {
      raises = λ more before.
          inv.raises more before
          ∙ raised_left c.args.exception m now.machine.top now.machine.callers bare caller more before
          ∙ ap
          (λ b. raise c.args.exception (with_history (at_frame now.machine.top now.machine.callers (drop_if b m)) more before))
          (sym c.opened_here-here.ensures)
          ∙ ap (λ (h : Held). raise c.args.exception (with_history h.machine more before)) (sym left);
      width = ap (λ (h : Held). h.width) left ∙ inv.width;
      steps = ap (λ (h : Held). h.machine.steps) left ∙ steps_stay here m ∙ inv.steps;
      units = ap (λ (h : Held). h.machine.units) left ∙ units_stay here m ∙ inv.units;
      closed = λ none. ap (λ (h : Held). h.machine.recording) left ∙ closed_stays here m (inv.closed none);
      cursor = λ none. ap (λ (h : Held). h.machine.cursor) left ∙ cursor_stays here m (inv.closed none) ∙ inv.cursor none;
    }
