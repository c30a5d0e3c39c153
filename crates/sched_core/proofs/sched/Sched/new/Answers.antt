use Rattle.std.proofs.Common.{◌≡◌, List, [], length, ap, sym, ◌∙◌, subst, arith}
use Rattle.std.specs.Prelude.{IsTrue}
use Rattle.exp_model.specs.declared.session.Session.{Session}
use Rattle.sched_state.specs.declared.entry.SchedEntry.{SchedEntry}
use Rattle.dataset_db.specs.Datasets.{Dataset}
use Rattle.sched_state.specs.State.{SchedState}
use Rattle.sched_state.specs.Boards.{state_of}
use Rattle.exp_model.specs.Sessions.{is_session}
use Rattle.sched_state.specs.Lawful.{IsLawful, state_after, halted_by}
use Rattle.sched_core.specs.Inside.{AreKits}
use Rattle.sched_core.proofs.Kits.{opening-kits}
use Rattle.sched_core.proofs.sched.Sched.new.Goals as goal

pub invariant_of-result : goal.invariant_of-result
invariant_of-result g c =
    let session : Session = c.in_ok-session.session in
    let empty : c.reserve.new.self.items ≡ [] = c.in_ok-reserve.ensures.items ∙ c.new-entries.ensures.items in
    let S : Session → Type 0 = λ s. IsTrue (is_session s) in
    let L : List SchedEntry → Type 0 = λ h. IsLawful session h in
    let K : SchedState → Type 0 = λ s. AreKits g.P.Payload.source_of g.P.Payload.stands_for g.P.Payload.has_call session s c.in_ok-kits.kits.items in
    record {
      session = subst S (sym c.in_ok-session.ensures) c.requires;
      lawful = subst L (sym empty) tt;
      taken = c.in_ok-board.ensures.taken;
      pipelines = omega (arith, c.in_ok-board.ensures.pipelines, ap length c.items.ensures);
      state = ap (λ (ds : List Dataset). state_of session.arrivals ds c.in_ok-board.board) c.new.ensures ∙ c.in_ok-board.ensures.state ∙ sym (ap (state_after session) empty);
      kits = subst K (sym (ap (state_after session) empty)) (opening-kits g.P.Payload.source_of g.P.Payload.stands_for g.P.Payload.has_call session c.in_ok-kits.kits.items c.in_ok-kits.ensures);
      halted = sym (ap halted_by empty);
      room = λ e. omega (arith, c.in_ok-reserve.ensures.ok);
    }
