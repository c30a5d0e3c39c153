use Rattle.std.proofs.Common.{◌≡◌, ℕ, List, [], drop, length, ap, sym, ◌∙◌, subst, arith}
use Rattle.std.specs.List.{AllByRecursion}
use Rattle.exp_model.specs.declared.arrival.Arrival.{Arrival}
use Rattle.dataset_db.specs.Datasets.{Dataset}
use Rattle.sched_state.specs.declared.looking.Look.{Look}
use Rattle.sched_state.specs.State.{SchedState}
use Rattle.sched_state.specs.Arrivals.{at_clock}
use Rattle.sched_state.specs.Boards.{IsActFor, state_of, state_with}
use Rattle.sched_state.specs.Looks.{LooksAs}
use Rattle.sched_state.proofs.Openings.{session-acts}
use Rattle.sched_laws.specs.Sound.{IsSound, not_ahead}
use Rattle.sched_laws.proofs.Arriving.{by-clock, clock-moved}
use Rattle.sched_laws.proofs.Dates.{date-later}
use Rattle.sched_core.specs.Jumps.{JumpsTo}
use Rattle.sched_core.proofs.Jumping.{jumps-push}
use Rattle.sched_core.proofs.ahead.look_ahead.Goals as goal

pub loop-look-init : goal.loop-look-init
loop-look-init c =
    let session = c.args.session.now in
    let old = c.args.board.now in
    let new = c.in_ok-board.board in
    let same : (ds : List Dataset) → state_of session.arrivals ds new ≡ state_of session.arrivals ds old =
    λ ds. ap (λ (t : ℕ). state_with (drop t session.arrivals) ds new) c.in_ok-board.ensures.taken ∙ c.in_ok-board.ensures.state (drop old.taken session.arrivals) ds in
    let count : length session.pipelines ≡ length c.items.result.now = sym (ap length c.items.ensures) in
    let J : List Dataset → List ℕ → Type 0 = λ ds clocks. JumpsTo session (state_of session.arrivals ds old) clocks (state_of session.arrivals ds new) in
    let L : List Dataset → List Arrival → Type 0 = λ ds arrivals. LooksAs session (state_of arrivals ds new) c.look_at-look.result in
    let S : SchedState → Type 0 = λ s. IsSound session s in
    record {
      jumps = λ ds. subst (J ds) (sym c.new-clocks.ensures.items) (same ds);
      looks = λ ds. subst (L ds) c.items-arrivals.ensures (c.look_at-look.ensures session ds count);
      taken = omega (arith, c.in_ok-board.ensures.taken, c.requires.taken);
      pipelines = c.in_ok-board.ensures.pipelines ∙ c.requires.pipelines;
      sound = subst S (sym (same [])) c.requires.sound;
    }

pub advance-requires-clause-acts : goal.advance-requires-clause-acts
advance-requires-clause-acts c =
    let session = c.args.session.now in
    let P : ℕ → Type 0 = λ n. AllByRecursion (λ (arrival : Arrival). IsActFor n arrival.act) session.arrivals in
    let Q : List Arrival → Type 0 = λ arrivals. AllByRecursion (λ (arrival : Arrival). IsActFor c.loop-look.board.runs.pipelines arrival.act) arrivals in
    subst Q (sym c.items-arrivals.ensures) (subst P (sym c.loop-look.invariant.pipelines) (session-acts session c.requires.session))

pub loop-look-smaller : goal.loop-look-smaller
loop-look-smaller c =
    let session = c.args.session.now in
    let old = c.loop-look.board in
    let new = c.advance.new.self in
    let clock = c.in-Jump.clock in
    let L : Look → Type 0 = λ look. LooksAs session (state_of session.arrivals [] old) look in
    let looked = subst L c.in-Jump.is (c.loop-look.invariant.looks []) in
    let later = date-later session (state_of session.arrivals [] old) clock c.loop-look.invariant.sound looked.3 in
    let A : List Arrival → Type 0 = λ arrivals. state_of arrivals [] new ≡ at_clock clock (state_of arrivals [] old) in
    let moved = subst A c.items-arrivals.ensures (c.in_ok-advance.ensures.state []) in
    let is : new.clock ≡ clock = ap (λ (s : SchedState). s.clock) moved ∙ (clock-moved clock (state_of session.arrivals [] old)).1 in
    omega (arith, later.0, later.1, is)

pub loop-look-preserved : goal.loop-look-preserved
loop-look-preserved c =
    let session = c.args.session.now in
    let old = c.loop-look.board in
    let new = c.advance.new.self in
    let clock = c.in-Jump.clock in
    let L : List Dataset → Look → Type 0 = λ ds look. LooksAs session (state_of session.arrivals ds old) look in
    let A : List Dataset → List Arrival → Type 0 = λ ds arrivals. state_of arrivals ds new ≡ at_clock clock (state_of arrivals ds old) in
    let moved : (ds : List Dataset) → state_of session.arrivals ds new ≡ at_clock clock (state_of session.arrivals ds old) = λ ds. subst (A ds) c.items-arrivals.ensures (c.in_ok-advance.ensures.state ds) in
    let count : length session.pipelines ≡ length c.items.result.now = sym (ap length c.items.ensures) in
    let N : List Dataset → List Arrival → Type 0 = λ ds arrivals. LooksAs session (state_of arrivals ds new) c.look_at-look-in-Jump.result in
    let J : List Dataset → List ℕ → Type 0 = λ ds clocks. JumpsTo session (state_of session.arrivals ds c.args.board.now) clocks (state_of session.arrivals ds new) in
    let S : SchedState → Type 0 = λ s. IsSound session s in
    record {
      jumps = λ ds.
          let looked = subst (L ds) c.in-Jump.is (c.loop-look.invariant.looks ds) in
          subst (J ds) (sym c.in_ok-push.ensures.items)
          (jumps-push session (state_of session.arrivals ds c.args.board.now) (state_of session.arrivals ds old) (state_of session.arrivals ds new) c.loop-look.clocks.items clock (c.loop-look.invariant.jumps ds) looked.1 looked.2 looked.3 (moved ds));
      looks = λ ds. subst (N ds) c.items-arrivals.ensures (c.look_at-look-in-Jump.ensures session ds count);
      taken = omega (arith, c.in_ok-advance.ensures.taken, ap length c.items-arrivals.ensures);
      pipelines = c.in_ok-advance.ensures.pipelines ∙ c.loop-look.invariant.pipelines;
      sound = subst S (sym (moved [])) (by-clock session not_ahead clock (state_of session.arrivals [] old) c.requires.session c.loop-look.invariant.sound);
    }
