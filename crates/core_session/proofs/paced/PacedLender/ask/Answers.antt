use Rattle.std.proofs.Common.{List, subst}
use Rattle.std.specs.Prelude.{ℤ}
use Rattle.std.specs.Int.{w64}
use Rattle.std.proofs.lemmas.Int.{to_z-of_z}
use Rattle.core_session.specs.Lending.{Opening}
use Rattle.core_session.specs.Paced.{IsHeldUp, IsPlayed, Pace}
use Rattle.core_session.specs.Sessions.{Answered}
use Rattle.core_session.specs.Stepping.{IsAskedBySteps}
use Rattle.core_session.proofs.Lent.{on-err}
use Rattle.core_session.proofs.Pacing.{asked-paced, fits-paced, held-paced, open-paced}
use Rattle.core_session.proofs.paced.PacedLender.ask.Goals as goal

pub ask_by_steps-requires-clause-open : goal.ask_by_steps-requires-clause-open
ask_by_steps-requires-clause-open c = open-paced (c.args.core.now, c.args.schedule.now) c.requires.open

pub returns-clause-asked : goal.returns-clause-asked
returns-clause-asked c =
    asked-paced (c.args.core.now, c.args.schedule.now) (c.ask_by_steps.new.core, c.ask_by_steps.new.schedule) c.args.request c.args.cursor c.in_ok-decided.decided
    (subst (λ (z : ℤ). IsAskedBySteps c.args.core.now c.args.schedule.now c.args.request z c.in_ok-decided.decided c.ask_by_steps.new.core c.ask_by_steps.new.schedule) (to_z-of_z w64 c.args.cursor c.ranges.cursor) c.in_ok-decided.ensures.asked)

pub returns-clause-fits : goal.returns-clause-fits
returns-clause-fits c =
    fits-paced (c.args.core.now, c.args.schedule.now) (c.ask_by_steps.new.core, c.ask_by_steps.new.schedule) c.args.request c.args.cursor c.in_ok-decided.decided
    (subst (λ (z : ℤ). IsAskedBySteps c.args.core.now c.args.schedule.now c.args.request z c.in_ok-decided.decided c.ask_by_steps.new.core c.ask_by_steps.new.schedule) (to_z-of_z w64 c.args.cursor c.ranges.cursor) c.in_ok-decided.ensures.asked)
    c.history-after.ensures.core.fitting

pub returns-in_err-decided-clause-err : goal.returns-in_err-decided-clause-err
returns-in_err-decided-clause-err c =
    let held : (o : Opening Pace) (asked : List Answered) → IsPlayed o asked (c.args.core.now, c.args.schedule.now) → IsHeldUp o asked c.args.request (c.ask_by_steps.new.core, c.ask_by_steps.new.schedule) =
    held-paced (c.args.core.now, c.args.schedule.now) (c.ask_by_steps.new.core, c.ask_by_steps.new.schedule) c.args.request c.in_err-decided.ensures.err
    in
    on-err _ _ held
