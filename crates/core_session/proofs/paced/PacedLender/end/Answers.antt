use Rattle.std.proofs.Common.{ap, ◌∙◌}
use Rattle.std.proofs.lemmas.Result.{on_err_weaker}
use Rattle.std.specs.Prelude.{ℤ}
use Rattle.std.specs.Int.{w64}
use Rattle.std.proofs.lemmas.Int.{to_z-of_z}
use Rattle.rtio_core.specs.Calls.{ended}
use Rattle.core_session.proofs.Lent.{ok-is}
use Rattle.core_session.proofs.Pacing.{ended-paced, open-ticked, unended-paced}
use Rattle.core_session.proofs.paced.PacedLender.end.Goals as goal

pub end-requires-clause-open : goal.end-requires-clause-open
end-requires-clause-open c = open-ticked (c.args.core.now, c.args.schedule.now) c.tick_on.new.core c.tick_on.new.schedule c.tick_on.ensures c.requires

pub returns-clause-ended : goal.returns-clause-ended
returns-clause-ended c =
    ok-is c.end.result _ _
    (λ is o asked played.
    ended-paced (c.args.core.now, c.args.schedule.now) c.tick_on.new.core c.tick_on.new.schedule c.tick_on.ensures o asked played c.end.new.self c.args.outcome c.args.cursor
    (is ∙ ap (λ (z : ℤ). ended c.tick_on.new.core 0 c.args.outcome z) (to_z-of_z w64 c.args.cursor c.ranges.cursor)))
    c.end.ensures.ok

pub returns-clause-err : goal.returns-clause-err
returns-clause-err c =
    on_err_weaker c.end.result
    (λ same o asked played. unended-paced (c.args.core.now, c.args.schedule.now) c.tick_on.new.core c.tick_on.new.schedule c.tick_on.ensures o asked played c.end.new.self same)
    c.end.ensures.err
