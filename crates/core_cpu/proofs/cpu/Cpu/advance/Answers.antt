use Rattle.std.proofs.Common.{◌≡◌, ◌<◌, ◌≤◌, ◌++◌, true, None, Some, Ok, refl, sym, ◌∙◌, ap, subst, arith}
use Rattle.std.proofs.lemmas.Bool.{false≢true}
use Rattle.rtio_types.specs.declared.outcome.Outcome.{Outcome}
use Rattle.std.specs.Prelude.{is_some, option_to_list}
use Rattle.core_cpu.specs.Moments.{Moment, is_ready}
use Rattle.core_cpu.specs.declared.stop.Stop.TheVariants.{Ended}
use Rattle.core_cpu.specs.Nearness.{nearness}
use Rattle.core_cpu.specs.Standing.{Stands}
use Rattle.core_cpu.proofs.Stops.{over_isnt_playing, over_stays, over_isnt_gone_on, same_outcome, stands_same, stands_stepped, nothing_asked, asks_at, ended_at}
use Rattle.core_cpu.proofs.cpu.Cpu.advance.Goals as goal

pub returns-in-Some-clause-stops : goal.returns-in-Some-clause-stops
returns-in-Some-clause-stops c =
    λ start asked replies stands.
    asks_at
    start
    asked
    c.in-Some.request
    replies
    c.play_on.new.self
    c.in-Some.ensures.asks
    (c.in-Some.ensures.waits refl)
    (stands_same start asked replies c.args.self.now c.play_on.new.self (Some c.in-Some.request) c.in-Some.ensures.code c.in-Some.ensures.goes stands)

pub returns-in-Some-2-clause-stops : goal.returns-in-Some-2-clause-stops
returns-in-Some-2-clause-stops c =
    let ready : is_ready c.goes_on.new.self.phase ≡ true = sym c.goes_on.ensures.ready ∙ c.loop-alloc-test.true in
    let some : is_some c.in_ok-request.field-0 ≡ true = ap is_some c.in-Some-2.is in
    λ start asked replies stands.
    asks_at
    start
    asked
    c.in-Some-2.request
    replies
    c.step.new.self
    (c.in_ok-request.ensures.asks ∙ some)
    (c.in_ok-request.ensures.waits some)
    (subst
    (λ asks. Stands start (asked ++ option_to_list asks) replies c.step.new.self)
    c.in-Some-2.is
    (stands_stepped
    start
    asked
    replies
    c.goes_on.new.self
    c.step.new.self
    c.in_ok-request.field-0
    ready
    c.step.ensures.code
    c.in_ok-request.ensures.goes
    (c.goes_on.ensures.stands start asked replies (c.loop-alloc.invariant.stands start asked replies stands))))

pub loop-alloc-smaller : goal.loop-alloc-smaller
loop-alloc-smaller c =
    let less : nearness c.step.new.self < nearness c.goes_on.new.self = c.in_ok-request.ensures.nearer in
    let near : nearness c.goes_on.new.self ≤ nearness c.loop-alloc.self = c.goes_on.ensures.nearer in
    omega arith

pub loop-alloc-preserved : goal.loop-alloc-preserved
loop-alloc-preserved c =
    let ready : is_ready c.goes_on.new.self.phase ≡ true = sym c.goes_on.ensures.ready ∙ c.loop-alloc-test.true in
    let none : c.in_ok-request.field-0 ≡ None = c.in_default-2.is in
    record {
      code = c.step.ensures.code ∙ c.goes_on.ensures.code ∙ c.loop-alloc.invariant.code;
      stands = λ start asked replies stands.
          nothing_asked
          start
          asked
          replies
          c.step.new.self
          (subst
          (λ asks. Stands start (asked ++ option_to_list asks) replies c.step.new.self)
          none
          (stands_stepped
          start
          asked
          replies
          c.goes_on.new.self
          c.step.new.self
          c.in_ok-request.field-0
          ready
          c.step.ensures.code
          c.in_ok-request.ensures.goes
          (c.goes_on.ensures.stands start asked replies (c.loop-alloc.invariant.stands start asked replies stands))));
      asking = c.in_ok-request.ensures.asks ∙ ap is_some none;
      playing = c.in_ok-request.ensures.plays;
      over = λ outcome over.
          absurd (over_isnt_gone_on c.args.self.now c.loop-alloc.self c.goes_on.new.self outcome over (c.loop-alloc.invariant.over outcome over) c.goes_on.ensures.still ready);
    }

pub returns-clause-stops : goal.returns-clause-stops
returns-clause-stops c =
    λ start asked replies stands.
    ended_at
    start
    asked
    replies
    c.goes_on.new.self
    c.outcome.result
    c.outcome.ensures.over
    c.outcome.ensures.proper
    (c.goes_on.ensures.stands start asked replies (c.loop-alloc.invariant.stands start asked replies stands))

pub returns-in-Some-clause-over : goal.returns-in-Some-clause-over
returns-in-Some-clause-over c =
    λ outcome over.
    absurd (false≢true (sym (over_isnt_playing c.args.self.now.phase outcome over) ∙ sym c.plays.ensures ∙ c.if-plays.true))

pub returns-in-Some-2-clause-over : goal.returns-in-Some-2-clause-over
returns-in-Some-2-clause-over c =
    let ready : is_ready c.goes_on.new.self.phase ≡ true = sym c.goes_on.ensures.ready ∙ c.loop-alloc-test.true in
    λ outcome over.
    absurd (over_isnt_gone_on c.args.self.now c.loop-alloc.self c.goes_on.new.self outcome over (c.loop-alloc.invariant.over outcome over) c.goes_on.ensures.still ready)

pub returns-clause-over : goal.returns-clause-over
returns-clause-over c =
    λ outcome over.
    let stays : c.goes_on.new.self ≡ c.args.self.now =
    over_stays c.args.self.now c.loop-alloc.self c.goes_on.new.self outcome over (c.loop-alloc.invariant.over outcome over) c.goes_on.ensures.still in
    let same : c.outcome.result ≡ outcome =
    same_outcome (sym c.outcome.ensures.over ∙ ap (λ (m : Moment). m.phase) stays ∙ over) in
    (ap (λ (o : Outcome). Ok (Ended o)) same, stays)
