use Rattle.std.proofs.Common.{subst, IsTrue}
use Rattle.core_cpu.specs.declared.stop.Stop.{Stop}
use Rattle.core_cpu.specs.Standing.{StopsAt, phase_fits}
use Rattle.kernel_places.proofs.Standing.{asks_on, asks_there}
use Rattle.kernel_places.proofs.places.next_place.Goals as goal

pub unreachable-requires : goal.unreachable-requires
unreachable-requires c =
    let given = c.requires.asks in
    asks_on c.args.cpu.now.code given.0 given.1 given.2 given.3 c.advance.new.self c.in-Ended.field-0 c.in_ok-advance.ensures.code
    (subst (λ (s : Stop). StopsAt given.0 given.1 given.3 c.advance.new.self s) c.in-Ended.is (c.in_ok-advance.ensures.stops given.0 given.1 given.3 given.4))
    given.5

pub returns-clause-place : goal.returns-clause-place
returns-clause-place c = λ start asked request replies stands asks.
    asks_there c.args.cpu.now.code start asked request c.in-Ask.field-0 replies c.args.reply.now c.in_ok-copy-in-Ask.field-0 c.advance.new.self c.reply.new.self c.here-place.result c.in_ok-advance.ensures.code
    (subst (λ (s : Stop). StopsAt start asked replies c.advance.new.self s) c.in-Ask.is (c.in_ok-advance.ensures.stops start asked replies stands))
    (subst (λ (s : Stop). IsTrue (phase_fits s c.advance.new.self.phase)) c.in-Ask.is c.in_ok-advance.ensures.phase)
    asks
    c.here-place.ensures.at
    c.here-place.ensures.root
    c.in_ok-copy-in-Ask.ensures
    c.reply.ensures.steps
    c.reply.ensures.takes
