use Rattle.std.proofs.Common.{◌≡◌, length, take, sym, subst, ◌++◌, List, arith}
use Rattle.std.specs.Vec.{with_items}
use Rattle.std.proofs.lemmas.List.{with_items_is}
use Rattle.rtio_input.specs.Channel.{ChannelState, InputsState}
use Rattle.rtio_input.specs.Calls.{AreInputs, channel_after_cycle}
use Rattle.rtio_input.specs.Past.{InputsStandFor}
use Rattle.rtio_input.proofs.Made.{cycled-inputs, cycled-seen, own-take, whole}
use Rattle.rtio_input.proofs.Standing.{stands-cycle}
use Rattle.rtio_input.proofs.inputs.Inputs.cycle.Goals as goal

pub pass_cycle-requires-clause-own : goal.pass_cycle-requires-clause-own
pass_cycle-requires-clause-own c = own-take c.count_at-count.result c.left-2.result.now c.self.inside.script c.left-2.ensures c.self.invariant.own

pub invariant_of-self : goal.invariant_of-self
invariant_of-self c =
    let same : length c.pass_cycle.new.channels ≡ c.self.inside.channels.len = omega arith in
    subst (λ (cs : List ChannelState). AreInputs c.skip.new.self cs) (sym (whole c.self.inside.channels.len c.pass_cycle.new.channels _ same))
    (cycled-inputs c.count_at-count.result c.self.inside.script c.skip.new.self (channel_after_cycle c.args.kept.now (take c.count_at-count.result c.left-2.result.now)) c.deref_mut.result.now c.pass_cycle.new.channels c.self.invariant.own c.self.invariant.by_cycle c.skip.ensures c.pass_cycle.ensures)

pub returns-clause-after : goal.returns-clause-after
returns-clause-after c =
    let same : length c.pass_cycle.new.channels ≡ c.self.inside.channels.len = omega arith in
    cycled-seen c.count_at-count.result c.args.cycle c.self.inside.script c.left.result.now c.left-2.result.now c.skip.new.self c.self.inside.channels.items c.deref_mut.result.now c.pass_cycle.new.channels (with_items c.self.inside.channels c.pass_cycle.new.channels).items c.args.self.now c.args.kept.now
    c.self.view_is c.left.ensures c.left-2.ensures c.deref_mut.ensures.value c.count_at-count.ensures.these c.count_at-count.ensures.later c.skip.ensures c.pass_cycle.ensures (with_items_is c.self.inside.channels c.pass_cycle.new.channels same)

pub returns-clause-stands : goal.returns-clause-stands
returns-clause-stands c = λ script outputs steps counter lt stands.
    subst (λ (x : InputsState). InputsStandFor x script (outputs ++ c.args.kept.now) steps c.args.cycle) (sym (returns-clause-after c))
    (stands-cycle c.args.self.now script outputs c.args.kept.now steps counter c.args.cycle lt c.requires.none_skipped c.requires.put_out stands)
