use Rattle.std.proofs.Common.{rules, arith, ◌≡◌, ◌==◌, ◌+◌, [], ◌∷◌, ◌++◌, Some, None, length, refl, sym, ap, lit<, drop}
use Rattle.std.specs.List.{slice_split}
use Rattle.std.proofs.lemmas.List.{length_push}
use Rattle.std.proofs.lemmas.Iterator.Splits.{YieldsList-from_str_split}
use Rattle.std.proofs.lemmas.Iterator.Consumers.{YieldsList-turn, YieldsList-end}
use Rattle.option_values.specs.Lists.{hold_of}
use Rattle.option_values.specs.Parts.{each_of, listed}
use Rattle.option_values.proofs.Loops.{ends, goes-on, stops}
use Rattle.option_values.proofs.Holding.{held-ends, held-falls, held-more, said_by}
use Rattle.option_values.proofs.holds.read_holds.Goals as goal

pub returns-in_err-channel : goal.returns-in_err-channel
returns-in_err-channel c =
    let parts = slice_split (λ b. b == 44) c.args.text.now in
    let turn = YieldsList-turn (YieldsList-from_str_split 44 c.args.text.now (lit< tt) (cc) (cc) (cc)) c.loop-part.yielded _ c.loop-part.yielded_by _ _ c.in-Some.part c.in-Some.is c.next.ensures.steps in
    let held = c.loop-part.invariant.2 in
    let none : hold_of c.in-Some.part.now ≡ None = search rules in
    let refused = stops hold_of parts held.0 (length c.loop-part.yielded) (listed hold_of c.args.text.now) c.in-Some.part.now held.1 turn none in
    let said = ap said_by refused in
    search (rules, said)

pub returns-then-channel-next : goal.returns-then-channel-next
returns-then-channel-next c =
    let parts = slice_split (λ b. b == 44) c.args.text.now in
    let turn = YieldsList-turn (YieldsList-from_str_split 44 c.args.text.now (lit< tt) (cc) (cc) (cc)) c.loop-part.yielded _ c.loop-part.yielded_by _ _ c.in-Some.part c.in-Some.is c.next.ensures.steps in
    let held = c.loop-part.invariant.2 in
    let some : hold_of c.in-Some.part.now ≡ Some (c.in_ok-channel.channel, c.in_ok-channel.cycles) = search rules in
    let more = goes-on hold_of parts held.0 (length c.loop-part.yielded) (listed hold_of c.args.text.now) c.in-Some.part.now (c.in_ok-channel.channel, c.in_ok-channel.cycles) held.1 turn some in
    sym (held-falls held.0 c.loop-part.holds c.loop-part.next c.in_ok-channel.channel c.in_ok-channel.cycles (listed hold_of c.args.text.now) (each_of hold_of (drop (length c.loop-part.yielded + 1) parts)) held.2 (c.if-channel-next.true) more)

pub loop-part-preserved : goal.loop-part-preserved
loop-part-preserved c =
    let parts = slice_split (λ b. b == 44) c.args.text.now in
    let turn = YieldsList-turn (YieldsList-from_str_split 44 c.args.text.now (lit< tt) (cc) (cc) (cc)) c.loop-part.yielded _ c.loop-part.yielded_by _ _ c.in-Some.part c.in-Some.is c.next.ensures.steps in
    let held = c.loop-part.invariant.2 in
    let some : hold_of c.in-Some.part.now ≡ Some (c.in_ok-channel.channel, c.in_ok-channel.cycles) = search rules in
    let more = goes-on hold_of parts held.0 (length c.loop-part.yielded) (listed hold_of c.args.text.now) c.in-Some.part.now (c.in_ok-channel.channel, c.in_ok-channel.cycles) held.1 turn some in (
      tt,
      tt,
      (
        held.0 ++ (c.in_ok-channel.channel, c.in_ok-channel.cycles) ∷ [],
        rw (length_push c.loop-part.yielded c.in-Some.part) more,
        held-more held.0 c.loop-part.holds _ c.loop-part.next _ c.in_ok-channel.channel c.in_ok-channel.cycles held.2 c.if-channel-next.false refl refl,
      ),
    )

pub returns : goal.returns
returns c =
    let parts = slice_split (λ b. b == 44) c.args.text.now in
    let end = YieldsList-end (YieldsList-from_str_split 44 c.args.text.now (lit< tt) (cc) (cc) (cc)) c.loop-part.yielded _ c.loop-part.yielded_by _ _ c.in-None.is c.next.ensures.steps in
    let held = c.loop-part.invariant.2 in
    let all = ends hold_of parts held.0 (length c.loop-part.yielded) (listed hold_of c.args.text.now) held.1 (omega (arith, end.1)) in
    sym (held-ends held.0 c.loop-part.holds c.loop-part.next (listed hold_of c.args.text.now) held.2 all)
