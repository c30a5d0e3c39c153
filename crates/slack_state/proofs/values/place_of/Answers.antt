use Rattle.std.proofs.Common.{◌≡◌, ◌<◌, ◌∙◌, sym, bytes_eq, true, false, arith, length}
use Rattle.slack_state.proofs.Placed.{place_here, place_later, place_nowhere}
use Rattle.slack_state.proofs.values.place_of.Goals as goal

pub returns-then-is_named : goal.returns-then-is_named
returns-then-is_named c =
    let xs = c.args.variables.now in
    let i = c.loop-i.i in
    let e = c.index-variables-i.result in
    let within : i < length xs = omega (arith, c.loop-i.auto, c.loop-i-test.true) in
    let named : bytes_eq e.0 c.args.name.now ≡ true = sym c.is_named.ensures ∙ c.if-is_named.true in
    sym (c.loop-i.invariant ∙ place_here xs i e c.args.name.now within c.index-variables-i.is named)

pub loop-i-preserved : goal.loop-i-preserved
loop-i-preserved c =
    let xs = c.args.variables.now in
    let i = c.loop-i.i in
    let e = c.index-variables-i.result in
    let within : i < length xs = omega (arith, c.loop-i.auto, c.loop-i-test.true) in
    let other : bytes_eq e.0 c.args.name.now ≡ false = sym c.is_named.ensures ∙ c.if-is_named.false in
    c.loop-i.invariant ∙ place_later xs i e c.args.name.now within c.index-variables-i.is other

pub returns : goal.returns
returns c =
    let xs = c.args.variables.now in
    let i = c.loop-i.i in
    let past : i ≡ length xs = omega (arith, c.loop-i.auto, c.loop-i-test.false) in
    sym (c.loop-i.invariant ∙ place_nowhere xs i c.args.name.now past)
