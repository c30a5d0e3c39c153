use Rattle.std.proofs.Common.{◌≡◌, ◌<◌, ◌≤◌, ◌∙◌, ap, sym, bytes_eq, true, arith, length, slice_set}
use Rattle.meaning_state.specs.Values.{value_held}
use Rattle.meaning_state.proofs.Named.{named_at, same_item, named_nowhere}
use Rattle.meaning_state.proofs.values.hold.Goals as goal

pub returns-then-is_named : goal.returns-then-is_named
returns-then-is_named c =
    let xs = c.loop-i.variables in
    let i = c.loop-i.i in
    let e = c.index-variables-i.result in
    let f = c.index-variables-i-then-is_named.result in
    let within : i < length xs = omega (arith, c.loop-i.auto.variables, c.loop-i-test.true) in
    let named : bytes_eq e.0 c.args.name.now ≡ true = ap (λ g. bytes_eq g.0 c.args.name.now) c.index-variables-i.is ∙ sym c.is_named.ensures ∙ c.if-is_named.true in
    let same : e ≡ f = same_item xs i e f within c.index-variables-i.is c.index-variables-i-then-is_named.is in
    ap (slice_set xs i) (c.hold.ensures ∙ ap (λ g. (g.0, value_held c.args.held)) (sym c.index-variables-i-then-is_named.is ∙ sym same))
    ∙ named_at xs i e c.args.name.now (value_held c.args.held) _ within c.index-variables-i.is named c.loop-i.invariant

pub returns : goal.returns
returns c =
    let past : length c.loop-i.variables ≤ c.loop-i.i = omega (arith, c.loop-i.auto.variables, c.loop-i-test.false) in
    named_nowhere c.loop-i.variables c.loop-i.i c.args.name.now (value_held c.args.held) _ past c.loop-i.invariant
