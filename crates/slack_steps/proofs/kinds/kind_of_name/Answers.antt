use Rattle.std.proofs.Common.{◌≡◌, ◌+◌, ◌≤◌, ◌∙◌, ap, sym, true, false, drop, length, arith, Some, if◌then◌else◌}
use Rattle.std.specs.Prelude.{bytes_eq, unwrap_or}
use Rattle.std.proofs.Math.ListN.{drop_of_length-le}
use Rattle.kern_calls.specs.Calls.{look_up}
use Rattle.kern_calls.specs.declared.types.ValueType.TheVariants.{Int64}
use Rattle.kern_names.specs.ScopeOf.{scope_of}
use Rattle.slack_steps.proofs.Begun.{looked_up}
use Rattle.slack_steps.proofs.kinds.kind_of_name.Goals as goal

pub returns-then-is_same : goal.returns-then-is_same
returns-then-is_same c =
    let names = (scope_of c.args.scope.now).names in
    let known = c.at-known.result in
    let named : bytes_eq c.args.name.now known.name.now ≡ true = sym c.is_same.ensures ∙ c.if-is_same.true in
    let rest = look_up (drop (c.loop-place.place + 1) names) c.args.name.now in
    sym (ap (λ t. unwrap_or t Int64) (looked_up names c.loop-place.place known.name.now known.kind c.args.name.now _ c.at-known.ensures c.loop-place.invariant ∙ ap (λ b. if b then Some known.kind else rest) named))

pub loop-place-preserved : goal.loop-place-preserved
loop-place-preserved c =
    let names = (scope_of c.args.scope.now).names in
    let known = c.at-known.result in
    let other : bytes_eq c.args.name.now known.name.now ≡ false = sym c.is_same.ensures ∙ c.if-is_same.false in
    let rest = look_up (drop (c.loop-place.place + 1) names) c.args.name.now in
    looked_up names c.loop-place.place known.name.now known.kind c.args.name.now _ c.at-known.ensures c.loop-place.invariant ∙ ap (λ b. if b then Some known.kind else rest) other

pub returns : goal.returns
returns c =
    let names = (scope_of c.args.scope.now).names in
    let past : length names ≤ c.loop-place.place = omega (arith, c.loop-place.auto, c.loop-place-test.false) in
    sym (ap (λ t. unwrap_or t Int64) (c.loop-place.invariant ∙ ap (λ l. look_up l c.args.name.now) (drop_of_length-le names past)))
