use Rattle.std.proofs.Common.{◌≡◌, ◌++◌, [], ◌∷◌, ap, ◌∙◌}
use Rattle.slack_steps.specs.Entering.{first_value}
use Rattle.slack_steps.proofs.Begun.{value_more}
use Rattle.slack_steps.proofs.functions.initial_values.Goals as goal

pub loop-place-preserved : goal.loop-place-preserved
loop-place-preserved c =
    let values = c.loop-place.values.items in
    let x = c.at.result.name.now in
    let t = c.at.result.kind in
    let arg = c.arg_at-arg.result in
    let put : c.push.new.self.items ≡ values ++ (x, first_value t arg) ∷ [] = c.in_ok-push.ensures.items ∙ ap (λ v. values ++ v ∷ []) c.in_ok-first_variable.ensures in
    value_more c.args.names.now c.args.args.now c.loop-place.place values c.push.new.self.items x t arg c.at.ensures c.loop-place.invariant c.arg_at-arg.ensures put
