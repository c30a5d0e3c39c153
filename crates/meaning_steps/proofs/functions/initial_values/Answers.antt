use Rattle.std.proofs.Common.{◌≡◌, ◌+◌, ◌++◌, [], ◌∷◌, drop, ap, sym, ◌∙◌}
use Rattle.timeline_sem.specs.Programs.{initial_values}
use Rattle.meaning_steps.specs.Entering.{first_value}
use Rattle.meaning_steps.proofs.Begun.{value_more}
use Rattle.meaning_steps.proofs.functions.initial_values.Goals as goal

pub loop-place-preserved : goal.loop-place-preserved
loop-place-preserved c =
    let names = c.args.names.now in
    let place = c.loop-place.place in
    let values = c.loop-place.values.items in
    let left = c.loop-place.left.now in
    let after = c.push.new.self.items in
    let x = c.at.result.name.now in
    let t = c.at.result.kind in
    let put : after ≡ values ++ (x, first_value t left) ∷ [] = c.in_ok-push.ensures.items ∙ ap (λ v. values ++ v ∷ []) c.in_ok-first_variable.ensures in
    value_more names c.args.args.now left place values after x t c.at.ensures c.loop-place.invariant put
    ∙ ap (λ l. after ++ initial_values (drop (place + 1) names) l) (sym c.later_args-left.ensures)
