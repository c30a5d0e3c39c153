use Rattle.std.proofs.Common.{◌≡◌, Some, None, slice_get, option_map, sym, ap, ◌∙◌, arith}
use Rattle.std.proofs.lemmas.Grind.{common_steps}
use Rattle.std.proofs.lemmas.Option.{gets}
use Rattle.kern_expression_types.specs.Fits.{declared_wanted}
use Rattle.kern_expression_types.specs.Misfits.{taken}
use Rattle.kern_expression_types.proofs.Parameters.{wanted-at}
use Rattle.kern_expression_types.proofs.callee.Takes.wanted_at.Goals as goal

pub returns-in-Some : goal.returns-in-Some
returns-in-Some c =
    let parameters = c.in-Parameters.parameters.now in
    let i = c.args.number in
    let there : slice_get parameters i ≡ Some c.in-Some.parameter.now = grind (arith, common_steps, gets) in
    ap Some c.declared_wanted.ensures ∙ sym (ap (λ takes. slice_get (taken takes) i) c.in-Parameters.is ∙ wanted-at parameters i ∙ ap (option_map (λ p. declared_wanted p.declared)) there)

pub returns-in-None : goal.returns-in-None
returns-in-None c =
    let parameters = c.in-Parameters.parameters.now in
    let i = c.args.number in
    let there : slice_get parameters i ≡ None = grind (arith, common_steps, gets) in
    sym (ap (λ takes. slice_get (taken takes) i) c.in-Parameters.is ∙ wanted-at parameters i ∙ ap (option_map (λ p. declared_wanted p.declared)) there)
