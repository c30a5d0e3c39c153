use Rattle.std.proofs.Common.{◌≡◌, length, map, ap, sym}
use Rattle.std.proofs.lemmas.List.{length-map}
use Rattle.kern_syntax.specs.TreeOf.{expression_of}
use Rattle.kern_calls.specs.declared.wanted.Wanted.TheVariants as W
use Rattle.kern_expression_types.specs.Expressions.{elements_verdict}
use Rattle.kern_expression_types.specs.Fits.{fit_each}
use Rattle.kern_expression_types.specs.KnownOf.{functions_of}
use Rattle.kern_expression_types.specs.Misfits.{fitting_elements_verdict}
use Rattle.kern_expression_types.proofs.Misfits.{bind-assoc}
use Rattle.kern_types.specs.Statements.{array_verdict}
use Rattle.kern_types.proofs.Branches.{leaves-same, leaves-then}
use Rattle.kern_types.proofs.statements.check_listed.Goals as goal

pub returns : goal.returns
returns c =
    let functions = functions_of c.args.known.now in
    let place = c.args.place in
    let names = c.args.names.now in
    let name = c.args.name.now in
    let es = map expression_of c.args.elements.now in
    let r = c.assign_array.result in
    let left = c.assign_array.new.names in
    let count : length c.args.elements.now ≡ length es = sym (length-map c.args.elements.now expression_of) in
    let whole = bind-assoc (elements_verdict functions place names es) (fit_each place.line W.Int64) (λ a. array_verdict functions place names name (length es)) in
    leaves-same r left _ _ whole (leaves-then r left (fitting_elements_verdict functions place names W.Int64 es) tt (λ a. array_verdict functions place names name (length es)) c.in_ok-check_elements.ensures (leaves-same r left _ _ (ap (array_verdict functions place names name) count) c.assign_array.ensures))
