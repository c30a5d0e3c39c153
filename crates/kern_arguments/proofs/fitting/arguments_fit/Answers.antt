use Rattle.std.proofs.Common.{rules, refl, sym, ◌∙◌, subst, arith, length, get_or, w64, to_z, of_z, ◌≡◌}
use Rattle.std.specs.Prelude.{pos}
use Rattle.std.proofs.lemmas.Int.{to_z-of_z}
use Rattle.std.proofs.lemmas.Bool.{false≢true}
use Rattle.kern_arguments.specs.Fitting.{ArgumentFits}
use Rattle.kern_arguments.proofs.Rest.{as_many, first_fits, rest_fits, both_fit, none_left}
use Rattle.kern_arguments.proofs.fitting.arguments_fit.Goals as goal

pub returns-then-parameters-arguments : goal.returns-then-parameters-arguments
returns-then-parameters-arguments c =
    ((λ e. absurd (false≢true e)), (λ f. absurd (c.if-parameters-arguments.true (as_many c.args.parameters.now c.args.arguments.now f))))

pub loop-index-preserved : goal.loop-index-preserved
loop-index-preserved c =
    let ps = c.args.parameters.now in
    let vs = c.args.arguments.now in
    let i = c.loop-index.index in
    let d = c.index-parameters-index.result in
    let less = c.loop-index-test.true in
    let same = c.if-parameters-arguments.false in
    let is : to_z w64 (of_z w64 (get_or vs i (pos 0))) ≡ get_or vs i (pos 0) = to_z-of_z w64 (get_or vs i (pos 0)) (search rules) in
    let first = subst (ArgumentFits (get_or ps i d).declared) is (c.argument_fits.ensures.0 c.if-not-argument_fits.false) in
    ((λ f. rest_fits ps vs i d less same (c.loop-index.invariant.0 f)), (λ f. c.loop-index.invariant.1 (both_fit ps vs i d less same first f)))

pub returns-then-not-argument_fits : goal.returns-then-not-argument_fits
returns-then-not-argument_fits c =
    let ps = c.args.parameters.now in
    let vs = c.args.arguments.now in
    let i = c.loop-index.index in
    let d = c.index-parameters-index.result in
    let less = c.loop-index-test.true in
    let same = c.if-parameters-arguments.false in
    let is : to_z w64 (of_z w64 (get_or vs i (pos 0))) ≡ get_or vs i (pos 0) = to_z-of_z w64 (get_or vs i (pos 0)) (search rules) in
    ((λ e. absurd (false≢true e)), (λ f. absurd (false≢true (sym c.if-not-argument_fits.true ∙ c.argument_fits.ensures.1 (subst (ArgumentFits (get_or ps i d).declared) (sym is) (first_fits ps vs i d less same (c.loop-index.invariant.0 f)))))))

pub returns : goal.returns
returns c =
    let ps = c.args.parameters.now in
    let vs = c.args.arguments.now in
    let i = c.loop-index.index in
    let end : i ≡ length ps = omega arith in
    ((λ e. c.loop-index.invariant.1 (none_left ps vs i c.if-parameters-arguments.false end)), (λ f. refl))
