use Rattle.std.proofs.Common.{rules, sym, subst, FitsSigned, w64}
use Rattle.std.proofs.lemmas.Int.{to_z-of_z}
use Rattle.kern_syntax.specs.TreeOf.{expression_of}
use Rattle.kern_names.specs.ScopeOf.{scope_of}
use Rattle.slack_steps.specs.Known.{IsKnownAs}
use Rattle.slack_steps.proofs.Parts.{as_word}
use Rattle.slack_steps.proofs.known.find_result.Goals as goal

pub returns-in-None : goal.returns-in-None
returns-in-None c left right s tree typed first second =
    let scope = scope_of c.args.scope.now in
    let result = c.find_typed.result in
    let fits : FitsSigned w64 result = search rules in
    as_word scope c.find_typed.new.found result (expression_of c.args.e.now) s fits
    (c.find_typed.ensures left right s tree typed
    (subst (IsKnownAs scope left s) (sym (to_z-of_z w64 c.args.m c.ranges.m)) first)
    (subst (IsKnownAs scope right s) (sym (to_z-of_z w64 c.args.n c.ranges.n)) second))
