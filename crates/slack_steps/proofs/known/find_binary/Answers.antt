use Rattle.std.proofs.Common.{rules, ◌≡◌, true, sym, subst, FitsSigned, w64}
use Rattle.std.proofs.lemmas.Int.{to_z-of_z}
use Rattle.kern_syntax.specs.TreeOf.{expression_of}
use Rattle.kern_names.specs.ScopeOf.{scope_of}
use Rattle.slack_steps.specs.Known.{IsKnownAs}
use Rattle.slack_steps.proofs.Parts.{as_word}
use Rattle.slack_steps.proofs.known.find_binary.Goals as goal

pub returns : goal.returns
returns c left right s tree a b =
    let scope = scope_of c.args.scope.now in
    let m = c.args.a in
    let n = c.args.b in
    let result = c.find_result.result in
    let fits : FitsSigned w64 result = search rules in
    let one : c.is_told.result ≡ true = search rules in
    let two : c.is_told-2.result ≡ true = search rules in
    let first : IsKnownAs scope left s m = c.is_told.ensures m scope left s a one in
    let second : IsKnownAs scope right s n = c.is_told-2.ensures n scope right s b two in
    as_word scope c.find_result.new.found result (expression_of c.args.e.now) s fits
    (c.find_result.ensures left right s tree (λ long. c.is_long.ensures m scope left s a long)
    (subst (IsKnownAs scope left s) (sym (to_z-of_z w64 m c.ranges.a)) first)
    (subst (IsKnownAs scope right s) (sym (to_z-of_z w64 n c.ranges.b)) second))
