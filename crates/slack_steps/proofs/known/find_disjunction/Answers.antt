use Rattle.std.proofs.Common.{rules, ◌≡◌, true, false, ap, sym, ◌∙◌, w64}
use Rattle.std.proofs.lemmas.Int.{to_z-of_z}
use Rattle.rtio_types.specs.Integers.{is_true}
use Rattle.kern_syntax.specs.Tree.{disjunction}
use Rattle.slack_steps.specs.Known.{IsKnownAs}
use Rattle.slack_steps.proofs.Parts.{as_word, disjunction_false}
use Rattle.slack_steps.proofs.known.find_disjunction.Goals as goal

pub returns : goal.returns
returns c scope left right s a b =
    let m = c.args.a in
    let n = c.args.b in
    let told : c.is_told.result ≡ true = search rules in
    let truth : c.is_true.result ≡ false = search rules in
    let isnt : is_true m ≡ false = ap is_true (sym (to_z-of_z w64 m c.ranges.a)) ∙ sym c.is_true.ensures ∙ truth in
    let first : IsKnownAs scope left s m = c.is_told.ensures m scope left s a told in
    as_word scope c.untyped.result n (disjunction left right) s c.ranges.b
    (c.untyped.ensures n scope right (disjunction left right) s b (λ known. disjunction_false scope left right s m n isnt first known))
