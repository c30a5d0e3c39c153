use Rattle.std.proofs.Common.{rules, ◌≡◌, ◌∙◌, ◌-ℤ◌, Some, FitsSigned, w64}
use Rattle.std.proofs.lemmas.Int.{to_z-of_z}
use Rattle.slack_state.proofs.Near.{between, both-near, near_number}
use Rattle.slack_state.proofs.spans.less.Goals as goal

pub returns : goal.returns
returns c =
    let a = c.args.a in
    let n = c.args.number in
    let l = c.in_ok-least.least in
    let g = c.in_ok-greatest.greatest in
    let first : FitsSigned w64 a.least = search rules in
    let second : FitsSigned w64 a.greatest = search rules in
    let fits-l : FitsSigned w64 l = search rules in
    let fits-g : FitsSigned w64 g = search rules in
    let low : Some l ≡ near_number (a.least -ℤ n) = c.in_ok-least.ensures ∙ (λ i. near_number (to_z-of_z w64 a.least first i -ℤ to_z-of_z w64 n c.ranges.number i)) in
    let high : Some g ≡ near_number (a.greatest -ℤ n) = c.in_ok-greatest.ensures ∙ (λ i. near_number (to_z-of_z w64 a.greatest second i -ℤ to_z-of_z w64 n c.ranges.number i)) in
    (λ i. Some (between (to_z-of_z w64 l fits-l i) (to_z-of_z w64 g fits-g i)))
    ∙ both-near (a.least -ℤ n) (a.greatest -ℤ n) l g low high
