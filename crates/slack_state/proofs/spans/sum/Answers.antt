use Rattle.std.proofs.Common.{rules, ◌≡◌, ◌∙◌, ◌+ℤ◌, Some, None, FitsSigned, w64}
use Rattle.std.proofs.lemmas.Int.{to_z-of_z}
use Rattle.slack_state.proofs.Near.{between, both-near, far-greatest, near_number}
use Rattle.slack_state.proofs.spans.sum.Goals as goal

pub returns-in_err-greatest : goal.returns-in_err-greatest
returns-in_err-greatest c =
    let a = c.args.a in
    let b = c.args.b in
    let first : FitsSigned w64 a.greatest = search rules in
    let second : FitsSigned w64 b.greatest = search rules in
    let high : None ≡ near_number (a.greatest +ℤ b.greatest) = c.in_err-greatest.ensures ∙ (λ i. near_number (to_z-of_z w64 a.greatest first i +ℤ to_z-of_z w64 b.greatest second i)) in
    c.from_residual-in_err-greatest.ensures ∙ far-greatest (a.least +ℤ b.least) (a.greatest +ℤ b.greatest) high

pub returns : goal.returns
returns c =
    let a = c.args.a in
    let b = c.args.b in
    let l = c.in_ok-least.least in
    let g = c.in_ok-greatest.greatest in
    let first : FitsSigned w64 a.least = search rules in
    let second : FitsSigned w64 b.least = search rules in
    let third : FitsSigned w64 a.greatest = search rules in
    let fourth : FitsSigned w64 b.greatest = search rules in
    let fits-l : FitsSigned w64 l = search rules in
    let fits-g : FitsSigned w64 g = search rules in
    let low : Some l ≡ near_number (a.least +ℤ b.least) = c.in_ok-least.ensures ∙ (λ i. near_number (to_z-of_z w64 a.least first i +ℤ to_z-of_z w64 b.least second i)) in
    let high : Some g ≡ near_number (a.greatest +ℤ b.greatest) = c.in_ok-greatest.ensures ∙ (λ i. near_number (to_z-of_z w64 a.greatest third i +ℤ to_z-of_z w64 b.greatest fourth i)) in
    (λ i. Some (between (to_z-of_z w64 l fits-l i) (to_z-of_z w64 g fits-g i)))
    ∙ both-near (a.least +ℤ b.least) (a.greatest +ℤ b.greatest) l g low high
