use Rattle.std.proofs.Common.{◌≡◌, ◌∙◌, ◌+◌, ap, arith, drop, reverse, sym, true, [], Ok}
use Rattle.std.proofs.lemmas.Bool.{eqb-true, eqb-false}
use Rattle.std.proofs.lemmas.List.{nil_from_length, length-reverse}
use Rattle.std.proofs.lemmas.Result.{err_from_is_err_and}
use Rattle.kern_lexer.specs.Fronts.{begins_token}
use Rattle.kern_lexer.specs.Margins.{leading_spaces, margin, unmarked}
use Rattle.kern_lexer.specs.Steps.{margin_after}
use Rattle.kern_lexer.specs.Tokens.{margin_of, margin_or_fault}
use Rattle.kern_lexer.proofs.MarginLemmas.{margin-asked, margin-unasked, margin-within, after-unmarked}
use Rattle.kern_lexer.proofs.WordLemmas.{end-same}
use Rattle.kern_lexer.proofs.margin.read_margin.Goals as goal
use Rattle.kern_lexer.proofs.margin.read_margin.Goals.{else-is_empty-via-then-is_empty+else-begins_token, else-is_empty-via-else-is_empty}

pub returns-in_err-mark_margin-clause-fault : goal.returns-in_err-mark_margin-clause-fault
returns-in_err-mark_margin-clause-fault c =
    let brackets = c.args.layout.now.brackets.items in
    let widths = c.args.layout.now.widths.items in
    let code = c.args.code.now in
    let p = err_from_is_err_and c.from_residual.result c.from_residual.ensures.1 in
    let empty : c.args.layout.now.brackets.len ≡ 0 = eqb-true _ 0 (sym c.is_empty.ensures ∙ c.if-is_empty.true) in
    let outside : reverse brackets ≡ [] =
    nil_from_length (reverse brackets) (length-reverse brackets ∙ sym c.args.layout.now.brackets.ok.0 ∙ empty) in
    let begins : begins_token (drop (leading_spaces code) code) ≡ true = ap begins_token (sym c.without_spaces.ensures)
    ∙ sym c.begins_token.ensures ∙ c.if-begins_token.true in
    rw (p.1, p.2)
    (end-same _ (ap (λ w. margin_after c.args.tokens.now.items c.args.line (c.args.at + w) (margin_or_fault (c.args.at + w) (margin (reverse widths) w))) c.leading_spaces-width.ensures
    ∙ ap (margin_after c.args.tokens.now.items c.args.line (c.args.at + leading_spaces code)) (sym (margin-asked (reverse brackets) (reverse widths) c.args.at code outside begins)))
    c.in_err-mark_margin.ensures.fault)

pub returns-in_ok-mark_margin-clause-ok : goal.returns-in_ok-mark_margin-clause-ok
returns-in_ok-mark_margin-clause-ok c =
    let brackets = c.args.layout.now.brackets.items in
    let widths = c.args.layout.now.widths.items in
    let code = c.args.code.now in
    let empty : c.args.layout.now.brackets.len ≡ 0 = eqb-true _ 0 (sym c.is_empty.ensures ∙ c.if-is_empty.true) in
    let outside : reverse brackets ≡ [] =
    nil_from_length (reverse brackets) (length-reverse brackets ∙ sym c.args.layout.now.brackets.ok.0 ∙ empty) in
    let begins : begins_token (drop (leading_spaces code) code) ≡ true = ap begins_token (sym c.without_spaces.ensures)
    ∙ sym c.begins_token.ensures ∙ c.if-begins_token.true in
    ap (margin_after c.args.tokens.now.items c.args.line (c.args.at + leading_spaces code)) (margin-asked (reverse brackets) (reverse widths) c.args.at code outside begins)
    ∙ ap (λ w. margin_after c.args.tokens.now.items c.args.line (c.args.at + w) (margin_or_fault (c.args.at + w) (margin (reverse widths) w))) (sym c.leading_spaces-width.ensures)
    ∙ c.in_ok-mark_margin.ensures.ok

pub returns-else-is_empty-clause-ok : goal.returns-else-is_empty-clause-ok
returns-else-is_empty-clause-ok c =
    let brackets = c.args.layout.now.brackets.items in
    let widths = c.args.layout.now.widths.items in
    let code = c.args.code.now in
    let none : margin_of (reverse brackets) (reverse widths) c.args.at code ≡ Ok (unmarked (reverse widths)) =
    elim c.else-is_empty.branch [
      | else-is_empty-via-then-is_empty+else-begins_token w ↦ margin-unasked (reverse brackets) (reverse widths) c.args.at code
          (ap begins_token (sym w.without_spaces.ensures) ∙ sym w.begins_token.ensures ∙ w.if-begins_token.false)
      | else-is_empty-via-else-is_empty w ↦ margin-within (reverse brackets) (reverse widths) c.args.at code
          (let some : c.args.layout.now.brackets.len ≡ 0 → ⊥ = eqb-false _ 0 (sym c.is_empty.ensures ∙ w.if-is_empty.false) in omega (arith, some, length-reverse brackets, c.args.layout.now.brackets.ok.0))
    ] in
    after-unmarked c.args.tokens.now.items c.args.line (c.args.at + leading_spaces code) (reverse widths) _ none
