use Rattle.std.proofs.Common.{◌≡◌, refl, sym, ◌∙◌, ap, subst}
use Rattle.kern_lexer.specs.declared.token.Sign.TheVariants as S
use Rattle.kern_lexer.specs.declared.token.TokenKind.TheVariants as T
use Rattle.kern_syntax.specs.declared.statement.Augment.TheVariants as A
use Rattle.kern_grammar.specs.Views.{place_of}
use Rattle.kern_expressions.specs.TakenBy.{GivesTaken}
use Rattle.kern_statements.specs.LineSteps.{HasPlace, line_of_statement, on}
use Rattle.kern_statements.proofs.Performed.{assignment_there, augmented_there, has_place}
use Rattle.kern_statements.proofs.simple.deed_at.Goals as goal

pub returns-in-Some : goal.returns-in-Some
returns-in-Some c = λ tree k.
    let seen : c.in-Sign-Assign.field-0 ≡ S.Assign = rw c.in-Sign-Assign.is at c.in-Sign-Assign.field-0-is in
    let p = has_place c.in-Some.place (place_of tree) (subst (λ o. HasPlace o (place_of tree)) c.in-Some.is (c.place_of.ensures tree k)) in
    let same = assignment_there (on c.args.line) tree p.0 c.args.tokens c.tail-in-Some.result c.in-len1-up.len_at_least (c.in-Sign-Assign.is ∙ ap (λ s. T.Sign s) seen) c.tail-in-Some.ensures.lexemes p.1 in
    subst (GivesTaken line_of_statement c.assigned_at.result) (sym same) (c.assigned_at.ensures p.0 p.2)

pub returns-in-Some-place_of : goal.returns-in-Some-place_of
returns-in-Some-place_of c = λ tree k.
    let seen : c.in-Sign-AddAssign.field-0 ≡ S.AddAssign = rw c.in-Sign-AddAssign.is at c.in-Sign-AddAssign.field-0-is in
    let p = has_place c.in-Some-place_of.place (place_of tree) (subst (λ o. HasPlace o (place_of tree)) c.in-Some-place_of.is (c.place_of-in-Sign-AddAssign.ensures tree k)) in
    let same = augmented_there (on c.args.line) tree p.0 S.AddAssign A.Add c.args.tokens c.tail-in-Some-place_of.result c.in-len1-up.len_at_least (c.in-Sign-AddAssign.is ∙ ap (λ s. T.Sign s) seen) refl c.tail-in-Some-place_of.ensures.lexemes p.1 in
    subst (GivesTaken line_of_statement c.augmented_value_at.result) (sym same) (c.augmented_value_at.ensures p.0 p.2)

pub returns-in-Some-place_of-2 : goal.returns-in-Some-place_of-2
returns-in-Some-place_of-2 c = λ tree k.
    let seen : c.in-Sign-SubtractAssign.field-0 ≡ S.SubtractAssign = rw c.in-Sign-SubtractAssign.is at c.in-Sign-SubtractAssign.field-0-is in
    let p = has_place c.in-Some-place_of-2.place (place_of tree) (subst (λ o. HasPlace o (place_of tree)) c.in-Some-place_of-2.is (c.place_of-in-Sign-SubtractAssign.ensures tree k)) in
    let same = augmented_there (on c.args.line) tree p.0 S.SubtractAssign A.Subtract c.args.tokens c.tail-in-Some-place_of-2.result c.in-len1-up.len_at_least (c.in-Sign-SubtractAssign.is ∙ ap (λ s. T.Sign s) seen) refl c.tail-in-Some-place_of-2.ensures.lexemes p.1 in
    subst (GivesTaken line_of_statement c.augmented_value_at-in-Some-place_of-2.result) (sym same) (c.augmented_value_at-in-Some-place_of-2.ensures p.0 p.2)
