-- What the words ask, of which none is accepted.
use Rattle.std.proofs.Common.{◌≡◌, List, [], ◌∷◌, refl, sym, ◌∙◌, length, arith}
use Rattle.std.specs.Prelude.{Bool, None, Some, false, true, ◌==◌}
use Rattle.std.proofs.lemmas.Bool.{eqb-true}
use Rattle.lab_program.specs.Answers.{session_asked}

pub no-words : {X : Type 0} (words : List X) (empty : Bool) → empty ≡ (length words == 0) → empty ≡ true → session_asked words ≡ Some tt
no-words [] empty is none = refl
no-words (word ∷ words) empty is none =
    let same : length (word ∷ words) ≡ 0 = eqb-true (length (word ∷ words)) 0 (sym is ∙ none) in absurd (omega (arith, same))

pub some-words : {X : Type 0} (words : List X) (empty : Bool) → empty ≡ (length words == 0) → empty ≡ false → session_asked words ≡ None
some-words [] empty is some = absurd (let clash : true ≡ false = sym is ∙ some in cc)
some-words (word ∷ words) empty is some = refl
