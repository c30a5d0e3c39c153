-- Texts that are a prefix with something behind it.
use Rattle.std.proofs.Common.{◌≡◌, ◌≢◌, ℕ, List, ◌++◌, Bool, true, false, ap, sym, ◌∙◌, refl}
use Rattle.std.specs.Prelude.{bytes_eq}
use Rattle.std.proofs.lemmas.List.{append_cancel_left}
use Rattle.std.proofs.lemmas.Slice.Eq.{bytes_eq-Decides}

-- two tests agree where each says yes if the other does
same_tests : (a b : Bool) → (a ≡ true → b ≡ true) → (b ≡ true → a ≡ true) → a ≡ b
same_tests true b f g = sym (f refl)
same_tests false true f g = g refl
same_tests false false f g = refl

-- behind the same prefix two texts are equal where the rests are
pub equal_behind : (prefix first second name : List ℕ) → name ≡ prefix ++ second → bytes_eq first second ≡ bytes_eq (prefix ++ first) name
equal_behind prefix first second name is =
    let rests = bytes_eq-Decides first second in
    let wholes = bytes_eq-Decides (prefix ++ first) name in
    same_tests _ _ (λ t. wholes.1 (ap (λ l. prefix ++ l) (rests.0 t) ∙ sym is)) (λ t. rests.1 (append_cancel_left prefix first second (wholes.0 t ∙ is)))

-- a test that can't say yes says no
refused : (test : Bool) → test ≢ true → false ≡ test
refused true not = absurd (not refl)
refused false not = refl

-- a name without the prefix is none with it
pub unequal_without : (prefix first name : List ℕ) → ((rest : List ℕ) → name ≢ prefix ++ rest) → false ≡ bytes_eq (prefix ++ first) name
unequal_without prefix first name without =
    refused _ (λ t. without first (sym ((bytes_eq-Decides (prefix ++ first) name).0 t)))
