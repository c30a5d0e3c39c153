-- Reading by a plan goes on behind what was given, and stops where that stopped.
use Rattle.std.proofs.Common.{◌≡◌, List, refl, sym, ◌∙◌, ap, subst}
use Rattle.std.specs.Prelude.{Result, Ok, Err, IsErrAnd}
use Rattle.kern_lexer.specs.Symbols.{Lexeme}
use Rattle.kern_grammar.specs.Plans.{Taken, ◌>>=◌}
use Rattle.kern_grammar.proofs.Taking.{then_ok}
use Rattle.kern_expressions.specs.Given.{Gives}
use Rattle.kern_expressions.specs.TakenBy.{lexemes_left}
use Rattle.kern_expressions.specs.declared.tokens.Tokens.{Tokens}
use Rattle.kern_expressions.specs.declared.tokens.WrongToken.{WrongToken}
use Rattle.kern_expressions.proofs.Exits.{found, hands_on, refused}

-- an end stays the end of what would have gone on
pub end_passes : {A B : Type 0} (left : List Lexeme) (r : Taken A) (f : A × List Lexeme → Taken B) → r ≡ Err left → (r >>= f) ≡ Err left
end_passes left r f h = ap (λ q. q >>= f) h

-- what is taken and goes on as it is
pub as_it_is : {A : Type 0} (r : Taken A) → (r >>= λ x. Ok (x.0, x.1)) ≡ r
as_it_is (Ok x) = refl
as_it_is (Err left) = refl

pub goes : {X Y Z W : Type 0} (kept : X → Y → Type 0) (then : Z → W → Type 0) (x : X) (rest : Tokens) (result : Result (Z × Tokens) WrongToken) (whole : Taken W) (first : Taken Y) (f : Y × List Lexeme → Taken W) → whole ≡ (first >>= f) → Gives lexemes_left kept (Ok (x, rest)) first → ((y : Y) → kept x y → Gives lexemes_left then result (f (y, lexemes_left rest))) → Gives lexemes_left then result whole
goes kept then x rest result whole first f w h k =
    let there = found lexemes_left kept x rest first h in
    subst (Gives lexemes_left then result) (sym (w ∙ then_ok first there.0 (lexemes_left rest) f there.2)) (k there.0 there.1)

pub stops : {X Y Z W : Type 0} (kept : X → Y → Type 0) (then : Z → W → Type 0) (wrong : WrongToken) (result : Result (Z × Tokens) WrongToken) (whole : Taken W) (first : Taken Y) (f : Y × List Lexeme → Taken W) → whole ≡ (first >>= f) → Gives lexemes_left kept (Err wrong) first → IsErrAnd result (λ w. w ≡ wrong) → Gives lexemes_left then result whole
stops kept then wrong result whole first f w h e =
    hands_on lexemes_left then result wrong whole e (w ∙ end_passes (lexemes_left wrong.left) first f (refused lexemes_left kept wrong first h))

-- the same where nothing is kept of the first
pub goes_known : {Y Z W : Type 0} (then : Z → W → Type 0) (y : Y) (rest : Tokens) (result : Result (Z × Tokens) WrongToken) (whole : Taken W) (first : Taken Y) (f : Y × List Lexeme → Taken W) → whole ≡ (first >>= f) → first ≡ Ok (y, lexemes_left rest) → Gives lexemes_left then result (f (y, lexemes_left rest)) → Gives lexemes_left then result whole
goes_known then y rest result whole first f w h k = subst (Gives lexemes_left then result) (sym (w ∙ then_ok first y (lexemes_left rest) f h)) k

pub stops_known : {Y Z W : Type 0} (then : Z → W → Type 0) (wrong : WrongToken) (result : Result (Z × Tokens) WrongToken) (whole : Taken W) (first : Taken Y) (f : Y × List Lexeme → Taken W) → whole ≡ (first >>= f) → first ≡ Err (lexemes_left wrong.left) → IsErrAnd result (λ w. w ≡ wrong) → Gives lexemes_left then result whole
stops_known then wrong result whole first f w h e = hands_on lexemes_left then result wrong whole e (w ∙ end_passes (lexemes_left wrong.left) first f h)
