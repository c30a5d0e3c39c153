-- Items one after another are taken, where each is.
use Rattle.std.proofs.Common.{◌≡◌, ℕ, zero, suc, ◌-◌, Bool, true, false, cond, List, [], ◌∷◌, ◌++◌, refl, sym, ◌∙◌, ap, subst, arith, append_assoc, length, length-append, drop}
use Rattle.std.proofs.Math.Seq.{drop-append_seam}
use Rattle.std.specs.Prelude.{Ok, not}
use Rattle.kern_lexer.specs.Symbols.{Symbol, Lexeme}
use Rattle.kern_grammar.specs.Plans.{Taken, Taker, ◌>>=◌, many_behind, many, EachOf, ends_with, EachEnds}
use Rattle.kern_grammar.proofs.Taking.{Takes, then_ok}

-- tokens that begin with a symbol that passes a test
abbrev pub BeginsWith : (test : Symbol → Bool) → List Lexeme → Type 0
BeginsWith test [] = ⊥
BeginsWith test (t ∷ rest) = test t.symbol ≡ true

-- what items need, to be told from what follows them
pub record IsItem {X : Type 0} (phrase stop : X → List Lexeme → Type 0) (test : Symbol → Bool) : Type 0 where
  pub begins : (x : X) (front : List Lexeme) → phrase x front → BeginsWith test front
  pub chains : (x y : X) (front rest : List Lexeme) → phrase y front → stop x (front ++ rest)

-- tokens that were taken before are left out
pub many-behind : {X : Type 0} (test : Symbol → Bool) (take : Taker X) (skip : ℕ) (tokens : List Lexeme) → many_behind test take skip tokens ≡ many test take (drop skip tokens)
many-behind test take zero [] = refl
many-behind test take zero (t ∷ ts) = refl
many-behind test take (suc skip) [] = refl
many-behind test take (suc skip) (t ∷ ts) = many-behind test take skip ts

-- an item more
abbrev pub and_more : {X : Type 0} → X → Taken (List X) → Taken (List X)
and_more x more = more >>= λ xs. Ok (x ∷ xs.0, xs.1)

-- where the test fails nothing is taken
pub many-none : {X : Type 0} (test : Symbol → Bool) (take : Taker X) (t : Lexeme) (ts : List Lexeme) → test t.symbol ≡ false → many test take (t ∷ ts) ≡ Ok ([], t ∷ ts)
many-none test take t ts fails =
    ap (λ c. cond c (take (t ∷ ts) >>= λ x. many_behind test take (length ts - length x.1) ts >>= λ xs. Ok (x.0 ∷ xs.0, xs.1)) (Ok ([], t ∷ ts))) fails

-- where it passes an item is taken first
pub many-some : {X : Type 0} (test : Symbol → Bool) (take : Taker X) (t : Lexeme) (ts : List Lexeme) → test t.symbol ≡ true → many test take (t ∷ ts) ≡ (take (t ∷ ts) >>= λ x. many_behind test take (length ts - length x.1) ts >>= λ xs. Ok (x.0 ∷ xs.0, xs.1))
many-some test take t ts holds =
    ap (λ c. cond c (take (t ∷ ts) >>= λ x. many_behind test take (length ts - length x.1) ts >>= λ xs. Ok (x.0 ∷ xs.0, xs.1)) (Ok ([], t ∷ ts))) holds

-- an item that was taken, and the others behind it
pub many-then : {X : Type 0} (test : Symbol → Bool) (take : Taker X) (t : Lexeme) (front rest : List Lexeme) (x : X) → test t.symbol ≡ true → take (t ∷ (front ++ rest)) ≡ Ok (x, rest) → many test take (t ∷ (front ++ rest)) ≡ and_more x (many test take rest)
many-then test take t front rest x holds h =
    let count : length (front ++ rest) - length rest ≡ length front = omega (arith, length-append front rest) in
    many-some test take t (front ++ rest) holds
    ∙ then_ok (take (t ∷ (front ++ rest))) x rest (λ x. many_behind test take (length (front ++ rest) - length x.1) (front ++ rest) >>= λ xs. Ok (x.0 ∷ xs.0, xs.1)) h
    ∙ ap (λ k. and_more x (many_behind test take k (front ++ rest))) count
    ∙ ap (and_more x) (many-behind test take (length front) (front ++ rest) ∙ ap (many test take) (drop-append_seam front rest))

-- the same for any item that begins as items do
pub many-next : {X : Type 0} (test : Symbol → Bool) (take : Taker X) (front rest : List Lexeme) (x : X) → BeginsWith test front → take (front ++ rest) ≡ Ok (x, rest) → many test take (front ++ rest) ≡ and_more x (many test take rest)
many-next test take [] rest x b h = absurd b
many-next test take (t ∷ front) rest x b h = many-then test take t front rest x b h

-- what stops an item before others
stop-before : {X : Type 0} (phrase stop : X → List Lexeme → Type 0) (test : Symbol → Bool) → IsItem phrase stop test → (x : X) (xs : List X) (back rest : List Lexeme) → EachOf phrase xs back → EachEnds stop test (x ∷ xs) rest → stop x (back ++ rest)
stop-before phrase stop test item x [] back rest e s = subst (λ y. stop x (y ++ rest)) (sym e) s.0
stop-before phrase stop test item x (y ∷ ys) back rest e s =
    subst (λ b. stop x b) (sym (ap (λ b. b ++ rest) e.whole ∙ append_assoc e.front e.back rest)) (item.chains x y e.front (e.back ++ rest) e.is_first)

ends-rest : {X : Type 0} (stop : X → List Lexeme → Type 0) (test : Symbol → Bool) (x : X) (xs : List X) (rest : List Lexeme) → EachEnds stop test (x ∷ xs) rest → EachEnds stop test xs rest
ends-rest stop test x [] rest s = s.1
ends-rest stop test x (y ∷ ys) rest s = s

pub not-true : (b : Bool) → not b ≡ true → b ≡ false
not-true true h = absurd cc
not-true false h = refl

none-left : {X : Type 0} (test : Symbol → Bool) (take : Taker X) (rest : List Lexeme) → ends_with test rest ≡ true → many test take rest ≡ Ok ([], rest)
none-left test take [] h = refl
none-left test take (t ∷ ts) h = many-none test take t ts (not-true (test t.symbol) h)

pub many-complete : {X : Type 0} (phrase stop : X → List Lexeme → Type 0) (test : Symbol → Bool) (take : Taker X) → IsItem phrase stop test → Takes phrase stop take → (xs : List X) (front rest : List Lexeme) → EachOf phrase xs front → EachEnds stop test xs rest → many test take (front ++ rest) ≡ Ok (xs, rest)
many-complete phrase stop test take item takes [] front rest e s =
    ap (λ y. many test take (y ++ rest)) e ∙ none-left test take rest s
many-complete phrase stop test take item takes (x ∷ xs) front rest e s =
    let taken = takes.complete x e.front (e.back ++ rest) e.is_first (stop-before phrase stop test item x xs e.back rest e.is_second s) in
    ap (many test take) (ap (λ b. b ++ rest) e.whole ∙ append_assoc e.front e.back rest)
    ∙ many-next test take e.front (e.back ++ rest) x (item.begins x e.front e.is_first) taken
    ∙ ap (and_more x) (many-complete phrase stop test take item takes xs e.back rest e.is_second (ends-rest stop test x xs rest s))
