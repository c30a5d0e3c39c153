-- For the proofs alone, no definition of the grammar: plans of reading,
-- which tokens are taken one after another, by what comes next.
use Rattle.std.specs.Prelude.{◌≡◌, ℕ, zero, suc, ◌-◌, List, [], ◌∷◌, ◌++◌, Bool, true, Option}
use Rattle.std.specs.Prelude.{Some, None, Result, Ok, Err, length, drop, not, if◌then◌else◌}
use Rattle.kern_lexer.specs.Symbols.{Symbol, Lexeme}
use Rattle.kern_grammar.specs.Phrases.{symbols_of, ◌⨾◌}
use Rattle.kern_grammar.specs.Reading.{Read, choose}

-- what was taken and what follows it, or what is left from the first wrong token on
abbrev pub Taken : Type 0 → Type 0
Taken A = Result (A × List Lexeme) (List Lexeme)

abbrev pub Taker : Type 0 → Type 0
Taker A = List Lexeme → Taken A

infixl 10 ◌>>=◌
abbrev pub ◌>>=◌ : {A B : Type 0} → Taken A → (A × List Lexeme → Taken B) → Taken B
(Ok x) >>= f = f x
(Err left) >>= f = Err left

-- A plan: what is read is there; a token that is seen as something; a look at
-- the next token, which stays; a part that another taker reads; a last part
pub data Plan (A : Type 0) : Type 1 where
  done : A → Plan A
  token : {V : Type 0} → (view : Symbol → Option V) → (next : V → Plan A) → Plan A
  peek : (next : Lexeme → Plan A) → Plan A
  part : {X : Type 0} → (phrase stop : X → List Lexeme → Type 0) → (take : List Lexeme → Result (X × List Lexeme) (List Lexeme)) → (next : X → Plan A) → Plan A
  last : {X : Type 0} → (phrase stop : X → List Lexeme → Type 0) → (take : List Lexeme → Result (X × List Lexeme) (List Lexeme)) → (build : X → A) → Plan A

-- reading by a plan
abbrev pub run : {A : Type 0} → Plan A → Taker A
run (done a) tokens = Ok (a, tokens)
run (token view next) [] = Err []
run (token view next) (t ∷ rest) = choose (view t.symbol) (Err (t ∷ rest)) (λ v. run (next v) rest)
run (peek next) [] = Err []
run (peek next) (t ∷ rest) = run (next t) (t ∷ rest)
run (part phrase stop take next) tokens = do
  x ← take tokens
  run (next x.0) x.1
run (last phrase stop take build) tokens = do
  x ← take tokens
  Ok (build x.0, x.1)

-- a phrase before what follows it
pub record Split {X : Type 0} (First Next : X → List Lexeme → Type 0) (tokens : List Lexeme) : Type 0 where
  pub value : X
  pub front : List Lexeme
  pub back : List Lexeme
  pub whole : tokens ≡ front ++ back
  pub is_first : First value front
  pub is_next : Next value back

-- the token lists that a plan reads whole, with what they stand for
abbrev pub Spells : {A : Type 0} → Plan A → A → List Lexeme → Type 0
Spells (done a) b tokens = (a ≡ b) × (tokens ≡ [])
Spells (token view next) b [] = ⊥
Spells (token view next) b (t ∷ rest) = (v : _) × (view t.symbol ≡ Some v) × Spells (next v) b rest
Spells (peek next) b [] = ⊥
Spells (peek next) b (t ∷ rest) = Spells (next t) b (t ∷ rest)
Spells (part phrase stop take next) b tokens = Split phrase (λ x. Spells (next x) b) tokens
Spells (last phrase stop take build) b tokens = (x : _) × (build x ≡ b) × phrase x tokens

-- the symbols' reading as reading of tokens
abbrev pub of_symbols : {A : Type 0} → List Lexeme → Read A → Taken A
of_symbols tokens (Ok x) = Ok (x.0, drop (length tokens - length x.1) tokens)
of_symbols tokens (Err left) = Err (drop (length tokens - length left) tokens)

abbrev pub lifted : {A : Type 0} → (List Symbol → Read A) → Taker A
lifted read tokens = of_symbols tokens (read (symbols_of tokens))

-- as many items as begin with a symbol that passes a test, behind so many tokens that were taken before
abbrev pub many_behind : {X : Type 0} → (test : Symbol → Bool) → Taker X → ℕ → Taker (List X)
many_behind test take skip [] = Ok ([], [])
many_behind test take (suc skip) (t ∷ rest) = many_behind test take skip rest
many_behind test take zero (t ∷ rest) = if test t.symbol then (do
  x ← take (t ∷ rest)
  xs ← many_behind test take (length rest - length x.1) rest
  Ok (x.0 ∷ xs.0, xs.1)) else Ok ([], t ∷ rest)

-- as many items as begin with a symbol that passes a test
abbrev pub many : {X : Type 0} → (test : Symbol → Bool) → Taker X → Taker (List X)
many test take tokens = many_behind test take 0 tokens

-- items one after another
abbrev pub EachOf : {X : Type 0} → (X → List Lexeme → Type 0) → List X → List Lexeme → Type 0
EachOf phrase [] tokens = tokens ≡ []
EachOf phrase (x ∷ xs) tokens = (phrase x ⨾ EachOf phrase xs) tokens

-- no further item begins
abbrev pub ends_with : (test : Symbol → Bool) → List Lexeme → Bool
ends_with test [] = true
ends_with test (t ∷ rest) = not (test t.symbol)

-- what follows items goes on neither with the last one nor with another
abbrev pub EachEnds : {X : Type 0} → (stop : X → List Lexeme → Type 0) → (test : Symbol → Bool) → List X → List Lexeme → Type 0
EachEnds stop test [] rest = ends_with test rest ≡ true
EachEnds stop test (x ∷ []) rest = stop x rest × (ends_with test rest ≡ true)
EachEnds stop test (x ∷ y ∷ more) rest = EachEnds stop test (y ∷ more) rest

-- one item where a symbol passes the first test, none where it
-- passes neither, and a fault where it passes the second alone
abbrev pub maybe : {X : Type 0} → (test bar : Symbol → Bool) → Taker X → Taker (Option X)
maybe test bar take [] = Ok (None, [])
maybe test bar take (t ∷ rest) = if test t.symbol then (do
  x ← take (t ∷ rest)
  Ok (Some x.0, x.1)) else (if bar t.symbol then Err (t ∷ rest) else Ok (None, t ∷ rest))

-- an item or no tokens
abbrev pub MaybeOf : {X : Type 0} → (X → List Lexeme → Type 0) → Option X → List Lexeme → Type 0
MaybeOf phrase None tokens = tokens ≡ []
MaybeOf phrase (Some x) tokens = phrase x tokens

-- what follows goes on neither with the item nor, where there is none, with one that is barred
abbrev pub MaybeEnds : {X : Type 0} → (stop : X → List Lexeme → Type 0) → (test bar : Symbol → Bool) → Option X → List Lexeme → Type 0
MaybeEnds stop test bar None rest = (ends_with test rest ≡ true) × (ends_with bar rest ≡ true)
MaybeEnds stop test bar (Some x) rest = stop x rest
