-- What it means that a function takes phrases from the front of tokens, and that a plan does.
use Rattle.std.proofs.Common.{◌≡◌, Bool, true, false, List, [], ◌∷◌, ◌++◌, refl, sym, ◌∙◌, ap, subst, ◌⊎◌, inl, inr, append_assoc}
use Rattle.std.specs.Prelude.{Option, Some, None, Ok, Err}
use Rattle.kern_lexer.specs.Symbols.{Symbol, Lexeme}
use Rattle.kern_grammar.specs.Plans.{Taken, Taker, ◌>>=◌, Plan, done, token, peek, part, last, run, Spells}
use Rattle.kern_grammar.specs.Reading.{choose}

-- two lists begin with one token
abbrev pub SameFirst : List Lexeme → List Lexeme → Type 0
SameFirst [] b = ⊥
SameFirst (s ∷ a) [] = ⊥
SameFirst (s ∷ a) (t ∷ b) = s ≡ t

-- what was taken is a phrase, and what follows doesn't go on with it
pub record FoundBy {A : Type 0} (phrase stop : A → List Lexeme → Type 0) (given : List Lexeme) (x : A) (rest : List Lexeme) : Type 0 where
  pub front : List Lexeme
  pub whole : given ≡ front ++ rest
  pub is_phrase : phrase x front
  pub stopped : stop x rest

-- a fault: what stands before it can be completed to a phrase, and what follows its token doesn't matter
pub record FaultOf {A : Type 0} (phrase : A → List Lexeme → Type 0) (take : Taker A) (given left : List Lexeme) : Type 0 where
  pub before : List Lexeme
  pub completion : A
  pub more : List Lexeme
  pub whole : given ≡ before ++ left
  pub completed : phrase completion (before ++ more)
  pub same : (other : List Lexeme) → SameFirst left other → take (before ++ other) ≡ Err other

-- some phrase
pub record Somewhere {A : Type 0} (phrase : A → List Lexeme → Type 0) : Type 0 where
  pub value : A
  pub tokens : List Lexeme
  pub is_phrase : phrase value tokens

-- a function takes the phrases of a kind: exactly those that what follows doesn't go on with, or it stops at the first fault
pub record Takes {A : Type 0} (phrase stop : A → List Lexeme → Type 0) (take : Taker A) : Type 0 where
  pub complete : (x : A) (front rest : List Lexeme) → phrase x front → stop x rest → take (front ++ rest) ≡ Ok (x, rest)
  pub found : (given : List Lexeme) (x : A) (rest : List Lexeme) → take given ≡ Ok (x, rest) → FoundBy phrase stop given x rest
  pub fault : (given left : List Lexeme) → take given ≡ Err left → FaultOf phrase take given left
  pub some : Somewhere phrase
  pub alike : (x : A) (before left other : List Lexeme) → SameFirst left other → stop x (before ++ left) → stop x (before ++ other)

pub bind_ok : {A B : Type 0} (r : Taken A) (f : A × List Lexeme → Taken B) (y : B × List Lexeme) → (r >>= f) ≡ Ok y → (x : A × List Lexeme) × (r ≡ Ok x) × (f x ≡ Ok y)
bind_ok (Ok x) f y e = (x, refl, e)
bind_ok (Err left) f y e = absurd cc

-- a fault of the first step, or the first step and a fault of the second
pub bind_err : {A B : Type 0} (r : Taken A) (f : A × List Lexeme → Taken B) (left : List Lexeme) → (r >>= f) ≡ Err left → (r ≡ Err left) ⊎ ((x : A × List Lexeme) × (r ≡ Ok x) × (f x ≡ Err left))
bind_err (Ok x) f left e = inr (x, refl, e)
bind_err (Err l) f left e = inl cc

pub then_ok : {A B : Type 0} (r : Taken A) (x : A) (rest : List Lexeme) (f : A × List Lexeme → Taken B) → r ≡ Ok (x, rest) → (r >>= f) ≡ f (x, rest)
then_ok r x rest f h = ap (λ q. q >>= f) h

-- one answer is one value
pub ok_same : {A : Type 0} (r : Taken A) (x y : A × List Lexeme) → r ≡ Ok x → r ≡ Ok y → x ≡ y
ok_same r x y h g = let e : Ok x ≡ Ok y = sym h ∙ g in cc

pub err_same : {A : Type 0} (r : Taken A) (a b : List Lexeme) → r ≡ Err a → r ≡ Err b → a ≡ b
err_same r a b h g = let e : Err a ≡ Err b = sym h ∙ g in cc

-- an option is nothing or something
pub tells : {A : Type 0} (o : Option A) → (o ≡ None) ⊎ ((x : A) × (o ≡ Some x))
tells None = inl refl
tells (Some x) = inr (x, refl)

pub bool_tells : (b : Bool) → (b ≡ true) ⊎ (b ≡ false)
bool_tells true = inl refl
bool_tells false = inr refl

-- what a plan needs, to take what it spells
abbrev pub Ready : {A : Type 0} → (stop : A → List Lexeme → Type 0) → Plan A → Type 0
Ready stop (done a) = (rest : List Lexeme) → stop a rest
Ready stop (token {V} view next) = ((v : V) × (s : Symbol) × (view s ≡ Some v)) × ((v : V) → Ready stop (next v))
Ready {A} stop (peek next) = Somewhere (Spells (peek next)) × ((t : Lexeme) → Ready stop (next t) × ((b : A) → Spells (next t) b [] → ⊥))
Ready {A} stop (part {X} phrase own take next) =
    Takes phrase own take
    × ((x : X) (front : List Lexeme) → phrase x front → Ready stop (next x) × ((b : A) (back rest : List Lexeme) → Spells (next x) b back → stop b rest → own x (back ++ rest)))
Ready stop (last {X} phrase own take build) =
    Takes phrase own take
    × ((x : X) (rest : List Lexeme) → stop (build x) rest → own x rest)
    × ((x : X) (rest : List Lexeme) → own x rest → stop (build x) rest)

-- a plan can be completed
pub plan-some : {A : Type 0} (stop : A → List Lexeme → Type 0) (plan : Plan A) → Ready stop plan → Somewhere (Spells plan)
plan-some stop (done a) ready = record { value = a; tokens = []; is_phrase = (refl, refl) }
plan-some stop (token view next) ready =
    let v = ready.0 in
    let s = plan-some stop (next v.0) (ready.1 v.0) in
    record { value = s.value; tokens = record { symbol = v.1; line = 0 } ∷ s.tokens; is_phrase = (v.0, v.2, s.is_phrase) }
plan-some stop (peek next) ready = ready.0
plan-some stop (part phrase own take next) ready =
    let x = ready.0.some in
    let s = plan-some stop (next x.value) (ready.1 x.value x.tokens x.is_phrase).0 in
    record { value = s.value; tokens = x.tokens ++ s.tokens; is_phrase = record { value = x.value; front = x.tokens; back = s.tokens; whole = refl; is_first = x.is_phrase; is_next = s.is_phrase } }
plan-some stop (last phrase own take build) ready =
    let x = ready.0.some in record { value = build x.value; tokens = x.tokens; is_phrase = (x.value, refl, x.is_phrase) }

-- what a plan spells it reads
pub plan-complete : {A : Type 0} (stop : A → List Lexeme → Type 0) (plan : Plan A) → Ready stop plan → (b : A) (front rest : List Lexeme) → Spells plan b front → stop b rest → run plan (front ++ rest) ≡ Ok (b, rest)
plan-complete stop (done a) ready b front rest h s = ap (λ f. Ok (a, f ++ rest)) h.1 ∙ ap (λ y. Ok (y, rest)) h.0
plan-complete stop (token view next) ready b [] rest h s = absurd h
plan-complete stop (token view next) ready b (t ∷ front) rest h s =
    ap (λ o. choose o (Err (t ∷ (front ++ rest))) (λ v. run (next v) (front ++ rest))) h.1 ∙ plan-complete stop (next h.0) (ready.1 h.0) b front rest h.2 s
plan-complete stop (peek next) ready b [] rest h s = absurd h
plan-complete stop (peek next) ready b (t ∷ front) rest h s = plan-complete stop (next t) (ready.1 t).0 b (t ∷ front) rest h s
plan-complete stop (part phrase own take next) ready b front rest h s =
    let after = ready.1 h.value h.front h.is_first in
    let taken = ready.0.complete h.value h.front (h.back ++ rest) h.is_first (after.1 b h.back rest h.is_next s) in
    ap (run (part phrase own take next)) (ap (λ y. y ++ rest) h.whole ∙ append_assoc h.front h.back rest)
    ∙ then_ok (take (h.front ++ (h.back ++ rest))) h.value (h.back ++ rest) (λ x. run (next x.0) x.1) taken
    ∙ plan-complete stop (next h.value) after.0 b h.back rest h.is_next s
plan-complete stop (last phrase own take build) ready b front rest h s =
    let taken = ready.0.complete h.0 front rest h.2 (ready.1 h.0 rest (subst (λ y. stop y rest) (sym h.1) s)) in
    then_ok (take (front ++ rest)) h.0 rest (λ x. Ok (build x.0, x.1)) taken ∙ ap (λ y. Ok (y, rest)) h.1
