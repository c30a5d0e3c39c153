-- Items that are read one after another in a loop.
use Rattle.std.proofs.Common.{◌≡◌, ◌-◌, ◌<◌, Bool, true, false, List, [], ◌∷◌, ◌++◌, map, refl, sym, ◌∙◌, ap, subst, arith, append-nil, append_assoc, length, length-append}
use Rattle.std.specs.Prelude.{Option, Some, Result, Ok, Err, IsErrAnd}
use Rattle.kern_lexer.specs.Symbols.{Symbol, Lexeme}
use Rattle.kern_grammar.specs.Plans.{Taken, Taker, ◌>>=◌, many_behind, many}
use Rattle.kern_expressions.specs.Given.{Gives}
use Rattle.kern_expressions.specs.Kept.{AddsItem, KeptAs}
use Rattle.kern_expressions.specs.TakenBy.{begins_with, lexemes_left}
use Rattle.kern_expressions.specs.declared.tokens.Tokens.{Tokens}
use Rattle.kern_expressions.specs.declared.tokens.WrongToken.{WrongToken}
use Rattle.kern_expressions.proofs.Exits.{found, given, hands_on, refused}
use Rattle.kern_expressions.proofs.Keeping.{keeps-more}
use Rattle.kern_statements.proofs.Going.{end_passes}
use Rattle.kern_grammar.proofs.Many.{BeginsWith, and_more, many-none, many-some, many-next}
use Rattle.kern_grammar.proofs.Taking.{Takes, err_same, ok_same, then_ok}
use Rattle.kern_statements.specs.Several.{one_behind, several}

-- the items that were read, put before those that are read behind them
abbrev pub with_first : {X : Type 0} → List X → Taken (List X) → Taken (List X)
with_first done taken = taken >>= λ xs. Ok (done ++ xs.0, xs.1)

-- items are told from what follows them, and each is some tokens
abbrev pub Begin : {X : Type 0} → (phrase : X → List Lexeme → Type 0) → (test : Symbol → Bool) → Type 0
Begin {X} phrase test = (x : X) (front : List Lexeme) → phrase x front → BeginsWith test front

-- nothing before what is taken
nothing_first : {X : Type 0} (taken : Taken (List X)) → with_first [] taken ≡ taken
nothing_first (Ok x) = refl
nothing_first (Err left) = refl

one_first : {X : Type 0} (done : List X) (x : X) (taken : Taken (List X)) → with_first done (and_more x taken) ≡ with_first (done ++ x ∷ []) taken
one_first done x (Ok y) = ap (λ xs. Ok (xs, y.1)) (sym (append_assoc done (x ∷ []) y.0))
one_first done x (Err left) = refl

-- tokens that begin with an item aren't empty
shorter_by : (test : Symbol → Bool) (front rest : List Lexeme) → BeginsWith test front → length rest < length (front ++ rest)
shorter_by test [] rest b = absurd b
shorter_by test (t ∷ front) rest b = omega (arith, length-append front rest)

-- an item that was taken, and the others behind it
many-taken : {X : Type 0} (phrase stop : X → List Lexeme → Type 0) (test : Symbol → Bool) (take : Taker X) → Takes phrase stop take → Begin phrase test → (tokens rest : List Lexeme) (x : X) → take tokens ≡ Ok (x, rest) → many test take tokens ≡ and_more x (many test take rest)
many-taken phrase stop test take takes begin tokens rest x h =
    let f = takes.found tokens x rest h in
    ap (many test take) f.whole ∙ many-next test take f.front rest x (begin x f.front f.is_phrase) (ap take (sym f.whole) ∙ h)

pub none_left : {X : Type 0} (test : Symbol → Bool) (take : Taker X) (tokens : List Lexeme) → begins_with test tokens ≡ false → many test take tokens ≡ Ok ([], tokens)
none_left test take [] h = refl
none_left test take (t ∷ rest) h = many-none test take t rest h

many_ends : {X : Type 0} (left : List Lexeme) (test : Symbol → Bool) (take : Taker X) (tokens : List Lexeme) → begins_with test tokens ≡ true → take tokens ≡ Err left → many test take tokens ≡ Err left
many_ends left test take [] h e = absurd cc
many_ends left test take (t ∷ rest) h e =
    many-some test take t rest h ∙ end_passes left (take (t ∷ rest)) (λ x. many_behind test take (length rest - length x.1) rest >>= λ xs. Ok (x.0 ∷ xs.0, xs.1)) e

-- what was kept of the items that were read, which with those that are read behind them make a whole
abbrev pub SoFar : {V Y : Type 0} → (view : V → List Y) → Option V → (test : Symbol → Bool) → Taker Y → List Lexeme → Taken (List Y) → Type 0
SoFar {V} {Y} view items test take rest whole = (done : List Y) × KeptAs view items done × (with_first done (many test take rest) ≡ whole)

-- at the start there are none
pub none-yet : {V Y : Type 0} (view : V → List Y) (v : V) (test : Symbol → Bool) (take : Taker Y) (tokens : List Lexeme) → view v ≡ [] → SoFar view (Some v) test take tokens (many test take tokens)
none-yet view v test take tokens h = ([], h, nothing_first (many test take tokens))

-- what is left behind an item is shorter
pub item_shorter : {X Z : Type 0} (kept : Z → X → Type 0) (phrase stop : X → List Lexeme → Type 0) (test : Symbol → Bool) (take : Taker X) → Takes phrase stop take → Begin phrase test → (tokens : List Lexeme) (z : Z) (rest : Tokens) → Gives lexemes_left kept (Ok (z, rest)) (take tokens) → length (lexemes_left rest) < length tokens
item_shorter kept phrase stop test take takes begin tokens z rest h =
    let x = found lexemes_left kept z rest (take tokens) h in
    let f = takes.found tokens x.0 (lexemes_left rest) x.2 in
    omega (arith, ap length f.whole, shorter_by test f.front (lexemes_left rest) (begin x.0 f.front f.is_phrase))

-- one more item
pub one-more : {V X Y Z : Type 0} (list : V → List X) (view : X → Y) (kept : Z → Y → Type 0) (phrase stop : Y → List Lexeme → Type 0) (test : Symbol → Bool) (take : Taker Y) → Takes phrase stop take → Begin phrase test → (items : Option V) (tokens : List Lexeme) (whole : Taken (List Y)) → SoFar (λ v. map view (list v)) items test take tokens whole → (z : Z) (rest : Tokens) → Gives lexemes_left kept (Ok (z, rest)) (take tokens) → (item : Option X) (after : Option V) → ((y : Y) → kept z y → KeptAs view item y) → AddsItem list items item after → SoFar (λ v. map view (list v)) after test take (lexemes_left rest) whole
one-more list view kept phrase stop test take takes begin items tokens whole so_far z rest h item after k a =
    let y = found lexemes_left kept z rest (take tokens) h in
    let more = many test take (lexemes_left rest) in
    (so_far.0 ++ y.0 ∷ [], keeps-more list view items item after so_far.0 y.0 a so_far.1 (k y.0 y.1), sym (one_first so_far.0 y.0 more) ∙ ap (with_first so_far.0) (sym (many-taken phrase stop test take takes begin tokens (lexemes_left rest) y.0 y.2)) ∙ so_far.2)

-- no more items
pub no-more : {V Y : Type 0} (view : V → List Y) (items : Option V) (test : Symbol → Bool) (take : Taker Y) (rest : Tokens) (whole : Taken (List Y)) → SoFar view items test take (lexemes_left rest) whole → begins_with test (lexemes_left rest) ≡ false → Gives lexemes_left (KeptAs view) (Ok (items, rest)) whole
no-more view items test take rest whole so_far h =
    given lexemes_left (KeptAs view) items rest whole so_far.0 so_far.1
    (sym so_far.2 ∙ ap (with_first so_far.0) (none_left test take (lexemes_left rest) h) ∙ ap (λ xs. Ok (xs, lexemes_left rest)) (append-nil so_far.0))

-- an item's end is that of the whole
pub item-ends : {V Y Z : Type 0} (view : V → List Y) (kept : Z → Y → Type 0) (items : Option V) (test : Symbol → Bool) (take : Taker Y) (tokens : List Lexeme) (whole : Taken (List Y)) → SoFar view items test take tokens whole → begins_with test tokens ≡ true → (wrong : WrongToken) (result : Result (Option V × Tokens) WrongToken) → Gives lexemes_left kept (Err wrong) (take tokens) → IsErrAnd result (λ w. w ≡ wrong) → Gives lexemes_left (KeptAs view) result whole
item-ends view kept items test take tokens whole so_far h wrong result e is =
    let left = lexemes_left wrong.left in
    hands_on lexemes_left (KeptAs view) result wrong whole is
    (sym so_far.2 ∙ end_passes left (many test take tokens) (λ xs. Ok (so_far.0 ++ xs.0, xs.1)) (many_ends left test take tokens h (refused lexemes_left kept wrong (take tokens) e)))

-- several items
several-by : {X : Type 0} (phrase stop : X → List Lexeme → Type 0) (test : Symbol → Bool) (take : Taker X) → Takes phrase stop take → Begin phrase test → (tokens : List Lexeme) → begins_with test tokens ≡ true → (r : Taken X) → take tokens ≡ r → many test take tokens ≡ (r >>= λ x. many test take x.1 >>= λ xs. Ok (x.0 ∷ xs.0, xs.1))
several-by phrase stop test take takes begin tokens b (Ok x) h = many-taken phrase stop test take takes begin tokens x.1 x.0 h
several-by phrase stop test take takes begin tokens b (Err left) h = many_ends left test take tokens b h

others_then : {X B : Type 0} (x : X) (more : Taken (List X)) (f : List X × List Lexeme → Taken B) → (more >>= λ xs. f (x ∷ xs.0, xs.1)) ≡ ((more >>= λ xs. Ok (x ∷ xs.0, xs.1)) >>= f)
others_then x (Ok xs) f = refl
others_then x (Err left) f = refl

several_then : {X B : Type 0} (test : Symbol → Bool) (take : Taker X) (r : Taken X) (f : List X × List Lexeme → Taken B) → (r >>= λ x. many test take x.1 >>= λ xs. f (x.0 ∷ xs.0, xs.1)) ≡ ((r >>= λ x. many test take x.1 >>= λ xs. Ok (x.0 ∷ xs.0, xs.1)) >>= f)
several_then test take (Ok x) f = others_then x.0 (many test take x.1) f
several_then test take (Err left) f = refl

-- what goes on behind several items goes on behind the first and the others
pub several-then : {X B : Type 0} (test : Symbol → Bool) (take : Taker X) (tokens : List Lexeme) (f : List X × List Lexeme → Taken B) → (take tokens >>= λ x. many test take x.1 >>= λ xs. f (x.0 ∷ xs.0, xs.1)) ≡ (several test take tokens >>= f)
several-then test take tokens f = several_then test take (take tokens) f

-- the same of several items
abbrev pub SeveralSoFar : {V Y : Type 0} → (view : V → List Y) → Option V → (test : Symbol → Bool) → Taker Y → List Lexeme → Taken (List Y) → Type 0
SeveralSoFar {V} {Y} view items test take rest whole = (done : List Y) × KeptAs view items done × (with_first done (several test take rest) ≡ whole)

pub none-yet-of-several : {V Y : Type 0} (view : V → List Y) (v : V) (test : Symbol → Bool) (take : Taker Y) (tokens : List Lexeme) → view v ≡ [] → SeveralSoFar view (Some v) test take tokens (several test take tokens)
none-yet-of-several view v test take tokens h = ([], h, nothing_first (several test take tokens))

-- an item is taken first
several-taken : {X : Type 0} (test : Symbol → Bool) (take : Taker X) (done : List X) (tokens rest : List Lexeme) (x : X) (whole : Taken (List X)) → with_first done (several test take tokens) ≡ whole → take tokens ≡ Ok (x, rest) → with_first (done ++ x ∷ []) (many test take rest) ≡ whole
several-taken test take done tokens rest x whole same h =
    sym (one_first done x (many test take rest))
    ∙ ap (with_first done) (sym (then_ok (take tokens) x rest (λ x. many test take x.1 >>= λ xs. Ok (x.0 ∷ xs.0, xs.1)) h))
    ∙ same

-- another item, before more of them
pub another-item : {V X Y : Type 0} (list : V → List X) (view : X → Y) (phrase stop : Y → List Lexeme → Type 0) (test : Symbol → Bool) (take : Taker Y) → Takes phrase stop take → Begin phrase test → (items : Option V) (tokens : List Lexeme) (whole : Taken (List Y)) → SeveralSoFar (λ v. map view (list v)) items test take tokens whole → (item : Option X) (rest : Tokens) → Gives lexemes_left (KeptAs view) (Ok (item, rest)) (take tokens) → (after : Option V) → AddsItem list items item after → begins_with test (lexemes_left rest) ≡ true → SeveralSoFar (λ v. map view (list v)) after test take (lexemes_left rest) whole
another-item list view phrase stop test take takes begin items tokens whole so_far item rest h after a b =
    let y = found lexemes_left (KeptAs view) item rest (take tokens) h in
    let left = lexemes_left rest in
    let more = several-by phrase stop test take takes begin left b (take left) refl in
    (so_far.0 ++ y.0 ∷ [], keeps-more list view items item after so_far.0 y.0 a so_far.1 y.1, ap (with_first (so_far.0 ++ y.0 ∷ [])) (sym more) ∙ several-taken test take so_far.0 tokens left y.0 whole so_far.2 y.2)

-- the last item
pub last-item : {V X Y : Type 0} (list : V → List X) (view : X → Y) (test : Symbol → Bool) (take : Taker Y) (items : Option V) (tokens : List Lexeme) (whole : Taken (List Y)) → SeveralSoFar (λ v. map view (list v)) items test take tokens whole → (item : Option X) (rest : Tokens) → Gives lexemes_left (KeptAs view) (Ok (item, rest)) (take tokens) → (after : Option V) → AddsItem list items item after → begins_with test (lexemes_left rest) ≡ false → Gives lexemes_left (KeptAs (λ v. map view (list v))) (Ok (after, rest)) whole
last-item list view test take items tokens whole so_far item rest h after a b =
    let y = found lexemes_left (KeptAs view) item rest (take tokens) h in
    let done = so_far.0 ++ y.0 ∷ [] in
    given lexemes_left (KeptAs (λ v. map view (list v))) after rest whole done (keeps-more list view items item after so_far.0 y.0 a so_far.1 y.1)
    (sym (several-taken test take so_far.0 tokens (lexemes_left rest) y.0 whole so_far.2 y.2) ∙ ap (with_first done) (none_left test take (lexemes_left rest) b) ∙ ap (λ xs. Ok (xs, lexemes_left rest)) (append-nil done))

-- an item that ends is the end of the whole
pub an-item-ends : {V X Y : Type 0} (list : V → List X) (view : X → Y) (test : Symbol → Bool) (take : Taker Y) (items : Option V) (tokens : List Lexeme) (whole : Taken (List Y)) → SeveralSoFar (λ v. map view (list v)) items test take tokens whole → (wrong : WrongToken) (result : Result (Option V × Tokens) WrongToken) → Gives lexemes_left (KeptAs view) (Err wrong) (take tokens) → IsErrAnd result (λ w. w ≡ wrong) → Gives lexemes_left (KeptAs (λ v. map view (list v))) result whole
an-item-ends list view test take items tokens whole so_far wrong result e is =
    let left = lexemes_left wrong.left in
    let first = end_passes left (take tokens) (λ x. many test take x.1 >>= λ xs. Ok (x.0 ∷ xs.0, xs.1)) (refused lexemes_left (KeptAs view) wrong (take tokens) e) in
    hands_on lexemes_left (KeptAs (λ v. map view (list v))) result wrong whole is (sym so_far.2 ∙ end_passes left (several test take tokens) (λ xs. Ok (so_far.0 ++ xs.0, xs.1)) first)

-- what one more item behind others tells of the item
behind-taken : {X : Type 0} (done : List X) (taken : Taken X) (ys : List X) (rest : List Lexeme) → one_behind done taken ≡ Ok (ys, rest) → (x : X) × (taken ≡ Ok (x, rest)) × (ys ≡ done ++ x ∷ [])
behind-taken done (Ok x) ys rest h =
    let both = ok_same (one_behind done (Ok x)) (done ++ x.0 ∷ [], x.1) (ys, rest) refl h in
    (x.0, ap (λ r. Ok (x.0, r)) (ap (λ p. p.1) both), sym (ap (λ p. p.0) both))
behind-taken done (Err left) ys rest h = let wrong : Err left ≡ Ok (ys, rest) = h in absurd cc

behind-refused : {X : Type 0} (done : List X) (taken : Taken X) (left : List Lexeme) → one_behind done taken ≡ Err left → taken ≡ Err left
behind-refused done (Ok x) left h = let wrong : Ok (done ++ x.0 ∷ [], x.1) ≡ Err left = h in absurd cc
behind-refused done (Err end) left h = ap (λ l. Err l) (err_same (one_behind done (Err end)) end left refl h)

-- the same three where the item is put behind the others as soon as it is read
pub another-behind : {V X Y : Type 0} (list : V → List X) (view : X → Y) (phrase stop : Y → List Lexeme → Type 0) (test : Symbol → Bool) (take : Taker Y) → Takes phrase stop take → Begin phrase test → (items : Option V) (tokens : List Lexeme) (whole : Taken (List Y)) (so_far : SeveralSoFar (λ v. map view (list v)) items test take tokens whole) → (after : Option V) (rest : Tokens) → Gives lexemes_left (KeptAs (λ v. map view (list v))) (Ok (after, rest)) (one_behind so_far.0 (take tokens)) → begins_with test (lexemes_left rest) ≡ true → SeveralSoFar (λ v. map view (list v)) after test take (lexemes_left rest) whole
another-behind list view phrase stop test take takes begin items tokens whole so_far after rest h b =
    let left = lexemes_left rest in
    let ys = found lexemes_left (KeptAs (λ v. map view (list v))) after rest (one_behind so_far.0 (take tokens)) h in
    let y = behind-taken so_far.0 (take tokens) ys.0 left ys.2 in
    let more = several-by phrase stop test take takes begin left b (take left) refl in
    (so_far.0 ++ y.0 ∷ [], subst (KeptAs (λ v. map view (list v)) after) y.2 ys.1, ap (with_first (so_far.0 ++ y.0 ∷ [])) (sym more) ∙ several-taken test take so_far.0 tokens left y.0 whole so_far.2 y.1)

pub last-behind : {V X Y : Type 0} (list : V → List X) (view : X → Y) (test : Symbol → Bool) (take : Taker Y) (items : Option V) (tokens : List Lexeme) (whole : Taken (List Y)) (so_far : SeveralSoFar (λ v. map view (list v)) items test take tokens whole) → (after : Option V) (rest : Tokens) → Gives lexemes_left (KeptAs (λ v. map view (list v))) (Ok (after, rest)) (one_behind so_far.0 (take tokens)) → begins_with test (lexemes_left rest) ≡ false → Gives lexemes_left (KeptAs (λ v. map view (list v))) (Ok (after, rest)) whole
last-behind list view test take items tokens whole so_far after rest h b =
    let ys = found lexemes_left (KeptAs (λ v. map view (list v))) after rest (one_behind so_far.0 (take tokens)) h in
    let y = behind-taken so_far.0 (take tokens) ys.0 (lexemes_left rest) ys.2 in
    let done = so_far.0 ++ y.0 ∷ [] in
    given lexemes_left (KeptAs (λ v. map view (list v))) after rest whole done (subst (KeptAs (λ v. map view (list v)) after) y.2 ys.1)
    (sym (several-taken test take so_far.0 tokens (lexemes_left rest) y.0 whole so_far.2 y.1) ∙ ap (with_first done) (none_left test take (lexemes_left rest) b) ∙ ap (λ xs. Ok (xs, lexemes_left rest)) (append-nil done))

pub behind-ends : {V X Y : Type 0} (list : V → List X) (view : X → Y) (test : Symbol → Bool) (take : Taker Y) (items : Option V) (tokens : List Lexeme) (whole : Taken (List Y)) (so_far : SeveralSoFar (λ v. map view (list v)) items test take tokens whole) → (wrong : WrongToken) (result : Result (Option V × Tokens) WrongToken) → Gives lexemes_left (KeptAs (λ v. map view (list v))) (Err wrong) (one_behind so_far.0 (take tokens)) → IsErrAnd result (λ w. w ≡ wrong) → Gives lexemes_left (KeptAs (λ v. map view (list v))) result whole
behind-ends list view test take items tokens whole so_far wrong result e is =
    let left = lexemes_left wrong.left in
    let one = behind-refused so_far.0 (take tokens) left (refused lexemes_left (KeptAs (λ v. map view (list v))) wrong (one_behind so_far.0 (take tokens)) e) in
    let first = end_passes left (take tokens) (λ x. many test take x.1 >>= λ xs. Ok (x.0 ∷ xs.0, xs.1)) one in
    hands_on lexemes_left (KeptAs (λ v. map view (list v))) result wrong whole is (sym so_far.2 ∙ end_passes left (several test take tokens) (λ xs. Ok (so_far.0 ++ xs.0, xs.1)) first)

pub behind_shorter : {V X Y : Type 0} (list : V → List X) (view : X → Y) (phrase stop : Y → List Lexeme → Type 0) (test : Symbol → Bool) (take : Taker Y) → Takes phrase stop take → Begin phrase test → (done : List Y) (tokens : List Lexeme) (after : Option V) (rest : Tokens) → Gives lexemes_left (KeptAs (λ v. map view (list v))) (Ok (after, rest)) (one_behind done (take tokens)) → length (lexemes_left rest) < length tokens
behind_shorter list view phrase stop test take takes begin done tokens after rest h =
    let ys = found lexemes_left (KeptAs (λ v. map view (list v))) after rest (one_behind done (take tokens)) h in
    let x = behind-taken done (take tokens) ys.0 (lexemes_left rest) ys.2 in
    let f = takes.found tokens x.0 (lexemes_left rest) x.1 in
    omega (arith, ap length f.whole, shorter_by test f.front (lexemes_left rest) (begin x.0 f.front f.is_phrase))
