-- The plans of simple statements are ready to be read.
use Rattle.std.proofs.Common.{◌≡◌, ℕ, Bool, true, false, List, [], ◌∷◌, ◌++◌, refl, ◌∙◌, ap, subst, arith, append_assoc}
use Rattle.std.specs.Prelude.{Option, Some, None, not}
use Rattle.kern_lexer.specs.Bytes.{Bytes}
use Rattle.kern_lexer.specs.Symbols.{Symbol, Lexeme, sign, number, newline}
use Rattle.kern_lexer.specs.declared.token.Sign.TheVariants as S
use Rattle.kern_syntax.specs.declared.statement.Augment.TheVariants as A
use Rattle.kern_syntax.specs.Grammatical.{Fits}
use Rattle.kern_syntax.specs.Tree.{Expression, integer, Statement, pass, break, continue, return, evaluate, assign, assign_element, augment, augment_element, assign_repeated, assign_list}
use Rattle.kern_grammar.specs.Expressions.{expression_symbols}
use Rattle.kern_grammar.specs.Operators.{stops, stops_at, continues_at}
use Rattle.kern_grammar.specs.Phrases.{symbols_of}
use Rattle.kern_grammar.specs.Plans.{Plan, done, token, last, run, Spells, many, EachOf, ends_with, EachEnds}
use Rattle.kern_grammar.specs.Reading.{readers}
use Rattle.kern_grammar.specs.Simple.{simple_symbols}
use Rattle.kern_grammar.specs.SimplePlans.{expression_phrase, expression_stop, take_expression, an_expression, end_line, comma_element, is_comma, more_elements, repeated, array_end, assigned, deed_plan, by_expression, returned, word_line, simple_plan}
use Rattle.kern_grammar.specs.Views.{line_end, comma, open_bracket, close_bracket, is_seen, Opening, passes, breaks, continues, returns, ifs, whiles, fors, withs, tries, others, Place, to_name, to_element, place_of, Tail, ends, assigns, augments, tail_of, Deed, evaluates, assigns_to, augments_at, deed_of, deed}
use Rattle.kern_grammar.proofs.ArgumentFaults.{expressions_read}
use Rattle.kern_grammar.proofs.LiftedReads.{lifted-takes}
use Rattle.kern_grammar.proofs.Many.{BeginsWith}
use Rattle.kern_grammar.proofs.ManyReads.{many-takes}
use Rattle.kern_grammar.proofs.Phrased.{stops-same}
use Rattle.kern_grammar.proofs.PlanReads.{plan-takes}
use Rattle.kern_grammar.proofs.Seen.{line_end-is, comma-is, close_bracket-is, tail_symbol, tail_of-is}
use Rattle.kern_grammar.proofs.Taking.{Somewhere, Takes, Ready}

-- expressions are taken
pub takes-expression : (room : ℕ) → Takes (expression_phrase room) expression_stop (take_expression room)
takes-expression room =
    lifted-takes expression_symbols (Fits 11 room) (stops 11) (readers room 11) (expressions_read room 11) (stops-same 11) (integer 0) (omega arith, tt)

-- a view whose symbols don't go on with an expression
abbrev pub Stopping : {V : Type 0} → (Symbol → Option V) → Type 0
Stopping {V} view = (s : Symbol) (v : V) → view s ≡ Some v → stops_at 11 (continues_at s) ≡ true

pub follow-token : {A V : Type 0} (view : Symbol → Option V) (next : V → Plan A) → Stopping view → (b : A) (back rest : List Lexeme) → Spells (token view next) b back → stops 11 (symbols_of (back ++ rest)) ≡ true
follow-token view next stopping b [] rest h = absurd h
follow-token view next stopping b (t ∷ back) rest h = stopping t.symbol h.0 h.1

-- an expression before a token that doesn't go on with it
pub ready-expression : {A V : Type 0} (stop : A → List Lexeme → Type 0) (room : ℕ) (view : Expression → Symbol → Option V) (next : Expression → V → Plan A) → ((e : Expression) → Stopping (view e)) → ((e : Expression) → Ready stop (token (view e) (next e))) → Ready stop (an_expression room (λ e. token (view e) (next e)))
ready-expression stop room view next stopping ready =
    (takes-expression room, λ e front p. (ready e, λ b back rest h s. follow-token (view e) (next e) (stopping e) b back rest h))

-- a part before a token is some tokens
no-tokens : {A V : Type 0} (view : Symbol → Option V) (next : V → Plan A) (b : A) (front back : List Lexeme) → [] ≡ front ++ back → Spells (token view next) b back → ⊥
no-tokens view next b front [] w h = h
no-tokens view next b [] (t ∷ back) w h = cc
no-tokens view next b (u ∷ front) (t ∷ back) w h = cc

pub expression-moves : {A V : Type 0} (room : ℕ) (view : Expression → Symbol → Option V) (next : Expression → V → Plan A) (b : A) → Spells (an_expression room (λ e. token (view e) (next e))) b [] → ⊥
expression-moves room view next b h = no-tokens (view h.value) (next h.value) b h.front h.back h.whole h.is_next

line_end-stops : Stopping line_end
line_end-stops s v h = ap (λ y. stops_at 11 (continues_at y)) (line_end-is s v h)

-- the end of a line
pub ready-end : {A : Type 0} (stop : A → List Lexeme → Type 0) (a : A) → ((rest : List Lexeme) → stop a rest) → Ready stop (end_line a)
ready-end stop a free = ((tt, newline, refl), λ v. free)

ready-expression-end : {A : Type 0} (stop : A → List Lexeme → Type 0) (room : ℕ) (build : Expression → A) → ((e : Expression) (rest : List Lexeme) → stop (build e) rest) → Ready stop (an_expression room (λ e. end_line (build e)))
ready-expression-end stop room build free =
    ready-expression stop room (λ e. line_end) (λ e seen. done (build e)) (λ e. line_end-stops) (λ e. ready-end stop (build e) (free e))

-- the further elements of an array
comma-stops : Stopping comma
comma-stops s v h = ap (λ y. stops_at 11 (continues_at y)) (comma-is s v h)

pub begins-comma : (e : Expression) (front : List Lexeme) → Spells comma_element e front → BeginsWith is_comma front
begins-comma e [] h = absurd h
begins-comma e (t ∷ front) h = ap is_seen h.1

pub takes-element : Takes (Spells comma_element) expression_stop (run comma_element)
takes-element =
    plan-takes expression_stop comma_element ((tt, sign S.Comma, refl), λ v. (takes-expression 15, λ x rest s. s, λ x rest s. s)) (takes-expression 15).alike

pub takes-elements : Takes (EachOf (Spells comma_element)) (EachEnds expression_stop is_comma) (many is_comma (run comma_element))
takes-elements =
    let next = λ (seen : Unit {0}). let p : Plan Expression = last (expression_phrase 15) expression_stop (take_expression 15) (λ e. e) in p in
    many-takes (Spells comma_element) expression_stop is_comma (run comma_element)
    (record { begins = begins-comma; chains = λ x y front rest h. follow-token comma next comma-stops y front rest h })
    takes-element

-- what follows each of some items
pub each-ends : {X : Type 0} (stop : X → List Lexeme → Type 0) (test : Symbol → Bool) (xs : List X) (rest : List Lexeme) → ((x : X) → stop x rest) → ends_with test rest ≡ true → EachEnds stop test xs rest
each-ends stop test [] rest h e = e
each-ends stop test (x ∷ []) rest h e = (h x, e)
each-ends stop test (x ∷ y ∷ more) rest h e = each-ends stop test (y ∷ more) rest h e

close_bracket-stops : Stopping close_bracket
close_bracket-stops s v h = ap (λ y. stops_at 11 (continues_at y)) (close_bracket-is s v h)

behind-elements : {A : Type 0} (next : Unit {0} → Plan A) (es : List Expression) (b : A) (back rest : List Lexeme) → Spells (token close_bracket next) b back → EachEnds expression_stop is_comma es (back ++ rest)
behind-elements next es b [] rest h = absurd h
behind-elements next es b (t ∷ back) rest h =
    each-ends expression_stop is_comma es (t ∷ (back ++ rest)) (λ x. close_bracket-stops t.symbol h.0 h.1) (ap (λ y. not (is_comma y)) (close_bracket-is t.symbol h.0 h.1))

behind-first : {A : Type 0} (next : Unit {0} → Plan A) (es : List Expression) (b : A) (front back rest : List Lexeme) → EachOf (Spells comma_element) es front → Spells (token close_bracket next) b back → stops 11 (symbols_of ((front ++ back) ++ rest)) ≡ true
behind-first next [] b front back rest e h =
    ap (λ y. stops 11 (symbols_of ((y ++ back) ++ rest))) e ∙ follow-token close_bracket next close_bracket-stops b back rest h
behind-first next (x ∷ es) b front back rest e h =
    let later = λ (seen : Unit {0}). let p : Plan Expression = last (expression_phrase 15) expression_stop (take_expression 15) (λ e. e) in p in
    ap (λ y. stops 11 (symbols_of y)) (ap (λ y. (y ++ back) ++ rest) e.whole ∙ append_assoc (e.front ++ e.back) back rest ∙ append_assoc e.front e.back (back ++ rest))
    ∙ follow-token comma later comma-stops x e.front (e.back ++ (back ++ rest)) e.is_first

-- elements and the closing bracket
ready-elements : {A : Type 0} (stop : A → List Lexeme → Type 0) (next : Expression → List Expression → Unit {0} → Plan A) → ((e : Expression) (es : List Expression) → Ready stop (token close_bracket (next e es))) → Ready stop (an_expression 15 (λ e. more_elements (λ es. token close_bracket (next e es))))
ready-elements stop next ready = (
  takes-expression 15,
  λ e front p. (
    (takes-elements, λ es f q. (ready e es, λ b back rest h s. behind-elements (next e es) es b back rest h)),
    λ b back rest h s.
        ap (λ y. stops 11 (symbols_of (y ++ rest))) h.whole ∙ behind-first (next e h.value) h.value b h.front h.back rest h.is_first h.is_next,
  ),
)

-- simple statements leave open what follows them
abbrev pub Free : {A : Type 0} → (stop : A → List Lexeme → Type 0) → (Statement → A) → Type 0
Free stop build = (s : Statement) (symbols : List Symbol) → simple_symbols s ≡ Some symbols → (rest : List Lexeme) → stop (build s) rest

ready-repeated : {A : Type 0} (stop : A → List Lexeme → Type 0) (build : Statement → A) → Free stop build → (x : Bytes) (e : Expression) (b : Bool) → Ready stop (repeated build x e b)
ready-repeated stop build free x e true = ((0, number 0, refl), λ n. ready-end stop (build (assign_repeated x e n)) (free (assign_repeated x e n) _ refl))
ready-repeated stop build free x e false = free (assign_list x (e ∷ [])) _ refl

ready-array_end : {A : Type 0} (stop : A → List Lexeme → Type 0) (build : Statement → A) → Free stop build → (x : Bytes) (e : Expression) (es : List Expression) → Ready stop (array_end build x e es)
ready-array_end stop build free x e [] = ((false, newline, refl), ready-repeated stop build free x e)
ready-array_end stop build free x e (f ∷ more) = ready-end stop (build (assign_list x (e ∷ f ∷ more))) (free (assign_list x (e ∷ f ∷ more)) _ refl)

ready-assigned : {A : Type 0} (stop : A → List Lexeme → Type 0) (build : Statement → A) → Free stop build → (x : Bytes) (b : Bool) → Ready stop (assigned build x b) × ((a : A) → Spells (assigned build x b) a [] → ⊥)
ready-assigned stop build free x true =
    (((tt, sign S.OpenBracket, refl), λ v. ready-elements stop (λ e es seen. array_end build x e es) (λ e es. ((tt, sign S.CloseBracket, refl), λ v. ready-array_end stop build free x e es))), λ a h. h)
ready-assigned stop build free x false =
    (ready-expression-end stop 16 (λ e. build (assign x e)) (λ e. free (assign x e) _ refl), λ a h. expression-moves 16 (λ e. line_end) (λ e seen. done (build (assign x e))) a h)

some-assigned : {A : Type 0} (build : Statement → A) (x : Bytes) → Somewhere (Spells (deed_plan build (integer 0) (assigns_to (to_name x))))
some-assigned build x = record {
  value = build (assign x (integer 0));
  tokens = record { symbol = number 0; line = 0 } ∷ record { symbol = newline; line = 0 } ∷ [];
  is_phrase = record { value = integer 0; front = record { symbol = number 0; line = 0 } ∷ []; back = record { symbol = newline; line = 0 } ∷ []; whole = refl; is_first = (refl, (omega arith, tt)); is_next = (tt, refl, (refl, refl)) };
}

ready-deed : {A : Type 0} (stop : A → List Lexeme → Type 0) (build : Statement → A) → Free stop build → (e : Expression) (d : Deed) → Ready stop (deed_plan build e d)
ready-deed stop build free e evaluates = free (evaluate e) _ refl
ready-deed stop build free e (assigns_to (to_name x)) = (some-assigned build x, λ t. ready-assigned stop build free x (is_seen (open_bracket t.symbol)))
ready-deed stop build free e (assigns_to (to_element x i)) = ready-expression-end stop 16 (λ v. build (assign_element x i v)) (λ v. free (assign_element x i v) _ refl)
ready-deed stop build free e (augments_at (to_name x) op) = ready-expression-end stop 16 (λ v. build (augment x op v)) (λ v. free (augment x op v) _ refl)
ready-deed stop build free e (augments_at (to_element x i) op) = ready-expression-end stop 16 (λ v. build (augment_element x i op v)) (λ v. free (augment_element x i op v) _ refl)

-- what a deed says of the place and of the tail
abbrev pub DeedIs : Option Place → Option Tail → Deed → Type 0
DeedIs p o evaluates = o ≡ Some ends
DeedIs p o (assigns_to q) = (o ≡ Some assigns) × (p ≡ Some q)
DeedIs p o (augments_at q op) = (o ≡ Some (augments op)) × (p ≡ Some q)

some_deed : (a b : Deed) → Some a ≡ Some b → a ≡ b
some_deed a b e = cc

pub deed-is : (p : Option Place) (o : Option Tail) (d : Deed) → deed_of p o ≡ Some d → DeedIs p o d
deed-is p None d h = absurd (let e : None ≡ Some d = h in cc)
deed-is p (Some ends) d h = subst (DeedIs p (Some ends)) (some_deed evaluates d h) refl
deed-is None (Some assigns) d h = absurd cc
deed-is None (Some (augments op)) d h = absurd cc
deed-is (Some q) (Some assigns) d h = subst (DeedIs (Some q) (Some assigns)) (some_deed (assigns_to q) d h) (refl, refl)
deed-is (Some q) (Some (augments op)) d h = subst (DeedIs (Some q) (Some (augments op))) (some_deed (augments_at q op) d h) (refl, refl)

tail-stops : (t : Tail) → stops_at 11 (continues_at (tail_symbol t)) ≡ true
tail-stops ends = refl
tail-stops assigns = refl
tail-stops (augments A.Add) = refl
tail-stops (augments A.Subtract) = refl

tail-seen : (s : Symbol) (t : Tail) → tail_of s ≡ Some t → stops_at 11 (continues_at s) ≡ true
tail-seen s t h = ap (λ y. stops_at 11 (continues_at y)) (tail_of-is s t h) ∙ tail-stops t

deed-stops : (e : Expression) → Stopping (deed e)
deed-stops e s evaluates h = tail-seen s ends (deed-is (place_of e) (tail_of s) evaluates h)
deed-stops e s (assigns_to q) h = tail-seen s assigns (deed-is (place_of e) (tail_of s) (assigns_to q) h).0
deed-stops e s (augments_at q op) h = tail-seen s (augments op) (deed-is (place_of e) (tail_of s) (augments_at q op) h).0

ready-by_expression : {A : Type 0} (stop : A → List Lexeme → Type 0) (build : Statement → A) → Free stop build → Ready stop (by_expression build)
ready-by_expression stop build free =
    ready-expression stop 16 deed (deed_plan build) deed-stops (λ e. ((evaluates, newline, refl), ready-deed stop build free e))

ready-returned : {A : Type 0} (stop : A → List Lexeme → Type 0) (build : Statement → A) → Free stop build → (b : Bool) → Ready stop (returned build b) × ((a : A) → Spells (returned build b) a [] → ⊥)
ready-returned stop build free true = (ready-end stop (build (return None)) (free (return None) _ refl), λ a h. h)
ready-returned stop build free false =
    (ready-expression-end stop 16 (λ e. build (return (Some e))) (λ e. free (return (Some e)) _ refl), λ a h. expression-moves 16 (λ e. line_end) (λ e seen. done (build (return (Some e)))) a h)

ready-word : {A : Type 0} (stop : A → List Lexeme → Type 0) (a : A) → ((rest : List Lexeme) → stop a rest) → Ready stop (word_line a)
ready-word stop a free = ((tt, newline, refl), λ v. ready-end stop a free)

-- what is needed of a plan that stands behind a look
abbrev pub Behind : {A : Type 0} → (stop : A → List Lexeme → Type 0) → Plan A → Type 0
Behind {A} stop plan = Ready stop plan × ((b : A) → Spells plan b [] → ⊥)

behind-expression : {A : Type 0} (stop : A → List Lexeme → Type 0) (build : Statement → A) → Free stop build → Behind stop (by_expression build)
behind-expression stop build free = (ready-by_expression stop build free, λ b h. expression-moves 16 deed (deed_plan build) b h)

-- a simple statement
pub ready-simple : {A : Type 0} (stop : A → List Lexeme → Type 0) (build : Statement → A) → Free stop build → (o : Opening) → Behind stop (simple_plan build o)
ready-simple stop build free passes = (ready-word stop (build pass) (free pass _ refl), λ b h. h)
ready-simple stop build free breaks = (ready-word stop (build break) (free break _ refl), λ b h. h)
ready-simple stop build free continues = (ready-word stop (build continue) (free continue _ refl), λ b h. h)
ready-simple stop build free returns =
    (((tt, newline, refl), λ v. (record { value = build (return None); tokens = record { symbol = newline; line = 0 } ∷ []; is_phrase = (tt, refl, (refl, refl)) }, λ t. ready-returned stop build free (is_seen (line_end t.symbol)))), λ b h. h)
ready-simple stop build free ifs = behind-expression stop build free
ready-simple stop build free whiles = behind-expression stop build free
ready-simple stop build free fors = behind-expression stop build free
ready-simple stop build free withs = behind-expression stop build free
ready-simple stop build free tries = behind-expression stop build free
ready-simple stop build free others = behind-expression stop build free
