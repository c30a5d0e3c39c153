-- The plans of simple statements spell them: from the symbols to the plan.
use Rattle.std.proofs.Common.{◌≡◌, ℕ, true, false, List, [], ◌∷◌, ◌++◌, refl, sym, ◌∙◌, ap, subst, append_assoc}
use Rattle.kern_lexer.specs.Bytes.{Bytes}
use Rattle.kern_lexer.specs.Symbols.{Symbol, Lexeme, sign, number, newline}
use Rattle.kern_lexer.specs.declared.token.Sign.TheVariants as S
use Rattle.kern_syntax.specs.Grammatical.{PartsFit, Fits, EachIs, IsBracketedExpression}
use Rattle.kern_syntax.specs.Tree.{Expression, Statement, assign_repeated, assign_list}
use Rattle.kern_grammar.specs.Expressions.{expression_symbols, list_symbols, comma_before, in_brackets}
use Rattle.kern_grammar.specs.Phrases.{symbols_of, these, ◌⨾◌}
use Rattle.kern_grammar.specs.Plans.{Plan, done, token, peek, Spells, EachOf}
use Rattle.kern_grammar.specs.SimplePlans.{an_expression, end_line, comma_element, more_elements, array_end, assigned, repeated}
use Rattle.kern_grammar.specs.Views.{line_end, comma, a_number, open_bracket, close_bracket, star_or_end}
use Rattle.kern_grammar.proofs.Enclosed.{any_level}
use Rattle.kern_grammar.proofs.Firsts.{head}
use Rattle.kern_grammar.proofs.LiftedReads.{cut}
use Rattle.kern_grammar.proofs.Steps.{nothing, StartsWith, starts, step-token, step-expression, step-end}

-- an expression fits at the loosest level where its parts do
pub open-fits : (room : ℕ) (e : Expression) → PartsFit room e → Fits 11 room e
open-fits room e f = (any_level e, f)

-- the end of a line
pub into-end : {A : Type 0} (a : A) (after : List Lexeme → Type 0) → ((rest : List Lexeme) → after rest → rest ≡ []) → (tokens : List Lexeme) → (these (newline ∷ []) ⨾ after) tokens → Spells (end_line a) a tokens
into-end a after none tokens h =
    step-token line_end (λ seen. done a) a newline tt [] after refl (λ rest g. (refl, none rest (step-end rest after g))) tokens h

pub into-line : {A : Type 0} (a : A) (tokens : List Lexeme) → (these (newline ∷ []) ⨾ nothing) tokens → Spells (end_line a) a tokens
into-line a tokens h = into-end a nothing (λ rest e. e) tokens h

-- an expression and the end of the line
pub into-expression-end : {A : Type 0} (room : ℕ) (build : Expression → A) (e : Expression) → PartsFit room e → (tokens : List Lexeme) → (these (expression_symbols e ++ newline ∷ []) ⨾ nothing) tokens → Spells (an_expression room (λ e. end_line (build e))) (build e) tokens
into-expression-end room build e f tokens h =
    step-expression room (λ e. end_line (build e)) (build e) e (newline ∷ []) nothing (open-fits room e f) (λ rest g. into-line (build e) rest g) tokens h

-- the symbols of elements behind the first
abbrev pub further_symbols : List Expression → List Symbol
further_symbols [] = []
further_symbols (e ∷ es) = sign S.Comma ∷ (expression_symbols e ++ further_symbols es)

pub further : (es : List Expression) → comma_before (list_symbols es) ≡ further_symbols es
further [] = refl
further (e ∷ es) =
    let h = head e in
    let whole : list_symbols (e ∷ es) ≡ h.first ∷ (h.behind ++ comma_before (list_symbols es)) = ap (λ y. y ++ comma_before (list_symbols es)) h.is in
    ap comma_before whole ∙ ap (λ y. sign S.Comma ∷ y) (sym whole) ∙ ap (λ y. sign S.Comma ∷ (expression_symbols e ++ y)) (further es)

into-element : (e : Expression) → PartsFit 15 e → (tokens : List Lexeme) → symbols_of tokens ≡ sign S.Comma ∷ expression_symbols e → Spells comma_element e tokens
into-element e f [] h = absurd cc
into-element e f (t ∷ tokens) h =
    let is : t.symbol ≡ sign S.Comma = cc in
    let rest : symbols_of tokens ≡ expression_symbols e = cc in
    (tt, ap comma is, (e, refl, (rest, open-fits 15 e f)))

pub into-further : (es : List Expression) → EachIs IsBracketedExpression es → (tokens : List Lexeme) → symbols_of tokens ≡ further_symbols es → EachOf (Spells comma_element) es tokens
into-further [] f [] h = refl
into-further [] f (t ∷ tokens) h = absurd cc
into-further (e ∷ es) f tokens h =
    let c = cut tokens (sign S.Comma ∷ expression_symbols e) (further_symbols es) h in
    record { front = c.front; back = c.back; whole = c.whole; is_first = into-element e f.0 c.front c.of_front; is_second = into-further es f.1 c.back c.of_back }

-- elements and what is behind them
pub into-elements : {A : Type 0} (next : List Expression → Plan A) (b : A) (es : List Expression) (symbols : List Symbol) → EachIs IsBracketedExpression es → ((rest : List Lexeme) → (these symbols ⨾ nothing) rest → Spells (next es) b rest) → (tokens : List Lexeme) → (these (further_symbols es ++ symbols) ⨾ nothing) tokens → Spells (more_elements next) b tokens
into-elements next b es symbols f k tokens h =
    let c = cut h.front (further_symbols es) symbols h.is_first in
    record {
      value = es;
      front = c.front;
      back = c.back ++ h.back;
      whole = h.whole ∙ ap (λ y. y ++ h.back) c.whole ∙ append_assoc c.front c.back h.back;
      is_first = into-further es f c.front c.of_front;
      is_next = k (c.back ++ h.back) (record { front = c.back; back = h.back; whole = refl; is_first = c.of_back; is_second = h.is_second });
    }

-- a look at a first symbol
pub into-look : {A : Type 0} (plan : Symbol → Plan A) (b : A) (s : Symbol) (tokens : List Lexeme) → StartsWith s tokens → Spells (plan s) b tokens → Spells (peek (λ t. plan t.symbol)) b tokens
into-look plan b s [] w h = absurd w
into-look plan b s (t ∷ tokens) w h = subst (λ y. Spells (plan y) b (t ∷ tokens)) (sym w) h

-- an expression behind a look
pub starts-expression : (e : Expression) (symbols : List Symbol) (after : List Lexeme → Type 0) (tokens : List Lexeme) → (these (expression_symbols e ++ symbols) ⨾ after) tokens → StartsWith (head e).first tokens
starts-expression e symbols after tokens h =
    let f = head e in
    starts tokens f.first (f.behind ++ symbols) after (subst (λ y. (these (y ++ symbols) ⨾ after) tokens) f.is h)

-- an array
into-array-end : {A : Type 0} (build : Statement → A) (x : Bytes) (e : Expression) (es : List Expression) (tokens : List Lexeme) → (these (newline ∷ []) ⨾ nothing) tokens → Spells (array_end build x e es) (build (assign_list x (e ∷ es))) tokens
into-array-end build x e [] tokens h =
    step-token star_or_end (repeated build x e) (build (assign_list x (e ∷ []))) newline false [] nothing refl (λ rest g. (refl, step-end rest nothing g)) tokens h
into-array-end build x e (f ∷ more) tokens h = into-line (build (assign_list x (e ∷ f ∷ more))) tokens h

-- the shape of an array's symbols
pub list_shape : (e : Expression) (es : List Expression) → in_brackets (list_symbols (e ∷ es)) ++ newline ∷ [] ≡ sign S.OpenBracket ∷ (expression_symbols e ++ (further_symbols es ++ (sign S.CloseBracket ∷ newline ∷ [])))
list_shape e es =
    let inner : (list_symbols (e ∷ es) ++ sign S.CloseBracket ∷ []) ++ newline ∷ [] ≡ expression_symbols e ++ (further_symbols es ++ (sign S.CloseBracket ∷ newline ∷ [])) =
    append_assoc (list_symbols (e ∷ es)) (sign S.CloseBracket ∷ []) (newline ∷ [])
    ∙ append_assoc (expression_symbols e) (comma_before (list_symbols es)) (sign S.CloseBracket ∷ newline ∷ [])
    ∙ ap (λ y. expression_symbols e ++ (y ++ (sign S.CloseBracket ∷ newline ∷ []))) (further es) in
    ap (λ y. sign S.OpenBracket ∷ y) inner

pub into-list : {A : Type 0} (build : Statement → A) (x : Bytes) (e : Expression) (es : List Expression) → IsBracketedExpression e → EachIs IsBracketedExpression es → (tokens : List Lexeme) → (these (sign S.OpenBracket ∷ (expression_symbols e ++ (further_symbols es ++ (sign S.CloseBracket ∷ newline ∷ [])))) ⨾ nothing) tokens → Spells (assigned build x true) (build (assign_list x (e ∷ es))) tokens
into-list build x e es f fs tokens h =
    let b = build (assign_list x (e ∷ es)) in
    step-token open_bracket (λ seen. an_expression 15 (λ e. more_elements (λ more. token close_bracket (λ seen. array_end build x e more)))) b (sign S.OpenBracket) tt
    (expression_symbols e ++ (further_symbols es ++ (sign S.CloseBracket ∷ newline ∷ []))) nothing refl
    (λ r1 g1. step-expression 15 (λ e. more_elements (λ more. token close_bracket (λ seen. array_end build x e more))) b e (further_symbols es ++ (sign S.CloseBracket ∷ newline ∷ [])) nothing (open-fits 15 e f)
    (λ r2 g2. into-elements (λ more. token close_bracket (λ seen. array_end build x e more)) b es (sign S.CloseBracket ∷ newline ∷ []) fs
    (λ r3 g3. step-token close_bracket (λ seen. array_end build x e es) b (sign S.CloseBracket) tt (newline ∷ []) nothing refl (λ r4 g4. into-array-end build x e es r4 g4) r3 g3)
    r2 g2)
    r1 g1)
    tokens h

-- one element repeated
pub into-repeated : {A : Type 0} (build : Statement → A) (x : Bytes) (e : Expression) (n : ℕ) → IsBracketedExpression e → (tokens : List Lexeme) → (these (sign S.OpenBracket ∷ (expression_symbols e ++ (sign S.CloseBracket ∷ sign S.Star ∷ number n ∷ newline ∷ []))) ⨾ nothing) tokens → Spells (assigned build x true) (build (assign_repeated x e n)) tokens
into-repeated build x e n f tokens h =
    let b = build (assign_repeated x e n) in
    step-token open_bracket (λ seen. an_expression 15 (λ e. more_elements (λ more. token close_bracket (λ seen. array_end build x e more)))) b (sign S.OpenBracket) tt
    (expression_symbols e ++ (sign S.CloseBracket ∷ sign S.Star ∷ number n ∷ newline ∷ [])) nothing refl
    (λ r1 g1. step-expression 15 (λ e. more_elements (λ more. token close_bracket (λ seen. array_end build x e more))) b e (sign S.CloseBracket ∷ sign S.Star ∷ number n ∷ newline ∷ []) nothing (open-fits 15 e f)
    (λ r2 g2. into-elements (λ more. token close_bracket (λ seen. array_end build x e more)) b [] (sign S.CloseBracket ∷ sign S.Star ∷ number n ∷ newline ∷ []) tt
    (λ r3 g3. step-token close_bracket (λ seen. array_end build x e []) b (sign S.CloseBracket) tt (sign S.Star ∷ number n ∷ newline ∷ []) nothing refl
    (λ r4 g4. step-token star_or_end (repeated build x e) b (sign S.Star) true (number n ∷ newline ∷ []) nothing refl
    (λ r5 g5. step-token a_number (λ n. end_line (build (assign_repeated x e n))) b (number n) n (newline ∷ []) nothing refl (λ r6 g6. into-line b r6 g6) r5 g5)
    r4 g4)
    r3 g3)
    r2 g2)
    r1 g1)
    tokens h
