-- What the plan of simple statements spells is a simple statement's tokens.
use Rattle.std.proofs.Common.{◌≡◌, ℕ, Bool, true, false, List, [], ◌∷◌, ◌++◌, refl, sym, ◌∙◌, ap, subst, arith, append_assoc, length}
use Rattle.std.proofs.lemmas.Bool.{lt-ltb}
use Rattle.std.specs.Prelude.{Some, None}
use Rattle.kern_lexer.specs.Symbols.{Symbol, Lexeme, key, sign, name, number, newline}
use Rattle.kern_lexer.specs.declared.token.Key.TheVariants as K
use Rattle.kern_lexer.specs.declared.token.Sign.TheVariants as S
use Rattle.kern_syntax.specs.Grammatical.{PartsFit, EachIs, IsBracketedExpression, IsStatement}
use Rattle.kern_syntax.specs.Tree.{Expression, element, Statement, pass, break, continue, return, evaluate, assign, assign_element, augment, augment_element, assign_repeated, assign_list}
use Rattle.kern_grammar.specs.Expressions.{expression_symbols}
use Rattle.kern_grammar.specs.Phrases.{symbols_of, with_newline, simple_line}
use Rattle.kern_grammar.specs.Plans.{peek, Spells, EachOf}
use Rattle.kern_grammar.specs.Simple.{augment_sign, simple_symbols}
use Rattle.kern_grammar.specs.SimplePlans.{an_expression, end_line, comma_element, array_end, repeated, assigned, deed_plan, by_expression, returned, word_line, simple_plan}
use Rattle.kern_grammar.specs.Views.{line_end, open_bracket, close_bracket, is_seen, Opening, passes, breaks, continues, returns, ifs, whiles, fors, withs, tries, others, to_name, to_element, place_of, tail_of, Deed, evaluates, assigns_to, augments_at, deed}
use Rattle.kern_grammar.proofs.LiftedReads.{symbols-append}
use Rattle.kern_grammar.proofs.Seen.{line_end-is, comma-is, open_bracket-is, close_bracket-is, star_or_end-is, star_or_end_symbol, a_number-is, OpeningIs, place_of-is, tail_of-is}
use Rattle.kern_grammar.proofs.SimpleReady.{DeedIs, deed-is}
use Rattle.kern_grammar.proofs.SimpleSpells.{further_symbols, list_shape}
use Rattle.kern_grammar.proofs.Steps.{token-then}

-- a simple statement that was spelled
pub record SimpleFrom {A : Type 0} (build : Statement → A) (b : A) (tokens : List Lexeme) : Type 0 where
  pub statement : Statement
  pub is : build statement ≡ b
  pub spelled : simple_line statement tokens
  pub fits : (room : ℕ) → IsStatement room statement

-- the end of a line
pub end-from : {A : Type 0} (a b : A) (tokens : List Lexeme) → Spells (end_line a) b tokens → (a ≡ b) × (symbols_of tokens ≡ newline ∷ [])
end-from a b [] h = absurd h
end-from a b (t ∷ rest) h =
    let none : symbols_of rest ≡ [] = ap symbols_of h.2.1 in
    (h.2.0, ap (λ y. y ∷ symbols_of rest) (line_end-is t.symbol h.0 h.1) ∙ ap (λ y. newline ∷ y) none)

-- an expression and the end of the line
pub record ExpressionFrom {A : Type 0} (room : ℕ) (build : Expression → A) (b : A) (tokens : List Lexeme) : Type 0 where
  pub value : Expression
  pub is : build value ≡ b
  pub spelled : symbols_of tokens ≡ expression_symbols value ++ newline ∷ []
  pub fits : PartsFit room value

pub split-symbols : (tokens front back : List Lexeme) (a b : List Symbol) → tokens ≡ front ++ back → symbols_of front ≡ a → symbols_of back ≡ b → symbols_of tokens ≡ a ++ b
split-symbols tokens front back a b w h g = ap symbols_of w ∙ symbols-append front back ∙ ap (λ y. y ++ symbols_of back) h ∙ ap (λ y. a ++ y) g

pub expression-end-from : {A : Type 0} (room : ℕ) (build : Expression → A) (b : A) (tokens : List Lexeme) → Spells (an_expression room (λ e. end_line (build e))) b tokens → ExpressionFrom room build b tokens
expression-end-from room build b tokens h =
    let e = end-from (build h.value) b h.back h.is_next in
    record { value = h.value; is = e.0; spelled = split-symbols tokens h.front h.back (expression_symbols h.value) (newline ∷ []) h.whole h.is_first.0 e.1; fits = h.is_first.1.1 }

pub token-symbols : (tokens : List Lexeme) (t : Lexeme) (rest : List Lexeme) (s : Symbol) (symbols : List Symbol) → tokens ≡ t ∷ rest → t.symbol ≡ s → symbols_of rest ≡ symbols → symbols_of tokens ≡ s ∷ symbols
token-symbols tokens t rest s symbols w e g = ap symbols_of w ∙ ap (λ y. y ∷ symbols_of rest) e ∙ ap (λ y. s ∷ y) g

-- elements behind the first
pub record FurtherFrom (es : List Expression) (tokens : List Lexeme) : Type 0 where
  pub spelled : symbols_of tokens ≡ further_symbols es
  pub fits : EachIs IsBracketedExpression es

element-from : (e : Expression) (tokens : List Lexeme) → Spells comma_element e tokens → (symbols_of tokens ≡ sign S.Comma ∷ expression_symbols e) × PartsFit 15 e
element-from e [] h = absurd h
element-from e (t ∷ rest) h =
    let same : h.2.0 ≡ e = h.2.1 in
    (ap (λ y. y ∷ symbols_of rest) (comma-is t.symbol h.0 h.1) ∙ ap (λ y. sign S.Comma ∷ y) (h.2.2.0 ∙ ap expression_symbols same), subst (PartsFit 15) same h.2.2.1.1)

further-from : (es : List Expression) (tokens : List Lexeme) → EachOf (Spells comma_element) es tokens → FurtherFrom es tokens
further-from [] tokens h = record { spelled = ap symbols_of h; fits = tt }
further-from (e ∷ es) tokens h =
    let first = element-from e h.front h.is_first in
    let others = further-from es h.back h.is_second in
    record { spelled = split-symbols tokens h.front h.back (sign S.Comma ∷ expression_symbols e) (further_symbols es) h.whole first.0 others.spelled; fits = (first.1, others.fits) }

-- what is assigned to a name
pub record ValueFrom {A : Type 0} (build : Statement → A) (x : List ℕ) (b : A) (tokens : List Lexeme) : Type 0 where
  pub statement : Statement
  pub symbols : List Symbol
  pub is : build statement ≡ b
  pub is_simple : simple_symbols statement ≡ Some (name x ∷ sign S.Assign ∷ symbols)
  pub spelled : symbols_of tokens ≡ symbols ++ newline ∷ []
  pub fits : (room : ℕ) → IsStatement room statement

-- the end of an array: its length or nothing
pub record ArrayEnd {A : Type 0} (build : Statement → A) (x : List ℕ) (e : Expression) (es : List Expression) (b : A) (tokens : List Lexeme) : Type 0 where
  pub statement : Statement
  pub symbols : List Symbol
  pub behind : List Symbol
  pub is : build statement ≡ b
  pub is_simple : simple_symbols statement ≡ Some (name x ∷ sign S.Assign ∷ symbols)
  pub shape : symbols ++ newline ∷ [] ≡ sign S.OpenBracket ∷ (expression_symbols e ++ (further_symbols es ++ (sign S.CloseBracket ∷ behind)))
  pub spelled : symbols_of tokens ≡ behind
  pub fits : (room : ℕ) → PartsFit 15 e → EachIs IsBracketedExpression es → IsStatement room statement

list_end : {A : Type 0} (build : Statement → A) (x : List ℕ) (e : Expression) (es : List Expression) (b : A) (tokens : List Lexeme) → build (assign_list x (e ∷ es)) ≡ b → symbols_of tokens ≡ newline ∷ [] → ArrayEnd build x e es b tokens
list_end build x e es b tokens h g = record {
  statement = assign_list x (e ∷ es);
  symbols = _;
  behind = newline ∷ [];
  is = h;
  is_simple = refl;
  shape = list_shape e es;
  spelled = g;
  fits = λ room f fs. (lt-ltb 0 (length (e ∷ es)) (omega arith), (f, fs));
}

length_end : {A : Type 0} (build : Statement → A) (x : List ℕ) (e : Expression) (n : ℕ) (b : A) (tokens : List Lexeme) → build (assign_repeated x e n) ≡ b → symbols_of tokens ≡ sign S.Star ∷ number n ∷ newline ∷ [] → ArrayEnd build x e [] b tokens
length_end build x e n b tokens h g = record {
  statement = assign_repeated x e n;
  symbols = _;
  behind = sign S.Star ∷ number n ∷ newline ∷ [];
  is = h;
  is_simple = refl;
  shape =
      ap (λ y. sign S.OpenBracket ∷ (y ++ newline ∷ [])) (append_assoc (expression_symbols e) (sign S.CloseBracket ∷ []) (sign S.Star ∷ number n ∷ []))
      ∙ ap (λ y. sign S.OpenBracket ∷ y) (append_assoc (expression_symbols e) (sign S.CloseBracket ∷ sign S.Star ∷ number n ∷ []) (newline ∷ []));
  spelled = g;
  fits = λ room f fs. f;
}

repeated-from : {A : Type 0} (build : Statement → A) (x : List ℕ) (e : Expression) (has_length : Bool) (b : A) (t : Lexeme) (rest : List Lexeme) → t.symbol ≡ star_or_end_symbol has_length → Spells (repeated build x e has_length) b rest → ArrayEnd build x e [] b (t ∷ rest)
repeated-from build x e true b t [] s h = absurd h
repeated-from build x e true b t (u ∷ rest) s h =
    let end = end-from (build (assign_repeated x e h.0)) b rest h.2 in
    let n = a_number-is u.symbol h.0 h.1 in
    length_end build x e h.0 b (t ∷ u ∷ rest) end.0
    (ap (λ y. y ∷ u.symbol ∷ symbols_of rest) s ∙ ap (λ y. sign S.Star ∷ y ∷ symbols_of rest) n ∙ ap (λ y. sign S.Star ∷ number h.0 ∷ y) end.1)
repeated-from build x e false b t rest s h =
    list_end build x e [] b (t ∷ rest) h.0 (ap (λ y. y ∷ symbols_of rest) s ∙ ap (λ y. newline ∷ y) (ap symbols_of h.1))

array-end-from : {A : Type 0} (build : Statement → A) (x : List ℕ) (e : Expression) (es : List Expression) (b : A) (tokens : List Lexeme) → Spells (array_end build x e es) b tokens → ArrayEnd build x e es b tokens
array-end-from build x e [] b [] h = absurd h
array-end-from build x e [] b (t ∷ rest) h = repeated-from build x e h.0 b t rest (star_or_end-is t.symbol h.0 h.1) h.2
array-end-from build x e (f ∷ more) b tokens h =
    let end = end-from (build (assign_list x (e ∷ f ∷ more))) b tokens h in list_end build x e (f ∷ more) b tokens end.0 end.1

assigned-from : {A : Type 0} (build : Statement → A) (x : List ℕ) (is_array : Bool) (b : A) (tokens : List Lexeme) → Spells (assigned build x is_array) b tokens → ValueFrom build x b tokens
assigned-from build x true b [] h = absurd h
assigned-from build x true b (t ∷ rest) h =
    let e = h.2 in
    let es = e.is_next in
    let close = token-then close_bracket (λ seen. array_end build x e.value es.value) b es.back es.is_next in
    let end = array-end-from build x e.value es.value b close.rest close.is_next in
    let others = further-from es.value es.front es.is_first in
    let behind = token-symbols es.back close.first close.rest (sign S.CloseBracket) end.behind close.whole (close_bracket-is close.first.symbol close.value close.seen) end.spelled in
    let inner = split-symbols e.back es.front es.back (further_symbols es.value) (sign S.CloseBracket ∷ end.behind) es.whole others.spelled behind in
    let all = split-symbols rest e.front e.back (expression_symbols e.value) (further_symbols es.value ++ (sign S.CloseBracket ∷ end.behind)) e.whole e.is_first.0 inner in
    record {
      statement = end.statement;
      symbols = end.symbols;
      is = end.is;
      is_simple = end.is_simple;
      spelled = ap (λ y. y ∷ symbols_of rest) (open_bracket-is t.symbol h.0 h.1) ∙ ap (λ y. sign S.OpenBracket ∷ y) all ∙ sym end.shape;
      fits = λ room. end.fits room e.is_first.1.1 others.fits;
    }
assigned-from build x false b tokens h =
    let e = expression-end-from 16 (λ e. build (assign x e)) b tokens h in
    record { statement = assign x e.value; symbols = expression_symbols e.value; is = e.is; is_simple = refl; spelled = e.spelled; fits = λ room. e.fits }

-- an assignment of a value to a name
value_statement : {A : Type 0} (build : Statement → A) (x : List ℕ) (b : A) (tokens rest : List Lexeme) → symbols_of tokens ≡ name x ∷ sign S.Assign ∷ symbols_of rest → ValueFrom build x b rest → SimpleFrom build b tokens
value_statement build x b tokens rest h v = record {
  statement = v.statement;
  is = v.is;
  spelled = subst (λ o. with_newline o tokens) (sym v.is_simple) (h ∙ ap (λ y. name x ∷ sign S.Assign ∷ y) v.spelled);
  fits = v.fits;
}

looked-value : {A : Type 0} (build : Statement → A) (x : List ℕ) (b : A) (tokens rest : List Lexeme) → symbols_of tokens ≡ name x ∷ sign S.Assign ∷ symbols_of rest → Spells (peek (λ t. assigned build x (is_seen (open_bracket t.symbol)))) b rest → SimpleFrom build b tokens
looked-value build x b tokens [] e h = absurd h
looked-value build x b tokens (t ∷ rest) e h = value_statement build x b tokens (t ∷ rest) e (assigned-from build x (is_seen (open_bracket t.symbol)) b (t ∷ rest) h)

-- the symbols of an assignment
shape : (target value : List Symbol) (s : Symbol) → target ++ (s ∷ (value ++ newline ∷ [])) ≡ (target ++ (s ∷ value)) ++ newline ∷ []
shape target value s = sym (append_assoc target (s ∷ value) (newline ∷ []))

-- what stands behind the first expression
deed-from : {A : Type 0} (build : Statement → A) (e : Expression) (d : Deed) (b : A) (tokens rest : List Lexeme) (s : Symbol) → PartsFit 16 e → symbols_of tokens ≡ expression_symbols e ++ (s ∷ symbols_of rest) → DeedIs (place_of e) (tail_of s) d → Spells (deed_plan build e d) b rest → SimpleFrom build b tokens
deed-from build e evaluates b tokens rest s f h i g =
    let none : symbols_of rest ≡ [] = ap symbols_of g.1 in
    record {
      statement = evaluate e;
      is = g.0;
      spelled = h ∙ ap (λ y. expression_symbols e ++ (y ∷ symbols_of rest)) (tail_of-is s _ i) ∙ ap (λ y. expression_symbols e ++ (newline ∷ y)) none;
      fits = λ room. f;
    }
deed-from build e (assigns_to (to_name x)) b tokens rest s f h i g =
    looked-value build x b tokens rest (h ∙ ap (λ y. expression_symbols y ++ (s ∷ symbols_of rest)) (place_of-is e _ i.1) ∙ ap (λ y. name x ∷ y ∷ symbols_of rest) (tail_of-is s _ i.0)) g
deed-from build e (assigns_to (to_element x j)) b tokens rest s f h i g =
    let v = expression-end-from 16 (λ v. build (assign_element x j v)) b rest g in
    let target = place_of-is e _ i.1 in
    record {
      statement = assign_element x j v.value;
      is = v.is;
      spelled = h ∙ ap (λ y. expression_symbols y ++ (s ∷ symbols_of rest)) target ∙ ap (λ y. expression_symbols (element x j) ++ (y ∷ symbols_of rest)) (tail_of-is s _ i.0)
          ∙ ap (λ y. expression_symbols (element x j) ++ (sign S.Assign ∷ y)) v.spelled ∙ shape (expression_symbols (element x j)) (expression_symbols v.value) (sign S.Assign);
      fits = λ room. (let fits : PartsFit 16 (element x j) = subst (PartsFit 16) target f in fits, v.fits);
    }
deed-from build e (augments_at (to_name x) op) b tokens rest s f h i g =
    let v = expression-end-from 16 (λ v. build (augment x op v)) b rest g in
    let target = place_of-is e _ i.1 in
    record {
      statement = augment x op v.value;
      is = v.is;
      spelled = h ∙ ap (λ y. expression_symbols y ++ (s ∷ symbols_of rest)) target ∙ ap (λ y. name x ∷ y ∷ symbols_of rest) (tail_of-is s _ i.0) ∙ ap (λ y. name x ∷ sign (augment_sign op) ∷ y) v.spelled;
      fits = λ room. v.fits;
    }
deed-from build e (augments_at (to_element x j) op) b tokens rest s f h i g =
    let v = expression-end-from 16 (λ v. build (augment_element x j op v)) b rest g in
    let target = place_of-is e _ i.1 in
    record {
      statement = augment_element x j op v.value;
      is = v.is;
      spelled = h ∙ ap (λ y. expression_symbols y ++ (s ∷ symbols_of rest)) target ∙ ap (λ y. expression_symbols (element x j) ++ (y ∷ symbols_of rest)) (tail_of-is s _ i.0)
          ∙ ap (λ y. expression_symbols (element x j) ++ (sign (augment_sign op) ∷ y)) v.spelled ∙ shape (expression_symbols (element x j)) (expression_symbols v.value) (sign (augment_sign op));
      fits = λ room. (let fits : PartsFit 16 (element x j) = subst (PartsFit 16) target f in fits, v.fits);
    }

expression-from : {A : Type 0} (build : Statement → A) (b : A) (tokens : List Lexeme) → Spells (by_expression build) b tokens → SimpleFrom build b tokens
expression-from build b tokens h =
    let t = token-then (deed h.value) (deed_plan build h.value) b h.back h.is_next in
    let behind = token-symbols h.back t.first t.rest t.first.symbol (symbols_of t.rest) t.whole refl refl in
    let all = split-symbols tokens h.front h.back (expression_symbols h.value) (t.first.symbol ∷ symbols_of t.rest) h.whole h.is_first.0 behind in
    deed-from build h.value t.value b tokens t.rest t.first.symbol h.is_first.1.1 all (deed-is (place_of h.value) (tail_of t.first.symbol) t.value t.seen) t.is_next

-- a keyword alone
word-from : {A : Type 0} (build : Statement → A) (s : Statement) (k : Symbol) (b : A) (t : Lexeme) (rest : List Lexeme) → t.symbol ≡ k → simple_symbols s ≡ Some (k ∷ []) → ((room : ℕ) → IsStatement room s) → Spells (word_line (build s)) b (t ∷ rest) → SimpleFrom build b (t ∷ rest)
word-from build s k b t rest e simple f h =
    let end = end-from (build s) b rest h.2 in
    record { statement = s; is = end.0; spelled = subst (λ o. with_newline o (t ∷ rest)) (sym simple) (ap (λ y. y ∷ symbols_of rest) e ∙ ap (λ y. k ∷ y) end.1); fits = f }

returned-from : {A : Type 0} (build : Statement → A) (is_bare : Bool) (b : A) (t : Lexeme) (rest : List Lexeme) → t.symbol ≡ key K.Return → Spells (returned build is_bare) b rest → SimpleFrom build b (t ∷ rest)
returned-from build true b t rest e h =
    let end = end-from (build (return None)) b rest h in
    record { statement = return None; is = end.0; spelled = ap (λ y. y ∷ symbols_of rest) e ∙ ap (λ y. key K.Return ∷ y) end.1; fits = λ room. tt }
returned-from build false b t rest e h =
    let v = expression-end-from 16 (λ e. build (return (Some e))) b rest h in
    record { statement = return (Some v.value); is = v.is; spelled = ap (λ y. y ∷ symbols_of rest) e ∙ ap (λ y. key K.Return ∷ y) v.spelled; fits = λ room. v.fits }

looked-return : {A : Type 0} (build : Statement → A) (b : A) (t : Lexeme) (rest : List Lexeme) → t.symbol ≡ key K.Return → Spells (peek (λ t. returned build (is_seen (line_end t.symbol)))) b rest → SimpleFrom build b (t ∷ rest)
looked-return build b t [] e h = absurd h
looked-return build b t (u ∷ rest) e h = returned-from build (is_seen (line_end u.symbol)) b t (u ∷ rest) e h

pub simple-from : {A : Type 0} (build : Statement → A) (o : Opening) (b : A) (t : Lexeme) (rest : List Lexeme) → OpeningIs t.symbol o → Spells (simple_plan build o) b (t ∷ rest) → SimpleFrom build b (t ∷ rest)
simple-from build passes b t rest e h = word-from build pass (key K.Pass) b t rest e refl (λ room. tt) h
simple-from build breaks b t rest e h = word-from build break (key K.Break) b t rest e refl (λ room. tt) h
simple-from build continues b t rest e h = word-from build continue (key K.Continue) b t rest e refl (λ room. tt) h
simple-from build returns b t rest e h = looked-return build b t rest e h.2
simple-from build ifs b t rest e h = expression-from build b (t ∷ rest) h
simple-from build whiles b t rest e h = expression-from build b (t ∷ rest) h
simple-from build fors b t rest e h = expression-from build b (t ∷ rest) h
simple-from build withs b t rest e h = expression-from build b (t ∷ rest) h
simple-from build tries b t rest e h = expression-from build b (t ∷ rest) h
simple-from build others b t rest e h = expression-from build b (t ∷ rest) h
