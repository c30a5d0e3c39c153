-- Taking by a plan, step by step, is what the plan takes; and looks at the first of the code's tokens.
use Rattle.std.proofs.Common.{◌≡◌, ℕ, ◌≤◌, false, List, [], ◌∷◌, refl, sym, ◌∙◌, ap, arith, length, drop, get_or}
use Rattle.std.specs.Prelude.{Option, Some, None, Ok, Err}
use Rattle.kern_lexer.specs.Bytes.{Bytes}
use Rattle.kern_lexer.specs.Symbols.{Symbol, Lexeme, key, sign, symbol_of, lexeme_of, lexemes_of}
use Rattle.kern_lexer.specs.declared.token.Key.{Key}
use Rattle.kern_lexer.specs.declared.token.Key.TheVariants as K
use Rattle.kern_lexer.specs.declared.token.Sign.{Sign}
use Rattle.kern_lexer.specs.declared.token.Sign.TheVariants as S
use Rattle.kern_lexer.specs.declared.token.Token.{Token}
use Rattle.kern_lexer.specs.declared.token.TokenKind.{TokenKind}
use Rattle.kern_lexer.specs.declared.token.TokenKind.TheVariants as T
use Rattle.kern_syntax.specs.Tree.{Expression, Statement}
use Rattle.kern_syntax.specs.declared.statement.Augment.{Augment}
use Rattle.kern_expressions.specs.declared.tokens.Tokens.{Tokens}
use Rattle.kern_grammar.specs.Plans.{Taken, ◌>>=◌, Plan, done, token, peek, part, last, run}
use Rattle.kern_grammar.specs.Reading.{choose}
use Rattle.kern_grammar.specs.SimplePlans.{an_expression, by_expression, deed_plan, end_line, simple_plan}
use Rattle.kern_expressions.specs.TakenBy.{perform, lexemes_left}
use Rattle.kern_statements.specs.LineSteps.{HasPlace, IsPlace, augment_at, place_plan}
use Rattle.kern_statements.specs.declared.parts.ReadPlace.{ReadPlace}
use Rattle.kern_grammar.specs.Views.{is_seen, line_end, open_bracket, opening, Place, to_name, to_element, place_of, Tail, assigns, augments, tail_of, Deed, assigns_to, augments_at, deed_of, deed}

-- two ways on from one answer
same_next : {A B : Type 0} (r : Taken A) (f g : A × List Lexeme → Taken B) → ((x : A × List Lexeme) → f x ≡ g x) → (r >>= f) ≡ (r >>= g)
same_next (Ok x) f g h = h x
same_next (Err left) f g h = refl

by_choice : {A V : Type 0} (o : Option V) (next : V → Plan A) (t : Lexeme) (rest : List Lexeme) → ((v : V) → perform (next v) rest ≡ run (next v) rest) → (choose o (Err (t ∷ rest)) (λ v. Ok (v, rest)) >>= λ v. perform (next v.0) v.1) ≡ choose o (Err (t ∷ rest)) (λ v. run (next v) rest)
by_choice None next t rest h = refl
by_choice (Some v) next t rest h = h v

-- a token and what is behind it
performed_token : {A V : Type 0} (view : Symbol → Option V) (next : V → Plan A) (t : Lexeme) (rest : List Lexeme) → ((v : V) → perform (next v) rest ≡ run (next v) rest) → perform (token view next) (t ∷ rest) ≡ run (token view next) (t ∷ rest)
performed_token view next t rest h = by_choice (view t.symbol) next t rest h

pub perform-run : {A : Type 0} (plan : Plan A) (tokens : List Lexeme) → perform plan tokens ≡ run plan tokens
perform-run (done a) tokens = refl
perform-run (token view next) [] = refl
perform-run (token view next) (t ∷ rest) = performed_token view next t rest (λ v. perform-run (next v) rest)
perform-run (peek next) [] = refl
perform-run (peek next) (t ∷ rest) = perform-run (next t) (t ∷ rest)
perform-run (part phrase stop take next) tokens = same_next (take tokens) (λ x. perform (next x.0) x.1) (λ x. run (next x.0) x.1) (λ x. perform-run (next x.0) x.1)
perform-run (last phrase stop take build) tokens = refl

-- the token that the code has where there is none
abbrev pub no_token : Token
no_token = record { kind = T.Name; at = 0; len = 0; line = 0 }

-- the kind of the first token, and what it spells if it is of a kind
abbrev pub first_kind : Tokens → TokenKind
first_kind tokens = (get_or tokens.list.now 0 no_token).kind

abbrev pub first_as : Tokens → TokenKind → Lexeme
first_as tokens kind =
    record {
      symbol = symbol_of tokens.text.now (get_or tokens.list.now 0 no_token).at (get_or tokens.list.now 0 no_token).len kind;
      line = (get_or tokens.list.now 0 no_token).line;
    }

-- the first of the code's tokens, and those behind it
opened_list : (text : Bytes) (tokens : List Token) → 1 ≤ length tokens → lexemes_of text tokens ≡ lexeme_of text (get_or tokens 0 no_token) ∷ drop 1 (lexemes_of text tokens)
opened_list text [] h = absurd (omega (arith, h))
opened_list text (t ∷ tokens) h = refl

opened : (tokens : Tokens) → 1 ≤ length tokens.list.now → lexemes_left tokens ≡ first_as tokens (first_kind tokens) ∷ drop 1 (lexemes_left tokens)
opened tokens h = opened_list tokens.text.now tokens.list.now h

-- a look at the first of the code's tokens
pub peeked : {A : Type 0} (next : Lexeme → Plan A) (tokens : Tokens) → 1 ≤ length tokens.list.now → perform (peek next) (lexemes_left tokens) ≡ perform (next (first_as tokens (first_kind tokens))) (lexemes_left tokens)
peeked next tokens h =
    let e = opened tokens h in
    ap (perform (peek next)) e ∙ ap (perform (next (first_as tokens (first_kind tokens)))) (sym e)

-- the first token, where its kind is known, and those that the code has behind it
pub front : (tokens rest : Tokens) (kind : TokenKind) → 1 ≤ length tokens.list.now → first_kind tokens ≡ kind → lexemes_left rest ≡ drop 1 (lexemes_left tokens) → lexemes_left tokens ≡ first_as tokens kind ∷ lexemes_left rest
front tokens rest kind h e t = opened tokens h ∙ ap (λ k. first_as tokens k ∷ drop 1 (lexemes_left tokens)) e ∙ ap (λ y. first_as tokens kind ∷ y) (sym t)

-- kinds that aren't the end of a line
pub no_line_end : (text : Bytes) (at len : ℕ) (kind : TokenKind) → (kind ≡ T.Newline → ⊥) → is_seen (line_end (symbol_of text at len kind)) ≡ false
no_line_end text at len T.Newline h = absurd (h refl)
no_line_end text at len T.Name h = refl
no_line_end text at len (T.Key k) h = refl
no_line_end text at len (T.Integer n) h = refl
no_line_end text at len T.Text h = refl
no_line_end text at len (T.Sign s) h = refl
no_line_end text at len T.Indent h = refl
no_line_end text at len T.Dedent h = refl
no_line_end text at len T.End h = refl

-- kinds that aren't an opening bracket
pub sign_no_bracket : (s : Sign) → (s ≡ S.OpenBracket → ⊥) → is_seen (open_bracket (sign s)) ≡ false
sign_no_bracket S.OpenBracket h = absurd (h refl)
sign_no_bracket s h = refl

pub no_bracket : (text : Bytes) (at len : ℕ) (kind : TokenKind) → ((s : Sign) → kind ≡ T.Sign s → ⊥) → is_seen (open_bracket (symbol_of text at len kind)) ≡ false
no_bracket text at len (T.Sign s) h = absurd (h s refl)
no_bracket text at len kind h = refl

-- kinds that begin no statement but one with an expression first
pub key_by_expression : {A : Type 0} (build : Statement → A) (k : Key) (tokens : List Lexeme) → (k ≡ K.Pass → ⊥) → (k ≡ K.Break → ⊥) → (k ≡ K.Continue → ⊥) → (k ≡ K.Return → ⊥) → perform (simple_plan build (opening (key k))) tokens ≡ perform (by_expression build) tokens
key_by_expression build K.Pass tokens p b c r = absurd (p refl)
key_by_expression build K.Break tokens p b c r = absurd (b refl)
key_by_expression build K.Continue tokens p b c r = absurd (c refl)
key_by_expression build K.Return tokens p b c r = absurd (r refl)
key_by_expression build k tokens p b c r = refl

pub others_by_expression : {A : Type 0} (build : Statement → A) (text : Bytes) (at len : ℕ) (kind : TokenKind) (tokens : List Lexeme) → ((k : Key) → kind ≡ T.Key k → ⊥) → perform (simple_plan build (opening (symbol_of text at len kind))) tokens ≡ perform (by_expression build) tokens
others_by_expression build text at len (T.Key k) tokens h = absurd (h k refl)
others_by_expression build text at len kind tokens h = refl

-- an assignment behind its sign
pub augmented_plan : {A : Type 0} (build : Statement → A) (e : Expression) (op : Augment) (place : Place) (tokens : List Lexeme) → perform (deed_plan build e (augments_at place op)) tokens ≡ perform (an_expression 16 (λ v. end_line (build (augment_at place op v)))) tokens
augmented_plan build e op (to_name x) tokens = refl
augmented_plan build e op (to_element x i) tokens = refl

pub assigned_plan : {A : Type 0} (build : Statement → A) (e : Expression) (place : Place) (tokens : List Lexeme) → perform (deed_plan build e (assigns_to place)) tokens ≡ perform (place_plan build place) tokens
assigned_plan build e (to_name x) tokens = refl
assigned_plan build e (to_element x i) tokens = refl

pub deed_there : {A : Type 0} (build : Statement → A) (e : Expression) (place : Place) (tail : Tail) (does : Deed) (t : Lexeme) (rest : List Lexeme) → place_of e ≡ Some place → tail_of t.symbol ≡ Some tail → deed_of (Some place) (Some tail) ≡ Some does → perform (token (deed e) (deed_plan build e)) (t ∷ rest) ≡ perform (deed_plan build e does) rest
deed_there build e place tail does t rest p s d =
    ap (λ o. choose o (Err (t ∷ rest)) (λ v. Ok (v, rest)) >>= λ v. perform (deed_plan build e v.0) v.1) (ap (λ q. deed_of q (tail_of t.symbol)) p ∙ ap (deed_of (Some place)) s ∙ d)

-- an assignment to the place that an expression has
pub assignment_there : {A : Type 0} (build : Statement → A) (e : Expression) (place : Place) (tokens rest : Tokens) → 1 ≤ length tokens.list.now → first_kind tokens ≡ T.Sign S.Assign → lexemes_left rest ≡ drop 1 (lexemes_left tokens) → place_of e ≡ Some place → perform (token (deed e) (deed_plan build e)) (lexemes_left tokens) ≡ perform (place_plan build place) (lexemes_left rest)
assignment_there build e place tokens rest h k l p =
    ap (perform (token (deed e) (deed_plan build e))) (front tokens rest (T.Sign S.Assign) h k l)
    ∙ deed_there build e place assigns (assigns_to place) (first_as tokens (T.Sign S.Assign)) (lexemes_left rest) p refl refl
    ∙ assigned_plan build e place (lexemes_left rest)

pub augmented_there : {A : Type 0} (build : Statement → A) (e : Expression) (place : Place) (mark : Sign) (op : Augment) (tokens rest : Tokens) → 1 ≤ length tokens.list.now → first_kind tokens ≡ T.Sign mark → tail_of (sign mark) ≡ Some (augments op) → lexemes_left rest ≡ drop 1 (lexemes_left tokens) → place_of e ≡ Some place → perform (token (deed e) (deed_plan build e)) (lexemes_left tokens) ≡ perform (an_expression 16 (λ v. end_line (build (augment_at place op v)))) (lexemes_left rest)
augmented_there build e place mark op tokens rest h k t l p =
    ap (perform (token (deed e) (deed_plan build e))) (front tokens rest (T.Sign mark) h k l)
    ∙ deed_there build e place (augments op) (augments_at place op) (first_as tokens (T.Sign mark)) (lexemes_left rest) p t refl
    ∙ augmented_plan build e op place (lexemes_left rest)

-- the place that was found, or none
pub has_place : (place : ReadPlace) (o : Option Place) → HasPlace (Some place) o → (p : Place) × (o ≡ Some p) × IsPlace place p
has_place place (Some p) h = (p, refl, h)
has_place place None h = absurd h

pub no_place : (o : Option Place) → HasPlace None o → o ≡ None
no_place (Some p) h = absurd h
no_place None h = refl
