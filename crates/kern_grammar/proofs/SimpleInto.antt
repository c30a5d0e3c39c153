-- Each simple statement's tokens are spelled by its plan.
use Rattle.std.proofs.Common.{◌≡◌, ℕ, true, false, List, [], ◌∷◌, ◌++◌, refl, sym, ◌∙◌, ap, subst, append_assoc}
use Rattle.std.specs.Prelude.{Some, None}
use Rattle.kern_lexer.specs.Symbols.{Symbol, Lexeme, key, sign, name, number, newline}
use Rattle.kern_lexer.specs.declared.token.Key.TheVariants as K
use Rattle.kern_lexer.specs.declared.token.Sign.TheVariants as S
use Rattle.kern_syntax.specs.declared.statement.Augment.{Augment}
use Rattle.kern_syntax.specs.declared.statement.Augment.TheVariants as A
use Rattle.kern_syntax.specs.Grammatical.{PartsFit, IsStatement}
use Rattle.kern_syntax.specs.Tree.{Expression, variable, element, Statement, pass, break, continue, return, evaluate, assign, assign_element, augment, augment_element, assign_repeated, assign_list, if_then, while_do, for_range, parallel, sequential, record_as, try_do}
use Rattle.kern_grammar.specs.BlockPlans.{is_elif, is_else, is_except, is_line}
use Rattle.kern_grammar.specs.Expressions.{expression_symbols, in_brackets}
use Rattle.kern_grammar.specs.Phrases.{these, ◌⨾◌, simple_line}
use Rattle.kern_grammar.specs.Plans.{token, peek, Spells}
use Rattle.kern_grammar.specs.Simple.{augment_sign}
use Rattle.kern_grammar.specs.SimplePlans.{end_line, assigned, deed_plan, returned, word_line, simple_plan}
use Rattle.kern_grammar.specs.Views.{line_end, open_bracket, is_seen, any, Opening, opening, ifs, whiles, fors, withs, tries, to_name, to_element, Deed, evaluates, assigns_to, augments_at, deed}
use Rattle.kern_grammar.proofs.Firsts.{head, no-mark}
use Rattle.kern_grammar.proofs.SimpleSpells.{open-fits, into-line, into-expression-end, list_shape, into-look, starts-expression, into-list, into-repeated}
use Rattle.kern_grammar.proofs.Steps.{nothing, flat, StartsWith, starts, step-token, step-expression, step-end}

-- a symbol that begins no branch
pub record NoBranch (s : Symbol) : Type 0 where
  pub no_elif : is_elif s ≡ false
  pub no_else : is_else s ≡ false
  pub no_except : is_except s ≡ false

-- a statement's first symbol, which begins no branch and ends no block
pub record Marks (s : Symbol) : Type 0 where
  pub no_end : is_seen (line_end s) ≡ false
  pub no_branch : NoBranch s
  pub in_block : is_line s ≡ true

-- a statement on one line begins so
abbrev pub IsPlain : Opening → Type 0
IsPlain ifs = ⊥
IsPlain whiles = ⊥
IsPlain fors = ⊥
IsPlain withs = ⊥
IsPlain tries = ⊥
IsPlain o = Unit {0}

-- a simple statement's tokens, by its plan
pub record SimpleInto {A : Type 0} (build : Statement → A) (s : Statement) (tokens : List Lexeme) : Type 0 where
  pub first : Symbol
  pub begins : StartsWith first tokens
  pub marks : Marks first
  pub plain : IsPlain (opening first)
  pub spelled : Spells (simple_plan build (opening first)) (build s) tokens

-- a keyword alone
into-word : {A : Type 0} (a : A) (s : Symbol) (tokens : List Lexeme) → (these (s ∷ newline ∷ []) ⨾ nothing) tokens → Spells (word_line a) a tokens
into-word a s tokens h = step-token any (λ seen. end_line a) a s tt (newline ∷ []) nothing refl (λ rest g. into-line a rest g) tokens h

-- a statement that begins with an expression
into-expression : {A : Type 0} (build : Statement → A) (b : Statement) (e : Expression) (d : Deed) (s : Symbol) (symbols : List Symbol) → PartsFit 16 e → deed e s ≡ Some d → ((rest : List Lexeme) → (these symbols ⨾ nothing) rest → Spells (deed_plan build e d) (build b) rest) → (tokens : List Lexeme) → (these (expression_symbols e ++ (s ∷ symbols)) ⨾ nothing) tokens → SimpleInto build b tokens
into-expression build b e d s symbols f seen k tokens h =
    let first = head e in
    let marks = no-mark first.first first.begins in
    record {
      first = first.first;
      begins = starts-expression e (s ∷ symbols) nothing tokens h;
      marks = record { no_end = marks.no_end; no_branch = record { no_elif = marks.no_elif; no_else = marks.no_else; no_except = marks.no_except }; in_block = marks.in_block };
      plain = subst IsPlain (sym marks.no_keyword) tt;
      spelled = subst (λ o. Spells (simple_plan build o) (build b) tokens) (sym marks.no_keyword)
          (step-expression 16 (λ e. token (deed e) (deed_plan build e)) (build b) e (s ∷ symbols) nothing (open-fits 16 e f)
          (λ rest g. step-token (deed e) (deed_plan build e) (build b) s d symbols nothing seen k rest g) tokens h);
    }

-- the value of a `return`
into-returned : {A : Type 0} (build : Statement → A) (e : Expression) → PartsFit 16 e → (tokens : List Lexeme) → (these (expression_symbols e ++ newline ∷ []) ⨾ nothing) tokens → Spells (peek (λ t. returned build (is_seen (line_end t.symbol)))) (build (return (Some e))) tokens
into-returned build e f tokens h =
    let first = head e in
    let marks = no-mark first.first first.begins in
    into-look (λ y. returned build (is_seen (line_end y))) (build (return (Some e))) first.first tokens (starts-expression e (newline ∷ []) nothing tokens h)
    (subst (λ c. Spells (returned build c) (build (return (Some e))) tokens) (sym marks.no_end) (into-expression-end 16 (λ e. build (return (Some e))) e f tokens h))

-- an expression assigned to a name
into-value : {A : Type 0} (build : Statement → A) (x : List ℕ) (e : Expression) → PartsFit 16 e → (tokens : List Lexeme) → (these (expression_symbols e ++ newline ∷ []) ⨾ nothing) tokens → Spells (peek (λ t. assigned build x (is_seen (open_bracket t.symbol)))) (build (assign x e)) tokens
into-value build x e f tokens h =
    let first = head e in
    let marks = no-mark first.first first.begins in
    into-look (λ y. assigned build x (is_seen (open_bracket y))) (build (assign x e)) first.first tokens (starts-expression e (newline ∷ []) nothing tokens h)
    (subst (λ c. Spells (assigned build x c) (build (assign x e)) tokens) (sym marks.no_bracket) (into-expression-end 16 (λ e. build (assign x e)) e f tokens h))

-- the symbols of an assignment
shape : (target value : List Symbol) (s : Symbol) → (target ++ (s ∷ value)) ++ newline ∷ [] ≡ target ++ (s ∷ (value ++ newline ∷ []))
shape target value s = append_assoc target (s ∷ value) (newline ∷ [])

-- the sign of an augmented assignment is seen
seen-name : (x : List ℕ) (op : Augment) → deed (variable x) (sign (augment_sign op)) ≡ Some (augments_at (to_name x) op)
seen-name x A.Add = refl
seen-name x A.Subtract = refl

seen-element : (x : List ℕ) (i : Expression) (op : Augment) → deed (element x i) (sign (augment_sign op)) ≡ Some (augments_at (to_element x i) op)
seen-element x i A.Add = refl
seen-element x i A.Subtract = refl

pub word_marks : (s : Symbol) → is_seen (line_end s) ≡ false → is_elif s ≡ false → is_else s ≡ false → is_except s ≡ false → is_line s ≡ true → Marks s
word_marks s a b c d e = record { no_end = a; no_branch = record { no_elif = b; no_else = c; no_except = d }; in_block = e }

pub into-simple : {A : Type 0} (build : Statement → A) (room : ℕ) (s : Statement) (tokens : List Lexeme) → IsStatement room s → simple_line s tokens → SimpleInto build s tokens
into-simple build room pass tokens f h =
    let g = flat tokens _ h in record { first = key K.Pass; begins = starts tokens (key K.Pass) _ nothing g; marks = word_marks (key K.Pass) refl refl refl refl refl; plain = tt; spelled = into-word (build pass) (key K.Pass) tokens g }
into-simple build room break tokens f h =
    let g = flat tokens _ h in record { first = key K.Break; begins = starts tokens (key K.Break) _ nothing g; marks = word_marks (key K.Break) refl refl refl refl refl; plain = tt; spelled = into-word (build break) (key K.Break) tokens g }
into-simple build room continue tokens f h =
    let g = flat tokens _ h in record { first = key K.Continue; begins = starts tokens (key K.Continue) _ nothing g; marks = word_marks (key K.Continue) refl refl refl refl refl; plain = tt; spelled = into-word (build continue) (key K.Continue) tokens g }
into-simple build room (return None) tokens f h =
    let g = flat tokens _ h in
    record {
      first = key K.Return;
      begins = starts tokens (key K.Return) _ nothing g;
      marks = word_marks (key K.Return) refl refl refl refl refl;
      plain = tt;
      spelled = step-token any (λ seen. peek (λ t. returned build (is_seen (line_end t.symbol)))) (build (return None)) (key K.Return) tt (newline ∷ []) nothing refl
          (λ rest k. into-look (λ y. returned build (is_seen (line_end y))) (build (return None)) newline rest (starts rest newline [] nothing k) (into-line (build (return None)) rest k)) tokens g;
    }
into-simple build room (return (Some e)) tokens f h =
    let g = flat tokens _ h in
    record {
      first = key K.Return;
      begins = starts tokens (key K.Return) _ nothing g;
      marks = word_marks (key K.Return) refl refl refl refl refl;
      plain = tt;
      spelled = step-token any (λ seen. peek (λ t. returned build (is_seen (line_end t.symbol)))) (build (return (Some e))) (key K.Return) tt (expression_symbols e ++ newline ∷ []) nothing refl
          (λ rest k. into-returned build e f rest k) tokens g;
    }
into-simple build room (evaluate e) tokens f h =
    into-expression build (evaluate e) e evaluates newline [] f refl (λ rest k. (refl, step-end rest nothing k)) tokens (flat tokens _ h)
into-simple build room (assign x e) tokens f h =
    into-expression build (assign x e) (variable x) (assigns_to (to_name x)) (sign S.Assign) (expression_symbols e ++ newline ∷ []) tt refl (λ rest k. into-value build x e f rest k) tokens (flat tokens _ h)
into-simple build room (assign_element x i e) tokens f h =
    into-expression build (assign_element x i e) (element x i) (assigns_to (to_element x i)) (sign S.Assign) (expression_symbols e ++ newline ∷ []) f.0 refl
    (λ rest k. into-expression-end 16 (λ v. build (assign_element x i v)) e f.1 rest k) tokens (flat tokens _ (h ∙ shape (expression_symbols (element x i)) (expression_symbols e) (sign S.Assign)))
into-simple build room (augment x op e) tokens f h =
    into-expression build (augment x op e) (variable x) (augments_at (to_name x) op) (sign (augment_sign op)) (expression_symbols e ++ newline ∷ []) tt (seen-name x op)
    (λ rest k. into-expression-end 16 (λ v. build (augment x op v)) e f rest k) tokens (flat tokens _ h)
into-simple build room (augment_element x i op e) tokens f h =
    into-expression build (augment_element x i op e) (element x i) (augments_at (to_element x i) op) (sign (augment_sign op)) (expression_symbols e ++ newline ∷ []) f.0 (seen-element x i op)
    (λ rest k. into-expression-end 16 (λ v. build (augment_element x i op v)) e f.1 rest k) tokens (flat tokens _ (h ∙ shape (expression_symbols (element x i)) (expression_symbols e) (sign (augment_sign op))))
into-simple build room (assign_repeated x e n) tokens f h =
    let all : (in_brackets (expression_symbols e) ++ sign S.Star ∷ number n ∷ []) ++ newline ∷ [] ≡ sign S.OpenBracket ∷ (expression_symbols e ++ (sign S.CloseBracket ∷ sign S.Star ∷ number n ∷ newline ∷ [])) =
    ap (λ y. sign S.OpenBracket ∷ (y ++ newline ∷ [])) (append_assoc (expression_symbols e) (sign S.CloseBracket ∷ []) (sign S.Star ∷ number n ∷ []))
    ∙ ap (λ y. sign S.OpenBracket ∷ y) (append_assoc (expression_symbols e) (sign S.CloseBracket ∷ sign S.Star ∷ number n ∷ []) (newline ∷ [])) in
    into-expression build (assign_repeated x e n) (variable x) (assigns_to (to_name x)) (sign S.Assign) (sign S.OpenBracket ∷ (expression_symbols e ++ (sign S.CloseBracket ∷ sign S.Star ∷ number n ∷ newline ∷ []))) tt refl
    (λ rest k. into-look (λ y. assigned build x (is_seen (open_bracket y))) (build (assign_repeated x e n)) (sign S.OpenBracket) rest (starts rest (sign S.OpenBracket) _ nothing k) (into-repeated build x e n f rest k)) tokens
    (flat tokens _ (h ∙ ap (λ y. name x ∷ sign S.Assign ∷ y) all))
into-simple build room (assign_list x []) tokens f h = absurd (let no : false ≡ true = f.0 in cc)
into-simple build room (assign_list x (e ∷ es)) tokens f h =
    into-expression build (assign_list x (e ∷ es)) (variable x) (assigns_to (to_name x)) (sign S.Assign) _ tt refl
    (λ rest k. into-look (λ y. assigned build x (is_seen (open_bracket y))) (build (assign_list x (e ∷ es))) (sign S.OpenBracket) rest (starts rest (sign S.OpenBracket) _ nothing k) (into-list build x e es f.1.0 f.1.1 rest k)) tokens
    (flat tokens _ (h ∙ ap (λ y. name x ∷ sign S.Assign ∷ y) (list_shape e es)))
into-simple build room (if_then c b more) tokens f h = absurd h
into-simple build room (while_do c b) tokens f h = absurd h
into-simple build room (for_range x from to b) tokens f h = absurd h
into-simple build room (parallel b) tokens f h = absurd h
into-simple build room (sequential b) tokens f h = absurd h
into-simple build room (record_as text b) tokens f h = absurd h
into-simple build room (try_do b handlers) tokens f h = absurd h
