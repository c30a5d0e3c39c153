-- The tokens of a statement with blocks are spelled by its plan.
use Rattle.std.proofs.Common.{◌≡◌, ℕ, List, [], ◌∷◌, ◌++◌, refl, sym, ◌∙◌, ap, subst, append_assoc}
use Rattle.std.specs.Prelude.{Option, Some, None}
use Rattle.kern_lexer.specs.Bytes.{Bytes}
use Rattle.kern_lexer.specs.Symbols.{Symbol, Lexeme, key, sign, name}
use Rattle.kern_lexer.specs.declared.token.Key.TheVariants as K
use Rattle.kern_lexer.specs.declared.token.Sign.TheVariants as S
use Rattle.kern_syntax.specs.Grammatical.{AreBranches, AreHandlers}
use Rattle.kern_syntax.specs.Tree.{Expression, Block, Otherwise, no_else, else_do, elif_then, Handlers, no_handler, except_then}
use Rattle.kern_grammar.specs.BlockPlans.{a_block, ElifLine, elif_plan, else_plan, otherwise_of, branches_plan, ExceptLine, except_plan, handlers_of_lines, handlers_plan}
use Rattle.kern_grammar.specs.Blocks.{header, body, lines, branches, excepts}
use Rattle.kern_grammar.specs.Expressions.{expression_symbols}
use Rattle.kern_grammar.specs.Phrases.{Phrase, these, ◌⨾◌, on_line, BeginsOnLine}
use Rattle.kern_grammar.specs.Plans.{Taker, Plan, done, token, peek, Spells, EachOf, MaybeOf}
use Rattle.kern_grammar.specs.SimplePlans.{an_expression, Line}
use Rattle.kern_grammar.specs.Views.{a_name, elif_key, else_key, except_key}
use Rattle.kern_grammar.proofs.BlockSpells.{no-symbols, alone, into-a_block, into-condition}
use Rattle.kern_grammar.proofs.Steps.{nothing, StartsWith, starts, step-token}

-- a look at the first token and its line
pub into-lined : {A : Type 0} (plan : ℕ → Symbol → Plan A) (a : A) (line : ℕ) (s : Symbol) (tokens : List Lexeme) → BeginsOnLine line tokens → StartsWith s tokens → Spells (plan line s) a tokens → Spells (peek (λ t. plan t.line t.symbol)) a tokens
into-lined plan a line s [] b w h = absurd b
into-lined plan a line s (t ∷ ts) b w h =
    let placed : Spells (plan t.line s) a (t ∷ ts) = subst (λ l. Spells (plan l s) a (t ∷ ts)) (sym b) h in
    subst (λ y. Spells (plan t.line y) a (t ∷ ts)) (sym w) placed

at_front : (line : ℕ) (front back : List Lexeme) → BeginsOnLine line front → BeginsOnLine line (front ++ back)
at_front line [] back b = absurd b
at_front line (t ∷ front) back b = b

-- the line of a sequence is that of its first phrase
pub first-line : (line : ℕ) (s : Symbol) (symbols : List Symbol) (after : Phrase) (tokens : List Lexeme) → (on_line line (these (s ∷ symbols)) ⨾ after) tokens → BeginsOnLine line tokens × (these (s ∷ symbols) ⨾ after) tokens
first-line line s symbols after tokens h =
    let placed = at_front line h.front h.back h.is_first.0 in
    (subst (BeginsOnLine line) (sym h.whole) placed, record { front = h.front; back = h.back; whole = h.whole; is_first = h.is_first.1; is_second = h.is_second })

-- the branches of an `if` as lists
pub record BranchesOf (room : ℕ) (take : Taker Line) (o : Otherwise) (tokens : List Lexeme) : Type 0 where
  pub list : List ElifLine
  pub ending : Option Block
  pub front : List Lexeme
  pub back : List Lexeme
  pub is : otherwise_of list ending ≡ o
  pub whole : tokens ≡ front ++ back
  pub each : EachOf (Spells (elif_plan room take)) list front
  pub end : MaybeOf (Spells (else_plan room take)) ending back

into-elif : (room : ℕ) (take : Taker Line) (line : ℕ) (c : Expression) (b : Block) (o : Otherwise) → AreBranches room (elif_then line c b o) → (tokens : List Lexeme) → BeginsOnLine line tokens → (these (key K.Elif ∷ (expression_symbols c ++ sign S.Colon ∷ [])) ⨾ (body b (lines b) ⨾ nothing)) tokens → Spells (elif_plan room take) (line, c, b) tokens
into-elif room take line c b o f tokens l h =
    into-lined (λ line s. token elif_key (λ seen. an_expression 16 (λ c. a_block room take (λ b. done (line, c, b))))) (line, c, b) line (key K.Elif) tokens l (starts tokens (key K.Elif) _ _ h)
    (step-token elif_key (λ seen. an_expression 16 (λ c. a_block room take (λ b. done (line, c, b)))) (line, c, b) (key K.Elif) tt (expression_symbols c ++ sign S.Colon ∷ []) (body b (lines b) ⨾ nothing) refl
    (λ rest g. into-condition room take (λ c b. done (line, c, b)) (line, c, b) c b nothing f.0 (f.1, f.2) (λ r k. (refl, k)) rest g) tokens h)

pub into-branches : (room : ℕ) (take : Taker Line) (o : Otherwise) (tokens : List Lexeme) → branches o tokens → AreBranches room o → BranchesOf room take o tokens
into-branches room take no_else tokens h f = record { list = []; ending = None; front = []; back = tokens; is = refl; whole = refl; each = refl; end = no-symbols tokens h }
into-branches room take (else_do b) tokens h f =
    record {
      list = [];
      ending = Some b;
      front = [];
      back = tokens;
      is = refl;
      whole = refl;
      each = refl;
      end = step-token else_key (λ seen. a_block room take (λ b. done b)) b (key K.Else) tt (sign S.Colon ∷ []) (body b (lines b) ⨾ nothing) refl
          (λ rest g. into-a_block room take (λ b. done b) b b nothing f (λ r k. (refl, k)) rest g) tokens (alone (header (key K.Else ∷ [])) (body b (lines b)) tokens h);
    }
into-branches room take (elif_then line c b more) tokens h f =
    let own = h.is_second in
    let others = into-branches room take more own.back own.is_second f.3 in
    let one : (on_line line (header (key K.Elif ∷ expression_symbols c)) ⨾ body b (lines b)) (h.front ++ own.front) = record { front = h.front; back = own.front; whole = refl; is_first = h.is_first; is_second = own.is_first } in
    let placed = first-line line (key K.Elif) (expression_symbols c ++ sign S.Colon ∷ []) (body b (lines b)) (h.front ++ own.front) one in
    record {
      list = (line, c, b) ∷ others.list;
      ending = others.ending;
      front = (h.front ++ own.front) ++ others.front;
      back = others.back;
      is = ap (λ y. elif_then line c b y) others.is;
      whole = h.whole ∙ ap (λ y. h.front ++ y) (own.whole ∙ ap (λ y. own.front ++ y) others.whole) ∙ sym (append_assoc h.front own.front (others.front ++ others.back)) ∙ sym (append_assoc (h.front ++ own.front) others.front others.back);
      each = record { front = h.front ++ own.front; back = others.front; whole = refl; is_first = into-elif room take line c b more f (h.front ++ own.front) placed.0 (alone (header (key K.Elif ∷ expression_symbols c)) (body b (lines b)) (h.front ++ own.front) placed.1); is_second = others.each };
      end = others.end;
    }

pub into-branches-plan : {A : Type 0} (room : ℕ) (take : Taker Line) (build : Otherwise → A) (o : Otherwise) (tokens : List Lexeme) → branches o tokens → AreBranches room o → Spells (branches_plan room take build) (build o) tokens
into-branches-plan room take build o tokens h f =
    let g = into-branches room take o tokens h f in
    record { value = g.list; front = g.front; back = g.back; whole = g.whole; is_first = g.each; is_next = (g.ending, ap build g.is, g.end) }

-- `except` branches
into-except : (room : ℕ) (take : Taker Line) (line : ℕ) (x : Bytes) (b : Block) (o : Handlers) → AreHandlers room (except_then line x b o) → (tokens : List Lexeme) → (on_line line (header (key K.Except ∷ name x ∷ [])) ⨾ body b (lines b)) tokens → Spells (except_plan room take) (line, x, b) tokens
into-except room take line x b o f tokens h =
    let placed = first-line line (key K.Except) (name x ∷ sign S.Colon ∷ []) (body b (lines b)) tokens h in
    let g = alone (header (key K.Except ∷ name x ∷ [])) (body b (lines b)) tokens placed.1 in
    into-lined (λ line s. token except_key (λ seen. token a_name (λ x. a_block room take (λ b. done (line, x, b))))) (line, x, b) line (key K.Except) tokens placed.0 (starts tokens (key K.Except) _ _ g)
    (step-token except_key (λ seen. token a_name (λ x. a_block room take (λ b. done (line, x, b)))) (line, x, b) (key K.Except) tt (name x ∷ sign S.Colon ∷ []) (body b (lines b) ⨾ nothing) refl
    (λ r1 g1. step-token a_name (λ x. a_block room take (λ b. done (line, x, b))) (line, x, b) (name x) x (sign S.Colon ∷ []) (body b (lines b) ⨾ nothing) refl
    (λ rest k. into-a_block room take (λ b. done (line, x, b)) (line, x, b) b nothing (f.0, f.1) (λ r e. (refl, e)) rest k) r1 g1) tokens g)

-- the branches of a `try` as a list
pub record HandlersOf (room : ℕ) (take : Taker Line) (handlers : Handlers) (tokens : List Lexeme) : Type 0 where
  pub list : List ExceptLine
  pub is : handlers_of_lines list ≡ handlers
  pub each : EachOf (Spells (except_plan room take)) list tokens

pub into-handlers : (room : ℕ) (take : Taker Line) (handlers : Handlers) (tokens : List Lexeme) → excepts handlers tokens → AreHandlers room handlers → HandlersOf room take handlers tokens
into-handlers room take no_handler tokens h f = record { list = []; is = refl; each = no-symbols tokens h }
into-handlers room take (except_then line x b more) tokens h f =
    let own = h.is_second in
    let others = into-handlers room take more own.back own.is_second f.2 in
    record {
      list = (line, x, b) ∷ others.list;
      is = ap (λ y. except_then line x b y) others.is;
      each = record {
        front = h.front ++ own.front;
        back = own.back;
        whole = h.whole ∙ ap (λ y. h.front ++ y) own.whole ∙ sym (append_assoc h.front own.front own.back);
        is_first = into-except room take line x b more f (h.front ++ own.front) (record { front = h.front; back = own.front; whole = refl; is_first = h.is_first; is_second = own.is_first });
        is_second = others.each;
      };
    }

pub into-handlers-plan : {A : Type 0} (room : ℕ) (take : Taker Line) (build : Handlers → A) (line : ℕ) (x : Bytes) (b : Block) (more : Handlers) (tokens : List Lexeme) → excepts (except_then line x b more) tokens → AreHandlers room (except_then line x b more) → Spells (handlers_plan room take build) (build (except_then line x b more)) tokens
into-handlers-plan room take build line x b more tokens h f =
    let own = h.is_second in
    let others = into-handlers room take more own.back own.is_second f.2 in
    record {
      value = (line, x, b);
      front = h.front ++ own.front;
      back = own.back;
      whole = h.whole ∙ ap (λ y. h.front ++ y) own.whole ∙ sym (append_assoc h.front own.front own.back);
      is_first = into-except room take line x b more f (h.front ++ own.front) (record { front = h.front; back = own.front; whole = refl; is_first = h.is_first; is_second = own.is_first });
      is_next = (others.list, ap (λ y. build (except_then line x b y)) others.is, others.each);
    }
