-- What the plan of a statement spells is a statement's tokens.
use Rattle.std.proofs.Common.{◌≡◌, ℕ, suc, Bool, true, false, List, [], ◌∷◌, ◌++◌, refl, sym, ◌∙◌, ap, subst, append_assoc}
use Rattle.std.specs.Prelude.{Option, Some, None, codes, IsTrue}
use Rattle.kern_lexer.specs.Bytes.{Bytes}
use Rattle.kern_lexer.specs.Symbols.{Symbol, Lexeme, key, sign, name, quoted}
use Rattle.kern_lexer.specs.declared.token.Key.TheVariants as K
use Rattle.kern_lexer.specs.declared.token.Sign.TheVariants as S
use Rattle.kern_syntax.specs.Grammatical.{IsOpenExpression, IfThere, IsBracketedExpression, has_statement, AreLines, AreBranches, AreHandlers}
use Rattle.kern_syntax.specs.Tree.{Expression, if_then, while_do, for_range, parallel, sequential, record_as, try_do, Block}
use Rattle.kern_grammar.specs.BlockPlans.{line_phrase, a_block, ElifLine, elif_plan, else_plan, otherwise_of, branches_plan, ExceptLine, except_plan, handlers_of_lines, handlers_plan, range_plan, with_plan}
use Rattle.kern_grammar.specs.Blocks.{header, body, lines, branches, excepts, range_symbols}
use Rattle.kern_grammar.specs.Expressions.{expression_symbols, in_parentheses}
use Rattle.kern_grammar.specs.Phrases.{Phrase, symbols_of, these, ◌⨾◌, on_line, BeginsOnLine}
use Rattle.kern_grammar.specs.Plans.{Taker, done, token, Spells, EachOf, MaybeOf}
use Rattle.kern_grammar.specs.SimplePlans.{an_expression, Line}
use Rattle.kern_grammar.specs.Views.{a_name, a_text, the_name, in_key, open_parenthesis, close_parenthesis, dot, comma_or_close, a_with_item, WithItem, in_parallel, in_sequence, recording}
use Rattle.kern_grammar.proofs.BlockSpells.{unalone, block-then, condition-then}
use Rattle.kern_grammar.proofs.LineInto.{to_shape, from_shape}
use Rattle.kern_grammar.proofs.Seen.{a_name-is, a_text-is, the_name-is, elif_key-is, else_key-is, except_key-is, in_key-is, open_parenthesis-is, close_parenthesis-is, dot-is, comma_or_close-is, a_with_item-is, item_word}
use Rattle.kern_grammar.proofs.Steps.{nothing, token-then, before-these, token-before}

-- the first phrase of a sequence stands on the line of the first token
on_front : (t : Lexeme) (ts front : List Lexeme) (back : List Lexeme) (s : Symbol) (symbols : List Symbol) → t ∷ ts ≡ front ++ back → symbols_of front ≡ s ∷ symbols → BeginsOnLine t.line front
on_front t ts [] back s symbols w h = absurd cc
on_front t ts (u ∷ front) back s symbols w h = let same : t ≡ u = cc in ap (λ v. v.line) (sym same)

pub lined : (t : Lexeme) (ts : List Lexeme) (s : Symbol) (symbols : List Symbol) (after : Phrase) → (these (s ∷ symbols) ⨾ after) (t ∷ ts) → (on_line t.line (these (s ∷ symbols)) ⨾ after) (t ∷ ts)
lined t ts s symbols after h = record { front = h.front; back = h.back; whole = h.whole; is_first = (on_front t ts h.front h.back s symbols h.whole h.is_first, h.is_first); is_second = h.is_second }

-- an `elif` branch
pub record ElifFrom (room : ℕ) (x : ElifLine) (tokens : List Lexeme) : Type 0 where
  pub spelled : (on_line x.0 (header (key K.Elif ∷ expression_symbols x.1)) ⨾ body x.2 (lines x.2)) tokens
  pub is_open : IsOpenExpression x.1
  pub fits : IsTrue (has_statement x.2) × AreLines room x.2

elif-from : (room : ℕ) (take : Taker Line) (x : ElifLine) (tokens : List Lexeme) → Spells (elif_plan room take) x tokens → ElifFrom room x tokens
elif-from room take x [] h = absurd h
elif-from room take x (t ∷ ts) h =
    let c = condition-then room take (λ c b. done (t.line, c, b)) x ts h.2 in
    let all = token-before (t ∷ ts) t ts (key K.Elif) (expression_symbols c.condition ++ sign S.Colon ∷ []) (body c.block (lines c.block) ⨾ nothing) refl (elif_key-is t.symbol h.0 h.1) (c.before nothing c.is_next.1) in
    subst (λ y. ElifFrom room y (t ∷ ts)) c.is_next.0
    (record { spelled = lined t ts (key K.Elif) (expression_symbols c.condition ++ sign S.Colon ∷ []) (body c.block (lines c.block)) (unalone _ _ (t ∷ ts) all); is_open = c.is_open; fits = c.fits })

else-from : (room : ℕ) (take : Taker Line) (b : Block) (tokens : List Lexeme) → Spells (else_plan room take) b tokens → (header (key K.Else ∷ []) ⨾ body b (lines b)) tokens × (IsTrue (has_statement b) × AreLines room b)
else-from room take b [] h = absurd h
else-from room take b (t ∷ ts) h =
    let g = block-then room take (λ b. done b) b ts h.2 in
    let all = token-before (t ∷ ts) t ts (key K.Else) (sign S.Colon ∷ []) (body g.block (lines g.block) ⨾ nothing) refl (else_key-is t.symbol h.0 h.1) (g.before nothing g.is_next.1) in
    subst (λ y. (header (key K.Else ∷ []) ⨾ body y (lines y)) (t ∷ ts) × (IsTrue (has_statement y) × AreLines room y)) g.is_next.0 (unalone _ _ (t ∷ ts) all, g.fits)

-- a sequence of two, and what is behind it
pub longer : (first second third : Phrase) (tokens front back : List Lexeme) → tokens ≡ front ++ back → (first ⨾ second) front → third back → (first ⨾ second ⨾ third) tokens
longer first second third tokens front back w h g = record {
  front = h.front;
  back = h.back ++ back;
  whole = w ∙ ap (λ y. y ++ back) h.whole ∙ append_assoc h.front h.back back;
  is_first = h.is_first;
  is_second = record { front = h.back; back = back; whole = refl; is_first = h.is_second; is_second = g };
}

branches-from : (room : ℕ) (take : Taker Line) (list : List ElifLine) (ending : Option Block) (front back : List Lexeme) → EachOf (Spells (elif_plan room take)) list front → MaybeOf (Spells (else_plan room take)) ending back → branches (otherwise_of list ending) (front ++ back) × AreBranches room (otherwise_of list ending)
branches-from room take [] None front back e m = (ap symbols_of (ap (λ y. y ++ back) e ∙ m), tt)
branches-from room take [] (Some b) front back e m =
    let g = else-from room take b back m in (subst (header (key K.Else ∷ []) ⨾ body b (lines b)) (sym (ap (λ y. y ++ back) e)) g.0, g.1)
branches-from room take (x ∷ more) ending front back e m =
    let first = elif-from room take x e.front e.is_first in
    let others = branches-from room take more ending e.back back e.is_second m in (
      longer (on_line x.0 (header (key K.Elif ∷ expression_symbols x.1))) (body x.2 (lines x.2)) (branches (otherwise_of more ending)) (front ++ back) e.front (e.back ++ back) (ap (λ y. y ++ back) e.whole ∙ append_assoc e.front e.back back) first.spelled others.0,
      (first.is_open, first.fits.0, first.fits.1, others.1),
    )

-- an `except` branch
pub record ExceptFrom (room : ℕ) (x : ExceptLine) (tokens : List Lexeme) : Type 0 where
  pub spelled : (on_line x.0 (header (key K.Except ∷ name x.1 ∷ [])) ⨾ body x.2 (lines x.2)) tokens
  pub fits : IsTrue (has_statement x.2) × AreLines room x.2

except-from : (room : ℕ) (take : Taker Line) (x : ExceptLine) (tokens : List Lexeme) → Spells (except_plan room take) x tokens → ExceptFrom room x tokens
except-from room take x [] h = absurd h
except-from room take x (t ∷ ts) h =
    let n = token-then a_name (λ x. a_block room take (λ b. done (t.line, x, b))) x ts h.2 in
    let g = block-then room take (λ b. done (t.line, n.value, b)) x n.rest n.is_next in
    let named = token-before ts n.first n.rest (name n.value) (sign S.Colon ∷ []) (body g.block (lines g.block) ⨾ nothing) n.whole (a_name-is n.first.symbol n.value n.seen) (g.before nothing g.is_next.1) in
    let all = token-before (t ∷ ts) t ts (key K.Except) (name n.value ∷ sign S.Colon ∷ []) (body g.block (lines g.block) ⨾ nothing) refl (except_key-is t.symbol h.0 h.1) named in
    subst (λ y. ExceptFrom room y (t ∷ ts)) g.is_next.0
    (record { spelled = lined t ts (key K.Except) (name n.value ∷ sign S.Colon ∷ []) (body g.block (lines g.block)) (unalone _ _ (t ∷ ts) all); fits = g.fits })

handlers-from : (room : ℕ) (take : Taker Line) (list : List ExceptLine) (tokens : List Lexeme) → EachOf (Spells (except_plan room take)) list tokens → excepts (handlers_of_lines list) tokens × AreHandlers room (handlers_of_lines list)
handlers-from room take [] tokens e = (ap symbols_of e, tt)
handlers-from room take (x ∷ more) tokens e =
    let first = except-from room take x e.front e.is_first in
    let others = handlers-from room take more e.back e.is_second in
    (longer (on_line x.0 (header (key K.Except ∷ name x.1 ∷ []))) (body x.2 (lines x.2)) (excepts (handlers_of_lines more)) tokens e.front e.back e.whole first.spelled others.0, (first.fits.0, first.fits.1, others.1))

-- a statement that was spelled
abbrev pub StatementFrom : (room line : ℕ) → Line → List Lexeme → Type 0
StatementFrom room line x tokens = line_phrase (suc room) x tokens

pub if-from : (room : ℕ) (take : Taker Line) (t : Lexeme) (ts : List Lexeme) (x : Line) → t.symbol ≡ key K.If → Spells (an_expression 16 (λ c. a_block room take (λ b. branches_plan room take (λ more. (t.line, if_then c b more))))) x ts → line_phrase (suc room) x (t ∷ ts)
if-from room take t ts x e h =
    let c = condition-then room take (λ c b. branches_plan room take (λ more. (t.line, if_then c b more))) x ts h in
    let g = c.is_next in
    let o = otherwise_of g.value g.is_next.0 in
    let b = branches-from room take g.value g.is_next.0 g.front g.back g.is_first g.is_next.2 in
    let spelled = token-before (t ∷ ts) t ts (key K.If) (expression_symbols c.condition ++ sign S.Colon ∷ []) (body c.block (lines c.block) ⨾ branches o) refl e (c.before (branches o) (subst (branches o) (sym g.whole) b.0)) in
    subst (λ y. line_phrase (suc room) y (t ∷ ts)) g.is_next.1 ((refl, spelled), (c.is_open, (c.fits.0, c.fits.1, b.1)))

pub while-from : (room : ℕ) (take : Taker Line) (t : Lexeme) (ts : List Lexeme) (x : Line) → t.symbol ≡ key K.While → Spells (an_expression 16 (λ c. a_block room take (λ b. done (t.line, while_do c b)))) x ts → line_phrase (suc room) x (t ∷ ts)
while-from room take t ts x e h =
    let c = condition-then room take (λ c b. done (t.line, while_do c b)) x ts h in
    let spelled = token-before (t ∷ ts) t ts (key K.While) (expression_symbols c.condition ++ sign S.Colon ∷ []) (body c.block (lines c.block) ⨾ nothing) refl e (c.before nothing c.is_next.1) in
    subst (λ y. line_phrase (suc room) y (t ∷ ts)) c.is_next.0 ((refl, unalone _ _ (t ∷ ts) spelled), (c.is_open, c.fits))

-- the bounds in their parentheses
abbrev pub in_range : Option Expression → Expression → List Symbol
in_range None to = in_parentheses (expression_symbols to)
in_range (Some from) to = in_parentheses (expression_symbols from ++ sign S.Comma ∷ expression_symbols to)

pub range-words : (from : Option Expression) (to : Expression) → range_symbols from to ≡ name (codes "range") ∷ in_range from to
range-words None to = refl
range-words (Some from) to = refl

-- the bounds of a `for` behind its first expression
pub record RangeFrom (room line : ℕ) (x : Bytes) (first : Expression) (r : Line) (tokens : List Lexeme) : Type 0 where
  pub from : Option Expression
  pub to : Expression
  pub block : Block
  pub symbols : List Symbol
  pub is : (line, for_range x from to block) ≡ r
  pub shape : sign S.OpenParenthesis ∷ (expression_symbols first ++ symbols) ≡ in_range from to ++ sign S.Colon ∷ []
  pub spelled : (these symbols ⨾ (body block (lines block) ⨾ nothing)) tokens
  pub from_fits : IfThere IsBracketedExpression from
  pub to_fits : IsBracketedExpression to
  pub fits : IsTrue (has_statement block) × AreLines room block

range-from : (room : ℕ) (take : Taker Line) (line : ℕ) (x : Bytes) (first : Expression) (has_more : Bool) (r : Line) (t : Lexeme) (ts : List Lexeme) → comma_or_close t.symbol ≡ Some has_more → IsBracketedExpression first → Spells (range_plan (λ from to. a_block room take (λ b. done (line, for_range x from to b))) first has_more) r ts → RangeFrom room line x first r (t ∷ ts)
range-from room take line x first true r t ts seen f h =
    let c = token-then close_parenthesis (λ seen. a_block room take (λ b. done (line, for_range x (Some first) h.value b))) r h.back h.is_next in
    let g = block-then room take (λ b. done (line, for_range x (Some first) h.value b)) r c.rest c.is_next in
    let closed = token-before h.back c.first c.rest (sign S.CloseParenthesis) (sign S.Colon ∷ []) (body g.block (lines g.block) ⨾ nothing) c.whole (close_parenthesis-is c.first.symbol c.value c.seen) (g.before nothing g.is_next.1) in
    let upper = before-these ts h.front h.back (expression_symbols h.value) (sign S.CloseParenthesis ∷ sign S.Colon ∷ []) (body g.block (lines g.block) ⨾ nothing) h.whole h.is_first.0 closed in
    let all = token-before (t ∷ ts) t ts (sign S.Comma) (expression_symbols h.value ++ (sign S.CloseParenthesis ∷ sign S.Colon ∷ [])) (body g.block (lines g.block) ⨾ nothing) refl (comma_or_close-is t.symbol true seen) upper in
    record {
      from = Some first;
      to = h.value;
      block = g.block;
      symbols = sign S.Comma ∷ (expression_symbols h.value ++ (sign S.CloseParenthesis ∷ sign S.Colon ∷ []));
      is = g.is_next.0;
      shape = sym (from_shape first h.value);
      spelled = all;
      from_fits = f;
      to_fits = h.is_first.1.1;
      fits = g.fits;
    }
range-from room take line x first false r t ts seen f h =
    let g = block-then room take (λ b. done (line, for_range x None first b)) r ts h in
    let all = token-before (t ∷ ts) t ts (sign S.CloseParenthesis) (sign S.Colon ∷ []) (body g.block (lines g.block) ⨾ nothing) refl (comma_or_close-is t.symbol false seen) (g.before nothing g.is_next.1) in
    record { from = None; to = first; block = g.block; symbols = sign S.CloseParenthesis ∷ sign S.Colon ∷ []; is = g.is_next.0; shape = sym (to_shape first); spelled = all; from_fits = tt; to_fits = f; fits = g.fits }

pub for-from : (room : ℕ) (take : Taker Line) (t : Lexeme) (ts : List Lexeme) (r : Line) → t.symbol ≡ key K.For → Spells (token a_name (λ x. token in_key (λ seen. token (the_name (codes "range")) (λ seen. token open_parenthesis (λ seen. an_expression 15 (λ first. token comma_or_close (range_plan (λ from to. a_block room take (λ b. done (t.line, for_range x from to b))) first))))))) r ts → line_phrase (suc room) r (t ∷ ts)
for-from room take t ts r e h =
    let n = token-then a_name (λ x. token in_key (λ seen. token (the_name (codes "range")) (λ seen. token open_parenthesis (λ seen. an_expression 15 (λ first. token comma_or_close (range_plan (λ from to. a_block room take (λ b. done (t.line, for_range x from to b))) first)))))) r ts h in
    let i = token-then in_key (λ seen. token (the_name (codes "range")) (λ seen. token open_parenthesis (λ seen. an_expression 15 (λ first. token comma_or_close (range_plan (λ from to. a_block room take (λ b. done (t.line, for_range n.value from to b))) first))))) r n.rest n.is_next in
    let w = token-then (the_name (codes "range")) (λ seen. token open_parenthesis (λ seen. an_expression 15 (λ first. token comma_or_close (range_plan (λ from to. a_block room take (λ b. done (t.line, for_range n.value from to b))) first)))) r i.rest i.is_next in
    let p = token-then open_parenthesis (λ seen. an_expression 15 (λ first. token comma_or_close (range_plan (λ from to. a_block room take (λ b. done (t.line, for_range n.value from to b))) first))) r w.rest w.is_next in
    let first = p.is_next in
    let c = token-then comma_or_close (range_plan (λ from to. a_block room take (λ b. done (t.line, for_range n.value from to b))) first.value) r first.back first.is_next in
    let g = range-from room take t.line n.value first.value c.value r c.first c.rest c.seen first.is_first.1.1 c.is_next in
    let after = body g.block (lines g.block) ⨾ nothing in
    let behind = subst (these g.symbols ⨾ after) (sym c.whole) g.spelled in
    let bounds = before-these p.rest first.front first.back (expression_symbols first.value) g.symbols after first.whole first.is_first.0 behind in
    let opened = token-before w.rest p.first p.rest (sign S.OpenParenthesis) (expression_symbols first.value ++ g.symbols) after p.whole (open_parenthesis-is p.first.symbol p.value p.seen) bounds in
    let shaped = subst (λ y. (these y ⨾ after) w.rest) g.shape opened in
    let ranged = token-before i.rest w.first w.rest (name (codes "range")) (in_range g.from g.to ++ sign S.Colon ∷ []) after w.whole (the_name-is (codes "range") w.first.symbol w.value w.seen) shaped in
    let worded = subst (λ y. (these (y ++ sign S.Colon ∷ []) ⨾ after) i.rest) (sym (range-words g.from g.to)) ranged in
    let inned = token-before n.rest i.first i.rest (key K.In) (range_symbols g.from g.to ++ sign S.Colon ∷ []) after i.whole (in_key-is i.first.symbol i.value i.seen) worded in
    let named = token-before ts n.first n.rest (name n.value) (key K.In ∷ (range_symbols g.from g.to ++ sign S.Colon ∷ [])) after n.whole (a_name-is n.first.symbol n.value n.seen) inned in
    let all = token-before (t ∷ ts) t ts (key K.For) (name n.value ∷ key K.In ∷ (range_symbols g.from g.to ++ sign S.Colon ∷ [])) after refl e named in
    subst (λ y. line_phrase (suc room) y (t ∷ ts)) g.is ((refl, unalone _ _ (t ∷ ts) all), (g.from_fits, g.to_fits, g.fits))

-- a `with`
with-from : (room : ℕ) (take : Taker Line) (t : Lexeme) (u : Lexeme) (us : List Lexeme) (r : Line) (i : WithItem) → t.symbol ≡ key K.With → u.symbol ≡ name (item_word i) → Spells (with_plan room take t.line i) r us → line_phrase (suc room) r (t ∷ u ∷ us)
with-from room take t u us r in_parallel e n h =
    let g = block-then room take (λ b. done (t.line, parallel b)) r us h in
    let after = body g.block (lines g.block) ⨾ nothing in
    let all = token-before (t ∷ u ∷ us) t (u ∷ us) (key K.With) (name (codes "parallel") ∷ sign S.Colon ∷ []) after refl e (token-before (u ∷ us) u us (name (codes "parallel")) (sign S.Colon ∷ []) after refl n (g.before nothing g.is_next.1)) in
    subst (λ y. line_phrase (suc room) y (t ∷ u ∷ us)) g.is_next.0 ((refl, unalone _ _ (t ∷ u ∷ us) all), g.fits)
with-from room take t u us r in_sequence e n h =
    let g = block-then room take (λ b. done (t.line, sequential b)) r us h in
    let after = body g.block (lines g.block) ⨾ nothing in
    let all = token-before (t ∷ u ∷ us) t (u ∷ us) (key K.With) (name (codes "sequential") ∷ sign S.Colon ∷ []) after refl e (token-before (u ∷ us) u us (name (codes "sequential")) (sign S.Colon ∷ []) after refl n (g.before nothing g.is_next.1)) in
    subst (λ y. line_phrase (suc room) y (t ∷ u ∷ us)) g.is_next.0 ((refl, unalone _ _ (t ∷ u ∷ us) all), g.fits)
with-from room take t u us r recording e n h =
    let d = token-then dot (λ seen. token (the_name (codes "record")) (λ seen. token open_parenthesis (λ seen. token a_text (λ text. token close_parenthesis (λ seen. a_block room take (λ b. done (t.line, record_as text b))))))) r us h in
    let w = token-then (the_name (codes "record")) (λ seen. token open_parenthesis (λ seen. token a_text (λ text. token close_parenthesis (λ seen. a_block room take (λ b. done (t.line, record_as text b)))))) r d.rest d.is_next in
    let p = token-then open_parenthesis (λ seen. token a_text (λ text. token close_parenthesis (λ seen. a_block room take (λ b. done (t.line, record_as text b))))) r w.rest w.is_next in
    let q = token-then a_text (λ text. token close_parenthesis (λ seen. a_block room take (λ b. done (t.line, record_as text b)))) r p.rest p.is_next in
    let c = token-then close_parenthesis (λ seen. a_block room take (λ b. done (t.line, record_as q.value b))) r q.rest q.is_next in
    let g = block-then room take (λ b. done (t.line, record_as q.value b)) r c.rest c.is_next in
    let after = body g.block (lines g.block) ⨾ nothing in
    let closed = token-before q.rest c.first c.rest (sign S.CloseParenthesis) (sign S.Colon ∷ []) after c.whole (close_parenthesis-is c.first.symbol c.value c.seen) (g.before nothing g.is_next.1) in
    let texted = token-before p.rest q.first q.rest (quoted q.value) (sign S.CloseParenthesis ∷ sign S.Colon ∷ []) after q.whole (a_text-is q.first.symbol q.value q.seen) closed in
    let opened = token-before w.rest p.first p.rest (sign S.OpenParenthesis) (quoted q.value ∷ sign S.CloseParenthesis ∷ sign S.Colon ∷ []) after p.whole (open_parenthesis-is p.first.symbol p.value p.seen) texted in
    let worded = token-before d.rest w.first w.rest (name (codes "record")) (sign S.OpenParenthesis ∷ quoted q.value ∷ sign S.CloseParenthesis ∷ sign S.Colon ∷ []) after w.whole (the_name-is (codes "record") w.first.symbol w.value w.seen) opened in
    let dotted = token-before us d.first d.rest (sign S.Dot) (name (codes "record") ∷ sign S.OpenParenthesis ∷ quoted q.value ∷ sign S.CloseParenthesis ∷ sign S.Colon ∷ []) after d.whole (dot-is d.first.symbol d.value d.seen) worded in
    let all = token-before (t ∷ u ∷ us) t (u ∷ us) (key K.With) (name (codes "core_dma") ∷ sign S.Dot ∷ name (codes "record") ∷ sign S.OpenParenthesis ∷ quoted q.value ∷ sign S.CloseParenthesis ∷ sign S.Colon ∷ []) after refl e (token-before (u ∷ us) u us (name (codes "core_dma")) (sign S.Dot ∷ name (codes "record") ∷ sign S.OpenParenthesis ∷ quoted q.value ∷ sign S.CloseParenthesis ∷ sign S.Colon ∷ []) after refl n dotted) in
    subst (λ y. line_phrase (suc room) y (t ∷ u ∷ us)) g.is_next.0 ((refl, unalone _ _ (t ∷ u ∷ us) all), g.fits)

pub with-item-from : (room : ℕ) (take : Taker Line) (t : Lexeme) (ts : List Lexeme) (r : Line) → t.symbol ≡ key K.With → Spells (token a_with_item (with_plan room take t.line)) r ts → line_phrase (suc room) r (t ∷ ts)
with-item-from room take t [] r e h = absurd h
with-item-from room take t (u ∷ us) r e h = with-from room take t u us r h.0 e (a_with_item-is u.symbol h.0 h.1) h.2

-- a `try`
pub try-from : (room : ℕ) (take : Taker Line) (t : Lexeme) (ts : List Lexeme) (r : Line) → t.symbol ≡ key K.Try → Spells (a_block room take (λ b. handlers_plan room take (λ handlers. (t.line, try_do b handlers)))) r ts → line_phrase (suc room) r (t ∷ ts)
try-from room take t ts r e h =
    let g = block-then room take (λ b. handlers_plan room take (λ handlers. (t.line, try_do b handlers))) r ts h in
    let k = g.is_next in
    let list = k.value ∷ k.is_next.0 in
    let each : EachOf (Spells (except_plan room take)) list g.rest = record { front = k.front; back = k.back; whole = k.whole; is_first = k.is_first; is_second = k.is_next.2 } in
    let b = handlers-from room take list g.rest each in
    let all = token-before (t ∷ ts) t ts (key K.Try) (sign S.Colon ∷ []) (body g.block (lines g.block) ⨾ excepts (handlers_of_lines list)) refl e (g.before (excepts (handlers_of_lines list)) b.0) in
    subst (λ y. line_phrase (suc room) y (t ∷ ts)) k.is_next.1 ((refl, all), (g.fits.0, g.fits.1, refl, b.1))
