-- The plan of a block spells it.
use Rattle.std.proofs.Common.{◌≡◌, ℕ, Bool, true, false, List, [], ◌∷◌, ◌++◌, refl, sym, ◌∙◌, ap, subst, append_assoc, append-nil, inl, inr}
use Rattle.std.specs.Prelude.{IsTrue}
use Rattle.kern_lexer.specs.Symbols.{Lexeme, sign, newline, indent, dedent}
use Rattle.kern_lexer.specs.declared.token.Sign.TheVariants as S
use Rattle.kern_syntax.specs.Grammatical.{has_statement, AreLines, IsOpenExpression}
use Rattle.kern_syntax.specs.Tree.{Expression, Statement, Block, line_then}
use Rattle.kern_syntax.specs.Tree as Tree
use Rattle.kern_grammar.specs.BlockPlans.{line_phrase, line_stop, no_stop, block_of_lines, block_phrase, is_line, block_by, block_plan, a_block}
use Rattle.kern_grammar.specs.Blocks.{body, lines}
use Rattle.kern_grammar.specs.Expressions.{expression_symbols}
use Rattle.kern_grammar.specs.Phrases.{Phrase, symbols_of, these, ◌⨾◌, BeginsOnLine, one_line}
use Rattle.kern_grammar.specs.Plans.{Taker, Plan, done, token, part, run, Spells, many, EachOf, EachEnds}
use Rattle.kern_grammar.specs.SimplePlans.{an_expression, Line, simple_plan}
use Rattle.kern_grammar.specs.Views.{line_end, indented, dedented, colon, is_seen, opening}
use Rattle.kern_grammar.proofs.Seen.{line_end-is, indented-is, dedented-is, colon-is, opening-is}
use Rattle.kern_grammar.proofs.SimpleFrom.{simple-from}
use Rattle.kern_grammar.proofs.SimpleInto.{SimpleInto, into-simple}
use Rattle.kern_grammar.proofs.SimpleSpells.{open-fits}
use Rattle.kern_grammar.proofs.Steps.{nothing, StartsWith, starts, step-token, step-expression, step-end, token-then, before-these, token-before, nothing-before}
use Rattle.kern_grammar.proofs.Taking.{Takes}

-- the phrases of a kind, said otherwise
pub converted : {A : Type 0} (first second stop : A → List Lexeme → Type 0) (take : Taker A) → ((x : A) (tokens : List Lexeme) → first x tokens → second x tokens) → ((x : A) (tokens : List Lexeme) → second x tokens → first x tokens) → Takes first stop take → Takes second stop take
converted first second stop take there back takes = record {
  complete = λ x front rest p s. takes.complete x front rest (back x front p) s;
  found = λ given x rest h. (let f = takes.found given x rest h in record { front = f.front; whole = f.whole; is_phrase = there x f.front f.is_phrase; stopped = f.stopped });
  fault = λ given left h. (let f = takes.fault given left h in record { before = f.before; completion = f.completion; more = f.more; whole = f.whole; completed = there f.completion (f.before ++ f.more) f.completed; same = f.same });
  some = record { value = takes.some.value; tokens = takes.some.tokens; is_phrase = there takes.some.value takes.some.tokens takes.some.is_phrase };
  alike = takes.alike;
}

pub no-symbols : (tokens : List Lexeme) → symbols_of tokens ≡ [] → tokens ≡ []
no-symbols [] h = refl
no-symbols (t ∷ tokens) h = absurd cc

-- the lines of a block as a list
pub record ListOf (room : ℕ) (b : Block) (tokens : List Lexeme) : Type 0 where
  pub list : List Line
  pub is : block_of_lines list ≡ b
  pub each : EachOf (line_phrase room) list tokens

pub lines-list : (room : ℕ) (b : Block) (tokens : List Lexeme) → lines b tokens → AreLines room b → ListOf room b tokens
lines-list room Tree.done tokens h f = record { list = []; is = refl; each = no-symbols tokens h }
lines-list room (line_then line s more) tokens h f =
    let others = lines-list room more h.back h.is_second f.1 in
    record {
      list = (line, s) ∷ others.list;
      is = ap (λ y. line_then line s y) others.is;
      each = record { front = h.front; back = h.back; whole = h.whole; is_first = (h.is_first, f.0); is_second = others.each };
    }

pub list-lines : (room : ℕ) (list : List Line) (tokens : List Lexeme) → EachOf (line_phrase room) list tokens → lines (block_of_lines list) tokens × AreLines room (block_of_lines list)
list-lines room [] tokens h = (ap symbols_of h, tt)
list-lines room (x ∷ more) tokens h =
    let others = list-lines room more h.back h.is_second in
    (record { front = h.front; back = h.back; whole = h.whole; is_first = h.is_first.0; is_second = others.0 }, (h.is_first.1, others.1))

-- a block on the line of its header
into-one : (room : ℕ) (take : Taker Line) (line : ℕ) (s : Statement) (tokens : List Lexeme) → BeginsOnLine line tokens → (i : SimpleInto (λ s. line_then line s Tree.done) s tokens) → Spells (block_plan room take) (line_then line s Tree.done) tokens
into-one room take line s [] b i = absurd b
into-one room take line s (t ∷ ts) b i =
    let plain : is_seen (line_end t.symbol) ≡ false = ap (λ y. is_seen (line_end y)) i.begins ∙ i.marks.no_end in
    let placed : Spells (simple_plan (λ s. line_then t.line s Tree.done) (opening i.first)) (line_then line s Tree.done) (t ∷ ts) =
    subst (λ l. Spells (simple_plan (λ s. line_then l s Tree.done) (opening i.first)) (line_then line s Tree.done) (t ∷ ts)) (sym b) i.spelled in
    subst (λ c. Spells (block_by room take t c) (line_then line s Tree.done) (t ∷ ts)) (sym plain)
    (subst (λ y. Spells (simple_plan (λ s. line_then t.line s Tree.done) (opening y)) (line_then line s Tree.done) (t ∷ ts)) (sym i.begins) placed)

one-line-into : (room : ℕ) (take : Taker Line) (b : Block) (tokens : List Lexeme) → one_line b tokens → AreLines room b → Spells (block_plan room take) b tokens
one-line-into room take Tree.done tokens h f = absurd h
one-line-into room take (line_then line s Tree.done) tokens h f = into-one room take line s tokens h.0 (into-simple (λ s. line_then line s Tree.done) room s tokens f.0 h.1)
one-line-into room take (line_then line s (line_then next t rest)) tokens h f = absurd h

-- the last Dedent
into-dedent : (b c : Block) (tokens : List Lexeme) → b ≡ c → symbols_of tokens ≡ dedent ∷ [] → Spells (token dedented (λ seen. done b)) c tokens
into-dedent b c [] e h = absurd cc
into-dedent b c (t ∷ ts) e h =
    let is : t.symbol ≡ dedent = cc in
    let none : symbols_of ts ≡ [] = cc in
    (tt, ap dedented is, (e, no-symbols ts none))

-- indented lines
indented-into : (room : ℕ) (take : Taker Line) (b : Block) (tokens : List Lexeme) → (lines b ⨾ these (dedent ∷ [])) tokens → IsTrue (has_statement b) → AreLines room b → Spells (part (line_phrase room) line_stop take (λ first. part (EachOf (line_phrase room)) (EachEnds line_stop is_line) (many is_line take) (λ more. token dedented (λ seen. done (block_of_lines (first ∷ more)))))) b tokens
indented-into room take Tree.done tokens h one f = absurd (let no_line : false ≡ true = one in cc)
indented-into room take (line_then line s more) tokens h one f =
    let own = h.is_first in
    let others = lines-list room more own.back own.is_second f.1 in
    record {
      value = (line, s);
      front = own.front;
      back = own.back ++ h.back;
      whole = h.whole ∙ ap (λ y. y ++ h.back) own.whole ∙ append_assoc own.front own.back h.back;
      is_first = (own.is_first, f.0);
      is_next = record {
        value = others.list;
        front = own.back;
        back = h.back;
        whole = refl;
        is_first = others.each;
        is_next = into-dedent (block_of_lines ((line, s) ∷ others.list)) (line_then line s more) h.back (ap (λ y. line_then line s y) others.is) h.is_second;
      };
    }

look-indented : (room : ℕ) (take : Taker Line) (b : Block) (tokens : List Lexeme) → StartsWith newline tokens → ((t : Lexeme) → Spells (block_by room take t true) b tokens) → Spells (block_plan room take) b tokens
look-indented room take b [] w h = absurd w
look-indented room take b (t ∷ ts) w h = subst (λ c. Spells (block_by room take t c) b (t ∷ ts)) (sym (ap (λ y. is_seen (line_end y)) w)) (h t)

lines-into : (room : ℕ) (take : Taker Line) (b : Block) (tokens : List Lexeme) → (these (newline ∷ indent ∷ []) ⨾ lines b ⨾ these (dedent ∷ [])) tokens → IsTrue (has_statement b) → AreLines room b → Spells (block_plan room take) b tokens
lines-into room take b tokens h one f =
    let plan : Plan Block = part (line_phrase room) line_stop take (λ first. part (EachOf (line_phrase room)) (EachEnds line_stop is_line) (many is_line take) (λ more. token dedented (λ seen. done (block_of_lines (first ∷ more))))) in
    look-indented room take b tokens (starts tokens newline (indent ∷ []) _ h)
    (λ t. step-token line_end (λ seen. token indented (λ seen. plan)) b newline tt (indent ∷ []) (lines b ⨾ these (dedent ∷ [])) refl
    (λ r1 g1. step-token indented (λ seen. plan) b indent tt [] (lines b ⨾ these (dedent ∷ [])) refl (λ r2 g2. indented-into room take b r2 (step-end r2 _ g2) one f) r1 g1)
    tokens h)

pub block-into : (room : ℕ) (take : Taker Line) (b : Block) (tokens : List Lexeme) → block_phrase room b tokens → Spells (block_plan room take) b tokens
block-into room take b tokens h =
    elim h.0 [ inl one ↦ one-line-into room take b tokens one h.1.1 | inr more ↦ lines-into room take b tokens more h.1.0 h.1.1 ]

-- from the plan
indented-from : (room : ℕ) (take : Taker Line) (b : Block) (tokens : List Lexeme) → Spells (part (line_phrase room) line_stop take (λ first. part (EachOf (line_phrase room)) (EachEnds line_stop is_line) (many is_line take) (λ more. token dedented (λ seen. done (block_of_lines (first ∷ more)))))) b tokens → (lines b ⨾ these (dedent ∷ [])) tokens × (IsTrue (has_statement b) × AreLines room b)
indented-from room take b tokens h =
    let more = h.is_next in
    let t = token-then dedented (λ seen. done (block_of_lines (h.value ∷ more.value))) b more.back more.is_next in
    let others = list-lines room more.value more.front more.is_first in
    let whole : Block = block_of_lines (h.value ∷ more.value) in
    let is : whole ≡ b = t.is_next.0 in
    let end : symbols_of more.back ≡ dedent ∷ [] = ap symbols_of t.whole ∙ ap (λ y. y ∷ symbols_of t.rest) (dedented-is t.first.symbol t.value t.seen) ∙ ap (λ y. dedent ∷ y) (ap symbols_of t.is_next.1) in
    let spelled : (lines whole ⨾ these (dedent ∷ [])) tokens = record {
      front = h.front ++ more.front;
      back = more.back;
      whole = h.whole ∙ ap (λ y. h.front ++ y) more.whole ∙ sym (append_assoc h.front more.front more.back);
      is_first = record { front = h.front; back = more.front; whole = refl; is_first = h.is_first.0; is_second = others.0 };
      is_second = end;
    } in
    let fits : IsTrue (has_statement whole) × AreLines room whole = (refl, (h.is_first.1, others.1)) in
    (subst (λ y. (lines y ⨾ these (dedent ∷ [])) tokens) is spelled, subst (λ y. IsTrue (has_statement y) × AreLines room y) is fits)

block_by-from : (room : ℕ) (take : Taker Line) (is_indented : Bool) (b : Block) (t : Lexeme) (ts : List Lexeme) → Spells (block_by room take t is_indented) b (t ∷ ts) → block_phrase room b (t ∷ ts)
block_by-from room take true b t ts h =
    let plan : Plan Block = part (line_phrase room) line_stop take (λ first. part (EachOf (line_phrase room)) (EachEnds line_stop is_line) (many is_line take) (λ more. token dedented (λ seen. done (block_of_lines (first ∷ more))))) in
    let u = token-then indented (λ seen. plan) b ts h.2 in
    let g = indented-from room take b u.rest u.is_next in
    let all : (these (newline ∷ indent ∷ []) ⨾ lines b ⨾ these (dedent ∷ [])) (t ∷ ts) =
    token-before (t ∷ ts) t ts newline (indent ∷ []) (lines b ⨾ these (dedent ∷ [])) refl (line_end-is t.symbol h.0 h.1)
    (token-before ts u.first u.rest indent [] (lines b ⨾ these (dedent ∷ [])) u.whole (indented-is u.first.symbol u.value u.seen) (nothing-before u.rest (lines b ⨾ these (dedent ∷ [])) g.0)) in
    (inr all, g.1)
block_by-from room take false b t ts h =
    let g = simple-from (λ s. line_then t.line s Tree.done) (opening t.symbol) b t ts (opening-is t.symbol) h in
    subst (λ y. block_phrase room y (t ∷ ts)) g.is (inl (refl, g.spelled), (refl, (g.fits room, tt)))

pub block-from : (room : ℕ) (take : Taker Line) (b : Block) (tokens : List Lexeme) → Spells (block_plan room take) b tokens → block_phrase room b tokens
block-from room take b [] h = absurd h
block-from room take b (t ∷ ts) h = block_by-from room take (is_seen (line_end t.symbol)) b t ts h

-- the second of two phrases, alone
pub alone : (first second : Phrase) (tokens : List Lexeme) → (first ⨾ second) tokens → (first ⨾ (second ⨾ nothing)) tokens
alone first second tokens h = record { front = h.front; back = h.back; whole = h.whole; is_first = h.is_first; is_second = record { front = h.back; back = []; whole = sym (append-nil h.back); is_first = h.is_second; is_second = refl } }

pub unalone : (first second : Phrase) (tokens : List Lexeme) → (first ⨾ (second ⨾ nothing)) tokens → (first ⨾ second) tokens
unalone first second tokens h =
    let k = h.is_second in
    let same : h.back ≡ k.front = k.whole ∙ ap (λ y. k.front ++ y) k.is_second ∙ append-nil k.front in
    record { front = h.front; back = h.back; whole = h.whole; is_first = h.is_first; is_second = subst second (sym same) k.is_first }

-- a colon and a block, before what follows it
pub into-a_block : {A : Type 0} (room : ℕ) (take : Taker Line) (next : Block → Plan A) (a : A) (b : Block) (after : Phrase) → IsTrue (has_statement b) × AreLines room b → ((rest : List Lexeme) → after rest → Spells (next b) a rest) → (tokens : List Lexeme) → (these (sign S.Colon ∷ []) ⨾ (body b (lines b) ⨾ after)) tokens → Spells (a_block room take next) a tokens
into-a_block room take next a b after f k tokens h =
    step-token colon (λ seen. part (block_phrase room) no_stop (run (block_plan room take)) next) a (sign S.Colon) tt [] (body b (lines b) ⨾ after) refl
    (λ rest g. let own = step-end rest (body b (lines b) ⨾ after) g in record { value = b; front = own.front; back = own.back; whole = own.whole; is_first = (own.is_first, f); is_next = k own.back own.is_second })
    tokens h

-- an expression, a colon and a block
pub into-condition : {A : Type 0} (room : ℕ) (take : Taker Line) (next : Expression → Block → Plan A) (a : A) (c : Expression) (b : Block) (after : Phrase) → IsOpenExpression c → IsTrue (has_statement b) × AreLines room b → ((rest : List Lexeme) → after rest → Spells (next c b) a rest) → (tokens : List Lexeme) → (these (expression_symbols c ++ sign S.Colon ∷ []) ⨾ (body b (lines b) ⨾ after)) tokens → Spells (an_expression 16 (λ c. a_block room take (next c))) a tokens
into-condition room take next a c b after e f k tokens h =
    step-expression 16 (λ c. a_block room take (next c)) a c (sign S.Colon ∷ []) (body b (lines b) ⨾ after) (open-fits 16 c e)
    (λ rest g. into-a_block room take (next c) a b after f k rest g) tokens h

-- from the plan: a colon and a block
pub record BlockThen {A : Type 0} (room : ℕ) (next : Block → Plan A) (a : A) (tokens : List Lexeme) : Type 1 where
  pub block : Block
  pub rest : List Lexeme
  pub fits : IsTrue (has_statement block) × AreLines room block
  pub is_next : Spells (next block) a rest
  pub before : (after : Phrase) → after rest → (these (sign S.Colon ∷ []) ⨾ (body block (lines block) ⨾ after)) tokens

pub block-then : {A : Type 0} (room : ℕ) (take : Taker Line) (next : Block → Plan A) (a : A) (tokens : List Lexeme) → Spells (a_block room take next) a tokens → BlockThen room next a tokens
block-then room take next a tokens h =
    let t = token-then colon (λ seen. part (block_phrase room) no_stop (run (block_plan room take)) next) a tokens h in
    let g = t.is_next in
    record {
      block = g.value;
      rest = g.back;
      fits = g.is_first.1;
      is_next = g.is_next;
      before = λ after k. token-before tokens t.first t.rest (sign S.Colon) [] (body g.value (lines g.value) ⨾ after) t.whole (colon-is t.first.symbol t.value t.seen)
          (nothing-before t.rest (body g.value (lines g.value) ⨾ after) (record { front = g.front; back = g.back; whole = g.whole; is_first = g.is_first.0; is_second = k }));
    }

-- an expression, a colon and a block
pub record ConditionThen {A : Type 0} (room : ℕ) (next : Expression → Block → Plan A) (a : A) (tokens : List Lexeme) : Type 1 where
  pub condition : Expression
  pub block : Block
  pub rest : List Lexeme
  pub is_open : IsOpenExpression condition
  pub fits : IsTrue (has_statement block) × AreLines room block
  pub is_next : Spells (next condition block) a rest
  pub before : (after : Phrase) → after rest → (these (expression_symbols condition ++ sign S.Colon ∷ []) ⨾ (body block (lines block) ⨾ after)) tokens

pub condition-then : {A : Type 0} (room : ℕ) (take : Taker Line) (next : Expression → Block → Plan A) (a : A) (tokens : List Lexeme) → Spells (an_expression 16 (λ c. a_block room take (next c))) a tokens → ConditionThen room next a tokens
condition-then room take next a tokens h =
    let g = block-then room take (next h.value) a h.back h.is_next in
    record {
      condition = h.value;
      block = g.block;
      rest = g.rest;
      is_open = h.is_first.1.1;
      fits = g.fits;
      is_next = g.is_next;
      before = λ after k. before-these tokens h.front h.back (expression_symbols h.value) (sign S.Colon ∷ []) (body g.block (lines g.block) ⨾ after) h.whole h.is_first.0 (g.before after k);
    }
