-- The canonical tokens of a tree have the tree again, with lines of their own.
use Rattle.std.proofs.Common.{◌≡◌, ℕ, zero, suc, List, [], ◌∷◌, ◌++◌, refl, sym, ◌∙◌, ap, subst, append_assoc, append-nil, inl, inr, map, length}
use Rattle.std.specs.Prelude.{Some, IsTrue, codes, unwrap_or, nat_lt}
use Rattle.kern_lexer.specs.Symbols.{Symbol, Lexeme, name, key, sign, newline, indent, dedent}
use Rattle.kern_lexer.specs.declared.token.Key.TheVariants as K
use Rattle.kern_lexer.specs.declared.token.Sign.TheVariants as S
use Rattle.kern_syntax.specs.Grammatical.{Deeper, has_statement, has_handler, IsStatement, AreLines, AreBranches, AreHandlers, IsFunction, AreFunctions, IsGrammatical}
use Rattle.kern_syntax.specs.Lines.{without_lines, block_without_lines, otherwise_without_lines, handlers_without_lines, function_without_lines, SameButLines}
use Rattle.kern_syntax.specs.Tree.{Expression, Statement, pass, break, continue, return, evaluate, assign, assign_element, augment, augment_element, assign_repeated, assign_list, if_then, while_do, for_range, parallel, sequential, record_as, try_do, Block, done, line_then, Otherwise, no_else, else_do, elif_then, Handlers, no_handler, except_then, FunctionTree, ProgramTree}
use Rattle.kern_grammar.specs.Accepted.{HasTree}
use Rattle.kern_grammar.specs.Blocks.{header, body, statement, lines, branches, excepts, function, function_symbols, program, range_symbols, record_symbols}
use Rattle.kern_grammar.specs.Canonical.{with_block, statement_tokens, block_tokens, branch_tokens, except_tokens, function_tokens, program_tokens}
use Rattle.kern_grammar.specs.Expressions.{expression_symbols}
use Rattle.kern_grammar.specs.Phrases as P
use Rattle.kern_grammar.specs.Phrases.{Phrase, symbols_of, these, Sequence, ◌⨾◌, on_line, BeginsOnLine, simple_line}
use Rattle.kern_grammar.specs.Simple.{simple_symbols}
use Rattle.kern_grammar.proofs.Firsts.{head}
use Rattle.kern_grammar.proofs.LiftedReads.{Cut, cut}

-- a statement again, with lines of its own
pub record StatementAgain (s : Statement) (tokens : List Lexeme) : Type 0 where
  pub again : Statement
  pub spelled : statement again tokens
  pub same : without_lines again ≡ without_lines s
  pub fits : (room : ℕ) → IsStatement room s → IsStatement room again

pub record LinesAgain (b : Block) (tokens : List Lexeme) : Type 0 where
  pub again : Block
  pub spelled : lines again tokens
  pub same : block_without_lines again ≡ block_without_lines b
  pub fits : (room : ℕ) → AreLines room b → AreLines room again
  pub some : has_statement again ≡ has_statement b

pub record BranchesAgain (o : Otherwise) (tokens : List Lexeme) : Type 0 where
  pub again : Otherwise
  pub spelled : branches again tokens
  pub same : otherwise_without_lines again ≡ otherwise_without_lines o
  pub fits : (room : ℕ) → AreBranches room o → AreBranches room again

pub record HandlersAgain (h : Handlers) (tokens : List Lexeme) : Type 0 where
  pub again : Handlers
  pub spelled : excepts again tokens
  pub same : handlers_without_lines again ≡ handlers_without_lines h
  pub fits : (room : ℕ) → AreHandlers room h → AreHandlers room again
  pub some : has_handler again ≡ has_handler h

-- the tokens of a header and its block, and those behind them
pub record Blocked (hs blk tail : List Symbol) (tokens : List Lexeme) : Type 0 where
  pub head : List Lexeme
  pub inside : List Lexeme
  pub block : List Lexeme
  pub after : List Lexeme
  pub whole : tokens ≡ head ++ (block ++ after)
  pub of_head : symbols_of head ≡ hs ++ sign S.Colon ∷ []
  pub of_inside : symbols_of inside ≡ blk
  pub framed : (b : Block) → lines b inside → body b (lines b) block
  pub of_after : symbols_of after ≡ tail

blocked_symbols : (hs blk tail : List Symbol) → with_block hs blk ++ tail ≡ (hs ++ sign S.Colon ∷ []) ++ ((newline ∷ indent ∷ []) ++ (blk ++ ((dedent ∷ []) ++ tail)))
blocked_symbols hs blk tail = simp append_assoc

pub blocked : (hs blk tail : List Symbol) (tokens : List Lexeme) → symbols_of tokens ≡ with_block hs blk ++ tail → Blocked hs blk tail tokens
blocked hs blk tail tokens h =
    let c = cut tokens (hs ++ sign S.Colon ∷ []) ((newline ∷ indent ∷ []) ++ (blk ++ ((dedent ∷ []) ++ tail))) (h ∙ blocked_symbols hs blk tail) in
    let d = cut c.back (newline ∷ indent ∷ []) (blk ++ ((dedent ∷ []) ++ tail)) c.of_back in
    let e = cut d.back blk ((dedent ∷ []) ++ tail) d.of_back in
    let f = cut e.back (dedent ∷ []) tail e.of_back in
    record {
      head = c.front;
      inside = e.front;
      block = d.front ++ (e.front ++ f.front);
      after = f.back;
      whole = c.whole
          ∙ ap (λ y. c.front ++ y) (d.whole ∙ ap (λ y. d.front ++ y) (e.whole ∙ ap (λ y. e.front ++ y) f.whole ∙ sym (append_assoc e.front f.front f.back)) ∙ sym (append_assoc d.front (e.front ++ f.front) f.back));
      of_head = c.of_front;
      of_inside = e.of_front;
      framed = λ b l. inr (record { front = d.front; back = e.front ++ f.front; whole = refl; is_first = d.of_front; is_second = record { front = e.front; back = f.front; whole = refl; is_first = l; is_second = f.of_front } });
      of_after = f.of_back;
    }

-- without anything behind them
pub blocked_alone : (hs blk : List Symbol) (tokens : List Lexeme) → symbols_of tokens ≡ with_block hs blk → Blocked hs blk [] tokens
blocked_alone hs blk tokens h = blocked hs blk [] tokens (h ∙ sym (append-nil (with_block hs blk)))

nothing_after : (tokens : List Lexeme) → symbols_of tokens ≡ [] → tokens ≡ []
nothing_after [] h = refl
nothing_after (t ∷ tokens) h = absurd cc

-- a header and a block with nothing behind them
pub headed : (hs blk : List Symbol) (tokens : List Lexeme) (k : Blocked hs blk [] tokens) (b : Block) → lines b k.inside → (header hs ⨾ body b (lines b)) tokens
headed hs blk tokens k b l = record {
  front = k.head;
  back = k.block;
  whole = k.whole ∙ ap (λ y. k.head ++ y) (ap (λ y. k.block ++ y) (nothing_after k.after k.of_after) ∙ append-nil k.block);
  is_first = k.of_head;
  is_second = k.framed b l;
}

-- and with more
pub headed_then : (hs blk tail : List Symbol) (tokens : List Lexeme) (k : Blocked hs blk tail tokens) (b : Block) (more : Phrase) → lines b k.inside → more k.after → (header hs ⨾ body b (lines b) ⨾ more) tokens
headed_then hs blk tail tokens k b more l m = record {
  front = k.head;
  back = k.block ++ k.after;
  whole = k.whole;
  is_first = k.of_head;
  is_second = record { front = k.block; back = k.after; whole = refl; is_first = k.framed b l; is_second = m };
}

-- tokens that begin somewhere
abbrev first_line : List Lexeme → ℕ
first_line [] = 0
first_line (t ∷ rest) = t.line

-- what is deeper, where each deeper thing is again
deeper : (room : ℕ) (P Q : ℕ → Type 0) → ((inside : ℕ) → P inside → Q inside) → Deeper room P → Deeper room Q
deeper zero P Q f h = h
deeper (suc room) P Q f h = f room h

-- the lines of a block, and that there is one
block_fits : (b : Block) (tokens : List Lexeme) (l : LinesAgain b tokens) (room : ℕ) → IsTrue (has_statement b) × AreLines room b → IsTrue (has_statement l.again) × AreLines room l.again
block_fits b tokens l room h = (subst IsTrue (sym l.some) h.0, l.fits room h.1)

-- a simple statement is itself
simple_again : (s : Statement) (symbols : List Symbol) → simple_symbols s ≡ Some symbols → ((tokens : List Lexeme) → simple_line s tokens → statement s tokens) → (tokens : List Lexeme) → symbols_of tokens ≡ symbols ++ newline ∷ [] → StatementAgain s tokens
simple_again s symbols e place tokens h = record {
  again = s;
  spelled = place tokens (subst (λ o. P.with_newline o tokens) (sym e) h);
  same = refl;
  fits = λ room f. f;
}

-- a line needs a token
begins : (line : ℕ) (tokens : List Lexeme) (s : Symbol) (symbols : List Symbol) → symbols_of tokens ≡ s ∷ symbols → first_line tokens ≡ line → BeginsOnLine line tokens
begins line [] s symbols h l = absurd cc
begins line (t ∷ tokens) s symbols h l = l

-- some first symbol
abbrev pub HasFirst : List Symbol → Type 0
HasFirst symbols = (s : Symbol) × (rest : List Symbol) × (symbols ≡ s ∷ rest)

begins_by : (tokens : List Lexeme) (symbols : List Symbol) → symbols_of tokens ≡ symbols → HasFirst symbols → BeginsOnLine (first_line tokens) tokens
begins_by tokens symbols h f = begins (first_line tokens) tokens f.0 f.1 (h ∙ f.2) refl

then_first : (a b : List Symbol) → HasFirst a → HasFirst (a ++ b)
then_first a b f = (f.0, f.1 ++ b, ap (λ y. y ++ b) f.2)

-- each statement has a token
statement_first : (s : Statement) → HasFirst (statement_tokens s)
statement_first pass = (key K.Pass, _, refl)
statement_first break = (key K.Break, _, refl)
statement_first continue = (key K.Continue, _, refl)
statement_first (return e) = (key K.Return, _, refl)
statement_first (evaluate e) = let h = head e in then_first (expression_symbols e) (newline ∷ []) (h.first, h.behind, h.is)
statement_first (assign x e) = (name x, _, refl)
statement_first (assign_element x i e) = (name x, _, refl)
statement_first (augment x op e) = (name x, _, refl)
statement_first (augment_element x i op e) = (name x, _, refl)
statement_first (assign_repeated x e n) = (name x, _, refl)
statement_first (assign_list x es) = (name x, _, refl)
statement_first (if_then c b rest) = (key K.If, _, refl)
statement_first (while_do c b) = (key K.While, _, refl)
statement_first (for_range x from to b) = (key K.For, _, refl)
statement_first (parallel b) = (key K.With, _, refl)
statement_first (sequential b) = (key K.With, _, refl)
statement_first (record_as text b) = (key K.With, _, refl)
statement_first (try_do b handlers) = (key K.Try, _, refl)

-- a statement that is a header and a block
block_again : (b : Block) (hs : List Symbol) (build : Block → Statement) → ((d : Block) (tokens : List Lexeme) → (header hs ⨾ body d (lines d)) tokens → statement (build d) tokens) → ((d : Block) → block_without_lines d ≡ block_without_lines b → without_lines (build d) ≡ without_lines (build b)) → ((d : Block) (room : ℕ) → ((inside : ℕ) → IsTrue (has_statement b) × AreLines inside b → IsTrue (has_statement d) × AreLines inside d) → IsStatement room (build b) → IsStatement room (build d)) → (tokens : List Lexeme) (k : Blocked hs (block_tokens b) [] tokens) → LinesAgain b k.inside → StatementAgain (build b) tokens
block_again b hs build place same fits tokens k l = record {
  again = build l.again;
  spelled = place l.again tokens (headed hs (block_tokens b) tokens k l.again l.spelled);
  same = same l.again l.same;
  fits = λ room f. fits l.again room (block_fits b k.inside l) f;
}

if_again : (c : Expression) (b : Block) (rest : Otherwise) (tokens : List Lexeme) (k : Blocked (key K.If ∷ expression_symbols c) (block_tokens b) (branch_tokens rest) tokens) → LinesAgain b k.inside → BranchesAgain rest k.after → StatementAgain (if_then c b rest) tokens
if_again c b rest tokens k l m = record {
  again = if_then c l.again m.again;
  spelled = headed_then (key K.If ∷ expression_symbols c) (block_tokens b) (branch_tokens rest) tokens k l.again (branches m.again) l.spelled m.spelled;
  same = ap (λ y. if_then c y (otherwise_without_lines m.again)) l.same ∙ ap (λ y. if_then c (block_without_lines b) y) m.same;
  fits = λ room f. (f.0, deeper room (λ inside. IsTrue (has_statement b) × AreLines inside b × AreBranches inside rest) (λ inside. IsTrue (has_statement l.again) × AreLines inside l.again × AreBranches inside m.again) (λ inside g. (subst IsTrue (sym l.some) g.0, l.fits inside g.1, m.fits inside g.2)) f.1);
}

try_again : (b : Block) (handlers : Handlers) (tokens : List Lexeme) (k : Blocked (key K.Try ∷ []) (block_tokens b) (except_tokens handlers) tokens) → LinesAgain b k.inside → HandlersAgain handlers k.after → StatementAgain (try_do b handlers) tokens
try_again b handlers tokens k l m = record {
  again = try_do l.again m.again;
  spelled = headed_then (key K.Try ∷ []) (block_tokens b) (except_tokens handlers) tokens k l.again (excepts m.again) l.spelled m.spelled;
  same = ap (λ y. try_do y (handlers_without_lines m.again)) l.same ∙ ap (λ y. try_do (block_without_lines b) y) m.same;
  fits = λ room f. deeper room (λ inside. IsTrue (has_statement b) × AreLines inside b × IsTrue (has_handler handlers) × AreHandlers inside handlers) (λ inside. IsTrue (has_statement l.again) × AreLines inside l.again × IsTrue (has_handler m.again) × AreHandlers inside m.again) (λ inside g. (subst IsTrue (sym l.some) g.0, l.fits inside g.1, subst IsTrue (sym m.some) g.2, m.fits inside g.3)) f;
}

line_again : (line : ℕ) (s : Statement) (rest : Block) (tokens : List Lexeme) (c : Cut tokens (statement_tokens s) (block_tokens rest)) → StatementAgain s c.front → LinesAgain rest c.back → LinesAgain (line_then line s rest) tokens
line_again line s rest tokens c x y = record {
  again = line_then (first_line c.front) x.again y.again;
  spelled = record { front = c.front; back = c.back; whole = c.whole; is_first = (begins_by c.front (statement_tokens s) c.of_front (statement_first s), x.spelled); is_second = y.spelled };
  same = ap (λ z. line_then 0 z (block_without_lines y.again)) x.same ∙ ap (λ z. line_then 0 (without_lines s) z) y.same;
  fits = λ room f. (x.fits room f.0, y.fits room f.1);
  some = refl;
}

else_again : (b : Block) (tokens : List Lexeme) (k : Blocked (key K.Else ∷ []) (block_tokens b) [] tokens) → LinesAgain b k.inside → BranchesAgain (else_do b) tokens
else_again b tokens k l = record {
  again = else_do l.again;
  spelled = headed (key K.Else ∷ []) (block_tokens b) tokens k l.again l.spelled;
  same = ap (λ y. else_do y) l.same;
  fits = λ room f. block_fits b k.inside l room f;
}

-- a header on a line of its own
on_its_line : (hs blk tail : List Symbol) (tokens : List Lexeme) (k : Blocked hs blk tail tokens) → HasFirst hs → (on_line (first_line k.head) (header hs)) k.head
on_its_line hs blk tail tokens k f = (begins_by k.head (hs ++ sign S.Colon ∷ []) k.of_head (then_first hs (sign S.Colon ∷ []) f), k.of_head)

elif_again : (line : ℕ) (c : Expression) (b : Block) (rest : Otherwise) (tokens : List Lexeme) (k : Blocked (key K.Elif ∷ expression_symbols c) (block_tokens b) (branch_tokens rest) tokens) → LinesAgain b k.inside → BranchesAgain rest k.after → BranchesAgain (elif_then line c b rest) tokens
elif_again line c b rest tokens k l m = record {
  again = elif_then (first_line k.head) c l.again m.again;
  spelled = record { front = k.head; back = k.block ++ k.after; whole = k.whole; is_first = on_its_line (key K.Elif ∷ expression_symbols c) (block_tokens b) (branch_tokens rest) tokens k (key K.Elif, expression_symbols c, refl); is_second = record { front = k.block; back = k.after; whole = refl; is_first = k.framed l.again l.spelled; is_second = m.spelled } };
  same = ap (λ y. elif_then 0 c y (otherwise_without_lines m.again)) l.same ∙ ap (λ y. elif_then 0 c (block_without_lines b) y) m.same;
  fits = λ room f. (f.0, subst IsTrue (sym l.some) f.1, l.fits room f.2, m.fits room f.3);
}

except_again : (line : ℕ) (x : List ℕ) (b : Block) (rest : Handlers) (tokens : List Lexeme) (k : Blocked (key K.Except ∷ name x ∷ []) (block_tokens b) (except_tokens rest) tokens) → LinesAgain b k.inside → HandlersAgain rest k.after → HandlersAgain (except_then line x b rest) tokens
except_again line x b rest tokens k l m = record {
  again = except_then (first_line k.head) x l.again m.again;
  spelled = record { front = k.head; back = k.block ++ k.after; whole = k.whole; is_first = on_its_line (key K.Except ∷ name x ∷ []) (block_tokens b) (except_tokens rest) tokens k (key K.Except, name x ∷ [], refl); is_second = record { front = k.block; back = k.after; whole = refl; is_first = k.framed l.again l.spelled; is_second = m.spelled } };
  same = ap (λ y. except_then 0 x y (handlers_without_lines m.again)) l.same ∙ ap (λ y. except_then 0 x (block_without_lines b) y) m.same;
  fits = λ room f. (subst IsTrue (sym l.some) f.0, l.fits room f.1, m.fits room f.2);
  some = refl;
}

mutual
  pub statement_again : (s : Statement) (tokens : List Lexeme) → symbols_of tokens ≡ statement_tokens s → StatementAgain s tokens
  statement_again pass tokens h = simple_again pass (unwrap_or (simple_symbols pass) []) refl (λ ts k. k) tokens h
  statement_again break tokens h = simple_again break (unwrap_or (simple_symbols break) []) refl (λ ts k. k) tokens h
  statement_again continue tokens h = simple_again continue (unwrap_or (simple_symbols continue) []) refl (λ ts k. k) tokens h
  statement_again (return e) tokens h = simple_again (return e) (unwrap_or (simple_symbols (return e)) []) refl (λ ts k. k) tokens h
  statement_again (evaluate e) tokens h = simple_again (evaluate e) (unwrap_or (simple_symbols (evaluate e)) []) refl (λ ts k. k) tokens h
  statement_again (assign x e) tokens h = simple_again (assign x e) (unwrap_or (simple_symbols (assign x e)) []) refl (λ ts k. k) tokens h
  statement_again (assign_element x i e) tokens h = simple_again (assign_element x i e) (unwrap_or (simple_symbols (assign_element x i e)) []) refl (λ ts k. k) tokens h
  statement_again (augment x op e) tokens h = simple_again (augment x op e) (unwrap_or (simple_symbols (augment x op e)) []) refl (λ ts k. k) tokens h
  statement_again (augment_element x i op e) tokens h = simple_again (augment_element x i op e) (unwrap_or (simple_symbols (augment_element x i op e)) []) refl (λ ts k. k) tokens h
  statement_again (assign_repeated x e n) tokens h = simple_again (assign_repeated x e n) (unwrap_or (simple_symbols (assign_repeated x e n)) []) refl (λ ts k. k) tokens h
  statement_again (assign_list x es) tokens h = simple_again (assign_list x es) (unwrap_or (simple_symbols (assign_list x es)) []) refl (λ ts k. k) tokens h
  statement_again (while_do c b) tokens h =
      let hs : List Symbol = key K.While ∷ expression_symbols c in
      let k = blocked_alone hs (block_tokens b) tokens h in
      block_again b hs (λ d. while_do c d) (λ d ts m. m) (λ d e. ap (λ d. while_do c d) e) (λ d room f. λ g. (g.0, deeper room (λ inside. IsTrue (has_statement b) × AreLines inside b) (λ inside. IsTrue (has_statement d) × AreLines inside d) f g.1)) tokens k (lines_again b k.inside k.of_inside)
  statement_again (for_range x from to b) tokens h =
      let hs : List Symbol = key K.For ∷ name x ∷ key K.In ∷ range_symbols from to in
      let k = blocked_alone hs (block_tokens b) tokens h in
      block_again b hs (λ d. for_range x from to d) (λ d ts m. m) (λ d e. ap (λ d. for_range x from to d) e) (λ d room f. λ g. (g.0, g.1, deeper room (λ inside. IsTrue (has_statement b) × AreLines inside b) (λ inside. IsTrue (has_statement d) × AreLines inside d) f g.2)) tokens k (lines_again b k.inside k.of_inside)
  statement_again (parallel b) tokens h =
      let hs : List Symbol = key K.With ∷ name (codes "parallel") ∷ [] in
      let k = blocked_alone hs (block_tokens b) tokens h in
      block_again b hs (λ d. parallel d) (λ d ts m. m) (λ d e. ap (λ d. parallel d) e) (λ d room f. λ g. deeper room (λ inside. IsTrue (has_statement b) × AreLines inside b) (λ inside. IsTrue (has_statement d) × AreLines inside d) f g) tokens k (lines_again b k.inside k.of_inside)
  statement_again (sequential b) tokens h =
      let hs : List Symbol = key K.With ∷ name (codes "sequential") ∷ [] in
      let k = blocked_alone hs (block_tokens b) tokens h in
      block_again b hs (λ d. sequential d) (λ d ts m. m) (λ d e. ap (λ d. sequential d) e) (λ d room f. λ g. deeper room (λ inside. IsTrue (has_statement b) × AreLines inside b) (λ inside. IsTrue (has_statement d) × AreLines inside d) f g) tokens k (lines_again b k.inside k.of_inside)
  statement_again (record_as text b) tokens h =
      let hs : List Symbol = key K.With ∷ record_symbols text in
      let k = blocked_alone hs (block_tokens b) tokens h in
      block_again b hs (λ d. record_as text d) (λ d ts m. m) (λ d e. ap (λ d. record_as text d) e) (λ d room f. λ g. deeper room (λ inside. IsTrue (has_statement b) × AreLines inside b) (λ inside. IsTrue (has_statement d) × AreLines inside d) f g) tokens k (lines_again b k.inside k.of_inside)
  statement_again (if_then c b rest) tokens h =
      let hs : List Symbol = key K.If ∷ expression_symbols c in
      let k = blocked hs (block_tokens b) (branch_tokens rest) tokens h in
      if_again c b rest tokens k (lines_again b k.inside k.of_inside) (branches_again rest k.after k.of_after)
  statement_again (try_do b handlers) tokens h =
      let hs : List Symbol = key K.Try ∷ [] in
      let k = blocked hs (block_tokens b) (except_tokens handlers) tokens h in
      try_again b handlers tokens k (lines_again b k.inside k.of_inside) (handlers_again handlers k.after k.of_after)

  pub lines_again : (b : Block) (tokens : List Lexeme) → symbols_of tokens ≡ block_tokens b → LinesAgain b tokens
  lines_again done tokens h = record { again = done; spelled = h; same = refl; fits = λ room f. f; some = refl }
  lines_again (line_then line s rest) tokens h =
      let c = cut tokens (statement_tokens s) (block_tokens rest) h in
      line_again line s rest tokens c (statement_again s c.front c.of_front) (lines_again rest c.back c.of_back)

  pub branches_again : (o : Otherwise) (tokens : List Lexeme) → symbols_of tokens ≡ branch_tokens o → BranchesAgain o tokens
  branches_again no_else tokens h = record { again = no_else; spelled = h; same = refl; fits = λ room f. f }
  branches_again (else_do b) tokens h =
      let k = blocked_alone (key K.Else ∷ []) (block_tokens b) tokens h in
      else_again b tokens k (lines_again b k.inside k.of_inside)
  branches_again (elif_then line c b rest) tokens h =
      let k = blocked (key K.Elif ∷ expression_symbols c) (block_tokens b) (branch_tokens rest) tokens h in
      elif_again line c b rest tokens k (lines_again b k.inside k.of_inside) (branches_again rest k.after k.of_after)

  pub handlers_again : (a : Handlers) (tokens : List Lexeme) → symbols_of tokens ≡ except_tokens a → HandlersAgain a tokens
  handlers_again no_handler tokens h = record { again = no_handler; spelled = h; same = refl; fits = λ room f. f; some = refl }
  handlers_again (except_then line x b rest) tokens h =
      let k = blocked (key K.Except ∷ name x ∷ []) (block_tokens b) (except_tokens rest) tokens h in
      except_again line x b rest tokens k (lines_again b k.inside k.of_inside) (handlers_again rest k.after k.of_after)

-- a function again
pub record FunctionAgain (f : FunctionTree) (tokens : List Lexeme) : Type 0 where
  pub again : FunctionTree
  pub spelled : function again tokens
  pub same : function_without_lines again ≡ function_without_lines f
  pub fits : IsFunction f → IsFunction again

function_again_by : (f : FunctionTree) (tokens : List Lexeme) (k : Blocked (function_symbols f) (block_tokens f.body) [] tokens) → LinesAgain f.body k.inside → FunctionAgain f tokens
function_again_by f tokens k l = record {
  again = record { line = first_line k.head; name = f.name; parameters = f.parameters; result = f.result; body = l.again };
  spelled = record {
    front = [];
    back = tokens;
    whole = refl;
    is_first = inl refl;
    is_second = record {
      front = k.head;
      back = k.block;
      whole = k.whole ∙ ap (λ y. k.head ++ y) (ap (λ y. k.block ++ y) (nothing_after k.after k.of_after) ∙ append-nil k.block);
      is_first = on_its_line (function_symbols f) (block_tokens f.body) [] tokens k (key K.Def, _, refl);
      is_second = k.framed l.again l.spelled;
    };
  };
  same = ap (λ y. record { line = 0; name = f.name; parameters = f.parameters; result = f.result; body = y }) l.same;
  fits = λ g. block_fits f.body k.inside l 15 g;
}

function_again : (f : FunctionTree) (tokens : List Lexeme) → symbols_of tokens ≡ function_tokens f → FunctionAgain f tokens
function_again f tokens h =
    let k = blocked_alone (function_symbols f) (block_tokens f.body) tokens h in
    function_again_by f tokens k (lines_again f.body k.inside k.of_inside)

-- a program again
pub record ProgramAgain (p : ProgramTree) (tokens : List Lexeme) : Type 0 where
  pub again : ProgramTree
  pub spelled : program again tokens
  pub same : SameButLines again p
  pub fits : AreFunctions p → AreFunctions again
  pub count : length again ≡ length p

program_again : (p : ProgramTree) (tokens : List Lexeme) → symbols_of tokens ≡ program_tokens p → ProgramAgain p tokens
program_again [] tokens h = record { again = []; spelled = h; same = refl; fits = λ f. f; count = refl }
program_again (f ∷ fs) tokens h =
    let c = cut tokens (function_tokens f) (program_tokens fs) h in
    let x = function_again f c.front c.of_front in
    let y = program_again fs c.back c.of_back in
    record {
      again = x.again ∷ y.again;
      spelled = record { front = c.front; back = c.back; whole = c.whole; is_first = x.spelled; is_second = y.spelled };
      same = ap (λ z. z ∷ map function_without_lines y.again) x.same ∙ ap (λ z. function_without_lines f ∷ z) y.same;
      fits = λ g. (x.fits g.0, y.fits g.1);
      count = ap suc y.count;
    }

pub canonical_parses : (p : ProgramTree) (tokens : List Lexeme) → IsGrammatical p → symbols_of tokens ≡ program_tokens p → (again : ProgramTree) × HasTree tokens again × SameButLines again p
canonical_parses p tokens g h =
    let a = program_again p tokens h in
    (a.again, record { spelled = a.spelled; grammatical = (subst (λ n. IsTrue (nat_lt 0 n)) (sym a.count) g.0, a.fits g.1) }, a.same)
