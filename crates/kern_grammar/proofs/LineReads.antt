-- Statements and blocks are taken, at every nesting.
use Rattle.std.proofs.Common.{ℕ, zero, suc, List, [], ◌∷◌, ◌++◌, refl, subst}
use Rattle.kern_lexer.specs.Symbols.{Lexeme, key, newline}
use Rattle.kern_lexer.specs.declared.token.Key.TheVariants as K
use Rattle.kern_syntax.specs.Tree.{Statement, pass, break, continue, return, evaluate, assign, assign_element, augment, augment_element, assign_repeated, assign_list, if_then, while_do, for_range, parallel, sequential, record_as, try_do, Otherwise, no_else, else_do, elif_then}
use Rattle.kern_grammar.specs.BlockPlans.{line_phrase, is_elif, is_else, is_except, otherwise_stop, statement_stop, line_stop, no_stop, block_phrase, block_plan, statement_plan, line_plan}
use Rattle.kern_grammar.specs.Blocks.{statement}
use Rattle.kern_grammar.specs.Phrases.{simple_line}
use Rattle.kern_grammar.specs.Plans.{Taker, run, Spells}
use Rattle.kern_grammar.specs.SimplePlans.{Line, simple_plan}
use Rattle.kern_grammar.specs.Views.{Opening, passes, breaks, continues, returns, ifs, whiles, fors, withs, tries, others, opening}
use Rattle.kern_grammar.proofs.BlockReady.{TakesLine, TakesBlock, block-spelled, free-line, ready-statement}
use Rattle.kern_grammar.proofs.BlockSpells.{converted, block-into, block-from}
use Rattle.kern_grammar.proofs.LineFrom.{if-from, while-from, for-from, with-item-from, try-from}
use Rattle.kern_grammar.proofs.LineInto.{line-into, deepest-line-into}
use Rattle.kern_grammar.proofs.ManyReads.{ends-alike}
use Rattle.kern_grammar.proofs.PlanReads.{plan-takes}
use Rattle.kern_grammar.proofs.Seen.{OpeningIs, opening-is}
use Rattle.kern_grammar.proofs.SimpleFrom.{simple-from}
use Rattle.kern_grammar.proofs.SimpleReady.{ready-simple}
use Rattle.kern_grammar.proofs.Taking.{SameFirst, Somewhere}

-- a statement on one line is a statement
simple-statement : (s : Statement) (tokens : List Lexeme) → simple_line s tokens → statement s tokens
simple-statement pass tokens h = h
simple-statement break tokens h = h
simple-statement continue tokens h = h
simple-statement (return e) tokens h = h
simple-statement (evaluate e) tokens h = h
simple-statement (assign x e) tokens h = h
simple-statement (assign_element x i e) tokens h = h
simple-statement (augment x op e) tokens h = h
simple-statement (augment_element x i op e) tokens h = h
simple-statement (assign_repeated x e n) tokens h = h
simple-statement (assign_list x es) tokens h = h
simple-statement (if_then c b more) tokens h = absurd h
simple-statement (while_do c b) tokens h = absurd h
simple-statement (for_range x from to b) tokens h = absurd h
simple-statement (parallel b) tokens h = absurd h
simple-statement (sequential b) tokens h = absurd h
simple-statement (record_as text b) tokens h = absurd h
simple-statement (try_do b handlers) tokens h = absurd h

plain-from : (room : ℕ) (o : Opening) (x : Line) (t : Lexeme) (ts : List Lexeme) → OpeningIs t.symbol o → Spells (simple_plan (λ s. (t.line, s)) o) x (t ∷ ts) → line_phrase room x (t ∷ ts)
plain-from room o x t ts e h =
    let g = simple-from (λ s. (t.line, s)) o x t ts e h in
    subst (λ y. line_phrase room y (t ∷ ts)) g.is ((refl, simple-statement g.statement (t ∷ ts) g.spelled), g.fits room)

statement-from : (room : ℕ) (take : Taker Line) (o : Opening) (x : Line) (t : Lexeme) (ts : List Lexeme) → OpeningIs t.symbol o → Spells (statement_plan room take t.line o) x (t ∷ ts) → line_phrase (suc room) x (t ∷ ts)
statement-from room take ifs x t ts e h = if-from room take t ts x e h.2
statement-from room take whiles x t ts e h = while-from room take t ts x e h.2
statement-from room take fors x t ts e h = for-from room take t ts x e h.2
statement-from room take withs x t ts e h = with-item-from room take t ts x e h.2
statement-from room take tries x t ts e h = try-from room take t ts x e h.2
statement-from room take passes x t ts e h = plain-from (suc room) passes x t ts e h
statement-from room take breaks x t ts e h = plain-from (suc room) breaks x t ts e h
statement-from room take continues x t ts e h = plain-from (suc room) continues x t ts e h
statement-from room take returns x t ts e h = plain-from (suc room) returns x t ts e h
statement-from room take others x t ts e h = plain-from (suc room) others x t ts e h

line-from : (room : ℕ) (x : Line) (tokens : List Lexeme) → Spells (line_plan room) x tokens → line_phrase room x tokens
line-from zero x [] h = absurd h
line-from zero x (t ∷ ts) h = plain-from 0 (opening t.symbol) x t ts (opening-is t.symbol) h
line-from (suc room) x [] h = absurd h
line-from (suc room) x (t ∷ ts) h = statement-from room (run (line_plan room)) (opening t.symbol) x t ts (opening-is t.symbol) h

pub into-line : (room : ℕ) (x : Line) (tokens : List Lexeme) → line_phrase room x tokens → Spells (line_plan room) x tokens
into-line zero x tokens h = deepest-line-into x.0 x.1 tokens h.0.0 h.0.1 h.1
into-line (suc room) x tokens h = line-into room x.0 x.1 tokens h.0.0 h.0.1 h.1

-- what stops a statement is one token
otherwise-alike : (o : Otherwise) (before left other : List Lexeme) → SameFirst left other → otherwise_stop o (before ++ left) → otherwise_stop o (before ++ other)
otherwise-alike no_else before left other d h = (ends-alike is_else before left other d h.0, ends-alike is_elif before left other d h.1)
otherwise-alike (else_do b) before left other d h = tt
otherwise-alike (elif_then line c b more) before left other d h = otherwise-alike more before left other d h

statement-alike : (s : Statement) (before left other : List Lexeme) → SameFirst left other → statement_stop s (before ++ left) → statement_stop s (before ++ other)
statement-alike (if_then c b more) before left other d h = otherwise-alike more before left other d h
statement-alike (try_do b handlers) before left other d h = ends-alike is_except before left other d h
statement-alike pass before left other d h = tt
statement-alike break before left other d h = tt
statement-alike continue before left other d h = tt
statement-alike (return e) before left other d h = tt
statement-alike (evaluate e) before left other d h = tt
statement-alike (assign x e) before left other d h = tt
statement-alike (assign_element x i e) before left other d h = tt
statement-alike (augment x op e) before left other d h = tt
statement-alike (augment_element x i op e) before left other d h = tt
statement-alike (assign_repeated x e n) before left other d h = tt
statement-alike (assign_list x es) before left other d h = tt
statement-alike (while_do c b) before left other d h = tt
statement-alike (for_range x from to b) before left other d h = tt
statement-alike (parallel b) before left other d h = tt
statement-alike (sequential b) before left other d h = tt
statement-alike (record_as text b) before left other d h = tt

-- a block is taken where its lines are
pub takes-block : (room : ℕ) (take : Taker Line) → TakesLine room take → TakesBlock room take
takes-block room take takes =
    converted (Spells (block_plan room take)) (block_phrase room) no_stop (run (block_plan room take)) (block-from room take) (block-into room take) (block-spelled room take takes)

some-pass : (room : ℕ) → Somewhere (Spells (line_plan room))
some-pass zero = record { value = (0, pass); tokens = record { symbol = key K.Pass; line = 0 } ∷ record { symbol = newline; line = 0 } ∷ []; is_phrase = (tt, refl, (tt, refl, (refl, refl))) }
some-pass (suc room) = record { value = (0, pass); tokens = record { symbol = key K.Pass; line = 0 } ∷ record { symbol = newline; line = 0 } ∷ []; is_phrase = (tt, refl, (tt, refl, (refl, refl))) }

-- statements are taken at every nesting
pub takes-line : (room : ℕ) → TakesLine room (run (line_plan room))
takes-line zero =
    converted (Spells (line_plan 0)) (line_phrase 0) line_stop (run (line_plan 0)) (line-from 0) (into-line 0)
    (plan-takes line_stop (line_plan 0) (some-pass 0, λ t. ready-simple line_stop (λ s. (t.line, s)) (free-line t.line) (opening t.symbol)) (λ x. statement-alike x.1))
takes-line (suc room) =
    let take = run (line_plan room) in
    let blocks = takes-block room take (takes-line room) in
    converted (Spells (line_plan (suc room))) (line_phrase (suc room)) line_stop (run (line_plan (suc room))) (line-from (suc room)) (into-line (suc room))
    (plan-takes line_stop (line_plan (suc room)) (some-pass (suc room), λ t. ready-statement room take blocks t.line (opening t.symbol)) (λ x. statement-alike x.1))
