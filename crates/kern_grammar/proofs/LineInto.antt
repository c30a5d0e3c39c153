-- The tokens of each statement are spelled by its plan.
use Rattle.std.proofs.Common.{◌≡◌, ℕ, suc, true, false, List, [], ◌∷◌, ◌++◌, refl, ◌∙◌, ap, subst, append_assoc}
use Rattle.std.specs.Prelude.{Option, Some, None, codes, IsTrue}
use Rattle.kern_lexer.specs.Bytes.{Bytes}
use Rattle.kern_lexer.specs.Symbols.{Symbol, Lexeme, key, sign, name, quoted}
use Rattle.kern_lexer.specs.declared.token.Key.TheVariants as K
use Rattle.kern_lexer.specs.declared.token.Sign.TheVariants as S
use Rattle.kern_syntax.specs.Grammatical.{IsStatement, IfThere, IsBracketedExpression, has_statement, AreLines}
use Rattle.kern_syntax.specs.Tree.{Expression, Statement, pass, break, continue, return, evaluate, assign, assign_element, augment, augment_element, assign_repeated, assign_list, if_then, while_do, for_range, parallel, sequential, record_as, try_do, Block, no_handler, except_then}
use Rattle.kern_grammar.specs.BlockPlans.{a_block, branches_plan, handlers_plan, range_plan, with_plan, statement_plan, line_plan}
use Rattle.kern_grammar.specs.Blocks.{body, lines, statement, branches, excepts}
use Rattle.kern_grammar.specs.Expressions.{expression_symbols, in_parentheses}
use Rattle.kern_grammar.specs.Phrases.{Phrase, these, ◌⨾◌, BeginsOnLine, simple_line}
use Rattle.kern_grammar.specs.Plans.{Taker, done, token, run, Spells}
use Rattle.kern_grammar.specs.SimplePlans.{an_expression, Line, simple_plan}
use Rattle.kern_grammar.specs.Views.{a_name, a_text, the_name, any, in_key, open_parenthesis, close_parenthesis, dot, comma_or_close, a_with_item, in_parallel, in_sequence, recording, Opening, passes, breaks, continues, returns, ifs, whiles, fors, withs, tries, others, opening}
use Rattle.kern_grammar.proofs.BlockSpells.{alone, into-a_block, into-condition}
use Rattle.kern_grammar.proofs.SimpleInto.{IsPlain, into-simple}
use Rattle.kern_grammar.proofs.SimpleSpells.{open-fits}
use Rattle.kern_grammar.proofs.StatementInto.{into-lined, into-branches-plan, into-handlers-plan}
use Rattle.kern_grammar.proofs.Steps.{nothing, StartsWith, starts, step-token, step-expression}

-- a statement's tokens, by its plan
abbrev SpelledLine : (room : ℕ) → Taker Line → (line : ℕ) → Symbol → Statement → List Lexeme → Type 0
SpelledLine room take line s x tokens = Spells (statement_plan room take line (opening s)) (line, x) tokens

placed : (room line : ℕ) (s : Symbol) (x : Statement) (tokens : List Lexeme) → BeginsOnLine line tokens → StartsWith s tokens → SpelledLine room (run (line_plan room)) line s x tokens → Spells (line_plan (suc room)) (line, x) tokens
placed room line s x tokens b w h = into-lined (λ line s. statement_plan room (run (line_plan room)) line (opening s)) (line, x) line s tokens b w h

-- a statement on one line is read so where blocks have room too
plain-plan : (room : ℕ) (take : Taker Line) (line : ℕ) (o : Opening) → IsPlain o → (x : Line) (tokens : List Lexeme) → Spells (simple_plan (λ s. (line, s)) o) x tokens → Spells (statement_plan room take line o) x tokens
plain-plan room take line passes p x tokens h = h
plain-plan room take line breaks p x tokens h = h
plain-plan room take line continues p x tokens h = h
plain-plan room take line returns p x tokens h = h
plain-plan room take line others p x tokens h = h
plain-plan room take line ifs p x tokens h = absurd p
plain-plan room take line whiles p x tokens h = absurd p
plain-plan room take line fors p x tokens h = absurd p
plain-plan room take line withs p x tokens h = absurd p
plain-plan room take line tries p x tokens h = absurd p

simple-into : (room line : ℕ) (s : Statement) (tokens : List Lexeme) → BeginsOnLine line tokens → IsStatement (suc room) s → simple_line s tokens → Spells (line_plan (suc room)) (line, s) tokens
simple-into room line s tokens b f h =
    let i = into-simple (λ s. (line, s)) (suc room) s tokens f h in
    placed room line i.first s tokens b i.begins (plain-plan room (run (line_plan room)) line (opening i.first) i.plain (line, s) tokens i.spelled)

-- at the deepest block only statements on one line
deepest-into : (line : ℕ) (s : Statement) (tokens : List Lexeme) → BeginsOnLine line tokens → IsStatement 0 s → simple_line s tokens → Spells (line_plan 0) (line, s) tokens
deepest-into line s tokens b f h =
    let i = into-simple (λ s. (line, s)) 0 s tokens f h in
    into-lined (λ line s. simple_plan (λ x. (line, x)) (opening s)) (line, s) line i.first tokens b i.begins i.spelled

-- the symbols of a `for` without and with a lower bound
pub to_shape : (to : Expression) → in_parentheses (expression_symbols to) ++ sign S.Colon ∷ [] ≡ sign S.OpenParenthesis ∷ (expression_symbols to ++ (sign S.CloseParenthesis ∷ sign S.Colon ∷ []))
to_shape to = ap (λ y. sign S.OpenParenthesis ∷ y) (append_assoc (expression_symbols to) (sign S.CloseParenthesis ∷ []) (sign S.Colon ∷ []))

pub from_shape : (from to : Expression) → in_parentheses (expression_symbols from ++ sign S.Comma ∷ expression_symbols to) ++ sign S.Colon ∷ [] ≡ sign S.OpenParenthesis ∷ (expression_symbols from ++ (sign S.Comma ∷ (expression_symbols to ++ (sign S.CloseParenthesis ∷ sign S.Colon ∷ []))))
from_shape from to =
    ap (λ y. sign S.OpenParenthesis ∷ y) (append_assoc (expression_symbols from ++ sign S.Comma ∷ expression_symbols to) (sign S.CloseParenthesis ∷ []) (sign S.Colon ∷ [])
    ∙ append_assoc (expression_symbols from) (sign S.Comma ∷ expression_symbols to) (sign S.CloseParenthesis ∷ sign S.Colon ∷ []))

-- the words before the bounds of a `for`
for-header : (room : ℕ) (take : Taker Line) (line : ℕ) (x : Bytes) (r : Line) (symbols : List Symbol) (after : Phrase) → ((rest : List Lexeme) → (these symbols ⨾ after) rest → Spells (an_expression 15 (λ first. token comma_or_close (range_plan (λ from to. a_block room take (λ b. done (line, for_range x from to b))) first))) r rest) → (tokens : List Lexeme) → (these (key K.For ∷ name x ∷ key K.In ∷ name (codes "range") ∷ sign S.OpenParenthesis ∷ symbols) ⨾ after) tokens → Spells (statement_plan room take line fors) r tokens
for-header room take line x r symbols after k tokens h =
    step-token any (λ seen. token a_name (λ x. token in_key (λ seen. token (the_name (codes "range")) (λ seen. token open_parenthesis (λ seen. an_expression 15 (λ first. token comma_or_close (range_plan (λ from to. a_block room take (λ b. done (line, for_range x from to b))) first))))))) r (key K.For) tt _ after refl
    (λ r1 g1. step-token a_name (λ x. token in_key (λ seen. token (the_name (codes "range")) (λ seen. token open_parenthesis (λ seen. an_expression 15 (λ first. token comma_or_close (range_plan (λ from to. a_block room take (λ b. done (line, for_range x from to b))) first)))))) r (name x) x _ after refl
    (λ r2 g2. step-token in_key (λ seen. token (the_name (codes "range")) (λ seen. token open_parenthesis (λ seen. an_expression 15 (λ first. token comma_or_close (range_plan (λ from to. a_block room take (λ b. done (line, for_range x from to b))) first))))) r (key K.In) tt _ after refl
    (λ r3 g3. step-token (the_name (codes "range")) (λ seen. token open_parenthesis (λ seen. an_expression 15 (λ first. token comma_or_close (range_plan (λ from to. a_block room take (λ b. done (line, for_range x from to b))) first)))) r (name (codes "range")) tt _ after refl
    (λ r4 g4. step-token open_parenthesis (λ seen. an_expression 15 (λ first. token comma_or_close (range_plan (λ from to. a_block room take (λ b. done (line, for_range x from to b))) first))) r (sign S.OpenParenthesis) tt symbols after refl k r4 g4) r3 g3) r2 g2) r1 g1) tokens h

for-into : (room : ℕ) (take : Taker Line) (line : ℕ) (x : Bytes) (from : Option Expression) (to : Expression) (b : Block) → IfThere IsBracketedExpression from → IsBracketedExpression to → IsTrue (has_statement b) × AreLines room b → (tokens : List Lexeme) → statement (for_range x from to b) tokens → Spells (statement_plan room take line fors) (line, for_range x from to b) tokens
for-into room take line x None to b f g l tokens h =
    let r : Line = (line, for_range x None to b) in
    let after = body b (lines b) ⨾ nothing in
    let shaped = subst (λ y. (these (key K.For ∷ name x ∷ key K.In ∷ name (codes "range") ∷ y) ⨾ after) tokens) (to_shape to) (alone _ (body b (lines b)) tokens h) in
    for-header room take line x r (expression_symbols to ++ (sign S.CloseParenthesis ∷ sign S.Colon ∷ [])) after
    (λ r1 g1. step-expression 15 (λ first. token comma_or_close (range_plan (λ from to. a_block room take (λ b. done (line, for_range x from to b))) first)) r to (sign S.CloseParenthesis ∷ sign S.Colon ∷ []) after (open-fits 15 to g)
    (λ r2 g2. step-token comma_or_close (range_plan (λ from to. a_block room take (λ b. done (line, for_range x from to b))) to) r (sign S.CloseParenthesis) false (sign S.Colon ∷ []) after refl
    (λ r3 g3. into-a_block room take (λ b. done (line, for_range x None to b)) r b nothing l (λ rest e. (refl, e)) r3 g3) r2 g2) r1 g1)
    tokens shaped
for-into room take line x (Some from) to b f g l tokens h =
    let r : Line = (line, for_range x (Some from) to b) in
    let after = body b (lines b) ⨾ nothing in
    let shaped = subst (λ y. (these (key K.For ∷ name x ∷ key K.In ∷ name (codes "range") ∷ y) ⨾ after) tokens) (from_shape from to) (alone _ (body b (lines b)) tokens h) in
    for-header room take line x r (expression_symbols from ++ (sign S.Comma ∷ (expression_symbols to ++ (sign S.CloseParenthesis ∷ sign S.Colon ∷ [])))) after
    (λ r1 g1. step-expression 15 (λ first. token comma_or_close (range_plan (λ from to. a_block room take (λ b. done (line, for_range x from to b))) first)) r from (sign S.Comma ∷ (expression_symbols to ++ (sign S.CloseParenthesis ∷ sign S.Colon ∷ []))) after (open-fits 15 from f)
    (λ r2 g2. step-token comma_or_close (range_plan (λ from to. a_block room take (λ b. done (line, for_range x from to b))) from) r (sign S.Comma) true (expression_symbols to ++ (sign S.CloseParenthesis ∷ sign S.Colon ∷ [])) after refl
    (λ r3 g3. step-expression 15 (λ to. token close_parenthesis (λ seen. a_block room take (λ b. done (line, for_range x (Some from) to b)))) r to (sign S.CloseParenthesis ∷ sign S.Colon ∷ []) after (open-fits 15 to g)
    (λ r4 g4. step-token close_parenthesis (λ seen. a_block room take (λ b. done (line, for_range x (Some from) to b))) r (sign S.CloseParenthesis) tt (sign S.Colon ∷ []) after refl
    (λ r5 g5. into-a_block room take (λ b. done (line, for_range x (Some from) to b)) r b nothing l (λ rest e. (refl, e)) r5 g5) r4 g4) r3 g3) r2 g2) r1 g1)
    tokens shaped

-- a `with`
recording-into : (room : ℕ) (take : Taker Line) (line : ℕ) (text : Bytes) (b : Block) → IsTrue (has_statement b) × AreLines room b → (tokens : List Lexeme) → (these (sign S.Dot ∷ name (codes "record") ∷ sign S.OpenParenthesis ∷ quoted text ∷ sign S.CloseParenthesis ∷ sign S.Colon ∷ []) ⨾ (body b (lines b) ⨾ nothing)) tokens → Spells (with_plan room take line recording) (line, record_as text b) tokens
recording-into room take line text b l tokens h =
    let r : Line = (line, record_as text b) in
    let after = body b (lines b) ⨾ nothing in
    step-token dot (λ seen. token (the_name (codes "record")) (λ seen. token open_parenthesis (λ seen. token a_text (λ text. token close_parenthesis (λ seen. a_block room take (λ b. done (line, record_as text b))))))) r (sign S.Dot) tt _ after refl
    (λ r1 g1. step-token (the_name (codes "record")) (λ seen. token open_parenthesis (λ seen. token a_text (λ text. token close_parenthesis (λ seen. a_block room take (λ b. done (line, record_as text b)))))) r (name (codes "record")) tt _ after refl
    (λ r2 g2. step-token open_parenthesis (λ seen. token a_text (λ text. token close_parenthesis (λ seen. a_block room take (λ b. done (line, record_as text b))))) r (sign S.OpenParenthesis) tt _ after refl
    (λ r3 g3. step-token a_text (λ text. token close_parenthesis (λ seen. a_block room take (λ b. done (line, record_as text b)))) r (quoted text) text _ after refl
    (λ r4 g4. step-token close_parenthesis (λ seen. a_block room take (λ b. done (line, record_as text b))) r (sign S.CloseParenthesis) tt (sign S.Colon ∷ []) after refl
    (λ r5 g5. into-a_block room take (λ b. done (line, record_as text b)) r b nothing l (λ rest e. (refl, e)) r5 g5) r4 g4) r3 g3) r2 g2) r1 g1) tokens h

pub line-into : (room : ℕ) (line : ℕ) (s : Statement) (tokens : List Lexeme) → BeginsOnLine line tokens → statement s tokens → IsStatement (suc room) s → Spells (line_plan (suc room)) (line, s) tokens
line-into room line (if_then c b more) tokens l h f =
    let take = run (line_plan room) in
    placed room line (key K.If) (if_then c b more) tokens l (starts tokens (key K.If) _ _ h)
    (step-token any (λ seen. an_expression 16 (λ c. a_block room take (λ b. branches_plan room take (λ more. (line, if_then c b more))))) (line, if_then c b more) (key K.If) tt _ (body b (lines b) ⨾ branches more) refl
    (λ rest g. into-condition room take (λ c b. branches_plan room take (λ more. (line, if_then c b more))) (line, if_then c b more) c b (branches more) f.0 (f.1.0, f.1.1)
    (λ r k. into-branches-plan room take (λ more. (line, if_then c b more)) more r k f.1.2) rest g) tokens h)
line-into room line (while_do c b) tokens l h f =
    let take = run (line_plan room) in
    let g = alone _ (body b (lines b)) tokens h in
    placed room line (key K.While) (while_do c b) tokens l (starts tokens (key K.While) _ _ g)
    (step-token any (λ seen. an_expression 16 (λ c. a_block room take (λ b. done (line, while_do c b)))) (line, while_do c b) (key K.While) tt _ (body b (lines b) ⨾ nothing) refl
    (λ rest g. into-condition room take (λ c b. done (line, while_do c b)) (line, while_do c b) c b nothing f.0 f.1 (λ r k. (refl, k)) rest g) tokens g)
line-into room line (for_range x from to b) tokens l h f =
    placed room line (key K.For) (for_range x from to b) tokens l (starts tokens (key K.For) _ _ h) (for-into room (run (line_plan room)) line x from to b f.0 f.1 f.2 tokens h)
line-into room line (parallel b) tokens l h f =
    let take = run (line_plan room) in
    let g = alone _ (body b (lines b)) tokens h in
    placed room line (key K.With) (parallel b) tokens l (starts tokens (key K.With) _ _ g)
    (step-token any (λ seen. token a_with_item (with_plan room take line)) (line, parallel b) (key K.With) tt _ (body b (lines b) ⨾ nothing) refl
    (λ r1 g1. step-token a_with_item (with_plan room take line) (line, parallel b) (name (codes "parallel")) in_parallel (sign S.Colon ∷ []) (body b (lines b) ⨾ nothing) refl
    (λ rest g. into-a_block room take (λ b. done (line, parallel b)) (line, parallel b) b nothing f (λ r k. (refl, k)) rest g) r1 g1) tokens g)
line-into room line (sequential b) tokens l h f =
    let take = run (line_plan room) in
    let g = alone _ (body b (lines b)) tokens h in
    placed room line (key K.With) (sequential b) tokens l (starts tokens (key K.With) _ _ g)
    (step-token any (λ seen. token a_with_item (with_plan room take line)) (line, sequential b) (key K.With) tt _ (body b (lines b) ⨾ nothing) refl
    (λ r1 g1. step-token a_with_item (with_plan room take line) (line, sequential b) (name (codes "sequential")) in_sequence (sign S.Colon ∷ []) (body b (lines b) ⨾ nothing) refl
    (λ rest g. into-a_block room take (λ b. done (line, sequential b)) (line, sequential b) b nothing f (λ r k. (refl, k)) rest g) r1 g1) tokens g)
line-into room line (record_as text b) tokens l h f =
    let take = run (line_plan room) in
    let g = alone _ (body b (lines b)) tokens h in
    placed room line (key K.With) (record_as text b) tokens l (starts tokens (key K.With) _ _ g)
    (step-token any (λ seen. token a_with_item (with_plan room take line)) (line, record_as text b) (key K.With) tt _ (body b (lines b) ⨾ nothing) refl
    (λ r1 g1. step-token a_with_item (with_plan room take line) (line, record_as text b) (name (codes "core_dma")) recording _ (body b (lines b) ⨾ nothing) refl
    (λ rest g. recording-into room take line text b f rest g) r1 g1) tokens g)
line-into room line (try_do b no_handler) tokens l h f = absurd (let none : false ≡ true = f.2 in cc)
line-into room line (try_do b (except_then at x c more)) tokens l h f =
    let take = run (line_plan room) in
    placed room line (key K.Try) (try_do b (except_then at x c more)) tokens l (starts tokens (key K.Try) _ _ h)
    (step-token any (λ seen. a_block room take (λ b. handlers_plan room take (λ handlers. (line, try_do b handlers)))) (line, try_do b (except_then at x c more)) (key K.Try) tt (sign S.Colon ∷ []) (body b (lines b) ⨾ excepts (except_then at x c more)) refl
    (λ rest g. into-a_block room take (λ b. handlers_plan room take (λ handlers. (line, try_do b handlers))) (line, try_do b (except_then at x c more)) b (excepts (except_then at x c more)) (f.0, f.1)
    (λ r k. into-handlers-plan room take (λ handlers. (line, try_do b handlers)) at x c more r k f.3) rest g) tokens h)
line-into room line pass tokens l h f = simple-into room line pass tokens l f h
line-into room line break tokens l h f = simple-into room line break tokens l f h
line-into room line continue tokens l h f = simple-into room line continue tokens l f h
line-into room line (return e) tokens l h f = simple-into room line (return e) tokens l f h
line-into room line (evaluate e) tokens l h f = simple-into room line (evaluate e) tokens l f h
line-into room line (assign x e) tokens l h f = simple-into room line (assign x e) tokens l f h
line-into room line (assign_element x i e) tokens l h f = simple-into room line (assign_element x i e) tokens l f h
line-into room line (augment x op e) tokens l h f = simple-into room line (augment x op e) tokens l f h
line-into room line (augment_element x i op e) tokens l h f = simple-into room line (augment_element x i op e) tokens l f h
line-into room line (assign_repeated x e n) tokens l h f = simple-into room line (assign_repeated x e n) tokens l f h
line-into room line (assign_list x es) tokens l h f = simple-into room line (assign_list x es) tokens l f h

pub deepest-line-into : (line : ℕ) (s : Statement) (tokens : List Lexeme) → BeginsOnLine line tokens → statement s tokens → IsStatement 0 s → Spells (line_plan 0) (line, s) tokens
deepest-line-into line (if_then c b more) tokens l h f = absurd f.1
deepest-line-into line (while_do c b) tokens l h f = absurd f.1
deepest-line-into line (for_range x from to b) tokens l h f = absurd f.2
deepest-line-into line (parallel b) tokens l h f = absurd f
deepest-line-into line (sequential b) tokens l h f = absurd f
deepest-line-into line (record_as text b) tokens l h f = absurd f
deepest-line-into line (try_do b handlers) tokens l h f = absurd f
deepest-line-into line pass tokens l h f = deepest-into line pass tokens l f h
deepest-line-into line break tokens l h f = deepest-into line break tokens l f h
deepest-line-into line continue tokens l h f = deepest-into line continue tokens l f h
deepest-line-into line (return e) tokens l h f = deepest-into line (return e) tokens l f h
deepest-line-into line (evaluate e) tokens l h f = deepest-into line (evaluate e) tokens l f h
deepest-line-into line (assign x e) tokens l h f = deepest-into line (assign x e) tokens l f h
deepest-line-into line (assign_element x i e) tokens l h f = deepest-into line (assign_element x i e) tokens l f h
deepest-line-into line (augment x op e) tokens l h f = deepest-into line (augment x op e) tokens l f h
deepest-line-into line (augment_element x i op e) tokens l h f = deepest-into line (augment_element x i op e) tokens l f h
deepest-line-into line (assign_repeated x e n) tokens l h f = deepest-into line (assign_repeated x e n) tokens l f h
deepest-line-into line (assign_list x es) tokens l h f = deepest-into line (assign_list x es) tokens l f h
