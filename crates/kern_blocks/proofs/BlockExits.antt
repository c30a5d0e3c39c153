-- What the reading functions of blocks need at their exits.
use Rattle.std.proofs.Common.{◌≡◌, ◌≢◌, ℕ, zero, suc, ◌-◌, ◌≤◌, sym, ◌∙◌, ap, subst, arith, length, get_or, drop}
use Rattle.std.specs.Prelude.{Option, Result}
use Rattle.kern_lexer.specs.declared.token.Key.TheVariants as K
use Rattle.kern_lexer.specs.declared.token.TokenKind.TheVariants as T
use Rattle.kern_syntax.specs.declared.statement.Block.{Block}
use Rattle.kern_syntax.specs.declared.statement.Elif.{Elif}
use Rattle.kern_syntax.specs.declared.statement.Stmt.{Stmt}
use Rattle.kern_syntax.specs.TreeOf.{block_of}
use Rattle.kern_expressions.specs.declared.tokens.Tokens.{Tokens}
use Rattle.kern_expressions.specs.declared.tokens.WrongToken.{WrongToken}
use Rattle.kern_grammar.specs.BlockPlans.{block_by, block_plan, elif_plan, statement_plan, line_plan}
use Rattle.kern_blocks.specs.BlockSteps.{as_block, elif_line, elif_parts}
use Rattle.kern_grammar.specs.Plans.{peek, run}
use Rattle.kern_grammar.specs.SimplePlans.{by_expression, simple_plan}
use Rattle.kern_expressions.specs.TakenBy.{GivesTaken, lexemes_left, perform}
use Rattle.kern_statements.specs.LineSteps.{line_of_statement, on}
use Rattle.kern_grammar.specs.Views.{is_seen, line_end, opening}
use Rattle.kern_statements.proofs.Performed.{perform-run, peeked, front, first_as, first_kind, no_line_end, no_token}

-- the line of the first token
abbrev pub first_line : Tokens → ℕ
first_line tokens = (get_or tokens.list.now 0 no_token).line

-- a block on the line of its header
pub one_line_block : (room : ℕ) (tokens : Tokens) (outcome : Result (Option Block × Tokens) WrongToken) → 1 ≤ length tokens.list.now → (first_kind tokens ≡ T.Newline → ⊥) → GivesTaken block_of outcome (perform (peek (λ t. simple_plan (as_block (first_line tokens)) (opening t.symbol))) (lexemes_left tokens)) → GivesTaken block_of outcome (run (block_plan room (run (line_plan room))) (lexemes_left tokens))
one_line_block room tokens outcome h n g =
    let take = run (line_plan room) in
    let first = first_as tokens (first_kind tokens) in
    let same =
    peeked (λ t. simple_plan (as_block (first_line tokens)) (opening t.symbol)) tokens h
    ∙ ap (λ c. perform (block_by room take first c) (lexemes_left tokens)) (sym (no_line_end tokens.text.now _ _ (first_kind tokens) n))
    ∙ sym (peeked (λ t. block_by room take t (is_seen (line_end t.symbol))) tokens h)
    ∙ perform-run (block_plan room take) (lexemes_left tokens) in
    subst (GivesTaken block_of outcome) same g

-- a statement at the deepest nesting
pub deepest_statement : (room : ℕ) (tokens : Tokens) (outcome : Result (Option Stmt × Tokens) WrongToken) → room ≡ 0 → 1 ≤ length tokens.list.now → GivesTaken line_of_statement outcome (perform (peek (λ t. simple_plan (on (first_line tokens)) (opening t.symbol))) (lexemes_left tokens)) → GivesTaken line_of_statement outcome (run (line_plan room) (lexemes_left tokens))
deepest_statement room tokens outcome z h g =
    let first = first_as tokens (first_kind tokens) in
    let same =
    peeked (λ t. simple_plan (on (first_line tokens)) (opening t.symbol)) tokens h
    ∙ sym (peeked (λ t. simple_plan (λ s. (t.line, s)) (opening t.symbol)) tokens h)
    ∙ perform-run (line_plan 0) (lexemes_left tokens)
    ∙ ap (λ r. run (line_plan r) (lexemes_left tokens)) (sym z) in
    subst (GivesTaken line_of_statement outcome) same g

-- a statement that may have blocks
pub any_statement : (room : ℕ) (tokens : Tokens) (outcome : Result (Option Stmt × Tokens) WrongToken) → room ≢ 0 → 1 ≤ length tokens.list.now → GivesTaken line_of_statement outcome (perform (peek (λ t. statement_plan (room - 1) (run (line_plan (room - 1))) (first_line tokens) (opening t.symbol))) (lexemes_left tokens)) → GivesTaken line_of_statement outcome (run (line_plan room) (lexemes_left tokens))
any_statement room tokens outcome n h g =
    let first = first_as tokens (first_kind tokens) in
    let below = room - 1 in
    let up : suc below ≡ room = omega (arith, n) in
    let same =
    peeked (λ t. statement_plan below (run (line_plan below)) (first_line tokens) (opening t.symbol)) tokens h
    ∙ sym (peeked (λ t. statement_plan below (run (line_plan below)) t.line (opening t.symbol)) tokens h)
    ∙ perform-run (line_plan (suc below)) (lexemes_left tokens)
    ∙ ap (λ r. run (line_plan r) (lexemes_left tokens)) up in
    subst (GivesTaken line_of_statement outcome) same g

-- a statement that begins with a name is one that begins with an expression
pub named_line : (room : ℕ) (tokens : Tokens) → 1 ≤ length tokens.list.now → first_kind tokens ≡ T.Name → run (line_plan room) (lexemes_left tokens) ≡ perform (by_expression (on (first_line tokens))) (lexemes_left tokens)
named_line zero tokens h k =
    sym (perform-run (line_plan 0) (lexemes_left tokens))
    ∙ peeked (λ t. simple_plan (λ s. (t.line, s)) (opening t.symbol)) tokens h
    ∙ ap (λ q. perform (simple_plan (on (first_line tokens)) (opening (first_as tokens q).symbol)) (lexemes_left tokens)) k
named_line (suc room) tokens h k =
    sym (perform-run (line_plan (suc room)) (lexemes_left tokens))
    ∙ peeked (λ t. statement_plan room (run (line_plan room)) t.line (opening t.symbol)) tokens h
    ∙ ap (λ q. perform (statement_plan room (run (line_plan room)) (first_line tokens) (opening (first_as tokens q).symbol)) (lexemes_left tokens)) k

-- an `elif` branch
pub elif_branch : (room : ℕ) (tokens rest : Tokens) (outcome : Result (Option Elif × Tokens) WrongToken) → 1 ≤ length tokens.list.now → first_kind tokens ≡ T.Key K.Elif → lexemes_left rest ≡ drop 1 (lexemes_left tokens) → GivesTaken elif_line outcome (perform (elif_parts room (first_line tokens)) (lexemes_left rest)) → GivesTaken elif_line outcome (run (elif_plan room (run (line_plan room))) (lexemes_left tokens))
elif_branch room tokens rest outcome h k l g =
    let plan = elif_plan room (run (line_plan room)) in
    let e = front tokens rest (T.Key K.Elif) h k l in
    subst (GivesTaken elif_line outcome) (sym (ap (perform plan) e) ∙ perform-run plan (lexemes_left tokens)) g
