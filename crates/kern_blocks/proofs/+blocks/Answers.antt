use Rattle.std.proofs.Common.{ℕ, Global, List, ◌∷◌, Vec, map, refl, sym, ◌∙◌, ap, subst}
use Rattle.std.specs.Prelude.{Option, Some, Result, Ok, Err, option_map}
use Rattle.kern_lexer.specs.Bytes.{Bytes}
use Rattle.kern_lexer.specs.Symbols.{Lexeme}
use Rattle.kern_lexer.specs.declared.token.Key.TheVariants as K
use Rattle.kern_lexer.specs.declared.token.TokenKind.TheVariants as T
use Rattle.kern_syntax.specs.declared.statement.Block.{Block}
use Rattle.kern_syntax.specs.declared.statement.Elif.{Elif}
use Rattle.kern_syntax.specs.declared.statement.Handler.{Handler}
use Rattle.kern_syntax.specs.declared.statement.Stmt.{Stmt}
use Rattle.kern_syntax.specs.Tree as Tree
use Rattle.kern_syntax.specs.TreeOf.{block_of}
use Rattle.kern_grammar.specs.BlockPlans.{ElifLine, ExceptLine, a_block, block_of_lines, block_plan, branches_plan, elif_plan, else_plan, except_plan, handlers_of_lines, handlers_plan, is_elif, is_else, is_except, is_line, line_phrase, line_plan, line_stop, no_stop, otherwise_of, statement_plan}
use Rattle.kern_grammar.specs.Plans.{Plan, Spells, Taken, ◌>>=◌, done, many, maybe, peek, run, token}
use Rattle.kern_grammar.specs.SimplePlans.{Line, take_expression}
use Rattle.kern_grammar.specs.Views.{a_name, colon, dedented, indented, opening}
use Rattle.kern_grammar.proofs.BlockReady.{elif-begins, except-begins, takes-elif, takes-except}
use Rattle.kern_grammar.proofs.LineMarks.{lines-items}
use Rattle.kern_grammar.proofs.LineReads.{takes-block, takes-line}
use Rattle.kern_expressions.specs.Kept.{KeptAs, ReadAs}
use Rattle.kern_expressions.specs.TakenBy.{GivesTaken, first_seen, lexemes_left, perform}
use Rattle.kern_expressions.specs.declared.tokens.Tokens.{Tokens}
use Rattle.kern_expressions.specs.declared.tokens.WrongToken.{WrongToken}
use Rattle.kern_statements.specs.Headers.{BoundTrees, bounds_of, bounds_plan, with_item_plan}
use Rattle.kern_statements.specs.LineSteps.{line_of_statement, on}
use Rattle.kern_statements.specs.Several.{one_behind, several}
use Rattle.kern_statements.proofs.LineLists.{line-behind, line-ends, lines_of}
use Rattle.kern_statements.proofs.Going.{as_it_is, goes, goes_known, stops, stops_known}
use Rattle.kern_statements.proofs.ManyLists.{an-item-ends, another-behind, another-item, behind-ends, behind_shorter, item-ends, item_shorter, last-behind, last-item, no-more, none-yet, none-yet-of-several, one-more, several-then}
use Rattle.kern_statements.proofs.Performed.{front}
use Rattle.kern_blocks.specs.BlockSteps.{ConditionalTree, colon_block, conditional, conditional_of, elif_line, except_line, for_rest, with_rest, with_statement}
use Rattle.kern_blocks.specs.declared.parts.Conditional.{Conditional}
use Rattle.kern_blocks.proofs.BlockExits.{any_statement, deepest_statement, elif_branch, named_line, one_line_block}
use Rattle.kern_blocks.proofs.Sequenced.{followed_bounds, followed_colon, followed_condition, pair_bounds, the_item, with_read}
use Rattle.kern_blocks.proofs.+blocks.Goals as goal

-- what the code's lists of branches and statements stand for
abbrev elif_lines : Vec Elif Global → List ElifLine
elif_lines v = map elif_line v.items

abbrev except_lines : Vec Handler Global → List ExceptLine
except_lines v = map except_line v.items

abbrev statement_lines : Vec Stmt Global → List Line
statement_lines v = map line_of_statement v.items

pub block::any_statement_at-returns-in-If : goal.block::any_statement_at-returns-in-If
block::any_statement_at-returns-in-If t c =
    let e = front c.args.tokens c.tail.result (T.Key K.If) c.in-len1-up.len_at_least (c.in-Key.is ∙ ap (λ k. T.Key k) c.in-If.is) c.tail.ensures.lexemes in
    subst (GivesTaken line_of_statement c.if_at.result) (sym (ap (perform (peek (λ t. statement_plan c.args.room (run (line_plan c.args.room)) c.args.line (opening t.symbol)))) e)) c.if_at.ensures

pub block::any_statement_at-returns-in-While : goal.block::any_statement_at-returns-in-While
block::any_statement_at-returns-in-While t c =
    let e = front c.args.tokens c.tail-in-While.result (T.Key K.While) c.in-len1-up.len_at_least (c.in-Key.is ∙ ap (λ k. T.Key k) c.in-While.is) c.tail-in-While.ensures.lexemes in
    subst (GivesTaken line_of_statement c.while_at.result) (sym (ap (perform (peek (λ t. statement_plan c.args.room (run (line_plan c.args.room)) c.args.line (opening t.symbol)))) e)) c.while_at.ensures

pub block::block_at-returns-in_default : goal.block::block_at-returns-in_default
block::block_at-returns-in_default t c = one_line_block c.args.room c.args.tokens c.one_line_at.result c.in-len1-up.len_at_least c.in_default.not-Newline c.one_line_at.ensures

pub branches::elif_at-returns-in-Elif : goal.branches::elif_at-returns-in-Elif
branches::elif_at-returns-in-Elif t c = elif_branch c.args.room c.args.tokens c.tail.result c.elif_parts_at.result c.in-len1-up.len_at_least (c.in-Key.is ∙ ap (λ k. T.Key k) c.in-Elif.is) c.tail.ensures.lexemes c.elif_parts_at.ensures

pub block::statement_at-returns-then-room-eq0 : goal.block::statement_at-returns-then-room-eq0
block::statement_at-returns-then-room-eq0 t c = deepest_statement c.args.room c.args.tokens c.simple_at.result c.if-room-eq0.true c.in-len1-up.len_at_least c.simple_at.ensures

pub block::statement_at-returns-else-room-eq0 : goal.block::statement_at-returns-else-room-eq0
block::statement_at-returns-else-room-eq0 t c = any_statement c.args.room c.args.tokens c.any_statement_at.result c.if-room-eq0.false c.in-len1-up.len_at_least c.any_statement_at.ensures

pub block::colon_block_at-returns : goal.block::colon_block_at-returns
block::colon_block_at-returns t c =
    let take = run (block_plan c.args.room (run (line_plan c.args.room))) in
    goes_known (KeptAs block_of) tt c.in_ok-rest.rest c.block_at.result _ (first_seen colon (lexemes_left c.args.tokens)) (λ v. take v.1 >>= λ b. Ok (b.0, b.1)) refl c.in_ok-rest.ensures
    (subst (GivesTaken block_of c.block_at.result) (sym (as_it_is (take (lexemes_left c.in_ok-rest.rest)))) c.block_at.ensures)

pub block::conditional_at-returns-in_err-condition : goal.block::conditional_at-returns-in_err-condition
block::conditional_at-returns-in_err-condition t c =
    stops ReadAs (KeptAs conditional_of) c.in_err-condition.field-0.0 c.from_residual.result _ (take_expression 16 (lexemes_left c.args.tokens)) (λ e. perform (a_block c.args.room (run (line_plan c.args.room)) (λ b. done (e.0, b))) e.1) refl c.in_err-condition.ensures c.from_residual.ensures.1

pub block::conditional_at-returns-in_err-body : goal.block::conditional_at-returns-in_err-body
block::conditional_at-returns-in_err-body t c =
    let result = c.from_residual-in_err-body.result in
    goes ReadAs (KeptAs conditional_of) c.in_ok-condition.condition c.in_ok-condition.rest result _ (take_expression 16 (lexemes_left c.args.tokens)) (λ e. perform (a_block c.args.room (run (line_plan c.args.room)) (λ b. done (e.0, b))) e.1) refl c.in_ok-condition.ensures
    (λ e r. stops (KeptAs block_of) (KeptAs conditional_of) c.in_err-body.field-0.0 result _ (perform (colon_block c.args.room) (lexemes_left c.in_ok-condition.rest)) (λ b. Ok ((e, b.0), b.1)) (followed_colon c.args.room (λ b. done (e, b)) (lexemes_left c.in_ok-condition.rest)) c.in_err-body.ensures c.from_residual-in_err-body.ensures.1)

pub block::conditional_at-returns : goal.block::conditional_at-returns
block::conditional_at-returns t c =
    let result : Result (Option Conditional × Tokens) WrongToken = Ok (c.under_condition.result, c.in_ok-body.rest) in
    goes ReadAs (KeptAs conditional_of) c.in_ok-condition.condition c.in_ok-condition.rest result _ (take_expression 16 (lexemes_left c.args.tokens)) (λ e. perform (a_block c.args.room (run (line_plan c.args.room)) (λ b. done (e.0, b))) e.1) refl c.in_ok-condition.ensures
    (λ e r. goes (KeptAs block_of) (KeptAs conditional_of) c.in_ok-body.body c.in_ok-body.rest result _ (perform (colon_block c.args.room) (lexemes_left c.in_ok-condition.rest)) (λ b. Ok ((e, b.0), b.1)) (followed_colon c.args.room (λ b. done (e, b)) (lexemes_left c.in_ok-condition.rest)) c.in_ok-body.ensures
    (λ b k. (c.under_condition.ensures e b r k, refl)))

pub block::while_at-returns-in_err-conditional : goal.block::while_at-returns-in_err-conditional
block::while_at-returns-in_err-conditional t c =
    stops (KeptAs conditional_of) (KeptAs line_of_statement) c.in_err-conditional.field-0.0 c.from_residual.result _ (perform (conditional c.args.room) (lexemes_left c.args.tokens)) (λ x. Ok ((c.args.line, Tree.while_do x.0.0 x.0.1), x.1)) (followed_condition c.args.room (λ x. done (c.args.line, Tree.while_do x.0 x.1)) (lexemes_left c.args.tokens)) c.in_err-conditional.ensures c.from_residual.ensures.1

pub block::while_at-returns : goal.block::while_at-returns
block::while_at-returns t c =
    goes (KeptAs conditional_of) (KeptAs line_of_statement) c.in_ok-conditional.conditional c.in_ok-conditional.rest (Ok (c.while_statement.result, c.in_ok-conditional.rest)) _ (perform (conditional c.args.room) (lexemes_left c.args.tokens)) (λ x. Ok ((c.args.line, Tree.while_do x.0.0 x.0.1), x.1)) (followed_condition c.args.room (λ x. done (c.args.line, Tree.while_do x.0 x.1)) (lexemes_left c.args.tokens)) c.in_ok-conditional.ensures
    (λ x k. (c.while_statement.ensures x k, refl))

pub branches::elif_parts_at-returns-in_err-conditional : goal.branches::elif_parts_at-returns-in_err-conditional
branches::elif_parts_at-returns-in_err-conditional t c =
    stops (KeptAs conditional_of) (KeptAs elif_line) c.in_err-conditional.field-0.0 c.from_residual.result _ (perform (conditional c.args.room) (lexemes_left c.args.tokens)) (λ x. Ok ((c.args.line, x.0.0, x.0.1), x.1)) (followed_condition c.args.room (λ x. done (c.args.line, x.0, x.1)) (lexemes_left c.args.tokens)) c.in_err-conditional.ensures c.from_residual.ensures.1

pub branches::elif_parts_at-returns : goal.branches::elif_parts_at-returns
branches::elif_parts_at-returns t c =
    goes (KeptAs conditional_of) (KeptAs elif_line) c.in_ok-conditional.conditional c.in_ok-conditional.rest (Ok (c.elif_branch.result, c.in_ok-conditional.rest)) _ (perform (conditional c.args.room) (lexemes_left c.args.tokens)) (λ x. Ok ((c.args.line, x.0.0, x.0.1), x.1)) (followed_condition c.args.room (λ x. done (c.args.line, x.0, x.1)) (lexemes_left c.args.tokens)) c.in_ok-conditional.ensures
    (λ x k. (c.elif_branch.ensures x k, refl))

-- the branches behind an `if`
abbrev with_branches : (room line : ℕ) → ConditionalTree → Plan Line
with_branches room line x = branches_plan room (run (line_plan room)) (λ more. (line, Tree.if_then x.0 x.1 more))

abbrev if_line : (line : ℕ) → ConditionalTree → List ElifLine → Option Tree.Block → Line
if_line line x more end = (line, Tree.if_then x.0 x.1 (otherwise_of more end))

abbrev take_elifs : (room : ℕ) → List Lexeme → Taken (List ElifLine)
take_elifs room = many is_elif (run (elif_plan room (run (line_plan room))))

abbrev take_else : (room : ℕ) → List Lexeme → Taken (Option Tree.Block)
take_else room = maybe is_else is_elif (run (else_plan room (run (line_plan room))))

pub branches::if_at-returns-in_err-conditional : goal.branches::if_at-returns-in_err-conditional
branches::if_at-returns-in_err-conditional t c =
    stops (KeptAs conditional_of) (KeptAs line_of_statement) c.in_err-conditional.field-0.0 c.from_residual.result _ (perform (conditional c.args.room) (lexemes_left c.args.tokens)) (λ x. perform (with_branches c.args.room c.args.line x.0) x.1) (followed_condition c.args.room (with_branches c.args.room c.args.line) (lexemes_left c.args.tokens)) c.in_err-conditional.ensures c.from_residual.ensures.1

pub branches::if_at-returns-in_err-branches : goal.branches::if_at-returns-in_err-branches
branches::if_at-returns-in_err-branches t c =
    let result = c.from_residual-in_err-branches.result in
    goes (KeptAs conditional_of) (KeptAs line_of_statement) c.in_ok-conditional.conditional c.in_ok-conditional.rest result _ (perform (conditional c.args.room) (lexemes_left c.args.tokens)) (λ x. perform (with_branches c.args.room c.args.line x.0) x.1) (followed_condition c.args.room (with_branches c.args.room c.args.line) (lexemes_left c.args.tokens)) c.in_ok-conditional.ensures
    (λ x k. stops (KeptAs elif_lines) (KeptAs line_of_statement) c.in_err-branches.field-0.0 result _ (take_elifs c.args.room (lexemes_left c.in_ok-conditional.rest)) (λ more. take_else c.args.room more.1 >>= λ end. Ok (if_line c.args.line x more.0 end.0, end.1)) refl c.in_err-branches.ensures c.from_residual-in_err-branches.ensures.1)

pub branches::if_at-returns-in_err-last : goal.branches::if_at-returns-in_err-last
branches::if_at-returns-in_err-last t c =
    let result = c.from_residual-in_err-last.result in
    goes (KeptAs conditional_of) (KeptAs line_of_statement) c.in_ok-conditional.conditional c.in_ok-conditional.rest result _ (perform (conditional c.args.room) (lexemes_left c.args.tokens)) (λ x. perform (with_branches c.args.room c.args.line x.0) x.1) (followed_condition c.args.room (with_branches c.args.room c.args.line) (lexemes_left c.args.tokens)) c.in_ok-conditional.ensures
    (λ x k. goes (KeptAs elif_lines) (KeptAs line_of_statement) c.in_ok-branches.branches c.in_ok-branches.rest result _ (take_elifs c.args.room (lexemes_left c.in_ok-conditional.rest)) (λ more. take_else c.args.room more.1 >>= λ end. Ok (if_line c.args.line x more.0 end.0, end.1)) refl c.in_ok-branches.ensures
    (λ more m. stops (KeptAs (option_map block_of)) (KeptAs line_of_statement) c.in_err-last.field-0.0 result _ (take_else c.args.room (lexemes_left c.in_ok-branches.rest)) (λ end. Ok (if_line c.args.line x more end.0, end.1)) refl c.in_err-last.ensures c.from_residual-in_err-last.ensures.1))

pub branches::if_at-returns : goal.branches::if_at-returns
branches::if_at-returns t c =
    let result : Result (Option Stmt × Tokens) WrongToken = Ok (c.if_statement.result, c.in_ok-last.rest) in
    goes (KeptAs conditional_of) (KeptAs line_of_statement) c.in_ok-conditional.conditional c.in_ok-conditional.rest result _ (perform (conditional c.args.room) (lexemes_left c.args.tokens)) (λ x. perform (with_branches c.args.room c.args.line x.0) x.1) (followed_condition c.args.room (with_branches c.args.room c.args.line) (lexemes_left c.args.tokens)) c.in_ok-conditional.ensures
    (λ x k. goes (KeptAs elif_lines) (KeptAs line_of_statement) c.in_ok-branches.branches c.in_ok-branches.rest result _ (take_elifs c.args.room (lexemes_left c.in_ok-conditional.rest)) (λ more. take_else c.args.room more.1 >>= λ end. Ok (if_line c.args.line x more.0 end.0, end.1)) refl c.in_ok-branches.ensures
    (λ more m. goes (KeptAs (option_map block_of)) (KeptAs line_of_statement) c.in_ok-last.last c.in_ok-last.rest result _ (take_else c.args.room (lexemes_left c.in_ok-branches.rest)) (λ end. Ok (if_line c.args.line x more end.0, end.1)) refl c.in_ok-last.ensures
    (λ end l. (c.if_statement.ensures x more end k m l, refl))))

pub branches::else_block_at-returns-in_err-body : goal.branches::else_block_at-returns-in_err-body
branches::else_block_at-returns-in_err-body t c =
    stops (KeptAs block_of) (KeptAs (option_map block_of)) c.in_err-body.field-0.0 c.from_residual.result _ (perform (colon_block c.args.room) (lexemes_left c.args.tokens)) (λ b. Ok (Some b.0, b.1)) (followed_colon c.args.room (λ b. done (Some b)) (lexemes_left c.args.tokens)) c.in_err-body.ensures c.from_residual.ensures.1

pub branches::else_block_at-returns : goal.branches::else_block_at-returns
branches::else_block_at-returns t c =
    goes (KeptAs block_of) (KeptAs (option_map block_of)) c.in_ok-body.body c.in_ok-body.rest (Ok (c.else_branch.result, c.in_ok-body.rest)) _ (perform (colon_block c.args.room) (lexemes_left c.args.tokens)) (λ b. Ok (Some b.0, b.1)) (followed_colon c.args.room (λ b. done (Some b)) (lexemes_left c.args.tokens)) c.in_ok-body.ensures
    (λ b k. (c.else_branch.ensures b k, refl))

-- the branches behind a `try`
abbrev with_handlers : (room line : ℕ) → Tree.Block → Plan Line
with_handlers room line b = handlers_plan room (run (line_plan room)) (λ handlers. (line, Tree.try_do b handlers))

abbrev try_line : (line : ℕ) → Tree.Block → List ExceptLine × List Lexeme → Taken Line
try_line line b handlers = Ok ((line, Tree.try_do b (handlers_of_lines handlers.0)), handlers.1)

abbrev take_except : (room : ℕ) → List Lexeme → Taken ExceptLine
take_except room = run (except_plan room (run (line_plan room)))

pub branches::try_at-returns-in_err-body : goal.branches::try_at-returns-in_err-body
branches::try_at-returns-in_err-body t c =
    stops (KeptAs block_of) (KeptAs line_of_statement) c.in_err-body.field-0.0 c.from_residual.result _ (perform (colon_block c.args.room) (lexemes_left c.args.tokens)) (λ b. perform (with_handlers c.args.room c.args.line b.0) b.1) (followed_colon c.args.room (with_handlers c.args.room c.args.line) (lexemes_left c.args.tokens)) c.in_err-body.ensures c.from_residual.ensures.1

pub branches::try_at-returns-in_err-handlers : goal.branches::try_at-returns-in_err-handlers
branches::try_at-returns-in_err-handlers t c =
    let result = c.from_residual-in_err-handlers.result in
    let rest = lexemes_left c.in_ok-body.rest in
    goes (KeptAs block_of) (KeptAs line_of_statement) c.in_ok-body.body c.in_ok-body.rest result _ (perform (colon_block c.args.room) (lexemes_left c.args.tokens)) (λ b. perform (with_handlers c.args.room c.args.line b.0) b.1) (followed_colon c.args.room (with_handlers c.args.room c.args.line) (lexemes_left c.args.tokens)) c.in_ok-body.ensures
    (λ b k. stops (KeptAs except_lines) (KeptAs line_of_statement) c.in_err-handlers.field-0.0 result _ (several is_except (take_except c.args.room) rest) (try_line c.args.line b) (several-then is_except (take_except c.args.room) rest (try_line c.args.line b)) c.in_err-handlers.ensures c.from_residual-in_err-handlers.ensures.1)

pub branches::try_at-returns : goal.branches::try_at-returns
branches::try_at-returns t c =
    let result : Result (Option Stmt × Tokens) WrongToken = Ok (c.try_statement.result, c.in_ok-handlers.rest) in
    let rest = lexemes_left c.in_ok-body.rest in
    goes (KeptAs block_of) (KeptAs line_of_statement) c.in_ok-body.body c.in_ok-body.rest result _ (perform (colon_block c.args.room) (lexemes_left c.args.tokens)) (λ b. perform (with_handlers c.args.room c.args.line b.0) b.1) (followed_colon c.args.room (with_handlers c.args.room c.args.line) (lexemes_left c.args.tokens)) c.in_ok-body.ensures
    (λ b k. goes (KeptAs except_lines) (KeptAs line_of_statement) c.in_ok-handlers.handlers c.in_ok-handlers.rest result _ (several is_except (take_except c.args.room) rest) (try_line c.args.line b) (several-then is_except (take_except c.args.room) rest (try_line c.args.line b)) c.in_ok-handlers.ensures
    (λ xs m. (c.try_statement.ensures b xs k m, refl)))

pub branches::handler_parts_at-returns-in_err-exception : goal.branches::handler_parts_at-returns-in_err-exception
branches::handler_parts_at-returns-in_err-exception t c =
    stops (KeptAs (λ n. n)) (KeptAs except_line) c.in_err-exception.field-0.0 c.from_residual.result _ (first_seen a_name (lexemes_left c.args.tokens)) (λ x. perform (a_block c.args.room (run (line_plan c.args.room)) (λ b. done (c.args.line, x.0, b))) x.1) refl c.in_err-exception.ensures c.from_residual.ensures.1

pub branches::handler_parts_at-returns-in_err-body : goal.branches::handler_parts_at-returns-in_err-body
branches::handler_parts_at-returns-in_err-body t c =
    let result = c.from_residual-in_err-body.result in
    let rest = lexemes_left c.in_ok-exception.rest in
    goes (KeptAs (λ n. n)) (KeptAs except_line) c.in_ok-exception.exception c.in_ok-exception.rest result _ (first_seen a_name (lexemes_left c.args.tokens)) (λ x. perform (a_block c.args.room (run (line_plan c.args.room)) (λ b. done (c.args.line, x.0, b))) x.1) refl c.in_ok-exception.ensures
    (λ x k. stops (KeptAs block_of) (KeptAs except_line) c.in_err-body.field-0.0 result _ (perform (colon_block c.args.room) rest) (λ b. Ok ((c.args.line, x, b.0), b.1)) (followed_colon c.args.room (λ b. done (c.args.line, x, b)) rest) c.in_err-body.ensures c.from_residual-in_err-body.ensures.1)

pub branches::handler_parts_at-returns : goal.branches::handler_parts_at-returns
branches::handler_parts_at-returns t c =
    let result : Result (Option Handler × Tokens) WrongToken = Ok (c.handler_branch.result, c.in_ok-body.rest) in
    let rest = lexemes_left c.in_ok-exception.rest in
    goes (KeptAs (λ n. n)) (KeptAs except_line) c.in_ok-exception.exception c.in_ok-exception.rest result _ (first_seen a_name (lexemes_left c.args.tokens)) (λ x. perform (a_block c.args.room (run (line_plan c.args.room)) (λ b. done (c.args.line, x.0, b))) x.1) refl c.in_ok-exception.ensures
    (λ x k. goes (KeptAs block_of) (KeptAs except_line) c.in_ok-body.body c.in_ok-body.rest result _ (perform (colon_block c.args.room) rest) (λ b. Ok ((c.args.line, x, b.0), b.1)) (followed_colon c.args.room (λ b. done (c.args.line, x, b)) rest) c.in_ok-body.ensures
    (λ b m. (c.handler_branch.ensures x b k m, refl)))

-- the bounds of a `for` and what follows them
abbrev bounded : (room line : ℕ) → Bytes → Plan Line
bounded room line x = bounds_plan (for_rest room line x)

abbrev for_line : (line : ℕ) → Bytes → BoundTrees → Tree.Block → Line
for_line line x ends b = (line, Tree.for_range x ends.0 ends.1 b)

pub block::for_at-returns-in_err-name : goal.block::for_at-returns-in_err-name
block::for_at-returns-in_err-name t c =
    stops (KeptAs (λ n. n)) (KeptAs line_of_statement) c.in_err-name.field-0.0 c.from_residual.result _ (first_seen a_name (lexemes_left c.args.tokens)) (λ x. perform (bounded c.args.room c.args.line x.0) x.1) refl c.in_err-name.ensures c.from_residual.ensures.1

pub block::for_at-returns-in_err-bounds : goal.block::for_at-returns-in_err-bounds
block::for_at-returns-in_err-bounds t c =
    let result = c.from_residual-in_err-bounds.result in
    let rest = lexemes_left c.in_ok-name.rest in
    goes (KeptAs (λ n. n)) (KeptAs line_of_statement) c.in_ok-name.name c.in_ok-name.rest result _ (first_seen a_name (lexemes_left c.args.tokens)) (λ x. perform (bounded c.args.room c.args.line x.0) x.1) refl c.in_ok-name.ensures
    (λ x k. stops (KeptAs bounds_of) (KeptAs line_of_statement) c.in_err-bounds.field-0.0 result _ (perform (bounds_plan pair_bounds) rest) (λ ends. perform (for_rest c.args.room c.args.line x ends.0.0 ends.0.1) ends.1) (followed_bounds (for_rest c.args.room c.args.line x) rest) c.in_err-bounds.ensures c.from_residual-in_err-bounds.ensures.1)

pub block::for_at-returns-in_err-body : goal.block::for_at-returns-in_err-body
block::for_at-returns-in_err-body t c =
    let result = c.from_residual-in_err-body.result in
    let rest = lexemes_left c.in_ok-name.rest in
    let behind = lexemes_left c.in_ok-bounds.rest in
    goes (KeptAs (λ n. n)) (KeptAs line_of_statement) c.in_ok-name.name c.in_ok-name.rest result _ (first_seen a_name (lexemes_left c.args.tokens)) (λ x. perform (bounded c.args.room c.args.line x.0) x.1) refl c.in_ok-name.ensures
    (λ x k. goes (KeptAs bounds_of) (KeptAs line_of_statement) c.in_ok-bounds.bounds c.in_ok-bounds.rest result _ (perform (bounds_plan pair_bounds) rest) (λ ends. perform (for_rest c.args.room c.args.line x ends.0.0 ends.0.1) ends.1) (followed_bounds (for_rest c.args.room c.args.line x) rest) c.in_ok-bounds.ensures
    (λ ends m. stops (KeptAs block_of) (KeptAs line_of_statement) c.in_err-body.field-0.0 result _ (perform (colon_block c.args.room) behind) (λ b. Ok (for_line c.args.line x ends b.0, b.1)) (followed_colon c.args.room (λ b. done (for_line c.args.line x ends b)) behind) c.in_err-body.ensures c.from_residual-in_err-body.ensures.1))

pub block::for_at-returns : goal.block::for_at-returns
block::for_at-returns t c =
    let result : Result (Option Stmt × Tokens) WrongToken = Ok (c.for_statement.result, c.in_ok-body.rest) in
    let rest = lexemes_left c.in_ok-name.rest in
    let behind = lexemes_left c.in_ok-bounds.rest in
    goes (KeptAs (λ n. n)) (KeptAs line_of_statement) c.in_ok-name.name c.in_ok-name.rest result _ (first_seen a_name (lexemes_left c.args.tokens)) (λ x. perform (bounded c.args.room c.args.line x.0) x.1) refl c.in_ok-name.ensures
    (λ x k. goes (KeptAs bounds_of) (KeptAs line_of_statement) c.in_ok-bounds.bounds c.in_ok-bounds.rest result _ (perform (bounds_plan pair_bounds) rest) (λ ends. perform (for_rest c.args.room c.args.line x ends.0.0 ends.0.1) ends.1) (followed_bounds (for_rest c.args.room c.args.line x) rest) c.in_ok-bounds.ensures
    (λ ends m. goes (KeptAs block_of) (KeptAs line_of_statement) c.in_ok-body.body c.in_ok-body.rest result _ (perform (colon_block c.args.room) behind) (λ b. Ok (for_line c.args.line x ends b.0, b.1)) (followed_colon c.args.room (λ b. done (for_line c.args.line x ends b)) behind) c.in_ok-body.ensures
    (λ b l. (c.for_statement.ensures x ends b k m l, refl))))

pub block::with_at-returns-in-Err : goal.block::with_at-returns-in-Err
block::with_at-returns-in-Err t c =
    stops_known (KeptAs line_of_statement) c.in-Err.wrong (Err c.in-Err.wrong) _ (perform (with_item_plan the_item) (lexemes_left c.args.tokens)) (λ i. perform (with_rest c.args.room c.args.line i.0) i.1) (with_read c.args.room c.args.line (lexemes_left c.args.tokens)) c.in-Err.ensures refl

pub block::with_at-returns-in-Ok : goal.block::with_at-returns-in-Ok
block::with_at-returns-in-Ok t c =
    goes_known (KeptAs line_of_statement) c.in-Ok.item c.in-Ok.rest c.with_body_at.result _ (perform (with_item_plan the_item) (lexemes_left c.args.tokens)) (λ i. perform (with_rest c.args.room c.args.line i.0) i.1) (with_read c.args.room c.args.line (lexemes_left c.args.tokens)) c.in-Ok.ensures c.with_body_at.ensures

pub block::with_body_at-returns-in_err-body : goal.block::with_body_at-returns-in_err-body
block::with_body_at-returns-in_err-body t c =
    let rest = lexemes_left c.args.tokens in
    stops (KeptAs block_of) (KeptAs line_of_statement) c.in_err-body.field-0.0 c.from_residual.result _ (perform (colon_block c.args.room) rest) (λ b. Ok ((c.args.line, with_statement c.args.item b.0), b.1)) (followed_colon c.args.room (λ b. done (c.args.line, with_statement c.args.item b)) rest) c.in_err-body.ensures c.from_residual.ensures.1

pub block::with_body_at-returns : goal.block::with_body_at-returns
block::with_body_at-returns t c =
    let rest = lexemes_left c.args.tokens in
    goes (KeptAs block_of) (KeptAs line_of_statement) c.in_ok-body.body c.in_ok-body.rest (Ok (c.with_statement.result, c.in_ok-body.rest)) _ (perform (colon_block c.args.room) rest) (λ b. Ok ((c.args.line, with_statement c.args.item b.0), b.1)) (followed_colon c.args.room (λ b. done (c.args.line, with_statement c.args.item b)) rest) c.in_ok-body.ensures
    (λ b k. (c.with_statement.ensures b k, refl))

-- the statements of a block up to its Dedent
abbrev dedented_lines : List Line × List Lexeme → Taken Tree.Block
dedented_lines xs = perform (token dedented (λ seen. done (block_of_lines xs.0))) xs.1

abbrev take_lines : (room : ℕ) → List Lexeme → Taken Tree.Block
take_lines room tokens = run (line_plan room) tokens >>= λ x. many is_line (run (line_plan room)) x.1 >>= λ xs. dedented_lines (x.0 ∷ xs.0, xs.1)

pub block::indented_at-returns-in_err-statements : goal.block::indented_at-returns-in_err-statements
block::indented_at-returns-in_err-statements t c =
    let result = c.from_residual-in_err-statements.result in
    let lines = lexemes_left c.in_ok-lines.lines in
    let take = run (line_plan c.args.room) in
    goes_known (KeptAs block_of) tt c.in_ok-lines.lines result _ (first_seen indented (lexemes_left c.args.tokens)) (λ v. take_lines c.args.room v.1) refl c.in_ok-lines.ensures
    (stops (KeptAs statement_lines) (KeptAs block_of) c.in_err-statements.field-0.0 result _ (several is_line take lines) dedented_lines (several-then is_line take lines dedented_lines) c.in_err-statements.ensures c.from_residual-in_err-statements.ensures.1)

pub block::indented_at-returns-in_err-rest : goal.block::indented_at-returns-in_err-rest
block::indented_at-returns-in_err-rest t c =
    let result = c.from_residual-in_err-rest.result in
    let lines = lexemes_left c.in_ok-lines.lines in
    let take = run (line_plan c.args.room) in
    goes_known (KeptAs block_of) tt c.in_ok-lines.lines result _ (first_seen indented (lexemes_left c.args.tokens)) (λ v. take_lines c.args.room v.1) refl c.in_ok-lines.ensures
    (goes (KeptAs statement_lines) (KeptAs block_of) c.in_ok-statements.statements c.in_ok-statements.end result _ (several is_line take lines) dedented_lines (several-then is_line take lines dedented_lines) c.in_ok-statements.ensures
    (λ xs k. stops_known (KeptAs block_of) c.in_err-rest.field-0.0 result _ (first_seen dedented (lexemes_left c.in_ok-statements.end)) (λ v. Ok (block_of_lines xs, v.1)) refl c.in_err-rest.ensures c.from_residual-in_err-rest.ensures.1))

pub block::indented_at-returns : goal.block::indented_at-returns
block::indented_at-returns t c =
    let result : Result (Option Block × Tokens) WrongToken = Ok (c.block_with.result, c.in_ok-rest.rest) in
    let lines = lexemes_left c.in_ok-lines.lines in
    let take = run (line_plan c.args.room) in
    goes_known (KeptAs block_of) tt c.in_ok-lines.lines result _ (first_seen indented (lexemes_left c.args.tokens)) (λ v. take_lines c.args.room v.1) refl c.in_ok-lines.ensures
    (goes (KeptAs statement_lines) (KeptAs block_of) c.in_ok-statements.statements c.in_ok-statements.end result _ (several is_line take lines) dedented_lines (several-then is_line take lines dedented_lines) c.in_ok-statements.ensures
    (λ xs k. goes_known (KeptAs block_of) tt c.in_ok-rest.rest result _ (first_seen dedented (lexemes_left c.in_ok-statements.end)) (λ v. Ok (block_of_lines xs, v.1)) refl c.in_ok-rest.ensures (c.block_with.ensures xs k, refl)))

pub branches::elifs_at-branches-init : goal.branches::elifs_at-branches-init
branches::elifs_at-branches-init t c = none-yet (λ v. map elif_line v.items) c.new.result is_elif (run (elif_plan c.args.room (run (line_plan c.args.room)))) (lexemes_left c.args.tokens) (ap (map elif_line) c.new.ensures.items)

pub branches::elifs_at-returns-in_err-branch : goal.branches::elifs_at-returns-in_err-branch
branches::elifs_at-returns-in_err-branch t c =
    let take = run (elif_plan c.args.room (run (line_plan c.args.room))) in
    item-ends (λ v. map elif_line v.items) (KeptAs elif_line) c.branches.branches is_elif take (lexemes_left c.branches.rest) (many is_elif take (lexemes_left c.args.tokens)) c.branches.invariant (sym c.begins_elif.ensures ∙ c.branches-test.true) c.in_err-branch.field-0.0 c.from_residual.result c.in_err-branch.ensures c.from_residual.ensures.1

pub branches::elifs_at-branches-smaller : goal.branches::elifs_at-branches-smaller
branches::elifs_at-branches-smaller t c =
    let room = c.args.room in
    let take = run (line_plan room) in
    item_shorter (KeptAs elif_line) (Spells (elif_plan room take)) no_stop is_elif (run (elif_plan room take)) (takes-elif room take (takes-block room take (takes-line room))) (elif-begins room take) (lexemes_left c.branches.rest) c.in_ok-branch.branch c.in_ok-branch.behind c.in_ok-branch.ensures

pub branches::elifs_at-branches-preserved : goal.branches::elifs_at-branches-preserved
branches::elifs_at-branches-preserved t c =
    let room = c.args.room in
    let take = run (line_plan room) in
    let whole = many is_elif (run (elif_plan room take)) (lexemes_left c.args.tokens) in
    one-more (λ v. v.items) elif_line (KeptAs elif_line) (Spells (elif_plan room take)) no_stop is_elif (run (elif_plan room take)) (takes-elif room take (takes-block room take (takes-line room))) (elif-begins room take)
    c.branches.branches (lexemes_left c.branches.rest) whole c.branches.invariant c.in_ok-branch.branch c.in_ok-branch.behind c.in_ok-branch.ensures c.in_ok-branch.branch c.pushed-branches.result (λ y k. k) c.pushed-branches.ensures

pub branches::elifs_at-returns : goal.branches::elifs_at-returns
branches::elifs_at-returns t c =
    let take = run (elif_plan c.args.room (run (line_plan c.args.room))) in
    no-more (λ v. map elif_line v.items) c.branches.branches is_elif take c.branches.rest (many is_elif take (lexemes_left c.args.tokens)) c.branches.invariant (sym c.begins_elif.ensures ∙ c.branches-test.false)

pub block::statements_at-lines-init : goal.block::statements_at-lines-init
block::statements_at-lines-init t c = none-yet-of-several (λ v. map line_of_statement v.items) c.new.result is_line (run (line_plan c.args.room)) (lexemes_left c.args.tokens) (ap (map line_of_statement) c.new.ensures.items)

pub block::statements_at-returns-in_err-more : goal.block::statements_at-returns-in_err-more
block::statements_at-returns-in_err-more t c =
    behind-ends (λ v. v.items) line_of_statement is_line (run (line_plan c.args.room)) c.lines.statements (lexemes_left c.lines.rest) (several is_line (run (line_plan c.args.room)) (lexemes_left c.args.tokens)) c.lines.invariant c.in_err-more.field-0.0 c.from_residual.result (c.in_err-more.ensures c.lines.invariant.0 c.lines.invariant.1) c.from_residual.ensures.1

pub block::statements_at-lines-smaller : goal.block::statements_at-lines-smaller
block::statements_at-lines-smaller t c =
    behind_shorter (λ v. v.items) line_of_statement (line_phrase c.args.room) line_stop is_line (run (line_plan c.args.room)) (takes-line c.args.room) (lines-items c.args.room).begins c.lines.invariant.0 (lexemes_left c.lines.rest) c.in_ok-more.more c.in_ok-more.behind (c.in_ok-more.ensures c.lines.invariant.0 c.lines.invariant.1)

pub block::statements_at-lines-preserved : goal.block::statements_at-lines-preserved
block::statements_at-lines-preserved t c =
    another-behind (λ v. v.items) line_of_statement (line_phrase c.args.room) line_stop is_line (run (line_plan c.args.room)) (takes-line c.args.room) (lines-items c.args.room).begins
    c.lines.statements (lexemes_left c.lines.rest) (several is_line (run (line_plan c.args.room)) (lexemes_left c.args.tokens)) c.lines.invariant c.in_ok-more.more c.in_ok-more.behind (c.in_ok-more.ensures c.lines.invariant.0 c.lines.invariant.1) (sym c.begins_line.ensures ∙ c.if-not-begins_line.false)

pub block::statements_at-returns-then-not-begins_line : goal.block::statements_at-returns-then-not-begins_line
block::statements_at-returns-then-not-begins_line t c =
    last-behind (λ v. v.items) line_of_statement is_line (run (line_plan c.args.room)) c.lines.statements (lexemes_left c.lines.rest) (several is_line (run (line_plan c.args.room)) (lexemes_left c.args.tokens)) c.lines.invariant c.in_ok-more.more c.in_ok-more.behind (c.in_ok-more.ensures c.lines.invariant.0 c.lines.invariant.1) (sym c.begins_line.ensures ∙ c.if-not-begins_line.true)

pub block::statement_behind-returns-in-Name : goal.block::statement_behind-returns-in-Name
block::statement_behind-returns-in-Name t c = λ xs k.
    subst (λ taken. GivesTaken lines_of c.expression_behind.result (one_behind xs taken)) (sym (named_line c.args.room c.args.tokens c.in-len1-up.len_at_least c.in-Name.is)) (c.expression_behind.ensures xs k)

pub block::other_behind-returns-in-Err : goal.block::other_behind-returns-in-Err
block::other_behind-returns-in-Err t c = λ xs k. line-ends c.in-Err.wrong xs (run (line_plan c.args.room) (lexemes_left c.args.tokens)) c.in-Err.ensures

pub block::other_behind-returns-in-Ok : goal.block::other_behind-returns-in-Ok
block::other_behind-returns-in-Ok t c = λ xs k.
    line-behind c.args.others c.in-Ok.statement c.pushed.result c.in-Ok.rest xs (run (line_plan c.args.room) (lexemes_left c.args.tokens)) k c.in-Ok.ensures c.pushed.ensures

pub branches::handlers_at-handlers-init : goal.branches::handlers_at-handlers-init
branches::handlers_at-handlers-init t c = none-yet-of-several (λ v. map except_line v.items) c.new.result is_except (run (except_plan c.args.room (run (line_plan c.args.room)))) (lexemes_left c.args.tokens) (ap (map except_line) c.new.ensures.items)

pub branches::handlers_at-returns-in_err-handler : goal.branches::handlers_at-returns-in_err-handler
branches::handlers_at-returns-in_err-handler t c =
    an-item-ends (λ v. v.items) except_line is_except (run (except_plan c.args.room (run (line_plan c.args.room)))) c.handlers.handlers (lexemes_left c.handlers.rest) (several is_except (run (except_plan c.args.room (run (line_plan c.args.room)))) (lexemes_left c.args.tokens)) c.handlers.invariant c.in_err-handler.field-0.0 c.from_residual.result c.in_err-handler.ensures c.from_residual.ensures.1

pub branches::handlers_at-handlers-smaller : goal.branches::handlers_at-handlers-smaller
branches::handlers_at-handlers-smaller t c =
    item_shorter (KeptAs except_line) (Spells (except_plan c.args.room (run (line_plan c.args.room)))) no_stop is_except (run (except_plan c.args.room (run (line_plan c.args.room)))) (takes-except c.args.room (run (line_plan c.args.room)) (takes-block c.args.room (run (line_plan c.args.room)) (takes-line c.args.room))) (except-begins c.args.room (run (line_plan c.args.room))) (lexemes_left c.handlers.rest) c.in_ok-handler.handler c.in_ok-handler.behind c.in_ok-handler.ensures

pub branches::handlers_at-handlers-preserved : goal.branches::handlers_at-handlers-preserved
branches::handlers_at-handlers-preserved t c =
    another-item (λ v. v.items) except_line (Spells (except_plan c.args.room (run (line_plan c.args.room)))) no_stop is_except (run (except_plan c.args.room (run (line_plan c.args.room)))) (takes-except c.args.room (run (line_plan c.args.room)) (takes-block c.args.room (run (line_plan c.args.room)) (takes-line c.args.room))) (except-begins c.args.room (run (line_plan c.args.room)))
    c.handlers.handlers (lexemes_left c.handlers.rest) (several is_except (run (except_plan c.args.room (run (line_plan c.args.room)))) (lexemes_left c.args.tokens)) c.handlers.invariant c.in_ok-handler.handler c.in_ok-handler.behind c.in_ok-handler.ensures c.pushed-handlers.result c.pushed-handlers.ensures (sym c.begins_except.ensures ∙ c.if-not-begins_except.false)

pub branches::handlers_at-returns-then-not-begins_except : goal.branches::handlers_at-returns-then-not-begins_except
branches::handlers_at-returns-then-not-begins_except t c =
    last-item (λ v. v.items) except_line is_except (run (except_plan c.args.room (run (line_plan c.args.room)))) c.handlers.handlers (lexemes_left c.handlers.rest) (several is_except (run (except_plan c.args.room (run (line_plan c.args.room)))) (lexemes_left c.args.tokens)) c.handlers.invariant c.in_ok-handler.handler c.in_ok-handler.behind c.in_ok-handler.ensures c.pushed-handlers.result c.pushed-handlers.ensures (sym c.begins_except.ensures ∙ c.if-not-begins_except.true)
