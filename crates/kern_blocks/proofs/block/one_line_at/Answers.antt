use Rattle.std.proofs.Common.{[], ◌∷◌, List, ap, map, refl}
use Rattle.std.specs.Prelude.{Some, Ok}
use Rattle.kern_syntax.specs.Tree.{line_then}
use Rattle.kern_syntax.specs.Tree as Tree
use Rattle.kern_syntax.specs.TreeOf.{block_of}
use Rattle.kern_grammar.specs.Plans.{peek}
use Rattle.kern_grammar.specs.SimplePlans.{Line, simple_plan}
use Rattle.kern_grammar.specs.Views.{opening}
use Rattle.kern_expressions.specs.Kept.{KeptAs}
use Rattle.kern_expressions.specs.TakenBy.{lexemes_left, perform}
use Rattle.kern_expressions.proofs.Keeping.{keeps-more}
use Rattle.kern_statements.specs.LineSteps.{line_of_statement, on}
use Rattle.kern_statements.proofs.Going.{goes, stops}
use Rattle.kern_blocks.proofs.Mapped.{mapped_look}
use Rattle.kern_blocks.proofs.block.one_line_at.Goals as goal

-- a line as a block
abbrev block_of_line : Line → Tree.Block
block_of_line x = line_then x.0 x.1 Tree.done

pub returns-in_err-statement : goal.returns-in_err-statement
returns-in_err-statement c =
    let first = perform (peek (λ t. simple_plan (on c.args.line) (opening t.symbol))) (lexemes_left c.args.tokens) in
    stops (KeptAs line_of_statement) (KeptAs block_of) c.in_err-statement.field-0.0 c.from_residual.result _ first (λ x. Ok (block_of_line x.0, x.1)) (mapped_look block_of_line (on c.args.line) opening (lexemes_left c.args.tokens)) c.in_err-statement.ensures c.from_residual.ensures.1

pub returns : goal.returns
returns c =
    let first = perform (peek (λ t. simple_plan (on c.args.line) (opening t.symbol))) (lexemes_left c.args.tokens) in
    goes (KeptAs line_of_statement) (KeptAs block_of) c.in_ok-statement.statement c.in_ok-statement.rest (Ok (c.block_with.result, c.in_ok-statement.rest)) _ first (λ x. Ok (block_of_line x.0, x.1)) (mapped_look block_of_line (on c.args.line) opening (lexemes_left c.args.tokens)) c.in_ok-statement.ensures
    (λ x k. (c.block_with.ensures (x ∷ []) (keeps-more (λ v. v.items) line_of_statement (Some c.new.result) c.in_ok-statement.statement c.pushed-statements.result [] x c.pushed-statements.ensures (ap (map line_of_statement) c.new.ensures.items) k), refl))
