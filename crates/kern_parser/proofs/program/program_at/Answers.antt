use Rattle.std.proofs.Common.{Global, List, Vec, map, refl, sym, ◌∙◌, ap}
use Rattle.std.specs.Prelude.{Ok}
use Rattle.kern_lexer.specs.Symbols.{Lexeme}
use Rattle.kern_syntax.specs.declared.program.Function.{Function}
use Rattle.kern_syntax.specs.Tree.{FunctionTree, ProgramTree}
use Rattle.kern_syntax.specs.TreeOf.{function_of, tree_of}
use Rattle.kern_grammar.specs.BlockPlans.{function_phrase, function_plan, is_function, no_stop, program_plan}
use Rattle.kern_grammar.specs.Plans.{Taken, done, run, token}
use Rattle.kern_grammar.specs.Views.{text_end}
use Rattle.kern_expressions.specs.Kept.{KeptAs}
use Rattle.kern_expressions.specs.TakenBy.{first_seen, lexemes_left, perform}
use Rattle.kern_statements.specs.Several.{several}
use Rattle.kern_statements.proofs.Going.{goes, goes_known, stops, stops_known}
use Rattle.kern_statements.proofs.ManyLists.{several-then}
use Rattle.kern_statements.proofs.Performed.{perform-run}
use Rattle.kern_parser.proofs.program.program_at.Goals as goal

-- the trees of the code's functions
abbrev trees : Vec Function Global → List FunctionTree
trees v = map function_of v.items

-- the functions of a program up to its End
abbrev ended : List FunctionTree × List Lexeme → Taken ProgramTree
ended fs = perform (token text_end (λ seen. done fs.0)) fs.1

pub returns-in_err-functions : goal.returns-in_err-functions
returns-in_err-functions c =
    let tokens = lexemes_left c.args.tokens in
    let read = sym (perform-run program_plan tokens) ∙ several-then is_function (run function_plan) tokens ended in
    stops (KeptAs trees) (KeptAs tree_of) c.in_err-functions.field-0.0 c.from_residual.result _ (several is_function (run function_plan) tokens) ended read c.in_err-functions.ensures c.from_residual.ensures.1

pub returns-in_err-rest : goal.returns-in_err-rest
returns-in_err-rest c =
    let tokens = lexemes_left c.args.tokens in
    let result = c.from_residual-in_err-rest.result in
    let read = sym (perform-run program_plan tokens) ∙ several-then is_function (run function_plan) tokens ended in
    goes (KeptAs trees) (KeptAs tree_of) c.in_ok-functions.functions c.in_ok-functions.end result _ (several is_function (run function_plan) tokens) ended read c.in_ok-functions.ensures
    (λ fs k. stops_known (KeptAs tree_of) c.in_err-rest.field-0.0 result _ (first_seen text_end (lexemes_left c.in_ok-functions.end)) (λ v. Ok (fs, v.1)) refl c.in_err-rest.ensures c.from_residual-in_err-rest.ensures.1)

pub returns : goal.returns
returns c =
    let tokens = lexemes_left c.args.tokens in
    let read = sym (perform-run program_plan tokens) ∙ several-then is_function (run function_plan) tokens ended in
    goes (KeptAs trees) (KeptAs tree_of) c.in_ok-functions.functions c.in_ok-functions.end (Ok (c.whole_program.result, c.in_ok-rest.rest)) _ (several is_function (run function_plan) tokens) ended read c.in_ok-functions.ensures
    (λ fs k. goes_known (KeptAs tree_of) tt c.in_ok-rest.rest (Ok (c.whole_program.result, c.in_ok-rest.rest)) _ (first_seen text_end (lexemes_left c.in_ok-functions.end)) (λ v. Ok (fs, v.1)) refl c.in_ok-rest.ensures (c.whole_program.ensures fs k, refl))
