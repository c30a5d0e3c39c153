-- The parts of a function are what its plan goes on with.
use Rattle.std.proofs.Common.{◌≡◌, ℕ, Bool, true, false, Global, List, [], ◌∷◌, Vec, map, refl}
use Rattle.std.specs.Prelude.{Option, Some, None, Result, Ok}
use Rattle.kern_lexer.specs.Bytes.{Bytes}
use Rattle.kern_syntax.specs.declared.program.Function.{Function}
use Rattle.kern_syntax.specs.declared.program.Parameter.{Parameter}
use Rattle.kern_syntax.specs.TreeOf.{function_of, parameter_of}
use Rattle.kern_syntax.specs.Tree.{FunctionTree, ParameterTree}
use Rattle.kern_syntax.specs.declared.program.DeclaredType.{DeclaredType}
use Rattle.kern_grammar.specs.BlockPlans.{a_parameter, comma_parameter, function_block, is_comma, more_parameters, no_stop, parameters_plan, result_plan}
use Rattle.kern_grammar.specs.Plans.{Plan, Spells, EachOf, EachEnds, done, many, run, token}
use Rattle.kern_grammar.specs.Views.{a_name, a_type, any, arrow_or_colon, close_parenthesis, colon, def_key, is_seen, open_parenthesis}
use Rattle.kern_expressions.specs.TakenBy.{GivesTaken, first_seen, lexemes_left, perform}
use Rattle.kern_expressions.specs.declared.tokens.Tokens.{Tokens}
use Rattle.kern_expressions.specs.declared.tokens.WrongToken.{WrongToken}
use Rattle.kern_expressions.specs.Kept.{IsNamed, KeptAs}
use Rattle.kern_statements.proofs.Going.{goes, goes_known}
use Rattle.kern_blocks.proofs.Sequenced.{Followed, followed_part, followed_peek, followed_token}
use Rattle.kern_parser.specs.FunctionSteps.{defined_plan, maybe_parameters_plan, parameters_by, parameters_part, result_by, result_part}

-- the trees of the code's parameters
abbrev pub parameter_trees : Vec Parameter Global → List ParameterTree
parameter_trees v = map parameter_of v.items

-- a parameter, and what follows it
pub followed_parameter : {A B : Type 0} (p : ParameterTree → Plan A) (next : A → Plan B) (q : ParameterTree → Plan B) → ((x : ParameterTree) → Followed (p x) next (q x)) → Followed (a_parameter p) next (a_parameter q)
followed_parameter p next q h =
    followed_token a_name (λ x. token colon (λ seen. token a_type (λ d. p (record { name = x; declared = d })))) next (λ x. token colon (λ seen. token a_type (λ d. q (record { name = x; declared = d }))))
    (λ x. followed_token colon (λ seen. token a_type (λ d. p (record { name = x; declared = d }))) next (λ seen. token a_type (λ d. q (record { name = x; declared = d })))
    (λ v. followed_token a_type (λ d. p (record { name = x; declared = d })) next (λ d. q (record { name = x; declared = d })) (λ d. h (record { name = x; declared = d }))))

-- what follows the parameters of a function
abbrev pub behind_parameters : (line : ℕ) → Bytes → List ParameterTree → Plan FunctionTree
behind_parameters line name ps = token arrow_or_colon (result_plan line name ps)

followed_by : (line : ℕ) (name : Bytes) (b : Bool) → Followed (parameters_by b) (behind_parameters line name) (parameters_plan line name b)
followed_by line name true = followed_token any (λ seen. done []) (behind_parameters line name) (λ seen. behind_parameters line name []) (λ v tokens. refl)
followed_by line name false =
    let next = behind_parameters line name in
    followed_parameter (λ p. more_parameters (λ more. token close_parenthesis (λ seen. done (p ∷ more)))) next (λ p. more_parameters (λ more. token close_parenthesis (λ seen. next (p ∷ more))))
    (λ p. followed_part (EachOf (Spells comma_parameter)) (EachEnds no_stop is_comma) (many is_comma (run comma_parameter)) (λ more. token close_parenthesis (λ seen. done (p ∷ more))) next (λ more. token close_parenthesis (λ seen. next (p ∷ more)))
    (λ more. followed_token close_parenthesis (λ seen. done (p ∷ more)) next (λ seen. next (p ∷ more)) (λ v tokens. refl)))

pub followed_parameters : (line : ℕ) (name : Bytes) → Followed parameters_part (behind_parameters line name) (maybe_parameters_plan line name)
followed_parameters line name =
    followed_peek (λ u. parameters_by (is_seen (close_parenthesis u.symbol))) (behind_parameters line name) (λ u. parameters_plan line name (is_seen (close_parenthesis u.symbol))) (λ u. followed_by line name (is_seen (close_parenthesis u.symbol)))

followed_result_by : (line : ℕ) (name : Bytes) (ps : List ParameterTree) (b : Bool) → Followed (result_by b) (function_block line name ps) (result_plan line name ps b)
followed_result_by line name ps true =
    let next = function_block line name ps in
    followed_token a_type (λ d. token colon (λ seen. done (Some d))) next (λ d. token colon (λ seen. next (Some d)))
    (λ d. followed_token colon (λ seen. done (Some d)) next (λ seen. next (Some d)) (λ v tokens. refl))
followed_result_by line name ps false = λ tokens. refl

pub followed_result : (line : ℕ) (name : Bytes) (ps : List ParameterTree) → Followed result_part (function_block line name ps) (behind_parameters line name ps)
followed_result line name ps = followed_token arrow_or_colon result_by (function_block line name ps) (result_plan line name ps) (followed_result_by line name ps)

-- what follows `def`, and what follows the name behind it
abbrev pub named_plan : (line : ℕ) → Plan FunctionTree
named_plan line = token a_name (λ x. token open_parenthesis (λ seen. maybe_parameters_plan line x))

abbrev pub opened_plan : (line : ℕ) → Bytes → Plan FunctionTree
opened_plan line x = token open_parenthesis (λ seen. maybe_parameters_plan line x)

-- a function goes on behind the opening parenthesis of its parameters
pub goes_to_parameters : (line : ℕ) (tokens after rest inside : Tokens) (name : Option Bytes) (result : Result (Option Function × Tokens) WrongToken) → first_seen def_key (lexemes_left tokens) ≡ Ok (tt, lexemes_left after) → GivesTaken (λ n. n) (Ok (name, rest)) (first_seen a_name (lexemes_left after)) → first_seen open_parenthesis (lexemes_left rest) ≡ Ok (tt, lexemes_left inside) → ((x : Bytes) → IsNamed name x → GivesTaken function_of result (perform (maybe_parameters_plan line x) (lexemes_left inside))) → GivesTaken function_of result (perform (defined_plan line) (lexemes_left tokens))
goes_to_parameters line tokens after rest inside name result d n o k =
    goes_known (KeptAs function_of) tt after result _ (first_seen def_key (lexemes_left tokens)) (λ v. perform (named_plan line) v.1) refl d
    (goes (KeptAs (λ n. n)) (KeptAs function_of) name rest result _ (first_seen a_name (lexemes_left after)) (λ x. perform (opened_plan line x.0) x.1) refl n
    (λ x i. goes_known (KeptAs function_of) tt inside result _ (first_seen open_parenthesis (lexemes_left rest)) (λ v. perform (maybe_parameters_plan line x) v.1) refl o (k x i)))
