-- For the proofs alone: parts of the plan of a function.
use Rattle.std.specs.Prelude.{ℕ, Bool, true, false, List, [], ◌∷◌, Option, Some, None, codes}
use Rattle.kern_lexer.specs.Bytes.{Bytes}
use Rattle.kern_syntax.specs.Tree.{Block, FunctionTree, ParameterTree}
use Rattle.kern_syntax.specs.declared.program.DeclaredType.{DeclaredType}
use Rattle.kern_grammar.specs.BlockPlans.{a_parameter, def_plan, more_parameters, parameters_plan}
use Rattle.kern_grammar.specs.Plans.{Plan, done, peek, token}
use Rattle.kern_grammar.specs.Views.{a_name, a_type, any, arrow_or_colon, close_parenthesis, colon, def_key}
use Rattle.kern_grammar.specs.Views.{is_seen, line_end, open_parenthesis, the_name}

-- behind the sign of a decorator
abbrev pub behind_at_plan : Plan FunctionTree
behind_at_plan = token (the_name (codes "kernel")) (λ seen. token line_end (λ seen. def_plan))

-- behind the opening parenthesis
abbrev pub maybe_parameters_plan : (line : ℕ) → Bytes → Plan FunctionTree
maybe_parameters_plan line name = peek (λ u. parameters_plan line name (is_seen (close_parenthesis u.symbol)))

-- from `def` on, with its line
abbrev pub defined_plan : (line : ℕ) → Plan FunctionTree
defined_plan line = token def_key (λ seen. token a_name (λ name. token open_parenthesis (λ seen. maybe_parameters_plan line name)))

-- the parameters and the closing parenthesis
abbrev pub parameters_by : (is_empty : Bool) → Plan (List ParameterTree)
parameters_by true = token any (λ seen. done [])
parameters_by false = a_parameter (λ p. more_parameters (λ more. token close_parenthesis (λ seen. done (p ∷ more))))

abbrev pub parameters_part : Plan (List ParameterTree)
parameters_part = peek (λ u. parameters_by (is_seen (close_parenthesis u.symbol)))

-- the result type, or none, and the colon
abbrev pub result_by : (has_result : Bool) → Plan (Option DeclaredType)
result_by true = token a_type (λ d. token colon (λ seen. done (Some d)))
result_by false = done None

abbrev pub result_part : Plan (Option DeclaredType)
result_part = token arrow_or_colon result_by

-- a function of its parts
abbrev pub function_tree : (line : ℕ) → Bytes → List ParameterTree → Option DeclaredType → Block → FunctionTree
function_tree line name parameters result body =
    record { line = line; name = name; parameters = parameters; result = result; body = body }
