-- Functions are taken.
use Rattle.std.proofs.Common.{ℕ, Bool, true, false, List, [], ◌∷◌, ◌++◌, refl, ap}
use Rattle.std.specs.Prelude.{Option, Some, None, not, codes}
use Rattle.kern_lexer.specs.Bytes.{Bytes}
use Rattle.kern_lexer.specs.Symbols.{Lexeme, key, sign, name, newline}
use Rattle.kern_lexer.specs.declared.token.Key.TheVariants as K
use Rattle.kern_lexer.specs.declared.token.Sign.TheVariants as S
use Rattle.kern_syntax.specs.declared.program.DeclaredType.{DeclaredType}
use Rattle.kern_syntax.specs.declared.program.DeclaredType.TheVariants as D
use Rattle.kern_syntax.specs.Tree.{ParameterTree, FunctionTree}
use Rattle.kern_grammar.specs.BlockPlans.{no_stop, line_plan, a_parameter, comma_parameter, is_comma, more_parameters, function_block, result_plan, parameters_plan, def_plan, decorated, function_plan}
use Rattle.kern_grammar.specs.Plans.{Plan, done, token, peek, run, Spells, many, EachOf, EachEnds}
use Rattle.kern_grammar.specs.Views.{a_name, arrow_or_colon, open_parenthesis, close_parenthesis, def_key, at_sign, is_seen}
use Rattle.kern_grammar.proofs.BlockReady.{TakesBlock, free-alike, look-some}
use Rattle.kern_grammar.proofs.LineReads.{takes-line, takes-block}
use Rattle.kern_grammar.proofs.Many.{BeginsWith}
use Rattle.kern_grammar.proofs.ManyReads.{many-takes}
use Rattle.kern_grammar.proofs.PlanReads.{plan-takes}
use Rattle.kern_grammar.proofs.Seen.{close_parenthesis-is}
use Rattle.kern_grammar.proofs.SimpleReady.{each-ends, Behind}
use Rattle.kern_grammar.proofs.Taking.{Somewhere, Takes, Ready, plan-some}

-- the block of a function is taken
pub takes-body : TakesBlock 15 (run (line_plan 15))
takes-body = takes-block 15 (run (line_plan 15)) (takes-line 15)

-- a parameter
ready-parameter : {A : Type 0} (stop : A → List Lexeme → Type 0) (next : ParameterTree → Plan A) → ((p : ParameterTree) → Ready stop (next p)) → Ready stop (a_parameter next)
ready-parameter stop next ready = (([], name [], refl), λ x. ((tt, sign S.Colon, refl), λ v. ((D.Bool, name (codes "bool"), refl), λ d. ready (record { name = x; declared = d }))))

pub parameter-begins : (p : ParameterTree) (front : List Lexeme) → Spells comma_parameter p front → BeginsWith is_comma front
parameter-begins p [] h = absurd h
parameter-begins p (t ∷ front) h = ap is_seen h.1

pub takes-parameter : Takes (Spells comma_parameter) no_stop (run comma_parameter)
takes-parameter = plan-takes no_stop comma_parameter ((tt, sign S.Comma, refl), λ v. ready-parameter no_stop (λ p. done p) (λ p rest. tt)) free-alike

pub takes-parameters : Takes (EachOf (Spells comma_parameter)) (EachEnds no_stop is_comma) (many is_comma (run comma_parameter))
takes-parameters =
    many-takes (Spells comma_parameter) no_stop is_comma (run comma_parameter) (record { begins = parameter-begins; chains = λ x y front rest h. tt }) takes-parameter

ready-function_block : (line : ℕ) (f : Bytes) (parameters : List ParameterTree) (result : Option DeclaredType) → Ready no_stop (function_block line f parameters result)
ready-function_block line f parameters result = (takes-body, λ b front p. ((λ rest. tt), λ g back rest h s. tt))

ready-result : (line : ℕ) (f : Bytes) (parameters : List ParameterTree) (has_result : Bool) → Ready no_stop (result_plan line f parameters has_result)
ready-result line f parameters true = ((D.Bool, name (codes "bool"), refl), λ d. ((tt, sign S.Colon, refl), λ v. ready-function_block line f parameters (Some d)))
ready-result line f parameters false = ready-function_block line f parameters None

behind-parameters : (next : Unit {0} → Plan FunctionTree) (more : List ParameterTree) (f : FunctionTree) (back rest : List Lexeme) → Spells (token close_parenthesis next) f back → EachEnds no_stop is_comma more (back ++ rest)
behind-parameters next more f [] rest h = absurd h
behind-parameters next more f (t ∷ back) rest h =
    each-ends no_stop is_comma more (t ∷ (back ++ rest)) (λ x. tt) (ap (λ y. not (is_comma y)) (close_parenthesis-is t.symbol h.0 h.1))

ready-parameters : (line : ℕ) (f : Bytes) (is_empty : Bool) → Behind no_stop (parameters_plan line f is_empty)
ready-parameters line f true = (((tt, newline, refl), λ v. ((false, sign S.Colon, refl), ready-result line f [])), λ b h. h)
ready-parameters line f false = (
  ready-parameter no_stop (λ p. more_parameters (λ more. token close_parenthesis (λ seen. token arrow_or_colon (result_plan line f (p ∷ more))))) (λ p. (
    takes-parameters,
    λ more front q. (
      ((tt, sign S.CloseParenthesis, refl), λ v. ((false, sign S.Colon, refl), ready-result line f (p ∷ more))),
      λ g back rest h s. behind-parameters (λ seen. token arrow_or_colon (result_plan line f (p ∷ more))) more g back rest h,
    ),
  )),
  λ b h. h,
)

-- the name and what is in the parentheses, behind `def`
ready-named : (t : Lexeme) (f : Bytes) → Ready no_stop (peek (λ u. parameters_plan t.line f (is_seen (close_parenthesis u.symbol))))
ready-named t f =
    let first : Lexeme = record { symbol = sign S.CloseParenthesis; line = 0 } in
    let s = plan-some no_stop (token arrow_or_colon (result_plan t.line f [])) ((false, sign S.Colon, refl), ready-result t.line f []) in
    (record { value = s.value; tokens = first ∷ s.tokens; is_phrase = (tt, refl, s.is_phrase) }, λ u. ready-parameters t.line f (is_seen (close_parenthesis u.symbol)))

ready-def : (t : Lexeme) → Ready no_stop (token def_key (λ seen. token a_name (λ f. token open_parenthesis (λ seen. peek (λ u. parameters_plan t.line f (is_seen (close_parenthesis u.symbol)))))))
ready-def t = ((tt, key K.Def, refl), λ v. (([], name [], refl), λ f. ((tt, sign S.OpenParenthesis, refl), λ v. ready-named t f)))

some-def : Somewhere (Spells def_plan)
some-def =
    let first : Lexeme = record { symbol = key K.Def; line = 0 } in
    look-some no_stop def_key (λ t seen. token a_name (λ f. token open_parenthesis (λ seen. peek (λ u. parameters_plan t.line f (is_seen (close_parenthesis u.symbol)))))) first tt refl ((ready-def first).1 tt)

ready-def_plan : Behind no_stop def_plan
ready-def_plan = ((some-def, λ t. (ready-def t, λ b h. h)), λ b h. h)

ready-decorated : (has_decorator : Bool) → Behind no_stop (decorated has_decorator)
ready-decorated true = (((tt, sign S.At, refl), λ v. ((tt, name (codes "kernel"), refl), λ v. ((tt, newline, refl), λ v. ready-def_plan.0))), λ b h. h)
ready-decorated false = ready-def_plan

-- a function with a decorator
some-function : Somewhere (Spells function_plan)
some-function =
    let at : Lexeme = record { symbol = sign S.At; line = 0 } in
    let kernel : Lexeme = record { symbol = name (codes "kernel"); line = 0 } in
    let end : Lexeme = record { symbol = newline; line = 0 } in
    record { value = some-def.value; tokens = at ∷ kernel ∷ end ∷ some-def.tokens; is_phrase = (tt, refl, (tt, refl, (tt, refl, some-def.is_phrase))) }

pub function-spelled : Takes (Spells function_plan) no_stop (run function_plan)
function-spelled = plan-takes no_stop function_plan (some-function, λ t. ready-decorated (is_seen (at_sign t.symbol))) free-alike
