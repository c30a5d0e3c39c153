-- Functions and their arguments.
use Rattle.std.proofs.Common.{◌≡◌, ◌↔◌, ℕ, List, [], ◌∷◌, length, get_or, map, ◌<◌, ◌≤◌, Bool, Option, Some, None, IsTrue, refl, sym, ap, subst, ◌∙◌, arith}
use Rattle.std.specs.Prelude.{ℤ, slice_get, option_map, is_some, nat_lt}
use Rattle.std.proofs.lemmas.Bool.{false≢true, le-ltb}
use Rattle.std.proofs.lemmas.Option.{slice_get-get_or, slice_get-map, slice_get_past}
use Rattle.core_isa.specs.declared.code.Code.{Code}
use Rattle.core_isa.specs.declared.code.CodeFunction.{CodeFunction}
use Rattle.core_isa.proofs.Decided.{found_one}
use Rattle.kern_syntax.specs.declared.program.Function.{Function}
use Rattle.kern_syntax.specs.declared.program.Parameter.{Parameter}
use Rattle.kern_syntax.specs.TreeOf.{function_of, parameter_of, tree_of}
use Rattle.kern_syntax.specs.Tree.{FunctionTree, ParameterTree, ProgramTree}
use Rattle.kern_arguments.specs.Fitting.{ArgumentsFit}
use Rattle.code_replies.specs.DoesAs.{DoesAs}
use Rattle.kernel_session.specs.Meant.{TakesArguments}

none_fit : (parameters : List ParameterTree) → length parameters ≡ 0 → ArgumentsFit parameters []
none_fit [] none = tt
none_fit (p ∷ ps) none = absurd (omega (arith, none))

pub main_takes_none : (program : ProgramTree) (code : Code) → DoesAs program code → TakesArguments program code.main []
main_takes_none program code does =
    let main = does.main in
    let g = does.functions.each code.main main.0 main.1 in
    let none : g.0.params ≡ 0 = does.main_takes_nothing g.0 g.1 in
    (main.0, main.1, none_fit main.0.parameters (sym g.2 ∙ none))

-- ---- the tests of the code

module _ (program functions : List Function) (same : functions ≡ program) (index : ℕ) (args : List ℤ) where
  -- the function is there: it takes what fits it
  pub takes_there : (default : Function) (parameters : List Parameter) (b : Bool) → index < length functions → parameters ≡ (get_or functions index default).parameters
      → (IsTrue b ↔ ArgumentsFit (map parameter_of parameters) args)
      → IsTrue b ↔ TakesArguments (tree_of program) index args
  takes_there default parameters b within own fits = (
    λ so. (function_of there, found, subst (λ (ps : List Parameter). ArgumentsFit (map parameter_of ps) args) own (fits.0 so)),
    λ takes.
        let one : takes.0 ≡ function_of there = found_one (sym takes.1 ∙ found) in
        fits.1
        (subst (λ (ps : List Parameter). ArgumentsFit (map parameter_of ps) args) (sym own)
        (subst (λ (f : FunctionTree). ArgumentsFit f.parameters args) one takes.2)),
  )
    where
      there : Function
      there = get_or functions index default

      found : slice_get (tree_of program) index ≡ Some (function_of there)
      found =
          ap (λ (fs : List Function). slice_get (tree_of fs) index) (sym same)
          ∙ slice_get-map function_of functions index
          ∙ ap (option_map function_of) (slice_get-get_or functions index default within)

  -- it isn't there
  pub takes_none : length functions ≤ index → IsTrue (nat_lt index (length functions)) ↔ TakesArguments (tree_of program) index args
  takes_none past = (
    λ so. absurd (false≢true (sym (le-ltb index (length functions) past) ∙ so)),
    λ takes. absurd (false≢true (ap is_some (sym missing ∙ takes.1))),
  )
    where
      missing : slice_get (tree_of program) index ≡ None
      missing =
          ap (λ (fs : List Function). slice_get (tree_of fs) index) (sym same)
          ∙ slice_get-map function_of functions index
          ∙ ap (option_map function_of) (slice_get_past functions index past)
