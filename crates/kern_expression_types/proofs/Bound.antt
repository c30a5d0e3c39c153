-- Verdicts that go on with what another found.
use Rattle.std.proofs.Common.{rules, ◌≡◌, ℕ, suc, ◌+◌, List, [], ◌∷◌, length, Option, refl, sym, ap, ◌∙◌}
use Rattle.std.specs.Option.{option_or}
use Rattle.kern_syntax.specs.declared.expression.Argument.{Argument}
use Rattle.kern_syntax.specs.declared.expression.Argument.TheFolds.{the_lemmas}
use Rattle.kern_syntax.specs.Tree.{Expression, Arguments, no_more}
use Rattle.kern_syntax.specs.TreeOf.{argument_of, arguments_of}
use Rattle.kern_calls.specs.declared.wanted.Wanted.{Wanted}
use Rattle.kern_calls.specs.Types.{Names}
use Rattle.kern_expression_types.specs.declared.fault.TypeKind.{TypeKind}
use Rattle.kern_expression_types.specs.declared.place.Given.{Given}
use Rattle.kern_expression_types.specs.declared.place.Place.{Place}
use Rattle.kern_expression_types.specs.Before.{Functions}
use Rattle.kern_expression_types.specs.Expressions.{argument_verdict, arguments_verdict, expression_verdict, elements_verdict}
use Rattle.kern_expression_types.specs.Fits.{misfit}
use Rattle.kern_expression_types.specs.Misfits.{mapped}
use Rattle.kern_expression_types.specs.Verdicts.{Verdict, well, fault, ◌>>=◌}
use Rattle.kern_expression_types.proofs.Misfits.{misfit_after, misfit_after-more, misfit_there, each_after, each_after-more}

module _ (functions : Functions) (place : Place) (names : Names) where
  -- an argument before others
  pub arguments_verdict-first : (argument : Argument) (rest : Arguments) → arguments_verdict functions place names (argument_of argument rest) ≡ (argument_verdict functions place names (argument_of argument no_more) >>= (λ a. arguments_verdict functions place names rest >>= (λ others. well (a ∷ others))))
  arguments_verdict-first argument rest = search (rules, the_lemmas)

  -- one argument more is read
  pub argument-read : (argument : Argument) (rest : Arguments) (whole : Verdict (Option TypeKind)) (found : Option TypeKind) (wanted : List Wanted) (i : ℕ) (a : Given) → whole ≡ mapped (misfit_after found wanted i) (arguments_verdict functions place names (argument_of argument rest)) → argument_verdict functions place names (argument_of argument no_more) ≡ well a → whole ≡ mapped (misfit_after (option_or found (misfit_there wanted i a)) wanted (i + 1)) (arguments_verdict functions place names rest)
  argument-read argument rest whole found wanted i a is given =
      let first : arguments_verdict functions place names (argument_of argument rest) ≡ (arguments_verdict functions place names rest >>= (λ others. well (a ∷ others))) = rw (arguments_verdict-first argument rest) (rw given refl) in
      is ∙ ap (mapped (misfit_after found wanted i)) first ∙ misfit_after-more (arguments_verdict functions place names rest) found wanted i a

  -- one element more is read
  pub element-read : (e : Expression) (rest : List Expression) (whole : Verdict (Option TypeKind)) (found : Option TypeKind) (wanted : Wanted) (a : Given) → whole ≡ mapped (each_after found wanted) (elements_verdict functions place names (e ∷ rest)) → expression_verdict functions place names e ≡ well a → whole ≡ mapped (each_after (option_or found (misfit wanted a)) wanted) (elements_verdict functions place names rest)
  element-read e rest whole found wanted a is given =
      let first : elements_verdict functions place names (e ∷ rest) ≡ (elements_verdict functions place names rest >>= (λ others. well (a ∷ others))) = rw given refl in
      is ∙ ap (mapped (each_after found wanted)) first ∙ each_after-more (elements_verdict functions place names rest) found wanted a

  -- one given value more than its rest has
  count-more : (v : Verdict Given) (rest : Verdict (List Given)) (n : ℕ) → ((others : List Given) → rest ≡ well others → length others ≡ n) → (given : List Given) → (v >>= (λ a. rest >>= (λ others. well (a ∷ others)))) ≡ well given → length given ≡ suc n
  count-more (well a) (well others) n counted given is =
      let same : a ∷ others ≡ given = cc in
      ap length (sym same) ∙ ap suc (counted others refl)
  count-more (well a) (fault line kind) n counted given is = cc
  count-more (fault line kind) rest n counted given is = cc

  -- each argument gives one value
  pub arguments-counted : (arguments : List Argument) (given : List Given) → arguments_verdict functions place names (arguments_of arguments) ≡ well given → length given ≡ length arguments
  arguments-counted [] given is = let same : [] ≡ given = cc in ap length (sym same)
  arguments-counted (argument ∷ arguments) given is =
      count-more (argument_verdict functions place names (argument_of argument no_more)) (arguments_verdict functions place names (arguments_of arguments)) (length arguments) (arguments-counted arguments) given (sym (arguments_verdict-first argument (arguments_of arguments)) ∙ is)
