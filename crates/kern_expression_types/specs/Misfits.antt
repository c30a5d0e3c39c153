-- The first of some values that doesn't fit what is wanted, which is all that is kept of the arguments of a call.
use Rattle.std.specs.Prelude.{◌≡◌, ℕ, List, [], ◌∷◌, map, length, not, ◌&&◌, ◌==◌, Option, None, Result, Ok, Err}
use Rattle.std.specs.Option.{option_or}
use Rattle.kern_syntax.specs.Tree.{Arguments, Expression}
use Rattle.kern_syntax.specs.TreeOf.{parameter_of}
use Rattle.kern_calls.specs.declared.wanted.Wanted.{Wanted}
use Rattle.kern_calls.specs.Types.{Names}
use Rattle.kern_expression_types.specs.Before.{Functions}
use Rattle.kern_expression_types.specs.declared.callee.Callee.{Callee}
use Rattle.kern_expression_types.specs.declared.callee.Takes.{Takes}
use Rattle.kern_expression_types.specs.declared.callee.Takes.TheVariants as T
use Rattle.kern_expression_types.specs.declared.fault.TypeKind.{TypeKind}
use Rattle.kern_expression_types.specs.declared.fault.TypeKind.TheVariants as K
use Rattle.kern_expression_types.specs.declared.place.Given.{Given}
use Rattle.kern_expression_types.specs.declared.place.Place.{Place}
use Rattle.kern_expression_types.specs.Expressions.{arguments_verdict, call_verdict, elements_verdict}
use Rattle.kern_expression_types.specs.Fits.{misfit, wanted_of, given_result, fit_each}
use Rattle.kern_expression_types.specs.Verdicts.{Verdict, well, fault, ◌>>=◌, ◌>>◌, refuse_if, refuse_some}

-- a verdict, with something made of what was found
abbrev pub mapped : {A B : Type 0} → (A → B) → Verdict A → Verdict B
mapped f verdict = verdict >>= (λ found. well (f found))

-- the fault of the first value that doesn't fit what is wanted at its place, if there is one
abbrev pub first_misfit : List Wanted → List Given → Option TypeKind
first_misfit (wanted ∷ rest) (given ∷ others) = option_or (misfit wanted given) (first_misfit rest others)
first_misfit _ _ = None

-- the fault of the first value that doesn't fit what is wanted of each, if there is one
abbrev pub misfit_of_each : Wanted → List Given → Option TypeKind
misfit_of_each wanted [] = None
misfit_of_each wanted (given ∷ rest) = option_or (misfit wanted given) (misfit_of_each wanted rest)

-- what a call takes, from left to right
abbrev pub taken : Takes → List Wanted
taken (T.Wanted wanted) = wanted.now
taken (T.Parameters parameters) = wanted_of (map parameter_of parameters.now)

-- what a call of this takes; nothing where there is nothing to call
abbrev pub taken_by : Result Callee TypeKind → List Wanted
taken_by (Ok callee) = taken callee.takes
taken_by (Err kind) = []

-- a call of this, or the fault that there is nothing to call
abbrev pub callee_verdict : Place → Result Callee TypeKind → List Given → Verdict Given
callee_verdict place (Ok callee) given =
    call_verdict place (taken callee.takes) callee.result callee.is_live given
callee_verdict place (Err kind) given = fault place.line kind

-- a call of this has the verdict, at each place and with all arguments
abbrev pub IsCalleeOf : Result Callee TypeKind → (Place → List Given → Verdict Given) → Type 0
IsCalleeOf callee verdict = (place : Place) (given : List Given) → callee_verdict place callee given ≡ verdict place given

-- the verdict on a call of this, when it is known how many arguments
-- there are and which fault the first has that doesn't fit
abbrev pub counted_verdict : Place → Result Callee TypeKind → (count : ℕ) → (misfit : Option TypeKind) → Verdict Given
counted_verdict place (Ok callee) count misfit = do
  refuse_if (not (count == length (taken callee.takes))) place.line K.Arity
  refuse_some misfit place.line
  refuse_if (place.in_record && callee.is_live) place.line K.LiveInRecord
  well (given_result callee.result)
counted_verdict place (Err kind) count misfit = fault place.line kind

module _ (functions : Functions) (place : Place) (names : Names) where
  -- a call of this: its arguments come first
  abbrev pub called_verdict : Result Callee TypeKind → Arguments → Verdict Given
  called_verdict callee arguments = do
    given ← arguments_verdict functions place names arguments
    callee_verdict place callee given

  -- some expressions, and then that each value fits what is wanted
  abbrev pub fitting_elements_verdict : Wanted → List Expression → Verdict (Unit {0})
  fitting_elements_verdict wanted elements = do
    given ← elements_verdict functions place names elements
    fit_each place.line wanted given
