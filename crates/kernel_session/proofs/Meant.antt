-- The runs of code that does what a program does, and the program's meaning.
use Rattle.std.proofs.Common.{◌≡◌, ℕ, suc, List, [], ◌∷◌, length, refl, sym, ap, ◌∙◌}
use Rattle.std.specs.Prelude.{ℤ, FitsSigned}
use Rattle.std.specs.Int.{w64}
use Rattle.rtio_types.specs.declared.request.Reply.{Reply}
use Rattle.rtio_types.specs.declared.request.Reply.TheVariants as answer
use Rattle.core_isa.specs.declared.code.Code.{Code}
use Rattle.core_isa.specs.Runs.{Ran, Runs}
use Rattle.core_isa.specs.WellAsked.{RepliesFit}
use Rattle.core_cpu.specs.Moments.{outcome_of}
use Rattle.core_cpu.specs.Standing.{HasEntry, Start as Beginning}
use Rattle.kern_syntax.specs.Tree.{ParameterTree, ProgramTree}
use Rattle.kern_arguments.specs.Fitting.{ArgumentsFit}
use Rattle.timeline_sem.specs.Programs.{Meaning}
use Rattle.code_follows.specs.Lawful.{ran_as}
use Rattle.code_follows.specs.Stands.{AllNumbersFit, NumbersFit}
use Rattle.code_replies.specs.DoesAs.{HasFunctions}
pub use Rattle.code_replies.specs.Laws.{RunsAreMeant}
use Rattle.core_session.specs.Scripts.{HasNumber, HaveNumbers, IsScriptOf, next_of}
use Rattle.core_session.specs.Sessions.{Account, account_of}
use Rattle.kernel_session.specs.Meant.{TakesArguments, account_of_meaning, meant, script_of}

-- ---- arguments

as_many : (parameters : List ParameterTree) (args : List ℤ) → ArgumentsFit parameters args → length args ≡ length parameters
as_many [] [] fit = refl
as_many (p ∷ ps) (v ∷ vs) fit = ap suc (as_many ps vs fit.1)
as_many [] (v ∷ vs) fit = absurd fit
as_many (p ∷ ps) [] fit = absurd fit

-- the code has the function, with as many parameters
pub has_entry : (program : ProgramTree) (code : Code) → HasFunctions program code → (function : ℕ) (args : List ℤ) → TakesArguments program function args → HasEntry code function args
has_entry program code has function args (f, found, fit) =
    let g = has.each function f found in
    record { entry = g.0; found = g.1; fit = as_many f.parameters args fit ∙ sym g.2 }

-- ---- numbers

number_fits : (reply : Reply) → HasNumber reply → NumbersFit reply
number_fits (answer.Time x) has = has
number_fits (answer.Stamp x) has = has
number_fits (answer.Handle x) has = has
number_fits (answer.Trace recording) has = has
number_fits reply has = tt

pub numbers_fit : (replies : List Reply) → HaveNumbers replies → AllNumbersFit replies
numbers_fit [] have = tt
numbers_fit (reply ∷ replies) have = (number_fits reply have.0, numbers_fit replies have.1)

-- ---- a run and the meaning

-- a run that gives what a meaning does has its account
pub account_as : (m : Meaning) (count : ℕ) → account_of (ran_as m count) ≡ account_of_meaning m
account_as m count = refl

module _ (program : ProgramTree) (code : Code) (agrees : RunsAreMeant program code) (start : Beginning) (takes : TakesArguments program start.function start.args) (from : FitsSigned w64 start.cursor) where
  -- a run gives what the meaning gives
  pub same_account : (replies : List Reply) (ran : Ran) → Runs code start.function start.args start.cursor start.units replies ran → RepliesFit ran.requests replies → HaveNumbers replies
      → account_of ran ≡ account_of_meaning (meant program start replies)
  same_account replies ran runs fit numbers =
      let m : Meaning = meant program start replies in
      let same : ran ≡ ran_as m ran.count = agrees takes.0 start.function start.args start.cursor start.units replies ran takes.1 takes.2 from (numbers_fit replies numbers) runs fit in
      ap account_of same ∙ account_as m ran.count

  -- so what comes next by the one is what comes next by the other
  pub is_script : (replies : List Reply) (ran : Ran) → Runs code start.function start.args start.cursor start.units replies ran → RepliesFit ran.requests replies → HaveNumbers replies
      → script_of program start replies ≡ next_of ran.requests (outcome_of ran.outcome) ran.cursor
  is_script replies ran runs fit numbers =
      ap (λ (a : Account). next_of a.requests a.outcome a.cursor) (sym (same_account replies ran runs fit numbers))

-- the meaning is a script of the code
pub script_of_meaning : (program : ProgramTree) (code : Code) → RunsAreMeant program code → (start : Beginning) → TakesArguments program start.function start.args → IsScriptOf code start (script_of program start)
script_of_meaning program code agrees start takes = λ from. is_script program code agrees start takes from
