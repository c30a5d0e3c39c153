-- The laws: what runs of code do under more replies, and under replies that fit their own requests.
use Rattle.std.specs.Prelude.{◌≡◌, ◌≢◌, ℕ, List, ◌++◌, ℤ, slice_get, FitsSigned, Some}
use Rattle.std.specs.Int.{w64}
use Rattle.rtio_types.specs.declared.request.Request.{Request}
use Rattle.rtio_types.specs.declared.request.Reply.{Reply}
use Rattle.kern_syntax.specs.Tree.{FunctionTree, ProgramTree}
use Rattle.kern_arguments.specs.Fitting.{ArgumentsFit}
use Rattle.timeline_sem.specs.Programs.{meaning}
use Rattle.core_isa.specs.declared.code.Code.{Code}
use Rattle.core_isa.specs.Machine.{unanswered}
use Rattle.core_isa.specs.Runs.{Ran, Runs}
use Rattle.core_isa.specs.WellAsked.{RepliesFit}
use Rattle.code_follows.specs.Lawful.{ran_as}
use Rattle.code_follows.specs.Stands.{AllNumbersFit}

-- a run under more replies goes on from one under fewer: an end stays, and requests are only added
pub record GoesOn (fewer more : Ran) : Type 0 where
  pub ended : fewer.outcome ≢ unanswered → more ≡ fewer
  pub asked : (own : List Request) × (more.requests ≡ fewer.requests ++ own)

-- so do all runs of some code
abbrev pub RepliesExtendRuns : Code → Type 0
RepliesExtendRuns code =
    (function : ℕ) (args : List ℤ) (cursor : ℤ) (units : ℕ) (replies rest : List Reply) (fewer more : Ran)
    → Runs code function args cursor units replies fewer
    → Runs code function args cursor units (replies ++ rest) more
    → GoesOn fewer more

-- every run of the code whose replies fit the requests that it made itself asks what the function means, and ends so
abbrev pub RunsAreMeant : ProgramTree → Code → Type 0
RunsAreMeant program code =
    (f : FunctionTree) (function : ℕ) (args : List ℤ) (cursor : ℤ) (units : ℕ) (replies : List Reply) (ran : Ran)
    → slice_get program function ≡ Some f
    → ArgumentsFit f.parameters args
    → FitsSigned w64 cursor
    → AllNumbersFit replies
    → Runs code function args cursor units replies ran
    → RepliesFit ran.requests replies
    → ran ≡ ran_as (meaning program function args cursor units replies) ran.count
