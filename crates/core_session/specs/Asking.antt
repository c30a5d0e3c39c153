-- What the code of a session asks.
use Rattle.std.specs.Prelude.{◌≡◌, List, [], ◌∷◌, ◌++◌, None, FitsSigned}
use Rattle.std.specs.Int.{w64}
use Rattle.rtio_types.specs.declared.request.Request.{Request}
use Rattle.core_isa.specs.declared.code.Code.{Code}
use Rattle.core_isa.specs.Runs.{Ran, Runs}
use Rattle.core_isa.specs.WellAsked.{RepliesFit}
use Rattle.core_cpu.specs.Standing.{Start as Beginning}
use Rattle.core_session.specs.Scripts.{HaveNumbers}
use Rattle.core_session.specs.Sessions.{Account, Answered, account_of, replies_of, requests_of}

-- an account lacks the reply to this request, which is its only one behind these
abbrev pub LacksReply : Account → List Answered → Request → Type 0
LacksReply a asked request = (a.outcome ≡ None) × (a.requests ≡ requests_of asked ++ request ∷ [])

-- under the replies to these the run of the code asks this request next
pub record CodeAsks (code : Code) (start : Beginning) (asked : List Answered) (request : Request) : Type 0 where
  pub ran : Ran
  pub runs : Runs code start.function start.args start.cursor start.units (replies_of asked) ran
  pub lacks : LacksReply (account_of ran) asked request

-- each of some requests is asked so, behind those before
abbrev pub AreAsked : (Asks : List Answered → Request → Type 0) → (before : List Answered) → List Answered → Type 0
AreAsked Asks before [] = Unit {0}
AreAsked Asks before (a ∷ rest) = Asks before a.request × AreAsked Asks (before ++ a ∷ []) rest

-- These requests are those of the run of the code, each asked next behind those before. The replies fit
-- their requests, and their numbers and the cursor at which the run began are of 64 bits
pub record HaveRun (code : Code) (start : Beginning) (asked : List Answered) : Type 0 where
  pub asks : AreAsked (CodeAsks code start) [] asked
  pub fit : RepliesFit (requests_of asked) (replies_of asked)
  pub numbers : HaveNumbers (replies_of asked)
  pub from : FitsSigned w64 start.cursor
