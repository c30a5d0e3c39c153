-- The laws on playbacks.
use Rattle.std.specs.Prelude.{◌≡◌, ℕ, List, ◌∷◌, ◌++◌, FitsSigned}
use Rattle.std.specs.Int.{w64}
use Rattle.rtio_types.specs.declared.outcome.Outcome.{Outcome}
use Rattle.rtio_types.specs.declared.request.Request.{Request}
use Rattle.rtio_types.specs.declared.request.Reply.{Reply}
use Rattle.rtio_types.specs.declared.request.Reply.TheVariants as answer
use Rattle.rtio_types.specs.Recordings.{Recorded}
use Rattle.rtio_core.specs.declared.data.StartOf.{StartOf}
use Rattle.rtio_core.specs.Core.{CoreState}
use Rattle.core_isa.specs.declared.code.Code.{Code}
use Rattle.core_isa.specs.Machine.{unanswered}
use Rattle.core_isa.specs.Runs.{Ran, Runs}
use Rattle.core_isa.specs.WellAsked.{RepliesFit}
use Rattle.core_cpu.specs.Standing.{HasEntry, Start as Beginning}
use Rattle.kern_syntax.specs.Tree.{ProgramTree}
use Rattle.timeline_sem.specs.declared.meant.MeantOutcome.TheVariants as M
use Rattle.core_session.specs.Scripts.{HaveNumbers, IsScriptOf, Next}
use Rattle.core_session.specs.Sessions.{Account, RunsSession, account_of, beginning_of}
use Rattle.kernel_session.specs.Meant.{TakesArguments, account_of_meaning, meant}
use Rattle.kernel_session.specs.Replays.{ArePlayed, PlaysRecordings, played_at}

-- the second account goes on from the first, which lacked a reply,
-- by a recording that this reply brought, and these to come
pub record GoesOnPlaying (fewer more : Account) (recording : Recorded) (replies : List Reply) : Type 0 where
  pub own : List Request
  pub is : more.requests ≡ fewer.requests ++ own
  pub played : ArePlayed (played_at fewer.cursor recording.events) replies own more.outcome

-- so it is wherever a function of the program asked for a recording and got one, under replies that fit
abbrev pub PlaysWhatItGets : ProgramTree → Type 0
PlaysWhatItGets program =
    (start : Beginning) (front : List Reply) (recording : Recorded) (rest : List Reply)
    → TakesArguments program start.function start.args
    → FitsSigned w64 start.cursor
    → HaveNumbers (front ++ answer.Trace recording ∷ rest)
    → RepliesFit (meant program start (front ++ answer.Trace recording ∷ rest)).requests (front ++ answer.Trace recording ∷ rest)
    → (meant program start front).outcome ≡ M.Unanswered
    → GoesOnPlaying
    (account_of_meaning (meant program start front))
    (account_of_meaning (meant program start (front ++ answer.Trace recording ∷ rest)))
    recording
    rest

-- so it is wherever a run of the code asked for a recording and got one, under replies that fit
abbrev pub RunsPlayWhatTheyGet : Code → Type 0
RunsPlayWhatTheyGet code =
    (start : Beginning) (front : List Reply) (recording : Recorded) (rest : List Reply) (fewer more : Ran)
    → HasEntry code start.function start.args
    → Runs code start.function start.args start.cursor start.units front fewer
    → Runs code start.function start.args start.cursor start.units (front ++ answer.Trace recording ∷ rest) more
    → RepliesFit more.requests (front ++ answer.Trace recording ∷ rest)
    → fewer.outcome ≡ unanswered
    → GoesOnPlaying (account_of fewer) (account_of more) recording rest

-- each recording that a reply to a session of the code brought was asked
-- for at the cursor where the code's runs stood then, and is played there
abbrev pub SessionsPlayRecordings : Code → Type 0
SessionsPlayRecordings code =
    (units : ℕ) (of : StartOf) (old new : CoreState) (how : Outcome) (count : ℕ)
    → HasEntry code of.function of.args
    → (session : RunsSession code units of old new how count)
    → (next : List Reply → Next)
    → IsScriptOf code (beginning_of of units old) next
    → PlaysRecordings next session.asked how
