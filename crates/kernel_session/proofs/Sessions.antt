-- A session of code that does what a program does is one of the program's meaning.
use Rattle.std.proofs.Common.{◌≡◌, ◌⊎◌, ℕ, List, ◌++◌, ap, subst}
use Rattle.std.specs.Prelude.{Result, Ok, Err, IfOk, OnOk}
use Rattle.rtio_types.specs.declared.outcome.Outcome.{Outcome}
use Rattle.rtio_types.specs.declared.request.Request.{Request}
use Rattle.rtio_types.specs.declared.request.Reply.{Reply}
use Rattle.rtio_core.specs.declared.data.StartOf.{StartOf}
use Rattle.rtio_core.specs.Entries.{last_cursor}
use Rattle.rtio_core.specs.Core.{CoreState}
use Rattle.core_isa.specs.declared.code.Code.{Code}
use Rattle.core_isa.specs.WellAsked.{RepliesFit}
use Rattle.kern_syntax.specs.Tree.{ProgramTree}
use Rattle.code_replies.specs.DoesAs.{DoesAs}
use Rattle.code_replies.specs.Laws.{RunsAreMeant}
use Rattle.run_schedule.specs.Schedules.{ScheduleState}
use Rattle.core_session.specs.declared.lending.Ran.{Ran as Told}
use Rattle.core_session.specs.declared.running.SessionEnd.{SessionEnd}
use Rattle.core_session.specs.declared.running.SessionEnd.TheVariants as E
use Rattle.core_session.specs.Scripts.{IsScriptOf, Next}
use Rattle.core_session.specs.Sessions.{Account, EndsAs, RunsSession, account_of, beginning_of, open_entries, replies_of}
use Rattle.core_session.specs.Timed.{IsTimed, IsLeftWithin}
use Rattle.kernel_session.specs.Meant.{MeansSession, TakesArguments, account_of_meaning, meant, script_of}
use Rattle.kernel_session.proofs.Meant.{same_account, script_of_meaning}
use Rattle.kernel_session.proofs.Playbacks.{plays_recordings}

-- the session of the code is one of the meaning
pub means_session : (program : ProgramTree) (code : Code) → DoesAs program code → RunsAreMeant program code → (units : ℕ) (of : StartOf) (old new : CoreState) (how : Outcome) (count : ℕ) → TakesArguments program of.function of.args
    → RunsSession code units of old new how count → MeansSession program units of old new how
means_session program code does agrees units of old new how count takes s =
    let same : account_of s.ran ≡ account_of_meaning (meant program (beginning_of of units old) (replies_of s.asked)) =
    same_account program code agrees (beginning_of of units old) takes s.from (replies_of s.asked) s.ran s.runs s.fit s.numbers in
    let before = old.history ++ open_entries 0 of (last_cursor old.history) old.counter s.asked in
    let ends : EndsAs old.config before s.asked (account_of_meaning (meant program (beginning_of of units old) (replies_of s.asked))) how s.cursor =
    subst (λ (a : Account). EndsAs old.config before s.asked a how s.cursor) same s.ends in
    record {
      asked = s.asked;
      cursor = s.cursor;
      adds = s.adds;
      ends = ends;
      plays =
          plays_recordings
          program
          code
          does
          (beginning_of of units old)
          takes
          s.from
          old.config
          before
          s.asked
          how
          s.cursor
          ends
          s.numbers
          (subst (λ (q : List Request). RepliesFit q (replies_of s.asked)) (ap (λ (a : Account). a.requests) same) s.fit);
    }

-- ---- as answers of a call

pub session_ok : {E : Type 0} (program : ProgramTree) (code : Code) → DoesAs program code → RunsAreMeant program code → (units : ℕ) (of : StartOf) (old new : CoreState) (result : Result Told E) → TakesArguments program of.function of.args
    → IfOk result (λ ran. RunsSession code units of old new ran.outcome ran.steps)
    → IfOk result (λ ran. MeansSession program units of old new ran.outcome)
session_ok program code does agrees units of old new (Ok ran) takes runs = means_session program code does agrees units of old new ran.outcome ran.steps takes runs
session_ok program code does agrees units of old new (Err e) takes runs = tt

pub timed_ok : {E : Type 0} (program : ProgramTree) (code : Code) → RunsAreMeant program code → (units : ℕ) (of : StartOf) (old new : CoreState) (before after : ScheduleState) (result : Result Told E) → TakesArguments program of.function of.args
    → OnOk result ((next : List Reply → Next) → IsScriptOf code (beginning_of of units old) next → IsTimed next 0 of old before new after)
    → OnOk result (IsTimed (script_of program (beginning_of of units old)) 0 of old before new after)
timed_ok program code agrees units of old new before after (Ok ran) takes timed =
    timed (script_of program (beginning_of of units old)) (script_of_meaning program code agrees (beginning_of of units old) takes)
timed_ok program code agrees units of old new before after (Err e) takes timed = tt

pub left_err : (program : ProgramTree) (code : Code) → RunsAreMeant program code → (units : ℕ) (of : StartOf) (old new : CoreState) (before : ScheduleState) (result : Result Told SessionEnd) → TakesArguments program of.function of.args
    → (result ≡ Err E.Memory → (next : List Reply → Next) → IsScriptOf code (beginning_of of units old) next → (new ≡ old) ⊎ IsLeftWithin next 0 of old before new)
    → result ≡ Err E.Memory → (new ≡ old) ⊎ IsLeftWithin (script_of program (beginning_of of units old)) 0 of old before new
left_err program code agrees units of old new before result takes left memory =
    left memory (script_of program (beginning_of of units old)) (script_of_meaning program code agrees (beginning_of of units old) takes)
