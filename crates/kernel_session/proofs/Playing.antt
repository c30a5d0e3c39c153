-- Runs of code, and what a function means, play the recordings that they get.
use Rattle.std.proofs.Common.{◌≡◌, ◌+◌, List, ◌∷◌, ◌++◌, length, false, ap, subst}
use Rattle.std.specs.Prelude.{FitsSigned}
use Rattle.std.specs.Int.{w64}
use Rattle.rtio_types.specs.declared.request.Request.{Request}
use Rattle.rtio_types.specs.declared.request.Reply.{Reply}
use Rattle.rtio_types.specs.declared.request.Reply.TheVariants as answer
use Rattle.rtio_types.specs.Recordings.{Recorded}
use Rattle.core_image.proofs.Verifiable.{has_order}
use Rattle.core_isa.specs.declared.code.Code.{Code}
use Rattle.core_isa.specs.Marks.{HasOrder, Marked}
use Rattle.core_isa.specs.WellAsked.{RepliesFit}
use Rattle.core_cpu.specs.Standing.{HasEntry, Start as Beginning}
use Rattle.kern_syntax.specs.Tree.{ProgramTree}
use Rattle.timeline_sem.specs.declared.meant.MeantOutcome.TheVariants as M
use Rattle.timeline_sem.specs.Programs.{Meaning}
use Rattle.timeline_sem.proofs.ExtendsWhole.{replies_extend_meanings}
use Rattle.code_follows.specs.Lawful.{IsLawfulStart, machine_end, ran_as}
use Rattle.code_replies.specs.DoesAs.{DoesAs}
use Rattle.code_replies.proofs.Runs.{replies_extend_runs}
use Rattle.core_session.specs.Scripts.{HaveNumbers}
use Rattle.core_session.specs.Sessions.{Account, account_of}
use Rattle.kernel_session.specs.Laws.{GoesOnPlaying, PlaysWhatItGets, RunsPlayWhatTheyGet}
use Rattle.kernel_session.specs.Meant.{TakesArguments, account_of_meaning, meant}
use Rattle.kernel_session.specs.Replays.{played_at}
use Rattle.kernel_session.proofs.Fetched.{runs_play}
use Rattle.kernel_session.proofs.Fitting.{are_played, ends_there, fit_behind, fit_in_front, numbers_in_front}
use Rattle.kernel_session.proofs.Meant.{account_as, has_entry, numbers_fit}
use Rattle.kernel_session.proofs.Replayed.{PlaysOn}
use Rattle.kernel_session.proofs.RepliesTaken.{each_request_takes_a_reply}

-- ---- runs of code

pub runs_play_what_they_get : (code : Code) → HasOrder code → Marked code → RunsPlayWhatTheyGet code
runs_play_what_they_get code order marked start front recording rest fewer more entry one other fit lacks =
    let whole : List Reply = front ++ answer.Trace recording ∷ rest in
    let longer = (replies_extend_runs code start.function start.args start.cursor start.units front (answer.Trace recording ∷ rest) fewer more one other).asked in
    let long : length fewer.requests ≡ length front + 1 =
    (each_request_takes_a_reply code start.function start.args start.cursor start.units front fewer one).lacking lacks in
    let fit' : RepliesFit (fewer.requests ++ longer.0) whole = subst (λ (q : List Request). RepliesFit q whole) longer.1 fit in
    let plays : PlaysOn fewer.requests (played_at fewer.cursor recording.events) rest more =
    runs_play
    code
    order
    marked
    start.function
    entry.entry
    entry.found
    start.args
    entry.fit
    start.cursor
    start.units
    front
    rest
    recording
    fewer
    more
    one
    other
    lacks
    (ends_there false fewer.requests longer.0 front recording rest long fit')
    in
    record {
      own = plays.own;
      is = plays.is;
      played =
          are_played
          (played_at fewer.cursor recording.events)
          rest
          plays.own
          more.outcome
          (fit_behind fewer.requests plays.own front (answer.Trace recording) rest long (subst (λ (q : List Request). RepliesFit q whole) plays.is fit))
          plays.replayed;
    }

-- ---- what a function means

module _ (program : ProgramTree) (code : Code) (does : DoesAs program code) (start : Beginning) (takes : TakesArguments program start.function start.args) (from : FitsSigned w64 start.cursor) where
  pub lawful_start : (replies : List Reply) → HaveNumbers replies → RepliesFit (meant program start replies).requests replies
      → IsLawfulStart program takes.0 start.function start.args start.cursor start.units replies
  lawful_start replies numbers fit =
      record { found = takes.1; arguments = takes.2; cursor_fits = from; numbers = numbers_fit replies numbers; replies_fit = fit }

  goes_on_playing : (front : List Reply) (recording : Recorded) (rest : List Reply)
      → HaveNumbers (front ++ answer.Trace recording ∷ rest)
      → RepliesFit (meant program start (front ++ answer.Trace recording ∷ rest)).requests (front ++ answer.Trace recording ∷ rest)
      → (meant program start front).outcome ≡ M.Unanswered
      → GoesOnPlaying (account_of_meaning (meant program start front)) (account_of_meaning (meant program start (front ++ answer.Trace recording ∷ rest))) recording rest
  goes_on_playing front recording rest numbers fit lacks =
      let got : List Reply = answer.Trace recording ∷ rest in
      let whole : List Reply = front ++ got in
      let fewer : Meaning = meant program start front in
      let all : Meaning = meant program start whole in
      let longer = (replies_extend_meanings program start.function start.args start.cursor start.units front got).asked in
      let fit_front : RepliesFit fewer.requests front =
      fit_in_front fewer.requests longer.0 front got (subst (λ (q : List Request). RepliesFit q whole) longer.1 fit) in
      let one = does.agrees takes.0 start.function start.args start.cursor start.units front (lawful_start front (numbers_in_front front got numbers) fit_front) in
      let other = does.agrees takes.0 start.function start.args start.cursor start.units whole (lawful_start whole numbers fit) in
      let entry : HasEntry code start.function start.args = has_entry program code does.functions start.function start.args takes in
      let plays : GoesOnPlaying (account_of (ran_as fewer one.0)) (account_of (ran_as all other.0)) recording rest =
      runs_play_what_they_get
      code
      (has_order code does.in_range)
      does.marked
      start
      front
      recording
      rest
      (ran_as fewer one.0)
      (ran_as all other.0)
      entry
      one.1
      other.1
      fit
      (ap machine_end lacks)
      in
      subst
      (λ (a : Account). GoesOnPlaying a (account_of_meaning all) recording rest)
      (account_as fewer one.0)
      (subst (λ (b : Account). GoesOnPlaying (account_of (ran_as fewer one.0)) b recording rest) (account_as all other.0) plays)

-- a program that some code does as plays what it gets
pub plays_what_it_gets : (program : ProgramTree) (code : Code) → DoesAs program code → PlaysWhatItGets program
plays_what_it_gets program code does start front recording rest takes from numbers fit lacks =
    goes_on_playing program code does start takes from front recording rest numbers fit lacks
