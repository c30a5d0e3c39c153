-- A session of some code plays the recordings that its replies bring, and so does one of a program's meaning.
use Rattle.std.proofs.Common.{◌≡◌, ◌≢◌, ◌+◌, ◌≤◌, ◌⊎◌, inl, inr, List, [], ◌∷◌, ◌++◌, length, take, drop, Some, refl, sym, ap, subst, ◌∙◌, arith, append_assoc, append-nil, length-append}
use Rattle.std.specs.Prelude.{ℤ, FitsSigned}
use Rattle.std.specs.Int.{w64}
use Rattle.std.proofs.Math.Seq.{drop-append_seam, take-append_seam}
use Rattle.std.proofs.lemmas.List.{length-map, map-append}
use Rattle.std.proofs.lemmas.List.Sums.{fold-append}
use Rattle.rtio_types.specs.declared.event.Event.{Event}
use Rattle.rtio_types.specs.declared.outcome.Outcome.{Outcome}
use Rattle.rtio_types.specs.declared.outcome.Outcome.TheVariants as outcome
use Rattle.rtio_types.specs.declared.request.Request.{Request}
use Rattle.rtio_types.specs.declared.request.Reply.{Reply}
use Rattle.rtio_types.specs.declared.request.Reply.TheVariants as answer
use Rattle.rtio_types.specs.Recordings.{Recorded}
use Rattle.rtio_core.specs.declared.data.Config.{Config}
use Rattle.rtio_core.specs.declared.data.Entry.{Entry}
use Rattle.rtio_core.specs.Entries.{last_cursor}
use Rattle.core_image.proofs.Verifiable.{has_order}
use Rattle.core_isa.specs.declared.code.Code.{Code}
use Rattle.core_isa.specs.Machine.{MachineEnd, returned, raised, budget, unanswered}
use Rattle.core_isa.specs.Marks.{HasOrder, Marked}
use Rattle.core_isa.specs.Runs.{Ran, Runs}
use Rattle.core_isa.specs.WellAsked.{RepliesFit}
use Rattle.core_isa.proofs.Ending.{runs_end}
use Rattle.core_cpu.specs.Moments.{outcome_of}
use Rattle.core_cpu.specs.Standing.{HasEntry, Start as Beginning}
use Rattle.kern_syntax.specs.Tree.{ProgramTree}
use Rattle.timeline_sem.specs.Programs.{Meaning}
use Rattle.code_follows.specs.Lawful.{ran_as}
use Rattle.code_replies.specs.DoesAs.{DoesAs}
use Rattle.code_replies.proofs.Meant.{runs_are_meant}
use Rattle.code_replies.proofs.Runs.{replies_extend_runs}
use Rattle.core_session.specs.Scripts.{Asks, HaveNumbers, Next, TellsRuns, asks_last, next_of}
use Rattle.core_session.specs.Sessions.{Account, Answered, EndsAs, account_of, beginning_of, open_entries, replies_of, requests_of}
use Rattle.kernel_session.specs.Laws.{GoesOnPlaying, SessionsPlayRecordings}
use Rattle.kernel_session.specs.Meant.{TakesArguments, account_of_meaning, meant, script_of}
use Rattle.kernel_session.specs.Replays.{ArePlayed, PlaysBack, PlaysRecordings, played_at}
use Rattle.kernel_session.proofs.Fitting.{fit_in_front, numbers_in_front}
use Rattle.kernel_session.proofs.Meant.{account_as, has_entry, script_of_meaning}
use Rattle.kernel_session.proofs.Playing.{lawful_start, runs_play_what_they_get}
use Rattle.kernel_session.proofs.RepliesTaken.{each_request_takes_a_reply}

-- ---- the answered requests of a session, and the one that its end may lack a reply to

-- what a session asked, beyond its answered requests, and how it ended
pub record Beyond (asked : List Answered) (a : Account) (how : Outcome) : Type 0 where
  pub more : List Request
  pub is : a.requests ≡ requests_of asked ++ more
  pub last : ((more ≡ []) × (a.outcome ≡ Some how)) ⊎ (how ≡ outcome.Horizon)

nothing_beyond : (asked : List Answered) (a : Account) (how : Outcome) → a.outcome ≡ Some how → a.requests ≡ requests_of asked → Beyond asked a how
nothing_beyond asked a how ended same = record { more = []; is = same ∙ sym (append-nil (requests_of asked)); last = inl (refl, ended) }

beyond : (config : Config) (before : List Entry) (asked : List Answered) (a : Account) (how : Outcome) (cursor : ℤ) → EndsAs config before asked a how cursor → Beyond asked a how
beyond config before asked a outcome.Returned cursor ends = nothing_beyond asked a outcome.Returned ends.0 ends.2
beyond config before asked a (outcome.Raised x) cursor ends = nothing_beyond asked a (outcome.Raised x) ends.0 ends.2
beyond config before asked a outcome.Budget cursor ends = nothing_beyond asked a outcome.Budget ends.0 ends.2
beyond config before asked a outcome.Horizon cursor ends = record { more = ends.2.0 ∷ []; is = ends.2.1; last = inr refl }

-- ---- playing

-- where no unit was left the session ended so
out_of_units : (a : Account) (how : Outcome) → a.outcome ≡ Some how → a.outcome ≡ Some outcome.Budget → how ≡ outcome.Budget
out_of_units a how ended spent = let same : Some how ≡ Some outcome.Budget = sym ended ∙ spent in cc

plays_back : (events : List Event) (back : List Answered) (more : List Request) (a : Account) (how : Outcome)
    → ((more ≡ []) × (a.outcome ≡ Some how)) ⊎ (how ≡ outcome.Horizon)
    → ArePlayed events (replies_of back) (requests_of back ++ more) a.outcome
    → PlaysBack events back how
plays_back [] back more a how last played = tt
plays_back (e ∷ events) [] more a how (inr far) played = inr far
plays_back (e ∷ events) [] [] a how (inl (none, ended)) played = inl (out_of_units a how ended played)
plays_back (e ∷ events) [] (q ∷ more) a how (inl (none, ended)) played = absurd (cc)
plays_back (e ∷ events) (b ∷ back) more a how last (is, inl underflows) = (is, inl underflows)
plays_back (e ∷ events) (b ∷ back) more a how last (is, inr played) = (is, inr (plays_back events back more a how last played))

-- ---- lists with a common front

same_front : {A : Type 0} (xs ys a b : List A) → length xs ≡ length ys → xs ++ a ≡ ys ++ b → (xs ≡ ys) × (a ≡ b)
same_front xs ys a b long same = (
  sym (take-append_seam xs a) ∙ ap (take (length xs)) same ∙ ap (λ n. take n (ys ++ b)) long ∙ take-append_seam ys b,
  sym (drop-append_seam xs a) ∙ ap (drop (length xs)) same ∙ ap (λ n. drop n (ys ++ b)) long ∙ drop-append_seam ys b,
)

-- ---- a session

module _ (code : Code) (order : HasOrder code) (marked : Marked code) (start : Beginning) (entry : HasEntry code start.function start.args) where
  -- a run that begins so
  abbrev RunsUnder : List Reply → Ran → Type 0
  RunsUnder replies ran = Runs code start.function start.args start.cursor start.units replies ran

  -- a run that asks more than it gets replies lacks one
  lacks_one : (front rest : List Reply) (fewer all : Ran) → RunsUnder front fewer → RunsUnder (front ++ rest) all → length front + 1 ≤ length all.requests → fewer.outcome ≡ unanswered
  lacks_one front rest fewer all one other many = by_outcome fewer.outcome refl
    where
      stays : fewer.outcome ≢ unanswered → ⊥
      stays isnt =
          let same : all ≡ fewer = (replies_extend_runs code start.function start.args start.cursor start.units front rest fewer all one other).ended isnt in
          let few : length fewer.requests ≤ length front = (each_request_takes_a_reply code start.function start.args start.cursor start.units front fewer one).enough isnt in
          let long : length front + 1 ≤ length fewer.requests = subst (λ (r : Ran). length front + 1 ≤ length r.requests) same many in
          omega (arith, few, long)

      by_outcome : (o : MachineEnd) → fewer.outcome ≡ o → fewer.outcome ≡ unanswered
      by_outcome unanswered e = e
      by_outcome returned e = absurd (stays (λ q. let same : returned ≡ unanswered = sym e ∙ q in cc))
      by_outcome (raised x) e = absurd (stays (λ q. let same : raised x ≡ unanswered = sym e ∙ q in cc))
      by_outcome budget e = absurd (stays (λ q. let same : budget ≡ unanswered = sym e ∙ q in cc))

  -- what the session asked when it got the recording, and what it asks from there on
  module _ (front back : List Answered) (a : Answered) (recording : Recorded) (more : List Request) (brought : a.reply ≡ answer.Trace recording)
      (all : Ran) (runs : RunsUnder (replies_of (front ++ a ∷ back)) all) (is : all.requests ≡ requests_of (front ++ a ∷ back) ++ more)
      (numbers : HaveNumbers (replies_of (front ++ a ∷ back))) (fit : RepliesFit all.requests (replies_of (front ++ a ∷ back))) where
    abbrev got : List Reply
    got = answer.Trace recording ∷ replies_of back

    abbrev whole : List Reply
    whole = replies_of front ++ got

    same_replies : replies_of (front ++ a ∷ back) ≡ whole
    same_replies =
        map-append (λ (a : Answered). a.reply) front (a ∷ back)
        ∙ ap (λ (r : Reply). replies_of front ++ r ∷ replies_of back) brought

    same_requests : requests_of (front ++ a ∷ back) ++ more ≡ (requests_of front ++ a.request ∷ []) ++ (requests_of back ++ more)
    same_requests =
        ap (λ (q : List Request). q ++ more) (map-append (λ (a : Answered). a.request) front (a ∷ back))
        ∙ append_assoc (requests_of front) (a.request ∷ requests_of back) more
        ∙ sym (append_assoc (requests_of front) (a.request ∷ []) (requests_of back ++ more))

    all_asked : all.requests ≡ (requests_of front ++ a.request ∷ []) ++ (requests_of back ++ more)
    all_asked = is ∙ same_requests

    runs_whole : RunsUnder whole all
    runs_whole = subst (λ (r : List Reply). RunsUnder r all) same_replies runs

    fit_whole : RepliesFit all.requests whole
    fit_whole = subst (RepliesFit all.requests) same_replies fit

    -- the run up to there
    abbrev up_to : (ran : Ran) × RunsUnder (replies_of front) ran
    up_to = runs_end code order marked start.function entry.entry entry.found start.args entry.fit start.cursor start.units (replies_of front)

    abbrev fewer : Ran
    fewer = up_to.0

    long_front : length (requests_of front ++ a.request ∷ []) ≡ length (replies_of front) + 1
    long_front =
        length-append (requests_of front) (a.request ∷ [])
        ∙ ap (λ n. n + 1) (length-map front (λ (a : Answered). a.request) ∙ sym (length-map front (λ (a : Answered). a.reply)))

    unanswered_there : fewer.outcome ≡ unanswered
    unanswered_there =
        let n = length-append (requests_of front ++ a.request ∷ []) (requests_of back ++ more) in
        let long : length all.requests ≡ length ((requests_of front ++ a.request ∷ []) ++ (requests_of back ++ more)) = ap length all_asked in
        lacks_one (replies_of front) got fewer all up_to.1 runs_whole (omega (arith, n, long, long_front))

    asked_there : (own : List Request) → all.requests ≡ fewer.requests ++ own → (fewer.requests ≡ requests_of front ++ a.request ∷ []) × (own ≡ requests_of back ++ more)
    asked_there own same =
        same_front
        fewer.requests
        (requests_of front ++ a.request ∷ [])
        own
        (requests_of back ++ more)
        ((each_request_takes_a_reply code start.function start.args start.cursor start.units (replies_of front) fewer up_to.1).lacking unanswered_there ∙ sym long_front)
        (sym same ∙ all_asked)

    -- the code asks this request next
    asks_it : (next : List Reply → Next) → TellsRuns code start next → (own : List Request) → all.requests ≡ fewer.requests ++ own → next (replies_of front) ≡ Asks a.request fewer.cursor
    asks_it next tells own same =
        tells
        (replies_of front)
        fewer
        up_to.1
        (fit_in_front fewer.requests own (replies_of front) got (subst (λ (q : List Request). RepliesFit q whole) same fit_whole))
        (numbers_in_front (replies_of front) got (subst HaveNumbers same_replies numbers))
        ∙ ap (λ (o : MachineEnd). next_of fewer.requests (outcome_of o) fewer.cursor) unanswered_there
        ∙ ap (λ (q : List Request). asks_last q fewer.cursor) (asked_there own same).0
        ∙ fold-append _ _ (requests_of front) (a.request ∷ [])

    -- and the recording is played there
    is_played : (how : Outcome) → ((more ≡ []) × (outcome_of all.outcome ≡ Some how)) ⊎ (how ≡ outcome.Horizon)
        → (next : List Reply → Next) → TellsRuns code start next
        → (cursor : ℤ) × (next (replies_of front) ≡ Asks a.request cursor) × PlaysBack (played_at cursor recording.events) back how
    is_played how last next tells =
        let on : GoesOnPlaying (account_of fewer) (account_of all) recording (replies_of back) =
        runs_play_what_they_get code order marked start (replies_of front) recording (replies_of back) fewer all entry up_to.1 runs_whole fit_whole unanswered_there in (
          fewer.cursor,
          asks_it next tells on.own on.is,
          plays_back (played_at fewer.cursor recording.events) back more (account_of all) how last
              (subst (λ (q : List Request). ArePlayed (played_at fewer.cursor recording.events) (replies_of back) q (outcome_of all.outcome)) (asked_there on.own on.is).1 on.played),
        )

  code_plays_recordings : (asked : List Answered) (all : Ran) (how : Outcome)
      → RunsUnder (replies_of asked) all
      → Beyond asked (account_of all) how
      → HaveNumbers (replies_of asked)
      → RepliesFit all.requests (replies_of asked)
      → (next : List Reply → Next) → TellsRuns code start next
      → PlaysRecordings next asked how
  code_plays_recordings asked all how runs end numbers fit next tells front a back recording split brought =
      is_played
      front
      back
      a
      recording
      end.more
      brought
      all
      (subst (λ (l : List Answered). RunsUnder (replies_of l) all) split runs)
      (subst (λ (l : List Answered). all.requests ≡ requests_of l ++ end.more) split end.is)
      (subst (λ (l : List Answered). HaveNumbers (replies_of l)) split numbers)
      (subst (λ (l : List Answered). RepliesFit all.requests (replies_of l)) split fit)
      how
      end.last
      next
      tells

-- ---- sessions

pub sessions_play_recordings : (code : Code) → HasOrder code → Marked code → SessionsPlayRecordings code
sessions_play_recordings code order marked units of old new how count entry s next script =
    let before : List Entry = old.history ++ open_entries 0 of (last_cursor old.history) old.counter s.asked in
    code_plays_recordings
    code
    order
    marked
    (beginning_of of units old)
    entry
    s.asked
    s.ran
    how
    s.runs
    (beyond old.config before s.asked (account_of s.ran) how s.cursor s.ends)
    s.numbers
    s.fit
    next
    (script s.from)

-- so does a session of what a function means
module _ (program : ProgramTree) (code : Code) (does : DoesAs program code) (start : Beginning) (takes : TakesArguments program start.function start.args) (from : FitsSigned w64 start.cursor) where
  pub plays_recordings : (config : Config) (before : List Entry) (asked : List Answered) (how : Outcome) (cursor : ℤ)
      → EndsAs config before asked (account_of_meaning (meant program start (replies_of asked))) how cursor
      → HaveNumbers (replies_of asked)
      → RepliesFit (meant program start (replies_of asked)).requests (replies_of asked)
      → PlaysRecordings (script_of program start) asked how
  plays_recordings config before asked how cursor ends numbers fit =
      let m : Meaning = meant program start (replies_of asked) in
      let runs = does.agrees takes.0 start.function start.args start.cursor start.units (replies_of asked) (lawful_start program code does start takes from (replies_of asked) numbers fit) in
      let ends' : EndsAs config before asked (account_of (ran_as m runs.0)) how cursor =
      subst (λ (a : Account). EndsAs config before asked a how cursor) (sym (account_as m runs.0)) ends in
      code_plays_recordings
      code
      (has_order code does.in_range)
      does.marked
      start
      (has_entry program code does.functions start.function start.args takes)
      asked
      (ran_as m runs.0)
      how
      runs.1
      (beyond config before asked (account_of (ran_as m runs.0)) how cursor ends')
      numbers
      fit
      (script_of program start)
      (script_of_meaning program code (runs_are_meant program code does) start takes from)
