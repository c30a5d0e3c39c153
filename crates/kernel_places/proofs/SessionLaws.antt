-- The run of a session asks each of its answered requests, and its entries have them.
use Rattle.std.proofs.Common.{◌≡◌, ◌≢◌, ◌+◌, ◌≤◌, List, [], ◌∷◌, ◌++◌, length, take, drop, refl, sym, ap, subst, ◌∙◌, arith, append_assoc, append-nil, length-append}
use Rattle.std.specs.Prelude.{ℕ, ℤ, map}
use Rattle.std.proofs.Math.Seq.{take-append_seam, drop-append_seam}
use Rattle.std.proofs.lemmas.List.{length-map, map-append}
use Rattle.rtio_types.specs.declared.outcome.Outcome.{Outcome}
use Rattle.rtio_types.specs.declared.outcome.Outcome.TheVariants as outcome
use Rattle.rtio_types.specs.declared.request.Request.{Request}
use Rattle.rtio_types.specs.declared.request.Reply.{Reply}
use Rattle.rtio_core.specs.declared.data.Config.{Config}
use Rattle.rtio_core.specs.declared.data.Act.TheVariants as A
use Rattle.rtio_core.specs.declared.data.Entry.{Entry}
use Rattle.rtio_core.specs.Entries.{last_cursor}
use Rattle.core_isa.specs.declared.code.Code.{Code}
use Rattle.core_isa.specs.Machine.{MachineEnd, returned, raised, budget, unanswered}
use Rattle.core_isa.specs.Marks.{HasOrder, Marked}
use Rattle.core_isa.specs.Runs.{Ran, Runs}
use Rattle.core_isa.proofs.Ending.{runs_end}
use Rattle.core_cpu.specs.Standing.{HasEntry, Start as Beginning}
use Rattle.code_replies.proofs.Runs.{replies_extend_runs}
use Rattle.core_session.specs.Sessions.{Account, Answered, EndsAs, account_of, asked_entry, beginning_of, entry_of, open_entries, replies_of, requests_of}
use Rattle.kernel_session.proofs.RepliesTaken.{each_request_takes_a_reply}
use Rattle.kernel_places.specs.Laws.{SessionsAnswer, SessionsAsk}
use Rattle.kernel_places.specs.Places.{Asks, AsksEach, answered_in}

-- the requests of a session are the answered ones, and maybe more
more_asked : (config : Config) (before : List Entry) (asked : List Answered) (a : Account) (how : Outcome) (cursor : _) → EndsAs config before asked a how cursor → (more : List Request) × (a.requests ≡ requests_of asked ++ more)
more_asked config before asked a outcome.Returned cursor ends = ([], ends.2 ∙ sym (append-nil (requests_of asked)))
more_asked config before asked a (outcome.Raised x) cursor ends = ([], ends.2 ∙ sym (append-nil (requests_of asked)))
more_asked config before asked a outcome.Budget cursor ends = ([], ends.2 ∙ sym (append-nil (requests_of asked)))
more_asked config before asked a outcome.Horizon cursor ends = (ends.2.0 ∷ [], ends.2.1)

module _ (code : Code) (order : HasOrder code) (marked : Marked code) (start : Beginning) (entry : HasEntry code start.function start.args) where
  abbrev RunsUnder : List Reply → Ran → Type 0
  RunsUnder replies ran = Runs code start.function start.args start.cursor start.units replies ran

  -- a run that asks more than it gets replies lacks one
  lacks_one : (front rest : List Reply) (fewer all : Ran) → RunsUnder front fewer → RunsUnder (front ++ rest) all → length front + 1 ≤ length all.requests → fewer.outcome ≡ unanswered
  lacks_one front rest fewer all one other many = by_outcome fewer.outcome refl
    where
      stays : fewer.outcome ≢ unanswered → ⊥
      stays isnt =
          let same : all ≡ fewer = (replies_extend_runs code start.function start.args start.cursor start.units front rest fewer all one other).ended isnt in
          let few : length fewer.requests ≤ length front = (each_request_takes_a_reply code start.function start.args start.cursor start.units front fewer one).enough isnt in
          let long : length front + 1 ≤ length fewer.requests = subst (λ (r : Ran). length front + 1 ≤ length r.requests) same many in
          omega (arith, few, long)

      by_outcome : (o : MachineEnd) → fewer.outcome ≡ o → fewer.outcome ≡ unanswered
      by_outcome unanswered e = e
      by_outcome returned e = absurd (stays (λ q. let same : returned ≡ unanswered = sym e ∙ q in cc))
      by_outcome (raised x) e = absurd (stays (λ q. let same : raised x ≡ unanswered = sym e ∙ q in cc))
      by_outcome budget e = absurd (stays (λ q. let same : budget ≡ unanswered = sym e ∙ q in cc))

  -- under the replies to the requests in front the run asks them and one more
  asks-one : (front : List Answered) (a : Answered) (back : List Answered) (more : List Request) (all : Ran)
      → RunsUnder (replies_of (front ++ a ∷ back)) all
      → all.requests ≡ requests_of (front ++ a ∷ back) ++ more
      → Asks code start (replies_of front) (requests_of front ++ a.request ∷ [])
  asks-one front a back more all runs is =
      let up_to = runs_end code order marked start.function entry.entry entry.found start.args entry.fit start.cursor start.units (replies_of front) in
      let fewer : Ran = up_to.0 in
      let rest : List Reply = replies_of (a ∷ back) in
      let runs' : RunsUnder (replies_of front ++ rest) all = subst (λ (r : List Reply). RunsUnder r all) (map-append (λ (a : Answered). a.reply) front (a ∷ back)) runs in
      let own : List Request = requests_of back ++ more in
      let there : List Request = requests_of front ++ a.request ∷ [] in
      let all_asked : all.requests ≡ there ++ own =
      is
      ∙ ap (λ (q : List Request). q ++ more) (map-append (λ (a : Answered). a.request) front (a ∷ back))
      ∙ append_assoc (requests_of front) (a.request ∷ requests_of back) more
      ∙ sym (append_assoc (requests_of front) (a.request ∷ []) own)
      in
      let long : length there ≡ length (replies_of front) + 1 =
      length-append (requests_of front) (a.request ∷ [])
      ∙ ap (λ n. n + 1) (length-map front (λ (a : Answered). a.request) ∙ sym (length-map front (λ (a : Answered). a.reply)))
      in
      let many : length (replies_of front) + 1 ≤ length all.requests = omega (arith, ap length all_asked, length-append there own, long) in
      let lacks : fewer.outcome ≡ unanswered = lacks_one (replies_of front) rest fewer all up_to.1 runs' many in
      let further = (replies_extend_runs code start.function start.args start.cursor start.units (replies_of front) rest fewer all up_to.1 runs').asked in
      let as_long : length fewer.requests ≡ length there =
      (each_request_takes_a_reply code start.function start.args start.cursor start.units (replies_of front) fewer up_to.1).lacking lacks ∙ sym long
      in
      let same : fewer.requests ≡ there =
      sym (take-append_seam fewer.requests further.0)
      ∙ ap (take (length fewer.requests)) (sym further.1 ∙ all_asked)
      ∙ ap (λ n. take n (there ++ own)) as_long
      ∙ take-append_seam there own
      in
      record { ran = fewer; runs = up_to.1; lacks = lacks; asked = same }

  asks-each : (front rest : List Answered) (more : List Request) (all : Ran)
      → RunsUnder (replies_of (front ++ rest)) all
      → all.requests ≡ requests_of (front ++ rest) ++ more
      → AsksEach code start front rest
  asks-each front [] more all runs is = tt
  asks-each front (a ∷ rest) more all runs is =
      let same : front ++ a ∷ rest ≡ (front ++ a ∷ []) ++ rest = sym (append_assoc front (a ∷ []) rest) in (
        asks-one front a rest more all runs is,
        asks-each (front ++ a ∷ []) rest more all
            (subst (λ (l : List Answered). RunsUnder (replies_of l) all) same runs)
            (subst (λ (l : List Answered). all.requests ≡ requests_of l ++ more) same is),
      )

pub sessions_ask : (code : Code) → HasOrder code → Marked code → SessionsAsk code
sessions_ask code order marked units of old new how count entry s =
    let before : List Entry = old.history ++ open_entries 0 of (last_cursor old.history) old.counter s.asked in
    let beyond = more_asked old.config before s.asked (account_of s.ran) how s.cursor s.ends in
    asks-each code order marked (beginning_of of units old) entry [] s.asked beyond.0 s.ran s.runs beyond.1

-- ---- the entries

-- the answered requests among the entries of a session
answered_back : (chair : ℕ) (asked : List Answered) (how : Outcome) (cursor : ℤ) (at : ℕ) → answered_in (map (asked_entry chair) asked ++ entry_of chair (A.End how cursor at) ∷ []) ≡ asked
answered_back chair [] how cursor at = refl
answered_back chair (a ∷ asked) how cursor at = ap (λ (l : List Answered). a ∷ l) (answered_back chair asked how cursor at)

pub sessions_answer : SessionsAnswer
sessions_answer of old new asked how cursor adds =
    let end : List Entry = entry_of 0 (A.End how cursor new.counter) ∷ [] in
    let own : List Entry = open_entries 0 of (last_cursor old.history) old.counter asked in
    let added : drop (length old.history) new.history ≡ own ++ end =
    ap (λ (l : List Entry). drop (length old.history) l) (adds.history ∙ append_assoc old.history own end)
    ∙ drop-append_seam old.history (own ++ end)
    in
    ap answered_in added ∙ answered_back 0 asked how cursor new.counter
