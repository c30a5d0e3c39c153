-- What answers a wait, an output and a request on recordings.
use Rattle.std.proofs.Common.{◌≡◌, ℕ, ◌+◌, ◌-◌, ◌*◌, ◌<◌, ◌≤◌, Bool, true, false, not, cond, List, [], ◌∷◌, length, Option, Some, None, refl, sym, ap, subst, ◌∙◌, arith}
use Rattle.std.specs.Prelude.{ℤ, pos, max, nat_le, nat_lt, ◌&&◌, if◌then◌else◌, int_le, bytes_eq}
use Rattle.std.proofs.lemmas.Bool.Decides.{nat_tests}
use Rattle.std.proofs.lemmas.List.Sums.{fold-append}
use Rattle.rtio_types.specs.declared.event.Event.{Event}
use Rattle.rtio_types.specs.declared.request.Request.{Request}
use Rattle.rtio_types.specs.declared.request.Request.TheVariants as ask
use Rattle.rtio_types.specs.declared.request.Reply.{Reply}
use Rattle.rtio_types.specs.declared.request.Reply.TheVariants as answer
use Rattle.rtio_types.specs.Recordings.{Recorded}
use Rattle.rtio_types.specs.Replies.{raised_by}
use Rattle.rtio_types.specs.Time.{reading, cycle_of, whole_cycles, counter_reaching}
use Rattle.kern_syntax.specs.Tree.{Bytes}
use Rattle.dma_store.specs.Kept.{KeptState, is_full_for, is_kept}
use Rattle.rtio_core.specs.declared.data.Act.TheVariants.{Asked}
use Rattle.rtio_core.specs.declared.data.Config.{Config}
use Rattle.rtio_core.specs.declared.data.Entry.{Entry}
use Rattle.rtio_core.specs.Entries.{kept_after, kept_by, last_at, last_saved}
use Rattle.rtio_core.specs.Lawful.{MayFollow}
use Rattle.rtio_core.specs.Reply.{verdict_at}
use Rattle.rtio_core.specs.Recordings.{trace_or}
use Rattle.rtio_core.proofs.LastSaved.{has-last}
use Rattle.rtio_core.proofs.Settings.{AreInRange}
use Rattle.slack_meaning.specs.declared.span.SpanEvent.{SpanEvent}
use Rattle.slack_meaning.specs.Actions.{SpanRecording}
use Rattle.slack_meaning.specs.Actions as S
use Rattle.slack_meaning.specs.Answers.{counted, submit_if, submit, limit_at, await, is_known, at_hand, with_recording, remembering, save_if, save, erase_of, erase, fetch_of, fetch}
use Rattle.rtio_core.proofs.Reasons.{limit-at-last}
use Rattle.slack_meaning.proofs.Spans.{cycle-rises}
use Rattle.slack_law.proofs.AnswerTimes.{asked_then, answered-by, few-at-once, output-in-time, wait-reads, wait-decided}
use Rattle.slack_law.proofs.Standing.{Any, IsEventWithin, IsRecordingWithin, AreKept, Bounds, bounds_of, IsBounded, hands}
use Rattle.slack_law.proofs.Asking.{IsAnswered, IsAnsweredBy, Answers}
use Rattle.slack_law.proofs.Hands.{one, hand-with, hands-with, names-with, names-known, hand-known, found-kept, kept-saved, kept-resaved, kept-erased}
use Rattle.slack_law.proofs.Answering.{count-after, HaveChanged, bounded-after, not-before, at-once, plain, done-reply, done-quiet, done-in-time, trace-in-time}
use Rattle.sed_lanes.proofs.RisingLanes.{no-underflow}
use Rattle.rtio_core.specs.Reply.{lanes_at}
use Rattle.rtio_types.specs.Time.{cycle_of_stamp}
use Rattle.slack_law.proofs.AnswerTimes.{done-verdict}

module _ (config : Config) (ranges : AreInRange config) (chair : ℕ) where
  -- a wait
  pub answers-wait : (until : ℤ) → Answers config chair (ask.Wait until) Any (await until)
  answers-wait until history r at a h may =
      let out : (int_le until (pos (reading at)) ≡ true) × (answer.Done ≡ r) = waited (int_le until (pos (reading at))) refl may.1 in
      let low : reading (counter_reaching until) ≤ 8 * at = wait-reads until at out.0 in
      let high : 8 * at ≤ max a.limit (8 * counter_reaching until) = most in (
        tt,
        record {
          bounded = bounded-after config history chair (ask.Wait until) r at (bounds_of a) (bounds_of (record (counted a (max a.limit (reading (counter_reaching until)))) { least = max a.least (reading (counter_reaching until)) })) h (record {
            cost = refl;
            depth = refl;
            limited = let cost = h.cost in omega (arith, high, cost);
            reached = let before = not-before config history (bounds_of a) at h may.2 in omega (arith, before, low);
            counted = count-after config history chair (ask.Wait until) r at ∙ omega arith ∙ h.counted;
            kept = λ name f is. let found = h.kept name f is in (found.0, fold-append _ _ history (record { chair = chair; act = Asked (ask.Wait until) r at } ∷ []) ∙ found.1, found.2);
            few = let few = h.few in let same : kept_after config (asked_then history chair (ask.Wait until) r at) ≡ kept_after config history = fold-append _ _ history (record { chair = chair; act = Asked (ask.Wait until) r at } ∷ []) in let long = ap (λ (k : KeptState). length k.entries) same in omega (arith, few, long);
            names = h.names;
          });
          values = refl;
          cursor = refl;
          units = refl;
          collected = refl;
          in_time = done-in-time config ranges chair r out.1;
          quiet = done-quiet config ranges chair r out.1;
        },
      )
    where
      waited : (b : Bool) → int_le until (pos (reading at)) ≡ b → (if b then Some answer.Done else None) ≡ Some r → (int_le until (pos (reading at)) ≡ true) × (answer.Done ≡ r)
      waited true is h = (is, done-reply config ranges chair r h)
      waited false is h = absurd (cc)

      most : 8 * at ≤ max a.limit (8 * counter_reaching until)
      most =
          let limited = h.limited in
          let reached = limit-at-last config.cost history (chair, may.0.0) may.0.1 in
          let by = answered-by config history (ask.Wait until) at (max (last_at history) (counter_reaching until)) (chair, may.0.0) may.0.1 may.3 (omega arith) (wait-decided until (max (last_at history) (counter_reaching until)) (omega arith)) in
          omega (arith, limited, reached, by)

  -- an output
  out-in-time : (e : Event) (history : List Entry) (r : Reply) (at limit : ℕ) (a : Bounds) → IsBounded config history a → MayFollow config history chair (Asked (ask.Out e) r at) → whole_cycles a.limit < cycle_of e → (r ≡ answer.Done) × (8 * at ≤ max a.limit (8 * (cycle_of e - 1)))
  out-in-time e history r at limit a h may later =
      let limited = h.limited in
      let by = output-in-time config history e at (chair, may.0.0) ranges.lanes_least ranges.depth_least may.0.1 may.3 (omega (arith, limited, later)) in
      let early : at < cycle_of e = omega (arith, by, limited, later) in
      (done-verdict (verdict_at config history e at) r (no-underflow (lanes_at config history at) e at early) may.1, omega (arith, by, limited))

  out-limited : (e : Event) (f : SpanEvent) (history : List Entry) (r : Reply) (at : ℕ) (a : S.State) → IsBounded config history (bounds_of a) → MayFollow config history chair (Asked (ask.Out e) r at) → cycle_of e ≤ cycle_of_stamp f.stamp.greatest → 8 * at ≤ max a.limit (8 * (cycle_of e - 1)) → max a.limit (8 * at) ≤ limit_at a f
  out-limited e f history r at a h may high by = by-depth (nat_lt a.outs a.depth) refl
    where
      by-depth : (b : Bool) → nat_lt a.outs a.depth ≡ b → max a.limit (8 * at) ≤ (if b then a.limit else max a.limit (reading (cycle_of_stamp f.stamp.greatest - 1)))
      by-depth true few =
          let fewer : a.outs < a.depth = grind (arith, nat_tests, few) in
          let deep = h.depth in
          let counted = h.counted in
          let at_once = few-at-once config history e at (chair, may.0.0) ranges.lanes_least (omega (arith, fewer, deep, counted)) may.0.1 may.3 in
          let limited = h.limited in
          omega (arith, at_once, limited)
      by-depth false many = omega (arith, by, high)

  pub answers-out : (e : Event) (f : SpanEvent) → IsEventWithin e f → Answers config chair (ask.Out e) Any (submit f)
  answers-out e f within history r at a h may = by (nat_le (cycle_of_stamp f.stamp.least) (whole_cycles a.limit)) refl
    where
      by : (b : Bool) → nat_le (cycle_of_stamp f.stamp.least) (whole_cycles a.limit) ≡ b → IsAnsweredBy config chair history Any (record { request = ask.Out e; reply = r; at = at }) a (submit_if b f a)
      by true late = tt
      by false in_time =
          let ahead : whole_cycles a.limit < cycle_of_stamp f.stamp.least = grind (arith, nat_tests, in_time) in
          let low : cycle_of_stamp f.stamp.least ≤ cycle_of e = cycle-rises f.stamp.least e.stamp within.stamp.least in
          let high : cycle_of e ≤ cycle_of_stamp f.stamp.greatest = cycle-rises e.stamp f.stamp.greatest within.stamp.greatest in
          let told = out-in-time e history r at a.limit (bounds_of a) h may (omega (arith, ahead, low)) in
          let done : answer.Done ≡ r = sym told.0 in
          let limited = out-limited e f history r at a h may high told.1 in (
            tt,
            record {
              bounded = bounded-after config history chair (ask.Out e) r at (bounds_of a) (bounds_of (record (counted a (limit_at a f)) { outs = a.outs + 1 })) h (record {
                cost = refl;
                depth = refl;
                limited = let cost = h.cost in omega (arith, limited, cost);
                reached = not-before config history (bounds_of a) at h may.2;
                counted = count-after config history chair (ask.Out e) r at ∙ (let same = h.counted in omega (arith, same));
                kept = λ name g is. let found = h.kept name g is in (found.0, fold-append _ _ history (record { chair = chair; act = Asked (ask.Out e) r at } ∷ []) ∙ found.1, found.2);
                few = let few = h.few in let same : kept_after config (asked_then history chair (ask.Out e) r at) ≡ kept_after config history = fold-append _ _ history (record { chair = chair; act = Asked (ask.Out e) r at } ∷ []) in let long = ap (λ (k : KeptState). length k.entries) same in omega (arith, few, long);
                names = h.names;
              });
              values = refl;
              cursor = refl;
              units = refl;
              collected = refl;
              in_time = done-in-time config ranges chair r done;
              quiet = done-quiet config ranges chair r done;
            },
          )

  -- no more recordings are at hand than names were saved
  hands-few : (saved : List (Bytes × Option SpanRecording)) → hands saved ≤ length saved
  hands-few [] = omega arith
  hands-few ((name, None) ∷ rest) = let few = hands-few rest in omega (arith, few)
  hands-few ((name, Some f) ∷ rest) = let few = hands-few rest in omega (arith, few)

  -- a recording at hand is kept
  hand-kept : (history : List Entry) (a : Bounds) (name : List ℕ) (f : SpanRecording) → IsBounded config history a → at_hand a.saved name ≡ Some f → is_kept (kept_after config history) name ≡ true
  hand-kept history a name f h is =
      let found = h.kept name f is in
      found-kept (kept_after config history) name found.0 (has-last config history name ∙ found.1)

  -- so a fetch brings it
  pub answers-fetch : (name : List ℕ) → Answers config chair (ask.Fetch name) (λ reply f. (r : Recorded) × (reply ≡ answer.Trace r) × IsRecordingWithin r f) (fetch name)
  answers-fetch name history r at a h may = by (at_hand a.saved name) refl
    where
      by : (o : Option SpanRecording) → at_hand a.saved name ≡ o → IsAnsweredBy config chair history (λ reply f. (t : Recorded) × (reply ≡ answer.Trace t) × IsRecordingWithin t f) (record { request = ask.Fetch name; reply = r; at = at }) a (fetch_of o a)
      by None is = tt
      by (Some f) is =
          let found = h.kept name f is in
          let told : Some (trace_or answer.NoTrace (Some found.0)) ≡ Some r = ap (λ o. Some (trace_or answer.NoTrace o)) (sym (has-last config history name ∙ found.1)) ∙ may.1 in
          let trace : answer.Trace found.0 ≡ r = cc in (
            (found.0, sym trace, found.2),
            plain config ranges chair history (ask.Fetch name) r at a h may (record {
              decided = refl;
              none = count-after config history chair (ask.Fetch name) r at ∙ omega arith;
              last = λ n. fold-append _ _ history (record { chair = chair; act = Asked (ask.Fetch name) r at } ∷ []);
              kept = fold-append _ _ history (record { chair = chair; act = Asked (ask.Fetch name) r at } ∷ []);
              quiet = sym (ap raised_by trace);
              in_time = trace-in-time config ranges chair r found.0 trace;
            }),
          )

  -- what is at hand after a save or an erase is kept
  kept-changed : (history : List Entry) (q : Request) (at : ℕ) (saved : List (Bytes × Option SpanRecording)) (name : List ℕ) (new : Option SpanRecording) (kept : Option Recorded) → AreKept config history saved → ((n : List ℕ) → last_saved config n (asked_then history chair q answer.Done at) ≡ cond (bytes_eq n name) kept (last_saved config n history)) → ((f : SpanRecording) → new ≡ Some f → (r : Recorded) × (kept ≡ Some r) × IsRecordingWithin r f) → AreKept config (asked_then history chair q answer.Done at) (with_recording saved name new)
  kept-changed history q at saved name new kept were last now n f is = by (bytes_eq n name) refl (sym (hand-with saved name n new) ∙ is)
    where
      by : (b : Bool) → bytes_eq n name ≡ b → cond (bytes_eq n name) new (at_hand saved n) ≡ Some f → (r : Recorded) × (last_saved config n (asked_then history chair q answer.Done at) ≡ Some r) × IsRecordingWithin r f
      by true same h =
          let found = now f (sym (ap (λ b. cond b new (at_hand saved n)) same) ∙ h) in
          (found.0, last n ∙ ap (λ b. cond b kept (last_saved config n history)) same ∙ found.1, found.2)
      by false other h =
          let found = were n f (sym (ap (λ b. cond b new (at_hand saved n)) other) ∙ h) in
          (found.0, last n ∙ ap (λ b. cond b kept (last_saved config n history)) other ∙ found.1, found.2)

  -- a save
  save-changes : (history : List Entry) (name : List ℕ) (t : Recorded) (f : SpanRecording) (at : ℕ) (a : S.State) → IsBounded config history (bounds_of a) → MayFollow config history chair (Asked (ask.Save name t) answer.Done at) → IsRecordingWithin t f → length (with_recording a.saved name (Some f)) ≤ 1000 → HaveChanged config history chair (ask.Save name t) answer.Done at (bounds_of a) (bounds_of (remembering a name (Some f)))
  save-changes history name t f at a h may within names = record {
    cost = refl;
    depth = refl;
    limited = let by = at-once config ranges chair history (ask.Save name t) answer.Done at (bounds_of a) h may refl in let cost = h.cost in omega (arith, by, cost);
    reached = not-before config history (bounds_of a) at h may.2;
    counted = count-after config history chair (ask.Save name t) answer.Done at ∙ omega arith ∙ h.counted;
    kept = kept-changed history (ask.Save name t) at a.saved name (Some f) (Some t) h.kept (λ n. fold-append _ _ history (record { chair = chair; act = Asked (ask.Save name t) answer.Done at } ∷ [])) (λ g is. let same : f ≡ g = cc in (t, refl, subst (λ x. IsRecordingWithin t x) same within));
    few = by-hand (at_hand a.saved name) refl;
    names = names;
  }
    where
      after : kept_after config (asked_then history chair (ask.Save name t) answer.Done at) ≡ kept_by (kept_after config history) (ask.Save name t) answer.Done
      after = fold-append _ _ history (record { chair = chair; act = Asked (ask.Save name t) answer.Done at } ∷ [])

      by-hand : (o : Option SpanRecording) → at_hand a.saved name ≡ o → length (kept_after config (asked_then history chair (ask.Save name t) answer.Done at)).entries ≤ 64 + hands (with_recording a.saved name (Some f))
      by-hand None is =
          let long = ap (λ (k : KeptState). length k.entries) after in
          let more = kept-saved (kept_after config history) name t in
          let hand = hands-with a.saved name (Some f) in
          let none = ap one is in
          let few = h.few in
          omega (arith, long, more, hand, none, few)
      by-hand (Some g) is =
          let long = ap (λ (k : KeptState). length k.entries) after in
          let same = kept-resaved (kept_after config history) name t (hand-kept history (bounds_of a) name g h is) in
          let hand = hands-with a.saved name (Some f) in
          let some = ap one is in
          let few = h.few in
          omega (arith, long, same, hand, some, few)

  pub answers-save : (name : List ℕ) (t : Recorded) (f : SpanRecording) → IsRecordingWithin t f → Answers config chair (ask.Save name t) Any (save name f)
  answers-save name t f within history r at a h may = by (nat_le 1000 (length a.saved)) (is_known a.saved name) refl refl
    where
      room : is_full_for (kept_after config history) name ≡ false
      room =
          let few = h.few in
          let hand = hands-few a.saved in
          let names = h.names in
          let small : length (kept_after config history).entries ≤ 1064 = omega (arith, few, hand, names) in
          let test : nat_le 4096 (length (kept_after config history).entries) ≡ false = grind (arith, nat_tests, small) in
          ap (λ b. b && not (is_kept (kept_after config history) name)) test

      done : answer.Done ≡ r
      done = done-reply config ranges chair r (sym (ap (λ b. Some (if b then answer.Full else answer.Done)) room) ∙ may.1)

      answered-so : (reply : Reply) → answer.Done ≡ reply → MayFollow config history chair (Asked (ask.Save name t) reply at) → length (with_recording a.saved name (Some f)) ≤ 1000 → IsAnswered config chair history (record { request = ask.Save name t; reply = reply; at = at }) a (remembering a name (Some f))
      answered-so reply is may' names = subst (λ x. MayFollow config history chair (Asked (ask.Save name t) x at) → IsAnswered config chair history (record { request = ask.Save name t; reply = x; at = at }) a (remembering a name (Some f))) is (λ m. record {
        bounded = bounded-after config history chair (ask.Save name t) answer.Done at (bounds_of a) (bounds_of (remembering a name (Some f))) h (save-changes history name t f at a h m within names);
        values = refl;
        cursor = refl;
        units = refl;
        collected = refl;
        in_time = done-in-time config ranges chair answer.Done refl;
        quiet = refl;
      }) may'

      by : (full known : Bool) → nat_le 1000 (length a.saved) ≡ full → is_known a.saved name ≡ known → IsAnsweredBy config chair history Any (record { request = ask.Save name t; reply = r; at = at }) a (save_if (full && not known) name f a)
      by true false is new = tt
      by true true is known =
          let same = names-known a.saved name (Some f) known in
          let names = h.names in
          (tt, answered-so r done may (omega (arith, same, names)))
      by false known is new =
          let fewer : length a.saved < 1000 = grind (arith, nat_tests, is) in
          let more = names-with a.saved name (Some f) in
          (tt, answered-so r done may (omega (arith, fewer, more)))

  -- an erase
  erase-changes : (history : List Entry) (name : List ℕ) (f : SpanRecording) (at : ℕ) (a : S.State) → IsBounded config history (bounds_of a) → MayFollow config history chair (Asked (ask.Erase name) answer.Done at) → at_hand a.saved name ≡ Some f → HaveChanged config history chair (ask.Erase name) answer.Done at (bounds_of a) (bounds_of (remembering a name None))
  erase-changes history name f at a h may is = record {
    cost = refl;
    depth = refl;
    limited = let by = at-once config ranges chair history (ask.Erase name) answer.Done at (bounds_of a) h may refl in let cost = h.cost in omega (arith, by, cost);
    reached = not-before config history (bounds_of a) at h may.2;
    counted = count-after config history chair (ask.Erase name) answer.Done at ∙ omega arith ∙ h.counted;
    kept = kept-changed history (ask.Erase name) at a.saved name None None h.kept (λ n. fold-append _ _ history (record { chair = chair; act = Asked (ask.Erase name) answer.Done at } ∷ [])) (λ g none. absurd (cc));
    few =
        let after : kept_after config (asked_then history chair (ask.Erase name) answer.Done at) ≡ kept_by (kept_after config history) (ask.Erase name) answer.Done = fold-append _ _ history (record { chair = chair; act = Asked (ask.Erase name) answer.Done at } ∷ []) in
        let long = ap (λ (k : KeptState). length k.entries) after in
        let less = kept-erased (kept_after config history) name (hand-kept history (bounds_of a) name f h is) in
        let hand = hands-with a.saved name None in
        let some = ap one is in
        let few = h.few in
        omega (arith, long, less, hand, some, few);
    names = let same = names-known a.saved name None (hand-known a.saved name f is) in let names = h.names in omega (arith, same, names);
  }

  pub answers-erase : (name : List ℕ) → Answers config chair (ask.Erase name) Any (erase name)
  answers-erase name history r at a h may = by (at_hand a.saved name) refl
    where
      answered-so : (f : SpanRecording) → at_hand a.saved name ≡ Some f → (reply : Reply) → answer.Done ≡ reply → MayFollow config history chair (Asked (ask.Erase name) reply at) → IsAnswered config chair history (record { request = ask.Erase name; reply = reply; at = at }) a (remembering a name None)
      answered-so f is reply done may' = subst (λ x. MayFollow config history chair (Asked (ask.Erase name) x at) → IsAnswered config chair history (record { request = ask.Erase name; reply = x; at = at }) a (remembering a name None)) done (λ m. record {
        bounded = bounded-after config history chair (ask.Erase name) answer.Done at (bounds_of a) (bounds_of (remembering a name None)) h (erase-changes history name f at a h m is);
        values = refl;
        cursor = refl;
        units = refl;
        collected = refl;
        in_time = done-in-time config ranges chair answer.Done refl;
        quiet = refl;
      }) may'

      by : (o : Option SpanRecording) → at_hand a.saved name ≡ o → IsAnsweredBy config chair history Any (record { request = ask.Erase name; reply = r; at = at }) a (erase_of o name a)
      by None is = tt
      by (Some f) is =
          let kept = hand-kept history (bounds_of a) name f h is in
          let done : answer.Done ≡ r = done-reply config ranges chair r (sym (ap (λ b. Some (if b then answer.Done else answer.NoTrace)) kept) ∙ may.1) in
          (tt, answered-so f is r done may)
