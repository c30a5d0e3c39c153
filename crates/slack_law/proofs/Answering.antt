-- What answers each request in the run without a core, and why the core's history then keeps within the bounds.
use Rattle.std.proofs.Common.{◌≡◌, ◌≢◌, ℕ, ◌+◌, ◌*◌, ◌^◌, ◌≤◌, Bool, true, false, List, [], ◌∷◌, length, Some, None, refl, sym, ap, subst, ◌∙◌, arith}
use Rattle.std.specs.Prelude.{ℤ, pos, max, nat_lt, filter_map, FitsSigned, count_by}
use Rattle.std.specs.Int.{w64}
use Rattle.std.proofs.lemmas.Int.{int_wrap_fits, ints}
use Rattle.std.proofs.lemmas.Bool.Decides.{nat_tests}
use Rattle.std.proofs.lemmas.List.Elements.{filter_map-append}
use Rattle.std.proofs.lemmas.List.Sums.{fold-append, sum_by-append}
use Rattle.rtio_types.specs.declared.request.Request.{Request}
use Rattle.rtio_types.specs.declared.request.Request.TheVariants as ask
use Rattle.rtio_types.specs.declared.request.Reply.{Reply}
use Rattle.rtio_types.specs.declared.request.Reply.TheVariants as answer
use Rattle.rtio_types.specs.declared.request.Value.{Value}
use Rattle.rtio_types.specs.Recordings.{Recorded}
use Rattle.rtio_types.specs.Replies.{raised_by, number_in}
use Rattle.rtio_types.specs.Time.{reading}
use Rattle.sed_lanes.specs.Judged.{next_number}
use Rattle.sed_lanes.proofs.Numbers.{is_submit, next-number-counts}
use Rattle.dma_store.specs.Kept.{KeptState}
use Rattle.rtio_core.specs.declared.data.Act.TheVariants.{Asked}
use Rattle.rtio_core.specs.declared.data.Config.{Config}
use Rattle.rtio_core.specs.declared.data.Entry.{Entry}
use Rattle.rtio_core.specs.Entries.{judged_history, kept_after, lane_step, lane_steps, last_at, last_saved}
use Rattle.rtio_core.specs.Lawful.{MayFollow}
use Rattle.rtio_core.specs.Reply.{is_decided}
use Rattle.rtio_core.proofs.Settings.{AreInRange}
use Rattle.timeline_sem.specs.Timeline.{with_lead}
use Rattle.slack_meaning.specs.Actions.{SpanRecording}
use Rattle.slack_meaning.specs.Actions as S
use Rattle.slack_meaning.specs.Answers.{answered, counted, lead_if, read_lead}
use Rattle.slack_law.proofs.AnswerTimes.{asked_then, last-after, limit-after, open-after, answered-at-once}
use Rattle.slack_law.proofs.Standing.{Any, IsWithin, AreKept, Bounds, bounds_of, IsBounded, hands}
use Rattle.slack_law.proofs.Asking.{IsAnswered, IsAnsweredBy, Answers}

-- how many outputs were asked with one request more
pub count-after : (config : Config) (history : List Entry) (chair : ℕ) (q : Request) (r : Reply) (at : ℕ) → next_number (judged_history config (asked_then history chair q r at)) ≡ next_number (judged_history config history) + count_by is_submit (filter_map (λ (entry : Entry). lane_step entry.act) (record { chair = chair; act = Asked q r at } ∷ []))
count-after config history chair q r at =
    next-number-counts config.lanes config.depth (lane_steps (asked_then history chair q r at))
    ∙ ap (count_by is_submit) (filter_map-append (λ (entry : Entry). lane_step entry.act) history (record { chair = chair; act = Asked q r at } ∷ []))
    ∙ sum_by-append _ (lane_steps history) (filter_map (λ (entry : Entry). lane_step entry.act) (record { chair = chair; act = Asked q r at } ∷ []))
    ∙ ap (λ n. n + count_by is_submit (filter_map (λ (entry : Entry). lane_step entry.act) (record { chair = chair; act = Asked q r at } ∷ []))) (sym (next-number-counts config.lanes config.depth (lane_steps history)))

-- the same bounds but for what a request changes
pub record HaveChanged (config : Config) (history : List Entry) (chair : ℕ) (q : Request) (r : Reply) (at : ℕ) (a b : Bounds) : Type 0 where
  pub cost : b.cost ≡ a.cost
  pub depth : b.depth ≡ a.depth
  pub limited : max a.limit (8 * at) + config.cost ≤ b.limit
  pub reached : b.least ≤ 8 * at
  pub counted : next_number (judged_history config (asked_then history chair q r at)) ≡ b.outs
  pub kept : AreKept config (asked_then history chair q r at) b.saved
  pub few : length (kept_after config (asked_then history chair q r at)).entries ≤ 64 + hands b.saved
  pub names : length b.saved ≤ 1000

pub bounded-after : (config : Config) (history : List Entry) (chair : ℕ) (q : Request) (r : Reply) (at : ℕ) (a b : Bounds) → IsBounded config history a → HaveChanged config history chair q r at a b → IsBounded config (asked_then history chair q r at) b
bounded-after config history chair q r at a b h c = record {
  running = h.running;
  session = open-after history chair q r at ∙ h.session;
  cost = c.cost ∙ h.cost;
  depth = let deep = h.depth in let same = c.depth in omega (arith, deep, same);
  limited = let now = limit-after config.cost history chair q r at in let most = c.limited in let was = h.limited in omega (arith, now, most, was);
  reached = let last = last-after history chair q r at in let most = c.reached in omega (arith, last, most);
  counted = c.counted;
  kept = c.kept;
  few = c.few;
  names = c.names;
}

-- no earlier than the least reading
pub not-before : (config : Config) (history : List Entry) (b : Bounds) (at : ℕ) → IsBounded config history b → last_at history ≤ at → b.least ≤ 8 * at
not-before config history b at h last = let reached = h.reached in omega (arith, reached, last)

module _ (config : Config) (ranges : AreInRange config) (chair : ℕ) where
  -- a request that is answered at once, is no output and changes nothing that is kept
  pub record IsPlain (history : List Entry) (q : Request) (r : Reply) (at : ℕ) : Type 0 where
    pub decided : is_decided config history q (last_at history) ≡ true
    pub none : next_number (judged_history config (asked_then history chair q r at)) ≡ next_number (judged_history config history)
    pub last : (name : List ℕ) → last_saved config name (asked_then history chair q r at) ≡ last_saved config name history
    pub kept : kept_after config (asked_then history chair q r at) ≡ kept_after config history
    pub quiet : raised_by r ≡ None
    pub in_time : r ≢ answer.Underflow

  -- when it is answered
  pub at-once : (history : List Entry) (q : Request) (r : Reply) (at : ℕ) (a : Bounds) → IsBounded config history a → MayFollow config history chair (Asked q r at) → is_decided config history q (last_at history) ≡ true → 8 * at ≤ a.limit
  at-once history q r at a h may decided =
      let by = answered-at-once config history q at (chair, may.0.0) may.0.1 may.3 decided in
      let most = h.limited in
      omega (arith, by, most)

  pub plain : (history : List Entry) (q : Request) (r : Reply) (at : ℕ) (a : S.State) → IsBounded config history (bounds_of a) → MayFollow config history chair (Asked q r at) → IsPlain history q r at → IsAnswered config chair history (record { request = q; reply = r; at = at }) a (counted a a.limit)
  plain history q r at a h may p = record {
    bounded = bounded-after config history chair q r at (bounds_of a) (bounds_of (counted a a.limit)) h (record {
      cost = refl;
      depth = refl;
      limited = let by = at-once history q r at (bounds_of a) h may p.decided in let cost = h.cost in omega (arith, by, cost);
      reached = not-before config history (bounds_of a) at h may.2;
      counted = p.none ∙ h.counted;
      kept = λ name f is. let found = h.kept name f is in (found.0, p.last name ∙ found.1, found.2);
      few = let few = h.few in let same = ap (λ (k : KeptState). length k.entries) p.kept in omega (arith, few, same);
      names = h.names;
    });
    values = refl;
    cursor = refl;
    units = refl;
    collected = refl;
    in_time = p.in_time;
    quiet = p.quiet;
  }

  -- the reading is in the reply
  pub time-reply : (r : Reply) (at : ℕ) → Some (answer.Time (pos (reading at))) ≡ Some r → answer.Time (pos (reading at)) ≡ r
  time-reply r at h = cc

  pub done-reply : (r : Reply) → Some answer.Done ≡ Some r → answer.Done ≡ r
  done-reply r h = cc

  time-quiet : (r : Reply) (t : ℤ) → answer.Time t ≡ r → raised_by r ≡ None
  time-quiet r t is = sym (ap raised_by is)

  time-in-time : (r : Reply) (t : ℤ) → answer.Time t ≡ r → r ≢ answer.Underflow
  time-in-time r t is late = let clash : answer.Time t ≡ answer.Underflow = is ∙ late in absurd (cc)

  pub done-quiet : (r : Reply) → answer.Done ≡ r → raised_by r ≡ None
  done-quiet r is = sym (ap raised_by is)

  pub done-in-time : (r : Reply) → answer.Done ≡ r → r ≢ answer.Underflow
  done-in-time r is late = let clash : answer.Done ≡ answer.Underflow = is ∙ late in absurd (cc)

  pub trace-in-time : (r : Reply) (t : Recorded) → answer.Trace t ≡ r → r ≢ answer.Underflow
  trace-in-time r t is late = let clash : answer.Trace t ≡ answer.Underflow = is ∙ late in absurd (cc)

  fits-64 : (n : ℕ) → n ≤ 2 ^ 62 → FitsSigned w64 (pos n)
  fits-64 n le = record { sfits = omega (arith, le) }

  -- the lead over a reading within the bounds
  lead-within : (n least limit : ℕ) → least ≤ n → n ≤ limit → limit + 125000 ≤ 2 ^ 62 → IsWithin (with_lead (pos n)) (record { least = pos (least + 125000); greatest = pos (limit + 125000) })
  lead-within n least limit low high near =
      let same : with_lead (pos n) ≡ pos (n + 125000) = int_wrap_fits w64 (pos (n + 125000)) (fits-64 (n + 125000) (omega (arith, high, near))) in
      subst (λ t. IsWithin t (record { least = pos (least + 125000); greatest = pos (limit + 125000) })) (sym same) (record { least = omega (arith, ints, low); greatest = omega (arith, ints, high) })

  -- a reading
  lead-answers : (history : List Entry) (q : Request) (r : Reply) (at : ℕ) (a : S.State) → IsBounded config history (bounds_of a) → MayFollow config history chair (Asked q r at) → IsPlain history q r at → answer.Time (pos (reading at)) ≡ r → IsAnsweredBy config chair history (λ reply span. IsWithin (with_lead (number_in reply)) span) (record { request = q; reply = r; at = at }) a (read_lead a)
  lead-answers history q r at a h may p is = by (nat_lt (2 ^ 62) (a.limit + 125000)) refl
    where
      by : (b : Bool) → nat_lt (2 ^ 62) (a.limit + 125000) ≡ b → IsAnsweredBy config chair history (λ reply span. IsWithin (with_lead (number_in reply)) span) (record { request = q; reply = r; at = at }) a (lead_if b a)
      by true far = tt
      by false near =
          let by_limit = at-once history q r at (bounds_of a) h may p.decided in
          let low = not-before config history (bounds_of a) at h may.2 in
          let close : a.limit + 125000 ≤ 2 ^ 62 = grind (arith, nat_tests, near) in
          (subst (λ reply. IsWithin (with_lead (number_in reply)) (record { least = pos (a.least + 125000); greatest = pos (a.limit + 125000) })) is (lead-within (8 * at) a.least a.limit low by_limit close), plain history q r at a h may p)

  pub answers-counter : Answers config chair ask.Counter (λ reply span. IsWithin (with_lead (number_in reply)) span) read_lead
  answers-counter history r at a h may =
      let is = time-reply r at may.1 in
      lead-answers history ask.Counter r at a h may
      (record {
        decided = refl;
        none = count-after config history chair ask.Counter r at ∙ omega arith;
        last = λ name. fold-append _ _ history (record { chair = chair; act = Asked ask.Counter r at } ∷ []);
        kept = fold-append _ _ history (record { chair = chair; act = Asked ask.Counter r at } ∷ []);
        quiet = time-quiet r (pos (reading at)) is;
        in_time = time-in-time r (pos (reading at)) is;
      })
      is

  pub answers-reset : Answers config chair ask.Reset (λ reply span. IsWithin (with_lead (number_in reply)) span) read_lead
  answers-reset history r at a h may =
      let is = time-reply r at may.1 in
      lead-answers history ask.Reset r at a h may
      (record {
        decided = refl;
        none = count-after config history chair ask.Reset r at ∙ omega arith;
        last = λ name. fold-append _ _ history (record { chair = chair; act = Asked ask.Reset r at } ∷ []);
        kept = fold-append _ _ history (record { chair = chair; act = Asked ask.Reset r at } ∷ []);
        quiet = time-quiet r (pos (reading at)) is;
        in_time = time-in-time r (pos (reading at)) is;
      })
      is

  -- a dataset
  pub answers-data : (name : List ℕ) (value : Value) → Answers config chair (ask.Data name value) Any answered
  answers-data name value history r at a h may =
      let is = done-reply r may.1 in (
        tt,
        plain history (ask.Data name value) r at a h may (record {
          decided = refl;
          none = count-after config history chair (ask.Data name value) r at ∙ omega arith;
          last = λ n. fold-append _ _ history (record { chair = chair; act = Asked (ask.Data name value) r at } ∷ []);
          kept = fold-append _ _ history (record { chair = chair; act = Asked (ask.Data name value) r at } ∷ []);
          quiet = done-quiet r is;
          in_time = done-in-time r is;
        }),
      )
