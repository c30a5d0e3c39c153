-- What a core puts out and logs is of the board's channels, and is put out behind the first cycle.
use Rattle.std.proofs.Common.{inl, inr, ◌≡◌, ℕ, zero, suc, ◌<◌, ◌≤◌, ◌⊎◌, Bool, true, false, List, [], ◌∷◌, ◌++◌, map, cond, refl, sym, ap, subst, ◌∙◌, arith}
use Rattle.std.specs.Prelude.{ℤ, pos, negsuc, Option, Some, None, filter, unwrap_or, nat_le, nat_lt, int_le, ◌==◌, IsTrue}
use Rattle.std.specs.List.{list_all, list_any, AllByRecursion}
use Rattle.std.proofs.lemmas.Bool.{cases_lt, le-leb}
use Rattle.rtio_types.specs.declared.event.Event.{Event}
use Rattle.rtio_types.specs.declared.request.Request.TheVariants as ask
use Rattle.rtio_types.specs.Time.{at_least_zero, coarse_of, cycle_of}
use Rattle.rtio_log.specs.declared.LogLine.{LogLine}
use Rattle.rtio_log.specs.declared.LogKind.{LogKind}
use Rattle.rtio_log.specs.declared.LogKind.TheVariants as kind
use Rattle.recording_bytes.proofs.WrongFields.{join}
use Rattle.recording_bytes.proofs.FixedEvents.{channel-below}
use Rattle.sed_lanes.specs.Lanes.{LanesState}
use Rattle.sed_lanes.specs.Sorting.{inserted, sorted}
use Rattle.sed_lanes.specs.Verdict.{Underflow, Lane, Sequence, Undecided, verdict}
use Rattle.sed_lanes.specs.Judged.{Judged, LaneStep, Submit, Clear, Submitted, Cleared, judged, lanes_after, next_number}
use Rattle.sed_lanes.proofs.Histories.{judged-submit, judged-clear}
use Rattle.sed_lanes.proofs.Growing.{each-step}
use Rattle.output_merge.specs.Live.{clears, live}
use Rattle.output_merge.specs.Groups.{collisions, is_collision, is_keeper, is_logged_before, is_put_out_before, keepers, part_of}
use Rattle.output_merge.specs.Busy.{busy, busy_behind, is_busy, put_out, put_out_behind}
use Rattle.output_merge.specs.Outputs.{outputs, put_out_by}
use Rattle.rtio_core.specs.declared.data.Act.{Act}
use Rattle.rtio_core.specs.declared.data.Act.TheVariants.{Start, Asked, End}
use Rattle.rtio_core.specs.declared.data.Entry.{Entry}
use Rattle.rtio_core.specs.Core.{CoreState, IsCore}
use Rattle.rtio_core.specs.Entries.{judged_history, lane_step, lane_steps}
use Rattle.rtio_core.specs.Lawful.{AreFitting, IsActFitting}
use Rattle.rtio_core.specs.Lines.{lines_for}
use Rattle.rtio_core.specs.LogOrder.{judged_at, lines_of_cycle, lines_of_step, lines_of_steps, log_lines}
use Rattle.rtio_core.specs.Reply.{outputs_at}
use Rattle.rtio_headline.specs.Headline.{AreInOrder}
use Rattle.core_analyzer.specs.Dumps.{are_put_out_behind, follows, has_few_entries, is_dump, is_of_channel}
use Rattle.core_analyzer.specs.CoreDumps.{dump_of}

-- what each element of a list has, each of its parts has
all-append : {X : Type 0} (P : X → Type 0) (xs ys : List X) → AllByRecursion P xs → AllByRecursion P ys → AllByRecursion P (xs ++ ys)
all-append P [] ys first second = second
all-append P (x ∷ xs) ys first second = (first.0, all-append P xs ys first.1 second)

all-front : {X : Type 0} (P : X → Type 0) (xs : List X) (x : X) → AllByRecursion P (xs ++ x ∷ []) → AllByRecursion P xs × P x
all-front P [] x all = (tt, all.0)
all-front P (y ∷ ys) x all = let rest = all-front P ys x all.1 in ((all.0, rest.0), rest.1)

all-filter : {X : Type 0} (P : X → Type 0) (test : X → Bool) (xs : List X) → AllByRecursion P xs → AllByRecursion P (filter test xs)
all-filter P test [] all = tt
all-filter P test (x ∷ xs) all = by (test x) (all-filter P test xs all.1)
  where
    by : (b : Bool) → AllByRecursion P (filter test xs) → AllByRecursion P (cond b (x ∷ filter test xs) (filter test xs))
    by true rest = (all.0, rest)
    by false rest = rest

all-inserted : {X : Type 0} (P : X → Type 0) (before : X → X → Bool) (x : X) (xs : List X) → P x → AllByRecursion P xs → AllByRecursion P (inserted before x xs)
all-inserted P before x [] one all = (one, tt)
all-inserted P before x (y ∷ ys) one all = by (before y x) (all-inserted P before x ys one all.1)
  where
    by : (b : Bool) → AllByRecursion P (inserted before x ys) → AllByRecursion P (cond b (y ∷ inserted before x ys) (x ∷ y ∷ ys))
    by true rest = (all.0, rest)
    by false rest = (one, all)

all-sorted : {X : Type 0} (P : X → Type 0) (before : X → X → Bool) (xs : List X) → AllByRecursion P xs → AllByRecursion P (sorted before xs)
all-sorted P before [] all = tt
all-sorted P before (x ∷ xs) all = all-inserted P before x (sorted before xs) all.0 (all-sorted P before xs all.1)

all-map : {X Y : Type 0} (P : X → Type 0) (Q : Y → Type 0) (f : X → Y) → ((x : X) → P x → Q (f x)) → (xs : List X) → AllByRecursion P xs → AllByRecursion Q (map f xs)
all-map P Q f each [] all = tt
all-map P Q f each (x ∷ xs) all = (each x all.0, all-map P Q f each xs all.1)

all-true : {X : Type 0} (test : X → Bool) (xs : List X) → AllByRecursion (λ x. test x ≡ true) xs → list_all test xs ≡ true
all-true test [] all = refl
all-true test (x ∷ xs) all = join all.0 (all-true test xs all.1)

-- the event is of a channel of the board, and its cycle isn't the first
abbrev pub IsPlaced : Event → Type 0
IsPlaced e = (nat_lt e.channel 32 ≡ true) × (0 < cycle_of e)

abbrev pub IsPlacedPair : ℕ × Event → Type 0
IsPlacedPair p = IsPlaced p.1

-- a step submits an event of a channel of the board
abbrev pub IsOfChannelStep : LaneStep → Type 0
IsOfChannelStep (Submit at e) = nat_lt e.channel 32 ≡ true
IsOfChannelStep (Clear at) = Unit {0}

-- and where a lane took it, its cycle isn't the first
abbrev pub IsPlacedStep : Judged → Type 0
IsPlacedStep (Submitted number at e v) = (nat_lt e.channel 32 ≡ true) × ((k : ℕ) → v ≡ Lane k → 0 < cycle_of e)
IsPlacedStep (Cleared at) = Unit {0}

-- the outputs of a history are of channels of the board
step-of-channel : (act : Act) (step : LaneStep) → IsActFitting act → lane_step act ≡ Some step → IsOfChannelStep step
step-of-channel (Start of cursor at) step fitting is = absurd (cc)
step-of-channel (End outcome cursor at) step fitting is = absurd (cc)
step-of-channel (Asked (ask.Out e) reply at) step fitting is =
    subst IsOfChannelStep (ap (λ (o : Option LaneStep). unwrap_or o (Clear 0)) is) (channel-below e.channel e.address fitting.0)
step-of-channel (Asked ask.Reset reply at) step fitting is =
    subst IsOfChannelStep (ap (λ (o : Option LaneStep). unwrap_or o (Clear 0)) is) tt
step-of-channel (Asked ask.Counter reply at) step fitting is = absurd (cc)
step-of-channel (Asked (ask.Wait until) reply at) step fitting is = absurd (cc)
step-of-channel (Asked (ask.Edge channel up_to) reply at) step fitting is = absurd (cc)
step-of-channel (Asked (ask.Save name recording) reply at) step fitting is = absurd (cc)
step-of-channel (Asked (ask.Fetch name) reply at) step fitting is = absurd (cc)
step-of-channel (Asked (ask.FetchHandle handle) reply at) step fitting is = absurd (cc)
step-of-channel (Asked (ask.Handle name) reply at) step fitting is = absurd (cc)
step-of-channel (Asked (ask.Erase name) reply at) step fitting is = absurd (cc)
step-of-channel (Asked (ask.Data name value) reply at) step fitting is = absurd (cc)

steps-of-channel : (history : List Entry) → AreFitting history → AllByRecursion IsOfChannelStep (lane_steps history)
steps-of-channel [] fitting = tt
steps-of-channel (entry ∷ rest) fitting = by (lane_step entry.act) refl (steps-of-channel rest fitting.1)
  where
    by : (o : Option LaneStep) → lane_step entry.act ≡ o → AllByRecursion IsOfChannelStep (lane_steps rest) → AllByRecursion IsOfChannelStep (lane_steps (entry ∷ rest))
    by None is all = rw is all
    by (Some step) is all = rw is (step-of-channel entry.act step fitting.0 is, all)

-- an event that a lane takes isn't of the first cycle
taken-later : (s : LanesState) (e : Event) (at k : ℕ) → verdict s e at ≡ Lane k → 0 < cycle_of e
taken-later s e at k is = by (cases_lt at (cycle_of e))
  where
    by : (at < cycle_of e) ⊎ (cycle_of e ≤ at) → 0 < cycle_of e
    by (inl later) = omega (arith, later)
    by (inr le) =
        let late : nat_le (cycle_of e) at ≡ true = le-leb (cycle_of e) at le in
        let first : verdict s e at ≡ Underflow = rw late refl in
        let no : Underflow ≡ Lane k = sym first ∙ is in
        absurd (cc)

placed : (lanes depth : ℕ) (steps : List LaneStep) → AllByRecursion IsOfChannelStep steps → AllByRecursion IsPlacedStep (judged lanes depth steps)
placed lanes depth steps = each-step (λ s. AllByRecursion IsOfChannelStep s → AllByRecursion IsPlacedStep (judged lanes depth s)) (λ none. tt) more steps
  where
    more : (front : List LaneStep) (step : LaneStep) → (AllByRecursion IsOfChannelStep front → AllByRecursion IsPlacedStep (judged lanes depth front)) → AllByRecursion IsOfChannelStep (front ++ step ∷ []) → AllByRecursion IsPlacedStep (judged lanes depth (front ++ step ∷ []))
    more front (Submit at e) h all =
        let parts = all-front IsOfChannelStep front (Submit at e) all in
        let old = judged lanes depth front in
        let s = lanes_after lanes depth old at in
        let one : IsPlacedStep (Submitted (next_number old) at e (verdict s e at)) = (parts.1, taken-later s e at) in
        subst (AllByRecursion IsPlacedStep) (sym (judged-submit lanes depth front at e)) (all-append IsPlacedStep old (Submitted (next_number old) at e (verdict s e at) ∷ []) (h parts.0) (one, tt))
    more front (Clear at) h all =
        let parts = all-front IsOfChannelStep front (Clear at) all in
        let old = judged lanes depth front in
        subst (AllByRecursion IsPlacedStep) (sym (judged-clear lanes depth front at)) (all-append IsPlacedStep old (Cleared at ∷ []) (h parts.0) (tt, tt))

placed-live : (steps : List Judged) → AllByRecursion IsPlacedStep steps → AllByRecursion IsPlacedPair (live steps)
placed-live [] all = tt
placed-live (Submitted number at e Underflow ∷ rest) all = placed-live rest all.1
placed-live (Submitted number at e (Lane k) ∷ rest) all = by (list_any (clears (cycle_of e)) rest) (placed-live rest all.1)
  where
    by : (b : Bool) → AllByRecursion IsPlacedPair (live rest) → AllByRecursion IsPlacedPair (cond b (live rest) ((number, e) ∷ live rest))
    by true more = more
    by false more = ((all.0.0, all.0.1 k refl), more)
placed-live (Submitted number at e Sequence ∷ rest) all = placed-live rest all.1
placed-live (Submitted number at e Undecided ∷ rest) all = placed-live rest all.1
placed-live (Cleared at ∷ rest) all = placed-live rest all.1

placed-put-out : (holds : List ℕ) (out ps : List (ℕ × Event)) → AllByRecursion IsPlacedPair ps → AllByRecursion IsPlacedPair (put_out_behind holds out ps)
placed-put-out holds out [] all = tt
placed-put-out holds out (p ∷ rest) all =
    by (is_busy holds out p) (placed-put-out holds out rest all.1) (placed-put-out holds (out ++ p ∷ []) rest all.1)
  where
    by : (b : Bool) → AllByRecursion IsPlacedPair (put_out_behind holds out rest) → AllByRecursion IsPlacedPair (put_out_behind holds (out ++ p ∷ []) rest) → AllByRecursion IsPlacedPair (cond b (put_out_behind holds out rest) (p ∷ put_out_behind holds (out ++ p ∷ []) rest))
    by true without with_it = without
    by false without with_it = (all.0, with_it)

placed-busy : (holds : List ℕ) (out ps : List (ℕ × Event)) → AllByRecursion IsPlacedPair ps → AllByRecursion IsPlacedPair (busy_behind holds out ps)
placed-busy holds out [] all = tt
placed-busy holds out (p ∷ rest) all =
    by (is_busy holds out p) (placed-busy holds out rest all.1) (placed-busy holds (out ++ p ∷ []) rest all.1)
  where
    by : (b : Bool) → AllByRecursion IsPlacedPair (busy_behind holds out rest) → AllByRecursion IsPlacedPair (busy_behind holds (out ++ p ∷ []) rest) → AllByRecursion IsPlacedPair (cond b (p ∷ busy_behind holds out rest) (busy_behind holds (out ++ p ∷ []) rest))
    by true without with_it = (all.0, without)
    by false without with_it = with_it

module _ (holds : List ℕ) (steps : List Judged) (all : AllByRecursion IsPlacedStep steps) where
  kept : AllByRecursion IsPlacedPair (keepers (live steps))
  kept =
      all-sorted IsPlacedPair is_put_out_before (filter (λ p. is_keeper (part_of (live steps) p)) (live steps))
      (all-filter IsPlacedPair (λ p. is_keeper (part_of (live steps) p)) (live steps) (placed-live steps all))

  -- what is put out
  pub placed-outputs : (counter : ℕ) → AllByRecursion IsPlaced (outputs holds steps counter)
  placed-outputs counter =
      all-map IsPlacedPair IsPlaced (λ p. p.1) (λ p one. one) (put_out_by holds steps counter)
      (all-filter IsPlacedPair (λ p. nat_le (cycle_of p.1) counter) (put_out holds (keepers (live steps))) (placed-put-out holds [] (keepers (live steps)) kept))

-- a line of the log
abbrev pub IsOfChannel : LogLine → Type 0
IsOfChannel line = is_of_channel line ≡ true

logged-pairs : (kind : LogKind) (ps : List (ℕ × Event)) → AllByRecursion IsPlacedPair ps → AllByRecursion IsOfChannel (lines_for kind ps)
logged-pairs kind ps all = all-map IsPlacedPair IsOfChannel (λ p. record { kind = kind; number = p.0; event = p.1 }) (λ p one. one.0) ps all

logged-step : (before : List Judged) (j : Judged) → AllByRecursion IsPlacedStep before → IsPlacedStep j → AllByRecursion IsOfChannel (lines_of_step before j)
logged-step before (Submitted number at e Underflow) all one = tt
logged-step before (Submitted number at e (Lane k)) all one = tt
logged-step before (Submitted number at e Sequence) all one = (one.0, tt)
logged-step before (Submitted number at e Undecided) all one = tt
logged-step before (Cleared at) all one =
    logged-pairs kind.Cleared (filter (λ p. nat_lt at (cycle_of p.1)) (live before)) (all-filter IsPlacedPair (λ p. nat_lt at (cycle_of p.1)) (live before) (placed-live before all))

logged-steps : (counter : ℕ) (before rest : List Judged) → AllByRecursion IsPlacedStep before → AllByRecursion IsPlacedStep rest → AllByRecursion IsOfChannel (lines_of_steps counter before rest)
logged-steps counter before [] front all = tt
logged-steps counter before (j ∷ rest) front all =
    all-append IsOfChannel (cond (judged_at j == counter) (lines_of_step before j) []) (lines_of_steps counter (before ++ j ∷ []) rest)
    (by (judged_at j == counter))
    (logged-steps counter (before ++ j ∷ []) rest (all-append IsPlacedStep before (j ∷ []) front (all.0, tt)) all.1)
  where
    by : (b : Bool) → AllByRecursion IsOfChannel (cond b (lines_of_step before j) [])
    by true = logged-step before j front all.0
    by false = tt

logged-cycle : (holds : List ℕ) (steps : List Judged) (cycle : ℕ) → AllByRecursion IsPlacedStep steps → AllByRecursion IsOfChannel (lines_of_cycle holds steps cycle)
logged-cycle holds steps cycle all =
    let collided = all-sorted IsPlacedPair is_logged_before (filter (λ p. is_collision (part_of (live steps) p)) (live steps)) (all-filter IsPlacedPair (λ p. is_collision (part_of (live steps) p)) (live steps) (placed-live steps all)) in
    let held = all-sorted IsPlacedPair is_logged_before (busy_behind holds [] (keepers (live steps))) (placed-busy holds [] (keepers (live steps)) (kept holds steps all)) in
    all-append IsOfChannel (lines_for kind.Collision (filter (λ p. cycle_of p.1 == cycle) (collisions (live steps)))) (lines_for kind.Busy (filter (λ p. cycle_of p.1 == cycle) (busy holds (keepers (live steps)))))
    (logged-pairs kind.Collision (filter (λ p. cycle_of p.1 == cycle) (collisions (live steps))) (all-filter IsPlacedPair (λ p. cycle_of p.1 == cycle) (collisions (live steps)) collided))
    (logged-pairs kind.Busy (filter (λ p. cycle_of p.1 == cycle) (busy holds (keepers (live steps)))) (all-filter IsPlacedPair (λ p. cycle_of p.1 == cycle) (busy holds (keepers (live steps))) held))

logged-lines : (holds : List ℕ) (steps : List Judged) (counter : ℕ) → AllByRecursion IsPlacedStep steps → AllByRecursion IsOfChannel (log_lines holds steps counter)
logged-lines holds steps zero all = logged-steps 0 [] steps tt all
logged-lines holds steps (suc c) all =
    all-append IsOfChannel (log_lines holds steps c ++ lines_of_cycle holds steps (suc c)) (lines_of_steps (suc c) [] steps)
    (all-append IsOfChannel (log_lines holds steps c) (lines_of_cycle holds steps (suc c)) (logged-lines holds steps c all) (logged-cycle holds steps (suc c) all))
    (logged-steps (suc c) [] steps tt all)

-- a stamp behind the first cycle
stamp-behind : (least : ℕ) (z : ℤ) → least ≤ 8 → 0 < at_least_zero (coarse_of z) → int_le (pos least) z ≡ true
stamp-behind least (pos n) small later = le-leb least n (omega (arith, small, later))
stamp-behind least (negsuc n) small later = absurd (omega (arith, later))

-- the first event may follow the one before it
abbrev pub Leads : Option Event → List Event → Type 0
Leads before [] = Unit {0}
Leads before (e ∷ rest) = follows before e ≡ true

in-order-behind : (before : Option Event) (events : List Event) → AllByRecursion IsPlaced events → Leads before events → AreInOrder events → are_put_out_behind before events ≡ true
in-order-behind before [] all leads order = refl
in-order-behind before (e ∷ []) all leads order =
    join all.0.0 (join (join (stamp-behind 0 e.stamp (omega arith) all.0.1) leads) refl)
in-order-behind before (e ∷ f ∷ rest) all leads order =
    join all.0.0 (join (join (stamp-behind 0 e.stamp (omega arith) all.0.1) leads) (in-order-behind (Some e) (f ∷ rest) all.1 order.0 order.1))

first-leads : (events : List Event) → Leads None events
first-leads [] = tt
first-leads (e ∷ rest) = refl

all-late : (events : List Event) → AllByRecursion IsPlaced events → list_all (λ (e : Event). int_le (pos 8) e.stamp) events ≡ true
all-late [] all = refl
all-late (e ∷ rest) all = join (stamp-behind 8 e.stamp (omega arith) all.0.1) (all-late rest all.1)

core-steps : (core : CoreState) → IsCore core → AllByRecursion IsPlacedStep (judged_history core.config core.history)
core-steps core is = placed core.config.lanes core.config.depth (lane_steps core.history) (steps-of-channel core.history is.fitting)

-- what a core did is a value of a dump
pub core-valid : (core : CoreState) → IsCore core → AreInOrder (outputs_at core.config core.history core.counter) → IsTrue (has_few_entries (dump_of core)) → IsTrue (is_dump (dump_of core))
core-valid core is order few =
    let steps = core-steps core is in
    let events = placed-outputs core.config.holds (judged_history core.config core.history) steps core.counter in
    let lines = logged-lines core.config.holds (judged_history core.config core.history) core.counter steps in
    let put_out : are_put_out_behind None (outputs_at core.config core.history core.counter) ≡ true = in-order-behind None (outputs_at core.config core.history core.counter) events (first-leads (outputs_at core.config core.history core.counter)) order in
    join few (join put_out (all-true is_of_channel (log_lines core.config.holds (judged_history core.config core.history) core.counter) lines))

-- and no stamp of it lies in the first cycle
pub core-late : (core : CoreState) → IsCore core → list_all (λ (e : Event). int_le (pos 8) e.stamp) (outputs_at core.config core.history core.counter) ≡ true
core-late core is =
    all-late (outputs_at core.config core.history core.counter) (placed-outputs core.config.holds (judged_history core.config core.history) (core-steps core is) core.counter)
