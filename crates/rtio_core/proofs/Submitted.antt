-- What one output more does to what a core keeps of its outputs.
use Rattle.std.proofs.Common.{◌≡◌, ◌+◌, ◌-◌, ◌^◌, ◌≤◌, ◌<◌, ℕ, true, List, [], ◌∷◌, ◌++◌, get_or, length, max, set, refl, ap, sym, subst, ◌∙◌, append-nil, arith}
use Rattle.std.specs.Prelude.{ℤ, min, nat_le, Vec, vec_len, vec_capacity}
use Rattle.std.proofs.lemmas.Bool.{le-leb}
use Rattle.std.specs.declared.alloc.Global.{Global}
use Rattle.rtio_types.specs.declared.event.Event.{Event}
use Rattle.rtio_types.specs.Time.{cycle_of}
use Rattle.rtio_log.specs.Lines.{LogState}
use Rattle.rtio_log.specs.declared.LogLine.{LogLine}
use Rattle.rtio_log.specs.declared.LogKind.TheVariants as kind
use Rattle.sed_lanes.specs.Lanes.{LanesState, held_events, lane_at, with_accepted}
use Rattle.sed_lanes.specs.Judged.{Judged, LaneStep, Submit, Submitted, judged, lanes_after, next_number}
use Rattle.sed_lanes.specs.Verdict.{Verdict, Underflow, Lane, Sequence, Undecided, verdict}
use Rattle.sed_lanes.specs.declared.lanes.Place.TheVariants as place
use Rattle.std.proofs.lemmas.List.{length-set}
use Rattle.std.proofs.lemmas.List.FromFn.{length-map-range_with_len}
use Rattle.sed_lanes.specs.Calls.{Answers, after_verdict, all_held_after, all_held_from, is_new_number}
use Rattle.sed_lanes.specs.Peaks.{peak_from, peaks_of}
use Rattle.sed_lanes.proofs.Growing.{never-fall-push}
use Rattle.sed_lanes.proofs.HeldByNumber.{held-later, held-new-number, length-held-accepted}
use Rattle.sed_lanes.proofs.Histories.{judged-submit, lanes_after-accepted}
use Rattle.sed_lanes.proofs.Numbers.{next-number-submitted}
use Rattle.sed_lanes.proofs.Peaks.{peaks-accepted, peaks-unplaced}
use Rattle.sed_lanes.proofs.Since.{among, length-lanes_after, verdict-among}
use Rattle.sed_lanes.proofs.Standing.{IsLaneBelow}
use Rattle.sed_lanes.proofs.Unplaced.{IsUnplaced, lanes_after-unplaced}
use Rattle.output_merge.specs.Live.{greatest_cycle, live}
use Rattle.output_merge.specs.Outputs.{logged, outputs, put_out_by, up_to}
use Rattle.output_merge.specs.Sieve.{holds_after}
use Rattle.output_merge.proofs.Greatest.{greatest-accepted}
use Rattle.output_merge.proofs.Histories.{live-accepted}
use Rattle.output_merge.proofs.Parts.{live-up_to-accepted, live-up_to-unplaced, outputs-same, put_out-same}
use Rattle.output_merge.proofs.Steps.{cleared-submitted, live-unplaced, out_of_sequence-more, out_of_sequence-submitted}
use Rattle.rtio_core.specs.declared.outputs.Outputs.{Outputs}
use Rattle.rtio_core.specs.Lines.{lines_for}
use Rattle.rtio_core.specs.LogOrder.{lines_of_step, log_lines}
use Rattle.rtio_core.specs.Played.{IsPlayed}
use Rattle.rtio_core.specs.Told.{TellsLog}
use Rattle.rtio_core.proofs.LogLines.{tells-same, tells-sequence}
use Rattle.rtio_core.proofs.Quiet.{from-accepted}
use Rattle.rtio_core.proofs.LogOrder.{lines-accepted, lines-unplaced, tells-live}

-- the event has the next number and its verdict
grown : (lanes depth : ℕ) (steps : List LaneStep) (counter : ℕ) (e : Event) (v : Verdict) → verdict (lanes_after lanes depth (judged lanes depth steps) counter) e counter ≡ v → judged lanes depth (steps ++ Submit counter e ∷ []) ≡ judged lanes depth steps ++ Submitted (next_number (judged lanes depth steps)) counter e v ∷ []
grown lanes depth steps counter e v is =
    let old : List Judged = judged lanes depth steps in
    judged-submit lanes depth steps counter e ∙ ap (λ (x : Verdict). old ++ Submitted (next_number old) counter e x ∷ []) is

-- no lane took it
pub played-unplaced : (o : Outputs) (holds : List ℕ) (lanes depth : ℕ) (steps : List LaneStep) (counter : ℕ) (e : Event) (v : Verdict) (log : LogState) (number : ℕ) → IsPlayed o holds lanes depth steps counter → verdict (lanes_after lanes depth (judged lanes depth steps) counter) e counter ≡ v → IsUnplaced v → number ≡ o.number + 1 → TellsLog (logged holds (judged lanes depth steps ++ Submitted (next_number (judged lanes depth steps)) counter e v ∷ []) counter) log.lines → log.lines ≡ o.log.lines ++ lines_of_step (judged lanes depth steps) (Submitted (next_number (judged lanes depth steps)) counter e v) → length (held_events o.lanes) ≤ log.room → IsPlayed (record o { log = log; number = number }) holds lanes depth (steps ++ Submit counter e ∷ []) counter
played-unplaced o holds lanes depth steps counter e v log number h is un next tells adds room =
    let old : List Judged = judged lanes depth steps in
    let n : ℕ = next_number old in
    let grows = sym (grown lanes depth steps counter e v is) in
    let new : List Judged = old ++ Submitted n counter e v ∷ [] in
    let settled : up_to counter (live new) ≡ up_to counter (live old) = live-up_to-unplaced old n counter e v counter un in
    let same : live old ≡ live (judged lanes depth (steps ++ Submit counter e ∷ [])) = sym (live-unplaced old n counter e v un) ∙ ap live grows in
    record {
      lanes_least = h.lanes_least;
      lanes_most = h.lanes_most;
      depth_least = h.depth_least;
      in_time = never-fall-push 0 steps (Submit counter e) counter h.in_time (omega arith);
      standing = h.standing ∙ sym (lanes_after-unplaced lanes depth old n counter counter e v un) ∙ ap (λ (j : List Judged). lanes_after lanes depth j counter) grows;
      put_out = h.put_out ∙ sym (outputs-same holds new old counter settled) ∙ ap (λ (j : List Judged). outputs holds j counter) grows;
      holds_are = h.holds_are ∙ ap (holds_after holds) (sym (put_out-same holds new old counter settled)) ∙ ap (λ (j : List Judged). holds_after holds (put_out_by holds j counter)) grows;
      log = subst (λ (j : List Judged). TellsLog (logged holds j counter) log.lines) grows tells;
      lines = adds ∙ ap (λ (ls : List LogLine). ls ++ lines_of_step old (Submitted n counter e v)) h.lines
          ∙ sym (lines-unplaced holds old n counter e v un) ∙ ap (λ (j : List Judged). log_lines holds j counter) grows;
      peaks = h.peaks ∙ sym (peaks-unplaced lanes old n counter e v un) ∙ ap (peaks_of lanes) grows;
      number = next ∙ ap (λ (m : ℕ). m + 1) h.number ∙ sym (next-number-submitted old n counter e v) ∙ ap next_number grows;
      greatest = h.greatest ∙ ap greatest_cycle same;
      reached = h.reached ∙ ap (λ (events : List (ℕ × Event)). greatest_cycle (up_to counter events)) same;
      small = h.small;
      next = h.next;
      output_room = h.output_room;
      log_room = room;
      heads = h.heads;
      kept = h.kept;
      collided = h.collided;
      busy = h.busy;
    }

-- it came too late
pub played-missed : (o : Outputs) (holds : List ℕ) (lanes depth : ℕ) (steps : List LaneStep) (counter : ℕ) (e : Event) (number : ℕ) → IsPlayed o holds lanes depth steps counter → cycle_of e ≤ counter → number ≡ o.number + 1 → IsPlayed (record o { number = number }) holds lanes depth (steps ++ Submit counter e ∷ []) counter
played-missed o holds lanes depth steps counter e number h late next =
    let old : List Judged = judged lanes depth steps in
    let n : ℕ = next_number old in
    let yes : nat_le (cycle_of e) counter ≡ true = le-leb (cycle_of e) counter late in
    let is : verdict (lanes_after lanes depth old counter) e counter ≡ Underflow = rw yes refl in
    let same = tells-live holds old (old ++ Submitted n counter e Underflow ∷ []) counter (live-up_to-unplaced old n counter e Underflow counter tt) in
    played-unplaced o holds lanes depth steps counter e Underflow o.log number h is tt next
    (tells-same (logged holds old counter) (logged holds (old ++ Submitted n counter e Underflow ∷ []) counter) o.log.lines h.log
    (out_of_sequence-submitted old n counter e Underflow tt) same.collided same.busy (cleared-submitted old n counter e Underflow))
    (sym (append-nil o.log.lines)) h.log_room

-- the place that was answered says the verdict
pub verdict-lane : (s : LanesState) (e : Event) (v : Verdict) (k : ℕ) → Answers s e v (place.Lane k) → v ≡ Lane k
verdict-lane s e Underflow k h = absurd h
verdict-lane s e (Lane j) k h = cc
verdict-lane s e Sequence k h = absurd (cc)
verdict-lane s e Undecided k h = absurd (cc)

pub verdict-sequence : (s : LanesState) (e : Event) (v : Verdict) (last : ℤ) → Answers s e v (place.Sequence last) → v ≡ Sequence
verdict-sequence s e Underflow last h = absurd h
verdict-sequence s e (Lane j) last h = absurd (cc)
verdict-sequence s e Sequence last h = refl
verdict-sequence s e Undecided last h = absurd (cc)

-- the verdict is the same on the lanes that are kept
verdict-kept : (o : Outputs) (holds : List ℕ) (lanes depth : ℕ) (steps : List LaneStep) (counter : ℕ) (e : Event) (v : Verdict) → IsPlayed o holds lanes depth steps counter → verdict o.lanes e counter ≡ v → verdict (lanes_after lanes depth (judged lanes depth steps) counter) e counter ≡ v
verdict-kept o holds lanes depth steps counter e v h is = ap (λ (s : LanesState). verdict s e counter) (sym h.standing) ∙ is

-- it is out of sequence
pub played-sequence : (o : Outputs) (holds : List ℕ) (left : LanesState) (log : LogState) (number : ℕ) (counter : ℕ) (e : Event) (last : ℤ) (lanes depth : ℕ) (steps : List LaneStep) → IsPlayed o holds lanes depth steps counter → Answers o.lanes e (verdict o.lanes e counter) (place.Sequence last) → left ≡ after_verdict o.lanes o.number e (verdict o.lanes e counter) → log ≡ record { lines = o.log.lines ++ record { kind = kind.Sequence; number = o.number; event = e } ∷ []; room = o.log.room - 1 } → length (held_events o.lanes) + 1 ≤ o.log.room → number ≡ o.number + 1 → IsPlayed (record o { lanes = left; log = log; number = number }) holds lanes depth (steps ++ Submit counter e ∷ []) counter
played-sequence o holds left log number counter e last lanes depth steps h answers after logs room next =
    let old : List Judged = judged lanes depth steps in
    let n : ℕ = next_number old in
    let is : verdict o.lanes e counter ≡ Sequence = verdict-sequence o.lanes e (verdict o.lanes e counter) last answers in
    let unchanged : left ≡ o.lanes = after ∙ ap (after_verdict o.lanes o.number e) is in
    let lines : o.log.lines ++ lines_for kind.Sequence ((n, e) ∷ []) ≡ log.lines =
    ap (λ (m : ℕ). o.log.lines ++ lines_for kind.Sequence ((m, e) ∷ [])) (sym h.number) ∙ sym (ap (λ (l : LogState). l.lines) logs) in
    let rest : length (held_events o.lanes) ≤ log.room = rw logs (omega (arith, room)) in
    let same = tells-live holds old (old ++ Submitted n counter e Sequence ∷ []) counter (live-up_to-unplaced old n counter e Sequence counter tt) in
    subst (λ (s : LanesState). IsPlayed (record o { lanes = s; log = log; number = number }) holds lanes depth (steps ++ Submit counter e ∷ []) counter) (sym unchanged)
    (played-unplaced o holds lanes depth steps counter e Sequence log number h (verdict-kept o holds lanes depth steps counter e Sequence h is) tt next
    (subst (TellsLog (logged holds (old ++ Submitted n counter e Sequence ∷ []) counter)) lines
    (tells-sequence (logged holds old counter) (logged holds (old ++ Submitted n counter e Sequence ∷ []) counter) o.log.lines ((n, e) ∷ []) h.log
    (out_of_sequence-more old n counter e) same.collided same.busy (cleared-submitted old n counter e Sequence)))
    (sym lines) rest)

-- the lane of a verdict is one of the lanes
pub lane-below : (o : Outputs) (holds : List ℕ) (counter : ℕ) (e : Event) (k lanes depth : ℕ) (steps : List LaneStep) → IsPlayed o holds lanes depth steps counter → Answers o.lanes e (verdict o.lanes e counter) (place.Lane k) → k < lanes
lane-below o holds counter e k lanes depth steps h answers =
    let is = verdict-kept o holds lanes depth steps counter e (Lane k) h (verdict-lane o.lanes e (verdict o.lanes e counter) k answers) in
    subst (IsLaneBelow lanes) is (verdict-among lanes depth (judged lanes depth steps) counter e (among lanes depth steps h.lanes_least))

-- a lane took it
pub played-accepted : (o : Outputs) (holds : List ℕ) (left : LanesState) (peaks : Vec ℕ Global) (held peak greatest next_then number counter : ℕ) (e : Event) (k lanes depth : ℕ) (steps : List LaneStep) → IsPlayed o holds lanes depth steps counter → counter < cycle_of e → Answers o.lanes e (verdict o.lanes e counter) (place.Lane k) → left ≡ after_verdict o.lanes o.number e (verdict o.lanes e counter) → held ≡ length (lane_at left k).held → peak ≡ max (get_or o.peaks.items k 0) held → peaks.items ≡ set o.peaks.items k peak → greatest ≡ max o.greatest (cycle_of e) → next_then ≡ min o.next (cycle_of e) → cycle_of e < 2 ^ 60 → number ≡ o.number + 1 → length (held_events o.lanes) + 1 ≤ o.log.room → vec_len o.put_out + length (held_events o.lanes) + 1 ≤ vec_capacity o.put_out → IsPlayed (record o { lanes = left; peaks = peaks; greatest = greatest; next = next_then; number = number }) holds lanes depth (steps ++ Submit counter e ∷ []) counter
played-accepted o holds left peaks held peak greatest next_then number counter e k lanes depth steps h later answers after counts tops sets grew sooner low next line room =
    let old : List Judged = judged lanes depth steps in
    let n : ℕ = next_number old in
    let is : verdict o.lanes e counter ≡ Lane k = verdict-lane o.lanes e (verdict o.lanes e counter) k answers in
    let new : List Judged = old ++ Submitted n counter e (Lane k) ∷ [] in
    let grows : new ≡ judged lanes depth (steps ++ Submit counter e ∷ []) = sym (grown lanes depth steps counter e (Lane k) (verdict-kept o holds lanes depth steps counter e (Lane k) h is)) in
    let below : k < lanes = lane-below o holds counter e k lanes depth steps h answers in
    let stood : left ≡ with_accepted o.lanes k o.number e = after ∙ ap (after_verdict o.lanes o.number e) is in
    let stands : left ≡ lanes_after lanes depth new counter =
    stood ∙ ap (λ (s : LanesState). with_accepted s k o.number e) h.standing ∙ ap (λ (m : ℕ). with_accepted (lanes_after lanes depth old counter) k m e) h.number
    ∙ sym (lanes_after-accepted lanes depth old n counter counter e k below later) in
    let many : length o.lanes.lanes ≡ lanes = ap (λ (s : LanesState). length s.lanes) h.standing ∙ length-lanes_after lanes depth old counter in
    let one_more : length (held_events left) ≡ length (held_events o.lanes) + 1 =
    ap (λ (s : LanesState). length (held_events s)) stood ∙ length-held-accepted o.lanes k o.number e (subst (λ (m : ℕ). k < m) (sym many) below) in
    let events : live new ≡ live old ++ (n, e) ∷ [] = live-accepted old n counter e k in
    let settled : up_to counter (live new) ≡ up_to counter (live old) = live-up_to-accepted old n counter e k counter later in
    let same = tells-live holds old new counter settled in
    let topped : set o.peaks.items k peak ≡ peaks_of lanes new =
    ap (λ (p : ℕ). set o.peaks.items k p) (tops ∙ ap (max (get_or o.peaks.items k 0)) (counts ∙ ap (λ (s : LanesState). length (lane_at s k).held) stands))
    ∙ ap (λ (ps : List ℕ). set ps k (max (get_or ps k 0) (length (lane_at (lanes_after lanes depth new counter) k).held))) h.peaks
    ∙ sym (peaks-accepted lanes depth old n counter e k below) in
    record {
      lanes_least = h.lanes_least;
      lanes_most = h.lanes_most;
      depth_least = h.depth_least;
      in_time = never-fall-push 0 steps (Submit counter e) counter h.in_time (omega arith);
      standing = stands ∙ ap (λ (j : List Judged). lanes_after lanes depth j counter) grows;
      put_out = h.put_out ∙ sym (outputs-same holds new old counter settled) ∙ ap (λ (j : List Judged). outputs holds j counter) grows;
      holds_are = h.holds_are ∙ ap (holds_after holds) (sym (put_out-same holds new old counter settled)) ∙ ap (λ (j : List Judged). holds_after holds (put_out_by holds j counter)) grows;
      log = subst (λ (j : List Judged). TellsLog (logged holds j counter) o.log.lines) grows
          (tells-same (logged holds old counter) (logged holds new counter) o.log.lines h.log
          (out_of_sequence-submitted old n counter e (Lane k) tt) same.collided same.busy (cleared-submitted old n counter e (Lane k)));
      lines = h.lines ∙ sym (lines-accepted holds old n counter e k later) ∙ ap (λ (j : List Judged). log_lines holds j counter) grows;
      peaks = sets ∙ topped ∙ ap (peaks_of lanes) grows;
      number = next ∙ ap (λ (m : ℕ). m + 1) h.number ∙ sym (next-number-submitted old n counter e (Lane k)) ∙ ap next_number grows;
      greatest = grew ∙ ap (λ (m : ℕ). max m (cycle_of e)) h.greatest ∙ sym (greatest-accepted (live old) (n, e)) ∙ ap greatest_cycle (sym events) ∙ ap (λ (j : List Judged). greatest_cycle (live j)) grows;
      reached = h.reached ∙ ap greatest_cycle (sym settled) ∙ ap (λ (j : List Judged). greatest_cycle (up_to counter (live j))) grows;
      small = rw grew (omega (arith, low, h.small));
      next = ap (all_held_from next_then) stood ∙ from-accepted o.lanes k o.number o.next next_then e (subst (λ (m : ℕ). k < m) (sym many) below) h.next (omega (arith, sooner)) (omega (arith, sooner));
      output_room = omega (arith, one_more, room);
      log_room = omega (arith, one_more, line);
      heads = h.heads;
      kept = h.kept;
      collided = h.collided;
      busy = h.busy;
    }

-- and it has a peak
pub peak-below : (o : Outputs) (holds : List ℕ) (counter : ℕ) (e : Event) (k lanes depth : ℕ) (steps : List LaneStep) → IsPlayed o holds lanes depth steps counter → Answers o.lanes e (verdict o.lanes e counter) (place.Lane k) → k < length o.peaks.items
peak-below o holds counter e k lanes depth steps h answers =
    let below : k < lanes = lane-below o holds counter e k lanes depth steps h answers in
    let long : length o.peaks.items ≡ lanes = ap (λ (ps : List ℕ). length ps) h.peaks ∙ length-map-range_with_len (λ j. peak_from j [] (judged lanes depth steps)) 0 lanes in
    omega (arith, below, long)

-- after it was placed there are as many lanes as before
pub lane-left : (o : Outputs) (holds : List ℕ) (left : LanesState) (counter : ℕ) (e : Event) (k lanes depth : ℕ) (steps : List LaneStep) → IsPlayed o holds lanes depth steps counter → Answers o.lanes e (verdict o.lanes e counter) (place.Lane k) → left ≡ after_verdict o.lanes o.number e (verdict o.lanes e counter) → k < length left.lanes
lane-left o holds left counter e k lanes depth steps h answers after =
    let below : k < lanes = lane-below o holds counter e k lanes depth steps h answers in
    let stood : left ≡ with_accepted o.lanes k o.number e = after ∙ ap (after_verdict o.lanes o.number e) (verdict-lane o.lanes e (verdict o.lanes e counter) k answers) in
    let long : length left.lanes ≡ lanes =
    ap (λ (s : LanesState). length s.lanes) stood ∙ length-set o.lanes.lanes k _ ∙ ap (λ (s : LanesState). length s.lanes) h.standing ∙ length-lanes_after lanes depth (judged lanes depth steps) counter in
    omega (arith, below, long)

-- the held events are all later, and have earlier numbers
pub held-are-later : (o : Outputs) (holds : List ℕ) (counter lanes depth : ℕ) (steps : List LaneStep) → IsPlayed o holds lanes depth steps counter → all_held_after counter o.lanes ≡ true
held-are-later o holds counter lanes depth steps h = ap (all_held_after counter) h.standing ∙ held-later lanes depth (judged lanes depth steps) counter

pub number-is-new : (o : Outputs) (holds : List ℕ) (counter lanes depth : ℕ) (steps : List LaneStep) → IsPlayed o holds lanes depth steps counter → is_new_number o.number o.lanes ≡ true
number-is-new o holds counter lanes depth steps h =
    ap (λ (n : ℕ). is_new_number n o.lanes) h.number ∙ ap (is_new_number (next_number (judged lanes depth steps))) h.standing ∙ held-new-number lanes depth steps counter h.lanes_least
