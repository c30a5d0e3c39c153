-- What one cycle more does to what a core keeps of its outputs.
use Rattle.std.proofs.Common.{◌≡◌, ◌+◌, ◌≤◌, ◌<◌, ℕ, zero, suc, true, List, [], ◌∷◌, ◌++◌, length, map, refl, ap, sym, subst, ◌∙◌, arith, append-nil, append_assoc}
use Rattle.std.specs.Prelude.{Vec, filter, nat_eq, not, vec_len, vec_capacity}
use Rattle.std.specs.List.{IsDistinct}
use Rattle.std.specs.Map.{keys_of}
use Rattle.std.specs.declared.alloc.Global.{Global}
use Rattle.rtio_types.specs.declared.event.Event.{Event}
use Rattle.rtio_log.specs.Lines.{LogState}
use Rattle.rtio_log.specs.declared.LogLine.{LogLine}
use Rattle.rtio_log.specs.declared.LogKind.TheVariants as kind
use Rattle.sed_lanes.specs.Calls.{all_held_from, held_at, without}
use Rattle.sed_lanes.specs.Heads.{HeadsState, by_number, is_earlier}
use Rattle.sed_lanes.specs.Judged.{Judged, LaneStep, judged, lanes_after}
use Rattle.sed_lanes.specs.Lanes.{LanesState, held_events}
use Rattle.sed_lanes.specs.Sorting.{sorted}
use Rattle.sed_lanes.proofs.Drained.{lanes_after-next}
use Rattle.sed_lanes.proofs.Growing.{never-fall-later}
use Rattle.sed_lanes.proofs.HeldByNumber.{held-from, held_at-numbers-distinct, length-held-without}
use Rattle.sed_lanes.proofs.Since.{length-lanes_after}
use Rattle.output_merge.specs.Busy.{busy, is_busy}
use Rattle.output_merge.specs.Groups.{collisions, is_logged_before, keepers}
use Rattle.output_merge.specs.Live.{live}
use Rattle.output_merge.specs.Merge.{are_of_cycle}
use Rattle.output_merge.specs.Outputs.{LogLists, logged, outputs, put_out_by, up_to}
use Rattle.output_merge.specs.Sieve.{HoldsState, IsSieved, holds_after}
use Rattle.output_merge.proofs.Greatest.{greatest-tick-none, greatest-tick-some}
use Rattle.output_merge.proofs.Ticks.{busy-tick, collided-tick, held_at-of_cycle, length-kept, length-sieved, length-sorted, outputs-tick, put_out-tick}
use Rattle.rtio_core.specs.declared.outputs.Outputs.{Outputs}
use Rattle.rtio_core.specs.Lines.{lines_for}
use Rattle.rtio_core.specs.LogOrder.{log_lines}
use Rattle.rtio_core.specs.Played.{IsPlayed}
use Rattle.rtio_core.specs.Told.{TellsLog}
use Rattle.rtio_core.proofs.Quiet.{none-before, same-without}
use Rattle.rtio_core.proofs.LogLines.{tells-busy, tells-collided, tells-same}
use Rattle.rtio_core.proofs.LogOrder.{lines-tick}

-- what a drain and a merge of the next cycle ask
pub record MayDrain (o : Outputs) (counter lanes : ℕ) : Type 0 where
  pub many : length o.lanes.lanes ≤ 32
  pub from : all_held_from (counter + 1) o.lanes ≡ true
  pub of_cycle : are_of_cycle (counter + 1) (held_at (counter + 1) o.lanes) ≡ true
  pub numbers : IsDistinct nat_eq (keys_of (held_at (counter + 1) o.lanes))
  pub few : length (held_at (counter + 1) o.lanes) ≤ length (held_events o.lanes)

pub may-drain : (o : Outputs) (holds : List ℕ) (counter lanes depth : ℕ) (steps : List LaneStep) → IsPlayed o holds lanes depth steps counter → MayDrain o counter lanes
may-drain o holds counter lanes depth steps h =
    let old : List Judged = judged lanes depth steps in
    let back = sym h.standing in
    let long : length o.lanes.lanes ≡ lanes = ap (λ (s : LanesState). length s.lanes) h.standing ∙ length-lanes_after lanes depth old counter in
    let parts = length-held-without (counter + 1) o.lanes in
    record {
      many = omega (arith, long, h.lanes_most);
      from = subst (λ (s : LanesState). all_held_from (counter + 1) s ≡ true) back (held-from lanes depth old counter);
      of_cycle = held_at-of_cycle (counter + 1) o.lanes;
      numbers = subst (λ (s : LanesState). IsDistinct nat_eq (keys_of (held_at (counter + 1) s))) back (held_at-numbers-distinct lanes depth steps counter (counter + 1) h.lanes_least);
      few = omega (arith, parts);
    }

-- no more are drained than are held
pub drained-few : (o : Outputs) (holds : List ℕ) (drained : List (ℕ × Event)) (counter lanes depth : ℕ) (steps : List LaneStep) → IsPlayed o holds lanes depth steps counter → drained ≡ held_at (counter + 1) o.lanes → length drained ≤ length (held_events o.lanes)
drained-few o holds drained counter lanes depth steps h moved =
    let few = (may-drain o holds counter lanes depth steps h).few in
    let same : length drained ≡ length (held_at (counter + 1) o.lanes) = ap (λ (ps : List (ℕ × Event)). length ps) moved in
    omega (arith, few, same)

none-there : {X : Type 0} (xs : List X) → length xs ≡ 0 → xs ≡ []
none-there [] h = refl
none-there (x ∷ xs) h = absurd (omega (arith, h))

-- the drained events are held no more
stands-next : (o : Outputs) (holds : List ℕ) (left : LanesState) (counter lanes depth : ℕ) (steps : List LaneStep) → IsPlayed o holds lanes depth steps counter → left ≡ without (counter + 1) o.lanes → left ≡ lanes_after lanes depth (judged lanes depth steps) (counter + 1)
stands-next o holds left counter lanes depth steps h after = after ∙ ap (without (counter + 1)) h.standing ∙ lanes_after-next lanes depth (judged lanes depth steps) counter

held-left : (o : Outputs) (left : LanesState) (counter : ℕ) (drained : List (ℕ × Event)) → left ≡ without (counter + 1) o.lanes → drained ≡ held_at (counter + 1) o.lanes → length (held_events left) + length drained ≡ length (held_events o.lanes)
held-left o left counter drained after moved =
    ap (λ (s : LanesState). length (held_events s) + length drained) after
    ∙ ap (λ (ds : List (ℕ × Event)). length (held_events (without (counter + 1) o.lanes)) + length ds) moved
    ∙ length-held-without (counter + 1) o.lanes

-- there was no event of the cycle
pub played-idle : (o : Outputs) (holds : List ℕ) (left : LanesState) (heads : HeadsState) (next counter lanes depth : ℕ) (steps : List LaneStep) → IsPlayed o holds lanes depth steps counter → left ≡ without (counter + 1) o.lanes → heads.items ≡ held_at (counter + 1) o.lanes → heads.room + length heads.items ≡ o.heads.room → length heads.items ≡ 0 → all_held_from next left ≡ true → IsPlayed (record o { lanes = left; heads = heads; next = next }) holds lanes depth steps (counter + 1)
played-idle o holds left heads next counter lanes depth steps h after moved space none from =
    let old : List Judged = judged lanes depth steps in
    let out : List (ℕ × Event) = put_out_by holds old counter in
    let empty : heads.items ≡ [] = none-there heads.items none in
    let nothing : held_at (counter + 1) (lanes_after lanes depth old counter) ≡ [] = ap (held_at (counter + 1)) (sym h.standing) ∙ sym moved ∙ empty in
    let fewer = held-left o left counter heads.items after moved in
    let room : heads.room ≡ 32 = let had : o.heads.room ≡ 32 = ap (λ (x : HeadsState). x.room) h.heads in omega (arith, space, none, had) in
    record {
      lanes_least = h.lanes_least;
      lanes_most = h.lanes_most;
      depth_least = h.depth_least;
      in_time = never-fall-later 0 steps counter (counter + 1) h.in_time (omega arith);
      standing = stands-next o holds left counter lanes depth steps h after;
      put_out = h.put_out ∙ sym (outputs-tick holds lanes depth steps counter h.lanes_least h.in_time
          ∙ ap (λ (ds : List (ℕ × Event)). outputs holds old counter ++ map (λ p. p.1) (filter (λ p. not (is_busy holds out p)) (keepers (by_number ds)))) nothing ∙ append-nil _);
      holds_are = h.holds_are ∙ ap (holds_after holds) (sym (put_out-tick holds lanes depth steps counter h.lanes_least h.in_time
          ∙ ap (λ (ds : List (ℕ × Event)). out ++ filter (λ p. not (is_busy holds out p)) (keepers (by_number ds))) nothing ∙ append-nil _));
      log = tells-same (logged holds old counter) (logged holds old (counter + 1)) o.log.lines h.log refl
          (collided-tick lanes depth steps counter h.lanes_least h.in_time
          ∙ ap (λ (ds : List (ℕ × Event)). up_to counter (collisions (live old)) ++ collisions (by_number ds)) nothing ∙ append-nil _)
          (busy-tick holds lanes depth steps counter h.lanes_least h.in_time
          ∙ ap (λ (ds : List (ℕ × Event)). up_to counter (busy holds (keepers (live old))) ++ sorted is_logged_before (filter (λ p. is_busy holds out p) (keepers (by_number ds)))) nothing ∙ append-nil _)
          refl;
      lines = h.lines ∙ sym (lines-tick holds lanes depth steps counter h.lanes_least h.in_time
          ∙ ap (λ (ds : List (ℕ × Event)). log_lines holds old counter ++ (lines_for kind.Collision (collisions (by_number ds)) ++ lines_for kind.Busy (sorted is_logged_before (filter (λ p. is_busy holds out p) (keepers (by_number ds)))))) nothing ∙ append-nil _);
      peaks = h.peaks;
      number = h.number;
      greatest = h.greatest;
      reached = h.reached ∙ sym (greatest-tick-none lanes depth steps counter h.lanes_least h.in_time nothing);
      small = h.small;
      next = from;
      output_room = omega (arith, fewer, h.output_room);
      log_room = omega (arith, fewer, h.log_room);
      heads = ap (λ (ps : List (ℕ × Event)). record { items = ps; room = heads.room }) empty ∙ ap (λ (n : ℕ). record { items = []; room = n }) room;
      kept = h.kept;
      collided = h.collided;
      busy = h.busy;
    }

-- nothing is held of the next cycle
pub played-still : (o : Outputs) (holds : List ℕ) (counter lanes depth : ℕ) (steps : List LaneStep) → IsPlayed o holds lanes depth steps counter → counter + 1 < o.next → IsPlayed o holds lanes depth steps (counter + 1)
played-still o holds counter lanes depth steps h lt =
    let none : held_at (counter + 1) o.lanes ≡ [] = none-before o.lanes o.next (counter + 1) lt h.next in
    let same : without (counter + 1) o.lanes ≡ o.lanes = same-without o.lanes o.next (counter + 1) lt h.next in
    let no_heads : o.heads.items ≡ [] = ap (λ (x : HeadsState). x.items) h.heads in
    let no_length : length o.heads.items ≡ 0 = ap (λ (ps : List (ℕ × Event)). length ps) no_heads in
    subst (λ (s : LanesState). IsPlayed (record o { lanes = s }) holds lanes depth steps (counter + 1)) same
    (played-idle o holds (without (counter + 1) o.lanes) o.heads o.next counter lanes depth steps h refl (no_heads ∙ sym none) (omega (arith, no_length)) no_length
    (ap (all_held_from o.next) same ∙ h.next))

-- nor of so many
pub played-quiet : (o : Outputs) (holds : List ℕ) (more counter lanes depth : ℕ) (steps : List LaneStep) → IsPlayed o holds lanes depth steps counter → counter + more < o.next → IsPlayed o holds lanes depth steps (counter + more)
played-quiet o holds zero counter lanes depth steps h lt =
    let same : counter ≡ counter + 0 = omega arith in
    subst (IsPlayed o holds lanes depth steps) same h
played-quiet o holds (suc more) counter lanes depth steps h lt =
    let same : counter + 1 + more ≡ counter + suc more = omega arith in
    subst (IsPlayed o holds lanes depth steps) same
    (played-quiet o holds more (counter + 1) lanes depth steps (played-still o holds counter lanes depth steps h (omega (arith, lt))) (omega (arith, lt)))

-- a merge gives no more than it was given
merged-few : (pairs : List (ℕ × Event)) → length (keepers (by_number pairs)) + length (collisions (by_number pairs)) ≤ length pairs
merged-few pairs = let few = length-kept (by_number pairs) in let same = length-sorted is_earlier pairs in omega (arith, few, same)

-- what the merge of the drained events leaves
pub record IsMerged (o : Outputs) (drained : List (ℕ × Event)) (kept collided : HeadsState) : Type 0 where
  pub keeps : kept.items ≡ o.kept.items ++ keepers (by_number drained)
  pub keeps_room : kept.room + length kept.items ≡ o.kept.room + length o.kept.items
  pub collides : collided.items ≡ o.collided.items ++ collisions (by_number drained)
  pub collides_room : collided.room + length collided.items ≡ o.collided.room + length o.collided.items

-- so it has all that a merge has, and there is room for it
pub record HasMerged (o : Outputs) (drained : List (ℕ × Event)) (kept collided : HeadsState) : Type 0 where
  pub keeps : kept.items ≡ keepers (by_number drained)
  pub keeps_room : kept.room + length kept.items ≡ 32
  pub collides : collided.items ≡ collisions (by_number drained)
  pub collides_room : collided.room + length collided.items ≡ 32
  pub few : length kept.items + length collided.items ≤ length drained

pub has-merged : (o : Outputs) (holds : List ℕ) (drained : List (ℕ × Event)) (kept collided : HeadsState) (counter lanes depth : ℕ) (steps : List LaneStep) → IsPlayed o holds lanes depth steps counter → IsMerged o drained kept collided → HasMerged o drained kept collided
has-merged o holds drained kept collided counter lanes depth steps h m =
    let keeps : kept.items ≡ keepers (by_number drained) = m.keeps ∙ ap (λ (x : HeadsState). x.items ++ keepers (by_number drained)) h.kept in
    let collides : collided.items ≡ collisions (by_number drained) = m.collides ∙ ap (λ (x : HeadsState). x.items ++ collisions (by_number drained)) h.collided in
    let kept_long : length kept.items ≡ length (keepers (by_number drained)) = ap (λ (ps : List (ℕ × Event)). length ps) keeps in
    let collided_long : length collided.items ≡ length (collisions (by_number drained)) = ap (λ (ps : List (ℕ × Event)). length ps) collides in
    let few = merged-few drained in
    record {
      keeps = keeps;
      keeps_room = m.keeps_room ∙ ap (λ (x : HeadsState). x.room + length x.items) h.kept;
      collides = collides;
      collides_room = m.collides_room ∙ ap (λ (x : HeadsState). x.room + length x.items) h.collided;
      few = omega (arith, kept_long, collided_long, few);
    }

-- what the sieve leaves of it, by what was drained
pub record HasSieved (o : Outputs) (holds : List ℕ) (drained out : List (ℕ × Event)) (collided kept_left busy_left : HeadsState) : Type 0 where
  pub stay : kept_left.items ≡ filter (λ p. not (is_busy holds out p)) (keepers (by_number drained))
  pub leave : busy_left.items ≡ sorted is_logged_before (filter (λ p. is_busy holds out p) (keepers (by_number drained)))
  pub few : length kept_left.items + length busy_left.items + length collided.items ≤ length drained

pub has-sieved : (o : Outputs) (holds : List ℕ) (drained : List (ℕ × Event)) (kept collided kept_left busy_left : HeadsState) (holds_left : HoldsState) (counter lanes depth : ℕ) (steps : List LaneStep) → IsPlayed o holds lanes depth steps counter → IsMerged o drained kept collided → IsSieved holds (put_out_by holds (judged lanes depth steps) counter) kept o.busy holds_left kept_left busy_left → HasSieved o holds drained (put_out_by holds (judged lanes depth steps) counter) collided kept_left busy_left
has-sieved o holds drained kept collided kept_left busy_left holds_left counter lanes depth steps h merged s =
    let out : List (ℕ × Event) = put_out_by holds (judged lanes depth steps) counter in
    let m = has-merged o holds drained kept collided counter lanes depth steps h merged in
    let stay : kept_left.items ≡ filter (λ p. not (is_busy holds out p)) (keepers (by_number drained)) = s.stay ∙ ap (filter (λ p. not (is_busy holds out p))) m.keeps in
    let leave : busy_left.items ≡ sorted is_logged_before (filter (λ p. is_busy holds out p) (keepers (by_number drained))) =
    s.leave ∙ ap (λ (x : HeadsState). x.items ++ sorted is_logged_before (filter (λ p. is_busy holds out p) kept.items)) h.busy
    ∙ ap (λ (ps : List (ℕ × Event)). sorted is_logged_before (filter (λ p. is_busy holds out p) ps)) m.keeps in
    let kept_long : length kept_left.items ≡ length (filter (λ p. not (is_busy holds out p)) (keepers (by_number drained))) = ap (λ (ps : List (ℕ × Event)). length ps) stay in
    let busy_long : length busy_left.items ≡ length (sorted is_logged_before (filter (λ p. is_busy holds out p) (keepers (by_number drained)))) = ap (λ (ps : List (ℕ × Event)). length ps) leave in
    let both = length-sieved (λ p. is_busy holds out p) (keepers (by_number drained)) in
    let keeper_long : length kept.items ≡ length (keepers (by_number drained)) = ap (λ (ps : List (ℕ × Event)). length ps) m.keeps in
    record { stay = stay; leave = leave; few = omega (arith, kept_long, busy_long, both, keeper_long, m.few) }

full-room : (heads : HeadsState) (room : ℕ) → heads ≡ record { items = []; room = room } → room ≡ 32 → heads ≡ record { items = []; room = 32 }
full-room heads room is full = is ∙ ap (λ (n : ℕ). record { items = []; room = n }) full

-- what the calls of a tick leave: the lanes after the drain, what it drained, what the merge and the sieve made of that, and
-- what was put out and logged
pub record Ticks : Type 0 where
  pub lanes : LanesState
  pub drained : HeadsState
  pub heads : HeadsState
  pub kept : HeadsState
  pub collided : HeadsState
  pub kept_left : HeadsState
  pub busy_left : HeadsState
  pub holds : HoldsState
  pub no_kept : HeadsState
  pub no_collided : HeadsState
  pub no_busy : HeadsState
  pub put_out : Vec Event Global
  pub log_between : LogState
  pub log : LogState
  pub next : ℕ

pub record IsTicked (o : Outputs) (holds : List ℕ) (out : List (ℕ × Event)) (counter : ℕ) (t : Ticks) : Type 0 where
  pub after : t.lanes ≡ without (counter + 1) o.lanes
  pub moved : t.drained.items ≡ held_at (counter + 1) o.lanes
  pub space : t.drained.room + length t.drained.items ≡ o.heads.room
  pub some : 0 < length t.drained.items
  pub no_heads : t.heads ≡ record { items = []; room = t.drained.room + length t.drained.items }
  pub merged : IsMerged o t.drained.items t.kept t.collided
  pub sieved : IsSieved holds out t.kept o.busy t.holds t.kept_left t.busy_left
  pub kept_room : t.kept_left.room + length t.kept_left.items ≡ t.kept.room + length t.kept.items
  pub busy_room : t.busy_left.room + length t.busy_left.items ≡ o.busy.room + length o.busy.items
  pub none_kept : t.no_kept ≡ record { items = []; room = t.kept_left.room + length t.kept_left.items }
  pub puts : t.put_out.items ≡ o.put_out.items ++ map (λ p. p.1) t.kept_left.items
  pub longer : vec_len t.put_out ≡ vec_len o.put_out + length t.kept_left.items
  pub fits : vec_capacity t.put_out ≡ vec_capacity o.put_out
  pub none_collided : t.no_collided ≡ record { items = []; room = t.collided.room + length t.collided.items }
  pub logs : t.log_between.lines ≡ o.log.lines ++ lines_for kind.Collision t.collided.items
  pub shorter : t.log_between.room + length t.collided.items ≡ o.log.room
  pub none_busy : t.no_busy ≡ record { items = []; room = t.busy_left.room + length t.busy_left.items }
  pub logs_more : t.log.lines ≡ t.log_between.lines ++ lines_for kind.Busy t.busy_left.items
  pub shorter_still : t.log.room + length t.busy_left.items ≡ t.log_between.room
  pub next : all_held_from t.next t.lanes ≡ true

-- the outputs with what was put out and logged
abbrev pub ticked : Outputs → Ticks → ℕ → Outputs
ticked o t reached =
    record o {
      lanes = t.lanes;
      heads = t.heads;
      reached = reached;
      kept = t.no_kept;
      collided = t.no_collided;
      busy = t.no_busy;
      holds = t.holds;
      put_out = t.put_out;
      log = t.log;
      next = t.next;
    }

-- its events were put out, or logged as collisions or as busy
pub played-ticked : (o : Outputs) (holds : List ℕ) (t : Ticks) (reached counter lanes depth : ℕ) (steps : List LaneStep) → IsPlayed o holds lanes depth steps counter → IsTicked o holds (put_out_by holds (judged lanes depth steps) counter) counter t → reached ≡ counter + 1 → IsPlayed (ticked o t reached) holds lanes depth steps (counter + 1)
played-ticked o holds t reached counter lanes depth steps h k reaches =
    let old : List Judged = judged lanes depth steps in
    let out : List (ℕ × Event) = put_out_by holds old counter in
    let free : List (ℕ × Event) → List (ℕ × Event) = λ ds. filter (λ p. not (is_busy holds out p)) (keepers (by_number ds)) in
    let held : List (ℕ × Event) → List (ℕ × Event) = λ ds. sorted is_logged_before (filter (λ p. is_busy holds out p) (keepers (by_number ds))) in
    let m = has-merged o holds t.drained.items t.kept t.collided counter lanes depth steps h k.merged in
    let s = has-sieved o holds t.drained.items t.kept t.collided t.kept_left t.busy_left t.holds counter lanes depth steps h k.merged k.sieved in
    let there : t.drained.items ≡ held_at (counter + 1) (lanes_after lanes depth old counter) = k.moved ∙ ap (held_at (counter + 1)) h.standing in
    let fewer = held-left o t.lanes counter t.drained.items k.after k.moved in
    let had : t.drained.room + length t.drained.items ≡ 32 = k.space ∙ ap (λ (x : HeadsState). x.room) h.heads in
    let some_there : 0 < length (held_at (counter + 1) (lanes_after lanes depth old counter)) = subst (λ (ds : List (ℕ × Event)). 0 < length ds) there k.some in
    let stay : t.kept_left.items ≡ free (held_at (counter + 1) (lanes_after lanes depth old counter)) = s.stay ∙ ap free there in
    let leave : t.busy_left.items ≡ held (held_at (counter + 1) (lanes_after lanes depth old counter)) = s.leave ∙ ap held there in
    let collide : t.collided.items ≡ collisions (by_number (held_at (counter + 1) (lanes_after lanes depth old counter))) = m.collides ∙ ap (λ (ds : List (ℕ × Event)). collisions (by_number ds)) there in
    let between : LogLists = record (logged holds old counter) { collided = (logged holds old (counter + 1)).collided } in
    record {
      lanes_least = h.lanes_least;
      lanes_most = h.lanes_most;
      depth_least = h.depth_least;
      in_time = never-fall-later 0 steps counter (counter + 1) h.in_time (omega arith);
      standing = stands-next o holds t.lanes counter lanes depth steps h k.after;
      put_out = k.puts ∙ ap (λ (es : List Event). es ++ map (λ p. p.1) t.kept_left.items) h.put_out
          ∙ ap (λ (ps : List (ℕ × Event)). outputs holds old counter ++ map (λ p. p.1) ps) stay
          ∙ sym (outputs-tick holds lanes depth steps counter h.lanes_least h.in_time);
      holds_are = k.sieved.held ∙ ap (λ (ps : List (ℕ × Event)). holds_after holds (out ++ ps)) stay
          ∙ ap (holds_after holds) (sym (put_out-tick holds lanes depth steps counter h.lanes_least h.in_time));
      log = subst (TellsLog (logged holds old (counter + 1))) (sym k.logs_more)
          (tells-busy between (logged holds old (counter + 1)) t.log_between.lines t.busy_left.items
          (subst (TellsLog between) (sym k.logs)
          (tells-collided (logged holds old counter) between o.log.lines t.collided.items h.log refl
          (collided-tick lanes depth steps counter h.lanes_least h.in_time
          ∙ ap (λ (ps : List (ℕ × Event)). up_to counter (collisions (live old)) ++ ps) (sym collide))
          refl refl))
          refl refl
          (busy-tick holds lanes depth steps counter h.lanes_least h.in_time
          ∙ ap (λ (ps : List (ℕ × Event)). up_to counter (busy holds (keepers (live old))) ++ ps) (sym leave))
          refl);
      lines = k.logs_more ∙ ap (λ (ls : List LogLine). ls ++ lines_for kind.Busy t.busy_left.items) (k.logs ∙ ap (λ (ls : List LogLine). ls ++ lines_for kind.Collision t.collided.items) h.lines)
          ∙ append_assoc (log_lines holds old counter) (lines_for kind.Collision t.collided.items) (lines_for kind.Busy t.busy_left.items)
          ∙ ap (λ (ps : List (ℕ × Event)). log_lines holds old counter ++ (lines_for kind.Collision ps ++ lines_for kind.Busy t.busy_left.items)) collide
          ∙ ap (λ (ps : List (ℕ × Event)). log_lines holds old counter ++ (lines_for kind.Collision (collisions (by_number (held_at (counter + 1) (lanes_after lanes depth old counter)))) ++ lines_for kind.Busy ps)) leave
          ∙ sym (lines-tick holds lanes depth steps counter h.lanes_least h.in_time);
      peaks = h.peaks;
      number = h.number;
      greatest = h.greatest;
      reached = reaches ∙ sym (greatest-tick-some lanes depth steps counter h.lanes_least h.in_time some_there);
      small = h.small;
      next = k.next;
      output_room = omega (arith, fewer, h.output_room, s.few, k.longer, k.fits);
      log_room = omega (arith, fewer, h.log_room, s.few, k.shorter, k.shorter_still);
      heads = full-room t.heads (t.drained.room + length t.drained.items) k.no_heads had;
      kept = full-room t.no_kept (t.kept_left.room + length t.kept_left.items) k.none_kept (k.kept_room ∙ m.keeps_room);
      collided = full-room t.no_collided (t.collided.room + length t.collided.items) k.none_collided m.collides_room;
      busy = full-room t.no_busy (t.busy_left.room + length t.busy_left.items) k.none_busy (k.busy_room ∙ ap (λ (x : HeadsState). x.room + length x.items) h.busy);
    }
