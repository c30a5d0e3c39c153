-- Cores that stand still between two sessions, below their horizon: nothing is left to be put out.
use Rattle.std.proofs.Common.{◌≡◌, ◌<◌, ◌≤◌, ℕ, List, [], ◌∷◌, false, refl, ap, arith}
use Rattle.std.specs.Prelude.{None, Option, Some, filter, fold, is_some, map, max, min, nat_lt}
use Rattle.std.specs.List.{list_any}
use Rattle.std.proofs.lemmas.Bool.Decides.{nat_tests}
use Rattle.rtio_types.specs.declared.event.Event.{Event}
use Rattle.rtio_types.specs.Time.{cycle_of}
use Rattle.output_merge.specs.Live.{greatest_cycle, live}
use Rattle.rtio_core.specs.Core.{CoreState, core_top}
use Rattle.rtio_core.specs.Entries.{judged_history, last_at, open_session}
use Rattle.sim_report.specs.Pending.{is_beyond, pending_events, pends}

-- ---- events of which none is beyond the counter

abbrev greatest-from : ℕ → List (ℕ × Event) → ℕ
greatest-from start events = fold (λ greatest p. max greatest (cycle_of p.1)) start events

at-least-start : (start : ℕ) (events : List (ℕ × Event)) → start ≤ greatest-from start events
at-least-start start [] = omega arith
at-least-start start (p ∷ rest) = let ih = at-least-start (max start (cycle_of p.1)) rest in omega (arith, ih)

not-beyond : (start counter : ℕ) (p : ℕ × Event) (rest : List (ℕ × Event)) → greatest-from start (p ∷ rest) ≤ counter → nat_lt counter (cycle_of p.1) ≡ false
not-beyond start counter p rest most =
    let least = at-least-start (max start (cycle_of p.1)) rest in
    let within : cycle_of p.1 ≤ counter = omega (arith, least, most) in
    grind (arith, nat_tests, within)

none-beyond : (start counter : ℕ) (events : List (ℕ × Event)) → greatest-from start events ≤ counter → list_any (is_beyond counter) events ≡ false
none-beyond start counter [] most = refl
none-beyond start counter (p ∷ rest) most = rw (not-beyond start counter p rest most) (none-beyond (max start (cycle_of p.1)) counter rest most)

none-kept : (start counter : ℕ) (events : List (ℕ × Event)) → greatest-from start events ≤ counter → filter (is_beyond counter) events ≡ []
none-kept start counter [] most = refl
none-kept start counter (p ∷ rest) most = rw (not-beyond start counter p rest most) (none-kept (max start (cycle_of p.1)) counter rest most)

-- ---- a core that stands still

pub none_of : {X : Type 0} (o : Option X) → is_some o ≡ false → o ≡ None
none_of None is = refl
none_of (Some x) is = absurd (cc)

module _ (core : CoreState) (closed : open_session core.history ≡ None) (stopped : core.counter ≡ core_top core) (below : core.counter < core.config.horizon) where
  reached : greatest_cycle (live (judged_history core.config core.history)) ≤ core.counter
  reached =
      let top : core.counter ≡ min core.config.horizon (max (last_at core.history) (greatest_cycle (live (judged_history core.config core.history)))) = rw closed at stopped in
      omega (arith, top, below)

  pub through_events : pending_events core ≡ []
  through_events = ap (map (λ p. p.1)) (none-kept 0 core.counter (live (judged_history core.config core.history)) reached)

  pub through_none : pends core ≡ false
  through_none = none-beyond 0 core.counter (live (judged_history core.config core.history)) reached
