-- The next date is later than the clock, and one that may come.
use Rattle.std.proofs.Common.{◌≡◌, ℕ, ◌<◌, ◌≤◌, ◌^◌, Bool, true, false, List, [], ◌∷◌, cond, filter, fold, map, refl, subst, arith}
use Rattle.std.specs.Prelude.{Option, Some, None, nat_le, nat_lt, option_map, slice_get}
use Rattle.std.specs.List.{AllByRecursion}
use Rattle.std.proofs.lemmas.Bool.{leb-true, ltb-true}
use Rattle.exp_runs.specs.declared.run.Run.{Run}
use Rattle.exp_runs.specs.Statuses.{is_pending}
use Rattle.exp_model.specs.declared.session.Session.{Session}
use Rattle.exp_model.specs.declared.arrival.Arrival.{Arrival}
use Rattle.exp_model.specs.Sessions.{is_act, sizes_of}
use Rattle.sched_state.specs.State.{SchedState}
use Rattle.sched_state.specs.Picks.{earlier, earliest, next_date, waits_longer}
use Rattle.sched_state.proofs.Openings.{first, second}
use Rattle.sched_laws.specs.Sound.{ComesLater, IsRunOf, IsSound}

abbrev pub IsLater : ℕ → ℕ → Type 0
IsLater clock date = (clock < date) × (date ≤ 2 ^ 62)

abbrev OnDate : ℕ → Option ℕ → Type 0
OnDate clock None = Unit {0}
OnDate clock (Some date) = IsLater clock date

earlier-later : (clock : ℕ) (a b : Option ℕ) → OnDate clock a → OnDate clock b → OnDate clock (earlier a b)
earlier-later clock None b p q = q
earlier-later clock (Some x) None p q = p
earlier-later clock (Some x) (Some y) p q = (omega (arith, p, q), omega (arith, p, q))

earliest-later : (clock : ℕ) (dates : List ℕ) (so_far : Option ℕ) → OnDate clock so_far → AllByRecursion (IsLater clock) dates
    → OnDate clock (fold (λ (o : Option ℕ) (date : ℕ). earlier o (Some date)) so_far dates)
earliest-later clock [] so_far p all = p
earliest-later clock (date ∷ dates) so_far p all =
    earliest-later clock dates (earlier so_far (Some date)) (earlier-later clock so_far (Some date) p all.0) all.1

dues-at : (session : Session) (clock : ℕ) (r : Run) (rest : List Run) (b : Bool) → waits_longer clock r ≡ b → IsRunOf session r
    → AllByRecursion (IsLater clock) (map (λ (x : Run). x.due) rest) → AllByRecursion (IsLater clock) (map (λ (x : Run). x.due) (cond b (r ∷ rest) rest))
dues-at session clock r rest true e fit all = ((ltb-true clock r.due (second (is_pending r.status) (nat_lt clock r.due) e), fit.due), all)
dues-at session clock r rest false e fit all = all

dues-later : (session : Session) (clock : ℕ) (runs : List Run) → AllByRecursion (IsRunOf session) runs
    → AllByRecursion (IsLater clock) (map (λ (r : Run). r.due) (filter (waits_longer clock) runs))
dues-later session clock [] all = tt
dues-later session clock (r ∷ runs) all =
    dues-at session clock r (filter (waits_longer clock) runs) (waits_longer clock r) refl all.0 (dues-later session clock runs all.1)

arrival-later : (session : Session) (clock : ℕ) (arrivals : List Arrival) → AllByRecursion (ComesLater session clock) arrivals
    → OnDate clock (option_map (λ (a : Arrival). a.at) (slice_get arrivals 0))
arrival-later session clock [] all = tt
arrival-later session clock (a ∷ arrivals) all = (all.0.0, leb-true a.at (2 ^ 62) (first (nat_le a.at (2 ^ 62)) (is_act (sizes_of session) a.act) all.0.1))

pub date-later : (session : Session) (state : SchedState) (date : ℕ) → IsSound session state → next_date state ≡ Some date → IsLater state.clock date
date-later session state date was e =
    let on : OnDate state.clock (next_date state) =
    earlier-later state.clock (option_map (λ (a : Arrival). a.at) (slice_get state.arrivals 0))
    (earliest (map (λ (r : Run). r.due) (filter (waits_longer state.clock) state.runs)))
    (arrival-later session state.clock state.arrivals was.later)
    (earliest-later state.clock (map (λ (r : Run). r.due) (filter (waits_longer state.clock) state.runs)) None tt
    (dues-later session state.clock state.runs was.fit)) in
    let P : Option ℕ → Type 0 = λ o. OnDate state.clock o in
    subst P e on
