-- A scheduler as it is kept.
use Rattle.std.specs.Prelude.{◌≡◌, ℕ, ◌≤◌, ◌<◌, List, length, slice_get, true, ℤ}
use Rattle.std.specs.Prelude.{Option, Some, None, IsTrue, vec_len, vec_capacity}
use Rattle.limits.specs.Limits.{most_runs}
use Rattle.exp_runs.specs.declared.run.Run.{Run}
use Rattle.exp_runs.specs.Keys.{run_of}
use Rattle.exp_model.specs.declared.session.Session.{Session}
use Rattle.exp_model.specs.Sessions.{is_session}
use Rattle.sched_state.specs.State.{SchedState}
use Rattle.sched_state.specs.Lawful.{IsLawful, state_after, halted_by}
use Rattle.sched_state.specs.Boards.{state_of}
use Rattle.sched_laws.specs.Waits.{waits}
use Rattle.sched_core.specs.declared.sched.Sched.TheInside.{Inside}
use Rattle.sched_core.specs.Scheds.{SchedValue, IsKitFor}

module _ {P : Type 0} where
  abbrev pub sched_value : Inside P → SchedValue
  sched_value a = record { session = a.session; history = a.entries.items }

  -- the kits of the runs, by number: each is one for its run, and a run that waits for a step has one
  pub record AreKits (source : P → ℕ) (stands_for : P → List ℕ → Type 0) (has_call : P → List ℕ → List ℤ → Type 0)
      (session : Session) (state : SchedState) (kits : List (Option P)) : Type 0 where
    pub count : length kits ≡ most_runs
    pub right : (rid : ℕ) (kit : P) → slice_get kits rid ≡ Some (Some kit) → (run : Run) × (run_of state.runs rid ≡ Some run) × IsKitFor source stands_for has_call session run kit
    pub there : (rid : ℕ) → waits state rid ≡ true → (kit : P) × (slice_get kits rid ≡ Some (Some kit))

  -- the history is lawful, and each part is what it makes of it; there is room for a halt
  pub record IsSchedInside (source : P → ℕ) (stands_for : P → List ℕ → Type 0) (has_call : P → List ℕ → List ℤ → Type 0) (a : Inside P) : Type 0 where
    pub session : IsTrue (is_session a.session)
    pub lawful : IsLawful a.session a.entries.items
    pub taken : a.board.taken ≤ length a.session.arrivals
    pub pipelines : a.board.runs.pipelines ≡ length a.session.pipelines
    pub state : state_of a.session.arrivals a.datasets a.board ≡ state_after a.session a.entries.items
    pub kits : AreKits source stands_for has_call a.session (state_after a.session a.entries.items) a.kits.items
    pub halted : a.halted ≡ halted_by a.entries.items
    pub room : a.halted ≡ None → vec_len a.entries < vec_capacity a.entries
