-- A scheduler whose clock moved on, and which gave out a job.
use Rattle.std.proofs.Common.{◌≡◌, ℕ, ◌<◌, ◌≤◌, List, [], ◌∷◌, ◌++◌, length, refl, sym, ◌∙◌, ap, subst}
use Rattle.std.specs.Prelude.{ℤ, Option, Some, None, Vec, IsSome, vec_len, vec_capacity}
use Rattle.std.specs.declared.alloc.Global.{Global}
use Rattle.std.proofs.lemmas.List.Sums.{fold-append}
use Rattle.exp_runs.specs.declared.run.Run.{Run}
use Rattle.exp_runs.specs.Keys.{run_of}
use Rattle.exp_model.specs.declared.session.Session.{Session}
use Rattle.dataset_db.specs.Datasets.{Dataset}
use Rattle.sched_state.specs.declared.board.Board.{Board}
use Rattle.sched_state.specs.declared.entry.JobName.{JobName}
use Rattle.sched_state.specs.declared.entry.JobName.TheVariants.{Prepare, Step, Analyze}
use Rattle.sched_state.specs.declared.entry.SchedAct.TheVariants.{Took}
use Rattle.sched_state.specs.declared.entry.SchedEntry.{SchedEntry}
use Rattle.sched_state.specs.State.{SchedState, rid_of}
use Rattle.sched_state.specs.Picks.{pick, taken}
use Rattle.sched_state.specs.Lawful.{IfHalted, IsLawful, MayFollow, halt_by, found_step, halted_by, state_after}
use Rattle.sched_state.specs.Boards.{state_of}
use Rattle.sched_laws.specs.Sound.{IsRunOf, IsSound}
use Rattle.sched_laws.proofs.Histories.{sound-after}
use Rattle.sched_laws.proofs.Stays.{Stays, stays-here, stays-stable}
use Rattle.sched_laws.proofs.Through.{by-act}
use Rattle.sched_laws.proofs.Waiting.{due-waits, taken-waits}
use Rattle.sched_core.specs.declared.sched.Sched.TheInside.{Inside}
use Rattle.exp_model.specs.declared.step.HostStep.{HostStep}
use Rattle.sched_core.specs.declared.answer.Job.TheVariants as given
use Rattle.sched_core.specs.Calls.{HandedOut, HandsOut, IsJobFor, entry_of, jumps}
use Rattle.sched_core.specs.Inside.{AreKits, IsSchedInside}
use Rattle.sched_core.specs.Jumps.{JumpsTo}
use Rattle.sched_core.specs.Scheds.{source_of_run}
use Rattle.sched_core.proofs.Halted.{lawful-push, state-push}
use Rattle.sched_laws.proofs.Lookups.{found-has}
use Rattle.sched_core.proofs.Due.{due-found, due-step, due-within}
use Rattle.sched_core.proofs.Jumping.{jumps-kits, jumps-lawful, jumps-none}
use Rattle.sched_core.proofs.Kits.{kits-given, kits-kept}

module _ {P : Type 0} (source : P → ℕ) (stands_for : P → List ℕ → Type 0) (has_call : P → List ℕ → List ℤ → Type 0) where
  -- where the clocks lead from where the scheduler stands
  abbrev pub There : Inside P → List ℕ → Board → Type 0
  There a clocks board = JumpsTo a.session (state_after a.session a.entries.items) clocks (state_of a.session.arrivals (state_after a.session a.entries.items).datasets board)

  -- memory alone
  pub entries-kept : (a : Inside P) (entries : Vec SchedEntry Global) → IsSchedInside source stands_for has_call a → entries.items ≡ a.entries.items → (a.halted ≡ None → vec_len entries < vec_capacity entries)
      → IsSchedInside source stands_for has_call (record { session = a.session; board = a.board; datasets = a.datasets; entries = entries; kits = a.kits; halted = a.halted })
  entries-kept a entries was items room =
      let L : List SchedEntry → Type 0 = λ h. IsLawful a.session h in
      let K : SchedState → Type 0 = λ s. AreKits source stands_for has_call a.session s a.kits.items in
      record {
        session = was.session;
        lawful = subst L (sym items) was.lawful;
        taken = was.taken;
        pipelines = was.pipelines;
        state = was.state ∙ sym (ap (state_after a.session) items);
        kits = subst K (sym (ap (state_after a.session) items)) was.kits;
        halted = was.halted ∙ sym (ap halted_by items);
        room = room;
      }

  -- where it stands then is sound
  pub there-sound : (a : Inside P) (board : Board) (clocks : List ℕ) → IsSchedInside source stands_for has_call a → halted_by a.entries.items ≡ None → There a clocks board → IsSound a.session (state_of a.session.arrivals (state_after a.session a.entries.items).datasets board)
  there-sound a board clocks was going there =
      let to : SchedState = state_of a.session.arrivals (state_after a.session a.entries.items).datasets board in
      let jumped = jumps-lawful a.session 0 a.entries.items clocks to was.lawful going there in
      let S : SchedState → Type 0 = λ s. IsSound a.session s in
      subst S jumped.1 (sound-after a.session (a.entries.items ++ jumps 0 clocks) was.session jumped.0)

  pub there-found : (a : Inside P) (board : Board) (clocks : List ℕ) (job : JobName) → IsSchedInside source stands_for has_call a → halted_by a.entries.items ≡ None → There a clocks board → pick a.session (state_of a.session.arrivals (state_after a.session a.entries.items).datasets board) ≡ Some job
      → IsSome (run_of board.runs.runs (rid_of job)) × (rid_of job < 64)
  there-found a board clocks job was going there due =
      let to : SchedState = state_of a.session.arrivals (state_after a.session a.entries.items).datasets board in
      let jumped = jumps-lawful a.session 0 a.entries.items clocks to was.lawful going there in
      let sound = there-sound a board clocks was going there in
      let found = due-found a.session to job sound due in
      let I : Option Run → Type 0 = λ o. IsSome o in
      (subst I (sym found.1) refl, due-within a.session (a.entries.items ++ jumps 0 clocks) to job was.session jumped.1 sound due)

  pub pass-keeps : (a : Inside P) (board : Board) (entries : Vec SchedEntry Global) (who : ℕ) (clocks : List ℕ) → IsSchedInside source stands_for has_call a → halted_by a.entries.items ≡ None → There a clocks board
      → board.taken ≤ length a.session.arrivals → board.runs.pipelines ≡ length a.session.pipelines → entries.items ≡ a.entries.items ++ jumps who clocks → vec_len entries < vec_capacity entries
      → IsSchedInside source stands_for has_call (record { session = a.session; board = board; datasets = a.datasets; entries = entries; kits = a.kits; halted = a.halted })
  pass-keeps a board entries who clocks was going there within pipelines items room =
      let from : SchedState = state_after a.session a.entries.items in
      let to : SchedState = state_of a.session.arrivals from.datasets board in
      let after = jumps-lawful a.session who a.entries.items clocks to was.lawful going there in
      let L : List SchedEntry → Type 0 = λ h. IsLawful a.session h in
      let state : state_after a.session entries.items ≡ to = ap (state_after a.session) items ∙ after.1 in
      let same : a.datasets ≡ from.datasets = ap (λ (s : SchedState). s.datasets) was.state in
      let K : SchedState → Type 0 = λ s. AreKits source stands_for has_call a.session s a.kits.items in
      record {
        session = was.session;
        lawful = subst L (sym items) after.0;
        taken = within;
        pipelines = pipelines;
        state = ap (λ (ds : List Dataset). state_of a.session.arrivals ds board) same ∙ sym state;
        kits = subst K (sym state) (jumps-kits source stands_for has_call a.session clocks from to a.kits.items was.session (sound-after a.session a.entries.items was.session was.lawful) there was.kits);
        halted = was.halted ∙ going ∙ sym (ap halted_by items ∙ after.2);
        room = λ e. room;
      }

  -- the kits, once a job was taken
  taken-kits : (session : Session) (chair : ℕ) (job : JobName) (state : SchedState) (old new : List (Option P)) (out : Option P) → IsSound session state → rid_of job < 64 → HandedOut job old out new → AreKits source stands_for has_call session state old → AreKits source stands_for has_call session (taken chair job state) new
  taken-kits session chair (Step rid place) state old new out sound within handed was =
      let stay = by-act (Stays state.runs) (stays-stable state.runs) session chair (Took (Step rid place)) state (stays-here state.runs sound.numbered) in
      let K : List (Option P) → Type 0 = λ ks. AreKits source stands_for has_call session (taken chair (Step rid place) state) ks in
      subst K (sym handed.1) (kits-given source stands_for has_call session state (taken chair (Step rid place) state) old rid stay.1 (λ x h. taken-waits chair (Step rid place) state x h) was within)
  taken-kits session chair (Prepare rid) state old new out sound within handed was =
      let stay = by-act (Stays state.runs) (stays-stable state.runs) session chair (Took (Prepare rid)) state (stays-here state.runs sound.numbered) in
      let K : List (Option P) → Type 0 = λ ks. AreKits source stands_for has_call session (taken chair (Prepare rid) state) ks in
      subst K (sym handed.1) (kits-kept source stands_for has_call session state (taken chair (Prepare rid) state) old stay.1 (λ x h. (taken-waits chair (Prepare rid) state x h).1) was)
  taken-kits session chair (Analyze rid) state old new out sound within handed was =
      let stay = by-act (Stays state.runs) (stays-stable state.runs) session chair (Took (Analyze rid)) state (stays-here state.runs sound.numbered) in
      let K : List (Option P) → Type 0 = λ ks. AreKits source stands_for has_call session (taken chair (Analyze rid) state) ks in
      subst K (sym handed.1) (kits-kept source stands_for has_call session state (taken chair (Analyze rid) state) old stay.1 (λ x h. (taken-waits chair (Analyze rid) state x h).1) was)

  -- the kit that is handed out is one for the run
  hands-out : (session : Session) (job : JobName) (state : SchedState) (old new : List (Option P)) (out : Option P) → IsSound session state → pick session state ≡ Some job → HandedOut job old out new → AreKits source stands_for has_call session state old → HandsOut source stands_for has_call session state job out
  hands-out session (Step rid place) state old new out sound e handed was =
      let kit = was.there rid (due-waits session state rid place sound e) in
      let is : out ≡ Some kit.0 = cc (handed.0, kit.1) in
      let H : Option P → Type 0 = λ o. HandsOut source stands_for has_call session state (Step rid place) o in
      subst H (sym is) (was.right rid kit.0 kit.1)
  hands-out session (Prepare rid) state old new out sound e handed was = tt
  hands-out session (Analyze rid) state old new out sound e handed was = tt

  pub record Takes (a : Inside P) (board after : Board) (entries : Vec SchedEntry Global) (kits : Vec (Option P) Global) (who : ℕ) (clocks : List ℕ) (job : JobName) (out : Option P) : Type 0 where
    pub inside : IsSchedInside source stands_for has_call (record { session = a.session; board = after; datasets = a.datasets; entries = entries; kits = kits; halted = a.halted })
    pub hands : HandsOut source stands_for has_call a.session (state_of a.session.arrivals (state_after a.session a.entries.items).datasets board) job out

  pub take-keeps : (a : Inside P) (board after : Board) (entries : Vec SchedEntry Global) (kits : Vec (Option P) Global) (who : ℕ) (clocks : List ℕ) (job : JobName) (out : Option P) → IsSchedInside source stands_for has_call a → halted_by a.entries.items ≡ None → There a clocks board
      → pick a.session (state_of a.session.arrivals (state_after a.session a.entries.items).datasets board) ≡ Some job
      → after.taken ≤ length a.session.arrivals → after.runs.pipelines ≡ length a.session.pipelines
      → ((datasets : List Dataset) → state_of a.session.arrivals datasets after ≡ taken who job (state_of a.session.arrivals datasets board))
      → HandedOut job a.kits.items out kits.items
      → entries.items ≡ (a.entries.items ++ jumps who clocks) ++ entry_of who (Took job) ∷ [] → vec_len entries < vec_capacity entries
      → Takes a board after entries kits who clocks job out
  take-keeps a board after entries kits who clocks job out was going there due within pipelines begun handed items room =
      let from : SchedState = state_after a.session a.entries.items in
      let to : SchedState = state_of a.session.arrivals from.datasets board in
      let middle : List SchedEntry = a.entries.items ++ jumps who clocks in
      let jumped = jumps-lawful a.session who a.entries.items clocks to was.lawful going there in
      let entry : SchedEntry = entry_of who (Took job) in
      let D : SchedState → Type 0 = λ s. pick a.session s ≡ Some job in
      let may : MayFollow a.session middle entry = (subst D (sym jumped.1) due, let I : Option ℕ → Type 0 = λ o. IfHalted o (Took job) in subst I (sym jumped.2) tt) in
      let L : List SchedEntry → Type 0 = λ h. IsLawful a.session h in
      let state : state_after a.session entries.items ≡ taken who job to = ap (state_after a.session) items ∙ state-push a.session middle entry ∙ ap (taken who job) jumped.1 in
      let same : a.datasets ≡ from.datasets = ap (λ (s : SchedState). s.datasets) was.state in
      let S : SchedState → Type 0 = λ s. IsSound a.session s in
      let sound : IsSound a.session to = subst S jumped.1 (sound-after a.session middle was.session jumped.0) in
      let has : AreKits source stands_for has_call a.session to a.kits.items = jumps-kits source stands_for has_call a.session clocks from to a.kits.items was.session (sound-after a.session a.entries.items was.session was.lawful) there was.kits in
      let place : rid_of job < 64 = due-within a.session middle to job was.session jumped.1 sound due in
      let K : SchedState → Type 0 = λ s. AreKits source stands_for has_call a.session s kits.items in
      let halted : halted_by entries.items ≡ None = ap halted_by items ∙ fold-append halt_by None middle (entry ∷ []) ∙ ap (λ so_far. halt_by so_far entry) jumped.2 in
      record {
        inside =
            record {
              session = was.session;
              lawful = subst L (sym items) (lawful-push a.session [] middle entry jumped.0 may);
              taken = within;
              pipelines = pipelines;
              state = begun a.datasets ∙ ap (λ (ds : List Dataset). taken who job (state_of a.session.arrivals ds board)) same ∙ sym state;
              kits = subst K (sym state) (taken-kits a.session who job to a.kits.items kits.items out sound place handed has);
              halted = was.halted ∙ going ∙ sym halted;
              room = λ e. room;
            };
        hands = hands-out a.session job to a.kits.items kits.items out sound due handed has;
      }

  -- what goes with a job that is due, where the clock moved on
  pub prepare-for : (a : Inside P) (board : Board) (clocks : List ℕ) (who rid number : ℕ) → IsSchedInside source stands_for has_call a → halted_by a.entries.items ≡ None → There a clocks board
      → pick a.session (state_of a.session.arrivals (state_after a.session a.entries.items).datasets board) ≡ Some (Prepare rid)
      → ((run : Run) → run_of board.runs.runs rid ≡ Some run → run.experiment < length a.session.experiments → source_of_run a.session run ≡ Some number)
      → IsJobFor source stands_for has_call a.session (state_after a.session (a.entries.items ++ jumps who clocks)) (given.Prepare rid number)
  prepare-for a board clocks who rid number was going there due told =
      let to : SchedState = state_of a.session.arrivals (state_after a.session a.entries.items).datasets board in
      let jumped = jumps-lawful a.session who a.entries.items clocks to was.lawful going there in
      let sound = there-sound a board clocks was going there in
      let found = due-found a.session to (Prepare rid) sound due in
      let fits : IsRunOf a.session found.0 = found-has (IsRunOf a.session) to.runs rid found.0 sound.fit found.1 in
      let F : SchedState → Type 0 = λ s. IsJobFor source stands_for has_call a.session s (given.Prepare rid number) in
      subst F (sym jumped.1) (found.0, found.1, told found.0 found.1 fits.experiment)

  pub step-for : (a : Inside P) (board : Board) (clocks : List ℕ) (who rid place pipeline : ℕ) (step : HostStep) (kit : P) → IsSchedInside source stands_for has_call a → halted_by a.entries.items ≡ None → There a clocks board
      → ((run : Run) → run_of board.runs.runs rid ≡ Some run → run.pipeline ≡ pipeline) → found_step a.session place (run_of board.runs.runs rid) ≡ Some step
      → HandsOut source stands_for has_call a.session (state_of a.session.arrivals (state_after a.session a.entries.items).datasets board) (Step rid place) (Some kit)
      → IsJobFor source stands_for has_call a.session (state_after a.session (a.entries.items ++ jumps who clocks)) (given.Step rid place pipeline step kit)
  step-for a board clocks who rid place pipeline step kit was going there own is hands =
      let to : SchedState = state_of a.session.arrivals (state_after a.session a.entries.items).datasets board in
      let jumped = jumps-lawful a.session who a.entries.items clocks to was.lawful going there in
      let F : SchedState → Type 0 = λ s. IsJobFor source stands_for has_call a.session s (given.Step rid place pipeline step kit) in
      subst F (sym jumped.1) (hands.0, hands.1, own hands.0 hands.1, is, hands.2)

  -- and it has its step and its kit
  pub step-there : (a : Inside P) (board : Board) (clocks : List ℕ) (rid place : ℕ) → IsSchedInside source stands_for has_call a → halted_by a.entries.items ≡ None → There a clocks board
      → pick a.session (state_of a.session.arrivals (state_after a.session a.entries.items).datasets board) ≡ Some (Step rid place) → found_step a.session place (run_of board.runs.runs rid) ≡ None → ⊥
  step-there a board clocks rid place was going there due none =
      let step = due-step a.session (state_of a.session.arrivals (state_after a.session a.entries.items).datasets board) rid place (there-sound a board clocks was going there) due in
      cc (step.1, none)

  -- the board stands where the history leads
  pub here-state : (a : Inside P) → IsSchedInside source stands_for has_call a → state_of a.session.arrivals (state_after a.session a.entries.items).datasets a.board ≡ state_after a.session a.entries.items
  here-state a was =
      let same : a.datasets ≡ (state_after a.session a.entries.items).datasets = ap (λ (s : SchedState). s.datasets) was.state in
      ap (λ (ds : List Dataset). state_of a.session.arrivals ds a.board) (sym same) ∙ was.state

  -- the clocks that were looked ahead lead from there
  pub looked-there : (a : Inside P) (board : Board) (clocks : List ℕ) → IsSchedInside source stands_for has_call a → ((ds : List Dataset) → JumpsTo a.session (state_of a.session.arrivals ds a.board) clocks (state_of a.session.arrivals ds board)) → There a clocks board
  looked-there a board clocks was looked =
      let ds : List Dataset = (state_after a.session a.entries.items).datasets in
      let J : SchedState → Type 0 = λ s. JumpsTo a.session s clocks (state_of a.session.arrivals ds board) in
      subst J (here-state a was) (looked ds)

  -- where something is in flight the clock didn't move
  pub looked-busy : (a : Inside P) (board : Board) (clocks : List ℕ) → IsSchedInside source stands_for has_call a → There a clocks board → ((state_of a.session.arrivals (state_after a.session a.entries.items).datasets board).flying ≡ [] → ⊥)
      → state_of a.session.arrivals (state_after a.session a.entries.items).datasets board ≡ state_after a.session a.entries.items
  looked-busy a board clocks was there busy = jumps-none a.session (state_after a.session a.entries.items) (state_of a.session.arrivals (state_after a.session a.entries.items).datasets board) clocks there busy

  -- the entries of the jumps lead there
  pub looked-after : (a : Inside P) (board : Board) (clocks : List ℕ) (who : ℕ) → IsSchedInside source stands_for has_call a → halted_by a.entries.items ≡ None → There a clocks board
      → state_after a.session (a.entries.items ++ jumps who clocks) ≡ state_of a.session.arrivals (state_after a.session a.entries.items).datasets board
  looked-after a board clocks who was going there =
      (jumps-lawful a.session who a.entries.items clocks (state_of a.session.arrivals (state_after a.session a.entries.items).datasets board) was.lawful going there).1
