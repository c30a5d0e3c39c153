-- What the invariant says of every lawful history.
use Rattle.std.proofs.Common.{◌≡◌, Bool, true, false, List, [], ◌∷◌, ◌++◌, fold, refl, sym, arith, subst}
use Rattle.std.specs.Prelude.{IsTrue}
use Rattle.std.proofs.lemmas.List.Sums.{fold-append}
use Rattle.exp_runs.specs.declared.run.Run.{Run}
use Rattle.exp_model.specs.declared.session.Session.{Session}
use Rattle.sched_state.specs.declared.entry.SchedEntry.{SchedEntry}
use Rattle.sched_state.specs.State.{SchedState}
use Rattle.sched_state.specs.Arrivals.{opening}
use Rattle.sched_state.specs.Picks.{is_over}
use Rattle.sched_state.specs.Lawful.{after_entry, state_after}
use Rattle.sched_state.proofs.Numbers.{numbered-after}
use Rattle.sched_laws.specs.Ladder.{NeverStuck, RunsAreFew, RunsStay}
use Rattle.sched_laws.proofs.Histories.{sound-after}
use Rattle.sched_laws.proofs.Never.{never-stuck as stuck-never}
use Rattle.sched_laws.proofs.Roomy.{roomy-after}
use Rattle.sched_laws.proofs.Stays.{StayIn, Stays, stays-here, stays-stable}
use Rattle.sched_laws.proofs.Through.{by-act}

pub over : NeverStuck
over session history ok lawful none idle no_date = at (is_over (state_after session history)) refl
  where
    at : (b : Bool) → is_over (state_after session history) ≡ b → IsTrue (is_over (state_after session history))
    at true e = e
    at false e = absurd (stuck-never session (state_after session history) (sound-after session history ok lawful) e none idle no_date)

pub few : RunsAreFew
few session history ok lawful = let most = roomy-after session history ok in omega (arith, most)

stay-from : (session : Session) (old : List Run) (rest : List SchedEntry) (state : SchedState) → Stays old state.runs
    → Stays old (fold (after_entry session) state rest).runs
stay-from session old [] state was = was
stay-from session old (entry ∷ rest) state was =
    stay-from session old rest (after_entry session state entry) (by-act (Stays old) (stays-stable old) session entry.chair entry.act state was)

pub stay : RunsStay
stay session before after rid run there =
    let first : SchedState = state_after session before in
    let all : state_after session (before ++ after) ≡ fold (after_entry session) first after =
    fold-append (after_entry session) (opening session) before after in
    let P : SchedState → Type 0 = λ s. StayIn first.runs s.runs in
    (subst P (sym all) (stay-from session first.runs after first (stays-here first.runs (numbered-after session before))).1) rid run there
