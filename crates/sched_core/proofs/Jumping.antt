-- The clock moves on, once more or a list of times.
use Rattle.std.proofs.Common.{◌≡◌, ℕ, List, [], ◌∷◌, ◌++◌, sym, ◌∙◌, ap, subst, append_assoc, append-nil}
use Rattle.std.specs.Prelude.{ℤ, Option, Some, None, IsTrue}
use Rattle.std.proofs.lemmas.List.Sums.{fold-append}
use Rattle.exp_model.specs.declared.session.Session.{Session}
use Rattle.exp_model.specs.Sessions.{is_session}
use Rattle.sched_state.specs.declared.entry.SchedAct.TheVariants.{Jumped}
use Rattle.sched_state.specs.declared.entry.SchedEntry.{SchedEntry}
use Rattle.sched_state.specs.State.{SchedState}
use Rattle.sched_state.specs.Arrivals.{at_clock}
use Rattle.sched_state.specs.Picks.{next_date, pick}
use Rattle.sched_state.specs.Lawful.{IfHalted, IsLawful, MayFollow, halt_by, halted_by, state_after}
use Rattle.sched_laws.specs.Sound.{IsSound, not_ahead}
use Rattle.sched_laws.proofs.Arriving.{by-clock as sound-clock, clock-flying}
use Rattle.sched_laws.proofs.Stays.{Stays, stays-here, stays-stable}
use Rattle.sched_laws.proofs.Through.{by-clock as stay-clock}
use Rattle.sched_laws.proofs.Waiting.{clock-waits}
use Rattle.sched_core.specs.Calls.{entry_of, jumps}
use Rattle.sched_core.specs.Inside.{AreKits}
use Rattle.sched_core.specs.Jumps.{JumpsTo}
use Rattle.sched_core.proofs.Halted.{lawful-push, state-push}
use Rattle.sched_core.proofs.Kits.{kits-kept}

-- once more
pub jumps-push : (session : Session) (from to next : SchedState) (clocks : List ℕ) (clock : ℕ) → JumpsTo session from clocks to → pick session to ≡ None → to.flying ≡ [] → next_date to ≡ Some clock → next ≡ at_clock clock to → JumpsTo session from (clocks ++ clock ∷ []) next
jumps-push session from to next [] clock was none idle date e =
    let P : SchedState → Type 0 = λ s. (pick session s ≡ None) × (s.flying ≡ []) × (next_date s ≡ Some clock) × (next ≡ at_clock clock s) in
    subst P was (none, idle, date, e)
jumps-push session from to next (c ∷ clocks) clock was none idle date e = (was.0, was.1, was.2, jumps-push session (at_clock c from) to next clocks clock was.3 none idle date e)

-- what is in flight stays
pub jumps-fly : (session : Session) (from to : SchedState) (clocks : List ℕ) → JumpsTo session from clocks to → to.flying ≡ from.flying
jumps-fly session from to [] was = ap (λ (s : SchedState). s.flying) was
jumps-fly session from to (clock ∷ clocks) was = jumps-fly session (at_clock clock from) to clocks was.3 ∙ clock-flying clock from

-- where something is in flight the clock doesn't move
pub jumps-none : (session : Session) (from to : SchedState) (clocks : List ℕ) → JumpsTo session from clocks to → (to.flying ≡ [] → ⊥) → to ≡ from
jumps-none session from to [] was busy = was
jumps-none session from to (clock ∷ clocks) was busy = absurd (busy (jumps-fly session (at_clock clock from) to clocks was.3 ∙ clock-flying clock from ∙ was.1))

-- the entries are lawful, and lead there
pub jumps-lawful : (session : Session) (who : ℕ) (history : List SchedEntry) (clocks : List ℕ) (to : SchedState) → IsLawful session history → halted_by history ≡ None → JumpsTo session (state_after session history) clocks to
    → IsLawful session (history ++ jumps who clocks) × (state_after session (history ++ jumps who clocks) ≡ to) × (halted_by (history ++ jumps who clocks) ≡ None)
jumps-lawful session who history [] to lawful none was =
    let P : List SchedEntry → Type 0 = λ h. IsLawful session h × (state_after session h ≡ to) × (halted_by h ≡ None) in
    subst P (sym (append-nil history)) (lawful, sym was, none)
jumps-lawful session who history (clock ∷ clocks) to lawful none was =
    let entry : SchedEntry = entry_of who (Jumped clock) in
    let may : MayFollow session history entry = ((was.0, was.1, was.2), let P : Option ℕ → Type 0 = λ o. IfHalted o (Jumped clock) in subst P (sym none) tt) in
    let next : List SchedEntry = history ++ entry ∷ [] in
    let state : state_after session next ≡ at_clock clock (state_after session history) = state-push session history entry in
    let halted : halted_by next ≡ None = fold-append halt_by None history (entry ∷ []) ∙ ap (λ so_far. halt_by so_far entry) none in
    let J : SchedState → Type 0 = λ s. JumpsTo session s clocks to in
    let P : List SchedEntry → Type 0 = λ h. IsLawful session h × (state_after session h ≡ to) × (halted_by h ≡ None) in
    subst P (append_assoc history (entry ∷ []) (jumps who clocks)) (jumps-lawful session who next clocks to (lawful-push session [] history entry lawful may) halted (subst J (sym state) was.3))

module _ {P : Type 0} (source : P → ℕ) (stands_for : P → List ℕ → Type 0) (has_call : P → List ℕ → List ℤ → Type 0) where
  -- and the kits are as they have to be there
  pub jumps-kits : (session : Session) (clocks : List ℕ) (from to : SchedState) (kits : List (Option P)) → IsTrue (is_session session) → IsSound session from → JumpsTo session from clocks to → AreKits source stands_for has_call session from kits → AreKits source stands_for has_call session to kits
  jumps-kits session [] from to kits ok sound was has = let K : SchedState → Type 0 = λ s. AreKits source stands_for has_call session s kits in subst K (sym was) has
  jumps-kits session (clock ∷ clocks) from to kits ok sound was has =
      let stay = stay-clock (Stays from.runs) (stays-stable from.runs) clock from (stays-here from.runs sound.numbered) in
      jumps-kits session clocks (at_clock clock from) to kits ok (sound-clock session not_ahead clock from ok sound) was.3
      (kits-kept source stands_for has_call session from (at_clock clock from) kits stay.1 (clock-waits clock from) has)
