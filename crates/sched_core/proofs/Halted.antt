-- A scheduler that is halted.
use Rattle.std.proofs.Common.{◌≡◌, ℕ, List, [], ◌∷◌, ◌++◌, sym, ◌∙◌, ap, subst, append_assoc, append-nil}
use Rattle.std.specs.Prelude.{ℤ, Option, Some, None, Vec}
use Rattle.std.specs.declared.alloc.Global.{Global}
use Rattle.std.proofs.lemmas.List.Sums.{fold-append}
use Rattle.exp_model.specs.declared.session.Session.{Session}
use Rattle.sched_state.specs.declared.entry.SchedAct.TheVariants.{Halted}
use Rattle.sched_state.specs.declared.entry.SchedEntry.{SchedEntry}
use Rattle.sched_core.specs.declared.sched.Sched.TheInside.{Inside}
use Rattle.sched_state.specs.State.{SchedState}
use Rattle.sched_state.specs.Arrivals.{opening}
use Rattle.sched_state.specs.Lawful.{IsLawfulAfter, IsLawful, MayFollow, IfHalted, after_entry, state_after, halted_by, halt_by}
use Rattle.sched_core.specs.Calls.{entry_of}
use Rattle.sched_core.specs.Inside.{AreKits, IsSchedInside}

-- a history stays lawful by an entry that may follow it
pub lawful-push : (session : Session) (before history : List SchedEntry) (entry : SchedEntry) → IsLawfulAfter session before history → MayFollow session (before ++ history) entry → IsLawfulAfter session before (history ++ entry ∷ [])
lawful-push session before [] entry lawful may = let P : List SchedEntry → Type 0 = λ h. MayFollow session h entry in (subst P (append-nil before) may, tt)
lawful-push session before (e ∷ rest) entry lawful may =
    let P : List SchedEntry → Type 0 = λ h. MayFollow session h entry in
    (lawful.0, lawful-push session (before ++ e ∷ []) rest entry lawful.1 (subst P (sym (append_assoc before (e ∷ []) rest)) may))

pub state-push : (session : Session) (history : List SchedEntry) (entry : SchedEntry) → state_after session (history ++ entry ∷ []) ≡ after_entry session (state_after session history) entry
state-push session history entry = fold-append (after_entry session) (opening session) history (entry ∷ [])

halted-push : (history : List SchedEntry) (who : ℕ) → halted_by history ≡ None → halted_by (history ++ entry_of who Halted ∷ []) ≡ Some who
halted-push history who none = fold-append halt_by None history (entry_of who Halted ∷ []) ∙ ap (λ so_far. halt_by so_far (entry_of who Halted)) none

pub halt-keeps : {P : Type 0} (source : P → ℕ) (stands_for : P → List ℕ → Type 0) (has_call : P → List ℕ → List ℤ → Type 0) (a : Inside P) (entries : Vec SchedEntry Global) (who : ℕ)
    → IsSchedInside source stands_for has_call a → a.halted ≡ None → entries.items ≡ a.entries.items ++ entry_of who Halted ∷ []
    → IsSchedInside source stands_for has_call (record { session = a.session; board = a.board; datasets = a.datasets; entries = entries; kits = a.kits; halted = Some who })
halt-keeps source stands_for has_call a entries who was none items =
    let before : halted_by a.entries.items ≡ None = sym was.halted ∙ none in
    let may : MayFollow a.session a.entries.items (entry_of who Halted) = (tt, let P : Option ℕ → Type 0 = λ o. IfHalted o Halted in subst P (sym before) tt) in
    let lawful : IsLawful a.session entries.items = let P : List SchedEntry → Type 0 = λ h. IsLawful a.session h in subst P (sym items) (lawful-push a.session [] a.entries.items (entry_of who Halted) was.lawful may) in
    let same : state_after a.session entries.items ≡ state_after a.session a.entries.items = ap (state_after a.session) items ∙ state-push a.session a.entries.items (entry_of who Halted) in
    let Q : SchedState → Type 0 = λ s. AreKits source stands_for has_call a.session s a.kits.items in
    record {
      session = was.session;
      lawful = lawful;
      taken = was.taken;
      pipelines = was.pipelines;
      state = was.state ∙ sym same;
      kits = subst Q (sym same) was.kits;
      halted = sym (ap halted_by items ∙ halted-push a.entries.items who before);
      room = λ e. absurd (cc);
    }
