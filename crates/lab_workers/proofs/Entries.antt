-- Histories as desks have them, and in the words of their values.
use Rattle.std.proofs.Common.{◌≡◌, ℕ, List, [], ◌∷◌, ◌++◌, refl, sym, ap, ◌∙◌, append-nil}
use Rattle.std.specs.Prelude.{map}
use Rattle.std.proofs.lemmas.List.{append_cancel_left, map-append}
use mathlib.Core.List.{IsPrefix}
use Rattle.desk_rule.specs.Histories.{acts_of, entries_by}
use Rattle.desk_rule.proofs.Prefixes.{acts_of-append}
use Rattle.rtio_core.specs.declared.data.Act.{Act}
use Rattle.rtio_core.specs.declared.data.Entry.{Entry}
use Rattle.rtio_core.specs.Booked.{booked_acts as booked_core}
use Rattle.sched_state.specs.declared.entry.SchedAct.{SchedAct}
use Rattle.sched_state.specs.declared.entry.SchedEntry.{SchedEntry}
use Rattle.sched_core.specs.Booked.{booked_acts}
use Rattle.sched_core.specs.Calls.{entry_of}
use Rattle.desk_kernels.proofs.Seen.{entries-booked}
use Rattle.desk_kernels.specs.Chairs.{core_entries}
use Rattle.lab_workers.specs.Turns.{goes_on}
use Rattle.lab_workers.specs.Workers.{sched_entries}

-- ---- there and back

pub sched-back : (history : List SchedEntry) → sched_entries (booked_acts history) ≡ history
sched-back [] = refl
sched-back (e ∷ es) = ap (λ (rest : List SchedEntry). e ∷ rest) (sched-back es)

pub sched-there : (seen : List (ℕ × SchedAct)) → booked_acts (sched_entries seen) ≡ seen
sched-there [] = refl
sched-there (e ∷ es) = ap (λ (rest : List (ℕ × SchedAct)). e ∷ rest) (sched-there es)

-- what a chair had seen begins what it finds
pub sched-further : (seen : List (ℕ × SchedAct)) (history : List SchedEntry) → (p : IsPrefix seen (booked_acts history))
    → history ≡ sched_entries seen ++ sched_entries p.0
sched-further seen history p =
    sym (sched-back history)
    ∙ (sym (ap sched_entries p.1) ∙ map-append (λ (e : ℕ × SchedAct). record { chair = e.0; act = e.1 }) seen p.0)

pub core-further : (seen : List (ℕ × Act)) (history : List Entry) → (p : IsPrefix seen (booked_core history))
    → history ≡ core_entries seen ++ core_entries p.0
core-further seen history p =
    sym (entries-booked history)
    ∙ (sym (ap core_entries p.1) ∙ map-append (λ (e : ℕ × Act). record { chair = e.0; act = e.1 }) seen p.0)

-- ---- acts of one chair

pub by-chair : (who : ℕ) (acts : List SchedAct) → booked_acts (map (entry_of who) acts) ≡ entries_by who acts
by-chair who [] = refl
by-chair who (a ∷ acts) = ap (λ (es : List (ℕ × SchedAct)). (who, a) ∷ es) (by-chair who acts)

pub booked-on : (history : List SchedEntry) (who : ℕ) (acts : List SchedAct)
    → booked_acts (goes_on history who acts) ≡ booked_acts history ++ entries_by who acts
booked-on history who acts =
    map-append (λ (entry : SchedEntry). (entry.chair, entry.act)) history (map (entry_of who) acts)
    ∙ ap (λ (es : List (ℕ × SchedAct)). booked_acts history ++ es) (by-chair who acts)

module _ {A : Type 0} where
  -- where a chair has the same acts in a longer history, it has none in what came
  pub none-came : (who : ℕ) (seen rest : List (ℕ × A)) → acts_of who (seen ++ rest) ≡ acts_of who seen → acts_of who rest ≡ []
  none-came who seen rest same =
      append_cancel_left (acts_of who seen) (acts_of who rest) [] (sym (acts_of-append who seen rest) ∙ (same ∙ sym (append-nil (acts_of who seen))))
