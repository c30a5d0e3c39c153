-- The history of a session, entry by entry.
use Rattle.std.proofs.Common.{◌≡◌, ℕ, List, [], ◌∷◌, ◌++◌, map, sym, subst, append_assoc, append-nil}
use Rattle.std.proofs.lemmas.List.Sums.{fold-append}
use Rattle.std.specs.Prelude.{ℤ}
use Rattle.rtio_core.specs.declared.data.Act.TheVariants.{Start}
use Rattle.rtio_core.specs.declared.data.Config.{Config}
use Rattle.rtio_core.specs.declared.data.Entry.{Entry}
use Rattle.rtio_core.specs.declared.data.StartOf.{StartOf}
use Rattle.rtio_core.specs.Core.{CoreState}
use Rattle.rtio_core.specs.Entries.{act_at, last_at}
use Rattle.core_session.specs.Sessions.{Answered, asked_entry, entry_of}
use Rattle.lab_kernels.specs.Kernels.{AreAskedAtTop, ArePrompt, IsAskedAtTop, IsPrompt}
use Rattle.lab_kernels.specs.Standing.{entries_so_far, history_of}

-- one entry more
pub at-top-push : (config : Config) (before history : List Entry) (entry : Entry) → AreAskedAtTop config before history → IsAskedAtTop config (before ++ history) entry.act → AreAskedAtTop config before (history ++ entry ∷ [])
at-top-push config before [] entry old new = let P : List Entry → Type 0 = λ h. IsAskedAtTop config h entry.act in (subst P (append-nil before) new, tt)
at-top-push config before (e ∷ rest) entry old new =
    let P : List Entry → Type 0 = λ h. IsAskedAtTop config h entry.act in
    (old.0, at-top-push config (before ++ e ∷ []) rest entry old.1 (subst P (sym (append_assoc before (e ∷ []) rest)) new))

-- answered requests are prompt, and so is one prompt entry behind them
prompt-behind : (chair : ℕ) (before : List Entry) (asked : List Answered) (entry : Entry) → IsPrompt (before ++ map (asked_entry chair) asked) entry.act → ArePrompt before (map (asked_entry chair) asked ++ entry ∷ [])
prompt-behind chair before [] entry is = let P : List Entry → Type 0 = λ h. IsPrompt h entry.act in (subst P (append-nil before) is, tt)
prompt-behind chair before (a ∷ asked) entry is =
    let P : List Entry → Type 0 = λ h. IsPrompt h entry.act in
    (tt, prompt-behind chair (before ++ asked_entry chair a ∷ []) asked entry (subst P (sym (append_assoc before (asked_entry chair a ∷ []) (map (asked_entry chair) asked))) is))

-- a session is prompt where its start and its end are
pub prompt-session : (chair : ℕ) (before : CoreState) (of : StartOf) (cursor : ℤ) (asked : List Answered) (entry : Entry) → before.counter ≡ last_at before.history → IsPrompt (history_of chair before of cursor asked) entry.act
    → ArePrompt before.history (entries_so_far chair before of cursor asked ++ entry ∷ [])
prompt-session chair before of cursor asked entry steady is =
    let P : List Entry → Type 0 = λ h. IsPrompt h entry.act in
    (steady, prompt-behind chair (before.history ++ first ∷ []) asked entry (subst P (sym (append_assoc before.history (first ∷ []) (map (asked_entry chair) asked))) is))
  where
    first : Entry
    first = entry_of chair (Start of cursor before.counter)

-- the last entry's counter
pub last-at-push : (h : List Entry) (entry : Entry) → last_at (h ++ entry ∷ []) ≡ act_at entry.act
last-at-push h entry = fold-append _ _ h (entry ∷ [])
