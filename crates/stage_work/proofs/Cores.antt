-- The core of a pipeline after entries of the scheduler, and after a kernel.
use Rattle.std.proofs.Common.{◌≡◌, ◌≢◌, ℕ, zero, suc, List, [], ◌∷◌, ◌++◌, refl, sym, ap, subst, ◌∙◌, append_assoc, append-nil, arith, inl, inr}
use Rattle.std.specs.Prelude.{◌⊎◌, Some, None, map, slice_get, slice_set}
use Rattle.std.specs.List.{All}
use Rattle.std.proofs.lemmas.List.{map-append}
use Rattle.std.proofs.lemmas.List.Elements.{All-append, All-cons, All-nil, filter_map-append}
use Rattle.std.proofs.lemmas.List.Sums.{fold-append}
use Rattle.rtio_core.specs.declared.data.Act.TheVariants.{End, Start}
use Rattle.rtio_core.specs.declared.data.Config.{Config}
use Rattle.rtio_core.specs.declared.data.Entry.{Entry}
use Rattle.rtio_core.specs.declared.data.StartOf.{StartOf}
use Rattle.rtio_core.specs.Core.{CoreState}
use Rattle.rtio_core.specs.Entries.{last_at, last_cursor, open_session}
use Rattle.exp_model.specs.declared.session.Session.{Session}
use Rattle.sched_state.specs.declared.entry.SchedAct.{SchedAct}
use Rattle.sched_state.specs.declared.entry.SchedEntry.{SchedEntry}
use Rattle.sched_core.specs.Booked.{booked_acts}
use Rattle.sched_core.specs.Calls.{entry_of, jumps}
use Rattle.desk_rule.specs.Histories.{acts_of}
use Rattle.desk_rule.proofs.Prefixes.{acts_of-append}
use Rattle.core_session.specs.Sessions.{Answered, asked_entry, entry_of as core_entry_of}
use Rattle.lab_kernels.specs.Kernels.{ArePrompt, KernelRun, entries_until_end, session_entries}
use Rattle.lab_kernels.specs.Runs.{AddsKernel}
use Rattle.lab_ties.proofs.Lasting.{ties-last}
use Rattle.lab_ties.proofs.Tied.{ties-grow}
use Rattle.lab_ties.specs.Acts.{core_acts, sched_acts}
use Rattle.lab_ties.specs.Steps.{IsKernelStep}
use Rattle.lab_ties.specs.Ties.{AreTied, report_of, report_on, reports_of}
use Rattle.stage_work.specs.Serving.{AreServedCores, IsServedCore}

-- ---- entries of the scheduler that report no kernel step of the pipeline

acts-append : (front back : List SchedEntry) → sched_acts 0 (front ++ back) ≡ sched_acts 0 front ++ sched_acts 0 back
acts-append front back =
    ap (acts_of 0) (map-append (λ (entry : SchedEntry). (entry.chair, entry.act)) front back) ∙ acts_of-append 0 (booked_acts front) (booked_acts back)

tied-over : (session : Session) (pipeline : ℕ) (config : Config) (sched more : List SchedEntry) (history : List Entry)
    → reports_of pipeline (sched_acts 0 more) ≡ []
    → AreTied session pipeline config 0 sched (sched_acts 0 sched) history (core_acts 0 history)
    → AreTied session pipeline config 0 (sched ++ more) (sched_acts 0 (sched ++ more)) history (core_acts 0 history)
tied-over session pipeline config sched more history none t =
    let T : List Entry → Type 0 = λ h. AreTied session pipeline config 0 (sched ++ more) (sched_acts 0 sched) h (core_acts 0 history) in
    let u = subst T (append-nil history) (ties-last session pipeline config 0 sched more (sched_acts 0 sched) history [] (core_acts 0 history) t) in
    record {
      done = u.done;
      begun = u.begun;
      told =
          ap (reports_of pipeline) (acts-append sched more)
          ∙ (filter_map-append (report_of pipeline) (sched_acts 0 sched) (sched_acts 0 more)
          ∙ (ap (λ xs. reports_of pipeline (sched_acts 0 sched) ++ xs) none
          ∙ (append-nil (reports_of pipeline (sched_acts 0 sched)) ∙ u.told)));
      right = u.right;
    }

pub core-over : (session : Session) (pipeline : ℕ) (sched more : List SchedEntry) (core : CoreState) → reports_of pipeline (sched_acts 0 more) ≡ []
    → IsServedCore session sched pipeline core → IsServedCore session (sched ++ more) pipeline core
core-over session pipeline sched more core none served = record {
  config = served.config;
  closed = served.closed;
  idle = served.idle;
  steady = served.steady;
  prompt = served.prompt;
  alone = served.alone;
  tied = tied-over session pipeline core.config sched more core.history none served.tied;
}

pub cores-over : (session : Session) (sched more : List SchedEntry) (cores : List CoreState)
    → ((pipeline : ℕ) → reports_of pipeline (sched_acts 0 more) ≡ [])
    → AreServedCores session sched cores → AreServedCores session (sched ++ more) cores
cores-over session sched more cores none served = record {
  count = served.count;
  each = λ pipeline core at. core-over session pipeline sched more core (none pipeline) (served.each pipeline core at);
}

none-jumped : (pipeline : ℕ) (clocks : List ℕ) → reports_of pipeline (sched_acts 0 (jumps 0 clocks)) ≡ []
none-jumped pipeline [] = refl
none-jumped pipeline (clock ∷ clocks) = none-jumped pipeline clocks

-- the clock moved on
pub cores-jumped : (session : Session) (sched : List SchedEntry) (clocks : List ℕ) (cores : List CoreState)
    → AreServedCores session sched cores → AreServedCores session (sched ++ jumps 0 clocks) cores
cores-jumped session sched clocks cores served = cores-over session sched (jumps 0 clocks) cores (λ pipeline. none-jumped pipeline clocks) served

-- ---- a kernel

-- a history that ends with an end has no open session, and the counter of its last entry is that of the end
ended-none : (history : List Entry) (chair : ℕ) (before : List Entry) (k : KernelRun) → open_session (history ++ session_entries chair before k) ≡ None
ended-none history chair before k =
    let last : Entry = core_entry_of chair (End k.how k.cursor k.ended) in
    ap open_session (sym (append_assoc history (entries_until_end chair before k) (last ∷ [])))
    ∙ fold-append _ _ (history ++ entries_until_end chair before k) (last ∷ [])

ended-at : (history : List Entry) (chair : ℕ) (before : List Entry) (k : KernelRun) → last_at (history ++ session_entries chair before k) ≡ k.ended
ended-at history chair before k =
    let last : Entry = core_entry_of chair (End k.how k.cursor k.ended) in
    ap last_at (sym (append_assoc history (entries_until_end chair before k) (last ∷ [])))
    ∙ fold-append _ _ (history ++ entries_until_end chair before k) (last ∷ [])

prompt-append : (before front back : List Entry) → ArePrompt before front → ArePrompt (before ++ front) back → ArePrompt before (front ++ back)
prompt-append before [] back a b = let P : List Entry → Type 0 = λ h. ArePrompt h back in subst P (append-nil before) b
prompt-append before (e ∷ es) back a b =
    let P : List Entry → Type 0 = λ h. ArePrompt h back in
    (a.0, prompt-append (before ++ e ∷ []) es back a.1 (subst P (sym (append_assoc before (e ∷ []) es)) b))

abbrev IsOf : ℕ → Entry → Type 0
IsOf chair entry = entry.chair ≡ chair

asked-own : (chair : ℕ) (asked : List Answered) → All (IsOf chair) (map (asked_entry chair) asked)
asked-own chair [] = All-nil (IsOf chair)
asked-own chair (a ∷ rest) = All-cons (IsOf chair) (asked_entry chair a) (map (asked_entry chair) rest) refl (asked-own chair rest)

-- a session's entries are its chair's
session-own : (chair : ℕ) (before : List Entry) (k : KernelRun) → All (IsOf chair) (session_entries chair before k)
session-own chair before k =
    let first : Entry = core_entry_of chair (Start k.of (last_cursor before) k.started) in
    let last : Entry = core_entry_of chair (End k.how k.cursor k.ended) in
    All-append (IsOf chair) (entries_until_end chair before k) (last ∷ [])
    (All-cons (IsOf chair) first (map (asked_entry chair) k.asked) refl (asked-own chair k.asked))
    (All-cons (IsOf chair) last [] refl (All-nil (IsOf chair)))

tied-kernel : (session : Session) (pipeline : ℕ) (config : Config) (sched : List SchedEntry) (a : SchedAct) (history now : List Entry) (k : KernelRun)
    → reports_of pipeline (a ∷ []) ≡ report_on k ∷ [] → now ≡ history ++ session_entries 0 history k
    → IsKernelStep session config (sched ++ entry_of 0 a ∷ []) pipeline 0 now k
    → AreTied session pipeline config 0 sched (sched_acts 0 sched) history (core_acts 0 history)
    → AreTied session pipeline config 0 (sched ++ entry_of 0 a ∷ []) (sched_acts 0 (sched ++ entry_of 0 a ∷ [])) now (core_acts 0 now)
tied-kernel session pipeline config sched a history now k one is step t =
    let S : List SchedEntry = sched ++ entry_of 0 a ∷ [] in
    let H : List Entry → Type 0 = λ h. AreTied session pipeline config 0 S (sched_acts 0 sched) h (core_acts 0 history) in
    let R : List SchedAct → Type 0 = λ acts. AreTied session pipeline config 0 S acts now (core_acts 0 now) in
    let longer =
    ties-last session pipeline config 0 sched (entry_of 0 a ∷ []) (sched_acts 0 sched) history (session_entries 0 history k) (core_acts 0 history) t in
    subst R (sym (acts-append sched (entry_of 0 a ∷ [])))
    (ties-grow session pipeline config 0 S (sched_acts 0 sched) (a ∷ []) history now k (subst H (sym is) longer) is one step)

-- a kernel ran, and its step was reported
pub core-after-kernel : (session : Session) (pipeline : ℕ) (sched : List SchedEntry) (a : SchedAct) (of : StartOf) (old new : CoreState) (k : KernelRun)
    → reports_of pipeline (a ∷ []) ≡ report_on k ∷ [] → AddsKernel 0 of old new k
    → IsKernelStep session old.config (sched ++ entry_of 0 a ∷ []) pipeline 0 new.history k
    → IsServedCore session sched pipeline old → IsServedCore session (sched ++ entry_of 0 a ∷ []) pipeline new
core-after-kernel session pipeline sched a of old new k one adds step served =
    let S : List SchedEntry = sched ++ entry_of 0 a ∷ [] in
    let P : List Entry → Type 0 = λ h. ArePrompt [] h in
    let A : List Entry → Type 0 = λ h. All (IsOf 0) h in
    let T : Config → Type 0 = λ c. AreTied session pipeline c 0 S (sched_acts 0 S) new.history (core_acts 0 new.history) in
    record {
      config = served.config ∙ ap Some (sym adds.config);
      closed = ap open_session adds.history ∙ ended-none old.history 0 old.history k;
      idle = adds.waiting;
      steady = adds.counter ∙ sym (ap last_at adds.history ∙ ended-at old.history 0 old.history k);
      prompt =
          subst P (sym adds.history)
          (prompt-append [] old.history (session_entries 0 old.history k) served.prompt (adds.prompt served.steady));
      alone = subst A (sym adds.history) (All-append (IsOf 0) old.history (session_entries 0 old.history k) served.alone (session-own 0 old.history k));
      tied = subst T (sym adds.config) (tied-kernel session pipeline old.config sched a old.history new.history k one adds.history step served.tied);
    }

-- ---- one of the cores

-- an item after one was set
pub set-at : {X : Type 0} (xs : List X) (i j : ℕ) (a x : X) → slice_get (slice_set xs i a) j ≡ Some x
    → ((j ≡ i) × (x ≡ a)) ⊎ ((j ≢ i) × (slice_get xs j ≡ Some x))
set-at [] i j a x e = absurd (cc)
set-at (y ∷ ys) zero zero a x e = let is : x ≡ a = cc in inl (refl, is)
set-at (y ∷ ys) zero (suc j) a x e = inr ((λ same. cc), e)
set-at (y ∷ ys) (suc i) zero a x e = inr ((λ same. cc), e)
set-at (y ∷ ys) (suc i) (suc j) a x e = on (set-at ys i j a x e)
  where
    on : ((j ≡ i) × (x ≡ a)) ⊎ ((j ≢ i) × (slice_get ys j ≡ Some x))
        → ((suc j ≡ suc i) × (x ≡ a)) ⊎ ((suc j ≢ suc i) × (slice_get ys j ≡ Some x))
    on (inl here) = inl (ap suc here.0, here.1)
    on (inr there) = inr ((λ same. there.0 (omega (arith, same))), there.1)
