-- The scheduler of one worker after entries of the worker.
use Rattle.std.proofs.Common.{◌≡◌, ℕ, ◌+◌, ◌≤◌, ◌<◌, true, List, [], ◌∷◌, ◌++◌, cond, refl, sym, ap, subst, ◌∙◌, append_assoc, append-nil, arith}
use Rattle.std.specs.Prelude.{Option, Some, None, ◌==◌, count_by, is_some, slice_get}
use Rattle.std.proofs.lemmas.Bool.{eq-eqb}
use Rattle.std.proofs.lemmas.List.Elements.{All-push, All-weaker}
use Rattle.std.proofs.lemmas.List.Sums.{fold-append, sum_by-cons}
use Rattle.exp_model.specs.declared.session.Experiment.{Experiment}
use Rattle.exp_model.specs.declared.session.Session.{Session}
use Rattle.sched_state.specs.declared.entry.Flight.{Flight}
use Rattle.sched_state.specs.declared.entry.JobName.{JobName}
use Rattle.sched_state.specs.declared.entry.JobName.TheVariants as name
use Rattle.sched_state.specs.declared.entry.SchedAct.{SchedAct}
use Rattle.sched_state.specs.declared.entry.SchedAct.TheVariants as act
use Rattle.sched_state.specs.declared.entry.SchedEntry.{SchedEntry}
use Rattle.sched_state.specs.Lawful.{IsLawful, after_act, found_step, halt_by, state_after}
use Rattle.sched_state.specs.Reports.{steps_in}
use Rattle.sched_state.specs.State.{SchedState, rid_of}
use Rattle.sched_laws.specs.Left.{is_report, jobs_left}
use Rattle.sched_laws.specs.Workers.{flying_after, left_flying, reported}
use Rattle.sched_laws.proofs.Arriving.{clock-flying}
use Rattle.sched_laws.proofs.Ends.{stay}
use Rattle.sched_laws.proofs.Flights.{flights-follow}
use Rattle.sched_laws.proofs.Histories.{state-pushed}
use Rattle.sched_laws.proofs.Once.{use-up}
use Rattle.sched_core.specs.declared.answer.Job.{Job}
use Rattle.sched_core.specs.declared.answer.Job.TheVariants as job
use Rattle.sched_core.specs.Calls.{IsJobFor, entry_of, jumped, jumps, name_of, with_entry}
use Rattle.sched_core.specs.Scheds.{IsKitIn, IsSched, SchedValue, found_source, sched_state}
use Rattle.lab_kits.specs.declared.kit.Kit.{Kit}
use Rattle.lab_kits.specs.Kits.{KitCall, KitText, kit_source}
use Rattle.lab_ties.proofs.Lasting.{judgements-last}
use Rattle.lab_ties.specs.Judged.{IsJudged}
use Rattle.stage_work.specs.Jobs.{HasReported, HasTaken, in_flight}
use Rattle.stage_work.specs.Serving.{IsServedSched, jobs_left_at}

-- one entry more, which is no halt
pub pushed-served : (session : Session) (flying now : List Flight) (sched : SchedValue) (a : SchedAct) → IsServedSched session flying sched
    → halt_by None (entry_of 0 a) ≡ None → IsJudged session (sched.history ++ entry_of 0 a ∷ []) a
    → (sched_state (with_entry 0 a sched)).flying ≡ now → IsServedSched session now (with_entry 0 a sched)
pushed-served session flying now sched a served goes judged flies =
    let last : SchedEntry = entry_of 0 a in
    let Old : SchedEntry → Type 0 = λ entry. IsJudged session sched.history entry.act in
    let New : SchedEntry → Type 0 = λ entry. IsJudged session (sched.history ++ last ∷ []) entry.act in
    record {
      session_is = served.session_is;
      flying_is = flies;
      going = fold-append halt_by None sched.history (last ∷ []) ∙ (ap (λ (by : Option ℕ). halt_by by last) served.going ∙ goes);
      alone = All-push (λ (entry : SchedEntry). entry.chair ≡ 0) sched.history last served.alone refl;
      judged =
          All-push New sched.history last
          (All-weaker Old New (λ entry j. judgements-last session sched.history (last ∷ []) entry.act j) sched.history served.judged)
          judged;
    }

-- ---- taking a job

-- the clock moved on
pub jumped-served : (session : Session) (flying : List Flight) (sched : SchedValue) (clocks : List ℕ)
    → IsServedSched session flying sched → IsServedSched session flying (jumped 0 clocks sched)
jumped-served session flying sched [] served =
    let S : List SchedEntry → Type 0 = λ h. IsServedSched session flying (record sched { history = h }) in
    subst S (sym (append-nil sched.history)) served
jumped-served session flying sched (clock ∷ clocks) served =
    let S : List SchedEntry → Type 0 = λ h. IsServedSched session flying (record sched { history = h }) in
    let first : SchedEntry = entry_of 0 (act.Jumped clock) in
    let flies : (sched_state (with_entry 0 (act.Jumped clock) sched)).flying ≡ flying =
    ap (λ (s : SchedState). s.flying) (state-pushed sched.session sched.history first)
    ∙ (clock-flying clock (sched_state sched) ∙ served.flying_is) in
    subst S (append_assoc sched.history (first ∷ []) (jumps 0 clocks))
    (jumped-served session flying (with_entry 0 (act.Jumped clock) sched) clocks
    (pushed-served session flying flying sched (act.Jumped clock) served refl tt flies))

pub took-flies : (session : Session) (chair : ℕ) (taken : JobName) (state : SchedState)
    → (after_act session chair (act.Took taken) state).flying ≡ state.flying ++ record { chair = chair; job = taken } ∷ []
took-flies session chair (name.Prepare rid) state = refl
took-flies session chair (name.Step rid place) state = refl
took-flies session chair (name.Analyze rid) state = refl

-- and a job was taken
pub taken-served : (session : Session) (sched : SchedValue) (taken : JobName) → IsServedSched session [] sched
    → IsServedSched session (in_flight 0 taken ∷ []) (with_entry 0 (act.Took taken) sched)
taken-served session sched taken served =
    pushed-served session [] (in_flight 0 taken ∷ []) sched (act.Took taken) served refl tt
    (ap (λ (s : SchedState). s.flying) (state-pushed sched.session sched.history (entry_of 0 (act.Took taken)))
    ∙ (took-flies sched.session 0 taken (sched_state sched) ∙ ap (λ (fs : List Flight). fs ++ in_flight 0 taken ∷ []) served.flying_is))

-- what belongs to a job lasts in longer histories
pub job-lasts : (session : Session) (history more : List SchedEntry) (j : Job Kit) → IsJobFor kit_source KitText KitCall session (state_after session history) j
    → IsJobFor kit_source KitText KitCall session (state_after session (history ++ more)) j
job-lasts session history more (job.Prepare rid source) (run, found, made) =
    let later = stay session history more rid run found in
    (later.0, later.1, ap (λ (n : ℕ). found_source (slice_get session.experiments n)) later.2 ∙ made)
job-lasts session history more (job.Step rid place pipeline step kit) (run, found, in_pipeline, at, fits) =
    let later = stay session history more rid run found in
    let K : ℕ → Type 0 = λ n. IsKitIn kit_source KitText KitCall session n kit in (
      later.0,
      later.1,
      later.3 ∙ in_pipeline,
      ap (found_step session place) later.1
          ∙ (ap (λ (n : ℕ). slice_get (steps_in (λ (e : Experiment). e.run) (slice_get session.experiments n)) place) later.2
          ∙ (sym (ap (found_step session place) found) ∙ at)),
      subst K (sym later.2) fits,
    )
job-lasts session history more (job.Analyze rid) is = tt

pub has-taken : (session : Session) (sched : SchedValue) (j : Job Kit) → IsServedSched session [] sched
    → IsJobFor kit_source KitText KitCall sched.session (sched_state sched) j → HasTaken 0 j (with_entry 0 (act.Took (name_of j)) sched)
has-taken session sched j served is = record {
  flies = ([], [], (taken-served session sched (name_of j) served).flying_is);
  is = job-lasts sched.session sched.history (entry_of 0 (act.Took (name_of j)) ∷ []) j is;
}

-- ---- reporting it

left-alone : (taken : JobName) → left_flying (Some taken) (in_flight 0 taken ∷ []) ≡ []
left-alone taken = let yes : (rid_of taken == rid_of taken) ≡ true = eq-eqb (rid_of taken) (rid_of taken) refl in rw yes refl

-- the job isn't in flight any more, and nothing else is
lands-alone : (chair : ℕ) (a : SchedAct) (taken : JobName) → reported a ≡ Some taken → flying_after chair a (in_flight 0 taken ∷ []) ≡ []
lands-alone chair (act.Took other) taken e = absurd (cc)
lands-alone chair (act.Prepared rid) taken e = ap (λ (r : Option JobName). left_flying r (in_flight 0 taken ∷ [])) e ∙ left-alone taken
lands-alone chair (act.Stepped rid place pipeline clock result word) taken e =
    ap (λ (r : Option JobName). left_flying r (in_flight 0 taken ∷ [])) e ∙ left-alone taken
lands-alone chair (act.Analyzed rid) taken e = ap (λ (r : Option JobName). left_flying r (in_flight 0 taken ∷ [])) e ∙ left-alone taken
lands-alone chair (act.SourceRefused rid) taken e = ap (λ (r : Option JobName). left_flying r (in_flight 0 taken ∷ [])) e ∙ left-alone taken
lands-alone chair (act.Jumped clock) taken e = absurd (cc)
lands-alone chair act.Halted taken e = absurd (cc)

no-halt : (a : SchedAct) (taken : JobName) → reported a ≡ Some taken → halt_by None (entry_of 0 a) ≡ None
no-halt (act.Took other) taken e = refl
no-halt (act.Prepared rid) taken e = refl
no-halt (act.Stepped rid place pipeline clock result word) taken e = refl
no-halt (act.Analyzed rid) taken e = refl
no-halt (act.SourceRefused rid) taken e = refl
no-halt (act.Jumped clock) taken e = refl
no-halt act.Halted taken e = absurd (cc)

pub reported-served : (session : Session) (taken : JobName) (old new : SchedValue) → IsServedSched session (in_flight 0 taken ∷ []) old
    → HasReported 0 taken old new → IsSched new → IsServedSched session [] new
reported-served session taken old new served r is =
    let S : SchedValue → Type 0 = λ v. IsServedSched session [] v in
    let last : SchedEntry = entry_of 0 r.act in
    let known : IsSched (with_entry 0 r.act old) = subst IsSched r.entry is in
    let flies : (sched_state (with_entry 0 r.act old)).flying ≡ [] =
    flights-follow old.session old.history last known.session known.lawful
    ∙ (ap (flying_after 0 r.act) served.flying_is ∙ lands-alone 0 r.act taken r.reports) in
    let J : Session → Type 0 = λ s. IsJudged s old.history r.act in
    let judged : IsJudged session (old.history ++ last ∷ []) r.act =
    judgements-last session old.history (last ∷ []) r.act (subst J served.session_is r.judged) in
    subst S (sym r.entry) (pushed-served session (in_flight 0 taken ∷ []) [] old r.act served (no-halt r.act taken r.reports) judged flies)

-- ---- the jobs that are left

at-most : (a b c n : ℕ) → a ≡ b → b + n ≤ c → a ≤ c
at-most a b c n same most = omega (arith, same, most)

less-by : (a c n : ℕ) → a + n ≤ c → n ≡ 1 → a < c
less-by a c n most one = omega (arith, most, one)

less-still : (a b c : ℕ) → a < b → b ≤ c → a < c
less-still a b c less most = omega (arith, less, most)

-- taking one adds none
none-added : (sched : SchedValue) (clocks : List ℕ) (taken : JobName) → IsSched (with_entry 0 (act.Took taken) (jumped 0 clocks sched))
    → jobs_left_at (with_entry 0 (act.Took taken) (jumped 0 clocks sched)) ≤ jobs_left_at sched
none-added sched clocks taken is =
    let last : SchedEntry = entry_of 0 (act.Took taken) in
    let more : List SchedEntry = jumps 0 clocks ++ last ∷ [] in
    let same : sched.history ++ jumps 0 clocks ++ last ∷ [] ≡ sched.history ++ more = append_assoc sched.history (jumps 0 clocks) (last ∷ []) in
    let L : List SchedEntry → Type 0 = λ h. IsLawful sched.session h in
    at-most _ _ _ _
    (ap (λ (h : List SchedEntry). jobs_left sched.session (state_after sched.session h)) same)
    (use-up sched.session sched.history more is.session (subst L same is.lawful))

count-one : (a : SchedAct) (taken : JobName) → reported a ≡ Some taken → count_by is_report (entry_of 0 a ∷ []) ≡ 1
count-one a taken e =
    let whole : count_by is_report (entry_of 0 a ∷ []) ≡ cond (is_some (reported a)) 1 0 + count_by is_report [] =
    sum_by-cons (λ (x : SchedEntry). cond (is_report x) 1 0) (entry_of 0 a) [] in
    whole ∙ ap (λ (r : Option JobName). cond (is_some r) 1 0 + count_by is_report []) e

-- reporting it takes one away
one-less : (taken : JobName) (old new : SchedValue) → HasReported 0 taken old new → IsSched new → jobs_left_at new < jobs_left_at old
one-less taken old new r is =
    let known : IsSched (with_entry 0 r.act old) = subst IsSched r.entry is in
    let L : SchedValue → Type 0 = λ v. jobs_left_at v < jobs_left_at old in
    subst L (sym r.entry)
    (less-by _ _ _ (use-up old.session old.history (entry_of 0 r.act ∷ []) known.session known.lawful) (count-one r.act taken r.reports))

pub fewer-left : (sched old new : SchedValue) (clocks : List ℕ) (taken : JobName) → old ≡ with_entry 0 (act.Took taken) (jumped 0 clocks sched)
    → IsSched old → HasReported 0 taken old new → IsSched new → jobs_left_at new < jobs_left_at sched
fewer-left sched old new clocks taken same was r is =
    let M : SchedValue → Type 0 = λ v. jobs_left_at v ≤ jobs_left_at sched in
    let most : jobs_left_at old ≤ jobs_left_at sched = subst M (sym same) (none-added sched clocks taken (subst IsSched same was)) in
    less-still _ _ _ (one-less taken old new r is) most
