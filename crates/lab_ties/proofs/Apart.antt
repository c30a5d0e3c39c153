-- No chair reports a step twice.
use Rattle.std.proofs.Common.{◌≡◌, ℕ, List, [], ◌∷◌, ◌++◌, map, Bool, true, false, refl, sym, ap, subst, ◌∙◌, append_assoc, inl, inr}
use Rattle.std.specs.Prelude.{◌⊎◌, ◌==◌, if◌then◌else◌, Some, None, IsTrue}
use Rattle.std.specs.List.{AllByRecursion, cons_option}
use Rattle.exp_model.specs.declared.session.Session.{Session}
use Rattle.exp_model.specs.Sessions.{is_session}
use Rattle.sched_state.specs.declared.entry.JobName.TheVariants.{Step}
use Rattle.sched_state.specs.declared.entry.SchedAct.{SchedAct}
use Rattle.sched_state.specs.declared.entry.SchedAct.TheVariants as act
use Rattle.sched_state.specs.declared.entry.SchedEntry.{SchedEntry}
use Rattle.sched_state.specs.Lawful.{IsLawful}
use Rattle.sched_laws.specs.Workers.{reported}
use Rattle.sched_laws.proofs.Once.{reported-once}
use Rattle.sched_core.specs.Booked.{booked_acts}
use Rattle.desk_rule.specs.Histories.{act_if, acts_of}
use Rattle.lab_ties.specs.Acts.{sched_acts}
use Rattle.lab_ties.specs.Ties.{Report, reports_of}

-- ---- steps that differ

abbrev pub AreApart : List (ℕ × ℕ) → Type 0
AreApart [] = Unit {0}
AreApart (s ∷ rest) = AllByRecursion (λ (t : ℕ × ℕ). t ≡ s → ⊥) rest × AreApart rest

none-behind : (ys zs : List (ℕ × ℕ)) (s : ℕ × ℕ) → AllByRecursion (λ (t : ℕ × ℕ). t ≡ s → ⊥) (ys ++ s ∷ zs) → ⊥
none-behind [] zs s none = none.0 refl
none-behind (y ∷ ys) zs s none = none-behind ys zs s none.1

pub not-twice : (xs ys zs : List (ℕ × ℕ)) (s : ℕ × ℕ) → AreApart (xs ++ s ∷ (ys ++ s ∷ zs)) → ⊥
not-twice [] ys zs s apart = none-behind ys zs s apart.0
not-twice (x ∷ xs) ys zs s apart = not-twice xs ys zs s apart.1

-- ---- the steps that are reported

abbrev pub reported_step : Report → ℕ × ℕ
reported_step report = (report.rid, report.place)

abbrev pub steps_told : (pipeline : ℕ) → List SchedAct → List (ℕ × ℕ)
steps_told pipeline acts = map reported_step (reports_of pipeline acts)

-- an act reports a step more, or none
abbrev IsMore : SchedAct → (before now : List (ℕ × ℕ)) → Type 0
IsMore what before now = (now ≡ before) ⊎ ((rid : ℕ) × (place : ℕ) × (reported what ≡ Some (Step rid place)) × (now ≡ (rid, place) ∷ before))

more-of : (pipeline : ℕ) (here : Bool) (report : Report) (what : SchedAct) (acts : List SchedAct) → reported what ≡ Some (Step report.rid report.place)
    → IsMore what (steps_told pipeline acts) (map reported_step (cons_option (if here then Some report else None) (reports_of pipeline acts)))
more-of pipeline true report what acts is = inr (report.rid, report.place, is, refl)
more-of pipeline false report what acts is = inl refl

more-by : (pipeline : ℕ) (own : Bool) (what : SchedAct) (acts : List SchedAct) → IsMore what (steps_told pipeline acts) (steps_told pipeline (act_if own what acts))
more-by pipeline false what acts = inl refl
more-by pipeline true (act.Took job) acts = inl refl
more-by pipeline true (act.Prepared rid) acts = inl refl
more-by pipeline true (act.Stepped rid place other clock None word) acts = inl refl
more-by pipeline true (act.Stepped rid place other clock (Some result) word) acts =
    more-of pipeline (other == pipeline) (record { rid = rid; place = place; result = result }) (act.Stepped rid place other clock (Some result) word) acts refl
more-by pipeline true (act.Analyzed rid) acts = inl refl
more-by pipeline true (act.SourceRefused rid) acts = inl refl
more-by pipeline true (act.Jumped clock) acts = inl refl
more-by pipeline true act.Halted acts = inl refl

-- what no entry reports isn't among them
none-told : (pipeline chair rid place : ℕ) (rest : List SchedEntry)
    → AllByRecursion (λ (later : SchedEntry). reported later.act ≡ Some (Step rid place) → ⊥) rest
    → AllByRecursion (λ (t : ℕ × ℕ). t ≡ (rid, place) → ⊥) (steps_told pipeline (sched_acts chair rest))
none-told pipeline chair rid place [] none = tt
none-told pipeline chair rid place (entry ∷ rest) none =
    by (steps_told pipeline (sched_acts chair (entry ∷ rest))) (more-by pipeline (entry.chair == chair) entry.act (acts_of chair (booked_acts rest)))
    (none-told pipeline chair rid place rest none.1)
  where
    None-of : List (ℕ × ℕ) → Type 0
    None-of steps = AllByRecursion (λ (t : ℕ × ℕ). t ≡ (rid, place) → ⊥) steps

    by : (now : List (ℕ × ℕ)) → IsMore entry.act (steps_told pipeline (sched_acts chair rest)) now → None-of (steps_told pipeline (sched_acts chair rest)) → None-of now
    by now (inl same) old = subst None-of (sym same) old
    by now (inr (r, p, is, same)) old = subst None-of (sym same) ((λ e. none.0 (is ∙ ap (λ (t : ℕ × ℕ). Some (Step t.0 t.1)) e)), old)

told-apart-from : (session : Session) (pipeline chair : ℕ) (sched early late : List SchedEntry) → IsTrue (is_session session) → IsLawful session sched → sched ≡ early ++ late
    → AreApart (steps_told pipeline (sched_acts chair late))
told-apart-from session pipeline chair sched early [] ok lawful is = tt
told-apart-from session pipeline chair sched early (entry ∷ late) ok lawful is =
    by (steps_told pipeline (sched_acts chair (entry ∷ late))) (more-by pipeline (entry.chair == chair) entry.act (acts_of chair (booked_acts late)))
    (told-apart-from session pipeline chair sched (early ++ entry ∷ []) late ok lawful (is ∙ sym (append_assoc early (entry ∷ []) late)))
  where
    by : (now : List (ℕ × ℕ)) → IsMore entry.act (steps_told pipeline (sched_acts chair late)) now → AreApart (steps_told pipeline (sched_acts chair late)) → AreApart now
    by now (inl same) old = subst AreApart (sym same) old
    by now (inr (rid, place, told, same)) old =
        subst AreApart (sym same) (
          none-told pipeline chair rid place late
              (reported-once session early late entry (Step rid place) ok (subst (IsLawful session) is lawful) told),
          old,
        )

pub told-apart : (session : Session) (pipeline chair : ℕ) (sched : List SchedEntry) → IsTrue (is_session session) → IsLawful session sched
    → AreApart (steps_told pipeline (sched_acts chair sched))
told-apart session pipeline chair sched ok lawful = told-apart-from session pipeline chair sched [] sched ok lawful refl
