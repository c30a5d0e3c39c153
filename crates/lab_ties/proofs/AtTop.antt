-- Each entry of a finished core lies in a session that was reported, where it stands as late as it may.
use Rattle.std.proofs.Common.{◌≡◌, ℕ, suc, List, [], ◌∷◌, ◌++◌, map, refl, sym, ap, subst, ◌∙◌, append_assoc, append-nil, eq-eqb, arith, inl, inr}
use Rattle.std.specs.Prelude.{◌⊎◌, ℤ, Bool, None, IsTrue}
use Rattle.std.specs.List.{All}
use Rattle.std.proofs.lemmas.List.{append_cancel_left}
use Rattle.std.proofs.lemmas.List.Elements.{filter_map-append}
use Rattle.std.proofs.lemmas.List.Sums.{fold-append}
use Rattle.rtio_core.specs.declared.data.Act.{Act}
use Rattle.rtio_core.specs.declared.data.Act.TheVariants.{Asked, End, Start}
use Rattle.rtio_core.specs.declared.data.Config.{Config}
use Rattle.rtio_core.specs.declared.data.Entry.{Entry}
use Rattle.rtio_core.specs.declared.data.StartOf.{StartOf}
use Rattle.rtio_core.specs.Entries.{last_cursor, open_session}
use Rattle.rtio_core.specs.Lawful.{IsLawfulAfter, MayFollow}
use Rattle.exp_model.specs.declared.session.Session.{Session}
use Rattle.exp_model.specs.Sessions.{is_session}
use Rattle.sched_state.specs.declared.entry.SchedEntry.{SchedEntry}
use Rattle.sched_state.specs.Lawful.{IsLawful}
use Rattle.kern_syntax.specs.Tree.{ProgramTree}
use Rattle.desk_rule.specs.Histories.{act_if}
use Rattle.core_session.specs.Sessions.{asked_entry, entry_of}
use Rattle.lab_kernels.specs.Kernels.{AreAskedAtTop, IsAskedAtTop, KernelRun, session_entries}
use Rattle.lab_ties.proofs.Apart.{AreApart, not-twice, reported_step, told-apart}
use Rattle.lab_ties.proofs.Tied.{acts-append}
use Rattle.lab_ties.specs.Acts.{core_acts, sched_acts}
use Rattle.lab_ties.specs.Laws.{CoresAreAskedAtTop}
use Rattle.lab_ties.specs.Steps.{IsKernelStep, IsSession}
use Rattle.lab_ties.specs.Ties.{AreTied, report_on, step_begun, step_of, steps_begun}

-- ---- the session of a start

abbrev start_entry : ℕ → StartOf → ℤ → ℕ → Entry
start_entry chair of cursor at = entry_of chair (Start of cursor at)

abbrev start_step : StartOf → ℕ × ℕ
start_step of = (of.rid, of.pos)

-- the steps that a chair begins on a core
abbrev begun : ℕ → List Entry → List (ℕ × ℕ)
begun chair history = steps_begun (core_acts chair history)

begun-split : (chair : ℕ) (front back : List Entry) (of : StartOf) (cursor : ℤ) (at : ℕ)
    → begun chair (front ++ start_entry chair of cursor at ∷ back) ≡ begun chair front ++ start_step of ∷ begun chair back
begun-split chair front back of cursor at =
    ap steps_begun (acts-append chair front (start_entry chair of cursor at ∷ back))
    ∙ filter_map-append step_begun (core_acts chair front) (core_acts chair (start_entry chair of cursor at ∷ back))
    ∙ ap (λ (b : Bool). begun chair front ++ steps_begun (act_if b (Start of cursor at) (core_acts chair back))) (eq-eqb chair chair refl)

-- a list that is split at two elements is split at one, or one of them stands behind the other
split-cases : {X : Type 0} (front rest other more : List X) (x y : X) → front ++ x ∷ rest ≡ other ++ y ∷ more
    → (front ≡ other) ⊎ (((m : List X) × (front ≡ other ++ y ∷ m)) ⊎ ((m : List X) × (other ≡ front ++ x ∷ m)))
split-cases [] rest [] more x y is = inl refl
split-cases {X} [] rest (z ∷ other) more x y is =
    let head : x ≡ z = cc in
    inr (inr (other, ap (λ (w : X). w ∷ other) (sym head)))
split-cases {X} (z ∷ front) rest [] more x y is =
    let head : z ≡ y = cc in
    inr (inl (front, ap (λ (w : X). w ∷ front) head))
split-cases {X} (z ∷ front) rest (w ∷ other) more x y is =
    let head : z ≡ w = cc in
    let tail : front ++ x ∷ rest ≡ other ++ y ∷ more = cc in
    behind head (split-cases front rest other more x y tail)
  where
    behind : z ≡ w → (front ≡ other) ⊎ (((m : List X) × (front ≡ other ++ y ∷ m)) ⊎ ((m : List X) × (other ≡ front ++ x ∷ m)))
        → (z ∷ front ≡ w ∷ other) ⊎ (((m : List X) × (z ∷ front ≡ w ∷ (other ++ y ∷ m))) ⊎ ((m : List X) × (w ∷ other ≡ z ∷ (front ++ x ∷ m))))
    behind head (inl same) = inl cc
    behind head (inr (inl (m, same))) = inr (inl (m, cc))
    behind head (inr (inr (m, same))) = inr (inr (m, cc))

-- no step is begun twice where all that are begun differ
begun-once : (chair : ℕ) (front mid back : List Entry) (of other : StartOf) (cursor later : ℤ) (at then : ℕ) → start_step other ≡ start_step of
    → AreApart (begun chair (front ++ start_entry chair of cursor at ∷ (mid ++ start_entry chair other later then ∷ back))) → ⊥
begun-once chair front mid back of other cursor later at then same apart =
    not-twice (begun chair front) (begun chair mid) (begun chair back) (start_step of)
    (subst AreApart (
    begun-split chair front (mid ++ start_entry chair other later then ∷ back) of cursor at
    ∙ ap (λ (l : List (ℕ × ℕ)). begun chair front ++ start_step of ∷ l) (begun-split chair mid back other later then)
    ∙ ap (λ (s : ℕ × ℕ). begun chair front ++ start_step of ∷ (begun chair mid ++ s ∷ begun chair back)) same
    ) apart)

-- two starts of one step are one
one-start : (chair : ℕ) (history front rest other more : List Entry) (of its : StartOf) (cursor later : ℤ) (at then : ℕ) → AreApart (begun chair history)
    → history ≡ front ++ start_entry chair of cursor at ∷ rest → history ≡ other ++ start_entry chair its later then ∷ more
    → start_step its ≡ start_step of → front ≡ other
one-start chair history front rest other more of its cursor later at then apart is stands same =
    by (split-cases front rest other more (start_entry chair of cursor at) (start_entry chair its later then) (sym is ∙ stands))
  where
    by : (front ≡ other) ⊎ (((m : List Entry) × (front ≡ other ++ start_entry chair its later then ∷ m)) ⊎ ((m : List Entry) × (other ≡ front ++ start_entry chair of cursor at ∷ m))) → front ≡ other
    by (inl one) = one
    by (inr (inl (m, behind))) =
        absurd (begun-once chair other m rest its of later cursor then at (sym same) (subst (λ (h : List Entry). AreApart (begun chair h)) (
        is ∙ ap (λ (h : List Entry). h ++ start_entry chair of cursor at ∷ rest) behind
        ∙ append_assoc other (start_entry chair its later then ∷ m) (start_entry chair of cursor at ∷ rest)
        ) apart))
    by (inr (inr (m, behind))) =
        absurd (begun-once chair front m more of its cursor later at then same (subst (λ (h : List Entry). AreApart (begun chair h)) (
        stands ∙ ap (λ (h : List Entry). h ++ start_entry chair its later then ∷ more) behind
        ∙ append_assoc front (start_entry chair of cursor at ∷ m) (start_entry chair its later then ∷ more)
        ) apart))

-- one of the sessions has this step
found-step : (P : KernelRun → Type 0) (done : List KernelRun) (front back : List (ℕ × ℕ)) (s : ℕ × ℕ) → All P done → map step_of done ≡ front ++ s ∷ back
    → (k : KernelRun) × (step_of k ≡ s) × P k
found-step P [] [] back s all is = absurd (cc)
found-step P [] (x ∷ front) back s all is = absurd (cc)
found-step P (k ∷ done) [] back s all is = let head : step_of k ≡ s = cc in (k, head, all 0 k (omega arith))
found-step P (k ∷ done) (x ∷ front) back s all is =
    let tail : map step_of done ≡ front ++ s ∷ back = cc in
    found-step P done front back s (λ n d lt. all (suc n) d (omega (arith, lt))) tail

told-steps : (done : List KernelRun) → map reported_step (map report_on done) ≡ map step_of done
told-steps [] = refl
told-steps (k ∷ done) = ap (λ (l : List (ℕ × ℕ)). step_of k ∷ l) (told-steps done)

-- behind these entries a session stands whose requests were asked as late as they might be
abbrev HasSession : Config → (chair : ℕ) → (before rest : List Entry) → KernelRun → Type 0
HasSession config chair before rest k =
    (after : List Entry) × (rest ≡ session_entries chair before k ++ after) × AreAskedAtTop config before (session_entries chair before k)

-- each start begins one
abbrev StartsSessions : Config → List Entry → Type 0
StartsSessions config history =
    (before rest : List Entry) (chair : ℕ) (of : StartOf) (cursor : ℤ) (at : ℕ) → history ≡ before ++ start_entry chair of cursor at ∷ rest
    → (k : KernelRun) × HasSession config chair before (start_entry chair of cursor at ∷ rest) k

starts-sessions : (session : Session) (pipeline : ℕ) (config : Config) (sched : List SchedEntry) (history : List Entry)
    → IsTrue (is_session session) → IsLawful session sched
    → ((chair : ℕ) → AreTied session pipeline config chair sched (sched_acts chair sched) history (core_acts chair history))
    → StartsSessions config history
starts-sessions session pipeline config sched history ok lawful tied before rest chair of cursor at is =
    let t = tied chair in
    let apart : AreApart (begun chair history) =
    subst AreApart (ap (map reported_step) t.told ∙ told-steps t.done ∙ sym t.begun) (told-apart session pipeline chair sched ok lawful) in
    let split : map step_of t.done ≡ begun chair before ++ start_step of ∷ begun chair rest =
    sym t.begun ∙ ap (begun chair) is ∙ begun-split chair before rest of cursor at in
    let found = found-step (IsKernelStep session config sched pipeline chair history) t.done (begun chair before) (begun chair rest) (start_step of) t.right split in
    (found.0, placed found.2.program found.0 found.2.is_session apart found.1)
  where
    placed : (program : ProgramTree) (k : KernelRun) (one : IsSession session program config chair history k) → AreApart (begun chair history) → step_of k ≡ start_step of
        → HasSession config chair before (start_entry chair of cursor at ∷ rest) k
    placed program k one apart same =
        let own : List Entry = map (asked_entry chair) k.asked ++ entry_of chair (End k.how k.cursor k.ended) ∷ [] in
        let stands : history ≡ one.before ++ start_entry chair k.of (last_cursor one.before) k.started ∷ (own ++ one.after) =
        one.stands ∙ append_assoc one.before (session_entries chair one.before k) one.after in
        let place : before ≡ one.before =
        one-start chair history before rest one.before (own ++ one.after) of k.of cursor (last_cursor one.before) at k.started apart is stands same in
        let H : List Entry → Type 0 = λ b. HasSession config chair b (start_entry chair of cursor at ∷ rest) k in
        subst H (sym place) (
          one.after,
          append_cancel_left one.before _ _
              (ap (λ (b : List Entry). b ++ start_entry chair of cursor at ∷ rest) (sym place) ∙ (sym is ∙ stands)),
          one.at_top,
        )

-- ---- entry by entry

-- the rest of the session that is open behind these entries stands as late as it may; where none is open, there is no rest
record HasRest (config : Config) (before rest : List Entry) : Type 0 where
  front : List Entry
  after : List Entry
  splits : rest ≡ front ++ after
  at_top : AreAskedAtTop config before front
  closed : open_session (before ++ front) ≡ None

-- it has this entry first
record HasNext (config : Config) (before : List Entry) (entry : Entry) (rest : List Entry) : Type 0 where
  here : IsAskedAtTop config before entry.act
  further : HasRest config (before ++ entry ∷ []) rest

-- a session is open no more behind its end
closed-behind : (chair : ℕ) (before : List Entry) (k : KernelRun) → open_session (before ++ session_entries chair before k) ≡ None
closed-behind chair before k =
    let front : List Entry = start_entry chair k.of (last_cursor before) k.started ∷ map (asked_entry chair) k.asked in
    sym (ap open_session (append_assoc before front (entry_of chair (End k.how k.cursor k.ended) ∷ [])))
    ∙ fold-append _ _ (before ++ front) (entry_of chair (End k.how k.cursor k.ended) ∷ [])

session-next : (config : Config) (before rest : List Entry) (chair : ℕ) (first : Entry) (k : KernelRun) → HasSession config chair before (first ∷ rest) k → HasNext config before first rest
session-next config before rest chair first k (after, is, at_top) =
    let start : Entry = start_entry chair k.of (last_cursor before) k.started in
    let more : List Entry = map (asked_entry chair) k.asked ++ entry_of chair (End k.how k.cursor k.ended) ∷ [] in
    let head : first ≡ start = cc in
    let tail : rest ≡ more ++ after = cc in
    let N : Entry → Type 0 = λ e. HasNext config before e rest in
    subst N (sym head) (record {
      here = tt;
      further = record {
        front = more;
        after = after;
        splits = tail;
        at_top = at_top.1;
        closed = ap open_session (append_assoc before (start ∷ []) more) ∙ closed-behind chair before k;
      };
    })

begins : (config : Config) (history : List Entry) → StartsSessions config history → (before rest : List Entry) (chair : ℕ) (act : Act)
    → history ≡ before ++ entry_of chair act ∷ rest → open_session before ≡ None → MayFollow config before chair act → HasNext config before (entry_of chair act) rest
begins config history starts before rest chair (Start of cursor at) is none may =
    let s = starts before rest chair of cursor at is in
    session-next config before rest chair (start_entry chair of cursor at) s.0 s.1
begins config history starts before rest chair (Asked request reply at) is none may = let clash = sym none ∙ may.0.1 in absurd (cc)
begins config history starts before rest chair (End how cursor at) is none may = let clash = sym none ∙ may.0.1 in absurd (cc)

goes-on : (config : Config) (history : List Entry) → StartsSessions config history → (before rest : List Entry) (entry : Entry)
    → history ≡ before ++ entry ∷ rest → MayFollow config before entry.chair entry.act → HasRest config before (entry ∷ rest) → HasNext config before entry rest
goes-on config history starts before rest entry is may r = by r.front r.splits r.at_top r.closed
  where
    by : (front : List Entry) → entry ∷ rest ≡ front ++ r.after → AreAskedAtTop config before front → open_session (before ++ front) ≡ None → HasNext config before entry rest
    by [] splits at_top closed = begins config history starts before rest entry.chair entry.act is (sym (ap open_session (append-nil before)) ∙ closed) may
    by (first ∷ front) splits at_top closed =
        let head : entry ≡ first = cc in
        let tail : rest ≡ front ++ r.after = cc in
        let N : Entry → Type 0 = λ e. HasNext config before e rest in
        subst N (sym head) (record {
          here = at_top.0;
          further = record {
            front = front;
            after = r.after;
            splits = tail;
            at_top = at_top.1;
            closed = ap open_session (append_assoc before (first ∷ []) front) ∙ closed;
          };
        })

at-top-from : (config : Config) (history : List Entry) → StartsSessions config history → (before rest : List Entry) → history ≡ before ++ rest
    → IsLawfulAfter config before rest → HasRest config before rest → AreAskedAtTop config before rest
at-top-from config history starts before [] is lawful r = tt
at-top-from config history starts before (entry ∷ rest) is lawful r =
    let n = goes-on config history starts before rest entry is lawful.0 r in
    (n.here, at-top-from config history starts (before ++ entry ∷ []) rest (is ∙ sym (append_assoc before (entry ∷ []) rest)) lawful.1 n.further)

pub asked-at-top : CoresAreAskedAtTop
asked-at-top workers pipeline sched core is lawful finished =
    at-top-from core.config core.history
    (starts-sessions sched.session pipeline core.config sched.history core.history is.session is.lawful finished.tied)
    [] core.history refl lawful
    (record { front = []; after = core.history; splits = refl; at_top = tt; closed = refl })
