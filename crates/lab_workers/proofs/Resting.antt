-- A worker between two jobs, after quiet acts at the scheduler.
use Rattle.std.proofs.Common.{◌≡◌, ℕ, zero, suc, List, [], ◌∷◌, ◌++◌, refl, sym, ap, subst, ◌∙◌, append-nil}
use Rattle.std.specs.Prelude.{Option, Some, None, filter, slice_get, slice_set}
use Rattle.std.proofs.lemmas.List.{map-append}
use Rattle.std.proofs.lemmas.List.Elements.{filter-append}
use mathlib.Core.List.{IsPrefix}
use Rattle.desk_rule.specs.Histories.{Each}
use Rattle.desk_rule.proofs.Weights.{each_append, each_weaker}
use Rattle.desk_rule.proofs.Prefixes.{prefix_same, prefix_trans}
use Rattle.rtio_core.specs.declared.data.Act.{Act}
use Rattle.rtio_core.specs.declared.data.Config.{Config}
use Rattle.rtio_core.specs.declared.data.Entry.{Entry}
use Rattle.exp_model.specs.declared.session.Session.{Session}
use Rattle.sched_state.specs.declared.entry.JobName.{JobName}
use Rattle.sched_state.specs.declared.entry.SchedAct.{SchedAct}
use Rattle.sched_state.specs.declared.entry.SchedEntry.{SchedEntry}
use Rattle.sched_state.specs.Lawful.{halted_by}
use Rattle.stage_work.proofs.Beginning.{tied-further}
use Rattle.stage_work.proofs.Lasting.{judgements-last, ties-last}
use Rattle.stage_work.specs.Judged.{IsJudged}
use Rattle.stage_work.specs.Ties.{AreTied, reports_of}
use Rattle.desk_kernels.specs.Chairs.{CoreChair, KnowsItsOwn, core_entries}
use Rattle.worker_desks.specs.declared.desks.Desks.{Desks}
use Rattle.lab_workers.specs.Rounds.{ComesTo, GoesOn, KeepsRest}
use Rattle.lab_workers.specs.Turns.{Follows, HasHalted, PutsNothing, PutsQuietly, halt_due}
use Rattle.lab_workers.specs.Workers.{IsTiedAt, IsWorkerAt, SchedChair, StandsWith, WorkerValue, halts, is_halt, owed, sched_entries}
use Rattle.lab_workers.proofs.Holdings.{follows-has, knows-put}
use Rattle.lab_workers.proofs.Owing.{halt-owes}

-- ---- lists of which it holds

module _ {X : Type 0} where
  pub each-get : (P : X → Type 0) (xs : List X) (n : ℕ) (x : X) → Each P xs → slice_get xs n ≡ Some x → P x
  each-get P [] n x all at = absurd (cc)
  each-get P (y ∷ ys) zero x all at = let is : y ≡ x = cc in subst P is all.0
  each-get P (y ∷ ys) (suc n) x all at = each-get P ys n x all.1 at

  pub each-of : (P : X → Type 0) (xs : List X) → ((n : ℕ) (x : X) → slice_get xs n ≡ Some x → P x) → Each P xs
  each-of P [] at = tt
  each-of P (y ∷ ys) at = (at 0 y refl, each-of P ys (λ n x is. at (suc n) x is))

  -- one item was set
  pub each-set : (P : X → Type 0) (xs : List X) (n : ℕ) (x : X) → Each P xs → P x → Each P (slice_set xs n x)
  each-set P [] n x all p = tt
  each-set P (y ∷ ys) zero x all p = (p, all.1)
  each-set P (y ∷ ys) (suc n) x all p = (all.0, each-set P ys n x all.1 p)

-- ---- going on

pub goes-same : (desks : Desks) (w : WorkerValue) → IsWorkerAt desks w → GoesOn desks w w
goes-same desks w at = record {
  at = at;
  later = record { number = refl; seen = prefix_same w.sched.seen; own = prefix_same w.sched.own; takings = prefix_same w.sched.takings };
}

pub goes-trans : (desks : Desks) (a b c : WorkerValue) → GoesOn desks a b → GoesOn desks b c → GoesOn desks a c
goes-trans desks a b c first then = record {
  at = then.at;
  later = record {
    number = then.later.number ∙ first.later.number;
    seen = prefix_trans a.sched.seen b.sched.seen c.sched.seen first.later.seen then.later.seen;
    own = prefix_trans a.sched.own b.sched.own c.sched.own first.later.own then.later.own;
    takings = prefix_trans a.sched.takings b.sched.takings c.sched.takings first.later.takings then.later.takings;
  };
}

pub goes-sched : (desks : Desks) (w : WorkerValue) (e : SchedChair) → IsWorkerAt desks w → Follows w.sched e → GoesOn desks w (record w { sched = e })
goes-sched desks w e at follows = record {
  at = record { sched = follows.same.0 ∙ at.sched; count = at.count; cores = at.cores };
  later = record { number = refl; seen = follows.seen; own = follows.own; takings = follows.takings };
}

pub keeps-same : (session : Session) (w : WorkerValue) → KeepsRest session w w
keeps-same session w = record { rest = λ r. r; halts_are = refl }

pub comes-trans : (session : Session) (jobs mid : List JobName) (This : WorkerValue → Type 0) (a b c : WorkerValue)
    → ComesTo session jobs (StandsWith session mid) a b → ComesTo session mid This b c → ComesTo session jobs This a c
comes-trans session jobs mid This a b c first then = record { rest = λ r. then.rest (first.rest r); halts_are = then.halts_are ∙ first.halts_are }

-- a worker whose fields are known
pub comes-from : (session : Session) (jobs : List JobName) (This : WorkerValue → Type 0) (inside w new : WorkerValue) → inside ≡ w
    → ComesTo session jobs This inside new → ComesTo session jobs This w new
comes-from session jobs This inside w new is = let C : WorkerValue → Type 0 = λ v. ComesTo session jobs This v new in subst C is

-- ---- a longer history of the scheduler

-- which goes on from what was seen
pub sees-more : (seen now : List (ℕ × SchedAct)) → (p : IsPrefix seen now) → sched_entries now ≡ sched_entries seen ++ sched_entries p.0
sees-more seen now p =
    sym (ap sched_entries p.1) ∙ map-append (λ (e : ℕ × SchedAct). record { chair = e.0; act = e.1 }) seen p.0

pub tied-later : (session : Session) (pipeline : ℕ) (config : Config) (number : ℕ) (seen now : List (ℕ × SchedAct)) (reports : List SchedAct)
    → (history : List Entry) (acts : List Act) → IsPrefix seen now
    → AreTied session pipeline config number (sched_entries seen) reports history acts
    → AreTied session pipeline config number (sched_entries now) reports history acts
tied-later session pipeline config number seen now reports history acts p tied =
    let S : List SchedEntry → Type 0 = λ h. AreTied session pipeline config number h reports history acts in
    let H : List Entry → Type 0 = λ h. AreTied session pipeline config number (sched_entries seen ++ sched_entries p.0) reports h acts in
    subst S (sym (sees-more seen now p))
    (subst H (append-nil history) (ties-last session pipeline config number (sched_entries seen) (sched_entries p.0) reports history [] acts tied))

pub judged-later : (session : Session) (seen now : List (ℕ × SchedAct)) (acts : List SchedAct) → IsPrefix seen now
    → Each (IsJudged session (sched_entries seen)) acts → Each (IsJudged session (sched_entries now)) acts
judged-later session seen now acts p all =
    each_weaker (IsJudged session (sched_entries seen)) (IsJudged session (sched_entries now))
    (λ act j. let J : List SchedEntry → Type 0 = λ h. IsJudged session h act in
    subst J (sym (sees-more seen now p)) (judgements-last session (sched_entries seen) (sched_entries p.0) act j))
    acts all

halts-on : (acts more : List SchedAct) → filter is_halt more ≡ [] → filter is_halt (acts ++ more) ≡ filter is_halt acts
halts-on acts more none =
    filter-append is_halt acts more ∙ (ap (λ (xs : List SchedAct). filter is_halt acts ++ xs) none ∙ append-nil (filter is_halt acts))

-- acts that halt nothing
pub halts-same : (old new : SchedChair) (acts : List SchedAct) → new.own ≡ old.own ++ acts → filter is_halt acts ≡ [] → halts new ≡ halts old
halts-same old new acts is none = ap (filter is_halt) is ∙ halts-on old.own acts none

-- ---- more acts at the scheduler, that report no step of a kernel

module _ (session : Session) (w : WorkerValue) (e : SchedChair) (acts : List SchedAct) (follows : Follows w.sched e) (own : e.own ≡ w.sched.own ++ acts)
    (knows : KnowsItsOwn w.sched → KnowsItsOwn e) (steps : (pipeline : ℕ) → reports_of pipeline acts ≡ [])
    (right : Each (IsJudged session (sched_entries e.seen)) acts) where
  tied-on : (pipeline : ℕ) (chair : CoreChair) → IsTiedAt session w pipeline chair → IsTiedAt session (record w { sched = e }) pipeline chair
  tied-on pipeline chair (config, is, tied) =
      let R : List SchedAct → Type 0 = λ own.
      AreTied session pipeline config w.number (sched_entries e.seen) own (core_entries chair.seen) chair.own in (
        config,
        is,
        subst R (sym own)
            (tied-further session pipeline config w.number (sched_entries e.seen) w.sched.own acts (core_entries chair.seen) chair.own
            (steps pipeline)
            (tied-later session pipeline config w.number w.sched.seen e.seen w.sched.own (core_entries chair.seen) chair.own follows.seen tied)),
      )

  pub stands-on : (jobs now : List JobName) → (owed w.sched.own ≡ jobs → owed e.own ≡ now) → StandsWith session jobs w → StandsWith session now (record w { sched = e })
  stands-on jobs now owes r = record {
    sched_own = knows r.sched_own;
    core_own = r.core_own;
    closed = r.closed;
    tied = λ pipeline chair at. tied-on pipeline chair (r.tied pipeline chair at);
    judged =
        (let J : List SchedAct → Type 0 = λ own. Each (IsJudged session (sched_entries e.seen)) own in
        subst J (sym own)
        (each_append (IsJudged session (sched_entries e.seen)) w.sched.own acts
        (judged-later session w.sched.seen e.seen w.sched.own follows.seen r.judged)
        right));
    owes = owes r.owes;
  }

-- quiet acts
pub keeps-quiet : (session : Session) (w : WorkerValue) (e : SchedChair) → PutsQuietly session w.sched e → (jobs now : List JobName) → (owed w.sched.own ≡ jobs → owed e.own ≡ now)
    → ComesTo session jobs (StandsWith session now) w (record w { sched = e })
keeps-quiet session w e quietly jobs now owes = record {
  rest =
      stands-on session w e quietly.acts (follows-has session quietly.found quietly.acts w.sched e quietly.put) quietly.put.own
      (λ known. knows-put session quietly.found quietly.acts w.sched e quietly.put) quietly.quiet.steps quietly.quiet.judged jobs now owes;
  halts_are = halts-same w.sched e quietly.acts quietly.put.own quietly.quiet.halts;
}

-- none
pub stands-looked : (session : Session) (w : WorkerValue) (e : SchedChair) → PutsNothing w.sched e → (jobs : List JobName) → StandsWith session jobs w → StandsWith session jobs (record w { sched = e })
stands-looked session w e nothing jobs =
    stands-on session w e [] nothing.follows (nothing.own ∙ sym (append-nil w.sched.own)) nothing.knows (λ pipeline. refl) tt jobs jobs
    (λ owes. ap owed nothing.own ∙ owes)

-- a halt
halt-steps : (by : Option ℕ) (pipeline : ℕ) → reports_of pipeline (halt_due by) ≡ []
halt-steps None pipeline = refl
halt-steps (Some by) pipeline = refl

halt-judged : (session : Session) (sched : List SchedEntry) (by : Option ℕ) → Each (IsJudged session sched) (halt_due by)
halt-judged session sched None = (tt, tt)
halt-judged session sched (Some by) = tt

pub stands-halted : (session : Session) (w : WorkerValue) (e : SchedChair) → HasHalted session w.sched e → (jobs : List JobName) → StandsWith session jobs w → StandsWith session jobs (record w { sched = e })
stands-halted session w e (found, put) jobs =
    let by : Option ℕ = halted_by found in
    stands-on session w e (halt_due by) (follows-has session found (halt_due by) w.sched e put) put.own
    (λ known. knows-put session found (halt_due by) w.sched e put) (halt-steps by) (halt-judged session (sched_entries e.seen) by) jobs jobs
    (λ owes. ap owed put.own ∙ (halt-owes by w.sched.own ∙ owes))
