-- Chairs that have waited while cores ticked on.
use Rattle.std.proofs.Common.{◌≡◌, ◌≢◌, ℕ, zero, suc, ◌<◌, List, [], ◌∷◌, ◌++◌, length, false, refl, sym, ap, subst, ◌∙◌, append-nil, inl, inr, arith}
use Rattle.std.specs.Prelude.{◌⊎◌, Some, slice_get, slice_set}
use Rattle.std.proofs.lemmas.List.{length-set, map-append}
use mathlib.Core.List.{IsPrefix}
use Rattle.desk.specs.Seated.{Opened, Puts, holding, losing}
use Rattle.desk.proofs.Afterwards.{puts_own}
use Rattle.desk_rule.specs.Histories.{Each, Grew, acts_of}
use Rattle.desk_rule.proofs.Prefixes.{prefix_same, prefix_trans}
use Rattle.rtio_core.specs.declared.data.Act.{Act}
use Rattle.rtio_core.specs.declared.data.Config.{Config}
use Rattle.rtio_core.specs.declared.data.Entry.{Entry}
use Rattle.rtio_core.specs.Booked.{booked_acts}
use Rattle.rtio_core.specs.Core.{CoreState}
use Rattle.rtio_core.specs.Entries.{open_session}
use Rattle.rtio_core.specs.Lawful.{IsLawful}
use Rattle.exp_model.specs.declared.session.Session.{Session}
use Rattle.stage_work.proofs.Lasting.{ties-last}
use Rattle.stage_work.specs.Ties.{AreTied}
use Rattle.sched_state.specs.declared.entry.SchedEntry.{SchedEntry}
use Rattle.stage_work.proofs.Cores.{set-at}
use Rattle.desk_kernels.proofs.Alone.{stays-open}
use Rattle.desk_kernels.proofs.Seen.{booked-entries, entries-booked}
use Rattle.desk_kernels.specs.Chairs.{CoreChair, KnowsItsOwn, core_entries}
use Rattle.worker_desks.specs.declared.desks.Desks.{Desks}
use Rattle.lab_workers.specs.Idling.{AreAt, HasWaited, HaveWaited}
use Rattle.lab_workers.specs.Rounds.{GoesOn, KeepsRest}
use Rattle.lab_workers.specs.Workers.{IsClosed, IsFree, IsTiedAt, IsWorkerAt, WorkerValue, sched_entries}
use Rattle.lab_workers.proofs.Entries.{core-further, none-came}
use Rattle.lab_workers.proofs.Resting.{each-get, each-of}

-- what a chair sees goes on from what it had seen
core-more : (seen now : List (ℕ × Act)) → (p : IsPrefix seen now) → core_entries now ≡ core_entries seen ++ core_entries p.0
core-more seen now p =
    sym (ap core_entries p.1) ∙ map-append (λ (e : ℕ × Act). record { chair = e.0; act = e.1 }) seen p.0

-- ---- one holding of a core that only ticks

-- nothing is added
pub ticked-grew : (c d : CoreChair) (lost : List ℕ) (was value now : CoreState) → d ≡ holding (losing c lost) (booked_acts was.history)
    → value ≡ was → now.history ≡ value.history → Grew d.number d.seen (booked_acts now.history)
ticked-grew c d lost was value now held same ticked = (
  [],
  ap booked_acts (ticked ∙ ap (λ (v : CoreState). v.history) same)
      ∙ (sym (ap (λ (x : CoreChair). x.seen) held) ∙ sym (append-nil d.seen)),
)

module _ (c d e : CoreChair) (lost : List ℕ) (was value now : CoreState) (held : d ≡ holding (losing c lost) (booked_acts was.history))
    (same : value ≡ was) (ticked : now.history ≡ value.history) (puts : Puts d (booked_acts now.history) e)
    (begins : IsPrefix c.seen (booked_acts was.history)) (knows : acts_of c.number (booked_acts was.history) ≡ c.own) where
  put-so : Puts (holding (losing c lost) (booked_acts was.history)) (booked_acts now.history) e
  put-so = let P : CoreChair → Type 0 = λ x. Puts x (booked_acts now.history) e in subst P held puts

  history-is : now.history ≡ was.history
  history-is = ticked ∙ ap (λ (v : CoreState). v.history) same

  seen-is : e.seen ≡ booked_acts was.history
  seen-is = ap (λ (x : CoreChair). x.seen) put-so.2 ∙ ap booked_acts history-is

  own-is : e.own ≡ c.own
  own-is =
      puts_own (holding (losing c lost) (booked_acts was.history)) e (booked_acts now.history) [] put-so
      (ap booked_acts history-is ∙ sym (append-nil (booked_acts was.history)))
      ∙ append-nil c.own

  number-is : e.number ≡ c.number
  number-is = ap (λ (x : CoreChair). x.number) put-so.2

  -- it knows its own acts, whatever it knew before
  knows-now : KnowsItsOwn e
  knows-now = (λ i. acts_of (number-is i) (seen-is i)) ∙ (knows ∙ sym own-is)

  -- nobody opens a session for another
  still-closed : IsLawful was.config was.history → KnowsItsOwn c → IsClosed c.number c → IsClosed c.number e
  still-closed lawful known closed rid opened =
      let more : List Entry = core_entries begins.0 in
      let is : was.history ≡ core_entries c.seen ++ more = core-further c.seen was.history begins in
      let none : acts_of c.number begins.0 ≡ [] = none-came c.number c.seen begins.0 (ap (acts_of c.number) begins.1 ∙ (knows ∙ sym known)) in
      let L : List Entry → Type 0 = λ h. IsLawful was.config h in
      closed rid
      (stays-open was.config (core_entries c.seen) more c.number rid (subst L is lawful)
      (sym (ap open_session (ap core_entries seen-is ∙ (entries-booked was.history ∙ is))) ∙ opened)
      (ap (acts_of c.number) (booked-entries begins.0) ∙ none))

  pub has-waited : IsLawful value.config value.history → HasWaited c e
  has-waited lawful =
      let L : CoreState → Type 0 = λ v. IsLawful v.config v.history in
      record {
        same = (ap (λ (x : CoreChair). x.desk) put-so.2, number-is, ap (λ (x : CoreChair). x.holds) put-so.2);
        seen = (let P : List (ℕ × Act) → Type 0 = λ h. IsPrefix c.seen h in subst P (sym seen-is) begins);
        own = own-is;
        knows = λ known. knows-now;
        closed = still-closed (subst L same lawful);
      }

-- ---- one after the other

waited-same : (c : CoreChair) → c.holds ≡ false → HasWaited c c
waited-same c free = record { same = (refl, refl, free); seen = prefix_same c.seen; own = refl; knows = λ k. k; closed = λ k closed. closed }

waited-trans : (a b c : CoreChair) → HasWaited a b → HasWaited b c → HasWaited a c
waited-trans a b c first then =
    let C : ℕ → Type 0 = λ n. IsClosed n b → IsClosed n c in
    record {
      same = (then.same.0 ∙ first.same.0, then.same.1 ∙ first.same.1, then.same.2);
      seen = prefix_trans a.seen b.seen c.seen first.seen then.seen;
      own = then.own ∙ first.own;
      knows = λ k. then.knows (first.knows k);
      closed = λ k closed. (subst C first.same.1 (then.closed (first.knows k))) (first.closed k closed);
    }

-- ---- all chairs

there-is : {X : Type 0} (xs : List X) (n : ℕ) → n < length xs → (x : X) × (slice_get xs n ≡ Some x)
there-is [] n low = absurd (omega arith)
there-is (x ∷ xs) zero low = (x, refl)
there-is (x ∷ xs) (suc n) low = there-is xs n (omega arith)

low-is : {X : Type 0} (xs : List X) (n : ℕ) (x : X) → slice_get xs n ≡ Some x → n < length xs
low-is [] n x at = absurd (cc)
low-is (y ∷ ys) zero x at = omega arith
low-is (y ∷ ys) (suc n) x at = let low = low-is ys n x at in omega arith

pub begin-waiting : (desks : List (Opened Config)) (chairs : List CoreChair) → length chairs ≡ length desks → AreAt desks chairs → HaveWaited chairs chairs
begin-waiting desks chairs count at = record {
  count = refl;
  each = λ pipeline chair is.
      let low : pipeline < length chairs = low-is chairs pipeline chair is in
      let desk = there-is desks pipeline (let same : length chairs ≡ length desks = count in omega arith) in
      (chair, is, waited-same chair (at pipeline desk.0 chair desk.1 is).1);
}

pub wait-on : (before chairs : List CoreChair) (place : ℕ) (was now : CoreChair) → HaveWaited before chairs → slice_get chairs place ≡ Some was → HasWaited was now
    → HaveWaited before (slice_set chairs place now)
wait-on before chairs place was now all found waits = record {
  count = length-set chairs place now ∙ all.count;
  each = λ pipeline chair at. which pipeline chair (set-at chairs place pipeline now chair at);
}
  where
    which : (pipeline : ℕ) (chair : CoreChair) → ((pipeline ≡ place) × (chair ≡ now)) ⊎ ((pipeline ≢ place) × (slice_get chairs pipeline ≡ Some chair))
        → (old : CoreChair) × (slice_get before pipeline ≡ Some old) × HasWaited old chair
    which pipeline chair (inl here) =
        let first = all.each place was found in
        let P : ℕ → Type 0 = λ n. (old : CoreChair) × (slice_get before n ≡ Some old) × HasWaited old chair in
        let C : CoreChair → Type 0 = λ x. HasWaited first.0 x in
        subst P (sym here.0) (first.0, first.1, subst C (sym here.1) (waited-trans first.0 was now first.2 waits))
    which pipeline chair (inr there) = all.each pipeline chair there.1

pub at-still : (desks : List (Opened Config)) (before chairs : List CoreChair) → AreAt desks before → HaveWaited before chairs → AreAt desks chairs
at-still desks before chairs at all = λ pipeline desk chair is found.
    let was = all.each pipeline chair found in
    (was.2.same.0 ∙ (at pipeline desk was.0 is was.1).0, was.2.same.2)

-- ---- the worker

module _ (w : WorkerValue) (cores : List CoreChair) (all : HaveWaited w.cores cores) where
  pub free-waited : Each (IsFree w.number) w.cores → Each (IsFree w.number) cores
  free-waited free =
      each-of (IsFree w.number) cores
      (λ n chair at. let was = all.each n chair at in
      (was.2.same.1 ∙ (each-get (IsFree w.number) w.cores n was.0 free was.1).0, was.2.same.2))

  pub goes-waited : (desks : Desks) → IsWorkerAt desks w → GoesOn desks w (record w { cores = cores })
  goes-waited desks at = record {
    at = record {
      sched = at.sched;
      count = all.count ∙ at.count;
      cores = λ pipeline desk chair is found.
          let was = all.each pipeline chair found in was.2.same.0 ∙ at.cores pipeline desk was.0 is was.1;
    };
    later = record { number = refl; seen = prefix_same w.sched.seen; own = prefix_same w.sched.own; takings = prefix_same w.sched.takings };
  }

  tied-waited : (session : Session) (pipeline : ℕ) (was now : CoreChair) → HasWaited was now → IsTiedAt session w pipeline was
      → IsTiedAt session (record w { cores = cores }) pipeline now
  tied-waited session pipeline was now waits (config, is, tied) =
      let S : List SchedEntry → Type 0 = λ h. AreTied session pipeline config w.number h w.sched.own (core_entries now.seen) was.own in
      let H : List Entry → Type 0 = λ h. AreTied session pipeline config w.number (sched_entries w.sched.seen ++ []) w.sched.own h was.own in
      let A : List Act → Type 0 = λ own. AreTied session pipeline config w.number (sched_entries w.sched.seen) w.sched.own (core_entries now.seen) own in (
        config,
        is,
        subst A (sym waits.own)
            (subst S (append-nil (sched_entries w.sched.seen))
            (subst H (sym (core-more was.seen now.seen waits.seen))
            (ties-last session pipeline config w.number (sched_entries w.sched.seen) [] w.sched.own (core_entries was.seen) (core_entries waits.seen.0) was.own tied))),
      )

  pub keeps-waited : (session : Session) → Each (IsFree w.number) w.cores → KeepsRest session w (record w { cores = cores })
  keeps-waited session free = record {
    rest = λ r. record {
      sched_own = r.sched_own;
      core_own =
          each-of KnowsItsOwn cores
          (λ n chair at. let was = all.each n chair at in was.2.knows (each-get KnowsItsOwn w.cores n was.0 r.core_own was.1));
      closed =
          each-of (IsClosed w.number) cores
          (λ n chair at.
          let was = all.each n chair at in
          let number = (each-get (IsFree w.number) w.cores n was.0 free was.1).0 in
          let C : ℕ → Type 0 = λ m. IsClosed m was.0 → IsClosed m chair in
          (subst C number (was.2.closed (each-get KnowsItsOwn w.cores n was.0 r.core_own was.1)))
          (each-get (IsClosed w.number) w.cores n was.0 r.closed was.1));
      tied = λ pipeline chair at. let was = all.each pipeline chair at in tied-waited session pipeline was.0 chair was.2 (r.tied pipeline was.0 was.1);
      judged = r.judged;
      owes = r.owes;
    };
    halts_are = refl;
  }
