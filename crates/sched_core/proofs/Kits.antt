-- What is kept of the sources of runs, after an entry.
use Rattle.std.proofs.Common.{◌≡◌, ◌≢◌, ℕ, zero, suc, ◌<◌, true, false, List, [], ◌∷◌, length, replicate, refl, sym, ◌∙◌, ap, arith, subst, inl, inr}
use Rattle.std.specs.Prelude.{ℤ, Option, Some, None, slice_get, slice_set, ◌==◌, ◌⊎◌}
use Rattle.std.proofs.lemmas.List.{length-replicate}
use Rattle.std.proofs.lemmas.Bool.Decides.{eqb_tells}
use Rattle.exp_runs.specs.declared.run.Run.{Run}
use Rattle.exp_runs.specs.Keys.{run_of}
use Rattle.exp_model.specs.declared.session.Session.{Session}
use Rattle.sched_state.specs.State.{SchedState}
use Rattle.sched_state.specs.Arrivals.{opening}
use Rattle.sched_laws.specs.Waits.{waits}
use Rattle.sched_laws.proofs.Stays.{StayIn}
use Rattle.sched_laws.proofs.Waiting.{Fewer, FewerBut, opening-waits}
use Rattle.sched_core.specs.Scheds.{IsKitFor, IsKitIn}
use Rattle.sched_core.specs.Inside.{AreKits}

get-same : {X : Type 0} (xs : List X) (i : ℕ) (v : X) → i < length xs → slice_get (slice_set xs i v) i ≡ Some v
get-same [] i v h = absurd (omega (arith, h))
get-same (x ∷ xs) zero v h = refl
get-same (x ∷ xs) (suc i) v h = get-same xs i v (omega (arith, h))

get-other : {X : Type 0} (xs : List X) (i k : ℕ) (v : X) → k ≢ i → slice_get (slice_set xs i v) k ≡ slice_get xs k
get-other [] i k v other = refl
get-other (x ∷ xs) zero zero v other = absurd (other refl)
get-other (x ∷ xs) zero (suc k) v other = refl
get-other (x ∷ xs) (suc i) zero v other = refl
get-other (x ∷ xs) (suc i) (suc k) v other = get-other xs i k v (λ e. other (ap suc e))

set-length : {X : Type 0} (xs : List X) (i : ℕ) (v : X) → length (slice_set xs i v) ≡ length xs
set-length [] i v = refl
set-length (x ∷ xs) zero v = refl
set-length (x ∷ xs) (suc i) v = ap suc (set-length xs i v)

none-kept : {P : Type 0} (count rid : ℕ) (kit : P) → slice_get (replicate count None) rid ≡ Some (Some kit) → ⊥
none-kept zero rid kit h = cc
none-kept (suc count) zero kit h = cc
none-kept (suc count) (suc rid) kit h = none-kept count rid kit h

module _ {P : Type 0} (source : P → ℕ) (stands_for : P → List ℕ → Type 0) (has_call : P → List ℕ → List ℤ → Type 0) where
  -- the kits of a new scheduler
  pub opening-kits : (session : Session) (kits : List (Option P)) → kits ≡ replicate 64 None → AreKits source stands_for has_call session (opening session) kits
  opening-kits session kits none =
      record {
        count = ap length none ∙ length-replicate {A = Option P} 64 None;
        right = λ rid kit kept. absurd (none-kept 64 rid kit (ap (λ ks. slice_get ks rid) (sym none) ∙ kept));
        there = λ rid needs. absurd (opening-waits session rid needs);
      }

  right-kept : (session : Session) (old new : SchedState) (rid : ℕ) (kit : P) → StayIn old.runs new.runs → ((run : Run) × (run_of old.runs rid ≡ Some run) × IsKitFor source stands_for has_call session run kit) → (run : Run) × (run_of new.runs rid ≡ Some run) × IsKitFor source stands_for has_call session run kit
  right-kept session old new rid kit stay was =
      let now = stay rid was.0 was.1 in
      let K : ℕ → Type 0 = λ n. IsKitIn source stands_for has_call session n kit in
      (now.0, now.1, subst K (sym now.2) was.2)

  -- where no run comes to wait
  pub kits-kept : (session : Session) (old new : SchedState) (kits : List (Option P)) → StayIn old.runs new.runs → Fewer old new → AreKits source stands_for has_call session old kits → AreKits source stands_for has_call session new kits
  kits-kept session old new kits stay fewer was =
      record {
        count = was.count;
        right = λ rid kit kept. right-kept session old new rid kit stay (was.right rid kit kept);
        there = λ rid needs. was.there rid (fewer rid needs);
      }

  -- where the kit of a run is given away
  pub kits-given : (session : Session) (old new : SchedState) (kits : List (Option P)) (rid : ℕ) → StayIn old.runs new.runs → ((x : ℕ) → waits new x ≡ true → (x ≢ rid) × (waits old x ≡ true)) → AreKits source stands_for has_call session old kits → rid < 64 → AreKits source stands_for has_call session new (slice_set kits rid None)
  kits-given session old new kits rid stay fewer was within =
      record {
        count = set-length kits rid None ∙ was.count;
        right = λ x kit kept. right-kept session old new x kit stay (was.right x kit (still x kit kept (eqb_tells x rid)));
        there = λ x needs. let before = fewer x needs in let had = was.there x before.1 in (had.0, get-other kits rid x None before.0 ∙ had.1);
      }
    where
      still : (x : ℕ) (kit : P) → slice_get (slice_set kits rid None) x ≡ Some (Some kit) → ((x == rid) ≡ true) × (x ≡ rid) ⊎ ((x == rid) ≡ false) × (x ≢ rid) → slice_get kits x ≡ Some (Some kit)
      still x kit kept (inl e) = let bound : rid < length kits = omega (arith, within, was.count) in absurd (cc (ap (slice_get (slice_set kits rid None)) e.1, get-same kits rid None bound))
      still x kit kept (inr e) = sym (get-other kits rid x None e.1) ∙ kept

  -- where a run gets one
  pub kits-got : (session : Session) (old new : SchedState) (kits : List (Option P)) (rid : ℕ) (kit : P) (run : Run) → StayIn old.runs new.runs → FewerBut rid old new → AreKits source stands_for has_call session old kits → rid < 64 → run_of old.runs rid ≡ Some run → IsKitFor source stands_for has_call session run kit
      → AreKits source stands_for has_call session new (slice_set kits rid (Some kit))
  kits-got session old new kits rid kit run stay fewer was within found is =
      record {
        count = set-length kits rid (Some kit) ∙ was.count;
        right = λ x other kept. right-of x other kept (eqb_tells x rid);
        there = λ x needs. there-of x needs (eqb_tells x rid);
      }
    where
      bound : rid < length kits
      bound = omega (arith, within, was.count)

      right-of : (x : ℕ) (other : P) → slice_get (slice_set kits rid (Some kit)) x ≡ Some (Some other) → ((x == rid) ≡ true) × (x ≡ rid) ⊎ ((x == rid) ≡ false) × (x ≢ rid) → (now : Run) × (run_of new.runs x ≡ Some now) × IsKitFor source stands_for has_call session now other
      right-of x other kept (inl e) =
          let same : kit ≡ other = cc (ap (slice_get (slice_set kits rid (Some kit))) e.1, get-same kits rid (Some kit) bound) in
          let now = right-kept session old new rid kit stay (run, found, is) in
          let K : P → Type 0 = λ k. IsKitFor source stands_for has_call session now.0 k in
          (now.0, ap (run_of new.runs) e.1 ∙ now.1, subst K same now.2)
      right-of x other kept (inr e) = right-kept session old new x other stay (was.right x other (sym (get-other kits rid x (Some kit) e.1) ∙ kept))

      there-of : (x : ℕ) → waits new x ≡ true → ((x == rid) ≡ true) × (x ≡ rid) ⊎ ((x == rid) ≡ false) × (x ≢ rid) → (k : P) × (slice_get (slice_set kits rid (Some kit)) x ≡ Some (Some k))
      there-of x needs (inl e) = (kit, ap (slice_get (slice_set kits rid (Some kit))) e.1 ∙ get-same kits rid (Some kit) bound)
      there-of x needs (inr e) = let had = was.there x (fewer x e.1 needs) in (had.0, get-other kits rid x (Some kit) e.1 ∙ had.1)
