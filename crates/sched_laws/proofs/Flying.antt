-- The jobs of a run that are in flight, and who is on the stacks.
use Rattle.std.proofs.Common.{◌≡◌, ◌≢◌, ℕ, ◌<◌, ◌≤◌, Bool, true, false, List, [], ◌∷◌, ◌++◌, cond, filter, map, refl, sym, ◌∙◌, ap, arith, inl, inr}
use Rattle.std.specs.Prelude.{Some, find, not, ◌==◌, ◌||◌, ◌⊎◌}
use Rattle.std.specs.List.{AllByRecursion}
use Rattle.std.proofs.lemmas.Bool.{eq-eqb}
use Rattle.std.proofs.lemmas.Bool.Decides.{eqb_tells}
use Rattle.sched_state.specs.declared.entry.Flight.{Flight}
use Rattle.sched_state.specs.declared.entry.JobName.{JobName}
use Rattle.sched_state.specs.declared.entry.JobName.TheVariants.{Step}
use Rattle.sched_state.specs.State.{rid_of, is_step_of, is_stepping}
use Rattle.sched_laws.specs.Sound.{jobs_of, is_on}

pub eqb-no : (a b : ℕ) → a ≢ b → (a == b) ≡ false
eqb-no a b other = at (eqb_tells a b)
  where
    at : ((a == b) ≡ true) × (a ≡ b) ⊎ ((a == b) ≡ false) × (a ≢ b) → (a == b) ≡ false
    at (inl e) = absurd (other e.1)
    at (inr e) = e.0

jobs : List Flight → List JobName
jobs flights = map (λ (flight : Flight). flight.job) flights

-- the list of a run's jobs begins with a flight of the run
pub jobs-own : (f : Flight) (flying : List Flight) (x : ℕ) → rid_of f.job ≡ x → jobs_of (f ∷ flying) x ≡ f.job ∷ jobs_of flying x
jobs-own f flying x e =
    ap (λ b. map (λ (flight : Flight). flight.job) (cond b (f ∷ filter (λ (flight : Flight). rid_of flight.job == x) flying)
    (filter (λ (flight : Flight). rid_of flight.job == x) flying))) (eq-eqb (rid_of f.job) x e)

pub jobs-other : (f : Flight) (flying : List Flight) (x : ℕ) → rid_of f.job ≢ x → jobs_of (f ∷ flying) x ≡ jobs_of flying x
jobs-other f flying x e =
    ap (λ b. map (λ (flight : Flight). flight.job) (cond b (f ∷ filter (λ (flight : Flight). rid_of flight.job == x) flying)
    (filter (λ (flight : Flight). rid_of flight.job == x) flying))) (eqb-no (rid_of f.job) x e)

abbrev pub leaves : ℕ → List Flight → List Flight
leaves rid flying = filter (λ (flight : Flight). not (rid_of flight.job == rid)) flying

pub leaves-own : (f : Flight) (flying : List Flight) (rid : ℕ) → rid_of f.job ≡ rid → leaves rid (f ∷ flying) ≡ leaves rid flying
leaves-own f flying rid e = ap (λ b. cond (not b) (f ∷ leaves rid flying) (leaves rid flying)) (eq-eqb (rid_of f.job) rid e)

pub leaves-other : (f : Flight) (flying : List Flight) (rid : ℕ) → rid_of f.job ≢ rid → leaves rid (f ∷ flying) ≡ f ∷ leaves rid flying
leaves-other f flying rid e = ap (λ b. cond (not b) (f ∷ leaves rid flying) (leaves rid flying)) (eqb-no (rid_of f.job) rid e)

-- where a job of a run leaves, it has none
pub landed-own : (rid : ℕ) (flying : List Flight) → jobs_of (leaves rid flying) rid ≡ []
landed-own rid [] = refl
landed-own rid (f ∷ flying) = at (landed-own rid flying) (eqb_tells (rid_of f.job) rid)
  where
    at : (jobs_of (leaves rid flying) rid ≡ []) → ((rid_of f.job == rid) ≡ true) × (rid_of f.job ≡ rid) ⊎ ((rid_of f.job == rid) ≡ false) × (rid_of f.job ≢ rid)
        → jobs_of (leaves rid (f ∷ flying)) rid ≡ []
    at ih (inl e) = ap (λ fs. jobs_of fs rid) (leaves-own f flying rid e.1) ∙ ih
    at ih (inr e) = ap (λ fs. jobs_of fs rid) (leaves-other f flying rid e.1) ∙ jobs-other f (leaves rid flying) rid e.1 ∙ ih

-- and the others have the same
pub landed-other : (rid x : ℕ) (flying : List Flight) → x ≢ rid → jobs_of (leaves rid flying) x ≡ jobs_of flying x
landed-other rid x [] other = refl
landed-other rid x (f ∷ flying) other = at (landed-other rid x flying other) (eqb_tells (rid_of f.job) rid) (eqb_tells (rid_of f.job) x)
  where
    at : (jobs_of (leaves rid flying) x ≡ jobs_of flying x)
        → ((rid_of f.job == rid) ≡ true) × (rid_of f.job ≡ rid) ⊎ ((rid_of f.job == rid) ≡ false) × (rid_of f.job ≢ rid)
        → ((rid_of f.job == x) ≡ true) × (rid_of f.job ≡ x) ⊎ ((rid_of f.job == x) ≡ false) × (rid_of f.job ≢ x)
        → jobs_of (leaves rid (f ∷ flying)) x ≡ jobs_of (f ∷ flying) x
    at ih (inl e) (inl h) = absurd (other (sym h.1 ∙ e.1))
    at ih (inl e) (inr h) = ap (λ fs. jobs_of fs x) (leaves-own f flying rid e.1) ∙ ih ∙ sym (jobs-other f flying x h.1)
    at ih (inr e) (inl h) =
        ap (λ fs. jobs_of fs x) (leaves-other f flying rid e.1) ∙ jobs-own f (leaves rid flying) x h.1
        ∙ ap (λ js. f.job ∷ js) ih ∙ sym (jobs-own f flying x h.1)
    at ih (inr e) (inr h) =
        ap (λ fs. jobs_of fs x) (leaves-other f flying rid e.1) ∙ jobs-other f (leaves rid flying) x h.1 ∙ ih ∙ sym (jobs-other f flying x h.1)

-- a job that is taken is the last of its run's
pub taken-own : (flying : List Flight) (f : Flight) (x : ℕ) → rid_of f.job ≡ x → jobs_of (flying ++ f ∷ []) x ≡ jobs_of flying x ++ f.job ∷ []
taken-own [] f x e = jobs-own f [] x e
taken-own (g ∷ flying) f x e = at (taken-own flying f x e) (eqb_tells (rid_of g.job) x)
  where
    at : (jobs_of (flying ++ f ∷ []) x ≡ jobs_of flying x ++ f.job ∷ [])
        → ((rid_of g.job == x) ≡ true) × (rid_of g.job ≡ x) ⊎ ((rid_of g.job == x) ≡ false) × (rid_of g.job ≢ x)
        → jobs_of ((g ∷ flying) ++ f ∷ []) x ≡ jobs_of (g ∷ flying) x ++ f.job ∷ []
    at ih (inl h) = jobs-own g (flying ++ f ∷ []) x h.1 ∙ ap (λ js. g.job ∷ js) ih ∙ ap (λ js. js ++ f.job ∷ []) (sym (jobs-own g flying x h.1))
    at ih (inr h) = jobs-other g (flying ++ f ∷ []) x h.1 ∙ ih ∙ ap (λ js. js ++ f.job ∷ []) (sym (jobs-other g flying x h.1))

pub taken-other : (flying : List Flight) (f : Flight) (x : ℕ) → rid_of f.job ≢ x → jobs_of (flying ++ f ∷ []) x ≡ jobs_of flying x
taken-other [] f x e = jobs-other f [] x e
taken-other (g ∷ flying) f x e = at (taken-other flying f x e) (eqb_tells (rid_of g.job) x)
  where
    at : (jobs_of (flying ++ f ∷ []) x ≡ jobs_of flying x)
        → ((rid_of g.job == x) ≡ true) × (rid_of g.job ≡ x) ⊎ ((rid_of g.job == x) ≡ false) × (rid_of g.job ≢ x)
        → jobs_of ((g ∷ flying) ++ f ∷ []) x ≡ jobs_of (g ∷ flying) x
    at ih (inl h) = jobs-own g (flying ++ f ∷ []) x h.1 ∙ ap (λ js. g.job ∷ js) ih ∙ sym (jobs-own g flying x h.1)
    at ih (inr h) = jobs-other g (flying ++ f ∷ []) x h.1 ∙ ih ∙ sym (jobs-other g flying x h.1)

-- no flight has a number that is past the last
pub none-past : (bound x : ℕ) (flying : List Flight) → bound ≤ x → AllByRecursion (λ (f : Flight). rid_of f.job < bound) flying → jobs_of flying x ≡ []
none-past bound x [] h all = refl
none-past bound x (f ∷ flying) h all = jobs-other f flying x (λ e. omega (arith, e, h, all.0)) ∙ none-past bound x flying h all.1

-- a flight of a run stands among the run's jobs
pub flight-there : (before after : List Flight) (f : Flight) (x : ℕ) → rid_of f.job ≡ x
    → (front back : List JobName) × (jobs_of (before ++ f ∷ after) x ≡ front ++ f.job ∷ back)
flight-there [] after f x e = ([], jobs_of after x, jobs-own f after x e)
flight-there (g ∷ before) after f x e = at (flight-there before after f x e) (eqb_tells (rid_of g.job) x)
  where
    at : ((front back : List JobName) × (jobs_of (before ++ f ∷ after) x ≡ front ++ f.job ∷ back))
        → ((rid_of g.job == x) ≡ true) × (rid_of g.job ≡ x) ⊎ ((rid_of g.job == x) ≡ false) × (rid_of g.job ≢ x)
        → (front back : List JobName) × (jobs_of ((g ∷ before) ++ f ∷ after) x ≡ front ++ f.job ∷ back)
    at rest (inl h) = (g.job ∷ rest.0, rest.1, jobs-own g (before ++ f ∷ after) x h.1 ∙ ap (λ js. g.job ∷ js) rest.2)
    at rest (inr h) = (rest.0, rest.1, jobs-other g (before ++ f ∷ after) x h.1 ∙ rest.2)

-- of one job it is that one
pub only-one : (front back : List JobName) (a b : JobName) → a ∷ [] ≡ front ++ b ∷ back → a ≡ b
only-one [] back a b e = cc
only-one (j ∷ []) back a b e = absurd (cc)
only-one (j ∷ k ∷ front) back a b e = absurd (cc)

pub none-there : (front back : List JobName) (b : JobName) → [] ≡ front ++ b ∷ back → ⊥
none-there [] back b e = cc
none-there (j ∷ front) back b e = cc

-- a run with a step in flight is stepping
or-false : (a b : Bool) → (a || b) ≡ false → (a ≡ false) × (b ≡ false)
or-false true b h = absurd (cc)
or-false false b h = (refl, h)

pub not-stepping : (flying : List Flight) (rid place : ℕ) → is_stepping flying rid ≡ false → jobs_of flying rid ≡ Step rid place ∷ [] → ⊥
not-stepping [] rid place h e = cc
not-stepping (f ∷ flying) rid place h e = at (not-stepping flying rid place) (eqb_tells (rid_of f.job) rid)
  where
    parts : (is_step_of rid f.job ≡ false) × (is_stepping flying rid ≡ false)
    parts = or-false (is_step_of rid f.job) (is_stepping flying rid) h

    at : (is_stepping flying rid ≡ false → jobs_of flying rid ≡ Step rid place ∷ [] → ⊥)
        → ((rid_of f.job == rid) ≡ true) × (rid_of f.job ≡ rid) ⊎ ((rid_of f.job == rid) ≡ false) × (rid_of f.job ≢ rid) → ⊥
    at ih (inl k) =
        let first : f.job ≡ Step rid place = cc (jobs-own f flying rid k.1) in
        let is : is_step_of rid f.job ≡ true = ap (is_step_of rid) first ∙ eq-eqb rid rid refl in
        cc (is, parts.0)
    at ih (inr k) = ih parts.1 (sym (jobs-other f flying rid k.1) ∙ e)

-- stacks
abbrev pub without : ℕ → List ℕ → List ℕ
without rid stack = filter (λ other. not (other == rid)) stack

without-own : (y : ℕ) (stack : List ℕ) (rid : ℕ) → y ≡ rid → without rid (y ∷ stack) ≡ without rid stack
without-own y stack rid e = ap (λ b. cond (not b) (y ∷ without rid stack) (without rid stack)) (eq-eqb y rid e)

without-other : (y : ℕ) (stack : List ℕ) (rid : ℕ) → y ≢ rid → without rid (y ∷ stack) ≡ y ∷ without rid stack
without-other y stack rid e = ap (λ b. cond (not b) (y ∷ without rid stack) (without rid stack)) (eqb-no y rid e)

pub off-own : (rid : ℕ) (stack : List ℕ) → is_on (without rid stack) rid ≡ false
off-own rid [] = refl
off-own rid (y ∷ stack) = at (off-own rid stack) (eqb_tells y rid)
  where
    at : (is_on (without rid stack) rid ≡ false) → ((y == rid) ≡ true) × (y ≡ rid) ⊎ ((y == rid) ≡ false) × (y ≢ rid)
        → is_on (without rid (y ∷ stack)) rid ≡ false
    at ih (inl e) = ap (λ s. is_on s rid) (without-own y stack rid e.1) ∙ ih
    at ih (inr e) = ap (λ s. is_on s rid) (without-other y stack rid e.1) ∙ ap (λ b. b || is_on (without rid stack) rid) e.0 ∙ ih

pub off-other : (rid x : ℕ) (stack : List ℕ) → x ≢ rid → is_on (without rid stack) x ≡ is_on stack x
off-other rid x [] other = refl
off-other rid x (y ∷ stack) other = at (off-other rid x stack other) (eqb_tells y rid)
  where
    at : (is_on (without rid stack) x ≡ is_on stack x) → ((y == rid) ≡ true) × (y ≡ rid) ⊎ ((y == rid) ≡ false) × (y ≢ rid)
        → is_on (without rid (y ∷ stack)) x ≡ is_on (y ∷ stack) x
    at ih (inl e) = ap (λ s. is_on s x) (without-own y stack rid e.1) ∙ ih ∙ sym (ap (λ b. b || is_on stack x) (eqb-no y x (λ h. other (sym h ∙ e.1))))
    at ih (inr e) = ap (λ s. is_on s x) (without-other y stack rid e.1) ∙ ap (λ b. (y == x) || b) ih

-- a top that stays
pub top-without : (p : ℕ → Bool) (rid y : ℕ) (stack : List ℕ) → y ≢ rid → find p stack ≡ Some y → find p (without rid stack) ≡ Some y
top-without p rid y [] other h = absurd (cc)
top-without p rid y (z ∷ stack) other h = at (top-without p rid y stack other) (p z) refl (eqb_tells z rid)
  where
    at : (find p stack ≡ Some y → find p (without rid stack) ≡ Some y) → (b : Bool) → p z ≡ b
        → ((z == rid) ≡ true) × (z ≡ rid) ⊎ ((z == rid) ≡ false) × (z ≢ rid) → find p (without rid (z ∷ stack)) ≡ Some y
    at ih true t (inl e) =
        let same : z ≡ y = cc (ap (λ b. cond b (Some z) (find p stack)) t) in
        absurd (other (sym same ∙ e.1))
    at ih true t (inr e) =
        ap (find p) (without-other z stack rid e.1) ∙ ap (λ b. cond b (Some z) (find p (without rid stack))) t ∙ sym
        (ap (λ b. cond b (Some z) (find p stack)) t) ∙ h
    at ih false t (inl e) = ap (find p) (without-own z stack rid e.1) ∙ ih (sym (ap (λ b. cond b (Some z) (find p stack)) t) ∙ h)
    at ih false t (inr e) =
        ap (find p) (without-other z stack rid e.1) ∙ ap (λ b. cond b (Some z) (find p (without rid stack))) t ∙ ih
        (sym (ap (λ b. cond b (Some z) (find p stack)) t) ∙ h)

or-true : (b : Bool) → (b || true) ≡ true
or-true true = refl
or-true false = refl

-- who is found on a stack is on it, and passes
pub top-on : (p : ℕ → Bool) (y : ℕ) (stack : List ℕ) → find p stack ≡ Some y → (is_on stack y ≡ true) × (p y ≡ true)
top-on p y [] h = absurd (cc)
top-on p y (z ∷ stack) h = at (top-on p y stack) (p z) refl
  where
    at : (find p stack ≡ Some y → (is_on stack y ≡ true) × (p y ≡ true)) → (b : Bool) → p z ≡ b → (is_on (z ∷ stack) y ≡ true) × (p y ≡ true)
    at ih true t =
        let same : z ≡ y = cc (ap (λ b. cond b (Some z) (find p stack)) t) in
        (ap (λ b. b || is_on stack y) (eq-eqb z y same), ap p (sym same) ∙ t)
    at ih false t =
        let rest = ih (sym (ap (λ b. cond b (Some z) (find p stack)) t) ∙ h) in
        (ap (λ b. (z == y) || b) rest.0 ∙ or-true (z == y), rest.1)
