-- A part of a kernel on a core follows the same part in the run without a core: the calculus.
use Rattle.std.proofs.Common.{◌≡◌, List, [], ◌∷◌, ◌++◌, sym, subst}
use Rattle.std.specs.Prelude.{⊤}
use Rattle.rtio_types.specs.declared.request.Request.{Request}
use Rattle.timeline_sem.specs.Actions.{State, Completion, normal, early, Action, go_on, ◌>>=◌, ◌>>◌}
use Rattle.timeline_sem.specs.Laws.{final}
use Rattle.timeline_sem.proofs.Keeps.{Keeps, keeps_bind, keeps_then}
use Rattle.timeline_sem.proofs.KeepsWhole.{AskedGrow, asked_grow, kept_final}
use Rattle.slack_meaning.specs.Actions as S
use Rattle.slack_law.specs.Promise.{Answered, requests_of}
use Rattle.slack_law.proofs.Standing.{AreAllInTime, AreInTimeFor, Agree, Any, Session, Stands, IsSafe, Meets, stopped, normally, alike, only}

-- requests are only added
abbrev pub Grows : {A : Type 0} → Action A → Type 0
Grows action = Keeps AskedGrow AskedGrow asked_grow action

pub grown : {A : Type 0} (m : Action A) → Grows m → (s : State) → AskedGrow s (final (m s))
grown m k s = kept_final AskedGrow s (m s) (k.from s)

-- what agrees does so up to any request
pub agree-front : (front back : List Request) (xs : List Answered) → Agree (front ++ back) xs → Agree front xs
agree-front [] back xs h = tt
agree-front (q ∷ front) back [] h = tt
agree-front (q ∷ front) back (x ∷ xs) h = (h.0, agree-front front back xs h.1)

-- the next request is the next that was answered
pub agree-next : (past : List Answered) (q : Request) (x : Answered) (left : List Answered) → Agree (requests_of past ++ q ∷ []) (past ++ x ∷ left) → q ≡ x.request
agree-next [] q x left h = h.0
agree-next (y ∷ past) q x left h = agree-next past q x left h.1

pub agree-grown : (s s' : State) (xs : List Answered) → AskedGrow s s' → Agree s'.asked xs → Agree s.asked xs
agree-grown s s' xs more h = agree-front s.asked more.0 xs (subst (λ qs. Agree qs xs) more.1 h)

-- what agrees after a part does so before
agree-before : {A C : Type 0} (c : Completion A) (f : A → Action C) (xs : List Answered) → ((x : A) → Grows (f x)) → Agree (final (go_on c f)).asked xs → Agree (final c).asked xs
agree-before (normal x s) f xs k agree = agree-grown s (final (f x s)) xs (grown (f x) (k x) s) agree
agree-before (early r s) f xs k agree = agree

-- after those that were in time all is
pub in-time-for : (past left : List Answered) → AreAllInTime past → AreInTimeFor (requests_of past) (past ++ left)
in-time-for [] left h = tt
in-time-for (x ∷ past) left h = (h.0, in-time-for past left h.1)

-- also where the last request has no reply
pub in-time-lacking : (past : List Answered) (q : Request) → AreAllInTime past → AreInTimeFor (requests_of past ++ q ∷ []) past
in-time-lacking [] q h = tt
in-time-lacking (x ∷ past) q h = (h.0, in-time-lacking past q h.1)

-- one part of the run without a core and then another
abbrev pub after : {B D : Type 0} → S.Action B → (B → S.Action D) → S.Action D
after n g a = S.go_on (n a) g

-- from each state that is stood for, where the requests are those that were answered, the ends meet
pub record Follows (session : Session) {A B : Type 0} (good : A → B → Type 0) (m : Action A) (n : S.Action B) : Type 0 where
  pub grows : Grows m
  pub from : (s : State) (a : S.State) → Stands session s a → Agree (final (m s)).asked session.world → Meets session good (m s) (n a)

-- so does a part without a value
abbrev pub FollowsPart : Session → Action ⊤ → S.Action ⊤ → Type 0
FollowsPart session m n = Follows session {A = ⊤} {B = ⊤} Any m n

-- each value has one in the other run
abbrev pub IsTotal : {A B : Type 0} → (A → B → Type 0) → Type 0
IsTotal {A} {B} good = (x : A) → (y : B) × good x y

module _ {session : Session} where
  pub safe : {s : State} {a : S.State} → Stands session s a → IsSafe session s
  safe {s} st =
      let here : AreInTimeFor (requests_of st.past) (st.past ++ st.left) = in-time-for st.past st.left st.in_time in
      let there : AreInTimeFor (requests_of st.past) session.world = subst (λ xs. AreInTimeFor (requests_of st.past) xs) (sym st.whole) here in
      subst (λ qs. AreInTimeFor qs session.world) (sym st.asked) there

  meets_go_on : {A B C D : Type 0} {good : A → B → Type 0} {better : C → D → Type 0} {c : Completion A} {d : S.Completion B} {f : A → Action C} {g : B → S.Action D}
      → Meets session good c d
      → ((x : A) (y : B) (s : State) (a : S.State) → good x y → Stands session s a → Agree (final (f x s)).asked session.world → Meets session better (f x s) (g y a))
      → Agree (final (go_on c f)).asked session.world → Meets session better (go_on c f) (S.go_on d g)
  meets_go_on (stopped verdict a) k agree = stopped verdict a
  meets_go_on (normally h st) k agree = k _ _ _ _ h st agree
  meets_go_on (alike ends st) k agree = alike ends st
  meets_go_on (only ends safe) k agree = only ends safe

  -- one part and then another
  pub follows_after : {A B C D : Type 0} {good : A → B → Type 0} {better : C → D → Type 0} {m : Action A} {n : S.Action B} {f : A → Action C} {g : B → S.Action D}
      → Follows session good m n → ((x : A) → Grows (f x)) → ((x : A) (y : B) → good x y → Follows session better (f x) (g y))
      → Follows session better (m >>= f) (after n g)
  follows_after {m} {f} h grows k = record {
    grows = keeps_bind AskedGrow AskedGrow asked_grow h.grows grows;
    from = λ s a st agree. meets_go_on (h.from s a st (agree-before (m s) f session.world grows agree)) (λ x y s' a' gd st' ag. (k x y gd).from s' a' st' ag) agree;
  }

  -- where each value of the one has one of the other, what goes on from it grows as that does
  pub follows_bind : {A B C D : Type 0} {good : A → B → Type 0} {better : C → D → Type 0} {m : Action A} {n : S.Action B} {f : A → Action C} {g : B → S.Action D}
      → IsTotal good → Follows session good m n → ((x : A) (y : B) → good x y → Follows session better (f x) (g y))
      → Follows session better (m >>= f) (after n g)
  follows_bind total h k = follows_after h (λ x. (k x (total x).0 (total x).1).grows) k

  pub follows_then : {A B C D : Type 0} {good : A → B → Type 0} {better : C → D → Type 0} {m : Action A} {n : S.Action B} {k : Action C} {l : S.Action D}
      → Follows session good m n → Follows session better k l → Follows session better (m >> k) (after n (λ y. l))
  follows_then h k = record {
    grows = keeps_then AskedGrow AskedGrow asked_grow h.grows k.grows;
    from = (follows_after h (λ x. k.grows) (λ x y same. k)).from;
  }
