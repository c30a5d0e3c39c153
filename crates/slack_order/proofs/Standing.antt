-- A state of the run at the smaller cost and the greater depth lies inside one of the other run: its spans lie inside the
-- other's, its limit isn't above the other's, and all else is alike.
use Rattle.std.proofs.Common.{◌≡◌, ℕ, ◌≤◌, List, Option, Some, None}
use Rattle.std.specs.List.{AllZip}
use Rattle.kern_syntax.specs.Tree.{Bytes}
use Rattle.rtio_types.specs.declared.outcome.Exc.{Exc}
use Rattle.slack_meaning.specs.declared.span.Span.{Span}
use Rattle.slack_meaning.specs.declared.span.SpanEvent.{SpanEvent}
use Rattle.slack_meaning.specs.declared.verdict.Stopped.{Stopped}
use Rattle.slack_meaning.specs.Actions.{SpanRecording, Held, number, list, State, Reason, break, continue, return, raised, budget, decided, Completion, normal, early}
use Rattle.slack_order.proofs.Inside.{IsInside}

abbrev pub AreInside : List Span → List Span → Type 0
AreInside us vs = AllZip IsInside us vs

pub record IsEventInside (e f : SpanEvent) : Type 0 where
  pub channel : e.channel ≡ f.channel
  pub address : e.address ≡ f.address
  pub value : e.value ≡ f.value
  pub stamp : IsInside e.stamp f.stamp

abbrev pub AreEventsInside : List SpanEvent → List SpanEvent → Type 0
AreEventsInside es fs = AllZip IsEventInside es fs

pub record IsRecordingInside (r t : SpanRecording) : Type 0 where
  pub events : AreEventsInside r.events t.events
  pub length : IsInside r.length t.length

-- what a name holds
abbrev pub IsHeldInside : Held → Held → Type 0
IsHeldInside (number u) (number v) = IsInside u v
IsHeldInside (list us) (list vs) = AreInside us vs
IsHeldInside _ _ = ⊥

-- both are there, or neither
abbrev pub IsThere : {A : Type 0} → (A → A → Type 0) → Option A → Option A → Type 0
IsThere good None None = Unit {0}
IsThere good (Some x) (Some y) = good x y
IsThere good _ _ = ⊥

-- an entry of the same name
pub record IsNamed {A : Type 0} (good : A → A → Type 0) (x y : Bytes × A) : Type 0 where
  pub name : x.0 ≡ y.0
  pub has : good x.1 y.1

abbrev pub AreNamesInside : List (Bytes × Held) → List (Bytes × Held) → Type 0
AreNamesInside xs ys = AllZip (IsNamed IsHeldInside) xs ys

abbrev pub AreSavedInside : List (Bytes × Option SpanRecording) → List (Bytes × Option SpanRecording) → Type 0
AreSavedInside xs ys = AllZip (IsNamed (IsThere IsRecordingInside)) xs ys

-- what a state says of the core
pub record Bounds : Type 0 where
  pub limit : ℕ
  pub least : ℕ
  pub outs : ℕ
  pub saved : List (Bytes × Option SpanRecording)
  pub cost : ℕ
  pub depth : ℕ

abbrev pub bounds_of : State → Bounds
bounds_of a =
    record { limit = a.limit; least = a.least; outs = a.outs; saved = a.saved; cost = a.cost; depth = a.depth }

-- the limit may be less, and is never below the least reading
pub record AreBoundsInside (a b : Bounds) : Type 0 where
  pub limit : a.limit ≤ b.limit
  pub least : a.least ≡ b.least
  pub ordered : a.least ≤ a.limit
  pub outs : a.outs ≡ b.outs
  pub saved : AreSavedInside a.saved b.saved
  pub cost : a.cost ≤ b.cost
  pub depth : b.depth ≤ a.depth

pub record LiesInside (a b : State) : Type 0 where
  pub values : AreNamesInside a.values b.values
  pub cursor : IsInside a.cursor b.cursor
  pub units : a.units ≡ b.units
  pub collected : IsThere AreEventsInside a.collected b.collected
  pub bounds : AreBoundsInside (bounds_of a) (bounds_of b)

-- why both end early
pub data EndsAlike : Reason → Reason → Type 0 where
  by_break : EndsAlike break break
  by_continue : EndsAlike continue continue
  by_return : {u v : Span} → IsInside u v → EndsAlike (return u) (return v)
  by_raising : (x : Exc) → EndsAlike (raised x) (raised x)
  by_budget : EndsAlike budget budget

-- both end alike, or the verdict of the other run stands and nothing is claimed
pub data Meets {A : Type 0} (good : A → A → Type 0) : Completion A → Completion A → Type 0 where
  stopped : {c : Completion A} (verdict : Stopped) (b : State) → Meets good c (early (decided verdict) b)
  normally : {x y : A} {a b : State} → good x y → LiesInside a b → Meets good (normal x a) (normal y b)
  alike : {r s : Reason} {a b : State} → EndsAlike r s → LiesInside a b → Meets good (early r a) (early s b)
