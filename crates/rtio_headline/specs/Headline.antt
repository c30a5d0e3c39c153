-- What a core puts out, in the words of what it was asked.
use Rattle.std.specs.Prelude.{◌≡◌, ℕ, ◌≤◌, ◌<◌, ◌⊎◌, ◌↔◌, Bool, true, false, ◌&&◌, ◌||◌}
use Rattle.std.specs.Prelude.{List, [], ◌∷◌, ◌++◌, map, count_by, nat_lt, int_lt, IsTrue}
use Rattle.std.specs.Ordering.{int_eq}
use Rattle.rtio_types.specs.declared.event.Event.{Event}
use Rattle.rtio_types.specs.declared.request.Request.TheVariants as ask
use Rattle.rtio_types.specs.declared.request.Reply.TheVariants as answer
use Rattle.rtio_types.specs.Board.{replaces}
use Rattle.rtio_types.specs.Time.{cycle_of}
use Rattle.output_merge.specs.Outputs.{LogLists}
use Rattle.rtio_core.specs.declared.data.Act.{Act}
use Rattle.rtio_core.specs.declared.data.Act.TheVariants.{Asked}
use Rattle.rtio_core.specs.declared.data.Entry.{Entry}
use Rattle.rtio_core.specs.Reply.{outputs_at}
use Rattle.rtio_core.specs.Told.{log_at}
use Rattle.rtio_core.specs.Core.{CoreState}

-- the act asks for an output
abbrev pub is_output_act : Act → Bool
is_output_act (Asked (ask.Out e) reply at) = true
is_output_act act = false

-- how many outputs some entries asked for
abbrev pub outputs_asked : List Entry → ℕ
outputs_asked history = count_by (λ (entry : Entry). is_output_act entry.act) history

-- the output that an act submitted: it was asked for and answered Done
abbrev pub done_output : (number : ℕ) → Act → List (ℕ × Event)
done_output number (Asked (ask.Out e) answer.Done at) = (number, e) ∷ []
done_output number act = []

-- the outputs that some entries behind others submitted, each with its number:
-- how many outputs were asked before it, those that came too late among them
abbrev pub submitted_behind : (before rest : List Entry) → List (ℕ × Event)
submitted_behind before [] = []
submitted_behind before (entry ∷ rest) = done_output (outputs_asked before) entry.act ++ submitted_behind (before ++ entry ∷ []) rest

-- the outputs that a history submitted
abbrev pub submitted : List Entry → List (ℕ × Event)
submitted history = submitted_behind [] history

-- an event with its number is one of a list
abbrev pub IsAmong : ℕ × Event → List (ℕ × Event) → Type 0
IsAmong p [] = ⊥
IsAmong p (q ∷ rest) = (p ≡ q) ⊎ IsAmong p rest

-- on a channel that replaces, an event is overridden by a later
-- one of the channel with its stamp that isn't out of sequence
pub record IsOverridden (events : List (ℕ × Event)) (log : LogLists) (p : ℕ × Event) : Type 0 where
  pub replacing : IsTrue (replaces p.1.channel)
  pub other : ℕ × Event
  pub asked : IsAmong other events
  pub in_sequence : ¬ IsAmong other log.sequence
  pub later : p.0 < other.0
  pub channel : other.1.channel ≡ p.1.channel
  pub stamp : other.1.stamp ≡ p.1.stamp

-- the log names an event: as a sequence error, a collision, busy or cleared
abbrev pub IsNamed : LogLists → ℕ × Event → Type 0
IsNamed log p = IsAmong p log.sequence ⊎ (IsAmong p log.collided ⊎ (IsAmong p log.busy ⊎ IsAmong p log.cleared))

-- an event is put out: it was submitted, the counter has reached
-- its cycle, and it is neither overridden nor named by the log
pub record IsPutOut (core : CoreState) (p : ℕ × Event) : Type 0 where
  pub asked : IsAmong p (submitted core.history)
  pub reached : cycle_of p.1 ≤ core.counter
  pub kept : ¬ IsOverridden (submitted core.history) (log_at core.config core.history core.counter) p
  pub unnamed : ¬ IsNamed (log_at core.config core.history core.counter) p

-- by stamp, and of one stamp by channel
abbrev pub is_before : Event → Event → Bool
is_before e f = int_lt e.stamp f.stamp || (int_eq e.stamp f.stamp && nat_lt e.channel f.channel)

-- each event comes before the next
abbrev pub AreInOrder : List Event → Type 0
AreInOrder [] = Unit {0}
AreInOrder (e ∷ []) = Unit {0}
AreInOrder (e ∷ f ∷ rest) = (is_before e f ≡ true) × AreInOrder (f ∷ rest)

-- the events put out up to the counter are, in the order of their stamps, exactly
-- those submitted up to it, less those overridden and those that the log names
pub record PutsOut (core : CoreState) : Type 0 where
  pub events : List (ℕ × Event)
  pub are : map (λ p. p.1) events ≡ outputs_at core.config core.history core.counter
  pub in_order : AreInOrder (outputs_at core.config core.history core.counter)
  pub exactly : (p : ℕ × Event) → IsAmong p events ↔ IsPutOut core p

-- no event with this number is put out, and the log names none
pub record IsNowhere (core : CoreState) (number : ℕ) : Type 0 where
  pub put_out : (e : Event) → ¬ IsPutOut core (number, e)
  pub named : (e : Event) → ¬ IsNamed (log_at core.config core.history core.counter) (number, e)

-- an output behind some entries underflows exactly where the counter has reached its
-- cycle, and then no event put out and no line of the log has its number
abbrev pub UnderflowsExactly : CoreState → (before : List Entry) → Act → Type 0
UnderflowsExactly core before (Asked (ask.Out e) reply at) =
    ((reply ≡ answer.Underflow) ↔ (cycle_of e ≤ at))
    × (reply ≡ answer.Underflow → IsNowhere core (outputs_asked before))
UnderflowsExactly core before act = Unit {0}

-- the headline: what is put out is what was submitted, and what came too late wasn't
pub record Headline (core : CoreState) : Type 0 where
  pub outputs : PutsOut core
  pub underflows : (before rest : List Entry) (entry : Entry) → core.history ≡ before ++ entry ∷ rest → UnderflowsExactly core before entry.act
