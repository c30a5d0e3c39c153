-- What a run does with a recording that a reply brought.
use Rattle.std.proofs.Common.{◌≡◌, ◌⊎◌, inl, inr, ℕ, suc, zero, List, [], ◌∷◌, ◌++◌, true, Option, Some, None, refl, sym, ap, ◌∙◌, append-nil, append_assoc}
use Rattle.std.specs.Prelude.{ℤ, is_some}
use Rattle.rtio_types.specs.declared.event.Event.{Event}
use Rattle.rtio_types.specs.declared.outcome.Exc.{Exc}
use Rattle.rtio_types.specs.declared.request.Request.{Request}
use Rattle.rtio_types.specs.declared.request.Request.TheVariants as Q
use Rattle.rtio_types.specs.declared.request.Reply.{Reply}
use Rattle.rtio_types.specs.Replies.{raised_by}
use Rattle.rtio_types.specs.Time.{shifted}
use Rattle.core_isa.specs.declared.code.Code.{Code}
use Rattle.core_isa.specs.Machine.{Machine, MachineEnd, Next, goes, ends, stuck, budget, unanswered, raise, raise_or, answered, unit_of, ask_then}
use Rattle.core_isa.specs.Runs.{Ran, Gives, go_on, steps}
use Rattle.core_isa.specs.Steps.{play_events}
use Rattle.code_replies.proofs.Grows.{go_on_keeps, steps_keeps}
use Rattle.code_replies.proofs.Kept.{StaysKept, raise_keeps}
use Rattle.kernel_session.specs.Replays.{played_at}

-- the same of a run: the outputs stop at one whose reply raises
abbrev pub Replayed : List Event → List Reply → List Request → MachineEnd → Type 0
Replayed [] replies requests how = Unit {0}
Replayed (e ∷ events) replies [] how = how ≡ budget
Replayed (e ∷ events) [] (request ∷ requests) how = (request ≡ Q.Out e) × (requests ≡ []) × (how ≡ unanswered)
Replayed (e ∷ events) (reply ∷ replies) (request ∷ requests) how =
    (request ≡ Q.Out e) × ((is_some (raised_by reply) ≡ true) ⊎ Replayed events replies requests how)

-- the requests begin with those made before, and the others are those of the recording
pub record PlaysOn (first : List Request) (events : List Event) (replies : List Reply) (ran : Ran) : Type 0 where
  pub own : List Request
  pub is : ran.requests ≡ first ++ own
  pub replayed : Replayed events replies own ran.outcome

module _ (code : Code) (k : ℕ) (b : Ran) where
  -- a run that keeps some requests begins with them
  begins : (first : List Request) (n : Next) → StaysKept first n → Gives (go_on n (steps code k)) b → (own : List Request) × (b.requests ≡ first ++ own)
  begins first n kept gives = by_end (go_on n (steps code k)) (go_on_keeps first code n (steps code k) kept (λ now later. steps_keeps first code k now later)) gives
    where
      by_end : (n : Next) → StaysKept first n → Gives n b → (own : List Request) × (b.requests ≡ first ++ own)
      by_end (goes m) kept gives = absurd gives
      by_end (ends outcome m) kept gives = (kept.own, ap (λ (r : Ran). r.requests) gives ∙ kept.is)
      by_end stuck kept gives = absurd gives

  -- the rest of a run that plays the events of a recording
  pub plays_on : (events : List Event) (length' : ℤ) (m : Machine) → Gives (go_on (play_events events length' m) (steps code k)) b → PlaysOn m.asked (played_at m.cursor events) m.replies b
  plays_on [] length' m gives =
      let own = begins m.asked (play_events [] length' m) (record { own = []; is = sym (append-nil m.asked) }) gives in
      record { own = own.0; is = own.1; replayed = tt }
  plays_on (event ∷ events) length' m gives = by_units m.units (plays_on events length') gives
    where
      e : Event
      e = shifted event m.cursor

      request : Request
      request = Q.Out e

      asked : List Request
      asked = m.asked ++ request ∷ []

      after : Reply → Machine → Next
      after reply = play_events events length'

      on : (own : List Request) → b.requests ≡ asked ++ own → b.requests ≡ m.asked ++ request ∷ own
      on own is = is ∙ append_assoc m.asked (request ∷ []) own

      Rest : Type 0
      Rest = (m' : Machine) → Gives (go_on (play_events events length' m') (steps code k)) b → PlaysOn m'.asked (played_at m'.cursor events) m'.replies b

      by_raised : (left : ℕ) (reply : Reply) (replies : List Reply) (o : Option Exc) → raised_by reply ≡ o
          → Rest
          → Gives (go_on (raise_or o (after reply) (record m { units = left; asked = asked; replies = replies })) (steps code k)) b
          → PlaysOn m.asked (e ∷ played_at m.cursor events) (reply ∷ replies) b
      by_raised left reply replies (Some x) raises rest gives =
          let m' : Machine = record m { units = left; asked = asked; replies = replies } in
          let own = begins asked (raise x m') (raise_keeps asked x m' (record { own = []; is = sym (append-nil asked) })) gives in
          record { own = request ∷ own.0; is = on own.0 own.1; replayed = (refl, inl (ap is_some raises)) }
      by_raised left reply replies None raises rest gives =
          let others = rest (record m { units = left; asked = asked; replies = replies }) gives in
          record { own = request ∷ others.own; is = on others.own others.is; replayed = (refl, inr others.replayed) }

      by_replies : (left : ℕ) (replies : List Reply) → Rest → Gives (go_on (answered replies after (record m { units = left; asked = asked; replies = replies })) (steps code k)) b → PlaysOn m.asked (e ∷ played_at m.cursor events) replies b
      by_replies left [] rest gives =
          record { own = request ∷ []; is = ap (λ (r : Ran). r.requests) gives; replayed = (refl, refl, ap (λ (r : Ran). r.outcome) gives) }
      by_replies left (reply ∷ replies) rest gives = by_raised left reply replies (raised_by reply) refl rest gives

      by_units : (n : ℕ) → Rest → Gives (go_on (unit_of n (ask_then request after) m) (steps code k)) b → PlaysOn m.asked (e ∷ played_at m.cursor events) m.replies b
      by_units zero rest gives =
          record { own = []; is = ap (λ (r : Ran). r.requests) gives ∙ sym (append-nil m.asked); replayed = ap (λ (r : Ran). r.outcome) gives }
      by_units (suc left) rest gives = by_replies left m.replies rest gives
