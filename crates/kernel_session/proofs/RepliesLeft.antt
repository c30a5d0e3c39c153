-- What each part of an instruction does to the requests made and the replies left together.
use Rattle.std.proofs.Common.{◌≡◌, ℕ, suc, zero, ◌+◌, List, [], ◌∷◌, ◌++◌, length, Bool, true, false, Option, Some, None, arith, length-append}
use Rattle.std.specs.Prelude.{ℤ}
use Rattle.rtio_types.specs.declared.event.Event.{Event}
use Rattle.rtio_types.specs.declared.outcome.Exc.{Exc}
use Rattle.rtio_types.specs.declared.request.Request.{Request}
use Rattle.rtio_types.specs.declared.request.Request.TheVariants as Q
use Rattle.rtio_types.specs.declared.request.Reply.{Reply}
use Rattle.rtio_types.specs.declared.request.Reply.TheVariants as R
use Rattle.rtio_types.specs.Replies.{raised_by, number_in}
use Rattle.rtio_types.specs.Time.{shifted}
use Rattle.core_isa.specs.Machine.{HandlerPoint, Frame, Machine, Next, goes, ends, stuck, returned, raised, budget, unanswered, next, push, opened_by, opened_since, drop_if, raise_at, raise_in, raise, at_frame, raise_or, answered, unit_of, unit_then, ask_then, request_then}
use Rattle.core_isa.specs.Steps.{ask_number, ask_only, play_events, play_reply, play}

-- the requests made and the replies left are together so many
abbrev pub AreTogether : ℕ → List Request → List Reply → Type 0
AreTogether total asked replies = length asked + length replies ≡ total

abbrev pub Together : ℕ → Machine → Type 0
Together total m = AreTogether total m.asked m.replies

-- so they stay; where a reply is lacking there is one request more
abbrev pub StaysTogether : ℕ → Next → Type 0
StaysTogether total (goes m) = Together total m
StaysTogether total (ends returned m) = Together total m
StaysTogether total (ends (raised x) m) = Together total m
StaysTogether total (ends budget m) = Together total m
StaysTogether total (ends unanswered m) = length m.asked ≡ total + 1
StaysTogether total stuck = Unit {0}

module _ (total : ℕ) where
  drop_together : (dropped : Bool) (m : Machine) → Together total m → Together total (drop_if dropped m)
  drop_together false m so = so
  drop_together true m so = so

  -- raising
  raise_at_together : (x : Exc) (handlers : List HandlerPoint) (m : Machine) (otherwise : Next) → Together total m → StaysTogether total otherwise → StaysTogether total (raise_at x handlers m otherwise)
  raise_at_together x [] m otherwise so other = other
  raise_at_together x (handler ∷ rest) m otherwise so other = drop_together (opened_since handler m) m so

  raise_in_together : (x : Exc) (callers : List Frame) (frame : Frame) (m : Machine) → Together total m → StaysTogether total (raise_in x frame callers m)
  raise_in_together x [] frame m so =
      raise_at_together
      x
      frame.handlers
      (at_frame frame [] m)
      (ends (raised x) (drop_if (opened_by 0 m.recording) (at_frame frame [] m)))
      so
      (drop_together (opened_by 0 m.recording) (at_frame frame [] m) so)
  raise_in_together x (caller ∷ callers) frame m so =
      raise_at_together
      x
      frame.handlers
      (at_frame frame (caller ∷ callers) m)
      (raise_in x caller callers (drop_if (opened_by (suc (length callers)) m.recording) m))
      so
      (raise_in_together x callers caller (drop_if (opened_by (suc (length callers)) m.recording) m) (drop_together (opened_by (suc (length callers)) m.recording) m so))

  pub raise_together : (x : Exc) (m : Machine) → Together total m → StaysTogether total (raise x m)
  raise_together x m so = raise_in_together x m.callers m.top m so

  -- a unit
  pub unit_together : (go : Machine → Next) (m : Machine) → Together total m → ((left : ℕ) → StaysTogether total (go (record m { units = left }))) → StaysTogether total (unit_then go m)
  unit_together go m so on = by_units m.units
    where
      by_units : (n : ℕ) → StaysTogether total (unit_of n go m)
      by_units zero = so
      by_units (suc left) = on left

  -- a request whose unit is taken
  pub ask_together : (request : Request) (go : Reply → Machine → Next) (m : Machine)
      → Together total m
      → ((reply : Reply) (m' : Machine) → Together total m' → StaysTogether total (go reply m'))
      → StaysTogether total (ask_then request go m)
  ask_together request go m so on = by_replies m.replies so
    where
      by_raised : (reply : Reply) (replies : List Reply) → AreTogether total (m.asked ++ request ∷ []) replies → (o : Option Exc)
          → StaysTogether total (raise_or o (go reply) (record m { asked = m.asked ++ request ∷ []; replies = replies }))
      by_raised reply replies so None = on reply (record m { asked = m.asked ++ request ∷ []; replies = replies }) so
      by_raised reply replies so (Some x) = raise_together x (record m { asked = m.asked ++ request ∷ []; replies = replies }) so

      by_replies : (replies : List Reply) → AreTogether total m.asked replies → StaysTogether total (answered replies go (record m { asked = m.asked ++ request ∷ [] }))
      by_replies [] so = simp length-append (omega (arith, so))
      by_replies (reply ∷ replies) so = by_raised reply replies (simp length-append (omega (arith, so))) (raised_by reply)

  -- a whole request
  pub request_together : (request : Request) (go : Reply → Machine → Next) (m : Machine)
      → Together total m
      → ((reply : Reply) (m' : Machine) → Together total m' → StaysTogether total (go reply m'))
      → StaysTogether total (request_then request go m)
  request_together request go m so on = unit_together (ask_then request go) m so (λ left. ask_together request go (record m { units = left }) so on)

  pub number_together : (request : Request) (m : Machine) → Together total m → StaysTogether total (ask_number request m)
  number_together request m so = request_together request (λ reply. push (number_in reply)) m so (λ reply m' later. later)

  pub only_together : (request : Request) (m : Machine) → Together total m → StaysTogether total (ask_only request m)
  only_together request m so = request_together request (λ reply. next) m so (λ reply m' later. later)

  -- a playback
  events_together : (events : List Event) (length' : ℤ) (m : Machine) → Together total m → StaysTogether total (play_events events length' m)
  events_together [] length' m so = so
  events_together (event ∷ rest) length' m so =
      request_together (Q.Out (shifted event m.cursor)) (λ reply. play_events rest length') m so (λ reply m' later. events_together rest length' m' later)

  reply_together : (reply : Reply) (m : Machine) → Together total m → StaysTogether total (play_reply reply m)
  reply_together (R.Trace recording) m so = events_together recording.events recording.length m so
  reply_together reply m so = so

  pub play_together : (request : Request) (m : Machine) → Together total m → StaysTogether total (play request m)
  play_together request m so = request_together request play_reply m so reply_together
