-- What the parts of an instruction leave as they are: the count of instructions, and until a request has its reply the place.
use Rattle.std.proofs.Common.{◌≡◌, ℕ, suc, zero, ◌≤◌, List, [], ◌∷◌, ◌++◌, length, Bool, true, false, Option, Some, None, arith}
use Rattle.std.specs.Prelude.{ℤ}
use Rattle.rtio_types.specs.declared.event.Event.{Event}
use Rattle.rtio_types.specs.declared.outcome.Exc.{Exc}
use Rattle.rtio_types.specs.declared.request.Request.{Request}
use Rattle.rtio_types.specs.declared.request.Request.TheVariants as Q
use Rattle.rtio_types.specs.declared.request.Reply.{Reply}
use Rattle.rtio_types.specs.declared.request.Reply.TheVariants as R
use Rattle.rtio_types.specs.Replies.{raised_by, number_in}
use Rattle.rtio_types.specs.Time.{shifted}
use Rattle.core_isa.specs.Machine.{HandlerPoint, Frame, Machine, Next, goes, ends, stuck, returned, raised, budget, unanswered, next, push, opened_by, opened_since, drop_if, raise_at, raise_in, raise, at_frame, raise_or, answered, unit_of, unit_then, ask_then, request_then}
use Rattle.core_isa.specs.Steps.{ask_number, ask_only, play_events, play_reply, play}

-- as many instructions have begun, and no more replies are left
abbrev pub Counts : (old m : Machine) → Type 0
Counts old m = (m.steps ≡ old.steps) × (length m.replies ≤ length old.replies)

-- and the machine stands where it stood
abbrev pub Keeps : (old m : Machine) → Type 0
Keeps old m = (m.top.place ≡ old.top.place) × (m.callers ≡ old.callers) × (m.steps ≡ old.steps) × (length m.replies ≤ length old.replies)

-- so it is with what an instruction leads to; where it lacks a reply the machine stands at it
abbrev pub Leaves : (old : Machine) → Next → Type 0
Leaves old (goes m) = Counts old m
Leaves old (ends returned m) = m.steps ≡ old.steps
Leaves old (ends (raised x) m) = m.steps ≡ old.steps
Leaves old (ends budget m) = m.steps ≡ old.steps
Leaves old (ends unanswered m) = Keeps old m
Leaves old stuck = Unit {0}

module _ (old : Machine) where
  drop_if_counts : (dropped : Bool) (m : Machine) → Counts old m → Counts old (drop_if dropped m)
  drop_if_counts false m so = so
  drop_if_counts true m so = so

  -- raising
  raise_at_leaves : (x : Exc) (handlers : List HandlerPoint) (m : Machine) (otherwise : Next) → Counts old m → Leaves old otherwise → Leaves old (raise_at x handlers m otherwise)
  raise_at_leaves x [] m otherwise so other = other
  raise_at_leaves x (handler ∷ rest) m otherwise so other = drop_if_counts (opened_since handler m) m so

  raise_in_leaves : (x : Exc) (callers : List Frame) (frame : Frame) (m : Machine) → Counts old m → Leaves old (raise_in x frame callers m)
  raise_in_leaves x [] frame m so =
      raise_at_leaves
      x
      frame.handlers
      (at_frame frame [] m)
      (ends (raised x) (drop_if (opened_by 0 m.recording) (at_frame frame [] m)))
      so
      (drop_if_counts (opened_by 0 m.recording) (at_frame frame [] m) so).0
  raise_in_leaves x (caller ∷ callers) frame m so =
      raise_at_leaves
      x
      frame.handlers
      (at_frame frame (caller ∷ callers) m)
      (raise_in x caller callers (drop_if (opened_by (suc (length callers)) m.recording) m))
      so
      (raise_in_leaves
      x
      callers
      caller
      (drop_if (opened_by (suc (length callers)) m.recording) m)
      (drop_if_counts (opened_by (suc (length callers)) m.recording) m so))

  pub raise_leaves : (x : Exc) (m : Machine) → Counts old m → Leaves old (raise x m)
  raise_leaves x m so = raise_in_leaves x m.callers m.top m so

  -- a unit
  pub unit_leaves : (go : Machine → Next) (m : Machine) → m.steps ≡ old.steps → ((left : ℕ) → Leaves old (go (record m { units = left }))) → Leaves old (unit_then go m)
  unit_leaves go m so on = by_units m.units
    where
      by_units : (n : ℕ) → Leaves old (unit_of n go m)
      by_units zero = so
      by_units (suc left) = on left

  -- a request whose unit is taken
  pub ask_leaves : (request : Request) (go : Reply → Machine → Next) (m : Machine)
      → Keeps old m
      → ((reply : Reply) (replies : List Reply) → length replies ≤ length old.replies → Leaves old (go reply (record m { asked = m.asked ++ request ∷ []; replies = replies })))
      → Leaves old (ask_then request go m)
  ask_leaves request go m so on = by_replies m.replies so.3
    where
      by_raised : (reply : Reply) (replies : List Reply) → length replies ≤ length old.replies → (o : Option Exc) → Leaves old (raise_or o (go reply) (record m { asked = m.asked ++ request ∷ []; replies = replies }))
      by_raised reply replies few None = on reply replies few
      by_raised reply replies few (Some x) =
          raise_leaves x (record m { asked = m.asked ++ request ∷ []; replies = replies }) (so.2, few)

      by_replies : (replies : List Reply) → length replies ≤ length old.replies → Leaves old (answered replies go (record m { asked = m.asked ++ request ∷ [] }))
      by_replies [] few = so
      by_replies (reply ∷ replies) few = by_raised reply replies (omega (arith, few)) (raised_by reply)

  -- a whole request
  request_leaves : (request : Request) (go : Reply → Machine → Next) (m : Machine)
      → Keeps old m
      → ((reply : Reply) (left : ℕ) (replies : List Reply)
      → length replies ≤ length old.replies
      → Leaves old (go reply (record m { units = left; asked = m.asked ++ request ∷ []; replies = replies })))
      → Leaves old (request_then request go m)
  request_leaves request go m so on =
      unit_leaves
      (ask_then request go)
      m
      so.2
      (λ left. ask_leaves request go (record m { units = left }) so (λ reply replies few. on reply left replies few))

  pub number_leaves : (request : Request) (m : Machine) → Keeps old m → Leaves old (ask_number request m)
  number_leaves request m so =
      request_leaves request (λ reply. push (number_in reply)) m so (λ reply left replies few. (so.2, few))

  pub only_leaves : (request : Request) (m : Machine) → Keeps old m → Leaves old (ask_only request m)
  only_leaves request m so = request_leaves request (λ reply. next) m so (λ reply left replies few. (so.2, few))

  -- the events of a playback
  pub events_leave : (events : List Event) (length' : ℤ) (m : Machine) → Keeps old m → Leaves old (play_events events length' m)
  events_leave [] length' m so = (so.2, so.3)
  events_leave (event ∷ rest) length' m so =
      request_leaves
      (Q.Out (shifted event m.cursor))
      (λ reply. play_events rest length')
      m
      so
      (λ reply left replies few.
      events_leave
      rest
      length'
      (record m { units = left; asked = m.asked ++ Q.Out (shifted event m.cursor) ∷ []; replies = replies })
      (so.0, so.1, so.2, few))

  pub play_leaves : (request : Request) (m : Machine) → Keeps old m → Leaves old (play request m)
  play_leaves request m so = request_leaves request play_reply m so by_reply
    where
      by_reply : (reply : Reply) (left : ℕ) (replies : List Reply)
          → length replies ≤ length old.replies
          → Leaves old (play_reply reply (record m { units = left; asked = m.asked ++ request ∷ []; replies = replies }))
      by_reply (R.Trace recording) left replies few =
          events_leave
          recording.events
          recording.length
          (record m { units = left; asked = m.asked ++ request ∷ []; replies = replies })
          (so.0, so.1, so.2, few)
      by_reply reply left replies few = (so.2, few)
