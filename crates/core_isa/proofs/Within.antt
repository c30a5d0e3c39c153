-- What each part of an instruction does to the requests made and the units left together.
use Rattle.std.proofs.Common.{◌≡◌, ℕ, suc, zero, ◌+◌, ◌≤◌, List, [], ◌∷◌, ◌++◌, length, Bool, true, false, Option, Some, None, refl, arith, length-append}
use Rattle.std.specs.Prelude.{ℤ}
use Rattle.rtio_types.specs.declared.event.Event.{Event}
use Rattle.rtio_types.specs.declared.outcome.Exc.{Exc}
use Rattle.rtio_types.specs.declared.request.Request.{Request}
use Rattle.rtio_types.specs.declared.request.Request.TheVariants as Q
use Rattle.rtio_types.specs.declared.request.Reply.{Reply}
use Rattle.rtio_types.specs.declared.request.Reply.TheVariants as R
use Rattle.rtio_types.specs.Replies.{raised_by, number_in}
use Rattle.rtio_types.specs.Time.{shifted}
use Rattle.core_isa.specs.Machine.{HandlerPoint, Frame, Machine, Next, goes, ends, stuck, raised, next, push, opened_by, opened_since, drop_if, raise_at, raise_in, raise, at_frame, raise_or, answered, unit_of, unit_then, ask_then, request_then}
use Rattle.core_isa.specs.Steps.{ask_number, ask_only, play_events, play_reply, play}

-- the requests so far and the units left are no more than there were units
abbrev pub Within : ℕ → Machine → Type 0
Within total m = length m.asked + m.units ≤ total

-- so it is with what a step leads to or ends in
abbrev pub StaysWithin : ℕ → Next → Type 0
StaysWithin total (goes m) = Within total m
StaysWithin total (ends outcome m) = Within total m
StaysWithin total stuck = Unit {0}

pub drop_if_within : (total : ℕ) (dropped : Bool) (m : Machine) → Within total m → Within total (drop_if dropped m)
drop_if_within total false m within = within
drop_if_within total true m within = within

-- raising
pub raise_at_within : (total : ℕ) (x : Exc) (handlers : List HandlerPoint) (m : Machine) (otherwise : Next) → Within total m → StaysWithin total otherwise → StaysWithin total (raise_at x handlers m otherwise)
raise_at_within total x [] m otherwise within other = other
raise_at_within total x (handler ∷ rest) m otherwise within other =
    drop_if_within total (opened_since handler m) m within

pub raise_in_within : (total : ℕ) (x : Exc) (callers : List Frame) (frame : Frame) (m : Machine) → Within total m → StaysWithin total (raise_in x frame callers m)
raise_in_within total x [] frame m within =
    raise_at_within
    total
    x
    frame.handlers
    (at_frame frame [] m)
    (ends (raised x) (drop_if (opened_by 0 m.recording) (at_frame frame [] m)))
    within
    (drop_if_within total (opened_by 0 m.recording) (at_frame frame [] m) within)
raise_in_within total x (caller ∷ callers) frame m within =
    raise_at_within
    total
    x
    frame.handlers
    (at_frame frame (caller ∷ callers) m)
    (raise_in x caller callers (drop_if (opened_by (suc (length callers)) m.recording) m))
    within
    (raise_in_within
    total
    x
    callers
    caller
    (drop_if (opened_by (suc (length callers)) m.recording) m)
    (drop_if_within total (opened_by (suc (length callers)) m.recording) m within))

pub raise_within : (total : ℕ) (x : Exc) (m : Machine) → Within total m → StaysWithin total (raise x m)
raise_within total x m within = raise_in_within total x m.callers m.top m within

-- a unit
pub unit_within : (total : ℕ) (go : Machine → Next) (m : Machine) → Within total m → ((left : ℕ) → suc left ≡ m.units → StaysWithin total (go (record m { units = left }))) → StaysWithin total (unit_then go m)
unit_within total go m within on = by_units m.units refl
  where
    by_units : (n : ℕ) → n ≡ m.units → StaysWithin total (unit_of n go m)
    by_units zero same = within
    by_units (suc left) same = on left same

-- a request whose unit is taken
pub ask_within : (total : ℕ) (request : Request) (go : Reply → Machine → Next) (m : Machine)
    → length m.asked + m.units + 1 ≤ total
    → ((reply : Reply) (replies : List Reply)
    → length (m.asked ++ request ∷ []) + m.units ≤ total
    → StaysWithin total (go reply (record m { asked = m.asked ++ request ∷ []; replies = replies })))
    → StaysWithin total (ask_then request go m)
ask_within total request go m within on = by_replies m.replies
  where
    now : length (m.asked ++ request ∷ []) + m.units ≤ total
    now = simp length-append (omega (arith, within))

    by_raised : (reply : Reply) (replies : List Reply) (o : Option Exc) → StaysWithin total (raise_or o (go reply) (record m { asked = m.asked ++ request ∷ []; replies = replies }))
    by_raised reply replies None = on reply replies now
    by_raised reply replies (Some x) =
        raise_within total x (record m { asked = m.asked ++ request ∷ []; replies = replies }) now

    by_replies : (replies : List Reply) → StaysWithin total (answered replies go (record m { asked = m.asked ++ request ∷ [] }))
    by_replies [] = now
    by_replies (reply ∷ replies) = by_raised reply replies (raised_by reply)

-- a whole request
pub request_within : (total : ℕ) (request : Request) (go : Reply → Machine → Next) (m : Machine)
    → Within total m
    → ((reply : Reply) (left : ℕ) (replies : List Reply)
    → length (m.asked ++ request ∷ []) + left ≤ total
    → StaysWithin total (go reply (record m { units = left; asked = m.asked ++ request ∷ []; replies = replies })))
    → StaysWithin total (request_then request go m)
request_within total request go m within on =
    unit_within
    total
    (ask_then request go)
    m
    within
    (λ left taken.
    ask_within
    total
    request
    go
    (record m { units = left })
    (omega (arith, within, taken))
    (λ reply replies later. on reply left replies later))

pub number_within : (total : ℕ) (request : Request) (m : Machine) → Within total m → StaysWithin total (ask_number request m)
number_within total request m within =
    request_within total request (λ reply. push (number_in reply)) m within (λ reply left replies later. later)

pub only_within : (total : ℕ) (request : Request) (m : Machine) → Within total m → StaysWithin total (ask_only request m)
only_within total request m within =
    request_within total request (λ reply. next) m within (λ reply left replies later. later)

-- the events of a playback
pub events_within : (total : ℕ) (events : List Event) (length' : ℤ) (m : Machine) → Within total m → StaysWithin total (play_events events length' m)
events_within total [] length' m within = within
events_within total (event ∷ rest) length' m within =
    request_within
    total
    (Q.Out (shifted event m.cursor))
    (λ reply. play_events rest length')
    m
    within
    (λ reply left replies later.
    events_within
    total
    rest
    length'
    (record m { units = left; asked = m.asked ++ Q.Out (shifted event m.cursor) ∷ []; replies = replies })
    later)

pub play_within : (total : ℕ) (request : Request) (m : Machine) → Within total m → StaysWithin total (play request m)
play_within total request m within =
    request_within
    total
    request
    play_reply
    m
    within
    (λ reply left replies later. by_reply reply left replies later)
  where
    by_reply : (reply : Reply) (left : ℕ) (replies : List Reply)
        → length (m.asked ++ request ∷ []) + left ≤ total
        → StaysWithin total (play_reply reply (record m { units = left; asked = m.asked ++ request ∷ []; replies = replies }))
    by_reply (R.Trace recording) left replies later =
        events_within
        total
        recording.events
        recording.length
        (record m { units = left; asked = m.asked ++ request ∷ []; replies = replies })
        later
    by_reply reply left replies later = later
