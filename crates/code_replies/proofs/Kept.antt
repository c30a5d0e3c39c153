-- What each part of an instruction does to the requests made before it: they stay, and others come behind them.
use Rattle.std.proofs.Common.{◌≡◌, ℕ, suc, zero, List, [], ◌∷◌, ◌++◌, length, Bool, true, false, Option, Some, None, refl, ap, ◌∙◌, append_assoc}
use Rattle.std.specs.Prelude.{ℤ}
use Rattle.rtio_types.specs.declared.event.Event.{Event}
use Rattle.rtio_types.specs.declared.outcome.Exc.{Exc}
use Rattle.rtio_types.specs.declared.request.Request.{Request}
use Rattle.rtio_types.specs.declared.request.Request.TheVariants as Q
use Rattle.rtio_types.specs.declared.request.Reply.{Reply}
use Rattle.rtio_types.specs.declared.request.Reply.TheVariants as R
use Rattle.rtio_types.specs.Replies.{raised_by, number_in}
use Rattle.rtio_types.specs.Time.{shifted}
use Rattle.core_isa.specs.Machine.{HandlerPoint, Frame, Machine, Next, goes, ends, stuck, raised, next, push, opened_by, opened_since, drop_if, raise_at, raise_in, raise, at_frame, raise_or, answered, unit_of, unit_then, ask_then, request_then}
use Rattle.core_isa.specs.Steps.{ask_number, ask_only, play_events, play_reply, play}

-- some requests begin with these
pub record BeginsWith (first whole : List Request) : Type 0 where
  pub own : List Request
  pub is : whole ≡ first ++ own

-- the requests so far do
abbrev pub Keeps : List Request → Machine → Type 0
Keeps first m = BeginsWith first m.asked

one_more : (first whole : List Request) (request : Request) → BeginsWith first whole → BeginsWith first (whole ++ request ∷ [])
one_more first whole request b =
    record { own = b.own ++ request ∷ []; is = ap (λ l. l ++ request ∷ []) b.is ∙ append_assoc first b.own (request ∷ []) }

-- so it is with what a step leads to or ends in
abbrev pub StaysKept : List Request → Next → Type 0
StaysKept first (goes m) = Keeps first m
StaysKept first (ends outcome m) = Keeps first m
StaysKept first stuck = Unit {0}

pub drop_if_keeps : (first : List Request) (dropped : Bool) (m : Machine) → Keeps first m → Keeps first (drop_if dropped m)
drop_if_keeps first false m within = within
drop_if_keeps first true m within = within

-- raising
pub raise_at_keeps : (first : List Request) (x : Exc) (handlers : List HandlerPoint) (m : Machine) (otherwise : Next) → Keeps first m → StaysKept first otherwise → StaysKept first (raise_at x handlers m otherwise)
raise_at_keeps first x [] m otherwise within other = other
raise_at_keeps first x (handler ∷ rest) m otherwise within other =
    drop_if_keeps first (opened_since handler m) m within

pub raise_in_keeps : (first : List Request) (x : Exc) (callers : List Frame) (frame : Frame) (m : Machine) → Keeps first m → StaysKept first (raise_in x frame callers m)
raise_in_keeps first x [] frame m within =
    raise_at_keeps
    first
    x
    frame.handlers
    (at_frame frame [] m)
    (ends (raised x) (drop_if (opened_by 0 m.recording) (at_frame frame [] m)))
    within
    (drop_if_keeps first (opened_by 0 m.recording) (at_frame frame [] m) within)
raise_in_keeps first x (caller ∷ callers) frame m within =
    raise_at_keeps
    first
    x
    frame.handlers
    (at_frame frame (caller ∷ callers) m)
    (raise_in x caller callers (drop_if (opened_by (suc (length callers)) m.recording) m))
    within
    (raise_in_keeps
    first
    x
    callers
    caller
    (drop_if (opened_by (suc (length callers)) m.recording) m)
    (drop_if_keeps first (opened_by (suc (length callers)) m.recording) m within))

pub raise_keeps : (first : List Request) (x : Exc) (m : Machine) → Keeps first m → StaysKept first (raise x m)
raise_keeps first x m within = raise_in_keeps first x m.callers m.top m within

-- a unit
pub unit_keeps : (first : List Request) (go : Machine → Next) (m : Machine) → Keeps first m → ((left : ℕ) → suc left ≡ m.units → StaysKept first (go (record m { units = left }))) → StaysKept first (unit_then go m)
unit_keeps first go m within on = by_units m.units refl
  where
    by_units : (n : ℕ) → n ≡ m.units → StaysKept first (unit_of n go m)
    by_units zero same = within
    by_units (suc left) same = on left same

-- a request whose unit is taken
pub ask_keeps : (first : List Request) (request : Request) (go : Reply → Machine → Next) (m : Machine)
    → Keeps first m
    → ((reply : Reply) (replies : List Reply)
    → BeginsWith first (m.asked ++ request ∷ [])
    → StaysKept first (go reply (record m { asked = m.asked ++ request ∷ []; replies = replies })))
    → StaysKept first (ask_then request go m)
ask_keeps first request go m within on = by_replies m.replies
  where
    now : BeginsWith first (m.asked ++ request ∷ [])
    now = one_more first m.asked request within

    by_raised : (reply : Reply) (replies : List Reply) (o : Option Exc) → StaysKept first (raise_or o (go reply) (record m { asked = m.asked ++ request ∷ []; replies = replies }))
    by_raised reply replies None = on reply replies now
    by_raised reply replies (Some x) =
        raise_keeps first x (record m { asked = m.asked ++ request ∷ []; replies = replies }) now

    by_replies : (replies : List Reply) → StaysKept first (answered replies go (record m { asked = m.asked ++ request ∷ [] }))
    by_replies [] = now
    by_replies (reply ∷ replies) = by_raised reply replies (raised_by reply)

-- a whole request
pub request_keeps : (first : List Request) (request : Request) (go : Reply → Machine → Next) (m : Machine)
    → Keeps first m
    → ((reply : Reply) (left : ℕ) (replies : List Reply)
    → BeginsWith first (m.asked ++ request ∷ [])
    → StaysKept first (go reply (record m { units = left; asked = m.asked ++ request ∷ []; replies = replies })))
    → StaysKept first (request_then request go m)
request_keeps first request go m within on =
    unit_keeps
    first
    (ask_then request go)
    m
    within
    (λ left taken.
    ask_keeps
    first
    request
    go
    (record m { units = left })
    within
    (λ reply replies later. on reply left replies later))

pub number_keeps : (first : List Request) (request : Request) (m : Machine) → Keeps first m → StaysKept first (ask_number request m)
number_keeps first request m within =
    request_keeps first request (λ reply. push (number_in reply)) m within (λ reply left replies later. later)

pub only_keeps : (first : List Request) (request : Request) (m : Machine) → Keeps first m → StaysKept first (ask_only request m)
only_keeps first request m within =
    request_keeps first request (λ reply. next) m within (λ reply left replies later. later)

-- the events of a playback
pub events_keeps : (first : List Request) (events : List Event) (length' : ℤ) (m : Machine) → Keeps first m → StaysKept first (play_events events length' m)
events_keeps first [] length' m within = within
events_keeps first (event ∷ rest) length' m within =
    request_keeps
    first
    (Q.Out (shifted event m.cursor))
    (λ reply. play_events rest length')
    m
    within
    (λ reply left replies later.
    events_keeps
    first
    rest
    length'
    (record m { units = left; asked = m.asked ++ Q.Out (shifted event m.cursor) ∷ []; replies = replies })
    later)

pub play_keeps : (first : List Request) (request : Request) (m : Machine) → Keeps first m → StaysKept first (play request m)
play_keeps first request m within =
    request_keeps
    first
    request
    play_reply
    m
    within
    (λ reply left replies later. by_reply reply left replies later)
  where
    by_reply : (reply : Reply) (left : ℕ) (replies : List Reply)
        → BeginsWith first (m.asked ++ request ∷ [])
        → StaysKept first (play_reply reply (record m { units = left; asked = m.asked ++ request ∷ []; replies = replies }))
    by_reply (R.Trace recording) left replies later =
        events_keeps
        first
        recording.events
        recording.length
        (record m { units = left; asked = m.asked ++ request ∷ []; replies = replies })
        later
    by_reply reply left replies later = later
