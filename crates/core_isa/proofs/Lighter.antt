-- What each part of an instruction does to the units and to the weight.
use Rattle.std.proofs.Common.{◌≡◌, ℕ, suc, zero, ◌+◌, ◌*◌, ◌<◌, ◌≤◌, List, [], ◌∷◌, ◌++◌, length, Bool, true, false, Option, Some, None, refl, sym, ◌∙◌, subst, arith}
use Rattle.std.specs.Prelude.{ℤ, sum_by}
use Rattle.rtio_types.specs.declared.event.Event.{Event}
use Rattle.rtio_types.specs.declared.outcome.Exc.{Exc}
use Rattle.rtio_types.specs.declared.request.Request.{Request}
use Rattle.rtio_types.specs.declared.request.Request.TheVariants as Q
use Rattle.rtio_types.specs.declared.request.Reply.{Reply}
use Rattle.rtio_types.specs.declared.request.Reply.TheVariants as R
use Rattle.rtio_types.specs.Replies.{raised_by, number_in}
use Rattle.rtio_types.specs.Time.{shifted}
use Rattle.core_isa.specs.declared.code.Code.{Code}
use Rattle.core_isa.specs.Machine.{HandlerPoint, Frame, Machine, Next, goes, ends, stuck, raised, with_top, with_operands, next, push, opened_by, opened_since, drop_if, code_of, cut_to, go_to_handler, raise_at, raise_in, raise, at_frame, raise_or, answered, ask_then, unit_of, unit_then, request_then}
use Rattle.core_isa.specs.Falling.{weight, frame_weight, second_number}
use Rattle.core_isa.specs.Steps.{on_first, on_one, on_two, on_some, ask_number, ask_only, play_events, play_reply, play}
use Rattle.core_isa.proofs.Weights.{weighs_some, weighs_a_third, handlers-cons, callers-cons, IsLighter, HasUnits, IsNearer, nearer_by_unit}

-- operands that may be there
pub first_any : (P : Next → Type 0) (operands : List ℤ) (go : ℤ → Machine → Next) (m : Machine) → P stuck → ((a : ℤ) (rest : List ℤ) → P (go a (with_operands m rest))) → P (on_first operands go m)
first_any P [] go m lost on = lost
first_any P (a ∷ rest) go m lost on = on a rest

pub two_any : (P : Next → Type 0) (go : ℤ → ℤ → Machine → Next) (m : Machine) → P stuck → ((a b : ℤ) (rest : List ℤ) → P (go a b (with_operands m rest))) → P (on_two m go)
two_any P go m lost on =
    first_any
    P
    m.top.operands
    (λ b m'. on_one m' (λ a. go a b))
    m
    lost
    (λ b rest. first_any P rest (λ a. go a b) (with_operands m rest) lost (λ a rest'. on a b rest'))

pub some_any : {A : Type 0} (P : Next → Type 0) (o : Option A) (go : A → Next) → P stuck → ((a : A) → P (go a)) → P (on_some o go)
some_any P None go lost on = lost
some_any P (Some a) go lost on = on a

-- the next place is lighter
pub next_lighter : (code : Code) (units all : ℕ) (m : Machine) → m.units ≡ units → m.top.place < length code.lines → second_number code m ≤ all → IsLighter code units all (next m)
next_lighter code units all m same within bound = (
  same,
  (let third : 3 * weight code (m.top.place + 1) ≡ weight code m.top.place = weighs_a_third code m.top.place within in
      let some : 1 ≤ weight code (m.top.place + 1) = weighs_some code (m.top.place + 1) in
      omega arith),
)

-- a handler is lighter than the frame with it, and leaves the units
handler_lighter : (code : Code) (units all : ℕ) (x : Exc) (handler : HandlerPoint) (rest : List HandlerPoint) (m : Machine)
    → m.units ≡ units
    → weight code m.top.place + sum_by (λ h. weight code h.place) (handler ∷ rest) + sum_by (frame_weight code) m.callers ≤ all
    → IsLighter code units all (go_to_handler x handler rest m)
handler_lighter code units all x handler rest m same bound = by_drop (opened_since handler m)
  where
    to : Frame
    to =
        record m.top {
          place = handler.place;
          operands = code_of x ∷ cut_to handler.height m.top.operands;
          handlers = rest;
        }

    less : weight code handler.place + sum_by (λ h. weight code h.place) rest + sum_by (frame_weight code) m.callers < all
    less =
        let some : 1 ≤ weight code m.top.place = weighs_some code m.top.place in
        let one : sum_by (λ h. weight code h.place) (handler ∷ rest) ≡ weight code handler.place + sum_by (λ h. weight code h.place) rest =
        handlers-cons code handler rest
        in
        omega arith

    by_drop : (dropped : Bool) → IsLighter code units all (goes (with_top (drop_if dropped m) to))
    by_drop false = (same, less)
    by_drop true = (same, less)

raise_at_lighter : (code : Code) (units all : ℕ) (x : Exc) (handlers : List HandlerPoint) (m : Machine) (otherwise : Next)
    → m.units ≡ units
    → weight code m.top.place + sum_by (λ h. weight code h.place) handlers + sum_by (frame_weight code) m.callers ≤ all
    → IsLighter code units all otherwise
    → IsLighter code units all (raise_at x handlers m otherwise)
raise_at_lighter code units all x [] m otherwise same bound lighter = lighter
raise_at_lighter code units all x (handler ∷ rest) m otherwise same bound lighter =
    handler_lighter code units all x handler rest m same bound

-- a recording that is dropped leaves the units
pub drop-units : (dropped : Bool) (m : Machine) → (drop_if dropped m).units ≡ m.units
drop-units false m = refl
drop-units true m = refl

raise_in_lighter : (code : Code) (units all : ℕ) (x : Exc) (callers : List Frame) (frame : Frame) (m : Machine)
    → m.units ≡ units
    → frame_weight code frame + sum_by (frame_weight code) callers ≤ all
    → IsLighter code units all (raise_in x frame callers m)
raise_in_lighter code units all x [] frame m same bound =
    raise_at_lighter
    code
    units
    all
    x
    frame.handlers
    (at_frame frame [] m)
    (ends (raised x) (drop_if (opened_by 0 m.recording) (at_frame frame [] m)))
    same
    bound
    tt
raise_in_lighter code units all x (caller ∷ callers) frame m same bound =
    raise_at_lighter
    code
    units
    all
    x
    frame.handlers
    (at_frame frame (caller ∷ callers) m)
    (raise_in x caller callers (drop_if (opened_by (suc (length callers)) m.recording) m))
    same
    bound
    (raise_in_lighter
    code
    units
    all
    x
    callers
    caller
    (drop_if (opened_by (suc (length callers)) m.recording) m)
    (drop-units (opened_by (suc (length callers)) m.recording) m ∙ same)
    (let one : sum_by (frame_weight code) (caller ∷ callers) ≡ frame_weight code caller + sum_by (frame_weight code) callers =
    callers-cons code caller callers
    in
    omega arith))

-- an exception leads to a lighter state
pub raise_lighter : (code : Code) (units all : ℕ) (x : Exc) (m : Machine) → m.units ≡ units → second_number code m ≤ all → IsLighter code units all (raise x m)
raise_lighter code units all x m same bound = raise_in_lighter code units all x m.callers m.top m same bound

-- and keeps the units
raise_at_has : (units : ℕ) (x : Exc) (handlers : List HandlerPoint) (m : Machine) (otherwise : Next) → m.units ≤ units → HasUnits units otherwise → HasUnits units (raise_at x handlers m otherwise)
raise_at_has units x [] m otherwise has other = other
raise_at_has units x (handler ∷ rest) m otherwise has other = by_drop (opened_since handler m)
  where
    to : Frame
    to =
        record m.top {
          place = handler.place;
          operands = code_of x ∷ cut_to handler.height m.top.operands;
          handlers = rest;
        }

    by_drop : (dropped : Bool) → HasUnits units (goes (with_top (drop_if dropped m) to))
    by_drop false = has
    by_drop true = has

raise_in_has : (units : ℕ) (x : Exc) (callers : List Frame) (frame : Frame) (m : Machine) → m.units ≤ units → HasUnits units (raise_in x frame callers m)
raise_in_has units x [] frame m has =
    raise_at_has
    units
    x
    frame.handlers
    (at_frame frame [] m)
    (ends (raised x) (drop_if (opened_by 0 m.recording) (at_frame frame [] m)))
    has
    tt
raise_in_has units x (caller ∷ callers) frame m has =
    raise_at_has
    units
    x
    frame.handlers
    (at_frame frame (caller ∷ callers) m)
    (raise_in x caller callers (drop_if (opened_by (suc (length callers)) m.recording) m))
    has
    (raise_in_has
    units
    x
    callers
    caller
    (drop_if (opened_by (suc (length callers)) m.recording) m)
    (subst (λ n. n ≤ units) (sym (drop-units (opened_by (suc (length callers)) m.recording) m)) has))

pub raise_has : (units : ℕ) (x : Exc) (m : Machine) → m.units ≤ units → HasUnits units (raise x m)
raise_has units x m has = raise_in_has units x m.callers m.top m has

-- a unit is taken
pub unit_has : (units : ℕ) (go : Machine → Next) (m : Machine) → m.units ≤ units → ((left : ℕ) → left ≤ units → HasUnits units (go (record m { units = left }))) → HasUnits units (unit_then go m)
unit_has units go m has on = by_units m.units has
  where
    by_units : (n : ℕ) → n ≤ units → HasUnits units (unit_of n go m)
    by_units zero bound = tt
    by_units (suc left) bound = on left (omega arith)

-- and so the step is nearer to the end
pub unit_nearer : (code : Code) (before : Machine) (go : Machine → Next) (m : Machine) → m.units ≡ before.units → ((left : ℕ) → HasUnits left (go (record m { units = left }))) → IsNearer code before (unit_then go m)
unit_nearer code before go m same on = by_units m.units same
  where
    by_units : (n : ℕ) → n ≡ before.units → IsNearer code before (unit_of n go m)
    by_units zero same = tt
    by_units (suc left) same = nearer_by_unit code before left (go (record m { units = left })) same (on left)

-- a request whose unit is taken
pub ask_has : (units : ℕ) (request : Request) (go : Reply → Machine → Next) (m : Machine)
    → m.units ≤ units
    → ((reply : Reply) (replies : List Reply) → HasUnits units (go reply (record m { asked = m.asked ++ request ∷ []; replies = replies })))
    → HasUnits units (ask_then request go m)
ask_has units request go m has on = by_replies m.replies
  where
    by_raised : (replies : List Reply) (reply : Reply) (o : Option Exc) → HasUnits units (raise_or o (go reply) (record m { asked = m.asked ++ request ∷ []; replies = replies }))
    by_raised replies reply None = on reply replies
    by_raised replies reply (Some x) =
        raise_has units x (record m { asked = m.asked ++ request ∷ []; replies = replies }) has

    by_replies : (replies : List Reply) → HasUnits units (answered replies go (record m { asked = m.asked ++ request ∷ [] }))
    by_replies [] = tt
    by_replies (reply ∷ replies) = by_raised replies reply (raised_by reply)

-- a whole request
pub request_nearer : (code : Code) (before : Machine) (request : Request) (go : Reply → Machine → Next) (m : Machine)
    → m.units ≡ before.units
    → ((reply : Reply) (left : ℕ) (replies : List Reply) → HasUnits left (go reply (record m { units = left; asked = m.asked ++ request ∷ []; replies = replies })))
    → IsNearer code before (request_then request go m)
request_nearer code before request go m same on =
    unit_nearer
    code
    before
    (ask_then request go)
    m
    same
    (λ left. ask_has left request go (record m { units = left }) (omega arith) (λ reply replies. on reply left replies))

pub number_nearer : (code : Code) (before : Machine) (request : Request) (m : Machine) → m.units ≡ before.units → IsNearer code before (ask_number request m)
number_nearer code before request m same =
    request_nearer code before request (λ reply. push (number_in reply)) m same (λ reply left replies. omega arith)

pub only_nearer : (code : Code) (before : Machine) (request : Request) (m : Machine) → m.units ≡ before.units → IsNearer code before (ask_only request m)
only_nearer code before request m same =
    request_nearer code before request (λ reply. next) m same (λ reply left replies. omega arith)

-- the events of a playback
events_have : (units : ℕ) (events : List Event) (length' : ℤ) (m : Machine) → m.units ≤ units → HasUnits units (play_events events length' m)
events_have units [] length' m has = has
events_have units (event ∷ rest) length' m has =
    unit_has
    units
    (ask_then (Q.Out (shifted event m.cursor)) (λ reply. play_events rest length'))
    m
    has
    (λ left bound.
    ask_has
    units
    (Q.Out (shifted event m.cursor))
    (λ reply. play_events rest length')
    (record m { units = left })
    bound
    (λ reply replies.
    events_have
    units
    rest
    length'
    (record m { units = left; asked = m.asked ++ Q.Out (shifted event m.cursor) ∷ []; replies = replies })
    bound))

-- a playback
pub play_nearer : (code : Code) (before : Machine) (request : Request) (m : Machine) → m.units ≡ before.units → IsNearer code before (play request m)
play_nearer code before request m same =
    request_nearer code before request play_reply m same (λ reply left replies. by_reply reply left replies)
  where
    by_reply : (reply : Reply) (left : ℕ) (replies : List Reply) → HasUnits left (play_reply reply (record m { units = left; asked = m.asked ++ request ∷ []; replies = replies }))
    by_reply (R.Trace recording) left replies =
        events_have
        left
        recording.events
        recording.length
        (record m { units = left; asked = m.asked ++ request ∷ []; replies = replies })
        (omega arith)
    by_reply reply left replies = omega arith
