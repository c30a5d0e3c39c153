-- Raising out of a call, out of a record block, and to a handler.
use Rattle.std.proofs.Common.{◌≡◌, ℕ, suc, ◌-◌, ◌≤◌, List, [], ◌∷◌, ◌++◌, length, drop, Option, Some, None, refl, sym, ◌∙◌, ap, arith, length-append}
use Rattle.std.specs.Prelude.{Bool, true, false, not, ◌&&◌, ◌==◌, ℤ, is_some}
use Rattle.std.proofs.Math.Seq.{drop-append_seam}
use Rattle.rtio_types.specs.declared.event.Event.{Event}
use Rattle.rtio_types.specs.declared.outcome.Exc.{Exc}
use Rattle.rtio_types.specs.declared.outcome.Exc.TheVariants as E
use Rattle.core_isa.specs.Machine.{HandlerPoint, Frame, OpenRecording, Machine, Next, at_frame, raise_at, raise_in, raise, drop_if, opened_by, go_to_handler, with_top, goes, ends, raised, code_of, exception_of, cut_to}
use Rattle.code_follows.specs.Stands.{Opening, NoneOpen, recording_of}

drop_if_frame : (b : Bool) (f : Frame) (cs : List Frame) (m : Machine) → drop_if b (at_frame f cs m) ≡ at_frame f cs (drop_if b m)
drop_if_frame false f cs m = refl
drop_if_frame true f cs m = refl

-- raising in a frame doesn't ask what the machine's own frames are
pub raise_in_any : (x : Exc) (callers : List Frame) (frame f : Frame) (cs : List Frame) (m : Machine) → raise_in x frame callers (at_frame f cs m) ≡ raise_in x frame callers m
raise_in_any x [] frame f cs m = refl
raise_in_any x (caller ∷ callers) frame f cs m =
    let b = opened_by (length (caller ∷ callers)) m.recording in
    ap (λ o. raise_at x frame.handlers (at_frame frame (caller ∷ callers) m) o) (ap (λ m'. raise_in x caller callers m') (drop_if_frame b f cs m) ∙ raise_in_any x callers caller f cs (drop_if b m))

-- an exception that a called function doesn't handle is raised in its caller; a recording that isn't the callee's own stays
pub raise_from_call : (x : Exc) (callee caller : Frame) (callers : List Frame) (m : Machine) → callee.handlers ≡ [] → opened_by (length (caller ∷ callers)) m.recording ≡ false → raise x (at_frame callee (caller ∷ callers) m) ≡ raise x (at_frame caller callers m)
raise_from_call x callee caller callers m none other =
    ap (λ hs. raise_at x hs (at_frame callee (caller ∷ callers) m) (raise_in x caller callers (drop_if (opened_by (length (caller ∷ callers)) m.recording) (at_frame callee (caller ∷ callers) m)))) none
    ∙ ap (λ b. raise_in x caller callers (drop_if b (at_frame callee (caller ∷ callers) m))) other
    ∙ raise_in_any x callers caller callee (caller ∷ callers) m
    ∙ sym (raise_in_any x callers caller caller callers m)

-- the machine with this recording open, and with it dropped
abbrev pub opened : OpenRecording → Machine → Machine
opened o m = record m { recording = Some o }

abbrev pub closed : OpenRecording → Machine → Machine
closed o m = record m { cursor = o.saved; recording = None }

at_handler : (b : Bool) → b ≡ false → (x : Exc) (place height : ℕ) (rest : List HandlerPoint) (o : OpenRecording) (frame : Frame) (cs : List Frame) (m : Machine) → o.callers ≡ length cs → go_to_handler x (record { place = place; height = height; recording = b }) rest (at_frame frame cs (opened o m)) ≡ go_to_handler x (record { place = place; height = height; recording = b }) rest (at_frame frame cs (closed o m))
at_handler true e x place height rest o frame cs m own = absurd (grind (arith, e))
at_handler false e x place height rest o frame cs m own =
    let here : (o.callers == length cs) ≡ true = grind (arith, own) in
    let f = record frame { place = place; operands = code_of x ∷ cut_to height frame.operands; handlers = rest } in
    ap (λ b. goes (with_top (drop_if b (at_frame frame cs (opened o m))) f)) here

by_handlers : (x : Exc) (hs : List HandlerPoint) → NoneOpen hs → (o : OpenRecording) (frame : Frame) (cs : List Frame) (m : Machine) (a b : Next) → o.callers ≡ length cs → a ≡ b → raise_at x hs (at_frame frame cs (opened o m)) a ≡ raise_at x hs (at_frame frame cs (closed o m)) b
by_handlers x [] none o frame cs m a b own e = e
by_handlers x (h ∷ rest) none o frame cs m a b own e = at_handler h.recording none.0 x h.place h.height rest o frame cs m own

-- an exception that leaves a record block of this frame is raised with the recording dropped
pub raise_from_record : (x : Exc) (frame : Frame) (callers : List Frame) (m : Machine) (o : OpenRecording) → NoneOpen frame.handlers → o.callers ≡ length callers → raise_in x frame callers (opened o m) ≡ raise_in x frame callers (closed o m)
raise_from_record x frame [] m o none own =
    let here : (o.callers == 0) ≡ true = grind (arith, own) in
    by_handlers x frame.handlers none o frame [] m _ _ own (ap (λ b. ends (raised x) (drop_if b (at_frame frame [] (opened o m)))) here)
raise_from_record x frame (caller ∷ callers) m o none own =
    let here : (o.callers == length (caller ∷ callers)) ≡ true = grind (arith, own) in
    by_handlers x frame.handlers none o frame (caller ∷ callers) m _ _ own (ap (λ b. raise_in x caller callers (drop_if b (opened o m))) here)

-- the code of an exception is its own
pub code_back : (x : Exc) → exception_of (code_of x) ≡ x
code_back E.RTIOUnderflow = refl
code_back E.RTIOOverflow = refl
code_back E.DMAError = refl
code_back E.ZeroDivisionError = refl
code_back E.IndexError = refl
code_back E.StackOverflow = refl

-- an exception goes to the last handler of the frame
pub raise_handled : (x : Exc) (frame : Frame) (callers : List Frame) (m : Machine) (h : HandlerPoint) (hs : List HandlerPoint) → frame.handlers ≡ h ∷ hs → raise_in x frame callers m ≡ go_to_handler x h hs (at_frame frame callers m)
raise_handled x frame [] m h hs e =
    ap (λ l. raise_at x l (at_frame frame [] m) (ends (raised x) (drop_if (opened_by 0 m.recording) (at_frame frame [] m)))) e
raise_handled x frame (caller ∷ callers) m h hs e =
    ap (λ l. raise_at x l (at_frame frame (caller ∷ callers) m) (raise_in x caller callers (drop_if (opened_by (length (caller ∷ callers)) m.recording) m))) e

-- a handler that was added with as much open as now drops nothing
pub nothing_since : (o : Option Opening) (c : Option (List Event)) (n : ℕ) → not (is_some o) && opened_by n (recording_of o c) ≡ false
nothing_since None None n = refl
nothing_since None (Some events) n = refl
nothing_since (Some o) None n = refl
nothing_since (Some o) (Some events) n = refl

pub is_open : (o : Option Opening) (c : Option (List Event)) → is_some c ≡ is_some o → is_some (recording_of o c) ≡ is_some o
is_open None None e = refl
is_open None (Some events) e = refl
is_open (Some o) None e = e
is_open (Some o) (Some events) e = refl

-- what lies above a height is cut
pub cut_above : (above below : List ℤ) → cut_to (length below) (above ++ below) ≡ below
cut_above above below =
    let e : length (above ++ below) - length below ≡ length above = omega (arith, length-append above below) in
    ap (λ n. drop n (above ++ below)) e ∙ drop-append_seam above below

-- a recording of a caller isn't the frame's own
pub not_own : (o : Option Opening) (c : Option (List Event)) (n : ℕ) → (o' : (p : Opening) → o ≡ Some p → p.callers ≤ n) → opened_by (suc n) (recording_of o c) ≡ false
not_own None None n below = refl
not_own None (Some events) n below = refl
not_own (Some o) None n below = refl
not_own (Some o) (Some events) n below = let b = below o refl in grind (arith, b)
