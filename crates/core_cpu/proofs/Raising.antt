-- Where a raised exception goes on.
use Rattle.std.proofs.Common.{◌≡◌, ◌-◌, List, [], ◌∷◌, length, drop, Bool, true, false, Some, None, refl, sym, ◌∙◌, ap, arith, w64}
use mir.Val.{to_z, of_z}
use Rattle.std.specs.Prelude.{slice_get}
use Rattle.std.proofs.lemmas.List.{drop_all}
use Rattle.rtio_types.specs.declared.outcome.Exc.{Exc}
use Rattle.rtio_types.specs.declared.outcome.Exc.TheVariants.{RTIOUnderflow, RTIOOverflow, DMAError, ZeroDivisionError, IndexError, StackOverflow}
use Rattle.rtio_types.specs.declared.request.Reply.{Reply}
use Rattle.rtio_types.specs.declared.request.Request.{Request}
use Rattle.core_isa.specs.Machine.{HandlerPoint, Frame, Machine, goes, ends, raised, with_top, with_operands, at_place, cursor_before, drop_recording, drop_if, code_of, cut_to, opened_by, opened_since, go_to_handler, raise_at, at_frame, raise_in, raise}
use Rattle.core_cpu.specs.Moments.{with_history}
use Rattle.core_cpu.specs.Layout.{point_of}
use Rattle.core_cpu.specs.declared.layout.Handler.{Handler}

-- a list's first item
first_item : {X : Type 0} → (xs : List X) (x : X) → slice_get xs 0 ≡ Some x → xs ≡ x ∷ drop 1 xs
first_item [] x there = cc
first_item (y ∷ rest) x there = cc

-- the frame and the callers of the machine don't count where others are given
other_frame : (x : Exc) (frame other : Frame) (callers others : List Frame) (m : Machine)
    → raise_in x frame callers m ≡ raise_in x frame callers (at_frame other others m)
other_frame x frame other [] others m = refl
other_frame x frame other (caller ∷ callers) others m =
    ap
    (raise_at x frame.handlers (at_frame frame (caller ∷ callers) m))
    (elim (opened_by (length (caller ∷ callers)) m.recording) as (λ b. raise_in x caller callers (drop_if b m) ≡ raise_in x caller callers (drop_if b (at_frame other others m))) [
      | true ↦ other_frame x caller other callers others (drop_recording m)
      | false ↦ other_frame x caller other callers others m
    ])

-- the history stands through a drop
dropped_history : (b : Bool) (m : Machine) (more : List Reply) (before : List Request)
    → drop_if b (with_history m more before) ≡ with_history (drop_if b m) more before
dropped_history true m more before = refl
dropped_history false m more before = refl

-- the frame on top stands through a drop
top_stays : (b : Bool) (m : Machine) → (drop_if b m).top ≡ m.top
top_stays true m = refl
top_stays false m = refl

-- so do the callers, the count and the units
pub callers_stay : (b : Bool) (m : Machine) → (drop_if b m).callers ≡ m.callers
callers_stay true m = refl
callers_stay false m = refl

pub steps_stay : (b : Bool) (m : Machine) → (drop_if b m).steps ≡ m.steps
steps_stay true m = refl
steps_stay false m = refl

pub units_stay : (b : Bool) (m : Machine) → (drop_if b m).units ≡ m.units
units_stay true m = refl
units_stay false m = refl

-- and where no recording is open, the cursor
pub closed_stays : (b : Bool) (m : Machine) → m.recording ≡ None → (drop_if b m).recording ≡ None
closed_stays true m closed = refl
closed_stays false m closed = closed

pub cursor_stays : (b : Bool) (m : Machine) → m.recording ≡ None → (drop_if b m).cursor ≡ m.cursor
cursor_stays true m closed = ap (λ r. cursor_before r m.cursor) closed
cursor_stays false m closed = refl

-- raised in a frame with a handler
raised_here : (x : Exc) (frame : Frame) (callers : List Frame) (m : Machine) (handler : HandlerPoint) (rest : List HandlerPoint)
    → frame.handlers ≡ handler ∷ rest
    → raise_in x frame callers m ≡ go_to_handler x handler rest (at_frame frame callers m)
raised_here x frame [] m handler rest has =
    ap (λ hs. raise_at x hs (at_frame frame [] m) (ends (raised x) (drop_if (opened_by 0 m.recording) (at_frame frame [] m)))) has
raised_here x frame (caller ∷ callers) m handler rest has =
    ap
    (λ hs. raise_at x hs (at_frame frame (caller ∷ callers) m) (raise_in x caller callers (drop_if (opened_by (length (caller ∷ callers)) m.recording) m)))
    has

-- raised in a frame without handlers that has a caller
pub raised_left : (x : Exc) (m : Machine) (caller : Frame) (callers : List Frame)
    → m.top.handlers ≡ []
    → m.callers ≡ caller ∷ callers
    → (more : List Reply) (before : List Request)
    → raise x (with_history m more before)
    ≡ raise x (with_history (at_frame caller callers (drop_if (opened_by (length m.callers) m.recording) m)) more before)
raised_left x m caller callers none has more before =
    let here : Machine = with_history m more before in
    let drops : Bool = opened_by (length (caller ∷ callers)) m.recording in
    ap (λ cs. raise_in x m.top cs here) has
    ∙ ap (λ hs. raise_at x hs (at_frame m.top (caller ∷ callers) here) (raise_in x caller callers (drop_if drops here))) none
    ∙ ap (raise_in x caller callers) (dropped_history drops m more before)
    ∙ other_frame x caller caller callers callers (with_history (drop_if drops m) more before)
    ∙ ap
    (λ cs. raise x (with_history (at_frame caller callers (drop_if (opened_by (length cs) m.recording) m)) more before))
    (sym has)

-- at a handler
pub taken : (x : Exc) (m now : Machine) (handler : Handler)
    → slice_get m.top.handlers 0 ≡ Some (point_of handler)
    → now ≡ drop_if (opened_since (point_of handler) m) m
    → (more : List Reply) (before : List Request)
    → raise x (with_history m more before)
    ≡ goes
    (with_history
    (at_place
    (with_operands (with_operands (with_top now (record now.top { handlers = drop 1 now.top.handlers })) []) (code_of x ∷ []))
    handler.place)
    more
    before)
taken x m now handler there is more before =
    let here : Machine = with_history m more before in
    let drops : Bool = opened_since (point_of handler) m in
    let rest : List HandlerPoint = drop 1 m.top.handlers in
    let cut : cut_to 0 m.top.operands ≡ [] = drop_all (length m.top.operands - 0) m.top.operands (omega arith) in
    let frame_now : Frame → Frame = λ (t : Frame). record t { place = handler.place; operands = code_of x ∷ []; handlers = drop 1 t.handlers } in
    raised_here x m.top m.callers here (point_of handler) rest (first_item m.top.handlers (point_of handler) there)
    ∙ ap
    (λ d. goes (with_top d (record m.top { place = handler.place; operands = code_of x ∷ cut_to 0 m.top.operands; handlers = rest })))
    (dropped_history drops m more before)
    ∙ ap
    (λ ops. goes (with_history (with_top (drop_if drops m) (record m.top { place = handler.place; operands = code_of x ∷ ops; handlers = rest })) more before))
    cut
    ∙ ap (λ t. goes (with_history (with_top (drop_if drops m) (frame_now t)) more before)) (sym (top_stays drops m))
    ∙ ap (λ d. goes (with_history (with_top d (frame_now d.top)) more before)) (sym is)

-- an exception's number is one of 64 bits
pub code_fits : (x : Exc) → to_z w64 (of_z w64 (code_of x)) ≡ code_of x
code_fits RTIOUnderflow = refl
code_fits RTIOOverflow = refl
code_fits DMAError = refl
code_fits ZeroDivisionError = refl
code_fits IndexError = refl
code_fits StackOverflow = refl
