-- Calls, returns, handlers and recordings keep a state sound.
use Rattle.std.proofs.Common.{◌≡◌, ℕ, suc, ◌+◌, ◌-◌, ◌≤◌, List, [], ◌∷◌, ◌++◌, length, take, drop, replicate, Bool, true, false, not, ◌||◌, Option, Some, IsTrue, refl, sym, ◌∙◌, ap, subst, inl, inr, ◌⊎◌, arith, add-one, length-append, length-drop}
use Rattle.std.specs.Prelude.{ℤ, pos, slice_get, reverse, nat_lt, nat_le, ◌==◌, if◌then◌else◌}
use Rattle.std.proofs.lemmas.List.{length-take-le, length-replicate, length-reverse}
use Rattle.std.proofs.lemmas.Bool.{le-leb, false≢true, or_cases, or_right, or_left}
use Rattle.std.proofs.lemmas.Bool.Decides.{nat_tests}
use Rattle.rtio_types.specs.declared.outcome.Exc.TheVariants.{StackOverflow}
use Rattle.rtio_types.specs.declared.request.Reply.{Reply}
use Rattle.core_isa.specs.declared.code.Code.{Code}
use Rattle.core_isa.specs.declared.code.CodeFunction.{CodeFunction}
use Rattle.core_isa.specs.Machine.{HandlerPoint, Frame, OpenRecording, Machine, Next, with_top, with_operands, next, push, opened_by}
use Rattle.core_isa.specs.Marks.{values_of, Marked, HasOrder}
use Rattle.core_isa.specs.Runs.{boot}
use Rattle.core_isa.specs.Sound.{opened_below, rec_below, StandsAt, HandlerFits, FrameKeeps, IsSound, StaysSound}
use Rattle.core_isa.specs.Steps.{enter_if, call_if, call, leave, return_from, end_try, handler_at, begin_try}
use Rattle.core_isa.proofs.Ordered.{entry_stands}
use Rattle.core_isa.proofs.Passing.{PassesIn, first_sound}
use Rattle.core_isa.proofs.Raises.{raise_sound}
use Rattle.core_isa.proofs.Ready.{Ready, IsReady, next_sound, push_sound, unit_sound}
use Rattle.core_isa.proofs.Reopened.{opened_somewhere, opened_lower, none_above, within_more, below_more}

-- the frame of a function that is entered has all slots
length-entered : (f : CodeFunction) (args : List ℤ) → length args ≡ f.params → f.params ≤ f.slots → length (args ++ replicate (f.slots - length args) (pos 0)) ≡ f.slots
length-entered f args fit room = simp (length-append, length-replicate) (omega arith)

-- the frame of a function that is entered
entered : (code : Code) (index : ℕ) (f : CodeFunction) (args : List ℤ) (below : Bool) (n : ℕ) (own : Bool)
    → slice_get code.functions index ≡ Some f
    → length args ≡ f.params
    → f.params ≤ f.slots
    → own ≡ false
    → (below ≡ true → f.plain ≡ true)
    → FrameKeeps code index 0 own below f (length (args ++ replicate (f.slots - length args) (pos 0))) []
entered code index f args below n own found fit room other plain =
    record {
      found = found;
      full = length-entered f args fit room;
      owns = other;
      bounded = omega arith;
      plain = plain;
      handled = tt;
    }

-- a handler that is added knows the recording of its frame
rec_below_all : (rec tries : ℕ) → rec ≤ tries + 1 → rec_below rec tries ≡ rec
rec_below_all rec tries bounded = grind (arith, nat_tests)

-- a run begins in a sound state
pub boot_sound : (code : Code) → HasOrder code → Marked code → (index : ℕ) (f : CodeFunction) → slice_get code.functions index ≡ Some f
    → (args : List ℤ) → length args ≡ f.params → (cursor : ℤ) (units : ℕ) (replies : List Reply)
    → IsSound code (boot f args cursor units replies)
boot_sound code order marked index f found args fit cursor units replies =
    record {
      top =
          record {
            index = index;
            rec = 0;
            keeps = entered code index f args false 0 false found fit (order.room index f found) refl (λ e. absurd (false≢true e));
            stands = entry_stands code order marked index f found;
          };
      callers = tt;
      within = tt;
    }

-- a plain function is called while a recording is open
called_plain : (n : ℕ) (recording : Option OpenRecording) (rec : ℕ) (f called : CodeFunction)
    → opened_by n recording ≡ not (rec == 0)
    → (opened_below n recording ≡ true → f.plain ≡ true)
    → (IsTrue (f.plain || not (rec == 0)) → called.plain ≡ true)
    → opened_below (suc n) recording ≡ true
    → called.plain ≡ true
called_plain n recording rec f called owns plain calls below = by_whose (or_cases (opened_below n recording) (opened_by n recording) (below_more n recording below))
  where
    by_whose : (opened_below n recording ≡ true) ⊎ (opened_by n recording ≡ true) → called.plain ≡ true
    by_whose (inl caller's) = calls (or_left f.plain (not (rec == 0)) (plain caller's))
    by_whose (inr own) = calls (or_right f.plain (not (rec == 0)) (sym owns ∙ own))

-- a call
pub call_sound : (code : Code) → HasOrder code → Marked code → (index rec g : ℕ) (called : CodeFunction) (m : Machine)
    → IsReady code index rec m
    → slice_get code.functions g ≡ Some called
    → PassesIn code index rec m called.params (values_of called)
    → (IsTrue (m.top.function.plain || not (rec == 0)) → called.plain ≡ true)
    → StaysSound code (call called m)
call_sound code order marked index rec g called m ready found passes plain =
    unit_sound
    code
    (λ m'. call_if (nat_lt (length m'.callers + 1) 64) called m')
    m
    (λ left. by_room left (nat_lt (length m.callers + 1) 64))
  where
    args : List ℤ
    args = reverse (take called.params m.top.operands)

    length-args : length (reverse (take called.params m.top.operands)) ≡ called.params
    length-args =
        length-reverse (take called.params m.top.operands) ∙ length-take-le called.params m.top.operands passes.enough

    enters : (left : ℕ) → StaysSound code (enter_if true called (record m { units = left }))
    enters left =
        record {
          top =
              record {
                index = g;
                rec = 0;
                keeps =
                    entered
                    code
                    g
                    called
                    (reverse (take called.params m.top.operands))
                    (opened_below (suc (length m.callers)) m.recording)
                    0
                    (opened_by (suc (length m.callers)) m.recording)
                    found
                    length-args
                    (order.room g called found)
                    (none_above (length m.callers) m.recording ready.within)
                    (called_plain
                    (length m.callers)
                    m.recording
                    rec
                    m.top.function
                    called
                    ready.keeps.owns
                    ready.keeps.plain
                    plain);
                stands = entry_stands code order marked g called found;
              };
          callers = (
            record {
              index = index;
              rec = rec;
              keeps = ready.keeps;
              stands =
                  passes.onward
                  (length (drop called.params m.top.operands))
                  (simp length-drop (let enough : called.params ≤ length m.top.operands = passes.enough in omega arith));
            },
            ready.waiting,
          );
          within = within_more (length m.callers) m.recording ready.within;
        }

    by_arguments : (left : ℕ) (b : Bool) → b ≡ true → StaysSound code (enter_if b called (record m { units = left }))
    by_arguments left true there = enters left
    by_arguments left false there = absurd (false≢true there)

    by_room : (left : ℕ) (room : Bool) → StaysSound code (call_if room called (record m { units = left }))
    by_room left false = raise_sound code index rec StackOverflow (record m { units = left }) ready
    by_room left true =
        by_arguments
        left
        (nat_le called.params (length m.top.operands))
        (le-leb called.params (length m.top.operands) passes.enough)

-- the caller goes on behind its call
leave_sound : (code : Code) (index rec : ℕ) (called : CodeFunction) (slots : ℕ) (handlers : List HandlerPoint) (callers : List Frame) (go : Machine → Next) (m : Machine)
    → Ready code index rec m.recording callers called slots handlers
    → rec ≡ 0
    → ((index' rec' : ℕ) (caller : Frame) (rest : List Frame)
    → Ready code index' rec' m.recording rest caller.function (length caller.slots) caller.handlers
    → StandsAt code index' (caller.place + 1) (length caller.operands + values_of called) (length caller.handlers) rec'
    → StaysSound code (go (record m { top = caller; callers = rest })))
    → StaysSound code (leave callers go m)
leave_sound code index rec called slots handlers [] go m ready none on = tt
leave_sound code index rec called slots handlers (caller ∷ rest) go m ready none on =
    on
    ready.waiting.0.index
    ready.waiting.0.rec
    caller
    rest
    (record {
      keeps = ready.waiting.0.keeps;
      waiting = ready.waiting.1;
      within = opened_lower (length rest) m.recording ready.within (ready.keeps.owns ∙ ap (λ r. not (r == 0)) none);
    })
    ready.waiting.0.stands

-- a return
pub return_sound : (code : Code) (index rec : ℕ) (m : Machine)
    → IsReady code index rec m
    → rec ≡ 0
    → length m.top.operands ≡ values_of m.top.function
    → StaysSound code (return_from m.top.function.value m)
return_sound code index rec m ready none height = by_value m.top.function.value refl
  where
    values : (b : Bool) → m.top.function.value ≡ b → values_of m.top.function ≡ (if b then 1 else 0)
    values b is = ap (λ v. if v then 1 else 0) is

    by_value : (b : Bool) → m.top.function.value ≡ b → StaysSound code (return_from b m)
    by_value false is =
        leave_sound
        code
        index
        rec
        m.top.function
        (length m.top.slots)
        m.top.handlers
        m.callers
        next
        m
        ready
        none
        (λ index' rec' caller rest ready' stands.
        next_sound
        code
        index'
        rec'
        (record m { top = caller; callers = rest })
        ready'
        (subst
        (λ h. StandsAt code index' (caller.place + 1) h (length caller.handlers) rec')
        (let none' : values_of m.top.function ≡ 0 = values false is in
        let same : length caller.operands + values_of m.top.function ≡ length caller.operands = omega arith in
        same)
        stands))
    by_value true is =
        first_sound
        code
        m.top.operands
        (λ v m'. leave m'.callers (push v) m')
        m
        (let one : values_of m.top.function ≡ 1 = values true is in omega arith)
        (λ v others all.
        leave_sound
        code
        index
        rec
        m.top.function
        (length m.top.slots)
        m.top.handlers
        m.callers
        (push v)
        (with_operands m others)
        ready
        none
        (λ index' rec' caller rest ready' stands.
        push_sound
        code
        index'
        rec'
        v
        (record m { top = caller; callers = rest })
        ready'
        (subst
        (λ n. StandsAt code index' (caller.place + 1) (length caller.operands + n) (length caller.handlers) rec')
        (values true is)
        stands)))

-- a handler is added
pub try_sound : (code : Code) (index rec p : ℕ) (m : Machine)
    → IsReady code index rec m
    → length m.top.operands ≡ 0
    → StandsAt code index (m.top.place + 1) (length m.top.operands) (length m.top.handlers + 1) rec
    → StandsAt code index p 1 (length m.top.handlers) rec
    → StaysSound code (begin_try p m)
try_sound code index rec p m ready bare stands there =
    next_sound
    code
    index
    rec
    (with_top m (record m.top { handlers = handler_at p m ∷ m.top.handlers }))
    (record {
      keeps =
          record {
            found = ready.keeps.found;
            full = ready.keeps.full;
            owns = ready.keeps.owns;
            bounded = let bounded : rec ≤ length m.top.handlers + 1 = ready.keeps.bounded in omega arith;
            plain = ready.keeps.plain;
            handled = (
              subst
                  (λ r. HandlerFits code index (opened_below (length m.callers) m.recording) r (length m.top.handlers) (handler_at p m))
                  (sym (rec_below_all rec (length m.top.handlers) ready.keeps.bounded))
                  (record {
                    stands = there;
                    bare = bare;
                    knows =
                        opened_somewhere (length m.callers) m.recording ready.within
                        ∙ ap (λ b. opened_below (length m.callers) m.recording || b) ready.keeps.owns;
                  }),
              ready.keeps.handled,
            );
          };
      waiting = ready.waiting;
      within = ready.within;
    })
    (subst
    (λ t. StandsAt code index (m.top.place + 1) (length m.top.operands) t rec)
    (add-one (length m.top.handlers))
    stands)

-- the last handler is removed
pub end_try_sound : (code : Code) (index rec : ℕ) (handlers : List HandlerPoint) (m : Machine)
    → Ready code index rec m.recording m.callers m.top.function (length m.top.slots) handlers
    → 1 ≤ length handlers
    → rec ≤ length handlers
    → StandsAt code index (m.top.place + 1) (length m.top.operands) (length handlers - 1) rec
    → StaysSound code (end_try handlers m)
end_try_sound code index rec [] m ready some bounded stands = absurd (omega arith)
end_try_sound code index rec (handler ∷ rest) m ready some bounded stands =
    next_sound
    code
    index
    rec
    (with_top m (record m.top { handlers = rest }))
    (record {
      keeps =
          record {
            found = ready.keeps.found;
            full = ready.keeps.full;
            owns = ready.keeps.owns;
            bounded = omega arith;
            plain = ready.keeps.plain;
            handled = ready.keeps.handled.1;
          };
      waiting = ready.waiting;
      within = ready.within;
    })
    (subst
    (λ t. StandsAt code index (m.top.place + 1) (length m.top.operands) t rec)
    (let same : suc (length rest) - 1 ≡ length rest = omega arith in same)
    stands)
