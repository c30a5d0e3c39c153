-- Raising in a sound state leads to one, or to an end.
use Rattle.std.proofs.Common.{◌≡◌, ℕ, suc, ◌+◌, ◌-◌, ◌<◌, ◌≤◌, List, [], ◌∷◌, length, Bool, true, false, not, ◌||◌, ◌&&◌, Option, Some, None, refl, sym, subst, subst₂, arith}
use Rattle.std.specs.Prelude.{ℤ, ◌==◌}
use Rattle.std.proofs.lemmas.List.{length-drop}
use Rattle.std.proofs.lemmas.Bool.{and_parts, eqb-true, false≢true}
use Rattle.std.proofs.lemmas.Bool.Decides.{nat_tests}
use Rattle.rtio_types.specs.declared.outcome.Exc.{Exc}
use Rattle.core_isa.specs.declared.code.Code.{Code}
use Rattle.core_isa.specs.declared.code.CodeFunction.{CodeFunction}
use Rattle.core_isa.specs.Machine.{HandlerPoint, Frame, OpenRecording, Machine, Next, goes, ends, with_top, raised, opened_by, opened_since, drop_if, drop_recording, code_of, cut_to, go_to_handler, raise_at, raise_in, raise, at_frame}
use Rattle.core_isa.specs.Sound.{opened_below, IsOpenedWithin, rec_below, StandsAt, HandlerFits, HandlersFit, CallersFit, StaysSound}
use Rattle.core_isa.proofs.Ready.{Ready, IsReady, goes_sound}
use Rattle.core_isa.proofs.Reopened.{SameBelow, callers_fit_again, opened_here, own_isnt_below, opened_lower}

-- below a handler the others have the recording that they have in the frame
rec_below_again : (rec k j : ℕ) → j < k → rec_below (rec_below rec k) j ≡ rec_below rec j
rec_below_again rec k j lt = grind (arith, nat_tests)

rec_below_small : (rec k : ℕ) → rec_below rec k ≤ k + 1
rec_below_small rec k = grind (arith, nat_tests)

-- handlers stay right under another number of the frame's recording that says the same of them
pub handlers_fit_again : (code : Code) (index : ℕ) (below now : Bool) (rec new : ℕ) (handlers : List HandlerPoint) → below ≡ now
    → ((j : ℕ) → j < length handlers → rec_below rec j ≡ rec_below new j)
    → HandlersFit code index below rec handlers → HandlersFit code index now new handlers
handlers_fit_again code index below now rec new [] same alike fit = tt
handlers_fit_again code index below now rec new (handler ∷ rest) same alike (fits, others) = (
  subst₂ (λ b. λ r. HandlerFits code index b r (length rest) handler) same (alike (length rest) (omega arith)) fits,
  handlers_fit_again code index below now rec new rest same (λ j lt. alike j (omega arith)) others,
)

-- what the frame's recording is where a handler goes on and no recording is dropped
owns_again : (own below known : Bool) (rec k : ℕ) → own ≡ not (rec == 0) → (own ≡ true → below ≡ false) → known ≡ (below || not (rec_below rec k == 0)) → (not known && own) ≡ false → own ≡ not (rec_below rec k == 0)
owns_again false below known rec k owns apart knows stays = grind (arith, nat_tests)
owns_again true below known rec k owns apart knows stays = grind (arith, nat_tests)

-- and where one is dropped
owns_none : (own below known : Bool) (rec k : ℕ) → known ≡ (below || not (rec_below rec k == 0)) → (not known && own) ≡ true → false ≡ not (rec_below rec k == 0)
owns_none own below false rec k knows dropped = grind (arith, nat_tests)
owns_none own below true rec k knows dropped = grind (arith, nat_tests)

-- the frame's own recording is nothing to its callers
without_own : (n : ℕ) (recording : Option OpenRecording) → opened_by n recording ≡ true → SameBelow n recording None
without_own n None own = record { own = λ j lt. refl; below = λ j lt. refl }
without_own n (Some open_one) own = opened_here open_one n (eqb-true open_one.callers n own)

own_of_two : (a b : Bool) → (a && b) ≡ true → b ≡ true
own_of_two a b both = (and_parts a b both).1

-- operands cut to none, with the code on them
one_left : (height : ℕ) (operands : List ℤ) → height ≡ 0 → 1 ≡ suc (length (cut_to height operands))
one_left height operands bare = omega (arith, length-drop (length operands - height) operands, bare)

-- a handler goes on in a sound state
pub handler_sound : (code : Code) (index rec : ℕ) (x : Exc) (handler : HandlerPoint) (rest : List HandlerPoint) (m : Machine)
    → Ready code index rec m.recording m.callers m.top.function (length m.top.slots) (handler ∷ rest)
    → StaysSound code (go_to_handler x handler rest m)
handler_sound code index rec x handler rest m ready = by_drop (opened_since handler m) refl
  where
    n : ℕ
    n = length m.callers

    fits : HandlerFits code index (opened_below (length m.callers) m.recording) (rec_below rec (length rest)) (length rest) handler
    fits = ready.keeps.handled.0

    to : Frame
    to =
        record m.top {
          place = handler.place;
          operands = code_of x ∷ cut_to handler.height m.top.operands;
          handlers = rest;
        }

    stands : StandsAt code index handler.place (suc (length (cut_to handler.height m.top.operands))) (length rest) (rec_below rec (length rest))
    stands =
        subst
        (λ h. StandsAt code index handler.place h (length rest) (rec_below rec (length rest)))
        (one_left handler.height m.top.operands fits.bare)
        fits.stands

    by_drop : (dropped : Bool) → opened_since handler m ≡ dropped → StaysSound code (goes (with_top (drop_if dropped m) to))
    by_drop false stays =
        goes_sound
        code
        index
        (rec_below rec (length rest))
        (with_top m to)
        (record {
          keeps =
              record {
                found = ready.keeps.found;
                full = ready.keeps.full;
                owns =
                    owns_again
                    (opened_by (length m.callers) m.recording)
                    (opened_below (length m.callers) m.recording)
                    handler.recording
                    rec
                    (length rest)
                    ready.keeps.owns
                    (own_isnt_below (length m.callers) m.recording)
                    fits.knows
                    stays;
                bounded = rec_below_small rec (length rest);
                plain = ready.keeps.plain;
                handled =
                    handlers_fit_again
                    code
                    index
                    (opened_below (length m.callers) m.recording)
                    (opened_below (length m.callers) m.recording)
                    rec
                    (rec_below rec (length rest))
                    rest
                    refl
                    (λ j lt. sym (rec_below_again rec (length rest) j lt))
                    ready.keeps.handled.1;
              };
          waiting = ready.waiting;
          within = ready.within;
        })
        stands
    by_drop true drops =
        goes_sound
        code
        index
        (rec_below rec (length rest))
        (with_top (drop_recording m) to)
        (record {
          keeps =
              record {
                found = ready.keeps.found;
                full = ready.keeps.full;
                owns =
                    owns_none
                    (opened_by (length m.callers) m.recording)
                    (opened_below (length m.callers) m.recording)
                    handler.recording
                    rec
                    (length rest)
                    fits.knows
                    drops;
                bounded = rec_below_small rec (length rest);
                plain = λ e. absurd (false≢true e);
                handled =
                    handlers_fit_again
                    code
                    index
                    (opened_below (length m.callers) m.recording)
                    false
                    rec
                    (rec_below rec (length rest))
                    rest
                    (own_isnt_below (length m.callers) m.recording own)
                    (λ j lt. sym (rec_below_again rec (length rest) j lt))
                    ready.keeps.handled.1;
              };
          waiting =
              callers_fit_again
              code
              (length m.callers)
              m.recording
              None
              (without_own (length m.callers) m.recording own)
              m.top.function
              m.callers
              (omega arith)
              ready.waiting;
          within = tt;
        })
        stands
      where
        own : opened_by (length m.callers) m.recording ≡ true
        own = own_of_two (not handler.recording) (opened_by (length m.callers) m.recording) drops

-- the last handler of the top frame, or what is done without one
raise_at_sound : (code : Code) (index rec : ℕ) (x : Exc) (handlers : List HandlerPoint) (m : Machine) (otherwise : Next)
    → Ready code index rec m.recording m.callers m.top.function (length m.top.slots) handlers
    → StaysSound code otherwise
    → StaysSound code (raise_at x handlers m otherwise)
raise_at_sound code index rec x [] m otherwise ready sound = sound
raise_at_sound code index rec x (handler ∷ rest) m otherwise ready sound = handler_sound code index rec x handler rest m ready

-- a caller goes on with the raising, after a recording of the frame above it is dropped
ready_below : (code : Code) (dropped : Bool) (m : Machine) (called : CodeFunction) (caller : Frame) (callers : List Frame)
    → opened_by (suc (length callers)) m.recording ≡ dropped
    → CallersFit code m.recording called (caller ∷ callers)
    → IsOpenedWithin (suc (length callers)) m.recording
    → (index : ℕ) × (rec : ℕ) × Ready code index rec (drop_if dropped m).recording callers caller.function (length caller.slots) caller.handlers
ready_below code false m called caller callers own waiting within = (
  waiting.0.index,
  waiting.0.rec,
  record {
    keeps = waiting.0.keeps;
    waiting = waiting.1;
    within = opened_lower (length callers) m.recording within own;
  },
)
ready_below code true m called caller callers own waiting within =
    let again : CallersFit code None called (caller ∷ callers) =
    callers_fit_again
    code
    (suc (length callers))
    m.recording
    None
    (without_own (suc (length callers)) m.recording own)
    called
    (caller ∷ callers)
    (omega arith)
    waiting
    in
    (again.0.index, again.0.rec, record { keeps = again.0.keeps; waiting = again.1; within = tt })

raise_in_sound : (code : Code) (x : Exc) (callers : List Frame) (frame : Frame) (m : Machine) (index rec : ℕ)
    → Ready code index rec m.recording callers frame.function (length frame.slots) frame.handlers
    → StaysSound code (raise_in x frame callers m)
raise_in_sound code x [] frame m index rec ready =
    raise_at_sound
    code
    index
    rec
    x
    frame.handlers
    (at_frame frame [] m)
    (ends (raised x) (drop_if (opened_by 0 m.recording) (at_frame frame [] m)))
    ready
    tt
raise_in_sound code x (caller ∷ callers) frame m index rec ready =
    let (index', rec', below) =
    ready_below code (opened_by (suc (length callers)) m.recording) m frame.function caller callers refl ready.waiting ready.within
    in
    raise_at_sound
    code
    index
    rec
    x
    frame.handlers
    (at_frame frame (caller ∷ callers) m)
    (raise_in x caller callers (drop_if (opened_by (suc (length callers)) m.recording) m))
    ready
    (raise_in_sound
    code
    x
    callers
    caller
    (drop_if (opened_by (suc (length callers)) m.recording) m)
    index'
    rec'
    below)

-- an exception, raised in the frame that runs
pub raise_sound : (code : Code) (index rec : ℕ) (x : Exc) (m : Machine) → IsReady code index rec m → StaysSound code (raise x m)
raise_sound code index rec x m ready = raise_in_sound code x m.callers m.top m index rec ready
