-- Record and Save keep a state sound.
use Rattle.std.proofs.Common.{◌≡◌, ℕ, ◌+◌, ◌<◌, List, [], ◌∷◌, ◌++◌, length, Bool, true, false, not, ◌||◌, Option, Some, None, refl, sym, ◌∙◌, ap, arith}
use Rattle.std.specs.Prelude.{pos, ◌==◌, is_some}
use Rattle.std.proofs.lemmas.Bool.{le-ltb, eqb-true, false≢true, true≢false}
use Rattle.std.proofs.lemmas.Bool.Decides.{nat_tests}
use Rattle.core_isa.specs.declared.code.Code.{Code}
use Rattle.core_isa.specs.declared.code.CodeFunction.{CodeFunction}
use Rattle.core_isa.specs.Machine.{OpenRecording, Machine, next, opened_by, ask_then}
use Rattle.core_isa.specs.Sound.{opened_below, IsOpenedWithin, rec_below, StandsAt, StaysSound}
use Rattle.core_isa.specs.Steps.{open_recording, save_request, save_recording}
use Rattle.core_isa.proofs.Passing.{ask_sound}
use Rattle.core_isa.proofs.Raises.{handlers_fit_again}
use Rattle.core_isa.proofs.Ready.{Ready, IsReady, next_sound, unit_sound}
use Rattle.core_isa.proofs.Reopened.{callers_fit_again, opened_here, closed_here, own_isnt_below, opened_somewhere}

-- a frame that isn't plain and has no recording open finds none open
open_isnt_here : (n rec : ℕ) (recording : Option OpenRecording) (f : CodeFunction)
    → IsOpenedWithin n recording
    → opened_by n recording ≡ not (rec == 0)
    → (opened_below n recording ≡ true → f.plain ≡ true)
    → rec ≡ 0
    → f.plain ≡ false
    → is_some recording ≡ false
open_isnt_here n rec recording f within owns plain none live = by_below (opened_below n recording) refl
  where
    own : opened_by n recording ≡ false
    own = owns ∙ ap (λ r. not (r == 0)) none

    by_below : (b : Bool) → opened_below n recording ≡ b → is_some recording ≡ false
    by_below true below = absurd (false≢true (sym live ∙ plain below))
    by_below false below =
        opened_somewhere n recording within ∙ ap (λ b. b || opened_by n recording) below ∙ own

-- before a Record its handlers knew of no recording of the frame, and so they do behind it
rec_below_opened : (rec tries j : ℕ) → rec ≡ 0 → j < tries → rec_below rec j ≡ rec_below (tries + 1) j
rec_below_opened rec tries j none lt = grind (arith, nat_tests)

-- and so it is at a Save
rec_below_closed : (rec tries j : ℕ) → rec ≡ tries + 1 → j < tries → rec_below rec j ≡ rec_below 0 j
rec_below_closed rec tries j all lt = grind (arith, nat_tests)

-- the frame that opens a recording has one open
opened_test_of : (n tries : ℕ) → (n == n) ≡ not (tries + 1 == 0)
opened_test_of n tries = grind (arith, nat_tests)

owned : (rec tries : ℕ) → rec ≡ tries + 1 → not (rec == 0) ≡ true
owned rec tries all = grind (arith, nat_tests)

-- a recording is opened
pub record_sound : (code : Code) (index rec : ℕ) (name : List ℕ) (m : Machine)
    → IsReady code index rec m
    → rec ≡ 0
    → m.top.function.plain ≡ false
    → StandsAt code index (m.top.place + 1) (length m.top.operands) (length m.top.handlers) (length m.top.handlers + 1)
    → StaysSound code (open_recording m.recording name m)
record_sound code index rec name m ready none live stands =
    by_recording
    m.recording
    ready
    (open_isnt_here (length m.callers) rec m.recording m.top.function ready.within ready.keeps.owns ready.keeps.plain none live)
  where
    by_recording : (recording : Option OpenRecording)
        → Ready code index rec recording m.callers m.top.function (length m.top.slots) m.top.handlers
        → is_some recording ≡ false
        → StaysSound code (open_recording recording name m)
    by_recording (Some open_one) ready closed = absurd (true≢false closed)
    by_recording None ready closed =
        next_sound
        code
        index
        (length m.top.handlers + 1)
        (record m {
          cursor = pos 0;
          recording = Some (record { name = name; saved = m.cursor; events = []; callers = length m.callers });
        })
        (record {
          keeps =
              record {
                found = ready.keeps.found;
                full = ready.keeps.full;
                owns = opened_test_of (length m.callers) (length m.top.handlers);
                bounded = omega arith;
                plain = λ below. absurd (false≢true (sym (le-ltb (length m.callers) (length m.callers) (omega arith)) ∙ below));
                handled =
                    handlers_fit_again
                    code
                    index
                    false
                    (opened_below (length m.callers) (Some (record { name = name; saved = m.cursor; events = []; callers = length m.callers })))
                    rec
                    (length m.top.handlers + 1)
                    m.top.handlers
                    (sym (le-ltb (length m.callers) (length m.callers) (omega arith)))
                    (λ j lt. rec_below_opened rec (length m.top.handlers) j none lt)
                    ready.keeps.handled;
              };
          waiting =
              callers_fit_again
              code
              (length m.callers)
              None
              (Some (record { name = name; saved = m.cursor; events = []; callers = length m.callers }))
              (closed_here (record { name = name; saved = m.cursor; events = []; callers = length m.callers }) (length m.callers) refl)
              m.top.function
              m.callers
              (omega arith)
              ready.waiting;
          within = omega arith;
        })
        stands

-- a recording is saved
pub save_sound : (code : Code) (index rec : ℕ) (m : Machine)
    → IsReady code index rec m
    → rec ≡ length m.top.handlers + 1
    → StandsAt code index (m.top.place + 1) (length m.top.operands) (length m.top.handlers) 0
    → StaysSound code (save_recording m.recording m)
save_sound code index rec m ready all stands = by_recording m.recording ready
  where
    own : (recording : Option OpenRecording) → opened_by (length m.callers) recording ≡ not (rec == 0) → opened_by (length m.callers) recording ≡ true
    own recording owns = owns ∙ owned rec (length m.top.handlers) all

    by_recording : (recording : Option OpenRecording)
        → Ready code index rec recording m.callers m.top.function (length m.top.slots) m.top.handlers
        → StaysSound code (save_recording recording m)
    by_recording None ready = absurd (false≢true (own None ready.keeps.owns))
    by_recording (Some open_one) ready =
        unit_sound
        code
        (λ m'.
        ask_then
        (save_request open_one m.cursor)
        (λ reply. next)
        (record m' { cursor = open_one.saved; recording = None }))
        m
        (λ left.
        ask_sound
        code
        index
        0
        (save_request open_one m.cursor)
        (λ reply. next)
        (record m { units = left; cursor = open_one.saved; recording = None })
        closed
        (λ reply replies.
        next_sound
        code
        index
        0
        (record m {
          units = left;
          cursor = open_one.saved;
          recording = None;
          asked = m.asked ++ save_request open_one m.cursor ∷ [];
          replies = replies;
        })
        closed
        stands))
      where
        here : open_one.callers ≡ length m.callers
        here = eqb-true open_one.callers (length m.callers) (own (Some open_one) ready.keeps.owns)

        closed : Ready code index 0 None m.callers m.top.function (length m.top.slots) m.top.handlers
        closed =
            record {
              keeps =
                  record {
                    found = ready.keeps.found;
                    full = ready.keeps.full;
                    owns = refl;
                    bounded = omega arith;
                    plain = λ below. absurd (false≢true below);
                    handled =
                        handlers_fit_again
                        code
                        index
                        (opened_below (length m.callers) (Some open_one))
                        false
                        rec
                        0
                        m.top.handlers
                        (own_isnt_below (length m.callers) (Some open_one) (own (Some open_one) ready.keeps.owns))
                        (λ j lt. rec_below_closed rec (length m.top.handlers) j all lt)
                        ready.keeps.handled;
                  };
              waiting =
                  callers_fit_again
                  code
                  (length m.callers)
                  (Some open_one)
                  None
                  (opened_here open_one (length m.callers) here)
                  m.top.function
                  m.callers
                  (omega arith)
                  ready.waiting;
              within = tt;
            }
