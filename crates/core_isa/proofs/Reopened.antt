-- What becomes of the frames where a recording is opened or closed.
use Rattle.std.proofs.Common.{◌≡◌, ◌≢◌, ℕ, suc, ◌<◌, ◌≤◌, List, [], ◌∷◌, length, true, false, ◌||◌, ltb, Option, Some, None, refl, sym, subst₂, arith}
use Rattle.std.specs.Prelude.{is_some, ◌==◌}
use Rattle.std.proofs.lemmas.Bool.{le-ltb, ne_eqb, eqb-true, eqb-false, ltb-true}
use Rattle.std.proofs.lemmas.Bool.Decides.{nat_tests}
use Rattle.core_isa.specs.declared.code.Code.{Code}
use Rattle.core_isa.specs.declared.code.CodeFunction.{CodeFunction}
use Rattle.core_isa.specs.Machine.{Frame, OpenRecording, opened_by}
use Rattle.core_isa.specs.Sound.{opened_below, IsOpenedWithin, FrameKeeps, CallersFit}

-- a frame with fewer callers can't tell two recordings apart
pub record SameBelow (n : ℕ) (before now : Option OpenRecording) : Type 0 where
  pub own : (j : ℕ) → j < n → opened_by j before ≡ opened_by j now
  pub below : (j : ℕ) → j < n → opened_below j before ≡ opened_below j now

-- then the callers fit as before
pub callers_fit_again : (code : Code) (n : ℕ) (before now : Option OpenRecording) → SameBelow n before now
    → (called : CodeFunction) (callers : List Frame) → length callers ≤ n
    → CallersFit code before called callers → CallersFit code now called callers
callers_fit_again code n before now same called [] within fit = tt
callers_fit_again code n before now same called (caller ∷ callers) within (fits, rest) = (
  record {
    index = fits.index;
    rec = fits.rec;
    keeps =
        subst₂
        (λ own. λ below. FrameKeeps code fits.index fits.rec own below caller.function (length caller.slots) caller.handlers)
        (same.own (length callers) within)
        (same.below (length callers) within)
        fits.keeps;
    stands = fits.stands;
  },
  callers_fit_again code n before now same caller.function callers (omega arith) rest,
)

-- a recording of a frame with so many callers is nothing to those callers
pub opened_here : (open_one : OpenRecording) (n : ℕ) → open_one.callers ≡ n → SameBelow n (Some open_one) None
opened_here open_one n at =
    record {
      own = λ j lt. ne_eqb open_one.callers j (λ e. omega arith);
      below = λ j lt. le-ltb open_one.callers j (omega arith);
    }

pub closed_here : (open_one : OpenRecording) (n : ℕ) → open_one.callers ≡ n → SameBelow n None (Some open_one)
closed_here open_one n at =
    record {
      own = λ j lt. sym ((opened_here open_one n at).own j lt);
      below = λ j lt. sym ((opened_here open_one n at).below j lt);
    }

-- the frame that opened it isn't above the one that did
pub own_isnt_below : (n : ℕ) (recording : Option OpenRecording) → opened_by n recording ≡ true → opened_below n recording ≡ false
own_isnt_below n None own = refl
own_isnt_below n (Some open_one) own = le-ltb open_one.callers n (let e : open_one.callers ≡ n = eqb-true open_one.callers n own in omega arith)

lower_or_equal : (k n : ℕ) → k ≤ n → (ltb k n || (k == n)) ≡ true
lower_or_equal k n within = grind (arith, nat_tests)

lower_if_other : (k n : ℕ) → k ≤ suc n → (k == suc n) ≡ false → k ≤ n
lower_if_other k n within other = let apart : k ≢ suc n = eqb-false k (suc n) other in omega arith

-- an open recording is this frame's or a caller's
pub opened_somewhere : (n : ℕ) (recording : Option OpenRecording) → IsOpenedWithin n recording → is_some recording ≡ (opened_below n recording || opened_by n recording)
opened_somewhere n None within = refl
opened_somewhere n (Some open_one) within = sym (lower_or_equal open_one.callers n within)

-- one that isn't this frame's is a caller's
pub opened_lower : (n : ℕ) (recording : Option OpenRecording) → IsOpenedWithin (suc n) recording → opened_by (suc n) recording ≡ false → IsOpenedWithin n recording
opened_lower n None within other = tt
opened_lower n (Some open_one) within other = lower_if_other open_one.callers n within other

-- no recording of a frame above all is open
pub none_above : (n : ℕ) (recording : Option OpenRecording) → IsOpenedWithin n recording → opened_by (suc n) recording ≡ false
none_above n None within = refl
none_above n (Some open_one) within = ne_eqb open_one.callers (suc n) (λ e. omega arith)

-- a recording within reach stays so under one more frame
pub within_more : (n : ℕ) (recording : Option OpenRecording) → IsOpenedWithin n recording → IsOpenedWithin (suc n) recording
within_more n None within = tt
within_more n (Some open_one) within = omega arith

-- below one more frame a recording is a caller's if it was the frame's or a caller's
pub below_more : (n : ℕ) (recording : Option OpenRecording) → opened_below (suc n) recording ≡ true → (opened_below n recording || opened_by n recording) ≡ true
below_more n None below = below
below_more n (Some open_one) below =
    let lower : open_one.callers < suc n = ltb-true open_one.callers (suc n) below in
    lower_or_equal open_one.callers n (omega arith)
