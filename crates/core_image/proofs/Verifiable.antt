-- What holds of code that is in range, and of code that is accepted.
use Rattle.std.proofs.Common.{◌≡◌, ℕ, zero, suc, ◌+◌, ◌<◌, ◌≤◌, inl, inr, true, List, [], ◌∷◌, length, map, Some, refl, sym, ap, subst, ◌∙◌, arith}
use Rattle.std.specs.Prelude.{slice_get, nat_le, nat_lt, ◌&&◌, ◌==◌, is_some}
use Rattle.std.specs.List.{list_all}
use Rattle.std.proofs.lemmas.Bool.{and_parts, ltb-true, leb-true, eqb-true, false≢true, cases_lt}
use Rattle.core_isa.proofs.Safe.{never_stuck}
use Rattle.core_isa.specs.Marks.{HasOrder, Marked}
use Rattle.core_isa.specs.Sound.{NeverStuck}
use Rattle.core_isa.specs.declared.code.Code.{Code}
use Rattle.core_isa.specs.declared.code.CodeFunction.{CodeFunction}
use Rattle.core_image.specs.Accepted.{IsLeastBad, MainTakesNothing}
use Rattle.core_image.specs.AcceptedTests.{IsVerified}
use Rattle.core_image.specs.Ranges.{IsInRange, rises_above, rises_from_zero, is_function}
use Rattle.core_image.proofs.Spots.{good_is}

some_is : {A : Type 0} (a b : A) → Some a ≡ Some b → a ≡ b
some_is a b e = cc

-- a function of some code is one in its range
each_function : (lines : ℕ) (fs : List CodeFunction) (k : ℕ) (f : CodeFunction) → list_all (is_function lines) fs ≡ true → slice_get fs k ≡ Some f → is_function lines f ≡ true
each_function lines [] k f h at = absurd (false≢true (ap is_some at))
each_function lines (g ∷ fs) zero f h at = ap (is_function lines) (sym (some_is g f at)) ∙ (and_parts (is_function lines g) (list_all (is_function lines) fs) h).0
each_function lines (g ∷ fs) (suc k) f h at = each_function lines fs k f (and_parts (is_function lines g) (list_all (is_function lines) fs) h).1 at

begins_within : (lines : ℕ) (f : CodeFunction) → is_function lines f ≡ true → f.first < lines
begins_within lines f h = ltb-true _ _ (and_parts (nat_lt f.first lines) (nat_le f.params 8 && (nat_le f.params f.slots && nat_lt f.slots 65536)) h).0

has_room : (lines : ℕ) (f : CodeFunction) → is_function lines f ≡ true → f.params ≤ f.slots
has_room lines f h =
    let p = and_parts (nat_lt f.first lines) (nat_le f.params 8 && (nat_le f.params f.slots && nat_lt f.slots 65536)) h in
    let q = and_parts (nat_le f.params 8) (nat_le f.params f.slots && nat_lt f.slots 65536) p.1 in
    leb-true _ _ (and_parts (nat_le f.params f.slots) (nat_lt f.slots 65536) q.1).0

next_rises : (h : CodeFunction) (fs : List CodeFunction) (k : ℕ) (f g : CodeFunction) → rises_above h.first (map (λ x. x.first) fs) ≡ true
    → slice_get (h ∷ fs) k ≡ Some f → slice_get (h ∷ fs) (suc k) ≡ Some g → f.first < g.first
next_rises h [] k f g r at next = absurd (false≢true (ap is_some next))
next_rises h (j ∷ fs) zero f g r at next =
    let rise = ltb-true _ _ (and_parts (nat_lt h.first j.first) (rises_above j.first (map (λ x. x.first) fs)) r).0 in
    let first = ap (λ (x : CodeFunction). x.first) (some_is h f at) in
    let second = ap (λ (x : CodeFunction). x.first) (some_is j g next) in
    omega arith
next_rises h (j ∷ fs) (suc k) f g r at next = next_rises j fs k f g (and_parts (nat_lt h.first j.first) (rises_above j.first (map (λ x. x.first) fs)) r).1 at next

rising : (fs : List CodeFunction) (k : ℕ) (f g : CodeFunction) → rises_from_zero (map (λ x. x.first) fs) ≡ true → slice_get fs k ≡ Some f → slice_get fs (k + 1) ≡ Some g → f.first < g.first
rising [] k f g r at next = absurd (false≢true (ap is_some at))
rising (h ∷ fs) k f g r at next =
    let same : k + 1 ≡ suc k = omega arith in
    next_rises h fs k f g (and_parts (h.first == 0) (rises_above h.first (map (λ x. x.first) fs)) r).1 at (subst (λ (n : ℕ). slice_get (h ∷ fs) n ≡ Some g) same next)

from_zero : (fs : List CodeFunction) (f : CodeFunction) → rises_from_zero (map (λ x. x.first) fs) ≡ true → slice_get fs 0 ≡ Some f → f.first ≡ 0
from_zero [] f r at = absurd (false≢true (ap is_some at))
from_zero (h ∷ fs) f r at = ap (λ (x : CodeFunction). x.first) (sym (some_is h f at)) ∙ eqb-true _ _ (and_parts (h.first == 0) (rises_above h.first (map (λ x. x.first) fs)) r).0

-- the functions of code in range are in order
pub has_order : (code : Code) → IsInRange code → HasOrder code
has_order code h = record {
  from_zero = λ f at. from_zero code.functions f h.rising at;
  rising = λ k f g at next. rising code.functions k f g h.rising at next;
  within = λ k f at. begins_within (length code.lines) f (each_function (length code.lines) code.functions k f h.functions at);
  room = λ k f at. has_room (length code.lines) f (each_function (length code.lines) code.functions k f h.functions at);
}

-- accepted code is marked
pub is_marked : (code : Code) → IsVerified code → Marked code
is_marked code h place lt = (good_is code place (h.accepted place (omega arith) lt)).right

-- and its main function takes nothing
pub takes_nothing : (code : Code) → IsVerified code → MainTakesNothing code
takes_nothing code h main at =
    let within = begins_within (length code.lines) main (each_function (length code.lines) code.functions code.main main h.in_range.functions at) in
    let good = good_is code main.first (h.accepted main.first (omega arith) within) in
    elim (cases_lt 0 main.params) [
      | inl some ↦ absurd (good.no_main (record { main = main; is_main = at; begins = refl; takes = omega arith }))
      | inr none ↦ omega arith
    ]

-- such code has no bad place
pub no_bad : (code : Code) (place : ℕ) → Marked code → MainTakesNothing code → IsLeastBad code place → ⊥
no_bad code place marked nothing bad =
    bad.bad (record { right = marked place bad.within; no_main = λ m. absurd (omega (arith, m.takes, nothing m.main m.is_main)) })

-- no run of accepted code is ever stuck
pub is_safe : (code : Code) → IsInRange code → Marked code → NeverStuck code
is_safe code h marked = never_stuck code (has_order code h) marked
