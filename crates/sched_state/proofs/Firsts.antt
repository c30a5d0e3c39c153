-- The first pipeline that has something.
use Rattle.std.proofs.Common.{◌≡◌, ℕ, suc, ◌+◌, ◌-◌, ◌<◌, ◌≤◌, List, [], ◌∷◌, refl, ◌∙◌, ap, arith}
use Rattle.std.specs.Prelude.{Option, Some, None}
use Rattle.std.specs.List.{range_with_len}
use Rattle.sched_state.specs.Picks.{first_with}

range-step : (p n : ℕ) → p < n → range_with_len p (n - p) ≡ p ∷ range_with_len (p + 1) (n - (p + 1))
range-step p n h = let e : n - p ≡ suc (n - (p + 1)) = omega (arith, h) in ap (range_with_len p) e

range-none : (p n : ℕ) → n ≤ p → range_with_len p (n - p) ≡ []
range-none p n h = let e : n - p ≡ 0 = omega (arith, h) in ap (range_with_len p) e

cons-some : (choose : ℕ → Option ℕ) (p rid : ℕ) (ps : List ℕ) → choose p ≡ Some rid → first_with choose (p ∷ ps) ≡ Some rid
cons-some choose p rid ps e = rw e refl

cons-none : (choose : ℕ → Option ℕ) (p : ℕ) (ps : List ℕ) → choose p ≡ None → first_with choose (p ∷ ps) ≡ first_with choose ps
cons-none choose p ps e = rw e refl

pub first-here : (choose : ℕ → Option ℕ) (p n rid : ℕ) → p < n → choose p ≡ Some rid → first_with choose (range_with_len p (n - p)) ≡ Some rid
first-here choose p n rid h e = ap (first_with choose) (range-step p n h) ∙ cons-some choose p rid (range_with_len (p + 1) (n - (p + 1))) e

pub first-next : (choose : ℕ → Option ℕ) (p n : ℕ) → p < n → choose p ≡ None → first_with choose (range_with_len p (n - p)) ≡ first_with choose (range_with_len (p + 1) (n - (p + 1)))
first-next choose p n h e = ap (first_with choose) (range-step p n h) ∙ cons-none choose p (range_with_len (p + 1) (n - (p + 1))) e

pub first-none : (choose : ℕ → Option ℕ) (p n : ℕ) → n ≤ p → first_with choose (range_with_len p (n - p)) ≡ None
first-none choose p n h = ap (first_with choose) (range-none p n h)
