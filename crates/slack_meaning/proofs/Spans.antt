-- Spans that don't reach too far, and the cycles of stamps.
use Rattle.std.proofs.Common.{◌≡◌, ◌^◌, ◌≤◌, Bool, true, false, refl, arith}
use Rattle.std.specs.Prelude.{ℤ, pos, negsuc, neg_ℤ, ◌≤ℤ◌, ◌&&◌, int_le, FitsSigned}
use Rattle.std.specs.Int.{w64}
use Rattle.std.proofs.lemmas.Int.{ints}
use Rattle.rtio_types.specs.Time.{cycle_of_stamp}
use Rattle.slack_meaning.specs.declared.span.Span.{Span}
use Rattle.slack_meaning.specs.Spans.{is_near, lies_near}

-- the parts of a test
pub both : (p q : Bool) → (p && q) ≡ true → (p ≡ true) × (q ≡ true)
both true q is = (refl, is)
both false q is = absurd (cc)

le-of : (a b : ℤ) → int_le a b ≡ true → a ≤ℤ b
le-of a b h = grind (arith, ints, h)

-- the ends of a span that doesn't reach too far
pub record IsNear (span : Span) : Type 0 where
  pub from : neg_ℤ (pos (2 ^ 62)) ≤ℤ span.least
  pub to : span.greatest ≤ℤ pos (2 ^ 62)

pub near-ends : (span : Span) → is_near span ≡ true → IsNear span
near-ends span near =
    let ends = both (lies_near span.least) (lies_near span.greatest) near in
    let first = both (int_le (neg_ℤ (pos (2 ^ 62))) span.least) (int_le span.least (pos (2 ^ 62))) ends.0 in
    let last = both (int_le (neg_ℤ (pos (2 ^ 62))) span.greatest) (int_le span.greatest (pos (2 ^ 62))) ends.1 in
    record { from = le-of (neg_ℤ (pos (2 ^ 62))) span.least first.0; to = le-of span.greatest (pos (2 ^ 62)) last.1 }

-- a number between them fits 64 bits
pub fits-near : (n : ℤ) → neg_ℤ (pos (2 ^ 62)) ≤ℤ n → n ≤ℤ pos (2 ^ 62) → FitsSigned w64 n
fits-near (pos n) from to = record { sfits = omega (arith, ints, to) }
fits-near (negsuc n) from to = record { sfits = omega (arith, ints, from) }

-- cycles rise with stamps
pub cycle-rises : (x y : ℤ) → x ≤ℤ y → cycle_of_stamp x ≤ cycle_of_stamp y
cycle-rises (pos m) (pos n) h = let le : m ≤ n = omega (arith, ints, h) in omega (arith, le)
cycle-rises (negsuc m) y h = omega arith
cycle-rises (pos m) (negsuc n) h = absurd (omega (arith, ints, h))
