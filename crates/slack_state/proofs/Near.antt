-- Numbers and spans that don't reach too far, and those that do.
use Rattle.std.proofs.Common.{◌≡◌, ◌^◌, Bool, true, false, Option, Some, None, if◌then◌else◌, refl, ap, arith, pos, ℤ, w64, FitsSigned, ◌≤ℤ◌}
use Rattle.std.specs.Prelude.{negsuc, neg_ℤ, ◌&&◌, int_le}
use Rattle.std.proofs.lemmas.Int.{ints}
use Rattle.slack_meaning.specs.Actions.{State, normal, span_if, within_near}
use Rattle.slack_meaning.specs.declared.span.Span.{Span}
use Rattle.slack_meaning.specs.Spans.{is_near, lies_near}

le-of : (a b : ℤ) → int_le a b ≡ true → a ≤ℤ b
le-of a b h = grind (arith, ints, h)

fits : (n : ℤ) → neg_ℤ (pos (2 ^ 62)) ≤ℤ n → n ≤ℤ pos (2 ^ 62) → FitsSigned w64 n
fits (pos n) low high = record { sfits = omega (arith, ints, high) }
fits (negsuc n) low high = record { sfits = omega (arith, ints, low) }

split : (a b : Bool) → (a && b) ≡ true → (a ≡ true) × (b ≡ true)
split true b h = (refl, h)
split false b h = absurd (cc)

near-fits : (n : ℤ) → lies_near n ≡ true → FitsSigned w64 n
near-fits n near =
    let parts = split (int_le (neg_ℤ (pos (2 ^ 62))) n) (int_le n (pos (2 ^ 62))) near in
    fits n (le-of (neg_ℤ (pos (2 ^ 62))) n parts.0) (le-of n (pos (2 ^ 62)) parts.1)

-- a number beyond 64 bits lies too far
pub far : (n : ℤ) → (FitsSigned w64 n → ⊥) → (if lies_near n then Some n else None) ≡ None
far n never = by (lies_near n) refl
  where
    by : (b : Bool) → lies_near n ≡ b → (if b then Some n else None) ≡ None
    by true near = absurd (never (near-fits n near))
    by false isnt = refl

-- a span may stand where it was found near
pub near_some : (span found : Span) (s : State) → (if is_near span then Some span else None) ≡ Some found → within_near span s ≡ normal found s
near_some span found s h = by (is_near span) h
  where
    by : (b : Bool) → (if b then Some span else None) ≡ Some found → span_if b span s ≡ normal found s
    by true h = let same : span ≡ found = cc in ap (λ (x : Span). normal x s) same
    by false h = absurd (cc)

-- a number, if it lies near
abbrev pub near_number : ℤ → Option ℤ
near_number n = if lies_near n then Some n else None

-- the span with these ends
abbrev pub between : ℤ → ℤ → Span
between least greatest = record { least = least; greatest = greatest }

-- two numbers that lie near are the ends of a span that is near
pub both-near : (l g least greatest : ℤ) → Some least ≡ near_number l → Some greatest ≡ near_number g → Some (between least greatest) ≡ (if is_near (between l g) then Some (between l g) else None)
both-near l g least greatest low high = by (lies_near l) (lies_near g) low high
  where
    by : (a b : Bool) → Some least ≡ (if a then Some l else None) → Some greatest ≡ (if b then Some g else None) → Some (between least greatest) ≡ (if a && b then Some (between l g) else None)
    by true true low high =
        let first : least ≡ l = cc in
        let second : greatest ≡ g = cc in
        λ i. Some (between (first i) (second i))
    by true false low high = absurd (cc)
    by false b low high = absurd (cc)

-- one whose greatest end lies too far isn't
pub far-greatest : (l g : ℤ) → None ≡ near_number g → None ≡ (if is_near (between l g) then Some (between l g) else None)
far-greatest l g far = by (lies_near l) (lies_near g) far
  where
    by : (a b : Bool) → None ≡ (if b then Some g else None) → None ≡ (if a && b then Some (between l g) else None)
    by true true far = absurd (cc)
    by true false far = refl
    by false b far = refl
