-- The sums of a round, one number more, how great they are at most, and the same over rounds.
use Rattle.std.proofs.Common.{◌≡◌, ℕ, zero, suc, ◌+◌, ◌*◌, ◌≤◌, ◌<◌, refl, arith, add-one}
use Rattle.std.specs.Prelude.{◌^◌}
use Rattle.std.proofs.lemmas.Nat.{mul-le}
use Rattle.rtio_types.specs.Time.{reading}
use Rattle.rtio_bench.specs.Reading.{cycle_of_edge}
use Rattle.rtio_bench.specs.Sums.{lengths_sum, stamps_sum}

pub stamps_more : (count : ℕ) → stamps_sum (count + 1) ≡ stamps_sum count + reading (cycle_of_edge count)
stamps_more count = rw (add-one count) refl

pub lengths_more : (count : ℕ) → lengths_sum (count + 1) ≡ lengths_sum count + count
lengths_more count = rw (add-one count) refl

pub stamps_bound : (count : ℕ) → count ≤ 4096 → stamps_sum count ≤ 32784 * count
stamps_bound zero le = omega arith
stamps_bound (suc count) le = let before = stamps_bound count (omega (arith, le)) in omega (arith, before, le)

pub lengths_bound : (count : ℕ) → count ≤ 4096 → lengths_sum count ≤ 4096 * count
lengths_bound zero le = omega arith
lengths_bound (suc count) le = let before = lengths_bound count (omega (arith, le)) in omega (arith, before, le)

pub round_more : (rounds each : ℕ) → (rounds + 1) * each ≡ rounds * each + each
round_more rounds each = omega arith

rounds_bound : (rounds each : ℕ) → rounds < 2 ^ 32 → each ≤ 134283264 → rounds * each + each < 2 ^ 64
rounds_bound rounds each few small = let all = mul-le rounds each (2 ^ 32) 134283264 (omega (arith, few)) small in omega (arith, all, small)

-- a sum over rounds, and one more, fits 64 bits
pub stamps_fit : (rounds count : ℕ) → rounds < 2 ^ 32 → count ≤ 4096 → rounds * stamps_sum count + stamps_sum count < 2 ^ 64
stamps_fit rounds count few le =
    let bound = stamps_bound count le in
    rounds_bound rounds (stamps_sum count) few (omega (arith, bound, le))

pub lengths_fit : (rounds count : ℕ) → rounds < 2 ^ 32 → count ≤ 4096 → rounds * lengths_sum count + lengths_sum count < 2 ^ 64
lengths_fit rounds count few le =
    let bound = lengths_bound count le in
    rounds_bound rounds (lengths_sum count) few (omega (arith, bound, le))
