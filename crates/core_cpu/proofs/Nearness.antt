-- That a step brings a CPU nearer to its next stop.
use Rattle.std.proofs.Common.{◌≡◌, ℕ, ◌+◌, ◌*◌, ◌^◌, ◌<◌, ◌≤◌, inl, inr, length, arith, ap}
use Rattle.std.specs.Prelude.{sum_by}
use Rattle.std.proofs.Math.Nat.{mul-le-mul_left, pow-le-pow_right}
use Rattle.std.proofs.lemmas.List.Sums.{sum_by-le}
use Rattle.core_isa.specs.Falling.{first_number, second_number, frame_weight, weight, Falls}
use Rattle.core_isa.specs.Machine.{Frame, Machine}
use Rattle.core_isa.specs.declared.code.Code.{Code}
use Rattle.core_cpu.specs.Layout.{Held, IsFrameHeld, IsHeld}
use Rattle.core_cpu.specs.Nearness.{heaviest, distance}

-- of two numbers as one, the first counts more
first_counts : (a b x y k : ℕ) → a < b → x < k → a * k + x < b * k + y
first_counts a b x y k less small =
    let more : k * (a + 1) ≤ k * b = mul-le-mul_left k (omega arith) in omega arith

pub falls_nearer : (code : Code) (before now : Machine) → Falls code before now → second_number code now < heaviest code → distance code now < distance code before
falls_nearer code before now falls small =
    elim falls [
      | inl lower ↦
          first_counts
          (first_number code now)
          (first_number code before)
          (second_number code now)
          (second_number code before)
          (heaviest code)
          lower
          small
      | inr lighter ↦ same_first (first_number code now) (first_number code before) (second_number code now) (second_number code before) (heaviest code) lighter.0 lighter.1
    ]
  where
    same_first : (a b x y k : ℕ) → a ≡ b → x < y → a * k + x < b * k + y
    same_first a b x y k same less = let e : a * k ≡ b * k = ap (λ n. n * k) same in omega arith

-- a place weighs at most as much as the first one
weight_bound : (code : Code) (place : ℕ) → weight code place ≤ 3 ^ length code.lines
weight_bound code place = pow-le-pow_right (omega arith) (omega arith)

frame_bound : (code : Code) (width : ℕ) (frame : Frame) → IsFrameHeld width frame → frame_weight code frame ≤ 256 * 3 ^ length code.lines
frame_bound code width frame held =
    let handlers : sum_by (λ handler. weight code handler.place) frame.handlers ≤ length frame.handlers * 3 ^ length code.lines =
    sum_by-le
    (λ handler. weight code handler.place)
    (3 ^ length code.lines)
    frame.handlers
    (λ k d lt. weight_bound code _)
    in
    let few : length frame.handlers ≤ 255 = held.handlers in
    let most : 3 ^ length code.lines * length frame.handlers ≤ 3 ^ length code.lines * 255 = mul-le-mul_left (3 ^ length code.lines) few in
    let own : weight code frame.place ≤ 3 ^ length code.lines = weight_bound code frame.place in
    omega arith

-- the second number of a machine in memory has a bound
pub second_bound : (code : Code) (held : Held) → IsHeld held → second_number code held.machine < heaviest code
second_bound code held is =
    let callers : sum_by (frame_weight code) held.machine.callers ≤ length held.machine.callers * (256 * 3 ^ length code.lines) =
    sum_by-le
    (frame_weight code)
    (256 * 3 ^ length code.lines)
    held.machine.callers
    (λ k d lt. frame_bound code held.width _ (is.callers k d lt))
    in
    let few : length held.machine.callers ≤ 63 = is.few in
    let most : 256 * 3 ^ length code.lines * length held.machine.callers ≤ 256 * 3 ^ length code.lines * 63 =
    mul-le-mul_left (256 * 3 ^ length code.lines) few
    in
    let own : frame_weight code held.machine.top ≤ 256 * 3 ^ length code.lines = frame_bound code held.width held.machine.top is.top in
    omega arith
