-- How the weights of places compare, and what a lighter state is.
use Rattle.std.proofs.Common.{◌≡◌, ℕ, suc, ◌+◌, ◌-◌, ◌*◌, ◌^◌, ◌<◌, ◌≤◌, inl, inr, List, ◌∷◌, length, Bool, true, false, refl, ap, arith}
use Rattle.std.specs.Prelude.{slice_get, sum_by, if◌then◌else◌}
use Rattle.std.proofs.Math.Nat.{pow-suc, one-le-pow, pow-le-pow_right}
use Rattle.std.proofs.lemmas.List.Sums.{sum_by-cons}
use Rattle.core_isa.specs.declared.code.Code.{Code}
use Rattle.core_isa.specs.Machine.{HandlerPoint, Frame, Machine, Next, goes, ends, stuck}
use Rattle.core_isa.specs.Marks.{takes_unit_first}
use Rattle.core_isa.specs.Falling.{free_step, weight, frame_weight, second_number, Falls}

pub weighs_some : (code : Code) (place : ℕ) → 1 ≤ weight code place
weighs_some code place = one-le-pow (length code.lines - place) 3 (omega arith)

-- a place that isn't an earlier one weighs no more
pub weighs_no_more : (code : Code) (place later : ℕ) → place ≤ later → weight code later ≤ weight code place
weighs_no_more code place later from = pow-le-pow_right (omega arith) (omega arith)

-- the next place weighs a third
pub weighs_a_third : (code : Code) (place : ℕ) → place < length code.lines → 3 * weight code (place + 1) ≡ weight code place
weighs_a_third code place within =
    let left : length code.lines - place ≡ suc (length code.lines - (place + 1)) = omega arith in
    let third : 3 ^ suc (length code.lines - (place + 1)) ≡ 3 ^ (length code.lines - (place + 1)) * 3 =
    pow-suc 3 (length code.lines - (place + 1))
    in
    let whole : weight code place ≡ 3 ^ suc (length code.lines - (place + 1)) = ap (λ n. 3 ^ n) left in
    omega arith

-- the handlers of a frame, one more
pub handlers-cons : (code : Code) (handler : HandlerPoint) (rest : List HandlerPoint) → sum_by (λ h. weight code h.place) (handler ∷ rest) ≡ weight code handler.place + sum_by (λ h. weight code h.place) rest
handlers-cons code handler rest = sum_by-cons (λ h. weight code h.place) handler rest

-- the callers, one more
pub callers-cons : (code : Code) (caller : Frame) (callers : List Frame) → sum_by (frame_weight code) (caller ∷ callers) ≡ frame_weight code caller + sum_by (frame_weight code) callers
callers-cons code caller callers = sum_by-cons (frame_weight code) caller callers

-- what a step leads to has these units and less weight than so much
abbrev pub IsLighter : Code → (units weight : ℕ) → Next → Type 0
IsLighter code units weight (goes m) = (m.units ≡ units) × (second_number code m < weight)
IsLighter code units weight (ends outcome m) = Unit {0}
IsLighter code units weight stuck = Unit {0}

-- what a step leads to has at most so many units
abbrev pub HasUnits : ℕ → Next → Type 0
HasUnits units (goes m) = m.units ≤ units
HasUnits units (ends outcome m) = Unit {0}
HasUnits units stuck = Unit {0}

-- what a step leads to is nearer to the end
abbrev pub IsNearer : Code → Machine → Next → Type 0
IsNearer code m (goes now) = Falls code m now
IsNearer code m (ends outcome now) = Unit {0}
IsNearer code m stuck = Unit {0}

-- a free step is at most one
free_at_most : (b : Bool) → (if b then 0 else 1) ≤ 1
free_at_most true = omega arith
free_at_most false = omega arith

-- a unit is spent
pub nearer_by_unit : (code : Code) (m : Machine) (left : ℕ) (next : Next) → suc left ≡ m.units → HasUnits left next → IsNearer code m next
nearer_by_unit code m left (goes now) spent has =
    inl
    (let free : free_step code now.top.place ≤ 1 = free_at_most (takes_unit_first (slice_get code.lines now.top.place)) in
    omega arith)
nearer_by_unit code m left (ends outcome now) spent has = tt
nearer_by_unit code m left stuck spent has = tt

-- a step that takes no unit leads to a lighter state
pub nearer_by_weight : (code : Code) (m : Machine) (next : Next) → takes_unit_first (slice_get code.lines m.top.place) ≡ false → IsLighter code m.units (second_number code m) next → IsNearer code m next
nearer_by_weight code m (ends outcome now) free lighter = tt
nearer_by_weight code m stuck free lighter = tt
nearer_by_weight code m (goes now) free lighter = by_free (takes_unit_first (slice_get code.lines now.top.place)) refl
  where
    here : free_step code m.top.place ≡ 1
    here = ap (λ b. if b then 0 else 1) free

    by_free : (b : Bool) → takes_unit_first (slice_get code.lines now.top.place) ≡ b → Falls code m now
    by_free true there =
        inl
        (let none : free_step code now.top.place ≡ 0 = ap (λ b. if b then 0 else 1) there in
        let same : now.units ≡ m.units = lighter.0 in
        omega (arith, here))
    by_free false there =
        inr (
          (let one : free_step code now.top.place ≡ 1 = ap (λ b. if b then 0 else 1) there in
              let same : now.units ≡ m.units = lighter.0 in
              omega (arith, here)),
          lighter.1,
        )
