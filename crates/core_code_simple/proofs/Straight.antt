-- Rows of instructions, as a loop puts them.
use Rattle.std.proofs.Common.{◌≡◌, ℕ, zero, suc, ◌+◌, ◌-◌, ◌<◌, ◌≤◌, [], ◌∷◌, ◌++◌, refl, ap, arith}
use Rattle.core_isa.specs.declared.code.Mark.{Mark}
use Rattle.core_isa.specs.declared.instr.Instr.{Instr}
use Rattle.core_isa.specs.declared.instr.Instr.TheVariants as I
use Rattle.code_forms.specs.Lines.{line, straight, end_tries, mark_after}
use Rattle.code_forms.specs.StatementCode.{moved, element_slot}

-- one handler is removed, and then the others
pub end_tries-more : (mark : Mark) (n i : ℕ) (last : Instr) → i < n → straight mark (end_tries (n - i) ++ last ∷ []) ≡ line mark I.EndTry ∷ straight (record mark { tries = mark.tries - 1 }) (end_tries (n - (i + 1)) ++ last ∷ [])
end_tries-more mark n i last h = let e : n - i ≡ suc (n - (i + 1)) = omega arith in rw e refl

-- at the end none is left
pub end_tries-none : (mark : Mark) (n i : ℕ) (last : Instr) → n ≤ i → straight mark (end_tries (n - i) ++ last ∷ []) ≡ line mark last ∷ []
end_tries-none mark n i last h = let e : n - i ≡ 0 = omega arith in rw e refl

-- the mark after a number is loaded and stored is the one before
load-store : (mark : Mark) (from to : ℕ) → mark_after (mark_after mark (I.Load from)) (I.Store to) ≡ mark
load-store mark from to = let same : mark.height - 0 + 1 - 1 + 0 ≡ mark.height = omega arith in ap (λ h. record mark { height = h }) same

-- one number is moved, and then the others
pub moved-more : (mark : Mark) (n i from to : ℕ) → i < n → straight mark (moved (n - i) (from + i) (to + i)) ≡ straight mark (I.Load (from + i) ∷ I.Store (to + i) ∷ []) ++ straight mark (moved (n - (i + 1)) (from + (i + 1)) (to + (i + 1)))
moved-more mark n i from to h =
    let e : n - i ≡ suc (n - (i + 1)) = omega arith in
    let a : from + i + 1 ≡ from + (i + 1) = omega arith in
    let b : to + i + 1 ≡ to + (i + 1) = omega arith in
    rw (e, load-store mark (from + i) (to + i), a, b) refl

-- at the end none is left
pub moved-none : (mark : Mark) (n i from to : ℕ) → n ≤ i → straight mark (moved (n - i) (from + i) (to + i)) ≡ []
moved-none mark n i from to h = let e : n - i ≡ 0 = omega arith in rw e refl

-- an element that isn't the last is stored in a free slot
pub more_behind : (left free last : ℕ) → 1 ≤ left → element_slot left free last ≡ free
more_behind zero free last more = absurd (omega (arith, more))
more_behind (suc n) free last more = refl
