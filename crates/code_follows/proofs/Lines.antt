-- Lines of code that stand from a place on, and the instructions in them.
use Rattle.std.proofs.Common.{◌≡◌, ℕ, ◌+◌, List, [], ◌∷◌, ◌++◌, length, slice_get, Some, refl, subst, arith}
use Rattle.core_isa.specs.declared.code.CodeLine.{CodeLine}
use Rattle.core_isa.specs.declared.code.Mark.{Mark}
use Rattle.core_isa.specs.declared.instr.Instr.{Instr}
use Rattle.code_forms.specs.Lines.{line, straight, mark_after}
use Rattle.code_follows.specs.Parts.{Stand}

-- these lines stand in the code from a place on
abbrev pub LinesStand : List CodeLine → ℕ → List CodeLine → Type 0
LinesStand lines place [] = Unit {0}
LinesStand lines place (l ∷ rest) = (slice_get lines place ≡ Some l) × LinesStand lines (place + 1) rest

pub first_part : (lines : List CodeLine) (place : ℕ) (a b : List CodeLine) → LinesStand lines place (a ++ b) → LinesStand lines place a
first_part lines place [] b s = tt
first_part lines place (l ∷ a) b s = (s.0, first_part lines (place + 1) a b s.1)

pub second_part : (lines : List CodeLine) (place n : ℕ) (a b : List CodeLine) → length a ≡ n → LinesStand lines place (a ++ b) → LinesStand lines (place + n) b
second_part lines place n [] b e s =
    let here : place ≡ place + n = omega (arith, e) in
    subst (λ p. LinesStand lines p b) here s
second_part lines place n (l ∷ a) b e s =
    let there : place + 1 + length a ≡ place + n = omega (arith, e) in
    subst (λ p. LinesStand lines p b) there (second_part lines (place + 1) (length a) a b refl s.1)

-- a line alone
pub one_line : (lines : List CodeLine) (place : ℕ) (mark : Mark) (i : Instr) (rest : List CodeLine) → LinesStand lines place (line mark i ∷ rest) → Stand lines place (i ∷ [])
one_line lines place mark i rest s = (line mark i, s.0, refl, tt)

-- instructions with running marks
pub straight_stands : (lines : List CodeLine) (place : ℕ) (mark : Mark) (is : List Instr) → LinesStand lines place (straight mark is) → Stand lines place is
straight_stands lines place mark [] s = tt
straight_stands lines place mark (i ∷ rest) s = (line mark i, s.0, refl, straight_stands lines (place + 1) (mark_after mark i) rest s.1)
