-- Rows of instructions under the marks of statements are in their ranges.
use Rattle.std.proofs.Common.{◌≡◌, ℕ, zero, suc, ◌+◌, ◌-◌, ◌<◌, ◌≤◌, ◌^◌, List, ◌∷◌, ◌++◌, length, refl, arith}
use Rattle.std.specs.Prelude.{Bool, true, false, pos, ℤ, bytes_eq, codes, if◌then◌else◌}
use Rattle.std.proofs.lemmas.Bool.{lt-ltb}
use Rattle.kern_syntax.specs.Tree.{Bytes, Otherwise, no_else, else_do, elif_then}
use Rattle.core_isa.specs.declared.code.CodeLine.{CodeLine}
use Rattle.core_isa.specs.declared.code.Mark.{Mark}
use Rattle.core_isa.specs.declared.instr.Instr.{Instr}
use Rattle.core_isa.specs.declared.instr.Instr.TheVariants as I
use Rattle.core_isa.specs.Marks.{after}
use Rattle.core_image.specs.Ranges.{is_short, is_integer}
use Rattle.code_forms.specs.Conditions.{test_instrs, test_size, loop_instrs}
use Rattle.code_forms.specs.Lines.{line, raised, straight}
use Rattle.code_forms.specs.StatementCode.{LoopPlaces, Inside, code_of_name, leaving, returning, no_result, no_value, result_mark, moved, element_slot, exit, branch_lines}
use Rattle.code_ranges.specs.ReadyStatements.{HasSpace}
use Rattle.code_ranges.proofs.Straight.{LinesFit, no_lines, one_more, both_fit, MarkFits, InstrFits, InstrsFit, line_fits, single, straight_fits, ended_fits}

-- the places of a loop
pub record LoopFits (loop : LoopPlaces) : Type 0 where
  pub again : loop.again < 2 ^ 32
  pub past : loop.past < 2 ^ 32

-- rows of instructions under the marks of statements
pub space_mark : (mark : Mark) (free n : ℕ) → HasSpace mark free → n ≤ 2 → MarkFits (raised n mark)
space_mark mark free n s small =
    record { height = omega (arith, small, s.empty); tries = omega (arith, s.handlers); rec = omega (arith, s.recording) }

pub bare_mark : (mark : Mark) (free : ℕ) → HasSpace mark free → MarkFits mark
bare_mark mark free s = record { height = omega (arith, s.empty); tries = omega (arith, s.handlers); rec = omega (arith, s.recording) }

pub space_row : (mark : Mark) (free n : ℕ) (instrs : List Instr) → HasSpace mark free → n ≤ 2 → length instrs ≤ 20 → InstrsFit instrs → LinesFit (straight (raised n mark) instrs)
space_row mark free n instrs s small few f =
    straight_fits (raised n mark) instrs (record { operands = omega (arith, small, few, s.empty); handlers = omega (arith, few, s.handlers); rec = omega (arith, s.recording) }) f

pub bare_row : (mark : Mark) (free : ℕ) (instrs : List Instr) → HasSpace mark free → length instrs ≤ 20 → InstrsFit instrs → LinesFit (straight mark instrs)
bare_row mark free instrs s few f =
    straight_fits mark instrs (record { operands = omega (arith, few, s.empty); handlers = omega (arith, few, s.handlers); rec = omega (arith, s.recording) }) f

pub short_is : (n : ℕ) → n < 2 ^ 16 → is_short n ≡ true
short_is n less = lt-ltb n 65536 (omega (arith, less))

pub free_is : (mark : Mark) (free : ℕ) → HasSpace mark free → is_short free ≡ true
free_is mark free s = short_is free (omega (arith, s.slots))

pub place_is : (p : ℕ) → p < 2 ^ 32 → InstrFits (I.Jump p)
place_is p less = lt-ltb p 4294967296 (omega (arith, less))

-- the end of a function, and of a loop's turn
pub leaving_fits : (inside : Inside) (to : ℕ) → HasSpace inside.mark inside.free → to < 2 ^ 32 → LinesFit (leaving inside to)
leaving_fits inside to s less =
    ended_fits inside.mark (inside.mark.tries - inside.loop.tries) (I.Jump to) (record { operands = omega (arith, s.empty, s.handlers); handlers = omega (arith, s.handlers); rec = omega (arith, s.recording) }) (place_is to less)

pub returning_fits : (mark : Mark) (free : ℕ) (value : Bool) → HasSpace mark free → LinesFit (returning (result_mark value mark))
returning_fits mark free true s =
    ended_fits (raised 1 mark) mark.tries I.Return (record { operands = omega (arith, s.empty, s.handlers); handlers = omega (arith, s.handlers); rec = omega (arith, s.recording) }) refl
returning_fits mark free false s =
    ended_fits mark mark.tries I.Return (record { operands = omega (arith, s.empty, s.handlers); handlers = omega (arith, s.handlers); rec = omega (arith, s.recording) }) refl

pub no_result_fits : (mark : Mark) (free : ℕ) (value : Bool) → HasSpace mark free → LinesFit (straight mark (no_result value))
no_result_fits mark free true s = bare_row mark free (no_result true) s (omega arith) (refl, tt)
no_result_fits mark free false s = bare_row mark free (no_result false) s (omega arith) tt

pub no_value_fits : (mark : Mark) (free : ℕ) (value : Bool) → HasSpace mark free → LinesFit (straight (raised 1 mark) (no_value value))
no_value_fits mark free true s = space_row mark free 1 (no_value true) s (omega arith) (omega arith) tt
no_value_fits mark free false s = space_row mark free 1 (no_value false) s (omega arith) (omega arith) (refl, tt)

pub exit_fits : (mark : Mark) (rest : Otherwise) (end : ℕ) → MarkFits mark → end < 2 ^ 32 → LinesFit (exit mark rest end)
exit_fits mark no_else end m less = no_lines
exit_fits mark (else_do b) end m less = single mark (I.Jump end) m (place_is end less)
exit_fits mark (elif_then ln c b rest) end m less = single mark (I.Jump end) m (place_is end less)

-- the test of a branch, and of a loop
pub test_fits : (turned : Bool) (place elsewhere : ℕ) → place + test_size turned ≤ elsewhere → elsewhere < 2 ^ 32 → InstrsFit (test_instrs turned place elsewhere)
test_fits false place elsewhere before less = (place_is elsewhere less, tt)
test_fits true place elsewhere before less = (place_is (place + 2) (omega (arith, before, less)), (place_is elsewhere less, tt))

pub test_short : (turned : Bool) (place elsewhere : ℕ) → length (test_instrs turned place elsewhere) ≤ 20
test_short false place elsewhere = omega arith
test_short true place elsewhere = omega arith

pub loop_fits : (turned : Bool) (turn past : ℕ) → turn < 2 ^ 32 → past < 2 ^ 32 → InstrsFit (loop_instrs turned turn past)
loop_fits false turn past first last = (place_is past last, (place_is turn first, tt))
loop_fits true turn past first last = (place_is turn first, tt)

pub loop_short : (turned : Bool) (turn past : ℕ) → length (loop_instrs turned turn past) ≤ 20
loop_short false turn past = omega arith
loop_short true turn past = omega arith

pub branch_fits : (mark : Mark) (test : List Instr) (condition body leave rest : List CodeLine) → LinesFit (straight (raised 1 mark) test) → LinesFit condition → LinesFit body → LinesFit leave → LinesFit rest → LinesFit (branch_lines mark test condition body leave rest)
branch_fits mark test condition body leave rest t c b l r =
    let tests = straight (raised 1 mark) test in
    both_fit
    (condition ++ tests ++ body ++ leave)
    rest
    (both_fit
    (condition ++ tests ++ body)
    leave
    (both_fit (condition ++ tests) body (both_fit condition tests c t) b)
    l)
    r

-- a slot of an array's list fits where the free one and its own do
pub element_short : (left free own : ℕ) → is_short free ≡ true → is_short own ≡ true → is_short (element_slot left free own) ≡ true
element_short zero free own f o = o
element_short (suc n) free own f o = f

-- numbers that go from slots to others
pub moved_fits : (n from to : ℕ) (mark : Mark) → mark.height ≡ 0 → mark.tries < 100 → mark.rec ≤ 100 → from + n < 2 ^ 16 → to + n < 2 ^ 16 → LinesFit (straight mark (moved n from to))
moved_fits zero from to mark h t r a b = no_lines
moved_fits (suc n) from to mark h t r a b =
    let high = after mark 0 1 in
    let next = after high 1 0 in
    one_more
    (line mark (I.Load from))
    (line high (I.Store to) ∷ straight next (moved n (from + 1) (to + 1)))
    (line_fits mark (I.Load from) (record { height = omega (arith, h); tries = omega (arith, t); rec = omega (arith, r) }) (short_is from (omega (arith, a))))
    (one_more
    (line high (I.Store to))
    (straight next (moved n (from + 1) (to + 1)))
    (line_fits high (I.Store to) (record { height = omega (arith, h); tries = omega (arith, t); rec = omega (arith, r) }) (short_is to (omega (arith, b))))
    (moved_fits n (from + 1) (to + 1) next (omega (arith, h)) t r (omega (arith, a)) (omega (arith, b))))

-- the code of an exception's name
one_of : (b : Bool) (x y : ℤ) → is_integer x ≡ true → is_integer y ≡ true → is_integer (if b then x else y) ≡ true
one_of true x y e f = e
one_of false x y e f = f

pub name_fits : (name : Bytes) → InstrFits (I.Const (code_of_name name))
name_fits name =
    one_of (bytes_eq name (codes "RTIOUnderflow")) (pos 1) _ refl
    (one_of (bytes_eq name (codes "RTIOOverflow")) (pos 2) _ refl
    (one_of (bytes_eq name (codes "DMAError")) (pos 3) _ refl
    (one_of (bytes_eq name (codes "ZeroDivisionError")) (pos 4) _ refl
    (one_of (bytes_eq name (codes "IndexError")) (pos 5) _ refl
    (one_of (bytes_eq name (codes "StackOverflow")) (pos 6) (pos 0) refl refl)))))
