-- Lines whose fields are in their ranges, and instructions one after another.
use Rattle.std.proofs.Common.{◌≡◌, ℕ, zero, suc, ◌+◌, ◌<◌, ◌≤◌, List, [], ◌∷◌, ◌++◌, length, refl, ◌∙◌, arith, length-append}
use Rattle.std.specs.Prelude.{true, ◌&&◌}
use Rattle.std.specs.List.{list_all}
use Rattle.std.proofs.lemmas.Bool.{and_from, lt-ltb}
use Rattle.std.proofs.lemmas.List.{length-replicate}
use Rattle.std.proofs.lemmas.List.Folds.{list_all-append}
use Rattle.core_isa.specs.declared.code.CodeLine.{CodeLine}
use Rattle.core_isa.specs.declared.code.Mark.{Mark}
use Rattle.core_isa.specs.declared.instr.Instr.{Instr}
use Rattle.core_isa.specs.declared.instr.Instr.TheVariants as I
use Rattle.core_isa.specs.Marks.{after}
use Rattle.core_image.specs.Operands.{operands_of}
use Rattle.core_image.specs.Ranges.{is_byte, are_operands, is_mark_of_bytes, is_line}
use Rattle.code_forms.specs.Lines.{line, mark_after, straight, end_tries}
use Rattle.code_ranges.specs.Room.{HasRoom}

-- the fields of each line are in their ranges
pub record LinesFit (lines : List CodeLine) : Type 0 where
  pub all : list_all is_line lines ≡ true

pub no_lines : LinesFit []
no_lines = record { all = refl }

pub one_more : (l : CodeLine) (ls : List CodeLine) → is_line l ≡ true → LinesFit ls → LinesFit (l ∷ ls)
one_more l ls e r = record { all = and_from (is_line l) (list_all is_line ls) e r.all }

pub both_fit : (a b : List CodeLine) → LinesFit a → LinesFit b → LinesFit (a ++ b)
both_fit a b p q =
    record { all = list_all-append is_line a b ∙ and_from (list_all is_line a) (list_all is_line b) p.all q.all }

-- a mark of bytes
pub record MarkFits (mark : Mark) : Type 0 where
  pub height : mark.height < 256
  pub tries : mark.tries < 256
  pub rec : mark.rec < 256

-- an instruction with operands of their widths
abbrev pub InstrFits : Instr → Type 0
InstrFits i = are_operands (operands_of i) ≡ true

abbrev pub InstrsFit : List Instr → Type 0
InstrsFit [] = Unit {0}
InstrsFit (i ∷ is) = InstrFits i × InstrsFit is

pub line_fits : (mark : Mark) (i : Instr) → MarkFits mark → InstrFits i → is_line (line mark i) ≡ true
line_fits mark i m e =
    let tries = and_from (is_byte mark.tries) (is_byte mark.rec) (lt-ltb mark.tries 256 m.tries) (lt-ltb mark.rec 256 m.rec) in
    let all = and_from (is_byte mark.height) (is_byte mark.tries && is_byte mark.rec) (lt-ltb mark.height 256 m.height) tries in
    and_from (is_mark_of_bytes mark) (are_operands (operands_of i)) all e

-- one line
pub single : (mark : Mark) (i : Instr) → MarkFits mark → InstrFits i → LinesFit (line mark i ∷ [])
single mark i m e = one_more (line mark i) [] (line_fits mark i m e) no_lines

-- more instructions
pub instrs_and : (a b : List Instr) → InstrsFit a → InstrsFit b → InstrsFit (a ++ b)
instrs_and [] b p q = q
instrs_and (i ∷ a) b p q = (p.0, instrs_and a b p.1 q)

-- the room that is left behind an instruction
less_room : (mark : Mark) (n : ℕ) → HasRoom mark (suc n) → HasRoom mark n
less_room mark n r =
    record { operands = omega (arith, r.operands); handlers = omega (arith, r.handlers); rec = r.rec }

after_room : (mark : Mark) (taken given n : ℕ) → given ≤ taken + 1 → given ≤ 2 → HasRoom mark (suc n) → HasRoom (after mark taken given) n
after_room mark taken given n small two r =
    record { operands = omega (arith, small, two, r.operands); handlers = omega (arith, r.handlers); rec = r.rec }

room_after : (mark : Mark) (left : ℕ) (i : Instr) → HasRoom mark (suc left) → HasRoom (mark_after mark i) left
room_after mark left (I.Const v) r = after_room mark 0 1 left (omega arith) (omega arith) r
room_after mark left (I.Load s) r = after_room mark 0 1 left (omega arith) (omega arith) r
room_after mark left (I.Store s) r = after_room mark 1 0 left (omega arith) (omega arith) r
room_after mark left (I.LoadAt s n) r = after_room mark 1 1 left (omega arith) (omega arith) r
room_after mark left (I.StoreAt s n) r = after_room mark 2 0 left (omega arith) (omega arith) r
room_after mark left I.Add r = after_room mark 2 1 left (omega arith) (omega arith) r
room_after mark left I.Sub r = after_room mark 2 1 left (omega arith) (omega arith) r
room_after mark left I.Mul r = after_room mark 2 1 left (omega arith) (omega arith) r
room_after mark left I.Div r = after_room mark 2 1 left (omega arith) (omega arith) r
room_after mark left I.Mod r = after_room mark 2 1 left (omega arith) (omega arith) r
room_after mark left I.And r = after_room mark 2 1 left (omega arith) (omega arith) r
room_after mark left I.Or r = after_room mark 2 1 left (omega arith) (omega arith) r
room_after mark left I.Xor r = after_room mark 2 1 left (omega arith) (omega arith) r
room_after mark left (I.Shl w) r = after_room mark 2 1 left (omega arith) (omega arith) r
room_after mark left (I.Shr w) r = after_room mark 2 1 left (omega arith) (omega arith) r
room_after mark left I.Neg r = after_room mark 1 1 left (omega arith) (omega arith) r
room_after mark left I.Inv r = after_room mark 1 1 left (omega arith) (omega arith) r
room_after mark left I.Wrap32 r = after_room mark 1 1 left (omega arith) (omega arith) r
room_after mark left I.Eq r = after_room mark 2 1 left (omega arith) (omega arith) r
room_after mark left I.Ne r = after_room mark 2 1 left (omega arith) (omega arith) r
room_after mark left I.Lt r = after_room mark 2 1 left (omega arith) (omega arith) r
room_after mark left I.Le r = after_room mark 2 1 left (omega arith) (omega arith) r
room_after mark left I.Max r = after_room mark 2 1 left (omega arith) (omega arith) r
room_after mark left I.Pop r = after_room mark 1 0 left (omega arith) (omega arith) r
room_after mark left I.Dup r = after_room mark 1 2 left (omega arith) (omega arith) r
room_after mark left (I.Jump p) r = less_room mark left r
room_after mark left (I.JumpZero p) r = after_room mark 1 0 left (omega arith) (omega arith) r
room_after mark left I.Turn r = after_room mark 0 0 left (omega arith) (omega arith) r
room_after mark left (I.Call f) r = less_room mark left r
room_after mark left I.Return r = less_room mark left r
room_after mark left (I.Try p) r =
    record { operands = omega (arith, r.operands); handlers = omega (arith, r.handlers); rec = r.rec }
room_after mark left I.EndTry r =
    record { operands = omega (arith, r.operands); handlers = omega (arith, r.handlers); rec = r.rec }
room_after mark left I.Raise r = less_room mark left r
room_after mark left I.Now r = after_room mark 0 1 left (omega arith) (omega arith) r
room_after mark left I.At r = after_room mark 1 0 left (omega arith) (omega arith) r
room_after mark left I.Delay r = after_room mark 1 0 left (omega arith) (omega arith) r
room_after mark left (I.Out channel address) r = after_room mark 1 0 left (omega arith) (omega arith) r
room_after mark left (I.OutTo channel) r = after_room mark 2 0 left (omega arith) (omega arith) r
room_after mark left I.Counter r = after_room mark 0 1 left (omega arith) (omega arith) r
room_after mark left I.Reset r = after_room mark 0 1 left (omega arith) (omega arith) r
room_after mark left I.Wait r = after_room mark 1 0 left (omega arith) (omega arith) r
room_after mark left (I.Edge channel) r = after_room mark 1 1 left (omega arith) (omega arith) r
room_after mark left (I.Record name) r =
    record { operands = omega (arith, r.operands); handlers = omega (arith, r.handlers); rec = omega (arith, r.handlers) }
room_after mark left I.Save r =
    record { operands = omega (arith, r.operands); handlers = omega (arith, r.handlers); rec = omega arith }
room_after mark left (I.Play name) r = after_room mark 0 0 left (omega arith) (omega arith) r
room_after mark left I.PlayHandle r = after_room mark 1 0 left (omega arith) (omega arith) r
room_after mark left (I.Handle name) r = after_room mark 0 1 left (omega arith) (omega arith) r
room_after mark left (I.Erase name) r = after_room mark 0 0 left (omega arith) (omega arith) r
room_after mark left (I.DataInt name) r = after_room mark 1 0 left (omega arith) (omega arith) r
room_after mark left (I.DataList name s n) r = after_room mark 0 0 left (omega arith) (omega arith) r
room_after mark left (I.Fill s n) r = after_room mark 1 0 left (omega arith) (omega arith) r

room_mark : (mark : Mark) (n : ℕ) → HasRoom mark n → MarkFits mark
room_mark mark n r =
    record { height = omega (arith, r.operands); tries = omega (arith, r.handlers); rec = r.rec }

-- instructions one after another, where their marks have room
pub straight_fits : (mark : Mark) (instrs : List Instr) → HasRoom mark (length instrs) → InstrsFit instrs → LinesFit (straight mark instrs)
straight_fits mark [] r f = no_lines
straight_fits mark (i ∷ is) r f =
    one_more
    (line mark i)
    (straight (mark_after mark i) is)
    (line_fits mark i (room_mark mark (suc (length is)) r) f.0)
    (straight_fits (mark_after mark i) is (room_after mark (length is) i r) f.1)

-- handlers are removed, and then one more instruction
end_fit : (n : ℕ) → InstrsFit (end_tries n)
end_fit zero = tt
end_fit (suc n) = (refl, end_fit n)

pub ended_fits : (mark : Mark) (n : ℕ) (i : Instr) → HasRoom mark (n + 1) → InstrFits i → LinesFit (straight mark (end_tries n ++ i ∷ []))
ended_fits mark n i r f =
    let long : length (end_tries n ++ i ∷ []) ≡ n + 1 = omega (arith, length-append (end_tries n) (i ∷ []), length-replicate n I.EndTry) in
    let room : HasRoom mark (length (end_tries n ++ i ∷ [])) = record { operands = omega (arith, long, r.operands); handlers = omega (arith, long, r.handlers); rec = r.rec } in
    straight_fits mark (end_tries n ++ i ∷ []) room (instrs_and (end_tries n) (i ∷ []) (end_fit n) (f, tt))
