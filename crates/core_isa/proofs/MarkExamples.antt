-- Small pieces of marked code, and which of their places are right.
use Rattle.std.proofs.Common.{◌≡◌, ℕ, zero, suc, List, [], ◌∷◌, refl, arith}
use Rattle.std.specs.Prelude.{pos, Bool, length, map, true, false, codes}
use Rattle.std.specs.List.{range_with_len}
use Rattle.core_isa.specs.declared.code.Code.{Code}
use Rattle.core_isa.specs.declared.code.CodeFunction.{CodeFunction}
use Rattle.core_isa.specs.declared.code.CodeLine.{CodeLine}
use Rattle.core_isa.specs.declared.instr.Instr.{Instr}
use Rattle.core_isa.specs.declared.instr.Instr.TheVariants as I
use Rattle.core_isa.specs.Marks.{Marked}
use Rattle.core_isa.specs.MarkTests.{is_right_place}
use Rattle.core_isa.proofs.Decided.{decides-right_place}

-- a function without parameters
abbrev function_at : ℕ → ℕ → CodeFunction
function_at first slots = record { first = first; params = 0; slots = slots; value = false; plain = false }

-- marked code with one name, and which of its places are right
abbrev marked : List CodeFunction → List CodeLine → Code
marked functions lines = record { main = 0; names = codes "d" ∷ []; functions = functions; lines = lines }

abbrev right_places : Code → List Bool
right_places code = map (is_right_place code) (range_with_len 0 (length code.lines))

abbrev line : ℕ → ℕ → ℕ → Instr → CodeLine
line height tries rec i = record { instr = i; mark = record { height = height; tries = tries; rec = rec } }

-- one function of 4 slots
abbrev right_in_main : List CodeLine → List Bool
right_in_main lines = right_places (marked (function_at 0 4 ∷ []) lines)

-- one Return is right; with an operand too many it isn't, nor is a jump to itself
small_marks :
    map right_in_main
    ((line 0 0 0 I.Return ∷ [])
    ∷ (line 1 0 0 I.Return ∷ [])
    ∷ (line 0 0 0 (I.Jump 0) ∷ [])
    ∷ (line 0 0 0 I.Now ∷ line 1 0 0 I.Return ∷ [])
    ∷ (line 0 0 0 I.Now ∷ [])
    ∷ [])
    ≡ (true ∷ []) ∷ (false ∷ []) ∷ (false ∷ []) ∷ (true ∷ false ∷ []) ∷ (false ∷ []) ∷ []
small_marks = refl

-- a handler: its place is a later one with one operand; and one whose place stands before it
handler_marks :
    (right_in_main
    (line 0 0 0 (I.Try 5)
    ∷ line 0 1 0 (I.Const (pos 1))
    ∷ line 1 1 0 (I.Out 3 0)
    ∷ line 0 1 0 I.EndTry
    ∷ line 0 0 0 (I.Jump 6)
    ∷ line 1 0 0 I.Pop
    ∷ line 0 0 0 I.Return
    ∷ [])
    ≡ true ∷ true ∷ true ∷ true ∷ true ∷ true ∷ true ∷ [])
    × (right_in_main
    (line 0 0 0 (I.Jump 3) ∷ line 1 0 0 I.Pop ∷ line 0 0 0 (I.Jump 6) ∷ line 0 0 0 (I.Try 1) ∷ line 0 1 0 I.EndTry ∷ line 0 0 0 I.Return ∷ line 0 0 0 I.Return ∷ [])
    ≡ true ∷ true ∷ true ∷ false ∷ true ∷ true ∷ true ∷ [])
handler_marks = (refl, refl)

-- a jump back goes to a Turn or an Edge
loop_marks :
    (right_in_main (line 0 0 0 I.Turn ∷ line 0 0 0 (I.Jump 0) ∷ []) ≡ true ∷ true ∷ [])
    × (right_in_main (line 0 0 0 (I.Jump 1) ∷ line 0 0 0 (I.Jump 0) ∷ []) ≡ true ∷ false ∷ [])
    × (right_in_main (line 0 0 0 I.Now ∷ line 1 0 0 (I.Edge 24) ∷ line 1 0 0 (I.JumpZero 0) ∷ line 0 0 0 I.Return ∷ []) ≡ true ∷ true ∷ false ∷ true ∷ [])
loop_marks = (refl, refl, refl)

-- a recording: its handlers are counted, an EndTry doesn't go below it, and Return finds none open
record_marks :
    (right_in_main
    (line 0 0 0 (I.Try 6)
    ∷ line 0 1 0 (I.Record 0)
    ∷ line 0 1 2 (I.Const (pos 1))
    ∷ line 1 1 2 (I.Out 0 0)
    ∷ line 0 1 2 I.Save
    ∷ line 0 1 0 (I.Jump 7)
    ∷ line 1 0 0 I.Raise
    ∷ line 0 1 0 I.EndTry
    ∷ line 0 0 0 I.Return
    ∷ [])
    ≡ true ∷ true ∷ true ∷ true ∷ true ∷ true ∷ true ∷ true ∷ true ∷ [])
    × (right_in_main (line 0 0 0 (I.Record 0) ∷ line 0 0 1 I.Return ∷ []) ≡ true ∷ false ∷ [])
    × (right_in_main (line 0 0 0 (I.Record 0) ∷ line 0 0 1 I.Counter ∷ line 1 0 1 I.Raise ∷ []) ≡ true ∷ false ∷ true ∷ [])
    × (right_in_main (line 0 0 0 (I.Try 4) ∷ line 0 1 0 (I.Record 0) ∷ line 0 1 2 I.EndTry ∷ line 0 0 2 I.Save ∷ line 1 0 0 I.Raise ∷ [])
    ≡ true ∷ true ∷ false ∷ false ∷ true ∷ [])
record_marks = (refl, refl, refl, refl)

-- what an instruction speaks of exists
operand_marks :
    map
    (λ i. right_in_main (line 0 0 0 I.Now ∷ line 1 0 0 i ∷ line 0 0 0 I.Return ∷ []))
    (I.Store 3 ∷ I.Store 4 ∷ I.Fill 2 2 ∷ I.Fill 2 3 ∷ I.Fill 2 0 ∷ I.Out 24 2 ∷ I.Out 24 0 ∷ I.Out 15 1 ∷ I.DataInt 0 ∷ I.DataInt 1 ∷ [])
    ≡ map
    (λ right. true ∷ right ∷ true ∷ [])
    (true ∷ false ∷ true ∷ false ∷ false ∷ true ∷ false ∷ false ∷ true ∷ false ∷ [])
operand_marks = refl

-- the same of what takes nothing, and what takes two values for one: slots and arrays, names, functions, and the widths
-- of shifts
free_marks :
    map
    (λ i. right_in_main (line 0 0 0 i ∷ line 0 0 0 I.Return ∷ []))
    (I.DataList 0 2 2 ∷ I.DataList 0 2 3 ∷ I.DataList 1 2 2 ∷ I.Erase 0 ∷ I.Erase 1 ∷ I.Play 1 ∷ I.Call 0 ∷ I.Call 1 ∷ [])
    ≡ map (λ right. right ∷ true ∷ []) (true ∷ false ∷ false ∷ true ∷ false ∷ false ∷ true ∷ false ∷ [])
free_marks = refl

two_marks :
    map
    (λ i. right_in_main (line 0 0 0 I.Now ∷ line 1 0 0 I.Now ∷ line 2 0 0 i ∷ line 1 0 0 (I.Store 0) ∷ line 0 0 0 I.Return ∷ []))
    (I.Shl 32 ∷ I.Shl 64 ∷ I.Shl 16 ∷ I.Shr 64 ∷ I.Shr 63 ∷ I.Add ∷ [])
    ≡ map (λ right. true ∷ true ∷ right ∷ true ∷ true ∷ []) (true ∷ true ∷ false ∷ true ∷ false ∷ true ∷ [])
two_marks = refl

-- an address and data go to a raw output, and an input alone has edges
channel_marks :
    (map
    (λ i. right_in_main (line 0 0 0 I.Now ∷ line 1 0 0 I.Now ∷ line 2 0 0 i ∷ line 0 0 0 I.Return ∷ []))
    (I.OutTo 16 ∷ I.OutTo 23 ∷ I.OutTo 15 ∷ I.OutTo 24 ∷ [])
    ≡ map (λ right. true ∷ true ∷ right ∷ true ∷ []) (true ∷ true ∷ false ∷ false ∷ []))
    × (map
    (λ i. right_in_main (line 0 0 0 I.Now ∷ line 1 0 0 i ∷ line 1 0 0 (I.Store 0) ∷ line 0 0 0 I.Return ∷ []))
    (I.Edge 24 ∷ I.Edge 31 ∷ I.Edge 23 ∷ I.Edge 32 ∷ [])
    ≡ map (λ right. true ∷ right ∷ true ∷ true ∷ []) (true ∷ true ∷ false ∷ false ∷ []))
channel_marks = (refl, refl)

-- a plain function calls plain ones only, and asks for nothing but outputs
abbrev plain_at : ℕ → CodeFunction
plain_at first = record { first = first; params = 0; slots = 0; value = false; plain = true }

plain_marks :
    (right_places
    (marked
    (function_at 0 0 ∷ plain_at 4 ∷ plain_at 6 ∷ [])
    (line 0 0 0 (I.Record 0)
    ∷ line 0 0 1 (I.Call 1)
    ∷ line 0 0 1 I.Save
    ∷ line 0 0 0 I.Return
    ∷ line 0 0 0 (I.Call 2)
    ∷ line 0 0 0 I.Return
    ∷ line 0 0 0 I.Return
    ∷ []))
    ≡ true ∷ true ∷ true ∷ true ∷ true ∷ true ∷ true ∷ [])
    × (right_places
    (marked
    (plain_at 0 ∷ function_at 3 0 ∷ [])
    (line 0 0 0 (I.Call 1) ∷ line 0 0 0 I.Counter ∷ line 1 0 0 I.Raise ∷ line 0 0 0 I.Return ∷ []))
    ≡ false ∷ false ∷ true ∷ true ∷ [])
    × (right_places
    (marked
    (function_at 0 0 ∷ function_at 4 0 ∷ plain_at 5 ∷ [])
    (line 0 0 0 (I.Record 0)
    ∷ line 0 0 1 (I.Call 1)
    ∷ line 0 0 1 I.Save
    ∷ line 0 0 0 I.Return
    ∷ line 0 0 0 I.Return
    ∷ line 0 0 1 I.Save
    ∷ line 0 0 0 I.Return
    ∷ []))
    ≡ true ∷ false ∷ true ∷ true ∷ true ∷ false ∷ true ∷ [])
    × (right_in_main (line 0 0 0 (I.Record 0) ∷ line 0 0 1 (I.Record 0) ∷ line 0 0 1 I.Save ∷ line 0 0 0 I.Return ∷ []) ≡ true ∷ false ∷ true ∷ true ∷ [])
plain_marks = (refl, refl, refl, refl)

-- code whose run takes unit after unit is marked
abbrev endless : Code
endless = marked (function_at 0 0 ∷ []) (line 0 0 0 I.Turn ∷ line 0 0 0 (I.Jump 0) ∷ [])

endless_is_marked : Marked endless
endless_is_marked zero within = (decides-right_place endless 0).0 refl
endless_is_marked (suc zero) within = (decides-right_place endless 1).0 refl
endless_is_marked (suc (suc n)) within = absurd (omega arith)
