-- Families of instructions.
use Rattle.std.specs.Prelude.{Bool, true, false}
use Rattle.core_isa.specs.Marks.{IsShiftWidth}
use Rattle.core_isa.specs.declared.instr.Instr.{Instr}
use Rattle.core_isa.specs.declared.instr.Instr.TheVariants as I

-- an operator makes one value of two
abbrev pub is_operator : Instr → Bool
is_operator I.Add = true
is_operator I.Sub = true
is_operator I.Mul = true
is_operator I.Div = true
is_operator I.Mod = true
is_operator I.And = true
is_operator I.Or = true
is_operator I.Xor = true
is_operator (I.Shl w) = true
is_operator (I.Shr w) = true
is_operator I.Eq = true
is_operator I.Ne = true
is_operator I.Lt = true
is_operator I.Le = true
is_operator I.Max = true
is_operator i = false

-- an operator that has a result of all values
abbrev pub is_plain : Instr → Bool
is_plain I.Div = false
is_plain I.Mod = false
is_plain i = is_operator i

-- the width of a shift is 32 or 64
abbrev pub HasShiftWidth : Instr → Type 0
HasShiftWidth (I.Shl w) = IsShiftWidth w
HasShiftWidth (I.Shr w) = IsShiftWidth w
HasShiftWidth i = Unit {0}

-- one value changes
abbrev pub changes_one : Instr → Bool
changes_one I.Neg = true
changes_one I.Inv = true
changes_one I.Wrap32 = true
changes_one i = false

-- an instruction that asks for more than an output
abbrev pub asks_more : Instr → Bool
asks_more I.Counter = true
asks_more I.Reset = true
asks_more I.Wait = true
asks_more (I.Edge channel) = true
asks_more I.Save = true
asks_more (I.Play n) = true
asks_more I.PlayHandle = true
asks_more (I.Handle n) = true
asks_more (I.Erase n) = true
asks_more (I.DataInt n) = true
asks_more i = false

-- an instruction that may ask
abbrev pub asks : Instr → Bool
asks (I.Out channel address) = true
asks (I.OutTo channel) = true
asks (I.DataList n s count) = true
asks i = asks_more i
