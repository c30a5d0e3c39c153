-- The numbers of the instructions, and their operands.
use Rattle.std.specs.Prelude.{ℕ, ℤ, ◌||◌, ◌==◌, nat_le, ◌&&◌, if◌then◌else◌}
use Rattle.core_image.specs.declared.operands.Shape.{Shape}
use Rattle.core_image.specs.declared.operands.Shape.TheVariants as S
use Rattle.core_isa.specs.declared.instr.Instr.{Instr}
use Rattle.core_isa.specs.declared.instr.Instr.TheVariants as I

-- the number of an instruction
abbrev pub op_of : Instr → ℕ
op_of (I.Const v) = 0
op_of (I.Load s) = 1
op_of (I.Store s) = 2
op_of (I.LoadAt s n) = 3
op_of (I.StoreAt s n) = 4
op_of I.Add = 5
op_of I.Sub = 6
op_of I.Mul = 7
op_of I.Div = 8
op_of I.Mod = 9
op_of I.And = 10
op_of I.Or = 11
op_of I.Xor = 12
op_of (I.Shl w) = 13
op_of (I.Shr w) = 14
op_of I.Neg = 15
op_of I.Inv = 16
op_of I.Wrap32 = 17
op_of I.Eq = 18
op_of I.Ne = 19
op_of I.Lt = 20
op_of I.Le = 21
op_of I.Max = 22
op_of I.Pop = 23
op_of I.Dup = 24
op_of (I.Jump p) = 25
op_of (I.JumpZero p) = 26
op_of I.Turn = 27
op_of (I.Call f) = 28
op_of I.Return = 29
op_of (I.Try p) = 30
op_of I.EndTry = 31
op_of I.Raise = 32
op_of I.Now = 33
op_of I.At = 34
op_of I.Delay = 35
op_of (I.Out channel address) = 36
op_of (I.OutTo channel) = 37
op_of I.Counter = 38
op_of I.Reset = 39
op_of I.Wait = 40
op_of (I.Edge channel) = 41
op_of (I.Record name) = 42
op_of I.Save = 43
op_of (I.Play name) = 44
op_of I.PlayHandle = 45
op_of (I.Handle name) = 46
op_of (I.Erase name) = 47
op_of (I.DataInt name) = 48
op_of (I.DataList name s n) = 49
op_of (I.Fill s n) = 50

-- the operands of an instruction, in their order
pub data Operands : Type 0 where
  nothing : Operands
  integer : ℤ → Operands
  one_byte : ℕ → Operands
  two_bytes : ℕ → ℕ → Operands
  short : ℕ → Operands
  two_shorts : ℕ → ℕ → Operands
  three_shorts : ℕ → ℕ → ℕ → Operands
  place : ℕ → Operands

-- the operands of an instruction
abbrev pub operands_of : Instr → Operands
operands_of (I.Const v) = integer v
operands_of (I.Load s) = short s
operands_of (I.Store s) = short s
operands_of (I.LoadAt s n) = two_shorts s n
operands_of (I.StoreAt s n) = two_shorts s n
operands_of (I.Shl w) = one_byte w
operands_of (I.Shr w) = one_byte w
operands_of (I.Jump p) = place p
operands_of (I.JumpZero p) = place p
operands_of (I.Call f) = short f
operands_of (I.Try p) = place p
operands_of (I.Out channel address) = two_bytes channel address
operands_of (I.OutTo channel) = one_byte channel
operands_of (I.Edge channel) = one_byte channel
operands_of (I.Record name) = short name
operands_of (I.Play name) = short name
operands_of (I.Handle name) = short name
operands_of (I.Erase name) = short name
operands_of (I.DataInt name) = short name
operands_of (I.DataList name s n) = three_shorts name s n
operands_of (I.Fill s n) = two_shorts s n
operands_of i = nothing

-- what operands the instruction of a number has
abbrev pub shape_of : ℕ → Shape
shape_of op =
    if op == 0 then S.Integer
    else if (op == 13) || (op == 14) || (op == 37) || (op == 41) then S.Byte
    else if op == 36 then S.TwoBytes
    else if (op == 1) || (op == 2) || (op == 28) || (op == 42) || (op == 44) || (nat_le 46 op && nat_le op 48) then S.Short
    else if (op == 3) || (op == 4) || (op == 50) then S.TwoShorts
    else if op == 49 then S.ThreeShorts
    else if (op == 25) || (op == 26) || (op == 30) then S.Place
    else S.Nothing
