-- Code whose marks are right, and which therefore never lacks an operand, a handler or a recording.
use Rattle.std.specs.Prelude.{◌≡◌, ℕ, ◌+◌, ◌-◌, ◌<◌, ◌≤◌, ◌⊎◌, Bool, true, false, not, ◌||◌, ◌==◌, IsTrue}
use Rattle.std.specs.Prelude.{nat_le, if◌then◌else◌, length, count_by, slice_get, Option, Some, None, option_map}
use Rattle.rtio_types.specs.Board.{kind_of_channel, has_address}
use Rattle.rtio_types.specs.declared.board.ChannelKind.TheVariants as K
use Rattle.core_isa.specs.declared.code.Code.{Code}
use Rattle.core_isa.specs.declared.code.CodeFunction.{CodeFunction}
use Rattle.core_isa.specs.declared.code.CodeLine.{CodeLine}
use Rattle.core_isa.specs.declared.code.Mark.{Mark}
use Rattle.core_isa.specs.declared.instr.Instr.{Instr}
use Rattle.core_isa.specs.declared.instr.Instr.TheVariants as I
pub use Rattle.word_arithmetic.specs.Widths.{IsShiftWidth}

-- a function's value as a number of operands
abbrev pub values_of : CodeFunction → ℕ
values_of f = if f.value then 1 else 0

-- the place of a function among the functions: it is the last one that begins at the instruction's place or before
abbrev pub function_index : Code → ℕ → ℕ
function_index code place = count_by (λ f. nat_le f.first place) code.functions - 1

-- the mark at a place
abbrev pub mark_at : Code → ℕ → Option Mark
mark_at code place = option_map (λ line. line.mark) (slice_get code.lines place)

-- the instruction at a place goes on at another, of the same function, where this mark stands
pub record Leads (code : Code) (from to : ℕ) (mark : Mark) : Type 0 where
  pub same : function_index code to ≡ function_index code from
  pub marked : mark_at code to ≡ Some mark

-- how many operands an instruction takes and how many it leaves, where it goes on at the next place and changes nothing
-- else of the mark
abbrev pub effect : Instr → Option (ℕ × ℕ)
effect (I.Const v) = Some (0, 1)
effect (I.Load s) = Some (0, 1)
effect (I.Store s) = Some (1, 0)
effect (I.LoadAt s n) = Some (1, 1)
effect (I.StoreAt s n) = Some (2, 0)
effect I.Add = Some (2, 1)
effect I.Sub = Some (2, 1)
effect I.Mul = Some (2, 1)
effect I.Div = Some (2, 1)
effect I.Mod = Some (2, 1)
effect I.And = Some (2, 1)
effect I.Or = Some (2, 1)
effect I.Xor = Some (2, 1)
effect (I.Shl w) = Some (2, 1)
effect (I.Shr w) = Some (2, 1)
effect I.Neg = Some (1, 1)
effect I.Inv = Some (1, 1)
effect I.Wrap32 = Some (1, 1)
effect I.Eq = Some (2, 1)
effect I.Ne = Some (2, 1)
effect I.Lt = Some (2, 1)
effect I.Le = Some (2, 1)
effect I.Max = Some (2, 1)
effect I.Pop = Some (1, 0)
effect I.Dup = Some (1, 2)
effect I.Turn = Some (0, 0)
effect I.Now = Some (0, 1)
effect I.At = Some (1, 0)
effect I.Delay = Some (1, 0)
effect (I.Out channel address) = Some (1, 0)
effect (I.OutTo channel) = Some (2, 0)
effect I.Counter = Some (0, 1)
effect I.Reset = Some (0, 1)
effect I.Wait = Some (1, 0)
effect (I.Edge channel) = Some (1, 1)
effect (I.Play n) = Some (0, 0)
effect I.PlayHandle = Some (1, 0)
effect (I.Handle n) = Some (0, 1)
effect (I.Erase n) = Some (0, 0)
effect (I.DataInt n) = Some (1, 0)
effect (I.DataList n s count) = Some (0, 0)
effect (I.Fill s n) = Some (1, 0)
effect i = None

-- an array's slots exist
abbrev pub HasArray : CodeFunction → ℕ → ℕ → Type 0
HasArray f s n = (1 ≤ n) × (s + n ≤ f.slots)

-- the name exists
abbrev pub HasName : Code → ℕ → Type 0
HasName code n = n < length code.names

-- a width at which a shift's amount is taken
-- the slots, names and channels that an instruction speaks of exist
abbrev pub OperandsExist : Code → CodeFunction → Instr → Type 0
OperandsExist code f (I.Load s) = s < f.slots
OperandsExist code f (I.Store s) = s < f.slots
OperandsExist code f (I.LoadAt s n) = HasArray f s n
OperandsExist code f (I.StoreAt s n) = HasArray f s n
OperandsExist code f (I.Fill s n) = HasArray f s n
OperandsExist code f (I.Shl w) = IsShiftWidth w
OperandsExist code f (I.Shr w) = IsShiftWidth w
OperandsExist code f (I.Out channel address) = IsTrue (has_address (kind_of_channel channel) address)
OperandsExist code f (I.OutTo channel) = kind_of_channel channel ≡ Some K.OutRaw
OperandsExist code f (I.Edge channel) = kind_of_channel channel ≡ Some K.Input
OperandsExist code f (I.Record n) = HasName code n
OperandsExist code f (I.Play n) = HasName code n
OperandsExist code f (I.Handle n) = HasName code n
OperandsExist code f (I.Erase n) = HasName code n
OperandsExist code f (I.DataInt n) = HasName code n
OperandsExist code f (I.DataList n s count) = HasName code n × HasArray f s count
OperandsExist code f i = Unit {0}

-- the instructions that ask the core for more than an output, or open a recording
abbrev pub is_live : Instr → Bool
is_live I.Counter = true
is_live I.Reset = true
is_live I.Wait = true
is_live (I.Edge channel) = true
is_live (I.Record n) = true
is_live (I.Play n) = true
is_live I.PlayHandle = true
is_live (I.Handle n) = true
is_live (I.Erase n) = true
is_live (I.DataInt n) = true
is_live (I.DataList n s count) = true
is_live i = false

-- a live instruction stands outside recordings, in functions that aren't plain
abbrev pub LiveIsAllowed : CodeFunction → Mark → Instr → Type 0
LiveIsAllowed f mark i = IsTrue (is_live i) → (mark.rec ≡ 0) × (f.plain ≡ false)

-- an instruction that takes a unit whatever it does besides
abbrev pub is_turn_or_edge : Instr → Bool
is_turn_or_edge I.Turn = true
is_turn_or_edge (I.Edge channel) = true
is_turn_or_edge i = false

-- the instruction at a place takes a unit
abbrev pub takes_unit_first : Option CodeLine → Bool
takes_unit_first None = false
takes_unit_first (Some line) = is_turn_or_edge line.instr

-- a jump that isn't forward goes to a place that takes a unit
abbrev pub BackTakesUnit : Code → ℕ → ℕ → Type 0
BackTakesUnit code from to = to ≤ from → IsTrue (takes_unit_first (slice_get code.lines to))

-- the mark after some operands are taken and some left
abbrev pub after : Mark → ℕ → ℕ → Mark
after mark taken given = record mark { height = mark.height - taken + given }

-- the instruction finds its operands, and the next place has the mark that results
abbrev pub GoesOn : Code → ℕ → Mark → ℕ → ℕ → Type 0
GoesOn code place mark taken given = (taken ≤ mark.height) × Leads code place (place + 1) (after mark taken given)

-- the same by the table of effects
abbrev pub GoesOnBy : Code → ℕ → Mark → Option (ℕ × ℕ) → Type 0
GoesOnBy code place mark None = ⊥
GoesOnBy code place mark (Some counts) = GoesOn code place mark counts.0 counts.1

-- where an instruction leads, the marks are right
abbrev pub MarksFollow : Code → CodeFunction → ℕ → Mark → Instr → Type 0
MarksFollow code f place mark (I.Jump p) = Leads code place p mark × BackTakesUnit code place p
MarksFollow code f place mark (I.JumpZero p) =
    GoesOn code place mark 1 0 × Leads code place p (after mark 1 0) × BackTakesUnit code place p
MarksFollow code f place mark (I.Call g) =
    (called : CodeFunction)
    × (slice_get code.functions g ≡ Some called)
    × GoesOn code place mark called.params (values_of called)
    × (IsTrue (f.plain || not (mark.rec == 0)) → called.plain ≡ true)
MarksFollow code f place mark I.Return = (mark.tries ≡ 0) × (mark.rec ≡ 0) × (mark.height ≡ values_of f)
MarksFollow code f place mark (I.Try p) =
    (mark.height ≡ 0)
    × Leads code place (place + 1) (record mark { tries = mark.tries + 1 })
    × (place < p)
    × Leads code place p (record mark { height = 1 })
MarksFollow code f place mark I.EndTry =
    (1 ≤ mark.tries)
    × (mark.rec ≤ mark.tries)
    × Leads code place (place + 1) (record mark { tries = mark.tries - 1 })
MarksFollow code f place mark I.Raise = 1 ≤ mark.height
MarksFollow code f place mark (I.Record n) =
    (mark.rec ≡ 0) × Leads code place (place + 1) (record mark { rec = mark.tries + 1 })
MarksFollow code f place mark I.Save =
    (f.plain ≡ false) × (mark.rec ≡ mark.tries + 1) × Leads code place (place + 1) (record mark { rec = 0 })
MarksFollow code f place mark i = GoesOnBy code place mark (effect i)

-- the mark at the first place of a function
abbrev pub first_mark : Mark
first_mark = record { height = 0; tries = 0; rec = 0 }

-- a line of a function meets the conditions on marks at a place
pub record IsRight (code : Code) (place : ℕ) (f : CodeFunction) (line : CodeLine) : Type 0 where
  pub first : f.first ≡ place → line.mark ≡ first_mark
  pub exist : OperandsExist code f line.instr
  pub live : LiveIsAllowed f line.mark line.instr
  pub follow : MarksFollow code f place line.mark line.instr

-- a place of the code meets the conditions on marks
pub record IsRightPlace (code : Code) (place : ℕ) : Type 0 where
  pub function : CodeFunction
  pub line : CodeLine
  pub in_function : slice_get code.functions (function_index code place) ≡ Some function
  pub at_place : slice_get code.lines place ≡ Some line
  pub right : IsRight code place function line

-- every place of the code does
abbrev pub Marked : Code → Type 0
Marked code = (place : ℕ) → place < length code.lines → IsRightPlace code place

-- the functions as an image can hold them: their first places rise strictly from 0 and are places of the code, and each
-- has a slot for every parameter
pub record HasOrder (code : Code) : Type 0 where
  pub from_zero : (f : CodeFunction) → slice_get code.functions 0 ≡ Some f → f.first ≡ 0
  pub rising : (k : ℕ) (f g : CodeFunction) → slice_get code.functions k ≡ Some f → slice_get code.functions (k + 1) ≡ Some g → f.first < g.first
  pub within : (k : ℕ) (f : CodeFunction) → slice_get code.functions k ≡ Some f → f.first < length code.lines
  pub room : (k : ℕ) (f : CodeFunction) → slice_get code.functions k ≡ Some f → f.params ≤ f.slots
