-- The conditions of Marks stated a second time, as tests that compute, for the proofs of a verifier. The law
-- `tests_decide_marks` says that they are the same.
use Rattle.std.specs.Prelude.{ℕ, ◌+◌, ◌-◌, Bool, true, false, not, ◌||◌, ◌&&◌, ◌==◌}
use Rattle.std.specs.Prelude.{nat_le, nat_lt, length, slice_get, Option, Some, None}
use Rattle.rtio_types.specs.declared.board.ChannelKind.{ChannelKind}
use Rattle.rtio_types.specs.declared.board.ChannelKind.TheVariants as K
use Rattle.rtio_types.specs.Board.{kind_of_channel, has_address, is_input}
use Rattle.core_isa.specs.declared.code.Code.{Code}
use Rattle.core_isa.specs.declared.code.CodeFunction.{CodeFunction}
use Rattle.core_isa.specs.declared.code.CodeLine.{CodeLine}
use Rattle.core_isa.specs.declared.code.Mark.{Mark}
use Rattle.core_isa.specs.declared.instr.Instr.{Instr}
use Rattle.core_isa.specs.declared.instr.Instr.TheVariants as I
use Rattle.core_isa.specs.Marks.{values_of, function_index, mark_at, effect}
use Rattle.core_isa.specs.Marks.{is_live, takes_unit_first, after, first_mark}

-- this mark is found
abbrev pub is_mark : Mark → Option Mark → Bool
is_mark mark None = false
is_mark mark (Some found) =
    (mark.height == found.height) && ((mark.tries == found.tries) && (mark.rec == found.rec))

-- another place is of the same function and has this mark
abbrev pub leads : Code → (from to : ℕ) → Mark → Bool
leads code from to mark = (function_index code to == function_index code from) && is_mark mark (mark_at code to)

-- an array's slots exist
abbrev pub has_array : CodeFunction → ℕ → ℕ → Bool
has_array f s n = nat_le 1 n && nat_le (s + n) f.slots

-- the channel is a raw output
abbrev pub is_raw : Option ChannelKind → Bool
is_raw (Some K.OutRaw) = true
is_raw kind = false

-- the slots, names and channels that an instruction speaks of exist
abbrev pub operands_exist : Code → CodeFunction → Instr → Bool
operands_exist code f (I.Load s) = nat_lt s f.slots
operands_exist code f (I.Store s) = nat_lt s f.slots
operands_exist code f (I.LoadAt s n) = has_array f s n
operands_exist code f (I.StoreAt s n) = has_array f s n
operands_exist code f (I.Fill s n) = has_array f s n
operands_exist code f (I.Shl w) = (w == 32) || (w == 64)
operands_exist code f (I.Shr w) = (w == 32) || (w == 64)
operands_exist code f (I.Out channel address) = has_address (kind_of_channel channel) address
operands_exist code f (I.OutTo channel) = is_raw (kind_of_channel channel)
operands_exist code f (I.Edge channel) = is_input channel
operands_exist code f (I.Record n) = nat_lt n (length code.names)
operands_exist code f (I.Play n) = nat_lt n (length code.names)
operands_exist code f (I.Handle n) = nat_lt n (length code.names)
operands_exist code f (I.Erase n) = nat_lt n (length code.names)
operands_exist code f (I.DataInt n) = nat_lt n (length code.names)
operands_exist code f (I.DataList n s count) = nat_lt n (length code.names) && has_array f s count
operands_exist code f i = true

-- the instruction finds its operands, and the next place has the mark that results
abbrev pub goes_on : Code → ℕ → Mark → (taken given : ℕ) → Bool
goes_on code place mark taken given = nat_le taken mark.height && leads code place (place + 1) (after mark taken given)

-- the same by the table of effects
abbrev pub goes_on_by : Code → ℕ → Mark → Option (ℕ × ℕ) → Bool
goes_on_by code place mark None = false
goes_on_by code place mark (Some counts) = goes_on code place mark counts.0 counts.1

-- a jump that isn't forward goes to a place that takes a unit
abbrev pub back_takes_unit : Code → (from to : ℕ) → Bool
back_takes_unit code from to = nat_lt from to || takes_unit_first (slice_get code.lines to)

-- the called function exists, finds its arguments, and is plain where it must be
abbrev pub may_call : Code → CodeFunction → ℕ → Mark → Option CodeFunction → Bool
may_call code f place mark None = false
may_call code f place mark (Some called) =
    goes_on code place mark called.params (values_of called)
    && (not (f.plain || not (mark.rec == 0)) || called.plain)

-- where an instruction leads, the marks are right
abbrev pub marks_follow : Code → CodeFunction → ℕ → Mark → Instr → Bool
marks_follow code f place mark (I.Jump p) = leads code place p mark && back_takes_unit code place p
marks_follow code f place mark (I.JumpZero p) =
    goes_on code place mark 1 0 && (leads code place p (after mark 1 0) && back_takes_unit code place p)
marks_follow code f place mark (I.Call g) = may_call code f place mark (slice_get code.functions g)
marks_follow code f place mark I.Return =
    (mark.tries == 0) && ((mark.rec == 0) && (mark.height == values_of f))
marks_follow code f place mark (I.Try p) =
    (mark.height == 0)
    && (leads code place (place + 1) (record mark { tries = mark.tries + 1 })
    && (nat_lt place p && leads code place p (record mark { height = 1 })))
marks_follow code f place mark I.EndTry =
    nat_le 1 mark.tries
    && (nat_le mark.rec mark.tries && leads code place (place + 1) (record mark { tries = mark.tries - 1 }))
marks_follow code f place mark I.Raise = nat_le 1 mark.height
marks_follow code f place mark (I.Record n) =
    (mark.rec == 0) && leads code place (place + 1) (record mark { rec = mark.tries + 1 })
marks_follow code f place mark I.Save =
    not f.plain && ((mark.rec == mark.tries + 1) && leads code place (place + 1) (record mark { rec = 0 }))
marks_follow code f place mark i = goes_on_by code place mark (effect i)

-- a line of a function meets the conditions at a place
abbrev pub is_right : Code → ℕ → CodeFunction → CodeLine → Bool
is_right code place f line =
    (not (f.first == place) || is_mark first_mark (Some line.mark))
    && (operands_exist code f line.instr
    && ((not (is_live line.instr) || ((line.mark.rec == 0) && not f.plain))
    && marks_follow code f place line.mark line.instr))

-- they do where both are there
abbrev pub is_right_in : Code → ℕ → Option CodeFunction → Option CodeLine → Bool
is_right_in code place (Some f) (Some line) = is_right code place f line
is_right_in code place _ _ = false

-- a place of the code meets the conditions
abbrev pub is_right_place : Code → ℕ → Bool
is_right_place code place =
    is_right_in code place (slice_get code.functions (function_index code place)) (slice_get code.lines place)
