-- Small pieces of code, whose runs and marks are computed.
use Rattle.std.proofs.Common.{◌≡◌, ℕ, List, [], ◌∷◌, ◌++◌, Some, None, Option, refl}
use Rattle.std.specs.Prelude.{ℤ, pos, negsuc, map, true, false, option_map, codes}
use Rattle.std.specs.Int.{int_wrap}
use Rattle.rtio_types.specs.declared.outcome.Exc.TheVariants.{RTIOUnderflow, DMAError, ZeroDivisionError, IndexError, StackOverflow}
use Rattle.rtio_types.specs.declared.request.Request.{Request}
use Rattle.rtio_types.specs.declared.request.Request.TheVariants as Q
use Rattle.rtio_types.specs.declared.request.Reply.{Reply}
use Rattle.rtio_types.specs.declared.request.Reply.TheVariants as R
use Rattle.rtio_types.specs.declared.request.Value.TheVariants as W
use Rattle.core_isa.specs.declared.code.Code.{Code}
use Rattle.core_isa.specs.declared.code.CodeFunction.{CodeFunction}
use Rattle.core_isa.specs.declared.code.CodeLine.{CodeLine}
use Rattle.core_isa.specs.declared.instr.Instr.{Instr}
use Rattle.core_isa.specs.declared.instr.Instr.TheVariants as I
use Rattle.core_isa.specs.Machine.{MachineEnd, Next, ends, returned, raised, budget, unanswered}
use Rattle.core_isa.specs.Runs.{Ran, Runs, boot, steps}

-- a function without parameters
abbrev function_at : ℕ → ℕ → CodeFunction
function_at first slots = record { first = first; params = 0; slots = slots; value = false; plain = false }

-- instructions without true marks
abbrev unmarked : List Instr → List CodeLine
unmarked instrs = map (λ i. record { instr = i; mark = record { height = 0; tries = 0; rec = 0 } }) instrs

-- code with these functions and instructions, and one name
abbrev code_of : List CodeFunction → List Instr → Code
code_of functions instrs = record { main = 0; names = codes "d" ∷ []; functions = functions; lines = unmarked instrs }

-- code with one function of 4 slots
abbrev main_only : List Instr → Code
main_only instrs = code_of (function_at 0 4 ∷ []) instrs

-- what the run of the first function gives, with the cursor at 5, if it ends within 600 steps
abbrev ended_as : Next → Option Ran
ended_as (ends outcome m) =
    Some (record { requests = m.asked; outcome = outcome; cursor = m.cursor; units = m.units; count = m.steps })
ended_as next = None

abbrev run_of : Code → ℕ → List Reply → Option Ran
run_of code units replies = ended_as (steps code 600 (boot (function_at 0 4) [] (pos 5) units replies))

abbrev gives : List Request → MachineEnd → ℤ → ℕ → ℕ → Option Ran
gives requests outcome cursor units count =
    Some (record { requests = requests; outcome = outcome; cursor = cursor; units = units; count = count })

-- one Return ends at once with the cursor as it was
just_return : Runs (main_only (I.Return ∷ [])) 0 [] (pos 5) 9 [] (record { requests = []; outcome = returned; cursor = pos 5; units = 9; count = 1 })
just_return = record { entry = function_at 0 4; found = refl; bound = 2; gives = refl }

-- the request by which a run puts what some instructions leave on top into a dataset
abbrev left_by : List Instr → Option (List Request)
left_by instrs =
    option_map (λ ran. ran.requests) (run_of (main_only (instrs ++ I.DataInt 0 ∷ I.Return ∷ [])) 9 (R.Done ∷ []))

-- that request of a number
abbrev put : ℤ → Option (List Request)
put v = Some (Q.Data (codes "d") (W.Int v) ∷ [])

-- how the run of some instructions ends
abbrev end_of : List Instr → Option MachineEnd
end_of instrs = option_map (λ ran. ran.outcome) (run_of (main_only instrs) 9 [])

abbrev two : ℤ → ℤ → Instr → List Instr
two a b instr = I.Const a ∷ I.Const b ∷ instr ∷ []

abbrev one : ℤ → Instr → List Instr
one a instr = I.Const a ∷ instr ∷ []

-- arithmetic: it wraps at 64 bits, and a quotient is rounded down
arithmetic :
    map left_by
    (two (pos 9223372036854775807) (pos 1) I.Add
    ∷ two (pos 3) (pos 5) I.Sub
    ∷ two (negsuc 2) (pos 5) I.Mul
    ∷ two (negsuc 6) (pos 2) I.Div
    ∷ two (pos 7) (negsuc 1) I.Div
    ∷ two (negsuc 9223372036854775807) (negsuc 0) I.Div
    ∷ two (negsuc 6) (pos 2) I.Mod
    ∷ two (pos 7) (negsuc 1) I.Mod
    ∷ one (pos 5) I.Neg
    ∷ one (pos 2147483648) I.Wrap32
    ∷ two (negsuc 0) (pos 1) I.Max
    ∷ [])
    ≡ map put
    (negsuc 9223372036854775807
    ∷ negsuc 1
    ∷ negsuc 14
    ∷ negsuc 3
    ∷ negsuc 3
    ∷ negsuc 9223372036854775807
    ∷ pos 1
    ∷ negsuc 0
    ∷ negsuc 4
    ∷ negsuc 2147483647
    ∷ pos 1
    ∷ [])
unfolding int_wrap
arithmetic = refl

-- bits: a shift's amount is taken modulo the width, and a shift to the right keeps the sign
bits :
    map left_by
    (two (pos 12) (pos 10) I.And
    ∷ two (pos 12) (pos 10) I.Or
    ∷ two (negsuc 0) (pos 10) I.Xor
    ∷ one (pos 5) I.Inv
    ∷ two (pos 3) (pos 33) (I.Shl 32)
    ∷ two (pos 3) (pos 33) (I.Shl 64)
    ∷ two (pos 1) (negsuc 0) (I.Shl 64)
    ∷ two (negsuc 4) (pos 1) (I.Shr 64)
    ∷ two (negsuc 4) (negsuc 0) (I.Shr 32)
    ∷ [])
    ≡ map put
    (pos 8
    ∷ pos 14
    ∷ negsuc 10
    ∷ negsuc 5
    ∷ pos 6
    ∷ pos 25769803776
    ∷ negsuc 9223372036854775807
    ∷ negsuc 2
    ∷ negsuc 0
    ∷ [])
unfolding int_wrap
bits = refl

-- tests
tests :
    map left_by
    (two (pos 3) (pos 3) I.Eq
    ∷ two (pos 3) (negsuc 2) I.Ne
    ∷ two (negsuc 2) (pos 3) I.Lt
    ∷ two (pos 3) (pos 3) I.Lt
    ∷ two (pos 3) (pos 3) I.Le
    ∷ two (pos 4) (pos 3) I.Le
    ∷ [])
    ≡ map put (pos 1 ∷ pos 1 ∷ pos 1 ∷ pos 0 ∷ pos 1 ∷ pos 0 ∷ [])
tests = refl

-- operands, slots and arrays
places :
    map left_by
    ((I.Const (pos 7) ∷ I.Store 2 ∷ I.Load 2 ∷ [])
    ∷ (I.Const (pos 7) ∷ I.Dup ∷ I.Add ∷ [])
    ∷ (I.Const (pos 7) ∷ I.Const (pos 8) ∷ I.Pop ∷ [])
    ∷ (I.Const (pos 9) ∷ I.Const (pos 1) ∷ I.StoreAt 2 2 ∷ I.Load 3 ∷ [])
    ∷ (I.Const (pos 9) ∷ I.Store 1 ∷ I.Const (pos 0) ∷ I.LoadAt 1 3 ∷ [])
    ∷ (I.Const (pos 9) ∷ I.Fill 1 2 ∷ I.Load 1 ∷ I.Load 2 ∷ I.Add ∷ I.Load 3 ∷ I.Add ∷ [])
    ∷ [])
    ≡ map put (pos 7 ∷ pos 14 ∷ pos 7 ∷ pos 9 ∷ pos 9 ∷ pos 18 ∷ [])
unfolding int_wrap
places = refl

-- jumps, the cursor, and requests with a number
flow :
    map left_by
    ((I.Jump 3 ∷ I.Const (pos 1) ∷ I.Jump 4 ∷ I.Const (pos 2) ∷ [])
    ∷ (I.Const (pos 0) ∷ I.JumpZero 4 ∷ I.Const (pos 1) ∷ I.Jump 5 ∷ I.Const (pos 2) ∷ [])
    ∷ (I.Const (pos 3) ∷ I.JumpZero 4 ∷ I.Const (pos 1) ∷ I.Jump 5 ∷ I.Const (pos 2) ∷ [])
    ∷ (I.Now ∷ [])
    ∷ (I.Const (pos 9223372036854775807) ∷ I.At ∷ I.Const (pos 2) ∷ I.Delay ∷ I.Now ∷ [])
    ∷ [])
    ≡ map put (pos 2 ∷ pos 2 ∷ pos 1 ∷ pos 5 ∷ negsuc 9223372036854775806 ∷ [])
unfolding int_wrap
flow = refl

-- what raises, and what is missing
ends_early :
    map end_of
    (two (pos 1) (pos 0) I.Div
    ∷ two (pos 1) (pos 0) I.Mod
    ∷ one (pos 2) (I.LoadAt 1 2)
    ∷ one (negsuc 0) (I.LoadAt 1 2)
    ∷ two (pos 9) (pos 2) (I.StoreAt 1 2)
    ∷ one (pos 3) I.Raise
    ∷ one (pos 0) I.Raise
    ∷ one (pos 7) I.Raise
    ∷ (I.Counter ∷ [])
    ∷ (I.Add ∷ [])
    ∷ (I.Load 4 ∷ [])
    ∷ one (pos 1) (I.LoadAt 3 2)
    ∷ (I.EndTry ∷ [])
    ∷ (I.Save ∷ [])
    ∷ (I.Record 0 ∷ I.Record 0 ∷ [])
    ∷ (I.Play 1 ∷ [])
    ∷ (I.Call 1 ∷ [])
    ∷ (I.Jump 1 ∷ [])
    ∷ [])
    ≡ Some (raised ZeroDivisionError)
    ∷ Some (raised ZeroDivisionError)
    ∷ Some (raised IndexError)
    ∷ Some (raised IndexError)
    ∷ Some (raised IndexError)
    ∷ Some (raised DMAError)
    ∷ Some (raised StackOverflow)
    ∷ Some (raised StackOverflow)
    ∷ Some unanswered
    ∷ None
    ∷ None
    ∷ None
    ∷ None
    ∷ None
    ∷ None
    ∷ None
    ∷ None
    ∷ None
    ∷ []
ends_early = refl

-- an output's data and address are low bits; it takes a unit, and the unanswered request is asked too
abbrev output_of : ℕ → ℕ → ℕ → ℤ → Request
output_of channel address v stamp =
    Q.Out (record { channel = channel; address = address; value = v; stamp = stamp })

outputs :
    run_of (main_only (I.Const (negsuc 0) ∷ I.Out 3 0 ∷ I.Const (pos 257) ∷ I.Const (pos 8) ∷ I.OutTo 16 ∷ [])) 9 (R.Done ∷ [])
    ≡ gives (output_of 3 0 4294967295 (pos 5) ∷ output_of 16 1 8 (pos 5) ∷ []) unanswered (pos 5) 7 5
outputs = refl

-- every other request, with the numbers that it brings; an instruction that finds no unit counts too
requests :
    run_of
    (main_only
    (I.Counter
    ∷ I.Wait
    ∷ I.Reset
    ∷ I.Edge 24
    ∷ I.Pop
    ∷ I.Handle 0
    ∷ I.Pop
    ∷ I.Erase 0
    ∷ I.Const (pos 4)
    ∷ I.Store 1
    ∷ I.DataList 0 0 2
    ∷ I.Turn
    ∷ []))
    7
    (R.Time (pos 1) ∷ R.Done ∷ R.Time (pos 2) ∷ R.NoEdge ∷ R.Handle (pos 4096) ∷ R.Done ∷ R.Done ∷ [])
    ≡ gives
    (Q.Counter
    ∷ Q.Wait (pos 1)
    ∷ Q.Reset
    ∷ Q.Edge 24 (pos 2)
    ∷ Q.Handle (codes "d")
    ∷ Q.Erase (codes "d")
    ∷ Q.Data (codes "d") (W.List (pos 0 ∷ pos 4 ∷ []))
    ∷ [])
    budget
    (pos 5)
    0
    12
requests = refl

-- an output that raises under a handler: its operands are cut, its code is pushed, and the cursor goes on past a reading
caught :
    run_of
    (main_only
    (I.Const (pos 40)
    ∷ I.Try 6
    ∷ I.Const (pos 9)
    ∷ I.Const (pos 1)
    ∷ I.Out 3 0
    ∷ I.Return
    ∷ I.Add
    ∷ I.Counter
    ∷ I.Max
    ∷ I.At
    ∷ I.Return
    ∷ []))
    9
    (R.Underflow ∷ R.Time (pos 30) ∷ [])
    ≡ gives (output_of 3 0 1 (pos 5) ∷ Q.Counter ∷ []) returned (pos 41) 7 10
unfolding int_wrap
caught = refl

-- a removed handler takes nothing any more, and the one below it does
handlers :
    run_of
    (main_only
    (I.Try 5 ∷ I.Try 5 ∷ I.EndTry ∷ I.Const (pos 2) ∷ I.Raise ∷ I.At ∷ I.Const (pos 5) ∷ I.Raise ∷ []))
    9
    []
    ≡ gives [] (raised IndexError) (pos 2) 9 8
handlers = refl

-- a call: its arguments fill the first slots in order, the others are 0, and its value is pushed
abbrev callee : ℕ → CodeFunction
callee first = record { first = first; params = 2; slots = 3; value = true; plain = true }

calls :
    run_of
    (code_of
    (function_at 0 4 ∷ callee 6 ∷ [])
    (I.Const (pos 1)
    ∷ I.Const (pos 30)
    ∷ I.Const (pos 10)
    ∷ I.Call 1
    ∷ I.At
    ∷ I.Return
    ∷ I.Load 0
    ∷ I.Load 1
    ∷ I.Sub
    ∷ I.Load 2
    ∷ I.Add
    ∷ I.Return
    ∷ []))
    9
    []
    ≡ gives [] returned (pos 20) 8 12
unfolding int_wrap
calls = refl

-- a call that has no unit; one without its arguments is stuck
calls_end :
    (run_of (code_of (function_at 0 4 ∷ []) (I.Call 0 ∷ [])) 0 [] ≡ gives [] budget (pos 5) 0 1)
    × (run_of (code_of (function_at 0 4 ∷ callee 1 ∷ []) (I.Call 1 ∷ I.Return ∷ [])) 9 [] ≡ None)
calls_end = (refl, refl)

-- a function that calls itself: 63 calls run, the 64th takes its unit and raises, and the caller's handler takes it
recursion :
    run_of (code_of (function_at 0 4 ∷ function_at 4 0 ∷ []) (I.Try 2 ∷ I.Call 1 ∷ I.At ∷ I.Return ∷ I.Call 1 ∷ I.Return ∷ [])) 99 []
    ≡ gives [] returned (pos 6) 35 67
recursion = refl

-- a recording: it begins at 0 and collects outputs, each for a unit; it is closed before it is saved
abbrev recorded : Request
recorded =
    Q.Save
    (codes "d")
    (record { events = record { channel = 0; address = 0; value = 1; stamp = pos 7 } ∷ []; length = pos 7 })

abbrev recording : List Instr
recording = I.Record 0 ∷ I.Const (pos 7) ∷ I.Delay ∷ I.Const (pos 1) ∷ I.Out 0 0 ∷ I.Save ∷ I.Return ∷ []

recordings :
    (run_of (main_only recording) 9 (R.Done ∷ []) ≡ gives (recorded ∷ []) returned (pos 5) 7 7)
    × (run_of (main_only recording) 9 (R.Full ∷ []) ≡ gives (recorded ∷ []) (raised DMAError) (pos 5) 7 6)
    × (run_of (main_only recording) 9 [] ≡ gives (recorded ∷ []) unanswered (pos 5) 7 6)
    × (run_of (main_only recording) 1 [] ≡ gives [] budget (pos 5) 0 6)
    × (run_of (main_only recording) 0 [] ≡ gives [] budget (pos 5) 0 5)
unfolding int_wrap
recordings = (refl, refl, refl, refl, refl)

-- an exception drops a recording that was opened after its handler, and keeps one that was open at it
dropped_and_kept :
    (run_of (main_only (I.Try 4 ∷ I.Record 0 ∷ I.Const (pos 1) ∷ I.Raise ∷ I.Now ∷ I.Add ∷ I.At ∷ I.Return ∷ [])) 9 [] ≡ gives [] returned (pos 6) 9 8)
    × (run_of (main_only (I.Record 0 ∷ I.Try 4 ∷ I.Const (pos 1) ∷ I.Raise ∷ I.Now ∷ I.Add ∷ I.At ∷ I.Save ∷ I.Return ∷ [])) 9 []
    ≡ gives (Q.Save (codes "d") (record { events = []; length = pos 1 }) ∷ []) unanswered (pos 5) 8 8)
    × (run_of (main_only (I.Record 0 ∷ I.Const (pos 1) ∷ I.Raise ∷ [])) 9 [] ≡ gives [] (raised RTIOUnderflow) (pos 5) 9 3)
unfolding int_wrap
dropped_and_kept = (refl, refl, refl)

-- an exception that leaves a called function keeps the recording of its caller
kept_by_callers :
    run_of
    (code_of
    (function_at 0 4 ∷ function_at 5 0 ∷ [])
    (I.Record 0 ∷ I.Try 3 ∷ I.Call 1 ∷ I.At ∷ I.Save ∷ I.Const (pos 4) ∷ I.Raise ∷ []))
    9
    []
    ≡ gives (Q.Save (codes "d") (record { events = []; length = pos 4 }) ∷ []) unanswered (pos 5) 7 7
kept_by_callers = refl

-- a playback: its outputs are moved by the cursor, which goes on by the length after the last of them
abbrev trace : Reply
trace =
    R.Trace
    (record {
      events = record { channel = 0; address = 0; value = 1; stamp = pos 7 } ∷ record { channel = 1; address = 0; value = 0; stamp = pos 2 } ∷ [];
      length = pos 30;
    })

playbacks :
    (run_of (main_only (I.Play 0 ∷ I.Return ∷ [])) 9 (trace ∷ R.Done ∷ R.Done ∷ [])
    ≡ gives (Q.Fetch (codes "d") ∷ output_of 0 0 1 (pos 12) ∷ output_of 1 0 0 (pos 7) ∷ []) returned (pos 35) 6 2)
    × (run_of (main_only (I.Const (pos 8) ∷ I.PlayHandle ∷ [])) 9 (trace ∷ R.Done ∷ R.Underflow ∷ [])
    ≡ gives (Q.FetchHandle (pos 8) ∷ output_of 0 0 1 (pos 12) ∷ output_of 1 0 0 (pos 7) ∷ []) (raised RTIOUnderflow) (pos 5) 6 2)
    × (run_of (main_only (I.Play 0 ∷ [])) 9 (R.NoTrace ∷ []) ≡ gives (Q.Fetch (codes "d") ∷ []) (raised DMAError) (pos 5) 8 1)
    × (run_of (main_only (I.Play 0 ∷ [])) 2 (trace ∷ R.Done ∷ []) ≡ gives (Q.Fetch (codes "d") ∷ output_of 0 0 1 (pos 12) ∷ []) budget (pos 5) 0 1)
unfolding int_wrap
playbacks = (refl, refl, refl, refl)
