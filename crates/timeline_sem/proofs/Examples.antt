-- Small kernels, whose meanings are computed.
use Rattle.std.proofs.Common.{◌≡◌, List, [], ◌∷◌, Some, None, refl}
use Rattle.std.specs.Prelude.{pos, negsuc, codes}
use Rattle.std.specs.Int.{int_wrap}
use Rattle.rtio_types.specs.declared.event.Event.{Event}
use Rattle.rtio_types.specs.declared.outcome.Exc.TheVariants.{RTIOUnderflow, DMAError, ZeroDivisionError, IndexError, StackOverflow}
use Rattle.rtio_types.specs.declared.request.Request.TheVariants as Q
use Rattle.rtio_types.specs.declared.request.Reply.TheVariants as R
use Rattle.rtio_types.specs.declared.request.Value.TheVariants.{Int, List as Items}
use Rattle.kern_syntax.specs.declared.expression.BinaryOperator.TheVariants.{Add as Plus, Divide, Remainder, ShiftLeft}
use Rattle.kern_syntax.specs.declared.expression.UnaryOperator.TheVariants.{Negate as Minus}
use Rattle.kern_syntax.specs.declared.expression.Comparison.TheVariants.{Less}
use Rattle.kern_syntax.specs.declared.statement.Augment.TheVariants as A
use Rattle.kern_syntax.specs.declared.program.DeclaredType.TheVariants as D
use Rattle.kern_syntax.specs.Tree as T
use Rattle.kern_syntax.specs.Tree.{for_range, integer, true_literal, variable, unary, binary, compare, disjunction, call, method, no_more, value_then, text_then, Statement, pass, evaluate, assign, assign_element, augment_element, assign_repeated, assign_list, if_then, no_else, while_do, parallel, sequential, record_as, try_do, no_handler, except_then, ProgramTree}
use Rattle.timeline_sem.specs.declared.meant.MeantOutcome.TheVariants as M
use Rattle.timeline_sem.specs.Programs.{meaning}
use Rattle.timeline_sem.proofs.SmallKernels.{lines, main_of, call_one, pulse_one, do_method, out_at, run, set_d, set_d_request}

-- a parallel block of a pulse and of a sequential block
abbrev two_pulses : ProgramTree
two_pulses =
    main_of
    (call_one (codes "at_mu") 1000
    ∷ parallel
    (lines
    (pulse_one (codes "ttl0") 100
    ∷ sequential (lines (call_one (codes "delay_mu") 30 ∷ pulse_one (codes "ttl1") 200 ∷ []))
    ∷ []))
    ∷ [])

two_pulses_run : run two_pulses 10 (R.Done ∷ R.Done ∷ R.Done ∷ R.Done ∷ []) ≡ record { requests = out_at 1000 0 1 ∷ out_at 1100 0 0 ∷ out_at 1030 1 1 ∷ out_at 1230 1 0 ∷ []; cursor = pos 1230; units = 6; outcome = M.Returned }
unfolding int_wrap
two_pulses_run = refl

-- three replies last for three requests, and the fourth is asked
two_pulses_unanswered : run two_pulses 10 (R.Done ∷ R.Done ∷ R.Done ∷ []) ≡ record { requests = out_at 1000 0 1 ∷ out_at 1100 0 0 ∷ out_at 1030 1 1 ∷ out_at 1230 1 0 ∷ []; cursor = pos 1230; units = 6; outcome = M.Unanswered }
unfolding int_wrap
two_pulses_unanswered = refl

-- a loop without end takes all units
endless_loop : run (main_of (while_do true_literal (lines (pass ∷ [])) ∷ [])) 5 [] ≡ record { requests = []; cursor = pos 0; units = 0; outcome = M.Budget }
endless_loop = refl

-- an underflow that a handler takes: it moves the cursor and goes on
caught : ProgramTree
caught =
    main_of
    (try_do
    (lines (do_method (codes "ttl3") (codes "on") ∷ call_one (codes "delay_mu") 7 ∷ []))
    (except_then
    1
    (codes "RTIOUnderflow")
    (lines (do_method (codes "core") (codes "break_realtime") ∷ do_method (codes "ttl4") (codes "on") ∷ []))
    no_handler)
    ∷ [])

caught_run : run caught 9 (R.Underflow ∷ R.Time (pos 800) ∷ R.Done ∷ []) ≡ record { requests = out_at 0 3 1 ∷ Q.Counter ∷ out_at 125800 4 1 ∷ []; cursor = pos 125800; units = 6; outcome = M.Returned }
unfolding int_wrap caught
caught_run = refl

-- a recording, played twice
recorded_pulse : List Event
recorded_pulse =
    record { channel = 0; address = 0; value = 1; stamp = pos 0 }
    ∷ record { channel = 0; address = 0; value = 0; stamp = pos 50 }
    ∷ []

abbrev play_p : Statement
play_p = evaluate (method (codes "core_dma") (codes "playback") (text_then (codes "p") no_more))

played : ProgramTree
played =
    main_of
    (record_as
    (codes "p")
    (lines
    (do_method (codes "ttl0") (codes "on")
    ∷ call_one (codes "delay_mu") 50
    ∷ do_method (codes "ttl0") (codes "off")
    ∷ call_one (codes "delay_mu") 30
    ∷ []))
    ∷ call_one (codes "at_mu") 1000
    ∷ play_p
    ∷ play_p
    ∷ [])

played_run : run played 20 (R.Done ∷ R.Trace (record { events = recorded_pulse; length = pos 80 }) ∷ R.Done ∷ R.Done ∷ R.Trace (record { events = recorded_pulse; length = pos 80 }) ∷ R.Done ∷ R.Underflow ∷ []) ≡ record { requests = Q.Save (codes "p") (record { events = recorded_pulse; length = pos 80 }) ∷ Q.Fetch (codes "p") ∷ out_at 1000 0 1 ∷ out_at 1050 0 0 ∷ Q.Fetch (codes "p") ∷ out_at 1080 0 1 ∷ out_at 1130 0 0 ∷ []; cursor = pos 1080; units = 11; outcome = M.Raised RTIOUnderflow }
unfolding int_wrap played recorded_pulse
played_run = refl

-- a function that calls itself is stopped at 64 active functions: 63 calls run, and the 64th raises
endless_recursion : ProgramTree
endless_recursion =
    record { line = 1; name = codes "f"; parameters = []; result = None; body = lines (evaluate (call (codes "f") no_more) ∷ []) }
    ∷ []

endless_recursion_run : run endless_recursion 100 [] ≡ record { requests = []; cursor = pos 0; units = 36; outcome = M.Raised StackOverflow }
unfolding endless_recursion
endless_recursion_run = refl

-- a sum of 32 bits wraps, and one that meets an int64 doesn't
sums : ProgramTree
sums =
    main_of
    (assign (codes "a") (binary Plus (integer 2147483647) (integer 1))
    ∷ assign (codes "b") (binary Plus (call (codes "int64") (value_then (integer 2147483647) no_more)) (integer 1))
    ∷ evaluate (call (codes "set_dataset") (text_then (codes "a") (value_then (variable (codes "a")) no_more)))
    ∷ evaluate (call (codes "set_dataset") (text_then (codes "b") (value_then (variable (codes "b")) no_more)))
    ∷ [])

sums_run : run sums 9 (R.Done ∷ R.Done ∷ []) ≡ record { requests = Q.Data (codes "a") (Int (negsuc 2147483647)) ∷ Q.Data (codes "b") (Int (pos 2147483648)) ∷ []; cursor = pos 0; units = 7; outcome = M.Returned }
unfolding int_wrap sums
sums_run = refl

-- an exception inside a parallel block leaves the cursor where it was raised
torn : ProgramTree
torn =
    main_of
    (call_one (codes "at_mu") 1000
    ∷ try_do
    (lines
    (parallel
    (lines
    (pulse_one (codes "ttl0") 100
    ∷ sequential (lines (call_one (codes "at_mu") 4 ∷ do_method (codes "ttl1") (codes "on") ∷ []))
    ∷ []))
    ∷ []))
    (except_then
    1
    (codes "RTIOUnderflow")
    (lines (call_one (codes "delay_mu") 2000 ∷ do_method (codes "ttl2") (codes "on") ∷ []))
    no_handler)
    ∷ [])

torn_run : run torn 9 (R.Done ∷ R.Done ∷ R.Underflow ∷ R.Done ∷ []) ≡ record { requests = out_at 1000 0 1 ∷ out_at 1100 0 0 ∷ out_at 4 1 1 ∷ out_at 2004 2 1 ∷ []; cursor = pos 2004; units = 5; outcome = M.Returned }
unfolding int_wrap torn
torn_run = refl

-- a budget that ends inside a record block gives back the cursor
spent : ProgramTree
spent =
    main_of
    (call_one (codes "at_mu") 700
    ∷ record_as
    (codes "p")
    (lines (do_method (codes "ttl0") (codes "on") ∷ call_one (codes "delay_mu") 5 ∷ do_method (codes "ttl0") (codes "off") ∷ []))
    ∷ [])

spent_run : run spent 1 [] ≡ record { requests = []; cursor = pos 700; units = 0; outcome = M.Budget }
unfolding int_wrap spent
spent_run = refl

-- a loop whose body sets its variable: the turns are those of the bounds
counted_turns : ProgramTree
counted_turns =
    main_of
    (for_range
    (codes "i")
    None
    (integer 3)
    (lines (call_one (codes "delay_mu") 10 ∷ assign (codes "i") (integer 7) ∷ []))
    ∷ [])

counted_turns_run : run counted_turns 5 [] ≡ record { requests = []; cursor = pos 30; units = 2; outcome = M.Returned }
unfolding int_wrap counted_turns
counted_turns_run = refl

-- edges are counted until there is none
edges : ProgramTree
edges =
    main_of
    (assign (codes "n") (method (codes "in0") (codes "count") (value_then (integer 50) no_more))
    ∷ evaluate (call (codes "set_dataset") (text_then (codes "n") (value_then (variable (codes "n")) no_more)))
    ∷ [])

edges_run : run edges 9 (R.Stamp (pos 8) ∷ R.Stamp (pos 9) ∷ R.NoEdge ∷ R.Done ∷ []) ≡ record { requests = Q.Edge 24 (pos 50) ∷ Q.Edge 24 (pos 50) ∷ Q.Edge 24 (pos 50) ∷ Q.Data (codes "n") (Int (pos 2)) ∷ []; cursor = pos 0; units = 5; outcome = M.Returned }
unfolding int_wrap edges
edges_run = refl

-- a raw output: its address is taken modulo 256, and its data as 32 bits
written : ProgramTree
written =
    main_of
    (evaluate (method (codes "raw7") (codes "write") (value_then (integer 258) (value_then (unary Minus (integer 1)) no_more)))
    ∷ [])

written_run : run written 9 (R.Done ∷ []) ≡ record { requests = Q.Out (record { channel = 23; address = 2; value = 4294967295; stamp = pos 0 }) ∷ []; cursor = pos 0; units = 8; outcome = M.Returned }
unfolding int_wrap written
written_run = refl

-- a gate sets the sensitivity, moves the cursor on, clears it and gives the cursor
gated : ProgramTree
gated =
    main_of
    (call_one (codes "at_mu") 100 ∷ set_d (method (codes "in1") (codes "gate_falling_mu") (value_then (integer 40) no_more)) ∷ [])

gated_run : run gated 9 (R.Done ∷ R.Done ∷ R.Done ∷ []) ≡ record { requests = Q.Out (record { channel = 25; address = 2; value = 2; stamp = pos 100 }) ∷ Q.Out (record { channel = 25; address = 2; value = 0; stamp = pos 140 }) ∷ set_d_request (pos 140) ∷ []; cursor = pos 140; units = 6; outcome = M.Returned }
unfolding int_wrap gated
gated_run = refl

-- a reset moves the cursor to its lead, also back
reset_back : ProgramTree
reset_back = main_of (call_one (codes "at_mu") 900000 ∷ do_method (codes "core") (codes "reset") ∷ [])

reset_back_run : run reset_back 9 (R.Time (pos 8) ∷ []) ≡ record { requests = Q.Reset ∷ []; cursor = pos 125008; units = 8; outcome = M.Returned }
unfolding int_wrap reset_back
reset_back_run = refl

-- a recording that there is no room for raises, and the cursor is back
unsaved : ProgramTree
unsaved =
    main_of (call_one (codes "at_mu") 700 ∷ record_as (codes "p") (lines (call_one (codes "delay_mu") 5 ∷ [])) ∷ [])

unsaved_run : run unsaved 9 (R.Full ∷ []) ≡ record { requests = Q.Save (codes "p") (record { events = []; length = pos 5 }) ∷ []; cursor = pos 700; units = 8; outcome = M.Raised DMAError }
unfolding int_wrap unsaved
unsaved_run = refl

-- an index outside its array raises
outside : ProgramTree
outside =
    main_of
    (assign_repeated (codes "a") (integer 7) 2
    ∷ assign_element (codes "a") (method (codes "core") (codes "get_rtio_counter_mu") no_more) (call (codes "now_mu") no_more)
    ∷ [])

outside_run : run outside 9 (R.Time (pos 2) ∷ []) ≡ record { requests = Q.Counter ∷ []; cursor = pos 0; units = 8; outcome = M.Raised IndexError }
unfolding int_wrap outside
outside_run = refl

-- an element is read, raised and written back
raised_element : ProgramTree
raised_element =
    main_of
    (assign_list (codes "a") (integer 3 ∷ integer 4 ∷ [])
    ∷ augment_element (codes "a") (integer 1) A.Subtract (integer 6)
    ∷ set_d (variable (codes "a"))
    ∷ [])

raised_element_run : run raised_element 9 (R.Done ∷ []) ≡ record { requests = Q.Data (codes "d") (Items (pos 3 ∷ negsuc 1 ∷ [])) ∷ []; cursor = pos 0; units = 8; outcome = M.Returned }
unfolding int_wrap raised_element
raised_element_run = refl

-- division rounds down, a shift's amount is taken modulo the width, and `or` leaves out what it needn't ask
computed : ProgramTree
computed =
    main_of
    (set_d (binary Divide (unary Minus (integer 7)) (integer 2))
    ∷ set_d (binary Remainder (integer 7) (unary Minus (integer 2)))
    ∷ set_d (binary ShiftLeft (integer 3) (unary Minus (integer 1)))
    ∷ if_then (disjunction true_literal (compare Less (method (codes "in0") (codes "count") (value_then (integer 8) no_more)) (integer 1))) (lines (pass ∷ [])) no_else
    ∷ set_d (binary Divide (integer 1) (integer 0))
    ∷ [])

computed_run : run computed 9 (R.Done ∷ R.Done ∷ R.Done ∷ []) ≡ record { requests = set_d_request (negsuc 3) ∷ set_d_request (negsuc 0) ∷ set_d_request (negsuc 2147483647) ∷ []; cursor = pos 0; units = 6; outcome = M.Raised ZeroDivisionError }
unfolding int_wrap computed
computed_run = refl

-- a function gives the value of its `return`; its cursor stays
called : ProgramTree
called =
    record { line = 1; name = codes "twice"; parameters = record { name = codes "n"; declared = D.Int32 } ∷ []; result = Some D.Int32; body = lines (call_one (codes "delay_mu") 8 ∷ T.return (Some (binary Plus (variable (codes "n")) (variable (codes "n")))) ∷ call_one (codes "delay_mu") 1 ∷ []) }
    ∷ record { line = 1; name = codes "main"; parameters = []; result = None; body = lines (set_d (call (codes "twice") (value_then (integer 21) no_more)) ∷ []) }
    ∷ []

called_run : meaning called 1 [] (pos 0) 9 (R.Done ∷ []) ≡ record { requests = set_d_request (pos 42) ∷ []; cursor = pos 8; units = 7; outcome = M.Returned }
unfolding int_wrap called
called_run = refl
