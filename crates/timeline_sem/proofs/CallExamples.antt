-- The meanings of the timed calls, computed in small kernels.
use Rattle.std.proofs.Common.{◌≡◌, ℕ, List, [], ◌∷◌, refl}
use Rattle.std.specs.Prelude.{pos, negsuc, codes}
use Rattle.std.specs.Int.{int_wrap}
use Rattle.rtio_types.specs.declared.event.Event.{Event}
use Rattle.rtio_types.specs.declared.outcome.Exc.TheVariants.{RTIOUnderflow, RTIOOverflow, DMAError}
use Rattle.rtio_types.specs.declared.request.Request.TheVariants as Q
use Rattle.rtio_types.specs.declared.request.Reply.{Reply}
use Rattle.rtio_types.specs.declared.request.Reply.TheVariants as R
use Rattle.kern_syntax.specs.Tree.{Expression, integer, variable, call, method, no_more, value_then, text_then, Statement, evaluate, assign, parallel, sequential, record_as, try_do}
use Rattle.timeline_sem.specs.declared.meant.MeantOutcome.TheVariants as M
use Rattle.timeline_sem.specs.Programs.{Meaning}
use Rattle.timeline_sem.proofs.SmallKernels.{lines, function_of, main_of, minus, call_of, call_one, method_one, pulse_one, do_method, edge_now, edge_request, set_d, set_d_request, set_d_requests, except_one, out_at, sensitivity_at, dones, run, run_second, meant}

abbrev at : ℕ → Statement
at t = call_one (codes "at_mu") t

abbrev delay : ℕ → Statement
delay d = call_one (codes "delay_mu") d

abbrev now : Expression
now = call (codes "now_mu") no_more

-- the cursor is set and moved, also back
cursor_moves : run (main_of (at 100 ∷ delay 20 ∷ set_d now ∷ evaluate (call_of (codes "delay_mu") (minus 50)) ∷ set_d now ∷ evaluate (call_of (codes "at_mu") (minus 5)) ∷ [])) 9 (dones 2) ≡ meant (set_d_requests (pos 120 ∷ pos 70 ∷ [])) (negsuc 4) 7 M.Returned
unfolding int_wrap
cursor_moves = refl

-- it wraps at 64 bits
cursor_wraps : run (main_of (at 9223372036854775807 ∷ delay 1 ∷ [])) 9 [] ≡ meant [] (negsuc 9223372036854775807) 9 M.Returned
unfolding int_wrap
cursor_wraps = refl

-- the start of a parallel block is greater than its only end
start_is_greatest : run (main_of (at 100 ∷ parallel (lines (at 20 ∷ [])) ∷ [])) 9 [] ≡ meant [] (pos 100) 9 M.Returned
unfolding int_wrap
start_is_greatest = refl

-- a parallel block in a branch of another one
nested : run (main_of (at 100 ∷ parallel (lines (sequential (lines (pulse_one (codes "ttl0") 10 ∷ parallel (lines (delay 50 ∷ delay 5 ∷ [])) ∷ [])) ∷ do_method (codes "ttl1") (codes "on") ∷ [])) ∷ do_method (codes "ttl2") (codes "off") ∷ [])) 9 (dones 4) ≡ meant (out_at 100 0 1 ∷ out_at 110 0 0 ∷ out_at 100 1 1 ∷ out_at 160 2 0 ∷ []) (pos 160) 5 M.Returned
unfolding int_wrap
nested = refl

-- units that end in a parallel block leave the cursor of that moment
parallel_spent : run (main_of (at 100 ∷ parallel (lines (delay 30 ∷ pulse_one (codes "ttl0") 10 ∷ [])) ∷ [])) 1 (dones 1) ≡ meant (out_at 100 0 1 ∷ []) (pos 110) 0 M.Budget
unfolding int_wrap
parallel_spent = refl

-- the lead over the counter's reading moves the cursor on, and never back
abbrev real_time : Statement
real_time = do_method (codes "core") (codes "break_realtime")

ahead : run (main_of (at 1000000 ∷ real_time ∷ [])) 9 (R.Time (pos 8) ∷ []) ≡ meant (Q.Counter ∷ []) (pos 1000000) 8 M.Returned
unfolding int_wrap
ahead = refl

behind : run (main_of (at 5 ∷ real_time ∷ [])) 9 (R.Time (pos 8) ∷ []) ≡ meant (Q.Counter ∷ []) (pos 125008) 8 M.Returned
unfolding int_wrap
behind = refl

-- the sum wraps before it is compared
lead_wraps : run (main_of (at 5 ∷ real_time ∷ [])) 9 (R.Time (pos 9223372036854775807) ∷ []) ≡ meant (Q.Counter ∷ []) (pos 5) 8 M.Returned
unfolding int_wrap
lead_wraps = refl

reset_wraps : run (main_of (do_method (codes "core") (codes "reset") ∷ [])) 9 (R.Time (pos 9223372036854775807) ∷ []) ≡ meant (Q.Reset ∷ []) (negsuc 9223372036854650808) 8 M.Returned
unfolding int_wrap
reset_wraps = refl

-- a wait leaves the cursor
waited : run (main_of (at 30 ∷ method_one (codes "core") (codes "wait_until_mu") (integer 99) ∷ [])) 9 (dones 1) ≡ meant (Q.Wait (pos 99) ∷ []) (pos 30) 8 M.Returned
unfolding int_wrap
waited = refl

-- an edge's stamp, -1 where there is none, and an exception where edges were lost; the cursor stays
stamped : run (main_of (at 30 ∷ set_d edge_now ∷ set_d edge_now ∷ set_d (method (codes "in3") (codes "timestamp_mu") (value_then (minus 5) no_more)) ∷ [])) 9 (R.NoEdge ∷ R.Done ∷ R.Stamp (pos 17) ∷ R.Done ∷ R.Overflow ∷ []) ≡ meant (edge_request ∷ set_d_request (negsuc 0) ∷ edge_request ∷ set_d_request (pos 17) ∷ Q.Edge 27 (negsuc 4) ∷ []) (pos 30) 4 (M.Raised RTIOOverflow)
unfolding int_wrap
stamped = refl

-- the first input is set to rising edges for a while, and the third one to both
gates : List Reply → Meaning
gates replies =
    run
    (main_of
    (at 100
    ∷ set_d (method (codes "in0") (codes "gate_rising_mu") (value_then (integer 40) no_more))
    ∷ set_d (method (codes "in2") (codes "gate_both_mu") (value_then (integer 7) no_more))
    ∷ []))
    9
    replies

gates_run : gates (dones 6) ≡ meant (sensitivity_at 100 24 1 ∷ sensitivity_at 140 24 0 ∷ set_d_request (pos 140) ∷ sensitivity_at 140 26 3 ∷ sensitivity_at 147 26 0 ∷ set_d_request (pos 147) ∷ []) (pos 147) 3 M.Returned
unfolding int_wrap gates
gates_run = refl

-- the end of the first gate comes too late
gates_late : gates (R.Done ∷ R.Underflow ∷ []) ≡ meant (sensitivity_at 100 24 1 ∷ sensitivity_at 140 24 0 ∷ []) (pos 140) 7 (M.Raised RTIOUnderflow)
unfolding int_wrap gates
gates_late = refl

-- edges are counted with so many units
counted : ℕ → List Reply → Meaning
counted units replies =
    run
    (main_of (set_d (method (codes "in7") (codes "count") (value_then (integer 60) no_more)) ∷ []))
    units
    replies

none_counted : counted 9 (R.NoEdge ∷ R.Done ∷ []) ≡ meant (Q.Edge 31 (pos 60) ∷ set_d_request (pos 0) ∷ []) (pos 0) 7 M.Returned
unfolding int_wrap counted
none_counted = refl

count_enough : counted 3 (R.Stamp (pos 8) ∷ R.NoEdge ∷ R.Done ∷ []) ≡ meant (Q.Edge 31 (pos 60) ∷ Q.Edge 31 (pos 60) ∷ set_d_request (pos 1) ∷ []) (pos 0) 0 M.Returned
unfolding int_wrap counted
count_enough = refl

count_spent : counted 2 (R.Stamp (pos 8) ∷ R.Stamp (pos 9) ∷ R.NoEdge ∷ []) ≡ meant (Q.Edge 31 (pos 60) ∷ Q.Edge 31 (pos 60) ∷ []) (pos 0) 0 M.Budget
unfolding int_wrap counted
count_spent = refl

count_lost : counted 9 (R.Stamp (pos 8) ∷ R.Overflow ∷ []) ≡ meant (Q.Edge 31 (pos 60) ∷ Q.Edge 31 (pos 60) ∷ []) (pos 0) 7 (M.Raised RTIOOverflow)
unfolding int_wrap counted
count_lost = refl

count_unanswered : counted 9 (R.Stamp (pos 8) ∷ []) ≡ meant (Q.Edge 31 (pos 60) ∷ Q.Edge 31 (pos 60) ∷ []) (pos 0) 7 M.Unanswered
unfolding int_wrap counted
count_unanswered = refl

-- raw outputs: an address modulo 256, data as 32 bits, also in a recording
raw_written : run (main_of (evaluate (method (codes "raw0") (codes "write") (value_then (minus 1) (value_then (minus 2) no_more))) ∷ do_method (codes "raw1") (codes "on") ∷ pulse_one (codes "raw2") 6 ∷ [])) 9 (dones 4) ≡ meant (Q.Out (record { channel = 16; address = 255; value = 4294967294; stamp = pos 0 }) ∷ out_at 0 17 1 ∷ out_at 0 18 1 ∷ out_at 6 18 0 ∷ []) (pos 6) 5 M.Returned
unfolding int_wrap
raw_written = refl

-- a call in a record block is recorded, from cursor 0 on
recorded_call : run_second (function_of (codes "f") (pulse_one (codes "ttl0") 9 ∷ delay 1 ∷ []) ∷ function_of (codes "main") (at 700 ∷ record_as (codes "p") (lines (evaluate (call (codes "f") no_more) ∷ evaluate (method (codes "raw0") (codes "write") (value_then (integer 3) (value_then (integer 4) no_more))) ∷ [])) ∷ do_method (codes "ttl1") (codes "on") ∷ []) ∷ []) 9 (dones 2) ≡ meant (Q.Save (codes "p") (record { events = record { channel = 0; address = 0; value = 1; stamp = pos 0 } ∷ record { channel = 0; address = 0; value = 0; stamp = pos 9 } ∷ record { channel = 16; address = 3; value = 4; stamp = pos 10 } ∷ []; length = pos 10 }) ∷ out_at 700 1 1 ∷ []) (pos 700) 3 M.Returned
unfolding int_wrap
recorded_call = refl

-- where a recording can't be saved for want of a unit or a reply, the cursor is back
abbrev empty_recording : List Statement
empty_recording = at 700 ∷ record_as (codes "p") (lines (delay 5 ∷ [])) ∷ []

save_spent : run (main_of empty_recording) 0 (dones 1) ≡ meant [] (pos 700) 0 M.Budget
unfolding int_wrap
save_spent = refl

save_unanswered : run (main_of empty_recording) 9 [] ≡ meant (Q.Save (codes "p") (record { events = []; length = pos 5 }) ∷ []) (pos 700) 8 M.Unanswered
unfolding int_wrap
save_unanswered = refl

-- a recording played by its handle, until the handle is old
abbrev two_events : List Event
two_events =
    record { channel = 0; address = 0; value = 1; stamp = pos 0 }
    ∷ record { channel = 1; address = 0; value = 0; stamp = pos 50 }
    ∷ []

abbrev by_handle : Statement
by_handle = method_one (codes "core_dma") (codes "playback_handle") (variable (codes "h"))

handled : List Reply → Meaning
handled replies =
    run
    (main_of
    (at 1000
    ∷ assign (codes "h") (method (codes "core_dma") (codes "get_handle") (text_then (codes "p") no_more))
    ∷ by_handle
    ∷ by_handle
    ∷ []))
    9
    replies

handled_run : handled (R.Handle (pos 4097) ∷ R.Trace (record { events = two_events; length = pos 80 }) ∷ R.Done ∷ R.Done ∷ R.OldHandle ∷ []) ≡ meant (Q.Handle (codes "p") ∷ Q.FetchHandle (pos 4097) ∷ out_at 1000 0 1 ∷ out_at 1050 1 0 ∷ Q.FetchHandle (pos 4097) ∷ []) (pos 1080) 4 (M.Raised DMAError)
unfolding int_wrap handled
handled_run = refl

-- no recording has the name
no_handle : handled (R.NoTrace ∷ []) ≡ meant (Q.Handle (codes "p") ∷ []) (pos 1000) 8 (M.Raised DMAError)
unfolding int_wrap handled
no_handle = refl

-- units that end in a playback leave its cursor at the start
abbrev play_p : Statement
play_p = evaluate (method (codes "core_dma") (codes "playback") (text_then (codes "p") no_more))

playback_spent : run (main_of (at 1000 ∷ play_p ∷ [])) 2 (R.Trace (record { events = two_events; length = pos 80 }) ∷ R.Done ∷ R.Done ∷ []) ≡ meant (Q.Fetch (codes "p") ∷ out_at 1000 0 1 ∷ []) (pos 1000) 0 M.Budget
unfolding int_wrap
playback_spent = refl

-- the stamps of a playback wrap, and so does the cursor behind it
late_playback : run (main_of (at 9223372036854775807 ∷ play_p ∷ [])) 9 (R.Trace (record { events = record { channel = 3; address = 0; value = 1; stamp = pos 5 } ∷ []; length = pos 1 }) ∷ R.Done ∷ []) ≡ meant (Q.Fetch (codes "p") ∷ Q.Out (record { channel = 3; address = 0; value = 1; stamp = negsuc 9223372036854775803 }) ∷ []) (negsuc 9223372036854775807) 7 M.Returned
unfolding int_wrap
late_playback = refl

-- a recording that isn't there is erased in vain
abbrev erase_p : Statement
erase_p = evaluate (method (codes "core_dma") (codes "erase") (text_then (codes "p") no_more))

erased : run (main_of (erase_p ∷ try_do (lines (erase_p ∷ set_d (integer 1) ∷ [])) (except_one (codes "DMAError") (set_d (integer 2) ∷ [])) ∷ [])) 9 (R.Done ∷ R.NoTrace ∷ R.Done ∷ []) ≡ meant (Q.Erase (codes "p") ∷ Q.Erase (codes "p") ∷ set_d_request (pos 2) ∷ []) (pos 0) 6 M.Returned
unfolding int_wrap
erased = refl
