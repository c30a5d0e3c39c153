-- Small kernels, whose verdicts are computed. What each must be was worked out by hand from the rule, as `docs/SLACK.md`
-- does for one of them.
use Rattle.std.proofs.Common.{◌≡◌, ℕ, List, [], ◌∷◌, ◌++◌, Some, None, refl}
use Rattle.std.specs.Prelude.{pos, codes, replicate, slice_get}
use Rattle.std.specs.Int.{int_wrap}
use Rattle.rtio_types.specs.declared.event.Event.{Event}
use Rattle.kern_syntax.specs.declared.expression.BinaryOperator.TheVariants.{Add, Subtract, Multiply, Divide}
use Rattle.kern_syntax.specs.declared.expression.Comparison.TheVariants.{Less}
use Rattle.kern_syntax.specs.declared.program.DeclaredType.TheVariants as D
use Rattle.kern_syntax.specs.Tree.{Bytes, Expression, Statement, integer, variable, binary, compare, call, method, no_more, value_then, text_then, evaluate, pass, assign, assign_list, if_then, no_else, for_range, parallel, sequential, record_as, try_do, ProgramTree}
use Rattle.kern_syntax.specs.Tree as T
use Rattle.timeline_sem.proofs.SmallKernels.{lines, function_of, main_of, minus, call_of, call_one, pulse_one, method_one, do_method, counter_now, set_d, except_one}
use Rattle.timeline_sem.specs.Programs.{call_room}
use Rattle.slack_meaning.specs.declared.span.Span.{Span}
use Rattle.slack_meaning.specs.declared.verdict.OpenKind.TheVariants as K
use Rattle.slack_meaning.specs.declared.verdict.Verdict.{Verdict}
use Rattle.slack_meaning.specs.declared.verdict.Verdict.TheVariants.{Yes, No, Open}
use Rattle.slack_meaning.specs.Actions.{Completion, normal, early, State}
use Rattle.slack_meaning.specs.Statements.{statement}
use Rattle.slack_meaning.specs.Programs.{optional_body, function_call, opening, verdict_of, slack_verdict}

-- the end of a program's first function with so many units
abbrev ended : ProgramTree → (units cost depth : ℕ) → Completion Span
ended program units cost depth =
    optional_body program (function_call program call_room) (slice_get program 0) [] (opening units cost depth)

abbrev cursor_of : Completion Span → Span
cursor_of (normal v s) = s.cursor
cursor_of (early reason s) = s.cursor

-- the verdict on a kernel of these statements, and where its cursor then stands, with 100 units
abbrev verdict : List Statement → (cost depth : ℕ) → Verdict
verdict body cost depth = slack_verdict (main_of body) 0 cost depth

abbrev cursor_after : List Statement → (cost : ℕ) → Span
cursor_after body cost = cursor_of (ended (main_of body) 100 cost 128)

abbrev from_to : ℕ → ℕ → Span
from_to least greatest = record { least = pos least; greatest = pos greatest }

-- an output that switches a channel on
abbrev on_at : ℕ → ℕ → Event
on_at channel stamp = record { channel = channel; address = 0; value = 1; stamp = pos stamp }

abbrev ttl0_on : Statement
ttl0_on = do_method (codes "ttl0") (codes "on")

abbrev ttl0_off : Statement
ttl0_off = do_method (codes "ttl0") (codes "off")

abbrev ttl1_on : Statement
ttl1_on = do_method (codes "ttl1") (codes "on")

abbrev ttl2_on : Statement
ttl2_on = do_method (codes "ttl2") (codes "on")

abbrev reset : Statement
reset = do_method (codes "core") (codes "reset")

abbrev break_realtime : Statement
break_realtime = do_method (codes "core") (codes "break_realtime")

abbrev at_mu : ℕ → Statement
at_mu t = call_one (codes "at_mu") t

abbrev delay_mu : ℕ → Statement
delay_mu d = call_one (codes "delay_mu") d

abbrev wait_until : ℕ → Statement
wait_until t = method_one (codes "core") (codes "wait_until_mu") (integer t)

abbrev now : Expression
now = call (codes "now_mu") no_more

abbrev a : Bytes
a = codes "a"

-- a method of the recording `p`
abbrev with_p : Bytes → Statement
with_p name = evaluate (method (codes "core_dma") name (text_then (codes "p") no_more))

abbrev recorded_p : List Statement → Statement
recorded_p body = record_as (codes "p") (lines body)

-- the third output is asked for when the limit has reached its cycle
third_too_late : verdict (at_mu 1000 ∷ ttl0_on ∷ at_mu 1500 ∷ ttl0_off ∷ at_mu 1600 ∷ ttl0_on ∷ []) 800 128 ≡ No 2 (on_at 0 1600) 1600
unfolding int_wrap
third_too_late = refl

-- a loop comes too late in its second turn, where its cycle is the limit's
second_turn : verdict (at_mu 1000 ∷ for_range a None (integer 3) (lines (ttl0_on ∷ delay_mu 8 ∷ [])) ∷ []) 1008 128 ≡ No 1 (on_at 0 1008) 1008
unfolding int_wrap
second_turn = refl

abbrev two_pulses : List Statement
two_pulses =
    at_mu 1000
    ∷ parallel
    (lines (pulse_one (codes "ttl0") 100 ∷ sequential (lines (delay_mu 30 ∷ pulse_one (codes "ttl1") 200 ∷ [])) ∷ []))
    ∷ []

-- two pulses side by side are in time
two_pulses_in_time : verdict two_pulses 80 128 ≡ Yes 4
unfolding int_wrap
two_pulses_in_time = refl

-- where one event fills a lane the second output may have to wait, until the cycle before its own at most
second_waits : verdict two_pulses 80 1 ≡ No 2 (on_at 1 1030) 1168
unfolding int_wrap
second_waits = refl

-- a wait lets the limit rise to a whole cycle that isn't before it
waits_below : verdict (at_mu 1000 ∷ wait_until 992 ∷ ttl0_on ∷ []) 0 128 ≡ Yes 1
unfolding int_wrap
waits_below = refl

waits_above : verdict (at_mu 1000 ∷ wait_until 993 ∷ ttl0_on ∷ []) 0 128 ≡ No 0 (on_at 0 1000) 1000
unfolding int_wrap
waits_above = refl

-- after a reset the cursor is ahead of the limit
after_reset : verdict (reset ∷ ttl0_on ∷ []) 800 128 ≡ Yes 1
after_reset = refl

-- the lead is over the limit before the request's cost: after one reset it is a number, after two a span
one_reset : cursor_after (reset ∷ []) 800 ≡ from_to 125000 125000
one_reset = refl

two_resets : cursor_after (reset ∷ reset ∷ []) 800 ≡ from_to 125000 125800
two_resets = refl

-- a wait raises the least reading too, and an output of a span is asked at its least stamp
least_too_late : verdict (wait_until 1000001 ∷ reset ∷ evaluate (call_of (codes "delay_mu") (minus 124000)) ∷ ttl0_on ∷ []) 800 128 ≡ No 0 (on_at 0 1001008) 1001608
unfolding int_wrap
least_too_late = refl

-- an output that may have to wait raises the limit by its greatest stamp
greatest_waits : verdict (reset ∷ reset ∷ ttl0_on ∷ ttl1_on ∷ ttl2_on ∷ []) 800 1 ≡ No 2 (on_at 2 125000) 126592
greatest_waits = refl

-- `break_realtime` moves each end of the cursor that is behind the lead's
behind_the_lead : cursor_after (reset ∷ reset ∷ at_mu 125500 ∷ break_realtime ∷ []) 800 ≡ from_to 125500 126600
unfolding int_wrap
behind_the_lead = refl

-- after a parallel block the cursor is the greatest at each end
parallel_ends : cursor_after (reset ∷ reset ∷ parallel (lines (delay_mu 100 ∷ at_mu 125500 ∷ [])) ∷ []) 800 ≡ from_to 125500 125900
unfolding int_wrap
parallel_ends = refl

-- a span may be a pulse's length
pulse_of_a_span : cursor_after (reset ∷ reset ∷ assign a (binary Subtract now (integer 124000)) ∷ at_mu 2000000 ∷ method_one (codes "ttl0") (codes "pulse_mu") (variable a) ∷ []) 800 ≡ from_to 2001000 2001800
unfolding int_wrap
pulse_of_a_span = refl

-- it may be passed to a function and returned
abbrev calling : ProgramTree
calling =
    function_of (codes "main") (reset ∷ reset ∷ evaluate (call_of (codes "at_mu") (call_of (codes "ahead") now)) ∷ [])
    ∷ record {
      line = 1;
      name = codes "ahead";
      parameters = record { name = codes "t"; declared = D.Int64 } ∷ [];
      result = Some D.Int64;
      body = lines (T.return (Some (binary Add (variable (codes "t")) (integer 8))) ∷ []);
    }
    ∷ []

through_a_call : cursor_of (ended calling 100 800 128) ≡ from_to 125008 125808
through_a_call = refl

-- and be what a recording's stamps and length have, which the cursor then moves
abbrev recorded_span : ℕ → List Statement
recorded_span t =
    reset
    ∷ reset
    ∷ assign a (binary Subtract now (integer 125000))
    ∷ recorded_p (evaluate (call_of (codes "delay_mu") (variable a)) ∷ ttl0_on ∷ delay_mu 50 ∷ [])
    ∷ at_mu t
    ∷ with_p (codes "playback")
    ∷ []

recorded_span_ends : cursor_after (recorded_span 10000) 800 ≡ from_to 10050 10850
unfolding int_wrap
recorded_span_ends = refl

recorded_span_late : verdict (recorded_span 3000) 800 128 ≡ No 0 (on_at 0 3000) 3200
unfolding int_wrap
recorded_span_late = refl

abbrev recorded_two : Statement
recorded_two = recorded_p (ttl0_on ∷ delay_mu 50 ∷ ttl0_off ∷ [])

-- a recording that was saved is played where the cursor is
recorded_and_played : verdict (recorded_two ∷ at_mu 1600 ∷ with_p (codes "playback") ∷ []) 800 128 ≡ No 0 (on_at 0 1600) 1600
unfolding int_wrap
recorded_and_played = refl

-- one that was erased and saved again is at hand
saved_again : verdict (recorded_two ∷ with_p (codes "erase") ∷ recorded_two ∷ at_mu 1600 ∷ with_p (codes "playback") ∷ []) 0 128 ≡ Yes 2
unfolding int_wrap
saved_again = refl

-- a handler goes on with the same bounds, and an exception that nothing takes ends the kernel
handled : verdict (at_mu 1000 ∷ try_do (lines (assign a (binary Divide (integer 1) (integer 0)) ∷ [])) (except_one (codes "ZeroDivisionError") (ttl0_on ∷ [])) ∷ []) 0 128 ≡ Yes 1
unfolding int_wrap
handled = refl

raised : verdict (at_mu 1000 ∷ ttl0_on ∷ assign a (binary Divide (integer 1) (integer 0)) ∷ ttl0_on ∷ []) 0 128 ≡ Yes 1
unfolding int_wrap
raised = refl

-- a kernel without units left ends, in time so far
no_units : verdict_of (ended (main_of (at_mu 1000 ∷ ttl0_on ∷ ttl0_off ∷ at_mu 0 ∷ ttl0_on ∷ [])) 2 0 128) ≡ Yes 2
unfolding int_wrap
no_units = refl

-- a span that is dropped isn't used
dropped : verdict (reset ∷ reset ∷ evaluate now ∷ []) 800 128 ≡ Yes 0
dropped = refl

-- what can't be told without a core
reading_open : verdict (evaluate counter_now ∷ []) 0 128 ≡ Open 0 K.Reading
reading_open = refl

edge_open : verdict (at_mu 1000 ∷ assign a (method (codes "in0") (codes "gate_rising_mu") (value_then (integer 100) no_more)) ∷ method_one (codes "in0") (codes "timestamp_mu") (variable a) ∷ []) 0 128 ≡ Open 2 K.Edge
unfolding int_wrap
edge_open = refl

handle_open : verdict (recorded_two ∷ with_p (codes "get_handle") ∷ []) 0 128 ≡ Open 1 K.Handle
unfolding int_wrap
handle_open = refl

-- a recording that the kernel didn't save, or erased since
not_saved : verdict (with_p (codes "erase") ∷ []) 0 128 ≡ Open 0 K.Kept
not_saved = refl

erased_since : verdict (recorded_two ∷ with_p (codes "erase") ∷ with_p (codes "playback") ∷ []) 0 128 ≡ Open 2 K.Kept
unfolding int_wrap
erased_since = refl

-- the state of a kernel that saved 1,000 names, of which `q` is one: it may save `q` again, and no further name
abbrev full : State
full = record (opening 100 0 128) { saved = replicate 1000 (codes "q", None) }

abbrev after_full : Bytes → Verdict
after_full name =
    verdict_of
    (statement (record { program = []; names = [] }) (function_call [] call_room) (record_as name (lines (ttl0_on ∷ []))) full)

known_name : after_full (codes "q") ≡ Yes 0
known_name = refl

one_name_more : after_full (codes "p") ≡ Open 0 K.Names
one_name_more = refl

-- a number may be taken from a span, but no span from anything; nor is a span compared, multiplied, widened, stored in a
-- dataset, a bound of a loop or the moment of a wait
span_less_span : verdict (reset ∷ reset ∷ assign a (binary Subtract now (integer 4)) ∷ assign a (binary Subtract now (variable a)) ∷ []) 8 128 ≡ Open 2 K.Span
span_less_span = refl

span_compared : verdict (reset ∷ reset ∷ if_then (compare Less now (integer 4)) (lines (pass ∷ [])) no_else ∷ []) 8 128 ≡ Open 2 K.Span
span_compared = refl

span_multiplied : verdict (reset ∷ reset ∷ assign a (binary Multiply now (integer 1)) ∷ []) 8 128 ≡ Open 2 K.Span
span_multiplied = refl

span_in_a_dataset : verdict (reset ∷ reset ∷ assign_list a (integer 0 ∷ now ∷ []) ∷ set_d (variable a) ∷ []) 8 128 ≡ Open 2 K.Span
span_in_a_dataset = refl

span_widened : verdict (reset ∷ reset ∷ assign a (call_of (codes "int64") now) ∷ []) 8 128 ≡ Open 2 K.Span
span_widened = refl

span_as_bound : verdict (reset ∷ reset ∷ for_range a None now (lines (pass ∷ [])) ∷ []) 8 128 ≡ Open 2 K.Span
span_as_bound = refl

span_awaited : verdict (reset ∷ reset ∷ method_one (codes "core") (codes "wait_until_mu") now ∷ []) 8 128 ≡ Open 2 K.Span
span_awaited = refl

-- it is used before the request's unit is asked for: here none is left
used_before_the_unit : verdict_of (ended (main_of (reset ∷ reset ∷ set_d now ∷ [])) 2 8 128) ≡ Open 2 K.Span
used_before_the_unit = refl

-- at cost 0 there is none
no_span : verdict (reset ∷ reset ∷ assign a (binary Multiply now (integer 1)) ∷ set_d (variable a) ∷ []) 0 128 ≡ Yes 0
unfolding int_wrap
no_span = refl

-- the limit may not reach too far for a reading: the lead over it is 2^62 at most
as_far_as_may_be : verdict (wait_until 4611686018427262904 ∷ reset ∷ []) 0 128 ≡ Yes 0
as_far_as_may_be = refl

too_far : verdict (wait_until 4611686018427262905 ∷ reset ∷ []) 0 128 ≡ Open 1 K.Far
too_far = refl

-- nor may an end of a span
span_as_far : verdict (reset ∷ reset ∷ delay_mu 4611686018427262104 ∷ []) 800 128 ≡ Yes 0
span_as_far = refl

span_too_far : verdict (reset ∷ reset ∷ delay_mu 4611686018427262105 ∷ []) 800 128 ≡ Open 2 K.Far
span_too_far = refl

-- nor the stamp of an output that is played, which comes before its unit: the fifth unit is the fetch's, and none is left
abbrev played_too_far : List Statement
played_too_far = reset ∷ reset ∷ recorded_p (delay_mu 4611686018427387904 ∷ ttl0_on ∷ []) ∷ with_p (codes "playback") ∷ []

not_fetched : verdict_of (ended (main_of played_too_far) 4 8 128) ≡ Yes 0
unfolding int_wrap
not_fetched = refl

far_before_the_unit : verdict_of (ended (main_of played_too_far) 5 8 128) ≡ Open 4 K.Far
unfolding int_wrap
far_before_the_unit = refl

-- a kernel that catches up with the counter: it may have to move the cursor, or not
abbrev catching_up : List Statement
catching_up =
    reset
    ∷ delay_mu 1000
    ∷ parallel
    (lines (pulse_one (codes "ttl0") 100 ∷ sequential (lines (delay_mu 40 ∷ pulse_one (codes "ttl1") 200 ∷ [])) ∷ []))
    ∷ break_realtime
    ∷ ttl0_on
    ∷ []

catching_up_ends : cursor_after catching_up 800 ≡ from_to 126240 129000
unfolding int_wrap
catching_up_ends = refl

catching_up_in_time : verdict catching_up 800 128 ≡ Yes 5
unfolding int_wrap
catching_up_in_time = refl

-- the greatest cost at which it is in time
at_most_so_dear : verdict catching_up 21039 128 ≡ Yes 5
unfolding int_wrap
at_most_so_dear = refl

too_dear : verdict catching_up 21040 128 ≡ No 4 (on_at 0 126240) 126240
unfolding int_wrap
too_dear = refl

-- its cursor as a dataset, which wants a number
abbrev cursor_told : List Statement
cursor_told = catching_up ++ set_d now ∷ []

cursor_not_known : verdict cursor_told 800 128 ≡ Open 7 K.Span
unfolding int_wrap
cursor_not_known = refl

cursor_known : verdict cursor_told 0 128 ≡ Yes 5
unfolding int_wrap
cursor_known = refl

-- a no that no run meets: after the wait no event is held, so the second output doesn't wait
abbrev needless : List Statement
needless = at_mu 1000 ∷ ttl0_on ∷ wait_until 2000 ∷ at_mu 3000 ∷ ttl0_off ∷ at_mu 2900 ∷ ttl0_on ∷ []

needless_no : verdict needless 0 1 ≡ No 2 (on_at 0 2900) 2992
unfolding int_wrap
needless_no = refl

needless_yes : verdict needless 0 128 ≡ Yes 3
unfolding int_wrap
needless_yes = refl
