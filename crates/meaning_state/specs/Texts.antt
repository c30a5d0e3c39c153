-- Which methods take a text, and what those without a value do.
use Rattle.std.specs.Prelude.{List, ℤ, pos, Bool, true, false, ⊤}
use Rattle.rtio_types.specs.declared.request.Request.TheVariants as Q
use Rattle.rtio_types.specs.Integers.{low_bits}
use Rattle.kern_syntax.specs.Tree.{Bytes}
use Rattle.kern_calls.specs.declared.calls.Operation.{Operation}
use Rattle.kern_calls.specs.declared.calls.Operation.TheVariants as P
use Rattle.timeline_sem.specs.Actions.{Action, skip}
use Rattle.timeline_sem.specs.Timeline.{first_of_list, second_of_list, output, pulse_for}
use Rattle.timeline_sem.specs.Timeline.{move_to_real_time, reset_core, tell, play}

-- a text is among what a method takes
abbrev pub operation_takes_text : Operation → Bool
operation_takes_text P.Playback = true
operation_takes_text P.GetHandle = true
operation_takes_text P.Erase = true
operation_takes_text _ = false

-- a method gives a number of its own
abbrev pub has_value : Operation → Bool
has_value (P.GateRising c) = true
has_value (P.GateFalling c) = true
has_value (P.GateBoth c) = true
has_value (P.Timestamp c) = true
has_value (P.Count c) = true
has_value P.Counter = true
has_value P.GetHandle = true
has_value _ = false

-- what a method without a value does with its numbers and its text
abbrev pub act : Operation → List ℤ → Bytes → Action ⊤
act (P.On c) numbers text = output c 0 (pos 1)
act (P.Off c) numbers text = output c 0 (pos 0)
act (P.Pulse c) numbers text = pulse_for c (first_of_list numbers)
act (P.Write c) numbers text = output c (low_bits 8 (first_of_list numbers)) (second_of_list numbers)
act P.BreakRealtime numbers text = move_to_real_time
act P.Reset numbers text = reset_core
act P.WaitUntil numbers text = tell (Q.Wait (first_of_list numbers))
act P.Playback numbers text = play (Q.Fetch text)
act P.PlaybackHandle numbers text = play (Q.FetchHandle (first_of_list numbers))
act P.Erase numbers text = tell (Q.Erase text)
act _ numbers text = skip
