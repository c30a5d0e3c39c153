-- What methods without a value do.
use Rattle.std.specs.Prelude.{List, pos, ⊤}
use Rattle.kern_syntax.specs.Tree.{Bytes}
use Rattle.kern_calls.specs.declared.calls.Operation.{Operation}
use Rattle.kern_calls.specs.declared.calls.Operation.TheVariants as P
use Rattle.slack_meaning.specs.declared.span.Span.{Span}
use Rattle.slack_meaning.specs.Actions.{Action, skip, take_unit, ◌>>◌}
use Rattle.slack_meaning.specs.Answers.{erase}
use Rattle.slack_meaning.specs.Timeline.{first_of_list, second_of_list, output, pulse_for, write_raw}
use Rattle.slack_meaning.specs.Timeline.{move_to_real_time, reset_core, wait_until, play, play_handle}

-- a recording is erased
abbrev pub forget : Bytes → Action ⊤
forget text = take_unit >> erase text

-- what a method without a value does with its values and its text
abbrev pub act : Operation → List Span → Bytes → Action ⊤
act (P.On c) spans text = output c 0 (pos 1)
act (P.Off c) spans text = output c 0 (pos 0)
act (P.Pulse c) spans text = pulse_for c (first_of_list spans)
act (P.Write c) spans text = write_raw c (first_of_list spans) (second_of_list spans)
act P.BreakRealtime spans text = move_to_real_time
act P.Reset spans text = reset_core
act P.WaitUntil spans text = wait_until (first_of_list spans)
act P.Playback spans text = play text
act P.PlaybackHandle spans text = play_handle (first_of_list spans)
act P.Erase spans text = forget text
act _ spans text = skip
