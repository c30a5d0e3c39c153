-- Where a name stands among those that were saved.
use Rattle.std.specs.Prelude.{◌≡◌, ℕ, ◌<◌, List, length, get_or, set, Option, Some, None, false}
use Rattle.kern_syntax.specs.Tree.{Bytes}
use Rattle.slack_meaning.specs.Actions.{SpanRecording}
use Rattle.slack_meaning.specs.Answers.{is_known, with_recording}

-- with another recording the names are the same but for that place; where it has none it wasn't saved
abbrev pub IsPlaceOf : Bytes → List (Bytes × Option SpanRecording) → Option ℕ → Type 0
IsPlaceOf name saved (Some place) =
    (place < length saved)
    × ((new : Option SpanRecording) (entry : Bytes × Option SpanRecording) → entry ≡ get_or saved place entry →
    with_recording saved name new ≡ set saved place (entry.0, new))
IsPlaceOf name saved None = is_known saved name ≡ false
