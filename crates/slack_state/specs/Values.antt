-- The values of the names, as the program keeps them.
use Rattle.slack_meaning.specs.Actions as A
use Rattle.slack_state.specs.declared.values.Held.{Held}
use Rattle.slack_state.specs.declared.values.Held.TheVariants as H

-- what a name holds
abbrev pub held_of : Held → A.Held
held_of (H.Number span) = A.number span
held_of (H.Array spans) = A.list spans.items
