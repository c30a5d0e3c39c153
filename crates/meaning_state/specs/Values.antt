-- The values of the names, as the program keeps them.
use Rattle.rtio_types.specs.declared.request.Value.{Value}
use Rattle.rtio_types.specs.declared.request.Value.TheVariants as W
use Rattle.meaning_state.specs.declared.values.Held.{Held}
use Rattle.meaning_state.specs.declared.values.Held.TheVariants as H

-- what a name holds, as a value
abbrev pub value_held : Held → Value
value_held (H.Number n) = W.Int n
value_held (H.Array numbers) = W.List numbers.items
