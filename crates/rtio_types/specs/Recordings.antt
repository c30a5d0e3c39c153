-- What a recording holds.
use Rattle.std.specs.Prelude.{List, ℤ}
use Rattle.rtio_types.specs.declared.event.Event.{Event}

-- the recorded outputs in order, and the cursor at the block's end
pub record Recorded : Type 0 where
  pub events : List Event
  pub length : ℤ
