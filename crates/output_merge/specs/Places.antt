-- The orders in which pairs are put into a list.
use Rattle.std.specs.Prelude.{ℕ, Bool}
use Rattle.rtio_types.specs.declared.event.Event.{Event}
use Rattle.output_merge.specs.Groups.{is_logged_before, is_put_out_before}
use Rattle.output_merge.specs.declared.place.Order.{Order}
use Rattle.output_merge.specs.declared.place.Order.TheVariants.{PutOut, Logged}

-- whether one pair stands before another
abbrev pub stands_before : Order → ℕ × Event → ℕ × Event → Bool
stands_before PutOut p q = is_put_out_before p q
stands_before Logged p q = is_logged_before p q
