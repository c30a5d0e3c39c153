-- How a history ends.
use Rattle.std.specs.Prelude.{◌≡◌, ◌-◌, ℤ, List, length, slice_get, Option, Some, None}
use Rattle.std.specs.Option.{option_and_then}
use Rattle.rtio_types.specs.declared.outcome.Outcome.{Outcome}
use Rattle.rtio_core.specs.declared.data.Act.{Act}
use Rattle.rtio_core.specs.declared.data.Act.TheVariants.{End}
use Rattle.rtio_core.specs.declared.data.Entry.{Entry}

-- the outcome and the cursor of an end
abbrev pub end_in : Act → Option (Outcome × ℤ)
end_in (End outcome cursor at) = Some (outcome, cursor)
end_in act = None

-- those of the last entry, if that is an end
abbrev pub end_of : List Entry → Option (Outcome × ℤ)
end_of history = option_and_then (λ (entry : Entry). end_in entry.act) (slice_get history (length history - 1))

-- the last entry is an end with this outcome and cursor
abbrev pub EndsWith : List Entry → Outcome → ℤ → Type 0
EndsWith history how cursor = end_of history ≡ Some (how, cursor)

-- the last entry is an end
abbrev pub HasEnded : List Entry → Type 0
HasEnded history = (how : Outcome) × (cursor : ℤ) × EndsWith history how cursor
