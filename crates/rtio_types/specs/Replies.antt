-- What a reply means to the kernel that asked.
use Rattle.std.specs.Prelude.{ℤ, pos, negsuc, Option, Some, None}
use Rattle.rtio_types.specs.declared.outcome.Exc.{Exc}
use Rattle.rtio_types.specs.declared.outcome.Exc.TheVariants.{RTIOUnderflow, RTIOOverflow, DMAError}
use Rattle.rtio_types.specs.declared.request.Reply.{Reply}
use Rattle.rtio_types.specs.declared.request.Reply.TheVariants as R

-- the exception that a reply raises
abbrev pub raised_by : Reply → Option Exc
raised_by R.Underflow = Some RTIOUnderflow
raised_by R.Overflow = Some RTIOOverflow
raised_by R.NoTrace = Some DMAError
raised_by R.OldHandle = Some DMAError
raised_by R.Full = Some DMAError
raised_by _ = None

-- the number in a reply: a reading, a stamp, a handle, and -1 for no edge
abbrev pub number_in : Reply → ℤ
number_in (R.Time reading) = reading
number_in (R.Stamp stamp) = stamp
number_in (R.Handle handle) = handle
number_in R.NoEdge = negsuc 0
number_in _ = pos 0
