-- Machine units (mu), and coarse cycles of them.
use Rattle.std.specs.Prelude.{ℕ, ◌+◌, ◌-◌, ◌*◌, ◌/◌, ℤ, pos, negsuc, ◌+ℤ◌}
use Rattle.std.specs.Int.{int_wrap, w64}
use Rattle.rtio_types.specs.declared.event.Event.{Event}
use Rattle.rtio_types.specs.Integers.{floor_quotient}

-- how many machine units a coarse cycle has
abbrev pub mu_per_cycle : ℕ
mu_per_cycle = 8

-- the coarse cycle of a stamp: its quotient by a cycle's units, rounded down
abbrev pub coarse_of : ℤ → ℤ
coarse_of stamp = floor_quotient stamp (pos mu_per_cycle)

-- a number as it is, and 0 for a negative one
abbrev pub at_least_zero : ℤ → ℕ
at_least_zero (pos n) = n
at_least_zero (negsuc n) = 0

-- the coarse cycle in which a stamp is met; one before cycle 0 counts as 0, since no counter is below it
abbrev pub cycle_of_stamp : ℤ → ℕ
cycle_of_stamp stamp = at_least_zero (coarse_of stamp)

-- that of an event
abbrev pub cycle_of : Event → ℕ
cycle_of event = cycle_of_stamp event.stamp

-- how many whole cycles a time has
abbrev pub whole_cycles : ℕ → ℕ
whole_cycles time = time / mu_per_cycle

-- what a counter of cycles reads in machine units
abbrev pub reading : ℕ → ℕ
reading counter = mu_per_cycle * counter

-- the least counter whose reading is at least a moment
abbrev pub counter_reaching : ℤ → ℕ
counter_reaching moment = (at_least_zero moment + (mu_per_cycle - 1)) / mu_per_cycle

-- a moment moved on by a time, wrapping at 64 bits
abbrev pub later : ℤ → ℤ → ℤ
later moment time = int_wrap w64 (moment +ℤ time)

-- an event with its stamp moved on by a time
abbrev pub shifted : Event → ℤ → Event
shifted event time = record event { stamp = later event.stamp time }
