-- The words on numbers, times and names at some values, computed.
use Rattle.std.proofs.Common.{◌≡◌, Some, None, refl}
use Rattle.std.specs.Prelude.{pos, negsuc, codes}
use Rattle.std.specs.Int.{int_wrap}
use Rattle.rtio_types.specs.Integers.{floor_quotient, floor_remainder, shift_distance, low_bits}
use Rattle.rtio_types.specs.Time.{coarse_of, cycle_of, counter_reaching, later}
use Rattle.rtio_types.specs.Board.{name_of_channel, channel_of_name}

-- quotients of -7 and 7 are rounded down, and the remainder has the divisor's sign
quotient_of_negative : floor_quotient (negsuc 6) (pos 2) ≡ negsuc 3
quotient_of_negative = refl

remainder_of_negative : floor_remainder (negsuc 6) (pos 2) ≡ pos 1
remainder_of_negative = refl

quotient_by_negative : floor_quotient (pos 7) (negsuc 1) ≡ negsuc 3
quotient_by_negative = refl

remainder_by_negative : floor_remainder (pos 7) (negsuc 1) ≡ negsuc 0
remainder_by_negative = refl

quotient_of_negatives : floor_quotient (negsuc 6) (negsuc 1) ≡ pos 3
quotient_of_negatives = refl

-- a shift by -1 goes as far as one by 31
shift_by_negative : shift_distance 32 (negsuc 0) ≡ 31
shift_by_negative = refl

low_bits_of_negative : low_bits 8 (negsuc 0) ≡ 255
low_bits_of_negative = refl

coarse_of_negative : coarse_of (negsuc 8) ≡ negsuc 1
coarse_of_negative = refl

-- an event before cycle 0 counts as one of cycle 0
cycle_of_negative : cycle_of (record { channel = 0; address = 0; value = 1; stamp = negsuc 8 }) ≡ 0
cycle_of_negative = refl

counter_reaching_nine : counter_reaching (pos 9) ≡ 2
counter_reaching_nine = refl

later_wraps : later (pos 9223372036854775807) (pos 1) ≡ negsuc 9223372036854775807
unfolding int_wrap
later_wraps = refl

name_of_eleven : name_of_channel 11 ≡ codes "ttl11"
name_of_eleven = refl

channel_of_raw : channel_of_name (codes "raw7") ≡ Some 23
channel_of_raw = refl

channel_of_leading_zero : channel_of_name (codes "in00") ≡ None
channel_of_leading_zero = refl
