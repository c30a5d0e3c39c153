-- Rows that were worked out by hand, computed from the definitions.
use Rattle.std.proofs.Common.{◌≡◌, ℕ, List, [], ◌∷◌, ◌++◌, take, None, Some, pos, negsuc, refl}
use Rattle.std.specs.Prelude.{slice_set}
use Rattle.rtio_types.specs.Recordings.{Recorded}
use Rattle.recording_bytes.specs.declared.format.Format.TheVariants.{Fixed, Short}
use Rattle.recording_bytes.specs.Spelling.{spelling}
use Rattle.recording_bytes.specs.Reading.{recording_read}
use Rattle.recording_bytes.specs.Fields.{first_wrong}

-- a pulse of 50 mu on channel 0, in a block of 80 mu
pulse : Recorded
pulse =
    record {
      events =
          record { channel = 0; address = 0; value = 1; stamp = pos 0 } ∷ record { channel = 0; address = 0; value = 0; stamp = pos 50 } ∷ [];
      length = pos 80;
    }

-- a sensitivity, and then 300 at raw1, 260 mu before it, in a block that moves the cursor back by 1 mu
back : Recorded
back =
    record {
      events =
          record { channel = 24; address = 2; value = 3; stamp = pos 0 } ∷ record { channel = 17; address = 9; value = 300; stamp = negsuc 259 } ∷ [];
      length = negsuc 0;
    }

pulse_bytes : List ℕ
pulse_bytes = 2 ∷ 2 ∷ 0 ∷ 0 ∷ 0 ∷ 80 ∷ 0 ∷ 0 ∷ 0 ∷ 0 ∷ 0 ∷ 0 ∷ 0 ∷ 0 ∷ 0 ∷ 1 ∷ 1 ∷ 0 ∷ 0 ∷ 16 ∷ 100 ∷ []

old_bytes : List ℕ
old_bytes =
    1 ∷ 2 ∷ 0 ∷ 0 ∷ 0 ∷ 80 ∷ 0 ∷ 0 ∷ 0 ∷ 0 ∷ 0 ∷ 0 ∷ 0
    ∷ 0 ∷ 0 ∷ 1 ∷ 0 ∷ 0 ∷ 0 ∷ 0 ∷ 0 ∷ 0 ∷ 0 ∷ 0 ∷ 0 ∷ 0 ∷ 0
    ∷ 0 ∷ 0 ∷ 0 ∷ 0 ∷ 0 ∷ 0 ∷ 50 ∷ 0 ∷ 0 ∷ 0 ∷ 0 ∷ 0 ∷ 0 ∷ 0
    ∷ []

-- 300 is 44 + 256, and a step of -260 is folded to 519, which is 7 + 2 * 256
back_bytes : List ℕ
back_bytes =
    2 ∷ 2 ∷ 0 ∷ 0 ∷ 0 ∷ 255 ∷ 255 ∷ 255 ∷ 255 ∷ 255 ∷ 255 ∷ 255 ∷ 255 ∷ 24 ∷ 2 ∷ 1 ∷ 3 ∷ 17 ∷ 9 ∷ 34 ∷ 44 ∷ 1 ∷ 7 ∷ 2 ∷ []

the_bytes_of_a_pulse : spelling Short pulse ≡ pulse_bytes
unfolding pulse pulse_bytes
the_bytes_of_a_pulse = refl

its_bytes_of_an_earlier_day : spelling Fixed pulse ≡ old_bytes
unfolding pulse old_bytes
its_bytes_of_an_earlier_day = refl

a_step_back : spelling Short back ≡ back_bytes
unfolding back back_bytes
a_step_back = refl

a_step_back_is_read : recording_read back_bytes ≡ back
unfolding back back_bytes
a_step_back_is_read = refl

old_bytes_are_read : recording_read old_bytes ≡ pulse
unfolding pulse old_bytes
old_bytes_are_read = refl

nothing_is_wrong : first_wrong pulse_bytes ≡ None
unfolding pulse_bytes
nothing_is_wrong = refl

no_bytes : first_wrong [] ≡ Some 0
no_bytes = refl

another_format : first_wrong (slice_set pulse_bytes 0 3) ≡ Some 0
unfolding pulse_bytes
another_format = refl

five_bytes_of_data : first_wrong (slice_set pulse_bytes 15 5) ≡ Some 15
unfolding pulse_bytes
five_bytes_of_data = refl

a_spare_byte : first_wrong (slice_set pulse_bytes 16 0) ≡ Some 16
unfolding pulse_bytes
a_spare_byte = refl

a_channel_off_the_board : first_wrong (slice_set old_bytes 13 32) ≡ Some 13
unfolding old_bytes
a_channel_off_the_board = refl

the_last_field_is_cut_off : first_wrong (take 40 old_bytes) ≡ Some 33
unfolding old_bytes
the_last_field_is_cut_off = refl

a_byte_behind_the_last_field : first_wrong (pulse_bytes ++ 0 ∷ []) ≡ Some 21
unfolding pulse_bytes
a_byte_behind_the_last_field = refl
