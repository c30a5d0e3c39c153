-- Rows that were worked out by hand, computed from the definitions.
use Rattle.std.proofs.Common.{◌≡◌, ◌*◌, ◌+◌, [], ◌∷◌, Some, true, pos, negsuc, refl}
use Rattle.std.specs.Prelude.{codes}
use Rattle.rtio_types.specs.Recordings.{Recorded}
use Rattle.dma_store.specs.Kept.{KeptState, kept_first, no_recordings, saved, handed_in, erased, handle_of, is_old, name_at, recording_handled}

-- a pulse of 50 mu on channel 0, in a block of 80 mu
pulse : Recorded
pulse =
    record {
      events =
          record { channel = 0; address = 0; value = 1; stamp = pos 0 } ∷ record { channel = 0; address = 0; value = 0; stamp = pos 50 } ∷ [];
      length = pos 80;
    }

-- a block of nothing that moves the cursor back by 1 mu
back : Recorded
back = record { events = []; length = negsuc 0 }

-- three names, and the second saved again
three : KeptState
three = saved (saved (saved (saved no_recordings (codes "a") pulse) (codes "b") pulse) (codes "c") back) (codes "b") back

a_saved_name_keeps_its_place : handle_of three (codes "b") ≡ Some (pos (4 * 4096 + 1))
unfolding three
a_saved_name_keeps_its_place = refl

an_erased_name_closes_up : handle_of (erased three (codes "a")) (codes "c") ≡ Some (pos (5 * 4096 + 1))
unfolding three
an_erased_name_closes_up = refl

the_last_save_is_kept : recording_handled three (pos (4 * 4096 + 1)) ≡ Some back
unfolding three
the_last_save_is_kept = refl

a_place_too_far : is_old three (pos (4 * 4096 + 3)) ≡ true
unfolding three
a_place_too_far = refl

an_earlier_epoch : is_old three (pos (3 * 4096 + 1)) ≡ true
unfolding three
an_earlier_epoch = refl

a_negative_handle : is_old three (negsuc 0) ≡ true
unfolding three
a_negative_handle = refl

-- b and a, handed in, and then b saved
begun : KeptState
begun = saved (handed_in (handed_in no_recordings (codes "b") pulse) (codes "a") back) (codes "b") back

handed_in_first : handed_in (handed_in no_recordings (codes "b") pulse) (codes "a") back ≡ kept_first ((codes "b", pulse) ∷ (codes "a", back) ∷ [])
unfolding pulse back
handed_in_first = refl

a_name_that_was_handed_in_keeps_its_place : name_at begun 0 ≡ Some (codes "b")
unfolding begun
a_name_that_was_handed_in_keeps_its_place = refl

one_save_is_one_epoch : handle_of begun (codes "a") ≡ Some (pos (1 * 4096 + 1))
unfolding begun
one_save_is_one_epoch = refl
