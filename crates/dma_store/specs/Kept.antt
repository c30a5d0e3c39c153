-- Recordings kept by name, in the order of first saving.
use Rattle.std.specs.Prelude.{ℕ, ◌+◌, ◌*◌, ◌%◌, ◌^◌, Bool, not, ◌&&◌, ◌||◌, List, [], ◌∷◌, ◌++◌}
use Rattle.std.specs.Prelude.{length, filter, find, position, slice_get, map, bytes_eq, nat_le}
use Rattle.std.specs.Prelude.{ℤ, pos, if◌then◌else◌, Option, None, option_map, unsigned_abs}
use Rattle.std.specs.List.{list_any}
use Rattle.std.specs.Int.{int_div_euclid, int_rem_euclid}
use Rattle.std.specs.Ordering.{int_eq}
use Rattle.rtio_types.specs.Recordings.{Recorded}
pub use Rattle.recording_bytes.specs.Playable.{is_playable}

-- the names with their recordings in order, and how many saves and erases succeeded, modulo 2^50
pub record KeptState : Type 0 where
  pub entries : List (List ℕ × Recorded)
  pub epoch : ℕ

-- nothing is kept yet
abbrev pub no_recordings : KeptState
no_recordings = record { entries = []; epoch = 0 }

-- what a core begins with: the recordings that it was handed in
abbrev pub kept_first : List (List ℕ × Recorded) → KeptState
kept_first entries = record { entries = entries; epoch = 0 }

-- the entry is that of the name
abbrev pub is_named : List ℕ → List ℕ × Recorded → Bool
is_named name entry = bytes_eq name entry.0

-- the name is kept
abbrev pub is_kept : KeptState → List ℕ → Bool
is_kept kept name = list_any (is_named name) kept.entries

-- 4,096 names are kept, and this one is new
abbrev pub is_full_for : KeptState → List ℕ → Bool
is_full_for kept name = nat_le 4096 (length kept.entries) && not (is_kept kept name)

abbrev pub next_epoch : ℕ → ℕ
next_epoch epoch = (epoch + 1) % 2 ^ 50

-- an entry after its name's recording was saved
abbrev pub resaved : List ℕ → Recorded → List ℕ × Recorded → List ℕ × Recorded
resaved name recording entry = if is_named name entry then (name, recording) else entry

-- what a save leaves: a name that is kept keeps its place, and a new one stands at the end
abbrev pub saved : KeptState → List ℕ → Recorded → KeptState
saved kept name recording =
    record {
      entries =
          if is_kept kept name
          then map (resaved name recording) kept.entries
          else kept.entries ++ (name, recording) ∷ [];
      epoch = next_epoch kept.epoch;
    }

-- what stands when a recording was handed in: it goes last, and the epoch stays
abbrev pub handed_in : KeptState → List ℕ → Recorded → KeptState
handed_in kept name recording = record kept { entries = kept.entries ++ (name, recording) ∷ [] }

-- the name at a position
abbrev pub name_at : KeptState → ℕ → Option (List ℕ)
name_at kept position = option_map (λ entry. entry.0) (slice_get kept.entries position)

-- what an erase leaves: the entries of the other names
abbrev pub erased : KeptState → List ℕ → KeptState
erased kept name =
    record {
      entries = filter (λ entry. not (is_named name entry)) kept.entries;
      epoch = next_epoch kept.epoch;
    }

-- the recording of a name
abbrev pub recording_named : KeptState → List ℕ → Option Recorded
recording_named kept name = option_map (λ entry. entry.1) (find (is_named name) kept.entries)

-- the handle of a name: 4,096 times the epoch, and the name's position
abbrev pub handle_of : KeptState → List ℕ → Option ℤ
handle_of kept name = option_map (λ at. pos (kept.epoch * 4096 + at)) (position (is_named name) kept.entries)

-- the position in a handle
abbrev pub position_in : ℤ → ℕ
position_in handle = unsigned_abs (int_rem_euclid handle (pos 4096))

-- its quotient by 4,096, rounded down, isn't the epoch, or the rest isn't a position
abbrev pub is_old : KeptState → ℤ → Bool
is_old kept handle =
    not (int_eq (int_div_euclid handle (pos 4096)) (pos kept.epoch)) || nat_le (length kept.entries) (position_in handle)

-- the recording of a handle that isn't old
abbrev pub recording_handled : KeptState → ℤ → Option Recorded
recording_handled kept handle =
    if is_old kept handle
    then None
    else option_map (λ entry. entry.1) (slice_get kept.entries (position_in handle))
