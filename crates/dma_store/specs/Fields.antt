-- What the fields of a store keep to.
use Rattle.std.specs.Prelude.{ℕ, ◌<◌, ◌≤◌, ◌^◌, Bool, List, length, map, IsTrue, bytes_eq}
use Rattle.std.specs.List.{list_all, IsDistinct}
use Rattle.std.specs.Map.{keys_of}
use Rattle.rtio_types.specs.Recordings.{Recorded}
use Rattle.dma_store.specs.declared.key.Key.{Key}
use Rattle.dma_store.specs.Kept.{is_playable}

-- two names are the same
abbrev pub same_key : Key → Key → Bool
same_key a b = bytes_eq a.name b.name

-- the entries by their names
abbrev pub by_name : List (Key × Recorded) → List (List ℕ × Recorded)
by_name entries = map (λ entry. (entry.0.name, entry.1)) entries

-- the names differ, there are at most 4,096, their recordings may be kept, and the epoch is in its range
pub record IsStoreInside (entries : List (Key × Recorded)) (epoch : ℕ) : Type 0 where
  pub distinct : IsDistinct same_key (keys_of entries)
  pub few : length entries ≤ 4096
  pub playable : IsTrue (list_all (λ entry. is_playable entry.1) entries)
  pub in_range : epoch < 2 ^ 50
