-- The recordings that a core begins with.
use Rattle.std.specs.Prelude.{ℕ, Bool, true, not, ◌&&◌, List, [], ◌∷◌, length, map, bytes_eq, nat_le}
use Rattle.std.specs.List.{list_all, list_any}
use Rattle.limits.specs.Limits.{most_handed_in}
use Rattle.dma_store.specs.Kept.{KeptState, is_playable, kept_first}
use Rattle.rtio_core.specs.declared.named.Named.{Named}

-- a recording with this name
abbrev pub has_name : List ℕ → Named → Bool
has_name name named = bytes_eq named.name name

-- no two have one name
abbrev pub are_names_different : List Named → Bool
are_names_different [] = true
are_names_different (first ∷ rest) = not (list_any (has_name first.name) rest) && are_names_different rest

-- there are at most 64, of different names, and each can be kept
abbrev pub are_kept_ok : List Named → Bool
are_kept_ok kept = nat_le (length kept) most_handed_in && list_all (λ (n : Named). is_playable n.recording) kept && are_names_different kept

-- what is kept where they are handed in, in their order
abbrev pub kept_of : List Named → KeptState
kept_of kept = kept_first (map (λ (n : Named). (n.name, n.recording)) kept)
