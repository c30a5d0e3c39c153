-- A name's place among the values, and what is read and written at a place.
use Rattle.std.specs.Prelude.{ℕ, suc, List, [], ◌∷◌, Option, Some, None, pos, bytes_eq}
use Rattle.std.specs.Prelude.{slice_get, slice_set, if◌then◌else◌}
use Rattle.kern_syntax.specs.Tree.{Bytes}
use Rattle.slack_meaning.specs.Actions.{Held, number}
use Rattle.slack_meaning.specs.Spans.{exactly}

-- the place of a name, which is behind the last one where it isn't there
abbrev pub place_of : List (Bytes × Held) → Bytes → ℕ
place_of [] x = 0
place_of (entry ∷ rest) x = if bytes_eq entry.0 x then 0 else suc (place_of rest x)

-- what an entry holds, the number 0 where there is none
abbrev pub held_in : Option (Bytes × Held) → Held
held_in None = number (exactly (pos 0))
held_in (Some entry) = entry.1

-- what a place holds
abbrev pub held_at : List (Bytes × Held) → ℕ → Held
held_at values place = held_in (slice_get values place)

-- the values after the entry of a place, if there is one, is given something new
abbrev pub with_entry : List (Bytes × Held) → ℕ → Option (Bytes × Held) → Held → List (Bytes × Held)
with_entry values place None new = values
with_entry values place (Some entry) new = slice_set values place (entry.0, new)

-- the values after a place is given something new
abbrev pub with_held_at : List (Bytes × Held) → ℕ → Held → List (Bytes × Held)
with_held_at values place new = with_entry values place (slice_get values place) new
