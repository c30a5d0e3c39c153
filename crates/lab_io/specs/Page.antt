-- A sink in memory of a fixed room that takes its bytes a piece at a time and fails at chosen calls.
use Rattle.std.specs.Prelude.{ℕ, ◌-◌, min, Bool, ◌||◌, ◌&&◌, nat_lt, nat_le, List, ◌++◌, length, take, if◌then◌else◌}
use Rattle.lab_io.specs.Causes.{raised, is_chosen}

-- what a page is seen as
pub record PageState : Type 0 where
  -- the bytes held
  pub held : List ℕ
  -- how many it holds at most
  pub room : ℕ
  -- how many a call takes at most
  pub piece : ℕ
  -- the numbers of the calls that fail
  pub fails : List ℕ
  -- how many calls were made, and how many failed
  pub calls : ℕ
  pub faults : ℕ

-- whether the page has no room left
abbrev pub is_full_page : PageState → Bool
is_full_page page = nat_le page.room (length page.held)

-- whether a write of so many bytes fails: by its number, or for want of room
abbrev pub write_fails : PageState → ℕ → Bool
write_fails page count = is_chosen page.fails page.calls || (nat_lt 0 count && is_full_page page)

-- how many of so many bytes a write takes
abbrev pub write_count : PageState → ℕ → ℕ
write_count page count = min count (min page.piece (page.room - length page.held))

-- the page after a write of the bytes
abbrev pub after_write : PageState → List ℕ → PageState
after_write page bytes =
    if write_fails page (length bytes)
    then record page { calls = raised page.calls; faults = raised page.faults }
    else record page { calls = raised page.calls; held = page.held ++ taken }
  where
    taken : List ℕ
    taken = take (write_count page (length bytes)) bytes
