-- That no number is lost.
use Rattle.std.specs.Prelude.{◌≡◌, ℕ, ◌<◌, ◌*◌, List, length}
use Rattle.std.specs.List.{range_with_len}
use Rattle.desk_rule.specs.Histories.{acts_of}

-- each chair below this number has put the numbers from 0 on, so many of them and in order, and no others are there
pub record HasAll (chairs puts : ℕ) (history : List (ℕ × ℕ)) : Type 0 where
  pub count : length history ≡ chairs * puts
  pub each : (k : ℕ) → k < chairs → acts_of k history ≡ range_with_len 0 puts
