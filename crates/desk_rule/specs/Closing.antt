-- What the value says at the end, where the records of all chairs are at hand.
use Rattle.std.specs.Prelude.{◌≡◌, ℕ, ◌<◌, ◌≤◌, List, [], Some}
use mathlib.Core.List.{IsPrefix}
use Rattle.desk_rule.specs.declared.view.Record.{Record}
use Rattle.desk_rule.specs.Histories.{acts_of, Each}
use Rattle.desk_rule.specs.Records.{wins}

module _ {T A F : Type 0} (history : T → List (ℕ × A)) (fixed : T → F) (chairs : ℕ) (opened : F) where
  -- The fixed part is the opened one. The history begins with all that was seen, and has just the acts of each chair,
  -- and of no other. Each number that a lost try read is that of a chair that has taken
  pub record Closes (rs : List (Record A)) (x : T) : Type 0 where
    pub stays : fixed x ≡ opened
    pub seen : Each (λ r. IsPrefix r.seen (history x)) rs
    pub own : Each (λ r. (k : ℕ) → r.number ≡ Some k → acts_of k (history x) ≡ r.own) rs
    pub others : (k : ℕ) → chairs ≤ k → acts_of k (history x) ≡ []
    pub lost : Each (λ r. Each (λ n. 0 < wins n rs) r.lost) rs
