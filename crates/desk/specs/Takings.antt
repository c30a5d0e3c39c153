-- What the takings of a chair found.
use Rattle.std.specs.Prelude.{ℕ, List, [], ◌∷◌, ◌++◌}
use Rattle.desk.specs.declared.takings.Found.{Found, Nothing, After'}

module _ {T A : Type 0} (history : T → List (ℕ × A)) where
  -- the history of each value that was found, in order
  abbrev pub histories_found : Found T → List (List (ℕ × A))
  histories_found Nothing = []
  histories_found (After' marker before found) = histories_found before ++ history found.value ∷ []
