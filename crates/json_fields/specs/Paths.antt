-- How paths are written.
use Rattle.std.specs.Prelude.{ℕ, List, [], ◌∷◌, ◌++◌, decimal, codes}
use Rattle.json_fields.specs.declared.path.Part.{Part}
use Rattle.json_fields.specs.declared.path.Part.TheVariants as P

-- a step of a path that stands behind others
abbrev pub step_text : Part → List ℕ
step_text (P.Key key) = codes "." ++ key
step_text (P.Place place) = codes "[" ++ decimal place ++ codes "]"

-- the first step of a path
abbrev pub first_text : Part → List ℕ
first_text (P.Key key) = key
first_text (P.Place place) = codes "[" ++ decimal place ++ codes "]"

abbrev pub steps_text : List Part → List ℕ
steps_text [] = []
steps_text (part ∷ parts) = step_text part ++ steps_text parts

-- a path from the root on, which has a name of its own
abbrev pub path_text : List ℕ → List Part → List ℕ
path_text root [] = root
path_text root (part ∷ parts) = first_text part ++ steps_text parts
