-- The places of functions by their names.
use Rattle.std.specs.Prelude.{ℕ, suc, List, [], ◌∷◌, ◌++◌, if◌then◌else◌, is_some}
use Rattle.kern_syntax.specs.declared.program.Function.{Function}
use Rattle.kern_syntax.specs.Tree.{Bytes}
use Rattle.kern_calls.specs.Calls.{look_up}

-- the names of functions with their places, from a number on
abbrev pub numbered : ℕ → List Function → List (Bytes × ℕ)
numbered first [] = []
numbered first (f ∷ rest) = (f.name, first) ∷ numbered (suc first) rest

-- the places after one more function, whose name may be that of an earlier one
abbrev pub with_number : List (Bytes × ℕ) → Bytes → ℕ → List (Bytes × ℕ)
with_number numbers name number =
    if is_some (look_up numbers name) then numbers else numbers ++ (name, number) ∷ []
