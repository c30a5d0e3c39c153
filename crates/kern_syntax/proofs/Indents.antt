-- The spaces before a line, printed level by level.
use Rattle.std.proofs.Common.{ℕ, suc, zero, ◌+◌, ◌-◌, ◌<◌, ◌≤◌, ◌≡◌, [], ◌++◌, codes, refl, arith}
use Rattle.kern_syntax.specs.Print.{indent}

-- a level that is still to be printed
pub indent-more : (level i : ℕ) → i < level → indent (level - i) ≡ codes "    " ++ indent (level - (i + 1))
indent-more level i more = let next : level - i ≡ suc (level - (i + 1)) = omega arith in rw next refl

-- all levels are printed
pub indent-none : (level i : ℕ) → level ≤ i → indent (level - i) ≡ []
indent-none level i all = let none : level - i ≡ zero = omega arith in rw none refl
