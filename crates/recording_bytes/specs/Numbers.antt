-- Numbers in as few bytes as they need, and signed numbers as unsigned ones.
use Rattle.std.specs.Prelude.{ℕ, zero, suc, ◌+◌, ◌*◌, ◌/◌, ◌%◌, Bool, true, not}
use Rattle.std.specs.Prelude.{◌==◌, List, [], ◌∷◌, ℤ, pos, negsuc, if◌then◌else◌}
use Rattle.std.specs.Int.{int_wrapping_sub, w64}

-- the bytes of a number, low byte first, as few as it needs: none for 0, and at most so many
abbrev pub few_bytes : ℕ → ℕ → List ℕ
few_bytes zero n = []
few_bytes (suc most) zero = []
few_bytes (suc most) (suc n) = suc n % 256 ∷ few_bytes most (suc n / 256)

-- the number in some bytes, low byte first
abbrev pub number_of : List ℕ → ℕ
number_of [] = 0
number_of (b ∷ bytes) = b + 256 * number_of bytes

-- no byte is spare: the last one, if there is one, isn't 0
abbrev pub is_short : List ℕ → Bool
is_short [] = true
is_short (b ∷ []) = not (b == 0)
is_short (b ∷ c ∷ bytes) = is_short (c ∷ bytes)

-- how far a stamp is from the one before it, wrapping to a signed number of 64 bits
abbrev pub distance : ℤ → ℤ → ℤ
distance before stamp = int_wrapping_sub w64 stamp before

-- a signed number d as an unsigned one: 2 * d from 0 on, and -2 * d - 1 below
abbrev pub folded : ℤ → ℕ
folded (pos n) = 2 * n
folded (negsuc n) = 2 * n + 1

-- and back
abbrev pub unfolded : ℕ → ℤ
unfolded n = if n % 2 == 0 then pos (n / 2) else negsuc (n / 2)
