-- A ring of the kit, as the list of what it holds.
use Rattle.std.proofs.Common.{◌≡◌, ℕ, ◌-◌, ◌<◌, ℤ, List, [], ◌∷◌, ◌++◌, length, drop, ap, length-append, arith}
use Rattle.circular_buffer.specs.Buffer.{keep_last}

-- with room for one more, none is given up
pub pushed : (capacity : ℕ) (items : List ℤ) (item : ℤ) → length items < capacity → keep_last capacity (items ++ item ∷ []) ≡ items ++ item ∷ []
pushed capacity items item room =
    let none : length (items ++ item ∷ []) - capacity ≡ 0 = omega (arith, length-append items (item ∷ [])) in
    ap (λ n. drop n (items ++ item ∷ [])) none
