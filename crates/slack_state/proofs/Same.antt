-- Names that are compared byte by byte.
use Rattle.std.proofs.Common.{◌≡◌, ℕ, ◌+◌, ◌<◌, List, length, drop, drop-cons, sym, ◌∙◌, add-one, bytes_eq}
use Rattle.std.specs.Prelude.{Bool, ◌&&◌, nat_eq, slice_index}

-- the next bytes decide, or what is behind them
pub next_bytes : (xs ys : List ℕ) (i : ℕ) (same : Bool) → i < length xs → i < length ys → same ≡ nat_eq (slice_index xs i) (slice_index ys i) → bytes_eq (drop i xs) (drop i ys) ≡ (same && bytes_eq (drop (i + 1) xs) (drop (i + 1) ys))
next_bytes xs ys i same first second is =
    (λ k. bytes_eq (drop-cons xs i 0 first k) (drop-cons ys i 0 second k))
    ∙ (λ k. sym is k && bytes_eq (drop (sym (add-one i) k) xs) (drop (sym (add-one i) k) ys))
