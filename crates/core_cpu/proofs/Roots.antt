-- The last frame.
use Rattle.std.proofs.Common.{◌≡◌, ℕ, suc, zero, ◌+◌, ◌-◌, ◌≤◌, List, [], ◌∷◌, length, drop, Some, ap, arith}
use Rattle.std.specs.Prelude.{ℤ, slice_get}
use Rattle.core_cpu.specs.Layout.{frames_of}
use Rattle.core_cpu.specs.Roots.{last_place, root_of}
use Rattle.core_cpu.specs.declared.layout.Activation.{Activation}
use Rattle.core_cpu.specs.declared.layout.Handler.{Handler}

inside : (a b : Activation) → Some a ≡ Some b → a.place ≡ b.place
inside a b same = cc

-- that of the last activation
at_last : (place : ℕ) (frames : List Activation) (slots operands : List ℤ) (handlers : List Handler) (i : ℕ) (last : Activation)
    → length frames ≡ i + 1
    → slice_get frames i ≡ Some last
    → last_place place (frames_of frames slots operands handlers) ≡ last.place
at_last place [] slots operands handlers i last long is = absurd (omega (arith, long))
at_last place (a ∷ []) slots operands handlers zero last long is = inside a last is
at_last place (a ∷ []) slots operands handlers (suc i) last long is = absurd (omega (arith, long))
at_last place (a ∷ b ∷ rest) slots operands handlers zero last long is = absurd (omega (arith, long))
at_last place (a ∷ b ∷ rest) slots operands handlers (suc i) last long is =
    at_last a.place (b ∷ rest) (drop a.function.slots slots) (drop a.height operands) (drop a.tries handlers) i last (omega (arith, long)) is

pub root_below : (frames : List Activation) (slots operands : List ℤ) (handlers : List Handler) (last : Activation)
    → 1 ≤ length frames
    → slice_get frames (length frames - 1) ≡ Some last
    → root_of (frames_of frames slots operands handlers) ≡ Some last.place
root_below [] slots operands handlers last some is = absurd (omega (arith, some))
root_below (a ∷ rest) slots operands handlers last some is =
    ap Some (at_last 0 (a ∷ rest) slots operands handlers (length (a ∷ rest) - 1) last (omega (arith, some)) is)
