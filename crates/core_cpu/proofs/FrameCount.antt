-- How many frames there are.
use Rattle.std.proofs.Common.{◌≡◌, suc, List, [], ◌∷◌, length, drop, refl, ap}
use Rattle.std.specs.Prelude.{ℤ}
use Rattle.core_cpu.specs.Layout.{frames_of}
use Rattle.core_cpu.specs.declared.layout.Activation.{Activation}
use Rattle.core_cpu.specs.declared.layout.Handler.{Handler}

pub frames_count : (frames : List Activation) (slots operands : List ℤ) (handlers : List Handler)
    → length (frames_of frames slots operands handlers) ≡ length frames
frames_count [] slots operands handlers = refl
frames_count (a ∷ rest) slots operands handlers =
    ap (λ n. suc n) (frames_count rest (drop a.function.slots slots) (drop a.height operands) (drop a.tries handlers))
