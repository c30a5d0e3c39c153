use Rattle.std.proofs.Common.{◌≡◌, ◌++◌, drop, map}
use Rattle.core_code_names.proofs.texts.Texts.names.Given as goal

abbrev pub invariant-loop-text : goal.invariant-loop-text
invariant-loop-text l =
    l.names.items ++ map (λ key. key.items) (drop l.text-index l.text-items) ≡ map (λ key. key.items) l.text-items
