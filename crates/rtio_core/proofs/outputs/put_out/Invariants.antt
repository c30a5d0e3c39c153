use Rattle.std.proofs.Common.{◌≡◌, ◌+◌, ◌++◌, map, take, vec_len, vec_capacity}
use Rattle.rtio_core.proofs.outputs.put_out.Given as goal

abbrev pub invariant-loop-i : goal.invariant-loop-i
invariant-loop-i l =
    (l.into.items ≡ l.initial.into.items ++ map (λ p. p.1) (take l.i l.from.items))
    × (vec_len l.into ≡ vec_len l.initial.into + l.i)
    × (vec_capacity l.into ≡ vec_capacity l.initial.into)
