-- Cores that have only ticked.
use Rattle.std.proofs.Common.{refl, ap, ◌∙◌, arith}
use Rattle.std.specs.Prelude.{Result, Ok, Err, OnErr}
use Rattle.rtio_core.specs.Core.{CoreState}
use Rattle.lab_kernels.specs.Decided.{IsLater}

pub on-err : {X E : Type 0} (r : Result X E) (P : Type 0) → P → OnErr r P
on-err (Ok x) P p = tt
on-err (Err e) P p = p

pub later-same : (core : CoreState) → IsLater core core
later-same core = record { is = refl; later = omega arith }

pub later-on : (old mid new : CoreState) → IsLater old mid → IsLater mid new → IsLater old new
later-on old mid new first then' =
    let one = first.later in
    let two = then'.later in
    record {
      is = then'.is ∙ ap (λ (c : CoreState). record c { counter = new.counter; waiting = new.waiting }) first.is;
      later = omega (arith, one, two);
    }
