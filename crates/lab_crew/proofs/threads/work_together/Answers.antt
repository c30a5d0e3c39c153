use Rattle.std.proofs.Common.{length, sym, ap, ◌∙◌, subst}
use Rattle.std.specs.List.{AllZip}
use Rattle.std.proofs.lemmas.List.{take_at}
use Rattle.lab_crew.specs.Crews.{HasWorked}
use Rattle.lab_crew.proofs.Ended.{zip-by-place}
use Rattle.lab_crew.proofs.threads.work_together.Goals as goal

pub returns : goal.returns
returns g c =
    let was = c.as_mut_slice.ensures.value in
    let len = c.work_in_threads.auto.crew in
    let whole = take_at c.work_in_threads.new.crew _ c.args.crew.len (len ∙ (ap length was ∙ sym c.args.crew.ok.0)) in
    subst (λ news. AllZip (HasWorked c.args.desks.now) c.args.crew.items news) (sym whole)
    (subst (λ olds. AllZip (HasWorked c.args.desks.now) olds c.work_in_threads.new.crew) was
    (zip-by-place (HasWorked c.args.desks.now) c.as_mut_slice.result.now c.work_in_threads.new.crew len c.work_in_threads.ensures))
