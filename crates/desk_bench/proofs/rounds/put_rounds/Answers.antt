use Rattle.std.proofs.Common.{length, sym, ap, ◌∙◌, subst}
use Rattle.desk.specs.Closing.{HasNumber}
use Rattle.std.proofs.lemmas.List.{take_at}
use Rattle.desk_bench.proofs.Kept.{number_kept}
use Rattle.desk_bench.proofs.rounds.put_rounds.Goals as goal

-- no number is lost
pub returns-clause-numbers : goal.returns-clause-numbers
returns-clause-numbers g c = λ k has.
    let was = c.as_mut_slice.ensures.value in
    let len = c.put_in_threads.auto.chairs in
    let whole = take_at c.put_in_threads.new.chairs _ c.args.chairs.len (len ∙ (ap length was ∙ sym c.args.chairs.ok.0)) in
    subst (λ ds. HasNumber ds k) (sym whole)
    (number_kept c.as_mut_slice.result.now c.put_in_threads.new.chairs k len c.put_in_threads.ensures (subst (λ cs. HasNumber cs k) (sym was) has))
