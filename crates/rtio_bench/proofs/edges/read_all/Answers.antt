use Rattle.std.proofs.Common.{◌+◌, ◌∙◌, ap, sym, rules, SFits, w64}
use Rattle.std.proofs.lemmas.Int.{to_z-of_z}
use Rattle.rtio_types.specs.Time.{reading}
use Rattle.rtio_bench.specs.Reading.{cycle_of_edge}
use Rattle.rtio_bench.proofs.Passed.{passed-more, read-more}
use Rattle.rtio_bench.proofs.Sums.{stamps_more}
use Rattle.rtio_bench.proofs.edges.read_all.Goals as goal

pub loop-number-preserved : goal.loop-number-preserved
loop-number-preserved c =
    let in_range : SFits w64 c.in_ok-sum.field-0 = search rules in (
      rw (to_z-of_z w64 c.in_ok-sum.field-0 in_range, c.in_ok-sum.ensures.stamp)
          (ap (λ n. n + reading (cycle_of_edge c.loop-number.number)) c.loop-number.invariant.0 ∙ sym (stamps_more c.loop-number.number)),
      passed-more c.loop-number.number c.read_edge.new.inputs c.read_edge.ensures.passed,
      λ script outputs steps stand. read-more script outputs steps c.loop-number.number c.in_ok-sum.field-0 c.read_edge.new.inputs (c.in_ok-sum.ensures.read script outputs _ (c.loop-number.invariant.2 script outputs steps stand)),
    )
