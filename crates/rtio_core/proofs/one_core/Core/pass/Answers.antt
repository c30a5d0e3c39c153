use Rattle.std.proofs.Common.{◌<◌, arith}
use Rattle.std.proofs.lemmas.Bool.{ltb-true}
use Rattle.rtio_core.proofs.Leaping.{passed-beyond, passed-over}
use Rattle.rtio_core.proofs.one_core.Core.pass.Goals as goal

pub invariant_of-self : goal.invariant_of-self
invariant_of-self c =
    (passed-over c.self.inside c.args.self.now c.next_cycle.result c.unwrap_or-edge.result c.saturating_sub-cycles.result c.self.view_is c.self.invariant c.next_cycle.ensures.value c.unwrap_or-edge.ensures
    (λ more. (
      omega (arith, more, c.saturating_sub-cycles.ensures, c.min-to.ensures, c.min-2.ensures, c.goes_to-reach.ensures),
      omega (arith, more, c.saturating_sub-cycles.ensures, c.min-to.ensures, c.min-2.ensures, c.saturating_sub-quiet.ensures, c.min.ensures),
    ))).0

pub returns-clause-within : goal.returns-clause-within
returns-clause-within c =
    (passed-over c.self.inside c.args.self.now c.next_cycle.result c.unwrap_or-edge.result c.saturating_sub-cycles.result c.self.view_is c.self.invariant c.next_cycle.ensures.value c.unwrap_or-edge.ensures
    (λ more. (
      omega (arith, more, c.saturating_sub-cycles.ensures, c.min-to.ensures, c.min-2.ensures, c.goes_to-reach.ensures),
      omega (arith, more, c.saturating_sub-cycles.ensures, c.min-to.ensures, c.min-2.ensures, c.saturating_sub-quiet.ensures, c.min.ensures),
    ))).1

pub returns-clause-goes_on : goal.returns-clause-goes_on
returns-clause-goes_on c goes =
    let less : c.min-to.result < c.goes_to-reach.result = ltb-true c.min-to.result c.goes_to-reach.result goes in
    passed-beyond c.self.inside c.args.self.now c.next_cycle.result c.unwrap_or-edge.result c.saturating_sub-cycles.result c.self.view_is c.self.invariant c.next_cycle.ensures.value c.unwrap_or-edge.ensures
    (omega (arith, less, c.saturating_sub-cycles.ensures, c.min-to.ensures, c.min-2.ensures, c.saturating_add.ensures, c.if-quiet-self, c.goes_to-reach.ensures))
    (omega (arith, less, c.saturating_sub-cycles.ensures, c.min-to.ensures, c.min-2.ensures, c.saturating_add.ensures, c.if-quiet-self, c.saturating_sub-quiet.ensures, c.min.ensures))
