use Rattle.std.proofs.Common.{arith, FitsSigned}
use Rattle.std.specs.Prelude.{pos}
use Rattle.std.specs.Int.{w32}
use Rattle.std.proofs.lemmas.Int.{ints, wrapping_add_is}
use Rattle.meaning_state.proofs.timed.one_more.Goals as goal

pub returns : goal.returns
returns c =
    let one : FitsSigned w32 (pos 1) = record { sfits = omega (arith, ints) } in
    wrapping_add_is w32 c.args.count (pos 1) c.ranges.count one
