use Rattle.std.proofs.Common.{◌+◌, ◌≤◌, length, take, arith}
use Rattle.std.proofs.lemmas.List.{length-take}
use Rattle.core_cpu.proofs.Pieces.{part_of_front}
use Rattle.core_cpu.proofs.state.State.array.Goals as goal

pub returns : goal.returns
returns c =
    let s = c.self.inside in
    let there : c.args.first + c.args.count ≤ length (take s.here.function.slots s.slots.0) = rw (← c.self.view_is) at c.requires in
    let within : c.args.first + c.args.count ≤ s.here.function.slots = omega (arith, length-take s.here.function.slots s.slots.0) in
    rw (← c.self.view_is, part_of_front s.here.function.slots c.args.first c.args.count s.slots.0 within) c.copy.ensures
