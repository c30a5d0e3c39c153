use Rattle.std.proofs.Common.{◌<◌, length, take, arith, w64}
use Rattle.std.proofs.lemmas.Int.{to_z-of_z}
use Rattle.std.proofs.lemmas.List.{length-take, drop-set-lt}
use Rattle.core_cpu.proofs.Pieces.{take_changed}
use Rattle.core_cpu.proofs.state.State.set_slot.Goals as goal

pub returns : goal.returns
returns c =
    let s = c.self.inside in
    let there : c.args.index < length (take s.here.function.slots s.slots.0) = rw (← c.self.view_is) at c.requires in
    let within : c.args.index < s.here.function.slots = omega (arith, length-take s.here.function.slots s.slots.0) in
    rw (c.set.ensures, ← c.self.view_is, to_z-of_z w64 c.args.value c.ranges.value, take_changed s.here.function.slots c.args.index s.slots.0 c.args.value within, drop-set-lt s.here.function.slots s.slots.0 c.args.index c.args.value within)
