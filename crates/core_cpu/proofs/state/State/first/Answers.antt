use Rattle.std.proofs.Common.{◌≡◌, ◌*◌, List, [], w64}
use Rattle.std.specs.Prelude.{ℤ, pos}
use Rattle.std.proofs.lemmas.Int.{to_z-of_z}
use Rattle.core_cpu.proofs.Pieces.{fresh_front}
use Rattle.core_cpu.proofs.state.State.first.Goals as goal

pub returns : goal.returns
returns c =
    let f = c.args.function in
    let args : List ℤ = c.args.args.now in
    let none : c.in_ok-callers.callers ≡ ([], 63) = c.in_ok-callers.ensures in
    let bare : c.in_ok-slots.slots ≡ ([], 64 * c.args.width) = c.in_ok-slots.ensures in
    rw
    (c.put.ensures, c.fill.ensures, none, bare, to_z-of_z w64 c.args.cursor c.ranges.cursor, fresh_front f.slots args [] (pos 0) c.requires.arguments)
