use Rattle.std.proofs.Common.{◌≡◌, ◌+◌, ◌++◌, ◌∷◌, take, drop, reverse, arith}
use Rattle.std.specs.Prelude.{slice_get, Some}
use Rattle.std.proofs.lemmas.List.{drop-drop}
use Rattle.core_cpu.proofs.Pieces.{moved_over}
use Rattle.core_cpu.proofs.stack.Stack.take_over.Goals as goal

pub loop-index-preserved : goal.loop-index-preserved
loop-index-preserved g c =
    let inv = c.loop-index.invariant in
    let i = c.loop-index._index in
    let xs = c.args.from.now.0 in
    let there : slice_get (drop i xs) 0 ≡ Some c.get.result = rw inv.1 at c.get.ensures in
    let step : c.get.result ∷ (reverse (take i xs) ++ c.args.self.now.0) ≡ reverse (take (i + 1) xs) ++ c.args.self.now.0 =
    moved_over xs c.args.self.now.0 i c.get.result (omega arith) there
    in
    let gone : drop 1 (drop i xs) ≡ drop (i + 1) xs = drop-drop 1 i xs in
    (grind arith, grind arith)
