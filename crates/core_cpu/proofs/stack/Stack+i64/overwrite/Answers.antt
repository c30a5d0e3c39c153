use Rattle.std.proofs.Common.{◌≡◌, ℕ, ◌+◌, ◌-◌, ◌≤◌, length, take, drop, replicate, ap, ◌∙◌, arith, rules, w64}
use Rattle.std.specs.Vec.{with_items}
use Rattle.std.proofs.lemmas.Int.{to_z-of_z}
use Rattle.std.proofs.lemmas.List.{with_items_is, length-replicate, length-drop, length-take-le}
use Rattle.std.proofs.lemmas.List.Edits.{length-paste}
use Rattle.std.proofs.lemmas.Slice.{put_mid-paste}
use mir.Val.{to_z, of_z}
use borrow.Rule.Slice.PartMut.{put_mid}
use lib.Seq.{paste}
use Rattle.core_cpu.proofs.Pieces.{filled_part}
use Rattle.core_cpu.proofs.stack.Stack+i64.overwrite.Goals as goal

pub returns : goal.returns
returns c =
    let s = c.self.inside in
    let start : ℕ = s.free + c.args.first in
    let count : ℕ = c.args.count in
    let there : c.args.first + count ≤ length (drop s.free s.items.items) = rw (← c.self.view_is) at c.requires in
    let all : c.deref_mut.result.now ≡ s.items.items = c.deref_mut.ensures.value in
    let width : start + count - start ≡ count = omega arith in
    let long : start + count ≤ length s.items.items = omega (arith, length-drop s.free s.items.items) in
    let part : length (take count (drop start s.items.items)) ≡ count = length-take-le count (drop start s.items.items) (omega (arith, length-drop start s.items.items)) in
    let taken : length (take (start + count - start) (drop start c.deref_mut.result.now)) ≡ count = rw (width, all) part in
    let filled : c.fill.new.self ≡ replicate count c.args.item =
    c.fill.ensures.after (λ y e. search rules)
    ∙ ap (λ n. replicate n (to_z w64 (of_z w64 c.args.item))) taken
    ∙ ap (replicate count) (to_z-of_z w64 c.args.item c.ranges.item)
    in
    let put : put_mid start (start + count - start) c.deref_mut.result.now c.fill.new.self ≡ paste s.items.items start (replicate count c.args.item) count =
    put_mid-paste start (start + count - start) c.deref_mut.result.now c.fill.new.self (replicate count c.args.item) count filled (omega arith) (omega (arith, length-replicate count c.args.item))
    ∙ ap (λ xs. paste xs start (replicate count c.args.item) count) all
    in
    let same : length (put_mid start (start + count - start) c.deref_mut.result.now c.fill.new.self) ≡ length s.items.items =
    ap length put ∙ length-paste s.items.items start (replicate count c.args.item) count long (omega (arith, length-replicate count c.args.item))
    in
    let now : (with_items s.items (put_mid start (start + count - start) c.deref_mut.result.now c.fill.new.self)).items ≡ paste s.items.items start (replicate count c.args.item) count =
    with_items_is s.items _ (omega (arith, s.items.ok.0)) ∙ put
    in
    rw
    (← c.self.view_is)
    (ap (λ xs. (drop s.free xs, s.free)) now ∙ ap (λ xs. (xs, s.free)) (filled_part s.free c.args.first count s.items.items c.args.item long))
