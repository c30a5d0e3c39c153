use Rattle.std.proofs.Common.{◌≡◌, ◌+◌, ◌-◌, ◌<◌, ◌++◌, ℕ, Bool, true, false, List, drop, length, take, ap, sym, subst, ◌∙◌, arith}
use Rattle.std.specs.Prelude.{Some, filter, not}
use Rattle.std.specs.List.{remove, slice_get}
use Rattle.std.proofs.lemmas.List.{take-append-drop}
use Rattle.std.proofs.lemmas.List.Edits.{length-remove}
use Rattle.std.proofs.lemmas.Option.{slice_get_within}
use Rattle.rtio_types.specs.declared.event.Event.{Event}
use Rattle.sed_lanes.specs.Heads.{HeadsState}
use Rattle.output_merge.specs.Groups.{is_logged_before}
use Rattle.output_merge.specs.Sieve.{is_held}
use Rattle.output_merge.proofs.Sieves.{item-there, kept-less, kept-more}
use Rattle.output_merge.proofs.SortedOut.{Behind, behind-more}
use Rattle.output_merge.proofs.holds.take_busy.Goals as goal

pub loop-left-preserved-then-is_held : goal.loop-left-preserved-then-is_held
loop-left-preserved-then-is_held c =
    let left : ℕ = c.loop-left.left - 1 in
    let back : c.loop-left.left ≡ left + 1 = omega (arith, c.loop-left-test.true) in
    let events : List (ℕ × Event) = c.args.kept.now.items in
    let p : ℕ × Event = c.item-number.result in
    let free : ℕ × Event → Bool = λ q. not (is_held c.args.free_from.now c.args.cycle q.1) in
    let invariant = c.loop-left.invariant in
    let within : left < length events = omega (arith, invariant.within, back) in
    let stood : c.loop-left.kept.items ≡ take (left + 1) events ++ filter free (drop (left + 1) events) =
    subst (λ (n : ℕ). c.loop-left.kept.items ≡ take n events ++ filter free (drop n events)) back invariant.stay in
    let there : slice_get events left ≡ Some p = item-there events (filter free (drop (left + 1) events)) c.loop-left.kept.items left p within stood c.item-number.ensures in
    let held : is_held c.args.free_from.now c.args.cycle p.1 ≡ true = sym c.is_held.ensures ∙ c.if-is_held.true in
    let removed : c.remove.new.self.items ≡ remove c.loop-left.kept.items left = ap (λ (h : HeadsState). h.items) c.remove.ensures.rest in
    let spare : c.remove.new.self.room ≡ c.loop-left.kept.room + 1 = ap (λ (h : HeadsState). h.room) c.remove.ensures.rest in
    let shorter : length (remove c.loop-left.kept.items left) + 1 ≡ length c.loop-left.kept.items =
    length-remove c.loop-left.kept.items left (slice_get_within c.loop-left.kept.items left p c.item-number.ensures) in
    let fewer : length c.remove.new.self.items ≡ length (remove c.loop-left.kept.items left) = ap (λ (ps : List (ℕ × Event)). length ps) removed in
    record {
      within = omega (arith, within);
      stay = removed ∙ kept-less free events c.loop-left.kept.items left p there (ap not held) stood;
      leave = behind-more is_logged_before (λ q. is_held c.args.free_from.now c.args.cycle q.1) c.args.busy.now.items events c.loop-left.busy.items c.insert.new.into.items left c.len-busy_before.result p true
          c.len-busy_before.ensures there (sym held)
          (subst (λ (n : ℕ). Behind is_logged_before (λ q. is_held c.args.free_from.now c.args.cycle q.1) c.args.busy.now.items events n c.loop-left.busy.items) back invariant.leave)
          c.insert.ensures.items;
      kept_room = omega (arith, spare, fewer, shorter, invariant.kept_room);
      busy_room = omega (arith, c.insert.ensures.len, c.insert.ensures.room, invariant.busy_room, invariant.few, c.requires.busy_room, c.loop-left-test.true);
      few = omega (arith, c.insert.ensures.len, invariant.few, back);
    }

pub loop-left-preserved : goal.loop-left-preserved
loop-left-preserved c =
    let left : ℕ = c.loop-left.left - 1 in
    let back : c.loop-left.left ≡ left + 1 = omega (arith, c.loop-left-test.true) in
    let events : List (ℕ × Event) = c.args.kept.now.items in
    let p : ℕ × Event = c.item-number.result in
    let free : ℕ × Event → Bool = λ q. not (is_held c.args.free_from.now c.args.cycle q.1) in
    let invariant = c.loop-left.invariant in
    let within : left < length events = omega (arith, invariant.within, back) in
    let stood : c.loop-left.kept.items ≡ take (left + 1) events ++ filter free (drop (left + 1) events) =
    subst (λ (n : ℕ). c.loop-left.kept.items ≡ take n events ++ filter free (drop n events)) back invariant.stay in
    let there : slice_get events left ≡ Some p = item-there events (filter free (drop (left + 1) events)) c.loop-left.kept.items left p within stood c.item-number.ensures in
    let held : is_held c.args.free_from.now c.args.cycle p.1 ≡ false = sym c.is_held.ensures ∙ c.if-is_held.false in
    record {
      within = omega (arith, within);
      stay = kept-more free events c.loop-left.kept.items left p there (ap not held) stood;
      leave = behind-more is_logged_before (λ q. is_held c.args.free_from.now c.args.cycle q.1) c.args.busy.now.items events c.loop-left.busy.items c.loop-left.busy.items left c.len-busy_before.result p false
          c.len-busy_before.ensures there (sym held)
          (subst (λ (n : ℕ). Behind is_logged_before (λ q. is_held c.args.free_from.now c.args.cycle q.1) c.args.busy.now.items events n c.loop-left.busy.items) back invariant.leave)
          (sym (take-append-drop c.len-busy_before.result c.loop-left.busy.items));
      kept_room = invariant.kept_room;
      busy_room = invariant.busy_room;
      few = omega (arith, invariant.few, back);
    }
