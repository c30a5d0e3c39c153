use Rattle.std.proofs.Common.{◌≡◌, ◌+◌, ◌-◌, ◌++◌, ℕ, true, List, append-nil, refl, ap, ◌∙◌, subst, sym, arith}
use Rattle.std.specs.Prelude.{nat_eq}
use Rattle.rtio_types.specs.declared.event.Event.{Event}
use Rattle.rtio_types.specs.Time.{cycle_of}
use Rattle.sed_lanes.specs.Heads.{HeadsState, is_earlier}
use Rattle.output_merge.specs.Groups.{is_collision, is_keeper, is_logged_before, is_put_out_before, part_of}
use Rattle.output_merge.specs.Merge.{are_of_cycle}
use Rattle.output_merge.specs.Summaries.{part_by}
use Rattle.output_merge.proofs.Single.{single-collisions, single-kept}
use Rattle.output_merge.proofs.SortedOut.{Behind, behind-more}
use Rattle.output_merge.proofs.Summing.{all-sorted, part-of-item}
use Rattle.output_merge.proofs.merging.merge.Goals as goal

pub returns-then-len-eq1-clause-kept : goal.returns-then-len-eq1-clause-kept
returns-then-len-eq1-clause-kept c =
    ap (λ (h : HeadsState). h.items) c.keep_alone.ensures.kept
    ∙ ap (λ (ps : List (ℕ × Event)). c.args.kept.now.items ++ ps) (sym (single-kept c.args.heads.now.items (sym c.len.ensures ∙ c.if-len-eq1.true)))

pub returns-then-len-eq1-clause-collided : goal.returns-then-len-eq1-clause-collided
returns-then-len-eq1-clause-collided c =
    sym (append-nil c.args.collided.now.items)
    ∙ ap (λ (ps : List (ℕ × Event)). c.args.collided.now.items ++ ps) (sym (single-collisions c.args.heads.now.items (sym c.len.ensures ∙ c.if-len-eq1.true)))

pub loop-left-preserved : goal.loop-left-preserved
loop-left-preserved c =
    let left : ℕ = c.loop-left.left - 1 in
    let back : c.loop-left.left ≡ left + 1 = omega arith in
    let events : List (ℕ × Event) = c.sort_by_number.new.self.items in
    let p : ℕ × Event = c.item-number.result in
    let cycle : ℕ = c.requires.one_cycle.0 in
    let all : are_of_cycle cycle events ≡ true =
    ap (λ (h : HeadsState). are_of_cycle cycle h.items) c.sort_by_number.ensures.order
    ∙ all-sorted is_earlier (λ q. nat_eq (cycle_of q.1) cycle) c.args.heads.now.items c.requires.one_cycle.1 in
    let part : c.part_in-part.result ≡ part_of events p =
    c.part_in-part.ensures ∙ ap (λ g. part_by g p.0 p.1) c.group_of.ensures
    ∙ part-of-item cycle events left p all c.item-number.ensures in
    let invariant = c.loop-left.invariant in
    record {
      heads_stay = refl;
      within = omega arith;
      kept_behind = behind-more is_put_out_before (λ q. is_keeper (part_of events q)) c.args.kept.now.items events c.loop-left.kept.items c.insert_if.new.into.items left c.len-kept_before.result p c.is_keeper.result
          c.len-kept_before.ensures c.item-number.ensures (c.is_keeper.ensures ∙ ap is_keeper part)
          (subst (λ n. Behind is_put_out_before (λ q. is_keeper (part_of events q)) c.args.kept.now.items events n c.loop-left.kept.items) back invariant.kept_behind)
          c.insert_if.ensures.items;
      collided_behind = behind-more is_logged_before (λ q. is_collision (part_of events q)) c.args.collided.now.items events c.loop-left.collided.items c.insert_if-in-loop-left.new.into.items left c.len-collided_before.result p c.is_collision.result
          c.len-collided_before.ensures c.item-number.ensures (c.is_collision.ensures ∙ ap is_collision part)
          (subst (λ n. Behind is_logged_before (λ q. is_collision (part_of events q)) c.args.collided.now.items events n c.loop-left.collided.items) back invariant.collided_behind)
          c.insert_if-in-loop-left.ensures.items;
      kept_room = c.insert_if.ensures.room ∙ invariant.kept_room;
      collided_room = c.insert_if-in-loop-left.ensures.room ∙ invariant.collided_room;
      kept_few = let few = c.insert_if.ensures.few in let was = invariant.kept_few in omega (arith, few, was);
      collided_few = let few = c.insert_if-in-loop-left.ensures.few in let was = invariant.collided_few in omega (arith, few, was);
    }
