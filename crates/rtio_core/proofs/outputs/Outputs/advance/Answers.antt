use Rattle.std.proofs.Common.{◌≡◌, ◌+◌, ◌<◌, length, refl, ap, sym, subst, ◌∙◌, arith}
use Rattle.rtio_types.specs.declared.event.Event.{Event}
use Rattle.std.specs.Prelude.{List, ℕ, nat_eq}
use Rattle.std.specs.List.{IsDistinct}
use Rattle.std.specs.Map.{keys_of}
use Rattle.sed_lanes.specs.Heads.{HeadsState}
use Rattle.sed_lanes.specs.Judged.{Judged, judged}
use Rattle.output_merge.specs.Merge.{are_of_cycle}
use Rattle.output_merge.specs.Outputs.{put_out_by}
use Rattle.output_merge.proofs.Ticks.{keepers-of_one, put_out-before}
use Rattle.rtio_core.proofs.Quiet.{from-next}
use Rattle.rtio_core.proofs.Ticked.{IsMerged, IsTicked, Ticks, drained-few, may-drain, played-idle, played-still, played-ticked, has-merged, has-sieved}
use Rattle.rtio_core.proofs.outputs.Outputs.advance.Goals as goal

pub drain-requires-clause-room : goal.drain-requires-clause-room
drain-requires-clause-room c =
    let may = may-drain c.args.self.now _ c.args.counter _ _ _ c.requires.played.4 in
    let room : c.args.self.now.heads.room ≡ 32 = ap (λ (h : HeadsState). h.room) c.requires.played.4.heads in
    omega (arith, may.many, room)

pub drain-requires-clause-none_earlier : goal.drain-requires-clause-none_earlier
drain-requires-clause-none_earlier c = (may-drain c.args.self.now _ c.args.counter _ _ _ c.requires.played.4).from

pub returns-then-len-eq0 : goal.returns-then-len-eq0
returns-then-len-eq0 c = λ holds lanes depth steps h.
    played-idle c.args.self.now holds c.drain.new.self c.drain.new.into _ c.args.counter lanes depth steps h c.drain.ensures.after c.drain.ensures.moved c.drain.ensures.room (sym c.len.ensures ∙ c.if-len-eq0.true)
    (from-next c.drain.new.self c.next_cycle.result c.unwrap_or-self.result 18446744073709551615 c.next_cycle.ensures c.unwrap_or-self.ensures)

pub returns-then-cycle-self : goal.returns-then-cycle-self
returns-then-cycle-self c = λ holds lanes depth steps h. played-still c.args.self.now holds c.args.counter lanes depth steps h (omega (arith, c.if-cycle-self.true))

pub merge-requires-clause-one_cycle : goal.merge-requires-clause-one_cycle
merge-requires-clause-one_cycle c =
    (c.args.counter + 1, ap (are_of_cycle (c.args.counter + 1)) c.drain.ensures.moved ∙ (may-drain c.args.self.now _ c.args.counter _ _ _ c.requires.played.4).of_cycle)

pub merge-requires-clause-numbers : goal.merge-requires-clause-numbers
merge-requires-clause-numbers c =
    subst (λ (pairs : List (ℕ × Event)). IsDistinct nat_eq (keys_of pairs)) (sym c.drain.ensures.moved) (may-drain c.args.self.now _ c.args.counter _ _ _ c.requires.played.4).numbers

pub sieve-requires-clause-one_cycle : goal.sieve-requires-clause-one_cycle
sieve-requires-clause-one_cycle c =
    let h = c.requires.played.4 in
    let merged = has-merged c.args.self.now _ c.drain.new.into.items c.merge.new.kept c.merge.new.collided c.args.counter _ _ _ h
    (record { keeps = c.merge.ensures.kept; keeps_room = c.merge.ensures.kept_room; collides = c.merge.ensures.collided; collides_room = c.merge.ensures.collided_room }) in
    ap (are_of_cycle (c.args.counter + 1)) merged.keeps
    ∙ keepers-of_one (c.args.counter + 1) c.drain.new.into.items
    (ap (are_of_cycle (c.args.counter + 1)) c.drain.ensures.moved ∙ (may-drain c.args.self.now _ c.args.counter _ _ _ h).of_cycle)

pub sieve-requires-clause-busy_room : goal.sieve-requires-clause-busy_room
sieve-requires-clause-busy_room c =
    let h = c.requires.played.4 in
    let merged = has-merged c.args.self.now _ c.drain.new.into.items c.merge.new.kept c.merge.new.collided c.args.counter _ _ _ h
    (record { keeps = c.merge.ensures.kept; keeps_room = c.merge.ensures.kept_room; collides = c.merge.ensures.collided; collides_room = c.merge.ensures.collided_room }) in
    let room : c.args.self.now.heads.room ≡ 32 = ap (λ (x : HeadsState). x.room) h.heads in
    let busy_room : c.args.self.now.busy.room ≡ 32 = ap (λ (x : HeadsState). x.room) h.busy in
    omega (arith, merged.few, c.drain.ensures.room, room, busy_room)

pub put_out-requires : goal.put_out-requires
put_out-requires c =
    let h = c.requires.played.4 in
    let old : List Judged = judged c.requires.played.1 c.requires.played.2 c.requires.played.3 in
    let merged : IsMerged c.args.self.now c.drain.new.into.items c.merge.new.kept c.merge.new.collided =
    record { keeps = c.merge.ensures.kept; keeps_room = c.merge.ensures.kept_room; collides = c.merge.ensures.collided; collides_room = c.merge.ensures.collided_room } in
    let sieved = has-sieved c.args.self.now c.requires.played.0 c.drain.new.into.items c.merge.new.kept c.merge.new.collided c.sieve.new.kept c.sieve.new.busy c.sieve.new.self c.args.counter _ _ _ h merged
    (c.sieve.ensures.sieved c.requires.played.0 (put_out_by c.requires.played.0 old c.args.counter) h.holds_are (put_out-before c.requires.played.0 old c.args.counter)) in
    let few = drained-few c.args.self.now _ c.drain.new.into.items c.args.counter _ _ _ h c.drain.ensures.moved in
    omega (arith, sieved.few, few, h.output_room)

pub log_all-requires : goal.log_all-requires
log_all-requires c =
    let h = c.requires.played.4 in
    let merged = has-merged c.args.self.now _ c.drain.new.into.items c.merge.new.kept c.merge.new.collided c.args.counter _ _ _ h
    (record { keeps = c.merge.ensures.kept; keeps_room = c.merge.ensures.kept_room; collides = c.merge.ensures.collided; collides_room = c.merge.ensures.collided_room }) in
    let few = drained-few c.args.self.now _ c.drain.new.into.items c.args.counter _ _ _ h c.drain.ensures.moved in
    omega (arith, merged.few, few, h.log_room)

pub log_all-requires-2 : goal.log_all-requires-2
log_all-requires-2 c =
    let h = c.requires.played.4 in
    let old : List Judged = judged c.requires.played.1 c.requires.played.2 c.requires.played.3 in
    let merged : IsMerged c.args.self.now c.drain.new.into.items c.merge.new.kept c.merge.new.collided =
    record { keeps = c.merge.ensures.kept; keeps_room = c.merge.ensures.kept_room; collides = c.merge.ensures.collided; collides_room = c.merge.ensures.collided_room } in
    let sieved = has-sieved c.args.self.now c.requires.played.0 c.drain.new.into.items c.merge.new.kept c.merge.new.collided c.sieve.new.kept c.sieve.new.busy c.sieve.new.self c.args.counter _ _ _ h merged
    (c.sieve.ensures.sieved c.requires.played.0 (put_out_by c.requires.played.0 old c.args.counter) h.holds_are (put_out-before c.requires.played.0 old c.args.counter)) in
    let few = drained-few c.args.self.now _ c.drain.new.into.items c.args.counter _ _ _ h c.drain.ensures.moved in
    omega (arith, sieved.few, few, h.log_room, c.log_all.ensures.room)

pub returns : goal.returns
returns c = λ holds lanes depth steps h.
    let some : 0 < length c.drain.new.into.items = omega (arith, c.if-len-eq0.false, c.len.ensures) in
    let t : Ticks = record {
      lanes = c.drain.new.self;
      drained = c.drain.new.into;
      heads = c.merge.new.heads;
      kept = c.merge.new.kept;
      collided = c.merge.new.collided;
      kept_left = c.sieve.new.kept;
      busy_left = c.sieve.new.busy;
      holds = c.sieve.new.self;
      no_kept = c.put_out.new.from;
      no_collided = c.log_all.new.from;
      no_busy = c.log_all-2.new.from;
      put_out = c.put_out.new.into;
      log_between = c.log_all.new.log;
      log = c.log_all-2.new.log;
      next = c.unwrap_or-self.result;
    } in
    let is : IsTicked c.args.self.now holds (put_out_by holds (judged lanes depth steps) c.args.counter) c.args.counter t = record {
      after = c.drain.ensures.after;
      moved = c.drain.ensures.moved;
      space = c.drain.ensures.room;
      some = some;
      no_heads = c.merge.ensures.heads;
      merged = record { keeps = c.merge.ensures.kept; keeps_room = c.merge.ensures.kept_room; collides = c.merge.ensures.collided; collides_room = c.merge.ensures.collided_room };
      sieved = c.sieve.ensures.sieved holds (put_out_by holds (judged lanes depth steps) c.args.counter) h.holds_are (put_out-before holds (judged lanes depth steps) c.args.counter);
      kept_room = c.sieve.ensures.kept_room;
      busy_room = c.sieve.ensures.busy_room;
      none_kept = c.put_out.ensures.from;
      puts = c.put_out.ensures.items;
      longer = c.put_out.ensures.len;
      fits = c.put_out.ensures.capacity;
      none_collided = c.log_all.ensures.from;
      logs = c.log_all.ensures.lines;
      shorter = c.log_all.ensures.room;
      none_busy = c.log_all-2.ensures.from;
      logs_more = c.log_all-2.ensures.lines;
      shorter_still = c.log_all-2.ensures.room;
      next = from-next c.drain.new.self c.next_cycle.result c.unwrap_or-self.result 18446744073709551615 c.next_cycle.ensures c.unwrap_or-self.ensures;
    } in
    played-ticked c.args.self.now holds t _ c.args.counter lanes depth steps h is refl
