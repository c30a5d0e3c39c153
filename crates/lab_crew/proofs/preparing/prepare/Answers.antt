use Rattle.std.proofs.Common.{length, sym, ap, subst, ◌∙◌, arith}
use Rattle.std.specs.Prelude.{All}
use Rattle.std.proofs.lemmas.List.{with_items_is}
use Rattle.lab_desks.specs.Columns.{HasRoom}
use Rattle.lab_desks.specs.Seats.{AreNewChairs}
use Rattle.lab_crew.specs.Crews.{new_workers}
use Rattle.lab_crew.proofs.Ready.{crew-count, new-columns, new-count}
use Rattle.lab_crew.proofs.preparing.prepare.Goals as goal

pub seat_workers-requires : goal.seat_workers-requires
seat_workers-requires c =
    let count = new-count c.args.workers c.in_ok-desks.desks c.in_ok-desks.chairs.scheds.items c.in_ok-desks.chairs.columns.items c.in_ok-desks.ensures.chairs in
    subst (λ n. AreNewChairs n c.in_ok-desks.desks c.in_ok-desks.chairs.scheds.items c.as_mut_slice.result.now) (sym count)
    (subst (λ l. AreNewChairs c.args.workers c.in_ok-desks.desks c.in_ok-desks.chairs.scheds.items l) (sym c.as_mut_slice.ensures.value) c.in_ok-desks.ensures.chairs)

pub returns : goal.returns
returns c =
    let count = new-count c.args.workers c.in_ok-desks.desks c.in_ok-desks.chairs.scheds.items c.in_ok-desks.chairs.columns.items c.in_ok-desks.ensures.chairs in
    let crew = c.in_ok-crew.ensures.crew ∙ ap (new_workers c.in_ok-desks.desks) count in
    let members = crew-count c.in_ok-desks.desks c.args.workers c.in_ok-crew.crew.items crew in
    let len = c.seat_workers.auto.columns in
    let slice = ap length c.as_mut_slice.ensures.value in
    let cols = new-columns c.args.workers c.in_ok-desks.desks c.in_ok-desks.chairs.scheds.items c.in_ok-desks.chairs.columns.items c.in_ok-desks.ensures.chairs in
    let whole = with_items_is c.in_ok-desks.chairs.columns c.seat_workers.new.columns (len ∙ slice ∙ sym c.in_ok-desks.chairs.columns.ok.0) in
    record {
      session_is = c.in_ok-desks.ensures.session;
      desks = c.in_ok-desks.ensures.desks;
      crew = crew;
      room = record {
        scheds = subst (λ n. HasRoom n c.seat_workers.new.scheds) count c.in_ok-crew.ensures.scheds;
        rows = (c.in_ok-with_capacity.ensures.items, omega (arith, c.in_ok-with_capacity.ensures.capacity, c.len.ensures, c.in_ok-crew.crew.ok.0, members));
        count = ap length whole ∙ len ∙ slice ∙ cols;
        columns = subst (All (HasRoom c.args.workers)) (sym whole) (subst (λ n. All (HasRoom n) c.seat_workers.new.columns) count c.in_ok-crew.ensures.columns);
        cores = (c.in_ok-with_capacity-2.ensures.items, omega (arith, c.in_ok-with_capacity-2.ensures.capacity, c.len-2.ensures, c.in_ok-desks.desks.cores.ok.0));
      };
    }
