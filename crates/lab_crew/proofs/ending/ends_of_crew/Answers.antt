use Rattle.std.proofs.Common.{arith}
use Rattle.lab_crew.proofs.Ended.{as-many}
use Rattle.lab_crew.proofs.Ready.{all-may}
use Rattle.lab_crew.proofs.ending.ends_of_crew.Goals as goal

pub work_together-crew-requires-clause-crew : goal.work_together-crew-requires-clause-crew
work_together-crew-requires-clause-crew g c κs within =
    all-may c.in_ok-desks.field-0.desks c.args.workers c.in_ok-desks.field-0.crew.items c.in_ok-desks.ensures.desks.of c.in_ok-desks.ensures.crew

pub put_ends-requires : goal.put_ends-requires
put_ends-requires g c =
    let many = as-many c.in_ok-desks.field-0.desks c.in_ok-desks.field-0.crew.items c.work_together-crew.result.items c.work_together-crew.ensures in
    (c.in_ok-ends.ensures.items, omega (arith, c.in_ok-ends.ensures.capacity, c.len.ensures, c.in_ok-desks.field-0.crew.ok.0, many))

pub returns : goal.returns
returns g c = record {
  desks = c.in_ok-desks.field-0.desks;
  session_is = c.in_ok-desks.ensures.session_is;
  set = c.in_ok-desks.ensures.desks;
  before = c.in_ok-desks.field-0.crew.items;
  after = c.work_together-crew.result.items;
  new = c.in_ok-desks.ensures.crew;
  worked = c.work_together-crew.ensures;
  ends_are = c.put_ends.ensures;
}
