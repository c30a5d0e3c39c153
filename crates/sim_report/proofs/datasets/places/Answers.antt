use Rattle.sim_report.proofs.Set.{places-more, places-same}
use Rattle.sim_report.proofs.datasets.places.Goals as goal
use Rattle.sim_report.proofs.datasets.places.Goals.{in-Some+in_ok-insert, in_default}

pub loop-place-preserved : goal.loop-place-preserved
loop-place-preserved c = elim c.match-set_at.branch [
  | in-Some+in_ok-insert w ↦ rw w.places-is
      (places-more c.args.history.now c.loop-place.places.entries w.insert.new.self.entries c.loop-place.place (record { name = w.in-Some.name.now }) w.in-Some.field-0-1.now c.loop-place-test.true w.in-Some.ensures w.in_ok-insert.ensures.entries c.loop-place.invariant)
  | in_default w ↦ rw w.places-is
      (places-same c.args.history.now c.loop-place.places.entries c.loop-place.place c.loop-place-test.true w.in_default.ensures c.loop-place.invariant)
]
