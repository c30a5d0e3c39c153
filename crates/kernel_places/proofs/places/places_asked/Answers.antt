use Rattle.std.proofs.Common.{ap, arith, drop, subst, sym, ◌≡◌, List, ◌+◌, Vec, Global}
use Rattle.rtio_core.specs.declared.data.Act.{Act}
use Rattle.rtio_core.specs.declared.data.Entry.{Entry}
use Rattle.core_cpu.specs.Moments.{Moment, is_asking}
use Rattle.kernel_places.specs.declared.place.Place.{Place}
use Rattle.kernel_places.specs.Places.{with_answer, answered_in}
use Rattle.kernel_places.proofs.Replaying.{SoFar, at_end, at_first, at_last, behind_last, it_asks, one_more, passed, so_far_at}
use Rattle.kernel_places.proofs.places.places_asked.Goals as goal
use Rattle.kernel_places.proofs.places.places_asked.Goals.{in-Asked+in_ok-place-in-Asked+in_ok-push-in-Asked, in-Start, in-End}

pub next_place-requires-clause-asks : goal.next_place-requires-clause-asks
next_place-requires-clause-asks c =
    let i = c.loop-entry.entry-index in
    let whole = c.args.session.now in
    let so = so_far_at c.args.cpu.now c.loop-entry.cpu whole i c.entry-item.result c.loop-entry.places.items c.loop-entry-test.true c.entry-item.is c.loop-entry.invariant in
    it_asks c.args.cpu.now c.loop-entry.cpu whole c.entry-item.result _ c.loop-entry.places.items c.in-Asked.request c.in-Asked.reply c.in-Asked.at c.in-Asked.is so c.requires.0 c.requires.1 c.requires.2

-- what was found is the same under the names of the loop's next turn
joined : (first now now' : Moment) (whole rest : List Entry) (places places' : List Place) → now' ≡ now → places' ≡ places → SoFar first now whole rest places → SoFar first now' whole rest places'
joined first now now' whole rest places places' n p so =
    subst (λ (m : Moment). SoFar first m whole rest places') (sym n) (subst (λ (l : List Place). SoFar first now whole rest l) (sym p) so)

pub loop-entry-init : goal.loop-entry-init
loop-entry-init c =
    subst (λ (l : List Place). SoFar c.args.cpu.now c.args.cpu.now c.args.session.now c.args.session.now l) (sym c.new-places.ensures.items)
    (at_first c.args.cpu.now c.args.session.now (ap is_asking c.requires.1.ready))

pub loop-entry-preserved : goal.loop-entry-preserved
loop-entry-preserved c =
    let i = c.loop-entry.entry-index in
    let whole = c.args.session.now in
    let item = c.entry-item.result in
    let rest : List Entry = drop (i + 1) whole in
    let so = so_far_at c.args.cpu.now c.loop-entry.cpu whole i c.entry-item.result c.loop-entry.places.items c.loop-entry-test.true c.entry-item.is c.loop-entry.invariant in
    elim c.match-entry.branch [
      | in-Asked+in_ok-place-in-Asked+in_ok-push-in-Asked w ↦
          joined c.args.cpu.now w.next_place.new.cpu c.match-entry.cpu whole rest w.push.new.self.items c.match-entry.places.items w.cpu-is (ap (λ (v : Vec Place Global). v.items) w.places-is)
          (subst (λ (l : List Place). SoFar c.args.cpu.now w.next_place.new.cpu whole rest l) (sym w.in_ok-push-in-Asked.ensures.items)
          (one_more c.args.cpu.now c.loop-entry.cpu whole item rest c.loop-entry.places.items w.in-Asked.request w.in-Asked.reply w.in-Asked.at w.in-Asked.is w.next_place.new.cpu w.in_ok-place-in-Asked.place so w.in_ok-place-in-Asked.ensures.code w.in_ok-place-in-Asked.ensures.idle w.in_ok-place-in-Asked.ensures.place))
      | in-Start w ↦
          joined c.args.cpu.now c.loop-entry.cpu c.match-entry.cpu whole rest c.loop-entry.places.items c.match-entry.places.items w.cpu-is (ap (λ (v : Vec Place Global). v.items) w.places-is)
          (passed c.args.cpu.now c.loop-entry.cpu whole item rest c.loop-entry.places.items (ap (λ (a : Act). with_answer a (answered_in rest)) w.in-Start.is) so)
      | in-End w ↦
          joined c.args.cpu.now c.loop-entry.cpu c.match-entry.cpu whole rest c.loop-entry.places.items c.match-entry.places.items w.cpu-is (ap (λ (v : Vec Place Global). v.items) w.places-is)
          (passed c.args.cpu.now c.loop-entry.cpu whole item rest c.loop-entry.places.items (ap (λ (a : Act). with_answer a (answered_in rest)) w.in-End.is) so)
    ]

pub returns-clause-asked : goal.returns-clause-asked
returns-clause-asked c =
    at_last c.args.cpu.now c.loop-entry.cpu c.args.session.now c.loop-entry.places.items
    (at_end c.args.cpu.now c.loop-entry.cpu c.args.session.now c.loop-entry.entry-index c.loop-entry.places.items (omega (arith, c.loop-entry-test.false)) c.loop-entry.invariant)

pub returns-clause-behind : goal.returns-clause-behind
returns-clause-behind c =
    behind_last c.args.cpu.now c.loop-entry.cpu c.args.session.now c.loop-entry.places.items
    (at_end c.args.cpu.now c.loop-entry.cpu c.args.session.now c.loop-entry.entry-index c.loop-entry.places.items (omega (arith, c.loop-entry-test.false)) c.loop-entry.invariant)
