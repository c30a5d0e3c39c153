use Rattle.std.proofs.Common.{refl, sym, ap, subst}
use Rattle.desk_rule.specs.Histories.{Grew}
use Rattle.desk.proofs.Seats.{put_found, put_own, put_seated}
use Rattle.desk.proofs.counter.Desk.put.Goals as goal

-- the view is the chair's own record again, and the slot is at home
pub invariant_of-chair : goal.invariant_of-chair
invariant_of-chair g c =
    let after = c.put_home.ensures.1 in
    let seat = ap (λ m. m.0) after in (
      put_own _ c.chair.inside.seat.me.0 _ _ c.chair.invariant.0 seat,
      rw after refl,
      put_found _ c.chair.inside.seat.me.0 _ _ _ c.chair.invariant.0 seat c.chair.invariant.2,
    )

pub returns : goal.returns
returns g c =
    let grew = subst (λ d. Grew d.number d.seen (g.T.Booked.history c.args.held.value)) (sym c.chair.view_is) c.requires.grew in
    rw (← c.chair.view_is) (put_seated _ _ _ _ c.chair.inside.seat.me.0 _ _ c.chair.invariant.0 grew c.put_home.ensures.0 (ap (λ m. m.0) c.put_home.ensures.1))
