use Rattle.std.proofs.Common.{◌<◌, ◌≤◌, [], ◌∷◌, ◌++◌, sym, ap, ◌∙◌, subst, arith, append-nil}
use Rattle.desk_rule.specs.Steps.{first_made, first_won}
use Rattle.desk.proofs.Seats.{carried_none}
use Rattle.desk.proofs.Gathered.{Gathered, gathered_one, gathered_more, gathered_all, number_there, of_last, moved_one, Ending, ending}
use Rattle.desk.proofs.counter.Desk.close.Given.{Over}
use Rattle.desk.proofs.counter.Desk.close.Goals as goal

-- the first chair's seat has that chair's record
pub loop-other-init : goal.loop-other-init
loop-other-init g c =
    let of = of_last _ _ (c.args.chairs.items) [] c.pop.new.self.items c.in-Some.first (append-nil _) c.in-Some.ensures.items c.requires.of in
    let free = ap (λ d. d.holds) c.first.view_is ∙ of.1 in (
      c.in-Some.first ∷ [],
      sym c.in-Some.ensures.items,
      subst (λ d. Gathered c.first.inside.seat.me.0.records (d ∷ [])) c.first.view_is (gathered_one _ _ (first_won c.first.inside.seat.me.0.records) (first_made c.first.inside.seat.me.0.records) c.first.invariant.0 c.first.invariant.2),
      free,
      carried_none _ _ free c.first.invariant.1,
      ap (λ d. d.desk.table) c.first.view_is ∙ (ap (λ d. d.table) of.0 ∙ sym (ap (λ d. d.id.table) c.self.view_is)),
    )

-- the other chair is of this desk, and doesn't hold the value
pub take_in-requires-clause-of : goal.take_in-requires-clause-of
take_in-requires-clause-of g c =
    let i = c.loop-other.invariant in
    let one = c.self.invariant.0 in
    let of = of_last _ _ _ i.0 c.pop-in-loop-other.new.self.items c.in-Some-pop.other i.1 c.in-Some-pop.ensures.items c.requires.of in
    (i.5, ap (λ d. d.desk.table) c.other.view_is ∙ (ap (λ d. d.table) of.0 ∙ sym (ap (λ d. d.id.table) c.self.view_is)), omega arith)

pub take_in-requires-clause-free : goal.take_in-requires-clause-free
take_in-requires-clause-free g c =
    let i = c.loop-other.invariant in
    let of = of_last _ _ _ i.0 c.pop-in-loop-other.new.self.items c.in-Some-pop.other i.1 c.in-Some-pop.ensures.items c.requires.of in
    let free = ap (λ d. d.holds) c.other.view_is ∙ of.1 in
    (free, carried_none _ _ free c.other.invariant.1)

pub loop-other-preserved : goal.loop-other-preserved
loop-other-preserved g c =
    let i = c.loop-other.invariant in
    let joined = c.take_in.ensures in
    let more = subst (λ d. Gathered (c.loop-other.seat.me.0.records ++ c.other.inside.seat.me.0.records) (d ∷ i.0)) c.other.view_is
    (gathered_more _ _ _ _ (first_won c.other.inside.seat.me.0.records) (first_made c.other.inside.seat.me.0.records) c.other.invariant.0 c.other.invariant.2 i.2) in (
      c.in-Some-pop.other ∷ i.0,
      moved_one _ _ i.0 _ _ i.1 c.in-Some-pop.ensures.items,
      subst (λ m. Gathered m.0.records (c.in-Some-pop.other ∷ i.0)) (sym joined.1) more,
      ap (λ m. m.0.pass) joined.1 ∙ i.3,
      ap (λ m. m.1) joined.1 ∙ i.4,
      joined.0 ∙ i.5,
    )

-- the seat has the records of all chairs
pub close_table-requires-clause-all : goal.close_table-requires-clause-all
close_table-requires-clause-all g c =
    let i = c.loop-other.invariant in
    let empty = c.in_default-pop.ensures.cases.0 in
    let count = ap (λ d. d.chairs) c.self.view_is in
    let all = gathered_all _ _ _ i.0 i.2 (omega (arith, c.loop-other.chairs.ok.0)) i.1 in
    λ k low. number_there k _ _ all (c.requires.all k (subst (λ n. k < n) count low))

-- what the value says of all chairs
closed : (g : Over) (c : goal.After-drop-chairs g)
    → Ending g.T.Booked.history g.T.Booked.fixed c.self.inside.table.shared.key.chairs (g.T.Booked.fixed c.self.inside.table.shared.key.first.value) c.args.chairs.items c.into_inner.result
closed g c =
    let i = c.loop-other.invariant in
    let empty = c.in_default-pop.ensures.cases.0 in
    let all = gathered_all _ _ _ i.0 i.2 (omega (arith, c.loop-other.chairs.ok.0)) i.1 in
    rw c.into_inner.ensures (ending _ _ _ _ _ _ _ c.close_table.ensures all)

pub returns-clause-fixed : goal.returns-clause-fixed
returns-clause-fixed g c = (closed g c).stays ∙ ap (λ d. d.fixed) c.self.view_is

pub returns-clause-seen : goal.returns-clause-seen
returns-clause-seen g c = (closed g c).seen

pub returns-clause-own : goal.returns-clause-own
returns-clause-own g c = (closed g c).own

pub returns-clause-others : goal.returns-clause-others
returns-clause-others g c = λ k over. (closed g c).others k (subst (λ n. n ≤ k) (sym (ap (λ d. d.chairs) c.self.view_is)) over)

pub returns-clause-lost : goal.returns-clause-lost
returns-clause-lost g c = (closed g c).lost
