use Rattle.std.proofs.Common.{Some, ◌∙◌, arith}
use Rattle.desk_rule.proofs.Known.{tries_at, at_zero, begins}
use Rattle.desk_rule.proofs.steps.try_once.Goals as goal

-- the try keeps the rule
pub compare_exchange-found-requires : goal.compare_exchange-found-requires
compare_exchange-found-requires g c =
    let number = c.from-word.ensures in
    (c.requires.of.0, c.requires.of.1, tries_at g.T.Booked.history g.T.Booked.fixed _ _ _ _ _ _ c.args.seat.now.me c.requires.chair c.requires.free.0 c.requires.free.1 (omega arith))

-- the seat that has won has the slot
pub exchange-taken-requires : goal.exchange-taken-requires
exchange-taken-requires g c =
    let t = c.compare_exchange-found.ensures in
    let won = at_zero _ _ _ t.2 c.if-found-ne0.false in
    (t.0 ∙ c.requires.of.0, (Some won.0, begins _ _ _ won.2))
