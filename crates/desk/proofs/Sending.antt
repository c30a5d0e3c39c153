-- A chair may be sent where its value may.
use denote.RattleType.{RattleType}
use denote.Param.Send.{IsSend, recorded_send, sendable, struct_send, view_send}
use denote.Struct.Declared.{shape}
use Rattle.std.proofs.Crossing.{crosses}
use Rattle.std.proofs.option.Option.TheSendSync as Option
use Rattle.atomic_table.proofs.shared.Seat.TheSendSync as Seat
use Rattle.desk_rule.specs.declared.view.Booked.{Ghosts}
use Rattle.desk.proofs.boxed.Boxed.TheSendSync as Sent
use Rattle.desk.specs.contracts.boxed.Boxed as Boxed
use Rattle.desk.specs.contracts.boxed.BoxedBooked.TheImpl as booked
use Rattle.desk.specs.contracts.chair.Chair as Chair
use Rattle.desk.specs.contracts.chair.Chair.TheInside as Inside
use Rattle.desk.specs.contracts.takings.Takings as Takings
use Rattle.desk.specs.contracts.takings.Takings.TheInside as Found

-- what it keeps of its takings has no bytes
takings_send : (T A F : RattleType) (g : Ghosts T.Denot A.Denot F.Denot) → IsSend (Takings.the_row T A F g)
takings_send T A F g =
    view_send (Found.the_row T A F g) _ _ _ _
    (recorded_send (Found.the_field T A F g).row _ _ (Found.the_type T A F g).to_one
    (struct_send (shape (Found.the_type T A F g)) (search (crosses, sendable) depth 30)))

pub chair_send : (T A F : RattleType) (g : Ghosts T.Denot A.Denot F.Denot) → IsSend T → IsSend (Chair.the_row T A F g)
chair_send T A F g value =
    view_send (Inside.the_row T A F g) _ _ _ _
    (recorded_send (Inside.the_field T A F g).row _ _ (Inside.the_type T A F g).to_one
    (struct_send (shape (Inside.the_type T A F g)) (search sendable, (Seat.the_send _ _ (Option.the_send _ (Sent.the_send _ value)), (takings_send (Boxed.the_row T) A F (booked.ghosts T A F g booked.no_dict), tt)))))
