-- A crew at its desks, and room for what it leaves.
use Rattle.std.specs.Prelude.{◌≡◌, ℕ, length, map, All}
use Rattle.exp_model.specs.declared.session.Session.{Session}
use Rattle.lab_crew.specs.declared.member.Member.{Member}
use Rattle.lab_crew.specs.declared.member.Room.{Room}
use Rattle.lab_crew.specs.declared.preparing.Prepared.{Prepared}
use Rattle.lab_desks.specs.Columns.{HasRoom}
use Rattle.lab_desks.specs.Seats.{AreSetFor}
use Rattle.lab_crew.specs.Crews.{new_workers}

-- there is room for the chairs of so many workers at the desks of so many cores, and for these cores
pub record IsRoomFor (workers pipelines : ℕ) (room : Room) : Type 0 where
  pub scheds : HasRoom workers room.scheds
  pub rows : HasRoom workers room.rows
  pub count : length room.columns.items ≡ pipelines
  pub columns : All (HasRoom workers) room.columns.items
  pub cores : HasRoom pipelines room.cores

-- so many new workers sit at the desks of the session, and there is room for what they leave
pub record IsPrepared (session : Session) (workers : ℕ) (prepared : Prepared) : Type 0 where
  pub session_is : prepared.desks.session ≡ session
  pub desks : AreSetFor workers prepared.desks
  pub crew : map (λ (member : Member). member.worker) prepared.crew.items ≡ new_workers prepared.desks workers
  pub room : IsRoomFor workers (length prepared.desks.cores.items) prepared.room
