-- What threads share may be shared: the desks of a crew, and what a closure captures that works at them.
use mathlib.Core.List.{List, [], ◌∷◌}
use Prim.Native.Nat.{ℕ}
use mir.Syntax.{Lifetime}
use base.Fml.{Lft}
use denote.RattleType.{RattleType}
use denote.Ref.{ShrRef}
use denote.Struct.Declared.{shape}
use denote.Struct.Tuple.{TupleAt, field_at, type_at}
use denote.Param.Send.{IsSync, recorded_sync, sendable, shr_sync, struct_sync}
use Rattle.std.proofs.Crossing.{crosses}
use Rattle.std.proofs.alloc.Global.TheSendSync as OfGlobal
use Rattle.std.specs.contracts.alloc.Global as Global
use Rattle.desk.proofs.counter.Desk.TheSendSync as Desk
use Rattle.exp_model.proofs.session.Session.TheSendSync as Session
use Rattle.rtio_core.proofs.one_core.Core.TheSendSync as Core
use Rattle.sched_core.proofs.sched.Sched.TheSendSync as Sched
use Rattle.worker_desks.specs.contracts.desks.Desks as Desks
use Rattle.lab_crew.proofs.Crossing.{kit_send}

pub desks_sync : IsSync Desks.the_row
desks_sync = search (Session.the_field_sync, kit_send, Sched.the_send, Desk.the_sync, Core.the_send, crosses, sendable) depth 30 fits 20000

-- references to a runtime, an allocator, the desks and a gate
abbrev pub captures : (a b c d : Lifetime) (κ₁ κ₂ κ₃ κ₄ : Lft) (R G : RattleType) → List RattleType
captures a b c d κ₁ κ₂ κ₃ κ₄ R G = ShrRef a κ₁ R ∷ ShrRef b κ₂ Global.the_row ∷ ShrRef c κ₃ Desks.the_row ∷ ShrRef d κ₄ G ∷ []

pub closure_sync : (name : List ℕ) (a b c d : Lifetime) (κ₁ κ₂ κ₃ κ₄ : Lft) (R G : RattleType) → IsSync R → IsSync G
    → IsSync (TupleAt name (captures a b c d κ₁ κ₂ κ₃ κ₄ R G))
closure_sync name a b c d κ₁ κ₂ κ₃ κ₄ R G r g =
    let Ts : List RattleType = captures a b c d κ₁ κ₂ κ₃ κ₄ R G in
    recorded_sync (field_at name Ts).row _ _ (type_at name Ts).to_one
    (struct_sync (shape (type_at name Ts))
    (shr_sync a κ₁ R r, (shr_sync b κ₂ Global.the_row OfGlobal.the_sync, (shr_sync c κ₃ Desks.the_row desks_sync, (shr_sync d κ₄ G g, tt)))))
