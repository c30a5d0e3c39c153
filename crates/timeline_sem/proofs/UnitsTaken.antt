-- Each request takes a unit.
use Rattle.std.proofs.Common.{◌≡◌, ℕ, suc, ◌+◌, ◌≤◌, List, [], ◌∷◌, ◌++◌, length, refl, arith}
use Rattle.std.specs.Prelude.{slice_get, ℤ}
use Rattle.rtio_types.specs.declared.request.Request.{Request}
use Rattle.rtio_types.specs.declared.request.Reply.{Reply}
use Rattle.kern_syntax.specs.Tree.{ProgramTree}
use Rattle.timeline_sem.specs.Actions.{State, Completion, normal, early}
use Rattle.timeline_sem.specs.Laws.{RequestsTakeUnits, final}
use Rattle.timeline_sem.specs.Programs.{meaning, meaning_of, opening, call_room, function_call, optional_body}
use Rattle.timeline_sem.proofs.Keeps.{IsKept}
use Rattle.timeline_sem.proofs.KeepsWhole.{keeps_body, keeps_function_call, kept_final}
use Rattle.timeline_sem.proofs.RepliesTaken.{asked_one}

-- the requests asked and the units left are together at most what they were
pub record Paid (s s' : State) : Type 0 where
  pub within : length s'.asked + s'.units ≤ length s.asked + s.units

paid_request : (s : State) (n : ℕ) (q : Request) (replies : List Reply) → s.units ≡ suc n → Paid s (record s { units = n; asked = s.asked ++ q ∷ []; replies = replies })
paid_request s n q replies u =
    let one = asked_one s.asked q in
    record { within = omega arith }

pub paid : IsKept Paid Paid
paid =
    record {
      same = λ s. record { within = omega arith };
      then' = λ r q. record { within = omega arith };
      then_lacking = λ r q. record { within = omega arith };
      lacking_then = λ r q. record { within = omega arith };
      units = λ s n e. record { within = omega arith };
      reply = λ s n q r rest u e. paid_request s n q rest u;
      unanswered = λ s n q u e. paid_request s n q s.replies u;
      cursor = λ s t. record { within = omega arith };
      values = λ s v. record { within = omega arith };
      collected = λ s c. record { within = omega arith };
    }

-- a completion as a meaning has the requests and units of its state
parts_of_meaning : (c : Completion ℤ) → length (meaning_of c).requests + (meaning_of c).units ≡ length (final c).asked + (final c).units
parts_of_meaning (normal v s) = refl
parts_of_meaning (early reason s) = refl

paid_by_functions : (program : ProgramTree) (function : ℕ) (args : List ℤ) (cursor : ℤ) (units : ℕ) (replies : List Reply) → length (meaning program function args cursor units replies).requests + (meaning program function args cursor units replies).units ≤ units
paid_by_functions program function args cursor units replies =
    let c = optional_body program (function_call program call_room) (slice_get program function) args (opening cursor units replies) in
    let parts = parts_of_meaning c in
    let whole : Paid (opening cursor units replies) (final c) = kept_final Paid (opening cursor units replies) c ((keeps_body Paid Paid paid program (function_call program call_room) (keeps_function_call Paid Paid paid program call_room) (slice_get program function) args).from (opening cursor units replies)) in
    omega (arith, parts, whole.within)

-- each request of a function and of a call takes a unit
pub requests_take_units_of_all : (program : ProgramTree) → RequestsTakeUnits program
requests_take_units_of_all program =
    record {
      of_functions = paid_by_functions program;
      of_calls = λ room name args s. (kept_final Paid s _ ((keeps_function_call Paid Paid paid program room name args).from s)).within;
    }
