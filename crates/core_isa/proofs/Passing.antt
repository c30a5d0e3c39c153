-- Instructions that take operands, leave some, and go on at the next place.
use Rattle.std.proofs.Common.{◌≡◌, ℕ, ◌+◌, ◌-◌, ◌≤◌, List, [], ◌∷◌, ◌++◌, length, Option, Some, None, sym, ◌∙◌, subst, arith, add-one}
use Rattle.std.specs.Prelude.{ℤ}
use Rattle.rtio_types.specs.declared.outcome.Exc.{Exc}
use Rattle.rtio_types.specs.declared.request.Request.{Request}
use Rattle.rtio_types.specs.declared.request.Reply.{Reply}
use Rattle.rtio_types.specs.Replies.{raised_by}
use Rattle.core_isa.specs.declared.code.Code.{Code}
use Rattle.core_isa.specs.Machine.{Machine, Next, with_operands, raise_or, answered, ask_then, request_then}
use Rattle.core_isa.specs.Marks.{GoesOn, function_index, mark_at}
use Rattle.core_isa.specs.Sound.{StandsAt, StaysSound}
use Rattle.core_isa.specs.Steps.{on_first, on_one, on_two, on_some}
use Rattle.core_isa.proofs.Ready.{IsReady, unit_sound}
use Rattle.core_isa.proofs.Raises.{raise_sound}

-- an instruction finds its operands, and with the others and what it leaves the frame stands at the next place
pub record Passes (code : Code) (index rec place height tries taken given : ℕ) : Type 0 where
  pub enough : taken ≤ height
  pub onward : (others : ℕ) → others + taken ≡ height → StandsAt code index (place + 1) (others + given) tries rec

-- that is what the marks say
pub passes : (code : Code) (index rec place height tries taken given : ℕ)
    → function_index code place ≡ index
    → GoesOn code place (record { height = height; tries = tries; rec = rec }) taken given
    → Passes code index rec place height tries taken given
passes code index rec place height tries taken given same goes_on =
    record {
      enough = goes_on.0;
      onward =
          λ others all.
          record {
            same = goes_on.1.same ∙ same;
            marked =
                subst
                (λ h. mark_at code (place + 1) ≡ Some (record { height = h + given; tries = tries; rec = rec }))
                (let left : height - taken ≡ others = omega arith in left)
                goes_on.1.marked;
          };
    }

-- in a state
abbrev pub PassesIn : Code → (index rec : ℕ) → Machine → (taken given : ℕ) → Type 0
PassesIn code index rec m taken given =
    Passes code index rec m.top.place (length m.top.operands) (length m.top.handlers) taken given

-- a first operand that is there
pub first_sound : (code : Code) (operands : List ℤ) (go : ℤ → Machine → Next) (m : Machine)
    → 1 ≤ length operands
    → ((a : ℤ) (rest : List ℤ) → length rest + 1 ≡ length operands → StaysSound code (go a (with_operands m rest)))
    → StaysSound code (on_first operands go m)
first_sound code [] go m enough on = absurd (omega arith)
first_sound code (a ∷ rest) go m enough on = on a rest (add-one (length rest))

-- two operands that are there
pub two_sound : (code : Code) (go : ℤ → ℤ → Machine → Next) (m : Machine)
    → 2 ≤ length m.top.operands
    → ((a b : ℤ) (rest : List ℤ) → length rest + 2 ≡ length m.top.operands → StaysSound code (go a b (with_operands m rest)))
    → StaysSound code (on_two m go)
two_sound code go m enough on =
    first_sound
    code
    m.top.operands
    (λ b m'. on_one m' (λ a. go a b))
    m
    (omega arith)
    (λ b rest all.
    first_sound
    code
    rest
    (λ a. go a b)
    (with_operands m rest)
    (omega arith)
    (λ a rest' all'. on a b rest' (omega arith)))

-- what is there
pub some_sound : {A : Type 0} (code : Code) (o : Option A) (a : A) (go : A → Next) → o ≡ Some a → StaysSound code (go a) → StaysSound code (on_some o go)
some_sound code o a go found on = subst (λ found. StaysSound code (on_some found go)) (sym found) on

-- a request whose unit is taken: without a reply the run ends, and a reply may raise
pub ask_sound : (code : Code) (index rec : ℕ) (request : Request) (go : Reply → Machine → Next) (m : Machine)
    → IsReady code index rec m
    → ((reply : Reply) (replies : List Reply) → StaysSound code (go reply (record m { asked = m.asked ++ request ∷ []; replies = replies })))
    → StaysSound code (ask_then request go m)
ask_sound code index rec request go m ready on = by_replies m.replies
  where
    by_raised : (replies : List Reply) (reply : Reply) (o : Option Exc) → StaysSound code (raise_or o (go reply) (record m { asked = m.asked ++ request ∷ []; replies = replies }))
    by_raised replies reply None = on reply replies
    by_raised replies reply (Some x) =
        raise_sound code index rec x (record m { asked = m.asked ++ request ∷ []; replies = replies }) ready

    by_replies : (replies : List Reply) → StaysSound code (answered replies go (record m { asked = m.asked ++ request ∷ [] }))
    by_replies [] = tt
    by_replies (reply ∷ replies) = by_raised replies reply (raised_by reply)

-- a request: without a unit the run ends
pub request_sound : (code : Code) (index rec : ℕ) (request : Request) (go : Reply → Machine → Next) (m : Machine)
    → IsReady code index rec m
    → ((reply : Reply) (left : ℕ) (replies : List Reply) → StaysSound code (go reply (record m { units = left; asked = m.asked ++ request ∷ []; replies = replies })))
    → StaysSound code (request_then request go m)
request_sound code index rec request go m ready on =
    unit_sound
    code
    (ask_then request go)
    m
    (λ left.
    ask_sound code index rec request go (record m { units = left }) ready (λ reply replies. on reply left replies))
