-- The body of a function: what surrounds it, how its frame begins, and what its code ends with.
use Rattle.std.specs.Prelude.{◌≡◌, ℕ, ◌+◌, ◌-◌, List, [], ◌∷◌, ◌++◌, length}
use Rattle.std.specs.Prelude.{replicate, ℤ, pos, Bool, true, false, None, ⊤}
use Rattle.kern_calls.specs.Types.{Names}
use Rattle.timeline_sem.specs.Actions.{Action}
use Rattle.timeline_sem.specs.Programs.{initial_values, leave_function}
use Rattle.core_isa.specs.declared.code.CodeFunction.{CodeFunction}
use Rattle.core_isa.specs.declared.instr.Instr.{Instr}
use Rattle.core_isa.specs.declared.instr.Instr.TheVariants as I
use Rattle.code_forms.specs.Setting.{slots_of_names}
use Rattle.code_follows.specs.Stands.{Setting, slots_of, HasNames}

-- the setting of a function's body, with so many further functions
abbrev pub body_of : (names : Names) → (room limit : ℕ) → (outside value : Bool) → Setting
body_of names room limit outside value =
    record { names = names; room = room; limit = limit; temporaries = []; handlers = 0; outside = outside; may_return = true; value = value; loop = None }

-- a function's frame begins with its arguments in its first
-- slots, and 0 in the others: that is what its names are at first
pub record Enters (names : Names) (g : CodeFunction) (limit : ℕ) (args : List ℤ) : Type 0 where
  pub params : g.params ≡ length args
  pub limited : g.slots ≡ slots_of_names names + limit
  pub free : List ℤ
  pub slots : args ++ replicate (g.slots - length args) (pos 0) ≡ slots_of (initial_values names args) ++ ([] ++ ([] ++ free))
  pub add : slots_of_names names + length free ≡ g.slots
  pub shapes : HasNames names (initial_values names args)

-- what a function's code ends with
abbrev pub end_instrs : Bool → List Instr
end_instrs true = I.Const (pos 0) ∷ I.Return ∷ []
end_instrs false = I.Return ∷ []

-- a function's body with its own names
abbrev pub called : (names : Names) (args : List ℤ) → Action ⊤ → Action ℤ
called names args body s = leave_function s.values (body (record s { values = initial_values names args }))
