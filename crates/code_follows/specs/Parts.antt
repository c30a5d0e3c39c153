-- The claim that is proved of each part of a program, by induction on the calls that are left and on the tree.
use Rattle.std.specs.Prelude.{true, false, ◌≡◌, ℕ, ◌+◌, ◌≤◌, List, [], ◌∷◌, ◌++◌, ℤ, slice_get, Option, Some, None}
use Rattle.rtio_types.specs.declared.request.Request.{Request}
use Rattle.rtio_types.specs.declared.request.Reply.{Reply}
use Rattle.timeline_sem.specs.Actions.{State, Action}
use Rattle.timeline_sem.specs.Laws.{final}
use Rattle.core_isa.specs.declared.code.Code.{Code}
use Rattle.core_isa.specs.declared.code.CodeLine.{CodeLine}
use Rattle.core_isa.specs.declared.instr.Instr.{Instr}
use Rattle.core_isa.specs.Machine.{goes}
use Rattle.core_isa.specs.WellAsked.{RepliesFit}
use Rattle.code_follows.specs.Stands.{Around, Local, Loop, Setting, Suits, SlotsAdd, machine_at, Agrees, EndsWith}

-- these instructions stand in the code from a place on
abbrev pub Stand : List CodeLine → ℕ → List Instr → Type 0
Stand lines place [] = Unit {0}
Stand lines place (i ∷ rest) = (line : CodeLine) × (slice_get lines place ≡ Some line) × (line.instr ≡ i) × Stand lines (place + 1) rest

-- what no part does: units never rise, and requests are only added
pub record Moved (s s' : State) : Type 0 where
  pub units : s'.units ≤ s.units
  pub asked : (own : List Request) × (s'.asked ≡ s.asked ++ own)

-- from each machine at the part's first place that stands for a state, with what the
-- part takes, the machine does what the part does: where a premise holds, so many
-- units are left at most, and where each reply given fits the request that gets it
pub record Follows (given : List Reply) (code : Code) {A : Type 0} (premise : Type 0) (most : ℕ) (setting : Setting)
    (first past : ℕ) (inputs : Local) (good : A → Type 0) (results : A → Local) (action : Action A) : Type 0 where
  pub moves : (s : State) → Moved s (final (action s))
  pub follows : (around : Around) (s : State) (free : List ℤ) (count : ℕ)
      → premise
      → Suits setting around
      → Agrees given around.names around.opening s
      → SlotsAdd around inputs.temporaries free
      → s.units ≤ most
      → RepliesFit (final (action s)).asked given
      → EndsWith given code setting (goes (machine_at around s inputs free first count)) around past good results (action s)

-- something of a part's own with more beneath it: its operands lie on those, its temporary slots behind those
abbrev pub beneath : Local → Local → Local
beneath extra local =
    record { operands = local.operands ++ extra.operands; temporaries = extra.temporaries ++ local.temporaries }

-- the surroundings of a part that has this beneath it
abbrev pub within : Local → Around → Around
within extra around =
    record around { operands = extra.operands ++ around.operands; temporaries = around.temporaries ++ extra.temporaries }

-- the setting of a part that has more temporary slots beneath it
abbrev pub deeper : List ℤ → Setting → Setting
deeper own setting = record setting { temporaries = setting.temporaries ++ own }

-- the setting of a part that doesn't end by a loop's statement or a `return`
abbrev pub alone : Setting → Setting
alone setting = record setting { may_return = false; loop = None }

-- where a part may leave a loop, nothing lies on the operands beneath it
abbrev pub IsBare : Option Loop → List ℤ → Type 0
IsBare None operands = Unit {0}
IsBare (Some loop) operands = operands ≡ []

-- the same where it may end the function
abbrev pub IsBareIn : Setting → List ℤ → Type 0
IsBareIn setting operands = IsBare setting.loop operands × (setting.may_return ≡ true → operands ≡ [])
