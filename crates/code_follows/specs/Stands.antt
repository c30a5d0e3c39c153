-- How a state of the machine stands for a state of the meaning, and where the code of a part leads.
use Rattle.std.specs.Prelude.{◌≡◌, ℕ, ◌+◌, ◌≤◌, List, [], ◌∷◌, ◌++◌, length, take, drop, ℤ}
use Rattle.std.specs.Prelude.{slice_get, FitsSigned, Option, Some, None, is_some, Bool, true, false}
use Rattle.rtio_types.specs.declared.event.Event.{Event}
use Rattle.rtio_types.specs.declared.outcome.Exc.{Exc}
use Rattle.rtio_types.specs.declared.request.Reply.{Reply}
use Rattle.rtio_types.specs.declared.request.Reply.TheVariants as R
use Rattle.rtio_types.specs.declared.request.Value.{Value}
use Rattle.rtio_types.specs.declared.request.Value.TheVariants as W
use Rattle.std.specs.Int.{w64}
use Rattle.kern_syntax.specs.Tree.{Bytes}
use Rattle.kern_calls.specs.declared.types.ValueType.{ValueType}
use Rattle.kern_calls.specs.declared.types.ValueType.TheVariants as V
use Rattle.kern_calls.specs.Types.{Names}
use Rattle.timeline_sem.specs.Actions.{State, Reason, break, continue, return, raised}
use Rattle.timeline_sem.specs.Actions.{budget, unanswered, Completion, normal, early}
use Rattle.core_isa.specs.declared.code.Code.{Code}
use Rattle.core_isa.specs.declared.code.CodeFunction.{CodeFunction}
use Rattle.core_isa.specs.declared.code.CodeLine.{CodeLine}
use Rattle.core_isa.specs.declared.instr.Instr.TheVariants as I
use Rattle.core_isa.specs.Machine as X
use Rattle.core_isa.specs.Machine.{HandlerPoint, Frame, OpenRecording, Machine, Next, goes, ends, raise}
use Rattle.core_isa.specs.Runs.{go_on, steps}
use Rattle.code_forms.specs.Setting.{slots_of_names}

-- an open recording without its outputs: its name, the cursor before it, and how many callers its function has
pub record Opening : Type 0 where
  pub name : List ℕ
  pub saved : ℤ
  pub callers : ℕ

-- a number of 64 bits
abbrev pub Fits64 : ℤ → Type 0
Fits64 v = FitsSigned w64 v

-- numbers of 64 bits
abbrev pub AllFit64 : List ℤ → Type 0
AllFit64 [] = Unit {0}
AllFit64 (v ∷ vs) = Fits64 v × AllFit64 vs

-- a value of the shape that its type asks: a list as long as an array, or else a number
abbrev pub HasShape : ValueType → Value → Type 0
HasShape (V.Array n) (W.List items) = (length items ≡ n) × AllFit64 items
HasShape (V.Array n) (W.Int v) = ⊥
HasShape t (W.Int v) = Fits64 v
HasShape t (W.List items) = ⊥

-- the state has these names in their order, each with a value of its type's shape
abbrev pub HasNames : Names → List (Bytes × Value) → Type 0
HasNames [] [] = Unit {0}
HasNames (name ∷ names) (entry ∷ entries) = (entry.0 ≡ name.0) × HasShape name.1 entry.1 × HasNames names entries
HasNames [] (entry ∷ entries) = ⊥
HasNames (name ∷ names) [] = ⊥

-- the numbers of a reply are of 64 bits
abbrev pub NumbersFit : Reply → Type 0
NumbersFit (R.Time x) = Fits64 x
NumbersFit (R.Stamp x) = Fits64 x
NumbersFit (R.Handle x) = Fits64 x
NumbersFit (R.Trace recording) = Fits64 recording.length
NumbersFit reply = Unit {0}

-- those of all of them
abbrev pub AllNumbersFit : List Reply → Type 0
AllNumbersFit [] = Unit {0}
AllNumbersFit (r ∷ rs) = NumbersFit r × AllNumbersFit rs

-- what surrounds a part while its code runs, and is as before where the part ends
-- normally: the function and its names, the temporary slots that the enclosing parts
-- use, the operands, handlers and callers, and the open recording if there is one
pub record Around : Type 0 where
  pub function : CodeFunction
  pub names : Names
  pub temporaries : List ℤ
  pub operands : List ℤ
  pub handlers : List HandlerPoint
  pub callers : List Frame
  pub opening : Option Opening

-- what a part has of its own beyond its surroundings: operands,
-- the last one first, and temporary slots, the last one last
pub record Local : Type 0 where
  pub operands : List ℤ
  pub temporaries : List ℤ

-- operands alone
abbrev pub holding : List ℤ → Local
holding operands = record { operands = operands; temporaries = [] }

-- the slots of a value: one of a number, and one for each item of an array
abbrev pub slots_of_value : Value → List ℤ
slots_of_value (W.Int n) = n ∷ []
slots_of_value (W.List items) = items

-- the slots of the names, in their order
abbrev pub slots_of : List (Bytes × Value) → List ℤ
slots_of [] = []
slots_of (entry ∷ rest) = slots_of_value entry.1 ++ slots_of rest

-- the open recording with its outputs so far
abbrev pub recording_of : Option Opening → Option (List Event) → Option OpenRecording
recording_of (Some opening) (Some events) =
    Some (record { name = opening.name; saved = opening.saved; events = events; callers = opening.callers })
recording_of _ _ = None

-- the machine that stands for a state at a place: with what the part has of its
-- own, some free slots behind the temporary ones, and a count of instructions
abbrev pub machine_at : Around → State → Local → (free : List ℤ) → (place count : ℕ) → Machine
machine_at around s local free place count =
    record {
      top = record {
        function = around.function;
        place = place;
        slots = slots_of s.values ++ (around.temporaries ++ (local.temporaries ++ free));
        operands = local.operands ++ around.operands;
        handlers = around.handlers;
      };
      callers = around.callers;
      cursor = s.cursor;
      units = s.units;
      recording = recording_of around.opening s.collected;
      replies = s.replies;
      asked = s.asked;
      steps = count;
    }

-- an open recording was opened by this function or by one of its callers
abbrev pub IsOpenedBelow : Option Opening → ℕ → Type 0
IsOpenedBelow None callers = Unit {0}
IsOpenedBelow (Some opening) callers = opening.callers ≤ callers

-- where none is open no handler was added with one open
abbrev pub NoneOpen : List HandlerPoint → Type 0
NoneOpen [] = Unit {0}
NoneOpen (handler ∷ rest) = (handler.recording ≡ false) × NoneOpen rest

-- the slots are all there: those of the names, the temporary ones, and the free ones
abbrev pub SlotsAdd : Around → (own free : List ℤ) → Type 0
SlotsAdd around own free =
    slots_of_names around.names + length around.temporaries + length own + length free ≡ around.function.slots

-- where the enclosing loop goes on and ends, how many handlers
-- were added inside it, and how many temporary slots it keeps
pub record Loop : Type 0 where
  pub again_place : ℕ
  pub end_place : ℕ
  pub handlers_inside : ℕ
  pub temporaries_kept : ℕ

-- what surrounds the enclosing loop of a part
abbrev pub around_loop : Loop → Around → Around
around_loop loop around =
    record around { temporaries = take loop.temporaries_kept around.temporaries; handlers = drop loop.handlers_inside around.handlers }

-- the part has what its enclosing loop keeps
abbrev pub LoopSuits : Option Loop → Around → Type 0
LoopSuits None around = Unit {0}
LoopSuits (Some loop) around =
    (loop.temporaries_kept ≤ length around.temporaries) × (loop.handlers_inside ≤ length around.handlers)

-- the cursor at an end: the saved one where a recording was open at the part's first place
abbrev pub cursor_at_end : Option Opening → ℤ → ℤ
cursor_at_end None t = t
cursor_at_end (Some opening) t = opening.saved

-- what a Return finds: the value as the only operand where the function has one, and no handlers
abbrev pub result_operands : Bool → ℤ → List ℤ
result_operands true v = v ∷ []
result_operands false v = []

-- the surroundings at a Return: no handlers, no other operands and no temporary slots
abbrev pub at_return : Around → Around
at_return around = record around { operands = []; handlers = []; temporaries = [] }

-- a Return stands there
abbrev pub IsReturn : Option CodeLine → Type 0
IsReturn None = ⊥
IsReturn (Some line) = line.instr ≡ I.Return

-- what a part may rest on, wherever it stands in a function: the names, how many further functions may
-- be active, how many temporary slots the function has and what the enclosing parts hold in theirs,
-- how many handlers the function has added, whether no recording is open, whether a `return` may end
-- it (and then nothing lies on the operands), whether the function has a value, and the enclosing loop
pub record Setting : Type 0 where
  pub names : Names
  pub room : ℕ
  pub limit : ℕ
  pub temporaries : List ℤ
  pub handlers : ℕ
  pub outside : Bool
  pub may_return : Bool
  pub value : Bool
  pub loop : Option Loop

-- the surroundings are as the setting says
pub record Suits (setting : Setting) (around : Around) : Type 0 where
  pub names : around.names ≡ setting.names
  pub slots : around.function.slots ≡ slots_of_names around.names + setting.limit
  pub temporaries : around.temporaries ≡ setting.temporaries
  pub handlers : length around.handlers ≡ setting.handlers
  pub outside : setting.outside ≡ true → around.opening ≡ None
  pub loop : LoopSuits setting.loop around
  pub value : around.function.value ≡ setting.value
  pub bare : setting.may_return ≡ true → around.operands ≡ []
  pub opened_below : IsOpenedBelow around.opening (length around.callers)
  pub none_open : around.opening ≡ None → NoneOpen around.handlers
  pub active : length around.callers + 1 + setting.room ≡ 64

module _ (given : List Reply) where
  -- a state and its surroundings agree: the names have their values, outputs are collected just where a recording is
  -- open, every number is one of 64 bits, and the replies left are those given without as many as there were requests
  pub record Agrees (names : Names) (opening : Option Opening) (s : State) : Type 0 where
    pub shapes : HasNames names s.values
    pub collects : is_some s.collected ≡ is_some opening
    pub cursor : Fits64 s.cursor
    pub replies : s.replies ≡ drop (length s.asked) given
    pub numbers : AllNumbersFit s.replies

  module _ (code : Code) where
    -- whatever follows the second, follows the first with some more steps
    pub record Leads (from to : Next) : Type 0 where
      pub by : (k : ℕ) → (j : ℕ) × (k ≤ j) × (go_on from (steps code j) ≡ go_on to (steps code k))

    -- the machine comes to stand for a state at a place, with something of its own
    pub record Comes (from : Next) (around : Around) (s : State) (local : Local) (place : ℕ) : Type 0 where
      pub free : List ℤ
      pub count : ℕ
      pub slots : SlotsAdd around local.temporaries free
      pub agrees : Agrees around.names around.opening s
      pub leads : Leads from (goes (machine_at around s local free place count))

    -- the machine comes to where a state that stands for this one
    -- raises the exception, under the same handlers and callers
    pub record ComesToRaise (from : Next) (around : Around) (s : State) (x : Exc) : Type 0 where
      pub local : Local
      pub free : List ℤ
      pub place : ℕ
      pub count : ℕ
      pub slots : SlotsAdd around local.temporaries free
      pub agrees : Agrees around.names around.opening s
      pub leads : Leads from (raise x (machine_at around s local free place count))

    -- the machine ends, with the state's units and requests
    pub record EndsAs (from : Next) (around : Around) (s : State) (reason : X.MachineEnd) : Type 0 where
      pub last : Machine
      pub leads : Leads from (ends reason last)
      pub units : last.units ≡ s.units
      pub asked : last.asked ≡ s.asked
      pub cursor : last.cursor ≡ cursor_at_end around.opening s.cursor

    -- a Return of this frame
    pub record ComesToReturn (from : Next) (around : Around) (s : State) (v : ℤ) : Type 0 where
      pub place : ℕ
      pub stands : IsReturn (slice_get code.lines place)
      pub comes : Comes from (at_return around) s (holding (result_operands around.function.value v)) place
      pub fits : Fits64 v

    -- where a `return` may end the part
    abbrev pub ReturnsIf : Bool → Next → Around → State → ℤ → Type 0
    ReturnsIf false from around s v = ⊥
    ReturnsIf true from around s v = ComesToReturn from around s v

    -- a place of the enclosing loop, with its handlers and temporary slots
    abbrev pub ComesToLoop : Next → Around → Option Loop → State → (Loop → ℕ) → Type 0
    ComesToLoop from around None s place_of = ⊥
    ComesToLoop from around (Some loop) s place_of = Comes from (around_loop loop around) s (holding []) (place_of loop)

    -- what an early end of a part means to the machine
    abbrev pub EndsEarly : Setting → Next → Around → Reason → State → Type 0
    EndsEarly setting from around break s = ComesToLoop from around setting.loop s (λ l. l.end_place)
    EndsEarly setting from around continue s = ComesToLoop from around setting.loop s (λ l. l.again_place)
    EndsEarly setting from around (return v) s = ReturnsIf setting.may_return from around s v
    EndsEarly setting from around (raised x) s = ComesToRaise from around s x
    EndsEarly setting from around budget s = EndsAs from around s X.budget
    EndsEarly setting from around unanswered s = EndsAs from around s X.unanswered

    -- what a completion of a part means to the machine: at a normal end its value is good,
    -- and the machine stands at the place behind the part with what comes of the value
    abbrev pub EndsWith : {A : Type 0} → Setting → Next → Around → (place : ℕ) → (good : A → Type 0) → (results : A → Local) → Completion A → Type 0
    EndsWith setting from around place good results (normal a s) = good a × Comes from around s (results a) place
    EndsWith setting from around place good results (early reason s) = EndsEarly setting from around reason s
