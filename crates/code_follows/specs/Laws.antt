-- Laws of the claims on parts.
use Rattle.std.specs.Prelude.{◌≡◌, ℕ, suc, ◌+◌, List, [], ◌∷◌, reverse, ℤ, slice_get, Some, Bool, true, ⊤}
use Rattle.rtio_types.specs.declared.request.Reply.{Reply}
use Rattle.kern_syntax.specs.Tree.{FunctionTree, ProgramTree}
use Rattle.kern_calls.specs.Types.{Names, names_of}
use Rattle.timeline_sem.specs.Actions.{Action, take_unit, ◌>>=◌, ◌>>◌}
use Rattle.timeline_sem.specs.Statements.{block}
use Rattle.timeline_sem.specs.Programs.{meaning, call_room, function_call}
use Rattle.core_isa.specs.declared.code.Code.{Code}
use Rattle.core_isa.specs.declared.code.CodeFunction.{CodeFunction}
use Rattle.core_isa.specs.declared.instr.Instr.TheVariants as I
use Rattle.core_isa.specs.WellAsked.{RepliesFit}
use Rattle.code_follows.specs.Functions.{body_of, Enters, end_instrs, called}
use Rattle.code_follows.specs.Lawful.{RunsAsMeant}
use Rattle.code_follows.specs.Parts.{Follows, Stand}
use Rattle.code_follows.specs.Stands.{Local, holding, Setting, Fits64, AllNumbersFit, result_operands}

-- where the code of a part that gives a number stands before that of another, which
-- goes by that number, the whole does what both do, with all their early ends
abbrev pub PartsFollowOneAnother : List Reply → Code → Type 0
PartsFollowOneAnother given code =
    (most : ℕ) (setting : Setting) (first mid past : ℕ) (inputs : Local) (results results' : ℤ → Local) (m : Action ℤ) (f : ℤ → Action ℤ)
    → Follows given code ⊤ most setting first mid inputs Fits64 results m
    → ((a : ℤ) → Follows given code (⊤ × Fits64 a) most setting mid past (results a) Fits64 results' (f a))
    → Follows given code ⊤ most setting first past inputs Fits64 results' (m >>= f)

-- a call does what the function's body does with its own names, where the body's code does what the body means
abbrev pub CallsFollow : List Reply → Code → Type 0
CallsFollow given code =
    (most : ℕ) (setting : Setting) (first k room limit past : ℕ) (outside value : Bool) (names : Names) (g : CodeFunction) (args : List ℤ) (body : Action ⊤)
    → setting.room ≡ suc room
    → (outside ≡ true → setting.outside ≡ true)
    → slice_get code.functions k ≡ Some g
    → g.value ≡ value
    → Enters names g limit args
    → Stand code.lines first (I.Call k ∷ [])
    → Stand code.lines past (end_instrs value)
    → Follows given code ⊤ most (body_of names room limit outside value) g.first past (holding []) (λ v. ⊤) (λ v. holding []) body
    → Follows given code ⊤ most setting first (first + 1) (holding (reverse args)) Fits64 (λ v. holding (result_operands value v)) (take_unit >> called names args body)

-- a run of a function, from its boot on, gives what the function means, where its body's code does what the body means
abbrev pub BodiesRunAsMeant : List Reply → Code → Type 0
BodiesRunAsMeant given code =
    (function : ℕ) (g : CodeFunction) (args : List ℤ) (cursor : ℤ) (units : ℕ) (program : ProgramTree) (f : FunctionTree) (limit past : ℕ) (value : Bool)
    → slice_get code.functions function ≡ Some g
    → slice_get program function ≡ Some f
    → g.value ≡ value
    → Enters (names_of program f) g limit args
    → Stand code.lines past (end_instrs value)
    → Fits64 cursor
    → AllNumbersFit given
    → RepliesFit (meaning program function args cursor units given).requests given
    → Follows given code ⊤ units (body_of (names_of program f) call_room limit true value) g.first past
    (holding []) (λ v. ⊤) (λ v. holding [])
    (block (record { program = program; names = names_of program f }) (function_call program call_room) f.body)
    → RunsAsMeant program code function args cursor units given
