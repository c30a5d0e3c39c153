-- The calls and methods that the language has of itself.
use Rattle.std.specs.Prelude.{ℕ, List, [], ◌∷◌, Bool, true, false, if◌then◌else◌}
use Rattle.std.specs.Prelude.{Option, Some, None, option_map, bytes_eq, codes}
use Rattle.kern_syntax.specs.declared.program.DeclaredType.{DeclaredType}
use Rattle.kern_syntax.specs.declared.program.DeclaredType.TheVariants.{Int32, Int64}
use Rattle.rtio_types.specs.declared.board.ChannelKind.{ChannelKind}
use Rattle.rtio_types.specs.declared.board.ChannelKind.TheVariants as K
use Rattle.rtio_types.specs.Board.{channel_of_name, kind_of_channel}
use Rattle.kern_syntax.specs.Tree.{Bytes}
use Rattle.kern_calls.specs.declared.calls.Builtin.{Builtin}
use Rattle.kern_calls.specs.declared.calls.Builtin.TheVariants as B
use Rattle.kern_calls.specs.declared.calls.Object.{Object}
use Rattle.kern_calls.specs.declared.calls.Object.TheVariants as O
use Rattle.kern_calls.specs.declared.calls.Operation.{Operation}
use Rattle.kern_calls.specs.declared.calls.Operation.TheVariants as P
use Rattle.kern_calls.specs.declared.wanted.Wanted.{Wanted}
use Rattle.kern_calls.specs.declared.wanted.Wanted.TheVariants as W

-- what a name stands for in a table, if it is there
abbrev pub look_up : {A : Type 0} → List (Bytes × A) → Bytes → Option A
look_up [] name = None
look_up (entry ∷ rest) name = if bytes_eq name entry.0 then Some entry.1 else look_up rest name

-- the language's own functions by their names
abbrev pub builtins : List (Bytes × Builtin)
builtins =
    (codes "now_mu", B.NowMu)
    ∷ (codes "at_mu", B.AtMu)
    ∷ (codes "delay_mu", B.DelayMu)
    ∷ (codes "set_dataset", B.SetDataset)
    ∷ (codes "len", B.Len)
    ∷ (codes "int32", B.ToInt32)
    ∷ (codes "int64", B.ToInt64)
    ∷ []

-- the language's own function of this name
abbrev pub builtin_named : Bytes → Option Builtin
builtin_named name = look_up builtins name

-- a channel of the board with its kind
abbrev pub object_of_channel : Option ℕ → Option Object
object_of_channel None = None
object_of_channel (Some number) = option_map (λ kind. O.Channel kind number) (kind_of_channel number)

-- the object of this name
abbrev pub object_named : Bytes → Option Object
object_named name =
    if bytes_eq name (codes "core")
    then Some O.Core
    else (if bytes_eq name (codes "core_dma") then Some O.CoreDma else object_of_channel (channel_of_name name))

-- the methods of an object
abbrev pub methods : Object → List (Bytes × Operation)
methods O.Core =
    (codes "get_rtio_counter_mu", P.Counter)
    ∷ (codes "break_realtime", P.BreakRealtime)
    ∷ (codes "reset", P.Reset)
    ∷ (codes "wait_until_mu", P.WaitUntil)
    ∷ []
methods O.CoreDma =
    (codes "playback", P.Playback)
    ∷ (codes "playback_handle", P.PlaybackHandle)
    ∷ (codes "get_handle", P.GetHandle)
    ∷ (codes "erase", P.Erase)
    ∷ []
methods (O.Channel K.Out c) = (codes "on", P.On c) ∷ (codes "off", P.Off c) ∷ (codes "pulse_mu", P.Pulse c) ∷ []
methods (O.Channel K.OutRaw c) =
    (codes "on", P.On c) ∷ (codes "off", P.Off c) ∷ (codes "pulse_mu", P.Pulse c) ∷ (codes "write", P.Write c) ∷ []
methods (O.Channel K.Input c) =
    (codes "gate_rising_mu", P.GateRising c)
    ∷ (codes "gate_falling_mu", P.GateFalling c)
    ∷ (codes "gate_both_mu", P.GateBoth c)
    ∷ (codes "timestamp_mu", P.Timestamp c)
    ∷ (codes "count", P.Count c)
    ∷ []

-- the method of this name of an object
abbrev pub method_of : Option Object → Bytes → Option Operation
method_of None name = None
method_of (Some object) name = look_up (methods object) name

-- the method of this name of the object of this name
abbrev pub method_named : Bytes → Bytes → Option Operation
method_named object name = method_of (object_named object) name

-- the type of a builtin's value, if it has one
abbrev pub builtin_result : Builtin → Option DeclaredType
builtin_result B.NowMu = Some Int64
builtin_result B.Len = Some Int32
builtin_result B.ToInt32 = Some Int32
builtin_result B.ToInt64 = Some Int64
builtin_result _ = None

-- the type of a method's value, if it has one
abbrev pub operation_result : Operation → Option DeclaredType
operation_result (P.GateRising c) = Some Int64
operation_result (P.GateFalling c) = Some Int64
operation_result (P.GateBoth c) = Some Int64
operation_result (P.Timestamp c) = Some Int64
operation_result (P.Count c) = Some Int32
operation_result P.Counter = Some Int64
operation_result P.GetHandle = Some Int64
operation_result _ = None

-- what a builtin takes
abbrev pub builtin_takes : Builtin → List Wanted
builtin_takes B.NowMu = []
builtin_takes B.SetDataset = W.Text ∷ W.Int64OrArray ∷ []
builtin_takes B.Len = W.Array ∷ []
builtin_takes _ = W.Int64 ∷ []

-- what a method takes
abbrev pub operation_takes : Operation → List Wanted
operation_takes (P.On c) = []
operation_takes (P.Off c) = []
operation_takes (P.Write c) = W.Int32 ∷ W.Int32 ∷ []
operation_takes P.Counter = []
operation_takes P.BreakRealtime = []
operation_takes P.Reset = []
operation_takes P.Playback = W.Text ∷ []
operation_takes P.GetHandle = W.Text ∷ []
operation_takes P.Erase = W.Text ∷ []
operation_takes _ = W.Int64 ∷ []

-- a builtin that asks the core for more than outputs or opens an input's gate, and may not stand in a recording
abbrev pub builtin_is_live : Builtin → Bool
builtin_is_live B.SetDataset = true
builtin_is_live _ = false

-- a method that asks the core for more than outputs or opens an input's gate, and may not stand in a recording
abbrev pub is_live : Operation → Bool
is_live (P.On c) = false
is_live (P.Off c) = false
is_live (P.Pulse c) = false
is_live (P.Write c) = false
is_live _ = true
