-- The instructions of methods are in their ranges, and few.
use Rattle.std.proofs.Common.{◌≡◌, ℕ, ◌+◌, ◌<◌, ◌≤◌, ◌^◌, List, [], ◌∷◌, length, Option, Some, None, refl, ap, subst, arith}
use Rattle.std.specs.Prelude.{Bool, true, false, nat_lt, bytes_eq, codes, is_some, unwrap_or, if◌then◌else◌, option_map}
use Rattle.std.proofs.lemmas.Bool.{and_from, lt-ltb, ltb-true, false≢true}
use Rattle.rtio_types.specs.Board.{channel_of_name}
use Rattle.rtio_types.specs.declared.board.ChannelKind.TheVariants as K
use Rattle.kern_syntax.specs.Tree.{Bytes}
use Rattle.kern_calls.specs.declared.calls.Object.{Object}
use Rattle.kern_calls.specs.declared.calls.Object.TheVariants as O
use Rattle.kern_calls.specs.declared.calls.Operation.{Operation}
use Rattle.kern_calls.specs.declared.calls.Operation.TheVariants as P
use Rattle.kern_calls.specs.Calls.{look_up, object_of_channel, object_named, methods, method_of, method_named}
use Rattle.core_isa.specs.declared.instr.Instr.TheVariants as I
use Rattle.core_image.specs.Ranges.{is_byte, is_short}
use Rattle.code_forms.specs.Setting.{Setting}
use Rattle.code_forms.specs.Operations.{operation_instrs, method_instrs}
use Rattle.code_ranges.specs.Fits.{SettingFits}
use Rattle.code_ranges.proofs.Straight.{InstrFits, InstrsFit}
use Rattle.code_ranges.proofs.Operators.{text_fits}

-- the channel that a method speaks of; 0 where it speaks of none
abbrev channel_of : Operation → ℕ
channel_of (P.On c) = c
channel_of (P.Off c) = c
channel_of (P.Pulse c) = c
channel_of (P.Write c) = c
channel_of (P.GateRising c) = c
channel_of (P.GateFalling c) = c
channel_of (P.GateBoth c) = c
channel_of (P.Timestamp c) = c
channel_of (P.Count c) = c
channel_of P.Counter = 0
channel_of P.BreakRealtime = 0
channel_of P.Reset = 0
channel_of P.WaitUntil = 0
channel_of P.Playback = 0
channel_of P.PlaybackHandle = 0
channel_of P.GetHandle = 0
channel_of P.Erase = 0

abbrev IsOnBoard : Operation → Type 0
IsOnBoard op = channel_of op < 32

-- what stands in a table is what each entry of it is
abbrev AllOnBoard : List (Bytes × Operation) → Type 0
AllOnBoard [] = Unit {0}
AllOnBoard (entry ∷ rest) = IsOnBoard entry.1 × AllOnBoard rest

looked_up : (table : List (Bytes × Operation)) (name : Bytes) (op : Operation) → AllOnBoard table → look_up table name ≡ Some op → IsOnBoard op
looked_up [] name op all e = absurd (false≢true (ap is_some e))
looked_up (entry ∷ rest) name op all e = by_test (bytes_eq name entry.0) e (looked_up rest name op all.1)
  where
    by_test : (b : Bool) → (if b then Some entry.1 else look_up rest name) ≡ Some op → (look_up rest name ≡ Some op → IsOnBoard op) → IsOnBoard op
    by_test true e' k = subst IsOnBoard (ap (λ o. unwrap_or o op) e') all.0
    by_test false e' k = k e'

-- the channels of objects are those of the board
abbrev HasChannel : Option Object → Type 0
HasChannel (Some (O.Channel kind c)) = c < 32
HasChannel o = Unit {0}

channel_there : (c : ℕ) → HasChannel (object_of_channel (Some c))
channel_there c = by_first (nat_lt c 16) refl (nat_lt c 24) refl (nat_lt c 32) refl
  where
    by_first : (a : Bool) → nat_lt c 16 ≡ a → (b : Bool) → nat_lt c 24 ≡ b → (d : Bool) → nat_lt c 32 ≡ d → HasChannel (option_map (λ kind. O.Channel kind c) (if a then Some K.Out else (if b then Some K.OutRaw else (if d then Some K.Input else None))))
    by_first true x b y d z = let less = ltb-true c 16 x in omega (arith, less)
    by_first false x true y d z = let less = ltb-true c 24 y in omega (arith, less)
    by_first false x false y true z = let less = ltb-true c 32 z in omega (arith, less)
    by_first false x false y false z = tt

named_there : (o : Option ℕ) → HasChannel (object_of_channel o)
named_there None = tt
named_there (Some c) = channel_there c

object_there : (name : Bytes) → HasChannel (object_named name)
object_there name = by_name (bytes_eq name (codes "core")) (bytes_eq name (codes "core_dma")) (named_there (channel_of_name name))
  where
    by_name : (a b : Bool) → HasChannel (object_of_channel (channel_of_name name)) → HasChannel (if a then Some O.Core else (if b then Some O.CoreDma else object_of_channel (channel_of_name name)))
    by_name true b h = tt
    by_name false true h = tt
    by_name false false h = h

on_board : (o : Option Object) (name : Bytes) (op : Operation) → HasChannel o → method_of o name ≡ Some op → IsOnBoard op
on_board None name op h e = absurd (false≢true (ap is_some e))
on_board (Some O.Core) name op h e = looked_up (methods O.Core) name op (omega arith, (omega arith, (omega arith, (omega arith, tt)))) e
on_board (Some O.CoreDma) name op h e = looked_up (methods O.CoreDma) name op (omega arith, (omega arith, (omega arith, (omega arith, tt)))) e
on_board (Some (O.Channel K.Out c)) name op h e = looked_up (methods (O.Channel K.Out c)) name op (h, (h, (h, tt))) e
on_board (Some (O.Channel K.OutRaw c)) name op h e = looked_up (methods (O.Channel K.OutRaw c)) name op (h, (h, (h, (h, tt)))) e
on_board (Some (O.Channel K.Input c)) name op h e = looked_up (methods (O.Channel K.Input c)) name op (h, (h, (h, (h, (h, tt))))) e

place_fits : (p : ℕ) → p < 2 ^ 32 → InstrFits (I.Jump p)
place_fits p less = lt-ltb p 4294967296 (omega (arith, less))

operation_short : (cs : Setting) (free place : ℕ) (text : Bytes) (op : Operation) → length (operation_instrs cs free place text op) ≤ 13
operation_short cs free place text (P.On c) = omega arith
operation_short cs free place text (P.Off c) = omega arith
operation_short cs free place text (P.Pulse c) = omega arith
operation_short cs free place text (P.Write c) = omega arith
operation_short cs free place text (P.GateRising c) = omega arith
operation_short cs free place text (P.GateFalling c) = omega arith
operation_short cs free place text (P.GateBoth c) = omega arith
operation_short cs free place text (P.Timestamp c) = omega arith
operation_short cs free place text (P.Count c) = omega arith
operation_short cs free place text P.Counter = omega arith
operation_short cs free place text P.BreakRealtime = omega arith
operation_short cs free place text P.Reset = omega arith
operation_short cs free place text P.WaitUntil = omega arith
operation_short cs free place text P.Playback = omega arith
operation_short cs free place text P.PlaybackHandle = omega arith
operation_short cs free place text P.GetHandle = omega arith
operation_short cs free place text P.Erase = omega arith

operation_same : (cs : Setting) (free place : ℕ) (text : Bytes) (op : Operation) → length (operation_instrs cs 0 0 text op) ≡ length (operation_instrs cs free place text op)
operation_same cs free place text (P.On c) = refl
operation_same cs free place text (P.Off c) = refl
operation_same cs free place text (P.Pulse c) = refl
operation_same cs free place text (P.Write c) = refl
operation_same cs free place text (P.GateRising c) = refl
operation_same cs free place text (P.GateFalling c) = refl
operation_same cs free place text (P.GateBoth c) = refl
operation_same cs free place text (P.Timestamp c) = refl
operation_same cs free place text (P.Count c) = refl
operation_same cs free place text P.Counter = refl
operation_same cs free place text P.BreakRealtime = refl
operation_same cs free place text P.Reset = refl
operation_same cs free place text P.WaitUntil = refl
operation_same cs free place text P.Playback = refl
operation_same cs free place text P.PlaybackHandle = refl
operation_same cs free place text P.GetHandle = refl
operation_same cs free place text P.Erase = refl

module _ (setting : Setting) (fits : SettingFits setting) (free : ℕ) (free_fits : is_short free ≡ true) where
  operation_fits : (text : Bytes) (op : Operation) (place : ℕ) → is_byte (channel_of op) ≡ true → place + length (operation_instrs setting free place text op) < 2 ^ 32 → InstrsFit (operation_instrs setting free place text op)
  operation_fits text (P.On c) place b most = (refl, (and_from (is_byte c) true b refl, tt))
  operation_fits text (P.Off c) place b most = (refl, (and_from (is_byte c) true b refl, tt))
  operation_fits text (P.Pulse c) place b most = (refl, (and_from (is_byte c) true b refl, (refl, (refl, (and_from (is_byte c) true b refl, tt)))))
  operation_fits text (P.Write c) place b most = (b, tt)
  operation_fits text (P.GateRising c) place b most = (refl, (and_from (is_byte c) true b refl, (refl, (refl, (and_from (is_byte c) true b refl, (refl, tt))))))
  operation_fits text (P.GateFalling c) place b most = (refl, (and_from (is_byte c) true b refl, (refl, (refl, (and_from (is_byte c) true b refl, (refl, tt))))))
  operation_fits text (P.GateBoth c) place b most = (refl, (and_from (is_byte c) true b refl, (refl, (refl, (and_from (is_byte c) true b refl, (refl, tt))))))
  operation_fits text (P.Timestamp c) place b most = (b, tt)
  operation_fits text (P.Count c) place b most = (free_fits, (refl, (free_fits, (b, (refl, (refl, (place_fits (place + 8) (omega (arith, most)), (place_fits (place + 13) (omega (arith, most)), (refl, (refl, (refl, (free_fits, (place_fits (place + 3) (omega (arith, most)), tt)))))))))))))
  operation_fits text P.Counter place b most = (refl, tt)
  operation_fits text P.BreakRealtime place b most = (refl, (refl, (refl, (refl, (refl, (refl, tt))))))
  operation_fits text P.Reset place b most = (refl, (refl, (refl, (refl, tt))))
  operation_fits text P.WaitUntil place b most = (refl, tt)
  operation_fits text P.Playback place b most = (text_fits setting fits text, tt)
  operation_fits text P.PlaybackHandle place b most = (refl, tt)
  operation_fits text P.GetHandle place b most = (text_fits setting fits text, tt)
  operation_fits text P.Erase place b most = (text_fits setting fits text, tt)

  pub method_fits : (o m text : Bytes) (place : ℕ) (op : Option Operation) → method_named o m ≡ op → place + length (method_instrs setting free place text op) < 2 ^ 32 → InstrsFit (method_instrs setting free place text op)
  method_fits o m text place None e most = tt
  method_fits o m text place (Some op) e most =
      let there = on_board (object_named o) m op (object_there o) e in
      operation_fits text op place (lt-ltb (channel_of op) 256 (omega (arith, there))) most

pub method_short : (cs : Setting) (free place : ℕ) (text : Bytes) (op : Option Operation) → length (method_instrs cs free place text op) ≤ 13
method_short cs free place text None = omega arith
method_short cs free place text (Some op) = operation_short cs free place text op

-- how many there are doesn't go by where they stand
pub method_same : (cs : Setting) (free place : ℕ) (text : Bytes) (op : Option Operation) → length (method_instrs cs 0 0 text op) ≡ length (method_instrs cs free place text op)
method_same cs free place text None = refl
method_same cs free place text (Some op) = operation_same cs free place text op
