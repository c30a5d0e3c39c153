-- The methods of channels, of the core and of recordings: their code does what they mean.
use Rattle.std.proofs.Common.{◌≡◌, ℕ, ◌+◌, List, [], ◌∷◌, length, reverse, slice_get, Some, refl, ap, arith}
use Rattle.std.specs.Prelude.{Bool, true, ℤ, ⊤, is_some}
use Rattle.rtio_types.specs.declared.request.Request.TheVariants as Q
use Rattle.rtio_types.specs.declared.request.Reply.{Reply}
use Rattle.kern_syntax.specs.Tree.{Bytes}
use Rattle.kern_calls.specs.declared.calls.Operation.{Operation}
use Rattle.kern_calls.specs.declared.calls.Operation.TheVariants.{On, Off, Pulse, Write, GateRising, GateFalling, GateBoth, Timestamp, Count, Counter, BreakRealtime, Reset, WaitUntil, Playback, PlaybackHandle, GetHandle, Erase}
use Rattle.kern_calls.specs.Calls.{operation_result}
use Rattle.timeline_sem.specs.Timeline.{perform}
use Rattle.core_isa.specs.declared.code.Code.{Code}
use Rattle.core_isa.specs.declared.instr.Instr.TheVariants as I
use Rattle.core_isa.specs.Steps as S
use Rattle.core_isa.specs.Steps.{on_some}
use Rattle.code_forms.specs.Setting as C
use Rattle.code_forms.specs.Operations.{operation_instrs}
use Rattle.code_follows.specs.Stands.{holding, Setting, machine_at, Fits64, AllFit64, result_operands}
use Rattle.code_follows.specs.Parts.{Follows, Stand, alone}
use Rattle.code_follows.proofs.Instructions.{follows_number, follows_told, follows_counter, follows_wait}
use Rattle.code_follows.proofs.Playback.{follows_playback, follows_playback_handle}
use Rattle.code_follows.proofs.TimedCalls.{follows_no_value, follows_put_out, follows_pulse, follows_gate, follows_out_to, follows_reset, follows_break_realtime, follows_count}
use Rattle.code_forms.specs.Suited.{operation_numbers, operation_takes_text}
use Rattle.code_meaning.proofs.Known.{At, follows_to}

-- what holds of no numbers, of one and of two, holds of as many
pub by_none : (P : List ℤ → Type 0) → P [] → (ns : List ℤ) → length ns ≡ 0 → P ns
by_none P p [] e = p
by_none P p (a ∷ ns) e = absurd (omega (arith, e))

pub by_one : (P : List ℤ → Type 0) → ((a : ℤ) → Fits64 a → P (a ∷ [])) → (ns : List ℤ) → length ns ≡ 1 → AllFit64 ns → P ns
by_one P p [] e f = absurd (omega (arith, e))
by_one P p (a ∷ []) e f = p a f.0
by_one P p (a ∷ b ∷ ns) e f = absurd (omega (arith, e))

pub by_two : (P : List ℤ → Type 0) → ((a b : ℤ) → P (a ∷ b ∷ [])) → (ns : List ℤ) → length ns ≡ 2 → P ns
by_two P p [] e = absurd (omega (arith, e))
by_two P p (a ∷ []) e = absurd (omega (arith, e))
by_two P p (a ∷ b ∷ []) e = p a b
by_two P p (a ∷ b ∷ c ∷ ns) e = absurd (omega (arith, e))

module _ (given : List Reply) (code : Code) (cs : C.Setting) (room free : ℕ) (in_record : Bool) (setting : Setting) (at : At cs room free in_record setting) (text : Bytes) (most first : ℕ) where
  -- a method does what it means with these numbers
  abbrev pub Does : Operation → List ℤ → Type 0
  Does op ns =
      Stand code.lines first (operation_instrs cs free first text op)
      → Follows given code ⊤ most (alone setting) first (first + length (operation_instrs cs 0 0 text op)) (holding (reverse ns)) Fits64 (λ v. holding (result_operands (is_some (operation_result op)) v)) (perform op ns text)

  pub follows_operation : (op : Operation) (ns : List ℤ) → length ns ≡ operation_numbers op → AllFit64 ns → (operation_takes_text op ≡ true → slice_get code.names (C.index_of_text cs text) ≡ Some text) → Does op ns
  follows_operation (On c) ns e fit named = by_none (Does (On c)) (λ st. follows_to given code (omega arith) (follows_no_value given code (follows_put_out given code [] c 0 1 (omega arith) st))) ns e
  follows_operation (Off c) ns e fit named = by_none (Does (Off c)) (λ st. follows_to given code (omega arith) (follows_no_value given code (follows_put_out given code [] c 0 0 (omega arith) st))) ns e
  follows_operation (Pulse c) ns e fit named = by_one (Does (Pulse c)) (λ a f st. follows_to given code (omega arith) (follows_no_value given code (follows_pulse given code c a st))) ns e fit
  follows_operation (Write c) ns e fit named = by_two (Does (Write c)) (λ a b st. follows_no_value given code (follows_out_to given code c a b st)) ns e
  follows_operation (GateRising c) ns e fit named = by_one (Does (GateRising c)) (λ a f st. follows_to given code (omega arith) (follows_gate given code c 1 a (omega arith) st)) ns e fit
  follows_operation (GateFalling c) ns e fit named = by_one (Does (GateFalling c)) (λ a f st. follows_to given code (omega arith) (follows_gate given code c 2 a (omega arith) st)) ns e fit
  follows_operation (GateBoth c) ns e fit named = by_one (Does (GateBoth c)) (λ a f st. follows_to given code (omega arith) (follows_gate given code c 3 a (omega arith) st)) ns e fit
  follows_operation (Timestamp c) ns e fit named = by_one (Does (Timestamp c)) (λ a f st. follows_number given code (I.Edge c) (Q.Edge c a) st (λ around s free count. refl)) ns e fit
  follows_operation (Count c) ns e fit named =
      let here : free ≡ C.slots_of_names setting.names + length setting.temporaries + 0 = omega (arith, at.free) in
      by_one (Does (Count c)) (λ a f st. follows_count given code {setting = alone setting} c free a f here at.limit refl st) ns e fit
  follows_operation Counter ns e fit named = by_none (Does Counter) (λ st. follows_counter given code st) ns e
  follows_operation BreakRealtime ns e fit named = by_none (Does BreakRealtime) (λ st. follows_to given code (omega arith) (follows_no_value given code (follows_break_realtime given code setting st))) ns e
  follows_operation Reset ns e fit named = by_none (Does Reset) (λ st. follows_to given code (omega arith) (follows_no_value given code (follows_reset given code st))) ns e
  follows_operation WaitUntil ns e fit named = by_one (Does WaitUntil) (λ a f st. follows_no_value given code (follows_wait given code a st)) ns e fit
  follows_operation Playback ns e fit named = by_none (Does Playback) (λ st. follows_no_value given code (follows_playback given code (C.index_of_text cs text) text (named refl) st)) ns e
  follows_operation PlaybackHandle ns e fit named = by_one (Does PlaybackHandle) (λ a f st. follows_no_value given code (follows_playback_handle given code a st)) ns e fit
  follows_operation GetHandle ns e fit named =
      by_none (Does GetHandle) (λ st. follows_number given code (I.Handle (C.index_of_text cs text)) (Q.Handle text) st (λ around s free count. ap (λ o. on_some o (λ name. S.ask_number (Q.Handle name) (machine_at around s (holding []) free first count))) (named refl))) ns e
  follows_operation Erase ns e fit named =
      by_none (Does Erase) (λ st. follows_no_value given code (follows_told given code (I.Erase (C.index_of_text cs text)) (Q.Erase text) st (λ around s free count. ap (λ o. on_some o (λ name. S.ask_only (Q.Erase name) (machine_at around s (holding []) free first count))) (named refl)))) ns e
