-- The instructions of methods meet the conditions on marks.
use Rattle.std.proofs.Common.{◌≡◌, ℕ, ◌+◌, ◌≤◌, [], ◌∷◌, length, Option, Some, None, refl, ◌∙◌, ap, arith}
use Rattle.std.specs.Prelude.{Bool, true, false, IsTrue, pos, is_some}
use Rattle.std.proofs.lemmas.Bool.{false≢true}
use Rattle.rtio_types.specs.Board.{kind_of_channel, has_address}
use Rattle.kern_syntax.specs.declared.program.DeclaredType.{DeclaredType}
use Rattle.kern_syntax.specs.declared.program.DeclaredType.TheVariants.{Int32, Int64}
use Rattle.kern_syntax.specs.Tree.{Bytes}
use Rattle.kern_calls.specs.declared.calls.Operation.{Operation}
use Rattle.kern_calls.specs.declared.calls.Operation.TheVariants.{On, Off, Pulse, Write, GateRising, GateFalling, GateBoth, Timestamp, Count, Counter, BreakRealtime, Reset, WaitUntil, Playback, PlaybackHandle, GetHandle, Erase}
use Rattle.kern_calls.specs.Calls.{operation_result, is_live}
use Rattle.core_isa.specs.declared.code.Code.{Code}
use Rattle.core_isa.specs.declared.code.CodeFunction.{CodeFunction}
use Rattle.core_isa.specs.declared.code.Mark.{Mark}
use Rattle.core_isa.specs.declared.instr.Instr.TheVariants as I
use Rattle.core_isa.specs.Marks.{HasName, takes_unit_first}
use Rattle.code_forms.specs.Lines.{raised, straight}
use Rattle.code_forms.specs.Operations.{lead, gate_instrs, count_instrs, operation_instrs, method_instrs, method_has_value}
use Rattle.code_forms.specs.Setting as C
use Rattle.code_forms.specs.Setting.{index_of_text}
use Rattle.code_forms.specs.StatementCode.{result_mark}
use Rattle.code_forms.specs.Suited.{operation_numbers, operation_takes_text, method_is_live, IsStill}
use Rattle.code_marks.proofs.Channels.{OperationFits}
use Rattle.code_marks.proofs.Calls.{live_outside}
use Rattle.code_marks.proofs.Held.{IsOutside}
use Rattle.code_marks.proofs.Instructions.{simple, simple_live, jump, jump_back, test}
use Rattle.code_marks.proofs.Parts.{HasMark, StandIn, Part, Gives, same_mark, stands_at, mark_there, has_as, part_to, straight_to, ends_part}

module _ (code : Code) (k : ℕ) (f : CodeFunction) (cs : C.Setting) (d : Bool) (free n : ℕ) (text : Bytes) (room : free + 1 ≤ f.slots) where
  -- an output of a number, on nothing
  outs : (c address number place : ℕ) (mark : Mark) → IsTrue (has_address (kind_of_channel c) address) → Gives code k f place mark (I.Const (pos number) ∷ I.Out c address ∷ []) mark
  outs c address number place mark fits =
      ((simple code k f (I.Const (pos number)) refl tt (omega arith), (simple code k f (I.Out c address) refl fits (omega arith), tt)), same_mark _ _ (omega arith) refl refl)

  gates : (c sensitivity place : ℕ) (mark : Mark) → n ≡ 1 → IsTrue (has_address (kind_of_channel c) 2) → Gives code k f place (raised n mark) (gate_instrs c sensitivity) (raised 1 mark)
  gates c sensitivity place mark one fits =
      ((simple code k f (I.Const (pos sensitivity)) refl tt (omega arith), (simple code k f (I.Out c 2) refl fits (omega arith), (simple code k f I.Delay refl tt (omega (arith, one)), (simple code k f (I.Const (pos 0)) refl tt (omega arith), (simple code k f (I.Out c 2) refl fits (omega arith), (simple code k f I.Now refl tt (omega arith), tt)))))), same_mark _ _ (omega (arith, one)) refl refl)

  -- a method without jumps, once its numbers are there
  gives : (op : Operation) (place : ℕ) (mark : Mark) → (operation_result op ≡ Some Int32 → ⊥) → n ≡ operation_numbers op → OperationFits op → (operation_takes_text op ≡ true → HasName code (index_of_text cs text)) → IsOutside f d mark → IsStill d (is_live op) → Gives code k f place (raised n mark) (operation_instrs cs free place text op) (result_mark (is_some (operation_result op)) mark)
  gives (On c) place mark isnt many fits named outside still = let g = outs c 0 1 place (raised n mark) fits in (g.0, g.1 ∙ same_mark _ _ (omega (arith, many)) refl refl)
  gives (Off c) place mark isnt many fits named outside still = let g = outs c 0 0 place (raised n mark) fits in (g.0, g.1 ∙ same_mark _ _ (omega (arith, many)) refl refl)
  gives (Pulse c) place mark isnt many fits named outside still =
      ((simple code k f (I.Const (pos 1)) refl tt (omega arith), (simple code k f (I.Out c 0) refl fits (omega arith), (simple code k f I.Delay refl tt (omega (arith, many)), (simple code k f (I.Const (pos 0)) refl tt (omega arith), (simple code k f (I.Out c 0) refl fits (omega arith), tt))))), same_mark _ _ (omega (arith, many)) refl refl)
  gives (Write c) place mark isnt many fits named outside still = ((simple code k f (I.OutTo c) refl fits (omega (arith, many)), tt), same_mark _ _ (omega (arith, many)) refl refl)
  gives (GateRising c) place mark isnt many fits named outside still = gates c 1 place mark many fits
  gives (GateFalling c) place mark isnt many fits named outside still = gates c 2 place mark many fits
  gives (GateBoth c) place mark isnt many fits named outside still = gates c 3 place mark many fits
  gives (Timestamp c) place mark isnt many fits named outside still =
      ((simple_live code k f (I.Edge c) (live_outside f d mark true outside still refl) fits (omega (arith, many)), tt), same_mark _ _ (omega (arith, many)) refl refl)
  gives (Count c) place mark isnt many fits named outside still = absurd (isnt refl)
  gives Counter place mark isnt many fits named outside still =
      ((simple_live code k f I.Counter (live_outside f d mark true outside still refl) tt (omega arith), tt), same_mark _ _ (omega (arith, many)) refl refl)
  gives BreakRealtime place mark isnt many fits named outside still =
      ((simple code k f I.Now refl tt (omega arith), (simple_live code k f I.Counter (live_outside f d mark true outside still refl) tt (omega arith), (simple code k f lead refl tt (omega arith), (simple code k f I.Add refl tt (omega arith), (simple code k f I.Max refl tt (omega arith), (simple code k f I.At refl tt (omega arith), tt)))))), same_mark _ _ (omega (arith, many)) refl refl)
  gives Reset place mark isnt many fits named outside still =
      ((simple_live code k f I.Reset (live_outside f d mark true outside still refl) tt (omega arith), (simple code k f lead refl tt (omega arith), (simple code k f I.Add refl tt (omega arith), (simple code k f I.At refl tt (omega arith), tt)))), same_mark _ _ (omega (arith, many)) refl refl)
  gives WaitUntil place mark isnt many fits named outside still =
      ((simple_live code k f I.Wait (live_outside f d mark true outside still refl) tt (omega (arith, many)), tt), same_mark _ _ (omega (arith, many)) refl refl)
  gives Playback place mark isnt many fits named outside still =
      ((simple_live code k f (I.Play (index_of_text cs text)) (live_outside f d mark true outside still refl) (named refl) (omega arith), tt), same_mark _ _ (omega (arith, many)) refl refl)
  gives PlaybackHandle place mark isnt many fits named outside still =
      ((simple_live code k f I.PlayHandle (live_outside f d mark true outside still refl) tt (omega (arith, many)), tt), same_mark _ _ (omega (arith, many)) refl refl)
  gives GetHandle place mark isnt many fits named outside still =
      ((simple_live code k f (I.Handle (index_of_text cs text)) (live_outside f d mark true outside still refl) (named refl) (omega arith), tt), same_mark _ _ (omega (arith, many)) refl refl)
  gives Erase place mark isnt many fits named outside still =
      ((simple_live code k f (I.Erase (index_of_text cs text)) (live_outside f d mark true outside still refl) (named refl) (omega arith), tt), same_mark _ _ (omega (arith, many)) refl refl)

  -- the edges of a gate are counted
  counts : (c place : ℕ) (mark : Mark) → n ≡ 1 → OperationFits (Count c) → (mark.rec ≡ 0) × (f.plain ≡ false) → StandIn code k place (straight (raised n mark) (count_instrs c free place)) → Part code k f place (place + 13) (raised n mark) (raised 1 mark)
  counts c place mark one fits outside s has =
      let ls = straight (raised n mark) (count_instrs c free place) in
      let edge = stands_at code k place ls 3 _ s refl in
      let at_edge = mark_there code k place ls 3 _ s refl in
      let at_more = mark_there code k place ls 8 _ s refl in
      let at_end : HasMark code k (place + 13) (raised 1 mark) = has in
      part_to code k f (let same : place + 12 + 1 ≡ place + 13 = omega arith in same) refl
      (ends_part code k f place (raised n mark) (raised 1 mark)
      (I.Store free ∷ I.Const (pos 0) ∷ I.Load free ∷ I.Edge c ∷ I.Const (pos 0) ∷ I.Lt ∷ I.JumpZero (place + 8) ∷ I.Jump (place + 13) ∷ I.Const (pos 1) ∷ I.Add ∷ I.Wrap32 ∷ I.Load free ∷ [])
      (I.Jump (place + 3))
      s
      (simple code k f (I.Store free) refl (omega (arith, room)) (omega (arith, one)), (simple code k f (I.Const (pos 0)) refl tt (omega arith), (simple code k f (I.Load free) refl (omega (arith, room)) (omega arith), (simple_live code k f (I.Edge c) outside fits (omega arith), (simple code k f (I.Const (pos 0)) refl tt (omega arith), (simple code k f I.Lt refl tt (omega arith), (test code k f (place + 8) (omega arith) (omega arith) at_more, (jump code k f (place + 13) (omega arith) (has_as code k refl (same_mark _ _ (omega (arith, one)) refl refl) at_end), (simple code k f (I.Const (pos 1)) refl tt (omega arith), (simple code k f I.Add refl tt (omega arith), (simple code k f I.Wrap32 refl tt (omega arith), (simple code k f (I.Load free) refl (omega (arith, room)) (omega arith), tt))))))))))))
      (jump_back code k f (place + 3) (ap takes_unit_first edge.0) (has_as code k refl (same_mark _ _ (omega (arith, one)) refl refl) at_edge)))
      at_end

  -- a method, once its numbers are there
  operation_part : (op : Operation) (place : ℕ) (mark : Mark) → n ≡ operation_numbers op → OperationFits op → (operation_takes_text op ≡ true → HasName code (index_of_text cs text)) → IsOutside f d mark → IsStill d (is_live op) → StandIn code k place (straight (raised n mark) (operation_instrs cs free place text op)) → Part code k f place (place + length (operation_instrs cs free place text op)) (raised n mark) (result_mark (is_some (operation_result op)) mark)
  operation_part op place mark many fits named outside still s = by_operation op many fits named still s (λ isnt. straight_to code k f place (raised n mark) (result_mark (is_some (operation_result op)) mark) (operation_instrs cs free place text op) s (gives op place mark isnt many fits named outside still))
    where
      is_short : Option DeclaredType → Bool
      is_short (Some Int32) = true
      is_short t = false

      not_short : Some Int64 ≡ Some Int32 → ⊥
      not_short e = false≢true (ap is_short e)

      by_operation : (op' : Operation) → n ≡ operation_numbers op' → OperationFits op' → (operation_takes_text op' ≡ true → HasName code (index_of_text cs text)) → IsStill d (is_live op') → StandIn code k place (straight (raised n mark) (operation_instrs cs free place text op')) → ((operation_result op' ≡ Some Int32 → ⊥) → Part code k f place (place + length (operation_instrs cs free place text op')) (raised n mark) (result_mark (is_some (operation_result op')) mark)) → Part code k f place (place + length (operation_instrs cs free place text op')) (raised n mark) (result_mark (is_some (operation_result op')) mark)
      by_operation (Count c) many' fits' named' still' s' other = counts c place mark many' fits' (live_outside f d mark true outside still' refl) s'
      by_operation (On c) many' fits' named' still' s' other = other (λ e. false≢true (ap is_some e))
      by_operation (Off c) many' fits' named' still' s' other = other (λ e. false≢true (ap is_some e))
      by_operation (Pulse c) many' fits' named' still' s' other = other (λ e. false≢true (ap is_some e))
      by_operation (Write c) many' fits' named' still' s' other = other (λ e. false≢true (ap is_some e))
      by_operation (GateRising c) many' fits' named' still' s' other = other not_short
      by_operation (GateFalling c) many' fits' named' still' s' other = other not_short
      by_operation (GateBoth c) many' fits' named' still' s' other = other not_short
      by_operation (Timestamp c) many' fits' named' still' s' other = other not_short
      by_operation Counter many' fits' named' still' s' other = other not_short
      by_operation BreakRealtime many' fits' named' still' s' other = other (λ e. false≢true (ap is_some e))
      by_operation Reset many' fits' named' still' s' other = other (λ e. false≢true (ap is_some e))
      by_operation WaitUntil many' fits' named' still' s' other = other (λ e. false≢true (ap is_some e))
      by_operation Playback many' fits' named' still' s' other = other (λ e. false≢true (ap is_some e))
      by_operation PlaybackHandle many' fits' named' still' s' other = other (λ e. false≢true (ap is_some e))
      by_operation GetHandle many' fits' named' still' s' other = other not_short
      by_operation Erase many' fits' named' still' s' other = other (λ e. false≢true (ap is_some e))

  -- a method of a name
  pub method_part : (o : Option Operation) (place : ℕ) (mark : Mark) → ((op : Operation) → o ≡ Some op → n ≡ operation_numbers op) → is_some o ≡ true → ((op : Operation) → o ≡ Some op → OperationFits op) → ((op : Operation) → o ≡ Some op → operation_takes_text op ≡ true → HasName code (index_of_text cs text)) → IsOutside f d mark → IsStill d (method_is_live o) → StandIn code k place (straight (raised n mark) (method_instrs cs free place text o)) → Part code k f place (place + length (method_instrs cs free place text o)) (raised n mark) (result_mark (method_has_value o) mark)
  method_part None place mark many there fits named outside still s = absurd (false≢true there)
  method_part (Some op) place mark many there fits named outside still s =
      operation_part op place mark (many op refl) (fits op refl) (named op refl) outside still s
