-- What methods do follows their meaning: outputs, waits, gates, readings, playbacks.
use Rattle.std.proofs.Common.{◌≡◌, ℕ, zero, suc, ◌+◌, ◌≤◌, List, [], ◌∷◌, length, Option, Some, None, refl, sym, subst, arith}
use Rattle.std.specs.Prelude.{ℤ, pos, ⊤}
use Rattle.std.specs.Int.{int_max}
use Rattle.std.proofs.lemmas.Bool.{false≢true}
use Rattle.rtio_types.specs.declared.request.Request.{Request}
use Rattle.rtio_types.specs.declared.request.Request.TheVariants as Q
use Rattle.rtio_types.specs.declared.request.Reply.{Reply}
use Rattle.rtio_types.specs.declared.outcome.Exc.{Exc}
use Rattle.rtio_types.specs.Integers.{low_bits}
use Rattle.rtio_types.specs.Replies.{raised_by, number_in}
use Rattle.timeline_sem.specs.Actions.{State, Action, give, take_unit_of, next_reply_of, raise_if, cursor_now, set_cursor, go_on as then_act, ◌>>=◌, ◌>>◌}
use Rattle.timeline_sem.specs.Timeline.{event_at, output, inquire, gate, pulse_for, with_lead, move_to_real_time, reset_core, no_value, count_all_edges}
use Rattle.timeline_sem.proofs.Keeps.{keeps_output}
use Rattle.core_isa.specs.declared.code.Code.{Code}
use Rattle.core_isa.specs.declared.instr.Instr.TheVariants as I
use Rattle.code_forms.specs.Operations.{lead, out_instrs, pulse_instrs, gate_instrs, count_instrs}
use Rattle.code_follows.specs.Stands.{Local, holding, Setting, Fits64}
use Rattle.code_follows.specs.Parts.{Moved, Follows, Stand, alone}
use Rattle.code_follows.proofs.Compose.{moved, moves_of, follows_bind, follows_then, follows_if, follows_same}
use Rattle.code_follows.proofs.Beneath.{follows_beneath}
use Rattle.code_follows.proofs.Choices.{small_fits}
use Rattle.code_follows.proofs.Counting.{follows_counts}
use Rattle.code_follows.proofs.Flow.{follows_before, follows_give}
use Rattle.code_follows.proofs.Instructions.{follows_one, follows_const, follows_add, follows_now, follows_at, follows_delay, follows_number, follows_counter}
use Rattle.code_follows.proofs.Outputs.{ends_output, follows_out}
use Rattle.code_follows.proofs.Parallels.{follows_max}
use Rattle.code_follows.proofs.Variables.{own_slot, follows_keep, follows_own}

lead_fits : Fits64 (pos 125000)
lead_fits = grind arith

zero_fits : Fits64 (pos 0)
zero_fits = small_fits 0 (omega arith)

-- a reading and the cursor are the same in either order
module _ {A : Type 0} (q : Request) (k : ℤ → ℤ → Action A) where
  abbrev reading_first : Action A
  reading_first = inquire q >>= λ r. cursor_now >>= λ t. k t r

  abbrev cursor_first : Action A
  cursor_first = cursor_now >>= λ t. inquire q >>= λ r. k t r

  by_raised : (x : Option Exc) (r : Reply) (s : State) → then_act (then_act (raise_if x r s) (λ reply. give (number_in reply))) (λ r. k s.cursor r) ≡ then_act (then_act (raise_if x r s) (λ reply. give (number_in reply))) (λ r. cursor_now >>= λ t. k t r)
  by_raised None r s = refl
  by_raised (Some x) r s = refl

  by_replies : (replies : List Reply) (s : State) → then_act (then_act (then_act (next_reply_of replies s) (λ reply. raise_if (raised_by reply) reply)) (λ reply. give (number_in reply))) (λ r. k s.cursor r) ≡ then_act (then_act (then_act (next_reply_of replies s) (λ reply. raise_if (raised_by reply) reply)) (λ reply. give (number_in reply))) (λ r. cursor_now >>= λ t. k t r)
  by_replies [] s = refl
  by_replies (r ∷ rest) s = by_raised (raised_by r) r (record s { replies = rest })

  by_units : (n : ℕ) (s : State) → then_act (then_act (then_act (take_unit_of n s) (λ a. Rattle.timeline_sem.specs.Actions.ask q)) (λ reply. give (number_in reply))) (λ r. k s.cursor r) ≡ then_act (then_act (then_act (take_unit_of n s) (λ a. Rattle.timeline_sem.specs.Actions.ask q)) (λ reply. give (number_in reply))) (λ r. cursor_now >>= λ t. k t r)
  by_units zero s = refl
  by_units (suc n) s = by_replies s.replies (record s { units = n; asked = _ })

  pub either_order : (s : State) → cursor_first s ≡ reading_first s
  either_order s = by_units s.units s

module _ (given : List Reply) (code : Code) where
  -- a part without a value, where a number is wanted
  pub follows_no_value : {premise : Type 0} {most : ℕ} {setting : Setting} {first past : ℕ} {inputs : Local} {local : Local} {action : Action ⊤} → Follows given code premise most setting first past inputs (λ v. ⊤) (λ v. local) action → Follows given code premise most setting first past inputs Fits64 (λ v. local) (no_value action)
  follows_no_value {local = local} fm = follows_then given code fm (follows_give given code {results = λ v. local} (pos 0) (λ p. zero_fits))

  -- an output of a number
  pub follows_put_out : {premise : Type 0} {most : ℕ} {setting : Setting} {first : ℕ} (below : List ℤ) (c address n : ℕ) → n ≤ 6 → Stand code.lines first (out_instrs c address n) → Follows given code premise most setting first (first + 1 + 1) (holding below) (λ v. ⊤) (λ v. holding below) (output c address (pos n))
  follows_put_out below c address n less stands =
      let at = stands.3 in
      follows_before given code (pos n) (follows_const given code below [] (pos n) (small_fits n less) (stands.0, stands.1, stands.2, tt)) (follows_out given code below [] c address (pos n) (at.0, at.1, at.2, tt))

  pub follows_pulse : {premise : Type 0} {most : ℕ} {setting : Setting} {first : ℕ} (c : ℕ) (d : ℤ) → Stand code.lines first (pulse_instrs c) → Follows given code premise most setting first (first + 1 + 1 + 1 + 1 + 1) (holding (d ∷ [])) (λ v. ⊤) (λ v. holding []) (pulse_for c d)
  follows_pulse c d stands =
      let st2 = stands.3.3 in
      let st3 = st2.3 in
      follows_then given code (follows_put_out (d ∷ []) c 0 1 (omega arith) (stands.0, stands.1, stands.2, (stands.3.0, stands.3.1, stands.3.2, tt))) (follows_then given code (follows_delay given code [] [] d (st2.0, st2.1, st2.2, tt)) (follows_put_out [] c 0 0 (omega arith) st3))

  pub follows_gate : {premise : Type 0} {most : ℕ} {setting : Setting} {first : ℕ} (c n : ℕ) (d : ℤ) → n ≤ 6 → Stand code.lines first (gate_instrs c n) → Follows given code premise most setting first (first + 1 + 1 + 1 + 1 + 1 + 1) (holding (d ∷ [])) Fits64 (λ v. holding (v ∷ [])) (gate c (pos n) d)
  follows_gate c n d less stands =
      let st2 = stands.3.3 in
      let st3 = st2.3 in
      let st5 = st3.3.3 in
      follows_then given code (follows_put_out (d ∷ []) c 2 n less (stands.0, stands.1, stands.2, (stands.3.0, stands.3.1, stands.3.2, tt))) (follows_then given code (follows_delay given code [] [] d (st2.0, st2.1, st2.2, tt)) (follows_then given code (follows_put_out [] c 2 0 (omega arith) (st3.0, st3.1, st3.2, (st3.3.0, st3.3.1, st3.3.2, tt))) (follows_now given code [] [] st5)))

  pub follows_out_to : {premise : Type 0} {most : ℕ} {setting : Setting} {first : ℕ} (c : ℕ) (a v : ℤ) → Stand code.lines first (I.OutTo c ∷ []) → Follows given code premise most setting first (first + 1) (holding (v ∷ a ∷ [])) (λ v. ⊤) (λ v. holding []) (output c (low_bits 8 a) v)
  follows_out_to {setting = setting} {first = first} c a v stands =
      follows_one given code (I.OutTo c) stands (moves_of (keeps_output Moved Moved moved c (low_bits 8 a) v)) (λ around s free count p suits agrees slots few fit. ends_output given code setting around [] [] free first count slots s (event_at s.cursor c (low_bits 8 a) v) around.opening s.collected refl refl agrees fit)

  pub follows_reset : {premise : Type 0} {most : ℕ} {setting : Setting} {first : ℕ} → Stand code.lines first (I.Reset ∷ lead ∷ I.Add ∷ I.At ∷ []) → Follows given code premise most setting first (first + 1 + 1 + 1 + 1) (holding []) (λ v. ⊤) (λ v. holding []) reset_core
  follows_reset stands =
      let st1 = stands.3 in
      let st2 = st1.3 in
      let st3 = st2.3 in
      follows_bind given code (follows_number given code I.Reset Q.Reset (stands.0, stands.1, stands.2, tt) (λ around s free count. refl)) (λ r. follows_before given code (pos 125000) (follows_const given code (r ∷ []) [] (pos 125000) lead_fits (st1.0, st1.1, st1.2, tt)) (follows_before given code (with_lead r) (follows_add given code [] [] r (pos 125000) (st2.0, st2.1, st2.2, tt)) (follows_at given code [] [] (with_lead r) (λ p. p.1) st3)))

  pub follows_break_realtime : {premise : Type 0} {most : ℕ} (setting : Setting) {first : ℕ} → Stand code.lines first (I.Now ∷ I.Counter ∷ lead ∷ I.Add ∷ I.Max ∷ I.At ∷ []) → Follows given code premise most (alone setting) first (first + 1 + 1 + 1 + 1 + 1 + 1) (holding []) (λ v. ⊤) (λ v. holding []) move_to_real_time
  follows_break_realtime {premise} {most} setting {first} stands =
      let st1 = stands.3 in
      let st2 = st1.3 in
      let st3 = st2.3 in
      let st4 = st3.3 in
      let st5 = st4.3 in
      let reads : (t : ℤ) → Follows given code (premise × Fits64 t) most (alone setting) (first + 1) (first + 1 + 1) (holding (t ∷ [])) Fits64 (λ r. holding (r ∷ t ∷ [])) (inquire Q.Counter) = λ t. follows_beneath given code {setting = alone setting} (holding (t ∷ [])) (tt, λ e. absurd (false≢true e)) (follows_counter given code (st1.0, st1.1, st1.2, tt)) in
      let ends : (t r : ℤ) → Follows given code ((premise × Fits64 t) × Fits64 r) most (alone setting) (first + 1 + 1) (first + 1 + 1 + 1 + 1 + 1 + 1) (holding (r ∷ t ∷ [])) (λ v. ⊤) (λ v. holding []) (set_cursor (int_max t (with_lead r))) = λ t r. follows_before given code (pos 125000) (follows_const given code (r ∷ t ∷ []) [] (pos 125000) lead_fits (st2.0, st2.1, st2.2, tt)) (follows_before given code (with_lead r) (follows_add given code (t ∷ []) [] r (pos 125000) (st3.0, st3.1, st3.2, tt)) (follows_before given code (int_max t (with_lead r)) (follows_max given code [] [] t (with_lead r) (λ p. (p.0.0.0.1, p.1)) (st4.0, st4.1, st4.2, tt)) (follows_at given code [] [] (int_max t (with_lead r)) (λ p. p.1) st5))) in
      follows_same given code (either_order Q.Counter (λ t r. set_cursor (int_max t (with_lead r)))) (follows_bind given code (follows_now given code [] [] (stands.0, stands.1, stands.2, tt)) (λ t. follows_bind given code (reads t) (ends t)))

  -- the number of edges: the bound is kept in a free slot
  pub follows_count : {premise : Type 0} {most : ℕ} {setting : Setting} {first past : ℕ} (c free : ℕ) (bound : ℤ) → Fits64 bound → free ≡ own_slot given code setting 0 → length setting.temporaries + 1 ≤ setting.limit → past ≡ first + 13 → Stand code.lines first (count_instrs c free first) → Follows given code premise most setting first past (holding (bound ∷ [])) Fits64 (λ v. holding (v ∷ [])) (count_all_edges (Q.Edge c bound))
  follows_count {premise} {most} {setting} {first} {past} c free bound fits here room ends stands =
      let edge = first + 1 + 1 + 1 in
      let slot = own_slot given code setting 0 in
      let again : first + 8 ≡ edge + 1 + 1 + 1 + 1 + 1 = omega arith in
      let back : first + 3 ≡ edge = omega arith in
      let is : (f p8 p13 p3 : ℕ) → List _ = λ f p8 p13 p3. I.Store f ∷ I.Const (pos 0) ∷ I.Load f ∷ I.Edge c ∷ I.Const (pos 0) ∷ I.Lt ∷ I.JumpZero p8 ∷ I.Jump p13 ∷ I.Const (pos 1) ∷ I.Add ∷ I.Wrap32 ∷ I.Load f ∷ I.Jump p3 ∷ [] in
      let s1 = subst (λ f. Stand code.lines first (is f (first + 8) (first + 13) (first + 3))) here stands in
      let s2 = subst (λ p. Stand code.lines first (is slot p (first + 13) (first + 3))) again s1 in
      let s3 = subst (λ p. Stand code.lines first (is slot (edge + 1 + 1 + 1 + 1 + 1) p (first + 3))) (sym ends) s2 in
      let st = subst (λ p. Stand code.lines first (is slot (edge + 1 + 1 + 1 + 1 + 1) past p)) back s3 in
      let st1 = st.3 in
      let st2 = st1.3 in
      let claim = λ (n : ℕ). follows_counts given code premise setting edge past c bound fits st2.3 n (pos 0) zero_fits in
      let counts : Follows given code premise most setting edge past (record { operands = bound ∷ pos 0 ∷ []; temporaries = bound ∷ [] }) Fits64 (λ v. holding (v ∷ [])) (count_all_edges (Q.Edge c bound)) = record { moves = λ s. (claim s.units).moves s; follows = λ around s free count p suits agrees slots few fit. (claim s.units).follows around s free count p suits agrees slots (omega arith) fit } in
      follows_before given code tt (follows_keep given code [] [] bound (omega (arith, room)) (st.0, st.1, st.2, tt)) (follows_before given code (pos 0) (follows_const given code [] (bound ∷ []) (pos 0) zero_fits (st1.0, st1.1, st1.2, tt)) (follows_before given code bound (follows_own given code (pos 0 ∷ []) (bound ∷ []) 0 bound refl (λ p. fits) (st2.0, st2.1, st2.2, tt)) (follows_if given code (λ p. p.0.0.0) counts)))
