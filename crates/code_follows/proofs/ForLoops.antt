-- A `for` follows its meaning. Its code keeps the next number and the end in two temporary slots: a Turn, the number into the name, the next
-- number, and the body; then the end is compared with the next number, and where it isn't reached the code goes back to the Turn.
use Rattle.std.proofs.Common.{◌≡◌, ℕ, zero, suc, ◌+◌, ◌≤◌, List, [], ◌∷◌, length, Option, Some, None, refl, subst, arith}
use Rattle.std.specs.Prelude.{Bool, true, false, ℤ, pos, negsuc, ◌+ℤ◌, int_le, ⊤}
use Rattle.std.specs.Int.{w64, int_gap}
use Rattle.std.proofs.lemmas.Int.{int_wrap_fits}
use Rattle.rtio_types.specs.declared.request.Reply.{Reply}
use Rattle.rtio_types.specs.declared.request.Value.TheVariants as W
use Rattle.rtio_types.specs.Integers.{is_true, number_of}
use Rattle.kern_syntax.specs.Tree.{Bytes}
use Rattle.kern_calls.specs.declared.types.ValueType.{ValueType}
use Rattle.kern_calls.specs.Calls.{look_up}
use Rattle.timeline_sem.specs.Actions.{Action, give, skip, ◌>>◌}
use Rattle.timeline_sem.specs.Expressions.{write}
use Rattle.timeline_sem.specs.Statements.{after_turn, for_turns}
use Rattle.core_isa.specs.declared.code.Code.{Code}
use Rattle.core_isa.specs.declared.instr.Instr.TheVariants as I
use Rattle.code_forms.specs.Setting.{slot_in}
use Rattle.code_follows.specs.Stands.{holding, Loop, Setting, Fits64}
use Rattle.code_follows.specs.Parts.{Follows, Stand, IsBare, IsBareIn}
use Rattle.code_follows.proofs.Compose.{follows_then, follows_if, follows_same}
use Rattle.code_follows.proofs.Instructions.{follows_quiet, follows_const, follows_add, follows_two, number_of_fits}
use Rattle.code_follows.proofs.Flow.{follows_jump, follows_spend, follows_before, follows_true, follows_false, follows_skip, follows_forget}
use Rattle.code_follows.proofs.Loops.{keeping, body_setting, follows_after_turn}
use Rattle.code_follows.proofs.Variables.{IsScalar, own_slot, follows_own, follows_put, follows_keep, follows_reserve, follows_store}

gap_none : (i e : ℤ) → int_gap i e ≡ 0 → int_le e i ≡ true
gap_none (pos a) (pos b) g = grind (arith, g)
gap_none (pos a) (negsuc b) g = grind (arith, g)
gap_none (negsuc a) (pos b) g = grind (arith, g)
gap_none (negsuc a) (negsuc b) g = grind (arith, g)

gap_more : (n : ℕ) (i e : ℤ) → int_gap i e ≡ suc n → int_le e i ≡ false
gap_more n (pos a) (pos b) g = grind (arith, g)
gap_more n (pos a) (negsuc b) g = grind (arith, g)
gap_more n (negsuc a) (pos b) g = grind (arith, g)
gap_more n (negsuc a) (negsuc b) g = grind (arith, g)

gap_next : (n : ℕ) (i e : ℤ) → int_gap i e ≡ suc n → int_gap (i +ℤ pos 1) e ≡ n
gap_next n (pos a) (pos b) g = grind (arith, g)
gap_next n (pos a) (negsuc b) g = grind (arith, g)
gap_next n (negsuc zero) (pos b) g = grind (arith, g)
gap_next n (negsuc zero) (negsuc b) g = grind (arith, g)
gap_next n (negsuc (suc a)) (pos b) g = grind (arith, g)
gap_next n (negsuc (suc a)) (negsuc b) g = grind (arith, g)

next_fits : (n : ℕ) (i e : ℤ) → int_gap i e ≡ suc n → Fits64 i → Fits64 e → Fits64 (i +ℤ pos 1)
next_fits n (pos a) (pos b) g f h = grind (arith, g, f, h)
next_fits n (pos a) (negsuc b) g f h = grind (arith, g, f, h)
next_fits n (negsuc zero) e g f h = grind (arith, g, f, h)
next_fits n (negsuc (suc a)) e g f h = grind (arith, g, f, h)

pub true_number : (b c : Bool) → b ≡ c → is_true (number_of b) ≡ c
true_number true c e = e
true_number false c e = e

bare_loop : (loop : Option Loop) → IsBare loop []
bare_loop None = tt
bare_loop (Some loop) = refl

pub bare : (setting : Setting) → IsBareIn setting []
bare setting = (bare_loop setting.loop, λ e. refl)

module _ (given : List Reply) (code : Code) where
  module _ {premise : Type 0} (setting : Setting) (top cond : ℕ) (x : Bytes) (t : ValueType) (body : Action ⊤) (found : look_up setting.names x ≡ Some t) (scalar : IsScalar t) (at_top : Stand code.lines top (I.Turn ∷ I.Load (own_slot given code setting 0) ∷ I.Dup ∷ I.Store (slot_in setting.names x) ∷ I.Const (pos 1) ∷ I.Add ∷ I.Store (own_slot given code setting 0) ∷ [])) (at_cond : Stand code.lines cond (I.Load (own_slot given code setting 1) ∷ I.Load (own_slot given code setting 0) ∷ I.Le ∷ I.JumpZero top ∷ [])) (follows_body : (n : ℕ) (i e : ℤ) → Follows given code premise n (body_setting setting (i ∷ e ∷ []) cond (cond + 1 + 1 + 1 + 1)) (top + 1 + 1 + 1 + 1 + 1 + 1 + 1) cond (holding []) (λ v. ⊤) (λ v. holding []) body) where
    -- the turns from a number on, which is kept as the next one
    abbrev pub From : ℕ → Type 0
    From n =
        (most : ℕ) (i e : ℤ) → int_gap i e ≡ n → Fits64 i → Fits64 e → Follows given code premise most setting cond (cond + 1 + 1 + 1 + 1) (keeping (i ∷ e ∷ [])) (λ v. ⊤) (λ v. holding []) (for_turns n x i body)

    -- a turn: the number into its name, the next number kept, and the body
    a_turn : (n : ℕ) → From n → (most : ℕ) (i e : ℤ) → int_gap i e ≡ suc n → Fits64 i → Fits64 e → Follows given code premise most setting top (cond + 1 + 1 + 1 + 1) (keeping (i ∷ e ∷ [])) (λ v. ⊤) (λ v. holding []) (for_turns (suc n) x i body)
    a_turn n claim most i e gap f h =
        let own = i ∷ e ∷ [] in
        let j = i +ℤ pos 1 in
        let fits = next_fits n i e gap f h in
        let one_fits : Fits64 (pos 1) = grind arith in
        let st1 = at_top.3 in
        let st2 = st1.3 in
        let st3 = st2.3 in
        let st4 = st3.3 in
        let st5 = st4.3 in
        let st6 = st5.3 in
        let again = for_turns n x j body in
        let turned : Follows given code premise most setting (top + 1 + 1 + 1 + 1 + 1 + 1 + 1) (cond + 1 + 1 + 1 + 1) (keeping (j ∷ e ∷ [])) (λ v. ⊤) (λ v. holding []) (λ s. after_turn (body s) again) = follows_after_turn given code setting (j ∷ e ∷ []) (top + 1 + 1 + 1 + 1 + 1 + 1 + 1) cond (cond + 1 + 1 + 1 + 1) body again (follows_body most j e) (claim most j e (gap_next n i e gap) fits h) in
        let add : Follows given code (((premise × Fits64 i) × ⊤) × Fits64 (pos 1)) most setting (top + 1 + 1 + 1 + 1 + 1) (top + 1 + 1 + 1 + 1 + 1 + 1) (record { operands = pos 1 ∷ i ∷ []; temporaries = own }) Fits64 (λ v. record { operands = v ∷ []; temporaries = own }) (give j) = subst (λ w. Follows given code (((premise × Fits64 i) × ⊤) × Fits64 (pos 1)) most setting (top + 1 + 1 + 1 + 1 + 1) (top + 1 + 1 + 1 + 1 + 1 + 1) (record { operands = pos 1 ∷ i ∷ []; temporaries = own }) Fits64 (λ v. record { operands = v ∷ []; temporaries = own }) (give w)) (int_wrap_fits w64 j fits) (follows_add given code [] own i (pos 1) (st5.0, st5.1, st5.2, tt)) in
        let raised_next : Follows given code ((premise × Fits64 i) × ⊤) most setting (top + 1 + 1 + 1 + 1) (cond + 1 + 1 + 1 + 1) (record { operands = i ∷ []; temporaries = own }) (λ v. ⊤) (λ v. holding []) (λ s. after_turn (body s) again) = follows_before given code (pos 1) (follows_const given code (i ∷ []) own (pos 1) one_fits (st4.0, st4.1, st4.2, tt)) (follows_before given code j add (follows_before given code tt (follows_put given code [] own 0 i j refl (st6.0, st6.1, st6.2, tt)) (follows_if given code (λ p. p.0.0.0.0.0) turned))) in
        let named : Follows given code ((premise × Fits64 i) × ⊤) most setting (top + 1 + 1 + 1) (cond + 1 + 1 + 1 + 1) (record { operands = i ∷ i ∷ []; temporaries = own }) (λ v. ⊤) (λ v. holding []) (write x (W.Int i) >> (λ s. after_turn (body s) again)) = follows_then given code (follows_store given code (i ∷ []) own x t i found scalar (λ p. f) (st3.0, st3.1, st3.2, tt)) raised_next in
        let dup : Follows given code (premise × Fits64 i) most setting (top + 1 + 1) (top + 1 + 1 + 1) (record { operands = i ∷ []; temporaries = own }) (λ v. ⊤) (λ v. record { operands = i ∷ i ∷ []; temporaries = own }) skip = follows_quiet given code {results = λ v. i ∷ i ∷ []} I.Dup (st2.0, st2.1, st2.2, tt) tt (λ p. tt) (λ around s free count. refl) in
        let loaded = follows_before given code i (follows_own given code [] own 0 i refl (λ p. f) (st1.0, st1.1, st1.2, tt)) (follows_before given code tt dup named) in
        follows_same given code (λ s. refl) (follows_spend given code {n = most} {most = most} (omega arith) (at_top.0, at_top.1, at_top.2, tt) loaded)

    -- from the test on, where there is a further turn, or none
    after_test : (n : ℕ) → From n
    after_test zero most i e gap f h =
        let own = i ∷ e ∷ [] in
        let st1 = at_cond.3 in
        let st2 = st1.3 in
        let st3 = st2.3 in
        let v = number_of (int_le e i) in
        follows_before given code e (follows_own given code [] own 1 e refl (λ p. h) (at_cond.0, at_cond.1, at_cond.2, tt)) (follows_before given code i (follows_own given code (e ∷ []) own 0 i refl (λ p. f) (st1.0, st1.1, st1.2, tt)) (follows_before given code v (follows_two given code [] own I.Le e i v (λ p. number_of_fits _) (λ around s free count. refl) (st2.0, st2.1, st2.2, tt)) (follows_true given code (keeping own) v (true_number (int_le e i) true (gap_none i e gap)) (st3.0, st3.1, st3.2, tt) (follows_forget given code (follows_skip given code {local = keeping own})))))
    after_test (suc n) most i e gap f h =
        let own = i ∷ e ∷ [] in
        let st1 = at_cond.3 in
        let st2 = st1.3 in
        let st3 = st2.3 in
        let v = number_of (int_le e i) in
        follows_before given code e (follows_own given code [] own 1 e refl (λ p. h) (at_cond.0, at_cond.1, at_cond.2, tt)) (follows_before given code i (follows_own given code (e ∷ []) own 0 i refl (λ p. f) (st1.0, st1.1, st1.2, tt)) (follows_before given code v (follows_two given code [] own I.Le e i v (λ p. number_of_fits _) (λ around s free count. refl) (st2.0, st2.1, st2.2, tt)) (follows_false given code (keeping own) v (true_number (int_le e i) false (gap_more n i e gap)) (st3.0, st3.1, st3.2, tt) (follows_if given code (λ p. p.0.0.0) (a_turn n (after_test n) most i e gap f h)))))

    -- the turns follow their meaning
    pub follows_for_turns : (most : ℕ) (i e : ℤ) → Fits64 i → Fits64 e → Follows given code premise most setting cond (cond + 1 + 1 + 1 + 1) (keeping (i ∷ e ∷ [])) (λ v. ⊤) (λ v. holding []) (for_turns (int_gap i e) x i body)
    follows_for_turns most i e f h = after_test (int_gap i e) most i e refl f h

    -- the bounds are kept, and the turns begin at the test
    pub follows_for_begin : (most first : ℕ) (i e : ℤ) → Fits64 i → Fits64 e → length setting.temporaries + 2 ≤ setting.limit → Stand code.lines first (I.Store (own_slot given code setting 1) ∷ I.Store (own_slot given code setting 0) ∷ I.Jump cond ∷ []) → Follows given code premise most setting first (cond + 1 + 1 + 1 + 1) (holding (e ∷ i ∷ [])) (λ v. ⊤) (λ v. holding []) (for_turns (int_gap i e) x i body)
    follows_for_begin most first i e f h room stands =
        let st1 = stands.3 in
        let st2 = st1.3 in
        follows_reserve given code (e ∷ i ∷ []) [] (omega (arith, room)) (λ old. follows_before given code tt (follows_keep given code (i ∷ []) (old ∷ []) e (omega (arith, room)) (stands.0, stands.1, stands.2, tt)) (follows_before given code tt (follows_put given code [] (old ∷ e ∷ []) 0 old i refl (st1.0, st1.1, st1.2, tt)) (follows_jump given code st2 (follows_if given code (λ p. p.0.0) (follows_for_turns most i e f h)))))
