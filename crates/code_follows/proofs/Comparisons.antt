-- Comparisons, `not`, `-` and `~` follow their meaning.
use Rattle.std.proofs.Common.{◌≡◌, ℕ, zero, suc, ◌+◌, List, [], ◌∷◌, length, refl, ◌∙◌, ap, subst, arith}
use Rattle.std.specs.Prelude.{Bool, true, false, not, ℤ, pos, negsuc, int_lt, int_le, neg_ℤ, ◌-ℤ◌}
use Rattle.std.specs.Int.{w64, int_wrap}
use Rattle.std.specs.Ordering.{int_eq}
use Rattle.std.proofs.lemmas.Int.{SFits-int_wrap}
use Rattle.rtio_types.specs.declared.request.Reply.{Reply}
use Rattle.rtio_types.specs.Integers.{is_true, number_of}
use Rattle.kern_syntax.specs.declared.expression.Comparison.{Comparison}
use Rattle.kern_syntax.specs.declared.expression.Comparison.TheVariants as C
use Rattle.kern_syntax.specs.declared.expression.UnaryOperator.{UnaryOperator}
use Rattle.kern_syntax.specs.declared.expression.UnaryOperator.TheVariants as U
use Rattle.kern_calls.specs.declared.types.ValueType.{ValueType}
use Rattle.kern_calls.specs.Types.{width_of}
use Rattle.timeline_sem.specs.Actions.{State, give}
use Rattle.timeline_sem.specs.Numbers.{compares, unary_result}
use Rattle.core_isa.specs.declared.code.Code.{Code}
use Rattle.core_isa.specs.declared.instr.Instr.{Instr}
use Rattle.core_isa.specs.declared.instr.Instr.TheVariants as I
use Rattle.core_isa.specs.Machine.{push}
use Rattle.core_isa.specs.Steps.{act}
use Rattle.code_forms.specs.Operations.{wrapping, unary_instrs, not_instrs, comparison_instrs}
use Rattle.code_follows.specs.Stands.{Around, Setting, machine_at, Fits64}
use Rattle.code_follows.specs.Parts.{Follows, Stand}
use Rattle.code_follows.proofs.Choices.{small_fits}
use Rattle.code_follows.proofs.Flow.{follows_before}
use Rattle.code_follows.proofs.Instructions.{number_of_fits, follows_quiet, follows_const, follows_two}
use Rattle.code_follows.proofs.Operators.{narrow, follows_narrow}

pub not_less : (a b : ℤ) → not (int_lt a b) ≡ int_le b a
not_less (pos a) (pos b) = grind arith
not_less (pos a) (negsuc b) = grind arith
not_less (negsuc a) (pos b) = grind arith
not_less (negsuc a) (negsuc b) = grind arith

pub not_less_equal : (a b : ℤ) → not (int_le a b) ≡ int_lt b a
not_less_equal (pos a) (pos b) = grind arith
not_less_equal (pos a) (negsuc b) = grind arith
not_less_equal (negsuc a) (pos b) = grind arith
not_less_equal (negsuc a) (negsuc b) = grind arith

is_zero : (a : ℤ) → int_eq a (pos 0) ≡ not (is_true a)
is_zero (pos zero) = refl
is_zero (pos (suc n)) = let e : int_eq (pos (suc n)) (pos 0) ≡ false = grind arith in e
is_zero (negsuc n) = refl

pub number_is : (b : Bool) → is_true (number_of b) ≡ b
number_is true = refl
number_is false = refl

module _ (given : List Reply) (code : Code) where
  module _ {premise : Type 0} {most : ℕ} {setting : Setting} {first : ℕ} (below own : List ℤ) where
    -- whether an operand is 0
    pub follows_not : (a : ℤ) → Stand code.lines first not_instrs → Follows given code premise most setting first (first + 2) (record { operands = a ∷ below; temporaries = own }) Fits64 (λ v. record { operands = v ∷ below; temporaries = own }) (give (number_of (not (is_true a))))
    follows_not a stands =
        let at = stands.3 in
        let past : first + 1 + 1 ≡ first + 2 = omega arith in
        let whole = follows_before given code (pos 0) (follows_const given code (a ∷ below) own (pos 0) (small_fits 0 (omega arith)) (stands.0, stands.1, stands.2, tt)) (follows_two given code below own I.Eq a (pos 0) (number_of (int_eq a (pos 0))) (λ p. number_of_fits _) (λ around s free count. refl) (at.0, at.1, at.2, tt)) in
        subst (λ p. Follows given code premise most setting first p (record { operands = a ∷ below; temporaries = own }) Fits64 (λ v. record { operands = v ∷ below; temporaries = own }) (give (number_of (not (is_true a))))) past (subst (λ b. Follows given code premise most setting first (first + 1 + 1) (record { operands = a ∷ below; temporaries = own }) Fits64 (λ v. record { operands = v ∷ below; temporaries = own }) (give (number_of b))) (is_zero a) whole)

    -- a wrap at 64 bits, and then at a type
    unary_by : (i : Instr) (t : ValueType) (a z : ℤ) → ((around : Around) (s : State) (free : List ℤ) (count : ℕ) → act code i (machine_at around s (record { operands = a ∷ below; temporaries = own }) free first count) ≡ push (int_wrap w64 z) (machine_at around s (record { operands = below; temporaries = own }) free first count)) → Stand code.lines first (i ∷ wrapping t) → Follows given code premise most setting first (first + suc (length (wrapping t))) (record { operands = a ∷ below; temporaries = own }) Fits64 (λ v. record { operands = v ∷ below; temporaries = own }) (give (int_wrap (width_of t) z))
    unary_by i t a z same stands =
        let v = int_wrap w64 z in
        let past : first + 1 + length (wrapping t) ≡ first + suc (length (wrapping t)) = omega arith in
        let whole = follows_before given code {good = Fits64} v (follows_quiet given code {good = Fits64} {results = λ v. v ∷ below} i (stands.0, stands.1, stands.2, tt) v (λ p. SFits-int_wrap w64 z) same) (follows_narrow given code t below own v (λ p. p.1) stands.3) in
        subst (λ p. Follows given code premise most setting first p (record { operands = a ∷ below; temporaries = own }) Fits64 (λ v. record { operands = v ∷ below; temporaries = own }) (give (int_wrap (width_of t) z))) past (subst (λ w. Follows given code premise most setting first (first + 1 + length (wrapping t)) (record { operands = a ∷ below; temporaries = own }) Fits64 (λ v. record { operands = v ∷ below; temporaries = own }) (give w)) (narrow t z) whole)

    -- `-` and `~` at a type
    pub follows_unary : (op : UnaryOperator) (t : ValueType) (a : ℤ) → Stand code.lines first (unary_instrs op t) → Follows given code premise most setting first (first + length (unary_instrs op t)) (record { operands = a ∷ below; temporaries = own }) Fits64 (λ v. record { operands = v ∷ below; temporaries = own }) (give (int_wrap (width_of t) (unary_result op a)))
    follows_unary U.Negate t a stands = unary_by I.Neg t a (neg_ℤ a) (λ around s free count. refl) stands
    follows_unary U.Invert t a stands = unary_by I.Inv t a (neg_ℤ a -ℤ pos 1) (λ around s free count. refl) stands

  -- a comparison of one instruction
  compared : {premise : Type 0} {most : ℕ} {setting : Setting} {first : ℕ} (below own : List ℤ) (i : Instr) (a b : ℤ) (t : Bool) → ((around : Around) (s : State) (free : List ℤ) (count : ℕ) → act code i (machine_at around s (record { operands = b ∷ a ∷ below; temporaries = own }) free first count) ≡ push (number_of t) (machine_at around s (record { operands = below; temporaries = own }) free first count)) → Stand code.lines first (i ∷ []) → Follows given code premise most setting first (first + 1) (record { operands = b ∷ a ∷ below; temporaries = own }) Fits64 (λ v. record { operands = v ∷ below; temporaries = own }) (give (number_of t))
  compared below own i a b t same stands =
      follows_two given code below own i a b (number_of t) (λ p. number_of_fits t) same stands

  -- a comparison that is turned round by `not`
  turned : {premise : Type 0} {most : ℕ} {setting : Setting} {first : ℕ} (below own : List ℤ) (i : Instr) (a b : ℤ) (t u : Bool) → not t ≡ u → ((around : Around) (s : State) (free : List ℤ) (count : ℕ) → act code i (machine_at around s (record { operands = b ∷ a ∷ below; temporaries = own }) free first count) ≡ push (number_of t) (machine_at around s (record { operands = below; temporaries = own }) free first count)) → Stand code.lines first (i ∷ not_instrs) → Follows given code premise most setting first (first + 3) (record { operands = b ∷ a ∷ below; temporaries = own }) Fits64 (λ v. record { operands = v ∷ below; temporaries = own }) (give (number_of u))
  turned {premise} {most} {setting} {first} below own i a b t u e same stands =
      let past : first + 1 + 2 ≡ first + 3 = omega arith in
      let is : not (is_true (number_of t)) ≡ u = ap not (number_is t) ∙ e in
      let whole = follows_before given code (number_of t) (compared below own i a b t same (stands.0, stands.1, stands.2, tt)) (follows_not below own (number_of t) stands.3) in
      subst (λ p. Follows given code premise most setting first p (record { operands = b ∷ a ∷ below; temporaries = own }) Fits64 (λ v. record { operands = v ∷ below; temporaries = own }) (give (number_of u))) past (subst (λ w. Follows given code premise most setting first (first + 1 + 2) (record { operands = b ∷ a ∷ below; temporaries = own }) Fits64 (λ v. record { operands = v ∷ below; temporaries = own }) (give (number_of w))) is whole)

  -- a comparison
  pub follows_comparison : {premise : Type 0} {most : ℕ} {setting : Setting} {first : ℕ} (below own : List ℤ) (op : Comparison) (a b : ℤ) → Stand code.lines first (comparison_instrs op) → Follows given code premise most setting first (first + length (comparison_instrs op)) (record { operands = b ∷ a ∷ below; temporaries = own }) Fits64 (λ v. record { operands = v ∷ below; temporaries = own }) (give (number_of (compares op a b)))
  follows_comparison below own C.Equal a b stands = compared below own I.Eq a b (int_eq a b) (λ around s free count. refl) stands
  follows_comparison below own C.NotEqual a b stands = compared below own I.Ne a b (not (int_eq a b)) (λ around s free count. refl) stands
  follows_comparison below own C.Less a b stands = compared below own I.Lt a b (int_lt a b) (λ around s free count. refl) stands
  follows_comparison below own C.LessEqual a b stands = compared below own I.Le a b (int_le a b) (λ around s free count. refl) stands
  follows_comparison below own C.Greater a b stands = turned below own I.Le a b (int_le a b) (int_lt b a) (not_less_equal a b) (λ around s free count. refl) stands
  follows_comparison below own C.GreaterEqual a b stands = turned below own I.Lt a b (int_lt a b) (int_le b a) (not_less a b) (λ around s free count. refl) stands
