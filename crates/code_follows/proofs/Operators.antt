-- The operators follow their meaning.
use Rattle.std.proofs.Common.{◌≡◌, ℕ, zero, suc, ◌+◌, List, ◌∷◌, length, Option, Some, None, refl, sym, ap, subst, arith}
use Rattle.std.specs.Prelude.{Bool, true, false, not, ℤ, pos, negsuc, ◌+ℤ◌, ◌*ℤ◌, ⊤, option_map}
use Rattle.std.specs.Int.{w32, w64, int_wrap}
use Rattle.std.proofs.lemmas.Int.{SFits-int_wrap}
use Rattle.rtio_types.specs.declared.outcome.Exc.TheVariants.{ZeroDivisionError}
use Rattle.rtio_types.specs.declared.request.Reply.{Reply}
use Rattle.rtio_types.specs.Integers.{nonzero, floor_quotient, floor_remainder}
use Rattle.kern_syntax.specs.declared.expression.BinaryOperator.{BinaryOperator}
use Rattle.kern_syntax.specs.declared.expression.BinaryOperator.TheVariants as B
use Rattle.kern_calls.specs.declared.types.ValueType.{ValueType}
use Rattle.kern_calls.specs.declared.types.ValueType.TheVariants as V
use Rattle.kern_calls.specs.Types.{width_of, bits_of}
use Rattle.timeline_sem.specs.Actions.{State, give, ◌>>=◌}
use Rattle.timeline_sem.specs.Numbers.{exact_result}
use Rattle.timeline_sem.specs.Expressions.{or_raise, operate}
use Rattle.timeline_sem.proofs.Keeps.{keeps_or_raise}
use Rattle.core_isa.specs.declared.code.Code.{Code}
use Rattle.core_isa.specs.declared.instr.Instr.TheVariants as I
use Rattle.core_isa.specs.Steps.{act, push_or_raise}
use Rattle.code_forms.specs.Operations.{operator_instr, operator_instrs, wrapping}
use Rattle.code_follows.specs.Stands.{Around, Setting, machine_at, Fits64, EndsWith}
use Rattle.code_follows.specs.Parts.{Moved, Follows, Stand}
use Rattle.code_follows.proofs.Wrapping.{wraps_once}
use Rattle.code_follows.proofs.Compose.{moved, moves_of, follows_bind, follows_same}
use Rattle.code_follows.proofs.Flow.{follows_give}
use Rattle.code_follows.proofs.Instructions.{follows_one, follows_quiet, ends_or_raise}

-- what the instruction gives: the exact result, wrapped at 64 bits
abbrev pub machine_result : BinaryOperator → ValueType → ℤ → ℤ → Option ℤ
machine_result op t a b = option_map (int_wrap w64) (exact_result op (bits_of t) a b)

nonzero_wrapped : (b r : ℤ) → nonzero b (int_wrap w64 r) ≡ option_map (int_wrap w64) (nonzero b r)
nonzero_wrapped (pos zero) r = refl
nonzero_wrapped (pos (suc n)) r = refl
nonzero_wrapped (negsuc n) r = refl

-- the wrap that is left to do
abbrev pub narrowed : ValueType → ℤ → ℤ
narrowed V.Int32 v = int_wrap w32 v
narrowed t v = v

pub narrow : (t : ValueType) (z : ℤ) → narrowed t (int_wrap w64 z) ≡ int_wrap (width_of t) z
narrow V.Int32 z = wraps_once z
narrow V.Int64 z = refl
narrow V.Bool z = refl
narrow (V.Array n) z = refl

wrapped_same : (t : ValueType) (o : Option ℤ) (s : State) → (or_raise (option_map (int_wrap w64) o) ZeroDivisionError >>= λ v. give (narrowed t v)) s ≡ (or_raise o ZeroDivisionError >>= λ v. give (int_wrap (width_of t) v)) s
wrapped_same t None s = refl
wrapped_same t (Some z) s = ap (λ v. give v s) (narrow t z)

fits_wrapped : (o : Option ℤ) (v : ℤ) → option_map (int_wrap w64) o ≡ Some v → Fits64 v
fits_wrapped None v e = absurd (grind (arith, e))
fits_wrapped (Some z) v e = subst Fits64 (ap (λ o. Rattle.std.specs.Prelude.unwrap_or o v) e) (SFits-int_wrap w64 z)

pub fits_narrowed : (t : ValueType) (v : ℤ) → Fits64 v → Fits64 (narrowed t v)
fits_narrowed V.Int32 v f = let w = SFits-int_wrap w32 v in grind (arith, w)
fits_narrowed V.Int64 v f = f
fits_narrowed V.Bool v f = f
fits_narrowed (V.Array n) v f = f

module _ (given : List Reply) (code : Code) where
  act_operator : (op : BinaryOperator) (t : ValueType) (below own : List ℤ) (a b : ℤ) (around : Around) (s : State) (free : List ℤ) (place count : ℕ) → act code (operator_instr op t) (machine_at around s (record { operands = b ∷ a ∷ below; temporaries = own }) free place count) ≡ push_or_raise ZeroDivisionError (machine_result op t a b) (machine_at around s (record { operands = below; temporaries = own }) free place count)
  act_operator B.Add t below own a b around s free place count = refl
  act_operator B.Subtract t below own a b around s free place count = refl
  act_operator B.Multiply t below own a b around s free place count = refl
  act_operator B.Divide t below own a b around s free place count =
      ap (λ o. push_or_raise ZeroDivisionError o (machine_at around s (record { operands = below; temporaries = own }) free place count)) (nonzero_wrapped b (floor_quotient a b))
  act_operator B.Remainder t below own a b around s free place count =
      ap (λ o. push_or_raise ZeroDivisionError o (machine_at around s (record { operands = below; temporaries = own }) free place count)) (nonzero_wrapped b (floor_remainder a b))
  act_operator B.ShiftLeft t below own a b around s free place count = refl
  act_operator B.ShiftRight t below own a b around s free place count = refl
  act_operator B.BitAnd t below own a b around s free place count = refl
  act_operator B.BitXor t below own a b around s free place count = refl
  act_operator B.BitOr t below own a b around s free place count = refl

  pub follows_kept : {premise : Type 0} {most : ℕ} {setting : Setting} (first : ℕ) (below own : List ℤ) (v : ℤ) → (premise → Fits64 v) → Follows given code premise most setting first (first + 0) (record { operands = v ∷ below; temporaries = own }) Fits64 (λ a. record { operands = a ∷ below; temporaries = own }) (give v)
  follows_kept {premise} {most} {setting} first below own v fits =
      let e : first ≡ first + 0 = omega arith in
      subst (λ p. Follows given code premise most setting first p (record { operands = v ∷ below; temporaries = own }) Fits64 (λ a. record { operands = a ∷ below; temporaries = own }) (give v)) e (follows_give given code {results = λ a. record { operands = a ∷ below; temporaries = own }} v fits)

  -- the wrap at a type
  pub follows_narrow : {premise : Type 0} {most : ℕ} {setting : Setting} {first : ℕ} (t : ValueType) (below own : List ℤ) (v : ℤ) → (premise → Fits64 v) → Stand code.lines first (wrapping t) → Follows given code premise most setting first (first + length (wrapping t)) (record { operands = v ∷ below; temporaries = own }) Fits64 (λ a. record { operands = a ∷ below; temporaries = own }) (give (narrowed t v))
  follows_narrow {first} V.Int32 below own v fits stands =
      follows_quiet given code {results = λ a. a ∷ below} I.Wrap32 stands (int_wrap w32 v) (λ p. fits_narrowed V.Int32 v (fits p)) (λ around s free count. refl)
  follows_narrow {first} V.Int64 below own v fits stands = follows_kept first below own v fits
  follows_narrow {first} V.Bool below own v fits stands = follows_kept first below own v fits
  follows_narrow {first} (V.Array n) below own v fits stands = follows_kept first below own v fits

  -- an operator at a type
  pub follows_operator : {premise : Type 0} {most : ℕ} {setting : Setting} {first : ℕ} (op : BinaryOperator) (t : ValueType) (below own : List ℤ) (a b : ℤ) → Stand code.lines first (operator_instrs op t) → Follows given code premise most setting first (first + 1 + length (wrapping t)) (record { operands = b ∷ a ∷ below; temporaries = own }) Fits64 (λ v. record { operands = v ∷ below; temporaries = own }) (operate op t a b)
  follows_operator {premise} {most} {setting} {first} op t below own a b stands =
      let first_part = follows_one given code {premise = premise} {most = most} {setting = setting} {first = first} {past = first + 1} {inputs = record { operands = b ∷ a ∷ below; temporaries = own }} {good = Fits64} {results = λ v. record { operands = v ∷ below; temporaries = own }} (operator_instr op t) (stands.0, stands.1, stands.2, tt) (moves_of (keeps_or_raise Moved Moved moved (machine_result op t a b) ZeroDivisionError)) (λ around s free count p suits agrees slots few fit.
      subst (λ n. EndsWith given code setting n around (first + 1) Fits64 (λ v. record { operands = v ∷ below; temporaries = own }) (or_raise (machine_result op t a b) ZeroDivisionError s)) (sym (act_operator op t below own a b around s free first count)) (ends_or_raise given code setting (first + 1) below own (machine_result op t a b) ZeroDivisionError Fits64 (fits_wrapped (exact_result op (bits_of t) a b)) around s free first count slots agrees refl)) in
      follows_same given code (wrapped_same t (exact_result op (bits_of t) a b)) (follows_bind given code first_part (λ v. follows_narrow t below own v (λ p. p.1) stands.3))
