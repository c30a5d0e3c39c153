-- An operator's result is wrapped where it can leave its width: a remainder by an integer, and the bits in common with one, can't.
use Rattle.std.proofs.Common.{◌≡◌, ◌<◌, ◌≤◌, ◌^◌, ◌+◌, ◌-◌, ◌*◌, ℕ, zero, suc, Option, Some, None, refl, sym, ◌∙◌, ap, subst, arith}
use Rattle.std.specs.Prelude.{Bool, true, false, nat_lt, if◌then◌else◌, ℤ, pos, negsuc, ◌-ℤ◌, ◌*ℤ◌, neg_ℤ, ◌/◌, ◌%◌}
use Rattle.std.specs.Int.{w32, w64, int_wrap, int_bit_and, cast_unsigned}
use Rattle.std.specs.Int.Bits.{bit_and}
use Rattle.std.proofs.lemmas.Int.{int_wrap_fits}
use Rattle.std.proofs.lemmas.Nat.{and_le_l, and_le_r, mod_below}
use Rattle.std.proofs.Math.Nat.{div-add-mod}
use Rattle.rtio_types.specs.Integers.{floor_remainder}
use Rattle.kern_syntax.specs.declared.expression.BinaryOperator.{BinaryOperator}
use Rattle.kern_syntax.specs.declared.expression.BinaryOperator.TheVariants as B
use Rattle.kern_calls.specs.declared.types.ValueType.{ValueType}
use Rattle.kern_calls.specs.declared.types.ValueType.TheVariants as V
use Rattle.kern_calls.specs.Types.{Scope, wider_type, literal_type, binary_type, type_of}
use Rattle.kern_syntax.specs.Tree.{Expression, integer, binary}
use Rattle.timeline_sem.specs.Actions.{State, Completion, normal, early, Action, give, go_on, ◌>>=◌}
use Rattle.timeline_sem.specs.Expressions.{Callee, operate, expression}
use Rattle.code_forms.specs.Operations.{literal, wrapped_type}
use Rattle.code_forms.proofs.Literals.{literal_is}

-- a remainder by a positive number is one of the numbers below it
difference : (a p r : ℕ) → p + r ≡ a → pos a -ℤ pos p ≡ pos r
difference a p r is = grind (arith, is)

opposite_difference : (a m p r : ℕ) → p + r ≡ a → r ≤ m → negsuc a -ℤ neg_ℤ (pos (p + suc m)) ≡ pos (m - r)
opposite_difference a m p r is le = grind (arith, is, le)

times_more : (n q : ℕ) → n * suc q ≡ n * q + n
times_more n q = grind arith

remainder_is : (a : ℤ) (m : ℕ) → (k : ℕ) × (floor_remainder a (pos (suc m)) ≡ pos k) × (k ≤ m)
remainder_is (pos a) m =
    let below : a % suc m < suc m = mod_below a (suc m) (omega arith) in
    (a % suc m, difference a (suc m * (a / suc m)) (a % suc m) (div-add-mod a (suc m)), omega (arith, below))
remainder_is (negsuc a) m =
    let below : a % suc m < suc m = mod_below a (suc m) (omega arith) in
    let r = a % suc m in
    let q = a / suc m in
    let product : pos (suc m) *ℤ negsuc q ≡ neg_ℤ (pos (suc m * q + suc m)) = ap (λ (n : ℕ). neg_ℤ (pos n)) (times_more (suc m) q) in
    (m - r, ap (λ z. negsuc a -ℤ z) product ∙ opposite_difference a m (suc m * q) r (div-add-mod a (suc m)) (omega (arith, below)), omega arith)

-- what both numbers have in common is no greater than one of them
common_is : (a : ℤ) (n : ℕ) → n < 2 ^ 31 → (k : ℕ) × (int_bit_and w64 a (pos n) ≡ pos k) × (k ≤ n)
common_is a n less =
    (bit_and (cast_unsigned w64 a) n, grind (arith, less, and_le_r (cast_unsigned w64 a) n), and_le_r (cast_unsigned w64 a) n)

common_before : (a : ℤ) (n : ℕ) → n < 2 ^ 31 → (k : ℕ) × (int_bit_and w64 (pos n) a ≡ pos k) × (k ≤ n)
common_before a n less =
    (bit_and n (cast_unsigned w64 a), grind (arith, less, and_le_l n (cast_unsigned w64 a)), and_le_l n (cast_unsigned w64 a))

-- a number that is small wraps to itself at both widths
small_wraps : (z : ℤ) (k n : ℕ) → z ≡ pos k → k ≤ n → n < 2 ^ 31 → int_wrap w64 z ≡ int_wrap w32 z
small_wraps z k n is le less =
    int_wrap_fits w64 z (grind (arith, is, le, less)) ∙ sym (int_wrap_fits w32 z (grind (arith, is, le, less)))

remainder_wraps : (a : ℤ) (n : ℕ) (s : State) → n < 2 ^ 31 → operate B.Remainder V.Int64 a (pos n) s ≡ operate B.Remainder V.Int32 a (pos n) s
remainder_wraps a zero s less = refl
remainder_wraps a (suc m) s less =
    let is = remainder_is a m in
    ap (λ v. give v s) (small_wraps (floor_remainder a (pos (suc m))) is.0 (suc m) is.1 (omega (arith, is.2)) less)

common_wraps : (a : ℤ) (n : ℕ) (s : State) → n < 2 ^ 31 → operate B.BitAnd V.Int64 a (pos n) s ≡ operate B.BitAnd V.Int32 a (pos n) s
common_wraps a n s less =
    let is = common_is a n less in
    ap (λ v. give v s) (small_wraps (int_bit_and w64 a (pos n)) is.0 n is.1 is.2 less)

common_before_wraps : (a : ℤ) (n : ℕ) (s : State) → n < 2 ^ 31 → operate B.BitAnd V.Int64 (pos n) a s ≡ operate B.BitAnd V.Int32 (pos n) a s
common_before_wraps a n s less =
    let is = common_before a n less in
    ap (λ v. give v s) (small_wraps (int_bit_and w64 (pos n) a) is.0 n is.1 is.2 less)

-- an operator whose right operand is this integer
pub bounded_same : (op : BinaryOperator) (t : ValueType) (a : ℤ) (n : ℕ) (s : State) → (t ≡ V.Int32 → n < 2 ^ 31) → operate op (wrapped_type op None (Some n) t) a (pos n) s ≡ operate op t a (pos n) s
bounded_same B.Remainder V.Int32 a n s small = remainder_wraps a n s (small refl)
bounded_same B.Remainder V.Int64 a n s small = refl
bounded_same B.Remainder V.Bool a n s small = refl
bounded_same B.Remainder (V.Array k) a n s small = refl
bounded_same B.BitAnd V.Int32 a n s small = common_wraps a n s (small refl)
bounded_same B.BitAnd V.Int64 a n s small = refl
bounded_same B.BitAnd V.Bool a n s small = refl
bounded_same B.BitAnd (V.Array k) a n s small = refl
bounded_same B.Add t a n s small = refl
bounded_same B.Subtract t a n s small = refl
bounded_same B.Multiply t a n s small = refl
bounded_same B.Divide t a n s small = refl
bounded_same B.ShiftLeft t a n s small = refl
bounded_same B.ShiftRight t a n s small = refl
bounded_same B.BitXor t a n s small = refl
bounded_same B.BitOr t a n s small = refl

unbounded : (op : BinaryOperator) (t : ValueType) → wrapped_type op None None t ≡ t
unbounded B.Add t = refl
unbounded B.Subtract t = refl
unbounded B.Multiply t = refl
unbounded B.Divide t = refl
unbounded B.Remainder t = refl
unbounded B.ShiftLeft t = refl
unbounded B.ShiftRight t = refl
unbounded B.BitAnd t = refl
unbounded B.BitXor t = refl
unbounded B.BitOr t = refl

-- where an operator and its literal give an int32 by their types, the literal has 31 bits
small_literal : (b : Bool) (n : ℕ) → nat_lt n (2 ^ 31) ≡ b → (if b then V.Int32 else V.Int64) ≡ V.Int32 → n < 2 ^ 31
small_literal true n is same = grind (arith, is)
small_literal false n is same = absurd (cc)

wider_narrow : (t u : ValueType) → wider_type t u ≡ V.Int32 → u ≡ V.Int32
wider_narrow V.Int32 V.Int32 e = refl
wider_narrow V.Int32 V.Int64 e = e
wider_narrow V.Int32 V.Bool e = absurd (cc)
wider_narrow V.Int32 (V.Array n) e = absurd (cc)
wider_narrow V.Int64 u e = absurd (cc)
wider_narrow V.Bool u e = absurd (cc)
wider_narrow (V.Array n) u e = absurd (cc)

wider_narrow_before : (t u : ValueType) → wider_type t u ≡ V.Int32 → t ≡ V.Int32
wider_narrow_before V.Int32 u e = refl
wider_narrow_before V.Int64 u e = absurd (cc)
wider_narrow_before V.Bool u e = absurd (cc)
wider_narrow_before (V.Array n) u e = absurd (cc)

-- what an integer has in common with a number, at a type
bounded_before : (t : ValueType) (n : ℕ) (v : ℤ) (s : State) → (t ≡ V.Int32 → n < 2 ^ 31) → operate B.BitAnd V.Int64 (pos n) v s ≡ operate B.BitAnd t (pos n) v s
bounded_before V.Int32 n v s small = common_before_wraps v n s (small refl)
bounded_before V.Int64 n v s small = refl
bounded_before V.Bool n v s small = refl
bounded_before (V.Array k) n v s small = refl

same_before : (t : ValueType) (n : ℕ) (v : ℤ) (s : State) → operate B.BitAnd V.Int64 (pos n) v s ≡ operate B.BitAnd (binary_type B.BitAnd (literal_type n) t) (pos n) v s
same_before t n v s =
    bounded_before (wider_type (literal_type n) t) n v s (λ same. small_literal (nat_lt n (2 ^ 31)) n refl (wider_narrow_before (literal_type n) t same))

-- an operator at the type of both operands, the right one this integer
same_with : (op : BinaryOperator) (t : ValueType) (n : ℕ) (v : ℤ) (s : State) → operate op (wrapped_type op None (Some n) (binary_type op t (literal_type n))) v (pos n) s ≡ operate op (binary_type op t (literal_type n)) v (pos n) s
same_with B.Remainder t n v s =
    bounded_same B.Remainder (wider_type t (literal_type n)) v n s (λ same. small_literal (nat_lt n (2 ^ 31)) n refl (wider_narrow t (literal_type n) same))
same_with B.BitAnd t n v s =
    bounded_same B.BitAnd (wider_type t (literal_type n)) v n s (λ same. small_literal (nat_lt n (2 ^ 31)) n refl (wider_narrow t (literal_type n) same))
same_with B.Add t n v s = refl
same_with B.Subtract t n v s = refl
same_with B.Multiply t n v s = refl
same_with B.Divide t n v s = refl
same_with B.ShiftLeft t n v s = refl
same_with B.ShiftRight t n v s = refl
same_with B.BitXor t n v s = refl
same_with B.BitOr t n v s = refl

module _ (scope : Scope) (callee : Callee) (op : BinaryOperator) (a : Expression) where
  -- an operator's operands, and then it at a type
  abbrev operated : Expression → ValueType → Action ℤ
  operated b t = expression scope callee a >>= λ v. expression scope callee b >>= λ w. operate op t v w

  behind_left : (n : ℕ) (c : Completion ℤ) → go_on c (λ v. operate op (wrapped_type op None (Some n) (type_of scope (binary op a (integer n)))) v (pos n)) ≡ go_on c (λ v. operate op (type_of scope (binary op a (integer n))) v (pos n))
  behind_left n (normal v s) = same_with op (type_of scope a) n v s
  behind_left n (early reason s) = refl

  by_literal : (b : Expression) (s : State) (o : Option ℕ) → literal b ≡ o → operated b (wrapped_type op None (literal b) (type_of scope (binary op a b))) s ≡ expression scope callee (binary op a b) s
  by_literal b s None is =
      ap (λ (o : Option ℕ). operated b (wrapped_type op None o (type_of scope (binary op a b))) s) is ∙ ap (λ (t : ValueType). operated b t s) (unbounded op (type_of scope (binary op a b)))
  by_literal b s (Some n) is =
      subst (λ (b : Expression). operated b (wrapped_type op None (literal b) (type_of scope (binary op a b))) s ≡ expression scope callee (binary op a b) s) (sym (literal_is b n is)) (behind_left n (expression scope callee a s))

module _ (scope : Scope) (callee : Callee) (b : Expression) where
  -- the bits that both operands have in common, at a type
  abbrev common : Expression → ValueType → Action ℤ
  common a t = operated scope callee B.BitAnd a b t

  before_right : (n : ℕ) (c : Completion ℤ) → go_on c (λ w. operate B.BitAnd V.Int64 (pos n) w) ≡ go_on c (λ w. operate B.BitAnd (type_of scope (binary B.BitAnd (integer n) b)) (pos n) w)
  before_right n (normal w s) = same_before (type_of scope b) n w s
  before_right n (early reason s) = refl

  by_left : (a : Expression) (s : State) (o : Option ℕ) → literal a ≡ o → common a (wrapped_type B.BitAnd (literal a) (literal b) (type_of scope (binary B.BitAnd a b))) s ≡ expression scope callee (binary B.BitAnd a b) s
  by_left a s None is =
      ap (λ (o : Option ℕ). common a (wrapped_type B.BitAnd o (literal b) (type_of scope (binary B.BitAnd a b))) s) is ∙ by_literal scope callee B.BitAnd a b s (literal b) refl
  by_left a s (Some n) is =
      subst (λ (a : Expression). common a (wrapped_type B.BitAnd (literal a) (literal b) (type_of scope (binary B.BitAnd a b))) s ≡ expression scope callee (binary B.BitAnd a b) s) (sym (literal_is a n is)) (before_right n (expression scope callee b s))

-- what the code of an operator does is what the operator means
pub wrapped_means : (scope : Scope) (callee : Callee) (op : BinaryOperator) (a b : Expression) (s : State) → operated scope callee op a b (wrapped_type op (literal a) (literal b) (type_of scope (binary op a b))) s ≡ expression scope callee (binary op a b) s
wrapped_means scope callee B.BitAnd a b s = by_left scope callee b a s (literal a) refl
wrapped_means scope callee B.Remainder a b s = by_literal scope callee B.Remainder a b s (literal b) refl
wrapped_means scope callee B.Add a b s = refl
wrapped_means scope callee B.Subtract a b s = refl
wrapped_means scope callee B.Multiply a b s = refl
wrapped_means scope callee B.Divide a b s = refl
wrapped_means scope callee B.ShiftLeft a b s = refl
wrapped_means scope callee B.ShiftRight a b s = refl
wrapped_means scope callee B.BitXor a b s = refl
wrapped_means scope callee B.BitOr a b s = refl
