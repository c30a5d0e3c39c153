-- The numbers of expressions whose parts are numbers.
use Rattle.std.proofs.Common.{◌≡◌, ℕ, Bool, true, false, Option, Some, None, option_map, refl, ap, sym, subst, ◌∙◌, FitsSigned, to_z, of_z, w64}
use Rattle.std.specs.Prelude.{ℤ, pos, ◌&&◌, not, ⊤, IfSome}
use Rattle.std.specs.Int.{int_wrap}
use Rattle.std.proofs.lemmas.Cmp.{int_eq_equiv}
use Rattle.std.proofs.lemmas.Int.{to_z-of_z}
use Rattle.std.proofs.lemmas.Bool.Decides.{Decides-int_eq}
use Rattle.rtio_types.specs.Integers.{is_true, number_of}
use Rattle.kern_syntax.specs.declared.expression.BinaryOperator.{BinaryOperator}
use Rattle.kern_syntax.specs.declared.expression.BinaryOperator.TheVariants as O
use Rattle.kern_syntax.specs.declared.expression.Comparison.{Comparison}
use Rattle.kern_syntax.specs.declared.expression.UnaryOperator.{UnaryOperator}
use Rattle.kern_syntax.specs.declared.statement.Augment.{Augment}
use Rattle.kern_syntax.specs.Tree.{Bytes, Expression, variable, element, unary, binary, compare, negation, conjunction, disjunction, assign, augment}
use Rattle.kern_calls.specs.declared.types.ValueType.{ValueType}
use Rattle.kern_calls.specs.declared.types.ValueType.TheVariants as T
use Rattle.kern_calls.specs.Types.{Scope, binary_type, bits_of, type_of, width_of}
use Rattle.timeline_sem.specs.Numbers.{compares, exact_result, unary_result}
use Rattle.slack_meaning.specs.declared.span.Span.{Span}
use Rattle.slack_meaning.specs.Spans.{exactly, is_number}
use Rattle.slack_meaning.specs.Actions.{State, Action, normal, number, go_on, give, as_number, number_if, ◌>>=◌}
use Rattle.slack_meaning.specs.Expressions.{Callee, expression, held_by, operate, read_element, span_in, unless_decided, with_held, write}
use Rattle.slack_meaning.specs.Statements.{statement}
use Rattle.timeline_sem.specs.Statements.{operator_of}
use Rattle.slack_steps.specs.declared.known.Found.{Found}
use Rattle.slack_state.specs.Entries.{held_at, place_of, with_held_at}
use Rattle.slack_state.proofs.Placed.{held_there, with_there}
use Rattle.slack_steps.specs.Known.{HasRun, HoldsNext, IsKnownAs, Tells}
use Rattle.slack_steps.proofs.Results.{both_numbers, numbers_some}

-- a number is one
is_exact : (n : ℤ) → is_number (exactly n) ≡ true
is_exact n = int_eq_equiv.refl n

-- so it is a number where one is wanted
pub number_is : (n : ℤ) (s : State) → as_number (exactly n) s ≡ normal n s
number_is n s = ap (λ b. number_if b (exactly n) s) (is_exact n)

-- a span that is a number is that number
exact : (span : Span) → is_number span ≡ true → span ≡ exactly span.least
exact span is =
    let same : span.least ≡ span.greatest = (Decides-int_eq span.least span.greatest).0 is in
    λ i. record { least = span.least; greatest = sym same i }

-- a type that is the wider of int64 and another
left_int64 : (op : BinaryOperator) (t : ValueType) → binary_type op T.Int64 t ≡ T.Int64
left_int64 O.Add t = refl
left_int64 O.Subtract t = refl
left_int64 O.Multiply t = refl
left_int64 O.Divide t = refl
left_int64 O.Remainder t = refl
left_int64 O.ShiftLeft t = refl
left_int64 O.ShiftRight t = refl
left_int64 O.BitAnd t = refl
left_int64 O.BitXor t = refl
left_int64 O.BitOr t = refl

module _ (scope : Scope) where
  -- a number that is handed on as a word is the same
  pub as_word : (found : Found) (n : ℤ) (e : Expression) (s : State) → FitsSigned w64 n → Tells found n scope e s → Tells found (to_z w64 (of_z w64 n)) scope e s
  as_word found n e s fits = subst (λ n. Tells found n scope e s) (sym (to_z-of_z w64 n fits))

  -- a result is int64 where its left operand is
  pub type_by_left : (op : BinaryOperator) (left right whole : Expression) → whole ≡ binary op left right → type_of scope left ≡ T.Int64 → type_of scope whole ≡ T.Int64
  type_by_left op left right whole tree is =
      ap (type_of scope) tree ∙ ap (λ t. binary_type op t (type_of scope right)) is ∙ left_int64 op (type_of scope right)

  -- a name
  pub name_known : (x : Bytes) (s : State) (span : Span) → span ≡ span_in (held_by s.values x) → is_number span ≡ true → IsKnownAs scope (variable x) s span.least
  name_known x s span held is callee = ap (λ v. normal v s) (sym held ∙ exact span is)

  -- an element of an array
  pub element_known : (x : Bytes) (i : Expression) (s : State) (place : ℤ) (span : Span) → IsKnownAs scope i s place → read_element x (exactly place) s ≡ normal span s → is_number span ≡ true → IsKnownAs scope (element x i) s span.least
  element_known x i s place span index there is callee =
      ap (λ m. go_on m (λ place. read_element x place)) (index callee) ∙ there ∙ ap (λ v. normal v s) (exact span is)

  -- an operator on one
  pub unary_known : (op : UnaryOperator) (e : Expression) (s : State) (n k : ℤ) → IsKnownAs scope e s n → k ≡ int_wrap (width_of (type_of scope e)) (unary_result op n) → IsKnownAs scope (unary op e) s k
  unary_known op e s n k known is callee =
      let result : ℤ → Action Span = λ n. give (exactly (int_wrap (width_of (type_of scope e)) (unary_result op n))) in
      ap (λ m. go_on m (λ a. as_number a >>= result)) (known callee)
      ∙ ap (λ m. go_on m result) (number_is n s)
      ∙ ap (λ k. normal (exactly k) s) (sym is)

  -- an operator on two
  pub binary_known : (op : BinaryOperator) (left right whole : Expression) (s : State) (m n k : ℤ) → whole ≡ binary op left right → IsKnownAs scope left s m → IsKnownAs scope right s n → Some k ≡ option_map (int_wrap (width_of (type_of scope whole))) (exact_result op (bits_of (type_of scope whole)) m n) → IsKnownAs scope whole s k
  binary_known op left right whole s m n k tree first second is callee =
      let t = type_of scope (binary op left right) in
      let both : (is_number (exactly m) && is_number (exactly n)) ≡ true = λ i. is_exact m i && is_exact n i in
      let typed : Some k ≡ option_map (int_wrap (width_of t)) (exact_result op (bits_of t) m n) = is ∙ ap (λ e. option_map (int_wrap (width_of (type_of scope e))) (exact_result op (bits_of (type_of scope e)) m n)) tree in
      ap (λ e. expression scope callee e s) tree
      ∙ ap (λ c. go_on c (λ a. expression scope callee right >>= (λ b. operate op t a b))) (first callee)
      ∙ ap (λ c. go_on c (λ b. operate op t (exactly m) b)) (second callee)
      ∙ both_numbers op t (exactly m) (exactly n) s both
      ∙ numbers_some op t m n k s typed

  -- a comparison
  pub comparison_known : (op : Comparison) (left right : Expression) (s : State) (m n : ℤ) → IsKnownAs scope left s m → IsKnownAs scope right s n → IsKnownAs scope (compare op left right) s (number_of (compares op m n))
  comparison_known op left right s m n first second callee =
      let last : ℤ → ℤ → Action Span = λ m n. give (exactly (number_of (compares op m n))) in
      let then : Span → Span → Action Span = λ a b. as_number a >>= (λ m. as_number b >>= last m) in
      ap (λ c. go_on c (λ a. expression scope callee right >>= then a)) (first callee)
      ∙ ap (λ c. go_on c (then (exactly m))) (second callee)
      ∙ ap (λ c. go_on c (λ m. as_number (exactly n) >>= last m)) (number_is m s)
      ∙ ap (λ c. go_on c (last m)) (number_is n s)

  -- `not`
  pub negation_known : (e : Expression) (s : State) (n : ℤ) → IsKnownAs scope e s n → IsKnownAs scope (negation e) s (number_of (not (is_true n)))
  negation_known e s n known callee =
      let last : ℤ → Action Span = λ n. give (exactly (number_of (not (is_true n)))) in
      ap (λ c. go_on c (λ a. as_number a >>= last)) (known callee)
      ∙ ap (λ c. go_on c last) (number_is n s)

  -- `and`, decided by its first part or by its second
  conjunction_begun : (left right : Expression) (s : State) (n : ℤ) (callee : Callee) → IsKnownAs scope left s n → expression scope callee (conjunction left right) s ≡ unless_decided (not (is_true n)) (exactly (pos 0)) (expression scope callee right) s
  conjunction_begun left right s n callee first =
      let last : ℤ → Action Span = λ n. unless_decided (not (is_true n)) (exactly (pos 0)) (expression scope callee right) in
      ap (λ c. go_on c (λ a. as_number a >>= last)) (first callee)
      ∙ ap (λ c. go_on c last) (number_is n s)

  pub conjunction_false : (left right : Expression) (s : State) (n : ℤ) → is_true n ≡ false → IsKnownAs scope left s n → IsKnownAs scope (conjunction left right) s (pos 0)
  conjunction_false left right s n isnt first callee =
      conjunction_begun left right s n callee first ∙ ap (λ b. unless_decided (not b) (exactly (pos 0)) (expression scope callee right) s) isnt

  pub conjunction_true : (left right : Expression) (s : State) (n k : ℤ) → is_true n ≡ true → IsKnownAs scope left s n → IsKnownAs scope right s k → IsKnownAs scope (conjunction left right) s k
  conjunction_true left right s n k is first second callee =
      conjunction_begun left right s n callee first
      ∙ ap (λ b. unless_decided (not b) (exactly (pos 0)) (expression scope callee right) s) is
      ∙ second callee

  -- `or`
  disjunction_begun : (left right : Expression) (s : State) (n : ℤ) (callee : Callee) → IsKnownAs scope left s n → expression scope callee (disjunction left right) s ≡ unless_decided (is_true n) (exactly (pos 1)) (expression scope callee right) s
  disjunction_begun left right s n callee first =
      let last : ℤ → Action Span = λ n. unless_decided (is_true n) (exactly (pos 1)) (expression scope callee right) in
      ap (λ c. go_on c (λ a. as_number a >>= last)) (first callee)
      ∙ ap (λ c. go_on c last) (number_is n s)

  pub disjunction_true : (left right : Expression) (s : State) (n : ℤ) → is_true n ≡ true → IsKnownAs scope left s n → IsKnownAs scope (disjunction left right) s (pos 1)
  disjunction_true left right s n is first callee =
      disjunction_begun left right s n callee first ∙ ap (λ b. unless_decided b (exactly (pos 1)) (expression scope callee right) s) is

  pub disjunction_false : (left right : Expression) (s : State) (n k : ℤ) → is_true n ≡ false → IsKnownAs scope left s n → IsKnownAs scope right s k → IsKnownAs scope (disjunction left right) s k
  disjunction_false left right s n k isnt first second callee =
      disjunction_begun left right s n callee first
      ∙ ap (λ b. unless_decided b (exactly (pos 1)) (expression scope callee right) s) isnt
      ∙ second callee

  -- a sum of what a name holds, at the name's type
  pub sum_known : (op : BinaryOperator) (x : Bytes) (held : Span) (added n : ℤ) (s : State) → is_number held ≡ true → Some n ≡ option_map (int_wrap (width_of (type_of scope (variable x)))) (exact_result op (bits_of (type_of scope (variable x))) held.least added) → operate op (type_of scope (variable x)) held (exactly added) s ≡ normal (exactly n) s
  sum_known op x held added n s is so =
      let t = type_of scope (variable x) in
      let both : (is_number held && is_number (exactly added)) ≡ true = λ i. is i && is_exact added i in
      both_numbers op t held (exactly added) s both ∙ numbers_some op t held.least added n s so

  -- an assignment whose value is known
  pub assigned : (callee : Callee) (x : Bytes) (e : Expression) (s : State) (n : ℤ) → IsKnownAs scope e s n → statement scope callee (assign x e) s ≡ normal tt (record s { values = with_held s.values x (number (exactly n)) })
  assigned callee x e s n known = ap (λ m. go_on m (λ a. write x (number a))) (known callee)

  -- a sum that is assigned
  pub augmented : (callee : Callee) (x : Bytes) (op : Augment) (e : Expression) (s : State) (added n : ℤ) → IsKnownAs scope e s added → operate (operator_of op) (type_of scope (variable x)) (span_in (held_by s.values x)) (exactly added) s ≡ normal (exactly n) s → statement scope callee (augment x op e) s ≡ normal tt (record s { values = with_held s.values x (number (exactly n)) })
  augmented callee x op e s added n known sum =
      let last : Span → Action ⊤ = λ new. write x (number new) in
      ap (λ m. go_on m (λ a. operate (operator_of op) (type_of scope (variable x)) (span_in (held_by s.values x)) a >>= last)) (known callee)
      ∙ ap (λ m. go_on m last) sum

  -- one whose sum is held at the name's place, if there is one
  pub augment_ran : (callee : Callee) (x : Bytes) (op : Augment) (e : Expression) (s new : State) (added : ℤ) (place : ℕ) (held : Span) (sum : Option ℤ) (ran : Bool) → IsKnownAs scope e s added → place ≡ place_of s.values x → held ≡ span_in (held_at s.values place) → IfSome sum (λ n. (s : State) → operate (operator_of op) (type_of scope (variable x)) held (exactly added) s ≡ normal (exactly n) s) → HoldsNext ran place sum s new → HasRun ran s new (statement scope callee (augment x op e))
  augment_ran callee x op e s new added place held (Some n) true known at is summed next =
      let there : held ≡ span_in (held_by s.values x) = is ∙ ap (λ p. span_in (held_at s.values p)) at ∙ ap span_in (held_there s.values x) in
      let sum : operate (operator_of op) (type_of scope (variable x)) (span_in (held_by s.values x)) (exactly added) s ≡ normal (exactly n) s = subst (λ h. operate (operator_of op) (type_of scope (variable x)) h (exactly added) s ≡ normal (exactly n) s) there (summed s) in
      let same : with_held_at s.values place (number (exactly n)) ≡ with_held s.values x (number (exactly n)) = ap (λ p. with_held_at s.values p (number (exactly n))) at ∙ with_there s.values x (number (exactly n)) in
      augmented callee x op e s added n known sum
      ∙ ap (λ v. normal tt (record s { values = v })) (sym same)
      ∙ ap (λ (left : State). normal tt left) (sym next)
  augment_ran callee x op e s new added place held (Some n) false known at is summed next = absurd next
  augment_ran callee x op e s new added place held None true known at is summed next = absurd next
  augment_ran callee x op e s new added place held None false known at is summed next = next
