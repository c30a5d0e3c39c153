-- The meanings of expressions, computed in small kernels.
use Rattle.std.proofs.Common.{◌≡◌, List, [], ◌∷◌, ◌++◌, length, refl}
use Rattle.std.specs.Prelude.{ℕ, ℤ, pos, negsuc, codes, map}
use Rattle.std.specs.Int.{int_wrap}
use Rattle.rtio_types.specs.declared.outcome.Exc.TheVariants.{IndexError, ZeroDivisionError}
use Rattle.rtio_types.specs.declared.request.Request.TheVariants as Q
use Rattle.rtio_types.specs.declared.request.Reply.TheVariants as R
use Rattle.kern_syntax.specs.declared.expression.BinaryOperator.TheVariants.{Add as Plus, Subtract, Multiply, Divide, Remainder, ShiftLeft, ShiftRight, BitAnd, BitXor, BitOr}
use Rattle.kern_syntax.specs.declared.expression.UnaryOperator.TheVariants.{Negate, Invert}
use Rattle.kern_syntax.specs.declared.expression.Comparison.{Comparison}
use Rattle.kern_syntax.specs.declared.expression.Comparison.TheVariants.{Equal, NotEqual, Less, LessEqual, Greater, GreaterEqual}
use Rattle.kern_syntax.specs.Tree.{Bytes, Expression, integer, true_literal, false_literal, variable, element, group, unary, binary, compare, negation, conjunction, disjunction, call, method, no_more, value_then, text_then, evaluate, assign_element, assign_list}
use Rattle.timeline_sem.specs.declared.meant.MeantOutcome.TheVariants as M
use Rattle.timeline_sem.specs.Programs.{Meaning}
use Rattle.timeline_sem.proofs.SmallKernels.{main_of, minus, call_of, counter_now, edge_now, edge_request, set_d, tell_d, set_d_request, set_d_requests, set_d_array, dones, run, meant}

-- -3 with 2, 2 with 2 and 2 with -3
compared : Comparison → Meaning
compared op =
    run
    (main_of
    (tell_d (compare op (minus 3) (integer 2))
    ∷ tell_d (compare op (integer 2) (integer 2))
    ∷ tell_d (compare op (integer 2) (minus 3))
    ∷ []))
    3
    (dones 3)

answers : ℕ → ℕ → ℕ → Meaning
answers first second third = meant (set_d_requests (pos first ∷ pos second ∷ pos third ∷ [])) (pos 0) 0 M.Returned

compared_equal : compared Equal ≡ answers 0 1 0
unfolding int_wrap compared answers
compared_equal = refl

compared_not_equal : compared NotEqual ≡ answers 1 0 1
unfolding int_wrap compared answers
compared_not_equal = refl

compared_less : compared Less ≡ answers 1 0 0
unfolding int_wrap compared answers
compared_less = refl

compared_less_equal : compared LessEqual ≡ answers 1 1 0
unfolding int_wrap compared answers
compared_less_equal = refl

compared_greater : compared Greater ≡ answers 0 0 1
unfolding int_wrap compared answers
compared_greater = refl

compared_greater_equal : compared GreaterEqual ≡ answers 0 1 1
unfolding int_wrap compared answers
compared_greater_equal = refl

-- whether each of some conditions holds
told : List Expression → Meaning
told conditions = run (main_of (map tell_d conditions)) (length conditions) (dones (length conditions))

-- the values of some expressions
values_of : List Expression → Meaning
values_of es = run (main_of (map set_d es)) (length es) (dones (length es))

-- these numbers are told, and every unit is used
gives : List ℤ → Meaning
gives values = meant (set_d_requests values) (pos 0) 0 M.Returned

literals_and_not : told (true_literal ∷ false_literal ∷ negation true_literal ∷ negation false_literal ∷ []) ≡ gives (pos 1 ∷ pos 0 ∷ pos 0 ∷ pos 1 ∷ [])
unfolding told gives
literals_and_not = refl

both : told (conjunction true_literal true_literal ∷ conjunction true_literal false_literal ∷ conjunction false_literal true_literal ∷ conjunction false_literal false_literal ∷ []) ≡ gives (pos 1 ∷ pos 0 ∷ pos 0 ∷ pos 0 ∷ [])
unfolding told gives
both = refl

either_one : told (disjunction true_literal true_literal ∷ disjunction true_literal false_literal ∷ disjunction false_literal true_literal ∷ disjunction false_literal false_literal ∷ []) ≡ gives (pos 1 ∷ pos 1 ∷ pos 1 ∷ pos 0 ∷ [])
unfolding told gives
either_one = refl

-- what holds is equal to `True`, and what doesn't to `False`
is_literal : Expression → Expression → Expression
is_literal e literal = compare Equal (group e) literal

truth_values : told (is_literal (compare Less (integer 1) (integer 2)) true_literal ∷ is_literal (compare Less (integer 2) (integer 1)) false_literal ∷ is_literal (negation false_literal) true_literal ∷ is_literal (negation true_literal) false_literal ∷ is_literal (conjunction true_literal true_literal) true_literal ∷ is_literal (conjunction false_literal true_literal) false_literal ∷ is_literal (disjunction true_literal false_literal) true_literal ∷ is_literal (disjunction false_literal false_literal) false_literal ∷ is_literal true_literal false_literal ∷ []) ≡ gives (pos 1 ∷ pos 1 ∷ pos 1 ∷ pos 1 ∷ pos 1 ∷ pos 1 ∷ pos 1 ∷ pos 1 ∷ pos 0 ∷ [])
unfolding told gives is_literal
truth_values = refl

-- the second operand of `and` and of `or` asks only where the first doesn't decide
is_8 : Expression
is_8 = compare Equal counter_now (integer 8)

asking_second : run (main_of (tell_d (conjunction false_literal is_8) ∷ tell_d (conjunction true_literal is_8) ∷ tell_d (disjunction true_literal is_8) ∷ tell_d (disjunction false_literal is_8) ∷ [])) 9 (R.Done ∷ R.Time (pos 8) ∷ R.Done ∷ R.Done ∷ R.Time (pos 16) ∷ R.Done ∷ []) ≡ meant (set_d_request (pos 0) ∷ Q.Counter ∷ set_d_request (pos 1) ∷ set_d_request (pos 1) ∷ Q.Counter ∷ set_d_request (pos 0) ∷ []) (pos 0) 3 M.Returned
unfolding int_wrap is_8
asking_second = refl

-- numbers of 64 and of 32 bits
int64_of : Expression → Expression
int64_of e = call_of (codes "int64") e

int32_of : Expression → Expression
int32_of e = call_of (codes "int32") e

-- the least number of 32 bits, and of 64
least_32 : Expression
least_32 = unary Invert (integer 2147483647)

least_64 : Expression
least_64 = unary Invert (integer 9223372036854775807)

sums_and_differences : values_of (binary Plus (integer 9223372036854775807) (integer 1) ∷ binary Subtract (integer 3) (integer 5) ∷ binary Subtract (minus 2147483647) (integer 2) ∷ binary Subtract (int64_of (minus 2147483647)) (integer 2) ∷ []) ≡ gives (negsuc 9223372036854775807 ∷ negsuc 1 ∷ pos 2147483647 ∷ negsuc 2147483648 ∷ [])
unfolding int_wrap values_of gives int64_of
sums_and_differences = refl

products : values_of (binary Multiply (integer 100000) (integer 100000) ∷ binary Multiply (minus 7) (integer 6) ∷ binary Multiply (int64_of (integer 100000)) (integer 100000) ∷ []) ≡ gives (pos 1410065408 ∷ negsuc 41 ∷ pos 10000000000 ∷ [])
unfolding int_wrap values_of gives int64_of
products = refl

-- quotients are rounded down, and that of the least number by -1 wraps
quotients : values_of (binary Divide (integer 7) (integer 2) ∷ binary Divide (integer 7) (minus 2) ∷ binary Divide (minus 7) (minus 2) ∷ binary Divide (minus 6) (integer 3) ∷ binary Divide least_32 (minus 1) ∷ binary Divide least_64 (minus 1) ∷ []) ≡ gives (pos 3 ∷ negsuc 3 ∷ pos 3 ∷ negsuc 1 ∷ negsuc 2147483647 ∷ negsuc 9223372036854775807 ∷ [])
unfolding int_wrap values_of gives least_32 least_64
quotients = refl

-- what is left has the sign of the divisor
remainders : values_of (binary Remainder (integer 7) (integer 2) ∷ binary Remainder (minus 7) (integer 2) ∷ binary Remainder (minus 7) (minus 2) ∷ binary Remainder (minus 6) (integer 3) ∷ binary Remainder least_32 (minus 1) ∷ []) ≡ gives (pos 1 ∷ pos 1 ∷ negsuc 0 ∷ pos 0 ∷ pos 0 ∷ [])
unfolding int_wrap values_of gives least_32
remainders = refl

no_remainder : run (main_of (set_d (binary Remainder (integer 7) (integer 0)) ∷ [])) 9 [] ≡ meant [] (pos 0) 9 (M.Raised ZeroDivisionError)
no_remainder = refl

-- a shift has the width of its left operand, and its amount is taken modulo that; to the right it keeps the sign
left_shifts : values_of (binary ShiftLeft (integer 1) (integer 31) ∷ binary ShiftLeft (int64_of (integer 1)) (integer 40) ∷ binary ShiftLeft (integer 1) (int64_of (integer 33)) ∷ binary ShiftLeft (minus 5) (integer 1) ∷ []) ≡ gives (negsuc 2147483647 ∷ pos 1099511627776 ∷ pos 2 ∷ negsuc 9 ∷ [])
unfolding int_wrap values_of gives int64_of
left_shifts = refl

right_shifts : values_of (binary ShiftRight (integer 37) (integer 2) ∷ binary ShiftRight (minus 37) (integer 2) ∷ binary ShiftRight (minus 1) (integer 31) ∷ binary ShiftRight (integer 8) (integer 33) ∷ binary ShiftRight (int64_of (integer 8)) (integer 33) ∷ binary ShiftRight (minus 8) (minus 31) ∷ []) ≡ gives (pos 9 ∷ negsuc 9 ∷ negsuc 0 ∷ pos 4 ∷ pos 0 ∷ negsuc 3 ∷ [])
unfolding int_wrap values_of gives int64_of
right_shifts = refl

-- a negative number has all higher bits
bits : values_of (binary BitAnd (integer 12) (integer 10) ∷ binary BitAnd (minus 4) (integer 7) ∷ binary BitAnd (minus 4) (minus 6) ∷ binary BitXor (integer 12) (integer 10) ∷ binary BitXor (minus 1) (integer 5) ∷ binary BitOr (integer 12) (integer 10) ∷ binary BitOr (minus 8) (integer 3) ∷ []) ≡ gives (pos 8 ∷ pos 4 ∷ negsuc 7 ∷ pos 6 ∷ negsuc 5 ∷ pos 14 ∷ negsuc 4 ∷ [])
unfolding int_wrap values_of gives
bits = refl

prefixes : values_of (unary Invert (integer 5) ∷ unary Invert (minus 1) ∷ unary Negate (minus 7) ∷ unary Negate least_32 ∷ unary Negate (int64_of least_32) ∷ unary Negate least_64 ∷ []) ≡ gives (negsuc 5 ∷ pos 0 ∷ pos 7 ∷ negsuc 2147483647 ∷ pos 2147483648 ∷ negsuc 9223372036854775807 ∷ [])
unfolding int_wrap values_of gives int64_of least_32 least_64
prefixes = refl

-- a group has the value and the width of what it holds
groups : values_of (binary Multiply (group (binary Plus (integer 2) (integer 3))) (integer 4) ∷ binary Plus (integer 2) (binary Multiply (integer 3) (integer 4)) ∷ binary Plus (group (integer 2147483647)) (integer 1) ∷ []) ≡ gives (pos 20 ∷ pos 14 ∷ negsuc 2147483647 ∷ [])
unfolding int_wrap values_of gives
groups = refl

narrowed : values_of (int32_of (integer 2147483648) ∷ int32_of (integer 4294967297) ∷ int32_of (minus 2147483649) ∷ int32_of (integer 2147483647) ∷ binary Plus (int32_of (integer 2147483647)) (integer 1) ∷ []) ≡ gives (negsuc 2147483647 ∷ pos 1 ∷ pos 2147483647 ∷ pos 2147483647 ∷ negsuc 2147483647 ∷ [])
unfolding int_wrap values_of gives int32_of
narrowed = refl

-- `int64` keeps the number, and bits above the 32nd stay
wide : values_of (int64_of (integer 4294967297) ∷ binary BitAnd (integer 4294967301) (integer 4294967299) ∷ binary BitAnd (minus 1) (integer 4294967301) ∷ binary BitXor (integer 4294967301) (integer 3) ∷ binary BitOr (integer 4294967301) (integer 2) ∷ []) ≡ gives (pos 4294967297 ∷ pos 4294967297 ∷ pos 4294967301 ∷ pos 4294967302 ∷ pos 4294967303 ∷ [])
unfolding int_wrap values_of gives int64_of
wide = refl

-- a sum with the greatest number of 32 bits wraps where its other operand has 32 bits
with_greatest : Expression → Expression
with_greatest e = binary Plus e (integer 2147483647)

widths : values_of (with_greatest (int32_of (integer 1)) ∷ with_greatest (int64_of (integer 1)) ∷ binary Plus (integer 1) (int64_of (integer 2147483647)) ∷ with_greatest (integer 2147483648) ∷ binary Plus (with_greatest (call (codes "now_mu") no_more)) (integer 1) ∷ []) ≡ gives (negsuc 2147483647 ∷ pos 2147483648 ∷ pos 2147483648 ∷ pos 4294967295 ∷ pos 2147483648 ∷ [])
unfolding int_wrap values_of gives int32_of int64_of with_greatest
widths = refl

-- a count has 32 bits; a reading, a stamp and a handle have 64
asked_widths : run (main_of (set_d (with_greatest (method (codes "in0") (codes "count") (value_then (integer 50) no_more))) ∷ set_d (with_greatest counter_now) ∷ set_d (with_greatest edge_now) ∷ set_d (with_greatest (method (codes "core_dma") (codes "get_handle") (text_then (codes "p") no_more))) ∷ [])) 9 (R.Stamp (pos 5) ∷ R.NoEdge ∷ R.Done ∷ R.Time (pos 1) ∷ R.Done ∷ R.Stamp (pos 1) ∷ R.Done ∷ R.Handle (pos 1) ∷ R.Done ∷ []) ≡ meant (edge_request ∷ edge_request ∷ set_d_request (negsuc 2147483647) ∷ Q.Counter ∷ set_d_request (pos 2147483648) ∷ edge_request ∷ set_d_request (pos 2147483648) ∷ Q.Handle (codes "p") ∷ set_d_request (pos 2147483648) ∷ []) (pos 0) 0 M.Returned
unfolding int_wrap with_greatest
asked_widths = refl

-- operands and arguments are evaluated from left to right
operands : run (main_of (set_d (binary Subtract counter_now edge_now) ∷ tell_d (compare Less counter_now edge_now) ∷ evaluate (method (codes "raw0") (codes "write") (value_then (int32_of counter_now) (value_then (int32_of edge_now) no_more))) ∷ [])) 9 (R.Time (pos 8) ∷ R.Stamp (pos 5) ∷ R.Done ∷ R.Time (pos 8) ∷ R.Stamp (pos 9) ∷ R.Done ∷ R.Time (pos 3) ∷ R.Stamp (pos 7) ∷ R.Done ∷ []) ≡ meant (Q.Counter ∷ edge_request ∷ set_d_request (pos 3) ∷ Q.Counter ∷ edge_request ∷ set_d_request (pos 1) ∷ Q.Counter ∷ edge_request ∷ Q.Out (record { channel = 16; address = 3; value = 7; stamp = pos 0 }) ∷ []) (pos 0) 0 M.Returned
unfolding int_wrap int32_of
operands = refl

a_name : Bytes
a_name = codes "a"

-- an array's elements, its length, and the array itself
array : run (main_of (assign_list a_name (integer 30 ∷ integer 40 ∷ integer 50 ∷ []) ∷ set_d (element a_name (integer 0)) ∷ set_d (element a_name (binary Plus (integer 1) (integer 1))) ∷ set_d (binary Subtract (element a_name (integer 0)) (element a_name (integer 1))) ∷ set_d (call_of (codes "len") (variable a_name)) ∷ set_d (call_of (codes "len") (group (variable a_name))) ∷ set_d (group (variable a_name)) ∷ [])) 9 (dones 6) ≡ meant (set_d_requests (pos 30 ∷ pos 50 ∷ negsuc 9 ∷ pos 3 ∷ pos 3 ∷ []) ++ set_d_array (pos 30 ∷ pos 40 ∷ pos 50 ∷ []) ∷ []) (pos 0) 3 M.Returned
unfolding int_wrap a_name
array = refl

-- an array's length has 32 bits, and its elements have 64
array_widths : run (main_of (assign_list a_name (integer 1 ∷ []) ∷ set_d (with_greatest (call_of (codes "len") (variable a_name))) ∷ set_d (with_greatest (element a_name (integer 0))) ∷ [])) 9 (dones 2) ≡ meant (set_d_requests (negsuc 2147483647 ∷ pos 2147483648 ∷ [])) (pos 0) 7 M.Returned
unfolding int_wrap a_name with_greatest
array_widths = refl

-- an element of an array of two
element_at : Expression → Meaning
element_at i =
    run
    (main_of (assign_list a_name (integer 30 ∷ integer 40 ∷ []) ∷ set_d (element a_name i) ∷ []))
    9
    (dones 1)

second_element : element_at (integer 1) ≡ meant (set_d_request (pos 40) ∷ []) (pos 0) 8 M.Returned
unfolding int_wrap a_name element_at
second_element = refl

third_element : element_at (integer 2) ≡ meant [] (pos 0) 9 (M.Raised IndexError)
unfolding int_wrap a_name element_at
third_element = refl

negative_index : element_at (minus 1) ≡ meant [] (pos 0) 9 (M.Raised IndexError)
unfolding int_wrap a_name element_at
negative_index = refl

-- an element is written at its index; a negative one raises
written_at : Expression → Meaning
written_at i =
    run
    (main_of
    (assign_list a_name (integer 30 ∷ integer 40 ∷ [])
    ∷ assign_element a_name i (integer 50)
    ∷ set_d (variable a_name)
    ∷ []))
    9
    (dones 1)

first_written : written_at (integer 0) ≡ meant (set_d_array (pos 50 ∷ pos 40 ∷ []) ∷ []) (pos 0) 8 M.Returned
unfolding int_wrap a_name written_at
first_written = refl

second_written : written_at (integer 1) ≡ meant (set_d_array (pos 30 ∷ pos 50 ∷ []) ∷ []) (pos 0) 8 M.Returned
unfolding int_wrap a_name written_at
second_written = refl

negative_written : written_at (minus 2) ≡ meant [] (pos 0) 9 (M.Raised IndexError)
unfolding int_wrap a_name written_at
negative_written = refl
