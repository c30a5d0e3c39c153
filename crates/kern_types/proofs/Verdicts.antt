-- Small programs and their verdicts, computed: each kind of fault, at each place where it comes.
use Rattle.std.proofs.Common.{◌≡◌, ℕ, ◌+◌, List, [], ◌∷◌, ◌++◌, map, Option, None, Some, refl}
use Rattle.std.specs.Prelude.{codes}
use Rattle.std.specs.List.{range_with_len}
use Rattle.rtio_types.specs.Board.{digits_of}
use Rattle.kern_syntax.specs.declared.expression.BinaryOperator.TheVariants as O
use Rattle.kern_syntax.specs.declared.expression.UnaryOperator.TheVariants as U
use Rattle.kern_syntax.specs.declared.expression.Comparison.TheVariants as C
use Rattle.kern_syntax.specs.declared.statement.Augment.TheVariants as A
use Rattle.kern_syntax.specs.declared.program.DeclaredType.{DeclaredType}
use Rattle.kern_syntax.specs.declared.program.DeclaredType.TheVariants as D
use Rattle.kern_syntax.specs.Tree.{Bytes, Expression, integer, true_literal, false_literal, variable, element, group, unary, binary, compare, negation, conjunction, disjunction, call, method, Arguments, no_more, value_then, text_then, Statement, pass, evaluate, assign, assign_element, augment, augment_element, assign_repeated, assign_list, if_then, while_do, for_range, parallel, sequential, record_as, try_do, Block, done, line_then, Otherwise, no_else, else_do, elif_then, Handlers, no_handler, except_then, ParameterTree, FunctionTree, ProgramTree}
use Rattle.kern_syntax.specs.Tree as T
use Rattle.kern_expression_types.specs.declared.fault.TypeKind.TheVariants as K
use Rattle.kern_expression_types.specs.Verdicts.{Verdict, well, fault}
use Rattle.kern_types.specs.Programs.{program_verdict}

-- statements on the lines from a number on
abbrev lines : ℕ → List Statement → Block
lines n [] = done
lines n (s ∷ rest) = line_then n s (lines (n + 1) rest)

-- a function whose header is on a line, with its statements on the next ones
abbrev function_at : ℕ → Bytes → List ParameterTree → Option DeclaredType → List Statement → FunctionTree
function_at line name parameters result body =
    record { line = line; name = name; parameters = parameters; result = result; body = lines (line + 1) body }

-- a function of no parameters and no result
abbrev plain_at : ℕ → Bytes → List Statement → FunctionTree
plain_at line name body = function_at line name [] None body

-- a program of one function `main`, whose first statement is on line 2
abbrev main_of : List Statement → ProgramTree
main_of body = plain_at 1 (codes "main") body ∷ []

-- that program's verdict
abbrev main_verdict : List Statement → Verdict (Unit {0})
main_verdict body = program_verdict (main_of body)

-- a program that ends with a `main` on line 50
abbrev with_main : ProgramTree → List Statement → ProgramTree
with_main functions body = functions ++ plain_at 50 (codes "main") body ∷ []

-- a parameter
abbrev parameter : Bytes → DeclaredType → ParameterTree
parameter name declared = record { name = name; declared = declared }

-- names that differ, by their number
abbrev numbered : ℕ → Bytes
numbered n = codes "v" ++ digits_of n

-- short names
abbrev x : Bytes
x = codes "x"

abbrev y : Bytes
y = codes "y"

abbrev f : Bytes
f = codes "f"

-- a call without arguments, and one with some
abbrev run : Bytes → Expression
run name = call name no_more

abbrev all_of : List Expression → Arguments
all_of [] = no_more
all_of (e ∷ es) = value_then e (all_of es)

abbrev run_on : Bytes → List Expression → Expression
run_on name es = call name (all_of es)

abbrev ask : Bytes → Bytes → List Expression → Expression
ask object name es = method object name (all_of es)

-- values of each type
abbrev wide : Expression
wide = run (codes "now_mu")

abbrev unknown : Expression
unknown = variable (codes "zz")

abbrev nothing : Expression
nothing = run_on (codes "delay_mu") (integer 1 ∷ [])

-- `x` becomes an array of three
abbrev array_x : Statement
array_x = assign_repeated x (integer 0) 3

pulses_in_a_loop : main_verdict (for_range x None (integer 3) (lines 3 (evaluate (ask (codes "ttl0") (codes "pulse_mu") (variable x ∷ [])) ∷ [])) ∷ []) ≡ well tt
pulses_in_a_loop = refl

an_int32_is_accepted_for_int64 : main_verdict (assign x (wide) ∷ assign x (integer 1) ∷ []) ≡ well tt
an_int32_is_accepted_for_int64 = refl

literal_below_2_to_the_31_is_int32 : main_verdict (assign x (integer 1) ∷ assign x (integer 2147483647) ∷ []) ≡ well tt
literal_below_2_to_the_31_is_int32 = refl

literal_of_2_to_the_31_is_int64 : main_verdict (assign x (integer 1) ∷ assign x (integer 2147483648) ∷ []) ≡ fault 3 K.Width
literal_of_2_to_the_31_is_int64 = refl

sum_with_an_int64_is_int64 : main_verdict (assign x (integer 1) ∷ assign x (binary O.Add (integer 1) wide) ∷ []) ≡ fault 3 K.Width
sum_with_an_int64_is_int64 = refl

shift_has_the_type_of_its_left_operand : main_verdict (assign x (integer 1) ∷ assign x (binary O.ShiftLeft (integer 1) wide) ∷ []) ≡ well tt
shift_has_the_type_of_its_left_operand = refl

shift_of_an_int64_is_int64 : main_verdict (assign x (integer 1) ∷ assign x (binary O.ShiftRight wide (integer 1)) ∷ []) ≡ fault 3 K.Width
shift_of_an_int64_is_int64 = refl

shift_of_a_bool : main_verdict (evaluate (binary O.ShiftLeft true_literal (integer 1)) ∷ []) ≡ fault 2 K.Mismatch
shift_of_a_bool = refl

shift_by_a_bool : main_verdict (evaluate (binary O.ShiftLeft (integer 1) true_literal) ∷ []) ≡ fault 2 K.Mismatch
shift_by_a_bool = refl

bits_of_bools : main_verdict (evaluate (binary O.BitAnd true_literal false_literal) ∷ []) ≡ fault 2 K.Mismatch
bits_of_bools = refl

inverse_of_a_bool : main_verdict (evaluate (unary U.Invert true_literal) ∷ []) ≡ fault 2 K.Mismatch
inverse_of_a_bool = refl

two_bools_are_compared_by_equality : main_verdict (evaluate (compare C.Equal true_literal false_literal) ∷ []) ≡ well tt
two_bools_are_compared_by_equality = refl

an_integer_and_a_bool_are_not : main_verdict (evaluate (compare C.Equal (integer 1) true_literal) ∷ []) ≡ fault 2 K.Mismatch
an_integer_and_a_bool_are_not = refl

a_bool_and_an_integer_are_not : main_verdict (evaluate (compare C.NotEqual true_literal (integer 1)) ∷ []) ≡ fault 2 K.Mismatch
a_bool_and_an_integer_are_not = refl

order_of_bools : main_verdict (evaluate (compare C.Less true_literal false_literal) ∷ []) ≡ fault 2 K.Mismatch
order_of_bools = refl

variable_with_a_channel_s_name : main_verdict (assign (codes "ttl0") (integer 1) ∷ []) ≡ fault 2 K.Name
variable_with_a_channel_s_name = refl

variable_with_an_exception_s_name : main_verdict (assign (codes "DMAError") (integer 1) ∷ []) ≡ fault 2 K.Name
variable_with_an_exception_s_name = refl

variable_with_a_word_s_name : main_verdict (assign (codes "range") (integer 1) ∷ []) ≡ fault 2 K.Name
variable_with_a_word_s_name = refl

variable_with_a_builtin_s_name : main_verdict (assign (codes "len") (integer 1) ∷ []) ≡ fault 2 K.Name
variable_with_a_builtin_s_name = refl

variable_with_a_channel_like_name : main_verdict (assign (codes "ttl16") (integer 1) ∷ []) ≡ well tt
variable_with_a_channel_like_name = refl

variable_with_its_function_s_name : main_verdict (assign (codes "main") (integer 1) ∷ []) ≡ fault 2 K.Name
variable_with_its_function_s_name = refl

variable_with_a_later_function_s_name : program_verdict (plain_at 1 f (assign y (integer 1) ∷ []) ∷ plain_at 3 y (pass ∷ []) ∷ plain_at 5 (codes "main") (pass ∷ []) ∷ []) ≡ fault 2 K.Name
variable_with_a_later_function_s_name = refl

loop_variable_with_a_reserved_name : main_verdict (for_range (codes "core") None (integer 3) (lines 3 (pass ∷ [])) ∷ []) ≡ fault 2 K.Name
loop_variable_with_a_reserved_name = refl

array_with_a_reserved_name : main_verdict (assign_repeated (codes "kernel") (integer 0) 3 ∷ []) ≡ fault 2 K.Name
array_with_a_reserved_name = refl

function_with_a_reserved_name : program_verdict (with_main (plain_at 3 (codes "bool") (pass ∷ []) ∷ []) (pass ∷ [])) ≡ fault 3 K.Name
function_with_a_reserved_name = refl

two_functions_of_a_name : program_verdict (with_main (plain_at 3 f (pass ∷ []) ∷ plain_at 5 f (pass ∷ []) ∷ []) (pass ∷ [])) ≡ fault 5 K.Name
two_functions_of_a_name = refl

two_parameters_of_a_name : program_verdict (with_main (function_at 3 f (parameter x D.Int32 ∷ parameter x D.Bool ∷ []) None (pass ∷ []) ∷ []) (pass ∷ [])) ≡ fault 3 K.Name
two_parameters_of_a_name = refl

parameter_with_a_reserved_name : program_verdict (with_main (function_at 3 f (parameter (codes "in7") D.Int32 ∷ []) None (pass ∷ []) ∷ []) (pass ∷ [])) ≡ fault 3 K.Name
parameter_with_a_reserved_name = refl

parameter_with_a_later_function_s_name : program_verdict (with_main (function_at 3 f (parameter (codes "main") D.Int32 ∷ []) None (pass ∷ []) ∷ []) (pass ∷ [])) ≡ fault 3 K.Name
parameter_with_a_later_function_s_name = refl

array_of_none : main_verdict (assign_repeated x (integer 0) 0 ∷ []) ≡ fault 2 K.Size
array_of_none = refl

array_of_512 : main_verdict (assign_repeated x (integer 0) 512 ∷ []) ≡ well tt
array_of_512 = refl

array_of_513 : main_verdict (assign_repeated x (integer 0) 513 ∷ []) ≡ fault 2 K.Size
array_of_513 = refl

array_s_length_before_its_name : main_verdict (assign_repeated (codes "core") (integer 0) 0 ∷ []) ≡ fault 2 K.Size
array_s_length_before_its_name = refl

array_s_elements_before_its_length : main_verdict (assign_repeated x true_literal 0 ∷ []) ≡ fault 2 K.Mismatch
array_s_elements_before_its_length = refl

names_64 : main_verdict (map (λ n. assign (numbered n) (integer 1)) (range_with_len 10 64)) ≡ well tt
names_64 = refl

names_65 : main_verdict (map (λ n. assign (numbered n) (integer 1)) (range_with_len 10 65)) ≡ fault 66 K.Size
names_65 = refl

parameters_count_as_names : program_verdict (with_main (function_at 3 f (parameter x D.Int32 ∷ []) None (map (λ n. assign (numbered n) (integer 1)) (range_with_len 10 64)) ∷ []) (pass ∷ [])) ≡ fault 67 K.Size
parameters_count_as_names = refl

size_of_names_before_the_type : main_verdict (map (λ n. assign (numbered n) (integer 1)) (range_with_len 10 64) ++ assign x nothing ∷ []) ≡ fault 66 K.Size
size_of_names_before_the_type = refl

nine_parameters : program_verdict (with_main (function_at 3 f (map (λ n. parameter (numbered n) D.Int32) (range_with_len 10 9)) None (pass ∷ []) ∷ []) (pass ∷ [])) ≡ fault 3 K.Size
nine_parameters = refl

eight_parameters : program_verdict (with_main (function_at 3 f (map (λ n. parameter (numbered n) D.Int32) (range_with_len 10 8)) None (pass ∷ []) ∷ []) (pass ∷ [])) ≡ well tt
eight_parameters = refl

reserved_ninth_parameter : program_verdict (with_main (function_at 3 f (map (λ n. parameter (numbered n) D.Int32) (range_with_len 10 8) ++ parameter (codes "core") D.Int32 ∷ []) None (pass ∷ []) ∷ []) (pass ∷ [])) ≡ fault 3 K.Name
reserved_ninth_parameter = refl

unassigned_name : main_verdict (evaluate (unknown) ∷ []) ≡ fault 2 K.Unknown
unassigned_name = refl

name_assigned_later : main_verdict (assign y (variable x) ∷ assign x (integer 1) ∷ []) ≡ fault 2 K.Unknown
name_assigned_later = refl

name_assigned_in_a_branch_before : main_verdict (if_then true_literal (lines 3 (assign x (integer 1) ∷ [])) no_else ∷ evaluate (variable x) ∷ []) ≡ well tt
name_assigned_in_a_branch_before = refl

function_as_a_value : main_verdict (evaluate (variable (codes "main")) ∷ []) ≡ fault 2 K.Unknown
function_as_a_value = refl

reserved_name_read_by_an_augmented_assignment : main_verdict (augment (codes "ttl0") A.Add (integer 1) ∷ []) ≡ fault 2 K.Unknown
reserved_name_read_by_an_augmented_assignment = refl

unassigned_name_of_an_augmented_assignment : main_verdict (augment x A.Add unknown ∷ []) ≡ fault 2 K.Unknown
unassigned_name_of_an_augmented_assignment = refl

reserved_name_of_an_element : main_verdict (assign_element (codes "ttl0") (integer 0) (integer 1) ∷ []) ≡ fault 2 K.Unknown
reserved_name_of_an_element = refl

unknown_object : main_verdict (evaluate (ask (codes "ttl99") (codes "on") []) ∷ []) ≡ fault 2 K.Unknown
unknown_object = refl

variable_as_an_object : main_verdict (assign x (integer 1) ∷ evaluate (ask x (codes "on") []) ∷ []) ≡ fault 3 K.Unknown
variable_as_an_object = refl

unknown_function : main_verdict (evaluate (run f) ∷ []) ≡ fault 2 K.Unknown
unknown_function = refl

function_defined_later : program_verdict (plain_at 1 (codes "main") (evaluate (run f) ∷ []) ∷ plain_at 3 f (pass ∷ []) ∷ []) ≡ fault 2 K.Unknown
function_defined_later = refl

function_calls_itself : main_verdict (evaluate (run (codes "main")) ∷ []) ≡ well tt
function_calls_itself = refl

range_as_a_call : main_verdict (evaluate (run_on (codes "range") (integer 3 ∷ [])) ∷ []) ≡ fault 2 K.Unknown
range_as_a_call = refl

kernel_as_a_call : main_verdict (evaluate (run (codes "kernel")) ∷ []) ≡ fault 2 K.Unknown
kernel_as_a_call = refl

bool_as_a_call : main_verdict (evaluate (run_on (codes "bool") (integer 1 ∷ [])) ∷ []) ≡ fault 2 K.Unknown
bool_as_a_call = refl

unknown_exception : main_verdict (try_do (lines 3 (pass ∷ [])) (except_then 4 (codes "DMAError") (lines 5 (pass ∷ [])) (except_then 6 (codes "ValueError") (lines 7 (pass ∷ [])) no_handler)) ∷ []) ≡ fault 6 K.Unknown
unknown_exception = refl

method_of_another_kind_of_channel : main_verdict (evaluate (ask (codes "in0") (codes "on") []) ∷ []) ≡ fault 2 K.Method
method_of_another_kind_of_channel = refl

ttl_has_no_write : main_verdict (evaluate (ask (codes "ttl0") (codes "write") (integer 0 ∷ integer 1 ∷ [])) ∷ []) ≡ fault 2 K.Method
ttl_has_no_write = refl

record_as_a_call : main_verdict (evaluate (method (codes "core_dma") (codes "record") (text_then (codes "p") no_more)) ∷ []) ≡ fault 2 K.Method
record_as_a_call = refl

argument_too_many : main_verdict (evaluate (ask (codes "ttl0") (codes "on") (integer 1 ∷ [])) ∷ []) ≡ fault 2 K.Arity
argument_too_many = refl

argument_too_few : main_verdict (evaluate (run (codes "delay_mu")) ∷ []) ≡ fault 2 K.Arity
argument_too_few = refl

arguments_of_a_function : program_verdict (with_main (function_at 3 f (parameter x D.Int32 ∷ []) None (pass ∷ []) ∷ []) (evaluate (run f) ∷ [])) ≡ fault 51 K.Arity
arguments_of_a_function = refl

value_returned_where_there_is_none : main_verdict (T.return (Some (integer 1)) ∷ []) ≡ fault 2 K.Arity
value_returned_where_there_is_none = refl

no_value_returned_where_there_is_one : program_verdict (with_main (function_at 3 f [] (Some D.Int32) (T.return None ∷ []) ∷ []) (pass ∷ [])) ≡ fault 4 K.Arity
no_value_returned_where_there_is_one = refl

int64_assigned_to_an_int32 : main_verdict (assign x (integer 1) ∷ assign x (wide) ∷ []) ≡ fault 3 K.Width
int64_assigned_to_an_int32 = refl

int64_passed_for_int32 : main_verdict (evaluate (ask (codes "raw0") (codes "write") (integer 0 ∷ wide ∷ [])) ∷ []) ≡ fault 2 K.Width
int64_passed_for_int32 = refl

int64_passed_to_a_function_s_int32 : program_verdict (with_main (function_at 3 f (parameter x D.Int32 ∷ []) None (pass ∷ []) ∷ []) (evaluate (run_on f (wide ∷ [])) ∷ [])) ≡ fault 51 K.Width
int64_passed_to_a_function_s_int32 = refl

int64_returned_for_int32 : program_verdict (with_main (function_at 3 f [] (Some D.Int32) (T.return (Some wide) ∷ []) ∷ []) (pass ∷ [])) ≡ fault 4 K.Width
int64_returned_for_int32 = refl

int64_added_to_an_int32 : main_verdict (assign x (integer 1) ∷ augment x A.Add wide ∷ []) ≡ fault 3 K.Width
int64_added_to_an_int32 = refl

int64_range_of_an_int32_variable : main_verdict (assign x (integer 1) ∷ for_range x (Some (integer 0)) wide (lines 4 (pass ∷ [])) ∷ []) ≡ fault 3 K.Width
int64_range_of_an_int32_variable = refl

range_of_one_int64_bound_is_int64 : main_verdict (for_range x (Some (integer 0)) wide (lines 3 (pass ∷ [])) ∷ assign y (integer 1) ∷ assign y (variable x) ∷ []) ≡ fault 4 K.Width
range_of_one_int64_bound_is_int64 = refl

range_of_int32_is_int32 : main_verdict (for_range x (Some (integer 0)) (integer 9) (lines 3 (pass ∷ [])) ∷ assign y (integer 1) ∷ assign y (variable x) ∷ []) ≡ well tt
range_of_int32_is_int32 = refl

element_is_int64 : main_verdict (array_x ∷ assign y (integer 1) ∷ assign y (element x (integer 0)) ∷ []) ≡ fault 4 K.Width
element_is_int64 = refl

length_is_int32 : main_verdict (array_x ∷ assign y (integer 1) ∷ assign y (run_on (codes "len") (group (variable x) ∷ [])) ∷ []) ≡ well tt
length_is_int32 = refl

int32_of_an_int64_is_int32 : main_verdict (assign y (integer 1) ∷ assign y (run_on (codes "int32") (wide ∷ [])) ∷ []) ≡ well tt
int32_of_an_int64_is_int32 = refl

count_is_int32 : main_verdict (assign y (integer 1) ∷ assign y (ask (codes "in0") (codes "count") (wide ∷ [])) ∷ []) ≡ well tt
count_is_int32 = refl

timestamp_is_int64 : main_verdict (assign y (integer 1) ∷ assign y (ask (codes "in0") (codes "timestamp_mu") (wide ∷ [])) ∷ []) ≡ fault 3 K.Width
timestamp_is_int64 = refl

condition_of_an_if : main_verdict (if_then (integer 1) (lines 2 (pass ∷ [])) no_else ∷ []) ≡ fault 2 K.NotBool
condition_of_an_if = refl

condition_of_an_elif : main_verdict (if_then true_literal (lines 3 (pass ∷ [])) (elif_then 4 (integer 1) (lines 5 (pass ∷ [])) no_else) ∷ []) ≡ fault 4 K.NotBool
condition_of_an_elif = refl

condition_of_a_while : main_verdict (while_do nothing (lines 3 (pass ∷ [])) ∷ []) ≡ fault 2 K.NotBool
condition_of_a_while = refl

operand_of_not : main_verdict (array_x ∷ evaluate (negation (variable x)) ∷ []) ≡ fault 3 K.NotBool
operand_of_not = refl

operand_of_and : main_verdict (evaluate (conjunction true_literal (integer 1)) ∷ []) ≡ fault 2 K.NotBool
operand_of_and = refl

operand_of_or : main_verdict (evaluate (disjunction (integer 1) true_literal) ∷ []) ≡ fault 2 K.NotBool
operand_of_or = refl

operands_before_their_and : main_verdict (evaluate (conjunction (integer 1) unknown) ∷ []) ≡ fault 2 K.Unknown
operands_before_their_and = refl

operands_before_their_or : main_verdict (evaluate (disjunction (integer 1) (binary O.Add (integer 1) true_literal)) ∷ []) ≡ fault 2 K.Mismatch
operands_before_their_or = refl

text_out_of_place : main_verdict (evaluate (method (codes "core") (codes "wait_until_mu") (text_then (codes "p") no_more)) ∷ []) ≡ fault 2 K.Mismatch
text_out_of_place = refl

value_where_a_text_is_wanted : main_verdict (evaluate (ask (codes "core_dma") (codes "playback") (integer 1 ∷ [])) ∷ []) ≡ fault 2 K.Mismatch
value_where_a_text_is_wanted = refl

call_without_value_as_a_value : main_verdict (assign x (nothing) ∷ []) ≡ fault 2 K.Mismatch
call_without_value_as_a_value = refl

call_without_value_as_an_operand : main_verdict (evaluate (binary O.Add nothing (integer 1)) ∷ []) ≡ fault 2 K.Mismatch
call_without_value_as_an_operand = refl

call_without_value_as_an_index : main_verdict (array_x ∷ evaluate (element x nothing) ∷ []) ≡ fault 3 K.Mismatch
call_without_value_as_an_index = refl

call_without_value_alone : main_verdict (evaluate (group nothing) ∷ []) ≡ well tt
call_without_value_alone = refl

array_as_an_operand : main_verdict (array_x ∷ evaluate (binary O.Add (variable x) (integer 1)) ∷ []) ≡ fault 3 K.Mismatch
array_as_an_operand = refl

array_alone : main_verdict (array_x ∷ evaluate (group (variable x)) ∷ []) ≡ fault 3 K.Mismatch
array_alone = refl

array_as_a_value : main_verdict (array_x ∷ assign y (variable x) ∷ []) ≡ fault 3 K.Mismatch
array_as_a_value = refl

array_as_a_value_of_an_array : main_verdict (array_x ∷ assign x (variable x) ∷ []) ≡ fault 3 K.Mismatch
array_as_a_value_of_an_array = refl

array_s_name_before_its_use_as_a_value : main_verdict (array_x ∷ assign (codes "core") (variable x) ∷ []) ≡ fault 3 K.Name
array_s_name_before_its_use_as_a_value = refl

array_again_of_another_length : main_verdict (array_x ∷ assign_list x (integer 1 ∷ integer 2 ∷ []) ∷ []) ≡ fault 3 K.Mismatch
array_again_of_another_length = refl

array_again_of_its_length : main_verdict (array_x ∷ assign_list x (integer 1 ∷ wide ∷ integer 3 ∷ []) ∷ []) ≡ well tt
array_again_of_its_length = refl

number_to_an_array_s_name : main_verdict (array_x ∷ assign x (integer 1) ∷ []) ≡ fault 3 K.Mismatch
number_to_an_array_s_name = refl

array_to_a_number_s_name : main_verdict (assign x (integer 1) ∷ array_x ∷ []) ≡ fault 3 K.Mismatch
array_to_a_number_s_name = refl

bool_to_a_number_s_name : main_verdict (assign x (integer 1) ∷ assign x (true_literal) ∷ []) ≡ fault 3 K.Mismatch
bool_to_a_number_s_name = refl

bool_in_an_array : main_verdict (assign_list x (integer 1 ∷ true_literal ∷ unknown ∷ []) ∷ []) ≡ fault 2 K.Unknown
bool_in_an_array = refl

elements_fit_int64 : main_verdict (assign_list x (integer 1 ∷ true_literal ∷ []) ∷ []) ≡ fault 2 K.Mismatch
elements_fit_int64 = refl

index_of_a_number : main_verdict (assign x (integer 1) ∷ evaluate (element x (integer 0)) ∷ []) ≡ fault 3 K.Mismatch
index_of_a_number = refl

bool_as_an_index : main_verdict (array_x ∷ evaluate (element x true_literal) ∷ []) ≡ fault 3 K.Mismatch
bool_as_an_index = refl

int64_as_an_index : main_verdict (array_x ∷ evaluate (element x wide) ∷ []) ≡ well tt
int64_as_an_index = refl

index_before_its_array : main_verdict (evaluate (element x (binary O.Add (integer 1) true_literal)) ∷ []) ≡ fault 2 K.Mismatch
index_before_its_array = refl

value_before_the_index : main_verdict (assign_element x unknown (binary O.Add (integer 1) true_literal) ∷ []) ≡ fault 2 K.Mismatch
value_before_the_index = refl

index_before_the_value_of_an_augmented_assignment : main_verdict (array_x ∷ augment_element x unknown A.Add (binary O.Add (integer 1) true_literal) ∷ []) ≡ fault 3 K.Unknown
index_before_the_value_of_an_augmented_assignment = refl

bool_assigned_to_an_element : main_verdict (array_x ∷ assign_element x (integer 0) true_literal ∷ []) ≡ fault 3 K.Mismatch
bool_assigned_to_an_element = refl

bool_added_to_an_element : main_verdict (array_x ∷ augment_element x (integer 0) A.Subtract true_literal ∷ []) ≡ fault 3 K.Mismatch
bool_added_to_an_element = refl

bool_augmented : main_verdict (assign x (true_literal) ∷ augment x A.Add (integer 1) ∷ []) ≡ fault 3 K.Mismatch
bool_augmented = refl

bool_added : main_verdict (assign x (integer 1) ∷ augment x A.Add true_literal ∷ []) ≡ fault 3 K.Mismatch
bool_added = refl

bool_as_a_bound : main_verdict (for_range x (Some true_literal) (integer 1) (lines 3 (pass ∷ [])) ∷ []) ≡ fault 2 K.Mismatch
bool_as_a_bound = refl

bounds_before_the_variable : main_verdict (for_range (codes "core") (Some (integer 1)) unknown (lines 3 (pass ∷ [])) ∷ []) ≡ fault 2 K.Unknown
bounds_before_the_variable = refl

array_as_an_argument : program_verdict (with_main (function_at 3 f (parameter y D.Int64 ∷ []) None (pass ∷ []) ∷ []) (array_x ∷ evaluate (run_on f (variable x ∷ [])) ∷ [])) ≡ fault 52 K.Mismatch
array_as_an_argument = refl

array_returned : program_verdict (with_main (function_at 3 f [] (Some D.Int64) (array_x ∷ T.return (Some (variable x)) ∷ []) ∷ []) (pass ∷ [])) ≡ fault 5 K.Mismatch
array_returned = refl

array_of_a_dataset : main_verdict (array_x ∷ evaluate (call (codes "set_dataset") (text_then (codes "d") (value_then (group (variable x)) no_more))) ∷ []) ≡ well tt
array_of_a_dataset = refl

length_of_a_number : main_verdict (evaluate (run_on (codes "len") (integer 1 ∷ [])) ∷ []) ≡ fault 2 K.Mismatch
length_of_a_number = refl

arguments_before_the_object : main_verdict (evaluate (ask (codes "foo") (codes "on") (binary O.Add (integer 1) true_literal ∷ [])) ∷ []) ≡ fault 2 K.Mismatch
arguments_before_the_object = refl

arguments_before_the_method : main_verdict (evaluate (ask (codes "core") (codes "foo") (unknown ∷ [])) ∷ []) ≡ fault 2 K.Unknown
arguments_before_the_method = refl

method_before_the_number_of_arguments : main_verdict (evaluate (ask (codes "core") (codes "foo") (integer 1 ∷ integer 2 ∷ [])) ∷ []) ≡ fault 2 K.Method
method_before_the_number_of_arguments = refl

number_of_arguments_before_their_fit : main_verdict (evaluate (ask (codes "raw0") (codes "write") (wide ∷ [])) ∷ []) ≡ fault 2 K.Arity
number_of_arguments_before_their_fit = refl

arguments_fit_from_left_to_right : main_verdict (evaluate (ask (codes "raw0") (codes "write") (wide ∷ true_literal ∷ [])) ∷ []) ≡ fault 2 K.Width
arguments_fit_from_left_to_right = refl

break_outside_a_loop : main_verdict (T.break ∷ []) ≡ fault 2 K.BlockExit
break_outside_a_loop = refl

continue_outside_a_loop : main_verdict (sequential (lines 3 (T.continue ∷ [])) ∷ []) ≡ fault 3 K.BlockExit
continue_outside_a_loop = refl

break_in_a_sequential_block_of_a_loop : main_verdict (while_do true_literal (lines 3 (sequential (lines 4 (T.break ∷ [])) ∷ [])) ∷ []) ≡ well tt
break_in_a_sequential_block_of_a_loop = refl

break_out_of_a_parallel_block : main_verdict (while_do true_literal (lines 3 (parallel (lines 4 (T.break ∷ [])) ∷ [])) ∷ []) ≡ fault 4 K.BlockExit
break_out_of_a_parallel_block = refl

continue_out_of_a_record_block : main_verdict (while_do true_literal (lines 3 (record_as (codes "p") (lines 4 (T.continue ∷ [])) ∷ [])) ∷ []) ≡ fault 4 K.BlockExit
continue_out_of_a_record_block = refl

break_of_a_loop_in_a_parallel_block : main_verdict (parallel (lines 3 (while_do true_literal (lines 4 (T.break ∷ [])) ∷ [])) ∷ []) ≡ well tt
break_of_a_loop_in_a_parallel_block = refl

return_out_of_a_parallel_block : main_verdict (parallel (lines 3 (T.return None ∷ [])) ∷ []) ≡ fault 3 K.BlockExit
return_out_of_a_parallel_block = refl

return_out_of_a_loop_in_a_record_block : main_verdict (record_as (codes "p") (lines 3 (while_do true_literal (lines 4 (T.return None ∷ [])) ∷ [])) ∷ []) ≡ fault 4 K.BlockExit
return_out_of_a_loop_in_a_record_block = refl

return_s_value_before_its_place : main_verdict (parallel (lines 3 (T.return (Some (integer 1)) ∷ [])) ∷ []) ≡ fault 3 K.Arity
return_s_value_before_its_place = refl

return_in_a_loop : main_verdict (while_do true_literal (lines 3 (T.return None ∷ [])) ∷ []) ≡ well tt
return_in_a_loop = refl

record_in_a_record : main_verdict (record_as (codes "p") (lines 3 (record_as (codes "q") (lines 4 (pass ∷ [])) ∷ [])) ∷ []) ≡ fault 3 K.NestedRecord
record_in_a_record = refl

live_method_in_a_record : main_verdict (record_as (codes "p") (lines 3 (evaluate (ask (codes "core") (codes "reset") []) ∷ [])) ∷ []) ≡ fault 3 K.LiveInRecord
live_method_in_a_record = refl

dataset_in_a_record : main_verdict (record_as (codes "p") (lines 3 (evaluate (call (codes "set_dataset") (text_then (codes "d") (value_then (integer 1) no_more))) ∷ [])) ∷ []) ≡ fault 3 K.LiveInRecord
dataset_in_a_record = refl

output_in_a_record : main_verdict (record_as (codes "p") (lines 3 (evaluate (ask (codes "raw7") (codes "write") (integer 1 ∷ integer 2 ∷ [])) ∷ [])) ∷ []) ≡ well tt
output_in_a_record = refl

plain_function_in_a_record : program_verdict (with_main (plain_at 3 f (evaluate (ask (codes "ttl0") (codes "on") []) ∷ []) ∷ []) (record_as (codes "p") (lines 52 (evaluate (run f) ∷ [])) ∷ [])) ≡ well tt
plain_function_in_a_record = refl

function_with_a_live_call_in_a_record : program_verdict (with_main (plain_at 3 f (evaluate (ask (codes "core") (codes "reset") []) ∷ []) ∷ []) (record_as (codes "p") (lines 52 (evaluate (run f) ∷ [])) ∷ [])) ≡ fault 52 K.LiveInRecord
function_with_a_live_call_in_a_record = refl

function_with_a_record_in_a_record : program_verdict (with_main (plain_at 3 f (record_as (codes "q") (lines 5 (pass ∷ [])) ∷ []) ∷ []) (record_as (codes "p") (lines 52 (evaluate (run f) ∷ [])) ∷ [])) ≡ fault 52 K.LiveInRecord
function_with_a_record_in_a_record = refl

function_that_calls_itself_in_a_record : program_verdict (with_main (plain_at 3 f (evaluate (run f) ∷ []) ∷ []) (record_as (codes "p") (lines 52 (evaluate (run f) ∷ [])) ∷ [])) ≡ well tt
function_that_calls_itself_in_a_record = refl

function_of_a_live_function_in_a_record : program_verdict (with_main (plain_at 3 f (evaluate (ask (codes "core") (codes "reset") []) ∷ []) ∷ plain_at 5 y (evaluate (run f) ∷ []) ∷ []) (record_as (codes "p") (lines 52 (evaluate (run y) ∷ [])) ∷ [])) ≡ fault 52 K.LiveInRecord
function_of_a_live_function_in_a_record = refl

own_name_in_its_own_record : main_verdict (record_as (codes "p") (lines 3 (evaluate (run (codes "main")) ∷ [])) ∷ []) ≡ fault 3 K.LiveInRecord
own_name_in_its_own_record = refl

fit_before_the_place_of_a_live_call : main_verdict (record_as (codes "p") (lines 3 (evaluate (ask (codes "core") (codes "wait_until_mu") (true_literal ∷ [])) ∷ [])) ∷ []) ≡ fault 3 K.Mismatch
fit_before_the_place_of_a_live_call = refl

no_main : program_verdict (plain_at 3 f (pass ∷ []) ∷ []) ≡ fault 1 K.NoMain
no_main = refl

main_with_a_parameter : program_verdict (function_at 3 (codes "main") (parameter x D.Int32 ∷ []) None (pass ∷ []) ∷ []) ≡ fault 1 K.NoMain
main_with_a_parameter = refl

main_with_a_result : program_verdict (function_at 3 (codes "main") [] (Some D.Int32) (T.return (Some (integer 1)) ∷ []) ∷ []) ≡ well tt
main_with_a_result = refl

first_fault_of_two_statements : main_verdict (evaluate (unknown) ∷ assign (codes "core") (integer 1) ∷ []) ≡ fault 2 K.Unknown
first_fault_of_two_statements = refl

first_fault_of_two_functions : program_verdict (with_main (plain_at 3 f (evaluate unknown ∷ []) ∷ plain_at 6 f (pass ∷ []) ∷ []) (pass ∷ [])) ≡ fault 4 K.Unknown
first_fault_of_two_functions = refl
