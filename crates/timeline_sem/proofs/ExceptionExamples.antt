-- The meanings of `try` and of what is raised, computed in small kernels.
use Rattle.std.proofs.Common.{◌≡◌, List, [], ◌∷◌, None, refl}
use Rattle.std.specs.Prelude.{pos, codes}
use Rattle.std.specs.Int.{int_wrap}
use Rattle.rtio_types.specs.declared.outcome.Exc.TheVariants.{ZeroDivisionError}
use Rattle.rtio_types.specs.declared.request.Request.TheVariants as Q
use Rattle.rtio_types.specs.declared.request.Reply.{Reply}
use Rattle.rtio_types.specs.declared.request.Reply.TheVariants as R
use Rattle.kern_syntax.specs.declared.expression.BinaryOperator.TheVariants.{Subtract, Divide}
use Rattle.kern_syntax.specs.declared.expression.Comparison.TheVariants.{Equal}
use Rattle.kern_syntax.specs.Tree as T
use Rattle.kern_syntax.specs.Tree.{Bytes, integer, true_literal, variable, element, group, binary, compare, call, method, no_more, text_then, Statement, pass, evaluate, assign, assign_list, if_then, no_else, while_do, for_range, record_as, try_do, except_then}
use Rattle.timeline_sem.specs.declared.meant.MeantOutcome.TheVariants as M
use Rattle.timeline_sem.specs.Programs.{Meaning}
use Rattle.timeline_sem.proofs.SmallKernels.{lines, function_of, main_of, call_one, do_method, edge_now, edge_request, set_d, set_d_request, set_d_requests, numbered, except_one, out_at, dones, run, run_second, meant}

-- what a body does with one `except` branch for each of some names, which sets `d` to its number from 1
tried : List Statement → List Bytes → List Reply → Meaning
tried body names replies = run (main_of (try_do (lines body) (numbered 1 names) ∷ [])) 9 replies

all_names : List Bytes
all_names =
    codes "RTIOUnderflow"
    ∷ codes "RTIOOverflow"
    ∷ codes "DMAError"
    ∷ codes "ZeroDivisionError"
    ∷ codes "IndexError"
    ∷ codes "StackOverflow"
    ∷ []

divide_by_zero : Statement
divide_by_zero = assign (codes "x") (binary Divide (integer 1) (integer 0))

-- each exception goes to the branch with its name
underflow_taken : tried (do_method (codes "ttl0") (codes "on") ∷ []) all_names (R.Underflow ∷ R.Done ∷ []) ≡ meant (out_at 0 0 1 ∷ set_d_request (pos 1) ∷ []) (pos 0) 7 M.Returned
unfolding int_wrap tried all_names
underflow_taken = refl

overflow_taken : tried (evaluate edge_now ∷ []) all_names (R.Overflow ∷ R.Done ∷ []) ≡ meant (edge_request ∷ set_d_request (pos 2) ∷ []) (pos 0) 7 M.Returned
unfolding int_wrap tried all_names
overflow_taken = refl

dma_error_taken : tried (evaluate (method (codes "core_dma") (codes "playback") (text_then (codes "p") no_more)) ∷ []) all_names (R.NoTrace ∷ R.Done ∷ []) ≡ meant (Q.Fetch (codes "p") ∷ set_d_request (pos 3) ∷ []) (pos 0) 7 M.Returned
unfolding int_wrap tried all_names
dma_error_taken = refl

zero_division_taken : tried (divide_by_zero ∷ []) all_names (dones 1) ≡ meant (set_d_request (pos 4) ∷ []) (pos 0) 8 M.Returned
unfolding int_wrap tried all_names divide_by_zero
zero_division_taken = refl

index_error_taken : tried (assign_list (codes "a") (integer 1 ∷ []) ∷ set_d (element (codes "a") (integer 1)) ∷ []) all_names (dones 1) ≡ meant (set_d_request (pos 5) ∷ []) (pos 0) 8 M.Returned
unfolding int_wrap tried all_names
index_error_taken = refl

-- 63 calls run and the 64th raises
stack_overflow_taken : run_second (function_of (codes "f") (evaluate (call (codes "f") no_more) ∷ []) ∷ function_of (codes "main") (try_do (lines (evaluate (call (codes "f") no_more) ∷ [])) (numbered 1 all_names) ∷ []) ∷ []) 100 (dones 1) ≡ meant (set_d_request (pos 6) ∷ []) (pos 0) 35 M.Returned
unfolding int_wrap all_names
stack_overflow_taken = refl

-- the second branch matches
second_taken : tried (divide_by_zero ∷ []) (codes "IndexError" ∷ codes "ZeroDivisionError" ∷ []) (dones 1) ≡ meant (set_d_request (pos 2) ∷ []) (pos 0) 8 M.Returned
unfolding int_wrap tried divide_by_zero
second_taken = refl

-- the first of two with one name
first_taken : tried (divide_by_zero ∷ []) (codes "ZeroDivisionError" ∷ codes "ZeroDivisionError" ∷ []) (dones 1) ≡ meant (set_d_request (pos 1) ∷ []) (pos 0) 8 M.Returned
unfolding int_wrap tried divide_by_zero
first_taken = refl

-- none matches
none_taken : tried (divide_by_zero ∷ set_d (integer 99) ∷ []) (codes "IndexError" ∷ codes "RTIOOverflow" ∷ []) (dones 1) ≡ meant [] (pos 0) 9 (M.Raised ZeroDivisionError)
unfolding int_wrap tried divide_by_zero
none_taken = refl

-- nothing is raised
no_branch : tried (set_d (integer 7) ∷ []) all_names (dones 1) ≡ meant (set_d_request (pos 7) ∷ []) (pos 0) 8 M.Returned
unfolding int_wrap tried all_names
no_branch = refl

-- a lack of units, and one of replies, goes through every `try`
budget_through : tried (while_do true_literal (lines (pass ∷ [])) ∷ []) all_names (dones 1) ≡ meant [] (pos 0) 0 M.Budget
unfolding int_wrap tried all_names
budget_through = refl

unanswered_through : tried (do_method (codes "ttl0") (codes "on") ∷ []) all_names [] ≡ meant (out_at 0 0 1 ∷ []) (pos 0) 8 M.Unanswered
unfolding int_wrap tried all_names
unanswered_through = refl

-- what an inner `try` doesn't take goes to the outer one
outer_taken : tried (try_do (lines (divide_by_zero ∷ [])) (except_one (codes "IndexError") (set_d (integer 98) ∷ [])) ∷ set_d (integer 99) ∷ []) (codes "ZeroDivisionError" ∷ []) (dones 1) ≡ meant (set_d_request (pos 1) ∷ []) (pos 0) 8 M.Returned
unfolding int_wrap tried divide_by_zero
outer_taken = refl

-- so does what a branch raises, also where a later branch beside it has its name
raised_in_branch : tried (try_do (lines (divide_by_zero ∷ [])) (except_then 1 (codes "ZeroDivisionError") (lines (assign_list (codes "a") (integer 1 ∷ []) ∷ set_d (element (codes "a") (integer 1)) ∷ [])) (except_one (codes "IndexError") (set_d (integer 99) ∷ []))) ∷ []) (codes "ZeroDivisionError" ∷ codes "IndexError" ∷ []) (dones 1) ≡ meant (set_d_request (pos 2) ∷ []) (pos 0) 8 M.Returned
unfolding int_wrap tried divide_by_zero
raised_in_branch = refl

-- an exception ends the loop that it is raised in
raised_in_turn : tried (for_range (codes "i") None (integer 3) (lines (set_d (variable (codes "i")) ∷ assign (codes "x") (binary Divide (integer 1) (group (binary Subtract (integer 1) (variable (codes "i"))))) ∷ [])) ∷ []) all_names (dones 3) ≡ meant (set_d_requests (pos 0 ∷ pos 1 ∷ pos 4 ∷ [])) (pos 0) 4 M.Returned
unfolding int_wrap tried all_names
raised_in_turn = refl

-- `continue` and `break` go through a `try`
left_through : run (main_of (for_range (codes "i") None (integer 9) (lines (try_do (lines (if_then (compare Equal (variable (codes "i")) (integer 1)) (lines (T.continue ∷ [])) no_else ∷ if_then (compare Equal (variable (codes "i")) (integer 3)) (lines (T.break ∷ [])) no_else ∷ [])) (numbered 98 (codes "IndexError" ∷ [])) ∷ set_d (variable (codes "i")) ∷ [])) ∷ [])) 9 (dones 2) ≡ meant (set_d_requests (pos 0 ∷ pos 2 ∷ [])) (pos 0) 3 M.Returned
unfolding int_wrap
left_through = refl

-- an exception out of a record block: the recording is dropped, the cursor is back, and later outputs are submitted
dropped : run (main_of (call_one (codes "at_mu") 700 ∷ try_do (lines (record_as (codes "p") (lines (do_method (codes "ttl0") (codes "on") ∷ call_one (codes "delay_mu") 5 ∷ divide_by_zero ∷ [])) ∷ [])) (except_one (codes "ZeroDivisionError") (set_d (call (codes "now_mu") no_more) ∷ do_method (codes "ttl1") (codes "on") ∷ [])) ∷ [])) 9 (dones 2) ≡ meant (set_d_request (pos 700) ∷ out_at 700 1 1 ∷ []) (pos 700) 6 M.Returned
unfolding int_wrap divide_by_zero
dropped = refl

-- an exception that is taken inside a record block leaves the block open
kept : run (main_of (call_one (codes "at_mu") 700 ∷ record_as (codes "p") (lines (try_do (lines (do_method (codes "ttl0") (codes "on") ∷ call_one (codes "delay_mu") 5 ∷ divide_by_zero ∷ [])) (except_one (codes "ZeroDivisionError") (do_method (codes "ttl1") (codes "on") ∷ [])) ∷ [])) ∷ do_method (codes "ttl2") (codes "on") ∷ [])) 9 (dones 2) ≡ meant (Q.Save (codes "p") (record { events = record { channel = 0; address = 0; value = 1; stamp = pos 0 } ∷ record { channel = 1; address = 0; value = 1; stamp = pos 5 } ∷ []; length = pos 5 }) ∷ out_at 700 2 1 ∷ []) (pos 700) 5 M.Returned
unfolding int_wrap divide_by_zero
kept = refl
