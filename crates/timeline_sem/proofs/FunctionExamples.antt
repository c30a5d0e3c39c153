-- The meanings of functions, calls and exceptions, computed in small kernels.
use Rattle.std.proofs.Common.{◌≡◌, List, [], ◌∷◌, Some, None, refl}
use Rattle.std.specs.Prelude.{pos, negsuc, codes}
use Rattle.std.specs.Int.{int_wrap}
use Rattle.rtio_types.specs.declared.outcome.Exc.TheVariants.{StackOverflow}
use Rattle.rtio_types.specs.declared.request.Request.TheVariants as Q
use Rattle.rtio_types.specs.declared.request.Reply.TheVariants as R
use Rattle.kern_syntax.specs.declared.expression.BinaryOperator.TheVariants.{Add as Plus, Subtract, Divide}
use Rattle.kern_syntax.specs.declared.expression.Comparison.TheVariants.{Equal}
use Rattle.kern_syntax.specs.declared.statement.Augment.TheVariants as A
use Rattle.kern_syntax.specs.declared.program.DeclaredType.{DeclaredType}
use Rattle.kern_syntax.specs.declared.program.DeclaredType.TheVariants as D
use Rattle.kern_syntax.specs.Tree as T
use Rattle.kern_syntax.specs.Tree.{integer, true_literal, variable, binary, compare, negation, call, no_more, value_then, Statement, pass, evaluate, assign, augment, if_then, no_else, while_do, for_range, try_do, FunctionTree, ProgramTree}
use Rattle.timeline_sem.specs.declared.meant.MeantOutcome.TheVariants as M
use Rattle.timeline_sem.specs.Programs.{Meaning, meaning}
use Rattle.timeline_sem.proofs.SmallKernels.{lines, function_of, main_of, call_of, call_one, counter_now, edge_now, edge_request, set_d, tell_d, set_d_request, set_d_requests, except_one, dones, run, run_second, meant}

-- a program whose second function is `main`
abbrev with_main : FunctionTree → List Statement → ProgramTree
with_main f body = f ∷ function_of (codes "main") body ∷ []

-- a function `f` without parameters, of a result
abbrev giving : DeclaredType → List Statement → FunctionTree
giving result body =
    record { line = 1; name = codes "f"; parameters = []; result = Some result; body = lines body }

abbrev f_now : T.Expression
f_now = call (codes "f") no_more

-- a `return` inside a loop gives its value, and ends the function
found : ProgramTree
found =
    with_main
    (giving
    D.Int32
    (for_range
    (codes "i")
    None
    (integer 9)
    (lines
    (if_then
    (compare Equal (variable (codes "i")) (integer 4))
    (lines (T.return (Some (variable (codes "i"))) ∷ []))
    no_else
    ∷ []))
    ∷ T.return (Some (integer 99))
    ∷ []))
    (set_d f_now ∷ [])

found_run : run_second found 9 (dones 1) ≡ meant (set_d_request (pos 4) ∷ []) (pos 0) 2 M.Returned
unfolding int_wrap found
found_run = refl

-- a function that reaches its end gives 0; its cursor stays, and the caller's names are as before
end_reached : ProgramTree
end_reached =
    with_main
    (giving D.Int32 (assign (codes "x") (integer 3) ∷ call_one (codes "delay_mu") 5 ∷ []))
    (assign (codes "x") (integer 4) ∷ set_d (binary Plus f_now (variable (codes "x"))) ∷ [])

end_reached_run : run_second end_reached 9 (dones 1) ≡ meant (set_d_request (pos 4) ∷ []) (pos 5) 7 M.Returned
unfolding int_wrap end_reached
end_reached_run = refl

-- or False
false_reached : run_second (with_main (giving D.Bool (pass ∷ [])) (tell_d (negation f_now) ∷ [])) 9 (dones 1) ≡ meant (set_d_request (pos 1) ∷ []) (pos 0) 7 M.Returned
false_reached = refl

-- a `return` goes through a loop and a `try`
through_try : run_second (with_main (giving D.Int32 (while_do true_literal (lines (try_do (lines (T.return (Some (integer 5)) ∷ [])) (except_one (codes "IndexError") (pass ∷ [])) ∷ [])) ∷ [])) (set_d f_now ∷ [])) 9 (dones 1) ≡ meant (set_d_request (pos 5) ∷ []) (pos 0) 6 M.Returned
unfolding int_wrap
through_try = refl

-- a call's value has the width of the function's result
greatest_of : DeclaredType → Meaning
greatest_of result =
    run_second
    (with_main (giving result (T.return (Some (integer 2147483647)) ∷ [])) (set_d (binary Plus f_now (integer 1)) ∷ []))
    9
    (dones 1)

narrow_result : greatest_of D.Int32 ≡ meant (set_d_request (negsuc 2147483647) ∷ []) (pos 0) 7 M.Returned
unfolding int_wrap greatest_of
narrow_result = refl

wide_result : greatest_of D.Int64 ≡ meant (set_d_request (pos 2147483648) ∷ []) (pos 0) 7 M.Returned
unfolding int_wrap greatest_of
wide_result = refl

-- a parameter has its own width
parameter_widths : ProgramTree
parameter_widths =
    with_main
    (record { line = 1; name = codes "f"; parameters = record { name = codes "a"; declared = D.Int32 } ∷ record { name = codes "b"; declared = D.Int64 } ∷ []; result = None; body = lines (set_d (binary Plus (variable (codes "a")) (integer 1)) ∷ set_d (binary Plus (variable (codes "b")) (integer 1)) ∷ []) })
    (evaluate (call (codes "f") (value_then (integer 2147483647) (value_then (integer 2147483647) no_more))) ∷ [])

parameter_widths_run : run_second parameter_widths 9 (dones 2) ≡ meant (set_d_requests (negsuc 2147483647 ∷ pos 2147483648 ∷ [])) (pos 0) 6 M.Returned
unfolding int_wrap parameter_widths
parameter_widths_run = refl

-- a `return` without a value ends `main`
returned : run (main_of (set_d (integer 1) ∷ T.return None ∷ set_d (integer 2) ∷ [])) 9 (dones 2) ≡ meant (set_d_request (pos 1) ∷ []) (pos 0) 8 M.Returned
returned = refl

-- arguments are evaluated from left to right; the caller's names stay as they were
differing : ProgramTree
differing =
    with_main
    (record { line = 1; name = codes "f"; parameters = record { name = codes "a"; declared = D.Int64 } ∷ record { name = codes "b"; declared = D.Int64 } ∷ []; result = Some D.Int64; body = lines (augment (codes "a") A.Add (integer 100) ∷ T.return (Some (binary Subtract (variable (codes "a")) (variable (codes "b")))) ∷ []) })
    (assign (codes "a") (integer 50)
    ∷ set_d (call (codes "f") (value_then counter_now (value_then edge_now no_more)))
    ∷ set_d (variable (codes "a"))
    ∷ [])

differing_run : run_second differing 9 (R.Time (pos 8) ∷ R.Stamp (pos 5) ∷ R.Done ∷ R.Done ∷ []) ≡ meant (Q.Counter ∷ edge_request ∷ set_d_requests (pos 103 ∷ pos 50 ∷ [])) (pos 0) 4 M.Returned
unfolding int_wrap differing
differing_run = refl

-- a call takes its unit behind its arguments
call_unit : run_second differing 2 (R.Time (pos 8) ∷ R.Stamp (pos 5) ∷ []) ≡ meant (Q.Counter ∷ edge_request ∷ []) (pos 0) 0 M.Budget
unfolding int_wrap differing
call_unit = refl

-- a function begins with its arguments and at the cursor
begun : meaning (record { line = 1; name = codes "main"; parameters = record { name = codes "t"; declared = D.Int64 } ∷ []; result = None; body = lines (set_d (call (codes "now_mu") no_more) ∷ evaluate (call_of (codes "at_mu") (variable (codes "t"))) ∷ []) } ∷ []) 0 (pos 77 ∷ []) (pos 3) 9 (dones 1) ≡ meant (set_d_request (pos 3) ∷ []) (pos 77) 8 M.Returned
begun = refl

-- a function that was left is active no more
many_calls : run_second (with_main (function_of (codes "f") (pass ∷ [])) (for_range (codes "i") None (integer 70) (lines (evaluate f_now ∷ [])) ∷ [])) 200 [] ≡ meant [] (pos 0) 60 M.Returned
unfolding int_wrap
many_calls = refl

-- a call of a 65th active function takes its unit before it raises
deep : ProgramTree
deep = function_of (codes "f") (evaluate f_now ∷ []) ∷ []

deep_raised : run deep 64 [] ≡ meant [] (pos 0) 0 (M.Raised StackOverflow)
unfolding deep
deep_raised = refl

deep_spent : run deep 63 [] ≡ meant [] (pos 0) 0 M.Budget
unfolding deep
deep_spent = refl

-- an exception goes through the functions up to one that takes it; the caller's names are back
raised_inside : ProgramTree
raised_inside =
    with_main
    (function_of
    (codes "f")
    (call_one (codes "delay_mu") 5
    ∷ assign (codes "x") (binary Divide (integer 1) (integer 0))
    ∷ call_one (codes "delay_mu") 1
    ∷ []))
    (assign (codes "x") (integer 7)
    ∷ try_do
    (lines (evaluate f_now ∷ set_d (integer 99) ∷ []))
    (except_one (codes "ZeroDivisionError") (set_d (call (codes "now_mu") no_more) ∷ set_d (variable (codes "x")) ∷ []))
    ∷ [])

raised_inside_run : run_second raised_inside 9 (dones 2) ≡ meant (set_d_requests (pos 5 ∷ pos 7 ∷ [])) (pos 5) 6 M.Returned
unfolding int_wrap raised_inside
raised_inside_run = refl
