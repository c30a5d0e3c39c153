-- The code of small kernels: its places are all right, and its run is its meaning.
use Rattle.std.proofs.Common.{◌≡◌, ℕ, List, [], ◌∷◌, ◌++◌, Some, None, Option, refl}
use Rattle.std.specs.Prelude.{pos, codes, length, Bool, true, slice_get}
use Rattle.std.specs.List.{list_all, range_with_len}
use Rattle.std.specs.Int.{int_wrap}
use Rattle.rtio_types.specs.declared.request.Reply.{Reply}
use Rattle.rtio_types.specs.declared.request.Reply.TheVariants as R
use Rattle.kern_syntax.specs.declared.expression.BinaryOperator.TheVariants as B
use Rattle.kern_syntax.specs.declared.expression.Comparison.TheVariants as C
use Rattle.kern_syntax.specs.declared.statement.Augment.TheVariants as A
use Rattle.kern_syntax.specs.declared.program.DeclaredType.TheVariants as D
use Rattle.kern_syntax.specs.Tree as T
use Rattle.kern_syntax.specs.Tree.{Expression, integer, true_literal, variable, element, binary, compare, negation, conjunction, disjunction, call, method, no_more, value_then, text_then, Statement, pass, evaluate, assign, assign_element, augment, augment_element, assign_repeated, assign_list, if_then, while_do, for_range, parallel, sequential, record_as, try_do, no_else, else_do, elif_then, no_handler, FunctionTree, ProgramTree}
use Rattle.timeline_sem.specs.declared.meant.MeantOutcome.{MeantOutcome}
use Rattle.timeline_sem.specs.declared.meant.MeantOutcome.TheVariants as M
use Rattle.timeline_sem.specs.Programs.{Meaning, meaning}
use Rattle.core_isa.specs.declared.code.Code.{Code}
use Rattle.core_isa.specs.declared.code.CodeFunction.{CodeFunction}
use Rattle.core_isa.specs.Machine.{MachineEnd, returned, raised, budget, unanswered, Next, goes, ends, stuck}
use Rattle.core_isa.specs.MarkTests.{is_right_place}
use Rattle.core_isa.specs.Runs.{boot, steps}
use Rattle.code_forms.specs.Programs.{code_of_program}
use Rattle.code_forms.proofs.SmallKernels.{lines, function_of, main_of, minus, call_of, call_one, method_one, pulse_one, do_method, set_d, numbered, except_one, dones}

abbrev outcome_of : MachineEnd → MeantOutcome
outcome_of returned = M.Returned
outcome_of (raised x) = M.Raised x
outcome_of budget = M.Budget
outcome_of unanswered = M.Unanswered

-- a run's end as a meaning
abbrev as_meaning : Next → Option Meaning
as_meaning (goes m) = None
as_meaning stuck = None
as_meaning (ends outcome m) =
    Some (record { requests = m.asked; cursor = m.cursor; units = m.units; outcome = outcome_of outcome })

abbrev run_from : Code → Option CodeFunction → ℕ → List Reply → Option Meaning
run_from code None units replies = None
run_from code (Some f) units replies = as_meaning (steps code 2000 (boot f [] (pos 0) units replies))

abbrev run_of : Code → ℕ → List Reply → Option Meaning
run_of code units replies = run_from code (slice_get code.functions code.main) units replies

abbrev all_right : Code → Bool
all_right code = list_all (is_right_place code) (range_with_len 0 (length code.lines))

-- a name by one letter
abbrev v : List ℕ → Expression
v x = variable x

-- loops, branches, arrays, operators
loops : ProgramTree
loops =
    main_of
    (assign (codes "n") (integer 0)
    ∷ assign_repeated (codes "a") (integer 7) 3
    ∷ for_range (codes "i") None (integer 4)
    (lines
    (if_then (compare C.Equal (v (codes "i")) (integer 2)) (lines (T.continue ∷ [])) no_else
    ∷ augment (codes "n") A.Add (v (codes "i"))
    ∷ assign (codes "i") (integer 99)
    ∷ []))
    ∷ set_d (v (codes "n"))
    ∷ set_d (v (codes "i"))
    ∷ while_do (conjunction (compare C.Less (v (codes "n")) (integer 50)) true_literal)
    (lines
    (augment (codes "n") A.Add (binary B.Multiply (v (codes "n")) (integer 2))
    ∷ if_then
    (disjunction (compare C.Greater (v (codes "n")) (integer 100)) (negation (compare C.GreaterEqual (v (codes "n")) (integer 12))))
    (lines (T.break ∷ []))
    (elif_then 1 (compare C.NotEqual (v (codes "n")) (integer 12)) (lines (set_d (integer 5) ∷ [])) (else_do (lines (set_d (integer 6) ∷ []))))
    ∷ []))
    ∷ set_d (v (codes "n"))
    ∷ augment_element (codes "a") (integer 1) A.Subtract (integer 9)
    ∷ assign_element (codes "a") (integer 2) (call_of (codes "len") (v (codes "a")))
    ∷ set_d (v (codes "a"))
    ∷ assign_list (codes "a") (element (codes "a") (integer 2) ∷ element (codes "a") (integer 1) ∷ element (codes "a") (integer 0) ∷ [])
    ∷ set_d (v (codes "a"))
    ∷ set_d (binary B.Add (integer 2147483647) (integer 1))
    ∷ set_d (binary B.Divide (minus 7) (integer 2))
    ∷ set_d (binary B.ShiftLeft (integer 1) (integer 33))
    ∷ set_d (element (codes "a") (integer 3))
    ∷ [])

loops_code : Code
loops_code = code_of_program loops

loops_right : all_right loops_code ≡ true
unfolding int_wrap loops loops_code
loops_right = refl

loops_run : run_of loops_code 60 (dones 20) ≡ Some (meaning loops 0 [] (pos 0) 60 (dones 20))
unfolding int_wrap loops loops_code
loops_run = refl

-- timed calls, parallel blocks, recordings, handlers, functions
timed : ProgramTree
timed =
    record {
      line = 1;
      name = codes "f";
      parameters = record { name = codes "k"; declared = D.Int64 } ∷ [];
      result = Some D.Int64;
      body = lines
          (if_then (compare C.LessEqual (v (codes "k")) (integer 0)) (lines (T.return (Some (integer 3)) ∷ [])) no_else
          ∷ try_do (lines (T.return (Some (binary B.Add (integer 1) (call_of (codes "f") (binary B.Subtract (v (codes "k")) (integer 1))))) ∷ []))
          (except_one (codes "IndexError") (pass ∷ []))
          ∷ []);
    }
    ∷ function_of (codes "main")
    (do_method (codes "core") (codes "reset")
    ∷ parallel
    (lines
    (pulse_one (codes "ttl0") 100
    ∷ sequential (lines (call_one (codes "delay_mu") 30 ∷ pulse_one (codes "ttl1") 200 ∷ []))
    ∷ evaluate (method (codes "in0") (codes "gate_both_mu") (value_then (integer 50) no_more))
    ∷ for_range (codes "j") (Some (integer 1)) (integer 3) (lines (call_one (codes "delay_mu") 8 ∷ []))
    ∷ []))
    ∷ record_as (codes "p")
    (lines
    (pulse_one (codes "ttl2") 5
    ∷ try_do (lines (evaluate (binary B.Remainder (integer 1) (integer 0)) ∷ [])) (numbered 1 [])
    ∷ []))
    ∷ [])
    ∷ []

timed_code : Code
timed_code = code_of_program timed

timed_right : all_right timed_code ≡ true
unfolding int_wrap timed timed_code
timed_right = refl

times : List Reply
times = R.Time (pos 1000) ∷ dones 8

timed_run : run_of timed_code 60 times ≡ Some (meaning timed 1 [] (pos 0) 60 times)
unfolding int_wrap timed timed_code times
timed_run = refl

-- recordings played, edges counted, handlers of what was raised, calls
handled : ProgramTree
handled =
    record {
      line = 1;
      name = codes "f";
      parameters = record { name = codes "k"; declared = D.Int64 } ∷ [];
      result = Some D.Int64;
      body = lines
          (if_then (compare C.LessEqual (v (codes "k")) (integer 0)) (lines (T.return (Some (integer 3)) ∷ [])) no_else
          ∷ try_do (lines (T.return (Some (binary B.Add (integer 1) (call_of (codes "f") (binary B.Subtract (v (codes "k")) (integer 1))))) ∷ []))
          (except_one (codes "IndexError") (pass ∷ []))
          ∷ []);
    }
    ∷ function_of (codes "main")
    (record_as (codes "p") (lines (pulse_one (codes "ttl2") 5 ∷ []))
    ∷ evaluate (method (codes "core_dma") (codes "playback") (text_then (codes "p") no_more))
    ∷ set_d (method (codes "in0") (codes "count") (value_then (integer 50) no_more))
    ∷ set_d (binary B.Multiply (integer 2) (call_of (codes "f") (integer 1)))
    ∷ try_do
    (lines
    (for_range (codes "i") None (integer 3)
    (lines
    (try_do (lines (record_as (codes "q") (lines (pulse_one (codes "ttl3") 6 ∷ evaluate (binary B.Divide (v (codes "i")) (integer 0)) ∷ [])) ∷ []))
    (except_one (codes "ZeroDivisionError") (set_d (call (codes "now_mu") no_more) ∷ if_then (compare C.Equal (v (codes "i")) (integer 1)) (lines (T.break ∷ [])) no_else ∷ []))
    ∷ []))
    ∷ method_one (codes "core_dma") (codes "playback_handle") (integer 4)
    ∷ []))
    (numbered 10 (codes "IndexError" ∷ codes "DMAError" ∷ []))
    ∷ [])
    ∷ []

handled_code : Code
handled_code = code_of_program handled

handled_right : all_right handled_code ≡ true
unfolding int_wrap handled handled_code
handled_right = refl

replies : List Reply
replies =
    R.Done ∷ R.Trace (record { events = record { channel = 2; address = 0; value = 1; stamp = pos 0 } ∷ []; length = pos 5 }) ∷ R.Done
    ∷ R.Stamp (pos 5) ∷ R.Stamp (pos 9) ∷ R.NoEdge ∷ dones 4 ++ R.OldHandle ∷ dones 5

handled_run : run_of handled_code 300 replies ≡ Some (meaning handled 1 [] (pos 0) 300 replies)
unfolding int_wrap handled handled_code replies
handled_run = refl
