-- The meanings of statements and functions, computed in small kernels.
use Rattle.std.proofs.Common.{◌≡◌, ℕ, List, [], ◌∷◌, ◌++◌, Some, None, refl}
use Rattle.std.specs.Prelude.{pos, negsuc, codes}
use Rattle.std.specs.Int.{int_wrap}
use Rattle.rtio_types.specs.declared.outcome.Exc.TheVariants.{IndexError}
use Rattle.rtio_types.specs.declared.request.Request.TheVariants as Q
use Rattle.rtio_types.specs.declared.request.Reply.{Reply}
use Rattle.rtio_types.specs.declared.request.Reply.TheVariants as R
use Rattle.kern_syntax.specs.declared.expression.BinaryOperator.TheVariants.{Add as Plus}
use Rattle.kern_syntax.specs.declared.expression.Comparison.TheVariants.{Equal, Less, GreaterEqual}
use Rattle.kern_syntax.specs.declared.statement.Augment.TheVariants as A
use Rattle.kern_syntax.specs.Tree as T
use Rattle.kern_syntax.specs.Tree.{Bytes, Expression, integer, true_literal, false_literal, variable, element, binary, compare, Statement, assign, assign_element, augment, augment_element, assign_repeated, assign_list, if_then, no_else, else_do, elif_then, while_do, for_range, parallel, sequential, record_as, try_do, ProgramTree}
use Rattle.timeline_sem.specs.declared.meant.MeantOutcome.TheVariants as M
use Rattle.timeline_sem.specs.Programs.{Meaning}
use Rattle.timeline_sem.proofs.SmallKernels.{lines, main_of, minus, call_of, call_one, do_method, counter_now, edge_now, edge_request, set_d, tell_d, set_d_request, set_d_requests, set_d_array, except_one, out_at, dones, run, meant}

-- names
abbrev a : Bytes
a = codes "a"

abbrev b : Bytes
b = codes "b"

abbrev i : Bytes
i = codes "i"

abbrev j : Bytes
j = codes "j"

abbrev n : Bytes
n = codes "n"

abbrev x : Bytes
x = codes "x"

abbrev int64_of : ℕ → Expression
int64_of value = call_of (codes "int64") (integer value)

-- `if` with one branch
abbrev if_only : Expression → List Statement → Statement
if_only condition body = if_then condition (lines body) no_else

-- names start as 0, False and arrays of 0
starts : ProgramTree
starts =
    main_of
    (if_only
    false_literal
    (assign x (integer 5) ∷ assign b true_literal ∷ assign_repeated a (integer 7) 2 ∷ [])
    ∷ set_d (variable x)
    ∷ tell_d (variable b)
    ∷ set_d (variable a)
    ∷ [])

starts_run : run starts 3 (dones 3) ≡ meant (set_d_requests (pos 0 ∷ pos 0 ∷ []) ++ set_d_array (pos 0 ∷ pos 0 ∷ []) ∷ []) (pos 0) 0 M.Returned
unfolding starts
starts_run = refl

-- names that are first assigned in blocks: each keeps its value behind its block
abbrev mark : Bytes → ℕ → Statement
mark name value = assign name (integer value)

in_blocks : ProgramTree
in_blocks =
    main_of
    (for_range
    i
    None
    (integer 3)
    (lines
    (if_then
    (compare Equal (variable i) (integer 0))
    (lines (mark (codes "k1") 1 ∷ []))
    (elif_then
    1
    (compare Equal (variable i) (integer 1))
    (lines (mark (codes "k2") 2 ∷ []))
    (else_do (lines (mark (codes "k3") 3 ∷ []))))
    ∷ mark (codes "k4") 4
    ∷ []))
    ∷ while_do true_literal (lines (mark (codes "k5") 5 ∷ T.break ∷ []))
    ∷ parallel (lines (mark (codes "k6") 6 ∷ sequential (lines (mark (codes "k7") 7 ∷ [])) ∷ []))
    ∷ record_as (codes "p") (lines (mark (codes "k8") 8 ∷ []))
    ∷ try_do
    (lines (mark (codes "k9") 9 ∷ assign_list a (integer 0 ∷ []) ∷ assign x (element a (minus 1)) ∷ []))
    (except_one (codes "IndexError") (mark (codes "k10") 10 ∷ []))
    ∷ set_d (variable (codes "k1"))
    ∷ set_d (variable (codes "k2"))
    ∷ set_d (variable (codes "k3"))
    ∷ set_d (variable (codes "k4"))
    ∷ set_d (variable (codes "k5"))
    ∷ set_d (variable (codes "k6"))
    ∷ set_d (variable (codes "k7"))
    ∷ set_d (variable (codes "k8"))
    ∷ set_d (variable (codes "k9"))
    ∷ set_d (variable (codes "k10"))
    ∷ [])

in_blocks_run : run in_blocks 20 (dones 11) ≡ meant (Q.Save (codes "p") (record { events = []; length = pos 0 }) ∷ set_d_requests (pos 1 ∷ pos 2 ∷ pos 3 ∷ pos 4 ∷ pos 5 ∷ pos 6 ∷ pos 7 ∷ pos 8 ∷ pos 9 ∷ pos 10 ∷ [])) (pos 0) 5 M.Returned
unfolding int_wrap in_blocks
in_blocks_run = refl

-- `+=` and `-=` on a name wrap at its width
augmented : ProgramTree
augmented =
    main_of
    (assign x (integer 5)
    ∷ augment x A.Add (integer 3)
    ∷ augment x A.Subtract (integer 10)
    ∷ set_d (variable x)
    ∷ assign n (integer 2147483647)
    ∷ augment n A.Add (integer 1)
    ∷ set_d (variable n)
    ∷ augment n A.Subtract (integer 1)
    ∷ set_d (variable n)
    ∷ assign j (int64_of 2147483647)
    ∷ augment j A.Add (integer 1)
    ∷ set_d (variable j)
    ∷ [])

augmented_run : run augmented 9 (dones 4) ≡ meant (set_d_requests (negsuc 1 ∷ negsuc 2147483647 ∷ pos 2147483647 ∷ pos 2147483648 ∷ [])) (pos 0) 5 M.Returned
unfolding int_wrap augmented
augmented_run = refl

-- the first branch whose condition holds
branches : ProgramTree
branches =
    main_of
    (for_range
    i
    None
    (integer 4)
    (lines
    (if_then
    (compare Equal (variable i) (integer 0))
    (lines (set_d (integer 10) ∷ []))
    (elif_then
    1
    (compare Equal (variable i) (integer 1))
    (lines (set_d (integer 11) ∷ []))
    (elif_then
    1
    (compare Equal (variable i) (integer 2))
    (lines (set_d (integer 12) ∷ []))
    (else_do (lines (set_d (integer 13) ∷ [])))))
    ∷ []))
    ∷ [])

branches_run : run branches 9 (dones 4) ≡ meant (set_d_requests (pos 10 ∷ pos 11 ∷ pos 12 ∷ pos 13 ∷ [])) (pos 0) 1 M.Returned
unfolding int_wrap branches
branches_run = refl

-- the conditions behind a branch that was taken ask nothing
branch_after : Expression → Statement
branch_after condition =
    if_then
    condition
    (lines (set_d (integer 1) ∷ []))
    (elif_then
    1
    (compare Equal counter_now (integer 8))
    (lines (set_d (integer 2) ∷ []))
    (else_do (lines (set_d (integer 3) ∷ []))))

branches_asking : run (main_of (branch_after true_literal ∷ branch_after false_literal ∷ branch_after false_literal ∷ [])) 9 (R.Done ∷ R.Time (pos 8) ∷ R.Done ∷ R.Time (pos 9) ∷ R.Done ∷ []) ≡ meant (set_d_request (pos 1) ∷ Q.Counter ∷ set_d_request (pos 2) ∷ Q.Counter ∷ set_d_request (pos 3) ∷ []) (pos 0) 4 M.Returned
unfolding int_wrap branch_after
branches_asking = refl

-- a `while` ends when its condition is false; each turn takes a unit
counted_up : ProgramTree
counted_up =
    main_of
    (assign n (integer 0)
    ∷ while_do (compare Less (variable n) (integer 3)) (lines (augment n A.Add (integer 1) ∷ []))
    ∷ set_d (variable n)
    ∷ [])

counted_up_run : run counted_up 9 (dones 1) ≡ meant (set_d_request (pos 3) ∷ []) (pos 0) 5 M.Returned
unfolding int_wrap counted_up
counted_up_run = refl

-- a condition that is false wants no unit
last_unit : run (main_of (assign n (integer 0) ∷ while_do (compare Less (variable n) (integer 3)) (lines (augment n A.Add (integer 1) ∷ call_one (codes "delay_mu") 5 ∷ [])) ∷ [])) 3 [] ≡ meant [] (pos 15) 0 M.Returned
unfolding int_wrap
last_unit = refl

-- a condition that asks: two edges, and then none
while_edges : ℕ → Meaning
while_edges units =
    run
    (main_of
    (assign n (integer 0)
    ∷ while_do (compare GreaterEqual edge_now (integer 0)) (lines (augment n A.Add (integer 1) ∷ []))
    ∷ set_d (variable n)
    ∷ []))
    units
    (R.Stamp (pos 5) ∷ R.Stamp (pos 6) ∷ R.NoEdge ∷ R.Done ∷ [])

while_edges_run : while_edges 6 ≡ meant (edge_request ∷ edge_request ∷ edge_request ∷ set_d_request (pos 2) ∷ []) (pos 0) 0 M.Returned
unfolding int_wrap while_edges
while_edges_run = refl

-- the condition has no unit for its request
while_edges_unasked : while_edges 4 ≡ meant (edge_request ∷ edge_request ∷ []) (pos 0) 0 M.Budget
unfolding int_wrap while_edges
while_edges_unasked = refl

-- the turn has no unit behind its condition
while_edges_unturned : while_edges 3 ≡ meant (edge_request ∷ edge_request ∷ []) (pos 0) 0 M.Budget
unfolding int_wrap while_edges
while_edges_unturned = refl

-- two bounds: from the first up to below the second; the variable keeps its last value, also behind no turn
ranges : ProgramTree
ranges =
    main_of
    (for_range i (Some (integer 2)) (integer 5) (lines (set_d (variable i) ∷ []))
    ∷ for_range i (Some (integer 5)) (integer 2) (lines (set_d (integer 99) ∷ []))
    ∷ set_d (variable i)
    ∷ for_range i (Some (minus 2)) (integer 1) (lines (set_d (variable i) ∷ []))
    ∷ [])

ranges_run : run ranges 13 (dones 7) ≡ meant (set_d_requests (pos 2 ∷ pos 3 ∷ pos 4 ∷ pos 4 ∷ negsuc 1 ∷ negsuc 0 ∷ pos 0 ∷ [])) (pos 0) 0 M.Returned
unfolding int_wrap ranges
ranges_run = refl

-- the bounds ask once, the first one first
range_asking : run (main_of (for_range i (Some counter_now) edge_now (lines (set_d (variable i) ∷ [])) ∷ [])) 9 (R.Time (pos 8) ∷ R.Stamp (pos 10) ∷ R.Done ∷ R.Done ∷ []) ≡ meant (Q.Counter ∷ edge_request ∷ set_d_request (pos 8) ∷ set_d_request (pos 9) ∷ []) (pos 0) 3 M.Returned
unfolding int_wrap
range_asking = refl

-- the variable has the width of the wider bound
range_widths : ProgramTree
range_widths =
    main_of
    (for_range i (Some (integer 2147483646)) (integer 2147483647) (lines (set_d (binary Plus (variable i) (integer 2)) ∷ []))
    ∷ for_range j (Some (int64_of 2147483646)) (integer 2147483647) (lines (set_d (binary Plus (variable j) (integer 2)) ∷ []))
    ∷ for_range n (Some (integer 2147483646)) (int64_of 2147483647) (lines (set_d (binary Plus (variable n) (integer 2)) ∷ []))
    ∷ for_range x None (int64_of 1) (lines (set_d (binary Plus (binary Plus (variable x) (integer 2147483647)) (integer 1)) ∷ []))
    ∷ for_range b None (integer 1) (lines (set_d (binary Plus (binary Plus (variable b) (integer 2147483647)) (integer 1)) ∷ []))
    ∷ [])

range_widths_run : run range_widths 10 (dones 5) ≡ meant (set_d_requests (negsuc 2147483647 ∷ pos 2147483648 ∷ pos 2147483648 ∷ pos 2147483648 ∷ negsuc 2147483647 ∷ [])) (pos 0) 0 M.Returned
unfolding int_wrap range_widths
range_widths_run = refl

-- `continue` goes on with the next turn, and `break` ends the loop
left_turns : ProgramTree
left_turns =
    main_of
    (for_range
    i
    None
    (integer 10)
    (lines
    (if_only (compare Equal (variable i) (integer 1)) (T.continue ∷ [])
    ∷ if_only (compare Equal (variable i) (integer 3)) (T.break ∷ [])
    ∷ set_d (variable i)
    ∷ []))
    ∷ set_d (variable i)
    ∷ [])

left_turns_run : run left_turns 10 (dones 3) ≡ meant (set_d_requests (pos 0 ∷ pos 2 ∷ pos 3 ∷ [])) (pos 0) 3 M.Returned
unfolding int_wrap left_turns
left_turns_run = refl

-- the same of a `while`
left_while : ProgramTree
left_while =
    main_of
    (assign n (integer 0)
    ∷ while_do
    true_literal
    (lines
    (augment n A.Add (integer 1)
    ∷ if_only (compare Less (variable n) (integer 3)) (T.continue ∷ [])
    ∷ T.break
    ∷ set_d (integer 99)
    ∷ []))
    ∷ set_d (variable n)
    ∷ [])

left_while_run : run left_while 10 (dones 1) ≡ meant (set_d_request (pos 3) ∷ []) (pos 0) 6 M.Returned
unfolding int_wrap left_while
left_while_run = refl

-- `break` ends the inner loop alone
inner_break : ProgramTree
inner_break =
    main_of
    (for_range
    i
    None
    (integer 2)
    (lines
    (for_range
    j
    None
    (integer 5)
    (lines
    (if_only (compare Equal (variable j) (integer 1)) (T.break ∷ [])
    ∷ set_d (binary Plus (integer 10) (variable j))
    ∷ []))
    ∷ set_d (variable i)
    ∷ []))
    ∷ [])

inner_break_run : run inner_break 10 (dones 4) ≡ meant (set_d_requests (pos 10 ∷ pos 0 ∷ pos 10 ∷ pos 1 ∷ [])) (pos 0) 0 M.Returned
unfolding int_wrap inner_break
inner_break_run = refl

-- a turn that lacks a unit or a reply ends more than its loop
looping : ℕ → List Reply → Meaning
looping units replies =
    run
    (main_of
    (while_do true_literal (lines (do_method (codes "ttl0") (codes "on") ∷ [])) ∷ call_one (codes "delay_mu") 5 ∷ []))
    units
    replies

looping_spent : looping 3 (dones 2) ≡ meant (out_at 0 0 1 ∷ []) (pos 0) 0 M.Budget
unfolding int_wrap looping
looping_spent = refl

looping_unanswered : looping 9 (dones 1) ≡ meant (out_at 0 0 1 ∷ out_at 0 0 1 ∷ []) (pos 0) 5 M.Unanswered
unfolding int_wrap looping
looping_unanswered = refl

-- the items of an array are evaluated in order, before the name has them
swapped : ProgramTree
swapped =
    main_of
    (assign_list a (counter_now ∷ edge_now ∷ [])
    ∷ assign_list a (element a (integer 1) ∷ element a (integer 0) ∷ [])
    ∷ set_d (variable a)
    ∷ [])

swapped_run : run swapped 9 (R.Time (pos 8) ∷ R.Stamp (pos 5) ∷ R.Done ∷ []) ≡ meant (Q.Counter ∷ edge_request ∷ set_d_array (pos 5 ∷ pos 8 ∷ []) ∷ []) (pos 0) 6 M.Returned
unfolding int_wrap swapped
swapped_run = refl

-- a repeated item is evaluated once
repeated : run (main_of (assign_repeated a counter_now 3 ∷ set_d (variable a) ∷ [])) 9 (R.Time (pos 8) ∷ R.Done ∷ []) ≡ meant (Q.Counter ∷ set_d_array (pos 8 ∷ pos 8 ∷ pos 8 ∷ []) ∷ []) (pos 0) 7 M.Returned
unfolding int_wrap
repeated = refl

-- an item's value is evaluated before its index
ordered : List Reply → Meaning
ordered replies =
    run (main_of (assign_repeated a (integer 7) 2 ∷ assign_element a counter_now edge_now ∷ set_d (variable a) ∷ [])) 9 replies

ordered_run : ordered (R.Stamp (pos 5) ∷ R.Time (pos 1) ∷ R.Done ∷ []) ≡ meant (edge_request ∷ Q.Counter ∷ set_d_array (pos 7 ∷ pos 5 ∷ []) ∷ []) (pos 0) 6 M.Returned
unfolding int_wrap ordered
ordered_run = refl

ordered_outside : ordered (R.NoEdge ∷ R.Time (pos 2) ∷ []) ≡ meant (edge_request ∷ Q.Counter ∷ []) (pos 0) 7 (M.Raised IndexError)
unfolding int_wrap ordered
ordered_outside = refl

-- where it is raised, its index comes first, and it is read before the value is evaluated
raised_by_counter : List Reply → Meaning
raised_by_counter replies =
    run
    (main_of
    (assign_list a (integer 1 ∷ integer 9223372036854775807 ∷ [])
    ∷ augment_element a edge_now A.Add counter_now
    ∷ set_d (variable a)
    ∷ []))
    9
    replies

raised_first : raised_by_counter (R.Stamp (pos 0) ∷ R.Time (pos 8) ∷ R.Done ∷ []) ≡ meant (edge_request ∷ Q.Counter ∷ set_d_array (pos 9 ∷ pos 9223372036854775807 ∷ []) ∷ []) (pos 0) 6 M.Returned
unfolding int_wrap raised_by_counter
raised_first = refl

-- it wraps at 64 bits
raised_second : raised_by_counter (R.Stamp (pos 1) ∷ R.Time (pos 8) ∷ R.Done ∷ []) ≡ meant (edge_request ∷ Q.Counter ∷ set_d_array (pos 1 ∷ negsuc 9223372036854775800 ∷ []) ∷ []) (pos 0) 6 M.Returned
unfolding int_wrap raised_by_counter
raised_second = refl

raised_outside : raised_by_counter (R.NoEdge ∷ []) ≡ meant (edge_request ∷ []) (pos 0) 8 (M.Raised IndexError)
unfolding int_wrap raised_by_counter
raised_outside = refl
