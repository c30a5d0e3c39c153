-- Functions one after another.
use Rattle.std.proofs.Common.{◌≡◌, ℕ, ◌+◌, ◌<◌, ◌≤◌, ◌||◌, IsTrue, nat_le, List, [], ◌∷◌, ◌++◌, length, take, drop, get_or, Some, is_some, slice_get, bytes_eq, Bool, true, false, Bor, map, Result, Ok, Err, refl, sym, ap, subst, ◌∙◌, arith}
use Rattle.std.specs.Prelude.{⊤}
use Rattle.std.specs.List.{list_any}
use Rattle.std.proofs.lemmas.List.{take_more, map-append, length-take, length-map}
use Rattle.std.proofs.lemmas.Option.{slice_get_within, slice_get_read, get_or_from_slice_get}
use Rattle.kern_syntax.specs.declared.program.Function.{Function}
use Rattle.kern_syntax.specs.Tree.{Bytes, FunctionTree, ProgramTree}
use Rattle.kern_syntax.specs.TreeOf.{function_of, tree_of}
use Rattle.kern_expression_types.specs.declared.fault.TypeFault.{TypeFault}
use Rattle.kern_expression_types.specs.declared.fault.TypeKind.TheVariants as K
use Rattle.kern_expression_types.specs.Answers.{Finds, Passes}
use Rattle.kern_expression_types.specs.Before.{Functions, is_reserved}
use Rattle.kern_plain.specs.Plain.{with_plain}
use Rattle.kern_types.specs.Programs.{body_verdict, function_verdict, functions_verdict, most_functions}
use Rattle.kern_calls.specs.Types.{function_named}
use Rattle.kern_expression_types.specs.Verdicts.{Verdict, well, fault, is_well, refuse_if, ◌>>=◌, ◌>>◌}
use Rattle.kern_types.proofs.Branches.{fault-then}
use Rattle.kern_types.proofs.Places.{few-plain}

-- names that are lent
abbrev pub names_of : List (Bor Bytes) → List Bytes
names_of names = map (λ name. name.now) names

-- at most one function more is plain
pub few-noted : (old new : List (Bor Bytes)) (f : FunctionTree) → names_of new ≡ with_plain (names_of old) f → length new ≤ length old + 1
few-noted old new f noted =
    let count : length (names_of new) ≡ length new = length-map new (λ name. name.now) in
    let before : length (names_of old) ≡ length old = length-map old (λ name. name.now) in
    let same : length (names_of new) ≡ length (with_plain (names_of old) f) = ap length noted in
    omega (arith, count, before, same, few-plain (names_of old) f)

-- the functions before one
pub length-before : (fs : List Function) (n : ℕ) (f : Function) → slice_get fs n ≡ Some f → length (tree_of (take n fs)) ≡ n
length-before fs n f at =
    let within : n < length fs = slice_get_within fs n f at in
    length-map (take n fs) function_of ∙ omega (arith, within, length-take n fs)

-- the trees of one function more
pub tree-next : (fs : List Function) (n : ℕ) (f : Function) → slice_get fs n ≡ Some f → tree_of (take (n + 1) fs) ≡ tree_of (take n fs) ++ function_of f ∷ []
tree-next fs n f at =
    let more : take (n + 1) fs ≡ take n fs ++ f ∷ [] = take_more fs n f (slice_get_within fs n f at) ∙ ap (λ g. take n fs ++ g ∷ []) (get_or_from_slice_get fs n f f at) in
    ap tree_of more ∙ map-append function_of (take n fs) (f ∷ [])

-- a name is an earlier function's in the text where it is one's in the tree
pub is_some-named : (fs : List Function) (name : Bytes) → list_any (λ f. bytes_eq name f.name) fs ≡ is_some (function_named (tree_of fs) name)
is_some-named [] name = refl
is_some-named (f ∷ fs) name = by (bytes_eq name f.name) refl (is_some-named fs name)
  where
    by : (b : Bool) → bytes_eq name f.name ≡ b → list_any (λ f. bytes_eq name f.name) fs ≡ is_some (function_named (tree_of fs) name) → list_any (λ f. bytes_eq name f.name) (f ∷ fs) ≡ is_some (function_named (tree_of (f ∷ fs)) name)
    by true is rest = rw is refl
    by false is rest = rw is rest

-- a part without a fault lets the next one speak
pub well-then : {A B : Type 0} (v : Verdict A) (next : Verdict B) → IsTrue (is_well v) → (v >>= (λ a. next)) ≡ next
well-then (well a) next holds = refl
well-then (fault line kind) next holds = cc

-- the fault of a function is that of the program
pub function-faulted : (found : TypeFault) (program earlier : ProgramTree) (plain : List Bytes) (f : FunctionTree) (rest : ProgramTree) (whole : Verdict (Unit {0})) → whole ≡ functions_verdict program earlier plain (f ∷ rest) → function_verdict program earlier plain f ≡ fault found.line found.kind → whole ≡ fault found.line found.kind
function-faulted found program earlier plain f rest whole is faulted =
    is ∙ fault-then found (function_verdict program earlier plain f) (λ a. functions_verdict program (earlier ++ f ∷ []) (with_plain plain f) rest) faulted

-- the item of a loop, by its index
pub item-at : (fs : List Function) (i : ℕ) (item : Function) → i < length fs → item ≡ get_or fs i item → slice_get fs i ≡ Some item
item-at fs i item within is = slice_get_read fs (length fs) i item refl within is

-- the functions that a body may speak of, by those that may be called
abbrev pub speaking : (program : ProgramTree) (plain : List Bytes) (callable : ProgramTree) → Functions
speaking program plain callable = record { program = program; callable = callable; plain = plain }

-- the verdict on a function behind a number of others
pub function-behind : (fs : List Function) (n : ℕ) (plain : List Bytes) (f : Function) → slice_get fs n ≡ Some f → function_verdict (tree_of fs) (tree_of (take n fs)) plain (function_of f) ≡ (refuse_if (is_some (function_named (tree_of (take n fs)) f.name) || is_reserved f.name) f.line K.Name >> (refuse_if (nat_le most_functions n) f.line K.Size >> body_verdict (speaking (tree_of fs) plain (tree_of (take (n + 1) fs))) (function_of f)))
function-behind fs n plain f at =
    let name = refuse_if (is_some (function_named (tree_of (take n fs)) f.name) || is_reserved f.name) f.line K.Name in
    ap (λ m. name >> (refuse_if (nat_le most_functions m) f.line K.Size >> body_verdict (speaking (tree_of fs) plain (tree_of (take n fs) ++ function_of f ∷ [])) (function_of f))) (length-before fs n f at)
    ∙ ap (λ callable. name >> (refuse_if (nat_le most_functions n) f.line K.Size >> body_verdict (speaking (tree_of fs) plain callable) (function_of f))) (sym (tree-next fs n f at))

-- a function that has no fault before its body passes where its body does
pub passes-behind : (fs : List Function) (n : ℕ) (plain : List Bytes) (f : Function) (r : Result ⊤ TypeFault) → slice_get fs n ≡ Some f → refuse_if (is_some (function_named (tree_of (take n fs)) f.name) || is_reserved f.name) f.line K.Name ≡ well tt → refuse_if (nat_le most_functions n) f.line K.Size ≡ well tt → Passes r (body_verdict (speaking (tree_of fs) plain (tree_of (take (n + 1) fs))) (function_of f)) → Passes r (function_verdict (tree_of fs) (tree_of (take n fs)) plain (function_of f))
passes-behind fs n plain f r at name few body =
    let last = body_verdict (speaking (tree_of fs) plain (tree_of (take (n + 1) fs))) (function_of f) in
    let whole = function-behind fs n plain f at ∙ ap (λ v. v >> (refuse_if (nat_le most_functions n) f.line K.Size >> last)) name ∙ ap (λ v. v >> last) few in
    subst (Passes r) (sym whole) body

-- one step of the loop over functions
pub program-step : (fs : List Function) (n : ℕ) (plain : List Bytes) (item : Function) (whole : Verdict (Unit {0})) → slice_get fs n ≡ Some item → drop n fs ≡ item ∷ drop (n + 1) fs → whole ≡ functions_verdict (tree_of fs) (tree_of (take n fs)) plain (tree_of (drop n fs)) → IsTrue (is_well (function_verdict (tree_of fs) (tree_of (take n fs)) plain (function_of item))) → whole ≡ functions_verdict (tree_of fs) (tree_of (take (n + 1) fs)) (with_plain plain (function_of item)) (tree_of (drop (n + 1) fs))
program-step fs n plain item whole at next is passes =
    let first : whole ≡ functions_verdict (tree_of fs) (tree_of (take n fs)) plain (function_of item ∷ tree_of (drop (n + 1) fs)) = is ∙ ap (λ rest. functions_verdict (tree_of fs) (tree_of (take n fs)) plain (tree_of rest)) next in
    first
    ∙ well-then (function_verdict (tree_of fs) (tree_of (take n fs)) plain (function_of item)) (functions_verdict (tree_of fs) (tree_of (take n fs) ++ function_of item ∷ []) (with_plain plain (function_of item)) (tree_of (drop (n + 1) fs))) passes
    ∙ ap (λ earlier. functions_verdict (tree_of fs) earlier (with_plain plain (function_of item)) (tree_of (drop (n + 1) fs))) (sym (tree-next fs n item at))

-- what finds something passes
pub passes-finding : (r : Result ⊤ TypeFault) (v : Verdict ⊤) → Finds r v → Passes r v
passes-finding (Ok done) v is = rw is refl
passes-finding (Err found) v is = is
