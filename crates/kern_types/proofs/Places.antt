-- The place of a function, and how many functions a typed program has.
use Rattle.std.proofs.Common.{◌≡◌, ℕ, ◌+◌, ◌<◌, ◌≤◌, List, [], ◌∷◌, ◌++◌, map, length, Bool, true, false, cond, if◌then◌else◌, nat_le, ◌||◌, is_some, Some, IsTrue, refl, sym, ap, arith, bytes_eq, length-append}
use Rattle.std.specs.List.{position, prefix_len}
use Rattle.std.proofs.lemmas.List.{length-map}
use Rattle.std.proofs.lemmas.List.Quantifiers.{position-Some}
use Rattle.kern_syntax.specs.declared.program.Function.{Function}
use Rattle.kern_syntax.specs.Tree.{Bytes, FunctionTree, ProgramTree}
use Rattle.kern_syntax.specs.TreeOf.{function_of, tree_of}
use Rattle.kern_expression_types.specs.declared.fault.TypeKind.{TypeKind}
use Rattle.kern_plain.specs.Plain.{is_in, is_plain_function, with_plain}
use Rattle.kern_expression_types.specs.declared.fault.TypeKind.TheVariants as K
use Rattle.kern_expression_types.specs.Before.{is_reserved}
use Rattle.kern_calls.specs.Types.{function_named}
use Rattle.kern_types.specs.Programs.{IsTyped, body_functions, body_verdict, function_verdict, functions_verdict, most_functions, place_of_function}
use Rattle.kern_expression_types.specs.Verdicts.{Verdict, well, fault, ◌>>=◌, ◌>>◌, refuse_if, is_well}

-- the items at the front that pass, of the images of others
prefix_len-map : {A B : Type 0} (test : B → Bool) (f : A → B) (xs : List A) → prefix_len test (map f xs) ≡ prefix_len (λ x. test (f x)) xs
prefix_len-map test f [] = refl
prefix_len-map test f (x ∷ xs) = ap (λ n. cond (test (f x)) (1 + n) 0) (prefix_len-map test f xs)

-- the first image that passes stands where the first such item does
position-map : {A B : Type 0} (test : B → Bool) (f : A → B) (xs : List A) → position test (map f xs) ≡ position (λ x. test (f x)) xs
position-map test f xs = rw (prefix_len-map, length-map) refl

-- functions stand where their trees do
pub place-in-tree : (functions : List Function) (name : Bytes) → position (λ f. bytes_eq name f.name) functions ≡ place_of_function (tree_of functions) name
place-in-tree functions name = sym (position-map (λ f. bytes_eq name f.name) function_of functions)

-- a part and what follows it are without faults where the whole is
well-whole : {A B : Type 0} (v : Verdict A) (next : A → Verdict B) → IsTrue (is_well (v >>= next)) → IsTrue (is_well v)
well-whole (well a) next h = refl
well-whole (fault line kind) next h = absurd (cc)

well-after : {A B : Type 0} (v : Verdict A) (next : Verdict B) → IsTrue (is_well (v >>= (λ a. next))) → IsTrue (is_well next)
well-after (well a) next h = h
well-after (fault line kind) next h = absurd (cc)

not-refused : (b : Bool) (line : ℕ) (kind : TypeKind) → IsTrue (is_well (refuse_if b line kind)) → b ≡ false
not-refused true line kind h = absurd (cc)
not-refused false line kind h = refl

-- a function that has no fault stands behind fewer than the most
pub few-before : (program earlier : ProgramTree) (plain : List Bytes) (f : FunctionTree) → IsTrue (is_well (function_verdict program earlier plain f)) → length earlier < 256
few-before program earlier plain f h =
    let second = well-after (refuse_if (is_some (function_named earlier f.name) || is_reserved f.name) f.line K.Name) (refuse_if (nat_le most_functions (length earlier)) f.line K.Size >> body_verdict (body_functions program earlier plain f) f) h in
    let few = not-refused (nat_le most_functions (length earlier)) f.line K.Size (well-whole (refuse_if (nat_le most_functions (length earlier)) f.line K.Size) (λ a. body_verdict (body_functions program earlier plain f) f) second) in
    grind arith

-- functions that have no fault are no more than the most
few-behind : (program earlier : ProgramTree) (plain : List Bytes) (rest : ProgramTree) → length earlier ≤ 256 → IsTrue (is_well (functions_verdict program earlier plain rest)) → length earlier + length rest ≤ 256
few-behind program earlier plain [] few h = omega (arith, few)
few-behind program earlier plain (f ∷ rest) few h =
    let first = few-before program earlier plain f (well-whole (function_verdict program earlier plain f) (λ a. functions_verdict program (earlier ++ f ∷ []) (with_plain plain f) rest) h) in
    let after = well-after (function_verdict program earlier plain f) (functions_verdict program (earlier ++ f ∷ []) (with_plain plain f) rest) h in
    let one : length (earlier ++ f ∷ []) ≡ length earlier + 1 = length-append earlier (f ∷ []) in
    let all = few-behind program (earlier ++ f ∷ []) (with_plain plain f) rest (omega (arith, one, first)) after in
    omega (arith, one, all)

-- the place of a function of a typed program
pub few-places : (functions : List Function) (name : Bytes) (place : ℕ) → IsTyped (tree_of functions) → position (λ f. bytes_eq name f.name) functions ≡ Some place → place < 256
few-places [] name place typed found = absurd (cc)
few-places (f ∷ functions) name place typed found =
    let within = (position-Some (λ f. bytes_eq name f.name) (f ∷ functions) place f found).0 in
    let all = few-behind (tree_of (f ∷ functions)) [] [] (tree_of (f ∷ functions)) (omega arith) typed in
    let same : length (tree_of (f ∷ functions)) ≡ length (f ∷ functions) = length-map (f ∷ functions) function_of in
    omega (arith, within, all, same)

-- at most one function more is plain
few-with : (plain : List Bytes) (name : Bytes) (is_plain is_there : Bool) → length (if is_plain then (if is_there then plain else plain ++ name ∷ []) else plain) ≤ length plain + 1
few-with plain name true true = omega arith
few-with plain name true false = omega (arith, length-append plain (name ∷ []))
few-with plain name false is_there = omega arith

pub few-plain : (plain : List Bytes) (f : FunctionTree) → length (with_plain plain f) ≤ length plain + 1
few-plain plain f = few-with plain f.name (is_plain_function plain f) (is_in plain f.name)
