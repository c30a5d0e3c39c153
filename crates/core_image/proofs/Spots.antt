-- Which function a place is of.
use Rattle.std.proofs.Common.{◌≡◌, ℕ, zero, suc, ◌+◌, ◌<◌, ◌≤◌, inl, inr, Bool, true, false, cond, List, [], ◌∷◌, length, map, get_or, not, Option, Some, None, refl, sym, ap, subst, ◌∙◌, arith}
use Rattle.std.specs.Prelude.{slice_get, nat_le, nat_lt, ◌&&◌, ◌==◌, is_some}
use Rattle.std.specs.List.{count_by, list_all}
use Rattle.std.proofs.lemmas.Bool.{and_parts, and_from, and_left, and_right, ltb-true, eqb-true, le-leb, lt-leb, lt-ltb, le-ltb, eq-eqb, ne_eqb, cases_lt, false≢true, both_ways, not-true, not_from_false, false_from_ne_true, leb-true}
use Rattle.std.proofs.lemmas.Option.{slice_get-get_or}
use Rattle.std.proofs.lemmas.List.Sums.{sum_by-cons}
use Rattle.core_isa.proofs.Decided.{decides-right_place}
use Rattle.core_isa.specs.Marks.{function_index}
use Rattle.core_isa.specs.MarkTests.{is_right_place}
use Rattle.core_isa.specs.declared.code.Code.{Code}
use Rattle.core_isa.specs.declared.code.CodeFunction.{CodeFunction}
use Rattle.core_image.specs.Accepted.{IsGoodPlace, IsLeastBad, MainTakesArguments}
use Rattle.core_image.specs.AcceptedTests.{first_of, start_of, IsSpot, AreGood, is_good_place, takes_arguments_at}
use Rattle.core_image.specs.Ranges.{IsInRange, rises_above, rises_from_zero, is_function}

abbrev begins_by : ℕ → CodeFunction → Bool
begins_by place f = nat_le f.first place

abbrev count_at : ℕ → List CodeFunction → ℕ
count_at place fs = count_by (begins_by place) fs

-- the functions behind one rise
abbrev Rises : CodeFunction → List CodeFunction → Type 0
Rises f fs = rises_above f.first (map (λ g. g.first) fs) ≡ true

some_is : {A : Type 0} (a b : A) → Some a ≡ Some b → a ≡ b
some_is a b e = cc

count-cons : (place : ℕ) (f : CodeFunction) (fs : List CodeFunction) (b : Bool) → begins_by place f ≡ b → count_at place (f ∷ fs) ≡ cond b 1 0 + count_at place fs
count-cons place f fs b test = sum_by-cons (λ x. cond (begins_by place x) 1 0) f fs ∙ ap (λ t. cond t 1 0 + count_at place fs) test

-- no function begins before the first
first_least : (f : CodeFunction) (fs : List CodeFunction) (k : ℕ) (g : CodeFunction) → Rises f fs → slice_get (f ∷ fs) k ≡ Some g → f.first ≤ g.first
first_least f fs zero g r at = let same = ap (λ (x : CodeFunction). x.first) (some_is f g at) in omega arith
first_least f [] (suc k) g r at = absurd (false≢true (ap is_some at))
first_least f (h ∷ fs) (suc k) g r at =
    let p = and_parts (nat_lt f.first h.first) (rises_above h.first (map (λ x. x.first) fs)) r in
    let near = ltb-true _ _ p.0 in
    let far = first_least h fs k g p.1 at in
    omega arith

-- so many begin by a place where one of them does
count_least : (f : CodeFunction) (fs : List CodeFunction) (k place : ℕ) (g : CodeFunction) → Rises f fs → slice_get (f ∷ fs) k ≡ Some g → g.first ≤ place → k + 1 ≤ count_at place (f ∷ fs)
count_least f fs zero place g r at le =
    let same = ap (λ (x : CodeFunction). x.first) (some_is f g at) in
    let one = count-cons place f fs true (le-leb _ _ (omega arith)) in
    omega arith
count_least f [] (suc k) place g r at le = absurd (false≢true (ap is_some at))
count_least f (h ∷ fs) (suc k) place g r at le =
    let least = first_least f (h ∷ fs) (suc k) g r at in
    let p = and_parts (nat_lt f.first h.first) (rises_above h.first (map (λ x. x.first) fs)) r in
    let one = count-cons place f (h ∷ fs) true (le-leb _ _ (omega arith)) in
    let more = count_least h fs k place g p.1 at le in
    omega arith

none_begins : (f : CodeFunction) (fs : List CodeFunction) (place : ℕ) → Rises f fs → place < f.first → count_at place (f ∷ fs) ≡ 0
none_begins f [] place r lt = let one = count-cons place f [] false (lt-leb _ _ lt) in one
none_begins f (h ∷ fs) place r lt =
    let p = and_parts (nat_lt f.first h.first) (rises_above h.first (map (λ x. x.first) fs)) r in
    let near = ltb-true _ _ p.0 in
    let one = count-cons place f (h ∷ fs) false (lt-leb _ _ lt) in
    let rest = none_begins h fs place p.1 (omega arith) in
    omega arith

cond_small : (b : Bool) → cond b 1 0 ≤ 1
cond_small true = omega arith
cond_small false = omega arith

-- at most so many begin by a place where one of them doesn't
count_most : (f : CodeFunction) (fs : List CodeFunction) (k place : ℕ) (g : CodeFunction) → Rises f fs → slice_get (f ∷ fs) k ≡ Some g → place < g.first → count_at place (f ∷ fs) ≤ k
count_most f fs zero place g r at lt =
    let same = ap (λ (x : CodeFunction). x.first) (some_is f g at) in
    let none = none_begins f fs place r (omega arith) in
    omega arith
count_most f [] (suc k) place g r at lt = absurd (false≢true (ap is_some at))
count_most f (h ∷ fs) (suc k) place g r at lt =
    let p = and_parts (nat_lt f.first h.first) (rises_above h.first (map (λ x. x.first) fs)) r in
    let one = count-cons place f (h ∷ fs) (begins_by place f) refl in
    let small = cond_small (begins_by place f) in
    let rest = count_most h fs k place g p.1 at lt in
    omega arith

count_few : (fs : List CodeFunction) (k place : ℕ) → slice_get fs k ≡ None → count_at place fs ≤ k
count_few [] k place at = omega arith
count_few (f ∷ fs) zero place at = absurd cc
count_few (f ∷ fs) (suc k) place at =
    let one = count-cons place f fs (begins_by place f) refl in
    let small = cond_small (begins_by place f) in
    let rest = count_few fs k place at in
    omega arith

-- ---- in code

-- how many functions begin by a place of one
record Counted (fs : List CodeFunction) (index place : ℕ) : Type 0 where
  least : (g : CodeFunction) (k : ℕ) → slice_get fs k ≡ Some g → g.first ≤ place → k + 1 ≤ count_at place fs
  most : (g : CodeFunction) (k : ℕ) → slice_get fs k ≡ Some g → place < g.first → count_at place fs ≤ k
  some : 1 ≤ length fs → 1 ≤ count_at place fs

counted : (fs : List CodeFunction) (index place : ℕ) → rises_from_zero (map (λ f. f.first) fs) ≡ true → Counted fs index place
counted [] index place r = record {
  least = λ g k at le. absurd (false≢true (ap is_some at));
  most = λ g k at lt. absurd (false≢true (ap is_some at));
  some = λ some. some;
}
counted (f ∷ fs) index place r =
    let p = and_parts (f.first == 0) (rises_above f.first (map (λ x. x.first) fs)) r in
    let is_zero = eqb-true _ _ p.0 in
    record {
      least = λ g k at le. count_least f fs k place g p.1 at le;
      most = λ g k at lt. count_most f fs k place g p.1 at lt;
      some = λ some. count_least f fs 0 place f p.1 refl (omega arith);
    }

-- the next function begins behind a place, or there is none
few_begin : (code : Code) (index place : ℕ) (next : Option CodeFunction) → slice_get code.functions (index + 1) ≡ next → IsInRange code → place < first_of (length code.lines) next → count_at place code.functions ≤ index + 1
few_begin code index place None at h lt = count_few code.functions (index + 1) place at
few_begin code index place (Some g) at h lt = (counted code.functions index place h.rising).most g (index + 1) at lt

inside : (code : Code) (f : CodeFunction) (index place : ℕ) → IsInRange code → slice_get code.functions index ≡ Some f → f.first ≤ place → place < start_of code (index + 1) → function_index code place ≡ index
inside code f index place h at le lt =
    let least = (counted code.functions index place h.rising).least f index at le in
    let most = few_begin code index place (slice_get code.functions (index + 1)) refl h lt in
    omega arith

behind : (code : Code) (index place : ℕ) (next : Option CodeFunction) → slice_get code.functions (index + 1) ≡ next → IsInRange code → first_of (length code.lines) next ≤ place → place < length code.lines → index + 2 ≤ count_at place code.functions
behind code index place None at h le lt = absurd (omega arith)
behind code index place (Some g) at h le lt = let least = (counted code.functions index place h.rising).least g (index + 1) at le in omega arith

before : (code : Code) (f : CodeFunction) (index place : ℕ) → IsInRange code → slice_get code.functions index ≡ Some f → place < f.first → count_at place code.functions ≤ index
before code f index place h at lt = (counted code.functions index place h.rising).most f index at lt

same_function : (code : Code) (f : CodeFunction) (index place to : ℕ) → IsInRange code → slice_get code.functions index ≡ Some f → f.first ≤ place → place < start_of code (index + 1)
    → to < length code.lines → (function_index code to == function_index code place) ≡ (nat_le f.first to && nat_lt to (start_of code (index + 1)))
same_function code f index place to h at le lt within =
    let here = inside code f index place h at le lt in
    let some = (counted code.functions index to h.rising).some h.some_function in
    elim (cases_lt to f.first) [
      | inl earlier ↦
          let few = before code f index to h at earlier in
          ne_eqb (function_index code to) (function_index code place) (λ e. absurd (omega arith)) ∙ sym (and_left (nat_le f.first to) (nat_lt to (start_of code (index + 1))) (lt-leb _ _ earlier))
      | inr from ↦
          elim (cases_lt to (start_of code (index + 1))) [
            | inl below ↦
                eq-eqb (function_index code to) (function_index code place) (inside code f index to h at from below ∙ sym here) ∙ sym (and_from _ _ (le-leb _ _ from) (lt-ltb _ _ below))
            | inr later ↦
                let many = behind code index to (slice_get code.functions (index + 1)) refl h later within in
                ne_eqb (function_index code to) (function_index code place) (λ e. absurd (omega arith)) ∙ sym (and_right (nat_le f.first to) (nat_lt to (start_of code (index + 1))) (le-ltb _ _ later))
          ]
    ]

in_code : (lines : ℕ) (fs : List CodeFunction) (k : ℕ) → list_all (is_function lines) fs ≡ true → first_of lines (slice_get fs k) ≤ lines
in_code lines [] k h = omega arith
in_code lines (f ∷ fs) zero h =
    let p = and_parts (is_function lines f) (list_all (is_function lines) fs) h in
    let within = ltb-true f.first lines (and_parts (nat_lt f.first lines) _ p.0).0 in
    omega arith
in_code lines (f ∷ fs) (suc k) h = in_code lines fs k (and_parts (is_function lines f) (list_all (is_function lines) fs) h).1

-- a place of a function of the code
pub spot : (code : Code) (f : CodeFunction) (index place end : ℕ) → IsInRange code → slice_get code.functions index ≡ Some f → end ≡ start_of code (index + 1) → f.first ≤ place → place < end → IsSpot code f end place
spot code f index place end h at is le lt =
    let below : place < start_of code (index + 1) = omega arith in
    let here = inside code f index place h at le below in
    subst (λ (e : ℕ). IsSpot code f e place) (sym is) (record {
      found = ap (slice_get code.functions) here ∙ at;
      same = λ to within. same_function code f index place to h at le below within;
      within = in_code (length code.lines) code.functions (index + 1) h.functions;
      below = below;
      main = h.main;
    })

-- a place from the start of the function of an index
pub spot_of : (code : Code) (functions : List CodeFunction) (index place begin end : ℕ) (d : CodeFunction) → IsInRange code → functions ≡ code.functions → index < length code.functions
    → begin ≡ start_of code index → end ≡ start_of code (index + 1) → begin ≤ place → place < end → IsSpot code (get_or functions index d) end place
spot_of code functions index place begin end d h same there starts ends le lt =
    let at : slice_get code.functions index ≡ Some (get_or functions index d) = rw same (slice_get-get_or code.functions index d there) in
    let first = ap (first_of (length code.lines)) at in
    spot code (get_or functions index d) index place end h at ends (omega arith) lt

-- ---- good places

pub good_more : (code : Code) (from place : ℕ) → AreGood code from place → is_good_place code place ≡ true → AreGood code from (place + 1)
good_more code from place so_far here p le lt =
    elim (cases_lt p place) [
      | inl earlier ↦ so_far p le earlier
      | inr later ↦ let same : p ≡ place = omega arith in subst (λ (q : ℕ). is_good_place code q ≡ true) (sym same) here
    ]

pub good_behind : (code : Code) (from middle to : ℕ) → AreGood code from middle → AreGood code middle to → AreGood code from to
good_behind code from middle to first second p le lt =
    elim (cases_lt p middle) [
      | inl earlier ↦ first p le earlier
      | inr later ↦ second p later lt
    ]

starts_at_zero : (lines : ℕ) (fs : List CodeFunction) → 1 ≤ length fs → rises_from_zero (map (λ f. f.first) fs) ≡ true → first_of lines (slice_get fs 0) ≡ 0
starts_at_zero lines [] some r = absurd (omega arith)
starts_at_zero lines (f ∷ fs) some r = eqb-true _ _ (and_parts (f.first == 0) _ r).0

-- nothing stands before the first function
pub good_none : (code : Code) → IsInRange code → AreGood code 0 (start_of code 0)
good_none code h p le lt = let zero_first = starts_at_zero (length code.lines) code.functions h.some_function h.rising in absurd (omega arith)

ends_with_lines : (lines : ℕ) (fs : List CodeFunction) (k : ℕ) → length fs ≤ k → first_of lines (slice_get fs k) ≡ lines
ends_with_lines lines [] k le = refl
ends_with_lines lines (f ∷ fs) zero le = absurd (omega arith)
ends_with_lines lines (f ∷ fs) (suc k) le = ends_with_lines lines fs k (omega arith)

-- behind the last function the code ends
pub good_all : (code : Code) (index : ℕ) → length code.functions ≤ index → AreGood code 0 (start_of code index) → AreGood code 0 (length code.lines)
good_all code index le good = subst (AreGood code 0) (ends_with_lines (length code.lines) code.functions index le) good

pub starts_within : (code : Code) (index : ℕ) → IsInRange code → start_of code index ≤ length code.lines
starts_within code index h = in_code (length code.lines) code.functions index h.functions

-- ---- the tests decide

main_test : (code : Code) (place : ℕ) (main : Option CodeFunction) → slice_get code.functions code.main ≡ main → takes_arguments_at place main ≡ true → MainTakesArguments code place
main_test code place None at t = absurd (false≢true t)
main_test code place (Some f) at t =
    let p = and_parts (f.first == place) (nat_le 1 f.params) t in
    record { main = f; is_main = at; begins = eqb-true _ _ p.0; takes = leb-true _ _ p.1 }

test_main : (code : Code) (place : ℕ) → MainTakesArguments code place → takes_arguments_at place (slice_get code.functions code.main) ≡ true
test_main code place h =
    ap (takes_arguments_at place) h.is_main ∙ and_from _ _ (eq-eqb _ _ h.begins) (le-leb _ _ h.takes)

pub good_is : (code : Code) (place : ℕ) → is_good_place code place ≡ true → IsGoodPlace code place
good_is code place h =
    let p = and_parts (is_right_place code place) (not (takes_arguments_at place (slice_get code.functions code.main))) h in
    record {
      right = (decides-right_place code place).0 p.0;
      no_main = λ m. both_ways _ (not-true _ p.1) (test_main code place m);
    }

pub is_good : (code : Code) (place : ℕ) → IsGoodPlace code place → is_good_place code place ≡ true
is_good code place h =
    and_from _ _ ((decides-right_place code place).1 h.right)
    (not_from_false _ (false_from_ne_true _ (λ t. h.no_main (main_test code place (slice_get code.functions code.main) refl t))))

pub least_bad : (code : Code) (place : ℕ) → place < length code.lines → is_good_place code place ≡ false → AreGood code 0 place → IsLeastBad code place
least_bad code place lt bad least = record {
  within = lt;
  bad = λ good. both_ways _ bad (is_good code place good);
  least = λ smaller below. good_is code smaller (least smaller (omega arith) below);
}
