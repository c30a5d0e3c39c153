-- The first place of a function is a place of that function.
use Rattle.std.proofs.Common.{◌≡◌, ℕ, suc, zero, ◌+◌, ◌<◌, List, [], ◌∷◌, Bool, true, false, cond, Some, refl, sym, ◌∙◌, ap, subst, arith, le_of_eq}
use Rattle.std.specs.Prelude.{slice_get, nat_le, is_some, option_map}
use Rattle.std.specs.List.{count_by}
use Rattle.std.proofs.lemmas.List.Sums.{sum_by-cons}
use Rattle.std.proofs.lemmas.Bool.{le-leb, lt-leb, false≢true}
use Rattle.core_isa.specs.declared.code.Code.{Code}
use Rattle.core_isa.specs.declared.code.CodeFunction.{CodeFunction}
use Rattle.core_isa.specs.Marks.{function_index, first_mark, IsRightPlace, Marked, HasOrder}
use Rattle.core_isa.specs.Sound.{StandsAt}
use Rattle.core_isa.proofs.Decided.{found_one}

-- each function begins before the next one
record Rises (fs : List CodeFunction) : Type 0 where
  rising : (k : ℕ) (f g : CodeFunction) → slice_get fs k ≡ Some f → slice_get fs (k + 1) ≡ Some g → f.first < g.first

rises_behind : (f : CodeFunction) (fs : List CodeFunction) → Rises (f ∷ fs) → Rises fs
rises_behind f fs rises =
    record {
      rising =
          λ k a b at behind.
          rises.rising (suc k) a b at (subst (λ j. slice_get (f ∷ fs) j ≡ Some b) (let same : suc (k + 1) ≡ suc k + 1 = omega arith in same) behind);
    }

-- the first one begins before every other one
begins_first : (fs : List CodeFunction) → (f : CodeFunction) → Rises (f ∷ fs) → (k : ℕ) (g : CodeFunction) → slice_get fs k ≡ Some g → f.first < g.first
begins_first [] f rises k g at = absurd (false≢true (ap is_some at))
begins_first (h ∷ fs) f rises zero g at = rises.rising 0 f g refl at
begins_first (h ∷ fs) f rises (suc k) g at =
    let near : f.first < h.first = rises.rising 0 f h refl refl in
    let far : h.first < g.first = begins_first fs h (rises_behind f (h ∷ fs) rises) k g at in
    omega arith

-- one function more, which begins there or doesn't
count-cons : (p : CodeFunction → Bool) (f : CodeFunction) (fs : List CodeFunction) (b : Bool) → p f ≡ b → count_by p (f ∷ fs) ≡ cond b 1 0 + count_by p fs
count-cons p f fs b test = sum_by-cons (λ x. cond (p x) 1 0) f fs ∙ ap (λ t. cond t 1 0 + count_by p fs) test

-- none of the functions begins at a place or before it
none_begins : (fs : List CodeFunction) (place : ℕ) → ((k : ℕ) (g : CodeFunction) → slice_get fs k ≡ Some g → place < g.first) → count_by (λ g. nat_le g.first place) fs ≡ 0
none_begins [] place later = refl
none_begins (h ∷ fs) place later =
    let none : nat_le h.first place ≡ false = lt-leb h.first place (later 0 h refl) in
    let rest : count_by (λ g. nat_le g.first place) fs ≡ 0 = none_begins fs place (λ k g at. later (suc k) g at) in
    let one : count_by (λ g. nat_le g.first place) (h ∷ fs) ≡ 0 + count_by (λ g. nat_le g.first place) fs =
    count-cons (λ g. nat_le g.first place) h fs false none
    in
    omega arith

-- so many functions begin at a function's first place or before it
count_begins : (fs : List CodeFunction) → Rises fs → (k : ℕ) (f : CodeFunction) → slice_get fs k ≡ Some f → count_by (λ g. nat_le g.first f.first) fs ≡ suc k
count_begins [] rises k f at = absurd (false≢true (ap is_some at))
count_begins (h ∷ fs) rises zero f at =
    let same : h ≡ f = found_one at in
    let here : nat_le h.first f.first ≡ true = le-leb h.first f.first (le_of_eq (ap (λ g. g.first) same)) in
    let one : count_by (λ g. nat_le g.first f.first) (h ∷ fs) ≡ 1 + count_by (λ g. nat_le g.first f.first) fs =
    count-cons (λ g. nat_le g.first f.first) h fs true here
    in
    let none : count_by (λ g. nat_le g.first f.first) fs ≡ 0 =
    none_begins
    fs
    f.first
    (λ k g later. subst (λ e. e.first < g.first) same (begins_first fs h rises k g later))
    in
    omega arith
count_begins (h ∷ fs) rises (suc k) f at =
    let before : nat_le h.first f.first ≡ true = le-leb h.first f.first (let lt : h.first < f.first = begins_first fs h rises k f at in omega arith) in
    let one : count_by (λ g. nat_le g.first f.first) (h ∷ fs) ≡ 1 + count_by (λ g. nat_le g.first f.first) fs =
    count-cons (λ g. nat_le g.first f.first) h fs true before
    in
    let rest : count_by (λ g. nat_le g.first f.first) fs ≡ suc k = count_begins fs (rises_behind h fs rises) k f at in
    omega arith

-- a function's first place is a place of that function
function_index-first : (code : Code) → HasOrder code → (k : ℕ) (f : CodeFunction) → slice_get code.functions k ≡ Some f → function_index code f.first ≡ k
function_index-first code order k f at =
    let all : count_by (λ g. nat_le g.first f.first) code.functions ≡ suc k =
    count_begins code.functions (record { rising = order.rising }) k f at
    in
    omega arith

-- and has the first mark
pub entry_stands : (code : Code) → HasOrder code → Marked code → (k : ℕ) (f : CodeFunction) → slice_get code.functions k ≡ Some f → StandsAt code k f.first 0 0 0
entry_stands code order marked k f at =
    let index : function_index code f.first ≡ k = function_index-first code order k f at in
    let here : IsRightPlace code f.first = marked f.first (order.within k f at) in
    let same : here.function ≡ f =
    found_one (sym here.in_function ∙ ap (slice_get code.functions) index ∙ at)
    in
    let mark : here.line.mark ≡ first_mark = here.right.first (ap (λ g. g.first) same) in
    record {
      same = index;
      marked = ap (option_map (λ line. line.mark)) here.at_place ∙ ap Some mark;
    }
