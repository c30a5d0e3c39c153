-- The edges of a script, which stand by cycle.
use Rattle.std.proofs.Common.{◌≡◌, ℕ, zero, suc, ◌-◌, ◌<◌, ◌≤◌, Bool, true, false, List, [], ◌∷◌, ◌++◌, refl, sym, ap, ◌∙◌, arith, cond, drop, take, length, subst}
use Rattle.std.specs.Prelude.{ℤ, pos, negsuc, int_lt, int_le, filter, nat_lt, nat_le, ◌==◌, ◌&&◌, ◌||◌}
use Rattle.std.specs.Ordering.{int_eq}
use Rattle.std.specs.List.{list_all, take_while, zip}
use Rattle.std.proofs.lemmas.Bool.{ltb-false, ltb-true, leb-true, eqb-true, eqb-false, ne_eqb, lt-ltb, le-ltb, le-leb}
use Rattle.std.proofs.lemmas.List.{length-drop, take_all}
use Rattle.std.proofs.lemmas.List.Sums.{take_while-cons}
use Rattle.std.proofs.lemmas.Bool.Decides.{nat_tests}
use Rattle.rtio_types.specs.declared.event.Edge.{Edge}
use Rattle.rtio_types.specs.Time.{cycle_of_stamp}
use Rattle.rtio_input.specs.Script.{are_by_cycle, are_rising, edge_cycle, edges_up_to, is_edge_before, later_edges}
use Rattle.rtio_input.proofs.Lists.{left, right, join, all-filter, all-weaker, filter-same, filter-none, filter-whole}

-- a stamp of an earlier cycle is less
pub earlier-stamp : (x y : ℤ) → cycle_of_stamp x < cycle_of_stamp y → (int_le y x ≡ false) × (int_le x y ≡ true)
earlier-stamp (pos a) (pos b) lt = let less : a < b = omega (arith, lt) in (grind (arith, nat_tests, less), grind (arith, nat_tests, less))
earlier-stamp (pos a) (negsuc b) lt = absurd (omega (arith, lt))
earlier-stamp (negsuc a) (pos b) lt = (refl, refl)
earlier-stamp (negsuc a) (negsuc b) lt = absurd (omega (arith, lt))

-- by a stamp and then by a channel
abbrev lex : ℤ → ℕ → ℤ → ℕ → Bool
lex x i y j = int_lt x y || (int_eq x y && nat_lt i j)

before-cycle : (x y : ℤ) (i j : ℕ) → lex x i y j ≡ true → cycle_of_stamp x ≤ cycle_of_stamp y
before-cycle (pos a) (pos b) i j h = let le : a ≤ b = grind (arith, nat_tests, h) in omega (arith, le)
before-cycle (pos a) (negsuc b) i j h = absurd (cc)
before-cycle (negsuc a) y i j h = omega arith

rising-first : (x : Edge) (rest : List Edge) → are_rising (x ∷ rest) ≡ true → list_all (λ y. nat_le (edge_cycle x) (edge_cycle y)) rest ≡ true
rising-first x [] rise = refl
rising-first x (y ∷ rest) rise =
    let before = left (is_edge_before x y) (are_rising (y ∷ rest)) rise in
    let le : edge_cycle x ≤ edge_cycle y = before-cycle x.stamp y.stamp x.channel y.channel before in
    let here : nat_le (edge_cycle x) (edge_cycle y) ≡ true = grind (arith, nat_tests, le) in
    join _ _ here
    (all-weaker (λ z. nat_le (edge_cycle y) (edge_cycle z)) (λ z. nat_le (edge_cycle x) (edge_cycle z)) rest
    (rising-first y rest (right (is_edge_before x y) (are_rising (y ∷ rest)) rise))
    (λ z h. grind (arith, nat_tests, le, h)))

-- rising edges stand by cycle
pub rising-by-cycle : (edges : List Edge) → are_rising edges ≡ true → are_by_cycle edges ≡ true
rising-by-cycle [] rise = refl
rising-by-cycle (x ∷ []) rise = refl
rising-by-cycle (x ∷ y ∷ rest) rise =
    join _ _ (rising-first x (y ∷ rest) rise)
    (rising-by-cycle (y ∷ rest) (right (is_edge_before x y) (are_rising (y ∷ rest)) rise))

-- what is behind rising edges rises
pub rising-tail : (x : Edge) (rest : List Edge) → are_rising (x ∷ rest) ≡ true → are_rising rest ≡ true
rising-tail x [] rise = refl
rising-tail x (y ∷ rest) rise = right (is_edge_before x y) (are_rising (y ∷ rest)) rise

-- edges rise where each is before its neighbour
pub zip-rising : (edges : List Edge) → list_all (λ p. is_edge_before p.0 p.1) (zip edges (drop 1 edges)) ≡ are_rising edges
zip-rising [] = refl
zip-rising (x ∷ []) = refl
zip-rising (x ∷ y ∷ rest) = ap (λ (b : Bool). is_edge_before x y && b) (zip-rising (y ∷ rest))

-- of edges from a cycle on, those up to it are those of it
up-to-from : (cycle : ℕ) (edges : List Edge) → 0 < cycle → list_all (λ x. nat_le cycle (edge_cycle x)) edges ≡ true → edges_up_to cycle edges ≡ filter (λ x. edge_cycle x == cycle) edges
up-to-from cycle edges some from = filter-same _ _ _ edges from (λ x h. same x h)
  where
    same : (x : Edge) → nat_le cycle (edge_cycle x) ≡ true → (nat_lt 0 (edge_cycle x) && nat_le (edge_cycle x) cycle) ≡ (edge_cycle x == cycle)
    same x h = grind (arith, nat_tests, h, some)

-- edges later than a counter
later-none : (counter : ℕ) (edges : List Edge) → list_all (λ x. nat_lt counter (edge_cycle x)) edges ≡ true → edges_up_to counter edges ≡ []
later-none counter edges later = filter-none _ _ edges later (λ x h. none x h)
  where
    none : (x : Edge) → nat_lt counter (edge_cycle x) ≡ true → (nat_lt 0 (edge_cycle x) && nat_le (edge_cycle x) counter) ≡ false
    none x h = grind (arith, nat_tests, h)

later-whole : (counter : ℕ) (edges : List Edge) → list_all (λ x. nat_lt counter (edge_cycle x)) edges ≡ true → later_edges counter edges ≡ edges
later-whole counter edges later = filter-whole _ _ edges later (λ x h. h)

more-append : (b : Bool) (x : Edge) (all some more : List Edge) → all ≡ some ++ more → cond b (x ∷ all) all ≡ cond b (x ∷ some) some ++ more
more-append true x all some more is = ap (λ ys. x ∷ ys) is
more-append false x all some more is = is

-- one cycle more brings the edges of that cycle, behind all others, if no edge lies between
pub up-to-next : (counter cycle : ℕ) (edges : List Edge) → counter < cycle → are_by_cycle edges ≡ true → list_all (λ x. nat_le cycle (edge_cycle x)) (later_edges counter edges) ≡ true → edges_up_to cycle edges ≡ edges_up_to counter edges ++ filter (λ x. edge_cycle x == cycle) (later_edges counter edges)
up-to-next counter cycle [] lt by from = refl
up-to-next counter cycle (x ∷ rest) lt by from =
    let first = left (list_all (λ y. nat_le (edge_cycle x) (edge_cycle y)) rest) (are_by_cycle rest) by in
    let behind = right (list_all (λ y. nat_le (edge_cycle x) (edge_cycle y)) rest) (are_by_cycle rest) by in
    at (nat_lt counter (edge_cycle x)) refl first (λ all. up-to-next counter cycle rest lt behind all) from
  where
    at : (b : Bool) → nat_lt counter (edge_cycle x) ≡ b → list_all (λ y. nat_le (edge_cycle x) (edge_cycle y)) rest ≡ true → (list_all (λ y. nat_le cycle (edge_cycle y)) (later_edges counter rest) ≡ true → edges_up_to cycle rest ≡ edges_up_to counter rest ++ filter (λ y. edge_cycle y == cycle) (later_edges counter rest)) → list_all (λ y. nat_le cycle (edge_cycle y)) (cond b (x ∷ later_edges counter rest) (later_edges counter rest)) ≡ true → edges_up_to cycle (x ∷ rest) ≡ edges_up_to counter (x ∷ rest) ++ filter (λ y. edge_cycle y == cycle) (cond b (x ∷ later_edges counter rest) (later_edges counter rest))
    at true late first step from =
        let some : 0 < cycle = omega (arith, lt) in
        let later : list_all (λ y. nat_lt counter (edge_cycle y)) (x ∷ rest) ≡ true =
        join _ _ late (all-weaker (λ y. nat_le (edge_cycle x) (edge_cycle y)) (λ y. nat_lt counter (edge_cycle y)) rest first (λ y h. grind (arith, nat_tests, late, h))) in
        let whole : x ∷ later_edges counter rest ≡ x ∷ rest = ap (λ ys. x ∷ ys) (later-whole counter rest (right _ _ later)) in
        let all : list_all (λ y. nat_le cycle (edge_cycle y)) (x ∷ rest) ≡ true = ap (λ ys. list_all (λ y. nat_le cycle (edge_cycle y)) (x ∷ ys)) (sym (later-whole counter rest (right _ _ later))) ∙ from in
        up-to-from cycle (x ∷ rest) some all
        ∙ ap (λ ys. filter (λ y. edge_cycle y == cycle) ys) (sym whole)
        ∙ ap (λ ys. ys ++ filter (λ y. edge_cycle y == cycle) (x ∷ later_edges counter rest)) (sym (later-none counter (x ∷ rest) later))
    at false late first step from =
        let ih = step from in
        let le : edge_cycle x ≤ counter = ltb-false counter (edge_cycle x) late in
        let one : nat_le (edge_cycle x) counter ≡ true = le-leb (edge_cycle x) counter le in
        let other : nat_le (edge_cycle x) cycle ≡ true = le-leb (edge_cycle x) cycle (omega (arith, le, lt)) in
        ap (λ (b : Bool). cond (nat_lt 0 (edge_cycle x) && b) (x ∷ edges_up_to cycle rest) (edges_up_to cycle rest)) (other ∙ sym one)
        ∙ more-append (nat_lt 0 (edge_cycle x) && nat_le (edge_cycle x) counter) x (edges_up_to cycle rest) (edges_up_to counter rest)
        (filter (λ y. edge_cycle y == cycle) (later_edges counter rest)) ih

-- the edges of a cycle at the beginning of edges from that cycle on: how many they are, and what is behind them
pub record IsBeginning (cycle : ℕ) (edges : List Edge) (count : ℕ) : Type 0 where
  pub these : take count edges ≡ filter (λ x. edge_cycle x == cycle) edges
  pub later : drop count edges ≡ later_edges cycle edges

abbrev of_cycle : ℕ → Edge → Bool
of_cycle cycle x = edge_cycle x == cycle

pub beginning : (cycle : ℕ) (edges : List Edge) → are_by_cycle edges ≡ true → list_all (λ x. nat_le cycle (edge_cycle x)) edges ≡ true → IsBeginning cycle edges (length (take_while (of_cycle cycle) edges))
beginning cycle [] by from = record { these = refl; later = refl }
beginning cycle (x ∷ rest) by from =
    let first = left (list_all (λ y. nat_le (edge_cycle x) (edge_cycle y)) rest) (are_by_cycle rest) by in
    let behind = right (list_all (λ y. nat_le (edge_cycle x) (edge_cycle y)) rest) (are_by_cycle rest) by in
    let here = left (nat_le cycle (edge_cycle x)) (list_all (λ x. nat_le cycle (edge_cycle x)) rest) from in
    let others = right (nat_le cycle (edge_cycle x)) (list_all (λ x. nat_le cycle (edge_cycle x)) rest) from in
    subst (λ (ys : List Edge). IsBeginning cycle (x ∷ rest) (length ys)) (sym (take_while-cons (of_cycle cycle) x rest))
    (at (of_cycle cycle x) refl (leb-true cycle (edge_cycle x) here) first (beginning cycle rest behind others))
  where
    at : (b : Bool) → of_cycle cycle x ≡ b → cycle ≤ edge_cycle x → list_all (λ y. nat_le (edge_cycle x) (edge_cycle y)) rest ≡ true → IsBeginning cycle rest (length (take_while (of_cycle cycle) rest)) → IsBeginning cycle (x ∷ rest) (length (cond b (x ∷ take_while (of_cycle cycle) rest) []))
    at true is le first ih =
        let same : edge_cycle x ≡ cycle = eqb-true (edge_cycle x) cycle is in
        let not_later : nat_lt cycle (edge_cycle x) ≡ false = le-ltb cycle (edge_cycle x) (omega (arith, same)) in
        record {
          these = ap (λ ys. x ∷ ys) ih.these ∙ sym (ap (λ (b : Bool). cond b (x ∷ filter (of_cycle cycle) rest) (filter (of_cycle cycle) rest)) is);
          later = ih.later ∙ sym (ap (λ (b : Bool). cond b (x ∷ later_edges cycle rest) (later_edges cycle rest)) not_later);
        }
    at false is le first ih =
        let other : edge_cycle x ≡ cycle → ⊥ = eqb-false (edge_cycle x) cycle is in
        let less : cycle < edge_cycle x = omega (arith, le, other) in
        let all : list_all (λ y. nat_lt cycle (edge_cycle y)) (x ∷ rest) ≡ true =
        join _ _ (lt-ltb cycle (edge_cycle x) less)
        (all-weaker (λ y. nat_le (edge_cycle x) (edge_cycle y)) (λ y. nat_lt cycle (edge_cycle y)) rest first
        (λ y h. lt-ltb cycle (edge_cycle y) (later-on y less (leb-true (edge_cycle x) (edge_cycle y) h)))) in
        record {
          these = sym (filter-none (λ y. nat_lt cycle (edge_cycle y)) (of_cycle cycle) (x ∷ rest) all
              (λ y h. ne_eqb (edge_cycle y) cycle (not-same y (ltb-true cycle (edge_cycle y) h))));
          later = sym (later-whole cycle (x ∷ rest) all);
        }
      where
        later-on : (y : Edge) → cycle < edge_cycle x → edge_cycle x ≤ edge_cycle y → cycle < edge_cycle y
        later-on y less more = omega (arith, less, more)

        not-same : (y : Edge) → cycle < edge_cycle y → edge_cycle y ≡ cycle → ⊥
        not-same y less is = omega (arith, less, is)

-- what a filter keeps stands by cycle
pub by-cycle-filter : (keep : Edge → Bool) (edges : List Edge) → are_by_cycle edges ≡ true → are_by_cycle (filter keep edges) ≡ true
by-cycle-filter keep [] by = refl
by-cycle-filter keep (x ∷ rest) by =
    by-cycle-filter-at (keep x)
    (all-filter keep _ rest (left (list_all (λ y. nat_le (edge_cycle x) (edge_cycle y)) rest) (are_by_cycle rest) by))
    (by-cycle-filter keep rest (right (list_all (λ y. nat_le (edge_cycle x) (edge_cycle y)) rest) (are_by_cycle rest) by))
  where
    by-cycle-filter-at : (b : Bool) → list_all (λ y. nat_le (edge_cycle x) (edge_cycle y)) (filter keep rest) ≡ true → are_by_cycle (filter keep rest) ≡ true → are_by_cycle (cond b (x ∷ filter keep rest) (filter keep rest)) ≡ true
    by-cycle-filter-at true first ih = rw first ih
    by-cycle-filter-at false first ih = ih

-- no edge comes up to counter 0
pub none-yet : (edges : List Edge) → edges_up_to 0 edges ≡ []
none-yet [] = refl
none-yet (x ∷ rest) = ap (λ (b : Bool). cond b (x ∷ edges_up_to 0 rest) (edges_up_to 0 rest)) (never (edge_cycle x)) ∙ none-yet rest
  where
    never : (n : ℕ) → (nat_lt 0 n && nat_le n 0) ≡ false
    never zero = refl
    never (suc n) = le-both n
      where
        le-both : (n : ℕ) → (nat_lt 0 (suc n) && nat_le (suc n) 0) ≡ false
        le-both n = grind (arith, nat_tests)

-- the whole of what is behind some elements
pub rest-whole : (n : ℕ) (edges : List Edge) → take (length edges - n) (drop n edges) ≡ drop n edges
rest-whole n edges = let long : length (drop n edges) ≡ length edges - n = length-drop n edges in take_all (length edges - n) (drop n edges) (omega (arith, long))
