-- Lemmas on the open widths: as a list of all lines, and as the code keeps them.
use Rattle.std.proofs.Common.{◌≡◌, ℕ, suc, ◌+◌, ◌-◌, ◌<◌, ◌≤◌, ◌∙◌, ◌++◌, ◌&&◌, ◌||◌, Bool, true, false, cond, List, [], ◌∷◌, length, reverse, replicate, ap, refl, sym, subst, arith, append-nil, nat_eq, nat_lt, Option, Some, None, filter, count_by}
use Rattle.std.specs.List.{list_all, list_any}
use Rattle.std.proofs.lemmas.Bool.{ltb-true, ltb-false, eqb-true, eqb-false, ne_eqb, eq-eqb, lt-ltb, le-ltb, or_parts}
use Rattle.std.proofs.lemmas.List.{reverse-append, reverse-reverse}
use Rattle.std.proofs.lemmas.List.Elements.{filter-append}
use Rattle.std.proofs.lemmas.List.Folds.{list_all-append, list_any-append}
use Rattle.std.proofs.lemmas.List.Sums.{fold-append, sum_by-append, sum_by-cons}
use Rattle.kern_lexer.specs.Layouts.{last_width, open_widths, is_right_width}
use Rattle.kern_lexer.specs.Made.{marks_of_width}
use Rattle.kern_lexer.specs.Margins.{Margin, closed_down_to, top_of, margin}
use Rattle.kern_lexer.specs.declared.token.TokenKind.{TokenKind}
use Rattle.kern_lexer.specs.declared.token.TokenKind.TheVariants as T

-- a width above 0
abbrev above_zero : ℕ → List ℕ
above_zero width = cond (nat_lt 0 width) (width ∷ []) []

-- the lesser widths
abbrev lesser : ℕ → List ℕ → List ℕ
lesser width widths = filter (λ w. nat_lt w width) widths

-- behind one more line the lesser widths are open, and its own
open-more : (widths : List ℕ) (width : ℕ)
    → open_widths (widths ++ width ∷ []) ≡ lesser width (open_widths widths) ++ above_zero width
open-more [] width = alone (nat_lt 0 width)
  where
    alone : (b : Bool) → cond (b && true) (width ∷ []) [] ≡ cond b (width ∷ []) []
    alone true = refl
    alone false = refl
open-more (v ∷ later) width =
    ap (λ b. cond (nat_lt 0 v && b) (v ∷ open_widths (later ++ width ∷ [])) (open_widths (later ++ width ∷ []))) (list_all-append (λ w. nat_lt v w) later (width ∷ []))
    ∙ ap (λ ws. cond (nat_lt 0 v && (list_all (λ w. nat_lt v w) later && (nat_lt v width && true))) (v ∷ ws) ws) (open-more later width)
    ∙ joined (nat_lt 0 v) (list_all (λ w. nat_lt v w) later) (nat_lt v width) refl
  where
    joined : (a b c : Bool) → nat_lt v width ≡ c
        → cond (a && (b && (c && true))) (v ∷ (lesser width (open_widths later) ++ above_zero width)) (lesser width (open_widths later) ++ above_zero width) ≡ lesser width (cond (a && b) (v ∷ open_widths later) (open_widths later)) ++ above_zero width
    joined false b c is = refl
    joined true false c is = refl
    joined true true true is = rw is refl
    joined true true false is = rw is refl

filter-reverse : (p : ℕ → Bool) (xs : List ℕ) → filter p (reverse xs) ≡ reverse (filter p xs)
filter-reverse p [] = refl
filter-reverse p (x ∷ xs) =
    ap (filter p) (reverse-append (x ∷ []) xs) ∙ filter-append p (reverse xs) (x ∷ [])
    ∙ ap (λ ys. ys ++ filter p (x ∷ [])) (filter-reverse p xs) ∙ at_head (p x)
  where
    at_head : (b : Bool) → reverse (filter p xs) ++ cond b (x ∷ []) [] ≡ reverse (cond b (x ∷ filter p xs) (filter p xs))
    at_head true = sym (reverse-append (x ∷ []) (filter p xs))
    at_head false = append-nil (reverse (filter p xs))

-- the open widths, the last first
abbrev pub stack_of : List ℕ → List ℕ
stack_of widths = reverse (open_widths widths)

stack-more : (widths : List ℕ) (width : ℕ)
    → stack_of (widths ++ width ∷ []) ≡ above_zero width ++ lesser width (stack_of widths)
stack-more widths width =
    ap reverse (open-more widths width)
    ∙ reverse-append (lesser width (open_widths widths)) (above_zero width)
    ∙ ap (λ ws. ws ++ reverse (lesser width (open_widths widths))) (single (nat_lt 0 width))
    ∙ ap (λ ws. above_zero width ++ ws) (sym (filter-reverse (λ w. nat_lt w width) (open_widths widths)))
  where
    single : (b : Bool) → reverse (cond b (width ∷ []) []) ≡ cond b (width ∷ []) []
    single true = refl
    single false = refl

-- each width is above 0 and above those behind it
abbrev Falls : List ℕ → Type 0
Falls [] = Unit {0}
Falls (w ∷ widths) = (0 < w) × (list_all (λ v. nat_lt v w) widths ≡ true) × Falls widths

-- what holds of all widths holds of the lesser ones
lesser-all : (p : ℕ → Bool) (width : ℕ) (widths : List ℕ) → list_all p widths ≡ true
    → list_all p (lesser width widths) ≡ true
lesser-all p width [] all = refl
lesser-all p width (w ∷ widths) all =
    at_head (nat_lt w width) (grind arith) (lesser-all p width widths (grind arith))
  where
    at_head : (b : Bool) → p w ≡ true → list_all p (lesser width widths) ≡ true
        → list_all p (cond b (w ∷ lesser width widths) (lesser width widths)) ≡ true
    at_head true first others = rw (first, others) refl
    at_head false first others = others

lesser-less : (width : ℕ) (widths : List ℕ) → list_all (λ v. nat_lt v width) (lesser width widths) ≡ true
lesser-less width [] = refl
lesser-less width (w ∷ widths) = at_head (nat_lt w width) refl (lesser-less width widths)
  where
    at_head : (b : Bool) → nat_lt w width ≡ b → list_all (λ v. nat_lt v width) (lesser width widths) ≡ true
        → list_all (λ v. nat_lt v width) (cond b (w ∷ lesser width widths) (lesser width widths)) ≡ true
    at_head true is others = rw (is, others) refl
    at_head false is others = others

lesser-falls : (width : ℕ) (widths : List ℕ) → Falls widths → Falls (lesser width widths)
lesser-falls width [] falls = tt
lesser-falls width (w ∷ widths) falls =
    at_head (nat_lt w width) (lesser-all (λ v. nat_lt v w) width widths falls.1) (lesser-falls width widths falls.2)
  where
    at_head : (b : Bool) → list_all (λ v. nat_lt v w) (lesser width widths) ≡ true → Falls (lesser width widths)
        → Falls (cond b (w ∷ lesser width widths) (lesser width widths))
    at_head true less others = (falls.0, less, others)
    at_head false less others = others

more-falls : (width : ℕ) (widths : List ℕ) → Falls widths → Falls (above_zero width ++ lesser width widths)
more-falls width widths falls = at_zero (nat_lt 0 width) refl
  where
    at_zero : (b : Bool) → nat_lt 0 width ≡ b → Falls (cond b (width ∷ []) [] ++ lesser width widths)
    at_zero true is = (ltb-true 0 width is, lesser-less width widths, lesser-falls width widths falls)
    at_zero false is = lesser-falls width widths falls

-- none is less than 0
lesser-none : (widths : List ℕ) → lesser 0 widths ≡ []
lesser-none [] = refl
lesser-none (w ∷ widths) =
    let not_less : nat_lt w 0 ≡ false = le-ltb w 0 (omega arith) in
    rw not_less (lesser-none widths)

more-top : (width : ℕ) (widths : List ℕ) → top_of (above_zero width ++ lesser width widths) ≡ width
more-top width widths = at_zero (nat_lt 0 width) refl
  where
    at_zero : (b : Bool) → nat_lt 0 width ≡ b → top_of (cond b (width ∷ []) [] ++ lesser width widths) ≡ width
    at_zero true is = refl
    at_zero false is =
        let none : width ≡ 0 = omega (arith, ltb-false 0 width is) in
        ap (λ w. top_of (lesser w widths)) none ∙ ap top_of (lesser-none widths) ∙ sym none

-- what holds of the open widths, the last first
record IsStack (widths : List ℕ) : Type 0 where
  falls : Falls (stack_of widths)
  top : top_of (stack_of widths) ≡ last_width widths

stack-is : (widths : List ℕ) → IsStack widths
stack-is widths = subst IsStack (reverse-reverse widths) (backwards (reverse widths))
  where
    one_more : (ws : List ℕ) (w : ℕ) → IsStack ws → IsStack (ws ++ w ∷ [])
    one_more ws w is = record {
      falls = subst Falls (sym (stack-more ws w)) (more-falls w (stack_of ws) is.falls);
      top = ap top_of (stack-more ws w) ∙ more-top w (stack_of ws) ∙ sym (fold-append (λ earlier width. width) 0 ws (w ∷ []));
    }

    backwards : (ws : List ℕ) → IsStack (reverse ws)
    backwards [] = record { falls = tt; top = refl }
    backwards (w ∷ ws) =
        subst IsStack (sym (reverse-append (w ∷ []) ws)) (one_more (reverse ws) w (backwards ws))

count-cons : (p : ℕ → Bool) (x : ℕ) (xs : List ℕ) (b : Bool) → p x ≡ b → count_by p (x ∷ xs) ≡ cond b 1 0 + count_by p xs
count-cons p x xs b is = sum_by-cons (λ x. cond (p x) 1 0) x xs ∙ ap (λ c. cond c 1 0 + count_by p xs) is

-- widths below one that isn't above this width: none is above it, none is equal, all are less
none-above : (width last : ℕ) (widths : List ℕ) → list_all (λ v. nat_lt v last) widths ≡ true → last ≤ width
    → count_by (λ w. nat_lt width w) widths ≡ 0
none-above width last [] less below = refl
none-above width last (w ∷ widths) less below =
    let first : nat_lt w last ≡ true = grind arith in
    let not_above : nat_lt width w ≡ false = le-ltb width w (omega (arith, ltb-true w last first)) in
    let others : count_by (λ w. nat_lt width w) widths ≡ 0 = none-above width last widths (grind arith) below in
    rw not_above (omega (arith, others))

none-equal : (width last : ℕ) (widths : List ℕ) → list_all (λ v. nat_lt v last) widths ≡ true → last ≤ width
    → list_any (λ w. nat_eq w width) widths ≡ false
none-equal width last [] less below = refl
none-equal width last (w ∷ widths) less below =
    let first : nat_lt w last ≡ true = grind arith in
    let apart : nat_eq w width ≡ false = ne_eqb w width (λ same. omega (arith, ltb-true w last first)) in
    rw apart (none-equal width last widths (grind arith) below)

lesser-kept : (width last : ℕ) (widths : List ℕ) → list_all (λ v. nat_lt v last) widths ≡ true → last ≤ width
    → lesser width widths ≡ widths
lesser-kept width last [] less below = refl
lesser-kept width last (w ∷ widths) less below =
    let first : nat_lt w last ≡ true = grind arith in
    let below_it : nat_lt w width ≡ true = lt-ltb w width (omega (arith, ltb-true w last first)) in
    rw below_it (ap (λ ws. w ∷ ws) (lesser-kept width last widths (grind arith) below))

-- closing the widths above one leaves those that are as great as it or less
closed-count : (width : ℕ) (stack : List ℕ) → Falls stack
    → count_by (λ w. nat_lt width w) stack + length (closed_down_to width stack) ≡ length stack
closed-count width [] falls = refl
closed-count width (w ∷ stack) falls = at_head (nat_lt width w) refl (closed-count width stack falls.2)
  where
    at_head : (b : Bool) → nat_lt width w ≡ b
        → count_by (λ v. nat_lt width v) stack + length (closed_down_to width stack) ≡ length stack
        → count_by (λ v. nat_lt width v) (w ∷ stack) + length (closed_down_to width (w ∷ stack)) ≡ suc (length stack)
    at_head true is others =
        let count : count_by (λ v. nat_lt width v) (w ∷ stack) ≡ 1 + count_by (λ v. nat_lt width v) stack = count-cons (λ v. nat_lt width v) w stack true is in
        rw count (rw is (omega (arith, others)))
    at_head false is others =
        let count : count_by (λ v. nat_lt width v) (w ∷ stack) ≡ 0 + count_by (λ v. nat_lt width v) stack = count-cons (λ v. nat_lt width v) w stack false is in
        let none : count_by (λ v. nat_lt width v) stack ≡ 0 = none-above width w stack falls.1 (ltb-false width w is) in
        rw count (rw is (omega (arith, none)))

-- the last one left is this width where it is 0 or open
closed-top : (width : ℕ) (stack : List ℕ) → Falls stack
    → nat_eq (top_of (closed_down_to width stack)) width ≡ (nat_eq width 0 || list_any (λ w. nat_eq w width) stack)
closed-top width [] falls = at_zero (nat_eq width 0) refl
  where
    at_zero : (b : Bool) → nat_eq width 0 ≡ b → nat_eq 0 width ≡ (b || false)
    at_zero true is = eq-eqb 0 width (sym (eqb-true width 0 is))
    at_zero false is = ne_eqb 0 width (λ same. eqb-false width 0 is (sym same))
closed-top width (w ∷ stack) falls = at_head (nat_lt width w) refl (closed-top width stack falls.2)
  where
    whole : (b : Bool) → b ≡ (b || false)
    whole true = refl
    whole false = refl

    at_head : (b : Bool) → nat_lt width w ≡ b
        → nat_eq (top_of (closed_down_to width stack)) width ≡ (nat_eq width 0 || list_any (λ v. nat_eq v width) stack)
        → nat_eq (top_of (closed_down_to width (w ∷ stack))) width ≡ (nat_eq width 0 || (nat_eq w width || list_any (λ v. nat_eq v width) stack))
    at_head true is others =
        let apart : nat_eq w width ≡ false = ne_eqb w width (λ same. omega (arith, ltb-true width w is)) in
        rw (is, apart) others
    at_head false is others =
        let below : w ≤ width = ltb-false width w is in
        let not_zero : nat_eq width 0 ≡ false = ne_eqb width 0 (λ same. omega (arith, falls.0, below)) in
        let none : list_any (λ v. nat_eq v width) stack ≡ false = none-equal width w stack falls.1 below in
        rw (is, not_zero, none) (whole (nat_eq w width))

-- and then what is left is open behind a line of this width
closed-is : (width : ℕ) (stack : List ℕ) → Falls stack
    → (nat_eq width 0 || list_any (λ w. nat_eq w width) stack) ≡ true
    → closed_down_to width stack ≡ above_zero width ++ lesser width stack
closed-is width [] falls found = at_zero (nat_eq width 0) refl found
  where
    at_zero : (b : Bool) → nat_eq width 0 ≡ b → (b || false) ≡ true → [] ≡ above_zero width ++ []
    at_zero true is found = let zero_is : width ≡ 0 = eqb-true width 0 is in rw zero_is refl
    at_zero false is found = absurd cc
closed-is width (w ∷ stack) falls found = at_head (nat_lt width w) refl (closed-is width stack falls.2)
  where
    equal : (b : Bool) → (false || (b || false)) ≡ true → b ≡ true
    equal true found = refl
    equal false found = found

    at_head : (b : Bool) → nat_lt width w ≡ b
        → ((nat_eq width 0 || list_any (λ v. nat_eq v width) stack) ≡ true → closed_down_to width stack ≡ above_zero width ++ lesser width stack)
        → closed_down_to width (w ∷ stack) ≡ above_zero width ++ lesser width (w ∷ stack)
    at_head true is others =
        let apart : nat_eq w width ≡ false = ne_eqb w width (λ same. omega (arith, ltb-true width w is)) in
        let not_less : nat_lt w width ≡ false = le-ltb w width (omega (arith, ltb-true width w is)) in
        rw (is, not_less) (others (rw apart at found))
    at_head false is others =
        let below : w ≤ width = ltb-false width w is in
        let not_zero : nat_eq width 0 ≡ false = ne_eqb width 0 (λ same. omega (arith, falls.0, below)) in
        let none : list_any (λ v. nat_eq v width) stack ≡ false = none-equal width w stack falls.1 below in
        let same : w ≡ width = eqb-true w width (equal (nat_eq w width) (rw (not_zero, none) at found)) in
        let above : nat_lt 0 width ≡ true = lt-ltb 0 width (omega (arith, falls.0, below)) in
        let not_less : nat_lt w width ≡ false = le-ltb w width (omega (arith, same)) in
        rw (is, above, not_less) (ap (λ v. v ∷ stack) same ∙ ap (λ ws. width ∷ ws) (sym (lesser-kept width w stack falls.1 below)))

-- the order of a list doesn't matter to what is found and counted in it
any-reverse : (p : ℕ → Bool) (xs : List ℕ) → list_any p (reverse xs) ≡ list_any p xs
any-reverse p [] = refl
any-reverse p (x ∷ xs) =
    ap (list_any p) (reverse-append (x ∷ []) xs) ∙ list_any-append p (reverse xs) (x ∷ [])
    ∙ ap (λ b. b || (p x || false)) (any-reverse p xs) ∙ turned (list_any p xs) (p x)
  where
    turned : (a b : Bool) → (a || (b || false)) ≡ (b || a)
    turned true true = refl
    turned true false = refl
    turned false true = refl
    turned false false = refl

count-reverse : (p : ℕ → Bool) (xs : List ℕ) → count_by p (reverse xs) ≡ count_by p xs
count-reverse p [] = refl
count-reverse p (x ∷ xs) =
    let turned : count_by p (reverse (x ∷ xs)) ≡ count_by p (reverse xs ++ x ∷ []) = ap (count_by p) (reverse-append (x ∷ []) xs) in
    let both : count_by p (reverse xs ++ x ∷ []) ≡ count_by p (reverse xs) + (0 + cond (p x) 1 0) = sum_by-append (λ x. cond (p x) 1 0) (reverse xs) (x ∷ []) in
    let others : count_by p (reverse xs) ≡ count_by p xs = count-reverse p xs in
    let whole : count_by p (x ∷ xs) ≡ cond (p x) 1 0 + count_by p xs = sum_by-cons (λ x. cond (p x) 1 0) x xs in
    turned ∙ both ∙ omega (arith, others, whole)

-- a width is right behind some lines where the code finds it so
right-as_found : (widths : List ℕ) (width : ℕ) → nat_lt (last_width widths) width ≡ false
    → is_right_width widths width ≡ (nat_eq width 0 || list_any (λ w. nat_eq w width) (stack_of widths))
right-as_found widths width lower =
    rw (lower, any-reverse (λ w. nat_eq w width) (open_widths widths)) refl

-- none of the open widths is above one that is above the last
none-above_last : (width : ℕ) (stack : List ℕ) → Falls stack → top_of stack < width
    → (count_by (λ w. nat_lt width w) stack ≡ 0) × (lesser width stack ≡ stack)
none-above_last width [] falls above = (refl, refl)
none-above_last width (w ∷ stack) falls above =
    let not_above : nat_lt width w ≡ false = le-ltb width w (omega arith) in
    let less : nat_lt w width ≡ true = lt-ltb w width above in
    let count : count_by (λ v. nat_lt width v) (w ∷ stack) ≡ 0 + count_by (λ v. nat_lt width v) stack = count-cons (λ v. nat_lt width v) w stack false not_above in
    let others : count_by (λ v. nat_lt width v) stack ≡ 0 = none-above width w stack falls.1 (omega arith) in
    (omega (arith, count, others), rw less (ap (λ ws. w ∷ ws) (lesser-kept width w stack falls.1 (omega arith))))

-- a margin that is right
abbrev pub some_margin : List TokenKind → List ℕ → Option Margin
some_margin marks widths = Some (record { marks = marks; widths = widths })

-- the margin of a line, as the code keeps the widths: right where the width is, with its marks
pub margin-right : (widths : List ℕ) (width : ℕ) → is_right_width widths width ≡ true
    → margin (stack_of widths) width ≡ some_margin (marks_of_width widths width) (stack_of (widths ++ width ∷ []))
margin-right widths width right = at_last (nat_lt (last_width widths) width) refl
  where
    stack : List ℕ
    stack = stack_of widths

    is : IsStack widths
    is = stack-is widths

    made : (marks : List TokenKind) (left : List ℕ) → marks ≡ marks_of_width widths width
        → left ≡ above_zero width ++ lesser width stack
        → some_margin marks left ≡ some_margin (marks_of_width widths width) (stack_of (widths ++ width ∷ []))
    made marks left same kept =
        ap (λ ms. some_margin ms left) same
        ∙ ap (λ ws. some_margin (marks_of_width widths width) ws) (kept ∙ sym (stack-more widths width))

    counted : count_by (λ w. nat_lt width w) stack ≡ count_by (λ w. nat_lt width w) (open_widths widths)
    counted = count-reverse (λ w. nat_lt width w) (open_widths widths)

    at_last : (b : Bool) → nat_lt (last_width widths) width ≡ b
        → margin stack width ≡ some_margin (marks_of_width widths width) (stack_of (widths ++ width ∷ []))
    at_last true above =
        let below : top_of stack < width = omega (arith, ltb-true (last_width widths) width above, is.top) in
        let top : nat_lt (top_of stack) width ≡ true = lt-ltb (top_of stack) width below in
        let none = none-above_last width stack is.falls below in
        let positive : nat_lt 0 width ≡ true = lt-ltb 0 width (omega arith) in
        let dedents : count_by (λ w. nat_lt width w) (open_widths widths) ≡ 0 = sym counted ∙ none.0 in
        let marks : T.Indent ∷ [] ≡ marks_of_width widths width = rw (above, dedents) refl in
        let left : width ∷ stack ≡ above_zero width ++ lesser width stack = rw (positive, none.1) refl in
        rw top (made (T.Indent ∷ []) (width ∷ stack) marks left)
    at_last false above =
        let top : nat_lt (top_of stack) width ≡ false = le-ltb (top_of stack) width (omega (arith, ltb-false (last_width widths) width above, is.top)) in
        let found : (nat_eq width 0 || list_any (λ w. nat_eq w width) stack) ≡ true = sym (right-as_found widths width above) ∙ right in
        let open_one : nat_eq (top_of (closed_down_to width stack)) width ≡ true = closed-top width stack is.falls ∙ found in
        let count : length stack - length (closed_down_to width stack) ≡ count_by (λ w. nat_lt width w) (open_widths widths) =
        omega (arith, closed-count width stack is.falls, counted) in
        let marks : replicate (length stack - length (closed_down_to width stack)) T.Dedent ≡ marks_of_width widths width =
        rw above (ap (λ n. replicate n T.Dedent) count) in
        rw (top, open_one) (made (replicate (length stack - length (closed_down_to width stack)) T.Dedent) (closed_down_to width stack) marks (closed-is width stack is.falls found))

-- and wrong where it isn't
pub margin-wrong : (widths : List ℕ) (width : ℕ) → is_right_width widths width ≡ false
    → margin (stack_of widths) width ≡ None
margin-wrong widths width wrong =
    let is = stack-is widths in
    let lower : (nat_lt (last_width widths) width || nat_eq width 0) ≡ false = (or_parts (nat_lt (last_width widths) width || nat_eq width 0) (list_any (λ w. nat_eq w width) (open_widths widths)) wrong).0 in
    let above : nat_lt (last_width widths) width ≡ false = (or_parts (nat_lt (last_width widths) width) (nat_eq width 0) lower).0 in
    let top : nat_lt (top_of (stack_of widths)) width ≡ false = le-ltb (top_of (stack_of widths)) width (omega (arith, ltb-false (last_width widths) width above, is.top)) in
    let missed : nat_eq (top_of (closed_down_to width (stack_of widths))) width ≡ false =
    closed-top width (stack_of widths) is.falls ∙ sym (right-as_found widths width above) ∙ wrong in
    rw (top, missed) refl
