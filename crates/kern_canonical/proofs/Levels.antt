-- The widths that are open within blocks, and the margins of lines there.
use Rattle.std.proofs.Common.{◌≡◌, ℕ, zero, suc, ◌-◌, ◌*◌, ◌<◌, ◌≤◌, ◌⊎◌, inl, inr, ◌∙◌, true, false, List, [], ◌∷◌, Some, length, replicate, ap, refl, sym, subst, arith, nat_eq, nat_lt}
use Rattle.std.proofs.lemmas.Bool.{lt-ltb, le-ltb, eq-eqb, cases_lt}
use Rattle.kern_lexer.specs.Margins.{unmarked, closed_down_to, top_of, margin}
use Rattle.kern_lexer.specs.declared.token.TokenKind.TheVariants as T

-- the widths that are open within a block at a level, the last first
abbrev pub widths_at : (level : ℕ) → List ℕ
widths_at zero = []
widths_at (suc level) = (4 * suc level) ∷ widths_at level

widths-length : (level : ℕ) → length (widths_at level) ≡ level
widths-length zero = refl
widths-length (suc level) = ap suc (widths-length level)

widths-top : (level : ℕ) → top_of (widths_at level) ≡ 4 * level
widths-top zero = refl
widths-top (suc level) = refl

-- widths that aren't above this one stay open
closed-none : (level width : ℕ) → 4 * level ≤ width → closed_down_to width (widths_at level) ≡ widths_at level
closed-none zero width high = refl
closed-none (suc level) width high =
    let kept : nat_lt width (4 * suc level) ≡ false = le-ltb width (4 * suc level) high in
    rw kept refl

-- those above a lower level are closed
closed-lower : (level lower : ℕ) → lower ≤ level → closed_down_to (4 * lower) (widths_at level) ≡ widths_at lower
closed-lower zero lower below =
    let none : lower ≡ 0 = omega arith in rw none refl
closed-lower (suc level) lower below = by_case (cases_lt lower (suc level)) (closed-lower level lower)
  where
    by_case : (lower < suc level) ⊎ (suc level ≤ lower) → (lower ≤ level → closed_down_to (4 * lower) (widths_at level) ≡ widths_at lower)
        → closed_down_to (4 * lower) (widths_at (suc level)) ≡ widths_at lower
    by_case (inl under) others =
        let closes : nat_lt (4 * lower) (4 * suc level) ≡ true = lt-ltb (4 * lower) (4 * suc level) (omega arith) in
        rw closes (others (omega arith))
    by_case (inr over) others =
        let same : lower ≡ suc level = omega arith in
        subst (λ l. closed_down_to (4 * l) (widths_at (suc level)) ≡ widths_at l) (sym same) (closed-none (suc level) (4 * suc level) (omega arith))

-- a line of a level that isn't deeper closes those between
pub margin-lower : (level lower : ℕ) → lower ≤ level
    → margin (widths_at level) (4 * lower) ≡ Some (record { marks = replicate (level - lower) T.Dedent; widths = widths_at lower })
margin-lower level lower below =
    let no_deeper : nat_lt (top_of (widths_at level)) (4 * lower) ≡ false =
    le-ltb (top_of (widths_at level)) (4 * lower) (omega (arith, widths-top level)) in
    let kept : closed_down_to (4 * lower) (widths_at level) ≡ widths_at lower = closed-lower level lower below in
    let open_there : nat_eq (top_of (widths_at lower)) (4 * lower) ≡ true = eq-eqb (top_of (widths_at lower)) (4 * lower) (widths-top lower) in
    let count : length (widths_at level) - length (widths_at lower) ≡ level - lower = omega (arith, widths-length level, widths-length lower) in
    rw (no_deeper, kept, open_there, count) refl

-- a line that is one level deeper opens one
pub margin-deeper : (level : ℕ)
    → margin (widths_at level) (4 * suc level) ≡ Some (record { marks = T.Indent ∷ []; widths = widths_at (suc level) })
margin-deeper level =
    let deeper : nat_lt (top_of (widths_at level)) (4 * suc level) ≡ true =
    lt-ltb (top_of (widths_at level)) (4 * suc level) (omega (arith, widths-top level)) in
    rw deeper refl

-- a line of the same level makes no mark
pub margin-same : (level : ℕ) → margin (widths_at level) (4 * level) ≡ Some (unmarked (widths_at level))
margin-same level =
    let none : level - level ≡ 0 = omega arith in
    margin-lower level level (omega arith) ∙ ap (λ n. Some (record { marks = replicate n T.Dedent; widths = widths_at level })) none
