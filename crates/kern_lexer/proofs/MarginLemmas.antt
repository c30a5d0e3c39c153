-- Lemmas on the open widths.
use Rattle.std.proofs.Common.{◌≡◌, ℕ, suc, ◌+◌, ◌-◌, ◌<◌, ◌≤◌, ◌∙◌, List, [], ◌∷◌, ◌++◌, length, replicate, reverse, Option, Some, Result, Ok, ap, refl, sym, arith, nat_eq, nat_lt, true, false, append_assoc, append-nil, drop, length-append}
use Rattle.std.specs.Option.{option_to_list}
use Rattle.std.proofs.lemmas.Bool.{lt-ltb}
use Rattle.std.proofs.lemmas.List.{reverse-append, replicate_more, map_push}
use Rattle.std.proofs.lemmas.List.Sums.{prefix_len-le-length}
use Rattle.kern_lexer.specs.Bytes.{Bytes}
use Rattle.kern_lexer.specs.Faults.{LexFault}
use Rattle.kern_lexer.specs.Fronts.{begins_token}
use Rattle.kern_lexer.specs.Margins.{Margin, closed_down_to, top_of, margin, unmarked, leading_spaces}
use Rattle.kern_lexer.specs.Tokens.{marks_at, margin_of, margin_or_fault}
use Rattle.kern_lexer.specs.Steps.{margin_after}
use Rattle.kern_lexer.specs.declared.layout.Bracket.{Bracket}
use Rattle.kern_lexer.specs.declared.token.Token.{Token}
use Rattle.kern_lexer.specs.declared.token.TokenKind.{TokenKind}
use Rattle.kern_lexer.specs.declared.token.TokenKind.TheVariants as T

-- a width above this one is closed
pub closes-last : (width last : ℕ) (widths : List ℕ) → width < last
    → closed_down_to width (reverse (widths ++ last ∷ [])) ≡ closed_down_to width (reverse widths)
closes-last width last widths above =
    let e : nat_lt width last ≡ true = lt-ltb width last above in
    rw (reverse-append widths (last ∷ [])) (rw e refl)

-- one more mark
pub marks-more : (line at n : ℕ) (kind : TokenKind)
    → marks_at line at (replicate n kind) ++ record { kind = kind; at = at; len = 0; line = line } ∷ [] ≡ marks_at line at (replicate (n + 1) kind)
marks-more line at n kind = sym (map_push _ (replicate n kind) kind)
    ∙ ap (marks_at line at) (replicate_more n kind)

-- a width is open where the last one is above something
pub top-open : (width : ℕ) (widths : List ℕ) → width < top_of (reverse widths) → 0 < length widths
top-open width [] above = absurd (omega arith)
top-open width (w ∷ widths) above = omega arith

-- the last width is closed by taking it off
pub closes-popped : (width last : ℕ) (was now : List ℕ) (popped : Option ℕ)
    → was ≡ now ++ option_to_list popped → popped ≡ Some last → width < top_of (reverse was)
    → (closed_down_to width (reverse now) ≡ closed_down_to width (reverse was)) × (length was ≡ length now + 1)
closes-popped width last was now popped items some above =
    let e : was ≡ now ++ last ∷ [] = items ∙ ap (λ p. now ++ option_to_list p) some in
    let top : top_of (reverse was) ≡ last = ap (λ ws. top_of (reverse ws)) e
    ∙ ap top_of (reverse-append now (last ∷ [])) in
    let below : width < last = omega (arith, top, above) in
    (sym (closes-last width last now below) ∙ ap (λ ws. closed_down_to width (reverse ws)) (sym e), ap length e ∙ length-append now (last ∷ []))

-- the mark of one more width that is closed
pub marks-one_more : (line at were left : ℕ) (before so_far now : List Token)
    → so_far ≡ before ++ marks_at line at (replicate (were - suc left) T.Dedent)
    → now ≡ so_far ++ record { kind = T.Dedent; at = at; len = 0; line = line } ∷ [] → suc left ≤ were
    → now ≡ before ++ marks_at line at (replicate (were - left) T.Dedent)
marks-one_more line at were left before so_far now marked pushed fewer =
    let n : (were - suc left) + 1 ≡ were - left = omega arith in
    pushed ∙ ap (λ ts. ts ++ record { kind = T.Dedent; at = at; len = 0; line = line } ∷ []) marked
    ∙ append_assoc before (marks_at line at (replicate (were - suc left) T.Dedent)) _
    ∙ ap (λ ts. before ++ ts) (marks-more line at (were - suc left) T.Dedent ∙ ap (λ k. marks_at line at (replicate k T.Dedent)) n)

-- a margin is asked of a line outside brackets that begins with a token
pub margin-asked : (brackets : List Bracket) (widths : List ℕ) (at : ℕ) (code : Bytes) → brackets ≡ []
    → begins_token (drop (leading_spaces code) code) ≡ true
    → margin_of brackets widths at code ≡ margin_or_fault (at + leading_spaces code) (margin widths (leading_spaces code))
margin-asked [] widths at code outside begins = rw begins refl
margin-asked (b ∷ more) widths at code outside begins = absurd cc

-- none is asked of a line without a token
pub margin-unasked : (brackets : List Bracket) (widths : List ℕ) (at : ℕ) (code : Bytes)
    → begins_token (drop (leading_spaces code) code) ≡ false
    → margin_of brackets widths at code ≡ Ok (unmarked widths)
margin-unasked [] widths at code begins = rw begins refl
margin-unasked (b ∷ more) widths at code begins = refl

-- nor within brackets
pub margin-within : (brackets : List Bracket) (widths : List ℕ) (at : ℕ) (code : Bytes) → 0 < length brackets
    → margin_of brackets widths at code ≡ Ok (unmarked widths)
margin-within [] widths at code inside = absurd (omega arith)
margin-within (b ∷ more) widths at code inside = refl

-- nothing is marked
pub after-unmarked : (tokens : List Token) (line at : ℕ) (widths : List ℕ) (margin : Result Margin LexFault)
    → margin ≡ Ok (unmarked widths) → margin_after tokens line at margin ≡ Ok (tokens, widths)
after-unmarked tokens line at widths margin is = rw is (ap (λ ts. Ok (ts, widths)) (append-nil tokens))

-- a line's spaces are within it
pub width_within : (code : Bytes) → leading_spaces code ≤ length code
width_within code = prefix_len-le-length (λ b. nat_eq b 32) code
