-- Stated a second time for the proof's sake: the leading spaces of a line against the
-- widths that are open, as the code compares them. What a text has is said in Answers.antt.
use Rattle.std.specs.Prelude.{ℕ, ◌-◌, List, [], ◌∷◌, ◌==◌, nat_lt, Option, Some, None, length, replicate, if◌then◌else◌}
use Rattle.std.specs.List.{prefix_len}
use Rattle.kern_lexer.specs.Bytes.{Bytes, space}
use Rattle.kern_lexer.specs.declared.token.TokenKind.{TokenKind}
use Rattle.kern_lexer.specs.declared.token.TokenKind.TheVariants as T

-- the marks that a line's margin makes, and the widths that are open behind it, the last first
pub record Margin : Type 0 where
  pub marks : List TokenKind
  pub widths : List ℕ

-- no marks, and the widths as they were
abbrev pub unmarked : List ℕ → Margin
unmarked widths = record { marks = []; widths = widths }

-- how many spaces a line begins with
abbrev pub leading_spaces : Bytes → ℕ
leading_spaces line = prefix_len (λ b. b == space) line

-- the widths left where those above this one are closed
abbrev pub closed_down_to : ℕ → List ℕ → List ℕ
closed_down_to width [] = []
closed_down_to width (w ∷ widths) =
    let lower = closed_down_to width widths in
    if nat_lt width w then lower else w ∷ widths

-- the last of the widths, below which lies 0
abbrev pub top_of : List ℕ → ℕ
top_of [] = 0
top_of (w ∷ widths) = w

-- a width above the last is opened, a width that is open closes those above it, and any other is wrong
abbrev pub margin : List ℕ → ℕ → Option Margin
margin widths width =
    let kept = closed_down_to width widths in
    if nat_lt (top_of widths) width
    then Some (record { marks = T.Indent ∷ []; widths = width ∷ widths })
    else if top_of kept == width
    then Some (record { marks = replicate (length widths - length kept) T.Dedent; widths = kept })
    else None
