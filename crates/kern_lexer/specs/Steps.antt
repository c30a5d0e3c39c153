-- Stated a second time for the proof's sake: what a step of the code leaves,
-- the tokens so far and what is open. What a text has is said in Answers.antt.
use Rattle.std.specs.Prelude.{◌≡◌, ℕ, ◌+◌, List, ◌++◌, Result, Ok, Err, reverse}
use Rattle.kern_lexer.specs.Brackets.{open_behind}
use Rattle.kern_lexer.specs.Bytes.{Bytes}
use Rattle.kern_lexer.specs.Faults.{LexFault, ◌>>=◌, placed}
use Rattle.kern_lexer.specs.Fronts.{front_of, bytes_of}
use Rattle.kern_lexer.specs.Margins.{Margin, margin, leading_spaces}
use Rattle.kern_lexer.specs.Tokens.{Left, LineTokens, margin_of, margin_or_fault, marks_at}
use Rattle.kern_lexer.specs.Words.{tokens_at, words_from}
use Rattle.kern_lexer.specs.declared.fault.LexEnd.{LexEnd}
use Rattle.kern_lexer.specs.declared.fault.LexEnd.TheVariants.{Fault, Memory}
use Rattle.kern_lexer.specs.declared.layout.Bracket.{Bracket}
use Rattle.kern_lexer.specs.declared.layout.Layout.{Layout}
use Rattle.kern_lexer.specs.declared.token.Token.{Token}

-- what the code's layout leaves to the next line
abbrev pub left_of : Layout → Left
left_of layout = record { widths = reverse layout.widths.items; brackets = reverse layout.brackets.items }

-- how many bytes the front of a line's bytes takes, and what stands behind it
abbrev pub step_from : List Token → List Bracket → (line at : ℕ) → Bytes → Result (ℕ × (List Token × List Bracket)) LexFault
step_from tokens brackets line at rest = do
  front ← placed at (front_of rest)
  Ok (bytes_of front, (tokens ++ tokens_at line at front, open_behind brackets (tokens_at line at front)))

-- the tokens and the open brackets behind a line's words
abbrev pub words_after : List Token → List Bracket → Result (List Token) LexFault → Result (List Token × List Bracket) LexFault
words_after tokens brackets words = do
  own ← words
  Ok (tokens ++ own, open_behind brackets own)

-- the tokens and the open widths behind a margin
abbrev pub margin_after : List Token → (line at : ℕ) → Result Margin LexFault → Result (List Token × List ℕ) LexFault
margin_after tokens line at margin = do
  m ← margin
  Ok (tokens ++ marks_at line at m.marks, m.widths)

-- the tokens and the open brackets behind the words of a line's bytes from a place on
abbrev pub words_read : List Token → List Bracket → (line at : ℕ) → Bytes → Result (List Token × List Bracket) LexFault
words_read tokens brackets line at bytes = words_after tokens brackets (words_from line at 0 bytes)

-- the tokens and the open widths behind so many leading spaces
abbrev pub margin_marked : List Token → (widths : List ℕ) → (line at width : ℕ) → Result (List Token × List ℕ) LexFault
margin_marked tokens widths line at width = margin_after tokens line at (margin_or_fault at (margin widths width))

-- the tokens and the open widths behind a line's margin
abbrev pub margin_read : List Token → Left → (line at : ℕ) → Bytes → Result (List Token × List ℕ) LexFault
margin_read tokens left line at code = margin_after tokens line (at + leading_spaces code) (margin_of left.brackets left.widths at code)

-- a line's tokens behind those before it, and what the line leaves
abbrev pub line_after : List Token → Result LineTokens LexFault → Result LineTokens LexFault
line_after tokens line = do
  found ← line
  Ok (record { tokens = tokens ++ found.tokens; left = found.left })

-- the tokens of the lines that follow, behind those before them
abbrev pub text_after : List Token → Result (List Token) LexFault → Result (List Token) LexFault
text_after tokens following = do
  more ← following
  Ok (tokens ++ more)

-- an end is the fault that reading gives, or want of memory
abbrev pub EndsReading : {Y : Type 0} → LexEnd → Result Y LexFault → Type 0
EndsReading (Fault at kind) read = read ≡ Err (record { at = at; kind = kind })
EndsReading Memory read = Unit {0}
