-- Lemmas on the lines of a text.
use Rattle.std.proofs.Common.{◌≡◌, ℕ, suc, ◌+◌, ◌-◌, ◌<◌, ◌≤◌, ◌∙◌, Bool, true, false, cond, List, [], ◌∷◌, ◌++◌, drop, take, length, Some, None, Result, Ok, Err, ap, refl, sym, arith, append_assoc, nat_eq, nat_lt, length-drop, length-take}
use Rattle.std.specs.List.{slice_split, onto_first, position, position_or_len}
use Rattle.std.proofs.lemmas.Bool.{ltb-true, ltb-false}
use Rattle.std.proofs.lemmas.List.{take_rest}
use Rattle.std.proofs.lemmas.List.Splits.{slice_split_first, length-slice_split}
use Rattle.kern_lexer.specs.Bytes.{Bytes}
use Rattle.kern_lexer.specs.Faults.{LexFault, ◌>>=◌}
use Rattle.kern_lexer.specs.Lines.{lines_of, without_return, without_comment}
use Rattle.kern_lexer.specs.Steps.{EndsReading, line_after, text_after}
use Rattle.kern_lexer.specs.Tokens.{Left, LineTokens, ended_line, last_line, end_tokens, tokens_from}
use Rattle.kern_lexer.specs.declared.fault.LexEnd.{LexEnd}
use Rattle.kern_lexer.specs.declared.fault.LexEnd.TheVariants.{Fault, Memory}
use Rattle.kern_lexer.specs.declared.token.Token.{Token}
use Rattle.kern_lexer.proofs.WordLemmas.{end-same}

-- a line without its carriage return is no longer
pub return-shorter : (line : Bytes) → length (without_return line) ≤ length line
return-shorter [] = omega arith
return-shorter (b ∷ []) = at_last (nat_eq b 13)
  where
    at_last : (t : Bool) → length (cond t [] (b ∷ [])) ≤ 1
    at_last true = omega arith
    at_last false = omega arith
return-shorter (b ∷ c ∷ rest) = omega (arith, return-shorter (c ∷ rest))

-- nor without its comment
pub comment-shorter : (line : Bytes) → length (without_comment line) ≤ length line
comment-shorter line = omega (arith, length-take (position_or_len (λ b. nat_eq b 35) line) line)

-- the place that is found
pub place-found : (p : ℕ → Bool) (bytes : Bytes) (place : ℕ) → position p bytes ≡ Some place
    → (position_or_len p bytes ≡ place) × (place < length bytes)
place-found p bytes place found = found_at (nat_lt (position_or_len p bytes) (length bytes)) refl
  where
    found_at : (t : Bool) → nat_lt (position_or_len p bytes) (length bytes) ≡ t
        → (position_or_len p bytes ≡ place) × (place < length bytes)
    found_at true e = let is : position p bytes ≡ Some (position_or_len p bytes) = rw e refl in let same : position_or_len p bytes ≡ place = cc in (same, omega (arith, same, ltb-true _ _ e))
    found_at false e = absurd (let is : position p bytes ≡ None = rw e refl in cc)

-- where none is found
pub place-none : (p : ℕ → Bool) (bytes : Bytes) → position p bytes ≡ None
    → length bytes ≤ position_or_len p bytes
place-none p bytes none = found_at (nat_lt (position_or_len p bytes) (length bytes)) refl
  where
    found_at : (t : Bool) → nat_lt (position_or_len p bytes) (length bytes) ≡ t
        → length bytes ≤ position_or_len p bytes
    found_at true e = absurd (let is : position p bytes ≡ Some (position_or_len p bytes) = rw e refl in cc)
    found_at false e = omega (arith, ltb-false _ _ e)

-- the first line and those that follow
pub lines-first : (bytes : Bytes) (place : ℕ) → position (λ b. nat_eq b 10) bytes ≡ Some place
    → lines_of bytes ≡ take place bytes ∷ lines_of (drop (place + 1) bytes)
lines-first bytes place found =
    let is = place-found (λ b. nat_eq b 10) bytes place found in
    let within : position_or_len (λ b. nat_eq b 10) bytes < length bytes = omega (arith, is.0, is.1) in
    slice_split_first (λ b. nat_eq b 10) bytes 0 within
    ∙ ap (λ n. take n bytes ∷ lines_of (drop (n + 1) bytes)) is.0

-- the only line
split-none : (p : ℕ → Bool) (bytes : Bytes) → length bytes ≤ position_or_len p bytes
    → slice_split p bytes ≡ bytes ∷ []
split-none p [] none = refl
split-none p (b ∷ rest) none = at_head (p b) refl (split-none p rest)
  where
    at_head : (t : Bool) → p b ≡ t → (length rest ≤ position_or_len p rest → slice_split p rest ≡ rest ∷ [])
        → slice_split p (b ∷ rest) ≡ (b ∷ rest) ∷ []
    at_head true e later = absurd (let zero_is : position_or_len p (b ∷ rest) ≡ 0 = rw e refl in omega (arith, zero_is, none))
    at_head false e later =
        let more : position_or_len p (b ∷ rest) ≡ 1 + position_or_len p rest = rw e refl in
        let split : slice_split p (b ∷ rest) ≡ onto_first b (slice_split p rest) = rw e refl in
        split ∙ ap (onto_first b) (later (omega (arith, more, none)))

pub lines-only : (bytes : Bytes) → position (λ b. nat_eq b 10) bytes ≡ None → lines_of bytes ≡ bytes ∷ []
lines-only bytes none = split-none (λ b. nat_eq b 10) bytes (place-none (λ b. nat_eq b 10) bytes none)

-- a text has a line
pub lines-some : (bytes : Bytes) → 0 < length (lines_of bytes)
lines-some bytes = omega (arith, length-slice_split (λ b. nat_eq b 10) bytes)

-- the tokens of a line that others follow, and of those
pub tokens_from-first : (left : Left) (line at : ℕ) (first : Bytes) (lines : List Bytes) → 0 < length lines
    → tokens_from left line at (first ∷ lines) ≡ ended_line left line at first >>= (λ found. tokens_from found.left (suc line) (suc (at + length first)) lines >>= (λ others. Ok (found.tokens ++ others)))
tokens_from-first left line at first [] some = absurd (omega arith)
tokens_from-first left line at first (next ∷ rest) some = refl

-- the tokens so far, those of a line, and those that follow it
after-line : (tokens now : List Token) (found : Result LineTokens LexFault) (next : Left) (more : Left → Result (List Token) LexFault)
    → line_after tokens found ≡ Ok (record { tokens = now; left = next })
    → text_after tokens (found >>= (λ found. more found.left >>= (λ others. Ok (found.tokens ++ others)))) ≡ text_after now (more next)
after-line tokens now (Err fault) next more is = absurd cc
after-line tokens now (Ok found) next more is =
    let same : record {
      tokens =
          tokens ++ found.tokens;
      left = found.left;
    } ≡ record { tokens = now; left = next } = cc in
    let is_now : tokens ++ found.tokens ≡ now = ap (λ (l : LineTokens). l.tokens) same in
    let is_next : found.left ≡ next = ap (λ (l : LineTokens). l.left) same in
    joined (more found.left) ∙ ap (λ ts. text_after ts (more found.left)) is_now
    ∙ ap (λ l. text_after now (more l)) is_next
  where
    joined : (following : Result (List Token) LexFault)
        → text_after tokens (following >>= (λ others. Ok (found.tokens ++ others))) ≡ text_after (tokens ++ found.tokens) following
    joined (Err fault) = refl
    joined (Ok others) = ap Ok (sym (append_assoc tokens found.tokens others))

after-fault : (tokens : List Token) (found : Result LineTokens LexFault) (more : LineTokens → Result (List Token) LexFault) (end : LexEnd)
    → EndsReading end (line_after tokens found) → EndsReading end (text_after tokens (found >>= more))
after-fault tokens found more Memory is = tt
after-fault tokens (Ok found) more (Fault place kind) is = absurd cc
after-fault tokens (Err fault) more (Fault place kind) is =
    let same : fault ≡ record { at = place; kind = kind } = cc in ap Err same

-- a line that a line feed ends is read
pub text-goes_on : (tokens now : List Token) (left next : Left) (line at place : ℕ) (rest : Bytes)
    → position (λ b. nat_eq b 10) rest ≡ Some place
    → line_after tokens (ended_line left line at (take place rest)) ≡ Ok (record { tokens = now; left = next })
    → text_after now (tokens_from next (line + 1) (at + (place + 1)) (lines_of (drop (place + 1) rest))) ≡ text_after tokens (tokens_from left line at (lines_of rest))
text-goes_on tokens now left next line at place rest found is =
    let inside : place < length rest = (place-found (λ b. nat_eq b 10) rest place found).1 in
    let long : length (take place rest) ≡ place = omega (arith, length-take place rest) in
    let number : line + 1 ≡ suc line = omega arith in
    let there : at + (place + 1) ≡ suc (at + length (take place rest)) = omega (arith, long) in
    let more : List Bytes = lines_of (drop (place + 1) rest) in
    ap (λ n. text_after now (tokens_from next n (at + (place + 1)) more)) number
    ∙ ap (λ n. text_after now (tokens_from next (suc line) n more)) there
    ∙ sym (after-line tokens now (ended_line left line at (take place rest)) next (λ l. tokens_from l (suc line) (suc (at + length (take place rest))) more) is)
    ∙ sym (ap (text_after tokens) (tokens_from-first left line at (take place rest) more (lines-some (drop (place + 1) rest))))
    ∙ sym (ap (λ ls. text_after tokens (tokens_from left line at ls)) (lines-first rest place found))

-- a fault in a line that a line feed ends
pub text-faults : (tokens : List Token) (left : Left) (line at place : ℕ) (rest : Bytes) (end : LexEnd)
    → position (λ b. nat_eq b 10) rest ≡ Some place
    → EndsReading end (line_after tokens (ended_line left line at (take place rest))) → EndsReading end (text_after tokens (tokens_from left line at (lines_of rest)))
text-faults tokens left line at place rest end found is =
    let more : List Bytes = lines_of (drop (place + 1) rest) in
    let lines : text_after tokens (tokens_from left line at (lines_of rest)) ≡ text_after tokens (tokens_from left line at (take place rest ∷ more)) =
    ap (λ ls. text_after tokens (tokens_from left line at ls)) (lines-first rest place found) in
    let first : text_after tokens (tokens_from left line at (take place rest ∷ more)) ≡ _ =
    ap (text_after tokens) (tokens_from-first left line at (take place rest) more (lines-some (drop (place + 1) rest))) in
    end-same end (sym (lines ∙ first)) (after-fault tokens (ended_line left line at (take place rest)) _ end is)

-- the last line is read
pub text-ends : (tokens now all : List Token) (left next : Left) (line at : ℕ) (rest : Bytes)
    → position (λ b. nat_eq b 10) rest ≡ None
    → line_after tokens (last_line left line at rest) ≡ Ok (record { tokens = now; left = next })
    → all ≡ now ++ end_tokens next line (at + length rest)
    → text_after tokens (tokens_from left line at (lines_of rest)) ≡ Ok all
text-ends tokens now all left next line at rest none is ended =
    ap (λ ls. text_after tokens (tokens_from left line at ls)) (lines-only rest none)
    ∙ after-line tokens now (last_line left line at rest) next (λ l. Ok (end_tokens l line (at + length rest))) is
    ∙ ap Ok (sym ended)

-- a fault in the last line
pub text-last_faults : (tokens : List Token) (left : Left) (line at : ℕ) (rest : Bytes) (end : LexEnd)
    → position (λ b. nat_eq b 10) rest ≡ None
    → EndsReading end (line_after tokens (last_line left line at rest)) → EndsReading end (text_after tokens (tokens_from left line at (lines_of rest)))
text-last_faults tokens left line at rest end none is =
    end-same end (sym (ap (λ ls. text_after tokens (tokens_from left line at ls)) (lines-only rest none)))
    (after-fault tokens (last_line left line at rest) (λ found. Ok (found.tokens ++ end_tokens found.left line (at + length rest))) end is)

-- no tokens before
pub text_after-none : (following : Result (List Token) LexFault) → text_after [] following ≡ following
text_after-none (Err fault) = refl
text_after-none (Ok tokens) = refl

-- behind a line the text ends where it ended
pub place-stays : (at place whole : ℕ) (rest : Bytes) → place < length rest → at + length rest ≡ whole
    → at + (place + 1) + length (take (length rest - (place + 1)) (drop (place + 1) rest)) ≡ whole
place-stays at place whole rest inside is =
    omega (arith, ap length (take_rest rest (place + 1)), length-drop (place + 1) rest)
