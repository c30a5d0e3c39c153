-- The bytes of lines: where they end, and their leading spaces.
use Rattle.std.proofs.Common.{◌≡◌, ℕ, zero, suc, ◌*◌, ◌∙◌, true, false, not, ◌&&◌, List, [], ◌∷◌, ◌++◌, drop, length, ap, refl, arith, nat_eq, append_assoc}
use Rattle.std.specs.List.{prefix_len}
use Rattle.std.specs.Prelude.{codes}
use Rattle.std.proofs.lemmas.Bool.{and_parts, not-true}
use Rattle.std.proofs.lemmas.List.{drop_at, take_all}
use Rattle.kern_lexer.specs.Bytes.{Bytes, line_feed, carriage_return, number_sign}
use Rattle.kern_lexer.specs.Lines.{lines_of, without_return, without_comment}
use Rattle.kern_lexer.specs.Margins.{leading_spaces}
use Rattle.kern_lexer.specs.Symbols.{Symbol}
use Rattle.kern_syntax.specs.Print.{indent, line_text}
use Rattle.kern_canonical.proofs.Beginnings.{begins_operand}
use Rattle.kern_canonical.proofs.Plain.{is_plain, are_plain, plain-append}
use Rattle.kern_canonical.proofs.Words.{Words, space-then}

-- what a plain byte is not
record Apart (b : ℕ) : Type 0 where
  no_feed : nat_eq b line_feed ≡ false
  no_return : nat_eq b carriage_return ≡ false
  no_comment : nat_eq b number_sign ≡ false

first-apart : (b : ℕ) (rest : Bytes) → are_plain (b ∷ rest) ≡ true → Apart b
first-apart b rest plain =
    let first = (and_parts (is_plain b) (are_plain rest) plain).0 in
    let both = and_parts (not (nat_eq b line_feed) && not (nat_eq b carriage_return)) (not (nat_eq b number_sign)) first in
    let front = and_parts (not (nat_eq b line_feed)) (not (nat_eq b carriage_return)) both.0 in
    record { no_feed = not-true _ front.0; no_return = not-true _ front.1; no_comment = not-true _ both.1 }

others-plain : (b : ℕ) (rest : Bytes) → are_plain (b ∷ rest) ≡ true → are_plain rest ≡ true
others-plain b rest plain = (and_parts (is_plain b) (are_plain rest) plain).1

-- a plain text and a line feed are the first line
lines-first : (first rest : Bytes) → are_plain first ≡ true → lines_of (first ++ 10 ∷ rest) ≡ first ∷ lines_of rest
lines-first [] rest plain = refl
lines-first (b ∷ more) rest plain =
    let no_feed : nat_eq b 10 ≡ false = (first-apart b more plain).no_feed in
    let others : lines_of (more ++ 10 ∷ rest) ≡ more ∷ lines_of rest = lines-first more rest (others-plain b more plain) in
    rw (no_feed, others) refl

-- it has no carriage return at its end
pub return-none : (line : Bytes) → are_plain line ≡ true → without_return line ≡ line
return-none [] plain = refl
return-none (b ∷ []) plain = let no_return : nat_eq b 13 ≡ false = (first-apart b [] plain).no_return in rw no_return refl
return-none (b ∷ c ∷ rest) plain = ap (λ bytes. b ∷ bytes) (return-none (c ∷ rest) (others-plain b (c ∷ rest) plain))

-- nor a comment
comment-place : (line : Bytes) → are_plain line ≡ true → prefix_len (λ b. not (nat_eq b 35)) line ≡ length line
comment-place [] plain = refl
comment-place (b ∷ rest) plain =
    let no_comment : nat_eq b 35 ≡ false = (first-apart b rest plain).no_comment in
    let others : prefix_len (λ b. not (nat_eq b 35)) rest ≡ length rest = comment-place rest (others-plain b rest plain) in
    rw (no_comment, others) (omega arith)

pub comment-none : (line : Bytes) → are_plain line ≡ true → without_comment line ≡ line
comment-none line plain =
    take_all (prefix_len (λ b. not (nat_eq b 35)) line) line (omega (arith, comment-place line plain))

-- leading spaces are plain, and make no token
indent-plain : (level : ℕ) → are_plain (indent level) ≡ true
indent-plain zero = refl
indent-plain (suc level) = indent-plain level

pub indented-plain : (level : ℕ) (code : Bytes) → are_plain code ≡ true → are_plain (indent level ++ code) ≡ true
indented-plain level code plain = plain-append (indent level) code (indent-plain level) plain

pub indent-then : (level : ℕ) (code : Bytes) (symbols : List Symbol) → Words code symbols → Words (indent level ++ code) symbols
indent-then zero code symbols w = w
indent-then (suc level) code symbols w =
    space-then _ symbols (space-then _ symbols (space-then _ symbols (space-then _ symbols (indent-then level code symbols w))))

-- the first line of a text that begins with a line of a level
pub lines-indented : (level : ℕ) (code rest : Bytes) → are_plain code ≡ true
    → lines_of (line_text level code ++ rest) ≡ (indent level ++ code) ∷ lines_of rest
lines-indented level code rest plain =
    ap lines_of (append_assoc (indent level ++ code) (codes "\n") rest) ∙ lines-first (indent level ++ code) rest (indented-plain level code plain)

-- its width
no-width : (code : Bytes) → begins_operand code ≡ true → leading_spaces code ≡ 0
no-width [] begins = absurd cc
no-width (b ∷ rest) begins =
    let no_space : nat_eq b 32 ≡ false = grind arith in rw no_space refl

pub indent-width : (level : ℕ) (code : Bytes) → begins_operand code ≡ true → leading_spaces (indent level ++ code) ≡ 4 * level
indent-width zero code begins = no-width code begins
indent-width (suc level) code begins = omega (arith, indent-width level code begins)

indent-length : (level : ℕ) → length (indent level) ≡ 4 * level
indent-length zero = refl
indent-length (suc level) = omega (arith, indent-length level)

pub indent-dropped : (level : ℕ) (code : Bytes) → drop (4 * level) (indent level ++ code) ≡ code
indent-dropped level code = drop_at (indent level) code (4 * level) (indent-length level)
