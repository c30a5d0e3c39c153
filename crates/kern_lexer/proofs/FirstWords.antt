-- What is read of a line from its first word on, where no bracket is open, and so of every line.
use Rattle.std.proofs.Common.{◌≡◌, ℕ, ◌+◌, ◌<◌, ◌≤◌, ◌∙◌, ◌++◌, Bool, true, false, List, [], ◌∷◌, length, take, drop, replicate, ap, refl, sym, subst, arith, append_assoc, length-append, length-drop, length-take-le, nat_eq, Result, Ok, Err, zero, suc}
use Rattle.std.specs.List.{list_all, list_any}
use Rattle.std.proofs.lemmas.Bool.{eq-eqb}
use Rattle.std.proofs.lemmas.List.{length-replicate}
use Rattle.kern_lexer.specs.Brackets.{open_after}
use Rattle.kern_lexer.specs.Bytes.{Bytes, space}
use Rattle.kern_lexer.specs.Faults.{LexFault, ◌>>=◌, placed}
use Rattle.kern_lexer.specs.Fronts.{Fronted, front_of, is_token_front}
use Rattle.kern_lexer.specs.Layouts.{place_behind, line_behind, brackets_behind, this_line, is_first_word, width_behind, width_made, widths_of, has_right_width, is_right_width}
use Rattle.kern_lexer.specs.Made.{tokens_made, marks_of_width}
use Rattle.kern_lexer.specs.Margins.{Margin, unmarked, leading_spaces}
use Rattle.kern_lexer.specs.Pieces.{Piece, blank, word, bytes_of_pieces, is_blank, is_word}
use Rattle.kern_lexer.specs.Steps.{text_after}
use Rattle.kern_lexer.specs.Tokens.{line_tokens, margin_of, margin_or_fault, marks_at}
use Rattle.kern_lexer.specs.Words.{words_from}
use Rattle.kern_lexer.specs.Wrong.{IsWrong}
use Rattle.kern_lexer.specs.declared.fault.LexKind.{LexKind}
use Rattle.kern_lexer.specs.declared.fault.LexKind.TheVariants as F
use Rattle.kern_lexer.specs.declared.front.Front.{Front}
use Rattle.kern_lexer.specs.declared.front.Front.TheVariants as R
use Rattle.kern_lexer.specs.declared.layout.Bracket.{Bracket}
use Rattle.kern_lexer.specs.declared.token.Token.{Token}
use Rattle.kern_lexer.specs.declared.token.TokenKind.{TokenKind}
use Rattle.kern_lexer.proofs.FirstReads.{margin_then, margin_here, margin-here, line-parts, IsSpaceless, spaces-of, read_first, margin-first, right-first, read-nothing, read-within}
use Rattle.kern_lexer.proofs.FrontLemmas.{IsWithin, front-is_within}
use Rattle.kern_lexer.proofs.LayoutLemmas.{place-more, widths-more}
use Rattle.kern_lexer.proofs.LineCuts.{IsClean, clean-drop}
use Rattle.kern_lexer.proofs.LineReads.{Next, line_rest, left_behind, rest_behind, IsReadAfter, text_after-append, rest-token, rest-word, read-same, read-word, wrong-front, code-read, ends-more}
use Rattle.kern_lexer.proofs.QuietLemmas.{has_word, quiet-all, place-all, read-quiet, word-second, word-line, blanks-quiet, blanks-stand, blanks-all, blanks-line}
use Rattle.kern_lexer.proofs.Reached.{IsReadBehind, read-wrong}
use Rattle.kern_lexer.proofs.StopLemmas.{Stops, FrontFact, front-fact, front-stops}
use Rattle.kern_lexer.proofs.WidthLemmas.{stack_of, margin-right, margin-wrong}
use Rattle.kern_lexer.proofs.WordLemmas.{words_from-front, words_from-fault}

-- the words behind some pieces
abbrev words_behind : List Piece → Bytes → Result (List Token) LexFault
words_behind before code = words_from (line_behind before) (place_behind before) 0 code

-- what a margin gives of a line, with its first word
abbrev by_margin : List Piece → Token → Next → Bytes → Result Margin LexFault → Result (List Token) LexFault
by_margin before newline next code found =
    margin_then newline next (brackets_behind before) (line_behind before) (place_behind before) found (words_behind before code)

-- the margin that is right behind some pieces
abbrev right_margin : List Piece → Margin
right_margin before = record {
  marks = marks_of_width (widths_of before) (width_behind before);
  widths = stack_of (widths_of before ++ width_behind before ∷ []);
}

-- a line's first byte, behind its spaces
record FirstByte (before : List Piece) (b : ℕ) (code stop : Bytes) : Type 0 where
  outside : brackets_behind before ≡ []
  first : is_first_word before ≡ true
  other : nat_eq b space ≡ false
  stops : Stops stop
  clean : IsClean (b ∷ code) stop

-- a token at a wrong width
wrong-width : (before : List Piece) (b : ℕ) (code stop : Bytes) (newline : Token) (next : Next) (front : Fronted)
    → FirstByte before b code stop → front_of (b ∷ code) ≡ front → is_token_front front ≡ true
    → is_right_width (widths_of before) (width_behind before) ≡ false
    → IsReadBehind before (b ∷ code ++ stop) (read_first before newline next (b ∷ code))
wrong-width before b code stop newline next front at is begins wrong =
    let found : margin_here (brackets_behind before) (stack_of (widths_of before)) (width_behind before) (place_behind before) (b ∷ code) ≡ Err (record { at = place_behind before; kind = F.Indent }) =
    margin-first before (b ∷ code) true at.outside (ap is_token_front is ∙ begins)
    ∙ ap (margin_or_fault (place_behind before)) (margin-wrong (widths_of before) (width_behind before) wrong) in
    let not_right : has_right_width before ≡ false = right-first before false at.first wrong in
    read-same before refl (sym (ap (by_margin before newline next (b ∷ code)) found))
    (read-wrong before (b ∷ code ++ stop) F.Indent (ap is_token_front (front-stops b code stop at.stops ∙ is) ∙ begins, rw not_right refl))

-- a wrong front that is no token
wrong-byte : (before : List Piece) (b : ℕ) (code stop : Bytes) (newline : Token) (next : Next) (kind : LexKind)
    → FirstByte before b code stop → front_of (b ∷ code) ≡ Err kind → is_token_front (Err kind) ≡ false
    → IsWrong kind before (b ∷ code ++ stop)
    → IsReadBehind before (b ∷ code ++ stop) (read_first before newline next (b ∷ code))
wrong-byte before b code stop newline next kind at is begins wrong =
    let found : margin_here (brackets_behind before) (stack_of (widths_of before)) (width_behind before) (place_behind before) (b ∷ code) ≡ Ok (unmarked (stack_of (widths_of before))) =
    margin-first before (b ∷ code) false at.outside (ap is_token_front is ∙ begins) in
    let words : words_behind before (b ∷ code) ≡ Err (record { at = place_behind before; kind = kind }) =
    words_from-fault (line_behind before) (place_behind before) (b ∷ code) (record { at = place_behind before; kind = kind }) (omega arith) (ap (placed {A = Front} (place_behind before)) is) in
    read-same before refl (sym (ap (by_margin before newline next (b ∷ code)) found ∙ ap (margin_then newline next (brackets_behind before) (line_behind before) (place_behind before) (Ok (unmarked (stack_of (widths_of before))))) words))
    (read-wrong before (b ∷ code ++ stop) kind wrong)

-- a wrong number, text or name at a right width
wrong-token : (before : List Piece) (b : ℕ) (code stop : Bytes) (newline : Token) (next : Next) (kind : LexKind)
    → FirstByte before b code stop → front_of (b ∷ code) ≡ Err kind → is_token_front (Err kind) ≡ true
    → is_right_width (widths_of before) (width_behind before) ≡ true
    → IsReadBehind before (b ∷ code ++ stop) (read_first before newline next (b ∷ code))
wrong-token before b code stop newline next kind at is begins right =
    let found : margin_here (brackets_behind before) (stack_of (widths_of before)) (width_behind before) (place_behind before) (b ∷ code) ≡ Ok (right_margin before) =
    margin-first before (b ∷ code) true at.outside (ap is_token_front is ∙ begins)
    ∙ ap (margin_or_fault (place_behind before)) (margin-right (widths_of before) (width_behind before) right) in
    let words : words_behind before (b ∷ code) ≡ Err (record { at = place_behind before; kind = kind }) =
    words_from-fault (line_behind before) (place_behind before) (b ∷ code) (record { at = place_behind before; kind = kind }) (omega arith) (ap (placed {A = Front} (place_behind before)) is) in
    read-same before refl (sym (ap (by_margin before newline next (b ∷ code)) found ∙ ap (margin_then newline next (brackets_behind before) (line_behind before) (place_behind before) (Ok (right_margin before))) words))
    (read-wrong before (b ∷ code ++ stop) kind (wrong-front before b (code ++ stop) kind (front-stops b code stop at.stops ∙ is) (right-first before true at.first right) (at.clean).0))

-- the tokens of a first word
first-made : (before : List Piece) (code : Bytes) (kind : TokenKind) (len : ℕ) → is_first_word before ≡ true → len ≤ length code
    → marks_at (line_behind before) (place_behind before) (marks_of_width (widths_of before) (width_behind before)) ++ record { kind = kind; at = place_behind before; len = len; line = line_behind before } ∷ []
    ≡ tokens_made before (word kind (take len code))
first-made before code kind len first fits = rw (first, length-take-le len code fits) refl

-- a first word at a right width
right-word : (before : List Piece) (b : ℕ) (code stop : Bytes) (newline : Token) (next : Next) (kind : TokenKind) (len : ℕ)
    → FirstByte before b code stop → front_of (b ∷ code) ≡ Ok (R.Token kind len)
    → is_right_width (widths_of before) (width_behind before) ≡ true → IsReadAfter before (b ∷ code) stop newline next
    → IsReadBehind before (b ∷ code ++ stop) (read_first before newline next (b ∷ code))
right-word before b code stop newline next kind len at is right later =
    let whole : Bytes = b ∷ code in
    let some : 0 < length whole = omega arith in
    let fits : IsWithin (length whole) (R.Token kind len) = front-is_within whole (R.Token kind len) some is in
    let p : Piece = word kind (take len whole) in
    let t : Token = record { kind = kind; at = place_behind before; len = len; line = line_behind before } in
    let marks : List Token = marks_at (line_behind before) (place_behind before) (marks_of_width (widths_of before) (width_behind before)) in
    let widths : List ℕ = stack_of (widths_of before ++ width_behind before ∷ []) in
    let others : Result (List Token) LexFault = words_from (line_behind before) (place_behind before + len) 0 (drop len whole) in
    let rest : Result (List Token) LexFault = line_rest newline next widths (open_after (brackets_behind before) kind) true others in
    let found : margin_here (brackets_behind before) (stack_of (widths_of before)) (width_behind before) (place_behind before) whole ≡ Ok (right_margin before) =
    margin-first before whole true at.outside (ap is_token_front is)
    ∙ ap (margin_or_fault (place_behind before)) (margin-right (widths_of before) (width_behind before) right) in
    let own_width : width_made before p ≡ width_behind before ∷ [] = rw (at.first) refl in
    let open_ones : stack_of (widths_of (before ++ p ∷ [])) ≡ widths =
    ap stack_of (widths-more before p ∙ ap (λ ws. widths_of before ++ ws) own_width) in
    let read : read_first before newline next whole ≡ text_after (tokens_made before p) (rest_behind (before ++ p ∷ []) newline next (drop len whole)) =
    ap (by_margin before newline next whole) found
    ∙ ap (λ words. text_after marks (line_rest newline next widths (brackets_behind before) false words)) (words_from-front (line_behind before) (place_behind before) whole (R.Token kind len) some is)
    ∙ ap (text_after marks) (rest-token newline next widths (brackets_behind before) false t others)
    ∙ sym (text_after-append marks (t ∷ []) rest)
    ∙ ap (λ ts. text_after ts rest) (first-made before whole kind len at.first fits.within)
    ∙ ap (text_after (tokens_made before p)) (sym (rest-word before whole kind len newline next widths fits.within open_ones)) in
    let place : place_behind (before ++ p ∷ []) ≡ place_behind before + len =
    place-more before p ∙ ap (λ n. place_behind before + n) (length-take-le len whole fits.within) in
    let there : IsReadBehind (before ++ p ∷ []) (drop len whole ++ stop) (rest_behind (before ++ p ∷ []) newline next (drop len whole)) =
    code-read (length (drop len whole)) (before ++ p ∷ []) (drop len whole) stop newline next (omega arith) (word-second before kind (take len whole)) at.stops (clean-drop len whole stop at.clean)
    (λ after ends. later after (ends-more before p whole (drop len whole) len after (word-line before kind (take len whole)) place (omega (arith, length-drop len whole, fits.within)) ends)) in
    read-same before refl (sym read) (read-word before whole stop kind len _ (front-stops b code stop at.stops ∙ is) fits.within (right-first before true at.first right) there)

-- a line from its first byte behind the spaces on
read-outside : (before : List Piece) (b : ℕ) (code stop : Bytes) (newline : Token) (next : Next)
    → FirstByte before b code stop → IsReadAfter before (b ∷ code) stop newline next
    → IsReadBehind before (b ∷ code ++ stop) (read_first before newline next (b ∷ code))
read-outside before b code stop newline next at later =
    at_front (front_of (b ∷ code)) (is_right_width (widths_of before) (width_behind before)) refl refl
  where
    at_front : (r : Fronted) (t : Bool) → front_of (b ∷ code) ≡ r → is_right_width (widths_of before) (width_behind before) ≡ t
        → IsReadBehind before (b ∷ code ++ stop) (read_first before newline next (b ∷ code))
    at_front (Err F.Tab) t is width = wrong-byte before b code stop newline next F.Tab at is refl (front-stops b code stop at.stops ∙ is)
    at_front (Err F.Byte) t is width = wrong-byte before b code stop newline next F.Byte at is refl (front-stops b code stop at.stops ∙ is, rw ((at.clean).0) refl)
    at_front (Err F.Indent) t is width = absurd (subst (FrontFact b) is (front-fact b code))
    at_front (Ok R.Space) t is width = absurd (let same : nat_eq b space ≡ true = eq-eqb b space (subst (FrontFact b) is (front-fact b code)) in let other = at.other in cc)
    at_front (Err F.Number) true is width = wrong-token before b code stop newline next F.Number at is refl width
    at_front (Err F.Text) true is width = wrong-token before b code stop newline next F.Text at is refl width
    at_front (Err F.Name) true is width = wrong-token before b code stop newline next F.Name at is refl width
    at_front (Ok (R.Token kind len)) true is width = right-word before b code stop newline next kind len at is width later
    at_front (Err F.Number) false is width = wrong-width before b code stop newline next (Err F.Number) at is refl width
    at_front (Err F.Text) false is width = wrong-width before b code stop newline next (Err F.Text) at is refl width
    at_front (Err F.Name) false is width = wrong-width before b code stop newline next (Err F.Name) at is refl width
    at_front (Ok (R.Token kind len)) false is width = wrong-width before b code stop newline next (Ok (R.Token kind len)) at is refl width

-- a line behind its spaces
read-spaceless : (before : List Piece) (rest stop : Bytes) (newline : Token) (next : Next) → IsSpaceless rest
    → list_all is_blank (this_line before) ≡ true → has_word before ≡ false → Stops stop → IsClean rest stop
    → IsReadAfter before rest stop newline next → IsReadBehind before (rest ++ stop) (read_first before newline next rest)
read-spaceless before [] stop newline next other blanks no_word stops clean later =
    read-nothing before stop newline next no_word later
read-spaceless before (b ∷ code) stop newline next other blanks no_word stops clean later =
    by_brackets (brackets_behind before) refl
  where
    by_brackets : (bs : List Bracket) → brackets_behind before ≡ bs
        → IsReadBehind before (b ∷ code ++ stop) (read_first before newline next (b ∷ code))
    by_brackets [] is = read-outside before b code stop newline next (record { outside = is; first = rw (is, blanks) refl; other = other; stops = stops; clean = clean }) later
    by_brackets (c ∷ bs) is = read-within before (b ∷ code) stop newline next c bs is no_word stops clean later

blanks-long : (n : ℕ) → length (bytes_of_pieces (replicate n blank)) ≡ n
blanks-long zero = refl
blanks-long (suc n) = omega (arith, blanks-long n)

-- a whole line
pub line-read : (before : List Piece) (code stop : Bytes) (newline : Token) (next : Next) → this_line before ≡ [] → Stops stop
    → IsClean code stop → IsReadAfter before code stop newline next
    → IsReadBehind before (code ++ stop) (line_tokens (left_behind before) (line_behind before) (place_behind before) code newline >>= (λ found. text_after found.tokens (next found.left)))
line-read before code stop newline next new_line stops clean later =
    let n : ℕ = leading_spaces code in
    let rest : Bytes = drop n code in
    let blanks : List Piece = replicate n blank in
    let after : List Piece = before ++ blanks in
    let at : ℕ = place_behind before in
    let widths : List ℕ = stack_of (widths_of before) in
    let sp = spaces-of (line_behind before) at code in
    let same = quiet-all before blanks (blanks-quiet n) in
    let this : this_line after ≡ blanks = blanks-line n before ∙ ap (λ ps. ps ++ blanks) new_line in
    let place : place_behind after ≡ at + n = omega (arith, place-all before blanks, blanks-long n) in
    let width : width_behind after ≡ n = ap length this ∙ length-replicate n blank in
    let no_word : has_word after ≡ false = same.words ∙ ap (list_any is_word) new_line in
    let all_blank : list_all is_blank (this_line after) ≡ true = ap (list_all is_blank) this ∙ blanks-all n in
    let long : n + length rest ≡ length code =
    omega (arith, length-append (bytes_of_pieces blanks) rest, blanks-long n, ap length sp.whole) in
    let there : IsReadBehind after (rest ++ stop) (read_first after newline next rest) =
    read-spaceless after rest stop newline next sp.spaceless all_blank no_word stops (clean-drop n code stop clean)
    (λ x ends. later x (record { place = omega (arith, ends.place, place, long); line = ends.line ∙ same.line })) in
    let read : line_tokens (left_behind before) (line_behind before) at code newline >>= (λ found. text_after found.tokens (next found.left)) ≡ read_first after newline next rest =
    line-parts (left_behind before) (line_behind before) at code newline next (margin_of (brackets_behind before) widths at code) (words_from (line_behind before) at 0 code)
    ∙ ap (λ m. margin_then newline next (brackets_behind before) (line_behind before) (at + n) m (words_from (line_behind before) at 0 code)) (margin-here (brackets_behind before) widths at code)
    ∙ ap (margin_then newline next (brackets_behind before) (line_behind before) (at + n) (margin_here (brackets_behind before) widths n (at + n) rest)) sp.words
    ∙ ap (λ m. margin_then newline next (brackets_behind before) (line_behind before) m (margin_here (brackets_behind before) widths n m rest) (words_from (line_behind before) m 0 rest)) (sym place)
    ∙ ap (λ m. margin_then newline next (brackets_behind before) (line_behind before) (place_behind after) (margin_here (brackets_behind before) widths m (place_behind after) rest) (words_from (line_behind before) (place_behind after) 0 rest)) (sym width)
    ∙ ap (λ ws. margin_then newline next (brackets_behind before) (line_behind before) (place_behind after) (margin_here (brackets_behind before) (stack_of ws) (width_behind after) (place_behind after) rest) (words_from (line_behind before) (place_behind after) 0 rest)) (sym same.widths)
    ∙ ap (λ bs. margin_then newline next bs (line_behind before) (place_behind after) (margin_here bs (stack_of (widths_of after)) (width_behind after) (place_behind after) rest) (words_from (line_behind before) (place_behind after) 0 rest)) (sym same.brackets)
    ∙ ap (λ k. margin_then newline next (brackets_behind after) k (place_behind after) (margin_here (brackets_behind after) (stack_of (widths_of after)) (width_behind after) (place_behind after) rest) (words_from k (place_behind after) 0 rest)) (sym same.line) in
    let whole : bytes_of_pieces blanks ++ (rest ++ stop) ≡ code ++ stop =
    sym (append_assoc (bytes_of_pieces blanks) rest stop) ∙ ap (λ bytes. bytes ++ stop) sp.whole in
    read-same before whole (sym read) (read-quiet before blanks (rest ++ stop) (read_first after newline next rest) (blanks-quiet n) (blanks-stand n (rest ++ stop)) there)
