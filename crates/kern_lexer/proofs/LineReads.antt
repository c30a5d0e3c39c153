-- What is read of a line behind its first word is what its bytes have.
use Rattle.std.proofs.Common.{◌≡◌, ℕ, zero, suc, ◌+◌, ◌<◌, ◌≤◌, ◌∙◌, ◌++◌, ◌&&◌, ◌||◌, Bool, true, false, cond, List, [], ◌∷◌, length, take, drop, ap, refl, sym, subst, arith, append_assoc, append-nil, length-drop, length-take-le, take-append-drop, nat_eq, Result, Ok, Err}
use Rattle.kern_lexer.specs.Brackets.{open_after, open_behind}
use Rattle.kern_lexer.specs.Bytes.{Bytes, space}
use Rattle.kern_lexer.specs.Faults.{LexFault, ◌>>=◌, placed}
use Rattle.kern_lexer.specs.Fronts.{Fronted, front_of}
use Rattle.kern_lexer.specs.Layouts.{place_behind, line_behind, brackets_behind, is_first_word, width_made, widths_of, has_right_width}
use Rattle.kern_lexer.specs.Made.{tokens_made}
use Rattle.kern_lexer.specs.Pieces.{Piece, blank, word}
use Rattle.kern_lexer.specs.Steps.{text_after}
use Rattle.kern_lexer.specs.Tokens.{Left}
use Rattle.kern_lexer.specs.Words.{words_from}
use Rattle.kern_lexer.specs.Wrong.{IsWrong, begins_no_word}
use Rattle.kern_lexer.specs.declared.fault.LexKind.{LexKind}
use Rattle.kern_lexer.specs.declared.fault.LexKind.TheVariants as F
use Rattle.kern_lexer.specs.declared.front.Front.{Front}
use Rattle.kern_lexer.specs.declared.front.Front.TheVariants as R
use Rattle.kern_lexer.specs.declared.layout.Bracket.{Bracket}
use Rattle.kern_lexer.specs.declared.token.Token.{Token}
use Rattle.kern_lexer.specs.declared.token.TokenKind.{TokenKind}
use Rattle.kern_lexer.proofs.FrontLemmas.{IsWithin, front-is_within}
use Rattle.kern_lexer.proofs.LayoutLemmas.{place-more, brackets-more, widths-more, right-within}
use Rattle.kern_lexer.proofs.LineCuts.{IsClean, clean-drop}
use Rattle.kern_lexer.proofs.QuietLemmas.{has_word, quiet-more, blank-first, word-second, word-there, word-line, or_false}
use Rattle.kern_lexer.proofs.Reached.{IsReadBehind, read-more, read-wrong}
use Rattle.kern_lexer.proofs.StopLemmas.{Stops, FrontFact, front-fact, front-stops}
use Rattle.kern_lexer.proofs.TextLemmas.{text_after-none}
use Rattle.kern_lexer.proofs.WidthLemmas.{stack_of}
use Rattle.kern_lexer.proofs.WordLemmas.{words_from-front, words_from-fault}

-- what follows a line, by what the line leaves
abbrev pub Next : Type 0
Next = Left → Result (List Token) LexFault

-- whether there are tokens
abbrev pub has_tokens : List Token → Bool
has_tokens [] = false
has_tokens (t ∷ tokens) = true

-- a line's Newline where it has words and no bracket is open
abbrev pub newline_if : Bool → List Bracket → Token → List Token
newline_if words brackets newline = cond (nat_eq (length brackets) 0 && words) (newline ∷ []) []

-- the words of a line from a place on, its Newline, and what follows the line
abbrev pub line_rest : Token → Next → List ℕ → List Bracket → (words : Bool) → Result (List Token) LexFault → Result (List Token) LexFault
line_rest newline next widths brackets words read =
    read >>= (λ own. text_after (own ++ newline_if (words || has_tokens own) (open_behind brackets own) newline) (next (record { widths = widths; brackets = open_behind brackets own })))

-- what some pieces leave to the next line
abbrev pub left_behind : List Piece → Left
left_behind before = record { widths = stack_of (widths_of before); brackets = brackets_behind before }

-- the rest of a line behind some pieces
abbrev pub rest_behind : List Piece → Token → Next → (code : Bytes) → Result (List Token) LexFault
rest_behind before newline next code =
    line_rest newline next (stack_of (widths_of before)) (brackets_behind before) (has_word before) (words_from (line_behind before) (place_behind before) 0 code)

-- some pieces end the code that others begin
pub record EndsCode (before : List Piece) (code : Bytes) (after : List Piece) : Type 0 where
  pub place : place_behind after ≡ place_behind before + length code
  pub line : line_behind after ≡ line_behind before

-- what is read behind a line's code
abbrev pub IsReadAfter : List Piece → (code stop : Bytes) → Token → Next → Type 0
IsReadAfter before code stop newline next =
    (after : List Piece) → EndsCode before code after
    → IsReadBehind after stop (text_after (newline_if (has_word after) (brackets_behind after) newline) (next (left_behind after)))

pub text_after-append : (a b : List Token) (read : Result (List Token) LexFault)
    → text_after (a ++ b) read ≡ text_after a (text_after b read)
text_after-append a b (Err fault) = refl
text_after-append a b (Ok tokens) = ap Ok (append_assoc a b tokens)

-- a token of the line
pub rest-token : (newline : Token) (next : Next) (widths : List ℕ) (brackets : List Bracket) (words : Bool) (t : Token) (read : Result (List Token) LexFault)
    → line_rest newline next widths brackets words (read >>= (λ others. Ok (t ∷ [] ++ others))) ≡ text_after (t ∷ []) (line_rest newline next widths (open_after brackets t.kind) true read)
rest-token newline next widths brackets words t (Err fault) = refl
rest-token newline next widths brackets true t (Ok own) =
    text_after-append (t ∷ []) (own ++ newline_if true (open_behind (open_after brackets t.kind) own) newline) (next (record { widths = widths; brackets = open_behind (open_after brackets t.kind) own }))
rest-token newline next widths brackets false t (Ok own) =
    text_after-append (t ∷ []) (own ++ newline_if true (open_behind (open_after brackets t.kind) own) newline) (next (record { widths = widths; brackets = open_behind (open_after brackets t.kind) own }))

rest-none : (newline : Token) (next : Next) (widths : List ℕ) (brackets : List Bracket) (words : Bool) (read : Result (List Token) LexFault)
    → line_rest newline next widths brackets words (read >>= (λ others. Ok ([] ++ others))) ≡ line_rest newline next widths brackets words read
rest-none newline next widths brackets words (Err fault) = refl
rest-none newline next widths brackets words (Ok own) = refl

-- what is read is the same
pub read-same : (before : List Piece) {bytes again : Bytes} {read other : Result (List Token) LexFault} → bytes ≡ again → read ≡ other
    → IsReadBehind before bytes read → IsReadBehind before again other
read-same before {bytes} {again} {read} {other} same alike is =
    subst (λ bs. IsReadBehind before bs other) same (subst (IsReadBehind before bytes) alike is)

-- what is wrong where a front is
pub wrong-front : (before : List Piece) (b : ℕ) (rest : Bytes) (kind : LexKind) → front_of (b ∷ rest) ≡ Err kind
    → has_right_width before ≡ true → begins_no_word (b ∷ rest) ≡ false → IsWrong kind before (b ∷ rest)
wrong-front before b rest F.Byte is right clean = (is, rw clean refl)
wrong-front before b rest F.Tab is right clean = is
wrong-front before b rest F.Indent is right clean = absurd (subst (FrontFact b) is (front-fact b rest))
wrong-front before b rest F.Number is right clean = (is, right)
wrong-front before b rest F.Text is right clean = (is, right)
wrong-front before b rest F.Name is right clean = (is, right)

-- a word in front of what is read
pub read-word : (before : List Piece) (code stop : Bytes) (kind : TokenKind) (len : ℕ) (read : Result (List Token) LexFault)
    → front_of (code ++ stop) ≡ Ok (R.Token kind len) → len ≤ length code → has_right_width before ≡ true
    → IsReadBehind (before ++ word kind (take len code) ∷ []) (drop len code ++ stop) read
    → IsReadBehind before (code ++ stop) (text_after (tokens_made before (word kind (take len code))) read)
read-word before code stop kind len read is within right there =
    let whole : take len code ++ (drop len code ++ stop) ≡ code ++ stop =
    sym (append_assoc (take len code) (drop len code) stop) ∙ ap (λ bytes. bytes ++ stop) (take-append-drop len code) in
    let stands : front_of (take len code ++ (drop len code ++ stop)) ≡ Ok (R.Token kind (length (take len code))) =
    ap front_of whole ∙ is ∙ ap (λ n. Ok (R.Token kind n)) (sym (length-take-le len code within)) in
    read-same before whole refl (read-more before (word kind (take len code)) (drop len code ++ stop) read stands right there)

-- the token of a word that isn't the first of its line
word-made : (before : List Piece) (code : Bytes) (kind : TokenKind) (len : ℕ) → is_first_word before ≡ false → len ≤ length code
    → tokens_made before (word kind (take len code)) ≡ record { kind = kind; at = place_behind before; len = len; line = line_behind before } ∷ []
word-made before code kind len within fits = rw (within, length-take-le len code fits) refl

-- what is read behind a word is the rest of the line behind it
pub rest-word : (before : List Piece) (code : Bytes) (kind : TokenKind) (len : ℕ) (newline : Token) (next : Next) (widths : List ℕ)
    → len ≤ length code → stack_of (widths_of (before ++ word kind (take len code) ∷ [])) ≡ widths
    → rest_behind (before ++ word kind (take len code) ∷ []) newline next (drop len code)
    ≡ line_rest newline next widths (open_after (brackets_behind before) kind) true (words_from (line_behind before) (place_behind before + len) 0 (drop len code))
rest-word before code kind len newline next widths within same =
    let bytes = take len code in
    let place : place_behind (before ++ word kind bytes ∷ []) ≡ place_behind before + len =
    place-more before (word kind bytes) ∙ ap (λ n. place_behind before + n) (length-take-le len code within) in
    let read : words_from (line_behind (before ++ word kind bytes ∷ [])) (place_behind (before ++ word kind bytes ∷ [])) 0 (drop len code) ≡ words_from (line_behind before) (place_behind before + len) 0 (drop len code) =
    ap (λ n. words_from n (place_behind (before ++ word kind bytes ∷ [])) 0 (drop len code)) (word-line before kind bytes)
    ∙ ap (λ n. words_from (line_behind before) n 0 (drop len code)) place in
    ap (λ ws. line_rest newline next ws (brackets_behind (before ++ word kind bytes ∷ [])) (has_word (before ++ word kind bytes ∷ [])) (words_from (line_behind (before ++ word kind bytes ∷ [])) (place_behind (before ++ word kind bytes ∷ [])) 0 (drop len code))) same
    ∙ ap (λ bs. line_rest newline next widths bs (has_word (before ++ word kind bytes ∷ [])) (words_from (line_behind (before ++ word kind bytes ∷ [])) (place_behind (before ++ word kind bytes ∷ [])) 0 (drop len code))) (brackets-more before (word kind bytes))
    ∙ ap (λ t. line_rest newline next widths (open_after (brackets_behind before) kind) t (words_from (line_behind (before ++ word kind bytes ∷ [])) (place_behind (before ++ word kind bytes ∷ [])) 0 (drop len code))) (word-there before kind bytes)
    ∙ ap (line_rest newline next widths (open_after (brackets_behind before) kind) true) read

-- what is read behind a space is what is read in front of it
rest-blank : (before : List Piece) (code : Bytes) (newline : Token) (next : Next)
    → rest_behind (before ++ blank ∷ []) newline next code
    ≡ line_rest newline next (stack_of (widths_of before)) (brackets_behind before) (has_word before) (words_from (line_behind before) (place_behind before + 1) 0 code)
rest-blank before code newline next =
    let same = quiet-more before blank refl in
    let after = before ++ blank ∷ [] in
    let read : words_from (line_behind after) (place_behind after) 0 code ≡ words_from (line_behind before) (place_behind before + 1) 0 code =
    ap (λ n. words_from n (place_behind after) 0 code) same.line
    ∙ ap (λ n. words_from (line_behind before) n 0 code) (place-more before blank) in
    ap (λ ws. line_rest newline next (stack_of ws) (brackets_behind after) (has_word after) (words_from (line_behind after) (place_behind after) 0 code)) same.widths
    ∙ ap (λ bs. line_rest newline next (stack_of (widths_of before)) bs (has_word after) (words_from (line_behind after) (place_behind after) 0 code)) same.brackets
    ∙ ap (λ t. line_rest newline next (stack_of (widths_of before)) (brackets_behind before) t (words_from (line_behind after) (place_behind after) 0 code)) same.words
    ∙ ap (line_rest newline next (stack_of (widths_of before)) (brackets_behind before) (has_word before)) read

-- the end of the code behind one more piece
pub ends-more : (before : List Piece) (p : Piece) (code rest : Bytes) (n : ℕ) (after : List Piece)
    → line_behind (before ++ p ∷ []) ≡ line_behind before → place_behind (before ++ p ∷ []) ≡ place_behind before + n
    → length code ≡ n + length rest → EndsCode (before ++ p ∷ []) rest after → EndsCode before code after
ends-more before p code rest n after line place long ends = record {
  place = omega (arith, ends.place, place, long);
  line = ends.line ∙ line;
}

-- the rest of a line in which no word is the first
pub code-read : (fuel : ℕ) (before : List Piece) (code stop : Bytes) (newline : Token) (next : Next) → length code ≤ fuel
    → is_first_word before ≡ false → Stops stop → IsClean code stop → IsReadAfter before code stop newline next
    → IsReadBehind before (code ++ stop) (rest_behind before newline next code)
code-read fuel before [] stop newline next small within stops clean later =
    read-same before refl (ap (λ t. text_after (newline_if t (brackets_behind before) newline) (next (left_behind before))) (sym (or_false (has_word before))))
    (later before (record { place = omega arith; line = refl }))
code-read zero before (b ∷ code) stop newline next small within stops clean later = absurd (omega arith)
code-read (suc fuel) before (b ∷ code) stop newline next small within stops clean later =
    at_front (front_of (b ∷ code)) refl (code-read fuel)
  where
    whole : Bytes
    whole = b ∷ code

    some : 0 < length (b ∷ code)
    some = omega arith

    at_front : (r : Fronted) → front_of (b ∷ code) ≡ r
        → ((before : List Piece) (code stop : Bytes) (newline : Token) (next : Next) → length code ≤ fuel → is_first_word before ≡ false → Stops stop → IsClean code stop → IsReadAfter before code stop newline next → IsReadBehind before (code ++ stop) (rest_behind before newline next code))
        → IsReadBehind before ((b ∷ code) ++ stop) (rest_behind before newline next (b ∷ code))
    at_front (Err kind) is again =
        let fault : LexFault = record { at = place_behind before; kind = kind } in
        let front : front_of (b ∷ code ++ stop) ≡ Err kind = front-stops b code stop stops ∙ is in
        let read : words_from (line_behind before) (place_behind before) 0 (b ∷ code) ≡ Err fault =
        words_from-fault (line_behind before) (place_behind before) (b ∷ code) fault some (ap (placed {A = Front} (place_behind before)) is) in
        read-same before refl (ap (line_rest newline next (stack_of (widths_of before)) (brackets_behind before) (has_word before)) (sym read))
        (read-wrong before (b ∷ code ++ stop) kind (wrong-front before b (code ++ stop) kind front (right-within before within) clean.0))
    at_front (Ok R.Space) is again =
        let is_space : b ≡ space = subst (FrontFact b) is (front-fact b code) in
        let read : rest_behind before newline next (b ∷ code) ≡ rest_behind (before ++ blank ∷ []) newline next code =
        ap (line_rest newline next (stack_of (widths_of before)) (brackets_behind before) (has_word before)) (words_from-front (line_behind before) (place_behind before) (b ∷ code) R.Space some is)
        ∙ rest-none newline next (stack_of (widths_of before)) (brackets_behind before) (has_word before) (words_from (line_behind before) (place_behind before + 1) 0 code)
        ∙ sym (rest-blank before code newline next) in
        let there : IsReadBehind (before ++ blank ∷ []) (code ++ stop) (rest_behind (before ++ blank ∷ []) newline next code) =
        again (before ++ blank ∷ []) code stop newline next (omega arith) (blank-first before ∙ within) stops clean.1
        (λ after ends. later after (ends-more before blank (b ∷ code) code 1 after (quiet-more before blank refl).line (place-more before blank) (omega arith) ends)) in
        read-same before (ap (λ c. c ∷ (code ++ stop)) (sym is_space)) (text_after-none _ ∙ sym read)
        (read-more before blank (code ++ stop) (rest_behind (before ++ blank ∷ []) newline next code) tt tt there)
    at_front (Ok (R.Token kind len)) is again =
        let fits : IsWithin (length whole) (R.Token kind len) = front-is_within whole (R.Token kind len) some is in
        let front : front_of (b ∷ code ++ stop) ≡ Ok (R.Token kind len) = front-stops b code stop stops ∙ is in
        let p : Piece = word kind (take len whole) in
        let widths : stack_of (widths_of (before ++ p ∷ [])) ≡ stack_of (widths_of before) =
        ap stack_of (widths-more before p ∙ ap (λ ws. widths_of before ++ ws) (no_width p within) ∙ append-nil (widths_of before)) in
        let read : rest_behind before newline next whole ≡ text_after (tokens_made before p) (rest_behind (before ++ p ∷ []) newline next (drop len whole)) =
        ap (line_rest newline next (stack_of (widths_of before)) (brackets_behind before) (has_word before)) (words_from-front (line_behind before) (place_behind before) whole (R.Token kind len) some is)
        ∙ rest-token newline next (stack_of (widths_of before)) (brackets_behind before) (has_word before) (record { kind = kind; at = place_behind before; len = len; line = line_behind before }) (words_from (line_behind before) (place_behind before + len) 0 (drop len whole))
        ∙ ap (λ ts. text_after ts (line_rest newline next (stack_of (widths_of before)) (open_after (brackets_behind before) kind) true (words_from (line_behind before) (place_behind before + len) 0 (drop len whole)))) (sym (word-made before whole kind len within fits.within))
        ∙ ap (text_after (tokens_made before p)) (sym (rest-word before whole kind len newline next (stack_of (widths_of before)) fits.within widths)) in
        let place : place_behind (before ++ p ∷ []) ≡ place_behind before + len =
        place-more before p ∙ ap (λ n. place_behind before + n) (length-take-le len whole fits.within) in
        let there : IsReadBehind (before ++ p ∷ []) (drop len whole ++ stop) (rest_behind (before ++ p ∷ []) newline next (drop len whole)) =
        again (before ++ p ∷ []) (drop len whole) stop newline next (omega (arith, length-drop len whole, fits.some)) (word-second before kind (take len whole)) stops (clean-drop len whole stop clean)
        (λ after ends. later after (ends-more before p whole (drop len whole) len after (word-line before kind (take len whole)) place (omega (arith, length-drop len whole, fits.within)) ends)) in
        read-same before refl (sym read) (read-word before whole stop kind len _ front fits.within (right-within before within) there)
      where
        no_width : (q : Piece) → is_first_word before ≡ false → width_made before q ≡ []
        no_width blank within = refl
        no_width (word k bytes) within = rw within refl
        no_width _ within = refl
