-- What going over the lines of a text gives is what the text has.
use Rattle.std.proofs.Common.{◌≡◌, ◌⊎◌, inl, inr, ℕ, zero, suc, ◌+◌, ◌≤◌, ◌∙◌, ◌++◌, Bool, true, false, List, [], ◌∷◌, length, replicate, ap, refl, sym, subst, arith, append_assoc, append-nil, length-append, nat_eq, Ok, Err}
use Rattle.std.specs.List.{onto_first}
use Rattle.std.proofs.lemmas.Bool.{eqb-true}
use Rattle.std.proofs.lemmas.List.{length-reverse}
use Rattle.kern_lexer.specs.Answers.{HasTokens, HasFault}
use Rattle.kern_lexer.specs.Bytes.{Bytes, line_feed}
use Rattle.kern_lexer.specs.Faults.{LexFault}
use Rattle.kern_lexer.specs.Layouts.{place_behind, line_behind, brackets_behind, this_line, widths_of, open_widths}
use Rattle.kern_lexer.specs.Lines.{lines_of, without_return, without_comment}
use Rattle.kern_lexer.specs.Made.{newline_behind, tokens_of_end, marks_behind}
use Rattle.kern_lexer.specs.Pieces.{Piece, line_end, bytes_of_pieces}
use Rattle.kern_lexer.specs.Steps.{text_after}
use Rattle.kern_lexer.specs.Tokens.{Left, end_tokens, marks_at, tokens_from, tokens_of}
use Rattle.kern_lexer.specs.declared.token.Token.{Token}
use Rattle.kern_lexer.specs.declared.token.TokenKind.TheVariants as T
use Rattle.kern_lexer.proofs.FirstWords.{line-read}
use Rattle.kern_lexer.proofs.LayoutLemmas.{place-more, line-more, brackets-more, this_line-more, widths-more}
use Rattle.kern_lexer.proofs.LineCuts.{HasNoFeed, LineCut, ended-cut, last-cut}
use Rattle.kern_lexer.proofs.LineReads.{Next, newline_if, left_behind, IsReadAfter, read-same}
use Rattle.kern_lexer.proofs.QuietLemmas.{has_word, SameLine, quiet-all, place-all, read-quiet}
use Rattle.kern_lexer.proofs.Reached.{IsReadBehind, read-more, read-end, has-tokens, has-fault}
use Rattle.kern_lexer.proofs.TextLemmas.{lines-some, tokens_from-first}
use Rattle.kern_lexer.proofs.WidthLemmas.{stack_of}

-- a text with a line feed: its first line, and what follows that
record EndsLine (text : Bytes) : Type 0 where
  first : Bytes
  more : Bytes
  whole : first ++ line_feed ∷ more ≡ text
  none : HasNoFeed first
  lines : lines_of text ≡ first ∷ lines_of more

-- a text without one is a line
abbrev IsLine : Bytes → Type 0
IsLine text = HasNoFeed text × (lines_of text ≡ text ∷ [])

split-text : (text : Bytes) → IsLine text ⊎ EndsLine text
split-text [] = inl (refl, refl)
split-text (b ∷ rest) = at_first (nat_eq b line_feed) refl (split-text rest)
  where
    at_first : (t : Bool) → nat_eq b line_feed ≡ t → IsLine rest ⊎ EndsLine rest → IsLine (b ∷ rest) ⊎ EndsLine (b ∷ rest)
    at_first true is later = inr (record {
      first = [];
      more = rest;
      whole = ap (λ c. c ∷ rest) (sym (eqb-true b line_feed is));
      none = refl;
      lines = rw is refl;
    })
    at_first false is (inl line) =
        let none : HasNoFeed (b ∷ rest) = rw is line.0 in
        let split : lines_of (b ∷ rest) ≡ onto_first b (lines_of rest) = rw is refl in
        inl (none, split ∙ ap (onto_first b) line.1)
    at_first false is (inr ended) =
        let none : HasNoFeed (b ∷ ended.first) = rw is ended.none in
        let split : lines_of (b ∷ rest) ≡ onto_first b (lines_of rest) = rw is refl in
        inr (record {
          first = b ∷ ended.first;
          more = ended.more;
          whole = ap (λ bytes. b ∷ bytes) ended.whole;
          none = none;
          lines = split ∙ ap (onto_first b) ended.lines;
        })

-- the Newline of a line, in front of the pieces that end it or behind them
newline-there : (after last : List Piece) (line at len : ℕ) → SameLine after last → place_behind last ≡ at → line_behind after ≡ line
    → newline_behind last len ≡ newline_if (has_word after) (brackets_behind after) (record { kind = T.Newline; at = at; len = len; line = line })
newline-there after last line at len same place line_is =
    ap (λ n. newline_if (has_word last) (brackets_behind last) (record { kind = T.Newline; at = n; len = len; line = line_behind last })) place
    ∙ ap (λ n. newline_if (has_word last) (brackets_behind last) (record { kind = T.Newline; at = at; len = len; line = n })) (same.line ∙ line_is)
    ∙ ap (λ bs. newline_if (has_word last) bs (record { kind = T.Newline; at = at; len = len; line = line })) same.brackets
    ∙ ap (λ t. newline_if t (brackets_behind after) (record { kind = T.Newline; at = at; len = len; line = line })) same.words

-- the tokens of the end
end-there : (after last : List Piece) (line at : ℕ) → SameLine after last → place_behind last ≡ at → line_behind after ≡ line
    → tokens_of_end last ≡ newline_if (has_word after) (brackets_behind after) (record { kind = T.Newline; at = at; len = 0; line = line }) ++ end_tokens (left_behind after) line at
end-there after last line at same place line_is =
    let open_ones : length (open_widths (widths_of last)) ≡ length (stack_of (widths_of after)) =
    ap (λ ws. length (open_widths ws)) same.widths ∙ sym (length-reverse (open_widths (widths_of after))) in
    let marks : marks_behind last (replicate (length (open_widths (widths_of last))) T.Dedent ++ T.End ∷ []) ≡ end_tokens (left_behind after) line at =
    ap (λ n. marks_at (line_behind last) (place_behind last) (replicate n T.Dedent ++ T.End ∷ [])) open_ones
    ∙ ap (λ n. marks_at (line_behind last) n (replicate (length (stack_of (widths_of after))) T.Dedent ++ T.End ∷ [])) place
    ∙ ap (λ n. marks_at n at (replicate (length (stack_of (widths_of after))) T.Dedent ++ T.End ∷ [])) (same.line ∙ line_is) in
    ap (λ ts. ts ++ marks_behind last (replicate (length (open_widths (widths_of last))) T.Dedent ++ T.End ∷ [])) (newline-there after last line at 0 same place line_is)
    ∙ ap (λ ts. newline_if (has_word after) (brackets_behind after) (record { kind = T.Newline; at = at; len = 0; line = line }) ++ ts) marks

-- the last line
last-read : (before : List Piece) (text : Bytes) → HasNoFeed text → this_line before ≡ []
    → IsReadBehind before text (tokens_from (left_behind before) (line_behind before) (place_behind before) (text ∷ []))
last-read before text none new_line =
    read-same before (ap (λ bytes. without_comment text ++ bytes) (append-nil (bytes_of_pieces cut.tail)) ∙ cut.whole) refl
    (line-read before (without_comment text) (bytes_of_pieces cut.tail ++ []) newline next new_line cut.stops cut.clean later)
  where
    at : ℕ
    at = place_behind before + length text

    newline : Token
    newline = record { kind = T.Newline; at = at; len = 0; line = line_behind before }

    next : Next
    next left = Ok (end_tokens left (line_behind before) at)

    cut : LineCut text (without_comment text) []
    cut = last-cut text none

    later : IsReadAfter before (without_comment text) (bytes_of_pieces cut.tail ++ []) newline next
    later after ends =
        let last : List Piece = after ++ cut.tail in
        let same = quiet-all after cut.tail cut.quiet in
        let place : place_behind last ≡ at =
        omega (arith, place-all after cut.tail, ends.place, length-append (without_comment text) (bytes_of_pieces cut.tail), ap length cut.whole) in
        read-quiet after cut.tail [] (text_after (newline_if (has_word after) (brackets_behind after) newline) (next (left_behind after))) cut.quiet cut.stands
        (subst (λ ts. IsReadBehind last [] (Ok ts)) (end-there after last (line_behind before) at same place ends.line) (read-end last))

-- a line's end
read-line_end : (before : List Piece) (more : Bytes) (line at : ℕ) (left : Left) → line_behind before + 1 ≡ line → place_behind before + 1 ≡ at
    → left_behind before ≡ left
    → ((b : List Piece) → this_line b ≡ [] → IsReadBehind b more (tokens_from (left_behind b) (line_behind b) (place_behind b) (lines_of more)))
    → IsReadBehind before (line_feed ∷ more) (text_after (newline_behind before 1) (tokens_from left line at (lines_of more)))
read-line_end before more line at left line_is place_is left_is again =
    let b : List Piece = before ++ line_end ∷ [] in
    let widths : widths_of b ≡ widths_of before = widths-more before line_end ∙ append-nil (widths_of before) in
    let left_same : left_behind b ≡ left =
    ap (λ ws. record { widths = stack_of ws; brackets = brackets_behind b }) widths
    ∙ ap (λ bs. record { widths = stack_of (widths_of before); brackets = bs }) (brackets-more before line_end)
    ∙ left_is in
    let read : tokens_from (left_behind b) (line_behind b) (place_behind b) (lines_of more) ≡ tokens_from left line at (lines_of more) =
    ap (λ l. tokens_from l (line_behind b) (place_behind b) (lines_of more)) left_same
    ∙ ap (λ n. tokens_from left n (place_behind b) (lines_of more)) (line-more before line_end ∙ line_is)
    ∙ ap (λ n. tokens_from left line n (lines_of more)) (place-more before line_end ∙ place_is) in
    read-more before line_end more (tokens_from left line at (lines_of more)) tt tt
    (read-same b refl read (again b (this_line-more before line_end)))

-- a line that a line feed ends, and those that follow it
ended-read : (before : List Piece) (first more : Bytes) → HasNoFeed first → this_line before ≡ []
    → ((b : List Piece) → this_line b ≡ [] → IsReadBehind b more (tokens_from (left_behind b) (line_behind b) (place_behind b) (lines_of more)))
    → IsReadBehind before (first ++ line_feed ∷ more) (tokens_from (left_behind before) (line_behind before) (place_behind before) (first ∷ lines_of more))
ended-read before first more none new_line again =
    read-same before whole (sym (tokens_from-first (left_behind before) (line_behind before) (place_behind before) first (lines_of more) (lines-some more)))
    (line-read before code (bytes_of_pieces cut.tail ++ line_feed ∷ more) newline next new_line cut.stops cut.clean later)
  where
    code : Bytes
    code = without_comment (without_return first)

    at : ℕ
    at = place_behind before + length first

    newline : Token
    newline = record { kind = T.Newline; at = at; len = 1; line = line_behind before }

    next : Next
    next left = tokens_from left (suc (line_behind before)) (suc at) (lines_of more)

    cut : LineCut first code (line_feed ∷ more)
    cut = ended-cut first more none

    whole : code ++ (bytes_of_pieces cut.tail ++ line_feed ∷ more) ≡ first ++ line_feed ∷ more
    whole = sym (append_assoc code (bytes_of_pieces cut.tail) (line_feed ∷ more)) ∙ ap (λ bytes. bytes ++ line_feed ∷ more) cut.whole

    later : IsReadAfter before code (bytes_of_pieces cut.tail ++ line_feed ∷ more) newline next
    later after ends =
        let last : List Piece = after ++ cut.tail in
        let same = quiet-all after cut.tail cut.quiet in
        let place : place_behind last ≡ at =
        omega (arith, place-all after cut.tail, ends.place, length-append code (bytes_of_pieces cut.tail), ap length cut.whole) in
        let left : left_behind last ≡ left_behind after =
        ap (λ ws. record { widths = stack_of ws; brackets = brackets_behind last }) same.widths
        ∙ ap (λ bs. record { widths = stack_of (widths_of after); brackets = bs }) same.brackets in
        let made : newline_behind last 1 ≡ newline_if (has_word after) (brackets_behind after) newline =
        newline-there after last (line_behind before) at 1 same place ends.line in
        read-quiet after cut.tail (line_feed ∷ more) (text_after (newline_if (has_word after) (brackets_behind after) newline) (next (left_behind after))) cut.quiet cut.stands
        (read-same last refl (ap (λ ts. text_after ts (next (left_behind after))) made)
        (read-line_end last more (suc (line_behind before)) (suc at) (left_behind after) (omega (arith, same.line, ends.line)) (omega (arith, place)) left again))

-- a text from the start of a line on
lines-read : (fuel : ℕ) (before : List Piece) (text : Bytes) → length text ≤ fuel → this_line before ≡ []
    → IsReadBehind before text (tokens_from (left_behind before) (line_behind before) (place_behind before) (lines_of text))
lines-read zero before [] small new_line = last-read before [] refl new_line
lines-read zero before (b ∷ text) small new_line = absurd (omega arith)
lines-read (suc fuel) before text small new_line = at_split (split-text text) (lines-read fuel)
  where
    at_split : IsLine text ⊎ EndsLine text
        → ((before : List Piece) (text : Bytes) → length text ≤ fuel → this_line before ≡ [] → IsReadBehind before text (tokens_from (left_behind before) (line_behind before) (place_behind before) (lines_of text)))
        → IsReadBehind before text (tokens_from (left_behind before) (line_behind before) (place_behind before) (lines_of text))
    at_split (inl line) again =
        read-same before refl (ap (tokens_from (left_behind before) (line_behind before) (place_behind before)) (sym line.1)) (last-read before text line.0 new_line)
    at_split (inr ended) again =
        let shorter : length ended.more ≤ fuel = omega (arith, ap length ended.whole, length-append ended.first (line_feed ∷ ended.more)) in
        read-same before ended.whole (ap (tokens_from (left_behind before) (line_behind before) (place_behind before)) (sym ended.lines))
        (ended-read before ended.first ended.more ended.none new_line (λ b new. again b ended.more shorter new))

-- a whole text
pub text-read : (text : Bytes) → IsReadBehind [] text (tokens_of text)
unfolding tokens_of
text-read text = lines-read (length text) [] text (omega arith) refl

pub given-tokens : (text : Bytes) (tokens : List Token) → tokens_of text ≡ Ok tokens → HasTokens text tokens
given-tokens text tokens is = has-tokens text tokens (subst (IsReadBehind [] text) is (text-read text))

pub given-fault : (text : Bytes) (fault : LexFault) → tokens_of text ≡ Err fault → HasFault text fault
given-fault text fault is = has-fault text fault (subst (IsReadBehind [] text) is (text-read text))
