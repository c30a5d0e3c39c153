-- A text is cut in one way: of two cuts one goes on from the other, and no right piece stands where something is wrong.
use Rattle.std.proofs.Common.{◌≡◌, ◌⊎◌, inl, inr, ℕ, ◌∙◌, ◌++◌, Bool, true, false, cond, not, List, [], ◌∷◌, length, take, ap, refl, sym, subst, append_assoc, append-nil, nat_eq, Option, Some, None, Ok, Err}
use Rattle.std.specs.List.{before_first}
use Rattle.std.proofs.lemmas.Bool.{eqb-true}
use Rattle.std.proofs.lemmas.List.{append_cancel_left, take_at}
use Rattle.kern_lexer.specs.Bytes.{Bytes, space, line_feed, carriage_return, number_sign}
use Rattle.kern_lexer.specs.Cuts.{EachStands}
use Rattle.kern_lexer.specs.Fronts.{Fronted, front_of, is_token_front}
use Rattle.kern_lexer.specs.Layouts.{has_right_width}
use Rattle.kern_lexer.specs.Pieces.{Piece, blank, skipped_return, comment, line_end, word, bytes_of_piece, bytes_of_pieces, begins_line_end, StandsRightly}
use Rattle.kern_lexer.specs.Wrong.{FitsLine, EachFits, IsWrong, begins_no_word}
use Rattle.kern_lexer.specs.declared.fault.LexKind.{LexKind}
use Rattle.kern_lexer.specs.declared.fault.LexKind.TheVariants as F
use Rattle.kern_lexer.specs.declared.front.Front.TheVariants as R
use Rattle.kern_lexer.specs.declared.token.TokenKind.{TokenKind}
use Rattle.kern_lexer.proofs.LayoutLemmas.{one-more}

-- ---- the piece at the front of some bytes

-- the word that a front is
abbrev word_at : Bytes → Fronted → Option Piece
word_at bytes (Ok (R.Token kind len)) = Some (word kind (take len bytes))
word_at bytes (Ok R.Space) = None
word_at bytes (Err kind) = None

-- the only piece that can stand at the front of some bytes
abbrev piece_at : Bytes → Option Piece
piece_at [] = None
piece_at (b ∷ rest) =
    cond (nat_eq b space) (Some blank)
    (cond (nat_eq b line_feed) (Some line_end)
    (cond (nat_eq b number_sign) (Some (comment (before_first (λ c. nat_eq c line_feed) rest)))
    (cond (nat_eq b carriage_return) (cond (begins_line_end rest) (Some skipped_return) None)
    (word_at (b ∷ rest) (front_of (b ∷ rest))))))

-- a front that is a token begins with no other byte
other-byte : (b c : ℕ) (rest : Bytes) (kind : TokenKind) (len : ℕ) → front_of (b ∷ rest) ≡ Ok (R.Token kind len)
    → (front_of (c ∷ rest) ≡ Ok (R.Token kind len) → ⊥) → nat_eq b c ≡ false
other-byte b c rest kind len is none = at_byte (nat_eq b c) refl
  where
    at_byte : (t : Bool) → nat_eq b c ≡ t → nat_eq b c ≡ false
    at_byte true same = absurd (none (subst (λ x. front_of (x ∷ rest) ≡ Ok (R.Token kind len)) (eqb-true b c same) is))
    at_byte false same = same

word-found : (bytes : Bytes) (kind : TokenKind) (len : ℕ) → front_of bytes ≡ Ok (R.Token kind len)
    → piece_at bytes ≡ Some (word kind (take len bytes))
word-found [] kind len is = absurd cc
word-found (b ∷ rest) kind len is =
    let no_space : nat_eq b space ≡ false = other-byte b space rest kind len is (λ e. absurd cc) in
    let no_feed : nat_eq b line_feed ≡ false = other-byte b line_feed rest kind len is (λ e. absurd cc) in
    let no_comment : nat_eq b number_sign ≡ false = other-byte b number_sign rest kind len is (λ e. absurd cc) in
    let no_return : nat_eq b carriage_return ≡ false = other-byte b carriage_return rest kind len is (λ e. absurd cc) in
    ap by_byte is ∙ rw (no_space, no_feed, no_comment, no_return) refl
  where
    by_byte : Fronted → Option Piece
    by_byte front =
        cond (nat_eq b space) (Some blank)
        (cond (nat_eq b line_feed) (Some line_end)
        (cond (nat_eq b number_sign) (Some (comment (before_first (λ c. nat_eq c line_feed) rest)))
        (cond (nat_eq b carriage_return) (cond (begins_line_end rest) (Some skipped_return) None)
        (word_at (b ∷ rest) front))))

-- what stands rightly is that piece
stands-found : (p : Piece) (following : Bytes) → StandsRightly p following → piece_at (bytes_of_piece p ++ following) ≡ Some p
stands-found blank following stands = refl
stands-found skipped_return following stands = rw stands refl
stands-found (comment body) following stands = ap (λ bytes. Some (comment bytes)) stands
stands-found line_end following stands = refl
stands-found (word kind bytes) following stands =
    word-found (bytes ++ following) kind (length bytes) stands
    ∙ ap (λ bs. Some (word kind bs)) (take_at bytes following (length bytes) refl)

same-piece : (p q : Piece) (f g : Bytes) → bytes_of_piece p ++ f ≡ bytes_of_piece q ++ g → StandsRightly p f → StandsRightly q g → p ≡ q
same-piece p q f g same first second =
    let found : Some p ≡ Some q = sym (stands-found p f first) ∙ ap piece_at same ∙ stands-found q g second in cc

-- no piece stands where nothing is left
pub none-left : (p : Piece) (following : Bytes) → StandsRightly p following → [] ≡ bytes_of_piece p ++ following → ⊥
none-left p following stands nothing =
    let found : None ≡ Some p = ap piece_at nothing ∙ stands-found p following stands in absurd cc

-- ---- two cuts

-- some pieces go on from others
pub record GoesOn (pieces others : List Piece) (rest left : Bytes) : Type 0 where
  pub more : List Piece
  pub is : others ≡ pieces ++ more
  pub bytes : rest ≡ bytes_of_pieces more ++ left
  pub each : EachStands more left

-- one more piece in front of both
goes_on-more : (p q : Piece) (pieces others : List Piece) (rest left : Bytes) → p ≡ q → GoesOn pieces others rest left
    → GoesOn (p ∷ pieces) (q ∷ others) rest left
goes_on-more p q pieces others rest left same on = record {
  more = on.more;
  is = ap (λ x. x ∷ others) (sym same) ∙ ap (λ ps. p ∷ ps) on.is;
  bytes = on.bytes;
  each = on.each;
}

-- of two cuts one goes on from the other
pub cuts-agree : (pieces others : List Piece) (rest left : Bytes) → bytes_of_pieces pieces ++ rest ≡ bytes_of_pieces others ++ left
    → EachStands pieces rest → EachStands others left → GoesOn pieces others rest left ⊎ GoesOn others pieces left rest
cuts-agree [] others rest left same first second = inl (record { more = others; is = refl; bytes = same; each = second })
cuts-agree (p ∷ pieces) [] rest left same first second = inr (record { more = p ∷ pieces; is = refl; bytes = sym same; each = first })
cuts-agree (p ∷ pieces) (q ∷ others) rest left same first second =
    joined (cuts-agree pieces others rest left behind first.1 second.1)
  where
    whole : bytes_of_piece p ++ (bytes_of_pieces pieces ++ rest) ≡ bytes_of_piece q ++ (bytes_of_pieces others ++ left)
    whole = sym (append_assoc (bytes_of_piece p) (bytes_of_pieces pieces) rest) ∙ same
        ∙ append_assoc (bytes_of_piece q) (bytes_of_pieces others) left

    one : p ≡ q
    one = same-piece p q (bytes_of_pieces pieces ++ rest) (bytes_of_pieces others ++ left) whole first.0 second.0

    behind : bytes_of_pieces pieces ++ rest ≡ bytes_of_pieces others ++ left
    behind = append_cancel_left (bytes_of_piece p) (bytes_of_pieces pieces ++ rest) (bytes_of_pieces others ++ left)
        (whole ∙ ap (λ x. bytes_of_piece x ++ (bytes_of_pieces others ++ left)) (sym one))

    joined : GoesOn pieces others rest left ⊎ GoesOn others pieces left rest → GoesOn (p ∷ pieces) (q ∷ others) rest left ⊎ GoesOn (q ∷ others) (p ∷ pieces) left rest
    joined (inl on) = inl (goes_on-more p q pieces others rest left one on)
    joined (inr on) = inr (goes_on-more q p others pieces left rest (sym one) on)

-- ---- what is wrong

-- the only kind that what is wrong can have
abbrev kind_at : (right no_word : Bool) → Fronted → Option LexKind
kind_at right no_word (Err F.Tab) = Some F.Tab
kind_at right no_word (Err F.Byte) = cond no_word None (Some F.Byte)
kind_at right no_word (Err F.Indent) = Some F.Indent
kind_at right no_word (Err F.Number) = cond right (Some F.Number) (Some F.Indent)
kind_at right no_word (Err F.Text) = cond right (Some F.Text) (Some F.Indent)
kind_at right no_word (Err F.Name) = cond right (Some F.Name) (Some F.Indent)
kind_at right no_word (Ok R.Space) = None
kind_at right no_word (Ok (R.Token kind len)) = cond right None (Some F.Indent)

abbrev kind_behind : List Piece → Bytes → Option LexKind
kind_behind before rest = kind_at (has_right_width before) (begins_no_word rest) (front_of rest)

indent-told : (no_word : Bool) (front : Fronted) → is_token_front front ≡ true → kind_at false no_word front ≡ Some F.Indent
indent-told no_word (Err F.Tab) begins = absurd cc
indent-told no_word (Err F.Byte) begins = absurd cc
indent-told no_word (Err F.Indent) begins = refl
indent-told no_word (Err F.Number) begins = refl
indent-told no_word (Err F.Text) begins = refl
indent-told no_word (Err F.Name) begins = refl
indent-told no_word (Ok R.Space) begins = absurd cc
indent-told no_word (Ok (R.Token kind len)) begins = refl

not_true : (t : Bool) → not t ≡ true → t ≡ false
not_true true e = absurd cc
not_true false e = refl

wrong-told : (kind : LexKind) (before : List Piece) (rest : Bytes) → IsWrong kind before rest → kind_behind before rest ≡ Some kind
wrong-told F.Tab before rest wrong = rw wrong refl
wrong-told F.Byte before rest wrong = rw (wrong.0, not_true (begins_no_word rest) wrong.1) refl
wrong-told F.Indent before rest wrong =
    ap (λ t. kind_at t (begins_no_word rest) (front_of rest)) (not_true (has_right_width before) wrong.1)
    ∙ indent-told (begins_no_word rest) (front_of rest) wrong.0
wrong-told F.Number before rest wrong = rw (wrong.0, wrong.1) refl
wrong-told F.Text before rest wrong = rw (wrong.0, wrong.1) refl
wrong-told F.Name before rest wrong = rw (wrong.0, wrong.1) refl

-- nothing is wrong where a right piece stands
right-told : (before : List Piece) (p : Piece) (following : Bytes) → StandsRightly p following → FitsLine before p
    → kind_behind before (bytes_of_piece p ++ following) ≡ None
right-told before blank following stands fits = refl
right-told before skipped_return following stands fits = rw stands refl
right-told before (comment body) following stands fits = refl
right-told before line_end following stands fits = refl
right-told before (word kind bytes) following stands fits = rw (stands, fits) refl

pub one-kind : (a b : LexKind) (before : List Piece) (rest : Bytes) → IsWrong a before rest → IsWrong b before rest → a ≡ b
one-kind a b before rest first second =
    let told : Some a ≡ Some b = sym (wrong-told a before rest first) ∙ wrong-told b before rest second in cc

pub not-wrong : (kind : LexKind) (before : List Piece) (p : Piece) (following : Bytes) → IsWrong kind before (bytes_of_piece p ++ following)
    → StandsRightly p following → FitsLine before p → ⊥
not-wrong kind before p following wrong stands fits =
    let told : Some kind ≡ None = sym (wrong-told kind before (bytes_of_piece p ++ following) wrong) ∙ right-told before p following stands fits in absurd cc

pub nothing-wrong : (kind : LexKind) (before : List Piece) → IsWrong kind before [] → ⊥
nothing-wrong kind before wrong =
    let told : Some kind ≡ None = sym (wrong-told kind before [] wrong) in absurd cc

-- a piece among those whose lines have right widths
pub fits-there : (before pieces : List Piece) (p : Piece) (more : List Piece) → EachFits before (pieces ++ p ∷ more)
    → FitsLine (before ++ pieces) p
fits-there before [] p more fits = subst (λ ps. FitsLine ps p) (sym (append-nil before)) fits.0
fits-there before (q ∷ pieces) p more fits =
    subst (λ ps. FitsLine ps p) (one-more before q pieces) (fits-there (before ++ q ∷ []) pieces p more fits.1)
