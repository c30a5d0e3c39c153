-- Lemmas on a line as its code and what follows that: a comment, or a carriage return that is skipped.
use Rattle.std.proofs.Common.{◌≡◌, ℕ, suc, ◌∙◌, ◌++◌, ◌&&◌, Bool, true, false, cond, not, List, [], ◌∷◌, drop, zero, ap, refl, sym, append_assoc, append-nil, nat_eq}
use Rattle.std.specs.List.{list_all, before_first}
use Rattle.std.proofs.lemmas.Bool.{eqb-true, not-true, and_parts}
use Rattle.std.proofs.lemmas.List.Sums.{take_while-cons}
use Rattle.kern_lexer.specs.Bytes.{Bytes, line_feed, carriage_return, number_sign}
use Rattle.kern_lexer.specs.Cuts.{EachStands}
use Rattle.kern_lexer.specs.Lines.{without_return, without_comment}
use Rattle.kern_lexer.specs.Pieces.{Piece, blank, skipped_return, comment, line_end, word, bytes_of_pieces, begins_line_end}
use Rattle.kern_lexer.specs.Wrong.{begins_no_word}
use Rattle.kern_lexer.proofs.StopLemmas.{Stops}

-- a piece that makes no token and ends no line
abbrev pub is_quiet : Piece → Bool
is_quiet blank = true
is_quiet skipped_return = true
is_quiet (comment body) = true
is_quiet line_end = false
is_quiet (word kind bytes) = false

-- no byte of a line's code begins a comment, a line's end or a carriage return before one
abbrev pub IsClean : (code stop : Bytes) → Type 0
IsClean [] stop = Unit {0}
IsClean (b ∷ rest) stop = (begins_no_word (b ∷ (rest ++ stop)) ≡ false) × IsClean rest stop

pub clean-drop : (n : ℕ) (code stop : Bytes) → IsClean code stop → IsClean (drop n code) stop
clean-drop zero code stop clean = clean
clean-drop (suc n) [] stop clean = tt
clean-drop (suc n) (b ∷ code) stop clean = clean-drop n code stop clean.1

-- a line without a line feed
abbrev pub HasNoFeed : Bytes → Type 0
HasNoFeed line = list_all (λ b. not (nat_eq b line_feed)) line ≡ true

-- a line is its code and some pieces that make nothing
pub record LineCut (line code following : Bytes) : Type 0 where
  pub tail : List Piece
  pub whole : code ++ bytes_of_pieces tail ≡ line
  pub stands : EachStands tail following
  pub clean : IsClean code (bytes_of_pieces tail ++ following)
  pub stops : Stops (bytes_of_pieces tail ++ following)
  pub quiet : list_all is_quiet tail ≡ true

-- the first byte isn't a line feed, nor any of the others
feed-parts : (b : ℕ) (rest : Bytes) → HasNoFeed (b ∷ rest) → (nat_eq b line_feed ≡ false) × HasNoFeed rest
feed-parts b rest none =
    let parts = and_parts (not (nat_eq b line_feed)) (list_all (λ b. not (nat_eq b line_feed)) rest) none in
    (not-true (nat_eq b line_feed) parts.0, parts.1)

-- so a comment that begins in a line has all of its bytes
comment-ended : (body more : Bytes) → HasNoFeed body → before_first (λ b. nat_eq b line_feed) (body ++ line_feed ∷ more) ≡ body
comment-ended [] more none = refl
comment-ended (b ∷ body) more none =
    let parts = feed-parts b body none in
    take_while-cons (λ b. not (nat_eq b line_feed)) b (body ++ line_feed ∷ more)
    ∙ rw (parts.0) (ap (λ bytes. b ∷ bytes) (comment-ended body more parts.1))

comment-last : (body : Bytes) → HasNoFeed body → before_first (λ b. nat_eq b line_feed) (body ++ []) ≡ body
comment-last [] none = refl
comment-last (b ∷ body) none =
    let parts = feed-parts b body none in
    take_while-cons (λ b. not (nat_eq b line_feed)) b (body ++ [])
    ∙ rw (parts.0) (ap (λ bytes. b ∷ bytes) (comment-last body parts.1))

-- the code of a line by its first byte
code-first : (b : ℕ) (rest : Bytes) (t : Bool) → nat_eq b number_sign ≡ t
    → without_comment (b ∷ rest) ≡ cond t [] (b ∷ without_comment rest)
code-first b rest true is = take_while-cons (λ b. not (nat_eq b number_sign)) b rest ∙ rw is refl
code-first b rest false is = take_while-cons (λ b. not (nat_eq b number_sign)) b rest ∙ rw is refl

-- a byte of the code, before what the line goes on with
code-byte : (b : ℕ) (following : Bytes) → nat_eq b number_sign ≡ false → nat_eq b line_feed ≡ false
    → (nat_eq b carriage_return && begins_line_end following) ≡ false → begins_no_word (b ∷ following) ≡ false
code-byte b following no_comment no_feed no_return = rw (no_comment, no_feed, no_return) refl

and_false : (t : Bool) (other : Bool) → other ≡ false → (t && other) ≡ false
and_false true other is = is
and_false false other is = refl

-- one more byte of code
code-more : (b : ℕ) (rest code following : Bytes) → nat_eq b number_sign ≡ false → nat_eq b line_feed ≡ false
    → (nat_eq b carriage_return && begins_line_end (rest ++ following)) ≡ false
    → LineCut rest code following → LineCut (b ∷ rest) (b ∷ code) following
code-more b rest code following no_comment no_feed no_return cut = record {
  tail = cut.tail;
  whole = ap (λ bytes. b ∷ bytes) cut.whole;
  stands = cut.stands;
  clean = (code-byte b (code ++ (bytes_of_pieces cut.tail ++ following)) no_comment no_feed (ap (λ bytes. nat_eq b carriage_return && begins_line_end bytes) (sym (append_assoc code (bytes_of_pieces cut.tail) following) ∙ ap (λ bytes. bytes ++ following) cut.whole) ∙ no_return), cut.clean);
  stops = cut.stops;
  quiet = cut.quiet;
}

-- nothing is left of the line
nothing-ended : (more : Bytes) → LineCut [] [] (line_feed ∷ more)
nothing-ended more = record { tail = []; whole = refl; stands = tt; clean = tt; stops = refl; quiet = refl }

-- a comment
comment-cut : (b : ℕ) (body following : Bytes) → nat_eq b number_sign ≡ true
    → before_first (λ b. nat_eq b line_feed) (body ++ following) ≡ body → LineCut (b ∷ body) [] following
comment-cut b body following is all = record {
  tail = comment body ∷ [];
  whole = ap (λ c. c ∷ (body ++ [])) (sym (eqb-true b number_sign is)) ∙ ap (λ bytes. b ∷ bytes) (append-nil body);
  stands = (all, tt);
  clean = tt;
  stops = refl;
  quiet = refl;
}

-- a line that a line feed ends
pub ended-cut : (line more : Bytes) → HasNoFeed line
    → LineCut line (without_comment (without_return line)) (line_feed ∷ more)
ended-cut [] more none = nothing-ended more
ended-cut (b ∷ []) more none = at_last (nat_eq b carriage_return) (nat_eq b number_sign) refl refl
  where
    at_last : (r c : Bool) → nat_eq b carriage_return ≡ r → nat_eq b number_sign ≡ c
        → LineCut (b ∷ []) (without_comment (without_return (b ∷ []))) (line_feed ∷ more)
    at_last true c is comments = rw is (record {
      tail = skipped_return ∷ [];
      whole = ap (λ c. c ∷ []) (sym (eqb-true b carriage_return is));
      stands = (refl, tt);
      clean = tt;
      stops = refl;
      quiet = refl;
    })
    at_last false true is comments =
        let kept : without_comment (without_return (b ∷ [])) ≡ [] = rw is (code-first b [] true comments) in
        rw kept (comment-cut b [] (line_feed ∷ more) comments refl)
    at_last false false is comments =
        let kept : without_comment (without_return (b ∷ [])) ≡ b ∷ [] = rw is (code-first b [] false comments) in
        rw kept (code-more b [] [] (line_feed ∷ more) comments (feed-parts b [] none).0 (rw is refl) (nothing-ended more))
ended-cut (b ∷ c ∷ rest) more none = at_first (nat_eq b number_sign) refl (ended-cut (c ∷ rest) more others)
  where
    others : HasNoFeed (c ∷ rest)
    others = (feed-parts b (c ∷ rest) none).1

    at_first : (t : Bool) → nat_eq b number_sign ≡ t
        → LineCut (c ∷ rest) (without_comment (without_return (c ∷ rest))) (line_feed ∷ more)
        → LineCut (b ∷ c ∷ rest) (without_comment (without_return (b ∷ c ∷ rest))) (line_feed ∷ more)
    at_first true is later =
        let kept : without_comment (without_return (b ∷ c ∷ rest)) ≡ [] = code-first b (without_return (c ∷ rest)) true is in
        rw kept (comment-cut b (c ∷ rest) (line_feed ∷ more) is (comment-ended (c ∷ rest) more others))
    at_first false is later =
        let kept : without_comment (without_return (b ∷ c ∷ rest)) ≡ b ∷ without_comment (without_return (c ∷ rest)) = code-first b (without_return (c ∷ rest)) false is in
        rw kept (code-more b (c ∷ rest) (without_comment (without_return (c ∷ rest))) (line_feed ∷ more) is (feed-parts b (c ∷ rest) none).0 (and_false (nat_eq b carriage_return) (nat_eq c line_feed) (feed-parts c rest others).0) later)

-- the last line
pub last-cut : (line : Bytes) → HasNoFeed line → LineCut line (without_comment line) []
last-cut [] none = record { tail = []; whole = refl; stands = tt; clean = tt; stops = tt; quiet = refl }
last-cut (b ∷ rest) none = at_first (nat_eq b number_sign) refl (last-cut rest (feed-parts b rest none).1)
  where
    no_feed_next : (bytes : Bytes) → HasNoFeed bytes → begins_line_end (bytes ++ []) ≡ false
    no_feed_next [] others = refl
    no_feed_next (c ∷ bytes) others = (feed-parts c bytes others).0

    at_first : (t : Bool) → nat_eq b number_sign ≡ t → LineCut rest (without_comment rest) []
        → LineCut (b ∷ rest) (without_comment (b ∷ rest)) []
    at_first true is later =
        let kept : without_comment (b ∷ rest) ≡ [] = code-first b rest true is in
        rw kept (comment-cut b rest [] is (comment-last rest (feed-parts b rest none).1))
    at_first false is later =
        let kept : without_comment (b ∷ rest) ≡ b ∷ without_comment rest = code-first b rest false is in
        rw kept (code-more b rest (without_comment rest) [] is (feed-parts b rest none).0 (and_false (nat_eq b carriage_return) _ (no_feed_next rest (feed-parts b rest none).1)) later)
