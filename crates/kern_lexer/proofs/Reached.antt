-- The tokens and the fault of the bytes behind some pieces.
use Rattle.std.proofs.Common.{◌≡◌, ◌∙◌, ◌++◌, List, [], ◌∷◌, ap, refl, sym, subst, append_assoc, append-nil, Result, Ok, Err}
use Rattle.kern_lexer.specs.Answers.{HasTokens, HasFault}
use Rattle.kern_lexer.specs.Bytes.{Bytes}
use Rattle.kern_lexer.specs.Cuts.{IsCut}
use Rattle.kern_lexer.specs.Faults.{LexFault}
use Rattle.kern_lexer.specs.Layouts.{place_behind, made_behind}
use Rattle.kern_lexer.specs.Made.{tokens_made, tokens_of_end}
use Rattle.kern_lexer.specs.Pieces.{Piece, StandsRightly, bytes_of_piece, bytes_of_pieces}
use Rattle.kern_lexer.specs.Steps.{text_after}
use Rattle.kern_lexer.specs.Wrong.{FitsLine, EachFits, IsWrong}
use Rattle.kern_lexer.specs.declared.fault.LexKind.{LexKind}
use Rattle.kern_lexer.specs.declared.token.Token.{Token}
use Rattle.kern_lexer.proofs.LayoutLemmas.{one-more}

-- the bytes behind some pieces make these tokens
pub record MakesBehind (before : List Piece) (bytes : Bytes) (tokens : List Token) : Type 0 where
  pub pieces : List Piece
  pub cut : IsCut bytes pieces []
  pub fits : EachFits before pieces
  pub made : tokens ≡ made_behind tokens_made before pieces ++ tokens_of_end (before ++ pieces)

-- the bytes behind some pieces have this fault
pub record FailsBehind (before : List Piece) (bytes : Bytes) (fault : LexFault) : Type 0 where
  pub pieces : List Piece
  pub rest : Bytes
  pub cut : IsCut bytes pieces rest
  pub fits : EachFits before pieces
  pub at : fault.at ≡ place_behind (before ++ pieces)
  pub wrong : IsWrong fault.kind (before ++ pieces) rest

-- what is read of the bytes behind some pieces is what they have
abbrev pub IsReadBehind : List Piece → Bytes → Result (List Token) LexFault → Type 0
IsReadBehind before bytes (Ok tokens) = MakesBehind before bytes tokens
IsReadBehind before bytes (Err fault) = FailsBehind before bytes fault

-- one more piece in front of a cut
cut-more : (p : Piece) (following : Bytes) (pieces : List Piece) (rest : Bytes) → StandsRightly p following
    → IsCut following pieces rest → IsCut (bytes_of_piece p ++ following) (p ∷ pieces) rest
cut-more p following pieces rest stands cut = record {
  whole = ap (λ bytes. bytes_of_piece p ++ bytes) cut.whole
      ∙ sym (append_assoc (bytes_of_piece p) (bytes_of_pieces pieces) rest);
  each = (subst (StandsRightly p) cut.whole stands, cut.each);
}

-- a piece in front of what is read
pub read-more : (before : List Piece) (p : Piece) (following : Bytes) (read : Result (List Token) LexFault)
    → StandsRightly p following → FitsLine before p → IsReadBehind (before ++ p ∷ []) following read
    → IsReadBehind before (bytes_of_piece p ++ following) (text_after (tokens_made before p) read)
read-more before p following (Ok tokens) stands fits is = record {
  pieces = p ∷ is.pieces;
  cut = cut-more p following is.pieces [] stands is.cut;
  fits = (fits, is.fits);
  made = ap (λ ts. tokens_made before p ++ ts) is.made
      ∙ sym (append_assoc (tokens_made before p) (made_behind tokens_made (before ++ p ∷ []) is.pieces) (tokens_of_end ((before ++ p ∷ []) ++ is.pieces)))
      ∙ ap (λ ps. made_behind tokens_made before (p ∷ is.pieces) ++ tokens_of_end ps) (one-more before p is.pieces);
}
read-more before p following (Err fault) stands fits is = record {
  pieces = p ∷ is.pieces;
  rest = is.rest;
  cut = cut-more p following is.pieces is.rest stands is.cut;
  fits = (fits, is.fits);
  at = is.at ∙ ap place_behind (one-more before p is.pieces);
  wrong = subst (λ ps. IsWrong fault.kind ps is.rest) (one-more before p is.pieces) is.wrong;
}

-- what is wrong at once
pub read-wrong : (before : List Piece) (bytes : Bytes) (kind : LexKind) → IsWrong kind before bytes
    → FailsBehind before bytes (record { at = place_behind before; kind = kind })
read-wrong before bytes kind wrong = record {
  pieces = [];
  rest = bytes;
  cut = record { whole = refl; each = tt };
  fits = tt;
  at = ap place_behind (sym (append-nil before));
  wrong = subst (λ ps. IsWrong kind ps bytes) (sym (append-nil before)) wrong;
}

-- the end of a text
pub read-end : (before : List Piece) → MakesBehind before [] (tokens_of_end before)
read-end before = record {
  pieces = [];
  cut = record { whole = refl; each = tt };
  fits = tt;
  made = ap tokens_of_end (sym (append-nil before));
}

-- what a text has behind no pieces
pub has-tokens : (text : Bytes) (tokens : List Token) → MakesBehind [] text tokens → HasTokens text tokens
has-tokens text tokens makes = record { pieces = makes.pieces; cut = makes.cut; fits = makes.fits; made = makes.made }

pub has-fault : (text : Bytes) (fault : LexFault) → FailsBehind [] text fault → HasFault text fault
has-fault text fault fails = record {
  pieces = fails.pieces;
  rest = fails.rest;
  cut = fails.cut;
  fits = fails.fits;
  at = fails.at;
  wrong = fails.wrong;
}
