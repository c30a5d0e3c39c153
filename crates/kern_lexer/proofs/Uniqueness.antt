-- A text has one list of tokens or one first fault, and going over its lines gives it.
use Rattle.std.proofs.Common.{◌≡◌, ◌⊎◌, inl, inr, ◌∙◌, ◌++◌, List, [], ◌∷◌, ap, refl, sym, subst, append-nil, append_assoc, Result, Ok, Err}
use Rattle.kern_lexer.specs.Answers.{HasTokens, HasFault}
use Rattle.kern_lexer.specs.Bytes.{Bytes}
use Rattle.kern_lexer.specs.Cuts.{EachStands}
use Rattle.kern_lexer.specs.Faults.{LexFault}
use Rattle.kern_lexer.specs.Layouts.{place_behind}
use Rattle.kern_lexer.specs.Made.{tokens_of_pieces}
use Rattle.kern_lexer.specs.Pieces.{Piece, bytes_of_piece, bytes_of_pieces}
use Rattle.kern_lexer.specs.Tokens.{tokens_of}
use Rattle.kern_lexer.specs.Wrong.{EachFits, IsWrong}
use Rattle.kern_lexer.specs.declared.fault.LexKind.{LexKind}
use Rattle.kern_lexer.specs.declared.token.Token.{Token}
use Rattle.kern_lexer.proofs.OneCut.{GoesOn, cuts-agree, none-left, one-kind, not-wrong, nothing-wrong, fits-there}
use Rattle.kern_lexer.proofs.TextReads.{given-tokens, given-fault}

-- no pieces go on from those of a whole text
nothing-more : (more : List Piece) → [] ≡ bytes_of_pieces more ++ [] → EachStands more [] → more ≡ []
nothing-more [] nothing each = refl
nothing-more (p ∷ more) nothing each =
    absurd (none-left p (bytes_of_pieces more ++ []) each.0 (nothing ∙ append_assoc (bytes_of_piece p) (bytes_of_pieces more) []))

same-pieces : (pieces others : List Piece) → GoesOn pieces others [] [] → others ≡ pieces
same-pieces pieces others on =
    on.is ∙ ap (λ ps. pieces ++ ps) (nothing-more on.more on.bytes on.each) ∙ append-nil pieces

-- a text has at most one list of tokens
pub one-list : (text : Bytes) (a b : List Token) → HasTokens text a → HasTokens text b → a ≡ b
one-list text a b first second =
    first.made ∙ ap tokens_of_pieces (same (cuts-agree first.pieces second.pieces [] [] (sym ((first.cut).whole) ∙ (second.cut).whole) (first.cut).each (second.cut).each)) ∙ sym second.made
  where
    same : GoesOn first.pieces second.pieces [] [] ⊎ GoesOn second.pieces first.pieces [] [] → first.pieces ≡ second.pieces
    same (inl on) = sym (same-pieces first.pieces second.pieces on)
    same (inr on) = same-pieces second.pieces first.pieces on

-- where something is wrong no pieces go on
wrong-ends : (kind : LexKind) (pieces more : List Piece) (rest left : Bytes) → IsWrong kind pieces rest
    → EachFits [] (pieces ++ more) → rest ≡ bytes_of_pieces more ++ left → EachStands more left → more ≡ []
wrong-ends kind pieces [] rest left wrong fits bytes each = refl
wrong-ends kind pieces (p ∷ more) rest left wrong fits bytes each =
    absurd (not-wrong kind pieces p (bytes_of_pieces more ++ left)
    (subst (IsWrong kind pieces) (bytes ∙ append_assoc (bytes_of_piece p) (bytes_of_pieces more) left) wrong)
    each.0 (fits-there [] pieces p more fits))

-- so the rest is the same
wrong-there : (text : Bytes) (fault : LexFault) (has : HasFault text fault) (others : List Piece) (left : Bytes)
    → EachFits [] others → GoesOn has.pieces others has.rest left → (others ≡ has.pieces) × (has.rest ≡ left)
wrong-there text fault has others left fits on =
    let none : on.more ≡ [] = wrong-ends fault.kind has.pieces on.more has.rest left has.wrong (subst (EachFits []) on.is fits) on.bytes on.each in
    (on.is ∙ ap (λ ps. has.pieces ++ ps) none ∙ append-nil has.pieces, on.bytes ∙ ap (λ ps. bytes_of_pieces ps ++ left) none)

-- a text has at most one first fault
pub one-fault : (text : Bytes) (a b : LexFault) → HasFault text a → HasFault text b → a ≡ b
one-fault text a b first second =
    same (cuts-agree first.pieces second.pieces first.rest second.rest (sym ((first.cut).whole) ∙ (second.cut).whole) (first.cut).each (second.cut).each)
  where
    told : (pieces : List Piece) (rest : Bytes) → first.pieces ≡ pieces → first.rest ≡ rest → second.pieces ≡ pieces → second.rest ≡ rest → a ≡ b
    told pieces rest p r q s =
        let at : a.at ≡ b.at = first.at ∙ ap place_behind (p ∙ sym q) ∙ sym second.at in
        let wrong : IsWrong b.kind first.pieces first.rest =
        subst (IsWrong b.kind first.pieces) (s ∙ sym r) (subst (λ ps. IsWrong b.kind ps second.rest) (q ∙ sym p) second.wrong) in
        let kind : a.kind ≡ b.kind = one-kind a.kind b.kind first.pieces first.rest first.wrong wrong in
        ap (λ n. record { at = n; kind = a.kind }) at ∙ ap (λ k. record { at = b.at; kind = k }) kind

    same : GoesOn first.pieces second.pieces first.rest second.rest ⊎ GoesOn second.pieces first.pieces second.rest first.rest → a ≡ b
    same (inl on) =
        let is = wrong-there text a first second.pieces second.rest second.fits on in
        told first.pieces first.rest refl refl is.0 (sym is.1)
    same (inr on) =
        let is = wrong-there text b second first.pieces first.rest first.fits on in
        told second.pieces second.rest is.0 (sym is.1) refl refl

-- a text doesn't have both
pub not-both : (text : Bytes) (tokens : List Token) (fault : LexFault) → HasTokens text tokens → HasFault text fault → ⊥
not-both text tokens fault has fails =
    both (cuts-agree has.pieces fails.pieces [] fails.rest (sym ((has.cut).whole) ∙ (fails.cut).whole) (has.cut).each (fails.cut).each)
  where
    nothing : [] ≡ fails.rest → ⊥
    nothing none = nothing-wrong fault.kind fails.pieces (subst (IsWrong fault.kind fails.pieces) (sym none) fails.wrong)

    on_from : (more : List Piece) → [] ≡ bytes_of_pieces more ++ fails.rest → EachStands more fails.rest → ⊥
    on_from [] none each = nothing none
    on_from (p ∷ more) none each =
        none-left p (bytes_of_pieces more ++ fails.rest) each.0 (none ∙ append_assoc (bytes_of_piece p) (bytes_of_pieces more) fails.rest)

    both : GoesOn has.pieces fails.pieces [] fails.rest ⊎ GoesOn fails.pieces has.pieces fails.rest [] → ⊥
    both (inl on) = on_from on.more on.bytes on.each
    both (inr on) = nothing (sym ((wrong-there text fault fails has.pieces [] has.fits on).1))

-- and going over the lines gives what it has
pub tokens-given : (text : Bytes) (tokens : List Token) → HasTokens text tokens → tokens_of text ≡ Ok tokens
tokens-given text tokens has = by_result (tokens_of text) refl
  where
    by_result : (r : Result (List Token) LexFault) → tokens_of text ≡ r → tokens_of text ≡ Ok tokens
    by_result (Ok others) is = is ∙ ap Ok (one-list text others tokens (given-tokens text others is) has)
    by_result (Err fault) is = absurd (not-both text tokens fault has (given-fault text fault is))

pub fault-given : (text : Bytes) (fault : LexFault) → HasFault text fault → tokens_of text ≡ Err fault
fault-given text fault has = by_result (tokens_of text) refl
  where
    by_result : (r : Result (List Token) LexFault) → tokens_of text ≡ r → tokens_of text ≡ Err fault
    by_result (Ok tokens) is = absurd (not-both text tokens fault (given-tokens text tokens is) has)
    by_result (Err other) is = is ∙ ap Err (one-fault text other fault (given-fault text other is) has)
