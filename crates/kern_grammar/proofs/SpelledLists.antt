-- The symbols of a text's tokens, and those that a text can have.
use Rattle.std.proofs.Common.{◌≡◌, ℕ, zero, suc, ◌+◌, ◌-◌, ◌≤◌, List, [], ◌∷◌, refl, sym, ap, subst, arith, length, take, drop, length-drop, get_or}
use Rattle.std.specs.Prelude.{IsTrue}
use Rattle.std.specs.List.{list_all}
use Rattle.std.proofs.lemmas.List.{take_all}
use Rattle.std.proofs.lemmas.Bool.{and_parts}
use Rattle.kern_lexer.specs.Bytes.{Bytes}
use Rattle.kern_lexer.specs.Names.{is_quotable}
use Rattle.kern_lexer.specs.Symbols.{bytes_at, symbol_of, lexemes_of}
use Rattle.kern_lexer.specs.declared.token.Token.{Token}
use Rattle.kern_lexer.specs.declared.token.TokenKind.TheVariants as T
use Rattle.kern_grammar.specs.Phrases.{symbols_of}
use Rattle.kern_grammar.specs.Spelled.{are_spelled, is_spelled, symbols_in}

-- the symbols of tokens with what they spell
pub symbols-of : (text : Bytes) (tokens : List Token) → symbols_of (lexemes_of text tokens) ≡ symbols_in text tokens
symbols-of text [] = refl
symbols-of text (t ∷ tokens) = ap (λ y. symbol_of text t.at t.len t.kind ∷ y) (symbols-of text tokens)

-- those behind the first are spelled as all are
pub tail_spelled : (text : Bytes) (tokens : List Token) → 1 ≤ length tokens → IsTrue (are_spelled text tokens) → IsTrue (are_spelled text (take (length tokens - 1) (drop 1 tokens)))
unfolding are_spelled
tail_spelled text [] h s = absurd (omega (arith, h))
tail_spelled text (t ∷ tokens) h s =
    subst (λ ts. IsTrue (list_all is_spelled (symbols_in text ts))) (sym (take_all (length (t ∷ tokens) - 1) tokens (omega arith)))
    (and_parts (is_spelled (symbol_of text t.at t.len t.kind)) (list_all is_spelled (symbols_in text tokens)) s).1

-- the first is
first_spelled : (text : Bytes) (tokens : List Token) (d : Token) → 1 ≤ length tokens → IsTrue (are_spelled text tokens) → IsTrue (is_spelled (symbol_of text (get_or tokens 0 d).at (get_or tokens 0 d).len (get_or tokens 0 d).kind))
unfolding are_spelled
first_spelled text [] d h s = absurd (omega (arith, h))
first_spelled text (t ∷ tokens) d h s = (and_parts (is_spelled (symbol_of text t.at t.len t.kind)) (list_all is_spelled (symbols_in text tokens)) s).0

-- a first text in quotes can be quoted
pub first_quotable : (text : Bytes) (tokens : List Token) (d : Token) → 1 ≤ length tokens → IsTrue (are_spelled text tokens) → (get_or tokens 0 d).kind ≡ T.Text → IsTrue (is_quotable (bytes_at ((get_or tokens 0 d).at + 1) ((get_or tokens 0 d).len - 2) text))
first_quotable text tokens d h s e =
    subst (λ k. IsTrue (is_spelled (symbol_of text (get_or tokens 0 d).at (get_or tokens 0 d).len k))) e (first_spelled text tokens d h s)

-- tokens further on are spelled as all are
pub drop_spelled : (text : Bytes) (tokens : List Token) (n : ℕ) → IsTrue (are_spelled text tokens) → IsTrue (are_spelled text (drop n tokens))
unfolding are_spelled
drop_spelled text tokens zero s = s
drop_spelled text [] (suc n) s = s
drop_spelled text (t ∷ tokens) (suc n) s = drop_spelled text tokens n (and_parts (is_spelled (symbol_of text t.at t.len t.kind)) (list_all is_spelled (symbols_in text tokens)) s).1

-- so are the last of them
pub last_spelled : (text : Bytes) (tokens : List Token) (start : ℕ) → IsTrue (are_spelled text tokens) → IsTrue (are_spelled text (take (length tokens - start) (drop start tokens)))
last_spelled text tokens start s =
    subst (λ ts. IsTrue (are_spelled text ts)) (sym (take_all (length tokens - start) (drop start tokens) (omega (arith, length-drop start tokens)))) (drop_spelled text tokens start s)
