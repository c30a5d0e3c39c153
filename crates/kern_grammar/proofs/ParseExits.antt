-- What `parse` needs: the tokens of a text end with their End, and are spelled.
use Rattle.std.proofs.Common.{◌≡◌, suc, ◌-◌, ◌≤◌, true, List, [], ◌∷◌, ◌++◌, refl, sym, ◌∙◌, ap, subst, arith, append_assoc, ◌^◌, length, length-append, All}
use Rattle.std.proofs.lemmas.Bool.{lt-ltb}
use Rattle.std.proofs.lemmas.List.{map-append}
use Rattle.std.specs.List.{list_all}
use Rattle.std.specs.Prelude.{Ok, Err, ◌&&◌, IsTrue}
use Rattle.kern_lexer.specs.Bytes.{Bytes}
use Rattle.kern_lexer.specs.Spelled.{IsInner, IsInnerToken, IsEndToken, EndsOnce}
use Rattle.kern_lexer.specs.Symbols.{Symbol, Lexeme, name, key, number, quoted, sign, newline, indent, dedent, end, symbol_of, lexeme_of, lexemes_of}
use Rattle.kern_lexer.specs.declared.token.Token.{Token}
use Rattle.kern_syntax.specs.Spellable.{IsSpellableProgram}
use Rattle.kern_syntax.specs.Tree.{ProgramTree}
use Rattle.kern_grammar.specs.Accepted.{HasTree, IsFirstFault}
use Rattle.kern_grammar.specs.BlockPlans.{program_plan}
use Rattle.kern_grammar.specs.Plans.{Taken, run}
use Rattle.kern_grammar.specs.Spelled.{is_spelled, are_spelled, symbols_in}
use Rattle.kern_grammar.proofs.EndLast.{Endless, ends-once, nothing-behind, no-fault_at_end}
use Rattle.kern_grammar.proofs.ProgramReads.{takes-program, fault-is_first, has_tree-read, read-has_tree}
use Rattle.kern_grammar.proofs.SpelledLists.{symbols-of}
use Rattle.kern_grammar.proofs.SpelledTrees.{program_spelled}

-- a symbol before the End is spelled, and is no End
inner_spelled : (s : Symbol) → IsInner s → is_spelled s ≡ true
inner_spelled (name x) h = h
inner_spelled (number n) h = lt-ltb n (2 ^ 63) h
inner_spelled (quoted t) h = h
inner_spelled (key k) h = refl
inner_spelled (sign s) h = refl
inner_spelled newline h = refl
inner_spelled indent h = refl
inner_spelled dedent h = refl
inner_spelled end h = absurd h

inner_endless : (s : Symbol) → IsInner s → s ≡ end → ⊥
inner_endless (name x) h e = cc
inner_endless (number n) h e = cc
inner_endless (quoted t) h e = cc
inner_endless (key k) h e = cc
inner_endless (sign s) h e = cc
inner_endless newline h e = cc
inner_endless indent h e = cc
inner_endless dedent h e = cc
inner_endless end h e = h

last_symbol : (text : Bytes) (last : Token) → IsEndToken text last → symbol_of text last.at last.len last.kind ≡ end
last_symbol text last h = ap (symbol_of text last.at last.len) h.kind

-- the first of some tokens, and the others
first_of_all : (text : Bytes) (t : Token) (before : List Token) → All (IsInnerToken text) (t ∷ before) → IsInnerToken text t
first_of_all text t before a = a 0 t (omega arith)

others_of_all : (text : Bytes) (t : Token) (before : List Token) → All (IsInnerToken text) (t ∷ before) → All (IsInnerToken text) before
others_of_all text t before a = λ k d h. a (suc k) d (omega (arith, h))

all_spelled : (text : Bytes) (before : List Token) (last : Token) → All (IsInnerToken text) before → IsEndToken text last → list_all is_spelled (symbols_in text (before ++ last ∷ [])) ≡ true
all_spelled text [] last a e = ap (λ s. is_spelled s && true) (last_symbol text last e)
all_spelled text (t ∷ before) last a e = ap (λ b. b && list_all is_spelled (symbols_in text (before ++ last ∷ []))) (inner_spelled (symbol_of text t.at t.len t.kind) (first_of_all text t before a).inner) ∙ all_spelled text before last (others_of_all text t before a) e

pub lexed-spelled : (text : Bytes) (tokens : List Token) → EndsOnce text tokens → IsTrue (are_spelled text tokens)
unfolding are_spelled
lexed-spelled text tokens h = subst (λ y. list_all is_spelled (symbols_in text y) ≡ true) (sym h.whole) (all_spelled text h.before h.last h.each h.ends)

-- tokens that end with an End, and have no other
pub record Ended (tokens : List Lexeme) : Type 0 where
  pub front : List Lexeme
  pub last_token : Lexeme
  pub whole : tokens ≡ front ++ (last_token ∷ [])
  pub is_end : last_token.symbol ≡ end
  pub endless : Endless front

all_endless : (text : Bytes) (before : List Token) → All (IsInnerToken text) before → Endless (lexemes_of text before)
all_endless text [] a = tt
all_endless text (t ∷ before) a = (inner_endless (symbol_of text t.at t.len t.kind) (first_of_all text t before a).inner, all_endless text before (others_of_all text t before a))

pub lexed-ended : (text : Bytes) (tokens : List Token) → EndsOnce text tokens → Ended (lexemes_of text tokens)
lexed-ended text tokens h = record {
  front = lexemes_of text h.before;
  last_token = lexeme_of text h.last;
  whole = ap (lexemes_of text) h.whole ∙ map-append (lexeme_of text) h.before (h.last ∷ []);
  is_end = last_symbol text h.last h.ends;
  endless = all_endless text h.before h.each;
}

-- a program is read to the End
pub nothing-left : (tokens : List Lexeme) → Ended tokens → (p : ProgramTree) (rest : List Lexeme) → run program_plan tokens ≡ Ok (p, rest) → rest ≡ []
nothing-left tokens e p rest h =
    let f = takes-program.found tokens p rest h in
    let o = ends-once p f.front f.is_phrase in
    let all : o.front ++ (o.last_token ∷ rest) ≡ e.front ++ (e.last_token ∷ []) = sym (append_assoc o.front (o.last_token ∷ []) rest) ∙ sym (ap (λ y. y ++ rest) o.whole) ∙ sym f.whole ∙ e.whole in
    nothing-behind o.front o.last_token e.last_token rest e.front o.is_end all e.endless

-- so the tokens have the tree that was read
pub read-lexed : (text : Bytes) (tokens : List Token) → EndsOnce text tokens → (p : ProgramTree) (rest : List Lexeme) → run program_plan (lexemes_of text tokens) ≡ Ok (p, rest) → HasTree (lexemes_of text tokens) p
read-lexed text tokens e p rest h = read-has_tree (lexemes_of text tokens) p (h ∙ ap (λ y. Ok (p, y)) (nothing-left (lexemes_of text tokens) (lexed-ended text tokens e) p rest h))

-- whose names, texts and integers are those of tokens
pub lexed-spellable : (text : Bytes) (tokens : List Token) → EndsOnce text tokens → (p : ProgramTree) → HasTree (lexemes_of text tokens) p → IsSpellableProgram p
unfolding are_spelled
lexed-spellable text tokens e p t = program_spelled p (lexemes_of text tokens) t.spelled (subst (λ y. IsTrue (list_all is_spelled y)) (sym (symbols-of text tokens)) (lexed-spelled text tokens e))

-- the place where reading stops is the first fault
pub fault-there : (tokens : List Lexeme) → Ended tokens → (left : List Lexeme) → run program_plan tokens ≡ Err left → IsFirstFault tokens (length tokens - length left)
fault-there tokens e [] h = absurd (no-fault_at_end e.front e.last_token e.is_end (ap (run program_plan) (sym e.whole) ∙ h))
fault-there tokens e (t ∷ rest) h = fault-is_first tokens t rest h

pub left-within : (tokens left : List Lexeme) → run program_plan tokens ≡ Err left → length left ≤ length tokens
left-within tokens left h = let f = takes-program.fault tokens left h in omega (arith, ap length f.whole, length-append f.before left)

-- one answer isn't two
apart : {A : Type 0} (r : Taken A) (x : A × List Lexeme) (left : List Lexeme) → r ≡ Ok x → r ≡ Err left → ⊥
apart r x left h g = let e : Ok x ≡ Err left = sym h ∙ g in cc

-- tokens that have a tree aren't refused
pub not-both : (tokens : List Lexeme) (p : ProgramTree) (left : List Lexeme) → HasTree tokens p → run program_plan tokens ≡ Err left → ⊥
not-both tokens p left h g = apart (run program_plan tokens) (p, []) left (has_tree-read tokens p h) g
