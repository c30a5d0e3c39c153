-- How statements begin, and what may follow them.
use Rattle.std.proofs.Common.{ℕ, List, [], ◌∷◌, ◌++◌, refl, sym, ◌∙◌, ap, subst}
use Rattle.std.specs.Prelude.{not}
use Rattle.kern_lexer.specs.Symbols.{Symbol, Lexeme, key}
use Rattle.kern_lexer.specs.declared.token.Key.TheVariants as K
use Rattle.kern_syntax.specs.Grammatical.{IsStatement}
use Rattle.kern_syntax.specs.Tree.{Statement, pass, break, continue, return, evaluate, assign, assign_element, augment, augment_element, assign_repeated, assign_list, if_then, while_do, for_range, parallel, sequential, record_as, try_do, Otherwise, no_else, else_do, elif_then}
use Rattle.kern_grammar.specs.BlockPlans.{line_phrase, is_line, otherwise_stop, statement_stop, line_stop}
use Rattle.kern_grammar.specs.Blocks.{statement}
use Rattle.kern_grammar.specs.Phrases.{simple_line}
use Rattle.kern_grammar.proofs.Many.{BeginsWith, IsItem}
use Rattle.kern_grammar.proofs.SimpleInto.{NoBranch, Marks, word_marks, into-simple}
use Rattle.kern_grammar.proofs.Steps.{StartsWith, starts}

-- what a statement's tokens begin with
pub record LineStart (tokens : List Lexeme) : Type 0 where
  pub first : Symbol
  pub begins : StartsWith first tokens
  pub marks : Marks first

simple_start : (room : ℕ) (s : Statement) (tokens : List Lexeme) → IsStatement room s → simple_line s tokens → LineStart tokens
simple_start room s tokens f h = let i = into-simple (λ s. s) room s tokens f h in record { first = i.first; begins = i.begins; marks = i.marks }

pub line-start : (room : ℕ) (s : Statement) (tokens : List Lexeme) → IsStatement room s → statement s tokens → LineStart tokens
line-start room (if_then c b more) tokens f h = record { first = key K.If; begins = starts tokens (key K.If) _ _ h; marks = word_marks (key K.If) refl refl refl refl refl }
line-start room (while_do c b) tokens f h = record { first = key K.While; begins = starts tokens (key K.While) _ _ h; marks = word_marks (key K.While) refl refl refl refl refl }
line-start room (for_range x from to b) tokens f h = record { first = key K.For; begins = starts tokens (key K.For) _ _ h; marks = word_marks (key K.For) refl refl refl refl refl }
line-start room (parallel b) tokens f h = record { first = key K.With; begins = starts tokens (key K.With) _ _ h; marks = word_marks (key K.With) refl refl refl refl refl }
line-start room (sequential b) tokens f h = record { first = key K.With; begins = starts tokens (key K.With) _ _ h; marks = word_marks (key K.With) refl refl refl refl refl }
line-start room (record_as text b) tokens f h = record { first = key K.With; begins = starts tokens (key K.With) _ _ h; marks = word_marks (key K.With) refl refl refl refl refl }
line-start room (try_do b handlers) tokens f h = record { first = key K.Try; begins = starts tokens (key K.Try) _ _ h; marks = word_marks (key K.Try) refl refl refl refl refl }
line-start room pass tokens f h = simple_start room pass tokens f h
line-start room break tokens f h = simple_start room break tokens f h
line-start room continue tokens f h = simple_start room continue tokens f h
line-start room (return e) tokens f h = simple_start room (return e) tokens f h
line-start room (evaluate e) tokens f h = simple_start room (evaluate e) tokens f h
line-start room (assign x e) tokens f h = simple_start room (assign x e) tokens f h
line-start room (assign_element x i e) tokens f h = simple_start room (assign_element x i e) tokens f h
line-start room (augment x op e) tokens f h = simple_start room (augment x op e) tokens f h
line-start room (augment_element x i op e) tokens f h = simple_start room (augment_element x i op e) tokens f h
line-start room (assign_repeated x e n) tokens f h = simple_start room (assign_repeated x e n) tokens f h
line-start room (assign_list x es) tokens f h = simple_start room (assign_list x es) tokens f h

-- what follows an `if` where no branch begins
stop-otherwise : (o : Otherwise) (t : Lexeme) (rest : List Lexeme) → NoBranch t.symbol → otherwise_stop o (t ∷ rest)
stop-otherwise no_else t rest n = (ap not n.no_else, ap not n.no_elif)
stop-otherwise (else_do b) t rest n = tt
stop-otherwise (elif_then line c b more) t rest n = stop-otherwise more t rest n

pub stop-statement : (s : Statement) (t : Lexeme) (rest : List Lexeme) → NoBranch t.symbol → statement_stop s (t ∷ rest)
stop-statement (if_then c b more) t rest n = stop-otherwise more t rest n
stop-statement (try_do b handlers) t rest n = ap not n.no_except
stop-statement pass t rest n = tt
stop-statement break t rest n = tt
stop-statement continue t rest n = tt
stop-statement (return e) t rest n = tt
stop-statement (evaluate e) t rest n = tt
stop-statement (assign x e) t rest n = tt
stop-statement (assign_element x i e) t rest n = tt
stop-statement (augment x op e) t rest n = tt
stop-statement (augment_element x i op e) t rest n = tt
stop-statement (assign_repeated x e n0) t rest n = tt
stop-statement (assign_list x es) t rest n = tt
stop-statement (while_do c b) t rest n = tt
stop-statement (for_range x from to b) t rest n = tt
stop-statement (parallel b) t rest n = tt
stop-statement (sequential b) t rest n = tt
stop-statement (record_as text b) t rest n = tt

-- a statement before one that begins so
begun : (s : Statement) (front rest : List Lexeme) → LineStart front → statement_stop s (front ++ rest)
begun s [] rest l = absurd l.begins
begun s (t ∷ front) rest l = stop-statement s t (front ++ rest) (subst NoBranch (sym l.begins) l.marks.no_branch)

begun-line : (front : List Lexeme) → LineStart front → BeginsWith is_line front
begun-line [] l = absurd l.begins
begun-line (t ∷ front) l = ap is_line l.begins ∙ l.marks.in_block

pub lines-items : (room : ℕ) → IsItem (line_phrase room) line_stop is_line
lines-items room = record {
  begins = λ x front p. begun-line front (line-start room x.1 front p.1 p.0.1);
  chains = λ x y front rest p. begun x.1 front rest (line-start room y.1 front p.1 p.0.1);
}
