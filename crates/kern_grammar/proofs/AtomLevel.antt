-- The level of atoms reads.
use Rattle.std.proofs.Common.{◌≡◌, ℕ, List, [], ◌∷◌, ◌++◌, refl, sym, ◌∙◌, ap, subst, arith}
use Rattle.std.specs.Prelude.{Ok, Err}
use Rattle.kern_lexer.specs.Bytes.{Bytes}
use Rattle.kern_lexer.specs.Symbols.{Symbol, name, key, number, sign}
use Rattle.kern_lexer.specs.declared.token.Key.TheVariants as K
use Rattle.kern_lexer.specs.declared.token.Sign.TheVariants as S
use Rattle.kern_syntax.specs.Grammatical.{Fits}
use Rattle.kern_syntax.specs.Tree.{Expression, integer, true_literal, false_literal, element, group, call, method, no_more}
use Rattle.kern_grammar.specs.Expressions.{expression_symbols}
use Rattle.kern_grammar.specs.Reading.{is_close_parenthesis, is_close_bracket, bare_atom, behind_dot, inside_of}
use Rattle.kern_grammar.proofs.Atoms.{ReadsArguments, AtomFound, one_symbol, from_between, group_form, element_form, call_form, method_form, called_fault}
use Rattle.kern_grammar.proofs.AtomReads.{between_fault, name_found}
use Rattle.kern_grammar.proofs.Phrased.{SameFirst, FaultOf}
use Rattle.kern_grammar.proofs.PrefixReads.{ReadsInside}
use Rattle.kern_grammar.proofs.RowFaults.{err_same, append_nil}

pub atom_found : (room : ℕ) → ReadsInside room → ReadsArguments room → (given : List Symbol) (e : Expression) (rest : List Symbol) → bare_atom (inside_of room) given ≡ Ok (e, rest) → AtomFound room given e rest
atom_found room i a [] e rest h = absurd cc
atom_found room i a (number n ∷ z) e rest h = one_symbol room (number n) (integer n) refl (omega arith, tt) (λ other. refl) z e rest h
atom_found room i a (key K.True ∷ z) e rest h = one_symbol room (key K.True) true_literal refl (omega arith, tt) (λ other. refl) z e rest h
atom_found room i a (key K.False ∷ z) e rest h = one_symbol room (key K.False) false_literal refl (omega arith, tt) (λ other. refl) z e rest h
atom_found room i a (name x ∷ z) e rest h = name_found room i a x z e rest h
atom_found room i a (sign S.OpenParenthesis ∷ z) e rest h = from_between room i [] (sign S.OpenParenthesis) (sign S.CloseParenthesis) is_close_parenthesis group group_form (λ z. refl) z e rest h
atom_found room i a (s ∷ z) e rest h = absurd cc

begins_so : (room : ℕ) (s : Symbol) → ((other : List Symbol) → bare_atom (inside_of room) (s ∷ other) ≡ Err (s ∷ other)) → (z other : List Symbol) → SameFirst (s ∷ z) other → bare_atom (inside_of room) other ≡ Err other
begins_so room s reads z [] f = absurd f
begins_so room s reads z (o ∷ other) f = subst (λ y. bare_atom (inside_of room) (y ∷ other) ≡ Err (y ∷ other)) f (reads other)

dotted_so : (room : ℕ) (x : Bytes) (s : Symbol) → ((other : List Symbol) → behind_dot (inside_of room) x (s ∷ other) ≡ Err (s ∷ other)) → (z other : List Symbol) → SameFirst (s ∷ z) other → bare_atom (inside_of room) (name x ∷ sign S.Dot ∷ other) ≡ Err other
dotted_so room x s reads z [] f = absurd f
dotted_so room x s reads z (o ∷ other) f = subst (λ y. bare_atom (inside_of room) (name x ∷ sign S.Dot ∷ (y ∷ other)) ≡ Err (y ∷ other)) f (reads other)

method_so : (room : ℕ) (x m : Bytes) (s : Symbol) → ((other : List Symbol) → behind_dot (inside_of room) x (name m ∷ s ∷ other) ≡ Err (s ∷ other)) → (z other : List Symbol) → SameFirst (s ∷ z) other → bare_atom (inside_of room) (name x ∷ sign S.Dot ∷ name m ∷ other) ≡ Err other
method_so room x m s reads z [] f = absurd f
method_so room x m s reads z (o ∷ other) f = subst (λ y. bare_atom (inside_of room) (name x ∷ sign S.Dot ∷ name m ∷ (y ∷ other)) ≡ Err (y ∷ other)) f (reads other)

-- a symbol that begins no atom is a fault, whatever follows
no_atom : (room : ℕ) (s : Symbol) → ((other : List Symbol) → bare_atom (inside_of room) (s ∷ other) ≡ Err (s ∷ other)) → (z left : List Symbol) → bare_atom (inside_of room) (s ∷ z) ≡ Err left → FaultOf expression_symbols (Fits 0 room) (bare_atom (inside_of room)) (s ∷ z) left
no_atom room s reads z left h =
    let same = err_same (bare_atom (inside_of room) (s ∷ z)) (s ∷ z) left (reads z) h in
    record {
      before = [];
      completion = integer 0;
      more = number 0 ∷ [];
      whole = same;
      fits = (omega arith, tt);
      completed = refl;
      same = λ other f. begins_so room s reads z other (subst (λ l. SameFirst l other) (sym same) f);
    }

-- behind a name and a dot, and behind the method's name
dot_fault : (room : ℕ) (x : Bytes) (s : Symbol) → ((other : List Symbol) → behind_dot (inside_of room) x (s ∷ other) ≡ Err (s ∷ other)) → (z left : List Symbol) → bare_atom (inside_of room) (name x ∷ sign S.Dot ∷ s ∷ z) ≡ Err left → FaultOf expression_symbols (Fits 0 room) (bare_atom (inside_of room)) (name x ∷ sign S.Dot ∷ s ∷ z) left
dot_fault room x s reads z left h =
    let same = err_same (bare_atom (inside_of room) (name x ∷ sign S.Dot ∷ s ∷ z)) (s ∷ z) left (reads z) h in
    record {
      before = name x ∷ sign S.Dot ∷ [];
      completion = method x [] no_more;
      more = name [] ∷ sign S.OpenParenthesis ∷ sign S.CloseParenthesis ∷ [];
      whole = ap (λ y. name x ∷ sign S.Dot ∷ y) same;
      fits = (omega arith, tt);
      completed = refl;
      same = λ other f. dotted_so room x s reads z other (subst (λ l. SameFirst l other) (sym same) f);
    }

method_fault : (room : ℕ) (x m : Bytes) (s : Symbol) → ((other : List Symbol) → behind_dot (inside_of room) x (name m ∷ s ∷ other) ≡ Err (s ∷ other)) → (z left : List Symbol) → bare_atom (inside_of room) (name x ∷ sign S.Dot ∷ name m ∷ s ∷ z) ≡ Err left → FaultOf expression_symbols (Fits 0 room) (bare_atom (inside_of room)) (name x ∷ sign S.Dot ∷ name m ∷ s ∷ z) left
method_fault room x m s reads z left h =
    let same = err_same (bare_atom (inside_of room) (name x ∷ sign S.Dot ∷ name m ∷ s ∷ z)) (s ∷ z) left (reads z) h in
    record {
      before = name x ∷ sign S.Dot ∷ name m ∷ [];
      completion = method x m no_more;
      more = sign S.OpenParenthesis ∷ sign S.CloseParenthesis ∷ [];
      whole = ap (λ y. name x ∷ sign S.Dot ∷ name m ∷ y) same;
      fits = (omega arith, tt);
      completed = refl;
      same = λ other f. method_so room x m s reads z other (subst (λ l. SameFirst l other) (sym same) f);
    }

-- the same where the symbols end
ended_fault : (room : ℕ) (before more : List Symbol) (e : Expression) → Fits 0 room e → expression_symbols e ≡ before ++ more → (left : List Symbol) → bare_atom (inside_of room) before ≡ Err [] → bare_atom (inside_of room) before ≡ Err left → FaultOf expression_symbols (Fits 0 room) (bare_atom (inside_of room)) before left
ended_fault room before more e f c left r h =
    let same = err_same (bare_atom (inside_of room) before) [] left r h in
    record {
      before = before;
      completion = e;
      more = more;
      whole = append_nil before ∙ ap (λ y. before ++ y) same;
      fits = f;
      completed = c;
      same = λ other d. absurd (subst (λ l. SameFirst l other) (sym same) d);
    }

behind_name_fault : (room : ℕ) → ReadsInside room → ReadsArguments room → (x : Bytes) (z left : List Symbol) → bare_atom (inside_of room) (name x ∷ z) ≡ Err left → FaultOf expression_symbols (Fits 0 room) (bare_atom (inside_of room)) (name x ∷ z) left
behind_name_fault room i a x (sign S.OpenBracket ∷ z) left h = between_fault room i (name x ∷ []) (sign S.OpenBracket) (sign S.CloseBracket) is_close_bracket (element x) (element_form x) (λ z. refl) z left h
behind_name_fault room i a x (sign S.OpenParenthesis ∷ z) left h = called_fault room a (name x ∷ sign S.OpenParenthesis ∷ []) (call x) (call_form x) (λ z. refl) z left h
behind_name_fault room i a x (sign S.Dot ∷ []) left h = ended_fault room (name x ∷ sign S.Dot ∷ []) (name [] ∷ sign S.OpenParenthesis ∷ sign S.CloseParenthesis ∷ []) (method x [] no_more) (omega arith, tt) refl left refl h
behind_name_fault room i a x (sign S.Dot ∷ (name m ∷ [])) left h = ended_fault room (name x ∷ sign S.Dot ∷ name m ∷ []) (sign S.OpenParenthesis ∷ sign S.CloseParenthesis ∷ []) (method x m no_more) (omega arith, tt) refl left refl h
behind_name_fault room i a x (sign S.Dot ∷ (name m ∷ (sign S.OpenParenthesis ∷ z))) left h = called_fault room a (name x ∷ sign S.Dot ∷ name m ∷ sign S.OpenParenthesis ∷ []) (method x m) (method_form x m) (λ z. refl) z left h
behind_name_fault room i a x (sign S.Dot ∷ (name m ∷ (s ∷ z))) left h = method_fault room x m s (λ other. refl) z left h
behind_name_fault room i a x (sign S.Dot ∷ (s ∷ z)) left h = dot_fault room x s (λ other. refl) z left h
behind_name_fault room i a x z left h = absurd cc

pub atom_fault : (room : ℕ) → ReadsInside room → ReadsArguments room → (given left : List Symbol) → bare_atom (inside_of room) given ≡ Err left → FaultOf expression_symbols (Fits 0 room) (bare_atom (inside_of room)) given left
atom_fault room i a [] left h = ended_fault room [] (number 0 ∷ []) (integer 0) (omega arith, tt) refl left refl h
atom_fault room i a (number n ∷ z) left h = absurd cc
atom_fault room i a (key K.True ∷ z) left h = absurd cc
atom_fault room i a (key K.False ∷ z) left h = absurd cc
atom_fault room i a (name x ∷ z) left h = behind_name_fault room i a x z left h
atom_fault room i a (sign S.OpenParenthesis ∷ z) left h = between_fault room i [] (sign S.OpenParenthesis) (sign S.CloseParenthesis) is_close_parenthesis group group_form (λ z. refl) z left h
atom_fault room i a (s ∷ z) left h = no_atom room s (λ other. refl) z left h
