-- The level of atoms reads, with what may follow an atom, and so does every level.
use Rattle.std.proofs.Common.{◌≡◌, ℕ, true, false, List, [], ◌∷◌, ◌++◌, refl, sym, ◌∙◌, ap, subst, arith, inl, inr, cond}
use Rattle.std.specs.Prelude.{Ok, Err}
use Rattle.kern_lexer.specs.Bytes.{Bytes}
use Rattle.kern_lexer.specs.Symbols.{Symbol, name, sign}
use Rattle.kern_lexer.specs.declared.token.Sign.TheVariants as S
use Rattle.kern_syntax.specs.Grammatical.{Fits}
use Rattle.kern_syntax.specs.Tree.{Expression, integer, true_literal, false_literal, variable, element, group, binary, call, method}
use Rattle.kern_grammar.specs.Expressions.{expression_symbols}
use Rattle.kern_grammar.specs.Operators.{stops, stops_at, continues_at}
use Rattle.kern_grammar.specs.Reading.{Read, is_close_parenthesis, is_close_bracket, atom, bare_atom, ended, behind_name, inside_of}
use Rattle.kern_grammar.proofs.AtomLevel.{atom_found, atom_fault}
use Rattle.kern_grammar.proofs.Atoms.{ReadsArguments, group_form, element_form, call_form, method_form, called_ok, bracket_rest}
use Rattle.kern_grammar.proofs.Enclosed.{enclosed-complete, tells_bool}
use Rattle.kern_grammar.proofs.Levels.{AtomsRead}
use Rattle.kern_grammar.proofs.Phrased.{SameFirst, FaultOf, FoundBy, bind_ok, bind_err}
use Rattle.kern_grammar.proofs.PrefixReads.{ReadsInside}
use Rattle.kern_grammar.proofs.Prefixes.{at_least_2}
use Rattle.kern_grammar.proofs.RowReads.{ReadsLevel, then_ok}
use Rattle.kern_grammar.proofs.RowFaults.{then_err, ok_pair, err_same, ok_err, append_nil}

variable_alone : (room : ℕ) (x : Bytes) (rest : List Symbol) → stops 0 rest ≡ true → behind_name (inside_of room) x rest ≡ Ok (variable x, rest)
variable_alone room x [] h = refl
variable_alone room x (sign S.OpenBracket ∷ rest) h = let no : false ≡ true = h in absurd cc
variable_alone room x (sign S.OpenParenthesis ∷ rest) h = let no : false ≡ true = h in absurd cc
variable_alone room x (sign S.Dot ∷ rest) h = let no : false ≡ true = h in absurd cc
variable_alone room x (s ∷ rest) h = refl

atom_complete : (room : ℕ) → ReadsInside room → ReadsArguments room → (e : Expression) (rest : List Symbol) → Fits 0 room e → stops 0 rest ≡ true → bare_atom (inside_of room) (expression_symbols e ++ rest) ≡ Ok (e, rest)
atom_complete room i a (integer n) rest f s = refl
atom_complete room i a true_literal rest f s = refl
atom_complete room i a false_literal rest f s = refl
atom_complete room i a (variable x) rest f s = variable_alone room x rest s
atom_complete room i a (group e) rest f s =
    ap (bare_atom (inside_of room)) (bracket_rest [] (sign S.OpenParenthesis) (sign S.CloseParenthesis) is_close_parenthesis group group_form e rest)
    ∙ enclosed-complete [] (sign S.OpenParenthesis) (sign S.CloseParenthesis) is_close_parenthesis group group_form room i e rest f.1
atom_complete room i a (element x e) rest f s =
    ap (bare_atom (inside_of room)) (bracket_rest (name x ∷ []) (sign S.OpenBracket) (sign S.CloseBracket) is_close_bracket (element x) (element_form x) e rest)
    ∙ enclosed-complete (name x ∷ []) (sign S.OpenBracket) (sign S.CloseBracket) is_close_bracket (element x) (element_form x) room i e rest f.1
atom_complete room i a (call g args) rest f s = called_ok room a (name g ∷ sign S.OpenParenthesis ∷ []) (call g) (call_form g) (λ z. refl) args rest f.1
atom_complete room i a (method o m args) rest f s = called_ok room a (name o ∷ sign S.Dot ∷ name m ∷ sign S.OpenParenthesis ∷ []) (method o m) (method_form o m) (λ z. refl) args rest f.1
atom_complete room i a (binary op x y) rest f s = absurd (omega (arith, at_least_2 op, f.0))
atom_complete room i a e rest f s = absurd (omega (arith, f.0))

ended_ok : (e : Expression) (rest : List Symbol) → stops 0 rest ≡ true → ended e rest ≡ Ok (e, rest)
ended_ok e rest s = ap (λ b. cond b (Ok (e, rest)) (Err rest)) s

ended_err : (e : Expression) (rest : List Symbol) → stops 0 rest ≡ false → ended e rest ≡ Err rest
ended_err e rest s = ap (λ b. cond b (Ok (e, rest)) (Err rest)) s

stops-first : (left other : List Symbol) → SameFirst left other → stops 0 left ≡ false → stops 0 other ≡ false
stops-first (s ∷ left) (o ∷ other) f h = subst (λ x. stops_at 0 (continues_at x) ≡ false) f h
stops-first [] other f h = absurd f
stops-first (s ∷ left) [] f h = absurd f

module _ (room : ℕ) (i : ReadsInside room) (a : ReadsArguments room) where
  go : Expression × List Symbol → Read Expression
  go = λ e. ended e.0 e.1

  complete : (e : Expression) (rest : List Symbol) → Fits 0 room e → stops 0 rest ≡ true → atom (inside_of room) (expression_symbols e ++ rest) ≡ Ok (e, rest)
  complete e rest f s = then_ok (bare_atom (inside_of room) (expression_symbols e ++ rest)) e rest (λ e. ended e.0 e.1) (atom_complete room i a e rest f s) ∙ ended_ok e rest s

  found : (given : List Symbol) (x : Expression) (rest : List Symbol) → atom (inside_of room) given ≡ Ok (x, rest) → FoundBy expression_symbols (Fits 0 room) (stops 0) given x rest
  found given x rest h =
      let step = bind_ok (bare_atom (inside_of room) given) (λ e. ended e.0 e.1) (x, rest) h in
      let bare = atom_found room i a given step.0.0 step.0.1 step.1 in
      elim (tells_bool (stops 0 step.0.1)) [
        | inl stopped ↦
            let both = ok_pair (ended step.0.0 step.0.1) (step.0.0, step.0.1) (x, rest) (ended_ok step.0.0 step.0.1 stopped) step.2 in
            let left : step.0.0 ≡ x = ap (λ p. p.0) both in
            let right : step.0.1 ≡ rest = ap (λ p. p.1) both in
            record {
              whole = bare.whole ∙ ap (λ y. expression_symbols y ++ step.0.1) left ∙ ap (λ y. expression_symbols x ++ y) right;
              fits = subst (Fits 0 room) left bare.fits;
              stopped = ap (stops 0) (sym right) ∙ stopped;
            }
        | inr goes ↦ ok_err (ended step.0.0 step.0.1) (x, rest) step.0.1 step.2 (ended_err step.0.0 step.0.1 goes)
      ]

  fault : (given left : List Symbol) → atom (inside_of room) given ≡ Err left → FaultOf expression_symbols (Fits 0 room) (atom (inside_of room)) given left
  fault given left h = elim (bind_err (bare_atom (inside_of room) given) (λ e. ended e.0 e.1) left h) [
    | inl g ↦
        let f = atom_fault room i a given left g in
        record {
          before = f.before;
          completion = f.completion;
          more = f.more;
          whole = f.whole;
          fits = f.fits;
          completed = f.completed;
          same = λ other d. then_err (bare_atom (inside_of room) (f.before ++ other)) other (λ e. ended e.0 e.1) (f.same other d);
        }
    | inr g ↦
        let bare = atom_found room i a given g.0.0 g.0.1 g.1 in
        elim (tells_bool (stops 0 g.0.1)) [
          | inl stopped ↦ ok_err (ended g.0.0 g.0.1) (g.0.0, g.0.1) left (ended_ok g.0.0 g.0.1 stopped) g.2
          | inr goes ↦
              let same = err_same (ended g.0.0 g.0.1) g.0.1 left (ended_err g.0.0 g.0.1 goes) g.2 in
              record {
                before = expression_symbols g.0.0;
                completion = g.0.0;
                more = [];
                whole = bare.whole ∙ ap (λ y. expression_symbols g.0.0 ++ y) same;
                fits = bare.fits;
                completed = append_nil (expression_symbols g.0.0);
                same = λ other d.
                    then_ok (bare_atom (inside_of room) (expression_symbols g.0.0 ++ other)) g.0.0 other (λ e. ended e.0 e.1) (bare.same other (subst (λ l. SameFirst l other) (sym same) d))
                    ∙ ended_err g.0.0 other (stops-first left other d (subst (λ l. stops 0 l ≡ false) same goes));
              }
        ]
  ]

  pub atom-reads : ReadsLevel 0 room (atom (inside_of room))
  atom-reads = record { complete = complete; found = found; fault = fault }

-- atoms are read wherever arguments are
pub atoms_read : ((room : ℕ) → ReadsInside room → ReadsArguments room) → AtomsRead
atoms_read arguments room i = atom-reads room i (arguments room i)
