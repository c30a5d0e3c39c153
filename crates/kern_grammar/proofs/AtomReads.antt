-- The level of atoms reads, where what stands one deeper and arguments are read.
use Rattle.std.proofs.Common.{◌≡◌, ℕ, Bool, List, [], ◌∷◌, ◌++◌, refl, sym, ◌∙◌, ap, subst, arith, append_assoc, drop}
use Rattle.std.specs.Prelude.{Ok, Err}
use Rattle.kern_lexer.specs.Bytes.{Bytes}
use Rattle.kern_lexer.specs.Symbols.{Symbol, name, sign}
use Rattle.kern_lexer.specs.declared.token.Sign.TheVariants as S
use Rattle.kern_syntax.specs.Grammatical.{Fits}
use Rattle.kern_syntax.specs.Tree.{Expression, variable, element, call, method}
use Rattle.kern_grammar.specs.Expressions.{expression_symbols}
use Rattle.kern_grammar.specs.Reading.{enclosed, is_close_bracket, bare_atom, behind_name, inside_of}
use Rattle.kern_grammar.proofs.Atoms.{ReadsArguments, AtomFound, from_between, element_form, call_form, method_form, from_called}
use Rattle.kern_grammar.proofs.Enclosed.{IsBracketForm, enclosed-fault}
use Rattle.kern_grammar.proofs.Phrased.{SameFirst, FaultOf}
use Rattle.kern_grammar.proofs.PrefixReads.{ReadsInside}
use Rattle.kern_grammar.proofs.RowFaults.{ok_pair}

-- a list that goes on as one that begins with a symbol begins with it
pub goes_on : (opening : Symbol) (z before left other : List Symbol) → opening ∷ z ≡ before ++ left → SameFirst left other → before ++ other ≡ opening ∷ drop 1 (before ++ other)
goes_on opening z [] [] other w f = absurd f
goes_on opening z [] (s ∷ left) [] w f = absurd f
goes_on opening z [] (s ∷ left) (o ∷ other) w f = let head : opening ≡ s = cc in ap (λ x. x ∷ other) (sym (head ∙ f))
goes_on opening z (b ∷ before) left other w f = let head : opening ≡ b = cc in ap (λ x. x ∷ (before ++ other)) (sym head)

-- a fault in brackets is the atom's
pub between_fault : (room : ℕ) → ReadsInside room → (front : List Symbol) (opening closing : Symbol) (is_closing : Symbol → Bool) (build : Expression → Expression) → (form : IsBracketForm front opening closing is_closing build) → ((z : List Symbol) → bare_atom (inside_of room) (front ++ (opening ∷ z)) ≡ enclosed (inside_of room) is_closing build (opening ∷ z)) → (z left : List Symbol) → bare_atom (inside_of room) (front ++ (opening ∷ z)) ≡ Err left → FaultOf expression_symbols (Fits 0 room) (bare_atom (inside_of room)) (front ++ (opening ∷ z)) left
between_fault room i front opening closing is_closing build form reads z left h =
    let b = enclosed-fault front opening closing is_closing build form room i z left (sym (reads z) ∙ h) in
    record {
      before = front ++ b.before;
      completion = b.completion;
      more = b.more;
      whole = ap (λ y. front ++ y) b.whole ∙ sym (append_assoc front b.before left);
      fits = b.fits;
      completed = b.completed ∙ sym (append_assoc front b.before b.more);
      same = λ other f.
          let head = goes_on opening z b.before left other b.whole f in
          ap (bare_atom (inside_of room)) (append_assoc front b.before other ∙ ap (λ y. front ++ y) head)
          ∙ reads (drop 1 (b.before ++ other))
          ∙ ap (enclosed (inside_of room) is_closing build) (sym head)
          ∙ b.same other f;
    }

-- a variable that nothing goes on with
variable_found : (room : ℕ) (x : Bytes) (z : List Symbol) → ((other : List Symbol) → SameFirst z other → bare_atom (inside_of room) (name x ∷ other) ≡ Ok (variable x, other)) → bare_atom (inside_of room) (name x ∷ z) ≡ Ok (variable x, z) → (e : Expression) (rest : List Symbol) → bare_atom (inside_of room) (name x ∷ z) ≡ Ok (e, rest) → AtomFound room (name x ∷ z) e rest
variable_found room x z others reads e rest h =
    let both = ok_pair (bare_atom (inside_of room) (name x ∷ z)) (variable x, z) (e, rest) reads h in
    let left : variable x ≡ e = ap (λ p. p.0) both in
    let right : z ≡ rest = ap (λ p. p.1) both in
    record {
      whole = ap (λ y. name x ∷ y) right ∙ ap (λ y. expression_symbols y ++ rest) left;
      fits = subst (Fits 0 room) left (omega arith, tt);
      same = λ other d. subst (λ y. bare_atom (inside_of room) (expression_symbols y ++ other) ≡ Ok (y, other)) left (others other (subst (λ l. SameFirst l other) (sym right) d));
    }

alone_before : (room : ℕ) (x : Bytes) (s : Symbol) (z : List Symbol) → ((other : List Symbol) → behind_name (inside_of room) x (s ∷ other) ≡ Ok (variable x, s ∷ other)) → (other : List Symbol) → SameFirst (s ∷ z) other → bare_atom (inside_of room) (name x ∷ other) ≡ Ok (variable x, other)
alone_before room x s z reads [] f = absurd f
alone_before room x s z reads (o ∷ other) f = subst (λ y. bare_atom (inside_of room) (name x ∷ (y ∷ other)) ≡ Ok (variable x, y ∷ other)) f (reads other)

-- before a symbol that doesn't go on with a name, a name is a variable
alone : (room : ℕ) (x : Bytes) (s : Symbol) (z : List Symbol) → ((other : List Symbol) → behind_name (inside_of room) x (s ∷ other) ≡ Ok (variable x, s ∷ other)) → (e : Expression) (rest : List Symbol) → bare_atom (inside_of room) (name x ∷ (s ∷ z)) ≡ Ok (e, rest) → AtomFound room (name x ∷ (s ∷ z)) e rest
alone room x s z reads e rest h = variable_found room x (s ∷ z) (alone_before room x s z reads) (reads z) e rest h

pub name_found : (room : ℕ) → ReadsInside room → ReadsArguments room → (x : Bytes) (z : List Symbol) (e : Expression) (rest : List Symbol) → bare_atom (inside_of room) (name x ∷ z) ≡ Ok (e, rest) → AtomFound room (name x ∷ z) e rest
name_found room i a x [] e rest h = variable_found room x [] (λ other f. absurd f) refl e rest h
name_found room i a x (sign S.OpenBracket ∷ z) e rest h = from_between room i (name x ∷ []) (sign S.OpenBracket) (sign S.CloseBracket) is_close_bracket (element x) (element_form x) (λ z. refl) z e rest h
name_found room i a x (sign S.OpenParenthesis ∷ z) e rest h = from_called room a (name x ∷ sign S.OpenParenthesis ∷ []) (call x) (call_form x) (λ z. refl) z e rest h
name_found room i a x (sign S.Dot ∷ (name m ∷ (sign S.OpenParenthesis ∷ z))) e rest h = from_called room a (name x ∷ sign S.Dot ∷ name m ∷ sign S.OpenParenthesis ∷ []) (method x m) (method_form x m) (λ z. refl) z e rest h
name_found room i a x (sign S.Dot ∷ z) e rest h = absurd cc
name_found room i a x (s ∷ z) e rest h = alone room x s z (λ other. refl) e rest h
