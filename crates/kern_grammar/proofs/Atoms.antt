-- Atoms are read, where what stands one deeper and arguments are.
use Rattle.std.proofs.Common.{◌≡◌, ℕ, Bool, true, List, [], ◌∷◌, ◌++◌, refl, sym, ◌∙◌, ap, subst, arith, inl, inr, append_assoc}
use Rattle.std.specs.Prelude.{Ok, Err}
use Rattle.kern_lexer.specs.Bytes.{Bytes}
use Rattle.kern_lexer.specs.Symbols.{Symbol, name, number, sign}
use Rattle.kern_lexer.specs.declared.token.Sign.TheVariants as S
use Rattle.kern_syntax.specs.Levels.{level_of}
use Rattle.kern_syntax.specs.Grammatical.{PartsFit, Fits, ArgumentsFit}
use Rattle.kern_syntax.specs.Tree.{Expression, integer, variable, element, group, call, method, Arguments}
use Rattle.kern_grammar.specs.Expressions.{expression_symbols, argument_symbols}
use Rattle.kern_grammar.specs.Reading.{Read, enclosed, is_close_parenthesis, is_close_bracket, called, arguments, bare_atom, inside_of}
use Rattle.kern_grammar.proofs.Enclosed.{IsBracketForm, enclosed-complete, enclosed-found}
use Rattle.kern_grammar.proofs.Phrased.{SameFirst, FaultOf, Reads, bind_ok, bind_err}
use Rattle.kern_grammar.proofs.PrefixReads.{ReadsInside}
use Rattle.kern_grammar.proofs.RowReads.{then_ok}
use Rattle.kern_grammar.proofs.RowFaults.{then_err, ok_pair, ok_err}

-- arguments and the closing parenthesis
abbrev pub closed_arguments : Arguments → List Symbol
closed_arguments args = argument_symbols args ++ sign S.CloseParenthesis ∷ []

-- arguments are read
abbrev pub ReadsArguments : (room : ℕ) → Type 0
ReadsArguments room = Reads closed_arguments (ArgumentsFit room) (λ rest. true) (arguments (inside_of room))

-- what an atom's reader found, and that it finds it before anything that begins in the same way
pub record AtomFound (room : ℕ) (given : List Symbol) (e : Expression) (rest : List Symbol) : Type 0 where
  pub whole : given ≡ expression_symbols e ++ rest
  pub fits : Fits 0 room e
  pub same : (other : List Symbol) → SameFirst rest other → bare_atom (inside_of room) (expression_symbols e ++ other) ≡ Ok (e, other)

-- an atom of one symbol
pub one_symbol : (room : ℕ) (s : Symbol) (atom : Expression) → expression_symbols atom ≡ s ∷ [] → Fits 0 room atom → ((other : List Symbol) → bare_atom (inside_of room) (s ∷ other) ≡ Ok (atom, other)) → (given : List Symbol) (e : Expression) (rest : List Symbol) → bare_atom (inside_of room) (s ∷ given) ≡ Ok (e, rest) → AtomFound room (s ∷ given) e rest
one_symbol room s atom spelled f reads given e rest h =
    let both = ok_pair (bare_atom (inside_of room) (s ∷ given)) (atom, given) (e, rest) (reads given) h in
    let left : atom ≡ e = ap (λ p. p.0) both in
    let right : given ≡ rest = ap (λ p. p.1) both in
    record {
      whole = ap (λ y. s ∷ y) right ∙ ap (λ y. y ++ rest) (sym spelled) ∙ ap (λ y. expression_symbols y ++ rest) left;
      fits = subst (Fits 0 room) left f;
      same = λ other d. subst (λ y. bare_atom (inside_of room) (expression_symbols y ++ other) ≡ Ok (y, other)) left (ap (λ y. bare_atom (inside_of room) (y ++ other)) spelled ∙ reads other);
    }

-- an atom in brackets, with what follows it
pub bracket_rest : (front : List Symbol) (opening closing : Symbol) (is_closing : Symbol → Bool) (build : Expression → Expression) → IsBracketForm front opening closing is_closing build → (e : Expression) (rest : List Symbol) → expression_symbols (build e) ++ rest ≡ front ++ (opening ∷ (expression_symbols e ++ (closing ∷ rest)))
bracket_rest front opening closing is_closing build form e rest =
    ap (λ y. y ++ rest) (form.spelled e)
    ∙ append_assoc front (opening ∷ (expression_symbols e ++ closing ∷ [])) rest
    ∙ ap (λ y. front ++ (opening ∷ y)) (append_assoc (expression_symbols e) (closing ∷ []) rest)

pub from_between : (room : ℕ) → ReadsInside room → (front : List Symbol) (opening closing : Symbol) (is_closing : Symbol → Bool) (build : Expression → Expression) → (form : IsBracketForm front opening closing is_closing build) → ((z : List Symbol) → bare_atom (inside_of room) (front ++ (opening ∷ z)) ≡ enclosed (inside_of room) is_closing build (opening ∷ z)) → (z : List Symbol) (e : Expression) (rest : List Symbol) → bare_atom (inside_of room) (front ++ (opening ∷ z)) ≡ Ok (e, rest) → AtomFound room (front ++ (opening ∷ z)) e rest
from_between room i front opening closing is_closing build form reads z e rest h =
    let b = enclosed-found front opening closing is_closing build form room i z e rest (sym (reads z) ∙ h) in
    record {
      whole = ap (λ y. front ++ (opening ∷ y)) b.whole ∙ sym (bracket_rest front opening closing is_closing build form b.inner rest) ∙ ap (λ y. expression_symbols y ++ rest) (sym b.is);
      fits = subst (Fits 0 room) (sym b.is) (omega (arith, form.level_is b.inner), b.fits);
      same = λ other d. subst (λ y. bare_atom (inside_of room) (expression_symbols y ++ other) ≡ Ok (y, other)) (sym b.is)
          (ap (bare_atom (inside_of room)) (bracket_rest front opening closing is_closing build form b.inner other)
          ∙ reads (expression_symbols b.inner ++ (closing ∷ other))
          ∙ enclosed-complete front opening closing is_closing build form room i b.inner other b.fits);
    }

only_parenthesis : (s : Symbol) → is_close_parenthesis s ≡ true → s ≡ sign S.CloseParenthesis
only_parenthesis (sign S.CloseParenthesis) h = refl
only_parenthesis s h = absurd cc

only_bracket : (s : Symbol) → is_close_bracket s ≡ true → s ≡ sign S.CloseBracket
only_bracket (sign S.CloseBracket) h = refl
only_bracket s h = absurd cc

pub group_form : IsBracketForm [] (sign S.OpenParenthesis) (sign S.CloseParenthesis) is_close_parenthesis group
group_form = record {
  spelled = λ e. refl;
  level_is = λ e. refl;
  inward = λ room e h. h;
  outward = λ room e h. h;
  closes = refl;
  only = only_parenthesis;
  stop = λ rest. refl;
  alone = integer 0;
  alone_more = number 0 ∷ [];
  alone_spelled = refl;
  alone_fits = λ room. (omega arith, tt);
}

pub element_form : (x : Bytes) → IsBracketForm (name x ∷ []) (sign S.OpenBracket) (sign S.CloseBracket) is_close_bracket (element x)
element_form x = record {
  spelled = λ e. refl;
  level_is = λ e. refl;
  inward = λ room e h. h;
  outward = λ room e h. h;
  closes = refl;
  only = only_bracket;
  stop = λ rest. refl;
  alone = variable x;
  alone_more = [];
  alone_spelled = refl;
  alone_fits = λ room. (omega arith, tt);
}

-- a call by its arguments, behind some symbols of its own
pub record IsCallForm (front : List Symbol) (build : Arguments → Expression) : Type 0 where
  pub spelled : (args : Arguments) → expression_symbols (build args) ≡ front ++ closed_arguments args
  pub level_is : (args : Arguments) → level_of (build args) ≡ 0
  pub inward : (room : ℕ) (args : Arguments) → PartsFit room (build args) → ArgumentsFit room args
  pub outward : (room : ℕ) (args : Arguments) → ArgumentsFit room args → PartsFit room (build args)

pub call_form : (f : Bytes) → IsCallForm (name f ∷ sign S.OpenParenthesis ∷ []) (call f)
call_form f = record { spelled = λ args. refl; level_is = λ args. refl; inward = λ room args h. h; outward = λ room args h. h }

pub method_form : (o m : Bytes) → IsCallForm (name o ∷ sign S.Dot ∷ name m ∷ sign S.OpenParenthesis ∷ []) (method o m)
method_form o m = record { spelled = λ args. refl; level_is = λ args. refl; inward = λ room args h. h; outward = λ room args h. h }

-- a call with what follows it
call_rest : (front : List Symbol) (build : Arguments → Expression) → IsCallForm front build → (args : Arguments) (rest : List Symbol) → expression_symbols (build args) ++ rest ≡ front ++ (closed_arguments args ++ rest)
call_rest front build form args rest = ap (λ y. y ++ rest) (form.spelled args) ∙ append_assoc front (closed_arguments args) rest

pub called_ok : (room : ℕ) → ReadsArguments room → (front : List Symbol) (build : Arguments → Expression) → (form : IsCallForm front build) → ((z : List Symbol) → bare_atom (inside_of room) (front ++ z) ≡ called (inside_of room) build z) → (args : Arguments) (rest : List Symbol) → ArgumentsFit room args → bare_atom (inside_of room) (expression_symbols (build args) ++ rest) ≡ Ok (build args, rest)
called_ok room a front build form reads args rest f =
    ap (bare_atom (inside_of room)) (call_rest front build form args rest)
    ∙ reads (closed_arguments args ++ rest)
    ∙ then_ok (arguments (inside_of room) (closed_arguments args ++ rest)) args rest (λ x. Ok (build x.0, x.1)) (a.complete args rest f refl)

pub from_called : (room : ℕ) → ReadsArguments room → (front : List Symbol) (build : Arguments → Expression) → (form : IsCallForm front build) → ((z : List Symbol) → bare_atom (inside_of room) (front ++ z) ≡ called (inside_of room) build z) → (z : List Symbol) (e : Expression) (rest : List Symbol) → bare_atom (inside_of room) (front ++ z) ≡ Ok (e, rest) → AtomFound room (front ++ z) e rest
from_called room a front build form reads z e rest h =
    let step = bind_ok (arguments (inside_of room) z) (λ x. Ok (build x.0, x.1)) (e, rest) (sym (reads z) ∙ h) in
    let found = a.found z step.0.0 step.0.1 step.1 in
    let r : Read Expression = Ok (build step.0.0, step.0.1) in
    let both = ok_pair r (build step.0.0, step.0.1) (e, rest) refl step.2 in
    let left : build step.0.0 ≡ e = ap (λ p. p.0) both in
    let right : step.0.1 ≡ rest = ap (λ p. p.1) both in
    record {
      whole = ap (λ y. front ++ y) found.whole ∙ sym (call_rest front build form step.0.0 step.0.1) ∙ ap (λ y. expression_symbols y ++ step.0.1) left ∙ ap (λ y. expression_symbols e ++ y) right;
      fits = subst (Fits 0 room) left (omega (arith, form.level_is step.0.0), form.outward room step.0.0 found.fits);
      same = λ other d. subst (λ y. bare_atom (inside_of room) (expression_symbols y ++ other) ≡ Ok (y, other)) left (called_ok room a front build form reads step.0.0 other found.fits);
    }

-- a fault among the arguments
pub called_fault : (room : ℕ) → ReadsArguments room → (front : List Symbol) (build : Arguments → Expression) → (form : IsCallForm front build) → ((z : List Symbol) → bare_atom (inside_of room) (front ++ z) ≡ called (inside_of room) build z) → (z left : List Symbol) → bare_atom (inside_of room) (front ++ z) ≡ Err left → FaultOf expression_symbols (Fits 0 room) (bare_atom (inside_of room)) (front ++ z) left
called_fault room a front build form reads z left h =
    let go : Arguments × List Symbol → Read Expression = λ x. Ok (build x.0, x.1) in
    elim (bind_err (arguments (inside_of room) z) go left (sym (reads z) ∙ h)) [
      | inl g ↦
          let f = a.fault z left g in
          record {
            before = front ++ f.before;
            completion = build f.completion;
            more = f.more;
            whole = ap (λ y. front ++ y) f.whole ∙ sym (append_assoc front f.before left);
            fits = (omega (arith, form.level_is f.completion), form.outward room f.completion f.fits);
            completed = form.spelled f.completion ∙ ap (λ y. front ++ y) f.completed ∙ sym (append_assoc front f.before f.more);
            same = λ other e. ap (bare_atom (inside_of room)) (append_assoc front f.before other) ∙ reads (f.before ++ other) ∙ then_err (arguments (inside_of room) (f.before ++ other)) other go (f.same other e);
          }
      | inr g ↦ let r : Read Expression = Ok (build g.0.0, g.0.1) in ok_err r (build g.0.0, g.0.1) left refl g.2
    ]
