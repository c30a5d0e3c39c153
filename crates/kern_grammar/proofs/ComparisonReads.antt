-- The level of comparisons reads its phrases where the next tighter level reads its own.
use Rattle.std.proofs.Common.{◌≡◌, ℕ, ◌≤◌, true, List, [], ◌∷◌, ◌++◌, refl, sym, ◌∙◌, ap, subst, arith, ◌⊎◌, inl, inr, append_assoc, drop}
use Rattle.std.proofs.lemmas.Bool.Decides.{eqb_tells}
use Rattle.std.specs.Prelude.{Option, Some, None, Ok, Err}
use Rattle.kern_lexer.specs.Symbols.{Symbol, sign}
use Rattle.kern_syntax.specs.declared.expression.Comparison.{Comparison}
use Rattle.kern_syntax.specs.declared.expression.BinaryOperator.{BinaryOperator}
use Rattle.kern_syntax.specs.declared.expression.BinaryOperator.TheVariants as B
use Rattle.kern_syntax.specs.Levels.{level_of, binary_level}
use Rattle.kern_syntax.specs.Grammatical.{PartsFit, Fits}
use Rattle.kern_syntax.specs.Tree.{Expression, binary, compare}
use Rattle.kern_grammar.specs.Expressions.{expression_symbols, comparison_sign}
use Rattle.kern_grammar.specs.Operators.{stops}
use Rattle.kern_grammar.specs.Reading.{Read, ◌>>=◌, choose, Reader, comparison, comparison_behind, end_of_comparison, first_comparison}
use Rattle.kern_grammar.proofs.Comparisons.{first_comparison-some, first_comparison-none, first_comparison-same, stops-comparison, stops-eight, comparison_of-sign}
use Rattle.kern_grammar.proofs.Phrased.{FaultOf, FoundBy, bind_ok, bind_err, stops-same, stops-looser}
use Rattle.kern_grammar.proofs.RowReads.{ReadsLevel, then_ok}
use Rattle.kern_grammar.proofs.RowFaults.{then_err, ok_pair, err_same, ok_err, append_nil}

at_most_7 : (op : BinaryOperator) → binary_level op ≤ 7
at_most_7 B.Add = omega arith
at_most_7 B.Subtract = omega arith
at_most_7 B.Multiply = omega arith
at_most_7 B.Divide = omega arith
at_most_7 B.Remainder = omega arith
at_most_7 B.ShiftLeft = omega arith
at_most_7 B.ShiftRight = omega arith
at_most_7 B.BitAnd = omega arith
at_most_7 B.BitXor = omega arith
at_most_7 B.BitOr = omega arith

-- a comparison's operands
pub record Compared (room : ℕ) (e : Expression) : Type 0 where
  pub op : Comparison
  pub left : Expression
  pub right : Expression
  pub is : e ≡ compare op left right
  pub left_fits : Fits 7 room left
  pub right_fits : Fits 7 room right

compared : (room : ℕ) (e : Expression) → level_of e ≡ 8 → PartsFit room e → Compared room e
compared room (compare op a b) h p = record { op = op; left = a; right = b; is = refl; left_fits = p.0; right_fits = p.1 }
compared room (binary op a b) h p = absurd (omega (arith, at_most_7 op, h))
compared room e h p = absurd (omega (arith, h))

-- a comparison, or an operand alone
at_comparison : (room : ℕ) (e : Expression) → Fits 8 room e → Compared room e ⊎ Fits 7 room e
at_comparison room e f = elim (eqb_tells (level_of e) 8) [ inl t ↦ inl (compared room e t.1 f.1) | inr t ↦ inr (omega (arith, f.0, t.1), f.1) ]

behind-some : (tighter : Reader) (e : Expression) (symbols : List Symbol) (op : Comparison) → first_comparison symbols ≡ Some op → comparison_behind tighter e symbols ≡ (tighter (drop 1 symbols) >>= λ right. end_of_comparison (compare op e right.0) right.1)
behind-some tighter e symbols op h = ap (λ o. choose o (Ok (e, symbols)) (λ op. tighter (drop 1 symbols) >>= λ right. end_of_comparison (compare op e right.0) right.1)) h

behind-none : (tighter : Reader) (e : Expression) (symbols : List Symbol) → first_comparison symbols ≡ None → comparison_behind tighter e symbols ≡ Ok (e, symbols)
behind-none tighter e symbols h = ap (λ o. choose o (Ok (e, symbols)) (λ op. tighter (drop 1 symbols) >>= λ right. end_of_comparison (compare op e right.0) right.1)) h

end-none : (e : Expression) (symbols : List Symbol) → first_comparison symbols ≡ None → end_of_comparison e symbols ≡ Ok (e, symbols)
end-none e symbols h = ap (λ o. choose o (Ok (e, symbols)) (λ op. Err symbols)) h

end-some : (e : Expression) (symbols : List Symbol) (op : Comparison) → first_comparison symbols ≡ Some op → end_of_comparison e symbols ≡ Err symbols
end-some e symbols op h = ap (λ o. choose o (Ok (e, symbols)) (λ op. Err symbols)) h

-- the symbols of a comparison, with what follows them
compare_front : (op : Comparison) (a b : Expression) (rest : List Symbol) → expression_symbols (compare op a b) ++ rest ≡ expression_symbols a ++ (sign (comparison_sign op) ∷ (expression_symbols b ++ rest))
compare_front op a b rest = append_assoc (expression_symbols a) (sign (comparison_sign op) ∷ expression_symbols b) rest

complete_alone : (room : ℕ) (tighter : Reader) → ReadsLevel 7 room tighter → (e : Expression) (rest : List Symbol) → Fits 7 room e → stops 8 rest ≡ true → comparison tighter (expression_symbols e ++ rest) ≡ Ok (e, rest)
complete_alone room tighter t e rest f s =
    then_ok (tighter (expression_symbols e ++ rest)) e rest (λ left. comparison_behind tighter left.0 left.1) (t.complete e rest f (stops-looser 7 rest s))
    ∙ behind-none tighter e rest (first_comparison-none rest s)

-- a left operand is read before a comparison
read_left : (room : ℕ) (tighter : Reader) → ReadsLevel 7 room tighter → (op : Comparison) (a : Expression) (rest : List Symbol) → Fits 7 room a → comparison tighter (expression_symbols a ++ (sign (comparison_sign op) ∷ rest)) ≡ (tighter rest >>= λ right. end_of_comparison (compare op a right.0) right.1)
read_left room tighter t op a rest f =
    then_ok (tighter (expression_symbols a ++ (sign (comparison_sign op) ∷ rest))) a (sign (comparison_sign op) ∷ rest) (λ left. comparison_behind tighter left.0 left.1) (t.complete a (sign (comparison_sign op) ∷ rest) f (stops-comparison op rest))
    ∙ behind-some tighter a (sign (comparison_sign op) ∷ rest) op (comparison_of-sign op)

complete_compared : (room : ℕ) (tighter : Reader) → ReadsLevel 7 room tighter → (op : Comparison) (a b : Expression) (rest : List Symbol) → Fits 7 room a → Fits 7 room b → stops 8 rest ≡ true → comparison tighter (expression_symbols (compare op a b) ++ rest) ≡ Ok (compare op a b, rest)
complete_compared room tighter t op a b rest fa fb s =
    ap (comparison tighter) (compare_front op a b rest)
    ∙ read_left room tighter t op a (expression_symbols b ++ rest) fa
    ∙ then_ok (tighter (expression_symbols b ++ rest)) b rest (λ right. end_of_comparison (compare op a right.0) right.1) (t.complete b rest fb (stops-looser 7 rest s))
    ∙ end-none (compare op a b) rest (first_comparison-none rest s)

comparison-complete : (room : ℕ) (tighter : Reader) → ReadsLevel 7 room tighter → (e : Expression) (rest : List Symbol) → Fits 8 room e → stops 8 rest ≡ true → comparison tighter (expression_symbols e ++ rest) ≡ Ok (e, rest)
comparison-complete room tighter t e rest f s = elim (at_comparison room e f) [
  | inl c ↦ ap (λ x. comparison tighter (expression_symbols x ++ rest)) c.is ∙ complete_compared room tighter t c.op c.left c.right rest c.left_fits c.right_fits s ∙ ap (λ x. Ok (x, rest)) (sym c.is)
  | inr g ↦ complete_alone room tighter t e rest g s
]

-- a phrase of the level that was found, up to what was read
same_found : (room : ℕ) (given : List Symbol) (e x : Expression) (symbols rest : List Symbol) → given ≡ expression_symbols e ++ symbols → Fits 8 room e → stops 8 symbols ≡ true → e ≡ x → symbols ≡ rest → FoundBy expression_symbols (Fits 8 room) (stops 8) given x rest
same_found room given e x symbols rest w f s left right = record {
  whole = w ∙ ap (λ y. expression_symbols y ++ symbols) left ∙ ap (λ y. expression_symbols x ++ y) right;
  fits = subst (Fits 8 room) left f;
  stopped = ap (stops 8) (sym right) ∙ s;
}

-- the symbols of a left operand, a comparison and what follows it
before_right : (op : Comparison) (a b : Expression) (symbols rest after : List Symbol) → symbols ≡ sign (comparison_sign op) ∷ rest → rest ≡ expression_symbols b ++ after → expression_symbols a ++ symbols ≡ expression_symbols (compare op a b) ++ after
before_right op a b symbols rest after e f = ap (λ x. expression_symbols a ++ x) (e ∙ ap (λ x. sign (comparison_sign op) ∷ x) f) ∙ sym (compare_front op a b after)

end_found : (room : ℕ) (given : List Symbol) (e : Expression) (symbols : List Symbol) → given ≡ expression_symbols e ++ symbols → Fits 8 room e → stops 7 symbols ≡ true → (o : Option Comparison) → first_comparison symbols ≡ o → (x : Expression) (rest : List Symbol) → end_of_comparison e symbols ≡ Ok (x, rest) → FoundBy expression_symbols (Fits 8 room) (stops 8) given x rest
end_found room given e symbols w f s None o x rest h =
    let same = ok_pair (end_of_comparison e symbols) (e, symbols) (x, rest) (end-none e symbols o) h in
    same_found room given e x symbols rest w f (stops-eight symbols s o) (ap (λ p. p.0) same) (ap (λ p. p.1) same)
end_found room given e symbols w f s (Some op) o x rest h = ok_err (end_of_comparison e symbols) (x, rest) symbols h (end-some e symbols op o)

behind_found : (room : ℕ) (tighter : Reader) → ReadsLevel 7 room tighter → (given : List Symbol) (e : Expression) (symbols : List Symbol) → given ≡ expression_symbols e ++ symbols → Fits 7 room e → stops 7 symbols ≡ true → (o : Option Comparison) → first_comparison symbols ≡ o → (x : Expression) (rest : List Symbol) → comparison_behind tighter e symbols ≡ Ok (x, rest) → FoundBy expression_symbols (Fits 8 room) (stops 8) given x rest
behind_found room tighter t given e symbols w f s None o x rest h =
    let same = ok_pair (comparison_behind tighter e symbols) (e, symbols) (x, rest) (behind-none tighter e symbols o) h in
    same_found room given e x symbols rest w (omega (arith, f.0), f.1) (stops-eight symbols s o) (ap (λ p. p.0) same) (ap (λ p. p.1) same)
behind_found room tighter t given e symbols w f s (Some op) o x rest h =
    let first = first_comparison-some symbols op o in
    let step = bind_ok (tighter (drop 1 symbols)) (λ right. end_of_comparison (compare op e right.0) right.1) (x, rest) (sym (behind-some tighter e symbols op o) ∙ h) in
    let right = t.found (drop 1 symbols) step.0.0 step.0.1 step.1 in
    end_found room given (compare op e step.0.0) step.0.1 (w ∙ before_right op e step.0.0 symbols first.rest step.0.1 first.whole (sym (ap (drop 1) first.whole) ∙ right.whole)) (omega arith, (f, right.fits)) right.stopped (first_comparison step.0.1) refl x rest step.2

comparison-found : (room : ℕ) (tighter : Reader) → ReadsLevel 7 room tighter → (given : List Symbol) (x : Expression) (rest : List Symbol) → comparison tighter given ≡ Ok (x, rest) → FoundBy expression_symbols (Fits 8 room) (stops 8) given x rest
comparison-found room tighter t given x rest h =
    let step = bind_ok (tighter given) (λ left. comparison_behind tighter left.0 left.1) (x, rest) h in
    let left = t.found given step.0.0 step.0.1 step.1 in
    behind_found room tighter t given step.0.0 step.0.1 left.whole left.fits left.stopped (first_comparison step.0.1) refl x rest step.2

-- two operands are read before what follows them
read_both : (room : ℕ) (tighter : Reader) → ReadsLevel 7 room tighter → (op : Comparison) (a b : Expression) (rest : List Symbol) → Fits 7 room a → Fits 7 room b → stops 7 rest ≡ true → comparison tighter (expression_symbols (compare op a b) ++ rest) ≡ end_of_comparison (compare op a b) rest
read_both room tighter t op a b rest fa fb s =
    ap (comparison tighter) (compare_front op a b rest)
    ∙ read_left room tighter t op a (expression_symbols b ++ rest) fa
    ∙ then_ok (tighter (expression_symbols b ++ rest)) b rest (λ right. end_of_comparison (compare op a right.0) right.1) (t.complete b rest fb s)

-- a second comparison is a fault
end_fault : (room : ℕ) (tighter : Reader) → ReadsLevel 7 room tighter → (given : List Symbol) (op : Comparison) (a b : Expression) (symbols : List Symbol) → given ≡ expression_symbols (compare op a b) ++ symbols → Fits 7 room a → Fits 7 room b → stops 7 symbols ≡ true → (o : Option Comparison) → first_comparison symbols ≡ o → (left : List Symbol) → end_of_comparison (compare op a b) symbols ≡ Err left → FaultOf expression_symbols (Fits 8 room) (comparison tighter) given left
end_fault room tighter t given op a b symbols w fa fb s None o left h = ok_err (end_of_comparison (compare op a b) symbols) (compare op a b, symbols) left (end-none (compare op a b) symbols o) h
end_fault room tighter t given op a b symbols w fa fb s (Some second) o left h =
    let same = err_same (end_of_comparison (compare op a b) symbols) symbols left (end-some (compare op a b) symbols second o) h in
    record {
      before = expression_symbols (compare op a b);
      completion = compare op a b;
      more = [];
      whole = w ∙ ap (λ x. expression_symbols (compare op a b) ++ x) same;
      fits = (omega arith, (fa, fb));
      completed = append_nil (expression_symbols (compare op a b));
      same = λ other f. read_both room tighter t op a b other fa fb (stops-same 7 [] left other f (subst (λ x. stops 7 x ≡ true) same s))
          ∙ end-some (compare op a b) other second (first_comparison-same left other second f (subst (λ x. first_comparison x ≡ Some second) same o));
    }

-- a fault of the right operand
right_fault : (room : ℕ) (tighter : Reader) → ReadsLevel 7 room tighter → (given : List Symbol) (op : Comparison) (a : Expression) (symbols rest left : List Symbol) → given ≡ expression_symbols a ++ symbols → Fits 7 room a → symbols ≡ sign (comparison_sign op) ∷ rest → FaultOf expression_symbols (Fits 7 room) tighter rest left → FaultOf expression_symbols (Fits 8 room) (comparison tighter) given left
right_fault room tighter t given op a symbols rest left w fa e g = record {
  before = expression_symbols a ++ (sign (comparison_sign op) ∷ g.before);
  completion = compare op a g.completion;
  more = g.more;
  whole = w ∙ ap (λ x. expression_symbols a ++ x) (e ∙ ap (λ x. sign (comparison_sign op) ∷ x) g.whole) ∙ sym (append_assoc (expression_symbols a) (sign (comparison_sign op) ∷ g.before) left);
  fits = (omega arith, (fa, g.fits));
  completed = ap (λ x. expression_symbols a ++ (sign (comparison_sign op) ∷ x)) g.completed ∙ sym (append_assoc (expression_symbols a) (sign (comparison_sign op) ∷ g.before) g.more);
  same = λ other f.
      ap (comparison tighter) (append_assoc (expression_symbols a) (sign (comparison_sign op) ∷ g.before) other)
      ∙ read_left room tighter t op a (g.before ++ other) fa
      ∙ then_err (tighter (g.before ++ other)) other (λ right. end_of_comparison (compare op a right.0) right.1) (g.same other f);
}

behind_fault : (room : ℕ) (tighter : Reader) → ReadsLevel 7 room tighter → (given : List Symbol) (e : Expression) (symbols : List Symbol) → given ≡ expression_symbols e ++ symbols → Fits 7 room e → (o : Option Comparison) → first_comparison symbols ≡ o → (left : List Symbol) → comparison_behind tighter e symbols ≡ Err left → FaultOf expression_symbols (Fits 8 room) (comparison tighter) given left
behind_fault room tighter t given e symbols w f None o left h = ok_err (comparison_behind tighter e symbols) (e, symbols) left (behind-none tighter e symbols o) h
behind_fault room tighter t given e symbols w f (Some op) o left h =
    let first = first_comparison-some symbols op o in
    let go : Expression × List Symbol → Read Expression = λ right. end_of_comparison (compare op e right.0) right.1 in
    let behind : drop 1 symbols ≡ first.rest = ap (drop 1) first.whole in
    elim (bind_err (tighter (drop 1 symbols)) go left (sym (behind-some tighter e symbols op o) ∙ h)) [
      | inl g ↦ right_fault room tighter t given op e symbols first.rest left w f first.whole (t.fault first.rest left (ap tighter (sym behind) ∙ g))
      | inr g ↦
          let right = t.found first.rest g.0.0 g.0.1 (ap tighter (sym behind) ∙ g.1) in
          end_fault room tighter t given op e g.0.0 g.0.1 (w ∙ before_right op e g.0.0 symbols first.rest g.0.1 first.whole right.whole) f right.fits right.stopped (first_comparison g.0.1) refl left g.2
    ]

comparison-fault : (room : ℕ) (tighter : Reader) → ReadsLevel 7 room tighter → (given left : List Symbol) → comparison tighter given ≡ Err left → FaultOf expression_symbols (Fits 8 room) (comparison tighter) given left
comparison-fault room tighter t given left h =
    let go : Expression × List Symbol → Read Expression = λ first. comparison_behind tighter first.0 first.1 in
    elim (bind_err (tighter given) go left h) [
      | inl g ↦
          let f = t.fault given left g in
          record {
            before = f.before;
            completion = f.completion;
            more = f.more;
            whole = f.whole;
            fits = (omega (arith, f.fits.0), f.fits.1);
            completed = f.completed;
            same = λ other s. then_err (tighter (f.before ++ other)) other go (f.same other s);
          }
      | inr g ↦
          let first = t.found given g.0.0 g.0.1 g.1 in
          behind_fault room tighter t given g.0.0 g.0.1 first.whole first.fits (first_comparison g.0.1) refl left g.2
    ]

-- the level of comparisons over a level that reads
pub comparison-reads : (room : ℕ) (tighter : Reader) → ReadsLevel 7 room tighter → ReadsLevel 8 room (comparison tighter)
comparison-reads room tighter t = record { complete = comparison-complete room tighter t; found = comparison-found room tighter t; fault = comparison-fault room tighter t }
