-- Programs are taken: the tokens that are accepted, with their tree, and the first fault of those that aren't.
use Rattle.std.proofs.Common.{◌≡◌, suc, ◌-◌, true, false, List, [], ◌∷◌, ◌++◌, refl, sym, ◌∙◌, ap, subst, arith, append_assoc, append-nil, length, length-append, take, inl, inr}
use Rattle.std.proofs.lemmas.Bool.{lt-ltb}
use Rattle.std.proofs.Math.Seq.{take-append_seam}
use Rattle.std.specs.Prelude.{not, Ok, Err}
use Rattle.kern_lexer.specs.Symbols.{Symbol, Lexeme, key, sign, end}
use Rattle.kern_lexer.specs.declared.token.Key.TheVariants as K
use Rattle.kern_lexer.specs.declared.token.Sign.TheVariants as S
use Rattle.kern_syntax.specs.Grammatical.{AreFunctions}
use Rattle.kern_syntax.specs.Tree.{FunctionTree, ProgramTree}
use Rattle.kern_grammar.specs.Accepted.{HasTree, Begins, IsFirstFault}
use Rattle.kern_grammar.specs.BlockPlans.{no_stop, function_plan, function_phrase, is_function, program_plan}
use Rattle.kern_grammar.specs.Blocks.{header, body, lines, function_symbols, program}
use Rattle.kern_grammar.specs.Phrases.{symbols_of, these, ◌⨾◌, on_line}
use Rattle.kern_grammar.specs.Plans.{Plan, done, token, run, Spells, many, EachOf, EachEnds}
use Rattle.kern_grammar.specs.Views.{text_end}
use Rattle.kern_grammar.proofs.BlockReady.{free-alike}
use Rattle.kern_grammar.proofs.BlockSpells.{converted, no-symbols}
use Rattle.kern_grammar.proofs.FunctionFrom.{takes-function}
use Rattle.kern_grammar.proofs.FunctionSpells.{first-def}
use Rattle.kern_grammar.proofs.Many.{BeginsWith}
use Rattle.kern_grammar.proofs.ManyReads.{many-takes}
use Rattle.kern_grammar.proofs.PlanReads.{plan-takes}
use Rattle.kern_grammar.proofs.Seen.{text_end-is}
use Rattle.kern_grammar.proofs.SimpleReady.{each-ends}
use Rattle.kern_grammar.proofs.Steps.{StartsWith, starts, token-then, step-end}
use Rattle.kern_grammar.proofs.Taking.{Takes, Ready, ok_same}

-- a function begins with `@` or `def`
starts-function : (s : Symbol) (tokens : List Lexeme) → StartsWith s tokens → is_function s ≡ true → BeginsWith is_function tokens
starts-function s [] w e = absurd w
starts-function s (t ∷ ts) w e = ap is_function w ∙ e

pub function-begins : (f : FunctionTree) (front : List Lexeme) → function_phrase f front → BeginsWith is_function front
function-begins f front h =
    let all = h.0 in
    let rest : List Lexeme → Type 0 = λ tokens. (on_line f.line (header (function_symbols f)) ⨾ body f.body (lines f.body)) tokens in
    elim all.is_first [
      | inl none ↦ (
          let plain = step-end front rest (record { front = all.front; back = all.back; whole = all.whole; is_first = none; is_second = all.is_second }) in
          starts-function (key K.Def) front (first-def f front plain) refl)
      | inr there ↦ (
          let g : (these _ ⨾ rest) front = record { front = all.front; back = all.back; whole = all.whole; is_first = there; is_second = all.is_second } in
          starts-function (sign S.At) front (starts front (sign S.At) _ rest g) refl)
    ]

takes-functions : Takes (EachOf function_phrase) (EachEnds no_stop is_function) (many is_function (run function_plan))
takes-functions = many-takes function_phrase no_stop is_function (run function_plan) (record { begins = function-begins; chains = λ x y front rest h. tt }) takes-function

behind-functions : (next : Unit {0} → Plan ProgramTree) (more : List FunctionTree) (p : ProgramTree) (back rest : List Lexeme) → Spells (token text_end next) p back → EachEnds no_stop is_function more (back ++ rest)
behind-functions next more p [] rest h = absurd h
behind-functions next more p (t ∷ back) rest h = each-ends no_stop is_function more (t ∷ (back ++ rest)) (λ x. tt) (ap (λ y. not (is_function y)) (text_end-is t.symbol h.0 h.1))

ready-program : Ready no_stop program_plan
ready-program =
    (takes-function, λ f front p. ((takes-functions, λ more g q. (((tt, end, refl), λ v rest. tt), λ b back rest h s. behind-functions (λ seen. done (f ∷ more)) more b back rest h)), λ b back rest h s. tt))

-- a program's tokens
abbrev pub accepted : ProgramTree → List Lexeme → Type 0
accepted p tokens = HasTree tokens p

functions-from : (fs : List FunctionTree) (tokens front back : List Lexeme) → tokens ≡ front ++ back → EachOf function_phrase fs front → symbols_of back ≡ end ∷ [] → program fs tokens × AreFunctions fs
functions-from [] tokens front back w e h = (ap symbols_of (w ∙ ap (λ y. y ++ back) e) ∙ h, tt)
functions-from (f ∷ fs) tokens front back w e h =
    let others = functions-from fs (e.back ++ back) e.back back refl e.is_second h in
    (record { front = e.front; back = e.back ++ back; whole = w ∙ ap (λ y. y ++ back) e.whole ∙ append_assoc e.front e.back back; is_first = e.is_first.0; is_second = others.0 }, (e.is_first.1, others.1))

program-from : (p : ProgramTree) (tokens : List Lexeme) → Spells program_plan p tokens → accepted p tokens
program-from p tokens h =
    let more = h.is_next in
    let t = token-then text_end (λ seen. done (h.value ∷ more.value)) p more.back more.is_next in
    let ending : symbols_of more.back ≡ end ∷ [] = ap symbols_of t.whole ∙ ap (λ y. y ∷ symbols_of t.rest) (text_end-is t.first.symbol t.value t.seen) ∙ ap (λ y. end ∷ y) (ap symbols_of t.is_next.1) in
    let whole : EachOf function_phrase (h.value ∷ more.value) (h.front ++ more.front) = record { front = h.front; back = more.front; whole = refl; is_first = h.is_first; is_second = more.is_first } in
    let all = functions-from (h.value ∷ more.value) tokens (h.front ++ more.front) more.back (h.whole ∙ ap (λ y. h.front ++ y) more.whole ∙ sym (append_assoc h.front more.front more.back)) whole ending in
    subst (λ q. accepted q tokens) t.is_next.0 (record { spelled = all.0; grammatical = (lt-ltb 0 (length (h.value ∷ more.value)) (omega arith), all.1) })

-- functions and the end
record FunctionsOf (fs : List FunctionTree) (tokens : List Lexeme) : Type 0 where
  pub front : List Lexeme
  pub back : List Lexeme
  pub whole : tokens ≡ front ++ back
  pub each : EachOf function_phrase fs front
  pub ending : symbols_of back ≡ end ∷ []

into-functions : (fs : List FunctionTree) (tokens : List Lexeme) → program fs tokens → AreFunctions fs → FunctionsOf fs tokens
into-functions [] tokens h f = record { front = []; back = tokens; whole = refl; each = refl; ending = h }
into-functions (g ∷ fs) tokens h f =
    let others = into-functions fs h.back h.is_second f.1 in
    record {
      front = h.front ++ others.front;
      back = others.back;
      whole = h.whole ∙ ap (λ y. h.front ++ y) others.whole ∙ sym (append_assoc h.front others.front others.back);
      each = record { front = h.front; back = others.front; whole = refl; is_first = (h.is_first, f.0); is_second = others.each };
      ending = others.ending;
    }

into-end : (p : ProgramTree) (tokens : List Lexeme) → symbols_of tokens ≡ end ∷ [] → Spells (token text_end (λ seen. done p)) p tokens
into-end p [] h = absurd cc
into-end p (t ∷ ts) h =
    let is : t.symbol ≡ end = cc in
    let none : symbols_of ts ≡ [] = cc in
    (tt, ap text_end is, (refl, no-symbols ts none))

pub program-into : (p : ProgramTree) (tokens : List Lexeme) → accepted p tokens → Spells program_plan p tokens
program-into [] tokens h = absurd (let none : false ≡ true = h.grammatical.0 in cc)
program-into (f ∷ fs) tokens h =
    let all = h.spelled in
    let others = into-functions fs all.back all.is_second h.grammatical.1.1 in
    record {
      value = f;
      front = all.front;
      back = all.back;
      whole = all.whole;
      is_first = (all.is_first, h.grammatical.1.0);
      is_next = record { value = fs; front = others.front; back = others.back; whole = others.whole; is_first = others.each; is_next = into-end (f ∷ fs) others.back others.ending };
    }

-- programs are taken
pub takes-program : Takes accepted no_stop (run program_plan)
takes-program = converted (Spells program_plan) accepted no_stop (run program_plan) program-from program-into (plan-takes no_stop program_plan ready-program free-alike)

-- tokens that are read whole have the tree that was read
pub read-has_tree : (tokens : List Lexeme) (p : ProgramTree) → run program_plan tokens ≡ Ok (p, []) → HasTree tokens p
read-has_tree tokens p h =
    let f = takes-program.found tokens p [] h in
    subst (λ y. HasTree y p) (sym (f.whole ∙ append-nil f.front)) f.is_phrase

-- tokens that have a tree are read whole
pub has_tree-read : (tokens : List Lexeme) (p : ProgramTree) → HasTree tokens p → run program_plan tokens ≡ Ok (p, [])
has_tree-read tokens p h = ap (run program_plan) (sym (append-nil tokens)) ∙ takes-program.complete p tokens [] h tt

-- so they have one tree
pub one_tree : (tokens : List Lexeme) (p q : ProgramTree) → HasTree tokens p → HasTree tokens q → p ≡ q
one_tree tokens p q h g = ap (λ x. x.0) (ok_same (run program_plan tokens) (p, []) (q, []) (has_tree-read tokens p h) (has_tree-read tokens q g))

-- the place of what is left
place-of : (before left : List Lexeme) → length (before ++ left) - length left ≡ length before
place-of before left = omega (arith, length-append before left)

-- the tokens through a place
through : (before : List Lexeme) (t : Lexeme) (rest : List Lexeme) → take (suc (length before)) (before ++ (t ∷ rest)) ≡ before ++ (t ∷ [])
through [] t rest = refl
through (s ∷ before) t rest = ap (λ y. s ∷ y) (through before t rest)

first_fault : (before : List Lexeme) (t : Lexeme) (rest : List Lexeme) → Begins before → ((more : List Lexeme) (q : ProgramTree) → HasTree (before ++ (t ∷ more)) q → ⊥) → IsFirstFault (before ++ (t ∷ rest)) (length before)
first_fault before t rest b none = record {
  before = subst Begins (sym (take-append_seam before (t ∷ rest))) b;
  through = λ g.
      let whole : (take (suc (length before)) (before ++ (t ∷ rest))) ++ g.more ≡ before ++ (t ∷ g.more) = ap (λ y. y ++ g.more) (through before t rest) ∙ append_assoc before (t ∷ []) g.more in
      none g.more g.tree (subst (λ y. HasTree y g.tree) whole g.accepted);
}

-- where reading stops is the first fault
pub fault-is_first : (tokens : List Lexeme) (t : Lexeme) (rest : List Lexeme) → run program_plan tokens ≡ Err (t ∷ rest) → IsFirstFault tokens (length tokens - length (t ∷ rest))
fault-is_first tokens t rest h =
    let f = takes-program.fault tokens (t ∷ rest) h in
    let begun : Begins f.before = record { more = f.more; tree = f.completion; accepted = f.completed } in
    let first = first_fault f.before t rest begun (λ more q g.
    let wrong : Err (t ∷ more) ≡ Ok (q, []) = sym (f.same (t ∷ more) refl) ∙ has_tree-read (f.before ++ (t ∷ more)) q g in cc) in
    subst (λ y. IsFirstFault y (length y - length (t ∷ rest))) (sym f.whole) (subst (IsFirstFault (f.before ++ (t ∷ rest))) (sym (place-of f.before (t ∷ rest))) first)

-- and so is what stands behind the end
pub rest-is_first : (tokens : List Lexeme) (p : ProgramTree) (t : Lexeme) (rest : List Lexeme) → run program_plan tokens ≡ Ok (p, t ∷ rest) → IsFirstFault tokens (length tokens - length (t ∷ rest))
rest-is_first tokens p t rest h =
    let f = takes-program.found tokens p (t ∷ rest) h in
    let begun : Begins f.front = record { more = []; tree = p; accepted = subst (λ y. HasTree y p) (sym (append-nil f.front)) f.is_phrase } in
    let first = first_fault f.front t rest begun (λ more q g.
    let both = ok_same (run program_plan (f.front ++ (t ∷ more))) (p, t ∷ more) (q, []) (takes-program.complete p f.front (t ∷ more) f.is_phrase tt) (has_tree-read (f.front ++ (t ∷ more)) q g) in
    let wrong : t ∷ more ≡ [] = ap (λ x. x.1) both in cc) in
    subst (λ y. IsFirstFault y (length y - length (t ∷ rest))) (sym f.whole) (subst (IsFirstFault (f.front ++ (t ∷ rest))) (sym (place-of f.front (t ∷ rest))) first)
