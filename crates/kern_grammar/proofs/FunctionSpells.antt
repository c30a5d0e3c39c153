-- The plan of a function spells it, and functions are taken.
use Rattle.std.proofs.Common.{◌≡◌, Bool, true, false, List, [], ◌∷◌, ◌++◌, refl, sym, ◌∙◌, ap, subst, append_assoc, append-nil, inl, inr}
use Rattle.std.specs.Prelude.{Option, Some, None, codes}
use Rattle.kern_lexer.specs.Symbols.{Symbol, Lexeme, key, sign, name, newline}
use Rattle.kern_lexer.specs.declared.token.Key.TheVariants as K
use Rattle.kern_lexer.specs.declared.token.Sign.TheVariants as S
use Rattle.kern_syntax.specs.declared.program.DeclaredType.{DeclaredType}
use Rattle.kern_syntax.specs.Grammatical.{IsFunction}
use Rattle.kern_syntax.specs.Print.{name_of_type}
use Rattle.kern_syntax.specs.Tree.{ParameterTree, FunctionTree}
use Rattle.kern_grammar.specs.BlockPlans.{a_parameter, comma_parameter, more_parameters, function_block, result_plan, parameters_plan, def_plan, decorated, function_plan, function_phrase}
use Rattle.kern_grammar.specs.Blocks.{header, body, lines, parameter_symbols, result_symbols, function_symbols}
use Rattle.kern_grammar.specs.Expressions.{comma_before}
use Rattle.kern_grammar.specs.Phrases.{Phrase, symbols_of, these, ◌⨾◌, on_line}
use Rattle.kern_grammar.specs.Plans.{Plan, done, token, peek, Spells, EachOf}
use Rattle.kern_grammar.specs.Views.{a_name, a_type, any, colon, comma, arrow_or_colon, open_parenthesis, close_parenthesis, def_key, at_sign, the_name, line_end, is_seen}
use Rattle.kern_grammar.proofs.BlockSpells.{alone}
use Rattle.kern_grammar.proofs.LiftedReads.{cut}
use Rattle.kern_grammar.proofs.Seen.{a_type-of}
use Rattle.kern_grammar.proofs.SimpleSpells.{into-look}
use Rattle.kern_grammar.proofs.StatementInto.{into-lined, first-line}
use Rattle.kern_grammar.proofs.Steps.{nothing, StartsWith, starts, step-token, step-end}

-- the symbols of a parameter, and of those behind the first
abbrev pub one_parameter : ParameterTree → List Symbol
one_parameter p = name p.name ∷ sign S.Colon ∷ name (name_of_type p.declared) ∷ []

abbrev pub further_parameters : List ParameterTree → List Symbol
further_parameters [] = []
further_parameters (p ∷ more) = sign S.Comma ∷ (one_parameter p ++ further_parameters more)

pub further : (more : List ParameterTree) → comma_before (parameter_symbols more) ≡ further_parameters more
further [] = refl
further (p ∷ more) = ap (λ y. sign S.Comma ∷ (one_parameter p ++ y)) (further more)

-- a parameter before what follows it
into-parameter : {A : Type 0} (next : ParameterTree → Plan A) (a : A) (p : ParameterTree) (symbols : List Symbol) (after : Phrase) → ((rest : List Lexeme) → (these symbols ⨾ after) rest → Spells (next p) a rest) → (tokens : List Lexeme) → (these (one_parameter p ++ symbols) ⨾ after) tokens → Spells (a_parameter next) a tokens
into-parameter next a p symbols after k tokens h =
    step-token a_name (λ x. token colon (λ seen. token a_type (λ d. next (record { name = x; declared = d })))) a (name p.name) p.name _ after refl
    (λ r1 g1. step-token colon (λ seen. token a_type (λ d. next (record { name = p.name; declared = d }))) a (sign S.Colon) tt _ after refl
    (λ r2 g2. step-token a_type (λ d. next (record { name = p.name; declared = d })) a (name (name_of_type p.declared)) p.declared symbols after (a_type-of p.declared) k r2 g2) r1 g1) tokens h

into-comma_parameter : (p : ParameterTree) (tokens : List Lexeme) → (these (sign S.Comma ∷ one_parameter p) ⨾ nothing) tokens → Spells comma_parameter p tokens
into-comma_parameter p tokens h =
    step-token comma (λ seen. a_parameter (λ p. done p)) p (sign S.Comma) tt (one_parameter p) nothing refl
    (λ rest g. into-parameter (λ p. done p) p p [] nothing (λ r k. (refl, step-end r nothing k)) rest g) tokens h

into-further : (more : List ParameterTree) (tokens : List Lexeme) → symbols_of tokens ≡ further_parameters more → EachOf (Spells comma_parameter) more tokens
into-further [] [] h = refl
into-further [] (t ∷ tokens) h = absurd cc
into-further (p ∷ more) tokens h =
    let c = cut tokens (sign S.Comma ∷ one_parameter p) (further_parameters more) h in
    record { front = c.front; back = c.back; whole = c.whole; is_first = into-comma_parameter p c.front (record { front = c.front; back = []; whole = sym (append-nil c.front); is_first = c.of_front; is_second = refl }); is_second = into-further more c.back c.of_back }

into-more : {A : Type 0} (next : List ParameterTree → Plan A) (a : A) (more : List ParameterTree) (symbols : List Symbol) (after : Phrase) → ((rest : List Lexeme) → (these symbols ⨾ after) rest → Spells (next more) a rest) → (tokens : List Lexeme) → (these (further_parameters more ++ symbols) ⨾ after) tokens → Spells (more_parameters next) a tokens
into-more next a more symbols after k tokens h =
    let c = cut h.front (further_parameters more) symbols h.is_first in
    record {
      value = more;
      front = c.front;
      back = c.back ++ h.back;
      whole = h.whole ∙ ap (λ y. y ++ h.back) c.whole ∙ append_assoc c.front c.back h.back;
      is_first = into-further more c.front c.of_front;
      is_next = k (c.back ++ h.back) (record { front = c.back; back = h.back; whole = refl; is_first = c.of_back; is_second = h.is_second });
    }

-- the block of a function, behind the colon
into-function_block : (f : FunctionTree) → IsFunction f → (tokens : List Lexeme) → (these [] ⨾ (body f.body (lines f.body) ⨾ nothing)) tokens → Spells (function_block f.line f.name f.parameters f.result) f tokens
into-function_block f i tokens h =
    let g = step-end tokens (body f.body (lines f.body) ⨾ nothing) h in
    record { value = f.body; front = g.front; back = g.back; whole = g.whole; is_first = (g.is_first, i); is_next = (refl, g.is_second) }

-- the result type and the block
into-result : (f : FunctionTree) (r : Option DeclaredType) → f.result ≡ r → IsFunction f → (tokens : List Lexeme) → (these (result_symbols r ++ sign S.Colon ∷ []) ⨾ (body f.body (lines f.body) ⨾ nothing)) tokens → Spells (token arrow_or_colon (result_plan f.line f.name f.parameters)) f tokens
into-result f None e i tokens h =
    step-token arrow_or_colon (result_plan f.line f.name f.parameters) f (sign S.Colon) false [] (body f.body (lines f.body) ⨾ nothing) refl
    (λ rest g. subst (λ r. Spells (function_block f.line f.name f.parameters r) f rest) e (into-function_block f i rest g)) tokens h
into-result f (Some d) e i tokens h =
    let after = body f.body (lines f.body) ⨾ nothing in
    step-token arrow_or_colon (result_plan f.line f.name f.parameters) f (sign S.Arrow) true (name (name_of_type d) ∷ sign S.Colon ∷ []) after refl
    (λ r1 g1. step-token a_type (λ d. token colon (λ seen. function_block f.line f.name f.parameters (Some d))) f (name (name_of_type d)) d (sign S.Colon ∷ []) after (a_type-of d)
    (λ r2 g2. step-token colon (λ seen. function_block f.line f.name f.parameters (Some d)) f (sign S.Colon) tt [] after refl
    (λ rest g. subst (λ r. Spells (function_block f.line f.name f.parameters r) f rest) e (into-function_block f i rest g)) r2 g2) r1 g1) tokens h

-- the parameters, the closing parenthesis, and what follows
abbrev pub behind_open : List ParameterTree → Option DeclaredType → List Symbol
behind_open parameters r = parameter_symbols parameters ++ (sign S.CloseParenthesis ∷ (result_symbols r ++ sign S.Colon ∷ []))

into-parameters : (f : FunctionTree) (parameters : List ParameterTree) → f.parameters ≡ parameters → IsFunction f → (tokens : List Lexeme) → (these (behind_open parameters f.result) ⨾ (body f.body (lines f.body) ⨾ nothing)) tokens → Spells (peek (λ u. parameters_plan f.line f.name (is_seen (close_parenthesis u.symbol)))) f tokens
into-parameters f [] e i tokens h =
    let after = body f.body (lines f.body) ⨾ nothing in
    into-look (λ y. parameters_plan f.line f.name (is_seen (close_parenthesis y))) f (sign S.CloseParenthesis) tokens (starts tokens (sign S.CloseParenthesis) _ after h)
    (step-token any (λ seen. token arrow_or_colon (result_plan f.line f.name [])) f (sign S.CloseParenthesis) tt (result_symbols f.result ++ sign S.Colon ∷ []) after refl
    (λ rest g. subst (λ p. Spells (token arrow_or_colon (result_plan f.line f.name p)) f rest) e (into-result f f.result refl i rest g)) tokens h)
into-parameters f (p ∷ more) e i tokens h =
    let after = body f.body (lines f.body) ⨾ nothing in
    let end = sign S.CloseParenthesis ∷ (result_symbols f.result ++ sign S.Colon ∷ []) in
    let shaped : (these (one_parameter p ++ (further_parameters more ++ end)) ⨾ after) tokens = subst (λ y. (these (one_parameter p ++ (y ++ end)) ⨾ after) tokens) (further more) h in
    into-look (λ y. parameters_plan f.line f.name (is_seen (close_parenthesis y))) f (name p.name) tokens (starts tokens (name p.name) _ after h)
    (into-parameter (λ p. more_parameters (λ more. token close_parenthesis (λ seen. token arrow_or_colon (result_plan f.line f.name (p ∷ more))))) f p (further_parameters more ++ end) after
    (λ r1 g1. into-more (λ more. token close_parenthesis (λ seen. token arrow_or_colon (result_plan f.line f.name (p ∷ more)))) f more end after
    (λ r2 g2. step-token close_parenthesis (λ seen. token arrow_or_colon (result_plan f.line f.name (p ∷ more))) f (sign S.CloseParenthesis) tt (result_symbols f.result ++ sign S.Colon ∷ []) after refl
    (λ rest g. subst (λ p. Spells (token arrow_or_colon (result_plan f.line f.name p)) f rest) e (into-result f f.result refl i rest g)) r2 g2) r1 g1)
    tokens shaped)

-- the shape of a header
pub header_shape : (f : FunctionTree) → function_symbols f ++ sign S.Colon ∷ [] ≡ key K.Def ∷ name f.name ∷ sign S.OpenParenthesis ∷ behind_open f.parameters f.result
header_shape f =
    ap (λ y. key K.Def ∷ name f.name ∷ sign S.OpenParenthesis ∷ y)
    (ap (λ y. y ++ sign S.Colon ∷ []) (append_assoc (parameter_symbols f.parameters) (sign S.CloseParenthesis ∷ []) (result_symbols f.result))
    ∙ append_assoc (parameter_symbols f.parameters) (sign S.CloseParenthesis ∷ result_symbols f.result) (sign S.Colon ∷ []))

into-def : (f : FunctionTree) → IsFunction f → (tokens : List Lexeme) → (on_line f.line (header (function_symbols f)) ⨾ body f.body (lines f.body)) tokens → Spells def_plan f tokens
into-def f i tokens h =
    let after = body f.body (lines f.body) ⨾ nothing in
    let placed = first-line f.line (key K.Def) _ (body f.body (lines f.body)) tokens h in
    let shaped = subst (λ y. (these y ⨾ after) tokens) (header_shape f) (alone _ (body f.body (lines f.body)) tokens placed.1) in
    into-lined (λ line s. token def_key (λ seen. token a_name (λ f. token open_parenthesis (λ seen. peek (λ u. parameters_plan line f (is_seen (close_parenthesis u.symbol))))))) f f.line (key K.Def) tokens placed.0 (starts tokens (key K.Def) _ after shaped)
    (step-token def_key (λ seen. token a_name (λ x. token open_parenthesis (λ seen. peek (λ u. parameters_plan f.line x (is_seen (close_parenthesis u.symbol)))))) f (key K.Def) tt _ after refl
    (λ r1 g1. step-token a_name (λ x. token open_parenthesis (λ seen. peek (λ u. parameters_plan f.line x (is_seen (close_parenthesis u.symbol))))) f (name f.name) f.name _ after refl
    (λ r2 g2. step-token open_parenthesis (λ seen. peek (λ u. parameters_plan f.line f.name (is_seen (close_parenthesis u.symbol)))) f (sign S.OpenParenthesis) tt (behind_open f.parameters f.result) after refl
    (λ rest g. into-parameters f f.parameters refl i rest g) r2 g2) r1 g1) tokens shaped)

-- a look for a decorator
look-decorator : (c : Bool) (s : Symbol) (f : FunctionTree) (tokens : List Lexeme) → StartsWith s tokens → is_seen (at_sign s) ≡ c → Spells (decorated c) f tokens → Spells function_plan f tokens
look-decorator c s f [] w e h = absurd w
look-decorator c s f (t ∷ ts) w e h = subst (λ c. Spells (decorated c) f (t ∷ ts)) (sym (ap (λ y. is_seen (at_sign y)) w ∙ e)) h

pub first-def : (f : FunctionTree) (tokens : List Lexeme) → (on_line f.line (header (function_symbols f)) ⨾ body f.body (lines f.body)) tokens → StartsWith (key K.Def) tokens
first-def f tokens h = let placed = first-line f.line (key K.Def) _ (body f.body (lines f.body)) tokens h in starts tokens (key K.Def) _ _ placed.1

pub function-into : (f : FunctionTree) (tokens : List Lexeme) → function_phrase f tokens → Spells function_plan f tokens
function-into f tokens h =
    let all = h.0 in
    let rest : Phrase = on_line f.line (header (function_symbols f)) ⨾ body f.body (lines f.body) in
    elim all.is_first [
      | inl none ↦ (
          let plain : rest tokens = step-end tokens rest (record { front = all.front; back = all.back; whole = all.whole; is_first = none; is_second = all.is_second }) in
          look-decorator false (key K.Def) f tokens (first-def f tokens plain) refl (into-def f h.1 tokens plain))
      | inr there ↦ (
          let g : (these (sign S.At ∷ name (codes "kernel") ∷ newline ∷ []) ⨾ rest) tokens = record { front = all.front; back = all.back; whole = all.whole; is_first = there; is_second = all.is_second } in
          look-decorator true (sign S.At) f tokens (starts tokens (sign S.At) _ rest g) refl
          (step-token any (λ seen. token (the_name (codes "kernel")) (λ seen. token line_end (λ seen. def_plan))) f (sign S.At) tt (name (codes "kernel") ∷ newline ∷ []) rest refl
          (λ r1 g1. step-token (the_name (codes "kernel")) (λ seen. token line_end (λ seen. def_plan)) f (name (codes "kernel")) tt (newline ∷ []) rest refl
          (λ r2 g2. step-token line_end (λ seen. def_plan) f newline tt [] rest refl (λ r3 g3. into-def f h.1 r3 (step-end r3 rest g3)) r2 g2) r1 g1) tokens g))
    ]
