-- What the plan of a function spells is a function's tokens, and so functions are taken.
use Rattle.std.proofs.Common.{◌≡◌, ℕ, Bool, true, false, List, [], ◌∷◌, ◌++◌, refl, sym, ◌∙◌, ap, subst, inl, inr}
use Rattle.std.specs.Prelude.{Option, Some, None, codes, IsTrue}
use Rattle.kern_lexer.specs.Bytes.{Bytes}
use Rattle.kern_lexer.specs.Symbols.{Symbol, Lexeme, key, sign, name, newline}
use Rattle.kern_lexer.specs.declared.token.Key.TheVariants as K
use Rattle.kern_lexer.specs.declared.token.Sign.TheVariants as S
use Rattle.kern_syntax.specs.declared.program.DeclaredType.{DeclaredType}
use Rattle.kern_syntax.specs.Grammatical.{has_statement, AreLines, IsFunction}
use Rattle.kern_syntax.specs.Print.{name_of_type}
use Rattle.kern_syntax.specs.Tree.{Block, ParameterTree, FunctionTree}
use Rattle.kern_grammar.specs.BlockPlans.{no_stop, a_parameter, comma_parameter, more_parameters, function_block, result_plan, parameters_plan, def_plan, decorated, function_plan, function_phrase}
use Rattle.kern_grammar.specs.Blocks.{header, body, lines, result_symbols, function_symbols}
use Rattle.kern_grammar.specs.Phrases.{Phrase, symbols_of, these, ◌⨾◌, on_line}
use Rattle.kern_grammar.specs.Plans.{Plan, done, token, peek, run, Spells, EachOf}
use Rattle.kern_grammar.specs.Views.{a_name, a_type, colon, arrow_or_colon, open_parenthesis, close_parenthesis, at_sign, the_name, line_end, is_seen}
use Rattle.kern_grammar.proofs.BlockSpells.{converted, unalone}
use Rattle.kern_grammar.proofs.FunctionReads.{function-spelled}
use Rattle.kern_grammar.proofs.FunctionSpells.{one_parameter, further_parameters, further, behind_open, header_shape, function-into}
use Rattle.kern_grammar.proofs.LineFrom.{lined}
use Rattle.kern_grammar.proofs.Seen.{a_name-is, a_type-is, colon-is, comma-is, arrow_or_colon-is, open_parenthesis-is, close_parenthesis-is, def_key-is, at_sign-is, the_name-is, line_end-is}
use Rattle.kern_grammar.proofs.SimpleFrom.{split-symbols}
use Rattle.kern_grammar.proofs.Steps.{nothing, token-then, before-these, token-before, nothing-before, unflat}
use Rattle.kern_grammar.proofs.Taking.{Takes}

-- a parameter before what follows it
record ParameterThen {A : Type 0} (next : ParameterTree → Plan A) (a : A) (tokens : List Lexeme) : Type 1 where
  pub parameter : ParameterTree
  pub rest : List Lexeme
  pub is_next : Spells (next parameter) a rest
  pub before : (symbols : List Symbol) (after : Phrase) → (these symbols ⨾ after) rest → (these (one_parameter parameter ++ symbols) ⨾ after) tokens

parameter-then : {A : Type 0} (next : ParameterTree → Plan A) (a : A) (tokens : List Lexeme) → Spells (a_parameter next) a tokens → ParameterThen next a tokens
parameter-then next a tokens h =
    let n = token-then a_name (λ x. token colon (λ seen. token a_type (λ d. next (record { name = x; declared = d })))) a tokens h in
    let c = token-then colon (λ seen. token a_type (λ d. next (record { name = n.value; declared = d }))) a n.rest n.is_next in
    let d = token-then a_type (λ d. next (record { name = n.value; declared = d })) a c.rest c.is_next in
    let p : ParameterTree = record { name = n.value; declared = d.value } in
    record {
      parameter = p;
      rest = d.rest;
      is_next = d.is_next;
      before = λ symbols after g.
          token-before tokens n.first n.rest (name n.value) (sign S.Colon ∷ name (name_of_type d.value) ∷ symbols) after n.whole (a_name-is n.first.symbol n.value n.seen)
          (token-before n.rest c.first c.rest (sign S.Colon) (name (name_of_type d.value) ∷ symbols) after c.whole (colon-is c.first.symbol c.value c.seen)
          (token-before c.rest d.first d.rest (name (name_of_type d.value)) symbols after d.whole (a_type-is d.first.symbol d.value d.seen) g));
    }

comma_parameter-from : (p : ParameterTree) (tokens : List Lexeme) → Spells comma_parameter p tokens → symbols_of tokens ≡ sign S.Comma ∷ one_parameter p
comma_parameter-from p [] h = absurd h
comma_parameter-from p (t ∷ ts) h =
    let g = parameter-then (λ p. done p) p ts h.2 in
    let all = token-before (t ∷ ts) t ts (sign S.Comma) (one_parameter g.parameter) nothing refl (comma-is t.symbol h.0 h.1) (g.before [] nothing (nothing-before g.rest nothing g.is_next.1)) in
    unflat (t ∷ ts) (sign S.Comma ∷ one_parameter g.parameter) all ∙ ap (λ y. sign S.Comma ∷ one_parameter y) g.is_next.0

further-from : (more : List ParameterTree) (tokens : List Lexeme) → EachOf (Spells comma_parameter) more tokens → symbols_of tokens ≡ further_parameters more
further-from [] tokens h = ap symbols_of h
further-from (p ∷ more) tokens h =
    split-symbols tokens h.front h.back (sign S.Comma ∷ one_parameter p) (further_parameters more) h.whole (comma_parameter-from p h.front h.is_first) (further-from more h.back h.is_second)

-- the tree of a function
abbrev function_of_parts : (line : ℕ) → Bytes → List ParameterTree → Option DeclaredType → Block → FunctionTree
function_of_parts line f parameters result block = record { line = line; name = f; parameters = parameters; result = result; body = block }

-- the result type and the block
record ResultThen (line : ℕ) (f : Bytes) (parameters : List ParameterTree) (r : FunctionTree) (tokens : List Lexeme) : Type 0 where
  pub outcome : Option DeclaredType
  pub block : Block
  pub is : function_of_parts line f parameters outcome block ≡ r
  pub fits : IsTrue (has_statement block) × AreLines 15 block
  pub spelled : (these (result_symbols outcome ++ sign S.Colon ∷ []) ⨾ (body block (lines block) ⨾ nothing)) tokens

result_by-from : (line : ℕ) (f : Bytes) (parameters : List ParameterTree) (has_result : Bool) (r : FunctionTree) (t : Lexeme) (ts : List Lexeme) → arrow_or_colon t.symbol ≡ Some has_result → Spells (result_plan line f parameters has_result) r ts → ResultThen line f parameters r (t ∷ ts)
result_by-from line f parameters true r t ts seen h =
    let d = token-then a_type (λ d. token colon (λ seen. function_block line f parameters (Some d))) r ts h in
    let c = token-then colon (λ seen. function_block line f parameters (Some d.value)) r d.rest d.is_next in
    let b = c.is_next in
    let after = body b.value (lines b.value) ⨾ nothing in
    record {
      outcome = Some d.value;
      block = b.value;
      is = b.is_next.0;
      fits = b.is_first.1;
      spelled = token-before (t ∷ ts) t ts (sign S.Arrow) (name (name_of_type d.value) ∷ sign S.Colon ∷ []) after refl (arrow_or_colon-is t.symbol true seen)
          (token-before ts d.first d.rest (name (name_of_type d.value)) (sign S.Colon ∷ []) after d.whole (a_type-is d.first.symbol d.value d.seen)
          (token-before d.rest c.first c.rest (sign S.Colon) [] after c.whole (colon-is c.first.symbol c.value c.seen)
          (nothing-before c.rest after (record { front = b.front; back = b.back; whole = b.whole; is_first = b.is_first.0; is_second = b.is_next.1 }))));
    }
result_by-from line f parameters false r t ts seen h =
    let after = body h.value (lines h.value) ⨾ nothing in
    record {
      outcome = None;
      block = h.value;
      is = h.is_next.0;
      fits = h.is_first.1;
      spelled = token-before (t ∷ ts) t ts (sign S.Colon) [] after refl (arrow_or_colon-is t.symbol false seen)
          (nothing-before ts after (record { front = h.front; back = h.back; whole = h.whole; is_first = h.is_first.0; is_second = h.is_next.1 }));
    }

result-from : (line : ℕ) (f : Bytes) (parameters : List ParameterTree) (r : FunctionTree) (tokens : List Lexeme) → Spells (token arrow_or_colon (result_plan line f parameters)) r tokens → ResultThen line f parameters r tokens
result-from line f parameters r [] h = absurd h
result-from line f parameters r (t ∷ ts) h = result_by-from line f parameters h.0 r t ts h.1 h.2

-- what is in the parentheses and behind them
record ParametersThen (line : ℕ) (f : Bytes) (r : FunctionTree) (tokens : List Lexeme) : Type 0 where
  pub parameters : List ParameterTree
  pub outcome : Option DeclaredType
  pub block : Block
  pub is : function_of_parts line f parameters outcome block ≡ r
  pub fits : IsTrue (has_statement block) × AreLines 15 block
  pub spelled : (these (behind_open parameters outcome) ⨾ (body block (lines block) ⨾ nothing)) tokens

-- what was seen there is there
pub seen_of : (o : Option (Unit {0})) → is_seen o ≡ true → o ≡ Some tt
seen_of None h = absurd cc
seen_of (Some tt) h = refl

parameters_by-from : (line : ℕ) (f : Bytes) (is_empty : Bool) (r : FunctionTree) (u : Lexeme) (us : List Lexeme) → is_seen (close_parenthesis u.symbol) ≡ is_empty → Spells (parameters_plan line f is_empty) r (u ∷ us) → ParametersThen line f r (u ∷ us)
parameters_by-from line f true r u us e h =
    let g = result-from line f [] r us h.2 in
    record {
      parameters = [];
      outcome = g.outcome;
      block = g.block;
      is = g.is;
      fits = g.fits;
      spelled = token-before (u ∷ us) u us (sign S.CloseParenthesis) (result_symbols g.outcome ++ sign S.Colon ∷ []) (body g.block (lines g.block) ⨾ nothing) refl (close_parenthesis-is u.symbol tt (seen_of (close_parenthesis u.symbol) e)) g.spelled;
    }
parameters_by-from line f false r u us e h =
    let p = parameter-then (λ p. more_parameters (λ more. token close_parenthesis (λ seen. token arrow_or_colon (result_plan line f (p ∷ more))))) r (u ∷ us) h in
    let m = p.is_next in
    let c = token-then close_parenthesis (λ seen. token arrow_or_colon (result_plan line f (p.parameter ∷ m.value))) r m.back m.is_next in
    let g = result-from line f (p.parameter ∷ m.value) r c.rest c.is_next in
    let after = body g.block (lines g.block) ⨾ nothing in
    let end = sign S.CloseParenthesis ∷ (result_symbols g.outcome ++ sign S.Colon ∷ []) in
    let closed = token-before m.back c.first c.rest (sign S.CloseParenthesis) (result_symbols g.outcome ++ sign S.Colon ∷ []) after c.whole (close_parenthesis-is c.first.symbol c.value c.seen) g.spelled in
    let others = before-these p.rest m.front m.back (further_parameters m.value) end after m.whole (further-from m.value m.front m.is_first) closed in
    let all = p.before (further_parameters m.value ++ end) after others in
    record {
      parameters = p.parameter ∷ m.value;
      outcome = g.outcome;
      block = g.block;
      is = g.is;
      fits = g.fits;
      spelled = subst (λ y. (these (one_parameter p.parameter ++ (y ++ end)) ⨾ after) (u ∷ us)) (sym (further m.value)) all;
    }

parameters-from : (line : ℕ) (f : Bytes) (r : FunctionTree) (tokens : List Lexeme) → Spells (peek (λ u. parameters_plan line f (is_seen (close_parenthesis u.symbol)))) r tokens → ParametersThen line f r tokens
parameters-from line f r [] h = absurd h
parameters-from line f r (u ∷ us) h = parameters_by-from line f (is_seen (close_parenthesis u.symbol)) r u us refl h

-- a function without its decorator
abbrev Undecorated : FunctionTree → List Lexeme → Type 0
Undecorated f tokens = (on_line f.line (header (function_symbols f)) ⨾ body f.body (lines f.body)) tokens × IsFunction f

def-from : (r : FunctionTree) (tokens : List Lexeme) → Spells def_plan r tokens → Undecorated r tokens
def-from r [] h = absurd h
def-from r (t ∷ ts) h =
    let n = token-then a_name (λ f. token open_parenthesis (λ seen. peek (λ u. parameters_plan t.line f (is_seen (close_parenthesis u.symbol))))) r ts h.2 in
    let p = token-then open_parenthesis (λ seen. peek (λ u. parameters_plan t.line n.value (is_seen (close_parenthesis u.symbol)))) r n.rest n.is_next in
    let g = parameters-from t.line n.value r p.rest p.is_next in
    let f : FunctionTree = function_of_parts t.line n.value g.parameters g.outcome g.block in
    let after = body g.block (lines g.block) ⨾ nothing in
    let all = token-before (t ∷ ts) t ts (key K.Def) (name n.value ∷ sign S.OpenParenthesis ∷ behind_open g.parameters g.outcome) after refl (def_key-is t.symbol h.0 h.1)
    (token-before ts n.first n.rest (name n.value) (sign S.OpenParenthesis ∷ behind_open g.parameters g.outcome) after n.whole (a_name-is n.first.symbol n.value n.seen)
    (token-before n.rest p.first p.rest (sign S.OpenParenthesis) (behind_open g.parameters g.outcome) after p.whole (open_parenthesis-is p.first.symbol p.value p.seen) g.spelled)) in
    let shaped = subst (λ y. (these y ⨾ after) (t ∷ ts)) (sym (header_shape f)) all in
    subst (λ y. Undecorated y (t ∷ ts)) g.is (lined t ts (key K.Def) _ (body g.block (lines g.block)) (unalone _ _ (t ∷ ts) shaped), g.fits)

decorated-from : (has_decorator : Bool) (r : FunctionTree) (t : Lexeme) (ts : List Lexeme) → is_seen (at_sign t.symbol) ≡ has_decorator → Spells (decorated has_decorator) r (t ∷ ts) → function_phrase r (t ∷ ts)
decorated-from true r t ts e h =
    let k = token-then (the_name (codes "kernel")) (λ seen. token line_end (λ seen. def_plan)) r ts h.2 in
    let l = token-then line_end (λ seen. def_plan) r k.rest k.is_next in
    let g = def-from r l.rest l.is_next in
    let after : Phrase = on_line r.line (header (function_symbols r)) ⨾ body r.body (lines r.body) in
    let all = token-before (t ∷ ts) t ts (sign S.At) (name (codes "kernel") ∷ newline ∷ []) after refl (at_sign-is t.symbol tt (seen_of (at_sign t.symbol) e))
    (token-before ts k.first k.rest (name (codes "kernel")) (newline ∷ []) after k.whole (the_name-is (codes "kernel") k.first.symbol k.value k.seen)
    (token-before k.rest l.first l.rest newline [] after l.whole (line_end-is l.first.symbol l.value l.seen) (nothing-before l.rest after g.0))) in
    (record { front = all.front; back = all.back; whole = all.whole; is_first = inr all.is_first; is_second = all.is_second }, g.1)
decorated-from false r t ts e h =
    let g = def-from r (t ∷ ts) h in
    (record { front = []; back = t ∷ ts; whole = refl; is_first = inl refl; is_second = g.0 }, g.1)

function-from : (r : FunctionTree) (tokens : List Lexeme) → Spells function_plan r tokens → function_phrase r tokens
function-from r [] h = absurd h
function-from r (t ∷ ts) h = decorated-from (is_seen (at_sign t.symbol)) r t ts refl h

-- functions are taken
pub takes-function : Takes function_phrase no_stop (run function_plan)
takes-function = converted (Spells function_plan) function_phrase no_stop (run function_plan) function-from function-into function-spelled
