-- The End stands last in an accepted list, and nowhere else.
use Rattle.std.proofs.Common.{◌≡◌, ℕ, zero, suc, Bool, true, false, List, [], ◌∷◌, ◌++◌, refl, sym, ◌∙◌, ap, subst, append_assoc, append-nil}
use Rattle.std.specs.Prelude.{Option, Some, None, codes, Ok, Err}
use Rattle.kern_lexer.specs.Symbols.{Symbol, Lexeme, key, sign, end}
use Rattle.kern_lexer.specs.declared.token.Key.TheVariants as K
use Rattle.kern_lexer.specs.declared.token.Sign.TheVariants as S
use Rattle.kern_syntax.specs.Tree.{Expression, integer, true_literal, false_literal, variable, element, group, unary, binary, compare, negation, conjunction, disjunction, call, method, Arguments, no_more, value_then, text_then, Statement, if_then, Block, line_then, Otherwise, Handlers, ParameterTree, FunctionTree, ProgramTree}
use Rattle.kern_syntax.specs.Tree as Tree
use Rattle.kern_grammar.specs.Accepted.{HasTree}
use Rattle.kern_grammar.specs.BlockPlans.{line_phrase, block_phrase, block_by, block_plan, a_block, ElifLine, elif_plan, else_plan, branches_plan, ExceptLine, except_plan, handlers_plan, range_plan, with_plan, statement_plan, line_plan, a_parameter, comma_parameter, result_plan, parameters_plan, decorated, function_plan, function_phrase, program_plan}
use Rattle.kern_grammar.specs.Expressions.{expression_symbols, argument_symbols, comma_before}
use Rattle.kern_grammar.specs.Phrases.{symbols_of}
use Rattle.kern_grammar.specs.Plans.{Taker, Plan, done, token, peek, part, last, run, Spells, EachOf, MaybeOf}
use Rattle.kern_grammar.specs.SimplePlans.{expression_phrase, an_expression, Line, end_line, comma_element, repeated, array_end, assigned, deed_plan, by_expression, returned, simple_plan}
use Rattle.kern_grammar.specs.Views.{any, line_end, comma, colon, dot, in_key, a_name, a_number, a_text, a_type, the_name, star_or_end, comma_or_close, arrow_or_colon, close_bracket, open_parenthesis, indented, dedented, elif_key, else_key, except_key, def_key, a_with_item, open_bracket, close_parenthesis, at_sign, is_seen, text_end, WithItem, in_parallel, in_sequence, recording, Opening, passes, breaks, continues, returns, ifs, whiles, fors, withs, tries, others, opening, to_name, to_element, Deed, evaluates, assigns_to, augments_at, deed}
use Rattle.kern_grammar.proofs.BlockSpells.{block-into}
use Rattle.kern_grammar.proofs.FunctionFrom.{seen_of}
use Rattle.kern_grammar.proofs.FunctionSpells.{function-into}
use Rattle.kern_grammar.proofs.LiftedReads.{symbols-append}
use Rattle.kern_grammar.proofs.LineReads.{into-line}
use Rattle.kern_grammar.proofs.ProgramReads.{takes-program, program-into, has_tree-read}
use Rattle.kern_grammar.proofs.Seen.{OpeningIs, opening-is, close_parenthesis-is, at_sign-is, text_end-is}
use Rattle.kern_grammar.proofs.Steps.{token-then}

-- symbols without an End
abbrev pub NoEnd : List Symbol → Type 0
NoEnd [] = Unit {0}
NoEnd (s ∷ symbols) = (s ≡ end → ⊥) × NoEnd symbols

no_end-append : (a b : List Symbol) → NoEnd a → NoEnd b → NoEnd (a ++ b)
no_end-append [] b h g = g
no_end-append (s ∷ a) b h g = (h.0, no_end-append a b h.1 g)

no_end-comma : (a : List Symbol) → NoEnd a → NoEnd (comma_before a)
no_end-comma [] h = tt
no_end-comma (s ∷ a) h = ((λ e. cc), h)

mutual
  no_end-expression : (e : Expression) → NoEnd (expression_symbols e)
  no_end-expression (disjunction a b) = no_end-append (expression_symbols a) (key K.Or ∷ expression_symbols b) (no_end-expression a) ((λ e. cc), no_end-expression b)
  no_end-expression (conjunction a b) = no_end-append (expression_symbols a) (key K.And ∷ expression_symbols b) (no_end-expression a) ((λ e. cc), no_end-expression b)
  no_end-expression (negation e) = ((λ e. cc), no_end-expression e)
  no_end-expression (compare op a b) = no_end-append (expression_symbols a) (sign _ ∷ expression_symbols b) (no_end-expression a) ((λ e. cc), no_end-expression b)
  no_end-expression (binary op a b) = no_end-append (expression_symbols a) (sign _ ∷ expression_symbols b) (no_end-expression a) ((λ e. cc), no_end-expression b)
  no_end-expression (unary op e) = ((λ e. cc), no_end-expression e)
  no_end-expression (integer n) = ((λ e. cc), tt)
  no_end-expression true_literal = ((λ e. cc), tt)
  no_end-expression false_literal = ((λ e. cc), tt)
  no_end-expression (variable x) = ((λ e. cc), tt)
  no_end-expression (element x i) = ((λ e. cc), ((λ e. cc), no_end-append (expression_symbols i) (sign S.CloseBracket ∷ []) (no_end-expression i) ((λ e. cc), tt)))
  no_end-expression (group e) = ((λ e. cc), no_end-append (expression_symbols e) (sign S.CloseParenthesis ∷ []) (no_end-expression e) ((λ e. cc), tt))
  no_end-expression (call f args) = ((λ e. cc), ((λ e. cc), no_end-append (argument_symbols args) (sign S.CloseParenthesis ∷ []) (no_end-arguments args) ((λ e. cc), tt)))
  no_end-expression (method o m args) = ((λ e. cc), ((λ e. cc), ((λ e. cc), ((λ e. cc), no_end-append (argument_symbols args) (sign S.CloseParenthesis ∷ []) (no_end-arguments args) ((λ e. cc), tt)))))

  no_end-arguments : (args : Arguments) → NoEnd (argument_symbols args)
  no_end-arguments no_more = tt
  no_end-arguments (value_then e rest) = no_end-append (expression_symbols e) (comma_before (argument_symbols rest)) (no_end-expression e) (no_end-comma (argument_symbols rest) (no_end-arguments rest))
  no_end-arguments (text_then text rest) = ((λ e. cc), no_end-comma (argument_symbols rest) (no_end-arguments rest))

-- tokens without an End
abbrev pub Endless : List Lexeme → Type 0
Endless tokens = NoEnd (symbols_of tokens)

endless-append : (tokens front back : List Lexeme) → tokens ≡ front ++ back → Endless front → Endless back → Endless tokens
endless-append tokens front back w h g = subst NoEnd (sym (ap symbols_of w ∙ symbols-append front back)) (no_end-append (symbols_of front) (symbols_of back) h g)

-- phrases without an End
abbrev pub EndlessPhrase : {X : Type 0} → (X → List Lexeme → Type 0) → Type 0
EndlessPhrase {X} phrase = (x : X) (tokens : List Lexeme) → phrase x tokens → Endless tokens

-- a view that doesn't see an End at a token
abbrev Passes : {V : Type 0} → (Symbol → Option V) → Symbol → Type 0
Passes {V} view s = (v : V) → view s ≡ Some v → s ≡ end → ⊥

abbrev mutual
  -- a plan that takes no End
  pub Clean : {A : Type 0} → Plan A → Type 0
  Clean (done a) = Unit {0}
  Clean (token {V} view next) = ((s : Symbol) → Passes view s) × ((v : V) → Clean (next v))
  Clean (peek next) = (t : Lexeme) → CleanAt t.symbol (next t)
  Clean (part {X} phrase own take next) = EndlessPhrase phrase × ((x : X) → Clean (next x))
  Clean (last phrase own take build) = EndlessPhrase phrase

  -- a plan whose first token was looked at
  pub CleanAt : {A : Type 0} → Symbol → Plan A → Type 0
  CleanAt s (done a) = Unit {0}
  CleanAt s (token {V} view next) = Passes view s × ((v : V) → Clean (next v))
  CleanAt s (peek next) = (t : Lexeme) → CleanAt t.symbol (next t)
  CleanAt s (part {X} phrase own take next) = EndlessPhrase phrase × ((x : X) → Clean (next x))
  CleanAt s (last phrase own take build) = EndlessPhrase phrase

mutual
  clean-spells : {A : Type 0} (plan : Plan A) → Clean plan → (b : A) (tokens : List Lexeme) → Spells plan b tokens → Endless tokens
  clean-spells (done a) c b tokens h = subst Endless (sym h.1) tt
  clean-spells (token view next) c b [] h = absurd h
  clean-spells (token view next) c b (t ∷ ts) h = (c.0 t.symbol h.0 h.1, clean-spells (next h.0) (c.1 h.0) b ts h.2)
  clean-spells (peek next) c b [] h = absurd h
  clean-spells (peek next) c b (t ∷ ts) h = clean-at (next t) t (c t) b ts h
  clean-spells (part phrase own take next) c b tokens h = endless-append tokens h.front h.back h.whole (c.0 h.value h.front h.is_first) (clean-spells (next h.value) (c.1 h.value) b h.back h.is_next)
  clean-spells (last phrase own take build) c b tokens h = c h.0 tokens h.2

  clean-at : {A : Type 0} (plan : Plan A) (t : Lexeme) → CleanAt t.symbol plan → (b : A) (ts : List Lexeme) → Spells plan b (t ∷ ts) → Endless (t ∷ ts)
  clean-at (done a) t c b ts h = absurd (let wrong : t ∷ ts ≡ [] = h.1 in cc)
  clean-at (token view next) t c b ts h = (c.0 h.0 h.1, clean-spells (next h.0) (c.1 h.0) b ts h.2)
  clean-at (peek next) t c b ts h = clean-at (next t) t (c t) b ts h
  clean-at (part phrase own take next) t c b ts h = endless-append (t ∷ ts) h.front h.back h.whole (c.0 h.value h.front h.is_first) (clean-spells (next h.value) (c.1 h.value) b h.back h.is_next)
  clean-at (last phrase own take build) t c b ts h = c h.0 (t ∷ ts) h.2

each-endless : {X : Type 0} (phrase : X → List Lexeme → Type 0) → EndlessPhrase phrase → EndlessPhrase (EachOf phrase)
each-endless phrase c [] tokens h = subst Endless (sym h) tt
each-endless phrase c (x ∷ xs) tokens h = endless-append tokens h.front h.back h.whole (c x h.front h.is_first) (each-endless phrase c xs h.back h.is_second)

maybe-endless : {X : Type 0} (phrase : X → List Lexeme → Type 0) → EndlessPhrase phrase → EndlessPhrase (MaybeOf phrase)
maybe-endless phrase c None tokens h = subst Endless (sym h) tt
maybe-endless phrase c (Some x) tokens h = c x tokens h

expression-endless : (room : ℕ) → EndlessPhrase (expression_phrase room)
expression-endless room e tokens h = subst NoEnd (sym h.0) (no_end-expression e)

-- a view that never sees an End
abbrev NoneAtEnd : {V : Type 0} → (Symbol → Option V) → Type 0
NoneAtEnd view = view end ≡ None

never : {V : Type 0} (view : Symbol → Option V) → NoneAtEnd view → (s : Symbol) → Passes view s
never view n s v h e = let wrong : None ≡ Some v = sym n ∙ ap view (sym e) ∙ h in cc

-- simple statements
clean-end : {A : Type 0} (a : A) → Clean (end_line a)
clean-end a = (never line_end refl, λ v. tt)

clean-expression-end : {A : Type 0} (room : ℕ) (build : Expression → A) → Clean (an_expression room (λ e. end_line (build e)))
clean-expression-end room build = (expression-endless room, λ e. clean-end (build e))

element-endless : EndlessPhrase (Spells comma_element)
element-endless e tokens h = clean-spells comma_element (never comma refl, λ v. expression-endless 15) e tokens h

clean-repeated : {A : Type 0} (build : Statement → A) (x : List ℕ) (e : Expression) (b : Bool) → Clean (repeated build x e b)
clean-repeated build x e true = (never a_number refl, λ n. clean-end (build (Tree.assign_repeated x e n)))
clean-repeated build x e false = tt

clean-array_end : {A : Type 0} (build : Statement → A) (x : List ℕ) (e : Expression) (es : List Expression) → Clean (array_end build x e es)
clean-array_end build x e [] = (never star_or_end refl, clean-repeated build x e)
clean-array_end build x e (f ∷ more) = clean-end (build (Tree.assign_list x (e ∷ f ∷ more)))

clean-assigned : {A : Type 0} (build : Statement → A) (x : List ℕ) (s : Symbol) (b : Bool) → CleanAt s (assigned build x b)
clean-assigned build x s true =
    (never open_bracket refl s, λ v. (expression-endless 15, λ e. (each-endless (Spells comma_element) element-endless, λ es. (never close_bracket refl, λ v. clean-array_end build x e es))))
clean-assigned build x s false = clean-expression-end 16 (λ e. build (Tree.assign x e))

clean-deed : {A : Type 0} (build : Statement → A) (e : Expression) (d : Deed) → Clean (deed_plan build e d)
clean-deed build e evaluates = tt
clean-deed build e (assigns_to (to_name x)) = λ t. clean-assigned build x t.symbol (is_seen (open_bracket t.symbol))
clean-deed build e (assigns_to (to_element x i)) = clean-expression-end 16 (λ v. build (Tree.assign_element x i v))
clean-deed build e (augments_at (to_name x) op) = clean-expression-end 16 (λ v. build (Tree.augment x op v))
clean-deed build e (augments_at (to_element x i) op) = clean-expression-end 16 (λ v. build (Tree.augment_element x i op v))

clean-by_expression : {A : Type 0} (build : Statement → A) → Clean (by_expression build)
clean-by_expression build = (expression-endless 16, λ e. (never (deed e) refl, clean-deed build e))

clean-returned : {A : Type 0} (build : Statement → A) (s : Symbol) (b : Bool) → CleanAt s (returned build b)
clean-returned build s true = (never line_end refl s, λ v. tt)
clean-returned build s false = clean-expression-end 16 (λ e. build (Tree.return (Some e)))

-- a keyword is no End
no_key : (s : Symbol) (k : Symbol) → s ≡ k → (k ≡ end → ⊥) → {V : Type 0} → (view : Symbol → Option V) → Passes view s
no_key s k e n view v h g = n (sym e ∙ g)

clean-simple : {A : Type 0} (build : Statement → A) (o : Opening) (s : Symbol) → OpeningIs s o → CleanAt s (simple_plan build o)
clean-simple build passes s e = (no_key s (key K.Pass) e (λ g. cc) any, λ v. clean-end (build Tree.pass))
clean-simple build breaks s e = (no_key s (key K.Break) e (λ g. cc) any, λ v. clean-end (build Tree.break))
clean-simple build continues s e = (no_key s (key K.Continue) e (λ g. cc) any, λ v. clean-end (build Tree.continue))
clean-simple build returns s e = (no_key s (key K.Return) e (λ g. cc) any, λ v t. clean-returned build t.symbol (is_seen (line_end t.symbol)))
clean-simple build ifs s e = clean-by_expression build
clean-simple build whiles s e = clean-by_expression build
clean-simple build fors s e = clean-by_expression build
clean-simple build withs s e = clean-by_expression build
clean-simple build tries s e = clean-by_expression build
clean-simple build others s e = clean-by_expression build

-- blocks, where their statements take no End
clean-block_by : (room : ℕ) (take : Taker Line) → EndlessPhrase (line_phrase room) → (t : Lexeme) (b : Bool) → CleanAt t.symbol (block_by room take t b)
clean-block_by room take c t true =
    (never line_end refl t.symbol, λ v. (never indented refl, λ v. (c, λ first. (each-endless (line_phrase room) c, λ more. (never dedented refl, λ v. tt)))))
clean-block_by room take c t false = clean-simple (λ s. line_then t.line s Tree.done) (opening t.symbol) t.symbol (opening-is t.symbol)

block-endless : (room : ℕ) (take : Taker Line) → EndlessPhrase (line_phrase room) → EndlessPhrase (block_phrase room)
block-endless room take c b tokens h =
    clean-spells (block_plan room take) (λ t. clean-block_by room take c t (is_seen (line_end t.symbol))) b tokens (block-into room take b tokens h)

clean-a_block : {A : Type 0} (room : ℕ) (take : Taker Line) → EndlessPhrase (block_phrase room) → (next : Block → Plan A) → ((b : Block) → Clean (next b)) → Clean (a_block room take next)
clean-a_block room take c next n = (never colon refl, λ v. (c, n))

elif-endless : (room : ℕ) (take : Taker Line) → EndlessPhrase (block_phrase room) → EndlessPhrase (Spells (elif_plan room take))
elif-endless room take c x tokens h =
    clean-spells (elif_plan room take) (λ t. (never elif_key refl t.symbol, λ v. (expression-endless 16, λ e. clean-a_block {A = ElifLine} room take c (λ b. done (t.line, e, b)) (λ b. tt)))) x tokens h

else-endless : (room : ℕ) (take : Taker Line) → EndlessPhrase (block_phrase room) → EndlessPhrase (Spells (else_plan room take))
else-endless room take c b tokens h = clean-spells (else_plan room take) (never else_key refl, λ v. clean-a_block room take c (λ b. done b) (λ b. tt)) b tokens h

except-endless : (room : ℕ) (take : Taker Line) → EndlessPhrase (block_phrase room) → EndlessPhrase (Spells (except_plan room take))
except-endless room take c x tokens h =
    clean-spells (except_plan room take) (λ t. (never except_key refl t.symbol, λ v. (never a_name refl, λ x. clean-a_block {A = ExceptLine} room take c (λ b. done (t.line, x, b)) (λ b. tt)))) x tokens h

clean-range : {A : Type 0} (next : Option Expression → Expression → Plan A) → ((from : Option Expression) (to : Expression) → Clean (next from to)) → (first : Expression) (b : Bool) → Clean (range_plan next first b)
clean-range next n first true = (expression-endless 15, λ to. (never close_parenthesis refl, λ v. n (Some first) to))
clean-range next n first false = n None first

clean-with : (room : ℕ) (take : Taker Line) → EndlessPhrase (block_phrase room) → (line : ℕ) (i : WithItem) → Clean (with_plan room take line i)
clean-with room take c line in_parallel = clean-a_block {A = Line} room take c (λ b. done (line, Tree.parallel b)) (λ b. tt)
clean-with room take c line in_sequence = clean-a_block {A = Line} room take c (λ b. done (line, Tree.sequential b)) (λ b. tt)
clean-with room take c line recording =
    (never dot refl, λ v. (never (the_name (codes "record")) refl, λ v. (never open_parenthesis refl, λ v. (never a_text refl, λ text. (never close_parenthesis refl, λ v. clean-a_block {A = Line} room take c (λ b. done (line, Tree.record_as text b)) (λ b. tt))))))

clean-statement : (room : ℕ) (take : Taker Line) → EndlessPhrase (block_phrase room) → (line : ℕ) (o : Opening) (s : Symbol) → OpeningIs s o → CleanAt s (statement_plan room take line o)
clean-statement room take c line ifs s e =
    (no_key s (key K.If) e (λ g. cc) any, λ v. (expression-endless 16, λ x. clean-a_block {A = Line} room take c (λ b. branches_plan room take (λ more. (line, if_then x b more))) (λ b. (each-endless (Spells (elif_plan room take)) (elif-endless room take c), λ more. maybe-endless (Spells (else_plan room take)) (else-endless room take c)))))
clean-statement room take c line whiles s e =
    (no_key s (key K.While) e (λ g. cc) any, λ v. (expression-endless 16, λ x. clean-a_block {A = Line} room take c (λ b. done (line, Tree.while_do x b)) (λ b. tt)))
clean-statement room take c line fors s e = (
  no_key s (key K.For) e (λ g. cc) any,
  λ v. (
    never a_name refl,
    λ x. (
      never in_key refl,
      λ v. (
        never (the_name (codes "range")) refl,
        λ v. (
          never open_parenthesis refl,
          λ v. (
            expression-endless 15,
            λ first. (
              never comma_or_close refl,
              clean-range (λ from to. a_block room take (λ b. done (line, Tree.for_range x from to b))) (λ from to. clean-a_block {A = Line} room take c (λ b. done (line, Tree.for_range x from to b)) (λ b. tt)) first,
            ),
          ),
        ),
      ),
    ),
  ),
)
clean-statement room take c line withs s e = (no_key s (key K.With) e (λ g. cc) any, λ v. (never a_with_item refl, clean-with room take c line))
clean-statement room take c line tries s e =
    (no_key s (key K.Try) e (λ g. cc) any, λ v. clean-a_block {A = Line} room take c (λ b. handlers_plan room take (λ handlers. (line, Tree.try_do b handlers))) (λ b. (except-endless room take c, λ first. each-endless (Spells (except_plan room take)) (except-endless room take c))))
clean-statement room take c line passes s e = clean-simple {A = Line} (λ x. (line, x)) passes s e
clean-statement room take c line breaks s e = clean-simple {A = Line} (λ x. (line, x)) breaks s e
clean-statement room take c line continues s e = clean-simple {A = Line} (λ x. (line, x)) continues s e
clean-statement room take c line returns s e = clean-simple {A = Line} (λ x. (line, x)) returns s e
clean-statement room take c line others s e = clean-simple {A = Line} (λ x. (line, x)) others s e

line-endless : (room : ℕ) → EndlessPhrase (line_phrase room)
line-endless zero x tokens h =
    clean-spells (line_plan 0) (λ t. clean-simple {A = Line} (λ s. (t.line, s)) (opening t.symbol) t.symbol (opening-is t.symbol)) x tokens (into-line 0 x tokens h)
line-endless (suc room) x tokens h =
    let take = run (line_plan room) in
    clean-spells (line_plan (suc room)) (λ t. clean-statement room take (block-endless room take (line-endless room)) t.line (opening t.symbol) t.symbol (opening-is t.symbol)) x tokens (into-line (suc room) x tokens h)

-- functions
body-endless : EndlessPhrase (block_phrase 15)
body-endless = block-endless 15 (run (line_plan 15)) (line-endless 15)

clean-parameter : {A : Type 0} (next : ParameterTree → Plan A) → ((p : ParameterTree) → Clean (next p)) → Clean (a_parameter next)
clean-parameter next n = (never a_name refl, λ x. (never colon refl, λ v. (never a_type refl, λ d. n (record { name = x; declared = d }))))

parameter-endless : EndlessPhrase (Spells comma_parameter)
parameter-endless p tokens h = clean-spells comma_parameter (never comma refl, λ v. clean-parameter (λ p. done p) (λ p. tt)) p tokens h

clean-result : (line : ℕ) (f : List ℕ) (parameters : List ParameterTree) (b : Bool) → Clean (result_plan line f parameters b)
clean-result line f parameters true = (never a_type refl, λ d. (never colon refl, λ v. (body-endless, λ b. tt)))
clean-result line f parameters false = (body-endless, λ b. tt)

clean-parameters : (line : ℕ) (f : List ℕ) (u : Symbol) (b : Bool) → is_seen (close_parenthesis u) ≡ b → CleanAt u (parameters_plan line f b)
clean-parameters line f u true e =
    (no_key u (sign S.CloseParenthesis) (close_parenthesis-is u tt (seen_of (close_parenthesis u) e)) (λ g. cc) any, λ v. (never arrow_or_colon refl, clean-result line f []))
clean-parameters line f u false e =
    (never a_name refl u, λ x. (never colon refl, λ v. (never a_type refl, λ d. (each-endless (Spells comma_parameter) parameter-endless, λ more. (never close_parenthesis refl, λ v. (never arrow_or_colon refl, clean-result line f (record { name = x; declared = d } ∷ more)))))))

clean-def : (t : Lexeme) → CleanAt t.symbol (token def_key (λ seen. token a_name (λ f. token open_parenthesis (λ seen. peek (λ u. parameters_plan t.line f (is_seen (close_parenthesis u.symbol)))))))
clean-def t = (never def_key refl t.symbol, λ v. (never a_name refl, λ f. (never open_parenthesis refl, λ v u. clean-parameters t.line f u.symbol (is_seen (close_parenthesis u.symbol)) refl)))

clean-decorated : (s : Symbol) (b : Bool) → is_seen (at_sign s) ≡ b → CleanAt s (decorated b)
clean-decorated s true e = (no_key s (sign S.At) (at_sign-is s tt (seen_of (at_sign s) e)) (λ g. cc) any, λ v. (never (the_name (codes "kernel")) refl, λ v. (never line_end refl, λ v. clean-def)))
clean-decorated s false e = clean-def

function-endless : EndlessPhrase function_phrase
function-endless f tokens h = clean-spells function_plan (λ t. clean-decorated t.symbol (is_seen (at_sign t.symbol)) refl) f tokens (function-into f tokens h)

-- a program's tokens: those before the End, and the End
pub record EndsOnce (tokens : List Lexeme) : Type 0 where
  pub front : List Lexeme
  pub last_token : Lexeme
  pub whole : tokens ≡ front ++ (last_token ∷ [])
  pub is_end : last_token.symbol ≡ end
  pub endless : Endless front

pub ends-once : (p : ProgramTree) (tokens : List Lexeme) → HasTree tokens p → EndsOnce tokens
ends-once p tokens h =
    let s = program-into p tokens h in
    let more = s.is_next in
    let t = token-then text_end (λ seen. done (s.value ∷ more.value)) p more.back more.is_next in
    record {
      front = s.front ++ more.front;
      last_token = t.first;
      is_end = text_end-is t.first.symbol t.value t.seen;
      whole = s.whole ∙ ap (λ y. s.front ++ y) (more.whole ∙ ap (λ y. more.front ++ y) (t.whole ∙ ap (λ y. t.first ∷ y) t.is_next.1)) ∙ sym (append_assoc s.front more.front (t.first ∷ []));
      endless = endless-append (s.front ++ more.front) s.front more.front refl (function-endless s.value s.front s.is_first) (each-endless function_phrase function-endless more.value more.front more.is_first);
    }

some-tokens : (front : List Lexeme) (e : Lexeme) (more : List Lexeme) → front ++ (e ∷ more) ≡ [] → ⊥
some-tokens [] e more h = cc
some-tokens (f ∷ front) e more h = cc

-- what stands behind an End
pub nothing-behind : (front : List Lexeme) (e t : Lexeme) (more clean : List Lexeme) → e.symbol ≡ end → front ++ (e ∷ more) ≡ clean ++ (t ∷ []) → Endless clean → more ≡ []
nothing-behind [] e t more [] s w c = cc
nothing-behind [] e t more (u ∷ clean) s w c = absurd (c.0 (let same : e ≡ u = cc in ap (λ v. v.symbol) (sym same) ∙ s))
nothing-behind (f ∷ front) e t more [] s w c = let none : front ++ (e ∷ more) ≡ [] = cc in absurd (some-tokens front e more none)
nothing-behind (f ∷ front) e t more (u ∷ clean) s w c = let rest : front ++ (e ∷ more) ≡ clean ++ (t ∷ []) = cc in nothing-behind front e t more clean s rest c.1

-- tokens whose last is an End begin an accepted list only where they are one
pub end-is_last : (front : List Lexeme) (e : Lexeme) (more : List Lexeme) (p : ProgramTree) → e.symbol ≡ end → HasTree ((front ++ (e ∷ [])) ++ more) p → more ≡ []
end-is_last front e more p s h =
    let o = ends-once p ((front ++ (e ∷ [])) ++ more) h in
    nothing-behind front e o.last_token more o.front s (sym (append_assoc front (e ∷ []) more) ∙ o.whole) o.endless

-- so reading doesn't stop behind an End
pub no-fault_at_end : (front : List Lexeme) (e : Lexeme) → e.symbol ≡ end → run program_plan (front ++ (e ∷ [])) ≡ Err [] → ⊥
no-fault_at_end front e s h =
    let f = takes-program.fault (front ++ (e ∷ [])) [] h in
    let all : front ++ (e ∷ []) ≡ f.before = f.whole ∙ append-nil f.before in
    let tree : HasTree ((front ++ (e ∷ [])) ++ f.more) f.completion = subst (λ y. HasTree (y ++ f.more) f.completion) (sym all) f.completed in
    let none = end-is_last front e f.more f.completion s tree in
    let own : HasTree (front ++ (e ∷ [])) f.completion = subst (λ y. HasTree y f.completion) (ap (λ y. (front ++ (e ∷ [])) ++ y) none ∙ append-nil (front ++ (e ∷ []))) tree in
    let read : run program_plan (front ++ (e ∷ [])) ≡ Ok (f.completion, []) = has_tree-read (front ++ (e ∷ [])) f.completion own in
    let wrong : Ok (f.completion, []) ≡ Err [] = sym read ∙ h in
    cc
