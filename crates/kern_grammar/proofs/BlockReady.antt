-- The plans of blocks and of statements with blocks are ready to be read.
use Rattle.std.proofs.Common.{◌≡◌, ℕ, Bool, true, false, List, [], ◌∷◌, ◌++◌, refl, sym, ◌∙◌, ap, subst, append_assoc}
use Rattle.std.specs.Prelude.{Option, Some, None, not, codes}
use Rattle.kern_lexer.specs.Bytes.{Bytes}
use Rattle.kern_lexer.specs.Symbols.{Symbol, Lexeme, key, sign, name, quoted, newline, indent, dedent}
use Rattle.kern_lexer.specs.declared.token.Key.TheVariants as K
use Rattle.kern_lexer.specs.declared.token.Sign.TheVariants as S
use Rattle.kern_syntax.specs.Tree.{Expression, integer, Statement, pass, break, continue, return, evaluate, assign, assign_element, augment, augment_element, assign_repeated, assign_list, if_then, while_do, for_range, parallel, sequential, record_as, try_do, Block, line_then, Otherwise, no_else, else_do, elif_then}
use Rattle.kern_syntax.specs.Tree as Tree
use Rattle.kern_grammar.specs.BlockPlans.{line_phrase, is_elif, is_else, is_except, otherwise_stop, line_stop, no_stop, block_of_lines, block_phrase, is_line, block_by, block_plan, a_block, ElifLine, elif_plan, else_plan, otherwise_of, branches_plan, ExceptLine, except_plan, handlers_of_lines, handlers_plan, range_plan, with_plan, statement_plan}
use Rattle.kern_grammar.specs.Plans.{Taker, Plan, done, token, peek, part, run, Spells, many, EachOf, ends_with, EachEnds, maybe, MaybeOf, MaybeEnds}
use Rattle.kern_grammar.specs.SimplePlans.{an_expression, Line}
use Rattle.kern_grammar.specs.Views.{line_end, dedented, colon, comma_or_close, close_parenthesis, elif_key, except_key, is_seen, a_name, WithItem, in_parallel, in_sequence, recording, Opening, passes, breaks, continues, returns, ifs, whiles, fors, withs, tries, others, opening}
use Rattle.kern_grammar.proofs.LineMarks.{stop-statement, lines-items}
use Rattle.kern_grammar.proofs.Many.{BeginsWith}
use Rattle.kern_grammar.proofs.ManyReads.{many-takes}
use Rattle.kern_grammar.proofs.MaybeReads.{maybe-takes}
use Rattle.kern_grammar.proofs.PlanReads.{plan-takes}
use Rattle.kern_grammar.proofs.Seen.{colon-is, dedented-is, comma_or_close-is, close_parenthesis-is, else_key-is}
use Rattle.kern_grammar.proofs.SimpleInto.{NoBranch}
use Rattle.kern_grammar.proofs.SimpleReady.{Stopping, ready-expression, each-ends, Free, Behind, ready-simple}
use Rattle.kern_grammar.proofs.Taking.{SameFirst, Somewhere, Takes, Ready, plan-some}
use Rattle.kern_grammar.specs.Operators.{stops_at, continues_at}

-- anything may follow, whatever it is
pub free-alike : {A : Type 0} (x : A) (before left other : List Lexeme) → SameFirst left other → no_stop x (before ++ left) → no_stop x (before ++ other)
free-alike x before left other d h = tt

-- a look before a token
pub look-some : {A V : Type 0} (stop : A → List Lexeme → Type 0) (view : Symbol → Option V) (next : Lexeme → V → Plan A) (t : Lexeme) (v : V) → view t.symbol ≡ Some v → Ready stop (next t v) → Somewhere (Spells (peek (λ t. token view (next t))))
look-some stop view next t v e ready =
    let s = plan-some stop (next t v) ready in
    record { value = s.value; tokens = t ∷ s.tokens; is_phrase = (v, e, s.is_phrase) }

-- a line's statement on one line leaves open what follows
pub free-line : (line : ℕ) → Free line_stop (λ s. (line, s))
free-line line (if_then c b more) symbols h rest = absurd (let none : None ≡ Some symbols = h in cc)
free-line line (try_do b handlers) symbols h rest = absurd (let none : None ≡ Some symbols = h in cc)
free-line line pass symbols h rest = tt
free-line line break symbols h rest = tt
free-line line continue symbols h rest = tt
free-line line (return e) symbols h rest = tt
free-line line (evaluate e) symbols h rest = tt
free-line line (assign x e) symbols h rest = tt
free-line line (assign_element x i e) symbols h rest = tt
free-line line (augment x op e) symbols h rest = tt
free-line line (augment_element x i op e) symbols h rest = tt
free-line line (assign_repeated x e n) symbols h rest = tt
free-line line (assign_list x es) symbols h rest = tt
free-line line (while_do c b) symbols h rest = tt
free-line line (for_range x from to b) symbols h rest = tt
free-line line (parallel b) symbols h rest = tt
free-line line (sequential b) symbols h rest = tt
free-line line (record_as text b) symbols h rest = tt

-- lines of a block
abbrev pub TakesLine : (room : ℕ) → Taker Line → Type 0
TakesLine room take = Takes (line_phrase room) line_stop take

abbrev pub TakesBlock : (room : ℕ) → Taker Line → Type 0
TakesBlock room take = Takes (block_phrase room) no_stop (run (block_plan room take))

pub takes-lines : (room : ℕ) (take : Taker Line) → TakesLine room take → Takes (EachOf (line_phrase room)) (EachEnds line_stop is_line) (many is_line take)
takes-lines room take takes = many-takes (line_phrase room) line_stop is_line take (lines-items room) takes

-- a Dedent begins no branch
dedent-free : (s : Symbol) (u : Unit {0}) → dedented s ≡ Some u → NoBranch s
dedent-free s u h = subst NoBranch (sym (dedented-is s u h)) (record { no_elif = refl; no_else = refl; no_except = refl })

behind-lines : (next : Unit {0} → Plan Block) (more : List Line) (b : Block) (back rest : List Lexeme) → Spells (token dedented next) b back → EachEnds line_stop is_line more (back ++ rest)
behind-lines next more b [] rest h = absurd h
behind-lines next more b (t ∷ back) rest h =
    each-ends line_stop is_line more (t ∷ (back ++ rest)) (λ x. stop-statement x.1 t (back ++ rest) (dedent-free t.symbol h.0 h.1)) (ap (λ y. not (is_line y)) (dedented-is t.symbol h.0 h.1))

behind-line : (room : ℕ) (next : Unit {0} → Plan Block) (first : Line) (more : List Line) (b : Block) (front back rest : List Lexeme) → EachOf (line_phrase room) more front → Spells (token dedented next) b back → line_stop first ((front ++ back) ++ rest)
behind-line room next first [] b front [] rest e h = absurd h
behind-line room next first [] b front (t ∷ back) rest e h =
    subst (λ y. line_stop first ((y ++ (t ∷ back)) ++ rest)) (sym e) (stop-statement first.1 t (back ++ rest) (dedent-free t.symbol h.0 h.1))
behind-line room next first (y ∷ ys) b front back rest e h =
    subst (line_stop first) (sym (ap (λ y. (y ++ back) ++ rest) e.whole ∙ append_assoc (e.front ++ e.back) back rest ∙ append_assoc e.front e.back (back ++ rest)))
    ((lines-items room).chains first y e.front (e.back ++ (back ++ rest)) e.is_first)

pub ready-block : (room : ℕ) (take : Taker Line) → TakesLine room take → (t : Lexeme) (is_indented : Bool) → Behind no_stop (block_by room take t is_indented)
ready-block room take takes t true = (
  (
    (tt, newline, refl),
    λ v. (
      (tt, indent, refl),
      λ v. (
        takes,
        λ first front p. (
          (takes-lines room take takes, λ more f q. (((tt, dedent, refl), λ v rest. tt), λ b back rest h s. behind-lines (λ seen. done (block_of_lines (first ∷ more))) more b back rest h)),
          λ b back rest h s. subst (λ y. line_stop first (y ++ rest)) (sym h.whole) (behind-line room (λ seen. done (block_of_lines (first ∷ h.value))) first h.value b h.front h.back rest h.is_first h.is_next),
        ),
      ),
    ),
  ),
  λ b h. h,
)
ready-block room take takes t false = ready-simple no_stop (λ s. line_then t.line s Tree.done) (λ s symbols h rest. tt) (opening t.symbol)

-- `pass` on a line of its own
some-pass : (room : ℕ) (take : Taker Line) → Somewhere (Spells (block_plan room take))
some-pass room take = record {
  value = line_then 0 pass Tree.done;
  tokens = record { symbol = key K.Pass; line = 0 } ∷ record { symbol = newline; line = 0 } ∷ [];
  is_phrase = (tt, refl, (tt, refl, (refl, refl)));
}

pub block-spelled : (room : ℕ) (take : Taker Line) → TakesLine room take → Takes (Spells (block_plan room take)) no_stop (run (block_plan room take))
block-spelled room take takes = plan-takes no_stop (block_plan room take) (some-pass room take, λ t. ready-block room take takes t (is_seen (line_end t.symbol))) free-alike

-- a colon and a block
pub ready-a_block : {A : Type 0} (stop : A → List Lexeme → Type 0) (room : ℕ) (take : Taker Line) → TakesBlock room take → (next : Block → Plan A) → ((b : Block) → Ready stop (next b)) → Ready stop (a_block room take next)
ready-a_block stop room take blocks next ready = ((tt, sign S.Colon, refl), λ v. (blocks, λ b front p. (ready b, λ c back rest h s. tt)))

colon-stops : Stopping colon
colon-stops s v h = ap (λ y. stops_at 11 (continues_at y)) (colon-is s v h)

-- an expression, a colon and a block
pub ready-condition : {A : Type 0} (stop : A → List Lexeme → Type 0) (room : ℕ) (take : Taker Line) → TakesBlock room take → (next : Expression → Block → Plan A) → ((c : Expression) (b : Block) → Ready stop (next c b)) → Ready stop (an_expression 16 (λ c. a_block room take (next c)))
ready-condition stop room take blocks next ready =
    ready-expression stop 16 (λ c. colon) (λ c seen. part (block_phrase room) no_stop (run (block_plan room take)) (next c)) (λ c. colon-stops) (λ c. ready-a_block stop room take blocks (next c) (ready c))

-- `elif` branches
pub takes-elif : (room : ℕ) (take : Taker Line) → TakesBlock room take → Takes (Spells (elif_plan room take)) no_stop (run (elif_plan room take))
takes-elif room take blocks =
    let after = λ (t : Lexeme). ready-condition {A = ElifLine} no_stop room take blocks (λ c b. done (t.line, c, b)) (λ c b rest. tt) in
    let first : Lexeme = record { symbol = key K.Elif; line = 0 } in
    plan-takes no_stop (elif_plan room take)
    (look-some no_stop elif_key (λ t seen. an_expression 16 (λ c. a_block room take (λ b. done (t.line, c, b)))) first tt refl (after first), λ t. (((tt, key K.Elif, refl), λ v. after t), λ b h. h))
    free-alike

pub elif-begins : (room : ℕ) (take : Taker Line) (x : ElifLine) (front : List Lexeme) → Spells (elif_plan room take) x front → BeginsWith is_elif front
elif-begins room take x [] h = absurd h
elif-begins room take x (t ∷ front) h = ap is_seen h.1

pub takes-elifs : (room : ℕ) (take : Taker Line) → TakesBlock room take → Takes (EachOf (Spells (elif_plan room take))) (EachEnds no_stop is_elif) (many is_elif (run (elif_plan room take)))
takes-elifs room take blocks =
    many-takes (Spells (elif_plan room take)) no_stop is_elif (run (elif_plan room take)) (record { begins = elif-begins room take; chains = λ x y front rest h. tt }) (takes-elif room take blocks)

-- an `else` branch
else-begins : (room : ℕ) (take : Taker Line) (b : Block) (front : List Lexeme) → Spells (else_plan room take) b front → BeginsWith is_else front
else-begins room take b [] h = absurd h
else-begins room take b (t ∷ front) h = ap is_seen h.1

pub takes-else : (room : ℕ) (take : Taker Line) → TakesBlock room take → Takes (MaybeOf (Spells (else_plan room take))) (MaybeEnds no_stop is_else is_elif) (maybe is_else is_elif (run (else_plan room take)))
takes-else room take blocks =
    maybe-takes (Spells (else_plan room take)) no_stop is_else is_elif (run (else_plan room take)) (else-begins room take)
    (plan-takes no_stop (else_plan room take) ((tt, key K.Else, refl), λ v. ready-a_block no_stop room take blocks (λ b. done b) (λ b rest. tt)) free-alike)

-- what follows the branches of an `if`
otherwise-ends : (more : List ElifLine) (o : Option Block) (rest : List Lexeme) → otherwise_stop (otherwise_of more o) rest → MaybeEnds no_stop is_else is_elif o rest
otherwise-ends [] None rest h = h
otherwise-ends [] (Some b) rest h = tt
otherwise-ends (x ∷ more) o rest h = otherwise-ends more o rest h

ends-otherwise : (more : List ElifLine) (o : Option Block) (rest : List Lexeme) → MaybeEnds no_stop is_else is_elif o rest → otherwise_stop (otherwise_of more o) rest
ends-otherwise [] None rest h = h
ends-otherwise [] (Some b) rest h = tt
ends-otherwise (x ∷ more) o rest h = ends-otherwise more o rest h

no-elif : (room : ℕ) (take : Taker Line) (o : Option Block) (back rest : List Lexeme) → MaybeOf (Spells (else_plan room take)) o back → MaybeEnds no_stop is_else is_elif o rest → ends_with is_elif (back ++ rest) ≡ true
no-elif room take None back rest h e = ap (λ y. ends_with is_elif (y ++ rest)) h ∙ e.1
no-elif room take (Some b) [] rest h e = absurd h
no-elif room take (Some b) (t ∷ back) rest h e = ap (λ y. not (is_elif y)) (else_key-is t.symbol h.0 h.1)

-- the branches of an `if`
pub ready-branches : {A : Type 0} (stop : A → List Lexeme → Type 0) (room : ℕ) (take : Taker Line) → TakesBlock room take → (build : Otherwise → A) → ((o : Otherwise) (rest : List Lexeme) → stop (build o) rest → otherwise_stop o rest) → ((o : Otherwise) (rest : List Lexeme) → otherwise_stop o rest → stop (build o) rest) → Ready stop (branches_plan room take build)
ready-branches stop room take blocks build there back = (
  takes-elifs room take blocks,
  λ more f p. (
    (takes-else room take blocks, λ o rest s. otherwise-ends more o rest (there (otherwise_of more o) rest s), λ o rest s. back (otherwise_of more o) rest (ends-otherwise more o rest s)),
    λ b tail rest h s.
        let s2 = otherwise-ends more h.0 rest (there (otherwise_of more h.0) rest (subst (λ y. stop y rest) (sym h.1) s)) in
        each-ends no_stop is_elif more (tail ++ rest) (λ x. tt) (no-elif room take h.0 tail rest h.2 s2),
  ),
)

-- `except` branches
pub takes-except : (room : ℕ) (take : Taker Line) → TakesBlock room take → Takes (Spells (except_plan room take)) no_stop (run (except_plan room take))
takes-except room take blocks =
    let after = λ (t : Lexeme) (x : Bytes). ready-a_block {A = ExceptLine} no_stop room take blocks (λ b. done (t.line, x, b)) (λ b rest. tt) in
    let first : Lexeme = record { symbol = key K.Except; line = 0 } in
    plan-takes no_stop (except_plan room take)
    (look-some no_stop except_key (λ t seen. token a_name (λ x. a_block room take (λ b. done (t.line, x, b)))) first tt refl (([], name [], refl), λ x. after first x), λ t. (((tt, key K.Except, refl), λ v. (([], name [], refl), λ x. after t x)), λ b h. h))
    free-alike

pub except-begins : (room : ℕ) (take : Taker Line) (x : ExceptLine) (front : List Lexeme) → Spells (except_plan room take) x front → BeginsWith is_except front
except-begins room take x [] h = absurd h
except-begins room take x (t ∷ front) h = ap is_seen h.1

pub takes-excepts : (room : ℕ) (take : Taker Line) → TakesBlock room take → Takes (EachOf (Spells (except_plan room take))) (EachEnds no_stop is_except) (many is_except (run (except_plan room take)))
takes-excepts room take blocks =
    many-takes (Spells (except_plan room take)) no_stop is_except (run (except_plan room take)) (record { begins = except-begins room take; chains = λ x y front rest h. tt }) (takes-except room take blocks)

ends-each : {X : Type 0} (test : Symbol → Bool) (xs : List X) (rest : List Lexeme) → EachEnds no_stop test xs rest → ends_with test rest ≡ true
ends-each test [] rest h = h
ends-each test (x ∷ []) rest h = h.1
ends-each test (x ∷ y ∷ more) rest h = ends-each test (y ∷ more) rest h

pub ready-handlers : {A : Type 0} (stop : A → List Lexeme → Type 0) (room : ℕ) (take : Taker Line) → TakesBlock room take → (build : Tree.Handlers → A) → ((h : Tree.Handlers) (rest : List Lexeme) → stop (build h) rest → ends_with is_except rest ≡ true) → ((h : Tree.Handlers) (rest : List Lexeme) → ends_with is_except rest ≡ true → stop (build h) rest) → Ready stop (handlers_plan room take build)
ready-handlers stop room take blocks build there back = (
  takes-except room take blocks,
  λ first f p. (
    (
      takes-excepts room take blocks,
      λ more rest s. each-ends no_stop is_except more rest (λ x. tt) (there (handlers_of_lines (first ∷ more)) rest s),
      λ more rest s. back (handlers_of_lines (first ∷ more)) rest (ends-each is_except more rest s),
    ),
    λ b tail rest h s. tt,
  ),
)

-- bounds
comma_or_close-stops : Stopping comma_or_close
comma_or_close-stops s true h = ap (λ y. stops_at 11 (continues_at y)) (comma_or_close-is s true h)
comma_or_close-stops s false h = ap (λ y. stops_at 11 (continues_at y)) (comma_or_close-is s false h)

close-stops : Stopping close_parenthesis
close-stops s v h = ap (λ y. stops_at 11 (continues_at y)) (close_parenthesis-is s v h)

ready-range : {A : Type 0} (stop : A → List Lexeme → Type 0) (next : Option Expression → Expression → Plan A) → ((from : Option Expression) (to : Expression) → Ready stop (next from to)) → (first : Expression) (has_more : Bool) → Ready stop (range_plan next first has_more)
ready-range stop next ready first true =
    ready-expression stop 15 (λ to. close_parenthesis) (λ to seen. next (Some first) to) (λ to. close-stops) (λ to. ((tt, sign S.CloseParenthesis, refl), λ v. ready (Some first) to))
ready-range stop next ready first false = ready None first

ready-with : (room : ℕ) (take : Taker Line) → TakesBlock room take → (line : ℕ) (i : WithItem) → Ready line_stop (with_plan room take line i)
ready-with room take blocks line in_parallel = ready-a_block line_stop room take blocks (λ b. done (line, parallel b)) (λ b rest. tt)
ready-with room take blocks line in_sequence = ready-a_block line_stop room take blocks (λ b. done (line, sequential b)) (λ b rest. tt)
ready-with room take blocks line recording = (
  (tt, sign S.Dot, refl),
  λ v. (
    (tt, name (codes "record"), refl),
    λ v. (
      (tt, sign S.OpenParenthesis, refl),
      λ v. (
        ([], quoted [], refl),
        λ text. (
          (tt, sign S.CloseParenthesis, refl),
          λ v.
              ready-a_block line_stop room take blocks (λ b. done (line, record_as text b)) (λ b rest. tt),
        ),
      ),
    ),
  ),
)

pub ready-statement : (room : ℕ) (take : Taker Line) → TakesBlock room take → (line : ℕ) (o : Opening) → Behind line_stop (statement_plan room take line o)
ready-statement room take blocks line ifs =
    (((tt, newline, refl), λ v. ready-condition line_stop room take blocks (λ c b. branches_plan room take (λ more. (line, if_then c b more))) (λ c b. ready-branches line_stop room take blocks (λ more. (line, if_then c b more)) (λ o rest s. s) (λ o rest s. s))), λ b h. h)
ready-statement room take blocks line whiles =
    (((tt, newline, refl), λ v. ready-condition line_stop room take blocks (λ c b. done (line, while_do c b)) (λ c b rest. tt)), λ b h. h)
ready-statement room take blocks line fors = (
  (
    (tt, newline, refl),
    λ v. (
      ([], name [], refl),
      λ x. (
        (tt, key K.In, refl),
        λ v. (
          (tt, name (codes "range"), refl),
          λ v. (
            (tt, sign S.OpenParenthesis, refl),
            λ v.
                ready-expression line_stop 15 (λ first. comma_or_close) (range_plan (λ from to. a_block room take (λ b. done (line, for_range x from to b)))) (λ first. comma_or_close-stops)
                (λ first. ((false, sign S.CloseParenthesis, refl), ready-range line_stop (λ from to. a_block room take (λ b. done (line, for_range x from to b))) (λ from to. ready-a_block line_stop room take blocks (λ b. done (line, for_range x from to b)) (λ b rest. tt)) first)),
          ),
        ),
      ),
    ),
  ),
  λ b h. h,
)
ready-statement room take blocks line withs =
    (((tt, newline, refl), λ v. ((in_parallel, name (codes "parallel"), refl), ready-with room take blocks line)), λ b h. h)
ready-statement room take blocks line tries =
    (((tt, newline, refl), λ v. ready-a_block line_stop room take blocks (λ b. handlers_plan room take (λ handlers. (line, try_do b handlers))) (λ b. ready-handlers line_stop room take blocks (λ handlers. (line, try_do b handlers)) (λ h rest s. s) (λ h rest s. s))), λ b h. h)
ready-statement room take blocks line passes = ready-simple line_stop (λ s. (line, s)) (free-line line) passes
ready-statement room take blocks line breaks = ready-simple line_stop (λ s. (line, s)) (free-line line) breaks
ready-statement room take blocks line continues = ready-simple line_stop (λ s. (line, s)) (free-line line) continues
ready-statement room take blocks line returns = ready-simple line_stop (λ s. (line, s)) (free-line line) returns
ready-statement room take blocks line others = ready-simple line_stop (λ s. (line, s)) (free-line line) others
