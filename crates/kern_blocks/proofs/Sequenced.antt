-- What a header gives is what its plan goes on with.
use Rattle.std.proofs.Common.{◌≡◌, ℕ, Bool, true, false, List, [], ◌∷◌, refl, ◌∙◌}
use Rattle.std.specs.Prelude.{Option, Some, Ok, Err, codes}
use Rattle.kern_lexer.specs.Symbols.{Symbol, Lexeme}
use Rattle.kern_syntax.specs.Tree.{Expression}
use Rattle.kern_syntax.specs.Tree as Tree
use Rattle.kern_statements.specs.declared.headers.WithItem.{WithItem}
use Rattle.kern_statements.specs.declared.headers.WithItem.TheVariants as W
use Rattle.kern_grammar.specs.BlockPlans.{a_block, block_phrase, block_plan, line_plan, no_stop, range_plan, with_plan}
use Rattle.kern_blocks.specs.BlockSteps.{ConditionalTree, colon_block, conditional, with_block_plan, with_rest}
use Rattle.kern_statements.specs.Headers.{BoundTrees, bracketed_bounds_plan, bounds_plan, quoted_recording_plan, recording_name_plan, with_head, with_item_plan}
use Rattle.kern_grammar.specs.Plans.{Taken, Taker, ◌>>=◌, Plan, done, token, peek, part, run}
use Rattle.kern_grammar.specs.SimplePlans.{take_expression, an_expression}
use Rattle.kern_expressions.specs.TakenBy.{first_seen, perform}
use Rattle.kern_grammar.specs.Views.{a_text, a_with_item, close_parenthesis, colon, comma_or_close, dot, in_key, open_parenthesis, the_name}
use Rattle.kern_grammar.specs.Views as V

-- a plan, and another that goes on with what it gives
abbrev pub Followed : {A B : Type 0} → Plan A → (A → Plan B) → Plan B → Type 0
Followed p next q = (tokens : List Lexeme) → perform q tokens ≡ (perform p tokens >>= λ x. perform (next x.0) x.1)

followed_bind : {X A B : Type 0} (r : Taken X) (p : X × List Lexeme → Taken A) (next : A × List Lexeme → Taken B) (q : X × List Lexeme → Taken B) → ((x : X × List Lexeme) → q x ≡ (p x >>= next)) → (r >>= q) ≡ ((r >>= p) >>= next)
followed_bind (Ok x) p next q h = h x
followed_bind (Err left) p next q h = refl

pub followed_token : {A B V : Type 0} (view : Symbol → Option V) (p : V → Plan A) (next : A → Plan B) (q : V → Plan B) → ((v : V) → Followed (p v) next (q v)) → Followed (token view p) next (token view q)
followed_token view p next q h tokens = followed_bind (first_seen view tokens) (λ v. perform (p v.0) v.1) (λ x. perform (next x.0) x.1) (λ v. perform (q v.0) v.1) (λ v. h v.0 v.1)

followed_expression : {A B : Type 0} (room : ℕ) (p : Expression → Plan A) (next : A → Plan B) (q : Expression → Plan B) → ((e : Expression) → Followed (p e) next (q e)) → Followed (an_expression room p) next (an_expression room q)
followed_expression room p next q h tokens = followed_bind (take_expression room tokens) (λ v. perform (p v.0) v.1) (λ x. perform (next x.0) x.1) (λ v. perform (q v.0) v.1) (λ v. h v.0 v.1)

pub followed_part : {X A B : Type 0} (phrase stop : X → List Lexeme → Type 0) (take : Taker X) (p : X → Plan A) (next : A → Plan B) (q : X → Plan B) → ((x : X) → Followed (p x) next (q x)) → Followed (part phrase stop take p) next (part phrase stop take q)
followed_part phrase stop take p next q h tokens = followed_bind (take tokens) (λ v. perform (p v.0) v.1) (λ x. perform (next x.0) x.1) (λ v. perform (q v.0) v.1) (λ v. h v.0 v.1)

followed_block : {A B : Type 0} (room : ℕ) (p : Tree.Block → Plan A) (next : A → Plan B) (q : Tree.Block → Plan B) → ((b : Tree.Block) → Followed (p b) next (q b)) → Followed (a_block room (run (line_plan room)) p) next (a_block room (run (line_plan room)) q)
followed_block room p next q h =
    let take = run (block_plan room (run (line_plan room))) in
    followed_token colon (λ seen. part (block_phrase room) no_stop take p) next (λ seen. part (block_phrase room) no_stop take q)
    (λ v. followed_part (block_phrase room) no_stop take p next q h)

-- a block behind its colon
pub followed_colon : {B : Type 0} (room : ℕ) (next : Tree.Block → Plan B) → Followed (colon_block room) next (a_block room (run (line_plan room)) next)
followed_colon room next = followed_block room (λ b. done b) next next (λ b tokens. refl)

-- a condition and its block
pub followed_condition : {B : Type 0} (room : ℕ) (next : ConditionalTree → Plan B) → Followed (conditional room) next (an_expression 16 (λ c. a_block room (run (line_plan room)) (λ b. next (c, b))))
followed_condition room next =
    followed_expression 16 (λ c. a_block room (run (line_plan room)) (λ b. done (c, b))) next (λ c. a_block room (run (line_plan room)) (λ b. next (c, b)))
    (λ c. followed_block room (λ b. done (c, b)) next (λ b. next (c, b)) (λ b tokens. refl))

pub followed_peek : {A B : Type 0} (p : Lexeme → Plan A) (next : A → Plan B) (q : Lexeme → Plan B) → ((t : Lexeme) → Followed (p t) next (q t)) → Followed (peek p) next (peek q)
followed_peek p next q h [] = refl
followed_peek p next q h (t ∷ rest) = h t (t ∷ rest)

-- the bounds of a `for` as a pair
abbrev pub pair_bounds : Option Expression → Expression → Plan BoundTrees
pair_bounds from to = done (from, to)

followed_range : {B : Type 0} (next : Option Expression → Expression → Plan B) (first : Expression) (b : Bool) → Followed (range_plan pair_bounds first b) (λ x. next x.0 x.1) (range_plan next first b)
followed_range next first true =
    followed_expression 15 (λ to. token close_parenthesis (λ seen. pair_bounds (Some first) to)) (λ x. next x.0 x.1) (λ to. token close_parenthesis (λ seen. next (Some first) to))
    (λ to. followed_token close_parenthesis (λ seen. pair_bounds (Some first) to) (λ x. next x.0 x.1) (λ seen. next (Some first) to) (λ v tokens. refl))
followed_range next first false = λ tokens. refl

pub followed_bounds : {B : Type 0} (next : Option Expression → Expression → Plan B) → Followed (bounds_plan pair_bounds) (λ x. next x.0 x.1) (bounds_plan next)
followed_bounds next =
    let go = λ (x : BoundTrees). next x.0 x.1 in
    followed_token in_key (λ seen. token (the_name (codes "range")) (λ seen. bracketed_bounds_plan pair_bounds)) go (λ seen. token (the_name (codes "range")) (λ seen. bracketed_bounds_plan next))
    (λ v. followed_token (the_name (codes "range")) (λ seen. bracketed_bounds_plan pair_bounds) go (λ seen. bracketed_bounds_plan next)
    (λ v. followed_token open_parenthesis (λ seen. an_expression 15 (λ first. token comma_or_close (range_plan pair_bounds first))) go (λ seen. an_expression 15 (λ first. token comma_or_close (range_plan next first)))
    (λ v. followed_expression 15 (λ first. token comma_or_close (range_plan pair_bounds first)) go (λ first. token comma_or_close (range_plan next first))
    (λ first. followed_token comma_or_close (range_plan pair_bounds first) go (range_plan next first) (followed_range next first)))))

-- the item of a `with` alone
abbrev pub the_item : WithItem → Plan WithItem
the_item item = done item

followed_head : {B : Type 0} (next : WithItem → Plan B) (i : V.WithItem) → Followed (with_head the_item i) next (with_head next i)
followed_head next V.in_parallel = λ tokens. refl
followed_head next V.in_sequence = λ tokens. refl
followed_head next V.recording =
    followed_token dot (λ seen. token (the_name (codes "record")) (λ seen. recording_name_plan the_item)) next (λ seen. token (the_name (codes "record")) (λ seen. recording_name_plan next))
    (λ v. followed_token (the_name (codes "record")) (λ seen. recording_name_plan the_item) next (λ seen. recording_name_plan next)
    (λ v. followed_token open_parenthesis (λ seen. quoted_recording_plan the_item) next (λ seen. quoted_recording_plan next)
    (λ v. followed_token a_text (λ text. token close_parenthesis (λ seen. the_item (W.Record text))) next (λ text. token close_parenthesis (λ seen. next (W.Record text)))
    (λ text. followed_token close_parenthesis (λ seen. the_item (W.Record text)) next (λ seen. next (W.Record text)) (λ v tokens. refl)))))

followed_item : {B : Type 0} (next : WithItem → Plan B) → Followed (with_item_plan the_item) next (with_item_plan next)
followed_item next = followed_token a_with_item (with_head the_item) next (with_head next) (followed_head next)

-- the plan of a `with` goes on with its item
with_head-plan : (room line : ℕ) (i : V.WithItem) (tokens : List Lexeme) → perform (with_plan room (run (line_plan room)) line i) tokens ≡ perform (with_head (with_rest room line) i) tokens
with_head-plan room line V.in_parallel tokens = refl
with_head-plan room line V.in_sequence tokens = refl
with_head-plan room line V.recording tokens = refl

same_behind : {X B : Type 0} (r : Taken X) (p q : X × List Lexeme → Taken B) → ((x : X × List Lexeme) → p x ≡ q x) → (r >>= p) ≡ (r >>= q)
same_behind (Ok x) p q h = h x
same_behind (Err left) p q h = refl

pub with_read : (room line : ℕ) (tokens : List Lexeme) → perform (with_block_plan room line) tokens ≡ (perform (with_item_plan the_item) tokens >>= λ i. perform (with_rest room line i.0) i.1)
with_read room line tokens =
    same_behind (first_seen a_with_item tokens) (λ v. perform (with_plan room (run (line_plan room)) line v.0) v.1) (λ v. perform (with_head (with_rest room line) v.0) v.1) (λ v. with_head-plan room line v.0 v.1)
    ∙ followed_item (with_rest room line) tokens
