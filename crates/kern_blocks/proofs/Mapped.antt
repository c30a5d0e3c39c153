-- A simple statement that is built into something is the statement, built so.
use Rattle.std.proofs.Common.{◌≡◌, ℕ, Bool, true, false, List, [], ◌∷◌, refl}
use Rattle.std.specs.Prelude.{Option, Some, None, Ok, Err}
use Rattle.kern_lexer.specs.Symbols.{Symbol, Lexeme}
use Rattle.kern_syntax.specs.Tree.{Expression, Statement}
use Rattle.kern_syntax.specs.Tree as Tree
use Rattle.kern_grammar.specs.Plans.{Taken, ◌>>=◌, Plan, done, token, peek}
use Rattle.kern_grammar.specs.SimplePlans.{take_expression, an_expression, end_line, more_elements, repeated, array_end, assigned, deed_plan, by_expression, returned, word_line, simple_plan}
use Rattle.kern_expressions.specs.TakenBy.{first_seen, perform}
use Rattle.kern_grammar.specs.Views.{line_end, open_bracket, close_bracket, star_or_end, a_number, any, is_seen, Opening, passes, breaks, continues, returns, ifs, whiles, fors, withs, tries, others, to_name, to_element, Deed, evaluates, assigns_to, augments_at, deed}

-- what was taken, seen by a function
abbrev pub mapped : {A B : Type 0} → (A → B) → Taken A → Taken B
mapped f r = r >>= λ x. Ok (f x.0, x.1)

-- one plan gives what another gives, by a function
abbrev pub Mapped : {A B : Type 0} → (A → B) → Plan A → Plan B → Type 0
Mapped f p q = (tokens : List Lexeme) → perform q tokens ≡ mapped f (perform p tokens)

mapped_bind : {X A B : Type 0} (f : A → B) (r : Taken X) (p : X × List Lexeme → Taken A) (q : X × List Lexeme → Taken B) → ((x : X × List Lexeme) → q x ≡ mapped f (p x)) → (r >>= q) ≡ mapped f (r >>= p)
mapped_bind f (Ok x) p q h = h x
mapped_bind f (Err left) p q h = refl

mapped_token : {A B V : Type 0} (f : A → B) (view : Symbol → Option V) (p : V → Plan A) (q : V → Plan B) → ((v : V) → Mapped f (p v) (q v)) → Mapped f (token view p) (token view q)
mapped_token f view p q h tokens = mapped_bind f (first_seen view tokens) (λ v. perform (p v.0) v.1) (λ v. perform (q v.0) v.1) (λ v. h v.0 v.1)

mapped_peek : {A B : Type 0} (f : A → B) (p : Lexeme → Plan A) (q : Lexeme → Plan B) → ((t : Lexeme) → Mapped f (p t) (q t)) → Mapped f (peek p) (peek q)
mapped_peek f p q h [] = refl
mapped_peek f p q h (t ∷ rest) = h t (t ∷ rest)

mapped_expression : {A B : Type 0} (f : A → B) (room : ℕ) (p : Expression → Plan A) (q : Expression → Plan B) → ((e : Expression) → Mapped f (p e) (q e)) → Mapped f (an_expression room p) (an_expression room q)
mapped_expression f room p q h tokens = mapped_bind f (take_expression room tokens) (λ v. perform (p v.0) v.1) (λ v. perform (q v.0) v.1) (λ v. h v.0 v.1)

mapped_end : {A B : Type 0} (f : A → B) (a : A) → Mapped f (end_line a) (end_line (f a))
mapped_end f a = mapped_token f line_end (λ seen. done a) (λ seen. done (f a)) (λ v tokens. refl)

mapped_last : {A B : Type 0} (f : A → B) (room : ℕ) (build : Expression → A) → Mapped f (an_expression room (λ e. end_line (build e))) (an_expression room (λ e. end_line (f (build e))))
mapped_last f room build = mapped_expression f room (λ e. end_line (build e)) (λ e. end_line (f (build e))) (λ e. mapped_end f (build e))

mapped_repeated : {A B : Type 0} (f : A → B) (build : Statement → A) (x : List ℕ) (e : Expression) (b : Bool) → Mapped f (repeated build x e b) (repeated (λ s. f (build s)) x e b)
mapped_repeated f build x e true = mapped_token f a_number (λ n. end_line (build (Tree.assign_repeated x e n))) (λ n. end_line (f (build (Tree.assign_repeated x e n)))) (λ n. mapped_end f (build (Tree.assign_repeated x e n)))
mapped_repeated f build x e false = λ tokens. refl

mapped_array_end : {A B : Type 0} (f : A → B) (build : Statement → A) (x : List ℕ) (e : Expression) (es : List Expression) → Mapped f (array_end build x e es) (array_end (λ s. f (build s)) x e es)
mapped_array_end f build x e [] = mapped_token f star_or_end (repeated build x e) (repeated (λ s. f (build s)) x e) (mapped_repeated f build x e)
mapped_array_end f build x e (g ∷ more) = mapped_end f (build (Tree.assign_list x (e ∷ g ∷ more)))

mapped_elements : {A B : Type 0} (f : A → B) (p : List Expression → Plan A) (q : List Expression → Plan B) → ((es : List Expression) → Mapped f (p es) (q es)) → Mapped f (more_elements p) (more_elements q)
mapped_elements f p q h tokens = mapped_bind f _ (λ v. perform (p v.0) v.1) (λ v. perform (q v.0) v.1) (λ v. h v.0 v.1)

mapped_assigned : {A B : Type 0} (f : A → B) (build : Statement → A) (x : List ℕ) (b : Bool) → Mapped f (assigned build x b) (assigned (λ s. f (build s)) x b)
mapped_assigned f build x true =
    mapped_token f open_bracket (λ seen. an_expression 15 (λ e. more_elements (λ more. token close_bracket (λ seen. array_end build x e more)))) (λ seen. an_expression 15 (λ e. more_elements (λ more. token close_bracket (λ seen. array_end (λ s. f (build s)) x e more))))
    (λ v. mapped_expression f 15 (λ e. more_elements (λ more. token close_bracket (λ seen. array_end build x e more))) (λ e. more_elements (λ more. token close_bracket (λ seen. array_end (λ s. f (build s)) x e more)))
    (λ e. mapped_elements f (λ more. token close_bracket (λ seen. array_end build x e more)) (λ more. token close_bracket (λ seen. array_end (λ s. f (build s)) x e more))
    (λ more. mapped_token f close_bracket (λ seen. array_end build x e more) (λ seen. array_end (λ s. f (build s)) x e more) (λ v. mapped_array_end f build x e more))))
mapped_assigned f build x false = mapped_last f 16 (λ e. build (Tree.assign x e))

mapped_deed : {A B : Type 0} (f : A → B) (build : Statement → A) (e : Expression) (d : Deed) → Mapped f (deed_plan build e d) (deed_plan (λ s. f (build s)) e d)
mapped_deed f build e evaluates = λ tokens. refl
mapped_deed f build e (assigns_to (to_name x)) = mapped_peek f (λ t. assigned build x (is_seen (open_bracket t.symbol))) (λ t. assigned (λ s. f (build s)) x (is_seen (open_bracket t.symbol))) (λ t. mapped_assigned f build x (is_seen (open_bracket t.symbol)))
mapped_deed f build e (assigns_to (to_element x i)) = mapped_last f 16 (λ v. build (Tree.assign_element x i v))
mapped_deed f build e (augments_at (to_name x) op) = mapped_last f 16 (λ v. build (Tree.augment x op v))
mapped_deed f build e (augments_at (to_element x i) op) = mapped_last f 16 (λ v. build (Tree.augment_element x i op v))

mapped_by_expression : {A B : Type 0} (f : A → B) (build : Statement → A) → Mapped f (by_expression build) (by_expression (λ s. f (build s)))
mapped_by_expression f build =
    mapped_expression f 16 (λ e. token (deed e) (deed_plan build e)) (λ e. token (deed e) (deed_plan (λ s. f (build s)) e))
    (λ e. mapped_token f (deed e) (deed_plan build e) (deed_plan (λ s. f (build s)) e) (mapped_deed f build e))

mapped_returned : {A B : Type 0} (f : A → B) (build : Statement → A) (b : Bool) → Mapped f (returned build b) (returned (λ s. f (build s)) b)
mapped_returned f build true = mapped_end f (build (Tree.return None))
mapped_returned f build false = mapped_last f 16 (λ e. build (Tree.return (Some e)))

mapped_word : {A B : Type 0} (f : A → B) (a : A) → Mapped f (word_line a) (word_line (f a))
mapped_word f a = mapped_token f any (λ seen. end_line a) (λ seen. end_line (f a)) (λ v. mapped_end f a)

pub mapped_simple : {A B : Type 0} (f : A → B) (build : Statement → A) (o : Opening) → Mapped f (simple_plan build o) (simple_plan (λ s. f (build s)) o)
mapped_simple f build passes = mapped_word f (build Tree.pass)
mapped_simple f build breaks = mapped_word f (build Tree.break)
mapped_simple f build continues = mapped_word f (build Tree.continue)
mapped_simple f build returns =
    mapped_token f any (λ seen. peek (λ t. returned build (is_seen (line_end t.symbol)))) (λ seen. peek (λ t. returned (λ s. f (build s)) (is_seen (line_end t.symbol))))
    (λ v. mapped_peek f (λ t. returned build (is_seen (line_end t.symbol))) (λ t. returned (λ s. f (build s)) (is_seen (line_end t.symbol))) (λ t. mapped_returned f build (is_seen (line_end t.symbol))))
mapped_simple f build ifs = mapped_by_expression f build
mapped_simple f build whiles = mapped_by_expression f build
mapped_simple f build fors = mapped_by_expression f build
mapped_simple f build withs = mapped_by_expression f build
mapped_simple f build tries = mapped_by_expression f build
mapped_simple f build others = mapped_by_expression f build

-- behind a look
pub mapped_look : {A B : Type 0} (f : A → B) (build : Statement → A) (kind : Symbol → Opening) → Mapped f (peek (λ t. simple_plan build (kind t.symbol))) (peek (λ t. simple_plan (λ s. f (build s)) (kind t.symbol)))
mapped_look f build kind = mapped_peek f (λ t. simple_plan build (kind t.symbol)) (λ t. simple_plan (λ s. f (build s)) (kind t.symbol)) (λ t. mapped_simple f build (kind t.symbol))
