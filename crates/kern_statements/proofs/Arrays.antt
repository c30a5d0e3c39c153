-- Whether an array has one element or several is told from what stands behind the first.
use Rattle.std.proofs.Common.{◌≡◌, ◌-◌, true, false, List, [], ◌∷◌, refl, sym, ◌∙◌, ap, length}
use Rattle.std.specs.Prelude.{Ok, Err}
use Rattle.kern_lexer.specs.Bytes.{Bytes}
use Rattle.kern_lexer.specs.Symbols.{Lexeme}
use Rattle.kern_syntax.specs.Tree.{Expression, Statement, assign_list}
use Rattle.kern_grammar.specs.Plans.{Taken, ◌>>=◌, Plan, token, many_behind, run}
use Rattle.kern_grammar.specs.SimplePlans.{comma_element, end_line, is_comma, more_elements}
use Rattle.kern_grammar.specs.Views.{close_bracket}
use Rattle.kern_grammar.proofs.Many.{many-some}
use Rattle.kern_expressions.specs.TakenBy.{begins_with, perform}
use Rattle.kern_statements.specs.LineSteps.{closed_elements, elements_plan}
use Rattle.kern_statements.proofs.ManyLists.{none_left}

-- an array of these elements from its closing bracket on
abbrev pub listed_plan : {A : Type 0} → (Statement → A) → Bytes → Expression → List Expression → Plan A
listed_plan build x e more = token close_bracket (λ seen. end_line (build (assign_list x (e ∷ more))))

behind_second : {A : Type 0} (build : Statement → A) (x : Bytes) (e f : Expression) (r : Taken (List Expression)) → ((r >>= λ xs. Ok (f ∷ xs.0, xs.1)) >>= λ more. perform (closed_elements build x e more.0) more.1) ≡ ((r >>= λ xs. Ok (f ∷ xs.0, xs.1)) >>= λ more. perform (listed_plan build x e more.0) more.1)
behind_second build x e f (Ok xs) = refl
behind_second build x e f (Err left) = refl

behind_first : {A : Type 0} (build : Statement → A) (x : Bytes) (e : Expression) (r : Taken Expression) (behind : Expression × List Lexeme → Taken (List Expression)) → ((r >>= λ f. behind f >>= λ xs. Ok (f.0 ∷ xs.0, xs.1)) >>= λ more. perform (closed_elements build x e more.0) more.1) ≡ ((r >>= λ f. behind f >>= λ xs. Ok (f.0 ∷ xs.0, xs.1)) >>= λ more. perform (listed_plan build x e more.0) more.1)
behind_first build x e (Ok f) behind = behind_second build x e f.0 (behind f)
behind_first build x e (Err left) behind = refl

pub several_elements : {A : Type 0} (build : Statement → A) (x : Bytes) (e : Expression) (tokens : List Lexeme) → begins_with is_comma tokens ≡ true → perform (more_elements (closed_elements build x e)) tokens ≡ perform (elements_plan build x e) tokens
several_elements build x e [] h = absurd cc
several_elements build x e (t ∷ rest) h =
    let items = many-some is_comma (run comma_element) t rest h in
    ap (λ r. r >>= λ more. perform (closed_elements build x e more.0) more.1) items
    ∙ behind_first build x e (run comma_element (t ∷ rest)) (λ f. many_behind is_comma (run comma_element) (length rest - length f.1) rest)
    ∙ sym (ap (λ r. r >>= λ more. perform (listed_plan build x e more.0) more.1) items)

pub lone_element : {A : Type 0} (build : Statement → A) (x : Bytes) (e : Expression) (tokens : List Lexeme) → begins_with is_comma tokens ≡ false → perform (more_elements (closed_elements build x e)) tokens ≡ perform (closed_elements build x e []) tokens
lone_element build x e tokens h = ap (λ r. r >>= λ more. perform (closed_elements build x e more.0) more.1) (none_left is_comma (run comma_element) tokens h)
