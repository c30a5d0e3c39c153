-- What is put for each statement with a block is its code, where its parts were put one behind another.
use Rattle.std.proofs.Common.{rules, ◌≡◌, ℕ, ◌+◌, ◌<◌, List, [], ◌∷◌, ◌++◌, length, Option, option_map, Result, Ok, Err, OnOk, true, Bool, refl, ap, ◌∙◌, arith, append_assoc}
use Rattle.kern_syntax.specs.declared.statement.Elif.{Elif}
use Rattle.kern_syntax.specs.declared.statement.Block as R
use Rattle.kern_syntax.specs.declared.statement.StmtKind.TheFolds.{the_lemmas}
use Rattle.kern_syntax.specs.Tree.{Bytes, Expression, if_then, for_range, record_as, try_do, Block, Otherwise, no_else, else_do, elif_then, Handlers}
use Rattle.kern_syntax.specs.TreeOf.{block_of, branches_of, else_of}
use Rattle.core_isa.specs.declared.code.CodeLine.{CodeLine}
use Rattle.core_isa.specs.declared.code.Mark.{Mark}
use Rattle.core_isa.specs.declared.instr.Instr.TheVariants as I
use Rattle.code_forms.specs.declared.test_kind.TestKind.TheVariants.{Branch}
use Rattle.code_forms.specs.Conditions.{is_turned, asked, test_instrs}
use Rattle.code_forms.specs.ExpressionCode.{expression_code}
use Rattle.code_forms.specs.Lines.{line, raised, straight, with_recording}
use Rattle.code_forms.specs.Setting.{Setting, index_of_text}
use Rattle.code_forms.specs.Sizes.{expression_size, from_size, exit_size, statement_size, block_size, handlers_size, when}
use Rattle.code_forms.specs.StatementCode.{Inside, keeping, in_loop, under, exit, test_place, then_place, else_place, end_place, for_begins, for_goes_on, value_code, second_code, from_code, statement_code, block_code, otherwise_code, handlers_code}
use Rattle.code_ranges.specs.ReadyStatements.{OtherwiseFits}
use Rattle.core_code_sizes.specs.Parts.{branch_size, followed_size}
use Rattle.core_code_statements.specs.Parts.{is_followed, branch_code, followed_code, turns_code, tried_code, tried_size}

-- what holds on Ok leads to what else holds there
pub on_ok : {T E : Type 0} (result : Result T E) (A B : Type 0) → (A → B) → OnOk result A → OnOk result B
on_ok (Ok x) A B step here = step here
on_ok (Err e) A B step here = here

module _ (setting : Setting) (inside : Inside) where
  -- a `for`: where it begins, and then its turns
  pub for_put : (x : Bytes) (from : Option Expression) (to : Expression) (b : Block) (l0 l1 l2 : List CodeLine) → l1 ≡ l0 ++ from_code setting inside (length l0) from → length l1 ≡ length l0 + from_size setting from → l2 ≡ l1 ++ turns_code setting inside (length l1) x to b → l2 ≡ l0 ++ statement_code setting inside (length l0) (for_range x from to b)
  for_put x from to b l0 l1 l2 e1 long e2 =
      e2
      ∙ ap (λ l. l ++ turns_code setting inside (length l1) x to b) e1
      ∙ ap (λ p. (l0 ++ from_code setting inside (length l0) from) ++ turns_code setting inside p x to b) long
      ∙ simp append_assoc

  -- the turns of a `for`
  pub turns_put : (m : Mark) (x : Bytes) (to : Expression) (b : Block) (again past turn : ℕ) (l0 l1 l2 l3 l4 : List CodeLine) → l1 ≡ l0 ++ expression_code setting inside.free m (length l0) to → m ≡ raised 1 inside.mark → length l1 ≡ length l0 + expression_size setting to → again ≡ length l1 + 10 + block_size setting inside.mark.tries inside.mark.tries b → past ≡ again + 4 → l2 ≡ l1 ++ straight (raised 2 inside.mark) (for_begins setting inside x again) → length l2 ≡ length l1 + 10 → l3 ≡ l2 ++ block_code setting (in_loop again past (keeping 2 inside)) (length l2) b → turn ≡ length l1 + 3 → l4 ≡ l3 ++ straight inside.mark (for_goes_on inside turn) → l4 ≡ l0 ++ turns_code setting inside (length l0) x to b
  turns_put m x to b again past turn l0 l1 l2 l3 l4 e1 same long1 at behind e2 long2 e3 turns e4 =
      let p = length l0 + expression_size setting to in
      let here : again ≡ p + 10 + block_size setting inside.mark.tries inside.mark.tries b = omega (arith, at, long1) in
      let after : past ≡ p + 10 + block_size setting inside.mark.tries inside.mark.tries b + 4 = omega (arith, behind, here) in
      let body : length l2 ≡ p + 10 = omega (arith, long1, long2) in
      let first : turn ≡ p + 3 = omega (arith, turns, long1) in
      let bounds = λ (n : ℕ). straight (raised 2 inside.mark) (for_begins setting inside x n) in
      let all = λ (a : List CodeLine) (g q n t : ℕ). (((l0 ++ a) ++ bounds g) ++ block_code setting (in_loop g q (keeping 2 inside)) n b) ++ straight inside.mark (for_goes_on inside t) in
      let put : l4 ≡ all (expression_code setting inside.free m (length l0) to) again past (length l2) turn = cc in
      put
      ∙ ap (λ k. all (expression_code setting inside.free k (length l0) to) again past (length l2) turn) same
      ∙ ap (λ n. all (second_code setting inside (length l0) to) again past n turn) body
      ∙ ap (λ t. all (second_code setting inside (length l0) to) again past (p + 10) t) first
      ∙ ap (λ q. all (second_code setting inside (length l0) to) again q (p + 10) (p + 3)) after
      ∙ ap (λ g. all (second_code setting inside (length l0) to) g (p + 10 + block_size setting inside.mark.tries inside.mark.tries b + 4) (p + 10) (p + 3)) here
      ∙ simp append_assoc

  -- a recording
  pub record_put : (m : Mark) (n : ℕ) (x : Bytes) (b : Block) (l0 l1 l2 l3 : List CodeLine) → m ≡ with_recording inside.mark → n ≡ index_of_text setting x → l1 ≡ l0 ++ line inside.mark (I.Record n) ∷ [] → length l1 ≡ length l0 + 1 → l2 ≡ l1 ++ block_code setting (under m inside) (length l1) b → l3 ≡ l2 ++ line m I.Save ∷ [] → l3 ≡ l0 ++ statement_code setting inside (length l0) (record_as x b)
  record_put m n x b l0 l1 l2 l3 same name e1 long e2 e3 =
      let all = λ (k : Mark) (i p : ℕ). ((l0 ++ line inside.mark (I.Record i) ∷ []) ++ block_code setting (under k inside) p b) ++ line k I.Save ∷ [] in
      let put : l3 ≡ all m n (length l1) = cc in
      put
      ∙ ap (λ k. all k n (length l1)) same
      ∙ ap (λ i. all (with_recording inside.mark) i (length l1)) name
      ∙ ap (λ p. all (with_recording inside.mark) (index_of_text setting x) p) long
      ∙ simp append_assoc

  -- a `try`: its body, and then its handlers
  pub try_put : (end : ℕ) (b : Block) (handlers : Handlers) (l0 l1 l2 : List CodeLine) → end ≡ length l0 + statement_size setting inside.mark.tries inside.loop.tries (try_do b handlers) → l1 ≡ l0 ++ tried_code setting inside (length l0) end b → length l1 ≡ length l0 + tried_size setting inside b → l2 ≡ l1 ++ handlers_code setting inside (length l1) end handlers → l2 ≡ l0 ++ statement_code setting inside (length l0) (try_do b handlers)
  try_put end b handlers l0 l1 l2 at e1 long e2 =
      let first = length l0 + 1 + block_size setting (inside.mark.tries + 1) inside.loop.tries b + 2 in
      let behind : length l1 ≡ first = omega (arith, long) in
      let past : end ≡ first + handlers_size setting inside.mark.tries inside.loop.tries handlers = omega (arith, at) in
      let all = λ (p e : ℕ). (l0 ++ tried_code setting inside (length l0) e b) ++ handlers_code setting inside p e handlers in
      let put : l2 ≡ all (length l1) end = cc in
      put ∙ ap (λ p. all p end) behind ∙ ap (λ e. all first e) past ∙ simp append_assoc

  -- a branch leaves a jump past what follows where something follows
  when_followed : (rest : Otherwise) → when (is_followed rest) ≡ exit_size setting rest
  when_followed no_else = refl
  when_followed (else_do b) = refl
  when_followed (elif_then line c b rest) = refl

  -- a branch, and then what follows it
  branch_put : (end : ℕ) (c : Expression) (b : Block) (rest : Otherwise) (followed : Bool) (l0 l1 l2 : List CodeLine) → followed ≡ is_followed rest → end ≡ end_place setting inside (length l0) c b rest → l1 ≡ l0 ++ branch_code setting inside (length l0) c b followed → length l1 ≡ length l0 + branch_size setting inside.mark.tries inside.loop.tries c b → l2 ≡ l1 ++ followed_code setting inside (length l1) end rest → l2 ≡ l0 ++ statement_code setting inside (length l0) (if_then c b rest)
  branch_put end c b rest followed l0 l1 l2 same at e1 long e2 =
      let else_at = else_place setting inside (length l0) c b rest in
      let more : then_place setting (length l0) c + block_size setting inside.mark.tries inside.loop.tries b + when followed ≡ else_at = omega (arith, ap when same, when_followed rest) in
      let other : length l1 + exit_size setting rest ≡ else_at = omega (arith, long) in
      let all = λ (j e p : ℕ). (l0 ++ (value_code setting inside (length l0) (asked Branch c) ++ straight (raised 1 inside.mark) (test_instrs (is_turned Branch c) (test_place setting (length l0) c) j) ++ block_code setting inside (then_place setting (length l0) c) b)) ++ (exit inside.mark rest e ++ otherwise_code setting inside p rest) in
      let put : l2 ≡ all (then_place setting (length l0) c + block_size setting inside.mark.tries inside.loop.tries b + when followed) end (length l1 + exit_size setting rest) = e2 ∙ ap (λ l. l ++ followed_code setting inside (length l1) end rest) e1 in
      put
      ∙ ap (λ j. all j end (length l1 + exit_size setting rest)) more
      ∙ ap (λ e. all else_at e (length l1 + exit_size setting rest)) at
      ∙ ap (λ p. all else_at (end_place setting inside (length l0) c b rest) p) other
      ∙ simp append_assoc

  -- an `if`
  pub if_put : (end : ℕ) (c : Expression) (b : Block) (rest last : Otherwise) (followed : Bool) (l0 l1 l2 l3 : List CodeLine) → followed ≡ is_followed rest → end ≡ length l0 + statement_size setting inside.mark.tries inside.loop.tries (if_then c b rest) → l1 ≡ l0 ++ branch_code setting inside (length l0) c b followed → length l1 ≡ length l0 + branch_size setting inside.mark.tries inside.loop.tries c b → l2 ++ followed_code setting inside (length l2) end last ≡ l1 ++ followed_code setting inside (length l1) end rest → l3 ≡ l2 ++ followed_code setting inside (length l2) end last → l3 ≡ l0 ++ statement_code setting inside (length l0) (if_then c b rest)
  if_put end c b rest last followed l0 l1 l2 l3 same at e1 long e2 e3 =
      let past : end ≡ end_place setting inside (length l0) c b rest = omega (arith, at) in
      branch_put end c b rest followed l0 l1 l3 same past e1 long (e3 ∙ e2)

  -- an `elif` branch behind the jump past it, and then what follows it
  pub elif_put : (end n : ℕ) (c : Expression) (b : Block) (rest : Otherwise) (followed : Bool) (l0 l1 l2 : List CodeLine) → followed ≡ is_followed rest → end ≡ length l0 + followed_size setting inside.mark.tries inside.loop.tries (elif_then n c b rest) → l1 ≡ l0 ++ line inside.mark (I.Jump end) ∷ [] → length l1 ≡ length l0 + 1 → l2 ≡ l1 ++ branch_code setting inside (length l1) c b followed → length l2 ≡ length l1 + branch_size setting inside.mark.tries inside.loop.tries c b → l2 ++ followed_code setting inside (length l2) end rest ≡ l0 ++ followed_code setting inside (length l0) end (elif_then n c b rest)
  elif_put end n c b rest followed l0 l1 l2 same at e1 long1 e2 long2 =
      let past : end ≡ end_place setting inside (length l1) c b rest = omega (arith, at, long1) in
      let whole = branch_put end c b rest followed l1 l2 (l2 ++ followed_code setting inside (length l2) end rest) same past e2 long2 refl in
      whole
      ∙ ap (λ l. l ++ statement_code setting inside (length l1) (if_then c b rest)) e1
      ∙ ap (λ p. (l0 ++ line inside.mark (I.Jump end) ∷ []) ++ statement_code setting inside p (if_then c b rest)) long1
      ∙ simp append_assoc

-- the `else` of branches that fit fits
pub else_fits : (setting : Setting) (mark : Mark) (free : ℕ) (branches : List Elif) (last : Option R.Block) → OtherwiseFits setting mark free (branches_of branches last) → OtherwiseFits setting mark free (else_of (option_map block_of last))
else_fits setting mark free [] last fits = fits
else_fits setting mark free (branch ∷ rest) last fits = else_fits setting mark free rest last (search (rules, the_lemmas, fits))

-- something follows where there is a branch
pub followed-some : (branches : List Elif) (last : Option R.Block) → 0 < length branches → is_followed (branches_of branches last) ≡ true
followed-some [] last some = absurd (omega (arith, some))
followed-some (branch ∷ rest) last some = search (rules, the_lemmas)
