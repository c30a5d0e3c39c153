-- What is put for a branch of an `if` and for a statement of a parallel block is its lines.
use Rattle.std.proofs.Common.{rules, ◌≡◌, ℕ, ◌+◌, ◌≤◌, List, [], ◌∷◌, ◌++◌, length, drop, Option, Some, None, option_map, is_some, zero, suc, ◌<◌, refl, arith, add-one, ◌∙◌, ap, sym, append-nil, append_assoc}
use Rattle.kern_syntax.specs.declared.statement.Elif.{Elif, out-Elif}
use Rattle.kern_syntax.specs.declared.statement.Block as R
use Rattle.kern_syntax.specs.declared.statement.Stmt.{Stmt}
use Rattle.kern_syntax.specs.declared.statement.StmtKind.TheFolds.{the_lemmas}
use Rattle.kern_syntax.specs.Tree.{Expression, Statement, if_then, Block, line_then, Otherwise, elif_then, Handlers, try_do}
use Rattle.kern_syntax.specs.TreeOf.{expression_of, block_of, branches_of, else_of, lines_of}
use Rattle.code_forms.specs.Setting.{Setting}
use Rattle.code_forms.specs.Sizes.{exit_size, otherwise_size, when}
use Rattle.core_code_sizes.specs.Parts.{left_size}
use Rattle.kernel_lines.specs.KernelLines.{of_line, statement_lines, others_lines, otherwise_lines, handlers_lines}
use Rattle.kernel_lines.specs.Parts.{branch_lines, tried_lines, left_lines}

-- the `else` is no longer than all that follows the first branch
pub else_within : (setting : Setting) (tries kept : ℕ) (branches : List Elif) (last : Option R.Block) → otherwise_size setting tries kept (else_of (option_map block_of last)) ≤ otherwise_size setting tries kept (branches_of branches last)
else_within setting tries kept [] last = omega arith
else_within setting tries kept (branch ∷ rest) last =
    let step : branches_of (branch ∷ rest) last ≡ elif_then (out-Elif branch).line (expression_of (out-Elif branch).condition) (block_of (out-Elif branch).body) (branches_of rest last) = search (rules, the_lemmas) in
    omega (arith, ap (otherwise_size setting tries kept) step, else_within setting tries kept rest last)

module _ (setting : Setting) (tries kept line : ℕ) (c : Expression) (b : Block) (rest : Otherwise) where
  -- an `elif` branch with the jump past what follows, and then what follows it
  pub elif_put : (exit : ℕ) (l0 l1 l2 : List ℕ) → exit ≡ exit_size setting rest → l1 ≡ l0 ++ branch_lines setting tries kept line c b → l2 ≡ l1 ++ of_line line exit → l2 ++ otherwise_lines setting tries kept rest ≡ l0 ++ otherwise_lines setting tries kept (elif_then line c b rest)
  elif_put exit l0 l1 l2 same e1 e2 =
      let behind = otherwise_lines setting tries kept rest in
      let all = λ (n : ℕ). ((l0 ++ branch_lines setting tries kept line c b) ++ of_line line n) ++ behind in
      let put : l2 ++ behind ≡ all exit = ap (λ l. l ++ behind) (e2 ∙ ap (λ l. l ++ of_line line exit) e1) in
      put ∙ ap all same ∙ simp append_assoc

  -- an `if`
  pub if_put : (last : Otherwise) (exit : ℕ) (l0 l1 l2 l3 l4 : List ℕ) → exit ≡ exit_size setting rest → l1 ≡ l0 ++ branch_lines setting tries kept line c b → l2 ≡ l1 ++ of_line line exit → l3 ++ otherwise_lines setting tries kept last ≡ l2 ++ otherwise_lines setting tries kept rest → l4 ≡ l3 ++ otherwise_lines setting tries kept last → l4 ≡ l0 ++ statement_lines setting tries kept line (if_then c b rest)
  if_put last exit l0 l1 l2 l3 l4 same e1 e2 e3 e4 = e4 ∙ e3 ∙ elif_put exit l0 l1 l2 same e1 e2

-- a `try`: its body, and then its handlers
pub try_put : (setting : Setting) (tries kept line : ℕ) (b : Block) (handlers : Handlers) (l0 l1 l2 : List ℕ) → l1 ≡ l0 ++ tried_lines setting tries kept line b → l2 ≡ l1 ++ handlers_lines setting tries kept handlers → l2 ≡ l0 ++ statement_lines setting tries kept line (try_do b handlers)
try_put setting tries kept line b handlers l0 l1 l2 e1 e2 =
    let behind = handlers_lines setting tries kept handlers in
    e2 ∙ ap (λ l. l ++ behind) e1 ∙ append_assoc l0 (tried_lines setting tries kept line b) behind

-- the jump past what follows a branch
pub exit-some : (setting : Setting) (branches : List Elif) (last : Option R.Block) → 0 < length branches → exit_size setting (branches_of branches last) ≡ 1
exit-some setting [] last some = absurd (omega (arith, some))
exit-some setting (branch ∷ rest) last some = search (rules, the_lemmas)

pub exit-last : (setting : Setting) (branches : List Elif) (last : Option R.Block) → length branches ≡ 0 → exit_size setting (branches_of branches last) ≡ when (is_some last)
exit-last setting [] None none = refl
exit-last setting [] (Some b) none = refl
exit-last setting (branch ∷ rest) last none = absurd (omega (arith, none))

module _ (setting : Setting) (tries kept header line : ℕ) (s : Statement) (rest : Block) where
  -- the first statement of a parallel block
  pub first_put : (n : ℕ) (l0 l1 : List ℕ) → n ≡ 0 → l1 ≡ l0 ++ statement_lines setting tries kept line s → l1 ++ left_lines setting tries kept header (n + 1) rest ≡ l0 ++ left_lines setting tries kept header n (line_then line s rest)
  first_put zero l0 l1 is e =
      let own = statement_lines setting tries kept line s in
      let others = others_lines setting tries kept header rest in
      ap (λ l. l ++ others) e ∙ append_assoc l0 own others
  first_put (suc n) l0 l1 is e = absurd (omega (arith, is))

  -- another one, behind what parts them
  pub next_put : (n : ℕ) (l0 l1 l2 : List ℕ) → 0 < n → l1 ≡ l0 ++ of_line header 6 → l2 ≡ l1 ++ statement_lines setting tries kept line s → l2 ++ left_lines setting tries kept header (n + 1) rest ≡ l0 ++ left_lines setting tries kept header n (line_then line s rest)
  next_put zero l0 l1 l2 some e1 e2 = absurd (omega (arith, some))
  next_put (suc n) l0 l1 l2 some e1 e2 =
      let own = statement_lines setting tries kept line s in
      let others = others_lines setting tries kept header rest in
      let parted = of_line header 6 in
      ap (λ k. l2 ++ left_lines setting tries kept header k rest) (add-one (suc n))
      ∙ ap (λ l. l ++ others) (e2 ∙ ap (λ l. l ++ own) e1)
      ∙ append_assoc (l0 ++ parted) own others
      ∙ append_assoc l0 parted (own ++ others)

  -- what is left is no longer than before
  pub left_within : (n : ℕ) → left_size setting tries kept (n + 1) rest ≤ left_size setting tries kept n (line_then line s rest)
  left_within zero = omega arith
  left_within (suc n) = omega (arith, ap (λ k. left_size setting tries kept k rest) (add-one (suc n)))

-- where a parallel block has no statements, nothing is left
pub none_left : (setting : Setting) (tries kept header : ℕ) (items : List Stmt) (n : ℕ) (l whole : List ℕ) → n ≤ length items → length items ≡ 0 → l ++ left_lines setting tries kept header n (lines_of (drop n items)) ≡ whole → l ≡ whole
none_left setting tries kept header [] zero l whole within none e = sym (append-nil l) ∙ e
none_left setting tries kept header [] (suc n) l whole within none e = absurd (omega (arith, within))
none_left setting tries kept header (item ∷ rest) n l whole within none e = absurd (omega (arith, none))
