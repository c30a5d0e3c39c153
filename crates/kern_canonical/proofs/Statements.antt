-- The canonical lines of statements, blocks, functions and programs have their canonical tokens.
use Rattle.std.proofs.Common.{ℕ, suc, List, [], ◌∷◌, ◌++◌, append_assoc}
use Rattle.std.specs.Prelude.{codes, IsTrue}
use Rattle.kern_lexer.specs.Bytes.{Bytes}
use Rattle.kern_lexer.specs.Symbols.{Symbol, name, key, dedent}
use Rattle.kern_lexer.specs.declared.token.Key.TheVariants as K
use Rattle.kern_syntax.specs.Grammatical.{has_statement, has_handler, IsStatement, AreLines, AreBranches, AreHandlers}
use Rattle.kern_syntax.specs.Print.{expression_text, return_text, statement_text, block_text, otherwise_text, handlers_text}
use Rattle.kern_syntax.specs.Spellable.{IsSpellableStatement, AreSpellableLines, AreSpellableBranches, AreSpellableHandlers}
use Rattle.kern_syntax.specs.Tree.{Statement, pass, break, continue, return, evaluate, assign, assign_element, augment, augment_element, assign_repeated, assign_list, if_then, while_do, for_range, parallel, sequential, record_as, try_do, Block, done, line_then, Otherwise, no_else, else_do, elif_then, Handlers, no_handler, except_then}
use Rattle.kern_grammar.specs.Blocks.{range_symbols, record_symbols}
use Rattle.kern_grammar.specs.Canonical.{statement_tokens, block_tokens, branch_tokens, except_tokens}
use Rattle.kern_grammar.specs.Expressions.{expression_symbols}
use Rattle.kern_canonical.proofs.Blocks.{Reads, Begun, begun-reads, begun-same, reads-inside, simple-then, block-alone, block-then_more, deeper-inside}
use Rattle.kern_canonical.proofs.HeaderLines.{if-line, elif-line, while-line, else-line, try-line, except-line, parallel-line, sequential-line, record-line, for-line}
use Rattle.kern_canonical.proofs.SimpleLines.{pass-line, break-line, continue-line, return-line, evaluate-line, assign-line, augment-line, assign_element-line, augment_element-line, repeat-line, list-line}

mutual
  -- a statement
  pub statement-then : (s : Statement) (level room : ℕ) (rest : Bytes) (others : List Symbol) → IsSpellableStatement s → IsStatement room s → Reads level rest others
      → Begun level (statement_text s level ++ rest) (statement_tokens s ++ others)
  statement-then pass level room rest others good fits r = simple-then level (codes "pass") _ rest others pass-line r
  statement-then break level room rest others good fits r = simple-then level (codes "break") _ rest others break-line r
  statement-then continue level room rest others good fits r = simple-then level (codes "continue") _ rest others continue-line r
  statement-then (return e) level room rest others good fits r = simple-then level (return_text e) _ rest others (return-line e good) r
  statement-then (evaluate e) level room rest others good fits r = simple-then level (expression_text e) _ rest others (evaluate-line e good) r
  statement-then (assign x e) level room rest others good fits r = simple-then level _ _ rest others (assign-line x e good.0 good.1) r
  statement-then (assign_element x i e) level room rest others good fits r = simple-then level _ _ rest others (assign_element-line x i e good.0 good.1 good.2) r
  statement-then (augment x op e) level room rest others good fits r = simple-then level _ _ rest others (augment-line x op e good.0 good.1) r
  statement-then (augment_element x i op e) level room rest others good fits r = simple-then level _ _ rest others (augment_element-line x i op e good.0 good.1 good.2) r
  statement-then (assign_repeated x e n) level room rest others good fits r = simple-then level _ _ rest others (repeat-line x e n good.0 good.1 good.2) r
  statement-then (assign_list x es) level room rest others good fits r = simple-then level _ _ rest others (list-line x es good.0 good.1) r
  statement-then (if_then c b o) level room rest others good fits r =
      let inside = deeper-inside room (λ inside. IsTrue (has_statement b) × AreLines inside b × AreBranches inside o) fits.1 in
      block-then_more level _ (key K.If ∷ expression_symbols c) (block_text b (suc level)) (block_tokens b) (otherwise_text o level) (branch_tokens o) rest others (if-line c good.0)
      (block-then b (suc level) inside.0 (otherwise_text o level ++ rest) (dedent ∷ (branch_tokens o ++ others)) inside.1.0 good.1 inside.1.1
      (reads-inside level (otherwise_text o level ++ rest) (branch_tokens o ++ others) (branches-then o level inside.0 rest others good.2 inside.1.2 r)))
  statement-then (while_do c b) level room rest others good fits r =
      let inside = deeper-inside room (λ inside. IsTrue (has_statement b) × AreLines inside b) fits.1 in
      block-alone level _ (key K.While ∷ expression_symbols c) (block_text b (suc level)) (block_tokens b) rest others (while-line c good.0)
      (block-then b (suc level) inside.0 rest (dedent ∷ others) inside.1.0 good.1 inside.1.1 (reads-inside level rest others r))
  statement-then (for_range x from to b) level room rest others good fits r =
      let inside = deeper-inside room (λ inside. IsTrue (has_statement b) × AreLines inside b) fits.2 in
      block-alone level _ (key K.For ∷ name x ∷ key K.In ∷ range_symbols from to) (block_text b (suc level)) (block_tokens b) rest others (for-line x from to good.0 good.1 good.2)
      (block-then b (suc level) inside.0 rest (dedent ∷ others) inside.1.0 good.3 inside.1.1 (reads-inside level rest others r))
  statement-then (parallel b) level room rest others good fits r =
      let inside = deeper-inside room (λ inside. IsTrue (has_statement b) × AreLines inside b) fits in
      block-alone level _ (key K.With ∷ name (codes "parallel") ∷ []) (block_text b (suc level)) (block_tokens b) rest others parallel-line
      (block-then b (suc level) inside.0 rest (dedent ∷ others) inside.1.0 good inside.1.1 (reads-inside level rest others r))
  statement-then (sequential b) level room rest others good fits r =
      let inside = deeper-inside room (λ inside. IsTrue (has_statement b) × AreLines inside b) fits in
      block-alone level _ (key K.With ∷ name (codes "sequential") ∷ []) (block_text b (suc level)) (block_tokens b) rest others sequential-line
      (block-then b (suc level) inside.0 rest (dedent ∷ others) inside.1.0 good inside.1.1 (reads-inside level rest others r))
  statement-then (record_as text b) level room rest others good fits r =
      let inside = deeper-inside room (λ inside. IsTrue (has_statement b) × AreLines inside b) fits in
      block-alone level _ (key K.With ∷ record_symbols text) (block_text b (suc level)) (block_tokens b) rest others (record-line text good.0)
      (block-then b (suc level) inside.0 rest (dedent ∷ others) inside.1.0 good.1 inside.1.1 (reads-inside level rest others r))
  statement-then (try_do b handlers) level room rest others good fits r =
      let inside = deeper-inside room (λ inside. IsTrue (has_statement b) × AreLines inside b × IsTrue (has_handler handlers) × AreHandlers inside handlers) fits in
      block-then_more level _ (key K.Try ∷ []) (block_text b (suc level)) (block_tokens b) (handlers_text handlers level) (except_tokens handlers) rest others try-line
      (block-then b (suc level) inside.0 (handlers_text handlers level ++ rest) (dedent ∷ (except_tokens handlers ++ others)) inside.1.0 good.0 inside.1.1
      (reads-inside level (handlers_text handlers level ++ rest) (except_tokens handlers ++ others) (handlers-then handlers level inside.0 rest others good.1 inside.1.3 r)))

  -- a block that has a statement
  pub block-then : (b : Block) (level room : ℕ) (rest : Bytes) (others : List Symbol) → IsTrue (has_statement b) → AreSpellableLines b → AreLines room b → Reads level rest others
      → Begun level (block_text b level ++ rest) (block_tokens b ++ others)
  block-then done level room rest others some good fits r = absurd cc
  block-then (line_then line s more) level room rest others some good fits r =
      begun-same level _ _ _ _ (append_assoc (statement_text s level) (block_text more level) rest) (append_assoc (statement_tokens s) (block_tokens more) others)
      (statement-then s level room (block_text more level ++ rest) (block_tokens more ++ others) good.0 fits.0 (lines-then more level room rest others good.1 fits.1 r))

  -- the statements of a block
  pub lines-then : (b : Block) (level room : ℕ) (rest : Bytes) (others : List Symbol) → AreSpellableLines b → AreLines room b → Reads level rest others
      → Reads level (block_text b level ++ rest) (block_tokens b ++ others)
  lines-then done level room rest others good fits r = r
  lines-then (line_then line s more) level room rest others good fits r =
      begun-reads level _ _ (begun-same level _ _ _ _ (append_assoc (statement_text s level) (block_text more level) rest) (append_assoc (statement_tokens s) (block_tokens more) others)
      (statement-then s level room (block_text more level ++ rest) (block_tokens more ++ others) good.0 fits.0 (lines-then more level room rest others good.1 fits.1 r)))

  -- the further branches of an `if`
  pub branches-then : (o : Otherwise) (level room : ℕ) (rest : Bytes) (others : List Symbol) → AreSpellableBranches o → AreBranches room o → Reads level rest others
      → Reads level (otherwise_text o level ++ rest) (branch_tokens o ++ others)
  branches-then no_else level room rest others good fits r = r
  branches-then (else_do b) level room rest others good fits r =
      begun-reads level _ _ (block-alone level _ (key K.Else ∷ []) (block_text b (suc level)) (block_tokens b) rest others else-line
      (block-then b (suc level) room rest (dedent ∷ others) fits.0 good fits.1 (reads-inside level rest others r)))
  branches-then (elif_then line c b o) level room rest others good fits r =
      begun-reads level _ _ (block-then_more level _ (key K.Elif ∷ expression_symbols c) (block_text b (suc level)) (block_tokens b) (otherwise_text o level) (branch_tokens o) rest others (elif-line c good.0)
      (block-then b (suc level) room (otherwise_text o level ++ rest) (dedent ∷ (branch_tokens o ++ others)) fits.1 good.1 fits.2
      (reads-inside level (otherwise_text o level ++ rest) (branch_tokens o ++ others) (branches-then o level room rest others good.2 fits.3 r))))

  -- the `except` branches
  pub handlers-then : (h : Handlers) (level room : ℕ) (rest : Bytes) (others : List Symbol) → AreSpellableHandlers h → AreHandlers room h → Reads level rest others
      → Reads level (handlers_text h level ++ rest) (except_tokens h ++ others)
  handlers-then no_handler level room rest others good fits r = r
  handlers-then (except_then line x b h) level room rest others good fits r =
      begun-reads level _ _ (block-then_more level _ (key K.Except ∷ name x ∷ []) (block_text b (suc level)) (block_tokens b) (handlers_text h level) (except_tokens h) rest others (except-line x good.0)
      (block-then b (suc level) room (handlers_text h level ++ rest) (dedent ∷ (except_tokens h ++ others)) fits.0 good.1 fits.1
      (reads-inside level (handlers_text h level ++ rest) (except_tokens h ++ others) (handlers-then h level room rest others good.2 fits.2 r))))
