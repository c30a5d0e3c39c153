-- In the tree of a text's tokens each statement stands on a line, since each token does.
use Rattle.std.proofs.Common.{◌≡◌, ℕ, ◌+◌, ◌≤◌, inl, inr, List, [], ◌∷◌, ◌++◌, Bool, true, false, length, refl, sym, subst, arith}
use Rattle.std.specs.Prelude.{◌&&◌, count_by, replicate, if◌then◌else◌}
use Rattle.std.specs.List.{list_any}
use Rattle.kern_lexer.specs.Layouts.{is_outside, line_behind, made_behind, open_widths, this_line, widths_of}
use Rattle.kern_lexer.specs.Made.{marks_behind, marks_of_word, newline_behind, token_behind, tokens_made, tokens_of_end, tokens_of_pieces}
use Rattle.kern_lexer.specs.Pieces.{Piece, blank, skipped_return, comment, line_end, word, is_line_end, is_word}
use Rattle.kern_lexer.specs.Symbols.{Lexeme, lexemes_of}
use Rattle.kern_lexer.specs.declared.token.Token.{Token}
use Rattle.kern_lexer.specs.declared.token.TokenKind.{TokenKind}
use Rattle.kern_lexer.specs.declared.token.TokenKind.TheVariants as T
use Rattle.kern_syntax.specs.Tree.{Bytes, Statement, if_then, while_do, for_range, parallel, sequential, record_as, try_do, Block, done, line_then, Otherwise, no_else, else_do, elif_then, Handlers, no_handler, except_then, FunctionTree, ProgramTree}
use Rattle.kern_grammar.specs.Blocks.{body, branches, excepts, function, lines, program, statement}
use Rattle.kern_grammar.specs.Phrases.{Phrase, ◌⨾◌, BeginsOnLine, one_line, simple_line}
use Rattle.kernel_lines.specs.HaveLines.{StatementHasLines, BlockHasLines, OtherwiseHasLines, HandlersHaveLines, ProgramHasLines}
use Rattle.kernel_lines.specs.Laws.{TextsHaveLines}

-- ---- tokens

-- each of some tokens stands on a line
abbrev Stand : List Token → Type 0
Stand [] = Unit {0}
Stand (t ∷ rest) = (1 ≤ t.line) × Stand rest

join : (a b : List Token) → Stand a → Stand b → Stand (a ++ b)
join [] b ha hb = hb
join (t ∷ a) b ha hb = (ha.0, join a b ha.1 hb)

behind : (before : List Piece) → 1 ≤ line_behind before
behind before = let is : line_behind before ≡ 1 + count_by is_line_end before = refl in omega arith

marks : (before : List Piece) (kinds : List TokenKind) → Stand (marks_behind before kinds)
marks before [] = tt
marks before (kind ∷ rest) = (behind before, marks before rest)

newline_stands : (before : List Piece) (len : ℕ) → Stand (newline_behind before len)
newline_stands before len = by_test (is_outside before && list_any is_word (this_line before))
  where
    by_test : (b : Bool) → Stand (if b then token_behind before T.Newline len ∷ [] else [])
    by_test true = (behind before, tt)
    by_test false = tt

piece : (before : List Piece) (p : Piece) → Stand (tokens_made before p)
piece before blank = tt
piece before skipped_return = tt
piece before (comment bytes) = tt
piece before line_end = newline_stands before 1
piece before (word kind bytes) =
    join (marks_behind before (marks_of_word before)) (token_behind before kind (length bytes) ∷ []) (marks before (marks_of_word before)) (behind before, tt)

pieces : (before rest : List Piece) → Stand (made_behind tokens_made before rest)
pieces before [] = tt
pieces before (p ∷ rest) =
    join (tokens_made before p) (made_behind tokens_made (before ++ p ∷ []) rest) (piece before p) (pieces (before ++ p ∷ []) rest)

whole : (all : List Piece) → Stand (tokens_of_pieces all)
whole all =
    let open_ones : List TokenKind = replicate (length (open_widths (widths_of all))) T.Dedent ++ T.End ∷ [] in
    join (made_behind tokens_made [] all) (tokens_of_end all) (pieces [] all)
    (join (newline_behind all 0) (marks_behind all open_ones) (newline_stands all 0) (marks all open_ones))

-- with what they spell
abbrev HaveLines : List Lexeme → Type 0
HaveLines [] = Unit {0}
HaveLines (t ∷ rest) = (1 ≤ t.line) × HaveLines rest

spelled : (text : Bytes) (tokens : List Token) → Stand tokens → HaveLines (lexemes_of text tokens)
spelled text [] stand = tt
spelled text (t ∷ rest) stand = (stand.0, spelled text rest stand.1)

-- ---- phrases

split : (a b : List Lexeme) → HaveLines (a ++ b) → HaveLines a × HaveLines b
split [] b have = (tt, have)
split (t ∷ a) b have = let rest = split a b have.1 in ((have.0, rest.0), rest.1)

-- what follows from both parts of a phrase, or from one of them
both : {A B : Type 0} (first second : Phrase) (tokens : List Lexeme) → HaveLines tokens → (first ⨾ second) tokens
    → ((t : List Lexeme) → HaveLines t → first t → A)
    → ((t : List Lexeme) → HaveLines t → second t → B)
    → A × B
both first second tokens have is one other =
    let parts = split is.front is.back (subst HaveLines is.whole have) in
    (one is.front parts.0 is.is_first, other is.back parts.1 is.is_second)

in_first : {A : Type 0} (first second : Phrase) (tokens : List Lexeme) → HaveLines tokens → (first ⨾ second) tokens
    → ((t : List Lexeme) → HaveLines t → first t → A)
    → A
in_first first second tokens have is one =
    let parts = split is.front is.back (subst HaveLines is.whole have) in
    one is.front parts.0 is.is_first

behind_first : {B : Type 0} (first second : Phrase) (tokens : List Lexeme) → HaveLines tokens → (first ⨾ second) tokens
    → ((t : List Lexeme) → HaveLines t → second t → B)
    → B
behind_first first second tokens have is other =
    let parts = split is.front is.back (subst HaveLines is.whole have) in
    other is.back parts.1 is.is_second

on : (line : ℕ) (tokens : List Lexeme) → HaveLines tokens → BeginsOnLine line tokens → 1 ≤ line
on line [] have begins = absurd begins
on line (t ∷ rest) have begins = subst (λ (n : ℕ). 1 ≤ n) begins have.0

-- a statement on one line has none inside it
simple : (s : Statement) (tokens : List Lexeme) → simple_line s tokens → StatementHasLines s
simple (if_then c b rest) tokens is = absurd is
simple (while_do c b) tokens is = absurd is
simple (for_range x from to b) tokens is = absurd is
simple (parallel b) tokens is = absurd is
simple (sequential b) tokens is = absurd is
simple (record_as name b) tokens is = absurd is
simple (try_do b handlers) tokens is = absurd is
simple s tokens is = tt

alone : (b : Block) (tokens : List Lexeme) → HaveLines tokens → one_line b tokens → BlockHasLines b
alone done tokens have is = absurd is
alone (line_then line s done) tokens have is = (on line tokens have is.0, simple s tokens is.1, tt)
alone (line_then line s (line_then next t rest)) tokens have is = absurd is

-- a block, of one line or of those that are indented
in_body : (b : Block) (tokens : List Lexeme) → HaveLines tokens → body b (lines b) tokens
    → ((t : List Lexeme) → HaveLines t → lines b t → BlockHasLines b)
    → BlockHasLines b
in_body b tokens have (inl one) on_each = alone b tokens have one
in_body b tokens have (inr many) on_each =
    behind_first _ _ tokens have many (λ t have' inner. in_first _ _ t have' inner on_each)

mutual
  in_statement : (s : Statement) (tokens : List Lexeme) → HaveLines tokens → statement s tokens → StatementHasLines s
  in_statement (if_then c b rest) tokens have is =
      behind_first _ _ tokens have is (λ t have' more.
      both _ _ t have' more (λ u have'' inner. in_body b u have'' inner (λ v h each. in_lines b v h each)) (λ u have'' others. in_branches rest u have'' others))
  in_statement (while_do c b) tokens have is =
      behind_first _ _ tokens have is (λ t have' inner. in_body b t have' inner (λ v h each. in_lines b v h each))
  in_statement (for_range x from to b) tokens have is =
      behind_first _ _ tokens have is (λ t have' inner. in_body b t have' inner (λ v h each. in_lines b v h each))
  in_statement (parallel b) tokens have is =
      behind_first _ _ tokens have is (λ t have' inner. in_body b t have' inner (λ v h each. in_lines b v h each))
  in_statement (sequential b) tokens have is =
      behind_first _ _ tokens have is (λ t have' inner. in_body b t have' inner (λ v h each. in_lines b v h each))
  in_statement (record_as name b) tokens have is =
      behind_first _ _ tokens have is (λ t have' inner. in_body b t have' inner (λ v h each. in_lines b v h each))
  in_statement (try_do b handlers) tokens have is =
      behind_first _ _ tokens have is (λ t have' more.
      both _ _ t have' more (λ u have'' inner. in_body b u have'' inner (λ v h each. in_lines b v h each)) (λ u have'' others. in_excepts handlers u have'' others))
  in_statement s tokens have is = tt

  in_lines : (b : Block) (tokens : List Lexeme) → HaveLines tokens → lines b tokens → BlockHasLines b
  in_lines done tokens have is = tt
  in_lines (line_then line s rest) tokens have is =
      let all : ((1 ≤ line) × StatementHasLines s) × BlockHasLines rest =
      both _ _ tokens have is (λ t have' first. (on line t have' first.0, in_statement s t have' first.1)) (λ t have' others. in_lines rest t have' others)
      in
      (all.0.0, all.0.1, all.1)

  in_branches : (rest : Otherwise) (tokens : List Lexeme) → HaveLines tokens → branches rest tokens → OtherwiseHasLines rest
  in_branches no_else tokens have is = tt
  in_branches (else_do b) tokens have is =
      behind_first _ _ tokens have is (λ t have' inner. in_body b t have' inner (λ v h each. in_lines b v h each))
  in_branches (elif_then line c b rest) tokens have is =
      let all : (1 ≤ line) × (BlockHasLines b × OtherwiseHasLines rest) =
      both _ _ tokens have is (λ t have' first. on line t have' first.0) (λ t have' more.
      both _ _ t have' more (λ u have'' inner. in_body b u have'' inner (λ v h each. in_lines b v h each)) (λ u have'' others. in_branches rest u have'' others))
      in
      (all.0, all.1.0, all.1.1)

  in_excepts : (handlers : Handlers) (tokens : List Lexeme) → HaveLines tokens → excepts handlers tokens → HandlersHaveLines handlers
  in_excepts no_handler tokens have is = tt
  in_excepts (except_then line name b rest) tokens have is =
      let all : (1 ≤ line) × (BlockHasLines b × HandlersHaveLines rest) =
      both _ _ tokens have is (λ t have' first. on line t have' first.0) (λ t have' more.
      both _ _ t have' more (λ u have'' inner. in_body b u have'' inner (λ v h each. in_lines b v h each)) (λ u have'' others. in_excepts rest u have'' others))
      in
      (all.0, all.1.0, all.1.1)

in_function : (f : FunctionTree) (tokens : List Lexeme) → HaveLines tokens → function f tokens → (1 ≤ f.line) × BlockHasLines f.body
in_function f tokens have is =
    behind_first _ _ tokens have is (λ t have' named.
    both _ _ t have' named (λ u have'' first. on f.line u have'' first.0) (λ u have'' inner. in_body f.body u have'' inner (λ v h each. in_lines f.body v h each)))

in_program : (all : ProgramTree) (tokens : List Lexeme) → HaveLines tokens → program all tokens → ProgramHasLines all
in_program [] tokens have is = tt
in_program (f ∷ rest) tokens have is =
    let parts : ((1 ≤ f.line) × BlockHasLines f.body) × ProgramHasLines rest =
    both _ _ tokens have is (λ t have' one. in_function f t have' one) (λ t have' others. in_program rest t have' others)
    in
    (parts.0.0, parts.0.1, parts.1)

pub texts_have_lines : TextsHaveLines
texts_have_lines text tokens all lexed tree =
    in_program all (lexemes_of text tokens) (spelled text tokens (subst Stand (sym lexed.made) (whole lexed.pieces))) tree.spelled
