-- A branch of an `if`, and those behind it.
use Rattle.std.proofs.Common.{◌≡◌, ℕ, ◌+◌, List, [], ◌∷◌, ◌++◌, length, ◌∙◌, subst, arith, length-append}
use Rattle.std.specs.Prelude.{Bool, ⊤}
use Rattle.rtio_types.specs.declared.request.Reply.{Reply}
use Rattle.rtio_types.specs.Integers.{is_true}
use Rattle.kern_syntax.specs.Tree.{Bytes, Expression, Block, Otherwise, no_else, else_do, elif_then}
use Rattle.timeline_sem.specs.Actions.{Action, skip, ◌>>=◌}
use Rattle.timeline_sem.specs.Expressions.{Callee, expression}
use Rattle.timeline_sem.specs.Statements.{block, otherwise, either}
use Rattle.core_isa.specs.declared.code.Code.{Code}
use Rattle.core_isa.specs.declared.code.CodeLine.{CodeLine}
use Rattle.core_isa.specs.declared.instr.Instr.TheVariants as I
use Rattle.code_forms.specs.declared.test_kind.TestKind.TheVariants.{Branch}
use Rattle.code_forms.specs.Conditions.{is_turned, asked, test_instrs, test_size}
use Rattle.code_forms.specs.Setting as C
use Rattle.code_forms.specs.Lines.{line, raised, straight}
use Rattle.code_forms.specs.Sizes.{expression_size, block_size, otherwise_size, exit_size}
use Rattle.code_forms.specs.ExpressionCode.{expression_code}
use Rattle.code_forms.specs.StatementCode.{Inside, block_code, otherwise_code, exit, branch_lines, test_place, then_place, else_place, end_place}
use Rattle.code_forms.specs.Texts.{expression_texts}
use Rattle.code_forms.proofs.Asked.{asked_suited, asked_texts}
use Rattle.code_forms.proofs.Lengths.{length-expression}
use Rattle.code_forms.proofs.StatementLengths.{length-block, length-test}
use Rattle.code_follows.specs.Stands.{holding, Setting, Fits64}
use Rattle.code_follows.specs.Parts.{Follows, Stand}
use Rattle.code_follows.proofs.Beneath.{follows_anywhere}
use Rattle.code_follows.proofs.Choices.{follows_branch, follows_last_branch}
use Rattle.code_follows.proofs.Compose.{follows_same}
use Rattle.code_follows.proofs.Conditions.{asked_tells}
use Rattle.code_follows.proofs.Lines.{LinesStand, first_part, second_part, one_line, straight_stands}
use Rattle.code_forms.specs.Suited.{IsSuited}
use Rattle.code_meaning.proofs.Known.{TextsIn, Known, At, follows_to}
use Rattle.code_meaning.proofs.Expressions.{follows_expression}

module _ (given : List Reply) (code : Code) (cs : C.Setting) (plain : List Bytes) (callee : Callee) (room : ℕ) (known : Known given code cs plain callee room) (d : Bool) (c : Expression) (b : Block) (suited : IsSuited cs plain d c) (texts : TextsIn cs.texts (expression_texts c)) (inside : Inside) (place most : ℕ) (setting : Setting) (at : At cs room inside.free d setting) (body : (p : ℕ) → LinesStand code.lines p (block_code cs inside p b) → Follows given code ⊤ most setting p (p + block_size cs inside.mark.tries inside.loop.tries b) (holding []) (λ v. ⊤) (λ v. holding []) (block cs.scope callee b)) where
  abbrev turned : Bool
  turned = is_turned Branch c

  abbrev nc : ℕ
  nc = expression_size cs (asked Branch c)

  abbrev nb : ℕ
  nb = block_size cs inside.mark.tries inside.loop.tries b

  -- where the test stands, and where the body ends
  abbrev test : ℕ
  test = test_place cs place c

  abbrev mid : ℕ
  mid = then_place cs place c + nb

  abbrev condition_lines : List CodeLine
  condition_lines = expression_code cs inside.free inside.mark place (asked Branch c)

  abbrev test_lines : (elsewhere : ℕ) → List CodeLine
  test_lines elsewhere = straight (raised 1 inside.mark) (test_instrs turned test elsewhere)

  abbrev body_lines : List CodeLine
  body_lines = block_code cs inside (then_place cs place c) b

  -- what the branch begins with, up to its end
  abbrev front : (elsewhere : ℕ) → List CodeLine
  front elsewhere = condition_lines ++ test_lines elsewhere ++ body_lines

  follows_asked : (elsewhere : ℕ) → LinesStand code.lines place (front elsewhere) → Follows given code ⊤ most setting place test (holding []) Fits64 (λ v. holding (v ∷ [])) (expression cs.scope callee (asked Branch c))
  follows_asked elsewhere s =
      let asks = subst (TextsIn cs.texts) (asked_texts Branch c) texts in
      let stand = first_part code.lines place condition_lines (test_lines elsewhere) (first_part code.lines place (condition_lines ++ test_lines elsewhere) body_lines s) in
      follows_anywhere given code (follows_expression given code cs plain callee room inside.free d known most (asked Branch c) (asked_suited cs plain d Branch c suited) asks inside.mark place stand setting at)

  test_stands : (elsewhere : ℕ) → LinesStand code.lines place (front elsewhere) → Stand code.lines test (test_instrs turned test elsewhere)
  test_stands elsewhere s =
      straight_stands code.lines test (raised 1 inside.mark) (test_instrs turned test elsewhere) (second_part code.lines place nc condition_lines (test_lines elsewhere) (length-expression cs inside.free inside.mark place (asked Branch c)) (first_part code.lines place (condition_lines ++ test_lines elsewhere) body_lines s))

  tested : (elsewhere : ℕ) → length (condition_lines ++ test_lines elsewhere) ≡ nc + test_size turned
  tested elsewhere =
      length-append condition_lines (test_lines elsewhere) ∙ omega (arith, length-expression cs inside.free inside.mark place (asked Branch c), length-test (raised 1 inside.mark) turned test elsewhere)

  follows_body : (elsewhere : ℕ) → LinesStand code.lines place (front elsewhere) → Follows given code ⊤ most setting (then_place cs place c) mid (holding []) (λ v. ⊤) (λ v. holding []) (block cs.scope callee b)
  follows_body elsewhere s =
      let there : place + (nc + test_size turned) ≡ then_place cs place c = omega arith in
      body (then_place cs place c) (subst (λ p. LinesStand code.lines p body_lines) there (second_part code.lines place (nc + test_size turned) (condition_lines ++ test_lines elsewhere) body_lines (tested elsewhere) s))

  long : (elsewhere : ℕ) → length (front elsewhere) ≡ nc + test_size turned + nb
  long elsewhere =
      length-append (condition_lines ++ test_lines elsewhere) body_lines ∙ omega (arith, tested elsewhere, length-block cs inside (then_place cs place c) b)

  -- the last branch, where there is no `else`
  follows_last : LinesStand code.lines place (front (mid + 0)) → Follows given code ⊤ most setting place (place + (nc + (test_size turned + (nb + (0 + 0))))) (holding []) (λ v. ⊤) (λ v. holding []) (expression cs.scope callee c >>= λ a. either (is_true a) (block cs.scope callee b) skip)
  follows_last s =
      let same : mid + 0 ≡ mid = omega arith in
      let stands = subst (λ p. Stand code.lines test (test_instrs turned test p)) same (test_stands (mid + 0) s) in
      let ends : mid ≡ place + (nc + (test_size turned + (nb + (0 + 0)))) = omega arith in
      follows_to given code ends (follows_same given code (asked_tells cs.scope callee Branch c (λ h. either h (block cs.scope callee b) skip)) (follows_last_branch given code turned stands (follows_asked (mid + 0) s) (follows_body (mid + 0) s)))

  -- a branch with others behind it, in so many instructions
  follows_first : (others : ℕ → List CodeLine) (nr : ℕ) (rest : Action ⊤) → ((p : ℕ) → LinesStand code.lines p (others p) → Follows given code ⊤ most setting p (p + nr) (holding []) (λ v. ⊤) (λ v. holding []) rest) → LinesStand code.lines place (front (mid + 1) ++ (line inside.mark (I.Jump (mid + 1 + nr)) ∷ []) ++ others (mid + 1)) → Follows given code ⊤ most setting place (place + (nc + (test_size turned + (nb + (1 + nr))))) (holding []) (λ v. ⊤) (λ v. holding []) (expression cs.scope callee c >>= λ a. either (is_true a) (block cs.scope callee b) rest)
  follows_first others nr rest fr s =
      let end = mid + 1 + nr in
      let leave = line inside.mark (I.Jump end) ∷ [] in
      let part = first_part code.lines place (front (mid + 1) ++ leave) (others (mid + 1)) s in
      let s' = first_part code.lines place (front (mid + 1)) leave part in
      let at_mid : place + (nc + test_size turned + nb) ≡ mid = omega arith in
      let leaves = subst (λ p. Stand code.lines p (I.Jump end ∷ [])) at_mid (one_line code.lines (place + (nc + test_size turned + nb)) inside.mark (I.Jump end) [] (second_part code.lines place (nc + test_size turned + nb) (front (mid + 1)) leave (long (mid + 1)) part)) in
      let longer : length (front (mid + 1) ++ leave) ≡ nc + test_size turned + nb + 1 = length-append (front (mid + 1)) leave ∙ omega (arith, long (mid + 1)) in
      let at_rest : place + (nc + test_size turned + nb + 1) ≡ mid + 1 = omega arith in
      let stands = subst (λ p. LinesStand code.lines p (others (mid + 1))) at_rest (second_part code.lines place (nc + test_size turned + nb + 1) (front (mid + 1) ++ leave) (others (mid + 1)) longer s) in
      let past : end ≡ place + (nc + (test_size turned + (nb + (1 + nr)))) = omega arith in
      follows_to given code past (follows_same given code (asked_tells cs.scope callee Branch c (λ h. either h (block cs.scope callee b) rest)) (follows_branch given code turned (test_stands (mid + 1) s') leaves (follows_asked (mid + 1) s') (follows_body (mid + 1) s') (fr (mid + 1) stands)))

  -- a branch and those behind it, of an `if` and of an `elif`
  pub follows_branches : (rest : Otherwise) → LinesStand code.lines place (branch_lines inside.mark (test_instrs turned test (else_place cs inside place c b rest)) condition_lines body_lines (exit inside.mark rest (end_place cs inside place c b rest)) (otherwise_code cs inside (else_place cs inside place c b rest) rest)) → ((p : ℕ) → LinesStand code.lines p (otherwise_code cs inside p rest) → Follows given code ⊤ most setting p (p + otherwise_size cs inside.mark.tries inside.loop.tries rest) (holding []) (λ v. ⊤) (λ v. holding []) (otherwise cs.scope callee rest)) → Follows given code ⊤ most setting place (place + (nc + (test_size turned + (nb + (exit_size cs rest + otherwise_size cs inside.mark.tries inside.loop.tries rest))))) (holding []) (λ v. ⊤) (λ v. holding []) (expression cs.scope callee c >>= λ a. either (is_true a) (block cs.scope callee b) (otherwise cs.scope callee rest))
  follows_branches no_else s fr =
      follows_last (first_part code.lines place (front (mid + 0)) [] (first_part code.lines place (front (mid + 0) ++ []) [] s))
  follows_branches (else_do b2) s fr =
      follows_first (λ p. otherwise_code cs inside p (else_do b2)) (otherwise_size cs inside.mark.tries inside.loop.tries (else_do b2)) (otherwise cs.scope callee (else_do b2)) fr s
  follows_branches (elif_then l2 c2 b2 rest2) s fr =
      follows_first (λ p. otherwise_code cs inside p (elif_then l2 c2 b2 rest2)) (otherwise_size cs inside.mark.tries inside.loop.tries (elif_then l2 c2 b2 rest2)) (otherwise cs.scope callee (elif_then l2 c2 b2 rest2)) fr s
