-- The code of a branch is marked rightly.
use Rattle.std.proofs.Common.{◌≡◌, ℕ, ◌+◌, ◌≤◌, List, [], ◌∷◌, ◌++◌, length, refl, sym, arith, length-append}
use Rattle.std.specs.Prelude.{Bool, true, false}
use Rattle.kern_syntax.specs.Tree.{Expression, Block, Otherwise, no_else, else_do, elif_then}
use Rattle.core_isa.specs.declared.code.Code.{Code}
use Rattle.core_isa.specs.declared.code.CodeFunction.{CodeFunction}
use Rattle.core_isa.specs.declared.code.CodeLine.{CodeLine}
use Rattle.core_isa.specs.declared.code.Mark.{Mark}
use Rattle.core_isa.specs.declared.instr.Instr.TheVariants as I
use Rattle.core_isa.specs.Marks.{after}
use Rattle.code_forms.specs.declared.test_kind.TestKind.TheVariants.{Branch}
use Rattle.code_forms.specs.Conditions.{is_turned, asked, test_instrs, test_size}
use Rattle.code_forms.specs.Lines.{raised, straight}
use Rattle.code_forms.specs.Setting as C
use Rattle.code_forms.specs.Sizes.{expression_size, exit_size, block_size, otherwise_size}
use Rattle.code_forms.specs.StatementCode.{Inside, exit, branch_lines, test_place, then_place, else_place, end_place, value_code, block_code, otherwise_code}
use Rattle.code_forms.proofs.Lengths.{length-expression}
use Rattle.code_forms.proofs.StatementLengths.{length-exit, length-block, length-test}
use Rattle.code_marks.proofs.Instructions.{jump, test}
use Rattle.code_marks.proofs.Parts.{HasMark, StandIn, Part, same_mark, second_lines, stand_as, has_as, nothing, part_to, one_part, ends_part, in_turn}

module _ (code : Code) (k : ℕ) (f : CodeFunction) (cs : C.Setting) (inside : Inside) where
  abbrev mark : Mark
  mark = inside.mark

  -- the end of a branch goes past those that follow
  exit_part : (rest : Otherwise) (end place : ℕ) → place + exit_size cs rest ≤ end → HasMark code k end mark → StandIn code k place (exit mark rest end) → Part code k f place (place + exit_size cs rest) mark mark
  exit_part no_else end place less there s = part_to code k f (omega arith) refl (nothing code k f place mark)
  exit_part (else_do b) end place less there s = one_part code k f place mark mark (I.Jump end) s.0 s.1 (jump code k f end (omega (arith, less)) there)
  exit_part (elif_then ln c b rest) end place less there s = one_part code k f place mark mark (I.Jump end) s.0 s.1 (jump code k f end (omega (arith, less)) there)

  -- the test of a branch goes on where the condition holds
  test_part : (turned : Bool) (place elsewhere : ℕ) → place + test_size turned ≤ elsewhere → HasMark code k elsewhere mark → StandIn code k place (straight (raised 1 mark) (test_instrs turned place elsewhere)) → Part code k f place (place + test_size turned) (raised 1 mark) mark
  test_part false place elsewhere less there s has =
      let back : mark ≡ after (raised 1 mark) 1 0 = same_mark _ _ (omega arith) refl refl in
      part_to code k f refl (sym back) (one_part code k f place (raised 1 mark) (after (raised 1 mark) 1 0) (I.JumpZero elsewhere) s.0 s.1 (test code k f elsewhere (omega arith) (omega (arith, less)) (has_as code k refl back there))) has
  test_part true place elsewhere less there s has =
      let back : mark ≡ after (raised 1 mark) 1 0 = same_mark _ _ (omega arith) refl refl in
      part_to code k f (omega arith) refl (ends_part code k f place (raised 1 mark) mark (I.JumpZero (place + 2) ∷ []) (I.Jump elsewhere) s (test code k f (place + 2) (omega arith) (omega arith) (has_as code k refl back has), tt) (jump code k f elsewhere (omega (arith, less)) (has_as code k refl back there))) has

  module _ (c : Expression) (b : Block) (rest : Otherwise) (place : ℕ) where
    abbrev nc : ℕ
    nc = expression_size cs (asked Branch c)

    abbrev nt : ℕ
    nt = test_size (is_turned Branch c)

    abbrev nb : ℕ
    nb = block_size cs mark.tries inside.loop.tries b

    abbrev nl : ℕ
    nl = exit_size cs rest

    abbrev nr : ℕ
    nr = otherwise_size cs mark.tries inside.loop.tries rest

    abbrev else_at : ℕ
    else_at = else_place cs inside place c b rest

    abbrev end : ℕ
    end = end_place cs inside place c b rest

    abbrev condition_lines : List CodeLine
    condition_lines = value_code cs inside place (asked Branch c)

    abbrev test_lines : List CodeLine
    test_lines = straight (raised 1 mark) (test_instrs (is_turned Branch c) (test_place cs place c) else_at)

    abbrev body_lines : List CodeLine
    body_lines = block_code cs inside (then_place cs place c) b

    abbrev leave_lines : List CodeLine
    leave_lines = exit mark rest end

    abbrev rest_lines : List CodeLine
    rest_lines = otherwise_code cs inside else_at rest

    pub branch_part : (StandIn code k place condition_lines → Part code k f place (place + nc) mark (raised 1 mark)) → (StandIn code k (then_place cs place c) body_lines → Part code k f (then_place cs place c) (then_place cs place c + nb) mark mark) → (StandIn code k else_at rest_lines → Part code k f else_at end mark mark) → StandIn code k place (branch_lines mark (test_instrs (is_turned Branch c) (test_place cs place c) else_at) condition_lines body_lines leave_lines rest_lines) → Part code k f place (place + (nc + (nt + (nb + (nl + nr))))) mark mark
    branch_part condition body others s has =
        let lc : length condition_lines ≡ nc = length-expression cs inside.free mark place (asked Branch c) in
        let lt : length (condition_lines ++ test_lines) ≡ nc + nt = omega (arith, length-append condition_lines test_lines, lc, length-test (raised 1 mark) (is_turned Branch c) (test_place cs place c) else_at) in
        let lb : length (condition_lines ++ test_lines ++ body_lines) ≡ nc + nt + nb = omega (arith, length-append (condition_lines ++ test_lines) body_lines, lt, length-block cs inside (then_place cs place c) b) in
        let ll : length (condition_lines ++ test_lines ++ body_lines ++ leave_lines) ≡ nc + nt + nb + nl = omega (arith, length-append (condition_lines ++ test_lines ++ body_lines) leave_lines, lb, length-exit cs mark rest end) in
        let at_end : HasMark code k end mark = has_as code k (omega arith) refl has in
        let there : place + (nc + nt + nb + nl) ≡ else_at = omega arith in
        let s_rest = stand_as code k rest_lines there (second_lines code k place (nc + nt + nb + nl) (condition_lines ++ test_lines ++ body_lines ++ leave_lines) rest_lines ll s) in
        let at_else = (others s_rest at_end).0 in
        let tested = in_turn code k f condition_lines test_lines lc refl condition (test_part (is_turned Branch c) (test_place cs place c) else_at (omega arith) at_else) in
        let first = in_turn code k f (condition_lines ++ test_lines) body_lines lt (omega arith) tested body in
        let middle : StandIn code k place (condition_lines ++ test_lines ++ body_lines ++ leave_lines) → Part code k f place else_at mark mark = in_turn code k f (condition_lines ++ test_lines ++ body_lines) leave_lines lb (omega arith) first (exit_part rest end (then_place cs place c + nb) (omega arith) at_end) in
        part_to code k f (omega arith) refl (in_turn code k f (condition_lines ++ test_lines ++ body_lines ++ leave_lines) rest_lines ll there middle others s) has
