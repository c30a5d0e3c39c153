-- The code of loops is marked rightly.
use Rattle.std.proofs.Common.{◌≡◌, ℕ, ◌+◌, ◌<◌, ◌≤◌, List, [], ◌∷◌, ◌++◌, length, Option, refl, sym, ap, arith, length-append}
use Rattle.std.specs.Prelude.{Bool, true, false, pos, slice_get}
use Rattle.kern_syntax.specs.Tree.{Bytes, Expression, Block, while_do, for_range}
use Rattle.core_isa.specs.declared.code.Code.{Code}
use Rattle.core_isa.specs.declared.code.CodeFunction.{CodeFunction}
use Rattle.core_isa.specs.declared.code.CodeLine.{CodeLine}
use Rattle.core_isa.specs.declared.code.Mark.{Mark}
use Rattle.core_isa.specs.declared.instr.Instr.TheVariants as I
use Rattle.core_isa.specs.Marks.{after, takes_unit_first}
use Rattle.code_forms.specs.declared.test_kind.TestKind.TheVariants.{LoopEnd}
use Rattle.code_forms.specs.Conditions.{is_turned, asked, loop_instrs, loop_size}
use Rattle.code_forms.specs.Lines.{line, raised, straight}
use Rattle.code_forms.specs.Setting as C
use Rattle.code_forms.specs.Setting.{slot_of}
use Rattle.code_forms.specs.Sizes.{expression_size, from_size, block_size}
use Rattle.code_forms.specs.StatementCode.{Inside, keeping, in_loop, turns_place, for_begins, for_goes_on, value_code, second_code, from_code, block_code, statement_code}
use Rattle.code_forms.proofs.Lengths.{length-expression}
use Rattle.code_forms.proofs.StatementLengths.{length-from, length-block}
use Rattle.code_marks.proofs.Instructions.{simple, jump, jump_back, test, test_back}
use Rattle.code_marks.proofs.Parts.{HasMark, StandIn, Part, same_mark, first_lines, second_lines, stand_as, stands_at, mark_there, mark_of, has_as, followed, part_to, one_part, straight_to, ends_part}

module _ (code : Code) (k : ℕ) (f : CodeFunction) (cs : C.Setting) (inside : Inside) where
  abbrev mark : Mark
  mark = inside.mark

  -- the test at the end of a loop goes back to a turn, or on past the loop
  loop_part : (turned : Bool) (place turn past : ℕ) → place + loop_size turned ≡ past → takes_unit_first (slice_get code.lines turn) ≡ true → HasMark code k turn mark → HasMark code k past mark → StandIn code k place (straight (raised 1 mark) (loop_instrs turned turn past)) → Part code k f place past (raised 1 mark) mark
  loop_part false place turn past ends unit at_turn at_past s =
      let back : mark ≡ after (raised 1 mark) 1 0 = same_mark _ _ (omega arith) refl refl in
      part_to code k f (omega (arith, ends)) refl (ends_part code k f place (raised 1 mark) mark (I.JumpZero past ∷ []) (I.Jump turn) s (test code k f past (omega arith) (omega (arith, ends)) (has_as code k refl back at_past), tt) (jump_back code k f turn unit (has_as code k refl back at_turn)))
  loop_part true place turn past ends unit at_turn at_past s =
      let back : mark ≡ after (raised 1 mark) 1 0 = same_mark _ _ (omega arith) refl refl in
      part_to code k f ends (sym back) (one_part code k f place (raised 1 mark) (after (raised 1 mark) 1 0) (I.JumpZero turn) s.0 s.1 (test_back code k f turn (omega arith) unit (has_as code k refl back at_turn)))

  module _ (c : Expression) (b : Block) (place : ℕ) where
    abbrev nb : ℕ
    nb = block_size cs mark.tries mark.tries b

    abbrev nc : ℕ
    nc = expression_size cs (asked LoopEnd c)

    abbrev ne : ℕ
    ne = loop_size (is_turned LoopEnd c)

    -- where the condition stands, and where the loop ends
    abbrev pub again : ℕ
    again = place + 2 + nb

    abbrev pub past : ℕ
    past = again + nc + ne

    abbrev pub while_body : List CodeLine
    while_body = block_code cs (in_loop again past inside) (place + 2) b

    pub while_part : (StandIn code k again (value_code cs inside again (asked LoopEnd c)) → Part code k f again (again + nc) mark (raised 1 mark)) → (HasMark code k again mark → HasMark code k past mark → StandIn code k (place + 2) while_body → Part code k f (place + 2) (place + 2 + nb) mark mark) → StandIn code k place (statement_code cs inside place (while_do c b)) → Part code k f place (place + (2 + (nb + (nc + ne)))) mark mark
    while_part condition body s has =
        let j = line mark (I.Jump again) in
        let t = line mark I.Turn in
        let v = value_code cs inside again (asked LoopEnd c) in
        let ends = straight (raised 1 mark) (loop_instrs (is_turned LoopEnd c) (place + 1) past) in
        let lb : length (j ∷ t ∷ while_body) ≡ 2 + nb = omega (arith, length-block cs (in_loop again past inside) (place + 2) b) in
        let lc : length (j ∷ t ∷ while_body ++ v) ≡ 2 + nb + nc = omega (arith, length-append (j ∷ t ∷ while_body) v, lb, length-expression cs inside.free mark again (asked LoopEnd c)) in
        let front = first_lines code k place (j ∷ t ∷ while_body ++ v) ends s in
        let first = first_lines code k place (j ∷ t ∷ while_body) v front in
        let s_c = stand_as code k v (let same : place + (2 + nb) ≡ again = omega arith in same) (second_lines code k place (2 + nb) (j ∷ t ∷ while_body) v lb front) in
        let s_e = stand_as code k ends (let same : place + (2 + nb + nc) ≡ again + nc = omega arith in same) (second_lines code k place (2 + nb + nc) (j ∷ t ∷ while_body ++ v) ends lc s) in
        let s_b = stand_as code k while_body (let same : place + 1 + 1 ≡ place + 2 = omega arith in same) first.2.2 in
        let at_past : HasMark code k past mark = has_as code k (omega arith) refl has in
        let at_turn : HasMark code k (place + 1) mark = mark_of code k (place + 1) mark I.Turn first.2.0 first.2.1 in
        let tail : Part code k f (again + nc) past (raised 1 mark) mark = loop_part (is_turned LoopEnd c) (again + nc) (place + 1) past refl (ap takes_unit_first first.2.0) at_turn at_past s_e in
        let loop : Part code k f again past mark mark = part_to code k f (omega arith) refl (followed code k f refl refl (condition s_c) tail) in
        let at_again = (loop at_past).0 in
        let pj = one_part code k f place mark mark (I.Jump again) first.0 first.1 (jump code k f again (omega arith) at_again) in
        let pt = one_part code k f (place + 1) mark (after mark 0 0) I.Turn first.2.0 first.2.1 (simple code k f I.Turn refl tt (omega arith)) in
        let rest = followed code k f (let same : place + 1 + 1 ≡ place + 2 = omega arith in same) (same_mark _ _ (omega arith) refl refl) pt (followed code k f refl refl (body at_again at_past s_b) loop) in
        part_to code k f (omega arith) refl (followed code k f refl refl pj rest) has

  module _ (x : Bytes) (from : Option Expression) (to : Expression) (b : Block) (place : ℕ) where
    abbrev nf : ℕ
    nf = from_size cs from

    abbrev nt : ℕ
    nt = expression_size cs to

    abbrev nb' : ℕ
    nb' = block_size cs mark.tries mark.tries b

    -- where the turns begin, where the loop goes on, and where it ends
    abbrev pub turns : ℕ
    turns = turns_place cs place from to

    abbrev pub goes_on : ℕ
    goes_on = turns + 10 + nb'

    abbrev pub for_body : List CodeLine
    for_body = block_code cs (in_loop goes_on (goes_on + 4) (keeping 2 inside)) (turns + 10) b

    pub for_part : slot_of cs x < f.slots → inside.free + 2 ≤ f.slots → (StandIn code k place (from_code cs inside place from) → Part code k f place (place + nf) mark (raised 1 mark)) → (StandIn code k (place + nf) (second_code cs inside (place + nf) to) → Part code k f (place + nf) turns (raised 1 mark) (raised 2 mark)) → (HasMark code k goes_on mark → HasMark code k (goes_on + 4) mark → StandIn code k (turns + 10) for_body → Part code k f (turns + 10) goes_on mark mark) → StandIn code k place (statement_code cs inside place (for_range x from to b)) → Part code k f place (place + (nf + (nt + (10 + (nb' + 4))))) mark mark
    for_part slot room first second body s has =
        let a = from_code cs inside place from in
        let e = second_code cs inside (place + nf) to in
        let is = for_begins cs inside x goes_on in
        let begins = straight (raised 2 mark) is in
        let js = for_goes_on inside (turns + 3) in
        let ends = straight mark js in
        let la : length a ≡ nf = length-from cs inside place from in
        let le : length (a ++ e) ≡ nf + nt = omega (arith, length-append a e, la, length-expression cs inside.free (raised 1 mark) (place + nf) to) in
        let li : length (a ++ e ++ begins) ≡ nf + nt + 10 = omega (arith, length-append (a ++ e) begins, le) in
        let lb : length (a ++ e ++ begins ++ for_body) ≡ nf + nt + 10 + nb' = omega (arith, length-append (a ++ e ++ begins) for_body, li, length-block cs (in_loop goes_on (goes_on + 4) (keeping 2 inside)) (turns + 10) b) in
        let s4 = first_lines code k place (a ++ e ++ begins ++ for_body) ends s in
        let s3 = first_lines code k place (a ++ e ++ begins) for_body s4 in
        let s2 = first_lines code k place (a ++ e) begins s3 in
        let s_a = first_lines code k place a e s2 in
        let s_e = second_lines code k place nf a e la s2 in
        let s_i = stand_as code k begins (let same : place + (nf + nt) ≡ turns = omega arith in same) (second_lines code k place (nf + nt) (a ++ e) begins le s3) in
        let s_b = stand_as code k for_body (let same : place + (nf + nt + 10) ≡ turns + 10 = omega arith in same) (second_lines code k place (nf + nt + 10) (a ++ e ++ begins) for_body li s4) in
        let s_j = stand_as code k ends (let same : place + (nf + nt + 10 + nb') ≡ goes_on = omega arith in same) (second_lines code k place (nf + nt + 10 + nb') (a ++ e ++ begins ++ for_body) ends lb s) in
        let at_past : HasMark code k (goes_on + 4) mark = has_as code k (omega arith) refl has in
        let turn = stands_at code k turns begins 3 _ s_i refl in
        let at_turn = mark_there code k turns begins 3 _ s_i refl in
        let last : Part code k f goes_on (goes_on + 4) mark mark = straight_to code k f goes_on mark mark js s_j ((simple code k f (I.Load (inside.free + 1)) refl (omega (arith, room)) (omega arith), (simple code k f (I.Load inside.free) refl (omega (arith, room)) (omega arith), (simple code k f I.Le refl tt (omega arith), (test_back code k f (turns + 3) (omega arith) (ap takes_unit_first turn.0) (has_as code k refl (same_mark _ _ (omega arith) refl refl) at_turn), tt)))), same_mark _ _ (omega arith) refl refl) in
        let at_again = (last at_past).0 in
        let begun : Part code k f turns (turns + 10) (raised 2 mark) mark = straight_to code k f turns (raised 2 mark) mark is s_i (
          (
            simple code k f (I.Store (inside.free + 1)) refl (omega (arith, room)) (omega arith),
            (
              simple code k f (I.Store inside.free) refl (omega (arith, room)) (omega arith),
              (
                jump code k f goes_on (omega arith) (has_as code k refl (same_mark _ _ (omega arith) refl refl) at_again),
                (
                  simple code k f I.Turn refl tt (omega arith),
                  (
                    simple code k f (I.Load inside.free) refl (omega (arith, room)) (omega arith),
                    (
                      simple code k f I.Dup refl tt (omega arith),
                      (
                        simple code k f (I.Store (slot_of cs x)) refl slot (omega arith),
                        (
                          simple code k f (I.Const (pos 1)) refl tt (omega arith),
                          (
                            simple code k f I.Add refl tt (omega arith),
                            (simple code k f (I.Store inside.free) refl (omega (arith, room)) (omega arith), tt),
                          ),
                        ),
                      ),
                    ),
                  ),
                ),
              ),
            ),
          ),
          same_mark _ _ (omega arith) refl refl,
        ) in
        let rest = followed code k f refl refl (second s_e) (followed code k f refl refl begun (followed code k f refl refl (body at_again at_past s_b) last)) in
        part_to code k f (omega arith) refl (followed code k f refl refl (first s_a) rest) has
