-- The code of a statement is in its ranges where it fits.
use Rattle.std.proofs.Common.{◌≡◌, ℕ, ◌+◌, ◌-◌, ◌<◌, ◌^◌, List, [], ◌∷◌, ◌++◌, length, Option, Some, None, refl, arith, length-append}
use Rattle.std.specs.Prelude.{Bool, true, false, pos}
use Rattle.kern_syntax.specs.Tree as T
use Rattle.kern_syntax.specs.Tree.{Expression, variable, Statement, pass, evaluate, assign, assign_element, augment, augment_element, assign_repeated, assign_list, if_then, while_do, for_range, parallel, sequential, record_as, try_do, Block, done, line_then, Otherwise, no_else, else_do, elif_then, Handlers, no_handler, except_then}
use Rattle.kern_calls.specs.declared.types.ValueType.TheVariants.{Int64}
use Rattle.kern_calls.specs.Types.{type_of}
use Rattle.timeline_sem.specs.Statements.{operator_of}
use Rattle.core_isa.specs.declared.code.Mark.{Mark}
use Rattle.core_isa.specs.declared.instr.Instr.TheVariants as I
use Rattle.core_image.specs.Ranges.{is_short}
use Rattle.code_forms.specs.declared.test_kind.TestKind.TheVariants.{Branch, LoopEnd}
use Rattle.code_forms.specs.Conditions.{is_turned, asked, test_instrs, loop_instrs, loop_size}
use Rattle.code_forms.specs.ExpressionCode.{expression_code}
use Rattle.code_forms.specs.Lines.{line, raised, with_handler, with_recording, straight}
use Rattle.code_forms.specs.Operations.{operator_instrs}
use Rattle.code_forms.specs.Setting.{Setting, slot_of, length_of, index_of_text}
use Rattle.code_forms.specs.Sizes.{expression_size, stored_size, return_size, from_size, has_second, parallel_begin_size, statement_size, block_size, parallel_size, others_size, otherwise_size, handlers_size}
use Rattle.code_forms.specs.StatementCode.{Inside, keeping, in_loop, under, code_of_name, returning, no_value, result_mark, moved, element_slot, exit, test_place, then_place, else_place, end_place, turns_place, for_begins, for_goes_on, parallel_begins, next_begins, parallel_ends, value_code, second_code, return_code, from_code, stored_code, statement_code, block_code, parallel_code, others_code, otherwise_code, handlers_code}
use Rattle.code_ranges.specs.Fits.{SettingFits}
use Rattle.code_ranges.specs.Ready.{ExpressionFits}
use Rattle.code_ranges.specs.ReadyStatements.{HasSpace, FitsIfThere, EachFits, StatementFits, BlockFits, OtherwiseFits, HandlersFit}
use Rattle.code_ranges.proofs.Straight.{LinesFit, no_lines, one_more, both_fit, line_fits, single, instrs_and}
use Rattle.code_ranges.proofs.Operators.{operator_fits, operator_short, slot_fits, two_fit, text_fits}
use Rattle.code_ranges.proofs.Asked.{asked_fits}
use Rattle.code_ranges.proofs.ExpressionRanges.{expression_ranged, effect_ranged}
use Rattle.code_ranges.proofs.Rows.{LoopFits, space_mark, bare_mark, space_row, bare_row, short_is, free_is, place_is, leaving_fits, returning_fits, no_result_fits, no_value_fits, exit_fits, test_fits, test_short, loop_fits, loop_short, branch_fits, moved_fits, element_short, name_fits}

module _ (setting : Setting) (sound : SettingFits setting) where
  value_ranged : (mark : Mark) (free place : ℕ) (e : Expression) → is_short free ≡ true → ExpressionFits mark e → place + expression_size setting e < 2 ^ 32 → LinesFit (expression_code setting free mark place e)
  value_ranged mark free place e short f p =
      expression_ranged setting sound free short mark place e f.spelled (record { operands = f.operands; handlers = f.handlers; rec = f.rec }) p

  return_ranged : (inside : Inside) (place : ℕ) (e : Option Expression) → HasSpace inside.mark inside.free → FitsIfThere inside.mark e → place + return_size setting e < 2 ^ 32 → LinesFit (return_code setting inside place e)
  return_ranged inside place None s f p = no_result_fits inside.mark inside.free setting.value s
  return_ranged inside place (Some e) s f p =
      both_fit
      (value_code setting inside place e)
      (straight (raised 1 inside.mark) (no_value setting.value))
      (value_ranged inside.mark inside.free place e (free_is inside.mark inside.free s) f (omega (arith, p)))
      (no_value_fits inside.mark inside.free setting.value s)

  from_ranged : (inside : Inside) (place : ℕ) (e : Option Expression) → HasSpace inside.mark inside.free → FitsIfThere inside.mark e → place + from_size setting e < 2 ^ 32 → LinesFit (from_code setting inside place e)
  from_ranged inside place None s f p = single inside.mark (I.Const (pos 0)) (bare_mark inside.mark inside.free s) refl
  from_ranged inside place (Some e) s f p = value_ranged inside.mark inside.free place e (free_is inside.mark inside.free s) f p

  begin_ranged : (inside : Inside) (second : Bool) → HasSpace inside.mark inside.free → LinesFit (straight inside.mark (parallel_begins inside second))
  begin_ranged inside true s =
      let greatest = short_is (inside.free + 1) (omega (arith, s.slots)) in
      bare_row inside.mark inside.free (parallel_begins inside true) s (omega arith) (refl, (refl, (free_is inside.mark inside.free s, (greatest, tt))))
  begin_ranged inside false s =
      let greatest = short_is (inside.free + 1) (omega (arith, s.slots)) in
      bare_row inside.mark inside.free (parallel_begins inside false) s (omega arith) (refl, (greatest, tt))

  stored_ranged : (inside : Inside) (first own place : ℕ) (es : List Expression) → HasSpace inside.mark first → EachFits inside.mark es → inside.free + length es < 2 ^ 16 → own < 2 ^ 16 → place + stored_size setting es < 2 ^ 32 → LinesFit (stored_code setting inside own place es)
  stored_ranged inside first own place [] s f room last p = no_lines
  stored_ranged inside first own place (e ∷ es) s f room last p =
      let short = short_is inside.free (omega (arith, room)) in
      let slot = element_slot (length es) inside.free own in
      let store = line (raised 1 inside.mark) (I.Store slot) in
      both_fit
      (value_code setting inside place e)
      (store ∷ stored_code setting (keeping 1 inside) own (place + expression_size setting e + 1) es)
      (value_ranged inside.mark inside.free place e short f.0 (omega (arith, p)))
      (one_more
      store
      (stored_code setting (keeping 1 inside) own (place + expression_size setting e + 1) es)
      (line_fits (raised 1 inside.mark) (I.Store slot) (space_mark inside.mark first 1 s (omega arith)) (element_short (length es) inside.free own short (short_is own last)))
      (stored_ranged (keeping 1 inside) first own (place + expression_size setting e + 1) es s f.1 (omega (arith, room)) last (omega (arith, p))))

  mutual
    pub statement_ranged : (inside : Inside) (place : ℕ) (st : Statement) → HasSpace inside.mark inside.free → StatementFits setting inside.mark inside.free st → LoopFits inside.loop → place + statement_size setting inside.mark.tries inside.loop.tries st < 2 ^ 32 → LinesFit (statement_code setting inside place st)
    statement_ranged inside place pass s f l p = no_lines
    statement_ranged inside place T.break s f l p = leaving_fits inside inside.loop.past s l.past
    statement_ranged inside place T.continue s f l p = leaving_fits inside inside.loop.again s l.again
    statement_ranged inside place (T.return e) s f l p =
        both_fit
        (return_code setting inside place e)
        (returning (result_mark setting.value inside.mark))
        (return_ranged inside place e s f (omega (arith, p)))
        (returning_fits inside.mark inside.free setting.value s)
    statement_ranged inside place (evaluate e) s f l p =
        effect_ranged setting sound inside.free (free_is inside.mark inside.free s) inside.mark place e f.spelled (record { operands = f.operands; handlers = f.handlers; rec = f.rec }) p
    statement_ranged inside place (assign x e) s f l p =
        both_fit
        (value_code setting inside place e)
        (straight (raised 1 inside.mark) (I.Store (slot_of setting x) ∷ []))
        (value_ranged inside.mark inside.free place e (free_is inside.mark inside.free s) f (omega (arith, p)))
        (space_row inside.mark inside.free 1 (I.Store (slot_of setting x) ∷ []) s (omega arith) (omega arith) (slot_fits setting sound x, tt))
    statement_ranged inside place (assign_element x i e) s f l p =
        let store = I.StoreAt (slot_of setting x) (length_of setting x) ∷ [] in
        let second = second_code setting inside (place + expression_size setting e) i in
        both_fit
        (value_code setting inside place e ++ second)
        (straight (raised 2 inside.mark) store)
        (both_fit
        (value_code setting inside place e)
        second
        (value_ranged inside.mark inside.free place e (free_is inside.mark inside.free s) f.0 (omega (arith, p)))
        (value_ranged (raised 1 inside.mark) inside.free (place + expression_size setting e) i (free_is inside.mark inside.free s) f.1 (omega (arith, p))))
        (space_row inside.mark inside.free 2 store s (omega arith) (omega arith) (two_fit setting sound x, tt))
    statement_ranged inside place (augment x op e) s f l p =
        let load = line inside.mark (I.Load (slot_of setting x)) in
        let own = operator_instrs (operator_of op) (type_of setting.scope (variable x)) in
        let store = I.Store (slot_of setting x) ∷ [] in
        let second = second_code setting inside (place + 1) e in
        let few = operator_short (operator_of op) (type_of setting.scope (variable x)) in
        both_fit
        (load ∷ second)
        (straight (raised 2 inside.mark) (own ++ store))
        (one_more
        load
        second
        (line_fits inside.mark (I.Load (slot_of setting x)) (bare_mark inside.mark inside.free s) (slot_fits setting sound x))
        (value_ranged (raised 1 inside.mark) inside.free (place + 1) e (free_is inside.mark inside.free s) f (omega (arith, p))))
        (space_row inside.mark inside.free 2 (own ++ store) s (omega arith) (omega (arith, few, length-append own store)) (instrs_and own store (operator_fits (operator_of op) (type_of setting.scope (variable x))) (slot_fits setting sound x, tt)))
    statement_ranged inside place (augment_element x i op e) s f l p =
        let load = I.Dup ∷ I.Store inside.free ∷ I.LoadAt (slot_of setting x) (length_of setting x) ∷ [] in
        let own = operator_instrs (operator_of op) Int64 in
        let store = I.Load inside.free ∷ I.StoreAt (slot_of setting x) (length_of setting x) ∷ [] in
        let few = operator_short (operator_of op) Int64 in
        let first = value_code setting inside place i in
        let second = second_code setting (keeping 1 inside) (place + expression_size setting i + 3) e in
        let short = free_is inside.mark inside.free s in
        both_fit
        ((first ++ straight (raised 1 inside.mark) load) ++ second)
        (straight (raised 2 inside.mark) (own ++ store))
        (both_fit
        (first ++ straight (raised 1 inside.mark) load)
        second
        (both_fit
        first
        (straight (raised 1 inside.mark) load)
        (value_ranged inside.mark inside.free place i short f.0 (omega (arith, p)))
        (space_row inside.mark inside.free 1 load s (omega arith) (omega arith) (refl, (short, (two_fit setting sound x, tt)))))
        (value_ranged (raised 1 inside.mark) (inside.free + 1) (place + expression_size setting i + 3) e (short_is (inside.free + 1) (omega (arith, s.slots))) f.1 (omega (arith, p))))
        (space_row inside.mark inside.free 2 (own ++ store) s (omega arith) (omega (arith, few, length-append own store)) (instrs_and own store (operator_fits (operator_of op) Int64) (short, (two_fit setting sound x, tt))))
    statement_ranged inside place (assign_repeated x e n) s f l p =
        let store = I.Fill (slot_of setting x) (length_of setting x) ∷ [] in
        both_fit
        (value_code setting inside place e)
        (straight (raised 1 inside.mark) store)
        (value_ranged inside.mark inside.free place e (free_is inside.mark inside.free s) f (omega (arith, p)))
        (space_row inside.mark inside.free 1 store s (omega arith) (omega arith) (two_fit setting sound x, tt))
    statement_ranged inside place (assign_list x es) s f l p =
        let own = slot_of setting x + (length es - 1) in
        both_fit
        (stored_code setting inside own place es)
        (straight inside.mark (moved (length es - 1) inside.free (slot_of setting x)))
        (stored_ranged inside inside.free own place es s f.0 f.1.1 (omega (arith, f.1.0)) (omega (arith, p)))
        (moved_fits (length es - 1) inside.free (slot_of setting x) inside.mark s.empty s.handlers s.recording (omega (arith, f.1.1)) (omega (arith, f.1.0)))
    statement_ranged inside place (if_then c b rest) s f l p =
        let m = inside.mark in
        let test = test_instrs (is_turned Branch c) (test_place setting place c) (else_place setting inside place c b rest) in
        branch_fits
        m
        test
        (value_code setting inside place (asked Branch c))
        (block_code setting inside (then_place setting place c) b)
        (exit m rest (end_place setting inside place c b rest))
        (otherwise_code setting inside (else_place setting inside place c b rest) rest)
        (space_row m inside.free 1 test s (omega arith) (test_short (is_turned Branch c) (test_place setting place c) (else_place setting inside place c b rest)) (test_fits (is_turned Branch c) (test_place setting place c) (else_place setting inside place c b rest) (omega arith) (omega (arith, p))))
        (value_ranged m inside.free place (asked Branch c) (free_is m inside.free s) (asked_fits Branch m c f.0) (omega (arith, p)))
        (block_ranged inside (then_place setting place c) b s f.1 l (omega (arith, p)))
        (exit_fits m rest (end_place setting inside place c b rest) (bare_mark m inside.free s) (omega (arith, p)))
        (otherwise_ranged inside (else_place setting inside place c b rest) rest s f.2 l (omega (arith, p)))
    statement_ranged inside place (while_do c b) s f l p =
        let m = inside.mark in
        let again = place + 2 + block_size setting m.tries m.tries b in
        let past = again + expression_size setting (asked LoopEnd c) + loop_size (is_turned LoopEnd c) in
        let jump = line m (I.Jump again) in
        let turn = line m I.Turn in
        let body = block_code setting (in_loop again past inside) (place + 2) b in
        let test = value_code setting inside again (asked LoopEnd c) in
        let end = loop_instrs (is_turned LoopEnd c) (place + 1) past in
        both_fit
        ((jump ∷ (turn ∷ body)) ++ test)
        (straight (raised 1 m) end)
        (both_fit
        (jump ∷ (turn ∷ body))
        test
        (one_more
        jump
        (turn ∷ body)
        (line_fits m (I.Jump again) (bare_mark m inside.free s) (place_is again (omega (arith, p))))
        (one_more
        turn
        body
        (line_fits m I.Turn (bare_mark m inside.free s) refl)
        (block_ranged (in_loop again past inside) (place + 2) b s f.1 (record { again = omega (arith, p); past = omega (arith, p) }) (omega (arith, p)))))
        (value_ranged m inside.free again (asked LoopEnd c) (free_is m inside.free s) (asked_fits LoopEnd m c f.0) (omega (arith, p))))
        (space_row m inside.free 1 end s (omega arith) (loop_short (is_turned LoopEnd c) (place + 1) past) (loop_fits (is_turned LoopEnd c) (place + 1) past (omega (arith, p)) (omega (arith, p))))
    statement_ranged inside place (for_range x from to b) s f l p =
        let m = inside.mark in
        let turns = turns_place setting place from to in
        let again = turns + 10 + block_size setting m.tries m.tries b in
        let begin = for_begins setting inside x again in
        let end = for_goes_on inside (turns + 3) in
        let bounds = from_code setting inside place from ++ second_code setting inside (place + from_size setting from) to in
        let body = block_code setting (in_loop again (again + 4) (keeping 2 inside)) (turns + 10) b in
        let most : place + (from_size setting from + (expression_size setting to + (10 + (block_size setting m.tries m.tries b + 4)))) < 4294967296 = omega (arith, p) in
        let short = free_is m inside.free s in
        let short' = short_is (inside.free + 1) (omega (arith, s.slots)) in
        both_fit
        ((bounds ++ straight (raised 2 m) begin) ++ body)
        (straight m end)
        (both_fit
        (bounds ++ straight (raised 2 m) begin)
        body
        (both_fit
        bounds
        (straight (raised 2 m) begin)
        (both_fit
        (from_code setting inside place from)
        (second_code setting inside (place + from_size setting from) to)
        (from_ranged inside place from s f.0 (omega (arith, most)))
        (value_ranged (raised 1 m) inside.free (place + from_size setting from) to short f.1 (omega (arith, most))))
        (space_row m inside.free 2 begin s (omega arith) (omega arith) (short', (short, (place_is again (omega (arith, most)), (refl, (short, (refl, (slot_fits setting sound x, (refl, (refl, (short, tt))))))))))))
        (block_ranged (in_loop again (again + 4) (keeping 2 inside)) (turns + 10) b f.2 f.3 (record { again = omega (arith, most); past = omega (arith, most) }) (omega (arith, most))))
        (bare_row m inside.free end s (omega arith) (short', (short, (refl, (place_is (turns + 3) (omega (arith, most)), tt)))))
    statement_ranged inside place (parallel b) s f l p =
        let first = place + parallel_begin_size (has_second b) in
        both_fit
        (straight inside.mark (parallel_begins inside (has_second b)))
        (parallel_code setting (keeping 2 inside) first b)
        (begin_ranged inside (has_second b) s)
        (parallel_ranged (keeping 2 inside) first b f.0 f.1 l (omega (arith, p)))
    statement_ranged inside place (sequential b) s f l p = block_ranged inside place b s f l p
    statement_ranged inside place (record_as name b) s f l p =
        let m = inside.mark in
        let opening = line m (I.Record (index_of_text setting name)) in
        let body = block_code setting (under (with_recording m) inside) (place + 1) b in
        both_fit
        (opening ∷ body)
        (line (with_recording m) I.Save ∷ [])
        (one_more
        opening
        body
        (line_fits m (I.Record (index_of_text setting name)) (bare_mark m inside.free s) (text_fits setting sound name))
        (block_ranged (under (with_recording m) inside) (place + 1) b f.0 f.1 l (omega (arith, p))))
        (single (with_recording m) I.Save (bare_mark (with_recording m) inside.free f.0) refl)
    statement_ranged inside place (try_do b handlers) s f l p =
        let m = inside.mark in
        let first = place + 1 + block_size setting (m.tries + 1) inside.loop.tries b + 2 in
        let end = first + handlers_size setting m.tries inside.loop.tries handlers in
        let opening = line m (I.Try first) in
        let body = block_code setting (under (with_handler m) inside) (place + 1) b in
        let close = I.EndTry ∷ I.Jump end ∷ [] in
        both_fit
        ((opening ∷ body) ++ straight (with_handler m) close)
        (handlers_code setting inside first end handlers)
        (both_fit
        (opening ∷ body)
        (straight (with_handler m) close)
        (one_more
        opening
        body
        (line_fits m (I.Try first) (bare_mark m inside.free s) (place_is first (omega (arith, p))))
        (block_ranged (under (with_handler m) inside) (place + 1) b f.0 f.1 l (omega (arith, p))))
        (bare_row (with_handler m) inside.free close f.0 (omega arith) (refl, (place_is end (omega (arith, p)), tt))))
        (handlers_ranged inside first end handlers s f.2 l (omega (arith, p)) (omega (arith, p)))

    pub block_ranged : (inside : Inside) (place : ℕ) (b : Block) → HasSpace inside.mark inside.free → BlockFits setting inside.mark inside.free b → LoopFits inside.loop → place + block_size setting inside.mark.tries inside.loop.tries b < 2 ^ 32 → LinesFit (block_code setting inside place b)
    block_ranged inside place done s f l p = no_lines
    block_ranged inside place (line_then ln st rest) s f l p =
        let next = place + statement_size setting inside.mark.tries inside.loop.tries st in
        both_fit
        (statement_code setting inside place st)
        (block_code setting inside next rest)
        (statement_ranged inside place st s f.0 l (omega (arith, p)))
        (block_ranged inside next rest s f.1 l (omega (arith, p)))

    pub parallel_ranged : (inside : Inside) (place : ℕ) (b : Block) → HasSpace inside.mark inside.free → BlockFits setting inside.mark inside.free b → LoopFits inside.loop → place + parallel_size setting inside.mark.tries inside.loop.tries b < 2 ^ 32 → LinesFit (parallel_code setting inside place b)
    parallel_ranged inside place done s f l p = no_lines
    parallel_ranged inside place (line_then ln st rest) s f l p =
        let next = place + statement_size setting inside.mark.tries inside.loop.tries st in
        both_fit
        (statement_code setting inside place st)
        (others_code setting inside next rest)
        (statement_ranged inside place st s f.0 l (omega (arith, p)))
        (others_ranged inside next rest s f.1 l (omega (arith, p)))

    others_ranged : (inside : Inside) (place : ℕ) (b : Block) → HasSpace inside.mark inside.free → BlockFits setting inside.mark inside.free b → LoopFits inside.loop → place + others_size setting inside.mark.tries inside.loop.tries b < 2 ^ 32 → LinesFit (others_code setting inside place b)
    others_ranged inside place done s f l p =
        let one = short_is (inside.free - 1) (omega (arith, s.slots)) in
        bare_row inside.mark inside.free (parallel_ends inside) s (omega arith) (one, (refl, (refl, (refl, tt))))
    others_ranged inside place (line_then ln st rest) s f l p =
        let m = inside.mark in
        let own = statement_code setting inside (place + 6) st in
        let next = place + 6 + statement_size setting m.tries inside.loop.tries st in
        let two = short_is (inside.free - 2) (omega (arith, s.slots)) in
        let one = short_is (inside.free - 1) (omega (arith, s.slots)) in
        both_fit
        (straight m (next_begins inside) ++ own)
        (others_code setting inside next rest)
        (both_fit
        (straight m (next_begins inside))
        own
        (bare_row m inside.free (next_begins inside) s (omega arith) (one, (refl, (refl, (one, (two, (refl, tt)))))))
        (statement_ranged inside (place + 6) st s f.0 l (omega (arith, p))))
        (others_ranged inside next rest s f.1 l (omega (arith, p)))

    pub otherwise_ranged : (inside : Inside) (place : ℕ) (rest : Otherwise) → HasSpace inside.mark inside.free → OtherwiseFits setting inside.mark inside.free rest → LoopFits inside.loop → place + otherwise_size setting inside.mark.tries inside.loop.tries rest < 2 ^ 32 → LinesFit (otherwise_code setting inside place rest)
    otherwise_ranged inside place no_else s f l p = no_lines
    otherwise_ranged inside place (else_do b) s f l p = block_ranged inside place b s f l p
    otherwise_ranged inside place (elif_then ln c b rest) s f l p =
        let m = inside.mark in
        let test = test_instrs (is_turned Branch c) (test_place setting place c) (else_place setting inside place c b rest) in
        branch_fits
        m
        test
        (value_code setting inside place (asked Branch c))
        (block_code setting inside (then_place setting place c) b)
        (exit m rest (end_place setting inside place c b rest))
        (otherwise_code setting inside (else_place setting inside place c b rest) rest)
        (space_row m inside.free 1 test s (omega arith) (test_short (is_turned Branch c) (test_place setting place c) (else_place setting inside place c b rest)) (test_fits (is_turned Branch c) (test_place setting place c) (else_place setting inside place c b rest) (omega arith) (omega (arith, p))))
        (value_ranged m inside.free place (asked Branch c) (free_is m inside.free s) (asked_fits Branch m c f.0) (omega (arith, p)))
        (block_ranged inside (then_place setting place c) b s f.1 l (omega (arith, p)))
        (exit_fits m rest (end_place setting inside place c b rest) (bare_mark m inside.free s) (omega (arith, p)))
        (otherwise_ranged inside (else_place setting inside place c b rest) rest s f.2 l (omega (arith, p)))

    pub handlers_ranged : (inside : Inside) (place end : ℕ) (handlers : Handlers) → HasSpace inside.mark inside.free → HandlersFit setting inside.mark inside.free handlers → LoopFits inside.loop → end < 2 ^ 32 → place + handlers_size setting inside.mark.tries inside.loop.tries handlers < 2 ^ 32 → LinesFit (handlers_code setting inside place end handlers)
    handlers_ranged inside place end no_handler s f l e p = single (raised 1 inside.mark) I.Raise (space_mark inside.mark inside.free 1 s (omega arith)) refl
    handlers_ranged inside place end (except_then ln name b rest) s f l e p =
        let m = inside.mark in
        let next = place + 5 + block_size setting m.tries inside.loop.tries b + 1 in
        let begin = I.Dup ∷ I.Const (code_of_name name) ∷ I.Eq ∷ I.JumpZero next ∷ I.Pop ∷ [] in
        let body = block_code setting inside (place + 5) b in
        let jump = line m (I.Jump end) in
        both_fit
        (straight (raised 1 m) begin ++ body)
        (jump ∷ handlers_code setting inside next end rest)
        (both_fit
        (straight (raised 1 m) begin)
        body
        (space_row m inside.free 1 begin s (omega arith) (omega arith) (refl, (name_fits name, (refl, (place_is next (omega (arith, p)), (refl, tt))))))
        (block_ranged inside (place + 5) b s f.0 l (omega (arith, p))))
        (one_more
        jump
        (handlers_code setting inside next end rest)
        (line_fits m (I.Jump end) (bare_mark m inside.free s) (place_is end e))
        (handlers_ranged inside next end rest s f.1 l e (omega (arith, p))))
