-- The code of statements and blocks is marked rightly.
use Rattle.std.proofs.Common.{◌≡◌, ℕ, ◌+◌, ◌≤◌, List, ◌++◌, Option, Some, None, refl, subst, arith}
use Rattle.std.specs.Prelude.{Bool, true, false, max, pos}
use Rattle.std.proofs.Math.Nat.{le-max_left, le-max_right}
use Rattle.kern_syntax.specs.Tree as T
use Rattle.kern_syntax.specs.Tree.{Bytes, Expression, Statement, pass, evaluate, assign, assign_element, augment, augment_element, assign_repeated, assign_list, if_then, while_do, for_range, parallel, sequential, record_as, try_do, Block, done, line_then, Otherwise, no_else, else_do, elif_then, Handlers, no_handler, except_then}
use Rattle.core_isa.specs.declared.code.Code.{Code}
use Rattle.core_isa.specs.declared.code.CodeFunction.{CodeFunction}
use Rattle.core_isa.specs.declared.instr.Instr.TheVariants as I
use Rattle.core_isa.specs.Marks.{after}
use Rattle.code_forms.specs.declared.test_kind.TestKind.TheVariants.{Branch, LoopEnd}
use Rattle.code_forms.specs.Conditions.{asked}
use Rattle.code_forms.specs.Lines.{raised, with_handler, with_recording}
use Rattle.code_forms.specs.Programs.{statement_slots, block_slots, otherwise_slots, handlers_slots}
use Rattle.code_forms.specs.Setting as C
use Rattle.code_forms.specs.Sizes.{has_second, parallel_begin_size, expression_size, from_size, statement_size, block_size, parallel_size, others_size, otherwise_size, handlers_size}
use Rattle.code_forms.specs.StatementCode.{Inside, keeping, in_loop, under, then_place, else_place, value_code, second_code, from_code, statement_code, block_code, parallel_code, others_code, otherwise_code, handlers_code}
use Rattle.code_forms.specs.Suited.{IsSuited, IfThereSuited, IsSuitedStatement, IsSuitedBlock, IsSuitedOtherwise, AreSuitedHandlers}
use Rattle.code_forms.specs.Texts.{expression_texts, option_texts, statement_texts, block_texts, otherwise_texts, handler_texts}
use Rattle.code_forms.proofs.StatementLengths.{length-statement}
use Rattle.code_forms.proofs.Asked.{asked_suited, asked_texts}
use Rattle.code_marks.proofs.Assignments.{scalar_slot, assign_part, assign_repeated_part, assign_element_part, augment_part, augment_element_part, assign_list_part}
use Rattle.code_marks.proofs.Branches.{branch_part}
use Rattle.code_marks.proofs.Effects.{effect_part}
use Rattle.code_marks.proofs.Expressions.{expression_part}
use Rattle.code_marks.proofs.Held.{Held, IsOutside, HasTexts, in_front as texts_front, in_back as texts_back, has_name}
use Rattle.code_marks.proofs.Instructions.{simple}
use Rattle.code_marks.proofs.Leaving.{leaving_part, return_part}
use Rattle.code_marks.proofs.Loops.{again, past, while_part, turns, goes_on, for_part}
use Rattle.code_marks.proofs.Parallels.{parallel_part, end_of_parallel, one_of_parallel}
use Rattle.code_marks.proofs.Parts.{HasMark, StandIn, Part, same_mark, nothing, part_to, one_part, in_turn}
use Rattle.code_marks.proofs.Placed.{Placed, earlier, with_slots, in_a_loop, in_a_record, in_a_try, in_parallel}
use Rattle.code_marks.proofs.Tries.{handler_at, try_end, try_part, no_handler_part, next_handler, handler_part, record_part}

-- the free slots are enough for each of two parts
left_room : (n a b m : ℕ) → n + max a b ≤ m → n + a ≤ m
left_room n a b m room = omega (arith, room, le-max_left a b)

right_room : (n a b m : ℕ) → n + max a b ≤ m → n + b ≤ m
right_room n a b m room = omega (arith, room, le-max_right a b)

-- a block has one at least
some_slots : (b : Block) → 1 ≤ block_slots b
some_slots done = omega arith
some_slots (line_then ln s rest) = omega (arith, some_slots rest, le-max_right (statement_slots s) (block_slots rest))

module _ (code : Code) (k : ℕ) (f : CodeFunction) (cs : C.Setting) (plain : List Bytes) (held : Held code f cs plain) where
  -- an expression in a statement
  value : (d : Bool) (inside : Inside) → IsOutside f d inside.mark → inside.free + 1 ≤ f.slots → (e : Expression) → IsSuited cs plain d e → HasTexts cs (expression_texts e) → (place : ℕ) → StandIn code k place (value_code cs inside place e) → Part code k f place (place + expression_size cs e) inside.mark (raised 1 inside.mark)
  value d inside o room e r t place s = expression_part code k f cs plain held inside.free room d e r t inside.mark o place s

  -- where a `for` begins
  from_part : (d : Bool) (inside : Inside) → IsOutside f d inside.mark → inside.free + 1 ≤ f.slots → (from : Option Expression) → IfThereSuited cs plain d from → HasTexts cs (option_texts from) → (place : ℕ) → StandIn code k place (from_code cs inside place from) → Part code k f place (place + from_size cs from) inside.mark (raised 1 inside.mark)
  from_part d inside o room None r t place s =
      part_to code k f refl (same_mark _ _ (omega arith) refl refl) (one_part code k f place inside.mark (after inside.mark 0 1) (I.Const (pos 0)) s.0 s.1 (simple code k f (I.Const (pos 0)) refl tt (omega arith)))
  from_part d inside o room (Some e) r t place s = value d inside o room e r t place s

  mutual
    pub statement_part : (st : Statement) (l r d : Bool) → IsSuitedStatement cs plain l r d st → HasTexts cs (statement_texts st) → (inside : Inside) (place : ℕ) → inside.free + statement_slots st ≤ f.slots → Placed code k f l r d inside (place + statement_size cs inside.mark.tries inside.loop.tries st) → StandIn code k place (statement_code cs inside place st) → Part code k f place (place + statement_size cs inside.mark.tries inside.loop.tries st) inside.mark inside.mark
    statement_part pass l r d u t inside place room g s = part_to code k f (omega arith) refl (nothing code k f place inside.mark)
    statement_part T.break l r d u t inside place room g s =
        let i = g.loop u in
        leaving_part code k f inside place inside.loop.past i.fewer i.opened i.past i.behind s
    statement_part T.continue l r d u t inside place room g s =
        let i = g.loop u in
        leaving_part code k f inside place inside.loop.again i.fewer i.opened i.again i.ahead s
    statement_part (T.return e) l r d u t inside place room g s =
        return_part code k f cs plain held d inside g.outside room place e u.1 t g.bare (g.may_return u.0) s
    statement_part (evaluate e) l r d u t inside place room g s = effect_part code k f cs plain held inside.free room d e u t inside.mark g.outside place s
    statement_part (assign x e) l r d u t inside place room g s = assign_part code k f cs plain held d inside g.outside room place x e u t s
    statement_part (assign_element x i e) l r d u t inside place room g s = assign_element_part code k f cs plain held d inside g.outside room place x i e u t s
    statement_part (augment x op e) l r d u t inside place room g s = augment_part code k f cs plain held d inside g.outside room place x op e u t s
    statement_part (augment_element x i op e) l r d u t inside place room g s =
        augment_element_part code k f cs plain held d inside g.outside (omega (arith, room)) place room x i op e u t s
    statement_part (assign_repeated x e n) l r d u t inside place room g s = assign_repeated_part code k f cs plain held d inside g.outside room place x e n u t s
    statement_part (assign_list x es) l r d u t inside place room g s = assign_list_part code k f cs plain held d inside g.outside place x es room u t s
    statement_part (if_then c b rest) l r d u t inside place room g s =
        let room_b = left_room inside.free (block_slots b) (otherwise_slots rest) f.slots room in
        let room_r = right_room inside.free (block_slots b) (otherwise_slots rest) f.slots room in
        let front = texts_front cs (expression_texts c ++ block_texts b) (otherwise_texts rest) t in
        branch_part code k f cs inside c b rest place
        (value d inside g.outside (omega (arith, room_b, some_slots b)) (asked Branch c) (asked_suited cs plain d Branch c u.0) (subst (HasTexts cs) (asked_texts Branch c) (texts_front cs (expression_texts c) (block_texts b) front)) place)
        (block_part b l r d u.1 (texts_back cs (expression_texts c) (block_texts b) front) inside (then_place cs place c) room_b (earlier code k f l r d inside _ _ (omega arith) g))
        (otherwise_part rest l r d u.2 (texts_back cs (expression_texts c ++ block_texts b) (otherwise_texts rest) t) inside (else_place cs inside place c b rest) room_r (earlier code k f l r d inside _ _ (omega arith) g))
        s
    statement_part (while_do c b) l r d u t inside place room g s =
        while_part code k f cs inside c b place
        (value d inside g.outside (omega (arith, room, some_slots b)) (asked LoopEnd c) (asked_suited cs plain d LoopEnd c u.0) (subst (HasTexts cs) (asked_texts LoopEnd c) (texts_back cs (block_texts b) (expression_texts c) t)) (again code k f cs inside c b place))
        (λ at_again at_past. block_part b true r d u.1 (texts_front cs (block_texts b) (expression_texts c) t) (in_loop (again code k f cs inside c b place) (past code k f cs inside c b place) inside) (place + 2) room (in_a_loop code k f (again code k f cs inside c b place) (past code k f cs inside c b place) l r d inside _ _ at_again at_past (omega arith) (omega arith) g))
        s
    statement_part (for_range x from to b) l r d u t inside place room g s =
        let front = texts_front cs (option_texts from ++ expression_texts to) (block_texts b) t in
        let one : inside.free + 1 ≤ f.slots = omega (arith, room) in
        let p = goes_on code k f cs inside x from to b place in
        let two : raised 1 (raised 1 inside.mark) ≡ raised 2 inside.mark = same_mark _ _ (omega arith) refl refl in
        let to_part : StandIn code k (place + from_size cs from) (second_code cs inside (place + from_size cs from) to) → Part code k f (place + from_size cs from) (turns code k f cs inside x from to b place) (raised 1 inside.mark) (raised 2 inside.mark) = λ s'. part_to code k f refl two (expression_part code k f cs plain held inside.free one d to u.2 (texts_back cs (option_texts from) (expression_texts to) front) (raised 1 inside.mark) g.outside (place + from_size cs from) s') in
        for_part code k f cs inside x from to b place (scalar_slot code f cs plain held x u.0) (omega (arith, room, some_slots b))
        (from_part d inside g.outside one from u.1 (texts_front cs (option_texts from) (expression_texts to) front) place)
        to_part
        (λ at_again at_past. block_part b true r d u.3 (texts_back cs (option_texts from ++ expression_texts to) (block_texts b) t) (in_loop p (p + 4) (keeping 2 inside)) (turns code k f cs inside x from to b place + 10) (omega (arith, room)) (in_a_loop code k f p (p + 4) l r d (keeping 2 inside) _ _ at_again at_past (omega arith) (omega arith) (with_slots code k f 2 l r d inside _ g)))
        s
    statement_part (parallel b) l r d u t inside place room g s =
        parallel_part code k f cs inside b place (omega (arith, room, some_slots b)) (parallel_lines b d u t (keeping 2 inside) (place + parallel_begin_size (has_second b)) (omega arith) (omega (arith, room)) (in_parallel code k f l r d inside _ _ g)) s
    statement_part (sequential b) l r d u t inside place room g s = block_part b l r d u t inside place room g s
    statement_part (record_as name b) l r d u t inside place room g s =
        record_part code k f cs inside name b place (g.outside u.0) (has_name code f cs plain held name (t (omega arith))) (block_part b false false true u.1 (λ some. t (omega (arith, some))) (under (with_recording inside.mark) inside) (place + 1) room (in_a_record code k f l r d inside _ _ g)) s
    statement_part (try_do b handlers) l r d u t inside place room g s =
        let at = handler_at code k f cs inside b handlers place in
        let end = try_end code k f cs inside b handlers place in
        let room_b = left_room inside.free (block_slots b) (handlers_slots handlers) f.slots room in
        let room_h = right_room inside.free (block_slots b) (handlers_slots handlers) f.slots room in
        try_part code k f cs inside b handlers place g.bare g.bounded
        (block_part b l r d u.0 (texts_front cs (block_texts b) (handler_texts handlers) t) (under (with_handler inside.mark) inside) (place + 1) room_b (in_a_try code k f l r d inside _ (earlier code k f l r d inside _ _ (omega arith) g)))
        (λ at_end. handlers_part handlers l r d u.1 (texts_back cs (block_texts b) (handler_texts handlers) t) inside at end room_h refl at_end (earlier code k f l r d inside _ _ (omega arith) g))
        s

    pub block_part : (b : Block) (l r d : Bool) → IsSuitedBlock cs plain l r d b → HasTexts cs (block_texts b) → (inside : Inside) (place : ℕ) → inside.free + block_slots b ≤ f.slots → Placed code k f l r d inside (place + block_size cs inside.mark.tries inside.loop.tries b) → StandIn code k place (block_code cs inside place b) → Part code k f place (place + block_size cs inside.mark.tries inside.loop.tries b) inside.mark inside.mark
    block_part done l r d u t inside place room g s = part_to code k f (omega arith) refl (nothing code k f place inside.mark)
    block_part (line_then ln st rest) l r d u t inside place room g s =
        let n = statement_size cs inside.mark.tries inside.loop.tries st in
        part_to code k f (omega arith) refl (in_turn code k f (statement_code cs inside place st) (block_code cs inside (place + n) rest) (length-statement cs inside place st) refl
        (statement_part st l r d u.0 (texts_front cs (statement_texts st) (block_texts rest) t) inside place (left_room inside.free (statement_slots st) (block_slots rest) f.slots room) (earlier code k f l r d inside _ _ (omega arith) g))
        (block_part rest l r d u.1 (texts_back cs (statement_texts st) (block_texts rest) t) inside (place + n) (right_room inside.free (statement_slots st) (block_slots rest) f.slots room) (earlier code k f l r d inside _ _ (omega arith) g))
        s)

    parallel_lines : (b : Block) (d : Bool) → IsSuitedBlock cs plain false false d b → HasTexts cs (block_texts b) → (inside : Inside) (place : ℕ) → 2 ≤ inside.free → inside.free + block_slots b ≤ f.slots → Placed code k f false false d inside (place + parallel_size cs inside.mark.tries inside.loop.tries b) → StandIn code k place (parallel_code cs inside place b) → Part code k f place (place + parallel_size cs inside.mark.tries inside.loop.tries b) inside.mark inside.mark
    parallel_lines done d u t inside place two room g s = part_to code k f (omega arith) refl (nothing code k f place inside.mark)
    parallel_lines (line_then ln st rest) d u t inside place two room g s =
        let n = statement_size cs inside.mark.tries inside.loop.tries st in
        part_to code k f (omega arith) refl (in_turn code k f (statement_code cs inside place st) (others_code cs inside (place + n) rest) (length-statement cs inside place st) refl
        (statement_part st false false d u.0 (texts_front cs (statement_texts st) (block_texts rest) t) inside place (left_room inside.free (statement_slots st) (block_slots rest) f.slots room) (earlier code k f false false d inside _ _ (omega arith) g))
        (other_lines rest d u.1 (texts_back cs (statement_texts st) (block_texts rest) t) inside (place + n) two (right_room inside.free (statement_slots st) (block_slots rest) f.slots room) (earlier code k f false false d inside _ _ (omega arith) g))
        s)

    other_lines : (b : Block) (d : Bool) → IsSuitedBlock cs plain false false d b → HasTexts cs (block_texts b) → (inside : Inside) (place : ℕ) → 2 ≤ inside.free → inside.free + block_slots b ≤ f.slots → Placed code k f false false d inside (place + others_size cs inside.mark.tries inside.loop.tries b) → StandIn code k place (others_code cs inside place b) → Part code k f place (place + others_size cs inside.mark.tries inside.loop.tries b) inside.mark inside.mark
    other_lines done d u t inside place two room g s = end_of_parallel code k f cs inside place two (omega (arith, room)) s
    other_lines (line_then ln st rest) d u t inside place two room g s =
        let n = statement_size cs inside.mark.tries inside.loop.tries st in
        one_of_parallel code k f cs inside ln st rest place two (omega (arith, room))
        (statement_part st false false d u.0 (texts_front cs (statement_texts st) (block_texts rest) t) inside (place + 6) (left_room inside.free (statement_slots st) (block_slots rest) f.slots room) (earlier code k f false false d inside _ _ (omega arith) g))
        (other_lines rest d u.1 (texts_back cs (statement_texts st) (block_texts rest) t) inside (place + 6 + n) two (right_room inside.free (statement_slots st) (block_slots rest) f.slots room) (earlier code k f false false d inside _ _ (omega arith) g))
        s

    otherwise_part : (rest : Otherwise) (l r d : Bool) → IsSuitedOtherwise cs plain l r d rest → HasTexts cs (otherwise_texts rest) → (inside : Inside) (place : ℕ) → inside.free + otherwise_slots rest ≤ f.slots → Placed code k f l r d inside (place + otherwise_size cs inside.mark.tries inside.loop.tries rest) → StandIn code k place (otherwise_code cs inside place rest) → Part code k f place (place + otherwise_size cs inside.mark.tries inside.loop.tries rest) inside.mark inside.mark
    otherwise_part no_else l r d u t inside place room g s = part_to code k f (omega arith) refl (nothing code k f place inside.mark)
    otherwise_part (else_do b) l r d u t inside place room g s = block_part b l r d u t inside place room g s
    otherwise_part (elif_then ln c b rest) l r d u t inside place room g s =
        let room_b = left_room inside.free (block_slots b) (otherwise_slots rest) f.slots room in
        let room_r = right_room inside.free (block_slots b) (otherwise_slots rest) f.slots room in
        let front = texts_front cs (expression_texts c ++ block_texts b) (otherwise_texts rest) t in
        branch_part code k f cs inside c b rest place
        (value d inside g.outside (omega (arith, room_b, some_slots b)) (asked Branch c) (asked_suited cs plain d Branch c u.0) (subst (HasTexts cs) (asked_texts Branch c) (texts_front cs (expression_texts c) (block_texts b) front)) place)
        (block_part b l r d u.1 (texts_back cs (expression_texts c) (block_texts b) front) inside (then_place cs place c) room_b (earlier code k f l r d inside _ _ (omega arith) g))
        (otherwise_part rest l r d u.2 (texts_back cs (expression_texts c ++ block_texts b) (otherwise_texts rest) t) inside (else_place cs inside place c b rest) room_r (earlier code k f l r d inside _ _ (omega arith) g))
        s

    handlers_part : (handlers : Handlers) (l r d : Bool) → AreSuitedHandlers cs plain l r d handlers → HasTexts cs (handler_texts handlers) → (inside : Inside) (place end : ℕ) → inside.free + handlers_slots handlers ≤ f.slots → place + handlers_size cs inside.mark.tries inside.loop.tries handlers ≡ end → HasMark code k end inside.mark → Placed code k f l r d inside end → StandIn code k place (handlers_code cs inside place end handlers) → Part code k f place end (raised 1 inside.mark) inside.mark
    handlers_part no_handler l r d u t inside place end room e at_end g s = part_to code k f e refl (no_handler_part code k f cs inside place end s)
    handlers_part (except_then ln name b rest) l r d u t inside place end room e at_end g s =
        handler_part code k f cs inside ln name b rest place end (omega (arith, e))
        (block_part b l r d u.0 (texts_front cs (block_texts b) (handler_texts rest) t) inside (place + 5) (left_room inside.free (block_slots b) (handlers_slots rest) f.slots room) (earlier code k f l r d inside _ _ (omega (arith, e)) g))
        (handlers_part rest l r d u.1 (texts_back cs (block_texts b) (handler_texts rest) t) inside (next_handler code k f cs inside ln name b rest place end) end (right_room inside.free (block_slots b) (handlers_slots rest) f.slots room) (omega (arith, e)) at_end g)
        s
