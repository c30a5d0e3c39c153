-- The code of every statement does what the statement means, and leaves nothing on the operands.
use Rattle.std.proofs.Common.{◌≡◌, ℕ, ◌+◌, ◌≤◌, List, [], ◌∷◌, ◌++◌, length, arith, length-append}
use Rattle.std.specs.Prelude.{Bool, true, false, ⊤}
use Rattle.rtio_types.specs.declared.request.Reply.{Reply}
use Rattle.kern_syntax.specs.Tree as T
use Rattle.kern_syntax.specs.Tree.{Bytes, Statement, pass, assign, assign_element, augment, augment_element, assign_repeated, assign_list, evaluate, while_do, for_range, sequential, parallel, record_as, try_do, if_then, Block, done, line_then, Otherwise, no_else, else_do, elif_then, Handlers, no_handler, except_then}
use Rattle.timeline_sem.specs.Actions.{Action}
use Rattle.timeline_sem.specs.Expressions.{Callee}
use Rattle.timeline_sem.specs.Statements.{statement, block, handler, otherwise}
use Rattle.core_isa.specs.declared.code.Code.{Code}
use Rattle.core_isa.specs.declared.instr.Instr.TheVariants as I
use Rattle.code_forms.specs.Setting as C
use Rattle.code_forms.specs.Lines.{raised}
use Rattle.code_forms.specs.Sizes.{statement_size, block_size, otherwise_size}
use Rattle.code_forms.specs.StatementCode.{Inside, keeping, statement_code, block_code, parallel_code, others_code, handlers_code, otherwise_code}
use Rattle.code_forms.specs.Texts.{expression_texts, option_texts, statement_texts, block_texts, otherwise_texts, handler_texts}
use Rattle.code_forms.proofs.StatementLengths.{length-statement}
use Rattle.code_follows.specs.Stands.{holding, Setting}
use Rattle.code_follows.specs.Parts.{Follows, deeper}
use Rattle.code_follows.proofs.Compose.{follows_then}
use Rattle.code_follows.proofs.Beneath.{follows_anywhere}
use Rattle.code_follows.proofs.Lines.{LinesStand, first_part, second_part, one_line}
use Rattle.rtio_types.specs.declared.outcome.Exc.{Exc}
use Rattle.core_isa.specs.Machine.{code_of}
use Rattle.code_forms.specs.Programs.{statement_slots, block_slots, otherwise_slots, handlers_slots}
use Rattle.code_follows.proofs.Choices.{follows_raise}
use Rattle.code_follows.proofs.Flow.{follows_skip}
use Rattle.code_follows.proofs.Loops.{body_setting}
use Rattle.code_follows.proofs.Records.{in_record}
use Rattle.code_follows.proofs.Tries.{in_try}
use Rattle.code_forms.specs.Suited.{IsSuitedStatement, IsSuitedBlock, IsSuitedOtherwise, AreSuitedHandlers}
use Rattle.code_meaning.proofs.Known.{TextsIn, in_front, in_back, Known, follows_to}
use Rattle.code_meaning.proofs.Places.{Placed, at_of, placed_loop, placed_for, placed_record, placed_try, placed_parallel, outside_of}
use Rattle.code_meaning.proofs.Effects.{follows_effect}
use Rattle.code_meaning.proofs.Assignments.{follows_assign, follows_assign_repeated, follows_assign_element, follows_augment, follows_augment_element}
use Rattle.code_meaning.proofs.ArrayAssignments.{follows_assign_list}
use Rattle.code_meaning.proofs.Returns.{follows_return}
use Rattle.code_meaning.proofs.ForRanges.{follows_for}
use Rattle.code_meaning.proofs.WhileLoops.{follows_while_do}
use Rattle.code_meaning.proofs.Recordings.{follows_record_as}
use Rattle.code_meaning.proofs.LoopExits.{follows_break_here, follows_continue_here}
use Rattle.code_meaning.proofs.TryBlocks.{follows_try_do}
use Rattle.code_meaning.proofs.HandlerBranches.{follows_except}
use Rattle.code_meaning.proofs.ParallelBlocks.{InOthers, InParallel, follows_parallel_do, follows_none, follows_first, follows_no_more, follows_line}
use Rattle.code_meaning.proofs.Branches.{follows_branches}

-- a block uses a free slot at least
one_slot : (b : Block) → 1 ≤ block_slots b
one_slot done = omega arith
one_slot (line_then ln st rest) = omega (arith, one_slot rest)

module _ (given : List Reply) (code : Code) (cs : C.Setting) (plain : List Bytes) (callee : Callee) (room : ℕ) (known : Known given code cs plain callee room) where
  -- what is claimed of a statement, of a block, of branches and of handlers
  abbrev pub Claim : (most : ℕ) (setting : Setting) (place size : ℕ) → Action ⊤ → Type 0
  Claim most setting place size action = Follows given code ⊤ most setting place (place + size) (holding []) (λ v. ⊤) (λ v. holding []) action

  mutual
    pub follows_statement : (st : Statement) (l may d : Bool) → IsSuitedStatement cs plain l may d st → TextsIn cs.texts (statement_texts st) → (inside : Inside) (place : ℕ) → LinesStand code.lines place (statement_code cs inside place st) → (most : ℕ) (setting : Setting) → Placed cs room l may d inside setting → length setting.temporaries + statement_slots st ≤ setting.limit → Claim most setting place (statement_size cs inside.mark.tries inside.loop.tries st) (statement cs.scope callee st)
    follows_statement pass l may d r t inside place s most setting g limit = follows_to given code (omega arith) (follows_skip given code)
    follows_statement T.break l may d r t inside place s most setting g limit = follows_break_here given code cs plain callee room known most l may d inside place setting g r s
    follows_statement T.continue l may d r t inside place s most setting g limit = follows_continue_here given code cs plain callee room known most l may d inside place setting g r s
    follows_statement (T.return e) l may d r t inside place s most setting g limit = follows_return given code cs plain callee room known most l may d inside place setting g e r t limit s
    follows_statement (evaluate e) l may d r t inside place s most setting g limit =
        follows_anywhere given code (follows_effect given code cs plain callee room inside.free d known most e r t inside.mark place s setting (at_of cs room l may d inside setting g limit))
    follows_statement (assign x e) l may d r t inside place s most setting g limit = follows_assign given code cs plain callee room known most l may d inside place setting g limit x e r t s
    follows_statement (assign_element x i e) l may d r t inside place s most setting g limit = follows_assign_element given code cs plain callee room known most l may d inside place setting g limit x i e r t s
    follows_statement (augment x op e) l may d r t inside place s most setting g limit = follows_augment given code cs plain callee room known most l may d inside place setting g limit x op e r t s
    follows_statement (augment_element x i op e) l may d r t inside place s most setting g limit =
        follows_augment_element given code cs plain callee room known most l may d inside place setting g (omega (arith, limit)) limit x i op e r t s
    follows_statement (assign_repeated x e n) l may d r t inside place s most setting g limit = follows_assign_repeated given code cs plain callee room known most l may d inside place setting g limit x e n r t s
    follows_statement (assign_list x es) l may d r t inside place s most setting g limit = follows_assign_list given code cs plain callee room known most d l may inside place setting g x es limit r t s
    follows_statement (if_then c b rest) l may d r t inside place s most setting g limit =
        let tcb = in_front cs.texts (expression_texts c ++ block_texts b) (otherwise_texts rest) t in
        let tr = in_back cs.texts (expression_texts c ++ block_texts b) (otherwise_texts rest) t in
        follows_branches given code cs plain callee room known d c b r.0 (in_front cs.texts (expression_texts c) (block_texts b) tcb) inside place most setting (at_of cs room l may d inside setting g (omega (arith, limit, one_slot b))) (λ p lines. follows_block b l may d r.1 (in_back cs.texts (expression_texts c) (block_texts b) tcb) inside p lines most setting g (omega (arith, limit))) rest s (λ p lines. follows_otherwise rest l may d r.2 tr inside p lines most setting g (omega (arith, limit)))
    follows_statement (while_do c b) l may d r t inside place s most setting g limit =
        follows_while_do given code cs plain callee room known most l may d inside place setting g c b r.0 (in_back cs.texts (block_texts b) (expression_texts c) t) (omega (arith, limit, one_slot b)) (λ k again past p lines. follows_block b true may d r.1 (in_front cs.texts (block_texts b) (expression_texts c) t) _ p lines k (body_setting setting [] again past) (placed_loop cs room l may d inside setting again past g) (omega (arith, limit, length-append setting.temporaries []))) s
    follows_statement (for_range x from to b) l may d r t inside place s most setting g limit =
        let tft = in_front cs.texts (option_texts from ++ expression_texts to) (block_texts b) t in
        let tb = in_back cs.texts (option_texts from ++ expression_texts to) (block_texts b) t in
        follows_for given code cs plain callee room known most l may d inside place setting g x from to b r.0 r.1 r.2 (in_front cs.texts (option_texts from) (expression_texts to) tft) (in_back cs.texts (option_texts from) (expression_texts to) tft) (omega (arith, limit, one_slot b)) (λ k i e again past p lines. follows_block b true may d r.3 tb _ p lines k (body_setting setting (i ∷ e ∷ []) again past) (placed_for cs room l may d inside setting again past i e g) (omega (arith, limit, length-append setting.temporaries (i ∷ e ∷ [])))) s
    follows_statement (parallel b) l may d r t inside place s most setting g limit =
        follows_parallel_do given code cs plain callee room known most l may d inside place setting g b (omega (arith, limit)) (λ p lines. follows_all b l may d r t inside p lines most setting g (omega (arith, limit))) s
    follows_statement (sequential b) l may d r t inside place s most setting g limit = follows_block b l may d r t inside place s most setting g limit
    follows_statement (record_as name b) l may d r t inside place s most setting g limit =
        follows_record_as given code cs plain callee room known most l may d inside place setting g name b (outside_of cs room l may d inside setting g r.0) (known.named name t.0) (λ lines. follows_block b false false true r.1 t.1 _ (place + 1) lines most (in_record setting) (placed_record cs room l may d inside setting g) limit) s
    follows_statement (try_do b handlers) l may d r t inside place s most setting g limit =
        follows_try_do given code cs plain callee room known most l may d inside place setting g b handlers (λ lines. follows_block b l may d r.0 (in_front cs.texts (block_texts b) (handler_texts handlers) t) _ (place + 1) lines most (in_try setting) (placed_try cs room l may d inside setting g) (omega (arith, limit))) (λ p end lines x. follows_handlers handlers l may d r.1 (in_back cs.texts (block_texts b) (handler_texts handlers) t) inside p end lines x most setting g (omega (arith, limit))) s

    pub follows_block : (b : Block) (l may d : Bool) → IsSuitedBlock cs plain l may d b → TextsIn cs.texts (block_texts b) → (inside : Inside) (place : ℕ) → LinesStand code.lines place (block_code cs inside place b) → (most : ℕ) (setting : Setting) → Placed cs room l may d inside setting → length setting.temporaries + block_slots b ≤ setting.limit → Claim most setting place (block_size cs inside.mark.tries inside.loop.tries b) (block cs.scope callee b)
    follows_block done l may d r t inside place s most setting g limit = follows_to given code (omega arith) (follows_skip given code)
    follows_block (line_then ln st rest) l may d r t inside place s most setting g limit =
        let n = statement_size cs inside.mark.tries inside.loop.tries st in
        let m = block_size cs inside.mark.tries inside.loop.tries rest in
        let a = statement_code cs inside place st in
        let b = block_code cs inside (place + n) rest in
        let past : place + n + m ≡ place + (n + m) = omega arith in
        follows_to given code past (follows_then given code (follows_statement st l may d r.0 (in_front cs.texts (statement_texts st) (block_texts rest) t) inside place (first_part code.lines place a b s) most setting g (omega (arith, limit))) (follows_block rest l may d r.1 (in_back cs.texts (statement_texts st) (block_texts rest) t) inside (place + n) (second_part code.lines place n a b (length-statement cs inside place st) s) most setting g (omega (arith, limit))))

    pub follows_all : (b : Block) (l may d : Bool) → IsSuitedBlock cs plain false false d b → TextsIn cs.texts (block_texts b) → (inside : Inside) (place : ℕ) → LinesStand code.lines place (parallel_code cs (keeping 2 inside) place b) → (most : ℕ) (setting : Setting) (g : Placed cs room l may d inside setting) → length setting.temporaries + (2 + block_slots b) ≤ setting.limit → InParallel given code cs plain callee room known most l may d inside place setting g place b
    follows_all done l may d r t inside place s most setting g limit = follows_none given code cs plain callee room known most l may d inside place setting g place
    follows_all (line_then ln st rest) l may d r t inside place s most setting g limit =
        follows_first given code cs plain callee room known most l may d inside place setting g ln st rest (λ a b p lines. follows_statement st false false d r.0 (in_front cs.texts (statement_texts st) (block_texts rest) t) (keeping 2 inside) p lines most (deeper (a ∷ b ∷ []) setting) (placed_parallel cs room l may d inside setting a b g) (omega (arith, limit, length-append setting.temporaries (a ∷ b ∷ [])))) (λ p lines. follows_others rest l may d r.1 (in_back cs.texts (statement_texts st) (block_texts rest) t) inside p lines most setting g (omega (arith, limit))) place s

    pub follows_others : (b : Block) (l may d : Bool) → IsSuitedBlock cs plain false false d b → TextsIn cs.texts (block_texts b) → (inside : Inside) (place : ℕ) → LinesStand code.lines place (others_code cs (keeping 2 inside) place b) → (most : ℕ) (setting : Setting) (g : Placed cs room l may d inside setting) → length setting.temporaries + (2 + block_slots b) ≤ setting.limit → InOthers given code cs plain callee room known most l may d inside place setting g place b
    follows_others done l may d r t inside place s most setting g limit = λ start greatest f h. follows_no_more given code cs plain callee room known most l may d inside place setting g place s start start greatest h
    follows_others (line_then ln st rest) l may d r t inside place s most setting g limit =
        follows_line given code cs plain callee room known most l may d inside place setting g ln st rest (λ a b p lines. follows_statement st false false d r.0 (in_front cs.texts (statement_texts st) (block_texts rest) t) (keeping 2 inside) p lines most (deeper (a ∷ b ∷ []) setting) (placed_parallel cs room l may d inside setting a b g) (omega (arith, limit, length-append setting.temporaries (a ∷ b ∷ [])))) (λ p lines. follows_others rest l may d r.1 (in_back cs.texts (statement_texts st) (block_texts rest) t) inside p lines most setting g (omega (arith, limit))) place s

    pub follows_otherwise : (rest : Otherwise) (l may d : Bool) → IsSuitedOtherwise cs plain l may d rest → TextsIn cs.texts (otherwise_texts rest) → (inside : Inside) (place : ℕ) → LinesStand code.lines place (otherwise_code cs inside place rest) → (most : ℕ) (setting : Setting) → Placed cs room l may d inside setting → length setting.temporaries + otherwise_slots rest ≤ setting.limit → Claim most setting place (otherwise_size cs inside.mark.tries inside.loop.tries rest) (otherwise cs.scope callee rest)
    follows_otherwise no_else l may d r t inside place s most setting g limit = follows_to given code (omega arith) (follows_skip given code)
    follows_otherwise (else_do b) l may d r t inside place s most setting g limit = follows_block b l may d r t inside place s most setting g limit
    follows_otherwise (elif_then ln c b rest) l may d r t inside place s most setting g limit =
        let tcb = in_front cs.texts (expression_texts c ++ block_texts b) (otherwise_texts rest) t in
        let tr = in_back cs.texts (expression_texts c ++ block_texts b) (otherwise_texts rest) t in
        follows_branches given code cs plain callee room known d c b r.0 (in_front cs.texts (expression_texts c) (block_texts b) tcb) inside place most setting (at_of cs room l may d inside setting g (omega (arith, limit, one_slot b))) (λ p lines. follows_block b l may d r.1 (in_back cs.texts (expression_texts c) (block_texts b) tcb) inside p lines most setting g (omega (arith, limit))) rest s (λ p lines. follows_otherwise rest l may d r.2 tr inside p lines most setting g (omega (arith, limit)))

    pub follows_handlers : (handlers : Handlers) (l may d : Bool) → AreSuitedHandlers cs plain l may d handlers → TextsIn cs.texts (handler_texts handlers) → (inside : Inside) (place end : ℕ) → LinesStand code.lines place (handlers_code cs inside place end handlers) → (x : Exc) (most : ℕ) (setting : Setting) → Placed cs room l may d inside setting → length setting.temporaries + handlers_slots handlers ≤ setting.limit → Follows given code ⊤ most setting place end (holding (code_of x ∷ [])) (λ v. ⊤) (λ v. holding []) (handler cs.scope callee handlers x)
    follows_handlers no_handler l may d r t inside place end s x most setting g limit =
        follows_raise given code x (one_line code.lines place (raised 1 inside.mark) I.Raise [] s)
    follows_handlers (except_then ln name b rest) l may d r t inside place end s x most setting g limit =
        follows_except given code cs plain callee room known most l may d inside place setting g ln name b rest end x (λ p lines. follows_block b l may d r.0 (in_front cs.texts (block_texts b) (handler_texts rest) t) inside p lines most setting g (omega (arith, limit))) (λ p lines. follows_handlers rest l may d r.1 (in_back cs.texts (block_texts b) (handler_texts rest) t) inside p end lines x most setting g (omega (arith, limit))) s
