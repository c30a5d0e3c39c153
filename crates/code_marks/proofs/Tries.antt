-- The code of a `try`, of its handlers and of a recording is marked rightly.
use Rattle.std.proofs.Common.{◌≡◌, ℕ, ◌+◌, ◌≤◌, List, [], ◌∷◌, ◌++◌, length, refl, sym, arith, length-append}
use Rattle.std.specs.Prelude.{false}
use Rattle.kern_syntax.specs.Tree.{Bytes, Block, record_as, try_do, Handlers, no_handler, except_then}
use Rattle.core_isa.specs.declared.code.Code.{Code}
use Rattle.core_isa.specs.declared.code.CodeFunction.{CodeFunction}
use Rattle.core_isa.specs.declared.code.CodeLine.{CodeLine}
use Rattle.core_isa.specs.declared.code.Mark.{Mark}
use Rattle.core_isa.specs.declared.instr.Instr.TheVariants as I
use Rattle.core_isa.specs.Marks.{HasName}
use Rattle.code_forms.specs.Lines.{line, raised, with_handler, with_recording, straight}
use Rattle.code_forms.specs.Setting as C
use Rattle.code_forms.specs.Setting.{index_of_text}
use Rattle.code_forms.specs.Sizes.{block_size, handlers_size}
use Rattle.code_forms.specs.StatementCode.{Inside, under, code_of_name, block_code, handlers_code, statement_code}
use Rattle.code_forms.proofs.StatementLengths.{length-block}
use Rattle.code_marks.proofs.Instructions.{simple, jump, test, try_to, end_try, raises, opens, saves}
use Rattle.code_marks.proofs.Parts.{HasMark, StandIn, Part, same_mark, first_lines, second_lines, stand_as, has_as, followed, part_to, one_part, straight_to, ends_part}

module _ (code : Code) (k : ℕ) (f : CodeFunction) (cs : C.Setting) (inside : Inside) where
  abbrev mark : Mark
  mark = inside.mark

  abbrev caught : Mark
  caught = with_handler mark

  abbrev recorded : Mark
  recorded = with_recording mark

  module _ (b : Block) (handlers : Handlers) (place : ℕ) where
    abbrev nb : ℕ
    nb = block_size cs (mark.tries + 1) inside.loop.tries b

    abbrev nh : ℕ
    nh = handlers_size cs mark.tries inside.loop.tries handlers

    -- where the handlers stand, and where they end
    abbrev pub handler_at : ℕ
    handler_at = place + 1 + nb + 2

    abbrev pub try_end : ℕ
    try_end = handler_at + nh

    abbrev pub try_body : List CodeLine
    try_body = block_code cs (under caught inside) (place + 1) b

    pub try_part : mark.height ≡ 0 → mark.rec ≤ mark.tries + 1 → (StandIn code k (place + 1) try_body → Part code k f (place + 1) (place + 1 + nb) caught caught) → (HasMark code k try_end mark → StandIn code k handler_at (handlers_code cs inside handler_at try_end handlers) → Part code k f handler_at try_end (raised 1 mark) mark) → StandIn code k place (statement_code cs inside place (try_do b handlers)) → Part code k f place (place + (1 + (nb + (2 + nh)))) mark mark
    try_part bare bounded body others s has =
        let t = line mark (I.Try handler_at) in
        let ends = straight caught (I.EndTry ∷ I.Jump try_end ∷ []) in
        let h = handlers_code cs inside handler_at try_end handlers in
        let lb : length (t ∷ try_body) ≡ 1 + nb = omega (arith, length-block cs (under caught inside) (place + 1) b) in
        let le : length (t ∷ try_body ++ ends) ≡ 1 + nb + 2 = omega (arith, length-append (t ∷ try_body) ends, lb) in
        let front = first_lines code k place (t ∷ try_body ++ ends) h s in
        let first = first_lines code k place (t ∷ try_body) ends front in
        let s_e = stand_as code k ends (let same : place + (1 + nb) ≡ place + 1 + nb = omega arith in same) (second_lines code k place (1 + nb) (t ∷ try_body) ends lb front) in
        let s_h = stand_as code k h (let same : place + (1 + nb + 2) ≡ handler_at = omega arith in same) (second_lines code k place (1 + nb + 2) (t ∷ try_body ++ ends) h le s) in
        let at_end : HasMark code k try_end mark = has_as code k (omega arith) refl has in
        let ph = others at_end s_h in
        let at_handler : HasMark code k handler_at (record mark { height = 1 }) = has_as code k refl (same_mark _ _ (omega (arith, bare)) refl refl) (ph at_end).0 in
        let pt = one_part code k f place mark caught (I.Try handler_at) first.0 first.1 (try_to code k f handler_at bare (omega arith) at_handler) in
        let pe : Part code k f (place + 1 + nb) (place + 1 + nb + 1 + 1) caught (raised 1 mark) = ends_part code k f (place + 1 + nb) caught (raised 1 mark) (I.EndTry ∷ []) (I.Jump try_end) s_e (end_try code k f (omega arith) bounded, tt) (jump code k f try_end (omega arith) (has_as code k refl (same_mark _ _ refl (omega arith) refl) at_end)) in
        let rest = followed code k f refl refl (body first.2) (followed code k f (omega arith) refl pe ph) in
        part_to code k f (omega arith) refl (followed code k f refl refl pt rest) has

  -- no handler is left: the exception goes on
  pub no_handler_part : (place end : ℕ) → StandIn code k place (handlers_code cs inside place end no_handler) → Part code k f place (place + 1) (raised 1 mark) mark
  no_handler_part place end s = one_part code k f place (raised 1 mark) mark I.Raise s.0 s.1 (raises code k f (omega arith))

  module _ (ln : ℕ) (name : Bytes) (b : Block) (rest : Handlers) (place end : ℕ) where
    abbrev nb' : ℕ
    nb' = block_size cs mark.tries inside.loop.tries b

    -- where the next handler stands
    abbrev pub next_handler : ℕ
    next_handler = place + 5 + nb' + 1

    pub handler_part : next_handler ≤ end → (StandIn code k (place + 5) (block_code cs inside (place + 5) b) → Part code k f (place + 5) (place + 5 + nb') mark mark) → (StandIn code k next_handler (handlers_code cs inside next_handler end rest) → Part code k f next_handler end (raised 1 mark) mark) → StandIn code k place (handlers_code cs inside place end (except_then ln name b rest)) → Part code k f place end (raised 1 mark) mark
    handler_part ahead body others s has =
        let is = I.Dup ∷ I.Const (code_of_name name) ∷ I.Eq ∷ I.JumpZero next_handler ∷ I.Pop ∷ [] in
        let head = straight (raised 1 mark) is in
        let body_lines = block_code cs inside (place + 5) b in
        let h = handlers_code cs inside next_handler end rest in
        let j = line mark (I.Jump end) in
        let lb : length (head ++ body_lines) ≡ 5 + nb' = omega (arith, length-append head body_lines, length-block cs inside (place + 5) b) in
        let front = first_lines code k place (head ++ body_lines) (j ∷ h) s in
        let s_i = first_lines code k place head body_lines front in
        let s_b = second_lines code k place 5 head body_lines refl front in
        let s_j = stand_as code k (j ∷ h) (let same : place + (5 + nb') ≡ place + 5 + nb' = omega arith in same) (second_lines code k place (5 + nb') (head ++ body_lines) (j ∷ h) lb s) in
        let ph = others s_j.2 in
        let at_next = (ph has).0 in
        let pi : Part code k f place (place + 5) (raised 1 mark) mark = straight_to code k f place (raised 1 mark) mark is s_i ((simple code k f I.Dup refl tt (omega arith), (simple code k f (I.Const (code_of_name name)) refl tt (omega arith), (simple code k f I.Eq refl tt (omega arith), (test code k f next_handler (omega arith) (omega arith) (has_as code k refl (same_mark _ _ (omega arith) refl refl) at_next), (simple code k f I.Pop refl tt (omega arith), tt))))), same_mark _ _ (omega arith) refl refl) in
        let pj = one_part code k f (place + 5 + nb') mark (raised 1 mark) (I.Jump end) s_j.0 s_j.1 (jump code k f end (omega (arith, ahead)) has) in
        followed code k f refl refl pi (followed code k f refl refl (body s_b) (followed code k f refl refl pj ph)) has

  -- a recording is opened, and saved
  pub record_part : (name : Bytes) (b : Block) (place : ℕ) → (mark.rec ≡ 0) × (f.plain ≡ false) → HasName code (index_of_text cs name) → (StandIn code k (place + 1) (block_code cs (under recorded inside) (place + 1) b) → Part code k f (place + 1) (place + 1 + block_size cs mark.tries inside.loop.tries b) recorded recorded) → StandIn code k place (statement_code cs inside place (record_as name b)) → Part code k f place (place + (1 + (block_size cs mark.tries inside.loop.tries b + 1))) mark mark
  record_part name b place outside named body s =
      let n = block_size cs mark.tries inside.loop.tries b in
      let r = line mark (I.Record (index_of_text cs name)) in
      let body_lines = block_code cs (under recorded inside) (place + 1) b in
      let save = line recorded I.Save ∷ [] in
      let lb : length (r ∷ body_lines) ≡ 1 + n = omega (arith, length-block cs (under recorded inside) (place + 1) b) in
      let first = first_lines code k place (r ∷ body_lines) save s in
      let s_s = stand_as code k save (let same : place + (1 + n) ≡ place + 1 + n = omega arith in same) (second_lines code k place (1 + n) (r ∷ body_lines) save lb s) in
      let pr = one_part code k f place mark recorded (I.Record (index_of_text cs name)) first.0 first.1 (opens code k f (index_of_text cs name) outside named) in
      let ps = one_part code k f (place + 1 + n) recorded (record recorded { rec = 0 }) I.Save s_s.0 s_s.1 (saves code k f outside.1 refl) in
      part_to code k f (omega arith) (same_mark _ _ refl refl (sym outside.0)) (followed code k f refl refl pr (followed code k f refl refl (body first.2) ps))
