-- A statement that is typed, in the grammar and spelled as tokens are has room for its code.
use Rattle.std.proofs.Common.{◌≡◌, ℕ, zero, suc, ◌+◌, ◌*◌, ◌<◌, ◌≤◌, List, [], ◌∷◌, length, Option, Some, None, refl, ap, arith}
use Rattle.std.specs.Prelude.{Bool, true, false, bytes_eq, is_some, unwrap_or, if◌then◌else◌}
use Rattle.std.proofs.lemmas.Bool.{false≢true}
use Rattle.kern_syntax.specs.Grammatical.{Deeper, IfThere, EachIs, IsOpenExpression, IsBracketedExpression, IsStatement, AreLines, AreBranches, AreHandlers}
use Rattle.kern_syntax.specs.Spellable.{IsSpellable, IfThereSpellable, EachSpellable, IsSpellableStatement, AreSpellableLines, AreSpellableBranches, AreSpellableHandlers}
use Rattle.kern_syntax.specs.Tree as T
use Rattle.kern_syntax.specs.Tree.{Bytes, Expression, Statement, pass, evaluate, assign, assign_element, augment, augment_element, assign_repeated, assign_list, if_then, while_do, for_range, parallel, sequential, record_as, try_do, Block, done, line_then, Otherwise, no_else, else_do, elif_then, Handlers, no_handler, except_then}
use Rattle.kern_calls.specs.declared.types.ValueType.{ValueType}
use Rattle.kern_calls.specs.declared.types.ValueType.TheVariants as V
use Rattle.kern_calls.specs.Calls.{look_up}
use Rattle.kern_calls.specs.Types.{Names}
use Rattle.core_isa.specs.declared.code.Mark.{Mark}
use Rattle.code_forms.specs.Lines.{raised, with_handler, with_recording}
use Rattle.code_forms.specs.Programs.{statement_slots, block_slots, otherwise_slots, handlers_slots}
use Rattle.code_forms.specs.Setting.{Setting, size_of, slots_of_names}
use Rattle.code_forms.specs.Suited.{IsSized, AreSized, IsSuited, IfThereSuited, EachSuited, IsSuitedStatement, IsSuitedBlock, IsSuitedOtherwise, AreSuitedHandlers}
use Rattle.code_ranges.specs.Fits.{SettingFits}
use Rattle.code_ranges.specs.Heights.{expression_height}
use Rattle.code_ranges.specs.Ready.{ExpressionFits}
use Rattle.code_ranges.specs.ReadyStatements.{HasSpace, FitsIfThere, EachFits, StatementFits, BlockFits, OtherwiseFits, HandlersFit}
use Rattle.code_ranges.proofs.LowHeights.{expression_low, alone_low}
use Rattle.code_ranges.proofs.Operators.{array_within}

-- names whose arrays are short
pub short_arrays : (ns : Names) (x : Bytes) (n : ℕ) → AreSized ns → look_up ns x ≡ Some (V.Array n) → n ≤ 512
short_arrays [] x n s e = absurd (false≢true (ap is_some e))
short_arrays (m ∷ ns) x n s e = by_test (bytes_eq x m.0) e (short_arrays ns x n s.1)
  where
    by_type : (t : ValueType) → IsSized t → Some t ≡ Some (V.Array n) → n ≤ 512
    by_type V.Int32 z q = let same : size_of V.Int32 ≡ n = ap (λ o. size_of (unwrap_or o V.Bool)) q in omega (arith, same)
    by_type V.Int64 z q = let same : size_of V.Int64 ≡ n = ap (λ o. size_of (unwrap_or o V.Bool)) q in omega (arith, same)
    by_type V.Bool z q = let same : size_of V.Bool ≡ n = ap (λ o. size_of (unwrap_or o V.Bool)) q in omega (arith, same)
    by_type (V.Array k) z q = let same : k ≡ n = ap (λ o. size_of (unwrap_or o V.Bool)) q in omega (arith, same, z.1)

    by_test : (b : Bool) → (if b then Some m.1 else look_up ns x) ≡ Some (V.Array n) → (look_up ns x ≡ Some (V.Array n) → n ≤ 512) → n ≤ 512
    by_test true e' k = by_type m.1 s.0 e'
    by_test false e' k = k e'

-- and so take few slots
pub few_slots : (ns : Names) → AreSized ns → slots_of_names ns ≤ 512 * length ns
few_slots [] s = omega arith
few_slots (m ∷ ns) s = omega (arith, by_type m.1 s.0, few_slots ns s.1)
  where
    by_type : (t : ValueType) → IsSized t → size_of t ≤ 512
    by_type V.Int32 z = omega arith
    by_type V.Int64 z = omega arith
    by_type V.Bool z = omega arith
    by_type (V.Array k) z = z.1

-- a block stands one deeper
one_deeper : (room : ℕ) (Inside : ℕ → Type 0) → Deeper room Inside → (r : ℕ) × (room ≡ suc r) × Inside r
one_deeper zero Inside e = absurd e
one_deeper (suc room) Inside e = (room, refl, e)

-- what a mark is under a statement, where there is so much room for blocks
pub record IsDeep (mark : Mark) (room : ℕ) : Type 0 where
  pub empty : mark.height ≡ 0
  pub handlers : mark.tries + room ≤ 15
  pub recording : mark.rec ≤ 16

deeper : (mark : Mark) (room r : ℕ) → IsDeep mark room → room ≡ suc r → IsDeep mark r
deeper mark room r m e = record { empty = m.empty; handlers = omega (arith, m.handlers, e); recording = m.recording }

recorded : (mark : Mark) (room r : ℕ) → IsDeep mark room → room ≡ suc r → IsDeep (with_recording mark) r
recorded mark room r m e = record { empty = m.empty; handlers = omega (arith, m.handlers, e); recording = omega (arith, m.handlers, e) }

handled : (mark : Mark) (room r : ℕ) → IsDeep mark room → room ≡ suc r → IsDeep (with_handler mark) r
handled mark room r m e = record { empty = m.empty; handlers = omega (arith, m.handlers, e); recording = m.recording }

pub spacious : (mark : Mark) (room free : ℕ) → IsDeep mark room → free < 49152 → HasSpace mark free
spacious mark room free m less =
    record { empty = m.empty; handlers = omega (arith, m.handlers); recording = omega (arith, m.recording); slots = omega (arith, less) }

here_fits : (mark : Mark) (room : ℕ) (e : Expression) → IsDeep mark room → IsSpellable e → expression_height e ≤ 245 → ExpressionFits mark e
here_fits mark room e m s low =
    record { spelled = s; operands = omega (arith, low, m.empty); handlers = omega (arith, m.handlers); rec = omega (arith, m.recording) }

second_fits : (mark : Mark) (room : ℕ) (e : Expression) → IsDeep mark room → IsSpellable e → expression_height e ≤ 245 → ExpressionFits (raised 1 mark) e
second_fits mark room e m s low =
    record { spelled = s; operands = omega (arith, low, m.empty); handlers = omega (arith, m.handlers); rec = omega (arith, m.recording) }

one_slot : (b : Block) → 1 ≤ block_slots b
one_slot done = omega arith
one_slot (line_then ln st rest) = omega (arith, one_slot rest)

module _ (cs : Setting) (plain : List Bytes) (sound : SettingFits cs) (sized : AreSized cs.scope.names) where
  open_low : (d : Bool) (e : Expression) → IsOpenExpression e → IsSuited cs plain d e → expression_height e ≤ 245
  open_low d e g r = expression_low cs plain sound.parameters d 16 e g r (omega arith)

  bracketed_low : (d : Bool) (e : Expression) → IsBracketedExpression e → IsSuited cs plain d e → expression_height e ≤ 245
  bracketed_low d e g r = expression_low cs plain sound.parameters d 15 e g r (omega arith)

  option_open : (d : Bool) (mark : Mark) (room : ℕ) (e : Option Expression) → IsDeep mark room → IfThereSuited cs plain d e → IfThere IsOpenExpression e → IfThereSpellable e → FitsIfThere mark e
  option_open d mark room None m r g s = tt
  option_open d mark room (Some e) m r g s = here_fits mark room e m s (open_low d e g r)

  option_bracketed : (d : Bool) (mark : Mark) (room : ℕ) (e : Option Expression) → IsDeep mark room → IfThereSuited cs plain d e → IfThere IsBracketedExpression e → IfThereSpellable e → FitsIfThere mark e
  option_bracketed d mark room None m r g s = tt
  option_bracketed d mark room (Some e) m r g s = here_fits mark room e m s (bracketed_low d e g r)

  each_fits : (d : Bool) (mark : Mark) (room : ℕ) (es : List Expression) → IsDeep mark room → EachSuited cs plain d es → EachIs IsBracketedExpression es → EachSpellable es → EachFits mark es
  each_fits d mark room [] m r g s = tt
  each_fits d mark room (e ∷ es) m r g s = (here_fits mark room e m s.0 (bracketed_low d e g.0 r.0), each_fits d mark room es m r.1 g.1 s.1)

  mutual
    pub statement_fits : (l c d : Bool) (room : ℕ) (mark : Mark) (free : ℕ) (st : Statement) → IsSuitedStatement cs plain l c d st → IsStatement room st → IsSpellableStatement st → IsDeep mark room → free + statement_slots st < 49152 → StatementFits cs mark free st
    statement_fits l c d room mark free pass r g s m less = tt
    statement_fits l c d room mark free T.break r g s m less = tt
    statement_fits l c d room mark free T.continue r g s m less = tt
    statement_fits l c d room mark free (T.return e) r g s m less = option_open d mark room e m r.1 g s
    statement_fits l c d room mark free (evaluate e) r g s m less = here_fits mark room e m s (alone_low cs plain sound.parameters d e g r)
    statement_fits l c d room mark free (assign x e) r g s m less = here_fits mark room e m s.1 (open_low d e g r.1)
    statement_fits l c d room mark free (assign_element x i e) r g s m less =
        (here_fits mark room e m s.2 (open_low d e g.1 r.3), second_fits mark room i m s.1 (bracketed_low d i g.0 r.2))
    statement_fits l c d room mark free (augment x op e) r g s m less = second_fits mark room e m s.1 (open_low d e g r.1)
    statement_fits l c d room mark free (augment_element x i op e) r g s m less =
        (here_fits mark room i m s.1 (bracketed_low d i g.0 r.2), second_fits mark room e m s.2 (open_low d e g.1 r.3))
    statement_fits l c d room mark free (assign_repeated x e n) r g s m less = here_fits mark room e m s.1 (bracketed_low d e g r.1)
    statement_fits l c d room mark free (assign_list x es) r g s m less =
        let within = array_within cs.scope.names x (length es) r.0 in
        (each_fits d mark room es m r.1 g.1 s.1, (omega (arith, within, sound.slots), omega (arith, less)))
    statement_fits l c d room mark free (if_then e b rest) r g s m less =
        let k = one_deeper room _ g.1 in
        let m' = deeper mark room k.0 m k.1 in
        (here_fits mark room e m s.0 (open_low d e g.0 r.0), block_fits l c d k.0 mark free b r.1 k.2.1 s.1 m' (omega (arith, less)), otherwise_fits l c d k.0 mark free rest r.2 k.2.2 s.2 m' (omega (arith, less)))
    statement_fits l c d room mark free (while_do e b) r g s m less =
        let k = one_deeper room _ g.1 in
        (here_fits mark room e m s.0 (open_low d e g.0 r.0), block_fits true c d k.0 mark free b r.1 k.2.1 s.1 (deeper mark room k.0 m k.1) (omega (arith, less)))
    statement_fits l c d room mark free (for_range x from to b) r g s m less =
        let k = one_deeper room _ g.2 in
        (option_bracketed d mark room from m r.1 g.0 s.1, second_fits mark room to m s.2 (bracketed_low d to g.1 r.2), spacious mark room (free + 2) m (omega (arith, less)), block_fits true c d k.0 mark (free + 2) b r.3 k.2.1 s.3 (deeper mark room k.0 m k.1) (omega (arith, less)))
    statement_fits l c d room mark free (parallel b) r g s m less =
        let k = one_deeper room _ g in
        (spacious mark room (free + 2) m (omega (arith, less)), block_fits false false d k.0 mark (free + 2) b r k.2.1 s (deeper mark room k.0 m k.1) (omega (arith, less)))
    statement_fits l c d room mark free (sequential b) r g s m less =
        let k = one_deeper room _ g in
        block_fits l c d k.0 mark free b r k.2.1 s (deeper mark room k.0 m k.1) (omega (arith, less))
    statement_fits l c d room mark free (record_as name b) r g s m less =
        let k = one_deeper room _ g in
        let m' = recorded mark room k.0 m k.1 in
        (spacious (with_recording mark) k.0 free m' (omega (arith, less)), block_fits false false true k.0 (with_recording mark) free b r.1 k.2.1 s.1 m' (omega (arith, less)))
    statement_fits l c d room mark free (try_do b handlers) r g s m less =
        let k = one_deeper room _ g in
        let m' = handled mark room k.0 m k.1 in
        (spacious (with_handler mark) k.0 free m' (omega (arith, less)), block_fits l c d k.0 (with_handler mark) free b r.0 k.2.1 s.0 m' (omega (arith, less)), handlers_fit l c d k.0 mark free handlers r.1 k.2.3 s.1 (deeper mark room k.0 m k.1) (omega (arith, less)))

    pub block_fits : (l c d : Bool) (room : ℕ) (mark : Mark) (free : ℕ) (b : Block) → IsSuitedBlock cs plain l c d b → AreLines room b → AreSpellableLines b → IsDeep mark room → free + block_slots b < 49152 → BlockFits cs mark free b
    block_fits l c d room mark free done r g s m less = tt
    block_fits l c d room mark free (line_then ln st rest) r g s m less =
        (statement_fits l c d room mark free st r.0 g.0 s.0 m (omega (arith, less)), block_fits l c d room mark free rest r.1 g.1 s.1 m (omega (arith, less)))

    pub otherwise_fits : (l c d : Bool) (room : ℕ) (mark : Mark) (free : ℕ) (rest : Otherwise) → IsSuitedOtherwise cs plain l c d rest → AreBranches room rest → AreSpellableBranches rest → IsDeep mark room → free + otherwise_slots rest < 49152 → OtherwiseFits cs mark free rest
    otherwise_fits l c d room mark free no_else r g s m less = tt
    otherwise_fits l c d room mark free (else_do b) r g s m less = block_fits l c d room mark free b r g.1 s m less
    otherwise_fits l c d room mark free (elif_then ln e b rest) r g s m less =
        (here_fits mark room e m s.0 (open_low d e g.0 r.0), block_fits l c d room mark free b r.1 g.2 s.1 m (omega (arith, less)), otherwise_fits l c d room mark free rest r.2 g.3 s.2 m (omega (arith, less)))

    pub handlers_fit : (l c d : Bool) (room : ℕ) (mark : Mark) (free : ℕ) (handlers : Handlers) → AreSuitedHandlers cs plain l c d handlers → AreHandlers room handlers → AreSpellableHandlers handlers → IsDeep mark room → free + handlers_slots handlers < 49152 → HandlersFit cs mark free handlers
    handlers_fit l c d room mark free no_handler r g s m less = tt
    handlers_fit l c d room mark free (except_then ln x b rest) r g s m less =
        (block_fits l c d room mark free b r.0 g.1 s.1 m (omega (arith, less)), handlers_fit l c d room mark free rest r.1 g.2 s.2 m (omega (arith, less)))

  -- how many slots the code of a part uses beside those of the names
  mutual
    statement_few : (l c d : Bool) (room : ℕ) (st : Statement) → IsSuitedStatement cs plain l c d st → IsStatement room st → statement_slots st ≤ 513 + 2 * room
    statement_few l c d room pass r g = omega arith
    statement_few l c d room T.break r g = omega arith
    statement_few l c d room T.continue r g = omega arith
    statement_few l c d room (T.return e) r g = omega arith
    statement_few l c d room (evaluate e) r g = omega arith
    statement_few l c d room (assign x e) r g = omega arith
    statement_few l c d room (assign_element x i e) r g = omega arith
    statement_few l c d room (augment x op e) r g = omega arith
    statement_few l c d room (augment_element x i op e) r g = omega arith
    statement_few l c d room (assign_repeated x e n) r g = omega arith
    statement_few l c d room (assign_list x es) r g = omega (arith, short_arrays cs.scope.names x (length es) sized r.0)
    statement_few l c d room (if_then e b rest) r g =
        let k = one_deeper room _ g.1 in
        omega (arith, k.1, block_few l c d k.0 b r.1 k.2.1, otherwise_few l c d k.0 rest r.2 k.2.2)
    statement_few l c d room (while_do e b) r g =
        let k = one_deeper room _ g.1 in
        omega (arith, k.1, block_few true c d k.0 b r.1 k.2.1)
    statement_few l c d room (for_range x from to b) r g =
        let k = one_deeper room _ g.2 in
        omega (arith, k.1, block_few true c d k.0 b r.3 k.2.1)
    statement_few l c d room (parallel b) r g =
        let k = one_deeper room _ g in
        omega (arith, k.1, block_few false false d k.0 b r k.2.1)
    statement_few l c d room (sequential b) r g =
        let k = one_deeper room _ g in
        omega (arith, k.1, block_few l c d k.0 b r k.2.1)
    statement_few l c d room (record_as name b) r g =
        let k = one_deeper room _ g in
        omega (arith, k.1, block_few false false true k.0 b r.1 k.2.1)
    statement_few l c d room (try_do b handlers) r g =
        let k = one_deeper room _ g in
        omega (arith, k.1, block_few l c d k.0 b r.0 k.2.1, handlers_few l c d k.0 handlers r.1 k.2.3)

    pub block_few : (l c d : Bool) (room : ℕ) (b : Block) → IsSuitedBlock cs plain l c d b → AreLines room b → block_slots b ≤ 513 + 2 * room
    block_few l c d room done r g = omega arith
    block_few l c d room (line_then ln st rest) r g = omega (arith, statement_few l c d room st r.0 g.0, block_few l c d room rest r.1 g.1)

    otherwise_few : (l c d : Bool) (room : ℕ) (rest : Otherwise) → IsSuitedOtherwise cs plain l c d rest → AreBranches room rest → otherwise_slots rest ≤ 513 + 2 * room
    otherwise_few l c d room no_else r g = omega arith
    otherwise_few l c d room (else_do b) r g = block_few l c d room b r g.1
    otherwise_few l c d room (elif_then ln e b rest) r g = omega (arith, block_few l c d room b r.1 g.2, otherwise_few l c d room rest r.2 g.3)

    handlers_few : (l c d : Bool) (room : ℕ) (handlers : Handlers) → AreSuitedHandlers cs plain l c d handlers → AreHandlers room handlers → handlers_slots handlers ≤ 513 + 2 * room
    handlers_few l c d room no_handler r g = omega arith
    handlers_few l c d room (except_then ln x b rest) r g = omega (arith, block_few l c d room b r.0 g.1, handlers_few l c d room rest r.1 g.2)
