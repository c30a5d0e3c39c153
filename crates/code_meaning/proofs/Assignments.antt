-- Assignments of names and of elements, and augmented ones.
use Rattle.std.proofs.Common.{◌≡◌, ℕ, suc, ◌+◌, ◌≤◌, List, [], ◌∷◌, ◌++◌, length, Some, refl, sym, ◌∙◌, ap, subst, arith, length-append}
use Rattle.std.specs.Prelude.{Bool, true, false, ℤ, ⊤}
use Rattle.std.proofs.lemmas.Bool.{false≢true}
use Rattle.rtio_types.specs.declared.request.Reply.{Reply}
use Rattle.rtio_types.specs.declared.request.Value.TheVariants as W
use Rattle.kern_syntax.specs.declared.statement.Augment.{Augment}
use Rattle.kern_syntax.specs.Tree.{Bytes, Expression, variable, assign, assign_element, augment, augment_element, assign_repeated}
use Rattle.kern_calls.specs.declared.types.ValueType.{ValueType}
use Rattle.kern_calls.specs.declared.types.ValueType.TheVariants as V
use Rattle.kern_calls.specs.declared.types.ValueType.TheVariants.{Int64}
use Rattle.kern_calls.specs.Calls.{look_up}
use Rattle.kern_calls.specs.Types.{type_of}
use Rattle.timeline_sem.specs.Actions.{skip, ◌>>=◌}
use Rattle.timeline_sem.specs.Expressions.{Callee, expression, write, write_element, operate}
use Rattle.timeline_sem.specs.Statements.{statement, operator_of}
use Rattle.core_isa.specs.declared.code.Code.{Code}
use Rattle.core_isa.specs.declared.code.CodeLine.{CodeLine}
use Rattle.core_isa.specs.declared.instr.Instr.{Instr}
use Rattle.core_isa.specs.declared.instr.Instr.TheVariants as I
use Rattle.code_forms.specs.Setting as C
use Rattle.code_forms.specs.ExpressionCode.{expression_code}
use Rattle.code_forms.specs.Lines.{line, raised, straight}
use Rattle.code_forms.specs.Operations.{operator_instrs, wrapping}
use Rattle.code_forms.specs.Sizes.{expression_size, statement_size}
use Rattle.code_forms.specs.StatementCode.{Inside, statement_code}
use Rattle.code_forms.specs.Texts.{expression_texts}
use Rattle.code_forms.proofs.Lengths.{length-expression}
use Rattle.code_follows.specs.Stands.{holding, Setting, Fits64}
use Rattle.code_follows.specs.Parts.{Follows, Stand, deeper, alone}
use Rattle.code_follows.proofs.Compose.{follows_bind, follows_if, follows_same}
use Rattle.code_follows.proofs.Beneath.{follows_anywhere, follows_beneath}
use Rattle.code_follows.proofs.Elements.{follows_load_at, follows_store_at, follows_fill}
use Rattle.code_follows.proofs.Flow.{follows_before, follows_forget}
use Rattle.code_follows.proofs.Instructions.{follows_quiet}
use Rattle.code_follows.proofs.Lines.{LinesStand, first_part, second_part, one_line, straight_stands}
use Rattle.code_follows.proofs.Operators.{follows_operator}
use Rattle.code_follows.proofs.Variables.{own_slot, follows_load, follows_store, follows_keep, follows_own}
use Rattle.code_forms.specs.Suited.{IsScalarName, IsArrayName, IsSuited}
use Rattle.code_meaning.proofs.Known.{TextsIn, in_front, in_back, Known, at_deeper, follows_to, follows_from}
use Rattle.code_meaning.proofs.Expressions.{scalar, unary_part, binary_part, over, follows_expression}
use Rattle.code_meaning.proofs.Places.{Placed, at_of}

-- instructions that stand one behind the other
pub stand_first : (lines : List CodeLine) (place : ℕ) (is js : List Instr) → Stand lines place (is ++ js) → Stand lines place is
stand_first lines place [] js s = tt
stand_first lines place (i ∷ is) js s = (s.0, s.1, s.2, stand_first lines (place + 1) is js s.3)

pub stand_second : (lines : List CodeLine) (place : ℕ) (is js : List Instr) → Stand lines place (is ++ js) → Stand lines (place + length is) js
stand_second lines place [] js s =
    let same : place ≡ place + 0 = omega arith in
    subst (λ p. Stand lines p js) same s
stand_second lines place (i ∷ is) js s =
    let same : place + 1 + length is ≡ place + suc (length is) = omega arith in
    subst (λ p. Stand lines p js) same (stand_second lines (place + 1) is js s.3)

module _ (given : List Reply) (code : Code) (cs : C.Setting) (plain : List Bytes) (callee : Callee) (room : ℕ) (known : Known given code cs plain callee room) (most : ℕ) (l may d : Bool) (inside : Inside) (place : ℕ) (setting : Setting) (g : Placed cs room l may d inside setting) where
  -- a name's slot and an array's length, as the code's functions and the setting say
  slot_here : (x : Bytes) (i : ℕ → Instr) (p : ℕ) (rest : List Instr) → Stand code.lines p (i (C.slot_of cs x) ∷ rest) → Stand code.lines p (i (C.slot_in setting.names x) ∷ rest)
  slot_here x i p rest s = subst (λ ns. Stand code.lines p (i (C.slot_in ns x) ∷ rest)) (sym g.names) s

  array_here : (x : Bytes) (n : ℕ) (i : ℕ → ℕ → Instr) (p : ℕ) (rest : List Instr) → IsArrayName cs x n → Stand code.lines p (i (C.slot_of cs x) (C.length_of cs x) ∷ rest) → Stand code.lines p (i (C.slot_in setting.names x) n ∷ rest)
  array_here x n i p rest is s = subst (λ ns. Stand code.lines p (i (C.slot_in ns x) n ∷ rest)) (sym g.names) (subst (λ k. Stand code.lines p (i (C.slot_of cs x) k ∷ rest)) (ap C.length_in is) s)

  found : (x : Bytes) (t : ValueType) → look_up cs.scope.names x ≡ Some t → look_up setting.names x ≡ Some t
  found x t e = subst (λ ns. look_up ns x ≡ Some t) (sym g.names) e

  module _ (limit : length setting.temporaries + 1 ≤ setting.limit) where
    pub follows_assign : (x : Bytes) (e : Expression) → IsScalarName cs x × IsSuited cs plain d e → TextsIn cs.texts (expression_texts e) → LinesStand code.lines place (statement_code cs inside place (assign x e)) → Follows given code ⊤ most setting place (place + statement_size cs inside.mark.tries inside.loop.tries (assign x e)) (holding []) (λ v. ⊤) (λ v. holding []) (statement cs.scope callee (assign x e))
    follows_assign x e r t s =
        let at = at_of cs room l may d inside setting g limit in
        follows_anywhere given code (unary_part given code cs plain callee room inside.free d known most setting inside.mark (raised 1 inside.mark) place e (I.Store (C.slot_of cs x) ∷ []) (λ v. ⊤) (λ v. holding []) (λ a. write x (W.Int a)) (λ se. follows_expression given code cs plain callee room inside.free d known most e r.1 t inside.mark place se setting at) (λ v st. follows_store given code {setting = alone setting} [] [] x r.0.0 v (found x r.0.0 r.0.1) (scalar r.0.0 r.0.2) (λ p. p.1) (slot_here x I.Store _ [] st)) s)

    pub follows_assign_repeated : (x : Bytes) (e : Expression) (n : ℕ) → IsArrayName cs x n × IsSuited cs plain d e → TextsIn cs.texts (expression_texts e) → LinesStand code.lines place (statement_code cs inside place (assign_repeated x e n)) → Follows given code ⊤ most setting place (place + statement_size cs inside.mark.tries inside.loop.tries (assign_repeated x e n)) (holding []) (λ v. ⊤) (λ v. holding []) (statement cs.scope callee (assign_repeated x e n))
    follows_assign_repeated x e n r t s =
        let at = at_of cs room l may d inside setting g limit in
        follows_anywhere given code (unary_part given code cs plain callee room inside.free d known most setting inside.mark (raised 1 inside.mark) place e (I.Fill (C.slot_of cs x) (C.length_of cs x) ∷ []) (λ v. ⊤) (λ v. holding []) (λ a. write x (W.List (Rattle.std.specs.Prelude.replicate n a))) (λ se. follows_expression given code cs plain callee room inside.free d known most e r.1 t inside.mark place se setting at) (λ v st. follows_fill given code {setting = alone setting} [] [] x n v (found x (V.Array n) r.0) (λ p. p.1) (array_here x n I.Fill _ [] r.0 st)) s)

    pub follows_assign_element : (x : Bytes) (i e : Expression) → ((n : ℕ) × IsArrayName cs x n × IsSuited cs plain d i × IsSuited cs plain d e) → TextsIn cs.texts (expression_texts e ++ expression_texts i) → LinesStand code.lines place (statement_code cs inside place (assign_element x i e)) → Follows given code ⊤ most setting place (place + statement_size cs inside.mark.tries inside.loop.tries (assign_element x i e)) (holding []) (λ v. ⊤) (λ v. holding []) (statement cs.scope callee (assign_element x i e))
    follows_assign_element x i e r t s =
        let at = at_of cs room l may d inside setting g limit in
        let n = r.0 in
        follows_anywhere given code (binary_part given code cs plain callee room inside.free d known most setting inside.mark (raised 2 inside.mark) place e i (I.StoreAt (C.slot_of cs x) (C.length_of cs x) ∷ []) (λ v. ⊤) (λ v. holding []) (λ a p. write_element x p a) (λ se. follows_expression given code cs plain callee room inside.free d known most e r.3 (in_front cs.texts (expression_texts e) (expression_texts i) t) inside.mark place se setting at) (λ si. follows_expression given code cs plain callee room inside.free d known most i r.2 (in_back cs.texts (expression_texts e) (expression_texts i) t) (raised 1 inside.mark) (place + expression_size cs e) si (deeper [] setting) (at_deeper cs room inside.free d setting at)) (λ v w st. follows_store_at given code {setting = alone setting} [] [] x n w v (found x (V.Array n) r.1) (λ p. p.0.1) (array_here x n I.StoreAt _ [] r.1 st)) s)

    pub follows_augment : (x : Bytes) (op : Augment) (e : Expression) → IsScalarName cs x × IsSuited cs plain d e → TextsIn cs.texts (expression_texts e) → LinesStand code.lines place (statement_code cs inside place (augment x op e)) → Follows given code ⊤ most setting place (place + statement_size cs inside.mark.tries inside.loop.tries (augment x op e)) (holding []) (λ v. ⊤) (λ v. holding []) (statement cs.scope callee (augment x op e))
    follows_augment x op e r t s =
        let at = at_of cs room l may d inside setting g limit in
        let ty = type_of cs.scope (variable x) in
        let ops = operator_instrs (operator_of op) ty in
        let n = expression_size cs e in
        let p = place + 1 + n in
        let load = line inside.mark (I.Load (C.slot_of cs x)) in
        let ce = expression_code cs inside.free (raised 1 inside.mark) (place + 1) e in
        let is = ops ++ I.Store (C.slot_of cs x) ∷ [] in
        let ci = straight (raised 2 inside.mark) is in
        let front = first_part code.lines place (load ∷ ce) ci s in
        let long : length (load ∷ ce) ≡ 1 + n = omega (arith, length-expression cs inside.free (raised 1 inside.mark) (place + 1) e) in
        let at_is : place + (1 + n) ≡ p = omega arith in
        let st = subst (λ q. Stand code.lines q is) at_is (straight_stands code.lines (place + (1 + n)) (raised 2 inside.mark) is (second_part code.lines place (1 + n) (load ∷ ce) ci long s)) in
        let s_ops = stand_first code.lines p ops (I.Store (C.slot_of cs x) ∷ []) st in
        let s_store = stand_second code.lines p ops (I.Store (C.slot_of cs x) ∷ []) st in
        let at_store : p + length ops ≡ p + 1 + length (wrapping ty) = omega arith in
        let s_last = subst (λ q. Stand code.lines q (I.Store (C.slot_of cs x) ∷ [])) at_store s_store in
        let s_load = slot_here x I.Load place [] (one_line code.lines place inside.mark (I.Load (C.slot_of cs x)) ce front) in
        let here = found x r.0.0 r.0.1 in
        let one = scalar r.0.0 r.0.2 in
        let fe : Follows given code ⊤ most (alone (deeper [] setting)) (place + 1) (place + 1 + n) (holding []) Fits64 (λ v. holding (v ∷ [])) (expression cs.scope callee e) = follows_expression given code cs plain callee room inside.free d known most e r.1 t (raised 1 inside.mark) (place + 1) front.1 (deeper [] setting) (at_deeper cs room inside.free d setting at) in
        let past : p + 1 + length (wrapping ty) + 1 ≡ place + (1 + (n + (length ops + 1))) = omega arith in
        let whole = follows_bind given code (follows_load given code {setting = alone setting} [] [] x r.0.0 here one s_load) (λ h. follows_bind given code (follows_if given code (λ q. tt) (over given code cs plain callee room inside.free d known most setting (place + 1) e h fe)) (λ a. follows_bind given code (follows_operator given code (operator_of op) ty [] [] h a s_ops) (λ new. follows_store given code {setting = alone setting} [] [] x r.0.0 new here one (λ q. q.1) (slot_here x I.Store _ [] s_last)))) in
        follows_to given code past (follows_anywhere given code (follows_same given code (λ st. refl) whole))

    pub follows_augment_element : length setting.temporaries + 2 ≤ setting.limit → (x : Bytes) (i : Expression) (op : Augment) (e : Expression) → ((n : ℕ) × IsArrayName cs x n × IsSuited cs plain d i × IsSuited cs plain d e) → TextsIn cs.texts (expression_texts i ++ expression_texts e) → LinesStand code.lines place (statement_code cs inside place (augment_element x i op e)) → Follows given code ⊤ most setting place (place + statement_size cs inside.mark.tries inside.loop.tries (augment_element x i op e)) (holding []) (λ v. ⊤) (λ v. holding []) (statement cs.scope callee (augment_element x i op e))
    follows_augment_element limit2 x i op e r t s =
        let at = at_of cs room l may d inside setting g limit in
        let n = r.0 in
        let here = found x (V.Array n) r.1 in
        let ni = expression_size cs i in
        let ne = expression_size cs e in
        let free = inside.free in
        let ops = operator_instrs (operator_of op) Int64 in
        let q = place + ni in
        let begins = I.Dup ∷ I.Store free ∷ I.LoadAt (C.slot_of cs x) (C.length_of cs x) ∷ [] in
        let ends = I.Load free ∷ I.StoreAt (C.slot_of cs x) (C.length_of cs x) ∷ [] in
        let p = q + 3 + ne in
        let ci = expression_code cs free inside.mark place i in
        let cb = straight (raised 1 inside.mark) begins in
        let ce = expression_code cs (free + 1) (raised 1 inside.mark) (q + 3) e in
        let cl = straight (raised 2 inside.mark) (ops ++ ends) in
        let front = first_part code.lines place (ci ++ cb ++ ce) cl s in
        let front2 = first_part code.lines place (ci ++ cb) ce front in
        let si = first_part code.lines place ci cb front2 in
        let sb = straight_stands code.lines q (raised 1 inside.mark) begins (second_part code.lines place ni ci cb (length-expression cs free inside.mark place i) front2) in
        let long : length (ci ++ cb) ≡ ni + 3 = length-append ci cb ∙ omega (arith, length-expression cs free inside.mark place i) in
        let at_e : place + (ni + 3) ≡ q + 3 = omega arith in
        let se = subst (λ k. LinesStand code.lines k ce) at_e (second_part code.lines place (ni + 3) (ci ++ cb) ce long front) in
        let longer : length (ci ++ cb ++ ce) ≡ ni + 3 + ne = length-append (ci ++ cb) ce ∙ omega (arith, long, length-expression cs (free + 1) (raised 1 inside.mark) (q + 3) e) in
        let at_p : place + (ni + 3 + ne) ≡ p = omega arith in
        let sl = subst (λ k. Stand code.lines k (ops ++ ends)) at_p (straight_stands code.lines (place + (ni + 3 + ne)) (raised 2 inside.mark) (ops ++ ends) (second_part code.lines place (ni + 3 + ne) (ci ++ cb ++ ce) cl longer s)) in
        let s_ops = stand_first code.lines p ops ends sl in
        let at_ends : p + length ops ≡ p + 1 + length (wrapping Int64) = omega arith in
        let s_ends = subst (λ k. Stand code.lines k ends) at_ends (stand_second code.lines p ops ends sl) in
        let slot : free ≡ own_slot given code (alone setting) 0 = omega (arith, g.free) in
        let s_dup : Stand code.lines q (I.Dup ∷ []) = (sb.0, sb.1, sb.2, tt) in
        let s_keep : Stand code.lines (q + 1) (I.Store (own_slot given code (alone setting) 0) ∷ []) = subst (λ k. Stand code.lines (q + 1) (I.Store k ∷ [])) slot (sb.3.0, sb.3.1, sb.3.2, tt) in
        let s_load = array_here x n I.LoadAt (q + 1 + 1) [] r.1 sb.3.3 in
        let z = p + 1 + length (wrapping Int64) in
        let s_own : Stand code.lines z (I.Load (own_slot given code (alone setting) 0) ∷ []) = subst (λ k. Stand code.lines z (I.Load k ∷ [])) slot (s_ends.0, s_ends.1, s_ends.2, tt) in
        let s_store = array_here x n I.StoreAt (z + 1) [] r.1 s_ends.3 in
        let fi : Follows given code ⊤ most (alone setting) place q (holding []) Fits64 (λ v. holding (v ∷ [])) (expression cs.scope callee i) = follows_expression given code cs plain callee room free d known most i r.2 (in_front cs.texts (expression_texts i) (expression_texts e) t) inside.mark place si setting at in
        let three : q + 1 + 1 + 1 ≡ q + 3 = omega arith in
        let fe : (a : ℤ) → Follows given code ⊤ most (alone (deeper (a ∷ []) setting)) (q + 3) (q + 3 + ne) (holding []) Fits64 (λ v. holding (v ∷ [])) (expression cs.scope callee e) = λ a. follows_expression given code cs plain callee room (free + 1) d known most e r.3 (in_back cs.texts (expression_texts i) (expression_texts e) t) (raised 1 inside.mark) (q + 3) se (deeper (a ∷ []) setting) (record { names = g.names; free = omega (arith, g.free, length-append setting.temporaries (a ∷ [])); limit = omega (arith, limit2, length-append setting.temporaries (a ∷ [])); room = g.room; outside = g.outside }) in
        let fe' : (a held : ℤ) → Follows given code ⊤ most (alone setting) (q + 1 + 1 + 1) p (record { operands = held ∷ []; temporaries = a ∷ [] }) Fits64 (λ v. record { operands = v ∷ held ∷ []; temporaries = a ∷ [] }) (expression cs.scope callee e) = λ a held. follows_from given code (sym three) (follows_beneath given code {setting = alone setting} (record { operands = held ∷ []; temporaries = a ∷ [] }) (tt, λ e. absurd (false≢true e)) (fe a)) in
        let dup : (a : ℤ) → Follows given code (⊤ × Fits64 a) most (alone setting) q (q + 1) (holding (a ∷ [])) (λ v. ⊤) (λ v. holding (a ∷ a ∷ [])) skip = λ a. follows_quiet given code {results = λ v. a ∷ a ∷ []} I.Dup s_dup tt (λ p. tt) (λ around s free count. refl) in
        let last : (a held b : ℤ) → Follows given code (((((⊤ × Fits64 a) × ⊤) × ⊤) × Fits64 held) × Fits64 b) most (alone setting) p (z + 1 + 1) (record { operands = b ∷ held ∷ []; temporaries = a ∷ [] }) (λ v. ⊤) (λ v. holding []) (operate (operator_of op) Int64 held b >>= λ new. write_element x a new) = λ a held b. follows_bind given code (follows_operator given code (operator_of op) Int64 [] (a ∷ []) held b s_ops) (λ new. follows_before given code a (follows_own given code {setting = alone setting} (new ∷ []) (a ∷ []) 0 a refl (λ w. w.0.0.0.0.0.1) s_own) (follows_forget given code (follows_store_at given code {setting = alone setting} [] (a ∷ []) x n a new here (λ w. w.0.1) s_store))) in
        let past : z + 1 + 1 ≡ place + (ni + (3 + (ne + 3))) = omega arith in
        let whole = follows_bind given code fi (λ a. follows_before given code tt (dup a) (follows_before given code tt (follows_keep given code {setting = alone setting} (a ∷ []) [] a (omega (arith, limit)) s_keep) (follows_bind given code (follows_load_at given code {setting = alone setting} [] (a ∷ []) x n a here s_load) (λ held. follows_bind given code (follows_if given code (λ w. tt) (fe' a held)) (last a held))))) in
        follows_to given code past (follows_anywhere given code whole)
