-- The code of assignments is marked rightly.
use Rattle.std.proofs.Common.{◌≡◌, ℕ, zero, suc, ◌+◌, ◌-◌, ◌*◌, ◌<◌, ◌≤◌, List, [], ◌∷◌, ◌++◌, length, refl, ◌∙◌, ap, arith, length-append}
use Rattle.std.specs.Prelude.{Bool, true}
use Rattle.std.proofs.lemmas.Bool.{false≢true}
use Rattle.kern_syntax.specs.declared.statement.Augment.{Augment}
use Rattle.kern_syntax.specs.Tree.{Bytes, Expression, variable, assign, assign_element, augment, augment_element, assign_repeated, assign_list}
use Rattle.kern_calls.specs.declared.types.ValueType.{ValueType}
use Rattle.kern_calls.specs.declared.types.ValueType.TheVariants as V
use Rattle.kern_calls.specs.declared.types.ValueType.TheVariants.{Int64}
use Rattle.kern_calls.specs.Types.{type_of}
use Rattle.timeline_sem.specs.Statements.{operator_of}
use Rattle.core_isa.specs.declared.code.Code.{Code}
use Rattle.core_isa.specs.declared.code.CodeFunction.{CodeFunction}
use Rattle.core_isa.specs.declared.code.Mark.{Mark}
use Rattle.core_isa.specs.declared.instr.Instr.TheVariants as I
use Rattle.core_isa.specs.Marks.{after}
use Rattle.code_forms.specs.Lines.{line, raised, straight}
use Rattle.code_forms.specs.Operations.{operator_instrs}
use Rattle.code_forms.specs.Setting as C
use Rattle.code_forms.specs.Setting.{size_of, slot_of, length_in, length_of}
use Rattle.code_forms.specs.Sizes.{expression_size, stored_size, statement_size}
use Rattle.code_forms.specs.StatementCode.{Inside, keeping, moved, element_slot, value_code, second_code, stored_code, statement_code}
use Rattle.code_forms.specs.Suited.{is_scalar, IsScalarName, IsArrayName, IsSuited, EachSuited}
use Rattle.code_forms.specs.Texts.{expression_texts, list_texts}
use Rattle.code_forms.proofs.Lengths.{length-expression}
use Rattle.code_forms.proofs.StatementLengths.{length-moved, length-stored}
use Rattle.code_marks.proofs.Expressions.{one_operand, two_operands, expression_part}
use Rattle.code_marks.proofs.Held.{Held, IsOutside, HasTexts, in_front as texts_front, in_back as texts_back, has_array, has_slot}
use Rattle.code_marks.proofs.Instructions.{simple}
use Rattle.code_marks.proofs.Operators.{operates}
use Rattle.code_marks.proofs.Parts.{StandIn, Part, Gives, same_mark, nothing, part_to, part_from, straight_to, gives_then, in_turn, in_front}

scalar_size : (t : ValueType) → is_scalar t ≡ true → 1 ≤ size_of t
scalar_size V.Int32 s = omega arith
scalar_size V.Int64 s = omega arith
scalar_size V.Bool s = omega arith
scalar_size (V.Array n) s = absurd (false≢true s)

-- the slot of a name that is no array
pub scalar_slot : (code : Code) (f : CodeFunction) (cs : C.Setting) (plain : List Bytes) → Held code f cs plain → (x : Bytes) → IsScalarName cs x → slot_of cs x < f.slots
scalar_slot code f cs plain held x is = has_slot code f cs plain held x is.0 is.1 (scalar_size is.0 is.2)

-- an element's slot is there where the free one and its own are
element_below : (left free own slots : ℕ) → free < slots → own < slots → element_slot left free own < slots
element_below zero free own slots f o = o
element_below (suc n) free own slots f o = f

module _ (code : Code) (k : ℕ) (f : CodeFunction) (cs : C.Setting) (plain : List Bytes) (held : Held code f cs plain) (d : Bool) where
  -- numbers go from some slots to others
  moves : (n from to place : ℕ) (mark : Mark) → from + n ≤ f.slots → to + n ≤ f.slots → Gives code k f place mark (moved n from to) mark
  moves zero from to place mark less more = (tt, refl)
  moves (suc n) from to place mark less more =
      let r = moves n (from + 1) (to + 1) (place + 1 + 1) (after (after mark 0 1) 1 0) (omega (arith, less)) (omega (arith, more)) in
      ((simple code k f (I.Load from) refl (omega (arith, less)) (omega arith), (simple code k f (I.Store to) refl (omega (arith, more)) (omega arith), r.0)), r.1 ∙ same_mark _ _ (omega arith) refl refl)

  module _ (inside : Inside) (o : IsOutside f d inside.mark) (room : inside.free + 1 ≤ f.slots) (place : ℕ) where
    abbrev mark : Mark
    mark = inside.mark

    value : (e : Expression) → IsSuited cs plain d e → HasTexts cs (expression_texts e) → (p : ℕ) → StandIn code k p (value_code cs inside p e) → Part code k f p (p + expression_size cs e) mark (raised 1 mark)
    value e r t p s = expression_part code k f cs plain held inside.free room d e r t mark o p s

    second : (e : Expression) → IsSuited cs plain d e → HasTexts cs (expression_texts e) → (p : ℕ) → StandIn code k p (second_code cs inside p e) → Part code k f p (p + expression_size cs e) (raised 1 mark) (raised 1 (raised 1 mark))
    second e r t p s = expression_part code k f cs plain held inside.free room d e r t (raised 1 mark) o p s

    pub assign_part : (x : Bytes) (e : Expression) → IsScalarName cs x × IsSuited cs plain d e → HasTexts cs (expression_texts e) → StandIn code k place (statement_code cs inside place (assign x e)) → Part code k f place (place + (expression_size cs e + 1)) mark mark
    assign_part x e r t s =
        one_operand code k f cs plain held inside.free room d e place mark mark (I.Store (slot_of cs x) ∷ []) (value e r.1 t place) ((simple code k f (I.Store (slot_of cs x)) refl (scalar_slot code f cs plain held x r.0) (omega arith), tt), same_mark _ _ (omega arith) refl refl) s

    pub assign_repeated_part : (x : Bytes) (e : Expression) (n : ℕ) → IsArrayName cs x n × IsSuited cs plain d e → HasTexts cs (expression_texts e) → StandIn code k place (statement_code cs inside place (assign_repeated x e n)) → Part code k f place (place + (expression_size cs e + 1)) mark mark
    assign_repeated_part x e n r t s =
        one_operand code k f cs plain held inside.free room d e place mark mark (I.Fill (slot_of cs x) (length_of cs x) ∷ []) (value e r.1 t place) ((simple code k f (I.Fill (slot_of cs x) (length_of cs x)) refl (has_array code f cs plain held x n r.0) (omega arith), tt), same_mark _ _ (omega arith) refl refl) s

    pub assign_element_part : (x : Bytes) (i e : Expression) → ((n : ℕ) × IsArrayName cs x n × IsSuited cs plain d i × IsSuited cs plain d e) → HasTexts cs (expression_texts e ++ expression_texts i) → StandIn code k place (statement_code cs inside place (assign_element x i e)) → Part code k f place (place + (expression_size cs e + (expression_size cs i + 1))) mark mark
    assign_element_part x i e r t s =
        two_operands code k f cs plain held inside.free room d e i place mark mark (I.StoreAt (slot_of cs x) (length_of cs x) ∷ []) (value e r.3 (texts_front cs (expression_texts e) (expression_texts i) t) place) (second i r.2 (texts_back cs (expression_texts e) (expression_texts i) t) (place + expression_size cs e)) ((simple code k f (I.StoreAt (slot_of cs x) (length_of cs x)) refl (has_array code f cs plain held x r.0 r.1) (omega arith), tt), same_mark _ _ (omega arith) refl refl) s

    pub augment_part : (x : Bytes) (op : Augment) (e : Expression) → IsScalarName cs x × IsSuited cs plain d e → HasTexts cs (expression_texts e) → StandIn code k place (statement_code cs inside place (augment x op e)) → Part code k f place (place + statement_size cs mark.tries inside.loop.tries (augment x op e)) mark mark
    augment_part x op e r t s =
        let is = operator_instrs (operator_of op) (type_of cs.scope (variable x)) in
        let store = I.Store (slot_of cs x) ∷ [] in
        let slot = scalar_slot code f cs plain held x r.0 in
        let n = expression_size cs e in
        let load = line mark (I.Load (slot_of cs x)) in
        let b = second_code cs inside (place + 1) e in
        let c = straight (raised 2 mark) (is ++ store) in
        let long : length (load ∷ b) ≡ 1 + n = omega (arith, length-expression cs inside.free (raised 1 mark) (place + 1) e) in
        let more : length (is ++ store) ≡ length is + 1 = length-append is store in
        let p = place + 1 + n in
        let done = operates code k f (operator_of op) (type_of cs.scope (variable x)) p (raised 2 mark) (omega arith) in
        let kept : Gives code k f (p + length is) (after (raised 2 mark) 2 1) store mark = ((simple code k f (I.Store (slot_of cs x)) refl slot (omega arith), tt), same_mark _ _ (omega arith) refl refl) in
        let all = gives_then code k f p (raised 2 mark) (after (raised 2 mark) 2 1) mark is store done kept in
        let two : raised 1 (raised 1 mark) ≡ raised 2 mark = same_mark _ _ (omega arith) refl refl in
        let first : StandIn code k place (load ∷ b) → Part code k f place p mark (raised 2 mark) = λ s'. part_to code k f refl two (in_front code k f mark (I.Load (slot_of cs x)) b (simple code k f (I.Load (slot_of cs x)) refl slot (omega arith)) (λ s''. part_from code k f refl (same_mark _ _ (omega arith) refl refl) (second e r.1 t (place + 1) s'')) s') in
        part_to code k f (omega (arith, more)) refl (in_turn code k f (load ∷ b) c long (omega arith) first (λ s'. straight_to code k f p (raised 2 mark) mark (is ++ store) s' all) s)

    pub augment_element_part : inside.free + 2 ≤ f.slots → (x : Bytes) (i : Expression) (op : Augment) (e : Expression) → ((n : ℕ) × IsArrayName cs x n × IsSuited cs plain d i × IsSuited cs plain d e) → HasTexts cs (expression_texts i ++ expression_texts e) → StandIn code k place (statement_code cs inside place (augment_element x i op e)) → Part code k f place (place + (expression_size cs i + (3 + (expression_size cs e + 3)))) mark mark
    augment_element_part more x i op e r t s =
        let n = expression_size cs i in
        let m = expression_size cs e in
        let array = has_array code f cs plain held x r.0 r.1 in
        let begins = I.Dup ∷ I.Store inside.free ∷ I.LoadAt (slot_of cs x) (length_of cs x) ∷ [] in
        let is = operator_instrs (operator_of op) Int64 in
        let ends = I.Load inside.free ∷ I.StoreAt (slot_of cs x) (length_of cs x) ∷ [] in
        let a = value_code cs inside place i in
        let b = straight (raised 1 mark) begins in
        let c = second_code cs (keeping 1 inside) (place + n + 3) e in
        let c' = straight (raised 2 mark) (is ++ ends) in
        let la : length a ≡ n = length-expression cs inside.free mark place i in
        let lb : length (a ++ b) ≡ n + 3 = omega (arith, length-append a b, la) in
        let lc : length (a ++ b ++ c) ≡ n + 3 + m = omega (arith, length-append (a ++ b) c, lb, length-expression cs (inside.free + 1) (raised 1 mark) (place + n + 3) e) in
        let le : length (is ++ ends) ≡ 3 = length-append is ends in
        let p = place + n + 3 + m in
        let pb : StandIn code k (place + n) b → Part code k f (place + n) (place + n + 3) (raised 1 mark) (raised 1 mark) = λ s'. straight_to code k f (place + n) (raised 1 mark) (raised 1 mark) begins s' ((simple code k f I.Dup refl tt (omega arith), (simple code k f (I.Store inside.free) refl (omega (arith, room)) (omega arith), (simple code k f (I.LoadAt (slot_of cs x) (length_of cs x)) refl array (omega arith), tt))), same_mark _ _ (omega arith) refl refl) in
        let two : raised 1 (raised 1 mark) ≡ raised 2 mark = same_mark _ _ (omega arith) refl refl in
        let pc : StandIn code k (place + n + 3) c → Part code k f (place + n + 3) p (raised 1 mark) (raised 2 mark) = λ s'. part_to code k f refl two (expression_part code k f cs plain held (inside.free + 1) (omega (arith, more)) d e r.3 (texts_back cs (expression_texts i) (expression_texts e) t) (raised 1 mark) o (place + n + 3) s') in
        let done = operates code k f (operator_of op) Int64 p (raised 2 mark) (omega arith) in
        let kept : Gives code k f (p + length is) (after (raised 2 mark) 2 1) ends mark = ((simple code k f (I.Load inside.free) refl (omega (arith, room)) (omega arith), (simple code k f (I.StoreAt (slot_of cs x) (length_of cs x)) refl array (omega arith), tt)), same_mark _ _ (omega arith) refl refl) in
        let all = gives_then code k f p (raised 2 mark) (after (raised 2 mark) 2 1) mark is ends done kept in
        let pe : StandIn code k p c' → Part code k f p (p + length (is ++ ends)) (raised 2 mark) mark = λ s'. straight_to code k f p (raised 2 mark) mark (is ++ ends) s' all in
        let front : StandIn code k place (a ++ b) → Part code k f place (place + n + 3) mark (raised 1 mark) = in_turn code k f a b la refl (value i r.2 (texts_front cs (expression_texts i) (expression_texts e) t) place) pb in
        let middle : StandIn code k place (a ++ b ++ c) → Part code k f place p mark (raised 2 mark) = in_turn code k f (a ++ b) c lb (omega arith) front pc in
        part_to code k f (omega (arith, le)) refl (in_turn code k f (a ++ b ++ c) c' lc (omega arith) middle pe s)

  -- each of some expressions is stored in a free slot, but the last one in its own
  stored_part : (inside : Inside) (o : IsOutside f d inside.mark) (own : ℕ) (es : List Expression) (place : ℕ) → inside.free + (length es + 1) ≤ f.slots → (1 ≤ length es → own < f.slots) → EachSuited cs plain d es → HasTexts cs (list_texts es) → StandIn code k place (stored_code cs inside own place es) → Part code k f place (place + stored_size cs es) inside.mark inside.mark
  stored_part inside o own [] place room last r t s = part_to code k f (omega arith) refl (nothing code k f place inside.mark)
  stored_part inside o own (e ∷ rest) place room last r t s =
      let n = expression_size cs e in
      let a = value_code cs inside place e in
      let slot = element_slot (length rest) inside.free own in
      let b = stored_code cs (keeping 1 inside) own (place + n + 1) rest in
      let first : StandIn code k place a → Part code k f place (place + n) inside.mark (raised 1 inside.mark) = λ s'. expression_part code k f cs plain held inside.free (omega (arith, room)) d e r.0 (texts_front cs (expression_texts e) (list_texts rest) t) inside.mark o place s' in
      let others : StandIn code k (place + n + 1) b → Part code k f (place + n + 1) (place + n + 1 + stored_size cs rest) inside.mark inside.mark = stored_part (keeping 1 inside) o own rest (place + n + 1) (omega (arith, room)) (λ more. last (omega arith)) r.1 (texts_back cs (expression_texts e) (list_texts rest) t) in
      let kept : StandIn code k (place + n) (line (raised 1 inside.mark) (I.Store slot) ∷ b) → Part code k f (place + n) (place + n + 1 + stored_size cs rest) (raised 1 inside.mark) inside.mark = λ s'. in_front code k f (raised 1 inside.mark) (I.Store slot) b (simple code k f (I.Store slot) refl (element_below (length rest) inside.free own f.slots (omega (arith, room)) (last (omega arith))) (omega arith)) (λ s''. part_from code k f refl (same_mark _ _ (omega arith) refl refl) (others s'')) s' in
      part_to code k f (omega arith) refl (in_turn code k f a (line (raised 1 inside.mark) (I.Store slot) ∷ b) (length-expression cs inside.free inside.mark place e) refl first kept s)

  pub assign_list_part : (inside : Inside) (o : IsOutside f d inside.mark) (place : ℕ) (x : Bytes) (es : List Expression) → inside.free + (length es + 1) ≤ f.slots → IsArrayName cs x (length es) × EachSuited cs plain d es → HasTexts cs (list_texts es) → StandIn code k place (statement_code cs inside place (assign_list x es)) → Part code k f place (place + (stored_size cs es + 2 * (length es - 1))) inside.mark inside.mark
  assign_list_part inside o place x es room r t s =
      let n = stored_size cs es in
      let own = slot_of cs x + (length es - 1) in
      let is = moved (length es - 1) inside.free (slot_of cs x) in
      let array = has_array code f cs plain held x (length es) r.0 in
      let long : length_of cs x ≡ length es = ap length_in r.0 in
      let g = moves (length es - 1) inside.free (slot_of cs x) (place + n) inside.mark (omega (arith, room)) (omega (arith, array.1, long)) in
      part_to code k f (omega (arith, length-moved (length es - 1) inside.free (slot_of cs x))) refl (in_turn code k f (stored_code cs inside own place es) (straight inside.mark is) (length-stored cs inside own place es) refl (stored_part inside o own es place room (λ more. omega (arith, array.1, long, more)) r.1 t) (λ s'. straight_to code k f (place + n) inside.mark inside.mark is s' g) s)
