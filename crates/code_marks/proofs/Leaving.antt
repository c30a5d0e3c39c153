-- The code of statements that leave a loop or the function is marked rightly.
use Rattle.std.proofs.Common.{◌≡◌, ℕ, zero, suc, ◌+◌, ◌-◌, ◌≤◌, List, [], ◌∷◌, ◌++◌, length, Option, Some, None, slice_get, refl, sym, ◌∙◌, ap, subst, arith}
use Rattle.std.specs.Prelude.{Bool, true, false, pos, if◌then◌else◌}
use Rattle.std.proofs.lemmas.Bool.{false≢true}
use Rattle.std.proofs.lemmas.List.{length-replicate}
use Rattle.kern_syntax.specs.Tree.{Bytes, Expression}
use Rattle.core_isa.specs.declared.code.Code.{Code}
use Rattle.core_isa.specs.declared.code.CodeFunction.{CodeFunction}
use Rattle.core_isa.specs.declared.code.Mark.{Mark}
use Rattle.core_isa.specs.declared.instr.Instr.TheVariants as I
use Rattle.core_isa.specs.Marks.{function_index, after, values_of}
use Rattle.code_forms.specs.Lines.{line, raised, straight, end_tries}
use Rattle.code_forms.specs.Setting as C
use Rattle.code_forms.specs.Sizes.{when, expression_size, return_size}
use Rattle.code_forms.specs.StatementCode.{Inside, leaving, returning, no_result, no_value, result_mark, return_code}
use Rattle.code_forms.specs.Suited.{IfThereSuited}
use Rattle.code_forms.specs.Texts.{option_texts}
use Rattle.code_forms.proofs.StatementLengths.{tries-result, length-no_result, length-no_value, length-return}
use Rattle.code_marks.proofs.Expressions.{one_operand, expression_part}
use Rattle.code_marks.proofs.Held.{Held, IsOutside, HasTexts}
use Rattle.code_marks.proofs.Instructions.{simple, jump, end_try, returns}
use Rattle.code_marks.proofs.Parts.{HasMark, IsFit, AreFit, StandIn, Part, Gives, same_mark, mark_of, has_as, both_fit, fit_alone, part_to, one_part, straight_to, ends_part, in_turn}
use Rattle.code_marks.proofs.Placed.{loop_mark}

result_rec : (b : Bool) (mark : Mark) → (result_mark b mark).rec ≡ mark.rec
result_rec true mark = refl
result_rec false mark = refl

result_height : (f : CodeFunction) (b : Bool) (mark : Mark) → mark.height ≡ 0 → f.value ≡ b → (result_mark b mark).height ≡ values_of f
result_height f true mark bare e = let one : mark.height + 1 ≡ 1 = omega (arith, bare) in one ∙ sym (ap (λ b. if b then 1 else 0) e)
result_height f false mark bare e = bare ∙ sym (ap (λ b. if b then 1 else 0) e)

module _ (code : Code) (k : ℕ) (f : CodeFunction) where
  -- handlers end one by one, where the recording that is open was opened under those that stay
  end_gives : (n place : ℕ) (mark : Mark) → n ≤ mark.tries → mark.rec ≤ mark.tries - n + 1 → Gives code k f place mark (end_tries n) (record mark { tries = mark.tries - n })
  end_gives zero place mark few opened = (tt, same_mark _ _ refl (omega arith) refl)
  end_gives (suc n) place mark few opened =
      let less : mark.tries - 1 - n ≡ mark.tries - suc n = omega arith in
      let r = end_gives n (place + 1) (record mark { tries = mark.tries - 1 }) (omega (arith, few)) (omega (arith, few, opened)) in
      ((end_try code k f (omega (arith, few)) (omega (arith, few, opened)), r.0), r.1 ∙ same_mark _ _ refl less refl)

  -- the loop goes on, or ends
  pub leaving_part : (inside : Inside) (place to : ℕ) → inside.loop.tries ≤ inside.mark.tries → inside.mark.rec ≤ inside.loop.tries + 1 → HasMark code k to (loop_mark inside) → place + (inside.mark.tries - inside.loop.tries + 1) ≤ to → StandIn code k place (leaving inside to) → Part code k f place (place + (inside.mark.tries - inside.loop.tries + 1)) inside.mark inside.mark
  leaving_part inside place to fewer opened there ahead s =
      let n = inside.mark.tries - inside.loop.tries in
      let long : length (end_tries n) ≡ n = length-replicate n I.EndTry in
      let g = end_gives n place inside.mark (omega arith) (omega (arith, fewer, opened)) in
      let left : inside.loop.tries ≡ inside.mark.tries - n = omega (arith, fewer) in
      let at_end = has_as code k refl (same_mark (loop_mark inside) (record inside.mark { tries = inside.mark.tries - n }) refl left refl ∙ sym g.1) there in
      part_to code k f (omega (arith, long)) refl (ends_part code k f place inside.mark inside.mark (end_tries n) (I.Jump to) s g.0 (jump code k f to (omega (arith, long, ahead)) at_end))

  -- the function ends
  returning_part : (place : ℕ) (mark next : Mark) → mark.rec ≡ 0 → mark.height ≡ values_of f → StandIn code k place (returning mark) → Part code k f place (place + (mark.tries + 1)) mark next
  returning_part place mark next rec height s =
      let n = mark.tries in
      let long : length (end_tries n) ≡ n = length-replicate n I.EndTry in
      let g = end_gives n place mark (omega arith) (omega (arith, rec)) in
      let none : n - n ≡ 0 = omega arith in
      part_to code k f (omega (arith, long)) refl (ends_part code k f place mark next (end_tries n) I.Return s g.0 (returns code k f (ap (λ m. m.tries) g.1 ∙ none) (ap (λ m. m.rec) g.1 ∙ rec) (ap (λ m. m.height) g.1 ∙ height)))

  return_fits : (place : ℕ) (mark : Mark) → slice_get code.lines place ≡ Some (line mark I.Return) → function_index code place ≡ k → mark.tries ≡ 0 → mark.rec ≡ 0 → mark.height ≡ values_of f → IsFit code k f place
  return_fits place mark stands same tries rec height =
      record { line = line mark I.Return; stands = stands; same = same; exist = tt; live = λ e. absurd (false≢true e); follow = (tries, rec, height) }

  value_gives : (b : Bool) (place : ℕ) (mark : Mark) → Gives code k f place mark (no_result b) (result_mark b mark)
  value_gives true place mark = ((simple code k f (I.Const (pos 0)) refl tt (omega arith), tt), same_mark _ _ (omega arith) refl refl)
  value_gives false place mark = (tt, refl)

  dropped_gives : (b : Bool) (place : ℕ) (mark : Mark) → Gives code k f place (raised 1 mark) (no_value b) (result_mark b mark)
  dropped_gives true place mark = (tt, refl)
  dropped_gives false place mark = ((simple code k f I.Pop refl tt (omega arith), tt), same_mark _ _ (omega arith) refl refl)

  -- the code behind a function's body, where the function ends
  pub end_fits : (place : ℕ) (value : Bool) (mark : Mark) → mark.tries ≡ 0 → mark.rec ≡ 0 → mark.height ≡ 0 → f.value ≡ value → StandIn code k place (straight mark (no_result value ++ I.Return ∷ [])) → HasMark code k place mark × AreFit code k f place (place + (when value + 1))
  end_fits place true mark tries rec height same s =
      let last : IsFit code k f (place + 1) = return_fits (place + 1) (after mark 0 1) s.2.0 s.2.1 tries rec (let one : (after mark 0 1).height ≡ (result_mark true mark).height = omega arith in one ∙ result_height f true mark height same) in
      let first = one_part code k f place mark (after mark 0 1) (I.Const (pos 0)) s.0 s.1 (simple code k f (I.Const (pos 0)) refl tt (omega arith)) (mark_of code k (place + 1) (after mark 0 1) I.Return s.2.0 s.2.1) in
      let end : place + 1 + 1 ≡ place + (1 + 1) = omega arith in
      (first.0, subst (AreFit code k f place) end (both_fit code k f place (place + 1) (place + 1 + 1) first.1 (fit_alone code k f (place + 1) last)))
  end_fits place false mark tries rec height same s =
      let last : IsFit code k f place = return_fits place mark s.0 s.1 tries rec (result_height f false mark height same) in
      let end : place + 1 ≡ place + (0 + 1) = omega arith in
      (mark_of code k place mark I.Return s.0 s.1, subst (AreFit code k f place) end (fit_alone code k f place last))

module _ (code : Code) (k : ℕ) (f : CodeFunction) (cs : C.Setting) (plain : List Bytes) (held : Held code f cs plain) (d : Bool) (inside : Inside) (o : IsOutside f d inside.mark) (room : inside.free + 1 ≤ f.slots) (place : ℕ) where
  -- the value of a `return`
  value_part : (e : Option Expression) → IfThereSuited cs plain d e → HasTexts cs (option_texts e) → StandIn code k place (return_code cs inside place e) → Part code k f place (place + return_size cs e) inside.mark (result_mark cs.value inside.mark)
  value_part None r t s =
      part_to code k f (omega (arith, length-no_result cs.value)) refl (straight_to code k f place inside.mark (result_mark cs.value inside.mark) (no_result cs.value) s (value_gives code k f cs.value place inside.mark))
  value_part (Some e) r t s =
      part_to code k f (omega (arith, length-no_value cs.value)) refl (one_operand code k f cs plain held inside.free room d e place inside.mark (result_mark cs.value inside.mark) (no_value cs.value) (expression_part code k f cs plain held inside.free room d e r t inside.mark o place) (dropped_gives code k f cs.value (place + expression_size cs e) inside.mark) s)

  pub return_part : (e : Option Expression) → IfThereSuited cs plain d e → HasTexts cs (option_texts e) → inside.mark.height ≡ 0 → inside.mark.rec ≡ 0 → StandIn code k place (return_code cs inside place e ++ returning (result_mark cs.value inside.mark)) → Part code k f place (place + (return_size cs e + (inside.mark.tries + 1))) inside.mark inside.mark
  return_part e r t bare rec s =
      let n = return_size cs e in
      let mark = result_mark cs.value inside.mark in
      let tries = tries-result cs.value inside.mark in
      part_to code k f (omega (arith, tries)) refl (in_turn code k f (return_code cs inside place e) (returning mark) (length-return cs inside place e) refl (value_part e r t) (returning_part code k f (place + n) mark inside.mark (result_rec cs.value inside.mark ∙ rec) (result_height f cs.value inside.mark bare held.value)) s)
