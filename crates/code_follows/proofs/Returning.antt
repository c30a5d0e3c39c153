-- A `return`: the handlers are removed one by one, and then the function's Return.
use Rattle.std.proofs.Common.{◌≡◌, ℕ, ◌+◌, ◌≤◌, List, [], ◌∷◌, ◌++◌, length, drop, refl, sym, ◌∙◌, ap, subst, arith, length-append}
use Rattle.std.specs.Prelude.{Bool, true, false, ℤ, ⊤, replicate}
use Rattle.std.proofs.lemmas.Bool.{false≢true}
use Rattle.rtio_types.specs.declared.request.Reply.{Reply}
use Rattle.timeline_sem.specs.Actions.{State, return, stop}
use Rattle.core_isa.specs.declared.code.Code.{Code}
use Rattle.core_isa.specs.declared.instr.Instr.TheVariants as I
use Rattle.core_isa.specs.Machine.{HandlerPoint, Machine, Next, goes}
use Rattle.code_follows.specs.Stands.{Around, holding, Setting, Suits, SlotsAdd, at_return, machine_at, slots_of, Fits64, Agrees, Leads, ComesToReturn, ReturnsIf, IsReturn, result_operands}
use Rattle.code_follows.specs.Parts.{Follows, Stand}
use Rattle.code_follows.proofs.Compose.{moved_same}
use Rattle.code_follows.proofs.Beneath.{machine_by}
use Rattle.code_follows.proofs.Leaving.{leads_end_tries, stand_behind}

no_handlers : (hs : List HandlerPoint) → drop (length hs) hs ≡ []
no_handlers [] = refl
no_handlers (h ∷ hs) = no_handlers hs

module _ (given : List Reply) (code : Code) where
  returns_if : (may : Bool) (from : Next) (around : Around) (s : State) (v : ℤ) → may ≡ true → ComesToReturn given code from around s v → ReturnsIf given code may from around s v
  returns_if true from around s v e c = c
  returns_if false from around s v e c = absurd (false≢true e)

  -- the value, if the function has one, is the only operand; so nothing lies beneath it
  to_return : (setting : Setting) (first : ℕ) (around : Around) (s : State) (v : ℤ) (free : List ℤ) (count : ℕ) → around.operands ≡ [] → Fits64 v → Suits setting around → Agrees given around.names around.opening s → SlotsAdd around [] free → Stand code.lines first (replicate setting.handlers I.EndTry ++ I.Return ∷ []) → ComesToReturn given code (goes (machine_at around s (holding (result_operands around.function.value v)) free first count)) around s v
  to_return setting first around s v free count bare fits suits agrees slots stands =
      let n = setting.handlers in
      let local = holding (result_operands around.function.value v) in
      let less : n ≤ length around.handlers = omega (arith, suits.handlers) in
      let removed = leads_end_tries given code around s local free (I.Return ∷ []) n first count around.handlers less stands in
      let at = stand_behind code.lines first n (I.Return ∷ []) stands in
      let gone : drop n around.handlers ≡ [] = ap (λ k. drop k around.handlers) (sym suits.handlers) ∙ no_handlers around.handlers in
      let back = at_return around in
      let there : Machine = machine_at (record around { handlers = drop n around.handlers }) s local free (first + n) removed.0 in
      let same : there ≡ machine_at back s local (around.temporaries ++ free) (first + n) removed.0 =
      ap (λ hs. machine_at (record around { handlers = hs }) s local free (first + n) removed.0) gone
      ∙ ap (λ ops. machine_by (record around { handlers = [] }) s (slots_of s.values ++ (around.temporaries ++ ([] ++ free))) (local.operands ++ ops) (first + n) removed.0) bare in
      record {
        place = first + n;
        stands = subst (λ o. IsReturn o) (sym at.1) at.2;
        comes = record {
          free = around.temporaries ++ free;
          count = removed.0;
          slots = omega (arith, slots, length-append around.temporaries free);
          agrees = agrees;
          leads = subst (λ m. Leads given code (goes (machine_at around s local free first count)) (goes m)) same removed.1;
        };
        fits = fits;
      }

  -- the value is there, if the function has one: the handlers are removed, and the Return is reached
  pub follows_stop_return : {premise : Type 0} {most : ℕ} {setting : Setting} {first past : ℕ} (v : ℤ) → setting.may_return ≡ true → (premise → Fits64 v) → Stand code.lines first (replicate setting.handlers I.EndTry ++ I.Return ∷ []) → Follows given code premise most setting first past (holding (result_operands setting.value v)) (λ a. ⊤) (λ a. holding []) (stop {A = ⊤} (return v))
  follows_stop_return {setting = setting} {first = first} v may fits stands =
      record {
        moves = moved_same;
        follows = λ around s free count p suits agrees slots few fit.
            let slots' : SlotsAdd around [] free = slots in
            returns_if setting.may_return _ around s v may (subst (λ b. ComesToReturn given code (goes (machine_at around s (holding (result_operands b v)) free first count)) around s v) suits.value (to_return setting first around s v free count (suits.bare may) (fits p) suits agrees slots' stands));
      }
