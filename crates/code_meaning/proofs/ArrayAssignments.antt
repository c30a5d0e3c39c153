-- A list of values is assigned: each but the last is kept in a free slot. The last goes into its own, and then the others into theirs.
use Rattle.std.proofs.Common.{◌≡◌, ℕ, suc, ◌+◌, ◌-◌, ◌≤◌, ◌*◌, List, [], ◌∷◌, ◌++◌, length, Some, refl, sym, ap, subst, arith, append_assoc, length-append}
use Rattle.std.specs.Prelude.{Bool, ℤ, ⊤}
use Rattle.std.proofs.lemmas.Bool.{false≢true}
use Rattle.rtio_types.specs.declared.request.Reply.{Reply}
use Rattle.rtio_types.specs.declared.request.Value.TheVariants as W
use Rattle.kern_syntax.specs.Tree.{Bytes, Expression, assign_list}
use Rattle.kern_calls.specs.declared.types.ValueType.TheVariants as V
use Rattle.kern_calls.specs.Calls.{look_up}
use Rattle.timeline_sem.specs.Actions.{give, skip}
use Rattle.timeline_sem.specs.Expressions.{Callee, write}
use Rattle.timeline_sem.specs.Statements.{statement, values}
use Rattle.timeline_sem.proofs.Keeps.{keeps_write}
use Rattle.core_isa.specs.declared.code.Code.{Code}
use Rattle.core_isa.specs.declared.instr.Instr.{Instr}
use Rattle.core_isa.specs.declared.instr.Instr.TheVariants as I
use Rattle.code_forms.specs.Setting as C
use Rattle.code_forms.specs.ExpressionCode.{expression_code}
use Rattle.code_forms.specs.Lines.{line, raised, straight}
use Rattle.code_forms.specs.Sizes.{expression_size, stored_size, statement_size}
use Rattle.code_forms.specs.StatementCode.{Inside, keeping as keeping_slots, moved as moved_instrs, stored_code, statement_code}
use Rattle.code_forms.specs.Texts.{expression_texts, list_texts}
use Rattle.code_forms.proofs.Lengths.{length-expression}
use Rattle.code_forms.proofs.StatementLengths.{length-moved}
use Rattle.code_follows.specs.Stands.{Local, holding, Setting, Fits64, AllFit64}
use Rattle.code_follows.specs.Parts.{Moved, Follows, Stand, deeper, alone}
use Rattle.code_follows.proofs.ArrayLists.{follows_no_list, follows_list}
use Rattle.code_follows.proofs.Compose.{moved, moved_same, moves_of, follows_bind, follows_if, follows_same, by_fits}
use Rattle.code_follows.proofs.Beneath.{follows_anywhere, follows_beneath}
use Rattle.code_follows.proofs.Flow.{follows_before, follows_give}
use Rattle.code_follows.proofs.Lines.{LinesStand, first_part, second_part, one_line, straight_stands}
use Rattle.code_follows.proofs.Loops.{keeping}
use Rattle.code_follows.proofs.Variables.{own_slot, follows_keep}
use Rattle.code_forms.specs.Suited.{IsArrayName, EachSuited}
use Rattle.code_meaning.proofs.Known.{TextsIn, in_front, in_back, Known, At, follows_to}
use Rattle.code_meaning.proofs.Expressions.{follows_expression}
use Rattle.code_meaning.proofs.Places.{Placed, at_of}

-- of a number and those behind it, the last one and the others
abbrev last_of : ℤ → List ℤ → ℤ
last_of v [] = v
last_of v (w ∷ vs) = last_of w vs

abbrev but_last : ℤ → List ℤ → List ℤ
but_last v [] = []
but_last v (w ∷ vs) = v ∷ but_last w vs

together : (v : ℤ) (vs : List ℤ) → but_last v vs ++ last_of v vs ∷ [] ≡ v ∷ vs
together v [] = refl
together v (w ∷ vs) = ap (λ l. v ∷ l) (together w vs)

-- what the code of a list's values leaves: the last one on the operands, the others in slots of one's own
abbrev left_of : List ℤ → Local
left_of [] = holding []
left_of (v ∷ vs) = record { operands = last_of v vs ∷ []; temporaries = but_last v vs }

-- how many instructions it has
abbrev values_size : C.Setting → Expression → List Expression → ℕ
values_size cs e [] = expression_size cs e
values_size cs e (f ∷ es) = expression_size cs e + (1 + values_size cs f es)

with_last : (cs : C.Setting) (e : Expression) (es : List Expression) → values_size cs e es + 1 ≡ stored_size cs (e ∷ es)
with_last cs e [] = omega arith
with_last cs e (f ∷ es) = omega (arith, with_last cs f es)

module _ (given : List Reply) (code : Code) (cs : C.Setting) (plain : List Bytes) (callee : Callee) (room : ℕ) (known : Known given code cs plain callee room) (most : ℕ) (d : Bool) where
  -- behind the last value it is stored, and the instructions that follow stand there
  last_stands : (inside : Inside) (own place : ℕ) (e : Expression) (es : List Expression) (is : List Instr) → LinesStand code.lines place (stored_code cs inside own place (e ∷ es) ++ straight inside.mark is) → Stand code.lines (place + values_size cs e es) (I.Store own ∷ is)
  last_stands inside own place e [] is s =
      let n = expression_size cs e in
      let ce = expression_code cs inside.free inside.mark place e in
      let store = line (raised 1 inside.mark) (I.Store own) in
      let ci = straight inside.mark is in
      let s1 : LinesStand code.lines place (ce ++ (store ∷ ci)) = subst (λ l. LinesStand code.lines place l) (append_assoc ce (store ∷ []) ci) s in
      let sr = second_part code.lines place n ce (store ∷ ci) (length-expression cs inside.free inside.mark place e) s1 in
      (store, sr.0, refl, straight_stands code.lines (place + n + 1) inside.mark is sr.1)
  last_stands inside own place e (f ∷ es) is s =
      let n = expression_size cs e in
      let ce = expression_code cs inside.free inside.mark place e in
      let store = line (raised 1 inside.mark) (I.Store inside.free) in
      let cr = stored_code cs (keeping_slots 1 inside) own (place + n + 1) (f ∷ es) in
      let ci = straight inside.mark is in
      let s1 : LinesStand code.lines place (ce ++ (store ∷ (cr ++ ci))) = subst (λ l. LinesStand code.lines place l) (append_assoc ce (store ∷ cr) ci) s in
      let sr = second_part code.lines place n ce (store ∷ (cr ++ ci)) (length-expression cs inside.free inside.mark place e) s1 in
      let past : place + n + 1 + values_size cs f es ≡ place + (n + (1 + values_size cs f es)) = omega arith in
      subst (λ p. Stand code.lines p (I.Store own ∷ is)) past (last_stands (keeping_slots 1 inside) own (place + n + 1) f es is sr.1)

  -- one value more before those that there are
  one_before : {premise : Type 0} (setting : Setting) (place k : ℕ) (a : ℤ) → (premise → Fits64 a) → (vs : List ℤ) → Follows given code (premise × ((length vs ≡ suc k) × AllFit64 vs)) most setting place place (record { operands = (left_of vs).operands ++ []; temporaries = a ∷ (left_of vs).temporaries }) (λ ws. (length ws ≡ suc (suc k)) × AllFit64 ws) left_of (give (a ∷ vs))
  one_before setting place k a fits [] =
      by_fits given code moved_same (λ p. p.1) (λ good. absurd (omega (arith, good.0)))
  one_before setting place k a fits (v ∷ vs) =
      follows_give given code {results = left_of} (a ∷ (v ∷ vs)) (λ p. (omega (arith, p.1.0), (fits p.0, p.1.1)))

  -- the values, each of which but the last is kept in a slot of one's own
  follows_values : (e : Expression) (es : List Expression) → EachSuited cs plain d (e ∷ es) → TextsIn cs.texts (list_texts (e ∷ es)) → (inside : Inside) (own place : ℕ) → LinesStand code.lines place (stored_code cs inside own place (e ∷ es)) → (setting : Setting) → At cs room inside.free d setting → length setting.temporaries + length (e ∷ es) + 1 ≤ setting.limit → Follows given code ⊤ most (alone setting) place (place + values_size cs e es) (holding []) (λ vs. (length vs ≡ suc (length es)) × AllFit64 vs) left_of (values cs.scope callee (e ∷ es))
  follows_values e [] r t inside own place s setting at limit =
      let ce = expression_code cs inside.free inside.mark place e in
      let store = line (raised 1 inside.mark) (I.Store own) in
      let se = first_part code.lines place ce (store ∷ []) s in
      follows_bind given code (follows_expression given code cs plain callee room inside.free d known most e r.0 (in_front cs.texts (expression_texts e) (list_texts []) t) inside.mark place se setting at) (λ a. follows_same given code (λ s. refl) (follows_give given code {results = left_of} (a ∷ []) (λ p. (refl, (p.1, tt)))))
  follows_values e (f ∷ es) r t inside own place s setting at limit =
      let n = expression_size cs e in
      let k = values_size cs f es in
      let free = inside.free in
      let ce = expression_code cs free inside.mark place e in
      let store = line (raised 1 inside.mark) (I.Store free) in
      let cr = stored_code cs (keeping_slots 1 inside) own (place + n + 1) (f ∷ es) in
      let se = first_part code.lines place ce (store ∷ cr) s in
      let sr = second_part code.lines place n ce (store ∷ cr) (length-expression cs free inside.mark place e) s in
      let slot : free ≡ own_slot given code (alone setting) 0 = omega (arith, at.free) in
      let s_keep = subst (λ j. Stand code.lines (place + n) (I.Store j ∷ [])) slot (one_line code.lines (place + n) (raised 1 inside.mark) (I.Store free) cr sr) in
      let past : place + n + 1 + k ≡ place + (n + (1 + k)) = omega arith in
      let below : (a : ℤ) → At cs room (free + 1) d (deeper (a ∷ []) setting) = λ a. record { names = at.names; free = omega (arith, at.free, length-append setting.temporaries (a ∷ [])); limit = omega (arith, limit, length-append setting.temporaries (a ∷ [])); room = at.room; outside = at.outside } in
      let fr : (a : ℤ) → Follows given code ⊤ most (alone (deeper (a ∷ []) setting)) (place + n + 1) (place + n + 1 + k) (holding []) (λ vs. (length vs ≡ suc (length es)) × AllFit64 vs) left_of (values cs.scope callee (f ∷ es)) = λ a. follows_values f es r.1 (in_back cs.texts (expression_texts e) (list_texts (f ∷ es)) t) (keeping_slots 1 inside) own (place + n + 1) sr.1 (deeper (a ∷ []) setting) (below a) (omega (arith, limit, length-append setting.temporaries (a ∷ []))) in
      let others : (a : ℤ) → Follows given code ⊤ most (alone setting) (place + n + 1) (place + n + 1 + k) (keeping (a ∷ [])) (λ vs. (length vs ≡ suc (length es)) × AllFit64 vs) (λ vs. record { operands = (left_of vs).operands ++ []; temporaries = a ∷ (left_of vs).temporaries }) (values cs.scope callee (f ∷ es)) = λ a. follows_beneath given code {setting = alone setting} (keeping (a ∷ [])) (tt, λ e. absurd (false≢true e)) (fr a) in
      let kept : (a : ℤ) → Follows given code (⊤ × Fits64 a) most (alone setting) (place + n) (place + n + 1) (holding (a ∷ [])) (λ v. ⊤) (λ v. keeping (a ∷ [])) skip = λ a. follows_keep given code {setting = alone setting} [] [] a (omega (arith, at.limit)) s_keep in
      follows_to given code past (follows_bind given code (follows_expression given code cs plain callee room free d known most e r.0 (in_front cs.texts (expression_texts e) (list_texts (f ∷ es)) t) inside.mark place se setting at) (λ a. follows_before given code tt (kept a) (follows_bind given code (follows_if given code (λ p. tt) (others a)) (λ vs. one_before (alone setting) (place + n + 1 + k) (length es) a (λ p. p.0.1) vs))))

  -- the values go into the array's slots
  follows_written : (x : Bytes) (k : ℕ) (setting : Setting) (first : ℕ) → look_up setting.names x ≡ Some (V.Array (suc k)) → Stand code.lines first (I.Store (C.slot_in setting.names x + k) ∷ moved_instrs k (own_slot given code setting 0) (C.slot_in setting.names x)) → (vs : List ℤ) → Follows given code (⊤ × ((length vs ≡ suc k) × AllFit64 vs)) most setting first (first + 1 + length (moved_instrs k (own_slot given code setting 0) (C.slot_in setting.names x))) (left_of vs) (λ v. ⊤) (λ v. holding []) (write x (W.List vs))
  follows_written x k setting first here stands [] =
      by_fits given code (moves_of (keeps_write Moved Moved moved x (W.List []))) (λ p. p.1) (λ good. absurd (omega (arith, good.0)))
  follows_written x k setting first here stands (v ∷ vs) =
      let ws = but_last v vs in
      let w = last_of v vs in
      let all : ws ++ w ∷ [] ≡ v ∷ vs = together v vs in
      let from = own_slot given code setting 0 in
      let to = C.slot_in setting.names x in
      let own : Local = record { operands = w ∷ []; temporaries = ws } in
      by_fits given code (moves_of (keeps_write Moved Moved moved x (W.List (v ∷ vs)))) (λ p. p.1) (λ good.
      let long : k ≡ length ws = omega (arith, good.0, ap (λ (l : List ℤ). length l) all, length-append ws (w ∷ [])) in
      let whole : length ws + 1 ≡ suc k = omega (arith, long) in
      let list = follows_list given code {setting = setting} x (suc k) ws w here whole (subst (λ l. AllFit64 l) (sym all) good.1) (subst (λ j. Stand code.lines first (I.Store (to + j) ∷ moved_instrs j from to)) long stands) in
      follows_if given code (λ p. tt) (subst (λ l. Follows given code ⊤ most setting first (first + 1 + length (moved_instrs k from to)) own (λ v. ⊤) (λ v. holding []) (write x (W.List l))) all (subst (λ j. Follows given code ⊤ most setting first (first + 1 + length (moved_instrs j from to)) own (λ v. ⊤) (λ v. holding []) (write x (W.List (ws ++ w ∷ [])))) (sym long) list)))

  pub follows_assign_list : (l may : Bool) (inside : Inside) (place : ℕ) (setting : Setting) → Placed cs room l may d inside setting → (x : Bytes) (es : List Expression) → length setting.temporaries + (length es + 1) ≤ setting.limit → IsArrayName cs x (length es) × EachSuited cs plain d es → TextsIn cs.texts (list_texts es) → LinesStand code.lines place (statement_code cs inside place (assign_list x es)) → Follows given code ⊤ most setting place (place + statement_size cs inside.mark.tries inside.loop.tries (assign_list x es)) (holding []) (λ v. ⊤) (λ v. holding []) (statement cs.scope callee (assign_list x es))
  follows_assign_list l may inside place setting g x [] limit r t s =
      let here = subst (λ ns. look_up ns x ≡ Some (V.Array 0)) (sym g.names) r.0 in
      let past : place ≡ place + (0 + 2 * (0 - 1)) = omega arith in
      follows_to given code past (follows_same given code (λ s. refl) (follows_no_list given code {setting = setting} x here))
  follows_assign_list l may inside place setting g x (e ∷ es) limit r t s =
      let n = values_size cs e es in
      let m = length es in
      let less : suc m - 1 ≡ m = omega arith in
      let at = at_of cs room l may d inside setting g (omega (arith, limit)) in
      let own = C.slot_of cs x + (suc m - 1) in
      let is = moved_instrs (suc m - 1) inside.free (C.slot_of cs x) in
      let cv = stored_code cs inside own place (e ∷ es) in
      let sv = first_part code.lines place cv (straight inside.mark is) s in
      let slot : inside.free ≡ own_slot given code setting 0 = omega (arith, g.free) in
      let s1 = subst (λ k. Stand code.lines (place + n) (I.Store (C.slot_of cs x + k) ∷ moved_instrs k inside.free (C.slot_of cs x))) less (last_stands inside own place e es is s) in
      let s2 = subst (λ k. Stand code.lines (place + n) (I.Store (C.slot_of cs x + m) ∷ moved_instrs m k (C.slot_of cs x))) slot s1 in
      let s3 = subst (λ ns. Stand code.lines (place + n) (I.Store (C.slot_in ns x + m) ∷ moved_instrs m (own_slot given code setting 0) (C.slot_in ns x))) (sym g.names) s2 in
      let from = own_slot given code setting 0 in
      let to = C.slot_in setting.names x in
      let here = subst (λ ns. look_up ns x ≡ Some (V.Array (suc m))) (sym g.names) r.0 in
      let past : place + n + 1 + length (moved_instrs m from to) ≡ place + (stored_size cs (e ∷ es) + 2 * (suc m - 1)) = omega (arith, length-moved m from to, with_last cs e es) in
      follows_to given code past (follows_bind given code (follows_anywhere given code (follows_values e es r.1 t inside own place sv setting at (omega (arith, limit)))) (follows_written x m setting (place + n) here s3))
