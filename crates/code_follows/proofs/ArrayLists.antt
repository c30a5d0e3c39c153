-- Numbers that are kept in temporary slots go into an array's, one by one, after the last one of all, which isn't kept.
use Rattle.std.proofs.Common.{◌≡◌, ℕ, zero, suc, ◌+◌, List, [], ◌∷◌, ◌++◌, length, slice_get, Some, refl, sym, ◌∙◌, ap, subst, arith, append_assoc, length-append}
use Rattle.std.specs.Prelude.{ℤ, ⊤, slice_set}
use Rattle.rtio_types.specs.declared.request.Reply.{Reply}
use Rattle.rtio_types.specs.declared.request.Value.TheVariants as W
use Rattle.kern_syntax.specs.Tree.{Bytes}
use Rattle.kern_calls.specs.declared.types.ValueType.TheVariants as V
use Rattle.kern_calls.specs.Calls.{look_up}
use Rattle.timeline_sem.specs.Actions.{State}
use Rattle.timeline_sem.specs.Expressions.{value_of, with_value, list_in_value, write}
use Rattle.timeline_sem.proofs.Keeps.{keeps_write}
use Rattle.core_isa.specs.declared.code.Code.{Code}
use Rattle.core_isa.specs.declared.instr.Instr.{Instr}
use Rattle.core_isa.specs.declared.instr.Instr.TheVariants as I
use Rattle.core_isa.specs.Machine.{Next, goes, next, push, with_slots}
use Rattle.core_isa.specs.Steps.{on_some}
use Rattle.core_isa.specs.Runs.{counted}
use Rattle.code_forms.specs.Setting.{slot_in}
use Rattle.code_forms.specs.StatementCode.{moved as moved_instrs}
use Rattle.code_follows.specs.Stands.{Around, Local, holding, Setting, HasNames, AllFit64, slots_of, machine_at, Leads}
use Rattle.code_follows.specs.Parts.{Moved, Follows, Stand}
use Rattle.code_follows.proofs.Beneath.{machine_by}
use Rattle.code_follows.proofs.Compose.{moved, moves_of}
use Rattle.code_follows.proofs.Elements.{array_value}
use Rattle.code_follows.proofs.Flow.{comes_forget}
use Rattle.code_follows.proofs.Leads.{leads_same, leads_then, leads_instr}
use Rattle.code_follows.proofs.Lists.{get_seam, get_behind, set_seam}
use Rattle.code_follows.proofs.Loops.{keeping}
use Rattle.code_follows.proofs.Slots.{slots_length, splits}
use Rattle.code_follows.proofs.Variables.{own_slot, with_values}

no_items : (l : List ℤ) → length l ≡ 0 → l ≡ []
no_items [] e = refl
no_items (v ∷ l) e = absurd (omega (arith, e))

-- a list of one number more than so many, without its last one
record WithoutLast (n : ℕ) (l : List ℤ) : Type 0 where
  pub others : List ℤ
  pub last : ℤ
  pub same : l ≡ others ++ last ∷ []
  pub long : length others ≡ n

without_last : (n : ℕ) (l : List ℤ) → length l ≡ n + 1 → WithoutLast n l
without_last n [] e = absurd (omega (arith, e))
without_last zero (v ∷ []) e = record { others = []; last = v; same = refl; long = refl }
without_last zero (v ∷ (w ∷ l)) e = absurd (omega (arith, e))
without_last (suc n) (v ∷ l) e =
    let rest = without_last n l (omega (arith, e)) in
    record { others = v ∷ rest.others; last = rest.last; same = ap (λ k. v ∷ k) rest.same; long = ap suc rest.long }

module _ (given : List Reply) (code : Code) where
  module _ (around : Around) (s : State) (operands : List ℤ) where
    abbrev here : (slots : List ℤ) (place count : ℕ) → Next
    here slots place count = goes (machine_by around s slots operands place count)

    -- the old numbers of an array are replaced by those that stand further behind
    moves_all : (front old between new behind : List ℤ) (from to place count : ℕ) → length old ≡ length new → length front ≡ to → length front + length old + length between ≡ from → Stand code.lines place (moved_instrs (length new) from to) → (last : ℕ) × Leads given code (here (front ++ (old ++ (between ++ (new ++ behind)))) place count) (here (front ++ (new ++ (between ++ (new ++ behind)))) (place + length (moved_instrs (length new) from to)) last)
    moves_all front [] between [] behind from to place count many at_to at_from stands =
        let same : place ≡ place + 0 = omega arith in
        (count, subst (λ p. Leads given code (here (front ++ (between ++ behind)) place count) (here (front ++ (between ++ behind)) p count)) same (leads_same given code _))
    moves_all front (o ∷ old) between (v ∷ new) behind from to place count many at_to at_from stands =
        let late = v ∷ (new ++ behind) in
        let slots = front ++ (o ∷ (old ++ (between ++ late))) in
        let slots' = front ++ (v ∷ (old ++ (between ++ late))) in
        let m0 = machine_by around s slots operands place count in
        let c1 = (counted m0).steps in
        let m1 = machine_by around s slots (v ∷ operands) (place + 1) c1 in
        let c2 = (counted m1).steps in
        let index : from ≡ length front + (length (o ∷ old) + length between) = omega (arith, at_from) in
        let got : slice_get slots from ≡ Some v = ap (slice_get slots) index ∙ (get_behind front (o ∷ (old ++ (between ++ late))) (length (o ∷ old) + length between) ∙ (get_behind (o ∷ old) (between ++ late) (length between) ∙ get_seam between v (new ++ behind))) in
        let there : slice_get slots to ≡ Some o = ap (slice_get slots) (sym at_to) ∙ get_seam front o (old ++ (between ++ late)) in
        let put : slice_set slots to v ≡ slots' = ap (λ k. slice_set slots k v) (sym at_to) ∙ set_seam front o (old ++ (between ++ late)) v in
        let first : Leads given code (goes m0) (goes m1) = subst (λ n. Leads given code (goes m0) n) (ap (λ x. on_some x (λ w. push w (counted m0))) got) (leads_instr given code m0 (I.Load from) (I.Store to ∷ moved_instrs (length new) (from + 1) (to + 1)) stands) in
        let cut = machine_by around s slots operands (place + 1) c2 in
        let second : Leads given code (goes m1) (here slots' (place + 1 + 1) c2) = subst (λ n. Leads given code (goes m1) n) (ap (λ x. on_some x (λ w. next (with_slots cut (slice_set slots to v)))) there ∙ ap (λ l. here l (place + 1 + 1) c2) put) (leads_instr given code m1 (I.Store to) (moved_instrs (length new) (from + 1) (to + 1)) stands.3) in
        let front' = front ++ v ∷ [] in
        let between' = between ++ v ∷ [] in
        let begin : slots' ≡ front' ++ (old ++ (between' ++ (new ++ behind))) = sym (append_assoc front (v ∷ []) (old ++ (between ++ late))) ∙ ap (λ l. front' ++ (old ++ l)) (sym (append_assoc between (v ∷ []) (new ++ behind))) in
        let finish : front' ++ (new ++ (between' ++ (new ++ behind))) ≡ front ++ (v ∷ (new ++ (between ++ late))) = append_assoc front (v ∷ []) (new ++ (between' ++ (new ++ behind))) ∙ ap (λ l. front ++ (v ∷ (new ++ l))) (append_assoc between (v ∷ []) (new ++ behind)) in
        let rest = moves_all front' old between' new behind (from + 1) (to + 1) (place + 1 + 1) c2 (omega (arith, many)) (omega (arith, at_to, length-append front (v ∷ []))) (omega (arith, at_from, length-append front (v ∷ []), length-append between (v ∷ []))) stands.3.3 in
        let n = length (moved_instrs (length new) (from + 1) (to + 1)) in
        let past : place + 1 + 1 + n ≡ place + suc (suc n) = omega arith in
        let last : Leads given code (here slots' (place + 1 + 1) c2) (here (front ++ (v ∷ (new ++ (between ++ late)))) (place + suc (suc n)) rest.0) =
        subst (λ p. Leads given code (here slots' (place + 1 + 1) c2) (here (front ++ (v ∷ (new ++ (between ++ late)))) p rest.0)) past
        (subst (λ l. Leads given code (here slots' (place + 1 + 1) c2) (here l (place + 1 + 1 + n) rest.0)) finish
        (subst (λ l. Leads given code (here l (place + 1 + 1) c2) (here (front' ++ (new ++ (between' ++ (new ++ behind)))) (place + 1 + 1 + n) rest.0)) (sym begin) rest.1)) in
        (rest.0, leads_then given code first (leads_then given code second last))
    moves_all front [] between (v ∷ new) behind from to place count many at_to at_from stands = absurd (omega (arith, many))
    moves_all front (o ∷ old) between [] behind from to place count many at_to at_from stands = absurd (omega (arith, many))

    -- a number is stored in the slot behind some others
    stores : (front : List ℤ) (o v : ℤ) (behind : List ℤ) (to place count : ℕ) (rest : List Instr) → length front ≡ to → Stand code.lines place (I.Store to ∷ rest) → (last : ℕ) × Leads given code (goes (machine_by around s (front ++ (o ∷ behind)) (v ∷ operands) place count)) (here (front ++ (v ∷ behind)) (place + 1) last)
    stores front o v behind to place count rest at_to stands =
        let slots = front ++ (o ∷ behind) in
        let m0 = machine_by around s slots (v ∷ operands) place count in
        let c = (counted m0).steps in
        let cut = machine_by around s slots operands place c in
        let there : slice_get slots to ≡ Some o = ap (slice_get slots) (sym at_to) ∙ get_seam front o behind in
        let put : slice_set slots to v ≡ front ++ (v ∷ behind) = ap (λ k. slice_set slots k v) (sym at_to) ∙ set_seam front o behind v in
        (c, subst (λ n. Leads given code (goes m0) n) (ap (λ x. on_some x (λ w. next (with_slots cut (slice_set slots to v)))) there ∙ ap (λ l. here l (place + 1) c) put) (leads_instr given code m0 (I.Store to) rest stands))

  -- no numbers become those of an array that has none
  pub follows_no_list : {premise : Type 0} {most : ℕ} {setting : Setting} {first : ℕ} (x : Bytes) → look_up setting.names x ≡ Some (V.Array 0) → Follows given code premise most setting first first (holding []) (λ a. ⊤) (λ a. holding []) (write x (W.List []))
  follows_no_list {setting = setting} {first = first} x found =
      record {
        moves = moves_of (keeps_write Moved Moved moved x (W.List []));
        follows = λ around s free count p suits agrees slots few fit.
            let shapes : HasNames setting.names s.values = subst (λ n. HasNames n s.values) suits.names agrees.shapes in
            let r = splits setting.names s.values x (V.Array 0) shapes found in
            let is = array_value 0 (value_of s.values x) r.shape in
            let none = no_items (list_in_value (value_of s.values x)) is.1 in
            let t' = record s { values = with_value s.values x (W.List []) } in
            let same : slots_of s.values ≡ slots_of t'.values = r.has ∙ ap (λ l. r.before ++ (l ++ r.behind)) (is.0 ∙ none) ∙ sym (r.new (W.List [])) in
            let leads : Leads given code (goes (machine_at around s (holding []) free first count)) (goes (machine_at around t' (holding []) free first count)) =
            subst (λ l. Leads given code (goes (machine_at around s (holding []) free first count)) (goes (machine_by around s (l ++ (around.temporaries ++ free)) around.operands first count))) same (leads_same given code _) in
            let names' = subst (λ n. HasNames n t'.values) (sym suits.names) (r.kept (W.List []) (refl, tt)) in
            (tt, record { free = free; count = count; slots = slots; agrees = with_values given code t'.values names' agrees; leads = leads });
      }

  -- the numbers that one keeps become an array's, with one behind them that lies on the operands
  pub follows_list : {premise : Type 0} {most : ℕ} {setting : Setting} {first : ℕ} (x : Bytes) (n : ℕ) (vs : List ℤ) (v : ℤ) → look_up setting.names x ≡ Some (V.Array n) → length vs + 1 ≡ n → AllFit64 (vs ++ v ∷ []) → Stand code.lines first (I.Store (slot_in setting.names x + length vs) ∷ moved_instrs (length vs) (own_slot given code setting 0) (slot_in setting.names x)) → Follows given code premise most setting first (first + 1 + length (moved_instrs (length vs) (own_slot given code setting 0) (slot_in setting.names x))) (record { operands = v ∷ []; temporaries = vs }) (λ a. ⊤) (λ a. holding []) (write x (W.List (vs ++ v ∷ [])))
  follows_list {setting = setting} {first = first} x n vs v found long fits stands =
      record {
        moves = moves_of (keeps_write Moved Moved moved x (W.List (vs ++ v ∷ [])));
        follows = λ around s free count p suits agrees slots few fit.
            let shapes : HasNames setting.names s.values = subst (λ n. HasNames n s.values) suits.names agrees.shapes in
            let r = splits setting.names s.values x (V.Array n) shapes found in
            let is = array_value n (value_of s.values x) r.shape in
            let items = list_in_value (value_of s.values x) in
            let cut = without_last (length vs) items (omega (arith, is.1, long)) in
            let old = cut.others in
            let o = cut.last in
            let new = vs ++ v ∷ [] in
            let has = r.has ∙ ap (λ l. r.before ++ (l ++ r.behind)) is.0 in
            let between = r.behind ++ around.temporaries in
            let late = vs ++ free in
            let to = slot_in setting.names x in
            let from = own_slot given code setting 0 in
            let own : Local = record { operands = v ∷ []; temporaries = vs } in
            let t' = record s { values = with_value s.values x (W.List new) } in
            let past = first + 1 + length (moved_instrs (length vs) from to) in
            let all = slots_length setting.names s.values shapes in
            let parts : length (slots_of s.values) ≡ length r.before + (length items + length r.behind) = ap length has ∙ (length-append r.before (items ++ r.behind) ∙ ap (λ k. length r.before + k) (length-append items r.behind)) in
            let at_last : length (r.before ++ old) ≡ to + length vs = omega (arith, length-append r.before old, r.long, cut.long) in
            let at_from : length r.before + length old + length (v ∷ between) ≡ from = omega (arith, all, parts, is.1, long, cut.long, length-append r.behind around.temporaries, ap length suits.temporaries) in
            let store = stores around s around.operands (r.before ++ old) o v (between ++ late) (to + length vs) first count (moved_instrs (length vs) from to) at_last stands in
            let go = moves_all around s around.operands r.before old (v ∷ between) vs free from to (first + 1) store.0 cut.long r.long at_from stands.3 in
            let opened : (l : List ℤ) → (r.before ++ (l ++ r.behind)) ++ (around.temporaries ++ late) ≡ r.before ++ (l ++ (between ++ late)) = λ l. append_assoc r.before (l ++ r.behind) (around.temporaries ++ late) ∙ ap (λ k. r.before ++ k) (append_assoc l r.behind (around.temporaries ++ late) ∙ ap (λ k. l ++ k) (sym (append_assoc r.behind around.temporaries late))) in
            let parted : (l : List ℤ) (a : ℤ) → r.before ++ ((l ++ a ∷ []) ++ (between ++ late)) ≡ r.before ++ (l ++ (a ∷ (between ++ late))) = λ l a. ap (λ k. r.before ++ k) (append_assoc l (a ∷ []) (between ++ late)) in
            let begins : slots_of s.values ++ (around.temporaries ++ late) ≡ (r.before ++ old) ++ (o ∷ (between ++ late)) = ap (λ l. l ++ (around.temporaries ++ late)) has ∙ opened items ∙ ap (λ l. r.before ++ (l ++ (between ++ late))) cut.same ∙ parted old o ∙ sym (append_assoc r.before old (o ∷ (between ++ late))) in
            let middle : (r.before ++ old) ++ (v ∷ (between ++ late)) ≡ r.before ++ (old ++ (v ∷ (between ++ late))) = append_assoc r.before old (v ∷ (between ++ late)) in
            let ends : r.before ++ (vs ++ (v ∷ (between ++ late))) ≡ slots_of t'.values ++ (around.temporaries ++ late) = sym (parted vs v) ∙ sym (opened new) ∙ ap (λ l. l ++ (around.temporaries ++ late)) (sym (r.new (W.List new))) in
            let put : Leads given code (goes (machine_at around s own free first count)) (goes (machine_by around s (r.before ++ (old ++ (v ∷ (between ++ late)))) around.operands (first + 1) store.0)) =
            subst (λ l. Leads given code (goes (machine_at around s own free first count)) (goes (machine_by around s l around.operands (first + 1) store.0))) middle
            (subst (λ l. Leads given code (goes (machine_by around s l (v ∷ around.operands) first count)) (goes (machine_by around s ((r.before ++ old) ++ (v ∷ (between ++ late))) around.operands (first + 1) store.0))) (sym begins) store.1) in
            let leads : Leads given code (goes (machine_at around s own free first count)) (goes (machine_at around t' (keeping vs) free past go.0)) =
            subst (λ l. Leads given code (goes (machine_at around s own free first count)) (goes (machine_by around s l around.operands past go.0))) ends (leads_then given code put go.1) in
            let many : length new ≡ n = length-append vs (v ∷ []) ∙ long in
            let names' = subst (λ n. HasNames n t'.values) (sym suits.names) (r.kept (W.List new) (many, fits)) in
            (tt, comes_forget given code (keeping vs) (record { free = free; count = go.0; slots = slots; agrees = with_values given code t'.values names' agrees; leads = leads }));
      }
