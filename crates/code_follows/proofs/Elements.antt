-- Elements of arrays are read and written, and whole arrays, as is meant.
use Rattle.std.proofs.Common.{◌≡◌, ℕ, zero, suc, ◌+◌, ◌≤◌, ◌<◌, List, [], ◌∷◌, ◌++◌, length, drop, replicate, slice_get, Option, Some, None, refl, sym, ◌∙◌, ap, subst, arith, append_assoc, length-append}
use Rattle.std.specs.Prelude.{true, false, ℤ, pos, negsuc, ⊤, take, slice_set, nat_lt, nat_le, is_some, option_map, unwrap_or, if◌then◌else◌}
use Rattle.std.proofs.Math.Seq.{drop-append_seam, take-append_seam, drop-append-add}
use Rattle.std.proofs.lemmas.Bool.{false≢true}
use Rattle.rtio_types.specs.declared.outcome.Exc.TheVariants.{IndexError}
use Rattle.rtio_types.specs.declared.request.Reply.{Reply}
use Rattle.rtio_types.specs.declared.request.Value.{Value}
use Rattle.rtio_types.specs.declared.request.Value.TheVariants as W
use Rattle.kern_syntax.specs.Tree.{Bytes}
use Rattle.kern_calls.specs.declared.types.ValueType.TheVariants as V
use Rattle.kern_calls.specs.Calls.{look_up}
use Rattle.timeline_sem.specs.Actions.{State, Completion, go_on}
use Rattle.timeline_sem.specs.Expressions.{value_of, with_value, list_in_value, or_raise, write, read_element, write_element}
use Rattle.timeline_sem.proofs.Keeps.{keeps_read_element, keeps_write_element, keeps_write}
use Rattle.core_isa.specs.declared.code.Code.{Code}
use Rattle.core_isa.specs.declared.instr.Instr.TheVariants as I
use Rattle.core_isa.specs.Machine.{goes, next, push, with_slots}
use Rattle.core_isa.specs.Steps.{on_some, array_at, with_array, index_in, index_or_raise, store_slot, load_at, store_at}
use Rattle.code_forms.specs.Setting.{slot_in}
use Rattle.code_follows.specs.Stands.{Around, Setting, Suits, SlotsAdd, HasShape, HasNames, AllFit64, Fits64, slots_of, slots_of_value, machine_at, Agrees, Comes, EndsWith}
use Rattle.code_follows.specs.Parts.{Moved, Follows, Stand}
use Rattle.code_follows.proofs.Beneath.{machine_by}
use Rattle.code_follows.proofs.Compose.{moved, moves_of}
use Rattle.code_follows.proofs.Instructions.{follows_one}
use Rattle.code_follows.proofs.Lists.{get_front, get_behind, set_front, set_behind, set_length}
use Rattle.code_follows.proofs.Requests.{comes_here, raises_here}
use Rattle.code_follows.proofs.Slots.{splits}
use Rattle.code_follows.proofs.Variables.{with_values}

-- an array's value is a list of its length, whose numbers fit
pub array_value : (n : ℕ) (v : Value) → HasShape (V.Array n) v → (slots_of_value v ≡ list_in_value v) × (length (list_in_value v) ≡ n) × AllFit64 (list_in_value v)
array_value n (W.List items) h = (refl, h.0, h.1)
array_value n (W.Int v) h = absurd h

-- an item that is there
there_below : (items : List ℤ) (k : ℕ) (v : ℤ) → slice_get items k ≡ Some v → k < length items
there_below [] k v e = absurd (false≢true (ap is_some e))
there_below (x ∷ items) zero v e = omega arith
there_below (x ∷ items) (suc k) v e = omega (arith, there_below items k v e)

missing_above : (items : List ℤ) (k : ℕ) → slice_get items k ≡ None → length items ≤ k
missing_above [] k e = omega arith
missing_above (x ∷ items) zero e = absurd (false≢true (sym (ap is_some e)))
missing_above (x ∷ items) (suc k) e = omega (arith, missing_above items k e)

item_fits : (items : List ℤ) (k : ℕ) (v : ℤ) → AllFit64 items → slice_get items k ≡ Some v → Fits64 v
item_fits [] k v f e = absurd (false≢true (ap is_some e))
item_fits (x ∷ items) zero v f e = subst Fits64 (ap (λ o. unwrap_or o v) e) f.0
item_fits (x ∷ items) (suc k) v f e = item_fits items k v f.1 e

set_fits : (items : List ℤ) (k : ℕ) (v : ℤ) → AllFit64 items → Fits64 v → AllFit64 (slice_set items k v)
set_fits [] k v f g = tt
set_fits (x ∷ items) zero v f g = (g, f.1)
set_fits (x ∷ items) (suc k) v f g = (f.0, set_fits items k v f.1 g)

pub same_fit : (n : ℕ) (v : ℤ) → Fits64 v → AllFit64 (replicate n v)
same_fit zero v f = tt
same_fit (suc n) v f = (f, same_fit n v f)

pub same_long : (n : ℕ) (v : ℤ) → length (replicate n v) ≡ n
same_long zero v = refl
same_long (suc n) v = ap suc (same_long n v)

index_below : (n k : ℕ) → k < n → index_in n (pos k) ≡ Some k
index_below n k less =
    let e : nat_lt k n ≡ true = grind (arith, less) in
    ap (λ b. if b then Some k else None) e

index_above : (n k : ℕ) → n ≤ k → index_in n (pos k) ≡ None
index_above n k more =
    let e : nat_lt k n ≡ false = grind (arith, more) in
    ap (λ b. if b then Some k else None) e

-- an item of a list that stands between others
get_item : (slots before items behind rest : List ℤ) (s k : ℕ) (v : ℤ) → slots ≡ before ++ (items ++ behind) → length before ≡ s → slice_get items k ≡ Some v → slice_get (slots ++ rest) (s + k) ≡ Some v
get_item slots before items behind rest s k v has long e =
    ap (λ l. slice_get (l ++ rest) (s + k)) has
    ∙ ap (λ l. slice_get l (s + k)) (append_assoc before (items ++ behind) rest)
    ∙ ap (λ j. slice_get (before ++ ((items ++ behind) ++ rest)) (j + k)) (sym long)
    ∙ get_behind before ((items ++ behind) ++ rest) k
    ∙ get_front (items ++ behind) rest k v (get_front items behind k v e)

set_item : (slots before items behind rest : List ℤ) (s k : ℕ) (old v : ℤ) → slots ≡ before ++ (items ++ behind) → length before ≡ s → slice_get items k ≡ Some old → slice_set (slots ++ rest) (s + k) v ≡ (before ++ (slice_set items k v ++ behind)) ++ rest
set_item slots before items behind rest s k old v has long e =
    ap (λ l. slice_set (l ++ rest) (s + k) v) has
    ∙ ap (λ l. slice_set l (s + k) v) (append_assoc before (items ++ behind) rest)
    ∙ ap (λ j. slice_set (before ++ ((items ++ behind) ++ rest)) (j + k) v) (sym long)
    ∙ set_behind before ((items ++ behind) ++ rest) k v
    ∙ ap (λ l. before ++ l) (set_front (items ++ behind) rest k old v (get_front items behind k old e) ∙ ap (λ l. l ++ rest) (set_front items behind k old v e))
    ∙ sym (append_assoc before (slice_set items k v ++ behind) rest)

-- a list between others is seen as an array, and written anew
drop_sum : (xs ys rest : List ℤ) (s n : ℕ) → length xs ≡ s → length ys ≡ n → drop (s + n) (xs ++ (ys ++ rest)) ≡ rest
drop_sum xs ys rest s n e f =
    ap (λ k. drop (k + n) (xs ++ (ys ++ rest))) (sym e) ∙ drop-append-add xs (ys ++ rest) n ∙ ap (λ k. drop k (ys ++ rest)) (sym f) ∙ drop-append_seam ys rest

pub array_between : (slots before items behind rest : List ℤ) (s n : ℕ) → slots ≡ before ++ (items ++ behind) → length before ≡ s → length items ≡ n → array_at (slots ++ rest) s n ≡ Some items
array_between slots before items behind rest s n has long many =
    let whole = before ++ (items ++ (behind ++ rest)) in
    let same : slots ++ rest ≡ whole = ap (λ l. l ++ rest) has ∙ append_assoc before (items ++ behind) rest ∙ ap (λ l. before ++ l) (append_assoc items behind rest) in
    let less : s + n ≤ length whole = omega (arith, long, many, length-append before (items ++ (behind ++ rest)), length-append items (behind ++ rest)) in
    let fits : nat_le (s + n) (length whole) ≡ true = grind (arith, less) in
    let front : drop s whole ≡ items ++ (behind ++ rest) = ap (λ k. drop k whole) (sym long) ∙ drop-append_seam before (items ++ (behind ++ rest)) in
    ap (λ l. array_at l s n) same
    ∙ ap (λ b. if b then Some (take n (drop s whole)) else None) fits
    ∙ ap (λ l. Some (take n l)) front
    ∙ ap (λ k. Some (take k (items ++ (behind ++ rest)))) (sym many)
    ∙ ap Some (take-append_seam items (behind ++ rest))

pub array_anew : (slots before items behind rest new : List ℤ) (s : ℕ) → slots ≡ before ++ (items ++ behind) → length before ≡ s → length new ≡ length items → with_array (slots ++ rest) s new ≡ (before ++ (new ++ behind)) ++ rest
array_anew slots before items behind rest new s has long many =
    let whole = before ++ (items ++ (behind ++ rest)) in
    let same : slots ++ rest ≡ whole = ap (λ l. l ++ rest) has ∙ append_assoc before (items ++ behind) rest ∙ ap (λ l. before ++ l) (append_assoc items behind rest) in
    ap (λ l. with_array l s new) same
    ∙ ap (λ l. l ++ new ++ drop (s + length new) whole) (ap (λ k. take k whole) (sym long) ∙ take-append_seam before (items ++ (behind ++ rest)))
    ∙ ap (λ l. before ++ new ++ l) (drop_sum before items (behind ++ rest) s (length new) long (sym many))
    ∙ append_assoc before new (behind ++ rest)
    ∙ ap (λ l. before ++ l) (sym (append_assoc new behind rest))
    ∙ sym (append_assoc before (new ++ behind) rest)

module _ (given : List Reply) (code : Code) where
  module _ (setting : Setting) (below own : List ℤ) (first : ℕ) (x : Bytes) (n : ℕ) (found : look_up setting.names x ≡ Some (V.Array n)) where
    -- an element that is there, or not
    loaded_by : (k : ℕ) (around : Around) (s : State) (free : List ℤ) (count : ℕ) → Suits setting around → Agrees given around.names around.opening s → SlotsAdd around own free → (o : Option ℤ) → slice_get (list_in_value (value_of s.values x)) k ≡ o → EndsWith given code setting (load_at (slot_in setting.names x) n (pos k) (machine_at around s (record { operands = below; temporaries = own }) free first count)) around (first + 1) Fits64 (λ v. record { operands = v ∷ below; temporaries = own }) (or_raise o IndexError s)
    loaded_by k around s free count suits agrees slots None e =
        let m = machine_at around s (record { operands = below; temporaries = own }) free first count in
        let items = list_in_value (value_of s.values x) in
        let shapes = subst (λ n. HasNames n s.values) suits.names agrees.shapes in
        let r = splits setting.names s.values x (V.Array n) shapes found in
        let is = array_value n (value_of s.values x) r.shape in
        let none = index_above n k (omega (arith, missing_above items k e, is.1)) in
        subst (λ o. EndsWith given code setting (index_or_raise o (λ j. on_some (slice_get m.top.slots (slot_in setting.names x + j)) (λ v. push v m)) m) around (first + 1) Fits64 (λ v. record { operands = v ∷ below; temporaries = own }) (or_raise None IndexError s)) (sym none) (raises_here given code (record { operands = below; temporaries = own }) free first count slots agrees)
    loaded_by k around s free count suits agrees slots (Some v) e =
        let m = machine_at around s (record { operands = below; temporaries = own }) free first count in
        let items = list_in_value (value_of s.values x) in
        let shapes = subst (λ n. HasNames n s.values) suits.names agrees.shapes in
        let r = splits setting.names s.values x (V.Array n) shapes found in
        let is = array_value n (value_of s.values x) r.shape in
        let some = index_below n k (omega (arith, there_below items k v e, is.1)) in
        let has = r.has ∙ ap (λ l. r.before ++ (l ++ r.behind)) is.0 in
        let got = get_item (slots_of s.values) r.before items r.behind (around.temporaries ++ (own ++ free)) (slot_in setting.names x) k v has r.long e in
        let same = ap (λ o. index_or_raise o (λ j. on_some (slice_get m.top.slots (slot_in setting.names x + j)) (λ v. push v m)) m) some ∙ ap (λ o. on_some o (λ v. push v m)) got in
        (item_fits items k v is.2 e, subst (λ n. Comes given code n around s (record { operands = v ∷ below; temporaries = own }) (first + 1)) (sym same) (comes_here given code free count slots agrees))

    -- an element, by its index
    loaded : (i : ℤ) (around : Around) (s : State) (free : List ℤ) (count : ℕ) → Suits setting around → Agrees given around.names around.opening s → SlotsAdd around own free → EndsWith given code setting (load_at (slot_in setting.names x) n i (machine_at around s (record { operands = below; temporaries = own }) free first count)) around (first + 1) Fits64 (λ v. record { operands = v ∷ below; temporaries = own }) (read_element x i s)
    loaded (negsuc i) around s free count suits agrees slots =
        raises_here given code (record { operands = below; temporaries = own }) free first count slots agrees
    loaded (pos k) around s free count suits agrees slots =
        loaded_by k around s free count suits agrees slots (slice_get (list_in_value (value_of s.values x)) k) refl

    -- what is written, where the element is there
    abbrev written : ℕ → ℤ → State → Option ℤ → Completion ⊤
    written k a s o =
        go_on (or_raise (option_map (λ old. slice_set (list_in_value (value_of s.values x)) k a) o) IndexError s) (λ new. write x (W.List new))

    stored_by : (k : ℕ) (a : ℤ) → Fits64 a → (around : Around) (s : State) (free : List ℤ) (count : ℕ) → Suits setting around → Agrees given around.names around.opening s → SlotsAdd around own free → (o : Option ℤ) → slice_get (list_in_value (value_of s.values x)) k ≡ o → EndsWith given code setting (store_at (slot_in setting.names x) n a (pos k) (machine_at around s (record { operands = below; temporaries = own }) free first count)) around (first + 1) (λ v. ⊤) (λ v. record { operands = below; temporaries = own }) (written k a s o)
    stored_by k a fits around s free count suits agrees slots None e =
        let m = machine_at around s (record { operands = below; temporaries = own }) free first count in
        let items = list_in_value (value_of s.values x) in
        let shapes = subst (λ n. HasNames n s.values) suits.names agrees.shapes in
        let r = splits setting.names s.values x (V.Array n) shapes found in
        let is = array_value n (value_of s.values x) r.shape in
        let none = index_above n k (omega (arith, missing_above items k e, is.1)) in
        subst (λ o. EndsWith given code setting (index_or_raise o (λ j. store_slot (slot_in setting.names x + j) a m) m) around (first + 1) (λ v. ⊤) (λ v. record { operands = below; temporaries = own }) (written k a s None)) (sym none) (raises_here given code (record { operands = below; temporaries = own }) free first count slots agrees)
    stored_by k a fits around s free count suits agrees slots (Some v) e =
        let m = machine_at around s (record { operands = below; temporaries = own }) free first count in
        let items = list_in_value (value_of s.values x) in
        let shapes = subst (λ n. HasNames n s.values) suits.names agrees.shapes in
        let r = splits setting.names s.values x (V.Array n) shapes found in
        let is = array_value n (value_of s.values x) r.shape in
        let some = index_below n k (omega (arith, there_below items k v e, is.1)) in
        let has = r.has ∙ ap (λ l. r.before ++ (l ++ r.behind)) is.0 in
        let rest = around.temporaries ++ (own ++ free) in
        let new = slice_set items k a in
        let t' = record s { values = with_value s.values x (W.List new) } in
        let got = get_item (slots_of s.values) r.before items r.behind rest (slot_in setting.names x) k v has r.long e in
        let put = set_item (slots_of s.values) r.before items r.behind rest (slot_in setting.names x) k v a has r.long e ∙ ap (λ l. l ++ rest) (sym (r.new (W.List new))) in
        let names' = subst (λ n. HasNames n t'.values) (sym suits.names) (r.kept (W.List new) (set_length items k a ∙ is.1, set_fits items k a is.2 fits)) in
        let same = ap (λ o. index_or_raise o (λ j. store_slot (slot_in setting.names x + j) a m) m) some ∙ ap (λ o. on_some o (λ old. next (with_slots m (slice_set m.top.slots (slot_in setting.names x + k) a)))) got ∙ ap (λ l. goes (machine_by around t' l (below ++ around.operands) (first + 1) count)) put in
        (tt, subst (λ n. Comes given code n around t' (record { operands = below; temporaries = own }) (first + 1)) (sym same) (comes_here given code free count slots (with_values given code t'.values names' agrees)))

    -- an element's new value
    stored : (i a : ℤ) → Fits64 a → (around : Around) (s : State) (free : List ℤ) (count : ℕ) → Suits setting around → Agrees given around.names around.opening s → SlotsAdd around own free → EndsWith given code setting (store_at (slot_in setting.names x) n a i (machine_at around s (record { operands = below; temporaries = own }) free first count)) around (first + 1) (λ v. ⊤) (λ v. record { operands = below; temporaries = own }) (write_element x i a s)
    stored (negsuc i) a fits around s free count suits agrees slots =
        raises_here given code (record { operands = below; temporaries = own }) free first count slots agrees
    stored (pos k) a fits around s free count suits agrees slots =
        stored_by k a fits around s free count suits agrees slots (slice_get (list_in_value (value_of s.values x)) k) refl

    -- all elements anew
    filled : (a : ℤ) → Fits64 a → (around : Around) (s : State) (free : List ℤ) (count : ℕ) → Suits setting around → Agrees given around.names around.opening s → SlotsAdd around own free → EndsWith given code setting (on_some (array_at (machine_at around s (record { operands = below; temporaries = own }) free first count).top.slots (slot_in setting.names x) n) (λ old. next (with_slots (machine_at around s (record { operands = below; temporaries = own }) free first count) (with_array (machine_at around s (record { operands = below; temporaries = own }) free first count).top.slots (slot_in setting.names x) (replicate n a))))) around (first + 1) (λ v. ⊤) (λ v. record { operands = below; temporaries = own }) (write x (W.List (replicate n a)) s)
    filled a fits around s free count suits agrees slots =
        let shapes = subst (λ n. HasNames n s.values) suits.names agrees.shapes in
        let m = machine_at around s (record { operands = below; temporaries = own }) free first count in
        let r = splits setting.names s.values x (V.Array n) shapes found in
        let is = array_value n (value_of s.values x) r.shape in
        let items = list_in_value (value_of s.values x) in
        let new = replicate n a in
        let has = r.has ∙ ap (λ l. r.before ++ (l ++ r.behind)) is.0 in
        let rest = around.temporaries ++ (own ++ free) in
        let t' = record s { values = with_value s.values x (W.List new) } in
        let got = array_between (slots_of s.values) r.before items r.behind rest (slot_in setting.names x) n has r.long is.1 in
        let put = array_anew (slots_of s.values) r.before items r.behind rest new (slot_in setting.names x) has r.long (same_long n a ∙ sym is.1) ∙ ap (λ l. l ++ rest) (sym (r.new (W.List new))) in
        let names' = subst (λ n. HasNames n t'.values) (sym suits.names) (r.kept (W.List new) (same_long n a, same_fit n a fits)) in
        let same = ap (λ o. on_some o (λ old. next (with_slots m (with_array m.top.slots (slot_in setting.names x) new)))) got ∙ ap (λ l. goes (machine_by around t' l (below ++ around.operands) (first + 1) count)) put in
        (tt, subst (λ n. Comes given code n around t' (record { operands = below; temporaries = own }) (first + 1)) (sym same) (comes_here given code free count slots (with_values given code t'.values names' agrees)))

  pub follows_load_at : {premise : Type 0} {most : ℕ} {setting : Setting} {first : ℕ} (below own : List ℤ) (x : Bytes) (n : ℕ) (i : ℤ) → look_up setting.names x ≡ Some (V.Array n) → Stand code.lines first (I.LoadAt (slot_in setting.names x) n ∷ []) → Follows given code premise most setting first (first + 1) (record { operands = i ∷ below; temporaries = own }) Fits64 (λ v. record { operands = v ∷ below; temporaries = own }) (read_element x i)
  follows_load_at {setting} {first} below own x n i found stands =
      follows_one given code (I.LoadAt (slot_in setting.names x) n) stands (moves_of (keeps_read_element Moved Moved moved x i)) (λ around s free count p suits agrees slots few fit. loaded setting below own first x n found i around s free count suits agrees slots)

  pub follows_store_at : {premise : Type 0} {most : ℕ} {setting : Setting} {first : ℕ} (below own : List ℤ) (x : Bytes) (n : ℕ) (i a : ℤ) → look_up setting.names x ≡ Some (V.Array n) → (premise → Fits64 a) → Stand code.lines first (I.StoreAt (slot_in setting.names x) n ∷ []) → Follows given code premise most setting first (first + 1) (record { operands = i ∷ a ∷ below; temporaries = own }) (λ v. ⊤) (λ v. record { operands = below; temporaries = own }) (write_element x i a)
  follows_store_at {setting} {first} below own x n i a found fits stands =
      follows_one given code (I.StoreAt (slot_in setting.names x) n) stands (moves_of (keeps_write_element Moved Moved moved x i a)) (λ around s free count p suits agrees slots few fit. stored setting below own first x n found i a (fits p) around s free count suits agrees slots)

  pub follows_fill : {premise : Type 0} {most : ℕ} {setting : Setting} {first : ℕ} (below own : List ℤ) (x : Bytes) (n : ℕ) (a : ℤ) → look_up setting.names x ≡ Some (V.Array n) → (premise → Fits64 a) → Stand code.lines first (I.Fill (slot_in setting.names x) n ∷ []) → Follows given code premise most setting first (first + 1) (record { operands = a ∷ below; temporaries = own }) (λ v. ⊤) (λ v. record { operands = below; temporaries = own }) (write x (W.List (replicate n a)))
  follows_fill {setting} {first} below own x n a found fits stands =
      follows_one given code (I.Fill (slot_in setting.names x) n) stands (moves_of (keeps_write Moved Moved moved x (W.List (replicate n a)))) (λ around s free count p suits agrees slots few fit. filled setting below own first x n found a (fits p) around s free count suits agrees slots)
