-- Reading and writing names and temporary slots.
use Rattle.std.proofs.Common.{◌≡◌, ℕ, ◌+◌, ◌≤◌, List, [], ◌∷◌, ◌++◌, length, slice_get, Some, refl, sym, ◌∙◌, ap, subst, arith, append_assoc, length-append}
use Rattle.std.specs.Prelude.{ℤ, pos, ⊤, slice_set}
use Rattle.rtio_types.specs.declared.request.Reply.{Reply}
use Rattle.rtio_types.specs.declared.request.Value.{Value}
use Rattle.rtio_types.specs.declared.request.Value.TheVariants as W
use Rattle.kern_syntax.specs.Tree.{Bytes}
use Rattle.kern_calls.specs.declared.types.ValueType.{ValueType}
use Rattle.kern_calls.specs.declared.types.ValueType.TheVariants as V
use Rattle.kern_calls.specs.Calls.{look_up}
use Rattle.kern_calls.specs.Types.{Names}
use Rattle.timeline_sem.specs.Actions.{State, Action, give, skip, ◌>>=◌}
use Rattle.timeline_sem.specs.Expressions.{value_of, with_value, read, write, number_in_value}
use Rattle.timeline_sem.specs.Laws.{final}
use Rattle.timeline_sem.proofs.Keeps.{keeps_read, keeps_write, keeps_bind, keeps_give}
use Rattle.core_isa.specs.declared.code.Code.{Code}
use Rattle.core_isa.specs.declared.instr.Instr.TheVariants as I
use Rattle.core_isa.specs.Machine.{goes, next, push, with_slots}
use Rattle.core_isa.specs.Steps.{on_some, store_slot}
use Rattle.core_isa.specs.WellAsked.{RepliesFit}
use Rattle.code_forms.specs.Setting.{slot_in, slots_of_names}
use Rattle.code_follows.specs.Stands.{Around, Local, Setting, Suits, SlotsAdd, machine_at, HasShape, HasNames, slots_of_value, slots_of, Fits64, Agrees, Comes, EndsWith}
use Rattle.code_follows.specs.Parts.{Moved, Follows, Stand}
use Rattle.code_follows.proofs.Compose.{moved, moved_same, moves_of}
use Rattle.code_follows.proofs.Beneath.{machine_by}
use Rattle.code_follows.proofs.Requests.{comes_here}
use Rattle.code_follows.proofs.Instructions.{follows_one}
use Rattle.code_follows.proofs.Lists.{get_front, get_seam, get_behind, set_front, set_length, set_seam, set_behind}
use Rattle.code_follows.proofs.Slots.{slots_length, splits}

-- a type of one number
abbrev pub IsScalar : ValueType → Type 0
IsScalar (V.Array n) = ⊥
IsScalar t = Unit {0}

-- a number's value is that number, and fits
scalar_value : (t : ValueType) (v : Value) → IsScalar t → HasShape t v → (slots_of_value v ≡ number_in_value v ∷ []) × Fits64 (number_in_value v)
scalar_value (V.Array n) v i h = absurd i
scalar_value V.Int32 (W.Int v) i h = (refl, h)
scalar_value V.Int64 (W.Int v) i h = (refl, h)
scalar_value V.Bool (W.Int v) i h = (refl, h)
scalar_value V.Int32 (W.List items) i h = absurd h
scalar_value V.Int64 (W.List items) i h = absurd h
scalar_value V.Bool (W.List items) i h = absurd h

pub scalar_shape : (t : ValueType) (a : ℤ) → IsScalar t → Fits64 a → HasShape t (W.Int a)
scalar_shape (V.Array n) a i f = absurd i
scalar_shape V.Int32 a i f = f
scalar_shape V.Int64 a i f = f
scalar_shape V.Bool a i f = f

-- where a list stands between others
get_part : (slots before : List ℤ) (v : ℤ) (behind rest : List ℤ) (n : ℕ) → slots ≡ before ++ ((v ∷ []) ++ behind) → length before ≡ n → slice_get (slots ++ rest) n ≡ Some v
get_part slots before v behind rest n has long =
    ap (λ l. slice_get (l ++ rest) n) has ∙ ap (λ l. slice_get l n) (append_assoc before (v ∷ behind) rest) ∙ ap (λ k. slice_get (before ++ (v ∷ (behind ++ rest))) k) (sym long) ∙ get_seam before v (behind ++ rest)

set_part : (slots before : List ℤ) (v a : ℤ) (behind rest : List ℤ) (n : ℕ) → slots ≡ before ++ ((v ∷ []) ++ behind) → length before ≡ n → slice_set (slots ++ rest) n a ≡ (before ++ ((a ∷ []) ++ behind)) ++ rest
set_part slots before v a behind rest n has long =
    ap (λ l. slice_set (l ++ rest) n a) has ∙ ap (λ l. slice_set l n a) (append_assoc before (v ∷ behind) rest) ∙ ap (λ k. slice_set (before ++ (v ∷ (behind ++ rest))) k a) (sym long) ∙ set_seam before v (behind ++ rest) a ∙ sym (append_assoc before (a ∷ behind) rest)

get_own : (a t r : List ℤ) (n k j : ℕ) → length a ≡ n → length t ≡ k → slice_get (a ++ (t ++ r)) (n + k + j) ≡ slice_get r j
get_own a t r n k j e f =
    let at : n + k + j ≡ length a + (length t + j) = omega (arith, e, f) in
    ap (slice_get (a ++ (t ++ r))) at ∙ get_behind a (t ++ r) (length t + j) ∙ get_behind t r j

set_own : (a t r : List ℤ) (n k j : ℕ) (v : ℤ) → length a ≡ n → length t ≡ k → slice_set (a ++ (t ++ r)) (n + k + j) v ≡ a ++ (t ++ slice_set r j v)
set_own a t r n k j v e f =
    let at : n + k + j ≡ length a + (length t + j) = omega (arith, e, f) in
    ap (λ i. slice_set (a ++ (t ++ r)) i v) at ∙ set_behind a (t ++ r) (length t + j) v ∙ ap (λ l. a ++ l) (set_behind t r j v)

module _ (given : List Reply) (code : Code) where
  pub with_values : {names : Names} {open_one : _} {s : State} (values : List (Bytes × Value)) → HasNames names values → Agrees given names open_one s → Agrees given names open_one (record s { values = values })
  with_values values h g =
      record { shapes = h; collects = g.collects; cursor = g.cursor; replies = g.replies; numbers = g.numbers }

  -- the value of a name
  pub follows_load : {premise : Type 0} {most : ℕ} {setting : Setting} {first : ℕ} (below own : List ℤ) (x : Bytes) (t : ValueType) → look_up setting.names x ≡ Some t → IsScalar t → Stand code.lines first (I.Load (slot_in setting.names x) ∷ []) → Follows given code premise most setting first (first + 1) (record { operands = below; temporaries = own }) Fits64 (λ v. record { operands = v ∷ below; temporaries = own }) (read x >>= λ held. give (number_in_value held))
  follows_load {setting} {first} below own x t found scalar stands =
      follows_one given code (I.Load (slot_in setting.names x)) stands (moves_of (keeps_bind Moved Moved moved (keeps_read Moved Moved moved x) (λ held. keeps_give Moved Moved moved (number_in_value held)))) (λ around s free count p suits agrees slots few fit.
      let h : HasNames setting.names s.values = subst (λ n. HasNames n s.values) suits.names agrees.shapes in
      let r = splits setting.names s.values x t h found in
      let v = value_of s.values x in
      let is = scalar_value t v scalar r.shape in
      let here = get_part (slots_of s.values) r.before (number_in_value v) r.behind (around.temporaries ++ (own ++ free)) (slot_in setting.names x) (r.has ∙ ap (λ l. r.before ++ (l ++ r.behind)) is.0) r.long in
      let m = machine_at around s (record { operands = below; temporaries = own }) free first count in
      (is.1, subst (λ n. Comes given code n around s (record { operands = number_in_value v ∷ below; temporaries = own }) (first + 1)) (sym (ap (λ o. on_some o (λ a. push a m)) here)) (comes_here given code free count slots agrees)))

  -- a name's new value
  pub follows_store : {premise : Type 0} {most : ℕ} {setting : Setting} {first : ℕ} (below own : List ℤ) (x : Bytes) (t : ValueType) (a : ℤ) → look_up setting.names x ≡ Some t → IsScalar t → (premise → Fits64 a) → Stand code.lines first (I.Store (slot_in setting.names x) ∷ []) → Follows given code premise most setting first (first + 1) (record { operands = a ∷ below; temporaries = own }) (λ v. ⊤) (λ v. record { operands = below; temporaries = own }) (write x (W.Int a))
  follows_store {setting} {first} below own x t a found scalar fits stands =
      follows_one given code (I.Store (slot_in setting.names x)) stands (moves_of (keeps_write Moved Moved moved x (W.Int a))) (λ around s free count p suits agrees slots few fit.
      let h : HasNames setting.names s.values = subst (λ n. HasNames n s.values) suits.names agrees.shapes in
      let r = splits setting.names s.values x t h found in
      let v = value_of s.values x in
      let is = scalar_value t v scalar r.shape in
      let rest = around.temporaries ++ (own ++ free) in
      let has = r.has ∙ ap (λ l. r.before ++ (l ++ r.behind)) is.0 in
      let got = get_part (slots_of s.values) r.before (number_in_value v) r.behind rest (slot_in setting.names x) has r.long in
      let put = set_part (slots_of s.values) r.before (number_in_value v) a r.behind rest (slot_in setting.names x) has r.long ∙ ap (λ l. l ++ rest) (sym (r.new (W.Int a))) in
      let m = machine_at around s (record { operands = below; temporaries = own }) free first count in
      let t' = record s { values = with_value s.values x (W.Int a) } in
      let names' = subst (λ n. HasNames n t'.values) (sym suits.names) (r.kept (W.Int a) (scalar_shape t a scalar (fits p))) in
      let same = ap (λ o. on_some o (λ old. next (with_slots m (slice_set m.top.slots (slot_in setting.names x) a)))) got ∙ ap (λ l. goes (machine_by around t' l (below ++ around.operands) (first + 1) count)) put in
      (tt, subst (λ n. Comes given code n around t' (record { operands = below; temporaries = own }) (first + 1)) (sym same) (comes_here given code free count slots (with_values t'.values names' agrees))))

  -- the number of one's own temporary slot
  abbrev pub own_slot : Setting → ℕ → ℕ
  own_slot setting j = slots_of_names setting.names + length setting.temporaries + j

  -- a temporary slot of one's own
  pub follows_own : {premise : Type 0} {most : ℕ} {setting : Setting} {first : ℕ} (operands own : List ℤ) (j : ℕ) (v : ℤ) → slice_get own j ≡ Some v → (premise → Fits64 v) → Stand code.lines first (I.Load (own_slot setting j) ∷ []) → Follows given code premise most setting first (first + 1) (record { operands = operands; temporaries = own }) Fits64 (λ a. record { operands = a ∷ operands; temporaries = own }) (give v)
  follows_own {setting} {first} operands own j v there fits stands =
      follows_one given code (I.Load (own_slot setting j)) stands moved_same (λ around s free count p suits agrees slots few fit.
      let h : HasNames setting.names s.values = subst (λ n. HasNames n s.values) suits.names agrees.shapes in
      let local : Local = record { operands = operands; temporaries = own } in
      let m = machine_at around s local free first count in
      let got = get_own (slots_of s.values) around.temporaries (own ++ free) (slots_of_names setting.names) (length setting.temporaries) j (slots_length setting.names s.values h) (ap length suits.temporaries) ∙ get_front own free j v there in
      (fits p, subst (λ n. Comes given code n around s (record { operands = v ∷ operands; temporaries = own }) (first + 1)) (sym (ap (λ o. on_some o (λ a. push a m)) got)) (comes_here given code free count slots agrees)))

  -- a temporary slot of an enclosing part
  pub follows_enclosing : {premise : Type 0} {most : ℕ} {setting : Setting} {first : ℕ} (operands own : List ℤ) (j : ℕ) (v : ℤ) → slice_get setting.temporaries j ≡ Some v → (premise → Fits64 v) → Stand code.lines first (I.Load (slots_of_names setting.names + j) ∷ []) → Follows given code premise most setting first (first + 1) (record { operands = operands; temporaries = own }) Fits64 (λ a. record { operands = a ∷ operands; temporaries = own }) (give v)
  follows_enclosing {setting} {first} operands own j v there fits stands =
      follows_one given code (I.Load (slots_of_names setting.names + j)) stands moved_same (λ around s free count p suits agrees slots few fit.
      let h : HasNames setting.names s.values = subst (λ n. HasNames n s.values) suits.names agrees.shapes in
      let local : Local = record { operands = operands; temporaries = own } in
      let m = machine_at around s local free first count in
      let long = slots_length setting.names s.values h in
      let at : slots_of_names setting.names + j ≡ length (slots_of s.values) + j = omega (arith, long) in
      let got = ap (slice_get m.top.slots) at ∙ get_behind (slots_of s.values) (around.temporaries ++ (own ++ free)) j ∙ get_front around.temporaries (own ++ free) j v (subst (λ ts. slice_get ts j ≡ Some v) (sym suits.temporaries) there) in
      (fits p, subst (λ n. Comes given code n around s (record { operands = v ∷ operands; temporaries = own }) (first + 1)) (sym (ap (λ o. on_some o (λ a. push a m)) got)) (comes_here given code free count slots agrees)))

  -- a new value in a temporary slot of one's own
  pub follows_put : {premise : Type 0} {most : ℕ} {setting : Setting} {first : ℕ} (operands own : List ℤ) (j : ℕ) (old v : ℤ) → slice_get own j ≡ Some old → Stand code.lines first (I.Store (own_slot setting j) ∷ []) → Follows given code premise most setting first (first + 1) (record { operands = v ∷ operands; temporaries = own }) (λ a. ⊤) (λ a. record { operands = operands; temporaries = slice_set own j v }) skip
  follows_put {setting} {first} operands own j old v there stands =
      follows_one given code (I.Store (own_slot setting j)) stands moved_same (λ around s free count p suits agrees slots few fit.
      let h : HasNames setting.names s.values = subst (λ n. HasNames n s.values) suits.names agrees.shapes in
      let m = machine_at around s (record { operands = operands; temporaries = own }) free first count in
      let long = slots_length setting.names s.values h in
      let kept = ap length suits.temporaries in
      let got = get_own (slots_of s.values) around.temporaries (own ++ free) (slots_of_names setting.names) (length setting.temporaries) j long kept ∙ get_front own free j old there in
      let put = set_own (slots_of s.values) around.temporaries (own ++ free) (slots_of_names setting.names) (length setting.temporaries) j v long kept ∙ ap (λ l. slots_of s.values ++ (around.temporaries ++ l)) (set_front own free j old v there) in
      let same = ap (λ o. on_some o (λ x. next (with_slots m (slice_set m.top.slots (own_slot setting j) v)))) got ∙ ap (λ l. goes (machine_by around s l (operands ++ around.operands) (first + 1) count)) put in
      let slots' : SlotsAdd around (slice_set own j v) free = omega (arith, slots, set_length own j v) in
      (tt, subst (λ n. Comes given code n around s (record { operands = operands; temporaries = slice_set own j v }) (first + 1)) (sym same) (comes_here given code free count slots' agrees)))

  kept_by : (setting : Setting) (first : ℕ) (operands own : List ℤ) (v : ℤ) (around : Around) (s : State) (free : List ℤ) (count : ℕ) → length setting.temporaries + length own + 1 ≤ setting.limit → Suits setting around → Agrees given around.names around.opening s → SlotsAdd around own free → Comes given code (store_slot (own_slot setting (length own)) v (machine_at around s (record { operands = operands; temporaries = own }) free first count)) around s (record { operands = operands; temporaries = own ++ v ∷ [] }) (first + 1)
  kept_by setting first operands own v around s [] count room suits agrees slots =
      absurd (omega (arith, room, slots, suits.slots, ap length suits.temporaries))
  kept_by setting first operands own v around s (f ∷ free) count room suits agrees slots =
      let h : HasNames setting.names s.values = subst (λ n. HasNames n s.values) suits.names agrees.shapes in
      let m = machine_at around s (record { operands = operands; temporaries = own }) (f ∷ free) first count in
      let long = slots_length setting.names s.values h in
      let kept = ap length suits.temporaries in
      let got = get_own (slots_of s.values) around.temporaries (own ++ (f ∷ free)) (slots_of_names setting.names) (length setting.temporaries) (length own) long kept ∙ get_seam own f free in
      let put = set_own (slots_of s.values) around.temporaries (own ++ (f ∷ free)) (slots_of_names setting.names) (length setting.temporaries) (length own) v long kept ∙ ap (λ l. slots_of s.values ++ (around.temporaries ++ l)) (set_seam own f free v ∙ sym (append_assoc own (v ∷ []) free)) in
      let same = ap (λ o. on_some o (λ x. next (with_slots m (slice_set m.top.slots (own_slot setting (length own)) v)))) got ∙ ap (λ l. goes (machine_by around s l (operands ++ around.operands) (first + 1) count)) put in
      let slots' : SlotsAdd around (own ++ v ∷ []) free = omega (arith, slots, length-append own (v ∷ [])) in
      subst (λ n. Comes given code n around s (record { operands = operands; temporaries = own ++ v ∷ [] }) (first + 1)) (sym same) (comes_here given code free count slots' agrees)

  -- a further temporary slot of one's own
  pub follows_keep : {premise : Type 0} {most : ℕ} {setting : Setting} {first : ℕ} (operands own : List ℤ) (v : ℤ) → length setting.temporaries + length own + 1 ≤ setting.limit → Stand code.lines first (I.Store (own_slot setting (length own)) ∷ []) → Follows given code premise most setting first (first + 1) (record { operands = v ∷ operands; temporaries = own }) (λ a. ⊤) (λ a. record { operands = operands; temporaries = own ++ v ∷ [] }) skip
  follows_keep {setting} {first} operands own v room stands =
      follows_one given code (I.Store (own_slot setting (length own))) stands moved_same (λ around s free count p suits agrees slots few fit.
      (tt, kept_by setting first operands own v around s free count room suits agrees slots))

  -- a free slot becomes one's own
  reserved : {A : Type 0} {premise : Type 0} {most : ℕ} (setting : Setting) (first past : ℕ) (operands own : List ℤ) (good : A → Type 0) (results : A → Local) (m : Action A) → ((f : ℤ) → Follows given code premise most setting first past (record { operands = operands; temporaries = own ++ f ∷ [] }) good results m) → (around : Around) (s : State) (free : List ℤ) (count : ℕ) → premise → length setting.temporaries + length own + 1 ≤ setting.limit → Suits setting around → Agrees given around.names around.opening s → SlotsAdd around own free → s.units ≤ most → RepliesFit (final (m s)).asked given → EndsWith given code setting (goes (machine_at around s (record { operands = operands; temporaries = own }) free first count)) around past good results (m s)
  reserved setting first past operands own good results m fm around s [] count p room suits agrees slots few fit =
      absurd (omega (arith, room, slots, suits.slots, ap length suits.temporaries))
  reserved setting first past operands own good results m fm around s (f ∷ free) count p room suits agrees slots few fit =
      let slots' : SlotsAdd around (own ++ f ∷ []) free = omega (arith, slots, length-append own (f ∷ [])) in
      let same = ap (λ l. machine_by around s (slots_of s.values ++ (around.temporaries ++ l)) (operands ++ around.operands) first count) (append_assoc own (f ∷ []) free) in
      subst (λ x. EndsWith given code setting (goes x) around past good results (m s)) same ((fm f).follows around s free count p suits agrees slots' few fit)

  pub follows_reserve : {A : Type 0} {premise : Type 0} {most : ℕ} {setting : Setting} {first past : ℕ} (operands own : List ℤ) {good : A → Type 0} {results : A → Local} {m : Action A} → length setting.temporaries + length own + 1 ≤ setting.limit → ((f : ℤ) → Follows given code premise most setting first past (record { operands = operands; temporaries = own ++ f ∷ [] }) good results m) → Follows given code premise most setting first past (record { operands = operands; temporaries = own }) good results m
  follows_reserve {setting = setting} {first = first} {past = past} operands own {good} {results} {m} room fm =
      record {
        moves = (fm (pos 0)).moves;
        follows = λ around s free count p suits agrees slots few fit. reserved setting first past operands own good results m fm around s free count p room suits agrees slots few fit;
      }
