-- Datasets are set as is meant: to a number, or to the numbers of an array.
use Rattle.std.proofs.Common.{◌≡◌, ℕ, ◌+◌, ◌<◌, ◌^◌, List, [], ◌∷◌, ◌++◌, length, slice_get, Some, refl, sym, ◌∙◌, ap, subst, arith}
use Rattle.std.specs.Prelude.{ℤ, pos, ⊤}
use Rattle.rtio_types.specs.declared.request.Request.TheVariants as Q
use Rattle.rtio_types.specs.declared.request.Reply.{Reply}
use Rattle.rtio_types.specs.declared.request.Value.{Value}
use Rattle.rtio_types.specs.declared.request.Value.TheVariants as W
use Rattle.kern_syntax.specs.Tree.{Bytes}
use Rattle.kern_calls.specs.declared.types.ValueType.TheVariants as V
use Rattle.kern_calls.specs.Calls.{look_up}
use Rattle.timeline_sem.specs.Actions.{skip, give, ◌>>=◌}
use Rattle.timeline_sem.specs.Expressions.{value_of, list_in_value, read}
use Rattle.timeline_sem.specs.Timeline.{tell}
use Rattle.timeline_sem.proofs.Keeps.{keeps_bind, keeps_give, keeps_read, keeps_tell}
use Rattle.core_isa.specs.declared.code.Code.{Code}
use Rattle.core_isa.specs.declared.instr.Instr.TheVariants as I
use Rattle.core_isa.specs.Machine.{next, push}
use Rattle.core_isa.specs.Steps as S
use Rattle.core_isa.specs.Steps.{act, on_some, array_at}
use Rattle.code_forms.specs.Setting.{slot_in}
use Rattle.code_follows.specs.Stands.{holding, Setting, HasShape, HasNames, slots_of, machine_at, Fits64, Comes, EndsWith}
use Rattle.code_follows.specs.Parts.{Moved, Follows, Stand}
use Rattle.code_follows.proofs.Compose.{moved, moved_same, moves_of}
use Rattle.code_follows.proofs.Elements.{array_value, array_between}
use Rattle.code_follows.proofs.Instructions.{follows_one, follows_told}
use Rattle.code_follows.proofs.Requests.{comes_here, ends_request}
use Rattle.code_follows.proofs.Slots.{splits}

-- an array's value is the list of its numbers
list_value : (n : ℕ) (v : Value) → HasShape (V.Array n) v → v ≡ W.List (list_in_value v)
list_value n (W.List items) h = refl
list_value n (W.Int v) h = absurd h

module _ (given : List Reply) (code : Code) where
  pub follows_data_number : {premise : Type 0} {most : ℕ} {setting : Setting} {first : ℕ} (k : ℕ) (name : List ℕ) (v : ℤ) → slice_get code.names k ≡ Some name → Stand code.lines first (I.DataInt k ∷ []) → Follows given code premise most setting first (first + 1) (holding (v ∷ [])) (λ a. ⊤) (λ a. holding []) (tell (Q.Data name (W.Int v)))
  follows_data_number {first = first} k name v named stands =
      follows_told given code (I.DataInt k) (Q.Data name (W.Int v)) stands (λ around s free count. ap (λ o. on_some o (λ n. S.on_one (machine_at around s (holding (v ∷ [])) free first count) (λ w. S.ask_only (Q.Data n (W.Int w))))) named)

  pub follows_data_list : {premise : Type 0} {most : ℕ} {setting : Setting} {first : ℕ} (k : ℕ) (name : List ℕ) (x : Bytes) (n : ℕ) → slice_get code.names k ≡ Some name → look_up setting.names x ≡ Some (V.Array n) → Stand code.lines first (I.DataList k (slot_in setting.names x) n ∷ []) → Follows given code premise most setting first (first + 1) (holding []) (λ a. ⊤) (λ a. holding []) (read x >>= λ held. tell (Q.Data name held))
  follows_data_list {setting = setting} {first = first} k name x n named found stands =
      follows_one given code (I.DataList k (slot_in setting.names x) n) stands (moves_of (keeps_bind Moved Moved moved (keeps_read Moved Moved moved x) (λ held. keeps_tell Moved Moved moved (Q.Data name held)))) (λ around s free count p suits agrees slots few fit.
      let shapes = subst (λ n. HasNames n s.values) suits.names agrees.shapes in
      let m = machine_at around s (holding []) free first count in
      let held = value_of s.values x in
      let items = list_in_value held in
      let r = splits setting.names s.values x (V.Array n) shapes found in
      let is = array_value n held r.shape in
      let has = r.has ∙ ap (λ l. r.before ++ (l ++ r.behind)) is.0 in
      let got = array_between (slots_of s.values) r.before items r.behind (around.temporaries ++ ([] ++ free)) (slot_in setting.names x) n has r.long is.1 in
      let same : act code (I.DataList k (slot_in setting.names x) n) m ≡ S.ask_only (Q.Data name held) m =
      ap (λ o. on_some o (λ nm. on_some (array_at m.top.slots (slot_in setting.names x) n) (λ items. S.ask_only (Q.Data nm (W.List items)) m))) named
      ∙ ap (λ o. on_some o (λ items. S.ask_only (Q.Data name (W.List items)) m)) got
      ∙ ap (λ v. S.ask_only (Q.Data name v) m) (sym (list_value n held r.shape)) in
      subst (λ n. EndsWith given code setting n around (first + 1) (λ v. ⊤) (λ v. holding []) (tell (Q.Data name held) s)) (sym same) (ends_request given code setting around (first + 1) (λ v. ⊤) (λ v. holding []) (holding []) free first count slots s (Q.Data name held) (λ reply. next) (λ reply. skip) agrees (λ r t. moved_same t) fit (λ r t a left here. (tt, comes_here given code free count slots a.agrees))))

  -- the length of an array
  pub follows_length : {premise : Type 0} {most : ℕ} {setting : Setting} {first : ℕ} (x : Bytes) (n : ℕ) → look_up setting.names x ≡ Some (V.Array n) → n < 2 ^ 63 → Stand code.lines first (I.Const (pos n) ∷ []) → Follows given code premise most setting first (first + 1) (holding []) Fits64 (λ v. holding (v ∷ [])) (read x >>= λ held. give (pos (length (list_in_value held))))
  follows_length {setting = setting} {first = first} x n found less stands =
      follows_one given code (I.Const (pos n)) stands (moves_of (keeps_bind Moved Moved moved (keeps_read Moved Moved moved x) (λ held. keeps_give Moved Moved moved (pos (length (list_in_value held)))))) (λ around s free count p suits agrees slots few fit.
      let shapes = subst (λ n. HasNames n s.values) suits.names agrees.shapes in
      let m = machine_at around s (holding []) free first count in
      let held = value_of s.values x in
      let r = splits setting.names s.values x (V.Array n) shapes found in
      let is = array_value n held r.shape in
      let fits : Fits64 (pos n) = grind (arith, less) in
      subst (λ k. Fits64 (pos k) × Comes given code (push (pos n) m) around s (holding (pos k ∷ [])) (first + 1)) (sym is.1) (fits, comes_here given code free count slots agrees))
