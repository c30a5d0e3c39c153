-- A parallel block follows its meaning: the greatest end so far is kept in a temporary slot and, if there is a second statement,
-- its start in the one before.
use Rattle.std.proofs.Common.{ℕ, ◌+◌, ◌≤◌, List, [], ◌∷◌, length, refl, arith}
use Rattle.std.specs.Prelude.{ℤ, pos, negsuc, ⊤}
use Rattle.std.specs.Int.{int_max}
use Rattle.rtio_types.specs.declared.request.Reply.{Reply}
use Rattle.timeline_sem.specs.Actions.{State, Action, give, skip, cursor_now, set_cursor, ◌>>=◌, ◌>>◌}
use Rattle.timeline_sem.specs.Laws.{final}
use Rattle.core_isa.specs.declared.code.Code.{Code}
use Rattle.core_isa.specs.declared.instr.Instr.TheVariants as I
use Rattle.code_follows.specs.Stands.{holding, Setting, Fits64}
use Rattle.code_follows.specs.Parts.{Moved, Follows, Stand}
use Rattle.code_follows.proofs.Compose.{follows_bind, follows_then, follows_if, by_fits}
use Rattle.code_follows.proofs.Instructions.{follows_quiet, follows_two, follows_now, follows_at}
use Rattle.code_follows.proofs.Flow.{follows_before, follows_forget}
use Rattle.code_follows.proofs.Loops.{keeping}
use Rattle.code_follows.proofs.Variables.{own_slot, follows_own, follows_put, follows_keep, follows_reserve}

max_fits : (a b : ℤ) → Fits64 a → Fits64 b → Fits64 (int_max a b)
max_fits (pos a) (pos b) f g = grind (arith, f, g)
max_fits (pos a) (negsuc b) f g = grind (arith, f, g)
max_fits (negsuc a) (pos b) f g = grind (arith, f, g)
max_fits (negsuc a) (negsuc b) f g = grind (arith, f, g)

module _ (given : List Reply) (code : Code) where
  -- the greater of two operands
  pub follows_max : {premise : Type 0} {most : ℕ} {setting : Setting} {first : ℕ} (below own : List ℤ) (a b : ℤ) → (premise → Fits64 a × Fits64 b) → Stand code.lines first (I.Max ∷ []) → Follows given code premise most setting first (first + 1) (record { operands = b ∷ a ∷ below; temporaries = own }) Fits64 (λ v. record { operands = v ∷ below; temporaries = own }) (give (int_max a b))
  follows_max below own a b fits stands =
      follows_two given code below own I.Max a b _ (λ p. let f = fits p in max_fits a b f.0 f.1) (λ around s free count. refl) stands

  module _ {premise : Type 0} {most : ℕ} (setting : Setting) where
    -- a statement of the block has ended: the next one begins at the start
    pub follows_parallel_next : (place past : ℕ) (start greatest : ℤ) (rest : ℤ → Action ⊤) → ((t : ℤ) (s : State) → Moved s (final ((set_cursor start >> rest t) s))) → Fits64 start → Fits64 greatest → Stand code.lines place (I.Load (own_slot given code setting 1) ∷ I.Now ∷ I.Max ∷ I.Store (own_slot given code setting 1) ∷ I.Load (own_slot given code setting 0) ∷ I.At ∷ []) → ((t : ℤ) → Fits64 t → Follows given code premise most setting (place + 1 + 1 + 1 + 1 + 1 + 1) past (keeping (start ∷ t ∷ [])) (λ v. ⊤) (λ v. holding []) (rest t)) → Follows given code premise most setting place past (keeping (start ∷ greatest ∷ [])) (λ v. ⊤) (λ v. holding []) (cursor_now >>= λ t. set_cursor start >> rest (int_max greatest t))
    follows_parallel_next place past start greatest rest moves fs fg at_place fr =
        let own = start ∷ greatest ∷ [] in
        let st1 = at_place.3 in
        let st2 = st1.3 in
        let st3 = st2.3 in
        let st4 = st3.3 in
        let st5 = st4.3 in
        let again : (m : ℤ) → Fits64 m → Follows given code premise most setting (place + 1 + 1 + 1 + 1) past (keeping (start ∷ m ∷ [])) (λ v. ⊤) (λ v. holding []) (set_cursor start >> rest m) =
        λ m fm. let next = start ∷ m ∷ [] in follows_before given code start (follows_own given code [] next 0 start refl (λ p. fs) (st4.0, st4.1, st4.2, tt)) (follows_if given code (λ p. p.0) (follows_then given code (follows_at given code [] next start (λ p. fs) (st5.0, st5.1, st5.2, tt)) (fr m fm))) in
        let last : (t : ℤ) → Follows given code ((premise × Fits64 greatest) × Fits64 t) most setting (place + 1 + 1) past (record { operands = t ∷ greatest ∷ []; temporaries = own }) (λ v. ⊤) (λ v. holding []) (set_cursor start >> rest (int_max greatest t)) =
        λ t. follows_before given code (int_max greatest t) (follows_max [] own greatest t (λ p. (p.0.1, p.1)) (st2.0, st2.1, st2.2, tt)) (follows_before given code tt (follows_put given code [] own 1 greatest (int_max greatest t) refl (st3.0, st3.1, st3.2, tt)) (by_fits given code (moves (int_max greatest t)) (λ p. p.0.1) (λ f. follows_if given code (λ p. p.0.0.0.0) (again (int_max greatest t) f)))) in
        follows_before given code greatest (follows_own given code [] own 1 greatest refl (λ p. fg) (at_place.0, at_place.1, at_place.2, tt)) (follows_bind given code (follows_now given code (greatest ∷ []) own (st1.0, st1.1, st1.2, tt)) last)

    -- the last statement has ended: the block ends at the greatest end
    pub follows_parallel_end : (place : ℕ) (start greatest : ℤ) → Fits64 greatest → Stand code.lines place (I.Load (own_slot given code setting 1) ∷ I.Now ∷ I.Max ∷ I.At ∷ []) → Follows given code premise most setting place (place + 1 + 1 + 1 + 1) (keeping (start ∷ greatest ∷ [])) (λ v. ⊤) (λ v. holding []) (cursor_now >>= λ t. set_cursor (int_max greatest t))
    follows_parallel_end place start greatest fg at_place =
        let own = start ∷ greatest ∷ [] in
        let st1 = at_place.3 in
        let st2 = st1.3 in
        let st3 = st2.3 in
        let last : (t : ℤ) → Follows given code ((premise × Fits64 greatest) × Fits64 t) most setting (place + 1 + 1) (place + 1 + 1 + 1 + 1) (record { operands = t ∷ greatest ∷ []; temporaries = own }) (λ v. ⊤) (λ v. holding []) (set_cursor (int_max greatest t)) =
        λ t. follows_before given code (int_max greatest t) (follows_max [] own greatest t (λ p. (p.0.1, p.1)) (st2.0, st2.1, st2.2, tt)) (follows_forget given code (follows_at given code [] own (int_max greatest t) (λ p. p.1) (st3.0, st3.1, st3.2, tt))) in
        follows_before given code greatest (follows_own given code [] own 1 greatest refl (λ p. fg) (at_place.0, at_place.1, at_place.2, tt)) (follows_bind given code (follows_now given code (greatest ∷ []) own (st1.0, st1.1, st1.2, tt)) last)

    -- the beginning of a block without a second statement, which keeps no start
    pub follows_parallel_one : (place past : ℕ) (body : ℤ → Action ⊤) → ((t : ℤ) (s : State) → Moved s (final (body t s))) → length setting.temporaries + 2 ≤ setting.limit → Stand code.lines place (I.Now ∷ I.Store (own_slot given code setting 1) ∷ []) → ((spare t : ℤ) → Fits64 t → Follows given code premise most setting (place + 1 + 1) past (keeping (spare ∷ t ∷ [])) (λ v. ⊤) (λ v. holding []) (body t)) → Follows given code premise most setting place past (holding []) (λ v. ⊤) (λ v. holding []) (cursor_now >>= λ t. body t)
    follows_parallel_one place past body moves room at_place fb =
        let st1 = at_place.3 in
        follows_reserve given code [] [] (omega (arith, room)) (λ spare. follows_bind given code (follows_now given code [] (spare ∷ []) (at_place.0, at_place.1, at_place.2, tt)) (λ t. follows_before given code tt (follows_keep given code [] (spare ∷ []) t (omega (arith, room)) (st1.0, st1.1, st1.2, tt)) (by_fits given code (moves t) (λ p. p.0.1) (λ f. follows_if given code (λ p. p.0.0) (fb spare t f)))))

    -- the beginning of a block with a second statement
    pub follows_parallel_begin : (place past : ℕ) (body : ℤ → Action ⊤) → ((t : ℤ) (s : State) → Moved s (final (body t s))) → length setting.temporaries + 2 ≤ setting.limit → Stand code.lines place (I.Now ∷ I.Dup ∷ I.Store (own_slot given code setting 0) ∷ I.Store (own_slot given code setting 1) ∷ []) → ((t : ℤ) → Fits64 t → Follows given code premise most setting (place + 1 + 1 + 1 + 1) past (keeping (t ∷ t ∷ [])) (λ v. ⊤) (λ v. holding []) (body t)) → Follows given code premise most setting place past (holding []) (λ v. ⊤) (λ v. holding []) (cursor_now >>= λ t. body t)
    follows_parallel_begin place past body moves room at_place fb =
        let st1 = at_place.3 in
        let st2 = st1.3 in
        let st3 = st2.3 in
        let dup : (t : ℤ) → Follows given code (premise × Fits64 t) most setting (place + 1) (place + 1 + 1) (holding (t ∷ [])) (λ v. ⊤) (λ v. holding (t ∷ t ∷ [])) skip = λ t. follows_quiet given code {results = λ v. t ∷ t ∷ []} I.Dup (st1.0, st1.1, st1.2, tt) tt (λ p. tt) (λ around s free count. refl) in
        follows_bind given code (follows_now given code [] [] (at_place.0, at_place.1, at_place.2, tt)) (λ t. follows_before given code tt (dup t) (follows_before given code tt (follows_keep given code (t ∷ []) [] t (omega (arith, room)) (st2.0, st2.1, st2.2, tt)) (follows_before given code tt (follows_keep given code [] (t ∷ []) t (omega (arith, room)) (st3.0, st3.1, st3.2, tt)) (by_fits given code (moves t) (λ p. p.0.0.0.1) (λ f. follows_if given code (λ p. p.0.0.0.0) (fb t f))))))
