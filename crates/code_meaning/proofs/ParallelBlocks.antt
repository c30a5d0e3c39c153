-- A parallel block.
use Rattle.std.proofs.Common.{◌≡◌, ℕ, ◌+◌, ◌-◌, ◌≤◌, List, [], ◌∷◌, ◌++◌, length, refl, sym, ◌∙◌, subst, arith, length-append}
use Rattle.std.proofs.lemmas.Bool.{false≢true}
use Rattle.std.specs.Prelude.{Bool, true, false, ℤ, ⊤}
use Rattle.std.specs.Int.{int_max}
use Rattle.rtio_types.specs.declared.request.Reply.{Reply}
use Rattle.kern_syntax.specs.Tree.{Bytes, Statement, parallel, Block, done, line_then}
use Rattle.timeline_sem.specs.Actions.{State, Action, skip, cursor_now, ◌>>=◌, ◌>>◌}
use Rattle.timeline_sem.specs.Expressions.{Callee}
use Rattle.timeline_sem.specs.Laws.{final}
use Rattle.timeline_sem.specs.Statements.{statement, parallel_block}
use Rattle.timeline_sem.proofs.Keeps.{keeps_bind, keeps_then, keeps_cursor_now}
use Rattle.timeline_sem.proofs.KeepsWhole.{keeps_statement, keeps_parallel}
use Rattle.core_isa.specs.declared.code.Code.{Code}
use Rattle.core_isa.specs.declared.instr.Instr.TheVariants as I
use Rattle.code_forms.specs.Setting as C
use Rattle.code_forms.specs.Lines.{straight}
use Rattle.code_forms.specs.Sizes.{has_second, parallel_begin_size, statement_size, parallel_size, others_size}
use Rattle.code_forms.specs.StatementCode.{Inside, keeping, parallel_begins, next_begins, parallel_ends, statement_code, parallel_code, others_code}
use Rattle.code_forms.proofs.StatementLengths.{length-begin, length-statement}
use Rattle.code_follows.specs.Stands.{holding, Setting, Fits64}
use Rattle.code_follows.specs.Parts.{Moved, Follows, Stand, deeper}
use Rattle.code_follows.proofs.Beneath.{follows_beneath}
use Rattle.code_follows.proofs.Compose.{moved, moved_same, moves_of, follows_same, follows_then}
use Rattle.code_follows.proofs.Flow.{follows_forget, follows_skip}
use Rattle.code_follows.proofs.ForLoops.{bare}
use Rattle.code_follows.proofs.Lines.{LinesStand, first_part, second_part, straight_stands}
use Rattle.code_follows.proofs.Loops as L
use Rattle.code_follows.proofs.Parallels.{follows_parallel_begin, follows_parallel_one, follows_parallel_next, follows_parallel_end}
use Rattle.code_follows.proofs.Variables.{own_slot}
use Rattle.code_meaning.proofs.Known.{Known, follows_to}
use Rattle.code_meaning.proofs.Places.{Placed}

module _ (cs : C.Setting) (callee : Callee) where
  -- what the statements of a parallel block do where the cursor is at the start already
  abbrev pub from_start : Block → (start : ℤ) → Action ⊤
  from_start done start = skip
  from_start (line_then ln first rest) start =
      statement cs.scope callee first >> (cursor_now >>= λ t. parallel_block cs.scope callee rest start (int_max start t))

  -- that is the block, from each state
  from_start_same : (b : Block) (s : State) → (cursor_now >>= λ t. from_start b t) s ≡ statement cs.scope callee (parallel b) s
  from_start_same done s = refl
  from_start_same (line_then ln first rest) s = refl

module _ (given : List Reply) (code : Code) (cs : C.Setting) (plain : List Bytes) (callee : Callee) (room : ℕ) (known : Known given code cs plain callee room) (most : ℕ) (l may d : Bool) (inside : Inside) (place : ℕ) (setting : Setting) (g : Placed cs room l may d inside setting) where
  -- what the statements behind one of a parallel block do, from what is kept as their start and the greatest end before it
  abbrev pub Behind : ℕ → (kept start greatest : ℤ) → Block → Type 0
  Behind p kept start greatest b =
      Follows given code ⊤ most setting p (p + others_size cs inside.mark.tries inside.loop.tries b) (L.keeping (kept ∷ greatest ∷ [])) (λ v. ⊤) (λ v. holding []) (cursor_now >>= λ t. parallel_block cs.scope callee b start (int_max greatest t))

  abbrev pub InOthers : ℕ → Block → Type 0
  InOthers p b = (start greatest : ℤ) → Fits64 start → Fits64 greatest → Behind p start start greatest b

  -- what all of them do; the start is kept if there is a second one
  abbrev pub InParallel : ℕ → Block → Type 0
  InParallel p b =
      (kept start : ℤ) → (has_second b ≡ true → kept ≡ start) → Fits64 start → Follows given code ⊤ most setting p (p + parallel_size cs inside.mark.tries inside.loop.tries b) (L.keeping (kept ∷ start ∷ [])) (λ v. ⊤) (λ v. holding []) (from_start cs callee b start)

  -- a statement of the block, with the block's two slots beneath
  abbrev pub IsDone : Statement → Type 0
  IsDone st =
      (a b : ℤ) (p : ℕ) → LinesStand code.lines p (statement_code cs (keeping 2 inside) p st) → Follows given code ⊤ most (deeper (a ∷ b ∷ []) setting) p (p + statement_size cs inside.mark.tries inside.loop.tries st) (holding []) (λ v. ⊤) (λ v. holding []) (statement cs.scope callee st)

  moves_from_start : (b : Block) (start : ℤ) (s : State) → Moved s (final (from_start cs callee b start s))
  moves_from_start done start s = moved_same s
  moves_from_start (line_then ln st rest) start s =
      moves_of (keeps_then Moved Moved moved (keeps_statement Moved Moved moved cs.scope callee known.moves st) (keeps_bind Moved Moved moved (keeps_cursor_now Moved Moved moved) (λ t. keeps_parallel Moved Moved moved cs.scope callee known.moves rest start (int_max start t)))) s

  -- what a block keeps when it begins
  follows_begin : (second : Bool) (past : ℕ) (body : ℤ → Action ⊤) → ((t : ℤ) (s : State) → Moved s (final (body t s))) → length setting.temporaries + 2 ≤ setting.limit → Stand code.lines place (parallel_begins inside second) → ((kept t : ℤ) → (second ≡ true → kept ≡ t) → Fits64 t → Follows given code ⊤ most setting (place + parallel_begin_size second) past (L.keeping (kept ∷ t ∷ [])) (λ v. ⊤) (λ v. holding []) (body t)) → Follows given code ⊤ most setting place past (holding []) (λ v. ⊤) (λ v. holding []) (cursor_now >>= λ t. body t)
  follows_begin true past body moves limit s next =
      let free = inside.free in
      let zero_slot : free ≡ own_slot given code setting 0 = omega (arith, g.free) in
      let one_slot : free + 1 ≡ own_slot given code setting 1 = omega (arith, g.free) in
      let begins = subst (λ k. Stand code.lines place (I.Now ∷ I.Dup ∷ I.Store (own_slot given code setting 0) ∷ I.Store k ∷ [])) one_slot (subst (λ k. Stand code.lines place (I.Now ∷ I.Dup ∷ I.Store k ∷ I.Store (free + 1) ∷ [])) zero_slot s) in
      let at_body : place + 4 ≡ place + 1 + 1 + 1 + 1 = omega arith in
      let turns : (t : ℤ) → Fits64 t → Follows given code ⊤ most setting (place + 1 + 1 + 1 + 1) past (L.keeping (t ∷ t ∷ [])) (λ v. ⊤) (λ v. holding []) (body t) = λ t f. subst (λ p. Follows given code ⊤ most setting p past (L.keeping (t ∷ t ∷ [])) (λ v. ⊤) (λ v. holding []) (body t)) at_body (next t t (λ e. refl) f) in
      follows_parallel_begin given code setting place past body moves limit begins turns
  follows_begin false past body moves limit s next =
      let one_slot : inside.free + 1 ≡ own_slot given code setting 1 = omega (arith, g.free) in
      let begins = subst (λ k. Stand code.lines place (I.Now ∷ I.Store k ∷ [])) one_slot s in
      let at_body : place + 2 ≡ place + 1 + 1 = omega arith in
      let turns : (spare t : ℤ) → Fits64 t → Follows given code ⊤ most setting (place + 1 + 1) past (L.keeping (spare ∷ t ∷ [])) (λ v. ⊤) (λ v. holding []) (body t) = λ spare t f. subst (λ p. Follows given code ⊤ most setting p past (L.keeping (spare ∷ t ∷ [])) (λ v. ⊤) (λ v. holding []) (body t)) at_body (next spare t (λ e. absurd (false≢true e)) f) in
      follows_parallel_one given code setting place past body moves limit begins turns

  pub follows_parallel_do : (b : Block) → length setting.temporaries + 2 ≤ setting.limit → ((p : ℕ) → LinesStand code.lines p (parallel_code cs (keeping 2 inside) p b) → InParallel p b) → LinesStand code.lines place (statement_code cs inside place (parallel b)) → Follows given code ⊤ most setting place (place + statement_size cs inside.mark.tries inside.loop.tries (parallel b)) (holding []) (λ v. ⊤) (λ v. holding []) (statement cs.scope callee (parallel b))
  follows_parallel_do b limit body s =
      let second = has_second b in
      let n = parallel_begin_size second in
      let begins = straight inside.mark (parallel_begins inside second) in
      let statements = parallel_code cs (keeping 2 inside) (place + n) b in
      let sb = straight_stands code.lines place inside.mark (parallel_begins inside second) (first_part code.lines place begins statements s) in
      let sp = second_part code.lines place n begins statements (length-begin inside.mark inside second) s in
      let past : place + n + parallel_size cs inside.mark.tries inside.loop.tries b ≡ place + (n + parallel_size cs inside.mark.tries inside.loop.tries b) = omega arith in
      let whole = follows_begin second (place + n + parallel_size cs inside.mark.tries inside.loop.tries b) (λ t. from_start cs callee b t) (moves_from_start b) limit sb (body (place + n) sp) in
      follows_to given code past (follows_same given code (from_start_same cs callee b) whole)

  pub follows_none : (p : ℕ) → InParallel p done
  follows_none p kept start same f = follows_to given code (omega arith) (follows_forget given code (follows_skip given code))

  pub follows_no_more : (p : ℕ) → LinesStand code.lines p (others_code cs (keeping 2 inside) p done) → (kept start greatest : ℤ) → Fits64 greatest → Behind p kept start greatest done
  follows_no_more p s kept start greatest h =
      let free = inside.free in
      let one_slot : free + 2 - 1 ≡ own_slot given code setting 1 = omega (arith, g.free) in
      let ends = subst (λ k. Stand code.lines p (I.Load k ∷ I.Now ∷ I.Max ∷ I.At ∷ [])) one_slot (straight_stands code.lines p inside.mark (parallel_ends (keeping 2 inside)) s) in
      follows_to given code (omega arith) (follows_parallel_end given code setting p kept greatest h ends)

  -- the first statement, and those behind it
  first_and : (ln : ℕ) (st : Statement) (rest : Block) → IsDone st → (p : ℕ) → LinesStand code.lines p (parallel_code cs (keeping 2 inside) p (line_then ln st rest)) → (kept start : ℤ) → (LinesStand code.lines (p + statement_size cs inside.mark.tries inside.loop.tries st) (others_code cs (keeping 2 inside) (p + statement_size cs inside.mark.tries inside.loop.tries st) rest) → Behind (p + statement_size cs inside.mark.tries inside.loop.tries st) kept start start rest) → Follows given code ⊤ most setting p (p + parallel_size cs inside.mark.tries inside.loop.tries (line_then ln st rest)) (L.keeping (kept ∷ start ∷ [])) (λ v. ⊤) (λ v. holding []) (from_start cs callee (line_then ln st rest) start)
  first_and ln st rest body p s kept start others =
      let n = statement_size cs inside.mark.tries inside.loop.tries st in
      let within = keeping 2 inside in
      let first = statement_code cs within p st in
      let behind = others_code cs within (p + n) rest in
      let past : p + n + others_size cs inside.mark.tries inside.loop.tries rest ≡ p + (n + others_size cs inside.mark.tries inside.loop.tries rest) = omega arith in
      let sf = body kept start p (first_part code.lines p first behind s) in
      let so = others (second_part code.lines p n first behind (length-statement cs within p st) s) in
      follows_to given code past (follows_then given code (follows_beneath given code (L.keeping (kept ∷ start ∷ [])) (bare setting) sf) so)

  pub follows_first : (ln : ℕ) (st : Statement) (rest : Block) → IsDone st → ((p : ℕ) → LinesStand code.lines p (others_code cs (keeping 2 inside) p rest) → InOthers p rest) → (p : ℕ) → LinesStand code.lines p (parallel_code cs (keeping 2 inside) p (line_then ln st rest)) → InParallel p (line_then ln st rest)
  follows_first ln st done body others p s kept start same f =
      first_and ln st done body p s kept start (λ behind. follows_no_more (p + statement_size cs inside.mark.tries inside.loop.tries st) behind kept start start f)
  follows_first ln st (line_then ln' st' rest) body others p s kept start same f =
      let more = line_then ln' st' rest in
      let next = p + statement_size cs inside.mark.tries inside.loop.tries st in
      subst (λ a. Follows given code ⊤ most setting p (p + parallel_size cs inside.mark.tries inside.loop.tries (line_then ln st more)) (L.keeping (a ∷ start ∷ [])) (λ v. ⊤) (λ v. holding []) (from_start cs callee (line_then ln st more) start)) (sym (same refl)) (first_and ln st more body p s start start (λ behind. others next behind start start f f))

  pub follows_line : (ln : ℕ) (st : Statement) (rest : Block) → IsDone st → ((p : ℕ) → LinesStand code.lines p (others_code cs (keeping 2 inside) p rest) → InOthers p rest) → (p : ℕ) → LinesStand code.lines p (others_code cs (keeping 2 inside) p (line_then ln st rest)) → InOthers p (line_then ln st rest)
  follows_line ln st rest body others p s start greatest f h =
      let n = statement_size cs inside.mark.tries inside.loop.tries st in
      let nr = others_size cs inside.mark.tries inside.loop.tries rest in
      let free = inside.free in
      let within = keeping 2 inside in
      let is = next_begins within in
      let begins = straight inside.mark is in
      let own = statement_code cs within (p + 6) st in
      let behind = others_code cs within (p + 6 + n) rest in
      let front = first_part code.lines p (begins ++ own) behind s in
      let sb = straight_stands code.lines p inside.mark is (first_part code.lines p begins own front) in
      let ss = second_part code.lines p 6 begins own refl front in
      let long : length (begins ++ own) ≡ 6 + n = length-append begins own ∙ omega (arith, length-statement cs within (p + 6) st) in
      let at_rest : p + (6 + n) ≡ p + 6 + n = omega arith in
      let sr = subst (λ q. LinesStand code.lines q behind) at_rest (second_part code.lines p (6 + n) (begins ++ own) behind long s) in
      let zero_slot : free + 2 - 2 ≡ own_slot given code setting 0 = omega (arith, g.free) in
      let one_slot : free + 2 - 1 ≡ own_slot given code setting 1 = omega (arith, g.free) in
      let at_begin = subst (λ k. Stand code.lines p (I.Load k ∷ I.Now ∷ I.Max ∷ I.Store k ∷ I.Load (own_slot given code setting 0) ∷ I.At ∷ [])) one_slot (subst (λ k. Stand code.lines p (I.Load (free + 2 - 1) ∷ I.Now ∷ I.Max ∷ I.Store (free + 2 - 1) ∷ I.Load k ∷ I.At ∷ [])) zero_slot sb) in
      let at_statement : p + 6 ≡ p + 1 + 1 + 1 + 1 + 1 + 1 = omega arith in
      let next : ℤ → Action ⊤ = λ m. statement cs.scope callee st >> (cursor_now >>= λ t. parallel_block cs.scope callee rest start (int_max m t)) in
      let turns : (m : ℤ) → Fits64 m → Follows given code ⊤ most setting (p + 1 + 1 + 1 + 1 + 1 + 1) (p + 6 + n + nr) (L.keeping (start ∷ m ∷ [])) (λ v. ⊤) (λ v. holding []) (next m) = λ m fm. subst (λ q. Follows given code ⊤ most setting q (p + 6 + n + nr) (L.keeping (start ∷ m ∷ [])) (λ v. ⊤) (λ v. holding []) (next m)) at_statement (follows_then given code (follows_beneath given code (L.keeping (start ∷ m ∷ [])) (bare setting) (body start m (p + 6) ss)) (others (p + 6 + n) sr start m f fm)) in
      let past : p + 6 + n + nr ≡ p + (6 + (n + nr)) = omega arith in
      follows_to given code past (follows_parallel_next given code setting p (p + 6 + n + nr) start greatest next (λ m. moves_of (keeps_parallel Moved Moved moved cs.scope callee known.moves (line_then ln st rest) start m)) f h at_begin turns)
