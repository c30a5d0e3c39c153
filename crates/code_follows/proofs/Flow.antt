-- Jumps, tests, units and the turns of a loop.
use Rattle.std.proofs.Common.{◌≡◌, ℕ, zero, suc, ◌+◌, ◌≤◌, List, [], ◌∷◌, ◌++◌, Some, refl, sym, subst, arith, append-nil, length-append}
use Rattle.std.specs.Prelude.{Bool, true, false, ℤ, ⊤, if◌then◌else◌}
use Rattle.rtio_types.specs.declared.request.Reply.{Reply}
use Rattle.rtio_types.specs.Integers.{is_true}
use Rattle.timeline_sem.specs.Actions.{State, budget, Completion, normal, early, Action, give, skip, stop, take_unit, take_unit_of, go_on as then_act, ◌>>◌}
use Rattle.timeline_sem.specs.Laws.{final}
use Rattle.core_isa.specs.declared.code.Code.{Code}
use Rattle.core_isa.specs.declared.instr.Instr.TheVariants as I
use Rattle.core_isa.specs.Machine as X
use Rattle.core_isa.specs.Machine.{Machine, Next, goes, ends, raise, next, at_place, unit_of}
use Rattle.core_isa.specs.Runs.{counted}
use Rattle.core_isa.specs.WellAsked.{RepliesFit}
use Rattle.code_follows.specs.Stands.{Around, Local, holding, Loop, Setting, Suits, SlotsAdd, machine_at, Agrees, Leads, Comes, EndsWith}
use Rattle.code_follows.specs.Parts.{Moved, Follows, Stand}
use Rattle.code_follows.proofs.Leads.{leads_instr, with_on}
use Rattle.code_follows.proofs.Compose.{moved_same, moved_then, fits_before}
use Rattle.code_follows.proofs.Requests.{dropped_cursor, comes_here, ends_here, with_units}

abbrev pub in_loop : Loop → Setting → Setting
in_loop loop setting = record setting { loop = Some loop }

module _ (given : List Reply) (code : Code) where
  -- nothing is done
  pub follows_skip : {premise : Type 0} {most : ℕ} {setting : Setting} {place : ℕ} {local : Local} → Follows given code premise most setting place place local (λ a. ⊤) (λ a. local) skip
  follows_skip =
      record { moves = moved_same; follows = λ around s free count p suits agrees slots few fit. (tt, comes_here given code free count slots agrees) }

  pub follows_give : {A : Type 0} {premise : Type 0} {most : ℕ} {setting : Setting} {place : ℕ} {good : A → Type 0} {results : A → Local} (v : A) → (premise → good v) → Follows given code premise most setting place place (results v) good results (give v)
  follows_give v well =
      record { moves = moved_same; follows = λ around s free count p suits agrees slots few fit. (well p, comes_here given code free count slots agrees) }

  pub follows_jump : {A : Type 0} {premise : Type 0} {most : ℕ} {setting : Setting} {first to past : ℕ} {inputs : Local} {good : A → Type 0} {results : A → Local} {m : Action A} → Stand code.lines first (I.Jump to ∷ []) → Follows given code premise most setting to past inputs good results m → Follows given code premise most setting first past inputs good results m
  follows_jump {setting} {first} {to} {past} {inputs} {good} {results} {m} stands fm =
      record {
        moves = fm.moves;
        follows = λ around s free count p suits agrees slots few fit.
            let start = machine_at around s inputs free first count in
            with_on given code setting around past good results (m s) (leads_instr given code start (I.Jump to) [] stands) (fm.follows around s free (counted start).steps p suits agrees slots few fit);
      }

  ends_test : {A : Type 0} {premise : Type 0} {most : ℕ} {setting : Setting} (first to past : ℕ) {good : A → Type 0} {results : A → Local} (local : Local) (b : Bool) (m : Bool → Action A) → Follows given code premise most setting (first + 1) past local good results (m true) → Follows given code premise most setting to past local good results (m false) → (around : Around) (s : State) (free : List ℤ) (count : ℕ) → premise → Suits setting around → Agrees given around.names around.opening s → SlotsAdd around local.temporaries free → s.units ≤ most → RepliesFit (final (m b s)).asked given → EndsWith given code setting (if b then next (machine_at around s local free first count) else goes (at_place (machine_at around s local free first count) to)) around past good results (m b s)
  ends_test first to past local true m ft fe around s free count p suits agrees slots few fit = ft.follows around s free count p suits agrees slots few fit
  ends_test first to past local false m ft fe around s free count p suits agrees slots few fit = fe.follows around s free count p suits agrees slots few fit

  moves_by : {A : Type 0} (m : Bool → Action A) (s : State) (b : Bool) → Moved s (final (m true s)) → Moved s (final (m false s)) → Moved s (final (m b s))
  moves_by m s true t e = t
  moves_by m s false t e = e

  -- a test of the topmost operand: the next place where it holds, else another
  pub follows_test : {A : Type 0} {premise : Type 0} {most : ℕ} {setting : Setting} {first to past : ℕ} {good : A → Type 0} {results : A → Local} (local : Local) (v : ℤ) (m : Bool → Action A) → Stand code.lines first (I.JumpZero to ∷ []) → Follows given code premise most setting (first + 1) past local good results (m true) → Follows given code premise most setting to past local good results (m false) → Follows given code premise most setting first past (record local { operands = v ∷ local.operands }) good results (m (is_true v))
  follows_test {setting} {first} {to} {past} {good} {results} local v m stands ft fe =
      record {
        moves = λ s. moves_by m s (is_true v) (ft.moves s) (fe.moves s);
        follows = λ around s free count p suits agrees slots few fit.
            let start = machine_at around s (record local { operands = v ∷ local.operands }) free first count in
            with_on given code setting around past good results (m (is_true v) s) (leads_instr given code start (I.JumpZero to) [] stands) (ends_test first to past local (is_true v) m ft fe around s free (counted start).steps p suits agrees slots few fit);
      }

  -- temporary slots at the end aren't kept
  pub comes_forget : {from : Next} {around : Around} {s : State} (local : Local) {place : ℕ} → Comes given code from around s local place → Comes given code from around s (holding local.operands) place
  comes_forget local c =
      record {
        free = local.temporaries ++ c.free;
        count = c.count;
        slots = omega (arith, c.slots, length-append local.temporaries c.free);
        agrees = c.agrees;
        leads = c.leads;
      }

  ends_forget : {A : Type 0} (setting : Setting) (from : Next) (around : Around) (place : ℕ) (good : A → Type 0) (results : A → Local) (c : Completion A) → EndsWith given code setting from around place good results c → EndsWith given code setting from around place good (λ a. holding (results a).operands) c
  ends_forget setting from around place good results (normal a s) e = (e.0, comes_forget (results a) e.1)
  ends_forget setting from around place good results (early reason s) e = e

  pub follows_forget : {A : Type 0} {premise : Type 0} {most : ℕ} {setting : Setting} {first past : ℕ} {inputs : Local} {good : A → Type 0} {results : A → Local} {m : Action A} → Follows given code premise most setting first past inputs good results m → Follows given code premise most setting first past inputs good (λ a. holding (results a).operands) m
  follows_forget {setting} {first} {past} {inputs} {good} {results} {m} fm =
      record {
        moves = fm.moves;
        follows = λ around s free count p suits agrees slots few fit. ends_forget setting (goes (machine_at around s inputs free first count)) around past good results (m s) (fm.follows around s free count p suits agrees slots few fit);
      }

  -- no unit is left
  pub follows_no_units : {A : Type 0} {premise : Type 0} {setting : Setting} {first past : ℕ} {inputs : Local} {good : A → Type 0} {results : A → Local} → Stand code.lines first (I.Turn ∷ []) → Follows given code premise 0 setting first past inputs good results (stop budget)
  follows_no_units {setting} {first} {inputs} stands =
      record {
        moves = moved_same;
        follows = λ around s free count p suits agrees slots few fit.
            let start = machine_at around s inputs free first count in
            let none : s.units ≡ 0 = omega (arith, few) in
            record {
              last = X.drop_recording (counted start);
              leads = subst (λ u. Leads given code (goes start) (unit_of u next (counted start))) none (leads_instr given code start I.Turn [] stands);
              units = refl;
              asked = refl;
              cursor = dropped_cursor around.opening s.collected s.cursor agrees.collects;
            };
      }

  moves_taken : {A : Type 0} (u : ℕ) (s : State) (m : Action A) → s.units ≡ u → ((t : State) → Moved t (final (m t))) → Moved s (final (then_act (take_unit_of u s) (λ a. m)))
  moves_taken zero s m e k = moved_same s
  moves_taken (suc u) s m e k =
      moved_then (record { units = omega (arith, e); asked = ([], sym (append-nil s.asked)) }) (k (record s { units = u }))

  ends_spend : {A : Type 0} {premise : Type 0} (n most : ℕ) → most ≤ suc n → (setting : Setting) (around : Around) (first past : ℕ) (good : A → Type 0) (results : A → Local) (inputs : Local) (m : Action A) → Follows given code premise n setting (first + 1) past inputs good results m → (s : State) (u : ℕ) (free : List ℤ) (count : ℕ) → premise → Suits setting around → Agrees given around.names around.opening s → SlotsAdd around inputs.temporaries free → s.units ≡ u → s.units ≤ most → RepliesFit (final (then_act (take_unit_of u s) (λ a. m))).asked given → EndsWith given code setting (unit_of u next (machine_at around s inputs free first count)) around past good results (then_act (take_unit_of u s) (λ a. m))
  ends_spend n most less setting around first past good results inputs m fm s zero free count p suits agrees slots e few fit =
      ends_here given code X.budget inputs free first count agrees
  ends_spend n most less setting around first past good results inputs m fm s (suc u) free count p suits agrees slots e few fit =
      let t = record s { units = u } in
      fm.follows around t free count p suits (with_units given code u agrees) slots (omega (arith, e, few, less)) fit

  -- a unit, and then a part that has one less
  pub follows_spend : {A : Type 0} {premise : Type 0} {n most : ℕ} → most ≤ suc n → {setting : Setting} {first past : ℕ} {inputs : Local} {good : A → Type 0} {results : A → Local} {m : Action A} → Stand code.lines first (I.Turn ∷ []) → Follows given code premise n setting (first + 1) past inputs good results m → Follows given code premise most setting first past inputs good results (take_unit >> m)
  follows_spend {n} {most} less {setting} {first} {past} {inputs} {good} {results} {m} stands fm =
      record {
        moves = λ s. moves_taken s.units s m refl fm.moves;
        follows = λ around s free count p suits agrees slots few fit.
            let start = machine_at around s inputs free first count in
            with_on given code setting around past good results ((take_unit >> m) s) (leads_instr given code start I.Turn [] stands) (ends_spend n most less setting around first past good results inputs m fm s s.units free (counted start).steps p suits agrees slots refl few fit);
      }

  -- a part that gives a value that is known, and changes nothing, before another
  pub follows_before : {A B : Type 0} {premise : Type 0} {most : ℕ} {setting : Setting} {first mid past : ℕ} {inputs : Local} {good : A → Type 0} {results : A → Local} {good' : B → Type 0} {results' : B → Local} {m : Action B} (v : A) → Follows given code premise most setting first mid inputs good results (give v) → Follows given code (premise × good v) most setting mid past (results v) good' results' m → Follows given code premise most setting first past inputs good' results' m
  follows_before {setting} {first} {past} {inputs} {good'} {results'} {m} v fm fn =
      record {
        moves = fn.moves;
        follows = λ around s free count p suits agrees slots few fit.
            let e = fm.follows around s free count p suits agrees slots few (fits_before given (fn.moves s) fit) in
            let here = e.1 in
            with_on given code setting around past good' results' (m s) here.leads (fn.follows around s here.free here.count (p, e.0) suits here.agrees here.slots few fit);
      }

  -- a test that is known to hold, or not
  pub follows_true : {A : Type 0} {premise : Type 0} {most : ℕ} {setting : Setting} {first to past : ℕ} {good : A → Type 0} {results : A → Local} {m : Action A} (local : Local) (v : ℤ) → is_true v ≡ true → Stand code.lines first (I.JumpZero to ∷ []) → Follows given code premise most setting (first + 1) past local good results m → Follows given code premise most setting first past (record local { operands = v ∷ local.operands }) good results m
  follows_true {setting} {first} {to} {past} {good} {results} {m} local v holds stands fm =
      record {
        moves = fm.moves;
        follows = λ around s free count p suits agrees slots few fit.
            let start = machine_at around s (record local { operands = v ∷ local.operands }) free first count in
            let now = counted (machine_at around s local free first count) in
            with_on given code setting around past good results (m s) (subst (λ b. Leads given code (goes start) (if b then next now else goes (at_place now to))) holds (leads_instr given code start (I.JumpZero to) [] stands)) (fm.follows around s free now.steps p suits agrees slots few fit);
      }

  pub follows_false : {A : Type 0} {premise : Type 0} {most : ℕ} {setting : Setting} {first to past : ℕ} {good : A → Type 0} {results : A → Local} {m : Action A} (local : Local) (v : ℤ) → is_true v ≡ false → Stand code.lines first (I.JumpZero to ∷ []) → Follows given code premise most setting to past local good results m → Follows given code premise most setting first past (record local { operands = v ∷ local.operands }) good results m
  follows_false {setting} {first} {to} {past} {good} {results} {m} local v holds stands fm =
      record {
        moves = fm.moves;
        follows = λ around s free count p suits agrees slots few fit.
            let start = machine_at around s (record local { operands = v ∷ local.operands }) free first count in
            let now = counted (machine_at around s local free first count) in
            with_on given code setting around past good results (m s) (subst (λ b. Leads given code (goes start) (if b then next now else goes (at_place now to))) holds (leads_instr given code start (I.JumpZero to) [] stands)) (fm.follows around s free now.steps p suits agrees slots few fit);
      }
