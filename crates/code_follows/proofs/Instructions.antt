-- What single instructions do to a state.
use Rattle.std.proofs.Common.{◌≡◌, ℕ, zero, suc, ◌+◌, ◌≤◌, List, [], ◌∷◌, Option, Some, None, refl, sym, subst, arith}
use Rattle.std.specs.Prelude.{Bool, true, false, ℤ, ◌+ℤ◌, int_lt, ⊤}
use Rattle.std.specs.Int.{w64, int_wrap}
use Rattle.std.proofs.lemmas.Int.{SFits-int_wrap}
use Rattle.rtio_types.specs.declared.outcome.Exc.{Exc}
use Rattle.rtio_types.specs.declared.request.Request.{Request}
use Rattle.rtio_types.specs.declared.request.Request.TheVariants as Q
use Rattle.rtio_types.specs.declared.request.Reply.{Reply}
use Rattle.rtio_types.specs.declared.request.Reply.TheVariants as R
use Rattle.rtio_types.specs.Integers.{number_of}
use Rattle.rtio_types.specs.Replies.{number_in}
use Rattle.rtio_types.specs.Time.{later}
use Rattle.timeline_sem.specs.Actions.{State, Action, give, skip, take_unit, take_unit_of, cursor_now, set_cursor}
use Rattle.timeline_sem.specs.Laws.{final}
use Rattle.timeline_sem.specs.Timeline.{delay, tell, inquire}
use Rattle.timeline_sem.specs.Expressions.{or_raise}
use Rattle.timeline_sem.proofs.Keeps.{keeps_tell, keeps_inquire, keeps_take_unit, keeps_set_cursor, keeps_delay}
use Rattle.kern_calls.specs.Types.{Names}
use Rattle.core_isa.specs.declared.code.Code.{Code}
use Rattle.core_isa.specs.declared.instr.Instr.{Instr}
use Rattle.core_isa.specs.declared.instr.Instr.TheVariants as I
use Rattle.core_isa.specs.Machine as X
use Rattle.core_isa.specs.Machine.{Machine, Next, goes, ends, raise, next, push}
use Rattle.core_isa.specs.Steps as S
use Rattle.core_isa.specs.Steps.{act, push_or_raise}
use Rattle.core_isa.specs.Runs.{counted}
use Rattle.core_isa.specs.WellAsked.{RepliesFit}
use Rattle.code_follows.specs.Stands.{Around, Opening, Local, holding, Setting, Suits, SlotsAdd, machine_at, Fits64, NumbersFit, Agrees, Comes, EndsWith}
use Rattle.code_follows.specs.Parts.{Moved, Follows, Stand}
use Rattle.code_follows.proofs.Leads.{leads_instr, with_on}
use Rattle.code_follows.proofs.Compose.{moved, moved_same, moves_of}
use Rattle.code_follows.proofs.Requests.{ends_here, comes_here, raises_here, with_units, ends_request}

pub number_of_fits : (b : Bool) → Fits64 (number_of b)
number_of_fits true = grind arith
number_of_fits false = grind arith

-- the number in a reply is one of 64 bits
pub number_fits : (r : Reply) → NumbersFit r → Fits64 (number_in r)
number_fits (R.Time x) f = f
number_fits (R.Stamp x) f = f
number_fits (R.Handle x) f = f
number_fits R.NoEdge f = grind arith
number_fits R.Done f = grind arith
number_fits _ f = grind arith

module _ (given : List Reply) (code : Code) where
  -- a part that is one instruction
  pub follows_one : {A : Type 0} {premise : Type 0} {most : ℕ} {setting : Setting} {first past : ℕ} {inputs : Local} {good : A → Type 0} {results : A → Local} {action : Action A} (i : Instr) → Stand code.lines first (i ∷ []) → ((s : State) → Moved s (final (action s))) → ((around : Around) (s : State) (free : List ℤ) (count : ℕ) → premise → Suits setting around → Agrees given around.names around.opening s → SlotsAdd around inputs.temporaries free → s.units ≤ most → RepliesFit (final (action s)).asked given → EndsWith given code setting (act code i (machine_at around s inputs free first count)) around past good results (action s)) → Follows given code premise most setting first past inputs good results action
  follows_one {setting} {first} {past} {inputs} {good} {results} {action} i stands moves done =
      record {
        moves = moves;
        follows = λ around s free count p suits agrees slots few fit.
            let m = machine_at around s inputs free first count in
            with_on given code setting around past good results (action s) (leads_instr given code m i [] stands) (done around s free (counted m).steps p suits agrees slots few fit);
      }

  -- an instruction that gives a value and changes nothing else
  pub follows_quiet : {A : Type 0} {premise : Type 0} {most : ℕ} {setting : Setting} {first : ℕ} {operands own : List ℤ} {good : A → Type 0} {results : A → List ℤ} (i : Instr) → Stand code.lines first (i ∷ []) → (v : A) → (premise → good v) → ((around : Around) (s : State) (free : List ℤ) (count : ℕ) → act code i (machine_at around s (record { operands = operands; temporaries = own }) free first count) ≡ goes (machine_at around s (record { operands = results v; temporaries = own }) free (first + 1) count)) → Follows given code premise most setting first (first + 1) (record { operands = operands; temporaries = own }) good (λ a. record { operands = results a; temporaries = own }) (give v)
  follows_quiet {setting} {first} {operands} {own} {good} {results} i stands v well same =
      follows_one i stands moved_same (λ around s free count p suits agrees slots few fit. subst (λ n. EndsWith given code setting n around (first + 1) good (λ a. record { operands = results a; temporaries = own }) (give v s)) (sym (same around s free count)) (well p, comes_here given code free count slots agrees))

  pub follows_const : {premise : Type 0} {most : ℕ} {setting : Setting} {first : ℕ} (below own : List ℤ) (v : ℤ) → Fits64 v → Stand code.lines first (I.Const v ∷ []) → Follows given code premise most setting first (first + 1) (record { operands = below; temporaries = own }) Fits64 (λ a. record { operands = a ∷ below; temporaries = own }) (give v)
  follows_const below own v fits stands =
      follows_quiet {results = λ a. a ∷ below} (I.Const v) stands v (λ p. fits) (λ around s free count. refl)

  -- an instruction that takes two operands and gives a number
  pub follows_two : {premise : Type 0} {most : ℕ} {setting : Setting} {first : ℕ} (below own : List ℤ) (i : Instr) (a b v : ℤ) → (premise → Fits64 v) → ((around : Around) (s : State) (free : List ℤ) (count : ℕ) → act code i (machine_at around s (record { operands = b ∷ a ∷ below; temporaries = own }) free first count) ≡ push v (machine_at around s (record { operands = below; temporaries = own }) free first count)) → Stand code.lines first (i ∷ []) → Follows given code premise most setting first (first + 1) (record { operands = b ∷ a ∷ below; temporaries = own }) Fits64 (λ v. record { operands = v ∷ below; temporaries = own }) (give v)
  follows_two below own i a b v fits same stands =
      follows_quiet {results = λ a. a ∷ below} i stands v fits same

  pub follows_add : {premise : Type 0} {most : ℕ} {setting : Setting} {first : ℕ} (below own : List ℤ) (a b : ℤ) → Stand code.lines first (I.Add ∷ []) → Follows given code premise most setting first (first + 1) (record { operands = b ∷ a ∷ below; temporaries = own }) Fits64 (λ v. record { operands = v ∷ below; temporaries = own }) (give (int_wrap w64 (a +ℤ b)))
  follows_add below own a b stands =
      follows_two below own I.Add a b _ (λ p. SFits-int_wrap w64 _) (λ around s free count. refl) stands

  pub follows_less : {premise : Type 0} {most : ℕ} {setting : Setting} {first : ℕ} (below own : List ℤ) (a b : ℤ) → Stand code.lines first (I.Lt ∷ []) → Follows given code premise most setting first (first + 1) (record { operands = b ∷ a ∷ below; temporaries = own }) Fits64 (λ v. record { operands = v ∷ below; temporaries = own }) (give (number_of (int_lt a b)))
  follows_less below own a b stands =
      follows_two below own I.Lt a b _ (λ p. number_of_fits _) (λ around s free count. refl) stands

  -- an operand is dropped
  pub follows_pop : {premise : Type 0} {most : ℕ} {setting : Setting} {first : ℕ} (below own : List ℤ) (a : ℤ) → Stand code.lines first (I.Pop ∷ []) → Follows given code premise most setting first (first + 1) (record { operands = a ∷ below; temporaries = own }) (λ v. ⊤) (λ v. record { operands = below; temporaries = own }) skip
  follows_pop below own a stands =
      follows_quiet {results = λ v. below} I.Pop stands tt (λ p. tt) (λ around s free count. refl)

  -- a quotient or a remainder, or an exception where there is none
  pub ends_or_raise : (setting : Setting) (past : ℕ) (below own : List ℤ) (o : Option ℤ) (x : Exc) (good : ℤ → Type 0) → ((v : ℤ) → o ≡ Some v → good v) → (around : Around) (s : State) (free : List ℤ) (place count : ℕ) → SlotsAdd around own free → Agrees given around.names around.opening s → past ≡ place + 1 → EndsWith given code setting (push_or_raise x o (machine_at around s (record { operands = below; temporaries = own }) free place count)) around past good (λ v. record { operands = v ∷ below; temporaries = own }) (or_raise o x s)
  ends_or_raise setting past below own (Some v) x good well around s free place count slots agrees e =
      (well v refl, subst (λ p. Comes given code (goes (machine_at around s (record { operands = v ∷ below; temporaries = own }) free (place + 1) count)) around s (record { operands = v ∷ below; temporaries = own }) p) (sym e) (comes_here given code free count slots agrees))
  ends_or_raise setting past below own None x good well around s free place count slots agrees e =
      raises_here given code (record { operands = below; temporaries = own }) free place count slots agrees

  -- the cursor
  pub follows_now : {premise : Type 0} {most : ℕ} {setting : Setting} {first : ℕ} (below own : List ℤ) → Stand code.lines first (I.Now ∷ []) → Follows given code premise most setting first (first + 1) (record { operands = below; temporaries = own }) Fits64 (λ v. record { operands = v ∷ below; temporaries = own }) cursor_now
  follows_now below own stands =
      follows_one I.Now stands moved_same (λ around s free count p suits agrees slots few fit. (agrees.cursor, comes_here given code free count slots agrees))

  pub with_cursor : {names : Names} {open_one : Option Opening} {s : State} (t : ℤ) → Fits64 t → Agrees given names open_one s → Agrees given names open_one (record s { cursor = t })
  with_cursor t fits g =
      record { shapes = g.shapes; collects = g.collects; cursor = fits; replies = g.replies; numbers = g.numbers }

  pub follows_at : {premise : Type 0} {most : ℕ} {setting : Setting} {first : ℕ} (below own : List ℤ) (t : ℤ) → (premise → Fits64 t) → Stand code.lines first (I.At ∷ []) → Follows given code premise most setting first (first + 1) (record { operands = t ∷ below; temporaries = own }) (λ v. ⊤) (λ v. record { operands = below; temporaries = own }) (set_cursor t)
  follows_at below own t fits stands =
      follows_one I.At stands (moves_of (keeps_set_cursor Moved Moved moved t)) (λ around s free count p suits agrees slots few fit. (tt, comes_here given code free count slots (with_cursor t (fits p) agrees)))

  pub follows_delay : {premise : Type 0} {most : ℕ} {setting : Setting} {first : ℕ} (below own : List ℤ) (d : ℤ) → Stand code.lines first (I.Delay ∷ []) → Follows given code premise most setting first (first + 1) (record { operands = d ∷ below; temporaries = own }) (λ v. ⊤) (λ v. record { operands = below; temporaries = own }) (delay d)
  follows_delay below own d stands =
      follows_one I.Delay stands (moves_of (keeps_delay Moved Moved moved d)) (λ around s free count p suits agrees slots few fit. (tt, comes_here given code free count slots (with_cursor (later s.cursor d) (SFits-int_wrap w64 _) agrees)))

  taken : (setting : Setting) (around : Around) (first : ℕ) (s : State) (u : ℕ) (free : List ℤ) (count : ℕ) → Agrees given around.names around.opening s → SlotsAdd around [] free → EndsWith given code setting (X.unit_of u next (machine_at around s (holding []) free first count)) around (first + 1) (λ v. ⊤) (λ v. holding []) (take_unit_of u s)
  taken setting around first s zero free count agrees slots = ends_here given code X.budget (holding []) free first count agrees
  taken setting around first s (suc u) free count agrees slots = (tt, comes_here given code free count slots (with_units given code u agrees))

  -- a unit
  pub follows_turn : {premise : Type 0} {most : ℕ} {setting : Setting} {first : ℕ} → Stand code.lines first (I.Turn ∷ []) → Follows given code premise most setting first (first + 1) (holding []) (λ v. ⊤) (λ v. holding []) take_unit
  follows_turn {setting} {first} stands =
      follows_one I.Turn stands (moves_of (keeps_take_unit Moved Moved moved)) (λ around s free count p suits agrees slots few fit. taken setting around first s s.units free count agrees slots)

  -- a request whose reply's number is pushed
  pub follows_number : {premise : Type 0} {most : ℕ} {setting : Setting} {first : ℕ} {operands : List ℤ} (i : Instr) (q : Request) → Stand code.lines first (i ∷ []) → ((around : Around) (s : State) (free : List ℤ) (count : ℕ) → act code i (machine_at around s (holding operands) free first count) ≡ S.ask_number q (machine_at around s (holding []) free first count)) → Follows given code premise most setting first (first + 1) (holding operands) Fits64 (λ v. holding (v ∷ [])) (inquire q)
  follows_number {setting} {first} i q stands same =
      follows_one i stands (moves_of (keeps_inquire Moved Moved moved q)) (λ around s free count p suits agrees slots few fit. subst (λ n. EndsWith given code setting n around (first + 1) Fits64 (λ v. holding (v ∷ [])) (inquire q s)) (sym (same around s free count)) (ends_request given code setting around (first + 1) Fits64 (λ v. holding (v ∷ [])) (holding []) free first count slots s q _ _ agrees (λ r t. moved_same t) fit (λ r t a left here. (number_fits r a.numbers, comes_here given code free count slots a.agrees))))

  pub follows_counter : {premise : Type 0} {most : ℕ} {setting : Setting} {first : ℕ} → Stand code.lines first (I.Counter ∷ []) → Follows given code premise most setting first (first + 1) (holding []) Fits64 (λ v. holding (v ∷ [])) (inquire Q.Counter)
  follows_counter stands = follows_number I.Counter Q.Counter stands (λ around s free count. refl)

  -- a request whose reply gives no number
  pub follows_told : {premise : Type 0} {most : ℕ} {setting : Setting} {first : ℕ} {operands : List ℤ} (i : Instr) (q : Request) → Stand code.lines first (i ∷ []) → ((around : Around) (s : State) (free : List ℤ) (count : ℕ) → act code i (machine_at around s (holding operands) free first count) ≡ S.ask_only q (machine_at around s (holding []) free first count)) → Follows given code premise most setting first (first + 1) (holding operands) (λ v. ⊤) (λ v. holding []) (tell q)
  follows_told {setting} {first} i q stands same =
      follows_one i stands (moves_of (keeps_tell Moved Moved moved q)) (λ around s free count p suits agrees slots few fit. subst (λ n. EndsWith given code setting n around (first + 1) (λ v. ⊤) (λ v. holding []) (tell q s)) (sym (same around s free count)) (ends_request given code setting around (first + 1) (λ v. ⊤) (λ v. holding []) (holding []) free first count slots s q _ _ agrees (λ r t. moved_same t) fit (λ r t a left here. (tt, comes_here given code free count slots a.agrees))))

  pub follows_wait : {premise : Type 0} {most : ℕ} {setting : Setting} {first : ℕ} (t : ℤ) → Stand code.lines first (I.Wait ∷ []) → Follows given code premise most setting first (first + 1) (holding (t ∷ [])) (λ v. ⊤) (λ v. holding []) (tell (Q.Wait t))
  follows_wait t stands = follows_told I.Wait (Q.Wait t) stands (λ around s free count. refl)
