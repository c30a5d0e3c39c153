-- A record block follows its meaning: a Record, the body, and a Save.
use Rattle.std.proofs.Common.{◌≡◌, ℕ, zero, suc, ◌+◌, ◌≤◌, List, [], ◌∷◌, length, slice_get, Option, Some, None, refl, sym, ◌∙◌, ap, subst, arith, append-nil}
use Rattle.std.specs.Prelude.{true, false, ℤ, pos, ⊤, is_some, unwrap_or}
use Rattle.std.proofs.lemmas.Bool.{false≢true}
use Rattle.rtio_types.specs.declared.event.Event.{Event}
use Rattle.rtio_types.specs.declared.outcome.Exc.{Exc}
use Rattle.rtio_types.specs.declared.request.Request.{Request}
use Rattle.rtio_types.specs.declared.request.Request.TheVariants as Q
use Rattle.rtio_types.specs.declared.request.Reply.{Reply}
use Rattle.kern_syntax.specs.Tree.{Bytes}
use Rattle.timeline_sem.specs.Actions.{State, break, continue, return, raised, budget, unanswered, Completion, normal, early, Action, skip, take_unit, take_unit_of}
use Rattle.timeline_sem.specs.Statements.{leave_recording, save_request, save_after, end_recording, recorded}
use Rattle.timeline_sem.specs.Laws.{final}
use Rattle.timeline_sem.proofs.Keeps.{Kept, Keeps, keeps_bind, keeps_ask, keeps_skip}
use Rattle.timeline_sem.proofs.KeepsWhole.{keeps_recorded}
use Rattle.core_isa.specs.declared.code.Code.{Code}
use Rattle.core_isa.specs.declared.instr.Instr.TheVariants as I
use Rattle.core_isa.specs.Machine as X
use Rattle.core_isa.specs.Machine.{Machine, Next, goes, ends, next, raise, unit_of, ask_then}
use Rattle.core_isa.specs.Steps as S
use Rattle.core_isa.specs.Steps.{on_some, open_recording}
use Rattle.core_isa.specs.Runs.{counted}
use Rattle.core_isa.specs.WellAsked.{RepliesFit}
use Rattle.code_follows.specs.Stands.{Around, Opening, Local, holding, Setting, Suits, SlotsAdd, NoneOpen, machine_at, Fits64, Agrees, Leads, Comes, ComesToRaise, EndsAs, EndsWith, EndsEarly}
use Rattle.code_follows.specs.Parts.{Moved, Follows, Stand}
use Rattle.code_follows.proofs.Leads.{leads_instr, leads_then, leads_same, with_on}
use Rattle.code_follows.proofs.Compose.{moved, moved_by_asking, moved_same, moves_of, fits_before}
use Rattle.code_follows.proofs.Requests.{comes_here, ends_answer, with_units}
use Rattle.code_follows.proofs.Raising.{raise_from_record}

-- the setting of the body of a record block
abbrev pub in_record : Setting → Setting
in_record setting = record setting { outside = false; may_return = false; loop = None }

-- the surroundings where no recording is open
abbrev pub around_closed : Around → Around
around_closed around = record around { opening = None }

-- the surroundings of the body
abbrev pub around_record : (name : List ℕ) (saved : ℤ) → Around → Around
around_record name saved around =
    record around { opening = Some (record { name = name; saved = saved; callers = length around.callers }) }

suits_record : (name : List ℕ) (saved : ℤ) (setting : Setting) (around : Around) → Suits setting (around_closed around) → Suits (in_record setting) (around_record name saved around)
suits_record name saved setting around g =
    record {
      names = g.names;
      slots = g.slots;
      temporaries = g.temporaries;
      handlers = g.handlers;
      outside = λ e. absurd (false≢true e);
      loop = tt;
      value = g.value;
      bare = λ e. absurd (false≢true e);
      opened_below = omega arith;
      none_open = λ e. g.none_open refl;
      active = g.active;
    }

-- what each part keeps gives what its end keeps
pub keeps_of : {A : Type 0} (action : Action A) → ((s : State) → Moved s (final (action s))) → Keeps Moved Moved moved action
keeps_of action m = record { from = λ s. kept_of s (action s) (m s) }
  where
    kept_of : {A : Type 0} (s : State) (c : Completion A) → Moved s (final c) → Kept Moved Moved s c
    kept_of s (normal a t) r = r
    kept_of s (early break t) r = r
    kept_of s (early continue t) r = r
    kept_of s (early (return v) t) r = r
    kept_of s (early (raised x) t) r = r
    kept_of s (early budget t) r = r
    kept_of s (early unanswered t) r = r

module _ (given : List Reply) (code : Code) where
  fits_saved : (before : State) (c : Completion ⊤) (q : Request) → RepliesFit (final (save_after q before c)).asked given → RepliesFit (final c).asked given
  fits_saved before (normal a s) q fit =
      fits_before given {s = leave_recording before s} (moves_of (keeps_bind Moved Moved moved (keeps_ask Moved Moved moved moved_by_asking q) (λ reply. keeps_skip Moved Moved moved)) (leave_recording before s)) fit
  fits_saved before (early reason s) q fit = fit

  -- the body's own requests fit where those of the whole block do
  fits_recorded : (name : Bytes) (before : State) (c : Completion ⊤) → RepliesFit (final (end_recording name before c)).asked given → RepliesFit (final c).asked given
  fits_recorded name before (normal a s) fit =
      fits_before given (moves_unit s s.units refl) (fits_saved before (take_unit s) (save_request name s) fit)
    where
      moves_unit : (s : State) (u : ℕ) → s.units ≡ u → Moved s (final (take_unit_of u s))
      moves_unit s zero e = moved_same s
      moves_unit s (suc u) e = record { units = omega (arith, e); asked = ([], sym (append-nil s.asked)) }
  fits_recorded name before (early reason s) fit = fit

  -- the state after the block agrees where the body's last one did
  left : (names : _) (open_one : Opening) (before s : State) → Agrees given names None before → Agrees given names (Some open_one) s → Agrees given names None (leave_recording before s)
  left names open_one before s g h =
      record { shapes = h.shapes; collects = g.collects; cursor = g.cursor; replies = h.replies; numbers = h.numbers }

  -- the save, once its unit is taken
  ends_saved : (setting : Setting) (around : Around) (name : Bytes) (before s : State) (u : ℕ) (events : List Event) (free : List ℤ) (mid count : ℕ) → SlotsAdd around [] free → Agrees given around.names None before → Agrees given around.names (around_record name before.cursor around).opening s → s.units ≡ u → s.collected ≡ Some events → RepliesFit (final (save_after (save_request name s) before (take_unit_of u s))).asked given → EndsWith given code setting (unit_of u (λ m'. ask_then (save_request name s) (λ reply. next) (record m' { cursor = before.cursor; recording = None })) (machine_at (around_record name before.cursor around) s (holding []) free mid count)) (around_closed around) (mid + 1) (λ v. ⊤) (λ v. holding []) (save_after (save_request name s) before (take_unit_of u s))
  ends_saved setting around name before s zero events free mid count slots g h e c fit =
      record {
        last = X.drop_recording (machine_at (around_record name before.cursor around) s (holding []) free mid count);
        leads = leads_same given code _;
        units = refl;
        asked = refl;
        cursor = ap (λ o. X.cursor_before (Rattle.code_follows.specs.Stands.recording_of (around_record name before.cursor around).opening o) s.cursor) c;
      }
  ends_saved setting around name before s (suc u) events free mid count slots g h e c fit =
      let t = leave_recording before (record s { units = u }) in
      ends_answer given code setting (around_closed around) (mid + 1) (λ v. ⊤) (λ v. holding []) (holding []) free mid count slots t (save_request name s) t.replies (λ reply. next) (λ reply. skip) refl (with_units given code u (left around.names _ before s g h)) (λ r. moved_same) fit (λ reply t' a here. (tt, comes_here given code free count slots a.agrees))

  -- the outputs that were collected
  collected_in : (c : Option (List Event)) → is_some c ≡ true → (events : List Event) × (c ≡ Some events)
  collected_in None e = absurd (false≢true e)
  collected_in (Some events) e = (events, refl)

  -- an exception leaves the block
  raised_out : (from : Next) (around : Around) (name : Bytes) (before s : State) (x : Exc) → NoneOpen around.handlers → Agrees given around.names None before → ComesToRaise given code from (around_record name before.cursor around) s x → ComesToRaise given code from (around_closed around) (leave_recording before s) x
  raised_out from around name before s x none g e =
      let inside = around_record name before.cursor around in
      let m = machine_at inside s e.local e.free e.place e.count in
      let c = collected_in s.collected e.agrees.collects in
      let o : X.OpenRecording = record { name = name; saved = before.cursor; events = c.0; callers = length around.callers } in
      let open_now : m ≡ record m { recording = Some o } = ap (λ k. record m { recording = Rattle.code_follows.specs.Stands.recording_of inside.opening k }) c.1 in
      let out = raise_from_record x m.top m.callers m o none refl in
      record {
        local = e.local;
        free = e.free;
        place = e.place;
        count = e.count;
        slots = e.slots;
        agrees = left around.names _ before s g e.agrees;
        leads = subst (λ n. Leads given code from n) (ap (λ k. raise x k) open_now ∙ out) e.leads;
      }

  -- the end of the body, seen from the block
  ends_recorded : (setting : Setting) (around : Around) (name : Bytes) (before : State) (mid : ℕ) → Stand code.lines mid (I.Save ∷ []) → Suits setting (around_closed around) → Agrees given around.names None before → (from : Next) (c : Completion ⊤) → RepliesFit (final (end_recording name before c)).asked given → EndsWith given code (in_record setting) from (around_record name before.cursor around) mid (λ v. ⊤) (λ v. holding []) c → EndsWith given code setting from (around_closed around) (mid + 1) (λ v. ⊤) (λ v. holding []) (end_recording name before c)
  ends_recorded setting around name before mid stands suits g from (normal a s) fit e =
      let here = e.1 in
      let inside = around_record name before.cursor around in
      let m = machine_at inside s (holding []) here.free mid here.count in
      let now = counted m in
      let c = collected_in s.collected here.agrees.collects in
      let o : X.OpenRecording = record { name = name; saved = before.cursor; events = c.0; callers = length around.callers } in
      let asks : Request → Next = λ q. unit_of s.units (λ m'. ask_then q (λ reply. next) (record m' { cursor = before.cursor; recording = None })) now in
      let by : Leads given code (goes m) (S.save_recording now.recording now) = leads_instr given code m I.Save [] stands in
      let opened : Leads given code (goes m) (asks (S.save_request o s.cursor)) = subst (λ r. Leads given code (goes m) (S.save_recording r now)) (ap (λ k. Rattle.code_follows.specs.Stands.recording_of inside.opening k) c.1) by in
      let same : S.save_request o s.cursor ≡ save_request name s = ap (λ k. Q.Save name (record { events = unwrap_or k []; length = s.cursor })) (sym c.1) in
      with_on given code setting (around_closed around) (mid + 1) (λ v. ⊤) (λ v. holding []) (end_recording name before (normal a s)) (leads_then given code here.leads (subst (λ q. Leads given code (goes m) (asks q)) same opened)) (ends_saved setting around name before s s.units c.0 here.free mid now.steps here.slots g here.agrees refl c.1 fit)
  ends_recorded setting around name before mid stands suits g from (early break s) fit e = absurd e
  ends_recorded setting around name before mid stands suits g from (early continue s) fit e = absurd e
  ends_recorded setting around name before mid stands suits g from (early (return v) s) fit e = absurd e
  ends_recorded setting around name before mid stands suits g from (early (raised x) s) fit e =
      raised_out from around name before s x (suits.none_open refl) g e
  ends_recorded setting around name before mid stands suits g from (early budget s) fit e =
      record { last = e.last; leads = e.leads; units = e.units; asked = e.asked; cursor = e.cursor }
  ends_recorded setting around name before mid stands suits g from (early unanswered s) fit e =
      record { last = e.last; leads = e.leads; units = e.units; asked = e.asked; cursor = e.cursor }

  -- a record block, where none is open
  closed_recorded : {premise : Type 0} {most : ℕ} (setting : Setting) (name : Bytes) (n first mid : ℕ) (body : Action ⊤) → slice_get code.names n ≡ Some name → Stand code.lines first (I.Record n ∷ []) → Stand code.lines mid (I.Save ∷ []) → Follows given code premise most (in_record setting) (first + 1) mid (holding []) (λ v. ⊤) (λ v. holding []) body → (around : Around) (s : State) (free : List ℤ) (count : ℕ) → premise → Suits setting (around_closed around) → Agrees given around.names None s → SlotsAdd around [] free → s.units ≤ most → RepliesFit (final (recorded name body s)).asked given → EndsWith given code setting (goes (machine_at (around_closed around) s (holding []) free first count)) (around_closed around) (mid + 1) (λ v. ⊤) (λ v. holding []) (recorded name body s)
  closed_recorded setting name n first mid body named at_first at_mid fb around s free count p suits agrees slots few fit =
      let m = machine_at (around_closed around) s (holding []) free first count in
      let now = counted m in
      let s' = record s { cursor = pos 0; collected = Some [] } in
      let inside = around_record name s.cursor around in
      let m' = machine_at inside s' (holding []) free (first + 1) now.steps in
      let opened : Leads given code (goes m) (goes m') = subst (λ o. Leads given code (goes m) (on_some o (λ k. open_recording None k now))) named (leads_instr given code m (I.Record n) [] at_first) in
      let zero_fits : Fits64 (pos 0) = grind arith in
      let agrees' : Agrees given around.names inside.opening s' = record { shapes = agrees.shapes; collects = refl; cursor = zero_fits; replies = agrees.replies; numbers = agrees.numbers } in
      with_on given code setting (around_closed around) (mid + 1) (λ v. ⊤) (λ v. holding []) (recorded name body s) opened (ends_recorded setting around name s mid at_mid suits agrees (goes m') (body s') fit (fb.follows inside s' free now.steps p (suits_record name s.cursor setting around suits) agrees' slots few (fits_recorded name s (body s') fit)))

  pub follows_recorded : {premise : Type 0} {most : ℕ} (setting : Setting) (name : Bytes) (n first mid : ℕ) (body : Action ⊤) → setting.outside ≡ true → slice_get code.names n ≡ Some name → Stand code.lines first (I.Record n ∷ []) → Stand code.lines mid (I.Save ∷ []) → Follows given code premise most (in_record setting) (first + 1) mid (holding []) (λ v. ⊤) (λ v. holding []) body → Follows given code premise most setting first (mid + 1) (holding []) (λ v. ⊤) (λ v. holding []) (recorded name body)
  follows_recorded {premise} {most} setting name n first mid body out named at_first at_mid fb =
      record {
        moves = moves_of (keeps_recorded Moved Moved moved name body (keeps_of body fb.moves));
        follows = λ around s free count p suits agrees slots few fit.
            let none = suits.outside out in
            let closed : around_closed around ≡ around = ap (λ o. record around { opening = o }) (sym none) in
            let suits' : Suits setting (around_closed around) = subst (λ a. Suits setting a) (sym closed) suits in
            let agrees' : Agrees given around.names None s = subst (λ o. Agrees given around.names o s) none agrees in
            subst (λ a. EndsWith given code setting (goes (machine_at a s (holding []) free first count)) a (mid + 1) (λ v. ⊤) (λ v. holding []) (recorded name body s)) closed (closed_recorded setting name n first mid body named at_first at_mid fb around s free count p suits' agrees' slots few fit);
      }
