-- What a run comes to behind its last reply, step by step.
use Rattle.std.proofs.Common.{◌≡◌, ℕ, zero, suc, ◌+◌, ◌-◌, ◌<◌, ◌≤◌, ◌⊎◌, inl, inr, List, [], ◌∷◌, ◌++◌, length, Bool, true, false, Option, Some, None, refl, sym, ap, ◌∙◌, subst, arith, append-nil}
use Rattle.std.specs.Prelude.{◌^◌, ◌==◌, slice_get, option_to_list, if◌then◌else◌}
use Rattle.std.proofs.lemmas.Bool.{cases_lt, eqb-true, false≢true}
use Rattle.rtio_types.specs.declared.event.Event.{Event}
use Rattle.rtio_types.specs.declared.request.Request.{Request}
use Rattle.rtio_types.specs.declared.request.Request.TheVariants as Q
use Rattle.rtio_types.specs.declared.request.Reply.{Reply}
use Rattle.rtio_types.specs.Time.{shifted}
use Rattle.core_isa.specs.declared.code.Code.{Code}
use Rattle.core_isa.specs.declared.code.CodeFunction.{CodeFunction}
use Rattle.core_isa.specs.Machine.{Machine, MachineEnd, Next, goes, ends, unanswered, ask_then, drop_recording, unit_of}
use Rattle.core_isa.specs.Runs.{Ran, Runs, Gives, boot, step, steps}
use Rattle.core_isa.specs.Steps.{play_events}
use Rattle.core_isa.proofs.Decided.{found_one}
use Rattle.core_cpu.specs.Moments.{Moment, end_of, is_playing, is_ready, proceed, with_history}
use Rattle.core_cpu.specs.Roots.{root_place}
use Rattle.core_cpu.specs.Standing.{Stands, Start as Beginning}
use Rattle.core_cpu.specs.declared.phase.Phase.{Phase}
use Rattle.core_cpu.specs.declared.phase.Phase.TheVariants.{Ready, Playing, Asking, Over}
use Rattle.kernel_places.specs.declared.place.Place.{Place}
use Rattle.kernel_places.specs.Behind.{ComesFrom, IsBehind}
use Rattle.kernel_places.specs.Ends.{StopsFrom, line_at}
use Rattle.kernel_places.specs.Places.{AsksAt, IsAtBeginning}
use Rattle.kernel_places.proofs.Stepping.{Counted, ends_there, goes_further, one_step, replies_fall, run_counts}
use Rattle.kernel_places.proofs.Took.{Took, ends_counted, took}

-- the last instruction that has a line, of the first so many, is at this place
pub record LastOf (code : Code) (lines : List ℕ) (first : Machine) (count : ℕ) (place : Place) : Type 0 where
  pub before : ℕ
  pub machine : Machine
  pub comes : steps code before first ≡ goes machine
  pub at : machine.top.place ≡ place.at
  pub under : root_place machine ≡ place.root
  pub own : 1 ≤ line_at lines place.at
  pub none : (k : ℕ) (later : Machine) → before < k → k < count → steps code k first ≡ goes later → line_at lines later.top.place ≡ 0

-- among the first so many instructions none has a line, from that of the last answered request on
pub record NoneOf (code : Code) (lines : List ℕ) (first : Machine) (asked : Option Place) (count : ℕ) : Type 0 where
  pub asks : (place : Place) → asked ≡ Some place → line_at lines place.at ≡ 0
  pub behind : (k : ℕ) (later : Machine) → k < count → steps code k first ≡ goes later → later.replies ≡ [] → line_at lines later.top.place ≡ 0

abbrev pub Passed : Code → List ℕ → Machine → (asked : Option Place) → (count : ℕ) → (end : Option Place) → Type 0
Passed code lines first asked count (Some place) = LastOf code lines first count place
Passed code lines first asked count None = NoneOf code lines first asked count

-- the run has come to this moment, and the last place with a line up to there is found
pub record Tail (code : Code) (lines : List ℕ) (first : Machine) (asked : Option Place) (now : Moment) (end : Option Place) : Type 0 where
  pub count : ℕ
  pub requests : List Request
  pub leads : steps code count first ≡ proceed now.phase (with_history now.machine [] requests)
  pub passed : Passed code lines first asked count end

-- ---- a step more

not_zero : (n : ℕ) → n == 0 ≡ false → 1 ≤ n
not_zero zero is = absurd (false≢true (sym is))
not_zero (suc n) is = omega arith

module _ (code : Code) (lines : List ℕ) (first : Machine) (asked : Option Place) where
  -- an instruction without a line is passed
  passes : (count : ℕ) (here : Machine) (end : Option Place)
      → steps code count first ≡ goes here
      → line_at lines here.top.place ≡ 0
      → Passed code lines first asked count end
      → Passed code lines first asked (count + 1) end
  passes count here end comes bare so = by_end end so
    where
      same : (later : Machine) → steps code count first ≡ goes later → line_at lines later.top.place ≡ 0
      same later is =
          let one : here ≡ later = (let both : goes here ≡ goes later = sym comes ∙ is in cc) in
          subst (λ (m : Machine). line_at lines m.top.place ≡ 0) one bare

      at_last : (k : ℕ) (later : Machine) → k < count + 1 → count ≤ k → steps code k first ≡ goes later → line_at lines later.top.place ≡ 0
      at_last k later less many is =
          let it : k ≡ count = omega arith in
          same later (subst (λ (i : ℕ). steps code i first ≡ goes later) it is)

      by_end : (end : Option Place) → Passed code lines first asked count end → Passed code lines first asked (count + 1) end
      by_end (Some place) so =
          record {
            before = so.before;
            machine = so.machine;
            comes = so.comes;
            at = so.at;
            under = so.under;
            own = so.own;
            none = λ k later behind less is. elim (cases_lt k count) [
              | inl before ↦ so.none k later behind before is
              | inr many ↦ at_last k later less many is
            ];
          }
      by_end None so =
          record {
            asks = so.asks;
            behind = λ k later less is empty. elim (cases_lt k count) [
              | inl before ↦ so.behind k later before is empty
              | inr many ↦ at_last k later less many is
            ];
          }

  ready_is : (phase : Phase) → is_ready phase ≡ true → phase ≡ Ready
  ready_is Ready ready = refl
  ready_is (Playing left) ready = absurd (false≢true ready)
  ready_is (Asking purpose) ready = absurd (false≢true ready)
  ready_is (Over outcome) ready = absurd (false≢true ready)

  module _ (old new : Moment) (end : Option Place) (asks : Option Request) (ready : is_ready old.phase ≡ true)
      (goes_to : (more : List Reply) (before : List Request) → step code (with_history old.machine more before) ≡ proceed new.phase (with_history new.machine more (before ++ option_to_list asks)))
      (tail : Tail code lines first asked old end) where
    here : steps code tail.count first ≡ goes (with_history old.machine [] tail.requests)
    here = subst (λ (p : Phase). steps code tail.count first ≡ proceed p (with_history old.machine [] tail.requests)) (ready_is old.phase ready) tail.leads

    comes : steps code (tail.count + 1) first ≡ proceed new.phase (with_history new.machine [] (tail.requests ++ option_to_list asks))
    comes = one_step code tail.count first (with_history old.machine [] tail.requests) here ∙ goes_to [] tail.requests

    -- of an instruction without a line
    pub goes_bare : line_at lines old.machine.top.place ≡ 0 → Tail code lines first asked new end
    goes_bare bare =
        record {
          count = tail.count + 1;
          requests = tail.requests ++ option_to_list asks;
          leads = comes;
          passed = passes tail.count (with_history old.machine [] tail.requests) end here bare tail.passed;
        }

    -- of one with a line
    pub goes_lined : (place : Place) → 1 ≤ line_at lines old.machine.top.place → place.at ≡ old.machine.top.place → place.root ≡ root_place old.machine → Tail code lines first asked new (Some place)
    goes_lined place own at under =
        record {
          count = tail.count + 1;
          requests = tail.requests ++ option_to_list asks;
          leads = comes;
          passed =
              record {
                before = tail.count;
                machine = with_history old.machine [] tail.requests;
                comes = here;
                at = sym at;
                under = sym under;
                own = subst (λ (p : ℕ). 1 ≤ line_at lines p) (sym at) own;
                none = λ k later behind less is. absurd (omega (arith, behind, less));
              };
        }

    -- of any
    pub goes_on : (place : Place) → place.at ≡ old.machine.top.place → place.root ≡ root_place old.machine
        → Tail code lines first asked new (if line_at lines place.at == 0 then end else Some place)
    goes_on place at under = by_line (line_at lines place.at == 0) refl
      where
        by_line : (b : Bool) → line_at lines place.at == 0 ≡ b → Tail code lines first asked new (if b then end else Some place)
        by_line true is = goes_bare (sym (ap (line_at lines) at) ∙ eqb-true (line_at lines place.at) 0 is)
        by_line false is = goes_lined place (subst (λ (p : ℕ). 1 ≤ line_at lines p) at (not_zero (line_at lines place.at) is)) at under

  -- a playback goes on within an instruction
  pub plays_on : (old new : Moment) (end : Option Place) (asks : Option Request)
      → ((more : List Reply) (before : List Request) → proceed old.phase (with_history old.machine more before) ≡ proceed new.phase (with_history new.machine more (before ++ option_to_list asks)))
      → Tail code lines first asked old end
      → Tail code lines first asked new end
  plays_on old new end asks goes_to tail =
      record {
        count = tail.count;
        requests = tail.requests ++ option_to_list asks;
        leads = tail.leads ∙ goes_to [] tail.requests;
        passed = tail.passed;
      }

-- ---- the end

-- the machine of a moment at which neither an instruction comes next nor a playback goes on, with no reply left, has ended
is_over : (phase : Phase) (m : Machine) (requests : List Request) → is_ready phase ≡ false → is_playing phase ≡ false
    → (how : MachineEnd) × (last : Machine) × (proceed phase (with_history m [] requests) ≡ ends how last)
is_over Ready m requests ready plays = absurd (false≢true (sym ready))
is_over (Playing left) m requests ready plays = absurd (false≢true (sym plays))
is_over (Asking purpose) m requests ready plays = (unanswered, drop_recording (with_history m [] requests), refl)
is_over (Over outcome) m requests ready plays = (end_of outcome, with_history m [] requests, refl)

pub stops_from : (code : Code) (lines : List ℕ) (start : Beginning) (replies : List Reply) (asked : Option Place) (entry : CodeFunction) (now : Moment) (end : Option Place)
    → slice_get code.functions start.function ≡ Some entry
    → Tail code lines (boot entry start.args start.cursor start.units replies) asked now end
    → is_ready now.phase ≡ false
    → is_playing now.phase ≡ false
    → StopsFrom code lines start replies asked end
stops_from code lines start replies asked entry now end found tail ready plays = by_end end tail.passed
  where
    first : Machine
    first = boot entry start.args start.cursor start.units replies

    before_end : (k : ℕ) (later : Machine) → steps code k first ≡ goes later → k < tail.count
    before_end k later is = by_order (cases_lt k tail.count)
      where
        by_order : (k < tail.count) ⊎ (tail.count ≤ k) → k < tail.count
        by_order (inl less) = less
        by_order (inr many) =
            let over = is_over now.phase now.machine tail.requests ready plays in
            let there : steps code k first ≡ ends over.0 over.1 =
            ends_there code tail.count k first over.1 over.0 many (tail.leads ∙ over.2)
            in
            absurd (let both : goes later ≡ ends over.0 over.1 = sym is ∙ there in cc)

    by_end : (end : Option Place) → Passed code lines first asked tail.count end → StopsFrom code lines start replies asked end
    by_end (Some place) so =
        record {
          entry = entry;
          found = found;
          count = so.before;
          machine = so.machine;
          comes = so.comes;
          at = so.at;
          under = so.under;
          own = so.own;
          last = λ k later behind is. so.none k later behind (before_end k later is) is;
        }
    by_end None so =
        record {
          asks = so.asks;
          behind = λ entry' k later found' is empty.
              let same : entry' ≡ entry = found_one (sym found' ∙ found) in
              let is' : steps code k first ≡ goes later =
              subst (λ (f : CodeFunction). steps code k (boot f start.args start.cursor start.units replies) ≡ goes later) same is
              in
              so.behind k later (before_end k later is') is' empty;
        }

-- ---- the beginning

-- what a phase leads to has begun no further instruction
counted_phase : (phase : Phase) (m : Machine) (requests : List Request) → Counted m.steps (proceed phase (with_history m [] requests))
counted_phase Ready m requests = refl
counted_phase (Asking purpose) m requests = refl
counted_phase (Over outcome) m requests = refl
counted_phase (Playing left) m requests = by_events left.events
  where
    by_units : (event : Event) (rest : List Event) (n : ℕ)
        → Counted m.steps (unit_of n (ask_then (Q.Out (shifted event m.cursor)) (λ reply. play_events rest left.length)) (with_history m [] requests))
    by_units event rest zero = refl
    by_units event rest (suc n) = refl

    by_events : (events : List Event) → Counted m.steps (play_events events left.length (with_history m [] requests))
    by_events [] = refl
    by_events (event ∷ rest) = by_units event rest m.units

-- the place of the last answered request, where it has a line
abbrev pub lined : List ℕ → Option Place → Option Place
lined lines None = None
lined lines (Some place) = if line_at lines place.at == 0 then None else Some place

module _ (lines : List ℕ) (start : Beginning) (replies : List Reply) (now : Moment) (entry : CodeFunction) (found : slice_get now.code.functions start.function ≡ Some entry) where
  abbrev from : CodeFunction → List Reply → Machine
  from f given = boot f start.args start.cursor start.units given

  abbrev first : Machine
  first = from entry replies

  -- no request was answered
  begins_fresh : (replies ≡ []) × IsAtBeginning start now → Tail now.code lines first None now None
  begins_fresh comes =
      let b : IsAtBeginning start now = comes.1 in
      let same : first ≡ from b.entry [] =
      ap (λ (f : CodeFunction). from f replies) (found_one (sym found ∙ b.found)) ∙ ap (λ (r : List Reply). from b.entry r) comes.0
      in
      let here : goes first ≡ proceed now.phase (with_history now.machine [] []) =
      ap (λ (m : Machine). goes m) same
      ∙ ap (λ (m : Machine). proceed Ready (with_history m [] [])) (sym b.machine)
      ∙ ap (λ (p : Phase). proceed p (with_history now.machine [] [])) (sym b.ready)
      in
      record {
        count = 0;
        requests = [];
        leads = here;
        passed = record { asks = λ place is. absurd (let both : None ≡ Some place = is in cc); behind = λ k later less is empty. absurd (omega (arith, less)) };
      }

  -- the last one was answered
  begins_behind : (place : Place) (requests : List Request) → Stands start requests replies now → ComesFrom start replies (Some place) now
      → (ran : Ran) → Runs now.code start.function start.args start.cursor start.units replies ran → ran.count < 2 ^ 64 - 1
      → Tail now.code lines first (Some place) now (lined lines (Some place))
  begins_behind place requests stands comes ran runs short =
      record { count = stands.count; requests = requests; leads = leads; passed = by_line (line_at lines place.at == 0) refl }
    where
      before : List Reply
      before = comes.0

      reply : Reply
      reply = comes.1

      asks : AsksAt now.code start before comes.2 place
      asks = comes.4.0

      leads : steps now.code stands.count first ≡ proceed now.phase (with_history now.machine [] requests)
      leads =
          ap (λ (r : List Reply). steps now.code stands.count (from entry r)) (sym (append-nil replies))
          ∙ ap (λ (f : CodeFunction). steps now.code stands.count (from f (replies ++ []))) (found_one (sym found ∙ stands.found))
          ∙ stands.leads []

      same : from asks.entry (before ++ reply ∷ []) ≡ first
      same =
          ap (λ (f : CodeFunction). from f (before ++ reply ∷ [])) (found_one (sym asks.found ∙ found))
          ∙ ap (λ (r : List Reply). from entry r) (sym comes.3)

      counts : Counted asks.machine.steps (steps now.code stands.count first)
      counts =
          subst (λ (n : ℕ). Counted n (steps now.code stands.count first)) (sym comes.4.1)
          (subst (λ (x : Next). Counted now.machine.steps x) (sym leads) (counted_phase now.phase now.machine requests))

      few : asks.machine.steps < 2 ^ 64 - 1
      few =
          let gives : Gives (steps now.code runs.bound first) ran =
          subst (λ (f : CodeFunction). Gives (steps now.code runs.bound (from f replies)) ran) (found_one (sym runs.found ∙ found)) runs.gives
          in
          let most : asks.machine.steps ≤ 2 ^ 64 - 1 = ends_counted now.code asks.bound (from asks.entry before) asks.machine asks.stops in
          let less : asks.machine.steps ≤ ran.count = run_counts now.code asks.machine.steps stands.count runs.bound first ran most counts gives in
          omega (arith, less, short)

      it : Took now.code first place stands.count
      it =
          subst (λ (m : Machine). Took now.code m place stands.count) same
          (took now.code (from asks.entry before) reply place asks.bound stands.count asks.machine asks.stops asks.at asks.under
          (subst (λ (m : Machine). Counted asks.machine.steps (steps now.code stands.count m)) (sym same) counts)
          few)

      -- it had a reply left
      not_before : (k : ℕ) (later : Machine) → k ≤ it.before → steps now.code k first ≡ goes later → later.replies ≡ [] → ⊥
      not_before k later less is empty =
          let on : steps now.code (it.before - k) later ≡ goes it.machine =
          sym (goes_further now.code k it.before first later less is) ∙ it.comes
          in
          let fall : length it.machine.replies ≤ length later.replies = replies_fall now.code (it.before - k) later it.machine on in
          let none : length later.replies ≡ 0 = ap length empty in
          let some : 1 ≤ length it.machine.replies = it.left in
          omega arith

      by_line : (b : Bool) → line_at lines place.at == 0 ≡ b → Passed now.code lines first (Some place) stands.count (if b then None else Some place)
      by_line true is =
          let none : line_at lines place.at ≡ 0 = eqb-true (line_at lines place.at) 0 is in
          record {
            asks = λ other so. (let one : place ≡ other = (let both : Some place ≡ Some other = so in cc) in subst (λ (p : Place). line_at lines p.at ≡ 0) one none);
            behind = λ k later less is empty. elim (cases_lt it.before k) [
              | inl after ↦ absurd (it.between k later after less is)
              | inr up_to ↦ absurd (not_before k later up_to is empty)
            ];
          }
      by_line false is =
          record {
            before = it.before;
            machine = it.machine;
            comes = it.comes;
            at = it.at;
            under = it.under;
            own = not_zero (line_at lines place.at) is;
            none = λ k later behind less is. absurd (it.between k later behind less is);
          }

  pub begins : (asked : Option Place) → IsBehind start replies asked now
      → (ran : Ran) → Runs now.code start.function start.args start.cursor start.units replies ran → ran.count < 2 ^ 64 - 1
      → Tail now.code lines first asked now (lined lines asked)
  begins None b ran runs short = begins_fresh b.comes
  begins (Some place) b ran runs short = begins_behind place b.requests b.stands b.comes ran runs short
