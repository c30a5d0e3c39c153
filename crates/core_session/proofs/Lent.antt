-- Sessions on cores that are lent.
use Rattle.std.proofs.Common.{◌≡◌, ℕ, ◌+◌, ◌-◌, ◌≤◌, ◌<◌, List, [], ◌∷◌, ◌++◌, length, false, inl, inr, Some, None, IsTrue, refl, sym, ap, subst, ◌∙◌, length-append, arith}
use Rattle.std.proofs.lemmas.List.{length-map}
use Rattle.std.specs.Prelude.{ℤ, Result, Ok, Err, IfOk, OnErr, OnOk, FitsSigned}
use Rattle.std.specs.Int.{w64}
use Rattle.rtio_types.specs.declared.outcome.Outcome.{Outcome}
use Rattle.rtio_types.specs.declared.outcome.Outcome.TheVariants as outcome
use Rattle.rtio_types.specs.declared.request.Request.{Request}
use Rattle.rtio_types.specs.declared.request.Reply.{Reply}
use Rattle.rtio_types.specs.Requests.{fits_request, is_well_formed}
use Rattle.rtio_core.specs.declared.data.StartOf.{StartOf}
use Rattle.core_isa.proofs.UnitsTaken.{requests_take_units}
use Rattle.core_isa.specs.declared.code.Code.{Code}
use Rattle.core_isa.specs.Machine as X
use Rattle.core_isa.specs.Machine.{MachineEnd, unanswered}
use Rattle.core_isa.specs.Runs.{Ran, Runs}
use Rattle.core_cpu.specs.declared.phase.Phase.{Phase}
use Rattle.core_cpu.specs.declared.phase.Phase.TheVariants.{Ready, Playing, Asking, Over}
use Rattle.core_cpu.specs.declared.stop.Stop.{Stop}
use Rattle.core_cpu.specs.declared.stop.Stop.TheVariants as stop
use Rattle.core_cpu.specs.Moments.{Moment, is_asking, outcome_of}
use Rattle.core_cpu.specs.Standing.{AsksNext, HasEnded, Start as Beginning, Stands, StopsAt, phase_fits}
use Rattle.core_session.specs.Asking.{CodeAsks, HaveRun}
use Rattle.core_session.specs.Lending.{Begins, Ends, EndsBy, GivesUp, HasAsking, HasBegun, HasClosed, HasOpen, HasRun, HasUnderWay, HoldsUp, IsAskedSo, IsAsking, IsLeft, IsUnderWay, Leads, LeadsTo, Leaves, Opening, Opens, Plays, Session, began, start_of}
use Rattle.core_session.specs.Scripts.{HasNumber, HaveNumbers}
use Rattle.core_session.specs.Sessions.{Answered, account_of, replies_of, requests_of}
use Rattle.core_session.proofs.Histories.{asked-push, fits-push, more-fits, numbers-push, replies-push, requests-push}

pub on-err : {X E : Type 0} (r : Result X E) (P : Type 0) → P → OnErr r P
on-err (Ok x) P p = tt
on-err (Err e) P p = p

-- where it succeeded
pub ok-is : {X E : Type 0} (r : Result X E) (P Q : Type 0) → (P → Q) → OnOk r P → IfOk r (λ x. Q)
ok-is (Ok x) P Q then' p = then' p
ok-is (Err e) P Q then' p = tt

-- ---- runs

-- the run that asks a request next
abbrev ran-asking : (asked : List Answered) (request : Request) (now : Moment) → Ran
ran-asking asked request now =
    record { requests = requests_of asked ++ request ∷ []; outcome = unanswered; cursor = now.machine.cursor; units = now.machine.units; count = now.machine.steps }

-- the run that has ended
abbrev ran-ended : (asked : List Answered) (end : MachineEnd) (now : Moment) → Ran
ran-ended asked end now = record { requests = requests_of asked; outcome = end; cursor = now.machine.cursor; units = now.machine.units; count = now.machine.steps }

module _ (code : Code) (start : Beginning) (asked : List Answered) (now : Moment) (same : now.code ≡ code) where
  runs-asking : (request : Request) → AsksNext start (requests_of asked) (replies_of asked) request now → Runs code start.function start.args start.cursor start.units (replies_of asked) (ran-asking asked request now)
  runs-asking request asks =
      subst (λ (k : Code). Runs k start.function start.args start.cursor start.units (replies_of asked) (ran-asking asked request now)) same asks.run

  runs-ended : (how : Outcome) → (e : HasEnded start (requests_of asked) (replies_of asked) how now) → Runs code start.function start.args start.cursor start.units (replies_of asked) (ran-ended asked e.end now)
  runs-ended how e = subst (λ (k : Code). Runs k start.function start.args start.cursor start.units (replies_of asked) (ran-ended asked e.end now)) same e.run

  -- so the code asks it behind these
  code-asks : (request : Request) → AsksNext start (requests_of asked) (replies_of asked) request now → CodeAsks code start asked request
  code-asks request asks = record { ran = ran-asking asked request now; runs = runs-asking request asks; lacks = (refl, refl) }

  -- each request took a unit
  few-more : (a : Answered) → AsksNext start (requests_of asked) (replies_of asked) a.request now → length (asked ++ a ∷ []) ≤ start.units
  few-more a asks =
      let r = ran-asking asked a.request now in
      let taken : length (requests_of asked ++ a.request ∷ []) + now.machine.units ≤ start.units =
      requests_take_units code start.function start.args start.cursor start.units (replies_of asked) r (runs-asking a.request asks) in
      let n : length (requests_of asked ++ a.request ∷ []) ≡ length asked + 1 = length-append (requests_of asked) (a.request ∷ []) ∙ ap (λ n. n + 1) (length-map asked (λ (a : Answered). a.request)) in
      let m : length (asked ++ a ∷ []) ≡ length asked + 1 = length-append asked (a ∷ []) in
      omega (arith, taken, n, m)

-- ---- the processor's stop

asking-phase : (request : Request) (phase : Phase) → IsTrue (phase_fits (stop.Ask request) phase) → IsTrue (is_asking phase)
asking-phase request Ready fits = absurd (cc)
asking-phase request (Playing left) fits = absurd (cc)
asking-phase request (Asking purpose) fits = refl
asking-phase request (Over outcome) fits = absurd (cc)

-- what an advance leads to, at every point of every run
abbrev pub Advances : Moment → Moment → Stop → Type 0
Advances was now where' = (start : Beginning) (asked : List Request) (replies : List Reply) → Stands start asked replies was → StopsAt start asked replies now where'

-- what a reply leads to
abbrev pub Takes : Moment → Reply → Moment → Type 0
Takes was reply now = (start : Beginning) (asked : List Request) (replies : List Reply) → Stands start asked replies was → Stands start asked (replies ++ reply ∷ []) now

module _ {M : Type 0} (IsOpen : Opens M) (m : M) where
  pub open-under-way : (now : Moment) → HasUnderWay IsOpen m now → HasOpen IsOpen m
  open-under-way now (s, asked, way) = (s.opening, asked, way.opened)

  pub idle-under-way : (now : Moment) → HasUnderWay IsOpen m now → is_asking now.phase ≡ false
  idle-under-way now (s, asked, way) = way.idle

  pub open-asking : (request : Request) (now : Moment) → HasAsking IsOpen request m now → HasOpen IsOpen m
  open-asking request now (s, asked, asking) = (s.opening, asked, asking.opened)

  pub phase-asking : (request : Request) (now : Moment) → HasAsking IsOpen request m now → IsTrue (is_asking now.phase)
  phase-asking request now (s, asked, asking) = asking.asking

  pub formed-asking : (request : Request) (now : Moment) → HasAsking IsOpen request m now → IsTrue (is_well_formed request)
  formed-asking request now (s, asked, asking) = asking.asks.well (more-fits asked (request ∷ []) asking.run.fit)

  pub now-asking : (s : Session M) (asked : List Answered) (request : Request) (was now : Moment)
      → now.code ≡ was.code → Advances was now (stop.Ask request) → IsTrue (phase_fits (stop.Ask request) now.phase) → IsUnderWay IsOpen s asked m was → IsAsking IsOpen s asked request m now
  now-asking s asked request was now same stops phase way = record {
    opened = way.opened;
    run = way.run;
    code = same ∙ way.code;
    asking = asking-phase request now.phase phase;
    asks = stops (start_of s.units s.opening) (requests_of asked) (replies_of asked) way.stands;
  }

  pub has-asking : (request : Request) (was now : Moment)
      → now.code ≡ was.code → Advances was now (stop.Ask request) → IsTrue (phase_fits (stop.Ask request) now.phase) → HasUnderWay IsOpen m was → HasAsking IsOpen request m now
  has-asking request was now same stops phase (s, asked, way) = (s, asked, now-asking s asked request was now same stops phase way)

-- ---- what a step leads to

-- a machine doesn't end at the horizon
ends-by : {M : Type 0} (HasOver : Ends M) (IsGivenUp : GivesUp M) (o : Opening M) (asked : List Answered) (end : MachineEnd) (now : Moment) (how : Outcome) (cursor : ℤ) (m : M)
    → outcome_of end ≡ Some how → cursor ≡ now.machine.cursor → HasOver o asked how cursor m → EndsBy HasOver IsGivenUp o asked (account_of (ran-ended asked end now)) how cursor m
ends-by HasOver IsGivenUp o asked end now outcome.Returned cursor m is at over = (is, at, refl, over)
ends-by HasOver IsGivenUp o asked end now (outcome.Raised x) cursor m is at over = (is, at, refl, over)
ends-by HasOver IsGivenUp o asked end now outcome.Budget cursor m is at over = (is, at, refl, over)
ends-by HasOver IsGivenUp o asked X.returned now outcome.Horizon cursor m is at over = absurd (cc)
ends-by HasOver IsGivenUp o asked (X.raised x) now outcome.Horizon cursor m is at over = absurd (cc)
ends-by HasOver IsGivenUp o asked X.budget now outcome.Horizon cursor m is at over = absurd (cc)
ends-by HasOver IsGivenUp o asked X.unanswered now outcome.Horizon cursor m is at over = absurd (cc)

module _ {M : Type 0} (IsOpen : Opens M) (HasOver : Ends M) (IsGivenUp : GivesUp M) (old new : M) (s : Session M) (asked : List Answered) where
  -- a reply
  pub answered-leads : (request : Request) (reply : Reply) (cursor : ℤ) (mid now : Moment)
      → IsAskedSo IsOpen IsGivenUp old request cursor (Some reply) new → IsTrue (fits_request request reply) → HasNumber reply → Takes mid reply now → now.code ≡ mid.code → is_asking now.phase ≡ false
      → IsAsking IsOpen s asked request old mid → LeadsTo IsOpen HasOver IsGivenUp s asked new now None
  answered-leads request reply cursor mid now is fits number takes same idle asking =
      let next = is s.opening asked asking.opened in
      let one : Answered = record { request = request; reply = reply; at = next.0 } in
      let start : Beginning = start_of s.units s.opening in (
        one,
        record {
          opened = next.1;
          run = record {
            asks = asked-push (CodeAsks s.code start) [] asked one asking.run.asks (code-asks s.code start asked mid asking.code request asking.asks);
            fit = fits-push asked one asking.run.fit fits;
            numbers = subst HaveNumbers (sym (replies-push asked one)) (numbers-push (replies_of asked) reply asking.run.numbers number);
            from = asking.run.from;
          };
          few = few-more s.code start asked mid asking.code one asking.asks;
          code = same ∙ asking.code;
          idle = idle;
          stands =
              subst (λ (q : List Request). Stands start q (replies_of (asked ++ one ∷ [])) now) (sym (requests-push asked one))
              (subst (λ (r : List Reply). Stands start (requests_of asked ++ request ∷ []) r now) (sym (replies-push asked one))
              (takes start (requests_of asked ++ request ∷ []) (replies_of asked) asking.asks.stands));
        },
      )

  -- an end at the horizon
  pub given-up-leads : (request : Request) (cursor : ℤ) (now : Moment) → IsAskedSo IsOpen IsGivenUp old request cursor None new → cursor ≡ now.machine.cursor
      → IsAsking IsOpen s asked request old now → LeadsTo IsOpen HasOver IsGivenUp s asked new now (Some outcome.Horizon)
  given-up-leads request cursor now is at asking = record {
    run = asking.run;
    cursor = cursor;
    ran = ran-asking asked request now;
    runs = runs-asking s.code (start_of s.units s.opening) asked now asking.code request asking.asks;
    ends = (refl, at, (request, refl, is s.opening asked asking.opened));
    counted = refl;
    fit = more-fits asked (request ∷ []) asking.run.fit;
  }

  -- an end of the processor
  pub ended-leads : (how : Outcome) (cursor : ℤ) (was now : Moment) → ((o : Opening M) (asked : List Answered) → IsOpen o asked old → HasOver o asked how cursor new) → now.code ≡ was.code
      → Advances was now (stop.Ended how) → cursor ≡ now.machine.cursor → IsUnderWay IsOpen s asked old was → LeadsTo IsOpen HasOver IsGivenUp s asked new now (Some how)
  ended-leads how cursor was now is same stops at way =
      let start : Beginning = start_of s.units s.opening in
      let e : HasEnded start (requests_of asked) (replies_of asked) how now = stops start (requests_of asked) (replies_of asked) way.stands in
      record {
        run = way.run;
        cursor = cursor;
        ran = ran-ended asked e.end now;
        runs = runs-ended s.code start asked now (same ∙ way.code) how e;
        ends = ends-by HasOver IsGivenUp s.opening asked e.end now how cursor new e.is at (is s.opening asked way.opened);
        counted = refl;
        fit = way.run.fit;
      }

-- ---- without memory

module _ {M : Type 0} (IsOpen : Opens M) (IsUnended : Opens M) (IsHeldUp : HoldsUp M) (old new : M) (s : Session M) (asked : List Answered) where
  pub left-open : (was : Moment) → IsUnderWay IsOpen s asked old was → IsOpen s.opening asked new → IsLeft IsOpen IsUnended IsHeldUp s asked new
  left-open was way opened = record { run = way.run; stands = inl opened }

  pub left-unended : (was : Moment) → IsUnderWay IsOpen s asked old was → IsUnended s.opening asked new → IsLeft IsOpen IsUnended IsHeldUp s asked new
  left-unended was way unended = record { run = way.run; stands = inr (inl unended) }

  pub left-asking : (request : Request) (now : Moment) → IsAsking IsOpen s asked request old now → IsHeldUp s.opening asked request new → IsLeft IsOpen IsUnended IsHeldUp s asked new
  left-asking request now asking held = record {
    run = asking.run;
    stands = inr (inr (request, code-asks s.code (start_of s.units s.opening) asked now asking.code request asking.asks, held));
  }

-- ---- all steps

-- what was played so far
pub record SoFar {M : Type 0} (IsOpen : Opens M) (Entries : M → ℕ) (first : M) (was : Moment) (now : M) (cpu : Moment) : Type 0 where
  pub begun : HasBegun IsOpen first was
  pub along : (s : Session M) → Begins IsOpen s first was → (asked : List Answered) × IsUnderWay IsOpen s asked now cpu × (Entries now ≡ Entries first + length asked)

-- so many requests may still be answered
abbrev pub requests-left : {M : Type 0} (Entries : M → ℕ) (first : M) → Moment → M → ℕ
requests-left Entries first was now = Entries first + was.machine.units - Entries now

module _ {M : Type 0} (IsOpen : Opens M) (Entries : M → ℕ) (first : M) (was : Moment) where
  pub so-far-first : HasBegun IsOpen first was → SoFar IsOpen Entries first was first was
  so-far-first begun = record { begun = begun; along = λ s b. ([], b.way, (omega arith)) }

  module _ (now : M) (cpu : Moment) (so : SoFar IsOpen Entries first was now cpu) where
    pub so-far-open : HasUnderWay IsOpen now cpu
    so-far-open = let a = so.along so.begun.0 so.begun.1 in (so.begun.0, a.0, a.1)

    pub so-far-left : (IsUnended : Opens M) (IsHeldUp : HoldsUp M) (new : M) → Leaves IsOpen IsUnended IsHeldUp now cpu new → (s : Session M) → Begins IsOpen s first was → (asked : List Answered) × IsLeft IsOpen IsUnended IsHeldUp s asked new
    so-far-left IsUnended IsHeldUp new leaves s b = let a = so.along s b in (a.0, leaves s a.0 a.1)

    module _ (HasOver : Ends M) (IsGivenUp : GivesUp M) (new : M) (next : Moment) where
      pub so-far-last : (how : Outcome) → Leads IsOpen HasOver IsGivenUp now cpu new next (Some how) → Plays IsOpen HasOver IsGivenUp first was new next how
      so-far-last how leads s b = let a = so.along s b in (a.0, leads s a.0 a.1)

      pub so-far-next : Leads IsOpen HasOver IsGivenUp now cpu new next None → Entries new ≡ Entries now + 1 → SoFar IsOpen Entries first was new next
      so-far-next leads more = record {
        begun = so.begun;
        along = λ s b.
            let a = so.along s b in
            let l = leads s a.0 a.1 in
            let before = a.2 in
            let longer : length (a.0 ++ l.0 ∷ []) ≡ length a.0 + 1 = length-append a.0 (l.0 ∷ []) in
            (a.0 ++ l.0 ∷ [], l.1, omega (arith, before, longer, more));
      }

      pub so-far-nearer : Leads IsOpen HasOver IsGivenUp now cpu new next None → Entries new ≡ Entries now + 1 → requests-left Entries first was new < requests-left Entries first was now
      so-far-nearer leads more =
          let s = so.begun.0 in
          let a = so.along s so.begun.1 in
          let l = leads s a.0 a.1 in
          let before = a.2 in
          let longer : length (a.0 ++ l.0 ∷ []) ≡ length a.0 + 1 = length-append a.0 (l.0 ∷ []) in
          let few = l.1.few in
          let units = so.begun.1.units in
          omega (arith, before, longer, few, units, more)

-- ---- the whole session

-- a processor that has been booted for it
pub record IsBooted (code : Code) (start : Beginning) (now : Moment) : Type 0 where
  pub code_is : now.code ≡ code
  pub stands : Stands start [] [] now
  pub idle : is_asking now.phase ≡ false
  pub units_are : now.machine.units ≡ start.units
  pub from : FitsSigned w64 start.cursor

pub is-booted : {M : Type 0} (code : Code) (units : ℕ) (o : Opening M) (now : Moment) (function : ℕ) (args : List ℤ) (cursor : ℤ) (n : ℕ) → now.code ≡ code → Stands (record { function = function; args = args; cursor = cursor; units = n }) [] [] now
    → is_asking now.phase ≡ false → now.machine.units ≡ units → function ≡ o.of.function → args ≡ o.of.args → cursor ≡ o.cursor → n ≡ units → FitsSigned w64 cursor → IsBooted code (start_of units o) now
is-booted code units o now function args cursor n same stands idle left f a t u fits = record {
  code_is = same;
  stands =
      subst (λ (z : ℤ). Stands (record { function = o.of.function; args = o.of.args; cursor = z; units = units }) [] [] now) t
      (subst (λ (k : ℕ). Stands (record { function = o.of.function; args = o.of.args; cursor = cursor; units = k }) [] [] now) u
      (subst (λ (l : List ℤ). Stands (record { function = o.of.function; args = l; cursor = cursor; units = n }) [] [] now) a
      (subst (λ (k : ℕ). Stands (record { function = k; args = args; cursor = cursor; units = n }) [] [] now) f stands)));
  idle = idle;
  units_are = left;
  from = subst (FitsSigned w64) t fits;
}

nothing-run : (code : Code) (start : Beginning) → FitsSigned w64 start.cursor → HaveRun code start []
nothing-run code start from = record { asks = tt; fit = λ k request reply found answer. absurd (cc); numbers = tt; from = from }

module _ {M : Type 0} (IsOpen : Opens M) (s : Session M) (mid : M) (opened : IsOpen s.opening [] mid) where
  pub begins : (cpu : Moment) → IsBooted s.code (start_of s.units s.opening) cpu → Begins IsOpen s mid cpu
  begins cpu booted = record {
    way = record {
      opened = opened;
      run = nothing-run s.code (start_of s.units s.opening) booted.from;
      few = omega arith;
      code = booted.code_is;
      idle = booted.idle;
      stands = booted.stands;
    };
    units = booted.units_are;
  }

  pub left-unbooted : (IsUnended : Opens M) (IsHeldUp : HoldsUp M) → FitsSigned w64 s.opening.cursor → IsLeft IsOpen IsUnended IsHeldUp s [] mid
  left-unbooted IsUnended IsHeldUp from = record { run = nothing-run s.code (start_of s.units s.opening) from; stands = inl opened }

-- the session that has begun so was played to its end
pub ran-lent : {M : Type 0} (IsOpen : Opens M) (HasOver : Ends M) (IsGivenUp : GivesUp M) (code : Code) (units : ℕ) (of : StartOf) (old mid new : M) (cursor : ℤ) → IsOpen (began old of cursor) [] mid
    → (was now : Moment) → IsBooted code (start_of units (began old of cursor)) was → (how : Outcome) → Plays IsOpen HasOver IsGivenUp mid was new now how → (steps : ℕ) → steps ≡ now.machine.steps
    → HasRun HasOver IsGivenUp code units of old new how steps
ran-lent IsOpen HasOver IsGivenUp code units of old mid new cursor opened was now booted how plays steps counts =
    let s : Session _ = record { code = code; units = units; opening = began old of cursor } in
    let played = plays s (begins IsOpen s mid opened was booted) in
    record {
      cursor = cursor;
      asked = played.0;
      closed = subst (λ (n : ℕ). HasClosed HasOver IsGivenUp s played.0 new how n) (sym counts) played.1;
    }
