-- A session on a core that is lent. M is what a lender has between two calls: the core, or a chair at its desk, and what
-- it keeps beside. `IsOpen`, `HasEnded`, `IsGivenUp`, `IsHeldUp` and `IsUnended` are what the lender tells of it.
use Rattle.std.specs.Prelude.{◌≡◌, ◌⊎◌, ℕ, ◌≤◌, List, [], ◌∷◌, ◌++◌, length, ℤ, false, IsTrue, Option, Some, None}
use Rattle.rtio_types.specs.declared.outcome.Outcome.{Outcome}
use Rattle.rtio_types.specs.declared.outcome.Outcome.TheVariants as outcome
use Rattle.rtio_types.specs.declared.request.Request.{Request}
use Rattle.rtio_types.specs.declared.request.Reply.{Reply}
use Rattle.rtio_core.specs.declared.data.StartOf.{StartOf}
use Rattle.core_isa.specs.declared.code.Code.{Code}
use Rattle.core_isa.specs.Runs.{Ran, Runs}
use Rattle.core_isa.specs.WellAsked.{RepliesFit}
use Rattle.core_cpu.specs.Moments.{Moment, is_asking}
use Rattle.core_cpu.specs.Standing.{AsksNext, Stands, Start as Beginning}
use Rattle.core_session.specs.Asking.{CodeAsks, HaveRun}
use Rattle.core_session.specs.Sessions.{Account, Answered, account_of, replies_of, requests_of}

-- how a session began: what the lender had before, what it runs for, and its cursor
pub record Opening (M : Type 0) : Type 0 where
  pub first : M
  pub of : StartOf
  pub cursor : ℤ

abbrev pub began : {M : Type 0} → M → StartOf → ℤ → Opening M
began first of cursor = record { first = first; of = of; cursor = cursor }

-- a session of some code, with so many units
pub record Session (M : Type 0) : Type 0 where
  pub code : Code
  pub units : ℕ
  pub opening : Opening M

-- how its run begins
abbrev pub start_of : {M : Type 0} → (units : ℕ) → Opening M → Beginning
start_of units o = record { function = o.of.function; args = o.of.args; cursor = o.cursor; units = units }

-- ---- what a lender tells

-- a session is open with these answered requests
abbrev pub Opens : (M : Type 0) → Type 1
Opens M = Opening M → List Answered → M → Type 0

-- it has ended with this outcome and cursor
abbrev pub Ends : (M : Type 0) → Type 1
Ends M = Opening M → List Answered → Outcome → ℤ → M → Type 0

-- it has ended at the horizon with this cursor, where the request isn't decided
abbrev pub GivesUp : (M : Type 0) → Type 1
GivesUp M = Opening M → List Answered → Request → ℤ → M → Type 0

-- for want of memory the request wasn't answered
abbrev pub HoldsUp : (M : Type 0) → Type 1
HoldsUp M = Opening M → List Answered → Request → M → Type 0

module _ {M : Type 0} (IsOpen : Opens M) where
  -- some session is open
  abbrev pub HasOpen : M → Type 0
  HasOpen now = (o : Opening M) × (asked : List Answered) × IsOpen o asked now

  -- what asking a request leads to: one more is answered, or the session has ended at the horizon
  abbrev pub IsAskedSo : (IsGivenUp : GivesUp M) → M → Request → ℤ → Option Reply → M → Type 0
  IsAskedSo IsGivenUp old request cursor (Some reply) new =
      (o : Opening M) (asked : List Answered) → IsOpen o asked old
      → (at : ℕ) × IsOpen o (asked ++ record { request = request; reply = reply; at = at } ∷ []) new
  IsAskedSo IsGivenUp old request cursor None new =
      (o : Opening M) (asked : List Answered) → IsOpen o asked old → IsGivenUp o asked request cursor new

  -- ---- where a session stands

  -- the session is open, and the processor stands behind these replies
  pub record IsUnderWay (s : Session M) (asked : List Answered) (now : M) (cpu : Moment) : Type 0 where
    pub opened : IsOpen s.opening asked now
    pub run : HaveRun s.code (start_of s.units s.opening) asked
    pub few : length asked ≤ s.units
    pub code : cpu.code ≡ s.code
    pub idle : is_asking cpu.phase ≡ false
    pub stands : Stands (start_of s.units s.opening) (requests_of asked) (replies_of asked) cpu

  -- or the processor asks this request next
  pub record IsAsking (s : Session M) (asked : List Answered) (request : Request) (now : M) (cpu : Moment) : Type 0 where
    pub opened : IsOpen s.opening asked now
    pub run : HaveRun s.code (start_of s.units s.opening) asked
    pub code : cpu.code ≡ s.code
    pub asking : IsTrue (is_asking cpu.phase)
    pub asks : AsksNext (start_of s.units s.opening) (requests_of asked) (replies_of asked) request cpu

  -- some session is under way
  abbrev pub HasUnderWay : M → Moment → Type 0
  HasUnderWay now cpu = (s : Session M) × (asked : List Answered) × IsUnderWay s asked now cpu

  -- or asks this request next
  abbrev pub HasAsking : Request → M → Moment → Type 0
  HasAsking request now cpu = (s : Session M) × (asked : List Answered) × IsAsking s asked request now cpu

  -- a session has just begun
  pub record Begins (s : Session M) (now : M) (cpu : Moment) : Type 0 where
    pub way : IsUnderWay s [] now cpu
    pub units : cpu.machine.units ≡ s.units

  abbrev pub HasBegun : M → Moment → Type 0
  HasBegun now cpu = (s : Session M) × Begins s now cpu

-- ---- how a session ends

module _ {M : Type 0} (HasEnded : Ends M) (IsGivenUp : GivesUp M) where
  -- the outcome and the cursor are those of the account, and the requests. Where the session ended
  -- at the horizon the account lacks a reply: it has one request more, which was given up there
  abbrev pub EndsBy : Opening M → List Answered → Account → Outcome → ℤ → M → Type 0
  EndsBy o asked a outcome.Horizon cursor now =
      (a.outcome ≡ None) × (cursor ≡ a.cursor)
      × ((last : Request) × (a.requests ≡ requests_of asked ++ last ∷ []) × IsGivenUp o asked last cursor now)
  EndsBy o asked a how cursor now =
      (a.outcome ≡ Some how) × (cursor ≡ a.cursor) × (a.requests ≡ requests_of asked) × HasEnded o asked how cursor now

  -- the session has ended so: its requests, outcome and cursor are those of the run under its replies, which
  -- began so many instructions
  pub record HasClosed (s : Session M) (asked : List Answered) (now : M) (how : Outcome) (steps : ℕ) : Type 0 where
    pub run : HaveRun s.code (start_of s.units s.opening) asked
    pub cursor : ℤ
    pub ran : Ran
    pub runs : Runs s.code s.opening.of.function s.opening.of.args s.opening.cursor s.units (replies_of asked) ran
    pub ends : EndsBy s.opening asked (account_of ran) how cursor now
    pub counted : steps ≡ ran.count
    pub fit : RepliesFit ran.requests (replies_of asked)

  -- a function of the code was run as one session
  pub record HasRun (code : Code) (units : ℕ) (of : StartOf) (old new : M) (how : Outcome) (steps : ℕ) : Type 0 where
    pub cursor : ℤ
    pub asked : List Answered
    pub closed : HasClosed (record { code = code; units = units; opening = began old of cursor }) asked new how steps

-- ---- without memory

module _ {M : Type 0} (IsOpen : Opens M) (IsUnended : Opens M) (IsHeldUp : HoldsUp M) where
  -- the session is still open with these answered requests, it wasn't ended, or the next request wasn't answered
  pub record IsLeft (s : Session M) (asked : List Answered) (now : M) : Type 0 where
    pub run : HaveRun s.code (start_of s.units s.opening) asked
    pub stands :
        IsOpen s.opening asked now
        ⊎ (IsUnended s.opening asked now
        ⊎ ((request : Request) × CodeAsks s.code (start_of s.units s.opening) asked request
        × IsHeldUp s.opening asked request now))

  -- nothing was done, no session was started, or one was left so
  abbrev pub LeavesSession : (IsUnstarted : M → M → Type 0) → Code → (units : ℕ) → StartOf → M → M → Type 0
  LeavesSession IsUnstarted code units of old new =
      (new ≡ old)
      ⊎ (IsUnstarted old new
      ⊎ ((cursor : ℤ) × (asked : List Answered)
      × IsLeft (record { code = code; units = units; opening = began old of cursor }) asked new))

-- ---- what the steps of a session lead to

module _ {M : Type 0} (IsOpen : Opens M) (HasEnded : Ends M) (IsGivenUp : GivesUp M) where
  -- one request more is answered, or the session has ended
  abbrev pub LeadsTo : Session M → List Answered → M → Moment → Option Outcome → Type 0
  LeadsTo s asked now cpu None = (a : Answered) × IsUnderWay IsOpen s (asked ++ a ∷ []) now cpu
  LeadsTo s asked now cpu (Some how) = HasClosed HasEnded IsGivenUp s asked now how cpu.machine.steps

  -- so it is with each session that was under way
  abbrev pub Leads : M → Moment → M → Moment → Option Outcome → Type 0
  Leads old was new cpu end =
      (s : Session M) (asked : List Answered) → IsUnderWay IsOpen s asked old was → LeadsTo s asked new cpu end

  -- and with each that asked a request
  abbrev pub LeadsAsking : Request → M → Moment → M → Moment → Option Outcome → Type 0
  LeadsAsking request old was new cpu end =
      (s : Session M) (asked : List Answered) → IsAsking IsOpen s asked request old was → LeadsTo s asked new cpu end

  -- each that had begun was played to its end
  abbrev pub Plays : M → Moment → M → Moment → Outcome → Type 0
  Plays old was new cpu how =
      (s : Session M) → Begins IsOpen s old was
      → (asked : List Answered) × HasClosed HasEnded IsGivenUp s asked new how cpu.machine.steps

module _ {M : Type 0} (IsOpen : Opens M) (IsUnended : Opens M) (IsHeldUp : HoldsUp M) where
  -- how want of memory left each session that was under way, each that asked a request, and each that had begun
  abbrev pub Leaves : M → Moment → M → Type 0
  Leaves old was new =
      (s : Session M) (asked : List Answered) → IsUnderWay IsOpen s asked old was
      → IsLeft IsOpen IsUnended IsHeldUp s asked new

  abbrev pub LeavesAsking : Request → M → Moment → M → Type 0
  LeavesAsking request old was new =
      (s : Session M) (asked : List Answered) → IsAsking IsOpen s asked request old was
      → IsLeft IsOpen IsUnended IsHeldUp s asked new

  abbrev pub LeavesBegun : M → Moment → M → Type 0
  LeavesBegun old was new =
      (s : Session M) → Begins IsOpen s old was → (asked : List Answered) × IsLeft IsOpen IsUnended IsHeldUp s asked new
