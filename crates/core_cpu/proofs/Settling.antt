-- What a CPU comes to along a course.
use Rattle.std.proofs.Common.{◌≡◌, ℕ, ◌+◌, ◌<◌, ◌≤◌, ◌^◌, List, [], ◌∷◌, ◌++◌, length, false, Option, Some, IsTrue, refl, sym, ◌∙◌, ap, subst, subst₂, arith}
use Rattle.std.specs.Prelude.{ℤ, pos, slice_get, option_to_list, is_some}
use Rattle.std.specs.List.{All}
use Rattle.std.proofs.lemmas.Bool.{false≢true}
use Rattle.std.proofs.lemmas.List.{append-nil}
use Rattle.rtio_types.specs.declared.request.Reply.{Reply}
use Rattle.rtio_types.specs.declared.request.Request.{Request}
use Rattle.core_image.specs.Ranges.{IsInRange}
use Rattle.rtio_types.specs.Replies.{raised_by}
use Rattle.rtio_types.specs.declared.request.Reply.TheVariants as R
use Rattle.core_isa.specs.Machine.{Machine, Next, goes, raise_or}
use Rattle.core_isa.specs.Marks.{Marked, HasOrder}
use Rattle.core_isa.specs.Runs.{boot, counted, step, step_by}
use Rattle.core_isa.specs.Sound.{IsSound, StaysSound}
use Rattle.core_isa.specs.Steps.{act}
use Rattle.core_isa.specs.declared.code.Code.{Code}
use Rattle.core_isa.specs.declared.code.CodeFunction.{CodeFunction}
use Rattle.core_isa.specs.declared.code.CodeLine.{CodeLine}
use Rattle.core_isa.specs.declared.instr.Instr.{Instr}
use Rattle.core_isa.proofs.Ending.{steps_fall}
use Rattle.core_isa.proofs.Safe.{begins_sound, place_of_mark, step_sound}
use Rattle.core_cpu.specs.Courses.{along, asks_of, phase_of, CanRun, TurnsTo, WaitsAt}
use Rattle.core_cpu.specs.Layout.{Held, IsHeld}
use Rattle.core_cpu.specs.Moments.{is_asking, is_playing, is_ready, proceed, take_reply, with_history}
use Rattle.core_cpu.specs.Nearness.{distance, nearness}
use Rattle.core_cpu.specs.Settled.{moment_of, CanAsk, HasRoom, IsProper, IsSettled}
use Rattle.core_cpu.specs.declared.course.Course.{Course}
use Rattle.core_cpu.specs.declared.course.Course.TheVariants.{Silent, Asks}
use Rattle.core_cpu.specs.declared.course.Way.TheVariants.{Goes, Returned, Raised, Spent}
use Rattle.core_cpu.specs.declared.phase.Phase.{Phase}
use Rattle.core_cpu.specs.declared.phase.Phase.TheVariants.{Ready, Playing, Asking, Over}
use Rattle.core_cpu.specs.declared.phase.Purpose.{Purpose}
use Rattle.core_cpu.specs.declared.phase.Purpose.TheVariants.{Number, Nothing, Fetched, Played}
use Rattle.core_cpu.proofs.Here.{mark_is_small}
use Rattle.core_cpu.proofs.Nearness.{falls_nearer, second_bound}
use Rattle.core_cpu.proofs.Stops.{ready_is}
use Rattle.core_cpu.proofs.Turning.{changed_then}

-- a course in the words of a moment
along_proceeds : (course : Course) (m : Machine) (more : List Reply) (before : List Request)
    → along course (with_history m more before) ≡ proceed (phase_of course) (with_history m more (before ++ option_to_list (asks_of course)))
along_proceeds (Silent Goes) m more before = ap (λ asked. goes (with_history m more asked)) (sym (append-nil before))
along_proceeds (Asks purpose request) m more before = refl
along_proceeds (Silent Returned) m more before =
    ap (λ asked. proceed (phase_of (Silent Returned)) (with_history m more asked)) (sym (append-nil before))
along_proceeds (Silent (Raised x)) m more before =
    ap (λ asked. proceed (phase_of (Silent (Raised x))) (with_history m more asked)) (sym (append-nil before))
along_proceeds (Silent Spent) m more before =
    ap (λ asked. proceed (phase_of (Silent Spent)) (with_history m more asked)) (sym (append-nil before))

pub goes_on_course : (does : Machine → Next) (old new : Held) (course : Course) → TurnsTo does old course new
    → (more : List Reply) (before : List Request)
    → does (with_history old.machine more before)
    ≡ proceed (phase_of course) (with_history new.machine more (before ++ option_to_list (asks_of course)))
goes_on_course does old new course turns more before =
    turns.leads more before ∙ along_proceeds course new.machine more before

-- it asks where it has a request, and plays nothing
pub asks_on_course : (course : Course) → is_asking (phase_of course) ≡ is_some (asks_of course)
asks_on_course (Silent Goes) = refl
asks_on_course (Asks purpose request) = refl
asks_on_course (Silent Returned) = refl
asks_on_course (Silent (Raised x)) = refl
asks_on_course (Silent Spent) = refl

pub plays_nothing : (course : Course) → is_playing (phase_of course) ≡ false
plays_nothing (Silent Goes) = refl
plays_nothing (Asks purpose request) = refl
plays_nothing (Silent Returned) = refl
plays_nothing (Silent (Raised x)) = refl
plays_nothing (Silent Spent) = refl

proper_on_course : (course : Course) (place : ℕ) (m : Machine) → place + 1 < 2 ^ 32 → WaitsAt course place m → IsProper m (phase_of course)
proper_on_course (Silent Goes) place m within waits = tt
proper_on_course (Asks purpose request) place m within waits =
    record { closed = waits.0; place = subst (λ p. p + 1 < 2 ^ 32) (sym waits.1) within }
proper_on_course (Silent Returned) place m within waits = refl
proper_on_course (Silent (Raised x)) place m within waits = refl
proper_on_course (Silent Spent) place m within waits = refl

-- what is settled stays so
pub settles : (code : Code) (does : Machine → Next) (old new : Held) (course : Course)
    → ((replies : List Reply) → (asked : List Request) × StaysSound code (does (with_history old.machine replies asked)))
    → old.machine.top.place + 1 < 2 ^ 32
    → All (λ f. f.slots ≤ old.width) code.functions
    → IsInRange code
    → Marked code
    → TurnsTo does old course new
    → IsSettled code new (phase_of course)
settles code does old new course sound within room in_range marked turns =
    record {
      in_range = in_range;
      marked = marked;
      sound = λ replies. (
        (sound replies).0 ++ option_to_list (asks_of course),
        subst
            (StaysSound code)
            (goes_on_course does old new course turns replies (sound replies).0)
            (sound replies).1,
      );
      proper = proper_on_course course old.machine.top.place new.machine within turns.waits;
      room = subst (λ width. All (λ f. f.slots ≤ width) code.functions) (sym turns.width) room;
    }

pub waits_on_course : (code : Code) (held : Held) (course : Course) → IsSettled code held (phase_of course) → IsTrue (is_some (asks_of course))
    → CanAsk (moment_of code held (phase_of course))
waits_on_course code held (Silent way) settled asks = absurd (false≢true asks)
waits_on_course code held (Asks purpose request) settled asks =
    record { marked = settled.marked; closed = settled.proper.closed }

-- a machine that goes on is sound
pub ready_sound : (code : Code) (held : Held) (phase : Phase) → IsTrue (is_ready phase) → IsSettled code held phase → IsSound code held.machine
ready_sound code held Ready ready settled =
    let sound = (settled.sound []).1 in
    record { top = sound.top; callers = sound.callers; within = sound.within }
ready_sound code held (Playing left) ready settled = absurd (false≢true ready)
ready_sound code held (Asking purpose) ready settled = absurd (false≢true ready)
ready_sound code held (Over outcome) ready settled = absurd (false≢true ready)

-- its instruction is there
pub place_within : (code : Code) (held : Held) → IsSound code held.machine → held.machine.top.place < length code.lines
place_within code held sound = place_of_mark code held.machine.top.place _ sound.top.stands.marked

pub place_fits : (code : Code) (held : Held) → IsInRange code → IsSound code held.machine → held.machine.top.place + 1 < 2 ^ 32
place_fits code held in_range sound =
    let within : held.machine.top.place < length code.lines = place_within code held sound in
    let few : length code.lines ≤ 262144 = in_range.few_lines in omega arith

-- the instruction at its place is its step
pub steps_turn : (code : Code) (old new : Held) (course : Course) (line : CodeLine)
    → slice_get code.lines old.machine.top.place ≡ Some line
    → TurnsTo (λ m. act code line.instr (counted m)) old course new
    → TurnsTo (step code) old course new
steps_turn code old new course line found turns =
    record {
      leads = λ more before.
          ap (λ o. step_by code o (with_history old.machine more before)) found ∙ turns.leads more before;
      waits = turns.waits;
      width = turns.width;
    }

-- a step keeps what is settled
pub step_settles : (code : Code) (old new : Held) (course : Course)
    → IsInRange code
    → HasOrder code
    → Marked code
    → IsSound code old.machine
    → All (λ f. f.slots ≤ old.width) code.functions
    → TurnsTo (step code) old course new
    → IsSettled code new (phase_of course)
step_settles code old new course in_range order marked sound room turns =
    settles
    code
    (step code)
    old
    new
    course
    (λ replies.
    ([], step_sound code order marked (with_history old.machine replies []) (record { top = sound.top; callers = sound.callers; within = sound.within })))
    (place_fits code old in_range sound)
    room
    in_range
    marked
    turns

-- and brings it nearer to its next stop
pub step_nearer : (code : Code) (old new : Held) (course : Course)
    → Marked code
    → IsHeld new
    → TurnsTo (step code) old course new
    → nearness (moment_of code new (phase_of course)) < nearness (moment_of code old Ready)
step_nearer code old new (Silent Goes) marked held turns =
    let nearer : distance code new.machine < distance code old.machine =
    falls_nearer
    code
    old.machine
    new.machine
    (steps_fall code marked (with_history old.machine [] []) (with_history new.machine [] []) (turns.leads [] []))
    (second_bound code new held)
    in
    omega arith
step_nearer code old new (Asks purpose request) marked held turns = omega arith
step_nearer code old new (Silent Returned) marked held turns = omega arith
step_nearer code old new (Silent (Raised x)) marked held turns = omega arith
step_nearer code old new (Silent Spent) marked held turns = omega arith

-- a step of a CPU that is ready
pub record Stepped (code : Code) (old new : Held) (course : Course) : Type 0 where
  pub in_range : IsInRange code
  pub order : HasOrder code
  pub marked : Marked code
  pub sound : IsSound code old.machine
  pub room : All (λ f. f.slots ≤ old.width) code.functions
  pub turns : TurnsTo (step code) old course new

module _ (k code : Code) (same : k ≡ code) (held : Held) (phase : Phase) (ready : IsTrue (is_ready phase)) (settled : IsSettled code held phase) (in_range : IsInRange k) (order : HasOrder k) (marked : Marked k) (place : ℕ) (at : place ≡ held.machine.top.place) where
  -- its place is there
  pub line_there : place < length k.lines
  line_there =
      subst₂
      (λ p. λ c. p < length c.lines)
      (sym at)
      (sym same)
      (place_within code held (ready_sound code held phase ready settled))

  -- so it can run the line there
  pub line_runs : (line : CodeLine) → slice_get k.lines place ≡ Some line → CanRun k held line.instr
  line_runs line found =
      let here : IsSettled k held phase = subst (λ c. IsSettled c held phase) (sym same) settled in
      record {
        in_range = in_range;
        order = order;
        marked = marked;
        sound = ready_sound k held phase ready here;
        mark = line.mark;
        found = subst (λ p. slice_get k.lines p ≡ Some line) at found;
        room = here.room;
      }

  pub stepped : (line : CodeLine) (new : Held) (course : Course)
      → slice_get k.lines place ≡ Some line
      → TurnsTo (λ m. act k line.instr (counted m)) held course new
      → Stepped code held new course
  stepped line new course found turns =
      subst
      (λ c. Stepped c held new course)
      same
      (record {
        in_range = in_range;
        order = order;
        marked = marked;
        sound = (line_runs line found).sound;
        room = (line_runs line found).room;
        turns = steps_turn k held new course line (subst (λ p. slice_get k.lines p ≡ Some line) at found) turns;
      })

-- what comes of it
pub stepped_settles : (code : Code) (old new : Held) (course : Course) (phase : Phase) → Stepped code old new course → phase ≡ phase_of course → IsSettled code new phase
stepped_settles code old new course phase s is =
    subst
    (IsSettled code new)
    (sym is)
    (step_settles code old new course s.in_range s.order s.marked s.sound s.room s.turns)

pub stepped_goes : (code : Code) (old new : Held) (course : Course) (phase : Phase) → Stepped code old new course → phase ≡ phase_of course
    → (more : List Reply) (before : List Request)
    → step code (with_history old.machine more before) ≡ proceed phase (with_history new.machine more (before ++ option_to_list (asks_of course)))
stepped_goes code old new course phase s is more before =
    goes_on_course (step code) old new course s.turns more before
    ∙ ap (λ p. proceed p (with_history new.machine more (before ++ option_to_list (asks_of course)))) (sym is)

pub stepped_nearer : (code : Code) (old new : Held) (course : Course) (before phase : Phase) → Stepped code old new course → IsHeld new → IsTrue (is_ready before) → phase ≡ phase_of course
    → nearness (moment_of code new phase) < nearness (moment_of code old before)
stepped_nearer code old new course before phase s held ready is =
    subst₂
    (λ p. λ q. nearness (moment_of code new p) < nearness (moment_of code old q))
    (sym is)
    (sym (ready_is before ready))
    (step_nearer code old new course s.marked held s.turns)

-- a CPU that is booted
pub booted_settled : (k code : Code) → k ≡ code → IsInRange k → HasOrder k → Marked k
    → (function : ℕ) (entry : CodeFunction) → slice_get k.functions function ≡ Some entry
    → (args : List ℤ) → length args ≡ entry.params
    → (cursor : ℤ) (units width : ℕ) (held : Held)
    → held ≡ record { machine = boot entry args cursor units []; width = width }
    → All (λ f. f.slots ≤ width) k.functions
    → IsSettled code held Ready
booted_settled k code same in_range order marked function entry found args fit cursor units width held is room =
    subst₂
    (λ c. λ h. IsSettled c h Ready)
    same
    (sym is)
    (record {
      in_range = in_range;
      marked = marked;
      sound = λ replies.
          ([], begins_sound k order marked function entry found args fit cursor units replies);
      proper = tt;
      room = room;
    })

-- a number that is asked for has room
pub number_fits : (code : Code) (held : Held) (purpose : Purpose) → IsSettled code held (Asking purpose) → HasRoom purpose held.machine
number_fits code held Number settled =
    let sound = (settled.sound (R.Time (pos 0) ∷ [])).1 in
    let small = mark_is_small code settled.in_range (held.machine.top.place + 1) _ sound.top.stands.marked in
    small.height
number_fits code held Nothing settled = tt
number_fits code held Fetched settled = tt
number_fits code held (Played left) settled = tt

-- a reply keeps what is settled
pub reply_settles : (code : Code) (old new : Held) (purpose : Purpose) (reply : Reply) (next : Phase)
    → IsSettled code old (Asking purpose)
    → ((more : List Reply) (before : List Request)
    → raise_or (raised_by reply) (take_reply purpose reply) (with_history old.machine more before)
    ≡ proceed next (with_history new.machine more before))
    → IsProper new.machine next
    → new.width ≡ old.width
    → IsSettled code new next
reply_settles code old new purpose reply next settled takes proper width =
    record {
      in_range = settled.in_range;
      marked = settled.marked;
      sound = λ replies. (
        (settled.sound (reply ∷ replies)).0,
        subst
            (StaysSound code)
            (takes replies (settled.sound (reply ∷ replies)).0)
            (settled.sound (reply ∷ replies)).1,
      );
      proper = proper;
      room = subst (λ w. All (λ f. f.slots ≤ w) code.functions) (sym width) settled.room;
    }

-- an instruction that is counted can run
pub counted_can : (code : Code) (old now : Held) (instr : Instr) → now ≡ record old { machine = counted old.machine } → CanRun code old instr → CanRun code now instr
counted_can code old now instr is can =
    subst
    (λ held. CanRun code held instr)
    (sym is)
    (record {
      in_range = can.in_range;
      order = can.order;
      marked = can.marked;
      sound = record { top = can.sound.top; callers = can.sound.callers; within = can.sound.within };
      mark = can.mark;
      found = can.found;
      room = can.room;
    })

-- and then it runs
pub counted_turn : (code : Code) (old now new : Held) (instr : Instr) (course : Course) → now ≡ record old { machine = counted old.machine } → TurnsTo (act code instr) now course new
    → TurnsTo (λ m. act code instr (counted m)) old course new
counted_turn code old now new instr course is turns =
    changed_then
    (λ m. act code instr (counted m))
    (act code instr)
    old
    now
    (record old { machine = counted old.machine })
    new
    course
    is
    (λ more before. refl)
    refl
    refl
    turns

-- where a request was asked, one may wait
pub asked_waits : (code : Code) (held : Held) (course : Course) (phase : Phase) (asks : Option Request) → phase ≡ phase_of course → asks ≡ asks_of course → IsSettled code held phase → IsTrue (is_some asks)
    → CanAsk (moment_of code held phase)
asked_waits code held course phase asks is requests settled some =
    subst
    (λ p. CanAsk (moment_of code held p))
    (sym is)
    (waits_on_course
    code
    held
    course
    (subst (IsSettled code held) is settled)
    (subst (λ a. IsTrue (is_some a)) requests some))
