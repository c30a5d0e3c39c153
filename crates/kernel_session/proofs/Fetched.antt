-- A run goes on from a reply that brings a recording by playing it.
use Rattle.std.proofs.Common.{◌≡◌, ℕ, suc, zero, ◌≤◌, List, [], ◌∷◌, ◌++◌, length, Bool, true, false, Option, Some, None, refl, sym, ap, ◌∙◌, subst, arith}
use Rattle.std.specs.Prelude.{ℤ, not, ◌==◌, nat_lt, slice_get, option_map}
use Rattle.std.proofs.lemmas.Bool.{true≢false, false≢true}
use Rattle.std.proofs.lemmas.Bool.Decides.{nat_tests}
use Rattle.rtio_types.specs.declared.request.Request.{Request}
use Rattle.rtio_types.specs.declared.request.Request.TheVariants as Q
use Rattle.rtio_types.specs.declared.request.Reply.{Reply}
use Rattle.rtio_types.specs.declared.request.Reply.TheVariants as R
use Rattle.rtio_types.specs.Recordings.{Recorded}
use Rattle.core_isa.specs.declared.code.Code.{Code}
use Rattle.core_isa.specs.declared.code.CodeLine.{CodeLine}
use Rattle.core_isa.specs.declared.code.CodeFunction.{CodeFunction}
use Rattle.core_isa.specs.declared.code.Mark.{Mark}
use Rattle.core_isa.specs.declared.instr.Instr.{Instr}
use Rattle.core_isa.specs.declared.instr.Instr.TheVariants as I
use Rattle.core_isa.specs.Machine.{OpenRecording, Machine, MachineEnd, Next, goes, ends, stuck, returned, raised, budget, unanswered, with_operands, opened_by, cursor_before, drop_recording, answered, unit_of, ask_then}
use Rattle.core_isa.specs.Marks.{is_live, IsRightPlace, Marked, HasOrder}
use Rattle.core_isa.specs.Runs.{Ran, Runs, Gives, counted, step_by, step, go_on, steps, boot}
use Rattle.core_isa.specs.Sound.{opened_below, IsOpenedWithin, IsSound, StaysSound}
use Rattle.core_isa.specs.Steps.{on_first, on_some, play_events, play_reply, play, act}
use Rattle.core_isa.proofs.Decided.{found_one}
use Rattle.core_isa.proofs.Safe.{begins_sound, place_of_mark, step_sound}
use Rattle.code_replies.proofs.Extends.{more, Extends, act_both}
use Rattle.kernel_session.specs.Replays.{played_at}
use Rattle.kernel_session.proofs.Replayed.{PlaysOn, plays_on}
use Rattle.kernel_session.proofs.Unplayed.{ends_at_recording, Unplayed, plays, act_unplayed, answered_unplayed, reply_unplayed}

-- no recording is open
abbrev pub NoneOpen : Machine → Type 0
NoneOpen m = m.recording ≡ None

-- ---- one instruction

module _ (recording : Recorded) (rest : List Reply) where
  -- the replies from the recording on
  abbrev given : List Reply
  given = R.Trace recording ∷ rest

  -- where a reply to a request for a recording is lacking, the recording is played once it is there
  abbrev Plays : Next → Next → Type 0
  Plays (ends unanswered m) b =
      ends_at_recording m.asked ≡ true → b ≡ play_events recording.events recording.length (record m { replies = rest })
  Plays (ends returned m) b = Unit {0}
  Plays (ends (raised x) m) b = Unit {0}
  Plays (ends budget m) b = Unit {0}
  Plays (goes m) b = Unit {0}
  Plays stuck b = Unit {0}

  unplayed_plays : (a b : Next) → Unplayed a → Plays a b
  unplayed_plays (ends unanswered m) b other = λ there. absurd (true≢false (sym there ∙ other))
  unplayed_plays (ends returned m) b other = tt
  unplayed_plays (ends (raised x) m) b other = tt
  unplayed_plays (ends budget m) b other = tt
  unplayed_plays (goes m) b other = tt
  unplayed_plays stuck b other = tt

  -- nothing is dropped where no recording is open
  nothing_dropped : (m : Machine) → NoneOpen m → drop_recording m ≡ m
  nothing_dropped m none =
      ap (λ (o : Option OpenRecording). record m { cursor = cursor_before o m.cursor; recording = None }) none
      ∙ ap (λ (o : Option OpenRecording). record m { recording = o }) (sym none)

  play_plays : (request : Request) (m : Machine) → NoneOpen m → Plays (play request m) (play request (more given m))
  play_plays request m none = by_units m.units
    where
      asked : ℕ → Machine
      asked left = record m { units = left; asked = m.asked ++ request ∷ [] }

      by_replies : (left : ℕ) (replies : List Reply)
          → Plays
          (answered replies play_reply (record (asked left) { replies = replies }))
          (answered (replies ++ given) play_reply (record (asked left) { replies = replies ++ given }))
      by_replies left [] =
          λ there.
          ap
          (λ (m' : Machine). play_events recording.events recording.length (record m' { replies = rest }))
          (sym (nothing_dropped (record (asked left) { replies = [] }) none))
      by_replies left (reply ∷ replies) =
          unplayed_plays
          (answered (reply ∷ replies) play_reply (record (asked left) { replies = reply ∷ replies }))
          _
          (answered_unplayed reply replies play_reply (record (asked left) { replies = reply ∷ replies }) (reply_unplayed reply))

      by_units : (n : ℕ) → Plays (unit_of n (ask_then request play_reply) m) (unit_of n (ask_then request play_reply) (more given m))
      by_units zero = tt
      by_units (suc left) = by_replies left m.replies

  act_plays : (code : Code) (i : Instr) (m : Machine) → (plays i ≡ true → NoneOpen m) → Plays (act code i m) (act code i (more given m))
  act_plays code (I.Play n) m none = by_name (slice_get code.names n)
    where
      by_name : (o : Option (List ℕ)) → Plays (on_some o (λ name. play (Q.Fetch name) m)) (on_some o (λ name. play (Q.Fetch name) (more given m)))
      by_name None = tt
      by_name (Some name) = play_plays (Q.Fetch name) m (none refl)
  act_plays code I.PlayHandle m none = by_operands m.top.operands
    where
      by_operands : (operands : List ℤ) → Plays (on_first operands (λ h. play (Q.FetchHandle h)) m) (on_first operands (λ h. play (Q.FetchHandle h)) (more given m))
      by_operands [] = tt
      by_operands (h ∷ others) = play_plays (Q.FetchHandle h) (with_operands m others) (none refl)
  act_plays code i m none = unplayed_plays (act code i m) (act code i (more given m)) (act_unplayed code m i refl)

-- ---- one step of marked code

-- where no frame opened a recording none is open
none_opened : (n : ℕ) (o : Option OpenRecording) → IsOpenedWithin n o → opened_by n o ≡ false → opened_below n o ≡ false → o ≡ None
none_opened n None within own below = refl
none_opened n (Some r) within own below = absurd (contrary r.callers within own below)
  where
    contrary : (c : ℕ) → c ≤ n → (c == n) ≡ false → nat_lt c n ≡ false → ⊥
    contrary c within own below = grind (arith, nat_tests)

plays_live : (i : Instr) → plays i ≡ true → is_live i ≡ true
plays_live (I.Play n) so = refl
plays_live I.PlayHandle so = refl
plays_live i so = absurd (false≢true so)

-- a line that plays a recording finds none open
none_open : (code : Code) → HasOrder code → Marked code → (m : Machine) → IsSound code m → (line : CodeLine) → slice_get code.lines m.top.place ≡ Some line → plays line.instr ≡ true → NoneOpen m
none_open code order marked m sound line found so =
    let here : IsRightPlace code m.top.place = marked m.top.place (place_of_mark code m.top.place _ sound.top.stands.marked) in
    let same : here.line ≡ line = found_one (sym here.at_place ∙ found) in
    let f : here.function ≡ m.top.function = found_one (sym here.in_function ∙ ap (slice_get code.functions) sound.top.stands.same ∙ sound.top.keeps.found) in
    let mark : here.line.mark ≡ record { height = length m.top.operands; tries = length m.top.handlers; rec = sound.top.rec } =
    found_one (sym (ap (option_map (λ (line : CodeLine). line.mark)) here.at_place) ∙ sound.top.stands.marked) in
    let live : is_live here.line.instr ≡ true = ap (λ (line : CodeLine). is_live line.instr) same ∙ plays_live line.instr so in
    let allowed : (here.line.mark.rec ≡ 0) × (here.function.plain ≡ false) = here.right.live live in
    let none : sound.top.rec ≡ 0 = ap (λ (mark : Mark). mark.rec) (sym mark) ∙ allowed.0 in
    let plain : m.top.function.plain ≡ false = ap (λ (f : CodeFunction). f.plain) (sym f) ∙ allowed.1 in
    let own : opened_by (length m.callers) m.recording ≡ false = sound.top.keeps.owns ∙ ap (λ r. not (r == 0)) none in
    none_opened (length m.callers) m.recording sound.within own (by_below (opened_below (length m.callers) m.recording) refl plain)
  where
    by_below : (b : Bool) → opened_below (length m.callers) m.recording ≡ b → m.top.function.plain ≡ false → opened_below (length m.callers) m.recording ≡ false
    by_below false is plain = is
    by_below true is plain = absurd (false≢true (sym plain ∙ sound.top.keeps.plain is))

-- ---- runs

module _ (code : Code) (order : HasOrder code) (marked : Marked code) (recording : Recorded) (rest : List Reply) where
  step_plays : (m : Machine) → IsSound code m → Plays recording rest (step code m) (step code (more (R.Trace recording ∷ rest) m))
  step_plays m sound = by_line (slice_get code.lines m.top.place) refl
    where
      by_line : (o : Option CodeLine) → slice_get code.lines m.top.place ≡ o → Plays recording rest (step_by code o m) (step_by code o (more (R.Trace recording ∷ rest) m))
      by_line None found = tt
      by_line (Some line) found = act_plays recording rest code line.instr (counted m) (none_open code order marked m sound line found)

  -- a run that lacks a reply to a request for a recording, and the run that gets it
  abbrev pub PlaysBehind : Ran → Ran → Type 0
  PlaysBehind a b = a.outcome ≡ unanswered → ends_at_recording a.requests ≡ true → PlaysOn a.requests (played_at a.cursor recording.events) rest b

  ended_plays : (k : ℕ) (outcome : MachineEnd) (m : Machine) (b' : Next) (a b : Ran) → outcome ≡ unanswered → Plays recording rest (ends outcome m) b' → Gives (ends outcome m) a → Gives (go_on b' (steps code k)) b → ends_at_recording a.requests ≡ true → PlaysOn a.requests (played_at a.cursor recording.events) rest b
  ended_plays k outcome m b' a b lacks plays one other there = by_end outcome lacks plays one
    where
      by_end : (outcome : MachineEnd) → outcome ≡ unanswered → Plays recording rest (ends outcome m) b' → Gives (ends outcome m) a → PlaysOn a.requests (played_at a.cursor recording.events) rest b
      by_end unanswered lacks plays one =
          let asked : a.requests ≡ m.asked = ap (λ (r : Ran). r.requests) one in
          let cursor : a.cursor ≡ m.cursor = ap (λ (r : Ran). r.cursor) one in
          let goes_on = subst (λ (n : Next). Gives (go_on n (steps code k)) b) (plays (ap ends_at_recording (sym asked) ∙ there)) other in
          let played : PlaysOn m.asked (played_at m.cursor recording.events) rest b = plays_on code k b recording.events recording.length (record m { replies = rest }) goes_on in
          subst (λ (q : List Request). PlaysOn q (played_at a.cursor recording.events) rest b) (sym asked)
          (subst (λ (t : ℤ). PlaysOn m.asked (played_at t recording.events) rest b) (sym cursor) played)
      by_end returned lacks plays one = absurd (cc)
      by_end (raised x) lacks plays one = absurd (cc)
      by_end budget lacks plays one = absurd (cc)

  both_play : (j k : ℕ) (m : Machine) (a b : Ran) → IsSound code m → Gives (steps code j m) a → Gives (steps code k (more (R.Trace recording ∷ rest) m)) b → PlaysBehind a b
  both_play zero k m a b sound one other = absurd one
  both_play (suc j) zero m a b sound one other = absurd other
  both_play (suc j) (suc k) m a b sound one other =
      by_step (step code m) (step code (more given' m)) (step_both m) (step_plays m sound) (step_sound code order marked m sound) (both_play j k) one other
    where
      given' : List Reply
      given' = R.Trace recording ∷ rest

      step_both : (m : Machine) → Extends given' (step code m) (step code (more given' m))
      step_both m = by_line (slice_get code.lines m.top.place)
        where
          by_line : (o : Option CodeLine) → Extends given' (step_by code o m) (step_by code o (more given' m))
          by_line None = tt
          by_line (Some line) = act_both given' code line.instr (counted m)

      by_step : (n n' : Next) → Extends given' n n' → Plays recording rest n n' → StaysSound code n
          → ((m : Machine) (a b : Ran) → IsSound code m → Gives (steps code j m) a → Gives (steps code k (more given' m)) b → PlaysBehind a b)
          → Gives (go_on n (steps code j)) a → Gives (go_on n' (steps code k)) b → PlaysBehind a b
      by_step (goes now) n' both plays sound on one other = on now a b sound one (subst (λ (n : Next). Gives (go_on n (steps code k)) b) both other)
      by_step (ends outcome now) n' both plays sound on one other =
          λ lacks there. ended_plays k outcome now n' a b (ap (λ (r : Ran). r.outcome) (sym one) ∙ lacks) plays one other there
      by_step stuck n' both plays sound on one other = absurd one

-- so it is with all runs of marked code
pub runs_play : (code : Code) → HasOrder code → Marked code
    → (function : ℕ) (f : CodeFunction) → slice_get code.functions function ≡ Some f
    → (args : List ℤ) → length args ≡ f.params
    → (cursor : ℤ) (units : ℕ) (front rest : List Reply) (recording : Recorded) (a b : Ran)
    → Runs code function args cursor units front a
    → Runs code function args cursor units (front ++ R.Trace recording ∷ rest) b
    → a.outcome ≡ unanswered
    → ends_at_recording a.requests ≡ true
    → PlaysOn a.requests (played_at a.cursor recording.events) rest b
runs_play code order marked function f found args fit cursor units front rest recording a b one other =
    let same : one.entry ≡ f = found_one (sym one.found ∙ found) in
    let again : other.entry ≡ f = found_one (sym other.found ∙ found) in
    both_play
    code
    order
    marked
    recording
    rest
    one.bound
    other.bound
    (boot f args cursor units front)
    a
    b
    (begins_sound code order marked function f found args fit cursor units front)
    (subst (λ (f : CodeFunction). Gives (steps code one.bound (boot f args cursor units front)) a) same one.gives)
    (subst (λ (f : CodeFunction). Gives (steps code other.bound (boot f args cursor units (front ++ R.Trace recording ∷ rest))) b) again other.gives)
