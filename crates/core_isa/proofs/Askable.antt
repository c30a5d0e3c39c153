-- A state whose requests are well formed while its replies fit, and what keeps it so.
use Rattle.std.proofs.Common.{◌≡◌, ℕ, suc, zero, ◌+◌, ◌^◌, ◌<◌, ◌≤◌, List, [], ◌∷◌, ◌++◌, length, drop, Bool, true, false, Option, Some, None, IsTrue, refl, sym, ◌∙◌, ap, arith}
use Rattle.std.specs.Prelude.{ℤ, slice_get, is_some}
use Rattle.std.specs.List.{list_all}
use Rattle.std.proofs.lemmas.Bool.{and_parts, and_from, false≢true}
use Rattle.std.proofs.lemmas.List.Folds.{list_all-append}
use Rattle.rtio_types.specs.declared.event.Event.{Event}
use Rattle.rtio_types.specs.declared.outcome.Exc.{Exc}
use Rattle.rtio_types.specs.declared.request.Request.{Request}
use Rattle.rtio_types.specs.declared.request.Request.TheVariants as Q
use Rattle.rtio_types.specs.declared.request.Reply.{Reply}
use Rattle.rtio_types.specs.declared.request.Reply.TheVariants as R
use Rattle.rtio_types.specs.Board.{is_of_board, are_of_board}
use Rattle.rtio_types.specs.Replies.{raised_by, number_in}
use Rattle.rtio_types.specs.Requests.{fits_request, is_well_formed}
use Rattle.rtio_types.specs.Time.{later, shifted}
use Rattle.core_isa.specs.Machine.{HandlerPoint, Frame, OpenRecording, Machine, Next, goes, ends, stuck, raised, next, push, opened_by, opened_since, drop_if, raise_at, raise_in, raise, at_frame, raise_or, answered, ask_then, unit_of, unit_then, request_then}
use Rattle.core_isa.specs.Steps.{ask_number, ask_only, play_events, play_reply, play}
use Rattle.core_isa.specs.WellAsked.{RepliesFit}

-- the outputs of the open recording
abbrev pub events_open : Option OpenRecording → List Event
events_open None = []
events_open (Some open_one) = open_one.events

-- the replies left are those behind the ones that were given; while these fit, the requests are well formed and the
-- recorded outputs are of the board, and no more of them than there were units
pub record IsAskable (given : List Reply) (asked : List Request) (replies : List Reply) (units : ℕ) (recording : Option OpenRecording) : Type 0 where
  pub left : replies ≡ drop (length asked) given
  pub well : RepliesFit asked given → IsTrue (list_all is_well_formed asked)
  pub board : RepliesFit asked given → IsTrue (are_of_board (events_open recording))
  pub bound : length (events_open recording) + units < 2 ^ 32

-- those of a state
abbrev pub Askable : List Reply → Machine → Type 0
Askable given m = IsAskable given m.asked m.replies m.units m.recording

-- what a step leads to or ends in
abbrev pub StaysAskable : List Reply → Next → Type 0
StaysAskable given (goes m) = Askable given m
StaysAskable given (ends outcome m) = Askable given m
StaysAskable given stuck = Unit {0}

-- a recording is dropped
pub dropped_askable : (given : List Reply) (asked : List Request) (replies : List Reply) (units : ℕ) (recording : Option OpenRecording) → IsAskable given asked replies units recording → IsAskable given asked replies units None
dropped_askable given asked replies units recording askable =
    record {
      left = askable.left;
      well = askable.well;
      board = λ fit. refl;
      bound = let bound : length (events_open recording) + units < 2 ^ 32 = askable.bound in omega arith;
    }

pub drop_if_askable : (given : List Reply) (dropped : Bool) (m : Machine) → Askable given m → Askable given (drop_if dropped m)
drop_if_askable given false m askable = askable
drop_if_askable given true m askable = dropped_askable given m.asked m.replies m.units m.recording askable

-- fewer units
pub fewer_askable : (given : List Reply) (asked : List Request) (replies : List Reply) (units left : ℕ) (recording : Option OpenRecording) → left ≤ units → IsAskable given asked replies units recording → IsAskable given asked replies left recording
fewer_askable given asked replies units left recording fewer askable =
    record {
      left = askable.left;
      well = askable.well;
      board = askable.board;
      bound = let bound : length (events_open recording) + units < 2 ^ 32 = askable.bound in omega arith;
    }

-- raising
raise_at_askable : (given : List Reply) (x : Exc) (handlers : List HandlerPoint) (m : Machine) (otherwise : Next) → Askable given m → StaysAskable given otherwise → StaysAskable given (raise_at x handlers m otherwise)
raise_at_askable given x [] m otherwise askable other = other
raise_at_askable given x (handler ∷ rest) m otherwise askable other =
    drop_if_askable given (opened_since handler m) m askable

raise_in_askable : (given : List Reply) (x : Exc) (callers : List Frame) (frame : Frame) (m : Machine) → Askable given m → StaysAskable given (raise_in x frame callers m)
raise_in_askable given x [] frame m askable =
    raise_at_askable
    given
    x
    frame.handlers
    (at_frame frame [] m)
    (ends (raised x) (drop_if (opened_by 0 m.recording) (at_frame frame [] m)))
    askable
    (drop_if_askable given (opened_by 0 m.recording) (at_frame frame [] m) askable)
raise_in_askable given x (caller ∷ callers) frame m askable =
    raise_at_askable
    given
    x
    frame.handlers
    (at_frame frame (caller ∷ callers) m)
    (raise_in x caller callers (drop_if (opened_by (suc (length callers)) m.recording) m))
    askable
    (raise_in_askable
    given
    x
    callers
    caller
    (drop_if (opened_by (suc (length callers)) m.recording) m)
    (drop_if_askable given (opened_by (suc (length callers)) m.recording) m askable))

pub raise_askable : (given : List Reply) (x : Exc) (m : Machine) → Askable given m → StaysAskable given (raise x m)
raise_askable given x m askable = raise_in_askable given x m.callers m.top m askable

-- a unit
pub unit_askable : (given : List Reply) (go : Machine → Next) (m : Machine) → Askable given m → ((left : ℕ) → suc left ≡ m.units → StaysAskable given (go (record m { units = left }))) → StaysAskable given (unit_then go m)
unit_askable given go m askable on = by_units m.units refl
  where
    by_units : (n : ℕ) → n ≡ m.units → StaysAskable given (unit_of n go m)
    by_units zero same = dropped_askable given m.asked m.replies m.units m.recording askable
    by_units (suc left) same = on left same

-- the first of some outputs is of the board, and so are the others
first_of_board : (event : Event) (rest : List Event) → IsTrue (are_of_board (event ∷ rest)) → IsTrue (is_of_board event)
first_of_board event rest board = (and_parts (is_of_board event) (are_of_board rest) board).0

others_of_board : (event : Event) (rest : List Event) → IsTrue (are_of_board (event ∷ rest)) → IsTrue (are_of_board rest)
others_of_board event rest board = (and_parts (is_of_board event) (are_of_board rest) board).1

-- the last of some requests
slice_get-last : {A : Type 0} (xs : List A) (a : A) → slice_get (xs ++ a ∷ []) (length xs) ≡ Some a
slice_get-last [] a = refl
slice_get-last (x ∷ xs) a = slice_get-last xs a

-- and those before it
slice_get-before : {A : Type 0} (xs : List A) (a : A) (k : ℕ) (x : A) → slice_get xs k ≡ Some x → slice_get (xs ++ a ∷ []) k ≡ Some x
slice_get-before [] a k x found = absurd (false≢true (ap is_some found))
slice_get-before (y ∷ xs) a zero x found = found
slice_get-before (y ∷ xs) a (suc k) x found = slice_get-before xs a k x found

-- the first of those left
slice_get-left : {A : Type 0} (n : ℕ) (xs : List A) (x : A) (rest : List A) → x ∷ rest ≡ drop n xs → slice_get xs n ≡ Some x
slice_get-left zero xs x rest left = ap (λ l. slice_get l 0) (sym left)
slice_get-left (suc n) [] x rest left = absurd (let e : suc (length rest) ≡ 0 = ap length left in omega arith)
slice_get-left (suc n) (y ∷ xs) x rest left = slice_get-left n xs x rest left

-- and those behind it
drop-left : {A : Type 0} (n : ℕ) (xs : List A) (x : A) (rest : List A) → x ∷ rest ≡ drop n xs → rest ≡ drop (suc n) xs
drop-left zero xs x rest left = ap (drop 1) left
drop-left (suc n) [] x rest left = absurd (let e : suc (length rest) ≡ 0 = ap length left in omega arith)
drop-left (suc n) (y ∷ xs) x rest left = drop-left n xs x rest left

-- none are left behind none
drop-none : {A : Type 0} (n : ℕ) (xs : List A) → [] ≡ drop n xs → [] ≡ drop (suc n) xs
drop-none zero xs left = ap (drop 1) left
drop-none (suc n) [] left = refl
drop-none (suc n) (y ∷ xs) left = drop-none n xs left

length-more : {A : Type 0} (xs : List A) (a : A) → suc (length xs) ≡ length (xs ++ a ∷ [])
length-more [] a = refl
length-more (x ∷ xs) a = ap suc (length-more xs a)

-- replies fit earlier requests as well
pub fit_before : (asked : List Request) (request : Request) (given : List Reply) → RepliesFit (asked ++ request ∷ []) given → RepliesFit asked given
fit_before asked request given fit =
    λ k q reply found answer. fit k q reply (slice_get-before asked request k q found) answer

-- one request more
more_well : (asked : List Request) (request : Request) (given : List Reply)
    → (RepliesFit asked given → IsTrue (list_all is_well_formed asked))
    → (RepliesFit asked given → IsTrue (is_well_formed request))
    → RepliesFit (asked ++ request ∷ []) given
    → IsTrue (list_all is_well_formed (asked ++ request ∷ []))
more_well asked request given all one fit =
    list_all-append is_well_formed asked (request ∷ [])
    ∙ and_from
    (list_all is_well_formed asked)
    (list_all is_well_formed (request ∷ []))
    (all (fit_before asked request given fit))
    (alone request (one (fit_before asked request given fit)))
  where
    alone : (q : Request) → IsTrue (is_well_formed q) → IsTrue (list_all is_well_formed (q ∷ []))
    alone q well = and_from (is_well_formed q) true well refl

-- a request whose unit is taken
pub ask_askable : (given : List Reply) (request : Request) (go : Reply → Machine → Next) (m : Machine)
    → Askable given m
    → (RepliesFit m.asked given → IsTrue (is_well_formed request))
    → ((reply : Reply) (replies : List Reply)
    → (RepliesFit (m.asked ++ request ∷ []) given → IsTrue (fits_request request reply))
    → IsAskable given (m.asked ++ request ∷ []) replies m.units m.recording
    → StaysAskable given (go reply (record m { asked = m.asked ++ request ∷ []; replies = replies })))
    → StaysAskable given (ask_then request go m)
ask_askable given request go m askable one on = by_replies m.replies askable.left
  where
    now : (replies : List Reply) → replies ≡ drop (suc (length m.asked)) given → IsAskable given (m.asked ++ request ∷ []) replies m.units m.recording
    now replies left =
        record {
          left = left ∙ ap (λ n. drop n given) (length-more m.asked request);
          well = more_well m.asked request given askable.well one;
          board = λ fit. askable.board (fit_before m.asked request given fit);
          bound = askable.bound;
        }

    by_raised : (reply : Reply) (replies : List Reply) (o : Option Exc)
        → IsAskable given (m.asked ++ request ∷ []) replies m.units m.recording
        → (RepliesFit (m.asked ++ request ∷ []) given → IsTrue (fits_request request reply))
        → StaysAskable given (raise_or o (go reply) (record m { asked = m.asked ++ request ∷ []; replies = replies }))
    by_raised reply replies None later fits = on reply replies fits later
    by_raised reply replies (Some x) later fits =
        raise_askable given x (record m { asked = m.asked ++ request ∷ []; replies = replies }) later

    by_replies : (replies : List Reply) → replies ≡ drop (length m.asked) given → StaysAskable given (answered replies go (record m { asked = m.asked ++ request ∷ [] }))
    by_replies [] left =
        dropped_askable
        given
        (m.asked ++ request ∷ [])
        m.replies
        m.units
        m.recording
        (now m.replies (askable.left ∙ sym left ∙ drop-none (length m.asked) given left))
    by_replies (reply ∷ replies) left =
        by_raised
        reply
        replies
        (raised_by reply)
        (now replies (drop-left (length m.asked) given reply replies left))
        (λ fit.
        fit
        (length m.asked)
        request
        reply
        (slice_get-last m.asked request)
        (slice_get-left (length m.asked) given reply replies left))

-- a whole request
pub request_askable : (given : List Reply) (request : Request) (go : Reply → Machine → Next) (m : Machine)
    → Askable given m
    → (RepliesFit m.asked given → IsTrue (is_well_formed request))
    → ((reply : Reply) (left : ℕ) (replies : List Reply)
    → (RepliesFit (m.asked ++ request ∷ []) given → IsTrue (fits_request request reply))
    → IsAskable given (m.asked ++ request ∷ []) replies left m.recording
    → StaysAskable given (go reply (record m { units = left; asked = m.asked ++ request ∷ []; replies = replies })))
    → StaysAskable given (request_then request go m)
request_askable given request go m askable one on =
    unit_askable
    given
    (ask_then request go)
    m
    askable
    (λ left taken.
    ask_askable
    given
    request
    go
    (record m { units = left })
    (fewer_askable given m.asked m.replies m.units left m.recording (omega arith) askable)
    one
    (λ reply replies fits later. on reply left replies fits later))

pub number_askable : (given : List Reply) (request : Request) (m : Machine) → Askable given m → (RepliesFit m.asked given → IsTrue (is_well_formed request)) → StaysAskable given (ask_number request m)
number_askable given request m askable one =
    request_askable
    given
    request
    (λ reply. push (number_in reply))
    m
    askable
    one
    (λ reply left replies fits later. later)

pub only_askable : (given : List Reply) (request : Request) (m : Machine) → Askable given m → (RepliesFit m.asked given → IsTrue (is_well_formed request)) → StaysAskable given (ask_only request m)
only_askable given request m askable one =
    request_askable given request (λ reply. next) m askable one (λ reply left replies fits later. later)

-- the events of a playback, which are of the board while the replies fit
events_askable : (given : List Reply) (events : List Event) (length' : ℤ) (m : Machine) → Askable given m → (RepliesFit m.asked given → IsTrue (are_of_board events)) → StaysAskable given (play_events events length' m)
events_askable given [] length' m askable board = askable
events_askable given (event ∷ rest) length' m askable board =
    request_askable
    given
    (Q.Out (shifted event m.cursor))
    (λ reply. play_events rest length')
    m
    askable
    (λ fit. first_of_board event rest (board fit))
    (λ reply left replies fits later.
    events_askable
    given
    rest
    length'
    (record m { units = left; asked = m.asked ++ Q.Out (shifted event m.cursor) ∷ []; replies = replies })
    later
    (λ fit. others_of_board event rest (board (fit_before m.asked (Q.Out (shifted event m.cursor)) given fit))))

-- a playback of what fits
pub play_askable : (given : List Reply) (request : Request) (m : Machine) → Askable given m
    → IsTrue (is_well_formed request)
    → ((events : List Event) (length' : ℤ) → IsTrue (fits_request request (R.Trace (record { events = events; length = length' }))) → IsTrue (are_of_board events))
    → StaysAskable given (play request m)
play_askable given request m askable one brings =
    request_askable
    given
    request
    play_reply
    m
    askable
    (λ fit. one)
    (λ reply left replies fits later. by_reply reply left replies fits later)
  where
    by_reply : (reply : Reply) (left : ℕ) (replies : List Reply)
        → (RepliesFit (m.asked ++ request ∷ []) given → IsTrue (fits_request request reply))
        → IsAskable given (m.asked ++ request ∷ []) replies left m.recording
        → StaysAskable given (play_reply reply (record m { units = left; asked = m.asked ++ request ∷ []; replies = replies }))
    by_reply (R.Trace recording) left replies fits later =
        events_askable
        given
        recording.events
        recording.length
        (record m { units = left; asked = m.asked ++ request ∷ []; replies = replies })
        later
        (λ fit. brings recording.events recording.length (fits fit))
    by_reply reply left replies fits later = later
