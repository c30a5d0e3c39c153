-- A request follows its answer in the run without a core.
use Rattle.std.proofs.Common.{◌≡◌, ℕ, ◌≤◌, List, [], ◌∷◌, ◌++◌, map, Option, Some, None, refl, sym, ap, subst, ◌∙◌, append_assoc, append-nil}
use Rattle.std.proofs.lemmas.List.{map-append}
use Rattle.rtio_types.specs.declared.outcome.Exc.{Exc}
use Rattle.rtio_types.specs.declared.request.Request.{Request}
use Rattle.rtio_types.specs.declared.request.Reply.{Reply}
use Rattle.rtio_types.specs.Replies.{raised_by}
use Rattle.rtio_core.specs.declared.data.Act.TheVariants.{Asked}
use Rattle.rtio_core.specs.declared.data.Config.{Config}
use Rattle.rtio_core.specs.declared.data.Entry.{Entry}
use Rattle.rtio_core.specs.Lawful.{IsLawfulAfter, MayFollow}
use Rattle.timeline_sem.specs.Actions.{State, Completion, go_on, next_reply_of, raise_if, ask}
use Rattle.timeline_sem.specs.Laws.{final}
use Rattle.timeline_sem.proofs.Keeps.{keeps_ask}
use Rattle.timeline_sem.proofs.KeepsWhole.{AskedGrow, asked_grow, asked_grow_by_asking}
use Rattle.slack_meaning.specs.Actions as S
use Rattle.slack_law.specs.Promise.{Answered, requests_of, replies_of}
use Rattle.slack_law.proofs.Standing.{IsWithin, AreNamesWithin, IsCollectedWithin, IsInTime, AreAllInTime, AreInTimeFor, Agree, IsBounded, bounds_of, asked_entry, Session, history_of, Stands, by_silence, Meets, stopped, normally, only}
use Rattle.slack_law.proofs.Following.{Follows, agree-next, in-time-lacking}

-- the entry that comes next in a lawful history may follow
lawful-next : (config : Config) (before front rest : List Entry) (entry : Entry) → IsLawfulAfter config before (front ++ entry ∷ rest) → MayFollow config (before ++ front) entry.chair entry.act
lawful-next config before [] rest entry h = subst (λ b. MayFollow config b entry.chair entry.act) (sym (append-nil before)) h.0
lawful-next config before (e ∷ front) rest entry h = subst (λ b. MayFollow config b entry.chair entry.act) (append_assoc before (e ∷ []) front) (lawful-next config (before ++ e ∷ []) front rest entry h.1)

in-time-push : (past : List Answered) (x : Answered) → AreAllInTime past → IsInTime x → AreAllInTime (past ++ x ∷ [])
in-time-push [] x h new = (new, tt)
in-time-push (y ∷ past) x h new = (h.0, in-time-push past x h.1 new)

-- a reply that raises asks no more than one that doesn't
asked-raised : (o : Option Exc) (r : Reply) (s : State) → (final (raise_if o r s)).asked ≡ s.asked
asked-raised None r s = refl
asked-raised (Some x) r s = refl

-- the state after an answer: the bounds hold of the history with it, all else is as before, and it raises nothing
pub record IsAnswered (config : Config) (chair : ℕ) (history : List Entry) (x : Answered) (a a' : S.State) : Type 0 where
  pub bounded : IsBounded config (history ++ asked_entry chair x ∷ []) (bounds_of a')
  pub values : a'.values ≡ a.values
  pub cursor : a'.cursor ≡ a.cursor
  pub units : a'.units ≡ a.units
  pub collected : a'.collected ≡ a.collected
  pub in_time : IsInTime x
  pub quiet : raised_by x.reply ≡ None

-- so a part of the run without a core answers, or its verdict stands
abbrev pub IsAnsweredBy : {B : Type 0} → Config → (chair : ℕ) → List Entry → (Reply → B → Type 0) → Answered → S.State → S.Completion B → Type 0
IsAnsweredBy config chair history good x a (S.normal y a') = good x.reply y × IsAnswered config chair history x a a'
IsAnsweredBy config chair history good x a (S.early (S.decided verdict) a') = Unit {0}
IsAnsweredBy config chair history good x a (S.early reason a') = ⊥

-- so it answers a request, whatever the history within the bounds, if the reply may follow
abbrev pub Answers : {B : Type 0} → Config → (chair : ℕ) → Request → (Reply → B → Type 0) → S.Action B → Type 0
Answers config chair q good n =
    (history : List Entry) (r : Reply) (at : ℕ) (a : S.State)
    → IsBounded config history (bounds_of a)
    → MayFollow config history chair (Asked q r at)
    → IsAnsweredBy config chair history good (record { request = q; reply = r; at = at }) a (n a)

-- the state with a request asked and so many replies left
abbrev asking : Request → List Reply → State → State
asking q replies s = record s { asked = s.asked ++ q ∷ []; replies = replies }

-- the answer of a request at hand, by the replies
abbrev reply-to : Request → List Reply → State → Completion Reply
reply-to q replies s =
    go_on (next_reply_of replies (record s { asked = s.asked ++ q ∷ [] })) (λ reply. raise_if (raised_by reply) reply)

module _ {session : Session} where
  stands-after : (s : State) (a a' : S.State) (q : Request) (x : Answered) (left : List Answered) (st : Stands session s a) → session.world ≡ st.past ++ x ∷ left → q ≡ x.request → IsAnswered session.config session.chair (history_of session st.past) x a a' → Stands session (asking q (replies_of left) s) a'
  stands-after s a a' q x left st whole same h = record {
    past = st.past ++ x ∷ [];
    left = left;
    whole = whole ∙ sym (append_assoc st.past (x ∷ []) left);
    asked = ap (λ qs. qs ++ q ∷ []) st.asked ∙ ap (λ p. requests_of st.past ++ p ∷ []) same ∙ sym (map-append (λ (y : Answered). y.request) st.past (x ∷ []));
    replies = refl;
    in_time = in-time-push st.past x st.in_time h.in_time;
    bounded = subst (λ es. IsBounded session.config (session.start ∷ es) (bounds_of a')) (sym (map-append (asked_entry session.chair) st.past (x ∷ []))) h.bounded;
    values = subst (λ v. AreNamesWithin s.values v) (sym h.values) st.values;
    cursor = subst (λ t. IsWithin s.cursor t) (sym h.cursor) st.cursor;
    units = subst (λ n. s.units ≤ n) (sym h.units) st.units;
    collected = subst (λ c. IsCollectedWithin s.collected c) (sym h.collected) st.collected;
  }

  by-end : {B : Type 0} (good : Reply → B → Type 0) (s : State) (a : S.State) (q : Request) (x : Answered) (left : List Answered) (st : Stands session s a) → session.world ≡ st.past ++ x ∷ left → q ≡ x.request → (d : S.Completion B) → IsAnsweredBy session.config session.chair (history_of session st.past) good x a d → Meets session good (raise_if (raised_by x.reply) x.reply (asking q (replies_of left) s)) d
  by-end good s a q x left st whole same (S.normal y a') h =
      subst (λ o. Meets session good (raise_if o x.reply (asking q (replies_of left) s)) (S.normal y a')) (sym h.1.quiet) (normally h.0 (stands-after s a a' q x left st whole same h.1))
  by-end good s a q x left st whole same (S.early (S.decided verdict) a') h = stopped verdict a'
  by-end good s a q x left st whole same (S.early S.break a') h = absurd h
  by-end good s a q x left st whole same (S.early S.continue a') h = absurd h
  by-end good s a q x left st whole same (S.early (S.return v) a') h = absurd h
  by-end good s a q x left st whole same (S.early (S.raised y) a') h = absurd h
  by-end good s a q x left st whole same (S.early S.budget a') h = absurd h

  by-left : {B : Type 0} (good : Reply → B → Type 0) (q : Request) (n : S.Action B) → Answers session.config session.chair q good n → (s : State) (a : S.State) (st : Stands session s a) (left : List Answered) → session.world ≡ st.past ++ left → Agree (final (reply-to q (replies_of left) s)).asked session.world → Meets session good (reply-to q (replies_of left) s) (n a)
  by-left good q n answers s a st [] whole agree =
      let front : AreInTimeFor (requests_of st.past ++ q ∷ []) st.past = in-time-lacking st.past q st.in_time in
      let all : AreInTimeFor (s.asked ++ q ∷ []) st.past = subst (λ qs. AreInTimeFor (qs ++ q ∷ []) st.past) (sym st.asked) front in
      only by_silence
      (subst (λ xs. AreInTimeFor (s.asked ++ q ∷ []) xs) (sym (whole ∙ append-nil st.past)) all)
  by-left good q n answers s a st (x ∷ left) whole agree =
      let told : Agree (s.asked ++ q ∷ []) session.world = subst (λ qs. Agree qs session.world) (asked-raised (raised_by x.reply) x.reply (asking q (replies_of left) s)) agree in
      let here : Agree (requests_of st.past ++ q ∷ []) (st.past ++ x ∷ left) = subst (λ xs. Agree (requests_of st.past ++ q ∷ []) xs) whole (subst (λ qs. Agree (qs ++ q ∷ []) session.world) st.asked told) in
      let same : q ≡ x.request = agree-next st.past q x left here in
      let entries : IsLawfulAfter session.config (session.start ∷ []) (map (asked_entry session.chair) st.past ++ asked_entry session.chair x ∷ map (asked_entry session.chair) left) = subst (λ es. IsLawfulAfter session.config (session.start ∷ []) es) (ap (map (asked_entry session.chair)) whole ∙ map-append (asked_entry session.chair) st.past (x ∷ left)) session.lawful in
      let may : MayFollow session.config (history_of session st.past) session.chair (Asked x.request x.reply x.at) = lawful-next session.config (session.start ∷ []) (map (asked_entry session.chair) st.past) (map (asked_entry session.chair) left) (asked_entry session.chair x) entries in
      let mine : MayFollow session.config (history_of session st.past) session.chair (Asked q x.reply x.at) = subst (λ p. MayFollow session.config (history_of session st.past) session.chair (Asked p x.reply x.at)) (sym same) may in
      let told : IsAnsweredBy session.config session.chair (history_of session st.past) good (record { request = q; reply = x.reply; at = x.at }) a (n a) = answers (history_of session st.past) x.reply x.at a st.bounded mine in
      let of_x : IsAnsweredBy session.config session.chair (history_of session st.past) good x a (n a) = subst (λ p. IsAnsweredBy session.config session.chair (history_of session st.past) good (record { request = p; reply = x.reply; at = x.at }) a (n a)) same told in
      by-end good s a q x left st whole same (n a) of_x

  -- a request follows what answers it
  pub follows_ask : {B : Type 0} {good : Reply → B → Type 0} (q : Request) {n : S.Action B} → Answers session.config session.chair q good n → Follows session good (ask q) n
  follows_ask {good} q {n} answers = record {
    grows = keeps_ask AskedGrow AskedGrow asked_grow asked_grow_by_asking q;
    from = λ s a st. subst (λ replies. Agree (final (reply-to q replies s)).asked session.world → Meets session good (reply-to q replies s) (n a)) (sym st.replies) (by-left good q n answers s a st st.left st.whole);
  }
