-- A yes means that no output of the kernel comes too late on any core.
use Rattle.std.proofs.Common.{◌≡◌, ◌≢◌, ℕ, ◌≤◌, true, false, List, [], ◌∷◌, ◌++◌, length, map, Option, Some, None, refl, sym, ap, subst, ◌∙◌, arith}
use Rattle.std.specs.Prelude.{ℤ, pos, slice_get, is_some, nat_le, max, min, ◌&&◌}
use Rattle.std.proofs.lemmas.Bool.{leb-true}
use Rattle.std.proofs.lemmas.List.{length-map}
use Rattle.std.proofs.lemmas.List.Elements.{All-nil, All-cons}
use Rattle.limits.specs.Limits.{most_budget}
use Rattle.rtio_types.specs.declared.request.Request.{Request}
use Rattle.rtio_types.specs.declared.request.Reply.TheVariants as answer
use Rattle.rtio_types.specs.Recordings.{Recorded}
use Rattle.kern_syntax.specs.Tree.{ProgramTree}
use Rattle.rtio_core.specs.declared.data.Act.{Act}
use Rattle.rtio_core.specs.declared.data.Act.TheVariants.{Start, Asked, End}
use Rattle.rtio_core.specs.declared.data.Config.{Config}
use Rattle.rtio_core.specs.declared.data.Entry.{Entry}
use Rattle.rtio_core.specs.declared.data.StartOf.{StartOf}
use Rattle.rtio_core.specs.declared.named.Named.{Named}
use Rattle.rtio_core.specs.Entries.{open_session}
use Rattle.rtio_core.specs.Lawful.{IsLawfulAfter, MayFollow}
use Rattle.rtio_core.proofs.Settings.{AreInRange, ranges-of, both}
use Rattle.timeline_sem.specs.Actions.{State, Completion, normal, early}
use Rattle.timeline_sem.specs.Laws.{final}
use Rattle.timeline_sem.specs.Programs.{meaning_of, opening, call_room, optional_body, function_call}
use Rattle.slack_meaning.specs.declared.verdict.Verdict.TheVariants.{Yes}
use Rattle.slack_meaning.specs.declared.verdict.Stopped.{Stopped}
use Rattle.slack_meaning.specs.declared.verdict.Stopped.TheVariants as W
use Rattle.slack_meaning.specs.declared.span.Span.{Span}
use Rattle.slack_meaning.specs.Actions as S
use Rattle.slack_meaning.specs.Programs as G
use Rattle.slack_meaning.specs.Programs.{slack_verdict}
use Rattle.slack_law.specs.Promise.{Answered, first_session, requests_of, replies_of, AreAskedBy, AreInTime, NeverUnderflows}
use Rattle.slack_law.proofs.AnswerTimes.{open-after}
use Rattle.slack_law.proofs.Standing.{IsWithin, AreInTimeFor, Agree, asked_entry, bounds_of, IsBounded, Session, Stands, IsSafe, Meets, stopped, normally, alike, only}
use Rattle.slack_law.proofs.Following.{safe}
use Rattle.slack_law.proofs.Within.{within-exactly}
use Rattle.slack_law.proofs.Programs.{follows_body, follows_function_call}

-- requests that begin with those that were answered agree with them
agree-self : (xs : List Answered) (rest : List Request) → Agree (requests_of xs ++ rest) xs
agree-self [] [] = tt
agree-self [] (q ∷ rest) = tt
agree-self (x ∷ xs) rest = (refl, agree-self xs rest)

-- where they are in time, all are
all-in-time : (xs : List Answered) (rest : List Request) → AreInTimeFor (requests_of xs ++ rest) xs → AreInTime xs
all-in-time [] rest h = All-nil (λ (a : Answered). a.reply ≢ answer.Underflow)
all-in-time (x ∷ xs) rest h = All-cons (λ (a : Answered). a.reply ≢ answer.Underflow) x xs h.0 (all-in-time xs rest h.1)

requests-of-meaning : (c : Completion ℤ) → (meaning_of c).requests ≡ (final c).asked
requests-of-meaning (normal v s) = refl
requests-of-meaning (early reason s) = refl

not-yes : (stopped : Stopped) (outs : ℕ) → G.verdict_where stopped ≡ Yes outs → ⊥
not-yes (W.TooLate n e limit) outs is = absurd (cc)
not-yes (W.Unknown n why) outs is = absurd (cc)

-- a run whose verdict is yes was safe
meets-safe : {session : Session} {c : Completion ℤ} {d : S.Completion Span} (outs : ℕ) → G.verdict_of d ≡ Yes outs → Meets session IsWithin c d → IsSafe session (final c)
meets-safe outs is (stopped verdict a) = absurd (not-yes verdict outs is)
meets-safe outs is (normally h st) = safe st
meets-safe outs is (alike ends st) = safe st
meets-safe outs is (only ends h) = h

none-some : (o : Option (ℕ × ℕ)) (p : ℕ × ℕ) → o ≡ None → o ≡ Some p → ⊥
none-some o p h k = let clash : false ≡ true = sym (ap is_some h) ∙ ap is_some k in absurd (cc)

abbrev chair-in : Option (ℕ × ℕ) → ℕ
chair-in None = 0
chair-in (Some running) = running.0

-- the entries of a session that is open, up to its end
session-of : (config : Config) (chair rid : ℕ) (before rest : List Entry) → open_session before ≡ Some (chair, rid) → IsLawfulAfter config before rest → IsLawfulAfter config before (map (asked_entry chair) (first_session rest))
session-of config chair rid before [] is lawful = tt
session-of config chair rid before (entry ∷ rest) is lawful = by entry.chair entry.act lawful.0 (λ opens. session-of config chair rid (before ++ entry ∷ []) rest opens lawful.1)
  where
    by : (who : ℕ) (act : Act) → MayFollow config before who act → (open_session (before ++ record { chair = who; act = act } ∷ []) ≡ Some (chair, rid) → IsLawfulAfter config (before ++ record { chair = who; act = act } ∷ []) (map (asked_entry chair) (first_session rest))) → IsLawfulAfter config before (map (asked_entry chair) (first_session (record { chair = who; act = act } ∷ rest)))
    by who (Start of cursor at) may ih = absurd (none-some (open_session before) (chair, rid) may.0 is)
    by who (Asked q r at) may ih =
        let both : Some (who, may.0.0) ≡ Some (chair, rid) = sym may.0.1 ∙ is in
        let same : who ≡ chair = ap chair-in both in
        let opens : open_session (before ++ record { chair = who; act = Asked q r at } ∷ []) ≡ Some (chair, rid) = open-after before who q r at ∙ is in
        (subst (λ c. MayFollow config before c (Asked q r at)) same may, subst (λ c. IsLawfulAfter config (before ++ record { chair = c; act = Asked q r at } ∷ []) (map (asked_entry chair) (first_session rest))) same (ih opens))
    by who (End outcome cursor at) may ih = tt

-- the bounds at the beginning of a session that is the first
opening-bounded : (config : Config) (ranges : AreInRange config) (chair : ℕ) (of : StartOf) (cursor : ℤ) (at cost depth : ℕ) → MayFollow config [] chair (Start of cursor at) → config.cost ≡ cost → depth ≤ config.depth → IsBounded config (record { chair = chair; act = Start of cursor at } ∷ []) (bounds_of (G.opening most_budget cost depth))
opening-bounded config ranges chair of cursor at cost depth may same deep = record {
  running = (chair, of.rid);
  session = refl;
  cost = sym same;
  depth = deep;
  limited = let zero_at : at ≤ min config.horizon (max 0 0) = may.3 in omega (arith, zero_at);
  reached = omega arith;
  counted = refl;
  kept = λ name f is. absurd (cc);
  few =
      let most : length config.kept ≤ 64 = leb-true (length config.kept) 64 (both (nat_le (length config.kept) 64) _ (both (nat_le (length config.kept) 64 && _) _ ranges.kept).0).0 in
      let long = length-map {B = List ℕ × Recorded} config.kept (λ (n : Named). (n.name, n.recording)) in
      omega (arith, most, long);
  names = omega arith;
}

first-safe : (program : ProgramTree) (function cost depth outs : ℕ) (config : Config) (ranges : AreInRange config) (units chair : ℕ) (act : Act) (rest : List Entry) → slack_verdict program function cost depth ≡ Yes outs → config.cost ≡ cost → depth ≤ config.depth → MayFollow config [] chair act → IsLawfulAfter config (record { chair = chair; act = act } ∷ []) rest → units ≤ most_budget → AreAskedBy program function units (first_session (record { chair = chair; act = act } ∷ rest)) → AreInTime (first_session (record { chair = chair; act = act } ∷ rest))
first-safe program function cost depth outs config ranges units chair (Asked q r at) rest says same deep may lawful few asked = absurd (none-some (open_session []) (chair, may.0.0) refl may.0.1)
first-safe program function cost depth outs config ranges units chair (End outcome cursor at) rest says same deep may lawful few asked = absurd (none-some (open_session []) (chair, may.0.0) refl may.0.1)
first-safe program function cost depth outs config ranges units chair (Start of cursor at) rest says same deep may lawful few asked =
    let start : Entry = record { chair = chair; act = Start of cursor at } in
    let session : Session = record {
      config = config;
      ranges = ranges;
      chair = chair;
      start = start;
      world = first_session rest;
      lawful = session-of config chair of.rid (start ∷ []) rest refl lawful;
    } in
    let s : State = opening (pos 0) units (replies_of session.world) in
    let a : S.State = G.opening most_budget cost depth in
    let c : Completion ℤ = optional_body program (function_call program call_room) (slice_get program function) [] s in
    let stands : Stands session s a = record {
      past = [];
      left = session.world;
      whole = refl;
      asked = refl;
      replies = refl;
      in_time = tt;
      bounded = opening-bounded config ranges chair of cursor at cost depth may same deep;
      values = tt;
      cursor = within-exactly (pos 0);
      units = few;
      collected = tt;
    } in
    let all : (final c).asked ≡ requests_of session.world ++ asked.0 = sym (requests-of-meaning c) ∙ asked.1 in
    let agree : Agree (final c).asked session.world = subst (λ qs. Agree qs session.world) (sym all) (agree-self session.world asked.0) in
    let follows = follows_body {session = session} program (follows_function_call program call_room) (slice_get program function) [] [] tt in
    all-in-time session.world asked.0 (subst (λ qs. AreInTimeFor qs session.world) all (meets-safe outs says (follows.from s a stands agree)))

pub never-underflows : (program : ProgramTree) (function cost depth outs : ℕ) → slack_verdict program function cost depth ≡ Yes outs → NeverUnderflows program function cost depth
never-underflows program function cost depth outs says config [] units ok same deep lawful few asked = All-nil (λ (a : Answered). a.reply ≢ answer.Underflow)
never-underflows program function cost depth outs says config (entry ∷ rest) units ok same deep lawful few asked =
    first-safe program function cost depth outs config (ranges-of config ok) units entry.chair entry.act rest says same deep lawful.0 lawful.1 few asked
