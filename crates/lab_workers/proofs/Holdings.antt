-- What one holding of the scheduler comes to.
use Rattle.std.proofs.Common.{◌≡◌, ℕ, List, [], ◌∷◌, ◌++◌, sym, ap, subst, ◌∙◌, append-nil}
use mathlib.Core.List.{IsPrefix}
use Rattle.desk.specs.Seated.{Puts, holding, losing}
use Rattle.desk.proofs.Afterwards.{grew_held, puts_own}
use Rattle.desk_rule.specs.Histories.{Grew, acts_of, entries_by}
use Rattle.desk_rule.proofs.Prefixes.{acts_of-append, acts_of-own, prefix_trans}
use Rattle.exp_model.specs.declared.session.Session.{Session}
use Rattle.sched_state.specs.declared.entry.SchedAct.{SchedAct}
use Rattle.sched_state.specs.declared.entry.SchedEntry.{SchedEntry}
use Rattle.sched_state.specs.Lawful.{IsLawful}
use Rattle.sched_core.specs.Booked.{booked_acts}
use Rattle.sched_core.specs.Scheds.{IsSched, SchedValue}
use Rattle.desk_kernels.specs.Chairs.{IsSameChair, KnowsItsOwn}
use Rattle.lab_workers.specs.Turns.{Follows, HasPut, PutsNothing, adds, goes_on}
use Rattle.lab_workers.specs.Workers.{SchedChair, sched_entries}
use Rattle.lab_workers.proofs.Entries.{booked-on, sched-back}

-- what the chair adds to the value is its own
pub put-grew : (who : ℕ) (c d : SchedChair) (lost : List ℕ) (was value now : SchedValue) → who ≡ c.number
    → d ≡ holding (losing c lost) (booked_acts was.history) → value ≡ was
    → (acts : List SchedAct) × (now ≡ adds who acts value)
    → Grew d.number d.seen (booked_acts now.history)
put-grew who c d lost was value now own held same (acts, went) =
    grew_held c d lost (booked_acts was.history) (booked_acts now.history) held (
      acts,
      ap (λ (v : SchedValue). booked_acts v.history) went
          ∙ (booked-on value.history who acts
          ∙ (λ i. booked_acts ((same i).history) ++ entries_by (own i) acts)),
    )

module _ (c d e : SchedChair) (lost : List ℕ) (was value now : SchedValue) (who : ℕ) (acts : List SchedAct)
    (own : who ≡ c.number) (held : d ≡ holding (losing c lost) (booked_acts was.history)) (same : value ≡ was) (went : now ≡ adds who acts value)
    (puts : Puts d (booked_acts now.history) e) where
  put-so : Puts (holding (losing c lost) (booked_acts was.history)) (booked_acts now.history) e
  put-so = let P : SchedChair → Type 0 = λ x. Puts x (booked_acts now.history) e in subst P held puts

  history-is : now.history ≡ goes_on was.history c.number acts
  history-is = ap (λ (v : SchedValue). v.history) went ∙ (λ i. goes_on ((same i).history) (own i) acts)

  -- which chair it is then, what it has seen and what it has put
  pub put-same : IsSameChair c e
  put-same = (ap (λ (x : SchedChair). x.desk) put-so.2, ap (λ (x : SchedChair). x.number) put-so.2, ap (λ (x : SchedChair). x.holds) put-so.2)

  pub put-seen : e.seen ≡ booked_acts (goes_on was.history c.number acts)
  put-seen = ap (λ (x : SchedChair). x.seen) put-so.2 ∙ ap booked_acts history-is

  -- all that stands in the value's history
  pub put-sees : sched_entries e.seen ≡ now.history
  put-sees = ap (λ (x : SchedChair). sched_entries x.seen) put-so.2 ∙ sched-back now.history

  put-took : e.takings ≡ c.takings ++ booked_acts was.history ∷ []
  put-took = ap (λ (x : SchedChair). x.takings) put-so.2

  pub put-own : e.own ≡ c.own ++ acts
  put-own =
      puts_own (holding (losing c lost) (booked_acts was.history)) e (booked_acts now.history) acts put-so
      (ap booked_acts history-is ∙ booked-on was.history c.number acts)

  pub follows-put : IsPrefix c.seen (booked_acts was.history) → Follows c e
  follows-put begins = record {
    same = put-same;
    seen =
        prefix_trans c.seen (booked_acts was.history) e.seen begins
        (entries_by c.number acts, sym (put-seen ∙ booked-on was.history c.number acts));
    own = (acts, sym put-own);
    takings = (booked_acts was.history ∷ [], sym put-took);
  }

  pub has-put : (session : Session) → was.session ≡ session → IsSched was → IsPrefix c.seen (booked_acts was.history)
      → acts_of c.number (booked_acts was.history) ≡ c.own → HasPut session was.history acts c e
  has-put session is known begins knows = record {
    lawful = let L : Session → Type 0 = λ s. IsLawful s was.history in subst L is known.lawful;
    later = begins;
    known = knows;
    same = put-same;
    took = put-took;
    seen = put-seen;
    own = put-own;
  }

-- the chair knows its own acts then
pub knows-put : (session : Session) (found : List SchedEntry) (acts : List SchedAct) (c e : SchedChair) → HasPut session found acts c e → KnowsItsOwn e
knows-put session found acts c e put =
    (λ i. acts_of (put.same.1 i) (put.seen i))
    ∙ (ap (acts_of c.number) (booked-on found c.number acts)
    ∙ (acts_of-append c.number (booked_acts found) (entries_by c.number acts)
    ∙ ((λ i. put.known i ++ acts_of-own c.number acts i) ∙ sym put.own)))

-- what it has seen, in the scheduler's words
pub sees-put : (session : Session) (found : List SchedEntry) (acts : List SchedAct) (c e : SchedChair) → HasPut session found acts c e
    → sched_entries e.seen ≡ goes_on found c.number acts
sees-put session found acts c e put = ap sched_entries put.seen ∙ sched-back (goes_on found c.number acts)

pub follows-has : (session : Session) (found : List SchedEntry) (acts : List SchedAct) (c e : SchedChair) → HasPut session found acts c e → Follows c e
follows-has session found acts c e put = record {
  same = put.same;
  seen =
      prefix_trans c.seen (booked_acts found) e.seen put.later
      (entries_by c.number acts, sym (put.seen ∙ booked-on found c.number acts));
  own = (acts, sym put.own);
  takings = (booked_acts found ∷ [], sym put.took);
}

-- nothing was put
pub puts-nothing : (session : Session) (found : List SchedEntry) (c e : SchedChair) → HasPut session found [] c e → PutsNothing c e
puts-nothing session found c e put = record {
  follows = follows-has session found [] c e put;
  own = put.own ∙ append-nil c.own;
  knows = λ known. knows-put session found [] c e put;
}
