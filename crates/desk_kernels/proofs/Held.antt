-- What a holding leaves of a chair.
use Rattle.std.proofs.Common.{◌≡◌, ℕ, List, [], ◌∷◌, ◌++◌, Bool, true, false, refl, sym, ap, subst, ◌∙◌}
use Rattle.std.specs.Prelude.{ℤ, Result, Ok, Err, IfOk, OnErr}
use mathlib.Core.List.{IsPrefix}
use Rattle.rtio_types.specs.declared.outcome.Outcome.{Outcome}
use Rattle.rtio_types.specs.declared.outcome.Outcome.TheVariants as outcome
use Rattle.rtio_types.specs.declared.request.Request.{Request}
use Rattle.rtio_core.specs.declared.data.Act.{Act}
use Rattle.rtio_core.specs.declared.data.Act.TheVariants.{Asked, End, Start}
use Rattle.rtio_core.specs.declared.data.Config.{Config}
use Rattle.rtio_core.specs.declared.data.Entry.{Entry}
use Rattle.rtio_core.specs.declared.data.StartOf.{StartOf}
use Rattle.rtio_core.specs.Booked.{booked_acts}
use Rattle.rtio_core.specs.Calls.{started}
use Rattle.rtio_core.specs.Core.{CoreState, IsCore}
use Rattle.rtio_core.specs.Lawful.{AreFitting}
use Rattle.desk.specs.Seated.{Opened, Puts, holding, losing}
use Rattle.desk.proofs.Afterwards.{grew_held}
use Rattle.desk_rule.specs.Histories.{acts_of, entries_by, Grew}
use Rattle.desk_rule.proofs.Prefixes.{acts_of-append, acts_of-own, prefix_same, prefix_trans}
use Rattle.core_session.specs.declared.turn.Turn.{Turn}
use Rattle.core_session.specs.declared.turn.Turn.TheVariants.{Replied, Again, Over}
use Rattle.desk_kernels.specs.declared.starting.Opening.{Opening}
use Rattle.desk_kernels.specs.declared.starting.Opening.TheVariants.{Begun, Busy}
use Rattle.desk_kernels.specs.Chairs.{CoreChair, IsAt, core_entries}
use Rattle.desk_kernels.specs.Holdings.{EndsOrWaits, GoesOn, Holds, IsReady, IsTurnOrEnd, Opens, OpensCore}
use Rattle.desk_kernels.proofs.Seen.{entries-booked, grew-none, grew-one}

pub on-err : {X E : Type 0} (r : Result X E) (P : Type 0) → P → OnErr r P
on-err (Ok x) P p = tt
on-err (Err e) P p = p

-- ---- what was added to the core that is held

pub opens-grew : {E : Type 0} (chair : ℕ) (of : StartOf) (old new : CoreState) (r : Result Opening E) → IfOk r (λ o. OpensCore old chair of o new) → OnErr r (new ≡ old) → Grew chair (booked_acts old.history) (booked_acts new.history)
opens-grew chair of old new (Ok (Begun cursor)) is err = grew-one chair old.history new.history (Start of cursor old.counter) (ap (λ (c : CoreState). c.history) is.1)
opens-grew chair of old new (Ok (Busy back)) is err = grew-none chair old.history new.history (ap (λ (c : CoreState). c.history) is.1)
opens-grew chair of old new (Err e) is err = grew-none chair old.history new.history (ap (λ (c : CoreState). c.history) err)

pub turn-grew : {E : Type 0} (chair : ℕ) (request : Request) (cursor : ℤ) (old new : CoreState) (r : Result Turn E) → IfOk r (λ turn. IsTurnOrEnd old chair request cursor turn new) → OnErr r (new.history ≡ old.history) → Grew chair (booked_acts old.history) (booked_acts new.history)
turn-grew chair request cursor old new (Ok (Replied reply)) is err = grew-one chair old.history new.history (Asked request reply _) (ap (λ (c : CoreState). c.history) is.leaves)
turn-grew chair request cursor old new (Ok (Again back)) is err = grew-none chair old.history new.history is.1
turn-grew chair request cursor old new (Ok Over) (mid, never, leaves) err =
    grew-one chair old.history new.history (End outcome.Horizon cursor mid.counter)
    (ap (λ (c : CoreState). c.history) leaves ∙ ap (λ (h : List Entry). h ++ record { chair = chair; act = End outcome.Horizon cursor mid.counter } ∷ []) (ap (λ (c : CoreState). c.history) never.later.is))
turn-grew chair request cursor old new (Err e) is err = grew-none chair old.history new.history err

pub ends-grew : {E : Type 0} (chair : ℕ) (how : Outcome) (cursor : ℤ) (old new : CoreState) (r : Result Bool E) → IfOk r (λ done. EndsOrWaits old chair how cursor done new) → OnErr r (new ≡ old) → Grew chair (booked_acts old.history) (booked_acts new.history)
ends-grew chair how cursor old new (Ok true) is err = grew-one chair old.history new.history (End how cursor old.counter) (ap (λ (c : CoreState). c.history) is)
ends-grew chair how cursor old new (Ok false) is err = grew-none chair old.history new.history (ap (λ (c : CoreState). c.history) is)
ends-grew chair how cursor old new (Err e) is err = grew-none chair old.history new.history (ap (λ (c : CoreState). c.history) err)

-- ---- a holding

-- what `put` asks: since the chair took the core, acts of this chair alone were added
pub put-grew : (old mid : CoreChair) (lost : List ℕ) (value was now : CoreState) (who : ℕ) → was ≡ value → who ≡ old.number → mid ≡ holding (losing old lost) (booked_acts value.history)
    → Grew who (booked_acts was.history) (booked_acts now.history) → Grew mid.number mid.seen (booked_acts now.history)
put-grew old mid lost value was now who got is took grew =
    grew_held old mid lost (booked_acts value.history) (booked_acts now.history) took
    (subst (λ (n : ℕ). Grew n (booked_acts value.history) (booked_acts now.history)) is
    (subst (λ (c : CoreState). Grew who (booked_acts c.history) (booked_acts now.history)) got grew))

module _ (desk : Opened Config) (old mid new : CoreChair) (lost : List ℕ) (value was now : CoreState) where
  -- the whole of it
  pub held : was ≡ value → old.desk ≡ desk.id → mid ≡ holding (losing old lost) (booked_acts value.history)
      → IsPrefix old.seen (booked_acts value.history) × (acts_of old.number (booked_acts value.history) ≡ old.own) × (value.config ≡ desk.fixed)
      → Puts mid (booked_acts now.history) new → IsCore was → IsCore now → Holds desk old was now new
  held got at took all puts known after =
      let put : Puts (holding (losing old lost) (booked_acts value.history)) (booked_acts now.history) new = subst (λ (c : CoreChair). Puts c (booked_acts now.history) new) took puts in
      let acts : List Act = put.0 in
      let n : ℕ = old.number in
      let log : List (ℕ × Act) = booked_acts was.history in
      let found : IsPrefix old.seen log = subst (λ (c : CoreState). IsPrefix old.seen (booked_acts c.history)) (sym got) all.0 in
      let mine : acts_of n log ≡ old.own = ap (λ (c : CoreState). acts_of n (booked_acts c.history)) got ∙ all.1 in
      let grown : booked_acts now.history ≡ log ++ entries_by n acts = put.1 ∙ ap (λ (c : CoreState). booked_acts c.history ++ entries_by n acts) (sym got) in
      let number : new.number ≡ n = ap (λ (c : CoreChair). c.number) put.2 in
      let seen : new.seen ≡ booked_acts now.history = ap (λ (c : CoreChair). c.seen) put.2 in
      let own : acts_of n (booked_acts now.history) ≡ new.own =
      ap (acts_of n) grown
      ∙ acts_of-append n log (entries_by n acts)
      ∙ ap (λ (l : List Act). l ++ acts_of n (entries_by n acts)) mine
      ∙ ap (λ (l : List Act). old.own ++ l) (acts_of-own n acts)
      ∙ sym (ap (λ (c : CoreChair). c.own) put.2) in
      record {
        known = known;
        config = ap (λ (c : CoreState). c.config) got ∙ all.2;
        found = found;
        own = mine;
        seen = seen;
        goes = record {
          number = number;
          later = subst (λ (l : List (ℕ × Act)). IsPrefix old.seen l) (sym (seen ∙ grown)) (prefix_trans old.seen log (log ++ entries_by n acts) found (entries_by n acts, refl));
          ready = record {
            at = (ap (λ (c : CoreChair). c.desk) put.2 ∙ at, ap (λ (c : CoreChair). c.holds) put.2);
            knows = (λ i. acts_of (number i) (seen i)) ∙ own;
            fitting = subst AreFitting (sym (ap core_entries seen ∙ entries-booked now.history)) after.fitting;
          };
        };
      }

module _ (desk : Opened Config) (old new : CoreChair) (was now : CoreState) (holds : Holds desk old was now new) where
  -- where nothing was added the chair put nothing
  pub own-none : now.history ≡ was.history → new.own ≡ old.own
  own-none same =
      sym holds.goes.ready.knows
      ∙ (λ i. acts_of (holds.goes.number i) (holds.seen i))
      ∙ ap (λ (h : List Entry). acts_of old.number (booked_acts h)) same
      ∙ holds.own

  -- a try to start
  pub opens-at : {E : Type 0} (who : ℕ) (of : StartOf) (r : Result Opening E) → who ≡ old.number → IfOk r (λ o. OpensCore was who of o now) → IfOk r (λ o. Opens desk old of o new)
  opens-at who of (Ok (Begun cursor)) is opens =
      record { was = was; now = now; holds = holds; from = opens.0; leaves = subst (λ (n : ℕ). now ≡ started was n of cursor) is opens.1 }
  opens-at who of (Ok (Busy back)) is opens = (opens.0, own-none (ap (λ (c : CoreState). c.history) opens.1))
  opens-at who of (Err e) is opens = tt

-- ---- one after the other

pub goes-none : (desk : Opened Config) (c : CoreChair) → IsReady desk c → GoesOn desk c c
goes-none desk c ready = record { number = refl; later = prefix_same c.seen; ready = ready }

pub goes-more : (desk : Opened Config) (old mid new : CoreChair) → mid.number ≡ old.number → IsPrefix old.seen mid.seen → GoesOn desk mid new → GoesOn desk old new
goes-more desk old mid new number later goes = record {
  number = goes.number ∙ number;
  later = prefix_trans old.seen mid.seen new.seen later goes.later;
  ready = goes.ready;
}

pub goes-on : (desk : Opened Config) (old mid new : CoreChair) → GoesOn desk old mid → GoesOn desk mid new → GoesOn desk old new
goes-on desk old mid new first then' = goes-more desk old mid new first.number first.later then'

-- tries that added nothing, of the same chair, which has seen more
pub record Tried (desk : Opened Config) (old c : CoreChair) : Type 0 where
  pub at : IsAt desk c
  pub number : c.number ≡ old.number
  pub later : IsPrefix old.seen c.seen
  pub own : c.own ≡ old.own
