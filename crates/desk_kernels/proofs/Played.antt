-- A session that was run at a desk.
use Rattle.std.proofs.Common.{◌≡◌, ℕ, List, [], ◌∷◌, ◌++◌, inl, inr, refl, sym, ap, subst, ◌∙◌, append_assoc}
use Rattle.std.specs.Prelude.{◌⊎◌, ℤ, None, Result, Ok, Err, IfOk}
use mathlib.Core.List.{IsPrefix}
use Rattle.rtio_types.specs.declared.outcome.Outcome.{Outcome}
use Rattle.rtio_types.specs.declared.outcome.Outcome.TheVariants as outcome
use Rattle.rtio_types.specs.declared.request.Request.{Request}
use Rattle.rtio_core.specs.declared.data.Act.{Act}
use Rattle.rtio_core.specs.declared.data.Act.TheVariants.{End}
use Rattle.rtio_core.specs.declared.data.Config.{Config}
use Rattle.rtio_core.specs.declared.data.Entry.{Entry}
use Rattle.rtio_core.specs.declared.data.StartOf.{StartOf}
use Rattle.rtio_core.specs.Booked.{booked_acts}
use Rattle.rtio_core.specs.Core.{CoreState}
use Rattle.rtio_core.specs.Entries.{last_cursor}
use Rattle.sched_state.specs.declared.entry.DataSet.{DataSet}
use Rattle.sched_state.specs.declared.entry.KernelResult.{KernelResult}
use Rattle.desk.specs.Seated.{Opened}
use Rattle.desk_rule.specs.Histories.{acts_of}
use Rattle.desk_rule.proofs.Prefixes.{acts_of-append, prefix_same}
use Rattle.core_isa.specs.declared.code.Code.{Code}
use Rattle.core_session.specs.Asking.{CodeAsks}
use Rattle.core_session.specs.Lending.{EndsBy, HasRun, IsLeft, LeavesSession, Opening, began, start_of}
use Rattle.core_session.specs.Sessions.{Account, Answered, account_of, entry_of, requests_of}
use Rattle.kern_syntax.specs.Tree.{ProgramTree}
use Rattle.lab_kernels.specs.CutShort.{CutsCode}
use Rattle.lab_kernels.specs.DoesAs.{DoesAs}
use Rattle.lab_kernels.specs.Kernels.{AreAskedAtTop, KernelRun, session_entries, sets_of}
use Rattle.lab_kernels.specs.Meanings.{LeavesKernel}
use Rattle.lab_kernels.specs.Meant.{TakesArguments}
use Rattle.lab_kernels.specs.Runs.{RunsCode}
use Rattle.lab_kernels.specs.Standing.{entries_so_far}
use Rattle.lab_kernels.proofs.Meanings.{RunsAreMeant, kernel_left, means_program}
use Rattle.lab_kernels.proofs.Whole.{IsClosedOn, closed-history, closed-on, cut-open, cuts-code, given-up-closed, run_of, runs-code}
use Rattle.desk_kernels.specs.Chairs.{CoreChair, IsAt, IsSameChair, KnowsItsOwn, core_entries}
use Rattle.desk_kernels.specs.Holdings.{GoesOn, core_as_seen}
use Rattle.desk_kernels.specs.Kernels.{LeavesKernelAt, RunsKernelAt}
use Rattle.desk_kernels.specs.Sessions.{HasEndedAt, HasFound, HasGivenUpAt, IsOpenAt, IsSeenOpen, IsUnstarted, LeavesCodeAt, RunsCodeAt, Seat}
use Rattle.desk_kernels.proofs.Seen.{booked-append, booked-entries}

-- ---- the session's end

record IsClosedAt (desk : Opened Config) (o : Opening Seat) (asked : List Answered) (a : Account) (how : Outcome) (end : ℤ) (now : Seat) : Type 0 where
  pub was : CoreState
  pub found : HasFound desk o.first.0 was now.0
  pub at : ℕ
  pub on : IsClosedOn o.first.0.number was o.of o.cursor asked a how end (core_entries now.0.seen) at
  pub sets : now.1.items ≡ sets_of (requests_of asked)

closed-at : (desk : Opened Config) (o : Opening Seat) (asked : List Answered) (a : Account) (how : Outcome) (end : ℤ) (now : Seat) → EndsBy (HasEndedAt desk) (HasGivenUpAt desk) o asked a how end now → IsClosedAt desk o asked a how end now
closed-at desk o asked a outcome.Horizon end now (none, same, (last, requests, up)) = record {
  was = up.was;
  found = up.found;
  at = up.at;
  on = given-up-closed o.first.0.number up.was o.of o.cursor asked a end (core_entries now.0.seen) up.at last up.ended none same requests;
  sets = up.sets;
}
closed-at desk o asked a outcome.Returned end now (is, same, requests, over) = record {
  was = over.was;
  found = over.found;
  at = over.at;
  on = closed-on o.first.0.number over.was o.of o.cursor asked a end (core_entries now.0.seen) over.at outcome.Returned over.ended tt (is, same, requests);
  sets = over.sets;
}
closed-at desk o asked a (outcome.Raised x) end now (is, same, requests, over) = record {
  was = over.was;
  found = over.found;
  at = over.at;
  on = closed-on o.first.0.number over.was o.of o.cursor asked a end (core_entries now.0.seen) over.at (outcome.Raised x) over.ended tt (is, same, requests);
  sets = over.sets;
}
closed-at desk o asked a outcome.Budget end now (is, same, requests, over) = record {
  was = over.was;
  found = over.found;
  at = over.at;
  on = closed-on o.first.0.number over.was o.of o.cursor asked a end (core_entries now.0.seen) over.at outcome.Budget over.ended tt (is, same, requests);
  sets = over.sets;
}

module _ (desk : Opened Config) (code : Code) (of : StartOf) (units : ℕ) (old new : Seat) where
  module _ (how : Outcome) (steps : ℕ) (ran : HasRun (HasEndedAt desk) (HasGivenUpAt desk) code units of old new how steps) where
    abbrev o : Opening Seat
    o = began old of ran.cursor

    abbrev a : Account
    a = account_of ran.closed.ran

    closed : IsClosedAt desk o ran.asked a how ran.closed.cursor new
    closed = closed-at desk o ran.asked a how ran.closed.cursor new ran.closed.ends

    pub goes-ran : GoesOn desk old.0 new.0
    goes-ran = closed.found.goes

    on : IsClosedOn old.0.number closed.was of (last_cursor closed.was.history) ran.asked a how ran.closed.cursor (core_entries new.0.seen) closed.at
    on = closed-history old.0.number closed.was of ran.cursor ran.asked a how ran.closed.cursor (core_entries new.0.seen) closed.at closed.on

    abbrev k : KernelRun
    k = run_of of closed.was ran.asked how ran.closed.cursor closed.at steps

    seen : new.0.seen ≡ booked_acts (closed.was.history ++ session_entries old.0.number closed.was.history k)
    seen =
        let last : Entry = entry_of old.0.number (End how ran.closed.cursor closed.at) in
        sym (booked-entries new.0.seen)
        ∙ ap booked_acts (on.history ∙ append_assoc closed.was.history (entries_so_far old.0.number closed.was of (last_cursor closed.was.history) ran.asked) (last ∷ []))

    own : new.0.own ≡ old.0.own ++ acts_of old.0.number (booked_acts (session_entries old.0.number closed.was.history k))
    own =
        sym goes-ran.ready.knows
        ∙ (λ i. acts_of (goes-ran.number i) (seen i))
        ∙ ap (acts_of old.0.number) (booked-append closed.was.history (session_entries old.0.number closed.was.history k))
        ∙ acts_of-append old.0.number (booked_acts closed.was.history) (booked_acts (session_entries old.0.number closed.was.history k))
        ∙ ap (λ (l : List Act). l ++ acts_of old.0.number (booked_acts (session_entries old.0.number closed.was.history k))) closed.found.own

    pub ran-at : RunsCodeAt code units of desk.fixed old.0 new.0 (record { outcome = how; sets = new.1.items; steps = steps })
    ran-at = record {
      before = closed.was.history;
      k = k;
      found = closed.found.found;
      known = closed.found.own;
      seen = seen;
      own = own;
      of_is = refl;
      at_top = subst (λ (c : Config). AreAskedAtTop c closed.was.history (session_entries old.0.number closed.was.history k)) closed.found.config on.at_top;
      runs = subst (λ (c : Config). RunsCode code units old.0.number c closed.was.history k) closed.found.config
          (runs-code (HasEndedAt desk) (HasGivenUpAt desk) old.0.number closed.was code units o ran.asked new how steps (core_entries new.0.seen) closed.at ran.closed closed.on);
      told = ap (λ (l : List DataSet). record { outcome = how; sets = l; steps = steps }) closed.sets;
    }

  -- ---- without memory

  -- how the loop leaves it
  abbrev pub IsLeftSo : Type 0
  IsLeftSo = LeavesSession (IsOpenAt desk) (IsOpenAt desk) (λ o asked request now. IsSeenOpen desk o asked now.0) (IsUnstarted desk) code units of old new

  -- the session that the chair has seen stays open
  stays-open : (cursor : ℤ) (asked : List Answered) → IsLeft (IsOpenAt desk) (IsOpenAt desk) (λ o asked request now. IsSeenOpen desk o asked now.0) (record { code = code; units = units; opening = began old of cursor }) asked new
      → IsSeenOpen desk (began old of cursor) asked new.0
  stays-open cursor asked left = by-kind left.stands
    where
      by-kind : IsOpenAt desk (began old of cursor) asked new ⊎ (IsOpenAt desk (began old of cursor) asked new ⊎ ((request : Request) × CodeAsks code (start_of units (began old of cursor)) asked request × IsSeenOpen desk (began old of cursor) asked new.0))
          → IsSeenOpen desk (began old of cursor) asked new.0
      by-kind (inl is) = is.0
      by-kind (inr (inl is)) = is.0
      by-kind (inr (inr (request, asks, is))) = is

  pub left-at : IsLeftSo → LeavesCodeAt code units of desk.fixed old.0 new.0
  left-at (inl same) = inl (ap (λ (m : Seat). m.0.own) same)
  left-at (inr (inl unstarted)) = inl unstarted.0
  left-at (inr (inr (cursor, asked, left))) =
      let is : IsSeenOpen desk (began old of cursor) asked new.0 = stays-open cursor asked left in
      inr (record {
        was = is.was;
        found = is.found.found;
        known = is.found.own;
        changes =
            cuts-code code units old.0.number of is.was cursor asked (core_as_seen desk.fixed new.0) is.on.from
            (cut-open code units old.0.number of is.was cursor asked (core_as_seen desk.fixed new.0) left.run is.on);
        knows = is.found.goes.ready.knows;
      })

  pub goes-left : IsLeftSo → (new.0 ≡ old.0) ⊎ GoesOn desk old.0 new.0
  goes-left (inl same) = inl (ap (λ (m : Seat). m.0) same)
  goes-left (inr (inl unstarted)) = inr unstarted.1
  goes-left (inr (inr (cursor, asked, left))) = inr (stays-open cursor asked left).found.goes

-- ---- the chair

module _ (desk : Opened Config) (old new : CoreChair) (at : IsAt desk old) where
  pub same-goes : (new ≡ old) ⊎ GoesOn desk old new → IsSameChair old new
  same-goes (inl same) = (ap (λ (c : CoreChair). c.desk) same, ap (λ (c : CoreChair). c.number) same, ap (λ (c : CoreChair). c.holds) same ∙ at.1)
  same-goes (inr goes) = (goes.ready.at.0 ∙ sym at.0, goes.number, goes.ready.at.1)

  pub later-goes : (new ≡ old) ⊎ GoesOn desk old new → IsPrefix old.seen new.seen
  later-goes (inl same) = subst (λ (c : CoreChair). IsPrefix old.seen c.seen) (sym same) (prefix_same old.seen)
  later-goes (inr goes) = goes.later

  pub knows-goes : (new ≡ old) ⊎ GoesOn desk old new → KnowsItsOwn old → KnowsItsOwn new
  knows-goes (inl same) knows = subst KnowsItsOwn (sym same) knows
  knows-goes (inr goes) knows = goes.ready.knows

-- a session of code that does what a program does is one of the program's meaning
pub kernel-at : {E : Type 0} (program : ProgramTree) (code : Code) → DoesAs program code → RunsAreMeant program code → (units : ℕ) (of : StartOf) (config : Config) (old new : CoreChair) (result : Result KernelResult E)
    → TakesArguments program of.function of.args → IfOk result (λ r. RunsCodeAt code units of config old new r) → IfOk result (λ r. RunsKernelAt program code units of config old new r)
kernel-at program code does agrees units of config old new (Ok r) takes ran = record {
  before = ran.before;
  k = ran.k;
  found = ran.found;
  known = ran.known;
  seen = ran.seen;
  own = ran.own;
  is_session = record {
    of_is = ran.of_is;
    stands = refl;
    at_top = ran.at_top;
    runs = ran.runs;
    means =
        means_program program code does agrees units old.number config ran.before ran.k
        (subst (λ (o : StartOf). TakesArguments program o.function o.args) (sym ran.of_is) takes)
        ran.runs;
  };
  told = ran.told;
}
kernel-at program code does agrees units of config old new (Err e) takes ran = tt

-- what was cut short of such code is what the program's meaning asks first
module _ (program : ProgramTree) (units : ℕ) (of : StartOf) (config : Config) (old new : CoreChair) (number : new.number ≡ old.number) where
  as-meant : (was : CoreState) → IsPrefix old.seen (booked_acts was.history) → acts_of old.number (booked_acts was.history) ≡ old.own → KnowsItsOwn new
      → LeavesKernel program units old.number of was (core_as_seen config new) → LeavesKernelAt program units of config old new
  as-meant was found known knows (inl same) =
      let seen : new.seen ≡ booked_acts was.history = sym (booked-entries new.seen) ∙ ap (λ (c : CoreState). booked_acts c.history) same in
      inl (sym knows ∙ (λ i. acts_of (number i) (seen i)) ∙ known)
  as-meant was found known knows (inr cut) = inr (record { was = was; found = found; known = known; changes = cut; knows = knows })

  pub kernel-left-at : (code : Code) → RunsAreMeant program code → TakesArguments program of.function of.args → LeavesCodeAt code units of config old new → LeavesKernelAt program units of config old new
  kernel-left-at code agrees takes (inl nothing) = inl nothing
  kernel-left-at code agrees takes (inr left) =
      as-meant left.was left.found left.known left.knows
      (kernel_left program code agrees units old.number of left.was (core_as_seen config new) takes (inr left.changes))
