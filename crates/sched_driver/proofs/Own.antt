-- Chair 0 took each job, so it may report each.
use Rattle.std.proofs.Common.{◌≡◌, ℕ, List, [], ◌∷◌, ◌++◌, refl, sym, subst}
use Rattle.std.specs.Prelude.{Result, Ok, Err, IfOk, OnErr}
use Rattle.std.specs.List.{All}
use Rattle.std.proofs.lemmas.List.Elements.{All-append, All-cons, All-head, All-nil, All-push, All-tail}
use Rattle.sched_state.specs.declared.entry.JobName.{JobName}
use Rattle.sched_state.specs.declared.entry.SchedAct.{SchedAct}
use Rattle.sched_state.specs.declared.entry.SchedAct.TheVariants as act
use Rattle.sched_state.specs.declared.entry.SchedEntry.{SchedEntry}
use Rattle.sched_laws.specs.Ladder.{takes}
use Rattle.sched_laws.proofs.Holding.{fly-until-reported}
use Rattle.sched_core.specs.declared.answer.Next.{Next}
use Rattle.sched_core.specs.declared.answer.Next.TheVariants as next
use Rattle.sched_core.specs.Calls.{AnswersNext, TookIt, entry_of, jumped, jumps, name_of, with_entry}
use Rattle.sched_core.specs.Scheds.{IsSched, SchedValue, sched_state}
use Rattle.sched_driver.specs.declared.token.Token.{Token}
use Rattle.sched_driver.specs.Drivers.{IsOwn, IsTakenBy0}
use Rattle.sched_driver.specs.Tokens.{TokenCall, TokenText, token_source}

middle : {X : Type 0} (P : X → Type 0) (early late : List X) (x : X) → All P (early ++ x ∷ late) → P x
middle P [] late x all = All-head P x late all
middle P (y ∷ early) late x all = middle P early late x (All-tail P y (early ++ x ∷ late) all)

-- who has the job in flight took it
pub took-own : (sched : SchedValue) (job : JobName) → IsSched sched → All IsOwn sched.history → TookIt (sched_state sched) 0 job
took-own sched job is own = λ chair flies.
    let has = (fly-until-reported sched.session sched.history chair job is.session is.lawful).1 flies in
    let A : List SchedEntry → Type 0 = λ h. All IsOwn h in
    middle IsOwn has.0 has.1 (takes chair job) (subst A has.2 own)

pub pushed-own : (sched : SchedValue) (chair : ℕ) (what : SchedAct) → IsTakenBy0 chair what → All IsOwn sched.history
    → All IsOwn (with_entry chair what sched).history
pushed-own sched chair what fits own = All-push IsOwn sched.history (entry_of chair what) own fits

jumped-own : (sched : SchedValue) (chair : ℕ) (clocks : List ℕ) → All IsOwn sched.history → All IsOwn (jumped chair clocks sched).history
jumped-own sched chair clocks own = All-append IsOwn sched.history (jumps chair clocks) own (each clocks)
  where
    each : (clocks : List ℕ) → All IsOwn (jumps chair clocks)
    each [] = All-nil IsOwn
    each (clock ∷ clocks) = All-cons IsOwn (entry_of chair (act.Jumped clock)) (jumps chair clocks) tt (each clocks)

-- `next` keeps the session, and what it takes is taken by chair 0
pub record IsKept (old new : SchedValue) : Type 0 where
  pub session : new.session ≡ old.session
  pub own : All IsOwn new.history

same-kept : (old new : SchedValue) → new ≡ old → All IsOwn old.history → IsKept old new
same-kept old new same own =
    let K : SchedValue → Type 0 = λ v. IsKept old v in
    subst K (sym same) (record { session = refl; own = own })

pub next-kept : (old new : SchedValue) (answer : Next Token) → AnswersNext token_source TokenText TokenCall 0 old answer new → All IsOwn old.history
    → IsKept old new
next-kept old new (next.Job job) answers own =
    let K : SchedValue → Type 0 = λ v. IsKept old v in
    subst K (sym answers.2) (record {
      session = refl;
      own = pushed-own (jumped 0 answers.1 old) 0 (act.Took (name_of job)) refl (jumped-own old 0 answers.1 own);
    })
next-kept old new next.Idle answers own = same-kept old new answers.4 own
next-kept old new next.Finished answers own =
    let K : SchedValue → Type 0 = λ v. IsKept old v in
    subst K (sym answers.2) (record { session = refl; own = jumped-own old 0 answers.1 own })
next-kept old new (next.Stopped by) answers own = same-kept old new answers.1 own

-- and want of memory leaves it as it was
pub kept : {E : Type 0} (old new : SchedValue) (result : Result (Next Token) E)
    → IfOk result (λ answer. AnswersNext token_source TokenText TokenCall 0 old answer new) → OnErr result (new ≡ old) → All IsOwn old.history → IsKept old new
kept old new (Ok answer) answers same own = next-kept old new answer answers own
kept old new (Err error) answers same own = same-kept old new same own
