-- While a session is open its chair alone adds entries.
use Rattle.std.proofs.Common.{◌≡◌, ℕ, List, [], ◌∷◌, ◌++◌, Bool, true, false, refl, sym, ap, subst, ◌∙◌, append_assoc, append-nil, eq-eqb}
use Rattle.std.proofs.lemmas.List.Sums.{fold-append}
use Rattle.std.specs.Prelude.{◌==◌, Option, Some, None}
use Rattle.rtio_core.specs.declared.data.Act.{Act}
use Rattle.rtio_core.specs.declared.data.Act.TheVariants.{Asked, End, Start}
use Rattle.rtio_core.specs.declared.data.Config.{Config}
use Rattle.rtio_core.specs.declared.data.Entry.{Entry}
use Rattle.rtio_core.specs.Booked.{booked_acts}
use Rattle.rtio_core.specs.Entries.{open_session}
use Rattle.rtio_core.specs.Lawful.{IsLawfulAfter, IsOpenFor, MayFollow}
use Rattle.desk_rule.specs.Histories.{act_if, acts_of}
use Rattle.core_session.specs.Sessions.{entry_of}
use Rattle.desk_kernels.specs.Alone.{OpenSessionsAreAlone, OpenSessionsWereOpenBefore}

-- the later part of a lawful history may follow the earlier
lawful-back : (config : Config) (before front back : List Entry) → IsLawfulAfter config before (front ++ back) → IsLawfulAfter config (before ++ front) back
lawful-back config before [] back lawful =
    let L : List Entry → Type 0 = λ h. IsLawfulAfter config h back in subst L (sym (append-nil before)) lawful
lawful-back config before (e ∷ es) back lawful =
    let L : List Entry → Type 0 = λ h. IsLawfulAfter config h back in
    subst L (append_assoc before (e ∷ []) es) (lawful-back config (before ++ e ∷ []) es back lawful.1)

abbrev chair-in : ℕ → Option (ℕ × ℕ) → ℕ
chair-in other None = other
chair-in other (Some running) = running.0

same-chair : (before : List Entry) (chair other rid : ℕ) → open_session before ≡ Some (chair, rid) → IsOpenFor other before → other ≡ chair
same-chair before chair other rid is opened = ap (chair-in other) (sym opened.1 ∙ is)

its-chair : (config : Config) (before : List Entry) (chair other rid : ℕ) (act : Act) → open_session before ≡ Some (chair, rid)
    → MayFollow config before other act → other ≡ chair
its-chair config before chair other rid (Start of cursor at) is may = let clash = sym may.0 ∙ is in absurd (cc)
its-chair config before chair other rid (Asked request reply at) is may = same-chair before chair other rid is may.0
its-chair config before chair other rid (End how cursor at) is may = same-chair before chair other rid is may.0

-- a list of a chair's acts is empty where its first entry is another's and the rest has none
none-of : (b : Bool) (a : Act) (acts : List Act) → act_if b a acts ≡ [] → (b ≡ false) × (acts ≡ [])
none-of true a acts none = absurd (cc)
none-of false a acts none = (refl, none)

pub alone : OpenSessionsAreAlone
alone config before [] chair rid lawful is none = refl
alone config before (e ∷ rest) chair rid lawful is none =
    let after = lawful-back config [] before (e ∷ rest) lawful in
    let mine : (e.chair == chair) ≡ true = eq-eqb e.chair chair (its-chair config before chair e.chair rid e.act is after.0) in
    let other = (none-of (e.chair == chair) e.act (acts_of chair (booked_acts rest)) none).0 in
    absurd (cc)

-- an entry of another chair doesn't open a session of this one
open-before : (before : List Entry) (chair other rid : ℕ) (act : Act) → (other == chair) ≡ false → open_session (before ++ entry_of other act ∷ []) ≡ Some (chair, rid) → open_session before ≡ Some (chair, rid)
open-before before chair other rid (Start of cursor at) apart is =
    let begun : Option (ℕ × ℕ) = Some (other, of.rid) in
    let now : begun ≡ Some (chair, rid) = sym (fold-append _ _ before (entry_of other (Start of cursor at) ∷ [])) ∙ is in
    let same : (other == chair) ≡ true = eq-eqb other chair (ap (chair-in other) now) in
    absurd (cc)
open-before before chair other rid (Asked request reply at) apart is = sym (fold-append _ _ before (entry_of other (Asked request reply at) ∷ [])) ∙ is
open-before before chair other rid (End how cursor at) apart is =
    let over : Option (ℕ × ℕ) = None in
    let now : over ≡ Some (chair, rid) = sym (fold-append _ _ before (entry_of other (End how cursor at) ∷ [])) ∙ is in
    absurd (cc)

pub stays-open : OpenSessionsWereOpenBefore
stays-open config before [] chair rid lawful is none = sym (ap open_session (append-nil before)) ∙ is
stays-open config before (e ∷ rest) chair rid lawful is none =
    let L : List Entry → Type 0 = λ h. IsLawfulAfter config [] h in
    let regroup = append_assoc before (e ∷ []) rest in
    let split = none-of (e.chair == chair) e.act (acts_of chair (booked_acts rest)) none in
    open-before before chair e.chair rid e.act split.0
    (stays-open config (before ++ e ∷ []) rest chair rid (subst L (sym regroup) lawful) (ap open_session regroup ∙ is) split.1)
