-- A desk's history of a core, in the core's own words.
use Rattle.std.proofs.Common.{◌≡◌, ℕ, List, [], ◌∷◌, ◌++◌, refl, sym, ap, subst, ◌∙◌, append-nil}
use Rattle.std.proofs.lemmas.List.{append_cancel_left, map-append}
use mathlib.Core.List.{IsPrefix}
use Rattle.rtio_core.specs.declared.data.Act.{Act}
use Rattle.rtio_core.specs.declared.data.Entry.{Entry}
use Rattle.rtio_core.specs.Booked.{booked_acts}
use Rattle.rtio_core.specs.Core.{CoreState, IsCore}
use Rattle.rtio_core.specs.Lawful.{IsLawful, IsOpenFor}
use Rattle.desk_rule.specs.Histories.{acts_of, Grew}
use Rattle.desk_rule.proofs.Prefixes.{acts_of-append}
use Rattle.core_session.specs.Sessions.{entry_of}
use Rattle.desk_kernels.specs.Chairs.{CoreChair, KnowsItsOwn, core_entries}
use Rattle.desk_kernels.proofs.Alone.{alone}

pub entries-booked : (history : List Entry) → core_entries (booked_acts history) ≡ history
entries-booked [] = refl
entries-booked (e ∷ rest) = ap (λ (l : List Entry). e ∷ l) (entries-booked rest)

pub booked-entries : (seen : List (ℕ × Act)) → booked_acts (core_entries seen) ≡ seen
booked-entries [] = refl
booked-entries (e ∷ rest) = ap (λ (l : List (ℕ × Act)). e ∷ l) (booked-entries rest)

pub booked-append : (front back : List Entry) → booked_acts (front ++ back) ≡ booked_acts front ++ booked_acts back
booked-append front back = map-append (λ (entry : Entry). (entry.chair, entry.act)) front back

entries-append : (front back : List (ℕ × Act)) → core_entries (front ++ back) ≡ core_entries front ++ core_entries back
entries-append front back = map-append (λ (e : ℕ × Act). record { chair = e.0; act = e.1 }) front back

-- one entry more, or none
pub grew-one : (chair : ℕ) (was now : List Entry) (act : Act) → now ≡ was ++ entry_of chair act ∷ [] → Grew chair (booked_acts was) (booked_acts now)
grew-one chair was now act is = (act ∷ [], ap booked_acts is ∙ booked-append was (entry_of chair act ∷ []))

pub grew-none : (chair : ℕ) (was now : List Entry) → now ≡ was → Grew chair (booked_acts was) (booked_acts now)
grew-none chair was now is = ([], ap booked_acts is ∙ sym (append-nil (booked_acts was)))

-- a chair whose session is open finds just what it had seen
pub seen-all : (old : CoreChair) (was : CoreState) → IsCore was → KnowsItsOwn old → IsOpenFor old.number (core_entries old.seen) → IsPrefix old.seen (booked_acts was.history) → acts_of old.number (booked_acts was.history) ≡ old.own
    → was.history ≡ core_entries old.seen
seen-all old was known knows opened found own =
    let more : List (ℕ × Act) = found.0 in
    let whole : core_entries old.seen ++ core_entries more ≡ was.history = sym (entries-append old.seen more) ∙ ap core_entries found.1 ∙ entries-booked was.history in
    let same : acts_of old.number old.seen ++ acts_of old.number more ≡ acts_of old.number old.seen ++ [] =
    sym (acts_of-append old.number old.seen more) ∙ ap (acts_of old.number) found.1 ∙ own ∙ sym knows ∙ sym (append-nil (acts_of old.number old.seen)) in
    let none : acts_of old.number (booked_acts (core_entries more)) ≡ [] = ap (acts_of old.number) (booked-entries more) ∙ append_cancel_left (acts_of old.number old.seen) (acts_of old.number more) [] same in
    let L : List Entry → Type 0 = λ h. IsLawful was.config h in
    let nothing : core_entries more ≡ [] = alone was.config (core_entries old.seen) (core_entries more) old.number opened.0 (subst L (sym whole) known.lawful) opened.1 none in
    sym whole ∙ ap (λ (l : List Entry). core_entries old.seen ++ l) nothing ∙ append-nil (core_entries old.seen)

-- the same of the core that was taken
pub seen-found : (old : CoreChair) (value was : CoreState) → was ≡ value → IsCore was → KnowsItsOwn old → IsOpenFor old.number (core_entries old.seen) → IsPrefix old.seen (booked_acts value.history) → acts_of old.number (booked_acts value.history) ≡ old.own
    → was.history ≡ core_entries old.seen
seen-found old value was got known knows opened found own =
    seen-all old was known knows opened (subst (λ (c : CoreState). IsPrefix old.seen (booked_acts c.history)) (sym got) found) (ap (λ (c : CoreState). acts_of old.number (booked_acts c.history)) got ∙ own)

pub open-found : (old : CoreChair) (value was : CoreState) (who : ℕ) → was ≡ value → who ≡ old.number → IsCore was → KnowsItsOwn old → IsOpenFor old.number (core_entries old.seen) → IsPrefix old.seen (booked_acts value.history)
    → acts_of old.number (booked_acts value.history) ≡ old.own → IsOpenFor who was.history
open-found old value was who got is known knows opened found own =
    subst (λ (n : ℕ). IsOpenFor n was.history) (sym is)
    (subst (λ (h : List Entry). IsOpenFor old.number h) (sym (seen-found old value was got known knows opened found own)) opened)
