-- What contracts see of a desk, a chair and a note.
use Rattle.std.specs.Prelude.{◌≡◌, ◌≢◌, ℕ, zero, suc, List, [], ◌∷◌, ◌++◌, Bool, true, false, Option}
use mathlib.Core.List.{IsPrefix}
use Rattle.atomic_table.specs.Seated.{TableId}
use Rattle.desk_rule.specs.Histories.{entries_by, longer, Each}

-- which desk it is, with the fixed part of its value
pub record DeskId (F : Type 0) : Type 0 where
  pub table : TableId
  pub fixed : Option F

-- a desk: which it is, the fixed part of its value, and how many chairs it has
pub record Opened (F : Type 0) : Type 0 where
  pub id : DeskId F
  pub fixed : F
  pub chairs : ℕ

-- a chair: its desk, its number, what it has seen of the history, what it put, the numbers
-- that its lost tries read, the history as each of its takings found it, in order, and whether
-- it holds the value
pub record Seated (A F : Type 0) : Type 0 where
  pub desk : DeskId F
  pub number : ℕ
  pub seen : List (ℕ × A)
  pub own : List A
  pub lost : List ℕ
  pub takings : List (List (ℕ × A))
  pub holds : Bool

-- lost tries of the chair with this number have read more numbers, each that of another chair
abbrev pub LosesMore : ℕ → List ℕ → List ℕ → Type 0
LosesMore k before after = (more : List ℕ) × (after ≡ before ++ more) × Each (λ n. n ≢ k) more

-- a note: its desk, and what its teller had seen
pub record Telling (A F : Type 0) : Type 0 where
  pub desk : DeskId F
  pub seen : List (ℕ × A)

module _ {A F : Type 0} where
  -- a chair that was just made
  abbrev pub new_chair : DeskId F → ℕ → Seated A F
  new_chair id k = record { desk = id; number = k; seen = []; own = []; lost = []; takings = []; holds = false }

  -- n chairs that were just made, with the numbers from k on
  abbrev pub new_chairs : DeskId F → ℕ → ℕ → List (Seated A F)
  new_chairs id k zero = []
  new_chairs id k (suc n) = new_chair id k ∷ new_chairs id (suc k) n

  -- the chair has taken the value once more, and found this history
  abbrev pub holding : Seated A F → List (ℕ × A) → Seated A F
  holding c log = record c { seen = log; takings = c.takings ++ log ∷ []; holds = true }

  -- the same chair, after more lost tries
  abbrev pub losing : Seated A F → List ℕ → Seated A F
  losing c lost = record c { lost = lost }

  -- a lost try of the chair read this number
  abbrev pub refused : Seated A F → ℕ → Seated A F
  refused c by = record c { lost = c.lost ++ by ∷ [] }

  -- the chair has put acts of its own, and has seen the history that ends with them
  abbrev pub Puts : Seated A F → List (ℕ × A) → Seated A F → Type 0
  Puts c log d = (acts : List A) × (log ≡ c.seen ++ entries_by c.number acts) × (d ≡ record c { seen = log; own = c.own ++ acts; holds = false })

  -- The chair has seen the longer of what it and the note's teller had seen,
  -- and both begin it. Where it holds the value, it had seen that much
  pub record Hears (c : Seated A F) (told : List (ℕ × A)) (d : Seated A F) : Type 0 where
    pub now : d ≡ record c { seen = longer c.seen told }
    pub mine : IsPrefix c.seen d.seen
    pub theirs : IsPrefix told d.seen
    pub holder : c.holds ≡ true → d ≡ c
