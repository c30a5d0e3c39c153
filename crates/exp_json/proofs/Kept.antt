-- What every value that is read keeps to.
use Rattle.std.proofs.Common.{◌≡◌, ℕ, Bool, true, false, List, Option, None, Some, refl}
use Rattle.std.specs.Prelude.{IsTrue}
use Rattle.serde_json.specs.Data.{Data}
use Rattle.serde_json.specs.Find.{get}
use Rattle.json_fields.specs.declared.fault.FieldKind.{FieldKind}
use Rattle.json_fields.specs.declared.fault.FieldKind.TheVariants as K
use Rattle.json_fields.specs.declared.path.Part.{Part}
use Rattle.json_fields.specs.declared.path.Part.TheVariants as P
use Rattle.json_fields.specs.Readings.{Reading, good, fault, within, demand, found_or, ◌>>=◌, ◌>>◌}
use Rattle.json_fields.specs.Objects.{Field, Table, ◌⊛◌, an_object, changed, formed, given_or, object, only_known, optional, ordered, required, there}

-- what is read, if anything is, has a property
abbrev pub Keeps : {A : Type 0} → (A → Type 0) → Reading A → Type 0
Keeps property (good a) = property a
Keeps property (fault path kind) = Unit {0}

pub keeps-any : {A : Type 0} (r : Reading A) → Keeps (λ a. Unit {0}) r
keeps-any (good a) = tt
keeps-any (fault path kind) = tt

pub keeps-weaker : {A : Type 0} (p q : A → Type 0) (r : Reading A) → ((a : A) → p a → q a) → Keeps p r → Keeps q r
keeps-weaker p q (good a) weaker kept = weaker a kept
keeps-weaker p q (fault path kind) weaker kept = tt

pub keeps-bind : {A B : Type 0} (p : A → Type 0) (q : B → Type 0) (r : Reading A) (next : A → Reading B) → Keeps p r → ((a : A) → p a → Keeps q (next a)) → Keeps q (r >>= next)
keeps-bind p q (good a) next kept more = more a kept
keeps-bind p q (fault path kind) next kept more = tt

pub keeps-then : {A B : Type 0} (q : B → Type 0) (r : Reading A) (next : Reading B) → Keeps q next → Keeps q (r >> next)
keeps-then q (good a) next kept = kept
keeps-then q (fault path kind) next kept = tt

-- a part of the unit type that has no fault
pub keeps-passed : {B : Type 0} (q : B → Type 0) (r : Reading (Unit {0})) (next : Reading B) → (r ≡ good tt → Keeps q next) → Keeps q (r >> next)
keeps-passed q (good a) next kept = kept refl
keeps-passed q (fault path kind) next kept = tt

pub keeps-demand : {B : Type 0} (q : B → Type 0) (test : Bool) (kind : FieldKind) (next : Reading B) → (IsTrue test → Keeps q next) → Keeps q (demand test kind >> next)
keeps-demand q true kind next kept = kept refl
keeps-demand q false kind next kept = tt

pub keeps-within : {A : Type 0} (p : A → Type 0) (part : Part) (r : Reading A) → Keeps p r → Keeps p (within part r)
keeps-within p part (good a) kept = kept
keeps-within p part (fault path kind) kept = tt

pub keeps-found : {A : Type 0} (p : A → Type 0) (o : Option A) (kind : FieldKind) → ((a : A) → o ≡ Some a → p a) → Keeps p (found_or o kind)
keeps-found p None kind kept = tt
keeps-found p (Some a) kind kept = kept a refl

-- a field that has to be there
pub keeps-required : {A : Type 0} (p : A → Type 0) (key : List ℕ) (kind : Data → Reading A) (d : Data) → ((v : Data) → get key d ≡ Some v → Keeps p (kind v)) → Keeps p ((required key kind).reading d)
keeps-required p key kind d kept = by (get key d) kept
  where
    by : (o : Option Data) → ((v : Data) → o ≡ Some v → Keeps p (kind v)) → Keeps p (there key o >>= (λ v. within (P.Key key) (kind v)))
    by None each = tt
    by (Some v) each = keeps-within p (P.Key key) (kind v) (each v refl)

-- a field with a default
pub keeps-optional : {A : Type 0} (p : A → Type 0) (key : List ℕ) (default : A) (kind : Data → Reading A) (d : Data) → p default → ((v : Data) → Keeps p (kind v)) → Keeps p ((optional key default kind).reading d)
keeps-optional p key default kind d absent kept = by (get key d)
  where
    by : (o : Option Data) → Keeps p (given_or key default kind o)
    by None = absent
    by (Some v) = keeps-within p (P.Key key) (kind v) (kept v)

-- a field behind which an order is asked
pub keeps-ordered : {A : Type 0} (p : A → Type 0) (field : Field A) (in_order : A → Bool) (d : Data) → Keeps p (field.reading d) → Keeps (λ a. p a × IsTrue (in_order a)) ((ordered field in_order).reading d)
keeps-ordered p field in_order d kept =
    keeps-bind p (λ a. p a × IsTrue (in_order a)) (field.reading d) (λ a. demand (in_order a) K.Order >> good a) kept
    (λ a has. keeps-demand (λ a. p a × IsTrue (in_order a)) (in_order a) K.Order (good a) (λ test. (has, test)))

-- a table with one field more
pub keeps-one : {A B : Type 0} (q : B → Type 0) (p : A → Type 0) (table : Table (A → B)) (field : Field A) (d : Data) → Keeps p (field.reading d) → Keeps (λ make. (a : A) → p a → q (make a)) (table.fields d) → Keeps q ((table ⊛ field).fields d)
keeps-one {A} {B} q p table field d kept before =
    keeps-bind (λ (make : A → B). (a : A) → p a → q (make a)) q (table.fields d) (λ make. field.reading d >>= (λ a. good (make a))) before
    (λ make all. keeps-bind p q (field.reading d) (λ a. good (make a)) kept (λ a has. all a has))

-- and with two, four, five and six
pub keeps-two : {A B C : Type 0} (q : C → Type 0) (p : A → Type 0) (r : B → Type 0) (table : Table (A → B → C)) (f : Field A) (g : Field B) (d : Data) → Keeps p (f.reading d) → Keeps r (g.reading d) → Keeps (λ make. (a : A) → p a → (b : B) → r b → q (make a b)) (table.fields d) → Keeps q ((table ⊛ f ⊛ g).fields d)
keeps-two {A} {B} {C} q p r table f g d f_kept g_kept before =
    keeps-one q r (table ⊛ f) g d g_kept (keeps-one (λ (make : B → C). (b : B) → r b → q (make b)) p table f d f_kept before)

pub keeps-four : {A B C D E : Type 0} (q : E → Type 0) (p1 : A → Type 0) (p2 : B → Type 0) (p3 : C → Type 0) (p4 : D → Type 0) (table : Table (A → B → C → D → E)) (f1 : Field A) (f2 : Field B) (f3 : Field C) (f4 : Field D) (d : Data) → Keeps p1 (f1.reading d) → Keeps p2 (f2.reading d) → Keeps p3 (f3.reading d) → Keeps p4 (f4.reading d) → Keeps (λ make. (a : A) → p1 a → (b : B) → p2 b → (c : C) → p3 c → (e : D) → p4 e → q (make a b c e)) (table.fields d) → Keeps q ((table ⊛ f1 ⊛ f2 ⊛ f3 ⊛ f4).fields d)
keeps-four {A} {B} {C} {D} {E} q p1 p2 p3 p4 table f1 f2 f3 f4 d k1 k2 k3 k4 before =
    keeps-two q p3 p4 (table ⊛ f1 ⊛ f2) f3 f4 d k3 k4 (keeps-two (λ (make : C → D → E). (c : C) → p3 c → (e : D) → p4 e → q (make c e)) p1 p2 table f1 f2 d k1 k2 before)

pub keeps-five : {A B C D E F : Type 0} (q : F → Type 0) (p1 : A → Type 0) (p2 : B → Type 0) (p3 : C → Type 0) (p4 : D → Type 0) (p5 : E → Type 0) (table : Table (A → B → C → D → E → F)) (f1 : Field A) (f2 : Field B) (f3 : Field C) (f4 : Field D) (f5 : Field E) (d : Data) → Keeps p1 (f1.reading d) → Keeps p2 (f2.reading d) → Keeps p3 (f3.reading d) → Keeps p4 (f4.reading d) → Keeps p5 (f5.reading d) → Keeps (λ make. (a : A) → p1 a → (b : B) → p2 b → (c : C) → p3 c → (e : D) → p4 e → (f : E) → p5 f → q (make a b c e f)) (table.fields d) → Keeps q ((table ⊛ f1 ⊛ f2 ⊛ f3 ⊛ f4 ⊛ f5).fields d)
keeps-five {A} {B} {C} {D} {E} {F} q p1 p2 p3 p4 p5 table f1 f2 f3 f4 f5 d k1 k2 k3 k4 k5 before =
    keeps-one q p5 (table ⊛ f1 ⊛ f2 ⊛ f3 ⊛ f4) f5 d k5 (keeps-four (λ (make : E → F). (f : E) → p5 f → q (make f)) p1 p2 p3 p4 table f1 f2 f3 f4 d k1 k2 k3 k4 before)

pub keeps-six : {A B C D E F G : Type 0} (q : G → Type 0) (p1 : A → Type 0) (p2 : B → Type 0) (p3 : C → Type 0) (p4 : D → Type 0) (p5 : E → Type 0) (p6 : F → Type 0) (table : Table (A → B → C → D → E → F → G)) (f1 : Field A) (f2 : Field B) (f3 : Field C) (f4 : Field D) (f5 : Field E) (f6 : Field F) (d : Data) → Keeps p1 (f1.reading d) → Keeps p2 (f2.reading d) → Keeps p3 (f3.reading d) → Keeps p4 (f4.reading d) → Keeps p5 (f5.reading d) → Keeps p6 (f6.reading d) → Keeps (λ make. (a : A) → p1 a → (b : B) → p2 b → (c : C) → p3 c → (e : D) → p4 e → (f : E) → p5 f → (g : F) → p6 g → q (make a b c e f g)) (table.fields d) → Keeps q ((table ⊛ f1 ⊛ f2 ⊛ f3 ⊛ f4 ⊛ f5 ⊛ f6).fields d)
keeps-six {A} {B} {C} {D} {E} {F} {G} q p1 p2 p3 p4 p5 p6 table f1 f2 f3 f4 f5 f6 d k1 k2 k3 k4 k5 k6 before =
    keeps-two q p5 p6 (table ⊛ f1 ⊛ f2 ⊛ f3 ⊛ f4) f5 f6 d k5 k6 (keeps-four (λ (make : E → F → G). (f : E) → p5 f → (g : F) → p6 g → q (make f g)) p1 p2 p3 p4 table f1 f2 f3 f4 d k1 k2 k3 k4 before)

pub keeps-changed : {A B : Type 0} (q : B → Type 0) (change : A → B) (table : Table A) (d : Data) → Keeps (λ a. q (change a)) (table.fields d) → Keeps q ((changed change table).fields d)
keeps-changed q change table d kept = keeps-bind (λ a. q (change a)) q (table.fields d) (λ a. good (change a)) kept (λ a has. has)

-- an object of a form
pub keeps-formed : {F A : Type 0} (q : A → Type 0) (form_of : Data → Option F) (asked : F → Reading (Unit {0})) (table : F → Table A) (d : Data) → ((form : F) → asked form ≡ good tt → Keeps q ((table form).fields d)) → Keeps q (formed form_of asked table d)
keeps-formed {F} q form_of asked table d kept =
    keeps-then q (an_object d) (found_or (form_of d) K.Missing >>= (λ form. asked form >> (only_known (table form).keys d >> (table form).fields d)))
    (keeps-bind (λ (form : F). Unit {0}) q (found_or (form_of d) K.Missing) (λ form. asked form >> (only_known (table form).keys d >> (table form).fields d)) (keeps-any (found_or (form_of d) K.Missing))
    (λ form found. keeps-passed q (asked form) (only_known (table form).keys d >> (table form).fields d) (λ passed. keeps-then q (only_known (table form).keys d) ((table form).fields d) (kept form passed))))

-- an object of one form
pub keeps-object : {A : Type 0} (q : A → Type 0) (table : Table A) (d : Data) → Keeps q (table.fields d) → Keeps q (object table d)
keeps-object q table d kept = keeps-formed {F = Unit {0}} q (λ value. Some tt) (λ form. good tt) (λ form. table) d (λ form passed. kept)
