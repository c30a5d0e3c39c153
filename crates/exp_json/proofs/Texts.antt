-- Bytes have one answer.
use Rattle.std.proofs.Common.{◌≡◌, ℕ, ◌⊎◌, inl, inr, List, [], ◌∷◌, length, None, Some, arith, refl, sym, ap, ◌∙◌, subst}
use Rattle.std.specs.Prelude.{IsTrue, codes}
use Rattle.serde_json.specs.Data.{Data}
use Rattle.serde_json.specs.Read.{read}
use Rattle.serde_json.proofs.OnLiterals.{serde_json_on_literals}
use Rattle.exp_model.specs.declared.session.Session.{Session}
use Rattle.exp_model.specs.Sessions.{is_session}
use Rattle.json_fields.specs.declared.fault.FieldKind.{FieldKind}
use Rattle.json_fields.specs.declared.path.Part.{Part}
use Rattle.json_fields.specs.Paths.{path_text}
use Rattle.json_fields.specs.Readings.{Reading, good, fault, ◌>>◌}
use Rattle.json_fields.specs.Objects.{an_object, only_known}
use Rattle.exp_json.specs.declared.session.SessionFault.{SessionFault}
use Rattle.exp_json.specs.declared.session.SessionFault.TheVariants as S
use Rattle.exp_json.specs.Answers.{IsFieldFault}
use Rattle.exp_json.specs.declared.around.Around.{Around}
use Rattle.exp_json.specs.Sessions.{around_of, session, session_table}
use Rattle.exp_json.specs.Texts.{HasFault, IsSessionText, IsValueOf}
use Rattle.exp_json.proofs.Served.{served}

-- bytes are one value
one-value : (bytes : List ℕ) (d e : Data) → IsValueOf bytes d → IsValueOf bytes e → d ≡ e
one-value bytes d e here there =
    let same : Some d ≡ Some e = sym here.1 ∙ there.1 in
    cc

-- no bytes are no value
nothing-read : read [] ≡ None
unfolding serde_json_on_literals
nothing-read = refl

pub empty-unread : (bytes : List ℕ) (d : Data) → length bytes ≡ 0 → IsValueOf bytes d → ⊥
empty-unread [] d empty value =
    let clash : None ≡ Some d = sym nothing-read ∙ value.1 in
    absurd (cc)
empty-unread (b ∷ bytes) d empty value = absurd (omega arith)

pub answered : (bytes : List ℕ) (d : Data) → IsValueOf bytes d → ((s : Session) × IsSessionText bytes s) ⊎ ((path : List ℕ) × (kind : FieldKind) × HasFault bytes path kind)
answered bytes d value = by (session d) refl
  where
    by : (r : Reading Session) → session d ≡ r → ((s : Session) × IsSessionText bytes s) ⊎ ((path : List ℕ) × (kind : FieldKind) × HasFault bytes path kind)
    by (good s) is = inl (s, (d, (value, is)))
    by (fault parts kind) is = inr (path_text (codes "session") parts, kind, (d, parts, (value, is, refl)))

apart : (r : Reading Session) (s : Session) (parts : List Part) (kind : FieldKind) → r ≡ good s → r ≡ fault parts kind → ⊥
apart r s parts kind is bad = cc

same-session : (r : Reading Session) (s t : Session) → r ≡ good s → r ≡ good t → s ≡ t
same-session r s t is other = cc

same-parts : (r : Reading Session) (parts others : List Part) (kind other_kind : FieldKind) → r ≡ fault parts kind → r ≡ fault others other_kind → parts ≡ others
same-parts r parts others kind other_kind is other = cc

same-kind : (r : Reading Session) (parts others : List Part) (kind other_kind : FieldKind) → r ≡ fault parts kind → r ≡ fault others other_kind → kind ≡ other_kind
same-kind r parts others kind other_kind is other = cc

pub not_both : (bytes : List ℕ) (s : Session) (path : List ℕ) (kind : FieldKind) → IsSessionText bytes s → HasFault bytes path kind → ⊥
not_both bytes s path kind text bad =
    let same : text.0 ≡ bad.0 = one-value bytes text.0 bad.0 text.1.0 bad.2.0 in
    apart (session bad.0) s bad.1 kind (sym (ap session same) ∙ text.1.1) bad.2.1

pub one_session : (bytes : List ℕ) (s t : Session) → IsSessionText bytes s → IsSessionText bytes t → s ≡ t
one_session bytes s t text other =
    let same : text.0 ≡ other.0 = one-value bytes text.0 other.0 text.1.0 other.1.0 in
    same-session (session other.0) s t (sym (ap session same) ∙ text.1.1) other.1.1

pub one_fault : (bytes path other_path : List ℕ) (kind other_kind : FieldKind) → HasFault bytes path kind → HasFault bytes other_path other_kind → (path ≡ other_path) × (kind ≡ other_kind)
one_fault bytes path other_path kind other_kind bad other =
    let same : bad.0 ≡ other.0 = one-value bytes bad.0 other.0 bad.2.0 other.2.0 in
    let first : session other.0 ≡ fault bad.1 kind = sym (ap session same) ∙ bad.2.1 in
    let parts : bad.1 ≡ other.1 = same-parts (session other.0) bad.1 other.1 kind other_kind first other.2.1 in
    (bad.2.2 ∙ ap (path_text (codes "session")) parts ∙ sym other.2.2, same-kind (session other.0) bad.1 other.1 kind other_kind first other.2.1)

pub text-served : (bytes : List ℕ) (s : Session) → IsSessionText bytes s → IsTrue (is_session s)
text-served bytes s text = served text.0 s text.1.1

-- what a fault with its path as text says of the bytes
pub field-fault : (bytes : List ℕ) (d : Data) (parts : List Part) (kind : FieldKind) (result : SessionFault) (path : List ℕ) (given : FieldKind) → IsValueOf bytes d → session d ≡ fault parts kind → IsFieldFault parts kind result → result ≡ S.Field path given → HasFault bytes path given
field-fault bytes d parts kind result path given value bad has is =
    let told : IsFieldFault parts kind (S.Field path given) = subst (IsFieldFault parts kind) is has in
    (d, parts, (value, bad ∙ ap (λ k. fault parts k) (sym told.1), told.0))

-- a session is what its fields are, where it is an object whose keys are known
pub passed-session : (d : Data) (around : Around) → around ≡ around_of d → an_object d ≡ good tt → only_known (session_table (around_of d)).keys d ≡ good tt → (session_table around).fields d ≡ session d
passed-session d around is object_is keys_are =
    ap (λ a. (session_table a).fields d) is
    ∙ sym (ap (λ r. r >> (only_known (session_table (around_of d)).keys d >> (session_table (around_of d)).fields d)) object_is ∙ ap (λ r. r >> (session_table (around_of d)).fields d) keys_are)
