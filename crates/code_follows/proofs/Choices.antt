-- Branches, `and`, `or`, and the handlers of a `try`.
use Rattle.std.proofs.Common.{◌≡◌, ℕ, ◌+◌, ◌≤◌, List, [], ◌∷◌, refl, sym, ◌∙◌, ap, subst, arith}
use Rattle.std.specs.Prelude.{Bool, true, false, not, ℤ, pos, ⊤, bytes_eq, codes, if◌then◌else◌}
use Rattle.std.specs.Ordering.{int_eq}
use Rattle.std.proofs.lemmas.Slice.Eq.{bytes_eq-Decides}
use Rattle.rtio_types.specs.declared.outcome.Exc.{Exc}
use Rattle.rtio_types.specs.declared.outcome.Exc.TheVariants as E
use Rattle.rtio_types.specs.declared.request.Reply.{Reply}
use Rattle.rtio_types.specs.Integers.{is_true, number_of}
use Rattle.kern_syntax.specs.Tree.{Bytes}
use Rattle.timeline_sem.specs.Actions.{State, raised, Completion, normal, early, Action, skip, stop, ◌>>=◌}
use Rattle.timeline_sem.specs.Expressions.{unless_decided}
use Rattle.timeline_sem.specs.Statements.{either, name_of_exception}
use Rattle.core_isa.specs.declared.code.Code.{Code}
use Rattle.core_isa.specs.declared.instr.Instr.TheVariants as I
use Rattle.core_isa.specs.Machine.{Next, goes, raise, code_of}
use Rattle.core_isa.specs.Runs.{counted}
use Rattle.code_forms.specs.Conditions.{test_instrs, test_size}
use Rattle.code_forms.specs.StatementCode.{code_of_name}
use Rattle.code_follows.specs.Stands.{Around, Local, holding, Setting, machine_at, Fits64, Comes, ComesToRaise, EndsWith}
use Rattle.code_follows.specs.Parts.{Follows, Stand}
use Rattle.code_follows.proofs.Leads.{leads_instr, leads_then}
use Rattle.code_follows.proofs.Compose.{moved_same, follows_bind, follows_if, follows_same}
use Rattle.code_follows.proofs.Requests.{raises_here}
use Rattle.code_follows.proofs.Raising.{code_back}
use Rattle.code_follows.proofs.Instructions.{follows_one, follows_quiet, follows_const, follows_two, follows_pop, number_of_fits}
use Rattle.code_follows.proofs.Flow.{follows_test, follows_before, follows_give}
use Rattle.code_follows.proofs.ForLoops.{true_number}
use Rattle.code_follows.proofs.Tests.{holds, follows_branching}

pub small_fits : (n : ℕ) → n ≤ 6 → Fits64 (pos n)
small_fits n less = grind (arith, less)

of_RTIOUnderflow : (x : Exc) → int_eq (code_of x) (code_of_name (codes "RTIOUnderflow")) ≡ bytes_eq (codes "RTIOUnderflow") (name_of_exception x)
of_RTIOUnderflow E.RTIOUnderflow = refl
of_RTIOUnderflow E.RTIOOverflow = refl
of_RTIOUnderflow E.DMAError = refl
of_RTIOUnderflow E.ZeroDivisionError = refl
of_RTIOUnderflow E.IndexError = refl
of_RTIOUnderflow E.StackOverflow = refl

of_RTIOOverflow : (x : Exc) → int_eq (code_of x) (code_of_name (codes "RTIOOverflow")) ≡ bytes_eq (codes "RTIOOverflow") (name_of_exception x)
of_RTIOOverflow E.RTIOUnderflow = refl
of_RTIOOverflow E.RTIOOverflow = refl
of_RTIOOverflow E.DMAError = refl
of_RTIOOverflow E.ZeroDivisionError = refl
of_RTIOOverflow E.IndexError = refl
of_RTIOOverflow E.StackOverflow = refl

of_DMAError : (x : Exc) → int_eq (code_of x) (code_of_name (codes "DMAError")) ≡ bytes_eq (codes "DMAError") (name_of_exception x)
of_DMAError E.RTIOUnderflow = refl
of_DMAError E.RTIOOverflow = refl
of_DMAError E.DMAError = refl
of_DMAError E.ZeroDivisionError = refl
of_DMAError E.IndexError = refl
of_DMAError E.StackOverflow = refl

of_ZeroDivisionError : (x : Exc) → int_eq (code_of x) (code_of_name (codes "ZeroDivisionError")) ≡ bytes_eq (codes "ZeroDivisionError") (name_of_exception x)
of_ZeroDivisionError E.RTIOUnderflow = refl
of_ZeroDivisionError E.RTIOOverflow = refl
of_ZeroDivisionError E.DMAError = refl
of_ZeroDivisionError E.ZeroDivisionError = refl
of_ZeroDivisionError E.IndexError = refl
of_ZeroDivisionError E.StackOverflow = refl

of_IndexError : (x : Exc) → int_eq (code_of x) (code_of_name (codes "IndexError")) ≡ bytes_eq (codes "IndexError") (name_of_exception x)
of_IndexError E.RTIOUnderflow = refl
of_IndexError E.RTIOOverflow = refl
of_IndexError E.DMAError = refl
of_IndexError E.ZeroDivisionError = refl
of_IndexError E.IndexError = refl
of_IndexError E.StackOverflow = refl

of_StackOverflow : (x : Exc) → int_eq (code_of x) (code_of_name (codes "StackOverflow")) ≡ bytes_eq (codes "StackOverflow") (name_of_exception x)
of_StackOverflow E.RTIOUnderflow = refl
of_StackOverflow E.RTIOOverflow = refl
of_StackOverflow E.DMAError = refl
of_StackOverflow E.ZeroDivisionError = refl
of_StackOverflow E.IndexError = refl
of_StackOverflow E.StackOverflow = refl

-- a name that is none of these has no exception's code
of_none : (x : Exc) (name : Bytes) → bytes_eq name (codes "RTIOUnderflow") ≡ false → bytes_eq name (codes "RTIOOverflow") ≡ false → bytes_eq name (codes "DMAError") ≡ false → bytes_eq name (codes "ZeroDivisionError") ≡ false → bytes_eq name (codes "IndexError") ≡ false → bytes_eq name (codes "StackOverflow") ≡ false → int_eq (code_of x) (code_of_name name) ≡ bytes_eq name (name_of_exception x)
of_none E.RTIOUnderflow name a b c d e f =
    let none : code_of_name name ≡ pos 0 = rw a (rw b (rw c (rw d (rw e (rw f refl))))) in
    ap (int_eq (code_of E.RTIOUnderflow)) none ∙ sym a
of_none E.RTIOOverflow name a b c d e f =
    let none : code_of_name name ≡ pos 0 = rw a (rw b (rw c (rw d (rw e (rw f refl))))) in
    ap (int_eq (code_of E.RTIOOverflow)) none ∙ sym b
of_none E.DMAError name a b c d e f =
    let none : code_of_name name ≡ pos 0 = rw a (rw b (rw c (rw d (rw e (rw f refl))))) in
    ap (int_eq (code_of E.DMAError)) none ∙ sym c
of_none E.ZeroDivisionError name a b c d e f =
    let none : code_of_name name ≡ pos 0 = rw a (rw b (rw c (rw d (rw e (rw f refl))))) in
    ap (int_eq (code_of E.ZeroDivisionError)) none ∙ sym d
of_none E.IndexError name a b c d e f =
    let none : code_of_name name ≡ pos 0 = rw a (rw b (rw c (rw d (rw e (rw f refl))))) in
    ap (int_eq (code_of E.IndexError)) none ∙ sym e
of_none E.StackOverflow name a b c d e f =
    let none : code_of_name name ≡ pos 0 = rw a (rw b (rw c (rw d (rw e (rw f refl))))) in
    ap (int_eq (code_of E.StackOverflow)) none ∙ sym f

from_name : (x : Exc) (name key : Bytes) → bytes_eq name key ≡ true → int_eq (code_of x) (code_of_name key) ≡ bytes_eq key (name_of_exception x) → int_eq (code_of x) (code_of_name name) ≡ bytes_eq name (name_of_exception x)
from_name x name key e same =
    subst (λ n. int_eq (code_of x) (code_of_name n) ≡ bytes_eq n (name_of_exception x)) (sym ((bytes_eq-Decides name key).0 e)) same

test5 : (x : Exc) (name : Bytes) (t : Bool) → bytes_eq name (codes "RTIOUnderflow") ≡ false → bytes_eq name (codes "RTIOOverflow") ≡ false → bytes_eq name (codes "DMAError") ≡ false → bytes_eq name (codes "ZeroDivisionError") ≡ false → bytes_eq name (codes "IndexError") ≡ false → bytes_eq name (codes "StackOverflow") ≡ t → int_eq (code_of x) (code_of_name name) ≡ bytes_eq name (name_of_exception x)
test5 x name true a b c d e h = from_name x name (codes "StackOverflow") h (of_StackOverflow x)
test5 x name false a b c d e h = of_none x name a b c d e h

test4 : (x : Exc) (name : Bytes) (t : Bool) → bytes_eq name (codes "RTIOUnderflow") ≡ false → bytes_eq name (codes "RTIOOverflow") ≡ false → bytes_eq name (codes "DMAError") ≡ false → bytes_eq name (codes "ZeroDivisionError") ≡ false → bytes_eq name (codes "IndexError") ≡ t → int_eq (code_of x) (code_of_name name) ≡ bytes_eq name (name_of_exception x)
test4 x name true a b c d h = from_name x name (codes "IndexError") h (of_IndexError x)
test4 x name false a b c d h = test5 x name (bytes_eq name (codes "StackOverflow")) a b c d h refl

test3 : (x : Exc) (name : Bytes) (t : Bool) → bytes_eq name (codes "RTIOUnderflow") ≡ false → bytes_eq name (codes "RTIOOverflow") ≡ false → bytes_eq name (codes "DMAError") ≡ false → bytes_eq name (codes "ZeroDivisionError") ≡ t → int_eq (code_of x) (code_of_name name) ≡ bytes_eq name (name_of_exception x)
test3 x name true a b c h = from_name x name (codes "ZeroDivisionError") h (of_ZeroDivisionError x)
test3 x name false a b c h = test4 x name (bytes_eq name (codes "IndexError")) a b c h refl

test2 : (x : Exc) (name : Bytes) (t : Bool) → bytes_eq name (codes "RTIOUnderflow") ≡ false → bytes_eq name (codes "RTIOOverflow") ≡ false → bytes_eq name (codes "DMAError") ≡ t → int_eq (code_of x) (code_of_name name) ≡ bytes_eq name (name_of_exception x)
test2 x name true a b h = from_name x name (codes "DMAError") h (of_DMAError x)
test2 x name false a b h = test3 x name (bytes_eq name (codes "ZeroDivisionError")) a b h refl

test1 : (x : Exc) (name : Bytes) (t : Bool) → bytes_eq name (codes "RTIOUnderflow") ≡ false → bytes_eq name (codes "RTIOOverflow") ≡ t → int_eq (code_of x) (code_of_name name) ≡ bytes_eq name (name_of_exception x)
test1 x name true a h = from_name x name (codes "RTIOOverflow") h (of_RTIOOverflow x)
test1 x name false a h = test2 x name (bytes_eq name (codes "DMAError")) a h refl

test0 : (x : Exc) (name : Bytes) (t : Bool) → bytes_eq name (codes "RTIOUnderflow") ≡ t → int_eq (code_of x) (code_of_name name) ≡ bytes_eq name (name_of_exception x)
test0 x name true e = from_name x name (codes "RTIOUnderflow") e (of_RTIOUnderflow x)
test0 x name false e = test1 x name (bytes_eq name (codes "RTIOOverflow")) e refl

-- a name has the code of the exception of that name, and no other name has it
exception_names : (x : Exc) (name : Bytes) → int_eq (code_of x) (code_of_name name) ≡ bytes_eq name (name_of_exception x)
exception_names x name = test0 x name (bytes_eq name (codes "RTIOUnderflow")) refl

module _ (given : List Reply) (code : Code) where
  exits : {from : Next} {around : Around} {s : State} {local : Local} (mid to : ℕ) → Stand code.lines mid (I.Jump to ∷ []) → Comes given code from around s local mid → Comes given code from around s local to
  exits {around = around} {s = s} {local = local} mid to stands c =
      let m = machine_at around s local c.free mid c.count in
      record { free = c.free; count = (counted m).steps; slots = c.slots; agrees = c.agrees; leads = leads_then given code c.leads (leads_instr given code m (I.Jump to) [] stands) }

  ends_exit : {A : Type 0} (setting : Setting) (from : Next) (around : Around) (mid to : ℕ) (good : A → Type 0) (results : A → Local) (c : Completion A) → Stand code.lines mid (I.Jump to ∷ []) → EndsWith given code setting from around mid good results c → EndsWith given code setting from around to good results c
  ends_exit setting from around mid to good results (normal a s) stands e = (e.0, exits mid to stands e.1)
  ends_exit setting from around mid to good results (early reason s) stands e = e

  -- a part, and a jump behind it
  pub follows_exit : {A : Type 0} {premise : Type 0} {most : ℕ} {setting : Setting} {first mid to : ℕ} {inputs : Local} {good : A → Type 0} {results : A → Local} {m : Action A} → Follows given code premise most setting first mid inputs good results m → Stand code.lines mid (I.Jump to ∷ []) → Follows given code premise most setting first to inputs good results m
  follows_exit {setting} {first} {mid} {to} {inputs} {good} {results} {m} fm stands =
      record {
        moves = fm.moves;
        follows = λ around s free count p suits agrees slots few fit. ends_exit setting (goes (machine_at around s inputs free first count)) around mid to good results (m s) stands (fm.follows around s free count p suits agrees slots few fit);
      }

  -- `and`: the left, a jump to a 0 where it is 0, the right, and a jump past the 0
  pub follows_conjunction : {premise : Type 0} {most : ℕ} {setting : Setting} {first test mid : ℕ} {left right : Action ℤ} → Stand code.lines test (I.JumpZero (mid + 1) ∷ []) → Stand code.lines mid (I.Jump (mid + 1 + 1) ∷ I.Const (pos 0) ∷ []) → Follows given code premise most setting first test (holding []) Fits64 (λ v. holding (v ∷ [])) left → Follows given code premise most setting (test + 1) mid (holding []) Fits64 (λ v. holding (v ∷ [])) right → Follows given code premise most setting first (mid + 1 + 1) (holding []) Fits64 (λ v. holding (v ∷ [])) (left >>= λ a. unless_decided (not (is_true a)) (pos 0) right)
  follows_conjunction {right = right} at_test at_mid fl fr =
      follows_bind given code fl (λ a. follows_test given code (holding []) a (λ b. unless_decided (not b) (pos 0) right) at_test (follows_if given code (λ p. p.0) (follows_exit fr (at_mid.0, at_mid.1, at_mid.2, tt))) (follows_const given code [] [] (pos 0) (small_fits 0 (omega arith)) (at_mid.3.0, at_mid.3.1, at_mid.3.2, tt)))

  -- `or`: the left, a jump to the right where it is 0, else a 1 and a jump past the right
  pub follows_disjunction : {premise : Type 0} {most : ℕ} {setting : Setting} {first test past : ℕ} {left right : Action ℤ} → Stand code.lines test (I.JumpZero (test + 1 + 1 + 1) ∷ I.Const (pos 1) ∷ I.Jump past ∷ []) → Follows given code premise most setting first test (holding []) Fits64 (λ v. holding (v ∷ [])) left → Follows given code premise most setting (test + 1 + 1 + 1) past (holding []) Fits64 (λ v. holding (v ∷ [])) right → Follows given code premise most setting first past (holding []) Fits64 (λ v. holding (v ∷ [])) (left >>= λ a. unless_decided (is_true a) (pos 1) right)
  follows_disjunction {right = right} at_test fl fr =
      let st1 = at_test.3 in
      let st2 = st1.3 in
      follows_bind given code fl (λ a. follows_test given code (holding []) a (λ b. unless_decided b (pos 1) right) (at_test.0, at_test.1, at_test.2, tt) (follows_exit (follows_const given code [] [] (pos 1) (small_fits 1 (omega arith)) (st1.0, st1.1, st1.2, tt)) (st2.0, st2.1, st2.2, tt)) (follows_if given code (λ p. p.0) fr))

  -- a branch: what is asked for its condition, a test that goes to the other branches, its body, and a jump past them
  pub follows_branch : {premise : Type 0} {most : ℕ} {setting : Setting} {first test mid past : ℕ} {answer : Action ℤ} {body rest : Action ⊤} (turned : Bool) → Stand code.lines test (test_instrs turned test (mid + 1)) → Stand code.lines mid (I.Jump past ∷ []) → Follows given code premise most setting first test (holding []) Fits64 (λ v. holding (v ∷ [])) answer → Follows given code premise most setting (test + test_size turned) mid (holding []) (λ v. ⊤) (λ v. holding []) body → Follows given code premise most setting (mid + 1) past (holding []) (λ v. ⊤) (λ v. holding []) rest → Follows given code premise most setting first past (holding []) (λ v. ⊤) (λ v. holding []) (answer >>= λ a. either (holds turned a) body rest)
  follows_branch {body = body} {rest = rest} turned at_test at_mid fc fb fr =
      follows_bind given code fc (λ a. follows_branching given code turned a (λ b. either b body rest) at_test (follows_if given code (λ p. p.0) (follows_exit fb at_mid)) (follows_if given code (λ p. p.0) fr))

  -- the last branch, where there is no `else`
  pub follows_last_branch : {premise : Type 0} {most : ℕ} {setting : Setting} {first test past : ℕ} {answer : Action ℤ} {body : Action ⊤} (turned : Bool) → Stand code.lines test (test_instrs turned test past) → Follows given code premise most setting first test (holding []) Fits64 (λ v. holding (v ∷ [])) answer → Follows given code premise most setting (test + test_size turned) past (holding []) (λ v. ⊤) (λ v. holding []) body → Follows given code premise most setting first past (holding []) (λ v. ⊤) (λ v. holding []) (answer >>= λ a. either (holds turned a) body skip)
  follows_last_branch {body = body} turned at_test fc fb =
      follows_bind given code fc (λ a. follows_branching given code turned a (λ b. either b body skip) at_test (follows_if given code (λ p. p.0) fb) (follows_give given code {results = λ v. holding []} tt (λ p. tt)))

  -- a handler: the code compared, a jump to the others where it isn't its own, the body, and a jump past them
  pub follows_handler : {premise : Type 0} {most : ℕ} {setting : Setting} {first mid past : ℕ} (name : Bytes) (x : Exc) (body rest : Action ⊤) → Stand code.lines first (I.Dup ∷ I.Const (code_of_name name) ∷ I.Eq ∷ I.JumpZero (mid + 1) ∷ I.Pop ∷ []) → Fits64 (code_of_name name) → Stand code.lines mid (I.Jump past ∷ []) → Follows given code premise most setting (first + 1 + 1 + 1 + 1 + 1) mid (holding []) (λ v. ⊤) (λ v. holding []) body → Follows given code premise most setting (mid + 1) past (holding (code_of x ∷ [])) (λ v. ⊤) (λ v. holding []) rest → Follows given code premise most setting first past (holding (code_of x ∷ [])) (λ v. ⊤) (λ v. holding []) (if bytes_eq name (name_of_exception x) then body else rest)
  follows_handler {premise} {most} {setting} {first} {mid} {past} name x body rest stands fits at_mid fb fr =
      let st1 = stands.3 in
      let st2 = st1.3 in
      let st3 = st2.3 in
      let st4 = st3.3 in
      let c = code_of x in
      let n = code_of_name name in
      let b = int_eq c n in
      let dup : Follows given code premise most setting first (first + 1) (holding (c ∷ [])) (λ v. ⊤) (λ v. holding (c ∷ c ∷ [])) skip = follows_quiet given code {results = λ v. c ∷ c ∷ []} I.Dup (stands.0, stands.1, stands.2, tt) tt (λ p. tt) (λ around s free count. refl) in
      let choice : (t : Bool) → t ≡ is_true (number_of b) → Follows given code premise most setting first past (holding (c ∷ [])) (λ v. ⊤) (λ v. holding []) (if is_true (number_of b) then body else rest) = λ t e. follows_before given code tt dup (follows_before given code n (follows_const given code (c ∷ c ∷ []) [] n fits (st1.0, st1.1, st1.2, tt)) (follows_before given code (number_of b) (follows_two given code (c ∷ []) [] I.Eq c n (number_of b) (λ p. number_of_fits b) (λ around s free count. refl) (st2.0, st2.1, st2.2, tt)) (follows_test given code (holding (c ∷ [])) (number_of b) (λ t. if t then body else rest) (st3.0, st3.1, st3.2, tt) (follows_before given code tt (follows_pop given code [] [] c (st4.0, st4.1, st4.2, tt)) (follows_if given code (λ p. p.0.0.0.0) (follows_exit fb at_mid))) (follows_if given code (λ p. p.0.0.0) fr)))) in
      let same : is_true (number_of b) ≡ bytes_eq name (name_of_exception x) = true_number b (bytes_eq name (name_of_exception x)) (exception_names x name) in
      follows_same given code (λ s. ap (λ t. (if t then body else rest) s) same) (choice (is_true (number_of b)) refl)

  -- where no handler has the exception's name, it is raised again
  pub follows_raise : {premise : Type 0} {most : ℕ} {setting : Setting} {first past : ℕ} (x : Exc) → Stand code.lines first (I.Raise ∷ []) → Follows given code premise most setting first past (holding (code_of x ∷ [])) (λ v. ⊤) (λ v. holding []) (stop {A = ⊤} (raised x))
  follows_raise {first = first} x stands =
      follows_one given code I.Raise stands moved_same (λ around s free count p suits agrees slots few fit. subst (λ y. ComesToRaise given code (raise y (machine_at around s (holding []) free first count)) around s x) (sym (code_back x)) (raises_here given code (holding []) free first count slots agrees))
