-- The verdicts on the further branches of an `if`, and on its `else`.
use Rattle.std.proofs.Common.{◌≡◌, List, Option, None, Result, option_map, refl, sym, ap, subst, ◌∙◌}
use Rattle.std.specs.Prelude.{⊤}
use Rattle.kern_syntax.specs.declared.statement.Elif.{Elif}
use Rattle.kern_syntax.specs.declared.statement.Block.{Block}
use Rattle.kern_syntax.specs.Tree.{Expression, Otherwise, no_else, else_do, elif_then, if_then}
use Rattle.kern_syntax.specs.Tree
use Rattle.kern_syntax.specs.TreeOf.{block_of, elif_of, branches_of, else_of}
use Rattle.kern_expression_types.specs.declared.fault.TypeFault.{TypeFault}
use Rattle.kern_expression_types.specs.declared.place.Place.{Place}
use Rattle.kern_expression_types.specs.Answers.{Leaves}
use Rattle.kern_expression_types.specs.Before.{Functions}
use Rattle.kern_expression_types.specs.Expressions.{condition_verdict}
use Rattle.kern_types.specs.Statements.{at_line, block_verdict, branches_verdict, statement_verdict}
use Rattle.kern_calls.specs.Types.{Names}
use Rattle.kern_expression_types.specs.Verdicts.{Verdict, well, fault, ◌>>=◌, ◌>>◌}
use Rattle.kern_expression_types.proofs.Misfits.{bind-assoc, bind-same}
use Rattle.kern_plain.proofs.Branches.{with_end, IsOpen, elif-end, elif-open, branches_of-end, open-branches}

-- a fault ends what follows
pub fault-then : {A B : Type 0} (found : TypeFault) (v : Verdict A) (next : A → Verdict B) → v ≡ fault found.line found.kind → (v >>= next) ≡ fault found.line found.kind
fault-then found v next is = ap (λ first. first >>= next) is

-- what a function leaves after a part that has no fault
pub leaves-then : {A B : Type 0} (r : Result ⊤ TypeFault) (left : B) (v : Verdict A) (a : A) (next : A → Verdict B) → v ≡ well a → Leaves r left (next a) → Leaves r left (v >>= next)
leaves-then r left v a next found last = rw found last

-- what a function leaves, of the same verdict
pub leaves-same : {A : Type 0} (r : Result ⊤ TypeFault) (left : A) (v w : Verdict A) → v ≡ w → Leaves r left v → Leaves r left w
leaves-same r left v w same last = subst (Leaves r left) same last

module _ (functions : Functions) (place : Place) where
  -- what stands at the end of branches comes last
  verdict-with_end : (rest end : Otherwise) (names : Names) → IsOpen rest → branches_verdict functions (with_end rest end) place names ≡ (branches_verdict functions rest place names >>= (λ after. branches_verdict functions end place after))
  verdict-with_end no_else end names open_ = refl
  verdict-with_end (else_do body) end names open_ = absurd open_
  verdict-with_end (elif_then line condition body rest) end names open_ =
      let branch = condition_verdict functions (at_line place line) names condition >> block_verdict functions body place names in
      bind-same branch _ _ (λ after. verdict-with_end rest end after open_) ∙ sym (bind-assoc branch (λ after. branches_verdict functions rest place after) (λ after. branches_verdict functions end place after))

  -- an `else` comes after the branches
  pub branches_verdict-else : (names : Names) (branches : List Elif) (last : Option Block) → branches_verdict functions (branches_of branches last) place names ≡ (branches_verdict functions (branches_of branches None) place names >>= (λ after. branches_verdict functions (else_of (option_map block_of last)) place after))
  branches_verdict-else names branches last =
      ap (λ rest. branches_verdict functions rest place names) (branches_of-end branches last) ∙ verdict-with_end (branches_of branches None) (else_of (option_map block_of last)) names (open-branches branches)

  -- a branch comes before the others
  branches_verdict-first : (names : Names) (branch : Elif) (rest : Otherwise) → branches_verdict functions (elif_of branch rest) place names ≡ (branches_verdict functions (elif_of branch no_else) place names >>= (λ after. branches_verdict functions rest place after))
  branches_verdict-first names branch rest =
      ap (λ branches. branches_verdict functions branches place names) (elif-end branch no_else rest) ∙ verdict-with_end (elif_of branch no_else) rest names (elif-open branch no_else tt)

  -- a branch without a fault is behind
  pub branch-read : (names after : Names) (branch : Elif) (rest : Otherwise) (whole : Verdict Names) → whole ≡ branches_verdict functions (elif_of branch rest) place names → branches_verdict functions (elif_of branch no_else) place names ≡ well after → whole ≡ branches_verdict functions rest place after
  branch-read names after branch rest whole is first =
      is ∙ branches_verdict-first names branch rest ∙ ap (λ v. v >>= (λ after. branches_verdict functions rest place after)) first

  -- the fault of a branch is that of all
  pub branch-faulted : (found : TypeFault) (names : Names) (branch : Elif) (rest : Otherwise) (whole : Verdict Names) → whole ≡ branches_verdict functions (elif_of branch rest) place names → branches_verdict functions (elif_of branch no_else) place names ≡ fault found.line found.kind → whole ≡ fault found.line found.kind
  branch-faulted found names branch rest whole is faulted =
      is ∙ branches_verdict-first names branch rest ∙ fault-then found (branches_verdict functions (elif_of branch no_else) place names) (λ after. branches_verdict functions rest place after) faulted

  -- a fault of a branch
  pub otherwise-faulted : (found : TypeFault) (names : Names) (branches : List Elif) (last : Option Block) → branches_verdict functions (branches_of branches None) place names ≡ fault found.line found.kind → branches_verdict functions (branches_of branches last) place names ≡ fault found.line found.kind
  otherwise-faulted found names branches last faulted =
      branches_verdict-else names branches last ∙ fault-then found (branches_verdict functions (branches_of branches None) place names) (λ after. branches_verdict functions (else_of (option_map block_of last)) place after) faulted

  -- what an `else` leaves behind branches without a fault
  pub otherwise-then : (r : Result ⊤ TypeFault) (left names after : Names) (branches : List Elif) (last : Option Block) → branches_verdict functions (branches_of branches None) place names ≡ well after → Leaves r left (branches_verdict functions (else_of (option_map block_of last)) place after) → Leaves r left (branches_verdict functions (branches_of branches last) place names)
  otherwise-then r left names after branches last front ends =
      leaves-same r left _ _ (sym (branches_verdict-else names branches last)) (leaves-then r left (branches_verdict functions (branches_of branches None) place names) after (λ names. branches_verdict functions (else_of (option_map block_of last)) place names) front ends)

  -- a fault of a branch of an `if`
  pub if-faulted : (found : TypeFault) (names one : Names) (condition : Expression) (body : Tree.Block) (branches : List Elif) (last : Option Block) → condition_verdict functions place names condition ≡ well tt → block_verdict functions body place names ≡ well one → branches_verdict functions (branches_of branches None) place one ≡ fault found.line found.kind → statement_verdict functions (if_then condition body (branches_of branches last)) place names ≡ fault found.line found.kind
  if-faulted found names one condition body branches last holds first faulted =
      ap (λ v. v >>= (λ a. block_verdict functions body place names >>= (λ after. branches_verdict functions (branches_of branches last) place after))) holds
      ∙ ap (λ v. v >>= (λ after. branches_verdict functions (branches_of branches last) place after)) first
      ∙ otherwise-faulted found one branches last faulted

  -- what the `else` of an `if` leaves
  pub if-then : (r : Result ⊤ TypeFault) (left names one two : Names) (condition : Expression) (body : Tree.Block) (branches : List Elif) (last : Option Block) → condition_verdict functions place names condition ≡ well tt → block_verdict functions body place names ≡ well one → branches_verdict functions (branches_of branches None) place one ≡ well two → Leaves r left (branches_verdict functions (else_of (option_map block_of last)) place two) → Leaves r left (statement_verdict functions (if_then condition body (branches_of branches last)) place names)
  if-then r left names one two condition body branches last holds first front ends =
      let later : Leaves r left (branches_verdict functions (branches_of branches last) place one) = otherwise-then r left one two branches last front ends in
      leaves-then r left (condition_verdict functions place names condition) tt (λ a. block_verdict functions body place names >>= (λ after. branches_verdict functions (branches_of branches last) place after)) holds (leaves-then r left (block_verdict functions body place names) one (λ after. branches_verdict functions (branches_of branches last) place after) first later)
