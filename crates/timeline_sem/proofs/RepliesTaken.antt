-- Each request takes a reply, and a part that finds none left ends with its request.
use Rattle.std.proofs.Common.{◌≡◌, ◌≢◌, ℕ, ◌+◌, ◌≤◌, List, [], ◌∷◌, ◌++◌, length, refl, ap, arith, length-append}
use Rattle.std.specs.Prelude.{slice_get, ℤ}
use Rattle.rtio_types.specs.declared.request.Request.{Request}
use Rattle.rtio_types.specs.declared.request.Reply.{Reply}
use Rattle.kern_syntax.specs.Tree.{ProgramTree}
use Rattle.timeline_sem.specs.declared.meant.MeantOutcome.TheVariants as M
use Rattle.timeline_sem.specs.Actions.{State, break, continue, return, raised, budget, unanswered, Completion, normal, early}
use Rattle.timeline_sem.specs.Laws.{TakesReplies, EachRequestTakesAReply}
use Rattle.timeline_sem.specs.Programs.{Meaning, meaning_of, opening, call_room, function_call}
use Rattle.timeline_sem.proofs.Keeps.{IsKept, Kept}
use Rattle.timeline_sem.proofs.KeepsWhole.{keeps_body, keeps_function_call}

-- as many requests are added as replies are taken
pub record Taken (s s' : State) : Type 0 where
  pub total : length s'.asked + length s'.replies ≡ length s.asked + length s.replies
  pub added : length s.asked ≤ length s'.asked

-- one request more than there were replies left
pub record Lacked (s s' : State) : Type 0 where
  pub none : length s'.replies ≡ 0
  pub total : length s'.asked ≡ length s.asked + length s.replies + 1

-- one request more
pub asked_one : (asked : List Request) (q : Request) → length (asked ++ q ∷ []) ≡ length asked + 1
asked_one asked q = length-append asked (q ∷ [])

taken_reply : (s : State) (n : ℕ) (q : Request) (r : Reply) (rest : List Reply) → s.replies ≡ r ∷ rest → Taken s (record s { units = n; asked = s.asked ++ q ∷ []; replies = rest })
taken_reply s n q r rest e =
    let one = asked_one s.asked q in
    let left = ap length e in
    record { total = omega arith; added = omega arith }

lacked_reply : (s : State) (n : ℕ) (q : Request) → s.replies ≡ [] → Lacked s (record s { units = n; asked = s.asked ++ q ∷ [] })
lacked_reply s n q e =
    let one = asked_one s.asked q in
    let left = ap length e in
    record { none = omega arith; total = omega arith }

-- a change of anything else
unchanged : (s s' : State) → s'.asked ≡ s.asked → s'.replies ≡ s.replies → Taken s s'
unchanged s s' e f =
    let asked = ap length e in
    let left = ap length f in
    record { total = omega arith; added = omega arith }

taken : IsKept Taken Lacked
taken =
    record {
      same = λ s. unchanged s s refl refl;
      then' = λ r q. record { total = omega arith; added = omega arith };
      then_lacking = λ r q. record { none = omega arith; total = omega arith };
      lacking_then = λ r q. record { none = omega arith; total = omega arith };
      units = λ s n e. unchanged s _ refl refl;
      reply = λ s n q r rest u e. taken_reply s n q r rest e;
      unanswered = λ s n q u e. lacked_reply s n q e;
      cursor = λ s t. unchanged s _ refl refl;
      values = λ s v. unchanged s _ refl refl;
      collected = λ s c. unchanged s _ refl refl;
    }

-- an end with another outcome than Unanswered has at most as many requests as there were replies
answered : (replies : List Reply) (meant : Meaning) → meant.outcome ≢ M.Unanswered → length meant.requests ≤ length replies → TakesReplies replies meant
answered replies meant other few =
    record {
      lacking = ((λ is. absurd (other is)), (λ more. absurd (omega arith)));
      enough = λ not. few;
    }

few_of : (cursor : ℤ) (units : ℕ) (replies : List Reply) (s : State) → Taken (opening cursor units replies) s → length s.asked ≤ length replies
few_of cursor units replies s k =
    let total = k.total in
    omega arith

one_more_of : (cursor : ℤ) (units : ℕ) (replies : List Reply) (s : State) → Lacked (opening cursor units replies) s → length s.asked ≡ length replies + 1
one_more_of cursor units replies s k =
    let total = k.total in
    omega arith

replies_taken : (cursor : ℤ) (units : ℕ) (replies : List Reply) (c : Completion ℤ) → Kept Taken Lacked (opening cursor units replies) c → TakesReplies replies (meaning_of c)
replies_taken cursor units replies (normal v s) k =
    answered replies _ (λ e. cc) (few_of cursor units replies s k)
replies_taken cursor units replies (early break s) k = answered replies _ (λ e. cc) (few_of cursor units replies s k)
replies_taken cursor units replies (early continue s) k =
    answered replies _ (λ e. cc) (few_of cursor units replies s k)
replies_taken cursor units replies (early (return v) s) k =
    answered replies _ (λ e. cc) (few_of cursor units replies s k)
replies_taken cursor units replies (early (raised x) s) k =
    answered replies _ (λ e. cc) (few_of cursor units replies s k)
replies_taken cursor units replies (early budget s) k =
    answered replies _ (λ e. cc) (few_of cursor units replies s k)
replies_taken cursor units replies (early unanswered s) k =
    record {
      lacking = ((λ is. one_more_of cursor units replies s k), (λ more. refl));
      enough = λ not. absurd (not refl);
    }

-- each request of a meaning takes a reply
pub each_takes_a_reply : (program : ProgramTree) → EachRequestTakesAReply program
each_takes_a_reply program function args cursor units replies =
    replies_taken cursor units replies _ ((keeps_body Taken Lacked taken program (function_call program call_room) (keeps_function_call Taken Lacked taken program call_room) (slice_get program function) args).from (opening cursor units replies))
