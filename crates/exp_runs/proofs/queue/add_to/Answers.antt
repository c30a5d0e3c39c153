use Rattle.std.proofs.Common.{◌≡◌, ◌++◌, ◌∷◌, ℕ, Bool, true, cond, List, drop, take, ap, ◌∙◌, refl, sym, length, subst, []}
use Rattle.std.proofs.lemmas.Bool.{eq-eqb}
use Rattle.exp_runs.specs.declared.run.Run.{Run}
use Rattle.exp_runs.specs.Keys.{is_of}
use Rattle.std.specs.Prelude.{not}
use Rattle.std.specs.Result.{is_ok}
use Rattle.exp_runs.specs.Queues.{inserted, at_places}
use Rattle.exp_runs.proofs.Places.{queue_after-own}
use Rattle.exp_runs.proofs.queue.add_to.Goals as goal

from_cond : {X : Type 0} (b : Bool) (x y z : X) → b ≡ true → z ≡ cond b x y → z ≡ x
from_cond b x y z e h = h ∙ ap (λ c. cond c x y) e

pub returns-clause-queue : goal.returns-clause-queue
returns-clause-queue c =
    let fine : is_ok c.insert.result ≡ true = c.is_err-2.ensures.negation ∙ ap not c.if-is_err-2.false in
    let places = c.args.queue.now.places.items in
    let position = c.position_for-position.result in
    let runs = c.args.runs.now.items in
    let run = c.args.run in
    let at : c.len-place.result ≡ length runs = c.len-place.ensures ∙ sym c.deref.ensures.len ∙ ap length c.deref.ensures.value in
    let now : c.insert.new.self.items ≡ take position places ++ c.len-place.result ∷ drop position places = from_cond _ _ _ _ fine c.insert.ensures.items in
    let read : c.deref.result.now ≡ runs = c.deref.ensures.value in
    let placed : c.deref-2.result.now ≡ places = c.deref-2.ensures.value in
    let order : inserted run (at_places runs places) ≡ at_places runs (take position places) ++ run ∷ at_places runs (drop position places) =
    let P : List Run → Type 0 = λ rs. inserted run (at_places rs places) ≡ at_places rs (take position places) ++ run ∷ at_places rs (drop position places) in
    let Q : List ℕ → Type 0 = λ ps. inserted run (at_places c.deref.result.now ps) ≡ at_places c.deref.result.now (take position ps) ++ run ∷ at_places c.deref.result.now (drop position ps) in
    subst P read (subst Q placed c.position_for-position.ensures.order) in
    let own : is_of run.pipeline run ≡ true = eq-eqb run.pipeline run.pipeline refl in
    let pushed : c.push_reserved.new.self.items ≡ runs ++ run ∷ [] = c.push_reserved.ensures.items ∙ ap (λ rs. rs ++ run ∷ []) c.reserve.ensures.items in
    let done : c.insert.new.self.items ≡ take position places ++ length runs ∷ drop position places = now ∙ ap (λ n. take position places ++ n ∷ drop position places) at in
    rw (pushed, done) (queue_after-own runs run run.pipeline position places own c.requires order)
