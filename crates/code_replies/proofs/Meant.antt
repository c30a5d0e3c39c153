-- Where the replies of a run fit the requests that it made, they fit those of the meaning too: reply by reply.
use Rattle.std.proofs.Common.{◌≡◌, ◌≢◌, ℕ, suc, zero, ◌+◌, ◌<◌, List, [], ◌∷◌, ◌++◌, length, slice_get, Some, refl, sym, ap, ◌∙◌, subst, arith, append_assoc, append-nil, length-append}
use Rattle.std.specs.Prelude.{ℤ, FitsSigned, Bool, true, false, is_some}
use Rattle.std.specs.Int.{w64}
use Rattle.std.proofs.lemmas.Bool.{false≢true}
use Rattle.std.proofs.lemmas.Option.{slice_get_within}
use Rattle.rtio_types.specs.declared.request.Request.{Request}
use Rattle.rtio_types.specs.declared.request.Reply.{Reply}
use Rattle.kern_syntax.specs.Tree.{FunctionTree, ProgramTree}
use Rattle.kern_arguments.specs.Fitting.{ArgumentsFit}
use Rattle.timeline_sem.specs.declared.meant.MeantOutcome.{MeantOutcome}
use Rattle.timeline_sem.specs.declared.meant.MeantOutcome.TheVariants as M
use Rattle.timeline_sem.specs.Programs.{Meaning, meaning}
use Rattle.timeline_sem.proofs.ExtendsWhole.{replies_extend_meanings}
use Rattle.timeline_sem.proofs.RepliesTaken.{each_takes_a_reply}
use Rattle.core_isa.specs.declared.code.Code.{Code}
use Rattle.core_isa.specs.Runs.{Ran, Runs}
use Rattle.core_isa.specs.WellAsked.{RepliesFit}
use Rattle.core_isa.proofs.Ending.{has_one_run}
use Rattle.code_follows.specs.Lawful.{IsLawfulStart, ran_as}
use Rattle.code_follows.specs.Stands.{AllNumbersFit}
use Rattle.code_follows.proofs.Lists.{get_front}
use Rattle.code_law.specs.DoesAs.{DoesAs}
use Rattle.code_replies.specs.Laws.{RunsAreMeant}
use Rattle.code_replies.proofs.Runs.{replies_extend_runs}

-- what stands in the front part of a list
get_shorter : {A : Type 0} (a b : List A) (k : ℕ) (x : A) → k < length a → slice_get (a ++ b) k ≡ Some x → slice_get a k ≡ Some x
get_shorter [] b k x less e = absurd (omega (arith, less))
get_shorter (y ∷ a) b zero x less e = e
get_shorter (y ∷ a) b (suc k) x less e = get_shorter a b k x (omega (arith, less)) e

numbers_front : (a b : List Reply) → AllNumbersFit (a ++ b) → AllNumbersFit a
numbers_front [] b n = tt
numbers_front (r ∷ a) b n = (n.0, numbers_front a b n.1)

-- the request for which no reply was left
abbrev is_unanswered : MeantOutcome → Bool
is_unanswered M.Unanswered = true
is_unanswered outcome = false

module _ (program : ProgramTree) (code : Code) (does : DoesAs program code) (f : FunctionTree) (function : ℕ) (args : List ℤ) (cursor : ℤ) (units : ℕ) (replies : List Reply) (ran : Ran) (found : slice_get program function ≡ Some f) (arguments : ArgumentsFit f.parameters args) (fits64 : FitsSigned w64 cursor) (numbers : AllNumbersFit replies) (runs : Runs code function args cursor units replies ran) (fit : RepliesFit ran.requests replies) where
  abbrev meant : List Reply → Meaning
  meant done = meaning program function args cursor units done

  -- a request that is there under one reply more is there under those before it, as long as it has a reply
  there_before : (done : List Reply) (r : Reply) (k : ℕ) (request : Request) → k < length done + 1 → slice_get (meant (done ++ r ∷ [])).requests k ≡ Some request → slice_get (meant done).requests k ≡ Some request
  there_before done r k request less there = by_outcome (meant done).outcome refl
    where
      stays : (meant done).outcome ≢ M.Unanswered → slice_get (meant done).requests k ≡ Some request
      stays isnt =
          let same = (replies_extend_meanings program function args cursor units done (r ∷ [])).ended isnt in
          subst (λ (m : Meaning). slice_get m.requests k ≡ Some request) same there

      isnt_so : (o : MeantOutcome) → (meant done).outcome ≡ o → is_unanswered o ≡ false → (meant done).outcome ≢ M.Unanswered
      isnt_so o e other q = false≢true (sym other ∙ ap is_unanswered (sym e ∙ q))

      by_outcome : (o : MeantOutcome) → (meant done).outcome ≡ o → slice_get (meant done).requests k ≡ Some request
      by_outcome M.Returned e = stays (isnt_so M.Returned e refl)
      by_outcome (M.Raised x) e = stays (isnt_so (M.Raised x) e refl)
      by_outcome M.Budget e = stays (isnt_so M.Budget e refl)
      by_outcome M.Unanswered e =
          let longer = (replies_extend_meanings program function args cursor units done (r ∷ [])).asked in
          let long = (each_takes_a_reply program function args cursor units done).lacking.0 e in
          get_shorter (meant done).requests longer.0 k request (omega (arith, long, less)) (subst (λ l. slice_get l k ≡ Some request) longer.1 there)

  one_further : (done : List Reply) (r : Reply) (rest : List Reply) → done ++ (r ∷ rest) ≡ replies → RepliesFit (meant done).requests done → RepliesFit (meant (done ++ r ∷ [])).requests (done ++ r ∷ [])
  one_further done r rest whole fits k request reply asked given =
      let start : IsLawfulStart program f function args cursor units done =
      record {
        found = found;
        arguments = arguments;
        cursor_fits = fits64;
        numbers = numbers_front done (r ∷ rest) (subst AllNumbersFit (sym whole) numbers);
        replies_fit = fits;
      } in
      let run = does.agrees f function args cursor units done start in
      let longer = replies_extend_runs code function args cursor units done (r ∷ rest) (ran_as (meant done) run.0) ran run.1 (subst (λ rs. Runs code function args cursor units rs ran) (sym whole) runs) in
      let within = slice_get_within (done ++ r ∷ []) k reply given in
      let mine = there_before done r k request (omega (arith, within, length-append done (r ∷ []))) asked in
      let ours : slice_get ran.requests k ≡ Some request = subst (λ l. slice_get l k ≡ Some request) (sym longer.asked.1) (get_front (meant done).requests longer.asked.0 k request mine) in
      let theirs : slice_get replies k ≡ Some reply = subst (λ l. slice_get l k ≡ Some reply) (append_assoc done (r ∷ []) rest ∙ whole) (get_front (done ++ r ∷ []) rest k reply given) in
      fit k request reply ours theirs

  all_fit : (rest done : List Reply) → done ++ rest ≡ replies → RepliesFit (meant done).requests done → RepliesFit (meant replies).requests replies
  all_fit [] done whole fits = subst (λ rs. RepliesFit (meant rs).requests rs) (sym (append-nil done) ∙ whole) fits
  all_fit (r ∷ rest) done whole fits = all_fit rest (done ++ r ∷ []) (append_assoc done (r ∷ []) rest ∙ whole) (one_further done r rest whole fits)

  abbrev no_replies : List Reply
  no_replies = []

  none_given : (k : ℕ) (reply : Reply) → slice_get no_replies k ≡ Some reply → ⊥
  none_given k reply e = false≢true (ap is_some e)

  is_meant : ran ≡ ran_as (meant replies) ran.count
  is_meant =
      let fits = all_fit replies no_replies refl (λ k request reply asked given. absurd (none_given k reply given)) in
      let run = does.agrees f function args cursor units replies (record { found = found; arguments = arguments; cursor_fits = fits64; numbers = numbers; replies_fit = fits }) in
      let same = has_one_run code function args cursor units replies ran (ran_as (meant replies) run.0) runs run.1 in
      same ∙ ap (ran_as (meant replies)) (sym (ap (λ (x : Ran). x.count) same))

pub runs_are_meant : (program : ProgramTree) (code : Code) → DoesAs program code → RunsAreMeant program code
runs_are_meant program code does f function args cursor units replies ran found arguments fits64 numbers runs fit =
    is_meant program code does f function args cursor units replies ran found arguments fits64 numbers runs fit
