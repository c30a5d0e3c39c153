-- The outputs of a history, entry by entry: each stands at its number, and those that were carried out were submitted.
use Rattle.std.proofs.Common.{◌≡◌, ℕ, ◌+◌, ◌<◌, List, [], ◌∷◌, ◌++◌, refl, sym, ap, subst, ◌∙◌, append_assoc, append-nil, length, get_or, take, arith}
use Rattle.std.specs.Prelude.{map, option_to_list, if◌then◌else◌, Option}
use Rattle.std.proofs.lemmas.List.{length-append, length-map, map-append, take_more}
use Rattle.std.proofs.lemmas.List.Sums.{sum_by-cons, sum_by_push}
use Rattle.rtio_types.specs.declared.event.Event.{Event}
use Rattle.rtio_types.specs.declared.request.Reply.{Reply}
use Rattle.rtio_types.specs.declared.request.Reply.TheVariants as answer
use Rattle.rtio_types.specs.declared.request.Request.TheVariants as ask
use Rattle.rtio_core.specs.declared.data.Act.{Act}
use Rattle.rtio_core.specs.declared.data.Act.TheVariants.{Asked}
use Rattle.rtio_core.specs.declared.data.Entry.{Entry}
use Rattle.rtio_headline.specs.Headline.{done_output, is_output_act, outputs_asked, submitted_behind}
use Rattle.trace_fates.specs.declared.data.TracedOutput.{TracedOutput}
use Rattle.trace_fates.specs.Asked.{AskedOutput, output_by, outputs_behind, outputs_of}
use Rattle.trace_fates.specs.Passes.{AreNumberedFrom, asked_output}

-- ---- how many there are

count_act : (n : ℕ) (act : Act) → length (output_by n act) ≡ (if is_output_act act then 1 else 0)
count_act n (Asked (ask.Out e) reply at) = refl
count_act n act = refl

-- as many as were asked
length_behind : (before rest : List Entry) → length (outputs_behind before rest) ≡ outputs_asked rest
length_behind before [] = refl
length_behind before (entry ∷ rest) =
    length-append (output_by (outputs_asked before) entry.act) (outputs_behind (before ++ entry ∷ []) rest)
    ∙ omega (arith, count_act (outputs_asked before) entry.act, length_behind (before ++ entry ∷ []) rest, sum_by-cons (λ (x : Entry). if is_output_act x.act then 1 else 0) entry rest)

-- ---- one entry more

behind_push : (before xs : List Entry) (entry : Entry) → outputs_behind before (xs ++ entry ∷ []) ≡ outputs_behind before xs ++ output_by (outputs_asked (before ++ xs)) entry.act
behind_push before [] entry =
    append-nil (output_by (outputs_asked before) entry.act)
    ∙ ap (λ (h : List Entry). output_by (outputs_asked h) entry.act) (sym (append-nil before))
behind_push before (x ∷ xs) entry =
    ap (λ (as' : List AskedOutput). output_by (outputs_asked before) x.act ++ as') (behind_push (before ++ x ∷ []) xs entry)
    ∙ ap (λ (h : List Entry). output_by (outputs_asked before) x.act ++ (outputs_behind (before ++ x ∷ []) xs ++ output_by (outputs_asked h) entry.act)) (append_assoc before (x ∷ []) xs)
    ∙ sym (append_assoc (output_by (outputs_asked before) x.act) (outputs_behind (before ++ x ∷ []) xs) (output_by (outputs_asked (before ++ x ∷ xs)) entry.act))

pub asked_more : (counter n : ℕ) (history : List Entry) (i : ℕ) (entry : Entry) (items : List TracedOutput) (output : Option TracedOutput)
    → i < length history → entry ≡ get_or history i entry → n ≡ length items
    → items ≡ map (asked_output counter) (outputs_of (take i history))
    → option_to_list output ≡ map (asked_output counter) (output_by n entry.act)
    → items ++ option_to_list output ≡ map (asked_output counter) (outputs_of (take (i + 1) history))
asked_more counter n history i entry items output lt is count so_far one =
    let number : n ≡ outputs_asked (take i history) =
    count ∙ ap length so_far ∙ length-map (outputs_of (take i history)) (asked_output counter) ∙ length_behind [] (take i history) in
    ap (λ (xs : List TracedOutput). xs ++ option_to_list output) so_far
    ∙ ap (λ (xs : List TracedOutput). map (asked_output counter) (outputs_of (take i history)) ++ xs)
    (one ∙ ap (λ (k : ℕ). map (asked_output counter) (output_by k entry.act)) number)
    ∙ sym (map-append (asked_output counter) (outputs_of (take i history)) (output_by (outputs_asked (take i history)) entry.act))
    ∙ ap (map (asked_output counter)) (sym (behind_push [] (take i history) entry))
    ∙ ap (λ (h : List Entry). map (asked_output counter) (outputs_of h)) (sym (take_more history i entry lt ∙ ap (λ (x : Entry). take i history ++ x ∷ []) (sym is)))

-- ---- each stands at its number

numbered_act : (counter n m : ℕ) (act : Act) (rest : List AskedOutput) → m ≡ n + (if is_output_act act then 1 else 0)
    → AreNumberedFrom m (map (asked_output counter) rest)
    → AreNumberedFrom n (map (asked_output counter) (output_by n act ++ rest))
numbered_act counter n m (Asked (ask.Out e) reply at) rest is h = (refl, subst (λ (k : ℕ). AreNumberedFrom k (map (asked_output counter) rest)) is h)
numbered_act counter n m act rest is h = subst (λ (k : ℕ). AreNumberedFrom k (map (asked_output counter) rest)) (is ∙ omega arith) h

numbered_behind : (counter : ℕ) (before rest : List Entry) → AreNumberedFrom (outputs_asked before) (map (asked_output counter) (outputs_behind before rest))
numbered_behind counter before [] = tt
numbered_behind counter before (entry ∷ rest) =
    numbered_act counter (outputs_asked before) (outputs_asked (before ++ entry ∷ [])) entry.act (outputs_behind (before ++ entry ∷ []) rest)
    (sum_by_push _ before entry)
    (numbered_behind counter (before ++ entry ∷ []) rest)

pub numbered_of : (counter : ℕ) (history : List Entry) → AreNumberedFrom 0 (map (asked_output counter) (outputs_of history))
numbered_of counter history = numbered_behind counter [] history

-- ---- those that were carried out

abbrev pub done_by : Reply → ℕ × Event → List (ℕ × Event)
done_by answer.Done p = p ∷ []
done_by reply p = []

abbrev pub done_in : List AskedOutput → List (ℕ × Event)
done_in [] = []
done_in (a ∷ rest) = done_by a.reply a.own ++ done_in rest

done_reply : (n : ℕ) (e : Event) (reply : Reply) (at : ℕ) → done_by reply (n, e) ≡ done_output n (Asked (ask.Out e) reply at)
done_reply n e answer.Done at = refl
done_reply n e reply at = refl

done_act : (n : ℕ) (act : Act) (rest : List AskedOutput) → done_in (output_by n act ++ rest) ≡ done_output n act ++ done_in rest
done_act n (Asked (ask.Out e) reply at) rest = ap (λ (ps : List (ℕ × Event)). ps ++ done_in rest) (done_reply n e reply at)
done_act n act rest = refl

pub submitted_done : (before rest : List Entry) → submitted_behind before rest ≡ done_in (outputs_behind before rest)
submitted_done before [] = refl
submitted_done before (entry ∷ rest) =
    ap (λ (ps : List (ℕ × Event)). done_output (outputs_asked before) entry.act ++ ps) (submitted_done (before ++ entry ∷ []) rest)
    ∙ sym (done_act (outputs_asked before) entry.act (outputs_behind (before ++ entry ∷ []) rest))
