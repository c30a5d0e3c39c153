-- A chair's acts with a session more.
use Rattle.std.proofs.Common.{◌≡◌, ℕ, List, [], ◌∷◌, ◌++◌, refl, ap, sym, ◌∙◌}
use Rattle.std.specs.Prelude.{None, map}
use Rattle.std.proofs.lemmas.List.{map-append}
use Rattle.std.proofs.lemmas.List.Elements.{All-push, filter_map-append}
use Rattle.rtio_core.specs.declared.data.Act.{Act}
use Rattle.rtio_core.specs.declared.data.Act.TheVariants.{Asked, End, Start}
use Rattle.rtio_core.specs.declared.data.Entry.{Entry}
use Rattle.rtio_core.specs.Booked.{booked_acts}
use Rattle.rtio_core.specs.Entries.{last_cursor}
use Rattle.desk_rule.specs.Histories.{acts_of, entries_by}
use Rattle.desk_rule.proofs.Prefixes.{acts_of-append, acts_of-own}
use Rattle.core_session.specs.Sessions.{Answered, asked_entry, entry_of}
use Rattle.lab_kernels.specs.Kernels.{KernelRun, session_entries}
use Rattle.lab_ties.specs.Acts.{core_acts}
use Rattle.lab_ties.specs.Laws.{TiesGrow}
use Rattle.lab_ties.specs.Steps.{IsKernelStep}
use Rattle.lab_ties.specs.Ties.{report_of, report_on, reports_of, step_begun, step_of, steps_begun}

abbrev asked_act : Answered → Act
asked_act a = Asked a.request a.reply a.at

-- the entries of a session are its chair's
by-chair : (chair : ℕ) (asked : List Answered) (end : Act)
    → booked_acts (map (asked_entry chair) asked ++ entry_of chair end ∷ []) ≡ entries_by chair (map asked_act asked ++ end ∷ [])
by-chair chair [] end = refl
by-chair chair (a ∷ rest) end = ap (λ (es : List (ℕ × Act)). (chair, asked_act a) ∷ es) (by-chair chair rest end)

none-begun : (asked : List Answered) (end : Act) → step_begun end ≡ None → steps_begun (map asked_act asked ++ end ∷ []) ≡ []
none-begun [] end is = rw is refl
none-begun (a ∷ rest) end is = none-begun rest end is

-- they begin its step, and no other
session-begun : (chair : ℕ) (before : List Entry) (k : KernelRun) → steps_begun (core_acts chair (session_entries chair before k)) ≡ step_of k ∷ []
session-begun chair before k =
    let end : Act = End k.how k.cursor k.ended in
    let start : Act = Start k.of (last_cursor before) k.started in
    ap (λ (es : List (ℕ × Act)). steps_begun (acts_of chair ((chair, start) ∷ es))) (by-chair chair k.asked end)
    ∙ ap steps_begun (acts_of-own chair (start ∷ (map asked_act k.asked ++ end ∷ [])))
    ∙ ap (λ (xs : List (ℕ × ℕ)). step_of k ∷ xs) (none-begun k.asked end refl)

pub acts-append : (chair : ℕ) (front back : List Entry) → core_acts chair (front ++ back) ≡ core_acts chair front ++ core_acts chair back
acts-append chair front back =
    ap (acts_of chair) (map-append (λ (entry : Entry). (entry.chair, entry.act)) front back)
    ∙ acts_of-append chair (booked_acts front) (booked_acts back)

pub ties-grow : TiesGrow
ties-grow session pipeline config chair sched reports more history now k t is one step = record {
  done = t.done ++ k ∷ [];
  begun =
      ap (λ (h : List Entry). steps_begun (core_acts chair h)) is
      ∙ ap steps_begun (acts-append chair history (session_entries chair history k))
      ∙ filter_map-append step_begun (core_acts chair history) (core_acts chair (session_entries chair history k))
      ∙ ap (λ (xs : List (ℕ × ℕ)). steps_begun (core_acts chair history) ++ xs) (session-begun chair history k)
      ∙ ap (λ (xs : List (ℕ × ℕ)). xs ++ step_of k ∷ []) t.begun
      ∙ sym (map-append step_of t.done (k ∷ []));
  told =
      filter_map-append (report_of pipeline) reports more
      ∙ ap (λ xs. reports_of pipeline reports ++ xs) one
      ∙ ap (λ xs. xs ++ report_on k ∷ []) t.told
      ∙ sym (map-append report_on t.done (k ∷ []));
  right = All-push (IsKernelStep session config sched pipeline chair now) t.done k t.right step;
}
