-- What a caller's own change of the value comes to, as contracts see the chair.
use Rattle.std.proofs.Common.{◌≡◌, ℕ, List, ◌++◌, length, drop, sym, ap, ◌∙◌, subst}
use Rattle.desk_rule.specs.Histories.{acts_of, entries_by, Grew}
use Rattle.desk_rule.proofs.Prefixes.{drop_front, acts_of-own}
use Rattle.desk.specs.Seated.{Seated, holding, losing, Puts}

-- what a put adds to the chair's own acts, where it is known what it added to the history
pub puts_own : {A F : Type 0} (c d : Seated A F) (log : List (ℕ × A)) (acts : List A) → Puts c log d → log ≡ c.seen ++ entries_by c.number acts → d.own ≡ c.own ++ acts
puts_own {A} c d log acts p is =
    let acts_after : List (ℕ × A) → List A = λ l. acts_of c.number (drop (length c.seen) l) in
    let read : (bs : List A) → acts_after (c.seen ++ entries_by c.number bs) ≡ bs = λ bs. ap (acts_of c.number) (drop_front c.seen (entries_by c.number bs)) ∙ acts_of-own c.number bs in
    let same : p.0 ≡ acts = sym (read p.0) ∙ (ap acts_after (sym p.1 ∙ is) ∙ read acts) in
    ap (λ x. x.own) p.2 ∙ ap (λ (bs : List A). c.own ++ bs) same

-- what `put` asks of the history, from what the caller's own change of the value says
pub grew_held : {A F : Type 0} (c d : Seated A F) (lost : List ℕ) (log now : List (ℕ × A)) → d ≡ holding (losing c lost) log → Grew c.number log now → Grew d.number d.seen now
grew_held {A} {F} c d lost log now is grew = subst (λ (x : Seated A F). Grew x.number x.seen now) (sym is) grew
