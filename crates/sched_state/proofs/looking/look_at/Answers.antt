use Rattle.std.proofs.Common.{◌≡◌, List, [], ◌∷◌, arith, drop, length, refl, rules, sym, ◌∙◌}
use Rattle.std.specs.Prelude.{vec_len}
use Rattle.std.proofs.lemmas.Bool.{eqb-true}
use Rattle.sched_state.proofs.looking.look_at.Goals as goal

no-items : {X : Type 0} (xs : List X) → length xs ≡ 0 → xs ≡ []
no-items [] h = refl
no-items (x ∷ xs) h = absurd (omega (arith, h))

pub returns-then-is_all_over : goal.returns-then-is_all_over
returns-then-is_all_over c = λ session datasets e. sym (c.is_all_over.ensures datasets) ∙ c.if-is_all_over.true

pub returns-in-Some : goal.returns-in-Some
returns-in-Some c = λ session datasets e.
    (sym (c.is_all_over.ensures datasets) ∙ c.if-is_all_over.false, sym (c.job_due.ensures session (drop c.args.board.now.taken c.args.arrivals.now) datasets e) ∙ c.in-Some.is)

pub returns-then-not-is_empty : goal.returns-then-not-is_empty
returns-then-not-is_empty c = λ session datasets e.
    (sym (c.is_all_over.ensures datasets) ∙ c.if-is_all_over.false, sym (c.job_due.ensures session (drop c.args.board.now.taken c.args.arrivals.now) datasets e) ∙ c.in_default.is, λ empty. search rules)

pub returns-in-Some-date_after : goal.returns-in-Some-date_after
returns-in-Some-date_after c = λ session datasets e.
    (sym (c.is_all_over.ensures datasets) ∙ c.if-is_all_over.false, sym (c.job_due.ensures session (drop c.args.board.now.taken c.args.arrivals.now) datasets e) ∙ c.in_default.is, no-items c.args.board.now.flying.items (let none : vec_len c.args.board.now.flying ≡ 0 = eqb-true (vec_len c.args.board.now.flying) 0 (sym c.is_empty.ensures ∙ c.if-not-is_empty.false) in omega (arith, none, c.args.board.now.flying.ok.0)), sym (c.date_after.ensures datasets) ∙ c.in-Some-date_after.is)

pub returns-in-None : goal.returns-in-None
returns-in-None c = λ session datasets e.
    (sym (c.is_all_over.ensures datasets) ∙ c.if-is_all_over.false, sym (c.job_due.ensures session (drop c.args.board.now.taken c.args.arrivals.now) datasets e) ∙ c.in_default.is, no-items c.args.board.now.flying.items (let none : vec_len c.args.board.now.flying ≡ 0 = eqb-true (vec_len c.args.board.now.flying) 0 (sym c.is_empty.ensures ∙ c.if-not-is_empty.false) in omega (arith, none, c.args.board.now.flying.ok.0)), sym (c.date_after.ensures datasets) ∙ c.in-None.is)
