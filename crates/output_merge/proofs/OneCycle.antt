-- The keepers of one cycle are those of the events of that cycle alone.
use Rattle.std.proofs.Common.{◌≡◌, ℕ, Bool, true, false, List, [], ◌∷◌, refl, ap, ◌∙◌, sym, cond}
use Rattle.std.specs.Prelude.{filter, ◌==◌, ◌&&◌}
use Rattle.std.proofs.lemmas.Bool.{eqb-true}
use Rattle.rtio_types.specs.declared.event.Event.{Event}
use Rattle.rtio_types.specs.Time.{cycle_of}
use Rattle.sed_lanes.specs.Sorting.{sorted}
use Rattle.sed_lanes.proofs.Orders.{filter-sorted}
use Rattle.output_merge.specs.Groups.{is_put_out_before, group_of, part_in, part_of, is_keeper, keepers}
use Rattle.output_merge.proofs.Histories.{filter-within, of_cycle}
use Rattle.output_merge.proofs.Cycles.{put_out_order}

swap-at : {X : Type 0} (test one other : X → Bool) (x : X) (xs : List X) (t k : Bool) → test x ≡ t → one x ≡ k → (t ≡ true → other x ≡ k) → filter test (filter one xs) ≡ filter other (filter test xs) → filter test (cond k (x ∷ filter one xs) (filter one xs)) ≡ filter other (cond t (x ∷ filter test xs) (filter test xs))
swap-at test one other x xs true true is_test is_one same ih = rw (is_test, same refl) (ap (λ ys. x ∷ ys) ih)
swap-at test one other x xs true false is_test is_one same ih = rw (same refl) ih
swap-at test one other x xs false true is_test is_one same ih = rw is_test ih
swap-at test one other x xs false false is_test is_one same ih = ih

-- two filters in either order, where the second agrees on what passes the first
pub filter-swap : {X : Type 0} (test one other : X → Bool) (xs : List X) → ((x : X) → test x ≡ true → other x ≡ one x) → filter test (filter one xs) ≡ filter other (filter test xs)
filter-swap test one other [] same = refl
filter-swap test one other (x ∷ xs) same = swap-at test one other x xs (test x) (one x) refl refl (same x) (filter-swap test one other xs same)

right-true : (a b : Bool) → (a && b) ≡ true → b ≡ true
right-true true b h = h
right-true false b h = absurd (cc)

-- a group lies within its cycle
group-of_cycle : (cycle : ℕ) (e : Event) (events : List (ℕ × Event)) → cycle_of e ≡ cycle → group_of e (of_cycle cycle events) ≡ group_of e events
group-of_cycle cycle e events is =
    filter-within (λ p. (p.1.channel == e.channel) && (cycle_of p.1 == cycle_of e)) (λ p. cycle_of p.1 == cycle) events
    (λ p in_group. ap (λ n. cycle_of p.1 == n) (sym is) ∙ right-true (p.1.channel == e.channel) (cycle_of p.1 == cycle_of e) in_group)

-- what is put out in a cycle depends on the events of the cycle alone
pub keepers-of_cycle : (cycle : ℕ) (events : List (ℕ × Event)) → of_cycle cycle (keepers events) ≡ keepers (of_cycle cycle events)
keepers-of_cycle cycle events =
    filter-sorted is_put_out_before put_out_order (λ p. cycle_of p.1 == cycle) (filter (λ p. is_keeper (part_of events p)) events)
    ∙ ap (sorted is_put_out_before)
    (filter-swap (λ p. cycle_of p.1 == cycle) (λ p. is_keeper (part_of events p)) (λ p. is_keeper (part_of (of_cycle cycle events) p)) events
    (λ p is. ap (λ group. is_keeper (part_in group p)) (group-of_cycle cycle p.1 events (eqb-true (cycle_of p.1) cycle is))))
