-- The outputs of one cycle more.
use Rattle.std.proofs.Common.{◌≡◌, ℕ, ◌+◌, ◌≤◌, Bool, true, false, List, [], ◌∷◌, ◌++◌, map, refl, ap, ◌∙◌, arith}
use Rattle.std.specs.Prelude.{ℤ, pos, negsuc, int_lt, filter, nat_lt, ◌&&◌, ◌||◌}
use Rattle.std.specs.Ordering.{int_eq}
use Rattle.std.proofs.lemmas.Bool.Decides.{nat_tests}
use Rattle.std.proofs.lemmas.List.{map-append}
use Rattle.rtio_types.specs.declared.event.Event.{Event}
use Rattle.rtio_types.specs.Time.{cycle_of, coarse_of, at_least_zero}
use Rattle.sed_lanes.proofs.Orders.{IsChain, IsInOrder, NoneBefore, sorted-in_order}
use Rattle.sed_lanes.specs.Judged.{Judged}
use Rattle.output_merge.specs.Live.{live}
use Rattle.output_merge.specs.Busy.{put_out}
use Rattle.output_merge.specs.Groups.{is_put_out_before, keepers, part_of, is_keeper}
use Rattle.output_merge.specs.Outputs.{outputs, put_out_by}
use Rattle.output_merge.proofs.Busies.{by-cycle-put_out}
use Rattle.output_merge.proofs.Histories.{AreFrom, AreByCycle, of_cycle, up_to-next}

-- a stamp that isn't less has no lesser cycle
cycle-order : (x y : ℤ) → int_lt y x ≡ false → at_least_zero (coarse_of x) ≤ at_least_zero (coarse_of y)
cycle-order (pos a) (pos b) h = let le : a ≤ b = grind (arith, nat_tests, h) in omega (arith, le)
cycle-order (pos a) (negsuc b) h = absurd (cc)
cycle-order (negsuc a) y h = omega arith

-- by a stamp and then by a channel
abbrev lex : ℤ → ℕ → ℤ → ℕ → Bool
lex x i y j = int_lt x y || (int_eq x y && nat_lt i j)

lex-chain : (x y z : ℤ) (i j k : ℕ) → lex y j x i ≡ false → lex z k y j ≡ false → lex z k x i ≡ false
lex-chain (pos a) (pos b) (pos c) i j k one two = grind (arith, nat_tests, one, two)
lex-chain (pos a) (pos b) (negsuc c) i j k one two = absurd (cc)
lex-chain (pos a) (negsuc b) z i j k one two = absurd (cc)
lex-chain (negsuc a) (pos b) (pos c) i j k one two = refl
lex-chain (negsuc a) (pos b) (negsuc c) i j k one two = absurd (cc)
lex-chain (negsuc a) (negsuc b) (pos c) i j k one two = refl
lex-chain (negsuc a) (negsuc b) (negsuc c) i j k one two = grind (arith, nat_tests, one, two)

lex-one_way : (x y : ℤ) (i j : ℕ) → lex x i y j ≡ true → lex y j x i ≡ false
lex-one_way (pos a) (pos b) i j h = grind (arith, nat_tests, h)
lex-one_way (pos a) (negsuc b) i j h = absurd (cc)
lex-one_way (negsuc a) (pos b) i j h = refl
lex-one_way (negsuc a) (negsuc b) i j h = grind (arith, nat_tests, h)

-- by stamp and channel is an order
pub put_out_order : IsChain is_put_out_before
put_out_order = record {
  chain = λ p q r one two. lex-chain p.1.stamp q.1.stamp r.1.stamp p.1.channel q.1.channel r.1.channel one two;
  one_way = λ p q h. lex-one_way p.1.stamp q.1.stamp p.1.channel q.1.channel h;
}

left-false : (a b : Bool) → (a || b) ≡ false → a ≡ false
left-false false b h = refl
left-false true b h = absurd (cc)

none-from : (p : ℕ × Event) (events : List (ℕ × Event)) → NoneBefore is_put_out_before p events → AreFrom (cycle_of p.1) events
none-from p [] none = tt
none-from p (q ∷ events) none = (cycle-order p.1.stamp q.1.stamp (left-false _ _ none.0), none-from p events none.1)

in-order-by-cycle : (events : List (ℕ × Event)) → IsInOrder is_put_out_before events → AreByCycle events
in-order-by-cycle [] order = tt
in-order-by-cycle (p ∷ events) order = (none-from p events order.0, in-order-by-cycle events order.1)

-- the keepers come by cycle
pub keepers-by-cycle : (events : List (ℕ × Event)) → AreByCycle (keepers events)
keepers-by-cycle events =
    in-order-by-cycle (keepers events) (sorted-in_order is_put_out_before put_out_order (filter (λ p. is_keeper (part_of events p)) events))

-- one cycle more puts out those of that cycle, behind all others
pub put_out-next : (holds : List ℕ) (judged : List Judged) (cycle : ℕ) → put_out_by holds judged (cycle + 1) ≡ put_out_by holds judged cycle ++ of_cycle (cycle + 1) (put_out holds (keepers (live judged)))
put_out-next holds judged cycle =
    let kept : List (ℕ × Event) = keepers (live judged) in
    up_to-next cycle (put_out holds kept) (by-cycle-put_out holds [] kept (keepers-by-cycle (live judged)))

pub outputs-next : (holds : List ℕ) (judged : List Judged) (cycle : ℕ) → outputs holds judged (cycle + 1) ≡ outputs holds judged cycle ++ map (λ p. p.1) (of_cycle (cycle + 1) (put_out holds (keepers (live judged))))
outputs-next holds judged cycle =
    ap (map (λ p. p.1)) (put_out-next holds judged cycle)
    ∙ map-append (λ p. p.1) (put_out_by holds judged cycle) (of_cycle (cycle + 1) (put_out holds (keepers (live judged))))
