-- Where the code of a statement stands: its mark, and the loop round it.
use Rattle.std.proofs.Common.{◌≡◌, ℕ, ◌+◌, ◌≤◌, sym, arith}
use Rattle.std.specs.Prelude.{Bool, true, false}
use Rattle.std.proofs.lemmas.Bool.{false≢true}
use Rattle.core_isa.specs.declared.code.Code.{Code}
use Rattle.core_isa.specs.declared.code.CodeFunction.{CodeFunction}
use Rattle.core_isa.specs.declared.code.Mark.{Mark}
use Rattle.code_forms.specs.Lines.{with_handler, with_recording}
use Rattle.code_forms.specs.StatementCode.{Inside, keeping, in_loop, under}
use Rattle.code_marks.proofs.Held.{IsOutside}
use Rattle.code_marks.proofs.Parts.{HasMark}

-- the mark where the loop round a statement goes on, or ends
abbrev pub loop_mark : Inside → Mark
loop_mark inside = record inside.mark { tries = inside.loop.tries }

-- the loop goes on and ends at places of the function behind a part, with the handlers that there were before it
pub record InLoop (code : Code) (k : ℕ) (inside : Inside) (end : ℕ) : Type 0 where
  pub again : HasMark code k inside.loop.again (loop_mark inside)
  pub past : HasMark code k inside.loop.past (loop_mark inside)
  pub fewer : inside.loop.tries ≤ inside.mark.tries
  pub opened : inside.mark.rec ≤ inside.loop.tries + 1
  pub ahead : end ≤ inside.loop.again
  pub behind : end ≤ inside.loop.past

-- no operands lie below a statement; l, r and d are whether a loop's statement or a `return` may stand here, and whether a
-- recording may be open; the part ends at a place
pub record Placed (code : Code) (k : ℕ) (f : CodeFunction) (l r d : Bool) (inside : Inside) (end : ℕ) : Type 0 where
  pub bare : inside.mark.height ≡ 0
  pub outside : IsOutside f d inside.mark
  pub may_return : r ≡ true → inside.mark.rec ≡ 0
  pub bounded : inside.mark.rec ≤ inside.mark.tries + 1
  pub loop : l ≡ true → InLoop code k inside end

module _ (code : Code) (k : ℕ) (f : CodeFunction) where
  -- a part that ends earlier
  pub earlier : (l r d : Bool) (inside : Inside) (end end' : ℕ) → end' ≤ end → Placed code k f l r d inside end → Placed code k f l r d inside end'
  earlier l r d inside end end' less g =
      record {
        bare = g.bare;
        outside = g.outside;
        may_return = g.may_return;
        bounded = g.bounded;
        loop = λ e. let i = g.loop e in record { again = i.again; past = i.past; fewer = i.fewer; opened = i.opened; ahead = omega (arith, less, i.ahead); behind = omega (arith, less, i.behind) };
      }

  pub with_slots : (n : ℕ) (l r d : Bool) (inside : Inside) (end : ℕ) → Placed code k f l r d inside end → Placed code k f l r d (keeping n inside) end
  with_slots n l r d inside end g =
      record {
        bare = g.bare;
        outside = g.outside;
        may_return = g.may_return;
        bounded = g.bounded;
        loop = λ e. let i = g.loop e in record { again = i.again; past = i.past; fewer = i.fewer; opened = i.opened; ahead = i.ahead; behind = i.behind };
      }

  -- in the body of a loop
  pub in_a_loop : (again past : ℕ) (l r d : Bool) (inside : Inside) (end end' : ℕ) → HasMark code k again inside.mark → HasMark code k past inside.mark → end' ≤ again → end' ≤ past → Placed code k f l r d inside end → Placed code k f true r d (in_loop again past inside) end'
  in_a_loop again past l r d inside end end' at_again at_past ahead behind g =
      record {
        bare = g.bare;
        outside = g.outside;
        may_return = g.may_return;
        bounded = g.bounded;
        loop = λ e. record { again = at_again; past = at_past; fewer = omega arith; opened = g.bounded; ahead = ahead; behind = behind };
      }

  -- in a recording
  pub in_a_record : (l r d : Bool) (inside : Inside) (end end' : ℕ) → Placed code k f l r d inside end → Placed code k f false false true (under (with_recording inside.mark) inside) end'
  in_a_record l r d inside end end' g =
      record {
        bare = g.bare;
        outside = λ e. absurd (false≢true (sym e));
        may_return = λ e. absurd (false≢true e);
        bounded = omega arith;
        loop = λ e. absurd (false≢true e);
      }

  -- under a handler
  pub in_a_try : (l r d : Bool) (inside : Inside) (end : ℕ) → Placed code k f l r d inside end → Placed code k f l r d (under (with_handler inside.mark) inside) end
  in_a_try l r d inside end g =
      record {
        bare = g.bare;
        outside = g.outside;
        may_return = g.may_return;
        bounded = omega (arith, g.bounded);
        loop = λ e. let i = g.loop e in record { again = i.again; past = i.past; fewer = omega (arith, i.fewer); opened = i.opened; ahead = i.ahead; behind = i.behind };
      }

  -- in a parallel block, which nothing leaves
  pub in_parallel : (l r d : Bool) (inside : Inside) (end end' : ℕ) → Placed code k f l r d inside end → Placed code k f false false d (keeping 2 inside) end'
  in_parallel l r d inside end end' g =
      record {
        bare = g.bare;
        outside = g.outside;
        may_return = λ e. absurd (false≢true e);
        bounded = g.bounded;
        loop = λ e. absurd (false≢true e);
      }
