-- The code of a parallel block is marked rightly.
use Rattle.std.proofs.Common.{◌≡◌, ℕ, ◌+◌, ◌-◌, ◌≤◌, ◌++◌, length, refl, arith, length-append}
use Rattle.std.specs.Prelude.{Bool, true, false}
use Rattle.kern_syntax.specs.Tree.{Statement, parallel, Block, line_then}
use Rattle.core_isa.specs.declared.code.Code.{Code}
use Rattle.core_isa.specs.declared.code.CodeFunction.{CodeFunction}
use Rattle.core_isa.specs.declared.code.Mark.{Mark}
use Rattle.core_isa.specs.declared.instr.Instr.TheVariants as I
use Rattle.code_forms.specs.Lines.{straight}
use Rattle.code_forms.specs.Setting as C
use Rattle.code_forms.specs.Sizes.{has_second, parallel_begin_size, statement_size, parallel_size, others_size}
use Rattle.code_forms.specs.StatementCode.{Inside, keeping, parallel_begins, next_begins, parallel_ends, statement_code, parallel_code, others_code}
use Rattle.code_forms.proofs.StatementLengths.{length-begin, length-statement}
use Rattle.code_marks.proofs.Instructions.{simple}
use Rattle.code_marks.proofs.Parts.{StandIn, Part, same_mark, part_to, straight_to, in_turn}

module _ (code : Code) (k : ℕ) (f : CodeFunction) (cs : C.Setting) (inside : Inside) where
  abbrev mark : Mark
  mark = inside.mark

  -- its greatest end is kept in a slot and, if there is a second statement, its start in another one
  begin_part : (second : Bool) (place : ℕ) → inside.free + 2 ≤ f.slots → StandIn code k place (straight mark (parallel_begins inside second)) → Part code k f place (place + parallel_begin_size second) mark mark
  begin_part true place room s =
      straight_to code k f place mark mark (parallel_begins inside true) s ((simple code k f I.Now refl tt (omega arith), (simple code k f I.Dup refl tt (omega arith), (simple code k f (I.Store inside.free) refl (omega (arith, room)) (omega arith), (simple code k f (I.Store (inside.free + 1)) refl (omega (arith, room)) (omega arith), tt)))), same_mark _ _ (omega arith) refl refl)
  begin_part false place room s =
      straight_to code k f place mark mark (parallel_begins inside false) s ((simple code k f I.Now refl tt (omega arith), (simple code k f (I.Store (inside.free + 1)) refl (omega (arith, room)) (omega arith), tt)), same_mark _ _ (omega arith) refl refl)

  pub parallel_part : (b : Block) (place : ℕ) → inside.free + 2 ≤ f.slots → (StandIn code k (place + parallel_begin_size (has_second b)) (parallel_code cs (keeping 2 inside) (place + parallel_begin_size (has_second b)) b) → Part code k f (place + parallel_begin_size (has_second b)) (place + parallel_begin_size (has_second b) + parallel_size cs mark.tries inside.loop.tries b) mark mark) → StandIn code k place (statement_code cs inside place (parallel b)) → Part code k f place (place + (parallel_begin_size (has_second b) + parallel_size cs mark.tries inside.loop.tries b)) mark mark
  parallel_part b place room statements s =
      let second = has_second b in
      let begins = straight mark (parallel_begins inside second) in
      let ls = parallel_code cs (keeping 2 inside) (place + parallel_begin_size second) b in
      part_to code k f (omega arith) refl (in_turn code k f begins ls (length-begin mark inside second) refl (begin_part second place room) statements s)

  -- behind its last statement it ends at the greatest end
  pub end_of_parallel : (place : ℕ) → 2 ≤ inside.free → inside.free ≤ f.slots → StandIn code k place (straight mark (parallel_ends inside)) → Part code k f place (place + 4) mark mark
  end_of_parallel place two room s =
      straight_to code k f place mark mark (parallel_ends inside) s ((simple code k f (I.Load (inside.free - 1)) refl (omega (arith, two, room)) (omega arith), (simple code k f I.Now refl tt (omega arith), (simple code k f I.Max refl tt (omega arith), (simple code k f I.At refl tt (omega arith), tt)))), same_mark _ _ (omega arith) refl refl)

  -- each further statement begins at the start, when the end of the one before it is kept if it is the greatest
  pub one_of_parallel : (ln : ℕ) (st : Statement) (rest : Block) (place : ℕ) → 2 ≤ inside.free → inside.free ≤ f.slots → (StandIn code k (place + 6) (statement_code cs inside (place + 6) st) → Part code k f (place + 6) (place + 6 + statement_size cs mark.tries inside.loop.tries st) mark mark) → (StandIn code k (place + 6 + statement_size cs mark.tries inside.loop.tries st) (others_code cs inside (place + 6 + statement_size cs mark.tries inside.loop.tries st) rest) → Part code k f (place + 6 + statement_size cs mark.tries inside.loop.tries st) (place + 6 + statement_size cs mark.tries inside.loop.tries st + others_size cs mark.tries inside.loop.tries rest) mark mark) → StandIn code k place (others_code cs inside place (line_then ln st rest)) → Part code k f place (place + (6 + (statement_size cs mark.tries inside.loop.tries st + others_size cs mark.tries inside.loop.tries rest))) mark mark
  one_of_parallel ln st rest place two room statement others s =
      let n = statement_size cs mark.tries inside.loop.tries st in
      let is = next_begins inside in
      let begins = straight mark is in
      let own = statement_code cs inside (place + 6) st in
      let ls = others_code cs inside (place + 6 + n) rest in
      let long : length (begins ++ own) ≡ 6 + n = omega (arith, length-append begins own, length-statement cs inside (place + 6) st) in
      let first : StandIn code k place begins → Part code k f place (place + 6) mark mark = λ s'. straight_to code k f place mark mark is s' ((simple code k f (I.Load (inside.free - 1)) refl (omega (arith, two, room)) (omega arith), (simple code k f I.Now refl tt (omega arith), (simple code k f I.Max refl tt (omega arith), (simple code k f (I.Store (inside.free - 1)) refl (omega (arith, two, room)) (omega arith), (simple code k f (I.Load (inside.free - 2)) refl (omega (arith, two, room)) (omega arith), (simple code k f I.At refl tt (omega arith), tt)))))), same_mark _ _ (omega arith) refl refl) in
      let front : StandIn code k place (begins ++ own) → Part code k f place (place + 6 + n) mark mark = in_turn code k f begins own refl refl first statement in
      part_to code k f (omega arith) refl (in_turn code k f (begins ++ own) ls long (omega arith) front others s)
