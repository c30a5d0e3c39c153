-- How what the code's functions go by and what a claim speaks of belong together, and how both go down the tree.
use Rattle.std.proofs.Common.{◌≡◌, ℕ, ◌+◌, ◌-◌, ◌≤◌, [], ◌∷◌, length, Option, Some, None, refl, sym, ◌∙◌, ap, arith, length-append}
use Rattle.std.specs.Prelude.{Bool, true, false, ℤ}
use Rattle.std.proofs.lemmas.Bool.{false≢true}
use Rattle.code_forms.specs.Setting as C
use Rattle.code_forms.specs.Lines.{with_recording, with_handler}
use Rattle.code_forms.specs.StatementCode.{Inside, in_loop, under, keeping}
use Rattle.code_follows.specs.Stands.{Loop, Setting}
use Rattle.code_follows.specs.Parts.{deeper}
use Rattle.code_follows.proofs.Loops.{body_setting}
use Rattle.code_follows.proofs.Records.{in_record}
use Rattle.code_follows.proofs.Tries.{in_try, loop_in_try}
use Rattle.code_meaning.proofs.Known.{At}

-- the enclosing loop is the one that the code's functions go by
abbrev pub LoopIs : Inside → Option Loop → Type 0
LoopIs inside None = Unit {0}
LoopIs inside (Some l) =
    (l.again_place ≡ inside.loop.again)
    × (l.end_place ≡ inside.loop.past)
    × (l.handlers_inside ≡ inside.mark.tries - inside.loop.tries)
    × (inside.loop.tries ≤ inside.mark.tries)

-- what the code's functions go by is as the setting says: l, r and d are whether a loop's statement or a `return` may stand
-- here, and whether a recording may be open
pub record Placed (cs : C.Setting) (active : ℕ) (l r d : Bool) (inside : Inside) (setting : Setting) : Type 0 where
  pub names : setting.names ≡ cs.scope.names
  pub value : setting.value ≡ cs.value
  pub room : setting.room ≡ active
  pub free : C.slots_of_names setting.names + length setting.temporaries ≡ inside.free
  pub tries : setting.handlers ≡ inside.mark.tries
  pub loop : LoopIs inside setting.loop
  pub in_a_loop : l ≡ true → (loop : Loop) × (setting.loop ≡ Some loop)
  pub may_return : r ≡ true → setting.may_return ≡ true
  pub outside : setting.outside ≡ false → d ≡ true

-- an expression in a statement
pub at_of : (cs : C.Setting) (room : ℕ) (l r d : Bool) (inside : Inside) (setting : Setting) → Placed cs room l r d inside setting → length setting.temporaries + 1 ≤ setting.limit → At cs room inside.free d setting
at_of cs room l r d inside setting g limit =
    record { names = g.names; free = g.free; limit = limit; room = g.room; outside = g.outside }

pub placed_loop : (cs : C.Setting) (room : ℕ) (l r d : Bool) (inside : Inside) (setting : Setting) (again past : ℕ) → Placed cs room l r d inside setting → Placed cs room true r d (in_loop again past inside) (body_setting setting [] again past)
placed_loop cs room l r d inside setting again past g =
    record {
      names = g.names;
      value = g.value;
      room = g.room;
      free = omega (arith, g.free, length-append setting.temporaries []);
      tries = g.tries;
      loop = (refl, refl, omega arith, omega arith);
      in_a_loop = λ e. (_, refl);
      may_return = g.may_return;
      outside = g.outside;
    }

-- in the body of a `for`, which keeps two temporary slots
pub placed_for : (cs : C.Setting) (room : ℕ) (l r d : Bool) (inside : Inside) (setting : Setting) (again past : ℕ) (i e : ℤ) → Placed cs room l r d inside setting → Placed cs room true r d (in_loop again past (keeping 2 inside)) (body_setting setting (i ∷ e ∷ []) again past)
placed_for cs room l r d inside setting again past i e g =
    record {
      names = g.names;
      value = g.value;
      room = g.room;
      free = omega (arith, g.free, length-append setting.temporaries (i ∷ e ∷ []));
      tries = g.tries;
      loop = (refl, refl, omega arith, omega arith);
      in_a_loop = λ e. (_, refl);
      may_return = g.may_return;
      outside = g.outside;
    }

pub placed_record : (cs : C.Setting) (room : ℕ) (l r d : Bool) (inside : Inside) (setting : Setting) → Placed cs room l r d inside setting → Placed cs room false false true (under (with_recording inside.mark) inside) (in_record setting)
placed_record cs room l r d inside setting g =
    record {
      names = g.names;
      value = g.value;
      room = g.room;
      free = g.free;
      tries = g.tries;
      loop = tt;
      in_a_loop = λ e. absurd (false≢true e);
      may_return = λ e. absurd (false≢true e);
      outside = λ e. refl;
    }

loop_try : (inside : Inside) (loop : Option Loop) → LoopIs inside loop → LoopIs (under (with_handler inside.mark) inside) (loop_in_try loop)
loop_try inside None l = tt
loop_try inside (Some loop) l = (l.0, l.1, omega (arith, l.2, l.3), omega (arith, l.3))

in_a_try : (loop : Option Loop) → ((l : Loop) × (loop ≡ Some l)) → (l : Loop) × (loop_in_try loop ≡ Some l)
in_a_try loop e = (_, ap loop_in_try e.1)

pub placed_try : (cs : C.Setting) (room : ℕ) (l r d : Bool) (inside : Inside) (setting : Setting) → Placed cs room l r d inside setting → Placed cs room l r d (under (with_handler inside.mark) inside) (in_try setting)
placed_try cs room l r d inside setting g =
    record {
      names = g.names;
      value = g.value;
      room = g.room;
      free = g.free;
      tries = omega (arith, g.tries);
      loop = loop_try inside setting.loop g.loop;
      in_a_loop = λ e. in_a_try setting.loop (g.in_a_loop e);
      may_return = g.may_return;
      outside = g.outside;
    }

pub placed_parallel : (cs : C.Setting) (room : ℕ) (l r d : Bool) (inside : Inside) (setting : Setting) (a b : ℤ) → Placed cs room l r d inside setting → Placed cs room false false d (keeping 2 inside) (deeper (a ∷ b ∷ []) setting)
placed_parallel cs room l r d inside setting a b g =
    record {
      names = g.names;
      value = g.value;
      room = g.room;
      free = omega (arith, g.free, length-append setting.temporaries (a ∷ b ∷ []));
      tries = g.tries;
      loop = g.loop;
      in_a_loop = λ e. absurd (false≢true e);
      may_return = λ e. absurd (false≢true e);
      outside = g.outside;
    }

-- no recording is open where none may be
is_outside : (o d : Bool) → (o ≡ false → d ≡ true) → d ≡ false → o ≡ true
is_outside true d f e = refl
is_outside false d f e = absurd (false≢true (sym e ∙ f refl))

pub outside_of : (cs : C.Setting) (room : ℕ) (l r d : Bool) (inside : Inside) (setting : Setting) → Placed cs room l r d inside setting → d ≡ false → setting.outside ≡ true
outside_of cs room l r d inside setting g e = is_outside setting.outside d g.outside e
