-- The definitions computed on one small history that has an event of each fate.
use Rattle.std.proofs.Common.{inl, inr, ◌≡◌, ℕ, List, [], ◌∷◌, refl, ap, arith, lit≤}
use Rattle.std.specs.Prelude.{map, pos}
use Rattle.rtio_types.specs.declared.event.Event.{Event}
use Rattle.rtio_types.specs.declared.request.Request.{Request}
use Rattle.rtio_types.specs.declared.request.Request.TheVariants as ask
use Rattle.rtio_types.specs.declared.request.Reply.{Reply}
use Rattle.rtio_types.specs.declared.request.Reply.TheVariants as answer
use Rattle.rtio_core.specs.declared.data.Config.{Config}
use Rattle.rtio_core.specs.declared.data.Act.TheVariants.{Start, Asked}
use Rattle.rtio_core.specs.declared.data.Entry.{Entry}
use Rattle.rtio_core.specs.Reply.{outputs_at}
use Rattle.rtio_core.specs.Told.{log_at}
use Rattle.rtio_headline.specs.Headline.{IsAmong, IsOverridden, submitted}

abbrev out : ℕ → ℕ → ℕ → Event
out channel value stamp = record { channel = channel; address = 0; value = value; stamp = pos stamp }

abbrev asked : Request → Reply → Entry
asked request reply = record { chair = 0; act = Asked request reply 0 }

abbrev settings : Config
settings = record { lanes = 3; depth = 128; cost = 0; horizon = 134217728; edges = []; holds = []; kept = [] }

-- the first is overridden by the second, the third collides, the fourth is out of sequence, the fifth comes too late, and the
-- last one pends
abbrev history : List Entry
history =
    record { chair = 0; act = Start (record { source = 0; function = 0; args = []; rid = 0; pos = 0 }) (pos 0) 0 }
    ∷ asked (ask.Out (out 0 1 1000)) answer.Done
    ∷ asked (ask.Out (out 0 0 1000)) answer.Done
    ∷ asked (ask.Out (out 0 1 1003)) answer.Done
    ∷ asked (ask.Out (out 1 1 900)) answer.Done
    ∷ asked (ask.Out (out 2 1 7)) answer.Underflow
    ∷ asked (ask.Out (out 3 1 2000)) answer.Done
    ∷ []

abbrev numbers : List (ℕ × Event) → List ℕ
numbers events = map (λ (p : ℕ × Event). p.0) events

all_submitted : numbers (submitted history) ≡ 0 ∷ 1 ∷ 2 ∷ 3 ∷ 5 ∷ []
all_submitted = refl

out_of_sequence : numbers (log_at settings history 250).sequence ≡ 3 ∷ []
out_of_sequence = refl

collided : numbers (log_at settings history 250).collided ≡ 2 ∷ []
collided = refl

-- an event of one number isn't among those of another
not-among : (p q : ℕ × Event) → p.0 ≡ 1 → q.0 ≡ 3 → IsAmong p (q ∷ []) → ⊥
not-among p q one three (inl same) = let is : p.0 ≡ q.0 = ap (λ (x : ℕ × Event). x.0) same in omega (arith, is, one, three)
not-among p q one three (inr there) = there

first_is_overridden : IsOverridden (submitted history) (log_at settings history 250) (0, out 0 1 1000)
first_is_overridden = record {
  replacing = refl;
  other = (1, out 0 0 1000);
  asked = inr (inl refl);
  in_sequence = λ there. not-among (1, out 0 0 1000) (3, out 1 1 900) refl refl there;
  later = lit≤ tt;
  channel = refl;
  stamp = refl;
}

none_before : outputs_at settings history 124 ≡ []
none_before = refl

one_there : outputs_at settings history 125 ≡ out 0 0 1000 ∷ []
one_there = refl

trace_in_the_end : outputs_at settings history 250 ≡ out 0 0 1000 ∷ out 3 1 2000 ∷ []
trace_in_the_end = refl
