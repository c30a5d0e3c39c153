-- Values that say something, and values that don't.
use Rattle.std.proofs.Common.{◌≡◌, ◌-◌, ◌^◌, [], ◌∷◌, ◌++◌, true, false, Some, None, refl, codes}
use Rattle.std.specs.Prelude.{pos, replicate}
use Rattle.hex.proofs.OnLiterals.{hex_on_literals}
use Rattle.run_schedule.specs.Schedules.{Lockstep, Letters, Mix}
use Rattle.run_schedule.specs.declared.schedule.Step.TheVariants.{Cpu, Tick}
use Rattle.option_values.specs.Numbers.{number_of, number_in}
use Rattle.option_values.specs.Schedules.{schedule_of}
use Rattle.option_values.specs.Lists.{edges_of, holds_of, recordings_of}

leading-zeros : number_of (codes "007") ≡ Some 7
leading-zeros = refl

all-digits : number_of (codes "9999999999999999999") ≡ Some 9999999999999999999
all-digits = refl

twenty-digits : number_of (codes "00000000000000000008") ≡ None
twenty-digits = refl

no-digits : number_of [] ≡ None
no-digits = refl

a-sign : number_of (codes "+8") ≡ None
a-sign = refl

above : number_in 1 32 (codes "33") ≡ None
above = refl

in-lockstep : schedule_of (codes "lockstep") ≡ Some Lockstep
in-lockstep = refl

by-letters : schedule_of (codes "letters:ct") ≡ Some (Letters (Cpu ∷ Tick ∷ []))
by-letters = refl

beyond-numbers : schedule_of (codes "mix:9223372036854775808") ≡ None
beyond-numbers = refl

by-least-number : schedule_of (codes "mix:0") ≡ Some (Mix 0 0)
by-least-number = refl

no-letters : schedule_of (codes "letters:") ≡ None
no-letters = refl

two-edges : edges_of (codes "24:8:r,031:4611686018427387903:f")
    ≡ Some (record { channel = 24; stamp = pos 8; rising = true } ∷ record { channel = 31; stamp = pos (2 ^ 62 - 1); rising = false } ∷ [])
two-edges = refl

an-output : edges_of (codes "23:8:r") ≡ None
an-output = refl

a-capital : edges_of (codes "24:8:R") ≡ None
a-capital = refl

a-last-comma : edges_of (codes "24:8:r,") ≡ None
a-last-comma = refl

two-holds : holds_of (codes "0:4,31:1000000") ≡ Some (4 ∷ replicate 30 0 ++ 1000000 ∷ [])
two-holds = refl

a-channel-twice : holds_of (codes "0:4,0:5") ≡ None
a-channel-twice = refl

-- one output at 0 and one at 50, over 80 machine units, in the shorter format
recorded : recordings_of (codes "p:020200000050000000000000000000010100001064")
    ≡ Some (record {
      name = codes "p";
      recording = record {
        events = record { channel = 0; address = 0; value = 1; stamp = pos 0 } ∷ record { channel = 0; address = 0; value = 0; stamp = pos 50 } ∷ [];
        length = pos 80;
      };
    } ∷ [])
unfolding hex_on_literals
recorded = refl

-- and in the older one
recorded-before : recordings_of (codes "p:0102000000500000000000000000000100000000000000000000000000000000003200000000000000")
    ≡ recordings_of (codes "p:020200000050000000000000000000010100001064")
unfolding hex_on_literals
recorded-before = refl

a-capital-digit : recordings_of (codes "p:02000000000A00000000000000") ≡ None
unfolding hex_on_literals
a-capital-digit = refl

an-odd-digit : recordings_of (codes "p:02000000000a0000000000000") ≡ None
unfolding hex_on_literals
an-odd-digit = refl

no-recording : recordings_of (codes "p:") ≡ None
unfolding hex_on_literals
no-recording = refl
