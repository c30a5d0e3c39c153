-- Which bytes have a waveform.
use Rattle.std.proofs.Common.{◌≡◌, ℕ, List, Bool, true, false, refl, sym, subst, ◌∙◌}
use Rattle.std.specs.Prelude.{None, Some, Ok, Err, Option}
use Rattle.core_analyzer.specs.declared.dump.DumpEnd.TheVariants.{Fault, Memory}
use Rattle.core_analyzer.specs.DumpFields.{first_wrong}
use Rattle.core_analyzer.specs.Dumps.{Dumped, IsSpelling}
use Rattle.core_analyzer.specs.Level.{last_data, level}
use Rattle.core_analyzer.specs.Rising.{are_behind_first_cycle}
use Rattle.core_analyzer.specs.Waveform.{waveform_text}
use Rattle.sim_program.specs.Readings.{IsDumpOf}
use Rattle.sim_program.specs.Waves.{DrawsWave, IsDumpRefused, IsWaveDump, dump_line, early, early_line, no_dump}

not-both : (b : Bool) → b ≡ true → b ≡ false → ⊥
not-both true is isnt = let clash : true ≡ false = isnt in cc
not-both false is isnt = let clash : false ≡ true = is in cc

-- a waveform that is drawn isn't refused
pub drawn : (bytes text : List ℕ) (dump : Dumped) → IsDumpOf bytes dump → are_behind_first_cycle dump.events ≡ true → text ≡ waveform_text dump.events → ((channel time : ℕ) → level text channel time ≡ last_data dump.events channel time)
    → DrawsWave bytes text × ((told : List ℕ) → ¬ IsDumpRefused bytes told)
drawn bytes text dump read late is levels =
    (record { dump = dump; taken = record { spelled = read.spelled; late = late }; drawn = is; levels = levels }, refused)
  where
    refused : (told : List ℕ) → IsDumpRefused bytes told → ⊥
    refused told (no_dump offset wrong line) = let clash : None ≡ Some offset = sym read.right ∙ wrong in absurd (cc)
    refused told (early other spelled first line) =
        let same : dump ≡ other = read.only other spelled in
        not-both (are_behind_first_cycle other.events) (subst (λ (d : Dumped). are_behind_first_cycle d.events ≡ true) same late) first

-- one with an early stamp has none
pub too-early : (bytes told : List ℕ) (dump : Dumped) → IsDumpOf bytes dump → are_behind_first_cycle dump.events ≡ false → told ≡ early_line
    → IsDumpRefused bytes told × ((other : Dumped) → ¬ IsWaveDump bytes other)
too-early bytes told dump read first line =
    (early dump read.spelled first line, λ other taken. not-both (are_behind_first_cycle other.events) taken.late (subst (λ (d : Dumped). are_behind_first_cycle d.events ≡ false) (read.only other taken.spelled) first))

pub ok-not-err : {X E : Type 0} (x : X) (e : E) → Ok x ≡ Err e → ⊥
ok-not-err x e same = let clash : Ok x ≡ Err e = same in cc

pub fault-not-memory : (offset : ℕ) → Fault offset ≡ Memory → ⊥
fault-not-memory offset same = let clash : Fault offset ≡ Memory = same in cc

-- bytes that are read are right
pub read : (bytes : List ℕ) (dump : Dumped) → IsSpelling bytes dump → ((other : Dumped) → IsSpelling bytes other → dump ≡ other) → ((offset : ℕ) → first_wrong bytes ≡ Some offset → ⊥) → IsDumpOf bytes dump
read bytes dump spelled only none = record { spelled = spelled; only = only; right = by (first_wrong bytes) refl }
  where
    by : (wrong : Option ℕ) → first_wrong bytes ≡ wrong → first_wrong bytes ≡ None
    by None is = is
    by (Some offset) is = absurd (none offset is)

-- those of a wrong field have no waveform
pub no-wave : (bytes told : List ℕ) (offset : ℕ) → first_wrong bytes ≡ Some offset → told ≡ dump_line offset → ((dump : Dumped) → IsSpelling bytes dump → ⊥) → IsDumpRefused bytes told × ((dump : Dumped) → ¬ IsWaveDump bytes dump)
no-wave bytes told offset wrong line none = (no_dump offset wrong line, λ dump taken. none dump taken.spelled)
