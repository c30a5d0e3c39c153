-- Words that are accepted, and words that aren't.
use Rattle.std.proofs.Common.{◌≡◌, [], ◌∷◌, true, false, Some, None, refl, codes}
use Rattle.std.specs.Prelude.{pos}
use Rattle.hex.proofs.OnLiterals.{hex_on_literals}
use Rattle.rtio_core.specs.declared.data.Config.{Config}
use Rattle.run_schedule.specs.Schedules.{Lockstep, Letters}
use Rattle.run_schedule.specs.declared.schedule.Step.TheVariants.{Cpu, Tick}
use Rattle.sat_rounds.specs.declared.letters.Letter.TheVariants as letter
use Rattle.option_values.specs.Lists.{no_holds}
use Rattle.sim_words.specs.declared.asked.Asked.TheVariants.{Sim, Generated, Check, Compile, Exec, Gen, Dump, Vcd, Sat, Slack}
use Rattle.sim_words.specs.declared.asked.Options.{Options}
use Rattle.sim_words.specs.Asked.{asked_of}

abbrev settings : Config
settings = record { lanes = 8; depth = 128; cost = 0; horizon = 134217728; edges = []; holds = no_holds; kept = [] }

abbrev with_config : Config → Options
with_config config = record { config = config; budget = 1000000; schedule = Lockstep }

no-options : asked_of (codes "sim" ∷ []) ≡ Some (Sim (with_config settings) false)
no-options = refl

in-words : asked_of (codes "exec" ∷ codes "--cost" ∷ codes "007" ∷ codes "--lanes=2" ∷ []) ≡ Some (Exec (with_config (record settings { cost = 7; lanes = 2 })) false)
in-words = refl

any-order : asked_of (codes "exec" ∷ codes "--lanes=2" ∷ codes "--cost" ∷ codes "007" ∷ []) ≡ Some (Exec (with_config (record settings { cost = 7; lanes = 2 })) false)
any-order = refl

by-letters : asked_of (codes "sim" ∷ codes "--schedule" ∷ codes "letters:tc" ∷ codes "--budget=5" ∷ codes "--dma" ∷ codes "lines" ∷ [])
    ≡ Some (Sim (record { config = settings; budget = 5; schedule = Letters (Tick ∷ Cpu ∷ []) }) true)
by-letters = refl

one-edge : asked_of (codes "sim" ∷ codes "--edges=24:1040:r" ∷ []) ≡ Some (Sim (with_config (record settings { edges = record { channel = 24; stamp = pos 1040; rising = true } ∷ [] })) false)
one-edge = refl

one-recording : asked_of (codes "sim" ∷ codes "--recordings" ∷ codes "p:02000000000a00000000000000" ∷ [])
    ≡ Some (Sim (with_config (record settings { kept = record { name = codes "p"; recording = record { events = []; length = pos 10 } } ∷ [] })) false)
unfolding hex_on_literals
one-recording = refl

farther : asked_of (codes "sim" ∷ codes "--horizon=576460752303423488" ∷ []) ≡ Some (Sim (with_config (record settings { horizon = 576460752303423488 })) false)
farther = refl

generated : asked_of (codes "sim" ∷ codes "--gen=1" ∷ []) ≡ Some (Generated 1 (with_config settings))
generated = refl

kernel : asked_of (codes "gen" ∷ codes "--number" ∷ codes "9223372036854775807" ∷ []) ≡ Some (Gen 9223372036854775807)
kernel = refl

checked : asked_of (codes "check" ∷ []) ≡ Some Check
checked = refl

compiled : asked_of (codes "compile" ∷ []) ≡ Some Compile
compiled = refl

dumped : asked_of (codes "dump" ∷ codes "--horizon=576460752303423488" ∷ codes "--cost" ∷ codes "8" ∷ [])
    ≡ Some (Dump (with_config (record settings { cost = 8; horizon = 576460752303423488 })))
dumped = refl

waveform : asked_of (codes "vcd" ∷ []) ≡ Some Vcd
waveform = refl

-- ---- refused

no-command : asked_of [] ≡ None
no-command = refl

two-dashes : asked_of (codes "sim" ∷ codes "--" ∷ []) ≡ None
two-dashes = refl

twice : asked_of (codes "sim" ∷ codes "--cost=8" ∷ codes "--cost" ∷ codes "8" ∷ []) ≡ None
twice = refl

no-value : asked_of (codes "sim" ∷ codes "--cost" ∷ []) ≡ None
no-value = refl

empty-value : asked_of (codes "sim" ∷ codes "--cost=" ∷ []) ≡ None
empty-value = refl

hyphen-value : asked_of (codes "sim" ∷ codes "--schedule" ∷ codes "-8" ∷ []) ≡ None
hyphen-value = refl

of-another-command : asked_of (codes "sim" ∷ codes "--number=1" ∷ []) ≡ None
of-another-command = refl

bare-word : asked_of (codes "check" ∷ codes "sim" ∷ []) ≡ None
bare-word = refl

lists-of-generated : asked_of (codes "sim" ∷ codes "--gen=1" ∷ codes "--dma=lines" ∷ []) ≡ None
lists-of-generated = refl

lists-of-dumped : asked_of (codes "dump" ∷ codes "--dma=lines" ∷ []) ≡ None
lists-of-dumped = refl

generated-dump : asked_of (codes "dump" ∷ codes "--gen=1" ∷ []) ≡ None
generated-dump = refl

options-of-waveform : asked_of (codes "vcd" ∷ codes "--cost=8" ∷ []) ≡ None
options-of-waveform = refl

too-far : asked_of (codes "sim" ∷ codes "--horizon=134217729" ∷ codes "--schedule=mix:1" ∷ []) ≡ None
too-far = refl

falling-edges : asked_of (codes "sim" ∷ codes "--edges=24:8:r,24:8:f" ∷ []) ≡ None
falling-edges = refl

same-names : asked_of (codes "sim" ∷ codes "--recordings=p:02000000000a00000000000000,p:02000000000a00000000000000" ∷ []) ≡ None
unfolding hex_on_literals
same-names = refl

sent : asked_of (codes "sat" ∷ [])
    ≡ Some (Sat (with_config settings) (letter.Send ∷ letter.Deliver ∷ letter.Tick ∷ letter.Grant ∷ letter.Absorb ∷ []))
sent = refl

sent-by-letters : asked_of (codes "sat" ∷ codes "--link" ∷ codes "ttsdga" ∷ codes "--depth=1" ∷ [])
    ≡ Some (Sat (with_config (record settings { depth = 1 })) (letter.Tick ∷ letter.Tick ∷ letter.Send ∷ letter.Deliver ∷ letter.Grant ∷ letter.Absorb ∷ []))
sent-by-letters = refl

no-absorb : asked_of (codes "sat" ∷ codes "--link=sdtg" ∷ []) ≡ None
no-absorb = refl

horizon-of-sent : asked_of (codes "sat" ∷ codes "--horizon=8" ∷ []) ≡ None
horizon-of-sent = refl

link-of-sim : asked_of (codes "sim" ∷ codes "--link=sdtga" ∷ []) ≡ None
link-of-sim = refl

checked-for-slack : asked_of (codes "slack" ∷ []) ≡ Some (Slack 0 128)
checked-for-slack = refl

slack-of-one : asked_of (codes "slack" ∷ codes "--depth" ∷ codes "1" ∷ codes "--cost=80" ∷ []) ≡ Some (Slack 80 1)
slack-of-one = refl

slack-of-lanes : asked_of (codes "slack" ∷ codes "--lanes=2" ∷ []) ≡ None
slack-of-lanes = refl

slack-of-no-depth : asked_of (codes "slack" ∷ codes "--depth=0" ∷ []) ≡ None
slack-of-no-depth = refl
