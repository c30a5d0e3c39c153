-- The waveform of a few events, and the levels that it tells, worked out by hand.
use Rattle.std.proofs.Common.{◌≡◌, ℕ, List, [], ◌∷◌, ◌++◌, pos, codes, refl}
use Rattle.std.specs.Fmt.{digits}
use Rattle.rtio_types.specs.declared.event.Event.{Event}
use Rattle.core_analyzer.specs.Waveform.{waveform_text}
use Rattle.core_analyzer.specs.Level.{last_data, level}

-- ttl0 goes up at 1000 mu and down at 1500 mu; at 1500 mu in7 gets 6, and again at 2000 mu
abbrev events : List Event
events =
    record { channel = 0; address = 0; value = 1; stamp = pos 1000 }
    ∷ record { channel = 0; address = 0; value = 0; stamp = pos 1500 }
    ∷ record { channel = 31; address = 2; value = 6; stamp = pos 1500 }
    ∷ record { channel = 31; address = 2; value = 6; stamp = pos 2000 }
    ∷ []

-- the lines of the names, and 0 on each channel
abbrev first : List ℕ
first =
    codes "$timescale 1ns $end\n$scope module artiq $end\n$var wire 32 ! ttl0 $end\n$var wire 32 \" ttl1 $end\n"
    ++ codes "$var wire 32 # ttl2 $end\n$var wire 32 $ ttl3 $end\n$var wire 32 % ttl4 $end\n$var wire 32 & ttl5 $end\n"
    ++ codes "$var wire 32 ' ttl6 $end\n$var wire 32 ( ttl7 $end\n$var wire 32 ) ttl8 $end\n$var wire 32 * ttl9 $end\n"
    ++ codes "$var wire 32 + ttl10 $end\n$var wire 32 , ttl11 $end\n$var wire 32 - ttl12 $end\n$var wire 32 . ttl13 $end\n"
    ++ codes "$var wire 32 / ttl14 $end\n$var wire 32 0 ttl15 $end\n$var wire 32 1 raw0 $end\n$var wire 32 2 raw1 $end\n"
    ++ codes "$var wire 32 3 raw2 $end\n$var wire 32 4 raw3 $end\n$var wire 32 5 raw4 $end\n$var wire 32 6 raw5 $end\n"
    ++ codes "$var wire 32 7 raw6 $end\n$var wire 32 8 raw7 $end\n$var wire 32 9 in0 $end\n$var wire 32 : in1 $end\n"
    ++ codes "$var wire 32 ; in2 $end\n$var wire 32 < in3 $end\n$var wire 32 = in4 $end\n$var wire 32 > in5 $end\n"
    ++ codes "$var wire 32 ? in6 $end\n$var wire 32 @ in7 $end\n$upscope $end\n$enddefinitions $end\n#0\nb0 !\nb0 \"\nb0 #\nb0 $\n"
    ++ codes "b0 %\nb0 &\nb0 '\nb0 (\nb0 )\nb0 *\nb0 +\nb0 ,\nb0 -\nb0 .\nb0 /\nb0 0\nb0 1\nb0 2\nb0 3\nb0 4\nb0 5\nb0 6\nb0 7\n"
    ++ codes "b0 8\nb0 9\nb0 :\nb0 ;\nb0 <\nb0 =\nb0 >\nb0 ?\nb0 @\n"

abbrev text : List ℕ
text = first ++ codes "#1000\nb1 !\n#1500\nb0 !\nb110 @\n#2000\nb110 @\n"

text-of-events : waveform_text events ≡ text
unfolding digits
text-of-events = refl

up : level text 0 1000 ≡ 1
up = refl

before-up : level text 0 999 ≡ 0
before-up = refl

before-down : level text 0 1499 ≡ 1
before-down = refl

down : level text 0 1500 ≡ 0
down = refl

last : level text 31 9999 ≡ 6
last = refl

before-last : level text 31 1499 ≡ 0
before-last = refl

no-event : level text 30 1500 ≡ 0
no-event = refl

no-channel : level text 32 1500 ≡ 0
no-channel = refl

-- an empty text tells 0
nothing : level [] 0 1000 ≡ 0
nothing = refl

-- a line of data above the first time tells nothing, nor one with a letter or without digits
other-lines : level (codes "b1 !\n#1000\nb12 !\nb !\nx1 !\nb1 ! \n#2000\nb1 !\n") 0 1999 ≡ 0
other-lines = refl

-- the last line counts that stands below a time of at most the one asked
last-line : level (codes "#1000\nb1 !\nb11 !\n#2000\nb111 !\n") 0 1999 ≡ 3
last-line = refl

data-told : last_data events 31 1999 ≡ 6
data-told = refl
