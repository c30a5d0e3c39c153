-- The kernel that a number makes, as bytes.
use Rattle.std.specs.Prelude.{ℕ, zero, suc, ◌+◌, ◌*◌, ◌/◌, ◌%◌, ◌^◌, List, ◌++◌, flat_map, codes, decimal}
use Rattle.std.specs.List.{range_with_len}

-- the number after x
abbrev pub next_number : ℕ → ℕ
next_number x = (x * 6364136223846793005 + 1442695040888963407) % 2 ^ 64

-- the number of the k-th pulse, from 1 on
abbrev pub number_of : (start k : ℕ) → ℕ
number_of start zero = start
number_of start (suc k) = next_number (number_of start k)

-- of the pulse of a number: the delay before it (mu)
abbrev pub delay_of : ℕ → ℕ
delay_of x = 8 + x / 2 ^ 33 % 1000

-- its output
abbrev pub output_of : ℕ → ℕ
output_of x = x / 2 ^ 60

-- and its length (mu)
abbrev pub length_of : ℕ → ℕ
length_of x = 8 + x / 2 ^ 20 % 64

-- the line of a delay
abbrev pub delay_line : ℕ → List ℕ
delay_line delay = codes "        delay_mu(" ++ decimal delay ++ codes ")\n"

-- the line of a pulse
abbrev pub pulse_line : (output length : ℕ) → List ℕ
pulse_line output length = codes "        ttl" ++ decimal output ++ codes ".pulse_mu(" ++ decimal length ++ codes ")\n"

-- the two lines of the k-th pulse
unfoldable pub pulse_lines : (start k : ℕ) → List ℕ
pulse_lines start k =
    delay_line (delay_of (number_of start k)) ++ pulse_line (output_of (number_of start k)) (length_of (number_of start k))

-- the lines before the pulses
abbrev pub head : List ℕ
head = codes "def main():\n    core.reset()\n    for k in range(100):\n"

-- the kernel: 200 pulses in each of 100 turns
unfoldable pub kernel_text : ℕ → List ℕ
kernel_text number = head ++ flat_map (pulse_lines number) (range_with_len 1 200)
