-- The inputs in the order of their channels.
use Rattle.std.proofs.Common.{◌≡◌, ◌≢◌, ℕ, zero, suc, ◌+◌, ◌-◌, ◌<◌, ◌≤◌, Bool, true, false, List, [], ◌∷◌, map, get_or, set, length, refl, sym, ap, ◌∙◌, arith, cond}
use Rattle.std.specs.Prelude.{Some, None, nat_lt}
use Rattle.std.specs.List.{range_with_len}
use Rattle.std.proofs.lemmas.Bool.{ltb-true, ltb-false}
use Rattle.std.proofs.lemmas.List.FromFn.{get_or-map-range_with_len}
use Rattle.rtio_types.specs.declared.board.ChannelKind.TheVariants.{Out, OutRaw, Input}
use Rattle.rtio_types.specs.Board.{is_input, is_input_kind}
use Rattle.rtio_input.specs.Channel.{ChannelState, channel_at, closed_channel}

-- the channels of the inputs, in order
abbrev pub inputs : List ℕ
inputs = range_with_len 24 8

-- a channel from 24 to 31
pub record IsInput (channel : ℕ) : Type 0 where
  pub least : 24 ≤ channel
  pub most : channel < 32

pub input-range : (channel : ℕ) → is_input channel ≡ true → IsInput channel
input-range channel is = at (nat_lt channel 16) (nat_lt channel 24) (nat_lt channel 32) refl refl is
  where
    at : (a b c : Bool) → nat_lt channel 24 ≡ b → nat_lt channel 32 ≡ c → is_input_kind (cond a (Some Out) (cond b (Some OutRaw) (cond c (Some Input) None))) ≡ true → IsInput channel
    at true b c low high h = absurd (cc)
    at false true c low high h = absurd (cc)
    at false false true low high h = record { least = ltb-false channel 24 low; most = ltb-true channel 32 high }
    at false false false low high h = absurd (cc)

map-behind : {X : Type 0} (f g : ℕ → X) (a n : ℕ) → ((k : ℕ) → a ≤ k → f k ≡ g k) → map f (range_with_len a n) ≡ map g (range_with_len a n)
map-behind f g a zero same = refl
map-behind f g a (suc n) same =
    ap (λ x. x ∷ map f (range_with_len (a + 1) n)) (same a (omega arith))
    ∙ ap (λ xs. g a ∷ xs) (map-behind f g (a + 1) n (λ k le. same k (omega (arith, le))))

-- what is made of each number is the same but at one of them
pub set-map : {X : Type 0} (f g : ℕ → X) (a n i j : ℕ) (x : X) → i < n → a + i ≡ j → x ≡ g j → ((k : ℕ) → k ≢ j → f k ≡ g k) → set (map f (range_with_len a n)) i x ≡ map g (range_with_len a n)
set-map f g a zero i j x lt is new same = absurd (omega (arith, lt))
set-map f g a (suc n) zero j x lt is new same =
    let here : a ≡ j = omega (arith, is) in
    ap (λ y. y ∷ map f (range_with_len (a + 1) n)) (new ∙ ap g (sym here))
    ∙ ap (λ xs. g a ∷ xs) (map-behind f g (a + 1) n (λ k le. same k (λ e. omega (arith, le, here, e))))
set-map f g a (suc n) (suc i) j x lt is new same =
    ap (λ y. y ∷ set (map f (range_with_len (a + 1) n)) i x) (same a (λ e. omega (arith, is, e)))
    ∙ ap (λ xs. g a ∷ xs) (set-map f g (a + 1) n i j x (omega (arith, lt)) (omega (arith, is)) new same)

-- the input of a channel
pub channel_at-map : (f : ℕ → ChannelState) (channel : ℕ) → IsInput channel → channel_at (map f inputs) channel ≡ f channel
channel_at-map f channel is = let least = is.least in let most = is.most in get_or-map-range_with_len f 24 8 (channel - 24) channel closed_channel (omega (arith, least, most)) (omega (arith, least, most))

-- what is made of each input is the same but at one of them
pub set-inputs : (f g : ℕ → ChannelState) (channel : ℕ) (x : ChannelState) → IsInput channel → x ≡ g channel → ((k : ℕ) → k ≢ channel → f k ≡ g k) → set (map f inputs) (channel - 24) x ≡ map g inputs
set-inputs f g channel x is new same = let least = is.least in let most = is.most in set-map f g 24 8 (channel - 24) channel x (omega (arith, least, most)) (omega (arith, least, most)) new same

-- the same of each input
pub map-inputs : (f g : ℕ → ChannelState) → ((k : ℕ) → IsInput k → f k ≡ g k) → map f inputs ≡ map g inputs
map-inputs f g same = go 24 8 (omega arith) (omega arith)
  where
    go : (a n : ℕ) → 24 ≤ a → a + n ≤ 32 → map f (range_with_len a n) ≡ map g (range_with_len a n)
    go a zero least most = refl
    go a (suc n) least most =
        ap (λ x. x ∷ map f (range_with_len (a + 1) n)) (same a (record { least = least; most = omega (arith, most) }))
        ∙ ap (λ xs. g a ∷ xs) (go (a + 1) n (omega (arith, least)) (omega (arith, most)))

list-at : (xs : List ChannelState) (a : ℕ) → map (λ k. get_or xs (k - a) closed_channel) (range_with_len a (length xs)) ≡ xs
list-at [] a = refl
list-at (x ∷ xs) a =
    let none : a - a ≡ 0 = omega arith in
    ap (λ (i : ℕ). get_or (x ∷ xs) i closed_channel ∷ map (λ k. get_or (x ∷ xs) (k - a) closed_channel) (range_with_len (a + 1) (length xs))) none
    ∙ ap (λ ys. x ∷ ys) (map-behind _ _ (a + 1) (length xs) (λ k le. one-on k le) ∙ list-at xs (a + 1))
  where
    one-on : (k : ℕ) → a + 1 ≤ k → get_or (x ∷ xs) (k - a) closed_channel ≡ get_or xs (k - (a + 1)) closed_channel
    one-on k le =
        let more : k - a ≡ suc (k - (a + 1)) = omega (arith, le) in
        ap (λ (i : ℕ). get_or (x ∷ xs) i closed_channel) more

-- eight inputs are each what stands at its place
pub each-same : (channels : List ChannelState) → length channels ≡ 8 → map (λ k. channel_at channels k) inputs ≡ channels
each-same channels eight =
    ap (λ (n : ℕ). map (λ k. get_or channels (k - 24) closed_channel) (range_with_len 24 n)) (sym eight) ∙ list-at channels 24
