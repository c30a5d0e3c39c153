-- Channels that are no inputs: nothing is ever unread of them.
use Rattle.std.proofs.Common.{◌≡◌, ℕ, ◌-◌, Bool, true, false, List, [], ◌∷◌, ◌++◌, length, set, refl, sym, ap, subst, ◌∙◌, cond, eqb-true}
use Rattle.std.specs.Prelude.{ℤ, Option, Some, None, ◌&&◌, ◌==◌, filter, fold, nat_lt, nat_le, int_le, pos}
use Rattle.std.specs.List.{list_all}
use Rattle.std.proofs.lemmas.List.{append-nil, set-get_or}
use Rattle.rtio_types.specs.Board.{is_input}
use Rattle.rtio_types.specs.Time.{reading}
use Rattle.rtio_types.specs.declared.event.Edge.{Edge}
use Rattle.rtio_types.specs.declared.event.Event.{Event}
use Rattle.rtio_types.specs.declared.request.Reply.{Reply}
use Rattle.rtio_types.specs.declared.request.Reply.TheVariants as answer
use Rattle.rtio_input.specs.Script.{are_edges_ok, are_rising, edge_cycle, edges_up_to, is_edge_ok}
use Rattle.rtio_input.specs.Channel.{ChannelState, InputsState, channel_at, closed_channel, edge_reply, nothing_unread, unread_of}
use Rattle.rtio_input.specs.Past.{InputStep, InputsStandFor, Overflowed, Read, Reset, after_step, is_seen, unread_at, unread_from}
use Rattle.rtio_input.specs.Calls.{after_ask, answered_steps}
use Rattle.rtio_input.proofs.Standing.{channel-stands, stands-asked}

both : (a b : Bool) → (a && b) ≡ true → (a ≡ true) × (b ≡ true)
both true b is = (refl, is)
both false b is = absurd (cc)

either-way : (channel : ℕ) (b : Bool) (steps : List InputStep) → fold (after_step channel) nothing_unread steps ≡ nothing_unread → fold (after_step channel) (cond b nothing_unread nothing_unread) steps ≡ nothing_unread
either-way channel true steps rest = rest
either-way channel false steps rest = rest

-- steps leave nothing unread where nothing is
none-stepped : (channel : ℕ) (steps : List InputStep) → fold (after_step channel) nothing_unread steps ≡ nothing_unread
none-stepped channel [] = refl
none-stepped channel (Read at k ∷ steps) = either-way channel (k == channel) steps (none-stepped channel steps)
none-stepped channel (Overflowed at k ∷ steps) = either-way channel (k == channel) steps (none-stepped channel steps)
none-stepped channel (Reset at ∷ steps) = none-stepped channel steps

-- an edge of an input isn't one of another channel
other-channel : (channel : ℕ) (x : Edge) → is_input channel ≡ false → is_input x.channel ≡ true → (x.channel == channel) ≡ false
other-channel channel x other own = by (x.channel == channel) refl
  where
    by : (b : Bool) → (x.channel == channel) ≡ b → (x.channel == channel) ≡ false
    by false differ = differ
    by true same =
        let equal : x.channel ≡ channel = eqb-true _ _ same in
        let clash : true ≡ false = sym own ∙ ap is_input equal ∙ other in
        absurd (cc)

none-of : (outputs : List Event) (steps : List InputStep) (channel : ℕ) (edges : List Edge) → is_input channel ≡ false → list_all (λ x. is_input x.channel) edges ≡ true → filter (is_seen outputs steps channel) edges ≡ []
none-of outputs steps channel [] other own = refl
none-of outputs steps channel (x ∷ edges) other own =
    rw (other-channel channel x other (both _ _ own).0) (none-of outputs steps channel edges other (both _ _ own).1)

-- the edges that a counter went through are of inputs as all are
kept-own : (counter : ℕ) (edges : List Edge) → list_all is_edge_ok edges ≡ true → list_all (λ x. is_input x.channel) (edges_up_to counter edges) ≡ true
kept-own counter [] ok = refl
kept-own counter (x ∷ edges) ok = by (nat_lt 0 (edge_cycle x) && nat_le (edge_cycle x) counter) (kept-own counter edges (both _ _ ok).1)
  where
    own : is_input x.channel ≡ true
    own = let first = both _ _ ok in let parts = both _ _ first.0 in let input = both _ _ parts.0 in input.0

    by : (b : Bool) → list_all (λ y. is_input y.channel) (edges_up_to counter edges) ≡ true → list_all (λ y. is_input y.channel) (cond b (x ∷ edges_up_to counter edges) (edges_up_to counter edges)) ≡ true
    by true rest = rw own rest
    by false rest = rest

each-ok : (script : List Edge) → are_edges_ok script ≡ true → list_all is_edge_ok script ≡ true
each-ok script ok =
    let first = both (nat_le (length script) 4096 && list_all is_edge_ok script) (are_rising script) ok in
    (both (nat_le (length script) 4096) (list_all is_edge_ok script) first.0).1

never-unread : (script : List Edge) (outputs : List Event) (steps : List InputStep) (counter channel : ℕ) → is_input channel ≡ false → are_edges_ok script ≡ true → unread_at script outputs steps counter channel ≡ nothing_unread
never-unread script outputs steps counter channel other ok =
    ap (λ edges. unread_from channel edges steps nothing_unread) (none-of outputs steps channel (edges_up_to counter script) other (kept-own counter script (each-ok script ok))) ∙ none-stepped channel steps

-- what an input has unread, and what another channel has
pub own-unread : (s : InputsState) (channel : ℕ) → is_input channel ≡ true → unread_of s channel ≡ (channel_at s.channels channel).unread
own-unread s channel own = ap (λ b. cond b (channel_at s.channels channel).unread nothing_unread) own

pub other-unread : (s : InputsState) (channel : ℕ) → is_input channel ≡ false → unread_of s channel ≡ nothing_unread
other-unread s channel other = ap (λ b. cond b (channel_at s.channels channel).unread nothing_unread) other

-- what a channel has unread is so by all that happened
pub unread-stands : (s : InputsState) (script : List Edge) (outputs : List Event) (steps : List InputStep) (counter channel : ℕ) → InputsStandFor s script outputs steps counter → unread_of s channel ≡ unread_at script outputs steps counter channel
unread-stands s script outputs steps counter channel h = by (is_input channel) refl
  where
    by : (b : Bool) → is_input channel ≡ b → cond b (channel_at s.channels channel).unread nothing_unread ≡ unread_at script outputs steps counter channel
    by true is = ap (λ (c : ChannelState). c.unread) (channel-stands s script outputs steps counter channel is h)
    by false isnt = sym (never-unread script outputs steps counter channel isnt h.ok)

-- a reply that reads nothing and clears nothing leaves the inputs
pub unasked : (s : InputsState) (channel : ℕ) → record s { channels = set s.channels (channel - 24) (channel_at s.channels channel) } ≡ s
unasked s channel = ap (λ cs. record s { channels = cs }) (set-get_or s.channels (channel - 24) closed_channel)

-- as one that is given where nothing is unread
pub none-asked : (s : InputsState) (counter channel : ℕ) (up_to : ℤ) (reply : Option Reply) → reply ≡ edge_reply nothing_unread counter up_to → (after_ask s channel reply ≡ s) × (answered_steps counter channel reply ≡ [])
none-asked s counter channel up_to reply is = by (int_le up_to (pos (reading counter))) is
  where
    by : (b : Bool) → reply ≡ cond b (Some answer.NoEdge) None → (after_ask s channel reply ≡ s) × (answered_steps counter channel reply ≡ [])
    by true is = (ap (after_ask s channel) is ∙ unasked s channel, ap (answered_steps counter channel) is)
    by false is = (ap (after_ask s channel) is ∙ unasked s channel, ap (answered_steps counter channel) is)

-- the inputs after a reply to a request for an edge of any channel
pub stands-any : (s new : InputsState) (script : List Edge) (outputs : List Event) (steps : List InputStep) (counter channel : ℕ) (up_to : ℤ) (reply : Option Reply) → reply ≡ edge_reply (unread_of s channel) counter up_to → new ≡ after_ask s channel reply → InputsStandFor s script outputs steps counter → InputsStandFor new script outputs (steps ++ answered_steps counter channel reply) counter
stands-any s new script outputs steps counter channel up_to reply is after h = by (is_input channel) refl is
  where
    by : (b : Bool) → is_input channel ≡ b → reply ≡ edge_reply (cond b (channel_at s.channels channel).unread nothing_unread) counter up_to → InputsStandFor new script outputs (steps ++ answered_steps counter channel reply) counter
    by true own is = subst (λ x. InputsStandFor x script outputs (steps ++ answered_steps counter channel reply) counter) (sym after) (stands-asked s script outputs steps counter channel reply own h)
    by false other is =
        let none = none-asked s counter channel up_to reply is in
        subst (λ x. InputsStandFor x script outputs (steps ++ answered_steps counter channel reply) counter) (sym (after ∙ none.0)) (subst (λ more. InputsStandFor s script outputs more counter) (sym (ap (λ more. steps ++ more) none.1 ∙ append-nil steps)) h)
