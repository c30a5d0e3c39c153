-- The inputs after an edge or an event more.
use Rattle.std.proofs.Common.{◌≡◌, ◌≢◌, ℕ, suc, ◌+◌, ◌-◌, ◌<◌, Bool, true, List, [], ◌∷◌, get_or, set, length, replicate, take, refl, sym, ap, ◌∙◌, arith, cond}
use Rattle.std.specs.Prelude.{fold, filter, ◌==◌}
use Rattle.std.proofs.lemmas.Bool.{eq-eqb, ne_eqb}
use Rattle.std.proofs.lemmas.List.{get_or_default}
use Rattle.std.proofs.lemmas.List.Sums.{fold-append}
use Rattle.std.proofs.lemmas.List.Elements.{filter_more}
use Rattle.rtio_types.specs.declared.event.Event.{Event}
use Rattle.rtio_types.specs.declared.event.Edge.{Edge}
use Rattle.rtio_types.specs.Board.{is_input}
use Rattle.rtio_input.specs.Channel.{ChannelState, Unread, channel_at, closed_channel}
use Rattle.rtio_input.specs.Past.{last_value}
use Rattle.rtio_input.specs.Calls.{after_edges, after_events, after_own_edge, each_channel}
use Rattle.rtio_input.proofs.Each.{IsInput, channel_at-map, each-same, input-range, map-inputs, set-inputs}

-- one after the other
pub each-each : (f g : ℕ → ChannelState → ChannelState) (cs : List ChannelState) → each_channel g (each_channel f cs) ≡ each_channel (λ k c. g k (f k c)) cs
each-each f g cs = map-inputs _ _ (λ k is. ap (g k) (channel_at-map (λ j. f j (channel_at cs j)) k is))

there : (cs : List ChannelState) (channel : ℕ) → length cs ≡ 8 → IsInput channel → channel - 24 < length cs
there cs channel eight is = let least = is.least in let most = is.most in omega (arith, eight, least, most)

-- an edge is given to its input
pub edge-given : (kept : List Event) (x : Edge) (cs : List ChannelState) (d new : ChannelState) → length cs ≡ 8 → is_input x.channel ≡ true → new ≡ record (get_or cs (x.channel - 24) d) { unread = after_own_edge (get_or cs (x.channel - 24) d).sensitivity kept (get_or cs (x.channel - 24) d).unread x } → set cs (x.channel - 24) new ≡ each_channel (after_edges kept (x ∷ [])) cs
edge-given kept x cs d new eight is_in made =
    ap (λ (ys : List ChannelState). set ys (x.channel - 24) new) (sym (each-same cs eight))
    ∙ set-inputs (λ k. channel_at cs k) (λ k. after_edges kept (x ∷ []) k (channel_at cs k)) x.channel new own here other
  where
    own : IsInput x.channel
    own = input-range x.channel is_in

    at : get_or cs (x.channel - 24) d ≡ channel_at cs x.channel
    at = get_or_default cs (x.channel - 24) d closed_channel (there cs x.channel eight own)

    here : new ≡ after_edges kept (x ∷ []) x.channel (channel_at cs x.channel)
    here =
        made
        ∙ ap (λ (d : ChannelState). record d { unread = after_own_edge d.sensitivity kept d.unread x }) at
        ∙ sym (ap (λ (b : Bool). record (channel_at cs x.channel) { unread = fold (after_own_edge (channel_at cs x.channel).sensitivity kept) (channel_at cs x.channel).unread (cond b (x ∷ []) []) }) (eq-eqb x.channel x.channel refl))

    other : (k : ℕ) → k ≢ x.channel → channel_at cs k ≡ after_edges kept (x ∷ []) k (channel_at cs k)
    other k differs =
        sym (ap (λ (b : Bool). record (channel_at cs k) { unread = fold (after_own_edge (channel_at cs k).sensitivity kept) (channel_at cs k).unread (cond b (x ∷ []) []) }) (ne_eqb x.channel k (λ e. differs (sym e))))

-- the edges up to a place, and the one at it
pub edges-more : (kept : List Event) (edges : List Edge) (i : ℕ) (d : Edge) (old cs new : List ChannelState) → i < length edges → cs ≡ each_channel (after_edges kept (take i edges)) old → new ≡ each_channel (after_edges kept (get_or edges i d ∷ [])) cs → new ≡ each_channel (after_edges kept (take (i + 1) edges)) old
edges-more kept edges i d old cs new lt so_far more =
    more
    ∙ ap (λ (ys : List ChannelState). each_channel (after_edges kept (get_or edges i d ∷ [])) ys) so_far
    ∙ each-each (after_edges kept (take i edges)) (after_edges kept (get_or edges i d ∷ [])) old
    ∙ map-inputs _ _ (λ k is. one k (channel_at old k))
  where
    one : (k : ℕ) (c : ChannelState) → after_edges kept (get_or edges i d ∷ []) k (after_edges kept (take i edges) k c) ≡ after_edges kept (take (i + 1) edges) k c
    one k c =
        ap (λ (u : Unread). record c { unread = u })
        (sym (fold-append (after_own_edge c.sensitivity kept) c.unread (filter (λ x. x.channel == k) (take i edges)) (filter (λ x. x.channel == k) (get_or edges i d ∷ [])))
        ∙ sym (ap (λ xs. fold (after_own_edge c.sensitivity kept) c.unread xs) (filter_more (λ x. x.channel == k) edges i d lt)))

-- the events up to a place, and the one at it
pub events-more : (kept : List Event) (i : ℕ) (d : Event) (old cs new : List ChannelState) → i < length kept → cs ≡ each_channel (after_events (take i kept)) old → new ≡ each_channel (after_events (get_or kept i d ∷ [])) cs → new ≡ each_channel (after_events (take (i + 1) kept)) old
events-more kept i d old cs new lt so_far more =
    more
    ∙ ap (λ (ys : List ChannelState). each_channel (after_events (get_or kept i d ∷ [])) ys) so_far
    ∙ each-each (after_events (take i kept)) (after_events (get_or kept i d ∷ [])) old
    ∙ map-inputs _ _ (λ k is. one k (channel_at old k))
  where
    one : (k : ℕ) (c : ChannelState) → after_events (get_or kept i d ∷ []) k (after_events (take i kept) k c) ≡ after_events (take (i + 1) kept) k c
    one k c =
        ap (λ (v : ℕ). record c { sensitivity = v })
        (sym (fold-append (λ _ e. e.value) c.sensitivity (filter (λ e. e.channel == k) (take i kept)) (filter (λ e. e.channel == k) (get_or kept i d ∷ [])))
        ∙ sym (ap (λ xs. last_value c.sensitivity xs) (filter_more (λ e. e.channel == k) kept i d lt)))

-- inputs that all are closed
pub all-closed : (cs : List ChannelState) → ((k : ℕ) → k < length cs → get_or cs k closed_channel ≡ closed_channel) → cs ≡ replicate (length cs) closed_channel
all-closed [] each = refl
all-closed (c ∷ cs) each =
    ap (λ x. x ∷ cs) (each 0 (omega arith))
    ∙ ap (λ xs. closed_channel ∷ xs) (all-closed cs (λ k lt. each (suc k) (omega (arith, lt))))
