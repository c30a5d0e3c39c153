-- What the inputs stand for: after a new cycle, a reply and a reset.
use Rattle.std.proofs.Common.{◌≡◌, ◌≢◌, ℕ, ◌+◌, ◌-◌, ◌<◌, ◌≤◌, Bool, true, false, List, [], ◌∷◌, ◌++◌, length, map, set, refl, sym, subst, ap, ◌∙◌, arith, cond, append-nil}
use Rattle.std.specs.Prelude.{Option, Some, filter, fold, nat_lt, nat_le, ◌==◌, ◌&&◌}
use Rattle.std.specs.List.{list_all}
use Rattle.std.proofs.lemmas.Bool.{ltb-true, leb-true, eqb-true, ne_eqb, eq-eqb, lt-ltb, le-leb}
use Rattle.std.proofs.lemmas.List.Elements.{filter-append}
use Rattle.rtio_types.specs.declared.event.Event.{Event}
use Rattle.rtio_types.specs.declared.event.Edge.{Edge}
use Rattle.rtio_types.specs.declared.request.Reply.{Reply}
use Rattle.rtio_types.specs.declared.request.Reply.TheVariants as answer
use Rattle.rtio_types.specs.Time.{cycle_of}
use Rattle.rtio_types.specs.Board.{is_input}
use Rattle.rtio_input.specs.Script.{are_edges_ok, are_rising, edge_cycle, edges_up_to, is_edge_ok, later_edges}
use Rattle.rtio_input.specs.Channel.{ChannelState, InputsState, Unread, after_edge, after_overflow, after_read, channel_at, closed_channel, nothing_unread}
use Rattle.rtio_input.specs.Past.{InputStep, Overflowed, Read, Reset, InputsStandFor, after_step, are_made_by, are_put_out_by, channel_after, is_after, is_seen, last_sensitivity, last_value, seen_edges, sees, sensitivity_at, input_step_at, unread_at, unread_from}
use Rattle.rtio_input.specs.Calls.{after_ask, after_cycle, after_own_edge, after_reset, answered_steps, are_of_cycle, channel_after_cycle, closed_channels, each_channel, passed_before, sensitivity_among}
use Rattle.rtio_input.proofs.Lists.{left, right, all-append, all-filter, all-kept, all-weaker, filter-filter, filter-same}
use Rattle.rtio_input.proofs.Scripts.{none-yet, rising-by-cycle, up-to-next}
use Rattle.rtio_input.proofs.Growing.{unread-edges, unread-step, with_edge}
use Rattle.rtio_input.proofs.Seen.{last_sensitivity-more, last_sensitivity-reset, seen-step, sensitivity-later, sensitivity-now}
use Rattle.rtio_input.proofs.Resets.{last_reset-ask}
use Rattle.rtio_input.proofs.Each.{IsInput, channel_at-map, input-range, inputs, map-inputs, set-inputs}

-- the edges and inputs as one value
abbrev pub state_of : List Edge → List ChannelState → InputsState
state_of edges channels = record { left = edges; channels = channels }

-- an edge of the channel that is seen is kept, and no other is
one-own : (before : ℕ) (kept : List Event) (b t : Bool) (u : Unread) (x : Edge) (xs ys : List Edge) → ((v : Unread) → fold with_edge v xs ≡ fold (after_own_edge before kept) v ys) → (b ≡ true → t ≡ sees (sensitivity_among before kept x) x.rising) → fold with_edge u (cond (b && t) (x ∷ xs) xs) ≡ fold (after_own_edge before kept) u (cond b (x ∷ ys) ys)
one-own before kept false t u x xs ys rest same = rest u
one-own before kept true true u x xs ys rest same =
    rest (after_edge u x.stamp)
    ∙ ap (λ (c : Bool). fold (after_own_edge before kept) (cond c (after_edge u x.stamp) u) ys) (same refl)
one-own before kept true false u x xs ys rest same =
    rest u
    ∙ ap (λ (c : Bool). fold (after_own_edge before kept) (cond c (after_edge u x.stamp) u) ys) (same refl)

own-edges : (test seen own : Edge → Bool) (sensitivity : Edge → ℕ) (before : ℕ) (kept : List Event) (edges : List Edge) → list_all test edges ≡ true → ((x : Edge) → seen x ≡ (own x && sees (sensitivity x) x.rising)) → ((x : Edge) → test x ≡ true → own x ≡ true → sensitivity x ≡ sensitivity_among before kept x) → (u : Unread) → fold with_edge u (filter seen edges) ≡ fold (after_own_edge before kept) u (filter own edges)
own-edges test seen own sensitivity before kept [] all parts same u = refl
own-edges test seen own sensitivity before kept (x ∷ edges) all parts same u =
    ap (λ (c : Bool). fold with_edge u (cond c (x ∷ filter seen edges) (filter seen edges))) (parts x)
    ∙ one-own before kept (own x) (sees (sensitivity x) x.rising) u x (filter seen edges) (filter own edges)
    (own-edges test seen own sensitivity before kept edges (right (test x) (list_all test edges) all) parts same)
    (λ is. ap (λ (s : ℕ). sees s x.rising) (same x (left (test x) (list_all test edges) all) is))

-- what is unread with a cycle more
pub unread-cycle : (script : List Edge) (outputs kept : List Event) (steps : List InputStep) (counter cycle k : ℕ) → counter < cycle → are_rising script ≡ true → list_all (λ x. nat_le cycle (edge_cycle x)) (later_edges counter script) ≡ true → are_put_out_by counter outputs ≡ true → are_made_by counter steps ≡ true → are_of_cycle cycle kept ≡ true → fold (after_own_edge (last_sensitivity outputs steps counter k) kept) (unread_at script outputs steps counter k) (filter (λ x. x.channel == k) (filter (λ x. edge_cycle x == cycle) (later_edges counter script))) ≡ unread_at script (outputs ++ kept) steps cycle k
unread-cycle script outputs kept steps counter cycle k lt rise passed by made of =
    sym (own-edges (λ x. edge_cycle x == cycle) (is_seen (outputs ++ kept) steps k) (λ x. x.channel == k) (sensitivity_at (outputs ++ kept) steps) (last_sensitivity outputs steps counter k) kept new all_new (λ x. refl) now (unread_at script outputs steps counter k))
    ∙ sym (unread-edges k (seen_edges script outputs steps counter k) (filter (is_seen (outputs ++ kept) steps k) new) steps nothing_unread cycle earlier (all-filter (is_seen (outputs ++ kept) steps k) (λ x. edge_cycle x == cycle) new all_new))
    ∙ ap (λ (es : List Edge). unread_from k es steps nothing_unread) (sym seen)
  where
    new : List Edge
    new = filter (λ x. edge_cycle x == cycle) (later_edges counter script)

    all_new : list_all (λ x. edge_cycle x == cycle) new ≡ true
    all_new = all-kept (λ x. edge_cycle x == cycle) (later_edges counter script)

    earlier : list_all (λ s. nat_lt (input_step_at s) cycle) steps ≡ true
    earlier = all-weaker (λ s. nat_le (input_step_at s) counter) (λ s. nat_lt (input_step_at s) cycle) steps made (λ s h. lt-ltb (input_step_at s) cycle (less s (leb-true (input_step_at s) counter h)))
      where
        less : (s : InputStep) → input_step_at s ≤ counter → input_step_at s < cycle
        less s le = omega (arith, le, lt)

    now : (x : Edge) → (edge_cycle x == cycle) ≡ true → (x.channel == k) ≡ true → sensitivity_at (outputs ++ kept) steps x ≡ sensitivity_among (last_sensitivity outputs steps counter k) kept x
    now x at own = sensitivity-now outputs kept steps counter cycle k x (eqb-true x.channel k own) (eqb-true (edge_cycle x) cycle at) lt by made of

    old : filter (is_seen (outputs ++ kept) steps k) (edges_up_to counter script) ≡ seen_edges script outputs steps counter k
    old =
        filter-same (λ x. nat_lt 0 (edge_cycle x) && nat_le (edge_cycle x) counter) _ _ (edges_up_to counter script) (all-kept _ script)
        (λ x h. ap (λ (s : ℕ). (x.channel == k) && sees s x.rising) (sensitivity-later outputs kept steps counter cycle x (leb-true (edge_cycle x) counter (right (nat_lt 0 (edge_cycle x)) (nat_le (edge_cycle x) counter) h)) lt of))

    seen : seen_edges script (outputs ++ kept) steps cycle k ≡ seen_edges script outputs steps counter k ++ filter (is_seen (outputs ++ kept) steps k) new
    seen =
        ap (λ (es : List Edge). filter (is_seen (outputs ++ kept) steps k) es) (up-to-next counter cycle script lt (rising-by-cycle script rise) passed)
        ∙ filter-append (is_seen (outputs ++ kept) steps k) (edges_up_to counter script) new
        ∙ ap (λ (es : List Edge). es ++ filter (is_seen (outputs ++ kept) steps k) new) old

-- an input with a cycle more
pub channel-cycle : (script : List Edge) (outputs kept : List Event) (steps : List InputStep) (counter cycle k : ℕ) → counter < cycle → are_rising script ≡ true → list_all (λ x. nat_le cycle (edge_cycle x)) (later_edges counter script) ≡ true → are_put_out_by counter outputs ≡ true → are_made_by counter steps ≡ true → are_of_cycle cycle kept ≡ true → channel_after_cycle kept (filter (λ x. edge_cycle x == cycle) (later_edges counter script)) k (channel_after script outputs steps counter k) ≡ channel_after script (outputs ++ kept) steps cycle k
channel-cycle script outputs kept steps counter cycle k lt rise passed by made of =
    ap (λ (u : Unread). record { unread = u; sensitivity = last_value (last_sensitivity outputs steps counter k) (filter (λ e. e.channel == k) kept) }) (unread-cycle script outputs kept steps counter cycle k lt rise passed by made of)
    ∙ ap (λ (s : ℕ). record { unread = unread_at script (outputs ++ kept) steps cycle k; sensitivity = s }) (sym (last_sensitivity-more outputs kept steps counter cycle k lt made of))

-- the inputs after a cycle
pub stands-cycle : (s : InputsState) (script : List Edge) (outputs kept : List Event) (steps : List InputStep) (counter cycle : ℕ) → counter < cycle → passed_before cycle s ≡ true → are_of_cycle cycle kept ≡ true → InputsStandFor s script outputs steps counter → InputsStandFor (after_cycle s cycle kept) script (outputs ++ kept) steps cycle
stands-cycle s script outputs kept steps counter cycle lt passed of h = record {
  ok = h.ok;
  put_out =
      all-append (λ e. nat_le (cycle_of e) cycle) outputs kept
      (all-weaker (λ e. nat_le (cycle_of e) counter) (λ e. nat_le (cycle_of e) cycle) outputs h.put_out (λ e p. le-leb (cycle_of e) cycle (up (cycle_of e) (leb-true (cycle_of e) counter p))))
      (all-weaker (λ e. cycle_of e == cycle) (λ e. nat_le (cycle_of e) cycle) kept of (λ e p. le-leb (cycle_of e) cycle (same (cycle_of e) (eqb-true (cycle_of e) cycle p))));
  made = all-weaker (λ s. nat_le (input_step_at s) counter) (λ s. nat_le (input_step_at s) cycle) steps h.made (λ s p. le-leb (input_step_at s) cycle (up (input_step_at s) (leb-true (input_step_at s) counter p)));
  left =
      ap (λ (es : List Edge). later_edges cycle es) h.left
      ∙ filter-filter (λ x. nat_lt cycle (edge_cycle x)) (λ x. nat_lt counter (edge_cycle x)) script (λ x p. lt-ltb counter (edge_cycle x) (over (edge_cycle x) (ltb-true cycle (edge_cycle x) p)));
  channels =
      ap (λ (es : List Edge). each_channel (channel_after_cycle kept (filter (λ x. edge_cycle x == cycle) es)) s.channels) h.left
      ∙ ap (λ (cs : List ChannelState). each_channel (channel_after_cycle kept (filter (λ x. edge_cycle x == cycle) (later_edges counter script))) cs) h.channels
      ∙ map-inputs _ _ (λ k is. one k is);
}
  where
    up : (n : ℕ) → n ≤ counter → n ≤ cycle
    up n le = omega (arith, le, lt)

    same : (n : ℕ) → n ≡ cycle → n ≤ cycle
    same n is = omega (arith, is)

    over : (n : ℕ) → cycle < n → counter < n
    over n less = omega (arith, less, lt)

    passes : list_all (λ x. nat_le cycle (edge_cycle x)) (later_edges counter script) ≡ true
    passes = ap (λ (es : List Edge). list_all (λ x. nat_le cycle (edge_cycle x)) es) (sym h.left) ∙ passed

    one : (k : ℕ) → IsInput k → channel_after_cycle kept (filter (λ x. edge_cycle x == cycle) (later_edges counter script)) k (channel_at (map (channel_after script outputs steps counter) inputs) k) ≡ channel_after script (outputs ++ kept) steps cycle k
    one k is =
        ap (channel_after_cycle kept (filter (λ x. edge_cycle x == cycle) (later_edges counter script)) k) (channel_at-map (channel_after script outputs steps counter) k is)
        ∙ channel-cycle script outputs kept steps counter cycle k lt (right (nat_le (length script) 4096 && list_all is_edge_ok script) (are_rising script) h.ok) passes h.put_out h.made of

-- what is unread with a step more
pub unread-at-step : (script : List Edge) (outputs : List Event) (steps : List InputStep) (s : InputStep) (counter k : ℕ) → counter ≤ input_step_at s → unread_at script outputs (steps ++ s ∷ []) counter k ≡ after_step k (unread_at script outputs steps counter k) s
unread-at-step script outputs steps s counter k le =
    ap (λ (es : List Edge). unread_from k es (steps ++ s ∷ []) nothing_unread) (seen-step script outputs steps s counter k le)
    ∙ unread-step k (seen_edges script outputs steps counter k) steps s nothing_unread
    (all-filter (is_seen outputs steps k) (λ x. nat_le (edge_cycle x) (input_step_at s)) (edges_up_to counter script)
    (all-weaker (λ x. nat_lt 0 (edge_cycle x) && nat_le (edge_cycle x) counter) (λ x. nat_le (edge_cycle x) (input_step_at s)) (edges_up_to counter script) (all-kept _ script)
    (λ x h. le-leb (edge_cycle x) (input_step_at s) (early x (leb-true (edge_cycle x) counter (right (nat_lt 0 (edge_cycle x)) (nat_le (edge_cycle x) counter) h))))))
  where
    early : (x : Edge) → edge_cycle x ≤ counter → edge_cycle x ≤ input_step_at s
    early x less = omega (arith, less, le)

made-step : (steps : List InputStep) (s : InputStep) (counter : ℕ) → input_step_at s ≤ counter → are_made_by counter steps ≡ true → are_made_by counter (steps ++ s ∷ []) ≡ true
made-step steps s counter le made =
    let here : nat_le (input_step_at s) counter ≡ true = le-leb (input_step_at s) counter le in
    all-append (λ t. nat_le (input_step_at t) counter) steps (s ∷ []) made (ap (λ (b : Bool). b && true) here)

-- one input has other edges unread
set-unread : (f g : ℕ → ChannelState) (cs : List ChannelState) (channel : ℕ) (change : Unread → Unread) → cs ≡ map f inputs → IsInput channel → g channel ≡ record (f channel) { unread = change (f channel).unread } → ((k : ℕ) → k ≢ channel → f k ≡ g k) → set cs (channel - 24) (record (channel_at cs channel) { unread = change (channel_at cs channel).unread }) ≡ map g inputs
set-unread f g cs channel change seen is here other =
    ap (λ (ys : List ChannelState). set ys (channel - 24) (record (channel_at ys channel) { unread = change (channel_at ys channel).unread })) seen
    ∙ set-inputs f g channel (record (channel_at (map f inputs) channel) { unread = change (channel_at (map f inputs) channel).unread }) is
    (ap (λ (c : ChannelState). record c { unread = change c.unread }) (channel_at-map f channel is) ∙ sym here) other

-- the inputs after an edge was read
stands-read : (s : InputsState) (script : List Edge) (outputs : List Event) (steps : List InputStep) (counter channel : ℕ) → IsInput channel → InputsStandFor s script outputs steps counter → InputsStandFor (record s { channels = set s.channels (channel - 24) (record (channel_at s.channels channel) { unread = after_read (channel_at s.channels channel).unread }) }) script outputs (steps ++ Read counter channel ∷ []) counter
stands-read s script outputs steps counter channel is h = record {
  ok = h.ok;
  put_out = h.put_out;
  made = made-step steps (Read counter channel) counter (omega arith) h.made;
  left = h.left;
  channels = set-unread (channel_after script outputs steps counter) (channel_after script outputs (steps ++ Read counter channel ∷ []) counter) s.channels channel after_read h.channels is here other;
}
  where
    stays : (k : ℕ) → last_sensitivity outputs (steps ++ Read counter channel ∷ []) counter k ≡ last_sensitivity outputs steps counter k
    stays k = ap (λ (r : Option ℕ). last_value 0 (filter (λ e. (e.channel == k) && is_after r (cycle_of e)) outputs)) (last_reset-ask (counter + 1) steps (Read counter channel) tt)

    at : (k : ℕ) (b : Bool) → (channel == k) ≡ b → channel_after script outputs (steps ++ Read counter channel ∷ []) counter k ≡ record { unread = cond b (after_read (unread_at script outputs steps counter k)) (unread_at script outputs steps counter k); sensitivity = last_sensitivity outputs steps counter k }
    at k b is_k =
        ap (λ (u : Unread). record { unread = u; sensitivity = last_sensitivity outputs (steps ++ Read counter channel ∷ []) counter k }) (unread-at-step script outputs steps (Read counter channel) counter k (omega arith) ∙ ap (λ (c : Bool). cond c (after_read (unread_at script outputs steps counter k)) (unread_at script outputs steps counter k)) is_k)
        ∙ ap (λ (v : ℕ). record { unread = cond b (after_read (unread_at script outputs steps counter k)) (unread_at script outputs steps counter k); sensitivity = v }) (stays k)

    here : channel_after script outputs (steps ++ Read counter channel ∷ []) counter channel ≡ record (channel_after script outputs steps counter channel) { unread = after_read (unread_at script outputs steps counter channel) }
    here = at channel true (eq-eqb channel channel refl)

    other : (k : ℕ) → k ≢ channel → channel_after script outputs steps counter k ≡ channel_after script outputs (steps ++ Read counter channel ∷ []) counter k
    other k differs = sym (at k false (ne_eqb channel k (λ e. differs (sym e))))

-- the inputs after an overflow was told
stands-told : (s : InputsState) (script : List Edge) (outputs : List Event) (steps : List InputStep) (counter channel : ℕ) → IsInput channel → InputsStandFor s script outputs steps counter → InputsStandFor (record s { channels = set s.channels (channel - 24) (record (channel_at s.channels channel) { unread = after_overflow (channel_at s.channels channel).unread }) }) script outputs (steps ++ Overflowed counter channel ∷ []) counter
stands-told s script outputs steps counter channel is h = record {
  ok = h.ok;
  put_out = h.put_out;
  made = made-step steps (Overflowed counter channel) counter (omega arith) h.made;
  left = h.left;
  channels = set-unread (channel_after script outputs steps counter) (channel_after script outputs (steps ++ Overflowed counter channel ∷ []) counter) s.channels channel after_overflow h.channels is here other;
}
  where
    stays : (k : ℕ) → last_sensitivity outputs (steps ++ Overflowed counter channel ∷ []) counter k ≡ last_sensitivity outputs steps counter k
    stays k = ap (λ (r : Option ℕ). last_value 0 (filter (λ e. (e.channel == k) && is_after r (cycle_of e)) outputs)) (last_reset-ask (counter + 1) steps (Overflowed counter channel) tt)

    at : (k : ℕ) (b : Bool) → (channel == k) ≡ b → channel_after script outputs (steps ++ Overflowed counter channel ∷ []) counter k ≡ record { unread = cond b (after_overflow (unread_at script outputs steps counter k)) (unread_at script outputs steps counter k); sensitivity = last_sensitivity outputs steps counter k }
    at k b is_k =
        ap (λ (u : Unread). record { unread = u; sensitivity = last_sensitivity outputs (steps ++ Overflowed counter channel ∷ []) counter k }) (unread-at-step script outputs steps (Overflowed counter channel) counter k (omega arith) ∙ ap (λ (c : Bool). cond c (after_overflow (unread_at script outputs steps counter k)) (unread_at script outputs steps counter k)) is_k)
        ∙ ap (λ (v : ℕ). record { unread = cond b (after_overflow (unread_at script outputs steps counter k)) (unread_at script outputs steps counter k); sensitivity = v }) (stays k)

    here : channel_after script outputs (steps ++ Overflowed counter channel ∷ []) counter channel ≡ record (channel_after script outputs steps counter channel) { unread = after_overflow (unread_at script outputs steps counter channel) }
    here = at channel true (eq-eqb channel channel refl)

    other : (k : ℕ) → k ≢ channel → channel_after script outputs steps counter k ≡ channel_after script outputs (steps ++ Overflowed counter channel ∷ []) counter k
    other k differs = sym (at k false (ne_eqb channel k (λ e. differs (sym e))))

-- the inputs after a reply that changes nothing
stands-same : (s : InputsState) (script : List Edge) (outputs : List Event) (steps : List InputStep) (counter channel : ℕ) → IsInput channel → InputsStandFor s script outputs steps counter → InputsStandFor (record s { channels = set s.channels (channel - 24) (record (channel_at s.channels channel) { unread = (channel_at s.channels channel).unread }) }) script outputs (steps ++ []) counter
stands-same s script outputs steps counter channel is h =
    subst (λ (ss : List InputStep). InputsStandFor (record s { channels = set s.channels (channel - 24) (record (channel_at s.channels channel) { unread = (channel_at s.channels channel).unread }) }) script outputs ss counter) (sym (append-nil steps))
    (record {
      ok = h.ok;
      put_out = h.put_out;
      made = h.made;
      left = h.left;
      channels = set-unread (channel_after script outputs steps counter) (channel_after script outputs steps counter) s.channels channel (λ u. u) h.channels is refl (λ k differs. refl);
    })

-- the inputs after a reply to a request for an edge
pub stands-asked : (s : InputsState) (script : List Edge) (outputs : List Event) (steps : List InputStep) (counter channel : ℕ) (reply : Option Reply) → is_input channel ≡ true → InputsStandFor s script outputs steps counter → InputsStandFor (after_ask s channel reply) script outputs (steps ++ answered_steps counter channel reply) counter
stands-asked s script outputs steps counter channel (Some (answer.Stamp x)) is h = stands-read s script outputs steps counter channel (input-range channel is) h
stands-asked s script outputs steps counter channel (Some answer.Overflow) is h = stands-told s script outputs steps counter channel (input-range channel is) h
stands-asked s script outputs steps counter channel reply is h = stands-same s script outputs steps counter channel (input-range channel is) h

-- the inputs after a reset
pub stands-reset : (s : InputsState) (script : List Edge) (outputs : List Event) (steps : List InputStep) (counter : ℕ) → InputsStandFor s script outputs steps counter → InputsStandFor (after_reset s) script outputs (steps ++ Reset counter ∷ []) counter
stands-reset s script outputs steps counter h = record {
  ok = h.ok;
  put_out = h.put_out;
  made = made-step steps (Reset counter) counter (omega arith) h.made;
  left = h.left;
  channels = map-inputs (λ k. closed_channel) (channel_after script outputs (steps ++ Reset counter ∷ []) counter) (λ k is. sym (closed k));
}
  where
    closed : (k : ℕ) → channel_after script outputs (steps ++ Reset counter ∷ []) counter k ≡ closed_channel
    closed k =
        ap (λ (u : Unread). record { unread = u; sensitivity = last_sensitivity outputs (steps ++ Reset counter ∷ []) counter k }) (unread-at-step script outputs steps (Reset counter) counter k (omega arith))
        ∙ ap (λ (v : ℕ). record { unread = nothing_unread; sensitivity = v }) (last_sensitivity-reset outputs steps counter k h.put_out)

-- the inputs at the beginning
pub stands-new : (edges left : List Edge) (channels : List ChannelState) → are_edges_ok edges ≡ true → left ≡ later_edges 0 edges → channels ≡ closed_channels → InputsStandFor (state_of left channels) edges [] [] 0
stands-new edges left channels ok is closed = record {
  ok = ok;
  put_out = refl;
  made = refl;
  left = is;
  channels = closed ∙ map-inputs (λ k. closed_channel) (channel_after edges [] [] 0) (λ k in_range. sym (first k));
}
  where
    first : (k : ℕ) → channel_after edges [] [] 0 k ≡ closed_channel
    first k = ap (λ (es : List Edge). record { unread = unread_from k (filter (is_seen [] [] k) es) [] nothing_unread; sensitivity = 0 }) (none-yet edges)

-- the input of a channel
pub channel-stands : (s : InputsState) (script : List Edge) (outputs : List Event) (steps : List InputStep) (counter channel : ℕ) → is_input channel ≡ true → InputsStandFor s script outputs steps counter → channel_at s.channels channel ≡ channel_after script outputs steps counter channel
channel-stands s script outputs steps counter channel is h =
    ap (λ (cs : List ChannelState). channel_at cs channel) h.channels ∙ channel_at-map (channel_after script outputs steps counter) channel (input-range channel is)
