-- The replies to a request for an edge fit it.
use Rattle.std.proofs.Common.{◌≡◌, ℕ, Bool, true, false, List, [], ◌∷◌, ◌++◌, refl, ap, sym, ◌∙◌, cond}
use Rattle.std.specs.Prelude.{ℤ, pos, int_le, int_lt, Some, None, filter, fold, length, nat_lt, nat_le, ◌==◌, ◌&&◌}
use Rattle.std.specs.List.{list_all}
use Rattle.rtio_types.specs.declared.event.Edge.{Edge}
use Rattle.rtio_types.specs.declared.event.Event.{Event}
use Rattle.rtio_types.specs.declared.request.Reply.{Reply}
use Rattle.rtio_types.specs.declared.request.Reply.TheVariants as answer
use Rattle.rtio_types.specs.declared.request.Request.TheVariants as kind
use Rattle.rtio_types.specs.Requests.{fits_request}
use Rattle.rtio_types.specs.Time.{reading}
use Rattle.rtio_types.specs.Board.{is_input}
use Rattle.rtio_input.specs.Script.{are_edges_ok, are_rising, edge_cycle, edges_up_to, is_edge_ok}
use Rattle.rtio_input.specs.Channel.{Unread, after_edge, after_overflow, after_read, edge_reply, nothing_unread, reply_to_stamps, without_first}
use Rattle.rtio_input.specs.Past.{InputStep, Overflowed, Read, Reset, after_step, is_seen, input_step_at, unread_at, unread_from}
use Rattle.rtio_input.proofs.Lists.{left, right, all-append, all-filter, all-weaker}

abbrev are_positive : List ℤ → Bool
are_positive stamps = list_all (λ z. int_le (pos 0) z) stamps

positive-rest : (stamps : List ℤ) → are_positive stamps ≡ true → are_positive (without_first stamps) ≡ true
positive-rest [] all = refl
positive-rest (x ∷ stamps) all = right (int_le (pos 0) x) (are_positive stamps) all

positive-step : (channel : ℕ) (u : Unread) (s : InputStep) → are_positive u.stamps ≡ true → are_positive (after_step channel u s).stamps ≡ true
positive-step channel u (Read at k) all = by-channel (k == channel)
  where
    by-channel : (b : Bool) → are_positive (cond b (after_read u) u).stamps ≡ true
    by-channel true = positive-rest u.stamps all
    by-channel false = all
positive-step channel u (Overflowed at k) all = by-channel (k == channel)
  where
    by-channel : (b : Bool) → are_positive (cond b (after_overflow u) u).stamps ≡ true
    by-channel true = all
    by-channel false = all
positive-step channel u (Reset at) all = refl

positive-steps : (channel : ℕ) (steps : List InputStep) (u : Unread) → are_positive u.stamps ≡ true → are_positive (fold (after_step channel) u steps).stamps ≡ true
positive-steps channel [] u all = all
positive-steps channel (s ∷ steps) u all = positive-steps channel steps (after_step channel u s) (positive-step channel u s all)

positive-edge : (u : Unread) (stamp : ℤ) → int_le (pos 0) stamp ≡ true → are_positive u.stamps ≡ true → are_positive (after_edge u stamp).stamps ≡ true
positive-edge u stamp here all = by-room (nat_lt (length u.stamps) 64)
  where
    by-room : (b : Bool) → are_positive (cond b (record u { stamps = u.stamps ++ stamp ∷ [] }) (record u { overflow = true })).stamps ≡ true
    by-room true = all-append (λ z. int_le (pos 0) z) u.stamps (stamp ∷ []) all (rw here refl)
    by-room false = all

positive-from : (channel : ℕ) (edges : List Edge) (steps : List InputStep) (u : Unread) → list_all (λ x. int_le (pos 0) x.stamp) edges ≡ true → are_positive u.stamps ≡ true → are_positive (unread_from channel edges steps u).stamps ≡ true
positive-from channel [] steps u edges_ok all = positive-steps channel steps u all
positive-from channel (x ∷ edges) steps u edges_ok all =
    positive-from channel edges (filter (λ s. nat_le (edge_cycle x) (input_step_at s)) steps)
    (after_edge (fold (after_step channel) u (filter (λ s. nat_lt (input_step_at s) (edge_cycle x)) steps)) x.stamp)
    (right (int_le (pos 0) x.stamp) (list_all (λ y. int_le (pos 0) y.stamp) edges) edges_ok)
    (positive-edge (fold (after_step channel) u (filter (λ s. nat_lt (input_step_at s) (edge_cycle x)) steps)) x.stamp
    (left (int_le (pos 0) x.stamp) (list_all (λ y. int_le (pos 0) y.stamp) edges) edges_ok)
    (positive-steps channel (filter (λ s. nat_lt (input_step_at s) (edge_cycle x)) steps) u all))

edge-positive : (x : Edge) → is_edge_ok x ≡ true → int_le (pos 0) x.stamp ≡ true
edge-positive x ok = right (is_input x.channel) (int_le (pos 0) x.stamp) (left (is_input x.channel && int_le (pos 0) x.stamp) (int_lt x.stamp (pos 4611686018427387904)) ok)

-- no unread stamp is below 0
unread-positive : (script : List Edge) (outputs : List Event) (steps : List InputStep) (counter channel : ℕ) → are_edges_ok script ≡ true → are_positive (unread_at script outputs steps counter channel).stamps ≡ true
unread-positive script outputs steps counter channel ok =
    let each : list_all is_edge_ok script ≡ true = right (nat_le (length script) 4096) (list_all is_edge_ok script) (left (nat_le (length script) 4096 && list_all is_edge_ok script) (are_rising script) ok) in
    positive-from channel (filter (is_seen outputs steps channel) (edges_up_to counter script)) steps nothing_unread
    (all-filter (is_seen outputs steps channel) (λ x. int_le (pos 0) x.stamp) (edges_up_to counter script)
    (all-filter (λ x. nat_lt 0 (edge_cycle x) && nat_le (edge_cycle x) counter) (λ x. int_le (pos 0) x.stamp) script
    (all-weaker is_edge_ok (λ x. int_le (pos 0) x.stamp) script each (λ x passes. edge-positive x passes))))
    refl

-- so the reply fits
reply-fits : (u : Unread) (counter channel : ℕ) (up_to : ℤ) (reply : Reply) → are_positive u.stamps ≡ true → edge_reply u counter up_to ≡ Some reply → fits_request (kind.Edge channel up_to) reply ≡ true
reply-fits u counter channel up_to reply all is = by-mark u.overflow u.stamps all is
  where
    fits-as : (r : Reply) → Some r ≡ Some reply → fits_request (kind.Edge channel up_to) r ≡ true → fits_request (kind.Edge channel up_to) reply ≡ true
    fits-as r same fits = let here : r ≡ reply = cc in ap (fits_request (kind.Edge channel up_to)) (sym here) ∙ fits

    by-moment : (b : Bool) → cond b (Some answer.NoEdge) None ≡ Some reply → fits_request (kind.Edge channel up_to) reply ≡ true
    by-moment true is = fits-as answer.NoEdge is refl
    by-moment false is = absurd (cc)

    by-stamp : (b : Bool) (x : ℤ) → int_le (pos 0) x ≡ true → cond b (Some (answer.Stamp x)) (Some answer.NoEdge) ≡ Some reply → fits_request (kind.Edge channel up_to) reply ≡ true
    by-stamp true x here is = fits-as (answer.Stamp x) is here
    by-stamp false x here is = fits-as answer.NoEdge is refl

    by-stamps : (stamps : List ℤ) → are_positive stamps ≡ true → reply_to_stamps stamps counter up_to ≡ Some reply → fits_request (kind.Edge channel up_to) reply ≡ true
    by-stamps [] all is = by-moment (int_le up_to (pos (reading counter))) is
    by-stamps (x ∷ xs) all is = by-stamp (int_lt x up_to) x (left (int_le (pos 0) x) (are_positive xs) all) is

    by-mark : (b : Bool) (stamps : List ℤ) → are_positive stamps ≡ true → cond b (Some answer.Overflow) (reply_to_stamps stamps counter up_to) ≡ Some reply → fits_request (kind.Edge channel up_to) reply ≡ true
    by-mark true stamps all is = fits-as answer.Overflow is refl
    by-mark false stamps all is = by-stamps stamps all is

pub replies-fit : (script : List Edge) (outputs : List Event) (steps : List InputStep) (counter channel : ℕ) (up_to : ℤ) (reply : Reply) → are_edges_ok script ≡ true → edge_reply (unread_at script outputs steps counter channel) counter up_to ≡ Some reply → fits_request (kind.Edge channel up_to) reply ≡ true
replies-fit script outputs steps counter channel up_to reply ok is =
    reply-fits (unread_at script outputs steps counter channel) counter channel up_to reply (unread-positive script outputs steps counter channel ok) is
