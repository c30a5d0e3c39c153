-- The right replies to requests on recordings, computed on a small history.
use Rattle.std.proofs.Common.{◌≡◌, ℕ, List, [], ◌∷◌, ◌++◌, refl}
use Rattle.std.specs.Prelude.{Option, pos, negsuc, Some}
use Rattle.rtio_types.specs.Recordings.{Recorded}
use Rattle.rtio_types.specs.declared.request.Request.{Request}
use Rattle.rtio_types.specs.declared.request.Request.TheVariants as ask
use Rattle.rtio_types.specs.declared.request.Reply.{Reply}
use Rattle.rtio_types.specs.declared.request.Reply.TheVariants as answer
use Rattle.rtio_core.specs.declared.data.Act.TheVariants.{Start, Asked}
use Rattle.rtio_core.specs.declared.data.Entry.{Entry}
use Rattle.rtio_core.specs.Reply.{reply_to}

abbrev asked : Request → Reply → Entry
asked request reply = record { chair = 0; act = Asked request reply 0 }

abbrev begin : Entry
begin = record { chair = 0; act = Start (record { source = 0; function = 0; args = []; rid = 0; pos = 0 }) (pos 0) 0 }

abbrev right : List Entry → Request → Option Reply
right history request = reply_to (record { lanes = 8; depth = 128; cost = 0; horizon = 134217728; edges = []; holds = []; kept = [] }) history request 0

-- one output, in blocks of these lengths
abbrev block : ℕ → Recorded
block len = record { events = record { channel = 0; address = 0; value = 1; stamp = pos 0 } ∷ []; length = pos len }

-- the names `p` and `q`
abbrev p : List ℕ
p = 112 ∷ []

abbrev q : List ℕ
q = 113 ∷ []

abbrev saved_both : List Entry
saved_both = begin ∷ asked (ask.Save p (block 80)) answer.Done ∷ asked (ask.Save q (block 90)) answer.Done ∷ []

second_handle : right saved_both (ask.Handle q) ≡ Some (answer.Handle (pos 8193))
second_handle = refl

fetched : right saved_both (ask.Fetch p) ≡ Some (answer.Trace (block 80))
fetched = refl

handled : right saved_both (ask.FetchHandle (pos 8193)) ≡ Some (answer.Trace (block 90))
handled = refl

beyond : right saved_both (ask.FetchHandle (pos 8194)) ≡ Some answer.OldHandle
beyond = refl

negative : right saved_both (ask.FetchHandle (negsuc 0)) ≡ Some answer.OldHandle
negative = refl

-- a kept name keeps its place
abbrev saved_again : List Entry
saved_again = saved_both ++ asked (ask.Save p (block 70)) answer.Done ∷ []

fetched_again : right saved_again (ask.Fetch p) ≡ Some (answer.Trace (block 70))
fetched_again = refl

first_handle : right saved_again (ask.Handle p) ≡ Some (answer.Handle (pos 12288))
first_handle = refl

old : right saved_again (ask.FetchHandle (pos 8193)) ≡ Some answer.OldHandle
old = refl

-- an erased one gives its place up
abbrev erased_first : List Entry
erased_first = saved_again ++ asked (ask.Erase p) answer.Done ∷ []

gone : right erased_first (ask.Fetch p) ≡ Some answer.NoTrace
gone = refl

gone_twice : right erased_first (ask.Erase p) ≡ Some answer.NoTrace
gone_twice = refl

moved_up : right erased_first (ask.Handle q) ≡ Some (answer.Handle (pos 16384))
moved_up = refl

-- a refused save changes nothing
refused : right (saved_both ++ asked (ask.Save p (block 70)) answer.Full ∷ []) (ask.FetchHandle (pos 8192)) ≡ Some (answer.Trace (block 80))
refused = refl
