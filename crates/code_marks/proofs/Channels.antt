-- The channel of a method is of the kind that its instructions take.
use Rattle.std.proofs.Common.{◌≡◌, ℕ, List, [], ◌∷◌, Option, Some, None, refl, ap, subst}
use Rattle.std.specs.Prelude.{Bool, true, false, IsTrue, codes, bytes_eq, is_some, unwrap_or, option_map, if◌then◌else◌}
use Rattle.std.proofs.lemmas.Bool.{false≢true}
use Rattle.rtio_types.specs.declared.board.ChannelKind.{ChannelKind}
use Rattle.rtio_types.specs.declared.board.ChannelKind.TheVariants as K
use Rattle.rtio_types.specs.Board.{channel_of_name, kind_of_channel, has_address}
use Rattle.kern_syntax.specs.Tree.{Bytes}
use Rattle.kern_calls.specs.declared.calls.Object.{Object}
use Rattle.kern_calls.specs.declared.calls.Object.TheVariants as O
use Rattle.kern_calls.specs.declared.calls.Operation.{Operation}
use Rattle.kern_calls.specs.declared.calls.Operation.TheVariants as P
use Rattle.kern_calls.specs.Calls.{look_up, object_of_channel, object_named, methods, method_of, method_named}

-- a channel has the kind that its object names
abbrev pub ObjectFits : Object → Type 0
ObjectFits (O.Channel kind c) = kind_of_channel c ≡ Some kind
ObjectFits object = Unit {0}

-- the channel of a method has the addresses that are written, or is an input where it is read
abbrev pub OperationFits : Operation → Type 0
OperationFits (P.On c) = IsTrue (has_address (kind_of_channel c) 0)
OperationFits (P.Off c) = IsTrue (has_address (kind_of_channel c) 0)
OperationFits (P.Pulse c) = IsTrue (has_address (kind_of_channel c) 0)
OperationFits (P.Write c) = kind_of_channel c ≡ Some K.OutRaw
OperationFits (P.GateRising c) = IsTrue (has_address (kind_of_channel c) 2)
OperationFits (P.GateFalling c) = IsTrue (has_address (kind_of_channel c) 2)
OperationFits (P.GateBoth c) = IsTrue (has_address (kind_of_channel c) 2)
OperationFits (P.Timestamp c) = kind_of_channel c ≡ Some K.Input
OperationFits (P.Count c) = kind_of_channel c ≡ Some K.Input
OperationFits op = Unit {0}

abbrev EachFits : List (Bytes × Operation) → Type 0
EachFits [] = Unit {0}
EachFits (entry ∷ rest) = OperationFits entry.1 × EachFits rest

channel_fits : (number : Option ℕ) (object : Object) → object_of_channel number ≡ Some object → ObjectFits object
channel_fits None object e = absurd (false≢true (ap is_some e))
channel_fits (Some n) object e = by_kind (kind_of_channel n) refl e
  where
    by_kind : (o : Option ChannelKind) → kind_of_channel n ≡ o → option_map (λ kind. O.Channel kind n) o ≡ Some object → ObjectFits object
    by_kind None q e' = absurd (false≢true (ap is_some e'))
    by_kind (Some kind) q e' = subst ObjectFits (ap (λ o. unwrap_or o object) e') q

object_fits : (name : Bytes) (object : Object) → object_named name ≡ Some object → ObjectFits object
object_fits name object e = by_name (bytes_eq name (codes "core")) (bytes_eq name (codes "core_dma")) e
  where
    by_name : (core dma : Bool) → (if core then Some O.Core else (if dma then Some O.CoreDma else object_of_channel (channel_of_name name))) ≡ Some object → ObjectFits object
    by_name true dma e' = subst ObjectFits (ap (λ o. unwrap_or o object) e') tt
    by_name false true e' = subst ObjectFits (ap (λ o. unwrap_or o object) e') tt
    by_name false false e' = channel_fits (channel_of_name name) object e'

methods_fit : (object : Object) → ObjectFits object → EachFits (methods object)
methods_fit O.Core fits = (tt, (tt, (tt, (tt, tt))))
methods_fit O.CoreDma fits = (tt, (tt, (tt, (tt, tt))))
methods_fit (O.Channel K.Out c) fits =
    let zero : has_address (kind_of_channel c) 0 ≡ true = ap (λ kind. has_address kind 0) fits in
    (zero, (zero, (zero, tt)))
methods_fit (O.Channel K.OutRaw c) fits =
    let zero : has_address (kind_of_channel c) 0 ≡ true = ap (λ kind. has_address kind 0) fits in
    (zero, (zero, (zero, (fits, tt))))
methods_fit (O.Channel K.Input c) fits =
    let two : has_address (kind_of_channel c) 2 ≡ true = ap (λ kind. has_address kind 2) fits in
    (two, (two, (two, (fits, (fits, tt)))))

entry_fits : (entries : List (Bytes × Operation)) → EachFits entries → (name : Bytes) (op : Operation) → look_up entries name ≡ Some op → OperationFits op
entry_fits [] fits name op e = absurd (false≢true (ap is_some e))
entry_fits (entry ∷ rest) fits name op e = by_test (bytes_eq name entry.0) e (entry_fits rest fits.1 name op)
  where
    by_test : (b : Bool) → (if b then Some entry.1 else look_up rest name) ≡ Some op → (look_up rest name ≡ Some op → OperationFits op) → OperationFits op
    by_test true e' k = subst OperationFits (ap (λ o. unwrap_or o op) e') fits.0
    by_test false e' k = k e'

method_fits : (object : Option Object) → ((o : Object) → object ≡ Some o → ObjectFits o) → (name : Bytes) (op : Operation) → method_of object name ≡ Some op → OperationFits op
method_fits None fits name op e = absurd (false≢true (ap is_some e))
method_fits (Some o) fits name op e = entry_fits (methods o) (methods_fit o (fits o refl)) name op e

-- a method of a name fits its channel
pub named_fits : (o m : Bytes) (op : Operation) → method_named o m ≡ Some op → OperationFits op
named_fits o m op e = method_fits (object_named o) (λ object q. object_fits o object q) m op e
