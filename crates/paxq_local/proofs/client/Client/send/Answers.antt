use Rattle.std.proofs.Common.{◌≡◌, ◌≤◌, List, length, Some, None, refl, sym, subst}
use Rattle.std.specs.Prelude.{slice_get}
use Rattle.std.proofs.lemmas.Bool.{ltb-false, ltb-true}
use Rattle.std.proofs.lemmas.Option.{slice_get_past, slice_get_read}
use Rattle.paxq_local.proofs.Giving.{given-none, sends-one}
use Rattle.paxq_local.proofs.client.Client.send.Goals as goal

pub returns-in-Some-clause-given : goal.returns-in-Some-clause-given
returns-in-Some-clause-given g c =
    let P : List g.row.D.Denot → Type 0 = λ xs. slice_get xs c.args.member ≡ Some c.in-Some.peer.now in
    let is : slice_get c.args.self.now.peers.items c.args.member ≡ Some c.in-Some.peer.now =
    subst P c.deref.ensures.value (slice_get_read c.deref.result.now (length c.deref.result.now) c.args.member c.in-Some.peer.now refl (ltb-true c.args.member (length c.deref.result.now) (sym c.in-Some.ensures.lookup.0)) c.in-Some.ensures.lookup.1) in
    sends-one g.W.Wire.was_given c.args.wire.now c.send.new.self c.args.self.now.peers.items c.args.bytes.now c.args.member (Some c.in-Some.peer.now) is c.send.ensures.given

pub returns-in_default-clause-given : goal.returns-in_default-clause-given
returns-in_default-clause-given g c =
    let P : List g.row.D.Denot → Type 0 = λ xs. length xs ≤ c.args.member in
    let is : slice_get c.args.self.now.peers.items c.args.member ≡ None = slice_get_past c.args.self.now.peers.items c.args.member (subst P c.deref.ensures.value (ltb-false c.args.member (length c.deref.result.now) (sym c.in_default.ensures.lookup.0))) in
    sends-one g.W.Wire.was_given c.args.wire.now c.args.wire.now c.args.self.now.peers.items c.args.bytes.now c.args.member None is (given-none g.W.Wire.was_given c.args.wire.now)
