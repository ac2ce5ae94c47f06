-- Where a server sends what its node sends.
use Rattle.std.specs.Prelude.{ℕ, zero, suc, List, [], ◌∷◌, Option, Some, None}
use Rattle.std.specs.List.{slice_get, flat_map}
use Rattle.wires.specs.Wires.{Carried}

-- the datagram to an address, if there is one
abbrev pub datagram_at : {A : Type 0} → (end : ℕ) → (bytes : List ℕ) → Option A → List (Carried A)
datagram_at end bytes None = []
datagram_at end bytes (Some a) = record { end = end; peer = a; bytes = bytes } ∷ []

-- the address of a member, or the client's (0)
abbrev pub address_of : {A : Type 0} → (peers : List A) → (client : Option A) → (target : ℕ) → Option A
address_of peers client zero = client
address_of peers client (suc before) = slice_get peers before

-- the datagram to one of them, if it has an address
abbrev pub datagram_to : {A : Type 0} → (end : ℕ) → (peers : List A) → (client : Option A) → (bytes : List ℕ) → (target : ℕ) → List (Carried A)
datagram_to end peers client bytes target = datagram_at end bytes (address_of peers client target)

-- messages as bytes, each with its target: a datagram for each, in order, to its target's address
abbrev pub addressed : {A : Type 0} → (end : ℕ) → (peers : List A) → (client : Option A) → List (List ℕ × ℕ) → List (Carried A)
addressed end peers client sent = flat_map (λ (d : List ℕ × ℕ). datagram_to end peers client d.0 d.1) sent
