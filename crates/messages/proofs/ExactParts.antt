-- Texts, values, ballots and lists of votes and values are read exactly.
use Rattle.std.proofs.Common.{◌≡◌, ℕ, zero, suc, ◌≤◌, Bool, true, false, not, nat_le, ◌==◌, List, [], ◌∷◌, ◌++◌, length, flat_map, All, refl, sym, ap, ◌∙◌, arith, subst}
use Rattle.std.proofs.lemmas.List.{append_assoc}
use Rattle.std.specs.Str.{is_utf8}
use Rattle.byteorder.specs.Endian.{big_bytes}
use Rattle.ballots.specs.Ballot.{IsBallot, below, last_round, most_members}
use Rattle.ballots.specs.Values.{positions}
use Rattle.ballots.specs.Spelling.{Read as ValueRead, Gives as ValueGives, Fails as ValueFails, IsValue, value_read, value_spelling}
use Rattle.ballots.specs.declared.ballot.Ballot.{Ballot}
use Rattle.ballots.specs.declared.value.Value.{Value}
use Rattle.ballots.specs.declared.value.Entry.{Entry}
use Rattle.ballots.specs.declared.value.Pair.{Pair}
use Rattle.ballots.proofs.Spellings.{exact as value-spelt}
use Rattle.paxos.specs.WellFormed.{AreVotes, ArePairs}
use Rattle.messages.specs.declared.fault.WireFault.TheVariants.{Number, NotUtf8}
use Rattle.messages.specs.Reading.{Gives, text_read, a_value, of_read, ballot_read, own_ballot_read, entry_read, entries_read, pair_read, pairs_read}
use Rattle.messages.specs.Spelling.{ballot_spelling, position_spelling, text_spelling, entry_spelling, pair_spelling, IsText}
use Rattle.messages.proofs.Exact.{Exact, step, held-from, link, finish, number-exact, bytes-exact, between-exact, small-exact, is-le, is-equal}

pub text-exact : (most : ℕ) → Exact (text_read most) text_spelling (λ t. IsText most t)
text-exact most bytes rest t small e =
    let n = step (number-exact 2) small e in
    let c = held-from Number (nat_le n.first most) _ n.mid rest t n.next in
    let x = step (bytes-exact n.first) n.small c.1 in
    let u = held-from NotUtf8 (is_utf8 x.first) _ x.mid rest t x.next in
    let long : big_bytes 2 n.first ≡ big_bytes 2 (length x.first) = ap (big_bytes 2) (sym x.good) in
    finish text_spelling (λ y. IsText most y) bytes rest x.mid x.first t u.1
    (link (big_bytes 2 n.first) n.are x.are ∙ ap (λ (ys : List ℕ). ys ++ (x.first ++ x.mid)) long)
    (subst (λ (m : ℕ). m ≤ most) (sym x.good) (is-le n.first most c.0), u.0)

of-value : (r : ValueRead Value) (v : Value) (rest : List ℕ) → of_read r ≡ Gives v rest → r ≡ ValueGives v rest
of-value (ValueGives w more) v rest e = cc
of-value (ValueFails f) v rest e = cc

pub value-exact : Exact a_value value_spelling IsValue
value-exact bytes rest v small e =
    let x = value-spelt bytes v rest small (of-value (value_read bytes) v rest e) in
    record { are = x.0; good = x.1 }

pub ballot-exact : Exact ballot_read ballot_spelling IsBallot
ballot-exact bytes rest b small e =
    let r = step (between-exact 8 1 last_round) small e in
    let m = step (small-exact 1 most_members) r.small r.next in
    finish ballot_spelling IsBallot bytes rest m.mid (record { round = r.first; member = m.first }) b m.next
    (link (big_bytes 8 r.first) r.are m.are) (r.good.0, r.good.1, m.good.0, m.good.1)

pub own-ballot-exact : (sender : ℕ) → Exact (own_ballot_read sender) ballot_spelling (λ b. IsBallot b × (sender ≡ b.member))
own-ballot-exact sender bytes rest b small e =
    let x = step ballot-exact small e in
    let t = held-from Number (x.first.member == sender) _ x.mid rest b x.next in
    finish ballot_spelling (λ c. IsBallot c × (sender ≡ c.member)) bytes rest x.mid x.first b t.1 x.are (x.good, sym (is-equal _ _ t.0))

-- a vote that may stand there
abbrev pub IsEntry : (highest : Ballot) (least most : ℕ) → Entry → Type 0
IsEntry highest least most e = (least ≤ e.position) × (e.position ≤ most) × IsBallot e.vote.ballot × (below highest e.vote.ballot ≡ false) × IsValue e.vote.value

not-true : (b : Bool) → not b ≡ true → b ≡ false
not-true true h = cc
not-true false h = refl

pub entry-exact : (highest : Ballot) (least most : ℕ) → Exact (entry_read highest least most) entry_spelling (λ e. IsEntry highest least most e)
entry-exact highest least most bytes rest e small h =
    let p = step (between-exact 4 least most) small h in
    let b = step ballot-exact p.small p.next in
    let t = held-from Number (not (below highest b.first)) _ b.mid rest e b.next in
    let v = step value-exact b.small t.1 in
    finish entry_spelling (λ x. IsEntry highest least most x) bytes rest v.mid (record { position = p.first; vote = record { ballot = b.first; value = v.first } }) e v.next
    (link (position_spelling p.first) p.are (link (ballot_spelling b.first) b.are v.are))
    (p.good.0, p.good.1, b.good, not-true _ t.0, v.good)

pub all-cons : {A : Type 0} (P : A → Type 0) (x : A) (xs : List A) → P x → All P xs → All P (x ∷ xs)
all-cons P x xs h hs zero d within = h
all-cons P x xs h hs (suc k) d within = hs k d (omega arith)

-- votes that may stand there, so many
pub record AreEntries (count : ℕ) (highest : Ballot) (least most : ℕ) (es : List Entry) : Type 0 where
  pub votes : AreVotes most_members highest least most es
  pub values : All (λ (e : Entry). IsValue e.vote.value) es
  pub many : length es ≡ count

pub entries-exact : (count : ℕ) (highest : Ballot) (least most : ℕ) → Exact (entries_read count highest least most) (flat_map entry_spelling) (λ es. AreEntries count highest least most es)
entries-exact zero highest least most bytes rest es small h =
    finish (flat_map entry_spelling) (λ xs. AreEntries 0 highest least most xs) bytes rest bytes [] es h refl
    (record { votes = tt; values = λ k d within. absurd (omega arith); many = refl })
entries-exact (suc n) highest least most bytes rest es small h =
    let e = step (entry-exact highest least most) small h in
    let more = step (entries-exact n highest (suc e.first.position) most) e.small e.next in
    finish (flat_map entry_spelling) (λ xs. AreEntries (suc n) highest least most xs) bytes rest more.mid (e.first ∷ more.first) es more.next
    (link (entry_spelling e.first) e.are more.are ∙ sym (append_assoc (entry_spelling e.first) (flat_map entry_spelling more.first) more.mid))
    (record {
      votes = (e.good.0, e.good.1, (e.good.2, e.good.2.3), e.good.3, more.good.votes);
      values = all-cons (λ (x : Entry). IsValue x.vote.value) e.first more.first e.good.4 more.good.values;
      many = ap suc more.good.many;
    })

pub pair-exact : (least : ℕ) → Exact (pair_read least) pair_spelling (λ e. (least ≤ e.position) × (e.position ≤ positions) × IsValue e.value)
pair-exact least bytes rest e small h =
    let p = step (between-exact 4 least positions) small h in
    let v = step value-exact p.small p.next in
    finish pair_spelling (λ x. (least ≤ x.position) × (x.position ≤ positions) × IsValue x.value) bytes rest v.mid (record { position = p.first; value = v.first }) e v.next
    (link (position_spelling p.first) p.are v.are) (p.good.0, p.good.1, v.good)

-- values that may stand there, so many
pub record AreValues (count least : ℕ) (es : List Pair) : Type 0 where
  pub pairs : ArePairs least es
  pub values : All (λ (e : Pair). IsValue e.value) es
  pub many : length es ≡ count

pub pairs-exact : (count least : ℕ) → Exact (pairs_read count least) (flat_map pair_spelling) (λ es. AreValues count least es)
pairs-exact zero least bytes rest es small h =
    finish (flat_map pair_spelling) (λ xs. AreValues 0 least xs) bytes rest bytes [] es h refl
    (record { pairs = tt; values = λ k d within. absurd (omega arith); many = refl })
pairs-exact (suc n) least bytes rest es small h =
    let e = step (pair-exact least) small h in
    let more = step (pairs-exact n (suc e.first.position)) e.small e.next in
    finish (flat_map pair_spelling) (λ xs. AreValues (suc n) least xs) bytes rest more.mid (e.first ∷ more.first) es more.next
    (link (pair_spelling e.first) e.are more.are ∙ sym (append_assoc (pair_spelling e.first) (flat_map pair_spelling more.first) more.mid))
    (record {
      pairs = (e.good.0, e.good.1, more.good.pairs);
      values = all-cons (λ (x : Pair). IsValue x.value) e.first more.first e.good.2 more.good.values;
      many = ap suc more.good.many;
    })
