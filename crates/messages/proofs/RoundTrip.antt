-- Each spelling reads as what it spells, whatever follows it.
use Rattle.std.proofs.Common.{◌≡◌, ℕ, ◌^◌, ◌<◌, ◌≤◌, true, false, nat_le, ◌==◌, List, ◌∷◌, ◌++◌, length, drop, refl, sym, ap, arith, subst}
use Rattle.std.proofs.lemmas.List.{length-append}
use Rattle.std.proofs.Math.Seq.{drop-append_seam, take-append_seam}
use Rattle.byteorder.specs.Endian.{big_bytes, big_number}
use Rattle.byteorder.specs.Numbers.{length-bytes_high_first, big_number-reads_back}
use Rattle.ballots.specs.Ballot.{IsBallot, below, last_round, most_members}
use Rattle.ballots.specs.Values.{positions}
use Rattle.ballots.specs.Spelling.{IsValue, value_spelling}
use Rattle.ballots.specs.declared.ballot.Ballot.{Ballot}
use Rattle.ballots.specs.declared.value.Value.{Value}
use Rattle.ballots.specs.declared.value.Entry.{Entry}
use Rattle.ballots.proofs.Spellings.{round-trip as value-read}
use Rattle.messages.specs.Reading.{Gives, number_read, between_read, position_read, bytes_read, text_read, of_read, a_value, ballot_read, own_ballot_read, entry_read}
use Rattle.messages.specs.Spelling.{ballot_spelling, position_spelling, text_spelling, entry_spelling, IsText}

pub le-true : (a b : ℕ) → a ≤ b → nat_le a b ≡ true
le-true a b h = grind arith

pub eq-true : (a b : ℕ) → a ≡ b → (a == b) ≡ true
eq-true a b h = grind arith

pub number-back : (n x : ℕ) (rest : List ℕ) → x < 256 ^ n → number_read n (big_bytes n x ++ rest) ≡ Gives x rest
number-back n x rest small =
    let bs = big_bytes n x in
    let long : length bs ≡ n = length-bytes_high_first n x in
    let within : nat_le n (length (bs ++ rest)) ≡ true = le-true n (length (bs ++ rest)) (rw (length-append bs rest) (omega arith)) in
    let after : drop n (bs ++ rest) ≡ rest = subst (λ (m : ℕ). drop m (bs ++ rest) ≡ rest) long (drop-append_seam bs rest) in
    rw (within, after, big_number-reads_back n x rest small) refl

pub byte-back : (b : ℕ) (rest : List ℕ) → number_read 1 (b ∷ rest) ≡ Gives b rest
byte-back b rest =
    let number : big_number 1 (b ∷ rest) ≡ b = omega arith in
    rw (le-true 1 (length (b ∷ rest)) (omega arith), number) refl

pub between-back : (n least most x : ℕ) (rest : List ℕ) → x < 256 ^ n → least ≤ x → x ≤ most → between_read n least most (big_bytes n x ++ rest) ≡ Gives x rest
between-back n least most x rest small l m = rw (number-back n x rest small, le-true least x l, le-true x most m) refl

pub small-back : (least most x : ℕ) (rest : List ℕ) → least ≤ x → x ≤ most → between_read 1 least most (x ∷ rest) ≡ Gives x rest
small-back least most x rest l m = rw (byte-back x rest, le-true least x l, le-true x most m) refl

pub bytes-back : (t rest : List ℕ) → bytes_read (length t) (t ++ rest) ≡ Gives t rest
bytes-back t rest =
    let within : nat_le (length t) (length (t ++ rest)) ≡ true = le-true (length t) (length (t ++ rest)) (rw (length-append t rest) (omega arith)) in
    rw (within, take-append_seam t rest, drop-append_seam t rest) refl

pub text-back : (most : ℕ) (t rest : List ℕ) → most < 65536 → IsText most t → text_read most (text_spelling t ++ rest) ≡ Gives t rest
text-back most t rest fits is =
    let long : length t ≤ most = is.0 in
    rw (number-back 2 (length t) (t ++ rest) (omega arith), le-true (length t) most long, bytes-back t rest, is.1) refl

pub value-back : (v : Value) (rest : List ℕ) → IsValue v → a_value (value_spelling v ++ rest) ≡ Gives v rest
value-back v rest is = ap of_read (value-read v rest is)

round-fits : (r : ℕ) → r ≤ last_round → r < 256 ^ 8
unfolding last_round
round-fits r h = omega arith

position-fits : (p : ℕ) → p ≤ positions → p < 256 ^ 4
unfolding positions
position-fits p h = omega arith

pub position-back : (least most p : ℕ) (rest : List ℕ) → least ≤ p → p ≤ most → most ≤ positions → position_read least most (position_spelling p ++ rest) ≡ Gives p rest
position-back least most p rest l m top = between-back 4 least most p rest (position-fits p (omega arith)) l m

pub ballot-back : (b : Ballot) (rest : List ℕ) → IsBallot b → ballot_read (ballot_spelling b ++ rest) ≡ Gives b rest
ballot-back b rest is = rw (between-back 8 1 last_round b.round (b.member ∷ rest) (round-fits b.round is.1) is.0 is.1, small-back 1 most_members b.member rest is.2 is.3) refl

pub own-ballot-back : (sender : ℕ) (b : Ballot) (rest : List ℕ) → IsBallot b → sender ≡ b.member → own_ballot_read sender (ballot_spelling b ++ rest) ≡ Gives b rest
own-ballot-back sender b rest is own = rw (ballot-back b rest is, eq-true b.member sender (sym own)) refl

pub entry-back : (highest : Ballot) (least most : ℕ) (e : Entry) (rest : List ℕ) → most ≤ positions → least ≤ e.position → e.position ≤ most → IsBallot e.vote.ballot → below highest e.vote.ballot ≡ false → IsValue e.vote.value → entry_read highest least most (entry_spelling e ++ rest) ≡ Gives e rest
entry-back highest least most e rest top l m is under v =
    rw (position-back least most e.position (ballot_spelling e.vote.ballot ++ (value_spelling e.vote.value ++ rest)) l m top, ballot-back e.vote.ballot (value_spelling e.vote.value ++ rest) is, under, value-back e.vote.value rest v) refl
