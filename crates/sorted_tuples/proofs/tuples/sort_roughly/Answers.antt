use Rattle.std.proofs.Common.{◌≡◌, rules}
use Rattle.std.proofs.lemmas.Fn.{always_returns_same}
use Rattle.sorted_tuples.specs.Abbreviations.{first_abbreviation}
use Rattle.sorted_tuples.proofs.tuples.sort_roughly.Goals as goal

pub returns : goal.returns
returns c =
    let key = first_abbreviation c.args.keys.now c.shared_bytes-past.result in
    (c.shared_bytes-past.result, c.sort_by_cached_key.ensures.stable key (always_returns_same _ (λ a n. n ≡ key a.0.now) _ (λ a n f' k. search rules)))
