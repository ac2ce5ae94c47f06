use Rattle.std.proofs.Common.{◌≡◌, ◌<◌, ◌^◌, subst, List, ℕ, true}
use Rattle.std.specs.Str.{is_utf8}
use Rattle.std.proofs.lemmas.Str.{is_utf8-from_IsUtf8}
use Rattle.ballots.specs.declared.request.RequestId.{RequestId}
use Rattle.ballots.proofs.spelling.bounds.Goals as goal

pub returns : goal.returns
returns c = record {
  client = subst (λ (i : RequestId). i.client < 2 ^ 32) c.id-client.ensures c.fits.ensures.client;
  number = subst (λ (i : RequestId). i.number < 2 ^ 64) c.id-client.ensures c.fits.ensures.number;
  level = c.level-level.ensures.known;
  text = c.text-text.ensures.most;
  utf8 = subst (λ (t : List ℕ). is_utf8 t ≡ true) c.text-text.ensures.text (is_utf8-from_IsUtf8 _ c.text-text.utf8);
}
