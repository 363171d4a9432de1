use Rattle.std.proofs.Common.{refl}
use Rattle.http_header.specs.Token.{is_token_byte}
use Rattle.record_rows.proofs.another_put_merges.Goals as goal

pub returns : goal.returns
unfolding is_token_byte
returns c = (refl, refl, refl, refl, refl)
