use Rattle.std.proofs.lemmas.List.{take_rest}
use Rattle.sha_twin.proofs.digests.behind_two.Goals as goal

pub returns : goal.returns
returns c = take_rest c.args.bytes.now 128
