use Rattle.cache_replay.proofs.WholeReads.{closes_hit}
use Rattle.cache_replay.proofs.getting.close.Goals as goal

pub returns-in-Ok-clause-closes : goal.returns-in-Ok-clause-closes
returns-in-Ok-clause-closes g c = λ first asks given said answered.
    closes_hit g.S.Calls (g.S.Calls.reading c.args.reader).reader c.requires.reader.row (g.met.S.Calls.at_rest _ c.requires.holds).quiet c.requires.reader.found
    c.in-Ok.ensures.gives c.in-Ok.ensures.keeps.goes_on.goes c.in-Ok.ensures.serves answered
