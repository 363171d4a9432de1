use Rattle.dir_entry.proofs.Words.{replaced}
use Rattle.dir_entry.proofs.bits.Bits.set.Goals as goal

pub overflow_add-result : goal.overflow_add-result
overflow_add-result g c =
    rw c.get.ensures
    (record { fits = (replaced g.row.LO g.row.W c.args.word c.args.value c.requires.fits c.requires.place.inside c.ranges.word.fits).below })

pub returns-clause-written : goal.returns-clause-written
returns-clause-written g c = rw c.get.ensures (replaced g.row.LO g.row.W c.args.word c.args.value c.requires.fits c.requires.place.inside c.ranges.word.fits).written

pub returns-clause-others : goal.returns-clause-others
returns-clause-others g c = rw c.get.ensures (replaced g.row.LO g.row.W c.args.word c.args.value c.requires.fits c.requires.place.inside c.ranges.word.fits).others

pub returns-clause-exact : goal.returns-clause-exact
returns-clause-exact g c = rw c.get.ensures (replaced g.row.LO g.row.W c.args.word c.args.value c.requires.fits c.requires.place.inside c.ranges.word.fits).exact
