use Rattle.std.proofs.Common.{rules, sym}
use Rattle.cyclone.specs.Cyclone.{row_of_piece, seen_cyclone}
use Rattle.dir_table.proofs.Plainly.{plain_gone, plain_none}
use Rattle.cyclone.proofs.Turning.{taken_turns, takes_out_stored}
use Rattle.cyclone.proofs.cyclone.Cyclone.take_out.Goals as goal

pub returns-clause-same : goal.returns-clause-same
returns-clause-same g c = search rules

pub returns-clause-gone : goal.returns-clause-gone
returns-clause-gone g c =
    let row = row_of_piece (seen_cyclone c.args.self.now) c.args.id c.args.place in
    plain_gone c.delete.result row (g.R.Directory.rows c.args.self.now.directory) (g.R.Directory.rows c.delete.new.self)
    (rw (sym c.requires.turns.geometry, sym c.of_piece.ensures) c.delete.ensures.gone)

pub returns-clause-none : goal.returns-clause-none
returns-clause-none g c =
    plain_none c.delete.result (g.R.Directory.rows c.args.self.now.directory) (g.R.Directory.rows c.delete.new.self) c.delete.ensures.none

pub returns-clause-stored : goal.returns-clause-stored
returns-clause-stored g c =
    takes_out_stored (row_of_piece (seen_cyclone c.args.self.now) c.args.id c.args.place)
    (g.R.Directory.rows c.args.self.now.directory) (g.R.Directory.rows c.delete.new.self) c.delete.result
    (rw (sym c.requires.turns.geometry, sym c.of_piece.ensures) c.delete.ensures.found)
    (rw (sym c.requires.turns.geometry, sym c.of_piece.ensures) c.delete.ensures.gone)
    c.delete.ensures.none

pub returns-clause-turns : goal.returns-clause-turns
returns-clause-turns g c =
    taken_turns _ _ (row_of_piece (seen_cyclone c.args.self.now) c.args.id c.args.place) c.delete.result c.requires.turns (returns-clause-same g c) (returns-clause-gone g c) (returns-clause-none g c)
