use Rattle.std.proofs.Common.{◌≡◌, ◌+◌, ◌/◌, length, refl, sym, ◌∙◌, ap, subst, arith}
use Rattle.tape_base.specs.Piece.{key_of_piece}
use Rattle.agg_buffer.specs.Buffer.{next_place_of}
use Rattle.dir_table.specs.declared.window.Window.{Window}
use Rattle.dir_table.specs.declared.rows.DirRow.{DirRow}
use Rattle.dir_table.specs.Rows.{row_of_key, plain_row, plain_rows}
use Rattle.dir_table.specs.Displacement.{Displaces}
use Rattle.dir_table.specs.Entering.{TakesRow}
use Rattle.dir_table.proofs.Plainly.{plain_takes, plain_gone, plain_none}
use Rattle.cyclone.specs.Cyclone.{row_of_piece, seen_cyclone}
use Rattle.cyclone.proofs.Turning.{takes_out, takes_out_stored, moved_turns}
use Rattle.cyclone.proofs.cyclone.Cyclone.move_piece.Goals as goal

pub returns-clause-moved : goal.returns-clause-moved
returns-clause-moved g c =
    let old = seen_cyclone c.args.self.now in
    let before = g.R.Directory.window c.args.self.now.directory in
    let after = g.R.Directory.window c.delete.new.self in
    let stored = g.R.Directory.rows c.args.self.now.directory in
    let left = g.R.Directory.rows c.delete.new.self in
    let enters = c.insert.ensures.rows in
    let now = g.R.Directory.rows c.insert.new.self in
    let displaced = g.R.Directory.displaced c.insert.new.self in
    let place = c.next_place-place.result in
    let id = c.args.id in
    let geometry : after.geometry ≡ old.geometry = ap (λ (w : Window). w.geometry) c.delete.ensures.window ∙ c.requires.turns.geometry in
    let row : row_of_key after.geometry c.of_piece-2.result place ≡ row_of_piece old id (next_place_of old.buffer) =
    ap (λ x. row_of_key x c.of_piece-2.result place) geometry
    ∙ (ap (λ k. row_of_key old.geometry k place) c.of_piece-2.ensures ∙ ap (row_of_key old.geometry (key_of_piece id)) c.next_place-place.ensures.place) in
    let there : plain_row enters.row ≡ row_of_piece old id (next_place_of old.buffer) = enters.is.there ∙ row in
    let ends : place + length c.args.bytes.now / 512 ≡ next_place_of c.put_moved.new.self =
    omega (arith, c.next_place-place.ensures.place, c.put_moved.ensures.size, c.put_moved.ensures.added.next) in
    record {
      geometry = refl;
      least = refl;
      buffer = c.put_moved.ensures.added;
      left = plain_rows left;
      taken = takes_out (row_of_piece old id c.args.from) old.rows (plain_rows left) c.delete.result
          (rw (sym c.requires.turns.geometry, sym c.of_piece.ensures) c.delete.ensures.found)
          (plain_gone c.delete.result (row_of_piece old id c.args.from) stored left (rw (sym c.requires.turns.geometry, sym c.of_piece.ensures) c.delete.ensures.gone))
          (plain_none c.delete.result stored left c.delete.ensures.none);
      gone = plain_rows enters.gone;
      rows = subst (λ (r : DirRow). TakesRow r (plain_rows enters.gone) (plain_rows left) (plain_rows now)) there
          (plain_takes enters.row enters.gone left now enters.takes);
      displaced = subst (λ r. Displaces g.R.Directory.purges before r (plain_rows left) (plain_rows enters.gone) displaced) there
          (subst (λ w. Displaces g.R.Directory.purges w (plain_row enters.row) (plain_rows left) (plain_rows enters.gone) displaced) c.delete.ensures.window enters.displaced);
      window = c.insert.ensures.window
          ∙ (ap (λ w. let x : Window = record w { end = place + length c.args.bytes.now / 512 } in x) c.delete.ensures.window
          ∙ ap (λ e. let x : Window = record before { end = e } in x) ends);
      spare = omega (arith, c.delete.ensures.spare, c.insert.ensures.spare);
      device = refl;
    }

pub returns-clause-entered : goal.returns-clause-entered
returns-clause-entered g c =
    let old = seen_cyclone c.args.self.now in
    let stored = g.R.Directory.rows c.args.self.now.directory in
    let left = g.R.Directory.rows c.delete.new.self in
    record {
      left = left;
      taken = takes_out_stored (row_of_piece old c.args.id c.args.from) stored left c.delete.result
          (rw (sym c.requires.turns.geometry, sym c.of_piece.ensures) c.delete.ensures.found)
          (rw (sym c.requires.turns.geometry, sym c.of_piece.ensures) c.delete.ensures.gone)
          c.delete.ensures.none;
      entered = rw (sym c.delete.ensures.window, sym c.of_piece-2.ensures, sym c.next_place-place.ensures.place) c.insert.ensures.rows;
    }

pub returns-clause-turns : goal.returns-clause-turns
returns-clause-turns g c =
    let old = seen_cyclone c.args.self.now in
    moved_turns g.R.Directory.purges old _ c.args.id c.args.from c.args.bytes.now c.requires.turns (returns-clause-moved g c)
    (omega (arith, c.put_moved.ensures.size, c.requires.whole.some, c.requires.whole.whole))
