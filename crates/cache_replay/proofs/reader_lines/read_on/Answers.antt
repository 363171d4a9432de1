use Rattle.std.proofs.Common.{sym, subst, ap, ◌≤◌}
use Rattle.run_promise.specs.Outline.{count_in}
use Rattle.cache_replay.specs.ReaderLines.{NextEnds}
use Rattle.cache_replay.proofs.Counts.{piece_counts, piece_tells}
use Rattle.cache_replay.proofs.NextLine.{next_ends, read_within, reads_wanting}
use Rattle.cache_replay.proofs.OtherNext.{next_stays}
use Rattle.cache_replay.proofs.reader_lines.read_on.Goals as goal

pub piece_said-requires : goal.piece_said-requires
piece_said-requires g c =
    let a = g.S.Calls.at c.args.cache.now in
    let b = g.S.Calls.at c.read_next.new.self in
    let serves = c.in_ok-piece.ensures.serves 0 in
    read_within a b (g.S.Calls.reading c.args.reader.now) c.in_ok-piece.piece c.read_next.new.into serves.calls serves.added serves.happens c.in_ok-piece.ensures.gives

pub returns-in_err-piece-clause-reads : goal.returns-in_err-piece-clause-reads
returns-in_err-piece-clause-reads g c =
    let r = g.S.Calls.reading c.args.reader.now in
    let after = c.in_err-piece.ensures.reader in
    reads_wanting g.S.Calls c.args.cache.now c.read_next.new.self r (g.S.Calls.reading c.read_next.new.reader) c.from_residual.result c.from_residual.ensures.1 after.reader (ap (λ x. x.reader) after.goes)
    (next_stays _ r c.requires.reader.first c.read_next.ensures.unharmed)

pub returns-in_err-piece_said-clause-reads : goal.returns-in_err-piece_said-clause-reads
returns-in_err-piece_said-clause-reads g c =
    let r = g.S.Calls.reading c.args.reader.now in
    let after = c.in_ok-piece.ensures.reader in
    reads_wanting g.S.Calls c.args.cache.now c.read_next.new.self r (g.S.Calls.reading c.read_next.new.reader) c.from_residual-in_err-piece_said.result c.from_residual-in_err-piece_said.ensures.1
    after.reader after.goes.reader
    (next_stays _ r c.requires.reader.first c.read_next.ensures.unharmed)

pub returns-clause-reads : goal.returns-clause-reads
returns-clause-reads g c =
    let a = g.S.Calls.at c.args.cache.now in
    let b = g.S.Calls.at c.read_next.new.self in
    let r = g.S.Calls.reading c.args.reader.now in
    let later = g.S.Calls.reading c.read_next.new.reader in
    let after = c.in_ok-piece.ensures.reader in
    let rest_then = g.met.S.Calls.at_rest _ c.in_ok-piece.ensures.keeps.holds_then in
    record {
      reader = after.reader;
      same = after.goes.reader;
      ends = λ run name by stands. subst (NextEnds run name a b later) (sym c.in_ok-piece_said.ensures)
          (next_ends g.S.Calls c.args.cache.now c.read_next.new.self r later c.in_ok-piece.piece c.read_next.new.into c.requires.plain rest_then
          c.requires.reader.first c.in_ok-piece.ensures.serves c.in_ok-piece.ensures.gives c.in_ok-piece.ensures.exact after.keeps run name by stands);
      unharmed = next_stays _ r c.requires.reader.first c.read_next.ensures.unharmed;
      counts = λ none. subst (λ said. count_in said ≤ b.device.faults) (sym c.in_ok-piece_said.ensures)
          (piece_tells c.in_ok-piece.piece c.read_next.new.into _ (piece_counts a b r c.in_ok-piece.piece none c.in_ok-piece.ensures.gives.counted));
    }
