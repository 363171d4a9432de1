use Rattle.cache_chronicle.proofs.pieces.note_piece.Goals as goal

pub returns-in-Committed-clause-has : goal.returns-in-Committed-clause-has
returns-in-Committed-clause-has c = λ s vectors cut has.
    rw (c.in-Committed.is, ← vectors c.in-Committed.key, ← c.last_of.ensures) (c.take_out_earlier.ensures.has s.rows has)
