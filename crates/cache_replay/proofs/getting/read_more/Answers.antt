use Rattle.std.proofs.Common.{rules, ◌≡◌, ◌++◌, refl, sym, subst, take, arith}
use Rattle.cache_answers.specs.declared.answers.NextPiece.TheVariants as piece
use Rattle.cache_replay.specs.Getting.{IsUnderway}
use Rattle.cache_replay.proofs.Counts.{piece_counts}
use Rattle.cache_replay.proofs.OtherNext.{next_stays}
use Rattle.cache_replay.proofs.WholeReads.{answered_as, broken_comes, end_comes, nearer, piece_comes, same_reader, size_within, still_hit, taken_is, waits_comes}
use Rattle.cache_replay.proofs.getting.read_more.Goals as goal

pub returns-in_err-index-clause-reads : goal.returns-in_err-index-clause-reads
returns-in_err-index-clause-reads g c = record {
  comes = search rules;
  hit = still_hit _ _ _ _ _ c.read_next.ensures.reader c.requires.hit.hit;
  same = same_reader _ _ _ _ _ c.read_next.ensures.reader;
  nearer = search rules;
  unharmed = next_stays _ _ c.requires.hit.reader.first c.read_next.ensures.unharmed;
  counts = search rules;
}

pub slice_bounds-extend_from_slice-end : goal.slice_bounds-extend_from_slice-end
slice_bounds-extend_from_slice-end g c =
    size_within (rw c.in-Piece.is at c.in_ok-index.ensures.gives)
    c.in_ok-index.ensures.keeps.goes.made c.in_ok-index.ensures.keeps.goes.past

pub slice_bounds-extend_from_slice-end-in-Piece : goal.slice_bounds-extend_from_slice-end-in-Piece
slice_bounds-extend_from_slice-end-in-Piece g c =
    sym (taken_is (rw c.in-Piece.is at c.in_ok-index.ensures.gives)
    c.in_ok-index.ensures.keeps.goes.made c.in_ok-index.ensures.keeps.goes.past)

pub returns-in_err-extend_from_slice-in-Piece-clause-reads : goal.returns-in_err-extend_from_slice-in-Piece-clause-reads
returns-in_err-extend_from_slice-in-Piece-clause-reads g c = record {
  comes = search rules;
  hit = still_hit _ _ _ _ _ c.read_next.ensures.reader c.requires.hit.hit;
  same = same_reader _ _ _ _ _ c.read_next.ensures.reader;
  nearer = search rules;
  unharmed = next_stays _ _ c.requires.hit.reader.first c.read_next.ensures.unharmed;
  counts = search rules;
}

pub returns-in_ok-extend_from_slice-in-Piece-clause-reads : goal.returns-in_ok-extend_from_slice-in-Piece-clause-reads
returns-in_ok-extend_from_slice-in-Piece-clause-reads g c = record {
  comes = λ first asks under.
      let items : c.extend_from_slice.new.self.items ≡ c.args.body.now.items ++ take c.in-Piece.length c.read_next.new.into = c.in_ok-extend_from_slice-in-Piece.ensures.items in
      subst (λ xs. IsUnderway g.S.Calls first c.read_next.new.self asks (g.S.Calls.reading c.read_next.new.reader) xs) (sym items)
      (piece_comes (g.met.S.Calls.at_rest _ c.requires.ready.holds) c.requires.hit.hit c.requires.hit.reader.first c.in_ok-index.ensures.keeps.goes under
      c.in-Piece.index c.in-Piece.length (g.S.Calls.reading c.read_next.new.reader) (rw c.in-Piece.is at c.in_ok-index.ensures.gives) c.in_ok-index.ensures.serves
      c.in_ok-index.ensures.own (rw c.in-Piece.is at c.in_ok-index.ensures.reader.goes) c.in_ok-index.ensures.reader.keeps
      (rw c.in-Piece.is at c.in_ok-index.ensures.exact) c.in_ok-index.ensures.stands);
  hit = still_hit _ _ _ _ _ c.read_next.ensures.reader c.requires.hit.hit;
  same = same_reader _ _ _ _ _ c.read_next.ensures.reader;
  nearer = nearer (rw c.in-Piece.is at c.in_ok-index.ensures.gives)
      c.in_ok-index.ensures.keeps.goes.made c.in_ok-index.ensures.keeps.goes.past _
      (rw c.in-Piece.is at c.in_ok-index.ensures.reader.goes) c.requires.hit.hit c.requires.hit.reader.first;
  unharmed = next_stays _ _ c.requires.hit.reader.first c.read_next.ensures.unharmed;
  counts = λ none. omega arith;
}

pub returns-in-End-clause-reads : goal.returns-in-End-clause-reads
returns-in-End-clause-reads g c = record {
  comes = λ first asks under.
      answered_as g.S.Calls _ _ _ _ (sym c.in_ok-index.ensures.reader.goes.reader) refl
      (end_comes (g.met.S.Calls.at_rest _ c.requires.ready.holds) c.requires.hit.hit c.requires.hit.reader.first c.in_ok-index.ensures.keeps.goes under
      c.in-End.length (rw c.in-End.is at c.in_ok-index.ensures.gives) c.in_ok-index.ensures.serves);
  hit = still_hit _ _ _ _ _ c.read_next.ensures.reader c.requires.hit.hit;
  same = same_reader _ _ _ _ _ c.read_next.ensures.reader;
  nearer = tt;
  unharmed = next_stays _ _ c.requires.hit.reader.first c.read_next.ensures.unharmed;
  counts = λ none. omega arith;
}

pub returns-in-NotYet-clause-reads : goal.returns-in-NotYet-clause-reads
returns-in-NotYet-clause-reads g c = record {
  comes = λ first asks under.
      waits_comes (g.met.S.Calls.at_rest _ c.requires.ready.holds) c.requires.hit.hit c.requires.hit.reader.first c.in_ok-index.ensures.keeps.goes under
      _ c.in-NotYet.cut (rw c.in-NotYet.is at c.in_ok-index.ensures.gives) c.in_ok-index.ensures.serves;
  hit = still_hit _ _ _ _ _ c.read_next.ensures.reader c.requires.hit.hit;
  same = same_reader _ _ _ _ _ c.read_next.ensures.reader;
  nearer = tt;
  unharmed = next_stays _ _ c.requires.hit.reader.first c.read_next.ensures.unharmed;
  counts = λ none. omega arith;
}

pub returns-in-Broken-clause-reads : goal.returns-in-Broken-clause-reads
returns-in-Broken-clause-reads g c = record {
  comes = λ first asks under.
      answered_as g.S.Calls _ _ _ _ (sym c.in_ok-index.ensures.reader.goes.reader) refl
      (broken_comes (g.met.S.Calls.at_rest _ c.requires.ready.holds) c.requires.hit.hit c.requires.hit.reader.first c.in_ok-index.ensures.keeps.goes under
      c.in-Broken.why (rw c.in-Broken.is at c.in_ok-index.ensures.gives) c.in_ok-index.ensures.serves);
  hit = still_hit _ _ _ _ _ c.read_next.ensures.reader c.requires.hit.hit;
  same = same_reader _ _ _ _ _ c.read_next.ensures.reader;
  nearer = tt;
  unharmed = next_stays _ _ c.requires.hit.reader.first c.read_next.ensures.unharmed;
  counts = λ none.
      piece_counts (g.S.Calls.at c.args.cache.now) (g.S.Calls.at c.read_next.new.self) (g.S.Calls.reading c.args.reader.now)
      (piece.Broken c.in-Broken.why) none (rw c.in-Broken.is at c.in_ok-index.ensures.gives).counted;
}
