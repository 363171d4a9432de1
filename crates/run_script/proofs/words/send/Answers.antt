use Rattle.std.proofs.Common.{List, [], ℕ, Result, Ok, Err, inl, inr}
use Rattle.device_log.specs.Streams.{SinkWrite}
use Rattle.edge_io.specs.Sink.{NotesWrite}
use Rattle.run_promise.specs.Top.{WentOut}
use Rattle.run_script.proofs.Halts.{note_grows, sends_piece, took_piece}
use Rattle.run_script.proofs.words.send.Goals as goal

went_out : {T E : Type 0} (old new : List SinkWrite) (piece : List ℕ) (r : Result T E) → NotesWrite old new r piece → WentOut old new [] piece
went_out old new piece (Ok x) notes = inl (took_piece old new piece notes)
went_out old new piece (Err e) notes = inr (sends_piece old new piece notes)

pub returns-clause-out : goal.returns-clause-out
returns-clause-out g c = went_out _ _ c.args.text.now c.write_all.result (rw c.as_bytes.ensures.value at c.write_all.ensures)

pub returns-clause-grows : goal.returns-clause-grows
returns-clause-grows g c = note_grows _ _ _ c.write_all.result c.write_all.ensures
