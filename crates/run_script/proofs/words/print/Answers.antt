use Rattle.std.proofs.Common.{refl, inl, inr}
use Rattle.run_script.proofs.Halts.{note_grows, sends_piece, took_piece}
use Rattle.run_script.proofs.words.print.Goals as goal

pub returns-in-Ok-clause-prints : goal.returns-in-Ok-clause-prints
returns-in-Ok-clause-prints g c = inl (refl, took_piece _ _ c.args.text.now (rw c.as_bytes.ensures.value at c.in-Ok.ensures))

pub returns-in-Err-clause-prints : goal.returns-in-Err-clause-prints
returns-in-Err-clause-prints g c = inr (refl, sends_piece _ _ c.args.text.now (rw c.as_bytes.ensures.value at c.in-Err.ensures))

pub returns-in-Ok-clause-grows : goal.returns-in-Ok-clause-grows
returns-in-Ok-clause-grows g c = note_grows _ _ _ c.write_all.result c.write_all.ensures

pub returns-in-Err-clause-grows : goal.returns-in-Err-clause-grows
returns-in-Err-clause-grows g c = note_grows _ _ _ c.write_all.result c.write_all.ensures
