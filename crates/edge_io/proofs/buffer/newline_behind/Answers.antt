use Rattle.std.proofs.Common.{◌≡◌, ◌+◌, subst, length, length-drop, drop, arith}
use Rattle.std.proofs.lemmas.List.{take_rest}
use Rattle.edge_io.specs.LineBuffer.{IsClear}
use Rattle.edge_io.proofs.Newlines.{clear_more, newline_more}
use Rattle.edge_io.proofs.buffer.newline_behind.Goals as goal

pub returns-in-None : goal.returns-in-None
returns-in-None c =
    let bytes = c.args.bytes.now in
    let none = rw take_rest at (c.in-None.ensures) in
    let all : c.args.from + length (drop c.args.from bytes) ≡ length bytes = rw length-drop (omega arith) in
    subst (IsClear bytes) all (clear_more bytes c.args.from (length (drop c.args.from bytes)) c.requires.clear (λ j below. none j (omega arith) below))

pub returns-in-Some : goal.returns-in-Some
returns-in-Some c =
    let bytes = c.args.bytes.now in
    let first = rw take_rest at (c.in-Some.ensures) in
    newline_more bytes c.args.from c.in-Some.place c.requires.within c.requires.clear first.0.high first.1 (λ j below. first.0.before j (omega arith) below)
