use Rattle.std.proofs.Common.{◌≡◌, ◌+◌, ◌∷◌, drop, arith, subst, List}
use Rattle.run_script.proofs.Halts.{grows_more}
use Rattle.work_script.specs.Turns.{WorkTurn, turns_in}
use Rattle.work_script.proofs.Printing.{Printed, printed_ends, printed_more}
use Rattle.work_script.proofs.Rows.{next_turn, not_said, said_at, turn_of_row}
use Rattle.work_script.proofs.turns.print_turns.Goals as goal

pub unreachable-requires : goal.unreachable-requires
unreachable-requires g c =
    let row = c.index-rows-place.result in
    not_said row.taken (said_at c.args.rows.now c.loop-place.place row (omega (arith, c.loop-place-test.true)) c.index-rows-place.is c.requires.said) (λ said is. c.in_default.not-Said said is)

pub loop-place-preserved : goal.loop-place-preserved
loop-place-preserved g c =
    let rows = c.args.rows.now in
    let place = c.loop-place.place in
    let row = c.index-rows-place.result in
    let said = c.in-Said.said in
    let first = g.K.Sink.writes c.args.sink.now in
    let old = g.K.Sink.writes c.loop-place.sink in
    let left = turns_in (drop (place + 1) rows) in
    let next : turns_in (drop place rows) ≡ turn_of_row row said ∷ left = next_turn rows place row said (omega (arith, c.loop-place-test.true)) c.index-rows-place.is c.in-Said.is in
    let before : Printed first old (turns_in rows) (turn_of_row row said ∷ left) place = subst (λ (l : List WorkTurn). Printed first old (turns_in rows) l place) next c.loop-place.invariant.printed in
    record {
      printed = printed_more first old (g.K.Sink.writes c.write_turn.new.sink) (turns_in rows) left (turn_of_row row said) place before c.in-Ok.ensures.writes;
      grows = grows_more _ _ _ c.loop-place.invariant.grows c.write_turn.ensures.grows;
    }

pub returns-in-Err-clause-prints : goal.returns-in-Err-clause-prints
returns-in-Err-clause-prints g c =
    let rows = c.args.rows.now in
    let place = c.loop-place.place in
    let row = c.index-rows-place.result in
    let said = c.in-Said.said in
    let first = g.K.Sink.writes c.args.sink.now in
    let old = g.K.Sink.writes c.loop-place.sink in
    let left = turns_in (drop (place + 1) rows) in
    let next : turns_in (drop place rows) ≡ turn_of_row row said ∷ left = next_turn rows place row said (omega (arith, c.loop-place-test.true)) c.index-rows-place.is c.in-Said.is in
    let before : Printed first old (turns_in rows) (turn_of_row row said ∷ left) place = subst (λ (l : List WorkTurn). Printed first old (turns_in rows) l place) next c.loop-place.invariant.printed in
    printed_ends first old (g.K.Sink.writes c.write_turn.new.sink) (turns_in rows) left (turn_of_row row said) place before (Unit {0}) c.in-Err.ending c.in-Err.ensures.writes

pub returns-in-Err-clause-grows : goal.returns-in-Err-clause-grows
returns-in-Err-clause-grows g c = grows_more _ _ _ c.loop-place.invariant.grows c.write_turn.ensures.grows
