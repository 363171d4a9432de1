use Rattle.std.proofs.Common.{ℕ, ◌≡◌, ◌∙◌, refl, ap, subst, arith}
use Rattle.std.specs.Prelude.{IsPermutation, max}
use Rattle.tape_base.specs.Place.{floor_of, next_cursor_of}
use Rattle.agg_buffer.specs.Buffer.{empty_buffer, next_place_of}
use Rattle.dir_table.specs.declared.window.Window.{Window}
use Rattle.dir_table.specs.Wrap.{stored_from}
use Rattle.dir_table.proofs.Plainly.{plain_from}
use Rattle.write_cursor.specs.Plan.{FitsInLap}
use Rattle.cyclone.specs.Cyclone.{next_buffer_cursor, next_floor, seen_cyclone}
use Rattle.cyclone.proofs.Turning.{next_turns, stored_below}
use Rattle.cyclone.proofs.cyclone.Cyclone.begin_next.Goals as goal

pub wrap-requires-clause-above : goal.wrap-requires-clause-above
wrap-requires-clause-above g c =
    let buffer = c.args.self.now.buffer in
    let here : FitsInLap c.args.self.now.geometry c.cursor-cursor.result = rw c.cursor-cursor.ensures c.requires.turns.lap in
    stored_below (next_place_of buffer) c.plan-next.result.cursor (g.R.Directory.rows c.args.self.now.directory)
    (omega (arith, c.plan-next.ensures.behind here, c.cursor-cursor.ensures, c.filled.ensures.filled)) c.requires.turns.entered

pub returns-clause-begins : goal.returns-clause-begins
returns-clause-begins g c =
    let geometry = c.args.self.now.geometry in
    let old = seen_cyclone c.args.self.now in
    let before = g.R.Directory.rows c.args.self.now.directory in
    let after = g.R.Directory.rows c.wrap.new.self in
    let next : c.plan-next.result.cursor ≡ next_buffer_cursor old =
    c.plan-next.ensures.cursor ∙ (ap (λ n. next_cursor_of geometry n c.filled.result) c.cursor-cursor.ensures ∙ ap (λ n. next_cursor_of geometry c.args.self.now.buffer.cursor n) c.filled.ensures.filled) in
    let floor : c.max.result ≡ next_floor old =
    c.max.ensures ∙ ap (max old.least) (c.plan-next.ensures.floor ∙ ap (floor_of geometry) next) in
    let stored = subst (λ (n : ℕ). IsPermutation (stored_from n before) after) floor c.wrap.ensures.rows in
    record {
      geometry = refl;
      least = refl;
      buffer = c.begin.ensures ∙ ap (λ n. empty_buffer n c.args.self.now.buffer.reserved) next;
      window = c.wrap.ensures.window
          ∙ (λ i. let w : Window = record old.window { cursor = next i; floor = floor i; end = next i } in w);
      rows = plain_from (next_floor old) before after stored;
      stored = stored;
      displaced = c.wrap.ensures.displaced;
      spare = c.wrap.ensures.spare;
      device = refl;
    }

pub returns-clause-turns : goal.returns-clause-turns
returns-clause-turns g c =
    let geometry = c.args.self.now.geometry in
    let next : c.plan-next.result.cursor ≡ next_buffer_cursor (seen_cyclone c.args.self.now) =
    c.plan-next.ensures.cursor ∙ (ap (λ n. next_cursor_of geometry n c.filled.result) c.cursor-cursor.ensures ∙ ap (λ n. next_cursor_of geometry c.args.self.now.buffer.cursor n) c.filled.ensures.filled) in
    let here : FitsInLap geometry c.cursor-cursor.result = rw c.cursor-cursor.ensures c.requires.turns.lap in
    next_turns _ _ c.requires.turns (returns-clause-begins g c)
    (subst (FitsInLap geometry) next (c.plan-next.ensures.stays here))
    (omega (arith, next, c.plan-next.ensures.behind here, c.cursor-cursor.ensures, c.filled.ensures.filled))
    c.requires.below
