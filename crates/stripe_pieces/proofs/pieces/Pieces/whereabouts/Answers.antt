use Rattle.std.proofs.Common.{◌≡◌, ◌∷◌, sym, ◌∙◌, ap, subst, arith, Some}
use Rattle.std.specs.Prelude.{Contains}
use Rattle.dir_table.specs.Candidates.{candidates_of}
use Rattle.dir_table.specs.Rows.{plain_rows}
use Rattle.cache_model.specs.State.{Row, live_row_of}
use Rattle.cache_model.specs.Verdict.{piece_at}
use Rattle.cache_model.proofs.Known.{live_is_known}
use Rattle.stripe_pieces.specs.Pieces.{state_now, seen_now}
use Rattle.held_pieces.proofs.Candidates.{live_is_candidate, not_this, beyond_first}
use Rattle.stripe_pieces.proofs.pieces.Pieces.whereabouts.Goals as goal

pub walks-init : goal.walks-init
walks-init g c =
    let s = state_now c.args.self.now in
    let d = c.directory-directory.result.now in
    let there : (row : Row) → live_row_of s c.args.id ≡ Some row → Contains (candidates_of (g.R.Directory.window d) c.of_piece.result (plain_rows (g.R.Directory.rows d))) row.place =
    λ row live. rw (c.directory-directory.ensures.rows, c.directory-directory.ensures.window, c.of_piece.ensures) (live_is_candidate s (seen_now c.args.self.now) c.args.id row c.requires live) in
    record {
      walks = c.candidates-walk.ensures.walks;
      ahead = λ row live. subst (λ ps. Contains ps row.place) (sym c.candidates-walk.ensures.rest) (there row live);
    }

pub walks-smaller : goal.walks-smaller
walks-smaller g c = let gives : g.R.Directory.rest c.directory-directory.result.now c.walks.walk ≡ c.in-Some.place ∷ g.R.Directory.rest c.directory-directory.result.now c.step.new.walk = c.in-Some.ensures.gives in rw gives (omega arith)

pub walks-preserved : goal.walks-preserved
walks-preserved g c =
    let s = state_now c.args.self.now in
    let gives : g.R.Directory.rest c.directory-directory.result.now c.walks.walk ≡ c.in-Some.place ∷ g.R.Directory.rest c.directory-directory.result.now c.step.new.walk = c.in-Some.ensures.gives in
    record {
      walks = c.step.ensures.walks;
      ahead = λ row live.
          beyond_first row.place c.in-Some.place _ (subst (λ ps. Contains ps row.place) gives (c.walks.invariant.ahead row live))
          (λ e. not_this c.piece_at.result c.args.id (sym c.is_this.ensures ∙ c.if-is_this.false) (c.piece_at.ensures ∙ (ap (piece_at s) (sym e) ∙ live_is_known s c.args.id row c.requires.sound live)));
    }
