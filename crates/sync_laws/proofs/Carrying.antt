-- What is seen and still of a copy carries what guards say of it.
use Rattle.std.proofs.Common.{◌≡◌, ℕ, Bool, List, sym, subst, ◌∙◌}
use Rattle.device_log.specs.Image.{Image}
use Rattle.device_log.specs.Calls.{Call}
use Rattle.device_log.specs.Seen.{seen_of}
use Rattle.device_log.proofs.Spans.{span_same}
use Rattle.stripe_header.specs.declared.area.Area.{Area}
use Rattle.stripe_header.specs.declared.area.Side.{Side}
use Rattle.stripe_header.specs.Layout.{body_blocks, body_of, gate_of, other_side}
use Rattle.dir_sync.specs.Moments.{IsBarred}
use Rattle.dir_sync.proofs.Stages.{shut_as}
use Rattle.cache_model.specs.Opening.{Opening}
use Rattle.reopening.specs.declared.newest.Newest.{Newest}
use Rattle.reopening.specs.Newest.{IsBeaten, body_at}
use Rattle.reopening.specs.Alike.{IsInBody}
use Rattle.reopening.specs.Guards.{HeldCopy, IsCopyKept, IsGuarded, IsOld, told_by_body}
use Rattle.reopening.specs.Stages.{StaysIn}

module _ (settled : Bool) (first : Image) (old new : List Call) where
  pub barred_on : (side : Side) → StaysIn settled first old new (gate_of side)
      → IsBarred side settled first old → IsBarred side settled first new
  barred_on side stays is = record {
    still = stays.0 is.still;
    shut = shut_as side (seen_of first new) (seen_of first old) stays.1 is.shut;
  }

  module _ (a : Area) where
    pub old_on : (n : Newest) → ((j : ℕ) → IsInBody a (other_side n.side) j → StaysIn settled first old new j)
        → IsOld a n settled first old → IsOld a n settled first new
    old_on n stays is =
        let other = other_side n.side in
        let same : body_at a (seen_of first new) other ≡ body_at a (seen_of first old) other =
        span_same (seen_of first new) (seen_of first old) (body_of a other) (body_blocks a) (λ j low high. let s = stays j (low, high) in s.1) in
        record {
          stays = λ j there. let s = stays j there in s.0 (is.stays j there);
          beaten = subst (λ (b : List ℕ). IsBeaten (told_by_body a b) n.side n.told.serial) (sym same) is.beaten;
        }

    pub kept_on : (MayBeFound : Opening → Type 0) (h : HeldCopy) → ((j : ℕ) → IsGuarded a h j → StaysIn settled first old new j)
        → IsCopyKept a MayBeFound h settled first old → IsCopyKept a MayBeFound h settled first new
    kept_on MayBeFound h stays kept = record {
      opens = kept.opens;
      held = λ j is.
          let s = stays j is in
          let e = kept.held j is in
          (s.0 e.0, s.1 ∙ e.1);
    }
