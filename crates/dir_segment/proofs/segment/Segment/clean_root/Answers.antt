use Rattle.std.proofs.Common.{◌≡◌, ◌≢◌, ◌<◌, [], length, sym, ap, ◌∙◌, arith}
use Rattle.dir_segment.specs.Lists.{Lists, row, chain_of, entry_count, behind_slot}
use Rattle.dir_segment.specs.Cleaning.{clean_bucket}
use Rattle.dir_segment.proofs.Sweeping.{root_gone, fewer_root, unlinked_fits, some_row}
use Rattle.dir_segment.proofs.segment.Segment.clean_root.Goals as goal

pub loop-slot-preserved : goal.loop-slot-preserved
loop-slot-preserved g c =
    let old = c.loop-slot.self in
    let b = c.args.bucket in
    let lt : b < length old.chains = omega (arith, c.loop-slot.invariant.width, c.requires.bucket) in
    let first = c.in-Some.ensures.next.0 in
    let some : chain_of old b ≢ [] = some_row (chain_of old b) (row c.in-Some.slot c.in-Some.entry) (behind_slot c.in-Some.slot (chain_of old b)) first in
    let less = fewer_root old b lt some in
    let width : length c.take_root.new.self.chains ≡ length c.args.self.now.chains = ap (λ (q : Lists). length q.chains) c.take_root.ensures ∙ less.width ∙ c.loop-slot.invariant.width in
    let count : entry_count c.take_root.new.self.chains ≡ entry_count _ = ap (λ (q : Lists). entry_count q.chains) c.take_root.ensures in
    record {
      width = width;
      fewer = omega (arith, count, less.fewer, c.loop-slot.invariant.fewer);
      lists = λ test h. ap (λ (q : Lists). clean_bucket test q b) c.take_root.ensures
          ∙ root_gone test old b lt some c.in-Some.slot c.in-Some.entry first (sym (h _ c.is_kept.result (unlinked_fits c.in-Some.entry c.in-Some.ensures.fits) c.is_kept.ensures) ∙ c.if-is_kept.false)
          ∙ c.loop-slot.invariant.lists test h;
    }
