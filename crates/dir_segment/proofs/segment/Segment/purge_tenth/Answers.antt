use Rattle.std.proofs.Common.{◌≡◌, ◌-◌, ◌*◌, ◌<◌, ℕ, List, Bool, length, sym, ap, ◌∙◌, arith}
use Rattle.std.proofs.lemmas.List.{length-map}
use Rattle.dir_entry.specs.declared.entry.Entry.{Entry}
use Rattle.dir_segment.specs.Lists.{SlotRow, Lists}
use Rattle.dir_segment.specs.Cleaning.{each_bucket}
use Rattle.dir_segment.specs.Purging.{purged, after_purge, is_unmarked, thin_bucket}
use Rattle.dir_segment.proofs.Purging.{purge_entries, purge_left, purge_frees}
use Rattle.dir_segment.proofs.Sweeping.{buckets_step}
use Rattle.dir_segment.proofs.segment.Segment.purge_tenth.Goals as goal

pub loop-bucket-preserved : goal.loop-bucket-preserved
loop-bucket-preserved c =
    let n = length c.args.self.now.chains in
    let step = thin_bucket (is_unmarked c.offer_all.new.out.marks) in
    let lt : c.loop-bucket.bucket < length c.args.self.now.chains = omega (arith, c.loop-bucket-test.true, c.bucket_count-bucket-end.ensures.count) in
    record {
      width = c.thin_bucket.ensures.width ∙ c.loop-bucket.invariant.width;
      lists = buckets_step step c.loop-bucket.bucket n c.loop-bucket.self c.thin_bucket.new.self (each_bucket step 0 n c.args.self.now) lt c.thin_bucket.ensures.lists c.loop-bucket.invariant.lists;
    }

pub returns-clause-lists : goal.returns-clause-lists
returns-clause-lists c =
    let lists = c.args.self.now in
    let n = length lists.chains in
    let end : length lists.chains - c.loop-bucket.bucket ≡ 0 = omega (arith, c.loop-bucket-test.false, c.bucket_count-bucket-end.ensures.count) in
    let long : length c.clear.new.self.marks ≡ 4 * length lists.chains = omega (arith, c.clear.ensures.size, c.clear.ensures.buckets, c.requires.made) in
    let step = thin_bucket (is_unmarked c.offer_all.new.out.marks) in
    sym (ap (λ m. each_bucket step c.loop-bucket.bucket m c.loop-bucket.self) end) ∙ c.loop-bucket.invariant.lists
    ∙ ap (λ (test : SlotRow → Bool). each_bucket (thin_bucket test) 0 n lists)
    (purge_left lists c.clear.new.self c.offer_all.new.out c.clear.ensures.empty c.clear.ensures.skip c.offer_all.ensures.offered long c.clear.ensures.marks)

pub returns-clause-entries : goal.returns-clause-entries
returns-clause-entries c = purge_entries c.args.self.now c.clear.new.self c.offer_all.new.out c.clear.ensures.empty c.clear.ensures.skip c.offer_all.ensures.offered

pub returns-clause-tenth : goal.returns-clause-tenth
returns-clause-tenth c = λ full.
    ap (λ (q : List Entry). length q) (returns-clause-entries c) ∙ length-map (purged c.args.self.now) (λ (r : SlotRow). r.entry) ∙ c.bucket_count-bucket-end.ensures.tenth full

pub returns-clause-room : goal.returns-clause-room
returns-clause-room c = λ full none.
    let more = purge_frees c.args.self.now (c.bucket_count-bucket-end.ensures.full full) in
    let old : length c.args.self.now.free ≡ 0 = ap (λ (q : List ℕ). length q) full in
    let now : length (after_purge c.args.self.now).free ≡ 0 = ap (λ (q : Lists). length q.free) (sym (returns-clause-lists c)) ∙ ap (λ (q : List ℕ). length q) none in
    omega (arith, more, old, now)
