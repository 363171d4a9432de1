use Rattle.std.proofs.Common.{◌≡◌, ◌<◌, true, false, length, sym, ap, subst, ◌∙◌}
use Rattle.dir_segment.specs.declared.segment.Inserted.TheVariants as answers
use Rattle.dir_segment.specs.Lists.{Lists, unlinked, inserted, IsFull}
use Rattle.dir_segment.specs.Purging.{after_purge}
use Rattle.packed_directory.specs.Entering.{TakesIn}
use Rattle.packed_directory.proofs.Gathering.{in_bucket}
use Rattle.packed_directory.proofs.Purged.{taken_in, purged_in}
use Rattle.packed_directory.proofs.space.take_in.Goals as goal

pub returns-in-Inserted-clause-takes : goal.returns-in-Inserted-clause-takes
returns-in-Inserted-clause-takes c =
    let before = c.args.segment.now in
    let b = c.args.bucket in
    let e = c.args.entry in
    let room : IsFull before b → ⊥ = λ q. let no : answers.Inserted ≡ answers.Full = sym c.in-Inserted.is ∙ c.insert.ensures.full.1 q in cc no in
    subst (λ (q : Lists). TakesIn (in_bucket b (unlinked e)) false c.forget.new.out.entries before q) (sym c.insert.ensures.lists)
    (taken_in c.insert_enters.ensures.enters before b e c.requires.bucket room c.forget.new.out.entries c.forget.ensures.empty)

pub returns-in-Full-clause-takes : goal.returns-in-Full-clause-takes
returns-in-Full-clause-takes c =
    let before = c.args.segment.now in
    let mid = c.insert.new.self in
    let b = c.args.bucket in
    let e = c.args.entry in
    let out = c.purge_tenth.new.out.entries in
    let full : IsFull before b = c.insert.ensures.full.0 c.in-Full.is in
    let same : mid ≡ before = c.insert.ensures.lists ∙ c.insert_enters.ensures.full before b e full in
    let full' : IsFull mid b = subst (λ (q : Lists). IsFull q b) (sym same) full in
    let lt : b < length mid.chains = subst (λ (q : Lists). b < length q.chains) (sym same) c.requires.bucket in
    let after : c.purge_tenth.new.self ≡ after_purge mid = c.purge_tenth.ensures.lists in
    let room : IsFull (after_purge mid) b → ⊥ = λ q. c.purge_tenth.ensures.room full'.1 (ap (λ (l : Lists). l.free) after ∙ q.1) in
    let made : TakesIn (in_bucket b (unlinked e)) true out mid (inserted (after_purge mid) b e) =
    purged_in c.insert_enters.ensures.enters mid b e lt full' c.purge_takes.ensures room out c.purge_tenth.ensures.entries (c.purge_tenth.ensures.tenth full'.1) in
    let last : inserted (after_purge mid) b e ≡ c.insert-in-Full.new.self = ap (λ (l : Lists). inserted l b e) (sym after) ∙ sym c.insert-in-Full.ensures.lists in
    subst (λ (q : Lists). TakesIn (in_bucket b (unlinked e)) true out q c.insert-in-Full.new.self) same
    (subst (λ (q : Lists). TakesIn (in_bucket b (unlinked e)) true out mid q) last made)
