use Rattle.std.proofs.Common.{◌≡◌, ◌<◌, ◌∙◌, true, ap, sym, arith}
use Rattle.dir_entry.specs.declared.entry.Entry.{Entry}
use Rattle.dir_segment.specs.Lists.{has_slot, chain_of}
use Rattle.dir_segment.specs.Links.{at}
use Rattle.dir_segment.proofs.Chains.{last_row, next_row, next_used, slot_within}
use Rattle.dir_segment.proofs.Walks.{seen}
use Rattle.dir_segment.proofs.segment.Segment.chain.Goals as goal

pub get-next-requires : goal.get-next-requires
get-next-requires c =
    let s = c.self.inside in
    let h = seen s.slots s.free s.free_count s.used s.buckets c.args.self.now c.self.view_is c.self.invariant in
    let lt : c.args.bucket < s.buckets = omega (arith, c.requires.bucket, h.width) in
    let has : has_slot c.in-Some.slot (chain_of c.args.self.now c.args.bucket) ≡ true = rw c.in-Some.is at c.requires.after in
    record { within = slot_within s.slots s.free s.free_count s.used s.buckets c.args.self.now h c.args.bucket lt c.in-Some.slot has }

pub returns-then-next-eq0-clause-next : goal.returns-then-next-eq0-clause-next
returns-then-next-eq0-clause-next c =
    let s = c.self.inside in
    let h = seen s.slots s.free s.free_count s.used s.buckets c.args.self.now c.self.view_is c.self.invariant in
    let lt : c.args.bucket < s.buckets = omega (arith, c.requires.bucket, h.width) in
    let has : has_slot c.in-Some.slot (chain_of c.args.self.now c.args.bucket) ≡ true = rw c.in-Some.is at c.requires.after in
    let links : c.get-next.result.next ≡ (at s.slots c.in-Some.slot).next = ap (λ (e : Entry). e.next) c.get-next.ensures.entry in
    rw c.in-Some.is (last_row s.slots s.free s.free_count s.used s.buckets c.args.self.now h c.args.bucket lt c.in-Some.slot has (sym links ∙ c.if-next-eq0.true))

pub get-requires : goal.get-requires
get-requires c =
    let s = c.self.inside in
    let h = seen s.slots s.free s.free_count s.used s.buckets c.args.self.now c.self.view_is c.self.invariant in
    let lt : c.args.bucket < s.buckets = omega (arith, c.requires.bucket, h.width) in
    let has : has_slot c.in-Some.slot (chain_of c.args.self.now c.args.bucket) ≡ true = rw c.in-Some.is at c.requires.after in
    let links : c.get-next.result.next ≡ (at s.slots c.in-Some.slot).next = ap (λ (e : Entry). e.next) c.get-next.ensures.entry in
    let next = next_row s.slots s.free s.free_count s.used s.buckets c.args.self.now h c.args.bucket lt c.in-Some.slot has c.get-next.result.next links c.if-next-eq0.false in
    record { within = slot_within s.slots s.free s.free_count s.used s.buckets c.args.self.now h c.args.bucket lt c.get-next.result.next next.1 }

pub returns-else-next-eq0-clause-next : goal.returns-else-next-eq0-clause-next
returns-else-next-eq0-clause-next c =
    let s = c.self.inside in
    let h = seen s.slots s.free s.free_count s.used s.buckets c.args.self.now c.self.view_is c.self.invariant in
    let lt : c.args.bucket < s.buckets = omega (arith, c.requires.bucket, h.width) in
    let has : has_slot c.in-Some.slot (chain_of c.args.self.now c.args.bucket) ≡ true = rw c.in-Some.is at c.requires.after in
    let links : c.get-next.result.next ≡ (at s.slots c.in-Some.slot).next = ap (λ (e : Entry). e.next) c.get-next.ensures.entry in
    rw (c.in-Some.is, c.get.ensures.entry)
    (next_row s.slots s.free s.free_count s.used s.buckets c.args.self.now h c.args.bucket lt c.in-Some.slot has c.get-next.result.next links c.if-next-eq0.false)

pub returns-else-next-eq0-clause-used : goal.returns-else-next-eq0-clause-used
returns-else-next-eq0-clause-used c =
    let s = c.self.inside in
    let h = seen s.slots s.free s.free_count s.used s.buckets c.args.self.now c.self.view_is c.self.invariant in
    let lt : c.args.bucket < s.buckets = omega (arith, c.requires.bucket, h.width) in
    let has : has_slot c.in-Some.slot (chain_of c.args.self.now c.args.bucket) ≡ true = rw c.in-Some.is at c.requires.after in
    let links : c.get-next.result.next ≡ (at s.slots c.in-Some.slot).next = ap (λ (e : Entry). e.next) c.get-next.ensures.entry in
    rw c.get.ensures.entry (next_used s.slots s.free s.free_count s.used s.buckets c.args.self.now h c.args.bucket lt c.in-Some.slot has c.get-next.result.next links c.if-next-eq0.false)
