use Rattle.std.proofs.Common.{◌≡◌, ◌≢◌, ◌+◌, ◌-◌, ◌<◌, refl, sym, ap, ◌∙◌, arith, length-set}
use Rattle.dir_entry.specs.declared.entry.Entry.{Entry}
use Rattle.dir_segment.specs.Lists.{chain_of, take_next}
use Rattle.dir_segment.specs.Links.{at}
use Rattle.dir_segment.proofs.Chains.{slot_within, chain_some}
use Rattle.dir_segment.proofs.Removing.{some_taken, next_some, next_within, next_gone}
use Rattle.dir_segment.proofs.Walks.{seen, own_lists, lists_of-is}
use Rattle.dir_segment.proofs.segment.Segment.take_next.Goals as goal

pub get-entry-requires : goal.get-entry-requires
get-entry-requires c =
    let s = c.self.inside in
    let h = seen s.slots s.free s.free_count s.used s.buckets c.args.self.now c.self.view_is c.self.invariant in
    let lt : c.args.bucket < s.buckets = omega (arith, c.requires.bucket, h.width) in
    record { within = slot_within s.slots s.free s.free_count s.used s.buckets c.args.self.now h c.args.bucket lt c.args.before c.requires.held }

pub get-next-requires : goal.get-next-requires
get-next-requires c =
    let s = c.self.inside in
    let h = seen s.slots s.free s.free_count s.used s.buckets c.args.self.now c.self.view_is c.self.invariant in
    let lt : c.args.bucket < s.buckets = omega (arith, c.requires.bucket, h.width) in
    let link : c.get-entry.result.next ≡ (at s.slots c.args.before).next = ap (λ (e : Entry). e.next) c.get-entry.ensures.entry in
    let more : c.get-entry.result.next ≢ 0 = λ q. next_some s.slots s.free s.free_count s.used s.buckets c.args.self.now h c.args.bucket lt c.args.before c.requires.held c.requires.some (sym link ∙ q) in
    let within = next_within s.slots s.free s.free_count s.used s.buckets c.args.self.now h c.args.bucket lt c.args.before c.requires.held c.get-entry.result.next link more in
    record { within = within }

pub set-requires-clause-within : goal.set-requires-clause-within
set-requires-clause-within c =
    let s = c.self.inside in
    let h = seen s.slots s.free s.free_count s.used s.buckets c.args.self.now c.self.view_is c.self.invariant in
    let lt : c.args.bucket < s.buckets = omega (arith, c.requires.bucket, h.width) in
    slot_within s.slots s.free s.free_count s.used s.buckets c.args.self.now h c.args.bucket lt c.args.before c.requires.held

pub set-requires-2-clause-within : goal.set-requires-2-clause-within
set-requires-2-clause-within c =
    let s = c.self.inside in
    let h = seen s.slots s.free s.free_count s.used s.buckets c.args.self.now c.self.view_is c.self.invariant in
    let lt : c.args.bucket < s.buckets = omega (arith, c.requires.bucket, h.width) in
    let link : c.get-entry.result.next ≡ (at s.slots c.args.before).next = ap (λ (e : Entry). e.next) c.get-entry.ensures.entry in
    let more : c.get-entry.result.next ≢ 0 = λ q. next_some s.slots s.free s.free_count s.used s.buckets c.args.self.now h c.args.bucket lt c.args.before c.requires.held c.requires.some (sym link ∙ q) in
    let within = next_within s.slots s.free s.free_count s.used s.buckets c.args.self.now h c.args.bucket lt c.args.before c.requires.held c.get-entry.result.next link more in
    rw c.set.ensures (omega (arith, within, length-set s.slots c.args.before (record c.get-entry.result { next = c.get-next.result.next })))

pub overflow_sub-self : goal.overflow_sub-self
overflow_sub-self c =
    let s = c.self.inside in
    let h = seen s.slots s.free s.free_count s.used s.buckets c.args.self.now c.self.view_is c.self.invariant in
    let lt : c.args.bucket < s.buckets = omega (arith, c.requires.bucket, h.width) in
    some_taken s.slots s.free s.free_count s.used s.buckets c.args.self.now h c.args.bucket lt (chain_some c.args.before (chain_of c.args.self.now c.args.bucket) c.requires.some)

pub invariant_of-self : goal.invariant_of-self
invariant_of-self c =
    let s = c.self.inside in
    let h = seen s.slots s.free s.free_count s.used s.buckets c.args.self.now c.self.view_is c.self.invariant in
    let lt : c.args.bucket < s.buckets = omega (arith, c.requires.bucket, h.width) in
    own_lists c.set-2.new.self c.get-entry.result.next (s.free_count + 1) (s.used - 1) s.buckets (take_next c.args.self.now c.args.bucket c.args.before (chain_of c.args.self.now c.args.bucket))
    (next_gone s.slots s.free s.free_count s.used s.buckets c.args.self.now h c.args.bucket lt c.args.before c.requires.held c.requires.some c.get-entry.result c.get-entry.ensures.entry c.get-entry.result.next refl c.get-next.result c.get-next.ensures.entry c.set.new.self c.set.ensures c.set-2.new.self c.set-2.ensures)

pub returns : goal.returns
returns c =
    let s = c.self.inside in
    let h = seen s.slots s.free s.free_count s.used s.buckets c.args.self.now c.self.view_is c.self.invariant in
    let lt : c.args.bucket < s.buckets = omega (arith, c.requires.bucket, h.width) in
    lists_of-is c.set-2.new.self c.get-entry.result.next (s.free_count + 1) (s.used - 1) s.buckets (take_next c.args.self.now c.args.bucket c.args.before (chain_of c.args.self.now c.args.bucket))
    (next_gone s.slots s.free s.free_count s.used s.buckets c.args.self.now h c.args.bucket lt c.args.before c.requires.held c.requires.some c.get-entry.result c.get-entry.ensures.entry c.get-entry.result.next refl c.get-next.result c.get-next.ensures.entry c.set.new.self c.set.ensures c.set-2.new.self c.set-2.ensures)
