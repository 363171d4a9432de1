use Rattle.std.proofs.Common.{◌≡◌, ◌+◌, ◌-◌, ◌*◌, ◌<◌, ap, ◌∙◌, arith, length-set}
use Rattle.dir_entry.specs.declared.entry.Entry.{Entry}
use Rattle.dir_segment.specs.Lists.{chain_of, take_root}
use Rattle.dir_segment.specs.Links.{at}
use Rattle.dir_segment.proofs.Removing.{root_held, some_taken, next_within, root_taken_last, root_taken_first}
use Rattle.dir_segment.proofs.Walks.{seen, own_lists, lists_of-is}
use Rattle.dir_segment.proofs.segment.Segment.take_root.Goals as goal

pub overflow_sub-self : goal.overflow_sub-self
overflow_sub-self c =
    let s = c.self.inside in
    let h = seen s.slots s.free s.free_count s.used s.buckets c.args.self.now c.self.view_is c.self.invariant in
    let lt : c.args.bucket < s.buckets = omega (arith, c.requires.bucket, h.width) in
    some_taken s.slots s.free s.free_count s.used s.buckets c.args.self.now h c.args.bucket lt c.requires.some

pub invariant_of-self : goal.invariant_of-self
invariant_of-self c =
    let s = c.self.inside in
    let h = seen s.slots s.free s.free_count s.used s.buckets c.args.self.now c.self.view_is c.self.invariant in
    let lt : c.args.bucket < s.buckets = omega (arith, c.requires.bucket, h.width) in
    own_lists c.set.new.self s.free s.free_count (s.used - 1) s.buckets (take_root c.args.self.now c.args.bucket (chain_of c.args.self.now c.args.bucket))
    (root_taken_last s.slots s.free s.free_count s.used s.buckets c.args.self.now h c.args.bucket lt c.requires.some c.root_of-at.result c.root_of-at.ensures c.get-slot.result c.get-slot.ensures.entry c.if-slot-eq0.true c.set.new.self c.set.ensures)

pub returns-then-slot-eq0 : goal.returns-then-slot-eq0
returns-then-slot-eq0 c =
    let s = c.self.inside in
    let h = seen s.slots s.free s.free_count s.used s.buckets c.args.self.now c.self.view_is c.self.invariant in
    let lt : c.args.bucket < s.buckets = omega (arith, c.requires.bucket, h.width) in
    lists_of-is c.set.new.self s.free s.free_count (s.used - 1) s.buckets (take_root c.args.self.now c.args.bucket (chain_of c.args.self.now c.args.bucket))
    (root_taken_last s.slots s.free s.free_count s.used s.buckets c.args.self.now h c.args.bucket lt c.requires.some c.root_of-at.result c.root_of-at.ensures c.get-slot.result c.get-slot.ensures.entry c.if-slot-eq0.true c.set.new.self c.set.ensures)

pub get-second-requires : goal.get-second-requires
get-second-requires c =
    let s = c.self.inside in
    let h = seen s.slots s.free s.free_count s.used s.buckets c.args.self.now c.self.view_is c.self.invariant in
    let lt : c.args.bucket < s.buckets = omega (arith, c.requires.bucket, h.width) in
    let link : c.get-slot.result.next ≡ (at s.slots c.root_of-at.result).next = ap (λ (e : Entry). e.next) c.get-slot.ensures.entry in
    let from : c.get-slot.result.next ≡ (at s.slots (4 * c.args.bucket)).next = link ∙ ap (λ k. (at s.slots k).next) c.root_of-at.ensures in
    record { within = next_within s.slots s.free s.free_count s.used s.buckets c.args.self.now h c.args.bucket lt (4 * c.args.bucket) (root_held s.slots s.free s.free_count s.used s.buckets c.args.self.now h c.args.bucket lt c.requires.some) c.get-slot.result.next from c.if-slot-eq0.false }

pub set-requires-3-clause-within : goal.set-requires-3-clause-within
set-requires-3-clause-within c =
    let s = c.self.inside in
    let h = seen s.slots s.free s.free_count s.used s.buckets c.args.self.now c.self.view_is c.self.invariant in
    let lt : c.args.bucket < s.buckets = omega (arith, c.requires.bucket, h.width) in
    let link : c.get-slot.result.next ≡ (at s.slots c.root_of-at.result).next = ap (λ (e : Entry). e.next) c.get-slot.ensures.entry in
    let from : c.get-slot.result.next ≡ (at s.slots (4 * c.args.bucket)).next = link ∙ ap (λ k. (at s.slots k).next) c.root_of-at.ensures in
    let within = next_within s.slots s.free s.free_count s.used s.buckets c.args.self.now h c.args.bucket lt (4 * c.args.bucket) (root_held s.slots s.free s.free_count s.used s.buckets c.args.self.now h c.args.bucket lt c.requires.some) c.get-slot.result.next from c.if-slot-eq0.false in
    rw c.set-2.ensures (omega (arith, within, length-set s.slots c.root_of-at.result c.get-second.result))

pub invariant_of-self-2 : goal.invariant_of-self-2
invariant_of-self-2 c =
    let s = c.self.inside in
    let h = seen s.slots s.free s.free_count s.used s.buckets c.args.self.now c.self.view_is c.self.invariant in
    let lt : c.args.bucket < s.buckets = omega (arith, c.requires.bucket, h.width) in
    let link : c.get-slot.result.next ≡ (at s.slots c.root_of-at.result).next = ap (λ (e : Entry). e.next) c.get-slot.ensures.entry in
    own_lists c.set-3.new.self c.get-slot.result.next (s.free_count + 1) (s.used - 1) s.buckets (take_root c.args.self.now c.args.bucket (chain_of c.args.self.now c.args.bucket))
    (root_taken_first s.slots s.free s.free_count s.used s.buckets c.args.self.now h c.args.bucket lt c.requires.some c.root_of-at.result c.root_of-at.ensures c.get-slot.result.next link c.if-slot-eq0.false c.get-second.result c.get-second.ensures.entry c.set-2.new.self c.set-2.ensures c.set-3.new.self c.set-3.ensures)

pub returns : goal.returns
returns c =
    let s = c.self.inside in
    let h = seen s.slots s.free s.free_count s.used s.buckets c.args.self.now c.self.view_is c.self.invariant in
    let lt : c.args.bucket < s.buckets = omega (arith, c.requires.bucket, h.width) in
    let link : c.get-slot.result.next ≡ (at s.slots c.root_of-at.result).next = ap (λ (e : Entry). e.next) c.get-slot.ensures.entry in
    lists_of-is c.set-3.new.self c.get-slot.result.next (s.free_count + 1) (s.used - 1) s.buckets (take_root c.args.self.now c.args.bucket (chain_of c.args.self.now c.args.bucket))
    (root_taken_first s.slots s.free s.free_count s.used s.buckets c.args.self.now h c.args.bucket lt c.requires.some c.root_of-at.result c.root_of-at.ensures c.get-slot.result.next link c.if-slot-eq0.false c.get-second.result c.get-second.ensures.entry c.set-2.new.self c.set-2.ensures c.set-3.new.self c.set-3.ensures)
