use Rattle.std.proofs.Common.{◌+◌, ◌-◌, ◌<◌, refl, arith}
use Rattle.dir_segment.specs.Lists.{inserted}
use Rattle.dir_segment.proofs.Inserting.{inserted_root, inserted_behind, head_within, is_full}
use Rattle.dir_segment.proofs.Moves.{taken_le}
use Rattle.dir_segment.proofs.Walks.{seen, own_lists, lists_of-is}
use Rattle.dir_segment.proofs.segment.Segment.insert.Goals as goal

pub overflow_add-self : goal.overflow_add-self
overflow_add-self c =
    let s = c.self.inside in
    let h = seen s.slots s.free s.free_count s.used s.buckets c.args.self.now c.self.view_is c.self.invariant in
    let lt : c.args.bucket < s.buckets = omega (arith, c.requires.bucket, h.width) in
    omega (arith, taken_le s.slots s.free s.free_count s.used s.buckets c.args.self.now h, h.few)

pub invariant_of-self : goal.invariant_of-self
invariant_of-self c =
    let s = c.self.inside in
    let h = seen s.slots s.free s.free_count s.used s.buckets c.args.self.now c.self.view_is c.self.invariant in
    let lt : c.args.bucket < s.buckets = omega (arith, c.requires.bucket, h.width) in
    own_lists c.set.new.self s.free s.free_count (s.used + 1) s.buckets (inserted c.args.self.now c.args.bucket c.args.entry)
    (inserted_root s.slots s.free s.free_count s.used s.buckets c.args.self.now h c.args.bucket lt c.args.entry c.requires.some c.root_of-at.result c.root_of-at.ensures c.get-root.result c.get-root.ensures.entry c.if-root-eq0.true c.set.new.self c.set.ensures)

pub returns-then-root-eq0-clause-lists : goal.returns-then-root-eq0-clause-lists
returns-then-root-eq0-clause-lists c =
    let s = c.self.inside in
    let h = seen s.slots s.free s.free_count s.used s.buckets c.args.self.now c.self.view_is c.self.invariant in
    let lt : c.args.bucket < s.buckets = omega (arith, c.requires.bucket, h.width) in
    lists_of-is c.set.new.self s.free s.free_count (s.used + 1) s.buckets (inserted c.args.self.now c.args.bucket c.args.entry)
    (inserted_root s.slots s.free s.free_count s.used s.buckets c.args.self.now h c.args.bucket lt c.args.entry c.requires.some c.root_of-at.result c.root_of-at.ensures c.get-root.result c.get-root.ensures.entry c.if-root-eq0.true c.set.new.self c.set.ensures)

pub returns-then-self-eq0-clause-full : goal.returns-then-self-eq0-clause-full
returns-then-self-eq0-clause-full c =
    let s = c.self.inside in
    let h = seen s.slots s.free s.free_count s.used s.buckets c.args.self.now c.self.view_is c.self.invariant in
    let lt : c.args.bucket < s.buckets = omega (arith, c.requires.bucket, h.width) in
    let full = is_full s.slots s.free s.free_count s.used s.buckets c.args.self.now h c.args.bucket lt c.root_of-at.result c.root_of-at.ensures c.get-root.result c.get-root.ensures.entry c.if-root-eq0.false c.if-self-eq0.true in
    (λ _. full, λ _. refl)

pub get-requires : goal.get-requires
get-requires c =
    let s = c.self.inside in
    let h = seen s.slots s.free s.free_count s.used s.buckets c.args.self.now c.self.view_is c.self.invariant in
    let lt : c.args.bucket < s.buckets = omega (arith, c.requires.bucket, h.width) in
    record { within = head_within s.slots s.free s.free_count s.used s.buckets c.args.self.now h c.args.bucket lt (omega (arith, c.if-self-eq0.false)) }

pub set-requires-2-clause-within : goal.set-requires-2-clause-within
set-requires-2-clause-within c =
    let s = c.self.inside in
    let h = seen s.slots s.free s.free_count s.used s.buckets c.args.self.now c.self.view_is c.self.invariant in
    let lt : c.args.bucket < s.buckets = omega (arith, c.requires.bucket, h.width) in
    head_within s.slots s.free s.free_count s.used s.buckets c.args.self.now h c.args.bucket lt (omega (arith, c.if-self-eq0.false))

pub overflow_add-self-2 : goal.overflow_add-self-2
overflow_add-self-2 c =
    let s = c.self.inside in
    let h = seen s.slots s.free s.free_count s.used s.buckets c.args.self.now c.self.view_is c.self.invariant in
    let lt : c.args.bucket < s.buckets = omega (arith, c.requires.bucket, h.width) in
    omega (arith, taken_le s.slots s.free s.free_count s.used s.buckets c.args.self.now h, h.few)

pub invariant_of-self-2 : goal.invariant_of-self-2
invariant_of-self-2 c =
    let s = c.self.inside in
    let h = seen s.slots s.free s.free_count s.used s.buckets c.args.self.now c.self.view_is c.self.invariant in
    let lt : c.args.bucket < s.buckets = omega (arith, c.requires.bucket, h.width) in
    own_lists c.set-3.new.self c.get.result.next (s.free_count - 1) (s.used + 1) s.buckets (inserted c.args.self.now c.args.bucket c.args.entry)
    (inserted_behind s.slots s.free s.free_count s.used s.buckets c.args.self.now h c.args.bucket lt c.args.entry c.requires.some c.root_of-at.result c.root_of-at.ensures c.get-root.result c.get-root.ensures.entry c.if-root-eq0.false c.if-self-eq0.false c.get.result c.get.ensures.entry c.set-2.new.self c.set-2.ensures c.set-3.new.self c.set-3.ensures)

pub returns-clause-lists : goal.returns-clause-lists
returns-clause-lists c =
    let s = c.self.inside in
    let h = seen s.slots s.free s.free_count s.used s.buckets c.args.self.now c.self.view_is c.self.invariant in
    let lt : c.args.bucket < s.buckets = omega (arith, c.requires.bucket, h.width) in
    lists_of-is c.set-3.new.self c.get.result.next (s.free_count - 1) (s.used + 1) s.buckets (inserted c.args.self.now c.args.bucket c.args.entry)
    (inserted_behind s.slots s.free s.free_count s.used s.buckets c.args.self.now h c.args.bucket lt c.args.entry c.requires.some c.root_of-at.result c.root_of-at.ensures c.get-root.result c.get-root.ensures.entry c.if-root-eq0.false c.if-self-eq0.false c.get.result c.get.ensures.entry c.set-2.new.self c.set-2.ensures c.set-3.new.self c.set-3.ensures)
