use Rattle.std.proofs.Common.{◌≡◌, ◌*◌, ◌<◌, sym, ap, ◌∙◌, arith}
use Rattle.std.specs.Prelude.{Option}
use Rattle.dir_entry.specs.declared.entry.Entry.{Entry}
use Rattle.dir_segment.specs.Lists.{SlotRow, row}
use Rattle.dir_segment.specs.Links.{at}
use Rattle.dir_segment.specs.Purging.{offer, offer_found}
use Rattle.dir_segment.proofs.Purging.{none_behind, one_behind}
use Rattle.dir_segment.proofs.Walks.{seen}
use Rattle.dir_segment.proofs.segment.Segment.offer_slot.Goals as goal

pub returns-then-entry-eq0-clause-offered : goal.returns-then-entry-eq0-clause-offered
returns-then-entry-eq0-clause-offered c =
    let s = c.self.inside in
    let h = seen s.slots s.free s.free_count s.used s.buckets c.args.self.now c.self.view_is c.self.invariant in
    let lt : c.args.slot < 4 * s.buckets = omega (arith, c.requires.slot, h.width) in
    let offset : c.get-entry.result.offset ≡ (at s.slots c.args.slot).offset = ap (λ (e : Entry). e.offset) c.get-entry.ensures.entry in
    let none = none_behind s.slots s.free s.free_count s.used s.buckets c.args.self.now h c.args.slot lt c.requires.behind (sym offset ∙ c.if-entry-eq0.true) in
    sym (ap (λ (f : Option SlotRow). offer_found f c.args.out.now) none)

pub returns-clause-offered : goal.returns-clause-offered
returns-clause-offered c =
    let s = c.self.inside in
    let h = seen s.slots s.free s.free_count s.used s.buckets c.args.self.now c.self.view_is c.self.invariant in
    let lt : c.args.slot < 4 * s.buckets = omega (arith, c.requires.slot, h.width) in
    let offset : c.get-entry.result.offset ≡ (at s.slots c.args.slot).offset = ap (λ (e : Entry). e.offset) c.get-entry.ensures.entry in
    let one = one_behind s.slots s.free s.free_count s.used s.buckets c.args.self.now h c.args.slot lt c.requires.behind (λ q. c.if-entry-eq0.false (offset ∙ q)) in
    c.offer.ensures.offered ∙ ap (λ (e : Entry). offer c.args.out.now (row c.args.slot e)) c.get-entry.ensures.entry
    ∙ sym (ap (λ (f : Option SlotRow). offer_found f c.args.out.now) one)
