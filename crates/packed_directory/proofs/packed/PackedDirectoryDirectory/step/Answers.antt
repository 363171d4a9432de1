use Rattle.std.proofs.Common.{◌≡◌, ◌∷◌, ◌<◌, ◌+◌, ℕ, List, [], length, map, refl, sym, ap, subst, ◌∙◌, arith}
use Rattle.std.specs.Prelude.{Some, None, Option, filter, ◌==◌}
use Rattle.std.proofs.lemmas.List.{get_or_default}
use Rattle.std.proofs.lemmas.List.Elements.{All-get_or}
use Rattle.dir_segment.specs.Lists.{SlotRow, Lists, row, chain_of, all_or_behind, behind_slot, first_of_tag, rest_of_tag, steps_to, ticked}
use Rattle.packed_directory.specs.Phases.{place_of_entry}
use Rattle.packed_directory.specs.Packed.{AreBetween, segment_at}
use Rattle.packed_directory.specs.PackedWalks.{slot_before}
use Rattle.packed_directory.proofs.Chained.{first_block, first_place}
use Rattle.packed_directory.proofs.Plain.{counts, slot_behind, steps_one}
use Rattle.packed_directory.proofs.Under.{none_of_tag, steps_none, steps_some}
use Rattle.packed_directory.proofs.packed.PackedDirectoryDirectory.step.Goals as goal

pub returns-in-None-clause-gives : goal.returns-in-None-clause-gives
returns-in-None-clause-gives c =
    let d = c.self.inside in
    let g = d.beside.geometry in
    let w = c.args.walk.now in
    let tag = w.spot.tag in
    let after = slot_before c.in_ok-next.next in
    let within : w.spot.segment < length d.segments.items = let k = rw (← c.self.view_is) at c.requires.within in omega (arith, k, c.self.invariant.packed.count) in
    let same : c.index-segment.result.now ≡ segment_at d.segments.items w.spot.segment =
    c.index-segment.ensures ∙ get_or_default d.segments.items w.spot.segment c.index-segment.result.now (record { chains = []; free = [] }) within in
    let chain : List SlotRow = chain_of (segment_at d.segments.items w.spot.segment) w.spot.bucket in
    let none = subst (λ (l : Lists). None ≡ first_of_tag tag (all_or_behind after (chain_of l w.spot.bucket))) same (rw c.slot_before.ensures at c.in-None.ensures.found) in
    rw (← c.self.view_is, c.in_ok-next.was)
    (ap (map (λ (r : SlotRow). place_of_entry g d.beside.cursor r.entry)) (none_of_tag tag (all_or_behind after chain) (sym none)), refl)

pub returns-in-None-clause-steps : goal.returns-in-None-clause-steps
returns-in-None-clause-steps c =
    let d = c.self.inside in
    let g = d.beside.geometry in
    let w = c.args.walk.now in
    let tag = w.spot.tag in
    let after = slot_before c.in_ok-next.next in
    let within : w.spot.segment < length d.segments.items = let k = rw (← c.self.view_is) at c.requires.within in omega (arith, k, c.self.invariant.packed.count) in
    let same : c.index-segment.result.now ≡ segment_at d.segments.items w.spot.segment =
    c.index-segment.ensures ∙ get_or_default d.segments.items w.spot.segment c.index-segment.result.now (record { chains = []; free = [] }) within in
    let chain : List SlotRow = chain_of (segment_at d.segments.items w.spot.segment) w.spot.bucket in
    let none = subst (λ (l : Lists). None ≡ first_of_tag tag (all_or_behind after (chain_of l w.spot.bucket))) same (rw c.slot_before.ensures at c.in-None.ensures.found) in
    let ticks = subst (λ (l : Lists). c.probe.new.steps ≡ ticked (steps_to tag (all_or_behind after (chain_of l w.spot.bucket))) c.args.steps.now) same (rw c.slot_before.ensures at c.probe.ensures.steps) in
    let all = steps_none tag (all_or_behind after chain) (sym none) in
    rw (← c.self.view_is, c.in_ok-next.was)
    (counts (steps_to tag (all_or_behind after chain)) (length (all_or_behind after chain)) 0 c.args.steps.now c.probe.new.steps None (omega arith) ticks (omega (arith, all)) (λ s. absurd (cc s)))

pub place_of-requires-clause-few : goal.place_of-requires-clause-few
place_of-requires-clause-few c =
    let d = c.self.inside in
    let g = d.beside.geometry in
    let w = c.args.walk.now in
    let tag = w.spot.tag in
    let after = slot_before c.in_ok-next.next in
    let within : w.spot.segment < length d.segments.items = let k = rw (← c.self.view_is) at c.requires.within in omega (arith, k, c.self.invariant.packed.count) in
    let same : c.index-segment.result.now ≡ segment_at d.segments.items w.spot.segment =
    c.index-segment.ensures ∙ get_or_default d.segments.items w.spot.segment c.index-segment.result.now (record { chains = []; free = [] }) within in
    let chain : List SlotRow = chain_of (segment_at d.segments.items w.spot.segment) w.spot.bucket in
    let found = subst (λ (l : Lists). Some (row c.in-Some.slot c.in-Some.entry) ≡ first_of_tag tag (all_or_behind after (chain_of l w.spot.bucket))) same (rw c.slot_before.ensures at c.in-Some.ensures.found) in
    let between : AreBetween g d.beside.cursor d.floor d.end (segment_at d.segments.items w.spot.segment) =
    All-get_or (AreBetween g d.beside.cursor d.floor d.end) d.segments.items w.spot.segment (record { chains = []; free = [] }) within c.self.invariant.packed.between in
    first_block g d.beside.cursor d.floor d.end w.spot.bucket tag after (segment_at d.segments.items w.spot.segment) c.in-Some.slot c.in-Some.entry between found

pub returns-in-Some-clause-gives : goal.returns-in-Some-clause-gives
returns-in-Some-clause-gives c =
    let d = c.self.inside in
    let g = d.beside.geometry in
    let w = c.args.walk.now in
    let tag = w.spot.tag in
    let after = slot_before c.in_ok-next.next in
    let within : w.spot.segment < length d.segments.items = let k = rw (← c.self.view_is) at c.requires.within in omega (arith, k, c.self.invariant.packed.count) in
    let same : c.index-segment.result.now ≡ segment_at d.segments.items w.spot.segment =
    c.index-segment.ensures ∙ get_or_default d.segments.items w.spot.segment c.index-segment.result.now (record { chains = []; free = [] }) within in
    let chain : List SlotRow = chain_of (segment_at d.segments.items w.spot.segment) w.spot.bucket in
    let found = subst (λ (l : Lists). Some (row c.in-Some.slot c.in-Some.entry) ≡ first_of_tag tag (all_or_behind after (chain_of l w.spot.bucket))) same (rw c.slot_before.ensures at c.in-Some.ensures.found) in
    let next = subst (λ (l : Lists). behind_slot c.in-Some.slot (chain_of l w.spot.bucket) ≡ rest_of_tag tag (all_or_behind after (chain_of l w.spot.bucket))) same (rw c.slot_before.ensures at c.in-Some.ensures.next) in
    rw (← c.self.view_is, c.place_of.ensures, c.in_ok-next.was)
    (first_place g d.beside.cursor tag (all_or_behind after chain) (behind_slot c.in-Some.slot chain) c.in-Some.slot
    c.in-Some.entry found next
    ∙ ap (λ (o : Option ℕ). place_of_entry g d.beside.cursor c.in-Some.entry ∷ map (λ (r : SlotRow). place_of_entry g d.beside.cursor r.entry) (filter (λ (r : SlotRow). r.entry.tag == tag) (all_or_behind o chain)))
    (sym (slot_behind c.in-Some.slot)))

pub returns-in-Some-clause-steps : goal.returns-in-Some-clause-steps
returns-in-Some-clause-steps c =
    let d = c.self.inside in
    let g = d.beside.geometry in
    let w = c.args.walk.now in
    let tag = w.spot.tag in
    let after = slot_before c.in_ok-next.next in
    let within : w.spot.segment < length d.segments.items = let k = rw (← c.self.view_is) at c.requires.within in omega (arith, k, c.self.invariant.packed.count) in
    let same : c.index-segment.result.now ≡ segment_at d.segments.items w.spot.segment =
    c.index-segment.ensures ∙ get_or_default d.segments.items w.spot.segment c.index-segment.result.now (record { chains = []; free = [] }) within in
    let chain : List SlotRow = chain_of (segment_at d.segments.items w.spot.segment) w.spot.bucket in
    let found = subst (λ (l : Lists). Some (row c.in-Some.slot c.in-Some.entry) ≡ first_of_tag tag (all_or_behind after (chain_of l w.spot.bucket))) same (rw c.slot_before.ensures at c.in-Some.ensures.found) in
    let next = subst (λ (l : Lists). behind_slot c.in-Some.slot (chain_of l w.spot.bucket) ≡ rest_of_tag tag (all_or_behind after (chain_of l w.spot.bucket))) same (rw c.slot_before.ensures at c.in-Some.ensures.next) in
    let ticks = subst (λ (l : Lists). c.probe.new.steps ≡ ticked (steps_to tag (all_or_behind after (chain_of l w.spot.bucket))) c.args.steps.now) same (rw c.slot_before.ensures at c.probe.ensures.steps) in
    let all = steps_some tag (all_or_behind after chain) (row c.in-Some.slot c.in-Some.entry) (sym found) in
    let short = ap (λ (o : Option ℕ). length (all_or_behind o chain)) (slot_behind c.in-Some.slot)
    ∙ ap (λ (q : List SlotRow). length q) next in
    rw (← c.self.view_is, c.in_ok-next.was)
    (counts (steps_to tag (all_or_behind after chain)) (length (all_or_behind after chain)) (length (all_or_behind (slot_before (c.in-Some.slot + 1)) chain)) c.args.steps.now c.probe.new.steps (Some c.place_of.result) (omega arith) ticks
    (omega (arith, all, short)) (λ s. steps_one tag (all_or_behind after chain) (row c.in-Some.slot c.in-Some.entry) (sym found)))
