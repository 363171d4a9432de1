use Rattle.std.proofs.Common.{◌≡◌, true, length}
use Rattle.std.specs.Prelude.{IfSome}
use Rattle.dir_segment.specs.Lists.{has_slot, chain_of, all_or_behind, first_of_tag, rest_of_tag, steps_to, ticked}
use Rattle.dir_segment.proofs.segment.Segment.probe.Given as goal

abbrev pub invariant-loop-slot : goal.invariant-loop-slot
invariant-loop-slot l = record {
  held : IfSome l.after (λ slot. has_slot slot (chain_of l.self l.bucket) ≡ true);
  found : first_of_tag l.tag (all_or_behind l.after (chain_of l.self l.bucket)) ≡ first_of_tag l.tag (all_or_behind l.fn.after (chain_of l.self l.bucket));
  rest : rest_of_tag l.tag (all_or_behind l.after (chain_of l.self l.bucket))
      ≡ rest_of_tag l.tag (all_or_behind l.fn.after (chain_of l.self l.bucket));
  steps : ticked (steps_to l.tag (all_or_behind l.after (chain_of l.self l.bucket))) l.steps
      ≡ ticked (steps_to l.tag (all_or_behind l.fn.after (chain_of l.self l.bucket))) l.initial.steps;
}

abbrev pub decreases-loop-slot : goal.decreases-loop-slot
decreases-loop-slot l = length (all_or_behind l.after (chain_of l.self l.bucket))
