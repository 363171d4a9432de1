use Rattle.std.proofs.Common.{cond, sym, ap, ◌∙◌}
use Rattle.open_directory.proofs.directory.OpenDirectory.cut_fragment.Goals as goal

pub invariant_of-self : goal.invariant_of-self
invariant_of-self c = record {
  index = c.self.invariant.index;
  held = record {
    few = c.self.invariant.held.few;
    writing = λ q. c.self.invariant.held.writing q ∙ sym (ap (λ b. cond b 1 0) (c.push_row.ensures.standing q).0);
    followers = λ p. c.push_row.ensures.followers p ∙ c.self.invariant.held.followers p;
    followed = λ q. (c.push_row.ensures.standing q).1 ∙ c.self.invariant.held.followed q;
  };
}
