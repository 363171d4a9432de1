use Rattle.std.proofs.Common.{sym, ap, ◌∙◌}
use Rattle.open_directory.specs.Directory.{followers_of}
use Rattle.open_directory.proofs.Followers.{followers_moved}
use Rattle.open_directory.proofs.Indexed.{indexed_moved}
use Rattle.open_directory.proofs.directory.OpenDirectory.set_reader.Goals as goal

pub invariant_of-self : goal.invariant_of-self
invariant_of-self c = record {
  index = indexed_moved c.in-Some.put c.args.reader c.args.next c.self.inside.index.trees.entries c.set.new.self.trees.entries c.self.inside.readers.entries c.set_next.new.self.entries c.self.invariant.index c.set.ensures.least c.set.ensures.next c.in-Some.ensures.put c.set_next.ensures.moved;
  held = record {
    few = c.self.invariant.held.few;
    writing = c.self.invariant.held.writing;
    followers = λ p. c.self.invariant.held.followers p ∙ sym (ap (followers_of p) c.set_next.ensures.moved ∙ followers_moved p c.args.reader c.args.next c.self.inside.readers.entries);
    followed = c.self.invariant.held.followed;
  };
}
