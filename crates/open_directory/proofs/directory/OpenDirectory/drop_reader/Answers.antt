use Rattle.std.proofs.Common.{◌≡◌, ℕ, ◌-◌, cond, sym, ap, ◌∙◌, refl, arith}
use Rattle.open_directory.specs.Directory.{followers_kept, followers_of, is_done_put, is_open_put, kept_put, one_fewer, with_followers}
use Rattle.open_directory.proofs.Followers.{followers_removed, is_follower_self, is_follower_so, is_no_follower}
use Rattle.open_directory.proofs.Standing.{forgets_done, forgets_open, kept_other, seen_changed}
use Rattle.open_directory.proofs.Indexed.{indexed_removed}
use Rattle.open_directory.proofs.directory.OpenDirectory.drop_reader.Goals as goal

pub remove_follower-requires : goal.remove_follower-requires
remove_follower-requires c =
    let gone = c.in-Some.gone in
    let removed = followers_removed gone.put c.args.reader gone c.self.inside.readers.entries (sym c.in-Some.ensures.value) in
    let one = ap {B = ℕ} (λ b. cond b 1 0) (is_follower_self gone c.if-gone.true) in
    let held = c.self.invariant.held.followers gone.put in
    omega (arith, removed, one, held)

pub invariant_of-self : goal.invariant_of-self
invariant_of-self c =
    let gone = c.in-Some.gone in
    let puts = c.self.inside.puts.entries in
    let fewer_puts = one_fewer gone.put puts in
    record {
      index = indexed_removed c.args.reader gone c.self.inside.index.trees.entries c.remove-in-Some.new.self.trees.entries c.self.inside.readers.entries c.remove.new.self.entries c.self.invariant.index c.remove-in-Some.ensures.least c.remove-in-Some.ensures.next (sym c.in-Some.ensures.value) c.in-Some.ensures.finds;
      held = record {
        few = c.self.invariant.held.few;
        writing = λ q. c.self.invariant.held.writing q ∙ sym (ap (λ b. cond b 1 0) (forgets_open gone.put fewer_puts c.remove_follower.new.puts.entries c.remove_follower.ensures.forgets q ∙ seen_changed is_open_put (λ kept. with_followers (kept.followers - 1) kept) (λ kept. refl) q gone.put puts));
        followed = forgets_done gone.put fewer_puts c.remove_follower.new.puts.entries c.remove_follower.ensures.forgets (λ q other. ap is_done_put (kept_other (λ kept. with_followers (kept.followers - 1) kept) q gone.put puts other) ∙ c.self.invariant.held.followed q);
        followers = λ p.
            let removed = followers_removed p c.args.reader gone c.self.inside.readers.entries (sym c.in-Some.ensures.value) in
            let one = ap {B = ℕ} (λ b. cond b 1 0) (is_follower_so p gone c.if-gone.true) in
            let held = c.self.invariant.held.followers p in
            let fewer = c.remove_follower.ensures.followers p in
            let readers = ap (followers_of p) c.in-Some.ensures.entries in
            let all : followers_kept (kept_put p c.remove_follower.new.puts.entries) ≡ followers_of p c.remove.new.self.entries = omega (arith, removed, one, held, fewer, readers) in
            all;
      };
    }

pub invariant_of-self-else-gone : goal.invariant_of-self-else-gone
invariant_of-self-else-gone c =
    let gone = c.in-Some.gone in
    record {
      index = indexed_removed c.args.reader gone c.self.inside.index.trees.entries c.remove-in-Some.new.self.trees.entries c.self.inside.readers.entries c.remove.new.self.entries c.self.invariant.index c.remove-in-Some.ensures.least c.remove-in-Some.ensures.next (sym c.in-Some.ensures.value) c.in-Some.ensures.finds;
      held = record {
        few = c.self.invariant.held.few;
        writing = c.self.invariant.held.writing;
        followed = c.self.invariant.held.followed;
        followers = λ p.
            let removed = followers_removed p c.args.reader gone c.self.inside.readers.entries (sym c.in-Some.ensures.value) in
            let none = ap {B = ℕ} (λ b. cond b 1 0) (is_no_follower p gone c.if-gone.false) in
            let held = c.self.invariant.held.followers p in
            let readers = ap (followers_of p) c.in-Some.ensures.entries in
            let all : followers_kept (kept_put p c.self.inside.puts.entries) ≡ followers_of p c.remove.new.self.entries = omega (arith, removed, none, held, readers) in
            all;
      };
    }
