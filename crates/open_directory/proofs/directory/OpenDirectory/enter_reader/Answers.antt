use Rattle.std.proofs.Common.{◌≡◌, None, ◌+◌, ◌<◌, ◌^◌, cond, length, sym, ap, ◌∙◌, refl, zero-add, arith}
use Rattle.open_directory.specs.declared.kept.Reader.{Reader}
use Rattle.open_directory.specs.Directory.{followers_of, is_done_put, is_kept_open, is_number, is_open_put, kept_put, with_followers}
use Rattle.open_directory.proofs.Followers.{followers_added, followers_few, is_follower_so, is_no_follower}
use Rattle.open_directory.proofs.Standing.{more_is_not_done, seen_changed}
use Rattle.open_directory.proofs.Indexed.{indexed_added}
use Rattle.std.specs.Map.{lookup}
use Rattle.open_directory.proofs.directory.OpenDirectory.enter_reader.Goals as goal

pub add_follower-requires-clause-few : goal.add_follower-requires-clause-few
add_follower-requires-clause-few c =
    let held = c.self.invariant.held.followers c.args.put in
    let few = followers_few c.args.put c.self.inside.readers.entries in
    let small : length c.self.inside.readers.entries < 2 ^ 63 = c.len-readers.ensures.small in
    omega (arith, held, few, small)

pub invariant_of-self : goal.invariant_of-self
invariant_of-self c =
    let reader : Reader = record { put = c.args.put; next = c.args.next; follows = c.is_open-follows.result } in
    let none : lookup (is_number c.args.reader) c.self.inside.readers.entries ≡ None = grind arith in
    record {
      index = indexed_added c.args.reader reader c.self.inside.index.trees.entries c.add.new.self.trees.entries c.self.inside.readers.entries c.add-2.new.self.entries c.self.invariant.index c.add.ensures.least c.add.ensures.next none c.add-2.ensures.finds;
      held = record {
        few = c.self.invariant.held.few;
        writing = λ q. c.self.invariant.held.writing q ∙ sym (ap (λ b. cond b 1 0) (ap (λ es. is_kept_open q es) c.add_follower.ensures.more ∙ seen_changed is_open_put (λ kept. with_followers (kept.followers + 1) kept) (λ kept. refl) q c.args.put c.self.inside.puts.entries));
        followed = λ q. ap (λ es. is_done_put (kept_put q es)) c.add_follower.ensures.more ∙ more_is_not_done q c.args.put c.self.inside.puts.entries (c.self.invariant.held.followed q);
        followers = λ p.
            let added = followers_added p c.args.reader reader c.self.inside.readers.entries (grind arith) in
            let one = ap (λ b. cond b 1 0 + followers_of p c.self.inside.readers.entries) (is_follower_so p reader c.if-follows.true) in
            c.add_follower.ensures.followers p
            ∙ ap (λ k. cond (is_number c.args.put p) 1 0 + k) (c.self.invariant.held.followers p)
            ∙ sym (ap (followers_of p) c.add-2.ensures.entries ∙ added ∙ one);
      };
    }

pub invariant_of-self-else-follows : goal.invariant_of-self-else-follows
invariant_of-self-else-follows c =
    let reader : Reader = record { put = c.args.put; next = c.args.next; follows = c.is_open-follows.result } in
    let none : lookup (is_number c.args.reader) c.self.inside.readers.entries ≡ None = grind arith in
    record {
      index = indexed_added c.args.reader reader c.self.inside.index.trees.entries c.add.new.self.trees.entries c.self.inside.readers.entries c.add-2.new.self.entries c.self.invariant.index c.add.ensures.least c.add.ensures.next none c.add-2.ensures.finds;
      held = record {
        few = c.self.invariant.held.few;
        writing = c.self.invariant.held.writing;
        followed = c.self.invariant.held.followed;
        followers = λ p.
            let added = followers_added p c.args.reader reader c.self.inside.readers.entries (grind arith) in
            let none = ap (λ b. cond b 1 0 + followers_of p c.self.inside.readers.entries) (is_no_follower p reader c.if-follows.false) in
            c.self.invariant.held.followers p
            ∙ sym (ap (followers_of p) c.add-2.ensures.entries ∙ added ∙ none ∙ zero-add (followers_of p c.self.inside.readers.entries));
      };
    }
