use Rattle.std.proofs.Common.{◌≡◌, ℕ, true, false, cond, sym, ap, ◌∙◌, refl, arith}
use Rattle.open_directory.specs.Directory.{changed, is_done_put, is_number, is_open_put, kept_put, with_phase, writers_of}
use Rattle.open_directory.proofs.Standing.{forgets_done, forgets_open, kept_other, open_ended, writers_gone}
use Rattle.open_directory.proofs.directory.OpenDirectory.end.Goals as goal

pub invariant_of-self : goal.invariant_of-self
invariant_of-self c =
    let put = c.args.put in
    let puts = c.self.inside.puts.entries in
    let ended = changed (with_phase c.args.phase) put puts in
    record {
      index = c.self.invariant.index;
      held = record {
        few = let h = c.self.invariant.held.few in omega (arith, h, c.remove_writer.ensures.fewer);
        writing = λ q.
            ap (writers_of q) c.remove_writer.ensures.but
            ∙ writers_gone put q c.self.inside.writers.items
            ∙ gone q (c.self.invariant.held.writing q)
            ∙ sym (ap (λ b. cond b 1 0) (forgets_open put ended c.end.new.puts.entries c.end.ensures.forgets q ∙ open_ended c.args.phase c.requires put q puts));
        followers = λ p. c.end.ensures.followers p ∙ c.self.invariant.held.followers p;
        followed = forgets_done put ended c.end.new.puts.entries c.end.ensures.forgets (λ q other. ap is_done_put (kept_other (with_phase c.args.phase) q put puts other) ∙ c.self.invariant.held.followed q);
      };
    }
  where
    gone : (q : ℕ) → writers_of q c.self.inside.writers.items ≡ cond (is_open_put (kept_put q c.self.inside.puts.entries)) 1 0
        → cond (is_number c.args.put q) 0 (writers_of q c.self.inside.writers.items) ≡ cond (cond (is_number c.args.put q) false (is_open_put (kept_put q c.self.inside.puts.entries))) 1 0
    gone q h = elim (is_number c.args.put q) as (λ b. cond b 0 (writers_of q c.self.inside.writers.items) ≡ cond (cond b false (is_open_put (kept_put q c.self.inside.puts.entries))) 1 0) [ true ↦ refl | false ↦ h ]
