use Rattle.std.proofs.Common.{◌≡◌, None, ap, ◌∙◌, refl, arith}
use Rattle.open_directory.specs.declared.kept.KeptPut.{KeptPut}
use Rattle.open_directory.specs.declared.kept.Writer.{Writer}
use Rattle.open_directory.specs.declared.kept.Phase.TheVariants.{Writing}
use Rattle.open_directory.specs.Directory.{kept_put, put_state, writers_of}
use Rattle.open_directory.proofs.Standing.{absent_state, opened_followed, opened_followers, opened_writing}
use Rattle.open_directory.proofs.directory.OpenDirectory.open_writer.Goals as goal

pub invariant_of-self-2 : goal.invariant_of-self-2
invariant_of-self-2 c =
    let puts = c.self.inside.puts.entries in
    let kept : KeptPut = record { phase = Writing; cuts = c.new.result; followers = 0 } in
    let writer : Writer = record { put = c.args.put; key = c.args.key; request = c.args.request; response = c.args.response } in
    let unknown : put_state c.args.put puts ≡ None = grind arith in
    let none = absent_state (kept_put c.args.put puts) unknown in
    record {
      index = c.self.invariant.index;
      held = record {
        few = let h = c.self.invariant.held.few in grind arith;
        writing = λ q. ap (writers_of q) (grind arith) ∙ opened_writing writer c.self.inside.writers.items puts c.insert.new.self.entries kept refl none (c.in_ok-insert.ensures.updates).0 c.self.invariant.held.writing q;
        followers = λ q. opened_followers c.args.put puts c.insert.new.self.entries kept refl none (c.in_ok-insert.ensures.updates).0 q ∙ c.self.invariant.held.followers q;
        followed = opened_followed c.args.put puts c.insert.new.self.entries kept refl (c.in_ok-insert.ensures.updates).0 c.self.invariant.held.followed;
      };
    }
