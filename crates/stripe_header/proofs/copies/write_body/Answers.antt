use Rattle.std.proofs.Common.{◌++◌, ap, ◌∙◌}
use Rattle.sha2.specs.Sha256.{sha256}
use Rattle.stripe_header.specs.Spelling.{numbers_of, head_bytes, foot_bytes}
use Rattle.stripe_header.specs.Reading.{covered_of}
use Rattle.stripe_header.proofs.CopyLaws.{length-head, covered_behind}
use Rattle.stripe_header.proofs.copies.write_body.Goals as goal

pub returns : goal.returns
returns c =
    let n = numbers_of c.args.g.now in
    let serial = c.args.state.now.serial in
    let head = head_bytes 2 n c.args.state.now in
    let covered = covered_behind head c.args.body.now (length-head 2 n c.args.state.now) c.requires.room in
    record {
      bytes = c.put_end.ensures.bytes
          ∙ (ap (λ body. covered_of body ++ foot_bytes serial (sha256 (covered_of body))) c.put_front.ensures.bytes
          ∙ ap (λ front. front ++ foot_bytes serial (sha256 front)) covered);
      len = c.put_end.ensures.len ∙ c.put_front.ensures.len;
    }
