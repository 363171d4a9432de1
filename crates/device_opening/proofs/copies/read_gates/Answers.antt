use Rattle.std.proofs.Common.{◌≡◌, ◌+◌, ◌/◌, length, rules, ap, arith}
use Rattle.device_log.specs.Image.{span}
use Rattle.device_reads.proofs.Telling.{reads_as}
use Rattle.device_opening.proofs.Copying.{gates_as_read}
use Rattle.device_opening.proofs.copies.read_gates.Goals as goal

pub returns-clause-gates : goal.returns-clause-gates
returns-clause-gates g c =
    let blocks = c.read.new.into in
    let long : length blocks ≡ 1024 = search rules in
    let two : length blocks / 512 ≡ 2 = ap (λ n. n / 512) long in
    let gates = c.gates_in.result in
    reads_as 1 (1 + length blocks / 512) 3 1 1 (g.D.Disk.state c.args.disk.now) (g.D.Disk.state c.read.new.disk)
    (λ image. blocks ≡ span image 1 (length blocks / 512)) (λ image. (gates.a ≡ image 1) × (gates.b ≡ image 2)) (omega (arith, two)) (omega arith)
    (λ image is told. gates_as_read image is blocks gates.a gates.b long told c.gates_in.ensures.a c.gates_in.ensures.b) c.in_ok-read.ensures.reads
