use Rattle.std.proofs.Common.{ℕ, ◌+◌, ◌*◌, arith, refl}
use Rattle.sha2.specs.Sha256.{schedule}
use Rattle.sha_words.proofs.NextWords.{four_at, four_later, keyed_below}
use Rattle.sha_words.proofs.schedules.keyed_words.Goals as goal

pub turns-init : goal.turns-init
turns-init c =
    let ws = schedule c.args.block.now 48 in
    let k1 = c.put_keyed.ensures ws c.load_four-w0.ensures (λ i low. absurd (omega arith)) in
    let k2 = c.put_keyed-2.ensures ws c.load_four-w1.ensures k1 in
    let k3 = c.put_keyed-3.ensures ws c.load_four-w2.ensures k2 in
    record {
      words = (c.load_four-w0.ensures, c.load_four-w1.ensures, c.load_four-w2.ensures, c.load_four-w3.ensures);
      keyed = c.put_keyed-4.ensures ws c.load_four-w3.ensures k3;
    }

pub turns-preserved : goal.turns-preserved
turns-preserved c =
    let b = c.args.block.now in
    let ws = schedule b 48 in
    let t : ℕ = 16 * c.turns.turn in
    let i = c.turns.invariant in
    let n0 = c.next_four-w0.ensures b t (omega arith) i.words in
    let s0 = four_later _ _ _ _ _ ws t (t + 4) refl i.words n0 in
    let k0 = c.put_keyed-in-turns.ensures ws n0 i.keyed in
    let n1 = c.next_four-w1.ensures b (t + 4) (omega arith) s0 in
    let s1 = four_later _ _ _ _ _ ws (t + 4) (t + 8) (omega arith) s0 n1 in
    let k1 = c.put_keyed-in-turns-2.ensures ws (four_at _ ws (t + 4 + 16) (t + 20) (omega arith) n1) (keyed_below _ ws _ (t + 20) (omega arith) k0) in
    let n2 = c.next_four-w2.ensures b (t + 8) (omega arith) s1 in
    let s2 = four_later _ _ _ _ _ ws (t + 8) (t + 12) (omega arith) s1 n2 in
    let k2 = c.put_keyed-in-turns-3.ensures ws (four_at _ ws (t + 8 + 16) (t + 24) (omega arith) n2) (keyed_below _ ws _ (t + 24) (omega arith) k1) in
    let n3 = c.next_four-w3.ensures b (t + 12) (omega arith) s2 in
    let k3 = c.put_keyed-in-turns-4.ensures ws (four_at _ ws (t + 12 + 16) (t + 28) (omega arith) n3) (keyed_below _ ws _ (t + 28) (omega arith) k2) in
    record {
      words = four_later _ _ _ _ _ ws (t + 12) _ (omega arith) s2 n3;
      keyed = keyed_below _ ws _ _ (omega arith) k3;
    }

pub returns : goal.returns
returns c = keyed_below _ _ _ 64 (omega arith) c.turns.invariant.keyed
