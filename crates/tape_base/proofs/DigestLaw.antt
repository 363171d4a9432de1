-- Two byte strings of one SHA-256 are one, or they collide.
use Rattle.std.proofs.Common.{ℕ, ◌≡◌, Bool, true, false, List, ap, refl, inl, inr, nat_eq, arith}
use lib.Pointwise.{pointwise}
use Rattle.std.specs.Cmp.Lexicographic.{same_text, other_text}
use Rattle.sha2.specs.Sha256.{sha256}
use Rattle.tape_base.specs.declared.digests.Digest.{Digest}
use Rattle.hex.specs.Hex.{IsBytes}
use Rattle.tape_base.specs.Digest.{DigestsTell, IsSame, NumbersShowNothing}

told : (given put : List ℕ) (b : Bool) → IsBytes given → IsBytes put → b ≡ pointwise nat_eq given put → sha256 given ≡ sha256 put → IsSame given put
told given put true bytes others test same = inl (same_text given put test)
told given put false bytes others test same = inr (record { bytes = bytes; others = others; differ = other_text given put test; same = same })

pub digests_tell_lem : DigestsTell
digests_tell_lem given put bytes others h = told given put (pointwise nat_eq given put) bytes others refl (ap (λ (d : Digest). d.0) h)

pub numbers_show_nothing_lem : NumbersShowNothing
numbers_show_nothing_lem rest c = let small = c.bytes 1 in absurd (omega (arith, small))
