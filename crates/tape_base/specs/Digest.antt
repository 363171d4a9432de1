-- What equal digests say of byte strings. SHA-256 is that of FIPS 180-4.
use Rattle.std.specs.Prelude.{ℕ, ◌≡◌, ◌≢◌, ◌⊎◌, List, ◌∷◌}
use Rattle.hex.specs.Hex.{IsBytes}
use Rattle.sha2.specs.Sha256.{sha256}
use Rattle.tape_base.specs.declared.digests.Digest.{Digest}

-- the digest of these bytes
abbrev pub digest_of : List ℕ → Digest
digest_of bytes = record { 0 = sha256 bytes }

-- two different byte strings with one SHA-256: these two, and no others that may exist
pub record Collide (a b : List ℕ) : Type 0 where
  pub bytes : IsBytes a
  pub others : IsBytes b
  pub differ : a ≢ b
  pub same : sha256 a ≡ sha256 b

-- the given bytes are those that were put, or these two collide
abbrev pub IsSame : List ℕ → List ℕ → Type 0
IsSame given put = (given ≡ put) ⊎ Collide given put

-- bytes of one digest are the same, unless they collide
abbrev pub DigestsTell : Type 0
DigestsTell = (given put : List ℕ) → IsBytes given → IsBytes put → digest_of given ≡ digest_of put → IsSame given put

-- each side of a pair is bytes
abbrev pub SidesAreBytes : Type 0
SidesAreBytes = (a b : List ℕ) → Collide a b → IsBytes a × IsBytes b

-- a list with a number above 255 is no side of a pair: as a digest adds up numbers in words, these two
-- have one digest for every rest, and show nothing of SHA-256
abbrev pub NumbersShowNothing : Type 0
NumbersShowNothing = (rest : List ℕ) → Collide (83 ∷ 339 ∷ rest) (84 ∷ 83 ∷ rest) → ⊥
