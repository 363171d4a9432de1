-- What bytes are a span of a version that is read, and laws of which bytes are a copy.
use Rattle.std.specs.Prelude.{ℕ, ◌≡◌, ◌≢◌, ◌≤◌, ◌<◌, ◌+◌, ◌-◌, ◌^◌, ◌⊎◌, List, length, None, Some, IsTrue}
use Rattle.std.specs.List.{slice_index}
use Rattle.tape_base.specs.declared.geometries.Geometry.{Geometry}
use Rattle.stripe_header.specs.declared.states.CopyState.{CopyState}
use Rattle.stripe_header.specs.declared.states.CopyFault.TheVariants as copy_faults
use Rattle.stripe_header.specs.Spelling.{Numbers, span_bytes, IsCopy}
use Rattle.stripe_header.specs.Reading.{are_accepted, block_bytes, version_in, copy_told, copy_fault}

-- the numbers have fields that can spell them
pub record FitsFields (n : Numbers) (blocks : ℕ) : Type 0 where
  pub segments : n.segments < 2 ^ 32
  pub buckets : n.buckets < 2 ^ 32
  pub agg : n.agg < 2 ^ 32
  pub fragment : n.fragment < 2 ^ 32
  pub alternates : n.alternates < 2 ^ 32
  pub content : n.content < 2 ^ 64
  pub reach : n.reach < 2 ^ 64
  pub generation : n.generation < 2 ^ 64
  pub count : blocks < 2 ^ 64

-- the bytes are a span of this version, of a stripe with these numbers and so many blocks; the first version
-- means five alternates
pub record IsSpan (bytes : List ℕ) (version : ℕ) (n : Numbers) (blocks : ℕ) : Type 0 where
  pub accepted : IsTrue (are_accepted n)
  pub room : n.content + 6 ≤ blocks
  pub of_version : (version ≡ 2) ⊎ ((version ≡ 1) × (n.alternates ≡ 5))
  pub spelled : bytes ≡ span_bytes version n blocks

-- a copy behind an open gate is accepted, and tells what it says
abbrev pub CopiesAreAccepted : Type 0
CopiesAreAccepted =
    (g : Geometry) (gate body : List ℕ) (version : ℕ) (s : CopyState) (directory : List ℕ)
    → slice_index gate 0 ≡ 1 → IsCopy body version g s directory
    → (copy_fault g gate body ≡ None) × (copy_told body ≡ s)

-- what is accepted is a copy behind an open gate
abbrev pub AcceptedAreCopies : Type 0
AcceptedAreCopies = (g : Geometry) (gate body : List ℕ)
    → 1024 ≤ length body → copy_fault g gate body ≡ None
    → (slice_index gate 0 ≡ 1)
    × IsCopy body (version_in body) g (copy_told body) (block_bytes 512 (length body - 1024) body)

-- behind a gate that is not open nothing is
abbrev pub ShutIsRefused : Type 0
ShutIsRefused = (g : Geometry) (gate body : List ℕ)
    → slice_index gate 0 ≢ 1 → copy_fault g gate body ≡ Some copy_faults.GateShut
