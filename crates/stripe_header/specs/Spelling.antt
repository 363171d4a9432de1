-- What the bytes of a span and of a copy are. Numbers are written low bytes first; SHA-256 is that of FIPS 180-4.
use Rattle.std.specs.Prelude.{ℕ, ◌≡◌, ◌+◌, ◌-◌, ◌^◌, ◌==◌, ◌&&◌, ◌⊎◌, Bool, false, not, nat_lt, List, ◌++◌, replicate, codes, if◌then◌else◌, IsTrue}
use Rattle.std.specs.Int.{to_le_bytes, w32, w64}
use Rattle.sha2.specs.Sha256.{sha256}
use Rattle.tape_base.specs.declared.geometries.Geometry.{Geometry}
use Rattle.tape_base.specs.Place.{slot_of, reach_of}
use Rattle.stripe_header.specs.declared.states.CopyState.{CopyState}

-- the numbers of a geometry, before any of them is judged
pub record Numbers : Type 0 where
  pub segments : ℕ
  pub buckets : ℕ
  pub agg : ℕ
  pub fragment : ℕ
  pub alternates : ℕ
  pub content : ℕ
  pub reach : ℕ
  pub generation : ℕ

-- those of a geometry
abbrev pub numbers_of : Geometry → Numbers
numbers_of g =
    record {
      segments = g.segments;
      buckets = g.buckets;
      agg = g.agg;
      fragment = g.fragment;
      alternates = g.alternates;
      content = g.content;
      reach = g.reach;
      generation = g.generation;
    }

-- bytes 12 to 27 of a span and of a copy, behind those before them
abbrev pub then_sizes : List ℕ → Numbers → List ℕ
then_sizes front n =
    front ++ to_le_bytes w32 n.segments ++ to_le_bytes w32 n.buckets ++ to_le_bytes w32 n.agg ++ to_le_bytes w32 n.fragment

-- bytes 28 to 55, of which the first four are this number
abbrev pub then_extents : List ℕ → Numbers → ℕ → List ℕ
then_extents front n alternates =
    front ++ to_le_bytes w32 alternates ++ to_le_bytes w64 n.content ++ to_le_bytes w64 n.reach ++ to_le_bytes w64 n.generation

-- the number of alternates as a span of this version spells it: the first version has none
abbrev pub spelled_alternates : ℕ → Numbers → ℕ
spelled_alternates version n = if version == 1 then 0 else n.alternates

-- bytes 0 to 11: what the block is
abbrev pub magic_bytes : List ℕ → ℕ → List ℕ
magic_bytes magic version = magic ++ to_le_bytes w32 version

-- bytes 0 to 71 of a span: the stripe begins at block 1, and has so many blocks
unfoldable pub span_fields : ℕ → Numbers → ℕ → List ℕ
span_fields version n blocks =
    then_extents (then_sizes (magic_bytes (codes "TSCSPAN1") version) n) n (spelled_alternates version n)
    ++ to_le_bytes w64 1 ++ to_le_bytes w64 blocks

-- the block of a span, with the digest of its fields
abbrev pub span_bytes : ℕ → Numbers → ℕ → List ℕ
span_bytes version n blocks = span_fields version n blocks ++ sha256 (span_fields version n blocks) ++ replicate 408 0

-- the mark of a clean copy as a number
abbrev pub clean_mark : Bool → ℕ
clean_mark clean = if clean then 1 else 0

-- bytes 56 to 95 of a copy
abbrev pub then_state : List ℕ → CopyState → List ℕ
then_state front s =
    front ++ to_le_bytes w64 s.serial ++ to_le_bytes w64 s.cursor ++ to_le_bytes w64 s.next_put
    ++ to_le_bytes w64 (clean_mark s.clean) ++ to_le_bytes w64 s.floor

-- the header of a copy's body: a block
unfoldable pub head_bytes : ℕ → Numbers → CopyState → List ℕ
head_bytes version n s =
    then_state (then_extents (then_sizes (magic_bytes (codes "TSCHEAD1") version) n) n 0) s ++ replicate 416 0

-- the footer of a copy's body, a block, with the digest of all before it
unfoldable pub foot_bytes : ℕ → List ℕ → List ℕ
foot_bytes serial digest = codes "TSCFOOT1" ++ to_le_bytes w64 serial ++ digest ++ replicate 464 0

-- the header and the directory behind it
abbrev pub covered_bytes : ℕ → Numbers → CopyState → List ℕ → List ℕ
covered_bytes version n s directory = head_bytes version n s ++ directory

-- the body of a copy
abbrev pub copy_bytes : ℕ → Numbers → CopyState → List ℕ → List ℕ
copy_bytes version n s directory =
    covered_bytes version n s directory ++ foot_bytes s.serial (sha256 (covered_bytes version n s directory))

-- at least so much and at most so much
abbrev pub lies_within : ℕ → ℕ → ℕ → Bool
lies_within least most n = not (nat_lt n least) && not (nat_lt most n)

-- the cursor lies on the tape, and a buffer fits behind it in its lap
abbrev pub has_cursor : Geometry → CopyState → Bool
has_cursor g s = lies_within g.content (2 ^ 62 - 1) s.cursor && not (nat_lt g.content (slot_of g s.cursor + g.agg))

-- serials and puts are counted from 1
abbrev pub has_counts : CopyState → Bool
has_counts s = lies_within 1 (2 ^ 62 - 1) s.serial && lies_within 1 (2 ^ 62 - 1) s.next_put

-- a clean copy tells its floor, which is at least that of an open buffer and at most what the reach leaves
abbrev pub has_floor : Geometry → CopyState → Bool
has_floor g s =
    if s.clean then lies_within (s.cursor + g.agg - g.content) (reach_of g s.cursor - g.content) s.floor
    else s.floor == 0

-- a copy of a stripe of this geometry may say this
abbrev pub may_say : Geometry → CopyState → Bool
may_say g s = has_cursor g s && has_counts s && has_floor g s

-- the body is that of a copy of this version, which says this and has this directory; the first version has
-- no mark
pub record IsCopy (body : List ℕ) (version : ℕ) (g : Geometry) (s : CopyState) (directory : List ℕ) : Type 0 where
  pub says : IsTrue (may_say g s)
  pub of_version : (version ≡ 2) ⊎ ((version ≡ 1) × (s.clean ≡ false))
  pub spelled : body ≡ copy_bytes version (numbers_of g) s directory
