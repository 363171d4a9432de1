-- What contracts see of a key: its bytes, and where it belongs in a directory.
use Rattle.std.specs.Prelude.{ℕ, ◌/◌, ◌%◌, ◌*◌, ◌^◌, ◌==◌, Bool, List, take}
use Rattle.std.specs.Int.{to_le_bytes, from_le_bytes, w128}
use Rattle.sha2.specs.Sha256.{sha256}
use Rattle.tape_base.specs.declared.keys.Key.{Key}
use Rattle.tape_base.specs.declared.geometries.Geometry.{Geometry}

-- the key of these 16 bytes
unfoldable pub key_of_bytes : List ℕ → Key
key_of_bytes bytes = record { number = from_le_bytes w128 bytes }

-- the 16 bytes of a key
unfoldable pub key_bytes : Key → List ℕ
key_bytes key = to_le_bytes w128 key.number

-- the little-endian words of 32 bits that the bytes of a key are, from 0 to 3
abbrev pub word_of : Key → ℕ → ℕ
word_of key n = key.number / 2 ^ (32 * n) % 2 ^ 32

-- the segment in which a directory has a key, by its first word (Traffic Server guide, "Cache Architecture")
abbrev pub segment_of : Geometry → Key → ℕ
segment_of g key = word_of key 0 % g.segments

-- the bucket of that segment, by the key's second word
abbrev pub bucket_of : Geometry → Key → ℕ
bucket_of g key = word_of key 1 % g.buckets

-- the low 12 bits of the third word: all that a row keeps of its key beside the segment and the bucket
abbrev pub tag_of : Key → ℕ
tag_of key = word_of key 2 % 2 ^ 12

-- the key of a URL: the first 16 bytes of its SHA-256 (FIPS 180-4)
abbrev pub key_of_url : List ℕ → Key
key_of_url url = key_of_bytes (take 16 (sha256 url))

-- the same key
abbrev pub same_key : Key → Key → Bool
same_key a b = a.number == b.number
