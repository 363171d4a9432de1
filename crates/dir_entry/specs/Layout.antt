-- What the ten bytes of an entry say, as in the Traffic Server guide, "Cache Architecture".
use Rattle.std.specs.Prelude.{ℕ, zero, suc, ◌+◌, ◌*◌, ◌/◌, ◌%◌, ◌^◌, ◌<◌, ◌≤◌, ◌⊎◌, ◌==◌, Bool, cond, List, [], ◌∷◌}
use Rattle.dir_entry.specs.declared.entry.Entry.{Entry}

-- a field of `w` bits from bit `lo` up lies in a word of 128 and fits one of 64
pub record IsFieldPlace (lo w : ℕ) : Type 0 where
  pub some : 0 < w
  pub narrow : w ≤ 64
  pub inside : lo + w ≤ 128

-- two fields share no bit
abbrev pub IsApart : ℕ → ℕ → ℕ → ℕ → Type 0
IsApart lo w other width = (lo + w ≤ other) ⊎ (other + width ≤ lo)

-- the number that the `w` bits of a word from bit `lo` up spell
abbrev pub field : ℕ → ℕ → ℕ → ℕ
field lo w word = word / 2 ^ lo % 2 ^ w

-- the number that bytes spell, the lowest first
abbrev pub number_of_bytes : List ℕ → ℕ
number_of_bytes [] = 0
number_of_bytes (byte ∷ bytes) = byte + 256 * number_of_bytes bytes

-- the lowest `count` bytes of a number, the lowest first
abbrev pub bytes_of_number : ℕ → ℕ → List ℕ
bytes_of_number zero number = []
bytes_of_number (suc count) number = number % 256 ∷ bytes_of_number count (number / 256)

-- a bit as a number
abbrev pub bit_of : Bool → ℕ
bit_of b = cond b 1 0

-- the entry that 80 bits spell: ten fields, the offset in two of them
abbrev pub entry_of_word : ℕ → Entry
entry_of_word word = record {
  offset = field 0 24 word + 2 ^ 24 * field 64 16 word;
  big = field 24 2 word;
  size = field 26 6 word;
  tag = field 32 12 word;
  phase = field 44 1 word == 1;
  head = field 45 1 word == 1;
  pinned = field 46 1 word == 1;
  token = field 47 1 word == 1;
  next = field 48 16 word;
}

-- the 80 bits of an entry
abbrev pub word_of_entry : Entry → ℕ
word_of_entry e = e.offset % 2 ^ 24 + 2 ^ 24 * e.big + 2 ^ 26 * e.size + 2 ^ 32 * e.tag
    + 2 ^ 44 * bit_of e.phase + 2 ^ 45 * bit_of e.head + 2 ^ 46 * bit_of e.pinned
    + 2 ^ 47 * bit_of e.token + 2 ^ 48 * e.next + 2 ^ 64 * (e.offset / 2 ^ 24)

-- the entry of ten bytes, the lowest first
unfoldable pub entry_of_bytes : List ℕ → Entry
entry_of_bytes bytes = entry_of_word (number_of_bytes bytes)

-- the ten bytes of an entry, the lowest first; they spell it where each field is below its width
unfoldable pub bytes_of_entry : Entry → List ℕ
bytes_of_entry e = bytes_of_number 10 (word_of_entry e)

-- each field of an entry is below its width
pub record EntryFits (e : Entry) : Type 0 where
  pub offset : e.offset < 2 ^ 40
  pub big : e.big < 2 ^ 2
  pub size : e.size < 2 ^ 6
  pub tag : e.tag < 2 ^ 12
  pub next : e.next < 2 ^ 16
