use Rattle.std.proofs.Common.{◌≡◌, List, [], ◌∷◌, refl, subst, arith}
use Rattle.std.specs.Prelude.{ℕ, length, ◌≤◌, ◌+◌, ◌==◌, Bool, filter, not, All, Some, codes}
use Rattle.std.specs.List.{AllByRecursion}
use Rattle.std.proofs.lemmas.List.Filters.{length-filter_both}
use Rattle.std.proofs.lemmas.List.Elements.{All-from_recursion}
use Rattle.std.proofs.lemmas.List.Kept.{AllPairs-cons}
use Rattle.http_header.specs.Token.{is_token_byte}
use Rattle.tape_base.proofs.Bytes.{bytes_by_test}
use Rattle.fragment_table.specs.Table.{AreRows, made_row}
use Rattle.alternate_vector.specs.Alternates.{IsStored, Stored}
use Rattle.alternate_vector.specs.Field.{AreFields}
use Rattle.alternate_vector.specs.Spelling.{IsSpelling, vector_bytes}
use Rattle.cache_model.specs.declared.findings.FoundRow.{FoundRow}
use Rattle.cache_model.specs.Openings.{AreOfTwoKeys, IsEarlierPut, StatesLength}
use Rattle.cache_model.specs.Room.{rows_of_segment, segment_of_piece}
use Rattle.cache_model.specs.State.{Row, live_rows, row_of_found, state_of_opening}
use Rattle.cache_model.proofs.Found.{same_some}
use Rattle.record_rows.specs.Rows.{stored_in, two_languages, two_vectors, vector_at}
use Rattle.record_rows.specs.Worked.{a, b, language, no_bytes, small, some_digest, varies}
use Rattle.record_rows.proofs.two_vectors_may_be_found.Goals as goal

-- ---- lengths: none is a fragment

no_index : (x : FoundRow) (s : Stored) → x.id.index ≡ 0 → StatesLength x s
no_index x s zero put some entry h = absurd (omega (arith, zero, some))

each_states : (x : FoundRow) (list : List Stored) → x.id.index ≡ 0 → AllByRecursion (StatesLength x) list
each_states x [] zero = tt
each_states x (s ∷ list) zero = (no_index x s zero, each_states x list zero)

-- ---- puts

its : (P : List Stored → Type 0) (has list : List Stored) → Some has ≡ Some list → P has → P list
its P has list h p = subst P (same_some has list (Some has) refl h) p

-- ---- alternates

no_fields : AreFields []
no_fields = record { few = omega arith; each = tt; rising = tt }

varying : AreFields varies
unfolding is_token_byte
varying = record { few = omega arith; each = (record { name = refl; lower = refl; value = refl; bytes = bytes_by_test (codes "Accept-Language") refl }, tt); rising = (tt, tt) }

german : AreFields (language (codes "de"))
unfolding is_token_byte
german = record { few = omega arith; each = (record { name = refl; lower = refl; value = refl; bytes = bytes_by_test (codes "de") refl }, tt); rising = (tt, tt) }

french : AreFields (language (codes "fr"))
unfolding is_token_byte
french = record { few = omega arith; each = (record { name = refl; lower = refl; value = refl; bytes = bytes_by_test (codes "fr") refl }, tt); rising = (tt, tt) }

one_row : AreRows (made_row 1 some_digest ∷ [])
one_row = record { few = omega arith; each = (record { some = omega arith; short = omega arith; digest = refl; bytes = bytes_by_test some_digest refl }, tt) }

in_german : IsStored (stored_in 3 (codes "de"))
in_german = record { put = omega arith; pin = omega arith; request = german; response = varying; table = one_row; length = refl }

in_french : IsStored (stored_in 4 (codes "fr"))
in_french = record { put = omega arith; pin = omega arith; request = french; response = varying; table = one_row; length = refl }

of_nothing : IsStored (no_bytes 5)
of_nothing = record { put = omega arith; pin = omega arith; request = no_fields; response = no_fields; table = record { few = omega arith; each = tt }; length = refl }

two_spelled : IsSpelling (vector_bytes two_languages) two_languages
two_spelled = record { some = omega arith; stored = record { few = omega arith; each = (in_german, (in_french, tt)) }; spelled = refl }

one_spelled : IsSpelling (vector_bytes (no_bytes 5 ∷ [])) (no_bytes 5 ∷ [])
one_spelled = record { some = omega arith; stored = record { few = omega arith; each = (of_nothing, tt) }; spelled = refl }

-- ---- the opening

abbrev first_found : FoundRow
first_found = vector_at 64 4 a two_languages

abbrev second_found : FoundRow
second_found = vector_at 65 5 b (no_bytes 5 ∷ [])

two_keys : All (AreOfTwoKeys (row_of_found first_found)) (row_of_found second_found ∷ [])
two_keys = All-from_recursion (AreOfTwoKeys (row_of_found first_found)) (row_of_found second_found ∷ []) ((λ first other. refl), tt)

few : (test : Row → Bool) (rows : List Row) → length (filter test rows) ≤ length rows
few test rows = let both = length-filter_both test (λ row. not (test row)) (λ row. refl) rows in omega (arith, both)

-- a segment has no more than both
of_two : (segment : ℕ) → length (rows_of_segment (state_of_opening small two_vectors) segment) ≤ 2
of_two segment = few (λ row. segment_of_piece (state_of_opening small two_vectors) row.id == segment) (live_rows (state_of_opening small two_vectors))

within : (count used : ℕ) → count ≤ 2 → count ≤ 192 + used
within count used less = omega (arith, less)

pub returns : goal.returns
returns c = λ packed. record {
  copy = record {
    serial = (omega arith, omega arith);
    from = omega arith;
    lap = omega arith;
    below = omega arith;
    number = (omega arith, omega arith);
    floor = record { clean = λ e. cc; other = λ e. refl };
  };
  rising = (omega arith, omega arith, omega arith, (omega arith, omega arith, omega arith, omega arith));
  apart = ((refl, tt), (tt, tt));
  keys = AllPairs-cons AreOfTwoKeys (row_of_found first_found) (row_of_found second_found ∷ []) two_keys
      (λ i j d less within. absurd (omega (arith, less, within)));
  each = (
    record {
      document = record { start = 0; payload = vector_bytes two_languages; of_bytes = bytes_by_test (vector_bytes two_languages) refl; digest = refl; length_is = refl; payload_is = refl };
      size = refl;
      small = omega arith;
      lap = omega arith;
      number = (λ low. (omega arith, omega arith));
      lists = (λ h. cc);
    },
    (
      record {
        document = record { start = 0; payload = vector_bytes (no_bytes 5 ∷ []); of_bytes = bytes_by_test (vector_bytes (no_bytes 5 ∷ [])) refl; digest = refl; length_is = refl; payload_is = refl };
        size = refl;
        small = omega arith;
        lap = omega arith;
        number = (λ low. (omega arith, omega arith));
        lists = (λ h. cc);
      },
      tt,
    ),
  );
  puts = (
    (λ list h. its (AllByRecursion (λ (x : Stored). IsEarlierPut two_vectors x.put)) two_languages list h ((omega arith, omega arith), ((omega arith, omega arith), tt))),
    ((λ list h. its (AllByRecursion (λ (x : Stored). IsEarlierPut two_vectors x.put)) (no_bytes 5 ∷ []) list h ((omega arith, omega arith), tt)), tt),
  );
  lengths = (
    ((λ list h same. each_states first_found list refl), ((λ list h same. each_states second_found list refl), tt)),
    (((λ list h same. each_states first_found list refl), ((λ list h same. each_states second_found list refl), tt)), tt),
  );
  vectors = (
    (λ h. (two_languages, record { start = 0; lists = refl; spelled = two_spelled; digest = refl; blocks = refl; small = omega arith })),
    ((λ h. (no_bytes 5 ∷ [], record { start = 0; lists = refl; spelled = one_spelled; digest = refl; blocks = refl; small = omega arith })), tt),
  );
  fits = λ on segment. within _ _ (of_two segment);
}
