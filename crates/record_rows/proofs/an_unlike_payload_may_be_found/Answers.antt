use Rattle.std.proofs.Common.{◌≡◌, ℕ, List, [], ◌∷◌, refl, sym, ap, subst, arith}
use Rattle.std.specs.Prelude.{Some, All}
use Rattle.std.proofs.lemmas.List.Elements.{All-from_recursion}
use Rattle.std.proofs.lemmas.List.Kept.{AllPairs-cons}
use Rattle.std.specs.List.{AllByRecursion}
use Rattle.tape_base.proofs.Bytes.{bytes_by_test}
use Rattle.fragment_table.specs.Table.{TableRow, made_row}
use Rattle.alternate_vector.specs.Alternates.{Stored}
use Rattle.alternate_vector.specs.Spelling.{vector_bytes}
use Rattle.cache_model.specs.Openings.{AreOfTwoKeys, IsEarlierPut, StatesLength}
use Rattle.cache_model.specs.State.{row_of_found}
use Rattle.cache_model.proofs.Found.{none_is, same_some}
use Rattle.record_rows.specs.Unlike.{both_found, found_vector_row, four_bytes, fragment_of, listed_digest}
use Rattle.record_rows.proofs.an_unlike_payload_may_be_found.Goals as goal

-- what the vector lists
its : (P : List Stored → Type 0) (list : List Stored) → Some (four_bytes ∷ []) ≡ Some list → P (four_bytes ∷ []) → P list
its P list h p = subst P (same_some (four_bytes ∷ []) list (Some (four_bytes ∷ [])) refl h) p

states : (there : List ℕ) → StatesLength (fragment_of there) four_bytes
states there put some entry h = ap (λ (e : TableRow). e.length) (same_some (made_row 4 listed_digest.0) entry _ refl h)

no_index : StatesLength found_vector_row four_bytes
no_index put some entry h = absurd (omega (arith, some))

apart : (there : List ℕ) → All (AreOfTwoKeys (row_of_found (fragment_of there))) (row_of_found found_vector_row ∷ [])
apart there = All-from_recursion (AreOfTwoKeys (row_of_found (fragment_of there))) (row_of_found found_vector_row ∷ []) ((λ first other. cc), tt)

pub returns : goal.returns
returns c = λ there others. (
  record {
    copy = record {
      serial = (omega arith, omega arith);
      from = omega arith;
      lap = omega arith;
      below = omega arith;
      number = (omega arith, omega arith);
      floor = record { clean = λ e. cc; other = λ e. refl };
    };
    rising = (omega arith, omega arith, omega arith, (omega arith, omega arith, omega arith, omega arith));
    apart = ((refl, tt), (tt, tt));
    keys = AllPairs-cons AreOfTwoKeys (row_of_found (fragment_of there)) (row_of_found found_vector_row ∷ []) (apart there)
        (λ i j d less within. absurd (omega (arith, less, within)));
    each = (
      record {
        document = record { start = 0; payload = there; of_bytes = others.of_bytes; digest = refl; length_is = sym others.four; payload_is = refl };
        size = refl;
        small = omega arith;
        lap = omega arith;
        number = (λ low. (omega arith, omega arith));
        lists = (λ h. refl);
      },
      (
        record {
          document = record { start = 0; payload = vector_bytes (four_bytes ∷ []); of_bytes = bytes_by_test (vector_bytes (four_bytes ∷ [])) refl; digest = refl; length_is = refl; payload_is = refl };
          size = refl;
          small = omega arith;
          lap = omega arith;
          number = (λ low. (omega arith, omega arith));
          lists = (λ h. cc);
        },
        tt,
      ),
    );
    puts = ((λ list h. none_is h), ((λ list h. its (AllByRecursion (λ (x : Stored). IsEarlierPut (both_found there) x.put)) list h ((omega arith, omega arith), tt)), tt));
    lengths = (
      ((λ list h same. none_is h), ((λ list h same. none_is h), tt)),
      (
        (
          (λ list h same. its (AllByRecursion (StatesLength (fragment_of there))) list h (states there, tt)),
          ((λ list h same. its (AllByRecursion (StatesLength found_vector_row)) list h (no_index, tt)), tt),
        ),
        tt,
      ),
    );
    vectors = (
      (λ h. cc),
      (
        (λ h. (
          four_bytes ∷ [],
          record {
            start = 0;
            lists = refl;
            spelled = record {
              some = omega arith;
              stored = record {
                few = omega arith;
                each = (
                  record {
                    put = omega arith;
                    pin = omega arith;
                    request = record { few = omega arith; each = tt; rising = tt };
                    response = record { few = omega arith; each = tt; rising = tt };
                    table = record { few = omega arith; each = (record { some = omega arith; short = omega arith; digest = refl; bytes = bytes_by_test listed_digest.0 refl }, tt) };
                    length = refl;
                  },
                  tt,
                );
              };
              spelled = refl;
            };
            digest = refl;
            blocks = refl;
            small = omega arith;
          },
        )),
        tt,
      ),
    );
    fits = λ packed segment. cc;
  },
  refl,
)
