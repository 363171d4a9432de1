-- A put of one byte is a step: its fragment and its vector take the first two blocks of the buffer.
use Rattle.std.proofs.Common.{◌≡◌, ◌≤◌, [], ◌∷◌, length, refl, arith, lit<, lit≤, false, Some}
use Rattle.std.specs.Prelude.{◌==◌, take}
use Rattle.tape_base.specs.declared.keys.Key.{Key}
use Rattle.tape_base.proofs.NameLaws.{same_key-same}
use Rattle.alternate_vector.specs.Field.{AreFields}
use Rattle.cache_model.specs.Legal
use Rattle.cache_model.specs.Legal.{more, nothing, AreLiveTo}
use Rattle.cache_model.specs.Permit.{Done}
use Rattle.cache_model.specs.Room.{is_full_for, rows_of_segment, segment_of_piece}
use Rattle.cache_model.specs.State.{State, Row, after_all, live_row_of, fragment_piece, vector_piece}
use Rattle.worked_runs.proofs.Keys.{not_full, one_at_most, one_byte, only_one}
use Rattle.worked_runs.specs.Script.{put_records}
use Rattle.worked_runs.specs.Steps.{APutIsAStep, fragment_row, state_of_miss}

pub no_fields : AreFields []
no_fields = record { few = lit≤ tt; each = tt; rising = tt }

abbrev behind_fragment : Key → State
behind_fragment key = after_all (state_of_miss key) (take 3 (put_records key))

has_slot : (key : Key) → is_full_for (behind_fragment key) (vector_piece key 1) ≡ false
has_slot key =
    let segment = segment_of_piece (behind_fragment key) (vector_piece key 1) in
    let few : length (rows_of_segment (behind_fragment key) segment) ≤ 1 =
    one_at_most (λ (row : Row). segment_of_piece (behind_fragment key) row.id == segment) (fragment_row key) in
    not_full (behind_fragment key) _ (rows_of_segment (behind_fragment key) segment) (omega (arith, few))

fragment_is_live : (key : Key) → live_row_of (behind_fragment key) (fragment_piece key 1 1) ≡ Some (fragment_row key)
fragment_is_live key = rw (same_key-same key) refl

pub put_is_a_step : APutIsAStep
put_is_a_step key = record {
  grows = more (_ ∷ []) _ (
    Done,
    Legal.DoesWrite.opens (record {
      who = record { 0 = 0 };
      number = refl;
      quiet = refl;
      few = lit< tt;
      below = lit< tt;
      request_fits = no_fields;
      response_fits = no_fields;
      pin_fits = lit< tt;
      is = refl;
    }),
    refl,
  )
      (more [] _ (Done, Legal.DoesWeigh.weighs _ (record { quiet = refl; found = refl; is_open = refl }) tt (lit≤ tt) refl, refl)
      (more (_ ∷ _ ∷ []) _ (
        Done,
        Legal.DoesFragment.places refl (record {
          w = _;
          displaced = [];
          cut = record {
            writing = record { quiet = refl; found = refl; is_open = refl };
            next = refl;
            few = lit< tt;
            full = refl;
            some = lit< tt;
            small = lit≤ tt;
            of_bytes = one_byte;
          };
          unmarked = refl;
          place = record { small = lit≤ tt; room = refl; below = lit< tt };
          displaces = record { purged = []; full = λ h. cc; free = λ h. refl; is = refl };
          is = refl;
        }),
        refl,
      )
      (more (_ ∷ []) _ (
        Done,
        Legal.DoesFinish.places refl (record {
          w = _;
          displaced = [];
          cut = record { writing = record { quiet = refl; found = refl; is_open = refl }; count = refl; alone = lit≤ tt };
          unmarked = refl;
          whole = λ index some most. rw (only_one index some most) (fragment_row key, fragment_is_live key);
          place = record { small = lit≤ tt; room = refl; below = lit< tt };
          displaces = record { purged = []; full = λ h. cc (has_slot key); free = λ h. refl; is = refl };
          is = refl;
        }),
        refl,
      )
      (more (_ ∷ []) _ (Done, Legal.DoesCommit.commits _ refl refl refl (rw (same_key-same key, same_key-same key) refl), refl)
      (more [] _ (Done, Legal.DoesGiveUp.over refl refl refl, refl) nothing)))));
  quiet = refl;
  faults = refl;
  effects = λ off. refl;
}
