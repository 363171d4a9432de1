-- The script as steps, under any key: each is taken, and answered.
use Rattle.std.proofs.Common.{◌≡◌, ◌+◌, ◌*◌, List, [], ◌∷◌, refl}
use Rattle.std.specs.Prelude.{codes}
use Rattle.std.proofs.lemmas.List.{length-replicate}
use Rattle.tape_base.specs.declared.keys.Key.{Key}
use Rattle.tape_base.proofs.NameLaws.{same_key-same}
use Rattle.tape_base.specs.Geometry.{HasNumbers}
use Rattle.tape_base.specs.Place.{directory_blocks_of}
use Rattle.script_grammar.specs.declared.step.Step.{Step}
use Rattle.script_grammar.specs.declared.step.Step.TheVariants as step
use Rattle.script_run.specs.Run.{fresh}
use Rattle.script_run.specs.Takes.{LaysOut}
use Rattle.worked_runs.specs.Script.{body_of_a, body_of_copy, calls_of_format, key_of_a, name_of_reader, script_geometry, script_lines, turns_with}
use Rattle.worked_runs.specs.History.{script_answers}
use Rattle.worked_runs.proofs.Along.{AreRead, StepsTake, answers_by}
use Rattle.worked_runs.proofs.Missed.{miss_is_a_step}
use Rattle.worked_runs.proofs.PutIn.{put_is_a_step}
use Rattle.worked_runs.proofs.Gotten.{end_is_a_step, get_is_a_step, hit_is_a_step, last_is_a_step, piece_is_a_step, removal_is_a_step}
use Rattle.worked_runs.proofs.Readings.{format_is_read, get_is_read, next_is_read, opening_is_read, put_is_read, removal_is_read}

abbrev pub steps_with : Key → List Step
steps_with key =
    step.Format (codes "mem:a") 1 64 64 8 16 4 7 5
    ∷ step.Get key []
    ∷ step.Put key body_of_a [] []
    ∷ step.OpenRead name_of_reader key []
    ∷ step.Next name_of_reader
    ∷ step.Next name_of_reader
    ∷ step.Get key []
    ∷ step.Remove key
    ∷ step.Get key []
    ∷ []

pub are_read : AreRead script_lines (steps_with key_of_a)
are_read = (
  format_is_read,
  (
    get_is_read,
    (
      put_is_read,
      (
        opening_is_read,
        (
          next_is_read,
          (
            next_is_read,
            (
              get_is_read,
              (
                removal_is_read,
                (get_is_read, tt),
              ),
            ),
          ),
        ),
      ),
    ),
  ),
)

pub has_numbers : HasNumbers script_geometry 1 64 64 8 16 4 7 5
has_numbers = record {
  has_segments = refl;
  has_buckets = refl;
  has_content = refl;
  has_agg = refl;
  has_reach = refl;
  has_fragment = refl;
  has_generation = refl;
  has_alternates = refl;
}

pub lays_out : LaysOut script_geometry calls_of_format
lays_out = (body_of_copy, length-replicate (512 * (directory_blocks_of script_geometry + 2)) 0, refl)

pub are_taken : (key : Key) → StepsTake fresh (steps_with key) (turns_with key)
are_taken key = (
  (script_geometry, has_numbers, (refl, lays_out), refl),
  (
    record { packs = refl; unsynced = refl; moment = refl; past = refl; legal = miss_is_a_step key; own = refl; switch = refl },
    (
      record { packs = refl; unsynced = refl; moment = refl; past = refl; legal = put_is_a_step key; own = refl; switch = refl },
      (
        record { packs = refl; unsynced = refl; moment = refl; past = refl; legal = hit_is_a_step key; own = refl; switch = refl },
        (
          record { packs = refl; unsynced = refl; moment = refl; past = refl; legal = piece_is_a_step key; own = (_, refl, refl); switch = refl },
          (
            record { packs = refl; unsynced = refl; moment = refl; past = refl; legal = end_is_a_step key; own = refl; switch = refl },
            (
              record { packs = refl; unsynced = refl; moment = refl; past = refl; legal = get_is_a_step key; own = refl; switch = refl },
              (
                record { packs = refl; unsynced = refl; moment = refl; past = refl; legal = removal_is_a_step key; own = refl; switch = refl },
                (record { packs = refl; unsynced = refl; moment = refl; past = refl; legal = last_is_a_step key; own = refl; switch = refl }, tt),
              ),
            ),
          ),
        ),
      ),
    ),
  ),
)

pub are_said : (key : Key) → answers_by fresh (steps_with key) (turns_with key) ≡ script_answers
are_said key = simp (same_key-same key)
