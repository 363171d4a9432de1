-- The account of the script, and what is concluded of it.
use Rattle.std.proofs.Common.{◌≡◌, ℕ, ◌+◌, arith, ◌<◌, List, [], ◌∷◌, refl, sym, subst, lit<, lit≤, inl, Contains, false, true}
use Rattle.std.specs.Prelude.{drop, nat_eq}
use Rattle.std.specs.Fmt.{digits}
use Rattle.std.specs.List.{list_any}
use Rattle.std.proofs.lemmas.Cmp.{nat_eq_equiv}
use Rattle.std.proofs.lemmas.Map.Views.{list_any-from_Contains}
use Rattle.hex.specs.Hex.{encode_with}
use Rattle.tape_base.specs.declared.keys.Key.{Key}
use Rattle.device_log.specs.Streams.{refused_writes, taken_by}
use Rattle.edge_io.specs.Lines.{IsLine}
use Rattle.edge_io.specs.Text.{text_read}
use Rattle.script_grammar.specs.declared.step.Step.{Step}
use Rattle.script_grammar.specs.declared.answer.StepAnswer.{StepAnswer}
use Rattle.script_grammar.specs.declared.answer.StepAnswer.TheVariants as answer
use Rattle.script_grammar.specs.Texts.{cause_line, formatted_line, got_line, hit_line, number_line, piece_line, put_line, shown}
use Rattle.cache_model.specs.declared.cause.Cause.TheVariants as cause
use Rattle.script_run.specs.Run.{Run, fresh}
use Rattle.script_run.specs.Behind.{harms_of}
use Rattle.script_run.specs.Takes.{run_after}
use Rattle.run_promise.specs.Outline.{Outline, all_told, blank_outline}
use Rattle.run_promise.specs.Lines.{AreAnswered, outline_of, texts_of}
use Rattle.run_promise.specs.Story.{Taken, SinkTook, told_by, told_by_records}
use Rattle.run_promise.specs.Top.{EachBack}
use Rattle.headline.specs.Account.{ComeBackFrom}
use Rattle.headline.specs.Endings.{AreTakeable}
use Rattle.worked_runs.specs.Script.{body_of_a, calls_of_format, key_of_a, line_to_format, line_to_get, line_to_open, line_to_put, line_to_read_on, line_to_remove, script_lines, script_turns}
use Rattle.worked_runs.specs.History.{TheScriptIsAnswered, TheScriptIsARun, script_answers}
use Rattle.worked_runs.specs.Told.{TheScriptHasAnAccount, TheScriptIsConcluded, script_device, script_logs, script_reads, script_writes}
use Rattle.worked_runs.proofs.Along.{AreAnsweredBy, AreTakeableBy, begun_by_step, are_answered, are_takeable, outline_by, outline_is, run_by, run_is}
use Rattle.worked_runs.proofs.Script.{are_read, steps_with}

pub no_newline : (bytes : List ℕ) → list_any (nat_eq 10) bytes ≡ false → Contains bytes 10 → ⊥
no_newline bytes none has =
    let some : list_any (nat_eq 10) bytes ≡ true = list_any-from_Contains nat_eq_equiv 10 bytes has in
    cc

pub is_line_to_get : IsLine line_to_get
is_line_to_get = record { short = lit≤ tt; clear = no_newline line_to_get refl }

pub is_line_to_read_on : IsLine line_to_read_on
is_line_to_read_on = record { short = lit≤ tt; clear = no_newline line_to_read_on refl }

pub taken_lines : Taken (text_read script_reads) script_lines []
taken_lines = record {
  all = refl;
  each = (
    record { short = lit≤ tt; clear = no_newline line_to_format refl },
    (
      is_line_to_get,
      (
        record { short = lit≤ tt; clear = no_newline line_to_put refl },
        (
          record { short = lit≤ tt; clear = no_newline line_to_open refl },
          (
            is_line_to_read_on,
            (
              is_line_to_read_on,
              (
                is_line_to_get,
                (
                  record { short = lit≤ tt; clear = no_newline line_to_remove refl },
                  (is_line_to_get, tt),
                ),
              ),
            ),
          ),
        ),
      ),
    ),
  );
  within = lit≤ tt;
}

abbrev what_was_said : List StepAnswer
what_was_said =
    answer.Formatted 1 64 8
    ∷ answer.Miss cause.NeverPut
    ∷ answer.Put 1 1 1
    ∷ answer.Hit 1 1
    ∷ answer.Piece 1 1 body_of_a
    ∷ answer.End 1
    ∷ answer.Got 1 1 body_of_a
    ∷ answer.Removed 1
    ∷ answer.Miss cause.Removed
    ∷ []

each_is_answered : (key : Key) → AreAnsweredBy blank_outline (steps_with key) what_was_said
each_is_answered key = (
  record { session = λ needs. absurd needs; stands = λ needs. absurd needs; fixed = inl refl },
  (
    record { session = λ needs. refl; stands = λ needs other. refl; fixed = tt },
    (
      record { session = λ needs. refl; stands = λ needs other. refl; fixed = tt },
      (
        record { session = λ needs. refl; stands = λ needs other. refl; fixed = tt },
        (
          record { session = λ needs. refl; stands = λ needs other. refl; fixed = tt },
          (
            record { session = λ needs. refl; stands = λ needs other. refl; fixed = tt },
            (
              record { session = λ needs. refl; stands = λ needs other. refl; fixed = tt },
              (
                record { session = λ needs. refl; stands = λ needs other. refl; fixed = tt },
                (record { session = λ needs. refl; stands = λ needs other. refl; fixed = tt }, tt),
              ),
            ),
          ),
        ),
      ),
    ),
  ),
)

pub answered_each : AreAnswered blank_outline script_lines script_answers
answered_each = are_answered blank_outline script_lines (steps_with key_of_a) what_was_said are_read (each_is_answered key_of_a)

-- ---- the device

outline_behind : outline_of blank_outline script_lines script_answers ≡ outline_by blank_outline (steps_with key_of_a) what_was_said
outline_behind = outline_is blank_outline script_lines (steps_with key_of_a) what_was_said are_read

run_behind_script : run_after fresh script_lines script_turns ≡ run_by fresh (steps_with key_of_a) script_turns
run_behind_script = run_is fresh script_lines (steps_with key_of_a) script_turns are_read

answers_come_back : ComeBackFrom script_logs (all_told (outline_of blank_outline script_lines script_answers))
answers_come_back = subst (λ (o : Outline). ComeBackFrom script_logs (all_told o)) (sym outline_behind) (record {
  devices = script_device ∷ [];
  returned = refl;
  told = (record { made = record { later = calls_of_format; is = refl }; all = λ h. cc; counted = lit≤ tt; unharmed = λ h. refl; switched = tt }, tt);
})

records_come_back : ComeBackFrom script_logs (harms_of (run_after fresh script_lines script_turns))
records_come_back = subst (λ (run : Run). ComeBackFrom script_logs (harms_of run)) (sym run_behind_script) (record {
  devices = script_device ∷ [];
  returned = refl;
  told = (record { made = record { later = []; is = refl }; all = λ h. cc; counted = lit≤ tt; unharmed = λ h. refl; switched = tt }, tt);
})

pub back_by_answers : EachBack script_logs.before script_logs.now (told_by (outline_of blank_outline script_lines script_answers))
back_by_answers = subst (λ (o : Outline). EachBack script_logs.before script_logs.now (told_by o)) (sym outline_behind) (record {
  back = record {
    devices = script_device ∷ [];
    returned = refl;
    reached = (record { made = record { later = calls_of_format; is = refl }; all = λ h. cc; counted = lit≤ tt; unharmed = λ h. refl; switched = tt }, tt);
  };
  attached = refl;
})

pub back_by_records : EachBack script_logs.before script_logs.now (told_by_records (run_after fresh script_lines script_turns))
back_by_records = subst (λ (run : Run). EachBack script_logs.before script_logs.now (told_by_records run)) (sym run_behind_script) (record {
  back = record {
    devices = script_device ∷ [];
    returned = refl;
    reached = (record { made = record { later = []; is = refl }; all = λ h. refl; counted = lit≤ tt; unharmed = λ h. refl; switched = tt }, tt);
  };
  attached = refl;
})

-- ---- what was written

pub went_out : SinkTook [] script_writes (texts_of script_answers)
unfolding cause_line formatted_line got_line hit_line number_line piece_line put_line shown encode_with digits taken_by refused_writes
went_out = record { taken = refl; unfailed = refl }

-- any step may, once a session was begun
pub all_takeable : (sessions : ℕ) (steps : List Step) → 0 < sessions → AreTakeableBy sessions steps
all_takeable sessions [] some = tt
all_takeable sessions (asks ∷ steps) some = ((λ needs. some), all_takeable (sessions + begun_by_step asks) steps (omega (arith, some)))

takeable : (key : Key) → AreTakeableBy 0 (steps_with key)
takeable key = ((λ needs. absurd needs), all_takeable 1 (drop 1 (steps_with key)) (lit< tt))

pub lines_are_takeable : AreTakeable 0 script_lines
lines_are_takeable = are_takeable 0 script_lines (steps_with key_of_a) are_read (takeable key_of_a)

-- ---- the account

pub has_account : TheScriptIsARun → TheScriptIsAnswered → TheScriptHasAnAccount
has_account legal said = (
  record {
    reads = script_reads;
    since = refl;
    lines = script_lines;
    held = [];
    taken = taken_lines;
    answers = script_answers;
    each = answered_each;
    told = script_lines;
    left = [];
    are = refl;
    turns = script_turns;
    legal = legal;
    rest = [];
    says = sym said;
    whole = inl refl;
    answered = answers_come_back;
    recorded = records_come_back;
  },
  record { lines_are = refl; answers_are = refl; told_are = refl; turns_are = refl },
  record { sent = went_out; takeable = lines_are_takeable; ends = ((_, refl), refl); back = back_by_answers; alone = λ h. back_by_records },
)

pub is_concluded : TheScriptIsARun → TheScriptIsAnswered → TheScriptIsConcluded
is_concluded legal said = record {
  held = [];
  given = 9;
  story = record {
    reads = script_reads;
    since = refl;
    lines = script_lines;
    answers = script_answers;
    taken = taken_lines;
    counted = refl;
    text = went_out;
    outline = record { each = answered_each; devices = back_by_answers; behind = record { ended = (_, refl); none = refl } };
    records = inl (record { turns = script_turns; legal = legal; says = sym said; devices = back_by_records; known = tt });
  };
}
