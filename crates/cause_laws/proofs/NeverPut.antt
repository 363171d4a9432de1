-- Where a line is answered never-put, no earlier line of its session completed, gave up or removed a put of the key.
use Rattle.std.proofs.Common.{◌≡◌, ℕ, List, refl, sym, ◌∙◌, subst, inl, inr}
use Rattle.std.specs.Prelude.{None}
use Rattle.tape_base.specs.declared.geometries.Geometry.{Geometry}
use Rattle.tape_base.specs.declared.keys.Key.{Key}
use Rattle.tape_base.specs.declared.pieces.PieceId.{PieceId}
use Rattle.tape_base.specs.Key.{same_key}
use Rattle.cache_model.specs.declared.cause.Cause.TheVariants as cause
use Rattle.cache_model.specs.declared.record.Rec.{Rec}
use Rattle.cache_model.specs.declared.record.Rec.TheVariants as rec
use Rattle.cache_model.specs.State.{State, Complete, TakenOut, last_abort, last_vector, row_of, state_after, vector_piece}
use Rattle.cache_model.specs.Verdict.{cause_of_loss}
use Rattle.cache_model.specs.Permit.{IsAmong, Permit}
use Rattle.cache_model.specs.Legal.{format_records}
use Rattle.cache_model.proofs.Found.{none_is}
use Rattle.script_grammar.specs.declared.step.Step.{Step}
use Rattle.script_grammar.specs.declared.answer.StepAnswer.{StepAnswer}
use Rattle.script_run.specs.Run.{Run, fresh}
use Rattle.script_run.specs.Turn.{Turn}
use Rattle.script_run.specs.Takes.{run_after}
use Rattle.script_laws.specs.Vectors.{AreOnRecord, AreOnRecordWhere, IsOnRecord, VectorsAreOnRecord}
use Rattle.script_laws.proofs.Groups.{IsKept}
use Rattle.headline.specs.Account.{Account, HistoryTells, RunLogs}
use Rattle.headline.specs.Misses.{EndsPut, HasEnded, HasEndedNone, MissesKey}
use Rattle.headline.specs.Standing.{HasRecorded}
use Rattle.account_laws.proofs.Causing.{Stands, below, dropped, lists, never, out, standing_here, untold}
use Rattle.account_laws.proofs.Missing.{MissesHere, misses_here}
use Rattle.account_laws.proofs.Places.{told_line}
use Rattle.account_laws.proofs.Staying.{found_none, other_by, recorded_none}
use Rattle.account_laws.proofs.Troubles.{did_before}

-- ---- the state of such a line

-- neither a vector nor a put that was given up is on record of the key
abbrev HasNeither : State → Key → Type 0
HasNeither s key = (last_vector s key ≡ None) × (last_abort s key ≡ None)

pub on_record : (s : State) (id : PieceId) → row_of s id ≡ None → cause_of_loss s id ≡ None → IsOnRecord s id → ⊥
on_record s id none lost (inl found) = none_is (sym none ∙ found.1)
on_record s id none lost (inr loss) = none_is (sym lost ∙ loss.1)

has_neither : (s : State) (key : Key) → AreOnRecord s → Stands s key cause.NeverPut → HasNeither s key
has_neither s key on (out put last same) = absurd cc
has_neither s key on (lists put row last live same) = absurd cc
has_neither s key on (below put row last dead found same) = absurd cc
has_neither s key on (untold put last none lost same) = absurd (on_record s (vector_piece key put) none lost (on key put last))
has_neither s key on (dropped put last abort same) = absurd cc
has_neither s key on (never last abort same) = (last, abort)

-- ---- a put that has ended stays so

-- one or the other is on record of the key
module _ (key : Key) where
  abbrev IsEnded : State → Type 0
  IsEnded s = HasNeither s key → ⊥

  formats_end_none : (g : Geometry) (told : Rec) → IsAmong told (format_records g) → EndsPut key told → ⊥
  formats_end_none g told among ends = elim among [
    | inl first ↦ subst (EndsPut key) first ends
    | inr later ↦ elim later [ inl second ↦ subst (EndsPut key) second ends | inr none ↦ none ]
  ]

  ended_by : (s : State) (r : Rec) → EndsPut key r → IsEnded (state_after s r)
  ended_by s (rec.Committed put k bytes list) ends h = found_none key k (Complete put) (last_vector s key) ends h.0
  ended_by s (rec.Removed put k) ends h = found_none key k (TakenOut put) (last_vector s key) ends h.0
  ended_by s (rec.Aborted put k) ends h = found_none key k put (last_abort s key) ends h.1
  ended_by s _ ends h = ends

  ended_stays : (p : Permit) (s : State) (r : Rec) → IsKept p r → IsEnded s → IsEnded (state_after s r)
  ended_stays p s (rec.Formatted geometry) kept ended h = kept
  ended_stays p s (rec.Opened geometry serial cursor floor next_put clean list) kept ended h = kept
  ended_stays p s (rec.Committed put k bytes list) kept ended h = ended (other_by (same_key k key) (Complete put) (last_vector s key) h.0, h.1)
  ended_stays p s (rec.Removed put k) kept ended h = ended (other_by (same_key k key) (TakenOut put) (last_vector s key) h.0, h.1)
  ended_stays p s (rec.Aborted put k) kept ended h = ended (h.0, other_by (same_key k key) put (last_abort s key) h.1)
  ended_stays p s _ kept ended h = ended h

  as_recorded : (lines : List (List ℕ)) (turns : List Turn) → HasEnded key lines turns → HasRecorded (EndsPut key) lines turns
  as_recorded lines turns h = record {
    before = h.before;
    bytes = h.bytes;
    later = h.later;
    lines_are = h.lines_are;
    earlier = h.earlier;
    turn = h.turn;
    rest = h.rest;
    turns_are = h.turns_are;
    legal = h.legal;
    told = h.told;
    among = h.among;
    tells = h.ends;
    same_session = h.same_session;
  }

-- ---- a line that is answered so

pub never_put_was_none : (law : VectorsAreOnRecord) (l : RunLogs) (a : Account l) (lines : List (List ℕ)) (asks : Step) (said : StepAnswer) (key : Key)
    → MissesKey key cause.NeverPut asks said → HistoryTells a lines asks said → HasEndedNone a.turns lines key
never_put_was_none law l a lines asks said key misses at =
    let f = told_line l a lines asks said at in
    let run : Run = run_after fresh lines f.earlier in
    let h : MissesHere run key cause.NeverPut = misses_here run f.turn key cause.NeverPut misses f.takes f.is in
    let on : AreOnRecord h.s = subst AreOnRecordWhere h.state (law lines f.earlier f.legal) in
    let neither : HasNeither h.s key = has_neither h.s key on (standing_here lines f.earlier key cause.NeverPut f.legal h refl refl) in
    record {
      did = did_before l a lines asks said f;
      none = λ ended.
          recorded_none (EndsPut key) (IsEnded key) (formats_end_none key) (λ count ends. ends) (ended_by key) (ended_stays key) lines f.earlier h.s f.legal h.state (λ has. has neither)
          (as_recorded key lines f.earlier ended);
    }
