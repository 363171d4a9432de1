-- What a line tells as displaced was recorded in it, or in an earlier line of its session.
use Rattle.std.proofs.Common.{◌≡◌, ℕ, List, [], ◌∷◌, ◌++◌, Bool, true, false, refl, sym, ◌∙◌, ap, subst, append_assoc, append-nil, inl, inr}
use Rattle.std.specs.Prelude.{Option, Some, None, if◌then◌else◌, option_map, unwrap_or, ◌==◌}
use Rattle.tape_base.specs.declared.keys.Key.{Key}
use Rattle.tape_base.specs.declared.pieces.PieceId.{PieceId}
use Rattle.cache_model.specs.declared.cause.Cause.{Cause}
use Rattle.cache_model.specs.declared.cause.Cause.TheVariants as cause
use Rattle.cache_model.specs.declared.record.Rec.{Rec}
use Rattle.cache_model.specs.declared.record.Rec.TheVariants as rec
use Rattle.cache_model.specs.State.{State, Row, LastVector, Complete, TakenOut, last_abort, last_vector, live_row_of, row_of, vector_piece}
use Rattle.cache_model.specs.Verdict.{cause_of_beginning, cause_of_last, cause_of_loss, cause_of_miss, cause_of_piece, cause_without_vector, no_match, no_record, passed}
use Rattle.cache_model.specs.Permit.{IsAmong}
use Rattle.cache_model.proofs.Found.{no_truth, none_is}
use Rattle.script_grammar.specs.declared.step.Step.{Step}
use Rattle.script_grammar.specs.declared.answer.StepAnswer.{StepAnswer}
use Rattle.script_run.specs.Run.{Run, fresh}
use Rattle.script_run.specs.Turn.{Turn}
use Rattle.script_run.specs.Takes.{run_after}
use Rattle.script_laws.specs.Causes
use Rattle.script_laws.specs.Causes.{AnswersAreTraced, IsTraced, cause_answered, cause_given}
use Rattle.headline.specs.Account.{Account, HistoryTells, RunLogs}
use Rattle.headline.specs.Misses.{MissesKey, VectorWasDisplaced, WasRecorded}
use Rattle.account_laws.proofs.Lost.{IsLost, LossAlong, displaced_by, loss_found, loss_is_told}
use Rattle.account_laws.proofs.Missing.{MissesHere, misses_here}
use Rattle.account_laws.proofs.Places.{Found, OnSession, kind_of, told_line}
use Rattle.account_laws.proofs.Troubles.{answer_is, did_before}

displacement : (segment live : ℕ) (r : Rec) → cause_given r ≡ Some (cause.Displaced segment live) → (piece : PieceId) × (r ≡ rec.Displaced piece segment live)
displacement segment live (rec.Displaced piece a b) h = (piece, cc)
displacement segment live (rec.Damaged piece place kept found) h = absurd cc
displacement segment live (rec.Fault count) h = absurd cc
displacement segment live _ h = none_is h

-- ---- the record

module _ (l : RunLogs) (a : Account l) (lines : List (List ℕ)) (asks : Step) (said : StepAnswer) (segment live : ℕ) (f : Found fresh a.turns lines asks said (run_after fresh a.told a.turns)) where
  abbrev Before : Run
  Before = run_after fresh lines f.earlier

  abbrev Result : PieceId → Type 0
  Result piece = WasRecorded a.turns lines (rec.Displaced piece segment live)

  pub by_line : (piece : PieceId) → IsAmong (rec.Displaced piece segment live) f.turn.added → Result piece
  by_line piece among =
      record { earlier = lines; since = []; are = sym (append-nil lines); same_session = tt; did = did_before l a lines asks said f; recorded = among }

  by_earlier : (piece : PieceId) → LossAlong (piece, cause.Displaced segment live) fresh lines f.earlier → Result piece
  by_earlier piece t = record {
    earlier = t.before;
    since = t.bytes ∷ t.later;
    are = t.lines_are;
    same_session = t.same_session;
    did = record {
      earlier = t.earlier;
      turn = t.turn;
      later = t.rest ++ f.turn ∷ f.later;
      turns_are = f.turns_are ∙ (ap (λ (xs : List Turn). xs ++ f.turn ∷ f.later) t.turns_are ∙ append_assoc t.earlier (t.turn ∷ t.rest) (f.turn ∷ f.later));
      legal = t.legal;
    };
    recorded = subst (λ (r : Rec). IsAmong r t.turn.added) (displaced_by t.made.told piece segment live t.made.tells) t.made.among;
  }

  pub by_lost : (s : State) (piece : PieceId) → Before.state ≡ Some s → IsLost (piece, cause.Displaced segment live) s → Result piece
  by_lost s piece e h = by_earlier piece (loss_is_told (piece, cause.Displaced segment live) lines f.earlier s f.legal e h)

  by_trace : (on : OnSession Before f.turn Before.state asks) → IsTraced on.s f.turn.added (cause.Displaced segment live) → (piece : PieceId) × Result piece
  by_trace on (Causes.IsTraced.stands e) = no_truth (sym e)
  by_trace on (Causes.IsTraced.lost piece h) = (piece, by_lost on.s piece on.state h)
  by_trace on (Causes.IsTraced.recorded g) =
      let r = displacement segment live g.r g.gives in
      (r.0, by_line r.0 (subst (λ (x : Rec). IsAmong x f.turn.added) r.1 g.among))

pub displaced_was_told : (traced : AnswersAreTraced) (l : RunLogs) (a : Account l) (lines : List (List ℕ)) (asks : Step) (said : StepAnswer) (segment live : ℕ)
    → HistoryTells a lines asks said → cause_answered said ≡ Some (cause.Displaced segment live) → (piece : PieceId) × WasRecorded a.turns lines (rec.Displaced piece segment live)
displaced_was_told traced l a lines asks said segment live at names =
    let f = told_line l a lines asks said at in
    let run : Run = run_after fresh lines f.earlier in
    elim (kind_of run f.turn asks f.takes) [
      | inl on ↦ by_trace l a lines asks said segment live f on
          (traced run on.s f.turn asks (cause.Displaced segment live) on.takes (ap cause_answered (sym (answer_is l a lines asks said f on)) ∙ names))
      | inr other ↦ elim other [
        | inl on ↦ none_is (ap cause_answered (sym (f.is ∙ on.said)) ∙ names)
        | inr u ↦ none_is (sym u.no_cause ∙ (ap cause_answered (sym f.is) ∙ names))
      ]
    ]

-- ---- of a miss

-- the vector of the last commit is lost so
record LostLast (s : State) (key : Key) (why : Cause) : Type 0 where
  put : ℕ
  last : last_vector s key ≡ Some (Complete put)
  lost : IsAmong (vector_piece key put, why) s.lost

module _ (s : State) (key : Key) (segment live : ℕ) where
  abbrev Why : Cause
  Why = cause.Displaced segment live

  none_told : (b : Bool) (opened : Option ℕ) (dropped : ℕ) → (if b then cause_of_beginning opened else cause.Unrecorded dropped) ≡ Why → ⊥
  none_told true None dropped h = cc
  none_told true (Some serial) dropped h = cc
  none_told false opened dropped h = cc

  by_row : (o : Option Row) → unwrap_or (option_map (passed s) o) (no_record s) ≡ Why → ⊥
  by_row None h = none_told (s.dropped == 0) s.opened s.dropped h
  by_row (Some row) h = cc

  pub by_loss : (id : PieceId) (o : Option Cause) → cause_of_loss s id ≡ o → unwrap_or o (unwrap_or (option_map (passed s) (row_of s id)) (no_record s)) ≡ Why
      → IsAmong (id, Why) s.lost
  by_loss id None e h = absurd (by_row (row_of s id) h)
  by_loss id (Some why) e h = loss_found id s.lost Why (e ∙ ap Some h)

  by_live : (id : PieceId) (o : Option Row) → unwrap_or (option_map (λ (row : Row). no_match s id) o) (cause_of_piece s id) ≡ Why → IsAmong (id, Why) s.lost
  by_live id None h = by_loss id (cause_of_loss s id) refl h
  by_live id (Some row) h = absurd cc

  by_abort : (o : Option ℕ) → unwrap_or (option_map cause.Aborted o) (no_record s) ≡ Why → ⊥
  by_abort None h = none_told (s.dropped == 0) s.opened s.dropped h
  by_abort (Some put) h = cc

  by_last : (o : Option LastVector) → last_vector s key ≡ o → unwrap_or (option_map (cause_of_last s key) o) (cause_without_vector s key) ≡ Why → LostLast s key Why
  by_last None e h = absurd (by_abort (last_abort s key) h)
  by_last (Some (TakenOut put)) e h = absurd cc
  by_last (Some (Complete put)) e h = record { put = put; last = e; lost = by_live (vector_piece key put) (live_row_of s (vector_piece key put)) h }

  lost_last : cause_of_miss s key ≡ Why → LostLast s key Why
  lost_last h = by_last (last_vector s key) refl h

pub vector_was_lost : (l : RunLogs) (a : Account l) (lines : List (List ℕ)) (asks : Step) (said : StepAnswer) (key : Key) (segment live : ℕ)
    → MissesKey key (cause.Displaced segment live) asks said → HistoryTells a lines asks said → VectorWasDisplaced a.turns lines key segment live
vector_was_lost l a lines asks said key segment live misses at =
    let f = told_line l a lines asks said at in
    let run : Run = run_after fresh lines f.earlier in
    let h : MissesHere run key (cause.Displaced segment live) = misses_here run f.turn key (cause.Displaced segment live) misses f.takes f.is in
    elim h.is [
      | inr device ↦ no_truth (sym device)
      | inl is ↦
          let lost : LostLast h.s key (cause.Displaced segment live) = lost_last h.s key segment live is in
          record {
            did = did_before l a lines asks said f;
            s = h.s;
            state = h.state;
            put = lost.put;
            last = lost.last;
            told = by_lost l a lines asks said segment live f h.s (vector_piece key lost.put) h.state lost.lost;
          }
    ]
