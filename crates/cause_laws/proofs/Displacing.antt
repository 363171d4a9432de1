-- The piece of a displacement that a break tells.
use Rattle.std.proofs.Common.{◌≡◌, ◌⊎◌, ℕ, ◌<◌, ◌≤◌, length, List, Bool, true, false, refl, sym, ◌∙◌, ap, subst, inl, inr}
use Rattle.std.specs.Prelude.{Some, cond}
use Rattle.tape_base.specs.declared.keys.Key.{Key}
use Rattle.tape_base.specs.declared.digests.Digest.{Digest}
use Rattle.tape_base.specs.declared.pieces.PieceId.{PieceId}
use Rattle.tape_base.specs.Piece.{same_piece}
use Rattle.tape_base.proofs.NameLaws.{same_piece-true, same_piece-same}
use Rattle.fragment_table.specs.Table.{TableRow}
use Rattle.alternate_vector.specs.Field.{Field}
use Rattle.cache_model.specs.declared.cause.Cause.{Cause}
use Rattle.cache_model.specs.declared.cause.Cause.TheVariants as cause
use Rattle.cache_model.specs.declared.record.Rec.{Rec}
use Rattle.cache_model.specs.declared.record.Rec.TheVariants as rec
use Rattle.cache_model.specs.State.{State, ReaderRow, Row, state_after, table_of_hit}
use Rattle.cache_model.specs.Permit.{Permit}
use Rattle.cache_model.specs.Verdict.{cause_of_loss, next_piece}
use Rattle.cache_model.proofs.Found.{no_truth, none_is}
use Rattle.script_grammar.specs.declared.step.Step.TheVariants as step
use Rattle.script_grammar.specs.declared.answer.StepAnswer.{StepAnswer}
use Rattle.script_grammar.specs.declared.answer.StepAnswer.TheVariants as answer
use Rattle.script_run.specs.Run.{Run, fresh}
use Rattle.script_run.specs.Turn.{Turn}
use Rattle.script_run.specs.Takes.{IsRun, run_after}
use Rattle.script_laws.proofs.Groups.{IsKept}
use Rattle.headline.specs.Account.{Account, HistoryTells, RunLogs}
use Rattle.headline.specs.Displacements.{BrokeDisplaced, GetDisplaced, IsDisplaced, LosesPiece}
use Rattle.headline.specs.Reads.{AreLiveBefore, IsChosenPut}
use Rattle.headline.specs.Verdicts
use Rattle.headline.specs.Verdicts.{BreaksFor, IsGoneFor, IsMissingFor, IsReadOther}
use Rattle.cause_laws.proofs.Getting.{GoneHere, IsGone, IsOfPut, chosen_table, fragment_is, gone_here, is_listed}
use Rattle.account_laws.proofs.Last.{ByRecord, told_last}
use Rattle.account_laws.proofs.Places.{told_line}
use Rattle.account_laws.proofs.Troubles.{did_before}
use Rattle.cause_laws.proofs.Verdicts.{IsWhole, StopsHere, StopsSo, breaks_for, stops_here, whole_here, with_readers}
use Rattle.account_laws.proofs.Whole.{chosen_of}

-- ---- the record of a loss

module _ (id : PieceId) (segment live : ℕ) where
  abbrev IsLostSo : State → Type 0
  IsLostSo s = cause_of_loss s id ≡ Some (cause.Displaced segment live)

  abbrev TellsSo : Rec → Type 0
  TellsSo told = told ≡ rec.Displaced id segment live

  other_piece : (piece : PieceId) → same_piece piece id ≡ false → piece ≡ id → ⊥
  other_piece piece e same = no_truth (sym (subst (λ n. same_piece n id ≡ true) (sym same) (same_piece-same id)) ∙ e)

  by_displaced : (s : State) (piece : PieceId) (m n : ℕ) (b : Bool) → same_piece piece id ≡ b → cond b (Some (cause.Displaced m n)) (cause_of_loss s id) ≡ Some (cause.Displaced segment live)
      → (IsLostSo s × (piece ≡ id → ⊥)) ⊎ TellsSo (rec.Displaced piece m n)
  by_displaced s piece m n true e h =
      let name : piece ≡ id = same_piece-true piece id e in
      let from : m ≡ segment = cc in
      let count : n ≡ live = cc in
      inr (λ i. rec.Displaced (name i) (from i) (count i))
  by_displaced s piece m n false e h = inl (h, other_piece piece e)

  by_damaged : (s : State) (piece : PieceId) (place : ℕ) (kept found : Digest) (b : Bool) → same_piece piece id ≡ b
      → cond b (Some (cause.Damaged place kept found)) (cause_of_loss s id) ≡ Some (cause.Displaced segment live) → IsLostSo s × (piece ≡ id → ⊥)
  by_damaged s piece place kept found true e h = absurd cc
  by_damaged s piece place kept found false e h = (h, other_piece piece e)

  lost_so_by : (p : Permit) (s : State) (r : Rec) → IsKept p r → IsLostSo (state_after s r) → ByRecord IsLostSo TellsSo (LosesPiece id) s r
  lost_so_by p s (rec.Formatted geometry) kept h = absurd kept
  lost_so_by p s (rec.Opened geometry serial cursor floor next_put clean list) kept h = absurd kept
  lost_so_by p s (rec.Displaced piece m n) kept h = by_displaced s piece m n (same_piece piece id) refl h
  lost_so_by p s (rec.Damaged piece place k f) kept h = inl (by_damaged s piece place k f (same_piece piece id) refl h)
  lost_so_by p s _ kept h = inl (h, λ none. none)

  displaced_so : (lines : List (List ℕ)) (turns : List Turn) (s : State) → IsRun fresh lines turns → (run_after fresh lines turns).state ≡ Some s → IsLostSo s → IsDisplaced lines turns id segment live
  displaced_so lines turns s legal state lost = told_last IsLostSo TellsSo (LosesPiece id) (λ g h. none_is h) lost_so_by lines turns s legal state lost

-- ---- which piece it is

module _ (segment live : ℕ) where
  abbrev Why : Cause
  Why = cause.Displaced segment live

  gone_lost : (s : State) (id : PieceId) (why : Cause) → IsGoneFor s id why → why ≡ Why → cause_of_loss s id ≡ Some Why
  gone_lost s id why (Verdicts.IsGoneFor.displaced a b e) same = e ∙ ap (λ (w : Cause). Some w) same
  gone_lost s id why (Verdicts.IsGoneFor.damaged place kept found e) same = absurd cc
  gone_lost s id why (Verdicts.IsGoneFor.passed row lost e) same = absurd cc

  missing_lost : (s : State) (id : PieceId) (why : Cause) → IsMissingFor s id why → why ≡ Why → cause_of_loss s id ≡ Some Why
  missing_lost s id why (Verdicts.IsMissingFor.gone dead gone) same = gone_lost s id _ gone same
  missing_lost s id why (Verdicts.IsMissingFor.untold row lost) same = absurd cc

  next_lost : (s : State) (r : ReaderRow) (why : Cause) → BreaksFor s r why → why ≡ Why → cause_of_loss s (next_piece r) ≡ Some Why
  next_lost s r why (Verdicts.BreaksFor.missing entry cut missing) same = missing_lost s (next_piece r) _ missing same
  next_lost s r why (Verdicts.BreaksFor.aborted w none table found e) same = absurd cc

  next_listed : (s : State) (key : Key) (put : ℕ) (table : List TableRow) (t : State) (r : ReaderRow) (why : Cause) → IsOfPut s key put table r → BreaksFor t r why → why ≡ Why → r.next ≤ length table
  next_listed s key put table t r why of_put (Verdicts.BreaksFor.missing entry cut missing) same = is_listed s key put table t r entry of_put cut
  next_listed s key put table t r why of_put (Verdicts.BreaksFor.aborted w none no_table found e) same = absurd cc

  other_displaces_none : (p : Permit) (s : State) (row : Row) (entry : TableRow) (why : Cause) → IsReadOther p s row entry why → why ≡ Why → ⊥
  other_displaces_none p s row entry why (Verdicts.IsReadOther.damaged found x) same = cc
  other_displaces_none p s row entry why (Verdicts.IsReadOther.mismatched found read unlike) same = cc

  stopped_lost : (p : Permit) (s : State) (r : ReaderRow) → IsWhole s → StopsSo p s r Why → cause_of_loss s (next_piece r) ≡ Some Why
  stopped_lost p s r whole (inl verdict) = next_lost s r Why (breaks_for s whole r Why verdict) refl
  stopped_lost p s r whole (inr d) = absurd (other_displaces_none p s d.piece.row d.entry Why d.piece.other refl)

pub break_was_displaced : (l : RunLogs) (a : Account l) (lines : List (List ℕ)) (name : List ℕ) (segment live : ℕ)
    → HistoryTells a lines (step.Next name) (answer.Broken (cause.Displaced segment live)) → BrokeDisplaced a.turns lines name segment live
break_was_displaced l a lines name segment live at =
    let why : Cause = cause.Displaced segment live in
    let said : StepAnswer = answer.Broken why in
    let f = told_line l a lines (step.Next name) said at in
    let run : Run = run_after fresh lines f.earlier in
    let h : StopsHere run f.turn name why = stops_here run f.turn name why f.takes f.is in
    let lost : cause_of_loss h.s (next_piece h.reader) ≡ Some why =
    stopped_lost segment live f.turn.device h.s h.reader (whole_here lines f.earlier h.s f.legal h.state) h.is in
    record {
      at = record { did = did_before l a lines (step.Next name) said f; s = h.s; state = h.state; number = h.number; held = h.held; reader = h.reader; reading = h.reading };
      told = displaced_so (next_piece h.reader) segment live lines f.earlier h.s f.legal h.state lost;
    }

-- ---- whole reads

record PieceLost (s : State) (key : Key) (put : ℕ) (table : List TableRow) (segment live : ℕ) : Type 0 where
  piece : PieceId
  key_is : piece.first ≡ key
  put_is : piece.put ≡ put
  some : 0 < piece.index
  within : piece.index ≤ length table
  before : AreLiveBefore s key put piece.index
  lost : cause_of_loss s piece ≡ Some (cause.Displaced segment live)

piece_lost : (s : State) (key : Key) (put segment live : ℕ) (table : List TableRow) (p : Permit) → IsWhole s → IsGone s key put table p (cause.Displaced segment live) → PieceLost s key put table segment live
piece_lost s key put segment live table p whole (inl by) = no_truth (sym (fragment_is p by.t by.row by.entry by.before (cause.Displaced segment live) by.trouble))
piece_lost s key put segment live table p whole (inr g) =
    let there : IsWhole g.t = subst IsWhole (sym g.same) (with_readers s whole g.t.readers g.t.next_reader) in
    let broken : BreaksFor g.t g.r (cause.Displaced segment live) = breaks_for g.t there g.r (cause.Displaced segment live) g.verdict in
    record {
      piece = next_piece g.r;
      key_is = g.of_put.key_is;
      put_is = g.of_put.put_is;
      some = g.of_put.first;
      within = next_listed segment live s key put table g.t g.r (cause.Displaced segment live) g.of_put broken refl;
      before = g.of_put.live;
      lost = sym (ap (λ (x : State). cause_of_loss x (next_piece g.r)) g.same) ∙ next_lost segment live g.t g.r (cause.Displaced segment live) broken refl;
    }

pub get_was_displaced : (l : RunLogs) (a : Account l) (lines : List (List ℕ)) (key : Key) (request : List Field) (segment live : ℕ)
    → HistoryTells a lines (step.Get key request) (answer.Broken (cause.Displaced segment live)) → GetDisplaced a.turns lines key request segment live
get_was_displaced l a lines key request segment live at =
    let why : Cause = cause.Displaced segment live in
    let said : StepAnswer = answer.Broken why in
    let f = told_line l a lines (step.Get key request) said at in
    let run : Run = run_after fresh lines f.earlier in
    let h : GoneHere run f.turn key request why = gone_here run f.turn key request why f.takes f.is in
    let table : List TableRow = table_of_hit h.s key request in
    let b : PieceLost h.s key h.put table segment live = piece_lost h.s key h.put segment live table f.turn.device (whole_here lines f.earlier h.s f.legal h.state) h.is in
    let chosen : IsChosenPut run key request b.piece.put = subst (IsChosenPut run key request) (sym b.put_is) (chosen_of run f.turn key request h.put 0 h.s h.state h.hits) in
    record {
      did = did_before l a lines (step.Get key request) said f;
      s = h.s;
      state = h.state;
      piece = b.piece;
      key_is = b.key_is;
      chosen = chosen;
      listed = (b.some, subst (λ (rows : List TableRow). b.piece.index ≤ length rows) (chosen_table run h.s key request b.piece.put h.state chosen) b.within);
      before = subst (λ put. AreLiveBefore h.s key put b.piece.index) (sym b.put_is) b.before;
      told = displaced_so b.piece segment live lines f.earlier h.s f.legal h.state b.lost;
    }
