-- Where the device is faithful, what is due tells no trouble, and has one list of outcomes.
use Rattle.std.proofs.Common.{◌≡◌, ℕ, ◌-◌, ◌≤◌, List, [], ◌∷◌, ◌++◌, refl, sym, ◌∙◌, ap, arith}
use Rattle.std.specs.Prelude.{Some}
use Rattle.std.specs.List.{AllByRecursion}
use Rattle.tape_base.specs.declared.digests.Digest.{Digest}
use Rattle.tape_base.specs.declared.pieces.PieceId.{PieceId}
use Rattle.tape_base.specs.Place.{block_of}
use Rattle.cache_model.specs.declared.record.Rec.{Rec}
use Rattle.cache_model.specs.State.{State, Row, after_all, live_row_of, state_after}
use Rattle.device_log.specs.Calls.{Asked}
use Rattle.cache_model.specs.Permit.{Permit}
use Rattle.cache_model.specs.Given.{IsDamaged, IsGiven, MayCount}
use Rattle.model_laws.specs.Choices.{GivesOnce, IsFaithful}
use Rattle.cache_model.specs.Tape.{IsSound}
use Rattle.cache_model.specs.Due.{due_pieces}
use Rattle.cache_model.specs.Outcomes.{AreOutcomes, Copied, Copy, NoRoom, Outcome, ReadRefused, Spoiled, copies_of, flush_records, front_of, moved_record, moved_records, records_of}
use Rattle.model_laws.specs.Agreeing.{IsUntroubled}
use Rattle.cache_model.proofs.Found.{no_truth}
use Rattle.step_laws.proofs.Alike.{ReadsAlike, given_alike, reads_back, reads_self}
use Rattle.cache_model.proofs.Live.{IsFound, due_are_live}

-- ---- a faithful device

-- it counts no fault, behind whatever records
pub no_count : {p : Permit} {s u : State} {asked : Asked} (count : ℕ) → IsFaithful p s → MayCount p u asked count → ⊥
no_count {p} {asked = asked} count still counts = still.unrefused asked count counts.refused

-- the row is that of a live piece
abbrev pub IsLive : State → Row → Type 0
IsLive s row = (id : PieceId) × (live_row_of s id ≡ Some row)

pub no_damage : {p : Permit} {s u : State} {row : Row} {found : Digest} → IsFaithful p s → IsLive s row → ReadsAlike s u → IsDamaged p u row found → ⊥
no_damage {p} {s} {u} {row = row} still live same d = d.differ (still.kept live.0 row d.bytes live.1 (given_alike p u s row d.bytes (reads_back s u same) d.given) ∙ sym d.digest)

pub same_bytes : (p : Permit) (s : State) (row : Row) (one other : List ℕ) → GivesOnce p → IsGiven p s row one → IsGiven p s row other → one ≡ other
same_bytes p s row one other once g k = once (block_of s.geometry row.place) one other g.given k.given (g.whole ∙ sym k.whole)

-- ---- no trouble

front_untroubled : (p : Permit) (s t : State) (left : ℕ) (rows : List Row) (outcomes : List Outcome) (rest : List Rec) → IsFaithful p s → AllByRecursion (IsFound s) rows → ReadsAlike s t
    → AreOutcomes p t left rows outcomes → IsUntroubled rest → IsUntroubled (front_of rows outcomes ++ rest)
front_untroubled p s t left [] outcomes rest still live same h calm = calm
front_untroubled p s t left (row ∷ rows) [] rest still live same h calm = absurd h
front_untroubled p s t left (row ∷ rows) (Spoiled found ∷ outcomes) rest still live same h calm = absurd (no_damage still (row.id, live.0) same h.0.1)
front_untroubled p s t left (row ∷ rows) (ReadRefused count ∷ outcomes) rest still live same h calm = absurd (no_count count still h.0.2)
front_untroubled p s t left (row ∷ rows) (NoRoom ∷ outcomes) rest still live same h calm =
    (refl, front_untroubled p s (after_all t (records_of row NoRoom)) left rows outcomes rest still live.1 same h.1 calm)
front_untroubled p s t left (row ∷ rows) (Copied bytes ∷ outcomes) rest still live same h calm = front_untroubled p s t (left - row.blocks) rows outcomes rest still live.1 same h.1 calm

copies_untroubled : (u : State) (copies : List Copy) → IsUntroubled (moved_records u copies)
copies_untroubled u [] = tt
copies_untroubled u (c ∷ copies) = (refl, copies_untroubled (state_after u (moved_record u c)) copies)

pub flush_untroubled : (p : Permit) (s : State) (now left : ℕ) (outcomes : List Outcome) → IsSound s → IsFaithful p s → AreOutcomes p s left (due_pieces s now) outcomes
    → IsUntroubled (flush_records s (due_pieces s now) outcomes)
flush_untroubled p s now left outcomes sound still h =
    front_untroubled p s s left (due_pieces s now) outcomes _ still (due_are_live s now sound) (reads_self s) h (refl, copies_untroubled _ (copies_of (due_pieces s now) outcomes))

-- ---- one list

fixed_from : (p : Permit) (u : State) (left : ℕ) (rows : List Row) (one other : List Outcome) (rest more : List Rec) → GivesOnce p
    → IsUntroubled (front_of rows one ++ rest) → IsUntroubled (front_of rows other ++ more) → AreOutcomes p u left rows one → AreOutcomes p u left rows other → one ≡ other
fixed_from p u left [] [] [] rest more once calm calm2 h k = refl
fixed_from p u left [] (a ∷ one) other rest more once calm calm2 h k = absurd h
fixed_from p u left [] [] (b ∷ other) rest more once calm calm2 h k = absurd k
fixed_from p u left (row ∷ rows) [] other rest more once calm calm2 h k = absurd h
fixed_from p u left (row ∷ rows) (a ∷ one) [] rest more once calm calm2 h k = absurd k
fixed_from p u left (row ∷ rows) (Spoiled found ∷ one) (b ∷ other) rest more once calm calm2 h k = no_truth calm.0
fixed_from p u left (row ∷ rows) (ReadRefused count ∷ one) (b ∷ other) rest more once calm calm2 h k = no_truth calm.0
fixed_from p u left (row ∷ rows) (a ∷ one) (Spoiled found ∷ other) rest more once calm calm2 h k = no_truth calm2.0
fixed_from p u left (row ∷ rows) (a ∷ one) (ReadRefused count ∷ other) rest more once calm calm2 h k = no_truth calm2.0
fixed_from p u left (row ∷ rows) (NoRoom ∷ one) (Copied bytes ∷ other) rest more once calm calm2 h k = let fits : row.blocks ≤ left = k.0.0 in absurd (omega (arith, h.0, fits))
fixed_from p u left (row ∷ rows) (Copied bytes ∷ one) (NoRoom ∷ other) rest more once calm calm2 h k = let fits : row.blocks ≤ left = h.0.0 in absurd (omega (arith, k.0, fits))
fixed_from p u left (row ∷ rows) (NoRoom ∷ one) (NoRoom ∷ other) rest more once calm calm2 h k =
    ap (λ outcomes. NoRoom ∷ outcomes) (fixed_from p (after_all u (records_of row NoRoom)) left rows one other rest more once calm.1 calm2.1 h.1 k.1)
fixed_from p u left (row ∷ rows) (Copied bytes ∷ one) (Copied others ∷ other) rest more once calm calm2 h k =
    ap (λ given. Copied given ∷ one) (same_bytes p u row bytes others once h.0.1 k.0.1)
    ∙ ap (λ outcomes. Copied others ∷ outcomes) (fixed_from p u (left - row.blocks) rows one other rest more once calm calm2 h.1 k.1)

pub outcomes_are_fixed : (p : Permit) (s : State) (now left : ℕ) (one other : List Outcome) → IsSound s → IsFaithful p s
    → AreOutcomes p s left (due_pieces s now) one → AreOutcomes p s left (due_pieces s now) other → one ≡ other
outcomes_are_fixed p s now left one other sound still h k =
    let rows : List Row = due_pieces s now in
    let calm : (outcomes : List Outcome) → AreOutcomes p s left rows outcomes → IsUntroubled (front_of rows outcomes ++ []) =
    λ outcomes o. front_untroubled p s s left rows outcomes [] still (due_are_live s now sound) (reads_self s) o tt in
    fixed_from p s left rows one other [] [] still.once (calm one h) (calm other k) h k
