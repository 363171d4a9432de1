-- The walk over what is due: the piece at each index, and whether the budget keeps it.
use Rattle.std.proofs.Common.{◌≡◌, ℕ, zero, suc, ◌+◌, ◌<◌, List, [], ◌∷◌, ◌++◌, refl, sym, ◌∙◌, ap, subst, arith, Bool, false, length, take, map}
use Rattle.std.specs.Prelude.{Option, Some, if◌then◌else◌, nat_le, slice_get, slice_index, slice_index_or}
use Rattle.std.specs.List.{AllByRecursion}
use Rattle.std.proofs.lemmas.List.{length-map, take-take}
use Rattle.evacuator.specs.declared.choosing.Candidate.{Candidate}
use Rattle.evacuator.specs.Choice.{IsChoice, blocks_of_all, kept_blocks}
use Rattle.cyclone.specs.Cyclone.{SameTape, Seen}
use Rattle.cache_model.specs.State.{State, Row}
use Rattle.cache_model.specs.Due.{candidate_of}
use Rattle.piece_answers.specs.Looks.{AreOfRows, MayBeCopied, blocks_kept}

-- ---- the piece at an index

-- the row at an index, which is the next one behind those before it
pub record IsNext (s : State) (candidates : List Candidate) (rows : List Row) (i : ℕ) : Type 0 where
  pub row : Row
  pub next : take (i + 1) rows ≡ take i rows ++ row ∷ []
  pub at : slice_get candidates i ≡ Some (candidate_of row)
  pub may : MayBeCopied s row

next_by : (s : State) (rows : List Row) (i : ℕ) → AllByRecursion (MayBeCopied s) rows → i < length rows → IsNext s (map candidate_of rows) rows i
next_by s [] i all h = absurd (omega arith)
next_by s (row ∷ rows) zero all h = record { row = row; next = refl; at = refl; may = all.0 }
next_by s (row ∷ rows) (suc i) all h =
    let r : IsNext s (map candidate_of rows) rows i = next_by s rows i all.1 (omega arith) in
    let on : suc i + 1 ≡ suc (i + 1) = omega arith in
    record { row = r.row; next = ap (λ n. take n (row ∷ rows)) on ∙ ap (λ xs. row ∷ xs) r.next; at = r.at; may = r.may }

pub next_row : (s : State) (candidates : List Candidate) (rows : List Row) (i : ℕ) → AreOfRows s candidates rows → i < length candidates → IsNext s candidates rows i
next_row s candidates rows i of h =
    subst (λ ds. IsNext s ds rows i) (sym of.are) (next_by s rows i of.each (omega (arith, ap (λ (ds : List Candidate). length ds) of.are, length-map rows candidate_of)))

-- ---- whether it is kept

abbrev some : Bool → Option Bool
some b = Some b

get_in_front : (marks : List Bool) (n i : ℕ) → i < n → slice_get (take n marks) i ≡ slice_get marks i
get_in_front [] zero i h = refl
get_in_front [] (suc n) i h = refl
get_in_front (mark ∷ marks) zero i h = absurd (omega arith)
get_in_front (mark ∷ marks) (suc n) zero h = refl
get_in_front (mark ∷ marks) (suc n) (suc i) h = get_in_front marks n i (omega arith)

choice_at : (budget : ℕ) (candidates : List Candidate) (marks : List Bool) (i at : ℕ) → IsChoice budget (blocks_of_all candidates) (take (length candidates) marks) → i < length candidates
    → at ≡ kept_blocks (take i (blocks_of_all candidates)) (take i marks) → slice_get marks i ≡ Some (nat_le (slice_index (blocks_of_all candidates) i + at) budget)
choice_at budget candidates marks i at choice h is =
    let within : i < length (blocks_of_all candidates) = omega (arith, length-map candidates (λ (d : Candidate). d.blocks)) in
    sym (get_in_front marks (length candidates) i h)
    ∙ (choice.each i within
    ∙ ap (λ n. some (nat_le (slice_index (blocks_of_all candidates) i + n) budget)) (ap (kept_blocks (take i (blocks_of_all candidates))) (take-take i (length candidates) marks (omega arith)) ∙ sym is))

-- the same of what is equal
pub choice_there : (budget bound : ℕ) (candidates ds : List Candidate) (marks ms : List Bool) (i at : ℕ) → bound ≡ budget → ds ≡ candidates → ms ≡ marks
    → IsChoice budget (blocks_of_all candidates) (take (length candidates) marks) → i < length candidates → at ≡ kept_blocks (take i (blocks_of_all candidates)) (take i marks)
    → slice_get ms i ≡ Some (nat_le (slice_index (blocks_of_all ds) i + at) bound)
choice_there budget bound candidates ds marks ms i at b d m choice h is =
    ap (λ (xs : List Bool). slice_get xs i) m ∙ (choice_at budget candidates marks i at choice h is
    ∙ (ap (λ n. some (nat_le (slice_index (blocks_of_all candidates) i + at) n)) (sym b) ∙ ap (λ (xs : List Candidate). some (nat_le (slice_index (blocks_of_all xs) i + at) bound)) (sym d)))

kept_more : (blocks : List ℕ) (marks : List Bool) (i : ℕ) → i < length blocks → i < length marks
    → kept_blocks (take (i + 1) blocks) (take (i + 1) marks) ≡ kept_blocks (take i blocks) (take i marks) + (if slice_index_or marks i false then slice_index blocks i else 0)
kept_more [] marks i h k = absurd (omega arith)
kept_more (n ∷ blocks) [] i h k = absurd (omega arith)
kept_more (n ∷ blocks) (mark ∷ marks) zero h k = omega arith
kept_more (n ∷ blocks) (mark ∷ marks) (suc i) h k =
    let on : suc i + 1 ≡ suc (i + 1) = omega arith in
    ap (λ m. kept_blocks (take m (n ∷ blocks)) (take m (mark ∷ marks))) on ∙ omega (arith, kept_more blocks marks i (omega arith) (omega arith))

pub taken_on : (candidates : List Candidate) (marks : List Bool) (i at end : ℕ) → i < length candidates → i < length marks → at ≡ kept_blocks (take i (blocks_of_all candidates)) (take i marks)
    → end ≡ at + blocks_kept candidates marks i → end ≡ kept_blocks (take (i + 1) (blocks_of_all candidates)) (take (i + 1) marks)
taken_on candidates marks i at end h k is goes =
    omega (arith, kept_more (blocks_of_all candidates) marks i (omega (arith, length-map candidates (λ (d : Candidate). d.blocks))) k)

-- ---- one call behind the other

pub tape_on : (a b c : Seen) → SameTape a b → SameTape b c → SameTape a c
tape_on a b c first last = last ∙ ap (λ (y : Seen). record y { device = c.device }) first
