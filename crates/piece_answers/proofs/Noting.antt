-- What is noted of a piece that is looked at behind others.
use Rattle.std.proofs.Common.{◌≡◌, ℕ, zero, suc, ◌+◌, ◌-◌, ◌*◌, ◌<◌, ◌≤◌, List, [], ◌∷◌, ◌++◌, refl, sym, ◌∙◌, ap, subst, arith, Bool, true, false, length, take, drop, get_or, map}
use Rattle.std.specs.Prelude.{Some, Vec, if◌then◌else◌, nat_le, slice_get, slice_index}
use Rattle.std.specs.List.{AllByRecursion}
use Rattle.std.proofs.lemmas.Bool.{leb-true, leb-false}
use Rattle.std.proofs.lemmas.Option.{get_or_from_slice_get, slice_get_read}
use Rattle.std.proofs.lemmas.Slice.{between-put_mid, take-put_mid_below}
use Rattle.std.proofs.lemmas.List.{length-drop, length-take-le, with_items_is}
use Rattle.std.specs.Vec.{with_items}
use borrow.Rule.Slice.PartMut.{mid_of, put_mid, same_len_mid}
use Rattle.logged_disk.specs.Device.{DeviceState as Device}
use Rattle.tape_base.specs.Geometry.{budget_of}
use Rattle.evacuator.specs.declared.choosing.Candidate.{Candidate}
use Rattle.evacuator.specs.Choice.{blocks_of_all}
use Rattle.cache_model.specs.State.{State, Row}
use Rattle.cache_model.specs.Outcomes.{Copied, NoRoom, Outcome, ReadRefused, Spoiled}
use Rattle.cache_model.specs.Due.{candidate_of}
use Rattle.piece_answers.specs.declared.ahead.Ahead.{Ahead}
use Rattle.piece_answers.specs.declared.ahead.Fate.{Fate}
use Rattle.piece_answers.specs.declared.ahead.Fate.TheVariants as fate
use Rattle.piece_answers.specs.Ahead.{StandsAt}
use Rattle.piece_answers.proofs.Effects.{effects_none}
use Rattle.piece_answers.specs.Looks.{Comes, HasCandidateRows, HasRow, IsCopiedFrom, LooksOn, MayBeCopied, blocks_kept}

-- ---- the piece at an index

pub read_at : {X : Type 0} (xs : List X) (i : ℕ) (x : X) → i < length xs → x ≡ get_or xs i x → slice_get xs i ≡ Some x
read_at xs i x within here = slice_get_read xs (length xs) i x refl within here

candidate_by : (s : State) (rows : List Row) (i : ℕ) (d : Candidate) → AllByRecursion (MayBeCopied s) rows → slice_get (map candidate_of rows) i ≡ Some d → HasRow s d
candidate_by s [] i d all at = cc
candidate_by s (row ∷ rows) zero d all at = record { row = row; may = all.0; is = cc }
candidate_by s (row ∷ rows) (suc i) d all at = candidate_by s rows i d all.1 at

pub row_of_candidate : (s : State) (candidates : List Candidate) (i : ℕ) (d : Candidate) → HasCandidateRows s candidates → slice_get candidates i ≡ Some d → HasRow s d
row_of_candidate s candidates i d has at = candidate_by s has.rows i d has.of.each (ap (λ (ds : List Candidate). slice_get ds i) (sym has.of.are) ∙ at)

blocks_at : (candidates : List Candidate) (i : ℕ) (d : Candidate) → slice_get candidates i ≡ Some d → slice_index (blocks_of_all candidates) i ≡ d.blocks
blocks_at [] i d at = cc
blocks_at (c ∷ candidates) zero d at = let same : c ≡ d = cc in ap (λ (x : Candidate). x.blocks) same
blocks_at (c ∷ candidates) (suc i) d at = blocks_at candidates i d at

-- ---- whether it is kept

-- the mark that was read is the test of the choice
mark_is : (marks : List Bool) (i : ℕ) (mark test : Bool) → mark ≡ get_or marks i mark → slice_get marks i ≡ Some test → test ≡ mark
mark_is marks i mark test read at = sym (read ∙ get_or_from_slice_get marks i test mark at)

pub kept_fits : (candidates : List Candidate) (marks : List Bool) (i at budget : ℕ) (d : Candidate) (mark : Bool) → slice_get candidates i ≡ Some d → mark ≡ get_or marks i mark → mark ≡ true
    → slice_get marks i ≡ Some (nat_le (slice_index (blocks_of_all candidates) i + at) budget) → at + d.blocks ≤ budget
kept_fits candidates marks i at budget d mark here read kept choice =
    let fits : slice_index (blocks_of_all candidates) i + at ≤ budget = leb-true (slice_index (blocks_of_all candidates) i + at) budget (mark_is marks i mark _ read choice ∙ kept) in
    omega (arith, fits, blocks_at candidates i d here)

pub left_out : (candidates : List Candidate) (marks : List Bool) (i at budget : ℕ) (d : Candidate) (mark : Bool) → slice_get candidates i ≡ Some d → mark ≡ get_or marks i mark → mark ≡ false
    → slice_get marks i ≡ Some (nat_le (slice_index (blocks_of_all candidates) i + at) budget) → budget < at + d.blocks
left_out candidates marks i at budget d mark here read kept choice =
    let over : budget < slice_index (blocks_of_all candidates) i + at = leb-false (slice_index (blocks_of_all candidates) i + at) budget (mark_is marks i mark _ read choice ∙ kept) in
    omega (arith, over, blocks_at candidates i d here)

-- it takes its blocks, where it is kept
pub kept_taken : (candidates : List Candidate) (marks : List Bool) (i : ℕ) (d : Candidate) (mark : Bool) → slice_get candidates i ≡ Some d → i < length marks → mark ≡ get_or marks i mark → mark ≡ true
    → blocks_kept candidates marks i ≡ d.blocks
kept_taken candidates marks i d mark here within read kept =
    ap (λ b. if b then slice_index (blocks_of_all candidates) i else 0) (get_or_from_slice_get marks i mark false (read_at marks i mark within read) ∙ kept) ∙ blocks_at candidates i d here

pub none_taken : (candidates : List Candidate) (marks : List Bool) (i : ℕ) (mark : Bool) → i < length marks → mark ≡ get_or marks i mark → mark ≡ false
    → blocks_kept candidates marks i ≡ 0
none_taken candidates marks i mark within read kept =
    ap (λ b. if b then slice_index (blocks_of_all candidates) i else 0) (get_or_from_slice_get marks i mark false (read_at marks i mark within read) ∙ kept)

-- ---- what is noted

pub notes_none : (s : State) (device : Device) (row : Row) (at : ℕ) (old new : Ahead) → at ≤ budget_of s.geometry → budget_of s.geometry < at + row.blocks
    → new.fates.items ≡ old.fates.items ++ fate.NoRoom ∷ [] → new.bytes.items ≡ old.bytes.items → LooksOn s device device row at at old new
notes_none s device row at old new few over notes same = record {
  outcome = NoRoom;
  note = fate.NoRoom;
  notes = notes;
  fate = tt;
  stands = tt;
  stay = ap (take (512 * at)) same;
  taken = omega arith;
  count = tt;
  unharmed = λ told. (refl, tt);
  exact = λ told. tt;
  faults = effects_none device.past device.past refl;
  is = λ p t covers beside. omega arith;
}

stands_by : (at : ℕ) (row : Row) (o : Outcome) (memory bytes : List ℕ) → IsCopiedFrom bytes o → take (512 * row.blocks) (drop (512 * at) memory) ≡ bytes → StandsAt at row o memory
stands_by at row NoRoom memory bytes copy here = tt
stands_by at row (Copied read) memory bytes copy here = here ∙ sym copy
stands_by at row (Spoiled found) memory bytes copy here = tt
stands_by at row (ReadRefused count) memory bytes copy here = tt

-- a part of the memory was written
pub record IsWrittenAt (at blocks : ℕ) (old new bytes : List ℕ) : Type 0 where
  pub there : take (512 * blocks) (drop (512 * at) new) ≡ bytes
  pub before : take (512 * at) new ≡ take (512 * at) old

written_at : (at blocks : ℕ) (old bytes : List ℕ) → 512 * (at + blocks) ≤ length old → length bytes ≡ (at + blocks) * 512 - at * 512
    → IsWrittenAt at blocks old (put_mid (at * 512) ((at + blocks) * 512 - at * 512) old bytes) bytes
written_at at blocks old bytes within sized =
    let new : List ℕ = put_mid (at * 512) ((at + blocks) * 512 - at * 512) old bytes in
    let start : at * 512 ≡ 512 * at = omega arith in
    let size : (at + blocks) * 512 - at * 512 ≡ 512 * blocks = omega arith in
    record {
      there = ap (λ n. take n (drop (512 * at) new)) (sym size) ∙ (ap (λ n. take ((at + blocks) * 512 - at * 512) (drop n new)) (sym start)
          ∙ between-put_mid (at * 512) ((at + blocks) * 512 - at * 512) old bytes ((at + blocks) * 512) (omega arith) sized);
      before = ap (λ n. take n new) (sym start) ∙ (take-put_mid_below (at * 512) ((at + blocks) * 512 - at * 512) old bytes (at * 512) (omega arith) (omega arith) ∙ ap (λ n. take n old) start);
    }

-- a vector, of which a part was written through a slice
pub vector_written : {Z : Type 0} (v : Vec ℕ Z) (slice bytes : List ℕ) (at blocks : ℕ) → slice ≡ v.items → 512 * (at + blocks) ≤ length v.items
    → length bytes ≡ length (mid_of (at * 512) ((at + blocks) * 512 - at * 512) slice)
    → IsWrittenAt at blocks v.items (with_items v (put_mid (at * 512) ((at + blocks) * 512 - at * 512) slice bytes)).items bytes
vector_written v slice bytes at blocks same within sized =
    let size : ℕ = (at + blocks) * 512 - at * 512 in
    let sized_here : length bytes ≡ length (mid_of (at * 512) size v.items) = sized ∙ ap (λ xs. length (mid_of (at * 512) size xs)) same in
    let long : length (put_mid (at * 512) size v.items bytes) ≡ v.len = same_len_mid (at * 512) size v.items bytes sized_here ∙ sym v.ok.0 in
    let behind : size ≤ length (drop (at * 512) v.items) = omega (arith, length-drop (at * 512) v.items) in
    subst (λ xs. IsWrittenAt at blocks v.items (with_items v (put_mid (at * 512) size xs bytes)).items bytes) (sym same)
    (subst (λ xs. IsWrittenAt at blocks v.items xs bytes) (sym (with_items_is v (put_mid (at * 512) size v.items bytes) long))
    (written_at at blocks v.items bytes within (sized_here ∙ length-take-le size (drop (at * 512) v.items) behind)))

pub notes_read : (s : State) (before after : Device) (d : Candidate) (row : Row) (at : ℕ) (note : Fate) (old new : Ahead) (bytes : List ℕ) → d ≡ candidate_of row
    → at + d.blocks ≤ budget_of s.geometry → Comes s before after row note bytes → new.fates.items ≡ old.fates.items ++ note ∷ []
    → IsWrittenAt at d.blocks old.bytes.items new.bytes.items bytes → LooksOn s before after row at (at + d.blocks) old new
notes_read s before after d row at note old new bytes is fits comes notes written =
    let blocks : d.blocks ≡ row.blocks = ap (λ (x : Candidate). x.blocks) is in
    record {
      outcome = comes.outcome;
      note = note;
      notes = notes;
      fate = comes.fate;
      stands = stands_by at row comes.outcome new.bytes.items bytes comes.copy (subst (λ n. take (512 * n) (drop (512 * at) new.bytes.items) ≡ bytes) blocks written.there);
      stay = written.before;
      taken = omega (arith, comes.taken);
      count = comes.count;
      unharmed = comes.unharmed;
      exact = comes.exact;
      faults = comes.faults;
      is = λ p t covers beside. comes.is p t (budget_of s.geometry - at) covers beside (omega arith);
    }
