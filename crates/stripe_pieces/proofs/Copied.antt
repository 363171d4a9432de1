-- Pieces that are copied into the buffer, one behind the other.
use Rattle.std.proofs.Common.{◌≡◌, ℕ, ◌+◌, ◌-◌, ◌*◌, ◌<◌, ◌≤◌, List, [], ◌∷◌, refl, sym, ◌∙◌, ap, subst, arith, Bool, drop, length, suc, take}
use Rattle.std.proofs.Math.ListN.{get_or}
use Rattle.std.proofs.lemmas.List.{drop_all, drop_more, get_or_default}
use Rattle.evacuator.specs.declared.choosing.Candidate.{Candidate}
use Rattle.doc_header.specs.Reading.{document_digest}
use Rattle.doc_header.specs.Moving.{moved_to}
use Rattle.logged_disk.specs.Device.{TellsAll}
use Rattle.cyclone.specs.Cyclone.{IsMoved, IsTurning, Seen}
use Rattle.cache_model.specs.declared.record.Rec.{Rec}
use Rattle.cache_model.specs.declared.record.Rec.TheVariants as rec
use Rattle.cache_model.specs.State.{State, after_all, place_now, state_after}
use Rattle.cache_model.specs.Kept.{Kept, state_of, with_records}
use Rattle.cache_model.specs.Contents.{Contents}
use Rattle.piece_answers.specs.declared.ahead.Fate.{Fate}
use Rattle.stripe_pieces.specs.Copying.{AreCopyable, AreToldCopied, IsCopyable, IsToldCopied, blocks_for, bytes_for, copied_by, copied_of, copied_record, copies_among, copies_by}
use Rattle.piece_answers.specs.Covers.{Uses}
use Rattle.held_pieces.specs.Held.{IsHeld}
use Rattle.piece_answers.specs.Standing.{AreStanding}
use Rattle.piece_answers.proofs.RecordsAdded.{with_records-append, with_records-nil}
use Rattle.held_pieces.proofs.Moving.{moved_is_held}
use Rattle.stripe_pieces.proofs.Telling.{state_behind}

pub copied_is_held : (packed : Bool) (s : State) (c new : Seen) (x : Candidate) (bytes : List ℕ) → IsHeld s c → IsCopyable packed s x bytes
    → IsMoved packed c new x.id x.place bytes → IsTurning new → IsHeld (state_after s (copied_record s x bytes)) new
copied_is_held packed s c new x bytes held h moved turning =
    subst (λ from. IsHeld (state_after s (rec.Moved x.id from (place_now s) (document_digest (moved_to (place_now s) bytes)))) new) h.place
    (moved_is_held packed s c new x.id h.row bytes held h.movable (subst (λ from. IsMoved packed c new x.id from bytes) (sym h.place) moved) turning)

-- ---- one behind the other

copied_as_many : (packed : Bool) (s : State) (at : ℕ) (cs : List Candidate) (fs : List Fate) (memory : List ℕ) → AreCopyable packed s at cs fs memory → length cs ≡ length fs
copied_as_many packed s at [] [] memory h = refl
copied_as_many packed s at [] (f ∷ fs) memory h = absurd h
copied_as_many packed s at (c ∷ cs) [] memory h = absurd h
copied_as_many packed s at (c ∷ cs) (f ∷ fs) memory h =
    ap suc (copied_as_many packed (after_all s (copied_by s c f (bytes_for at c f memory))) (at + blocks_for c f) cs fs memory h.2)

-- so many pieces are behind: what was copied of them, and that the others can be copied
pub record HasCopied (packed : Bool) (k new : Kept) (c seen : Seen) (room left : ℕ) (cs : List Candidate) (fs : List Fate) (memory : List ℕ) (i at : ℕ) : Type 0 where
  pub held : IsHeld (state_of new) seen
  pub many : length cs ≡ length fs
  pub rest : AreCopyable packed (state_of new) at (drop i cs) (drop i fs) memory
  pub adds : with_records new (copied_of (state_of new) at (drop i cs) (drop i fs) memory) ≡ with_records k (copied_of (state_of k) 0 cs fs memory)
  pub geometry : seen.geometry ≡ c.geometry
  pub device : seen.device ≡ c.device
  pub records : room + copies_among (drop i fs) ≤ left + copies_among fs
  pub entries : c.spare + copies_among (drop i fs) ≤ seen.spare + copies_among fs
  -- where the bytes are what is told of the pieces, those behind it are, and all that was copied stands
  pub told : (contents : Contents) → (TellsAll c.device → AreToldCopied contents (state_of k) 0 cs fs memory)
      → TellsAll c.device → AreToldCopied contents (state_of new) at (drop i cs) (drop i fs) memory
  pub contents : (contents : Contents) → (TellsAll c.device → AreToldCopied contents (state_of k) 0 cs fs memory) → AreStanding contents (state_of k) c
      → AreStanding contents (state_of new) seen

pub nothing_copied : (packed : Bool) (k : Kept) (c : Seen) (room : ℕ) (cs : List Candidate) (fs : List Fate) (memory : List ℕ) → IsHeld (state_of k) c
    → AreCopyable packed (state_of k) 0 cs fs memory → HasCopied packed k k c c room room cs fs memory 0 0
nothing_copied packed k c room cs fs memory held ready = record {
  held = held;
  many = copied_as_many packed (state_of k) 0 cs fs memory ready;
  rest = ready;
  adds = refl;
  geometry = refl;
  device = refl;
  records = omega arith;
  entries = omega arith;
  told = λ contents told. told;
  contents = λ contents told stands. stands;
}

-- ---- one piece more

-- its fate is read twice
pub taken_twice : (fs : List Fate) (i taken : ℕ) (x : Candidate) (f other : Fate) → i < length fs → f ≡ get_or fs i f → other ≡ get_or fs i other → taken ≡ blocks_for x other
    → taken ≡ blocks_for x f
taken_twice fs i taken x f other within f_is other_is h = h ∙ ap (blocks_for x) (other_is ∙ (get_or_default fs i other f within ∙ sym f_is))

-- its bytes are the blocks behind those of the pieces before it
pub bytes_taken : (at taken : ℕ) (x : Candidate) (f : Fate) (all memory : List ℕ) → taken ≡ blocks_for x f → all ≡ memory
    → take ((at + taken) * 512 - at * 512) (drop (at * 512) all) ≡ bytes_for at x f memory
bytes_taken at taken x f all memory size same =
    let many : (at + taken) * 512 - at * 512 ≡ 512 * blocks_for x f = omega (arith, size) in
    let begin : at * 512 ≡ 512 * at = omega arith in
    ap (λ n. take n (drop (at * 512) all)) many ∙ (ap (λ n. take (512 * blocks_for x f) (drop n all)) begin ∙ ap (λ l. bytes_for at x f l) same)

module _ (packed : Bool) (k mid new : Kept) (c seen next : Seen) (room left now : ℕ) (cs : List Candidate) (fs : List Fate) (memory : List ℕ) (i at end : ℕ)
    (x : Candidate) (f : Fate) (bytes : List ℕ) (within : i < length cs) (its : x ≡ get_or cs i x) (fate_is : f ≡ get_or fs i f)
    (bytes_are : bytes ≡ bytes_for at x f memory) (size : end ≡ at + blocks_for x f) (h : HasCopied packed k mid c seen room left cs fs memory i at)
    (added : new ≡ with_records mid (copied_by (state_of mid) x f bytes)) (uses : Uses (copies_by f) (copies_by f) 0 0 left now seen next) where
  abbrev recs : List Rec
  recs = copied_by (state_of mid) x f (bytes_for at x f memory)

  abbrev cs_left : List Candidate
  cs_left = drop (i + 1) cs

  abbrev fs_left : List Fate
  fs_left = drop (i + 1) fs

  first : drop i cs ≡ x ∷ cs_left
  first = drop_more cs i x within ∙ ap (λ y. y ∷ cs_left) (sym its)

  first_fate : drop i fs ≡ f ∷ fs_left
  first_fate = drop_more fs i f (omega (arith, within, h.many)) ∙ ap (λ y. y ∷ fs_left) (sym fate_is)

  -- what was said of what is left is said of this one and of those behind it
  apart : (P : List Candidate → List Fate → Type 0) → P (drop i cs) (drop i fs) → P (x ∷ cs_left) (f ∷ fs_left)
  apart P p = subst (P (x ∷ cs_left)) first_fate (subst (λ l. P l (drop i fs)) first p)

  adds_here : new ≡ with_records mid recs
  adds_here = added ∙ ap (λ l. with_records mid (copied_by (state_of mid) x f l)) bytes_are

  behind : state_of new ≡ after_all (state_of mid) recs
  behind = state_behind mid new recs adds_here

  -- and of the state behind it
  further : (P : State → ℕ → Type 0) → P (after_all (state_of mid) recs) (at + blocks_for x f) → P (state_of new) end
  further P p = subst (P (state_of new)) (sym size) (subst (λ t. P t (at + blocks_for x f)) (sym behind) p)

  copies_are : copies_among (drop i fs) ≡ copies_by f + copies_among fs_left
  copies_are = ap copies_among first_fate

  copied_adds : with_records new (copied_of (state_of new) end cs_left fs_left memory) ≡ with_records k (copied_of (state_of k) 0 cs fs memory)
  copied_adds =
      further (λ t n. with_records new (copied_of t n cs_left fs_left memory) ≡ with_records k (copied_of (state_of k) 0 cs fs memory))
      (let rest : List Rec = copied_of (after_all (state_of mid) recs) (at + blocks_for x f) cs_left fs_left memory in
      ap (λ l. with_records l rest) adds_here
      ∙ (with_records-append mid recs rest
      ∙ apart (λ xs ys. with_records mid (copied_of (state_of mid) at xs ys memory) ≡ with_records k (copied_of (state_of k) 0 cs fs memory)) h.adds))

  pub copied_more : IsHeld (state_of new) next → next.device ≡ seen.device
      → ((contents : Contents) → (TellsAll seen.device → IsToldCopied contents (state_of mid) x f bytes) → AreStanding contents (state_of mid) seen
      → AreStanding contents (state_of new) next)
      → HasCopied packed k new c next room now cs fs memory (i + 1) end
  copied_more held still stands = record {
    held = held;
    many = h.many;
    rest = further (λ t n. AreCopyable packed t n cs_left fs_left memory) (apart (λ xs ys. AreCopyable packed (state_of mid) at xs ys memory) h.rest).2;
    adds = copied_adds;
    geometry = uses.same ∙ h.geometry;
    device = still ∙ h.device;
    records = omega (arith, h.records, uses.of_records, copies_are);
    entries = omega (arith, h.entries, uses.of_entries, copies_are);
    told = λ contents told tells.
        further (λ t n. AreToldCopied contents t n cs_left fs_left memory)
        (apart (λ xs ys. AreToldCopied contents (state_of mid) at xs ys memory) (h.told contents told tells)).1;
    contents = λ contents told before.
        stands contents
        (λ tells.
        subst (IsToldCopied contents (state_of mid) x f) (sym bytes_are)
        (apart (λ xs ys. AreToldCopied contents (state_of mid) at xs ys memory) (h.told contents told (subst TellsAll h.device tells))).0)
        (h.contents contents told before);
  }

-- all of them are behind
pub all_copied : (packed : Bool) (k new : Kept) (c seen : Seen) (room left : ℕ) (cs : List Candidate) (fs : List Fate) (memory : List ℕ) (i at : ℕ)
    → HasCopied packed k new c seen room left cs fs memory i at → length cs ≤ i → new ≡ with_records k (copied_of (state_of k) 0 cs fs memory)
all_copied packed k new c seen room left cs fs memory i at h end =
    sym (with_records-nil new)
    ∙ subst (λ ds. with_records new (copied_of (state_of new) at ds (drop i fs) memory) ≡ with_records k (copied_of (state_of k) 0 cs fs memory)) (drop_all i cs end) h.adds

-- the next one is among those that are left
pub copies_left : (fs : List Fate) (i : ℕ) (f : Fate) → i < length fs → f ≡ get_or fs i f → copies_by f ≤ copies_among (drop i fs)
copies_left fs i f within here =
    let first : copies_among (drop i fs) ≡ copies_by f + copies_among (drop (i + 1) fs) =
    ap copies_among (drop_more fs i f within ∙ ap (λ y. y ∷ drop (i + 1) fs) (sym here)) in
    omega (arith, first)
