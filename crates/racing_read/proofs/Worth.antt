-- What the answers of a racing read are worth.
use Rattle.std.proofs.Common.{◌≡◌, ◌≤◌, ◌*◌, ℕ, suc, List, [], ◌∷◌, ◌++◌, length, take, refl, sym, ap, subst, ◌∙◌, arith, inl, inr}
use mathlib.Core.List.{IsPrefix}
use Rattle.tape_base.specs.declared.digests.Digest.{Digest}
use Rattle.tape_base.specs.Blocks.{blocks_of}
use Rattle.tape_base.specs.Digest.{IsSame}
use Rattle.tape_base.proofs.Bytes.{IsBytes-take}
use Rattle.tape_base.proofs.DigestLaw.{digests_tell_lem}
use Rattle.doc_header.specs.declared.documents.Doc.{Doc}
use Rattle.doc_header.specs.Document.{header_bytes, Fits}
use Rattle.doc_header.specs.Reading.{extent_of}
use Rattle.doc_header.proofs.MovingLaws.{extent_begins, document_small}
use Rattle.stripe_lock.specs.declared.kept.KeptState.{Ghosts}
use Rattle.racing_read.specs.declared.ticket.Ticket.{Ticket}
use Rattle.racing_read.specs.declared.ticket.Raced.TheVariants as raced
use Rattle.racing_read.specs.RaceCalls.{RaceCall, PeekGave, PeekFailed, FloorLoaded}
use Rattle.racing_read.specs.Races.{RaceMoment, ReadsThenLoads, RaceGave, RacePassed, RaceDamaged, RaceFailed}
use Rattle.racing_read.specs.RaceLaws.{IsDocumentOrCollides, GivenIsDocument, RaceIsDecided, RacesSeeLaterFloors, PassedStaysPassed}

same_is_document : (bytes : List ℕ) (doc : Doc) (payload : List ℕ) → Fits doc payload → 512 * blocks_of (length payload) ≤ length bytes
    → IsSame (take (extent_of bytes) bytes) (header_bytes doc payload ++ payload) → IsDocumentOrCollides bytes doc payload
same_is_document bytes doc payload fits whole (inl same) = inl (record {
  fits = fits;
  of_generation = refl;
  at_place = refl;
  is_whole = whole;
  is_spelled = extent_begins bytes doc payload fits.size_fits same;
})
same_is_document bytes doc payload fits whole (inr collide) = inr collide

-- one more than the floor that was loaded last, and 0 where the last call was no load
abbrev last_floor : List RaceCall → ℕ
last_floor [] = 0
last_floor (PeekGave block bytes ∷ older) = 0
last_floor (PeekFailed block bytes count ∷ older) = 0
last_floor (FloorLoaded floor ∷ older) = suc floor

module _ {T R : Type 0} (k : Ghosts T R) where
  pub given_is_document : GivenIsDocument k
  given_is_document ticket old new bytes n doc payload long of_doc gave =
      let whole : 512 * blocks_of (length payload) ≤ length bytes = subst (λ (m : ℕ). 512 * blocks_of m ≤ length bytes) (sym of_doc.length_is) (omega (arith, long)) in
      same_is_document bytes doc payload of_doc.fits whole
      (digests_tell_lem (take (extent_of bytes) bytes) (header_bytes doc payload ++ payload) (IsBytes-take (extent_of bytes) bytes gave.bytes_are)
      (document_small doc payload of_doc.bytes_are) (gave.same ∙ of_doc.digest_is))

  pub races_see_later_floors : RacesSeeLaterFloors k
  races_see_later_floors ticket old new bytes floor all reads = record {
    has_turns = subst (λ turns. IsPrefix turns new.pass.told) all reads.sees.later;
    floor_is = reads.sees.floor_is ∙ ap (λ chronicle. k.floor_of chronicle new.pass.told) (sym (ap (λ p. p.chronicle) reads.sees.same));
  }

  pub passed_stays_passed : PassedStaysPassed k
  passed_stays_passed ticket old new bytes place floor later x passed later_floor ends =
      let now : new.pass.floor ≡ floor = ap (λ p. p.floor) passed.reads.sees.same in
      omega (arith, now, passed.below, later_floor, ends.higher)

  module _ (ticket : Ticket) (old new : RaceMoment R) (bytes : List ℕ) where
    one_floor : (f g : ℕ) → ReadsThenLoads k ticket old new bytes f → ReadsThenLoads k ticket old new bytes g → f ≡ g
    one_floor f g a b = let same : suc f ≡ suc g = ap last_floor (sym a.order ∙ b.order) in omega (arith, same)

    not_failed : {A : Type 0} (f n : ℕ) → ReadsThenLoads k ticket old new bytes f → RaceFailed k ticket old new bytes n → A
    not_failed f n a b = let same : suc f ≡ 0 = ap last_floor (sym a.order ∙ b.order) in absurd (omega (arith, same))

    not_passed : {A : Type 0} (f place floor : ℕ) → ReadsThenLoads k ticket old new bytes f → f ≤ ticket.place → RacePassed k ticket old new bytes place floor → A
    not_passed f place floor a above b = absurd (omega (arith, one_floor f floor a b.reads, above, b.below))

    not_damaged : {A : Type 0} (n : ℕ) (kept found : Digest) → RaceGave k ticket old new bytes n → RaceDamaged k ticket old new bytes kept found → A
    not_damaged n kept found a b = absurd (b.differ (b.kept_is ∙ (sym a.same ∙ sym b.found_is)))

  pub race_is_decided : RaceIsDecided k
  race_is_decided t o n bs (raced.Given l) (raced.Given m) a b = ap raced.Given (a.length_is ∙ sym b.length_is)
  race_is_decided t o n bs (raced.Given l) (raced.Passed p f) a b = not_passed t o n bs a.floor p f a.reads a.above b
  race_is_decided t o n bs (raced.Given l) (raced.Damaged x y) a b = not_damaged t o n bs l x y a b
  race_is_decided t o n bs (raced.Given l) (raced.DeviceFault c) a b = not_failed t o n bs a.floor c a.reads b
  race_is_decided t o n bs (raced.Passed p f) (raced.Given l) a b = not_passed t o n bs b.floor p f b.reads b.above a
  race_is_decided t o n bs (raced.Passed p f) (raced.Passed q g) a b =
      let places : p ≡ q = a.place_is ∙ sym b.place_is in let floors = one_floor t o n bs f g a.reads b.reads in (λ i. raced.Passed (places i) (floors i))
  race_is_decided t o n bs (raced.Passed p f) (raced.Damaged x y) a b = not_passed t o n bs b.floor p f b.reads b.above a
  race_is_decided t o n bs (raced.Passed p f) (raced.DeviceFault c) a b = not_failed t o n bs f c a.reads b
  race_is_decided t o n bs (raced.Damaged x y) (raced.Given l) a b = not_damaged t o n bs l x y b a
  race_is_decided t o n bs (raced.Damaged x y) (raced.Passed p f) a b = not_passed t o n bs a.floor p f a.reads a.above b
  race_is_decided t o n bs (raced.Damaged x y) (raced.Damaged v w) a b =
      let kept : x ≡ v = a.kept_is ∙ sym b.kept_is in let found : y ≡ w = a.found_is ∙ sym b.found_is in (λ i. raced.Damaged (kept i) (found i))
  race_is_decided t o n bs (raced.Damaged x y) (raced.DeviceFault c) a b = not_failed t o n bs a.floor c a.reads b
  race_is_decided t o n bs (raced.DeviceFault c) (raced.Given l) a b = not_failed t o n bs b.floor c b.reads a
  race_is_decided t o n bs (raced.DeviceFault c) (raced.Passed p f) a b = not_failed t o n bs f c b.reads a
  race_is_decided t o n bs (raced.DeviceFault c) (raced.Damaged x y) a b = not_failed t o n bs b.floor c b.reads a
  race_is_decided t o n bs (raced.DeviceFault c) (raced.DeviceFault d) a b = ap raced.DeviceFault (a.count_is ∙ sym b.count_is)
