-- What comes of a piece that is looked at.
use Rattle.std.proofs.Common.{◌≡◌, ℕ, ◌*◌, ◌<◌, List, refl, sym, ◌∙◌, ap, subst, arith, inr, length, take, Result, Ok, Err}
use Rattle.std.proofs.lemmas.List.{take_all}
use Rattle.edge_io.specs.declared.source.Failed.{Failed}
use Rattle.tape_base.specs.Place.{block_of}
use Rattle.device_log.specs.Image.{span}
use Rattle.logged_disk.specs.Device.{seen as content_of}
use Rattle.doc_header.specs.Reading.{document_digest}
use Rattle.evacuator.specs.declared.choosing.Candidate.{Candidate}
use Rattle.cyclone.specs.Cyclone.{BlocksStand, ReadsBlocks, Seen}
use Rattle.cache_model.specs.State.{State, Row}
use Rattle.cache_model.specs.Permit.{Permit}
use Rattle.cache_model.specs.Given.{IsGiven}
use Rattle.cache_model.specs.Outcomes.{Copied, ReadRefused, Spoiled}
use Rattle.cache_model.specs.Due.{candidate_of}
use Rattle.piece_answers.specs.declared.ahead.Fate.{Fate}
use Rattle.piece_answers.specs.declared.ahead.Fate.TheVariants as fate
use Rattle.piece_answers.specs.Covers.{Covers}
use Rattle.piece_answers.specs.Looks.{Comes, IsBeside, IsJudgedAs, MayBeCopied}
use Rattle.held_pieces.specs.Held.{IsHeld}
use Rattle.stripe_pieces.proofs.Findings.{counts_read, given_read, effects_failed, effects_read, right_by}
use Rattle.held_pieces.proofs.Lives.{live_is_stored, live_within}

-- ---- a read

-- what is read is that of the candidate
pub reads_row : (c new : Seen) (d : Candidate) (row : Row) (r : Result (Unit {0}) Failed) (bytes : List ℕ) → d ≡ candidate_of row → length bytes ≡ 512 * d.blocks
    → ReadsBlocks c new d.place d.blocks r (take (512 * d.blocks) bytes) → ReadsBlocks c new row.place row.blocks r bytes
reads_row c new d row r bytes is sized reads =
    subst (λ (x : Candidate). ReadsBlocks c new x.place x.blocks r bytes) is
    (subst (ReadsBlocks c new d.place d.blocks r) (take_all (512 * d.blocks) bytes (omega (arith, sized))) reads)

module _ (s : State) (c new : Seen) (row : Row) (bytes : List ℕ) (held : IsHeld s c) (may : MayBeCopied s row) where
  beneath : row.place < c.buffer.cursor
  beneath = let low : row.place < s.cursor = may.written in omega (arith, low, held.cursor)

  below : (t : State) → IsBeside s c.device t → row.place < t.cursor
  below t beside = let low : row.place < s.cursor = may.written in let same : t.cursor ≡ s.cursor = beside.cursor in omega arith

  given_then : (p : Permit) (t : State) → ReadsBlocks c new row.place row.blocks (Ok tt) bytes → Covers p c.device.past new.device.past → IsBeside s c.device t → IsGiven p t row bytes
  given_then p t read covers beside = given_read p t c new row bytes (held.geometry ∙ sym beside.geometry) beneath (below t beside) read covers

  pub comes_of : (f : Fate) → ReadsBlocks c new row.place row.blocks (Ok tt) bytes → IsJudgedAs row bytes f → Comes s c.device new.device row f bytes
  comes_of (fate.Copied pinned) read j = record {
    outcome = Copied bytes;
    fate = j.1;
    copy = refl;
    taken = refl;
    count = tt;
    unharmed = λ told. tt;
    exact = λ told. read.given beneath told.trusted ∙ ap (λ g. span (content_of c.device) (block_of g row.place) row.blocks) held.geometry;
    faults = effects_read c new row.place row.blocks bytes beneath read;
    is = λ p t left covers beside few. (few, given_then p t read covers beside, j.0);
  }
  comes_of (fate.Spoiled kept found) read j = record {
    outcome = Spoiled (document_digest bytes);
    fate = (j.0, j.1);
    copy = tt;
    taken = refl;
    count = tt;
    unharmed = λ told. absurd (j.2 (right_by s c new row.id row bytes bytes held may.live read (inr may.written) told));
    exact = λ told. tt;
    faults = effects_read c new row.place row.blocks bytes beneath read;
    is = λ p t left covers beside few. (few, record { bytes = bytes; given = given_then p t read covers beside; digest = refl; differ = j.2 });
  }
  comes_of fate.NoRoom read j = absurd j
  comes_of (fate.Refused count) read j = absurd j

  -- the device refused
  pub comes_refused : (count : ℕ) (e : Failed) → ReadsBlocks c new row.place row.blocks (Err e) bytes → count ≡ new.device.faults
      → Comes s c.device new.device row (fate.Refused count) bytes
  comes_refused count e read is = record {
    outcome = ReadRefused count;
    fate = refl;
    copy = tt;
    taken = refl;
    count = omega (arith, is);
    unharmed = λ told. (refl, (refl, tt));
    exact = λ told. tt;
    faults = effects_failed c new row.place row.blocks bytes e count beneath read is;
    is = λ p t left covers beside few. (
      few,
      below t beside,
      counts_read p t c new row bytes e count (held.geometry ∙ sym beside.geometry) beneath read is beside.fault covers,
    );
  }

-- ---- a piece that may be copied can be read

pub has_blocks : (s : State) (c : Seen) (d : Candidate) (row : Row) → IsHeld s c → MayBeCopied s row → d ≡ candidate_of row → 0 < d.blocks
has_blocks s c d row held may is = subst (λ (x : Candidate). 0 < x.blocks) (sym is) (live_within s c row.id row held may.live).0

pub is_stored : (s : State) (c : Seen) (d : Candidate) (row : Row) → IsHeld s c → MayBeCopied s row → d ≡ candidate_of row → BlocksStand c d.place d.blocks
is_stored s c d row held may is = subst (λ (x : Candidate). BlocksStand c x.place x.blocks) (sym is) (live_is_stored s c row.id row held may.live)
