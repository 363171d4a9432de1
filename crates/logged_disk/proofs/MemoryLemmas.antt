-- What a memory device keeps behind one more call.
use Rattle.std.proofs.Common.{◌≡◌, ℕ, ◌+◌, ◌-◌, ◌*◌, ◌/◌, ◌<◌, ◌≤◌, ◌==◌, ◌&&◌, ◌||◌, Bool, true, false, List, [], ◌∷◌, ◌++◌, length, take, drop, if◌then◌else◌, None, Some, refl, sym, ◌∙◌, ap, subst, arith}
use Rattle.std.specs.Prelude.{nat_eq, nat_lt, nat_le, is_some, unwrap_or}
use Rattle.std.specs.HashMap.{get}
use Rattle.device_log.specs.declared.choice.CutChoice.{CutChoice}
use Rattle.device_log.specs.declared.choice.CutChoice.TheVariants.{Lost, Kept, Torn, Junk}
use Rattle.device_log.specs.Image.{blank, span, in_range, put, turned, flipped}
use Rattle.device_log.specs.Calls.{Asked, Fail, StopAfter, Call, Read, Wrote, Synced, RefusedCall, Told, PowerCut, Flipped}
use Rattle.device_log.specs.Seen.{seen_of, kept_of, ReadsAreSeen}
use Rattle.device_log.specs.Cuts.{write_over, torn_block, junk_block, left_by}
use Rattle.device_log.specs.Faults.{IsLog, faults_of, next_count, is_fail_due, is_stopped, fails_next, obeys_switch}
use Rattle.device_log.proofs.Puts.{blank_is_image, span_put_low, span_put_high}
use Rattle.device_log.proofs.SeenLaws.{left_is_image}
use Rattle.device_log.proofs.LeftLaws.{cut_may_leave}
use Rattle.device_log.proofs.Spans.{span_same}
use Rattle.logged_disk.specs.Counting.{is_among, is_past, least}
use Rattle.logged_disk.specs.Blocks.{Written, Pending, AreStored, written_image, kept_or, synced_image, start_of, over_in, left_in, cut_image}
use Rattle.logged_disk.specs.Switch.{Obeys, CountsCall}
use Rattle.logged_disk.specs.Device.{has_flip}
use Rattle.logged_disk.specs.Honest.{CutsAreHonest}
use Rattle.logged_disk.specs.Memory.{IsMemory, memory_trust}
use Rattle.logged_disk.specs.declared.switch.Switch.{Switch}
use Rattle.logged_disk.proofs.Counted.{among_later, past_later, among_pushed, past_least}

fewer : (a : Bool) → (if true then 1 else 2) ≤ (if a then 1 else 2)
fewer true = omega arith
fewer false = omega arith

-- one more call adds no trust
falls : (call : Call) (older : List Call) → memory_trust (call ∷ older) ≤ memory_trust older
unfolding memory_trust has_flip
falls (Read at bytes) older = omega arith
falls (Wrote at bytes) older = omega arith
falls Synced older = omega arith
falls (RefusedCall what count) older = omega arith
falls (Told act) older = omega arith
falls (PowerCut choice left) older = omega arith
falls (Flipped at byte) older = fewer (has_flip older)

pub trust_falls : (call : Call) (old new : List Call) → new ≡ call ∷ old → memory_trust new ≤ memory_trust old
trust_falls call old new is = subst (λ p. memory_trust p ≤ memory_trust old) (sym is) (falls call old)

pub flip_ends_trust : (at byte : ℕ) (old new : List Call) → new ≡ Flipped at byte ∷ old → memory_trust new ≤ 1
unfolding memory_trust has_flip
flip_ends_trust at byte old new is = subst (λ p. memory_trust p ≤ 1) (sym is) (omega arith)

pub trust_at_first : (past : List Call) → past ≡ [] → 2 ≤ memory_trust past
unfolding memory_trust has_flip
trust_at_first past none = subst (λ p. 2 ≤ memory_trust p) (sym none) (omega arith)

module _ (written : Written) (pending : Pending) (switch : Switch) (faults : ℕ) (past : List Call) (is : IsMemory written pending switch faults past) where
  module _ (after : Switch) (count : ℕ) (result : Bool) (counts : CountsCall switch faults after count result) where
    -- the test that the switch makes is that of the log
    pub fails_as_told : result ≡ fails_next past
    fails_as_told =
        counts.decided ∙ (ap (λ b. b || is_past switch.stop 0) (is.obeyed.due 0) ∙ ap (λ b. is_fail_due 0 past || b) (is.obeyed.stopped 0))

    due_later : (made : ℕ) → is_among after.armed.items (made + 1) ≡ is_fail_due (made + 1) past
    due_later made =
        let two : made + 2 ≡ made + 1 + 1 = omega arith in
        ap (λ l. is_among l (made + 1)) counts.armed ∙ (among_later switch.armed.items made ∙ (ap (is_among switch.armed.items) two ∙ is.obeyed.due (made + 1)))

    stopped_later : (made : ℕ) → is_past after.stop made ≡ is_stopped (made + 1) past
    stopped_later made = ap (λ o. is_past o made) counts.stop ∙ (past_later switch.stop made ∙ is.obeyed.stopped (made + 1))

    obeys_read : (at : ℕ) (bytes : List ℕ) → Obeys after (Read at bytes ∷ past)
    unfolding is_fail_due is_stopped
    obeys_read at bytes = record { due = due_later; stopped = stopped_later }

    obeys_wrote : (at : ℕ) (bytes : List ℕ) → Obeys after (Wrote at bytes ∷ past)
    unfolding is_fail_due is_stopped
    obeys_wrote at bytes = record { due = due_later; stopped = stopped_later }

    obeys_synced : Obeys after (Synced ∷ past)
    unfolding is_fail_due is_stopped
    obeys_synced = record { due = due_later; stopped = stopped_later }

    obeys_refused : (what : Asked) (count : ℕ) → Obeys after (RefusedCall what count ∷ past)
    unfolding is_fail_due is_stopped
    obeys_refused what count = record { due = due_later; stopped = stopped_later }

    went : result ≡ false → (if fails_next past then false else obeys_switch past) ≡ true
    went goes = ap (λ b. if b then false else obeys_switch past) (sym fails_as_told ∙ goes) ∙ is.obeys

    same : result ≡ false → count ≡ faults_of past
    same goes = counts.counted ∙ (ap (λ b. if b then next_count faults else faults) goes ∙ is.counted)

    pub memory_read : (at : ℕ) (bytes : List ℕ) → bytes ≡ span (seen_of blank past) at (length bytes / 512) → result ≡ false
        → IsMemory written pending after count (Read at bytes ∷ past)
    unfolding seen_of kept_of ReadsAreSeen CutsAreHonest write_over obeys_switch faults_of
    memory_read at bytes gives goes = record {
      seen = is.seen;
      kept = is.kept;
      over = is.over;
      stored = is.stored;
      obeyed = obeys_read at bytes;
      obeys = went goes;
      counted = same goes;
      reads = (gives, is.reads);
      cuts = is.cuts;
    }

    pub memory_wrote : (new : Written) (more : Pending) (at : ℕ) (bytes : List ℕ)
        → ((j : ℕ) → written_image new j ≡ put at bytes (written_image written) j)
        → ((j : ℕ) → synced_image new more j ≡ synced_image written pending j)
        → ((j : ℕ) → over_in more j ≡ (if in_range at (length bytes / 512) j then Some at else over_in pending j)) → AreStored new more
        → result ≡ false → IsMemory new more after count (Wrote at bytes ∷ past)
    unfolding seen_of kept_of ReadsAreSeen CutsAreHonest write_over obeys_switch faults_of
    memory_wrote new more at bytes seen kept over stored goes = record {
      seen = λ j. seen j ∙ ap (λ l. if in_range at (length bytes / 512) j then take 512 (drop (512 * (j - at)) bytes) else l) (is.seen j);
      kept = λ j. kept j ∙ is.kept j;
      over = λ j. over j ∙ ap (λ o. if in_range at (length bytes / 512) j then Some at else o) (is.over j);
      stored = stored;
      obeyed = obeys_wrote at bytes;
      obeys = went goes;
      counted = same goes;
      reads = is.reads;
      cuts = is.cuts;
    }

    pub memory_synced : (none : Pending) → ((j : ℕ) → get nat_eq none j ≡ None) → result ≡ false
        → IsMemory written none after count (Synced ∷ past)
    unfolding seen_of kept_of ReadsAreSeen CutsAreHonest write_over obeys_switch faults_of
    memory_synced none empty goes = record {
      seen = is.seen;
      kept = λ j. ap (λ o. kept_or o (written_image written j)) (empty j) ∙ is.seen j;
      over = λ j. ap start_of (empty j);
      stored = record { stored = λ j has. absurd (let no : false ≡ true = sym (ap is_some (empty j)) ∙ has in cc no) };
      obeyed = obeys_synced;
      obeys = went goes;
      counted = same goes;
      reads = is.reads;
      cuts = is.cuts;
    }

    pub memory_refused : (what : Asked) (shown : ℕ) → ((j : ℕ) → seen_of blank (RefusedCall what shown ∷ past) j ≡ seen_of blank past j)
        → result ≡ true → IsMemory written pending after count (RefusedCall what shown ∷ past)
    unfolding kept_of ReadsAreSeen CutsAreHonest write_over obeys_switch faults_of
    memory_refused what shown stays fails = record {
      seen = λ j. is.seen j ∙ sym (stays j);
      kept = is.kept;
      over = is.over;
      stored = is.stored;
      obeyed = obeys_refused what shown;
      obeys = ap (λ b. b && obeys_switch past) (sym fails_as_told ∙ fails) ∙ is.obeys;
      counted = counts.counted ∙ (ap (λ b. if b then next_count faults else faults) fails ∙ ap next_count is.counted);
      reads = is.reads;
      cuts = is.cuts;
    }

  pub memory_told_fail : (after : Switch) (nth count : ℕ) → after.armed.items ≡ switch.armed.items ++ nth ∷ [] → after.stop ≡ switch.stop → count ≡ faults
      → IsMemory written pending after count (Told (Fail nth) ∷ past)
  unfolding seen_of kept_of ReadsAreSeen CutsAreHonest write_over obeys_switch faults_of is_fail_due is_stopped
  memory_told_fail after nth count armed stop same = record {
    seen = is.seen;
    kept = is.kept;
    over = is.over;
    stored = is.stored;
    obeyed = record {
      due = λ made. ap (λ l. is_among l (made + 1)) armed ∙ (among_pushed switch.armed.items nth (made + 1) ∙ ap (λ b. nth == made + 1 || b) (is.obeyed.due made));
      stopped = λ made. ap (λ o. is_past o made) stop ∙ is.obeyed.stopped made;
    };
    obeys = is.obeys;
    counted = same ∙ is.counted;
    reads = is.reads;
    cuts = is.cuts;
  }

  pub memory_told_stop : (after : Switch) (calls count : ℕ) → after.armed ≡ switch.armed → after.stop ≡ Some (least calls switch.stop) → count ≡ faults
      → IsMemory written pending after count (Told (StopAfter calls) ∷ past)
  unfolding seen_of kept_of ReadsAreSeen CutsAreHonest write_over obeys_switch faults_of is_fail_due is_stopped
  memory_told_stop after calls count armed stop same = record {
    seen = is.seen;
    kept = is.kept;
    over = is.over;
    stored = is.stored;
    obeyed = record {
      due = λ made. ap (λ v. is_among v.items (made + 1)) armed ∙ is.obeyed.due made;
      stopped = λ made. ap (λ o. is_past o made) stop ∙ (past_least calls switch.stop made ∙ ap (λ b. nat_le calls made || b) (is.obeyed.stopped made));
    };
    obeys = is.obeys;
    counted = same ∙ is.counted;
    reads = is.reads;
    cuts = is.cuts;
  }

  left_shows : (choice : CutChoice) (j : ℕ) → left_in choice written pending j ≡ left_by choice blank past j
  left_shows Lost j = is.kept j
  left_shows Kept j = is.seen j
  left_shows Torn j = ap (λ o. torn_block o j (written_image written j)) (is.over j) ∙ ap (torn_block (write_over past j) j) (is.seen j)
  left_shows Junk j = ap (λ o. junk_block o (written_image written j)) (is.over j) ∙ ap (junk_block (write_over past j)) (is.seen j)

  pub memory_cut : (new : Written) (none : Pending) (after : Switch) (choice : CutChoice) (size count : ℕ) → IsLog past
      → ((j : ℕ) → written_image new j ≡ cut_image choice size written pending j) → ((j : ℕ) → get nat_eq none j ≡ None)
      → after.armed ≡ switch.armed → after.stop ≡ None → count ≡ faults
      → IsMemory new none after count (PowerCut choice (span (left_by choice blank past) 0 size) ∷ past)
  unfolding seen_of kept_of ReadsAreSeen CutsAreHonest write_over obeys_switch faults_of is_fail_due is_stopped
  memory_cut new none after choice size count log seen empty armed stop same =
      let whole = (left_is_image choice blank past blank_is_image log.entries).whole in
      let shows : (j : ℕ) → written_image new j ≡ put 0 (span (left_by choice blank past) 0 size) (seen_of blank past) j = λ j.
      seen j ∙ elim (nat_lt j size) as (λ b. (nat_lt j size) ≡ b → (if b then left_in choice written pending j else written_image written j) ≡ put 0 (span (left_by choice blank past) 0 size) (seen_of blank past) j) [
        | true ↦ λ low. left_shows choice j ∙ sym (span_put_low (left_by choice blank past) (seen_of blank past) whole size j (let e : j < size = grind (arith, low) in e))
        | false ↦ λ high. is.seen j ∙ sym (span_put_high (left_by choice blank past) (seen_of blank past) whole size j (let e : size ≤ j = grind (arith, high) in e))
      ] refl in
      record {
        seen = shows;
        kept = λ j. ap (λ o. kept_or o (written_image new j)) (empty j) ∙ shows j;
        over = λ j. ap start_of (empty j);
        stored = record { stored = λ j has. absurd (let no : false ≡ true = sym (ap is_some (empty j)) ∙ has in cc no) };
        obeyed = record {
          due = λ made. ap (λ v. is_among v.items (made + 1)) armed ∙ is.obeyed.due made;
          stopped = λ made. ap (λ o. is_past o made) stop;
        };
        obeys = is.obeys;
        counted = same ∙ is.counted;
        reads = is.reads;
        cuts = (cut_may_leave choice blank size past blank_is_image log.entries, is.cuts);
      }

  pub memory_flipped : (new : Written) (turned_too : Pending) (at byte count : ℕ)
      → ((j : ℕ) → written_image new j ≡ flipped at byte (written_image written) j) → ((j : ℕ) → synced_image new turned_too j ≡ flipped at byte (synced_image written pending) j)
      → ((j : ℕ) → over_in turned_too j ≡ over_in pending j) → AreStored new turned_too → count ≡ faults
      → IsMemory new turned_too switch count (Flipped at byte ∷ past)
  unfolding seen_of kept_of ReadsAreSeen CutsAreHonest write_over obeys_switch faults_of is_fail_due is_stopped
  memory_flipped new turned_too at byte count seen kept over stored same = record {
    seen = λ j. seen j ∙ ap (λ l. if j == at then turned byte l else l) (is.seen j);
    kept = λ j. kept j ∙ ap (λ l. if j == at then turned byte l else l) (is.kept j);
    over = λ j. over j ∙ is.over j;
    stored = stored;
    obeyed = record { due = is.obeyed.due; stopped = is.obeyed.stopped };
    obeys = is.obeys;
    counted = same ∙ is.counted;
    reads = is.reads;
    cuts = is.cuts;
  }

  pub memory_gives : (at n : ℕ) → span (written_image written) at n ≡ span (seen_of blank past) at n
  memory_gives at n = span_same (written_image written) (seen_of blank past) at n (λ j low high. is.seen j)

pub memory_at_first : (written : Written) (pending : Pending) (switch : Switch) → ((j : ℕ) → get nat_eq written j ≡ None) → ((j : ℕ) → get nat_eq pending j ≡ None)
    → switch.armed.items ≡ [] → switch.stop ≡ None → IsMemory written pending switch 0 []
unfolding seen_of kept_of ReadsAreSeen CutsAreHonest write_over obeys_switch faults_of is_fail_due is_stopped
memory_at_first written pending switch none empty armed stop = record {
  seen = λ j. ap (λ o. unwrap_or o (blank j)) (none j);
  kept = λ j. ap (λ o. kept_or o (written_image written j)) (empty j) ∙ ap (λ o. unwrap_or o (blank j)) (none j);
  over = λ j. ap start_of (empty j);
  stored = record { stored = λ j has. absurd (let no : false ≡ true = sym (ap is_some (empty j)) ∙ has in cc no) };
  obeyed = record { due = λ made. ap (λ l. is_among l (made + 1)) armed; stopped = λ made. ap (λ o. is_past o made) stop };
  obeys = refl;
  counted = refl;
  reads = tt;
  cuts = tt;
}
