-- What the statement lets through: tries that went through, each of which wants another clause where it matters.
use Rattle.std.proofs.Common.{◌≡◌, ℕ, ◌<◌, ◌≤◌, arith, true, false, List, [], ◌∷◌, ◌++◌, refl, ◌∙◌, inl}
use Rattle.std.specs.Prelude.{take, Some}
use Rattle.device_log.specs.Calls.{Call, Read}
use Rattle.logged_disk.specs.Device.{DeviceState as Device}
use Rattle.tape_base.specs.Digest.{Collide}
use Rattle.doc_header.specs.Reading.{extent_of}
use Rattle.cache_model.specs.declared.record.Rec.{Rec}
use Rattle.cache_model.specs.State.{Row, State, live_row_of}
use Rattle.cache_model.specs.Permit.{Intent, Permit, Reason, to_do}
use Rattle.cache_model.specs.Legal.{nothing}
use Rattle.cache_model.specs.Pair.{Documents, IsPairOf, ShowsPair}
use Rattle.call_laws.specs.Moments.{NothingKnown, At, Facts, IsStillAt}
use Rattle.call_laws.specs.Progress.{AllDone, Leaves, Progress, Stops, Wants}
use Rattle.call_laws.specs.Happens.{Happens}
use Rattle.call_laws.specs.Serves.{IsCall, Serves, ServesFrom, Upshots}
use Rattle.call_laws.proofs.Groups.{happens_plainly}
use Rattle.call_laws.proofs.Grown.{shown_first}
use Rattle.call_laws.proofs.Joined.{nothing_more}
use Rattle.call_laws.proofs.Served.{serves_begins, serves_fails, serves_still, serves_then}

-- ---- a call that does nothing

-- it serves whatever it is asked, for want of memory
gives_up : (now : ℕ) (a b : At) (asked : List Intent) → IsStillAt a b → Serves now a b asked Wants
gives_up now a b asked still = serves_begins (serves_still asked still)

-- or leaves all of it
leaves_all : (now : ℕ) (a b : At) (asked : List Intent) → IsStillAt a b → Serves now a b asked (Leaves asked)
leaves_all now a b asked still = serves_still asked still

-- of the device the log alone is looked at
other_device : (a : At) (device : Device) → device.past ≡ a.device.past → IsStillAt a (record a { device = device })
other_device a device past = record { kept = refl; past = past; setting = refl }

-- ---- a read more

-- a read of any block needs no record
one_read : {P : Documents} {now : ℕ} {a b : At} {before : Facts} (at : ℕ) (bytes : List ℕ) → a.setting.syncs ≡ false → b.setting ≡ a.setting
    → b.kept ≡ a.kept
    → b.device.past ≡ Read at bytes ∷ a.device.past → ServesFrom P now a b [] AllDone before NothingKnown
one_read {a = a} at bytes unsynced setting kept past = record {
  calls = Read at bytes ∷ [];
  added = [];
  happens = happens_plainly (Read at bytes ∷ []) [] unsynced setting past (kept ∙ nothing_more a.kept) refl;
  does = λ p earlier step. record {
    from = λ k. inl (record {
      spends = nothing;
      behind = tt;
    });
  };
}

module _ {P : Documents} {now : ℕ} {a b c : At} {asked : List Intent} {before known : Facts} (at : ℕ) (bytes : List ℕ) (unsynced : b.setting.syncs ≡ false)
    (setting : c.setting ≡ b.setting) (kept : c.kept ≡ b.kept) (past : c.device.past ≡ Read at bytes ∷ b.device.past) where
  -- so it may stand behind a call that is done
  read_behind : ServesFrom P now a b asked AllDone before known → ServesFrom P now a c (asked ++ []) AllDone before NothingKnown
  read_behind f = serves_then f (one_read at bytes unsynced setting kept past)

  -- and behind one that was refused
  read_refused : (why : Reason) → ServesFrom P now a b asked (Stops why) before known → ServesFrom P now a c (asked ++ []) (Stops why) before NothingKnown
  read_refused why f = serves_fails [] f (one_read at bytes unsynced setting kept past)

-- ---- what is known, and in which steps

-- from what never holds anything is served by calls and records that are accounted for
from_nothing : {P : Documents} {now : ℕ} {a b : At} {asked : List Intent} {o : Progress} {known : Facts} (calls : List Call) (added : List Rec)
    → Happens a b calls added
    → ServesFrom P now a b asked o (λ s. ⊥) known
from_nothing calls added happens = record { calls = calls; added = added; happens = happens; does = λ p earlier step. record { from = λ k. absurd k } }

-- ---- a pair

-- of a piece in the buffer the other bytes are tied to no call
in_buffer : (IsPlaced : Documents) (p : Permit) (s : State) (row : Row) (document bytes : List ℕ) → s.cursor ≤ row.place
    → live_row_of s row.id ≡ Some row → IsPlaced s row document
    → Collide (take (extent_of bytes) bytes) document → IsPairOf IsPlaced p s row
in_buffer IsPlaced p s row document bytes high live placed collide =
    record { document = document; bytes = bytes; live = live; placed = placed; given = λ low. absurd (no low high); collide = collide }
  where
    no : row.place < s.cursor → s.cursor ≤ row.place → ⊥
    no low high = omega arith

-- behind a pair the records are any
behind_pair : (IsPlaced : Documents) (p : Permit) (s : State) (asked : List Intent) (added others : List Rec) → ShowsPair IsPlaced p s asked added
    → ShowsPair IsPlaced p s asked (added ++ others)
behind_pair IsPlaced p s asked added others h = shown_first IsPlaced p s (to_do asked) added others h
