-- Worked rows: the definitions give what a reader works out by hand.
use Rattle.std.proofs.Common.{◌≡◌, ℕ, true, false, List, [], ◌∷◌, ◌++◌, replicate, refl}
use Rattle.std.specs.Prelude.{slice_set}
use Rattle.device_log.specs.declared.choice.CutChoice.TheVariants.{Lost, Torn, Junk}
use Rattle.device_log.specs.Image.{blank, zeros, junk}
use Rattle.device_log.specs.Calls.{ToRead, ToWrite, ToSync, Fail, StopAfter, Call, Read, Wrote, Synced, RefusedCall, Told, PowerCut, Flipped}
use Rattle.device_log.specs.Seen.{seen_of, kept_of, is_pending, flips_of, is_flipped}
use Rattle.device_log.specs.Faults.{faults_of, is_fail_due, is_stopped, fails_next}
use Rattle.device_log.specs.Cuts.{write_over, left_by}

-- two blocks
abbrev ones : List ℕ
ones = replicate 512 1

abbrev twos : List ℕ
twos = replicate 512 2

-- a write and a read

abbrev written : List Call
written = Read 3 ones ∷ Wrote 3 ones ∷ []

written_is_seen : seen_of blank written 3 ≡ ones
unfolding seen_of zeros
written_is_seen = refl

others_stay : seen_of blank written 4 ≡ zeros
unfolding seen_of zeros
others_stay = refl

-- a write of three blocks, and one over its second and third: what a cut leaves

abbrev twice : List Call
twice = Wrote 1 (twos ++ twos) ∷ Wrote 0 (ones ++ ones ++ ones) ∷ []

first_is_whole : left_by Torn blank twice 0 ≡ ones
unfolding seen_of write_over zeros junk
first_is_whole = refl

second_began_again : left_by Torn blank twice 1 ≡ twos
unfolding seen_of write_over zeros junk
second_began_again = refl

third_is_torn : left_by Torn blank twice 2 ≡ junk
unfolding seen_of write_over zeros junk
third_is_torn = refl

fourth_was_not_written : left_by Torn blank twice 3 ≡ zeros
unfolding seen_of write_over zeros junk
fourth_was_not_written = refl

all_is_junk : left_by Junk blank twice 0 ≡ junk
unfolding seen_of write_over zeros junk
all_is_junk = refl

all_is_lost : left_by Lost blank twice 1 ≡ zeros
unfolding kept_of zeros
all_is_lost = refl

synced_stays : left_by Lost blank (Wrote 1 twos ∷ Synced ∷ twice) 1 ≡ twos
unfolding kept_of seen_of zeros
synced_stays = refl

synced_is_not_torn : left_by Torn blank (Synced ∷ twice) 2 ≡ twos
unfolding seen_of write_over zeros junk
synced_is_not_torn = refl

-- a sync settles, and one that failed does not

settled_by_sync : is_pending true (Synced ∷ Wrote 0 ones ∷ []) 0 ≡ false
unfolding is_pending
settled_by_sync = refl

not_by_a_failed_one : is_pending true (RefusedCall ToSync 1 ∷ Wrote 0 ones ∷ []) 0 ≡ true
unfolding is_pending
not_by_a_failed_one = refl

refused_is_pending : is_pending true (RefusedCall (ToWrite 0 2 []) 1 ∷ []) 1 ≡ true
unfolding is_pending
refused_is_pending = refl

-- a flip, in what is seen and in what is kept, until the block is written and synced

abbrev turned_once : List Call
turned_once = Flipped 0 3 ∷ Synced ∷ Wrote 0 ones ∷ []

flip_is_seen : seen_of blank turned_once 0 ≡ slice_set ones 3 0
unfolding seen_of zeros
flip_is_seen = refl

flip_is_kept : left_by Lost blank (Wrote 0 twos ∷ turned_once) 0 ≡ slice_set ones 3 0
unfolding kept_of seen_of zeros
flip_is_kept = refl

flip_counts : is_flipped turned_once 0 ≡ true
unfolding flips_of
flip_counts = refl

write_ends_it : is_flipped (Wrote 0 twos ∷ turned_once) 0 ≡ false
unfolding flips_of
write_ends_it = refl

cut_may_bring_it_back : is_flipped (PowerCut Lost [] ∷ Wrote 0 twos ∷ turned_once) 0 ≡ true
unfolding flips_of
cut_may_bring_it_back = refl

-- which call fails

abbrev second_fails : List Call
second_fails = Told (Fail 2) ∷ []

first_goes : fails_next second_fails ≡ false
unfolding is_fail_due is_stopped
first_goes = refl

then_one_fails : fails_next (Synced ∷ second_fails) ≡ true
unfolding is_fail_due is_stopped
then_one_fails = refl

each_counts_by_itself : fails_next (RefusedCall ToSync 1 ∷ Told (Fail 1) ∷ second_fails) ≡ true
unfolding is_fail_due is_stopped
each_counts_by_itself = refl

least_stop_holds : fails_next (Synced ∷ Told (StopAfter 5) ∷ Told (StopAfter 1) ∷ []) ≡ true
unfolding is_fail_due is_stopped
least_stop_holds = refl

cut_lifts_it : fails_next (PowerCut Lost [] ∷ Told (StopAfter 0) ∷ []) ≡ false
unfolding is_fail_due is_stopped
cut_lifts_it = refl

two_refused : faults_of (RefusedCall ToSync 2 ∷ Synced ∷ RefusedCall (ToRead 0 1) 1 ∷ []) ≡ 2
unfolding faults_of
two_refused = refl
