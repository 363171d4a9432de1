-- A device goes on behind writes and syncs, all of which were made, or the last of which failed.
use Rattle.std.proofs.Common.{◌≡◌, ℕ, ◌<◌, ◌/◌, List, [], ◌∷◌, ◌++◌, true, false, length, refl, sym, ◌∙◌, ap, subst, arith, inl, inr}
use Rattle.std.specs.Prelude.{Result, Ok, Err, OnErr}
use Rattle.std.specs.List.{AllByRecursion}
use Rattle.device_log.specs.Calls.{Call, ToSync, ToWrite, RefusedCall, Synced, Wrote}
use Rattle.device_log.specs.Along.{Stopped, Went}
use Rattle.device_log.specs.Faults.{faults_of, is_untold}
use Rattle.logged_disk.specs.Device.{DeviceState as Device, IsAfter, Keeps, has_cut, has_flip}

-- a write or a sync
abbrev pub IsWriting : Call → Type 0
IsWriting (Wrote at bytes) = Unit {0}
IsWriting Synced = Unit {0}
IsWriting _ = ⊥

-- calls that turn no bit, tell no switch and cut no power
record ArePlain (calls : List Call) : Type 0 where
  unturned : has_flip calls ≡ false
  untold : is_untold calls ≡ true
  uncut : has_cut calls ≡ false

none_plain : ArePlain []
unfolding has_flip is_untold has_cut
none_plain = record { unturned = refl; untold = refl; uncut = refl }

write_plain : (at : ℕ) (bytes : List ℕ) (calls : List Call) → ArePlain calls → ArePlain (Wrote at bytes ∷ calls)
unfolding has_flip is_untold has_cut
write_plain at bytes calls h = record { unturned = h.unturned; untold = h.untold; uncut = h.uncut }

sync_plain : (calls : List Call) → ArePlain calls → ArePlain (Synced ∷ calls)
unfolding has_flip is_untold has_cut
sync_plain calls h = record { unturned = h.unturned; untold = h.untold; uncut = h.uncut }

refused_plain : (asked : Rattle.device_log.specs.Calls.Asked) (count : ℕ) (calls : List Call) → ArePlain calls → ArePlain (RefusedCall asked count ∷ calls)
unfolding has_flip is_untold has_cut
refused_plain asked count calls h = record { unturned = h.unturned; untold = h.untold; uncut = h.uncut }

-- from one log to another
record Leads (old new : List Call) : Type 0 where
  made : List Call
  past : new ≡ made ++ old
  plain : ArePlain made

leads_on : (calls front : List Call) (old mid new : List Call) → AllByRecursion IsWriting calls → mid ≡ front ++ old → ArePlain front → Went calls mid new → Leads old new
leads_on [] front old mid new all is plain went = record { made = front; past = went ∙ is; plain = plain }
leads_on (Wrote at bytes ∷ calls) front old mid new all is plain went =
    leads_on calls (Wrote at bytes ∷ front) old (Wrote at bytes ∷ mid) new all.1 (ap (λ l. Wrote at bytes ∷ l) is) (write_plain at bytes front plain) went
leads_on (Synced ∷ calls) front old mid new all is plain went =
    leads_on calls (Synced ∷ front) old (Synced ∷ mid) new all.1 (ap (λ l. Synced ∷ l) is) (sync_plain front plain) went
leads_on (_ ∷ calls) front old mid new all is plain went = absurd all.0

leads_to : (calls front : List Call) (count : ℕ) (old mid new : List Call) → AllByRecursion IsWriting calls → mid ≡ front ++ old → ArePlain front → Stopped calls count mid new → Leads old new
leads_to [] front count old mid new all is plain stopped = absurd stopped
leads_to (Wrote at bytes ∷ calls) front count old mid new all is plain (inl refused) = record {
  made = RefusedCall (ToWrite at (length bytes / 512) refused.0) count ∷ front;
  past = refused.1 ∙ ap (λ l. RefusedCall (ToWrite at (length bytes / 512) refused.0) count ∷ l) is;
  plain = refused_plain (ToWrite at (length bytes / 512) refused.0) count front plain;
}
leads_to (Wrote at bytes ∷ calls) front count old mid new all is plain (inr later) =
    leads_to calls (Wrote at bytes ∷ front) count old (Wrote at bytes ∷ mid) new all.1 (ap (λ l. Wrote at bytes ∷ l) is) (write_plain at bytes front plain) later
leads_to (Synced ∷ calls) front count old mid new all is plain (inl refused) = record {
  made = RefusedCall ToSync count ∷ front;
  past = refused ∙ ap (λ l. RefusedCall ToSync count ∷ l) is;
  plain = refused_plain ToSync count front plain;
}
leads_to (Synced ∷ calls) front count old mid new all is plain (inr later) =
    leads_to calls (Synced ∷ front) count old (Synced ∷ mid) new all.1 (ap (λ l. Synced ∷ l) is) (sync_plain front plain) later
leads_to (_ ∷ calls) front count old mid new all is plain stopped = absurd all.0

goes_by : (calls blocks : ℕ) (old new : Device) → Keeps calls blocks old new → Leads old.past new.past → IsAfter old new
goes_by calls blocks old new keeps leads = record {
  size = keeps.size;
  trust = keeps.trust;
  number = keeps.number;
  switch = keeps.switch;
  settled = keeps.settled;
  first = keeps.first;
  made = leads.made;
  past = leads.past;
  unturned = leads.plain.unturned;
  untold = leads.plain.untold;
  uncut = leads.plain.uncut;
}

pub went_goes : (calls blocks : ℕ) (old new : Device) (made : List Call) → Keeps calls blocks old new → AllByRecursion IsWriting made → Went made old.past new.past → IsAfter old new
went_goes calls blocks old new made keeps all went = goes_by calls blocks old new keeps (leads_on made [] old.past old.past new.past all refl none_plain went)

pub stopped_goes : (calls blocks count : ℕ) (old new : Device) (made : List Call) → Keeps calls blocks old new → AllByRecursion IsWriting made → Stopped made count old.past new.past → IsAfter old new
stopped_goes calls blocks count old new made keeps all stopped = goes_by calls blocks old new keeps (leads_to made [] count old.past old.past new.past all refl none_plain stopped)

-- a refused call is counted
pub stopped_counts : (made : List Call) (count : ℕ) (old new : List Call) → AllByRecursion IsWriting made → Stopped made count old new → 0 < faults_of new
unfolding faults_of
stopped_counts [] count old new all stopped = absurd stopped
stopped_counts (Wrote at bytes ∷ calls) count old new all (inl refused) = subst (λ past. 0 < faults_of past) (sym refused.1) (omega arith)
stopped_counts (Wrote at bytes ∷ calls) count old new all (inr later) = stopped_counts calls count (Wrote at bytes ∷ old) new all.1 later
stopped_counts (Synced ∷ calls) count old new all (inl refused) = subst (λ past. 0 < faults_of past) (sym refused) (omega arith)
stopped_counts (Synced ∷ calls) count old new all (inr later) = stopped_counts calls count (Synced ∷ old) new all.1 later
stopped_counts (_ ∷ calls) count old new all stopped = absurd all.0

-- ---- calls behind others

-- where some of these stopped, so did these and more
pub stopped_more : (calls more : List Call) (count : ℕ) (old new : List Call) → Stopped calls count old new → Stopped (calls ++ more) count old new
stopped_more [] more count old new stopped = absurd stopped
stopped_more (call ∷ calls) more count old new (inl here) = inl here
stopped_more (call ∷ calls) more count old new (inr later) = inr (stopped_more calls more count (call ∷ old) new later)

-- or where these went, and some behind them stopped
pub stopped_behind : (front calls : List Call) (count : ℕ) (old mid new : List Call) → Went front old mid → Stopped calls count mid new → Stopped (front ++ calls) count old new
stopped_behind [] calls count old mid new went stopped = subst (λ past. Stopped calls count past new) went stopped
stopped_behind (call ∷ front) calls count old mid new went stopped = inr (stopped_behind front calls count (call ∷ old) mid new went stopped)

pub went_behind : (front calls : List Call) (old mid new : List Call) → Went front old mid → Went calls mid new → Went (front ++ calls) old new
went_behind [] calls old mid new went more = subst (λ past. Went calls past new) went more
went_behind (call ∷ front) calls old mid new went more = went_behind front calls (call ∷ old) mid new went more

-- what holds of an error
pub of_error : {T E : Type 0} (r : Result T E) (X : Type 0) → X → OnErr r X
of_error (Ok x) X here = tt
of_error (Err e) X here = here
