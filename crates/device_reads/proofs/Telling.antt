-- What reads tell, one behind the other.
use Rattle.std.proofs.Common.{◌≡◌, ℕ, ◌+◌, ◌/◌, ◌≤◌, ◌<◌, true, false, List, [], ◌∷◌, ◌++◌, length, length-append, append_assoc, append-nil, subst, All, Result, Ok, Err, refl, sym, ap, ◌∙◌, arith}
use Rattle.std.specs.Prelude.{OnOk, IfErr}
use Rattle.std.proofs.lemmas.List.Elements.{All-head, All-tail}
use Rattle.std.specs.declared.alloc.AllocError.{AllocError}
use Rattle.edge_io.specs.declared.source.Failed.{Failed}
use Rattle.device_log.specs.Image.{Image, IsImage, blank, put, span}
use Rattle.device_log.specs.Calls.{ToRead, ToWrite, ToSync, Call, Read, Wrote, Synced, RefusedCall, Told, PowerCut, Flipped}
use Rattle.device_log.specs.Seen.{seen_of, ReadsAreSeen}
use Rattle.device_log.specs.Faults.{IsEntry, is_untold}
use Rattle.device_log.proofs.Puts.{blank_is_image, put_is_image, put_others, put_span}
use Rattle.device_log.proofs.Spans.{span_same}
use Rattle.logged_disk.specs.Device.{DeviceState as Device, Keeps, Logs, has_cut, has_flip}
use Rattle.device_reads.specs.declared.reads.ReadFault.{ReadFault}
use Rattle.device_reads.specs.declared.reads.ReadFault.TheVariants.{DeviceFault, Memory}
use Rattle.device_reads.specs.Reads.{AreReads, Fails, Reads, SomeImageAgrees, Tell}

-- the same reads lie within more blocks
pub reads_wider : (low high top : ℕ) (made : List Call) → high ≤ top → AreReads low high made → AreReads low top made
unfolding AreReads
reads_wider low high top [] more is = omega (arith, is, more)
reads_wider low high top (Read at bytes ∷ older) more is = (omega (arith, is.0, more), is.1)
reads_wider low high top (Wrote at bytes ∷ older) more is = absurd is
reads_wider low high top (Synced ∷ older) more is = absurd is
reads_wider low high top (RefusedCall (ToRead at blocks) count ∷ older) more is = (omega (arith, is.0, more), is.1)
reads_wider low high top (RefusedCall (ToWrite at blocks left) count ∷ older) more is = absurd is
reads_wider low high top (RefusedCall ToSync count ∷ older) more is = absurd is
reads_wider low high top (Told act ∷ older) more is = absurd is
reads_wider low high top (PowerCut choice left ∷ older) more is = absurd is
reads_wider low high top (Flipped at byte ∷ older) more is = absurd is

-- one behind the other
pub reads_both : (low mid high : ℕ) (later older : List Call) → AreReads mid high later → AreReads low mid older → AreReads low high (later ++ older)
unfolding AreReads
reads_both low mid high [] older l o = reads_wider low mid high older l o
reads_both low mid high (Read at bytes ∷ later) older l o = (l.0, reads_both low mid at later older l.1 o)
reads_both low mid high (Wrote at bytes ∷ later) older l o = absurd l
reads_both low mid high (Synced ∷ later) older l o = absurd l
reads_both low mid high (RefusedCall (ToRead at blocks) count ∷ later) older l o = (l.0, reads_both low mid at later older l.1 o)
reads_both low mid high (RefusedCall (ToWrite at blocks left) count ∷ later) older l o = absurd l
reads_both low mid high (RefusedCall ToSync count ∷ later) older l o = absurd l
reads_both low mid high (Told act ∷ later) older l o = absurd l
reads_both low mid high (PowerCut choice left ∷ later) older l o = absurd l
reads_both low mid high (Flipped at byte ∷ later) older l o = absurd l

-- behind reads alone the same is seen
pub seen_reads : (c : Image) (low high : ℕ) (made : List Call) → AreReads low high made → seen_of c made ≡ c
unfolding AreReads seen_of
seen_reads c low high [] is = refl
seen_reads c low high (Read at bytes ∷ older) is = seen_reads c low at older is.1
seen_reads c low high (Wrote at bytes ∷ older) is = absurd is
seen_reads c low high (Synced ∷ older) is = absurd is
seen_reads c low high (RefusedCall (ToRead at blocks) count ∷ older) is = seen_reads c low at older is.1
seen_reads c low high (RefusedCall (ToWrite at blocks left) count ∷ older) is = absurd is
seen_reads c low high (RefusedCall ToSync count ∷ older) is = absurd is
seen_reads c low high (Told act ∷ older) is = absurd is
seen_reads c low high (PowerCut choice left ∷ older) is = absurd is
seen_reads c low high (Flipped at byte ∷ older) is = absurd is

-- what all these reads gave is what each part of them gave
pub seen_parts : (c : Image) (low mid high : ℕ) (later older : List Call) → AreReads mid high later → AreReads low mid older → ReadsAreSeen c (later ++ older)
    → ReadsAreSeen c later × ReadsAreSeen c older
unfolding AreReads ReadsAreSeen
seen_parts c low mid high [] older l o seen = (tt, seen)
seen_parts c low mid high (Read at bytes ∷ later) older l o seen =
    let rest = seen_parts c low mid at later older l.1 o seen.1 in
    let same : seen_of c (later ++ older) ≡ seen_of c later =
    seen_reads c low at (later ++ older) (reads_both low mid at later older l.1 o) ∙ sym (seen_reads c mid at later l.1) in
    ((seen.0 ∙ ap (λ (d : Image). span d at (length bytes / 512)) same, rest.0), rest.1)
seen_parts c low mid high (Wrote at bytes ∷ later) older l o seen = absurd l
seen_parts c low mid high (Synced ∷ later) older l o seen = absurd l
seen_parts c low mid high (RefusedCall (ToRead at blocks) count ∷ later) older l o seen = seen_parts c low mid at later older l.1 o seen
seen_parts c low mid high (RefusedCall (ToWrite at blocks left) count ∷ later) older l o seen = absurd l
seen_parts c low mid high (RefusedCall ToSync count ∷ later) older l o seen = absurd l
seen_parts c low mid high (Told act ∷ later) older l o seen = absurd l
seen_parts c low mid high (PowerCut choice left ∷ later) older l o seen = absurd l
seen_parts c low mid high (Flipped at byte ∷ later) older l o seen = absurd l

-- reads tell no switch anything, cut no power and turn no bit
pub reads_untold : (low high : ℕ) (made : List Call) → AreReads low high made → is_untold made ≡ true
unfolding AreReads is_untold
reads_untold low high [] is = refl
reads_untold low high (Read at bytes ∷ older) is = reads_untold low at older is.1
reads_untold low high (Wrote at bytes ∷ older) is = absurd is
reads_untold low high (Synced ∷ older) is = absurd is
reads_untold low high (RefusedCall (ToRead at blocks) count ∷ older) is = reads_untold low at older is.1
reads_untold low high (RefusedCall (ToWrite at blocks left) count ∷ older) is = absurd is
reads_untold low high (RefusedCall ToSync count ∷ older) is = absurd is
reads_untold low high (Told act ∷ older) is = absurd is
reads_untold low high (PowerCut choice left ∷ older) is = absurd is
reads_untold low high (Flipped at byte ∷ older) is = absurd is

pub reads_uncut : (low high : ℕ) (made : List Call) → AreReads low high made → has_cut made ≡ false
unfolding AreReads has_cut
reads_uncut low high [] is = refl
reads_uncut low high (Read at bytes ∷ older) is = reads_uncut low at older is.1
reads_uncut low high (Wrote at bytes ∷ older) is = absurd is
reads_uncut low high (Synced ∷ older) is = absurd is
reads_uncut low high (RefusedCall (ToRead at blocks) count ∷ older) is = reads_uncut low at older is.1
reads_uncut low high (RefusedCall (ToWrite at blocks left) count ∷ older) is = absurd is
reads_uncut low high (RefusedCall ToSync count ∷ older) is = absurd is
reads_uncut low high (Told act ∷ older) is = absurd is
reads_uncut low high (PowerCut choice left ∷ older) is = absurd is
reads_uncut low high (Flipped at byte ∷ older) is = absurd is

pub reads_unturned : (low high : ℕ) (made : List Call) → AreReads low high made → has_flip made ≡ false
unfolding AreReads has_flip
reads_unturned low high [] is = refl
reads_unturned low high (Read at bytes ∷ older) is = reads_unturned low at older is.1
reads_unturned low high (Wrote at bytes ∷ older) is = absurd is
reads_unturned low high (Synced ∷ older) is = absurd is
reads_unturned low high (RefusedCall (ToRead at blocks) count ∷ older) is = reads_unturned low at older is.1
reads_unturned low high (RefusedCall (ToWrite at blocks left) count ∷ older) is = absurd is
reads_unturned low high (RefusedCall ToSync count ∷ older) is = absurd is
reads_unturned low high (Told act ∷ older) is = absurd is
reads_unturned low high (PowerCut choice left ∷ older) is = absurd is
reads_unturned low high (Flipped at byte ∷ older) is = absurd is

-- ---- an image that agrees

-- with what was read below a block each image agrees that is the same there
same_below : (c d : Image) (low high : ℕ) (made : List Call) → AreReads low high made → ((j : ℕ) → j < high → c j ≡ d j) → ReadsAreSeen c made → ReadsAreSeen d made
unfolding AreReads ReadsAreSeen
same_below c d low high [] is same seen = tt
same_below c d low high (Read at bytes ∷ older) is same seen =
    let n = length bytes / 512 in
    let end : at + n ≤ high = is.0 in
    let was : span (seen_of c older) at n ≡ span c at n = ap (λ (e : Image). span e at n) (seen_reads c low at older is.1) in
    let now : span (seen_of d older) at n ≡ span d at n = ap (λ (e : Image). span e at n) (seen_reads d low at older is.1) in (
      seen.0 ∙ (was ∙ (span_same c d at n (λ j from below. same j (omega (arith, below, end))) ∙ sym now)),
      same_below c d low at older is.1 (λ j below. same j (omega (arith, below, end))) seen.1,
    )
same_below c d low high (Wrote at bytes ∷ older) is same seen = absurd is
same_below c d low high (Synced ∷ older) is same seen = absurd is
same_below c d low high (RefusedCall (ToRead at blocks) count ∷ older) is same seen =
    let end : at + blocks ≤ high = is.0 in
    same_below c d low at older is.1 (λ j below. same j (omega (arith, below, end))) seen
same_below c d low high (RefusedCall (ToWrite at blocks left) count ∷ older) is same seen = absurd is
same_below c d low high (RefusedCall ToSync count ∷ older) is same seen = absurd is
same_below c d low high (Told act ∷ older) is same seen = absurd is
same_below c d low high (PowerCut choice left ∷ older) is same seen = absurd is
same_below c d low high (Flipped at byte ∷ older) is same seen = absurd is

some_image : (low high : ℕ) (made : List Call) → AreReads low high made → All IsEntry made → (c : Image) × IsImage c × ReadsAreSeen c made
unfolding AreReads ReadsAreSeen
some_image low high [] is all = (blank, blank_is_image, tt)
some_image low high (Read at bytes ∷ older) is all =
    let n = length bytes / 512 in
    let entry = All-head IsEntry (Read at bytes) older all in
    let before = some_image low at older is.1 (All-tail IsEntry (Read at bytes) older all) in
    let c = put at bytes before.0 in
    let here : span (seen_of c older) at n ≡ bytes = ap (λ (e : Image). span e at n) (seen_reads c low at older is.1) ∙ put_span at bytes before.0 entry.whole in (
      c,
      put_is_image at bytes before.0 entry.bytes before.1,
      (sym here, same_below before.0 c low at older is.1 (λ j below. sym (put_others at bytes before.0 j (λ from less. omega (arith, below, from)))) before.2),
    )
some_image low high (Wrote at bytes ∷ older) is all = absurd is
some_image low high (Synced ∷ older) is all = absurd is
some_image low high (RefusedCall (ToRead at blocks) count ∷ older) is all = some_image low at older is.1 (All-tail IsEntry (RefusedCall (ToRead at blocks) count) older all)
some_image low high (RefusedCall (ToWrite at blocks left) count ∷ older) is all = absurd is
some_image low high (RefusedCall ToSync count ∷ older) is all = absurd is
some_image low high (Told act ∷ older) is all = absurd is
some_image low high (PowerCut choice left ∷ older) is all = absurd is
some_image low high (Flipped at byte ∷ older) is all = absurd is

pub some_image_law : SomeImageAgrees
some_image_law low high made is log = some_image low high made is log.entries

-- ---- devices

one_is_read : (at : ℕ) (bytes : List ℕ) → AreReads at (at + length bytes / 512) (Read at bytes ∷ [])
unfolding AreReads
one_is_read at bytes = (omega arith, omega arith)

one_is_refused : (at blocks count : ℕ) → AreReads at (at + blocks) (RefusedCall (ToRead at blocks) count ∷ [])
unfolding AreReads
one_is_refused at blocks count = (omega arith, omega arith)

none_is_read : (low high : ℕ) → low ≤ high → AreReads low high []
unfolding AreReads
none_is_read low high order = order

one_seen : (c : Image) (at : ℕ) (bytes : List ℕ) → ReadsAreSeen c (Read at bytes ∷ []) → bytes ≡ span c at (length bytes / 512)
unfolding ReadsAreSeen seen_of
one_seen c at bytes seen = seen.0

-- nothing was called
pub reads_none : (low high most : ℕ) (s : Device) (P : Image → Type 0) → low ≤ high → ((c : Image) → IsImage c → P c) → Reads low high most s s P
reads_none low high most s P order is = record {
  keeps = record { size = refl; trust = omega arith; number = refl; switch = refl; settled = refl; first = refl; calls = omega arith; blocks = omega arith };
  made = [];
  past = refl;
  reads = none_is_read low high order;
  few = omega arith;
  told = λ c image seen. is c image;
}

-- one read
module _ (result : Result (Unit {0}) Failed) (old new : Device) (at : ℕ) (bytes : List ℕ) (keeps : Keeps 0 0 old new) where
  abbrev n : ℕ
  n = length bytes / 512

  pub read_tells : Logs (Read at bytes) result old new → OnOk result (Reads at (at + n) 1 old new (λ c. bytes ≡ span c at n))
  read_tells logs =
      elim result as (λ r. Logs (Read at bytes) r old new → OnOk r (Reads at (at + n) 1 old new (λ c. bytes ≡ span c at n))) [
        | Ok x ↦ λ went. record {
          keeps = keeps;
          made = Read at bytes ∷ [];
          past = went.past;
          reads = one_is_read at bytes;
          few = omega arith;
          told = λ c image seen. one_seen c at bytes seen;
        }
        | Err e ↦ λ failed. tt
      ] logs

  pub read_fails : Logs (Read at bytes) result old new → IfErr result (λ e. Fails at (at + n) 1 old new (DeviceFault new.faults))
  read_fails logs =
      elim result as (λ r. Logs (Read at bytes) r old new → IfErr r (λ e. Fails at (at + n) 1 old new (DeviceFault new.faults))) [
        | Ok x ↦ λ went. tt
        | Err e ↦ λ failed. (
          record {
            keeps = keeps;
            made = RefusedCall (ToRead at n) new.faults ∷ [];
            past = failed.0;
            reads = one_is_refused at n new.faults;
            few = omega arith;
            told = λ c image seen. tt;
          },
          (ToRead at n, old.past, failed.0),
        )
      ] logs

-- less is told, and more is allowed
pub reads_as : (low high top m n : ℕ) (a b : Device) (P Q : Image → Type 0) → high ≤ top → m ≤ n → ((c : Image) → IsImage c → P c → Q c) → Reads low high m a b P → Reads low top n a b Q
reads_as low high top m n a b P Q wider more is reads = record {
  keeps = reads.keeps;
  made = reads.made;
  past = reads.past;
  reads = reads_wider low high top reads.made wider reads.reads;
  few = (let few = reads.few in omega (arith, few, more));
  told = λ c image seen. is c image (reads.told c image seen);
}

-- one behind the other
pub reads_then : (low mid high m n : ℕ) (a b d : Device) (P Q : Image → Type 0) → Reads low mid m a b P → Reads mid high n b d Q → Reads low high (m + n) a d (λ c. P c × Q c)
reads_then low mid high m n a b d P Q front back = record {
  keeps = record {
    size = back.keeps.size ∙ front.keeps.size;
    trust = omega (arith, front.keeps.trust, back.keeps.trust);
    number = back.keeps.number ∙ front.keeps.number;
    switch = back.keeps.switch ∙ front.keeps.switch;
    settled = back.keeps.settled ∙ front.keeps.settled;
    first = back.keeps.first ∙ front.keeps.first;
    calls = omega (arith, front.keeps.calls, back.keeps.calls);
    blocks = omega (arith, front.keeps.blocks, back.keeps.blocks);
  };
  made = back.made ++ front.made;
  past = back.past ∙ (ap (λ l. back.made ++ l) front.past ∙ sym (append_assoc back.made front.made a.past));
  reads = reads_both low mid high back.made front.made back.reads front.reads;
  few = omega (arith, length-append back.made front.made, front.few, back.few);
  told = λ c image seen.
      let parts = seen_parts c low mid high back.made front.made back.reads front.reads seen in
      (front.told c image parts.1, back.told c image parts.0);
}

-- what failed behind reads failed
pub fails_then : (low mid high m n : ℕ) (a b d : Device) (P : Image → Type 0) (e : ReadFault) → Reads low mid m a b P → Fails mid high n b d e → Fails low high (m + n) a d e
fails_then low mid high m n a b d P e front back =
    let Q : Image → Type 0 = λ c. Unit {0} in
    (reads_as low high high (m + n) (m + n) a d (λ c. P c × Q c) Q (omega arith) (omega arith) (λ c image both. tt) (reads_then low mid high m n a b d P Q front back.0), back.1)

pub fails_as : (low high top m n : ℕ) (a b : Device) (e : ReadFault) → high ≤ top → m ≤ n → Fails low high m a b e → Fails low top n a b e
fails_as low high top m n a b e wider more fails =
    let Q : Image → Type 0 = λ c. Unit {0} in
    (reads_as low high top m n a b Q Q wider more (λ c image known. tt) fails.0, fails.1)

-- memory was wanting behind reads
pub wants_behind : (low high most : ℕ) (a b : Device) (P : Image → Type 0) (e : AllocError) → Reads low high most a b P → Fails low high most a b (Memory e)
wants_behind low high most a b P e reads = (reads_as low high high most most a b P (λ c. Unit {0}) (omega arith) (omega arith) (λ c image known. tt) reads, tt)

-- or before anything was called
pub wants_none : (low high most : ℕ) (s : Device) (e : AllocError) → low ≤ high → Fails low high most s s (Memory e)
wants_none low high most s e order = (reads_none low high most s (λ c. Unit {0}) order (λ c image. tt), tt)

-- of a device that was called nothing before, the whole log
module _ (low high most : ℕ) (old new : Device) (P : Image → Type 0) (none : old.past ≡ []) (reads : Reads low high most old new P) where
  whole_is : new.past ≡ reads.made
  whole_is = reads.past ∙ (ap (λ l. reads.made ++ l) none ∙ append-nil reads.made)

  pub whole_reads : AreReads low high new.past
  whole_reads = subst (λ (l : List Call). AreReads low high l) (sym whole_is) reads.reads

  pub whole_few : length new.past ≤ most
  whole_few = let few = reads.few in let same = ap length whole_is in omega (arith, few, same)

  pub whole_tells : Tell new.past P
  whole_tells = subst (λ (l : List Call). Tell l P) (sym whole_is) reads.told
