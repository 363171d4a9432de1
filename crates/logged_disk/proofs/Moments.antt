-- What one call does, of the device as its callers see it.
use Rattle.std.proofs.Common.{◌≡◌, ℕ, ◌/◌, ◌%◌, List, length, Result, Ok, Err, sym, ◌∙◌, ap, subst}
use Rattle.std.specs.Prelude.{OnOk}
use Rattle.device_log.specs.Image.{Image, IsImage, SameBut, span}
use Rattle.device_log.specs.Calls.{ToRead, ToWrite, ToSync, Read, Wrote, Synced, RefusedCall}
use Rattle.device_log.specs.Seen.{seen_of, MayLeave}
use Rattle.device_log.specs.Faults.{IsLog}
use Rattle.device_log.specs.Along.{Along, ButFor}
use Rattle.device_log.proofs.SeenLaws.{wrote_puts, wrote_others, refused_others, seen_is_image}
use Rattle.device_log.proofs.LeftLaws.{wrote_torn, refused_torn, synced_settles, synced_leaves, sync_refused_leaves, read_leaves, read_refused_leaves}
use Rattle.device_log.proofs.CallLaws.{one_call, joins, weaker, left_after}
use Rattle.logged_disk.specs.Device.{DeviceState, seen, CutLeaves, Elapses, IsSettled, Logs}

pub seen_image : (s : DeviceState) → IsImage s.first → IsLog s.past → IsImage (seen s)
seen_image s is log = seen_is_image s.first s.past is log.entries

module _ {T E : Type 0} (result : Result T E) (old new : DeviceState) where
  -- a write tears its range, and nothing else
  pub write_elapses : (at : ℕ) (bytes : List ℕ) → IsImage (seen old) → Logs (Wrote at bytes) result old new
      → Elapses (ButFor at (length bytes / 512) (CutLeaves old)) old new
  write_elapses at bytes is logs =
      let P = ButFor at (length bytes / 512) (CutLeaves old) in
      elim result as (λ r. Logs (Wrote at bytes) r old new → Elapses P old new) [
        | Ok x ↦ λ went. subst (λ p. Along P old.settled old.first old.past p) (sym went.past)
            (one_call P old.settled old.first (Wrote at bytes) old.past (λ c may. wrote_torn old.settled old.first old.past c at bytes is may))
        | Err e ↦ λ failed. subst (λ p. Along P old.settled old.first old.past p) (sym failed.0.1)
            (one_call P old.settled old.first (RefusedCall (ToWrite at (length bytes / 512) failed.0.0) new.faults) old.past
            (λ c may. refused_torn old.settled old.first old.past c at (length bytes / 512) failed.0.0 new.faults is may))
      ] logs

  pub write_others : (at : ℕ) (bytes : List ℕ) → new.first ≡ old.first → Logs (Wrote at bytes) result old new
      → SameBut at (length bytes / 512) (seen old) (seen new)
  write_others at bytes stays logs =
      elim result as (λ r. Logs (Wrote at bytes) r old new → SameBut at (length bytes / 512) (seen old) (seen new)) [
        | Ok x ↦ λ went. subst (λ f. SameBut at (length bytes / 512) (seen old) (seen_of f new.past)) (sym stays)
            (subst (λ p. SameBut at (length bytes / 512) (seen old) (seen_of old.first p)) (sym went.past) (wrote_others old.first old.past at bytes))
        | Err e ↦ λ failed. subst (λ f. SameBut at (length bytes / 512) (seen old) (seen_of f new.past)) (sym stays)
            (subst (λ p. SameBut at (length bytes / 512) (seen old) (seen_of old.first p)) (sym failed.0.1)
            (refused_others old.first old.past at (length bytes / 512) failed.0.0 new.faults))
      ] logs

  pub write_puts : (at : ℕ) (bytes : List ℕ) → length bytes % 512 ≡ 0 → Logs (Wrote at bytes) result old new → new.first ≡ old.first
      → OnOk result (span (seen new) at (length bytes / 512) ≡ bytes)
  write_puts at bytes whole logs stays =
      elim result as (λ r. Logs (Wrote at bytes) r old new → OnOk r (span (seen new) at (length bytes / 512) ≡ bytes)) [
        | Ok x ↦ λ went. subst (λ f. span (seen_of f new.past) at (length bytes / 512) ≡ bytes) (sym stays)
            (subst (λ p. span (seen_of old.first p) at (length bytes / 512) ≡ bytes) (sym went.past) (wrote_puts old.first old.past at bytes whole))
        | Err e ↦ λ failed. tt
      ] logs

  -- a sync leaves no new image, and what is seen stays
  pub sync_elapses : Logs Synced result old new → Elapses (CutLeaves old) old new
  sync_elapses logs =
      let P = CutLeaves old in
      elim result as (λ r. Logs Synced r old new → Elapses P old new) [
        | Ok x ↦ λ went. subst (λ p. Along P old.settled old.first old.past p) (sym went.past)
            (one_call P old.settled old.first Synced old.past (λ c may. synced_leaves old.settled old.first old.past c may))
        | Err e ↦ λ failed. subst (λ p. Along P old.settled old.first old.past p) (sym failed.0)
            (one_call P old.settled old.first (RefusedCall ToSync new.faults) old.past (λ c may. sync_refused_leaves old.settled old.first old.past c new.faults may))
      ] logs

  pub sync_same : new.first ≡ old.first → Logs Synced result old new → seen new ≡ seen old
  unfolding seen_of
  sync_same stays logs =
      elim result as (λ r. Logs Synced r old new → seen new ≡ seen old) [
        | Ok x ↦ λ went. ap (λ f. seen_of f new.past) stays ∙ ap (seen_of old.first) went.past
        | Err e ↦ λ failed. ap (λ f. seen_of f new.past) stays ∙ ap (seen_of old.first) failed.0
      ] logs

  pub sync_settles : Logs Synced result old new → OnOk result (IsSettled new)
  sync_settles logs =
      elim result as (λ r. Logs Synced r old new → OnOk r (IsSettled new)) [
        | Ok x ↦ λ went c. subst (λ p. MayLeave new.settled new.first p c → (j : ℕ) → c j ≡ seen_of new.first p j) (sym went.past) (synced_settles new.settled new.first old.past c)
        | Err e ↦ λ failed. tt
      ] logs

  -- a read changes nothing
  pub read_elapses : (at : ℕ) (bytes : List ℕ) → Logs (Read at bytes) result old new → Elapses (CutLeaves old) old new
  read_elapses at bytes logs =
      let P = CutLeaves old in
      elim result as (λ r. Logs (Read at bytes) r old new → Elapses P old new) [
        | Ok x ↦ λ went. subst (λ p. Along P old.settled old.first old.past p) (sym went.past)
            (one_call P old.settled old.first (Read at bytes) old.past (λ c may. read_leaves old.settled old.first old.past c at bytes may))
        | Err e ↦ λ failed. subst (λ p. Along P old.settled old.first old.past p) (sym failed.0)
            (one_call P old.settled old.first (RefusedCall (ToRead at (length bytes / 512)) new.faults) old.past
            (λ c may. read_refused_leaves old.settled old.first old.past c at (length bytes / 512) new.faults may))
      ] logs

  pub read_same : (at : ℕ) (bytes : List ℕ) → new.first ≡ old.first → Logs (Read at bytes) result old new → seen new ≡ seen old
  unfolding seen_of
  read_same at bytes stays logs =
      elim result as (λ r. Logs (Read at bytes) r old new → seen new ≡ seen old) [
        | Ok x ↦ λ went. ap (λ f. seen_of f new.past) stays ∙ ap (seen_of old.first) went.past
        | Err e ↦ λ failed. ap (λ f. seen_of f new.past) stays ∙ ap (seen_of old.first) failed.0
      ] logs

module _ (P : Image → Type 0) (a b c : DeviceState) (first : b.first ≡ a.first) (settled : b.settled ≡ a.settled) where
  -- two parts of a run
  pub then : Elapses P a b → Elapses P b c → Elapses P a c
  then front back =
      joins P a.settled a.first a.past b.past c.past front
      (subst (λ s. Along P s a.first b.past c.past) settled (subst (λ f. Along P b.settled f b.past c.past) first back))

  -- behind a part a cut leaves what it could before, or what has P
  pub left_behind : Elapses P a b → ((i : Image) → CutLeaves a i → P i) → (i : Image) → CutLeaves b i → P i
  left_behind front at_start i may =
      left_after P a.settled a.first a.past b.past front at_start i
      (subst (λ s. MayLeave s a.first b.past i) settled (subst (λ f. MayLeave b.settled f b.past i) first may))

  -- and then a part in which a cut leaves nothing new
  pub then_still : ((i : Image) → CutLeaves a i → P i) → Elapses P a b → Elapses (CutLeaves b) b c → Elapses P a c
  then_still at_start front back =
      then front (weaker (CutLeaves b) P b.settled b.first b.past c.past (left_behind front at_start) back)

-- a write over what is settled tears what is seen
pub torn_settled : (at n : ℕ) (s : DeviceState) → IsSettled s → (i : Image) → ButFor at n (CutLeaves s) i → SameBut at n (seen s) i
torn_settled at n s settled i torn j outside = torn.2 j outside ∙ settled torn.0 torn.1 j
