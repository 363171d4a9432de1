-- A buffer whose front is on the device, and the blocks behind it.
use Rattle.std.proofs.Common.{◌≡◌, ℕ, ◌+◌, ◌-◌, ◌*◌, ◌/◌, ◌%◌, ◌<◌, ◌≤◌, List, ◌++◌, length, take, drop, Result, Ok, Err, sym, ◌∙◌, ap, subst, arith}
use Rattle.std.specs.Prelude.{OnOk}
use Rattle.std.proofs.Math.Nat.{add-mul-mod_self_left, mod-add-div, mod-eq_of_lt}
use Rattle.std.proofs.lemmas.List.{length-drop, take-append-drop, take_all}
use Rattle.device_log.specs.Image.{SameBut, span}
use Rattle.device_log.specs.Calls.{Wrote}
use Rattle.device_log.proofs.Spans.{span_apart, span_more}
use Rattle.tape_base.specs.declared.geometries.Geometry.{Geometry}
use Rattle.tape_base.specs.Place.{block_of, slot_of}
use Rattle.logged_disk.specs.Device.{DeviceState as Device, Logs, seen as content_of}
use Rattle.logged_disk.proofs.Moments.{write_others, write_puts}
use Rattle.write_cursor.specs.Plan.{FitsInLap}

-- a place of the buffer is as far behind its cursor in blocks
pub rest_at : (g : Geometry) (cursor i filled : ℕ) → FitsInLap g cursor → filled ≤ g.agg → i < filled → block_of g (cursor + i) ≡ block_of g cursor + i
rest_at g cursor i filled fits few within =
    let n = g.content in
    let same = mod-add-div cursor n in
    let slot : slot_of g cursor + filled ≤ g.content = omega arith in
    let small : cursor % n + i < n = omega (arith, slot, within) in
    let e : (cursor + i) % n ≡ cursor % n + i =
    ap (λ x. x % n) (let f : cursor + i ≡ cursor % n + i + n * (cursor / n) = omega (arith, same) in f) ∙ add-mul-mod_self_left (cursor % n + i) n (cursor / n) ∙ mod-eq_of_lt small in
    omega (arith, e)

pub rest_is : (n : ℕ) (bytes : List ℕ) → take (length bytes - n * 512) (drop (n * 512) bytes) ≡ drop (512 * n) bytes
rest_is n bytes =
    let same : n * 512 ≡ 512 * n = omega arith in
    let few : length (drop (n * 512) bytes) ≤ length bytes - n * 512 = omega (arith, length-drop (n * 512) bytes) in
    take_all (length bytes - n * 512) (drop (n * 512) bytes) few ∙ ap (λ k. drop k bytes) same

pub left_blocks : (durable filled : ℕ) (bytes : List ℕ) → length bytes ≡ 512 * filled → length (drop (512 * durable) bytes) / 512 ≡ filled - durable
left_blocks durable filled bytes whole = omega (arith, length-drop (512 * durable) bytes, whole)

module _ {T E : Type 0} (result : Result T E) (old new : Device) (at durable filled : ℕ) (bytes : List ℕ) (whole : length bytes ≡ 512 * filled) (few : durable ≤ filled)
    (first : new.first ≡ old.first) (logs : Logs (Wrote (at + durable) (drop (512 * durable) bytes)) result old new) where
  size : length (drop (512 * durable) bytes) ≡ 512 * (filled - durable)
  size = omega (arith, length-drop (512 * durable) bytes, whole)

  blocks : length (drop (512 * durable) bytes) / 512 ≡ filled - durable
  blocks = omega (arith, size)

  others : SameBut (at + durable) (filled - durable) (content_of old) (content_of new)
  others = subst (λ n. SameBut (at + durable) n (content_of old) (content_of new)) blocks (write_others result old new (at + durable) (drop (512 * durable) bytes) first logs)

  -- the front stays
  stays : span (content_of new) at durable ≡ span (content_of old) at durable
  stays = span_apart (content_of old) (content_of new) at durable (at + durable) (filled - durable) others (λ j low high from to. omega (arith, high, from))

  -- with the rest behind it the whole buffer is there
  pub rest_puts : span (content_of old) at durable ≡ take (512 * durable) bytes → OnOk result (span (content_of new) at filled ≡ bytes)
  rest_puts front =
      let parts : durable + (filled - durable) ≡ filled = omega (arith, few) in
      let there : span (content_of new) (at + durable) (filled - durable) ≡ drop (512 * durable) bytes → span (content_of new) at filled ≡ bytes =
      λ rest.
      ap (span (content_of new) at) (sym parts)
      ∙ (span_more (content_of new) at durable (filled - durable)
      ∙ (ap (λ l. l ++ span (content_of new) (at + durable) (filled - durable)) (stays ∙ front)
      ∙ (ap (λ l. take (512 * durable) bytes ++ l) rest ∙ take-append-drop (512 * durable) bytes))) in
      elim result as (λ r. OnOk r (span (content_of new) (at + durable) (filled - durable) ≡ drop (512 * durable) bytes) → OnOk r (span (content_of new) at filled ≡ bytes)) [
        | Ok x ↦ λ rest. there rest
        | Err e ↦ λ none. tt
      ] (subst (λ n. OnOk result (span (content_of new) (at + durable) n ≡ drop (512 * durable) bytes)) blocks
      (write_puts result old new (at + durable) (drop (512 * durable) bytes) (omega (arith, size)) logs first))
