-- What a window shows once more was read.
use Rattle.std.proofs.Common.{◌≡◌, ℕ, ◌+◌, ◌*◌, ◌/◌, ◌≤◌, max, List, length, take, drop, Result, Ok, Err, ap, subst, ◌∙◌, arith}
use Rattle.std.specs.Prelude.{OnOk}
use Rattle.device_log.specs.Image.{Image, span}
use Rattle.logged_disk.specs.Device.{DeviceState as Device}
use Rattle.device_reads.specs.declared.reads.ReadFault.{ReadFault}
use Rattle.device_reads.specs.Reads.{Fails, Reads}
use Rattle.device_reads.proofs.Telling.{fails_as, fails_then, reads_as, reads_none, reads_then}
use Rattle.device_opening.specs.declared.window.Window.{Window}
use Rattle.device_opening.specs.Tape.{Shows, end_of_window}
use Rattle.device_opening.proofs.Windows.{span_behind}

pub tail_read : (r : Result (Unit {0}) ReadFault) (s t : Device) (at n m kept other : ℕ) (new all : List ℕ) → n ≡ m → kept ≡ other → new ≡ all
    → OnOk r (Reads at (at + n) 1 s t (λ c. drop kept new ≡ span c at n)) → OnOk r (Reads at (at + m) 1 s t (λ c. drop other all ≡ span c at m))
tail_read r s t at n m kept other new all count front whole reads =
    subst (λ (k : ℕ). OnOk r (Reads at (at + k) 1 s t (λ c. drop other all ≡ span c at k))) count
    (subst (λ (k : ℕ). OnOk r (Reads at (at + n) 1 s t (λ c. drop k all ≡ span c at n))) front
    (subst (λ (l : List ℕ). OnOk r (Reads at (at + n) 1 s t (λ c. drop kept l ≡ span c at n))) whole reads))

pub shows_on : (r : Result (Unit {0}) ReadFault) (s t : Device) (first n at blocks to : ℕ) (old new : List ℕ) → length old ≡ 512 * n → at ≡ first + n → at + blocks ≡ to
    → OnOk r (length new ≡ length old + 512 * blocks) → OnOk r (take (length old) new ≡ old)
    → OnOk r (Reads at (at + blocks) 1 s t (λ c. drop (length old) new ≡ span c at blocks))
    → OnOk r (Reads (first + n) to 1 s t (λ c. old ≡ span c first n → new ≡ span c first (length new / 512)))
shows_on (Err e) s t first n at blocks to old new long here end more front reads = tt
shows_on (Ok x) s t first n at blocks to old new long here end more front reads =
    let all : n + blocks ≡ length new / 512 = omega (arith, more, long) in
    subst (λ (k : ℕ). Reads k to 1 s t (λ c. old ≡ span c first n → new ≡ span c first (length new / 512))) here
    (reads_as at (at + blocks) to 1 1 s t (λ c. drop (length old) new ≡ span c at blocks) (λ c. old ≡ span c first n → new ≡ span c first (length new / 512))
    (omega (arith, end)) (omega arith)
    (λ c image told was.
    span_behind c image.whole first n blocks old new was front (told ∙ ap (λ k. span c k blocks) here) ∙ ap (span c first) all)
    reads)

-- nothing was read
pub none_read : (s : Device) (w : Window) → Reads (end_of_window w) (end_of_window w) 1 s s (λ c. Shows w c → Shows w c)
none_read s w = reads_none (end_of_window w) (end_of_window w) 1 s (λ c. Shows w c → Shows w c) (omega arith) (λ c image shows. shows)

-- blocks were let go, and more were read
module _ (s t : Device) (one two three : Window) (at : ℕ) (end : end_of_window two ≡ max (end_of_window one) at) where
  pub front_none : Reads (end_of_window one) (end_of_window two) 0 s s (λ c. Unit {0})
  front_none = reads_none (end_of_window one) (end_of_window two) 0 s (λ c. Unit {0}) (omega (arith, end)) (λ c image. tt)

  pub shows_through : (r : Result (Unit {0}) ReadFault) → ((c : Image) → ((j : ℕ) → length (c j) ≡ 512) → Shows one c → Shows two c)
      → (to : ℕ) → OnOk r (end_of_window three ≡ to) → OnOk r (Reads (end_of_window two) to 1 s t (λ c. Shows two c → Shows three c))
      → OnOk r (Reads (end_of_window one) (end_of_window three) 1 s t (λ c. Shows one c → Shows three c))
  shows_through (Err e) first to top reads = tt
  shows_through (Ok x) first to top reads =
      let B : Image → Type 0 = λ c. Shows two c → Shows three c in
      reads_as (end_of_window one) to (end_of_window three) (0 + 1) 1 s t (λ c. Unit {0} × B c) (λ c. Shows one c → Shows three c) (omega (arith, top)) (omega arith)
      (λ c image told shows. told.1 (first c image.whole shows))
      (reads_then (end_of_window one) (end_of_window two) to 0 1 s s t (λ c. Unit {0}) B front_none reads)

  pub fails_through : (e : ReadFault) (to limit : ℕ) → to ≤ limit → Fails (end_of_window two) to 1 s t e → Fails (end_of_window one) limit 1 s t e
  fails_through e to limit within fails =
      fails_as (end_of_window one) to limit (0 + 1) 1 s t e within (omega arith)
      (fails_then (end_of_window one) (end_of_window two) to 0 1 s s t (λ c. Unit {0}) e front_none fails)
