-- Trust in a file falls with the first read that does not agree.
use Rattle.std.proofs.Common.{◌≡◌, ℕ, ◌/◌, ◌≤◌, Bool, true, false, ◌&&◌, if◌then◌else◌, List, [], ◌∷◌, length, sym, subst, arith}
use Rattle.std.specs.Str.{bytes_eq}
use Rattle.device_log.specs.Image.{Image, span}
use Rattle.device_log.specs.Calls.{Call, Read, Wrote, Synced, RefusedCall, Told, PowerCut, Flipped}
use Rattle.device_log.specs.Seen.{seen_of, ReadsAreSeen}
use Rattle.logged_disk.specs.FileTrust.{agrees, file_trust, trusted_reads}

least_of : (a b : Bool) → (if a && b then 1 else 0) ≤ (if b then 1 else 0)
least_of true b = omega arith
least_of false true = omega arith
least_of false false = omega arith

-- one more call adds no trust
falls : (first : Image) (call : Call) (older : List Call) → file_trust first (call ∷ older) ≤ file_trust first older
unfolding file_trust agrees
falls first (Read at bytes) older = least_of (bytes_eq bytes (span (seen_of first older) at (length bytes / 512))) (agrees first older)
falls first (Wrote at bytes) older = omega arith
falls first Synced older = omega arith
falls first (RefusedCall what count) older = omega arith
falls first (Told act) older = omega arith
falls first (PowerCut choice left) older = omega arith
falls first (Flipped at byte) older = omega arith

pub file_trust_falls : (first : Image) (call : Call) (old new : List Call) → new ≡ call ∷ old → file_trust first new ≤ file_trust first old
file_trust_falls first call old new is = subst (λ p. file_trust first p ≤ file_trust first old) (sym is) (falls first call old)

-- a read that is trusted gave what is seen
pub trusted_read : (first : Image) (at : ℕ) (bytes : List ℕ) (old new : List Call) → new ≡ Read at bytes ∷ old → 1 ≤ file_trust first new
    → bytes ≡ span (seen_of first old) at (length bytes / 512)
unfolding ReadsAreSeen
trusted_read first at bytes old new is trusted = (subst (λ p. ReadsAreSeen first p) is (trusted_reads first new trusted)).0

pub trusted_at_first : (first : Image) (past : List Call) → past ≡ [] → 1 ≤ file_trust first past
unfolding file_trust agrees
trusted_at_first first past none = subst (λ p. 1 ≤ file_trust first p) (sym none) (omega arith)
