-- How far a file can be trusted: as long as each read gave what the log says.
use Rattle.std.proofs.Common.{◌≡◌, ℕ, ◌/◌, ◌≤◌, Bool, true, false, ◌&&◌, if◌then◌else◌, List, [], ◌∷◌, length, refl, sym, subst, ap, ◌∙◌, arith}
use Rattle.std.specs.Str.{bytes_eq}
use Rattle.std.specs.Cmp.Lexicographic.{same_text}
use Rattle.std.proofs.lemmas.Bool.{and_parts}
use Rattle.std.proofs.lemmas.Slice.Eq.{bytes_eq-Decides}
use Rattle.device_log.specs.Image.{Image, span}
use Rattle.device_log.specs.Calls.{Call, Read, Wrote, Synced, RefusedCall, Told, PowerCut, Flipped}
use Rattle.device_log.specs.Seen.{seen_of, ReadsAreSeen}

-- each read gave what was seen by the log
unfoldable pub agrees : Image → List Call → Bool
agrees first [] = true
agrees first (Read at bytes ∷ older) =
    bytes_eq bytes (span (seen_of first older) at (length bytes / 512)) && agrees first older
agrees first (Wrote at bytes ∷ older) = agrees first older
agrees first (Synced ∷ older) = agrees first older
agrees first (RefusedCall what count ∷ older) = agrees first older
agrees first (Told act ∷ older) = agrees first older
agrees first (PowerCut choice left ∷ older) = agrees first older
agrees first (Flipped at byte ∷ older) = agrees first older

-- 1 as long as its reads agree, and else 0
unfoldable pub file_trust : Image → List Call → ℕ
file_trust first past = if agrees first past then 1 else 0

-- what the test tells
reads_agree : (first : Image) (past : List Call) → agrees first past ≡ true → ReadsAreSeen first past
unfolding agrees ReadsAreSeen
reads_agree first [] is = tt
reads_agree first (Read at bytes ∷ older) is =
    let seen = span (seen_of first older) at (length bytes / 512) in
    let both = and_parts (bytes_eq bytes seen) (agrees first older) is in
    (same_text bytes seen (sym both.0), reads_agree first older both.1)
reads_agree first (Wrote at bytes ∷ older) is = reads_agree first older is
reads_agree first (Synced ∷ older) is = reads_agree first older is
reads_agree first (RefusedCall what count ∷ older) is = reads_agree first older is
reads_agree first (Told act ∷ older) is = reads_agree first older is
reads_agree first (PowerCut choice left ∷ older) is = reads_agree first older is
reads_agree first (Flipped at byte ∷ older) is = reads_agree first older is

some_trust : (a : Bool) → 1 ≤ (if a then 1 else 0) → a ≡ true
some_trust true some = refl
some_trust false some = absurd (omega (arith, some))

-- a file that is trusted gave by each read what was seen
pub trusted_reads : (first : Image) (past : List Call) → 1 ≤ file_trust first past
    → ReadsAreSeen first past
unfolding file_trust
trusted_reads first past trusted = reads_agree first past (some_trust (agrees first past) trusted)

-- what the test is told by
seen_agree : (first : Image) (past : List Call) → ReadsAreSeen first past → agrees first past ≡ true
unfolding agrees ReadsAreSeen
seen_agree first [] seen = refl
seen_agree first (Read at bytes ∷ older) seen =
    let same = (bytes_eq-Decides bytes (span (seen_of first older) at (length bytes / 512))).1 seen.0 in
    ap (λ b. b && agrees first older) same ∙ seen_agree first older seen.1
seen_agree first (Wrote at bytes ∷ older) seen = seen_agree first older seen
seen_agree first (Synced ∷ older) seen = seen_agree first older seen
seen_agree first (RefusedCall what count ∷ older) seen = seen_agree first older seen
seen_agree first (Told act ∷ older) seen = seen_agree first older seen
seen_agree first (PowerCut choice left ∷ older) seen = seen_agree first older seen
seen_agree first (Flipped at byte ∷ older) seen = seen_agree first older seen

-- a file that gave by each read what was seen is trusted
pub seen_is_trusted : (first : Image) (past : List Call) → ReadsAreSeen first past → 1 ≤ file_trust first past
unfolding file_trust
seen_is_trusted first past seen =
    subst (λ (b : Bool). 1 ≤ (if b then 1 else 0)) (sym (seen_agree first past seen)) (omega arith)

one_at_most : (a : Bool) → 2 ≤ (if a then 1 else 0) → ⊥
one_at_most true two = omega (arith, two)
one_at_most false two = omega (arith, two)

-- no file is honest
pub none_is_honest : (first : Image) (past : List Call) (P : Type 0) → 2 ≤ file_trust first past → P
unfolding file_trust
none_is_honest first past P two = absurd (one_at_most (agrees first past) two)
