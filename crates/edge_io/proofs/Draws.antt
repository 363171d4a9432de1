-- What one read, and more of them, make of a source.
use Rattle.std.proofs.Common.{◌≡◌, ℕ, ◌<◌, ◌==◌, Bool, true, false, cond, List, [], ◌∷◌, ◌++◌, length, take, Option, None, Some, Result, Ok, Err, refl, sym, ◌∙◌, ap, append_assoc, arith, length-append}
use Rattle.std.specs.Prelude.{◌||◌}
use Rattle.std.proofs.lemmas.Bool.{eqb-true, ne_eqb}
use Rattle.std.specs.Io.KnownBytes.{Consumes, IsAtEnd, Keeps, ReadConsumes}
use Rattle.device_log.specs.Faults.{next_count}
use Rattle.device_log.specs.Streams.{SourceRead, GaveBytes, CameToEnd, RefusedRead, given_by, has_ended, refused_reads, read_faults}
use Rattle.device_log.proofs.StreamLaws.{given_more, ended_more}
use Rattle.edge_io.specs.Source.{Draws, LeavesOver, NotesRead, ReadsSource, ReadsOnce, gave}

-- ---- what is left

pub leaves_nothing : (left : Option (List ℕ)) → LeavesOver left [] left
unfolding given_by has_ended
leaves_nothing None = tt
leaves_nothing (Some bytes) = (refl, λ ended. absurd cc)

none_behind : (xs ys : List ℕ) → xs ++ ys ≡ [] → ys ≡ []
none_behind [] ys none = none
none_behind (x ∷ xs) ys none = absurd cc

either_ended : (newer older : Bool) (bytes : List ℕ) → (newer || older) ≡ true → (newer ≡ true → bytes ≡ []) → (older ≡ true → bytes ≡ []) → bytes ≡ []
either_ended true older bytes ended first second = first refl
either_ended false older bytes ended first second = second ended

pub leaves_more : (a b c : Option (List ℕ)) (newer older : List SourceRead) → LeavesOver a older b → LeavesOver b newer c → LeavesOver a (newer ++ older) c
leaves_more None b c newer older first second = tt
leaves_more (Some x) None c newer older first second = absurd first
leaves_more (Some x) (Some y) None newer older first second = absurd second
leaves_more (Some x) (Some y) (Some z) newer older first second = (
  first.0 ∙ (ap (λ l. given_by older ++ l) second.0 ∙ (sym (append_assoc (given_by older) (given_by newer) z) ∙ ap (λ l. l ++ z) (sym (given_more newer older)))),
  λ ended. either_ended (has_ended newer) (has_ended older) z (sym (ended_more newer older) ∙ ended) second.1 (λ before. none_behind (given_by newer) z (sym second.0 ∙ first.1 before)),
)

-- ---- one read

take_none : (place : List ℕ) (n : ℕ) → n ≡ 0 → take n place ≡ []
take_none place n none = ap (λ k. take k place) none

gave_leaves : (before now : List ℕ) (n : ℕ) (bytes : List ℕ) (b : Bool) → (n == 0) ≡ b → (n ≡ 0 → bytes ≡ []) → before ≡ bytes ++ now → (n ≡ 0 → now ≡ []) → LeavesOver (Some before) (cond b CameToEnd (GaveBytes bytes) ∷ []) (Some now)
unfolding given_by has_ended
gave_leaves before now n bytes true e none split end = (split ∙ ap (λ l. l ++ now) (none (eqb-true n 0 e)), λ ended. end (eqb-true n 0 e))
gave_leaves before now n bytes false e none split end = (split, λ ended. absurd cc)

read_leaves : (a b : Option (List ℕ)) (n : ℕ) (place : List ℕ) → 0 < length place → Consumes a b (take n place) → (n ≡ 0 → 0 < length place → IsAtEnd b) → LeavesOver a (gave n (take n place) ∷ []) b
read_leaves None b n place some took end = tt
read_leaves (Some x) None n place some took end = absurd took
read_leaves (Some x) (Some y) n place some took end = gave_leaves x y n (take n place) (n == 0) refl (take_none place n) took (λ none. end none some)

refused_leaves : (a b : Option (List ℕ)) (count : ℕ) → Keeps a b → LeavesOver a (RefusedRead count ∷ []) b
unfolding given_by has_ended
refused_leaves None b count same = tt
refused_leaves (Some x) None count same = absurd same
refused_leaves (Some x) (Some y) count same = (sym same, λ ended. absurd cc)

-- one read into a place that is not empty
pub reads_once : {S E : Type 0} (reads : S → List SourceRead) (left : S → Option (List ℕ)) (old new : S) (place : List ℕ) (bytes : ℕ → List ℕ) (r : Result ℕ E) → 0 < length place → ((n : ℕ) → bytes n ≡ take n place)
    → NotesRead (reads old) (reads new) r place → ReadConsumes (left old) (left new) r place → ReadsOnce reads left bytes old new r
reads_once reads left old new (p ∷ place) bytes (Ok n) some same notes takes =
    rw (same n) (record { grew = notes; leaves = read_leaves (left old) (left new) n (p ∷ place) some takes.0 takes.1 })
reads_once reads left old new [] bytes (Ok n) some same notes takes = absurd (omega arith)
reads_once reads left old new place bytes (Err e) some same notes takes =
    record { grew = notes; leaves = refused_leaves (left old) (left new) (next_count (read_faults (reads old))) takes }

pub gave_some : (n : ℕ) (bytes : List ℕ) → 0 < n → gave n bytes ≡ GaveBytes bytes
gave_some n bytes some = ap (λ b. cond b CameToEnd (GaveBytes bytes)) (ne_eqb n 0 (λ none. absurd (omega arith)))

-- no read that gave something failed
pub gave_unfailed : (n : ℕ) (bytes : List ℕ) (old : List SourceRead) → refused_reads (gave n bytes ∷ old) ≡ refused_reads old
unfolding refused_reads
gave_unfailed n bytes old = elim (n == 0) as (λ b. refused_reads (cond b CameToEnd (GaveBytes bytes) ∷ old) ≡ refused_reads old) [ true ↦ refl | false ↦ refl ]

pub failed_count : (old : List SourceRead) (count : ℕ) → read_faults (RefusedRead count ∷ old) ≡ next_count (read_faults old)
unfolding refused_reads
failed_count old count = omega (arith, length-append (refused_reads old) (count ∷ []))

-- ---- a source

module _ {S : Type 0} (reads : S → List SourceRead) (left : S → Option (List ℕ)) where
  abbrev pub draws_nothing : (s : S) → Draws reads left s s
  draws_nothing s = record { more = []; grew = refl; leaves = leaves_nothing (left s) }

  abbrev pub draws_one : (read : SourceRead) (old new : S) → ReadsSource reads left read old new → Draws reads left old new
  draws_one read old new once = record { more = read ∷ []; grew = once.grew; leaves = once.leaves }

  abbrev pub draws_more : (a b c : S) → Draws reads left a b → Draws reads left b c → Draws reads left a c
  draws_more a b c first second = record {
    more = second.more ++ first.more;
    grew = second.grew ∙ (ap (λ l. second.more ++ l) first.grew ∙ sym (append_assoc second.more first.more (reads a)));
    leaves = leaves_more (left a) (left b) (left c) second.more first.more first.leaves second.leaves;
  }
