-- A step that one call alone makes, and what covers the parts of a step.
use Rattle.std.proofs.Common.{◌≡◌, ℕ, ◌+◌, ◌-◌, true, false, List, [], ◌∷◌, ◌++◌, refl, sym, ◌∙◌, ap, subst, arith, inl, inr, length, take, append_assoc}
use Rattle.std.proofs.lemmas.List.{append_cancel_right, length-append}
use Rattle.std.proofs.Math.Seq.{take-append_seam}
use Rattle.std.specs.List.{AllByRecursion}
use Rattle.device_log.specs.Calls.{Call}
use Rattle.tape_base.specs.declared.geometries.Geometry.{Geometry}
use Rattle.tape_base.specs.Place.{block_of}
use Rattle.cache_model.specs.declared.record.Rec.{Rec}
use Rattle.cache_model.specs.State.{State}
use Rattle.cache_model.specs.Permit.{End, IsAmong, Permit}
use Rattle.cache_model.specs.Syncing.{DoesSync, Syncing}
use Rattle.cache_model.proofs.Steps.{all_parts}
use Rattle.piece_answers.specs.Covers.{Covers, calls_since}

-- ---- the calls between two moments

pub since_is : (before after made : List Call) → after ≡ made ++ before → calls_since before after ≡ made
since_is before after made is =
    let sum : length (made ++ before) ≡ length made + length before = length-append made before in
    let count : length (made ++ before) - length before ≡ length made = omega arith in
    ap (λ calls. take (length calls - length before) calls) is ∙ (ap (λ n. take n (made ++ before)) count ∙ take-append_seam made before)

-- these calls and no others were made
pub made_is : (before after made calls : List Call) → after ≡ calls ++ before → after ≡ made ++ before → made ≡ calls
made_is before after made calls there is = append_cancel_right made calls before (sym is ∙ there)

-- ---- a step of one call

among_more : (x : Call) (ys xs : List Call) → AllByRecursion (λ r. IsAmong r ys) xs → AllByRecursion (λ r. IsAmong r (x ∷ ys)) xs
among_more x ys [] all = tt
among_more x ys (r ∷ xs) all = (inr all.0, among_more x ys xs all.1)

all_own : (xs : List Call) → AllByRecursion (λ r. IsAmong r xs) xs
all_own [] = tt
all_own (x ∷ xs) = (inl refl, among_more x xs xs (all_own xs))

abbrev pub own_permit : (now : ℕ) (before after : List Call) → Permit
own_permit now before after = record { packed = false; syncs = false; now = now; past = []; events = calls_since before after }

pub own_covers : (now : ℕ) (before after : List Call) → Covers (own_permit now before after) before after
own_covers now before after = record {
  unsynced = refl;
  knows = λ made is. subst (λ calls. AllByRecursion (λ call. IsAmong call calls) made) (sym (since_is before after made is)) (all_own made);
}

-- ---- what covers the whole covers each part

pub covers_first : (p : Permit) (before mid after more : List Call) → after ≡ more ++ mid → Covers p before after → Covers p before mid
covers_first p before mid after more later c = record {
  unsynced = c.unsynced;
  knows = λ made is.
      let whole : after ≡ (more ++ made) ++ before = later ∙ (ap (λ calls. more ++ calls) is ∙ sym (append_assoc more made before)) in
      (all_parts (λ (call : Call). IsAmong call p.events) more made (c.knows (more ++ made) whole)).1;
}

pub covers_last : (p : Permit) (before mid after more : List Call) → mid ≡ more ++ before → Covers p before after → Covers p mid after
covers_last p before mid after more later c = record {
  unsynced = c.unsynced;
  knows = λ made is.
      let whole : after ≡ (made ++ more) ++ before = is ∙ (ap (λ calls. made ++ calls) later ∙ sym (append_assoc made more before)) in
      (all_parts (λ (call : Call). IsAmong call p.events) made more (c.knows (made ++ more) whole)).0;
}

-- ---- no sync

clash : (p : Permit) → p.syncs ≡ false → p.syncs ≡ true → ⊥
clash p off on = let never : false ≡ true = sym off ∙ on in cc

-- a stripe that does not sync makes no sync
pub never_syncs : {p : Permit} {k : Syncing} {s : State} {added : List Rec} {e : End} → p.syncs ≡ false → DoesSync p k s added e → ⊥
never_syncs {p} off (DoesSync.goes m) = clash p off m.can.may.syncs
never_syncs {p} off (DoesSync.stops count m) = clash p off m.can.may.syncs
never_syncs {p} off (DoesSync.empty m) = clash p off m.can.may.syncs
never_syncs {p} off (DoesSync.empty_stops count m) = clash p off m.can.may.syncs
never_syncs {p} off (DoesSync.stays count can first m) = clash p off can.may.syncs
never_syncs {p} off (DoesSync.exhausted may high is) = clash p off may.syncs
never_syncs {p} off (DoesSync.runs serial on quiet parts runs is) = clash p off on
