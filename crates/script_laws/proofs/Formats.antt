-- The records of a format are fixed by the numbers of its line.
use Rattle.std.proofs.Common.{◌≡◌, ℕ, List, [], ◌∷◌, Bool, true, false, sym, ◌∙◌, ap, subst}
use Rattle.std.specs.Prelude.{Option, Some, None}
use Rattle.std.specs.List.{AllByRecursion}
use Rattle.std.proofs.Props.{props}
use Rattle.tape_base.specs.declared.geometries.Geometry.{Geometry}
use Rattle.tape_base.specs.Geometry.{HasNumbers}
use Rattle.tape_base.specs.Limits.{IsGeometry, MayKeep}
use Rattle.cache_model.specs.declared.record.Rec.{Rec}
use Rattle.cache_model.specs.Legal.{format_records}
use Rattle.cache_model.specs.declared.record.Rec.TheVariants as rec
use Rattle.cache_model.specs.Permit.{Faulted, Reason}
use Rattle.cache_model.proofs.Found.{no_truth}
use Rattle.script_run.specs.Takes.{FormatsOn}
use Rattle.script_run.specs.Turn.{Turn}

-- the numbers of a geometry, in the order of its line
abbrev Numbers : Type 0
Numbers = ℕ × ℕ × ℕ × ℕ × ℕ × ℕ × ℕ × ℕ

abbrev AreAccepted : Numbers → Type 0
AreAccepted n = IsGeometry n.0 n.1 n.2 n.3 n.4 n.5 × MayKeep n.7

AreAccepted-prop : (n : Numbers) → IsProp (AreAccepted n)
AreAccepted-prop n = hlevel props

abbrev numbers_of : Geometry → Numbers
numbers_of g = (g.segments, g.buckets, g.content, g.agg, g.reach, g.fragment, g.generation, g.alternates)

abbrev with_numbers : (n : Numbers) → AreAccepted n → Geometry
with_numbers n accepted = record { segments = n.0; buckets = n.1; content = n.2; agg = n.3; reach = n.4; fragment = n.5; generation = n.6; alternates = n.7; accepted = accepted.0; keeps = accepted.1 }

same_geometry : (g h : Geometry) → numbers_of g ≡ numbers_of h → g ≡ h
same_geometry g h same =
    subst (λ (n : Numbers). (accepted : AreAccepted n) → g ≡ with_numbers n accepted) same
    (λ accepted. ap (with_numbers (numbers_of g)) (AreAccepted-prop (numbers_of g) (g.accepted, g.keeps) accepted)) (h.accepted, h.keeps)

numbered : (g : Geometry) (segments buckets content agg reach fragment generation alternates : ℕ) → HasNumbers g segments buckets content agg reach fragment generation alternates
    → numbers_of g ≡ (segments, buckets, content, agg, reach, fragment, generation, alternates)
numbered g segments buckets content agg reach fragment generation alternates h =
    λ i. (h.has_segments i, h.has_buckets i, h.has_content i, h.has_agg i, h.has_reach i, h.has_fragment i, h.has_generation i, h.has_alternates i)

pub same_numbers : (g h : Geometry) (segments buckets content agg reach fragment generation alternates : ℕ) → HasNumbers g segments buckets content agg reach fragment generation alternates
    → HasNumbers h segments buckets content agg reach fragment generation alternates → g ≡ h
same_numbers g h segments buckets content agg reach fragment generation alternates x y =
    same_geometry g h (numbered g segments buckets content agg reach fragment generation alternates x ∙ sym (numbered h segments buckets content agg reach fragment generation alternates y))

-- a format that recorded no refused call began a session
pub untroubled_format : (is_trouble : Rec → Bool) → ((count : ℕ) → is_trouble (rec.Fault count) ≡ true) → (turn : Turn) (g : Geometry) (o : Option Reason) → turn.refused ≡ o → FormatsOn turn g o
    → AllByRecursion (λ r. is_trouble r ≡ false) turn.added → (turn.refused ≡ None) × (turn.added ≡ format_records g)
untroubled_format is_trouble tells turn g None e takes quiet = (e, takes.0)
untroubled_format is_trouble tells turn g (Some (Faulted count)) e takes quiet =
    no_truth (sym (tells count) ∙ (subst (AllByRecursion (λ r. is_trouble r ≡ false)) takes.0 quiet).0)
untroubled_format is_trouble tells turn g (Some _) e takes quiet = absurd takes
