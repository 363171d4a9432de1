-- Which lines need a session, and which device a format asks for.
use Rattle.std.specs.Prelude.{ℕ, ◌≡◌, List, None, ⊤}
use Rattle.tape_base.specs.Limits.{first_refusal}
use Rattle.tape_base.specs.Place.{device_blocks}
use Rattle.script_grammar.specs.declared.step.Step.{Step}
use Rattle.script_grammar.specs.declared.step.Step.TheVariants as step

-- a line that works on a session, or on a bare device
abbrev pub NeedsSession : Step → Type 0
NeedsSession (step.Format name segments buckets content agg reach fragment generation alternates) = ⊥
NeedsSession (step.Now moment) = ⊥
NeedsSession _ = ⊤

-- the device that an accepted format attaches has the name of its line
abbrev pub AttachesAs : List ℕ → Step → Type 0
AttachesAs name (step.Format other segments buckets content agg reach fragment generation alternates) =
    (name ≡ other) × (first_refusal segments buckets content agg reach fragment alternates ≡ None)
AttachesAs name _ = ⊥

-- and so many blocks are asked of it: those of a stripe of its numbers
abbrev pub AttachesWith : (name : List ℕ) (blocks : ℕ) → Step → Type 0
AttachesWith name blocks (step.Format other segments buckets content agg reach fragment generation alternates) =
    (name ≡ other) × (blocks ≡ device_blocks segments buckets content) × (first_refusal segments buckets content agg reach fragment alternates ≡ None)
AttachesWith name blocks _ = ⊥
