-- What is left of lines that are joined.
use Rattle.std.specs.Prelude.{ℕ, Bool, true, false, List, ◌∷◌, ◌++◌}
use Rattle.std.specs.List.{flat_map}
use Rattle.alternate_vector.specs.declared.fields.Line.{Line}
use Rattle.alternate_vector.specs.Lines.{fields_of}
use Rattle.alternate_vector.specs.Vary.{following, trimmed, values_of}

-- the first value, and those that follow it
abbrev pub joined_text : Line → List Line → List ℕ
joined_text first lines = trimmed first.value.bytes ++ flat_map following (values_of (fields_of lines))

-- the blank behind a comma, where it is due, the rest of a value, and the lines that follow
abbrev pub joined_rest : Bool → List ℕ → List Line → List ℕ
joined_rest true value lines = 32 ∷ (value ++ flat_map following (values_of (fields_of lines)))
joined_rest false value lines = value ++ flat_map following (values_of (fields_of lines))
