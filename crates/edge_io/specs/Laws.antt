-- Laws of texts and of their lines.
use Rattle.std.specs.Prelude.{◌≡◌, ℕ, Bool, true, not, ◌&&◌, List, [], ◌∷◌, ◌++◌}
use Rattle.device_log.specs.Streams.{SourceRead, GaveBytes, CameToEnd, RefusedRead, given_by, has_ended}
use Rattle.edge_io.specs.Lines.{AreLines, lines_of}
use Rattle.edge_io.specs.Text.{spelled, text_read}

-- no read gave bytes behind the end
unfoldable pub ends_last : List SourceRead → Bool
ends_last [] = true
ends_last (GaveBytes bytes ∷ older) = not (has_ended older) && ends_last older
ends_last (CameToEnd ∷ older) = ends_last older
ends_last (RefusedRead count ∷ older) = ends_last older

-- lines that are spelled are the first lines of the text, whatever stands behind them
abbrev pub SpelledAreLines : Type 0
SpelledAreLines = (lines : List (List ℕ)) (held : List ℕ) → AreLines lines
    → lines_of (spelled lines ++ held) ≡ lines ++ lines_of held

-- the text has the lines of the bytes that were given, where none were given behind the end
abbrev pub TextIsGiven : Type 0
TextIsGiven = (reads : List SourceRead) → ends_last reads ≡ true
    → lines_of (text_read reads) ≡ lines_of (given_by reads)
