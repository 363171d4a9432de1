-- The text that the reads of a source make, and its lines.
use Rattle.std.specs.Prelude.{ℕ, ◌==◌, if◌then◌else◌, List, [], ◌∷◌, ◌++◌}
use Rattle.device_log.specs.Streams.{SourceRead, GaveBytes, CameToEnd, RefusedRead}

-- each line, and a newline behind it
abbrev pub spelled : List (List ℕ) → List ℕ
spelled [] = []
spelled (line ∷ lines) = line ++ 10 ∷ spelled lines

-- the same bytes, with a newline behind them where the last line has none
abbrev pub closed : List ℕ → List ℕ
closed [] = []
closed (x ∷ []) = if x == 10 then x ∷ [] else x ∷ 10 ∷ []
closed (x ∷ y ∷ bytes) = x ∷ closed (y ∷ bytes)

-- The bytes behind these reads, where these were there before: what was given, in order. The end
-- closes the line that stands before it.
abbrev pub text_after : List ℕ → List SourceRead → List ℕ
text_after before [] = before
text_after before (GaveBytes bytes ∷ older) = text_after before older ++ bytes
text_after before (CameToEnd ∷ older) = closed (text_after before older)
text_after before (RefusedRead count ∷ older) = text_after before older

-- the text of the reads
abbrev pub text_read : List SourceRead → List ℕ
text_read reads = text_after [] reads
