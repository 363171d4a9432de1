-- What a contract sees of a `WordEye`.
use Rattle.std.specs.Prelude.{ℕ}
use Rattle.word_disk.specs.declared.eye.WordEye.{WordEye}

-- how many of its reads have failed
abbrev pub word_eye_missed : WordEye → ℕ
word_eye_missed eye = eye.faults
