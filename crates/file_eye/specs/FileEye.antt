-- What a contract sees of a `FileEye`.
use Rattle.std.specs.Prelude.{ℕ}
use Rattle.file_eye.specs.declared.eye.FileEye.{FileEye}

-- how many of its reads have failed
abbrev pub file_eye_missed : FileEye → ℕ
file_eye_missed eye = eye.faults
