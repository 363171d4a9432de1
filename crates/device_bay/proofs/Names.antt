-- Names that are kept have a colon before any slash.
use Rattle.std.proofs.Common.{◌≡◌, ℕ, true, List, codes, refl, ap}
use Rattle.std.proofs.lemmas.Slice.Eq.{starts_is}
use Rattle.std.proofs.lemmas.Bool.Decides.{Decides-eqb}
use Rattle.device_bay.specs.Bay.{has_kind, is_word_name}

pub word_has_kind : (name : List ℕ) → is_word_name name ≡ true → has_kind name ≡ true
word_has_kind name is = ap has_kind ((starts_is Decides-eqb name (codes "word:") (is_word_name name) refl).0 is)
