-- No piece that is kept is another one, and no two are vectors of one object.
use Rattle.std.proofs.Common.{◌≡◌, Bool, true, false, List, [], ◌∷◌, map, refl, ap, subst, ◌∙◌, arith}
use Rattle.std.specs.Prelude.{◌&&◌, if◌then◌else◌, All, AllPairs}
use Rattle.std.specs.List.{list_any}
use Rattle.std.proofs.lemmas.Bool.{false_from_ne_true, or_from, or_parts}
use Rattle.std.proofs.lemmas.List.Elements.{All-nil, All-cons}
use Rattle.std.proofs.lemmas.List.Kept.{AllPairs-cons}
use Rattle.tape_base.specs.declared.keys.Key.{Key}
use Rattle.tape_base.specs.declared.pieces.PieceId.{PieceId}
use Rattle.tape_base.specs.Key.{same_key}
use Rattle.tape_base.specs.Piece.{is_vector, same_piece}
use Rattle.tape_base.proofs.NameLaws.{same_key-true, same_key-same, same_piece-true, same_piece-same}
use Rattle.cache_model.specs.declared.findings.FoundRow.{FoundRow}
use Rattle.cache_model.specs.State.{row_of_found}
use Rattle.cache_model.specs.Tape.{AreApart, NotAmong}
use Rattle.cache_model.specs.Openings.{AreOfTwoKeys}
use Rattle.reopening.specs.declared.later.Measure.{Measure}
use Rattle.reopening.specs.Later.{has_lengths, kept_rows, latest, measure_of, replaces, with_lengths}
use Rattle.reopening.specs.Kept.{AreAlone}

-- ---- those behind a piece that are kept do not replace it

module _ (test : FoundRow → Bool) where
  none_by : (b : Bool) (x : FoundRow) (rest : List FoundRow) → test x ≡ false → list_any test rest ≡ false → list_any test (if b then x ∷ rest else rest) ≡ false
  none_by true x rest here none = or_from (test x) (list_any test rest) here none
  none_by false x rest here none = none

  none_but : (b : Bool) (x : FoundRow) (rest : List FoundRow) → test x ≡ false → list_any test rest ≡ false → list_any test (if b then rest else x ∷ rest) ≡ false
  none_but true x rest here none = none
  none_but false x rest here none = or_from (test x) (list_any test rest) here none

  none_latest : (all : List FoundRow) → list_any test all ≡ false → list_any test (latest all) ≡ false
  unfolding latest
  none_latest [] none = refl
  none_latest (x ∷ later) none =
      let e = or_parts (test x) (list_any test later) none in
      none_but (list_any (λ y. replaces y.id x.id) later) x (latest later) e.0 (none_latest later e.1)

  none_kept : (measures : List Measure) (all : List FoundRow) → list_any test all ≡ false → list_any test (with_lengths measures all) ≡ false
  unfolding with_lengths
  none_kept measures [] none = refl
  none_kept measures (x ∷ all) none =
      let e = or_parts (test x) (list_any test all) none in
      none_by (has_lengths measures x) x (with_lengths measures all) e.0 (none_kept measures all e.1)

alone_but : (b : Bool) (x : FoundRow) (rest : List FoundRow) → (b ≡ false → list_any (λ y. replaces y.id x.id) rest ≡ false) → AreAlone rest
    → AreAlone (if b then rest else x ∷ rest)
alone_but true x rest here alone = alone
alone_but false x rest here alone = (here refl, alone)

alone_by : (b : Bool) (x : FoundRow) (rest : List FoundRow) → list_any (λ y. replaces y.id x.id) rest ≡ false → AreAlone rest → AreAlone (if b then x ∷ rest else rest)
alone_by true x rest here alone = (here, alone)
alone_by false x rest here alone = alone

pub latest_alone : (all : List FoundRow) → AreAlone (latest all)
unfolding latest
latest_alone [] = tt
latest_alone (x ∷ later) =
    alone_but (list_any (λ y. replaces y.id x.id) later) x (latest later) (none_latest (λ y. replaces y.id x.id) later) (latest_alone later)

alone_kept : (measures : List Measure) (all : List FoundRow) → AreAlone all → AreAlone (with_lengths measures all)
unfolding with_lengths
alone_kept measures [] alone = tt
alone_kept measures (x ∷ rest) alone =
    alone_by (has_lengths measures x) x (with_lengths measures rest) (none_kept (λ y. replaces y.id x.id) measures rest alone.0) (alone_kept measures rest alone.1)

-- none that is kept replaces another
pub kept_alone : (all : List FoundRow) → AreAlone (kept_rows all)
kept_alone all = alone_kept (map measure_of (latest all)) (latest all) (latest_alone all)

-- ---- so they are apart

pub key_back : (a b : Key) → same_key b a ≡ false → same_key a b ≡ false
key_back a b h = false_from_ne_true (same_key a b) (λ e.
    let same : same_key b a ≡ true = ap (same_key b) (same_key-true a b e) ∙ same_key-same b in
    not_both (same_key b a) same h) where
      not_both : (t : Bool) → t ≡ true → t ≡ false → ⊥
      not_both true p q = absurd cc
      not_both false p q = absurd cc

pub piece_back : (a b : PieceId) → same_piece b a ≡ false → same_piece a b ≡ false
piece_back a b h = false_from_ne_true (same_piece a b) (λ e.
    let same : same_piece b a ≡ true = ap (same_piece b) (same_piece-true a b e) ∙ same_piece-same b in
    not_both (same_piece b a) same h) where
      not_both : (t : Bool) → t ≡ true → t ≡ false → ⊥
      not_both true p q = absurd cc
      not_both false p q = absurd cc

two_keys : (later id : PieceId) → (is_vector later && (is_vector id && same_key later.first id.first)) ≡ false
    → is_vector id ≡ true → is_vector later ≡ true → same_key id.first later.first ≡ false
two_keys later id h one other =
    let e : (true && (true && same_key later.first id.first)) ≡ false =
    subst (λ b. (true && (b && same_key later.first id.first)) ≡ false) one (subst (λ b. (b && (is_vector id && same_key later.first id.first)) ≡ false) other h) in
    key_back id.first later.first e

module _ (x : FoundRow) where
  not_among : (later : List FoundRow) → list_any (λ y. replaces y.id x.id) later ≡ false → NotAmong x.id (map row_of_found later)
  not_among [] none = tt
  not_among (y ∷ later) none =
      let e = or_parts (replaces y.id x.id) (list_any (λ z. replaces z.id x.id) later) none in
      let f = or_parts (same_piece y.id x.id) (is_vector y.id && (is_vector x.id && same_key y.id.first x.id.first)) e.0 in
      (piece_back x.id y.id f.0, not_among later e.1)

  other_keys : (later : List FoundRow) → list_any (λ y. replaces y.id x.id) later ≡ false → All (AreOfTwoKeys (row_of_found x)) (map row_of_found later)
  other_keys [] none = All-nil (AreOfTwoKeys (row_of_found x))
  other_keys (y ∷ later) none =
      let e = or_parts (replaces y.id x.id) (list_any (λ z. replaces z.id x.id) later) none in
      let f = or_parts (same_piece y.id x.id) (is_vector y.id && (is_vector x.id && same_key y.id.first x.id.first)) e.0 in
      All-cons (AreOfTwoKeys (row_of_found x)) (row_of_found y) (map row_of_found later) (two_keys y.id x.id f.1) (other_keys later e.1)

pub apart : (all : List FoundRow) → AreAlone all → AreApart (map row_of_found all)
apart [] alone = tt
apart (x ∷ later) alone = (not_among x later alone.0, apart later alone.1)

no_pairs : AllPairs AreOfTwoKeys []
no_pairs i j d less within = absurd (omega arith)

pub of_two_keys : (all : List FoundRow) → AreAlone all → AllPairs AreOfTwoKeys (map row_of_found all)
of_two_keys [] alone = no_pairs
of_two_keys (x ∷ later) alone =
    AllPairs-cons AreOfTwoKeys (row_of_found x) (map row_of_found later) (other_keys x later alone.0) (of_two_keys later alone.1)
