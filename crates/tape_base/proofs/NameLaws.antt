-- Names that pass the tests of `same_key` and `same_piece` are equal.
use Rattle.std.proofs.Common.{◌≡◌, length, refl, ap, true, ◌&&◌}
use Rattle.std.specs.Prelude.{◌==◌}
use Rattle.std.proofs.lemmas.Bool.{and_parts, eqb-true, eq-eqb}
use Rattle.tape_base.specs.declared.keys.Key.{Key}
use Rattle.tape_base.specs.declared.pieces.PieceId.{PieceId}
use Rattle.tape_base.specs.Key.{same_key, key_bytes}
use Rattle.tape_base.specs.Piece.{same_piece}

pub same_key-true : (a b : Key) → same_key a b ≡ true → a ≡ b
same_key-true a b h = ap (λ n. let key : Key = record { number = n } in key) (eqb-true a.number b.number h)

pub same_key-same : (a : Key) → same_key a a ≡ true
same_key-same a = eq-eqb a.number a.number refl

pub same_piece-true : (a b : PieceId) → same_piece a b ≡ true → a ≡ b
same_piece-true a b h =
    let outer = and_parts (same_key a.first b.first) (a.put == b.put && a.index == b.index) h in
    let inner = and_parts (a.put == b.put) (a.index == b.index) outer.1 in
    let first = same_key-true a.first b.first outer.0 in
    let put = eqb-true a.put b.put inner.0 in
    let index = eqb-true a.index b.index inner.1 in
    λ i. record { first = first i; put = put i; index = index i }

pub same_piece-same : (a : PieceId) → same_piece a a ≡ true
same_piece-same a = rw (same_key-same a.first, eq-eqb a.put a.put refl, eq-eqb a.index a.index refl) refl

pub length-key_bytes : (key : Key) → length (key_bytes key) ≡ 16
unfolding key_bytes
length-key_bytes key = refl
