-- Bytes that are the same as far as they are looked at have copies of one digest.
use Rattle.std.proofs.Common.{◌≡◌, ℕ, ◌+◌, ◌≤◌, List, ◌++◌, length, take, drop, sym, ◌∙◌, ap, arith, inl, inr}
use Rattle.std.specs.Int.{w64, to_le_bytes}
use Rattle.std.proofs.Math.Seq.{take-append-add}
use Rattle.std.proofs.lemmas.Bool.{cases_lt}
use Rattle.std.proofs.lemmas.List.{take-take}
use Rattle.tape_base.specs.Digest.{digest_of}
use Rattle.doc_header.specs.Document.{check_of}
use Rattle.doc_header.specs.Moving.{moved_fields, moved_to, MovedAlike}
use Rattle.doc_header.specs.Reading.{document_digest, extent_of, length_of, payload_of, slice_at}
use Rattle.doc_header.proofs.MovingLaws.{length-moved_header, moved_header, moves_keep_lem}
use Rattle.doc_header.proofs.Stands.{few_bytes, field_in_front, number_32_in_front}

-- a copy is recorded by its header and the payload
recorded : (place : ℕ) (bytes : List ℕ) → 128 ≤ length bytes → document_digest (moved_to place bytes) ≡ digest_of (moved_header place bytes ++ payload_of bytes)
unfolding moved_to slice_at
recorded place bytes long =
    let told : length_of (moved_to place bytes) ≡ length_of bytes = (moves_keep_lem place bytes long).told in
    let header = moved_header place bytes in
    let end : extent_of (moved_to place bytes) ≡ length header + length_of bytes = omega (arith, told, length-moved_header place bytes long) in
    ap digest_of (ap (λ n. take n (header ++ drop 128 bytes)) end ∙ take-append-add header (drop 128 bytes) (length_of bytes))

-- bytes of one header have one when they are moved
headers_alike : (place : ℕ) (one other : List ℕ) → take 128 one ≡ take 128 other → moved_header place one ≡ moved_header place other
unfolding moved_fields
headers_alike place one other front =
    let name : take 48 one ≡ take 48 other = sym (take-take 48 128 one (omega arith)) ∙ (ap (take 48) front ∙ take-take 48 128 other (omega arith)) in
    let behind : slice_at 56 56 one ≡ slice_at 56 56 other = field_in_front 128 56 56 72 one other (omega arith) (omega arith) front in
    ap (λ fields. fields ++ check_of fields) (ap (λ l. l ++ to_le_bytes w64 place ++ slice_at 56 56 one) name ∙ ap (λ l. take 48 other ++ to_le_bytes w64 place ++ l) behind)

payloads_alike : (one other : List ℕ) → length_of one ≡ length_of other → take (extent_of one) one ≡ take (extent_of other) other → payload_of one ≡ payload_of other
payloads_alike one other told same =
    let n = length_of one in
    let front : take (n + 128) one ≡ take (n + 128) other = same ∙ ap (λ k. take (k + 128) other) (sym told) in
    field_in_front (n + 128) 128 n n one other (omega arith) (omega arith) front ∙ ap (λ k. slice_at 128 k other) told

pub moved_alike_lem : MovedAlike
moved_alike_lem place one other as_many same =
    let front : take 128 one ≡ take 128 other =
    sym (take-take 128 (extent_of one) one (omega arith)) ∙ (ap (take 128) same ∙ take-take 128 (extent_of other) other (omega arith)) in
    let told : length_of one ≡ length_of other = number_32_in_front 128 12 116 one other (omega arith) (omega arith) front in
    elim (cases_lt (length one) 128) [
      | inl short ↦ ap (λ l. document_digest (moved_to place l)) (few_bytes one 128 (omega (arith, short)) ∙ (front ∙ sym (few_bytes other 128 (omega (arith, short, as_many)))))
      | inr long ↦
          recorded place one long
          ∙ (ap digest_of (ap (λ l. l ++ payload_of one) (headers_alike place one other front) ∙ ap (λ l. moved_header place other ++ l) (payloads_alike one other told same))
          ∙ sym (recorded place other (omega (arith, long, as_many))))
    ]
