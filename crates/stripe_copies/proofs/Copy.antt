-- The bytes of the first copy around the image of its directory.
use Rattle.std.proofs.Common.{◌≡◌, ℕ, ◌*◌, ◌+◌, ◌-◌, List, [], ◌∷◌, ◌++◌, length, length-append, take, drop, refl, sym, ◌∙◌, ap, arith}
use Rattle.std.specs.Prelude.{All, IsPermutation}
use Rattle.std.proofs.Math.Seq.{drop-append_seam, take-append_seam}
use Rattle.std.proofs.lemmas.List.{length-drop, length-take-le}
use Rattle.std.proofs.lemmas.Slice.{between-put_mid}
use borrow.Rule.Slice.PartMut.{mid_of, put_mid, same_len_mid}
use Rattle.std.proofs.lemmas.List.Elements.{All-head, All-nil}
use Rattle.std.proofs.lemmas.List.Sorted.{All-permutation}
use Rattle.sha2.specs.Sha256.{sha256, digest_bytes}
use Rattle.stripe_header.specs.declared.area.Area.{Area}
use Rattle.stripe_header.specs.declared.states.CopyState.{CopyState}
use Rattle.stripe_header.specs.Layout.{body_blocks}
use Rattle.stripe_header.specs.Reading.{block_bytes}
use Rattle.stripe_header.specs.Spelling.{Numbers, copy_bytes, covered_bytes, foot_bytes, head_bytes, numbers_of}
use Rattle.stripe_header.proofs.CopyLaws.{length-head}
use Rattle.dir_sync.specs.Runs.{directory_in, spelled_body}

none_of : {X : Type 0} (xs : List X) → All (λ (x : X). ⊥) xs → xs ≡ []
none_of [] all = refl
none_of {X} (x ∷ xs) all = absurd (All-head (λ (y : X). ⊥) x xs all)

-- no list but the empty one has the elements of that
pub none_permuted : {X : Type 0} (xs : List X) → IsPermutation [] xs → xs ≡ []
none_permuted {X} xs p = none_of xs (All-permutation (λ (x : X). ⊥) [] xs p (All-nil (λ (x : X). ⊥)))

-- the front of so many elements
pub front_is : {X : Type 0} (n : ℕ) (xs ys : List X) → length xs ≡ n → take n (xs ++ ys) ≡ xs
front_is n xs ys long = ap (λ k. take k (xs ++ ys)) (sym long) ∙ take-append_seam xs ys

pub behind_is : {X : Type 0} (n : ℕ) (xs ys : List X) → length xs ≡ n → drop n (xs ++ ys) ≡ ys
behind_is n xs ys long = ap (λ k. drop k (xs ++ ys)) (sym long) ∙ drop-append_seam xs ys

-- ---- how long a body is

foot_length : (serial : ℕ) (bytes : List ℕ) → length (foot_bytes serial (sha256 bytes)) ≡ 512
unfolding foot_bytes sha256 digest_bytes
foot_length serial bytes = refl

pub body_length : (n : Numbers) (s : CopyState) (directory : List ℕ) (d : ℕ) → length directory ≡ 512 * d
    → length (copy_bytes 2 n s directory) ≡ 512 * (d + 2)
body_length n s directory d size =
    let front = covered_bytes 2 n s directory in
    omega (
      arith,
      size,
      length-append front (foot_bytes s.serial (sha256 front)),
      length-append (head_bytes 2 n s) directory,
      length-head 2 n s,
      foot_length s.serial front,
    )

directory_length : (a : Area) (body : List ℕ) → length body ≡ 512 * body_blocks a → length (directory_in body) ≡ 512 * a.directory
unfolding block_bytes
directory_length a body whole =
    length-take-le (length body - 1024) (drop 512 body) (omega (arith, length-drop 512 body, whole)) ∙ omega (arith, whole)

pub spelled_length : (a : Area) (s : CopyState) (body : List ℕ) → length body ≡ 512 * body_blocks a
    → length (spelled_body a s body) ≡ 512 * body_blocks a
spelled_length a s body whole = body_length (numbers_of a.geometry) s (directory_in body) a.directory (directory_length a body whole)

-- what is put between the first block and the last is the directory
pub directory_put : (a : Area) (body image : List ℕ) → length body ≡ 512 * body_blocks a → length image ≡ 512 * a.directory
    → directory_in (put_mid 512 (length body - 512 - 512) body image) ≡ image
unfolding block_bytes
directory_put a body image whole size =
    let k = length body - 512 - 512 in
    let all = put_mid 512 k body image in
    let mid : length (mid_of 512 k body) ≡ k =
    length-take-le k (drop 512 body) (omega (arith, length-drop 512 body, whole)) in
    let long : length all ≡ length body = same_len_mid 512 k body image (omega (arith, size, whole, mid)) in
    let count : length all - 1024 ≡ length body - 512 - 512 = omega (arith, long) in
    ap (λ n. take n (drop 512 all)) count ∙ between-put_mid 512 k body image (length body - 512) (omega (arith, whole)) (omega (arith, size, whole))
