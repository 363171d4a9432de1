-- The lines of a name stand together.
use Rattle.std.proofs.Common.{◌≡◌, ℕ, zero, suc, ◌<◌, ◌≤◌, true, false, List, [], ◌∷◌, length, take, drop, get_or, refl, sym, ap, ◌∙◌, arith}
use Rattle.std.specs.Prelude.{bytes_eq}
use Rattle.std.specs.List.Sorted.{IsPartitionedBy}
use Rattle.std.specs.BTreeMap.Comparable.{le_lt_trans}
use Rattle.std.specs.Ordering.{nat_cmp, is_le, is_lt, is_gt, is_eq}
use Rattle.std.specs.declared.cmp.Ordering.{Ordering}
use Rattle.std.specs.declared.cmp.Ordering.TheVariants.{Less, Equal, Greater}
use Rattle.std.specs.Cmp.Lexicographic.{slice_cmp, nat_list_cmp_total}
use Rattle.std.proofs.lemmas.Map.Text.{is_eq-slice_cmp}
use Rattle.alternate_vector.specs.declared.fields.Line.{Line}
use Rattle.alternate_vector.specs.Field.{Field, IsRising}
use Rattle.alternate_vector.specs.Lines.{field_of, fields_of}
use Rattle.alternate_vector.specs.Vary.{named}
use Rattle.alternate_vector.proofs.Order.{chain, rising_at}

lt_not_eq : (o : Ordering) → is_lt o ≡ true → is_eq o ≡ false
lt_not_eq Less h = refl
lt_not_eq Equal h = absurd cc
lt_not_eq Greater h = absurd cc

between : (o : Ordering) → is_lt o ≡ false → is_le o ≡ true → is_eq o ≡ true
between Less h k = absurd cc
between Equal h k = refl
between Greater h k = absurd cc

past_not_eq : (o : Ordering) → is_le o ≡ false → is_eq o ≡ false
past_not_eq Less h = absurd cc
past_not_eq Equal h = absurd cc
past_not_eq Greater h = refl

is_less : (o : Ordering) → is_lt o ≡ true → o ≡ Less
is_less Less h = refl
is_less Equal h = absurd cc
is_less Greater h = absurd cc

pub le_not_gt : (o : Ordering) → is_le o ≡ true → is_gt o ≡ false
le_not_gt Less h = refl
le_not_gt Equal h = refl
le_not_gt Greater h = absurd cc

not_gt_le : (o : Ordering) → is_gt o ≡ false → is_le o ≡ true
not_gt_le Less h = refl
not_gt_le Equal h = refl
not_gt_le Greater h = absurd cc

pub not_le_gt : (o : Ordering) → is_le o ≡ false → is_gt o ≡ true
not_le_gt Less h = absurd cc
not_le_gt Equal h = absurd cc
not_le_gt Greater h = refl

pub lt_parted : (lines : List Line) (key : List ℕ) → IsRising (fields_of lines) → IsPartitionedBy (λ line. is_lt (slice_cmp nat_cmp line.name key)) lines
lt_parted lines key rising i j d le lt h =
    let a = (get_or lines i d).name in
    let b = (get_or lines j d).name in
    ap is_lt (le_lt_trans nat_list_cmp_total a b key (not_gt_le (slice_cmp nat_cmp a b) (rising_at lines i j d rising le lt)) (is_less (slice_cmp nat_cmp b key) h))

pub le_parted : (lines : List Line) (key : List ℕ) → IsRising (fields_of lines) → IsPartitionedBy (λ line. is_le (slice_cmp nat_cmp line.name key)) lines
le_parted lines key rising i j d le lt h =
    let a = (get_or lines i d).name in
    let b = (get_or lines j d).name in
    not_gt_le (slice_cmp nat_cmp a key) (chain a b key (rising_at lines i j d rising le lt) (le_not_gt (slice_cmp nat_cmp b key) h))

-- lines of lesser names are passed over
pub skip_named : (lines : List Line) (low : ℕ) (key : List ℕ) (d : Line) → ((k : ℕ) → k < low → is_lt (slice_cmp nat_cmp (get_or lines k d).name key) ≡ true) → named key (fields_of (drop low lines)) ≡ named key (fields_of lines)
skip_named lines zero key d below = refl
skip_named [] (suc low) key d below = refl
skip_named (x ∷ xs) (suc low) key d below =
    let other : bytes_eq x.name key ≡ false = sym (is_eq-slice_cmp x.name key) ∙ lt_not_eq (slice_cmp nat_cmp x.name key) (below 0 (omega arith)) in
    let rest = skip_named xs low key d (λ k l. below (suc k) (omega (arith, l))) in
    rw other rest

none_named : (lines : List Line) (key : List ℕ) (d : Line) → ((k : ℕ) → k < length lines → is_le (slice_cmp nat_cmp (get_or lines k d).name key) ≡ false) → named key (fields_of lines) ≡ []
none_named [] key d past = refl
none_named (x ∷ xs) key d past =
    let other : bytes_eq x.name key ≡ false = sym (is_eq-slice_cmp x.name key) ∙ past_not_eq (slice_cmp nat_cmp x.name key) (past 0 (omega arith)) in
    rw other (none_named xs key d (λ k l. past (suc k) (omega (arith, l))))

-- the first lines have the name, and no line behind them
pub take_named : (lines : List Line) (n : ℕ) (key : List ℕ) (d : Line) → ((k : ℕ) → k < length lines → is_lt (slice_cmp nat_cmp (get_or lines k d).name key) ≡ false)
    → ((k : ℕ) → k < n → is_le (slice_cmp nat_cmp (get_or lines k d).name key) ≡ true) → ((k : ℕ) → n ≤ k → k < length lines → is_le (slice_cmp nat_cmp (get_or lines k d).name key) ≡ false)
    → fields_of (take n lines) ≡ named key (fields_of lines)
take_named lines zero key d low within past = sym (none_named lines key d (λ k l. past k (omega arith) l))
take_named [] (suc n) key d low within past = refl
take_named (x ∷ xs) (suc n) key d low within past =
    let same : bytes_eq x.name key ≡ true = sym (is_eq-slice_cmp x.name key) ∙ between (slice_cmp nat_cmp x.name key) (low 0 (omega arith)) (within 0 (omega arith)) in
    let rest = take_named xs n key d (λ k l. low (suc k) (omega (arith, l))) (λ k l. within (suc k) (omega (arith, l))) (λ k h l. past (suc k) (omega (arith, h)) (omega (arith, l))) in
    rw same (ap (λ (fs : List Field). field_of x ∷ fs) rest)
