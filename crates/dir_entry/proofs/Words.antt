-- A word as three parts: the bits above a field, the field and the bits below it.
use Rattle.std.proofs.Common.{◌≡◌, ℕ, ◌+◌, ◌-◌, ◌*◌, ◌/◌, ◌%◌, ◌^◌, ◌<◌, ◌≤◌, sym, ap, subst, ◌∙◌, arith, inl, inr}
use Rattle.std.proofs.lemmas.Nat.{pow_pos, pow-add, shr-shr, shr_split, mod-pow-add, field_of, shl_whole, shr_high, mod_low, mod_below, shr_below, mul-add-lt}
use Rattle.dir_entry.specs.Layout.{IsApart, field}

abbrev made : ℕ → ℕ → ℕ → ℕ → ℕ → ℕ
made lo w high mid low = (high * 2 ^ w + mid) * 2 ^ lo + low

made-self : (lo w n : ℕ) → made lo w (n / 2 ^ lo / 2 ^ w) (field lo w n) (n % 2 ^ lo) ≡ n
made-self lo w n = rw (shr_split (n / 2 ^ lo) w) (shr_split n lo)

made-mid : (lo w high mid low : ℕ) → mid < 2 ^ w → low < 2 ^ lo → field lo w (made lo w high mid low) ≡ mid
made-mid lo w high mid low m l = rw (shr_high (high * 2 ^ w + mid) lo low l) (mod_low high w mid m)

made-low : (lo w high mid low : ℕ) → low < 2 ^ lo → made lo w high mid low % 2 ^ lo ≡ low
made-low lo w high mid low l = mod_low (high * 2 ^ w + mid) lo low l

made-high : (lo w high mid low : ℕ) → mid < 2 ^ w → low < 2 ^ lo → made lo w high mid low / 2 ^ (lo + w) ≡ high
made-high lo w high mid low m l =
    sym (shr-shr (made lo w high mid low) lo w) ∙ ap (λ x. x / 2 ^ w) (shr_high (high * 2 ^ w + mid) lo low l) ∙ shr_high high w mid m

made-below : (lo w k high mid low : ℕ) → mid < 2 ^ w → low < 2 ^ lo → high < 2 ^ k → made lo w high mid low < 2 ^ (lo + (w + k))
made-below lo w k high mid low m l h =
    rw (pow-add 2 lo (w + k), pow-add 2 w k)
    (mul-add-lt (high * 2 ^ w + mid) (2 ^ lo) low (2 ^ w * 2 ^ k) (mul-add-lt high (2 ^ w) mid (2 ^ k) h m) l)

low_of : (c d n : ℕ) → n % 2 ^ (d + c) % 2 ^ c ≡ n % 2 ^ c
low_of c d n = rw (mod-pow-add n d c) (mod_low (n / 2 ^ c % 2 ^ d) c (n % 2 ^ c) (mod_below n (2 ^ c) (pow_pos c)))

field_below : (a b lo m n : ℕ) → a + b ≤ lo → m % 2 ^ lo ≡ n % 2 ^ lo → field a b m ≡ field a b n
field_below a b lo m n le e =
    let d : lo ≡ (lo - (a + b)) + (b + a) = omega arith in
    let at : (x : ℕ) → x % 2 ^ lo % 2 ^ (b + a) ≡ x % 2 ^ (b + a) = λ x. ap (λ k. x % 2 ^ k % 2 ^ (b + a)) d ∙ low_of (b + a) (lo - (a + b)) x in
    sym (field_of m b a) ∙ ap (λ x. x / 2 ^ a) (sym (at m) ∙ ap (λ x. x % 2 ^ (b + a)) e ∙ at n) ∙ field_of n b a

field_above : (a b c m n : ℕ) → c ≤ a → m / 2 ^ c ≡ n / 2 ^ c → field a b m ≡ field a b n
field_above a b c m n le e =
    let d : c + (a - c) ≡ a = omega arith in
    let at : (x : ℕ) → x / 2 ^ c / 2 ^ (a - c) ≡ x / 2 ^ a = λ x. shr-shr x c (a - c) ∙ ap (λ k. x / 2 ^ k) d in
    ap (λ x. x % 2 ^ b) (sym (at m) ∙ ap (λ x. x / 2 ^ (a - c)) e ∙ at n)

-- A word with another number in one field.
pub record Replaces (lo w word value new : ℕ) : Type 0 where
  pub written : field lo w new ≡ value
  pub others : (a b : ℕ) → IsApart a b lo w → field a b new ≡ field a b word
  pub exact : new + field lo w word * 2 ^ lo ≡ word + value * 2 ^ lo
  pub below : new < 2 ^ 128

made-replaces : (lo w word value new : ℕ) → value < 2 ^ w → lo + w ≤ 128 → word < 2 ^ 128
    → new ≡ made lo w (word / 2 ^ lo / 2 ^ w) value (word % 2 ^ lo) → Replaces lo w word value new
made-replaces lo w word value new v fits small e =
    let high = word / 2 ^ lo / 2 ^ w in
    let low = word % 2 ^ lo in
    let l : low < 2 ^ lo = mod_below word (2 ^ lo) (pow_pos lo) in
    let self : made lo w high (field lo w word) low ≡ word = made-self lo w word in
    let k = 128 - (lo + w) in
    let whole : k + (lo + w) ≡ 128 = omega arith in
    let small' : word < 2 ^ (k + (lo + w)) = rw whole small in
    let h : high < 2 ^ k = rw (shr-shr word lo w) (shr_below word k (lo + w) small') in
    let whole' : lo + (w + k) ≡ 128 = omega arith in
    record {
      written = rw e (made-mid lo w high value low v l);
      others = λ a b apart. elim apart [
        | inl le ↦ field_below a b lo new word le (rw e (made-low lo w high value low l))
        | inr le ↦ field_above a b (lo + w) new word le (rw e (made-high lo w high value low v l ∙ shr-shr word lo w))
      ];
      exact = omega (arith, self, e);
      below = subst (λ top. new < 2 ^ top) whole' (rw e (made-below lo w k high value low v l h));
    }

pub replaced : (lo w word value : ℕ) → value < 2 ^ w → lo + w ≤ 128 → word < 2 ^ 128
    → Replaces lo w word value (word - field lo w word * 2 ^ lo % 2 ^ 128 + value * 2 ^ lo % 2 ^ 128)
replaced lo w word value v fits small =
    let self : made lo w (word / 2 ^ lo / 2 ^ w) (field lo w word) (word % 2 ^ lo) ≡ word = made-self lo w word in
    let old : field lo w word * 2 ^ lo % 2 ^ 128 ≡ field lo w word * 2 ^ lo =
    shl_whole (field lo w word) w lo 128 (mod_below (word / 2 ^ lo) (2 ^ w) (pow_pos w)) (omega arith) in
    let new : value * 2 ^ lo % 2 ^ 128 ≡ value * 2 ^ lo = shl_whole value w lo 128 v (omega arith) in
    made-replaces lo w word value _ v fits small (rw (old, new) (omega (arith, self)))
