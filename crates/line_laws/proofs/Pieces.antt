-- Parts of a body that follow each other.
use Rattle.std.proofs.Common.{◌≡◌, ℕ, ◌+◌, ◌-◌, ◌≤◌, List, [], ◌++◌, take, drop, refl, sym, ◌∙◌, ap, arith}
use Rattle.std.proofs.Math.Seq.{take-add}
use Rattle.std.proofs.lemmas.List.{drop-drop, drop-take, drop_all, length-take, take-take}

-- a reader went on from one place to another in a body, which it was given from there to there; up to the
-- first place the body was as it is now
pub record Told (a e : ℕ) (old now given : List ℕ) : Type 0 where
  pub on : a ≤ e
  pub front : take a old ≡ take a now
  pub is : given ≡ drop a (take e now)

pub told_none : (a : ℕ) (old now : List ℕ) → take a old ≡ take a now → Told a a old now []
told_none a old now front = record {
  on = omega arith;
  front = front;
  is = sym (drop_all a (take a now) (omega (arith, length-take a now)));
}

pub told_part : (a size : ℕ) (body : List ℕ) → Told a (a + size) body body (take size (drop a body))
told_part a size body = record { on = omega arith; front = refl; is = sym (drop-take a size body) }

joined : (a k j : ℕ) (body : List ℕ) → drop a (take (a + k) body) ++ drop (a + k) (take (a + k + j) body) ≡ drop a (take (a + k + j) body)
joined a k j body =
    let same : a + k + j ≡ a + (k + j) = omega arith in
    ap (λ xs. xs ++ drop (a + k) (take (a + k + j) body)) (drop-take a k body)
    ∙ (ap (λ xs. take k (drop a body) ++ xs) (drop-take (a + k) j body ∙ ap (take j) (sym (drop-drop k a body)))
    ∙ (sym (take-add k j (drop a body))
    ∙ (sym (drop-take a (k + j) body) ∙ ap (λ n. drop a (take n body)) (sym same))))

joined_at : (a m e k j : ℕ) (body : List ℕ) → m ≡ a + k → e ≡ a + k + j → drop a (take m body) ++ drop m (take e body) ≡ drop a (take e body)
joined_at a m e k j body first second =
    ap (λ n. drop a (take n body) ++ drop n (take e body)) first
    ∙ (ap (λ n. drop a (take (a + k) body) ++ drop (a + k) (take n body)) second
    ∙ (joined a k j body ∙ ap (λ n. drop a (take n body)) (sym second)))

pub told_then : (a m e : ℕ) (old mid now first second : List ℕ) → Told a m old mid first → Told m e mid now second → Told a e old now (first ++ second)
told_then a m e old mid now first second x y = record {
  on = let p = x.on in let q = y.on in omega (arith, p, q);
  front = x.front ∙ (sym (take-take a m mid x.on) ∙ (ap (take a) y.front ∙ take-take a m now x.on));
  is =
      let p = x.on in
      let q = y.on in
      ap (λ xs. xs ++ second) (x.is ∙ ap (drop a) y.front)
      ∙ (ap (λ xs. drop a (take m now) ++ xs) y.is
      ∙ joined_at a m e (m - a) (e - m) now (omega (arith, p)) (omega (arith, p, q)));
}
