-- What was found in a list.
use Rattle.std.proofs.Common.{◌≡◌, ℕ, List, [], ◌∷◌, Bool, true, false, refl, sym, ◌∙◌, ap, subst, eqb-true}
use Rattle.std.specs.Prelude.{Option, Some, None, option_map, unwrap_or, cond, find, ◌==◌}
use Rattle.fragment_table.specs.Table.{TableRow}
use Rattle.cache_model.specs.declared.answer.NextAnswer.TheVariants as next
use Rattle.cache_model.specs.State.{State, PutRow, ReaderRow, Writing, Open, Closed, GivenUp, put_of}
use Rattle.cache_model.specs.Verdict
use Rattle.cache_model.specs.Verdict.{cuts_of}

pub no_truth : {X : Type 0} → true ≡ false → X
no_truth h = cc

pub none_is : {X Y : Type 0} {x : X} → None ≡ Some x → Y
none_is h = cc

pub same_some : {X : Type 0} (x y : X) (o : Option X) → o ≡ Some x → o ≡ Some y → x ≡ y
same_some x y o e f = ap (λ t. unwrap_or t x) (sym e ∙ f)

found_case : {X : Type 0} (t : Bool) (test : X → Bool) (y x : X) (ys : List X) → test y ≡ t → (find test ys ≡ Some x → test x ≡ true)
    → cond t (Some y) (find test ys) ≡ Some x → test x ≡ true
found_case true test y x ys is others found = subst (λ z. test z ≡ true) (same_some y x (Some y) refl found) is
found_case false test y x ys is others found = others found

-- what was found passes
pub found_passes : {X : Type 0} (test : X → Bool) (ys : List X) (x : X) → find test ys ≡ Some x → test x ≡ true
found_passes test [] x found = none_is found
found_passes test (y ∷ ys) x found = found_case (test y) test y x ys refl (found_passes test ys x) found

-- a put that was found has its number
pub number_of : (s : State) (put : ℕ) (w : PutRow) → put_of s put ≡ Some w → w.put ≡ put
number_of s put w found = eqb-true w.put put (found_passes (λ p. p.put == put) s.puts w found)

-- and what was cut for it is what was cut for its number
pub cuts_found : (s : State) (put : ℕ) (w : PutRow) → put_of s put ≡ Some w → cuts_of s put ≡ w.cuts
cuts_found s put w found = ap (λ (o : Option PutRow). unwrap_or (option_map (λ (p : PutRow). p.cuts) o) []) found

written_gives_none : (p : PutRow) (w : Writing) (index n : ℕ) → Verdict.verdict_of_writing p w ≡ next.Gave index n → ⊥
written_gives_none p Open index n h = cc
written_gives_none p Closed index n h = cc
written_gives_none p GivenUp index n h = cc

followed_gives_none : (o : Option PutRow) (index n : ℕ) → Verdict.verdict_of_followed o ≡ next.Gave index n → ⊥
followed_gives_none None index n h = cc
followed_gives_none (Some p) index n h = written_gives_none p p.writing index n h

pub end_gives_none : (s : State) (r : ReaderRow) (t : Option (List TableRow)) (index n : ℕ) → Verdict.verdict_at_end s r t ≡ next.Gave index n → ⊥
end_gives_none s r (Some table) index n h = cc
end_gives_none s r None index n h = followed_gives_none (put_of s r.put) index n h
