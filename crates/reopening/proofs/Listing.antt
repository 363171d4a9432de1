-- The lengths that the tables of kept vectors state.
use Rattle.std.proofs.Common.{◌≡◌, ◌-◌, suc, Bool, true, false, List, [], ◌∷◌, map, Option, Some, None, refl, sym, ap, subst, ◌∙◌, arith}
use Rattle.std.specs.Prelude.{◌||◌, ◌==◌, not, if◌then◌else◌}
use Rattle.std.specs.List.{AllByRecursion, list_all}
use Rattle.std.proofs.lemmas.Bool.{and_parts, eqb-true, eq-eqb}
use Rattle.tape_base.specs.declared.keys.Key.{Key}
use Rattle.tape_base.specs.Key.{same_key}
use Rattle.alternate_vector.specs.Alternates.{Stored}
use Rattle.cache_model.specs.declared.findings.FoundRow.{FoundRow}
use Rattle.cache_model.specs.Openings.{StatesLength, StatesLengths}
use Rattle.reopening.specs.declared.later.Measure.{Measure}
use Rattle.reopening.specs.Later.{all_state, has_length, has_lengths, kept_rows, latest, lengths_agree, measure_of, row_of_fragment, states, with_lengths}
use Rattle.reopening.proofs.Holding.{each_kept}

key_back : (a b : Key) → same_key a b ≡ true → same_key b a ≡ true
key_back a b h = eq-eqb b.number a.number (sym (eqb-true a.number b.number h))

-- a test that does not hold is not asked
asked : (test rest : Bool) → (not test || rest) ≡ true → test ≡ true → rest ≡ true
asked true rest h is = h
asked false rest h is = absurd cc

one_states : (x : FoundRow) (s : Stored) → states (measure_of x) s ≡ true → StatesLength x s
one_states x s h put some entry is =
    let length : has_length x.length (row_of_fragment s.table x.id.index) ≡ true = asked (s.put == x.id.put) (has_length x.length (row_of_fragment s.table x.id.index)) h (eq-eqb s.put x.id.put put) in
    let index : x.id.index ≡ suc (x.id.index - 1) = omega (arith, some) in
    let row : row_of_fragment s.table x.id.index ≡ Some entry = ap (row_of_fragment s.table) index ∙ is in
    sym (eqb-true entry.length x.length (ap (has_length x.length) (sym row) ∙ length))

each_states : (x : FoundRow) (list : List Stored) → list_all (states (measure_of x)) list ≡ true → AllByRecursion (StatesLength x) list
each_states x [] h = tt
each_states x (s ∷ list) h =
    let e = and_parts (states (measure_of x) s) (list_all (states (measure_of x)) list) h in
    (one_states x s e.0, each_states x list e.1)

listed_state : (x : FoundRow) (read : Option (List Stored)) → all_state (measure_of x) read ≡ true → (list : List Stored) → read ≡ Some list → AllByRecursion (StatesLength x) list
listed_state x None h list is = absurd cc
listed_state x (Some all) h list is =
    let same : all ≡ list = cc is in
    subst (λ (l : List Stored). AllByRecursion (StatesLength x) l) same (each_states x all h)

agreed : (f x : FoundRow) → lengths_agree f (measure_of x) ≡ true → StatesLengths f x
agreed f x h list is key =
    listed_state x f.alternates (asked (same_key f.id.first x.id.first) (all_state (measure_of x) f.alternates) h (key_back x.id.first f.id.first key)) list is

each_agreed : (f : FoundRow) (all : List FoundRow) → has_lengths (map measure_of all) f ≡ true → AllByRecursion (StatesLengths f) all
each_agreed f [] h = tt
each_agreed f (x ∷ all) h =
    let e = and_parts (lengths_agree f (measure_of x)) (list_all (lengths_agree f) (map measure_of all)) h in
    (agreed f x e.0, each_agreed f all e.1)

-- those that are kept have passed
kept_by : (P : FoundRow → Type 0) (b : Bool) (x : FoundRow) (rest : List FoundRow) → (b ≡ true → P x) → AllByRecursion P rest → AllByRecursion P (if b then x ∷ rest else rest)
kept_by P true x rest here all = (here refl, all)
kept_by P false x rest here all = all

kept_pass : (P : FoundRow → Type 0) (measures : List Measure) (all : List FoundRow) → ((f : FoundRow) → has_lengths measures f ≡ true → P f) → AllByRecursion P (with_lengths measures all)
unfolding with_lengths
kept_pass P measures [] passed = tt
kept_pass P measures (x ∷ rest) passed = kept_by P (has_lengths measures x) x (with_lengths measures rest) (passed x) (kept_pass P measures rest passed)

-- each vector that is kept states the lengths of the fragments that are kept
pub kept_state : (all : List FoundRow) → AllByRecursion (λ (f : FoundRow). AllByRecursion (StatesLengths f) (kept_rows all)) (kept_rows all)
kept_state all =
    let measures = map measure_of (latest all) in
    kept_pass (λ (f : FoundRow). AllByRecursion (StatesLengths f) (kept_rows all)) measures (latest all) (λ f h.
    each_kept (StatesLengths f) measures (latest all) (each_agreed f (latest all) h))
