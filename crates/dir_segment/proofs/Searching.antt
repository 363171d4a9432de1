-- The rows of a chain up to a slot, and those behind it.
use Rattle.std.proofs.Common.{◌≡◌, ℕ, Bool, true, false, cond, eqb, List, [], ◌∷◌, ◌++◌, drop, get_or, set, refl, sym, ap, ◌∙◌, append_assoc}
use Rattle.std.specs.Prelude.{◌||◌}
use Rattle.std.specs.List.{list_any}
use Rattle.std.proofs.lemmas.Bool.{eq-eqb}
use Rattle.std.proofs.lemmas.List.{append-nil, append_cancel_right, set-get_or}
use Rattle.std.proofs.lemmas.List.Folds.{list_any-append}
use Rattle.dir_entry.specs.declared.entry.Entry.{Entry}
use Rattle.dir_segment.specs.Lists.{SlotRow, Lists, row, delete_at, deleted, has_slot, behind_slot, without_next, with_first_free, passes, removed, freed, IsRoot, IsBeforeFirst}

unfoldable pub upto : ℕ → List SlotRow → List SlotRow
upto s [] = []
upto s (r ∷ rows) = r ∷ cond (eqb r.slot s) [] (upto s rows)

pub upto-behind : (s : ℕ) (rows : List SlotRow) → upto s rows ++ behind_slot s rows ≡ rows
unfolding upto
upto-behind s [] = refl
upto-behind s (r ∷ rows) =
    elim (eqb r.slot s) as (λ t. r ∷ (cond t [] (upto s rows) ++ cond t rows (behind_slot s rows)) ≡ r ∷ rows) [ true ↦ refl | false ↦ ap (λ (q : List SlotRow). r ∷ q) (upto-behind s rows) ]

pub upto-without : (s : ℕ) (rows : List SlotRow) → without_next s rows ≡ upto s rows ++ drop 1 (behind_slot s rows)
unfolding upto
upto-without s [] = refl
upto-without s (r ∷ rows) =
    elim (eqb r.slot s) as (λ t. r ∷ cond t (drop 1 rows) (without_next s rows) ≡ r ∷ (cond t [] (upto s rows) ++ drop 1 (cond t rows (behind_slot s rows))))
    [ true ↦ refl | false ↦ ap (λ (q : List SlotRow). r ∷ q) (upto-without s rows) ]

pub upto-next : (s n : ℕ) (e : Entry) (rows : List SlotRow) → behind_slot s rows ≡ row n e ∷ behind_slot n rows → upto n rows ≡ upto s rows ++ row n e ∷ []
upto-next s n e rows next =
    let split : upto n rows ++ behind_slot n rows ≡ (upto s rows ++ row n e ∷ []) ++ behind_slot n rows =
    upto-behind n rows ∙ sym (upto-behind s rows) ∙ ap (λ (q : List SlotRow). upto s rows ++ q) next ∙ sym (append_assoc (upto s rows) (row n e ∷ []) (behind_slot n rows)) in
    append_cancel_right (upto n rows) (upto s rows ++ row n e ∷ []) (behind_slot n rows) split

or_false : (a b : Bool) → (a || b) ≡ false → (a ≡ false) × (b ≡ false)
or_false true b h = absurd (cc h)
or_false false b h = (refl, h)

removed-append : (test : Entry → Bool) (xs ys : List SlotRow) → list_any (passes test) xs ≡ false → removed test (xs ++ ys) ≡ xs ++ removed test ys
removed-append test [] ys none = refl
removed-append test (x ∷ xs) ys none =
    let both = or_false (test x.entry) (list_any (passes test) xs) none in
    let fails : test x.entry ≡ false = both.0 in
    rw fails (ap (λ (q : List SlotRow). x ∷ q) (removed-append test xs ys both.1))

freed-append : (test : Entry → Bool) (xs ys : List SlotRow) (free : List ℕ) → list_any (passes test) xs ≡ false → freed test (xs ++ ys) free ≡ freed test ys free
freed-append test [] ys free none = refl
freed-append test (x ∷ xs) ys free none =
    let both = or_false (test x.entry) (list_any (passes test) xs) none in
    let fails : test x.entry ≡ false = both.0 in
    rw fails (freed-append test xs ys free both.1)

pub at_root : (s : ℕ) (test : Entry → Bool) (rows : List SlotRow) → IsRoot s test rows → (has_slot s rows ≡ true) × (list_any (passes test) (upto s rows) ≡ false)
unfolding upto
at_root s test [] h = absurd h
at_root s test (r ∷ rows) h =
    let here : eqb r.slot s ≡ true = eq-eqb r.slot s h.0 in
    (rw here refl, rw (here, h.1) refl)

pub goes_on : (test : Entry → Bool) (s n : ℕ) (e : Entry) (rows : List SlotRow) → behind_slot s rows ≡ row n e ∷ behind_slot n rows
    → list_any (passes test) (upto s rows) ≡ false → test (row n e).entry ≡ false → list_any (passes test) (upto n rows) ≡ false
goes_on test s n e rows next none fails =
    rw (upto-next s n e rows next, list_any-append (passes test) (upto s rows) (row n e ∷ []), none, fails) refl

pub none_at_all : (test : Entry → Bool) (s : ℕ) (rows : List SlotRow) → behind_slot s rows ≡ [] → list_any (passes test) (upto s rows) ≡ false → list_any (passes test) rows ≡ false
none_at_all test s rows last none =
    let all : upto s rows ≡ rows = sym (append-nil (upto s rows)) ∙ ap (λ (q : List SlotRow). upto s rows ++ q) (sym last) ∙ upto-behind s rows in
    ap (λ (q : List SlotRow). list_any (passes test) q) (sym all) ∙ none

pub before_it : (test : Entry → Bool) (s n : ℕ) (e : Entry) (rows : List SlotRow) → has_slot s rows ≡ true → behind_slot s rows ≡ row n e ∷ behind_slot n rows
    → list_any (passes test) (upto s rows) ≡ false → test (row n e).entry ≡ true → IsBeforeFirst test s rows
before_it test s n e rows has next none here =
    let split : rows ≡ upto s rows ++ row n e ∷ behind_slot n rows = sym (upto-behind s rows) ∙ ap (λ (q : List SlotRow). upto s rows ++ q) next in
    record {
      held = has;
      some = λ q. let no : row n e ∷ behind_slot n rows ≡ [] = sym next ∙ q in cc no;
      found = ap (λ (q : List SlotRow). list_any (passes test) q) split ∙ list_any-append (passes test) (upto s rows) (row n e ∷ behind_slot n rows) ∙ rw (none, here) refl;
      taken = upto-without s rows ∙ ap (λ (q : List SlotRow). upto s rows ++ drop 1 q) next
          ∙ sym (ap (λ (q : List SlotRow). removed test q) split ∙ removed-append test (upto s rows) (row n e ∷ behind_slot n rows) none ∙ rw here refl);
      free = λ free. ap (λ (q : List SlotRow). with_first_free q free) next
          ∙ sym (ap (λ (q : List SlotRow). freed test q free) split ∙ freed-append test (upto s rows) (row n e ∷ behind_slot n rows) free none ∙ rw here refl);
    }

removed_none : (test : Entry → Bool) (rows : List SlotRow) → list_any (passes test) rows ≡ false → removed test rows ≡ rows
removed_none test [] none = refl
removed_none test (r ∷ rows) none =
    let both = or_false (test r.entry) (list_any (passes test) rows) none in
    let fails : test r.entry ≡ false = both.0 in
    rw fails (ap (λ (q : List SlotRow). r ∷ q) (removed_none test rows both.1))

freed_none : (test : Entry → Bool) (rows : List SlotRow) (free : List ℕ) → list_any (passes test) rows ≡ false → freed test rows free ≡ free
freed_none test [] free none = refl
freed_none test (r ∷ rows) free none =
    let both = or_false (test r.entry) (list_any (passes test) rows) none in
    let fails : test r.entry ≡ false = both.0 in
    rw fails (freed_none test rows free both.1)

delete_none : (lists : Lists) (b : ℕ) (test : Entry → Bool) (chain : List SlotRow) → get_or lists.chains b [] ≡ chain → list_any (passes test) chain ≡ false → delete_at lists b test chain ≡ lists
delete_none lists b test [] is none = refl
delete_none lists b test (root ∷ rows) is none =
    let both = or_false (test root.entry) (list_any (passes test) rows) none in
    let fails : test root.entry ≡ false = both.0 in
    let rows' : removed test rows ≡ rows = removed_none test rows both.1 in
    let free : freed test rows lists.free ≡ lists.free = freed_none test rows lists.free both.1 in
    let chains : set lists.chains b (root ∷ rows) ≡ lists.chains = ap (λ (q : List SlotRow). set lists.chains b q) (sym is) ∙ set-get_or lists.chains b [] in
    rw (fails, rows', free) (λ i. record { chains = chains i; free = lists.free })

pub deleted_none : (lists : Lists) (b : ℕ) (test : Entry → Bool) → list_any (passes test) (get_or lists.chains b []) ≡ false → lists ≡ deleted lists b test
deleted_none lists b test none = sym (delete_none lists b test (get_or lists.chains b []) refl none)
