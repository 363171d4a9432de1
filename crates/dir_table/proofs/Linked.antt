-- That each link leads to the next older row of its spot, as rows are added and taken out.
use Rattle.std.proofs.Common.{ℕ, ◌+◌, ◌⊎◌, ◌≡◌, ◌<◌, ◌≤◌, true, false, cond, ◌∷◌, Option, Some, None, option_map, is_some, inl, inr, refl, sym, ap, subst, ◌∙◌, nat_eq, add-one, arith}
use Rattle.std.proofs.lemmas.Bool.Decides.{nat_tests}
use mathlib.Core.Path.{fun_ext}
use Rattle.dir_table.specs.declared.rows.StoredRow.{StoredRow}
use Rattle.dir_table.specs.declared.rows.Spot.{Spot}
use Rattle.dir_table.specs.declared.links.Node.{Node}
use Rattle.dir_table.specs.Rows.{same_spot}
use Rattle.dir_table.specs.Links.{spot_under, stands_at, IsLinkedBy, PointsBy, entries_below, with_entry, first_at, row_of_node, relinked, renewed, with_older, links_without}
use Rattle.dir_table.proofs.Numbers.{Stands, at_but, entries_but, eq_is, eq_self, first_but, first_stays, less_is_other, one_leads, same_below, skipped_it, skipped_none, some_is, bound_of, nat_order}

abbrev pub rows : (ℕ → Option Node) → ℕ → Option StoredRow
rows node k = row_of_node (node k)

-- spots that pass the test are one
pub same_spot_is : (a b : Spot) → same_spot a b ≡ true → a ≡ b
same_spot_is a b h = grind (arith, nat_tests)

pub same_spot_self : (a : Spot) → same_spot a a ≡ true
same_spot_self a = grind (arith, nat_tests)

pub other_spot : (a b : Spot) → same_spot a b ≡ false → same_spot b a ≡ false
other_spot a b h = grind (arith, nat_tests)

same_both : (a b : Spot) → same_spot a b ≡ same_spot b a
same_both a b = grind (arith, nat_tests)

-- maps that have the same under each number and spot
pub linked_same : (node node' : ℕ → Option Node) (head head' : Spot → Option ℕ) (next : ℕ) → ((k : ℕ) → node' k ≡ node k) → ((s : Spot) → head' s ≡ head s) → IsLinkedBy node head next → IsLinkedBy node' head' next
linked_same node node' head head' next nodes heads linked =
    let P : (ℕ → Option Node) → Type 0 = λ f. IsLinkedBy f head' next in
    let Q : (Spot → Option ℕ) → Type 0 = λ f. IsLinkedBy node f next in
    subst P (sym (fun_ext nodes)) (subst Q (sym (fun_ext heads)) linked)

-- one row more
abbrev pub node_more : ℕ → Node → (ℕ → Option Node) → ℕ → Option Node
node_more n it node k = cond (nat_eq n k) (Some it) (node k)

abbrev pub head_more : ℕ → Spot → (Spot → Option ℕ) → Spot → Option ℕ
head_more n spot head s = cond (same_spot spot s) (Some n) (head s)

below_more : (n : ℕ) (it : Node) (node : ℕ → Option Node) (k : ℕ) → k ≤ n → entries_below (rows (node_more n it node)) k ≡ entries_below (rows node) k
below_more n it node k h = same_below (rows (node_more n it node)) (rows node) k (λ j less. ap (λ b. row_of_node (cond b (Some it) (node j))) (less_is_other n j (omega arith)))

pub entries_more : (n : ℕ) (it : Node) (node : ℕ → Option Node) → entries_below (rows (node_more n it node)) (n + 1) ≡ (n, it.row) ∷ entries_below (rows node) n
entries_more n it node =
    rw add-one (ap (λ b. with_entry n (row_of_node (cond b (Some it) (node n))) (entries_below (rows (node_more n it node)) n)) (eq_self n)
    ∙ ap (λ es. (n, it.row) ∷ es) (below_more n it node n (omega arith)))

more_is : (n : ℕ) (it : Node) (node : ℕ → Option Node) (k : ℕ) (m : Node) → node_more n it node k ≡ Some m → ((n ≡ k) × (it ≡ m)) ⊎ (node k ≡ Some m)
more_is n it node k m h =
    elim (nat_eq n k) as (λ b. nat_eq n k ≡ b → cond b (Some it) (node k) ≡ Some m → ((n ≡ k) × (it ≡ m)) ⊎ (node k ≡ Some m)) [
      | true ↦ λ t e. inl (eq_is n k t, some_is it m e)
      | false ↦ λ t e. inr e
    ] refl h

pub linked_more : (n : ℕ) (it : Node) (node : ℕ → Option Node) (head : Spot → Option ℕ) → IsLinkedBy node head n → it.older ≡ head (spot_under it.row)
    → ((k : ℕ) (m : Node) → node k ≡ Some m → m.row.place ≤ it.row.place)
    → IsLinkedBy (node_more n it node) (head_more n (spot_under it.row) head) (n + 1)
linked_more n it node head linked older last = record {
  newest = λ s. ap (λ b. cond b (Some n) (head s)) (same_both (spot_under it.row) s)
      ∙ ap (λ o. cond (stands_at s it.row) (Some n) o) (linked.newest s)
      ∙ sym (ap (first_at s) (entries_more n it node));
  older = λ k m is. elim (more_is n it node k m is) [
    | inl e ↦ let P : Node → Type 0 = λ x. x.older ≡ first_at (spot_under x.row) (entries_below (rows (node_more n it node)) k) in
        subst P e.1 (older ∙ linked.newest (spot_under it.row) ∙ ap (λ j. first_at (spot_under it.row) (entries_below (rows node) j)) e.0
        ∙ sym (ap (first_at (spot_under it.row)) (below_more n it node k (let same = e.0 in omega arith))))
    | inr e ↦ linked.older k m e ∙ sym (ap (first_at (spot_under m.row)) (below_more n it node k (let less = linked.below k m e in omega arith)))
  ];
  below = λ k m is. elim (more_is n it node k m is) [
    | inl e ↦ let same = e.0 in omega arith
    | inr e ↦ let less = linked.below k m e in omega arith
  ];
  rising = λ j k l m less is_l is_m. elim (more_is n it node j l is_l) [
    | inl e ↦ elim (more_is n it node k m is_m) [
      | inl f ↦ let a = e.0 in let b = f.0 in absurd (omega arith)
      | inr f ↦ let a = e.0 in let b = linked.below k m f in absurd (omega arith)
    ]
    | inr e ↦ elim (more_is n it node k m is_m) [
      | inl f ↦ let P : Node → Type 0 = λ x. l.row.place ≤ x.row.place in subst P f.1 (last j l e)
      | inr f ↦ linked.rising j k l m less e f
    ]
  ];
}

-- one row fewer
abbrev pub node_fewer : ℕ → Option ℕ → Option ℕ → (ℕ → Option Node) → ℕ → Option Node
node_fewer d before older node k = cond (nat_eq d k) None (relinked before older k (node k))

abbrev pub head_fewer : Option ℕ → Option ℕ → Spot → (Spot → Option ℕ) → Spot → Option ℕ
head_fewer before older spot head s = renewed before older spot s (head s)

relinked_row : (before older : Option ℕ) (k : ℕ) (o : Option Node) → row_of_node (relinked before older k o) ≡ row_of_node o
relinked_row None older k o = refl
relinked_row (Some p) older k o =
    elim (nat_eq p k) as (λ b. row_of_node (cond b (option_map (with_older older) o) o) ≡ row_of_node o) [
      | true ↦ elim o as (λ o. row_of_node (option_map (with_older older) o) ≡ row_of_node o) [ None ↦ refl | Some n ↦ refl ]
      | false ↦ refl
    ]

pub rows_fewer : (d : ℕ) (before older : Option ℕ) (node : ℕ → Option Node) → rows (node_fewer d before older node) ≡ at_but d (rows node)
rows_fewer d before older node = fun_ext (λ k.
    elim (nat_eq d k) as (λ b. row_of_node (cond b None (relinked before older k (node k))) ≡ cond b None (row_of_node (node k))) [
      | true ↦ refl
      | false ↦ relinked_row before older k (node k)
    ])

-- where a node that is left comes from
record Came (before older : Option ℕ) (node : ℕ → Option Node) (k : ℕ) (m : Node) : Type 0 where
  it : Node
  was : node k ≡ Some it
  same : it.row ≡ m.row
  how : ((it ≡ m) × (before ≡ Some k → ⊥)) ⊎ ((before ≡ Some k) × (m.older ≡ older))

came_relinked : (before older : Option ℕ) (node : ℕ → Option Node) (k : ℕ) (m : Node) → relinked before older k (node k) ≡ Some m → Came before older node k m
came_relinked None older node k m h = record { it = m; was = h; same = refl; how = inl (refl, λ e. absurd (cc)) }
came_relinked (Some p) older node k m h =
    elim (nat_eq p k) as (λ b. nat_eq p k ≡ b → cond b (option_map (with_older older) (node k)) (node k) ≡ Some m → Came (Some p) older node k m) [
      | true ↦ λ t. elim (node k) as (λ o. node k ≡ o → option_map (with_older older) o ≡ Some m → Came (Some p) older node k m) [
        | None ↦ λ e none. absurd (cc)
        | Some it ↦ λ e changed.
            let is : with_older older it ≡ m = some_is (with_older older it) m changed in
            record { it = it; was = e; same = ap (λ n. n.row) is; how = inr (ap (λ n. Some n) (eq_is p k t), sym (ap (λ n. n.older) is)) }
      ] refl
      | false ↦ λ t was. record { it = m; was = was; same = refl; how = inl (refl, λ e. let same : p ≡ k = some_is p k e in absurd (grind (arith, nat_tests))) }
    ] refl h

came : (d : ℕ) (before older : Option ℕ) (node : ℕ → Option Node) (k : ℕ) (m : Node) → node_fewer d before older node k ≡ Some m → Came before older node k m
came d before older node k m h =
    elim (nat_eq d k) as (λ b. cond b None (relinked before older k (node k)) ≡ Some m → Came before older node k m) [
      | true ↦ λ none. absurd (cc)
      | false ↦ λ left. came_relinked before older node k m left
    ] h

-- the link to a row, by the number below which it looks
leads : (next d : ℕ) (before : Option ℕ) (spot : Spot) (node : ℕ → Option Node) (head : Spot → Option ℕ) → IsLinkedBy node head next → PointsBy node head spot before (Some d)
    → first_at spot (entries_below (rows node) (bound_of next before)) ≡ Some d
leads next d None spot node head linked points = sym (linked.newest spot) ∙ points
leads next d (Some p) spot node head linked points =
    let same : spot ≡ spot_under points.it.row = same_spot_is spot (spot_under points.it.row) points.there in
    ap (λ s. first_at s (entries_below (rows node) p)) same ∙ sym (linked.older p points.it points.stands) ∙ points.leads

stands_before : (p : ℕ) (to : Option ℕ) (spot : Spot) (node : ℕ → Option Node) (head : Spot → Option ℕ) → PointsBy node head spot (Some p) to → Stands (rows node) spot p
stands_before p to spot node head points = record { row = points.it.row; here = ap row_of_node points.stands; fits = points.there }

-- nothing else leads to it
only_link : (next d : ℕ) (before : Option ℕ) (spot : Spot) (node : ℕ → Option Node) (head : Spot → Option ℕ) → IsLinkedBy node head next → PointsBy node head spot before (Some d)
    → (k : ℕ) → Stands (rows node) spot k → k < next → (before ≡ Some k → ⊥) → first_at spot (entries_below (rows node) k) ≡ Some d → ⊥
only_link next d None spot node head linked points k stands less other under =
    one_leads spot (rows node) d k next stands less (leads next d None spot node head linked points) under
only_link next d (Some p) spot node head linked points k stands less other under =
    let over = leads next d (Some p) spot node head linked points in
    elim (nat_order k p) [
      | inl below ↦ one_leads spot (rows node) d k p stands below over under
      | inr rest ↦ elim rest [
        | inl same ↦ other (ap (λ n. Some n) (sym same))
        | inr above ↦ one_leads spot (rows node) d p k (stands_before p (Some d) spot node head points) above under over
      ]
    ]

module _ (next d : ℕ) (it : Node) (node : ℕ → Option Node) (head : Spot → Option ℕ) (linked : IsLinkedBy node head next) (here : node d ≡ Some it) where
  newest_fewer : (before : Option ℕ) → PointsBy node head (spot_under it.row) before (Some d)
      → head_fewer before it.older (spot_under it.row) head (spot_under it.row) ≡ first_at (spot_under it.row) (entries_below (at_but d (rows node)) next)
  newest_fewer None points =
      let spot = spot_under it.row in
      ap (λ b. cond b it.older (head spot)) (same_spot_self spot)
      ∙ linked.older d it here
      ∙ sym (first_but spot d (rows node) it.row (ap row_of_node here) (same_spot_self spot) next
      ∙ skipped_it d (first_at spot (entries_below (rows node) d)) (first_at spot (entries_below (rows node) next)) (leads next d None spot node head linked points))
  newest_fewer (Some p) points =
      let spot = spot_under it.row in
      linked.newest spot
      ∙ sym (first_but spot d (rows node) it.row (ap row_of_node here) (same_spot_self spot) next
      ∙ skipped_none d (first_at spot (entries_below (rows node) d)) (first_at spot (entries_below (rows node) next))
      (λ over. one_leads spot (rows node) d p next (stands_before p (Some d) spot node head points) (linked.below p points.it points.stands) over (leads next d (Some p) spot node head linked points)))

  newest_other : (before : Option ℕ) (s : Spot) → same_spot (spot_under it.row) s ≡ false
      → head_fewer before it.older (spot_under it.row) head s ≡ first_at s (entries_below (at_but d (rows node)) next)
  newest_other before s other =
      let stays = linked.newest s ∙ sym (first_stays s d (rows node) it.row (ap row_of_node here) (other_spot (spot_under it.row) s other) next) in
      elim before as (λ o. head_fewer o it.older (spot_under it.row) head s ≡ first_at s (entries_below (at_but d (rows node)) next)) [
        | None ↦ ap (λ b. cond b it.older (head s)) other ∙ stays
        | Some p ↦ stays
      ]

  older_fewer : (before : Option ℕ) → PointsBy node head (spot_under it.row) before (Some d) → (k : ℕ) (m : Node) → Came before it.older node k m → stands_at (spot_under it.row) m.row ≡ true
      → m.older ≡ first_at (spot_under it.row) (entries_below (at_but d (rows node)) k)
  older_fewer before points k m came there =
      let spot = spot_under it.row in
      let but = first_but spot d (rows node) it.row (ap row_of_node here) (same_spot_self spot) k in
      elim came.how [
        | inl stays ↦
            let was : node k ≡ Some m = came.was ∙ ap (λ n. Some n) stays.0 in
            let same : spot_under m.row ≡ spot = sym (same_spot_is spot (spot_under m.row) there) in
            let stands : Stands (rows node) spot k = record { row = m.row; here = ap row_of_node was; fits = there } in
            linked.older k m was ∙ ap (λ s. first_at s (entries_below (rows node) k)) same
            ∙ sym (but ∙ skipped_none d (first_at spot (entries_below (rows node) d)) (first_at spot (entries_below (rows node) k))
            (only_link next d before spot node head linked points k stands (linked.below k m was) stays.1))
        | inr changed ↦
            let P : Option ℕ → Type 0 = λ o. PointsBy node head spot o (Some d) in
            let lead = leads next d (Some k) spot node head linked (subst P changed.0 points) in
            changed.1 ∙ linked.older d it here
            ∙ sym (but ∙ skipped_it d (first_at spot (entries_below (rows node) d)) (first_at spot (entries_below (rows node) k)) lead)
      ]

  older_other : (before : Option ℕ) → PointsBy node head (spot_under it.row) before (Some d) → (k : ℕ) (m : Node) → Came before it.older node k m → stands_at (spot_under it.row) m.row ≡ false
      → m.older ≡ first_at (spot_under m.row) (entries_below (at_but d (rows node)) k)
  older_other before points k m came elsewhere =
      let spot = spot_under it.row in
      let stays = first_stays (spot_under m.row) d (rows node) it.row (ap row_of_node here) (other_spot spot (spot_under m.row) elsewhere) k in
      elim came.how [
        | inl same ↦ linked.older k m (came.was ∙ ap (λ n. Some n) same.0) ∙ sym stays
        | inr changed ↦
            let P : Option ℕ → Type 0 = λ o. PointsBy node head spot o (Some d) in
            let points : PointsBy node head spot (Some k) (Some d) = subst P changed.0 points in
            let one : points.it ≡ came.it = some_is points.it came.it (sym points.stands ∙ came.was) in
            let there : stands_at spot m.row ≡ true = ap (stands_at spot) (sym (ap (λ n. n.row) one ∙ came.same)) ∙ points.there in
            absurd (cc)
      ]

  pub linked_fewer : (before : Option ℕ) → PointsBy node head (spot_under it.row) before (Some d)
      → IsLinkedBy (node_fewer d before it.older node) (head_fewer before it.older (spot_under it.row) head) next
  linked_fewer before points =
      let spot = spot_under it.row in
      let rows_are = sym (rows_fewer d before it.older node) in
      record {
        newest = λ s. elim (same_spot spot s) as (λ b. same_spot spot s ≡ b → head_fewer before it.older spot head s ≡ first_at s (entries_below (rows (node_fewer d before it.older node)) next)) [
          | true ↦ λ t. let P : Spot → Type 0 = λ s. head_fewer before it.older spot head s ≡ first_at s (entries_below (rows (node_fewer d before it.older node)) next) in
              subst P (same_spot_is spot s t) (newest_fewer before points ∙ ap (λ a. first_at spot (entries_below a next)) rows_are)
          | false ↦ λ t. newest_other before s t ∙ ap (λ a. first_at s (entries_below a next)) rows_are
        ] refl;
        older = λ k m is. let from = came d before it.older node k m is in
            elim (stands_at spot m.row) as (λ b. stands_at spot m.row ≡ b → m.older ≡ first_at (spot_under m.row) (entries_below (rows (node_fewer d before it.older node)) k)) [
              | true ↦ λ t. let P : Spot → Type 0 = λ s. m.older ≡ first_at s (entries_below (rows (node_fewer d before it.older node)) k) in
                  subst P (same_spot_is spot (spot_under m.row) t) (older_fewer before points k m from t ∙ ap (λ a. first_at spot (entries_below a k)) rows_are)
              | false ↦ λ t. older_other before points k m from t ∙ ap (λ a. first_at (spot_under m.row) (entries_below a k)) rows_are
            ] refl;
        below = λ k m is. let from = came d before it.older node k m is in linked.below k from.it from.was;
        rising = λ j k l m less is_l is_m.
            let lower = came d before it.older node j l is_l in
            let upper = came d before it.older node k m is_m in
            let rise = linked.rising j k lower.it upper.it less lower.was upper.was in
            let P : StoredRow → Type 0 = λ r. r.place ≤ m.row.place in
            let Q : StoredRow → Type 0 = λ r. lower.it.row.place ≤ r.place in
            subst P lower.same (subst Q upper.same rise);
      }

-- the same, of maps that have it
pub linked_added : (n : ℕ) (it : Node) (node node' : ℕ → Option Node) (head head' : Spot → Option ℕ) → IsLinkedBy node head n → it.older ≡ head (spot_under it.row)
    → ((k : ℕ) (m : Node) → node k ≡ Some m → m.row.place ≤ it.row.place)
    → ((k : ℕ) → node' k ≡ node_more n it node k) → ((s : Spot) → head' s ≡ head_more n (spot_under it.row) head s)
    → IsLinkedBy node' head' (n + 1)
linked_added n it node node' head head' linked older last nodes heads =
    linked_same (node_more n it node) node' (head_more n (spot_under it.row) head) head' (n + 1) nodes heads (linked_more n it node head linked older last)

pub entries_added : (n : ℕ) (it : Node) (node node' : ℕ → Option Node) → ((k : ℕ) → node' k ≡ node_more n it node k)
    → entries_below (rows node') (n + 1) ≡ (n, it.row) ∷ entries_below (rows node) n
entries_added n it node node' nodes =
    same_below (rows node') (rows (node_more n it node)) (n + 1) (λ k h. ap row_of_node (nodes k)) ∙ entries_more n it node

pub linked_taken : (d next : ℕ) (before : Option ℕ) (it : Node) (spot : Spot) (node node' : ℕ → Option Node) (head head' : Spot → Option ℕ) → spot ≡ spot_under it.row
    → IsLinkedBy node head next → node d ≡ Some it → PointsBy node head spot before (Some d)
    → ((k : ℕ) → node' k ≡ node_fewer d before it.older node k) → ((s : Spot) → head' s ≡ head_fewer before it.older spot head s)
    → IsLinkedBy node' head' next
linked_taken d next before it spot node node' head head' same linked here points nodes heads =
    let P : Spot → Type 0 = λ s. PointsBy node head s before (Some d) in
    linked_same (node_fewer d before it.older node) node' (head_fewer before it.older (spot_under it.row) head) head' next nodes
    (λ s. heads s ∙ ap (λ x. head_fewer before it.older x head s) same)
    (linked_fewer next d it node head linked here before (subst P same points))

pub entries_taken : (d next : ℕ) (before older : Option ℕ) (node node' : ℕ → Option Node) → ((k : ℕ) → node' k ≡ node_fewer d before older node k)
    → entries_below (rows node') next ≡ links_without d (entries_below (rows node) next)
entries_taken d next before older node node' nodes =
    same_below (rows node') (rows (node_fewer d before older node)) next (λ k h. ap row_of_node (nodes k))
    ∙ ap (λ a. entries_below a next) (rows_fewer d before older node)
    ∙ entries_but d (rows node) next

pub node_is_some : (o : Option Node) (r : StoredRow) → row_of_node o ≡ Some r → is_some o ≡ true
node_is_some None r h = absurd (cc)
node_is_some (Some n) r h = refl

-- a row of the spot stands under the number of a node
pub node_stands : (node : ℕ → Option Node) (s : Spot) (k : ℕ) (n : Node) → node k ≡ Some n → stands_at s n.row ≡ true → Stands (rows node) s k
node_stands node s k n is fits = record { row = n.row; here = ap row_of_node is; fits = fits }

-- the row that stands under a number is that of its node
pub stands_node : (node : ℕ → Option Node) (s : Spot) (k : ℕ) (n : Node) → node k ≡ Some n → Stands (rows node) s k → stands_at s n.row ≡ true
stands_node node s k n is stands = ap (stands_at s) (some_is n.row stands.row (sym (ap row_of_node is) ∙ stands.here)) ∙ stands.fits

-- the next older row of its spot
pub older_is : (node : ℕ → Option Node) (head : Spot → Option ℕ) (next : ℕ) (s : Spot) (k : ℕ) (n : Node) → IsLinkedBy node head next → node k ≡ Some n → stands_at s n.row ≡ true
    → n.older ≡ first_at s (entries_below (rows node) k)
older_is node head next s k n linked is fits =
    linked.older k n is ∙ ap (λ x. first_at x (entries_below (rows node) k)) (sym (same_spot_is s (spot_under n.row) fits))
