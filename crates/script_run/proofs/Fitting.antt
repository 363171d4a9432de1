-- What each line asks fits what the writer of its put took.
use Rattle.cache_model.specs.State.{most_fragments}
use Rattle.std.proofs.Common.{◌≡◌, ℕ, zero, suc, ◌+◌, ◌-◌, ◌*◌, ◌<◌, ◌≤◌, List, [], ◌∷◌, ◌++◌, length, take, drop, refl, sym, ◌∙◌, ap, arith, Bool, true, false}
use Rattle.std.specs.Prelude.{min, if◌then◌else◌, nat_le, ◌==◌}
use Rattle.std.proofs.lemmas.Bool.{leb-true}
use Rattle.std.proofs.lemmas.List.{drop-drop, length-drop, length-take-le, take_all}
use Rattle.fragment_table.specs.Table.{total_length}
use Rattle.cache_model.specs.Permit.{Intent, Fragment, Overflow}
use Rattle.cache_model.proofs.Found.{no_truth}
use Rattle.script_run.specs.Run.{Stream}
use Rattle.script_run.specs.Own.{rows_of_parts}
use Rattle.script_run.specs.Asked.{body_intents, close_intents, cut_intents, feed_intents, rest_among, rest_behind, whole_among, whole_fragments}
use Rattle.script_run.proofs.Cuts.{total_rows}
use Rattle.script_run.proofs.Placed.{IsPiece, start_next}
use Rattle.script_run.proofs.Grown.{AllFit}

module _ (fragment : ℕ) (streams : ℕ → Stream) where
  pub all_fit_append : (xs ys : List Intent) → AllFit fragment streams xs → AllFit fragment streams ys → AllFit fragment streams (xs ++ ys)
  all_fit_append [] ys front back = back
  all_fit_append (i ∷ xs) ys front back = λ small. let now = front small in (now.0, all_fit_append xs ys now.1 back)

  module _ (put : ℕ) where
    abbrev Body : List ℕ
    Body = (streams put).bytes

    -- ---- bytes that are cut

    next_drop : (cut : ℕ) (bytes : List ℕ) → bytes ≡ drop (cut * fragment) Body → drop fragment bytes ≡ drop ((cut + 1) * fragment) Body
    next_drop cut bytes is = let e : cut * fragment + fragment ≡ (cut + 1) * fragment = omega arith in ap (drop fragment) is ∙ (drop-drop fragment (cut * fragment) Body ∙ ap (λ n. drop n Body) e)

    first_piece : (cut : ℕ) (bytes : List ℕ) → bytes ≡ drop (cut * fragment) Body → fragment ≤ length bytes → IsPiece fragment streams put (cut + 1) (take fragment bytes)
    first_piece cut bytes is long = record {
      is = ap (take fragment) (is ∙ ap (λ at. drop at Body) (start_next cut fragment));
      full = λ unsealed. length-take-le fragment bytes long;
    }

    cut_by : (cut : ℕ) (bytes : List ℕ) (rest : List Intent) (over whole : Bool) → nat_le fragment (length bytes) ≡ whole → bytes ≡ drop (cut * fragment) Body → AllFit fragment streams rest
        → AllFit fragment streams (if over then Overflow put ∷ [] else if whole then Fragment put (cut + 1) (take fragment bytes) ∷ rest else [])
    cut_by cut bytes rest true whole e is fits = λ small. (tt, tt)
    cut_by cut bytes rest false true e is fits = λ small. (first_piece cut bytes is (leb-true fragment (length bytes) e), fits)
    cut_by cut bytes rest false false e is fits = tt

    pub cuts_fit : (most cut : ℕ) (bytes : List ℕ) → bytes ≡ drop (cut * fragment) Body → AllFit fragment streams (cut_intents most fragment put cut bytes)
    cuts_fit zero cut bytes is = tt
    cuts_fit (suc most) cut [] is = tt
    cuts_fit (suc most) cut (byte ∷ bytes) is =
        cut_by cut (byte ∷ bytes) (cut_intents most fragment put (cut + 1) (drop fragment (byte ∷ bytes))) (cut == most_fragments) (nat_le fragment (length (byte ∷ bytes))) refl is
        (cuts_fit most (cut + 1) (drop fragment (byte ∷ bytes)) (next_drop cut (byte ∷ bytes) is))

    -- ---- a put that closes

    abbrev Total : ℕ → ℕ
    Total cut = total_length (rows_of_parts fragment Body 1 cut)

    -- the rest stands behind what is cut
    pub record IsRest (cut : ℕ) (rest : List ℕ) : Type 0 where
      pub is : rest ≡ drop (Total cut) Body
      pub sealed : (streams put).sealed ≡ true

    sizes : (cut : ℕ) (rest : List ℕ) → IsRest cut rest → length rest ≡ length Body - min (cut * fragment) (length Body)
    sizes cut rest r = ap length r.is ∙ (length-drop (Total cut) Body ∙ ap (λ n. length Body - n) (total_rows fragment Body cut))

    none_left : (cut : ℕ) → IsRest cut [] → Total cut ≡ length Body
    none_left cut r = let size : 0 ≡ length Body - min (cut * fragment) (length Body) = sizes cut [] r in total_rows fragment Body cut ∙ omega (arith, size)

    last_piece : (cut : ℕ) (byte : ℕ) (bytes : List ℕ) → IsRest cut (byte ∷ bytes) → length (byte ∷ bytes) ≤ fragment → IsPiece fragment streams put (cut + 1) (byte ∷ bytes)
    last_piece cut byte bytes r small =
        let size : length (byte ∷ bytes) ≡ length Body - min (cut * fragment) (length Body) = sizes cut (byte ∷ bytes) r in
        let some : 0 < length (byte ∷ bytes) = omega arith in
        let total : Total cut ≡ cut * fragment = total_rows fragment Body cut ∙ omega (arith, size, some) in
        record {
          is = sym (take_all fragment (byte ∷ bytes) small) ∙ ap (take fragment) (r.is ∙ ap (λ at. drop at Body) (total ∙ start_next cut fragment));
          full = λ unsealed. no_truth (sym r.sealed ∙ unsealed);
        }

    ends_there : (cut size total : ℕ) → size ≤ fragment → 0 < size → size ≡ total - min (cut * fragment) total → min ((cut + 1) * fragment) total ≡ total
    ends_there cut size total small some is = omega (arith, small, some, is)

    all_cut : (cut : ℕ) (byte : ℕ) (bytes : List ℕ) → IsRest cut (byte ∷ bytes) → length (byte ∷ bytes) ≤ fragment → Total (cut + 1) ≡ length Body
    all_cut cut byte bytes r small =
        total_rows fragment Body (cut + 1) ∙ ends_there cut (length (byte ∷ bytes)) (length Body) small (omega arith) (sizes cut (byte ∷ bytes) r)

    pub closing_fits : (cut : ℕ) (rest : List ℕ) → IsRest cut rest → AllFit fragment streams (close_intents put cut rest)
    closing_fits cut [] r = λ a. (tt, λ b. (none_left cut r, λ c. (tt, tt)))
    closing_fits cut (byte ∷ bytes) r = λ a. (tt, λ small. (last_piece cut byte bytes r small, λ b. (all_cut cut byte bytes r small, λ c. (tt, tt))))

    -- ---- a whole body

    record IsRestOf (whole : ℕ) (rest bytes : List ℕ) : Type 0 where
      is : rest ≡ drop (whole * fragment) bytes
      within : whole * fragment ≤ length bytes

    none_whole : (bytes : List ℕ) → IsRestOf 0 bytes bytes
    none_whole bytes = let none : 0 ≡ 0 * fragment = omega arith in record { is = ap (λ n. drop n bytes) none; within = omega arith }

    rest_by : (bytes rest : List ℕ) (whole : ℕ) (b : Bool) → nat_le fragment (length bytes) ≡ b → IsRestOf whole rest (drop fragment bytes) → IsRestOf (if b then whole + 1 else 0) (if b then rest else bytes) bytes
    rest_by bytes rest whole true e r =
        let long : fragment ≤ length bytes = leb-true fragment (length bytes) e in
        let at : fragment + whole * fragment ≡ (whole + 1) * fragment = omega arith in
        let within : whole * fragment ≤ length (drop fragment bytes) = r.within in
        record {
          is = r.is ∙ (drop-drop (whole * fragment) fragment bytes ∙ ap (λ n. drop n bytes) at);
          within = omega (arith, long, at, within, length-drop fragment bytes);
        }
    rest_by bytes rest whole false e r = none_whole bytes

    rest_of : (most : ℕ) (bytes : List ℕ) → IsRestOf (whole_among most fragment bytes) (rest_among most fragment bytes) bytes
    rest_of zero bytes = none_whole bytes
    rest_of (suc most) bytes =
        rest_by bytes (rest_among most fragment (drop fragment bytes)) (whole_among most fragment (drop fragment bytes)) (nat_le fragment (length bytes)) refl (rest_of most (drop fragment bytes))

    pub body_fits : (streams put).sealed ≡ true → AllFit fragment streams (body_intents fragment put Body)
    body_fits sealed =
        let r : IsRestOf (whole_fragments fragment Body) (rest_behind fragment Body) Body = rest_of (length Body) Body in
        let none : 0 ≡ 0 * fragment = omega arith in
        let within : whole_fragments fragment Body * fragment ≤ length Body = r.within in
        let at : whole_fragments fragment Body * fragment ≡ Total (whole_fragments fragment Body) = omega (arith, within, total_rows fragment Body (whole_fragments fragment Body)) in
        all_fit_append (feed_intents fragment put 0 Body) (close_intents put (whole_fragments fragment Body) (rest_behind fragment Body))
        (cuts_fit (length Body) 0 Body (ap (λ n. drop n Body) none))
        (closing_fits (whole_fragments fragment Body) (rest_behind fragment Body) (record { is = r.is ∙ ap (λ n. drop n Body) at; sealed = sealed }))
