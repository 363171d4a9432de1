-- Feeding ends where all bytes are taken.
use Rattle.std.proofs.Common.{◌≡◌, ℕ, zero, suc, ◌+◌, ◌<◌, ◌≤◌, List, [], ◌∷◌, ◌++◌, refl, sym, ◌∙◌, ap, subst, arith, Bool, true, false, length, take, drop}
use Rattle.std.specs.Prelude.{None, ◌==◌}
use Rattle.std.proofs.lemmas.List.{length-append, drop_all}
use Rattle.std.proofs.Math.Seq.{take-append-add, drop-append_seam, take-length}
use Rattle.fragment_table.specs.Table.{total_length}
use Rattle.cache_model.specs.State.{State, most_fragments}
use Rattle.cache_model.specs.Verdict.{cuts_of}
use Rattle.cache_model.specs.Permit.{Fragment, Intent}
use Rattle.call_laws.specs.Moments.{At}
use Rattle.call_laws.specs.Progress.{AllDone}
use Rattle.call_laws.specs.Serves.{Serves}
use Rattle.cache_calls.specs.Actors.{IsAtHand, WriterSeen}
use Rattle.cache_calls.specs.Asked.{cuts_next, fills_fragment, gathered_with}
use Rattle.cache_calls.specs.Keeping.{state_at}
use Rattle.script_run.specs.Asked.{feed_intents, rest_behind, whole_fragments}
use Rattle.script_run.proofs.Ended.{IsFoundOpen, open_row}
use Rattle.line_calls.proofs.CutBodies.{cut_first, cut_short, not_most, rest_first, rest_short, whole_first, whole_short}
use Rattle.line_calls.proofs.FeedRounds.{Cuts, Gathers, Wrote, cuts, few, gathers}
use Rattle.cache_replay.proofs.FeedEnds.{Ends, length_more, total_more}

module _ (now : ℕ) (old new : At) (w v : WriterSeen) (bytes : List ℕ) (n : ℕ) (h : Wrote now old new w v bytes n) (all_taken : n ≡ length bytes) where
  abbrev s : State
  s = state_at old

  abbrev f : ℕ
  f = s.geometry.fragment

  abbrev all : List ℕ
  all = w.gathered ++ bytes

  some : 0 < f
  some = s.geometry.accepted.fragment_fits.0

  size : length all ≡ length w.gathered + length bytes
  size = length-append w.gathered bytes

  took : take n bytes ≡ bytes
  took = ap (λ k. take k bytes) all_taken ∙ take-length bytes

  -- a fragment was gathered, and no more
  last_cut : Cuts now old new w v bytes n → Ends now old new w v bytes n None
  last_cut c =
      let rows_total : total_length v.cuts ≡ total_length w.cuts + f = total_more w.cuts v.cuts c.row c.rows ∙ ap (λ k. total_length w.cuts + k) c.size in
      let whole : f ≤ length all = omega (arith, size, all_taken, c.full) in
      let few : length w.gathered < f = few now old new w v bytes n h in
      let take_is : take f all ≡ gathered_with w bytes n = ap (λ k. take k all) (sym c.full) ∙ take-append-add w.gathered bytes n in
      let drop_is : drop f all ≡ [] = drop_all f all (omega (arith, size, all_taken, c.full)) in
      let room : (length w.cuts == most_fragments) ≡ false = not_most (length w.cuts) (h.takes.few (omega (arith, few, c.full, all_taken))) in
      let intents : feed_intents f w.put (length w.cuts) all ≡ cuts_next w (gathered_with w bytes n) ∷ [] =
      cut_first f w.put (length w.cuts) all some whole room
      ∙ (ap (λ xs. Fragment w.put (length w.cuts + 1) xs ∷ feed_intents f w.put (length w.cuts + 1) (drop f all)) take_is
      ∙ ap (λ xs. cuts_next w (gathered_with w bytes n) ∷ feed_intents f w.put (length w.cuts + 1) xs) drop_is) in
      record {
        feeds = record { open_still = h.takes.taking.1; serves = subst (λ (is : List Intent). Serves now old new is AllDone) (sym intents) c.serves };
        counts = tt;
        takes = all_taken;
        fed = record {
          put = h.gathers.put;
          sealed = h.gathers.sealed;
          gathered = λ front sized.
              let items : length (w.gathered ++ take n bytes) ≡ f =
              length-append w.gathered (take n bytes) ∙ (ap (λ k. length w.gathered + k) (ap length took ∙ sym all_taken) ∙ c.full) in
              let both : length (front ++ (w.gathered ++ take n bytes)) ≡ length front + length (w.gathered ++ take n bytes) =
              length-append front (w.gathered ++ take n bytes) in
              c.empty ∙ sym (drop_all (total_length v.cuts) (front ++ (w.gathered ++ take n bytes)) (omega (arith, both, items, sized, rows_total)));
          within = omega (arith, rows_total, c.full);
        };
        cut = record {
          fragments = length_more w.cuts v.cuts c.row c.rows
              ∙ ap (λ k. length w.cuts + k) (sym (whole_first f all some whole ∙ ap (λ xs. whole_fragments f xs + 1) drop_is));
          rest = c.empty ∙ sym (rest_first f all some whole ∙ ap (rest_behind f) drop_is);
        };
        writing = c.stands.writing;
        own = h.adds;
        grown = let same : total_length (cuts_of (state_at new) w.put) ≡ total_length v.cuts = ap total_length c.stands.cuts in omega (arith, same, rows_total);
        told = h.told;
      }

  -- it is not gathered yet
  last_gathers : Gathers now old new w v bytes n → Ends now old new w v bytes n None
  last_gathers c =
      let short : length all < f = omega (arith, size, all_taken, c.short) in
      let o : IsFoundOpen s w.put = open_row s w.put h.takes.taking.0 in
      let here : IsAtHand s.geometry o.w w = h.own o.w o.found o.is_open in
      let room : 0 < length all → (length w.cuts == most_fragments) ≡ false =
      λ bytes_some. not_most (length w.cuts)
      (may_more (length w.gathered) (length bytes) (length all) (length o.w.cuts) (length w.cuts) size bytes_some here.more (ap length here.cuts_are) h.takes.few) in
      let intents : feed_intents f w.put (length w.cuts) all ≡ [] = cut_short f w.put (length w.cuts) all some short room in
      let items : v.gathered ≡ all = c.items ∙ ap (λ xs. w.gathered ++ xs) took in
      record {
        feeds = record { open_still = h.takes.taking.1; serves = subst (λ (is : List Intent). Serves now old new is AllDone) (sym intents) c.serves };
        counts = tt;
        takes = all_taken;
        fed = record {
          put = h.gathers.put;
          sealed = h.gathers.sealed;
          gathered = λ front sized.
              c.items
              ∙ sym (ap (λ k. drop k (front ++ (w.gathered ++ take n bytes))) (ap total_length c.rows ∙ sym sized)
              ∙ drop-append_seam front (w.gathered ++ take n bytes));
          within = let same : total_length v.cuts ≡ total_length w.cuts = ap total_length c.rows in omega (arith, same);
        };
        cut = record {
          fragments = ap length c.rows ∙ sym (ap (λ k. length w.cuts + k) (whole_short f all some short) ∙ zero_more (length w.cuts));
          rest = items ∙ sym (rest_short f all some short);
        };
        writing = c.stands.writing;
        own = h.adds;
        grown = let same : total_length (cuts_of (state_at new) w.put) ≡ total_length w.cuts = ap total_length (c.stands.cuts ∙ c.rows) in omega (arith, same);
        told = h.told;
      }
    where
      zero_more : (k : ℕ) → k + 0 ≡ k
      zero_more k = omega arith

      may_more : (g len both cuts rows : ℕ) → both ≡ g + len → 0 < both → (0 < g → cuts < most_fragments) → cuts ≡ rows → (0 < len → rows < most_fragments)
          → rows < most_fragments
      may_more zero len both cuts rows sum some more same new = new (omega (arith, sum, some))
      may_more (suc g) len both cuts rows sum some more same new = let up : cuts < most_fragments = more (omega arith) in omega (arith, up, same)

  ends_by : (b : Bool) → fills_fragment s.geometry w n ≡ b → Ends now old new w v bytes n None
  ends_by true e = last_cut (cuts now old new w v bytes n h e)
  ends_by false e = last_gathers (gathers now old new w v bytes n h e)

  pub last_ends : Ends now old new w v bytes n None
  last_ends = ends_by (fills_fragment s.geometry w n) refl
