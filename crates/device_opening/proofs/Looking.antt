-- What reads of a place tell.
use Rattle.std.proofs.Common.{◌≡◌, ℕ, ◌≤◌, true, false, List, length, Option, None, sym, ap, ◌∙◌, arith}
use Rattle.std.specs.declared.alloc.AllocError.{AllocError}
use Rattle.device_log.specs.Image.{Image, IsImage, span}
use Rattle.device_log.proofs.Spans.{span_one}
use Rattle.logged_disk.specs.Device.{DeviceState as Device}
use Rattle.tape_base.specs.Blocks.{blocks_of}
use Rattle.stripe_header.specs.declared.area.Area.{Area}
use Rattle.stripe_header.specs.declared.states.CopyState.{CopyState}
use Rattle.stripe_header.specs.Layout.{block_of_place}
use Rattle.doc_header.specs.Reading.{length_of}
use Rattle.dir_table.specs.declared.rows.StoredRow.{StoredRow}
use Rattle.cache_model.specs.declared.findings.FoundRow.{FoundRow}
use Rattle.device_reads.specs.declared.reads.ReadFault.{ReadFault}
use Rattle.device_reads.specs.declared.reads.ReadFault.TheVariants.{Memory}
use Rattle.device_reads.specs.Reads.{Fails, Reads}
use Rattle.device_reads.proofs.Telling.{fails_then, reads_as, reads_then, wants_behind}
use Rattle.reopening.specs.Heads.{head_passes}
use Rattle.reopening.specs.Tests.{judged, standing_at}
use Rattle.reopening.specs.Documents.{document_at}
use Rattle.reopening.proofs.Heads.{first_blocks_decide, heads_tell}
use Rattle.device_opening.specs.declared.window.Window.{Window}
use Rattle.device_opening.specs.Tape.{Shows, end_of_window}

-- these bytes are so many blocks from one on, as a window shows them
abbrev pub ShowsPart : Window → ℕ → ℕ → List ℕ → Type 0
ShowsPart w at n bytes = (c : Image) → ((j : ℕ) → length (c j) ≡ 512) → Shows w c → bytes ≡ span c at n

module _ (a : Area) (told : CopyState) (group : List StoredRow) (place : ℕ) (s t u : Device) (one two three : Window) (at : ℕ) (here : at ≡ block_of_place a place) where
  abbrev Goes : Window → Window → Image → Type 0
  Goes from to c = Shows from c → Shows to c

  abbrev Finds : Window → Option FoundRow → Image → Type 0
  Finds to found c = Shows one c → Shows to c × (found ≡ standing_at a told group c place)

  module _ (first : Reads (end_of_window one) (end_of_window two) 1 s t (Goes one two)) (head : List ℕ) (is_head : ShowsPart two at 1 head) where
    first_block : (c : Image) → IsImage c → Shows two c → head ≡ c (block_of_place a place)
    first_block c image shows = is_head c image.whole shows ∙ (span_one c at ∙ ap c here)

    pub none_stands : head_passes a.geometry told.cursor place head ≡ false → Reads (end_of_window one) (end_of_window two) 2 s t (Finds two None)
    none_stands refused =
        reads_as (end_of_window one) (end_of_window two) (end_of_window two) 1 2 s t (Goes one two) (Finds two None) (omega arith) (omega arith)
        (λ c image told_so shows.
        let seen = told_so shows in
        (seen, sym (first_blocks_decide a told group c place image (ap (head_passes a.geometry told.cursor place) (sym (first_block c image seen)) ∙ refused))))
        first

    pub rest_fails : (limit : ℕ) (e : ReadFault) → Fails (end_of_window two) limit 1 t u e → Fails (end_of_window one) limit 2 s u e
    rest_fails limit e fails = fails_then (end_of_window one) (end_of_window two) limit 1 1 s t u (Goes one two) e first fails

    module _ (rest : Reads (end_of_window two) (end_of_window three) 1 t u (Goes two three)) where
      both : Reads (end_of_window one) (end_of_window three) 2 s u (λ c. Goes one two c × Goes two three c)
      both = reads_then (end_of_window one) (end_of_window two) (end_of_window three) 1 1 s t u (Goes one two) (Goes two three) first rest

      pub judge_wants : (limit : ℕ) → end_of_window three ≤ limit → (e : AllocError) → Fails (end_of_window one) limit 2 s u (Memory e)
      judge_wants limit within e =
          wants_behind (end_of_window one) limit 2 s u (λ c. Goes one two c × Goes two three c) e
          (reads_as (end_of_window one) (end_of_window three) limit 2 2 s u (λ c. Goes one two c × Goes two three c) (λ c. Goes one two c × Goes two three c) within (omega arith) (λ c image is. is) both)

      pub one_stands : (n : ℕ) → n ≡ blocks_of (length_of head) → head_passes a.geometry told.cursor place head ≡ true → (bytes : List ℕ) → ShowsPart three at n bytes
          → (found : Option FoundRow) → found ≡ judged a.geometry told group place bytes → Reads (end_of_window one) (end_of_window three) 2 s u (Finds three found)
      one_stands n count passes bytes shown found is =
          reads_as (end_of_window one) (end_of_window three) (end_of_window three) 2 2 s u (λ c. Goes one two c × Goes two three c) (Finds three found) (omega arith) (omega arith)
          (λ c image told_so shows.
          let two_is = told_so.0 shows in
          let seen = told_so.1 two_is in
          let first_is = first_block c image two_is in
          let whole : document_at a c place ≡ span c (block_of_place a place) n =
          heads_tell a told.cursor c place (ap (head_passes a.geometry told.cursor place) (sym first_is) ∙ passes)
          ∙ ap (span c (block_of_place a place)) (ap (λ l. blocks_of (length_of l)) (sym first_is) ∙ sym count) in
          let same : bytes ≡ document_at a c place = shown c image.whole seen ∙ (ap (λ k. span c k n) here ∙ sym whole) in
          (seen, is ∙ ap (judged a.geometry told group place) same))
          both
