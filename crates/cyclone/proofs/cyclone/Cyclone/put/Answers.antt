use Rattle.std.proofs.Common.{◌≡◌, ◌+◌, refl, sym, ◌∙◌, ap, subst, arith}
use Rattle.doc_header.specs.Document.{document_bytes, IsDocument}
use Rattle.doc_header.specs.Reading.{document_digest}
use Rattle.agg_buffer.specs.Buffer.{bytes_at, next_place_of}
use Rattle.tape_base.specs.Piece.{key_of_piece}
use Rattle.dir_table.specs.declared.rows.DirRow.{DirRow}
use Rattle.dir_table.specs.declared.window.Window.{Window}
use Rattle.dir_table.specs.Displacement.{Displaces}
use Rattle.dir_table.specs.Entering.{TakesRow}
use Rattle.dir_table.specs.Rows.{row_of_key, plain_row, plain_rows}
use Rattle.dir_table.proofs.Plainly.{plain_takes}
use Rattle.cyclone.specs.Cyclone.{seen_cyclone}
use Rattle.cyclone.proofs.Turning.{put_turns}
use Rattle.cyclone.proofs.cyclone.Cyclone.put.Goals as goal

pub returns-clause-document : goal.returns-clause-document
returns-clause-document g c =
    let d = c.args.doc.now in
    let bytes = document_bytes d c.args.payload.now in
    let there = c.put_document.ensures.added.readable in
    let given : c.get.result.now ≡ bytes =
    c.get.ensures.bytes ∙ (ap (λ p. bytes_at c.put_document.new.self p c.blocks_of-blocks.result) c.requires.place
    ∙ (ap (λ n. bytes_at c.put_document.new.self (next_place_of c.args.self.now.buffer) n) (c.blocks_of-blocks.ensures ∙ sym c.put_document.ensures.size) ∙ there)) in
    c.document_digest-document.ensures.document d.generation d.place d c.args.payload.now
    (subst (λ b. IsDocument b d.generation d.place d c.args.payload.now) (sym given) c.put_document.ensures.document)

pub returns-clause-again : goal.returns-clause-again
returns-clause-again g c =
    let there = c.put_document.ensures.added.readable in
    let given : c.get.result.now ≡ document_bytes c.args.doc.now c.args.payload.now =
    c.get.ensures.bytes ∙ (ap (λ p. bytes_at c.put_document.new.self p c.blocks_of-blocks.result) c.requires.place
    ∙ (ap (λ n. bytes_at c.put_document.new.self (next_place_of c.args.self.now.buffer) n) (c.blocks_of-blocks.ensures ∙ sym c.put_document.ensures.size) ∙ there)) in
    ap document_digest (sym given) ∙ sym c.document_digest-document.ensures.digest

pub returns-clause-put : goal.returns-clause-put
returns-clause-put g c =
    let before = g.R.Directory.window c.args.self.now.directory in
    let ends : c.args.doc.now.place + c.blocks_of-blocks.result ≡ next_place_of c.put_document.new.self =
    omega (arith, c.requires.place, c.blocks_of-blocks.ensures, c.put_document.ensures.size, c.put_document.ensures.added.next) in
    let old = seen_cyclone c.args.self.now in
    let enters = c.insert.ensures.rows in
    let stored = g.R.Directory.rows c.args.self.now.directory in
    let after = g.R.Directory.rows c.insert.new.self in
    let displaced = g.R.Directory.displaced c.insert.new.self in
    let row : DirRow = row_of_key old.geometry (key_of_piece c.args.doc.now.id) c.args.doc.now.place in
    let there : plain_row enters.row ≡ row = rw (sym c.requires.turns.geometry, sym c.of_piece.ensures) enters.is.there in
    record {
      geometry = refl;
      least = refl;
      buffer = c.put_document.ensures.added;
      gone = plain_rows enters.gone;
      rows = subst (λ (r : DirRow). TakesRow r (plain_rows enters.gone) (plain_rows stored) (plain_rows after)) there
          (plain_takes enters.row enters.gone stored after enters.takes);
      displaced = subst (λ (r : DirRow). Displaces g.R.Directory.purges before r (plain_rows stored) (plain_rows enters.gone) displaced) there enters.displaced;
      window = c.insert.ensures.window ∙ ap (λ e. let w : Window = record before { end = e } in w) ends;
      spare = c.insert.ensures.spare;
      device = refl;
    }

pub returns-clause-entered : goal.returns-clause-entered
returns-clause-entered g c = rw (sym c.of_piece.ensures, sym c.blocks_of-blocks.ensures) c.insert.ensures.rows

pub returns-clause-turns : goal.returns-clause-turns
returns-clause-turns g c = put_turns g.R.Directory.purges _ _ c.args.doc.now c.args.payload.now c.requires.turns (returns-clause-put g c) c.requires.place c.put_document.ensures.size
