use Rattle.std.proofs.Common.{◌+◌, ◌++◌, length, take, drop, sym, ap, ◌∙◌, subst}
use Rattle.doc_header.specs.Document.{IsDocument}
use Rattle.doc_header.specs.Moving.{doc_moved_to}
use Rattle.doc_header.proofs.MovingLaws.{moved_in_two, moved_document}
use Rattle.doc_header.proofs.moving.move_document.Goals as goal

pub returns-clause-moved : goal.returns-clause-moved
returns-clause-moved c =
    let bytes = c.args.bytes.now in
    let placed = c.replace.ensures.bytes ∙ ap (λ field. take 48 bytes ++ field ++ drop (48 + length field) bytes) c.to_le_bytes.ensures in
    c.check_anew.ensures.bytes ∙ moved_in_two c.args.place bytes c.replace.new.bytes c.requires.header placed

pub returns-clause-document : goal.returns-clause-document
returns-clause-document c generation before doc payload d =
    subst (λ bytes. IsDocument bytes generation c.args.place (doc_moved_to c.args.place doc) payload) (sym (returns-clause-moved c))
    (moved_document c.args.place c.args.bytes.now generation before doc payload c.ranges.place.fits d)
