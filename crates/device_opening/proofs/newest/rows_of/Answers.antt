use Rattle.std.proofs.Common.{sym, subst}
use Rattle.reopening.specs.Faults.{IsOpenFault}
use Rattle.device_opening.proofs.Choosing.{directory_read, directory_refused, rows_read}
use Rattle.device_opening.proofs.newest.rows_of.Goals as goal

pub returns-in-Ok-clause-rows : goal.returns-in-Ok-clause-rows
returns-in-Ok-clause-rows c = λ image is taken.
    let a = c.args.area.now in
    let t = c.args.taken.now in
    let bytes = c.directory_in-bytes.result.now in
    let read = directory_read a image is t taken c.deref.result.now bytes c.deref.ensures.value c.directory_in-bytes.ensures.bytes in
    rows_read a image t bytes read c.in-Ok.ensures.sound c.in-Ok.rows.items c.in-Ok.ensures.rows

pub returns-in-Err-clause-fault : goal.returns-in-Err-clause-fault
returns-in-Err-clause-fault c = λ image is taken.
    let a = c.args.area.now in
    let t = c.args.taken.now in
    let bytes = c.directory_in-bytes.result.now in
    let read = directory_read a image is t taken c.deref.result.now bytes c.deref.ensures.value c.directory_in-bytes.ensures.bytes in
    subst (IsOpenFault a image) (sym c.directory_fault.ensures) (directory_refused a image t taken bytes read c.in-Err.fault c.in-Err.ensures.fault)
