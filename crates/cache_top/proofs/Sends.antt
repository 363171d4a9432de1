-- The cache of the program goes to another thread as its device does: of each type on the way, that it is `Send`.
use denote.RattleType.{RattleType}
use denote.Param.Send.{IsSend, owning_send, sendable}
use denote.Param.SendFields.{as_row_send, declared_send}
use Rattle.std.proofs.Crossing as heap
use Rattle.std.proofs.MapsCrossing as maps
use Rattle.cache_chronicle.proofs.tables.Tables.TheSendSync as tables
use Rattle.cache_chronicle.specs.contracts.full.FullChronicle as FullChronicle
use Rattle.cache_chronicle.specs.contracts.full.FullChronicle.TheInside as Tallied
use Rattle.cache_chronicle.specs.contracts.records.GhostRecords as GhostRecords
use Rattle.cache_chronicle.specs.declared.chronicle.Chronicle as chronicle
use Rattle.logged_disk.specs.declared.device.Disk as disk
use Rattle.packed_directory.proofs.packed.PackedDirectory.TheSendSync as packed
use Rattle.packed_directory.specs.contracts.packed.PackedDirectory as PackedDirectory
use Rattle.stripe_calls.below.dir_table.specs.declared.directory.Directory as directory
use Rattle.stripe_calls.below.open_directory.proofs.kept.KeptPut.TheSendSync as put
use Rattle.stripe_calls.below.open_directory.proofs.kept.Writer.TheSendSync as writer
use Rattle.stripe_calls.below.open_directory.proofs.nexts.Nexts.TheLaws.TheKnot.{send-Nexts}
use Rattle.stripe_calls.below.open_directory.proofs.readers.Readers.TheSendSync as readers
use Rattle.stripe_calls.below.open_directory.specs.contracts.directory.OpenDirectory as OpenDirectory
use Rattle.stripe_calls.below.open_directory.specs.contracts.directory.OpenDirectory.TheInside as Opened
use Rattle.stripe_calls.below.open_directory.specs.contracts.index.Index as Index
use Rattle.stripe_calls.below.open_directory.specs.contracts.nexts.Nexts as Nexts
use Rattle.stripe_calls.below.open_directory.specs.contracts.nexts.Sides as Sides
use Rattle.stripe_calls.below.piece_answers.proofs.ahead.Ahead.TheSendSync as ahead
use Rattle.stripe_calls.below.stripe_actors.specs.contracts.actors.Actors as Actors
use Rattle.stripe_calls.below.stripe_actors.specs.contracts.actors.Actors.TheInside as Acting
use Rattle.stripe_calls.below.stripe_core.specs.contracts.stripe.Stripe as Stripe
use Rattle.stripe_calls.below.stripe_pieces.proofs.pieces.Pieces.TheSendSync as pieces
use Rattle.stripe_calls.specs.contracts.cache.StripeCache as StripeCache

-- the records own nothing beside their field, which `search` cannot know
records_send : IsSend GhostRecords.the_row
records_send = owning_send GhostRecords.the_type (search sendable, tt) (λ d. tt) (λ k x w. tt)

tallied_send : IsSend Tallied.the_row
tallied_send = declared_send Tallied.the_type (search (records_send, sendable), (search sendable, (tables.the_send, tt)))

pub packed_send : IsSend PackedDirectory.the_row
packed_send = packed.the_send

pub chronicle_send : IsSend FullChronicle.the_row
chronicle_send = search (tallied_send, sendable)

-- the tree holds itself in boxes
nexts_send : IsSend Nexts.the_row
nexts_send = as_row_send Nexts.the_field (send-Nexts (search sendable) (search sendable) (search sendable) heap.Box-send)

sides_send : IsSend Sides.the_row
sides_send = let s = heap.Box-send Nexts.the_row nexts_send in declared_send Sides.the_type (search sendable, (search sendable, tt))

index_send : IsSend Index.the_row
index_send = declared_send Index.the_type (search (nexts_send, maps.crosses, heap.crosses, sendable) depth 20, (search (sides_send, heap.crosses, sendable) depth 20, tt))

opened_send : IsSend Opened.the_row
opened_send = declared_send Opened.the_type
    (search sendable depth 20, (search (writer.the_send, heap.crosses, sendable) depth 20, (search (put.the_send, maps.crosses, heap.crosses, sendable) depth 20, (search (readers.the_send, sendable), (index_send, tt)))))

directory_send : IsSend OpenDirectory.the_row
directory_send = search (opened_send, sendable)

acting_send : IsSend Acting.the_row
acting_send = declared_send Acting.the_type (search (directory_send, sendable), (search sendable, (search sendable, tt)))

actors_send : IsSend Actors.the_row
actors_send = search (acting_send, sendable)

module _ (D R C : RattleType) (d : disk.Ghosts D.Denot) (r : directory.Ghosts R.Denot) (c : chronicle.Ghosts C.Denot) where
  stripe_send : IsSend D → IsSend R → IsSend C → IsSend (Stripe.the_row D R C d r c)
  stripe_send sd sr sc = declared_send (Stripe.the_type D R C d r c)
      (heap.send, (pieces.the_send D R C d r c sd sr sc, (search (actors_send, sendable), (ahead.the_send, (search sendable, (search sendable, tt))))))

  pub cache_send : IsSend D → IsSend R → IsSend C → IsSend (StripeCache.the_row D R C d r c)
  cache_send sd sr sc = declared_send (StripeCache.the_type D R C d r c) (stripe_send sd sr sc, tt)
