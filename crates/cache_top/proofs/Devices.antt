-- The devices of the program go to other threads: of each type on the way, that it is `Send`.
use denote.RattleType.{RattleType}
use denote.Param.Send.{IsSend, owning_send, sendable}
use denote.Param.SendFields.{declared_send, variants_send}
use Rattle.std.proofs.Crossing as heap
use Rattle.std.proofs.MapsCrossing as maps
use Rattle.std.specs.contracts.fs.File as File
use Rattle.device_log.specs.contracts.log.DeviceLog as DeviceLog
use Rattle.device_log.specs.contracts.rows.GhostRows as GhostRows
use Rattle.logged_disk.specs.contracts.file_disk.FileDisk as FileDisk
use Rattle.logged_disk.specs.contracts.mem_disk.MemDisk as MemDisk
use Rattle.logged_disk.specs.contracts.pending_block.PendingBlock as PendingBlock
use Rattle.logged_disk.specs.contracts.switch.Switch as Switch
use Rattle.device_bay.specs.contracts.host_disk.HostDisk as HostDisk

-- the rows own nothing beside their field, which `search` cannot know
rows_send : IsSend GhostRows.the_row
rows_send = owning_send GhostRows.the_type (search sendable, tt) (λ d. tt) (λ k x w. tt)

pub log_send : IsSend DeviceLog.the_row
log_send = declared_send DeviceLog.the_type (rows_send, tt)

switch_send : IsSend Switch.the_row
switch_send = search (heap.crosses, sendable) depth 20

pending_send : IsSend PendingBlock.the_row
pending_send = search sendable depth 20

pub mem_send : IsSend MemDisk.the_row
mem_send = declared_send MemDisk.the_type
    (search sendable, (search sendable, (search (maps.crosses, heap.crosses, sendable) depth 20, (search (pending_send, maps.crosses, heap.crosses, sendable) depth 20, (switch_send, (search sendable, (search sendable, (search sendable, (log_send, tt)))))))))

file_of_send : IsSend File.the_row
file_of_send = search sendable depth 20

module _ (S : RattleType) (s : IsSend S) where
  pub file_send : IsSend (FileDisk.the_row S)
  file_send = declared_send (FileDisk.the_type S)
      (file_of_send, (search sendable, (search sendable, (search sendable, (search sendable, (search sendable, (search sendable, (log_send, (search sendable, tt)))))))))

  pub host_send : IsSend (HostDisk.the_row S)
  host_send = search (mem_send, file_send, variants_send, sendable) depth 20
