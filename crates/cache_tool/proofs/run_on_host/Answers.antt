use denote.Exit.{no}
use denote.Param.Send.{IsSend, arg_send, param_send, sendable}
use Rattle.cache_top.proofs.Devices.{host_send}
use Rattle.cache_top.specs.contracts.blank.Blank as Blank
use Rattle.cache_tool.proofs.run_on_host.Goals as goal

blank_send : IsSend Blank.the_row
blank_send = search sendable

pub cache_main-requires-send-D : goal.cache_main-requires-send-D
cache_main-requires-send-D g c κs within = param_send 2 _ (arg_send _ no _ (host_send _ blank_send))
