use denote.Exit.{no}
use denote.Param.Send.{arg_send, param_send}
use Rattle.cache_top.proofs.Devices.{mem_send}
use Rattle.top_trials.proofs.tests.status_in_memory.Goals as goal

pub status_of-requires-send-D : goal.status_of-requires-send-D
status_of-requires-send-D g c κs within = param_send 2 _ (arg_send _ no _ mem_send)
