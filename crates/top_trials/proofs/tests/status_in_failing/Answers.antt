use denote.Exit.{no}
use denote.Param.Send.{IsSend, arg_send, param_send}
use denote.Param.SendFields.{declared_send}
use Rattle.cache_top.proofs.Devices.{log_send, mem_send}
use Rattle.top_trials.specs.contracts.tests.Faulty as Faulty
use Rattle.top_trials.proofs.tests.status_in_failing.Goals as goal

faulty_send : IsSend Faulty.the_row
faulty_send = declared_send Faulty.the_type (mem_send, (log_send, tt))

pub status_of-requires-send-D : goal.status_of-requires-send-D
status_of-requires-send-D g c κs within = param_send 2 _ (arg_send _ no _ faulty_send)
