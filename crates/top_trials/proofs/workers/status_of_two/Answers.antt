use denote.Exit.{no}
use denote.Param.Send.{arg_send, param_send}
use Rattle.cache_top.proofs.Devices.{mem_send}
use Rattle.cache_top.proofs.Sends.{cache_send, chronicle_send, packed_send}
use Rattle.top_trials.proofs.workers.status_of_two.Goals as goal

pub run_work-requires-send-C : goal.run_work-requires-send-C
run_work-requires-send-C g c κs within = param_send 5 _ (arg_send _ no _ (cache_send _ _ _ _ _ _ mem_send packed_send chronicle_send))
