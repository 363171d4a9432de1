use denote.Exit.{no}
use denote.Param.{param}
use denote.Param.Send.{arg_send, param_send}
use Rattle.cache_top.proofs.Sends.{cache_send, chronicle_send, packed_send}
use Rattle.cache_top.proofs.top.cache_main.Goals as goal

pub run_words-requires-send-C : goal.run_words-requires-send-C
run_words-requires-send-C g c κs within = param_send 5 _ (arg_send _ no _ (cache_send (param 2 g.row.D) _ _ _ _ _ c.type_bounds.send-D packed_send chronicle_send))
