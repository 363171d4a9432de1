-- What a contract sees of a `MemBay`.
use Rattle.std.specs.Prelude.{◌≡◌, ℕ, List, []}
use Rattle.logged_disk.specs.MemDisk.{mem_state}
use Rattle.device_bay.specs.Calls.{BayCall, IsBayLog}
use Rattle.device_bay.specs.Register.{calls_in}
use Rattle.device_bay.specs.declared.mem_bay.MemBay.{MemBay}

-- its calls, the newest first
abbrev pub mem_calls : MemBay → List BayCall
mem_calls bay = calls_in mem_state bay.register

-- how many attach calls were made; it stands still at the end of its type
abbrev pub attach_calls : MemBay → ℕ
attach_calls bay = bay.attaches

-- the numbers of the attach calls that fail
abbrev pub fail_numbers : MemBay → List ℕ
fail_numbers bay = bay.fail_at.items

-- a new bay: nothing was called yet
pub record IsNew (fail_at : List ℕ) (bay : MemBay) : Type 0 where
  pub calls : mem_calls bay ≡ []
  pub none_attached : attach_calls bay ≡ 0
  pub fails : fail_numbers bay ≡ fail_at

pub mem_is_log : (bay : MemBay) → IsBayLog (mem_calls bay)
mem_is_log bay = bay.is_register.is_log
