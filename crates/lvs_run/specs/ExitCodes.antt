-- The exit status of the program (this project's profile).
use Rattle.std.specs.Prelude.{ℕ}
use Rattle.lvs_types.specs.declared.status.Status.{Status}
use Rattle.lvs_types.specs.declared.status.Status.TheVariants as status

-- each status has a number of its own, and 0 says that all went well
abbrev pub exit_number : Status → ℕ
exit_number status.Finished = 0
exit_number (status.ScriptRefused line cause) = 1
exit_number (status.WordsRefused at) = 2
exit_number status.ReadFault = 3
exit_number status.WriteFault = 4
exit_number status.NoMemory = 5
exit_number status.ScriptTooLong = 6
exit_number (status.Illegal verdict) = 7
exit_number (status.CaptureRefused at cause) = 8
