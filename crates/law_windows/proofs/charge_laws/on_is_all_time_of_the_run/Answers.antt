use Rattle.law_windows.proofs.TimesInLogs.{on_is_time}
use Rattle.law_windows.proofs.charge_laws.on_is_all_time_of_the_run.Goals as goal

pub returns : goal.returns
returns c = on_is_time
