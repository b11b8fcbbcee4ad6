use Rattle.energy_account.proofs.WindowCharges.{seven_bytes, nine_bytes, ten_bytes, twelve_bytes, other_windows}
use Rattle.energy_account.proofs.energy_laws.windows_count_by_their_last_sending.Goals as goal

pub returns : goal.returns
returns c = record { seven = seven_bytes; nine = nine_bytes; ten = ten_bytes; twelve = twelve_bytes; others = other_windows }
