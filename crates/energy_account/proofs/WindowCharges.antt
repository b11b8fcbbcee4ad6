-- What windows count, computed for packets of some lengths, and for any other window.
use Rattle.std.proofs.Common.{◌≡◌, None, refl}
use Rattle.lwb_base.specs.Profile.{one, contended}
use Rattle.bus_rules.specs.Charges.{charge}
use Rattle.energy_account.specs.WindowRows.{IsRowOf}

pub seven_bytes : IsRowOf one 7 30720 43008 180736 223744
seven_bytes = record { airtime_is = refl; step_is = refl; last_in_step_2 = refl; last_in_step_3 = refl }

pub nine_bytes : IsRowOf one 9 34816 47104 193024 240128
nine_bytes = record { airtime_is = refl; step_is = refl; last_in_step_2 = refl; last_in_step_3 = refl }

pub ten_bytes : IsRowOf one 10 36864 49152 199168 248320
ten_bytes = record { airtime_is = refl; step_is = refl; last_in_step_2 = refl; last_in_step_3 = refl }

pub twelve_bytes : IsRowOf one 12 40960 53248 211456 264704
twelve_bytes = record { airtime_is = refl; step_is = refl; last_in_step_2 = refl; last_in_step_3 = refl }

pub other_windows : (charge one None ≡ 2096000) × (charge (contended 2) None ≡ 3568000)
other_windows = (refl, refl)
