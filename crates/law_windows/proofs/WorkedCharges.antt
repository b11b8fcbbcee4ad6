-- The worked windows, by computation.
use Rattle.std.proofs.Common.{refl}
use Rattle.law_trails.specs.OnePacket.{drifting, one_packet}
use Rattle.law_windows.specs.WindowRows.{IsOpened}
use Rattle.law_windows.specs.WorkedCharges.{asking, window_closed_late, listening_window, Costs, GoesByRows}

pub asking_costs : Costs asking 180737 180736
asking_costs = (refl, refl)

pub listening_costs : Costs listening_window 2096042 2096000
listening_costs = (refl, refl)

pub late_costs : Costs window_closed_late 168235 193024
late_costs = (refl, refl)

listening_opens : IsOpened one_packet drifting 2 listening_window
listening_opens = record {
  frame_before = refl;
  frame_after = refl;
  rank_before = refl;
  rank_after = refl;
  by = record { awaited = refl; after = refl };
}

pub listening_rows : GoesByRows listening_window
listening_rows = (listening_opens, refl)

late_opens : IsOpened one_packet drifting 2 window_closed_late
late_opens = record {
  frame_before = refl;
  frame_after = refl;
  rank_before = refl;
  rank_after = refl;
  by = record { awaited = refl; after = refl };
}

pub late_rows : GoesByRows window_closed_late
late_rows = (late_opens, refl)
