-- The table of a host in its ranges.
use Rattle.std.specs.Prelude.{◌≤◌, All}
use Rattle.lwb_base.specs.declared.limits.TheConstants.{MOST_BOOTS}
use Rattle.bus_rules.specs.Tables.{TableEntry, Table, AreEntries}

pub record IsEntry (e : TableEntry) : Type 0 where
  pub code : (4 ≤ e.code) × (e.code ≤ 803)
  pub boot : (1 ≤ e.boot) × (e.boot ≤ MOST_BOOTS)
  pub interval : (1 ≤ e.interval) × (e.interval ≤ 120)

-- at most 32 entries, their codes strictly ascend, and each is in its ranges
pub record IsTable (t : Table) : Type 0 where
  pub entries : AreEntries t.entries
  pub each : All IsEntry t.entries
