-- What holds while a host plans.
use Rattle.std.specs.Prelude.{◌≡◌, ℕ, ◌≤◌, true, List, length, All}
use Rattle.std.specs.List.{list_all}
use Rattle.lwb_base.specs.Messages.{Ask}
use Rattle.schedule_codec.specs.AckLists.{strictly_ascend, ask_in_range}
use Rattle.bus_rules.specs.Tables.{TableEntry, Table}

-- acknowledgements while they are collected: by ascending code, each in its ranges
pub record AreAnswers (acks : List Ask) : Type 0 where
  pub ascend : strictly_ascend acks ≡ true
  pub ranges : list_all ask_in_range acks ≡ true

-- each of these requests can be put to a table, and no more than a host keeps
pub record AreKeptRequests (kept : List Ask) : Type 0 where
  pub few : length kept ≤ 4
  pub ranges : list_all ask_in_range kept ≡ true

-- no stream of the table was accepted after this frame
abbrev pub IsEarly : ℕ → Table → Type 0
IsEarly frame t = All (λ (e : TableEntry). e.accepted ≤ frame) t.entries
