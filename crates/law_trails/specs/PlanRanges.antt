-- Plans that can be written, and what a host leaves that made one.
use Rattle.std.specs.Prelude.{◌≡◌, ℕ, ◌≤◌, true, length}
use Rattle.std.specs.List.{list_all}
use Rattle.lwb_base.specs.Messages.{Plan}
use Rattle.lwb_base.specs.Profile.{Numbers}
use Rattle.lwb_base.specs.declared.limits.TheConstants.{GREATEST_GAP, LAST_RANK, MOST_BOOTS}
use Rattle.schedule_codec.specs.AckLists.{are_acks, ask_in_range}
use Rattle.schedule_codec.specs.OwnerLists.{are_owners}
use Rattle.schedule_codec.specs.Spelling.{most_acks}
use Rattle.bus_rules.specs.HostPlans.{HostPlan}
use Rattle.law_trails.specs.StreamRanges.{AreStreams}
use Rattle.law_trails.specs.TableRanges.{IsTable}

-- all that a schedule asks of its plan but a boot above 0, which no plan has before the first is received
pub record IsWholePlan (p : Plan) : Type 0 where
  pub rank : p.rank ≤ LAST_RANK
  pub boot : p.boot ≤ MOST_BOOTS
  pub contend : p.contend ≤ 4
  pub few : length p.acks ≤ most_acks p.contend
  pub acks : list_all ask_in_range p.acks ≡ true
  pub ordered : are_acks p.acks ≡ true
  pub owners : are_owners p.owners ≡ true

-- a host with this boot made the plan for its rank
pub record IsHostPlan (p : Numbers) (own host : ℕ) (h : HostPlan) : Type 0 where
  pub plan : IsWholePlan h.plan
  pub rank : h.plan.rank ≡ own
  pub boot : h.plan.boot ≡ host
  pub contend : h.plan.contend ≡ p.contend
  pub gap : (1 ≤ h.gap) × (h.gap ≤ GREATEST_GAP)
  pub table : IsTable h.table
  pub streams : AreStreams p h.streams
