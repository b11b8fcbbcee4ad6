-- What a node keeps from frame to frame, in its ranges.
use Rattle.std.specs.Prelude.{◌≡◌, ℕ, ◌<◌, ◌≤◌, true, false, length, is_some, Some}
use Rattle.std.specs.List.{list_all}
use Rattle.std.specs.Option.{IfSome}
use Rattle.lwb_base.specs.declared.limits.TheConstants.{GREATEST_ID, MOST_RANKS}
use Rattle.lwb_base.specs.Profile.{IsProfile}
use Rattle.lwb_base.specs.Messages.{Plan}
use Rattle.schedule_codec.specs.AckLists.{ask_in_range}
use Rattle.bus_rules.specs.declared.tune.Tune.{Tune}
use Rattle.bus_rules.specs.Plans.{slots_named}
use Rattle.bus_rules.specs.Tuning.{rank_of, hosts, is_scan, HasWaited}
use Rattle.bus_rules.specs.Cores.{Core, Setup}
use Rattle.lwb_member.specs.Members.{IsBoot}
use Rattle.law_trails.specs.StreamRanges.{AreStreams}
use Rattle.law_trails.specs.TableRanges.{IsTable}
use Rattle.law_trails.specs.PlanRanges.{IsWholePlan}

-- what is fixed for a node
pub record IsSetup (s : Setup) : Type 0 where
  pub profile : IsProfile s.profile
  pub id : (1 ≤ s.id) × (s.id ≤ GREATEST_ID)
  pub own : IfSome s.own (λ r. r < s.ranks)
  pub ranks : (1 ≤ s.ranks) × (s.ranks ≤ MOST_RANKS)
  pub sends : (1 ≤ s.sends) × (s.sends ≤ 4)

-- the plan of a node with this tune can be written, and is of the tune's rank
pub record IsPlanOf (t : Tune) (p : Plan) : Type 0 where
  pub boot : 1 ≤ p.boot
  pub rank : p.rank ≡ rank_of t

-- a host hosts its own rank; its plan is of its boot, and names as many contention slots as its profile
pub record IsHosting (s : Setup) (boot : ℕ) (t : Tune) (p : Plan) : Type 0 where
  pub own : s.own ≡ Some (rank_of t)
  pub boot_is : p.boot ≡ boot
  pub contend : p.contend ≡ s.profile.contend

-- known: the plan of a synchronized member or host; taken: that of a fresh scanning node
pub record IsCore (s : Setup) (c : Core) : Type 0 where
  pub boot : IsBoot c.boot
  pub rank : rank_of c.tune < s.ranks
  pub waited : HasWaited c.tune
  pub plan : IsWholePlan c.plan
  pub known : is_scan c.tune ≡ false → IsPlanOf c.tune c.plan
  pub taken : is_some c.own_slot ≡ true → IsPlanOf c.tune c.plan
  pub hosted : hosts c.tune ≡ true → IsHosting s c.boot c.tune c.plan
  pub streams : AreStreams s.profile c.streams
  pub table : IsTable c.table
  pub few : length c.kept ≤ slots_named s.profile.contend
  pub kept : list_all ask_in_range c.kept ≡ true
