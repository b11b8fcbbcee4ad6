-- A node as a member of its rounds: what is fixed for it, and the state that the rules change.
use Rattle.std.specs.Prelude.{◌≡◌, ℕ, ◌<◌, ◌≤◌, Bool, true, false, length, is_some, Some, None, ⊤}
use Rattle.std.specs.declared.option.Option.{Option}
use Rattle.std.specs.List.{list_all}
use Rattle.lwb_base.specs.declared.limits.TheConstants.{MOST_BOOTS}
use Rattle.lwb_base.specs.Messages.{Plan}
use Rattle.lwb_packets.specs.Requests.{InRange}
use Rattle.schedule_codec.specs.AckLists.{ask_in_range}
use Rattle.schedule_codec.specs.Spelling.{most_acks, slot_fits}
use Rattle.bus_rules.specs.Plans.{slots_named}
use Rattle.bus_rules.specs.Tuning.{hosts}
use Rattle.bus_rules.specs.Cores.{Core, Setup}
use Rattle.bus_rules.specs.Slots.{Message, ScheduleOf, DataOf, RequestOf, hosts_now}
use Rattle.lwb_member.specs.declared.message.Heard.{Heard}
use Rattle.lwb_member.specs.declared.message.Heard.TheVariants.{Schedule, Data, Request}

pub record Member : Type 0 where
  pub setup : Setup
  pub core : Core

-- what a plan needs to be written in a schedule, but for the boot of its host
pub record IsPlan (p : Plan) : Type 0 where
  pub contend : p.contend ≤ 4
  pub few : length p.acks ≤ most_acks p.contend
  pub acks : list_all ask_in_range p.acks ≡ true

abbrev pub IsBoot : ℕ → Type 0
IsBoot boot = (1 ≤ boot) × (boot ≤ MOST_BOOTS)

-- what holds of a member at all times. joined: its tuner was given that it accepted this frame's opening
pub record IsMember (s : Setup) (c : Core) (joined : Bool) : Type 0 where
  pub sends : (1 ≤ s.sends) × (s.sends ≤ 4)
  pub boot : IsBoot c.boot
  pub fresh : joined ≡ is_some c.own_slot
  pub plan : IsPlan c.plan
  pub hosted : hosts c.tune ≡ true → IsBoot c.plan.boot × (c.plan.contend ≡ s.profile.contend)
  pub few : length c.kept ≤ slots_named s.profile.contend
  pub kept : list_all ask_in_range c.kept ≡ true

-- what was read is in its ranges
abbrev pub IsHeardInRange : Heard → Type 0
IsHeardInRange (Schedule s) = IsPlan s.plan × IsBoot s.plan.boot
IsHeardInRange (Data d) = ⊤
IsHeardInRange (Request r) = InRange r

-- a schedule was read in a slot that it may be in
abbrev pub StandsIn : ℕ → Heard → Type 0
StandsIn slot (Schedule s) = slot_fits s.gap s.plan.contend slot ≡ true
StandsIn slot (Data d) = ⊤
StandsIn slot (Request r) = ⊤

-- a host accepts no schedule, and in its own round no more requests than the round has contention slots
abbrev pub MayAccept : Setup → ℕ → Core → Option Message → Type 0
MayAccept s f c None = ⊤
MayAccept s f c (Some (ScheduleOf x)) = hosts c.tune ≡ false
MayAccept s f c (Some (DataOf d)) = ⊤
MayAccept s f c (Some (RequestOf a)) = hosts_now f c ≡ true → length c.kept < slots_named s.profile.contend
