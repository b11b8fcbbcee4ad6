-- The state of a node that the bus and the node table share, and what script lines and frame ends do to it.
use Rattle.std.specs.Prelude.{ℕ, ◌+◌, ◌%◌, List, [], Bool, ◌&&◌, ◌||◌, ◌==◌, if◌then◌else◌, is_some, Some, None, position, length}
use Rattle.std.specs.declared.option.Option.{Option}
use Rattle.lwb_base.specs.Profile.{Numbers}
use Rattle.lwb_base.specs.Messages.{Ask, Plan, Schedule}
use Rattle.bus_rules.specs.Plans.{contention_slots}
use Rattle.bus_rules.specs.Streams.{Streams, cleared, schedule_heard, unbound}
use Rattle.bus_rules.specs.Tables.{Table, no_table}
use Rattle.bus_rules.specs.Tuning.{next_tune, hosts_in, holds_in, scans}
use Rattle.bus_rules.specs.declared.tune.Tune.{Tune}
use Rattle.bus_rules.specs.declared.tune.Tune.TheVariants.{Scan, Hold, Host}

-- plan: the plan that the tune holds or hosts, or that a fresh scanning node took; table: a host's
-- own_slot: a fresh node's contention slot, counted from 1; kept: what a host accepted in the contention slots of this round
pub record Core : Type 0 where
  pub boot : ℕ
  pub tune : Tune
  pub plan : Plan
  pub streams : Streams
  pub table : Table
  pub own_slot : Option ℕ
  pub kept : List Ask

abbrev pub no_plan : Plan
no_plan = record { rank = 0; boot = 0; contend = 0; acks = []; owners = [] }

abbrev pub booted : ℕ → Core
booted boot = record { boot = boot; tune = Scan 0 0; plan = no_plan; streams = cleared; table = no_table; own_slot = None; kept = [] }

-- what is fixed for a node: the profile, its id, the rank that it hosts, if it does, how many ranks there are, and how
-- often it sends in a flood
pub record Setup : Type 0 where
  pub profile : Numbers
  pub id : ℕ
  pub own : Option ℕ
  pub ranks : ℕ
  pub sends : ℕ

-- the rank of a node among the hosts by rank
abbrev pub own_rank : ℕ → List ℕ → Option ℕ
own_rank node hosts = position (λ h. h == node) hosts

-- what is fixed for the node of this id, in a network of these hosts by rank
abbrev pub setup_for : Numbers → List ℕ → ℕ → ℕ → Setup
setup_for p hosts sends v = record { profile = p; id = v; own = own_rank v hosts; ranks = length hosts; sends = sends }

abbrev pub is_fresh : Core → Bool
is_fresh c = is_some c.own_slot

-- the member's part in a round of this rank and frame: host, synchronized member that is due, or fresh scanning node
abbrev pub is_member : ℕ → ℕ → Core → Bool
is_member rank frame c = hosts_in rank frame c.tune || holds_in rank frame c.tune || (scans rank c.tune && is_fresh c)

-- a host's plan before its first round
abbrev pub empty_plan : Numbers → ℕ → ℕ → Plan
empty_plan p rank boot = record { rank = rank; boot = boot; contend = p.contend; acks = []; owners = [] }

abbrev pub new_host : Numbers → ℕ → Core → Core
new_host p rank c = record c { plan = empty_plan p rank c.boot; table = no_table; streams = unbound c.streams }

-- the tune became Host just now
abbrev pub begins_host : Tune → Tune → Option ℕ
begins_host (Scan r w) (Host rank due) = Some rank
begins_host (Scan r w) (Hold rank due) = None
begins_host (Scan r w) (Scan rank waited) = None
begins_host (Hold r d) new = None
begins_host (Host r d) new = None

abbrev pub as_host : Numbers → Option ℕ → Core → Core
as_host p None c = c
as_host p (Some rank) c = new_host p rank c

-- the end of frame f
abbrev pub frame_ended : Setup → ℕ → Core → Core
frame_ended s f c =
    let tune = next_tune c.tune f (is_fresh c) s.own s.ranks in
    as_host s.profile (begins_host c.tune tune) (record c { tune = tune; own_slot = None })

-- an accepted opening: the plan is taken, and the node is fresh with its own contention slot
abbrev pub opening_accepted : ℕ → ℕ → Schedule → Core → Core
opening_accepted node f s c =
    let streams = schedule_heard node c.boot f s c.streams in
    record c { plan = s.plan; streams = streams; own_slot = Some (1 + (node + streams.tries) % contention_slots s.plan) }

-- an accepted closing
abbrev pub closing_accepted : ℕ → ℕ → Schedule → Core → Core
closing_accepted node f s c =
    record c { tune = Hold s.plan.rank (f + s.gap); plan = s.plan; streams = schedule_heard node c.boot f s c.streams }

abbrev pub schedule_accepted : ℕ → ℕ → Schedule → Core → Core
schedule_accepted node f s c = if s.gap == 0 then opening_accepted node f s c else closing_accepted node f s c
