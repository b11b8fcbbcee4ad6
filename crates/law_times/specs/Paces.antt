-- How the slots of a stream keep pace with its interval.
use Rattle.std.specs.Prelude.{◌≡◌, ◌<◌, ◌≤◌, ◌+◌, ◌-◌, ◌*◌, ◌/◌, ℕ, Bool, false, nat_lt, Contains}
use Rattle.std.specs.List.{list_any}
use Rattle.scenario_text.specs.ScenarioParts.{ScenarioParts}
use Rattle.scenario_text.specs.OverLines.{IsOverScenario}
use Rattle.lwb_base.specs.Messages.{Plan}
use Rattle.lwb_base.specs.declared.limits.TheConstants.{GREATEST_GAP}
use Rattle.bus_rules.specs.declared.act.Act.{Act}
use Rattle.bus_rules.specs.declared.act.Act.TheVariants.{Declare}
use Rattle.bus_rules.specs.declared.tune.Tune.TheVariants.{Host}
use Rattle.bus_rules.specs.Cores.{Core}
use Rattle.bus_rules.specs.States.{StateOn}
use Rattle.bus_rules.specs.Tables.{TableEntry}
use Rattle.bus_terms.specs.Bus.{state_at}
use Rattle.bus_terms.specs.HostedRounds.{IsHosted}
use Rattle.law_service.specs.FirstSlots.{PlansRound, FitsNextRound}

-- an act that requests an interval of fewer seconds than a frame has
abbrev pub is_fast : ℕ → Act → Bool
is_fast seconds (Declare i interval) = nat_lt interval seconds
is_fast seconds other = false

-- no stream line of the scenario is such
abbrev pub HasSlowStreams : ScenarioParts → Type 0
HasSlowStreams s = list_any (λ l. is_fast s.profile.seconds l.act) s.script ≡ false

-- a stream has been granted just the slots that have come due by frame due since it was accepted
pub record IsOnPace (seconds due : ℕ) (e : TableEntry) : Type 0 where
  pub accepted : e.accepted ≤ due
  pub slow : seconds ≤ e.interval
  pub granted : e.granted ≡ seconds * (due - e.accepted) / e.interval

-- so it is for each stream of a host, by the frame of its next round
abbrev pub StreamsKeepPace : Type 0
StreamsKeepPace =
    (s : ScenarioParts) → IsOverScenario s → HasSlowStreams s → (f v rank due : ℕ) (c : Core) → state_at s f v ≡ StateOn c → c.tune ≡ Host rank due
    → (e : TableEntry) → Contains c.table.entries e → IsOnPace s.profile.seconds due e

-- and all that is owed by the next round of a host fits into it
abbrev pub OwedAlwaysFits : Type 0
OwedAlwaysFits =
    (s : ScenarioParts) → IsOverScenario s → HasSlowStreams s → (rank f : ℕ) (p : Plan) (host : ℕ) → IsHosted s rank f p host
    → (c : Core) (due : ℕ) (plan : Plan) → PlansRound s rank f p host c due plan → FitsNextRound s f host c due

-- the most frames until this number of slots of a stream has come, from the frame in which the last of their packets is put
abbrev pub latency_bound : ℕ → ℕ → ℕ → ℕ
latency_bound queue interval seconds = (queue * interval + seconds - 1) / seconds + 2

-- a host has this entry in its table at the start of a frame, and its next round in frame due
pub record HasEntry (s : ScenarioParts) (host frame due : ℕ) (e : TableEntry) : Type 0 where
  pub core : Core
  pub rank : ℕ
  pub on : state_at s frame host ≡ StateOn core
  pub tune : core.tune ≡ Host rank due
  pub there : Contains core.table.entries e

-- the same stream, not accepted anew
pub record IsSameStream (a b : TableEntry) : Type 0 where
  pub code : a.code ≡ b.code
  pub interval : a.interval ≡ b.interval
  pub accepted : a.accepted ≡ b.accepted

-- from a round of the host before frame f to one in the last GREATEST_GAP frames up to f + frames, in which there always is one, the
-- stream has been granted as many slots more
abbrev pub SlotsComeWithin : ℕ → ℕ → ℕ → ℕ → Type 0
SlotsComeWithin queue interval seconds frames =
    (s : ScenarioParts) → IsOverScenario s → HasSlowStreams s → s.profile.seconds ≡ seconds → (host m n before to f : ℕ) (a b : TableEntry)
    → HasEntry s host m before a → HasEntry s host n to b → IsSameStream a b → a.interval ≡ interval
    → before < f → f + frames < to + GREATEST_GAP → a.granted + queue ≤ b.granted
