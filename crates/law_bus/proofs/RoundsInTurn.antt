-- The round of a rank in a frame, from its first slot to its end.
use Rattle.std.proofs.Common.{◌≡◌, ℕ, zero, suc, ◌<◌, List, true, Some, Option, inl, inr, refl, sym, ◌∙◌, ap, subst, arith, true≢false, length}
use Rattle.std.specs.Prelude.{◌⊎◌}
use Rattle.lwb_base.specs.Messages.{Plan}
use Rattle.bus_rules.specs.Plans.{last_slot}
use Rattle.bus_rules.specs.Cores.{Core, is_fresh, is_member}
use Rattle.bus_rules.specs.States.{StateOff, StateOn}
use Rattle.node_core.specs.Nodes.{Node}
use Rattle.node_core.specs.declared.stage.Stage.TheVariants.{AwaitSlot}
use Rattle.scenario_text.specs.ScenarioParts.{ScenarioParts}
use Rattle.scenario_text.specs.FloodParts.{knows}
use Rattle.air_log.specs.declared.entry.Entry.{Entry}
use Rattle.air_log.specs.Devices.{Power, PowerOff, PowerOn, state_of_power}
use Rattle.air_log.specs.Lawful.{trail_in}
use Rattle.air_log.specs.Trails.{run_end}
use Rattle.air_log.specs.WindowLogs.{WindowLog, Closing}
use Rattle.law_windows.proofs.WindowFacts.{open_in_time}
use Rattle.law_safety.specs.SentPlans.{IsPlanned}
use Rattle.bus_terms.specs.Rounds.{round_of_rank, round_plan, after_round, before_slot}
use Rattle.bus_terms.specs.Bus.{state_at}
use Rattle.bus_terms.proofs.KeptRanks.{member_of}
use Rattle.law_terms.specs.LawfulRuns.{IsLawfulRun}
use Rattle.law_terms.specs.FrameCourses.{power_at}
use Rattle.bus_terms.specs.HostedRounds.{node_before}
use Rattle.law_terms.specs.SlotLaws.{IsRound, IsWindowOf, HasWindow}
use Rattle.law_terms.specs.SlotSteps.{IsFrameStart, IsSlotStart, IsSlotHeard, FirstSlotLaw, SlotStepLaw, RoundEndLaw}
use Rattle.law_bus.proofs.BusLeaders.{leader_of}
use Rattle.law_bus.proofs.MembersByTune.{leads_member}
use Rattle.law_bus.proofs.PlannedRounds.{member_planned, placed, plan_is}
use Rattle.law_bus.proofs.RunsOfLogs.{run, known_by, course_on}
use Rattle.law_bus.proofs.SlotsAtNodes.{IsThere, look_up, left_by_window, stays_without, found_without}
use Rattle.law_bus.proofs.StartingNodes.{starts_frame}
use Rattle.law_bus.proofs.WindowsInTurn.{next_of, goes, in_frame, takes_part}

-- a node whose state is on is on
pub record IsOnWith (c : Core) (p : Power) : Type 0 where
  pub node : Node
  pub on : p ≡ PowerOn node
  pub core : node.core ≡ c

pub on_with : (c : Core) (p : Power) → state_of_power p ≡ StateOn c → IsOnWith c p
on_with c (PowerOff boots) is = absurd (off is)
  where
    off : StateOff boots ≡ StateOn c → ⊥
    off is = cc
on_with c (PowerOn n) is = record { node = n; on = refl; core = same is }
  where
    same : StateOn n.core ≡ StateOn c → n.core ≡ c
    same is = cc

module _ (s : ScenarioParts) (clocks : ℕ → ℕ → ℕ) (air : List Entry) (lawful : IsLawfulRun s clocks air)
    (rank f : ℕ) (in_run : f < s.frames) where
  abbrev Of : ℕ → ℕ → WindowLog → Type 0
  Of j v w = IsWindowOf s clocks air rank f j v w

  -- a member has a window in slot 0, which opens at it as the frame found it
  pub record BeginsAt (v : ℕ) (c : Core) : Type 0 where
    pub window : WindowLog
    pub here : Of 0 v window
    pub by_alarm : window.by_alarm ≡ true
    pub core : window.before.core ≡ c

  module _ (found : IsFrameStart s clocks air f) (v : ℕ) (known : knows s.nodes v ≡ true) (c : Core) (on : state_at s f v ≡ StateOn c)
      (member : is_member rank f c ≡ true) where
    there : IsOnWith c (power_at s clocks air v f)
    there = on_with c (power_at s clocks air v f) (found v known ∙ on)

    takes : is_member rank f there.node.core ≡ true
    takes = ap (is_member rank f) there.core ∙ member

    begins_by : there.node.stage ≡ AwaitSlot 0 → BeginsAt v c
    begins_by awaits =
        let opens = (course_on s clocks air lawful v f there.node known in_run there.on).first awaits in
        record {
          window = opens.window;
          here = record {
            there = opens.here.there;
            frame = opens.here.frame;
            channel = opens.channel ∙ member_of rank f there.node.core takes;
            slot = opens.slot;
          };
          by_alarm = opens.by_alarm;
          core = ap (λ (n : Node). n.core) opens.node ∙ there.core;
        }

    pub begins_at : BeginsAt v c
    begins_at =
        elim (starts_frame s clocks air lawful v f known in_run there.node there.on) [
          | inl awaits ↦ begins_by awaits
          | inr none ↦ absurd (true≢false (sym takes ∙ none rank))
        ]

  -- a round of the bus is of a rank that has a host
  pub hosted_by : IsFrameStart s clocks air f → (p : Plan) → round_plan s rank f (state_at s f) ≡ Some p → rank < length s.hosts
  hosted_by found p round =
      let leader = leader_of s rank f (state_at s f) p round in
      let begins = begins_at found leader.node leader.known leader.core leader.on (leads_member rank f leader.core.tune (is_fresh leader.core) leader.leads) in
      let timed = open_in_time s clocks air (run s clocks air lawful) leader.node leader.known (run_end s) (omega arith) begins.window begins.here.there in
      subst (λ (r : ℕ). r < length s.hosts) begins.here.channel timed.hosted

  -- the plan of the bus's round was sent
  pub round_planned : IsFrameStart s clocks air f → (p : Plan) → IsRound s rank f p → IsPlanned s air rank f p
  round_planned found p round =
      let leader = leader_of s rank f (state_at s f) p round.plan in
      let begins = begins_at found leader.node leader.known leader.core leader.on (leads_member rank f leader.core.tune (is_fresh leader.core) leader.leads) in
      subst (IsPlanned s air rank f) (ap (λ (c : Core). c.plan) begins.core ∙ leader.plan)
      (member_planned s clocks air lawful rank f in_run 0 leader.node begins.window begins.here begins.by_alarm)

  module _ (p : Plan) (is_round : IsRound s rank f p) where
    -- what is the same before each slot: who has a window by its alarm is a member, and goes by the plan
    plan_by : IsFrameStart s clocks air f → (j v : ℕ) (w : WindowLog) → Of j v w → w.by_alarm ≡ true → w.before.core.plan ≡ p
    plan_by found j v w here alarm = plan_is s clocks air lawful rank f in_run p (round_planned found p is_round) j v w here alarm

    -- slot 0
    pub first_slot : IsFrameStart s clocks air f → IsSlotStart s clocks air rank f p zero
    unfolding before_slot
    first_slot found = record {
      found = found;
      core = λ v w here alarm.
          (let go = goes s clocks air lawful rank f in_run 0 v w here in
          let node : w.before ≡ go.node = go.course.begins w (in_frame s clocks air lawful rank f in_run 0 v w here) here.slot in
          sym (found v (known_by s clocks air lawful v w here.there)) ∙ ap state_of_power go.on ∙ ap (λ (n : Node). StateOn n.core) (sym node));
      member = λ v w here alarm. takes_part s clocks air lawful rank f in_run 0 v w here alarm;
      plan = λ v w here alarm. plan_by found 0 v w here alarm;
      window = λ v c known on member.
          (let begins = begins_at found v known c on member in record { window = begins.window; here = begins.here; by_alarm = begins.by_alarm });
      others = λ v known none. refl;
    }

    module _ (j : ℕ) (start : IsSlotStart s clocks air rank f p j) (heard : IsSlotHeard s clocks air rank f p j) where
      planned : IsPlanned s air rank f p
      planned = round_planned start.found p is_round

      left : (v : ℕ) (w : WindowLog) (here : Of j v w) (c : Closing) → w.closed ≡ Some c → node_before s rank f p (suc j) v ≡ StateOn c.after.core
      left v w here c is = left_by_window s clocks air lawful rank f in_run j p start heard v w here c is

      abbrev Finds : ℕ → Type 0
      Finds v = (IsThere rank f j (trail_in s clocks air v).made.windows) ⊎ ((w : WindowLog) → Of j v w → ⊥)

      pub find_window : (v : ℕ) → Finds v
      find_window v = elim (look_up rank f j (trail_in s clocks air v).made.windows) [
        | inl is ↦ inl is
        | inr none ↦ inr (λ w here. none w here.there here.frame here.channel here.slot)
      ]

      as_found : (v : ℕ) → (w : IsThere rank f j (trail_in s clocks air v).made.windows) → Of j v w.window
      as_found v w = record { there = w.there; frame = w.frame; channel = w.channel; slot = w.slot }

      module _ (less : j < last_slot p) where
        next_window : (v : ℕ) (w : WindowLog) → Of j v w → HasWindow s clocks air rank f (suc j) v
        next_window v w here =
            let more = (placed s clocks air lawful rank f in_run p planned j v w here).more less in
            let next = next_of s clocks air lawful rank f in_run j v w here more in
            record { window = next.window; here = next.here; by_alarm = next.by_alarm }

        core_next : (v : ℕ) (w : WindowLog) → Of (suc j) v w → w.by_alarm ≡ true → node_before s rank f p (suc j) v ≡ StateOn w.before.core
        core_next v w here alarm =
            let go = goes s clocks air lawful rank f in_run (suc j) v w here in
            let x = go.course.follows w j (in_frame s clocks air lawful rank f in_run (suc j) v w here) alarm here.slot in
            left v x.window (record { there = x.here.there; frame = x.here.frame; channel = x.channel ∙ here.channel; slot = x.slot }) x.closing x.closed
            ∙ ap (λ (n : Node). StateOn n.core) x.node

        window_next : (v : ℕ) (c : Core) → knows s.nodes v ≡ true → node_before s rank f p (suc j) v ≡ StateOn c → is_member rank f c ≡ true
            → HasWindow s clocks air rank f (suc j) v
        window_next v c known on member =
            elim (find_window v) [
              | inl w ↦ next_window v w.window (as_found v w)
              | inr none ↦
                  (let same = stays_without s clocks air lawful rank f in_run j p start heard v known none in
                  let has = start.window v c known (sym same ∙ on) member in
                  absurd (none has.window has.here))
            ]

        others_next : (v : ℕ) → knows s.nodes v ≡ true → (HasWindow s clocks air rank f (suc j) v → ⊥) → node_before s rank f p (suc j) v ≡ state_at s f v
        others_next v known without =
            elim (find_window v) [
              | inl w ↦ absurd (without (next_window v w.window (as_found v w)))
              | inr none ↦
                  stays_without s clocks air lawful rank f in_run j p start heard v known none
                  ∙ found_without s clocks air lawful rank f in_run j p start heard v known none
            ]

        -- the next slot
        pub slot_step : IsSlotStart s clocks air rank f p (suc j)
        slot_step = record {
          found = start.found;
          core = core_next;
          member = λ v w here alarm. takes_part s clocks air lawful rank f in_run (suc j) v w here alarm;
          plan = λ v w here alarm. plan_by start.found (suc j) v w here alarm;
          window = window_next;
          others = others_next;
        }

      -- after the last slot
      module _ (end : j ≡ last_slot p) where
        over : (v : ℕ) → round_of_rank s rank f (state_at s f) v ≡ node_before s rank f p (suc j) v
        over v =
            ap (λ (o : Option Plan). after_round s rank f (state_at s f) o v) is_round.plan
            ∙ ap (λ (k : ℕ). before_slot s rank f p (state_at s f) k v) (omega (arith, end))

        pub round_left : (v : ℕ) (w : WindowLog) (c : Closing) → Of j v w → w.closed ≡ Some c → round_of_rank s rank f (state_at s f) v ≡ StateOn c.after.core
        round_left v w c here is = over v ∙ left v w here c is

        pub round_without : (v : ℕ) → knows s.nodes v ≡ true → ((w : WindowLog) → Of j v w → ⊥) → round_of_rank s rank f (state_at s f) v ≡ state_at s f v
        round_without v known none =
            over v
            ∙ stays_without s clocks air lawful rank f in_run j p start heard v known none
            ∙ found_without s clocks air lawful rank f in_run j p start heard v known none

pub first_slots : FirstSlotLaw
first_slots s clocks air lawful rank f p found round = first_slot s clocks air lawful rank f round.in_run p round found

pub slot_steps : SlotStepLaw
slot_steps s clocks air lawful rank f j p round less start heard =
    slot_step s clocks air lawful rank f round.in_run p round j start heard less

pub round_ends : RoundEndLaw
round_ends s clocks air lawful rank f p round start heard = record {
  core = λ v w c here is. round_left s clocks air lawful rank f round.in_run p round (last_slot p) start heard refl v w c here is;
  others = λ v known none. round_without s clocks air lawful rank f round.in_run p round (last_slot p) start heard refl v known none;
}
