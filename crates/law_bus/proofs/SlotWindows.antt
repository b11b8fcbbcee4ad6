-- Who has a window in a slot takes part in it, and begins its flood as the run does.
use Rattle.std.proofs.Common.{◌≡◌, ℕ, ◌&&◌, ◌==◌, Bool, true, false, if◌then◌else◌, option_map, List, Some, None, Option, inl, inr, refl, sym, ◌∙◌}
use Rattle.std.proofs.Common.{ap, eq-eqb, true≢false}
use Rattle.std.specs.Bool.{⊤}
use Rattle.std.proofs.lemmas.Bool.{cond-false}
use Rattle.lwb_base.specs.Messages.{Plan, node_of, stream_of}
use Rattle.lwb_packets.specs.declared.kind.Kind as Kind
use Rattle.bus_rules.specs.declared.part.Part.{Part}
use Rattle.bus_rules.specs.declared.part.Part.TheVariants.{Opening, Data as DataSlot, Contention, Closing}
use Rattle.bus_rules.specs.declared.tune.Tune.{Tune}
use Rattle.bus_rules.specs.declared.tune.Tune.TheVariants.{Scan, Hold, Host}
use Rattle.bus_rules.specs.Tuning.{rank_of, scans}
use Rattle.bus_rules.specs.Cores.{Core, Setup, is_member}
use Rattle.bus_rules.specs.Slots.{Message, ScheduleOf, DataOf, RequestOf, Opened, part_of, opened_slot, hosts_now, host_closes, silent, data_of}
use Rattle.bus_rules.specs.Slots.{request_of, is_own, is_schedule_part}
use Rattle.bus_rules.specs.Plans.{opening}
use Rattle.bus_rules.specs.Streams.{first_waiting, requested}
use Rattle.bus_rules.specs.States.{State, StateOn}
use Rattle.lwb_member.specs.Places.{kind_for}
use Rattle.node_core.specs.Nodes.{Node}
use Rattle.scenario_text.specs.ScenarioParts.{ScenarioParts}
use Rattle.air_log.specs.declared.entry.Entry.{Entry}
use Rattle.air_log.specs.Devices.{state_of_power}
use Rattle.air_log.specs.WindowLogs.{WindowLog}
use Rattle.law_safety.specs.TunedNodes.{Scans}
use Rattle.law_safety.proofs.SentPlans.{one_planned}
use Rattle.bus_terms.specs.FloodOfText.{ids}
use Rattle.bus_terms.specs.Flooding.{has}
use Rattle.bus_terms.specs.Rounds.{opened_at, takes_part}
use Rattle.scenario_text.specs.Setups.{setup_of}
use Rattle.bus_terms.specs.ScriptedStates.{is_on_and}
use Rattle.bus_terms.proofs.ReceivedByPaths.{in_filtered}
use Rattle.law_terms.specs.LawfulRuns.{IsLawfulRun}
use Rattle.bus_terms.specs.HostedRounds.{node_before, slot_in}
use Rattle.law_terms.specs.SlotLaws.{IsRound, IsWindowOf, HasWindow}
use Rattle.law_terms.specs.SlotSteps.{IsSlotStart}
use Rattle.law_bus.proofs.MembersByTune.{scanner_takes}
use Rattle.law_bus.proofs.PlannedRounds.{origin_here}
use Rattle.law_bus.proofs.RoundsInTurn.{round_planned}
use Rattle.law_bus.proofs.RunsOfLogs.{whole, known_by}
use Rattle.law_bus.proofs.WindowsInTurn.{opened_by, of_kind, in_frame, goes}
use Rattle.law_bus.proofs.WindowsOfRounds.{OfScanner}
use Rattle.law_bus.proofs.SlotEvents.{same_window}
use Rattle.law_bus.proofs.SlotSpeakers.{window_is}
use Rattle.lwb_flood.proofs.LogEntries.{ids_known}

-- a property of what is said, by how that is found
module _ (P : Option Message → Type 0) (none : P None) where
  pub if_of : (b : Bool) (m : Option Message) → P m → P (if b then m else None)
  if_of true m is = is
  if_of false m is = none

  pub map_of : {X : Type 0} (says : X → Message) (o : Option X) → ((x : X) → P (Some (says x))) → P (option_map says o)
  map_of says None is = none
  map_of says (Some x) is = is x

  pub closing_of : (b : Bool) (plans : Opened) (c : Core) → P plans.message → P (if b then plans else silent c).message
  closing_of true plans c is = is
  closing_of false plans c is = none

-- the packets of a part are of its kind
abbrev pub KindIs : Part → Option Message → Type 0
KindIs part None = ⊤
KindIs part (Some (ScheduleOf x)) = kind_for part ≡ Kind.TheVariants.Schedule
KindIs part (Some (DataOf d)) = kind_for part ≡ Kind.TheVariants.Payload
KindIs part (Some (RequestOf a)) = kind_for part ≡ Kind.TheVariants.Request

pub said_kind : (S : Setup) (f : ℕ) (part : Part) (c : Core) → KindIs part (opened_slot S f part c).message
said_kind S f Opening c = if_of (KindIs Opening) tt (hosts_now f c) (Some (ScheduleOf (opening c.plan))) refl
said_kind S f (DataSlot owner) c =
    if_of (KindIs (DataSlot owner)) tt (node_of owner == S.id) (option_map (data_of S.id c (stream_of owner)) (first_waiting c.streams (stream_of owner)))
    (map_of (KindIs (DataSlot owner)) tt (data_of S.id c (stream_of owner)) (first_waiting c.streams (stream_of owner)) (λ w. refl))
said_kind S f (Contention i) c =
    if_of (KindIs (Contention i)) tt (is_own c.own_slot i) (option_map (request_of S.id c) (requested c.streams))
    (map_of (KindIs (Contention i)) tt (request_of S.id c) (requested c.streams) (λ k. refl))
said_kind S f Closing c = closing_of (KindIs Closing) tt (hosts_now f c) (host_closes S f c) c refl

-- a schedule is said in a slot for one
pub schedule_kind : (part : Part) → is_schedule_part part ≡ true → kind_for part ≡ Kind.TheVariants.Schedule
schedule_kind Opening is = refl
schedule_kind (DataSlot owner) is = absurd (true≢false (sym is))
schedule_kind (Contention i) is = absurd (true≢false (sym is))
schedule_kind Closing is = refl

scans_so : (s : ScenarioParts) (clocks : ℕ → ℕ → ℕ) (v rank : ℕ) (n : Node) (t : Tune) → Scans s clocks v n t → rank_of t ≡ rank → scans rank t ≡ true
scans_so s clocks v rank n (Scan r w) is same = eq-eqb r rank same
scans_so s clocks v rank n (Hold r d) is same = absurd is
scans_so s clocks v rank n (Host r d) is same = absurd is

module _ (s : ScenarioParts) (clocks : ℕ → ℕ → ℕ) (air : List Entry) (lawful : IsLawfulRun s clocks air)
    (rank f j : ℕ) (p : Plan) (round : IsRound s rank f p) (start : IsSlotStart s clocks air rank f p j) where
  abbrev Of : ℕ → WindowLog → Type 0
  Of v w = IsWindowOf s clocks air rank f j v w

  module _ (v : ℕ) (w : WindowLog) (here : Of v w) (hears : w.by_alarm ≡ false) where
    scanner : OfScanner s clocks air v w
    scanner = of_kind s clocks air lawful v w false here.there hears

    -- a scanning node joins in a slot in which a schedule is said
    pub schedule_slot : is_schedule_part (part_of p j) ≡ true
    schedule_slot =
        let origin = origin_here s clocks air lawful rank f round.in_run j v w here scanner in
        elim origin.says.part [
          | inl opens ↦ ap (λ (i : ℕ). is_schedule_part (part_of p i)) opens.1
          | inr closes ↦ (
              let planned = round_planned s clocks air lawful rank f round.in_run start.found p round in
              let same : closes.plan ≡ p = one_planned s clocks air (whole s clocks air lawful) rank f closes.plan p closes.planned planned in
              ap (λ (q : Plan). is_schedule_part (part_of q j)) (sym same) ∙ ap is_schedule_part closes.part
              )
        ]

    no_alarm : HasWindow s clocks air rank f j v → ⊥
    no_alarm own =
        let same = same_window s clocks air lawful rank f j round.in_run v own.window w own.here here in
        true≢false (sym own.by_alarm ∙ ap (λ (x : WindowLog). x.by_alarm) same ∙ hears)

    -- it is as the frame found it
    pub scans_on : node_before s rank f p j v ≡ StateOn w.before.core
    scans_on =
        let known = known_by s clocks air lawful v w here.there in
        let go = goes s clocks air lawful rank f round.in_run j v w here in
        let node : w.before ≡ go.node = go.course.joins w (in_frame s clocks air lawful rank f round.in_run j v w here) hears in
        start.others v known no_alarm ∙ sym (start.found v known) ∙ ap state_of_power go.on ∙ ap (λ (n : Node). StateOn n.core) (sym node)

    pub no_window : (slot_in s rank f p j).window v ≡ None
    no_window =
        ap (opened_at s rank f (part_of p j) v) scans_on
        ∙ cond-false (is_member rank f w.before.core) (Some (opened_slot (setup_of s v) f (part_of p j) w.before.core)) None
        (scanner_takes s clocks v w.before rank f w.before.core.tune scanner.scans)

    scanner_test : takes_part rank (part_of p j) (node_before s rank f p j v) ((slot_in s rank f p j).window v) ≡ true
    scanner_test =
        ap (takes_part rank (part_of p j) (node_before s rank f p j v)) no_window
        ∙ ap (λ (b : Bool). b && is_on_and (λ c. scans rank c.tune) (node_before s rank f p j v)) schedule_slot
        ∙ ap (λ (x : State). is_on_and (λ c. scans rank c.tune) x) scans_on
        ∙ scans_so s clocks v rank w.before w.before.core.tune scanner.scans
        ((opened_by s clocks air lawful v w here.there).rank_before ∙ here.channel)

  takes_test : (v : ℕ) (w : WindowLog) → Of v w → (b : Bool) → w.by_alarm ≡ b
      → takes_part rank (part_of p j) (node_before s rank f p j v) ((slot_in s rank f p j).window v) ≡ true
  takes_test v w here true is =
      ap (takes_part rank (part_of p j) (node_before s rank f p j v)) (window_is s clocks air lawful rank f j p round.in_run start v w here is)
  takes_test v w here false is = scanner_test v w here is

  -- who has a window takes part
  pub window_takes : (v : ℕ) (w : WindowLog) → Of v w → has (slot_in s rank f p j).flood.everyone v ≡ true
  window_takes v w here =
      in_filtered (λ u. takes_part rank (part_of p j) (node_before s rank f p j u) ((slot_in s rank f p j).window u)) (ids s.nodes) v
      (ids_known s.nodes v ∙ known_by s clocks air lawful v w here.there) (takes_test v w here w.by_alarm refl)
