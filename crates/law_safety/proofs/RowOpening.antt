-- A window opens by its alarm.
use Rattle.std.proofs.Common.{suc, ◌/◌, List, None, Contains, sym, subst}
use Rattle.lwb_base.specs.declared.event.Event.TheVariants.{Alarm}
use Rattle.bus_rules.specs.Cores.{Setup}
use Rattle.node_core.specs.Nodes.{Node}
use Rattle.node_core.specs.Rows.{window_opens}
use Rattle.radio_model.specs.declared.sending.Sending.{Sending}
use Rattle.air_log.specs.Devices.{Device, Power}
use Rattle.scenario_text.specs.Setups.{setup_of}
use Rattle.law_trails.specs.DeviceRanges.{IsPower}
use Rattle.law_trails.specs.NodeRanges.{IsNodeInRange}
use Rattle.law_trails.specs.Walks.{device_after_row}
use Rattle.law_trails.proofs.RowsLeave.{opening_leaves}
use Rattle.law_safety.specs.NodesInOrder.{IsOn, InOrderBy}
use Rattle.law_safety.specs.QuietHosts.{LivesAs, LivesBy}
use Rattle.law_safety.specs.Rows.{OpeningRow}
use Rattle.law_safety.proofs.WellSteps.{well_at_alarms}
use Rattle.law_safety.proofs.AwaitedSlots.{Awaits, awaits}
use Rattle.law_safety.proofs.OpenedNodes.{after, frame_clause, tune_clause}
use Rattle.law_safety.proofs.OpenedDevices.{alarm_clause, radio_clause, flood_clause, accepted_clause, sending_clause}
use Rattle.law_safety.proofs.OpenedPlans.{plan_clause}
use Rattle.law_safety.proofs.OpenedOrders.{order_clause, begun_clause}
use Rattle.law_safety.proofs.OpenedLives.{host_clause}

pub opening_row : OpeningRow
opening_row s clocks air v t at d n j here due power stage =
    let set : Setup = setup_of s v in
    let holds = here.holds in
    let on : IsOn s clocks air v t (suc t) d n = subst (λ (p : Power). InOrderBy s clocks air v t (suc t) d p) power holds.node.by_power in
    let is : Awaits s clocks air v t d n j = awaits s clocks air v t d n j on stage due.due in
    let ranged : IsNodeInRange set n = subst (IsPower set) power (well_at_alarms s clocks air v t at d due).power in
    let m : Node = after s clocks air v t at d n j is in
    let leaves = opening_leaves (clocks v) set t (record d { alarm = None }) n j in
    let e : Device = device_after_row (clocks v) set t Alarm None (record d { alarm = None }) n (window_opens set n j) in
    let now_on : IsOn s clocks air v t (suc t) e m = record {
      frame = frame_clause s clocks air v t at d n j is;
      alarm = alarm_clause s clocks air v t at d n j is e leaves;
      tune = tune_clause s clocks air v t at d n j is ranged;
      radio = radio_clause s clocks air v t at d n j is e leaves;
      begun = begun_clause s clocks air v t at d n j is e leaves;
      plan = plan_clause s clocks air v t at d n j is ranged;
      window = record {
        flood = flood_clause s clocks air v t at d n j is e leaves ranged;
        order = order_clause s clocks air v t at d n j is e leaves ranged;
        sending = sending_clause s clocks air v t at d n j is e leaves;
        accepted = accepted_clause s clocks air v t at d n j is e leaves;
      };
    } in
    record {
      node = record { by_power = subst (λ (p : Power). InOrderBy s clocks air v t (suc t) e p) (sym leaves.power) now_on };
      host = λ rank hosted.
          let old = holds.host rank hosted in
          let lives : LivesAs old.life n = subst (LivesBy old.life (t / s.profile.frame)) power old.lives in
          host_clause s clocks air v t at d n j is ranged rank hosted old lives e leaves;
      sent = λ x there. holds.sent x (subst (λ (xs : List Sending). Contains xs x) leaves.sent there);
      before = λ x there. holds.before x (subst (λ (xs : List Sending). Contains xs x) leaves.sent there);
    }
