-- What each order and each row keeps, a whole tick keeps.
use Rattle.std.proofs.Common.{ℕ, zero, suc, ◌+◌, List, [], ◌∷◌, Bool, true, false, ◌==◌, Some, None, Option, fold}
use Rattle.std.proofs.lemmas.Bool.{cond_both}
use Rattle.lwb_base.specs.declared.event.Event.{Event}
use Rattle.lwb_base.specs.declared.event.Event.TheVariants.{Boot, Alarm, Heard, Sent}
use Rattle.lwb_base.specs.declared.order.Order.{Order}
use Rattle.radio_model.specs.declared.sending.Sending.{Sending}
use Rattle.scenario_text.specs.ScenarioParts.{ScenarioParts}
use Rattle.bus_rules.specs.declared.act.Act.{Act}
use Rattle.scenario_text.specs.declared.script.ScriptLine.{ScriptLine}
use Rattle.bus_rules.specs.Cores.{Setup}
use Rattle.node_core.specs.Nodes.{Node, rebooted}
use Rattle.node_core.specs.Rows.{orders_by}
use Rattle.node_core.specs.Rows.{Stepped, row}
use Rattle.air_log.specs.Devices.{Device, Power, PowerOff, PowerOn, obeyed, moved, event, event_by, silenced}
use Rattle.air_log.specs.ScriptedDevices.{device_after_act, device_after_line}
use Rattle.scenario_text.specs.Setups.{setup_of}
use Rattle.air_log.specs.Trails.{Reception, lines_at, device_after_script, ending_at, device_after_reception, device_after_receptions}
use Rattle.air_log.specs.Trails.{device_ended_by, device_after_end, alarm_is_due, alarms, alarm_limit, alarmed, before_start}
use Rattle.air_log.proofs.DeviceActs.{each_act}

-- at tick t. Neither the power nor what is set or runs matters
pub record IsKept (P : Device → Type 0) (clock : ℕ → ℕ) (s : Setup) (t : ℕ) : Type 0 where
  pub obeying : (d : Device) (o : Order) → P d → P (obeyed clock s.id t d o)
  pub moving : (e : Event) (x : Option Sending) (d : Device) (n : Node) (r : Option Stepped) → P d → P (moved t e x d n r)
  pub powered : (d : Device) (p : Power) → P d → P (record d { power = p })
  pub without_alarm : (d : Device) → P d → P (record d { alarm = None })
  pub off : (d : Device) (boots : ℕ) → P d → P (record (silenced s.id t d) { power = PowerOff boots; alarm = None; ordered = None })
  pub after_sending : (d : Device) → P d → P (record d { sending = None })

module _ (P : Device → Type 0) (clock : ℕ → ℕ) (s : Setup) (t : ℕ) (kept : IsKept P clock s t) where
  all_obeyed : (os : List Order) (d : Device) → P d → P (fold (obeyed clock s.id t) d os)
  all_obeyed [] d holds = holds
  all_obeyed (o ∷ os) d holds = all_obeyed os (obeyed clock s.id t d o) (kept.obeying d o holds)

  by_event : (e : Event) (x : Option Sending) (d : Device) (p : Power) → P d → P (event_by clock s t e x d p)
  by_event e x d (PowerOff boots) holds = holds
  by_event e x d (PowerOn n) holds =
      let r = row s n (clock t) e in
      all_obeyed (orders_by r) (moved t e x d n r) (kept.moving e x d n r holds)

  pub by_act : (a : Act) (d : Device) → P d → P (device_after_act clock s t d a d.power)
  by_act a d holds = each_act clock s t d P a d.power holds
      (λ boots at. let on = PowerOn (rebooted (boots + 1)) in by_event Boot None (record d { power = on }) on (kept.powered d on holds))
      (λ n at. kept.off d n.core.boot holds) (λ n at. kept.powered d _ holds)

  by_lines : (ls : List ScriptLine) (d : Device) → P d → P (fold (device_after_line clock s t) d ls)
  by_lines [] d holds = holds
  by_lines (l ∷ ls) d holds = by_lines ls (device_after_line clock s t d l) (by_act l.act d holds)

  by_hearings : (hs : List Reception) (d : Device) → P d → P (fold (device_after_reception clock s t) d hs)
  by_hearings [] d holds = holds
  by_hearings (h ∷ hs) d holds = by_hearings hs (device_after_reception clock s t d h) (by_event (Heard h.packet) None d d.power holds)

  by_end : (d : Device) (x : Option Sending) → P d → P (device_ended_by clock s t d x)
  by_end d None holds = holds
  by_end d (Some x) holds =
      cond_both (x.end == t) (event clock s t Sent (Some x) (record d { sending = None })) d P
      (λ is. by_event Sent (Some x) (record d { sending = None }) d.power (kept.after_sending d holds)) (λ is. holds)

  by_alarms : (b : Bool) (more : ℕ) (d : Device) → P d → P (alarms clock s t b more d)
  unfolding alarms
  by_alarms false more d holds = holds
  by_alarms true zero d holds = holds
  by_alarms true (suc more) d holds =
      let after = event clock s t Alarm None (record d { alarm = None }) in
      by_alarms (alarm_is_due t after.alarm) more after (by_event Alarm None (record d { alarm = None }) d.power (kept.without_alarm d holds))

-- the phases of a tick up to the receptions, the alarms, and all before the start of a transmission
pub in_hearings : (P : Device → Type 0) (s : ScenarioParts) (v : ℕ) (clock : ℕ → ℕ) (hs : List Reception) (t : ℕ) (d : Device) → IsKept P clock (setup_of s v) t
    → P d → P (device_after_receptions clock (setup_of s v) t hs (device_after_script s v clock t d))
in_hearings P s v clock hs t d kept holds =
    let x = setup_of s v in
    by_hearings P clock x t kept (ending_at t hs) (device_after_script s v clock t d) (by_lines P clock x t kept (lines_at s v t) d holds)

pub in_end : (P : Device → Type 0) (clock : ℕ → ℕ) (s : Setup) (t : ℕ) (d : Device) → IsKept P clock s t → P d → P (device_after_end clock s t d)
in_end P clock s t d kept holds = by_end P clock s t kept d d.sending holds

pub in_event : (P : Device → Type 0) (clock : ℕ → ℕ) (s : Setup) (t : ℕ) (e : Event) (x : Option Sending) (d : Device) → IsKept P clock s t → P d
    → P (event clock s t e x d)
in_event P clock s t e x d kept holds = by_event P clock s t kept e x d d.power holds

pub in_alarms : (P : Device → Type 0) (clock : ℕ → ℕ) (s : Setup) (t : ℕ) (d : Device) → IsKept P clock s t → P d → P (alarmed clock s t d)
in_alarms P clock s t d kept holds = by_alarms P clock s t kept (alarm_is_due t d.alarm) (alarm_limit clock t) d holds

pub in_tick : (P : Device → Type 0) (s : ScenarioParts) (v : ℕ) (clock : ℕ → ℕ) (hs : List Reception) (t : ℕ) (d : Device) → IsKept P clock (setup_of s v) t
    → P d → P (before_start s v clock hs t d)
in_tick P s v clock hs t d kept holds =
    let x = setup_of s v in
    let d2 = device_after_receptions clock x t hs (device_after_script s v clock t d) in
    in_alarms P clock x t (device_after_end clock x t d2) kept (in_end P clock x t d2 kept (in_hearings P s v clock hs t d kept holds))
