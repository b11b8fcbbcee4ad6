-- Whether a node is on, and how often it booted, through events and script lines.
use Rattle.std.proofs.Common.{◌≡◌, ℕ, zero, suc, ◌+◌, ◌≤◌, ◌<◌, List, [], ◌∷◌, ◌++◌, Bool, true, false, ◌==◌}
use Rattle.std.proofs.Common.{if◌then◌else◌, Some, None, Option, fold, refl, sym, ◌∙◌, ap, subst, arith}
use Rattle.std.proofs.lemmas.Bool.{cond_both, eq-eqb}
use Rattle.lwb_base.specs.declared.event.Event.{Event}
use Rattle.lwb_base.specs.declared.event.Event.TheVariants.{Boot, Alarm as AlarmEvent}
use Rattle.lwb_base.specs.declared.order.Order.{Order}
use Rattle.lwb_base.specs.declared.order.Order.TheVariants.{Listen, Off as Silent, SendAt, Alarm}
use Rattle.radio_model.specs.OnAir.{Tuning}
use Rattle.radio_model.specs.declared.sending.Sending.{Sending}
use Rattle.scenario_text.specs.ScenarioParts.{ScenarioParts}
use Rattle.scenario_text.specs.ScenarioFacts.{IsSoundScenario, turned, turned_by}
use Rattle.bus_rules.specs.declared.act.Act.{Act}
use Rattle.bus_rules.specs.declared.act.Act.TheVariants.{On}
use Rattle.scenario_text.specs.declared.script.ScriptLine.{ScriptLine}
use Rattle.scenario_text.proofs.BootsTold.{turned_over, Boots}
use Rattle.scenario_text.proofs.BootsCounted.{never_less}
use Rattle.bus_rules.specs.Cores.{Setup}
use Rattle.node_core.specs.Nodes.{Node, rebooted}
use Rattle.node_core.specs.Rows.{Stepped, row}
use Rattle.node_core.specs.Rows.{node_after, orders_by}
use Rattle.air_log.specs.Devices.{Device, Power, PowerOff, PowerOn, Listening, OrderedPacket, obeyed, moved, event, event_by, silenced, tunes, listens_to}
use Rattle.air_log.specs.Devices.{seen_power}
use Rattle.air_log.specs.ScriptedDevices.{device_after_act, device_after_line}
use Rattle.air_log.specs.Trails.{alarm_is_due, alarms, alarm_limit, alarmed, device_after_start, begun_by, starts, one_alarm}
use Rattle.node_core.proofs.KeptBoots.{KeepsBoot, boot_kept}
use Rattle.air_log.proofs.DeviceActs.{told, by_act, not_turned}

-- orders change no power
abbrev HasPower : Power → Device → Type 0
HasPower p d = d.power ≡ p

on_power : (p : Power) (rank t : ℕ) (d : Device) (es : List Tuning) → HasPower p d → HasPower p (tunes rank t d es)
on_power p rank t d [] is = is
on_power p rank t d (e ∷ es) is = cond_both _ _ _ (HasPower p) (λ same. is) (λ other. is)

order_power : (clock : ℕ → ℕ) (v t : ℕ) (p : Power) (d : Device) (o : Order) → HasPower p d → HasPower p (obeyed clock v t d o)
order_power clock v t p d (Listen rank) is =
    let x = silenced v t d in
    cond_both (listens_to rank d.listening) d (tunes rank t x x.made.tuned) (HasPower p) (λ on. is) (λ off. on_power p rank t x x.made.tuned is)
order_power clock v t p d Silent is = is
order_power clock v t p d (SendAt local packet) is = is
order_power clock v t p d (Alarm local) is = is

orders_power : (clock : ℕ → ℕ) (v t : ℕ) (p : Power) (os : List Order) (d : Device) → HasPower p d → HasPower p (fold (obeyed clock v t) d os)
orders_power clock v t p [] d is = is
orders_power clock v t p (o ∷ os) d is = orders_power clock v t p os (obeyed clock v t d o) (order_power clock v t p d o is)

pub boot_after : (n : Node) (r : Option Stepped) → KeepsBoot n r → (node_after n r).core.boot ≡ n.core.boot
boot_after n None kept = refl
boot_after n (Some r) kept = kept

module _ (clock : ℕ → ℕ) (s : Setup) (t : ℕ) where
  by_event : (e : Event) (x : Option Sending) (d : Device) (p : Power) → d.power ≡ p → seen_power (event_by clock s t e x d p).power ≡ seen_power p
  by_event e x d (PowerOff boots) is = ap seen_power is
  by_event e x d (PowerOn n) is =
      let r = row s n (clock t) e in
      ap seen_power (orders_power clock s.id t (PowerOn (node_after n r)) (orders_by r) (moved t e x d n r) refl)
      ∙ ap (λ (b : ℕ). (true, b)) (boot_after n r (boot_kept s n (clock t) e))

  pub event_power : (e : Event) (x : Option Sending) (d : Device) → seen_power (event clock s t e x d).power ≡ seen_power d.power
  event_power e x d = by_event e x d d.power refl

  by_alarms : (b : Bool) (more : ℕ) (d : Device) → seen_power (alarms clock s t b more d).power ≡ seen_power d.power
  unfolding alarms
  by_alarms false more d = refl
  by_alarms true zero d = refl
  by_alarms true (suc more) d =
      let e = one_alarm clock s t d in by_alarms (alarm_is_due t e.alarm) more e ∙ event_power AlarmEvent None (record d { alarm = None })

  pub alarmed_power : (d : Device) → seen_power (alarmed clock s t d).power ≡ seen_power d.power
  alarmed_power d = by_alarms (alarm_is_due t d.alarm) (alarm_limit clock t) d

  told_power : (d : Device) (a : Act) (p : Power) → d.power ≡ p → seen_power (told d a p).power ≡ seen_power p
  told_power d a (PowerOff boots) is = ap seen_power is
  told_power d a (PowerOn n) is = refl

  act_power : (d : Device) (a : Act) (p : Power) → d.power ≡ p → seen_power (device_after_act clock s t d a p).power ≡ turned_by a (seen_power p)
  act_power d = by_act clock s t d (λ a p e. d.power ≡ p → seen_power e.power ≡ turned_by a (seen_power p))
      (λ boots is. event_power Boot None (record d { power = PowerOn (rebooted (boots + 1)) }))
      (λ n is. ap seen_power is) (λ boots is. ap seen_power is) (λ n is. refl)
      (λ a p none is. told_power d a p is ∙ sym (not_turned a none (seen_power p)))

  pub line_power : (d : Device) (l : ScriptLine) → seen_power (device_after_line clock s t d l).power ≡ turned_by l.act (seen_power d.power)
  line_power d l = act_power d l.act d.power refl

  starts_power : (packet : List ℕ) (d : Device) (l : Option Listening) (x : Option Sending) → (starts s t packet d l x).power ≡ d.power
  starts_power packet d None x = refl
  starts_power packet d (Some l) (Some x) = refl
  starts_power packet d (Some l) None = refl

  by_start : (d : Device) (o : Option OrderedPacket) → (begun_by s t d o).power ≡ d.power
  by_start d None = refl
  by_start d (Some o) =
      cond_both (o.tick == t) (starts s t o.packet d d.listening d.sending) d (λ (e : Device). e.power ≡ d.power)
      (λ now. starts_power o.packet d d.listening d.sending) (λ other. refl)

  pub begun_power : (d : Device) → seen_power (device_after_start s t d).power ≡ seen_power d.power
  begun_power d = ap seen_power (by_start d d.ordered)

pub few_before : (s : ScenarioParts) (sound : IsSoundScenario s) (told rest : List ScriptLine) (l : ScriptLine) → s.script ≡ told ++ l ∷ rest → l.act ≡ On
    → (boots : ℕ) → (false, boots) ≡ turned l.node (false, 0) told → boots < 200
few_before s sound told rest l is on boots before =
    let v = l.node in
    let start : Boots = (false, 0) in
    let now : Boots = (true, boots + 1) in
    let next : turned v start s.script ≡ turned v now rest =
    ap (turned v start) is
    ∙ turned_over v start told (l ∷ rest)
    ∙ ap (λ (b : Boots). turned v b (l ∷ rest)) (sym before)
    ∙ ap (λ (b : Boots). turned v b rest) (ap (λ (own : Bool). if own then turned_by l.act (false, boots) else (false, boots)) (eq-eqb v v refl)
    ∙ ap (λ (a : Act). turned_by a (false, boots)) on) in
    let few : (turned v now rest).1 ≤ 200 = subst (λ (b : Boots). b.1 ≤ 200) next (sound.few_boots v) in
    omega (arith, few, never_less v now rest)
