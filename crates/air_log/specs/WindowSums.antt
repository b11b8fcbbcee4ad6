-- What the windows of a node count so far.
use Rattle.std.specs.Prelude.{◌≡◌, ℕ, ◌+◌, ◌%◌, ◌^◌, ◌≤◌, ⊤, min, List, [], ◌∷◌, Bool, false, ◌==◌, if◌then◌else◌, is_some, Some, None, sum_by, length}
use Rattle.std.specs.declared.option.Option.{Option}
use Rattle.lwb_base.specs.Profile.{Numbers}
use Rattle.lwb_base.specs.declared.event.Event.{Event}
use Rattle.lwb_base.specs.declared.event.Event.TheVariants.{Boot, Alarm, Heard, Sent}
use Rattle.radio_model.specs.declared.sending.Sending.{Sending}
use Rattle.bus_rules.specs.Charges.{last_if_all_sent}
use Rattle.node_core.specs.declared.stage.Stage.{Stage}
use Rattle.air_log.specs.Charges.{sent_packets, charge_by_last}
use Rattle.air_log.specs.Devices.{Power, PowerOff, PowerOn}
use Rattle.air_log.specs.WindowLogs.{WindowLog, window_of_stage}

-- earlier: what all windows but the last one count, as 64 bits have it; last: what that one counts; by_alarm: it opened by
-- its alarm; sent: how often the node has sent in it, where 5 stands for more as well
pub record WindowSum : Type 0 where
  pub profile : Numbers
  pub sends : ℕ
  pub earlier : ℕ
  pub last : ℕ
  pub by_alarm : Bool
  pub sent : ℕ

abbrev pub charge_by : Numbers → ℕ → WindowLog → ℕ
charge_by p n w = if w.by_alarm then charge_by_last p (last_if_all_sent n (sent_packets w)) else 0

-- of windows that are with the last first
pub record IsCountedTo (p : Numbers) (n : ℕ) (w : WindowLog) (ws : List WindowLog) (x : WindowSum) : Type 0 where
  pub earlier : x.earlier ≡ sum_by (charge_by p n) ws % 2 ^ 64
  pub last : x.last ≡ charge_by p n w
  pub by_alarm : x.by_alarm ≡ w.by_alarm
  pub sent : x.sent ≡ min (length (sent_packets w)) 5

pub record IsNothing (x : WindowSum) : Type 0 where
  pub earlier : x.earlier ≡ 0
  pub last : x.last ≡ 0
  pub by_alarm : x.by_alarm ≡ false

abbrev pub CountsBy : Numbers → ℕ → List WindowLog → WindowSum → Type 0
CountsBy p n [] x = IsNothing x
CountsBy p n (w ∷ ws) x = IsCountedTo p n w ws x

-- none of them counts much
abbrev pub AreSmall : Numbers → ℕ → List WindowLog → Type 0
AreSmall p n [] = ⊤
AreSmall p n (w ∷ ws) = (charge_by p n w ≤ 2 ^ 28) × AreSmall p n ws

pub record IsCounted (p : Numbers) (n : ℕ) (logs : List WindowLog) (x : WindowSum) : Type 0 where
  pub profile : x.profile ≡ p
  pub sends : x.sends ≡ n
  pub counts : CountsBy p n logs x
  pub small : AreSmall p n logs

-- whether a window is open
abbrev pub stage_has_window : Stage → Bool
stage_has_window stage = is_some (window_of_stage stage)

abbrev pub power_has_window : Power → Bool
power_has_window (PowerOff boots) = false
power_has_window (PowerOn n) = stage_has_window n.stage

-- the packet of the transmission whose end an event reports
abbrev pub sent_with : Event → Option Sending → Option (List ℕ)
sent_with Boot ended = None
sent_with Alarm ended = None
sent_with (Heard p) ended = None
sent_with Sent None = None
sent_with Sent (Some x) = Some x.packet

-- a window opens
abbrev pub opened_sum : Bool → WindowSum → WindowSum
opened_sum by_alarm x = record x {
  earlier = (x.earlier + x.last) % 2 ^ 64;
  last = if by_alarm then charge_by_last x.profile None else 0;
  by_alarm = by_alarm;
  sent = 0;
}

-- a packet was sent in the last window
abbrev pub only_if : Bool → List ℕ → Option (List ℕ)
only_if b packet = if b then Some packet else None

abbrev pub sent_sum : List ℕ → WindowSum → WindowSum
sent_sum packet x =
    record x { last = if x.by_alarm then charge_by_last x.profile (only_if (min (x.sent + 1) 5 == x.sends) packet) else 0; sent = min (x.sent + 1) 5 }

abbrev pub with_packet : Option (List ℕ) → WindowSum → WindowSum
with_packet None x = x
with_packet (Some packet) x = sent_sum packet x

-- an event that found a window open or not, and left one open or not
abbrev pub noted : Bool → Bool → Bool → Option (List ℕ) → WindowSum → WindowSum
noted before after by_alarm sent x = if after then with_packet sent (if before then x else opened_sum by_alarm x) else x
