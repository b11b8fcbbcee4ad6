-- Other streams of a node leave the clauses of its frame, its alarm, its tune, its radio and what it has begun.
use Rattle.std.proofs.Common.{◌≡◌, ℕ, inl, inr, Bool, true, false, refl, sym, subst}
use Rattle.bus_rules.specs.declared.tune.Tune.{Tune}
use Rattle.bus_rules.specs.declared.tune.Tune.TheVariants.{Scan, Hold, Host}
use Rattle.bus_rules.specs.Plans.{last_slot}
use Rattle.bus_rules.specs.Streams.{Streams}
use Rattle.node_core.specs.declared.stage.Stage.{Stage}
use Rattle.node_core.specs.declared.stage.Stage.TheVariants.{Idle, Scanning, AwaitFrame, AwaitSlot, InWindow}
use Rattle.node_core.specs.Windows.{Window}
use Rattle.node_core.specs.Nodes.{Node}
use Rattle.node_core.specs.Nodes.{with_streams}
use Rattle.scenario_text.specs.ScenarioParts.{ScenarioParts}
use Rattle.radio_model.specs.declared.sending.Sending.{Sending}
use Rattle.air_log.specs.Devices.{Device, Power}
use Rattle.law_safety.specs.StillDevices.{IsStill}
use Rattle.law_safety.specs.CountedFrames.{InFrame, BeganBy}
use Rattle.law_safety.specs.SetAlarms.{HasAlarm, AlarmFor, rank_at}
use Rattle.law_safety.specs.RoundZeros.{RefFor}
use Rattle.law_safety.specs.TunedNodes.{HasTune, IsTunedAt, IsRoundOf, IsMember, Waits, Scans, Either, by_hearing, is_joining, is_last_window}
use Rattle.law_safety.specs.RadiosOn.{HasRadio, RadioFor}
use Rattle.law_safety.specs.BegunFloods.{HasBegun, BeganOnce, BegunInWindow, BegunAt, BeginsOnce}

-- the one or the other, by a test with the same answer
pub either_kept : (a b : Bool) → b ≡ a → (P Q R S : Type 0) → (P → R) → (Q → S) → Either a P Q → Either b R S
either_kept a b same P Q R S f g is = subst (λ (c : Bool). Either c R S) (sym same) (by a is)
  where
    by : (a : Bool) → Either a P Q → Either a R S
    by true is = f is
    by false is = g is

-- the same device but for its power
abbrev pub with_power : Device → Power → Device
with_power d p = record d { power = p }

-- whether a node joins is no matter of its streams
pub joins_same : (n : Node) (streams : Streams) (T : Tune) → by_hearing (with_streams n streams) T ≡ by_hearing n T
joins_same n streams (Scan r waited) = refl
joins_same n streams (Hold r due) = refl
joins_same n streams (Host r due) = refl

pub still_kept : (d : Device) (p : Power) → IsStill d → IsStill (with_power d p)
still_kept d p is = record { ordered = is.ordered; sending = is.sending }

-- what was begun
module _ (s : ScenarioParts) (d : Device) (p : Power) where
  abbrev same_sent : Device
  same_sent = with_power d p

  pub then_begun : (f : ℕ) (x : Sending) → HasBegun s f d x → HasBegun s f same_sent x
  then_begun f x is = record { sent = is.sent; first = is.first; frame = is.frame }

  pub was_begun : (f : ℕ) (x : Sending) → HasBegun s f same_sent x → HasBegun s f d x
  was_begun f x is = record { sent = is.sent; first = is.first; frame = is.frame }

  pub once_kept : BeganOnce s d → BeganOnce s same_sent
  once_kept once f x y a b same = once f x y (was_begun f x a) (was_begun f y b) same

module _ (s : ScenarioParts) (clocks : ℕ → ℕ → ℕ) (v : ℕ) (n : Node) (streams : Streams) where
  abbrev m : Node
  m = with_streams n streams

  began_kept : (t : ℕ) (st : Stage) → BeganBy s t n st → BeganBy s t m st
  began_kept t Idle is = is
  began_kept t Scanning is = is
  began_kept t AwaitFrame is = is
  began_kept t (AwaitSlot j) is = is
  began_kept t (InWindow j w) is = is

  pub frame_kept : (t : ℕ) → InFrame s clocks v t n → InFrame s clocks v t m
  frame_kept t is = record {
    at = elim is.at [ inl same ↦ inl same | inr over ↦ inr (record { frame = over.frame; past = over.past; rests = over.rests }) ];
    began = began_kept t n.stage is.began;
  }

  alarm_for : (alarm : ℕ) (st : Stage) → AlarmFor s clocks v n alarm st → AlarmFor s clocks v m alarm st
  alarm_for alarm Idle is = is
  alarm_for alarm Scanning is = is
  alarm_for alarm AwaitFrame is = is
  alarm_for alarm (AwaitSlot j) is = elim is [
    | inl at ↦ inl at
    | inr late ↦ inr (record { before = late.before; next = late.next; zero = late.zero; good = late.good; at = late.at; late = late.late })
  ]
  alarm_for alarm (InWindow j w) is = is

  round_kept : (j : ℕ) (closes : Bool) (T : Tune) → IsRoundOf s clocks v n j closes T → IsRoundOf s clocks v m j closes T
  round_kept j closes (Scan r waited) is = is
  round_kept j closes (Hold r due) is = is
  round_kept j closes (Host r due) is = is

  member_kept : (j last : ℕ) (closes : Bool) → IsMember s clocks v n j last closes → IsMember s clocks v m j last closes
  member_kept j last closes is = record { slot = is.slot; good = is.good; round = round_kept j closes n.core.tune is.round }

  scans_kept : (T : Tune) → Scans s clocks v n T → Scans s clocks v m T
  scans_kept (Scan r waited) is = is
  scans_kept (Hold r due) is = is
  scans_kept (Host r due) is = is

  waits_kept : (T : Tune) → Waits s clocks v n T → Waits s clocks v m T
  waits_kept (Scan r waited) is = is
  waits_kept (Hold r due) is = is
  waits_kept (Host r due) is = is

  tuned_at : (st : Stage) → IsTunedAt s clocks v n st → IsTunedAt s clocks v m st
  tuned_at Idle is = is
  tuned_at Scanning is = scans_kept n.core.tune is
  tuned_at AwaitFrame is = waits_kept n.core.tune is
  tuned_at (AwaitSlot j) is = member_kept j (last_slot n.core.plan) false is
  tuned_at (InWindow j w) is =
      either_kept (is_joining n) (is_joining m) (joins_same n streams n.core.tune)
      (RefFor s clocks (rank_at n) v n.zero n.frame n.frame j) (IsMember s clocks v n j w.last (is_last_window j w))
      (RefFor s clocks (rank_at n) v n.zero n.frame n.frame j) (IsMember s clocks v m j w.last (is_last_window j w))
      (λ joins. joins) (member_kept j w.last (is_last_window j w)) is

  pub tune_kept : HasTune s clocks v n → HasTune s clocks v m
  tune_kept is = record { rank = is.rank; at = tuned_at n.stage is.at }

  module _ (d : Device) (p : Power) where
    abbrev e : Device
    e = with_power d p

    pub alarm_kept : HasAlarm s clocks v n d → HasAlarm s clocks v m e
    alarm_kept is = record { alarm = is.alarm; set = is.set; at = alarm_for is.alarm n.stage is.at }

    radio_for : (st : Stage) → RadioFor n d st → RadioFor m e st
    radio_for Idle is = is
    radio_for Scanning is = (is.0, still_kept d p is.1)
    radio_for AwaitFrame is = (is.0, still_kept d p is.1)
    radio_for (AwaitSlot j) is = (is.0, still_kept d p is.1)
    radio_for (InWindow j w) is = is

    pub radio_kept : HasRadio n d → HasRadio m e
    radio_kept is = record { at = radio_for n.stage is.at }

    begun_in_window : (j : ℕ) (w : Window) → BegunInWindow s n d j w → BegunInWindow s m e j w
    begun_in_window j w is = record {
      below = λ x begun. is.below x (was_begun s d p n.frame x begun);
      packet = λ x begun same. is.packet x (was_begun s d p n.frame x begun) same;
      made = λ began. elim (is.made began) [
        | inl first ↦ inl first
        | inr of ↦ inr (record { sending = of.sending; begun = then_begun s d p n.frame of.sending of.begun; slot = of.slot })
      ];
    }

    begun_at : (st : Stage) → BegunAt s n d st → BegunAt s m e st
    begun_at Idle is = is
    begun_at Scanning is = λ x begun. is x (was_begun s d p n.frame x begun)
    begun_at AwaitFrame is = is
    begun_at (AwaitSlot j) is = λ x begun. is x (was_begun s d p n.frame x begun)
    begun_at (InWindow j w) is = begun_in_window j w is

    pub begun_kept : BeginsOnce s n d → BeginsOnce s m e
    begun_kept is = record { at = begun_at n.stage is.at; once = once_kept s d p is.once }
