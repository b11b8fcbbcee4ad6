-- A window that is there at some tick is among those of the trail, and one that is open then closes later.
use Rattle.std.proofs.Common.{◌≡◌, ℕ, zero, suc, ◌<◌, ◌≤◌, inl, inr, List, [], ◌∷◌, ◌==◌, Some, None, Option, Contains, sym, ◌∙◌, ap, subst, arith}
use Rattle.std.specs.Option.{IfSome}
use Rattle.std.proofs.lemmas.Bool.{cases_lt, cond_both}
use Rattle.lwb_base.specs.declared.event.Event.{Event}
use Rattle.lwb_base.specs.declared.order.Order.{Order}
use Rattle.lwb_base.specs.declared.order.Order.TheVariants.{Listen, Off, SendAt, Alarm}
use Rattle.bus_rules.specs.Cores.{Setup}
use Rattle.node_core.specs.declared.stage.Stage.{Stage}
use Rattle.node_core.specs.Nodes.{Node}
use Rattle.node_core.specs.Rows.{node_after}
use Rattle.node_core.specs.Windows.{Window}
use Rattle.radio_model.specs.OnAir.{Tuning}
use Rattle.radio_model.specs.declared.sending.Sending.{Sending}
use Rattle.scenario_text.specs.ScenarioParts.{ScenarioParts}
use Rattle.air_log.specs.Devices.{Device, Listening, OrderedPacket, obeyed, silenced, tunes, listens_to}
use Rattle.scenario_text.specs.Setups.{setup_of}
use Rattle.air_log.specs.Trails.{Reception, device_after_end, alarmed, before_start, begun_by, starts, before_tick}
use Rattle.air_log.specs.WindowLogs.{WindowLog, opened_log, gone_on, logs_after_closing, window_of_stage, windows_after, windows_by}
use Rattle.lwb_base.proofs.Elements.{not_in_none, contains_head, contains_tail, contains_cases}
use Rattle.air_log.proofs.KeptByEvents.{IsKept, in_alarms, in_end, in_tick}
use Rattle.law_trails.specs.Phases.{End, device_at}

module _ (t : ℕ) (first : WindowLog) where
  -- it is there, and has not closed before tick t
  pub record IsStill (logs : List WindowLog) : Type 0 where
    pub window : WindowLog
    pub there : Contains logs window
    pub frame : window.frame ≡ first.frame
    pub rank : window.rank ≡ first.rank
    pub slot : window.slot ≡ first.slot
    pub opened : window.opened ≡ first.opened
    pub closed : IfSome window.closed (λ c. t ≤ c.tick)

  one_more : (y : WindowLog) (logs : List WindowLog) → IsStill logs → IsStill (y ∷ logs)
  one_more y logs is = record {
    window = is.window;
    there = contains_tail y logs is.window is.there;
    frame = is.frame;
    rank = is.rank;
    slot = is.slot;
    opened = is.opened;
    closed = is.closed;
  }

  older : {all : List WindowLog} (logs : List WindowLog) (is : IsStill all) → Contains logs is.window → IsStill logs
  older logs is old = record {
    window = is.window;
    there = old;
    frame = is.frame;
    rank = is.rank;
    slot = is.slot;
    opened = is.opened;
    closed = is.closed;
  }

  goes_on : (k : ℕ) (e : Event) (x : Option Sending) (u : Window) (logs : List WindowLog) → IsStill logs → IsStill (gone_on k e x u logs)
  goes_on k e x u [] is = absurd (not_in_none is.window is.there)
  goes_on k e x u (y ∷ logs) is = elim (contains_cases y logs is.window is.there) [
    | inl same ↦ record {
      window = _;
      there = contains_head _ logs;
      frame = ap (λ (z : WindowLog). z.frame) same ∙ is.frame;
      rank = ap (λ (z : WindowLog). z.rank) same ∙ is.rank;
      slot = ap (λ (z : WindowLog). z.slot) same ∙ is.slot;
      opened = ap (λ (z : WindowLog). z.opened) same ∙ is.opened;
      closed = subst (λ (z : WindowLog). IfSome z.closed (λ c. t ≤ c.tick)) (sym same) is.closed;
    }
    | inr old ↦ one_more _ logs (older logs is old)
  ]

  closes : (k : ℕ) → t ≤ k → (m : Node) (logs : List WindowLog) → IsStill logs → IsStill (logs_after_closing k m logs)
  closes k late m [] is = absurd (not_in_none is.window is.there)
  closes k late m (y ∷ logs) is = elim (contains_cases y logs is.window is.there) [
    | inl same ↦ record {
      window = _;
      there = contains_head _ logs;
      frame = ap (λ (z : WindowLog). z.frame) same ∙ is.frame;
      rank = ap (λ (z : WindowLog). z.rank) same ∙ is.rank;
      slot = ap (λ (z : WindowLog). z.slot) same ∙ is.slot;
      opened = ap (λ (z : WindowLog). z.opened) same ∙ is.opened;
      closed = late;
    }
    | inr old ↦ one_more _ logs (older logs is old)
  ]

  by_stages : (k : ℕ) → t ≤ k → (e : Event) (x : Option Sending) (n m : Node) (from to : Stage) (logs : List WindowLog) → IsStill logs
      → IsStill (windows_after k e x n m from to logs)
  by_stages k late e x n m from to logs is = by_windows (window_of_stage from) (window_of_stage to)
    where
      by_windows : (old new : Option (ℕ × Window)) → IsStill (windows_by k e x n m old new logs)
      by_windows None None = is
      by_windows None (Some new) = one_more (opened_log k e x n m new.0 new.1) logs is
      by_windows (Some old) None = closes k late m logs is
      by_windows (Some old) (Some new) = goes_on k e x new.1 logs is

  on_still : (rank k : ℕ) (d : Device) (es : List Tuning) → IsStill d.made.windows → IsStill (tunes rank k d es).made.windows
  on_still rank k d [] is = is
  on_still rank k d (e ∷ es) is = cond_both _ _ _ (λ (x : Device). IsStill x.made.windows) (λ a. is) (λ a. is)

  by_order : (clock : ℕ → ℕ) (v k : ℕ) (d : Device) (o : Order) → IsStill d.made.windows → IsStill (obeyed clock v k d o).made.windows
  by_order clock v k d (Listen rank) is =
      let x = silenced v k d in
      cond_both (listens_to rank d.listening) d (tunes rank k x x.made.tuned) (λ (y : Device). IsStill y.made.windows)
      (λ a. is) (λ a. on_still rank k x x.made.tuned is)
  by_order clock v k d Off is = is
  by_order clock v k d (SendAt local packet) is = is
  by_order clock v k d (Alarm local) is = is

  kept_still : (clock : ℕ → ℕ) (s : Setup) (k : ℕ) → t ≤ k → IsKept (λ d. IsStill d.made.windows) clock s k
  kept_still clock s k late = record {
    obeying = by_order clock s.id k;
    moving = λ e x d n r is. by_stages k late e x n (node_after n r) n.stage (node_after n r).stage d.made.windows is;
    powered = λ d p is. is;
    without_alarm = λ d is. is;
    off = λ d boots is. is;
    after_sending = λ d is. is;
  }

  module _ (s : ScenarioParts) (v : ℕ) (clock : ℕ → ℕ) (hs : List Reception) where
    by_start : (k : ℕ) (packet : List ℕ) (d : Device) (l : Option Listening) (y : Option Sending) → IsStill d.made.windows
        → IsStill (starts (setup_of s v) k packet d l y).made.windows
    by_start k packet d None y is = is
    by_start k packet d (Some l) (Some y) is = is
    by_start k packet d (Some l) None is = is

    by_begun : (k : ℕ) (d : Device) (o : Option OrderedPacket) → IsStill d.made.windows → IsStill (begun_by (setup_of s v) k d o).made.windows
    by_begun k d None is = is
    by_begun k d (Some o) is =
        cond_both (o.tick == k) (starts (setup_of s v) k o.packet d d.listening d.sending) d (λ (x : Device). IsStill x.made.windows)
        (λ a. by_start k o.packet d d.listening d.sending is) (λ a. is)

    -- from a tick on
    pub since_tick : (k : ℕ) → t ≤ k → (u : ℕ) → k ≤ u → IsStill (before_tick s v clock hs k).made.windows → IsStill (before_tick s v clock hs u).made.windows
    unfolding before_tick
    since_tick k late zero order is =
        let first : k ≡ zero = omega (arith, order) in
        subst (λ (m : ℕ). IsStill (before_tick s v clock hs m).made.windows) first is
    since_tick k late (suc u) order is = elim (cases_lt u k) [
      | inl at ↦ (
          let next : k ≡ suc u = omega (arith, order, at) in
          subst (λ (m : ℕ). IsStill (before_tick s v clock hs m).made.windows) next is
          )
      | inr before ↦ (
          let d = before_tick s v clock hs u in
          let x = before_start s v clock hs u d in
          by_begun u x x.ordered (in_tick (λ y. IsStill y.made.windows) s v clock hs u d (kept_still clock (setup_of s v) u (omega (arith, late, before)))
          (since_tick k late u before is))
          )
    ]

    behind_hearings : IsStill (device_at s v clock hs t End).made.windows → IsStill (before_tick s v clock hs (suc t)).made.windows
    unfolding before_tick
    behind_hearings is =
        let kept = kept_still clock (setup_of s v) t (omega arith) in
        let d = device_at s v clock hs t End in
        let e = device_after_end clock (setup_of s v) t d in
        let x = alarmed clock (setup_of s v) t e in
        by_begun t x x.ordered (in_alarms (λ y. IsStill y.made.windows) clock (setup_of s v) t e kept
        (in_end (λ y. IsStill y.made.windows) clock (setup_of s v) t d kept is))

    -- and from the end of the receptions of one
    pub since_hearings : (u : ℕ) → t < u → IsStill (device_at s v clock hs t End).made.windows → IsStill (before_tick s v clock hs u).made.windows
    since_hearings u later is = since_tick (suc t) (omega arith) u later (behind_hearings is)
