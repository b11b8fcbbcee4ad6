-- Where something is ordered a window is open, whose flood waits for it.
use Rattle.std.proofs.Common.{◌≡◌, ℕ, suc, ◌/◌, ◌<◌, inl, inr, List, Bool, true, ◌&&◌, ◌||◌, Some, None, Option, is_some, refl, sym, ◌∙◌, ap, subst, arith}
use Rattle.std.proofs.Common.{true≢false}
use Rattle.std.specs.Option.{IfSome}
use Rattle.std.proofs.lemmas.Bool.{cases_lt, lt-ltb}
use Rattle.std.proofs.lemmas.Option.{none-some}
use Rattle.radio_model.specs.declared.sending.Sending.{Sending}
use Rattle.scenario_text.specs.ScenarioParts.{ScenarioParts}
use Rattle.node_core.specs.declared.stage.Stage.{Stage}
use Rattle.node_core.specs.declared.stage.Stage.TheVariants.{Idle, Scanning, AwaitFrame, AwaitSlot, InWindow}
use Rattle.node_core.specs.Windows.{Window}
use Rattle.node_core.specs.Nodes.{Node}
use Rattle.air_log.specs.declared.entry.Entry.{Entry}
use Rattle.air_log.specs.Devices.{Device, Power, PowerOff, PowerOn, OrderedPacket, listens_to}
use Rattle.law_trails.specs.Phases.{Start}
use Rattle.law_trails.specs.Walks.{CannotSend}
use Rattle.law_safety.specs.CountedFrames.{IsResting}
use Rattle.law_safety.specs.SetAlarms.{rank_at}
use Rattle.law_safety.specs.TunedNodes.{Either}
use Rattle.law_safety.specs.RadiosOn.{RadioFor}
use Rattle.law_safety.specs.OrderedSendings.{HasOrder}
use Rattle.law_safety.specs.NodesInOrder.{IsOn, InOrderBy, InOpenWindow, WindowAt}
use Rattle.law_safety.specs.Rows.{IsFine}

-- where something is ordered, at the start of what is ordered: a window is open, its flood waits, and the radio is on
pub record IsAbout (s : ScenarioParts) (clocks : ℕ → ℕ → ℕ) (air : List Entry) (v t : ℕ) (d : Device) (o : OrderedPacket) : Type 0 where
  pub node : Node
  pub slot : ℕ
  pub window : Window
  pub on : d.power ≡ PowerOn node
  pub stage : node.stage ≡ InWindow slot window
  pub is : IsOn s clocks air v t (suc t) d node
  pub open_window : InOpenWindow s clocks air v (suc t) node d slot window
  pub order : HasOrder s clocks air v (suc t) node slot window o
  pub waits : window.flood.waiting ≡ true
  pub listens : listens_to (rank_at node) d.listening ≡ true
  pub silent : (x : Sending) → d.sending ≡ Some x → ⊥
  pub frame : t / s.profile.frame ≡ node.frame

module _ (s : ScenarioParts) (clocks : ℕ → ℕ → ℕ) (air : List Entry) (v t : ℕ) (d : Device) (o : OrderedPacket) (ordered : d.ordered ≡ Some o) where
  module _ (n : Node) (j : ℕ) (w : Window) (on : d.power ≡ PowerOn n) (stage : n.stage ≡ InWindow j w) (is : IsOn s clocks air v t (suc t) d n) where
    open_window : InOpenWindow s clocks air v (suc t) n d j w
    open_window = subst (λ (p : Stage). WindowAt s clocks air v (suc t) n d p) stage is.window

    waits : w.flood.waiting ≡ true
    waits = open_window.flood.waits ∙ ap (λ (p : Option OrderedPacket). is_some p || is_some d.sending) ordered

    below : w.flood.sent < w.flood.limit
    below = elim (cases_lt w.flood.sent s.sends) [
      | inl less ↦ (let is_limit = open_window.flood.limit in omega (arith, less, is_limit))
      | inr past ↦ absurd (true≢false (sym waits ∙ open_window.flood.spent (let few = open_window.flood.few in omega (arith, past, few))))
    ]

    listens : listens_to (rank_at n) d.listening ≡ true
    listens =
        let radio : RadioFor n d (InWindow j w) = subst (λ (p : Stage). RadioFor n d p) stage is.radio.at in
        subst (λ (b : Bool). Either b (listens_to (rank_at n) d.listening ≡ true) (d.listening ≡ None)) (lt-ltb w.flood.sent w.flood.limit below) radio

    silent : (x : Sending) → d.sending ≡ Some x → ⊥
    silent x sending =
        let both : (is_some d.ordered && is_some d.sending) ≡ true =
        ap (λ (p : Option OrderedPacket). is_some p && is_some d.sending) ordered ∙ ap (λ (p : Option Sending). is_some p) sending in
        true≢false (sym both ∙ open_window.flood.one)

    is_about : IsAbout s clocks air v t d o
    is_about = record {
      node = n;
      slot = j;
      window = w;
      on = on;
      stage = stage;
      is = is;
      open_window = open_window;
      order = subst (λ (p : Option OrderedPacket). IfSome p (HasOrder s clocks air v (suc t) n j w)) ordered open_window.order;
      waits = waits;
      listens = listens;
      silent = silent;
      frame = elim is.frame.at [
        | inl same ↦ sym same
        | inr over ↦ absurd (subst (λ (p : Stage). IsResting p) stage over.rests)
      ];
    }

  none : d.ordered ≡ None → ⊥
  none is = none-some o (sym is ∙ ordered)

  at_stage : (n : Node) (p : Stage) → d.power ≡ PowerOn n → n.stage ≡ p → IsOn s clocks air v t (suc t) d n → RadioFor n d p → IsAbout s clocks air v t d o
  at_stage n Idle on stage is radio = absurd radio
  at_stage n Scanning on stage is radio = absurd (none radio.1.ordered)
  at_stage n AwaitFrame on stage is radio = absurd (none radio.1.ordered)
  at_stage n (AwaitSlot j) on stage is radio = absurd (none radio.1.ordered)
  at_stage n (InWindow j w) on stage is radio = is_about n j w on stage is

  by_power : (p : Power) → d.power ≡ p → InOrderBy s clocks air v t (suc t) d p → IsAbout s clocks air v t d o
  by_power (PowerOff boots) on is = absurd (none is.0.still.ordered)
  by_power (PowerOn n) on is = at_stage n n.stage on refl is is.radio.at

  pub where_ordered : IsFine s clocks air v t Start d → IsAbout s clocks air v t d o
  where_ordered fine = by_power d.power refl fine.node.by_power

  -- and its start is not missed: the radio is on, and nothing is being sent
  pub not_missed : {A : Type 0} → IsFine s clocks air v t Start d → CannotSend d → A
  not_missed fine cannot =
      let about = where_ordered fine in
      elim cannot [
        | inl off ↦ absurd (true≢false (sym about.listens ∙ ap (listens_to (rank_at about.node)) off))
        | inr other ↦ absurd (about.silent other.0 other.1)
      ]
