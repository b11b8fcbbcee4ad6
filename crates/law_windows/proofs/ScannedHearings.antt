-- A node that still scans after the receptions of a tick has received no schedule of its rank among them.
use Rattle.std.proofs.Common.{◌≡◌, ◌⊎◌, ℕ, inl, inr, List, [], ◌∷◌, false, ◌==◌, Some, None, Option, Contains, fold, refl, sym, ◌∙◌, ap, subst, eq-eqb}
use Rattle.std.proofs.Common.{true≢false}
use Rattle.std.proofs.lemmas.Bool.{cond_both}
use Rattle.lwb_base.specs.Messages.{Schedule}
use Rattle.lwb_base.specs.declared.event.Event.TheVariants.{Heard}
use Rattle.bus_rules.specs.Tuning.{rank_of}
use Rattle.bus_rules.specs.Cores.{Setup}
use Rattle.bus_rules.specs.Slots.{Message, ScheduleOf, DataOf, RequestOf}
use Rattle.lwb_member.specs.Said.{message_of}
use Rattle.node_core.specs.declared.stage.Stage.{Stage}
use Rattle.node_core.specs.declared.stage.Stage.TheVariants.{Idle, Scanning, AwaitFrame, AwaitSlot, InWindow}
use Rattle.node_core.specs.Windows.{Window}
use Rattle.node_core.specs.Nodes.{Node}
use Rattle.node_core.specs.Rows.{Stepped, at_heard, scanner_hears, joins}
use Rattle.node_core.specs.Rows.{node_after}
use Rattle.air_log.specs.Devices.{Device, Power, PowerOff, PowerOn, event_by}
use Rattle.air_log.specs.Trails.{Reception, device_after_reception}
use Rattle.air_log.proofs.EventPower.{stepped_power}
use Rattle.lwb_base.proofs.Elements.{not_in_none, contains_cases}
use Rattle.law_safety.specs.SetAlarms.{rank_at}

module _ (clock : ℕ → ℕ) (s : Setup) (t : ℕ) where
  -- the power after a reception, by the power before it
  abbrev power_after : Power → List ℕ → Power
  power_after (PowerOff boots) p = PowerOff boots
  power_after (PowerOn n) p = PowerOn (node_after n (at_heard s n (clock t) p n.stage))

  heard_power : (d : Device) (h : Reception) (p : Power) → d.power ≡ p → (event_by clock s t (Heard h.packet) None d p).power ≡ power_after p h.packet
  heard_power d h (PowerOff boots) is = is
  heard_power d h (PowerOn n) is = stepped_power clock s t (Heard h.packet) None d n

  abbrev all_after : Power → List Reception → Power
  all_after p hs = fold (λ q h. power_after q h.packet) p hs

  all_power : (hs : List Reception) (d : Device) → (fold (device_after_reception clock s t) d hs).power ≡ all_after d.power hs
  all_power [] d = refl
  all_power (h ∷ hs) d = all_power hs (device_after_reception clock s t d h) ∙ ap (λ (p : Power). all_after p hs) (heard_power d h d.power refl)

  -- a node in a window stays in it
  abbrev pub InSome : Power → Type 0
  InSome (PowerOff boots) = ⊥
  InSome (PowerOn n) = (j : ℕ) × (w : Window) × (n.stage ≡ InWindow j w)

  stays_in : (p : Power) (q : List ℕ) → InSome p → InSome (power_after p q)
  stays_in (PowerOff boots) q is = is
  stays_in (PowerOn n) q is =
      let j = is.0 in
      let w = is.1 in
      subst (λ (st : Stage). InSome (PowerOn (node_after n (at_heard s n (clock t) q st)))) (sym is.2) (j, _, refl)

  stay_in : (hs : List Reception) (p : Power) → InSome p → InSome (all_after p hs)
  stay_in [] p is = is
  stay_in (h ∷ hs) p is = stay_in hs (power_after p h.packet) (stays_in p h.packet is)

  -- one that scans has not joined
  abbrev Scans : Power → Node → Type 0
  Scans p n = (p ≡ PowerOn n) × (n.stage ≡ Scanning)

  not_in : (p : Power) (n : Node) → Scans p n → InSome p → ⊥
  not_in (PowerOff boots) n scans is = is
  not_in (PowerOn m) n scans is = other n.stage is.0 is.1 scans.1 (ap (λ (k : Node). k.stage) (sym (same_node m n scans.0)) ∙ is.2)
    where
      same_node : (a b : Node) → PowerOn a ≡ PowerOn b → a ≡ b
      same_node a b is = cc

      other : (st : Stage) (j : ℕ) (w : Window) → st ≡ Scanning → st ≡ InWindow j w → ⊥
      other st j w first second = cc

  -- what is no schedule of its rank
  abbrev pub NotOurs : Node → Option Message → Type 0
  NotOurs m o = (y : Schedule) → o ≡ Some (ScheduleOf y) → y.plan.rank ≡ rank_at m → ⊥

  abbrev Unmoved : Node → Option Stepped → Option Message → Type 0
  Unmoved m r o = (InSome (PowerOn (node_after m r))) ⊎ ((PowerOn (node_after m r) ≡ PowerOn m) × NotOurs m o)

  by_message : (m : Node) (q : List ℕ) (o : Option Message) → Unmoved m (scanner_hears s m (clock t) q o) o
  by_message m q None = inr (refl, λ y is. absurd cc)
  by_message m q (Some (DataOf e)) = inr (refl, λ y is. absurd cc)
  by_message m q (Some (RequestOf a)) = inr (refl, λ y is. absurd cc)
  by_message m q (Some (ScheduleOf z)) =
      cond_both (z.plan.rank == rank_of m.core.tune) (Some (joins s m (clock t) q z)) None (λ (r : Option Stepped). Unmoved m r (Some (ScheduleOf z)))
      (λ own. inl (_, _, refl))
      (λ other. inr (refl, λ y is own. not_own z y is own other))
    where
      not_own : (z y : Schedule) → Some (ScheduleOf z) ≡ Some (ScheduleOf y) → y.plan.rank ≡ rank_at m → (z.plan.rank == rank_of m.core.tune) ≡ false → ⊥
      not_own z y is own other =
          let same : z ≡ y = cc in
          true≢false (sym (eq-eqb z.plan.rank (rank_of m.core.tune) (ap (λ (x : Schedule). x.plan.rank) same ∙ own)) ∙ other)

  on_same : (m n : Node) → PowerOn m ≡ PowerOn n → m ≡ n
  on_same m n is = cc

  off_on : (boots : ℕ) (n : Node) → PowerOff boots ≡ PowerOn n → ⊥
  off_on boots n is = cc

  -- the node before a reception after which it scans
  one_back : (p : Power) (q : List ℕ) (n : Node) → power_after p q ≡ PowerOn n → n.stage ≡ Scanning → (p ≡ PowerOn n) × NotOurs n (message_of q)
  one_back (PowerOff boots) q n is scans = absurd (off_on boots n is)
  one_back (PowerOn m) q n is scans = by_stage m.stage refl
    where
      there : (st : Stage) → m.stage ≡ st → PowerOn (node_after m (at_heard s m (clock t) q st)) ≡ PowerOn n
      there st stage = subst (λ (x : Stage). PowerOn (node_after m (at_heard s m (clock t) q x)) ≡ PowerOn n) stage is

      -- at another place nothing is changed
      elsewhere : (st : Stage) → m.stage ≡ st → PowerOn m ≡ PowerOn n → (st ≡ Scanning → ⊥) → ⊥
      elsewhere st stage same other = other (sym stage ∙ ap (λ (k : Node). k.stage) (on_same m n same) ∙ scans)

      by_stage : (st : Stage) → m.stage ≡ st → (PowerOn m ≡ PowerOn n) × NotOurs n (message_of q)
      by_stage Idle stage = absurd (elsewhere Idle stage (there Idle stage) (λ is. cc))
      by_stage AwaitFrame stage = absurd (elsewhere AwaitFrame stage (there AwaitFrame stage) (λ is. cc))
      by_stage (AwaitSlot j) stage = absurd (elsewhere (AwaitSlot j) stage (there (AwaitSlot j) stage) (λ is. cc))
      by_stage (InWindow j w) stage = absurd (not_in (power_after (PowerOn m) q) n (is, scans) (stays_in (PowerOn m) q (j, w, stage)))
      by_stage Scanning stage = elim (by_message m q (message_of q)) [
        | inl in_some ↦ absurd (not_in (PowerOn (node_after m (scanner_hears s m (clock t) q (message_of q)))) n (there Scanning stage, scans) in_some)
        | inr still ↦ (
            let same : PowerOn m ≡ PowerOn n = sym still.0 ∙ there Scanning stage in
            (same, subst (λ (k : Node). NotOurs k (message_of q)) (on_same m n same) still.1)
            )
      ]

  -- and before all receptions of the tick
  pub scanned : (hs : List Reception) (p : Power) (n : Node) → all_after p hs ≡ PowerOn n → n.stage ≡ Scanning
      → (p ≡ PowerOn n) × ((h : Reception) → Contains hs h → NotOurs n (message_of h.packet))
  scanned [] p n is scans = (is, λ h there. absurd (not_in_none h there))
  scanned (h ∷ hs) p n is scans =
      let rest = scanned hs (power_after p h.packet) n is scans in
      let one = one_back p h.packet n rest.0 scans in (
        one.0,
        λ g there. elim (contains_cases h hs g there) [
          | inl same ↦ subst (λ (r : Reception). NotOurs n (message_of r.packet)) same one.1
          | inr later ↦ rest.1 g later
        ],
      )

  pub scanned_device : (hs : List Reception) (d : Device) (n : Node) → (fold (device_after_reception clock s t) d hs).power ≡ PowerOn n → n.stage ≡ Scanning
      → (d.power ≡ PowerOn n) × ((h : Reception) → Contains hs h → NotOurs n (message_of h.packet))
  scanned_device hs d n on scans = scanned hs d.power n (sym (all_power hs d) ∙ on) scans

  -- a node that scans has joined after one that is a schedule of its rank
  one_on : (n : Node) (q : List ℕ) → n.stage ≡ Scanning
      → InSome (power_after (PowerOn n) q) ⊎ ((power_after (PowerOn n) q ≡ PowerOn n) × NotOurs n (message_of q))
  one_on n q stage =
      subst (λ (st : Stage). InSome (PowerOn (node_after n (at_heard s n (clock t) q st)))
      ⊎ ((PowerOn (node_after n (at_heard s n (clock t) q st)) ≡ PowerOn n) × NotOurs n (message_of q))) (sym stage) (by_message n q (message_of q))

  joins_by : (hs : List Reception) (n : Node) → n.stage ≡ Scanning → (h : Reception) → Contains hs h → (NotOurs n (message_of h.packet) → ⊥)
      → InSome (all_after (PowerOn n) hs)
  joins_by [] n scans h there ours = absurd (not_in_none h there)
  joins_by (g ∷ hs) n scans h there ours = elim (one_on n g.packet scans) [
    | inl in_some ↦ stay_in hs (power_after (PowerOn n) g.packet) in_some
    | inr still ↦ elim (contains_cases g hs h there) [
      | inl same ↦ absurd (ours (subst (λ (r : Reception). NotOurs n (message_of r.packet)) same still.1))
      | inr later ↦ subst (λ (p : Power). InSome (all_after p hs)) (sym still.0) (joins_by hs n scans h later ours)
    ]
  ]

  pub joined_device : (hs : List Reception) (d : Device) (n : Node) → d.power ≡ PowerOn n → n.stage ≡ Scanning
      → (h : Reception) → Contains hs h → (NotOurs n (message_of h.packet) → ⊥) → InSome (fold (device_after_reception clock s t) d hs).power
  joined_device hs d n on scans h there ours =
      subst InSome (sym (all_power hs d ∙ ap (λ (p : Power). all_after p hs) on)) (joins_by hs n scans h there ours)

  pub stays_device : (hs : List Reception) (d : Device) → InSome d.power → InSome (fold (device_after_reception clock s t) d hs).power
  stays_device hs d is = subst InSome (sym (all_power hs d)) (stay_in hs d.power is)
