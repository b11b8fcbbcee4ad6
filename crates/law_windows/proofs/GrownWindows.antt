-- What the receptions of a tick leave of a node's windows.
use Rattle.std.specs.Bool.{⊤}
use Rattle.std.proofs.Common.{◌≡◌, ℕ, ◌⊎◌, inl, inr, List, [], ◌∷◌, ◌++◌, true, ◌==◌, Some, None, Option, is_some, Contains, fold, map, refl, sym, ◌∙◌, ap}
use Rattle.std.proofs.Common.{subst, true≢false}
use Rattle.std.proofs.lemmas.List.{append_assoc, append-nil}
use Rattle.std.proofs.lemmas.Bool.{cond_both}
use Rattle.lwb_base.specs.Messages.{Schedule}
use Rattle.lwb_base.specs.declared.event.Event.TheVariants.{Heard}
use Rattle.bus_rules.specs.Tuning.{rank_of}
use Rattle.bus_rules.specs.Cores.{Setup}
use Rattle.bus_rules.specs.Slots.{Message, ScheduleOf, DataOf, RequestOf}
use Rattle.lwb_member.specs.Said.{message_of}
use Rattle.node_core.specs.declared.stage.Stage.{Stage}
use Rattle.node_core.specs.declared.stage.Stage.TheVariants.{Idle, Scanning, AwaitFrame, AwaitSlot, InWindow}
use Rattle.node_core.specs.Windows.{Window}
use Rattle.node_core.specs.Nodes.{Node}
use Rattle.node_core.specs.Rows.{Stepped, joins, window_hears, hearing, scanner_hears, at_heard}
use Rattle.node_core.specs.Rows.{orders_by}
use Rattle.scenario_text.specs.ScenarioParts.{ScenarioParts}
use Rattle.air_log.specs.WindowLogs.{WindowLog, Happening, HeardAt, Closing}
use Rattle.air_log.specs.Devices.{Device, Power, PowerOff, PowerOn, event_by, moved, stepped, obeyed}
use Rattle.scenario_text.specs.Setups.{setup_of}
use Rattle.air_log.specs.Trails.{Reception, device_after_reception}
use Rattle.lwb_base.proofs.Elements.{contains_head, contains_tail, contains_cases}
use Rattle.law_trails.specs.Walks.{NoWindow, device_after_row}
use Rattle.law_trails.proofs.UnmovedDevices.{unmoved}
use Rattle.law_trails.proofs.RowsOfDevices.{row_obeyed}
use Rattle.law_windows.specs.OpenWindows.{AreClosed, StandAt, StandBy}
use Rattle.law_windows.specs.WindowSteps.{HasWindows, joined_log}
use Rattle.law_windows.proofs.ListEnds.{nothing_in}
use Rattle.law_windows.proofs.PlacesWithout.{all_closed}
use Rattle.law_windows.proofs.RowsOfWindows.{joins_in, hears_in, open_first, joined_after, gone_on_after}

abbrev pub heard_at : ℕ → Reception → Happening
heard_at t h = HeardAt t h.packet

-- an open window in which all of these were received
pub record HasGrown (t : ℕ) (before : List WindowLog) (hs : List Reception) (x : WindowLog) : Type 0 where
  pub old : WindowLog
  pub there : Contains before old
  pub open_ : old.closed ≡ None
  pub opened : x.opened ≡ old.opened
  pub happenings : x.happenings ≡ old.happenings ++ map (heard_at t) hs
  pub still : x.closed ≡ None

-- one that opened by one of them, and in which all later ones were received
pub record HasJoined (t : ℕ) (hs : List Reception) (x : WindowLog) : Type 0 where
  pub earlier : List Reception
  pub first : Reception
  pub later : List Reception
  pub is : hs ≡ earlier ++ first ∷ later
  pub opened : x.opened ≡ t
  pub happenings : x.happenings ≡ map (heard_at t) (first ∷ later)
  pub still : x.closed ≡ None

-- one of those before, which has closed, or one of these
abbrev pub HasComeOf : ℕ → List WindowLog → List Reception → WindowLog → Type 0
HasComeOf t before hs x = (Contains before x × (is_some x.closed ≡ true)) ⊎ (HasGrown t before hs x ⊎ HasJoined t hs x)

module _ (s : ScenarioParts) (clocks : ℕ → ℕ → ℕ) (v t : ℕ) where
  abbrev S : Setup
  S = setup_of s v

  abbrev Has : Device → Type 0
  Has d = HasWindows s v (λ w. ⊤) t d

  abbrev next : Device → Reception → Device
  next d h = device_after_reception (clocks v) (setup_of s v) t d h

  -- one reception
  abbrev Step : Device → Reception → Device → Type 0
  Step d h e = Has e × ((x : WindowLog) → Contains e.made.windows x → HasComeOf t d.made.windows (h ∷ []) x)

  -- nothing happens at a node without an open window
  unheard : (d e : Device) (h : Reception) → e ≡ d → AreClosed d.made.windows → Has d → Step d h e
  unheard d e h same closed has = subst (Step d h) (sym same) (has, λ x there. inl (there, closed x there))

  no_row : (d : Device) (h : Reception) (n : Node) (st : Stage) → d.power ≡ PowerOn n → n.stage ≡ st → NoWindow st → Has d
      → Step d h (moved t (Heard h.packet) None d n None)
  no_row d h n st on stage none has =
      unheard d (moved t (Heard h.packet) None d n None) h
      (unmoved t (Heard h.packet) None d n on (subst NoWindow (sym stage) none))
      (all_closed d.made.windows n st none (subst (StandAt d.made.windows n) stage (subst (StandBy d.made.windows) on has.stand))) has

  joins_now : (d : Device) (h : Reception) (n : Node) (y : Schedule) → d.power ≡ PowerOn n → n.stage ≡ Scanning → Has d
      → Step d h (device_after_row (clocks v) (setup_of s v) t (Heard h.packet) None d n (joins (setup_of s v) n (clocks v t) h.packet y))
  joins_now d h n y on stage has =
      let r = joins S n (clocks v t) h.packet y in
      let e = device_after_row (clocks v) S t (Heard h.packet) None d n r in
      let x = joined_log S t (clocks v t) n h.packet y in
      let logs : e.made.windows ≡ x ∷ d.made.windows = (row_obeyed (clocks v) S t (Heard h.packet) None d n r).windows
      ∙ joined_after S (clocks v t) t n h.packet y d.made.windows stage in
      let closed = all_closed d.made.windows n Scanning tt (subst (StandAt d.made.windows n) stage (subst (StandBy d.made.windows) on has.stand)) in (
        joins_in s clocks v (λ w. ⊤) t d n h.packet y on stage tt has,
        λ w there. elim (contains_cases x d.made.windows w (subst (λ (l : List WindowLog). Contains l w) logs there)) [
          | inl same ↦ inr (inr (subst (HasJoined t (h ∷ [])) same (record {
            earlier = [];
            first = h;
            later = [];
            is = refl;
            opened = refl;
            happenings = refl;
            still = refl;
          })))
          | inr old ↦ inl (old, closed w old)
        ],
      )

  goes_on : (d : Device) (h : Reception) (n : Node) (j : ℕ) (w : Window) → d.power ≡ PowerOn n → n.stage ≡ InWindow j w → Has d
      → Step d h (device_after_row (clocks v) (setup_of s v) t (Heard h.packet) None d n (window_hears (setup_of s v) n (clocks v t) j w h.packet))
  goes_on d h n j w on stage has =
      let r = window_hears S n (clocks v t) j w h.packet in
      let e = device_after_row (clocks v) S t (Heard h.packet) None d n r in
      let u = hearing s.profile (rank_of n.core.tune) (clocks v t) w h.packet in
      let is = open_first s clocks v (λ w. ⊤) t d n j w on stage has in
      let x : WindowLog = record (is.first) { happenings = is.first.happenings ++ HeardAt t h.packet ∷ []; last = u } in
      let logs : e.made.windows ≡ x ∷ is.earlier =
      (row_obeyed (clocks v) S t (Heard h.packet) None d n r).windows
      ∙ gone_on_after S (clocks v t) t (Heard h.packet) None n j w u r.node d.made.windows is.first is.earlier stage refl is.is in (
        hears_in s clocks v (λ w. ⊤) t d n j w h.packet stage is has tt,
        λ z there. elim (contains_cases x is.earlier z (subst (λ (l : List WindowLog). Contains l z) logs there)) [
          | inl same ↦ inr (inl (subst (HasGrown t d.made.windows (h ∷ [])) same (record {
            old = is.first;
            there = subst (λ (l : List WindowLog). Contains l is.first) (sym is.is) (contains_head is.first is.earlier);
            open_ = is.now.open_;
            opened = refl;
            happenings = refl;
            still = is.now.open_;
          })))
          | inr old ↦ inl (subst (λ (l : List WindowLog). Contains l z) (sym is.is) (contains_tail is.first is.earlier z old), is.closed z old)
        ],
      )

  by_message : (d : Device) (h : Reception) (n : Node) (m : Option Message) → d.power ≡ PowerOn n → n.stage ≡ Scanning → Has d
      → (let r = scanner_hears (setup_of s v) n (clocks v t) h.packet m in
      Step d h (fold (obeyed (clocks v) (setup_of s v).id t) (moved t (Heard h.packet) None d n r) (orders_by r)))
  by_message d h n None on stage has = no_row d h n Scanning on stage tt has
  by_message d h n (Some (DataOf e)) on stage has = no_row d h n Scanning on stage tt has
  by_message d h n (Some (RequestOf a)) on stage has = no_row d h n Scanning on stage tt has
  by_message d h n (Some (ScheduleOf y)) on stage has =
      cond_both (y.plan.rank == rank_of n.core.tune) (Some (joins S n (clocks v t) h.packet y)) None
      (λ (r : Option Stepped). Step d h (fold (obeyed (clocks v) S.id t) (moved t (Heard h.packet) None d n r) (orders_by r)))
      (λ own. joins_now d h n y on stage has)
      (λ other. no_row d h n Scanning on stage tt has)

  by_stage : (d : Device) (h : Reception) (n : Node) (st : Stage) → d.power ≡ PowerOn n → n.stage ≡ st → Has d
      → Step d h (stepped (clocks v) (setup_of s v) t (Heard h.packet) None d n)
  by_stage d h n st on stage has =
      subst (λ (q : Stage). (let r = at_heard (setup_of s v) n (clocks v t) h.packet q in
      Step d h (fold (obeyed (clocks v) (setup_of s v).id t) (moved t (Heard h.packet) None d n r) (orders_by r)))) (sym stage) (at_stage d h n st on stage has)
    where
      at_stage : (d : Device) (h : Reception) (n : Node) (st : Stage) → d.power ≡ PowerOn n → n.stage ≡ st → Has d
          → (let r = at_heard (setup_of s v) n (clocks v t) h.packet st in
          Step d h (fold (obeyed (clocks v) (setup_of s v).id t) (moved t (Heard h.packet) None d n r) (orders_by r)))
      at_stage d h n Idle on stage has = no_row d h n Idle on stage tt has
      at_stage d h n Scanning on stage has = by_message d h n (message_of h.packet) on stage has
      at_stage d h n AwaitFrame on stage has = no_row d h n AwaitFrame on stage tt has
      at_stage d h n (AwaitSlot j) on stage has = no_row d h n (AwaitSlot j) on stage tt has
      at_stage d h n (InWindow j w) on stage has = goes_on d h n j w on stage has

  one : (d : Device) (h : Reception) (p : Power) → d.power ≡ p → Has d → Step d h (event_by (clocks v) (setup_of s v) t (Heard h.packet) None d p)
  one d h (PowerOff boots) off has = unheard d d h refl (subst (StandBy d.made.windows) off has.stand) has
  one d h (PowerOn n) on has = by_stage d h n n.stage on refl has

  -- one after another
  then_all : (d e : Device) (h : Reception) (hs : List Reception) → Step d h e → (x : WindowLog) → HasComeOf t e.made.windows hs x
      → HasComeOf t d.made.windows (h ∷ hs) x
  then_all d e h hs step x (inl old) = elim (step.1 x old.0) [
    | inl older ↦ inl older
    | inr new ↦ absurd (opens_not x old.1 new)
  ]
    where
      opens_not : (x : WindowLog) → is_some x.closed ≡ true → HasGrown t d.made.windows (h ∷ []) x ⊎ HasJoined t (h ∷ []) x → ⊥
      opens_not x closed (inl grown) = true≢false (sym closed ∙ ap (λ (c : Option Closing). is_some c) grown.still)
      opens_not x closed (inr joined) = true≢false (sym closed ∙ ap (λ (c : Option Closing). is_some c) joined.still)
  then_all d e h hs step x (inr (inr joined)) = inr (inr (record {
    earlier = h ∷ joined.earlier;
    first = joined.first;
    later = joined.later;
    is = ap (λ (l : List Reception). h ∷ l) joined.is;
    opened = joined.opened;
    happenings = joined.happenings;
    still = joined.still;
  }))
  then_all d e h hs step x (inr (inl grown)) = elim (step.1 grown.old grown.there) [
    | inl older ↦ absurd (true≢false (sym older.1 ∙ ap (λ (c : Option Closing). is_some c) grown.open_))
    | inr (inl before) ↦ inr (inl (record {
      old = before.old;
      there = before.there;
      open_ = before.open_;
      opened = grown.opened ∙ before.opened;
      happenings = grown.happenings ∙ ap (λ (l : List Happening). l ++ map (heard_at t) hs) before.happenings
          ∙ append_assoc before.old.happenings (heard_at t h ∷ []) (map (heard_at t) hs);
      still = grown.still;
    }))
    | inr (inr joined) ↦ inr (inr (record {
      earlier = [];
      first = h;
      later = hs;
      is = refl;
      opened = grown.opened ∙ joined.opened;
      happenings = grown.happenings ∙ ap (λ (l : List Happening). l ++ map (heard_at t) hs) (only_first grown.old joined);
      still = grown.still;
    }))
  ]
    where
      only_first : (y : WindowLog) → HasJoined t (h ∷ []) y → y.happenings ≡ heard_at t h ∷ []
      only_first y joined = joined.happenings ∙ ap (map (heard_at t)) (of_one joined.earlier joined.first joined.later joined.is)
        where
          of_one : (earlier : List Reception) (first : Reception) (later : List Reception) → h ∷ [] ≡ earlier ++ first ∷ later → first ∷ later ≡ h ∷ []
          of_one [] first later is = sym is
          of_one (g ∷ earlier) first later is = let rest : [] ≡ earlier ++ first ∷ later = cc in absurd (nothing_in first earlier later rest)

  -- all receptions of the tick, and those before one of them
  pub grown : (hs : List Reception) (d : Device) → Has d
      → Has (fold (device_after_reception (clocks v) (setup_of s v) t) d hs)
      × ((x : WindowLog) → Contains (fold (device_after_reception (clocks v) (setup_of s v) t) d hs).made.windows x → HasComeOf t d.made.windows hs x)
  grown [] d has = (has, λ x there. by_closed d has x there)
    where
      by_closed : (d : Device) → Has d → (x : WindowLog) → Contains d.made.windows x → HasComeOf t d.made.windows [] x
      by_closed d has x there = of_closed x.closed refl
        where
          of_closed : (c : Option Closing) → x.closed ≡ c → HasComeOf t d.made.windows [] x
          of_closed None is = inr (inl (record { old = x; there = there; open_ = is; opened = refl; happenings = sym (append-nil x.happenings); still = is }))
          of_closed (Some c) is = inl (there, ap (λ (o : Option Closing). is_some o) is)
  grown (h ∷ hs) d has =
      let step = one d h d.power refl has in
      let e = next d h in
      let rest = grown hs e step.0 in
      (rest.0, λ x there. then_all d e h hs step x (rest.1 x there))
