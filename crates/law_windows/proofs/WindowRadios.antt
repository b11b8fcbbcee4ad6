-- How long the radio of a node is on in each of its windows.
use Rattle.std.proofs.Common.{◌≡◌, ℕ, suc, ◌+◌, ◌<◌, ◌≤◌, inl, inr, List, [], ◌∷◌, ◌++◌, Bool, true, false, nat_lt, nat_le, if◌then◌else◌, Some, None, Option}
use Rattle.std.proofs.Common.{Contains, fold, refl, sym, ◌∙◌, ap, subst, arith, lt-ltb, ltb-true, IfSome}
use Rattle.std.specs.Prelude.{slice_index}
use Rattle.std.proofs.lemmas.Bool.{leb-true, le-leb}
use Rattle.glossy_relay.specs.FloodState.{FloodState}
use Rattle.glossy_relay.specs.Relaying.{after_heard, fits, first_of}
use Rattle.bus_rules.specs.Cores.{Setup}
use Rattle.node_core.specs.declared.stage.Stage.{Stage}
use Rattle.node_core.specs.declared.stage.Stage.TheVariants.{Idle, Scanning, AwaitFrame, AwaitSlot, InWindow}
use Rattle.node_core.specs.Windows.{Window}
use Rattle.node_core.specs.Nodes.{Node}
use Rattle.scenario_text.specs.ScenarioParts.{ScenarioParts}
use Rattle.scenario_text.specs.FloodParts.{knows}
use Rattle.radio_model.specs.Hearing.{IsTuned}
use Rattle.air_log.specs.declared.entry.Entry.{Entry}
use Rattle.air_log.specs.HearsAir.{scene_of}
use Rattle.air_log.specs.Devices.{Device, Power, PowerOff, PowerOn, Listening, listens_to}
use Rattle.scenario_text.specs.Setups.{setup_of}
use Rattle.air_log.specs.Trails.{run_end}
use Rattle.air_log.specs.WindowLogs.{WindowLog, Happening, HeardAt, SentAt, Closing}
use Rattle.lwb_base.proofs.Elements.{contains_head, contains_tail, contains_cases}
use Rattle.lwb_base.proofs.Options.{none_not_some}
use Rattle.lwb_base.proofs.Truths.{one_if}
use Rattle.law_trails.specs.Obeying.{channel_if_on}
use Rattle.law_trails.specs.Phases.{Over}
use Rattle.law_trails.specs.TrailLinks.{ListensSince, device_in}
use Rattle.law_trails.proofs.TunedInTrails.{tuned_listens}
use Rattle.law_trails.proofs.ObeyedOrders.{channel_is}
use Rattle.law_safety.specs.Invariant.{IsObedientRun}
use Rattle.law_safety.specs.NodesInOrder.{IsOn, InOpenWindow, WindowAt}
use Rattle.law_safety.specs.RadiosOn.{RadioFor}
use Rattle.law_safety.specs.SetAlarms.{rank_at}
use Rattle.law_safety.specs.TunedNodes.{Either}
use Rattle.law_safety.specs.Rows.{AllRows, IsFine}
use Rattle.law_safety.proofs.OpenedNodes.{flood_unsent}
use Rattle.law_windows.specs.OpenWindows.{AreClosed, IsOpenWindow, StandAt, StandBy}
use Rattle.law_windows.specs.WindowFloods.{WindowHasFlood, after_happening, flood_at_first, initial_message}
use Rattle.law_windows.specs.WindowHistory.{tick_of_happening}
use Rattle.law_windows.specs.WindowRadios.{sendings_in, sendings_by, IsOpenAt, IsTunedThen}
use Rattle.law_windows.specs.WindowSteps.{HasWindows}
use Rattle.law_windows.proofs.TunedByDevices.{listens_tuned}
use Rattle.law_windows.proofs.WindowFloods.{flood_steps}
use Rattle.law_windows.proofs.WindowHistory.{IsHistory, history_steps}
use Rattle.law_windows.proofs.WindowsSince.{HasEvolved, since_then}
use Rattle.law_windows.proofs.WindowWalk.{on_in, windows_behind}

-- ---- transmissions are counted by the flood

pub heard_sent : (f : FloodState) (p : List ℕ) → (after_heard f p).sent ≡ f.sent
heard_sent f p = of_test (fits f p)
  where
    of_test : (b : Bool) → (if b then record f { waiting = nat_lt (slice_index p 2) 11; first = first_of f.first p } else f).sent ≡ f.sent
    of_test true = refl
    of_test false = refl

counted : (k : ℕ) (es : List Happening) (f : FloodState) → ((e : Happening) → Contains es e → tick_of_happening e ≤ k)
    → (fold after_happening f es).sent ≡ f.sent + sendings_in k es
counted k [] f by = omega arith
counted k (HeardAt t p ∷ es) f by =
    let rest = counted k es (after_heard f p) (λ e there. by e (contains_tail (HeardAt t p) es e there)) in
    let same = heard_sent f p in
    omega (arith, rest, same)
counted k (SentAt t p ∷ es) f by =
    let rest = counted k es (record f { sent = f.sent + 1; waiting = false }) (λ e there. by e (contains_tail (SentAt t p) es e there)) in
    let one : ◌≡◌ {A = ℕ} (if nat_le t k then 1 else 0) 1 = ap (λ (b : Bool). one_if b) (le-leb t k (by (SentAt t p) (contains_head (SentAt t p) es))) in
    omega (arith, rest, one)

-- those that are later do not count
none_later : (k : ℕ) (es : List Happening) → ((e : Happening) → Contains es e → suc k ≤ tick_of_happening e) → sendings_in k es ≡ 0
none_later k [] later = refl
none_later k (HeardAt t p ∷ es) later = let rest = none_later k es (λ e there. later e (contains_tail (HeardAt t p) es e there)) in omega (arith, rest)
none_later k (SentAt t p ∷ es) later =
    let rest = none_later k es (λ e there. later e (contains_tail (SentAt t p) es e there)) in
    let after = later (SentAt t p) (contains_head (SentAt t p) es) in
    let none : ◌≡◌ {A = ℕ} (if nat_le t k then 1 else 0) 0 = ap (λ (b : Bool). one_if b) (not_by t k after) in
    omega (arith, rest, none)
  where
    not_by : (t k : ℕ) → suc k ≤ t → nat_le t k ≡ false
    not_by t k after = of_test (nat_le t k) refl
      where
        of_test : (b : Bool) → nat_le t k ≡ b → b ≡ false
        of_test false is = refl
        of_test true is = absurd (let le = leb-true t k is in omega (arith, le, after))

both_parts : (k : ℕ) (es ds : List Happening) → sendings_in k (es ++ ds) ≡ sendings_in k es + sendings_in k ds
both_parts k [] ds = omega arith
both_parts k (e ∷ es) ds = let rest = both_parts k es ds in omega (arith, rest)

first_unsent : (s : Setup) (b : Bool) (w : WindowLog) → (flood_at_first s b w).sent ≡ 0
first_unsent s true w = flood_unsent s _ w.slot (initial_message s w)
first_unsent s false w = refl

module _ (rows : AllRows) (s : ScenarioParts) (clocks : ℕ → ℕ → ℕ) (air : List Entry) (run : IsObedientRun s clocks air) (v : ℕ)
    (known : knows s.nodes v ≡ true)
    (t : ℕ) (within : t ≤ run_end s) (w : WindowLog) (there : Contains (device_in s clocks air v t).made.windows w) (k : ℕ) (before : k < t)
    (open_at : IsOpenAt w k) where
  in_run : k < run_end s
  in_run = omega (arith, before, within)

  abbrev d : Device
  d = device_in s clocks air v (suc k)

  -- the window as tick k has left it
  old : HasEvolved (suc k) d.made.windows w
  old = elim (since_then rows s clocks air run v known (suc k) t (omega (arith, before)) within w there) [
    | inl new ↦ absurd (let since = open_at.since in omega (arith, new, since))
    | inr is ↦ is
  ]

  floods : IsFine s clocks air v k Over d × HasWindows s v (WindowHasFlood (setup_of s v)) k d
  floods = windows_behind s clocks air v (λ now taken x. WindowHasFlood (setup_of s v) x) rows run known (λ u at. flood_steps s clocks air v u at) k in_run

  history : HasWindows s v (IsHistory s clocks air v k) k d
  history = (windows_behind s clocks air v (λ now taken x. IsHistory s clocks air v now x) rows run known
      (λ u at. history_steps s clocks air v u at) k in_run).1

  not_closed : (c : Option Closing) → old.old.closed ≡ c → c ≡ None
  not_closed None is = refl
  not_closed (Some c) is =
      let same = old.kept c is in
      let until = subst (λ (o : Option Closing). IfSome o (λ c. k < c.tick)) (ap (λ (x : WindowLog). x.closed) same ∙ is) open_at.until in
      let past = subst (λ (o : Option Closing). IfSome o (λ c. c.tick ≤ k)) is (floods.1.past old.old old.there) in
      absurd (omega (arith, until, past))

  open_ : old.old.closed ≡ None
  open_ = not_closed old.old.closed refl

  -- its node, and the window in which it is
  record IsThere : Type 0 where
    node : Node
    slot : ℕ
    window : Window
    on : d.power ≡ PowerOn node
    stage : node.stage ≡ InWindow slot window
    is : IsOpenWindow node slot window old.old

  closed_none : {A : Type 0} → AreClosed d.made.windows → A
  closed_none closed = absurd (none_not_some old.old.closed open_ (closed old.old old.there))

  by_stage : (n : Node) (st : Stage) → d.power ≡ PowerOn n → n.stage ≡ st → StandAt d.made.windows n st → IsThere
  by_stage n Idle on stage stand = closed_none stand
  by_stage n Scanning on stage stand = closed_none stand
  by_stage n AwaitFrame on stage stand = closed_none stand
  by_stage n (AwaitSlot j) on stage stand = closed_none stand
  by_stage n (InWindow j u) on stage stand =
      elim (contains_cases stand.first stand.earlier old.old (subst (λ (l : List WindowLog). Contains l old.old) stand.is old.there)) [
        | inl same ↦ record { node = n; slot = j; window = u; on = on; stage = stage; is = subst (IsOpenWindow n j u) same stand.now }
        | inr earlier ↦ absurd (none_not_some old.old.closed open_ (stand.closed old.old earlier))
      ]

  by_power : (p : Power) → d.power ≡ p → StandBy d.made.windows p → IsThere
  by_power (PowerOff boots) on stand = closed_none stand
  by_power (PowerOn n) on stand = by_stage n n.stage on refl stand

  here : IsThere
  here = by_power d.power refl floods.1.stand

  node_on : IsOn s clocks air v k (suc k) d here.node
  node_on = on_in s clocks air v k Over d here.node floods.0 here.on

  counted_so : here.window.flood.sent ≡ sendings_by k w
  counted_so =
      let es = old.old.happenings in
      let by = (history.each old.old old.there).past in
      let flood = floods.1.each old.old old.there in
      let all = counted k es (flood_at_first (setup_of s v) old.old.by_alarm old.old) by in
      let none = first_unsent (setup_of s v) old.old.by_alarm old.old in
      let later = none_later k old.more old.later in
      let parts = both_parts k es old.more in
      let same : sendings_by k w ≡ sendings_in k (es ++ old.more) = ap (sendings_in k) old.is in
      let now : here.window.flood.sent ≡ (fold after_happening (flood_at_first (setup_of s v) old.old.by_alarm old.old) es).sent =
      ap (λ (u : Window). u.flood.sent) (sym here.is.last) ∙ ap (λ (f : FloodState). f.sent) flood in
      omega (arith, all, none, later, parts, same, now)

  limit : here.window.flood.limit ≡ s.sends
  limit =
      let window : InOpenWindow s clocks air v (suc k) here.node d here.slot here.window =
      subst (λ (st : Stage). WindowAt s clocks air v (suc k) here.node d st) here.stage node_on.window in
      window.flood.limit

  rank : rank_at here.node ≡ w.rank
  rank = sym here.is.rank ∙ sym old.rank

  radio : Either (nat_lt here.window.flood.sent here.window.flood.limit) (listens_to (rank_at here.node) d.listening ≡ true) (d.listening ≡ None)
  radio = subst (RadioFor here.node d) here.stage node_on.radio.at

  pub tuned_then : sendings_by k w < s.sends → IsTuned (scene_of s.profile s.trace air) v w.rank k
  tuned_then few =
      let less : nat_lt here.window.flood.sent here.window.flood.limit ≡ true =
      lt-ltb here.window.flood.sent here.window.flood.limit (let sent = counted_so in let most = limit in omega (arith, few, sent, most)) in
      let on : listens_to (rank_at here.node) d.listening ≡ true =
      subst (λ (b : Bool). Either b (listens_to (rank_at here.node) d.listening ≡ true) (d.listening ≡ None)) less radio in
      listens_tuned s clocks air run.heedful.trails v w.rank k known in_run (channel_is (rank_at here.node) d.listening on ∙ ap (λ (r : ℕ). Some r) rank)

  pub only_then : (r : ℕ) → IsTuned (scene_of s.profile s.trace air) v r k → (r ≡ w.rank) × (sendings_by k w < s.sends)
  only_then r tuned = by_test (nat_lt here.window.flood.sent here.window.flood.limit) refl radio
    where
      listens : ListensSince r k d
      listens = tuned_listens s clocks air run.heedful.trails v r k tuned

      channel : channel_if_on d.listening ≡ Some r
      channel = ap (λ (l : Option Listening). channel_if_on l) listens.is ∙ ap (λ (x : ℕ). Some x) listens.channel

      some_same : (a b : ℕ) → Some a ≡ Some b → a ≡ b
      some_same a b is = cc

      none_some : (l : Option Listening) → l ≡ None → channel_if_on l ≡ Some r → ⊥
      none_some None none is = cc
      none_some (Some l) none is = cc

      by_test : (b : Bool) → nat_lt here.window.flood.sent here.window.flood.limit ≡ b
          → Either b (listens_to (rank_at here.node) d.listening ≡ true) (d.listening ≡ None) → (r ≡ w.rank) × (sendings_by k w < s.sends)
      by_test false is off = absurd (none_some d.listening off channel)
      by_test true is on = (
        some_same r w.rank (sym channel ∙ channel_is (rank_at here.node) d.listening on ∙ ap (λ (x : ℕ). Some x) rank),
        (let less = ltb-true here.window.flood.sent here.window.flood.limit is in let sent = counted_so in let most = limit in omega (arith, less, sent, most)),
      )

pub tuned_in_windows : (rows : AllRows) (s : ScenarioParts) (clocks : ℕ → ℕ → ℕ) (air : List Entry) → IsObedientRun s clocks air → (v : ℕ)
    → knows s.nodes v ≡ true → (t : ℕ) → t ≤ run_end s → (w : WindowLog) → Contains (device_in s clocks air v t).made.windows w → IsTunedThen s air v t w
tuned_in_windows rows s clocks air run v known t within w there = record {
  tuned = λ k before open_at few. tuned_then rows s clocks air run v known t within w there k before open_at few;
  only = λ k rank before open_at tuned. only_then rows s clocks air run v known t within w there k before open_at rank tuned;
}
