-- The line of a node by what was counted of it.
use Rattle.std.proofs.Common.{◌≡◌, ℕ, ◌<◌, List, length, get_or, true, ◌==◌, All, sym, ◌∙◌, ap, arith, eq-eqb}
use Rattle.std.specs.Prelude.{slice_index_or}
use Rattle.std.proofs.lemmas.List.{get_or-map}
use Rattle.std.proofs.lemmas.List.Folds.{list_any_at}
use Rattle.scenario_text.specs.FloodParts.{knows}
use Rattle.scenario_text.specs.ScenarioFacts.{IsSoundScenario}
use Rattle.scenario_text.specs.ScenarioParts.{ScenarioParts}
use Rattle.scenario_text.specs.declared.lines.NodeLine.{NodeLine}
use Rattle.air_log.specs.declared.charge.NodeCharge.{NodeCharge}
use Rattle.air_log.specs.declared.entry.Entry.{Entry}
use Rattle.air_log.specs.Lawful.{Lawful}
use Rattle.air_log.specs.NodeCharges.{charge_in, charges_in}
use Rattle.energy_account.specs.declared.account.AccountLine.{AccountLine}
use Rattle.energy_account.specs.Accounts.{line_for}
use Rattle.air_log.specs.Energies.{energy_of}
use Rattle.energy_account.specs.Times.{TimesState, HasTimes, EndsEarly}
use Rattle.energy_account.proofs.SummedTimes.{sent_fits, on_fits}

module _ (s : ScenarioParts) (clocks : ℕ → ℕ → ℕ) (air : List Entry) (sound : IsSoundScenario s) (lawful : Lawful s clocks air) where
  known_at : (i : ℕ) (n : NodeLine) → i < length s.nodes → n ≡ get_or s.nodes i n → knows s.nodes n.node ≡ true
  known_at i n below at = list_any_at (λ (m : NodeLine). m.node == n.node) s.nodes i n below
      (eq-eqb (get_or s.nodes i n).node n.node (ap (λ (m : NodeLine). m.node) (sym at)))

  small_id : (i : ℕ) (n : NodeLine) → i < length s.nodes → n ≡ get_or s.nodes i n → n.node < 201
  small_id i n below at = let all = sound.ids i n below in omega (arith, all.1, ap (λ (m : NodeLine). m.node) at)

  pub line_counted : (ns : List NodeLine) (charges : List NodeCharge) (i : ℕ) (n : NodeLine) (charge : NodeCharge) → ns ≡ s.nodes
      → charges ≡ charges_in s clocks air → i < length ns → n ≡ get_or ns i n → charge ≡ get_or charges i charge
      → (t : TimesState) → HasTimes air t → All EndsEarly air → (sent on : ℕ) → sent ≡ slice_index_or t.sent n.node 0 → on ≡ slice_index_or t.on n.node 0
      → ◌≡◌ {A = AccountLine} (record { node = n.node; energy = record { sent = sent; windows = charge.windows; scanned = charge.scanned; on = on } })
      (line_for s clocks air n)
  line_counted ns charges i n charge same are below at read t has early sent on is_sent is_on =
      let v = n.node in
      let inside : i < length s.nodes = omega (arith, below, ap length same) in
      let here : n ≡ get_or s.nodes i n = at ∙ ap (λ (l : List NodeLine). get_or l i n) same in
      let known = known_at i n inside here in
      let counted : charge ≡ charge_in s clocks air n =
      read ∙ ap (λ (l : List NodeCharge). get_or l i charge) are ∙ get_or-map (charge_in s clocks air) s.nodes i n charge inside
      ∙ ap (charge_in s clocks air) (sym here) in
      let e = energy_of s clocks air v in
      let sent_all = is_sent ∙ has.sent v (small_id i n inside here) ∙ sent_fits s clocks air v lawful known sound early in
      let on_all = is_on ∙ has.on v (small_id i n inside here) ∙ on_fits s clocks air v lawful known sound in
      ap (λ (k : ℕ). let l : AccountLine = record { node = v; energy = record { sent = k; windows = charge.windows; scanned = charge.scanned; on = on } } in
      l) sent_all
      ∙ ap (λ (k : ℕ). let l : AccountLine =
      record { node = v; energy = record { sent = e.sent; windows = charge.windows; scanned = charge.scanned; on = k } } in l) on_all
      ∙ ap (λ (k : NodeCharge). let l : AccountLine =
      record { node = v; energy = record { sent = e.sent; windows = k.windows; scanned = k.scanned; on = e.on } } in l) counted
