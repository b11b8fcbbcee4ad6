-- The end of a run: the log of the closed field has what the trails have.
use Rattle.std.proofs.Common.{◌≡◌, ℕ, List, [], map, reverse, Bool, true, false, ◌==◌, if◌then◌else◌, Some, inl, inr, refl, sym, ◌∙◌, ap, subst}
use Rattle.std.specs.Prelude.{Contains, IsPermutation, slice_get}
use Rattle.std.specs.List.{filter}
use Rattle.std.proofs.lemmas.Simd.{map-map}
use Rattle.std.proofs.lemmas.List.Sorted.{IsPermutation-refl, IsPermutation-reverse, IsPermutation-sym}
use Rattle.scenario_text.specs.ScenarioParts.{ScenarioParts}
use Rattle.scenario_text.specs.FloodParts.{knows, node_id}
use Rattle.scenario_text.specs.declared.lines.NodeLine.{NodeLine}
use Rattle.radio_model.specs.declared.sending.Sending.{Sending}
use Rattle.radio_model.specs.OnAir.{Hearing, Tuning}
use Rattle.event_calendar.specs.Orders.{Due}
use Rattle.air_log.specs.declared.entry.Entry.{Entry}
use Rattle.air_log.specs.Entries.{sending_in, tuning_in, sendings_of, tunings_of, node_of_entry}
use Rattle.air_log.specs.Devices.{Device, silenced}
use Rattle.scenario_text.specs.Setups.{setup_of}
use Rattle.air_log.specs.Trails.{Reception, run_end, before_tick}
use Rattle.air_log.specs.Lawful.{reception_of, by_end, heard_by, sent_by, tuned_by, trail_in, FollowsTrails}
use Rattle.air_log.proofs.LoggedEntries.{sending_node, tuning_node}
use Rattle.lwb_base.proofs.Elements.{filter_from}
use Rattle.world_engine.specs.Fields.{FieldState, FieldShows, IsLogged, ids_of, setup_of_device}
use Rattle.world_engine.specs.FieldSteps.{IsClosed}
use Rattle.world_engine.specs.Moments.{Before}
use Rattle.world_engine.specs.Running.{IsRunning, setup_by}
use Rattle.world_engine.proofs.NodePlaces.{place_of_known, id_known, not_unknown, filter_none}
use Rattle.world_engine.proofs.GoesOn.{id_in}

permuted_by : {X : Type 0} (b : Bool) (xs ys : List X) → (b ≡ true → IsPermutation xs ys) → (b ≡ false → ys ≡ []) → IsPermutation (if b then xs else []) ys
permuted_by true xs ys known unknown = known refl
permuted_by {X} false xs ys known unknown =
    let none : List X = [] in subst (λ (l : List X). IsPermutation none l) (sym (unknown refl)) (IsPermutation-refl none)

same_permuted : {X : Type 0} (xs ys : List X) → xs ≡ ys → IsPermutation xs ys
same_permuted {X} xs ys is = subst (λ (l : List X). IsPermutation xs l) is (IsPermutation-refl xs)

reverse_permuted : {X : Type 0} (xs ys : List X) → xs ≡ reverse ys → IsPermutation xs ys
reverse_permuted {X} xs ys is = subst (λ (l : List X). IsPermutation l ys) (sym is) (IsPermutation-sym ys (reverse ys) (IsPermutation-reverse ys))

module _ (s : ScenarioParts) (clocks : ℕ → ℕ → ℕ) (w : FieldState) (due : List Due) (closed : FieldState)
    (running : IsRunning s clocks s.script (run_end s) Before w due) (over : IsClosed (run_end s) w due closed) where
  pub same_heard : (v : ℕ) → heard_by closed.air v ≡ heard_by w.air v
  same_heard v = ap (λ (hs : List Hearing). map reception_of (by_end (filter (λ (h : Hearing). h.node == v) hs))) over.hearings

  -- the device at the place of a node, whose tuning the end of its trail ends
  pub record IsTrailEnd (p v : ℕ) : Type 0 where
    pub device : Device
    pub shows : FieldShows (setup_of s v) (run_end s) w due p device
    pub is : trail_in s clocks closed.air v ≡ silenced v (run_end s) device

  pub at_place : (p : ℕ) (n : NodeLine) → slice_get s.nodes p ≡ Some n → IsTrailEnd p n.node
  at_place p n there =
      let on = running.trails p n there in
      record {
        device = on.device;
        shows = on.shows;
        is = ap (λ (hs : List Reception). silenced n.node (run_end s) (before_tick s n.node (clocks n.node) hs (run_end s))) (same_heard n.node)
            ∙ ap (silenced n.node (run_end s)) (sym on.at);
      }

  pub logged_at : (p : ℕ) (n : NodeLine) → slice_get s.nodes p ≡ Some n → IsLogged closed n.node (trail_in s clocks closed.air n.node).made
  logged_at p n there =
      let end = at_place p n there in
      subst (λ (d : Device). IsLogged closed n.node d.made) (sym end.is) (over.own p (setup_of s n.node) end.device end.shows)

  -- what a node has made by its trail is what the lists have of it
  pub logged : (v : ℕ) → knows s.nodes v ≡ true → IsLogged closed v (trail_in s clocks closed.air v).made
  logged v known =
      let at = place_of_known s.nodes v known in
      subst (λ (u : ℕ). IsLogged closed u (trail_in s clocks closed.air u).made) at.3 (logged_at at.0 at.1 at.2)

  pub ids_are : ids_of w ≡ map node_id s.nodes
  ids_are = sym (map-map id_in setup_of_device w.devices) ∙ ap (map id_in) running.places.setups ∙ map-map id_in (setup_by s) s.nodes

  pub of_known : (v : ℕ) → Contains (ids_of w) v → knows s.nodes v ≡ true
  of_known v there = id_known s.nodes v (subst (λ (l : List ℕ). Contains l v) ids_are there)

  -- each entry is of a node of the scenario
  entry_known : (e : Entry) → Contains closed.air e → knows s.nodes (node_of_entry e) ≡ true
  entry_known e there =
      elim (over.entries e there) [ inl old ↦ of_known (node_of_entry e) (running.air.holds.known e old) | inr at ↦ of_known (node_of_entry e) at ]

  none_sent : (v : ℕ) → knows s.nodes v ≡ false → sent_by closed.air v ≡ []
  none_sent v unknown = filter_none (λ (x : Sending). x.node == v) (sendings_of closed.air) (λ x there.
      let e = filter_from sending_in closed.air x there in
      not_unknown s.nodes x.node v (subst (λ (u : ℕ). knows s.nodes u ≡ true) (sending_node e.0 x e.2) (entry_known e.0 e.1)) unknown)

  none_tuned : (v : ℕ) → knows s.nodes v ≡ false → tuned_by closed.air v ≡ []
  none_tuned v unknown = filter_none (λ (x : Tuning). x.node == v) (tunings_of closed.air) (λ x there.
      let e = filter_from tuning_in closed.air x there in
      not_unknown s.nodes x.node v (subst (λ (u : ℕ). knows s.nodes u ≡ true) (tuning_node e.0 x e.2) (entry_known e.0 e.1)) unknown)

  pub trails_over : FollowsTrails s clocks closed.air
  trails_over = record {
    sent = λ v. permuted_by (knows s.nodes v) (trail_in s clocks closed.air v).made.sent (sent_by closed.air v)
        (λ known. same_permuted (trail_in s clocks closed.air v).made.sent (sent_by closed.air v) (logged v known).sent) (none_sent v);
    tuned = λ v. permuted_by (knows s.nodes v) (trail_in s clocks closed.air v).made.tuned (tuned_by closed.air v)
        (λ known. reverse_permuted (trail_in s clocks closed.air v).made.tuned (tuned_by closed.air v) (logged v known).tuned) (none_tuned v);
  }
