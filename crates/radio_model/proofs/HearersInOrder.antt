-- The list of hearers is by hearer, and names one sender.
use Rattle.std.proofs.Common.{◌≡◌, ℕ, ◌<◌, List, [], ◌∷◌, map, get_or, Bool, true, false, if◌then◌else◌, Option}
use Rattle.std.proofs.Common.{Some, None, filter_map, sym, ap, subst, arith, All, AllPairs}
use Rattle.std.proofs.lemmas.List.Elements.{Contains-get_or}
use Rattle.std.specs.List.{cons_option}
use Rattle.radio_model.specs.Stations.{id_of_station}
use Rattle.radio_model.specs.declared.station.Station.{Station}
use Rattle.lwb_base.proofs.Elements.{map_contains, filter_from, pairs_cons, pairs_tail, pairs_head}

module _ (test : Station → Bool) (u : ℕ) where
  abbrev pair : Station → Option (ℕ × ℕ)
  pair st = if test st then Some (st.node, u) else None

  of_pair : (b : Bool) (n : ℕ) (q : ℕ × ℕ) → (let some : Option (ℕ × ℕ) = if b then Some (n, u) else None in some ≡ Some q) → q ≡ (n, u)
  of_pair true n q is = cc
  of_pair false n q is = cc

  pub one_sender : (sts : List Station) → All (λ (q : ℕ × ℕ). q.1 ≡ u) (filter_map pair sts)
  one_sender sts k d below =
      let q = get_or (filter_map pair sts) k d in
      let s = filter_from pair sts q (Contains-get_or (filter_map pair sts) k d below) in
      ap (λ (z : ℕ × ℕ). z.1) (of_pair (test s.0) s.0.node q s.2)

  pub by_hearer : (sts : List Station) → AllPairs (λ a b. a < b) (map id_of_station sts) → AllPairs (λ (q r : ℕ × ℕ). q.0 < r.0) (filter_map pair sts)
  by_hearer [] ascend = λ i j d less below. absurd (omega arith)
  by_hearer (st ∷ sts) ascend =
      next (test st) (by_hearer sts (pairs_tail (λ a b. a < b) st.node (map id_of_station sts) ascend))
    where
      next : (b : Bool) → AllPairs (λ (q r : ℕ × ℕ). q.0 < r.0) (filter_map pair sts)
          → AllPairs (λ (q r : ℕ × ℕ). q.0 < r.0) (cons_option {X = ℕ × ℕ} (if b then Some (st.node, u) else None) (filter_map pair sts))
      next false rest = rest
      next true rest = pairs_cons (λ (q r : ℕ × ℕ). q.0 < r.0) (st.node, u) (filter_map pair sts) (λ q there.
          let s = filter_from pair sts q there in
          let is = of_pair (test s.0) s.0.node q s.2 in
          subst (λ (n : ℕ). st.node < n) (sym (ap (λ (z : ℕ × ℕ). z.0) is))
          (pairs_head (λ a b. a < b) st.node (map id_of_station sts) ascend s.0.node (map_contains id_of_station sts s.0 s.1))) rest
