-- The flood of a flood text, read off its stations.
use Rattle.std.proofs.Common.{◌≡◌, ◌<◌, ℕ, zero, suc, List, [], ◌∷◌, Bool, true, false, ◌||◌, ◌&&◌, nat_lt, subst, Option, Some, None, refl, sym}
use Rattle.std.proofs.Common.{◌∙◌, ap, length, map, get_or, sum_by, option_map, filter_map, ◌==◌, if◌then◌else◌, arith, inl, inr}
use Rattle.std.specs.List.{cons_option}
use Rattle.std.proofs.lemmas.Bool.{false≢true, eqb-true, eq-eqb, ne_eqb, cases_eq, or_left, or_right, cases_lt, le-ltb}
use Rattle.std.proofs.lemmas.List.Sums.{sum_by-cons}
use Rattle.std.proofs.lemmas.Option.{same_Some}
use Rattle.link_trace.specs.Masks.{IsMask}
use Rattle.link_trace.specs.Passes.{Lines, passes, captured}
use Rattle.link_trace.specs.Sealed.{Traced}
use Rattle.link_trace.proofs.MaskBits.{same_tests}
use Rattle.scenario_text.specs.FloodParts.{FloodParts, IsSealed, knows}
use Rattle.scenario_text.specs.declared.lines.NodeLine.{NodeLine}
use Rattle.bus_terms.specs.Flooding.{STEPS, has, moment}
use Rattle.bus_terms.specs.FloodOfText.{ids, setting, acceptance, outcome}
use Rattle.bus_terms.proofs.SendingCounts.{all_sendings}
use Rattle.plain_bus.specs.FloodMasks.{IsMaskedFlood, station_at, accepted_from}
use Rattle.plain_bus.specs.declared.station.Flood.{Flood}
use Rattle.plain_bus.specs.declared.station.Station.{Station}

-- the starting node is the one initiator
only_start : (start v : ℕ) → has (start ∷ []) v ≡ (v == start)
only_start start v = elim (cases_eq v start) [
  | inl same ↦ or_left (start == v) false (eq-eqb start v (sym same)) ∙ sym (eq-eqb v start same)
  | inr other ↦ none (start == v) (ne_eqb start v (λ is. other (sym is))) ∙ sym (ne_eqb v start other)
]
  where
    none : (b : Bool) → b ≡ false → (b || false) ≡ false
    none false is = refl
    none true is = absurd (false≢true (sym is))

is_start : (start v : ℕ) → has (start ∷ []) v ≡ true → v ≡ start
is_start start v there = eqb-true v start (sym (only_start start v) ∙ there)

pub has_known : (ns : List NodeLine) (v : ℕ) → knows ns v ≡ has (ids ns) v
has_known [] v = refl
has_known (n ∷ ns) v = ap (λ (b : Bool). (n.node == v) || b) (has_known ns v)

pub has_element : (xs : List ℕ) (i : ℕ) → i < length xs → has xs (get_or xs i 0) ≡ true
has_element xs i below = by_place xs i below
  where
    by_place : (xs : List ℕ) (i : ℕ) → i < length xs → has xs (get_or xs i 0) ≡ true
    by_place [] i below = absurd (omega (arith, below))
    by_place (x ∷ xs) zero below = or_left (x == x) (has xs x) (eq-eqb x x refl)
    by_place (x ∷ xs) (suc i) below = or_right (x == get_or xs i 0) (has xs (get_or xs i 0)) (by_place xs i (omega (arith, below)))

-- a mask of all is one of each that is there
all_here : (nodes : List ℕ) (mask : ℕ) → IsMask (λ v. true) nodes mask → IsMask (has nodes) nodes mask
all_here nodes mask is i = is i ∙ elim (cases_lt i (length nodes)) [
  | inl below ↦ ap (λ (b : Bool). if nat_lt i (length nodes) && b then 1 else 0) (sym (has_element nodes i below))
  | inr far ↦ rw (le-ltb i (length nodes) far) refl
]

module _ (f : FloodParts) (known : knows f.nodes f.start ≡ true) where
  pub flood_of_text : (t : Traced) (x : Flood) → t.lines ≡ f.trace → IsSealed t f.nodes
      → x ≡ record { frame = 5; slot = 1; limit = f.sends; initiators = x.initiators; everyone = x.everyone; lone = Some f.start }
      → IsMask (λ v. v == f.start) (ids f.nodes) x.initiators → IsMask (λ v. true) (ids f.nodes) x.everyone → IsMaskedFlood (setting f) t x
  flood_of_text t x lines sealed is initiators everyone = record {
    limit = sym (ap (λ (y : Flood). y.limit) is);
    links = λ k u v.
        ap (λ (l : Lines). passes l 5 1 k u v) (sym lines) ∙ ap (λ (y : Flood). passes t.lines y.frame y.slot k u v) (sym is);
    captures = λ k v. ap (λ (l : Lines). captured l 5 1 k v) (sym lines) ∙ ap (λ (y : Flood). captured t.lines y.frame y.slot k v) (sym is);
    initiators = subst (λ (ns : List ℕ). IsMask (has (f.start ∷ [])) ns x.initiators) (sym sealed)
        (same_tests (ids f.nodes) (λ v. v == f.start) (has (f.start ∷ [])) x.initiators (λ v. sym (only_start f.start v)) initiators);
    everyone = subst (λ (ns : List ℕ). IsMask (has (ids f.nodes)) ns x.everyone) (sym sealed) (all_here (ids f.nodes) x.everyone everyone);
    here = λ v there. ap (λ (ns : List ℕ). has ns v) sealed ∙ there;
    inside = λ v there. ap (has (ids f.nodes)) (is_start f.start v there) ∙ sym (has_known f.nodes f.start) ∙ known;
    lone = λ o v at there. is_start f.start v there ∙ same_Some f.start o (sym (ap (λ (y : Flood). y.lone) is) ∙ at);
  }

-- the acceptances of the stations
kept_of_map : {X Y Z : Type 0} (g : Y → Option Z) (h : X → Y) (w : X → Option Z) → ((x : X) → g (h x) ≡ w x) → (xs : List X)
    → filter_map g (map h xs) ≡ filter_map w xs
kept_of_map g h w same [] = refl
kept_of_map g h w same (x ∷ xs) = ap (λ (o : Option _). cons_option o (filter_map g (map h xs))) (same x) ∙ ap (cons_option (w x)) (kept_of_map g h w same xs)

sum_of_map : (h : ℕ → Station) (xs : List ℕ) → sum_by (λ (x : Station). x.times) (map h xs) ≡ sum_by (λ v. (h v).times) xs
sum_of_map h [] = refl
sum_of_map h (v ∷ xs) =
    omega (arith, sum_by-cons (λ (x : Station). x.times) (h v) (map h xs), sum_by-cons (λ (u : ℕ). (h u).times) v xs, sum_of_map h xs)

module _ (f : FloodParts) where
  accepted_at_end : (v : ℕ) → accepted_from f.start (station_at (moment (setting f) STEPS) v) ≡ acceptance (setting f) v
  accepted_at_end v = ap (λ (b : Bool). option_map {U = ℕ × ℕ} (λ a. (v, a.1)) (if b then None else (moment (setting f) STEPS).heard v))
      (sym (only_start f.start v))

  pub acceptances_read : filter_map (accepted_from f.start) (map (station_at (moment (setting f) STEPS)) (ids f.nodes)) ≡ (outcome f).accepts
  acceptances_read = kept_of_map (accepted_from f.start) (station_at (moment (setting f) STEPS)) (acceptance (setting f)) accepted_at_end (ids f.nodes)

  pub sendings_read : sum_by (λ (x : Station). x.times) (map (station_at (moment (setting f) STEPS)) (ids f.nodes)) ≡ (outcome f).sent
  sendings_read = sum_of_map (station_at (moment (setting f) STEPS)) (ids f.nodes) ∙ all_sendings (setting f) (ids f.nodes)
