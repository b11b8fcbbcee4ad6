-- The findings of the nodes that join, piece by piece, and what a round is found to be.
use Rattle.std.proofs.Common.{◌≡◌, ℕ, ◌+◌, List, [], ◌∷◌, ◌++◌, filter, Bool, true, false, not, ◌||◌, ◌==◌, flat_map, map, if◌then◌else◌, cond}
use Rattle.std.proofs.Common.{Some, None, Option, inl, inr, option_map, refl, sym, ◌∙◌, ap, subst}
use Rattle.std.specs.List.{AllByRecursion, list_any, range_with_len}
use Rattle.std.proofs.lemmas.Bool.{eq-eqb, eqb-true, false≢true, or_cases, or_left, or_right}
use Rattle.std.proofs.lemmas.List.{append-nil}
use Rattle.std.proofs.lemmas.List.Concat.{flat_map-cons}
use Rattle.std.proofs.lemmas.List.Elements.{recursion_from_All}
use Rattle.std.proofs.lemmas.Grind.{flat_map-append}
use Rattle.lwb_base.proofs.Lists.{range_next}
use Rattle.lwb_base.specs.declared.limits.TheConstants.{GREATEST_GAP, QUIET_FRAMES}
use Rattle.scenario_text.specs.FloodParts.{knows}
use Rattle.scenario_text.specs.ScenarioGrammar.{IsScenario}
use Rattle.scenario_text.specs.ScenarioParts.{ScenarioParts}
use Rattle.scenario_text.proofs.SoundOver.{over_own_lines, over_sound}
use Rattle.bus_terms.specs.FloodOfText.{ids}
use Rattle.bus_terms.specs.Flooding.{has}
use Rattle.drawn_links.specs.declared.ratio_line.RatioLine.{RatioLine}
use Rattle.bus_bounds.specs.BoundFindings.{or_one}
use Rattle.bus_bounds.specs.JoinFindings.{JOIN_FRAMES, is_reached, is_up, join_finding, loss_in, nodes_up, of_node, others}
use Rattle.bus_bounds.specs.JoinFindings.{ratio_line, round_verdict, unless_broken}
use Rattle.bus_bounds.specs.JoinRounds.{IsRoundOf, both_of, found_of, verdict_by}
use Rattle.bus_bounds.specs.PowerLines.{power_lines}
use Rattle.bus_bounds.specs.declared.boot.Boot.{Boot}
use Rattle.bus_bounds.specs.declared.breaking_line.BreakingLine.{BreakingLine}
use Rattle.bus_bounds.specs.declared.breaking_line.BreakingLine.TheVariants.{Rated}
use Rattle.bus_bounds.specs.declared.finding.Bound.{Bound}
use Rattle.bus_bounds.specs.declared.finding.Bound.TheVariants.{Joined, Scanning}
use Rattle.bus_bounds.specs.declared.finding.Finding.{Finding}
use Rattle.bus_bounds.specs.declared.finding.Reason.TheVariants.{Loss, Ratio, Reach}
use Rattle.bus_bounds.specs.declared.finding.Verdict.{Verdict}
use Rattle.bus_bounds.specs.declared.finding.Verdict.TheVariants.{Broken, Holds, Open}
use Rattle.bus_bounds.specs.declared.power_line.PowerLine.{PowerLine}
use Rattle.bus_bounds.proofs.JoinVerdicts.{power_same}
use Rattle.bus_bounds.proofs.JoinsKept.{known_ids}
use Rattle.bus_bounds.proofs.WalksAlong.{in_kept, of_kept}

-- pieces that are the same at each element
pub same_pieces : (g h : ℕ → List Finding) (xs : List ℕ) → ((v : ℕ) → has xs v ≡ true → g v ≡ h v) → flat_map g xs ≡ flat_map h xs
same_pieces g h [] same = refl
same_pieces g h (x ∷ xs) same =
    flat_map-cons g x xs ∙ ap (λ (ys : List Finding). ys ++ flat_map g xs) (same x (or_left (x == x) (has xs x) (eq-eqb x x refl)))
    ∙ ap (λ (ys : List Finding). h x ++ ys) (same_pieces g h xs (λ v there. same v (or_right (x == v) (has xs v) there)))
    ∙ sym (flat_map-cons h x xs)

-- what a test that is turned round says
pub not_so : (t : Bool) → not t ≡ true → t ≡ false
not_so true is = sym is
not_so false is = refl

pub is_so : (t : Bool) → not t ≡ false → t ≡ true
is_so true is = refl
is_so false is = sym is

-- pieces of the frames that pass a test
module _ (p : ℕ → Bool) (h : Option ℕ → List Finding) where
  abbrev piece : ℕ → List Finding
  piece b = if p b then h (Some b) else []

  pub pieces_next : (n : ℕ) → flat_map piece (range_with_len 0 (n + 1)) ≡ flat_map piece (range_with_len 0 n) ++ piece n
  pieces_next n =
      ap (flat_map piece) (range_next n)
      ∙ flat_map-append piece (range_with_len 0 n) (n ∷ [])
      ∙ ap (λ (ys : List Finding). flat_map piece (range_with_len 0 n) ++ ys) (flat_map-cons piece n [] ∙ append-nil (piece n))

  sifted : (xs : List ℕ) → flat_map piece xs ≡ flat_map h (map Some (filter p xs))
  sifted [] = refl
  sifted (x ∷ xs) = flat_map-cons piece x xs ∙ ap (λ (ys : List Finding). piece x ++ ys) (sifted xs) ∙ by_test (p x)
    where
      by_test : (t : Bool) → (if t then h (Some x) else []) ++ flat_map h (map Some (filter p xs))
          ≡ flat_map h (map Some (cond t (x ∷ filter p xs) (filter p xs)))
      by_test true = sym (flat_map-cons h (Some x) (map Some (filter p xs)))
      by_test false = refl

  some_kept : (xs : List ℕ) → list_any p xs ≡ true → or_one None (map Some (filter p xs)) ≡ map Some (filter p xs)
  some_kept [] some = absurd (false≢true some)
  some_kept (x ∷ xs) some = by_test (p x) (some_kept xs) some
    where
      by_test : (t : Bool) → (list_any p xs ≡ true → or_one None (map Some (filter p xs)) ≡ map Some (filter p xs)) → (t || list_any p xs) ≡ true
          → or_one None (map Some (cond t (x ∷ filter p xs) (filter p xs))) ≡ map Some (cond t (x ∷ filter p xs) (filter p xs))
      by_test true rest some = refl
      by_test false rest some = rest some

  none_kept : (xs : List ℕ) → list_any p xs ≡ false → or_one None (map Some (filter p xs)) ≡ None ∷ []
  none_kept [] none = refl
  none_kept (x ∷ xs) none = by_test (p x) (none_kept xs) none
    where
      by_test : (t : Bool) → (list_any p xs ≡ false → or_one None (map Some (filter p xs)) ≡ None ∷ []) → (t || list_any p xs) ≡ false
          → or_one None (map Some (cond t (x ∷ filter p xs) (filter p xs))) ≡ None ∷ []
      by_test true rest none = absurd (false≢true (sym none))
      by_test false rest none = rest none

  -- where one passes at least, and where none does
  pub after_boots : (xs : List ℕ) → list_any p xs ≡ true → flat_map piece xs ≡ flat_map h (or_one None (map Some (filter p xs)))
  after_boots xs some = sifted xs ∙ ap (flat_map h) (sym (some_kept xs some))

  pub without_boots : (xs : List ℕ) → list_any p xs ≡ false → h None ≡ flat_map h (or_one None (map Some (filter p xs)))
  without_boots xs none =
      sym (append-nil (h None)) ∙ sym (flat_map-cons h None []) ∙ ap (flat_map h) (sym (none_kept xs none))

-- what is found by a round that is known is what is found
module _ (s : ScenarioParts) (ratios : List RatioLine) (x : Boot) (is : IsRoundOf s ratios x.host x.frame x.round) where
  abbrev ls : List PowerLine
  ls = power_lines s.script

  one : (bound : Bound) (frames v : ℕ) → has (ids s.nodes) v ≡ true
      → found_of ls s.frames x bound frames v ≡ join_finding s ratios x.host bound frames v (Some x.frame)
  one bound frames v there =
      ap (λ (w : Verdict). record { bound = bound; node = v; frame = Some x.frame; verdict = w })
      (power_same ls s.frames x.host x.frame v (verdict_by x.round (x.frame + JOIN_FRAMES) frames v) (round_verdict s ratios x.host x.frame frames v)
      (λ up. is frames v (in_kept (λ w. (w == x.host) || is_up ls x.frame w) (ids s.nodes) v there (or_right (v == x.host) (is_up ls x.frame v) up))))

  both : (v : ℕ) → has (ids s.nodes) v ≡ true → both_of ls s.frames x v ≡ of_node s ratios x.host (Some x.frame) v
  both v there =
      ap (λ (y : Finding). y ∷ found_of ls s.frames x Scanning GREATEST_GAP v ∷ []) (one Joined JOIN_FRAMES v there)
      ∙ ap (λ (y : Finding). join_finding s ratios x.host Joined JOIN_FRAMES v (Some x.frame) ∷ y ∷ []) (one Scanning GREATEST_GAP v there)

  pub all_nodes : flat_map (both_of ls s.frames x) (others s x.host) ≡ flat_map (of_node s ratios x.host (Some x.frame)) (others s x.host)
  all_nodes =
      same_pieces (both_of ls s.frames x) (of_node s ratios x.host (Some x.frame)) (others s x.host)
      (λ v there. both v (of_kept (λ w. not (w == x.host)) (ids s.nodes) v there).0)

-- a host is a node of the scenario
of_all : (P : ℕ → Type 0) (xs : List ℕ) (v : ℕ) → AllByRecursion P xs → has xs v ≡ true → P v
of_all P [] v all there = absurd (false≢true there)
of_all P (x ∷ xs) v all there = elim (or_cases (x == v) (has xs v) there) [
  | inl here ↦ subst P (eqb-true x v here) all.0
  | inr later ↦ of_all P xs v all.1 later
]

pub known_host : (s : ScenarioParts) → IsScenario s → (host : ℕ) → has s.hosts host ≡ true → has (ids s.nodes) host ≡ true
known_host s said host there =
    known_ids s.nodes host
    (of_all (λ (w : ℕ). knows s.nodes w ≡ true) s.hosts host
    (recursion_from_All (λ (w : ℕ). knows s.nodes w ≡ true) s.hosts (over_sound s (over_own_lines s said)).hosts_known) there)

-- a round by the first line that breaks it, or by who is reached
module _ (s : ScenarioParts) (ratios : List RatioLine) (host b frames v : ℕ) where
  abbrev first : ℕ
  first = b + QUIET_FRAMES

  abbrev reached : Bool
  reached = is_reached s (nodes_up (power_lines s.script) (ids s.nodes) host b) host v

  abbrev by_way : Bool → Verdict
  by_way t = if t then Holds (b + JOIN_FRAMES) frames else Open Reach

  pub by_loss : (l : BreakingLine) → loss_in s first ≡ Some l → Broken Loss l ≡ round_verdict s ratios host b frames v
  by_loss l lost =
      sym (ap (λ (o : Option BreakingLine). unless_broken Loss o (unless_broken Ratio (option_map Rated (ratio_line s ratios first)) (by_way reached))) lost)

  pub by_ratio : (l : RatioLine) → loss_in s first ≡ None → ratio_line s ratios first ≡ Some l
      → Broken Ratio (Rated l) ≡ round_verdict s ratios host b frames v
  by_ratio l quiet rated =
      sym (ap (λ (o : Option BreakingLine). unless_broken Loss o (unless_broken Ratio (option_map Rated (ratio_line s ratios first)) (by_way reached))) quiet
      ∙ ap (λ (o : Option RatioLine). unless_broken Ratio (option_map Rated o) (by_way reached)) rated)

  pub by_reach : (t : Bool) → loss_in s first ≡ None → ratio_line s ratios first ≡ None → t ≡ reached → by_way t ≡ round_verdict s ratios host b frames v
  by_reach t quiet certain is =
      ap by_way is
      ∙ sym (ap (λ (o : Option BreakingLine). unless_broken Loss o (unless_broken Ratio (option_map Rated (ratio_line s ratios first)) (by_way reached))) quiet
      ∙ ap (λ (o : Option RatioLine). unless_broken Ratio (option_map Rated o) (by_way reached)) certain)
