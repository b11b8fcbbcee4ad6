-- In a frame without lines, in which each link has a ratio of a million if it has one, no seed draws a loss; and what a search for such lines says.
use Rattle.std.proofs.Common.{◌≡◌, ℕ, ◌*◌, ◌^◌, ◌≤◌, List, [], ◌∷◌, Bool, true, false, not, ◌&&◌, ◌==◌, nat_lt, map, filter, reverse}
use Rattle.std.proofs.Common.{Option, Some, None, cond, refl, sym, ◌∙◌, ap, arith, option_map}
use Rattle.std.specs.Prelude.{find, flat_map, option_and_then}
use Rattle.std.specs.List.{list_any, range_with_len}
use Rattle.std.specs.Option.{option_map_or, option_or}
use Rattle.std.proofs.lemmas.Bool.{and_from, and_parts, eq-eqb, eqb-true, false≢true, lt-ltb, ltb-false, ltb-true, ne_eqb, or_from, or_left, or_right}
use Rattle.std.proofs.lemmas.List.Concat.{flat_map-cons}
use Rattle.std.proofs.lemmas.List.Folds.{list_any-append}
use Rattle.lwb_base.specs.declared.limits.TheConstants.{FLOOD_STEPS}
use Rattle.link_trace.specs.Passes.{cut_off, cuts_by, is_link, is_loss, passes}
use Rattle.link_trace.specs.declared.lines.CutLine.{CutLine}
use Rattle.link_trace.specs.declared.lines.LinkLine.{LinkLine}
use Rattle.link_trace.specs.declared.lines.LoseLine.{LoseLine}
use Rattle.scenario_text.specs.ScenarioParts.{ScenarioParts}
use Rattle.drawn_links.specs.Coins.{coin, coin_key, coin_passes}
use Rattle.drawn_links.specs.DrawnLosses.{SLOTS, drawn_losses, is_drawn, loss_of, losses_in_step}
use Rattle.drawn_links.specs.Ratios.{is_begun, ratio_in}
use Rattle.drawn_links.specs.declared.ratio_line.RatioLine.{RatioLine}
use Rattle.drawn_links.proofs.DrawnByLinks.{coin_small}
use Rattle.drawn_bus.specs.DrawnScenarios.{drawn_scenario}
use Rattle.law_service.specs.Reach.{is_linked}
use Rattle.law_times.specs.Reaches.{IsLossless}
use Rattle.bus_bounds.specs.JoinFindings.{CERTAIN, loss_in, may_lose, ratio_line}
use Rattle.bus_bounds.specs.KeptJoins.{IsCertain}
use Rattle.bus_bounds.specs.declared.breaking_line.BreakingLine.{BreakingLine}
use Rattle.bus_bounds.specs.declared.breaking_line.BreakingLine.TheVariants.{Cut, Lose}
use Rattle.bus_bounds.proofs.Searches.{found_passes, none_found, none_weaker, passes_somewhere}

passes_always : (r seed key : ℕ) → CERTAIN ≤ r → coin_passes r seed key ≡ true
passes_always r seed key enough =
    let small = coin_small seed key in
    let million : CERTAIN ≡ 1000000 = refl in
    lt-ltb (coin seed key * 1000000) (r * 2 ^ 53) (omega (arith, small, enough, million))

own_link : (l : LinkLine) → is_link l.from l.to l ≡ true
own_link l = and_from (l.from == l.from) (l.to == l.to) (eq-eqb l.from l.from refl) (eq-eqb l.to l.to refl)

-- nothing in a list of pieces, where there is nothing in each
none_in : {X : Type 0} (test : LoseLine → Bool) (g : X → List LoseLine) (xs : List X) → ((x : X) → list_any test (g x) ≡ false)
    → list_any test (flat_map g xs) ≡ false
none_in test g [] none = refl
none_in test g (x ∷ xs) none =
    ap (list_any test) (flat_map-cons g x xs) ∙ list_any-append test (g x) (flat_map g xs)
    ∙ or_from (list_any test (g x)) (list_any test (flat_map g xs)) (none x) (none_in test g xs none)

module _ (s : ScenarioParts) (ratios : List RatioLine) (f : ℕ) (certain : IsCertain s ratios f) (seed : ℕ) where
  abbrev of_frame : LoseLine → Bool
  of_frame l = l.frame == f

  none_drawn : (j k u v : ℕ) → is_linked s u v ≡ true → is_drawn ratios seed f j k u v ≡ false
  none_drawn j k u v linked = by_ratio (ratio_in ratios f u v) refl
    where
      by_ratio : (o : Option ℕ) → ratio_in ratios f u v ≡ o → option_map_or (λ r. not (coin_passes r seed (coin_key f j k u v))) o false ≡ false
      by_ratio None is = refl
      by_ratio (Some r) is = ap not (passes_always r seed (coin_key f j k u v) (certain u v r linked is))

  in_step : (g j k : ℕ) (ls : List LinkLine) → ((u v : ℕ) → list_any (is_link u v) ls ≡ true → is_linked s u v ≡ true)
      → list_any of_frame (map (loss_of g j k) (filter (λ l. is_drawn ratios seed g j k l.from l.to) ls)) ≡ false
  in_step g j k [] are = refl
  in_step g j k (l ∷ ls) are =
      by_test (is_drawn ratios seed g j k l.from l.to) refl (in_step g j k ls (λ u v is. are u v (or_right (is_link u v l) (list_any (is_link u v) ls) is)))
    where
      rest : List LinkLine
      rest = filter (λ (x : LinkLine). is_drawn ratios seed g j k x.from x.to) ls

      linked : is_linked s l.from l.to ≡ true
      linked = are l.from l.to (or_left (is_link l.from l.to l) (list_any (is_link l.from l.to) ls) (own_link l))

      other : is_drawn ratios seed g j k l.from l.to ≡ true → g ≡ f → ⊥
      other drawn same =
          false≢true (sym (none_drawn j k l.from l.to linked) ∙ ap (λ (n : ℕ). is_drawn ratios seed n j k l.from l.to) (sym same) ∙ drawn)

      by_test : (t : Bool) → is_drawn ratios seed g j k l.from l.to ≡ t → list_any of_frame (map (loss_of g j k) rest) ≡ false
          → list_any of_frame (map (loss_of g j k) (cond t (l ∷ rest) rest)) ≡ false
      by_test false is none = none
      by_test true is none = or_from (g == f) (list_any of_frame (map (loss_of g j k) rest)) (ne_eqb g f (other is)) none

  none_lost : list_any of_frame (drawn_losses s.trace.links ratios seed s.frames) ≡ false
  none_lost =
      none_in of_frame (λ g. flat_map (λ j. flat_map (losses_in_step s.trace.links ratios seed g j) (range_with_len 0 FLOOD_STEPS)) (range_with_len 0 SLOTS))
      (range_with_len 0 s.frames)
      (λ g. none_in of_frame (λ j. flat_map (losses_in_step s.trace.links ratios seed g j) (range_with_len 0 FLOOD_STEPS)) (range_with_len 0 SLOTS)
      (λ j. none_in of_frame (losses_in_step s.trace.links ratios seed g j) (range_with_len 0 FLOOD_STEPS)
      (λ k. in_step g j k s.trace.links (λ u v is. is))))

  -- so it is without losses in the drawn scenario
  pub drawn_quiet : IsLossless s f → IsLossless (drawn_scenario s ratios seed) f
  drawn_quiet quiet = record {
    losses = list_any-append of_frame s.trace.losses (drawn_losses s.trace.links ratios seed s.frames)
        ∙ or_from (list_any of_frame s.trace.losses) (list_any of_frame (drawn_losses s.trace.links ratios seed s.frames)) quiet.losses none_lost;
    cuts = quiet.cuts;
  }

-- in such a frame the links pass
module _ (s : ScenarioParts) (f : ℕ) (quiet : IsLossless s f) where
  first_of : (a b c d e : Bool) → (a && b && c && d && e) ≡ true → a ≡ true
  first_of true b c d e is = refl
  first_of false b c d e is = is

  first_of_three : (a b c : Bool) → ((a && b) && c) ≡ true → a ≡ true
  first_of_three true b c is = refl
  first_of_three false b c is = is

  all_pass : (a b c d : Bool) → b ≡ false → c ≡ false → d ≡ false → (a && not b && not c && not d) ≡ a
  all_pass true b c d p q r = rw (p, q, r) refl
  all_pass false b c d p q r = refl

  none_cut : (v : ℕ) → cut_off s.trace.cuts f 0 0 v ≡ false
  none_cut v =
      none_weaker (λ (l : CutLine). l.frame == f) (λ (l : CutLine). cuts_by f 0 0 l && (l.node == v))
      (λ l is. first_of_three (l.frame == f) _ (l.node == v) is) s.trace.cuts quiet.cuts

  pub links_pass : (u v : ℕ) → passes s.trace f 0 0 u v ≡ is_linked s u v
  links_pass u v =
      all_pass (is_linked s u v) (list_any (is_loss f 0 0 u v) s.trace.losses) (cut_off s.trace.cuts f 0 0 u) (cut_off s.trace.cuts f 0 0 v)
      (none_weaker (λ (l : LoseLine). l.frame == f) (is_loss f 0 0 u v)
      (λ l is. first_of (l.frame == f) (l.slot == 0) (l.step == 0) (l.from == u) (l.to == v) is) s.trace.losses quiet.losses)
      (none_cut u) (none_cut v)

-- a search finds no line just where there is none
module _ (s : ScenarioParts) (f : ℕ) where
  abbrev loses : LoseLine → Bool
  loses l = l.frame == f

  abbrev cuts : CutLine → Bool
  cuts l = l.frame == f

  pub no_loss : loss_in s f ≡ None → IsLossless s f
  no_loss none = by (find loses s.trace.losses) refl (find cuts s.trace.cuts) refl none
    where
      by : (a : Option LoseLine) → find loses s.trace.losses ≡ a → (c : Option CutLine) → find cuts s.trace.cuts ≡ c
          → option_or (option_map Lose a) (option_map Cut c) ≡ None → IsLossless s f
      by None lost None cut is = record { losses = none_found loses s.trace.losses lost; cuts = none_found cuts s.trace.cuts cut }
      by (Some a) lost c cut is = absurd (cc)
      by None lost (Some c) cut is = absurd (cc)

  pub some_loss : (l : BreakingLine) → loss_in s f ≡ Some l → IsLossless s f → ⊥
  some_loss l some quiet = by (find loses s.trace.losses) refl (find cuts s.trace.cuts) refl some
    where
      by : (a : Option LoseLine) → find loses s.trace.losses ≡ a → (c : Option CutLine) → find cuts s.trace.cuts ≡ c
          → option_or (option_map Lose a) (option_map Cut c) ≡ Some l → ⊥
      by None lost None cut is = absurd (cc)
      by (Some a) lost c cut is =
          false≢true (sym quiet.losses ∙ passes_somewhere loses loses s.trace.losses a lost (found_passes loses s.trace.losses a lost))
      by None lost (Some c) cut is =
          false≢true (sym quiet.cuts ∙ passes_somewhere cuts cuts s.trace.cuts c cut (found_passes cuts s.trace.cuts c cut))

module _ (s : ScenarioParts) (ratios : List RatioLine) (f : ℕ) where
  abbrev begun : LinkLine → Option RatioLine
  begun l = find (is_begun f l.from l.to) (reverse ratios)

  abbrev is_below : ℕ → Bool
  is_below r = nat_lt r CERTAIN

  -- a link that may lose has a line
  has_line : (l : LinkLine) (o : Option RatioLine) → option_map_or is_below (option_map (λ (x : RatioLine). x.ratio) o) false ≡ true → o ≡ None → ⊥
  has_line l None loses is = false≢true loses
  has_line l (Some x) loses is = absurd (cc)

  pub no_ratio : ratio_line s ratios f ≡ None → IsCertain s ratios f
  no_ratio none = by (find (may_lose ratios f) s.trace.links) refl none
    where
      at_link : list_any (may_lose ratios f) s.trace.links ≡ false → (u v r : ℕ) → is_linked s u v ≡ true → ratio_in ratios f u v ≡ Some r
          → (b : Bool) → is_below r ≡ b → CERTAIN ≤ r
      at_link nobody u v r linked is false below = ltb-false r CERTAIN below
      at_link nobody u v r linked is true below =
          absurd (false≢true (sym (none_weaker (may_lose ratios f) (is_link u v) loses s.trace.links nobody) ∙ linked))
        where
          loses : (l : LinkLine) → is_link u v l ≡ true → may_lose ratios f l ≡ true
          loses l own =
              let ends = and_parts (l.from == u) (l.to == v) own in
              ap (λ (w : ℕ). option_map_or is_below (ratio_in ratios f w l.to) false) (eqb-true l.from u ends.0)
              ∙ ap (λ (w : ℕ). option_map_or is_below (ratio_in ratios f u w) false) (eqb-true l.to v ends.1)
              ∙ ap (λ (o : Option ℕ). option_map_or is_below o false) is ∙ below

      by : (o : Option LinkLine) → find (may_lose ratios f) s.trace.links ≡ o → option_and_then begun o ≡ None → IsCertain s ratios f
      by None nobody is u v r linked ratio = at_link (none_found (may_lose ratios f) s.trace.links nobody) u v r linked ratio (is_below r) refl
      by (Some l) found is u v r linked ratio =
          absurd (has_line l (begun l) (found_passes (may_lose ratios f) s.trace.links l found) is)

  pub some_ratio : (m : RatioLine) → ratio_line s ratios f ≡ Some m → IsCertain s ratios f → ⊥
  some_ratio m some certain = by (find (may_lose ratios f) s.trace.links) refl some
    where
      at_link : (l : LinkLine) → is_linked s l.from l.to ≡ true → (o : Option ℕ) → ratio_in ratios f l.from l.to ≡ o → option_map_or is_below o false ≡ true → ⊥
      at_link l linked None is loses = false≢true loses
      at_link l linked (Some r) is loses =
          let low = ltb-true r CERTAIN loses in
          let high = certain l.from l.to r linked is in
          absurd (omega (arith, low, high))

      by : (o : Option LinkLine) → find (may_lose ratios f) s.trace.links ≡ o → option_and_then begun o ≡ Some m → ⊥
      by None nobody is = absurd (cc)
      by (Some l) found is =
          at_link l (passes_somewhere (may_lose ratios f) (is_link l.from l.to) s.trace.links l found (own_link l)) (ratio_in ratios f l.from l.to) refl
          (found_passes (may_lose ratios f) s.trace.links l found)
