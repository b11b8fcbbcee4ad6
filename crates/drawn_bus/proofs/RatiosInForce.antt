-- The bus depends on the ratios of the links that are there alone, and ratios of a whole million change nothing.
use Rattle.std.proofs.Common.{◌≡◌, ℕ, List, ◌++◌, Bool, true, false, ◌&&◌, ◌==◌, nat_le, filter, reverse, option_map, refl, sym, ◌∙◌, ap}
use Rattle.std.proofs.Math.Path.{fun_ext}
use Rattle.std.specs.List.{find, list_all, list_any}
use Rattle.std.proofs.lemmas.Bool.{and_parts, eqb-true}
use Rattle.std.proofs.lemmas.List.{map-id}
use Rattle.lwb_base.proofs.Truths.{and_false}
use Rattle.link_trace.specs.declared.lines.LinkLine.{LinkLine}
use Rattle.link_trace.specs.declared.lines.LoseLine.{LoseLine}
use Rattle.link_trace.specs.Passes.{is_link}
use Rattle.scenario_text.specs.ScenarioParts.{ScenarioParts}
use Rattle.bus_terms.specs.Bus.{bus_cost, bus_deliveries, bus_drops}
use Rattle.scenario_text.specs.OverLines.{over}
use Rattle.drawn_links.specs.Ratios.{is_begun, is_of_link, ratio_in}
use Rattle.drawn_links.specs.declared.ratio_line.RatioLine.{RatioLine}
use Rattle.drawn_links.proofs.DrawnByLinks.{full_ratios, same_losses}
use Rattle.drawn_links.proofs.LastOnes.{last_of_kept}
use Rattle.drawn_bus.specs.DrawnScenarios.{AreSameOnBus, drawn_scenario}

-- a scenario has what is the same
same_itself : (a b : ScenarioParts) → a ≡ b → AreSameOnBus a b
same_itself a b is = record { delivered = ap bus_deliveries is; dropped = ap bus_drops is; cost_each = λ v. ap (λ (s : ScenarioParts). bus_cost s v) is }

pub in_force_alike : (s : ScenarioParts) (ratios others : List RatioLine) (seed : ℕ)
    → ((f u v : ℕ) → list_any (is_link u v) s.trace.links ≡ true → ratio_in ratios f u v ≡ ratio_in others f u v)
    → AreSameOnBus (drawn_scenario s ratios seed) (drawn_scenario s others seed)
in_force_alike s ratios others seed same =
    same_itself (drawn_scenario s ratios seed) (drawn_scenario s others seed)
    (ap (λ (more : List LoseLine). over s (record s.trace { losses = s.trace.losses ++ more })) (same_losses s.trace.links ratios others seed s.frames same))

-- the line of a link that is there
abbrev pub is_of_links : List LinkLine → RatioLine → Bool
is_of_links links l = list_any (is_link l.from l.to) links

of_those : (links : List LinkLine) (ratios : List RatioLine) (f u v : ℕ) → list_any (is_link u v) links ≡ true
    → ratio_in (filter (is_of_links links) ratios) f u v ≡ ratio_in ratios f u v
of_those links ratios f u v there =
    ap (λ (ls : List RatioLine). option_map (λ (l : RatioLine). l.ratio) (find (is_begun f u v) (reverse ls)))
    (sym (map-id (filter (is_of_links links) ratios)))
    ∙ sym (last_of_kept (is_of_links links) (is_begun f u v) (λ l. l) (λ l. l.ratio) ratios)
    ∙ ap (λ (test : RatioLine → Bool). option_map (λ (l : RatioLine). l.ratio) (find test (reverse ratios))) (fun_ext both)
  where
    both : (l : RatioLine) → (is_of_links links l && is_begun f u v l) ≡ is_begun f u v l
    both l = by_test (is_begun f u v l) refl
      where
        by_test : (b : Bool) → is_begun f u v l ≡ b → (is_of_links links l && b) ≡ b
        by_test false is = and_false (is_of_links links l)
        by_test true is =
            let link = and_parts (l.from == u) (l.to == v) (and_parts (is_of_link u v l) (nat_le l.frame f) is).0 in
            ap (λ (b : Bool). b && true)
            (ap (λ (n : ℕ). list_any (is_link n l.to) links) (eqb-true l.from u link.0)
            ∙ ap (λ (n : ℕ). list_any (is_link u n) links) (eqb-true l.to v link.1) ∙ there)

pub of_links_alone : (s : ScenarioParts) (ratios : List RatioLine) (seed : ℕ)
    → AreSameOnBus (drawn_scenario s (filter (is_of_links s.trace.links) ratios) seed) (drawn_scenario s ratios seed)
of_links_alone s ratios seed =
    in_force_alike s (filter (is_of_links s.trace.links) ratios) ratios seed (λ f u v there. of_those s.trace.links ratios f u v there)

pub full_ratios_alone : (s : ScenarioParts) (ratios : List RatioLine) (seed : ℕ) → list_all (λ l. l.ratio == 1000000) ratios ≡ true
    → AreSameOnBus (drawn_scenario s ratios seed) s
full_ratios_alone s ratios seed full = same_itself (drawn_scenario s ratios seed) s (ap (over s) (full_ratios s.trace ratios seed s.frames full))
