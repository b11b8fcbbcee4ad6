-- Those drawn losses that change what somebody receives.
use Rattle.std.specs.Prelude.{◌≡◌, ℕ, List, ◌++◌, Bool, false, not, ◌&&◌, nat_eq, nat_le, filter, is_some}
use Rattle.std.specs.List.{list_any}
use Rattle.std.specs.Option.{option_eq, option_map_or}
use Rattle.lwb_base.specs.Messages.{Plan}
use Rattle.link_trace.specs.Passes.{Lines, passes}
use Rattle.link_trace.specs.declared.lines.LoseLine.{LoseLine}
use Rattle.scenario_text.specs.ScenarioParts.{ScenarioParts}
use Rattle.bus_rules.specs.Plans.{last_slot}
use Rattle.bus_terms.specs.Bus.{ranks_of, state_at}
use Rattle.bus_terms.specs.Flooding.{Setting, hears, moment}
use Rattle.bus_terms.specs.Rounds.{round_plan, slot_at}
use Rattle.drawn_links.specs.DrawnLosses.{drawn_losses}
use Rattle.drawn_links.specs.declared.ratio_line.RatioLine.{RatioLine}
use Rattle.drawn_bus.specs.DrawnScenarios.{drawn_scenario}

-- the flood of slot j of the round of this rank and frame
abbrev pub flood_in_round : ScenarioParts → ℕ → ℕ → Plan → ℕ → Setting
flood_in_round s rank f p j = (slot_at s rank f p (state_at s f) j).flood

-- the same flood over the links of these lines in slot j of frame f
abbrev pub flood_over : Lines → ℕ → ℕ → Setting → Setting
flood_over t f j x = record x { passes = λ k u v. passes t f j k u v }

-- after the same steps v receives something else in step k of one flood than in that of the other
abbrev pub receives_otherwise : Setting → Setting → ℕ → ℕ → Bool
receives_otherwise x y k v = not (option_eq nat_eq (hears x (moment x k) k v) (hears y (moment x k) k v))

-- in the round of this rank on the bus of d, the sender of the line transmits in its step, and the losses of d change what the
-- receiver receives in it: over the links of s it would receive something else
abbrev pub changes_reception : ScenarioParts → ScenarioParts → LoseLine → ℕ → Bool
changes_reception s d l rank =
    option_map_or
    (λ p.
    let x = flood_in_round d rank l.frame p l.slot in
    nat_le l.slot (last_slot p) && is_some ((moment x l.step).sends l.from)
    && receives_otherwise x (flood_over s.trace l.frame l.slot x) l.step l.to)
    (round_plan d rank l.frame (state_at d l.frame))
    false

-- the link of the line passes but for the line, and the losses of d in its step change what its receiver receives
abbrev pub is_kept : ScenarioParts → ScenarioParts → LoseLine → Bool
is_kept s d l = passes s.trace l.frame l.slot l.step l.from l.to && list_any (changes_reception s d l) (ranks_of s)

-- the drawn losses that are kept
abbrev pub kept_losses : ScenarioParts → List RatioLine → ℕ → List LoseLine
kept_losses s ratios seed = filter (is_kept s (drawn_scenario s ratios seed)) (drawn_losses s.trace.links ratios seed s.frames)

-- the lines of t are those of s with these losses more, in any order
pub record AddsLosses (s t : Lines) (more : List LoseLine) : Type 0 where
  pub links_stay : t.links ≡ s.links
  pub cuts_stay : t.cuts ≡ s.cuts
  pub captures_stay : t.captures ≡ s.captures
  pub same_losses : (test : LoseLine → Bool) → list_any test t.losses ≡ list_any test (s.losses ++ more)
