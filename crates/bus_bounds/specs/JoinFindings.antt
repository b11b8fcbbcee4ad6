-- What is found of the nodes that join the first round after a boot of the host of rank 0: by their power, the lines of losses and ratios of
-- that round's frame, and the links.
use Rattle.std.specs.Prelude.{ℕ, ◌+◌, List, [], ◌∷◌, Bool, not, false, ◌&&◌, ◌||◌, ◌==◌, nat_lt, if◌then◌else◌, Option, Some, None, is_none}
use Rattle.std.specs.Prelude.{find, filter, flat_map, map, option_and_then, option_map, reverse, take}
use Rattle.std.specs.List.{list_any, range_with_len}
use Rattle.std.specs.Option.{option_map_or, option_or}
use Rattle.lwb_base.specs.declared.limits.TheConstants.{GREATEST_GAP, QUIET_FRAMES}
use Rattle.link_trace.specs.declared.lines.LinkLine.{LinkLine}
use Rattle.scenario_text.specs.ScenarioParts.{ScenarioParts}
use Rattle.bus_terms.specs.Distances.{walks}
use Rattle.bus_terms.specs.FloodOfText.{ids}
use Rattle.bus_terms.specs.Flooding.{STEPS}
use Rattle.drawn_links.specs.Ratios.{is_begun, ratio_in}
use Rattle.drawn_links.specs.declared.ratio_line.RatioLine.{RatioLine}
use Rattle.law_service.specs.Reach.{is_linked}
use Rattle.network_text.specs.declared.limits.TheConstants.{GREATEST_RATIO}
use Rattle.bus_bounds.specs.BoundFindings.{against_verdict, first_off, or_one}
use Rattle.bus_bounds.specs.PowerLines.{boots_in, last_line, power_lines}
use Rattle.bus_bounds.specs.declared.breaking_line.BreakingLine.{BreakingLine}
use Rattle.bus_bounds.specs.declared.breaking_line.BreakingLine.TheVariants.{Lose, Cut, Rated, Switch}
use Rattle.bus_bounds.specs.declared.finding.Bound.{Bound}
use Rattle.bus_bounds.specs.declared.finding.Bound.TheVariants.{Joined, Scanning}
use Rattle.bus_bounds.specs.declared.finding.Finding.{Finding}
use Rattle.bus_bounds.specs.declared.finding.Reason.{Reason}
use Rattle.bus_bounds.specs.declared.finding.Reason.TheVariants.{Boots, Loss, Power, Ratio, Reach, Rounds}
use Rattle.bus_bounds.specs.declared.finding.Verdict.{Verdict}
use Rattle.bus_bounds.specs.declared.finding.Verdict.TheVariants.{Broken, Holds, Open}
use Rattle.bus_bounds.specs.declared.power_line.PowerLine.{PowerLine}

-- the frame after the first round, counted from the boot
abbrev pub JOIN_FRAMES : ℕ
JOIN_FRAMES = QUIET_FRAMES + 1

-- a link of this ratio loses nothing: a million, in millionths
abbrev pub CERTAIN : ℕ
CERTAIN = GREATEST_RATIO

-- v boots in frame b or one of those up to the first round
abbrev pub boots_by : List PowerLine → ℕ → ℕ → Bool
boots_by ls b v = list_any (boots_in ls v) (range_with_len b (QUIET_FRAMES + 1))

-- and does not go off up to the frame after it
abbrev pub is_up : List PowerLine → ℕ → ℕ → Bool
is_up ls b v = is_none (first_off ls v b (b + JOIN_FRAMES)) && boots_by ls b v

-- the host, and those of the nodes that are up
abbrev pub nodes_up : List PowerLine → List ℕ → ℕ → ℕ → List ℕ
nodes_up ls nodes host b = filter (λ v. (v == host) || is_up ls b v) nodes

-- a walk of at most FLOOD_STEPS links, from one of these nodes to the next, leads from the host to v
abbrev pub is_reached : ScenarioParts → List ℕ → ℕ → ℕ → Bool
is_reached s among host v = list_any (λ links. walks (is_linked s) among host links v) (range_with_len 0 (STEPS + 1))

-- the first line that loses something in frame f, or else the first that cuts
abbrev pub loss_in : ScenarioParts → ℕ → Option BreakingLine
loss_in s f = option_or (option_map Lose (find (λ l. l.frame == f) s.trace.losses)) (option_map Cut (find (λ l. l.frame == f) s.trace.cuts))

-- the link has a ratio below a million in frame f
abbrev pub may_lose : List RatioLine → ℕ → LinkLine → Bool
may_lose ratios f l = option_map_or (λ r. nat_lt r CERTAIN) (ratio_in ratios f l.from l.to) false

-- the line by which the first such link has its ratio
abbrev pub ratio_line : ScenarioParts → List RatioLine → ℕ → Option RatioLine
ratio_line s ratios f = option_and_then (λ (l : LinkLine). find (is_begun f l.from l.to) (reverse ratios)) (find (may_lose ratios f) s.trace.links)

-- the premise is broken by the line, where there is one
abbrev pub unless_broken : Reason → Option BreakingLine → Verdict → Verdict
unless_broken reason (Some l) other = Broken reason l
unless_broken reason None other = other

-- the round's frame by its lines, and the way to v
abbrev pub round_verdict : ScenarioParts → List RatioLine → ℕ → ℕ → ℕ → ℕ → Verdict
round_verdict s ratios host b frames v =
    unless_broken Loss (loss_in s (b + QUIET_FRAMES))
    (unless_broken Ratio (option_map Rated (ratio_line s ratios (b + QUIET_FRAMES)))
    (if is_reached s (nodes_up (power_lines s.script) (ids s.nodes) host b) host v then Holds (b + JOIN_FRAMES) frames else Open Reach))

-- the power of the host and of v and the end of the run, and then what is said of the round
abbrev pub power_verdict : List PowerLine → ℕ → ℕ → ℕ → ℕ → Verdict → Verdict
power_verdict ls run host b v round =
    unless_broken Power (option_map Switch (first_off ls host b (b + JOIN_FRAMES)))
    (unless_broken Power (option_map Switch (first_off ls v b (b + JOIN_FRAMES)))
    (if boots_by ls b v then (if nat_lt (b + JOIN_FRAMES) run then round else Open Rounds) else against_verdict (last_line ls v (b + JOIN_FRAMES))))

abbrev pub join_verdict : ScenarioParts → List RatioLine → ℕ → ℕ → ℕ → ℕ → Verdict
join_verdict s ratios host b frames v = power_verdict (power_lines s.script) s.frames host b v (round_verdict s ratios host b frames v)

-- where the host never boots
abbrev pub never_boots_for : Bound → ℕ → Finding
never_boots_for bound v = record { bound = bound; node = v; frame = None; verdict = Open Boots }

-- of v after that boot, if there is one
abbrev pub join_finding : ScenarioParts → List RatioLine → ℕ → Bound → ℕ → ℕ → Option ℕ → Finding
join_finding s ratios host bound frames v None = never_boots_for bound v
join_finding s ratios host bound frames v (Some b) =
    record { bound = bound; node = v; frame = Some b; verdict = join_verdict s ratios host b frames v }

-- whether v is a member, and for how many frames it scans after each round with losses
abbrev pub of_node : ScenarioParts → List RatioLine → ℕ → Option ℕ → ℕ → List Finding
of_node s ratios host b v =
    join_finding s ratios host Joined JOIN_FRAMES v b ∷ join_finding s ratios host Scanning GREATEST_GAP v b ∷ []

-- the nodes but the host
abbrev pub others : ScenarioParts → ℕ → List ℕ
others s host = filter (λ v. not (v == host)) (ids s.nodes)

-- the frames in which the host boots and stays on, each as one that there is, or that there are none
abbrev pub boots_of : ScenarioParts → ℕ → List (Option ℕ)
boots_of s host = or_one None (map Some (filter (boots_in (power_lines s.script) host) (range_with_len 0 s.frames)))

-- after each boot of the host, each other node
abbrev pub joins_to : ScenarioParts → List RatioLine → ℕ → List Finding
joins_to s ratios host = flat_map (λ b. flat_map (of_node s ratios host b) (others s host)) (boots_of s host)

-- of the host of rank 0
abbrev pub join_findings : ScenarioParts → List RatioLine → List Finding
join_findings s ratios = flat_map (joins_to s ratios) (take 1 s.hosts)
