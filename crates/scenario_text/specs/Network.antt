-- The lines that both texts have, and what is allowed of each of them after the lines above it.
use Rattle.std.specs.Prelude.{ℕ, ◌+◌, ℤ, pos, neg_ℤ, List, [], ◌∷◌, ◌++◌, Bool, true, not, ◌&&◌, ◌==◌, nat_lt, nat_le, if◌then◌else◌}
use Rattle.std.specs.Prelude.{Some, None, Option, is_none, length, drop, codes, reverse, filter, find, count_by, insert}
use Rattle.std.specs.List.{list_all, list_any, flat_map}
use Rattle.std.specs.Str.{bytes_eq}
use Rattle.std.specs.Option.{option_map_or}
use Rattle.lwb_base.specs.declared.limits.TheConstants.{DRIFT_BOUND, GREATEST_ID, MOST_NODES}
use Rattle.link_trace.specs.Order.{with_line as in_order_with, by_link, by_loss, by_cut, by_capture}
use Rattle.link_trace.specs.Passes.{Lines, is_link, is_loss, is_cut, is_capture}
use Rattle.link_trace.specs.Sealed.{no_lines}
use Rattle.scenario_text.specs.FloodParts.{knows}
use Rattle.text_readers.specs.Faults.{first_fault}
use Rattle.text_readers.specs.Words.{word, line_of_words, is_number, is_signed, has_minus, magnitude, number, number_at}
use Rattle.text_readers.specs.declared.fault.FaultKind.{FaultKind}
use Rattle.text_readers.specs.declared.fault.FaultKind.TheVariants.{Range, UnknownNode, Order, Twice, TooMany}
use Rattle.scenario_text.specs.declared.lines.NodeLine.{NodeLine}
use Rattle.scenario_text.specs.declared.lines.RateLine.{RateLine}
use Rattle.scenario_text.specs.declared.network_line.NetworkLine.{NetworkLine}
use Rattle.scenario_text.specs.declared.network_line.NetworkLine.TheVariants.{Sends, Node, Rate, Link, Pair}

-- what the words say, if they are those of such a line
unfoldable pub network_line : List (List ℕ) → Option NetworkLine
network_line ws =
    if bytes_eq (word ws 0) (codes "sends") then line_of_words 2 ws (Sends (number_at ws 1))
    else if bytes_eq (word ws 0) (codes "node") then line_of_words 3 ws (Node (number_at ws 1) (number_at ws 2))
    else if bytes_eq (word ws 0) (codes "rate")
    then line_of_words 4 ws (Rate (number_at ws 1) (number_at ws 2) (has_minus (word ws 3)) (number (magnitude (word ws 3))))
    else if bytes_eq (word ws 0) (codes "link") then line_of_words 3 ws (Link (number_at ws 1) (number_at ws 2))
    else if bytes_eq (word ws 0) (codes "pair") then line_of_words 3 ws (Pair (number_at ws 1) (number_at ws 2))
    else None

-- the numbers of the line are spelled right: only the last of a rate may have a `-`
abbrev pub network_numbers : NetworkLine → List (List ℕ) → Bool
network_numbers (Sends x) ws = list_all is_number (drop 1 ws)
network_numbers (Node i o) ws = list_all is_number (drop 1 ws)
network_numbers (Rate i t slow p) ws = is_number (word ws 1) && is_number (word ws 2) && is_signed (word ws 3)
network_numbers (Link u v) ws = list_all is_number (drop 1 ws)
network_numbers (Pair u v) ws = list_all is_number (drop 1 ws)

-- What the lines above say of these lines: the transmissions of a node, the nodes by id, the rates in the order of the text, the
-- trace, how many script lines there are, and the most that there may be
pub record DraftedNetwork : Type 0 where
  pub sends : Option ℕ
  pub nodes : List NodeLine
  pub rates : List RateLine
  pub trace : Lines
  pub scripted : ℕ
  pub most : ℕ

abbrev pub no_network : ℕ → DraftedNetwork
no_network most = record { sends = None; nodes = []; rates = []; trace = no_lines; scripted = 0; most = most }

abbrev pub is_id : ℕ → Bool
is_id i = nat_le 1 i && nat_le i GREATEST_ID

-- two ids that differ
abbrev pub are_ends : ℕ → ℕ → Bool
are_ends u v = is_id u && is_id v && not (u == v)

-- the numbers of the line are in their ranges: a tick is not above the last tick
abbrev pub numbers_in_range : ℕ → NetworkLine → Bool
numbers_in_range last (Sends n) = nat_le 1 n && nat_le n 4
numbers_in_range last (Node i o) = is_id i && nat_le o 256000
numbers_in_range last (Rate i t slow p) = is_id i && nat_le t last && nat_le p DRIFT_BOUND
numbers_in_range last (Link u v) = are_ends u v
numbers_in_range last (Pair u v) = are_ends u v

-- the ids of the line have lines above
abbrev pub knows_ids : DraftedNetwork → NetworkLine → Bool
knows_ids n (Sends x) = true
knows_ids n (Node i o) = true
knows_ids n (Rate i t slow p) = knows n.nodes i
knows_ids n (Link u v) = knows n.nodes u && knows n.nodes v
knows_ids n (Pair u v) = knows n.nodes u && knows n.nodes v

-- the last rate line of a node
abbrev pub last_rate : List RateLine → ℕ → Option RateLine
last_rate rates i = find (λ r. r.node == i) (reverse rates)

-- the rates of a node are given with ascending ticks
abbrev pub rates_in_order : DraftedNetwork → NetworkLine → Bool
rates_in_order n (Sends x) = true
rates_in_order n (Node i o) = true
rates_in_order n (Rate i t slow p) = option_map_or (λ r. nat_lt r.from t) (last_rate n.rates i) true
rates_in_order n (Link u v) = true
rates_in_order n (Pair u v) = true

abbrev pub has_link : Lines → ℕ → ℕ → Bool
has_link t u v = list_any (is_link u v) t.links

abbrev pub has_loss : Lines → ℕ → ℕ → ℕ → ℕ → ℕ → Bool
has_loss t f j k u v = list_any (is_loss f j k u v) t.losses

abbrev pub has_cut : Lines → ℕ → ℕ → ℕ → ℕ → Bool
has_cut t f j k i = list_any (is_cut f j k i) t.cuts

abbrev pub has_capture : Lines → ℕ → ℕ → ℕ → ℕ → Bool
has_capture t f j k a = list_any (is_capture f j k a) t.captures

-- no line above says the same
abbrev pub is_new : DraftedNetwork → NetworkLine → Bool
is_new n (Sends x) = is_none n.sends
is_new n (Node i o) = not (knows n.nodes i)
is_new n (Rate i t slow p) = true
is_new n (Link u v) = not (has_link n.trace u v)
is_new n (Pair u v) = not (has_link n.trace u v) && not (has_link n.trace v u)

-- a script line more is allowed
abbrev pub has_script_room : DraftedNetwork → Bool
has_script_room n = nat_lt n.scripted n.most

-- there are not too many nodes or script lines yet
abbrev pub has_room : DraftedNetwork → NetworkLine → Bool
has_room n (Sends x) = true
has_room n (Node i o) = nat_lt (length n.nodes) MOST_NODES
has_room n (Rate i t slow p) = has_script_room n
has_room n (Link u v) = true
has_room n (Pair u v) = true

-- the fault of the line, where its words and numbers are spelled right
abbrev pub network_fault : ℕ → DraftedNetwork → NetworkLine → Option FaultKind
network_fault last n l =
    first_fault
    ((numbers_in_range last l, Range) ∷ (knows_ids n l, UnknownNode) ∷ (rates_in_order n l, Order) ∷ (is_new n l, Twice) ∷ (has_room n l, TooMany) ∷ [])

-- a node among those with other ids, in the order of ids
abbrev pub with_node : NodeLine → List NodeLine → List NodeLine
with_node n ns = insert ns (count_by (λ m. nat_lt m.node n.node) ns) n

abbrev pub with_link_to : ℕ → ℕ → Lines → Lines
with_link_to u v t = record t { links = in_order_with by_link (record { from = u; to = v }) t.links }

abbrev pub with_loss_at : ℕ → ℕ → ℕ → ℕ → ℕ → Lines → Lines
with_loss_at f j k u v t = record t { losses = in_order_with by_loss (record { frame = f; slot = j; step = k; from = u; to = v }) t.losses }

abbrev pub with_cut_at : ℕ → ℕ → ℕ → ℕ → Lines → Lines
with_cut_at f j k i t = record t { cuts = in_order_with by_cut (record { frame = f; slot = j; step = k; node = i }) t.cuts }

abbrev pub with_capture_at : ℕ → ℕ → ℕ → ℕ → ℕ → Lines → Lines
with_capture_at f j k a b t = record t { captures = in_order_with by_capture (record { frame = f; slot = j; step = k; at = a; from = b }) t.captures }

-- by this many millionths fast, or slow
abbrev pub ppm : Bool → ℕ → ℤ
ppm slow p = if slow then neg_ℤ (pos p) else pos p

-- what the lines say with an allowed line more
abbrev pub with_network_line : DraftedNetwork → NetworkLine → DraftedNetwork
with_network_line n (Sends x) = record n { sends = Some x }
with_network_line n (Node i o) = record n { nodes = with_node (record { node = i; offset = o }) n.nodes }
with_network_line n (Rate i t slow p) = record n { rates = n.rates ++ record { node = i; from = t; ppm = ppm slow p } ∷ []; scripted = n.scripted + 1 }
with_network_line n (Link u v) = record n { trace = with_link_to u v n.trace }
with_network_line n (Pair u v) = record n { trace = with_link_to v u (with_link_to u v n.trace) }

-- a script line more, which changes the trace
abbrev pub with_script_line : DraftedNetwork → Lines → DraftedNetwork
with_script_line n t = record n { trace = t; scripted = n.scripted + 1 }

-- the rates of each node in turn, by tick
abbrev pub rates_by_node : List NodeLine → List RateLine → List RateLine
rates_by_node ns rs = flat_map (λ n. filter (λ r. r.node == n.node) rs) ns

-- what the lines say at the end
pub record Parts : Type 0 where
  pub sends : ℕ
  pub nodes : List NodeLine
  pub rates : List RateLine
  pub trace : Lines

-- with transmissions and two nodes at least
abbrev pub network_parts : DraftedNetwork → Option ℕ → Option Parts
network_parts d None = None
network_parts d (Some n) =
    if nat_le 2 (length d.nodes)
    then Some (record { sends = n; nodes = d.nodes; rates = rates_by_node d.nodes d.rates; trace = d.trace })
    else None
