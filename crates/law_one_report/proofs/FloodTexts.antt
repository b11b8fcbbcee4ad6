-- What a flood text says is sound, and its starting node has an id.
use Rattle.std.proofs.Common.{◌≡◌, ℕ, ◌≤◌, List, true, Option, Some, None, Ok, Err, IfOk, IfSome, Result, refl, sym, subst, length, ◌+◌}
use Rattle.std.specs.Option.{ok_or}
use Rattle.std.specs.Str.Lines.{lines}
use Rattle.text_readers.specs.Faults.{draft_after_lines, in_line, ◌>>=◌}
use Rattle.text_readers.specs.Reading.{draft_after_line}
use Rattle.text_readers.specs.Words.{words}
use Rattle.text_readers.specs.declared.fault.FaultKind.{FaultKind}
use Rattle.text_readers.specs.declared.fault.FaultKind.TheVariants.{Range, Missing}
use Rattle.text_readers.proofs.AllowedLines.{passed, unless_keeps, spelled_keeps}
use Rattle.text_readers.proofs.LinesRead.{line_keeps, lines_keep}
use Rattle.scenario_text.specs.FloodDrafts.{IsFloodDraft}
use Rattle.scenario_text.specs.FloodGrammar.{Flood, rule_fault, with_flood_line, after_spelled, flood_after_words, flood_line, flood_numbers, no_flood}
use Rattle.scenario_text.specs.FloodGrammar.{flood_of_parts, whole_flood, flood_of}
use Rattle.scenario_text.specs.FloodParts.{FloodParts, IsSound, knows}
use Rattle.scenario_text.specs.Network.{Parts, network_parts, is_id}
use Rattle.scenario_text.specs.declared.flood_line.FloodLine.{FloodLine}
use Rattle.scenario_text.specs.declared.flood_line.FloodLine.TheVariants.{InNetwork, Lose, Start}
use Rattle.scenario_text.proofs.FloodKeeps.{text_sound, parts_sound, at_start}
use Rattle.scenario_text.proofs.SoundScenarios.{id_range}

abbrev pub StartsById : Flood → Type 0
StartsById f = IfSome f.start (λ i. is_id i ≡ true)

line_starts : (f : Flood) (l : FloodLine) → StartsById f → rule_fault f l ≡ None → StartsById (with_flood_line f l)
line_starts f (InNetwork l) id none = id
line_starts f (Lose k u v) id none = id
line_starts f (Start i) id none = (passed (is_id i) Range _ none).0

words_start : (f : Flood) (ws : List (List ℕ)) → StartsById f → IfOk (flood_after_words f ws) StartsById
unfolding flood_after_words
words_start f ws id =
    spelled_keeps StartsById (flood_line ws) (λ (l : FloodLine). flood_numbers l ws) (after_spelled f)
    (λ l is. unless_keeps StartsById (rule_fault f l) (with_flood_line f l) (λ none. line_starts f l id none))

text_starts : (f : Flood) (ls : List (List ℕ)) → draft_after_lines (draft_after_line flood_after_words) 1 no_flood ls ≡ Ok f → StartsById f
text_starts f ls is =
    lines_keep StartsById (draft_after_line flood_after_words)
    (λ d line id. line_keeps StartsById flood_after_words d line id (words_start d (words line) id)) 1 no_flood f ls tt is

-- sound, and started by a node with an id
abbrev pub IsWhole : FloodParts → Type 0
IsWhole f = IsSound f × (1 ≤ f.start) × (f.start ≤ 200)

by_parts : (d : Flood) (f : FloodParts) → IsFloodDraft d → StartsById d → (o : Option Parts) → network_parts d.network d.network.sends ≡ o → (q : Option ℕ)
    → d.start ≡ q → ok_or (flood_of_parts o q) Missing ≡ Ok f → IsWhole f
by_parts d f sound id None at q start is = cc
by_parts d f sound id (Some p) at None start is = cc
by_parts d f sound id (Some p) at (Some s) start is =
    let same : record { sends = p.sends; nodes = p.nodes; rates = p.rates; trace = p.trace; start = s } ≡ f = cc in
    let known = at_start (λ i. knows d.network.nodes i ≡ true) d.start s start sound.start_known in
    let range = id_range s (at_start (λ i. is_id i ≡ true) d.start s start id) in
    subst IsWhole same (parts_sound d.network d.network.sends p s sound.network sound.network.sends known (sym at), range.0, range.1)

by_draft : (n : ℕ) (d : Flood) (f : FloodParts) → IsFloodDraft d → StartsById d → in_line n (whole_flood d) ≡ Ok f → IsWhole f
by_draft n d f sound id is = by_finish (whole_flood d) refl is
  where
    by_finish : (r : Result FloodParts FaultKind) → whole_flood d ≡ r → in_line n r ≡ Ok f → IsWhole f
    by_finish (Ok g) at is =
        let same : g ≡ f = cc in
        subst IsWhole same (by_parts d g sound id (network_parts d.network d.network.sends) refl d.start refl at)
    by_finish (Err k) at is = cc

pub flood_is_whole : (b : List ℕ) (f : FloodParts) → flood_of b ≡ Ok f → IsWhole f
flood_is_whole b f is = by_lines (draft_after_lines (draft_after_line flood_after_words) 1 no_flood (lines b)) refl is
  where
    by_lines : (r : Result Flood (ℕ × FaultKind)) → draft_after_lines (draft_after_line flood_after_words) 1 no_flood (lines b) ≡ r
        → (r >>= λ d. in_line (length (lines b) + 1) (whole_flood d)) ≡ Ok f → IsWhole f
    by_lines (Ok d) at is = by_draft (length (lines b) + 1) d f (text_sound d (lines b) at) (text_starts d (lines b) at) is
    by_lines (Err e) at is = cc
