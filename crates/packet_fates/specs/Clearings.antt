-- When the queues of streams are emptied.
use Rattle.std.specs.Prelude.{◌≡◌, ℕ, List, [], ◌∷◌, Bool, ◌==◌, ◌&&◌, find, option_map}
use Rattle.std.specs.List.{cons_option}
use Rattle.std.specs.Option.{option_or}
use Rattle.std.specs.Ordering.{nat_cmp, ordering_then}
use Rattle.std.specs.declared.cmp.Ordering.{Ordering}
use Rattle.std.specs.declared.option.Option.{Option}
use Rattle.std.specs.BTreeMap.{get}
use Rattle.scenario_text.specs.declared.script.ScriptLine.{ScriptLine}
use Rattle.bus_rules.specs.States.{put_stream}
use Rattle.bus_terms.specs.Fates.{empties}
use Rattle.packet_fates.specs.declared.emptyings.Emptyings.{Emptyings}

-- a line that empties the queue of stream i of node v
abbrev pub empties_queue : ℕ → ℕ → ScriptLine → Bool
empties_queue v i l = (l.node == v) && empties i l.act

-- the frame of the first of these lines that does
abbrev pub cleared_in : ℕ → ℕ → List ScriptLine → Option ℕ
cleared_in v i ls = option_map (λ l. l.frame) (find (empties_queue v i) ls)

-- of what a line puts, with the lines below it
abbrev pub clearing_below : ScriptLine → List ScriptLine → Option (Option ℕ)
clearing_below l below = option_map (λ i. cleared_in l.node i below) (put_stream l.act)

-- of what each put line puts
abbrev pub put_clearings : List ScriptLine → List (Option ℕ)
put_clearings [] = []
put_clearings (l ∷ below) = cons_option (clearing_below l below) (put_clearings below)

abbrev pub queue_cmp : ℕ × ℕ → ℕ × ℕ → Ordering
queue_cmp x y = ordering_then (nat_cmp x.0 y.0) (nat_cmp x.1 y.1)

-- by what is known of the lines below
abbrev pub next_emptying : Emptyings → ℕ → ℕ → Option ℕ
next_emptying e v i = option_or (get queue_cmp e.leaves (v, i)) (get nat_cmp e.offs v)

abbrev pub AreNext : List ScriptLine → Emptyings → Type 0
AreNext below e = (v i : ℕ) → next_emptying e v i ≡ cleared_in v i below
