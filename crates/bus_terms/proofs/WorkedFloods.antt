-- Worked floods, computed from the definition.
use Rattle.std.proofs.Common.{◌≡◌, ℕ, List, [], ◌∷◌, refl, Option, Some, None, Bool, true, false, ◌==◌, ◌||◌, ◌&&◌, ◌+◌}
use Rattle.link_trace.specs.declared.lines.LinkLine.{LinkLine}
use Rattle.link_trace.specs.declared.lines.LoseLine.{LoseLine}
use Rattle.scenario_text.specs.FloodParts.{FloodParts}
use Rattle.scenario_text.specs.declared.lines.NodeLine.{NodeLine}
use Rattle.bus_terms.specs.Flooding.{Setting, moment, accepted, sendings}
use Rattle.bus_terms.specs.FloodOfText.{outcome}

node : ℕ → NodeLine
node v = record { node = v; offset = 0 }

link : ℕ → ℕ → LinkLine
link u v = record { from = u; to = v }

-- a line of three nodes, each of which sends at most twice
abbrev three : List LoseLine → FloodParts
three lost = record {
  sends = 2;
  nodes = node 1 ∷ node 2 ∷ node 3 ∷ [];
  rates = [];
  trace = record { links = link 1 2 ∷ link 2 1 ∷ link 2 3 ∷ link 3 2 ∷ []; losses = lost; cuts = []; captures = [] };
  start = 1;
}

three_in_a_line : outcome (three []) ≡ record { accepts = (2, 0) ∷ (3, 1) ∷ []; sent = 6 }
unfolding moment node link
three_in_a_line = refl

first_hop_lost : outcome (three (record { frame = 5; slot = 1; step = 0; from = 1; to = 2 } ∷ [])) ≡ record { accepts = []; sent = 1 }
unfolding moment node link
first_hop_lost = refl

-- four nodes of which two relay at once
equal_relays_at_once : outcome (record {
  sends = 1;
  nodes = node 1 ∷ node 2 ∷ node 3 ∷ node 4 ∷ [];
  rates = [];
  trace = record {
    links = link 1 2 ∷ link 2 1 ∷ link 1 3 ∷ link 3 1 ∷ link 2 3 ∷ link 3 2 ∷ link 2 4 ∷ link 4 2 ∷ link 3 4 ∷ link 4 3 ∷ [];
    losses = [];
    cuts = [];
    captures = [];
  };
  start = 1;
}) ≡ record { accepts = (2, 0) ∷ (3, 0) ∷ (4, 1) ∷ []; sent = 4 }
unfolding moment node link
equal_relays_at_once = refl

-- a line of fourteen nodes: the packet comes to the thirteenth in step 11, and no further
abbrev fourteen : Setting
fourteen = record {
  limit = 1;
  passes = λ k u v. (u + 1 == v) || (v + 1 == u);
  captured = λ k v. None;
  initiators = 1 ∷ [];
  everyone = 1 ∷ 2 ∷ 3 ∷ 4 ∷ 5 ∷ 6 ∷ 7 ∷ 8 ∷ 9 ∷ 10 ∷ 11 ∷ 12 ∷ 13 ∷ 14 ∷ [];
}

twelve_hops_at_most : (accepted fourteen 2 ≡ Some (1, 0)) × (accepted fourteen 13 ≡ Some (1, 11)) × (accepted fourteen 14 ≡ None) × (sendings fourteen ≡ 12)
unfolding moment
twelve_hops_at_most = (refl, refl, refl, refl)

-- two initiators at once: node 1 receives both, and nothing but by a capture line
abbrev contenders : (ℕ → ℕ → Bool) → Setting
contenders named = record {
  limit = 2;
  passes = λ k u v. (u == 1) || (v == 1);
  captured = λ k v. if_named (named k v);
  initiators = 2 ∷ 3 ∷ [];
  everyone = 1 ∷ 2 ∷ 3 ∷ [];
}
  where
    if_named : Bool → Option ℕ
    if_named true = Some 2
    if_named false = None

no_capture : accepted (contenders (λ k v. false)) 1 ≡ None
unfolding moment
no_capture = refl

with_capture : accepted (contenders (λ k v. (k == 0) && (v == 1))) 1 ≡ Some (2, 0)
unfolding moment
with_capture = refl
