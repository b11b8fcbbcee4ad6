-- The masks of the nodes to which transmissions come.
use Rattle.std.proofs.Common.{◌≡◌, ℕ, ◌<◌, ◌↔◌, List, [], ◌∷◌, Bool, true}
use Rattle.std.proofs.Common.{◌==◌, length, get_or, map, sym, ◌∙◌, ap, subst, arith, Contains, AllPairs}
use Rattle.std.proofs.lemmas.Bool.{eqb-true}
use Rattle.std.proofs.lemmas.List.{length-map, get_or-map, get_or_default}
use Rattle.std.proofs.lemmas.List.Elements.{All-contains}
use Rattle.lwb_base.proofs.Elements.{some_of}
use Rattle.link_trace.specs.Masks.{AreNodes}
use Rattle.link_trace.specs.Passes.{Lines}
use Rattle.link_trace.specs.declared.lines.LinkLine.{LinkLine}
use Rattle.scenario_text.specs.ScenarioFacts.{AreEnds}
use Rattle.scenario_text.specs.ScenarioGrammar.{IsScenario}
use Rattle.scenario_text.specs.ScenarioParts.{ScenarioParts}
use Rattle.scenario_text.specs.declared.lines.NodeLine.{NodeLine}
use Rattle.scenario_text.proofs.SoundScenarios.{sound, sound_lines}
use Rattle.radio_model.specs.Hearing.{Scene, HearsInScene, TunedThrough}
use Rattle.radio_model.specs.OnAir.{Sending}
use Rattle.radio_model.specs.Reaches.{HoldSame, IsAmong, IsReceivedBy}
use Rattle.air_check.specs.Indexes.{IsSearchable}
use Rattle.air_check.specs.declared.index.Index.{Index}
use Rattle.air_check.proofs.MissingOnes.{link_between}

abbrev id_of : NodeLine → ℕ
id_of n = n.node

ids_rise : (ns : List NodeLine) → AllPairs (λ a b. a.node < b.node) ns → AllPairs (λ a b. a < b) (map id_of ns)
ids_rise [] rise i j d before within = absurd (omega (arith, within))
ids_rise (n ∷ ns) rise i j d before within =
    let size = length-map (n ∷ ns) id_of in
    let below : j < length (n ∷ ns) = omega (arith, within, size) in
    let first = get_or-map id_of (n ∷ ns) i n d (omega (arith, before, below)) in
    let second = get_or-map id_of (n ∷ ns) j n d below in
    let so = rise i j n before below in
    omega (arith, first, second, so)

-- a trace is sealed with the ids of a scenario
pub ids_seal : (s : ScenarioParts) (ids : List ℕ) → IsScenario s → ids ≡ map (λ n. n.node) s.nodes → AreNodes ids
ids_seal s ids said is =
    let all = sound s said in
    let size = length-map s.nodes id_of in
    let some = all.two_nodes in
    let few = all.few_nodes in
    subst AreNodes (sym is) (record {
      some = omega (arith, some, size);
      few = omega (arith, few, size);
      ascending = ids_rise s.nodes all.ascending;
    })

id_there : (ns : List NodeLine) (n : NodeLine) → Contains ns n → Contains (map id_of ns) n.node
id_there ns n (k, below, at) =
    (k, omega (arith, below, length-map ns id_of), get_or-map id_of ns k n n.node below ∙ ap id_of at)

-- who receives something is a node
pub receiver_known : (s : ScenarioParts) (ids : List ℕ) → IsScenario s → ids ≡ map (λ n. n.node) s.nodes → (a : Scene) → a.lines ≡ s.trace
    → (v : ℕ) (x : Sending) → HearsInScene a v x → Contains ids v
receiver_known s ids said is a lines v x hears =
    let l = link_between a.lines _ _ _ x.node v hears.arrives in
    let there = subst (λ (t : Lines). Contains t.links l.0) lines l.1 in
    let ends = All-contains (λ (k : LinkLine). AreEnds s.nodes k.from k.to) s.trace.links l.0 (sound_lines s said).links there in
    let w = some_of (λ (n : NodeLine). n.node == l.0.to) s.nodes ends.to_known in
    subst (λ (u : ℕ). Contains ids u) (eqb-true w.0.node l.0.to w.2 ∙ l.3)
    (subst (λ (us : List ℕ). Contains us w.0.node) (sym is) (id_there s.nodes w.0 w.1))

-- the mask at a place is that of its transmission
pub mask_at : (s : ScenarioParts) (i : Index) → IsSearchable s i → (place : ℕ) → place < length i.sent.items → (d : Sending) (mask : ℕ)
    → mask ≡ get_or i.receivers.items place mask → IsReceivedBy s.profile s.trace i.nodes.items i.sent.items (get_or i.sent.items place d) mask
mask_at s i is place below d mask at =
    let inside : place < length i.receivers.items = omega (arith, below, is.receivers.one_each) in
    subst (λ (m : ℕ). IsReceivedBy s.profile s.trace i.nodes.items i.sent.items (get_or i.sent.items place d) m)
    (sym (at ∙ get_or_default i.receivers.items place mask 0 inside)) (is.receivers.each place d below)

-- by the mask of a transmission
module _ (s : ScenarioParts) (nodes : List ℕ) (said : IsScenario s) (ids : nodes ≡ map (λ n. n.node) s.nodes) (sent : List Sending) (x : Sending)
    (v mask : ℕ) (is : IsReceivedBy s.profile s.trace nodes sent x mask) (among : Bool) (so : (among ≡ true) ↔ IsAmong nodes mask v)
    (a : Scene) (numbers : a.numbers ≡ s.profile) (lines : a.lines ≡ s.trace) (same : HoldSame a.sendings sent) where
  pub hears : among ≡ true → TunedThrough a v x → HearsInScene a v x
  hears among_so tuned =
      let is_in = so.0 among_so in
      (is a v numbers lines same (is_in.place, is_in.below, get_or_default nodes is_in.place v 0 is_in.below ∙ is_in.node) tuned).0 is_in

  pub is_in_mask : HearsInScene a v x → among ≡ true
  is_in_mask heard = so.1 ((is a v numbers lines same (receiver_known s nodes said ids a lines v x heard) heard.tuned).1 heard)
